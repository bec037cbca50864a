-- What holds of each item of a list holds of one, and an item of a numbered list has its number; a goroutine where it stands, what it names and wants there, and its mode.
use Rattle.std.proofs.Common.{◌≡◌, ℕ, zero, suc, ◌+◌, ◌-◌, arith, subst, sym, List, [], ◌∷◌, refl, ap, slice_get, None, Some, option_map, Bool, true, false, eqb-true, ◌||◌, IsSomeAnd, IsTrue, ◌∙◌, Option}
use Rattle.std.specs.List.{All, list_any, list_all, enumerate_from}
use Rattle.std.proofs.lemmas.Bool.{and_parts, or_left, or_right}
use Rattle.gt_model.specs.declared.script.Script.{Script}
use Rattle.gt_model.specs.declared.script.Instr.{Instr}
use Rattle.gt_model.specs.declared.state.Goroutine.{Goroutine}
use Rattle.gt_model.specs.declared.state.Mode.{Mode}
use Rattle.gt_model.specs.Tables.{numbered}
use Rattle.gt_rules.specs.State.{State, goroutine_at, mode_of, stands, stands_at, until_of, sleeps_until}
use Rattle.gt_model.specs.Script.{instr_at, is_chan, is_mutex, is_wg, what_at, names_timer, names_chan, names_mutex, names_wg, named_form, can_end}
use Rattle.gt_model.specs.declared.script.What.{What}
use Rattle.gt_model.specs.declared.script.Func.{Func}
use Rattle.gt_model.specs.declared.script.Place.{Place}
use Rattle.gt_model.specs.Good.{IsGood, IsGoodCode, NamesRightly, OperatesRightly, gives_values}
use Rattle.gt_model.proofs.GoodCode.{all_at}
use Rattle.gt_model.specs.declared.script.Case.{Case}
use Rattle.gt_model.specs.declared.script.CaseKind.{CaseKind}
use Rattle.gt_rules.specs.Operations.{operation, receives_from, sends_to, offers}
use Rattle.gt_model.specs.declared.entry.Party.{Party}
use Rattle.gt_rules.specs.Legal.{Does, Operates, operation_at}

pub all-item : {X : Type 0} (p : X → Bool) (xs : List X) (i : ℕ) (x : X) → slice_get xs i ≡ Some x → list_all p xs ≡ true → p x ≡ true
all-item p [] i x e h = cc
all-item p (y ∷ xs) zero x e h =
    let is : y ≡ x = cc in
    rw (← is) (and_parts (p y) (list_all p xs) h).0
all-item p (y ∷ xs) (suc i) x e h = all-item p xs i x e (and_parts (p y) (list_all p xs) h).1

pub any-item : {X : Type 0} (p : X → Bool) (xs : List X) (i : ℕ) (x : X) → slice_get xs i ≡ Some x → p x ≡ true → list_any p xs ≡ true
any-item p [] i x e h = cc
any-item p (y ∷ xs) zero x e h =
    let is : y ≡ x = cc in
    rw is (rw h refl)
any-item p (y ∷ xs) (suc i) x e h =
    elim (p y) as (λ b. (b || list_any p xs) ≡ true) [ true ↦ refl | false ↦ any-item p xs i x e h ]

pub any-numbered : {X : Type 0} (p : X → Bool) (xs : List X) (g : ℕ) (x : X) → numbered xs g ≡ Some x → p x ≡ true → list_any p xs ≡ true
any-numbered p xs zero x e h = cc
any-numbered p xs (suc i) x e h = any-item p xs i x e h

-- what a list has at a place, its numbered list has there beside its number
pub enumerated_at : {X : Type 0} (n : ℕ) (xs : List X) (i : ℕ) (x : X) → slice_get xs i ≡ Some x → slice_get (enumerate_from n xs) i ≡ Some (n + i, x)
enumerated_at n [] i x e = cc
enumerated_at n (y ∷ xs) zero x e =
    let same : y ≡ x = cc in
    let here : n ≡ n + 0 = omega arith in
    rw (same, ← here) refl
enumerated_at n (y ∷ xs) (suc i) x e =
    let here : (n + 1) + i ≡ n + suc i = omega arith in
    rw (← here) (enumerated_at (n + 1) xs i x e)

-- the same by numbers, from 1
enumerated_numbered : {X : Type 0} (xs : List X) (g : ℕ) (x : X) → numbered xs g ≡ Some x → slice_get (enumerate_from 1 xs) (g - 1) ≡ Some (g, x)
enumerated_numbered xs zero x e = cc
enumerated_numbered xs (suc i) x e =
    let place : suc i - 1 ≡ i = omega arith in
    let number : 1 + i ≡ suc i = omega arith in
    rw place (subst (λ (m : ℕ). slice_get (enumerate_from 1 xs) i ≡ Some (m, x)) number (enumerated_at 1 xs i x e))

pub any-enumerated : {X : Type 0} (p : ℕ × X → Bool) (xs : List X) (g : ℕ) (x : X) → numbered xs g ≡ Some x → p (g, x) ≡ true → list_any p (enumerate_from 1 xs) ≡ true
any-enumerated p xs g x e h = any-item p (enumerate_from 1 xs) (g - 1) (g, x) (enumerated_numbered xs g x e) h

pub all-enumerated : {X : Type 0} (p : ℕ × X → Bool) (xs : List X) (g : ℕ) (x : X) → numbered xs g ≡ Some x → list_all p (enumerate_from 1 xs) ≡ true → p (g, x) ≡ true
all-enumerated p xs g x e h = all-item p (enumerate_from 1 xs) (g - 1) (g, x) (enumerated_numbered xs g x e) h

-- an item that passes a test with its number, where the first one has the number n
record Passes {X : Type 0} (p : ℕ × X → Bool) (n : ℕ) (xs : List X) : Type 0 where
  pub place : ℕ
  pub item : X
  pub there : slice_get xs place ≡ Some item
  pub passes : p (n + place, item) ≡ true

passes : {X : Type 0} (p : ℕ × X → Bool) (n : ℕ) (xs : List X) → list_any p (enumerate_from n xs) ≡ true → Passes p n xs
passes p n [] h = cc
passes {X} p n (x ∷ xs) h =
    elim (p (n, x)) as (λ b. p (n, x) ≡ b → (b || list_any p (enumerate_from (n + 1) xs)) ≡ true → Passes p n (x ∷ xs)) [
      | true ↦ λ e k.
          let here : n ≡ n + 0 = omega arith in
          record { place = 0; item = x; there = refl; passes = subst (λ (m : ℕ). p (m, x) ≡ true) here e }
      | false ↦ λ e k.
          let rest : Passes p (n + 1) xs = passes p (n + 1) xs k in
          let here : (n + 1) + rest.place ≡ n + suc rest.place = omega arith in
          record { place = suc rest.place; item = rest.item; there = rest.there; passes = subst (λ (m : ℕ). p (m, rest.item) ≡ true) here rest.passes }
    ] refl h

-- an item that passes a test with its number, from 1
pub record Found {X : Type 0} (p : ℕ × X → Bool) (xs : List X) : Type 0 where
  pub number : ℕ
  pub item : X
  pub there : numbered xs number ≡ Some item
  pub passes : p (number, item) ≡ true

pub found : {X : Type 0} (p : ℕ × X → Bool) (xs : List X) → list_any p (enumerate_from 1 xs) ≡ true → Found p xs
found p xs h =
    let one : Passes p 1 xs = passes p 1 xs h in
    let here : 1 + one.place ≡ suc one.place = omega arith in
    record { number = suc one.place; item = one.item; there = one.there; passes = subst (λ (m : ℕ). p (m, one.item) ≡ true) here one.passes }

-- a goroutine that stands at an instruction
pub record Standing (script : Script) (s : State) (g : ℕ) (i : Instr) : Type 0 where
  pub who : Goroutine
  pub there : goroutine_at s g ≡ Some who
  pub at : who.mode ≡ Mode.At
  pub on : instr_at script who.place ≡ Some i

stands-at : (script : Script) (r : Goroutine) (i : Instr) → stands script r ≡ Some i → r.mode ≡ Mode.At
stands-at script r i e =
    elim r.mode as (λ m. (elim m [ Mode.At ↦ instr_at script r.place | _ ↦ None ]) ≡ Some i → m ≡ Mode.At) [
      | Mode.At ↦ λ q. refl
      | _ ↦ λ q. cc
    ] e

stands-on : (script : Script) (r : Goroutine) (i : Instr) → stands script r ≡ Some i → instr_at script r.place ≡ Some i
stands-on script r i e =
    elim r.mode as (λ m. (elim m [ Mode.At ↦ instr_at script r.place | _ ↦ None ]) ≡ Some i → instr_at script r.place ≡ Some i) [
      | Mode.At ↦ λ q. q
      | _ ↦ λ q. cc
    ] e

pub standing : (script : Script) (s : State) (g : ℕ) (i : Instr) → stands_at script s g ≡ Some i → Standing script s g i
standing script s g i e =
    elim (goroutine_at s g) as (λ o. goroutine_at s g ≡ o → (elim o [ None ↦ None | Some r ↦ stands script r ]) ≡ Some i → Standing script s g i) [
      | None ↦ λ p q. cc
      | Some r ↦ λ p q. record { who = r; there = p; at = stands-at script r i q; on = stands-on script r i q }
    ] refl e

-- an instruction in the code of a good script names what it may
pub names-instr_at : (script : Script) (p : Place) (i : Instr) → IsGood script → instr_at script p ≡ Some i → NamesRightly script i
names-instr_at script p i good e =
    elim (slice_get script.funcs p.func) as (λ o. slice_get script.funcs p.func ≡ o
    → slice_get (elim o [ None ↦ [] | Some func ↦ func.code ]) p.at ≡ Some i → NamesRightly script i) [
      | None ↦ λ found at. cc
      | Some func ↦ λ found at.
          let code : IsGoodCode script func.code = all_at (λ (f : Func). IsGoodCode script f.code) script.funcs p.func func good.code found in
          (code.each p.at i at).names
    ] refl e

pub names-Does : (script : Script) (s : State) (g : ℕ) (i : Instr) → IsGood script → Does script s g i → NamesRightly script i
names-Does script s g i good does =
    let stands : Standing script s g i = standing script s g i does.stands in
    names-instr_at script stands.who.place i good stands.on

-- an item that passes a test
pub record HasAny {X : Type 0} (p : X → Bool) (xs : List X) : Type 0 where
  pub place : ℕ
  pub item : X
  pub there : slice_get xs place ≡ Some item
  pub passes : p item ≡ true

pub any-has : {X : Type 0} (p : X → Bool) (xs : List X) → list_any p xs ≡ true → HasAny p xs
any-has p [] h = cc
any-has p (x ∷ xs) h =
    elim (p x) as (λ b. p x ≡ b → (b || list_any p xs) ≡ true → HasAny p (x ∷ xs)) [
      | true ↦ λ e k. record { place = 0; item = x; there = refl; passes = e }
      | false ↦ λ e k. let rest : HasAny p xs = any-has p xs k in record { place = suc rest.place; item = rest.item; there = rest.there; passes = rest.passes }
    ] refl h

-- an operation of an instruction that passes a test, under its case number
pub record Offered (i : Instr) (test : CaseKind → Bool) : Type 0 where
  pub case_no : ℕ
  pub kind : CaseKind
  pub has : operation i case_no ≡ Some kind
  pub passes : test kind ≡ true

pub offered : (i : Instr) (test : CaseKind → Bool) → offers test i ≡ true → Offered i test
offered (Instr.Recv o) test h = record { case_no = 0; kind = CaseKind.Recv o; has = refl; passes = h }
offered (Instr.Send c v) test h = record { case_no = 0; kind = CaseKind.Send c v; has = refl; passes = h }
offered (Instr.Select cases default_to) test h =
    let one : HasAny (λ (c : Case). test c.kind) cases = any-has (λ (c : Case). test c.kind) cases h in
    record { case_no = suc one.place; kind = one.item.kind; has = ap (option_map (λ (c : Case). c.kind)) one.there; passes = one.passes }
offered (Instr.Lock m) test h = record { case_no = 0; kind = CaseKind.Recv m; has = refl; passes = h }
offered (Instr.Wait w) test h = record { case_no = 0; kind = CaseKind.Recv w; has = refl; passes = h }
offered _ test h = cc

-- the case that has a number
pub record IsCase (cases : List Case) (k : ℕ) (kind : CaseKind) : Type 0 where
  pub item : Case
  pub there : slice_get cases k ≡ Some item
  pub its : item.kind ≡ kind

pub is-case : (cases : List Case) (k : ℕ) (kind : CaseKind) → option_map (λ (c : Case). c.kind) (slice_get cases k) ≡ Some kind → IsCase cases k kind
is-case cases k kind e =
    elim (slice_get cases k) as (λ o. slice_get cases k ≡ o → option_map (λ (c : Case). c.kind) o ≡ Some kind → IsCase cases k kind) [
      | None ↦ λ there h. cc
      | Some c ↦ λ there h. record { item = c; there = there; its = cc }
    ] refl e

-- What holds of each operation of an instruction, at a choice of each case: it holds of the one under a number. So too of one that passes a test
pub operation-any : (test : CaseKind → Bool) (cases : List Case) (k : ℕ) (kind : CaseKind) → option_map (λ (c : Case). c.kind) (slice_get cases k) ≡ Some kind → test kind ≡ true
    → list_any (λ (c : Case). test c.kind) cases ≡ true
operation-any test cases k kind e h =
    let one : IsCase cases k kind = is-case cases k kind e in
    any-item (λ (c : Case). test c.kind) cases k one.item one.there (subst (λ kind. test kind ≡ true) (sym one.its) h)

pub operation-all : (P : CaseKind → Type 0) (cases : List Case) (k : ℕ) (kind : CaseKind) → option_map (λ (c : Case). c.kind) (slice_get cases k) ≡ Some kind
    → All (λ (c : Case). P c.kind) cases → P kind
operation-all P cases k kind e all =
    let one : IsCase cases k kind = is-case cases k kind e in
    subst P one.its (all_at (λ (c : Case). P c.kind) cases k one.item all one.there)

pub offers-operation : (test : CaseKind → Bool) (i : Instr) (n : ℕ) (kind : CaseKind) → operation i n ≡ Some kind → test kind ≡ true → offers test i ≡ true
offers-operation test (Instr.Recv o) zero kind e h = let is : CaseKind.Recv o ≡ kind = cc in subst (λ kind. test kind ≡ true) (sym is) h
offers-operation test (Instr.Recv o) (suc k) kind e h = cc
offers-operation test (Instr.Send c v) zero kind e h = let is : CaseKind.Send c v ≡ kind = cc in subst (λ kind. test kind ≡ true) (sym is) h
offers-operation test (Instr.Send c v) (suc k) kind e h = cc
offers-operation test (Instr.Select cases default_to) zero kind e h = cc
offers-operation test (Instr.Select cases default_to) (suc k) kind e h = operation-any test cases k kind e h
offers-operation test (Instr.Lock m) zero kind e h = let is : CaseKind.Recv m ≡ kind = cc in subst (λ kind. test kind ≡ true) (sym is) h
offers-operation test (Instr.Lock m) (suc k) kind e h = cc
offers-operation test (Instr.Wait w) zero kind e h = let is : CaseKind.Recv w ≡ kind = cc in subst (λ kind. test kind ≡ true) (sym is) h
offers-operation test (Instr.Wait w) (suc k) kind e h = cc
offers-operation test _ n kind e h = cc

-- what an operation may name: a receive gives a value, or is a lock or a wait
abbrev pub NamesObject : Script → CaseKind → Type 0
NamesObject script (CaseKind.Recv o) = IsTrue (gives_values script o || (is_mutex script o || is_wg script o))
NamesObject script (CaseKind.Send c v) = IsTrue (is_chan script c)

names-case : (script : Script) (kind : CaseKind) → OperatesRightly script kind → NamesObject script kind
names-case script (CaseKind.Recv o) h = or_left (gives_values script o) (is_mutex script o || is_wg script o) h
names-case script (CaseKind.Send c v) h = h

-- the operation of a party is named rightly
pub names-operation : (script : Script) (i : Instr) (n : ℕ) (kind : CaseKind) → operation i n ≡ Some kind → NamesRightly script i → NamesObject script kind
names-operation script (Instr.Recv o) zero kind e names = let is : CaseKind.Recv o ≡ kind = cc in subst (NamesObject script) is (names-case script (CaseKind.Recv o) names)
names-operation script (Instr.Recv o) (suc k) kind e names = cc
names-operation script (Instr.Send c v) zero kind e names = let is : CaseKind.Send c v ≡ kind = cc in subst (NamesObject script) is names
names-operation script (Instr.Send c v) (suc k) kind e names = cc
names-operation script (Instr.Select cases default_to) zero kind e names = cc
names-operation script (Instr.Select cases default_to) (suc k) kind e names = names-case script kind (operation-all (OperatesRightly script) cases k kind e names.each)
names-operation script (Instr.Lock m) zero kind e names =
    let is : CaseKind.Recv m ≡ kind = cc in
    subst (NamesObject script) is (or_right (gives_values script m) (is_mutex script m || is_wg script m) (or_left (is_mutex script m) (is_wg script m) names))
names-operation script (Instr.Lock m) (suc k) kind e names = cc
names-operation script (Instr.Wait w) zero kind e names =
    let is : CaseKind.Recv w ≡ kind = cc in
    subst (NamesObject script) is (or_right (gives_values script w) (is_mutex script w || is_wg script w) (or_right (is_mutex script w) (is_wg script w) names))
names-operation script (Instr.Wait w) (suc k) kind e names = cc
names-operation script _ n kind e names = cc

-- ---- a lock is the only receive of a mutex, and a wait that of a WaitGroup

no-value_mutex : (w : Option What) → IsTrue (names_timer w || names_chan w || can_end (named_form w)) → IsTrue (names_mutex w) → ⊥
no-value_mutex (Some What.Mutex) h mutex = cc
no-value_mutex _ h mutex = cc

no-value_wg : (w : Option What) → IsTrue (names_timer w || names_chan w || can_end (named_form w)) → IsTrue (names_wg w) → ⊥
no-value_wg (Some What.Wg) h wg = cc
no-value_wg _ h wg = cc

no-mutex_wg : (w : Option What) → IsTrue (names_mutex w) → IsTrue (names_wg w) → ⊥
no-mutex_wg (Some What.Mutex) mutex wg = cc
no-mutex_wg _ mutex wg = cc

-- a receive of an object that gives no value is plain, and no case of a choice
pub record IsPlain (i j : Instr) (n : ℕ) : Type 0 where
  pub instr : i ≡ j
  pub plain : n ≡ 0

-- what each case gives that receives
gives-case : (script : Script) (cases : List Case) (k o : ℕ) → All (λ (c : Case). OperatesRightly script c.kind) cases
    → option_map (λ (c : Case). c.kind) (slice_get cases k) ≡ Some (CaseKind.Recv o) → IsTrue (gives_values script o)
gives-case script cases k o each e = operation-all (OperatesRightly script) cases k (CaseKind.Recv o) e each

pub locks-instr : (script : Script) (i : Instr) (n m : ℕ) → operation i n ≡ Some (CaseKind.Recv m) → NamesRightly script i → IsTrue (is_mutex script m) → IsPlain i (Instr.Lock m) n
locks-instr script (Instr.Recv o) zero m e names mutex =
    let is : o ≡ m = cc in
    absurd (no-value_mutex (what_at script m) (subst (λ o. IsTrue (gives_values script o)) is names) mutex)
locks-instr script (Instr.Recv o) (suc k) m e names mutex = cc
locks-instr script (Instr.Send c v) zero m e names mutex = cc
locks-instr script (Instr.Send c v) (suc k) m e names mutex = cc
locks-instr script (Instr.Select cases default_to) zero m e names mutex = cc
locks-instr script (Instr.Select cases default_to) (suc k) m e names mutex = absurd (no-value_mutex (what_at script m) (gives-case script cases k m names.each e) mutex)
locks-instr script (Instr.Lock k) zero m e names mutex = let is : k ≡ m = cc in record { instr = ap Instr.Lock is; plain = refl }
locks-instr script (Instr.Lock k) (suc j) m e names mutex = cc
locks-instr script (Instr.Wait w) zero m e names mutex = let is : w ≡ m = cc in absurd (no-mutex_wg (what_at script m) mutex (subst (λ w. IsTrue (is_wg script w)) is names))
locks-instr script (Instr.Wait w) (suc j) m e names mutex = cc
locks-instr script _ n m e names mutex = cc

pub waits-instr : (script : Script) (i : Instr) (n w : ℕ) → operation i n ≡ Some (CaseKind.Recv w) → NamesRightly script i → IsTrue (is_wg script w) → IsPlain i (Instr.Wait w) n
waits-instr script (Instr.Recv o) zero w e names wg =
    let is : o ≡ w = cc in
    absurd (no-value_wg (what_at script w) (subst (λ o. IsTrue (gives_values script o)) is names) wg)
waits-instr script (Instr.Recv o) (suc k) w e names wg = cc
waits-instr script (Instr.Send c v) zero w e names wg = cc
waits-instr script (Instr.Send c v) (suc k) w e names wg = cc
waits-instr script (Instr.Select cases default_to) zero w e names wg = cc
waits-instr script (Instr.Select cases default_to) (suc k) w e names wg = absurd (no-value_wg (what_at script w) (gives-case script cases k w names.each e) wg)
waits-instr script (Instr.Lock m) zero w e names wg = let is : m ≡ w = cc in absurd (no-mutex_wg (what_at script w) (subst (λ m. IsTrue (is_mutex script m)) is names) wg)
waits-instr script (Instr.Lock m) (suc j) w e names wg = cc
waits-instr script (Instr.Wait k) zero w e names wg = let is : k ≡ w = cc in record { instr = ap Instr.Wait is; plain = refl }
waits-instr script (Instr.Wait k) (suc j) w e names wg = cc
waits-instr script _ n w e names wg = cc

receives-kind : (t : ℕ) (kind : CaseKind) → receives_from t kind ≡ true → kind ≡ CaseKind.Recv t
receives-kind t (CaseKind.Recv o) h = ap CaseKind.Recv (eqb-true o t h)
receives-kind t (CaseKind.Send c v) h = cc

-- who offers to receive from t receives from it under some case number
pub record ReceivesFrom (i : Instr) (t : ℕ) : Type 0 where
  pub case_no : ℕ
  pub has : operation i case_no ≡ Some (CaseKind.Recv t)

pub receives-recv : (i : Instr) (t : ℕ) → offers (receives_from t) i ≡ true → ReceivesFrom i t
receives-recv i t h =
    let o : Offered i (receives_from t) = offered i (receives_from t) h in
    record { case_no = o.case_no; has = o.has ∙ ap Some (receives-kind t o.kind o.passes) }

-- and who offers to send to c sends some value to it
pub record SendsTo (i : Instr) (c : ℕ) : Type 0 where
  pub case_no : ℕ
  pub value : ℕ
  pub has : operation i case_no ≡ Some (CaseKind.Send c value)

sends-kind : (i : Instr) (case_no c : ℕ) (kind : CaseKind) → operation i case_no ≡ Some kind → sends_to c kind ≡ true → SendsTo i c
sends-kind i case_no c (CaseKind.Send d v) has h = record { case_no = case_no; value = v; has = has ∙ ap (λ x. Some (CaseKind.Send x v)) (eqb-true d c h) }
sends-kind i case_no c (CaseKind.Recv o) has h = cc

pub sends-send : (i : Instr) (c : ℕ) → offers (sends_to c) i ≡ true → SendsTo i c
sends-send i c h = let o : Offered i (sends_to c) = offered i (sends_to c) h in sends-kind i o.case_no c o.kind o.has o.passes

-- a goroutine that sleeps
pub record Asleep (s : State) (g : ℕ) : Type 0 where
  pub who : Goroutine
  pub there : goroutine_at s g ≡ Some who
  pub until : ℕ
  pub sleeps : who.mode ≡ Mode.Sleeping until

pub sleeper : (s : State) (g : ℕ) (P : ℕ → Type 0) → IsSomeAnd (sleeps_until s g) P → Asleep s g
sleeper s g P h =
    elim (goroutine_at s g)
    as (λ o. goroutine_at s g ≡ o → IsSomeAnd (elim (option_map (λ (r : Goroutine). r.mode) o) [ None ↦ None | Some mode ↦ until_of mode ]) P → Asleep s g) [
      | None ↦ λ e k. absurd k
      | Some r ↦ λ e k.
          elim r.mode as (λ mode. r.mode ≡ mode → IsSomeAnd (until_of mode) P → Asleep s g) [
            | Mode.At ↦ λ q l. absurd l
            | Mode.Sleeping until ↦ λ q l. record { who = r; there = e; until = until; sleeps = q }
            | Mode.Suspended k ↦ λ q l. absurd l
            | Mode.Relocking k ↦ λ q l. absurd l
            | Mode.Ended ↦ λ q l. absurd l
          ] refl k
    ] refl h

-- a goroutine that is in a mode
pub record InMode (s : State) (g : ℕ) (mode : Mode) : Type 0 where
  pub who : Goroutine
  pub there : goroutine_at s g ≡ Some who
  pub its : who.mode ≡ mode

pub in-mode : (s : State) (g : ℕ) (mode : Mode) → mode_of s g ≡ Some mode → InMode s g mode
in-mode s g mode e =
    elim (goroutine_at s g) as (λ o. goroutine_at s g ≡ o → option_map (λ (r : Goroutine). r.mode) o ≡ Some mode → InMode s g mode) [
      | None ↦ λ there h. cc
      | Some r ↦ λ there h. record { who = r; there = there; its = cc }
    ] refl e

pub mode_is : (s : State) (g : ℕ) (r : Goroutine) (mode : Mode) → mode_of s g ≡ Some mode → goroutine_at s g ≡ Some r → r.mode ≡ mode
mode_is s g r mode h e =
    let a : InMode s g mode = in-mode s g mode h in
    let there : goroutine_at s g ≡ Some a.who = a.there in
    let same : a.who ≡ r = cc in
    subst (λ (q : Goroutine). q.mode ≡ mode) same a.its

pub mode_there : (s : State) (g : ℕ) (r : Goroutine) (mode : Mode) → goroutine_at s g ≡ Some r → r.mode ≡ mode → mode_of s g ≡ Some mode
mode_there s g r mode e its = ap (option_map (λ (r : Goroutine). r.mode)) e ∙ ap Some its

-- a party that stands at an operation: its instruction has it under the party's case number
pub record AtOperation (script : Script) (s : State) (p : Party) (kind : CaseKind) : Type 0 where
  pub instr : Instr
  pub stands : stands_at script s p.g ≡ Some instr
  pub has : operation instr p.case_no ≡ Some kind

pub at_operation : (script : Script) (s : State) (p : Party) (kind : CaseKind) → operation_at script s p ≡ Some kind → AtOperation script s p kind
at_operation script s p kind e =
    elim (stands_at script s p.g)
    as (λ q. stands_at script s p.g ≡ q → (elim q as (λ q. Option CaseKind) [ None ↦ None | Some i ↦ operation i p.case_no ]) ≡ Some kind → AtOperation script s p kind) [
      | None ↦ λ is h. cc
      | Some i ↦ λ is h. record { instr = i; stands = is; has = h }
    ] refl e

-- who operates does its instruction, and names its object rightly
pub operates-Does : (script : Script) (s : State) (p : Party) (kind : CaseKind) (at : AtOperation script s p kind) → Operates script s p kind → Does script s p.g at.instr
operates-Does script s p kind at h = record { stands = at.stands; calm = h.calm }

pub names-Operates : (script : Script) (s : State) (p : Party) (kind : CaseKind) → IsGood script → Operates script s p kind → NamesObject script kind
names-Operates script s p kind good h =
    let at : AtOperation script s p kind = at_operation script s p kind h.stands in
    names-operation script at.instr p.case_no kind at.has (names-Does script s p.g at.instr good (operates-Does script s p kind at h))

-- and who does an instruction operates so under each of its case numbers
pub does-Operates : (script : Script) (s : State) (p : Party) (i : Instr) (kind : CaseKind) → operation i p.case_no ≡ Some kind → Does script s p.g i → Operates script s p kind
does-Operates script s p i kind has does =
    let there : operation_at script s p ≡ operation i p.case_no = ap (λ (o : Option Instr). elim o as (λ o. Option CaseKind) [ None ↦ None | Some i ↦ operation i p.case_no ]) does.stands in
    record { stands = there ∙ has; calm = does.calm }

-- who receives from a mutex locks it, and who receives from a WaitGroup waits for it
pub locks-Operates : (script : Script) (s : State) (p : Party) (m : ℕ) → IsGood script → Operates script s p (CaseKind.Recv m) → IsTrue (is_mutex script m)
    → Does script s p.g (Instr.Lock m) × (p.case_no ≡ 0)
locks-Operates script s p m good h mutex =
    let at : AtOperation script s p (CaseKind.Recv m) = at_operation script s p (CaseKind.Recv m) h.stands in
    let does : Does script s p.g at.instr = operates-Does script s p (CaseKind.Recv m) at h in
    let is : IsPlain at.instr (Instr.Lock m) p.case_no = locks-instr script at.instr p.case_no m at.has (names-Does script s p.g at.instr good does) mutex in
    (subst (λ (i : Instr). Does script s p.g i) is.instr does, is.plain)

pub waits-Operates : (script : Script) (s : State) (p : Party) (w : ℕ) → IsGood script → Operates script s p (CaseKind.Recv w) → IsTrue (is_wg script w)
    → Does script s p.g (Instr.Wait w) × (p.case_no ≡ 0)
waits-Operates script s p w good h wg =
    let at : AtOperation script s p (CaseKind.Recv w) = at_operation script s p (CaseKind.Recv w) h.stands in
    let does : Does script s p.g at.instr = operates-Does script s p (CaseKind.Recv w) at h in
    let is : IsPlain at.instr (Instr.Wait w) p.case_no = waits-instr script at.instr p.case_no w at.has (names-Does script s p.g at.instr good does) wg in
    (subst (λ (i : Instr). Does script s p.g i) is.instr does, is.plain)
