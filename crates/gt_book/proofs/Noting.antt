-- What is noted of the contexts at which somebody is to go on, and whom it leaves who could go on elsewhere.
use Rattle.std.proofs.Common.{◌≡◌, ℕ, suc, cond, ◌+◌, ◌<◌, ◌≤◌, ◌==◌, ◌||◌, ◌&&◌, not, List, [], ◌∷◌, ◌++◌, length, slice_get, nat_lt, refl, sym, ap, subst, ◌∙◌, arith, Option, None, Some, Bool, true, false, is_some, IsTrue, option_map, sum_by, take, slice_index_or}
use Rattle.std.specs.List.Sorted.{IsPermutation}
use Rattle.std.specs.BinaryHeap.{heap_items, heap_len, heap_capacity}
use Rattle.std.proofs.lemmas.Bool.{eqb-true, eq-eqb, ltb-true, and_parts}
use Rattle.std.proofs.lemmas.List.Sorted.{list_any-IsPermutation, sum_by-IsPermutation}
use Rattle.std.proofs.lemmas.List.Folds.{list_any_more}
use Rattle.std.proofs.lemmas.List.Sums.{sum_by-cons}
use Rattle.gt_model.specs.declared.script.Script.{Script}
use Rattle.gt_model.specs.declared.script.What.{What}
use Rattle.gt_model.specs.declared.script.CaseKind.{CaseKind}
use Rattle.gt_model.specs.declared.entry.Entry.{Entry}
use Rattle.gt_model.specs.declared.entry.Party.{Party}
use Rattle.gt_model.specs.Good.{IsGood}
use Rattle.gt_model.specs.Script.{what_at, is_chan, is_mutex, is_ctx, names_chan, names_mutex, names_ctx, mutex_of}
use Rattle.gt_model.proofs.Declared.{ctx_declared}
use Rattle.gt_rules.specs.State.{State, is_locked}
use Rattle.gt_rules.specs.Operations.{sends_to}
use Rattle.gt_rules.specs.Ready.{is_ready_alone, no_timer}
use Rattle.gt_facts.specs.Formed.{IsFormed}
use Rattle.gt_facts.proofs.Within.{mutex_of-is, relocking-cond}
use Rattle.gt_schedule.specs.Schedule.{Schedule, parties_at, object_of, since_of}
use Rattle.gt_book.specs.View.{Fits, wants, is_waiting}
use Rattle.gt_book.specs.Calm.{IsCalm, IsCalmBut}
use Rattle.gt_book.specs.Woken.{is_longer, first_woken, next_woken}
use Rattle.gt_book.specs.Notes.{Note, Notes, AreNoted, Takes, is_noted, is_waited_at, since_at, notes_by, is_later}
use Rattle.gt_book.proofs.Firm.{never-both, unless-true, nowhere, nowhere-calm}
use Rattle.gt_book.proofs.Fitting.{first-sending}
use Rattle.gt_book.proofs.Wanting.{Wanting, Wanted, operates, relocks, wanting, wants-some, operates-named}
use Rattle.gt_book.proofs.Waking.{none-woken}
use Rattle.gt_book.proofs.Runs.{HasLists}

-- ---- the list of notes

-- the order in which they are kept is nothing to it
pub noted-order : (xs ys : List Note) (o : ℕ) → IsPermutation xs ys → is_noted ys o ≡ is_noted xs o
noted-order xs ys o same = sym (list_any-IsPermutation (λ (n : Note). n.0.1 == o) xs ys same)

no-note : (b c : Bool) → (b && false || c) ≡ c
no-note true c = refl
no-note false c = refl

pub or-turned : (a b : Bool) → (a || b) ≡ (b || a)
or-turned true true = refl
or-turned true false = refl
or-turned false true = refl
or-turned false false = refl

one-note : (b c : Bool) → (b && true || c) ≡ (b || c)
one-note true c = refl
one-note false c = refl

-- one more is noted, where somebody waits there
noted-by : (x : ℕ) (since : Option ℕ) (notes : List Note) (o : ℕ) → is_noted (notes_by x since ++ notes) o ≡ (x == o && is_some since || is_noted notes o)
noted-by x None notes o = sym (no-note (x == o) (is_noted notes o))
noted-by x (Some since) notes o = sym (one-note (x == o) (is_noted notes o))

pub noted-more : (x : ℕ) (since : Option ℕ) (old new : List Note) (o : ℕ) → IsPermutation (notes_by x since ++ old) new
    → is_noted new o ≡ (x == o && is_some since || is_noted old o)
noted-more x since old new o same = noted-order (notes_by x since ++ old) new o same ∙ noted-by x since old o

-- one context after the other of a list is noted
pub noted-next : (m : Schedule) (xs : List ℕ) (k : ℕ) (old new : List Note) (o : ℕ) → k < length xs → is_noted old o ≡ is_waited_at m (take k xs) o
    → IsPermutation (notes_by (slice_index_or xs k 0) (since_at m (slice_index_or xs k 0)) ++ old) new → is_noted new o ≡ is_waited_at m (take (k + 1) xs) o
noted-next m xs k old new o within so_far same =
    let test : ℕ → Bool = λ x. x == o && is_some (since_at m x) in
    let here : ℕ = slice_index_or xs k 0 in
    noted-more here (since_at m here) old new o same
    ∙ (ap (λ b. test here || b) so_far ∙ (or-turned (test here) (is_waited_at m (take k xs) o) ∙ sym (list_any_more test xs k 0 within)))

-- a note of a context counts once, and once more where it is out of date
abbrev pub left_by : Schedule → Note → ℕ
left_by m n = suc (cond (is_later n.0.0 (since_at m n.0.1)) 1 0)

abbrev pub work_left : Schedule → List Note → ℕ
work_left m notes = sum_by (left_by m) notes

-- it is less where a note is taken away
pub left-less : (m : Schedule) (n : Note) (old new : List Note) → IsPermutation old (n ∷ new) → work_left m new < work_left m old
left-less m n old new same =
    let all : work_left m (n ∷ new) ≡ work_left m old = sum_by-IsPermutation (left_by m) old (n ∷ new) same in
    let first : work_left m (n ∷ new) ≡ left_by m n + work_left m new = sum_by-cons (left_by m) n new in
    omega arith

-- or one that is out of date is noted again
left-later : (m : Schedule) (n : Note) (now : Option ℕ) (mid : List Note) → since_at m n.0.1 ≡ now → is_later n.0.0 now ≡ true → work_left m (notes_by n.0.1 now ++ mid) < work_left m (n ∷ mid)
left-later m n None mid is later = cc
left-later m n (Some now) mid is later =
    let again : Note = record { 0 = (now, n.0.1) } in
    let in_time : is_later now (since_at m n.0.1) ≡ false = ap (is_later now) is ∙ unless-true (nat_lt now now) (λ h. let less : now < now = ltb-true now now h in absurd (omega arith)) in
    let one : left_by m again ≡ 1 = ap (λ b. suc (cond b 1 0)) in_time in
    let two : left_by m n ≡ 2 = ap (λ b. suc (cond b 1 0)) (ap (is_later n.0.0) is ∙ later) in
    let new : work_left m (again ∷ mid) ≡ left_by m again + work_left m mid = sum_by-cons (left_by m) again mid in
    let old : work_left m (n ∷ mid) ≡ left_by m n + work_left m mid = sum_by-cons (left_by m) n mid in
    omega arith

pub left-again : (m : Schedule) (n : Note) (old mid new : List Note) → IsPermutation old (n ∷ mid) → is_later n.0.0 (since_at m n.0.1) ≡ true
    → IsPermutation (notes_by n.0.1 (since_at m n.0.1) ++ mid) new → work_left m new < work_left m old
left-again m n old mid new was later same =
    let before : work_left m (n ∷ mid) ≡ work_left m old = sum_by-IsPermutation (left_by m) old (n ∷ mid) was in
    let after : work_left m new ≡ work_left m (notes_by n.0.1 (since_at m n.0.1) ++ mid) =
    sum_by-IsPermutation (left_by m) (notes_by n.0.1 (since_at m n.0.1) ++ mid) new same in
    let less : work_left m (notes_by n.0.1 (since_at m n.0.1) ++ mid) < work_left m (n ∷ mid) = left-later m n (since_at m n.0.1) mid refl later in
    omega arith

-- ---- where nobody waits at a context

no-chan_ctx : (w : Option What) → IsTrue (names_chan w) → IsTrue (names_ctx w) → ⊥
no-chan_ctx (Some (What.Ctx parent form)) chan ctx = cc
no-chan_ctx _ chan ctx = cc

no-mutex_ctx : (w : Option What) → IsTrue (names_mutex w) → IsTrue (names_ctx w) → ⊥
no-mutex_ctx (Some (What.Ctx parent form)) mutex ctx = cc
no-mutex_ctx _ mutex ctx = cc

-- nobody sends to a context
nobody-sends : (script : Script) (s : State) (p : Party) (x : ℕ) (kind : CaseKind) → IsGood script → IsFormed script s → IsTrue (is_ctx script x) → Wanting script s p kind
    → sends_to x kind ≡ true → ⊥
nobody-sends script s p x (CaseKind.Recv o) good formed ctx want h = cc
nobody-sends script s p x (CaseKind.Send c v) good formed ctx (operates _ e) h =
    no-chan_ctx (what_at script x) (subst (λ c. IsTrue (is_chan script c)) (eqb-true c x h) (operates-named script s p (CaseKind.Send c v) good e)) ctx
nobody-sends script s p x (CaseKind.Send c v) good formed ctx (relocks k e plain) h =
    no-mutex_ctx (what_at script x) (subst (λ m. IsTrue (is_mutex script m)) (eqb-true c x h) (mutex_of-is script k good (relocking-cond script s p.g k formed e))) ctx

none-asked : (script : Script) (s : State) (b : Bool) → first_woken script s None None b ≡ None
none-asked script s true = refl
none-asked script s false = refl

none-first : (script : Script) (s : State) (m : Schedule) (receiver sender : Option Party) → option_map (λ (p : Party). since_of m p.g) receiver ≡ None → sender ≡ None
    → first_woken script s receiver sender (is_longer m sender receiver) ≡ None
none-first script s m None sender none no_sender = ap (λ sender. first_woken script s None sender (is_longer m sender None)) no_sender
none-first script s m (Some p) sender none no_sender = cc

pub nobody-there : (script : Script) (s : State) (m : Schedule) (x : ℕ) → IsGood script → IsFormed script s → Fits script s m → IsTrue (is_ctx script x) → since_at m x ≡ None
    → next_woken script s m x ≡ None
nobody-there script s m x good formed fits ctx none =
    none-first script s m (slice_get (parties_at m.receivers x) 0) (slice_get (parties_at m.senders x) 0) none
    (elim (slice_get (parties_at m.senders x) 0) as (λ o. slice_get (parties_at m.senders x) 0 ≡ o → o ≡ None) [
      | None ↦ λ q. refl
      | Some p ↦ λ q.
          let parts = and_parts (is_waiting m p.g) (wants script s p (sends_to x)) (first-sending script s m p x fits (ctx_declared script x ctx) q) in
          let want : Wanted script s p (sends_to x) = wants-some script s p (sends_to x) parts.1 in
          absurd (nobody-sends script s p x want.kind good formed ctx (wanting script s p want.kind want.there) want.passes)
    ] refl)

-- ---- whom it leaves

-- objects at which nobody goes on are left out
apart : (a b : Bool) → (a && not b) ≡ false → a ≡ true → b ≡ true
apart true true h on = refl
apart true false h on = cc
apart false b h on = cc

apart-same : (wide : ℕ → Bool) (c : ℕ) → (wide c && not (c == c)) ≡ false
apart-same wide c = ap (λ b. wide c && not b) (eq-eqb c c refl) ∙ none (wide c)
  where
    none : (b : Bool) → (b && false) ≡ false
    none true = refl
    none false = refl

pub calm-less : (script : Script) (s : State) (m : Schedule) (wide less : ℕ → Bool) → IsGood script → IsFormed script s → Fits script s m → IsCalmBut script s m wide
    → ((o : ℕ) → wide o ≡ true → less o ≡ false → next_woken script s m o ≡ None) → ((o : ℕ) → less o ≡ true → o < length script.decls) → IsCalmBut script s m less
calm-less script s m wide less good formed fits but none within = record {
  waits = but.waits;
  objects = but.objects;
  partners = but.partners;
  others = λ g n kind waits at left.
      elim (wide (object_of kind)) as (λ b. wide (object_of kind) ≡ b → is_ready_alone script s no_timer kind ≡ false) [
        | true ↦ λ q. (calm-without (object_of kind) q left).others g n kind waits at (apart-same wide (object_of kind))
        | false ↦ λ q. but.others g n kind waits at q
      ] refl;
  relocks = λ g k waits mode left.
      elim (wide (mutex_of script k)) as (λ b. wide (mutex_of script k) ≡ b → is_locked s (mutex_of script k) ≡ true) [
        | true ↦ λ q. (calm-without (mutex_of script k) q left).relocks g k waits mode (apart-same wide (mutex_of script k))
        | false ↦ λ q. but.relocks g k waits mode q
      ] refl;
  declared = within;
}
  where
    calm-without : (c : ℕ) → wide c ≡ true → less c ≡ false → IsCalmBut script s m (λ o. wide o && not (o == c))
    calm-without c on left =
        none-woken script s m wide c on good formed fits but (λ o. wide o && not (o == c)) (λ o out has. eqb-true o c (apart (wide o) (o == c) out has))
        (λ o has. but.declared o (and_parts (wide o) (not (o == c)) has).0) (none c on left)

or-either : (a b : Bool) (P : Type 0) → (a || b) ≡ true → (a ≡ true → P) → (b ≡ true → P) → P
or-either true b P h first second = first refl
or-either false b P h first second = second h

or-neither : (a b : Bool) → (a || b) ≡ false → (a ≡ false) × (b ≡ false)
or-neither true b h = cc
or-neither false b h = (refl, h)

pub or-first : (a b : Bool) → a ≡ true → (a || b) ≡ true
or-first true b h = refl
or-first false b h = cc

pub or-second : (a b : Bool) → b ≡ true → (a || b) ≡ true
or-second true b h = refl
or-second false b h = h

nobody : (o : Option ℕ) (a : Bool) → (a && is_some o) ≡ false → a ≡ true → o ≡ None
nobody None true h is = refl
nobody (Some since) true h is = cc
nobody o false h is = cc

-- one context is noted again, if somebody waits there
module _ (script : Script) (s : State) (m : Schedule) (good : IsGood script) (formed : IsFormed script s) (fits : Fits script s m) where
  module _ (x : ℕ) (mid new : Notes) (ctx : IsTrue (is_ctx script x)) (contexts : (y : ℕ) → is_noted (heap_items mid) y ≡ true → IsTrue (is_ctx script y))
      (same : IsPermutation (notes_by x (since_at m x) ++ heap_items mid) (heap_items new)) where
    more : (o : ℕ) → is_noted (heap_items new) o ≡ (x == o && is_some (since_at m x) || is_noted (heap_items mid) o)
    more o = noted-more x (since_at m x) (heap_items mid) (heap_items new) o same

    contexts-again : (y : ℕ) → is_noted (heap_items new) y ≡ true → IsTrue (is_ctx script y)
    contexts-again y h =
        or-either (x == y && is_some (since_at m x)) (is_noted (heap_items mid) y) (IsTrue (is_ctx script y)) (sym (more y) ∙ h)
        (λ here. subst (λ y. IsTrue (is_ctx script y)) (eqb-true x y (and_parts (x == y) (is_some (since_at m x)) here).0) ctx) (contexts y)

    -- where nobody waits there it is noted no more
    left-out : (o : ℕ) → (x == o || is_noted (heap_items mid) o) ≡ true → is_noted (heap_items new) o ≡ false → next_woken script s m o ≡ None
    left-out o wide out =
        let neither = or-neither (x == o && is_some (since_at m x)) (is_noted (heap_items mid) o) (sym (more o) ∙ out) in
        let here : (x == o) ≡ true =
        or-either (x == o) (is_noted (heap_items mid) o) ((x == o) ≡ true) wide (λ is. is) (λ is. absurd (never-both (is_noted (heap_items mid) o) is neither.1)) in
        subst (λ o. next_woken script s m o ≡ None) (eqb-true x o here)
        (nobody-there script s m x good formed fits ctx (nobody (since_at m x) (x == o) neither.0 here))

    pub noted-again : IsCalmBut script s m (λ o. x == o || is_noted (heap_items mid) o) → heap_len mid < length script.decls → length script.decls ≤ heap_capacity mid
        → heap_len new ≤ heap_len mid + 1 → heap_capacity mid ≤ heap_capacity new → AreNoted script s m new
    noted-again but few room longer wider = record {
      contexts = contexts-again;
      but = calm-less script s m (λ o. x == o || is_noted (heap_items mid) o) (is_noted (heap_items new)) good formed fits but left-out
          (λ o h. ctx_declared script o (contexts-again o h));
      few = omega arith;
      room = omega arith;
    }

  -- where nothing is noted nobody could go on
  none-noted : (notes : List Note) → length notes ≡ 0 → (o : ℕ) → is_noted notes o ≡ false
  none-noted [] h o = refl
  none-noted (n ∷ notes) h o = cc

  pub noted-none : (w : Notes) → AreNoted script s m w → heap_len w ≡ 0 → IsCalm script s m
  noted-none w noted none =
      let as_many : heap_len w ≡ length (heap_items w) = w.data.ok.0 in
      nowhere-calm script s m
      (calm-less script s m (is_noted (heap_items w)) nowhere good formed fits noted.but
      (λ o wide out. absurd (never-both (is_noted (heap_items w) o) wide (none-noted (heap_items w) (sym as_many ∙ none) o))) (λ o h. cc))

  -- a note is taken away
  module _ (old mid : Notes) (n : Note) (noted : AreNoted script s m old) (popped : IsPermutation (heap_items old) (n ∷ heap_items mid)) (shorter : heap_len mid + 1 ≡ heap_len old)
      (room : heap_capacity mid ≡ heap_capacity old) where
    was : (o : ℕ) → is_noted (heap_items old) o ≡ (n.0.1 == o || is_noted (heap_items mid) o)
    was o = sym (noted-order (heap_items old) (n ∷ heap_items mid) o popped)

    pub popped-context : IsTrue (is_ctx script n.0.1)
    popped-context = noted.contexts n.0.1 (was n.0.1 ∙ or-first (n.0.1 == n.0.1) (is_noted (heap_items mid) n.0.1) (eq-eqb n.0.1 n.0.1 refl))

    pub popped-lists : HasLists m n.0.1
    popped-lists =
        let within : n.0.1 < length script.decls = ctx_declared script n.0.1 popped-context in
        record { receivers = subst (λ k. n.0.1 < k) (sym fits.receivers) within; senders = subst (λ k. n.0.1 < k) (sym fits.senders) within }

    pub popped-contexts : (y : ℕ) → is_noted (heap_items mid) y ≡ true → IsTrue (is_ctx script y)
    popped-contexts y h = noted.contexts y (was y ∙ or-second (n.0.1 == y) (is_noted (heap_items mid) y) h)

    pub popped-few : heap_len mid < length script.decls
    popped-few = let few : heap_len old ≤ length script.decls = noted.few in omega arith

    pub popped-room : length script.decls ≤ heap_capacity mid
    popped-room = let had : length script.decls ≤ heap_capacity old = noted.room in omega arith

    pub popped-calm : IsCalmBut script s m (λ o. n.0.1 == o || is_noted (heap_items mid) o)
    popped-calm =
        calm-less script s m (is_noted (heap_items old)) (λ o. n.0.1 == o || is_noted (heap_items mid) o) good formed fits noted.but
        (λ o wide out. absurd (never-both (is_noted (heap_items old) o) wide (was o ∙ out)))
        (λ o h. noted.but.declared o (was o ∙ h))

    pub popped-takes : (e : Entry) → next_woken script s m n.0.1 ≡ Some e → Takes script s m n.0.1 e mid
    popped-takes e next = record { next = next; context = popped-context; contexts = popped-contexts; but = popped-calm; few = popped-few }

    pub popped-none : next_woken script s m n.0.1 ≡ None → AreNoted script s m mid
    popped-none none = record {
      contexts = popped-contexts;
      but = calm-less script s m (λ o. n.0.1 == o || is_noted (heap_items mid) o) (is_noted (heap_items mid)) good formed fits popped-calm
          (λ o wide out.
          or-either (n.0.1 == o) (is_noted (heap_items mid) o) (next_woken script s m o ≡ None) wide (λ here. subst (λ o. next_woken script s m o ≡ None) (eqb-true n.0.1 o here) none)
          (λ is. absurd (never-both (is_noted (heap_items mid) o) is out)))
          (λ o h. ctx_declared script o (popped-contexts o h));
      few = let less : heap_len mid < length script.decls = popped-few in omega arith;
      room = popped-room;
    }

    pub popped-again : (new : Notes) → IsPermutation (notes_by n.0.1 (since_at m n.0.1) ++ heap_items mid) (heap_items new) → heap_len new ≤ heap_len mid + 1
        → heap_capacity mid ≤ heap_capacity new → AreNoted script s m new
    popped-again new same longer wider = noted-again n.0.1 mid new popped-context popped-contexts same popped-calm popped-few popped-room longer wider
