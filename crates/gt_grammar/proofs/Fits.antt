-- What a line does fits where it stands, and refers to what is declared.
use Rattle.std.proofs.Common.{◌≡◌, ℕ, zero, suc, ◌+◌, ◌-◌, ◌<◌, ◌≤◌, pos, negsuc, ◌-ℤ◌, Bool, true, false, cond, ◌&&◌, List, [], ◌∷◌, Option, Some, None, IfSome, Result, Ok, Err, refl, sym, ap, subst, ◌∙◌, arith, codes, leb, ltb, eqb, length}
use Rattle.std.specs.Option.{option_map, option_and_then}
use Rattle.std.specs.Result.{result_ok}
use Rattle.std.specs.Str.{bytes_eq, is_utf8}
use Rattle.std.proofs.lemmas.Bool.{leb-true, ltb-false, cond_both}
use Rattle.gt_model.specs.Good.{most_capacity, most_added, IsAddable}
use Rattle.gt_model.specs.Times.{greatest_time}
use Rattle.gt_model.specs.declared.script.CaseKind.{CaseKind}
use Rattle.gt_lines.specs.Number.{number_of}
use Rattle.gt_dur.specs.declared.fault.DurFault.{DurFault}
use Rattle.gt_dur.specs.Duration.{read_of, capped, outcome_of, begins_with_digit, unmet_place, nanoseconds_of}
use Rattle.gt_table.specs.declared.form.Arg.{Arg}
use Rattle.gt_table.specs.declared.form.Form.{Form}
use Rattle.gt_table.specs.declared.form.Kind.{Kind}
use Rattle.gt_table.specs.declared.form.Role.{Role}
use Rattle.gt_table.specs.declared.form.Step.{Step}
use Rattle.gt_table.specs.declared.form.Values.{Values}
use Rattle.gt_table.specs.declared.table.Keyword.{Keyword}
use Rattle.gt_table.specs.Forms.{takes, is_parent, is_kind_function, is_kind_source, is_kind_ctx}
use Rattle.gt_table.specs.Table.{form_of, parent_at, step_of}
use Rattle.gt_names.specs.declared.names.Declared.{Declared}
use Rattle.gt_names.specs.Names.{Names, is_free_name}
use Rattle.gt_grammar.specs.Duration.{duration_of}
use Rattle.gt_grammar.specs.Statements.{Command, place_if, function_place, object_of, number_to, added_of, value_of, is_ticking, is_case_recv}
use Rattle.gt_grammar.specs.Faults.{is_late}
use Rattle.gt_grammar.proofs.Rightly.{kind_in, Ref, IsPlace, IsFunc, Refers, RefersCase, Starts, parent_in}

-- ---- a duration is at most the greatest time

capped-most : (n : ℕ) → IfSome (result_ok (capped n)) (λ d. d ≤ greatest_time)
capped-most n = cond_both (leb n greatest_time) (Ok n) (Err DurFault.Big) (λ r. IfSome (result_ok r) (λ d. d ≤ greatest_time)) (λ e. leb-true n greatest_time e) (λ e. tt)

outcome-most : (o : Option ℕ) (n : ℕ) → IfSome (result_ok (outcome_of o n)) (λ d. d ≤ greatest_time)
outcome-most None n = capped-most n
outcome-most (Some at) n = tt

IfSome-if : {X : Type 0} (b : Bool) (r s : Result ℕ X) (P : ℕ → Type 0) → IfSome (result_ok r) P → IfSome (result_ok s) P → IfSome (result_ok (cond b r s)) P
IfSome-if true r s P h k = h
IfSome-if false r s P h k = k

read-most : (text : List ℕ) → IfSome (result_ok (read_of text)) (λ d. d ≤ greatest_time)
read-most text =
    IfSome-if (eqb (length text) 0) (Err DurFault.Empty) (cond (bytes_eq text (codes "0")) (Ok 0) (cond (begins_with_digit text) (outcome_of (unmet_place text) (nanoseconds_of text)) (Err DurFault.Digit))) (λ d. d ≤ greatest_time) tt
    (IfSome-if (bytes_eq text (codes "0")) (Ok 0) (cond (begins_with_digit text) (outcome_of (unmet_place text) (nanoseconds_of text)) (Err DurFault.Digit)) (λ d. d ≤ greatest_time) (omega arith)
    (IfSome-if (begins_with_digit text) (outcome_of (unmet_place text) (nanoseconds_of text)) (Err DurFault.Digit) (λ d. d ≤ greatest_time) (outcome-most (unmet_place text) (nanoseconds_of text)) tt))

some-most : (b : Bool) (o : Option ℕ) → IfSome o (λ d. d ≤ greatest_time) → IfSome (cond b o None) (λ d. d ≤ greatest_time)
some-most true o h = h
some-most false o h = tt

pub duration-most : (word : List ℕ) → IfSome (duration_of word) (λ d. d ≤ greatest_time)
duration-most word = some-most (is_utf8 word) (result_ok (read_of word)) (read-most word)

duration-value : (word : List ℕ) (d : ℕ) → duration_of word ≡ Some d → d ≤ greatest_time
duration-value word d e = let P : Option ℕ → Type 0 = λ o. IfSome o (λ n. n ≤ greatest_time) in subst P e (duration-most word)

-- ---- names are declared as such

if-Some : (b : Bool) (x v : ℕ) → cond b (Some x) None ≡ Some v → (b ≡ true) × (v ≡ x)
if-Some true x v h = let e : v ≡ x = cc in (refl, e)
if-Some false x v h = cc

abbrev ref : (names : Names) (q : List ℕ) (d : Declared) → names q ≡ Some d → Ref names
ref names q d h = record { name = q; declared = d; known = h }

-- an object of the kind that is wanted
place-by : (names : Names) (holds : Kind → Bool) (q : List ℕ) (v : ℕ) (o : Option Declared) → names q ≡ o
    → option_and_then (place_if holds) o ≡ Some v → IsPlace names holds v
place-by names holds q v None e h = cc
place-by names holds q v (Some d) e h = let both = if-Some (holds d.kind) d.place v h in record { ref = ref names q d e; kind = both.0; is = both.1 }

object-at : (names : Names) (arg : Arg) (q : List ℕ) (v : ℕ) → object_of names arg q ≡ Some v → IsPlace names (takes arg) v
object-at names arg q v h = place-by names (takes arg) q v (names q) refl h

-- a parent is a context, or the root
parent-by : (names : Names) (q : List ℕ) (v : ℕ) (o : Option ℕ) → object_of names Arg.Parent q ≡ o → option_map suc o ≡ Some v → IfSome (parent_at v) (IsPlace names is_kind_ctx)
parent-by names q v None e h = cc
parent-by names q v (Some p) e h =
    let is : v ≡ suc p = cc in
    subst (λ n. IfSome (parent_at n) (IsPlace names is_kind_ctx)) (sym is) (object-at names Arg.Parent q p e)

parent-found : (names : Names) (q : List ℕ) (v : ℕ) → value_of names Arg.Parent q ≡ Some v → IfSome (parent_at v) (IsPlace names is_kind_ctx)
parent-found names q v h = by (bytes_eq q (codes "root")) h
  where
    by : (root : Bool) → cond root (Some 0) (option_map suc (object_of names Arg.Parent q)) ≡ Some v → IfSome (parent_at v) (IsPlace names is_kind_ctx)
    by true k = let is : v ≡ 0 = cc in subst (λ n. IfSome (parent_at n) (IsPlace names is_kind_ctx)) (sym is) tt
    by false k = parent-by names q v (object_of names Arg.Parent q) refl k

function-by : (names : Names) (q : List ℕ) (v : ℕ) (o : Option Declared) → names q ≡ o → option_and_then function_place o ≡ Some v → IsFunc names v
function-by names q v None e h = cc
function-by names q v (Some d) e h = let both = if-Some (is_kind_function d.kind) d.func v h in (ref names q d e, both.0, both.1)

-- a number in a range is at most the greatest of it
number-by : (most : ℕ) (o : Option ℕ) (v : ℕ) → elim o [ None ↦ None | Some n ↦ cond (leb n most) (Some n) None ] ≡ Some v → v ≤ most
number-by most None v h = cc
number-by most (Some n) v h = let both = if-Some (leb n most) n v h in omega (arith, both.1, leb-true n most both.0)

number-most : (most : ℕ) (word : List ℕ) (v : ℕ) → number_to most word ≡ Some v → v ≤ most
number-most most word v h = number-by most (number_of word) v h

-- and what is added is at most the greatest of it, and not below the least
plus-by : (o : Option ℕ) (v : ℕ) → IfSome o (λ n. n ≤ most_added) → option_map (λ n. most_added + n) o ≡ Some v → v ≤ most_added + most_added
plus-by None v few h = cc
plus-by (Some n) v few h = let e : v ≡ most_added + n = cc in omega (arith, e, few)

minus-by : (o : Option ℕ) (v : ℕ) → option_map (λ n. most_added - n) o ≡ Some v → v ≤ most_added + most_added
minus-by None v h = cc
minus-by (Some n) v h = let e : v ≡ most_added - n = cc in omega (arith, e)

few-to : (most : ℕ) (word : List ℕ) → IfSome (number_to most word) (λ n. n ≤ most)
few-to most word = by (number_to most word) refl
  where
    by : (o : Option ℕ) → number_to most word ≡ o → IfSome o (λ n. n ≤ most)
    by None e = tt
    by (Some n) e = number-most most word n e

added-most : (word : List ℕ) (v : ℕ) → added_of word ≡ Some v → v ≤ most_added + most_added
added-most [] v h = cc
added-most (b ∷ bs) v h = by (eqb b 45) h
  where
    by : (less : Bool) → cond less (option_map (λ n. most_added - n) (number_to most_added bs)) (option_map (λ n. most_added + n) (number_to most_added (b ∷ bs))) ≡ Some v → v ≤ most_added + most_added
    by true k = minus-by (number_to most_added bs) v k
    by false k = plus-by (number_to most_added (b ∷ bs)) v (few-to most_added (b ∷ bs)) k

addable : (v : ℕ) → v ≤ most_added + most_added → IsAddable (pos v -ℤ pos most_added)
addable v h = by (ltb v most_added)
  where
    by : (less : Bool) → IsAddable (cond less (negsuc (most_added - suc v)) (pos (v - most_added)))
    by true = omega arith
    by false = omega (arith, h)

-- a new name is spelled rightly, and declared
pub record IsFree (names : Names) (q : List ℕ) (v : ℕ) : Type 0 where
  pub free : is_free_name q ≡ true
  pub declared : Declared
  pub known : names q ≡ Some declared
  pub place : v ≡ declared.place

free-by : (names : Names) (q : List ℕ) (v : ℕ) (b : Bool) (o : Option Declared) → is_free_name q ≡ b → names q ≡ o → cond b (option_map (λ (d : Declared). d.place) o) None ≡ Some v → IsFree names q v
free-by names q v false o f e h = cc
free-by names q v true None f e h = cc
free-by names q v true (Some d) f e h = let same : v ≡ d.place = cc in record { free = f; declared = d; known = e; place = same }

pub new-value : (names : Names) (q : List ℕ) (v : ℕ) → value_of names Arg.NewName q ≡ Some v → IsFree names q v
new-value names q v h = free-by names q v (is_free_name q) (names q) refl refl h

-- ---- each keyword

-- what a line with this role and this first argument, of this value, may do, which receives from a timer as a case or does not
abbrev pub FitsRole : Names → Role → Arg → ℕ → Bool → Step → Type 0
FitsRole names (Role.Declares kind) arg a awaits (Step.Declare what) = (arg ≡ Arg.NewName) × (kind ≡ kind_in what) × Starts names what
FitsRole names (Role.Declares kind) arg a awaits (Step.Open decl) = (arg ≡ Arg.NewName) × (kind ≡ Kind.Function) × (decl ≡ a)
FitsRole names Role.Closes arg a awaits Step.Close = Unit {0}
FitsRole names Role.Acts arg a awaits (Step.Do instr) = Refers names instr
FitsRole names Role.Loops arg a awaits (Step.Loop count) = (arg ≡ Arg.Passes) × (count ≡ a) × (count ≤ 1000000)
FitsRole names Role.Selects arg a awaits Step.Select = Unit {0}
FitsRole names Role.Chooses arg a awaits (Step.Case kind) = RefersCase names awaits kind
FitsRole names Role.Defaults arg a awaits Step.Default = Unit {0}
FitsRole names _ arg a awaits _ = ⊥

-- a case that receives says by the name of its source whether that is a timer
ticks-by : (names : Names) (q : List ℕ) (v : ℕ) (o : Option Declared) → names q ≡ o → option_and_then (place_if is_kind_source) o ≡ Some v → RefersCase names (is_ticking o) (CaseKind.Recv v)
ticks-by names q v None e h = cc
ticks-by names q v (Some d) e h = let both = if-Some (is_kind_source d.kind) d.place v h in (record { ref = ref names q d e; kind = both.0; is = both.1 }, refl)

-- the words of a command have these values
pub record Heard (names : Names) (form : Form) (c : Command) (v : Values) : Type 0 where
  pub first : value_of names form.first c.first ≡ Some v.first
  pub second : value_of names form.second c.second ≡ Some v.second
  pub third : value_of names form.third c.third ≡ Some v.third
  pub fourth : value_of names form.fourth c.fourth ≡ Some v.fourth

-- what stands last is of each keyword that sets a timer
pub fits : (names : Names) (k : Keyword) (c : Command) (v : Values) → Heard names (form_of k) c v
    → FitsRole names (form_of k).role (form_of k).first v.first (is_case_recv k && is_ticking (names c.first)) (step_of k v)
fits names Keyword.Timer c v h = (refl, refl, tt)
fits names Keyword.Ticker c v h = (refl, refl, tt)
fits names Keyword.AfterFunc c v h = (refl, refl, function-by names c.second v.second (names c.second) refl h.second)
fits names Keyword.Chan c v h = (refl, refl, number-most most_capacity c.second v.second h.second)
fits names Keyword.Mutex c v h = (refl, refl, tt)
fits names Keyword.Wg c v h = (refl, refl, tt)
fits names Keyword.Cond c v h = (refl, refl, object-at names Arg.Mutex c.second v.second h.second)
fits names Keyword.Func c v h = (refl, refl, refl)
fits names Keyword.Loop c v h = (refl, refl, number-most 1000000 c.first v.first h.first)
fits names Keyword.CaseRecv c v h = ticks-by names c.first v.first (names c.first) refl h.first
fits names Keyword.CaseSend c v h = (object-at names Arg.Channel c.first v.first h.first, refl)
fits names Keyword.Sleep c v h = duration-value c.first v.first h.first
fits names Keyword.Go c v h = function-by names c.first v.first (names c.first) refl h.first
fits names Keyword.Stop c v h = object-at names Arg.Setting c.first v.first h.first
fits names Keyword.Recv c v h = object-at names Arg.Source c.first v.first h.first
fits names Keyword.Make c v h = object-at names Arg.Channel c.first v.first h.first
fits names Keyword.Send c v h = object-at names Arg.Channel c.first v.first h.first
fits names Keyword.Close c v h = object-at names Arg.Channel c.first v.first h.first
fits names Keyword.Lock c v h = object-at names Arg.Mutex c.first v.first h.first
fits names Keyword.Unlock c v h = object-at names Arg.Mutex c.first v.first h.first
fits names Keyword.Add c v h = (object-at names Arg.WaitGroup c.first v.first h.first, addable v.second (added-most c.second v.second h.second))
fits names Keyword.Done c v h = (object-at names Arg.WaitGroup c.first v.first h.first, omega arith)
fits names Keyword.Wait c v h = object-at names Arg.WaitGroup c.first v.first h.first
fits names Keyword.CWait c v h = object-at names Arg.Cond c.first v.first h.first
fits names Keyword.Signal c v h = object-at names Arg.Cond c.first v.first h.first
fits names Keyword.Broadcast c v h = object-at names Arg.Cond c.first v.first h.first
fits names Keyword.CtxCancel c v h = (refl, refl, (parent-found names c.second v.second h.second, tt))
fits names Keyword.CtxCause c v h = (refl, refl, (parent-found names c.second v.second h.second, tt))
fits names Keyword.CtxTimeout c v h = (refl, refl, (parent-found names c.second v.second h.second, (duration-value c.third v.third h.third, tt)))
fits names Keyword.CtxTimeoutCause c v h =
    (refl, refl, (parent-found names c.second v.second h.second, (duration-value c.third v.third h.third, object-at names Arg.Error c.fourth v.fourth h.fourth)))
fits names Keyword.CtxWithout c v h = (refl, refl, (parent-found names c.second v.second h.second, tt))
fits names Keyword.Hook c v h = (refl, refl, (object-at names Arg.Context c.second v.second h.second, function-by names c.third v.third (names c.third) refl h.third))
fits names Keyword.Error c v h = (refl, refl, tt)
fits names Keyword.With c v h = object-at names Arg.Context c.first v.first h.first
fits names Keyword.Cancel c v h = object-at names Arg.Endable c.first v.first h.first
fits names Keyword.CancelCause c v h = (object-at names Arg.Causable c.first v.first h.first, object-at names Arg.Error c.second v.second h.second)
fits names Keyword.ErrOf c v h = object-at names Arg.Context c.first v.first h.first
fits names Keyword.CauseOf c v h = object-at names Arg.Context c.first v.first h.first
fits names Keyword.After c v h = object-at names Arg.Hook c.first v.first h.first
fits names Keyword.Unhook c v h = object-at names Arg.Hook c.first v.first h.first
fits names Keyword.New c v h = (object-at names Arg.Setting c.first v.first h.first, duration-value c.second v.second h.second)
fits names Keyword.Reset c v h = (object-at names Arg.Setting c.first v.first h.first, duration-value c.second v.second h.second)
fits names _ c v h = tt

-- ---- a parent is declared earlier

-- the context from which a step derives one
abbrev pub step_parent : Step → Option ℕ
step_parent (Step.Declare what) = parent_in what
step_parent _ = None

parent-value : (v p : ℕ) → parent_at v ≡ Some p → v ≡ suc p
parent-value zero p e = cc
parent-value (suc v) p e = let same : v ≡ p = cc in ap suc same

-- it is the second word
parent-second : (k : Keyword) (v : Values) (p : ℕ) → step_parent (step_of k v) ≡ Some p → (is_parent (form_of k).second ≡ true) × (v.second ≡ suc p)
parent-second Keyword.CtxCancel v p e = (refl, parent-value v.second p e)
parent-second Keyword.CtxCause v p e = (refl, parent-value v.second p e)
parent-second Keyword.CtxTimeout v p e = (refl, parent-value v.second p e)
parent-second Keyword.CtxTimeoutCause v p e = (refl, parent-value v.second p e)
parent-second Keyword.CtxWithout v p e = (refl, parent-value v.second p e)
parent-second _ v p e = cc

-- where it is not late, it precedes
pub precedes : (k : Keyword) (v : Values) (n : ℕ) → (is_parent (form_of k).second && is_late n (Some v.second)) ≡ false → IfSome (step_parent (step_of k v)) (λ p. p < n)
precedes k v n h = by (step_parent (step_of k v)) refl
  where
    by : (o : Option ℕ) → step_parent (step_of k v) ≡ o → IfSome o (λ p. p < n)
    by None e = tt
    by (Some p) e =
        let second = parent-second k v p e in
        let early : ltb n v.second ≡ false = ap (λ b. b && ltb n v.second) (sym second.0) ∙ h in
        omega (arith, second.1, ltb-false n v.second early)
