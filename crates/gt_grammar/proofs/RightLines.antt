-- Lines with nothing wrong.
use Rattle.std.proofs.Common.{◌≡◌, ℕ, Bool, true, false, not, ◌&&◌, ◌||◌, List, [], ◌∷◌, Option, None, Some, IfSome, refl, sym, ap, ◌<◌, ◌∙◌}
use Rattle.std.specs.Option.{option_map, is_some}
use Rattle.std.proofs.lemmas.Bool.{and_parts}
use Rattle.gt_lines.specs.Words.{NumberedLine, is_end}
use Rattle.gt_table.specs.declared.form.Step.{Step}
use Rattle.gt_table.specs.declared.form.Values.{Values}
use Rattle.gt_table.specs.Forms.{is_amount, is_parent}
use Rattle.gt_table.specs.declared.table.Keyword.{Keyword}
use Rattle.gt_table.specs.Table.{form_of, step_of}
use Rattle.gt_names.specs.Names.{Names}
use Rattle.gt_grammar.specs.declared.fault.Why.{Why}
use Rattle.gt_grammar.specs.declared.fault.ScriptFault.{ScriptFault}
use Rattle.gt_grammar.specs.Progress.{Progress}
use Rattle.gt_grammar.specs.declared.statement.Statement.{Statement}
use Rattle.gt_grammar.specs.Statements.{Command, command_of, awaits_timer, statement_of, value_of, values, step_by, step_with}
use Rattle.gt_grammar.specs.Faults.{Test, test, first_cause, causes, role_of, stands, is_named, is_counted, names_rightly, declares_twice, derives_late, is_late, inside_after, counts_rightly, nests_wrongly, selects_wrongly, brings_too_many, progress_after, progress_with, count_of, cause_with, cause_at, lacks_main, fault_or, fault_from}
use Rattle.gt_grammar.proofs.Fits.{FitsRole, fits, step_parent, precedes}

-- the first cause is none: no cause applies
pub first-None : (b : Bool) (why : Why) (ts : List Test) → first_cause (test b why ∷ ts) ≡ None → (b ≡ false) × (first_cause ts ≡ None)
first-None true why ts h = cc
first-None false why ts h = (refl, h)

-- no cause applies of a list
abbrev NoneApplies : List Test → Type 0
NoneApplies [] = Unit {0}
NoneApplies (t ∷ ts) = (t.applies ≡ false) × NoneApplies ts

none-apply : (ts : List Test) → first_cause ts ≡ None → NoneApplies ts
none-apply [] h = tt
none-apply (t ∷ ts) h = let both = first-None t.applies t.why ts h in (both.0, none-apply ts both.1)

neither : (a b : Bool) → (a || b) ≡ false → (a ≡ false) × (b ≡ false)
neither true b h = cc
neither false b h = (refl, h)

holds : (b : Bool) → not b ≡ false → b ≡ true
holds true h = refl
holds false h = cc

-- nothing is wrong with a statement
pub record IsRight (is_last lacks_main : Bool) (p : Progress) (s : Statement) : Type 0 where
  pub stands_here : stands p.inside (role_of s) ≡ true
  pub names : names_rightly s ≡ true
  pub early : derives_late p s ≡ false
  pub first : declares_twice p s ≡ false
  pub ends : (is_last && inside_after p (role_of s)) ≡ false
  pub counts : counts_rightly s ≡ true
  pub nested : nests_wrongly p (role_of s) ≡ false
  pub chosen : selects_wrongly p.blocks (role_of s) ≡ false
  pub room : brings_too_many p (role_of s) ≡ false
  pub main : lacks_main ≡ false

pub is_right : (is_last lacks_main : Bool) (p : Progress) (s : Statement) → first_cause (causes is_last lacks_main p s) ≡ None → IsRight is_last lacks_main p s
is_right is_last lacks_main p s h =
    let none : NoneApplies (causes is_last lacks_main p s) = none-apply (causes is_last lacks_main p s) h in
    record {
      stands_here = holds (stands p.inside (role_of s)) none.0;
      names = holds (names_rightly s) (neither (not (names_rightly s)) (derives_late p s) none.1.0).0;
      early = (neither (not (names_rightly s)) (derives_late p s) none.1.0).1;
      first = none.1.1.0;
      ends = none.1.1.1.0;
      counts = holds (counts_rightly s) none.1.1.1.1.0;
      nested = none.1.1.1.1.1.0;
      chosen = none.1.1.1.1.1.1.0;
      room = none.1.1.1.1.1.1.1.0;
      main = none.1.1.1.1.1.1.1.1.0;
    }

-- ---- a right statement does something

-- a value that is there
pub record Valued (o : Option ℕ) : Type 0 where
  pub value : ℕ
  pub is : o ≡ Some value

valued-by : (amount : Bool) (o : Option ℕ) → (amount || is_some o) ≡ true → (not amount || is_some o) ≡ true → Valued o
valued-by amount (Some v) h c = record { value = v; is = refl }
valued-by true None h c = cc
valued-by false None h c = cc

-- each of four tests holds
record AllFour (a b c d : Bool) : Type 0 where
  first : a ≡ true
  second : b ≡ true
  third : c ≡ true
  fourth : d ≡ true

all-four : (a b c d : Bool) → (a && b && c && d) ≡ true → AllFour a b c d
all-four a b c d h =
    let last = and_parts (a && b && c) d h in
    let more = and_parts (a && b) c last.0 in
    let both = and_parts a b more.0 in
    record { first = both.0; second = both.1; third = more.1; fourth = last.1 }

-- the words of a right statement have values
record AreValued (s : Statement) : Type 0 where
  first : Valued s.first
  second : Valued s.second
  third : Valued s.third
  fourth : Valued s.fourth

are_valued : (s : Statement) → names_rightly s ≡ true → counts_rightly s ≡ true → AreValued s
are_valued s h c =
    let f = form_of s.keyword in
    let n = all-four (is_named f.first s.first) (is_named f.second s.second) (is_named f.third s.third) (is_named f.fourth s.fourth) h in
    let m = all-four (is_counted f.first s.first) (is_counted f.second s.second) (is_counted f.third s.third) (is_counted f.fourth s.fourth) c in
    record {
      first = valued-by (is_amount f.first) s.first n.first m.first;
      second = valued-by (is_amount f.second) s.second n.second m.second;
      third = valued-by (is_amount f.third) s.third n.third m.third;
      fourth = valued-by (is_amount f.fourth) s.fourth n.fourth m.fourth;
    }

-- what a right statement does; the context from which it derives one is declared earlier, where it is not late
pub record Doing (names : Names) (c : Command) : Type 0 where
  pub first : ℕ
  pub first_is : value_of names (form_of c.keyword).first c.first ≡ Some first
  pub step : Step
  pub step_is : step_with (statement_of names c) ≡ Some step
  pub fits : FitsRole names (form_of c.keyword).role (form_of c.keyword).first first (awaits_timer names c) step
  pub parent : (p : Progress) → derives_late p (statement_of names c) ≡ false → IfSome (step_parent step) (λ q. q < p.names)

step-is : (k : Keyword) (a b c d : ℕ) (o p q r : Option ℕ) → o ≡ Some a → p ≡ Some b → q ≡ Some c → r ≡ Some d → step_by k o p q r ≡ Some (step_of k (values a b c d))
step-is k a b c d (Some x) (Some y) (Some z) (Some u) e f g h = cc
step-is k a b c d (Some x) (Some y) (Some z) None e f g h = cc
step-is k a b c d (Some x) (Some y) None r e f g h = cc
step-is k a b c d (Some x) None q r e f g h = cc
step-is k a b c d None p q r e f g h = cc

pub doing : (names : Names) (c : Command) → names_rightly (statement_of names c) ≡ true → counts_rightly (statement_of names c) ≡ true → Doing names c
doing names c h k =
    let f = form_of c.keyword in
    let s : Statement = statement_of names c in
    let are : AreValued s = are_valued s h k in
    let v : Values = values are.first.value are.second.value are.third.value are.fourth.value in
    record {
      first = v.first;
      first_is = are.first.is;
      step = step_of c.keyword v;
      step_is = step-is c.keyword v.first v.second v.third v.fourth s.first s.second s.third s.fourth are.first.is are.second.is are.third.is are.fourth.is;
      fits = fits names c.keyword c v (record { first = are.first.is; second = are.second.is; third = are.third.is; fourth = are.fourth.is });
      parent = λ p late. precedes c.keyword v p.names (ap (λ o. is_parent f.second && is_late p.names o) (sym are.second.is) ∙ late);
    }

-- ---- right lines

-- a line with nothing wrong
pub record RightLine (names : Names) (is_last : Bool) (p : Progress) (line : NumberedLine) : Type 0 where
  pub c : Command
  pub is : command_of line.words ≡ Some c
  pub right : IsRight is_last (lacks_main names is_last) p (statement_of names c)

right_line-by : (names : Names) (is_last : Bool) (p : Progress) (line : NumberedLine) (o : Option Command) → command_of line.words ≡ o → cause_with is_last (lacks_main names is_last) p (option_map (statement_of names) o) ≡ None → RightLine names is_last p line
right_line-by names is_last p line None e h = cc
right_line-by names is_last p line (Some c) e h = record { c = c; is = e; right = is_right is_last (lacks_main names is_last) p (statement_of names c) h }

pub right_line : (names : Names) (is_last : Bool) (p : Progress) (line : NumberedLine) → cause_at names is_last p line ≡ None → RightLine names is_last p line
right_line names is_last p line h = right_line-by names is_last p line (command_of line.words) refl h

-- all lines are right, and the last one leads outside
abbrev pub AllRight : Names → Progress → List NumberedLine → Type 0
AllRight names p [] = p.inside ≡ false
AllRight names p (line ∷ lines) = RightLine names (is_end lines) p line × AllRight names (progress_after names p line) lines

pub fault_or-None : (o : Option Why) (n : ℕ) (later : Option ScriptFault) → fault_or o n later ≡ None → (o ≡ None) × (later ≡ None)
fault_or-None None n later h = (refl, h)
fault_or-None (Some why) n later h = cc

-- behind the last line a reader is outside
false-right : (a b : Bool) → a ≡ true → (a && b) ≡ false → b ≡ false
false-right true b e h = h
false-right false b e h = cc

abbrev inside_by : Progress → Option Command → Bool
inside_by p None = p.inside
inside_by p (Some c) = inside_after p (form_of c.keyword).role

abbrev progress_by : Names → Progress → Option Command → Progress
progress_by names p o = elim o [ None ↦ p | Some c ↦ progress_with p (form_of c.keyword).role (count_of c.first) (awaits_timer names c) ]

inside-is : (names : Names) (p : Progress) (o : Option Command) → (progress_by names p o).inside ≡ inside_by p o
inside-is names p None = refl
inside-is names p (Some c) = refl

outside-by : (names : Names) (o : Option Command) (p : Progress) (is_last lacks : Bool) → is_last ≡ true → cause_with is_last lacks p (option_map (statement_of names) o) ≡ None → inside_by p o ≡ false
outside-by names None p is_last lacks last h = cc
outside-by names (Some c) p is_last lacks last h = false-right is_last _ last (is_right is_last lacks p (statement_of names c) h).ends

pub outside : (names : Names) (p : Progress) (line : NumberedLine) (is_last : Bool) → is_last ≡ true → cause_at names is_last p line ≡ None → (progress_after names p line).inside ≡ false
outside names p line is_last last h =
    inside-is names p (command_of line.words) ∙ outside-by names (command_of line.words) p is_last (lacks_main names is_last) last h

pub all_right : (names : Names) (p : Progress) (lines : List NumberedLine) → (is_end lines ≡ true → p.inside ≡ false) → fault_from names p lines ≡ None → AllRight names p lines
all_right names p [] out h = out refl
all_right names p (line ∷ lines) out h =
    let both = fault_or-None (cause_at names (is_end lines) p line) line.number (fault_from names (progress_after names p line) lines) h in
    (right_line names (is_end lines) p line both.0, all_right names (progress_after names p line) lines (λ e. outside names p line (is_end lines) e both.0) both.1)
