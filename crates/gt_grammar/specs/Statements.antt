-- The script language: what its lines say.
use Rattle.std.specs.Prelude.{ℕ, suc, ◌+◌, ◌-◌, ◌==◌, nat_le, Bool, true, false, ◌&&◌, if◌then◌else◌, List, [], ◌∷◌, codes}
use Rattle.std.specs.Option.{option_map, option_and_then}
use Rattle.std.specs.Str.{bytes_eq}
use Rattle.std.specs.declared.option.Option.{Option}
use Rattle.std.specs.declared.option.Option.TheVariants.{None, Some}
use Rattle.gt_model.specs.Good.{most_passes, most_capacity, most_added}
use Rattle.gt_lines.specs.Words.{Words}
use Rattle.gt_lines.specs.Number.{number_of}
use Rattle.gt_table.specs.declared.form.Arg.{Arg}
use Rattle.gt_table.specs.declared.form.Kind.{Kind}
use Rattle.gt_table.specs.declared.form.Step.{Step}
use Rattle.gt_table.specs.declared.form.Values.{Values}
use Rattle.gt_table.specs.declared.table.Keyword.{Keyword}
use Rattle.gt_table.specs.Forms.{is_wanted, takes, is_kind_function, is_kind_timer}
use Rattle.gt_table.specs.Table.{keyword_of, case_keyword_of, ctx_keyword_of, cancel_with, form_of, step_of}
use Rattle.gt_names.specs.declared.names.Declared.{Declared}
use Rattle.gt_names.specs.Names.{Names, is_free_name}
use Rattle.gt_grammar.specs.declared.statement.Statement.{Statement}
use Rattle.gt_grammar.specs.Duration.{duration_of}

-- the first line: `gotime script 1`
abbrev pub is_head : Words → Bool
is_head (name ∷ kind ∷ version ∷ []) = bytes_eq name (codes "gotime") && bytes_eq kind (codes "script") && bytes_eq version (codes "1")
is_head _ = false

-- a word that is taken off, and the words behind it; one that is not wanted is empty
pub record Taken : Type 0 where
  pub word : List ℕ
  pub rest : Words

abbrev pub taking : List ℕ → Words → Taken
taking word rest = record { word = word; rest = rest }

abbrev pub taken : Bool → Words → Option Taken
taken false words = Some (taking [] words)
taken true [] = None
taken true (word ∷ words) = Some (taking word words)

-- a keyword with the words behind it that it wants
pub record Command : Type 0 where
  pub keyword : Keyword
  pub first : List ℕ
  pub second : List ℕ
  pub third : List ℕ
  pub fourth : List ℕ

abbrev pub command : Keyword → List ℕ → List ℕ → List ℕ → List ℕ → Command
command keyword first second third fourth = record { keyword = keyword; first = first; second = second; third = third; fourth = fourth }

abbrev pub are_none : Words → Bool
are_none [] = true
are_none (word ∷ words) = false

abbrev pub are_two : Words → Bool
are_two (first ∷ second ∷ words) = true
are_two _ = false

-- no word is left
abbrev pub complete : Keyword → List ℕ → List ℕ → List ℕ → Taken → Option Command
complete k first second third fourth = if are_none fourth.rest then Some (command k first second third fourth.word) else None

-- what stands behind the first word and the second one
abbrev pub tail_by : Keyword → Bool → Bool → List ℕ → List ℕ → Words → Option Command
tail_by k third fourth a b words =
    option_and_then (λ (c : Taken). option_and_then (complete k a b c.word) (taken fourth c.rest)) (taken third words)

abbrev pub tail_with : Keyword → List ℕ → List ℕ → Words → Option Command
tail_with k a b words = tail_by k (is_wanted (form_of k).third) (is_wanted (form_of k).fourth) a b words

abbrev pub command_by : Keyword → Bool → Bool → Words → Option Command
command_by k first second words =
    option_and_then (λ (a : Taken). option_and_then (λ (b : Taken). tail_with k a.word b.word b.rest) (taken second a.rest)) (taken first words)

abbrev pub command_with : Keyword → Words → Option Command
command_with k words = command_by k (is_wanted (form_of k).first) (is_wanted (form_of k).second) words

abbrev pub command_in : Option Keyword → Words → Option Command
command_in k words = option_and_then (λ (k : Keyword). command_with k words) k

-- the words behind `case`: what the case does, and what follows it
abbrev pub case_of : Words → Option Command
case_of [] = None
case_of (word ∷ words) = command_in (case_keyword_of word) words

-- the words behind `ctx`: a name, its parent, the form, and what follows that; two words are a duration and a cause
abbrev pub ctx_of : Words → Option Command
ctx_of (name ∷ parent ∷ word ∷ words) = option_and_then (λ (k : Keyword). tail_with k name parent words) (ctx_keyword_of word (are_two words))
ctx_of _ = None

-- the words behind `cancel`: two are a name and a cause
abbrev pub cancel_of : Words → Option Command
cancel_of words = command_with (cancel_with (are_two words)) words

abbrev pub command_of : Words → Option Command
command_of [] = None
command_of (word ∷ words) =
    if bytes_eq word (codes "case") then case_of words
    else if bytes_eq word (codes "ctx") then ctx_of words
    else if bytes_eq word (codes "cancel") then cancel_of words
    else command_in (keyword_of word) words

-- the place of what a name is declared as, if this holds of its kind
abbrev pub place_if : (Kind → Bool) → Declared → Option ℕ
place_if holds d = if holds d.kind then Some d.place else None

abbrev pub function_place : Declared → Option ℕ
function_place d = if is_kind_function d.kind then Some d.func else None

-- the value of an object's name
abbrev pub object_of : Names → Arg → List ℕ → Option ℕ
object_of names arg word = option_and_then (place_if (takes arg)) (names word)

-- the value of a parent: that of a context counts from 1, and the root is 0
abbrev pub parent_of : Names → List ℕ → Option ℕ
parent_of names word = if bytes_eq word (codes "root") then Some 0 else option_map suc (object_of names Arg.Parent word)

-- the number that a word spells, if it is at most this
abbrev pub number_to : ℕ → List ℕ → Option ℕ
number_to most word = elim (number_of word) [ None ↦ None | Some n ↦ if nat_le n most then Some n else None ]

-- how many passes of a loop a word spells: at most 1,000,000
abbrev pub passes_of : List ℕ → Option ℕ
passes_of word = number_to most_passes word

-- what a word adds to a counter: a number, with `-` in front where it is taken off. It counts from the least that is
abbrev pub added_of : List ℕ → Option ℕ
added_of [] = None
added_of (b ∷ bs) =
    if b == 45 then option_map (λ n. most_added - n) (number_to most_added bs) else option_map (λ n. most_added + n) (number_to most_added (b ∷ bs))

-- The value of a word: for a name the place at which it is declared first, for a parent one more, for an amount the amount, and for what is added how far it
-- lies above the least that is. None where the word is wrong
abbrev pub value_of : Names → Arg → List ℕ → Option ℕ
value_of names Arg.Nothing word = Some 0
value_of names Arg.NewName word = if is_free_name word then option_map (λ (d : Declared). d.place) (names word) else None
value_of names Arg.Setting word = object_of names Arg.Setting word
value_of names Arg.Channel word = object_of names Arg.Channel word
value_of names Arg.Source word = object_of names Arg.Source word
value_of names Arg.Mutex word = object_of names Arg.Mutex word
value_of names Arg.WaitGroup word = object_of names Arg.WaitGroup word
value_of names Arg.Cond word = object_of names Arg.Cond word
value_of names Arg.Parent word = parent_of names word
value_of names Arg.Context word = object_of names Arg.Context word
value_of names Arg.Endable word = object_of names Arg.Endable word
value_of names Arg.Causable word = object_of names Arg.Causable word
value_of names Arg.Hook word = object_of names Arg.Hook word
value_of names Arg.Error word = object_of names Arg.Error word
value_of names Arg.Function word = option_and_then function_place (names word)
value_of names Arg.Duration word = duration_of word
value_of names Arg.Number word = number_of word
value_of names Arg.Passes word = passes_of word
value_of names Arg.Capacity word = number_to most_capacity word
value_of names Arg.Added word = added_of word

-- whether a name is declared as a channel timer
abbrev pub is_ticking : Option Declared → Bool
is_ticking None = false
is_ticking (Some d) = is_kind_timer d.kind

abbrev pub is_case_recv : Keyword → Bool
is_case_recv Keyword.CaseRecv = true
is_case_recv _ = false

-- whether a command is a case that receives from a timer
abbrev pub awaits_timer : Names → Command → Bool
awaits_timer names c = is_case_recv c.keyword && is_ticking (names c.first)

-- a command, with its names looked up and its amounts read
abbrev pub statement_of : Names → Command → Statement
statement_of names c = record {
  keyword = c.keyword;
  first = value_of names (form_of c.keyword).first c.first;
  second = value_of names (form_of c.keyword).second c.second;
  third = value_of names (form_of c.keyword).third c.third;
  fourth = value_of names (form_of c.keyword).fourth c.fourth;
  awaits = awaits_timer names c;
}

abbrev pub values : ℕ → ℕ → ℕ → ℕ → Values
values first second third fourth = record { first = first; second = second; third = third; fourth = fourth }

abbrev pub step_by : Keyword → Option ℕ → Option ℕ → Option ℕ → Option ℕ → Option Step
step_by k (Some a) (Some b) (Some c) (Some d) = Some (step_of k (values a b c d))
step_by k (Some a) (Some b) (Some c) None = None
step_by k (Some a) (Some b) None d = None
step_by k (Some a) None c d = None
step_by k None b c d = None

-- what a statement does, if none of its words is wrong
abbrev pub step_with : Statement → Option Step
step_with s = step_by s.keyword s.first s.second s.third s.fourth
