-- What names are declared as.
use Rattle.std.specs.Prelude.{ℕ, ◌&&◌, Bool, not, if◌then◌else◌, List, [], ◌∷◌, codes}
use Rattle.std.specs.Option.{option_map, option_and_then}
use Rattle.std.specs.Str.{bytes_eq}
use Rattle.std.specs.declared.option.Option.{Option}
use Rattle.std.specs.declared.option.Option.TheVariants.{None, Some}
use Rattle.gt_model.specs.Good.{is_name}
use Rattle.gt_lines.specs.Words.{Words, NumberedLine, next}
use Rattle.gt_table.specs.declared.form.CtxForm.{CtxForm}
use Rattle.gt_table.specs.declared.form.Kind.{Kind}
use Rattle.gt_table.specs.declared.table.Keyword.{Keyword}
use Rattle.gt_table.specs.Forms.{declared_kind}
use Rattle.gt_table.specs.Table.{keyword_of, ctx_form_of, form_of}
use Rattle.gt_names.specs.declared.names.Declared.{Declared}

-- a word that may be declared: a name, but not `root`
abbrev pub is_free_name : List ℕ → Bool
is_free_name word = is_name word && not (bytes_eq word (codes "root"))

-- the form that a context's line tells, which has these words behind its first: its fourth word, if that is the word of a form
abbrev pub form_told : Words → Option CtxForm
form_told (name ∷ parent ∷ word ∷ words) = ctx_form_of word
form_told _ = None

-- what a line with this first word and these behind it declares its name as
abbrev pub kind_of : List ℕ → Words → Option Kind
kind_of word words =
    if bytes_eq word (codes "ctx") then Some (Kind.Ctx (form_told words))
    else option_and_then (λ (k : Keyword). declared_kind (form_of k).role) (keyword_of word)

-- A name that a line declares: its first word is that of a declaration, and its second word the name, whatever else is wrong with it
pub record Naming : Type 0 where
  pub name : List ℕ
  pub kind : Kind

abbrev pub naming : List ℕ → Kind → Naming
naming name kind = record { name = name; kind = kind }

abbrev pub named : List ℕ → Option Kind → Option Naming
named name kind = if is_free_name name then option_map (naming name) kind else None

abbrev pub naming_of : Words → Option Naming
naming_of (word ∷ name ∷ words) = named name (kind_of word (name ∷ words))
naming_of _ = None

-- how many functions there are with one of this kind
abbrev pub functions_with : Kind → ℕ → ℕ
functions_with Kind.Function functions = next functions
functions_with Kind.Timer functions = functions
functions_with Kind.Ticker functions = functions
functions_with Kind.AfterFunc functions = functions
functions_with Kind.Chan functions = functions
functions_with Kind.Mutex functions = functions
functions_with Kind.Wg functions = functions
functions_with Kind.Cond functions = functions
functions_with (Kind.Ctx form) functions = functions
functions_with Kind.Hook functions = functions
functions_with Kind.Error functions = functions

-- a declared name
pub record Declaration : Type 0 where
  pub name : List ℕ
  pub declared : Declared

abbrev pub declaration : Naming → ℕ → ℕ → Declaration
declaration n place func = record { name = n.name; declared = record { kind = n.kind; place = place; func = func } }

-- what lines declare, where so many names, and functions among them, are declared in front of them
abbrev pub declarations_from : ℕ → ℕ → List NumberedLine → List Declaration
declarations_from names functions [] = []
declarations_from names functions (line ∷ lines) = elim (naming_of line.words) [
  | None ↦ declarations_from names functions lines
  | Some n ↦ declaration n names functions ∷ declarations_from (next names) (functions_with n.kind functions) lines
]

-- what names are declared as
abbrev pub Names : Type 0
Names = List ℕ → Option Declared

-- the first declaration of a name counts
abbrev pub find : List Declaration → Names
find [] name = None
find (d ∷ ds) name = if bytes_eq name d.name then Some d.declared else find ds name

abbrev pub names_of : List NumberedLine → Names
names_of lines = find (declarations_from 0 0 lines)
