-- The text of a history: a line for each entry.
use Rattle.std.specs.Prelude.{ℕ, ◌==◌, if◌then◌else◌, true, false, Bool, List, [], ◌++◌, codes, decimal, map, slice_get}
use Rattle.std.specs.Fmt.{signed_decimal}
use Rattle.std.specs.List.{flat_map, join_with_byte}
use Rattle.std.specs.declared.option.Option.{Option}
use Rattle.std.specs.declared.option.Option.TheVariants.{None, Some}
use Rattle.gt_model.specs.declared.script.Script.{Script}
use Rattle.gt_model.specs.declared.context.ErrVal.{ErrVal}
use Rattle.gt_model.specs.declared.context.CauseVal.{CauseVal}
use Rattle.gt_model.specs.declared.entry.Entry.{Entry}
use Rattle.gt_model.specs.declared.entry.Outcome.{Outcome}
use Rattle.gt_model.specs.declared.entry.Party.{Party}
use Rattle.gt_model.specs.declared.entry.Reason.{Reason}
use Rattle.gt_model.specs.Parts.{Part, keyword, goroutine, maybe_goroutine, party, number, maybe_number, signed, timer, after_func, setting, channel, mutex, wait_group, cond, function, context, hook, ended, error, cause, flag, reason, outcome, parts_of}

-- the byte between two words
abbrev pub space : ℕ
space = 32

-- the name that is declared at a place of the script's declarations
abbrev pub name_of : Script → ℕ → List ℕ
name_of script place = elim (slice_get script.decls place) [ None ↦ [] | Some decl ↦ decl.name ]

-- the name of the function at a place of the script's functions
abbrev pub function_name : Script → ℕ → List ℕ
function_name script f = elim (slice_get script.funcs f) [ None ↦ [] | Some func ↦ name_of script func.decl ]

-- a goroutine
abbrev pub goroutine_word : ℕ → List ℕ
goroutine_word g = codes "g" ++ decimal g

-- a goroutine, where there is one
abbrev pub maybe_goroutine_word : Option ℕ → List ℕ
maybe_goroutine_word None = codes "-"
maybe_goroutine_word (Some g) = goroutine_word g

-- the case of a select behind its goroutine; a plain instruction has none
abbrev pub case_suffix : ℕ → List ℕ
case_suffix case_no = if case_no == 0 then [] else codes "/" ++ decimal case_no

-- a goroutine at its plain instruction, or at a case of its select
abbrev pub party_word : Party → List ℕ
party_word p = goroutine_word p.g ++ case_suffix p.case_no

-- a number, a time or a value, where there is one
abbrev pub maybe_word : Option ℕ → List ℕ
maybe_word None = codes "-"
maybe_word (Some n) = decimal n

-- yes or no, where it is told
abbrev pub flag_word : Option Bool → List ℕ
flag_word None = codes "-"
flag_word (Some true) = codes "true"
flag_word (Some false) = codes "false"

-- whether a context has ended at once
abbrev pub ended_word : Bool → List ℕ
ended_word true = codes "ended"
ended_word false = codes "live"

-- the error of a context
abbrev pub error_word : Option ErrVal → List ℕ
error_word None = codes "nil"
error_word (Some ErrVal.Canceled) = codes "context canceled"
error_word (Some ErrVal.DeadlineExceeded) = codes "context deadline exceeded"

-- the cause of its end: one of the same texts, or a declared error
abbrev pub cause_word : Script → Option CauseVal → List ℕ
cause_word script None = codes "nil"
cause_word script (Some CauseVal.Canceled) = codes "context canceled"
cause_word script (Some CauseVal.DeadlineExceeded) = codes "context deadline exceeded"
cause_word script (Some (CauseVal.Named e)) = codes "error " ++ name_of script e

-- why a goroutine panics
abbrev pub reason_word : Reason → List ℕ
reason_word Reason.Unmade = codes "unmade"
reason_word Reason.Twice = codes "twice"
reason_word Reason.Closed = codes "closed"
reason_word Reason.Ticker = codes "ticker"
reason_word Reason.Negative = codes "negative"
reason_word Reason.Unlocked = codes "unlocked"

-- how a run ended
abbrev pub outcome_word : Outcome → List ℕ
outcome_word Outcome.Exit = codes "exit"
outcome_word Outcome.Deadlock = codes "deadlock"
outcome_word Outcome.Panic = codes "panic"
outcome_word Outcome.Limit = codes "limit"

-- what a line says for a part: a word, or for an error or a cause its text
abbrev pub word_of : Script → Part → List ℕ
word_of script (keyword word) = word
word_of script (goroutine g) = goroutine_word g
word_of script (maybe_goroutine g) = maybe_goroutine_word g
word_of script (party p) = party_word p
word_of script (number n) = decimal n
word_of script (maybe_number n) = maybe_word n
word_of script (signed n) = signed_decimal n
word_of script (timer t) = name_of script t
word_of script (after_func t) = name_of script t
word_of script (setting t) = name_of script t
word_of script (channel c) = name_of script c
word_of script (mutex m) = name_of script m
word_of script (wait_group w) = name_of script w
word_of script (cond k) = name_of script k
word_of script (function f) = function_name script f
word_of script (context x) = name_of script x
word_of script (hook s) = name_of script s
word_of script (ended so) = ended_word so
word_of script (error err) = error_word err
word_of script (cause why) = cause_word script why
word_of script (flag b) = flag_word b
word_of script (reason why) = reason_word why
word_of script (outcome how) = outcome_word how

-- the words of an entry's line: one for each part
abbrev pub words_of : Script → Entry → List (List ℕ)
words_of script entry = map (word_of script) (parts_of entry)

-- the line of an entry: its words with a space between each two, and a line feed
abbrev pub line_of : Script → Entry → List ℕ
line_of script entry = join_with_byte space (words_of script entry) ++ codes "\n"

-- the text of a history
abbrev pub text : Script → List Entry → List ℕ
text script history = flat_map (line_of script) history
