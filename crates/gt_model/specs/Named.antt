-- Entries that can be printed: what they name is declared as such, and goroutines are numbered from 1.
use Rattle.std.specs.Prelude.{◌<◌, ◌≤◌, IsTrue, IfSome, List, [], ◌∷◌, length}
use Rattle.gt_model.specs.declared.script.Script.{Script}
use Rattle.std.specs.declared.option.Option.{Option}
use Rattle.std.specs.declared.option.Option.TheVariants.{None, Some}
use Rattle.gt_model.specs.declared.entry.Entry.{Entry}
use Rattle.gt_model.specs.declared.context.CauseVal.{CauseVal}
use Rattle.gt_model.specs.Script.{is_timer, is_func, is_chan, is_mutex, is_wg, is_cond, is_ctx, is_hook, is_error}
use Rattle.gt_model.specs.Good.{is_setting}
use Rattle.gt_model.specs.Parts.{Part, keyword, goroutine, maybe_goroutine, party, number, maybe_number, signed, timer, after_func, setting, channel, mutex, wait_group, cond, function, context, hook, ended, error, cause, flag, reason, outcome, parts_of}

-- an error that is a cause is declared
abbrev pub IsNamedCause : Script → Option CauseVal → Type 0
IsNamedCause script None = Unit {0}
IsNamedCause script (Some CauseVal.Canceled) = Unit {0}
IsNamedCause script (Some CauseVal.DeadlineExceeded) = Unit {0}
IsNamedCause script (Some (CauseVal.Named e)) = IsTrue (is_error script e)

abbrev pub IsNamedPart : Script → Part → Type 0
IsNamedPart script (keyword word) = Unit {0}
IsNamedPart script (goroutine g) = 1 ≤ g
IsNamedPart script (maybe_goroutine g) = IfSome g (λ g. 1 ≤ g)
IsNamedPart script (party p) = 1 ≤ p.g
IsNamedPart script (number n) = Unit {0}
IsNamedPart script (maybe_number n) = Unit {0}
IsNamedPart script (signed n) = Unit {0}
IsNamedPart script (timer t) = IsTrue (is_timer script t)
IsNamedPart script (after_func t) = IsTrue (is_func script t)
IsNamedPart script (setting t) = IsTrue (is_setting script t)
IsNamedPart script (channel c) = IsTrue (is_chan script c)
IsNamedPart script (mutex m) = IsTrue (is_mutex script m)
IsNamedPart script (wait_group w) = IsTrue (is_wg script w)
IsNamedPart script (cond k) = IsTrue (is_cond script k)
IsNamedPart script (function f) = f < length script.funcs
IsNamedPart script (context x) = IsTrue (is_ctx script x)
IsNamedPart script (hook s) = IsTrue (is_hook script s)
IsNamedPart script (ended so) = Unit {0}
IsNamedPart script (error err) = Unit {0}
IsNamedPart script (cause why) = IsNamedCause script why
IsNamedPart script (flag b) = Unit {0}
IsNamedPart script (reason why) = Unit {0}
IsNamedPart script (outcome how) = Unit {0}

abbrev pub AreNamed : Script → List Part → Type 0
AreNamed script [] = Unit {0}
AreNamed script (p ∷ ps) = IsNamedPart script p × AreNamed script ps

-- each part of an entry is named
abbrev pub IsNamed : Script → Entry → Type 0
IsNamed script e = AreNamed script (parts_of e)

abbrev pub AllNamed : Script → List Entry → Type 0
AllNamed script [] = Unit {0}
AllNamed script (e ∷ h) = IsNamed script e × AllNamed script h
