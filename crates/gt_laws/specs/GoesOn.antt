-- Who can go on, and where nobody can: told by the entries and the script alone.
use Rattle.std.specs.Prelude.{ℕ, ◌+◌, nat_le, nat_lt, ◌==◌, ◌≡◌, cond, if◌then◌else◌, Bool, true, false, ◌&&◌, ◌||◌, not, is_some, is_none, IsTrue, List, [], ◌∷◌, ◌++◌, length}
use Rattle.std.specs.List.{filter_map, list_any, enumerate_from}
use Rattle.std.specs.declared.option.Option.{Option}
use Rattle.std.specs.declared.option.Option.TheVariants.{None, Some}
use Rattle.std.specs.Option.{option_and_then}
use Rattle.gt_model.specs.declared.script.Script.{Script}
use Rattle.gt_model.specs.declared.script.Instr.{Instr}
use Rattle.gt_model.specs.declared.script.Place.{Place}
use Rattle.gt_model.specs.declared.script.What.{What}
use Rattle.gt_model.specs.declared.entry.Entry.{Entry}
use Rattle.gt_model.specs.declared.entry.Reason.{Reason}
use Rattle.gt_model.specs.Script.{is_func, is_chan, instr_at, what_at, mutex_of, capacity_of, parent_of, ctx_of}
use Rattle.gt_model.specs.declared.script.Case.{Case}
use Rattle.gt_model.specs.declared.script.CaseKind.{CaseKind}
use Rattle.gt_rules.specs.Operations.{offers, polls, receives_from, sends_to}
use Rattle.gt_rules.specs.Panics.{when, or_else, zero_ticker, falls_below}
use Rattle.gt_rules.specs.Ready.{is_due}
use Rattle.gt_laws.specs.Told.{ToldGoroutine, ToldTimer, Wait, awake, asleep, suspended, signalled, clock_told, due_told, made_told, opened_told, closed_told, sent_told, taken_told, held_told, counter_told, derived_told, registered_told, everyone_told, now_told, place_told, wait_told, owner_told, until_in, stands_in}
use Rattle.gt_laws.specs.Contexts.{ended_told, own_told, own_is_due}

-- whether a timer, a channel or a context was made
abbrev pub has_told : List Entry → ℕ → Bool
has_told front o = made_told o front || opened_told o front || derived_told o front

-- the misuse of a case's object, which was not made. That a channel is closed is none before its send is chosen
abbrev pub case_misuse : List Entry → CaseKind → Option Reason
case_misuse front (CaseKind.Recv o) = when (not (has_told front o)) Reason.Unmade
case_misuse front (CaseKind.Send c v) = when (not (opened_told c front)) Reason.Unmade

-- that of the first case with a misuse, and the number of that case, where the first one has the number n
abbrev pub choice_misuse : List Entry → List Case → Option Reason
choice_misuse front [] = None
choice_misuse front (c ∷ cases) = or_else (case_misuse front c.kind) (choice_misuse front cases)

abbrev pub misused_from : List Entry → ℕ → List Case → ℕ
misused_from front n [] = n
misused_from front n (c ∷ cases) = cond (is_some (case_misuse front c.kind)) n (misused_from front (n + 1) cases)

-- the use of a context that was not made; the root, which nobody makes, is none of the declared ones
abbrev pub underived : List Entry → Option ℕ → Option Reason
underived front None = None
underived front (Some x) = when (not (derived_told x front)) Reason.Unmade

-- the misuse of an instruction here: a timer, a channel or a context is made once, and used where it was made; a ticker has a time between its ticks; nothing is
-- sent to a channel that was closed, and it is closed once; a mutex is unlocked where it is locked, and who waits at a Cond unlocks one; nothing brings a counter
-- below 0; a context is made where its parent was, and a hook is registered once, where its context was made, and taken back where it was registered
abbrev pub misuse_told : Script → List Entry → Instr → Option Reason
misuse_told script front (Instr.Say n) = None
misuse_told script front Instr.Now = None
misuse_told script front (Instr.Sleep d) = None
misuse_told script front (Instr.Go f) = None
misuse_told script front (Instr.New t d) = or_else (when (made_told t front) Reason.Twice) (zero_ticker script t d)
misuse_told script front (Instr.Stop t) = when (not (made_told t front)) Reason.Unmade
misuse_told script front (Instr.Reset t d) = or_else (when (not (made_told t front)) Reason.Unmade) (zero_ticker script t d)
misuse_told script front (Instr.Recv o) = when (not (has_told front o)) Reason.Unmade
misuse_told script front (Instr.Make c) = when (opened_told c front) Reason.Twice
misuse_told script front (Instr.Send c v) = or_else (when (not (opened_told c front)) Reason.Unmade) (when (closed_told c front) Reason.Closed)
misuse_told script front (Instr.Close c) = or_else (when (not (opened_told c front)) Reason.Unmade) (when (closed_told c front) Reason.Closed)
misuse_told script front (Instr.Lock m) = None
misuse_told script front (Instr.Unlock m) = when (not (held_told script m front)) Reason.Unlocked
misuse_told script front (Instr.CWait k) = when (not (held_told script (mutex_of script k) front)) Reason.Unlocked
misuse_told script front (Instr.Signal k) = None
misuse_told script front (Instr.Broadcast k) = None
misuse_told script front (Instr.Add w n) = when (falls_below (counter_told w front) n) Reason.Negative
misuse_told script front (Instr.Wait w) = None
misuse_told script front (Instr.With x) = or_else (when (derived_told x front) Reason.Twice) (underived front (parent_of script x))
misuse_told script front (Instr.Cancel x cause) = underived front (Some x)
misuse_told script front (Instr.ErrOf x) = underived front (Some x)
misuse_told script front (Instr.CauseOf x) = underived front (Some x)
misuse_told script front (Instr.After s) = or_else (when (registered_told s front) Reason.Twice) (underived front (ctx_of script s))
misuse_told script front (Instr.Unhook s) = when (not (registered_told s front)) Reason.Unmade
misuse_told script front (Instr.Select cases default_to) = choice_misuse front cases
misuse_told script front (Instr.LoopTop depth count past) = None
misuse_told script front (Instr.LoopEnd depth top) = None
misuse_told script front (Instr.Jump to) = None
misuse_told script front Instr.Finish = None

-- that of who stands there, where somebody does
abbrev pub misuse_in : Script → List Entry → Option Instr → Option Reason
misuse_in script front None = None
misuse_in script front (Some i) = misuse_told script front i

-- the case number of a misuse: 0 but at a choice
abbrev pub misused_case : List Entry → Instr → ℕ
misused_case front (Instr.Select cases default_to) = misused_from front 1 cases
misused_case front _ = 0

-- ---- the partner of who stands at a channel that keeps no values

-- whether an operation of an instruction is a receive from this object, or a send to it
abbrev pub waits_for : ℕ → Instr → Bool
waits_for t i = offers (receives_from t) i

abbrev pub sends_for : ℕ → Instr → Bool
sends_for k i = offers (sends_to k) i

-- whether an instruction passes a test, would wait, and is no misuse
abbrev pub meets_at : Script → List Entry → (Instr → Bool) → Option Instr → Bool
meets_at script front test None = false
meets_at script front test (Some i) = is_none (misuse_told script front i) && not (polls i) && test i

-- whether goroutine e.0, which is e.1, is another one than g, and stands at such an instruction
abbrev pub is_partner_told : Script → List Entry → ℕ → (Instr → Bool) → ℕ × ToldGoroutine → Bool
is_partner_told script front g test e = not (e.0 == g) && meets_at script front test (stands_in script e.1.place e.1.wait)

abbrev pub partner_told : Script → List Entry → ℕ → (Instr → Bool) → Bool
partner_told script front g test = list_any (is_partner_told script front g test) (enumerate_from 1 (everyone_told script front).goroutines)

-- ---- who goes on

-- whether a receive gives something by itself at this time: of a timer its due value, of a channel the next value, or nothing more where it was closed.
-- A mutex gives itself where nobody has it, a WaitGroup where its counter is 0, and a context where it was made and has ended
abbrev pub gives_told : Script → List Entry → ℕ → ℕ → Option What → Bool
gives_told script front now o None = false
gives_told script front now o (Some What.Timer) = is_due (due_told o front) now
gives_told script front now o (Some What.Ticker) = is_due (due_told o front) now
gives_told script front now o (Some (What.AfterFunc func)) = false
gives_told script front now o (Some (What.Chan cap)) = nat_lt (taken_told o front) (length (sent_told o front)) || closed_told o front
gives_told script front now o (Some What.Mutex) = not (held_told script o front)
gives_told script front now o (Some What.Wg) = counter_told o front == 0
gives_told script front now o (Some (What.Cond mutex)) = false
gives_told script front now o (Some (What.Ctx parent form)) = derived_told o front && ended_told script o front
gives_told script front now o (Some (What.Hook ctx func)) = false
gives_told script front now o (Some What.Error) = false
gives_told script front now o (Some What.Function) = false

-- whether an operation can go on by itself at this time, with a partner, and at all, by goroutine g
abbrev pub alone_told : Script → List Entry → ℕ → CaseKind → Bool
alone_told script front now (CaseKind.Recv o) = gives_told script front now o (what_at script o)
alone_told script front now (CaseKind.Send c v) = closed_told c front || nat_lt (length (sent_told c front)) (capacity_of script c + taken_told c front)

abbrev pub meets_told : Script → List Entry → ℕ → CaseKind → Bool
meets_told script front g (CaseKind.Recv o) = is_chan script o && capacity_of script o == 0 && partner_told script front g (sends_for o)
meets_told script front g (CaseKind.Send c v) = capacity_of script c == 0 && partner_told script front g (waits_for c)

abbrev pub can_operate : Script → List Entry → ℕ → ℕ → CaseKind → Bool
can_operate script front g now kind = alone_told script front now kind || meets_told script front g kind

-- whether goroutine g can do an instruction that is no misuse at this time
abbrev pub can_be_done : Script → List Entry → ℕ → ℕ → Instr → Bool
can_be_done script front g now (Instr.Say n) = true
can_be_done script front g now Instr.Now = true
can_be_done script front g now (Instr.Sleep d) = true
can_be_done script front g now (Instr.Go f) = true
can_be_done script front g now (Instr.New t d) = true
can_be_done script front g now (Instr.Stop t) = true
can_be_done script front g now (Instr.Reset t d) = true
can_be_done script front g now (Instr.Recv o) = can_operate script front g now (CaseKind.Recv o)
can_be_done script front g now (Instr.Make c) = true
can_be_done script front g now (Instr.Send c v) = can_operate script front g now (CaseKind.Send c v)
can_be_done script front g now (Instr.Close c) = true
can_be_done script front g now (Instr.Lock m) = can_operate script front g now (CaseKind.Recv m)
can_be_done script front g now (Instr.Unlock m) = true
can_be_done script front g now (Instr.CWait k) = true
can_be_done script front g now (Instr.Signal k) = true
can_be_done script front g now (Instr.Broadcast k) = true
can_be_done script front g now (Instr.Add w n) = true
can_be_done script front g now (Instr.Wait w) = can_operate script front g now (CaseKind.Recv w)
can_be_done script front g now (Instr.With x) = true
can_be_done script front g now (Instr.Cancel x cause) = true
can_be_done script front g now (Instr.ErrOf x) = true
can_be_done script front g now (Instr.CauseOf x) = true
can_be_done script front g now (Instr.After s) = true
can_be_done script front g now (Instr.Unhook s) = true
can_be_done script front g now (Instr.LoopTop depth count past) = false
can_be_done script front g now (Instr.LoopEnd depth top) = false
can_be_done script front g now (Instr.Jump to) = false
can_be_done script front g now (Instr.Select cases default_to) = is_some default_to || list_any (λ (c : Case). can_operate script front g now c.kind) cases
can_be_done script front g now Instr.Finish = true

abbrev pub goes_on_at : Script → List Entry → ℕ → ℕ → Option Instr → Bool
goes_on_at script front g now None = false
goes_on_at script front g now (Some i) = is_some (misuse_told script front i) || can_be_done script front g now i

-- who sleeps goes on where its time has come, who was signalled at a Cond where nobody has the mutex, and who is awake where it stands at a misuse or at what
-- can be done
abbrev pub goes_on_in : Script → List Entry → ℕ → ℕ → Option Place → Wait → Bool
goes_on_in script front g now place awake = goes_on_at script front g now (option_and_then (instr_at script) place)
goes_on_in script front g now place (asleep until) = nat_le until now
goes_on_in script front g now place (suspended k) = false
goes_on_in script front g now place (signalled k) = not (held_told script (mutex_of script k) front)

abbrev pub goes_on_told : Script → ℕ → List Entry → Bool
goes_on_told script g front = goes_on_in script front g (now_told script g front) (place_told script g front) (wait_told script g front)

-- nobody goes on, and no AfterFunc timer and no context that has not ended has come to its time
pub record IsStillTold (script : Script) (front : List Entry) : Type 0 where
  pub nobody : (g : ℕ) → goes_on_told script g front ≡ false
  pub no_func : (t : ℕ) → IsTrue (is_func script t) → is_due (due_told t front) (clock_told (owner_told script t front) front) ≡ false
  pub no_deadline : (x : ℕ) → ended_told script x front ≡ false → own_is_due script x front ≡ false

-- ---- the times that are still to come

abbrev pub waits_at : ℕ → Option Instr → Bool
waits_at t None = false
waits_at t (Some i) = waits_for t i

-- whether somebody of world w stands at a receive of timer t
abbrev pub waited_told : Script → ℕ → ℕ → List Entry → Bool
waited_told script w t front =
    list_any (λ (r : ToldGoroutine). r.world == w && waits_at t (stands_in script r.place r.wait)) (everyone_told script front).goroutines

abbrev pub sleep_in : ℕ → ToldGoroutine → Option ℕ
sleep_in w r = if r.world == w then until_in r.wait else None

-- the due time of a timer of world w counts where that is an AfterFunc timer, or somebody there waits for it
abbrev pub due_counted : Script → ℕ → List Entry → ℕ × Option ToldTimer → Option ℕ
due_counted script w front e = elim e.1 [
  | None ↦ None
  | Some r ↦ cond (r.owner == w && (is_func script e.0 || waited_told script w e.0 front)) (due_told e.0 front) None
]

-- the own deadline of a context of world w counts where that has not ended
abbrev pub own_counted : Script → ℕ → List Entry → ℕ × Option ℕ → Option ℕ
own_counted script w front e = elim e.1 [
  | None ↦ None
  | Some owner ↦ cond (owner == w && not (ended_told script e.0 front)) (own_told script e.0 front) None
]

-- the counted times of world w: the ends of its sleeps, the due times of its timers that count, and the deadlines of its contexts that have not ended
abbrev pub counted_told : Script → ℕ → List Entry → List ℕ
counted_told script w front =
    filter_map (sleep_in w) (everyone_told script front).goroutines
    ++ filter_map (due_counted script w front) (enumerate_from 0 (everyone_told script front).timers)
    ++ filter_map (own_counted script w front) (enumerate_from 0 (everyone_told script front).contexts)

-- nothing can go on: the program stands still, and no time is still to come
pub record IsStuckTold (script : Script) (front : List Entry) : Type 0 where
  pub still : IsStillTold script front
  pub none_counted : counted_told script 0 front ≡ []
