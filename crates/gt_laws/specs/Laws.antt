-- What each complete history keeps, read from its entries and its script alone. Each law says of each kind of entry, or of call, what it asks: Unit {0}
-- where nothing.
use Rattle.std.specs.Prelude.{ℕ, ℤ, zero, suc, ◌+◌, ◌≡◌, ◌≢◌, ◌<◌, ◌≤◌, List, [], ◌∷◌, ◌++◌, length, slice_get, Bool, true, false, not, ◌&&◌, cond, is_some, IsTrue, IsSome, IfSome, IsSomeAnd}
use Rattle.std.specs.List.{Contains}
use Rattle.std.specs.declared.option.Option.{Option}
use Rattle.std.specs.declared.option.Option.TheVariants.{None, Some}
use Rattle.gt_model.specs.declared.script.Script.{Script}
use Rattle.gt_model.specs.declared.script.Instr.{Instr}
use Rattle.gt_model.specs.declared.entry.Entry.{Entry}
use Rattle.gt_model.specs.declared.entry.Party.{Party}
use Rattle.gt_model.specs.declared.context.ErrVal.{ErrVal}
use Rattle.gt_model.specs.declared.context.CauseVal.{CauseVal}
use Rattle.gt_model.specs.declared.context.HookState.{HookState}
use Rattle.gt_model.specs.Script.{is_timer, is_ticker, is_func, is_chan, is_mutex, is_wg, is_ctx, mutex_of, capacity_of, parent_of, ctx_of}
use Rattle.gt_model.specs.Times.{greatest_time}
use Rattle.gt_rules.specs.Contexts.{is_waiting_hook}
use Rattle.gt_rules.specs.Legal.{due_at, sleep_end, LeavesBy}
use Rattle.gt_laws.specs.Told.{suspended, signalled, clock_told, due_told, made_told, opened_told, closed_told, sent_told, taken_told, held_told, counter_told, derived_told, registered_told, now_told, owner_told, period_told, stands_told, operation_told, polls_told, started_told, until_told, wait_told, suspended_told, hook_told, starts_told}
use Rattle.gt_laws.specs.Contexts.{ended_told, error_told, cause_told, hook_due_told, ends_at_once, own_is_due}
use Rattle.gt_model.specs.declared.entry.Reason.{Reason}
use Rattle.gt_model.specs.declared.script.CaseKind.{CaseKind}
use Rattle.gt_rules.specs.Operations.{operation, offers}
use Rattle.gt_rules.specs.Panics.{falls_below}
use Rattle.gt_laws.specs.GoesOn.{misuse_in, misuse_told, misused_case, alone_told}

-- it holds of each entry of a history, with the entries before it
abbrev pub AtEach : (List Entry → Entry → Type 0) → List Entry → Type 0
AtEach P h = (front : List Entry) (e : Entry) (rest : List Entry) → h ≡ front ++ e ∷ rest → P front e

-- Nothing comes before its time: a goroutine wakes, a timer fires and its value is received, and a context comes to its own deadline, where the clock of their
-- world has come to that time.
-- Who looks at the clock sees it. The program's clock rises, never past the greatest time, and there is no other
abbrev pub InTime : Script → List Entry → Entry → Type 0
InTime script front (Entry.Say g n) = Unit {0}
InTime script front (Entry.Now g at) = at ≡ now_told script g front
InTime script front (Entry.Go g child f) = Unit {0}
InTime script front (Entry.End g) = Unit {0}
InTime script front (Entry.Sleep g until) = Unit {0}
InTime script front (Entry.Wake g) = IsSomeAnd (until_told script g front) (λ until. until ≤ now_told script g front)
InTime script front (Entry.New g t due) = Unit {0}
InTime script front (Entry.Stop g t was) = Unit {0}
InTime script front (Entry.Reset g t was due) = Unit {0}
InTime script front (Entry.TRecv p t due next) = due ≤ now_told script p.g front
InTime script front (Entry.FireFunc t child) = IsSomeAnd (due_told t front) (λ due. due ≤ clock_told (owner_told script t front) front)
InTime script front (Entry.Make g c) = Unit {0}
InTime script front (Entry.Send p c v) = Unit {0}
InTime script front (Entry.Recv p c v) = Unit {0}
InTime script front (Entry.Pair from to c v) = Unit {0}
InTime script front (Entry.Close g c) = Unit {0}
InTime script front (Entry.Default g) = Unit {0}
InTime script front (Entry.Lock g m) = Unit {0}
InTime script front (Entry.Unlock g m) = Unit {0}
InTime script front (Entry.CondWait g k) = Unit {0}
InTime script front (Entry.CondWake g k) = Unit {0}
InTime script front (Entry.Signal g k woken) = Unit {0}
InTime script front (Entry.Broadcast g k count) = Unit {0}
InTime script front (Entry.Add g w n) = Unit {0}
InTime script front (Entry.WgWait g w) = Unit {0}
InTime script front (Entry.CtxMake g x ended) = Unit {0}
InTime script front (Entry.Cancel g x newly starts) = Unit {0}
InTime script front (Entry.Expire x starts) = IsTrue (own_is_due script x front)
InTime script front (Entry.CtxErr g x err) = Unit {0}
InTime script front (Entry.Cause g x cause) = Unit {0}
InTime script front (Entry.CtxDone p x) = Unit {0}
InTime script front (Entry.CtxAfter g s child) = Unit {0}
InTime script front (Entry.CtxStop g s stopped) = Unit {0}
InTime script front (Entry.Clock zero to) = (clock_told 0 front < to) × (to ≤ greatest_time)
InTime script front (Entry.Clock (suc world) to) = ⊥
InTime script front (Entry.Panic p reason) = Unit {0}
InTime script front (Entry.Finish outcome) = Unit {0}

-- what stops and resets answer: whether there is a setting that nothing ended; nothing of a ticker
abbrev pub answer_told : Script → ℕ → List Entry → Option Bool
answer_told script t front = cond (is_ticker script t) None (Some (is_some (due_told t front)))

-- No value of a setting that was ended: what is received is the value of the last setting, which no stop, no reset and no receive ended, and
-- this receive ends it. Of a ticker it is the tick that is due, and the receive leaves the next one: some periods behind it, the last but one of which has
-- begun. And stops and resets answer rightly
abbrev pub IsFresh : Script → List Entry → Entry → Type 0
IsFresh script front (Entry.Say g n) = Unit {0}
IsFresh script front (Entry.Now g at) = Unit {0}
IsFresh script front (Entry.Go g child f) = Unit {0}
IsFresh script front (Entry.End g) = Unit {0}
IsFresh script front (Entry.Sleep g until) = Unit {0}
IsFresh script front (Entry.Wake g) = Unit {0}
IsFresh script front (Entry.New g t due) = Unit {0}
IsFresh script front (Entry.Stop g t was) = was ≡ answer_told script t front
IsFresh script front (Entry.Reset g t was due) = was ≡ answer_told script t front
IsFresh script front (Entry.TRecv p t due next) =
    (due_told t front ≡ Some due) × LeavesBy (is_ticker script t) (now_told script p.g front) due (period_told script t front) next
IsFresh script front (Entry.FireFunc t child) = IsSome (due_told t front)
IsFresh script front (Entry.Make g c) = Unit {0}
IsFresh script front (Entry.Send p c v) = Unit {0}
IsFresh script front (Entry.Recv p c v) = Unit {0}
IsFresh script front (Entry.Pair from to c v) = Unit {0}
IsFresh script front (Entry.Close g c) = Unit {0}
IsFresh script front (Entry.Default g) = Unit {0}
IsFresh script front (Entry.Lock g m) = Unit {0}
IsFresh script front (Entry.Unlock g m) = Unit {0}
IsFresh script front (Entry.CondWait g k) = Unit {0}
IsFresh script front (Entry.CondWake g k) = Unit {0}
IsFresh script front (Entry.Signal g k woken) = Unit {0}
IsFresh script front (Entry.Broadcast g k count) = Unit {0}
IsFresh script front (Entry.Add g w n) = Unit {0}
IsFresh script front (Entry.WgWait g w) = Unit {0}
IsFresh script front (Entry.CtxMake g x ended) = Unit {0}
IsFresh script front (Entry.Cancel g x newly starts) = Unit {0}
IsFresh script front (Entry.Expire x starts) = Unit {0}
IsFresh script front (Entry.CtxErr g x err) = Unit {0}
IsFresh script front (Entry.Cause g x cause) = Unit {0}
IsFresh script front (Entry.CtxDone p x) = Unit {0}
IsFresh script front (Entry.CtxAfter g s child) = Unit {0}
IsFresh script front (Entry.CtxStop g s stopped) = Unit {0}
IsFresh script front (Entry.Clock world to) = Unit {0}
IsFresh script front (Entry.Panic p reason) = Unit {0}
IsFresh script front (Entry.Finish outcome) = Unit {0}

-- Each goroutine's calls, once and in order: an entry is the call of the instruction to which the goroutine's earlier entries have led it, made by one
-- that is awake, and who wakes was asleep. Only AfterFunc timers fire. Who is started has the next number, so no number is given twice. A sleep ends,
-- and a setting is due, as long after the goroutine's clock as the instruction says. A plain call has the case number 0, and the call of a case the number
-- of the case, from 1. A default is that of a choice. The value of a timer comes from a timer, that of a channel from a channel; what is locked is a mutex, and
-- what is waited for a WaitGroup. Where a value passes from one goroutine to another, these are two, who stand at the send and at the receive. Who waits at a
-- Cond goes on once it was signalled there: so each wake-up answers one signal or broadcast that came after its wait. Who finds a context ended waits for a
-- context, and who starts by a hook at once has the next number
abbrev pub InOrder : Script → List Entry → Entry → Type 0
InOrder script front (Entry.Say g n) = stands_told script g front ≡ Some (Instr.Say n)
InOrder script front (Entry.Now g at) = stands_told script g front ≡ Some Instr.Now
InOrder script front (Entry.Go g child f) = (stands_told script g front ≡ Some (Instr.Go f)) × (child ≡ started_told front + 1)
InOrder script front (Entry.End g) = stands_told script g front ≡ Some Instr.Finish
InOrder script front (Entry.Sleep g until) = (d : ℕ) × (stands_told script g front ≡ Some (Instr.Sleep d)) × (until ≡ sleep_end (now_told script g front) d)
InOrder script front (Entry.Wake g) = IsSome (until_told script g front)
InOrder script front (Entry.New g t due) = (d : ℕ) × (stands_told script g front ≡ Some (Instr.New t d)) × (due ≡ due_at (now_told script g front) d)
InOrder script front (Entry.Stop g t was) = stands_told script g front ≡ Some (Instr.Stop t)
InOrder script front (Entry.Reset g t was due) = (d : ℕ) × (stands_told script g front ≡ Some (Instr.Reset t d)) × (due ≡ due_at (now_told script g front) d)
InOrder script front (Entry.TRecv p t due next) = (operation_told script p front ≡ Some (CaseKind.Recv t)) × IsTrue (is_timer script t)
InOrder script front (Entry.FireFunc t child) = IsTrue (is_func script t) × (child ≡ started_told front + 1)
InOrder script front (Entry.Make g c) = stands_told script g front ≡ Some (Instr.Make c)
InOrder script front (Entry.Send p c v) = operation_told script p front ≡ Some (CaseKind.Send c v)
InOrder script front (Entry.Recv p c v) = (operation_told script p front ≡ Some (CaseKind.Recv c)) × IsTrue (is_chan script c)
InOrder script front (Entry.Pair from to c v) =
    (operation_told script from front ≡ Some (CaseKind.Send c v)) × (operation_told script to front ≡ Some (CaseKind.Recv c)) × (from.g ≢ to.g)
InOrder script front (Entry.Close g c) = stands_told script g front ≡ Some (Instr.Close c)
InOrder script front (Entry.Default g) = IsTrue (polls_told script g front)
InOrder script front (Entry.Lock g m) = (stands_told script g front ≡ Some (Instr.Lock m)) × IsTrue (is_mutex script m)
InOrder script front (Entry.Unlock g m) = stands_told script g front ≡ Some (Instr.Unlock m)
InOrder script front (Entry.CondWait g k) = stands_told script g front ≡ Some (Instr.CWait k)
InOrder script front (Entry.CondWake g k) = wait_told script g front ≡ signalled k
InOrder script front (Entry.Signal g k woken) = stands_told script g front ≡ Some (Instr.Signal k)
InOrder script front (Entry.Broadcast g k count) = stands_told script g front ≡ Some (Instr.Broadcast k)
InOrder script front (Entry.Add g w n) = stands_told script g front ≡ Some (Instr.Add w n)
InOrder script front (Entry.WgWait g w) = (stands_told script g front ≡ Some (Instr.Wait w)) × IsTrue (is_wg script w)
InOrder script front (Entry.CtxMake g x ended) = stands_told script g front ≡ Some (Instr.With x)
InOrder script front (Entry.Cancel g x newly starts) = (named : Option ℕ) × (stands_told script g front ≡ Some (Instr.Cancel x named))
InOrder script front (Entry.Expire x starts) = Unit {0}
InOrder script front (Entry.CtxErr g x err) = stands_told script g front ≡ Some (Instr.ErrOf x)
InOrder script front (Entry.Cause g x cause) = stands_told script g front ≡ Some (Instr.CauseOf x)
InOrder script front (Entry.CtxDone p x) = (operation_told script p front ≡ Some (CaseKind.Recv x)) × IsTrue (is_ctx script x)
InOrder script front (Entry.CtxAfter g s child) = (stands_told script g front ≡ Some (Instr.After s)) × IfSome child (λ k. k ≡ started_told front + 1)
InOrder script front (Entry.CtxStop g s stopped) = stands_told script g front ≡ Some (Instr.Unhook s)
InOrder script front (Entry.Clock world to) = Unit {0}
InOrder script front (Entry.Panic p reason) = IsSome (stands_told script p.g front)
InOrder script front (Entry.Finish outcome) = Unit {0}

-- the choice of a case that sends to a closed channel
abbrev pub ChoosesMisuse : List Entry → Option CaseKind → Reason → Type 0
ChoosesMisuse front (Some (CaseKind.Send c v)) reason = (closed_told c front ≡ true) × (reason ≡ Reason.Closed)
ChoosesMisuse front (Some (CaseKind.Recv o)) reason = ⊥
ChoosesMisuse front None reason = ⊥

-- the misuse of an instruction, with its case number; or, where it is none, the choice of a case that is one
abbrev pub IsMisuse : List Entry → Instr → ℕ → Reason → Option Reason → Type 0
IsMisuse front i case_no reason (Some why) = (why ≡ reason) × (case_no ≡ misused_case front i)
IsMisuse front i case_no reason None = ChoosesMisuse front (operation i case_no) reason

-- goroutine g stands at no misuse: at a choice no case has one
abbrev pub IsNoMisuse : Script → List Entry → ℕ → Type 0
IsNoMisuse script front g = misuse_in script front (stands_told script g front) ≡ None

-- the context was made that is named, if one is: a declared parent, or the context of a hook
abbrev pub AreDerived : List Entry → Option ℕ → Type 0
AreDerived front o = IfSome o (λ x. derived_told x front ≡ true)

-- A call is no misuse, and a panic is one: its goroutine stands at an instruction that is a misuse for this reason, or chooses a case that sends to a
-- closed channel. So a timer and a channel are made once, and used where they were made; a ticker has a time between its ticks; a channel is closed once, and
-- nothing is sent to it then; a mutex is unlocked where it is locked, be it by a wait at a Cond, and nothing brings the counter of a WaitGroup below 0. Where a
-- choice goes on, each of its cases names what was made. A context is made once, where its parent was made, and used where it was; a hook is registered once,
-- where its context was made, and taken back where it was registered
abbrev pub UsesRightly : Script → List Entry → Entry → Type 0
UsesRightly script front (Entry.Say g n) = Unit {0}
UsesRightly script front (Entry.Now g at) = Unit {0}
UsesRightly script front (Entry.Go g child f) = Unit {0}
UsesRightly script front (Entry.End g) = Unit {0}
UsesRightly script front (Entry.Sleep g until) = Unit {0}
UsesRightly script front (Entry.Wake g) = Unit {0}
UsesRightly script front (Entry.New g t due) = (made_told t front ≡ false) × IsNoMisuse script front g
UsesRightly script front (Entry.Stop g t was) = made_told t front ≡ true
UsesRightly script front (Entry.Reset g t was due) = (made_told t front ≡ true) × IsNoMisuse script front g
UsesRightly script front (Entry.TRecv p t due next) = (made_told t front ≡ true) × IsNoMisuse script front p.g
UsesRightly script front (Entry.FireFunc t child) = made_told t front ≡ true
UsesRightly script front (Entry.Make g c) = opened_told c front ≡ false
UsesRightly script front (Entry.Send p c v) = (opened_told c front ≡ true) × (closed_told c front ≡ false) × IsNoMisuse script front p.g
UsesRightly script front (Entry.Recv p c v) = (opened_told c front ≡ true) × IsNoMisuse script front p.g
UsesRightly script front (Entry.Pair from to c v) =
    (opened_told c front ≡ true) × (closed_told c front ≡ false) × IsNoMisuse script front from.g × IsNoMisuse script front to.g
UsesRightly script front (Entry.Close g c) = (opened_told c front ≡ true) × (closed_told c front ≡ false)
UsesRightly script front (Entry.Default g) = IsNoMisuse script front g
UsesRightly script front (Entry.Lock g m) = Unit {0}
UsesRightly script front (Entry.Unlock g m) = held_told script m front ≡ true
UsesRightly script front (Entry.CondWait g k) = held_told script (mutex_of script k) front ≡ true
UsesRightly script front (Entry.CondWake g k) = Unit {0}
UsesRightly script front (Entry.Signal g k woken) = Unit {0}
UsesRightly script front (Entry.Broadcast g k count) = Unit {0}
UsesRightly script front (Entry.Add g w n) = falls_below (counter_told w front) n ≡ false
UsesRightly script front (Entry.WgWait g w) = Unit {0}
UsesRightly script front (Entry.CtxMake g x ended) = (derived_told x front ≡ false) × AreDerived front (parent_of script x)
UsesRightly script front (Entry.Cancel g x newly starts) = derived_told x front ≡ true
UsesRightly script front (Entry.Expire x starts) = derived_told x front ≡ true
UsesRightly script front (Entry.CtxErr g x err) = derived_told x front ≡ true
UsesRightly script front (Entry.Cause g x cause) = derived_told x front ≡ true
UsesRightly script front (Entry.CtxDone p x) = (derived_told x front ≡ true) × IsNoMisuse script front p.g
UsesRightly script front (Entry.CtxAfter g s child) = (registered_told s front ≡ false) × AreDerived front (ctx_of script s)
UsesRightly script front (Entry.CtxStop g s stopped) = registered_told s front ≡ true
UsesRightly script front (Entry.Clock world to) = Unit {0}
UsesRightly script front (Entry.Panic p reason) =
    (i : Instr) × (stands_told script p.g front ≡ Some i) × IsMisuse front i p.case_no reason (misuse_told script front i)
UsesRightly script front (Entry.Finish outcome) = Unit {0}

-- what an entry does to a context or a hook
pub data TreeCall : Type 0 where
  -- a goroutine makes a context; whether it has ended at once
  derives : ℕ → ℕ → Bool → TreeCall
  -- a context is canceled; whether it had not ended before, and how many hooks are started by its end
  cancels : ℕ → Bool → ℕ → TreeCall
  -- a context comes to its deadline; how many hooks are started by its end
  expires : ℕ → ℕ → TreeCall
  -- the error of a context, or the cause of its end, is looked at; none before its end
  shows_error : ℕ → Option ErrVal → TreeCall
  shows_cause : ℕ → Option CauseVal → TreeCall
  -- a context is found ended
  finds_ended : ℕ → TreeCall
  -- a hook is registered; who was started at once, where its context has ended
  hangs : ℕ → Option ℕ → TreeCall
  -- a hook is taken back; whether that kept it from being started
  takes_back : ℕ → Bool → TreeCall

-- what an entry does to an object that is no timer, as far as the laws below ask for it; and that a default is taken
pub data Call : Type 0 where
  -- a channel keeps a value that is sent to it
  sends : ℕ → ℕ → Call
  -- the first value that a channel keeps is received; none where it is closed and drained
  receives : ℕ → Option ℕ → Call
  -- a value passes from one goroutine to another over a channel
  hands_over : Party → Party → ℕ → ℕ → Call
  -- a channel is closed
  closes : ℕ → Call
  -- a goroutine goes on at the default of its choice
  defaults : ℕ → Call
  -- a mutex is locked, and unlocked
  locks : ℕ → Call
  unlocks : ℕ → Call
  -- who waits at a Cond unlocks its mutex, and locks it again once it was signalled
  releases : ℕ → Call
  retakes : ℕ → Call
  -- one that waits at a Cond is signalled, if somebody is; and all that wait there, so many
  signals_one : ℕ → Option ℕ → Call
  signals_all : ℕ → ℕ → Call
  -- a number is added to the counter of a WaitGroup
  adds_to : ℕ → ℤ → Call
  -- a goroutine goes on behind its wait for a WaitGroup
  ends_wait : ℕ → Call
  -- something is done to a context or a hook
  of_tree : TreeCall → Call
  -- none of these
  other : Call

abbrev pub call_of : Entry → Call
call_of (Entry.Say g n) = other
call_of (Entry.Now g at) = other
call_of (Entry.Go g child f) = other
call_of (Entry.End g) = other
call_of (Entry.Sleep g until) = other
call_of (Entry.Wake g) = other
call_of (Entry.New g t due) = other
call_of (Entry.Stop g t was) = other
call_of (Entry.Reset g t was due) = other
call_of (Entry.TRecv p t due next) = other
call_of (Entry.FireFunc t child) = other
call_of (Entry.Make g c) = other
call_of (Entry.Send p c v) = sends c v
call_of (Entry.Recv p c v) = receives c v
call_of (Entry.Pair from to c v) = hands_over from to c v
call_of (Entry.Close g c) = closes c
call_of (Entry.Default g) = defaults g
call_of (Entry.Lock g m) = locks m
call_of (Entry.Unlock g m) = unlocks m
call_of (Entry.CondWait g k) = releases k
call_of (Entry.CondWake g k) = retakes k
call_of (Entry.Signal g k woken) = signals_one k woken
call_of (Entry.Broadcast g k count) = signals_all k count
call_of (Entry.Add g w n) = adds_to w n
call_of (Entry.WgWait g w) = ends_wait w
call_of (Entry.CtxMake g x ended) = of_tree (derives g x ended)
call_of (Entry.Cancel g x newly starts) = of_tree (cancels x newly starts)
call_of (Entry.Expire x starts) = of_tree (expires x starts)
call_of (Entry.CtxErr g x err) = of_tree (shows_error x err)
call_of (Entry.Cause g x cause) = of_tree (shows_cause x cause)
call_of (Entry.CtxDone p x) = of_tree (finds_ended x)
call_of (Entry.CtxAfter g s child) = of_tree (hangs s child)
call_of (Entry.CtxStop g s stopped) = of_tree (takes_back s stopped)
call_of (Entry.Clock world to) = other
call_of (Entry.Panic p reason) = other
call_of (Entry.Finish outcome) = other

-- The values of a channel come out in the order in which they were sent, each once and none invented, and there are never more in it than its capacity.
-- Nothing is sent after a close, and a receive gives nothing only after it, when the channel is drained. A channel without room passes a value from one
-- goroutine to another in one entry
abbrev pub CallPassesOn : Script → List Entry → Call → Type 0
CallPassesOn script front (sends c v) = (closed_told c front ≡ false) × (length (sent_told c front) < capacity_of script c + taken_told c front)
CallPassesOn script front (receives c (Some v)) = slice_get (sent_told c front) (taken_told c front) ≡ Some v
CallPassesOn script front (receives c None) = (closed_told c front ≡ true) × (taken_told c front ≡ length (sent_told c front))
CallPassesOn script front (hands_over from to c v) = (closed_told c front ≡ false) × (capacity_of script c ≡ 0)
CallPassesOn script front (closes c) = Unit {0}
CallPassesOn script front (defaults g) = Unit {0}
CallPassesOn script front (locks m) = Unit {0}
CallPassesOn script front (unlocks m) = Unit {0}
CallPassesOn script front (releases k) = Unit {0}
CallPassesOn script front (retakes k) = Unit {0}
CallPassesOn script front (signals_one k woken) = Unit {0}
CallPassesOn script front (signals_all k count) = Unit {0}
CallPassesOn script front (adds_to w n) = Unit {0}
CallPassesOn script front (ends_wait w) = Unit {0}
CallPassesOn script front (of_tree c) = Unit {0}
CallPassesOn script front other = Unit {0}

abbrev pub PassesOn : Script → List Entry → Entry → Type 0
PassesOn script front e = CallPassesOn script front (call_of e)

-- whether a case of an instruction could go on by itself
abbrev pub gives_some : Script → List Entry → ℕ → Option Instr → Bool
gives_some script front now None = false
gives_some script front now (Some i) = offers (alone_told script front now) i

-- A default is taken only where no case could go on by another cause than a partner, and where two meet, one of them would wait
abbrev pub CallChoosesRightly : Script → List Entry → Call → Type 0
CallChoosesRightly script front (sends c v) = Unit {0}
CallChoosesRightly script front (receives c v) = Unit {0}
CallChoosesRightly script front (hands_over from to c v) = (polls_told script from.g front && polls_told script to.g front) ≡ false
CallChoosesRightly script front (closes c) = Unit {0}
CallChoosesRightly script front (defaults g) = gives_some script front (now_told script g front) (stands_told script g front) ≡ false
CallChoosesRightly script front (locks m) = Unit {0}
CallChoosesRightly script front (unlocks m) = Unit {0}
CallChoosesRightly script front (releases k) = Unit {0}
CallChoosesRightly script front (retakes k) = Unit {0}
CallChoosesRightly script front (signals_one k woken) = Unit {0}
CallChoosesRightly script front (signals_all k count) = Unit {0}
CallChoosesRightly script front (adds_to w n) = Unit {0}
CallChoosesRightly script front (ends_wait w) = Unit {0}
CallChoosesRightly script front (of_tree c) = Unit {0}
CallChoosesRightly script front other = Unit {0}

abbrev pub ChoosesRightly : Script → List Entry → Entry → Type 0
ChoosesRightly script front e = CallChoosesRightly script front (call_of e)

-- A mutex is locked only where nobody has it, and unlocked only where it is held; a wait at a Cond unlocks it, and locks it again at its end. So between a lock
-- and the next unlock nobody else locks it
abbrev pub CallIsAlone : Script → List Entry → Call → Type 0
CallIsAlone script front (sends c v) = Unit {0}
CallIsAlone script front (receives c v) = Unit {0}
CallIsAlone script front (hands_over from to c v) = Unit {0}
CallIsAlone script front (closes c) = Unit {0}
CallIsAlone script front (defaults g) = Unit {0}
CallIsAlone script front (locks m) = held_told script m front ≡ false
CallIsAlone script front (unlocks m) = held_told script m front ≡ true
CallIsAlone script front (releases k) = held_told script (mutex_of script k) front ≡ true
CallIsAlone script front (retakes k) = held_told script (mutex_of script k) front ≡ false
CallIsAlone script front (signals_one k woken) = Unit {0}
CallIsAlone script front (signals_all k count) = Unit {0}
CallIsAlone script front (adds_to w n) = Unit {0}
CallIsAlone script front (ends_wait w) = Unit {0}
CallIsAlone script front (of_tree c) = Unit {0}
CallIsAlone script front other = Unit {0}

abbrev pub IsAlone : Script → List Entry → Entry → Type 0
IsAlone script front e = CallIsAlone script front (call_of e)

-- An add does not bring the counter of a WaitGroup below 0, and a wait goes on only where the sum of the adds is 0
abbrev pub CallAddsUp : List Entry → Call → Type 0
CallAddsUp front (sends c v) = Unit {0}
CallAddsUp front (receives c v) = Unit {0}
CallAddsUp front (hands_over from to c v) = Unit {0}
CallAddsUp front (closes c) = Unit {0}
CallAddsUp front (defaults g) = Unit {0}
CallAddsUp front (locks m) = Unit {0}
CallAddsUp front (unlocks m) = Unit {0}
CallAddsUp front (releases k) = Unit {0}
CallAddsUp front (retakes k) = Unit {0}
CallAddsUp front (signals_one k woken) = Unit {0}
CallAddsUp front (signals_all k count) = Unit {0}
CallAddsUp front (adds_to w n) = falls_below (counter_told w front) n ≡ false
CallAddsUp front (ends_wait w) = counter_told w front ≡ 0
CallAddsUp front (of_tree c) = Unit {0}
CallAddsUp front other = Unit {0}

abbrev pub AddsUp : List Entry → Entry → Type 0
AddsUp front e = CallAddsUp front (call_of e)

-- A signal names one that waits at its Cond, and names nobody exactly where nobody waits there; a broadcast says how many do. Who was signalled waits there no
-- more: so no signal wakes two, and none is lost while somebody waits
abbrev pub CallIsSignalled : Script → List Entry → Call → Type 0
CallIsSignalled script front (sends c v) = Unit {0}
CallIsSignalled script front (receives c v) = Unit {0}
CallIsSignalled script front (hands_over from to c v) = Unit {0}
CallIsSignalled script front (closes c) = Unit {0}
CallIsSignalled script front (defaults g) = Unit {0}
CallIsSignalled script front (locks m) = Unit {0}
CallIsSignalled script front (unlocks m) = Unit {0}
CallIsSignalled script front (releases k) = Unit {0}
CallIsSignalled script front (retakes k) = Unit {0}
CallIsSignalled script front (signals_one k None) = suspended_told script k front ≡ 0
CallIsSignalled script front (signals_one k (Some g)) = wait_told script g front ≡ suspended k
CallIsSignalled script front (signals_all k count) = count ≡ suspended_told script k front
CallIsSignalled script front (adds_to w n) = Unit {0}
CallIsSignalled script front (ends_wait w) = Unit {0}
CallIsSignalled script front (of_tree c) = Unit {0}
CallIsSignalled script front other = Unit {0}

abbrev pub IsSignalled : Script → List Entry → Entry → Type 0
IsSignalled script front e = CallIsSignalled script front (call_of e)

-- A context keeps the first cause of its end. Its end is the first one that reaches it: its own, or that of a context above it, be it canceled or come to its
-- deadline; what its error and its cause show is of that end, and nothing before it. It is found ended only after it. One that is made has ended at once exactly
-- where an end has reached it, or its own deadline has come; a cancellation says whether it brought the end; and a deadline ends only a context whose own it is,
-- not before, and that has no end yet. So no context ends twice
abbrev pub TreeKeepsFirstCause : Script → List Entry → TreeCall → Type 0
TreeKeepsFirstCause script front (derives g x ended) = ended ≡ ends_at_once script g x front
TreeKeepsFirstCause script front (cancels x newly starts) = newly ≡ not (ended_told script x front)
TreeKeepsFirstCause script front (expires x starts) = (ended_told script x front ≡ false) × IsTrue (own_is_due script x front)
TreeKeepsFirstCause script front (shows_error x err) = err ≡ error_told script x front
TreeKeepsFirstCause script front (shows_cause x cause) = cause ≡ cause_told script x front
TreeKeepsFirstCause script front (finds_ended x) = ended_told script x front ≡ true
TreeKeepsFirstCause script front (hangs s child) = Unit {0}
TreeKeepsFirstCause script front (takes_back s stopped) = Unit {0}

abbrev pub CallKeepsFirstCause : Script → List Entry → Call → Type 0
CallKeepsFirstCause script front (sends c v) = Unit {0}
CallKeepsFirstCause script front (receives c v) = Unit {0}
CallKeepsFirstCause script front (hands_over from to c v) = Unit {0}
CallKeepsFirstCause script front (closes c) = Unit {0}
CallKeepsFirstCause script front (defaults g) = Unit {0}
CallKeepsFirstCause script front (locks m) = Unit {0}
CallKeepsFirstCause script front (unlocks m) = Unit {0}
CallKeepsFirstCause script front (releases k) = Unit {0}
CallKeepsFirstCause script front (retakes k) = Unit {0}
CallKeepsFirstCause script front (signals_one k woken) = Unit {0}
CallKeepsFirstCause script front (signals_all k count) = Unit {0}
CallKeepsFirstCause script front (adds_to w n) = Unit {0}
CallKeepsFirstCause script front (ends_wait w) = Unit {0}
CallKeepsFirstCause script front (of_tree c) = TreeKeepsFirstCause script front c
CallKeepsFirstCause script front other = Unit {0}

abbrev pub KeepsFirstCause : Script → List Entry → Entry → Type 0
KeepsFirstCause script front e = CallKeepsFirstCause script front (call_of e)

-- A hook starts once: with the end of its context, or at once where that has ended. An end starts as many as wait on the contexts that it reaches, and a
-- cancellation that brings no end starts none. Who takes a hook back keeps it from being started exactly where it waits
abbrev pub TreeHooksOnce : Script → List Entry → TreeCall → Type 0
TreeHooksOnce script front (derives g x ended) = Unit {0}
TreeHooksOnce script front (cancels x newly starts) = starts ≡ cond newly (length (starts_told script x front)) 0
TreeHooksOnce script front (expires x starts) = starts ≡ length (starts_told script x front)
TreeHooksOnce script front (shows_error x err) = Unit {0}
TreeHooksOnce script front (shows_cause x cause) = Unit {0}
TreeHooksOnce script front (finds_ended x) = Unit {0}
TreeHooksOnce script front (hangs s child) = is_some child ≡ hook_due_told script s front
TreeHooksOnce script front (takes_back s stopped) = stopped ≡ is_waiting_hook (hook_told script s front)

abbrev pub CallHooksOnce : Script → List Entry → Call → Type 0
CallHooksOnce script front (sends c v) = Unit {0}
CallHooksOnce script front (receives c v) = Unit {0}
CallHooksOnce script front (hands_over from to c v) = Unit {0}
CallHooksOnce script front (closes c) = Unit {0}
CallHooksOnce script front (defaults g) = Unit {0}
CallHooksOnce script front (locks m) = Unit {0}
CallHooksOnce script front (unlocks m) = Unit {0}
CallHooksOnce script front (releases k) = Unit {0}
CallHooksOnce script front (retakes k) = Unit {0}
CallHooksOnce script front (signals_one k woken) = Unit {0}
CallHooksOnce script front (signals_all k count) = Unit {0}
CallHooksOnce script front (adds_to w n) = Unit {0}
CallHooksOnce script front (ends_wait w) = Unit {0}
CallHooksOnce script front (of_tree c) = TreeHooksOnce script front c
CallHooksOnce script front other = Unit {0}

abbrev pub HooksOnce : Script → List Entry → Entry → Type 0
HooksOnce script front e = CallHooksOnce script front (call_of e)

-- a hook that was started, or kept from it
abbrev pub is_settled : HookState → Bool
is_settled HookState.Unregistered = false
is_settled HookState.Waiting = false
is_settled HookState.Started = true
is_settled HookState.Stopped = true

-- A hook that was started stays so, and one that was kept from it is never started
abbrev pub HooksStay : Script → List Entry → Entry → Type 0
HooksStay script front e = (s : ℕ) → is_settled (hook_told script s front) ≡ true → hook_told script s (front ++ e ∷ []) ≡ hook_told script s front

-- All looks at one context show the same cause, and the same error, where they show one
pub record HasOneCause (h : List Entry) : Type 0 where
  pub causes : (g k x : ℕ) (a b : CauseVal) → Contains h (Entry.Cause g x (Some a)) → Contains h (Entry.Cause k x (Some b)) → a ≡ b
  pub errors : (g k x : ℕ) (a b : ErrVal) → Contains h (Entry.CtxErr g x (Some a)) → Contains h (Entry.CtxErr k x (Some b)) → a ≡ b
