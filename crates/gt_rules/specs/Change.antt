-- What an entry changes, in one table. What becomes of the state and of the schedule, and what the entries of a history tell, follow from it.
use Rattle.std.specs.Prelude.{ℕ, ◌==◌, cond, List, [], ◌∷◌, map}
use Rattle.std.specs.declared.option.Option.{Option}
use Rattle.std.specs.declared.option.Option.TheVariants.{None, Some}
use Rattle.gt_model.specs.declared.entry.Entry.{Entry}
use Rattle.gt_model.specs.declared.entry.Party.{Party}
use Rattle.gt_model.specs.declared.state.Ending.{Ending}
use Rattle.gt_rules.specs.declared.change.Move.{Move}
use Rattle.gt_rules.specs.declared.change.Setting.{Setting}
use Rattle.gt_rules.specs.declared.change.Start.{Start}
use Rattle.gt_rules.specs.declared.change.Starts.{Starts}
use Rattle.gt_rules.specs.declared.change.SyncStep.{SyncStep}
use Rattle.gt_rules.specs.declared.change.Trade.{Trade}
use Rattle.gt_rules.specs.declared.change.TreeStep.{TreeStep}
use Rattle.std.specs.List.{range_with_len}

pub record Change : Type 0 where
  pub mover : Option (ℕ × Move)  -- who makes the entry, by its number, and what becomes of it; of two the sender
  pub partner : Option (ℕ × Move)  -- another one: the receiver, where two make the entry; or who is signalled
  pub broadcast : Option ℕ  -- a Cond by its declaration, at which all that wait are signalled
  pub timer : Option (ℕ × Setting)  -- a timer by its declaration, and what becomes of it
  pub channel : Option (ℕ × Trade)  -- a channel by its declaration, and what becomes of it
  pub sync : Option (ℕ × SyncStep)  -- a mutex, a WaitGroup or a Cond by its declaration, and what becomes of it
  pub tree : Option (ℕ × TreeStep)  -- a context or a hook by its declaration, and what becomes of it
  pub starts : List Start  -- who are started, in the order of their numbers
  pub clock : Option (ℕ × ℕ)  -- a world, and the time of its clock
  pub ending : Option Ending  -- how far the run is, where the entry says it
  pub counted : ℕ  -- how much of the limit it takes

abbrev pub nothing : Change
nothing = record { mover = None; partner = None; broadcast = None; timer = None; channel = None; sync = None; tree = None; starts = []; clock = None; ending = None; counted = 1 }

-- a goroutine goes on after its plain instruction; a party goes on after its operation
abbrev pub on : ℕ → Change
on g = record nothing { mover = Some (g, Move.GoesOn 0) }

abbrev pub goes_on : Party → ℕ × Move
goes_on p = (p.g, Move.GoesOn p.case_no)

-- who is started, where one is at most
abbrev pub started : Option Start → List Start
started None = []
started (Some start) = start ∷ []

-- those whom the end of a context starts, so many of them
abbrev pub by_end : ℕ → ℕ → List Start
by_end x count = map (Start.ByEnd x) (range_with_len 0 count)

-- all who are started
abbrev pub all_started : Starts → List Start
all_started (Starts.One start) = started start
all_started (Starts.ByEnd x count) = by_end x count

-- a hook that is registered, where somebody starts by it at once
abbrev pub by_hook : ℕ → Option ℕ → List Start
by_hook h None = []
by_hook h (Some child) = Start.ByHook h ∷ []

-- who sleeps for 0 goes on at once
abbrev pub sleeps : Option ℕ → Move
sleeps None = Move.GoesOn 0
sleeps (Some until) = Move.FallsAsleep until

-- a value that is received leaves its channel
abbrev pub takes : ℕ → Option ℕ → Option (ℕ × Trade)
takes c None = None
takes c (Some v) = Some (c, Trade.Takes)

-- who is signalled at a Cond, if somebody is
abbrev pub signals : ℕ → Option ℕ → Option (ℕ × Move)
signals k None = None
signals k (Some g) = Some (g, Move.Relocks k)

-- the run ends with the function of goroutine 1, which runs main
abbrev pub ending_with : ℕ → Option Ending
ending_with g = cond (g == 1) (Some Ending.MainEnded) None

-- the one table. What a row does not name stays
abbrev pub change_of : Entry → Change
change_of (Entry.Say g n) = on g
change_of (Entry.Now g at) = on g
change_of (Entry.Go g child f) = record (on g) { starts = Start.ByGoroutine g f ∷ [] }
change_of (Entry.End g) = record nothing { mover = Some (g, Move.Ends); ending = ending_with g }
change_of (Entry.Sleep g until) = record nothing { mover = Some (g, sleeps until) }
change_of (Entry.Wake g) = on g
change_of (Entry.New g t due) = record (on g) { timer = Some (t, Setting.Made due) }
change_of (Entry.Stop g t was) = record (on g) { timer = Some (t, Setting.Ended None) }
change_of (Entry.Reset g t was due) = record (on g) { timer = Some (t, Setting.SetAnew due) }
change_of (Entry.TRecv p t due next) = record nothing { mover = Some (goes_on p); timer = Some (t, Setting.Ended next) }
change_of (Entry.FireFunc t child) = record nothing { timer = Some (t, Setting.Ended None); starts = Start.ByTimer t ∷ [] }
change_of (Entry.Make g c) = record (on g) { channel = Some (c, Trade.Opened) }
change_of (Entry.Send p c v) = record nothing { mover = Some (goes_on p); channel = Some (c, Trade.Puts v) }
change_of (Entry.Recv p c v) = record nothing { mover = Some (goes_on p); channel = takes c v }
change_of (Entry.Pair from to c v) = record nothing { mover = Some (goes_on from); partner = Some (goes_on to) }
change_of (Entry.Close g c) = record (on g) { channel = Some (c, Trade.Shut) }
change_of (Entry.Default g) = on g
change_of (Entry.Lock g m) = record (on g) { sync = Some (m, SyncStep.Locks) }
change_of (Entry.Unlock g m) = record (on g) { sync = Some (m, SyncStep.Unlocks) }
change_of (Entry.CondWait g k) = record nothing { mover = Some (g, Move.Suspends k); sync = Some (k, SyncStep.Releases) }
change_of (Entry.CondWake g k) = record (on g) { sync = Some (k, SyncStep.Retakes) }
change_of (Entry.Signal g k woken) = record (on g) { partner = signals k woken }
change_of (Entry.Broadcast g k count) = record (on g) { broadcast = Some k }
change_of (Entry.Add g w n) = record (on g) { sync = Some (w, SyncStep.Adds n) }
change_of (Entry.WgWait g w) = on g
change_of (Entry.CtxMake g x ended) = record (on g) { tree = Some (x, TreeStep.Derived) }
change_of (Entry.Cancel g x newly starts) = record (on g) { tree = cond newly (Some (x, TreeStep.Canceled)) None; starts = by_end x starts }
change_of (Entry.Expire x starts) = record nothing { tree = Some (x, TreeStep.Expired); starts = by_end x starts }
change_of (Entry.CtxErr g x err) = on g
change_of (Entry.Cause g x cause) = on g
change_of (Entry.CtxDone p x) = record nothing { mover = Some (goes_on p) }
change_of (Entry.CtxAfter g h child) = record (on g) { tree = Some (h, TreeStep.Registered); starts = by_hook h child }
change_of (Entry.CtxStop g h stopped) = record (on g) { tree = Some (h, TreeStep.Unhooked) }
change_of (Entry.Clock world at) = record nothing { clock = Some (world, at) }
change_of (Entry.Panic p reason) = record nothing { mover = Some (p.g, Move.Panics); ending = Some Ending.Panicked }
change_of (Entry.Finish outcome) = record nothing { ending = Some (Ending.Finished outcome); counted = 0 }
