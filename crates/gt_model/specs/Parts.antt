-- What an entry is made of, part by part: the line of an entry says its parts in this order.
use Rattle.std.specs.Prelude.{ℕ, ℤ, Bool, List, [], ◌∷◌, codes}
use Rattle.std.specs.declared.option.Option.{Option}
use Rattle.std.specs.declared.option.Option.TheVariants.{Some}
use Rattle.gt_model.specs.declared.context.ErrVal.{ErrVal}
use Rattle.gt_model.specs.declared.context.CauseVal.{CauseVal}
use Rattle.gt_model.specs.declared.entry.Entry.{Entry}
use Rattle.gt_model.specs.declared.entry.Outcome.{Outcome}
use Rattle.gt_model.specs.declared.entry.Party.{Party}
use Rattle.gt_model.specs.declared.entry.Reason.{Reason}

pub data Part : Type 0 where
  -- the word that tells what happened
  keyword : List ℕ → Part
  -- a goroutine; the second may be missing
  goroutine : ℕ → Part
  maybe_goroutine : Option ℕ → Part
  party : Party → Part
  -- a number, a time or a value; the second may be missing
  number : ℕ → Part
  maybe_number : Option ℕ → Part
  -- a number that may be below 0
  signed : ℤ → Part
  -- what is named: a channel timer, an AfterFunc timer, a timer of either kind, a channel, a mutex, a WaitGroup, a Cond, a function, a context, a hook
  timer : ℕ → Part
  after_func : ℕ → Part
  setting : ℕ → Part
  channel : ℕ → Part
  mutex : ℕ → Part
  wait_group : ℕ → Part
  cond : ℕ → Part
  function : ℕ → Part
  context : ℕ → Part
  hook : ℕ → Part
  -- whether a timer was set, where that is told
  flag : Option Bool → Part
  -- whether a context has ended at once; its error; the cause of its end
  ended : Bool → Part
  error : Option ErrVal → Part
  cause : Option CauseVal → Part
  reason : Reason → Part
  -- how the run ended: a word that tells what happened by itself
  outcome : Outcome → Part

abbrev pub parts_of : Entry → List Part
parts_of (Entry.Say g n) = keyword (codes "say") ∷ goroutine g ∷ number n ∷ []
parts_of (Entry.Now g at) = keyword (codes "now") ∷ goroutine g ∷ number at ∷ []
parts_of (Entry.Go g child f) = keyword (codes "go") ∷ goroutine g ∷ goroutine child ∷ function f ∷ []
parts_of (Entry.End g) = keyword (codes "end") ∷ goroutine g ∷ []
parts_of (Entry.Sleep g until) = keyword (codes "sleep") ∷ goroutine g ∷ maybe_number until ∷ []
parts_of (Entry.Wake g) = keyword (codes "wake") ∷ goroutine g ∷ []
parts_of (Entry.New g t due) = keyword (codes "new") ∷ goroutine g ∷ setting t ∷ number due ∷ []
parts_of (Entry.Stop g t was) = keyword (codes "stop") ∷ goroutine g ∷ setting t ∷ flag was ∷ []
parts_of (Entry.Reset g t was due) = keyword (codes "reset") ∷ goroutine g ∷ setting t ∷ flag was ∷ number due ∷ []
parts_of (Entry.TRecv p t due next) = keyword (codes "trecv") ∷ party p ∷ timer t ∷ number due ∷ maybe_number next ∷ []
parts_of (Entry.FireFunc t child) = keyword (codes "fire") ∷ after_func t ∷ goroutine child ∷ []
parts_of (Entry.Make g c) = keyword (codes "make") ∷ goroutine g ∷ channel c ∷ []
parts_of (Entry.Send p c v) = keyword (codes "send") ∷ party p ∷ channel c ∷ number v ∷ []
parts_of (Entry.Recv p c v) = keyword (codes "recv") ∷ party p ∷ channel c ∷ maybe_number v ∷ []
parts_of (Entry.Pair from to c v) = keyword (codes "pair") ∷ party from ∷ party to ∷ channel c ∷ number v ∷ []
parts_of (Entry.Close g c) = keyword (codes "close") ∷ goroutine g ∷ channel c ∷ []
parts_of (Entry.Default g) = keyword (codes "default") ∷ goroutine g ∷ []
parts_of (Entry.Lock g m) = keyword (codes "lock") ∷ goroutine g ∷ mutex m ∷ []
parts_of (Entry.Unlock g m) = keyword (codes "unlock") ∷ goroutine g ∷ mutex m ∷ []
parts_of (Entry.CondWait g k) = keyword (codes "cwait") ∷ goroutine g ∷ cond k ∷ []
parts_of (Entry.CondWake g k) = keyword (codes "cwake") ∷ goroutine g ∷ cond k ∷ []
parts_of (Entry.Signal g k woken) = keyword (codes "signal") ∷ goroutine g ∷ cond k ∷ maybe_goroutine woken ∷ []
parts_of (Entry.Broadcast g k count) = keyword (codes "broadcast") ∷ goroutine g ∷ cond k ∷ number count ∷ []
parts_of (Entry.Add g w n) = keyword (codes "add") ∷ goroutine g ∷ wait_group w ∷ signed n ∷ []
parts_of (Entry.WgWait g w) = keyword (codes "wait") ∷ goroutine g ∷ wait_group w ∷ []
parts_of (Entry.CtxMake g x so) = keyword (codes "with") ∷ goroutine g ∷ context x ∷ ended so ∷ []
parts_of (Entry.Cancel g x newly starts) = keyword (codes "cancel") ∷ goroutine g ∷ context x ∷ flag (Some newly) ∷ number starts ∷ []
parts_of (Entry.Expire x starts) = keyword (codes "expire") ∷ context x ∷ number starts ∷ []
parts_of (Entry.CtxErr g x err) = keyword (codes "err") ∷ goroutine g ∷ context x ∷ error err ∷ []
parts_of (Entry.Cause g x why) = keyword (codes "cause") ∷ goroutine g ∷ context x ∷ cause why ∷ []
parts_of (Entry.CtxDone p x) = keyword (codes "ctxdone") ∷ party p ∷ context x ∷ []
parts_of (Entry.CtxAfter g s child) = keyword (codes "after") ∷ goroutine g ∷ hook s ∷ maybe_goroutine child ∷ []
parts_of (Entry.CtxStop g s stopped) = keyword (codes "unhook") ∷ goroutine g ∷ hook s ∷ flag (Some stopped) ∷ []
parts_of (Entry.Clock world at) = keyword (codes "clock") ∷ number world ∷ number at ∷ []
parts_of (Entry.Panic p why) = keyword (codes "panic") ∷ party p ∷ reason why ∷ []
parts_of (Entry.Finish how) = outcome how ∷ []
