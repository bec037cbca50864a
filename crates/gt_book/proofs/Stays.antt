-- What was made stays made when an entry comes, what was closed stays closed, and the channels, locks, counters and ends of contexts that it does not change stay as they are.
use Rattle.std.proofs.Common.{◌≡◌, ◌≢◌, ℕ, zero, suc, ◌<◌, List, [], ◌∷◌, ◌++◌, length, drop, set, slice_index_or, eqb, refl, sym, ap, subst, ◌∙◌, Option, None, Some, Bool, true, false, cond, option_map, ◌||◌, is_some, IfSome, IsTrue}
use Rattle.std.proofs.lemmas.Bool.{eqb-false}
use Rattle.gt_model.specs.declared.script.Script.{Script}
use Rattle.gt_model.specs.declared.script.Instr.{Instr}
use Rattle.gt_model.specs.declared.script.CaseKind.{CaseKind}
use Rattle.gt_model.specs.declared.entry.Entry.{Entry}
use Rattle.gt_model.specs.declared.state.Timer.{Timer}
use Rattle.gt_model.specs.Good.{IsGood}
use Rattle.gt_model.specs.declared.state.SyncState.{SyncState}
use Rattle.gt_model.specs.Script.{is_cond, mutex_of}
use Rattle.gt_model.specs.Tables.{at, change}
use Rattle.gt_model.proofs.Declared.{chan_declared, mutex_declared, wg_declared, ctx_declared}
use Rattle.gt_rules.specs.State.{State, Channel, channel_at, sync_at, is_closed, unused, world_of, context_at, has_ended}
use Rattle.gt_rules.specs.After.{after, set_due, set_again, with_retimed, with_traded, with_stepped, with_items, with_lock, owned, shut, stepped, traded, number_of, with_grown}
use Rattle.gt_rules.specs.Change.{Change, change_of}
use Rattle.gt_rules.specs.Legal.{May}
use Rattle.gt_rules.specs.declared.change.Move.{Move}
use Rattle.gt_rules.specs.declared.change.Setting.{Setting}
use Rattle.gt_rules.specs.declared.change.SyncStep.{SyncStep}
use Rattle.gt_rules.specs.declared.change.Trade.{Trade}
use Rattle.gt_facts.proofs.Lookups.{names-Does, names-Operates}
use Rattle.gt_facts.proofs.Makers.{Trades, HasTrade, trades-May}
use Rattle.gt_facts.proofs.Within.{mutex_of-is, relocking-cond}
use Rattle.gt_facts.specs.Formed.{IsFormed}
use Rattle.gt_book.specs.Woken.{stepped_object, signalled_for, changed_object}
use Rattle.gt_book.proofs.Firm.{Stays, never-both, shut_in, or-false, both-false}
use Rattle.gt_rules.specs.Contexts.{is_reached, ended_by}
use Rattle.gt_rules.specs.declared.change.TreeStep.{TreeStep}
use Rattle.gt_model.specs.declared.context.Context.{Context}
use Rattle.gt_model.specs.declared.context.End.{End}
use Rattle.gt_facts.proofs.Contexts.{at-cut}
use Rattle.gt_machine.specs.Machine.{is_cut}

-- ---- one item of a list changes

-- what holds of an item holds of it after, where the change keeps it
at-keeps : {X : Type 0} (P : Option X → Type 0) (xs : List (Option X)) (t u : ℕ) (f : Option X → Option X) → ((o : Option X) → at xs t ≡ o → P o → P (f o))
    → P (at xs u) → P (at (change xs t f) u)
at-keeps P [] t u f keeps h = h
at-keeps P (o ∷ xs) zero zero f keeps h = keeps o refl h
at-keeps P (o ∷ xs) zero (suc u) f keeps h = h
at-keeps P (o ∷ xs) (suc t) zero f keeps h = h
at-keeps P (o ∷ xs) (suc t) (suc u) f keeps h = at-keeps P xs t u f keeps h

at-other : {X : Type 0} (xs : List (Option X)) (t u : ℕ) (f : Option X → Option X) → u ≢ t → at (change xs t f) u ≡ at xs u
at-other [] t u f n = refl
at-other (o ∷ xs) zero zero f n = absurd (n refl)
at-other (o ∷ xs) zero (suc u) f n = refl
at-other (o ∷ xs) (suc t) zero f n = refl
at-other (o ∷ xs) (suc t) (suc u) f n = at-other xs t u f (λ e. n (ap suc e))

-- what a change keeps of an item
index-keeps : {X Y : Type 0} (P : X → Y) (xs : List X) (t u : ℕ) (f : X → X) (x : X) → ((y : X) → P (f y) ≡ P y) → P (slice_index_or (change xs t f) u x) ≡ P (slice_index_or xs u x)
index-keeps P [] t u f x keeps = refl
index-keeps P (y ∷ xs) zero zero f x keeps = keeps y
index-keeps P (y ∷ xs) zero (suc u) f x keeps = refl
index-keeps P (y ∷ xs) (suc t) zero f x keeps = refl
index-keeps P (y ∷ xs) (suc t) (suc u) f x keeps = index-keeps P xs t u f x keeps

index-other : {X : Type 0} (xs : List X) (t u : ℕ) (f : X → X) (x : X) → u ≢ t → slice_index_or (change xs t f) u x ≡ slice_index_or xs u x
index-other [] t u f x n = refl
index-other (y ∷ xs) zero zero f x n = absurd (n refl)
index-other (y ∷ xs) zero (suc u) f x n = refl
index-other (y ∷ xs) (suc t) zero f x n = refl
index-other (y ∷ xs) (suc t) (suc u) f x n = index-other xs t u f x (λ e. n (ap suc e))

at-set : {X : Type 0} (xs : List (Option X)) (t u : ℕ) (r : X) → is_some (at xs u) ≡ true → is_some (at (set xs t (Some r)) u) ≡ true
at-set [] t u r h = h
at-set (o ∷ xs) zero zero r h = refl
at-set (o ∷ xs) zero (suc u) r h = h
at-set (o ∷ xs) (suc t) zero r h = h
at-set (o ∷ xs) (suc t) (suc u) r h = at-set xs t u r h

abbrev IsMade : {X : Type 0} → Option X → Type 0
IsMade o = is_some o ≡ true

-- ---- timers

due-keeps : (due : Option ℕ) (o : Option Timer) → IsMade o → IsMade (set_due due o)
due-keeps due None h = cc
due-keeps due (Some r) h = refl

again-keeps : (due period : ℕ) (o : Option Timer) → IsMade o → IsMade (set_again due period o)
again-keeps due period None h = cc
again-keeps due period (Some r) h = refl

made-retimed : (script : Script) (s : State) (mover : Option (ℕ × Move)) (c : Option (ℕ × Setting)) (u : ℕ) → is_some (at s.timers u) ≡ true
    → is_some (at (with_retimed script s mover s.timers c) u) ≡ true
made-retimed script s mover None u h = h
made-retimed script s mover (Some (t, Setting.Made due)) u h = at-set s.timers t u _ h
made-retimed script s mover (Some (t, Setting.SetAnew due)) u h = at-keeps IsMade s.timers t u (set_again due _) (λ o e. again-keeps due _ o) h
made-retimed script s mover (Some (t, Setting.Ended due)) u h = at-keeps IsMade s.timers t u (set_due due) (λ o e. due-keeps due o) h

-- ---- the object of a change

-- whether a part of a change is of an object
abbrev pub is_of : {X : Type 0} → Option (ℕ × X) → ℕ → Bool
is_of None o = false
is_of (Some x) o = eqb o x.0

-- a step at a Cond is of its mutex
abbrev pub is_step : Script → Option (ℕ × SyncStep) → ℕ → Bool
is_step script None o = false
is_step script (Some x) o = eqb o (stepped_object script x.0 x.1)

-- whether a context may end by a change: one that is made may have ended at once, and an end reaches others
abbrev pub is_grown : Option (ℕ × TreeStep) → ℕ → Bool
is_grown None o = false
is_grown (Some x) o = elim x.1 [
  | TreeStep.Derived ↦ eqb o x.0
  | TreeStep.Canceled ↦ true
  | TreeStep.Expired ↦ true
  | TreeStep.Registered ↦ false
  | TreeStep.Unhooked ↦ false
]

-- whether a change is of a channel, of a mutex or a WaitGroup, or of the end of a context
abbrev pub alters : Script → Change → ℕ → Bool
alters script c o = is_of c.channel o || is_step script c.sync o || is_grown c.tree o

apart-first : (o c d : ℕ) → Some c ≡ Some d → eqb o d ≡ false → ((eqb o c || false) || false) ≡ false
apart-first o c d is apart =
    let same : c ≡ d = cc in both-false (eqb o c || false) false (both-false (eqb o c) false (subst (λ d. eqb o d ≡ false) (sym same) apart) refl) refl

apart-step : (o c d : ℕ) → Some c ≡ Some d → eqb o d ≡ false → (eqb o c || false) ≡ false
apart-step o c d is apart = let same : c ≡ d = cc in both-false (eqb o c) false (subst (λ d. eqb o d ≡ false) (sym same) apart) refl

apart-second : (o c d : ℕ) → Some c ≡ Some d → eqb o d ≡ false → eqb o c ≡ false
apart-second o c d is apart = let same : c ≡ d = cc in subst (λ d. eqb o d ≡ false) (sym same) apart

-- an entry alters one object at most
pub alters-one : (script : Script) (e : Entry) (d : ℕ) → changed_object script (change_of e) ≡ Some d → (o : ℕ) → eqb o d ≡ false → alters script (change_of e) o ≡ false
alters-one script (Entry.Make g c) d is o apart = apart-first o c d is apart
alters-one script (Entry.Send p c v) d is o apart = apart-first o c d is apart
alters-one script (Entry.Recv p c None) d is o apart = refl
alters-one script (Entry.Recv p c (Some v)) d is o apart = apart-first o c d is apart
alters-one script (Entry.Close g c) d is o apart = apart-first o c d is apart
alters-one script (Entry.Lock g m) d is o apart = apart-step o m d is apart
alters-one script (Entry.Unlock g m) d is o apart = apart-step o m d is apart
alters-one script (Entry.CondWait g k) d is o apart = apart-step o (mutex_of script k) d is apart
alters-one script (Entry.CondWake g k) d is o apart = apart-step o (mutex_of script k) d is apart
alters-one script (Entry.Add g w n) d is o apart = apart-step o w d is apart
alters-one script (Entry.CtxMake g x ended) d is o apart = apart-second o x d is apart
alters-one script (Entry.Cancel g x true starts) d is o apart = cc
alters-one script (Entry.Cancel g x false starts) d is o apart = cc
alters-one script (Entry.Expire x starts) d is o apart = cc
alters-one script _ d is o apart = refl

pub alters-none : (script : Script) (e : Entry) → changed_object script (change_of e) ≡ None → is_cut (change_of e).tree ≡ false → (o : ℕ) → alters script (change_of e) o ≡ false
alters-none script (Entry.Make g c) none uncut o = cc
alters-none script (Entry.Send p c v) none uncut o = cc
alters-none script (Entry.Recv p c None) none uncut o = refl
alters-none script (Entry.Recv p c (Some v)) none uncut o = cc
alters-none script (Entry.Close g c) none uncut o = cc
alters-none script (Entry.Lock g m) none uncut o = cc
alters-none script (Entry.Unlock g m) none uncut o = cc
alters-none script (Entry.CondWait g k) none uncut o = cc
alters-none script (Entry.CondWake g k) none uncut o = cc
alters-none script (Entry.Add g w n) none uncut o = cc
alters-none script (Entry.CtxMake g x ended) none uncut o = cc
alters-none script (Entry.Cancel g x true starts) none uncut o = cc
alters-none script (Entry.Cancel g x false starts) none uncut o = refl
alters-none script (Entry.Expire x starts) none uncut o = cc
alters-none script _ none uncut o = refl

-- and who is signalled waits for it
pub signals-none : (script : Script) (e : Entry) → signalled_for script (change_of e).mover ≡ None
signals-none script (Entry.Sleep g None) = refl
signals-none script (Entry.Sleep g (Some until)) = refl
signals-none script _ = refl

pub signals-one : (script : Script) (e : Entry) (o : Option ℕ) → changed_object script (change_of e) ≡ o → IfSome (signalled_for script (change_of e).partner) (λ d. o ≡ Some d)
signals-one script (Entry.Signal g k None) o is = tt
signals-one script (Entry.Signal g k (Some h)) o is = sym is
signals-one script _ o is = tt

pub signals-all : (script : Script) (e : Entry) (o : Option ℕ) → changed_object script (change_of e) ≡ o → IfSome (change_of e).broadcast (λ k. o ≡ Some (mutex_of script k))
signals-all script (Entry.Broadcast g k count) o is = sym is
signals-all script _ o is = tt

-- and that is declared
here-declared : (script : Script) (c d : ℕ) → c < length script.decls → Some c ≡ Some d → d < length script.decls
here-declared script c d within is = let same : c ≡ d = cc in subst (λ d. d < length script.decls) same within

cond-declared : (script : Script) (k d : ℕ) → IsGood script → IsTrue (is_cond script k) → Some (mutex_of script k) ≡ Some d → d < length script.decls
cond-declared script k d good cond is = here-declared script (mutex_of script k) d (mutex_declared script (mutex_of script k) (mutex_of-is script k good cond)) is

pub altered-declared : (script : Script) (s : State) (e : Entry) (d : ℕ) → IsGood script → IsFormed script s → May script s e → changed_object script (change_of e) ≡ Some d
    → d < length script.decls
altered-declared script s (Entry.Make g c) d good formed may is = here-declared script c d (chan_declared script c (names-Does script s g (Instr.Make c) good may)) is
altered-declared script s (Entry.Send p c v) d good formed may is =
    here-declared script c d (chan_declared script c (names-Operates script s p (CaseKind.Send c v) good may.0)) is
altered-declared script s (Entry.Recv p c None) d good formed may is = cc
altered-declared script s (Entry.Recv p c (Some v)) d good formed may is = here-declared script c d (chan_declared script c may.1) is
altered-declared script s (Entry.Close g c) d good formed may is = here-declared script c d (chan_declared script c (names-Does script s g (Instr.Close c) good may)) is
altered-declared script s (Entry.Lock g m) d good formed may is = here-declared script m d (mutex_declared script m may.1) is
altered-declared script s (Entry.Unlock g m) d good formed may is = here-declared script m d (mutex_declared script m (names-Does script s g (Instr.Unlock m) good may)) is
altered-declared script s (Entry.CondWait g k) d good formed may is = cond-declared script k d good (names-Does script s g (Instr.CWait k) good may) is
altered-declared script s (Entry.CondWake g k) d good formed may is = cond-declared script k d good (relocking-cond script s g k formed may.0) is
altered-declared script s (Entry.Signal g k None) d good formed may is = cc
altered-declared script s (Entry.Signal g k (Some h)) d good formed may is = cond-declared script k d good (names-Does script s g (Instr.Signal k) good may.0) is
altered-declared script s (Entry.Broadcast g k count) d good formed may is = cond-declared script k d good (names-Does script s g (Instr.Broadcast k) good may.0) is
altered-declared script s (Entry.CtxMake g x ended) d good formed may is = here-declared script x d (ctx_declared script x (names-Does script s g (Instr.With x) good may.0)) is
altered-declared script s (Entry.Cancel g x true starts) d good formed may is = cc
altered-declared script s (Entry.Cancel g x false starts) d good formed may is = cc
altered-declared script s (Entry.Add g w n) d good formed may is = here-declared script w d (wg_declared script w (names-Does script s g (Instr.Add w n) good may).0) is
altered-declared script s _ d good formed may is = cc

-- ---- channels, mutexes and WaitGroups

items-keep : (f : List ℕ → List ℕ) (o : Option Channel) → IsMade o → IsMade (with_items f o)
items-keep f None h = cc
items-keep f (Some r) h = refl

shut-keeps : (o : Option Channel) → IsMade o → IsMade (shut o)
shut-keeps None h = cc
shut-keeps (Some r) h = refl

traded-made : (w : ℕ) (x : Trade) (o : Option Channel) → IsMade o → IsMade (traded w x o)
traded-made w Trade.Opened o h = refl
traded-made w (Trade.Puts v) o h = items-keep (λ items. items ++ v ∷ []) o h
traded-made w Trade.Takes o h = items-keep (drop 1) o h
traded-made w Trade.Shut o h = shut-keeps o h

items-shut : (f : List ℕ → List ℕ) (o : Option Channel) → shut_in o ≡ true → shut_in (with_items f o) ≡ true
items-shut f None h = cc
items-shut f (Some r) h = h

shut-shut : (o : Option Channel) → shut_in o ≡ true → shut_in (shut o) ≡ true
shut-shut None h = cc
shut-shut (Some r) h = refl

shut-made : (o : Option Channel) → shut_in o ≡ true → is_some o ≡ true
shut-made None h = cc
shut-made (Some r) h = refl

-- what is opened was not made, so it was not closed
traded-shut : (script : Script) (s : State) (c w : ℕ) (x : Trade) (o : Option Channel) → HasTrade script s c x → channel_at s c ≡ o → shut_in o ≡ true → shut_in (traded w x o) ≡ true
traded-shut script s c w Trade.Opened o has is h = absurd (never-both (is_some o) (shut-made o h) (sym (ap is_some is) ∙ has))
traded-shut script s c w (Trade.Puts v) o has is h = items-shut (λ items. items ++ v ∷ []) o h
traded-shut script s c w Trade.Takes o has is h = items-shut (drop 1) o h
traded-shut script s c w Trade.Shut o has is h = shut-shut o h

made-traded : (s : State) (mover : Option (ℕ × Move)) (c : Option (ℕ × Trade)) (u : ℕ) → is_some (channel_at s u) ≡ true → is_some (at (with_traded s mover s.channels c) u) ≡ true
made-traded s mover None u h = h
made-traded s mover (Some x) u h = at-keeps IsMade s.channels x.0 u (traded (world_of s (number_of mover)) x.1) (λ o e. traded-made _ x.1 o) h

closed-traded : (script : Script) (s : State) (mover : Option (ℕ × Move)) (c : Option (ℕ × Trade)) (u : ℕ) → IfSome c (λ (x : ℕ × Trade). Trades script s x.0 x.1)
    → is_closed s u ≡ true → shut_in (at (with_traded s mover s.channels c) u) ≡ true
closed-traded script s mover None u trades h = h
closed-traded script s mover (Some x) u trades h =
    at-keeps (λ o. shut_in o ≡ true) s.channels x.0 u (traded (world_of s (number_of mover)) x.1) (λ o e. traded-shut script s x.0 _ x.1 o trades.has e) h

same-traded : (s : State) (mover : Option (ℕ × Move)) (c : Option (ℕ × Trade)) (u : ℕ) → is_of c u ≡ false → at (with_traded s mover s.channels c) u ≡ channel_at s u
same-traded s mover None u h = refl
same-traded s mover (Some x) u h = at-other s.channels x.0 u (traded (world_of s (number_of mover)) x.1) (eqb-false u x.0 h)

-- of a Cond its world alone changes
same-step : {X : Type 0} (P : SyncState → X) (script : Script) (w : ℕ) (syncs : List SyncState) (o u : ℕ) (step : SyncStep) → ((v : ℕ) (y : SyncState) → P (owned v y) ≡ P y)
    → u ≢ stepped_object script o step → P (slice_index_or (stepped script w syncs o step) u unused) ≡ P (slice_index_or syncs u unused)
same-step P script w syncs o u SyncStep.Locks keeps other = ap P (index-other syncs o u (with_lock true) unused other)
same-step P script w syncs o u SyncStep.Unlocks keeps other = ap P (index-other syncs o u (with_lock false) unused other)
same-step P script w syncs o u (SyncStep.Adds n) keeps other = ap P (index-other syncs o u _ unused other)
same-step P script w syncs o u SyncStep.Releases keeps other =
    index-keeps P (change syncs (mutex_of script o) (with_lock false)) o u (owned w) unused (keeps w) ∙ ap P (index-other syncs (mutex_of script o) u (with_lock false) unused other)
same-step P script w syncs o u SyncStep.Retakes keeps other = ap P (index-other syncs (mutex_of script o) u (with_lock true) unused other)

same-stepped : {X : Type 0} (P : SyncState → X) (script : Script) (s : State) (mover : Option (ℕ × Move)) (c : Option (ℕ × SyncStep)) (u : ℕ) → ((v : ℕ) (y : SyncState) → P (owned v y) ≡ P y)
    → is_step script c u ≡ false → P (slice_index_or (with_stepped script s mover s.syncs c) u unused) ≡ P (sync_at s u)
same-stepped P script s mover None u keeps h = refl
same-stepped P script s mover (Some x) u keeps h =
    same-step P script (world_of s (number_of mover)) s.syncs x.0 u x.1 keeps (eqb-false u (stepped_object script x.0 x.1) h)

-- ---- contexts

abbrev pub ended_in : Option Context → Bool
ended_in o = is_some (elim o as (λ o. Option End) [ None ↦ None | Some r ↦ r.end ])

cut-made : (b : Bool) (end : End) (o : Option Context) → is_some o ≡ true → is_some (cond b (option_map (ended_by end) o) o) ≡ true
cut-made b end None h = cc
cut-made true end (Some r) h = refl
cut-made false end (Some r) h = refl

made-grown : (script : Script) (s : State) (mover : Option (ℕ × Move)) (c : Option (ℕ × TreeStep)) (u : ℕ) → is_some (context_at s u) ≡ true
    → is_some (at (with_grown script s mover c) u) ≡ true
made-grown script s mover None u h = h
made-grown script s mover (Some (x, TreeStep.Derived)) u h = at-set s.contexts x u _ h
made-grown script s mover (Some (x, TreeStep.Canceled)) u h = ap is_some (at-cut script s x _ u) ∙ cut-made (is_reached script s x u) _ (context_at s u) h
made-grown script s mover (Some (x, TreeStep.Expired)) u h = ap is_some (at-cut script s x _ u) ∙ cut-made (is_reached script s x u) _ (context_at s u) h
made-grown script s mover (Some (x, TreeStep.Registered)) u h = h
made-grown script s mover (Some (x, TreeStep.Unhooked)) u h = h

set-other : {X : Type 0} (xs : List (Option X)) (t u : ℕ) (o : Option X) → u ≢ t → at (set xs t o) u ≡ at xs u
set-other [] t u o n = refl
set-other (y ∷ xs) zero zero o n = absurd (n refl)
set-other (y ∷ xs) zero (suc u) o n = refl
set-other (y ∷ xs) (suc t) zero o n = refl
set-other (y ∷ xs) (suc t) (suc u) o n = set-other xs t u o (λ e. n (ap suc e))

same-grown : (script : Script) (s : State) (mover : Option (ℕ × Move)) (c : Option (ℕ × TreeStep)) (u : ℕ) → is_grown c u ≡ false
    → ended_in (at (with_grown script s mover c) u) ≡ has_ended s u
same-grown script s mover None u h = refl
same-grown script s mover (Some (x, TreeStep.Derived)) u h = ap ended_in (set-other s.contexts x u _ (eqb-false u x h))
same-grown script s mover (Some (x, TreeStep.Canceled)) u h = cc
same-grown script s mover (Some (x, TreeStep.Expired)) u h = cc
same-grown script s mover (Some (x, TreeStep.Registered)) u h = refl
same-grown script s mover (Some (x, TreeStep.Unhooked)) u h = refl

-- ---- every entry

pub stays-May : (script : Script) (s : State) (e : Entry) → IsGood script → May script s e → Stays s (after script s e) (alters script (change_of e))
stays-May script s e good may = record {
  timers = made-retimed script s (change_of e).mover (change_of e).timer;
  made = made-traded s (change_of e).mover (change_of e).channel;
  closed = λ u. closed-traded script s (change_of e).mover (change_of e).channel u (trades-May script s e good may);
  same = λ u h. same-traded s (change_of e).mover (change_of e).channel u (apart script e u h).0;
  locks = λ u h. same-stepped (λ (y : SyncState). y.locked) script s (change_of e).mover (change_of e).sync u (λ v y. refl) (apart script e u h).1;
  counters = λ u h. same-stepped (λ (y : SyncState). y.counter) script s (change_of e).mover (change_of e).sync u (λ v y. refl) (apart script e u h).1;
  contexts = made-grown script s (change_of e).mover (change_of e).tree;
  ends = λ u h. same-grown script s (change_of e).mover (change_of e).tree u (apart script e u h).2;
}
  where
    apart : (script : Script) (e : Entry) (u : ℕ) → alters script (change_of e) u ≡ false
        → (is_of (change_of e).channel u ≡ false) × (is_step script (change_of e).sync u ≡ false) × (is_grown (change_of e).tree u ≡ false)
    apart script e u h =
        let parts = or-false (is_of (change_of e).channel u || is_step script (change_of e).sync u) (is_grown (change_of e).tree u) h in
        let both = or-false (is_of (change_of e).channel u) (is_step script (change_of e).sync u) parts.0 in
        (both.0, both.1, parts.1)

pub stays-wider : (s next : State) (x y : ℕ → Bool) → ((o : ℕ) → y o ≡ false → x o ≡ false) → Stays s next x → Stays s next y
stays-wider s next x y wider stays = record {
  timers = stays.timers;
  made = stays.made;
  closed = stays.closed;
  same = λ c h. stays.same c (wider c h);
  locks = λ o h. stays.locks o (wider o h);
  counters = λ o h. stays.counters o (wider o h);
  contexts = stays.contexts;
  ends = λ o h. stays.ends o (wider o h);
}

pub stays-same : (s : State) (y : ℕ → Bool) → Stays s s y
stays-same s y = record { timers = λ t h. h; made = λ c h. h; closed = λ c h. h; same = λ c h. refl; locks = λ o h. refl; counters = λ o h. refl; contexts = λ x h. h; ends = λ x h. refl }
