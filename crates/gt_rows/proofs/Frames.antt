-- What a change by an entry leaves of due times, periods, the program's clock and marks.
use Rattle.std.proofs.Common.{◌≡◌, ◌≢◌, inl, inr, ℕ, zero, suc, ◌+◌, ◌-◌, ◌<◌, ◌==◌, cond, List, [], ◌∷◌, ◌++◌, length, set, refl, sym, ap, subst, ◌∙◌, Option, None, Some, Bool, true, false, IfSome, is_some, nat_lt, slice_get, slice_index, option_map, is_none}
use Rattle.std.proofs.lemmas.Bool.{cases_eq, eq-eqb, ne_eqb}
use Rattle.std.proofs.lemmas.Option.{slice_get-map}
use Rattle.gt_model.specs.declared.script.Script.{Script}
use Rattle.gt_model.specs.declared.entry.Entry.{Entry}
use Rattle.gt_model.specs.declared.entry.Limits.{Limits}
use Rattle.gt_model.specs.declared.entry.Outcome.{Outcome}
use Rattle.gt_model.specs.declared.state.Goroutine.{Goroutine}
use Rattle.gt_model.specs.declared.state.Mode.{Mode}
use Rattle.gt_model.specs.declared.state.Timer.{Timer}
use Rattle.gt_model.specs.Good.{IsGood}
use Rattle.gt_model.specs.Tables.{numbered, at, change_numbered}
use Rattle.gt_model.proofs.Items.{at-set_same, at-set_other, at-change_same, at-change_other, numbered-change_same, numbered-change_other, numbered-push_same, numbered-push_other, numbered-next, HasNumber, has_number}
use Rattle.gt_rules.specs.State.{State, goroutine_at, timer_at, due_of, sleeps_until, until_of, is_suspended, clock, context_at, world_of}
use Rattle.gt_rules.specs.After.{after, changed, moved, in_mode, signalled, with_signalled, set_due, set_again, with_mover, with_starts, started_by, with_retimed, with_clock, retimed, new_period, number_of, with_grown}
use Rattle.gt_rules.specs.Change.{Change, change_of}
use Rattle.gt_rules.specs.Finish.{Legal}
use Rattle.gt_rules.specs.History.{state_after}
use Rattle.gt_rules.specs.Ready.{is_firm, is_firm_in}
use Rattle.gt_rules.specs.declared.change.Move.{Move}
use Rattle.gt_rules.specs.declared.change.Setting.{Setting}
use Rattle.gt_rules.specs.declared.change.Start.{Start}
use Rattle.gt_facts.specs.Formed.{IsFormed}
use Rattle.gt_facts.proofs.Formed.{length-mover}
use Rattle.gt_facts.proofs.Suspended.{suspended-mode}
use Rattle.gt_facts.proofs.Fits.{IsLive, FitsTimer, Fits, fits-Legal, FitsTree}
use Rattle.gt_book.proofs.Passing.{enters-script}
use Rattle.gt_schedule.specs.Schedule.{Schedule, status_of, is_parked, scheduled, schedule_after, marks_at, with_new, begun_by, gone_on, turned, moved_by, signalled_by, parties_at}
use Rattle.gt_schedule.proofs.Relocked.{each-marks}
use Rattle.gt_book.specs.View.{BookView, Enters, AreWoken, IsLawful, finish_by, finish_due, is_waiting, is_firm_at}
use Rattle.gt_machine.specs.Outcomes.{due_outcome}
use Rattle.gt_rows.specs.Agrees.{due_by, period_by, live_at}
use Rattle.gt_rows.specs.Frames.{until_after, timer_touched, sleep_touched, touched, timer_period_touched, period_touched, clock_touched, own_touched}
use Rattle.gt_rules.specs.Contexts.{made_context, is_reached, ended_by, cut_contexts}
use Rattle.gt_rules.specs.declared.change.TreeStep.{TreeStep}
use Rattle.gt_model.specs.declared.context.Context.{Context}
use Rattle.gt_model.specs.declared.context.End.{End}
use Rattle.gt_model.specs.Script.{is_ctx}
use Rattle.gt_facts.proofs.Contexts.{at-cut}
use Rattle.gt_book.specs.Steps.{live_deadline}

-- ---- the entries of goroutines that are woken

same-cond : {X : Type 0} (b : Bool) (x : X) → cond b x x ≡ x
same-cond true x = refl
same-cond false x = refl

-- who goes on, or panics
abbrev IsAwake : Move → Type 0
IsAwake (Move.GoesOn case_no) = Unit {0}
IsAwake (Move.FallsAsleep until) = ⊥
IsAwake (Move.Suspends k) = ⊥
IsAwake (Move.Relocks k) = ⊥
IsAwake Move.Ends = ⊥
IsAwake Move.Panics = Unit {0}

-- an entry of a goroutine that is woken: one that was parked and firmly ready goes on or panics, alone, and no timer, no context and no clock changes
pub record IsWoken (script : Script) (s : State) (m : Schedule) (e : Entry) : Type 0 where
  g : ℕ
  move : Move
  awake : IsAwake move
  mover : (change_of e).mover ≡ Some (g, move)
  partner : (change_of e).partner ≡ None
  timer : (change_of e).timer ≡ None
  starts : (change_of e).starts ≡ []
  clock : (change_of e).clock ≡ None
  tree : (change_of e).tree ≡ None
  parked : is_waiting m g ≡ true
  firm : is_firm_at script s m g ≡ true

woken-goes : (script : Script) (s : State) (m : Schedule) (e : Entry) (g : ℕ) (move : Move) → IsAwake move → (change_of e).mover ≡ Some (g, move) → (change_of e).partner ≡ None
    → (change_of e).timer ≡ None → (change_of e).starts ≡ [] → (change_of e).clock ≡ None → (change_of e).tree ≡ None → (is_waiting m g ≡ true) × (is_firm_at script s m g ≡ true) → IsWoken script s m e
woken-goes script s m e g move awake mover partner timer starts clock tree woken = record {
  g = g;
  move = move;
  awake = awake;
  mover = mover;
  partner = partner;
  timer = timer;
  starts = starts;
  clock = clock;
  tree = tree;
  parked = woken.0;
  firm = woken.1;
}

woken-is : (script : Script) (s : State) (m : Schedule) (e : Entry) (h : List Entry) → AreWoken script s m (e ∷ h) → IsWoken script s m e
woken-is script s m (Entry.Say g n) h woken = woken-goes script s m _ g (Move.GoesOn 0) tt refl refl refl refl refl refl woken.0
woken-is script s m (Entry.Now g now) h woken = woken-goes script s m _ g (Move.GoesOn 0) tt refl refl refl refl refl refl woken.0
woken-is script s m (Entry.Sleep g None) h woken = woken-goes script s m _ g (Move.GoesOn 0) tt refl refl refl refl refl refl woken.0
woken-is script s m (Entry.Wake g) h woken = woken-goes script s m _ g (Move.GoesOn 0) tt refl refl refl refl refl refl woken.0
woken-is script s m (Entry.Make g c) h woken = woken-goes script s m _ g (Move.GoesOn 0) tt refl refl refl refl refl refl woken.0
woken-is script s m (Entry.Send p c v) h woken = woken-goes script s m _ p.g (Move.GoesOn p.case_no) tt refl refl refl refl refl refl woken.0
woken-is script s m (Entry.Recv p c v) h woken = woken-goes script s m _ p.g (Move.GoesOn p.case_no) tt refl refl refl refl refl refl woken.0
woken-is script s m (Entry.Close g c) h woken = woken-goes script s m _ g (Move.GoesOn 0) tt refl refl refl refl refl refl woken.0
woken-is script s m (Entry.Default g) h woken = woken-goes script s m _ g (Move.GoesOn 0) tt refl refl refl refl refl refl woken.0
woken-is script s m (Entry.Lock g k) h woken = woken-goes script s m _ g (Move.GoesOn 0) tt refl refl refl refl refl refl woken.0
woken-is script s m (Entry.Unlock g k) h woken = woken-goes script s m _ g (Move.GoesOn 0) tt refl refl refl refl refl refl woken.0
woken-is script s m (Entry.Add g w n) h woken = woken-goes script s m _ g (Move.GoesOn 0) tt refl refl refl refl refl refl woken.0
woken-is script s m (Entry.WgWait g w) h woken = woken-goes script s m _ g (Move.GoesOn 0) tt refl refl refl refl refl refl woken.0
woken-is script s m (Entry.CondWake g k) h woken = woken-goes script s m _ g (Move.GoesOn 0) tt refl refl refl refl refl refl woken.0
woken-is script s m (Entry.Signal g k None) h woken = woken-goes script s m _ g (Move.GoesOn 0) tt refl refl refl refl refl refl woken.0
woken-is script s m (Entry.Panic p reason) h woken = woken-goes script s m _ p.g Move.Panics tt refl refl refl refl refl refl woken.0
woken-is script s m (Entry.CtxErr g x err) h woken = woken-goes script s m _ g (Move.GoesOn 0) tt refl refl refl refl refl refl woken.0
woken-is script s m (Entry.Cause g x cause) h woken = woken-goes script s m _ g (Move.GoesOn 0) tt refl refl refl refl refl refl woken.0
woken-is script s m (Entry.CtxDone p x) h woken = woken-goes script s m _ p.g (Move.GoesOn p.case_no) tt refl refl refl refl refl refl woken.0
woken-is script s m (Entry.Cancel g x true n) h woken = absurd woken.0
woken-is script s m (Entry.Cancel g x false zero) h woken = woken-goes script s m _ g (Move.GoesOn 0) tt refl refl refl refl refl refl woken.0
woken-is script s m (Entry.Cancel g x false (suc n)) h woken = absurd woken.0
woken-is script s m _ h woken = absurd woken.0

-- what neither such an entry nor a finish changes
pub record IsFrame {X : Type 0} (script : Script) (F : State → X) : Type 0 where
  pub woken : (s : State) (m : Schedule) (e : Entry) → IsWoken script s m e → F (after script s e) ≡ F s
  pub finish : (s : State) (outcome : Outcome) → F (after script s (Entry.Finish outcome)) ≡ F s

frame-woken : {X : Type 0} (script : Script) (F : State → X) → IsFrame script F → (s : State) (m : Schedule) (h : List Entry) → AreWoken script s m h
    → F (state_after script s h) ≡ F s
frame-woken script F frame s m [] woken = refl
frame-woken script F frame s m (e ∷ h) woken =
    frame-woken script F frame (after script s e) (scheduled m e) h woken.1 ∙ frame.woken s m e (woken-is script s m e h woken)

frame-finish : {X : Type 0} (script : Script) (F : State → X) → IsFrame script F → (s : State) (o : Option Outcome) → F (state_after script s (finish_by o)) ≡ F s
frame-finish script F frame s None = refl
frame-finish script F frame s (Some outcome) = frame.finish s outcome

state-append : (script : Script) (s : State) (h k : List Entry) → state_after script s (h ++ k) ≡ state_after script (state_after script s h) k
state-append script s [] k = refl
state-append script s (e ∷ h) k = state-append script (after script s e) h k

pub enters-frame : {X : Type 0} (old : BookView) (e : Entry) (new : BookView) (F : State → X) → IsFrame old.script F → Enters old e new
    → F new.state ≡ F (after old.script old.state e)
enters-frame old e new F frame enters =
    let first : State = after old.script old.state e in
    let last : State = state_after old.script first enters.woken in
    ap (λ (b : BookView). F b.state) enters.is
    ∙ (ap F (state-append old.script old.state (e ∷ enters.woken) (finish_due old.limits last))
    ∙ (frame-finish old.script F frame last (due_outcome old.limits last)
    ∙ frame-woken old.script F frame first (scheduled old.schedule e) enters.woken enters.each_woken))

-- ---- sleeps

abbrev asleep : Option Goroutine → Option ℕ
asleep o = elim (option_map (λ (r : Goroutine). r.mode) o) as (λ o. Option ℕ) [ None ↦ None | Some mode ↦ until_of mode ]

abbrev MoverIsThere : List Goroutine → Option (ℕ × Move) → Type 0
MoverIsThere gs None = Unit {0}
MoverIsThere gs (Some x) = HasNumber gs x.0

asleep-move : (script : Script) (move : Move) (r : Goroutine) → asleep (Some (moved script move r)) ≡ until_after move (asleep (Some r))
asleep-move script (Move.GoesOn n) r = refl
asleep-move script (Move.FallsAsleep until) r = refl
asleep-move script (Move.Suspends k) r = refl
asleep-move script (Move.Relocks k) r = refl
asleep-move script Move.Ends r = refl
asleep-move script Move.Panics r = refl

asleep-moved : (script : Script) (gs : List Goroutine) (o : Option (ℕ × Move)) (h : ℕ) → MoverIsThere gs o
    → asleep (numbered (with_mover script gs o) h) ≡ sleep_touched o h (asleep (numbered gs h))
asleep-moved script gs None h there = refl
asleep-moved script gs (Some x) h there =
    elim (cases_eq h x.0) [
      | inl is ↦
          let before : numbered gs h ≡ Some there.item = ap (numbered gs) is ∙ there.there in
          let now : numbered (change_numbered gs x.0 (moved script x.1)) h ≡ Some (moved script x.1 there.item) =
          ap (numbered (change_numbered gs x.0 (moved script x.1))) is ∙ numbered-change_same gs x.0 (moved script x.1) there.item there.there in
          ap asleep now
          ∙ (asleep-move script x.1 there.item
          ∙ (ap (λ o. until_after x.1 (asleep o)) (sym before)
          ∙ ap (λ b. cond b (until_after x.1 (asleep (numbered gs h))) (asleep (numbered gs h))) (sym (eq-eqb h x.0 is))))
      | inr other ↦
          ap asleep (numbered-change_other gs x.0 h (moved script x.1) other)
          ∙ ap (λ b. cond b (until_after x.1 (asleep (numbered gs h))) (asleep (numbered gs h))) (sym (ne_eqb h x.0 other))
    ]

-- who is there is there after another one has moved
there-still : (script : Script) (gs : List Goroutine) (o p : Option (ℕ × Move)) → MoverIsThere gs p → MoverIsThere (with_mover script gs o) p
there-still script gs o None there = tt
there-still script gs o (Some x) there = has_number gs (with_mover script gs o) x.0 there.item (sym (length-mover script gs o)) there.there

-- who is signalled sleeps no more than before
asleep-signal : (k : ℕ) (o : Option Goroutine) → asleep (option_map (signalled k) o) ≡ asleep o
asleep-signal k None = refl
asleep-signal k (Some r) =
    elim (is_suspended k r) as (λ b. is_suspended k r ≡ b → asleep (Some (cond b (in_mode (Mode.Relocking k) r) r)) ≡ asleep (Some r)) [
      | true ↦ λ e. ap until_of (sym (suspended-mode k r e))
      | false ↦ λ e. refl
    ] refl

asleep-signalled : (gs : List Goroutine) (o : Option ℕ) (h : ℕ) → asleep (numbered (with_signalled gs o) h) ≡ asleep (numbered gs h)
asleep-signalled gs None h = refl
asleep-signalled gs (Some k) zero = refl
asleep-signalled gs (Some k) (suc i) = ap asleep (slice_get-map (signalled k) gs i) ∙ asleep-signal k (slice_get gs i)

awake-begun : (script : Script) (s : State) (x : Start) → asleep (Some (started_by script s x)) ≡ None
awake-begun script s (Start.ByGoroutine g f) = refl
awake-begun script s (Start.ByTimer t) = refl
awake-begun script s (Start.ByHook h) = refl
awake-begun script s (Start.ByEnd x i) = refl

asleep-begun : (script : Script) (s : State) (gs : List Goroutine) (starts : List Start) (h : ℕ) → asleep (numbered (with_starts script s gs starts) h) ≡ asleep (numbered gs h)
asleep-begun script s gs [] h = refl
asleep-begun script s gs (x ∷ xs) h =
    asleep-begun script s (gs ++ started_by script s x ∷ []) xs h
    ∙ elim (cases_eq h (length gs + 1)) as (λ _. asleep (numbered (gs ++ started_by script s x ∷ []) h) ≡ asleep (numbered gs h)) [
      | inl is ↦ ap asleep (numbered-push_same gs (started_by script s x) h is) ∙ (awake-begun script s x ∙ ap asleep (sym (numbered-next gs h is)))
      | inr other ↦ ap asleep (numbered-push_other gs (started_by script s x) h other)
    ]

sleeps-changed : (script : Script) (s : State) (c : Change) (h : ℕ) → MoverIsThere s.goroutines c.mover → MoverIsThere s.goroutines c.partner
    → sleeps_until (changed script s c) h ≡ sleep_touched c.partner h (sleep_touched c.mover h (sleeps_until s h))
sleeps-changed script s c h there partner =
    asleep-begun script s (with_signalled (with_mover script (with_mover script s.goroutines c.mover) c.partner) c.broadcast) c.starts h
    ∙ (asleep-signalled (with_mover script (with_mover script s.goroutines c.mover) c.partner) c.broadcast h
    ∙ (asleep-moved script (with_mover script s.goroutines c.mover) c.partner h (there-still script s.goroutines c.mover c.partner partner)
    ∙ ap (sleep_touched c.partner h) (asleep-moved script s.goroutines c.mover h there)))

-- who is firmly ready does not sleep
firm-mode : (script : Script) (s : State) (counts : ℕ → Bool) (g : ℕ) (r : Goroutine) (mode : Mode) → is_firm_in script s counts g r mode ≡ true → until_of mode ≡ None
firm-mode script s counts g r Mode.At h = refl
firm-mode script s counts g r (Mode.Sleeping until) h = cc
firm-mode script s counts g r (Mode.Suspended k) h = cc
firm-mode script s counts g r (Mode.Relocking k) h = refl
firm-mode script s counts g r Mode.Ended h = refl

firm-awake : (script : Script) (s : State) (m : Schedule) (g : ℕ) → is_firm_at script s m g ≡ true → sleeps_until s g ≡ None
firm-awake script s m g firm =
    elim (goroutine_at s g) as (λ o. (elim o as (λ o. Bool) [ None ↦ false | Some r ↦ is_firm script s (is_waiting m) g r ]) ≡ true → asleep o ≡ None) [
      | None ↦ λ h. refl
      | Some r ↦ λ h. firm-mode script s (is_waiting m) g r r.mode h
    ] firm

-- ---- due times and periods of timers

abbrev due_in : Option Timer → Option ℕ
due_in o = elim o as (λ o. Option ℕ) [ None ↦ None | Some r ↦ r.due ]

abbrev SettingIsRight : List (Option Timer) → Option (ℕ × Setting) → Type 0
SettingIsRight ts None = Unit {0}
SettingIsRight ts (Some (t, Setting.Made due)) = t < length ts
SettingIsRight ts (Some (t, Setting.SetAnew due)) = is_some (at ts t) ≡ true
SettingIsRight ts (Some (t, Setting.Ended next)) = is_some (at ts t) ≡ true

due-set_again : (due period : ℕ) (o : Option Timer) → is_some o ≡ true → due_in (set_again due period o) ≡ Some due
due-set_again due period None h = cc
due-set_again due period (Some r) h = refl

due-set_due : (next : Option ℕ) (o : Option Timer) → is_some o ≡ true → due_in (set_due next o) ≡ next
due-set_due next None h = cc
due-set_due next (Some r) h = refl

-- by whether it is the timer of the change
by-timer : (now : Option ℕ) (before after : Option ℕ) (t u : ℕ) → (u ≡ t → now ≡ after) → (u ≢ t → now ≡ before) → now ≡ cond (u == t) after before
by-timer now before after t u same other =
    elim (cases_eq u t) [
      | inl is ↦ same is ∙ ap (λ b. cond b after before) (sym (eq-eqb u t is))
      | inr n ↦ other n ∙ ap (λ b. cond b after before) (sym (ne_eqb u t n))
    ]

due-retimed : (script : Script) (s : State) (mover : Option (ℕ × Move)) (ts : List (Option Timer)) (c : Option (ℕ × Setting)) (u : ℕ) → SettingIsRight ts c
    → due_in (at (with_retimed script s mover ts c) u) ≡ timer_touched c u (due_in (at ts u))
due-retimed script s mover ts None u right = refl
due-retimed script s mover ts (Some (t, Setting.Made due)) u right =
    by-timer (due_in (at (retimed script s mover t ts (Setting.Made due)) u)) (due_in (at ts u)) (Some due) t u
    (λ is. ap (λ v. due_in (at (retimed script s mover t ts (Setting.Made due)) v)) is ∙ ap due_in (at-set_same ts t _ right))
    (λ n. ap due_in (at-set_other ts t u _ n))
due-retimed script s mover ts (Some (t, Setting.SetAnew due)) u right =
    let period : ℕ = new_period script s (number_of mover) t in
    by-timer (due_in (at (retimed script s mover t ts (Setting.SetAnew due)) u)) (due_in (at ts u)) (Some due) t u
    (λ is. ap (λ v. due_in (at (retimed script s mover t ts (Setting.SetAnew due)) v)) is
    ∙ (ap due_in (at-change_same ts t (set_again due period) refl) ∙ due-set_again due period (at ts t) right))
    (λ n. ap due_in (at-change_other ts t u (set_again due period) n))
due-retimed script s mover ts (Some (t, Setting.Ended next)) u right =
    by-timer (due_in (at (retimed script s mover t ts (Setting.Ended next)) u)) (due_in (at ts u)) next t u
    (λ is. ap (λ v. due_in (at (retimed script s mover t ts (Setting.Ended next)) v)) is
    ∙ (ap due_in (at-change_same ts t (set_due next) refl) ∙ due-set_due next (at ts t) right))
    (λ n. ap due_in (at-change_other ts t u (set_due next) n))

abbrev period_in : Option Timer → ℕ
period_in o = elim o as (λ o. ℕ) [ None ↦ 0 | Some r ↦ r.period ]

-- ---- own deadlines of contexts

abbrev live_in : Option Context → Option ℕ
live_in o = elim o as (λ o. Option ℕ) [ None ↦ None | Some r ↦ live_deadline r ]

-- a context that is made has its place
abbrev GrownIsRight : List (Option Context) → Option (ℕ × TreeStep) → Type 0
GrownIsRight cs None = Unit {0}
GrownIsRight cs (Some (x, TreeStep.Derived)) = x < length cs
GrownIsRight cs (Some (x, TreeStep.Canceled)) = Unit {0}
GrownIsRight cs (Some (x, TreeStep.Expired)) = Unit {0}
GrownIsRight cs (Some (x, TreeStep.Registered)) = Unit {0}
GrownIsRight cs (Some (x, TreeStep.Unhooked)) = Unit {0}

-- one that has ended has none
live-ended : (end : End) (o : Option Context) → live_in (option_map (ended_by end) o) ≡ None
live-ended end None = refl
live-ended end (Some r) =
    elim r.end as (λ o. cond (is_none (elim o as (λ o. Option End) [ None ↦ Some end | Some first ↦ Some first ])) r.own None ≡ None) [
      | None ↦ refl
      | Some first ↦ refl
    ]

live-cut : (script : Script) (s : State) (x : ℕ) (end : End) (u : ℕ) → live_in (at (cut_contexts script s x end) u) ≡ cond (is_reached script s x u) None (live_in (context_at s u))
live-cut script s x end u = ap live_in (at-cut script s x end u) ∙ by (is_reached script s x u)
  where
    by : (b : Bool) → live_in (cond b (option_map (ended_by end) (context_at s u)) (context_at s u)) ≡ cond b None (live_in (context_at s u))
    by true = live-ended end (context_at s u)
    by false = refl

live-grown : (script : Script) (s : State) (c : Change) (o : Option (ℕ × TreeStep)) (u : ℕ) → GrownIsRight s.contexts o
    → live_in (at (with_grown script s c.mover o) u) ≡ own_touched script s c o u (live_in (context_at s u))
live-grown script s c None u right = refl
live-grown script s c (Some (x, TreeStep.Derived)) u right =
    let made : Context = made_context script s (world_of s (number_of c.mover)) x in
    by-timer (live_in (at (set s.contexts x (Some made)) u)) (live_in (context_at s u)) (live_deadline made) x u
    (λ is. ap (λ v. live_in (at (set s.contexts x (Some made)) v)) is ∙ ap live_in (at-set_same s.contexts x (Some made) right))
    (λ n. ap live_in (at-set_other s.contexts x u (Some made) n))
live-grown script s c (Some (x, TreeStep.Canceled)) u right = live-cut script s x _ u
live-grown script s c (Some (x, TreeStep.Expired)) u right = live-cut script s x _ u
live-grown script s c (Some (x, TreeStep.Registered)) u right = refl
live-grown script s c (Some (x, TreeStep.Unhooked)) u right = refl

-- ---- what an entry touches is there

record TouchesRightly (s : State) (c : Change) : Type 0 where
  mover : MoverIsThere s.goroutines c.mover
  partner : MoverIsThere s.goroutines c.partner
  setting : SettingIsRight s.timers c.timer
  grown : GrownIsRight s.contexts c.tree

goer-there : (s : State) (o : Option (ℕ × Move)) → IfSome o (λ (m : ℕ × Move). IsLive s m.0) → MoverIsThere s.goroutines o
goer-there s None live = tt
goer-there s (Some x) live = record { item = live.who; there = live.there }

setting-right : (s : State) (o : Option (ℕ × Setting)) → IfSome o (λ (x : ℕ × Setting). FitsTimer s x.0 x.1) → SettingIsRight s.timers o
setting-right s None fits = tt
setting-right s (Some (t, Setting.Made due)) fits = fits.0
setting-right s (Some (t, Setting.SetAnew due)) fits = fits
setting-right s (Some (t, Setting.Ended next)) fits = fits

grown-right : (script : Script) (s : State) (o : Option (ℕ × TreeStep)) → IfSome o (λ (x : ℕ × TreeStep). FitsTree script s x.0 x.1) → GrownIsRight s.contexts o
grown-right script s None fits = tt
grown-right script s (Some (x, TreeStep.Derived)) fits = fits.within
grown-right script s (Some (x, TreeStep.Canceled)) fits = tt
grown-right script s (Some (x, TreeStep.Expired)) fits = tt
grown-right script s (Some (x, TreeStep.Registered)) fits = tt
grown-right script s (Some (x, TreeStep.Unhooked)) fits = tt

touches-legal : (script : Script) (limits : Limits) (s : State) (e : Entry) → IsGood script → IsFormed script s → Legal script limits s e → TouchesRightly s (change_of e)
touches-legal script limits s e good formed legal =
    let fits : Fits script s (change_of e) = fits-Legal script limits s e good formed legal in
    record { mover = goer-there s (change_of e).mover fits.mover; partner = goer-there s (change_of e).partner fits.partner; setting = setting-right s (change_of e).timer fits.timer; grown = grown-right script s (change_of e).tree fits.tree }

pub enters-fits : (old : BookView) (e : Entry) (new : BookView) → IsLawful old → Enters old e new
    → IfSome (change_of e).tree (λ (x : ℕ × TreeStep). FitsTree old.script old.state x.0 x.1)
enters-fits old e new lawful enters = (fits-Legal old.script old.limits old.state e lawful.good lawful.formed enters.legal.0).tree

enters-touches : (old : BookView) (e : Entry) (new : BookView) → IsLawful old → Enters old e new → TouchesRightly old.state (change_of e)
enters-touches old e new lawful enters = touches-legal old.script old.limits old.state e lawful.good lawful.formed enters.legal.0

-- ---- the due times that records have to show

cond-both : {X : Type 0} (b : Bool) (x y p q : X) → x ≡ p → y ≡ q → cond b x y ≡ cond b p q
cond-both true x y p q e f = e
cond-both false x y p q e f = f

-- the same of one inside another, where each branch is changed by what it was
cond-three : {X : Type 0} (b d : Bool) (f g h : X → X) (x y z p q r : X) → p ≡ f x → q ≡ g y → r ≡ h z
    → cond b (cond d p q) r ≡ cond b (cond d (f (cond b (cond d x y) z)) (g (cond b (cond d x y) z))) (h (cond b (cond d x y) z))
cond-three true true f g h x y z p q r e k l = e
cond-three true false f g h x y z p q r e k l = k
cond-three false d f g h x y z p q r e k l = l

dues-changed : (script : Script) (s : State) (c : Change) (id : ℕ) → TouchesRightly s c → due_by script (changed script s c) id ≡ touched script s c id (due_by script s id)
dues-changed script s c id right =
    let g : ℕ = id - length script.decls in
    let both : Option ℕ → Option ℕ = λ before. sleep_touched c.partner g (sleep_touched c.mover g before) in
    cond-three (nat_lt id (length script.decls)) (is_ctx script id) (own_touched script s c c.tree id) (timer_touched c.timer id) both (live_at s id) (due_of s id) (sleeps_until s g)
    (live_at (changed script s c) id) (due_of (changed script s c) id) (sleeps_until (changed script s c) g)
    (live-grown script s c c.tree id right.grown) (due-retimed script s c.mover s.timers c.timer id right.setting) (sleeps-changed script s c g right.mover right.partner)

-- who goes on and did not sleep still does not
sleep-goes_on : (g x : ℕ) (before : Option ℕ) → (g ≡ x → before ≡ None) → cond (g == x) None before ≡ before
sleep-goes_on g x before none =
    elim (cases_eq g x) [
      | inl is ↦ ap (λ b. cond b None before) (eq-eqb g x is) ∙ sym (none is)
      | inr other ↦ ap (λ b. cond b None before) (ne_eqb g x other)
    ]

firm-there : (script : Script) (s : State) (m : Schedule) (g : ℕ) → is_firm_at script s m g ≡ true → HasNumber s.goroutines g
firm-there script s m g firm =
    elim (goroutine_at s g) as (λ o. goroutine_at s g ≡ o → (elim o as (λ o. Bool) [ None ↦ false | Some r ↦ is_firm script s (is_waiting m) g r ]) ≡ true → HasNumber s.goroutines g) [
      | None ↦ λ e h. cc
      | Some r ↦ λ e h. record { item = r; there = e }
    ] refl firm

-- one that is awake and goes on, or panics, is awake
sleep-awake : (g x : ℕ) (move : Move) (before : Option ℕ) → IsAwake move → (g ≡ x → before ≡ None) → cond (g == x) (until_after move before) before ≡ before
sleep-awake g x (Move.GoesOn n) before awake none = sleep-goes_on g x before none
sleep-awake g x (Move.FallsAsleep until) before awake none = absurd awake
sleep-awake g x (Move.Suspends k) before awake none = absurd awake
sleep-awake g x (Move.Relocks k) before awake none = absurd awake
sleep-awake g x Move.Ends before awake none = absurd awake
sleep-awake g x Move.Panics before awake none = same-cond (g == x) before

sleeps-woken : (script : Script) (s : State) (m : Schedule) (e : Entry) (g : ℕ) → IsWoken script s m e → sleeps_until (after script s e) g ≡ sleeps_until s g
sleeps-woken script s m e g w =
    let there : HasNumber s.goroutines w.g = firm-there script s m w.g w.firm in
    sleeps-changed script s (change_of e) g (subst (MoverIsThere s.goroutines) (sym w.mover) there) (subst (MoverIsThere s.goroutines) (sym w.partner) tt)
    ∙ (ap (λ o. sleep_touched o g (sleep_touched (change_of e).mover g (sleeps_until s g))) w.partner
    ∙ (ap (λ o. sleep_touched o g (sleeps_until s g)) w.mover
    ∙ sleep-awake g w.g w.move (sleeps_until s g) w.awake (λ is. ap (sleeps_until s) is ∙ firm-awake script s m w.g w.firm)))

timers-woken : (script : Script) (s : State) (m : Schedule) (e : Entry) → IsWoken script s m e → (after script s e).timers ≡ s.timers
timers-woken script s m e w = ap (λ o. with_retimed script s (change_of e).mover s.timers o) w.timer

pub contexts-woken : (script : Script) (s : State) (m : Schedule) (e : Entry) → IsWoken script s m e → (after script s e).contexts ≡ s.contexts
contexts-woken script s m e w = ap (λ o. with_grown script s (change_of e).mover o) w.tree

dues-frame : (script : Script) (id : ℕ) → IsFrame script (λ s. due_by script s id)
dues-frame script id = record {
  woken = λ s m e w.
      cond-both (nat_lt id (length script.decls)) _ _ _ _
      (cond-both (is_ctx script id) _ _ _ _ (ap (λ cs. live_in (at cs id)) (contexts-woken script s m e w)) (ap (λ ts. due_in (at ts id)) (timers-woken script s m e w))) (sleeps-woken script s m e (id - length script.decls) w);
  finish = λ s outcome. refl;
}

pub enters-dues : (old : BookView) (e : Entry) (new : BookView) → IsLawful old → Enters old e new → (id : ℕ)
    → due_by new.script new.state id ≡ touched old.script old.state (change_of e) id (due_by old.script old.state id)
enters-dues old e new lawful enters id =
    ap (λ (script : Script). due_by script new.state id) (enters-script old e new enters)
    ∙ (enters-frame old e new (λ s. due_by old.script s id) (dues-frame old.script id) enters
    ∙ dues-changed old.script old.state (change_of e) id (enters-touches old e new lawful enters))

-- ---- the periods of timers

period-set_again : (due period : ℕ) (o : Option Timer) → is_some o ≡ true → period_in (set_again due period o) ≡ period
period-set_again due period None h = cc
period-set_again due period (Some r) h = refl

period-set_due : (next : Option ℕ) (o : Option Timer) → period_in (set_due next o) ≡ period_in o
period-set_due next None = refl
period-set_due next (Some r) = refl

by-period : (now before after t u : ℕ) → (u ≡ t → now ≡ after) → (u ≢ t → now ≡ before) → now ≡ cond (u == t) after before
by-period now before after t u same other =
    elim (cases_eq u t) [
      | inl is ↦ same is ∙ ap (λ b. cond b after before) (sym (eq-eqb u t is))
      | inr n ↦ other n ∙ ap (λ b. cond b after before) (sym (ne_eqb u t n))
    ]

period-retimed : (script : Script) (s : State) (c : Change) (u : ℕ) (o : Option (ℕ × Setting)) → SettingIsRight s.timers o
    → period_in (at (with_retimed script s c.mover s.timers o) u) ≡ timer_period_touched script s c u (period_in (at s.timers u)) o
period-retimed script s c u None right = refl
period-retimed script s c u (Some (t, Setting.Made due)) right =
    by-period (period_in (at (retimed script s c.mover t s.timers (Setting.Made due)) u)) (period_in (at s.timers u)) (new_period script s (number_of c.mover) t) t u
    (λ is. ap (λ v. period_in (at (retimed script s c.mover t s.timers (Setting.Made due)) v)) is ∙ ap period_in (at-set_same s.timers t _ right))
    (λ n. ap period_in (at-set_other s.timers t u _ n))
period-retimed script s c u (Some (t, Setting.SetAnew due)) right =
    let period : ℕ = new_period script s (number_of c.mover) t in
    by-period (period_in (at (retimed script s c.mover t s.timers (Setting.SetAnew due)) u)) (period_in (at s.timers u)) period t u
    (λ is. ap (λ v. period_in (at (retimed script s c.mover t s.timers (Setting.SetAnew due)) v)) is
    ∙ (ap period_in (at-change_same s.timers t (set_again due period) refl) ∙ period-set_again due period (at s.timers t) right))
    (λ n. ap period_in (at-change_other s.timers t u (set_again due period) n))
period-retimed script s c u (Some (t, Setting.Ended next)) right =
    by-period (period_in (at (retimed script s c.mover t s.timers (Setting.Ended next)) u)) (period_in (at s.timers u)) (period_in (at s.timers u)) t u
    (λ is. ap (λ v. period_in (at (retimed script s c.mover t s.timers (Setting.Ended next)) v)) is
    ∙ (ap period_in (at-change_same s.timers t (set_due next) refl) ∙ (period-set_due next (at s.timers t) ∙ ap (λ v. period_in (at s.timers v)) (sym is))))
    (λ n. ap period_in (at-change_other s.timers t u (set_due next) n))

periods-frame : (script : Script) (id : ℕ) → IsFrame script (λ s. period_by script s id)
periods-frame script id = record {
  woken = λ s m e w. ap (λ ts. cond (nat_lt id (length script.decls)) (period_in (at ts id)) 0) (timers-woken script s m e w);
  finish = λ s outcome. refl;
}

cond-inside : (b : Bool) (f : ℕ → ℕ) (x y : ℕ) → cond b (f x) y ≡ cond b (f (cond b x y)) (cond b x y)
cond-inside true f x y = refl
cond-inside false f x y = refl

periods-changed : (script : Script) (s : State) (c : Change) (id : ℕ) → TouchesRightly s c → period_by script (changed script s c) id ≡ period_touched script s c id (period_by script s id)
periods-changed script s c id right =
    let below : Bool = nat_lt id (length script.decls) in
    ap (λ x. cond below x 0) (period-retimed script s c id c.timer right.setting)
    ∙ cond-inside below (λ before. timer_period_touched script s c id before c.timer) (period_in (timer_at s id)) 0

pub enters-periods : (old : BookView) (e : Entry) (new : BookView) → IsLawful old → Enters old e new → (id : ℕ)
    → period_by new.script new.state id ≡ period_touched old.script old.state (change_of e) id (period_by old.script old.state id)
enters-periods old e new lawful enters id =
    ap (λ (script : Script). period_by script new.state id) (enters-script old e new enters)
    ∙ (enters-frame old e new (λ s. period_by old.script s id) (periods-frame old.script id) enters
    ∙ periods-changed old.script old.state (change_of e) id (enters-touches old e new lawful enters))

-- ---- the program's clock

clock-frame : (script : Script) → IsFrame script (λ s. clock s 0)
clock-frame script = record {
  woken = λ s m e w. ap (λ o. slice_index (with_clock s.clocks o) 0) w.clock;
  finish = λ s outcome. refl;
}

clock-set : (cs : List ℕ) (c : ℕ) (o : Option (ℕ × ℕ)) → cs ≡ c ∷ [] → slice_index (with_clock cs o) 0 ≡ clock_touched o c
clock-set cs c None is = ap (λ cs. slice_index cs 0) is
clock-set cs c (Some (zero, to)) is = ap (λ cs. slice_index (set cs 0 to) 0) is
clock-set cs c (Some (suc world, to)) is =
    ap (λ cs. slice_index (set cs (suc world) to) 0) is ∙ ap (λ b. cond b to c) (sym (ne_eqb (suc world) 0 (λ e. cc)))

pub enters-clock : (old : BookView) (e : Entry) (new : BookView) → IsLawful old → Enters old e new
    → clock new.state 0 ≡ clock_touched (change_of e).clock (clock old.state 0)
enters-clock old e new lawful enters =
    enters-frame old e new (λ s. clock s 0) (clock-frame old.script) enters
    ∙ clock-set old.state.clocks (clock old.state 0) (change_of e).clock lawful.formed.one_clock

-- ---- marks

marks-push : (m : Schedule) (g : ℕ) → marks_at (with_new m) g ≡ marks_at m g
marks-push m g =
    elim (cases_eq g (length m.marks + 1)) [
      | inl is ↦
          let now : numbered (m.marks ++ [] ∷ []) g ≡ Some [] = numbered-push_same m.marks [] g is in
          let before : numbered m.marks g ≡ None = numbered-next m.marks g is in
          rw (now, before) refl
      | inr other ↦
          let same : numbered (m.marks ++ [] ∷ []) g ≡ numbered m.marks g = numbered-push_other m.marks [] g other in
          rw same refl
    ]

marks-begun : (m : Schedule) (starts : List Start) (g : ℕ) → marks_at (begun_by m starts) g ≡ marks_at m g
marks-begun m [] g = refl
marks-begun m (x ∷ xs) g = marks-begun (with_new m) xs g ∙ marks-push m g

marks-gone_on : (m : Schedule) (x g : ℕ) (waits : Bool) → marks_at (gone_on m x waits) g ≡ marks_at m g
marks-gone_on m x g true = refl
marks-gone_on m x g false = refl

marks-turned : (m : Schedule) (x : ℕ) (move : Move) (g : ℕ) → marks_at (turned m x move) g ≡ marks_at m g
marks-turned m x (Move.GoesOn n) g = marks-gone_on m x g (is_parked (status_of m x))
marks-turned m x (Move.FallsAsleep until) g = refl
marks-turned m x (Move.Suspends k) g = refl
marks-turned m x (Move.Relocks k) g = refl
marks-turned m x Move.Ends g = refl
marks-turned m x Move.Panics g = refl

marks-moved : (m : Schedule) (o : Option (ℕ × Move)) (g : ℕ) → marks_at (moved_by m o) g ≡ marks_at m g
marks-moved m None g = refl
marks-moved m (Some x) g = marks-turned m x.0 x.1 g

marks-signalled : (m : Schedule) (o : Option ℕ) (g : ℕ) → marks_at (signalled_by m o) g ≡ marks_at m g
marks-signalled m None g = refl
marks-signalled m (Some k) g = ap (λ marks. marks_at (record m { marks = marks }) g) (each-marks m k (parties_at m.receivers k))

marks-after : (m : Schedule) (h : List Entry) (g : ℕ) → marks_at (schedule_after m h) g ≡ marks_at m g
marks-after m [] g = refl
marks-after m (e ∷ h) g =
    marks-after (scheduled m e) h g
    ∙ (marks-begun (signalled_by (moved_by (moved_by m (change_of e).mover) (change_of e).partner) (change_of e).broadcast) (change_of e).starts g
    ∙ (marks-signalled (moved_by (moved_by m (change_of e).mover) (change_of e).partner) (change_of e).broadcast g
    ∙ (marks-moved (moved_by m (change_of e).mover) (change_of e).partner g ∙ marks-moved m (change_of e).mover g)))

pub enters-marks : (old : BookView) (e : Entry) (new : BookView) → Enters old e new → (g : ℕ) → marks_at new.schedule g ≡ marks_at old.schedule g
enters-marks old e new enters g =
    ap (λ (b : BookView). marks_at b.schedule g) enters.is
    ∙ marks-after old.schedule ((e ∷ enters.woken) ++ finish_due old.limits (state_after old.script old.state (e ∷ enters.woken))) g
