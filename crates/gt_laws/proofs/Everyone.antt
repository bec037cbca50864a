-- The goroutines, the timers, the contexts and the hooks that a history tells are those of the state after it.
use Rattle.std.proofs.Common.{◌≡◌, ◌≢◌, ℕ, zero, suc, ◌+◌, ◌==◌, List, [], ◌∷◌, ◌++◌, map, set, slice_get, slice_index, slice_index_or, unwrap_or, refl, sym, ap, subst, ◌∙◌, cond, if◌then◌else◌, Option, None, Some, Bool, true, false, IfSome, option_map, append_assoc, append-nil, count_by}
use Rattle.std.specs.List.{enumerate_from}
use Rattle.std.proofs.lemmas.List.{map-append, map-set}
use Rattle.std.proofs.lemmas.List.Sums.{sum_by-cons}
use Rattle.gt_model.specs.declared.script.Script.{Script}
use Rattle.gt_model.specs.declared.script.Decl.{Decl}
use Rattle.gt_model.specs.declared.script.Instr.{Instr}
use Rattle.gt_model.specs.declared.script.Place.{Place}
use Rattle.gt_model.specs.declared.entry.Entry.{Entry}
use Rattle.gt_model.specs.declared.entry.Limits.{Limits}
use Rattle.gt_model.specs.declared.state.Goroutine.{Goroutine}
use Rattle.gt_model.specs.declared.state.Mode.{Mode}
use Rattle.gt_model.specs.declared.state.Timer.{Timer}
use Rattle.gt_model.specs.declared.context.Context.{Context}
use Rattle.gt_model.specs.declared.context.End.{End}
use Rattle.gt_model.specs.declared.context.HookState.{HookState}
use Rattle.gt_model.specs.Good.{IsGood}
use Rattle.gt_model.specs.Script.{instr_at, func_of, ctx_of, hook_func}
use Rattle.gt_model.specs.Tables.{at, numbered, change, change_numbered}
use Rattle.gt_model.proofs.Items.{numbered-change_other}
use Rattle.gt_rules.specs.State.{State, clock_of, goroutine_at, mode_of, world_of, until_of, sleeps_until, stands, stands_at, period_at, suspended_at, is_suspended, suspended_count, context_at, hook_at, next_number}
use Rattle.gt_rules.specs.declared.change.Move.{Move}
use Rattle.gt_rules.specs.declared.change.Setting.{Setting}
use Rattle.gt_rules.specs.declared.change.Start.{Start}
use Rattle.gt_rules.specs.declared.change.TreeStep.{TreeStep}
use Rattle.gt_rules.specs.Change.{change_of, by_hook}
use Rattle.gt_rules.specs.Contexts.{made_below, made_context, ended_by, is_reached, cut_one, cancel_end, named_by, expiry_end, end_above, starting, hook_is_due, hook_world, registered}
use Rattle.gt_rules.specs.Places.{place_after}
use Rattle.gt_rules.specs.After.{after, first_state, in_mode, moved, number_of, duration_of, period_of, new_period, set_due, set_again, timer_world, retimed, with_mover, with_signalled, started_by, with_starts, with_retimed, grown, hooked, with_grown, with_hooked}
use Rattle.gt_rules.specs.After as rules
use Rattle.gt_rules.specs.Finish.{Legal}
use Rattle.gt_rules.specs.History.{AllLegal, state_after}
use Rattle.gt_facts.specs.Formed.{IsFormed}
use Rattle.gt_facts.proofs.Fits.{IsLive}
use Rattle.gt_laws.specs.Told.{clock_told, beginner, Wait, awake, asleep, suspended, signalled, ToldGoroutine, ToldTimer, Everyone, world_in, owner_in, period_in, led, with_led, waken, with_woken, begun_by, mover_world, period_by, with_period, timed, with_timed, everyone_by, everyone_first, everyone_told, goroutine_told, world_told, owner_told, period_told, now_told, wait_of, wait_told, until_in, until_told, waits_in, suspended_told, stands_in, stands_of, stands_told, owner_of, begun_hook, hooks_started, derive_in, with_derived, registered_as, hooks_in, with_hooks, ctx_world_told, hook_told, starts_told}
use Rattle.gt_laws.proofs.Shown.{AreTwo, Step, shown-told, clock-told, tree-reached, formed-reached}
use Rattle.gt_laws.proofs.Trees.{IsTree, starting-started, cut-at_end}

-- ---- what is shown of a state

abbrev pub place_in : Place → Mode → Option Place
place_in place Mode.At = Some place
place_in place (Mode.Sleeping until) = Some place
place_in place (Mode.Suspended k) = Some place
place_in place (Mode.Relocking k) = Some place
place_in place Mode.Ended = None

abbrev pub wait_in : Mode → Wait
wait_in Mode.At = awake
wait_in (Mode.Sleeping until) = asleep until
wait_in (Mode.Suspended k) = suspended k
wait_in (Mode.Relocking k) = signalled k
wait_in Mode.Ended = awake

abbrev pub shown : Goroutine → ToldGoroutine
shown r = record { world = r.world; place = place_in r.place r.mode; wait = wait_in r.mode }

abbrev pub timer_in : Option Timer → Option ToldTimer
timer_in None = None
timer_in (Some r) = Some (record { owner = r.world; period = r.period })

abbrev pub ctx_in : Option Context → Option ℕ
ctx_in None = None
ctx_in (Some r) = Some r.world

abbrev pub show : State → Everyone
show s = record { goroutines = map shown s.goroutines; timers = map timer_in s.timers; contexts = map ctx_in s.contexts; hooks = s.hooks }

-- ---- lists

map-change : {X Y : Type 0} (f : X → Y) (g : X → X) (k : Y → Y) (xs : List X) (i : ℕ) → ((x : X) → slice_get xs i ≡ Some x → f (g x) ≡ k (f x)) → map f (change xs i g) ≡ change (map f xs) i k
map-change f g k [] i one = refl
map-change f g k (x ∷ xs) zero one = ap (λ y. y ∷ map f xs) (one x refl)
map-change f g k (x ∷ xs) (suc i) one = ap (λ ys. f x ∷ ys) (map-change f g k xs i one)

map-change_numbered : {X Y : Type 0} (f : X → Y) (g : X → X) (k : Y → Y) (xs : List X) (i : ℕ) → ((x : X) → numbered xs i ≡ Some x → f (g x) ≡ k (f x))
    → map f (change_numbered xs i g) ≡ change_numbered (map f xs) i k
map-change_numbered f g k xs zero one = refl
map-change_numbered f g k xs (suc i) one = map-change f g k xs i one

-- a change that f does not see
map-unseen : {X Y : Type 0} (f : X → Y) (g : X → X) (xs : List X) (i : ℕ) → ((x : X) → f (g x) ≡ f x) → map f (change xs i g) ≡ map f xs
map-unseen f g [] i one = refl
map-unseen f g (x ∷ xs) zero one = ap (λ y. y ∷ map f xs) (one x)
map-unseen f g (x ∷ xs) (suc i) one = ap (λ ys. f x ∷ ys) (map-unseen f g xs i one)

slice_get-map : {X Y : Type 0} (f : X → Y) (xs : List X) (i : ℕ) → slice_get (map f xs) i ≡ option_map f (slice_get xs i)
slice_get-map f [] i = refl
slice_get-map f (x ∷ xs) zero = refl
slice_get-map f (x ∷ xs) (suc i) = slice_get-map f xs i

pub numbered-map : {X Y : Type 0} (f : X → Y) (xs : List X) (g : ℕ) → numbered (map f xs) g ≡ option_map f (numbered xs g)
numbered-map f xs zero = refl
numbered-map f xs (suc i) = slice_get-map f xs i

-- ---- who moves

live-place : (place : Place) (mode : Mode) → (mode ≡ Mode.Ended → ⊥) → place_in place mode ≡ Some place
live-place place Mode.At live = refl
live-place place (Mode.Sleeping until) live = refl
live-place place (Mode.Suspended k) live = refl
live-place place (Mode.Relocking k) live = refl
live-place place Mode.Ended live = absurd (live refl)

-- somebody of this world at this place, who waits so
abbrev who : ℕ → Wait → Option Place → ToldGoroutine
who w wait place = record { world = w; place = place; wait = wait }

led-mode : (script : Script) (m : Move) (w : ℕ) (place : Place) (mode : Mode) → (mode ≡ Mode.Ended → ⊥)
    → shown (moved script m (record { world = w; place = place; mode = mode })) ≡ led script m (shown (record { world = w; place = place; mode = mode }))
led-mode script (Move.GoesOn case_no) w place mode live = sym (ap (λ (o : Option Place). who w awake (option_map (place_after script case_no) o)) (live-place place mode live))
led-mode script (Move.FallsAsleep until) w place mode live = sym (ap (who w (asleep until)) (live-place place mode live))
led-mode script (Move.Suspends k) w place mode live = sym (ap (who w (suspended k)) (live-place place mode live))
led-mode script (Move.Relocks k) w place mode live = sym (ap (who w (signalled k)) (live-place place mode live))
led-mode script Move.Ends w place mode live = refl
led-mode script Move.Panics w place mode live = refl

lives : (s : State) (g : ℕ) (r : Goroutine) → IsLive s g → goroutine_at s g ≡ Some r → r.mode ≡ Mode.Ended → ⊥
lives s g r live e =
    let there : goroutine_at s g ≡ Some live.who = live.there in
    let same : live.who ≡ r = cc in
    subst (λ (r : Goroutine). r.mode ≡ Mode.Ended → ⊥) same live.live

says-led : (script : Script) (s : State) (m : Option (ℕ × Move)) → IfSome m (λ (m : ℕ × Move). IsLive s m.0)
    → map shown (with_mover script s.goroutines m) ≡ with_led script (map shown s.goroutines) m
says-led script s None live = refl
says-led script s (Some m) live =
    map-change_numbered shown (moved script m.1) (led script m.1) s.goroutines m.0 (λ r e. led-mode script m.1 r.world r.place r.mode (lives s m.0 r live e))

-- the second one stands where it stood before the first one moved
second-live : (script : Script) (s : State) (m : Option (ℕ × Move)) (g : ℕ) (r : Goroutine) → IfSome m (λ (m : ℕ × Move). g ≢ m.0) → IsLive s g
    → numbered (with_mover script s.goroutines m) g ≡ Some r → r.mode ≡ Mode.Ended → ⊥
second-live script s None g r other live e = lives s g r live e
second-live script s (Some m) g r other live e = lives s g r live (sym (numbered-change_other s.goroutines m.0 g (moved script m.1) other) ∙ e)

says-both : (script : Script) (s : State) (m p : Option (ℕ × Move)) → IfSome m (λ (m : ℕ × Move). IsLive s m.0) → IfSome p (λ (m : ℕ × Move). IsLive s m.0) → AreTwo m p
    → map shown (with_mover script (with_mover script s.goroutines m) p) ≡ with_led script (with_led script (map shown s.goroutines) m) p
says-both script s m None live alive two = says-led script s m live
says-both script s m (Some p) live alive two =
    map-change_numbered shown (moved script p.1) (led script p.1) (with_mover script s.goroutines m) p.0
    (λ r e. led-mode script p.1 r.world r.place r.mode (second-live script s m p.0 r two alive e))
    ∙ ap (λ rs. change_numbered rs p.0 (led script p.1)) (says-led script s m live)

-- ---- who is signalled by a broadcast

shown-woken : (k w : ℕ) (place : Place) (mode : Mode) → shown (rules.signalled k (record { world = w; place = place; mode = mode })) ≡ waken k (shown (record { world = w; place = place; mode = mode }))
shown-woken k w place Mode.At = refl
shown-woken k w place (Mode.Sleeping until) = refl
shown-woken k w place (Mode.Suspended at) =
    elim (at == k) as (λ b. shown (cond b (record { world = w; place = place; mode = Mode.Relocking k }) (record { world = w; place = place; mode = Mode.Suspended at }))
    ≡ record { world = w; place = Some place; wait = if b then signalled k else suspended at }) [ true ↦ refl | false ↦ refl ]
shown-woken k w place (Mode.Relocking at) = refl
shown-woken k w place Mode.Ended = refl

map-both : {X Y : Type 0} (f : X → Y) (g : X → X) (k : Y → Y) (xs : List X) → ((x : X) → f (g x) ≡ k (f x)) → map f (map g xs) ≡ map k (map f xs)
map-both f g k [] one = refl
map-both f g k (x ∷ xs) one = ap (λ y. y ∷ map f (map g xs)) (one x) ∙ ap (λ ys. k (f x) ∷ ys) (map-both f g k xs one)

says-woken : (gs : List Goroutine) (o : Option ℕ) → map shown (with_signalled gs o) ≡ with_woken (map shown gs) o
says-woken gs None = refl
says-woken gs (Some k) = map-both shown (rules.signalled k) (waken k) gs (λ r. shown-woken k r.world r.place r.mode)

-- ---- who starts

shown-world : (s : State) (g : ℕ) → world_of s g ≡ world_in (numbered (map shown s.goroutines) g)
shown-world s g =
    elim (goroutine_at s g) as (λ o. (elim o as (λ o. ℕ) [ None ↦ 0 | Some r ↦ r.world ]) ≡ world_in (option_map shown o)) [ None ↦ refl | Some r ↦ refl ]
    ∙ sym (ap world_in (numbered-map shown s.goroutines g))

at-shown : (timers : List (Option Timer)) (t : ℕ) → at (map timer_in timers) t ≡ timer_in (at timers t)
at-shown [] t = refl
at-shown (o ∷ timers) zero = refl
at-shown (o ∷ timers) (suc t) = at-shown timers t

at-ctx : (contexts : List (Option Context)) (x : ℕ) → at (map ctx_in contexts) x ≡ ctx_in (at contexts x)
at-ctx [] x = refl
at-ctx (o ∷ contexts) zero = refl
at-ctx (o ∷ contexts) (suc x) = at-ctx contexts x

ctx-owner : (contexts : List (Option Context)) (o : Option ℕ)
    → (elim o as (λ o. ℕ) [ None ↦ 0 | Some x ↦ elim (at contexts x) as (λ o. ℕ) [ None ↦ 0 | Some r ↦ r.world ] ]) ≡ owner_of (map ctx_in contexts) o
ctx-owner contexts None = refl
ctx-owner contexts (Some x) =
    elim (at contexts x) as (λ o. (elim o as (λ o. ℕ) [ None ↦ 0 | Some r ↦ r.world ]) ≡ unwrap_or (ctx_in o) 0) [ None ↦ refl | Some r ↦ refl ]
    ∙ sym (ap (λ (o : Option ℕ). unwrap_or o 0) (at-ctx contexts x))

-- the world of a context
pub shown-ctx : (s : State) (x : ℕ) → (elim (context_at s x) as (λ o. ℕ) [ None ↦ 0 | Some r ↦ r.world ]) ≡ owner_of (map ctx_in s.contexts) (Some x)
shown-ctx s x = ctx-owner s.contexts (Some x)

shown-owner : (s : State) (t : ℕ) → timer_world s t ≡ owner_in (at (map timer_in s.timers) t)
shown-owner s t =
    elim (at s.timers t) as (λ o. (elim o as (λ o. ℕ) [ None ↦ 0 | Some r ↦ r.world ]) ≡ owner_in (timer_in o)) [ None ↦ refl | Some r ↦ refl ]
    ∙ sym (ap owner_in (at-shown s.timers t))

shown-period : (s : State) (t : ℕ) → period_at s t ≡ period_in (at (map timer_in s.timers) t)
shown-period s t =
    elim (at s.timers t) as (λ o. (elim o as (λ o. ℕ) [ None ↦ 0 | Some r ↦ r.period ]) ≡ period_in (timer_in o)) [ None ↦ refl | Some r ↦ refl ]
    ∙ sym (ap period_in (at-shown s.timers t))

hook-begun : (script : Script) (s : State) (k : ℕ) → shown (rules.begun script (hook_world script s k) (hook_func script k)) ≡ begun_hook script (show s) k
hook-begun script s k = ap (λ w. beginner script w (hook_func script k)) (ctx-owner s.contexts (ctx_of script k))

begun : (script : Script) (s : State) (x : Start) → IsFormed script s → IsTree script s → shown (started_by script s x) ≡ begun_by script (show s) x
begun script s (Start.ByGoroutine g f) formed tree = ap (λ w. beginner script w f) (shown-world s g)
begun script s (Start.ByTimer t) formed tree = ap (λ w. beginner script w (func_of script t)) (shown-owner s t)
begun script s (Start.ByHook k) formed tree = hook-begun script s k
begun script s (Start.ByEnd x i) formed tree =
    hook-begun script s (slice_index (starting script s x) i) ∙ ap (λ ks. begun_hook script (show s) (slice_index ks i)) (starting-started script s x formed tree)

says-begun : (script : Script) (s : State) (gs : List Goroutine) (xs : List Start) → IsFormed script s → IsTree script s
    → map shown (with_starts script s gs xs) ≡ map shown gs ++ map (begun_by script (show s)) xs
says-begun script s gs [] formed tree = sym (append-nil (map shown gs))
says-begun script s gs (x ∷ xs) formed tree =
    says-begun script s (gs ++ started_by script s x ∷ []) xs formed tree
    ∙ (ap (λ rs. rs ++ map (begun_by script (show s)) xs) (map-append shown gs (started_by script s x ∷ []) ∙ ap (λ r. map shown gs ++ r ∷ []) (begun script s x formed tree))
    ∙ append_assoc (map shown gs) (begun_by script (show s) x ∷ []) (map (begun_by script (show s)) xs))

-- ---- what becomes of a timer

pub stands-shown : (script : Script) (place : Place) (mode : Mode)
    → (elim mode as (λ m. Option Instr) [ Mode.At ↦ instr_at script place | _ ↦ None ]) ≡ stands_in script (place_in place mode) (wait_in mode)
stands-shown script place Mode.At = refl
stands-shown script place (Mode.Sleeping until) = refl
stands-shown script place (Mode.Suspended k) = refl
stands-shown script place (Mode.Relocking k) = refl
stands-shown script place Mode.Ended = refl

stands-of : (script : Script) (o : Option Goroutine) → (elim o as (λ o. Option Instr) [ None ↦ None | Some r ↦ stands script r ]) ≡ stands_of script (option_map shown o)
stands-of script None = refl
stands-of script (Some r) = stands-shown script r.place r.mode

shown-stands : (script : Script) (s : State) (g : ℕ) → stands_at script s g ≡ stands_of script (numbered (map shown s.goroutines) g)
shown-stands script s g = stands-of script (goroutine_at s g) ∙ sym (ap (stands_of script) (numbered-map shown s.goroutines g))

says-mover : (s : State) (m : Option (ℕ × Move)) → world_of s (number_of m) ≡ mover_world (map shown s.goroutines) m
says-mover s None = refl
says-mover s (Some m) = shown-world s m.0

says-period : (script : Script) (s : State) (m : Option (ℕ × Move)) (t : ℕ) → new_period script s (number_of m) t ≡ period_by script (map shown s.goroutines) m t
says-period script s None t = refl
says-period script s (Some m) t = ap (λ (o : Option Instr). period_of script t (duration_of o)) (shown-stands script s m.0)

kept-due : (due : Option ℕ) (o : Option Timer) → timer_in (set_due due o) ≡ timer_in o
kept-due due None = refl
kept-due due (Some r) = refl

shown-again : (due period : ℕ) (o : Option Timer) → timer_in (set_again due period o) ≡ option_map (with_period period) (timer_in o)
shown-again due period None = refl
shown-again due period (Some r) = refl

setting-timed : (script : Script) (s : State) (m : Option (ℕ × Move)) (t : ℕ) (x : Setting)
    → map timer_in (retimed script s m t s.timers x) ≡ timed script (map shown s.goroutines) m t (map timer_in s.timers) x
setting-timed script s m t (Setting.Made due) =
    map-set timer_in s.timers t _
    ∙ (ap (λ w. set (map timer_in s.timers) t (Some (record { owner = w; period = new_period script s (number_of m) t }))) (says-mover s m)
    ∙ ap (λ period. set (map timer_in s.timers) t (Some (record { owner = mover_world (map shown s.goroutines) m; period = period }))) (says-period script s m t))
setting-timed script s m t (Setting.SetAnew due) =
    let period : ℕ = new_period script s (number_of m) t in
    map-change timer_in (set_again due period) (option_map (with_period period)) s.timers t (λ o e. shown-again due period o)
    ∙ ap (λ period. change (map timer_in s.timers) t (option_map (with_period period))) (says-period script s m t)
setting-timed script s m t (Setting.Ended due) = map-unseen timer_in (set_due due) s.timers t (kept-due due)

says-timed : (script : Script) (s : State) (m : Option (ℕ × Move)) (o : Option (ℕ × Setting))
    → map timer_in (with_retimed script s m s.timers o) ≡ with_timed script (map shown s.goroutines) m (map timer_in s.timers) o
says-timed script s m None = refl
says-timed script s m (Some x) = setting-timed script s m x.0 x.1

-- ---- what becomes of a context

made-world : (w : ℕ) (above : Option End) (own : Option ℕ) (expiry : End) (now : ℕ) → (made_below w above own expiry now).world ≡ w
made-world w (Some end) own expiry now = refl
made-world w None own expiry now = refl

-- what no end changes
pub cut-unseen : {V : Type 0} (show : Option Context → V) → ((end : End) (r : Context) → show (Some (ended_by end r)) ≡ show (Some r)) → (script : Script) (s : State) (x n : ℕ) (end : End)
    (contexts : List (Option Context)) → map show (map (cut_one script s x end) (enumerate_from n contexts)) ≡ map show contexts
cut-unseen show same script s x n end [] = refl
cut-unseen show same script s x n end (o ∷ contexts) =
    ap (λ y. y ∷ map show (map (cut_one script s x end) (enumerate_from (n + 1) contexts))) (unseen (is_reached script s x n) o)
    ∙ ap (λ ys. show o ∷ ys) (cut-unseen show same script s x (n + 1) end contexts)
  where
    unseen : (b : Bool) (o : Option Context) → show (cond b (option_map (ended_by end) o) o) ≡ show o
    unseen true None = refl
    unseen true (Some r) = same end r
    unseen false o = refl

grown-shown : (script : Script) (s : State) (w : ℕ) (i : Option Instr) (x : ℕ) (step : TreeStep)
    → map ctx_in (grown script s w i x step) ≡ derive_in w (map ctx_in s.contexts) x step
grown-shown script s w i x TreeStep.Derived =
    map-set ctx_in s.contexts x (Some (made_context script s w x))
    ∙ ap (λ v. set (map ctx_in s.contexts) x (Some v)) (made-world w (end_above script s x) _ _ _)
grown-shown script s w i x TreeStep.Canceled = cut-unseen ctx_in (λ end r. refl) script s x 0 (cancel_end (named_by i)) s.contexts
grown-shown script s w i x TreeStep.Expired = cut-unseen ctx_in (λ end r. refl) script s x 0 (expiry_end script x) s.contexts
grown-shown script s w i x TreeStep.Registered = refl
grown-shown script s w i x TreeStep.Unhooked = refl

says-derived : (script : Script) (s : State) (m : Option (ℕ × Move)) (o : Option (ℕ × TreeStep))
    → map ctx_in (with_grown script s m o) ≡ with_derived (mover_world (map shown s.goroutines) m) (map ctx_in s.contexts) o
says-derived script s m None = refl
says-derived script s m (Some x) =
    grown-shown script s (world_of s (number_of m)) (stands_at script s (number_of m)) x.0 x.1
    ∙ ap (λ w. derive_in w (map ctx_in s.contexts) x.0 x.1) (says-mover s m)

-- ---- and of a hook

-- what becomes of a hook that is registered is told by who is started
abbrev StartsBy : Script → State → List Start → ℕ → TreeStep → Type 0
StartsBy script s starts x TreeStep.Derived = Unit {0}
StartsBy script s starts x TreeStep.Canceled = Unit {0}
StartsBy script s starts x TreeStep.Expired = Unit {0}
StartsBy script s starts x TreeStep.Registered = registered script s x ≡ registered_as starts
StartsBy script s starts x TreeStep.Unhooked = Unit {0}

due-starts : (b : Bool) (k n : ℕ) (child : Option ℕ) → child ≡ cond b (Some n) None → cond b HookState.Started HookState.Waiting ≡ registered_as (by_hook k child)
due-starts true k n child e = sym (ap (λ o. registered_as (by_hook k o)) e)
due-starts false k n child e = sym (ap (λ o. registered_as (by_hook k o)) e)

starts-by : (script : Script) (limits : Limits) (s : State) (e : Entry) → Legal script limits s e
    → IfSome (change_of e).tree (λ (x : ℕ × TreeStep). StartsBy script s (change_of e).starts x.0 x.1)
starts-by script limits s (Entry.CtxAfter g k child) legal = due-starts (hook_is_due script s k) k (next_number s) child legal.1.1
starts-by script limits s (Entry.Cancel g x true starts) legal = tt
starts-by script limits s (Entry.Cancel g x false starts) legal = tt
starts-by script limits s _ legal = tt

hooked-shown : (script : Script) (s : State) (starts : List Start) (x : ℕ) (step : TreeStep) → IsFormed script s → IsTree script s → StartsBy script s starts x step
    → hooked script s x step ≡ hooks_in script starts s.hooks x step
hooked-shown script s starts x TreeStep.Derived formed tree by = refl
hooked-shown script s starts x TreeStep.Canceled formed tree by = cut-at_end script s x formed tree
hooked-shown script s starts x TreeStep.Expired formed tree by = cut-at_end script s x formed tree
hooked-shown script s starts x TreeStep.Registered formed tree by = ap (λ hook. change s.hooks x (λ was. hook)) by
hooked-shown script s starts x TreeStep.Unhooked formed tree by = refl

says-hooked : (script : Script) (s : State) (starts : List Start) (o : Option (ℕ × TreeStep)) → IsFormed script s → IsTree script s
    → IfSome o (λ (x : ℕ × TreeStep). StartsBy script s starts x.0 x.1) → with_hooked script s o ≡ with_hooks script starts s.hooks o
says-hooked script s starts None formed tree by = refl
says-hooked script s starts (Some x) formed tree by = hooked-shown script s starts x.0 x.1 formed tree by

-- ---- everyone

abbrev together : List ToldGoroutine → List (Option ToldTimer) → List (Option ℕ) → List HookState → Everyone
together rs os cs ks = record { goroutines = rs; timers = os; contexts = cs; hooks = ks }

all-four : (rs qs : List ToldGoroutine) (os ps : List (Option ToldTimer)) (cs ds : List (Option ℕ)) (ks js : List HookState) → rs ≡ qs → os ≡ ps → cs ≡ ds → ks ≡ js
    → together rs os cs ks ≡ together qs ps ds js
all-four rs qs os ps cs ds ks js same alike made kept =
    ap (λ rs. together rs os cs ks) same ∙ (ap (λ os. together qs os cs ks) alike ∙ (ap (λ cs. together qs ps cs ks) made ∙ ap (λ ks. together qs ps ds ks) kept))

one-everyone : (script : Script) (limits : Limits) (s : State) (e : Entry) → Step script limits s e → show (after script s e) ≡ everyone_by script (show s) (change_of e)
one-everyone script limits s e step =
    all-four _ _ _ _ _ _ _ _
    (says-begun script s (with_signalled (with_mover script (with_mover script s.goroutines (change_of e).mover) (change_of e).partner) (change_of e).broadcast) (change_of e).starts
    step.formed step.tree
    ∙ ap (λ rs. rs ++ map (begun_by script (show s)) (change_of e).starts)
    (says-woken (with_mover script (with_mover script s.goroutines (change_of e).mover) (change_of e).partner) (change_of e).broadcast
    ∙ ap (λ rs. with_woken rs (change_of e).broadcast) (says-both script s (change_of e).mover (change_of e).partner step.fits.mover step.fits.partner step.two)))
    (says-timed script s (change_of e).mover (change_of e).timer)
    (says-derived script s (change_of e).mover (change_of e).tree)
    (says-hooked script s (change_of e).starts (change_of e).tree step.formed step.tree (starts-by script limits s e step.legal))

pub none-map : {X Y : Type 0} (f : Option X → Option Y) (decls : List Decl) → f None ≡ None → map f (map (λ (d : Decl). None) decls) ≡ map (λ (d : Decl). None) decls
none-map f [] none = refl
none-map f (d ∷ ds) none = ap (λ o. o ∷ map f (map (λ (d : Decl). None) ds)) none ∙ ap (λ os. None ∷ os) (none-map f ds none)

pub everyone-told : (script : Script) (limits : Limits) (h : List Entry) → IsGood script → AllLegal script limits (first_state script) h
    → show (state_after script (first_state script) h) ≡ everyone_told script h
everyone-told script limits = shown-told script limits show (everyone_by script) (everyone_first script) (one-everyone script limits)
    (all-four _ _ _ _ _ _ _ _ refl (none-map timer_in script.decls refl) (none-map ctx_in script.decls refl) refl)

-- ---- and of each of them

pub goroutine-told : (script : Script) (limits : Limits) (g : ℕ) (h : List Entry) → IsGood script → AllLegal script limits (first_state script) h
    → option_map shown (goroutine_at (state_after script (first_state script) h) g) ≡ goroutine_told script g h
goroutine-told script limits g h good legal =
    sym (numbered-map shown (state_after script (first_state script) h).goroutines g)
    ∙ ap (λ (all : Everyone). numbered all.goroutines g) (everyone-told script limits h good legal)

pub owner-told : (script : Script) (limits : Limits) (t : ℕ) (h : List Entry) → IsGood script → AllLegal script limits (first_state script) h
    → timer_world (state_after script (first_state script) h) t ≡ owner_told script t h
owner-told script limits t h good legal =
    shown-owner (state_after script (first_state script) h) t ∙ ap (λ (all : Everyone). owner_in (at all.timers t)) (everyone-told script limits h good legal)

-- the world of a context, what has become of a hook, and which hooks an end starts
pub ctx_world-told : (script : Script) (limits : Limits) (x : ℕ) (h : List Entry) → IsGood script → AllLegal script limits (first_state script) h
    → (elim (context_at (state_after script (first_state script) h) x) as (λ o. ℕ) [ None ↦ 0 | Some r ↦ r.world ]) ≡ ctx_world_told script x h
ctx_world-told script limits x h good legal =
    shown-ctx (state_after script (first_state script) h) x ∙ ap (λ (all : Everyone). owner_of all.contexts (Some x)) (everyone-told script limits h good legal)

pub hook-told : (script : Script) (limits : Limits) (k : ℕ) (h : List Entry) → IsGood script → AllLegal script limits (first_state script) h
    → hook_at (state_after script (first_state script) h) k ≡ hook_told script k h
hook-told script limits k h good legal = ap (λ (all : Everyone). slice_index_or all.hooks k HookState.Unregistered) (everyone-told script limits h good legal)

pub starts-told : (script : Script) (limits : Limits) (x : ℕ) (h : List Entry) → IsGood script → AllLegal script limits (first_state script) h
    → starting script (state_after script (first_state script) h) x ≡ starts_told script x h
starts-told script limits x h good legal =
    starting-started script (state_after script (first_state script) h) x (formed-reached script limits h good legal) (tree-reached script limits h good legal)
    ∙ ap (λ (all : Everyone). hooks_started script all.hooks x) (everyone-told script limits h good legal)

pub period-told : (script : Script) (limits : Limits) (t : ℕ) (h : List Entry) → IsGood script → AllLegal script limits (first_state script) h
    → period_at (state_after script (first_state script) h) t ≡ period_told script t h
period-told script limits t h good legal =
    shown-period (state_after script (first_state script) h) t ∙ ap (λ (all : Everyone). period_in (at all.timers t)) (everyone-told script limits h good legal)

pub world-told : (script : Script) (limits : Limits) (g : ℕ) (h : List Entry) → IsGood script → AllLegal script limits (first_state script) h
    → world_of (state_after script (first_state script) h) g ≡ world_told script g h
world-told script limits g h good legal =
    shown-world (state_after script (first_state script) h) g
    ∙ ap (λ (all : Everyone). world_in (numbered all.goroutines g)) (everyone-told script limits h good legal)

pub now-told : (script : Script) (limits : Limits) (g : ℕ) (h : List Entry) → IsGood script → AllLegal script limits (first_state script) h
    → clock_of (state_after script (first_state script) h) g ≡ now_told script g h
now-told script limits g h good legal =
    clock-told script limits (world_of (state_after script (first_state script) h) g) h good legal
    ∙ ap (λ w. clock_told w h) (world-told script limits g h good legal)

pub until-shown : (mode : Mode) → until_of mode ≡ until_in (wait_in mode)
until-shown Mode.At = refl
until-shown (Mode.Sleeping until) = refl
until-shown (Mode.Suspended k) = refl
until-shown (Mode.Relocking k) = refl
until-shown Mode.Ended = refl

pub until-told : (script : Script) (limits : Limits) (g : ℕ) (h : List Entry) → IsGood script → AllLegal script limits (first_state script) h
    → sleeps_until (state_after script (first_state script) h) g ≡ until_told script g h
until-told script limits g h good legal =
    elim (goroutine_at (state_after script (first_state script) h) g)
    as (λ o. (elim (option_map (λ (r : Goroutine). r.mode) o) as (λ o. Option ℕ) [ None ↦ None | Some mode ↦ until_of mode ])
    ≡ until_in (wait_of (option_map shown o))) [ None ↦ refl | Some r ↦ until-shown r.mode ]
    ∙ ap (λ (o : Option ToldGoroutine). until_in (wait_of o)) (goroutine-told script limits g h good legal)

pub stands-told : (script : Script) (limits : Limits) (g : ℕ) (h : List Entry) → IsGood script → AllLegal script limits (first_state script) h
    → stands_at script (state_after script (first_state script) h) g ≡ stands_told script g h
stands-told script limits g h good legal =
    stands-of script (goroutine_at (state_after script (first_state script) h) g) ∙ ap (stands_of script) (goroutine-told script limits g h good legal)

-- ---- who waits at a Cond

pub wait-told : (script : Script) (limits : Limits) (g : ℕ) (h : List Entry) → IsGood script → AllLegal script limits (first_state script) h
    → wait_of (option_map shown (goroutine_at (state_after script (first_state script) h) g)) ≡ wait_told script g h
wait-told script limits g h good legal = ap wait_of (goroutine-told script limits g h good legal)

-- and who waits at a Cond is in the mode of that wait
signalled-mode : (k : ℕ) (mode : Mode) → wait_in mode ≡ signalled k → mode ≡ Mode.Relocking k
signalled-mode k Mode.At e = cc
signalled-mode k (Mode.Sleeping until) e = cc
signalled-mode k (Mode.Suspended at) e = cc
signalled-mode k (Mode.Relocking at) e = let same : at ≡ k = cc in ap Mode.Relocking same
signalled-mode k Mode.Ended e = cc

suspended-mode : (k : ℕ) (mode : Mode) → wait_in mode ≡ suspended k → mode ≡ Mode.Suspended k
suspended-mode k Mode.At e = cc
suspended-mode k (Mode.Sleeping until) e = cc
suspended-mode k (Mode.Suspended at) e = let same : at ≡ k = cc in ap Mode.Suspended same
suspended-mode k (Mode.Relocking at) e = cc
suspended-mode k Mode.Ended e = cc

-- who is in a mode waits as that mode says
mode-wait : (o : Option Goroutine) (mode : Mode) → option_map (λ (r : Goroutine). r.mode) o ≡ Some mode → wait_of (option_map shown o) ≡ wait_in mode
mode-wait None mode e = cc
mode-wait (Some r) mode e = let same : r.mode ≡ mode = cc in ap wait_in same

wait-signalled : (o : Option Goroutine) (k : ℕ) → wait_of (option_map shown o) ≡ signalled k → option_map (λ (r : Goroutine). r.mode) o ≡ Some (Mode.Relocking k)
wait-signalled None k e = cc
wait-signalled (Some r) k e = ap Some (signalled-mode k r.mode e)

wait-suspended : (o : Option Goroutine) (k : ℕ) → wait_of (option_map shown o) ≡ suspended k → option_map (λ (r : Goroutine). r.mode) o ≡ Some (Mode.Suspended k)
wait-suspended None k e = cc
wait-suspended (Some r) k e = ap Some (suspended-mode k r.mode e)

pub relocks-told : (script : Script) (limits : Limits) (g k : ℕ) (h : List Entry) → IsGood script → AllLegal script limits (first_state script) h
    → mode_of (state_after script (first_state script) h) g ≡ Some (Mode.Relocking k) → wait_told script g h ≡ signalled k
relocks-told script limits g k h good legal is =
    sym (wait-told script limits g h good legal) ∙ mode-wait (goroutine_at (state_after script (first_state script) h) g) (Mode.Relocking k) is

pub told-relocks : (script : Script) (limits : Limits) (g k : ℕ) (h : List Entry) → IsGood script → AllLegal script limits (first_state script) h
    → wait_told script g h ≡ signalled k → mode_of (state_after script (first_state script) h) g ≡ Some (Mode.Relocking k)
told-relocks script limits g k h good legal is =
    wait-signalled (goroutine_at (state_after script (first_state script) h) g) k (wait-told script limits g h good legal ∙ is)

pub suspends-told : (script : Script) (limits : Limits) (g k : ℕ) (h : List Entry) → IsGood script → AllLegal script limits (first_state script) h
    → mode_of (state_after script (first_state script) h) g ≡ Some (Mode.Suspended k) → wait_told script g h ≡ suspended k
suspends-told script limits g k h good legal is =
    sym (wait-told script limits g h good legal) ∙ mode-wait (goroutine_at (state_after script (first_state script) h) g) (Mode.Suspended k) is

pub told-suspends : (script : Script) (limits : Limits) (g k : ℕ) (h : List Entry) → IsGood script → AllLegal script limits (first_state script) h
    → wait_told script g h ≡ suspended k → mode_of (state_after script (first_state script) h) g ≡ Some (Mode.Suspended k)
told-suspends script limits g k h good legal is =
    wait-suspended (goroutine_at (state_after script (first_state script) h) g) k (wait-told script limits g h good legal ∙ is)

-- and how many wait there
waits-shown : (k : ℕ) (mode : Mode) → (elim (suspended_at mode) as (λ o. Bool) [ None ↦ false | Some at ↦ at == k ]) ≡ waits_in k (wait_in mode)
waits-shown k Mode.At = refl
waits-shown k (Mode.Sleeping until) = refl
waits-shown k (Mode.Suspended at) = refl
waits-shown k (Mode.Relocking at) = refl
waits-shown k Mode.Ended = refl

count-map : {X Y : Type 0} (p : X → Bool) (q : Y → Bool) (m : X → Y) (xs : List X) → ((x : X) → p x ≡ q (m x)) → count_by p xs ≡ count_by q (map m xs)
count-map p q m [] same = refl
count-map p q m (x ∷ xs) same =
    sum_by-cons (λ x. cond (p x) 1 0) x xs
    ∙ (ap (λ b. cond b 1 0 + count_by p xs) (same x)
    ∙ (ap (λ n. cond (q (m x)) 1 0 + n) (count-map p q m xs same) ∙ sym (sum_by-cons (λ y. cond (q y) 1 0) (m x) (map m xs))))

pub suspended-told : (script : Script) (limits : Limits) (k : ℕ) (h : List Entry) → IsGood script → AllLegal script limits (first_state script) h
    → suspended_count (state_after script (first_state script) h) k ≡ suspended_told script k h
suspended-told script limits k h good legal =
    count-map (is_suspended k) (λ (r : ToldGoroutine). waits_in k r.wait) shown (state_after script (first_state script) h).goroutines (λ r. waits-shown k r.mode)
    ∙ ap (λ (all : Everyone). count_by (λ (r : ToldGoroutine). waits_in k r.wait) all.goroutines) (everyone-told script limits h good legal)
