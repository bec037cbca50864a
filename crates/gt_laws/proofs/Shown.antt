-- What the entries of a history tell is what the state after them has: one induction for all that is told, and then each quantity by the parts of a change.
use Rattle.std.proofs.Common.{◌≡◌, ◌≢◌, ℕ, zero, suc, ◌+◌, ◌<◌, ◌==◌, List, [], ◌∷◌, length, map, set, slice_index, slice_index_or, refl, sym, ap, subst, ◌∙◌, arith, cond, if◌then◌else◌, Option, None, Some, Bool, true, false, is_some, IfSome, unwrap_or}
use Rattle.gt_model.specs.declared.script.Script.{Script}
use Rattle.gt_model.specs.declared.script.Decl.{Decl}
use Rattle.gt_model.specs.declared.script.Instr.{Instr}
use Rattle.gt_model.specs.declared.entry.Entry.{Entry}
use Rattle.gt_model.specs.declared.entry.Limits.{Limits}
use Rattle.gt_model.specs.declared.state.Timer.{Timer}
use Rattle.gt_model.specs.declared.state.Ending.{Ending}
use Rattle.gt_model.specs.Good.{IsGood}
use Rattle.gt_model.specs.Tables.{at, change}
use Rattle.gt_model.specs.declared.context.HookState.{HookState}
use Rattle.gt_rules.specs.State.{State, clock, timer_at, due_of, context_at, hook_at, is_registered, world_of, stands_at}
use Rattle.gt_rules.specs.Contexts.{is_starting, cut_hook, hook_is_due, registered, unhooked}
use Rattle.gt_rules.specs.declared.change.TreeStep.{TreeStep}
use Rattle.gt_rules.specs.declared.change.Move.{Move}
use Rattle.gt_rules.specs.declared.change.Setting.{Setting}
use Rattle.gt_rules.specs.Change.{Change, change_of}
use Rattle.gt_rules.specs.After.{after, first_state, option_or, with_mover, with_signalled, retimed, with_retimed, with_clock, set_due, set_again, number_of, hooked, with_grown, with_hooked}
use Rattle.gt_rules.specs.Finish.{Legal}
use Rattle.gt_rules.specs.History.{AllLegal, state_after}
use Rattle.gt_model.proofs.Items.{at-set_same, at-set_other, at-change_same, at-change_other}
use Rattle.gt_facts.specs.Formed.{IsFormed}
use Rattle.gt_facts.proofs.Formed.{formed-first, formed-Legal, length-movers, length-starts}
use Rattle.gt_facts.proofs.Fits.{Fits, FitsTimer, FitsTree, fits-Legal}
use Rattle.gt_facts.proofs.Suspended.{signals-other, length-signalled}
use Rattle.gt_laws.specs.Told.{told, clock_by, clock_told, due_set, due_by, due_told, makes, made_by, made_told, ending_by, ending_told, entries_by, entries_told, started_told, derives, derived_by, derived_told, registers, registered_by, registered_told}
use Rattle.gt_laws.specs.Told as told
use Rattle.gt_laws.proofs.Numbers.{by-number}
use Rattle.gt_laws.proofs.Trees.{IsTree, tree-first, tree-after, grown-derives, hook-cut, hook-change_same, hook-change_other, none-at, none-hooked}

-- ---- all that is told

-- of two who make an entry each is another
abbrev pub AreTwo : Option (ℕ × Move) → Option (ℕ × Move) → Type 0
AreTwo mover partner = IfSome partner (λ (p : ℕ × Move). IfSome mover (λ (m : ℕ × Move). p.0 ≢ m.0))

pub two-Legal : (script : Script) (limits : Limits) (s : State) (e : Entry) → Legal script limits s e → AreTwo (change_of e).mover (change_of e).partner
two-Legal script limits s (Entry.Pair from to c v) legal = λ same. legal.1.4 (sym same)
two-Legal script limits s (Entry.Signal g k (Some h)) legal = signals-other script s g h k (Instr.Signal k) legal.1.0.stands legal.1.1
two-Legal script limits s _ legal = tt

-- an entry that may come in a state which a run reaches
pub record Step (script : Script) (limits : Limits) (s : State) (e : Entry) : Type 0 where
  pub good : IsGood script
  pub formed : IsFormed script s
  pub tree : IsTree script s
  pub legal : Legal script limits s e
  pub fits : Fits script s (change_of e)
  pub two : AreTwo (change_of e).mover (change_of e).partner

pub step-legal : (script : Script) (limits : Limits) (s : State) (e : Entry) → IsGood script → IsFormed script s → IsTree script s → Legal script limits s e → Step script limits s e
step-legal script limits s e good formed tree legal = record {
  good = good;
  formed = formed;
  tree = tree;
  legal = legal;
  fits = fits-Legal script limits s e good formed legal;
  two = two-Legal script limits s e legal;
}

shown-from : {V : Type 0} (script : Script) (limits : Limits) (show : State → V) (by : V → Change → V)
    → ((s : State) (e : Entry) → Step script limits s e → show (after script s e) ≡ by (show s) (change_of e))
    → (s : State) (h : List Entry) → IsGood script → IsFormed script s → IsTree script s → AllLegal script limits s h
    → show (state_after script s h) ≡ told by (show s) h
shown-from script limits show by one s [] good formed tree legal = refl
shown-from script limits show by one s (e ∷ h) good formed tree legal =
    let step : Step script limits s e = step-legal script limits s e good formed tree legal.0 in
    shown-from script limits show by one (after script s e) h good (formed-Legal script limits s e good formed legal.0) (tree-after script s e formed tree step.fits) legal.1
    ∙ ap (λ v. told by v h) (one s e step)

pub shown-told : {V : Type 0} (script : Script) (limits : Limits) (show : State → V) (by : V → Change → V) (first : V)
    → ((s : State) (e : Entry) → Step script limits s e → show (after script s e) ≡ by (show s) (change_of e))
    → show (first_state script) ≡ first
    → (h : List Entry) → IsGood script → AllLegal script limits (first_state script) h
    → show (state_after script (first_state script) h) ≡ told by first h
shown-told script limits show by first one is h good legal =
    shown-from script limits show by one (first_state script) h good (formed-first script good) (tree-first script) legal ∙ ap (λ v. told by v h) is

-- the state after these entries
abbrev pub reached : Script → List Entry → State
reached script h = state_after script (first_state script) h

formed-from : (script : Script) (limits : Limits) (s : State) (h : List Entry) → IsGood script → IsFormed script s → AllLegal script limits s h
    → IsFormed script (state_after script s h)
formed-from script limits s [] good formed legal = formed
formed-from script limits s (e ∷ h) good formed legal = formed-from script limits (after script s e) h good (formed-Legal script limits s e good formed legal.0) legal.1

pub formed-reached : (script : Script) (limits : Limits) (h : List Entry) → IsGood script → AllLegal script limits (first_state script) h → IsFormed script (reached script h)
formed-reached script limits h good legal = formed-from script limits (first_state script) h good (formed-first script good) legal

tree-from : (script : Script) (limits : Limits) (s : State) (h : List Entry) → IsGood script → IsFormed script s → IsTree script s → AllLegal script limits s h
    → IsTree script (state_after script s h)
tree-from script limits s [] good formed tree legal = tree
tree-from script limits s (e ∷ h) good formed tree legal =
    tree-from script limits (after script s e) h good (formed-Legal script limits s e good formed legal.0)
    (tree-after script s e formed tree (fits-Legal script limits s e good formed legal.0)) legal.1

pub tree-reached : (script : Script) (limits : Limits) (h : List Entry) → IsGood script → AllLegal script limits (first_state script) h → IsTree script (reached script h)
tree-reached script limits h good legal = tree-from script limits (first_state script) h good (formed-first script good) (tree-first script) legal

-- ---- the end, the entries and the starts

says-ending : (ending : Ending) (o : Option Ending) → option_or ending o ≡ unwrap_or o ending
says-ending ending None = refl
says-ending ending (Some new) = refl

pub ending-told : (script : Script) (limits : Limits) (h : List Entry) → IsGood script → AllLegal script limits (first_state script) h
    → (state_after script (first_state script) h).ending ≡ ending_told h
ending-told script limits = shown-told script limits (λ (s : State). s.ending) ending_by Ending.Running (λ s e step. says-ending s.ending (change_of e).ending) refl

pub entries-told : (script : Script) (limits : Limits) (h : List Entry) → IsGood script → AllLegal script limits (first_state script) h
    → (state_after script (first_state script) h).entries ≡ entries_told h
entries-told script limits = shown-told script limits (λ (s : State). s.entries) entries_by 0 (λ s e step. refl) refl

pub started-told : (script : Script) (limits : Limits) (h : List Entry) → IsGood script → AllLegal script limits (first_state script) h
    → length (state_after script (first_state script) h).goroutines ≡ started_told h
started-told script limits = shown-told script limits (λ (s : State). length s.goroutines) told.started_by 1
    (λ s e step. length-starts script s (with_signalled (with_mover script (with_mover script s.goroutines (change_of e).mover) (change_of e).partner) (change_of e).broadcast) (change_of e).starts
    ∙ ap (λ n. n + length (change_of e).starts)
    (length-signalled (with_mover script (with_mover script s.goroutines (change_of e).mover) (change_of e).partner) (change_of e).broadcast
    ∙ length-movers script s.goroutines (change_of e).mover (change_of e).partner)) refl

-- ---- clocks

set-clock : (clocks : List ℕ) (v w to : ℕ) → v < length clocks → slice_index (set clocks v to) w ≡ (if v == w then to else slice_index clocks w)
set-clock clocks v w to h = by-number v w (λ b. slice_index (set clocks v to) w ≡ (if b then to else slice_index clocks w))
    (λ same. subst (λ w. slice_index (set clocks v to) w ≡ to) same (here clocks v h))
    (λ other. there clocks v w other)
  where
    here : (clocks : List ℕ) (v : ℕ) → v < length clocks → slice_index (set clocks v to) v ≡ to
    here [] v h = absurd (omega arith)
    here (c ∷ cs) zero h = refl
    here (c ∷ cs) (suc v) h = here cs v (omega arith)

    there : (clocks : List ℕ) (v w : ℕ) → w ≢ v → slice_index (set clocks v to) w ≡ slice_index clocks w
    there [] v w n = refl
    there (c ∷ cs) zero zero n = absurd (n refl)
    there (c ∷ cs) zero (suc w) n = refl
    there (c ∷ cs) (suc v) zero n = refl
    there (c ∷ cs) (suc v) (suc w) n = there cs v w (λ e. n (ap suc e))

says-clock : (w : ℕ) (clocks : List ℕ) (o : Option (ℕ × ℕ)) → IfSome o (λ (x : ℕ × ℕ). x.0 < length clocks)
    → slice_index (with_clock clocks o) w ≡ (elim o as (λ o. ℕ) [ None ↦ slice_index clocks w | Some x ↦ if x.0 == w then x.1 else slice_index clocks w ])
says-clock w clocks None fits = refl
says-clock w clocks (Some x) fits = set-clock clocks x.0 w x.1 fits

first_clock : (w : ℕ) → slice_index (0 ∷ []) w ≡ 0
first_clock zero = refl
first_clock (suc w) = refl

pub clock-told : (script : Script) (limits : Limits) (w : ℕ) (h : List Entry) → IsGood script → AllLegal script limits (first_state script) h
    → clock (state_after script (first_state script) h) w ≡ clock_told w h
clock-told script limits w = shown-told script limits (λ (s : State). clock s w) (clock_by w) 0 (λ s e step. says-clock w s.clocks (change_of e).clock step.fits.clock) (first_clock w)

-- ---- timers

abbrev pub due_in : Option Timer → Option ℕ
due_in None = None
due_in (Some r) = r.due

due-in : (o : Option Timer) → (elim o as (λ o. Option ℕ) [ None ↦ None | Some r ↦ r.due ]) ≡ due_in o
due-in None = refl
due-in (Some r) = refl

says-timer : {V : Type 0} (show : Option Timer → V) (timers : List (Option Timer)) (u t : ℕ) (f : Option Timer → Option Timer) (v : V)
    → f None ≡ None → show (f (at timers u)) ≡ v → show (at (change timers u f) t) ≡ (if u == t then v else show (at timers t))
says-timer show timers u t f v none is = by-number u t (λ b. show (at (change timers u f) t) ≡ (if b then v else show (at timers t)))
    (λ same. subst (λ t. show (at (change timers u f) t) ≡ v) same (ap show (at-change_same timers u f none) ∙ is))
    (λ other. ap show (at-change_other timers u t f other))

says-made : {V : Type 0} (show : Option Timer → V) (timers : List (Option Timer)) (u t : ℕ) (r : Timer) → u < length timers
    → show (at (set timers u (Some r)) t) ≡ (if u == t then show (Some r) else show (at timers t))
says-made show timers u t r h = by-number u t (λ b. show (at (set timers u (Some r)) t) ≡ (if b then show (Some r) else show (at timers t)))
    (λ same. subst (λ t. show (at (set timers u (Some r)) t) ≡ show (Some r)) same (ap show (at-set_same timers u (Some r) h)))
    (λ other. ap show (at-set_other timers u t (Some r) other))

due-set_again : (o : Option Timer) (due period : ℕ) → is_some o ≡ true → due_in (set_again due period o) ≡ Some due
due-set_again None due period h = cc
due-set_again (Some r) due period h = refl

due-set_due : (o : Option Timer) (due : Option ℕ) → is_some o ≡ true → due_in (set_due due o) ≡ due
due-set_due None due h = cc
due-set_due (Some r) due h = refl

made-set_again : (o : Option Timer) (due period : ℕ) → is_some (set_again due period o) ≡ is_some o
made-set_again None due period = refl
made-set_again (Some r) due period = refl

made-set_due : (o : Option Timer) (due : Option ℕ) → is_some (set_due due o) ≡ is_some o
made-set_due None due = refl
made-set_due (Some r) due = refl

-- a setting of timer u
setting-due : (script : Script) (s : State) (m : Option (ℕ × Move)) (u t : ℕ) (x : Setting) → FitsTimer s u x
    → due_in (at (retimed script s m u s.timers x) t) ≡ (if u == t then due_set x else due_in (at s.timers t))
setting-due script s m u t (Setting.Made due) fits = says-made due_in s.timers u t _ fits.0
setting-due script s m u t (Setting.SetAnew due) fits = says-timer due_in s.timers u t _ (Some due) refl (due-set_again (at s.timers u) due _ fits)
setting-due script s m u t (Setting.Ended due) fits = says-timer due_in s.timers u t (set_due due) due refl (due-set_due (at s.timers u) due fits)

setting-made : (script : Script) (s : State) (m : Option (ℕ × Move)) (u t : ℕ) (x : Setting) → FitsTimer s u x
    → is_some (at (retimed script s m u s.timers x) t) ≡ (if u == t then makes x (is_some (at s.timers u)) else is_some (at s.timers t))
setting-made script s m u t (Setting.Made due) fits = says-made is_some s.timers u t _ fits.0
setting-made script s m u t (Setting.SetAnew due) fits = says-timer is_some s.timers u t _ (is_some (at s.timers u)) refl (made-set_again (at s.timers u) due _)
setting-made script s m u t (Setting.Ended due) fits = says-timer is_some s.timers u t (set_due due) (is_some (at s.timers u)) refl (made-set_due (at s.timers u) due)

-- what a timer was is asked of that timer
same-timer : (s : State) (u t : ℕ) (x : Setting) → (if u == t then makes x (is_some (at s.timers u)) else is_some (at s.timers t)) ≡ (if u == t then makes x (is_some (at s.timers t)) else is_some (at s.timers t))
same-timer s u t x = by-number u t (λ b. (if b then makes x (is_some (at s.timers u)) else is_some (at s.timers t)) ≡ (if b then makes x (is_some (at s.timers t)) else is_some (at s.timers t)))
    (λ same. ap (λ t. makes x (is_some (at s.timers t))) same)
    (λ other. refl)

says-due : (script : Script) (s : State) (m : Option (ℕ × Move)) (t : ℕ) (o : Option (ℕ × Setting)) → IfSome o (λ (x : ℕ × Setting). FitsTimer s x.0 x.1)
    → due_in (at (with_retimed script s m s.timers o) t)
    ≡ (elim o as (λ o. Option ℕ) [ None ↦ due_in (at s.timers t) | Some x ↦ if x.0 == t then due_set x.1 else due_in (at s.timers t) ])
says-due script s m t None fits = refl
says-due script s m t (Some x) fits = setting-due script s m x.0 t x.1 fits

says-is_made : (script : Script) (s : State) (m : Option (ℕ × Move)) (t : ℕ) (o : Option (ℕ × Setting)) → IfSome o (λ (x : ℕ × Setting). FitsTimer s x.0 x.1)
    → is_some (at (with_retimed script s m s.timers o) t)
    ≡ (elim o as (λ o. Bool) [ None ↦ is_some (at s.timers t) | Some x ↦ if x.0 == t then makes x.1 (is_some (at s.timers t)) else is_some (at s.timers t) ])
says-is_made script s m t None fits = refl
says-is_made script s m t (Some x) fits = setting-made script s m x.0 t x.1 fits ∙ same-timer s x.0 t x.1

none-made : {V : Type 0} (show : Option Timer → V) (decls : List Decl) (t : ℕ) → show (at (map (λ (d : Decl). None) decls) t) ≡ show None
none-made show [] t = refl
none-made show (d ∷ ds) zero = refl
none-made show (d ∷ ds) (suc t) = none-made show ds t

pub due_in-told : (script : Script) (limits : Limits) (t : ℕ) (h : List Entry) → IsGood script → AllLegal script limits (first_state script) h
    → due_in (timer_at (state_after script (first_state script) h) t) ≡ due_told t h
due_in-told script limits t = shown-told script limits (λ (s : State). due_in (timer_at s t)) (due_by t) None
    (λ s e step. says-due script s (change_of e).mover t (change_of e).timer step.fits.timer) (none-made due_in script.decls t)

pub due-told : (script : Script) (limits : Limits) (t : ℕ) (h : List Entry) → IsGood script → AllLegal script limits (first_state script) h
    → due_of (state_after script (first_state script) h) t ≡ due_told t h
due-told script limits t h good legal = due-in (timer_at (state_after script (first_state script) h) t) ∙ due_in-told script limits t h good legal

pub made-told : (script : Script) (limits : Limits) (t : ℕ) (h : List Entry) → IsGood script → AllLegal script limits (first_state script) h
    → is_some (timer_at (state_after script (first_state script) h) t) ≡ made_told t h
made-told script limits t = shown-told script limits (λ (s : State). is_some (timer_at s t)) (made_by t) false
    (λ s e step. says-is_made script s (change_of e).mover t (change_of e).timer step.fits.timer) (none-made is_some script.decls t)

-- ---- contexts that were made, and hooks that were registered

says-derived : (script : Script) (s : State) (m : Option (ℕ × Move)) (y : ℕ) (o : Option (ℕ × TreeStep)) → IfSome o (λ (x : ℕ × TreeStep). FitsTree script s x.0 x.1)
    → is_some (at (with_grown script s m o) y)
    ≡ (elim o as (λ o. Bool) [ None ↦ is_some (context_at s y) | Some x ↦ if x.0 == y then derives x.1 (is_some (context_at s y)) else is_some (context_at s y) ])
says-derived script s m y None fits = refl
says-derived script s m y (Some x) fits = grown-derives script s (world_of s (number_of m)) (stands_at script s (number_of m)) x.0 y x.1 fits

pub derived-told : (script : Script) (limits : Limits) (x : ℕ) (h : List Entry) → IsGood script → AllLegal script limits (first_state script) h
    → is_some (context_at (reached script h) x) ≡ derived_told x h
derived-told script limits x = shown-told script limits (λ (s : State). is_some (context_at s x)) (derived_by x) false
    (λ s e step. says-derived script s (change_of e).mover x (change_of e).tree step.fits.tree) (none-at is_some script.decls x)

same-either : {V : Type 0} (b : Bool) (v : V) → v ≡ (if b then v else v)
same-either true v = refl
same-either false v = refl

-- a hook that an end starts was registered, and so was one that is taken back
cut-registered : (script : Script) (s : State) (x k : ℕ) (hook : HookState) → is_registered (cut_hook script s x (k, hook)) ≡ is_registered hook
cut-registered script s x k HookState.Unregistered = refl
cut-registered script s x k HookState.Waiting =
    elim (is_starting script s x (k, HookState.Waiting)) as (λ b. is_registered (cond b HookState.Started HookState.Waiting) ≡ true) [ true ↦ refl | false ↦ refl ]
cut-registered script s x k HookState.Started = refl
cut-registered script s x k HookState.Stopped = refl

unhooked-registered : (hook : HookState) → is_registered (unhooked hook) ≡ is_registered hook
unhooked-registered HookState.Unregistered = refl
unhooked-registered HookState.Waiting = refl
unhooked-registered HookState.Started = refl
unhooked-registered HookState.Stopped = refl

new-registered : (script : Script) (s : State) (h : ℕ) → is_registered (registered script s h) ≡ true
new-registered script s h =
    elim (hook_is_due script s h) as (λ b. is_registered (cond b HookState.Started HookState.Waiting) ≡ true) [ true ↦ refl | false ↦ refl ]

-- what is shown of hook k after a change of hook h
hook-shows : {V : Type 0} (show : HookState → V) (hooks : List HookState) (h k : ℕ) (f : HookState → HookState) (v : V) → h < length hooks
    → show (f (slice_index_or hooks h HookState.Unregistered)) ≡ v
    → show (slice_index_or (change hooks h f) k HookState.Unregistered) ≡ (if h == k then v else show (slice_index_or hooks k HookState.Unregistered))
hook-shows show hooks h k f v within is =
    by-number h k (λ b. show (slice_index_or (change hooks h f) k HookState.Unregistered) ≡ (if b then v else show (slice_index_or hooks k HookState.Unregistered)))
    (λ same. subst (λ k. show (slice_index_or (change hooks h f) k HookState.Unregistered) ≡ v) same (ap show (hook-change_same hooks h f within) ∙ is))
    (λ other. ap show (hook-change_other hooks h k f other))

step-registers : (script : Script) (s : State) (x k : ℕ) (step : TreeStep) → FitsTree script s x step
    → is_registered (slice_index_or (hooked script s x step) k HookState.Unregistered) ≡ (if x == k then registers step (is_registered (hook_at s k)) else is_registered (hook_at s k))
step-registers script s x k TreeStep.Derived fits = same-either (x == k) (is_registered (hook_at s k))
step-registers script s x k TreeStep.Canceled fits =
    ap is_registered (hook-cut script s x k) ∙ (cut-registered script s x k (hook_at s k) ∙ same-either (x == k) (is_registered (hook_at s k)))
step-registers script s x k TreeStep.Expired fits =
    ap is_registered (hook-cut script s x k) ∙ (cut-registered script s x k (hook_at s k) ∙ same-either (x == k) (is_registered (hook_at s k)))
step-registers script s x k TreeStep.Registered fits =
    hook-shows is_registered s.hooks x k (λ hook. registered script s x) true fits.within (new-registered script s x)
step-registers script s x k TreeStep.Unhooked fits =
    hook-shows is_registered s.hooks x k unhooked (is_registered (hook_at s x)) fits.within (unhooked-registered (hook_at s x))
    ∙ by-number x k (λ b. (if b then is_registered (hook_at s x) else is_registered (hook_at s k)) ≡ (if b then is_registered (hook_at s k) else is_registered (hook_at s k)))
    (λ same. ap (λ k. is_registered (hook_at s k)) same) (λ other. refl)

says-registered : (script : Script) (s : State) (k : ℕ) (o : Option (ℕ × TreeStep)) → IfSome o (λ (x : ℕ × TreeStep). FitsTree script s x.0 x.1)
    → is_registered (slice_index_or (with_hooked script s o) k HookState.Unregistered)
    ≡ (elim o as (λ o. Bool) [ None ↦ is_registered (hook_at s k) | Some x ↦ if x.0 == k then registers x.1 (is_registered (hook_at s k)) else is_registered (hook_at s k) ])
says-registered script s k None fits = refl
says-registered script s k (Some x) fits = step-registers script s x.0 k x.1 fits

pub registered-told : (script : Script) (limits : Limits) (k : ℕ) (h : List Entry) → IsGood script → AllLegal script limits (first_state script) h
    → is_registered (hook_at (reached script h) k) ≡ registered_told k h
registered-told script limits k = shown-told script limits (λ (s : State). is_registered (hook_at s k)) (registered_by k) false
    (λ s e step. says-registered script s k (change_of e).tree step.fits.tree) (ap is_registered (none-hooked script.decls k))
