-- What is declared has a place in a formed state, and what it stands on is declared as such.
use Rattle.std.proofs.Common.{◌≡◌, ◌≢◌, ℕ, ◌<◌, length, slice_get, refl, subst, arith, Option, None, Some, true, IsTrue, IfSome, option_map}
use Rattle.gt_model.specs.declared.script.Script.{Script}
use Rattle.gt_model.specs.declared.script.Decl.{Decl}
use Rattle.gt_model.specs.declared.script.What.{What}
use Rattle.gt_model.specs.declared.state.Mode.{Mode}
use Rattle.gt_model.specs.declared.context.Form.{Form}
use Rattle.gt_model.specs.Script.{what_at, names_mutex, names_cond, names_ctx, names_hook, named_form, takes_cause, is_timer, is_func, is_chan, is_mutex, is_cond, is_ctx, is_hook, form_of, hook_func, mutex_of}
use Rattle.gt_model.specs.Good.{IsGood, DeclaresRightly, FormsRightly, CancelsRightly, is_setting}
use Rattle.gt_model.proofs.GoodCode.{all_at}
use Rattle.gt_model.proofs.Declared.{setting_declared, chan_declared, mutex_declared, ctx_declared, hook_declared, endable_ctx, timer_setting, func_setting}
use Rattle.gt_rules.specs.State.{State, mode_of, suspended_at, relocking_at}
use Rattle.gt_facts.specs.Formed.{IsFormed}
use Rattle.gt_facts.proofs.Lookups.{InMode, in-mode}

pub setting_within : (script : Script) (s : State) (t : ℕ) → IsFormed script s → IsTrue (is_setting script t) → t < length s.timers
setting_within script s t formed h = rw formed.timers (setting_declared script t h)

pub timer_within : (script : Script) (s : State) (t : ℕ) → IsFormed script s → IsTrue (is_timer script t) → t < length s.timers
timer_within script s t formed h = setting_within script s t formed (timer_setting script t h)

pub func_within : (script : Script) (s : State) (t : ℕ) → IsFormed script s → IsTrue (is_func script t) → t < length s.timers
func_within script s t formed h = setting_within script s t formed (func_setting script t h)

pub chan_within : (script : Script) (s : State) (c : ℕ) → IsFormed script s → IsTrue (is_chan script c) → c < length s.channels
chan_within script s c formed h = rw formed.channels (chan_declared script c h)

-- ---- the mutex of a Cond

abbrev mutex_in : What → ℕ
mutex_in what = elim what [ What.Cond mutex ↦ mutex | _ ↦ 0 ]

mutex_in-is : (script : Script) (what : What) → DeclaresRightly script what → names_cond (Some what) ≡ true → IsTrue (is_mutex script (mutex_in what))
mutex_in-is script (What.Cond mutex) h k = h
mutex_in-is script _ h k = cc

pub mutex_of-is : (script : Script) (k : ℕ) → IsGood script → IsTrue (is_cond script k) → IsTrue (is_mutex script (mutex_of script k))
mutex_of-is script k good h =
    elim (slice_get script.decls k)
    as (λ o. slice_get script.decls k ≡ o → names_cond (option_map (λ (d : Decl). d.what) o) ≡ true
    → IsTrue (is_mutex script (elim (option_map (λ (d : Decl). d.what) o) as (λ o. ℕ) [ None ↦ 0 | Some what ↦ mutex_in what ]))) [
      | None ↦ λ e is. cc
      | Some d ↦ λ e is. mutex_in-is script d.what (all_at (λ (d : Decl). DeclaresRightly script d.what) script.decls k d good.declares e) is
    ] refl h

not_both : (w : Option What) → IsTrue (names_mutex w) → IsTrue (names_cond w) → ⊥
not_both (Some What.Mutex) mutex is = cc
not_both _ mutex is = cc

-- it is another object than the Cond
pub mutex_of-other : (script : Script) (k : ℕ) → IsGood script → IsTrue (is_cond script k) → mutex_of script k ≢ k
mutex_of-other script k good h same = not_both (what_at script k) (subst (λ m. IsTrue (is_mutex script m)) same (mutex_of-is script k good h)) h

mutex_in-within : (script : Script) (o : ℕ) (what : What) → DeclaresRightly script what → o < length script.decls → mutex_in what < length script.decls
mutex_in-within script o (What.Cond mutex) h k = mutex_declared script mutex h
mutex_in-within script o _ h k = omega arith

-- and has a place; of what is no Cond the number 0 stands there
pub mutex_of-within : (script : Script) (o : ℕ) → IsGood script → o < length script.decls → mutex_of script o < length script.decls
mutex_of-within script o good h =
    elim (slice_get script.decls o)
    as (λ d. slice_get script.decls o ≡ d → (elim (option_map (λ (d : Decl). d.what) d) as (λ o. ℕ) [ None ↦ 0 | Some what ↦ mutex_in what ]) < length script.decls) [
      | None ↦ λ e. omega arith
      | Some d ↦ λ e. mutex_in-within script o d.what (all_at (λ (d : Decl). DeclaresRightly script d.what) script.decls o d good.declares e) h
    ] refl

-- ---- what is declared is declared rightly: the function of a hook, the form of a context, and what they stand on

pub declared-rightly : (script : Script) (o : ℕ) (what : What) → IsGood script → what_at script o ≡ Some what → DeclaresRightly script what
declared-rightly script o what good h =
    elim (slice_get script.decls o)
    as (λ d. slice_get script.decls o ≡ d → option_map (λ (d : Decl). d.what) d ≡ Some what → DeclaresRightly script what) [
      | None ↦ λ e is. cc
      | Some d ↦ λ e is.
          subst (DeclaresRightly script) (inside d.what what is)
          (all_at (λ (d : Decl). DeclaresRightly script d.what) script.decls o d good.declares e)
    ] refl h
  where
    inside : (a b : What) → Some a ≡ Some b → a ≡ b
    inside a b e = cc

abbrev func_in : What → ℕ
func_in what = elim what [ What.Hook ctx func ↦ func | _ ↦ 0 ]

hook_in-within : (script : Script) (what : What) → DeclaresRightly script what → names_hook (Some what) ≡ true → func_in what < length script.funcs
hook_in-within script (What.Hook ctx func) h k = h.1
hook_in-within script _ h k = cc

pub hook_func-within : (script : Script) (h : ℕ) → IsGood script → IsTrue (is_hook script h) → hook_func script h < length script.funcs
hook_func-within script h good hook =
    elim (what_at script h)
    as (λ o. what_at script h ≡ o → names_hook o ≡ true → (elim o as (λ o. ℕ) [ None ↦ 0 | Some what ↦ func_in what ]) < length script.funcs) [
      | None ↦ λ e k. cc
      | Some what ↦ λ e k. hook_in-within script what (declared-rightly script h what good e) k
    ] refl hook

form_in-rightly : (script : Script) (what : What) (form : Form) → DeclaresRightly script what → named_form (Some what) ≡ Some form → FormsRightly script form
form_in-rightly script (What.Ctx parent own) form h k = let is : own ≡ form = cc in subst (FormsRightly script) is h.1
form_in-rightly script _ form h k = cc

pub form-rightly : (script : Script) (x : ℕ) (form : Form) → IsGood script → form_of script x ≡ Some form → FormsRightly script form
form-rightly script x form good h =
    elim (what_at script x) as (λ o. what_at script x ≡ o → named_form o ≡ Some form → FormsRightly script form) [
      | None ↦ λ e k. cc
      | Some what ↦ λ e k. form_in-rightly script what form (declared-rightly script x what good e) k
    ] refl h

-- a context and a hook have their places
pub ctx_within : (script : Script) (s : State) (x : ℕ) → IsFormed script s → IsTrue (is_ctx script x) → x < length s.contexts
ctx_within script s x formed h = rw formed.contexts (ctx_declared script x h)

pub hook_within : (script : Script) (s : State) (h : ℕ) → IsFormed script s → IsTrue (is_hook script h) → h < length s.hooks
hook_within script s h formed hook = rw formed.hooks (hook_declared script h hook)

takes_cause-ctx : (w : Option What) → IsTrue (takes_cause (named_form w)) → IsTrue (names_ctx w)
takes_cause-ctx (Some (What.Ctx parent form)) h = refl
takes_cause-ctx _ h = cc

-- what is canceled is a context
pub cancels-ctx : (script : Script) (x : ℕ) (named : Option ℕ) → CancelsRightly script x named → IsTrue (is_ctx script x)
cancels-ctx script x None h = endable_ctx script x h
cancels-ctx script x (Some e) h = takes_cause-ctx (what_at script x) h.0

-- ---- who waits at a Cond

pub suspended-cond : (script : Script) (s : State) (g k : ℕ) → IsFormed script s → mode_of s g ≡ Some (Mode.Suspended k) → IsTrue (is_cond script k)
suspended-cond script s g k formed h =
    let a : InMode s g (Mode.Suspended k) = in-mode s g (Mode.Suspended k) h in
    subst (λ (m : Mode). IfSome (suspended_at m) (λ k. IsTrue (is_cond script k))) a.its (formed.conds g a.who a.there).0

pub relocking-cond : (script : Script) (s : State) (g k : ℕ) → IsFormed script s → mode_of s g ≡ Some (Mode.Relocking k) → IsTrue (is_cond script k)
relocking-cond script s g k formed h =
    let a : InMode s g (Mode.Relocking k) = in-mode s g (Mode.Relocking k) h in
    subst (λ (m : Mode). IfSome (relocking_at m) (λ k. IsTrue (is_cond script k))) a.its (formed.conds g a.who a.there).1
