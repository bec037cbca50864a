-- What is declared has a place among the declarations and among the timers.
use Rattle.std.proofs.Common.{◌≡◌, ℕ, ◌<◌, ◌||◌, length, slice_get, refl, Option, None, Some, option_map, Bool, true, false, is_some, IsTrue}
use Rattle.std.proofs.lemmas.Option.{slice_get_within}
use Rattle.gt_model.specs.declared.script.Script.{Script}
use Rattle.gt_model.specs.declared.script.Decl.{Decl}
use Rattle.gt_model.specs.declared.script.What.{What}
use Rattle.gt_model.specs.Script.{what_at, is_timer, is_func, is_chan, is_mutex, is_wg, is_cond, is_ctx, is_endable, is_hook, is_error, can_end, named_form, names_ctx, names_hook, names_error, names_timer, names_func, names_chan, names_mutex, names_wg, names_cond}
use Rattle.gt_model.specs.Good.{is_setting}

pub declared_within : (script : Script) (t : ℕ) (P : Option What → Bool) → P None ≡ false → IsTrue (P (what_at script t)) → t < length script.decls
declared_within script t P h k =
    elim (slice_get script.decls t) as (λ o. slice_get script.decls t ≡ o → IsTrue (P (option_map (λ (d : Decl). d.what) o)) → t < length script.decls) [
      | None ↦ λ e l. cc
      | Some d ↦ λ e l. slice_get_within script.decls t d e
    ] refl k

pub declared_at : (script : Script) (place : ℕ) (what : What) → what_at script place ≡ Some what → place < length script.decls
declared_at script place what e = declared_within script place is_some refl (rw e refl)

-- a timer of either kind is declared
pub setting_declared : (script : Script) (t : ℕ) → IsTrue (is_setting script t) → t < length script.decls
setting_declared script t h = declared_within script t (λ o. names_timer o || names_func o) refl h

-- and so is a channel
pub chan_declared : (script : Script) (c : ℕ) → IsTrue (is_chan script c) → c < length script.decls
chan_declared script c h = declared_within script c names_chan refl h

-- and a mutex, and a WaitGroup
pub mutex_declared : (script : Script) (m : ℕ) → IsTrue (is_mutex script m) → m < length script.decls
mutex_declared script m h = declared_within script m names_mutex refl h

pub wg_declared : (script : Script) (w : ℕ) → IsTrue (is_wg script w) → w < length script.decls
wg_declared script w h = declared_within script w names_wg refl h

pub cond_declared : (script : Script) (k : ℕ) → IsTrue (is_cond script k) → k < length script.decls
cond_declared script k h = declared_within script k names_cond refl h

-- and a context, one that can end, a hook, and an error
pub ctx_declared : (script : Script) (x : ℕ) → IsTrue (is_ctx script x) → x < length script.decls
ctx_declared script x h = declared_within script x names_ctx refl h

pub endable_declared : (script : Script) (x : ℕ) → IsTrue (is_endable script x) → x < length script.decls
endable_declared script x h = declared_within script x (λ o. can_end (named_form o)) refl h

pub hook_declared : (script : Script) (s : ℕ) → IsTrue (is_hook script s) → s < length script.decls
hook_declared script s h = declared_within script s names_hook refl h

pub error_declared : (script : Script) (e : ℕ) → IsTrue (is_error script e) → e < length script.decls
error_declared script e h = declared_within script e names_error refl h

endable-names : (w : Option What) → IsTrue (can_end (named_form w)) → IsTrue (names_ctx w)
endable-names (Some (What.Ctx parent form)) h = refl
endable-names _ h = cc

pub endable_ctx : (script : Script) (x : ℕ) → IsTrue (is_endable script x) → IsTrue (is_ctx script x)
endable_ctx script x h = endable-names (what_at script x) h

pub timer_setting : (script : Script) (t : ℕ) → IsTrue (is_timer script t) → IsTrue (is_setting script t)
timer_setting script t h = rw h refl

pub func_setting : (script : Script) (t : ℕ) → IsTrue (is_func script t) → IsTrue (is_setting script t)
func_setting script t h =
    elim (is_timer script t) as (λ b. (b || is_func script t) ≡ true) [ true ↦ refl | false ↦ h ]
