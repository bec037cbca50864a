-- Only what is declared as a timer is ever set, and a timer is no channel.
use Rattle.std.proofs.Common.{◌≡◌, ℕ, zero, suc, ◌||◌, List, [], ◌∷◌, map, set, refl, sym, ap, subst, ◌∙◌, Option, None, Some, IfSome, Bool, true, false, inl, inr}
use Rattle.std.proofs.lemmas.Bool.{cases_eq}
use Rattle.gt_model.specs.declared.script.Script.{Script}
use Rattle.gt_model.specs.declared.script.Decl.{Decl}
use Rattle.gt_model.specs.declared.script.What.{What}
use Rattle.gt_model.specs.declared.state.Timer.{Timer}
use Rattle.gt_model.specs.declared.entry.Entry.{Entry}
use Rattle.gt_model.specs.declared.entry.Limits.{Limits}
use Rattle.gt_model.specs.Good.{IsGood, is_setting}
use Rattle.gt_model.specs.Script.{is_timer, is_chan, what_at, names_timer, names_chan}
use Rattle.gt_model.specs.Tables.{at}
use Rattle.gt_model.proofs.Items.{at-set_other, at-change_other}
use Rattle.gt_rules.specs.State.{State, timer_at, due_of, world_of}
use Rattle.gt_rules.specs.After.{after, first_state, new_period, number_of, retimed, set_again, set_due, with_retimed}
use Rattle.gt_rules.specs.Change.{change_of}
use Rattle.gt_rules.specs.Finish.{Legal}
use Rattle.gt_rules.specs.History.{AllLegal, state_after}
use Rattle.gt_rules.specs.declared.change.Move.{Move}
use Rattle.gt_rules.specs.declared.change.Setting.{Setting}
use Rattle.gt_facts.proofs.Makers.{Sets, sets}
use Rattle.gt_book.specs.View.{BookView, IsLawful}

-- each timer that was made is declared as one
abbrev AreSettings : Script → List (Option Timer) → Type 0
AreSettings script timers = (t : ℕ) (r : Timer) → at timers t ≡ Some r → is_setting script t ≡ true

-- where one place alone may have changed
settings-but : (script : Script) (timers next : List (Option Timer)) (t : ℕ) → is_setting script t ≡ true → ((j : ℕ) → (j ≡ t → ⊥) → at next j ≡ at timers j)
    → AreSettings script timers → AreSettings script next
settings-but script timers next t named others all j r e =
    elim (cases_eq j t) [
      | inl is ↦ ap (is_setting script) is ∙ named
      | inr n ↦ all j r (sym (others j n) ∙ e)
    ]

settings-retimed : (script : Script) (s : State) (mover : Option (ℕ × Move)) (t : ℕ) (timers : List (Option Timer)) (x : Setting) → is_setting script t ≡ true
    → AreSettings script timers → AreSettings script (retimed script s mover t timers x)
settings-retimed script s mover t timers (Setting.Made due) named all =
    let made : Timer = record { world = world_of s (number_of mover); due = Some due; period = new_period script s (number_of mover) t } in
    settings-but script timers (set timers t (Some made)) t named (λ j n. at-set_other timers t j (Some made) n) all
settings-retimed script s mover t timers (Setting.SetAnew due) named all =
    settings-but script timers _ t named (λ j n. at-change_other timers t j (set_again due (new_period script s (number_of mover) t)) n) all
settings-retimed script s mover t timers (Setting.Ended due) named all =
    settings-but script timers _ t named (λ j n. at-change_other timers t j (set_due due) n) all

settings-with : (script : Script) (s : State) (mover : Option (ℕ × Move)) (timers : List (Option Timer)) (o : Option (ℕ × Setting)) → IfSome o (λ (x : ℕ × Setting). Sets script s x.0 x.1)
    → AreSettings script timers → AreSettings script (with_retimed script s mover timers o)
settings-with script s mover timers None h all = all
settings-with script s mover timers (Some x) h all = settings-retimed script s mover x.0 timers x.1 h.named all

settings-after : (script : Script) (limits : Limits) (s : State) (e : Entry) → IsGood script → Legal script limits s e → AreSettings script s.timers → AreSettings script (after script s e).timers
settings-after script limits s (Entry.Finish outcome) good legal all = all
settings-after script limits s e good legal all = settings-with script s (change_of e).mover s.timers (change_of e).timer (sets script s e good legal.1) all

settings-history : (script : Script) (limits : Limits) (s : State) (h : List Entry) → IsGood script → AllLegal script limits s h → AreSettings script s.timers
    → AreSettings script (state_after script s h).timers
settings-history script limits s [] good legal all = all
settings-history script limits s (e ∷ h) good legal all = settings-history script limits (after script s e) h good legal.1 (settings-after script limits s e good legal.0 all)

-- none is made at first
none-made : (decls : List Decl) (t : ℕ) (timer : Option Timer) → timer ≡ None → (r : Timer) → at (map (λ (d : Decl). timer) decls) t ≡ Some r → ⊥
none-made [] t timer is r e = cc
none-made (d ∷ ds) zero timer is r e = cc
none-made (d ∷ ds) (suc i) timer is r e = none-made ds i timer is r e

settings-first : (script : Script) → AreSettings script (first_state script).timers
settings-first script t r e = absurd (none-made script.decls t None refl r e)

pub made-setting : (v : BookView) (t : ℕ) (r : Timer) → IsLawful v → timer_at v.state t ≡ Some r → is_setting v.script t ≡ true
made-setting v t r lawful e =
    subst (λ (s : State). AreSettings v.script s.timers) lawful.reached
    (settings-history v.script v.limits (first_state v.script) v.history lawful.good lawful.legal (settings-first v.script)) t r e

pub due-setting : (v : BookView) (t w : ℕ) → IsLawful v → due_of v.state t ≡ Some w → is_setting v.script t ≡ true
due-setting v t w lawful e =
    elim (timer_at v.state t) as (λ o. timer_at v.state t ≡ o → (elim o as (λ _. Option ℕ) [ None ↦ None | Some r ↦ r.due ]) ≡ Some w → is_setting v.script t ≡ true) [
      | None ↦ λ q k. cc
      | Some r ↦ λ q k. made-setting v t r lawful q
    ] refl e

-- ---- a timer is no channel

what-plain : (o : Option What) → names_timer o ≡ true → names_chan o ≡ false
what-plain None h = cc
what-plain (Some What.Timer) h = refl
what-plain (Some What.Ticker) h = refl
what-plain (Some (What.AfterFunc f)) h = cc
what-plain (Some (What.Chan cap)) h = cc
what-plain (Some What.Mutex) h = cc
what-plain (Some What.Wg) h = cc
what-plain (Some (What.Cond mutex)) h = cc
what-plain (Some (What.Ctx parent form)) h = cc
what-plain (Some (What.Hook ctx func)) h = cc
what-plain (Some What.Error) h = cc
what-plain (Some What.Function) h = cc

pub timer-plain : (script : Script) (t : ℕ) → is_timer script t ≡ true → is_chan script t ≡ false
timer-plain script t h = what-plain (what_at script t) h

-- what gives values and is no channel is a timer
pub plain-timer : (script : Script) (t : ℕ) → (is_timer script t || is_chan script t) ≡ true → is_chan script t ≡ false → is_timer script t ≡ true
plain-timer script t names plain = left (is_timer script t) (is_chan script t) names plain
  where
    left : (a b : Bool) → (a || b) ≡ true → b ≡ false → a ≡ true
    left true b h k = refl
    left false b h k = cc
