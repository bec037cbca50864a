-- Goroutines by number and by place; what stands where in a formed state.
use Rattle.std.proofs.Common.{◌≡◌, ◌≢◌, ℕ, zero, suc, ◌-◌, ◌+◌, ◌^◌, ◌<◌, List, [], ◌∷◌, ◌++◌, map, length, refl, sym, subst, ◌∙◌, ap, set, slice_get, Option, None, Some, sub-one, IsSomeAnd, IfSome, is_some, true, arith}
use Rattle.std.specs.Prelude.{replicate}
use Rattle.std.proofs.lemmas.Option.{slice_get_within}
use Rattle.std.proofs.Math.ListN.{length-append}
use Rattle.gt_model.specs.declared.script.Script.{Script}
use Rattle.gt_model.specs.declared.script.Decl.{Decl}
use Rattle.gt_model.specs.declared.script.Func.{Func}
use Rattle.gt_model.specs.declared.script.Instr.{Instr}
use Rattle.gt_model.specs.declared.state.Goroutine.{Goroutine}
use Rattle.gt_model.specs.declared.state.Mode.{Mode}
use Rattle.gt_model.specs.declared.state.Timer.{Timer}
use Rattle.gt_model.specs.Tables.{numbered, change_numbered, at}
use Rattle.gt_rules.specs.State.{State, world_of, goroutine_at}
use Rattle.gt_model.specs.Script.{code_of}
use Rattle.gt_model.specs.declared.script.Place.{Place}
use Rattle.gt_model.specs.Good.{IsGood, IsGoodCode, IsGoodEnd}
use Rattle.gt_model.proofs.GoodCode.{all_at}
use Rattle.gt_facts.proofs.Suspended.{signals-other}
use Rattle.gt_facts.proofs.Formed.{placed_inside}
use Rattle.gt_machine.specs.Places.{LeadsRightly, IsWalkable}
use Rattle.gt_rules.specs.Change.{change_of}
use Rattle.gt_rules.specs.Legal.{May}
use Rattle.gt_facts.specs.Formed.{IsFormed, IsPlacedIn}
use Rattle.gt_facts.proofs.Fits.{IsLive, FitsTimer, fits-May}
use Rattle.gt_machine.specs.Machine.{IsInside, retimed_in}
use Rattle.gt_model.specs.declared.entry.Entry.{Entry}
use Rattle.gt_model.proofs.Tables.{change-set, change_numbered-set}
use Rattle.gt_model.proofs.Items.{numbered-change_other}
use Rattle.gt_rules.specs.declared.change.Move.{Move}
use Rattle.gt_rules.specs.declared.change.Setting.{Setting}
use Rattle.gt_rules.specs.After.{moved, with_mover, retimed, number_of, new_period, set_due, set_again}
use Rattle.gt_model.proofs.Changes.{length-change_numbered}

-- the item at the place below a number has that number
pub numbered_below : {X : Type 0} (xs : List X) (g : ℕ) (x : X) (P : X → Type 0) → IsSomeAnd (numbered xs g) P → slice_get xs (g - 1) ≡ Some x → numbered xs g ≡ Some x
numbered_below xs zero x P h e = absurd h
numbered_below xs (suc i) x P h e = rw sub-one at e

-- a write at the place below a number changes the item with that number
pub set_numbered : {X : Type 0} (xs : List X) (g : ℕ) (f : X → X) (x : X) (P : X → Type 0)
    → IsSomeAnd (numbered xs g) P → slice_get xs (g - 1) ≡ Some x → set xs (g - 1) (f x) ≡ change_numbered xs g f
set_numbered xs g f x P h e = sym (change_numbered-set xs g f x (numbered_below xs g x P h e))

-- ---- places in the code of a good script

-- a code of a good script is one that can be walked through
pub code_walkable : (script : Script) (f : ℕ) → IsGood script → IsWalkable (code_of script f)
code_walkable script f good =
    let code_in : Option Func → List Instr = λ o. elim o [ None ↦ [] | Some func ↦ func.code ] in
    elim (slice_get script.funcs f) as (λ o. slice_get script.funcs f ≡ o → IsWalkable (code_in o)) [
      | None ↦ λ e. record { short = omega arith; leads = λ i x on. cc }
      | Some func ↦ λ e. code-walkable script func.code (all_at (λ (f : Func). IsGoodCode script f.code) script.funcs f func good.code e)
    ] refl
  where
    leads-rightly : (script : Script) (code : List Instr) (i : ℕ) (x : Instr) → IsGoodCode script code → slice_get code i ≡ Some x → LeadsRightly x
    leads-rightly script code i (Instr.LoopTop depth count past) good on = (good.loops i depth count past on).shallow
    leads-rightly script code i (Instr.LoopEnd depth top) good on =
        let end : IsGoodEnd code i depth top = good.ends i depth top on in
        let within : i < length code = slice_get_within code i (Instr.LoopEnd depth top) on in
        let short : length code < 2 ^ 32 = good.short in
        let before : top < i = end.before in
        ((good.loops top depth end.count (i + 1) end.begin).shallow, omega arith)
    leads-rightly script code i _ good on = tt

    code-walkable : (script : Script) (code : List Instr) → IsGoodCode script code → IsWalkable code
    code-walkable script code good = record { short = good.short; leads = λ i x on. leads-rightly script code i x good on }

place_short : (script : Script) (p : Place) (m : Mode) → IsGood script → IsPlacedIn (code_of script p.func) p m → p.at < 2 ^ 32 - 1
place_short script p m good h =
    let within : p.at < length (code_of script p.func) = (placed_inside (code_of script p.func) p m h).within in
    let short : length (code_of script p.func) < 2 ^ 32 = (code_walkable script p.func good).short in
    omega arith

inside_there : (script : Script) (s : State) (g : ℕ) → IsGood script → IsFormed script s → IsLive s g → IsInside s.goroutines g
inside_there script s g good formed live =
    elim (goroutine_at s g) as (λ o. goroutine_at s g ≡ o → IsSomeAnd o (λ r. r.place.at < 2 ^ 32 - 1)) [
      | None ↦ λ e. let none : None ≡ Some live.who = sym e ∙ live.there in cc
      | Some r ↦ λ e. place_short script r.place r.mode good (formed.placed g r e)
    ] refl

inside_live : (script : Script) (s : State) (m : Option (ℕ × Move)) → IsGood script → IsFormed script s → IfSome m (λ m. IsLive s m.0) → IfSome m (λ m. IsInside s.goroutines m.0)
inside_live script s None good formed h = tt
inside_live script s (Some m) good formed h = inside_there script s m.0 good formed h

-- who makes an entry is inside
pub inside-May : (script : Script) (s : State) (e : Entry) → IsGood script → IsFormed script s → May script s e → IfSome (change_of e).mover (λ m. IsInside s.goroutines m.0)
inside-May script s e good formed may = inside_live script s (change_of e).mover good formed (fits-May script s e good formed may).mover

-- of two who make an entry the receiver is another one than the sender, so it is still inside once the sender has moved on
apart-May : (script : Script) (s : State) (e : Entry) → May script s e → IfSome (change_of e).partner (λ p. IfSome (change_of e).mover (λ m. p.0 ≢ m.0))
apart-May script s (Entry.Pair from to c v) may = λ same. may.4 (sym same)
apart-May script s (Entry.Signal g k None) may = tt
apart-May script s (Entry.Signal g k (Some h)) may = signals-other script s g h k (Instr.Signal k) may.0.stands may.1
apart-May script s (Entry.Finish outcome) may = tt
apart-May script s _ may = tt

inside_moved : (script : Script) (gs : List Goroutine) (mover : Option (ℕ × Move)) (g : ℕ) → IfSome mover (λ m. g ≢ m.0) → IsInside gs g → IsInside (with_mover script gs mover) g
inside_moved script gs None g other h = h
inside_moved script gs (Some m) g other h =
    subst (λ o. IsSomeAnd o (λ (r : Goroutine). r.place.at < 2 ^ 32 - 1)) (sym (numbered-change_other gs m.0 g (moved script m.1) other)) h

pub partner-May : (script : Script) (s : State) (e : Entry) → IsGood script → IsFormed script s → May script s e
    → IfSome (change_of e).partner (λ p. IsInside (with_mover script s.goroutines (change_of e).mover) p.0)
partner-May script s e good formed may =
    elim (change_of e).partner
    as (λ o. IfSome o (λ p. IfSome (change_of e).mover (λ m. p.0 ≢ m.0)) → IfSome o (λ p. IsInside s.goroutines p.0) → IfSome o (λ p. IsInside (with_mover script s.goroutines (change_of e).mover) p.0)) [
      | None ↦ λ other h. tt
      | Some p ↦ λ other h. inside_moved script s.goroutines (change_of e).mover p.0 other h
    ] (apart-May script s e may) (inside_live script s (change_of e).partner good formed (fits-May script s e good formed may).partner)

some-within : (ts : List (Option Timer)) (t : ℕ) → is_some (at ts t) ≡ true → t < length ts
some-within [] t h = cc
some-within (x ∷ xs) zero h = omega arith
some-within (x ∷ xs) (suc t) h = let k : t < length xs = some-within xs t h in omega arith

-- the timer of an entry has its place
within-fits : (s : State) (t : ℕ) (setting : Setting) → FitsTimer s t setting → t < length s.timers
within-fits s t (Setting.Made due) h = h.0
within-fits s t (Setting.SetAnew due) h = some-within s.timers t h
within-fits s t (Setting.Ended due) h = some-within s.timers t h

pub within-May : (script : Script) (s : State) (e : Entry) → IsGood script → IsFormed script s → May script s e → IfSome (change_of e).timer (λ x. x.0 < length s.timers)
within-May script s e good formed may =
    elim (change_of e).timer as (λ o. IfSome o (λ x. FitsTimer s x.0 x.1) → IfSome o (λ x. x.0 < length s.timers)) [
      | None ↦ λ h. tt
      | Some x ↦ λ h. within-fits s x.0 x.1 h
    ] (fits-May script s e good formed may).timer

-- ---- the first timers

pub all_unmade : (ds : List Decl) → replicate {A = Option Timer} (length ds) None ≡ map (λ (d : Decl). None) ds
all_unmade [] = refl
all_unmade (d ∷ ds) = ap (λ ts. None ∷ ts) (all_unmade ds)

-- ---- how many goroutines there are, and how many more fit

pub room_changed : (gs hs : List Goroutine) (g x y : ℕ) (f : Goroutine → Goroutine) → hs ≡ change_numbered gs g f → y ≡ x → length hs + y ≡ length gs + x
room_changed gs hs g x y f e k =
    let same : length hs ≡ length gs = ap length e ∙ length-change_numbered gs g f in
    omega arith

pub room_begun : (gs hs : List Goroutine) (r : Goroutine) (x y : ℕ) → hs ≡ gs ++ r ∷ [] → y + 1 ≡ x → length hs + y ≡ length gs + x
room_begun gs hs r x y e k =
    let more : length hs ≡ length gs + 1 = ap length e ∙ length-append gs (r ∷ []) in
    omega arith

-- ---- the timers

-- a change of a timer is a write at its place
pub retimed-set : (script : Script) (s : State) (mover : Option (ℕ × Move)) (ts : List (Option Timer)) (t : ℕ) (setting : Setting) (was : Option Timer)
    → slice_get ts t ≡ Some was
    → set ts t (retimed_in (world_of s (number_of mover)) (new_period script s (number_of mover) t) setting was) ≡ retimed script s mover t ts setting
retimed-set script s mover ts t (Setting.Made due) was e = refl
retimed-set script s mover ts t (Setting.SetAnew due) was e = sym (change-set ts t (set_again due (new_period script s (number_of mover) t)) was e)
retimed-set script s mover ts t (Setting.Ended due) was e = sym (change-set ts t (set_due due) was e)
