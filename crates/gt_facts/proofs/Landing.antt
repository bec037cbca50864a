-- From a good code a goroutine always lands on an instruction that makes an entry.
use Rattle.std.proofs.Common.{◌≡◌, ℕ, zero, suc, ◌+◌, ◌<◌, ◌≤◌, List, length, refl, sym, ap, subst, ◌∙◌, arith, slice_get, set, Option, None, Some, Bool, true, false, cond, eqb, ltb}
use Rattle.std.proofs.lemmas.Bool.{eqb-true, eqb-false, ne_eqb, ltb-true, ltb-false}
use Rattle.std.proofs.lemmas.Option.{slice_get_within}
use Rattle.gt_model.specs.declared.script.Script.{Script}
use Rattle.gt_model.specs.declared.script.Instr.{Instr}
use Rattle.gt_model.specs.declared.script.Place.{Place}
use Rattle.gt_model.specs.declared.script.Case.{Case}
use Rattle.gt_model.specs.Good.{IsGoodCode, IsGoodLoop, IsGoodEnd, IsGoodTarget, HasGoodTargets, is_finish, meets_instr}
use Rattle.gt_rules.specs.Places.{at_top, at_end, passes_left, silent, silent_at, go_on, settled_in, body_of, next_index}
use Rattle.gt_facts.specs.Formed.{IsOnWay}
use Rattle.gt_model.proofs.GoodCode.{all_at}

-- behind an instruction that is no end stands another
pub follows_in : (script : Script) (code : List Instr) (i : ℕ) (x : Instr) → IsGoodCode script code → slice_get code i ≡ Some x → is_finish x ≡ false → i + 1 < length code
follows_in script code i x good on next =
    let here : i < length code = slice_get_within code i x on in
    let last : is_finish x ≡ eqb (i + 1) (length code) = (good.each i x on).last in
    let not_last : i + 1 ≡ length code → ⊥ = eqb-false (i + 1) (length code) (sym last ∙ next) in
    omega arith

-- ---- the way never leads into a loop that is passed over

-- whether an instruction is the top of a loop that is passed over
abbrev pub passes : Instr → Bool
passes (Instr.LoopTop depth zero past) = true
passes _ = false

passes-same : (code : List Instr) (i depth past : ℕ) (x : Instr) → slice_get code i ≡ Some x → passes x ≡ false → slice_get code i ≡ Some (Instr.LoopTop depth 0 past) → ⊥
passes-same code i depth past x on other top =
    let same : Some x ≡ Some (Instr.LoopTop depth 0 past) = sym on ∙ top in
    let is : passes x ≡ true = ap (λ (o : Option Instr). elim o as (λ o. Bool) [ None ↦ false | Some y ↦ passes y ]) same in
    cc

pub way-forward : (script : Script) (code : List Instr) (i : ℕ) (x : Instr) → IsGoodCode script code → IsOnWay code i → slice_get code i ≡ Some x → is_finish x ≡ false → passes x ≡ false
    → IsOnWay code (i + 1)
way-forward script code i x good way on next other = record {
  within = follows_in script code i x good on next;
  entered = λ j depth past top before inside.
      elim (eqb j i) as (λ b. eqb j i ≡ b → ⊥) [
        | true ↦ λ e. let same : j ≡ i = eqb-true j i e in passes-same code i depth past x on other (subst (λ k. slice_get code k ≡ Some (Instr.LoopTop depth 0 past)) same top)
        | false ↦ λ e. let differ : j ≡ i → ⊥ = eqb-false j i e in way.entered j depth past top (omega arith) (omega arith)
      ] refl;
}

-- a good target is on the way: who goes there comes into no loop but at its top
pub way-to : (script : Script) (code : List Instr) (i to : ℕ) (x : Instr) → IsOnWay code i → slice_get code i ≡ Some x → passes x ≡ false → IsGoodTarget code i to → IsOnWay code to
way-to script code i to x way on other target =
    let further : i < to = target.ahead in
    record {
      within = target.within;
      entered = λ j depth past top before inside.
          elim (eqb j i) as (λ b. eqb j i ≡ b → ⊥) [
            | true ↦ λ e. let same : j ≡ i = eqb-true j i e in passes-same code i depth past x on other (subst (λ k. slice_get code k ≡ Some (Instr.LoopTop depth 0 past)) same top)
            | false ↦ λ e.
                let differ : j ≡ i → ⊥ = eqb-false j i e in
                elim (ltb i j) as (λ b. ltb i j ≡ b → ⊥) [
                  | true ↦ λ l. let over : past ≤ to = target.clear j depth 0 past top (ltb-true i j l) before in omega arith
                  | false ↦ λ l. let not_ahead : j ≤ i = ltb-false i j l in way.entered j depth past top (omega arith) (omega arith)
                ] refl
          ] refl;
    }

-- ---- what a step leads to

silent-is : (code : List Instr) (p : Place) (x : Instr) → slice_get code p.at ≡ Some x → silent_at code p ≡ silent p x
silent-is code p x on = ap (λ (o : Option Instr). elim o as (λ o. Option Place) [ None ↦ None | Some i ↦ silent p i ]) on

pub stops : (f : ℕ) (code : List Instr) (p : Place) → silent_at code p ≡ None → go_on f code p ≡ p
stops zero code p h = refl
stops (suc f) code p h = ap (λ (o : Option Place). elim o as (λ o. Place) [ None ↦ p | Some q ↦ go_on f code q ]) h

pub steps : (f : ℕ) (code : List Instr) (p q : Place) → silent_at code p ≡ Some q → go_on (suc f) code p ≡ go_on f code q
steps f code p q h = ap (λ (o : Option Place). elim o as (λ o. Place) [ None ↦ p | Some q ↦ go_on f code q ]) h

past-same : (a b c d : ℕ) → Some (Instr.LoopTop a 0 b) ≡ Some (Instr.LoopTop c 0 d) → b ≡ d
past-same a b c d e = cc

-- no loop that is passed over goes on behind the end of another in which its top does not stand
past-not : (script : Script) (code : List Instr) (i depth past j d behind : ℕ) → IsGoodCode script code → IsOnWay code i → slice_get code i ≡ Some (Instr.LoopTop depth 0 past)
    → slice_get code j ≡ Some (Instr.LoopTop d 0 behind) → j < past → past < behind → ⊥
past-not script code i depth past j d behind good way on top before inside =
    let here : IsGoodLoop code i depth 0 past = good.loops i depth 0 past on in
    let ahead : i + 1 < past = here.ahead in
    elim (ltb i j) as (λ b. ltb i j ≡ b → ⊥) [
      | true ↦ λ e. let both = here.nested j d 0 behind (ltb-true i j e) before top in let ends : behind < past = both.1 in omega arith
      | false ↦ λ e.
          let not_behind : j ≤ i = ltb-false i j e in
          elim (eqb j i) as (λ b. eqb j i ≡ b → ⊥) [
            | true ↦ λ k.
                let same : j ≡ i = eqb-true j i k in
                let equal : past ≡ behind = past-same depth past d behind (sym on ∙ subst (λ m. slice_get code m ≡ Some (Instr.LoopTop d 0 behind)) same top) in
                omega arith
            | false ↦ λ k. let differ : j ≡ i → ⊥ = eqb-false j i k in way.entered j d behind top (omega arith) (omega arith)
          ] refl
    ] refl

pub way-past : (script : Script) (code : List Instr) (i depth past : ℕ) → IsGoodCode script code → IsOnWay code i → slice_get code i ≡ Some (Instr.LoopTop depth 0 past) → IsOnWay code past
way-past script code i depth past good way on = record {
  within = (good.loops i depth 0 past on).within;
  entered = λ j d behind top before inside. past-not script code i depth past j d behind good way on top before inside;
}

-- the loop that ends on the way is entered
end-passes : (code : List Instr) (i depth top count : ℕ) → IsOnWay code i → top < i → slice_get code top ≡ Some (Instr.LoopTop depth count (i + 1)) → 0 < count
end-passes code i depth top zero way before on = absurd (way.entered top depth (i + 1) on before (omega arith))
end-passes code i depth top (suc count) way before on = omega arith

-- back at the body of a loop
back-not : (script : Script) (code : List Instr) (i depth top count j d behind : ℕ) → IsGoodCode script code → IsOnWay code i → top < i
    → slice_get code top ≡ Some (Instr.LoopTop depth count (i + 1)) → slice_get code j ≡ Some (Instr.LoopTop d 0 behind) → j < top + 1 → top + 1 < behind → ⊥
back-not script code i depth top count j d behind good way before on outer first inside =
    elim (eqb j top) as (λ b. eqb j top ≡ b → ⊥) [
      | true ↦ λ k.
          let same : j ≡ top = eqb-true j top k in
          let some : 0 < count = end-passes code i depth top count way before on in
          let zero_passes : count ≡ 0 = count-same depth count (i + 1) d behind (sym on ∙ subst (λ m. slice_get code m ≡ Some (Instr.LoopTop d 0 behind)) same outer) in
          omega arith
      | false ↦ λ k.
          let differ : j ≡ top → ⊥ = eqb-false j top k in
          let both = (good.loops j d 0 behind outer).nested top depth count (i + 1) (omega arith) (omega arith) on in
          let ends : i + 1 < behind = both.1 in
          way.entered j d behind outer (omega arith) (omega arith)
    ] refl
  where
    count-same : (a c b d e : ℕ) → Some (Instr.LoopTop a c b) ≡ Some (Instr.LoopTop d 0 e) → c ≡ 0
    count-same a c b d e h = cc

pub way-back : (script : Script) (code : List Instr) (i depth top : ℕ) → IsGoodCode script code → IsOnWay code i → slice_get code i ≡ Some (Instr.LoopEnd depth top) → IsOnWay code (top + 1)
way-back script code i depth top good way on =
    let here : IsGoodEnd code i depth top = good.ends i depth top on in
    let before : top < i = here.before in
    let within : i < length code = way.within in
    record {
      within = omega arith;
      entered = λ j d behind outer first inside. back-not script code i depth top here.count j d behind good way before here.begin outer first inside;
    }

-- where an instruction leads that makes no entry
record Leads (code : List Instr) (p q : Place) : Type 0 where
  way : IsOnWay code q.at
  func : q.func ≡ p.func

end-leads : (script : Script) (code : List Instr) (p : Place) (depth top : ℕ) → IsGoodCode script code → IsOnWay code p.at → slice_get code p.at ≡ Some (Instr.LoopEnd depth top)
    → Leads code p (at_end p depth top)
end-leads script code p depth top good way on = record {
  way = elim (eqb (passes_left p depth) 0) as (λ b. IsOnWay code (cond b (p.at + 1) (top + 1))) [
    | true ↦ way-forward script code p.at (Instr.LoopEnd depth top) good way on refl refl
    | false ↦ way-back script code p.at depth top good way on
  ];
  func = refl;
}

-- a loop with passes is entered
abbrev entered : Place → ℕ → ℕ → Place
entered p depth count = record p { at = p.at + 1; loops = set p.loops depth count }

top-enters : (p : Place) (depth count past : ℕ) → at_top p depth (suc count) past ≡ entered p depth (suc count)
top-enters p depth count past =
    let some : eqb (suc count) 0 ≡ false = ne_eqb (suc count) 0 (λ e. absurd (omega arith)) in
    ap (λ (b : Bool). cond b (record p { at = past }) (entered p depth (suc count))) some

leads : (script : Script) (code : List Instr) (p q : Place) (x : Instr) → IsGoodCode script code → IsOnWay code p.at → slice_get code p.at ≡ Some x → silent p x ≡ Some q → Leads code p q
leads script code p q (Instr.LoopTop depth zero past) good way on e =
    let is : at_top p depth 0 past ≡ q = cc in subst (Leads code p) is (record { way = way-past script code p.at depth past good way on; func = refl })
leads script code p q (Instr.LoopTop depth (suc count) past) good way on e =
    let is : at_top p depth (suc count) past ≡ q = cc in
    subst (Leads code p) (sym (top-enters p depth count past) ∙ is)
    (record { way = way-forward script code p.at (Instr.LoopTop depth (suc count) past) good way on refl refl; func = refl })
leads script code p q (Instr.LoopEnd depth top) good way on e =
    let is : at_end p depth top ≡ q = cc in subst (Leads code p) is (end-leads script code p depth top good way on)
leads script code p q (Instr.Jump to) good way on e =
    let is : record p { at = to } ≡ q = cc in
    subst (Leads code p) is (record { way = way-to script code p.at to (Instr.Jump to) way on refl (good.jumps p.at to on); func = refl })
leads script code p q _ good way on e = cc

step-leads : (script : Script) (code : List Instr) (p q : Place) → IsGoodCode script code → IsOnWay code p.at → silent_at code p ≡ Some q → Leads code p q
step-leads script code p q good way e =
    elim (slice_get code p.at) as (λ o. slice_get code p.at ≡ o → Leads code p q) [
      | None ↦ λ on. let none : silent_at code p ≡ None = ap (λ (o : Option Instr). elim o as (λ o. Option Place) [ None ↦ None | Some i ↦ silent p i ]) on in cc
      | Some x ↦ λ on. leads script code p q x good way on (sym (silent-is code p x on) ∙ e)
    ] refl

all-leads : (script : Script) (code : List Instr) (f : ℕ) (p : Place) → IsGoodCode script code → IsOnWay code p.at → Leads code p (go_on f code p)
all-leads script code zero p good way = record { way = way; func = refl }
all-leads script code (suc f) p good way =
    elim (silent_at code p) as (λ o. silent_at code p ≡ o → Leads code p (go_on (suc f) code p)) [
      | None ↦ λ e. subst (Leads code p) (sym (stops (suc f) code p e)) (record { way = way; func = refl })
      | Some q ↦ λ e.
          let one : Leads code p q = step-leads script code p q good way e in
          let rest : Leads code q (go_on f code q) = all-leads script code f q good one.way in
          subst (Leads code p) (sym (steps f code p q e)) (record { way = rest.way; func = rest.func ∙ one.func })
    ] refl

-- ---- two walks are enough

-- what is met, by the instruction there
abbrev meets_by : ℕ → List Instr → ℕ → Option Instr → Bool
meets_by g code i None = false
meets_by g code i (Some (Instr.LoopTop depth count past)) = meets_instr g code (cond (eqb count 0) past (i + 1))
meets_by g code i (Some (Instr.LoopEnd depth top)) = false
meets_by g code i (Some (Instr.Jump to)) = meets_instr g code to
meets_by g code i (Some _) = true

abbrev meets_here : ℕ → List Instr → ℕ → Option Instr → Bool
meets_here g code i o = elim o [
  | None ↦ false
  | Some x ↦ elim x [
    | Instr.LoopTop depth count past ↦ meets_instr g code (cond (eqb count 0) past (i + 1))
    | Instr.LoopEnd depth top ↦ false
    | Instr.Jump to ↦ meets_instr g code to
    | _ ↦ true
  ]
]

meets-same : (g : ℕ) (code : List Instr) (i : ℕ) (o : Option Instr) → meets_here g code i o ≡ meets_by g code i o
meets-same g code i None = refl
meets-same g code i (Some (Instr.LoopTop depth count past)) = refl
meets-same g code i (Some (Instr.LoopEnd depth top)) = refl
meets-same g code i (Some (Instr.Jump to)) = refl
meets-same g code i (Some x) = refl

meets-is : (g : ℕ) (code : List Instr) (i : ℕ) (o : Option Instr) → slice_get code i ≡ o → meets_instr (suc g) code i ≡ meets_by g code i o
meets-is g code i o on = ap (meets_here g code i) on ∙ meets-same g code i o

-- who meets an instruction within so many steps stops there
abbrev Stops : ℕ → List Instr → Type 0
Stops g code = (f : ℕ) (p : Place) → g ≤ f → meets_instr g code p.at ≡ true → silent_at code (go_on f code p) ≡ None

meets-at : (code : List Instr) (f g : ℕ) (p : Place) (x : Instr) → Stops g code → g ≤ f → slice_get code p.at ≡ Some x → meets_by g code p.at (Some x) ≡ true
    → silent_at code (go_on (suc f) code p) ≡ None
meets-at code f g p (Instr.LoopTop depth zero past) more few on h =
    subst (λ (q : Place). silent_at code q ≡ None) (sym (steps f code p (at_top p depth 0 past) (silent-is code p (Instr.LoopTop depth 0 past) on)))
    (more f (at_top p depth 0 past) few h)
meets-at code f g p (Instr.LoopTop depth (suc count) past) more few on h =
    let some : eqb (suc count) 0 ≡ false = ne_eqb (suc count) 0 (λ e. absurd (omega arith)) in
    let next : meets_instr g code (p.at + 1) ≡ true = subst (λ b. meets_instr g code (cond b past (p.at + 1)) ≡ true) some h in
    let is : silent_at code p ≡ Some (entered p depth (suc count)) = silent-is code p (Instr.LoopTop depth (suc count) past) on ∙ ap Some (top-enters p depth count past) in
    subst (λ (q : Place). silent_at code q ≡ None) (sym (steps f code p (entered p depth (suc count)) is)) (more f (entered p depth (suc count)) few next)
meets-at code f g p (Instr.LoopEnd depth top) more few on h = cc
meets-at code f g p (Instr.Jump to) more few on h =
    subst (λ (q : Place). silent_at code q ≡ None) (sym (steps f code p (record p { at = to }) (silent-is code p (Instr.Jump to) on))) (more f (record p { at = to }) few h)
meets-at code f g p x more few on h =
    let none : silent_at code p ≡ None = silent-is code p x on in
    subst (λ (q : Place). silent_at code q ≡ None) (sym (stops (suc f) code p none)) none

meets-stops : (code : List Instr) (g : ℕ) → Stops g code
meets-stops code zero f p few h = cc
meets-stops code (suc g) zero p few h = absurd (omega arith)
meets-stops code (suc g) (suc f) p few h =
    elim (slice_get code p.at) as (λ o. slice_get code p.at ≡ o → silent_at code (go_on (suc f) code p) ≡ None) [
      | None ↦ λ on. let none : meets_instr (suc g) code p.at ≡ false = meets-is g code p.at None on in cc
      | Some x ↦ λ on. meets-at code f g p x (meets-stops code g) (omega arith) on (sym (meets-is g code p.at (Some x) on) ∙ h)
    ] refl

-- who is on the way stops within two walks: so many instructions are in front of it, in all
lands-at : (script : Script) (code : List Instr) (f : ℕ) (p : Place) (x : Instr) → IsGoodCode script code → IsOnWay code p.at → length code ≤ f → slice_get code p.at ≡ Some x
    → ((q : Place) → p.at < q.at → IsOnWay code q.at → silent_at code (go_on f code q) ≡ None)
    → silent_at code (go_on (suc f) code p) ≡ None
lands-at script code f p (Instr.LoopTop depth zero past) good way few on ahead =
    let here : IsGoodLoop code p.at depth 0 past = good.loops p.at depth 0 past on in
    let further : p.at + 1 < past = here.ahead in
    subst (λ (q : Place). silent_at code q ≡ None) (sym (steps f code p (at_top p depth 0 past) (silent-is code p (Instr.LoopTop depth 0 past) on)))
    (ahead (at_top p depth 0 past) (omega arith) (way-past script code p.at depth past good way on))
lands-at script code f p (Instr.LoopTop depth (suc count) past) good way few on ahead =
    let is : silent_at code p ≡ Some (entered p depth (suc count)) = silent-is code p (Instr.LoopTop depth (suc count) past) on ∙ ap Some (top-enters p depth count past) in
    subst (λ (q : Place). silent_at code q ≡ None) (sym (steps f code p (entered p depth (suc count)) is))
    (meets-stops code (length code) f (entered p depth (suc count)) few ((good.loops p.at depth (suc count) past on).moves (omega arith)))
lands-at script code f p (Instr.LoopEnd depth top) good way few on ahead =
    let here : IsGoodEnd code p.at depth top = good.ends p.at depth top on in
    let some : 0 < here.count = end-passes code p.at depth top here.count way here.before here.begin in
    let again : meets_instr (length code) code (top + 1) ≡ true = (good.loops top depth here.count (p.at + 1) here.begin).moves some in
    let to : Bool → Place = λ b. record p { at = cond b (p.at + 1) (top + 1); loops = set p.loops depth (passes_left p depth) } in
    subst (λ (q : Place). silent_at code q ≡ None) (sym (steps f code p (at_end p depth top) (silent-is code p (Instr.LoopEnd depth top) on)))
    (elim (eqb (passes_left p depth) 0) as (λ b. silent_at code (go_on f code (to b)) ≡ None) [
      | true ↦ ahead (to true) (omega arith) (way-forward script code p.at (Instr.LoopEnd depth top) good way on refl refl)
      | false ↦ meets-stops code (length code) f (to false) few again
    ])
lands-at script code f p (Instr.Jump to) good way few on ahead =
    let target : IsGoodTarget code p.at to = good.jumps p.at to on in
    subst (λ (q : Place). silent_at code q ≡ None) (sym (steps f code p (record p { at = to }) (silent-is code p (Instr.Jump to) on)))
    (ahead (record p { at = to }) target.ahead (way-to script code p.at to (Instr.Jump to) way on refl target))
lands-at script code f p x good way few on ahead =
    let none : silent_at code p ≡ None = silent-is code p x on in
    subst (λ (q : Place). silent_at code q ≡ None) (sym (stops (suc f) code p none)) none

lands : (script : Script) (code : List Instr) (m f : ℕ) (p : Place) → IsGoodCode script code → IsOnWay code p.at → length code ≤ p.at + m → m + length code ≤ f
    → silent_at code (go_on f code p) ≡ None
lands script code zero f p good way front few = let within : p.at < length code = way.within in absurd (omega arith)
lands script code (suc m) zero p good way front few = let within : p.at < length code = way.within in absurd (omega arith)
lands script code (suc m) (suc f) p good way front few =
    elim (slice_get code p.at) as (λ o. slice_get code p.at ≡ o → silent_at code (go_on (suc f) code p) ≡ None) [
      | None ↦ λ on.
          let none : silent_at code p ≡ None = ap (λ (o : Option Instr). elim o as (λ o. Option Place) [ None ↦ None | Some i ↦ silent p i ]) on in
          subst (λ (q : Place). silent_at code q ≡ None) (sym (stops (suc f) code p none)) none
      | Some x ↦ λ on.
          lands-at script code f p x good way (omega arith) on (λ q further way'. lands script code m f q good way' (omega arith) (omega arith))
    ] refl

-- where a goroutine of a good code goes on
pub record Landed (code : List Instr) (p : Place) : Type 0 where
  pub way : IsOnWay code (settled_in code p).at
  pub stands : silent_at code (settled_in code p) ≡ None
  pub func : (settled_in code p).func ≡ p.func

pub landed : (script : Script) (code : List Instr) (p : Place) → IsGoodCode script code → IsOnWay code p.at → Landed code p
landed script code p good way =
    let to : Leads code p (settled_in code p) = all-leads script code (length code + length code) p good way in
    record { way = to.way; stands = lands script code (length code) (length code + length code) p good way (omega arith) (omega arith); func = to.func }

-- ---- where an operation leads

-- who chooses a case goes on at its body, or behind the choice where no case has this number
body-way : (script : Script) (code : List Instr) (i k : ℕ) (cases : List Case) (default_to : Option ℕ) → IsGoodCode script code → IsOnWay code i
    → slice_get code i ≡ Some (Instr.Select cases default_to) → IsOnWay code (i + 1) → IsOnWay code (body_of cases k (i + 1))
body-way script code i k cases default_to good way on behind =
    let targets : HasGoodTargets code i cases default_to = good.choices i cases default_to on in
    elim (slice_get cases k) as (λ o. slice_get cases k ≡ o → IsOnWay code (elim o as (λ o. ℕ) [ None ↦ i + 1 | Some c ↦ c.to ])) [
      | None ↦ λ e. behind
      | Some c ↦ λ e. way-to script code i c.to (Instr.Select cases default_to) way on refl (all_at (λ (c : Case). IsGoodTarget code i c.to) cases k c targets.each e)
    ] refl

default-way : (script : Script) (code : List Instr) (i : ℕ) (cases : List Case) (default_to : Option ℕ) → IsGoodCode script code → IsOnWay code i
    → slice_get code i ≡ Some (Instr.Select cases default_to) → IsOnWay code (i + 1) → IsOnWay code (next_index (Instr.Select cases default_to) 0 (i + 1))
default-way script code i cases None good way on behind = behind
default-way script code i cases (Some to) good way on behind =
    way-to script code i to (Instr.Select cases (Some to)) way on refl (good.choices i cases (Some to) on).otherwise

-- after an operation with any case number a goroutine is on the way
pub next-way : (script : Script) (code : List Instr) (i n : ℕ) (x : Instr) → IsGoodCode script code → IsOnWay code i → slice_get code i ≡ Some x → IsOnWay code (i + 1)
    → IsOnWay code (next_index x n (i + 1))
next-way script code i zero (Instr.Select cases default_to) good way on behind = default-way script code i cases default_to good way on behind
next-way script code i (suc k) (Instr.Select cases default_to) good way on behind = body-way script code i k cases default_to good way on behind
next-way script code i n _ good way on behind = behind
