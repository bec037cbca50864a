-- What holds of the blocks that are open at an index of the code.
use Rattle.std.proofs.Common.{◌≡◌, ◌⊎◌, inl, inr, ℕ, zero, suc, ◌+◌, ◌<◌, ◌≤◌, Bool, true, false, ltb as nat_lt, List, [], ◌∷◌, length, slice_get, Option, Some, None, refl, sym, ap, subst, ◌∙◌, arith}
use Rattle.std.specs.Prelude.{◌==◌, if◌then◌else◌}
use Rattle.std.proofs.lemmas.Option.{slice_get_within}
use Rattle.std.proofs.lemmas.Bool.{eq-eqb, ne_eqb, ltb-true, ltb-false, cases_lt}
use Rattle.gt_model.specs.declared.script.Instr.{Instr}
use Rattle.gt_model.specs.declared.script.Case.{Case}
use Rattle.gt_model.specs.Good.{meets_instr}
use Rattle.gt_names.specs.Names.{Names}
use Rattle.gt_grammar.specs.declared.progress.OpenBlock.{OpenBlock}
use Rattle.gt_grammar.specs.declared.progress.Held.{Held}
use Rattle.gt_grammar.specs.Faults.{holding, may_end, held_with, ended_in, loop_count}
use Rattle.gt_grammar.specs.Deeds.{Block as Open, in_loop, in_select, in_body, loops_among}
use Rattle.gt_grammar.proofs.Rightly.{Refers}

-- what the code has from an index on
abbrev pub At : List Instr → ℕ → List Instr → Type 0
At code i rest = (j o : ℕ) → j ≡ i + o → slice_get code j ≡ slice_get rest o

pub at-first : (code : List Instr) (i : ℕ) (x : Instr) (rest : List Instr) → At code i (x ∷ rest) → slice_get code i ≡ Some x
at-first code i x rest at = at i 0 (omega arith)

pub at-next : (code : List Instr) (i : ℕ) (x : Instr) (rest : List Instr) → At code i (x ∷ rest) → At code (i + 1) rest
at-next code i x rest at = λ j o e. at j (suc o) (omega (arith, e))

-- whether a goroutine that goes on from an index meets an instruction, by what stands there
abbrev meets_with : ℕ → List Instr → ℕ → Option Instr → Bool
meets_with more code i o = elim o [
  | None ↦ false
  | Some x ↦ elim x [
    | Instr.LoopTop depth count past ↦ meets_instr more code (if count == 0 then past else i + 1)
    | Instr.LoopEnd depth top ↦ false
    | Instr.Jump to ↦ meets_instr more code to
    | _ ↦ true
  ]
]

meets_with-more : (n m : ℕ) (code : List Instr) (i : ℕ) (o : Option Instr) → ((j : ℕ) → meets_instr n code j ≡ true → meets_instr m code j ≡ true)
    → meets_with n code i o ≡ true → meets_with m code i o ≡ true
meets_with-more n m code i None ih h = cc
meets_with-more n m code i (Some (Instr.LoopTop depth count past)) ih h = ih (if count == 0 then past else i + 1) h
meets_with-more n m code i (Some (Instr.LoopEnd depth top)) ih h = cc
meets_with-more n m code i (Some (Instr.Jump to)) ih h = ih to h
meets_with-more n m code i (Some _) ih h = refl

meets_instr-more : (n m : ℕ) (code : List Instr) (i : ℕ) → n ≤ m → meets_instr n code i ≡ true → meets_instr m code i ≡ true
meets_instr-more zero m code i less h = cc
meets_instr-more (suc n) zero code i less h = absurd (omega arith)
meets_instr-more (suc n) (suc m) code i less h =
    let fewer : n ≤ m = omega arith in
    meets_with-more n m code i (slice_get code i) (λ j. meets_instr-more n m code j fewer) h

pub record Meets (code : List Instr) (i : ℕ) : Type 0 where
  steps : ℕ
  within : steps + i ≤ length code
  meets : meets_instr steps code i ≡ true

pub meets-all : (code : List Instr) (i : ℕ) → Meets code i → meets_instr (length code) code i ≡ true
meets-all code i m =
    let few : m.steps ≤ length code = omega (arith, m.within) in
    meets_instr-more m.steps (length code) code i few m.meets

is_line-meets : (names : Names) (code : List Instr) (i : ℕ) (x : Instr) → slice_get code i ≡ Some x → Refers names x → meets_instr 1 code i ≡ true
is_line-meets names code i (Instr.LoopTop depth count past) e r = absurd r
is_line-meets names code i (Instr.LoopEnd depth top) e r = absurd r
is_line-meets names code i Instr.Finish e r = absurd r
is_line-meets names code i (Instr.Jump to) e r = absurd r
is_line-meets names code i _ e r = ap (meets_with 0 code i) e

pub line-meets : (names : Names) (code : List Instr) (i : ℕ) (x : Instr) → slice_get code i ≡ Some x → Refers names x → Meets code i
line-meets names code i x e r = record {
  steps = 1;
  within = omega (arith, slice_get_within code i x e);
  meets = is_line-meets names code i x e r;
}

pub choice-meets : (code : List Instr) (i : ℕ) (cases : List Case) (default_to : Option ℕ) → slice_get code i ≡ Some (Instr.Select cases default_to) → Meets code i
choice-meets code i cases default_to e = record {
  steps = 1;
  within = omega (arith, slice_get_within code i (Instr.Select cases default_to) e);
  meets = ap (meets_with 0 code i) e;
}

-- it passes over a loop with no passes
passed-meets : (code : List Instr) (i depth count past : ℕ) → slice_get code i ≡ Some (Instr.LoopTop depth count past) → nat_lt 0 count ≡ false → i < past → Meets code past → Meets code i
passed-meets code i depth count past e none ahead m =
    let is : count ≡ 0 = omega (arith, ltb-false 0 count none) in
    record {
      steps = suc m.steps;
      within = omega (arith, m.within);
      meets = ap (meets_with m.steps code i) e ∙ ap (λ b. meets_instr m.steps code (if b then past else i + 1)) (eq-eqb count 0 is) ∙ m.meets;
    }

-- and enters the others
entered-meets : (code : List Instr) (i depth count past : ℕ) → slice_get code i ≡ Some (Instr.LoopTop depth count past) → nat_lt 0 count ≡ true → Meets code (i + 1) → Meets code i
entered-meets code i depth count past e some m =
    let most : 0 < count = ltb-true 0 count some in
    record {
      steps = suc m.steps;
      within = omega (arith, m.within);
      meets = ap (meets_with m.steps code i) e ∙ ap (λ b. meets_instr m.steps code (if b then past else i + 1)) (ne_eqb count 0 (λ is. absurd (omega (arith, is, most)))) ∙ m.meets;
    }

-- how far a goroutine gets in a loop that is open: it meets an instruction, or comes to this index
abbrev pub Walk : List Instr → Held → ℕ → ℕ → Type 0
Walk code Held.Nothing i here = Meets code here → Meets code i
Walk code Held.Skipped i here = Meets code here → Meets code i
Walk code Held.Entered i here = Meets code i

walk-on : (code : List Instr) (held : Held) (i here : ℕ) → Walk code held i here → Meets code here → Meets code i
walk-on code Held.Nothing i here w m = w m
walk-on code Held.Skipped i here w m = w m
walk-on code Held.Entered i here w m = w

-- Each open loop: an outer one gets to the top of the next. A loop round a select meets the choice, and so needs no index
abbrev pub Walks : List Instr → ℕ → List Open → List OpenBlock → Type 0
Walks code here (in_loop top ∷ opens) (OpenBlock.Loop repeats held ∷ outer) = Walk code held (top + 1) here × Walks code top opens outer
Walks code here (in_body ∷ opens) (OpenBlock.Choice cases timers has_default ∷ outer) = (at : ℕ) → Walks code at opens outer
Walks code here _ _ = Unit {0}

-- the top of an open loop is in the code
pub record Opened (code : List Instr) (depth top past : ℕ) (repeats : Bool) : Type 0 where
  pub count : ℕ
  pub there : slice_get code top ≡ Some (Instr.LoopTop depth count past)
  pub passes : repeats ≡ nat_lt 0 count

-- the open blocks of the code are those that the reader counts, and the tops of loops are in the code
abbrev pub AllOpened : List Instr → ℕ → (ℕ → ℕ) → List Open → List OpenBlock → Type 0
AllOpened code i past [] [] = Unit {0}
AllOpened code i past (in_loop top ∷ opens) (OpenBlock.Loop repeats held ∷ outer) =
    (top < i) × Opened code (loops_among opens) top (past 0) repeats × AllOpened code i (λ m. past (suc m)) opens outer
AllOpened code i past (in_body ∷ opens) (OpenBlock.Choice cases timers has_default ∷ outer) = AllOpened code i (λ m. past (suc m)) opens outer
AllOpened code i past _ _ = ⊥

pub opened-depth : (code : List Instr) (i : ℕ) (past : ℕ → ℕ) (opens : List Open) (blocks : List OpenBlock) → AllOpened code i past opens blocks → loops_among opens ≡ loop_count blocks
opened-depth code i past [] [] h = refl
opened-depth code i past (in_loop top ∷ opens) (OpenBlock.Loop repeats held ∷ outer) h =
    let e : loops_among opens ≡ loop_count outer = opened-depth code i (λ m. past (suc m)) opens outer h.2 in omega arith
opened-depth code i past (in_body ∷ opens) (OpenBlock.Choice cases timers has_default ∷ outer) h = opened-depth code i (λ m. past (suc m)) opens outer h
opened-depth code i past [] (inner ∷ outer) h = absurd h
opened-depth code i past (in_loop top ∷ opens) [] h = absurd h
opened-depth code i past (in_loop top ∷ opens) (OpenBlock.Choice cases timers has_default ∷ outer) h = absurd h
opened-depth code i past (in_select ∷ opens) blocks h = absurd h
opened-depth code i past (in_body ∷ opens) [] h = absurd h
opened-depth code i past (in_body ∷ opens) (OpenBlock.Loop repeats held ∷ outer) h = absurd h

pub opened-next : (code : List Instr) (i : ℕ) (past next : ℕ → ℕ) (opens : List Open) (blocks : List OpenBlock) → ((m : ℕ) → past m ≡ next m)
    → AllOpened code i past opens blocks → AllOpened code (i + 1) next opens blocks
opened-next code i past next [] [] same h = tt
opened-next code i past next (in_loop top ∷ opens) (OpenBlock.Loop repeats held ∷ outer) same h = (
  omega (arith, h.0),
  subst (λ p. Opened code (loops_among opens) top p repeats) (same 0) h.1,
  opened-next code i (λ m. past (suc m)) (λ m. next (suc m)) opens outer (λ m. same (suc m)) h.2,
)
opened-next code i past next (in_body ∷ opens) (OpenBlock.Choice cases timers has_default ∷ outer) same h =
    opened-next code i (λ m. past (suc m)) (λ m. next (suc m)) opens outer (λ m. same (suc m)) h
opened-next code i past next [] (inner ∷ outer) same h = absurd h
opened-next code i past next (in_loop top ∷ opens) [] same h = absurd h
opened-next code i past next (in_loop top ∷ opens) (OpenBlock.Choice cases timers has_default ∷ outer) same h = absurd h
opened-next code i past next (in_select ∷ opens) blocks same h = absurd h
opened-next code i past next (in_body ∷ opens) [] same h = absurd h
opened-next code i past next (in_body ∷ opens) (OpenBlock.Loop repeats held ∷ outer) same h = absurd h

-- what a loop holds changes nothing of its top
pub opened-holding : (code : List Instr) (i : ℕ) (past : ℕ → ℕ) (opens : List Open) (blocks : List OpenBlock) (held : Held) → AllOpened code i past opens blocks → AllOpened code i past opens (holding held blocks)
opened-holding code i past opens [] held h = h
opened-holding code i past (in_loop top ∷ opens) (OpenBlock.Loop repeats before ∷ outer) held h = h
opened-holding code i past [] (OpenBlock.Loop repeats before ∷ outer) held h = absurd h
opened-holding code i past (in_select ∷ opens) (OpenBlock.Loop repeats before ∷ outer) held h = absurd h
opened-holding code i past (in_body ∷ opens) (OpenBlock.Loop repeats before ∷ outer) held h = absurd h
opened-holding code i past opens (OpenBlock.Choice cases timers has_default ∷ outer) held h = h

pub opened-ended : (code : List Instr) (i : ℕ) (past : ℕ → ℕ) (opens : List Open) (blocks : List OpenBlock) (repeats : Bool) → AllOpened code i past opens blocks → AllOpened code i past opens (ended_in repeats blocks)
opened-ended code i past opens [] repeats h = h
opened-ended code i past (in_loop top ∷ opens) (OpenBlock.Loop again before ∷ outer) repeats h = h
opened-ended code i past [] (OpenBlock.Loop again before ∷ outer) repeats h = absurd h
opened-ended code i past (in_select ∷ opens) (OpenBlock.Loop again before ∷ outer) repeats h = absurd h
opened-ended code i past (in_body ∷ opens) (OpenBlock.Loop again before ∷ outer) repeats h = absurd h
opened-ended code i past opens (OpenBlock.Choice cases timers has_default ∷ outer) repeats h = h

-- who meets an instruction at an index goes no further in the innermost loop
pub walks-holding : (code : List Instr) (i at : ℕ) (opens : List Open) (blocks : List OpenBlock) → Meets code i → Walks code i opens blocks → Walks code at opens (holding Held.Entered blocks)
walks-holding code i at [] [] m w = tt
walks-holding code i at (in_loop top ∷ opens) [] m w = tt
walks-holding code i at (in_select ∷ opens) [] m w = tt
walks-holding code i at (in_body ∷ opens) [] m w = tt
walks-holding code i at [] (OpenBlock.Loop repeats held ∷ outer) m w = tt
walks-holding code i at (in_loop top ∷ opens) (OpenBlock.Loop repeats held ∷ outer) m w = (walk-on code held (top + 1) i w.0 m, w.1)
walks-holding code i at (in_select ∷ opens) (OpenBlock.Loop repeats held ∷ outer) m w = tt
walks-holding code i at (in_body ∷ opens) (OpenBlock.Loop repeats held ∷ outer) m w = tt
walks-holding code i at [] (OpenBlock.Choice cases timers has_default ∷ outer) m w = tt
walks-holding code i at (in_loop top ∷ opens) (OpenBlock.Choice cases timers has_default ∷ outer) m w = tt
walks-holding code i at (in_select ∷ opens) (OpenBlock.Choice cases timers has_default ∷ outer) m w = tt
walks-holding code i at (in_body ∷ opens) (OpenBlock.Choice cases timers has_default ∷ outer) m w = w

-- what a goroutine meets in a loop behind one in it that ended
walk-ended : (code : List Instr) (repeats : Bool) (inside held : Held) (i depth top count last here : ℕ) → slice_get code top ≡ Some (Instr.LoopTop depth count here) → repeats ≡ nat_lt 0 count → top < here
    → may_end repeats inside ≡ true → Walk code inside (top + 1) last → Walk code held i top → Walk code (held_with repeats held) i here
walk-ended code true Held.Nothing held i depth top count last here there passes before may inner outer = cc
walk-ended code true Held.Skipped held i depth top count last here there passes before may inner outer = cc
walk-ended code true Held.Entered held i depth top count last here there passes before may inner outer =
    walk-on code held i top outer (entered-meets code top depth count here there (sym passes) inner)
walk-ended code false inside Held.Nothing i depth top count last here there passes before may inner outer = λ m. outer (passed-meets code top depth count here there (sym passes) before m)
walk-ended code false inside Held.Skipped i depth top count last here there passes before may inner outer = λ m. outer (passed-meets code top depth count here there (sym passes) before m)
walk-ended code false inside Held.Entered i depth top count last here there passes before may inner outer = outer

pub walks-ended : (code : List Instr) (repeats : Bool) (inside : Held) (depth top count last here : ℕ) (opens : List Open) (blocks : List OpenBlock) → slice_get code top ≡ Some (Instr.LoopTop depth count here) → repeats ≡ nat_lt 0 count → top < here
    → may_end repeats inside ≡ true → Walk code inside (top + 1) last → Walks code top opens blocks → Walks code here opens (ended_in repeats blocks)
walks-ended code repeats inside depth top count last here [] [] there passes before may inner w = tt
walks-ended code repeats inside depth top count last here (in_loop next ∷ opens) [] there passes before may inner w = tt
walks-ended code repeats inside depth top count last here (in_select ∷ opens) [] there passes before may inner w = tt
walks-ended code repeats inside depth top count last here (in_body ∷ opens) [] there passes before may inner w = tt
walks-ended code repeats inside depth top count last here [] (OpenBlock.Loop again held ∷ outer) there passes before may inner w = tt
walks-ended code repeats inside depth top count last here (in_loop next ∷ opens) (OpenBlock.Loop again held ∷ outer) there passes before may inner w =
    (walk-ended code repeats inside held (next + 1) depth top count last here there passes before may inner w.0, w.1)
walks-ended code repeats inside depth top count last here (in_select ∷ opens) (OpenBlock.Loop again held ∷ outer) there passes before may inner w = tt
walks-ended code repeats inside depth top count last here (in_body ∷ opens) (OpenBlock.Loop again held ∷ outer) there passes before may inner w = tt
walks-ended code repeats inside depth top count last here [] (OpenBlock.Choice cases timers has_default ∷ outer) there passes before may inner w = tt
walks-ended code repeats inside depth top count last here (in_loop next ∷ opens) (OpenBlock.Choice cases timers has_default ∷ outer) there passes before may inner w = tt
walks-ended code repeats inside depth top count last here (in_select ∷ opens) (OpenBlock.Choice cases timers has_default ∷ outer) there passes before may inner w = tt
walks-ended code repeats inside depth top count last here (in_body ∷ opens) (OpenBlock.Choice cases timers has_default ∷ outer) there passes before may inner w = w

-- each pass of a loop that is open meets an instruction
abbrev pub Moving : List Instr → List Open → List OpenBlock → Type 0
Moving code (in_loop top ∷ opens) (OpenBlock.Loop repeats held ∷ outer) = (repeats ≡ true → Meets code (top + 1)) × Moving code opens outer
Moving code (in_body ∷ opens) (OpenBlock.Choice cases timers has_default ∷ outer) = Moving code opens outer
Moving code _ _ = Unit {0}

pub moving-holding : (code : List Instr) (opens : List Open) (blocks : List OpenBlock) (held : Held) → Moving code opens (holding held blocks) → Moving code opens blocks
moving-holding code opens [] held h = h
moving-holding code [] (OpenBlock.Loop repeats before ∷ outer) held h = tt
moving-holding code (in_loop top ∷ opens) (OpenBlock.Loop repeats before ∷ outer) held h = h
moving-holding code (in_select ∷ opens) (OpenBlock.Loop repeats before ∷ outer) held h = tt
moving-holding code (in_body ∷ opens) (OpenBlock.Loop repeats before ∷ outer) held h = tt
moving-holding code opens (OpenBlock.Choice cases timers has_default ∷ outer) held h = h

pub moving-ended : (code : List Instr) (opens : List Open) (blocks : List OpenBlock) (repeats : Bool) → Moving code opens (ended_in repeats blocks) → Moving code opens blocks
moving-ended code opens [] repeats h = h
moving-ended code [] (OpenBlock.Loop again before ∷ outer) repeats h = tt
moving-ended code (in_loop top ∷ opens) (OpenBlock.Loop again before ∷ outer) repeats h = h
moving-ended code (in_select ∷ opens) (OpenBlock.Loop again before ∷ outer) repeats h = tt
moving-ended code (in_body ∷ opens) (OpenBlock.Loop again before ∷ outer) repeats h = tt
moving-ended code opens (OpenBlock.Choice cases timers has_default ∷ outer) repeats h = h

pub ended-meets : (code : List Instr) (repeats : Bool) (held : Held) (i here : ℕ) → may_end repeats held ≡ true → Walk code held i here → repeats ≡ true → Meets code i
ended-meets code true Held.Nothing i here may w is = cc
ended-meets code true Held.Skipped i here may w is = cc
ended-meets code true Held.Entered i here may w is = w
ended-meets code false held i here may w is = cc

-- what stands at an index may lead to another one
abbrev pub leads : Instr → ℕ → Type 0
leads (Instr.Jump other) to = to ≡ other
leads (Instr.Select cases default_to) to = ((k : ℕ) × (c : Case) × (slice_get cases k ≡ Some c) × (to ≡ c.to)) ⊎ (default_to ≡ Some to)
leads _ to = ⊥

pub record Leads (code : List Instr) (i to : ℕ) : Type 0 where
  pub instr : Instr
  pub there : slice_get code i ≡ Some instr
  pub leads_to : leads instr to

-- what stands from an index on to the end of an open block, which ends above a least place: loops in it stand at least so deep and end in it
pub record Part (code : List Instr) (i depth least past : ℕ) : Type 0 where
  pub above : least < past
  pub within : past < length code
  pub nested : (j inner passes behind : ℕ) → i ≤ j → j < past → slice_get code j ≡ Some (Instr.LoopTop inner passes behind) → (depth ≤ inner) × (behind < past)

-- who is in a loop is led to no place behind it
abbrev pub Stays : List Instr → ℕ → ℕ → Type 0
Stays code i past = (j to : ℕ) → i ≤ j → j < past → Leads code j to → to < past

-- a loop ends by its end
abbrev pub EndsBy : List Instr → ℕ → ℕ → ℕ → Type 0
EndsBy code depth top past = (e : ℕ) → e + 1 ≡ past → slice_get code e ≡ Some (Instr.LoopEnd depth top)

abbrev pub Parts : List Instr → ℕ → ℕ → (ℕ → ℕ) → List Open → Type 0
Parts code i least past [] = Unit {0}
Parts code i least past (in_loop top ∷ opens) =
    Part code i (suc (loops_among opens)) least (past 0) × EndsBy code (loops_among opens) top (past 0) × Stays code i (past 0) × Parts code i (past 0) (λ m. past (suc m)) opens
Parts code i least past (in_select ∷ opens) = Part code i (loops_among opens) least (past 0) × Parts code i (past 0) (λ m. past (suc m)) opens
Parts code i least past (in_body ∷ opens) = Part code i (loops_among opens) least (past 0) × Parts code i (past 0) (λ m. past (suc m)) opens

-- a loop whose top has this index stands at least so deep, and ends by that place
abbrev pub TopAt : List Instr → ℕ → ℕ → ℕ → Type 0
TopAt code i depth most = (inner passes behind : ℕ) → slice_get code i ≡ Some (Instr.LoopTop inner passes behind) → (depth ≤ inner) × (behind ≤ most)

-- what has this index leads at most to that place
abbrev pub LeadsAt : List Instr → ℕ → ℕ → Type 0
LeadsAt code i most = (to : ℕ) → Leads code i to → to ≤ most

pub from-here : (i j : ℕ) → i ≤ j → (i ≡ j) ⊎ (i + 1 ≤ j)
from-here i j from = elim (cases_lt i j) [ inl k ↦ inr (omega arith) | inr k ↦ inl (omega arith) ]

pub part-before : (code : List Instr) (i depth least lower past : ℕ) → lower ≤ least → TopAt code i depth least → Part code (i + 1) depth least past → Part code i depth lower past
part-before code i depth least lower past less here b = record {
  above = omega (arith, b.above);
  within = b.within;
  nested = λ j inner passes behind from upto there. elim (from-here i j from) [
    | inl e ↦
        let w : (depth ≤ inner) × (behind ≤ least) = here inner passes behind (ap (slice_get code) e ∙ there) in
        (w.0, omega (arith, w.1, b.above))
    | inr k ↦ b.nested j inner passes behind k upto there
  ];
}

stays-before : (code : List Instr) (i least past : ℕ) → least < past → LeadsAt code i least → Stays code (i + 1) past → Stays code i past
stays-before code i least past above here s = λ j to from upto l. elim (from-here i j from) [
  | inl e ↦
      let at : Leads code i to = subst (λ x. Leads code x to) (sym e) l in
      omega (arith, here to at)
  | inr k ↦ s j to k upto l
]

leads-less : (code : List Instr) (i most more : ℕ) → most ≤ more → LeadsAt code i most → LeadsAt code i more
leads-less code i most more less h = λ to l. omega (arith, h to l)

top-less : (code : List Instr) (i depth less_deep most more : ℕ) → less_deep ≤ depth → most ≤ more → TopAt code i depth most → TopAt code i less_deep more
top-less code i depth less_deep most more shallow less h = λ inner passes behind there. let w = h inner passes behind there in (omega (arith, w.0), omega (arith, w.1))

pub parts-before : (code : List Instr) (i least lower : ℕ) (past before : ℕ → ℕ) (opens : List Open) → ((m : ℕ) → past m ≡ before m) → lower ≤ least → TopAt code i (loops_among opens) least → LeadsAt code i least
    → Parts code (i + 1) least past opens → Parts code i lower before opens
parts-before code i least lower past before [] same less here to b = tt
parts-before code i least lower past before (in_loop top ∷ opens) same less here to b =
    let above : least ≤ past 0 = omega (arith, b.0.above) in
    let first : Part code i (suc (loops_among opens)) lower (past 0) = part-before code i (suc (loops_among opens)) least lower (past 0) less (top-less code i (loops_among opens + 1) (suc (loops_among opens)) least least (omega arith) (omega arith) here) b.0 in
    let later : Parts code i (past 0) (λ m. before (suc m)) opens =
    parts-before code i (past 0) (past 0) (λ m. past (suc m)) (λ m. before (suc m)) opens (λ m. same (suc m)) (omega arith) (top-less code i (loops_among opens + 1) (loops_among opens) least (past 0) (omega arith) above here) (leads-less code i least (past 0) above to) b.3 in (
      subst (Part code i (suc (loops_among opens)) lower) (same 0) first,
      subst (EndsBy code (loops_among opens) top) (same 0) b.1,
      subst (Stays code i) (same 0) (stays-before code i least (past 0) b.0.above to b.2),
      subst (λ p. Parts code i p (λ m. before (suc m)) opens) (same 0) later,
    )
parts-before code i least lower past before (in_select ∷ opens) same less here to b =
    let above : least ≤ past 0 = omega (arith, b.0.above) in
    let first : Part code i (loops_among opens) lower (past 0) = part-before code i (loops_among opens) least lower (past 0) less here b.0 in
    let later : Parts code i (past 0) (λ m. before (suc m)) opens =
    parts-before code i (past 0) (past 0) (λ m. past (suc m)) (λ m. before (suc m)) opens (λ m. same (suc m)) (omega arith) (top-less code i (loops_among opens) (loops_among opens) least (past 0) (omega arith) above here) (leads-less code i least (past 0) above to) b.1 in
    (subst (Part code i (loops_among opens) lower) (same 0) first, subst (λ p. Parts code i p (λ m. before (suc m)) opens) (same 0) later)
parts-before code i least lower past before (in_body ∷ opens) same less here to b =
    let above : least ≤ past 0 = omega (arith, b.0.above) in
    let first : Part code i (loops_among opens) lower (past 0) = part-before code i (loops_among opens) least lower (past 0) less here b.0 in
    let later : Parts code i (past 0) (λ m. before (suc m)) opens =
    parts-before code i (past 0) (past 0) (λ m. past (suc m)) (λ m. before (suc m)) opens (λ m. same (suc m)) (omega arith) (top-less code i (loops_among opens) (loops_among opens) least (past 0) (omega arith) above here) (leads-less code i least (past 0) above to) b.1 in
    (subst (Part code i (loops_among opens) lower) (same 0) first, subst (λ p. Parts code i p (λ m. before (suc m)) opens) (same 0) later)

-- where the code stands in blocks agrees with the blocks that the reader counts
abbrev pub Alike : List Open → List OpenBlock → Type 0
Alike [] [] = Unit {0}
Alike (in_loop top ∷ opens) (OpenBlock.Loop repeats held ∷ outer) = Alike opens outer
Alike (in_body ∷ opens) (OpenBlock.Choice cases timers has_default ∷ outer) = Alike opens outer
Alike _ _ = ⊥

pub alike-holding : (held : Held) (opens : List Open) (blocks : List OpenBlock) → Alike opens blocks → Alike opens (holding held blocks)
alike-holding held opens [] h = h
alike-holding held (in_loop top ∷ opens) (OpenBlock.Loop repeats before ∷ outer) h = h
alike-holding held [] (OpenBlock.Loop repeats before ∷ outer) h = absurd h
alike-holding held (in_select ∷ opens) (OpenBlock.Loop repeats before ∷ outer) h = absurd h
alike-holding held (in_body ∷ opens) (OpenBlock.Loop repeats before ∷ outer) h = absurd h
alike-holding held opens (OpenBlock.Choice cases timers has_default ∷ outer) h = h

pub alike-ended : (repeats : Bool) (opens : List Open) (blocks : List OpenBlock) → Alike opens blocks → Alike opens (ended_in repeats blocks)
alike-ended repeats opens [] h = h
alike-ended repeats (in_loop top ∷ opens) (OpenBlock.Loop again before ∷ outer) h = h
alike-ended repeats [] (OpenBlock.Loop again before ∷ outer) h = absurd h
alike-ended repeats (in_select ∷ opens) (OpenBlock.Loop again before ∷ outer) h = absurd h
alike-ended repeats (in_body ∷ opens) (OpenBlock.Loop again before ∷ outer) h = absurd h
alike-ended repeats opens (OpenBlock.Choice cases timers has_default ∷ outer) h = h

-- what a loop holds changes nothing of how many are open
pub depth-holding : (held : Held) (blocks : List OpenBlock) → loop_count (holding held blocks) ≡ loop_count blocks
depth-holding held [] = refl
depth-holding held (OpenBlock.Loop repeats before ∷ outer) = refl
depth-holding held (OpenBlock.Choice cases timers has_default ∷ outer) = refl

pub depth-ended : (repeats : Bool) (blocks : List OpenBlock) → loop_count (ended_in repeats blocks) ≡ loop_count blocks
depth-ended repeats [] = refl
depth-ended repeats (OpenBlock.Loop again before ∷ outer) = refl
depth-ended repeats (OpenBlock.Choice cases timers has_default ∷ outer) = refl
