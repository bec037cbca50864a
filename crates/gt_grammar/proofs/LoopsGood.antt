-- The loops and selects in the code of deeds that follow one another rightly are good.
use Rattle.std.proofs.Common.{◌≡◌, inl, inr, ℕ, zero, suc, ◌+◌, ◌-◌, ◌^◌, ◌<◌, ◌≤◌, Bool, true, ltb as nat_lt, List, [], ◌∷◌, length, slice_get, get_or, Option, Some, None, refl, sym, ap, subst, ◌∙◌, arith}
use Rattle.std.specs.Prelude.{IfSome}
use Rattle.std.proofs.lemmas.Option.{slice_get_within}
use Rattle.std.proofs.lemmas.Bool.{both_ways, lt-ltb}
use Rattle.gt_model.specs.declared.script.Instr.{Instr}
use Rattle.gt_model.specs.declared.script.Case.{Case}
use Rattle.gt_model.specs.declared.script.CaseKind.{CaseKind}
use Rattle.gt_model.specs.Good.{meets_instr, IsGoodLoop, IsGoodEnd, IsGoodTarget, HasGoodTargets}
use Rattle.gt_names.specs.Names.{Names}
use Rattle.gt_grammar.specs.declared.progress.OpenBlock.{OpenBlock}
use Rattle.gt_grammar.specs.declared.progress.Held.{Held}
use Rattle.gt_grammar.specs.Faults.{holding, may_end, ended_in, case_added, default_added, loop_count}
use Rattle.gt_grammar.specs.Deeds.{Deed, declares, opens, does, loops, selects, chooses, defaults, closes, span, case_at, cases_from, default_from, Block as Open, in_loop, in_select, in_body, loops_among, code_from, code_in}
use Rattle.gt_grammar.proofs.Rightly.{Refers, Right, chosen_in}
use Rattle.gt_grammar.proofs.OpenLoops.{At, at-first, at-next, Meets, meets-all, line-meets, choice-meets, Walk, Walks, Opened, AllOpened, opened-depth, opened-next, opened-holding, opened-ended, walks-holding, walks-ended, Moving, moving-holding, moving-ended, ended-meets, leads, Leads, Part, Stays, EndsBy, Parts, TopAt, LeadsAt, part-before, parts-before, from-here}
use Rattle.gt_grammar.proofs.Bodies.{Bodies, bodies-map, bodies-both, each-at, some-at, bodies-beyond, Clear, GoodBody, body-before}
use Rattle.gt_grammar.proofs.Sizes.{code-short}

-- who is led from an index goes ahead, and over no end of a loop that it has not passed the top of
record GoesAhead (code : List Instr) (i to : ℕ) : Type 0 where
  ahead : i < to
  within : to < length code
  clear : Clear code (i + 1) to

-- what deeds make of the code from an index on is good, and good for the blocks that are open there, which end by these places, and have these bodies yet to
-- come
record GoodFrom (code : List Instr) (i : ℕ) (stack : List Open) (blocks : List OpenBlock) (past : ℕ → ℕ) (cases : ℕ → List Case) (default : ℕ → Option ℕ) : Type 0 where
  here : i < length code
  parts : Parts code i i past stack
  moving : Moving code stack blocks
  loops : (j depth count behind : ℕ) → i ≤ j → slice_get code j ≡ Some (Instr.LoopTop depth count behind) → IsGoodLoop code j depth count behind
  ends : (j depth top : ℕ) → i ≤ j → slice_get code j ≡ Some (Instr.LoopEnd depth top) → IsGoodEnd code j depth top
  stays : (j depth count behind : ℕ) → i ≤ j → slice_get code j ≡ Some (Instr.LoopTop depth count behind) → Stays code (j + 1) behind
  goes : (j to : ℕ) → i ≤ j → Leads code j to → GoesAhead code j to
  bodies : (m : ℕ) → m < length stack → Bodies (λ to. GoodBody code i to (past m)) (cases m) (default m)

-- ---- instructions that are no bounds of loops

-- what an index has that is no bound of a loop, and leads at most to this place
record Plain (code : List Instr) (i most : ℕ) : Type 0 where
  top : (depth count behind : ℕ) → slice_get code i ≡ Some (Instr.LoopTop depth count behind) → ⊥
  end : (depth back : ℕ) → slice_get code i ≡ Some (Instr.LoopEnd depth back) → ⊥
  leads : LeadsAt code i most
  goes : (to : ℕ) → Leads code i to → GoesAhead code i to

refers-at : (names : Names) (code : List Instr) (i : ℕ) (x y : Instr) → slice_get code i ≡ Some x → Refers names x → slice_get code i ≡ Some y → Refers names y
refers-at names code i x y there r e = let same : x ≡ y = cc in subst (Refers names) same r

leads-nowhere : (names : Names) (x : Instr) (to : ℕ) → Refers names x → leads x to → ⊥
leads-nowhere names (Instr.Jump other) to r l = absurd r
leads-nowhere names (Instr.Select cases default_to) to r l = absurd r
leads-nowhere names _ to r l = absurd l

plain-refers : (names : Names) (code : List Instr) (i most : ℕ) (x : Instr) → slice_get code i ≡ Some x → Refers names x → Plain code i most
plain-refers names code i most x there r = record {
  top = λ depth count behind e. refers-at names code i x (Instr.LoopTop depth count behind) there r e;
  end = λ depth back e. refers-at names code i x (Instr.LoopEnd depth back) there r e;
  leads = λ to l. absurd (leads-nowhere names l.instr to (refers-at names code i x l.instr there r l.there) l.leads_to);
  goes = λ to l. absurd (leads-nowhere names l.instr to (refers-at names code i x l.instr there r l.there) l.leads_to);
}

-- where the instruction at an index leads
leads-of : (code : List Instr) (i to : ℕ) (x : Instr) → slice_get code i ≡ Some x → Leads code i to → leads x to
leads-of code i to x there l = let h = l.there in let same : l.instr ≡ x = cc in subst (λ y. leads y to) same l.leads_to

jump-to : (code : List Instr) (i to end : ℕ) → slice_get code i ≡ Some (Instr.Jump end) → Leads code i to → to ≡ end
jump-to code i to end there l = leads-of code i to (Instr.Jump end) there l

plain-jump : (code : List Instr) (i end : ℕ) → slice_get code i ≡ Some (Instr.Jump end) → GoesAhead code i end → Plain code i end
plain-jump code i end there g = record {
  top = λ depth count behind e. cc;
  end = λ depth back e. cc;
  leads = λ to l. omega (arith, jump-to code i to end there l);
  goes = λ to l. subst (GoesAhead code i) (sym (jump-to code i to end there l)) g;
}

-- the code behind a plain instruction is good, and so the code from it on
good-plain : (code : List Instr) (i most : ℕ) (stack stack' : List Open) (blocks blocks' : List OpenBlock) (past before : ℕ → ℕ) (cases cases' : ℕ → List Case) (default default' : ℕ → Option ℕ) → Plain code i most
    → Parts code i i before stack → Moving code stack blocks → ((m : ℕ) → m < length stack → Bodies (λ to. GoodBody code i to (before m)) (cases m) (default m))
    → GoodFrom code (i + 1) stack' blocks' past cases' default' → GoodFrom code i stack blocks before cases default
good-plain code i most stack stack' blocks blocks' past before cases cases' default default' plain parts moving bodies ih = record {
  here = omega (arith, ih.here);
  parts = parts;
  moving = moving;
  loops = λ j depth count behind from e. elim (from-here i j from) [
    | inl k ↦ absurd (plain.top depth count behind (ap (slice_get code) k ∙ e))
    | inr k ↦ ih.loops j depth count behind k e
  ];
  ends = λ j depth top from e. elim (from-here i j from) [
    | inl k ↦ absurd (plain.end depth top (ap (slice_get code) k ∙ e))
    | inr k ↦ ih.ends j depth top k e
  ];
  stays = λ j depth count behind from e. elim (from-here i j from) [
    | inl k ↦ absurd (plain.top depth count behind (ap (slice_get code) k ∙ e))
    | inr k ↦ ih.stays j depth count behind k e
  ];
  goes = λ j to from l. elim (from-here i j from) [
    | inl k ↦ subst (λ x. GoesAhead code x to) k (plain.goes to (subst (λ x. Leads code x to) (sym k) l))
    | inr k ↦ ih.goes j to k l
  ];
  bodies = bodies;
}

no-top : (code : List Instr) (i most depth least : ℕ) → Plain code i most → TopAt code i depth least
no-top code i most depth least plain = λ inner passes behind e. absurd (plain.top inner passes behind e)

-- bodies that are still to come behind a plain instruction are so in front of it
plain-bodies : (code : List Instr) (i most past before : ℕ) (cases : List Case) (default : Option ℕ) → Plain code i most → past ≡ before
    → Bodies (λ to. GoodBody code (i + 1) to past) cases default → Bodies (λ to. GoodBody code i to before) cases default
plain-bodies code i most past before cases default plain same h =
    bodies-map (λ to. GoodBody code (i + 1) to past) (λ to. GoodBody code i to before)
    (λ to b. body-before code i to past before same (λ depth count behind e. absurd (plain.top depth count behind e)) b) cases default h

good-does : (names : Names) (code : List Instr) (instr : Instr) (i : ℕ) (stack : List Open) (blocks : List OpenBlock) (past before : ℕ → ℕ) (cases : ℕ → List Case) (default : ℕ → Option ℕ) → slice_get code i ≡ Some instr → Refers names instr → ((m : ℕ) → past m ≡ before m)
    → GoodFrom code (i + 1) stack (holding Held.Entered blocks) past cases default → GoodFrom code i stack blocks before cases default
good-does names code instr i stack blocks past before cases default there refers same ih =
    let plain : Plain code i i = plain-refers names code i i instr there refers in
    good-plain code i i stack stack blocks (holding Held.Entered blocks) past before cases cases default default plain
    (parts-before code i (i + 1) i past before stack same (omega arith) (no-top code i i (loops_among stack) (i + 1) plain) (λ to l. omega (arith, plain.leads to l)) ih.parts)
    (moving-holding code stack blocks Held.Entered ih.moving)
    (λ m w. plain-bodies code i i (past m) (before m) (cases m) (default m) plain (same m) (ih.bodies m w))
    ih

-- ---- selects

-- the parts in front of a jump to the end of the innermost block, which is a select
jump-parts : (code : List Instr) (i : ℕ) (past before : ℕ → ℕ) (stack : List Open) → ((m : ℕ) → past m ≡ before m) → Plain code i (past 0) → Parts code (i + 1) (i + 1) past (in_body ∷ stack) → Parts code i i before (in_body ∷ stack)
jump-parts code i past before stack same plain b =
    let first : Part code i (loops_among stack) i (past 0) = part-before code i (loops_among stack) (i + 1) i (past 0) (omega arith) (no-top code i (past 0) (loops_among stack) (i + 1) plain) b.0 in
    let later : Parts code i (past 0) (λ m. before (suc m)) stack =
    parts-before code i (past 0) (past 0) (λ m. past (suc m)) (λ m. before (suc m)) stack (λ m. same (suc m)) (omega arith) (no-top code i (past 0) (loops_among stack) (past 0) plain) plain.leads b.1 in
    (subst (Part code i (loops_among stack) i) (same 0) first, subst (λ p. Parts code i p (λ m. before (suc m)) stack) (same 0) later)

-- the jump in front of a body leads to the end of its select
ends-body : (code : List Instr) (i : ℕ) (past : ℕ → ℕ) (stack : List Open) → slice_get code i ≡ Some (Instr.Jump (past 0)) → Parts code (i + 1) (i + 1) past (in_body ∷ stack) → Plain code i (past 0)
ends-body code i past stack there b = plain-jump code i (past 0) there (record {
  ahead = omega (arith, b.0.above);
  within = b.0.within;
  clear = λ top depth count behind e from upto. let w = b.0.nested top depth count behind from upto e in omega (arith, w.1);
})

-- the next body begins behind such a jump
next-body : (code : List Instr) (i most past before : ℕ) → Plain code i most → i + 1 < past → past ≡ before → GoodBody code i (i + 1) before
next-body code i most past before plain less same = record {
  ahead = omega arith;
  before = omega (arith, same, less);
  clear = λ top depth count behind e from upto.
      let at : top ≡ i = omega arith in
      absurd (plain.top depth count behind (ap (slice_get code) (sym at) ∙ e));
}

-- a case or a default of a select whose bodies are these
good-jump : (code : List Instr) (i : ℕ) (stack : List Open) (blocks blocks' : List OpenBlock) (past before : ℕ → ℕ) (cases cases' : ℕ → List Case) (default default' : ℕ → Option ℕ) → slice_get code i ≡ Some (Instr.Jump (past 0)) → ((m : ℕ) → past m ≡ before m)
    → (Moving code (in_body ∷ stack) blocks' → Moving code (in_body ∷ stack) blocks)
    → (GoodBody code i (i + 1) (before 0) → Bodies (λ to. GoodBody code i to (before 0)) (cases' 0) (default' 0) → Bodies (λ to. GoodBody code i to (before 0)) (cases 0) (default 0))
    → ((m : ℕ) → cases' (suc m) ≡ cases (suc m)) → ((m : ℕ) → default' (suc m) ≡ default (suc m))
    → GoodFrom code (i + 1) (in_body ∷ stack) blocks' past cases' default' → GoodFrom code i (in_body ∷ stack) blocks before cases default
good-jump code i stack blocks blocks' past before cases cases' default default' there same moving first cs ds ih =
    let plain : Plain code i (past 0) = ends-body code i past stack there ih.parts in
    good-plain code i (past 0) (in_body ∷ stack) (in_body ∷ stack) blocks blocks' past before cases cases' default default' plain
    (jump-parts code i past before stack same plain ih.parts) (moving ih.moving) (bodies plain) ih
  where
    bodies : Plain code i (past 0) → (m : ℕ) → m < length (in_body ∷ stack) → Bodies (λ to. GoodBody code i to (before m)) (cases m) (default m)
    bodies plain zero w =
        first (next-body code i (past 0) (past 0) (before 0) plain (omega (arith, ih.parts.0.above)) (same 0)) (plain-bodies code i (past 0) (past 0) (before 0) (cases' 0) (default' 0) plain (same 0) (ih.bodies 0 w))
    bodies plain (suc m) w =
        let P : ℕ → Type 0 = λ to. GoodBody code i to (before (suc m)) in
        let b : Bodies P (cases' (suc m)) (default' (suc m)) = plain-bodies code i (past 0) (past (suc m)) (before (suc m)) (cases' (suc m)) (default' (suc m)) plain (same (suc m)) (ih.bodies (suc m) w) in
        subst (λ d. Bodies P (cases (suc m)) d) (ds m) (subst (λ c. Bodies P c (default' (suc m))) (cs m) b)

-- the choice that has the index i leads to these bodies
goes-on : (code : List Instr) (i to past : ℕ) → past < length code → GoodBody code (i + 1) to past → GoesAhead code i to
goes-on code i to past within b = record { ahead = omega (arith, b.ahead); within = omega (arith, b.before); clear = b.clear }

plain-choice : (code : List Instr) (i past : ℕ) (kind : CaseKind) (cases : List Case) (default : Option ℕ) → slice_get code i ≡ Some (Instr.Select (case_at kind (i + 1) ∷ cases) default) → i + 1 < past → past < length code
    → Bodies (λ to. GoodBody code (i + 1) to past) cases default → Plain code i past
plain-choice code i past kind cases default there above within b = record {
  top = λ depth count behind e. cc;
  end = λ depth back e. cc;
  leads = λ to l. let g : (GoesAhead code i to) × (to ≤ past) = led to (leads-of code i to (Instr.Select (case_at kind (i + 1) ∷ cases) default) there l) in g.1;
  goes = λ to l. (led to (leads-of code i to (Instr.Select (case_at kind (i + 1) ∷ cases) default) there l)).0;
}
  where
    by : (to : ℕ) → GoodBody code (i + 1) to past → (GoesAhead code i to) × (to ≤ past)
    by to g = (goes-on code i to past within g, omega (arith, g.before))

    of-case : (k : ℕ) (c : Case) → slice_get (case_at kind (i + 1) ∷ cases) k ≡ Some c → (GoesAhead code i c.to) × (c.to ≤ past)
    of-case zero c e =
        let same : case_at kind (i + 1) ≡ c = cc in
        let at : i + 1 ≡ c.to = ap (λ (x : Case). x.to) same in (
          record {
            ahead = omega (arith, at);
            within = omega (arith, at);
            clear = λ top depth count behind e from upto. absurd (omega (arith, at, from, upto));
          },
          omega (arith, at),
        )
    of-case (suc k) c e = by c.to (each-at (λ to. GoodBody code (i + 1) to past) cases k c b.0 e)

    led : (to : ℕ) → leads (Instr.Select (case_at kind (i + 1) ∷ cases) default) to → (GoesAhead code i to) × (to ≤ past)
    led to (inl w) = subst (λ x. (GoesAhead code i x) × (x ≤ past)) (sym w.3) (of-case w.0 w.1 w.2)
    led to (inr e) = by to (some-at (λ x. GoodBody code (i + 1) x past) default to b.1 e)

good-selects : (code : List Instr) (i : ℕ) (kind : CaseKind) (stack : List Open) (blocks : List OpenBlock) (inner : OpenBlock) (past before : ℕ → ℕ) (cases : ℕ → List Case) (default : ℕ → Option ℕ)
    → slice_get code i ≡ Some (Instr.Select (case_at kind (i + 1) ∷ cases 0) (default 0)) → ((m : ℕ) → past (suc m) ≡ before m) → (Moving code (in_body ∷ stack) (inner ∷ holding Held.Entered blocks) → Moving code stack (holding Held.Entered blocks))
    → GoodFrom code (i + 1) (in_body ∷ stack) (inner ∷ holding Held.Entered blocks) past cases default → GoodFrom code i stack blocks before (λ m. cases (suc m)) (λ m. default (suc m))
good-selects code i kind stack blocks inner past before cases default there same moving ih =
    let plain : Plain code i (past 0) = plain-choice code i (past 0) kind (cases 0) (default 0) there ih.parts.0.above ih.parts.0.within (ih.bodies 0 (omega arith)) in
    good-plain code i (past 0) stack (in_body ∷ stack) blocks (inner ∷ holding Held.Entered blocks) past before (λ m. cases (suc m)) cases (λ m. default (suc m)) default plain
    (parts-before code i (past 0) i (λ m. past (suc m)) before stack same (omega (arith, ih.parts.0.above)) (no-top code i (past 0) (loops_among stack) (past 0) plain) plain.leads ih.parts.1)
    (moving-holding code stack blocks Held.Entered (moving ih.moving))
    (λ m w. plain-bodies code i (past 0) (past (suc m)) (before m) (cases (suc m)) (default (suc m)) plain (same m) (ih.bodies (suc m) (omega (arith, w))))
    ih

-- the end of a select
good-finishes : (code : List Instr) (i : ℕ) (stack : List Open) (blocks blocks' : List OpenBlock) (past before : ℕ → ℕ) (cases cases' : ℕ → List Case) (default default' : ℕ → Option ℕ) → slice_get code i ≡ Some (Instr.Jump (i + 1)) → before 0 ≡ i + 1 → ((m : ℕ) → past m ≡ before (suc m))
    → (Moving code stack blocks' → Moving code (in_body ∷ stack) blocks) → cases 0 ≡ [] → default 0 ≡ None
    → ((m : ℕ) → cases' m ≡ cases (suc m)) → ((m : ℕ) → default' m ≡ default (suc m))
    → GoodFrom code (i + 1) stack blocks' past cases' default' → GoodFrom code i (in_body ∷ stack) blocks before cases default
good-finishes code i stack blocks blocks' past before cases cases' default default' there first same moving none no_default cs ds ih =
    good-plain code i (i + 1) (in_body ∷ stack) stack blocks blocks' past before cases cases' default default' plain
    (part, parts-before code i (i + 1) (before 0) past (λ m. before (suc m)) stack same (omega (arith, first)) (no-top code i (i + 1) (loops_among stack) (i + 1) plain) plain.leads ih.parts)
    (moving ih.moving) bodies ih
  where
    plain : Plain code i (i + 1)
    plain = plain-jump code i (i + 1) there (record {
      ahead = omega arith;
      within = ih.here;
      clear = λ top depth count behind e from upto. absurd (omega (arith, from, upto));
    })

    part : Part code i (loops_among stack) i (before 0)
    part = record {
      above = omega (arith, first);
      within = omega (arith, first, ih.here);
      nested = λ j inner passes behind from upto e.
          let at : j ≡ i = omega (arith, first) in
          absurd (plain.top inner passes behind (ap (slice_get code) (sym at) ∙ e));
    }

    bodies : (m : ℕ) → m < length (in_body ∷ stack) → Bodies (λ to. GoodBody code i to (before m)) (cases m) (default m)
    bodies zero w = subst (λ d. Bodies (λ to. GoodBody code i to (before 0)) (cases 0) d) (sym no_default) (subst (λ c. Bodies (λ to. GoodBody code i to (before 0)) c None) (sym none) (tt, tt))
    bodies (suc m) w =
        let P : ℕ → Type 0 = λ to. GoodBody code i to (before (suc m)) in
        let b : Bodies P (cases' m) (default' m) = plain-bodies code i (i + 1) (past m) (before (suc m)) (cases' m) (default' m) plain (same m) (ih.bodies m (omega (arith, w))) in
        subst (λ d. Bodies P (cases (suc m)) d) (ds m) (subst (λ c. Bodies P c (default' m)) (cs m) b)

-- ---- loops

-- the loop whose top has the index i
good-loop : (code : List Instr) (i depth count past j d c p : ℕ) → slice_get code i ≡ Some (Instr.LoopTop depth count past) → depth < 4 → Part code (i + 1) (suc depth) (i + 1) past → EndsBy code depth i past → (nat_lt 0 count ≡ true → Meets code (i + 1))
    → i ≡ j → slice_get code j ≡ Some (Instr.LoopTop d c p) → IsGoodLoop code j d c p
good-loop code i depth count past j d c p there shallow b ends moves is here =
    let same : Instr.LoopTop depth count past ≡ Instr.LoopTop d c p = cc in
    let deep : depth ≡ d = cc in
    let passes : count ≡ c = cc in
    let behind_is : past ≡ p = cc in
    let back : (p - 1) + 1 ≡ past = omega (arith, b.above) in
    let end : slice_get code (p - 1) ≡ Some (Instr.LoopEnd depth i) = ends (p - 1) back in
    record {
      shallow = omega arith;
      ahead = omega (arith, b.above);
      within = omega (arith, b.within);
      end = cc;
      nested = λ k inner times behind from upto e.
          let w : (suc depth ≤ inner) × (behind < past) = b.nested k inner times behind (omega arith) (omega arith) e in
          (omega (arith, w.0), omega (arith, w.1));
      moves = λ some. subst (λ x. meets_instr (length code) code (x + 1) ≡ true) is (meets-all code (i + 1) (moves (lt-ltb 0 count (omega arith))));
    }

-- who stays in the loop whose top has the index i
top-stays : (code : List Instr) (i depth count past j d c p : ℕ) → slice_get code i ≡ Some (Instr.LoopTop depth count past) → Stays code (i + 1) past
    → i ≡ j → slice_get code j ≡ Some (Instr.LoopTop d c p) → Stays code (j + 1) p
top-stays code i depth count past j d c p there stays is here =
    let same : Instr.LoopTop depth count past ≡ Instr.LoopTop d c p = cc in
    let behind_is : past ≡ p = cc in
    subst (λ x. Stays code (x + 1) p) is (subst (Stays code (i + 1)) behind_is stays)

-- the bounds of a loop lead nowhere
top-leads : (code : List Instr) (i to depth count past : ℕ) → slice_get code i ≡ Some (Instr.LoopTop depth count past) → Leads code i to → ⊥
top-leads code i to depth count past there l = leads-of code i to (Instr.LoopTop depth count past) there l

end-leads : (code : List Instr) (i to depth top : ℕ) → slice_get code i ≡ Some (Instr.LoopEnd depth top) → Leads code i to → ⊥
end-leads code i to depth top there l = leads-of code i to (Instr.LoopEnd depth top) there l

good-loops : (code : List Instr) (count i : ℕ) (stack : List Open) (blocks : List OpenBlock) (past before : ℕ → ℕ) (cases : ℕ → List Case) (default : ℕ → Option ℕ)
    → slice_get code i ≡ Some (Instr.LoopTop (loops_among stack) count (past 0)) → loops_among stack < 4 → ((m : ℕ) → past (suc m) ≡ before m)
    → ((m : ℕ) → Bodies (λ to. past 0 ≤ to) (cases (suc m)) (default (suc m)))
    → GoodFrom code (i + 1) (in_loop i ∷ stack) (OpenBlock.Loop (nat_lt 0 count) Held.Nothing ∷ blocks) past cases default
    → GoodFrom code i stack blocks before (λ m. cases (suc m)) (λ m. default (suc m))
good-loops code count i stack blocks past before cases default there shallow same beyond ih =
    let less : i ≤ past 0 = omega (arith, ih.parts.0.above) in
    let top : TopAt code i (loops_among stack) (past 0) = λ inner passes behind e.
    let is : Instr.LoopTop (loops_among stack) count (past 0) ≡ Instr.LoopTop inner passes behind = cc in
    let deep : loops_among stack ≡ inner = cc in
    let ends : past 0 ≡ behind = cc in
    (omega arith, omega arith) in
    record {
      here = omega (arith, ih.here);
      parts = parts-before code i (past 0) i (λ m. past (suc m)) before stack same less top (λ to l. absurd (top-leads code i to (loops_among stack) count (past 0) there l)) ih.parts.3;
      moving = ih.moving.1;
      loops = λ j d c p from e. elim (from-here i j from) [
        | inl k ↦ good-loop code i (loops_among stack) count (past 0) j d c p there shallow ih.parts.0 ih.parts.1 ih.moving.0 k e
        | inr k ↦ ih.loops j d c p k e
      ];
      ends = λ j d t from e. elim (from-here i j from) [
        | inl k ↦ cc
        | inr k ↦ ih.ends j d t k e
      ];
      stays = λ j d c p from e. elim (from-here i j from) [
        | inl k ↦ top-stays code i (loops_among stack) count (past 0) j d c p there ih.parts.2 k e
        | inr k ↦ ih.stays j d c p k e
      ];
      goes = λ j to from l. elim (from-here i j from) [
        | inl k ↦ absurd (top-leads code i to (loops_among stack) count (past 0) there (subst (λ x. Leads code x to) (sym k) l))
        | inr k ↦ ih.goes j to k l
      ];
      bodies = λ m w. bodies-map (λ to. (past 0 ≤ to) × GoodBody code (i + 1) to (past (suc m))) (λ to. GoodBody code i to (before m))
          (λ to b. body-before code i to (past (suc m)) (before m) (same m) (λ d c p e. let t = top d c p e in omega (arith, t.1, b.0)) b.1)
          (cases (suc m)) (default (suc m))
          (bodies-both (λ to. past 0 ≤ to) (λ to. GoodBody code (i + 1) to (past (suc m))) (cases (suc m)) (default (suc m)) (beyond m) (ih.bodies (suc m) (omega (arith, w))));
    }

-- the end that has the index i
good-end : (code : List Instr) (i depth top j d t : ℕ) (repeats : Bool) → slice_get code i ≡ Some (Instr.LoopEnd depth top) → top < i → Opened code depth top (i + 1) repeats
    → i ≡ j → slice_get code j ≡ Some (Instr.LoopEnd d t) → IsGoodEnd code j d t
good-end code i depth top j d t repeats there ahead opened is here =
    let same : Instr.LoopEnd depth top ≡ Instr.LoopEnd d t = cc in
    let deep : depth ≡ d = cc in
    let back : top ≡ t = cc in
    let begin : slice_get code top ≡ Some (Instr.LoopTop depth opened.count (i + 1)) = opened.there in
    record { before = omega arith; count = opened.count; begin = cc }

good-closes : (code : List Instr) (i top : ℕ) (stack : List Open) (repeats : Bool) (held : Held) (outer : List OpenBlock) (past before : ℕ → ℕ) (cases cases' : ℕ → List Case) (default default' : ℕ → Option ℕ)
    → slice_get code i ≡ Some (Instr.LoopEnd (loops_among stack) top) → top < i → Opened code (loops_among stack) top (i + 1) repeats
    → may_end repeats held ≡ true → Walk code held (top + 1) i → before 0 ≡ i + 1 → ((m : ℕ) → past m ≡ before (suc m))
    → cases 0 ≡ [] → default 0 ≡ None → ((m : ℕ) → cases' m ≡ cases (suc m)) → ((m : ℕ) → default' m ≡ default (suc m))
    → GoodFrom code (i + 1) stack (ended_in repeats outer) past cases' default' → GoodFrom code i (in_loop top ∷ stack) (OpenBlock.Loop repeats held ∷ outer) before cases default
good-closes code i top stack repeats held outer past before cases cases' default default' there ahead opened may walk first same none no_default cs ds ih = record {
  here = omega (arith, ih.here);
  parts = (
    part,
    (λ e is. let at : e ≡ i = omega (arith, is, first) in ap (slice_get code) at ∙ there),
    stays,
    parts-before code i (i + 1) (before 0) past (λ m. before (suc m)) stack same (omega (arith, first)) (λ inner passes behind e. cc) (λ to l. absurd (end-leads code i to (loops_among stack) top there l)) ih.parts,
  );
  moving = (λ is. ended-meets code repeats held (top + 1) i may walk is, moving-ended code stack outer repeats ih.moving);
  loops = λ j d c p from e. elim (from-here i j from) [
    | inl k ↦ cc
    | inr k ↦ ih.loops j d c p k e
  ];
  ends = λ j d t from e. elim (from-here i j from) [
    | inl k ↦ good-end code i (loops_among stack) top j d t repeats there ahead opened k e
    | inr k ↦ ih.ends j d t k e
  ];
  stays = λ j d c p from e. elim (from-here i j from) [
    | inl k ↦ cc
    | inr k ↦ ih.stays j d c p k e
  ];
  goes = λ j to from l. elim (from-here i j from) [
    | inl k ↦ absurd (end-leads code i to (loops_among stack) top there (subst (λ x. Leads code x to) (sym k) l))
    | inr k ↦ ih.goes j to k l
  ];
  bodies = bodies;
}
  where
    part : Part code i (suc (loops_among stack)) i (before 0)
    part = record {
      above = omega (arith, first);
      within = omega (arith, first, ih.here);
      nested = λ j inside passes behind from upto e. let at : j ≡ i = omega (arith, first) in cc;
    }

    stays : Stays code i (before 0)
    stays = λ j to from upto l.
        let at : j ≡ i = omega (arith, first) in
        absurd (end-leads code i to (loops_among stack) top there (subst (λ x. Leads code x to) at l))

    bodies : (m : ℕ) → m < length (in_loop top ∷ stack) → Bodies (λ to. GoodBody code i to (before m)) (cases m) (default m)
    bodies zero w = subst (λ d. Bodies (λ to. GoodBody code i to (before 0)) (cases 0) d) (sym no_default) (subst (λ c. Bodies (λ to. GoodBody code i to (before 0)) c None) (sym none) (tt, tt))
    bodies (suc m) w =
        let P : ℕ → Type 0 = λ to. GoodBody code i to (before (suc m)) in
        let b : Bodies P (cases' m) (default' m) =
        bodies-map (λ to. GoodBody code (i + 1) to (past m)) P (λ to b. body-before code i to (past m) (before (suc m)) (same m) (λ d c p e. cc) b) (cases' m) (default' m) (ih.bodies m (omega (arith, w))) in
        subst (λ d. Bodies P (cases (suc m)) d) (ds m) (subst (λ c. Bodies P c (default' m)) (cs m) b)

good-last : (code : List Instr) (i : ℕ) (past : ℕ → ℕ) (cases : ℕ → List Case) (default : ℕ → Option ℕ) → At code i (Instr.Finish ∷ []) → GoodFrom code i [] [] past cases default
good-last code i past cases default at =
    let there : slice_get code i ≡ Some Instr.Finish = at-first code i Instr.Finish [] at in
    let none : (j : ℕ) → i + 1 ≤ j → slice_get code j ≡ None = λ j from. at-next code i Instr.Finish [] at j (j - (i + 1)) (omega arith) in
    record {
      here = slice_get_within code i Instr.Finish there;
      parts = tt;
      moving = tt;
      loops = λ j d c p from e. elim (from-here i j from) [
        | inl k ↦ cc
        | inr k ↦ let out : slice_get code j ≡ None = none j k in cc
      ];
      ends = λ j d t from e. elim (from-here i j from) [
        | inl k ↦ cc
        | inr k ↦ let out : slice_get code j ≡ None = none j k in cc
      ];
      stays = λ j d c p from e. elim (from-here i j from) [
        | inl k ↦ cc
        | inr k ↦ let out : slice_get code j ≡ None = none j k in cc
      ];
      goes = λ j to from l. elim (from-here i j from) [
        | inl k ↦ absurd (leads-of code i to Instr.Finish there (subst (λ x. Leads code x to) (sym k) l))
        | inr k ↦ let out : slice_get code j ≡ None = none j k in let w = l.there in cc
      ];
      bodies = λ m w. absurd (omega (arith, w));
    }

abbrev GoodDeeds : List Instr → ℕ → List Open → List OpenBlock → List Deed → Type 0
GoodDeeds code i stack blocks deeds = GoodFrom code i stack blocks (λ m. i + span m deeds) (λ m. cases_from m i deeds) (λ m. default_from m i deeds)

good-from : (names : Names) (code : List Instr) (deeds : List Deed) (i : ℕ) (stack : List Open) (blocks : List OpenBlock) (n f k : ℕ) → Right names true blocks n f k deeds → At code i (code_from stack i deeds)
    → AllOpened code i (λ m. i + span m deeds) stack blocks → Walks code i stack blocks → GoodDeeds code i stack blocks deeds
good-from names code [] i stack blocks n f k right at opened walks = cc
good-from names code (declares name what ∷ rest) i stack blocks n f k right at opened walks = absurd (both_ways true right.0 refl)
good-from names code (opens name decl ∷ rest) i stack blocks n f k right at opened walks = absurd (both_ways true right.0 refl)
good-from names code (does instr ∷ rest) i stack blocks n f k right at opened walks =
    let there : slice_get code i ≡ Some instr = at-first code i instr (code_from stack (i + 1) rest) at in
    let next : (m : ℕ) → i + span m (does instr ∷ rest) ≡ (i + 1) + span m rest = λ m. omega arith in
    good-does names code instr i stack blocks (λ m. (i + 1) + span m rest) (λ m. i + span m (does instr ∷ rest)) (λ m. cases_from m (i + 1) rest) (λ m. default_from m (i + 1) rest) there right.2 (λ m. sym (next m))
    (good-from names code rest (i + 1) stack (holding Held.Entered blocks) n f (k + 1) right.3 (at-next code i instr (code_from stack (i + 1) rest) at)
    (opened-holding code (i + 1) (λ m. (i + 1) + span m rest) stack blocks Held.Entered (opened-next code i (λ m. i + span m (does instr ∷ rest)) (λ m. (i + 1) + span m rest) stack blocks next opened))
    (walks-holding code i (i + 1) stack blocks (line-meets names code i instr there right.2) walks))
good-from names code (loops count ∷ rest) i stack blocks n f k right at opened walks =
    let past : ℕ → ℕ = λ m. (i + 1) + span m rest in
    let top : Instr = Instr.LoopTop (loops_among stack) count (i + 1 + span 0 rest) in
    let there : slice_get code i ≡ Some top = at-first code i top (code_from (in_loop i ∷ stack) (i + 1) rest) at in
    let same : loops_among stack ≡ loop_count blocks = opened-depth code i (λ m. i + span m (loops count ∷ rest)) stack blocks opened in
    let next : (m : ℕ) → i + span m (loops count ∷ rest) ≡ (i + 1) + span (suc m) rest = λ m. omega arith in
    let here : Opened code (loops_among stack) i (i + 1 + span 0 rest) (nat_lt 0 count) = record { count = count; there = there; passes = refl } in
    good-loops code count i stack blocks past (λ m. i + span m (loops count ∷ rest)) (λ m. cases_from m (i + 1) rest) (λ m. default_from m (i + 1) rest) there (omega (arith, right.2)) (λ m. sym (next m))
    (λ m. bodies-beyond 0 m (i + 1) rest (omega arith))
    (good-from names code rest (i + 1) (in_loop i ∷ stack) (OpenBlock.Loop (nat_lt 0 count) Held.Nothing ∷ blocks) n f k right.3 (at-next code i top (code_from (in_loop i ∷ stack) (i + 1) rest) at)
    (omega arith, here, opened-next code i (λ m. i + span m (loops count ∷ rest)) (λ m. past (suc m)) stack blocks next opened)
    (λ m. m, walks))
good-from names code (selects ∷ chooses kind ∷ rest) i stack blocks n f k right at opened walks =
    let first = right.3.2 in
    let past : ℕ → ℕ = λ m. (i + 1) + span m rest in
    let x : Instr = Instr.Select (case_at kind (i + 1) ∷ cases_from 0 (i + 1) rest) (default_from 0 (i + 1) rest) in
    let there : slice_get code i ≡ Some x = at-first code i x (code_from (in_body ∷ stack) (i + 1) rest) at in
    let next : (m : ℕ) → i + span m (selects ∷ chooses kind ∷ rest) ≡ (i + 1) + span (suc m) rest = λ m. omega arith in
    good-selects code i kind stack blocks _ past (λ m. i + span m (selects ∷ chooses kind ∷ rest)) (λ m. cases_from m (i + 1) rest) (λ m. default_from m (i + 1) rest) there (λ m. sym (next m)) (λ h. h)
    (good-from names code rest (i + 1) (in_body ∷ stack) (case_added first.0 (chosen_in blocks)) n f (k + 1) first.2 (at-next code i x (code_from (in_body ∷ stack) (i + 1) rest) at)
    (opened-holding code (i + 1) (λ m. past (suc m)) stack blocks Held.Entered (opened-next code i (λ m. i + span m (selects ∷ chooses kind ∷ rest)) (λ m. past (suc m)) stack blocks next opened))
    (λ at. walks-holding code i at stack blocks (choice-meets code i (case_at kind (i + 1) ∷ cases_from 0 (i + 1) rest) (default_from 0 (i + 1) rest) there) walks))
good-from names code (selects ∷ []) i stack blocks n f k right at opened walks = absurd right.2
good-from names code (selects ∷ declares name what ∷ rest) i stack blocks n f k right at opened walks = absurd right.2
good-from names code (selects ∷ opens name decl ∷ rest) i stack blocks n f k right at opened walks = absurd right.2
good-from names code (selects ∷ does instr ∷ rest) i stack blocks n f k right at opened walks = absurd right.2
good-from names code (selects ∷ loops count ∷ rest) i stack blocks n f k right at opened walks = absurd right.2
good-from names code (selects ∷ selects ∷ rest) i stack blocks n f k right at opened walks = absurd right.2
good-from names code (selects ∷ defaults ∷ rest) i stack blocks n f k right at opened walks = absurd right.2
good-from names code (selects ∷ closes ∷ rest) i stack blocks n f k right at opened walks = absurd right.2
good-from names code (chooses kind ∷ rest) i stack [] n f k right at opened walks = absurd right.1
good-from names code (chooses kind ∷ rest) i stack (OpenBlock.Loop repeats held ∷ outer) n f k right at opened walks = absurd right.1
good-from names code (chooses kind ∷ rest) i [] (OpenBlock.Choice cases timers has_default ∷ outer) n f k right at opened walks = absurd opened
good-from names code (chooses kind ∷ rest) i (in_loop top ∷ stack) (OpenBlock.Choice cases timers has_default ∷ outer) n f k right at opened walks = absurd opened
good-from names code (chooses kind ∷ rest) i (in_select ∷ stack) (OpenBlock.Choice cases timers has_default ∷ outer) n f k right at opened walks = absurd opened
good-from names code (chooses kind ∷ rest) i (in_body ∷ stack) (OpenBlock.Choice cases timers has_default ∷ outer) n f k right at opened walks =
    let past : ℕ → ℕ = λ m. (i + 1) + span m rest in
    let before : ℕ → ℕ = λ m. i + span m (chooses kind ∷ rest) in
    let x : Instr = Instr.Jump (i + 1 + span 0 rest) in
    let there : slice_get code i ≡ Some x = at-first code i x (code_from (in_body ∷ stack) (i + 1) rest) at in
    let next : (m : ℕ) → before m ≡ past m = λ m. omega arith in
    let blocks : List OpenBlock = OpenBlock.Choice cases timers has_default ∷ outer in
    good-jump code i stack blocks (case_added right.2.0 blocks) past before (λ m. cases_from m i (chooses kind ∷ rest)) (λ m. cases_from m (i + 1) rest) (λ m. default_from m i (chooses kind ∷ rest)) (λ m. default_from m (i + 1) rest)
    there (λ m. sym (next m)) (λ h. h) (λ g b. ((g, b.0), b.1)) (λ m. refl) (λ m. refl)
    (good-from names code rest (i + 1) (in_body ∷ stack) (case_added right.2.0 blocks) n f k right.2.2 (at-next code i x (code_from (in_body ∷ stack) (i + 1) rest) at)
    (opened-next code i (λ m. before (suc m)) (λ m. past (suc m)) stack outer (λ m. next (suc m)) opened) walks)
good-from names code (defaults ∷ rest) i stack [] n f k right at opened walks = absurd right.1
good-from names code (defaults ∷ rest) i stack (OpenBlock.Loop repeats held ∷ outer) n f k right at opened walks = absurd right.1
good-from names code (defaults ∷ rest) i [] (OpenBlock.Choice cases timers has_default ∷ outer) n f k right at opened walks = absurd opened
good-from names code (defaults ∷ rest) i (in_loop top ∷ stack) (OpenBlock.Choice cases timers has_default ∷ outer) n f k right at opened walks = absurd opened
good-from names code (defaults ∷ rest) i (in_select ∷ stack) (OpenBlock.Choice cases timers has_default ∷ outer) n f k right at opened walks = absurd opened
good-from names code (defaults ∷ rest) i (in_body ∷ stack) (OpenBlock.Choice cases timers has_default ∷ outer) n f k right at opened walks =
    let past : ℕ → ℕ = λ m. (i + 1) + span m rest in
    let before : ℕ → ℕ = λ m. i + span m (defaults ∷ rest) in
    let x : Instr = Instr.Jump (i + 1 + span 0 rest) in
    let there : slice_get code i ≡ Some x = at-first code i x (code_from (in_body ∷ stack) (i + 1) rest) at in
    let next : (m : ℕ) → before m ≡ past m = λ m. omega arith in
    let blocks : List OpenBlock = OpenBlock.Choice cases timers has_default ∷ outer in
    good-jump code i stack blocks (default_added blocks) past before (λ m. cases_from m i (defaults ∷ rest)) (λ m. cases_from m (i + 1) rest) (λ m. default_from m i (defaults ∷ rest)) (λ m. default_from m (i + 1) rest)
    there (λ m. sym (next m)) (λ h. h) (λ g b. (b.0, g)) (λ m. refl) (λ m. refl)
    (good-from names code rest (i + 1) (in_body ∷ stack) (default_added blocks) n f k right.2 (at-next code i x (code_from (in_body ∷ stack) (i + 1) rest) at)
    (opened-next code i (λ m. before (suc m)) (λ m. past (suc m)) stack outer (λ m. next (suc m)) opened) walks)
good-from names code (closes ∷ rest) i [] [] n f k right at opened walks = good-last code i (λ m. i + span m (closes ∷ rest)) (λ m. cases_from m i (closes ∷ rest)) (λ m. default_from m i (closes ∷ rest)) at
good-from names code (closes ∷ rest) i [] (inner ∷ outer) n f k right at opened walks = absurd opened
good-from names code (closes ∷ rest) i (in_select ∷ stack) blocks n f k right at opened walks = absurd opened
good-from names code (closes ∷ rest) i (in_loop top ∷ stack) [] n f k right at opened walks = absurd opened
good-from names code (closes ∷ rest) i (in_body ∷ stack) [] n f k right at opened walks = absurd opened
good-from names code (closes ∷ rest) i (in_body ∷ stack) (OpenBlock.Loop repeats held ∷ outer) n f k right at opened walks = absurd opened
good-from names code (closes ∷ rest) i (in_loop top ∷ stack) (OpenBlock.Choice cases timers has_default ∷ outer) n f k right at opened walks = absurd opened
good-from names code (closes ∷ rest) i (in_body ∷ stack) (OpenBlock.Choice cases timers has_default ∷ outer) n f k right at opened walks =
    let past : ℕ → ℕ = λ m. (i + 1) + span m rest in
    let x : Instr = Instr.Jump (i + 1) in
    let there : slice_get code i ≡ Some x = at-first code i x (code_from stack (i + 1) rest) at in
    let next : (m : ℕ) → i + span (suc m) (closes ∷ rest) ≡ (i + 1) + span m rest = λ m. omega arith in
    good-finishes code i stack (OpenBlock.Choice cases timers has_default ∷ outer) outer past (λ m. i + span m (closes ∷ rest)) (λ m. cases_from m i (closes ∷ rest)) (λ m. cases_from m (i + 1) rest) (λ m. default_from m i (closes ∷ rest)) (λ m. default_from m (i + 1) rest)
    there refl (λ m. sym (next m)) (λ h. h) refl refl (λ m. refl) (λ m. refl)
    (good-from names code rest (i + 1) stack outer n f k right.2 (at-next code i x (code_from stack (i + 1) rest) at)
    (opened-next code i (λ m. i + span (suc m) (closes ∷ rest)) past stack outer next opened) (walks (i + 1)))
good-from names code (closes ∷ rest) i (in_loop top ∷ stack) (OpenBlock.Loop repeats held ∷ outer) n f k right at opened walks =
    let past : ℕ → ℕ = λ m. (i + 1) + span m rest in
    let x : Instr = Instr.LoopEnd (loops_among stack) top in
    let there : slice_get code i ≡ Some x = at-first code i x (code_from stack (i + 1) rest) at in
    let next : (m : ℕ) → i + span (suc m) (closes ∷ rest) ≡ (i + 1) + span m rest = λ m. omega arith in
    let ahead : top < i + 1 = omega (arith, opened.0) in
    let t = opened.1 in
    good-closes code i top stack repeats held outer past (λ m. i + span m (closes ∷ rest)) (λ m. cases_from m i (closes ∷ rest)) (λ m. cases_from m (i + 1) rest) (λ m. default_from m i (closes ∷ rest)) (λ m. default_from m (i + 1) rest)
    there opened.0 t right.1 walks.0 refl (λ m. sym (next m)) refl refl (λ m. refl) (λ m. refl)
    (good-from names code rest (i + 1) stack (ended_in repeats outer) n f k right.2 (at-next code i x (code_from stack (i + 1) rest) at)
    (opened-ended code (i + 1) past stack outer repeats (opened-next code i (λ m. i + span (suc m) (closes ∷ rest)) past stack outer next opened.2))
    (walks-ended code repeats held (loops_among stack) top t.count i (i + 1) stack outer t.there t.passes ahead right.1 walks.0 walks.1))

-- ---- the whole code

get_some : {X : Type 0} (xs : List X) (k : ℕ) (d : X) → k < length xs → slice_get xs k ≡ Some (get_or xs k d)
get_some [] k d h = absurd (omega arith)
get_some (x ∷ xs) zero d h = refl
get_some (x ∷ xs) (suc k) d h = get_some xs k d (omega arith)

pub record HasGoodLoops (code : List Instr) : Type 0 where
  pub short : length code < 2 ^ 32
  pub loops : (i depth count past : ℕ) → slice_get code i ≡ Some (Instr.LoopTop depth count past) → IsGoodLoop code i depth count past
  pub ends : (i depth top : ℕ) → slice_get code i ≡ Some (Instr.LoopEnd depth top) → IsGoodEnd code i depth top
  pub choices : (i : ℕ) (cases : List Case) (default_to : Option ℕ) → slice_get code i ≡ Some (Instr.Select cases default_to) → HasGoodTargets code i cases default_to
  pub jumps : (i to : ℕ) → slice_get code i ≡ Some (Instr.Jump to) → IsGoodTarget code i to

good-target : (code : List Instr) (stack : List Open) (blocks : List OpenBlock) (past : ℕ → ℕ) (cases : ℕ → List Case) (default : ℕ → Option ℕ) (i to : ℕ) → GoodFrom code 0 stack blocks past cases default → Leads code i to → IsGoodTarget code i to
good-target code stack blocks past cases default i to all l =
    let g : GoesAhead code i to = all.goes i to (omega arith) l in
    record {
      ahead = g.ahead;
      within = g.within;
      stays = λ top depth count behind e before inside. all.stays top depth count behind (omega arith) e i to (omega (arith, before)) inside l;
      clear = λ top depth count behind e before upto. g.clear top depth count behind e (omega (arith, before)) upto;
    }

good-default : (code : List Instr) (i : ℕ) (default_to : Option ℕ) → ((to : ℕ) → default_to ≡ Some to → IsGoodTarget code i to) → IfSome default_to (IsGoodTarget code i)
good-default code i None by = tt
good-default code i (Some to) by = by to refl

pub loops-good : (names : Names) (deeds : List Deed) (n f k : ℕ) → Right names true [] n f k deeds → HasGoodLoops (code_in deeds)
loops-good names deeds n f k right =
    let code : List Instr = code_in deeds in
    let past : ℕ → ℕ = λ m. 0 + span m deeds in
    let cases : ℕ → List Case = λ m. cases_from m 0 deeds in
    let default : ℕ → Option ℕ = λ m. default_from m 0 deeds in
    let all : GoodFrom code 0 [] [] past cases default = good-from names code deeds 0 [] [] n f k right (λ j o e. ap (slice_get code) (omega arith)) tt tt in
    record {
      short = omega (arith, code-short names deeds n f k right);
      loops = λ i depth count past e. all.loops i depth count past (omega arith) e;
      ends = λ i depth top e. all.ends i depth top (omega arith) e;
      choices = λ i cs d e. record {
        each = λ j c h. good-target code [] [] past cases default i (get_or cs j c).to all (record { instr = Instr.Select cs d; there = e; leads_to = inl (j, get_or cs j c, get_some cs j c h, refl) });
        otherwise = good-default code i d (λ to is. good-target code [] [] past cases default i to all (record { instr = Instr.Select cs d; there = e; leads_to = inr is }));
      };
      jumps = λ i to e. good-target code [] [] past cases default i to all (record { instr = Instr.Jump to; there = e; leads_to = refl });
    }
