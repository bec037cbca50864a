-- A walk through a good code goes where the course through the code leads.
use Rattle.std.proofs.Common.{◌≡◌, ◌≢◌, ℕ, zero, suc, ◌+◌, ◌-◌, ◌<◌, ◌≤◌, List, [], ◌∷◌, ◌++◌, length, refl, sym, ap, subst, ◌∙◌, arith, slice_get, slice_index, set, Option, None, Some, Bool, true, false, cond, eqb, nat_le}
use Rattle.std.proofs.lemmas.Bool.{eqb-true, eqb-false, ne_eqb, leb-true, leb-false}
use Rattle.std.proofs.lemmas.Option.{slice_get_past}
use Rattle.std.proofs.lemmas.List.{length-set}
use Rattle.gt_model.specs.declared.script.Instr.{Instr}
use Rattle.gt_model.specs.declared.script.Case.{Case}
use Rattle.gt_model.specs.declared.script.Script.{Script}
use Rattle.gt_model.specs.declared.script.Place.{Place}
use Rattle.gt_model.specs.Good.{IsGoodCode, IsGoodLoop, IsGoodEnd, IsGoodTarget, HasGoodTargets}
use Rattle.gt_model.proofs.GoodCode.{all_at}
use Rattle.gt_rules.specs.Places.{at_top, at_end, passes_left, silent, silent_at, go_on, next_index}
use Rattle.gt_facts.proofs.Landing.{stops, steps}
use Rattle.gt_laws.specs.Unrolled.{Course, stands, behind, followed, repeated, body_in, course, stood_at, turn_of}

-- ---- walks

-- from this place the walk by these moves comes to the last place, with the others left
pub data Follows (code : List Instr) (last : Place) (rest : List ℕ) : Place → List ℕ → Type 0 where
  done : Follows code last rest last rest
  silently : (p q : Place) (ms : List ℕ) → silent_at code p ≡ Some q → Follows code last rest q ms → Follows code last rest p ms
  acts : (p : Place) (x : Instr) (n : ℕ) (ms : List ℕ) → slice_get code p.at ≡ Some x → silent_at code p ≡ None
      → Follows code last rest (record p { at = next_index x n (p.at + 1) }) ms → Follows code last rest p (n ∷ ms)

pub joined : (code : List Instr) (mid last : Place) (some rest : List ℕ) (p : Place) (ms : List ℕ) → Follows code mid some p ms → Follows code last rest mid some → Follows code last rest p ms
joined code mid last some rest _ _ done next = next
joined code mid last some rest _ _ (silently p q ms e more) next = silently p q ms e (joined code mid last some rest q ms more next)
joined code mid last some rest _ _ (acts p x n ms on quiet more) next =
    acts p x n ms on quiet (joined code mid last some rest (record p { at = next_index x n (p.at + 1) }) ms more next)

-- further moves are left
pub wider : (code : List Instr) (last : Place) (rest more : List ℕ) (p : Place) (ms : List ℕ) → Follows code last rest p ms → Follows code last (rest ++ more) p (ms ++ more)
wider code last rest more _ _ done = done
wider code last rest more _ _ (silently p q ms e w) = silently p q (ms ++ more) e (wider code last rest more q ms w)
wider code last rest more _ _ (acts p x n ms on quiet w) =
    acts p x n (ms ++ more) on quiet (wider code last rest more (record p { at = next_index x n (p.at + 1) }) ms w)

silent-is : (code : List Instr) (p : Place) (x : Instr) → slice_get code p.at ≡ Some x → silent_at code p ≡ silent p x
silent-is code p x on = ap (λ (o : Option Instr). elim o as (λ o. Option Place) [ None ↦ None | Some i ↦ silent p i ]) on

-- ---- counters

index-set_same : (loops : List ℕ) (depth n : ℕ) → depth < length loops → slice_index (set loops depth n) depth ≡ n
index-set_same [] depth n h = absurd (omega arith)
index-set_same (x ∷ xs) zero n h = refl
index-set_same (x ∷ xs) (suc depth) n h = index-set_same xs depth n (omega arith)

index-set_other : (loops : List ℕ) (depth d n : ℕ) → d ≢ depth → slice_index (set loops depth n) d ≡ slice_index loops d
index-set_other [] depth d n h = refl
index-set_other (x ∷ xs) zero zero n h = absurd (h refl)
index-set_other (x ∷ xs) zero (suc d) n h = refl
index-set_other (x ∷ xs) (suc depth) zero n h = refl
index-set_other (x ∷ xs) (suc depth) (suc d) n h = index-set_other xs depth d n (λ e. h (ap suc e))

-- ---- from one index up to another

-- the walk comes there with these moves left, and keeps the counters of the loops around
record Arrives (code : List Instr) (p : Place) (ms : List ℕ) (j low : ℕ) (rest : List ℕ) : Type 0 where
  last : Place
  follows : Follows code last rest p ms
  at : last.at ≡ j
  kept : (d : ℕ) → d < low → slice_index last.loops d ≡ slice_index p.loops d
  wide : length last.loops ≡ length p.loops

-- or stands before, with no move left
record Stands (code : List Instr) (p : Place) (ms : List ℕ) (x : Instr) : Type 0 where
  last : Place
  follows : Follows code last [] p ms
  on : slice_get code last.at ≡ Some x
  quiet : silent_at code last ≡ None

abbrev Walk : List Instr → Place → List ℕ → ℕ → ℕ → Course → Type 0
Walk code p ms j low (stands x) = Stands code p ms x
Walk code p ms j low (behind rest) = Arrives code p ms j low rest

-- on from where a walk comes
walk-after : (code : List Instr) (p : Place) (ms some : List ℕ) (m j low : ℕ) (a : Arrives code p ms m low some) (c : Course) → Walk code a.last some j low c → Walk code p ms j low c
walk-after code p ms some m j low a (stands x) w =
    record { last = w.last; follows = joined code a.last w.last some [] p ms a.follows w.follows; on = w.on; quiet = w.quiet }
walk-after code p ms some m j low a (behind rest) w = record {
  last = w.last;
  follows = joined code a.last w.last some rest p ms a.follows w.follows;
  at = w.at;
  kept = λ d h. w.kept d h ∙ a.kept d h;
  wide = w.wide ∙ a.wide;
}

walk-silent : (code : List Instr) (p q : Place) (ms : List ℕ) (j low : ℕ) (c : Course) → silent_at code p ≡ Some q → ((d : ℕ) → d < low → slice_index q.loops d ≡ slice_index p.loops d)
    → length q.loops ≡ length p.loops → Walk code q ms j low c → Walk code p ms j low c
walk-silent code p q ms j low c e kept wide w =
    walk-after code p ms ms q.at j low (record { last = q; follows = silently p q ms e done; at = refl; kept = kept; wide = wide }) c w

walk-acts : (code : List Instr) (p : Place) (x : Instr) (n : ℕ) (ms : List ℕ) (j low : ℕ) (c : Course) → slice_get code p.at ≡ Some x → silent_at code p ≡ None
    → Walk code (record p { at = next_index x n (p.at + 1) }) ms j low c → Walk code p (n ∷ ms) j low c
walk-acts code p x n ms j low c on quiet w =
    let q : Place = record p { at = next_index x n (p.at + 1) } in
    walk-after code p (n ∷ ms) ms q.at j low (record { last = q; follows = acts p x n ms on quiet done; at = refl; kept = λ d h. refl; wide = refl }) c w

walk-join : (code : List Instr) (p : Place) (ms : List ℕ) (m j low : ℕ) (c : Course) (more : List ℕ → Course) → length p.loops ≡ 4 → Walk code p ms m low c
    → ((q : Place) (rest : List ℕ) → q.at ≡ m → length q.loops ≡ 4 → Walk code q rest j low (more rest)) → Walk code p ms j low (followed c more)
walk-join code p ms m j low (stands x) more four w next = w
walk-join code p ms m j low (behind rest) more four w next = walk-after code p ms rest m j low w (more rest) (next w.last rest w.at (w.wide ∙ four))

walk-less : (code : List Instr) (p : Place) (ms : List ℕ) (j low high : ℕ) (c : Course) → low ≤ high → Walk code p ms j high c → Walk code p ms j low c
walk-less code p ms j low high (stands x) less w = w
walk-less code p ms j low high (behind rest) less w = record { last = w.last; follows = w.follows; at = w.at; kept = λ d h. w.kept d (omega arith); wide = w.wide }

-- ---- the passes of a loop

-- the place behind the end of a loop, by the passes that are left
abbrev behind_end : Place → ℕ → ℕ → ℕ → Place
behind_end p depth top n = record p { at = cond (eqb n 0) (p.at + 1) (top + 1); loops = set p.loops depth n }

-- from behind the end of a loop with so many passes left
abbrev GoesOn : List Instr → ℕ → ℕ → ℕ → ℕ → (List ℕ → Course) → Type 0
GoesOn code i depth past n more =
    (r : Place) (rest : List ℕ) → r.at ≡ cond (eqb n 0) ((past - 1) + 1) (i + 1) → length r.loops ≡ 4 → slice_index r.loops depth ≡ n → Walk code r rest past depth (more rest)

-- a pass through the body, the step from its end, and what comes behind
one-pass : (code : List Instr) (i depth past n : ℕ) (q : Place) (ms : List ℕ) (c : Course) (more : List ℕ → Course) → depth < 4 → slice_get code (past - 1) ≡ Some (Instr.LoopEnd depth i)
    → length q.loops ≡ 4 → slice_index q.loops depth ≡ suc n → Walk code q ms (past - 1) (depth + 1) c → GoesOn code i depth past n more → Walk code q ms past depth (followed c more)
one-pass code i depth past n q ms (stands x) more shallow end four count w next = w
one-pass code i depth past n q ms (behind rest) more shallow end four count w next =
    let on : slice_get code w.last.at ≡ Some (Instr.LoopEnd depth i) = subst (λ k. slice_get code k ≡ Some (Instr.LoopEnd depth i)) (sym w.at) end in
    let had : slice_index w.last.loops depth ≡ suc n = w.kept depth (omega arith) ∙ count in
    let left : passes_left w.last depth ≡ n = omega arith in
    let long : length w.last.loops ≡ 4 = w.wide ∙ four in
    let r : Place = behind_end w.last depth i n in
    let step : silent_at code w.last ≡ Some r = silent-is code w.last (Instr.LoopEnd depth i) on ∙ ap (λ k. Some (behind_end w.last depth i k)) left in
    walk-after code q ms rest (past - 1) past depth (record { last = w.last; follows = w.follows; at = w.at; kept = λ d h. w.kept d (omega arith); wide = w.wide }) (more rest)
    (walk-silent code w.last r rest past depth (more rest) step (λ d h. index-set_other w.last.loops depth d n (λ e. absurd (omega arith))) (length-set w.last.loops depth n)
    (next r rest (ap (λ k. cond (eqb n 0) (k + 1) (i + 1)) w.at) (length-set w.last.loops depth n ∙ long) (index-set_same w.last.loops depth n (omega arith))))

turns : (code : List Instr) (i depth past : ℕ) (body : List ℕ → Course) → depth < 4 → i + 1 < past → slice_get code (past - 1) ≡ Some (Instr.LoopEnd depth i)
    → ((q : Place) (ms : List ℕ) → q.at ≡ i + 1 → length q.loops ≡ 4 → Walk code q ms (past - 1) (depth + 1) (body ms))
    → (n : ℕ) (q : Place) (ms : List ℕ) → q.at ≡ i + 1 → length q.loops ≡ 4 → slice_index q.loops depth ≡ suc n → Walk code q ms past depth (repeated (suc n) body ms)
turns code i depth past body shallow ahead end through zero q ms at four count =
    one-pass code i depth past 0 q ms (body ms) (repeated 0 body) shallow end four count (through q ms at four)
    (λ r rest at four count. record { last = r; follows = done; at = omega arith; kept = λ d h. refl; wide = refl })
turns code i depth past body shallow ahead end through (suc n) q ms at four count =
    one-pass code i depth past (suc n) q ms (body ms) (repeated (suc n) body) shallow end four count (through q ms at four)
    (λ r rest at four count.
    let some : eqb (suc n) 0 ≡ false = ne_eqb (suc n) 0 (λ e. absurd (omega arith)) in
    let back : r.at ≡ i + 1 = at ∙ ap (λ b. cond b ((past - 1) + 1) (i + 1)) some in
    turns code i depth past body shallow ahead end through n r rest back four count)

-- ---- regions

-- a part of a code that no loop crosses, and that nobody leaves but at its end; the loops in it stand at this depth or deeper
record IsRegion (code : List Instr) (i j low : ℕ) : Type 0 where
  within : j ≤ length code
  tops : (k depth count past : ℕ) → i ≤ k → k < j → slice_get code k ≡ Some (Instr.LoopTop depth count past) → (low ≤ depth) × (past ≤ j)
  ends : (k depth top : ℕ) → i ≤ k → k < j → slice_get code k ≡ Some (Instr.LoopEnd depth top) → i ≤ top
  targets : (k to : ℕ) → i ≤ k → k < j → IsGoodTarget code k to → to ≤ j

-- an end whose top this is ends this loop
own-end : (code : List Instr) (i depth count past k inner top : ℕ) → slice_get code i ≡ Some (Instr.LoopTop depth count past) → IsGoodEnd code k inner top → i ≡ top → past ≡ k + 1
own-end code i depth count past k inner top on is same = same-past depth count past inner is.count (k + 1) (sym on ∙ (ap (λ m. slice_get code m) same ∙ is.begin))
  where
    same-past : (a b c d e f : ℕ) → Some (Instr.LoopTop a b c) ≡ Some (Instr.LoopTop d e f) → c ≡ f
    same-past a b c d e f h = cc

-- the body of a loop, and what stands behind it
body-region : (script : Script) (code : List Instr) (i j low depth count past : ℕ) → IsGoodCode script code → IsRegion code i j low → i < j
    → slice_get code i ≡ Some (Instr.LoopTop depth count past) → IsRegion code (i + 1) (past - 1) (depth + 1)
body-region script code i j low depth count past good region inside on =
    let here : IsGoodLoop code i depth count past = good.loops i depth count past on in
    let both = region.tops i depth count past (omega arith) inside on in
    let ends : past ≤ j = both.1 in
    let within : j ≤ length code = region.within in
    record {
      within = omega arith;
      tops = λ k inner passes behind after before top.
          let nested = here.nested k inner passes behind (omega arith) (omega arith) top in
          let deeper : depth < inner = nested.0 in
          let sooner : behind < past = nested.1 in
          (omega arith, omega arith);
      ends = λ k inner top after before end.
          let is : IsGoodEnd code k inner top = good.ends k inner top end in
          let first : i ≤ top = region.ends k inner top (omega arith) (omega arith) end in
          elim (eqb i top) as (λ b. eqb i top ≡ b → i + 1 ≤ top) [
            | true ↦ λ e.
                let same : i ≡ top = eqb-true i top e in
                let last : past ≡ k + 1 = own-end code i depth count past k inner top on is same in
                absurd (omega arith)
            | false ↦ λ e. let differ : i ≡ top → ⊥ = eqb-false i top e in omega arith
          ] refl;
      targets = λ k to after before target. let stays : to < past = target.stays i depth count past on (omega arith) (omega arith) in omega arith;
    }

rest-region : (script : Script) (code : List Instr) (i j low depth count past : ℕ) → IsGoodCode script code → IsRegion code i j low → i < j
    → slice_get code i ≡ Some (Instr.LoopTop depth count past) → IsRegion code past j low
rest-region script code i j low depth count past good region inside on =
    let here : IsGoodLoop code i depth count past = good.loops i depth count past on in
    let ahead : i + 1 < past = here.ahead in
    record {
      within = region.within;
      tops = λ k inner passes behind after before top. region.tops k inner passes behind (omega arith) before top;
      ends = λ k inner top after before end.
          let is : IsGoodEnd code k inner top = good.ends k inner top end in
          let first : i ≤ top = region.ends k inner top (omega arith) before end in
          elim (nat_le past top) as (λ b. nat_le past top ≡ b → past ≤ top) [
            | true ↦ λ e. leb-true past top e
            | false ↦ λ e.
                let sooner : top < past = leb-false past top e in
                elim (eqb i top) as (λ b. eqb i top ≡ b → past ≤ top) [
                  | true ↦ λ e.
                      let same : i ≡ top = eqb-true i top e in
                      let last : past ≡ k + 1 = own-end code i depth count past k inner top on is same in
                      absurd (omega arith)
                  | false ↦ λ e.
                      let differ : i ≡ top → ⊥ = eqb-false i top e in
                      let nested = here.nested top inner is.count (k + 1) (omega arith) sooner is.begin in
                      let crosses : k + 1 < past = nested.1 in
                      absurd (omega arith)
                ] refl
          ] refl;
      targets = λ k to after before target. region.targets k to (omega arith) before target;
    }

abbrev is_top : Instr → Bool
is_top (Instr.LoopTop depth count past) = true
is_top _ = false

next-region : (script : Script) (code : List Instr) (i j low : ℕ) (x : Instr) → IsGoodCode script code → IsRegion code i j low → slice_get code i ≡ Some x → is_top x ≡ false
    → IsRegion code (i + 1) j low
next-region script code i j low x good region on other = record {
  within = region.within;
  tops = λ k inner passes behind after before top. region.tops k inner passes behind (omega arith) before top;
  ends = λ k inner top after before end.
      let is : IsGoodEnd code k inner top = good.ends k inner top end in
      let first : i ≤ top = region.ends k inner top (omega arith) before end in
      elim (eqb i top) as (λ b. eqb i top ≡ b → i + 1 ≤ top) [
        | true ↦ λ e.
            let same : i ≡ top = eqb-true i top e in
            let again : Some x ≡ Some (Instr.LoopTop inner is.count (k + 1)) = sym on ∙ (ap (λ m. slice_get code m) same ∙ is.begin) in
            let top : is_top x ≡ true = ap (λ (o : Option Instr). elim o as (λ o. Bool) [ None ↦ false | Some y ↦ is_top y ]) again in
            let both : false ≡ true = sym other ∙ top in
            cc
        | false ↦ λ e. let differ : i ≡ top → ⊥ = eqb-false i top e in omega arith
      ] refl;
  targets = λ k to after before target. region.targets k to (omega arith) before target;
}

-- what stands behind a good target
to-region : (script : Script) (code : List Instr) (i j low to : ℕ) (x : Instr) → IsGoodCode script code → IsRegion code i j low → slice_get code i ≡ Some x → is_top x ≡ false
    → IsGoodTarget code i to → IsRegion code to j low
to-region script code i j low to x good region on other target =
    let next : IsRegion code (i + 1) j low = next-region script code i j low x good region on other in
    let ahead : i < to = target.ahead in
    record {
      within = region.within;
      tops = λ k inner passes behind after before top. region.tops k inner passes behind (omega arith) before top;
      ends = λ k inner top after before end.
          let is : IsGoodEnd code k inner top = good.ends k inner top end in
          let first : i + 1 ≤ top = next.ends k inner top (omega arith) before end in
          elim (nat_le to top) as (λ b. nat_le to top ≡ b → to ≤ top) [
            | true ↦ λ e. leb-true to top e
            | false ↦ λ e.
                let sooner : top < to = leb-false to top e in
                let over : k + 1 ≤ to = target.clear top inner is.count (k + 1) is.begin (omega arith) sooner in
                absurd (omega arith)
          ] refl;
      targets = λ k to after before target. region.targets k to (omega arith) before target;
    }

-- ---- the walk through a region

abbrev course_here : ℕ → List Instr → ℕ → ℕ → List ℕ → Option Instr → Course
course_here more code i j moves o = elim o [
  | None ↦ behind moves
  | Some x ↦ elim x [
    | Instr.LoopTop depth count past ↦ followed (repeated count (course more code (i + 1) (past - 1)) moves) (course more code past j)
    | Instr.LoopEnd depth top ↦ behind moves
    | Instr.Jump to ↦ course more code to j moves
    | Instr.Select cases default_to ↦ elim moves [ [] ↦ stands (Instr.Select cases default_to) | n ∷ rest ↦ course more code (body_in cases default_to n (i + 1)) j rest ]
    | other ↦ elim moves [ [] ↦ stands other | n ∷ rest ↦ course more code (i + 1) j rest ]
  ]
]

abbrev Walks : ℕ → List Instr → Type 0
Walks f code = (i j low : ℕ) (p : Place) (ms : List ℕ) → IsRegion code i j low → i ≤ j → j ≤ i + f → p.at ≡ i → length p.loops ≡ 4 → Walk code p ms j low (course f code i j ms)

abbrev entered : Place → ℕ → ℕ → Place
entered p depth count = record p { at = p.at + 1; loops = set p.loops depth count }

top-enters : (p : Place) (depth count past : ℕ) → at_top p depth (suc count) past ≡ entered p depth (suc count)
top-enters p depth count past =
    let some : eqb (suc count) 0 ≡ false = ne_eqb (suc count) 0 (λ e. absurd (omega arith)) in
    ap (λ (b : Bool). cond b (record p { at = past }) (entered p depth (suc count))) some

-- where an instruction leads on, in the region
record LeadsOn (code : List Instr) (i j low to : ℕ) : Type 0 where
  ahead : i < to
  within : to ≤ j
  region : IsRegion code to j low

leads-next : (script : Script) (code : List Instr) (i j low : ℕ) (x : Instr) → IsGoodCode script code → IsRegion code i j low → i < j → slice_get code i ≡ Some x → is_top x ≡ false
    → LeadsOn code i j low (i + 1)
leads-next script code i j low x good region inside on other =
    record { ahead = omega arith; within = omega arith; region = next-region script code i j low x good region on other }

leads-to : (script : Script) (code : List Instr) (i j low to : ℕ) (x : Instr) → IsGoodCode script code → IsRegion code i j low → i < j → slice_get code i ≡ Some x → is_top x ≡ false
    → IsGoodTarget code i to → LeadsOn code i j low to
leads-to script code i j low to x good region inside on other target = record {
  ahead = target.ahead;
  within = region.targets i to (omega arith) inside target;
  region = to-region script code i j low to x good region on other target;
}

-- a choice leads to the body of its case, or behind it
leads-choice : (script : Script) (code : List Instr) (i j low n : ℕ) (cases : List Case) (default_to : Option ℕ) → IsGoodCode script code → IsRegion code i j low → i < j
    → slice_get code i ≡ Some (Instr.Select cases default_to) → LeadsOn code i j low (body_in cases default_to n (i + 1))
leads-choice script code i j low zero cases None good region inside on = leads-next script code i j low (Instr.Select cases None) good region inside on refl
leads-choice script code i j low zero cases (Some to) good region inside on =
    let targets : HasGoodTargets code i cases (Some to) = good.choices i cases (Some to) on in
    leads-to script code i j low to (Instr.Select cases (Some to)) good region inside on refl targets.otherwise
leads-choice script code i j low (suc k) cases default_to good region inside on =
    let targets : HasGoodTargets code i cases default_to = good.choices i cases default_to on in
    elim (slice_get cases k) as (λ o. slice_get cases k ≡ o → LeadsOn code i j low (elim o as (λ o. ℕ) [ None ↦ i + 1 | Some c ↦ c.to ])) [
      | None ↦ λ e. leads-next script code i j low (Instr.Select cases default_to) good region inside on refl
      | Some c ↦ λ e.
          leads-to script code i j low c.to (Instr.Select cases default_to) good region inside on refl (all_at (λ (c : Case). IsGoodTarget code i c.to) cases k c targets.each e)
    ] refl

-- the body of a case is the same for the walk and for the course
body-same : (cases : List Case) (default_to : Option ℕ) (n next : ℕ) → next_index (Instr.Select cases default_to) n next ≡ body_in cases default_to n next
body-same cases None zero next = refl
body-same cases (Some to) zero next = refl
body-same cases default_to (suc k) next = refl

-- an instruction that makes an entry
acts-at : (code : List Instr) (f i j low : ℕ) (p : Place) (ms : List ℕ) (x : Instr) (to : ℕ → ℕ) → Walks f code → i < j → j ≤ i + suc f → p.at ≡ i → length p.loops ≡ 4
    → slice_get code i ≡ Some x → silent p x ≡ None → ((n : ℕ) → next_index x n (i + 1) ≡ to n) → ((n : ℕ) → LeadsOn code i j low (to n))
    → Walk code p ms j low (elim ms as (λ ms. Course) [ [] ↦ stands x | n ∷ rest ↦ course f code (to n) j rest ])
acts-at code f i j low p [] x to more inside fuel at four on quiet same leads =
    let there : slice_get code p.at ≡ Some x = subst (λ k. slice_get code k ≡ Some x) (sym at) on in
    record { last = p; follows = done; on = there; quiet = silent-is code p x there ∙ quiet }
acts-at code f i j low p (n ∷ rest) x to more inside fuel at four on quiet same leads =
    let there : slice_get code p.at ≡ Some x = subst (λ k. slice_get code k ≡ Some x) (sym at) on in
    let l : LeadsOn code i j low (to n) = leads n in
    let ahead : i < to n = l.ahead in
    walk-acts code p x n rest j low (course f code (to n) j rest) there (silent-is code p x there ∙ quiet)
    (more (to n) j low (record p { at = next_index x n (p.at + 1) }) rest l.region l.within (omega arith) (ap (λ k. next_index x n (k + 1)) at ∙ same n) four)

walks-at : (script : Script) (code : List Instr) (f i j low : ℕ) (p : Place) (ms : List ℕ) (x : Instr) → IsGoodCode script code → Walks f code → IsRegion code i j low → i < j → j ≤ i + suc f
    → p.at ≡ i → length p.loops ≡ 4 → slice_get code i ≡ Some x → Walk code p ms j low (course_here f code i j ms (Some x))
walks-at script code f i j low p ms (Instr.LoopTop depth zero past) good more region inside fuel at four on =
    let here : IsGoodLoop code i depth 0 past = good.loops i depth 0 past on in
    let ahead : i + 1 < past = here.ahead in
    let both = region.tops i depth 0 past (omega arith) inside on in
    let ends : past ≤ j = both.1 in
    let there : slice_get code p.at ≡ Some (Instr.LoopTop depth 0 past) = subst (λ k. slice_get code k ≡ Some (Instr.LoopTop depth 0 past)) (sym at) on in
    walk-silent code p (record p { at = past }) ms j low (course f code past j ms) (silent-is code p (Instr.LoopTop depth 0 past) there) (λ d h. refl) refl
    (more past j low (record p { at = past }) ms (rest-region script code i j low depth 0 past good region inside on) ends (omega arith) refl four)
walks-at script code f i j low p ms (Instr.LoopTop depth (suc count) past) good more region inside fuel at four on =
    let here : IsGoodLoop code i depth (suc count) past = good.loops i depth (suc count) past on in
    let ahead : i + 1 < past = here.ahead in
    let both = region.tops i depth (suc count) past (omega arith) inside on in
    let deep : low ≤ depth = both.0 in
    let ends : past ≤ j = both.1 in
    let there : slice_get code p.at ≡ Some (Instr.LoopTop depth (suc count) past) = subst (λ k. slice_get code k ≡ Some (Instr.LoopTop depth (suc count) past)) (sym at) on in
    let body : List ℕ → Course = course f code (i + 1) (past - 1) in
    let q : Place = entered p depth (suc count) in
    let long : length q.loops ≡ 4 = length-set p.loops depth (suc count) ∙ four in
    let through : (q : Place) (ms : List ℕ) → q.at ≡ i + 1 → length q.loops ≡ 4 → Walk code q ms (past - 1) (depth + 1) (body ms) =
    λ q ms at four. more (i + 1) (past - 1) (depth + 1) q ms (body-region script code i j low depth (suc count) past good region inside on) (omega arith) (omega arith) at four in
    let all : Walk code q ms past depth (repeated (suc count) body ms) =
    turns code i depth past body here.shallow ahead here.end through count q ms (ap (λ k. k + 1) at) long (index-set_same p.loops depth (suc count) (subst (λ k. depth < k) (sym four) here.shallow)) in
    walk-silent code p q ms j low (followed (repeated (suc count) body ms) (course f code past j))
    (silent-is code p (Instr.LoopTop depth (suc count) past) there ∙ ap Some (top-enters p depth count past))
    (λ d h. index-set_other p.loops depth d (suc count) (λ e. absurd (omega arith)))
    (length-set p.loops depth (suc count))
    (walk-join code q ms past j low (repeated (suc count) body ms) (course f code past j) long (walk-less code q ms past low depth (repeated (suc count) body ms) deep all)
    (λ r rest at four. more past j low r rest (rest-region script code i j low depth (suc count) past good region inside on) ends (omega arith) at four))
walks-at script code f i j low p ms (Instr.LoopEnd depth top) good more region inside fuel at four on =
    let is : IsGoodEnd code i depth top = good.ends i depth top on in
    let before : top < i = is.before in
    let first : i ≤ top = region.ends i depth top (omega arith) inside on in
    absurd (omega arith)
walks-at script code f i j low p ms (Instr.Jump to) good more region inside fuel at four on =
    let l : LeadsOn code i j low to = leads-to script code i j low to (Instr.Jump to) good region inside on refl (good.jumps i to on) in
    let ahead : i < to = l.ahead in
    let there : slice_get code p.at ≡ Some (Instr.Jump to) = subst (λ k. slice_get code k ≡ Some (Instr.Jump to)) (sym at) on in
    walk-silent code p (record p { at = to }) ms j low (course f code to j ms) (silent-is code p (Instr.Jump to) there) (λ d h. refl) refl
    (more to j low (record p { at = to }) ms l.region l.within (omega arith) refl four)
walks-at script code f i j low p ms (Instr.Select cases default_to) good more region inside fuel at four on =
    acts-at code f i j low p ms (Instr.Select cases default_to) (λ n. body_in cases default_to n (i + 1)) more inside fuel at four on refl (λ n. body-same cases default_to n (i + 1))
    (λ n. leads-choice script code i j low n cases default_to good region inside on)
walks-at script code f i j low p ms x good more region inside fuel at four on =
    acts-at code f i j low p ms x (λ n. i + 1) more inside fuel at four on refl (λ n. refl) (λ n. leads-next script code i j low x good region inside on refl)

pub not_past : (code : List Instr) (i : ℕ) → slice_get code i ≡ None → i < length code → ⊥
not_past [] i e h = omega arith
not_past (x ∷ xs) zero e h = cc
not_past (x ∷ xs) (suc i) e h = not_past xs i e (omega arith)

walks : (script : Script) (code : List Instr) → IsGoodCode script code → (f : ℕ) → Walks f code
walks script code good zero i j low p ms region up fuel at four = record { last = p; follows = done; at = omega arith; kept = λ d h. refl; wide = refl }
walks script code good (suc f) i j low p ms region up fuel at four =
    elim (nat_le j i) as (λ b. nat_le j i ≡ b → Walk code p ms j low (cond b (behind ms) (course_here f code i j ms (slice_get code i)))) [
      | true ↦ λ e. let down : j ≤ i = leb-true j i e in record { last = p; follows = done; at = omega arith; kept = λ d h. refl; wide = refl }
      | false ↦ λ e.
          let inside : i < j = leb-false j i e in
          let within : j ≤ length code = region.within in
          elim (slice_get code i) as (λ o. slice_get code i ≡ o → Walk code p ms j low (course_here f code i j ms o)) [
            | None ↦ λ on. absurd (not_past code i on (omega arith))
            | Some x ↦ λ on. walks-at script code f i j low p ms x good (walks script code good f) region inside fuel at four on
          ] refl
    ] refl

walks-all : (script : Script) (code : List Instr) (p : Place) (ms : List ℕ) → IsGoodCode script code → p.at ≡ 0 → length p.loops ≡ 4
    → Walk code p ms (length code) 0 (course (length code) code 0 (length code) ms)
walks-all script code p ms good at four =
    let region : IsRegion code 0 (length code) 0 = record {
      within = omega arith;
      tops = λ k depth count past after before top.
          let here : IsGoodLoop code k depth count past = good.loops k depth count past top in
          let inside : past < length code = here.within in
          (omega arith, omega arith);
      ends = λ k depth top after before end. omega arith;
      targets = λ k to after before target. let inside : to < length code = target.within in omega arith;
    } in
    walks script code good (length code) 0 (length code) 0 p ms region (omega arith) (omega arith) at four

-- ---- where a walk ends there is one place

-- nobody goes on from there: not silently, and not by a move that is left
record IsFinal (code : List Instr) (q : Place) (rest : List ℕ) : Type 0 where
  quiet : silent_at code q ≡ None
  over : (x : Instr) (n : ℕ) (ms : List ℕ) → rest ≡ n ∷ ms → slice_get code q.at ≡ Some x → ⊥

quiet-ends : (code : List Instr) (q p : Place) (rest ms : List ℕ) → ms ≡ [] → silent_at code p ≡ None → Follows code q rest p ms → p ≡ q
quiet-ends code q _ rest _ none quiet done = refl
quiet-ends code q _ rest _ none quiet (silently p next ms e more) = let both : None ≡ Some next = sym quiet ∙ e in cc
quiet-ends code q _ rest _ none quiet (acts p x n ms on still more) = cc

after-silent : (code : List Instr) (q p next : Place) (rest ms : List ℕ) → silent_at code p ≡ Some next → IsFinal code q rest → Follows code q rest p ms → Follows code q rest next ms
after-silent code q _ next rest _ e final done = let both : None ≡ Some next = sym final.quiet ∙ e in cc
after-silent code q _ next rest _ e final (silently p other ms f more) =
    let same : Some other ≡ Some next = sym f ∙ e in
    let is : other ≡ next = cc in
    subst (λ (r : Place). Follows code q rest r ms) is more
after-silent code q _ next rest _ e final (acts p x n ms on still more) = let both : None ≡ Some next = sym still ∙ e in cc

after-act : (code : List Instr) (q p : Place) (rest all : List ℕ) (x : Instr) (n : ℕ) (ms : List ℕ) → slice_get code p.at ≡ Some x → silent_at code p ≡ None → IsFinal code q rest
    → all ≡ n ∷ ms → Follows code q rest p all → Follows code q rest (record p { at = next_index x n (p.at + 1) }) ms
after-act code q _ rest _ x n ms on quiet final is done = absurd (final.over x n ms is on)
after-act code q _ rest _ x n ms on quiet final is (silently p next all e more) = let both : None ≡ Some next = sym quiet ∙ e in cc
after-act code q _ rest _ x n ms on quiet final is (acts p y m some there still more) =
    let same : Some y ≡ Some x = sym there ∙ on in
    let instr : y ≡ x = cc in
    let number : m ≡ n = cc in
    let left : some ≡ ms = cc in
    subst (λ (left : List ℕ). Follows code q rest (record p { at = next_index x n (p.at + 1) }) left) left
    (subst (λ k. Follows code q rest (record p { at = next_index x k (p.at + 1) }) some) number
    (subst (λ (i : Instr). Follows code q rest (record p { at = next_index i m (p.at + 1) }) some) instr more))

one-end : (code : List Instr) (p q b : Place) (rest ms : List ℕ) → silent_at code p ≡ None → IsFinal code q rest → Follows code p [] b ms → Follows code q rest b ms → p ≡ q
one-end code p q _ rest _ quiet final done w = quiet-ends code q p rest [] refl quiet w
one-end code p q _ rest _ quiet final (silently b next ms e more) w = one-end code p q next rest ms quiet final more (after-silent code q b next rest ms e final w)
one-end code p q _ rest _ quiet final (acts b x n ms on still more) w =
    one-end code p q (record b { at = next_index x n (b.at + 1) }) rest ms quiet final more (after-act code q b rest (n ∷ ms) x n ms on still final refl w)

-- who has followed these moves and stands at a call stands where the course leads
walk-stands : (code : List Instr) (b p : Place) (ms : List ℕ) (c : Course) → Walk code b ms (length code) 0 c → Follows code p [] b ms → silent_at code p ≡ None
    → slice_get code p.at ≡ stood_at c
walk-stands code b p ms (stands x) w follows quiet =
    let same : p ≡ w.last = one-end code p w.last b [] ms quiet (record { quiet = w.quiet; over = λ x n ms e on. cc }) follows w.follows in
    ap (λ (q : Place). slice_get code q.at) same ∙ w.on
walk-stands code b p ms (behind rest) w follows quiet =
    let at : w.last.at ≡ length code = w.at in
    let none : slice_get code w.last.at ≡ None = slice_get_past code w.last.at (omega arith) in
    let final : IsFinal code w.last rest = record {
      quiet = ap (λ (o : Option Instr). elim o as (λ o. Option Place) [ None ↦ None | Some i ↦ silent w.last i ]) none;
      over = λ x n ms e on. let both : None ≡ Some x = sym none ∙ on in cc;
    } in
    let same : p ≡ w.last = one-end code p w.last b rest ms quiet final follows w.follows in
    ap (λ (q : Place). slice_get code q.at) same ∙ none

pub follows-turn : (script : Script) (code : List Instr) (b p : Place) (ms : List ℕ) → IsGoodCode script code → b.at ≡ 0 → length b.loops ≡ 4 → Follows code p [] b ms → silent_at code p ≡ None
    → slice_get code p.at ≡ turn_of code ms
follows-turn script code b p ms good at four follows quiet =
    walk-stands code b p ms (course (length code) code 0 (length code) ms) (walks-all script code b ms good at four) follows quiet

-- who goes on silently follows no further moves
pub follows-on : (f : ℕ) (code : List Instr) (p : Place) (ms : List ℕ) → Follows code (go_on f code p) ms p ms
follows-on zero code p ms = done
follows-on (suc f) code p ms =
    elim (silent_at code p) as (λ o. silent_at code p ≡ o → Follows code (go_on (suc f) code p) ms p ms) [
      | None ↦ λ e. subst (λ (q : Place). Follows code q ms p ms) (sym (stops (suc f) code p e)) done
      | Some q ↦ λ e. subst (λ (r : Place). Follows code r ms p ms) (sym (steps f code p q e)) (silently p q ms e (follows-on f code q ms))
    ] refl

-- ---- the function stays

top-func : (p : Place) (depth count past : ℕ) → (at_top p depth count past).func ≡ p.func
top-func p depth count past =
    elim (eqb count 0) as (λ b. (cond b (record p { at = past }) (entered p depth count)).func ≡ p.func) [ true ↦ refl | false ↦ refl ]

silent-func : (p q : Place) (x : Instr) → silent p x ≡ Some q → q.func ≡ p.func
silent-func p q (Instr.LoopTop depth count past) e = let is : at_top p depth count past ≡ q = cc in subst (λ (r : Place). r.func ≡ p.func) is (top-func p depth count past)
silent-func p q (Instr.LoopEnd depth top) e = let is : at_end p depth top ≡ q = cc in subst (λ (r : Place). r.func ≡ p.func) is refl
silent-func p q (Instr.Jump to) e = let is : record p { at = to } ≡ q = cc in subst (λ (r : Place). r.func ≡ p.func) is refl
silent-func p q _ e = cc

step-func : (code : List Instr) (p q : Place) → silent_at code p ≡ Some q → q.func ≡ p.func
step-func code p q e =
    elim (slice_get code p.at) as (λ o. (elim o as (λ o. Option Place) [ None ↦ None | Some i ↦ silent p i ]) ≡ Some q → q.func ≡ p.func) [
      | None ↦ λ e. cc
      | Some x ↦ λ e. silent-func p q x e
    ] e

pub func-stays : (f : ℕ) (code : List Instr) (p : Place) → (go_on f code p).func ≡ p.func
func-stays zero code p = refl
func-stays (suc f) code p =
    elim (silent_at code p) as (λ o. silent_at code p ≡ o → (go_on (suc f) code p).func ≡ p.func) [
      | None ↦ λ e. ap (λ (q : Place). q.func) (stops (suc f) code p e)
      | Some q ↦ λ e. ap (λ (r : Place). r.func) (steps f code p q e) ∙ (func-stays f code q ∙ step-func code p q e)
    ] refl
