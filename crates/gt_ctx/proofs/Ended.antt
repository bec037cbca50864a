-- The list of those that a walk has ended.
use Rattle.std.proofs.Common.{◌≡◌, ◌≢◌, ℕ, ◌+◌, ◌<◌, ◌≤◌, eqb, not, ◌&&◌, ◌||◌, Bool, true, false, cond, Option, None, Some, List, [], ◌∷◌, ◌++◌, length, get_or, set, slice_index, is_some, is_none, refl, sym, ◌∙◌, ap, inl, inr, length-append, arith}
use Rattle.std.specs.List.{count_by}
use Rattle.std.specs.Option.{option_map, option_and_then, option_or}
use Rattle.std.proofs.lemmas.Bool.{cases_eq, cases_lt, or_right, and_parts, true≢false, ne_eqb, eq-eqb}
use Rattle.std.proofs.lemmas.Grind.{get_or-set_at}
use Rattle.std.proofs.lemmas.List.{get_or-set_other, length-set, get_or_append_left, get_or_at}
use Rattle.std.proofs.lemmas.List.Sums.{sum_by-set, count_by-le-length, get_or-le-sum_by}
use Rattle.gt_model.specs.declared.context.Context.{Context}
use Rattle.gt_model.specs.declared.context.End.{End}
use Rattle.gt_ctx.specs.Contents.{context_at, end_at, AreEnded}
use Rattle.gt_ctx.specs.Calls.{cut_context, ended_kept}
use Rattle.gt_ctx.specs.Links.{has}
use Rattle.gt_ctx.specs.Walk.{is_live, is_newly}
use Rattle.gt_ctx.proofs.Walks.{has_append, is_new, not_newly, live_within, ended_not_live}
use Rattle.gt_ctx.proofs.Hooks.{has_at}

-- what has ended so far is listed, each once, and there is room for what may still end
pub record AreListed (old now : List (Option Context)) (ended : List ℕ) : Type 0 where
  pub each : (y : ℕ) → has ended y ≡ is_newly old now y
  pub once : (i j : ℕ) → i < j → j < length ended → slice_index ended i ≢ slice_index ended j
  pub room : length ended + count_by is_live now ≤ length now

nothing_newly : (b : Bool) → false ≡ (b && not b)
nothing_newly true = refl
nothing_newly false = refl

pub none_listed : (old : List (Option Context)) → AreListed old old []
none_listed old =
    let few = count_by-le-length is_live old in
    record {
      each = λ y. nothing_newly (is_live (context_at old y));
      once = λ i j l m. absurd (omega arith);
      room = omega arith;
    }

or_empty : (b : Bool) → (b || false) ≡ b
or_empty true = refl
or_empty false = refl

abbrev live_count : Option Context → ℕ
live_count kept = cond (is_live kept) 1 0

one_live : (kept : Option Context) → is_live kept ≡ true → live_count kept ≡ 1
one_live kept live = ap (λ b. let n : ℕ = cond b 1 0 in n) live

none_live : (kept : Option Context) → is_live kept ≡ false → live_count kept ≡ 0
none_live kept dead = ap (λ b. let n : ℕ = cond b 1 0 in n) dead

-- one without an error is counted
pub count_one : (now : List (Option Context)) (y : ℕ) → is_live (context_at now y) ≡ true → 1 ≤ count_by is_live now
count_one now y live =
    let one = get_or-le-sum_by live_count now y None (live_within now y live) in
    let is = one_live (context_at now y) live in
    omega arith

-- and is as it was
pub live_kept : (old now : List (Option Context)) (end : End) (y : ℕ) → context_at now y ≡ cut_context (is_newly old now y) end (context_at old y) → is_live (context_at now y) ≡ true → context_at now y ≡ context_at old y
live_kept old now end y kept live = kept ∙ ap (λ b. cut_context b end (context_at old y)) (not_newly (context_at old y) (context_at now y) live)

module _ (old now : List (Option Context)) (end : End) (ended : List ℕ) (y : ℕ) (a : AreListed old now ended) (kept : context_at now y ≡ context_at old y) (live : is_live (context_at now y) ≡ true) where
  abbrev v : Option Context
  v = option_map (ended_kept end) (context_at now y)

  here : context_at (set now y v) y ≡ v
  here = get_or-set_at now y y v None refl (live_within now y live)

  dead : is_live v ≡ false
  dead = ended_not_live end (context_at now y)

  newly_here : is_newly old (set now y v) y ≡ true
  newly_here = is_new (context_at old y) (context_at (set now y v) y) (ap is_live (sym kept) ∙ live) (ap is_live here ∙ dead)

  same_newly : (k : ℕ) → (k ≡ y → ⊥) → is_newly old (set now y v) k ≡ is_newly old now k
  same_newly k n = ap (λ o. is_live (context_at old k) && not (is_live o)) (get_or-set_other now y k v None n)

  -- what is listed has ended, and y has not
  not_listed : (k : ℕ) → has ended k ≡ true → k ≡ y → ⊥
  not_listed k is e =
      let newly = sym (a.each k) ∙ is in
      let over = (and_parts (is_live (context_at old k)) (not (is_live (context_at now k))) newly).1 in
      true≢false (sym over ∙ ap not (ap (λ j. is_live (context_at now j)) e ∙ live))

  pub listed_more : AreListed old (set now y v) (ended ++ y ∷ [])
  listed_more =
      let change = sum_by-set live_count now y v None (live_within now y live) in
      let lost = one_live (context_at now y) live in
      let none = none_live v dead in
      let size = length-set now y v in
      let more = length-append ended (y ∷ []) in
      let room = a.room in
      record {
        each = λ k. elim (cases_eq k y) [
          | inl e ↦
              has_append ended (y ∷ []) k ∙ or_right (has ended k) (eqb y k || false) (ap (λ b. b || false) (eq-eqb y k (sym e)))
              ∙ sym (ap (is_newly old (set now y v)) e ∙ newly_here)
          | inr n ↦
              has_append ended (y ∷ []) k ∙ ap (λ b. has ended k || (b || false)) (ne_eqb y k (λ e. n (sym e))) ∙ or_empty (has ended k)
              ∙ a.each k ∙ sym (same_newly k n)
        ];
        once = λ i j l m. elim (cases_lt j (length ended)) [
          | inl k ↦ λ e. a.once i j l k (sym (get_or_append_left ended (y ∷ []) 0 i (omega arith)) ∙ e ∙ get_or_append_left ended (y ∷ []) 0 j k)
          | inr k ↦ λ e.
              let last : get_or (ended ++ y ∷ []) j 0 ≡ y = get_or_at ended y [] 0 j (omega arith) in
              not_listed (get_or ended i 0) (has_at ended i (omega arith)) (sym (get_or_append_left ended (y ∷ []) 0 i (omega arith)) ∙ e ∙ last)
        ];
        room = omega arith;
      }

-- ---- in the words of the contract

newly_ended : (b : Bool) (end : End) (kept : Option Context) → (is_live kept && not (is_live (cut_context b end kept))) ≡ (not (is_some (option_and_then (λ (k : Context). k.end) kept)) && is_some (option_and_then (λ (k : Context). k.end) (cut_context b end kept)))
newly_ended false end None = refl
newly_ended false end (Some k) = by_end k.end
  where
    by_end : (o : Option End) → (is_none o && not (is_none o)) ≡ (not (is_some o) && is_some o)
    by_end None = refl
    by_end (Some e) = refl
newly_ended true end None = refl
newly_ended true end (Some k) = by_end k.end
  where
    by_end : (o : Option End) → (is_none o && not (is_none (option_or o (Some end)))) ≡ (not (is_some o) && is_some (option_or o (Some end)))
    by_end None = refl
    by_end (Some e) = refl

pub listed_ended : (old now : List (Option Context)) (end : End) (ended : List ℕ) → ((y : ℕ) → context_at now y ≡ cut_context (is_newly old now y) end (context_at old y)) → AreListed old now ended → AreEnded old now ended
listed_ended old now end ended kept a =
    let room = a.room in
    record {
      each = λ y. (
          a.each y
          ∙ ap (λ o. is_live (context_at old y) && not (is_live o)) (kept y)
          ∙ newly_ended (is_newly old now y) end (context_at old y)
          ∙ ap (λ o. not (is_some (end_at old y)) && is_some (option_and_then (λ (k : Context). k.end) o)) (sym (kept y))
          );
      once = a.once;
      few = omega arith;
    }
