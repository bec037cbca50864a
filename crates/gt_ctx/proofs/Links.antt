-- What links spell, and how a list grows at its front.
use Rattle.std.proofs.Common.{◌≡◌, ℕ, zero, suc, ◌+◌, ◌<◌, ◌≤◌, ◌++◌, eqb, append_assoc, false, List, [], ◌∷◌, length, set, map, replicate, refl, sym, ◌∙◌, ap, subst, inl, inr, Option, None, Some, arith}
use Rattle.std.proofs.lemmas.Bool.{cases_eq, or_parts, eqb-false, cases_lt}
use Rattle.std.proofs.lemmas.Grind.{get_or-set_at}
use Rattle.std.proofs.lemmas.List.{get_or-set_other, append-nil, get_or-map, length-map, length-set, ext_get_or, get_or_past, get_or-replicate, length-replicate}
use Rattle.gt_ctx.specs.Links.{items_of, has, link_at, chain, IsChain, spelled, AreSpelled}

chain-none : (nexts : List (Option ℕ)) (n : ℕ) → chain nexts n None ≡ []
chain-none nexts zero = refl
chain-none nexts (suc n) = refl

-- with room for all of them, the items that the links spell
pub chain_is : (nexts : List (Option ℕ)) (first : Option ℕ) (items : List ℕ) (n : ℕ) → IsChain nexts first items → length items ≤ n → chain nexts n first ≡ items
chain_is nexts first [] n h l = ap (chain nexts n) h ∙ chain-none nexts n
chain_is nexts first (item ∷ items) zero h l = absurd (omega arith)
chain_is nexts first (item ∷ items) (suc n) h l =
    ap (chain nexts (suc n)) h.0
    ∙ ap (λ is. item ∷ is) (chain_is nexts (link_at nexts item) items n h.1.1 (omega arith))

-- a link of an item that is not among them changes nothing
pub chain_kept : (nexts : List (Option ℕ)) (i : ℕ) (v first : Option ℕ) (items : List ℕ) → has items i ≡ false → IsChain nexts first items → IsChain (set nexts i v) first items
chain_kept nexts i v first [] out h = h
chain_kept nexts i v first (item ∷ items) out h =
    let parts = or_parts (eqb item i) (has items i) out in
    let size = length-set nexts i v in
    (h.0, (omega arith, subst (λ o. IsChain (set nexts i v) o items) (sym (get_or-set_other nexts i item v None (eqb-false item i parts.0))) (chain_kept nexts i v (link_at nexts item) items parts.1 h.1.1)))

pub length-chain-le : (nexts : List (Option ℕ)) (n : ℕ) (first : Option ℕ) → length (chain nexts n first) ≤ n
length-chain-le nexts zero first = omega arith
length-chain-le nexts (suc n) None = omega arith
length-chain-le nexts (suc n) (Some item) = let h = length-chain-le nexts n (link_at nexts item) in omega arith

module _ (firsts nexts : List (Option ℕ)) (h : AreSpelled firsts nexts) where
  pub spelled_at : (k : ℕ) → items_of (spelled firsts nexts) k ≡ chain nexts (length nexts) (link_at firsts k)
  spelled_at k =
      elim (cases_lt k (length firsts)) [
        | inl l ↦ get_or-map (chain nexts (length nexts)) firsts k None [] l
        | inr m ↦ get_or_past (spelled firsts nexts) k [] (omega (arith, length-map firsts (chain nexts (length nexts)))) ∙ sym (chain-none nexts (length nexts)) ∙ ap (chain nexts (length nexts)) (sym (get_or_past firsts k None m))
      ]

  pub chain_at : (k : ℕ) → IsChain nexts (link_at firsts k) (items_of (spelled firsts nexts) k)
  chain_at k = subst (IsChain nexts (link_at firsts k)) (sym (spelled_at k)) (h.ends k)

  module _ (list item : ℕ) (l : list < length firsts) (i : item < length nexts) (alone : (k : ℕ) → has (items_of (spelled firsts nexts) k) item ≡ false) (short : length (items_of (spelled firsts nexts) list) < length nexts) where
    abbrev firsts' : List (Option ℕ)
    firsts' = set firsts list (Some item)

    abbrev nexts' : List (Option ℕ)
    nexts' = set nexts item (link_at firsts list)

    abbrev lists' : List (List ℕ)
    lists' = set (spelled firsts nexts) list (item ∷ items_of (spelled firsts nexts) list)

    joined_chain : (k : ℕ) → IsChain nexts' (link_at firsts' k) (items_of lists' k)
    joined_chain k =
        elim (cases_eq k list) [
          | inl e ↦
              let size = length-set nexts item (link_at firsts list) in
              let many = length-map firsts (chain nexts (length nexts)) in
              subst (λ o. IsChain nexts' o (items_of lists' k)) (sym (get_or-set_at firsts list k (Some item) None e l))
              (subst (λ is. IsChain nexts' (Some item) is) (sym (get_or-set_at (spelled firsts nexts) list k (item ∷ items_of (spelled firsts nexts) list) [] e (omega arith)))
              (refl, (omega arith, subst (λ o. IsChain nexts' o (items_of (spelled firsts nexts) list)) (sym (get_or-set_at nexts item item (link_at firsts list) None refl i)) (chain_kept nexts item (link_at firsts list) (link_at firsts list) _ (alone list) (chain_at list)))))
          | inr n ↦
              subst (λ o. IsChain nexts' o (items_of lists' k)) (sym (get_or-set_other firsts list k (Some item) None n))
              (subst (λ is. IsChain nexts' (link_at firsts k) is) (sym (get_or-set_other (spelled firsts nexts) list k (item ∷ items_of (spelled firsts nexts) list) [] n))
              (chain_kept nexts item (link_at firsts list) (link_at firsts k) _ (alone k) (chain_at k)))
        ]

    short_at : (k : ℕ) → length (items_of lists' k) ≤ length nexts'
    short_at k =
        let size = length-set nexts item (link_at firsts list) in
        let many = length-map firsts (chain nexts (length nexts)) in
        elim (cases_eq k list) [
          | inl e ↦ let here = ap length (get_or-set_at (spelled firsts nexts) list k (item ∷ items_of (spelled firsts nexts) list) [] e (omega arith)) in omega arith
          | inr n ↦ let here = ap length (get_or-set_other (spelled firsts nexts) list k (item ∷ items_of (spelled firsts nexts) list) [] n ∙ spelled_at k) in let few = length-chain-le nexts (length nexts) (link_at firsts k) in omega arith
        ]

    joined_at : (k : ℕ) → chain nexts' (length nexts') (link_at firsts' k) ≡ items_of lists' k
    joined_at k = chain_is nexts' (link_at firsts' k) (items_of lists' k) (length nexts') (joined_chain k) (short_at k)

    pub joined_spelled : AreSpelled firsts' nexts'
    joined_spelled = record {
      as_many = let a = length-set firsts list (Some item) in let b = length-set nexts item (link_at firsts list) in let c = h.as_many in omega arith;
      ends = λ k. subst (IsChain nexts' (link_at firsts' k)) (sym (joined_at k)) (joined_chain k);
    }

    pub joined_is : spelled firsts' nexts' ≡ lists'
    joined_is =
        let a = length-map firsts' (chain nexts' (length nexts')) in
        let b = length-set (spelled firsts nexts) list (item ∷ items_of (spelled firsts nexts) list) in
        let c = length-map firsts (chain nexts (length nexts)) in
        let d = length-set firsts list (Some item) in
        ext_get_or [] (spelled firsts' nexts') lists' (omega arith)
        (λ k m. get_or-map (chain nexts' (length nexts')) firsts' k None [] (omega arith) ∙ joined_at k)

pub map-replicate : {X Y : Type 0} (f : X → Y) (n : ℕ) (x : X) → map f (replicate n x) ≡ replicate n (f x)
map-replicate f zero x = refl
map-replicate f (suc n) x = ap (λ ys. f x ∷ ys) (map-replicate f n x)

-- without a link
abbrev unlinked : ℕ → List (Option ℕ)
unlinked n = replicate n None

-- no links spell empty lists
pub fresh_is : (n : ℕ) → spelled (unlinked n) (unlinked n) ≡ replicate n []
fresh_is n =
    map-replicate (chain (unlinked n) (length (unlinked n))) n None
    ∙ ap (replicate n) (chain-none (unlinked n) (length (unlinked n)))

none_at : (n k : ℕ) → link_at (unlinked n) k ≡ None
none_at n k =
    elim (cases_lt k n) [
      | inl l ↦ get_or-replicate n k None None l
      | inr m ↦ let size = length-replicate {A = Option ℕ} n None in get_or_past (unlinked n) k None (omega arith)
    ]

pub fresh_spelled : (n : ℕ) → AreSpelled (unlinked n) (unlinked n)
fresh_spelled n = record {
  as_many = refl;
  ends = λ k. subst (λ o. IsChain (unlinked n) o (chain (unlinked n) (length (unlinked n)) o)) (sym (none_at n k)) (subst (IsChain (unlinked n) None) (sym (chain-none (unlinked n) (length (unlinked n)))) refl);
}

pub fresh_lists : (n : ℕ) (firsts nexts : List (Option ℕ)) → firsts ≡ unlinked n → nexts ≡ unlinked n → spelled firsts nexts ≡ replicate n []
fresh_lists n firsts nexts f x =
    ap (λ ls. spelled ls nexts) f ∙ ap (spelled (unlinked n)) x ∙ fresh_is n

pub fresh_kept : (n : ℕ) (firsts nexts : List (Option ℕ)) → firsts ≡ unlinked n → nexts ≡ unlinked n → AreSpelled firsts nexts
fresh_kept n firsts nexts f x =
    subst (λ ls. AreSpelled ls nexts) (sym f) (subst (AreSpelled (unlinked n)) (sym x) (fresh_spelled n))

abbrev IsJoined : List (Option ℕ) → List (Option ℕ) → ℕ → ℕ → Option ℕ → List (List ℕ) → Type 0
IsJoined firsts nexts list item o lists =
    list < length lists → item < length lists → ((k : ℕ) → has (items_of lists k) item ≡ false) → length (items_of lists list) < length lists
    → AreSpelled (set firsts list (Some item)) (set nexts item o) × (spelled (set firsts list (Some item)) (set nexts item o) ≡ set lists list (item ∷ items_of lists list))

-- the same under other names
pub joined : (firsts nexts : List (Option ℕ)) (list item : ℕ) (o : Option ℕ) (lists : List (List ℕ)) → AreSpelled firsts nexts → o ≡ link_at firsts list → spelled firsts nexts ≡ lists → IsJoined firsts nexts list item o lists
joined firsts nexts list item o lists h e v =
    subst (IsJoined firsts nexts list item o) v (subst (λ p. IsJoined firsts nexts list item p (spelled firsts nexts)) (sym e) (λ l i alone short.
    let many = length-map firsts (chain nexts (length nexts)) in
    let size = h.as_many in
    (joined_spelled firsts nexts h list item (omega arith) (omega arith) alone (omega arith), joined_is firsts nexts h list item (omega arith) (omega arith) alone (omega arith))))

-- what a walk along the links has before it
pub record IsAhead (nexts : List (Option ℕ)) (next : Option ℕ) (done all : List ℕ) (len cap : ℕ) : Type 0 where
  pub rest : List ℕ
  pub spells : IsChain nexts next rest
  pub few : length rest ≤ length nexts
  pub splits : done ++ rest ≡ all
  pub room : len + length rest ≤ cap

ahead-more : (nexts : List (Option ℕ)) (item : ℕ) (done all rest : List ℕ) (len cap : ℕ) → IsChain nexts (Some item) rest → length rest ≤ length nexts → done ++ rest ≡ all → len + length rest ≤ cap → IsAhead nexts (link_at nexts item) (done ++ item ∷ []) all (len + 1) cap × ((item < length nexts) × ((len < cap) × (length (chain nexts (length nexts) (link_at nexts item)) < length (chain nexts (length nexts) (Some item)))))
ahead-more nexts item done all [] len cap h few e room = absurd (cc)
ahead-more nexts item done all (i ∷ is) len cap h few e room =
    let same : item ≡ i = cc in
    let more : IsChain nexts (link_at nexts item) is = subst (λ k. IsChain nexts (link_at nexts k) is) (sym same) h.1.1 in
    let here = ap length (chain_is nexts (Some item) (i ∷ is) (length nexts) h few) in
    let next = ap length (chain_is nexts (link_at nexts item) is (length nexts) more (omega arith)) in (
      record { rest = is; spells = more; few = omega arith; splits = append_assoc done (item ∷ []) is ∙ ap (λ k. done ++ k ∷ is) same ∙ e; room = omega arith },
      (subst (λ k. k < length nexts) (sym same) h.1.0, (omega arith, omega arith)),
    )

pub ahead_step : (nexts : List (Option ℕ)) (item : ℕ) (done all : List ℕ) (len cap : ℕ) → IsAhead nexts (Some item) done all len cap → IsAhead nexts (link_at nexts item) (done ++ item ∷ []) all (len + 1) cap × ((item < length nexts) × ((len < cap) × (length (chain nexts (length nexts) (link_at nexts item)) < length (chain nexts (length nexts) (Some item)))))
ahead_step nexts item done all len cap a = ahead-more nexts item done all a.rest len cap a.spells a.few a.splits a.room

ended : (nexts : List (Option ℕ)) (done all rest : List ℕ) → IsChain nexts None rest → done ++ rest ≡ all → done ≡ all
ended nexts done all [] h e = sym (append-nil done) ∙ e
ended nexts done all (i ∷ is) h e = absurd (cc)

pub ahead_ends : (nexts : List (Option ℕ)) (done all : List ℕ) (len cap : ℕ) → IsAhead nexts None done all len cap → done ≡ all
ahead_ends nexts done all len cap a = ended nexts done all a.rest a.spells a.splits

pub ahead_starts : (firsts nexts : List (Option ℕ)) (lists : List (List ℕ)) (list : ℕ) (done : List ℕ) (len cap : ℕ) → AreSpelled firsts nexts → spelled firsts nexts ≡ lists → len + length (items_of lists list) ≤ cap → IsAhead nexts (link_at firsts list) done (done ++ items_of lists list) len cap
ahead_starts firsts nexts lists list done len cap h v room =
    let is = spelled_at firsts nexts h list in
    let few = length-chain-le nexts (length nexts) (link_at firsts list) in
    let size = ap length is in
    record {
      rest = items_of lists list;
      spells = subst (λ ls. IsChain nexts (link_at firsts list) (items_of ls list)) v (chain_at firsts nexts h list);
      few = let same = ap (λ ls. length (items_of ls list)) v in omega arith;
      splits = refl;
      room = room;
    }
