-- Reading and writing the links of all nodes, of which those of the last members were not written yet.
use Rattle.std.proofs.Common.{◌≡◌, ℕ, zero, suc, ◌+◌, ◌-◌, ◌<◌, ◌≤◌, List, [], ◌∷◌, ◌++◌, length, length-append, get_or, set, refl, sym, ap, ◌∙◌, arith}
use Rattle.std.specs.List.{range_with_len}
use Rattle.std.proofs.Math.ListN.{get_or-append}
use Rattle.std.proofs.lemmas.List.{get_or-append_right, set-append_left, set-append_right, length-set}
use Rattle.std.proofs.lemmas.List.FromFn.{length-range_with_len, get_or-range_with_len}
use Rattle.gt_queue.specs.Nodes.{nodes_of}

-- what stands behind the links that were written
abbrev behind : ℕ → List ℕ → List ℕ → List ℕ
behind members low high = range_with_len (length low) (members - length low) ++ high

length-behind : (members : ℕ) (low high : List ℕ) → length (behind members low high) ≡ (members - length low) + length high
length-behind members low high =
    length-append (range_with_len (length low) (members - length low)) high ∙ ap (λ n. n + length high) (length-range_with_len (length low) (members - length low))

pub length-nodes : (members : ℕ) (low high : List ℕ) → length low ≤ members → length (nodes_of members low high) ≡ members + length high
unfolding nodes_of
length-nodes members low high few =
    let all : length (low ++ behind members low high) ≡ length low + length (behind members low high) = length-append low (behind members low high) in
    let rest : length (behind members low high) ≡ (members - length low) + length high = length-behind members low high in
    all ∙ omega arith

pub nodes-low : (members : ℕ) (low high : List ℕ) (i : ℕ) → i < length low → get_or (nodes_of members low high) i 0 ≡ get_or low i 0
unfolding nodes_of
nodes-low members low high i h = get_or-append low (behind members low high) 0 i h

pub nodes-own : (members : ℕ) (low high : List ℕ) (i : ℕ) → length low ≤ i → i < members → get_or (nodes_of members low high) i 0 ≡ i
unfolding nodes_of
nodes-own members low high i above below =
    let here : i - length low < members - length low = omega arith in
    let size : length (range_with_len (length low) (members - length low)) ≡ members - length low = length-range_with_len (length low) (members - length low) in
    let within : i - length low < length (range_with_len (length low) (members - length low)) = omega arith in
    let back : length low + (i - length low) ≡ i = omega arith in
    get_or-append_right low (behind members low high) (length low) i 0 refl above
    ∙ (get_or-append (range_with_len (length low) (members - length low)) high 0 (i - length low) within
    ∙ (get_or-range_with_len (length low) (members - length low) (i - length low) 0 here ∙ back))

pub nodes-high : (members : ℕ) (low high : List ℕ) (i : ℕ) → length low ≤ members → members ≤ i → get_or (nodes_of members low high) i 0 ≡ get_or high (i - members) 0
unfolding nodes_of
nodes-high members low high i few above =
    let place : (i - length low) - (members - length low) ≡ i - members = omega arith in
    get_or-append_right low (behind members low high) (length low) i 0 refl (omega arith)
    ∙ (get_or-append_right (range_with_len (length low) (members - length low)) high (members - length low) (i - length low) 0 (length-range_with_len (length low) (members - length low)) (omega arith)
    ∙ ap (λ k. get_or high k 0) place)

pub nodes-put : (members : ℕ) (low high : List ℕ) → length low < members → nodes_of members (low ++ length low ∷ []) high ≡ nodes_of members low high
unfolding nodes_of
nodes-put members low high few =
    let longer : length (low ++ length low ∷ []) ≡ length low + 1 = length-append low (length low ∷ []) in
    let left : members - length low ≡ suc (members - (length low + 1)) = omega arith in
    let first : range_with_len (length low) (members - length low) ≡ length low ∷ range_with_len (length low + 1) (members - (length low + 1)) = ap (range_with_len (length low)) left in
    ap (λ n. (low ++ length low ∷ []) ++ (range_with_len n (members - n) ++ high)) longer
    ∙ (assoc low (length low) (range_with_len (length low + 1) (members - (length low + 1)) ++ high)
    ∙ ap (λ xs. low ++ (xs ++ high)) (sym first))
  where
    assoc : (xs : List ℕ) (x : ℕ) (ys : List ℕ) → (xs ++ x ∷ []) ++ ys ≡ xs ++ (x ∷ ys)
    assoc [] x ys = refl
    assoc (y ∷ xs) x ys = ap (λ zs. y ∷ zs) (assoc xs x ys)

pub nodes-set_low : (members : ℕ) (low high : List ℕ) (i x : ℕ) → i < length low → nodes_of members (set low i x) high ≡ set (nodes_of members low high) i x
unfolding nodes_of
nodes-set_low members low high i x h =
    let same : length (set low i x) ≡ length low = length-set low i x in
    ap (λ n. set low i x ++ (range_with_len n (members - n) ++ high)) same ∙ sym (set-append_left low (behind members low high) i x h)

pub nodes-set_high : (members : ℕ) (low high : List ℕ) (i x : ℕ) → length low ≤ members → members ≤ i → nodes_of members low (set high (i - members) x) ≡ set (nodes_of members low high) i x
unfolding nodes_of
nodes-set_high members low high i x few above =
    let place : (i - length low) - (members - length low) ≡ i - members = omega arith in
    sym (set-append_right low (behind members low high) (length low) i x refl (omega arith)
    ∙ ap (λ ys. low ++ ys) (set-append_right (range_with_len (length low) (members - length low)) high (members - length low) (i - length low) x (length-range_with_len (length low) (members - length low)) (omega arith)
    ∙ ap (λ k. range_with_len (length low) (members - length low) ++ set high k x) place))

-- where nothing was written each node is its own
pub nodes-none : (members queues : ℕ) → nodes_of members [] (range_with_len members queues) ≡ range_with_len 0 (members + queues)
unfolding nodes_of
nodes-none members queues =
    let all : members - 0 ≡ members = omega arith in
    let at : members ≡ 0 + members = omega arith in
    ap (λ n. range_with_len 0 n ++ range_with_len members queues) all ∙ (ap (λ m. range_with_len 0 members ++ range_with_len m queues) at ∙ join 0 members queues)
  where
    join : (a n k : ℕ) → range_with_len a n ++ range_with_len (a + n) k ≡ range_with_len a (n + k)
    join a zero k =
        let at : a + 0 ≡ a = omega arith in
        let size : k ≡ 0 + k = omega arith in
        ap (λ m. range_with_len m k) at ∙ ap (range_with_len a) size
    join a (suc n) k =
        let at : a + suc n ≡ (a + 1) + n = omega arith in
        let size : suc (n + k) ≡ suc n + k = omega arith in
        ap (λ m. a ∷ (range_with_len (a + 1) n ++ range_with_len m k)) at ∙ (ap (λ xs. a ∷ xs) (join (a + 1) n k) ∙ ap (range_with_len a) size)
