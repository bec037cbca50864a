-- A path from node to node along f: what an exchange leaves of it, and what a walk finds.
use Rattle.std.proofs.Common.{◌≡◌, ◌≢◌, ℕ, zero, suc, ◌<◌, ◌≤◌, cond, eqb, Some, List, [], ◌∷◌, ◌++◌, length, refl, sym, ◌∙◌, ap, inl, inr, arith}
use Rattle.std.specs.List.{Contains, slice_get}
use Rattle.std.proofs.lemmas.Bool.{cases_eq, eq-eqb, ne_eqb, lt-ltb, le-ltb}
use Rattle.gt_queue.specs.Contents.{without}
use Rattle.gt_queue.specs.Links.{walk, Leads}
use Rattle.gt_queue.proofs.Members.{Contains-here, Contains-there, Contains_cases, without-same, without-other}

-- the node itself, or another one in place of m
abbrev pub passing : ℕ → ℕ → ℕ → ℕ
passing m by node = cond (eqb node m) by node

pub passing-same : (m by node : ℕ) → node ≡ m → passing m by node ≡ by
passing-same m by node e = rw (eq-eqb node m e) refl

pub passing-other : (m by node : ℕ) → node ≢ m → passing m by node ≡ node
passing-other m by node n = rw (ne_eqb node m n) refl

-- f' goes where f goes, but passes m by for where f goes from there
pub Leads-without : (f f' : ℕ → ℕ) (m : ℕ) → f m ≢ m → (xs : List ℕ) (node end : ℕ) → end ≢ m → ((k : ℕ) → Contains xs k → k ≢ m → f' k ≡ passing m (f m) (f k)) → Leads f node xs end → Leads f' (passing m (f m) node) (without xs m) end
unfolding Leads
Leads-without f f' m moves [] node end apart goes path =
    passing-other m (f m) node (λ e. apart (sym path ∙ e)) ∙ path
Leads-without f f' m moves (x ∷ xs) node end apart goes path =
    let later : (k : ℕ) → Contains xs k → k ≢ m → f' k ≡ passing m (f m) (f k) = λ k h. goes k (Contains-there x k xs h) in
    elim (cases_eq x m) [
      | inl e ↦
          let rest : Leads f (f m) xs end = rw e at path.1 in
          let so = Leads-without f f' m moves xs (f m) end apart later rest in
          rw (without-same m x xs e, passing-same m (f m) node (path.0 ∙ e))
          (rw (passing-other m (f m) (f m) moves) at so)
      | inr n ↦
          rw (without-other m x xs n, passing-other m (f m) node (λ e. n (sym path.0 ∙ e)))
          (path.0, rw (goes x (Contains-here x xs) n) (Leads-without f f' m moves xs (f x) end apart later path.1))
    ]

-- a node other than m and `last`, from which f' goes where f goes, but to m in place of `last`
pub record Goes (f f' : ℕ → ℕ) (m last k : ℕ) : Type 0 where
  pub not_m : k ≢ m
  pub not_last : k ≢ last
  pub to : f' k ≡ passing last m (f k)

-- where f' also goes from m to `last`, a path to `last` has m as its last node
pub Leads-push : (f f' : ℕ → ℕ) (m last : ℕ) → f' m ≡ last → (xs : List ℕ) (node : ℕ) → ((x : ℕ) → Contains xs x → Goes f f' m last x) → Leads f node xs last → Leads f' (passing last m node) (xs ++ m ∷ []) last
unfolding Leads
Leads-push f f' m last ends [] node goes path = (passing-same last m node path, ends)
Leads-push f f' m last ends (x ∷ xs) node goes path =
    let here = goes x (Contains-here x xs) in (
      passing-other last m node (λ e. here.not_last (sym path.0 ∙ e)) ∙ path.0,
      rw here.to
          (Leads-push f f' m last ends xs (f x) (λ y h. goes y (Contains-there x y xs h)) path.1),
    )

-- and a path to another end stays
pub Leads-other : (f f' : ℕ → ℕ) (m last : ℕ) → (xs : List ℕ) (node end : ℕ) → end ≢ last → ((x : ℕ) → Contains xs x → Goes f f' m last x) → Leads f node xs end → Leads f' (passing last m node) xs end
unfolding Leads
Leads-other f f' m last [] node end apart goes path =
    passing-other last m node (λ e. apart (sym path ∙ e)) ∙ path
Leads-other f f' m last (x ∷ xs) node end apart goes path =
    let here = goes x (Contains-here x xs) in (
      passing-other last m node (λ e. here.not_last (sym path.0 ∙ e)) ∙ path.0,
      rw here.to
          (Leads-other f f' m last xs (f x) end apart (λ y h. goes y (Contains-there x y xs h)) path.1),
    )

-- a node that is alone is on no path that begins elsewhere
pub Leads-not_alone : (f : ℕ → ℕ) (m n : ℕ) → ((k : ℕ) → k < n → f k < n) → ((i j : ℕ) → i < n → j < n → f i ≡ f j → i ≡ j) → m < n → f m ≡ m → (xs : List ℕ) (from end : ℕ) → from < n → from ≢ m → Leads f (f from) xs end → Contains xs m → ⊥
unfolding Leads
Leads-not_alone f m n within one ml itself [] from end fl apart path h = omega (arith, h.1)
Leads-not_alone f m n within one ml itself (x ∷ xs) from end fl apart path h =
    let other : x ≢ m = λ e. apart (one from m fl ml (path.0 ∙ e ∙ sym itself)) in
    elim (Contains_cases x m xs h) [
      | inl e ↦ other e
      | inr g ↦ Leads-not_alone f m n within one ml itself xs x end (rw path.0 at (within from fl)) other path.1 g
    ]

-- a walk finds the path
pub walk-leads : (f : ℕ → ℕ) (members : ℕ) (xs : List ℕ) (node end fuel : ℕ) → members ≤ end → ((x : ℕ) → Contains xs x → x < members) → length xs ≤ fuel → Leads f node xs end → walk f members fuel node ≡ xs
unfolding Leads walk
walk-leads f members [] node end zero above below enough path = refl
walk-leads f members [] node end (suc fuel) above below enough path =
    rw (le-ltb node members (omega arith)) refl
walk-leads f members (x ∷ xs) node end zero above below enough path = absurd (omega arith)
walk-leads f members (x ∷ xs) node end (suc fuel) above below enough path =
    let so = walk-leads f members xs (f x) end fuel above (λ y h. below y (Contains-there x y xs h)) (omega arith) path.1 in
    rw (path.0, lt-ltb x members (below x (Contains-here x xs))) (ap (λ ys. x ∷ ys) so)

-- where a path to a node that is no member's begins
pub Leads-first : (f : ℕ → ℕ) (members : ℕ) (xs : List ℕ) (node end : ℕ) → members ≤ end → node < members → Leads f node xs end → slice_get xs 0 ≡ Some node
unfolding Leads
Leads-first f members [] node end above low path = absurd (omega arith)
Leads-first f members (x ∷ xs) node end above low path = ap Some (sym path.0)

-- a path of members that begins at none is empty
pub Leads-nothing : (f : ℕ → ℕ) (members : ℕ) (xs : List ℕ) (node end : ℕ) → ((x : ℕ) → Contains xs x → x < members) → members ≤ node → Leads f node xs end → xs ≡ []
unfolding Leads
Leads-nothing f members [] node end below high path = refl
Leads-nothing f members (x ∷ xs) node end below high path =
    let low = below x (Contains-here x xs) in
    absurd (omega (arith, path.0))

-- what stands first at a node is a member, or no member
pub record Begins (members : ℕ) (xs : List ℕ) (node : ℕ) : Type 0 where
  pub member : node < members → slice_get xs 0 ≡ Some node
  pub nobody : members ≤ node → xs ≡ []
