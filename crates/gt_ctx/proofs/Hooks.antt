-- Starting the hooks of a list in ascending order.
use Rattle.std.proofs.Common.{◌≡◌, ℕ, zero, suc, ◌+◌, ◌<◌, ◌≤◌, eqb, Bool, true, false, cond, ◌&&◌, ◌||◌, List, [], ◌∷◌, ◌++◌, length, get_or, set, take, map, refl, sym, ◌∙◌, ap, subst, inl, inr, zero-add, add-one, arith}
use Rattle.std.specs.List.{filter, sum_by, range_with_len}
use Rattle.std.specs.List.Sorted.{IsNonDecreasing}
use Rattle.std.proofs.lemmas.Bool.{cases_eq, cases_Bool, or_left, or_right, and_from, and_parts, and_left, and_right, true≢false, eqb-true, eq-eqb, ne_eqb, false_from_ne_true}
use Rattle.std.proofs.lemmas.Grind.{get_or-set_at}
use Rattle.std.proofs.lemmas.List.{get_or-set_other, append-nil, take_more, get_or-take, get_or_default, length-take-le}
use Rattle.std.proofs.lemmas.List.Folds.{list_any_at, Any-from_list_any}
use Rattle.std.proofs.lemmas.List.Sums.{sum_by-set, length-filter, count_by-le-length}
use Rattle.std.proofs.lemmas.List.FromFn.{fill_by_all, filter_of_map_range_with_len_more, length-range_with_len, get_or-range_with_len}
use Rattle.gt_model.specs.declared.context.HookState.{HookState}
use Rattle.gt_ctx.specs.Calls.{cut_hook}
use Rattle.gt_ctx.specs.Contents.{hook_at}
use Rattle.gt_rules.specs.Contexts.{is_waiting_hook}
use Rattle.gt_ctx.specs.Links.{has}
use Rattle.gt_ctx.specs.Kept.{unstarted}
use Rattle.gt_ctx.proofs.Walks.{has_append}

-- the numbers below n
range_of_places : (n : ℕ) → range_with_len 0 n ≡ map (λ k. k) (range_with_len 0 n)
range_of_places n =
    fill_by_all (λ k. k) (range_with_len 0 n) n 0 (length-range_with_len 0 n) (λ k l. get_or-range_with_len 0 n k 0 l ∙ zero-add k)

filter_more : (p : ℕ → Bool) (n : ℕ) (b : Bool) → p n ≡ b → filter p (range_with_len 0 (n + 1)) ≡ filter p (range_with_len 0 n) ++ cond b (n ∷ []) []
filter_more p n b e =
    ap (filter p) (range_of_places (n + 1))
    ∙ filter_of_map_range_with_len_more p (λ k. k) 0 n n (zero-add n)
    ∙ ap (λ ks. filter p ks ++ cond (p n) (n ∷ []) []) (sym (range_of_places n))
    ∙ ap (λ v. filter p (range_with_len 0 n) ++ cond v (n ∷ []) []) e

pub filter_few : (p : ℕ → Bool) (n : ℕ) → length (filter p (range_with_len 0 n)) ≤ n
filter_few p n =
    let size = length-filter p (range_with_len 0 n) in
    let few = count_by-le-length p (range_with_len 0 n) in
    let all = length-range_with_len 0 n in
    omega arith

-- tests that agree below n
pub filter_same : (p q : ℕ → Bool) (n : ℕ) → ((k : ℕ) → k < n → p k ≡ q k) → filter p (range_with_len 0 n) ≡ filter q (range_with_len 0 n)
filter_same p q zero h = refl
filter_same p q (suc n) h =
    let same = filter_same p q n (λ k l. h k (omega arith)) in
    subst (λ m. filter p (range_with_len 0 m) ≡ filter q (range_with_len 0 m)) (add-one n)
    (filter_more p n (q n) (h n (omega arith)) ∙ ap (λ ks. ks ++ cond (q n) (n ∷ []) []) same ∙ sym (filter_more q n (q n) refl))

-- nothing passes
filter_none : (p : ℕ → Bool) (n : ℕ) → ((k : ℕ) → p k ≡ false) → filter p (range_with_len 0 n) ≡ []
filter_none p zero h = refl
filter_none p (suc n) h =
    subst (λ m. filter p (range_with_len 0 m) ≡ []) (add-one n)
    (filter_more p n false (h n) ∙ append-nil (filter p (range_with_len 0 n)) ∙ filter_none p n h)

-- a test that one number more passes, above all that passed
filter_grows : (p q : ℕ → Bool) (s n : ℕ) → s < n → ((k : ℕ) → (k ≡ s → ⊥) → q k ≡ p k) → q s ≡ true → p s ≡ false → ((k : ℕ) → s < k → p k ≡ false) → filter q (range_with_len 0 n) ≡ filter p (range_with_len 0 n) ++ s ∷ []
filter_grows p q s zero l same qs ps above = absurd (omega arith)
filter_grows p q s (suc n) l same qs ps above =
    subst (λ m. filter q (range_with_len 0 m) ≡ filter p (range_with_len 0 m) ++ s ∷ []) (add-one n)
    (elim (cases_eq n s) [
      | inl e ↦
          let no : p n ≡ false = ap p e ∙ ps in
          filter_more q n true (ap q e ∙ qs)
          ∙ ap (λ k. filter q (range_with_len 0 n) ++ k ∷ []) e
          ∙ ap (λ ks. ks ++ s ∷ []) (filter_same q p n (λ k m. same k (λ f. absurd (omega arith))) ∙ sym (append-nil (filter p (range_with_len 0 n))) ∙ sym (filter_more p n false no))
      | inr d ↦
          let no : p n ≡ false = above n (omega arith) in
          filter_more q n false (same n d ∙ no)
          ∙ append-nil (filter q (range_with_len 0 n))
          ∙ filter_grows p q s n (omega arith) same qs ps above
          ∙ ap (λ ks. ks ++ s ∷ []) (sym (append-nil (filter p (range_with_len 0 n))) ∙ sym (filter_more p n false no))
    ])

unstarted_if_waiting : (h : HookState) → is_waiting_hook h ≡ true → unstarted h ≡ 1
unstarted_if_waiting HookState.Unregistered e = absurd (true≢false (sym e))
unstarted_if_waiting HookState.Waiting e = refl
unstarted_if_waiting HookState.Started e = absurd (true≢false (sym e))
unstarted_if_waiting HookState.Stopped e = absurd (true≢false (sym e))

-- a hook that starts takes the room that it had
pub room_started : (hooks : List HookState) (s len cap : ℕ) → s < length hooks → is_waiting_hook (hook_at hooks s) ≡ true → len + sum_by unstarted hooks ≤ cap → (len < cap) × (len + 1 + sum_by unstarted (set hooks s HookState.Started) ≤ cap)
room_started hooks s len cap l waits room =
    let change = sum_by-set unstarted hooks s HookState.Started HookState.Unregistered l in
    let one = unstarted_if_waiting (hook_at hooks s) waits in
    (omega arith, omega arith)

or_none : (b c : Bool) → c ≡ false → (b || (c || false)) ≡ b
or_none true c e = refl
or_none false c e = ap (λ d. d || false) e

-- the first i of these hooks have started where they waited
abbrev pub starts_among : List HookState → List ℕ → ℕ → ℕ → Bool
starts_among old found i k = is_waiting_hook (hook_at old k) && has (take i found) k

abbrev pub HaveStarted : List HookState → List HookState → List ℕ → ℕ → Type 0
HaveStarted old hooks found i =
    (k : ℕ) → hook_at hooks k ≡ cut_hook (starts_among old found i k) (hook_at old k)

abbrev pub started_among : List HookState → List ℕ → ℕ → List ℕ
started_among old found i = filter (starts_among old found i) (range_with_len 0 (length old))

pub none_started : (old : List HookState) (found : List ℕ) → HaveStarted old old found 0
none_started old found k = ap (λ b. cut_hook b (hook_at old k)) (sym (and_right (is_waiting_hook (hook_at old k)) false refl))

pub none_among : (old : List HookState) (found : List ℕ) → started_among old found 0 ≡ []
none_among old found = filter_none (starts_among old found 0) (length old) (λ k. and_right (is_waiting_hook (hook_at old k)) false refl)

module _ (old hooks : List HookState) (found : List ℕ) (i : ℕ) (l : i < length found) (ordered : IsNonDecreasing found) (done : HaveStarted old hooks found i) where
  abbrev s : ℕ
  s = get_or found i 0

  one_more : (k : ℕ) → has (take (i + 1) found) k ≡ (has (take i found) k || (eqb s k || false))
  one_more k = ap (λ ks. has ks k) (take_more found i 0 l) ∙ has_append (take i found) (s ∷ []) k

  -- those before are not greater
  not_greater : (k : ℕ) → has (take i found) k ≡ true → k ≤ s
  not_greater k h =
      let a = Any-from_list_any (λ z. eqb z k) (take i found) h in
      let size = length-take-le i found (omega arith) in
      let j = a.0 in
      let jl : j < i = omega (arith, a.2) in
      let here : get_or found j 0 ≡ k = get_or_default found j 0 a.1 (omega arith) ∙ sym (get_or-take i found j a.1 jl) ∙ a.3 ∙ eqb-true a.1 k a.4 in
      let up = ordered j i 0 (omega arith) l in
      omega arith

  above : (k : ℕ) → s < k → starts_among old found i k ≡ false
  above k m =
      and_right (is_waiting_hook (hook_at old k)) (has (take i found) k) (false_from_ne_true (has (take i found) k) (λ h. let few = not_greater k h in absurd (omega arith)))

  others : (k : ℕ) → (k ≡ s → ⊥) → starts_among old found (i + 1) k ≡ starts_among old found i k
  others k n =
      ap (λ b. is_waiting_hook (hook_at old k) && b) (one_more k ∙ or_none (has (take i found) k) (eqb s k) (ne_eqb s k (λ e. n (sym e))))

  module _ (waits : is_waiting_hook (hook_at hooks s) ≡ true) where
    not_before : starts_among old found i s ≡ false
    not_before =
        elim (cases_Bool (starts_among old found i s)) [
          | inl e ↦ absurd (true≢false (sym waits ∙ ap is_waiting_hook (done s ∙ ap (λ b. cut_hook b (hook_at old s)) e)))
          | inr e ↦ e
        ]

    waited : is_waiting_hook (hook_at old s) ≡ true
    waited = ap is_waiting_hook (sym (done s ∙ ap (λ b. cut_hook b (hook_at old s)) not_before)) ∙ waits

    starts_here : starts_among old found (i + 1) s ≡ true
    starts_here =
        and_from (is_waiting_hook (hook_at old s)) (has (take (i + 1) found) s) waited
        (one_more s ∙ or_right (has (take i found) s) (eqb s s || false) (or_left (eqb s s) false (eq-eqb s s refl)))

    pub done_more : s < length hooks → HaveStarted old (set hooks s HookState.Started) found (i + 1)
    done_more within k =
        elim (cases_eq k s) [
          | inl e ↦ get_or-set_at hooks s k HookState.Started HookState.Unregistered e within ∙ ap (λ b. cut_hook b (hook_at old k)) (sym (ap (starts_among old found (i + 1)) e ∙ starts_here))
          | inr n ↦ get_or-set_other hooks s k HookState.Started HookState.Unregistered n ∙ done k ∙ ap (λ b. cut_hook b (hook_at old k)) (sym (others k n))
        ]

    pub started_more : s < length old → started_among old found (i + 1) ≡ started_among old found i ++ s ∷ []
    started_more within =
        filter_grows (starts_among old found i) (starts_among old found (i + 1)) s (length old) within others starts_here not_before above

  module _ (stays : is_waiting_hook (hook_at hooks s) ≡ false) where
    same_here : starts_among old found (i + 1) s ≡ starts_among old found i s
    same_here =
        elim (cases_Bool (starts_among old found i s)) [
          | inl e ↦
              let parts = and_parts (is_waiting_hook (hook_at old s)) (has (take i found) s) e in
              and_from (is_waiting_hook (hook_at old s)) (has (take (i + 1) found) s) parts.0 (one_more s ∙ or_left (has (take i found) s) (eqb s s || false) parts.1) ∙ sym e
          | inr e ↦
              and_left (is_waiting_hook (hook_at old s)) (has (take (i + 1) found) s) (ap is_waiting_hook (sym (done s ∙ ap (λ b. cut_hook b (hook_at old s)) e)) ∙ stays) ∙ sym e
        ]

    all_same : (k : ℕ) → starts_among old found (i + 1) k ≡ starts_among old found i k
    all_same k =
        elim (cases_eq k s) [
          | inl e ↦ ap (starts_among old found (i + 1)) e ∙ same_here ∙ ap (starts_among old found i) (sym e)
          | inr n ↦ others k n
        ]

    pub done_passed : HaveStarted old hooks found (i + 1)
    done_passed k = done k ∙ ap (λ b. cut_hook b (hook_at old k)) (sym (all_same k))

    pub started_passed : started_among old found (i + 1) ≡ started_among old found i
    started_passed = filter_same (starts_among old found (i + 1)) (starts_among old found i) (length old) (λ k _. all_same k)

pub has_at : (found : List ℕ) (i : ℕ) → i < length found → has found (get_or found i 0) ≡ true
has_at found i l = list_any_at (λ z. eqb z (get_or found i 0)) found i 0 l (eq-eqb (get_or found i 0) (get_or found i 0) refl)
