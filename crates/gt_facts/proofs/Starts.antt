-- Who are started by an entry that may come next: each names a function, and an entry starts one at most, but for the hooks that it starts.
use Rattle.std.proofs.Common.{◌≡◌, ℕ, zero, suc, ◌+◌, ◌<◌, ◌≤◌, List, [], ◌∷◌, length, map, filter, refl, sym, ap, subst, ◌∙◌, arith, Option, None, Some, Bool, true, false, not, cond, slice_get, slice_index, slice_index_or, is_none, is_some, IsTrue, IsSomeAnd, count_by}
use Rattle.std.specs.List.{enumerate_from, range_with_len}
use Rattle.std.proofs.lemmas.Bool.{and_parts}
use Rattle.std.proofs.lemmas.List.Sums.{sum_by-cons}
use Rattle.gt_model.specs.declared.script.Script.{Script}
use Rattle.gt_model.specs.declared.script.Instr.{Instr}
use Rattle.gt_model.specs.declared.entry.Entry.{Entry}
use Rattle.gt_model.specs.declared.entry.Reason.{Reason}
use Rattle.gt_model.specs.declared.context.Context.{Context}
use Rattle.gt_model.specs.declared.context.HookState.{HookState}
use Rattle.gt_model.specs.Script.{is_func, is_hook, ctx_of}
use Rattle.gt_model.specs.Good.{IsGood}
use Rattle.gt_model.specs.Tables.{change}
use Rattle.gt_rules.specs.State.{State, clock, context_at, hook_at, has_ended, is_registered, is_started}
use Rattle.gt_rules.specs.Contexts.{starting, start_count, is_starting, is_waiting_hook, waits_on, cut_hook, cut_hooks, registered, unhooked}
use Rattle.gt_rules.specs.Panics.{when, unmade_parent}
use Rattle.gt_rules.specs.Ready.{is_due}
use Rattle.gt_rules.specs.declared.change.Start.{Start}
use Rattle.gt_rules.specs.Change.{change_of, by_end, by_hook}
use Rattle.gt_rules.specs.After.{with_hooked}
use Rattle.gt_rules.specs.Legal.{May, Does, Expires}
use Rattle.gt_facts.specs.Formed.{IsFormed, started_count}
use Rattle.gt_facts.proofs.Lookups.{names-Does}
use Rattle.gt_facts.proofs.Partners.{none-is}
use Rattle.gt_facts.proofs.Makers.{none-when, neither, calm-fault}

-- ---- who starts a goroutine names a function

abbrev pub Begins : Script → State → Start → Type 0
Begins script s (Start.ByGoroutine g f) = f < length script.funcs
Begins script s (Start.ByTimer t) = IsTrue (is_func script t)
Begins script s (Start.ByHook h) = IsTrue (is_hook script h)
Begins script s (Start.ByEnd x i) = IsTrue (is_hook script (slice_index (starting script s x) i))

abbrev pub AllBegin : Script → State → List Start → Type 0
AllBegin script s [] = Unit {0}
AllBegin script s (x ∷ xs) = Begins script s x × AllBegin script s xs

-- the hooks among these, the first of which has the number n, that an end of x starts
abbrev starting_in : Script → State → ℕ → ℕ → List HookState → List ℕ
starting_in script s x n hooks = map (λ (e : ℕ × HookState). e.0) (filter (is_starting script s x) (enumerate_from n hooks))

-- those among the first one and the others, where it is one or is not
abbrev starting_if : Script → State → ℕ → ℕ → HookState → List HookState → Bool → List ℕ
starting_if script s x n hook hooks b =
    let others : List (ℕ × HookState) = filter (is_starting script s x) (enumerate_from (n + 1) hooks) in
    map (λ (e : ℕ × HookState). e.0) (cond b ((n, hook) ∷ others) others)

-- what holds of each hook that starts
each-starting : (script : Script) (s : State) (x : ℕ) (P : ℕ → Type 0) (n : ℕ) (hooks : List HookState)
    → ((j : ℕ) (hook : HookState) → slice_get hooks j ≡ Some hook → is_starting script s x (n + j, hook) ≡ true → P (n + j))
    → (i : ℕ) → i < length (starting_in script s x n hooks) → P (slice_index (starting_in script s x n hooks) i)
each-starting script s x P n [] each i h = absurd (omega arith)
each-starting script s x P n (hook ∷ hooks) each i h =
    let later : (j : ℕ) (other : HookState) → slice_get hooks j ≡ Some other → is_starting script s x ((n + 1) + j, other) ≡ true → P ((n + 1) + j) =
    λ j other e starts. (let there : (n + 1) + j ≡ n + suc j = omega arith in
    subst P (sym there) (each (suc j) other e (subst (λ m. is_starting script s x (m, other) ≡ true) there starts))) in
    let here : n + 0 ≡ n = omega arith in
    elim (is_starting script s x (n, hook))
    as (λ b. is_starting script s x (n, hook) ≡ b → i < length (starting_if script s x n hook hooks b)
    → P (slice_index (starting_if script s x n hook hooks b) i)) [
      | false ↦ λ e k. each-starting script s x P (n + 1) hooks later i k
      | true ↦ λ e k.
          let own : P (n + 0) = each 0 hook refl (subst (λ m. is_starting script s x (m, hook) ≡ true) (sym here) e) in
          first i k (subst P here own) (each-starting script s x P (n + 1) hooks later)
    ] refl h
  where
    first : (i : ℕ) → i < suc (length (starting_in script s x (n + 1) hooks)) → P n
        → ((i : ℕ) → i < length (starting_in script s x (n + 1) hooks) → P (slice_index (starting_in script s x (n + 1) hooks) i))
        → P (slice_index (n ∷ starting_in script s x (n + 1) hooks) i)
    first zero k own later = own
    first (suc i) k own later = later i (omega arith)

pub waiting-registered : (hook : HookState) → is_waiting_hook hook ≡ true → is_registered hook ≡ true
waiting-registered HookState.Waiting h = refl
waiting-registered _ h = cc

hook-there : (s : State) (j : ℕ) (hook : HookState) → slice_get s.hooks j ≡ Some hook → hook_at s j ≡ hook
hook-there s j hook e = there s.hooks j e
  where
    there : (hooks : List HookState) (j : ℕ) → slice_get hooks j ≡ Some hook → slice_index_or hooks j HookState.Unregistered ≡ hook
    there [] j e = cc
    there (k ∷ ks) zero e = cc
    there (k ∷ ks) (suc j) e = there ks j e

-- they are registered, and declared as hooks
pub starting-hook : (script : Script) (s : State) (x i : ℕ) → IsFormed script s → i < length (starting script s x)
    → IsTrue (is_hook script (slice_index (starting script s x) i))
starting-hook script s x i formed h =
    each-starting script s x (λ j. IsTrue (is_hook script j)) 0 s.hooks
    (λ j hook e starts. (let waits = and_parts (is_waiting_hook hook) (waits_on script s x (ctx_of script (0 + j))) starts in
    let same : 0 + j ≡ j = omega arith in
    subst (λ j. IsTrue (is_hook script j)) (sym same)
    (formed.hooked j (subst (λ hook. is_registered hook ≡ true) (sym (hook-there s j hook e)) (waiting-registered hook waits.0))).named))
    i h

ends-begin : (script : Script) (s : State) (x n count most : ℕ) → IsFormed script s → n + count ≤ most → most ≤ length (starting script s x)
    → AllBegin script s (map (Start.ByEnd x) (range_with_len n count))
ends-begin script s x n zero most formed few within = tt
ends-begin script s x n (suc count) most formed few within =
    (starting-hook script s x n formed (omega arith), ends-begin script s x (n + 1) count most formed (omega arith) within)

few-starts : (ended : Bool) (n count : ℕ) → count ≡ cond ended 0 n → count ≤ n
few-starts true n count is = omega arith
few-starts false n count is = omega arith

end-begins : (script : Script) (s : State) (x count : ℕ) → IsFormed script s → count ≡ start_count script s x → AllBegin script s (by_end x count)
end-begins script s x count formed is =
    let few : count ≤ length (starting script s x) = few-starts (has_ended s x) (length (starting script s x)) count is in
    ends-begin script s x 0 count count formed (omega arith) few

hook-begins : (script : Script) (s : State) (h : ℕ) (child : Option ℕ) → IsTrue (is_hook script h) → AllBegin script s (by_hook h child)
hook-begins script s h None hook = tt
hook-begins script s h (Some child) hook = (hook, tt)

pub starts : (script : Script) (s : State) (e : Entry) → IsGood script → IsFormed script s → May script s e → AllBegin script s (change_of e).starts
starts script s (Entry.Go g child f) good formed may = (names-Does script s g (Instr.Go f) good may.0, tt)
starts script s (Entry.FireFunc t child) good formed may = (may.0, tt)
starts script s (Entry.Cancel g x newly count) good formed may = end-begins script s x count formed may.3
starts script s (Entry.Expire x count) good formed may = end-begins script s x count formed may.1
starts script s (Entry.CtxAfter g h child) good formed may = hook-begins script s h child (names-Does script s g (Instr.After h) good may.0)
starts script s _ good formed may = tt

-- ---- an entry starts no more than it takes of the limit and makes of started hooks

abbrev started_one : HookState → ℕ
started_one hook = cond (is_started hook) 1 0

one-more : (hook : HookState) (hooks : List HookState) → count_by is_started (hook ∷ hooks) ≡ started_one hook + count_by is_started hooks
one-more hook hooks = sum_by-cons (λ hook. cond (is_started hook) 1 0) hook hooks

-- what becomes of these hooks, the first of which has the number n
abbrev cut_in : Script → State → ℕ → ℕ → List HookState → List HookState
cut_in script s x n hooks = map (cut_hook script s x) (enumerate_from n hooks)

-- an end makes those that it starts started
cut-count : (script : Script) (s : State) (x n : ℕ) (hooks : List HookState)
    → count_by is_started (cut_in script s x n hooks) ≡ length (starting_in script s x n hooks) + count_by is_started hooks
cut-count script s x n [] = refl
cut-count script s x n (hook ∷ hooks) =
    let rest : count_by is_started (cut_in script s x (n + 1) hooks) ≡ length (starting_in script s x (n + 1) hooks) + count_by is_started hooks =
    cut-count script s x (n + 1) hooks in
    let was : count_by is_started (hook ∷ hooks) ≡ started_one hook + count_by is_started hooks = one-more hook hooks in
    elim (is_starting script s x (n, hook))
    as (λ b. is_starting script s x (n, hook) ≡ b → count_by is_started (cond b HookState.Started hook ∷ cut_in script s x (n + 1) hooks)
    ≡ length (starting_if script s x n hook hooks b) + count_by is_started (hook ∷ hooks)) [
      | true ↦ λ e.
          let now : count_by is_started (HookState.Started ∷ cut_in script s x (n + 1) hooks) ≡ 1 + count_by is_started (cut_in script s x (n + 1) hooks) =
          one-more HookState.Started (cut_in script s x (n + 1) hooks) in
          let none : started_one hook ≡ 0 = waiting-not hook (and_parts (is_waiting_hook hook) (waits_on script s x (ctx_of script n)) e).0 in
          omega arith
      | false ↦ λ e.
          let now : count_by is_started (hook ∷ cut_in script s x (n + 1) hooks) ≡ started_one hook + count_by is_started (cut_in script s x (n + 1) hooks) =
          one-more hook (cut_in script s x (n + 1) hooks) in
          omega arith
    ] refl
  where
    waiting-not : (hook : HookState) → is_waiting_hook hook ≡ true → started_one hook ≡ 0
    waiting-not HookState.Waiting h = refl
    waiting-not _ h = cc

-- a change that takes back none that was started
change-count : (hooks : List HookState) (h : ℕ) (f : HookState → HookState)
    → (is_started (slice_index_or hooks h HookState.Unregistered) ≡ true → is_started (f (slice_index_or hooks h HookState.Unregistered)) ≡ true)
    → count_by is_started hooks ≤ count_by is_started (change hooks h f)
change-count [] h f keeps = omega arith
change-count (hook ∷ hooks) zero f keeps =
    let was : count_by is_started (hook ∷ hooks) ≡ started_one hook + count_by is_started hooks = one-more hook hooks in
    let now : count_by is_started (f hook ∷ hooks) ≡ started_one (f hook) + count_by is_started hooks = one-more (f hook) hooks in
    let less : started_one hook ≤ started_one (f hook) = no-less (is_started hook) (is_started (f hook)) keeps in
    omega arith
  where
    no-less : (a b : Bool) → (a ≡ true → b ≡ true) → cond a 1 0 ≤ cond b 1 0
    no-less false b h = omega arith
    no-less true true h = omega arith
    no-less true false h = let not_so : false ≡ true = h refl in cc
change-count (hook ∷ hooks) (suc h) f keeps =
    let was : count_by is_started (hook ∷ hooks) ≡ started_one hook + count_by is_started hooks = one-more hook hooks in
    let now : count_by is_started (hook ∷ change hooks h f) ≡ started_one hook + count_by is_started (change hooks h f) = one-more hook (change hooks h f) in
    let rest : count_by is_started hooks ≤ count_by is_started (change hooks h f) = change-count hooks h f keeps in
    omega arith

-- a hook that is registered was not
pub unregistered : (script : Script) (s : State) (g h : ℕ) → Does script s g (Instr.After h) → is_registered (hook_at s h) ≡ false
unregistered script s g h does =
    none-when (is_registered (hook_at s h)) Reason.Twice
    (neither (when (is_registered (hook_at s h)) Reason.Twice) (unmade_parent s (ctx_of script h)) (calm-fault script s g (Instr.After h) does)).0

registered-count : (script : Script) (s : State) (h : ℕ) → is_registered (hook_at s h) ≡ false
    → count_by is_started s.hooks ≤ count_by is_started (change s.hooks h (λ hook. registered script s h))
registered-count script s h none = change-count s.hooks h (λ hook. registered script s h) (λ k. fresh (hook_at s h) none k)
  where
    fresh : (hook : HookState) → is_registered hook ≡ false → is_started hook ≡ true → is_started (registered script s h) ≡ true
    fresh HookState.Started none k = cc
    fresh HookState.Unregistered none k = cc
    fresh HookState.Waiting none k = cc
    fresh HookState.Stopped none k = cc

unhooked-count : (s : State) (h : ℕ) → count_by is_started s.hooks ≤ count_by is_started (change s.hooks h unhooked)
unhooked-count s h = change-count s.hooks h unhooked (λ k. stays (hook_at s h) k)
  where
    stays : (hook : HookState) → is_started hook ≡ true → is_started (unhooked hook) ≡ true
    stays HookState.Started k = refl
    stays HookState.Unregistered k = cc
    stays HookState.Waiting k = cc
    stays HookState.Stopped k = cc

length-by_end : (x count : ℕ) → length (by_end x count) ≡ count
length-by_end x count = from 0 count
  where
    from : (n count : ℕ) → length (map (Start.ByEnd x) (range_with_len n count)) ≡ count
    from n zero = refl
    from n (suc count) = ap suc (from (n + 1) count)

-- a context that has come to its deadline has not ended
pub expires-open : (s : State) (x : ℕ) → Expires s x → has_ended s x ≡ false
expires-open s x h =
    elim (context_at s x)
    as (λ o. IsSomeAnd o (λ (r : Context). IsTrue (is_due r.own (clock s r.world)) × IsTrue (is_none r.end)) → is_some (elim o [ None ↦ None | Some r ↦ r.end ]) ≡ false) [
      | None ↦ λ k. absurd k
      | Some r ↦ λ k. ap is_some (none-is r.end k.1)
    ] h

-- an end that comes starts those that it makes started, and no other call starts any
end-few : (script : Script) (s : State) (x count : ℕ) → count ≡ start_count script s x
    → length (by_end x count) + started_count s ≤ 1 + count_by is_started (cut_hooks script s x)
end-few script s x count is =
    let few : count ≤ length (starting script s x) = few-starts (has_ended s x) (length (starting script s x)) count is in
    let all : length (by_end x count) ≡ count = length-by_end x count in
    let cut : count_by is_started (cut_hooks script s x) ≡ length (starting script s x) + count_by is_started s.hooks = cut-count script s x 0 s.hooks in
    omega arith

cancel-few : (script : Script) (s : State) (g x : ℕ) (newly ended : Bool) (count : ℕ) → newly ≡ not ended → has_ended s x ≡ ended
    → count ≡ start_count script s x → length (by_end x count) + started_count s ≤ 1 + count_by is_started (with_hooked script s (change_of (Entry.Cancel g x newly count)).tree)
cancel-few script s g x true ended count new has is = end-few script s x count is
cancel-few script s g x false true count new has is =
    let none : count ≡ 0 = is ∙ ap (λ b. cond b 0 (length (starting script s x))) has in
    let all : length (by_end x count) ≡ count = length-by_end x count in
    omega arith
cancel-few script s g x false false count new has is = cc

after-few : (h : ℕ) (child : Option ℕ) → length (by_hook h child) ≤ 1
after-few h None = omega arith
after-few h (Some child) = omega arith

pub starts-few : (script : Script) (s : State) (e : Entry) → May script s e
    → length (change_of e).starts + started_count s ≤ (change_of e).counted + count_by is_started (with_hooked script s (change_of e).tree)
starts-few script s (Entry.Cancel g x newly count) may = cancel-few script s g x newly (has_ended s x) count may.2 refl may.3
starts-few script s (Entry.Expire x count) may = end-few script s x count may.1
starts-few script s (Entry.CtxAfter g h child) may =
    let one : length (by_hook h child) ≤ 1 = after-few h child in
    let more : count_by is_started s.hooks ≤ count_by is_started (change s.hooks h (λ hook. registered script s h)) =
    registered-count script s h (unregistered script s g h may.0) in
    omega arith
starts-few script s (Entry.CtxStop g h stopped) may =
    let more : count_by is_started s.hooks ≤ count_by is_started (change s.hooks h unhooked) = unhooked-count s h in
    omega arith
starts-few script s (Entry.Finish outcome) may = absurd may
starts-few script s _ may = omega arith
