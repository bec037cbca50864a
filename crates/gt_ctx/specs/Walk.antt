-- What a walk over the contexts that an end reaches does.
use Rattle.std.specs.Prelude.{◌≡◌, ℕ, ◌+◌, Bool, true, false, ◌&&◌, not, if◌then◌else◌, List, [], ◌∷◌, length, Option, is_none}
use Rattle.std.specs.Option.{option_map_or}
use Rattle.gt_model.specs.declared.context.Context.{Context}
use Rattle.gt_model.specs.declared.context.End.{End}
use Rattle.gt_ctx.specs.Contents.{context_at}
use Rattle.gt_ctx.specs.Calls.{cut_context}
use Rattle.gt_ctx.specs.Links.{items_of, has}

-- whether a context was made and has no error
abbrev pub is_live : Option Context → Bool
is_live kept = option_map_or (λ (k : Context). is_none k.end) kept false

-- whether a context had no error, and has one now
abbrev pub is_newly : List (Option Context) → List (Option Context) → ℕ → Bool
is_newly old new y = is_live (context_at old y) && not (is_live (context_at new y))

abbrev pub AreClosed : (ℕ → Bool) → List (List ℕ) → Type 0
AreClosed p children = (y z : ℕ) → p y ≡ true → has (items_of children y) z ≡ true → p z ≡ true

-- x and all that is reached from it by way of contexts without an error has ended with this end, and nothing else has; these
-- are the items that waited on what has
pub record HasEnded (old new : List (Option Context)) (children waiting : List (List ℕ)) (x : ℕ) (end : End) (found : List ℕ) : Type 0 where
  pub as_many : length new ≡ length old
  pub kept : (y : ℕ) → context_at new y ≡ cut_context (is_newly old new y) end (context_at old y)
  pub first : is_live (context_at new x) ≡ false
  pub closed : (y z : ℕ) → is_newly old new y ≡ true → has (items_of children y) z ≡ true → is_live (context_at new z) ≡ false
  pub least : (p : ℕ → Bool) → p x ≡ true → AreClosed p children → (y : ℕ) → is_newly old new y ≡ true → p y ≡ true
  pub found_from : (s : ℕ) → has found s ≡ true → (y : ℕ) × (is_newly old new y ≡ true) × (has (items_of waiting y) s ≡ true)
  pub finds : (y s : ℕ) → is_newly old new y ≡ true → has (items_of waiting y) s ≡ true → has found s ≡ true

-- how many items the lists of contexts without an error have
abbrev pub to_come : List (List ℕ) → List (Option Context) → ℕ
to_come [] contexts = 0
to_come (items ∷ lists) [] = 0
to_come (items ∷ lists) (kept ∷ contexts) = (if is_live kept then length items else 0) + to_come lists contexts
