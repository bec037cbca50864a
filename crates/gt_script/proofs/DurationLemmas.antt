-- A word that is a text, or is none.
use Rattle.std.proofs.Common.{◌≡◌, ℕ, Bool, true, false, List, refl}
use Rattle.std.specs.Str.{IsUtf8, is_utf8}
use Rattle.std.proofs.lemmas.Str.{IsUtf8-from_is_utf8}

false-by : (b : Bool) → (b ≡ true → ⊥) → b ≡ false
false-by true h = absurd (h refl)
false-by false h = refl

pub is_utf8-false : (word : List ℕ) → ¬ (IsUtf8 word) → is_utf8 word ≡ false
is_utf8-false word h = false-by (is_utf8 word) (λ e. h (IsUtf8-from_is_utf8 word e))
