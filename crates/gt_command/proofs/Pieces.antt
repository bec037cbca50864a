-- A text that was made of pieces, one after the other.
use Rattle.std.proofs.Common.{◌≡◌, ℕ, List, ◌++◌, ◌∙◌, ap, append_assoc}

pub three_pieces : (text a b c one two three : List ℕ) → one ≡ text ++ a → two ≡ one ++ b → three ≡ two ++ c → three ≡ text ++ (a ++ b ++ c)
three_pieces text a b c one two three first second third =
    third ∙ ap (λ (l : List ℕ). l ++ c) (second ∙ ap (λ (l : List ℕ). l ++ b) first ∙ append_assoc text a b) ∙ append_assoc text (a ++ b) c

pub four_pieces : (text a b c d one two three four : List ℕ) → one ≡ text ++ a → two ≡ one ++ b → three ≡ two ++ c → four ≡ three ++ d → four ≡ text ++ (a ++ b ++ c ++ d)
four_pieces text a b c d one two three four first second third last =
    last ∙ ap (λ (l : List ℕ). l ++ d) (three_pieces text a b c one two three first second third) ∙ append_assoc text (a ++ b ++ c) d
