-- How names are collected.
use Rattle.std.proofs.Common.{◌≡◌, ℕ, Bool, true, false, cond, List, Option, Some, None, refl, sym, ap, ◌∙◌}
use Rattle.std.specs.Option.{is_some}
use Rattle.std.specs.Str.{bytes_eq}
use Rattle.std.proofs.lemmas.Slice.Eq.{bytes_eq-Decides}
use Rattle.gt_names.specs.declared.names.Declared.{Declared}
use Rattle.gt_names.specs.Names.{Names}
use Rattle.gt_names.specs.Known.{or_else}

-- the first declaration goes into the table
put-by : (o : Option Declared) (x : Declared) (a b : Bool) → (a ≡ true → b ≡ true) → (b ≡ true → a ≡ true) → (b ≡ true → o ≡ None) → cond a (Some x) o ≡ or_else o (cond b (Some x) None)
put-by None x true true f g h = refl
put-by None x false false f g h = refl
put-by None x true false f g h = let e = f refl in cc
put-by None x false true f g h = let e = g refl in cc
put-by (Some y) x true true f g h = let e = h refl in cc
put-by (Some y) x false false f g h = refl
put-by (Some y) x true false f g h = let e = f refl in cc
put-by (Some y) x false true f g h = let e = g refl in cc

turn : (p q : List ℕ) → bytes_eq p q ≡ true → bytes_eq q p ≡ true
turn p q h = (bytes_eq-Decides q p).1 (sym ((bytes_eq-Decides p q).0 h))

pub put : (f g : Names) (name : List ℕ) (x : Declared) → f name ≡ None → ((q : List ℕ) → g q ≡ cond (bytes_eq name q) (Some x) (f q)) → (q : List ℕ) → g q ≡ or_else (f q) (cond (bytes_eq q name) (Some x) None)
put f g name x absent h q =
    h q ∙ put-by (f q) x (bytes_eq name q) (bytes_eq q name) (turn name q) (turn q name) (λ e. ap f ((bytes_eq-Decides q name).0 e) ∙ absent)

-- a name that is there stays as it is
kept-by : (o : Option Declared) (x : Declared) (b : Bool) → (b ≡ true → is_some o ≡ true) → o ≡ or_else o (cond b (Some x) None)
kept-by None x true h = let e = h refl in cc
kept-by None x false h = refl
kept-by (Some y) x b h = refl

pub kept : (f : Names) (name : List ℕ) (x : Declared) → is_some (f name) ≡ true → (q : List ℕ) → f q ≡ or_else (f q) (cond (bytes_eq q name) (Some x) None)
kept f name x there q = kept-by (f q) x (bytes_eq q name) (λ e. ap (λ n. is_some (f n)) ((bytes_eq-Decides q name).0 e) ∙ there)
