-- The names of a good script are short, and what an entry names is declared.
use Rattle.std.proofs.Common.{◌≡◌, ℕ, zero, suc, ◌<◌, ◌≤◌, List, [], ◌∷◌, length, get_or, refl, arith, slice_get, Some, Bool, true, false, ◌&&◌, IsTrue, nat_le}
use Rattle.std.proofs.lemmas.Bool.Decides.{nat_tests}
use Rattle.std.specs.List.{list_all}
use Rattle.std.proofs.lemmas.Option.{slice_get_read}
use Rattle.gt_model.specs.declared.script.Script.{Script}
use Rattle.gt_model.specs.declared.script.Decl.{Decl}
use Rattle.gt_model.specs.declared.script.Func.{Func}
use Rattle.gt_model.specs.declared.script.What.{What}
use Rattle.gt_model.specs.declared.entry.Entry.{Entry}
use Rattle.gt_model.specs.Good.{IsGood, is_name, is_name_byte, is_letter}
use Rattle.gt_model.specs.Named.{IsNamed, AllNamed}
use Rattle.gt_model.proofs.GoodCode.{all_at, function_declared}
use Rattle.gt_model.proofs.Declared.{declared_at}
use Rattle.gt_trace.specs.Text.{name_of, function_name}

right_of_both : (a b : Bool) → IsTrue (a && b) → IsTrue b
right_of_both true b h = h
right_of_both false b h = cc

-- a name has at most 32 bytes
length-is_name : (name : List ℕ) → IsTrue (is_name name) → length name ≤ 32
length-is_name [] h = cc
length-is_name (b ∷ bs) h =
    let short : IsTrue (nat_le (length bs) 31) = right_of_both (is_letter b && list_all is_name_byte bs) (nat_le (length bs) 31) h in
    grind (arith, nat_tests)

-- a declaration that was read at its place
pub record Declares (script : Script) (place : ℕ) (decl : Decl) : Type 0 where
  pub name : decl.name ≡ name_of script place
  pub short : length decl.name ≤ 32

pub decl_name : (script : Script) (place : ℕ) (decl : Decl) → IsGood script → place < length script.decls
    → decl ≡ get_or script.decls place decl → Declares script place decl
decl_name script place decl good within read =
    let found : slice_get script.decls place ≡ Some decl = slice_get_read script.decls (length script.decls) place decl refl within read in
    record {
      name = rw (found, name_of) refl;
      short = length-is_name decl.name (all_at (λ (d : Decl). IsTrue (is_name d.name)) script.decls place decl good.names.each found);
    }

-- a function that was read at its place
pub record Names (script : Script) (f : ℕ) (func : Func) : Type 0 where
  pub name : name_of script func.decl ≡ function_name script f
  pub declared : func.decl < length script.decls

pub func_name : (script : Script) (f : ℕ) (func : Func) → IsGood script → f < length script.funcs
    → func ≡ get_or script.funcs f func → Names script f func
func_name script f func good within read =
    let found : slice_get script.funcs f ≡ Some func = slice_get_read script.funcs (length script.funcs) f func refl within read in
    record {
      name = rw (found, function_name) refl;
      declared = declared_at script func.decl What.Function
          (function_declared script f func good found);
    }

-- each entry of a list that can be printed can be
pub AllNamed-at : (script : Script) (h : List Entry) (i : ℕ) (d : Entry) → AllNamed script h → i < length h → IsNamed script (get_or h i d)
AllNamed-at script [] i d all within = absurd (omega arith)
AllNamed-at script (e ∷ h) zero d all within = all.0
AllNamed-at script (e ∷ h) (suc i) d all within = AllNamed-at script h i d all.1 (omega arith)
