-- A text that is not UTF-8.
use Rattle.std.proofs.Common.{◌≡◌, ℕ, ◌<◌, Bool, true, false, cond, List, length, take, Option, Some, None, Result, Ok, Err, OnOk, IfOk, IfErr, MatchResult, refl, sym, ap, subst, ◌∙◌, arith, ltb}
use Rattle.std.specs.Str.{IsUtf8}
use Rattle.std.specs.Str.Lossy.{utf8_valid_len}
use Rattle.std.proofs.lemmas.Str.{utf8_valid_len-IsUtf8}
use Rattle.std.proofs.lemmas.Bool.{lt-ltb, le-ltb}
use Rattle.gt_model.specs.declared.script.Script.{Script}
use Rattle.gt_lines.specs.Words.{numbered_lines}
use Rattle.gt_grammar.specs.declared.fault.Why.{Why}
use Rattle.gt_grammar.specs.declared.fault.ScriptFault.{ScriptFault}
use Rattle.gt_grammar.specs.Deeds.{script_of}
use Rattle.gt_grammar.specs.Faults.{fault_in_lines}
use Rattle.gt_grammar.specs.Grammar.{line_number, utf8_fault, earlier, first_fault, IsFirstFault, Spells}
use Rattle.gt_script.specs.declared.unread.Unread.{Unread}
use Rattle.gt_script.specs.Unread.{fault_of, earlier_of, IfRefused}

not-below : (m n : ℕ) → m ≡ n → ltb m n ≡ false
not-below m n e = le-ltb m n (omega arith)

below : (m n : ℕ) → m < n → ltb m n ≡ true
below m n h = lt-ltb m n h

pub utf8-None : (text : List ℕ) → IsUtf8 text → utf8_fault text ≡ None
utf8-None text h = ap (λ b. cond b (Some (fault_of (line_number (take (utf8_valid_len text) text)) Why.Utf8)) None) (not-below (utf8_valid_len text) (length text) (utf8_valid_len-IsUtf8 text h))

pub utf8-Some : (text : List ℕ) (n line : ℕ) → n ≡ utf8_valid_len text → n < length text → line ≡ line_number (take n text) → utf8_fault text ≡ Some (fault_of line Why.Utf8)
utf8-Some text n line e h l =
    ap (λ b. cond b (Some (fault_of (line_number (take (utf8_valid_len text) text)) Why.Utf8)) None) (below (utf8_valid_len text) (length text) (omega (arith, e)))
    ∙ ap (λ m. Some (fault_of (line_number (take m text)) Why.Utf8)) (sym e) ∙ ap (λ k. Some (fault_of k Why.Utf8)) (sym l)

pub first-right : (text : List ℕ) (x : Option ScriptFault) → utf8_fault text ≡ None → fault_in_lines (numbered_lines text) ≡ x → first_fault text ≡ x
first-right text x h e = ap (λ o. earlier o (fault_in_lines (numbered_lines text))) h ∙ e

pub spelled : (r : Result Script Unread) (text : List ℕ) → utf8_fault text ≡ None → OnOk r (fault_in_lines (numbered_lines text) ≡ None) → IfOk r (λ script. script ≡ script_of (numbered_lines text)) → IfOk r (λ script. Spells text script)
spelled (Ok script) text h right is = record { faultless = first-right text None h right; lines = is }
spelled (Err f) text h right is = tt

some-cond : (b : Bool) (g u : ScriptFault) → cond b (Some g) (Some u) ≡ Some (cond b g u)
some-cond true g u = refl
some-cond false g u = refl

-- of a line that is not UTF-8 and what came of the lines, the first fault
pub earliest : (r : Result Script Unread) (text : List ℕ) (line : ℕ) (u : Unread) → utf8_fault text ≡ Some (fault_of line Why.Utf8) → OnOk r (fault_in_lines (numbered_lines text) ≡ None) → IfErr r (λ v. IfRefused v (λ g. fault_in_lines (numbered_lines text) ≡ Some g)) → MatchResult r (λ _. u ≡ Unread.Refused (fault_of line Why.Utf8)) (λ v. u ≡ earlier_of line v) → IfRefused u (λ f. IsFirstFault text f)
earliest (Ok script) text line u utf8 right wrong is =
    let P : Unread → Type 0 = λ v. IfRefused v (λ f. IsFirstFault text f) in
    subst P (sym is) (ap (λ o. earlier o (fault_in_lines (numbered_lines text))) utf8 ∙ ap (λ o. earlier (Some (fault_of line Why.Utf8)) o) right)
earliest (Err Unread.NoMemory) text line u utf8 right wrong is =
    let P : Unread → Type 0 = λ v. IfRefused v (λ f. IsFirstFault text f) in
    subst P (sym is) tt
earliest (Err (Unread.Refused g)) text line u utf8 right wrong is =
    let P : Unread → Type 0 = λ v. IfRefused v (λ f. IsFirstFault text f) in
    subst P (sym is)
    (ap (λ o. earlier o (fault_in_lines (numbered_lines text))) utf8 ∙ ap (λ o. earlier (Some (fault_of line Why.Utf8)) o) wrong
    ∙ some-cond (ltb g.line line) g (fault_of line Why.Utf8))

-- a text with a first fault spells no script
pub refuses : (text : List ℕ) (f : ScriptFault) → first_fault text ≡ Some f → (script : Script) → Spells text script → ⊥
refuses text f h script s = let none = s.faultless in cc
