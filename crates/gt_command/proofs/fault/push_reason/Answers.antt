use Rattle.std.proofs.Common.{◌≡◌, ℕ, List, ◌++◌, ◌∙◌, ap, codes, decimal}
use Rattle.gt_command.specs.Faults.{cause_word}
use Rattle.gt_command.proofs.Pieces.{three_pieces, four_pieces}
use Rattle.gt_command.proofs.fault.push_reason.Goals as goal

pub returns-in-Script-clause-appended : goal.returns-in-Script-clause-appended
returns-in-Script-clause-appended c =
    let fault = c.in-Script.fault in
    let number : c.push_number.new.text.items ≡ c.push-in-Script.new.text.items ++ decimal fault.line =
    c.push_number.ensures.appended ∙ ap (λ (n : ℕ). c.push-in-Script.new.text.items ++ decimal n) c.from.ensures in
    let word : c.push-in-Script-3.new.text.items ≡ c.push-in-Script-2.new.text.items ++ cause_word fault.why =
    c.push-in-Script-3.ensures ∙ ap (λ (l : List ℕ). c.push-in-Script-2.new.text.items ++ l) (c.as_bytes-in-Script.ensures.value ∙ c.cause_word.ensures.value) in
    let made : c.push-in-Script-3.new.text.items ≡ c.args.text.now.items ++ (codes "script line " ++ decimal fault.line ++ codes ": " ++ cause_word fault.why) =
    four_pieces _ _ _ _ _ c.push-in-Script.new.text.items c.push_number.new.text.items c.push-in-Script-2.new.text.items c.push-in-Script-3.new.text.items c.push-in-Script.ensures number c.push-in-Script-2.ensures word in
    rw c.in-Script.is made

pub returns-in-InputAbove-clause-appended : goal.returns-in-InputAbove-clause-appended
returns-in-InputAbove-clause-appended c =
    let made : c.push-in-InputAbove-2.new.text.items ≡ c.args.text.now.items ++ (codes "input above " ++ decimal c.in-InputAbove.limit ++ codes " bytes") =
    three_pieces _ _ _ _ c.push-in-InputAbove.new.text.items c.push_number-in-InputAbove.new.text.items c.push-in-InputAbove-2.new.text.items c.push-in-InputAbove.ensures c.push_number-in-InputAbove.ensures.appended c.push-in-InputAbove-2.ensures in
    rw c.in-InputAbove.is made
