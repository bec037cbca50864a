use Rattle.std.proofs.Common.{◌∙◌, ap, sym}
use Rattle.std.specs.Option.{option_copied}
use Rattle.gt_machine.specs.Machine.{state_of}
use Rattle.gt_machine.proofs.Faults.{few-cases}
use Rattle.gt_book.proofs.book.Book.receiver.Goals as goal

-- a choice in a good script has few cases
pub receiving_case-case_no-requires : goal.receiving_case-case_no-requires
receiving_case-case_no-requires c =
    few-cases c.self.inside.script (state_of c.self.inside.run.machine) c.args.g c.in-Some.instr.now c.self.invariant.lawful.good (sym c.stands_at.ensures ∙ ap option_copied c.in-Some.is)
