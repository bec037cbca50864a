use Rattle.std.proofs.Common.{rules, ◌≡◌, length, subst}
use Rattle.gt_machine.specs.Machine.{state_of}
use Rattle.gt_book.specs.Found.{IsLeastWith}
use Rattle.gt_book.proofs.Finding.{found-least, found-none}
use Rattle.gt_book.proofs.counted.least_counted.Goals as goal

pub returns-clause-none : goal.returns-clause-none
returns-clause-none c =
    let end : c.loop-t.t ≡ length c.args.script.now.decls = search rules in
    let all : IsLeastWith c.args.script.now (state_of c.args.machine.now) (length c.args.script.now.decls) c.loop-t.found =
    subst (λ n. IsLeastWith c.args.script.now (state_of c.args.machine.now) n c.loop-t.found) end c.loop-t.invariant in
    found-none c.args.script.now (state_of c.args.machine.now) c.loop-t.found c.requires.formed all

pub returns-clause-least : goal.returns-clause-least
returns-clause-least c =
    let end : c.loop-t.t ≡ length c.args.script.now.decls = search rules in
    let all : IsLeastWith c.args.script.now (state_of c.args.machine.now) (length c.args.script.now.decls) c.loop-t.found =
    subst (λ n. IsLeastWith c.args.script.now (state_of c.args.machine.now) n c.loop-t.found) end c.loop-t.invariant in
    found-least c.args.script.now (state_of c.args.machine.now) c.loop-t.found c.requires.formed all
