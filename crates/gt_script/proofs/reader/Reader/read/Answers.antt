use Rattle.std.proofs.Common.{ap, ◌∙◌}
use Rattle.gt_lines.specs.Lines.{line_at}
use Rattle.gt_names.specs.Known.{known}
use Rattle.gt_grammar.specs.Progress.{Progress}
use Rattle.gt_grammar.specs.Statements.{command}
use Rattle.gt_script.proofs.ReadingLemmas.{goes, agrees, agrees-depth, passed, right-at, step-IsSome}
use Rattle.gt_script.proofs.reader.Reader.read.Goals as goal

pub go_on-requires-clause-nests : goal.go_on-requires-clause-nests
go_on-requires-clause-nests c =
    (right-at _ c.args.self.now c.args.is_last c.lacks_main-lacks_main.result c.read-statement.result c.self.view_is c.in-None.ensures).nested

pub go_on-requires-clause-agrees : goal.go_on-requires-clause-agrees
go_on-requires-clause-agrees c = agrees-depth c.args.self.now.progress c.args.self.now.built c.requires

pub go_on-requires-clause-shallow : goal.go_on-requires-clause-shallow
go_on-requires-clause-shallow c = c.requires.shallow

pub go_on-requires-clause-selects : goal.go_on-requires-clause-selects
go_on-requires-clause-selects c =
    (right-at _ c.args.self.now c.args.is_last c.lacks_main-lacks_main.result c.read-statement.result c.self.view_is c.in-None.ensures).chosen

pub go_on-requires-clause-room : goal.go_on-requires-clause-room
go_on-requires-clause-room c =
    (right-at _ c.args.self.now c.args.is_last c.lacks_main-lacks_main.result c.read-statement.result c.self.view_is c.in-None.ensures).room

pub go_on-requires-clause-known : goal.go_on-requires-clause-known
go_on-requires-clause-known c =
    step-IsSome (known c.args.names.now)
    (command c.in-Some.command.keyword c.in-Some.command.first.now c.in-Some.command.second.now c.in-Some.command.third.now c.in-Some.command.fourth.now)
    c.read-statement.result c.args.is_last c.lacks_main-lacks_main.result c.args.self.now.progress c.read-statement.ensures.value
    (right-at _ c.args.self.now c.args.is_last c.lacks_main-lacks_main.result c.read-statement.result c.self.view_is c.in-None.ensures)

pub returns-in-Ok-clause-progress : goal.returns-in-Ok-clause-progress
returns-in-Ok-clause-progress c =
    c.in-Ok.ensures.progress
    ∙ passed (known c.args.names.now) c.args.self.now.progress (line_at c.args.line.now)
    (command c.in-Some.command.keyword c.in-Some.command.first.now c.in-Some.command.second.now c.in-Some.command.third.now c.in-Some.command.fourth.now)
    c.read-statement.result c.in-Some.ensures c.read-statement.ensures.value

pub returns-in-Ok-clause-built : goal.returns-in-Ok-clause-built
returns-in-Ok-clause-built c =
    let old = c.args.self.now in
    let new = c.go_on.new.self in
    goes (known c.args.names.now) old.progress old.built new.built
    (line_at c.args.line.now)
    (command c.in-Some.command.keyword c.in-Some.command.first.now c.in-Some.command.second.now c.in-Some.command.third.now c.in-Some.command.fourth.now)
    c.read-statement.result new.progress.inside c.args.is_last c.lacks_main-lacks_main.result
    c.in-Some.ensures c.read-statement.ensures.value
    (right-at _ old c.args.is_last c.lacks_main-lacks_main.result c.read-statement.result c.self.view_is c.in-None.ensures)
    c.requires
    (ap (λ (p : Progress). p.inside) c.in-Ok.ensures.progress) c.in-Ok.ensures.built

pub returns-in-Ok-clause-agrees : goal.returns-in-Ok-clause-agrees
returns-in-Ok-clause-agrees c =
    let old = c.args.self.now in
    let new = c.go_on.new.self in
    agrees (known c.args.names.now) old.progress new.progress old.built new.built
    (command c.in-Some.command.keyword c.in-Some.command.first.now c.in-Some.command.second.now c.in-Some.command.third.now c.in-Some.command.fourth.now)
    c.read-statement.result _ c.args.is_last c.lacks_main-lacks_main.result c.read-statement.ensures.value
    (right-at _ old c.args.is_last c.lacks_main-lacks_main.result c.read-statement.result c.self.view_is c.in-None.ensures)
    c.requires c.in-Ok.ensures.progress c.in-Ok.ensures.built
