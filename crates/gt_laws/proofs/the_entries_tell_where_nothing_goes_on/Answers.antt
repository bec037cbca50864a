use Rattle.std.proofs.Common.{sym}
use Rattle.gt_laws.proofs.GoesOn.{counted-told, still-told, stuck-told, told-still, told-stuck}
use Rattle.gt_laws.proofs.the_entries_tell_where_nothing_goes_on.Goals as goal

pub returns-clause-stuck : goal.returns-clause-stuck
returns-clause-stuck c = told-stuck

pub returns-clause-told : goal.returns-clause-told
returns-clause-told c = stuck-told

pub returns-clause-still : goal.returns-clause-still
returns-clause-still c = told-still

pub returns-clause-still_told : goal.returns-clause-still_told
returns-clause-still_told c = still-told

pub returns-clause-counted : goal.returns-clause-counted
returns-clause-counted c = λ script limits h w good legal. sym (counted-told script limits h w good legal)
