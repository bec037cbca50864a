use Rattle.gt_select.specs.Waiting.{parties_in}
use Rattle.gt_select.proofs.Callers.{found_other}
use Rattle.gt_chan.proofs.chan.take_partner.Goals as goal

pub leave-requires : goal.leave-requires
leave-requires c =
    let p = c.in_ok-partner.partner in
    let found = found_other (parties_in c.args.w.now.lists c.args.list) c.args.g p c.in_ok-partner.ensures in
    c.lawful.ensures.case_no c.args.list p found.0
