use Rattle.std.proofs.Common.{◌≡◌, ℕ, length, set, slice_get, refl, ap, subst, ◌∙◌, Option, Some, false, arith}
use Rattle.std.proofs.lemmas.List.{length-set}
use Rattle.gt_book.specs.View.{stands_for}
use Rattle.gt_rows.specs.declared.answers.BlockDone.{BlockDone}
use Rattle.gt_runner.specs.declared.runner.Runner.{Runner}
use Rattle.gt_runner.specs.Served.{noted_at}
use Rattle.gt_runner.specs.Calls.{Enrols}
use Rattle.gt_runner.proofs.Tending.{get-set_same}
use Rattle.gt_runner.proofs.Calling.{record-within, record-lent, record-is}
use Rattle.gt_runner.proofs.Waiting.{waits-record, waits-channel, count-room, waits_still, block-enrols, enrolled-stands, enrolled-room}
use Rattle.gt_runner.proofs.Growing.{most-few}
use Rattle.gt_runner.proofs.calls.block.Goals as goal
use Rattle.gt_runner.proofs.calls.block.Goals.{After-noted_at-run}

pub at_mut-requires : goal.at_mut-requires
at_mut-requires c = record-within c.args.run.now c.args.t (waits-record c.args.run.now c.args.ticket c.args.t c.requires.enrolled)

pub sec_block-done-requires-clause-lent : goal.sec_block-done-requires-clause-lent
sec_block-done-requires-clause-lent c =
    let x = c.args.run.now in
    record-lent x c.args.t c.at_mut.result.now c.requires.enrolled.counting.but.tended (waits-record x c.args.ticket c.args.t c.requires.enrolled) c.at_mut.ensures.value

pub sec_block-done-requires-clause-channel : goal.sec_block-done-requires-clause-channel
sec_block-done-requires-clause-channel c = waits-channel c.args.run.now c.args.ticket c.args.t c.at_mut.result.now c.requires.enrolled c.at_mut.ensures.value

pub sec_block-done-requires-clause-waits : goal.sec_block-done-requires-clause-waits
sec_block-done-requires-clause-waits c =
    let x = c.args.run.now in
    let own = record-is x c.args.t c.at_mut.result.now (waits-record x c.args.ticket c.args.t c.requires.enrolled) c.at_mut.ensures.value in
    λ live. ap (stands_for x.book.script x.book.state c.args.ticket.g) own.1 ∙ enrolled-stands x c.args.ticket c.args.t c.requires.enrolled

pub sec_block-done-requires-clause-room : goal.sec_block-done-requires-clause-room
sec_block-done-requires-clause-room c = λ live. enrolled-room c.args.run.now c.args.ticket c.args.t c.requires.enrolled

pub at-requires : goal.at-requires
at-requires c =
    let x = c.args.run.now in
    let within = record-within x c.args.t (waits-record x c.args.ticket c.args.t c.requires.enrolled) in
    let same : length (set x.records.items c.args.t c.sec_block-done.new.rec) ≡ length x.records.items = length-set x.records.items c.args.t c.sec_block-done.new.rec in
    omega arith

-- the run after the section
abbrev run_after : After-noted_at-run → Runner
run_after c = record {
  book = c.sec_block-done.new.book;
  heap = c.sec_block-done.new.heap;
  records = record { items = set c.args.run.now.records.items c.args.t c.sec_block-done.new.rec; spare = c.args.run.now.records.spare };
  noted = c.noted_at-run.result;
}

enrols : (c : After-noted_at-run) → Enrols c.args.run.now (run_after c) c.args.ticket.g c.args.t (waits_still c.sec_block-done.result)
enrols c =
    let x = c.args.run.now in
    let now : slice_get (set x.records.items c.args.t c.sec_block-done.new.rec) c.args.t ≡ Some c.at.result.now = c.at.ensures.value in
    let own : slice_get (set x.records.items c.args.t c.sec_block-done.new.rec) c.args.t ≡ Some c.sec_block-done.new.rec =
    get-set_same x.records.items c.args.t c.at_mut.result.now c.sec_block-done.new.rec c.at_mut.ensures.value in
    let is : c.at.result.now ≡ c.sec_block-done.new.rec = cc in
    let most = c.lawful.ensures.few_goroutines in
    let limit = most-few x.book.script x.book.limits c.lawful.ensures.lawful.good c.lawful.ensures.lawful.limits in
    block-enrols x (run_after c) c.args.ticket c.args.t c.at_mut.result.now c.sec_block-done.new.rec c.sec_block-done.result c.requires.enrolled
    (record {
      own = waits-record x c.args.ticket c.args.t c.requires.enrolled;
      channel = waits-channel x c.args.ticket c.args.t c.at_mut.result.now c.requires.enrolled c.at_mut.ensures.value;
      there = c.at_mut.ensures.value;
      records_are = refl;
      spare = refl;
      noted_is = c.noted_at-run.ensures ∙ ap (noted_at x.noted) is;
      few = count-room x c.args.ticket c.args.t c.requires.enrolled (omega arith);
      kept = c.sec_block-done.ensures.kept;
    })
    c.sec_block-done.ensures.row

pub returns-in-Blocked : goal.returns-in-Blocked
returns-in-Blocked c =
    subst (Enrols c.args.run.now (run_after (goal.at.returns-in-Blocked c).After-noted_at-run) c.args.ticket.g c.args.t) (ap waits_still c.in-Blocked.is)
    (enrols (goal.at.returns-in-Blocked c).After-noted_at-run)

not-waiting : (reply : BlockDone) → ((lower : Option ℕ) → reply ≡ BlockDone.Blocked lower → ⊥) → waits_still reply ≡ false
not-waiting (BlockDone.Blocked lower) n = absurd (n lower refl)
not-waiting _ n = refl

pub returns-in_default : goal.returns-in_default
returns-in_default c =
    subst (Enrols c.args.run.now (run_after (goal.at.returns-in_default c).After-noted_at-run) c.args.ticket.g c.args.t)
    (not-waiting c.sec_block-done.result c.in_default.not-Blocked)
    (enrols (goal.at.returns-in_default c).After-noted_at-run)
