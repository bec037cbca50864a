-- At each entry but a finish the laws ask what the machine's rules ask, no more and no less: of what is shown of the laws here alone each kind of entry has a clause.
use Rattle.std.proofs.Common.{◌≡◌, zero, suc, ◌<◌, ◌≤◌, List, refl, sym, ap, subst, ◌∙◌, Option, None, Some, true, false, not, is_some}
use Rattle.gt_model.specs.declared.script.Script.{Script}
use Rattle.gt_model.specs.declared.script.CaseKind.{CaseKind}
use Rattle.gt_model.specs.declared.script.Instr.{Instr}
use Rattle.gt_model.specs.declared.entry.Entry.{Entry}
use Rattle.gt_model.specs.declared.entry.Limits.{Limits}
use Rattle.gt_model.specs.declared.entry.Reason.{Reason}
use Rattle.gt_model.specs.Script.{mutex_of}
use Rattle.gt_rules.specs.State.{channel_at}
use Rattle.gt_rules.specs.Panics.{when}
use Rattle.gt_rules.specs.declared.change.Setting.{Setting}
use Rattle.gt_rules.specs.declared.change.Trade.{Trade}
use Rattle.gt_rules.specs.Legal.{due_at, sleep_end}
use Rattle.gt_facts.proofs.Makers.{sets, Trades, trades-May, IsOpened, is_open-IsOpened}
use Rattle.gt_laws.specs.Told.{due_told, closed_told, stands_told, until_told}
use Rattle.gt_laws.proofs.Shown.{clock-told, due-told}
use Rattle.gt_laws.proofs.Channels.{opened-told, closed-told}
use Rattle.gt_laws.proofs.Syncs.{held-told, counter-told}
use Rattle.gt_laws.proofs.Everyone.{relocks-told, told-relocks, suspended-told}
use Rattle.gt_laws.proofs.GoesOn.{reached}
use Rattle.gt_laws.proofs.Panics.{Misuses, may-told, told-may}
use Rattle.gt_laws.proofs.Behind.{Behind, Row, told, now, next, was, leaves, told-leaves, made, calm-told, does, no-misuse, used-made, used-open, opened-there, closed-there, open-there, closed-made, room-told, told-room, next-told, drained-told, told-drained, operates-told, told-operates, both-told, not-true, defaults-told, told-defaults, unlock-told, add-told, waits-told, signals-told, told-signals, some-and, wakes-told, told-wakes, fires-told, told-fires}
use Rattle.gt_laws.proofs.TreeRows.{derives-row, cancels-row, expires-row, error-row, cause-row, ended-row, hangs-row, takes_back-row}

-- ---- each kind of entry

pub row : {script : Script} {limits : Limits} {front : List Entry} (b : Behind script limits front) (e : Entry) → Row script front e
row b (Entry.Say g n) = (λ may. assumption (told b g (Instr.Say n) may.stands), λ o. does b g (Instr.Say n) o.order refl)
row b (Entry.Now g at) =
    (λ may. record { order = told b g Instr.Now may.0.stands; time = may.1 ∙ now b g; fresh = tt; uses = tt; passes = tt; chooses = tt; alone = tt; adds_up = tt; signals = tt; keeps = tt; hooks = tt }, λ o. (does b g Instr.Now o.order refl, o.time ∙ sym (now b g)))
row b (Entry.Go g child f) = (
  λ may. record { order = (told b g (Instr.Go f) may.0.stands, may.1 ∙ next b); time = tt; fresh = tt; uses = tt; passes = tt; chooses = tt; alone = tt; adds_up = tt; signals = tt; keeps = tt; hooks = tt },
  λ o. (does b g (Instr.Go f) o.order.0 refl, o.order.1 ∙ sym (next b)),
)
row b (Entry.End g) = (λ may. assumption (told b g Instr.Finish may.stands), λ o. does b g Instr.Finish o.order refl)
row b (Entry.Sleep g until) = (
  λ may. record {
    order = (may.0, told b g (Instr.Sleep may.0) may.1.stands, may.2 ∙ ap (λ time. sleep_end time may.0) (now b g));
    time = tt;
    fresh = tt;
    uses = tt;
    passes = tt;
    chooses = tt;
    alone = tt;
    adds_up = tt;
    signals = tt;
    keeps = tt;
    hooks = tt;
  },
  λ o. (o.order.0, does b g (Instr.Sleep o.order.0) o.order.1 refl, o.order.2 ∙ ap (λ time. sleep_end time o.order.0) (sym (now b g))),
)
row {script} {limits} {front} b (Entry.Wake g) = (
  λ may. record { order = some-and (until_told script g front) _ (wakes-told b g may); time = wakes-told b g may; fresh = tt; uses = tt; passes = tt; chooses = tt; alone = tt; adds_up = tt; signals = tt; keeps = tt; hooks = tt },
  λ o. told-wakes b g o.time,
)
row {script} {limits} {front} b (Entry.New g t due) = (
  λ may. record {
    order = (may.0, told b g (Instr.New t may.0) may.1.stands, may.2 ∙ ap (λ time. due_at time may.0) (now b g));
    time = tt;
    fresh = tt;
    uses = (made b t (Setting.Made due) (sets script (reached script front) (Entry.New g t due) b.good may), calm-told b g may.1.calm);
    passes = tt;
    chooses = tt;
    alone = tt;
    adds_up = tt;
    signals = tt;
    keeps = tt;
    hooks = tt;
  },
  λ o. (o.order.0, does b g (Instr.New t o.order.0) o.order.1 (no-misuse b g _ o.order.1 o.uses.1), o.order.2 ∙ ap (λ time. due_at time o.order.0) (sym (now b g))),
)
row {script} {limits} {front} b (Entry.Stop g t answer) = (
  λ may. record {
    order = told b g (Instr.Stop t) may.0.stands;
    time = tt;
    fresh = may.1 ∙ was b t;
    uses = made b t (Setting.Ended None) (sets script (reached script front) (Entry.Stop g t answer) b.good may);
    passes = tt;
    chooses = tt;
    alone = tt;
    adds_up = tt;
    signals = tt;
    keeps = tt;
    hooks = tt;
  },
  λ o. (does b g (Instr.Stop t) o.order (used-made front t o.uses), o.fresh ∙ sym (was b t)),
)
row {script} {limits} {front} b (Entry.Reset g t answer due) = (
  λ may. record {
    order = (may.0, told b g (Instr.Reset t may.0) may.1.stands, may.3 ∙ ap (λ time. due_at time may.0) (now b g));
    time = tt;
    fresh = may.2 ∙ was b t;
    uses = (made b t (Setting.SetAnew due) (sets script (reached script front) (Entry.Reset g t answer due) b.good may), calm-told b g may.1.calm);
    passes = tt;
    chooses = tt;
    alone = tt;
    adds_up = tt;
    signals = tt;
    keeps = tt;
    hooks = tt;
  },
  λ o. (
    o.order.0,
    does b g (Instr.Reset t o.order.0) o.order.1 (no-misuse b g _ o.order.1 o.uses.1),
    o.fresh ∙ sym (was b t),
    o.order.2 ∙ ap (λ time. due_at time o.order.0) (sym (now b g)),
  ),
)
row {script} {limits} {front} b (Entry.TRecv p t due later) = (
  λ may. record {
    order = (operates-told b p (CaseKind.Recv t) may.0, may.1);
    time = subst (λ time. due ≤ time) (now b p.g) may.3;
    fresh = (sym (due-told script limits t front b.good b.before) ∙ may.2, leaves b p.g t due later may.4);
    uses = (made b t (Setting.Ended later) (sets script (reached script front) (Entry.TRecv p t due later) b.good may), calm-told b p.g may.0.calm);
    passes = tt;
    chooses = tt;
    alone = tt;
    adds_up = tt;
    signals = tt;
    keeps = tt;
    hooks = tt;
  },
  λ o. (
    told-operates b p (CaseKind.Recv t) o.uses.1 o.order.0,
    o.order.1,
    due-told script limits t front b.good b.before ∙ o.fresh.0,
    subst (λ time. due ≤ time) (sym (now b p.g)) o.time,
    told-leaves b p.g t due later o.fresh.1,
  ),
)
row {script} {limits} {front} b (Entry.FireFunc t child) = (
  λ may. record {
    order = (may.0, may.2 ∙ next b);
    time = fires-told b t may.1;
    fresh = some-and (due_told t front) _ (fires-told b t may.1);
    uses = made b t (Setting.Ended None) (sets script (reached script front) (Entry.FireFunc t child) b.good may);
    passes = tt;
    chooses = tt;
    alone = tt;
    adds_up = tt;
    signals = tt;
    keeps = tt;
    hooks = tt;
  },
  λ o. (o.order.0, told-fires b t o.time, o.order.1 ∙ sym (next b)),
)
row {script} {limits} {front} b (Entry.Make g c) = (
  λ may.
      let new : Trades script (reached script front) c Trade.Opened = trades-May script (reached script front) (Entry.Make g c) b.good may in
      record {
        order = told b g (Instr.Make c) may.stands;
        time = tt;
        fresh = tt;
        uses = sym (opened-told script limits c front b.good b.before) ∙ new.has;
        passes = tt;
        chooses = tt;
        alone = tt;
        adds_up = tt;
        signals = tt;
        keeps = tt;
        hooks = tt;
      },
  λ o. does b g (Instr.Make c) o.order (ap (λ b. when b Reason.Twice) o.uses),
)
row {script} {limits} {front} b (Entry.Send p c v) = (
  λ may.
      let is : IsOpened (reached script front) c = is_open-IsOpened (reached script front) c may.1 in
      let unshut : closed_told c front ≡ false = closed-there b c false is.unshut in
      record {
        order = operates-told b p (CaseKind.Send c v) may.0;
        time = tt;
        fresh = tt;
        uses = (opened-there b c is.made, unshut, calm-told b p.g may.0.calm);
        passes = (unshut, room-told b c may.2);
        chooses = tt;
        alone = tt;
        adds_up = tt;
        signals = tt;
        keeps = tt;
        hooks = tt;
      },
  λ o. (told-operates b p (CaseKind.Send c v) o.uses.2 o.order, open-there b c o.uses.0 o.uses.1, told-room b c o.passes.1),
)
row {script} {limits} {front} b (Entry.Recv p c (Some v)) = (
  λ may.
      let takes : Trades script (reached script front) c Trade.Takes = trades-May script (reached script front) (Entry.Recv p c (Some v)) b.good may in
      record {
        order = (operates-told b p (CaseKind.Recv c) may.0, may.1);
        time = tt;
        fresh = tt;
        uses = (opened-there b c takes.has.0, calm-told b p.g may.0.calm);
        passes = sym (next-told b c) ∙ may.2;
        chooses = tt;
        alone = tt;
        adds_up = tt;
        signals = tt;
        keeps = tt;
        hooks = tt;
      },
  λ o. (told-operates b p (CaseKind.Recv c) o.uses.1 o.order.0, o.order.1, next-told b c ∙ o.passes),
)
row {script} {limits} {front} b (Entry.Recv p c None) = (
  λ may. record {
    order = (operates-told b p (CaseKind.Recv c) may.0, may.1);
    time = tt;
    fresh = tt;
    uses = (opened-there b c (closed-made (channel_at (reached script front) c) may.2.1), calm-told b p.g may.0.calm);
    passes = (closed-there b c true may.2.1, drained-told b c may.2.0);
    chooses = tt;
    alone = tt;
    adds_up = tt;
    signals = tt;
    keeps = tt;
    hooks = tt;
  },
  λ o. (
    told-operates b p (CaseKind.Recv c) o.uses.1 o.order.0,
    o.order.1,
    (told-drained b c o.passes.1, closed-told script limits c front b.good b.before ∙ o.passes.0),
  ),
)
row {script} {limits} {front} b (Entry.Pair from to c v) = (
  λ may.
      let is : IsOpened (reached script front) c = is_open-IsOpened (reached script front) c may.2 in
      let unshut : closed_told c front ≡ false = closed-there b c false is.unshut in
      record {
        order = (operates-told b from (CaseKind.Send c v) may.0, operates-told b to (CaseKind.Recv c) may.1, may.4);
        time = tt;
        fresh = tt;
        uses = (opened-there b c is.made, unshut, calm-told b from.g may.0.calm, calm-told b to.g may.1.calm);
        passes = (unshut, may.3);
        chooses = sym (both-told b from.g to.g) ∙ not-true _ may.5;
        alone = tt;
        adds_up = tt;
        signals = tt;
        keeps = tt;
        hooks = tt;
      },
  λ o. (
    told-operates b from (CaseKind.Send c v) o.uses.2 o.order.0,
    told-operates b to (CaseKind.Recv c) o.uses.3 o.order.1,
    open-there b c o.uses.0 o.uses.1,
    o.passes.1,
    o.order.2,
    ap not (both-told b from.g to.g ∙ o.chooses),
  ),
)
row {script} {limits} {front} b (Entry.Close g c) = (
  λ may.
      let shuts : Trades script (reached script front) c Trade.Shut = trades-May script (reached script front) (Entry.Close g c) b.good may in
      record {
        order = told b g (Instr.Close c) may.stands;
        time = tt;
        fresh = tt;
        uses = (opened-there b c shuts.has.0, closed-there b c false shuts.has.1);
        passes = tt;
        chooses = tt;
        alone = tt;
        adds_up = tt;
        signals = tt;
        keeps = tt;
        hooks = tt;
      },
  λ o. does b g (Instr.Close c) o.order (used-open front c o.uses.0 o.uses.1),
)
row b (Entry.Default g) = (λ may. defaults-told b g may, λ o. told-defaults b g o)
row {script} {limits} {front} b (Entry.Lock g m) = (
  λ may. record {
    order = (told b g (Instr.Lock m) may.0.stands, may.1);
    time = tt;
    fresh = tt;
    uses = tt;
    passes = tt;
    chooses = tt;
    alone = sym (held-told script limits m front b.good b.before) ∙ may.2;
    adds_up = tt;
    signals = tt;
    keeps = tt;
    hooks = tt;
  },
  λ o. (does b g (Instr.Lock m) o.order.0 refl, o.order.1, held-told script limits m front b.good b.before ∙ o.alone),
)
row b (Entry.Unlock g m) = (λ may. unlock-told b g m may, λ o. does b g (Instr.Unlock m) o.order (ap (λ h. when (not h) Reason.Unlocked) o.uses))
row b (Entry.CondWait g k) = (λ may. waits-told b g k may, λ o. does b g (Instr.CWait k) o.order (ap (λ h. when (not h) Reason.Unlocked) o.uses))
row {script} {limits} {front} b (Entry.CondWake g k) = (
  λ may. record {
    order = relocks-told script limits g k front b.good b.before may.0;
    time = tt;
    fresh = tt;
    uses = tt;
    passes = tt;
    chooses = tt;
    alone = sym (held-told script limits (mutex_of script k) front b.good b.before) ∙ may.1;
    adds_up = tt;
    signals = tt;
    keeps = tt;
    hooks = tt;
  },
  λ o. (told-relocks script limits g k front b.good b.before o.order, held-told script limits (mutex_of script k) front b.good b.before ∙ o.alone),
)
row b (Entry.Signal g k woken) = (
  λ may. record {
    order = told b g (Instr.Signal k) may.0.stands;
    time = tt;
    fresh = tt;
    uses = tt;
    passes = tt;
    chooses = tt;
    alone = tt;
    adds_up = tt;
    signals = signals-told b g k woken may.1;
    keeps = tt;
    hooks = tt;
  },
  λ o. (does b g (Instr.Signal k) o.order refl, told-signals b g k woken o.signals),
)
row {script} {limits} {front} b (Entry.Broadcast g k count) = (
  λ may. record {
    order = told b g (Instr.Broadcast k) may.0.stands;
    time = tt;
    fresh = tt;
    uses = tt;
    passes = tt;
    chooses = tt;
    alone = tt;
    adds_up = tt;
    signals = may.1 ∙ suspended-told script limits k front b.good b.before;
    keeps = tt;
    hooks = tt;
  },
  λ o. (does b g (Instr.Broadcast k) o.order refl, o.signals ∙ sym (suspended-told script limits k front b.good b.before)),
)
row b (Entry.Add g w n) = (λ may. add-told b g w n may, λ o. does b g (Instr.Add w n) o.order (ap (λ below. when below Reason.Negative) o.uses))
row {script} {limits} {front} b (Entry.WgWait g w) = (
  λ may. record {
    order = (told b g (Instr.Wait w) may.0.stands, may.1);
    time = tt;
    fresh = tt;
    uses = tt;
    passes = tt;
    chooses = tt;
    alone = tt;
    adds_up = sym (counter-told script limits w front b.good b.before) ∙ may.2;
    signals = tt;
    keeps = tt;
    hooks = tt;
  },
  λ o. (does b g (Instr.Wait w) o.order.0 refl, o.order.1, counter-told script limits w front b.good b.before ∙ o.adds_up),
)
row b (Entry.CtxMake g x ended) = derives-row b g x ended
row b (Entry.Cancel g x newly starts) = cancels-row b g x newly starts
row b (Entry.Expire x starts) = expires-row b x starts
row b (Entry.CtxErr g x err) = error-row b g x err
row b (Entry.Cause g x cause) = cause-row b g x cause
row b (Entry.CtxDone p x) = ended-row b p x
row b (Entry.CtxAfter g s child) = hangs-row b g s child
row b (Entry.CtxStop g s stopped) = takes_back-row b g s stopped
row {script} {limits} {front} b (Entry.Clock zero to) = (
  λ may. record { order = tt; time = (subst (λ time. time < to) (clock-told script limits 0 front b.good b.before) may.0, may.1); fresh = tt; uses = tt; passes = tt; chooses = tt; alone = tt; adds_up = tt; signals = tt; keeps = tt; hooks = tt },
  λ o. (subst (λ time. time < to) (sym (clock-told script limits 0 front b.good b.before)) o.time.0, o.time.1),
)
row b (Entry.Clock (suc world) to) = (λ may. absurd may, λ o. o.time)
row {script} {limits} {front} b (Entry.Panic p reason) = (
  λ may.
      let at : Misuses script front (stands_told script p.g front) p.case_no reason = may-told script limits p reason front b.good b.before may in
      record { order = ap (λ (o : Option Instr). is_some o) at.stands; time = tt; fresh = tt; uses = (at.instr, at.stands, at.is); passes = tt; chooses = tt; alone = tt; adds_up = tt; signals = tt; keeps = tt; hooks = tt },
  λ o. told-may script limits p reason front b.good b.before (record { instr = o.uses.0; stands = o.uses.1; is = o.uses.2 }),
)
row b (Entry.Finish outcome) = (λ may. record { order = tt; time = tt; fresh = tt; uses = tt; passes = tt; chooses = tt; alone = tt; adds_up = tt; signals = tt; keeps = tt; hooks = tt }, λ o. tt)
