use Rattle.std.proofs.Common.{◌≡◌, [], ◌∷◌, Option, None, Some, refl, arith, true, false}
use Rattle.std.specs.List.{Contains}
use Rattle.gt_model.specs.declared.context.CauseVal.{CauseVal}
use Rattle.gt_model.specs.declared.context.ErrVal.{ErrVal}
use Rattle.gt_model.specs.declared.entry.Entry.{Entry}
use Rattle.gt_rules.specs.Contexts.{line_of}
use Rattle.gt_laws.specs.Broken.{almost_due, canceled_twice, ended_above, has_expired, is_canceled, shows_two, slept_past}
use Rattle.gt_laws.proofs.a_second_cause_breaks_the_law.Goals as goal

pub returns-clause-ends_twice : goal.returns-clause-ends_twice
unfolding line_of
returns-clause-ends_twice c = λ h.
    let same : true ≡ false = h is_canceled (Entry.Cancel 1 2 true 0) [] refl in
    cc same

pub returns-clause-overwritten : goal.returns-clause-overwritten
unfolding line_of
returns-clause-overwritten c = λ h.
    let same : Some (CauseVal.Named 1) ≡ Some (CauseVal.Named 0) = h canceled_twice (Entry.Cause 1 2 (Some (CauseVal.Named 1))) [] refl in
    cc same

pub returns-clause-shows_nothing : goal.returns-clause-shows_nothing
unfolding line_of
returns-clause-shows_nothing c = λ h.
    let same : ◌≡◌ {A = Option ErrVal} None (Some ErrVal.Canceled) = h is_canceled (Entry.CtxErr 1 2 None) [] refl in
    cc same

pub returns-clause-shows_early : goal.returns-clause-shows_early
returns-clause-shows_early c = λ h.
    let same : Some (CauseVal.Named 0) ≡ None = h (Entry.CtxMake 1 2 false ∷ []) (Entry.Cause 1 2 (Some (CauseVal.Named 0))) [] refl in
    cc same

pub returns-clause-found_early : goal.returns-clause-found_early
returns-clause-found_early c = λ h.
    let same : false ≡ true = h (Entry.CtxMake 1 2 false ∷ []) (Entry.CtxDone (record { g = 1; case_no = 0 }) 2) [] refl in
    cc same

first-look : Contains shows_two (Entry.Cause 1 2 (Some (CauseVal.Named 0)))
first-look = (3, omega arith, refl)

second-look : Contains shows_two (Entry.Cause 1 2 (Some (CauseVal.Named 1)))
second-look = (4, omega arith, refl)

pub returns-clause-shows_two : goal.returns-clause-shows_two
returns-clause-shows_two c = λ h.
    let same : CauseVal.Named 0 ≡ CauseVal.Named 1 = h.causes 1 1 2 (CauseVal.Named 0) (CauseVal.Named 1) first-look second-look in
    cc same

pub returns-clause-expires_early : goal.returns-clause-expires_early
returns-clause-expires_early c = λ h.
    let same : false ≡ true = (h almost_due (Entry.Expire 0 0) [] refl).1 in
    cc same

pub returns-clause-expires_below : goal.returns-clause-expires_below
unfolding line_of
returns-clause-expires_below c = λ h.
    let same : false ≡ true = (h slept_past (Entry.Expire 1 0) [] refl).1 in
    cc same

pub returns-clause-expires_twice : goal.returns-clause-expires_twice
unfolding line_of
returns-clause-expires_twice c = λ h.
    let same : true ≡ false = (h has_expired (Entry.Expire 0 0) [] refl).0 in
    cc same

pub returns-clause-made_live : goal.returns-clause-made_live
unfolding line_of
returns-clause-made_live c = λ h.
    let same : false ≡ true = h ended_above (Entry.CtxMake 1 1 false) [] refl in
    cc same
