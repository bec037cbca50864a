use Rattle.std.proofs.Common.{◌≡◌, ◌<◌, ℕ, [], ◌∷◌, None, Some, true, false, refl, arith}
use Rattle.gt_model.specs.declared.entry.Entry.{Entry}
use Rattle.gt_laws.specs.Broken.{both_sent, first_received}
use Rattle.gt_laws.proofs.a_value_out_of_order_breaks_the_law.Goals as goal

pub returns-clause-overtaken : goal.returns-clause-overtaken
returns-clause-overtaken c = λ h.
    let first : Some 1 ≡ Some 2 = h both_sent (Entry.Recv (record { g = 1; case_no = 0 }) 1 (Some 2)) [] refl in
    cc first

pub returns-clause-received_twice : goal.returns-clause-received_twice
returns-clause-received_twice c = λ h.
    let next : Some 2 ≡ Some 1 = h first_received (Entry.Recv (record { g = 1; case_no = 0 }) 1 (Some 1)) [] refl in
    cc next

pub returns-clause-overfull : goal.returns-clause-overfull
returns-clause-overfull c = λ h.
    let room : 1 < 1 = (h (Entry.Make 1 1 ∷ Entry.Send (record { g = 1; case_no = 0 }) 1 1 ∷ []) (Entry.Send (record { g = 1; case_no = 0 }) 1 2) [] refl).1 in
    omega arith

pub returns-clause-passed_by : goal.returns-clause-passed_by
returns-clause-passed_by c = λ h.
    let none : ◌≡◌ {A = ℕ} 1 0 =
    (h (Entry.Make 1 1 ∷ Entry.Go 1 2 1 ∷ []) (Entry.Pair (record { g = 2; case_no = 0 }) (record { g = 1; case_no = 0 }) 1 1) [] refl).1 in
    omega arith

pub returns-clause-nothing_while_open : goal.returns-clause-nothing_while_open
returns-clause-nothing_while_open c = λ h.
    let closed : false ≡ true = (h (Entry.Make 1 1 ∷ []) (Entry.Recv (record { g = 1; case_no = 0 }) 1 None) [] refl).0 in
    cc closed

pub returns-clause-sent_after_close : goal.returns-clause-sent_after_close
returns-clause-sent_after_close c = λ h.
    let after : true ≡ false = (h (Entry.Make 1 1 ∷ Entry.Close 1 1 ∷ []) (Entry.Send (record { g = 1; case_no = 0 }) 1 1) [] refl).0 in
    cc after
