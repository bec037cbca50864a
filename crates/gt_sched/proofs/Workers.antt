-- The turns of a schedule are of its workers.
use Rattle.std.proofs.Common.{◌≡◌, ◌<◌, ℕ, Bool, true, false, cond, ltb, List, [], ◌∷◌, Option, None, Some, refl, replicate}
use Rattle.std.specs.List.{All}
use Rattle.std.specs.Option.{option_map_or}
use Rattle.std.proofs.lemmas.Bool.{ltb-true}
use Rattle.std.proofs.lemmas.List.Elements.{All-append, All-replicate, All-nil}
use Rattle.gt_sched.specs.declared.fault.SchedFault.{SchedFault}
use Rattle.gt_sched.specs.declared.item.Run.{Run}
use Rattle.gt_sched.specs.Items.{Item, run_of, fault_of_run, fault_in, first_fault, or_else, turns_in, turns_of}

of_run : (ps at : ℕ) (o : Option Run) → fault_of_run ps at o ≡ None → All (λ p. p < ps) (option_map_or (λ r. replicate r.count r.worker) o [])
of_run ps at None h = All-nil (λ p. p < ps)
of_run ps at (Some r) h = next (ltb r.worker ps) refl h
  where
    next : (b : Bool) → ltb r.worker ps ≡ b → cond b None (Some (SchedFault.Worker at)) ≡ None → All (λ p. p < ps) (replicate r.count r.worker)
    next true small _ = All-replicate (λ p. p < ps) r.count r.worker (ltb-true r.worker ps small)
    next false _ bad = cc

both_none : (f g : Option SchedFault) → or_else f g ≡ None → (f ≡ None) × (g ≡ None)
both_none None g h = (refl, h)
both_none (Some e) g h = cc

pub turns_of-workers : (ps : ℕ) (items : List Item) → first_fault ps items ≡ None → All (λ p. p < ps) (turns_of items)
turns_of-workers ps [] h = All-nil (λ p. p < ps)
turns_of-workers ps (i ∷ items) h =
    let both = both_none (fault_in ps i) (first_fault ps items) h in
    All-append (λ p. p < ps) (turns_in i) (turns_of items) (of_run ps i.at (run_of i.bytes) both.0) (turns_of-workers ps items both.1)
