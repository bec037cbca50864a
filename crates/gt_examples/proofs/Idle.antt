-- A small state is idle by computation.
use Rattle.std.proofs.Common.{◌≡◌, ℕ, zero, suc, List, Option, None, Some, Bool, true, ◌==◌, ◌&&◌}
use Rattle.std.specs.List.{list_all}
use Rattle.std.proofs.lemmas.Bool.{and_parts, eqb-true}
use Rattle.gt_model.specs.declared.script.Script.{Script}
use Rattle.gt_model.specs.declared.state.Goroutine.{Goroutine}
use Rattle.gt_model.specs.declared.state.Timer.{Timer}
use Rattle.gt_model.specs.declared.context.Context.{Context}
use Rattle.gt_model.specs.Tables.{numbered, at}
use Rattle.gt_rules.specs.State.{State}
use Rattle.gt_rules.specs.Finish.{IsIdle}
use Rattle.gt_facts.specs.Quiet.{none_firm, none_due}
use Rattle.gt_facts.proofs.Lookups.{all-item}
use Rattle.gt_model.proofs.Items.{at-is}
use Rattle.gt_facts.proofs.Quiet.{quiet-IsIdle}

-- whether a goroutine, a timer or a context is of the program
abbrev pub of_program : Goroutine → Bool
of_program r = r.world == 0

abbrev pub unmade_or_of_program : Option Timer → Bool
unmade_or_of_program None = true
unmade_or_of_program (Some r) = r.world == 0

abbrev pub underived_or_of_program : Option Context → Bool
underived_or_of_program None = true
underived_or_of_program (Some r) = r.world == 0

program_numbered : (rs : List Goroutine) → list_all of_program rs ≡ true → (g : ℕ) (r : Goroutine) → numbered rs g ≡ Some r → r.world ≡ 0
program_numbered rs h zero r e = cc
program_numbered rs h (suc i) r e = eqb-true r.world 0 (all-item of_program rs i r e h)

program_timers : (ts : List (Option Timer)) → list_all unmade_or_of_program ts ≡ true → (t : ℕ) (r : Timer) → at ts t ≡ Some r → r.world ≡ 0
program_timers ts h t r e = eqb-true r.world 0 (all-item unmade_or_of_program ts t (Some r) (at-is ts t r e) h)

program_contexts : (cs : List (Option Context)) → list_all underived_or_of_program cs ≡ true → (x : ℕ) (r : Context) → at cs x ≡ Some r → r.world ≡ 0
program_contexts cs h x r e = eqb-true r.world 0 (all-item underived_or_of_program cs x (Some r) (at-is cs x r e) h)

-- whether all are
abbrev pub all_of_program : State → Bool
all_of_program s = list_all of_program s.goroutines && (list_all unmade_or_of_program s.timers && list_all underived_or_of_program s.contexts)

pub idle-computed : (script : Script) (s : State) → all_of_program s ≡ true → none_firm script s ≡ true → none_due script s ≡ true → IsIdle script s
idle-computed script s world firm due =
    let worlds = and_parts (list_all of_program s.goroutines) (list_all unmade_or_of_program s.timers && list_all underived_or_of_program s.contexts) world in
    let objects = and_parts (list_all unmade_or_of_program s.timers) (list_all underived_or_of_program s.contexts) worlds.1 in
    quiet-IsIdle script s (record {
      world = record {
        goroutines = program_numbered s.goroutines worlds.0;
        timers = program_timers s.timers objects.0;
        contexts = program_contexts s.contexts objects.1;
      };
      none_firm = firm;
      none_due = due;
    })
