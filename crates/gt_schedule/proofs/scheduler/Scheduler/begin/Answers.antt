use Rattle.std.proofs.Common.{rules, ◌≡◌, ◌+◌, ◌≤◌, ◌∷◌, ◌++◌, [], map, length, length-set, replicate, arith, refl, ap, sym, subst, ◌∙◌, ℕ, zero, suc}
use Rattle.std.proofs.lemmas.List.{length-replicate}
use Rattle.std.proofs.lemmas.List.Sums.{count_by-le-length}
use Rattle.std.specs.List.{Contains}
use Rattle.gt_queue.specs.Contents.{waiting_in}
use Rattle.gt_queue.proofs.Members.{Contains-nil}
use Rattle.gt_select.specs.Waiting.{Waiting, nobody_waits}
use Rattle.gt_schedule.specs.declared.status.RunStatus.{RunStatus}
use Rattle.gt_schedule.specs.declared.scheduler.Scheduler.{Scheduler}
use Rattle.gt_model.specs.declared.script.Decl.{Decl}
use Rattle.gt_schedule.specs.Schedule.{most_goroutines, hook_count, is_hook_decl, mutex_in}
use Rattle.gt_schedule.proofs.Keeping.{begun-is, hold-first}
use Rattle.gt_schedule.proofs.scheduler.Scheduler.begin.Goals as goal

pub returns-clause-schedule : goal.returns-clause-schedule
returns-clause-schedule c =
    let empty : c.in_ok-statuses.statuses.items ≡ [] = search (rules, c.with_room.ensures.empty, c.map_err.ensures, c.in_ok-statuses.was) in
    let no_marks : c.in_ok-marks.marks.items ≡ [] = search rules in
    let made : c.in_ok-run_queue.run_queue.queues ≡ replicate 1 [] = search rules in
    let names : ℕ = length c.args.script.now.decls in
    let begun : c.in_ok-waiters.waiters ≡ nobody_waits (most_goroutines c.args.script.now c.args.limits) (names + names) = search rules in
    let mutexes : c.in_ok-mutexes.mutexes.items ≡ map (λ (d : Decl). mutex_in d.what) c.args.script.now.decls = search rules in
    begun-is (record { statuses = c.put.new.self; declared = length c.as_slice-declared.result.now; run_queue = c.enqueue.new.self; waiters = c.in_ok-waiters.waiters; parks = 0; running = 0; marks = c.put-2.new.self; mutexes = c.in_ok-mutexes.mutexes }) c.args.script.now c.in_ok-run_queue.run_queue.queues (most_goroutines c.args.script.now c.args.limits)
    (c.put.ensures.items ∙ ap (λ xs. xs ++ RunStatus.Queued ∷ []) empty) (ap length c.as_slice-declared.ensures) made c.enqueue.ensures.queues begun refl (c.put-2.ensures.items ∙ (ap (λ ts. c.in_ok-marks.marks.items ++ ts ∷ []) c.none.ensures ∙ ap (λ xs. xs ++ [] ∷ []) no_marks)) mutexes

pub returns-clause-room : goal.returns-clause-room
returns-clause-room c =
    let spare : c.in_ok-statuses.statuses.spare ≡ most_goroutines c.args.script.now c.args.limits = search (rules, c.most_goroutines-most.ensures, c.with_room.ensures.spare, c.map_err.ensures, c.in_ok-statuses.was) in
    let empty : c.in_ok-statuses.statuses.items ≡ [] = search (rules, c.with_room.ensures.empty, c.map_err.ensures, c.in_ok-statuses.was) in
    let one : length c.put.new.self.items ≡ 1 = ap length (c.put.ensures.items ∙ ap (λ xs. xs ++ RunStatus.Queued ∷ []) empty) in
    let less : c.put.new.self.spare + 1 ≡ c.in_ok-statuses.statuses.spare = c.put.ensures.spare in
    omega arith

pub returns-clause-kept : goal.returns-clause-kept
returns-clause-kept c =
    let most : ℕ = most_goroutines c.args.script.now c.args.limits in
    let names : ℕ = length c.args.script.now.decls in
    let m : Scheduler = record { statuses = c.put.new.self; declared = length c.as_slice-declared.result.now; run_queue = c.enqueue.new.self; waiters = c.in_ok-waiters.waiters; parks = 0; running = 0; marks = c.put-2.new.self; mutexes = c.in_ok-mutexes.mutexes } in
    let empty : c.in_ok-statuses.statuses.items ≡ [] = search (rules, c.with_room.ensures.empty, c.map_err.ensures, c.in_ok-statuses.was) in
    let no_marks : c.in_ok-marks.marks.items ≡ [] = search rules in
    let made : c.in_ok-run_queue.run_queue.queues ≡ replicate 1 [] = search rules in
    let members : c.in_ok-run_queue.run_queue.members ≡ most + 1 = search rules in
    let spare : c.in_ok-statuses.statuses.spare ≡ most = search (rules, c.most_goroutines-most.ensures, c.with_room.ensures.spare, c.map_err.ensures, c.in_ok-statuses.was) in
    let mark_spare : c.in_ok-marks.marks.spare ≡ most = search (rules, c.most_goroutines-most.ensures, c.with_room-2.ensures.spare, c.map_err-2.ensures, c.in_ok-marks.was) in
    let begun : c.in_ok-waiters.waiters ≡ nobody_waits most (names + names) = search rules in
    let few_names : names ≤ 4096 = search rules in
    let few_entries : c.args.limits.entries ≤ 200000 = search rules in
    let few_hooks : hook_count c.args.script.now ≤ names = count_by-le-length is_hook_decl c.args.script.now.decls in
    let statuses : c.put.new.self.items ≡ RunStatus.Queued ∷ [] = c.put.ensures.items ∙ ap (λ xs. xs ++ RunStatus.Queued ∷ []) empty in
    let marks : c.put-2.new.self.items ≡ [] ∷ [] = c.put-2.ensures.items ∙ (ap (λ ts. c.in_ok-marks.marks.items ++ ts ∷ []) c.none.ensures ∙ ap (λ xs. xs ++ [] ∷ []) no_marks) in
    let one : length c.put.new.self.items ≡ 1 = ap length statuses in
    let one_mark : length c.put-2.new.self.items ≡ 1 = ap length marks in
    let less : c.put.new.self.spare + 1 ≡ c.in_ok-statuses.statuses.spare = c.put.ensures.spare in
    let fewer_marks : c.put-2.new.self.spare + 1 ≡ c.in_ok-marks.marks.spare = c.put-2.ensures.spare in
    let room : length c.put.new.self.items + c.put.new.self.spare ≡ most = omega arith in
    let declared : length c.as_slice-declared.result.now ≡ names = ap length c.as_slice-declared.ensures in
    let lists : length c.in_ok-waiters.waiters.lists ≡ names + names = ap (λ (w : Waiting). length w.lists) begun ∙ length-replicate (names + names) [] in
    record {
      running = rw statuses refl;
      members = c.enqueue.ensures.members ∙ (members ∙ ap (λ k. k + 1) (sym room));
      queues = ap length c.enqueue.ensures.queues ∙ (length-set c.in_ok-run_queue.run_queue.queues 0 _ ∙ ap length made);
      goroutines = ap (λ (w : Waiting). w.goroutines) begun ∙ sym room;
      lists = lists ∙ ap (λ k. k + k) (sym declared);
      few = omega arith;
      parks = omega arith;
      tickets = hold-first m most (names + names) begun;
      marks = omega arith;
      mark_room = omega arith;
    }

pub enqueue-requires-clause-free : goal.enqueue-requires-clause-free
enqueue-requires-clause-free c w =
    let made : c.in_ok-run_queue.run_queue.queues ≡ replicate 1 [] = search rules in
    nobody w.0 (subst (λ qs. Contains (waiting_in qs w.0) 1) made w.1)
  where
    nobody : (q : ℕ) → Contains (waiting_in (replicate 1 []) q) 1 → ⊥
    nobody zero h = Contains-nil 1 h
    nobody (suc q) h = Contains-nil 1 h
