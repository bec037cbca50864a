-- The record of a sleep is made before the first sleep of its goroutine.
use Rattle.std.proofs.Common.{◌≡◌, ◌≢◌, ℕ, zero, suc, ◌+◌, ◌<◌, ◌≤◌, cond, List, [], ◌∷◌, ◌++◌, length, length-append, slice_get, count_by, refl, sym, ap, subst, ◌∙◌, arith, Option, None, Some, false, inl, inr}
use Rattle.std.proofs.lemmas.Bool.{cases_eq, le-ltb}
use Rattle.gt_model.specs.declared.script.Decl.{Decl}
use Rattle.gt_rec.specs.declared.RecKind.{RecKind}
use Rattle.gt_rec.specs.Rec.{Rec, BitsRight}
use Rattle.gt_rec.specs.Changes.{unset_rec}
use Rattle.gt_room.specs.Contents.{Contents}
use Rattle.gt_rows.specs.Agrees.{kind_by, kind_of_what, period_of_timer}
use Rattle.gt_rules.specs.State.{timer_at}
use Rattle.std.proofs.lemmas.List.Sums.{count_by-le-length}
use Rattle.std.proofs.lemmas.Option.{slice_get_within}
use Rattle.gt_model.specs.declared.script.Script.{Script}
use Rattle.gt_model.specs.declared.entry.Limits.{Limits}
use Rattle.gt_model.specs.Good.{IsGood, AreLimits}
use Rattle.gt_model.specs.Tables.{numbered}
use Rattle.gt_schedule.specs.declared.status.RunStatus.{RunStatus}
use Rattle.gt_schedule.specs.Schedule.{most_goroutines, hook_count, is_hook_decl}
use Rattle.gt_schedule.proofs.Counting.{count-cons}
use Rattle.gt_book.specs.View.{BookView}
use Rattle.gt_runner.specs.declared.runner.Runner.{Runner}
use Rattle.gt_runner.specs.Run.{Goes}
use Rattle.gt_runner.specs.Served.{IsWatched, AtKind, IsAt, AtNumber, IsTended, IsServed, is_heaped}
use Rattle.gt_runner.specs.Calls.{After, Ready, Grows}

push-get_other : {X : Type 0} (xs : List X) (x : X) (i : ℕ) → i ≢ length xs → slice_get (xs ++ x ∷ []) i ≡ slice_get xs i
push-get_other [] x zero n = absurd (n refl)
push-get_other [] x (suc i) n = refl
push-get_other (y ∷ ys) x zero n = refl
push-get_other (y ∷ ys) x (suc i) n = push-get_other ys x i (λ e. n (ap suc e))

push-get_same : {X : Type 0} (xs : List X) (x : X) → slice_get (xs ++ x ∷ []) (length xs) ≡ Some x
push-get_same [] x = refl
push-get_same (y ∷ ys) x = push-get_same ys x

none-at_end : {X : Type 0} (xs : List X) → slice_get xs (length xs) ≡ None
none-at_end [] = refl
none-at_end (x ∷ xs) = none-at_end xs

beyond : {X : Type 0} (xs : List X) (i : ℕ) → length xs ≤ i → slice_get xs i ≡ None
beyond [] i h = refl
beyond (x ∷ xs) zero h = absurd (omega arith)
beyond (x ∷ xs) (suc i) h = beyond xs i (omega arith)

count-push : (xs : List Rec) (r : Rec) → is_heaped r ≡ false → count_by is_heaped (xs ++ r ∷ []) ≡ count_by is_heaped xs
count-push [] r e = rw e refl
count-push (x ∷ xs) r e =
    let before : count_by is_heaped (x ∷ xs) ≡ Rattle.gt_schedule.specs.Counts.as_number (is_heaped x) + count_by is_heaped xs = count-cons is_heaped x xs in
    let now : count_by is_heaped (x ∷ (xs ++ r ∷ [])) ≡ Rattle.gt_schedule.specs.Counts.as_number (is_heaped x) + count_by is_heaped (xs ++ r ∷ []) = count-cons is_heaped x (xs ++ r ∷ []) in
    let rest : count_by is_heaped (xs ++ r ∷ []) ≡ count_by is_heaped xs = count-push xs r e in
    omega arith

-- a record that shows nothing is right for a number that had none
unset-at : (x : Runner) (id : ℕ) → length x.book.script.decls ≤ id → BitsRight (unset_rec id RecKind.Sleep) → AtNumber x.book x.heap x.noted id None
    → IsAt x.book x.heap x.noted id (unset_rec id RecKind.Sleep)
unset-at x id behind bits at =
    let kind : kind_by x.book.script id ≡ Some RecKind.Sleep =
    ap (λ (o : Option Decl). elim o as (λ _. Option RecKind) [ None ↦ Some RecKind.Sleep | Some decl ↦ kind_of_what decl.what ]) (beyond x.book.script.decls id behind) in
    let watched : IsWatched x.book x.heap x.noted (unset_rec id RecKind.Sleep) = record {
      kept = record {
        rec = record {
          agrees = record {
            kind = kind;
            shown = inl (sym at.0);
            period = sym (ap (λ b. cond b (period_of_timer (timer_at x.book.state id)) 0) (le-ltb id (length x.book.script.decls) behind));
          };
          bits = bits;
        };
        placed = record { here = λ e. cc; elsewhere = λ n. at.1 };
      };
      inside = λ some. cc;
      heaped = λ n. cc;
      early = λ n w e l. cc;
      blocked = λ c. cc;
      none_ready = refl;
      none_sent = refl;
    } in
    record { id_is = refl; watched = subst (AtKind x.book x.heap x.noted id (unset_rec id RecKind.Sleep)) (sym kind) watched }

abbrev pub with_records : Runner → Contents Rec → Runner
with_records x records = record x { records = records }

pub tended-grown : (x : Runner) (records : Contents Rec) → IsTended x → BitsRight (unset_rec (length x.records.items) RecKind.Sleep)
    → records.items ≡ x.records.items ++ unset_rec (length x.records.items) RecKind.Sleep ∷ [] → records.spare + 1 ≡ x.records.spare → IsTended (with_records x records)
tended-grown x records t bits items spare =
    let r : Rec = unset_rec (length x.records.items) RecKind.Sleep in
    let more : length records.items ≡ length x.records.items + 1 = ap length items ∙ length-append x.records.items (r ∷ []) in
    let declared : length x.book.script.decls ≤ length x.records.items = t.declared in
    let all = t.record_room in
    let counted : count_by is_heaped records.items ≡ count_by is_heaped x.records.items = ap (count_by is_heaped) items ∙ count-push x.records.items r refl in
    let heap = t.heap_room in
    record {
      at = λ id. subst (λ xs. AtNumber x.book x.heap x.noted id (slice_get xs id)) (sym items)
          (elim (cases_eq id (length x.records.items)) [
            | inl e ↦ subst (λ k. AtNumber x.book x.heap x.noted k (slice_get (x.records.items ++ r ∷ []) k)) (sym e)
                (subst (AtNumber x.book x.heap x.noted (length x.records.items)) (sym (push-get_same x.records.items r))
                (unset-at x (length x.records.items) declared bits (subst (AtNumber x.book x.heap x.noted (length x.records.items)) (none-at_end x.records.items) (t.at (length x.records.items)))))
            | inr n ↦ subst (AtNumber x.book x.heap x.noted id) (sym (push-get_other x.records.items r id n)) (t.at id)
          ]);
      declared = omega arith;
      record_room = omega arith;
      heap_room = omega arith;
    }

-- ---- a call on a run that has grown is one on the run

pub ready-same : (x : Runner) (b : BookView) (g : ℕ) → b ≡ x.book → Ready x g → Ready (record x { book = b }) g
ready-same x b g is ready = subst (λ b. Ready (record x { book = b }) g) (sym is) ready

pub ready-grown : (x x1 : Runner) (g : ℕ) → Ready x g → IsServed x1 → Grows x x1 → Ready x1 g
ready-grown x x1 g ready served grows = record {
  served = served;
  lawful = subst Rattle.gt_book.specs.View.IsLawful (sym grows.book_is) ready.lawful;
  marks = subst (λ (b : BookView). length b.schedule.marks ≡ length b.schedule.statuses) (sym grows.book_is) ready.marks;
  alone = subst (λ b. Rattle.gt_runner.specs.Run.IsAlone b g) (sym grows.book_is) ready.alone;
  running = subst (λ b. Rattle.gt_book.specs.View.outcome_of b ≡ None) (sym grows.book_is) ready.running;
}

pub after-same : (x x1 x' : Runner) (g : ℕ) → x1.book ≡ x.book → After x1 x' g → After x x' g
after-same x x1 x' g is a = record { goes = subst (λ b. Goes g b x'.book) is a.goes; served = a.served }

-- ---- how many goroutines there are at most

pub most-few : (script : Script) (limits : Limits) → IsGood script → AreLimits limits → most_goroutines script limits ≤ 204097
most-few script limits good are =
    let entries : limits.entries ≤ 200000 = are.most in
    let names : length script.decls ≤ 4096 = good.few_names in
    let hooks : hook_count script ≤ length script.decls = count_by-le-length is_hook_decl script.decls in
    omega arith

-- and who is in hand is one of them
pub hand-below : (xs : List RunStatus) (g : ℕ) (x : RunStatus) → numbered xs g ≡ Some x → g ≤ length xs
hand-below xs zero x e = omega arith
hand-below xs (suc i) x e = let inside : i < length xs = slice_get_within xs i x e in omega arith
