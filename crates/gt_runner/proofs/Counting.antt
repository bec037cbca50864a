-- A goroutine that waits is counted at each of its timers in turn.
use Rattle.std.proofs.Common.{◌≡◌, ℕ, zero, suc, ◌<◌, ◌≤◌, List, [], ◌∷◌, ◌++◌, length, map, take, drop, slice_get, refl, sym, ap, subst, ◌∙◌, arith, append_assoc, append-nil, Option, None, Some, IsSome, inl, inr}
use Rattle.std.specs.List.{filter_map, cons_option}
use Rattle.std.proofs.lemmas.Bool.{cases_eq}
use Rattle.std.proofs.lemmas.Option.{slice_get_within}
use Rattle.gt_model.specs.declared.script.Script.{Script}
use Rattle.gt_model.specs.declared.script.Instr.{Instr}
use Rattle.gt_model.specs.declared.script.Case.{Case}
use Rattle.gt_model.specs.declared.script.CaseKind.{CaseKind}
use Rattle.gt_model.specs.declared.state.Goroutine.{Goroutine}
use Rattle.gt_model.specs.Script.{instr_at}
use Rattle.gt_model.specs.Good.{NamesRightly, OperatesRightly}
use Rattle.gt_model.specs.Tables.{numbered}
use Rattle.gt_model.proofs.GoodCode.{all_at}
use Rattle.gt_model.proofs.Changes.{length-change_numbered}
use Rattle.gt_model.proofs.Items.{numbered-change_same}
use Rattle.gt_rules.specs.State.{State, stands_at, goroutine_at}
use Rattle.gt_facts.proofs.Lookups.{Standing, standing}
use Rattle.gt_facts.proofs.Named.{names-instr_at}
use Rattle.gt_machine.specs.Places.{placed_at}
use Rattle.gt_schedule.specs.declared.status.Ticket.{Ticket}
use Rattle.gt_schedule.specs.Schedule.{Schedule, marks_at, marked, IsLive}
use Rattle.gt_book.specs.Steps.{timer_of}
use Rattle.gt_book.specs.View.{BookView, IsLawful, outcome_of, receiver_of, with_schedule}
use Rattle.gt_runner.specs.declared.runner.Runner.{Runner}
use Rattle.gt_runner.specs.Served.{MarkFits, MarkFitsAt, awaited_by, operations_of, timers_of}
use Rattle.gt_runner.specs.Serves.{ButMarks}
use Rattle.gt_runner.proofs.Awaiting.{few-operations}
use Rattle.gt_runner.specs.Calls.{IsCounting, IsEnrolled, IsCounted, HasReceived, IsUncounted, EnrolsAll}

-- ---- a list up to a place and from there on

module _ {X Y : Type 0} (f : X → Option Y) where
  taken-more : (xs : List X) (k : ℕ) (x : X) → slice_get xs k ≡ Some x → filter_map f (take (suc k) xs) ≡ filter_map f (take k xs) ++ cons_option (f x) []
  taken-more [] k x e = cc
  taken-more (y ∷ ys) zero x e = let is : y ≡ x = cc in ap (λ z. cons_option (f z) []) is
  taken-more (y ∷ ys) (suc k) x e = ap (cons_option (f y)) (taken-more ys k x e) ∙ onto (f y) (filter_map f (take k ys)) (cons_option (f x) [])
    where
      onto : (o : Option Y) (us vs : List Y) → cons_option o (us ++ vs) ≡ cons_option o us ++ vs
      onto None us vs = refl
      onto (Some z) us vs = refl

  dropped-less : (xs : List X) (k : ℕ) (x : X) → slice_get xs k ≡ Some x → filter_map f (drop k xs) ≡ cons_option (f x) (filter_map f (drop (suc k) xs))
  dropped-less [] k x e = cc
  dropped-less (y ∷ ys) zero x e = let is : y ≡ x = cc in ap (λ z. cons_option (f z) (filter_map f ys)) is
  dropped-less (y ∷ ys) (suc k) x e = dropped-less ys k x e

  dropped-all : (xs : List X) (k : ℕ) → slice_get xs k ≡ None → filter_map f (drop k xs) ≡ []
  dropped-all [] zero e = refl
  dropped-all [] (suc k) e = refl
  dropped-all (y ∷ ys) zero e = cc
  dropped-all (y ∷ ys) (suc k) e = dropped-all ys k e

-- ---- the operations of an instruction of a good script

mapped-get : {X Y : Type 0} (f : X → Y) (xs : List X) (k : ℕ) (y : Y) → slice_get (map f xs) k ≡ Some y → (x : X) × (slice_get xs k ≡ Some x) × (f x ≡ y)
mapped-get f [] k y e = cc
mapped-get f (x ∷ xs) zero y e = (x, refl, (cc))
mapped-get f (x ∷ xs) (suc k) y e = mapped-get f xs k y e

names-operations : (script : Script) (i : Instr) (k : ℕ) (kind : CaseKind) → NamesRightly script i → slice_get (operations_of i) k ≡ Some kind → OperatesRightly script kind
names-operations script (Instr.Recv o) zero kind names e = let is : CaseKind.Recv o ≡ kind = cc in subst (OperatesRightly script) is names
names-operations script (Instr.Recv o) (suc k) kind names e = cc
names-operations script (Instr.Select cases default_to) k kind names e =
    let found = mapped-get (λ (c : Case). c.kind) cases k kind e in
    subst (OperatesRightly script) found.2 (all_at (λ (c : Case). OperatesRightly script c.kind) cases k found.0 names.each found.1)
names-operations script i k kind names e = cc

-- ---- the run, once a goroutine was counted at the timers among its first k operations

pub record Counts (x0 x : Runner) (ticket : Ticket) (k : ℕ) : Type 0 where
  pub few : k ≤ 16
  pub marks : ButMarks x0.book x.book
  pub instr : Instr
  pub stands : stands_at x.book.script x.book.state ticket.g ≡ Some instr
  pub counting : IsCounting x ticket (filter_map (timer_of x.book.script) (take k (operations_of instr))) (filter_map (timer_of x.book.script) (drop k (operations_of instr)))

same-lists : (x : Runner) (ticket : Ticket) (done done' left left' : List ℕ) → done ≡ done' → left ≡ left' → IsCounting x ticket done left → IsCounting x ticket done' left'
same-lists x ticket done done' left left' p q c = subst (λ ts. IsCounting x ticket ts left') p (subst (λ ts. IsCounting x ticket done ts) q c)

awaits-timers : (script : Script) (s : State) (g : ℕ) (i : Instr) → stands_at script s g ≡ Some i → awaited_by script s g ≡ timers_of script i
awaits-timers script s g i e = ap (λ (o : Option Instr). elim o as (λ _. List ℕ) [ None ↦ [] | Some i ↦ timers_of script i ]) e

pub counts-first : (x : Runner) (ticket : Ticket) → IsUncounted x ticket → Counts x x ticket 0
counts-first x ticket c = record {
  few = omega arith;
  marks = record { schedule = x.book.schedule; is = refl; statuses = refl; run_queue = refl };
  instr = c.instr;
  stands = c.stands;
  counting = same-lists x ticket [] [] (awaited_by x.book.script x.book.state ticket.g) (timers_of x.book.script c.instr) refl
      (awaits-timers x.book.script x.book.state ticket.g c.instr c.stands) c;
}

marks-are : (m : Schedule) (g : ℕ) (ts : List ℕ) → numbered m.marks g ≡ Some ts → marks_at m g ≡ ts
marks-are m g ts e = rw e refl

-- marks are nobody's status, and stand in no list
lawful-marked : (v : BookView) (marks : List (List ℕ)) → IsLawful v → IsLawful (with_schedule v (record v.schedule { marks = marks }))
lawful-marked v marks lawful = record {
  good = lawful.good;
  limits = lawful.limits;
  legal = lawful.legal;
  reached = lawful.reached;
  goes = lawful.goes;
  formed = lawful.formed;
  fits = record {
    as_many = lawful.fits.as_many;
    mutexes = lawful.fits.mutexes;
    receivers = lawful.fits.receivers;
    senders = lawful.fits.senders;
    agree = lawful.fits.agree;
    queued = lawful.fits.queued;
    waiting = lawful.fits.waiting;
    sending = lawful.fits.sending;
  };
  calm = λ running h waits. lawful.calm running h waits;
}

counted-counting : (x x' : Runner) (ticket : Ticket) (done left : List ℕ) (t : ℕ) → IsCounting x ticket done (t ∷ left) → IsCounted x x' ticket.g t → IsCounting x' ticket (done ++ t ∷ []) left
counted-counting x x' ticket done left t c counted =
    let g : ℕ = ticket.g in
    let m : Schedule = x.book.schedule in
    let is : x'.book ≡ with_schedule x.book (marked m g t) = counted.book_is in
    record {
      but = counted.but;
      lawful = subst IsLawful (sym is) (lawful-marked x.book (marked m g t).marks c.lawful);
      marks_many = subst (λ (b : BookView). length b.schedule.marks ≡ length b.schedule.statuses) (sym is) (length-change_numbered m.marks g (λ ts. ts ++ t ∷ []) ∙ c.marks_many);
      live = subst (λ (b : BookView). IsLive b.schedule ticket) (sym is) c.live;
      running = subst (λ (b : BookView). outcome_of b ≡ None) (sym is) c.running;
      instr = c.instr;
      stands = subst (λ (b : BookView). stands_at b.script b.state g ≡ Some c.instr) (sym is) c.stands;
      awaits = subst (λ (b : BookView). awaited_by b.script b.state g ≡ (done ++ t ∷ []) ++ left) (sym is) (c.awaits ∙ sym (append_assoc done (t ∷ []) left));
      marked = subst (λ (b : BookView). numbered b.schedule.marks g ≡ Some (done ++ t ∷ [])) (sym is) (numbered-change_same m.marks g (λ ts. ts ++ t ∷ []) done c.marked);
    }

marks-one : (b0 b b' : BookView) (g t : ℕ) → ButMarks b0 b → b' ≡ with_schedule b (marked b.schedule g t) → ButMarks b0 b'
marks-one b0 b b' g t marks is = record {
  schedule = marked b.schedule g t;
  is = is ∙ ap (λ (v : BookView). with_schedule v (marked b.schedule g t)) marks.is;
  statuses = ap (λ (v : BookView). v.schedule.statuses) marks.is ∙ marks.statuses;
  run_queue = ap (λ (v : BookView). v.schedule.run_queue) marks.is ∙ marks.run_queue;
}

module _ (x0 x : Runner) (ticket : Ticket) (k : ℕ) (c : Counts x0 x ticket k) where
  names-stands : NamesRightly x.book.script c.instr
  names-stands =
      let st : Standing x.book.script x.book.state ticket.g c.instr = standing x.book.script x.book.state ticket.g c.instr c.stands in
      names-instr_at x.book.script st.who.place c.instr c.counting.lawful.good st.on

  pub counts-there : IsSome (goroutine_at x.book.state ticket.g)
  counts-there = let st : Standing x.book.script x.book.state ticket.g c.instr = standing x.book.script x.book.state ticket.g c.instr c.stands in subst IsSome (sym st.there) refl

  -- where it stands is where it is placed
  stands-placed : (i : Instr) → placed_at x.book.script x.book.state ticket.g ≡ Some i → i ≡ c.instr
  stands-placed i e =
      let st : Standing x.book.script x.book.state ticket.g c.instr = standing x.book.script x.book.state ticket.g c.instr c.stands in
      let placed : placed_at x.book.script x.book.state ticket.g ≡ Some c.instr =
      ap (λ (o : Option Goroutine). elim o as (λ _. Option Instr) [ None ↦ None | Some r ↦ instr_at x.book.script r.place ]) st.there ∙ st.on in
      cc

  pub counts-operation : (i : Instr) (o : Option CaseKind) → placed_at x.book.script x.book.state ticket.g ≡ Some i → o ≡ slice_get (operations_of i) k → slice_get (operations_of c.instr) k ≡ o
  counts-operation i o e is = sym (is ∙ ap (λ i. slice_get (operations_of i) k) (stands-placed i e))

  pub counts-names : (kind : CaseKind) → slice_get (operations_of c.instr) k ≡ Some kind → OperatesRightly x.book.script kind
  counts-names kind e = names-operations x.book.script c.instr k kind names-stands e

  pub counts-below : (kind : CaseKind) → slice_get (operations_of c.instr) k ≡ Some kind → k < 16
  counts-below kind e =
      let below : k < length (operations_of c.instr) = slice_get_within (operations_of c.instr) k kind e in
      let few : length (operations_of c.instr) ≤ 16 = few-operations x.book.script c.instr names-stands in
      omega arith

  -- the timers among the operations so far, and among those from a place on
  abbrev before : List ℕ
  before = filter_map (timer_of x.book.script) (take k (operations_of c.instr))

  abbrev behind : ℕ → List ℕ
  behind n = filter_map (timer_of x.book.script) (drop n (operations_of c.instr))

  -- it awaits no timer at the next one
  pub counts-skips : (kind : CaseKind) → slice_get (operations_of c.instr) k ≡ Some kind → timer_of x.book.script kind ≡ None → Counts x0 x ticket (suc k)
  counts-skips kind e none =
      let more : filter_map (timer_of x.book.script) (take (suc k) (operations_of c.instr)) ≡ before =
      taken-more (timer_of x.book.script) (operations_of c.instr) k kind e ∙ (ap (λ o. before ++ cons_option o []) none ∙ append-nil before) in
      record {
        few = counts-below kind e;
        marks = c.marks;
        instr = c.instr;
        stands = c.stands;
        counting = same-lists x ticket before (filter_map (timer_of x.book.script) (take (suc k) (operations_of c.instr))) (behind k) (behind (suc k)) (sym more)
            (dropped-less (timer_of x.book.script) (operations_of c.instr) k kind e ∙ ap (λ o. cons_option o (behind (suc k))) none) c.counting;
      }

  -- it awaits one there
  next-counting : (kind : CaseKind) (t : ℕ) → slice_get (operations_of c.instr) k ≡ Some kind → timer_of x.book.script kind ≡ Some t → IsCounting x ticket before (t ∷ behind (suc k))
  next-counting kind t e timer =
      same-lists x ticket before before (behind k) (t ∷ behind (suc k)) refl
      (dropped-less (timer_of x.book.script) (operations_of c.instr) k kind e ∙ ap (λ o. cons_option o (behind (suc k))) timer) c.counting

  pub counts-enrolled : (kind : CaseKind) (t : ℕ) → slice_get (operations_of c.instr) k ≡ Some kind → timer_of x.book.script kind ≡ Some t → IsEnrolled x ticket t
  counts-enrolled kind t e timer = record { done = before; left = behind (suc k); counting = next-counting kind t e timer }

  -- it is counted there
  pub counts-one : (x' : Runner) (kind : CaseKind) (t : ℕ) → slice_get (operations_of c.instr) k ≡ Some kind → timer_of x.book.script kind ≡ Some t → IsCounted x x' ticket.g t
      → Counts x0 x' ticket (suc k)
  counts-one x' kind t e timer counted =
      let next : IsCounting x' ticket (before ++ t ∷ []) (behind (suc k)) = counted-counting x x' ticket before (behind (suc k)) t (next-counting kind t e timer) counted in
      let more : filter_map (timer_of x.book.script) (take (suc k) (operations_of c.instr)) ≡ before ++ t ∷ [] =
      taken-more (timer_of x.book.script) (operations_of c.instr) k kind e ∙ ap (λ o. before ++ cons_option o []) timer in
      record {
        few = counts-below kind e;
        marks = marks-one x0.book x.book x'.book ticket.g t c.marks counted.book_is;
        instr = c.instr;
        stands = subst (λ (b : BookView). stands_at b.script b.state ticket.g ≡ Some c.instr) (sym counted.book_is) c.stands;
        counting = subst (λ (script : Script). IsCounting x' ticket (filter_map (timer_of script) (take (suc k) (operations_of c.instr))) (filter_map (timer_of script) (drop (suc k) (operations_of c.instr))))
            (sym (ap (λ (b : BookView). b.script) counted.book_is))
            (same-lists x' ticket (before ++ t ∷ []) (filter_map (timer_of x.book.script) (take (suc k) (operations_of c.instr))) (behind (suc k)) (behind (suc k)) (sym more) refl next);
      }

  -- it has received there
  pub counts-received : (x' : Runner) (t : ℕ) → HasReceived x x' ticket.g t → EnrolsAll x0 x'
  counts-received x' t got = record {
    does = inr (record {
      mid = x.book;
      party = receiver_of x.book.script x.book.state ticket.g t;
      timer = t;
      due = got.due;
      next = got.next;
      marks = c.marks;
      entered = got.entered;
    });
    served = got.served;
  }

  -- no operation is left
  pub counts-all : slice_get (operations_of c.instr) k ≡ None → EnrolsAll x0 x
  counts-all e =
      let awaited : awaited_by x.book.script x.book.state ticket.g ≡ before =
      c.counting.awaits ∙ (ap (λ ts. before ++ ts) (dropped-all (timer_of x.book.script) (operations_of c.instr) k e) ∙ append-nil before) in
      record {
        does = inl c.marks;
        served = record {
          tended = c.counting.but.tended;
          marks = λ h. elim (cases_eq h ticket.g) [
            | inl is ↦
                subst (λ h. MarkFitsAt x.book.script x.book.state x.book.schedule h) (sym is)
                (subst (MarkFits (marks_at x.book.schedule ticket.g) (awaited_by x.book.script x.book.state ticket.g)) (sym c.counting.live)
                (marks-are x.book.schedule ticket.g before c.counting.marked ∙ sym awaited))
            | inr other ↦ c.counting.but.marks h other
          ];
          named = c.counting.but.named;
        };
      }
