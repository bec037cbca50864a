-- A goroutine is parked among timers, and then counted at each, or it has received from one.
use Rattle.std.proofs.Common.{◌≡◌, ◌≢◌, ℕ, zero, suc, ◌<◌, ◌≤◌, List, [], ◌∷◌, length, refl, sym, ap, subst, ◌∙◌, arith, Option, None, Some, true, inl, inr}
use Rattle.gt_model.specs.declared.script.Instr.{Instr}
use Rattle.gt_model.specs.declared.script.CaseKind.{CaseKind}
use Rattle.gt_model.specs.declared.entry.Entry.{Entry}
use Rattle.gt_model.specs.Tables.{numbered}
use Rattle.gt_model.proofs.Items.{numbered-change_same, numbered-change_other}
use Rattle.gt_rules.specs.State.{stands_at}
use Rattle.gt_rules.specs.After.{first_state}
use Rattle.gt_rules.specs.History.{state_after}
use Rattle.gt_schedule.specs.Counts.{times}
use Rattle.gt_schedule.specs.declared.status.RunStatus.{RunStatus}
use Rattle.gt_schedule.specs.declared.status.Ticket.{Ticket}
use Rattle.gt_schedule.specs.Schedule.{Schedule, status_of, marks_at, mark_count, parked, ticket_of}
use Rattle.gt_schedule.proofs.Keeping.{numbered-le}
use Rattle.gt_book.specs.View.{BookView, IsLawful, outcome_of, with_schedule}
use Rattle.gt_book.specs.declared.step.Step.{Step}
use Rattle.gt_book.specs.Steps.{cases_of}
use Rattle.gt_book.proofs.Going.{IsStep, step-is}
use Rattle.gt_book.proofs.Setting.{ParksUnder}
use Rattle.gt_rows.specs.Rows.{next_of}
use Rattle.gt_book.proofs.Passing.{enters-script, enters-limits, enters-jumps, enters-longer, enters-hands}
use Rattle.gt_runner.specs.declared.runner.Runner.{Runner}
use Rattle.gt_runner.specs.Run.{Goes, Jumps}
use Rattle.gt_runner.specs.Served.{NamesTimers, MarkFits, MarkFitsAt, awaited_by}
use Rattle.gt_runner.specs.Serves.{ButMarks}
use Rattle.gt_runner.specs.Calls.{After, Ready, IsUncounted, EnrolsAll, ReceivesAfter}
use Rattle.gt_runner.proofs.Fitting.{fit-is}
use Rattle.gt_runner.proofs.Passes.{WasParked, was-parked_at, was-parked_cases, goes-waits, parked-hands}
use Rattle.gt_runner.proofs.Tending.{Spares, Stays, tended-spared}

-- ---- the marks and the status of who is parked, and of the others

pub parked-marks_at : (m n : Schedule) (g h : ℕ) → WasParked m n g → marks_at n h ≡ marks_at m h
parked-marks_at m n g h was = ap (λ (xs : List (List ℕ)). marks_at (record m { marks = xs }) h) was.marks

pub parked-status : (m n : Schedule) (g : ℕ) → WasParked m n g → status_of m g ≡ Some RunStatus.InHand → status_of n g ≡ Some (RunStatus.Parked m.parks)
parked-status m n g was in_hand =
    ap (λ (xs : List RunStatus). numbered xs g) was.statuses ∙ numbered-change_same m.statuses g (λ _. RunStatus.Parked m.parks) RunStatus.InHand in_hand

pub parked-others : (v : BookView) (n : Schedule) (g h : ℕ) → WasParked v.schedule n g → h ≢ g → MarkFitsAt v.script v.state v.schedule h → MarkFitsAt v.script v.state n h
parked-others v n g h was other fit =
    fit-is (marks_at n h) (marks_at v.schedule h) (awaited_by v.script v.state h) (awaited_by v.script v.state h) (status_of n h) (status_of v.schedule h)
    (parked-marks_at v.schedule n g h was) refl
    (ap (λ (xs : List RunStatus). numbered xs h) was.statuses ∙ numbered-change_other v.schedule.statuses g h (λ _. RunStatus.Parked v.schedule.parks) other) fit

pub parked-named : (v : BookView) (n : Schedule) (g : ℕ) → WasParked v.schedule n g → NamesTimers v → NamesTimers (with_schedule v n)
parked-named v n g was named h t some = named h t (subst (λ ts. 0 < times t ts) (parked-marks_at v.schedule n g h was) some)

pub none-marked : (x : Runner) (g : ℕ) → Ready x g → marks_at x.book.schedule g ≡ []
none-marked x g ready = subst (MarkFits (marks_at x.book.schedule g) (awaited_by x.book.script x.book.state g)) ready.alone.in_hand (ready.served.marks g)

pub spares-parked : (x x1 : Runner) (n : Schedule) → x1.book ≡ with_schedule x.book n → n.marks ≡ x.book.schedule.marks → x1.records ≡ x.records → x1.heap ≡ x.heap → x1.noted ≡ x.noted → Spares x x1
spares-parked x x1 n is marks records_are heap_is noted_is = record {
  records_are = records_are;
  heap_is = heap_is;
  noted_is = noted_is;
  limits = ap (λ (b : BookView). b.limits) is;
  script_is = ap (λ (b : BookView). b.script) is;
  stays = λ j. subst (λ b'. Stays x.book b' x.heap x.heap j) (sym is) (record {
    script_is = refl;
    due = inl refl;
    ended = λ h. h;
    period = refl;
    count = ap (λ xs. mark_count (record x.book.schedule { marks = xs }) j) marks;
    slot = refl;
    number_is = refl;
  });
}

-- ---- who was parked is counted nowhere yet

numbered-some : {X : Type 0} (xs : List X) (g : ℕ) → 1 ≤ g → g ≤ length xs → (x : X) × (numbered xs g ≡ Some x)
numbered-some xs zero a b = absurd (omega arith)
numbered-some [] (suc i) a b = absurd (omega arith)
numbered-some (x ∷ xs) (suc zero) a b = (x, refl)
numbered-some (x ∷ xs) (suc (suc i)) a b = numbered-some xs (suc i) (omega arith) (omega arith)

empty-marks : (m : Schedule) (g : ℕ) → length m.marks ≡ length m.statuses → status_of m g ≡ Some RunStatus.InHand → marks_at m g ≡ [] → numbered m.marks g ≡ Some []
empty-marks m g many e none =
    let last : g ≤ length m.statuses = numbered-le m.statuses g RunStatus.InHand e in
    let first : 1 ≤ g = positive g e in
    let found = numbered-some m.marks g first (omega arith) in
    found.1 ∙ ap Some (sym (ap list_or_none found.1) ∙ none)
  where
    positive : (g : ℕ) → status_of m g ≡ Some RunStatus.InHand → 1 ≤ g
    positive zero e = cc
    positive (suc i) e = omega arith

    list_or_none : Option (List ℕ) → List ℕ
    list_or_none None = []
    list_or_none (Some ts) = ts

pub parked-uncounted : (x x1 : Runner) (g : ℕ) (n : Schedule) (i : Instr) → Ready x g → stands_at x.book.script x.book.state g ≡ Some i
    → x1.book ≡ with_schedule x.book n → WasParked x.book.schedule n g → x1.records ≡ x.records → x1.heap ≡ x.heap → x1.noted ≡ x.noted
    → IsLawful x1.book → length x1.book.schedule.marks ≡ length x1.book.schedule.statuses → IsUncounted x1 (ticket_of x.book.schedule g)
parked-uncounted x x1 g n i ready stands is was records_are heap_is noted_is lawful many =
    let m : Schedule = x.book.schedule in
    record {
      but = record {
        tended = tended-spared x x1 ready.served.tended (spares-parked x x1 n is was.marks records_are heap_is noted_is);
        marks = λ h other. subst (λ (b : BookView). MarkFitsAt b.script b.state b.schedule h) (sym is) (parked-others x.book n g h was other (ready.served.marks h));
        named = subst NamesTimers (sym is) (parked-named x.book n g was ready.served.named);
      };
      lawful = lawful;
      marks_many = many;
      live = subst (λ (b : BookView). status_of b.schedule g ≡ Some (RunStatus.Parked m.parks)) (sym is) (parked-status m n g was ready.alone.in_hand);
      running = subst (λ (b : BookView). outcome_of b ≡ None) (sym is) ready.running;
      instr = i;
      stands = subst (λ (b : BookView). stands_at b.script b.state g ≡ Some i) (sym is) stands;
      awaits = refl;
      marked = subst (λ (b : BookView). numbered b.schedule.marks g ≡ Some []) (sym is)
          (ap (λ (xs : List (List ℕ)). numbered xs g) was.marks ∙ empty-marks m g ready.marks ready.alone.in_hand (none-marked x g ready));
    }

-- a book in which g was parked where it stood
pub record Parks (old : BookView) (g : ℕ) (new : BookView) : Type 0 where
  pub schedule : Schedule
  pub is : new ≡ with_schedule old schedule
  pub was : WasParked old.schedule schedule g
  pub instr : Instr
  pub stands : stands_at old.script old.state g ≡ Some instr

parks-by : (old : BookView) (g : ℕ) (new : BookView) (step : Step) (n : Schedule) → next_of old g ≡ Some step → new ≡ with_schedule old n → WasParked old.schedule n g → Parks old g new
parks-by old g new step n next is was =
    let st : IsStep old.script old.state old.schedule g step = step-is old.script old.state old.schedule g step next in
    record { schedule = n; is = is; was = was; instr = st.instr; stands = st.stands }

pub parks-under : (old : BookView) (g : ℕ) (ticket : Ticket) (new : BookView) → ParksUnder old g ticket new → Parks old g new
parks-under old g ticket new under =
    elim under.way [
      | inl plain ↦ parks-by old g new (Step.Waits plain.at) _ plain.waits plain.parked (was-parked_at old.schedule g (CaseKind.Recv plain.at))
      | inr choice ↦ parks-by old g new (Step.Chooses true) _ choice.waits choice.parked (was-parked_cases old.schedule g (cases_of (stands_at old.script old.state g)))
    ]

-- ---- parked, and then counted or gone

counts-goes : (x x1 : Runner) (b' : BookView) (g : ℕ) (n : Schedule) → Ready x g → x1.book ≡ with_schedule x.book n → n.statuses ≡ (parked x.book.schedule g).statuses
    → ButMarks x1.book b' → Goes g x.book b'
counts-goes x x1 b' g n ready is statuses counts =
    goes-waits x.book b' g counts.schedule (counts.is ∙ ap (λ (b : BookView). with_schedule b counts.schedule) is)
    (counts.statuses ∙ (ap (λ (b : BookView). b.schedule.statuses) is ∙ statuses)) ready.alone

receives-goes : (x x1 : Runner) (b' : BookView) (g : ℕ) (n : Schedule) → Ready x g → x1.book ≡ with_schedule x.book n → n.statuses ≡ (parked x.book.schedule g).statuses
    → ReceivesAfter x1.book b' → Goes g x.book b'
receives-goes x x1 b' g n ready is statuses got =
    let e : Entry = Entry.TRecv got.party got.timer got.due got.next in
    let m : Schedule = got.marks.schedule in
    let mid_is : got.mid ≡ with_schedule x.book m = got.marks.is ∙ ap (λ (b : BookView). with_schedule b m) is in
    let same : m.statuses ≡ (parked x.book.schedule g).statuses = got.marks.statuses ∙ (ap (λ (b : BookView). b.schedule.statuses) is ∙ statuses) in
    let reached : state_after got.mid.script (first_state got.mid.script) got.mid.history ≡ got.mid.state =
    subst (λ (b : BookView). state_after b.script (first_state b.script) b.history ≡ b.state) (sym mid_is) ready.lawful.reached in
    record {
      script = enters-script got.mid e b' got.entered ∙ ap (λ (b : BookView). b.script) mid_is;
      limits = enters-limits got.mid e b' got.entered ∙ ap (λ (b : BookView). b.limits) mid_is;
      jumps = λ jumps. enters-jumps got.mid e b' got.entered reached tt (subst Jumps (sym mid_is) jumps);
      hands = λ h q. ready.alone.alone h (parked-hands x.book.schedule m g h same
          (subst (λ (b : BookView). status_of b.schedule h ≡ Some RunStatus.InHand) mid_is (enters-hands got.mid e b' h got.entered q)));
      goes = inl (subst (λ (b : BookView). length b.history < length b'.history) mid_is (enters-longer got.mid e b' got.entered));
    }

pub after-enrols : (x x1 x' : Runner) (g : ℕ) (n : Schedule) → Ready x g → x1.book ≡ with_schedule x.book n → WasParked x.book.schedule n g → EnrolsAll x1 x' → After x x' g
after-enrols x x1 x' g n ready is was enrols = record {
  goes = elim enrols.does [
    | inl counts ↦ counts-goes x x1 x'.book g n ready is was.statuses counts
    | inr got ↦ receives-goes x x1 x'.book g n ready is was.statuses got
  ];
  served = enrols.served;
}
