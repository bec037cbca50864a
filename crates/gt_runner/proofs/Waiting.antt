-- What a whole call does that stops a timer, falls asleep or waits.
use Rattle.std.proofs.Common.{◌≡◌, ℕ, ◌+◌, ◌-◌, ◌*◌, ◌^◌, ◌<◌, ◌≤◌, List, [], ◌∷◌, ◌++◌, length, length-append, set, slice_get, refl, sym, ap, subst, ◌∙◌, arith, Option, None, Some, IsSome, IsSomeAnd, MatchOption, Bool, true, false, is_some, inl, inr}
use Rattle.std.specs.Option.{option_map}
use Rattle.std.proofs.lemmas.Bool.{cases_eq}
use Rattle.gt_model.specs.declared.script.Decl.{Decl}
use Rattle.gt_model.specs.declared.script.What.{What}
use Rattle.gt_model.specs.declared.script.Instr.{Instr}
use Rattle.gt_model.specs.declared.entry.Entry.{Entry}
use Rattle.gt_model.specs.declared.entry.Party.{Party}
use Rattle.gt_model.specs.Script.{names_timer, is_timer}
use Rattle.gt_model.proofs.Declared.{timer_setting}
use Rattle.gt_rules.specs.State.{clock}
use Rattle.gt_rules.specs.Operations.{offers, receives_from}
use Rattle.gt_rec.specs.declared.RecKind.{RecKind}
use Rattle.gt_rec.specs.Rec.{Rec, needs_heap, has_channel}
use Rattle.gt_rec.specs.Changes.{received, taken}
use Rattle.gt_lazy.specs.Slots.{LazyHeap}
use Rattle.gt_rows.specs.declared.answers.SetDone.{SetDone}
use Rattle.gt_rows.specs.declared.answers.StopDone.{StopDone}
use Rattle.gt_rows.specs.declared.answers.BlockDone.{BlockDone}
use Rattle.gt_rows.specs.Agrees.{kind_by, kind_of_what, of_declaration}
use Rattle.gt_rows.specs.Lent.{IsLentRec, IsPlaced, IsKept}
use Rattle.gt_rows.specs.Rows.{Pair, Parts, Answers, StopRow, StopsBy, SleepRow, SleepsBy, BlockRow, BlockCases, BlocksBy, ReceivesAtOnce, Blocks, stops, StopsAt, next_of}
use Rattle.gt_schedule.specs.declared.status.Ticket.{Ticket}
use Rattle.gt_schedule.specs.Counts.{times}
use Rattle.gt_schedule.specs.Schedule.{status_of, is_parked, marks_at, mark_count, marked, HasMarkRoom}
use Rattle.gt_book.specs.declared.step.Step.{Step}
use Rattle.gt_book.specs.declared.answers.TimerOp.{TimerOp}
use Rattle.gt_book.specs.View.{BookView, Enters, outcome_of, receiver_of, stands_for, with_schedule}
use Rattle.gt_book.proofs.Going.{in_hand-goes}
use Rattle.gt_runner.specs.declared.runner.Runner.{Runner}
use Rattle.gt_runner.specs.Served.{NamesTimers, IsWatched, MarkFitsAt, awaited_by, early_due, is_heaped, noted_at}
use Rattle.gt_runner.specs.Calls.{HasRecord, After, Ready, IsEnrolled, IsCounted, HasReceived, Enrols}
use Rattle.gt_runner.proofs.Marks.{count-few}
use Rattle.gt_runner.proofs.Awaiting.{WaitsAt, awaits-at, few-awaited}
use Rattle.gt_runner.proofs.Fitting.{fit-receives, fit-others, fit-few, named-enters, named-remarked, named-pushed}
use Rattle.gt_runner.proofs.Tending.{KeepsNote, tended-touched}
use Rattle.gt_runner.proofs.Touching.{needs-nothing, note-same, notes-keep, rests-touches, counts-touches}
use Rattle.gt_runner.proofs.Receiving.{taken-noted}
use Rattle.gt_runner.proofs.Calling.{record-is, after-enters, after-armed, in_hand-awake, stands-awake, stands-stop, stands-sleep, running-row, setting-record}

-- where the record stays is where it was
pub placed-same : (h : LazyHeap) (r r' : Rec) → r'.id ≡ r.id → r'.heaped ≡ r.heaped → r'.key ≡ r.key → IsPlaced h r → IsPlaced h r'
placed-same h r r' id heaped key p = record {
  here = λ e. subst (λ k. Rattle.std.proofs.Common.IsSomeAnd (Rattle.gt_lazy.specs.Slots.slot_with h.slots r'.id) (λ s. s.key ≡ k)) (sym key)
      (subst (λ i. Rattle.std.proofs.Common.IsSomeAnd (Rattle.gt_lazy.specs.Slots.slot_with h.slots i) (λ s. s.key ≡ r.key)) (sym id) (p.here (sym heaped ∙ e)));
  elsewhere = λ n. ap (Rattle.gt_lazy.specs.Slots.slot_with h.slots) id ∙ p.elsewhere (λ e. n (heaped ∙ e));
}

-- ---- stop

pub stop-stops : (v : BookView) (g t : ℕ) → next_of v g ≡ Some (Step.Needs (TimerOp.Stop t)) → StopsAt v g t
stop-stops v g t e = subst (λ o. elim o as (λ _. Type 0) [ None ↦ ⊥ | Some i ↦ stops i ≡ Some t ]) (sym (stands-stop v g t e)) refl

pub after-stop : (x x' : Runner) (g t : ℕ) (r r' : Rec) (reply : StopDone) → Ready x g → next_of x.book g ≡ Some (Step.Needs (TimerOp.Stop t)) → (h : HasRecord x t)
    → slice_get x.records.items t ≡ Some r → x'.records.items ≡ set x.records.items t r' → x'.records.spare ≡ x.records.spare → x'.noted ≡ x.noted → x'.heap ≡ x.heap
    → StopRow (record { rec = r; book = x.book }) g (record { rec = r'; book = x'.book }) reply → IsLentRec x'.book r' → After x x' g
after-stop x x' g t r r' reply ready next h there records_are spare noted_is heap_is row lent =
    let own = record-is x t r h there in
    let old : Pair = record { rec = r; book = x.book } in
    let new : Pair = record { rec = r'; book = x'.book } in
    let by : StopsBy old g new reply (next_of x.book g) = running-row x.book StopDone.Over reply (new ≡ old) (StopsBy old g new reply (next_of x.book g)) ready.running row in
    let s = subst (StopsBy old g new reply) next by in
    let same_heaped : r'.heaped ≡ r.heaped = ap (λ (r : Rec). r.heaped) s.rec in
    let same_id : r'.id ≡ r.id = ap (λ (r : Rec). r.id) s.rec in
    let number_is : x'.heap.number ≡ x.heap.number = ap (λ (h : LazyHeap). h.number) heap_is in
    after-enters x x' g _ ready s.entered (in_hand-goes (status_of x.book.schedule g) ready.alone.in_hand, tt) tt
    (tended-touched x x' t r r' ready.served.tended (rests-touches x x' t r r' _ ready.lawful (record {
      there = there;
      id_is = own.1;
      watched = own.2;
      records_are = records_are;
      spare = spare;
      notes = note-same x.noted x'.noted noted_is;
      enters = s.entered;
      leaves = λ j n. record { timer = λ e. n (sym e); mover = inr (in_hand-awake x.book g ready.lawful ready.alone.in_hand, refl); partner = tt; tree = tt };
      slots = λ j n. ap (λ (h : LazyHeap). Rattle.gt_lazy.specs.Slots.slot_with h.slots j) heap_is;
      number_is = number_is;
      room = (let heaped = ap (λ (r : Rec). Rattle.gt_schedule.specs.Counts.as_number (is_heaped r)) s.rec in let free = ap (λ (h : LazyHeap). h.spare) heap_is in rw (heaped, free) refl);
      kept = record { rec = lent; placed = subst (λ h. IsPlaced h r') (sym heap_is) (placed-same x.heap r r' same_id same_heaped (ap (λ (r : Rec). r.key) s.rec) own.2.kept.placed) };
      same_id = same_id;
      same_kind = ap (λ (r : Rec). r.kind) s.rec;
      same_blocked = ap (λ (r : Rec). r.blocked) s.rec;
      inside = λ some. same_heaped ∙ (own.2.inside (subst IsSome same_heaped some) ∙ ap Some (sym number_is));
      needs = needs-nothing x'.noted r' (ap needs_heap s.rec);
      none_ready = ap (λ (r : Rec). r.ready) s.rec;
      none_sent = ap (λ (r : Rec). r.sending) s.rec;
    })))

-- ---- sleep

pub sleep-sleeps : (v : BookView) (g d : ℕ) → next_of v g ≡ Some (Step.Needs (TimerOp.Sleep d)) → Rattle.gt_rows.specs.Rows.StandsAtSleep v g
sleep-sleeps v g d e =
    let found = stands-sleep v g d e in
    subst (λ o. elim o as (λ _. Type 0) [ None ↦ ⊥ | Some i ↦ Rattle.gt_rows.specs.Rows.sleeps i ≡ true ]) (sym found.1) refl

pub after-sleep : (x x' : Runner) (g d id : ℕ) (r r' : Rec) (reply : SetDone) → Ready x g → next_of x.book g ≡ Some (Step.Needs (TimerOp.Sleep d)) → id ≡ length x.book.script.decls + g → (h : HasRecord x id)
    → slice_get x.records.items id ≡ Some r → x'.records.items ≡ set x.records.items id r' → x'.records.spare ≡ x.records.spare → x'.noted ≡ noted_at x.noted r'
    → SleepRow (record { heap = x.heap; rec = r; book = x.book }) g (record { heap = x'.heap; rec = r'; book = x'.book }) reply → IsKept x'.book x'.heap r' → After x x' g
after-sleep x x' g d id r r' reply ready next its h there records_are spare noted_is row kept =
    let own = record-is x id r h there in
    let old : Parts = record { heap = x.heap; rec = r; book = x.book } in
    let new : Parts = record { heap = x'.heap; rec = r'; book = x'.book } in
    let by : SleepsBy old g new reply (next_of x.book g) = running-row x.book SetDone.Over reply (new ≡ old) (SleepsBy old g new reply (next_of x.book g)) ready.running row in
    let arms = subst (SleepsBy old g new reply) next by in
    after-armed x x' g id r r' _ _ _ reply ready (record {
      there = there;
      id_is = own.1;
      watched = own.2;
      records_are = records_are;
      spare = spare;
      noted_is = noted_is;
      arms = arms;
      kept = kept;
      leaves = λ j n. record { timer = tt; mover = inl (λ e. n (sym e ∙ sym its)); partner = tt; tree = tt };
      served = (ready.alone.in_hand, tt);
      clock = tt;
    })

-- ---- who is enrolled

-- the timer is one of those where the goroutine stands
pub enrolled-waits : (x : Runner) (ticket : Ticket) (t : ℕ) → IsEnrolled x ticket t → WaitsAt x.book.script x.book.state ticket.g t
enrolled-waits x ticket t en = awaits-at x.book.script x.book.state ticket.g t en.done en.left en.counting.awaits

pub enrolled-timer : (x : Runner) (ticket : Ticket) (t : ℕ) → IsEnrolled x ticket t → is_timer x.book.script t ≡ true
enrolled-timer x ticket t en = (enrolled-waits x ticket t en).timer

pub enrolled-stands : (x : Runner) (ticket : Ticket) (t : ℕ) → IsEnrolled x ticket t → stands_for x.book.script x.book.state ticket.g t ≡ true
enrolled-stands x ticket t en =
    let w : WaitsAt x.book.script x.book.state ticket.g t = enrolled-waits x ticket t en in
    ap (λ (o : Option Instr). elim o as (λ _. Bool) [ None ↦ false | Some i ↦ offers (receives_from t) i ]) w.stands ∙ w.offered

counted-marks : (x : Runner) (ticket : Ticket) (t : ℕ) → (en : IsEnrolled x ticket t) → marks_at x.book.schedule ticket.g ≡ en.done
counted-marks x ticket t en = ap list_or_none en.counting.marked
  where
    list_or_none : Option (List ℕ) → List ℕ
    list_or_none None = []
    list_or_none (Some ts) = ts

pub enrolled-room : (x : Runner) (ticket : Ticket) (t : ℕ) → IsEnrolled x ticket t → HasMarkRoom x.book.schedule ticket.g
enrolled-room x ticket t en =
    let all : length (awaited_by x.book.script x.book.state ticket.g) ≡ length (en.done ++ t ∷ en.left) = ap length en.counting.awaits in
    let both : length (en.done ++ t ∷ en.left) ≡ length en.done + length (t ∷ en.left) = length-append en.done (t ∷ en.left) in
    let few : length (awaited_by x.book.script x.book.state ticket.g) ≤ 16 = few-awaited x.book.script x.book.state ticket.g en.counting.lawful.good in
    let some : length en.done < 16 = omega arith in
    subst (λ ts. length ts < 16) (sym (counted-marks x ticket t en)) some

enrolled-few : (x : Runner) (ticket : Ticket) (t : ℕ) → IsEnrolled x ticket t → length (marks_at x.book.schedule ticket.g) ≤ 16
enrolled-few x ticket t en = let room : length (marks_at x.book.schedule ticket.g) < 16 = enrolled-room x ticket t en in omega arith

-- ---- it receives, or is counted

-- whether an answer says that the goroutine waits
abbrev pub waits_still : BlockDone → Bool
waits_still (BlockDone.Blocked lower) = true
waits_still _ = false

-- a section that was lent the record of a timer, with the run before and after it
pub record Lends (x x' : Runner) (t : ℕ) (r r' : Rec) : Type 0 where
  pub own : HasRecord x t
  pub channel : has_channel r.kind ≡ true
  pub there : slice_get x.records.items t ≡ Some r
  pub records_are : x'.records.items ≡ set x.records.items t r'
  pub spare : x'.records.spare ≡ x.records.spare
  pub noted_is : x'.noted ≡ noted_at x.noted r'
  pub few : mark_count x.book.schedule t + 1 ≤ 2 ^ 32 - 1
  pub kept : IsKept x'.book x'.heap r'

block-receives : (x x' : Runner) (ticket : Ticket) (t : ℕ) (r r' : Rec) (reply : BlockDone) (got : ℕ × Option ℕ) → IsEnrolled x ticket t → Lends x x' t r r'
    → received r (clock x.book.state 0) ≡ Some got → ReceivesAtOnce (record { heap = x.heap; rec = r; book = x.book }) ticket.g got.0 got.1 (record { heap = x'.heap; rec = r'; book = x'.book }) reply
    → HasReceived x x' ticket.g t
block-receives x x' ticket t r r' reply got en lent is row =
    let own = record-is x t r lent.own lent.there in
    let g : ℕ = ticket.g in
    let p : Party = receiver_of x.book.script x.book.state g t in
    let w : WaitsAt x.book.script x.book.state g t = enrolled-waits x ticket t en in
    let rec_is : r' ≡ taken r got.1 = row.rec in
    let same_heaped : r'.heaped ≡ r.heaped = ap (λ (r : Rec). r.heaped) rec_is in
    let same_id : r'.id ≡ r.id = ap (λ (r : Rec). r.id) rec_is in
    let number_is : x'.heap.number ≡ x.heap.number = ap (λ (h : LazyHeap). h.number) row.heap in
    let enters : Enters x.book (Entry.TRecv p t got.0 got.1) x'.book =
    subst (λ i. Enters x.book (Entry.TRecv (receiver_of x.book.script x.book.state g i) i got.0 got.1) x'.book) own.1 row.entered in
    let notes : KeepsNote x.noted x'.noted = λ w h. subst (λ o. IsSomeAnd o (λ v. v ≤ w)) (sym lent.noted_is) (notes-keep x.noted (early_due r') w h) in
    record {
      due = got.0;
      next = got.1;
      entered = enters;
      served = record {
        tended = tended-touched x x' t r r' en.counting.but.tended (rests-touches x x' t r r' _ en.counting.lawful (record {
          there = lent.there;
          id_is = own.1;
          watched = own.2;
          records_are = lent.records_are;
          spare = lent.spare;
          notes = notes;
          enters = enters;
          leaves = λ j n. record { timer = λ e. n (sym e); mover = inr (stands-awake x.book g w.instr w.stands, refl); partner = tt; tree = tt };
          slots = λ j n. ap (λ (h : LazyHeap). Rattle.gt_lazy.specs.Slots.slot_with h.slots j) row.heap;
          number_is = number_is;
          room = (let heaped = ap (λ (r : Rec). Rattle.gt_schedule.specs.Counts.as_number (is_heaped r)) rec_is in let free = ap (λ (h : LazyHeap). h.spare) row.heap in rw (heaped, free) refl);
          kept = lent.kept;
          same_id = same_id;
          same_kind = ap (λ (r : Rec). r.kind) rec_is;
          same_blocked = ap (λ (r : Rec). r.blocked) rec_is;
          inside = λ some. same_heaped ∙ (own.2.inside (subst IsSome same_heaped some) ∙ ap Some (sym number_is));
          needs = taken-noted x.book x.heap x.noted x'.noted r r' got en.counting.lawful own.2 is rec_is notes;
          none_ready = ap (λ (r : Rec). r.ready) rec_is;
          none_sent = ap (λ (r : Rec). r.sending) rec_is;
        }));
        marks = fit-receives x.book p t got.0 got.1 x'.book en.counting.lawful en.counting.marks_many enters (ap is_parked en.counting.live) en.counting.but.marks (enrolled-few x ticket t en);
        named = named-enters x.book (Entry.TRecv p t got.0 got.1) x'.book enters en.counting.but.named;
      };
    }

block-counts : (x x' : Runner) (ticket : Ticket) (t : ℕ) (r r' : Rec) (reply : BlockDone) → IsEnrolled x ticket t → Lends x x' t r r'
    → Blocks (record { heap = x.heap; rec = r; book = x.book }) ticket.g (record { heap = x'.heap; rec = r'; book = x'.book }) reply → IsCounted x x' ticket.g t
block-counts x x' ticket t r r' reply en lent row =
    let own = record-is x t r lent.own lent.there in
    let g : ℕ = ticket.g in
    let more : List ℕ → List ℕ = λ ts. ts ++ t ∷ [] in
    let book_is : x'.book ≡ with_schedule x.book (marked x.book.schedule g t) = row.book ∙ ap (λ i. with_schedule x.book (marked x.book.schedule g i)) own.1 in
    record {
      book_is = book_is;
      but = record {
        tended = tended-touched x x' t r r' en.counting.but.tended (counts-touches x x' t g r r' (record {
          there = lent.there;
          id_is = own.1;
          watched = own.2;
          records_are = lent.records_are;
          spare = lent.spare;
          noted_is = lent.noted_is;
          book_is = row.book;
          place = row.place;
          marks = en.done;
          has_marks = en.counting.marked;
          few = subst (λ i. mark_count x.book.schedule i + 1 ≤ 2 ^ 32 - 1) (sym own.1) lent.few;
          kept = lent.kept;
        }));
        marks = λ h n. subst (λ (b : BookView). MarkFitsAt b.script b.state b.schedule h) (sym book_is) (fit-others x.book g more en.counting.but.marks h n);
        named = subst NamesTimers (sym book_is) (named-remarked x.book g more en.done en.counting.marked en.counting.but.named
            (λ u h. named-pushed x.book.script t u en.done (enrolled-timer x ticket t en)
            (λ some. en.counting.but.named g u (subst (λ ts. 0 < times u ts) (sym (counted-marks x ticket t en)) some)) h));
      };
    }

-- who receives waits no more
received-answer : (b : BookView) (reply : BlockDone) → Answers b BlockDone.Over reply BlockDone.Received → waits_still reply ≡ false
received-answer b reply h =
    elim (outcome_of b) as (λ o. MatchOption o (reply ≡ BlockDone.Received) (λ outcome. reply ≡ BlockDone.Over outcome) → waits_still reply ≡ false) [
      | None ↦ λ is. ap waits_still is
      | Some outcome ↦ λ is. ap waits_still is
    ] h

blocks-enrols : (x x' : Runner) (ticket : Ticket) (t : ℕ) (r r' : Rec) (reply : BlockDone) (o : Option (ℕ × Option ℕ)) → IsEnrolled x ticket t → Lends x x' t r r'
    → received r (clock x.book.state 0) ≡ o → BlocksBy (record { heap = x.heap; rec = r; book = x.book }) ticket.g (record { heap = x'.heap; rec = r'; book = x'.book }) reply o
    → Enrols x x' ticket.g t (waits_still reply)
blocks-enrols x x' ticket t r r' reply (Some got) en lent is row =
    subst (Enrols x x' ticket.g t) (sym (received-answer x'.book reply row.answer)) (block-receives x x' ticket t r r' reply got en lent is row)
blocks-enrols x x' ticket t r r' reply None en lent is row =
    subst (Enrols x x' ticket.g t) (sym (ap waits_still row.answer)) (block-counts x x' ticket t r r' reply en lent row)

pub block-enrols : (x x' : Runner) (ticket : Ticket) (t : ℕ) (r r' : Rec) (reply : BlockDone) → IsEnrolled x ticket t → Lends x x' t r r'
    → BlockRow (record { heap = x.heap; rec = r; book = x.book }) ticket (record { heap = x'.heap; rec = r'; book = x'.book }) reply → Enrols x x' ticket.g t (waits_still reply)
block-enrols x x' ticket t r r' reply en lent row =
    let old : Parts = record { heap = x.heap; rec = r; book = x.book } in
    let new : Parts = record { heap = x'.heap; rec = r'; book = x'.book } in
    let cases : BlockCases old ticket new reply = running-row x.book BlockDone.Over reply (new ≡ old) (BlockCases old ticket new reply) en.counting.running row in
    blocks-enrols x x' ticket t r r' reply (received r (clock x.book.state 0)) en lent refl (cases.live en.counting.live)

-- the timer at which a goroutine waits has a record with a channel
pub waits-record : (x : Runner) (ticket : Ticket) (t : ℕ) → IsEnrolled x ticket t → HasRecord x t
waits-record x ticket t en =
    setting-record x t en.counting.but.tended (timer_setting x.book.script t (enrolled-timer x ticket t en))

timer-channel : (o : Option Decl) (kind : RecKind) → names_timer (option_map (λ (d : Decl). d.what) o) ≡ true
    → (elim o as (λ _. Option RecKind) [ None ↦ Some RecKind.Sleep | Some decl ↦ kind_of_what decl.what ]) ≡ Some kind → has_channel kind ≡ true
timer-channel None kind h e = cc
timer-channel (Some decl) kind h e = of_what decl.what kind h e
  where
    of_what : (w : What) (kind : RecKind) → names_timer (Some w) ≡ true → kind_of_what w ≡ Some kind → has_channel kind ≡ true
    of_what What.Timer kind h e = let is : RecKind.Timer ≡ kind = cc in ap has_channel (sym is)
    of_what What.Ticker kind h e = let is : RecKind.Ticker ≡ kind = cc in ap has_channel (sym is)
    of_what (What.AfterFunc f) kind h e = cc
    of_what (What.Chan cap) kind h e = cc
    of_what What.Mutex kind h e = cc
    of_what What.Wg kind h e = cc
    of_what (What.Cond mutex) kind h e = cc
    of_what (What.Ctx parent form) kind h e = cc
    of_what (What.Hook ctx func) kind h e = cc
    of_what What.Error kind h e = cc
    of_what What.Function kind h e = cc

pub channel-of : (x : Runner) (t : ℕ) (r : Rec) → is_timer x.book.script t ≡ true → HasRecord x t × (r.id ≡ t) × IsWatched x.book x.heap x.noted r → has_channel r.kind ≡ true
channel-of x t r timer own =
    let kind : kind_by x.book.script t ≡ Some r.kind = ap (kind_by x.book.script) (sym own.1) ∙ own.2.kept.rec.agrees.kind in
    timer-channel (of_declaration x.book.script t) r.kind timer kind

pub waits-channel : (x : Runner) (ticket : Ticket) (t : ℕ) (r : Rec) → IsEnrolled x ticket t → slice_get x.records.items t ≡ Some r → has_channel r.kind ≡ true
waits-channel x ticket t r en there =
    channel-of x t r (enrolled-timer x ticket t en) (record-is x t r (waits-record x ticket t en) there)

-- nobody has many marks
marks-few : (x : Runner) (ticket : Ticket) (t : ℕ) → IsEnrolled x ticket t → (g : ℕ) → length (marks_at x.book.schedule g) ≤ 16
marks-few x ticket t en g =
    elim (cases_eq g ticket.g) [
      | inl e ↦ subst (λ g. length (marks_at x.book.schedule g) ≤ 16) (sym e) (enrolled-few x ticket t en)
      | inr n ↦
          fit-few (marks_at x.book.schedule g) (awaited_by x.book.script x.book.state g) (status_of x.book.schedule g)
          (few-awaited x.book.script x.book.state g en.counting.lawful.good) (en.counting.but.marks g n)
    ]

pub count-room : (x : Runner) (ticket : Ticket) (t : ℕ) → IsEnrolled x ticket t → length x.book.schedule.statuses ≤ 204097 → mark_count x.book.schedule t + 1 ≤ 2 ^ 32 - 1
count-room x ticket t en most =
    let few : mark_count x.book.schedule t ≤ 16 * length x.book.schedule.marks = count-few x.book.schedule t (marks-few x ticket t en) in
    let many : length x.book.schedule.marks ≡ length x.book.schedule.statuses = en.counting.marks_many in
    omega arith
