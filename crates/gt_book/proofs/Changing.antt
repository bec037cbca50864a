-- What a schedule says of one goroutine, and that it fits where one goroutine alone changes.
use Rattle.std.proofs.Common.{map, ◌≡◌, ◌≢◌, ℕ, ◌+◌, ◌<◌, List, length, refl, sym, ap, subst, ◌∙◌, Option, None, Some, Bool, true, false, ◌&&◌, inl, inr}
use Rattle.std.proofs.lemmas.Bool.{cases_eq}
use Rattle.gt_model.specs.declared.script.Script.{Script}
use Rattle.gt_model.specs.declared.script.CaseKind.{CaseKind}
use Rattle.gt_model.specs.declared.entry.Party.{Party}
use Rattle.gt_model.specs.declared.state.Goroutine.{Goroutine}
use Rattle.gt_model.specs.Tables.{numbered, change_numbered}
use Rattle.gt_model.proofs.Changes.{length-change_numbered}
use Rattle.gt_model.proofs.Items.{numbered-change_same, numbered-change_other, HasNumber, has_number}
use Rattle.gt_rules.specs.State.{State, goroutine_at}
use Rattle.gt_rules.specs.Operations.{receives_from, sends_to}
use Rattle.gt_schedule.specs.declared.status.RunStatus.{RunStatus}
use Rattle.gt_schedule.specs.Counts.{as_number, times, often}
use Rattle.gt_schedule.specs.Schedule.{Schedule, mutex_in, status_of, is_queued, is_parked, parties_at, unparked}
use Rattle.gt_schedule.proofs.Lists.{times-push_same, times-push_other, length-left, often-left_same, often-left_other}
use Rattle.gt_schedule.proofs.Counting.{Parking, status-parked}
use Rattle.gt_book.specs.View.{Agrees, wanted, Fits}
use Rattle.gt_model.specs.declared.script.Decl.{Decl}
use Rattle.std.specs.Option.{option_and_then}

-- ---- the facts of one goroutine

-- whether a goroutine waits, under a case number, for what passes a test
abbrev pub wants_of : Script → Option Goroutine → ℕ → (CaseKind → Bool) → Bool
wants_of script o n test = elim (option_and_then (wanted script n) o) [ None ↦ false | Some kind ↦ test kind ]

abbrev pub party : ℕ → ℕ → Party
party g n = record { g = g; case_no = n }

-- the lists have a goroutine exactly where it is parked and waits for what passes the test of their declaration
abbrev pub InLists : Script → List (List Party) → ℕ → Option Goroutine → Option RunStatus → (ℕ → CaseKind → Bool) → Type 0
InLists script lists g o status test =
    (t n : ℕ) → t < length script.decls → often (party g n) (parties_at lists t) ≡ as_number (is_parked status && wants_of script o n (test t))

-- a goroutine fits its status, and stands where its status says
pub record FitsOne (script : Script) (m : Schedule) (g : ℕ) (o : Option Goroutine) (status : Option RunStatus) : Type 0 where
  pub agree : (r : Goroutine) (x : RunStatus) → o ≡ Some r → status ≡ Some x → Agrees r.mode x
  pub queued : times g m.run_queue ≡ as_number (is_queued status)
  pub waiting : InLists script m.receivers g o status receives_from
  pub sending : InLists script m.senders g o status sends_to

pub fits-one : (script : Script) (s : State) (m : Schedule) (g : ℕ) → Fits script s m → FitsOne script m g (goroutine_at s g) (status_of m g)
fits-one script s m g fits = record {
  agree = fits.agree g;
  queued = fits.queued g;
  waiting = λ t n h. fits.waiting t (party g n) h;
  sending = λ c n h. fits.sending c (party g n) h;
}

pub fits-from_each : (script : Script) (s : State) (m : Schedule) → length m.statuses ≡ length s.goroutines
    → m.mutexes ≡ map (λ (d : Decl). mutex_in d.what) script.decls
    → length m.receivers ≡ length script.decls → length m.senders ≡ length script.decls → ((g : ℕ) → FitsOne script m g (goroutine_at s g) (status_of m g)) → Fits script s m
fits-from_each script s m as_many mutexes receivers senders each = record {
  as_many = as_many;
  mutexes = mutexes;
  receivers = receivers;
  senders = senders;
  agree = λ g. (each g).agree;
  queued = λ g. (each g).queued;
  waiting = λ t p h. (each p.g).waiting t p.case_no h;
  sending = λ c p h. (each p.g).sending c p.case_no h;
}

-- what is known of a goroutine and its status
pub one-is : (script : Script) (m : Schedule) (g : ℕ) (o p : Option Goroutine) (x y : Option RunStatus) → o ≡ p → x ≡ y → FitsOne script m g p y
    → FitsOne script m g o x
one-is script m g o p x y e f one = subst (λ o. FitsOne script m g o x) (sym e) (subst (λ x. FitsOne script m g p x) (sym f) one)

-- a goroutine with its status
pub one-of : (script : Script) (m : Schedule) (g : ℕ) (r : Goroutine) (x : RunStatus) → Agrees r.mode x
    → times g m.run_queue ≡ as_number (is_queued (Some x))
    → InLists script m.receivers g (Some r) (Some x) receives_from
    → InLists script m.senders g (Some r) (Some x) sends_to
    → FitsOne script m g (Some r) (Some x)
one-of script m g r x agrees in_run in_receivers in_senders = record {
  agree = λ q y e f.
      let same : r ≡ q = cc in
      let known : x ≡ y = cc in
      subst (λ (q : Goroutine). Agrees q.mode y) same (subst (λ (y : RunStatus). Agrees r.mode y) known agrees);
  queued = in_run;
  waiting = in_receivers;
  sending = in_senders;
}

-- ---- the number and the status of a goroutine come together

pub has_goroutine : (script : Script) (s : State) (m : Schedule) (g : ℕ) (x : RunStatus) → Fits script s m → status_of m g ≡ Some x → HasNumber s.goroutines g
has_goroutine script s m g x fits e = has_number m.statuses s.goroutines g x fits.as_many e

pub has_status : (script : Script) (s : State) (m : Schedule) (g : ℕ) (r : Goroutine) → Fits script s m → goroutine_at s g ≡ Some r → HasNumber m.statuses g
has_status script s m g r fits e = has_number s.goroutines m.statuses g r (sym fits.as_many) e

-- what is known of a goroutine by its status
pub record Known (script : Script) (s : State) (m : Schedule) (g : ℕ) (x : RunStatus) : Type 0 where
  pub who : Goroutine
  pub there : goroutine_at s g ≡ Some who
  pub agrees : Agrees who.mode x
  pub one : FitsOne script m g (Some who) (Some x)

pub known : (script : Script) (s : State) (m : Schedule) (g : ℕ) (x : RunStatus) → Fits script s m → status_of m g ≡ Some x → Known script s m g x
known script s m g x fits e =
    let found : HasNumber s.goroutines g = has_goroutine script s m g x fits e in
    let there : goroutine_at s g ≡ Some found.item = found.there in
    record {
      who = found.item;
      there = there;
      agrees = fits.agree g found.item x there e;
      one = one-is script m g (Some found.item) (goroutine_at s g) (Some x) (status_of m g) (sym there) (sym e) (fits-one script s m g fits);
    }

-- ---- one goroutine changes

-- g alone changes; the run queue and the lists keep the others as they are
pub fits-changes : (script : Script) (s next : State) (m n : Schedule) (g : ℕ)
    → Fits script s m
    → length n.statuses ≡ length next.goroutines
    → n.mutexes ≡ m.mutexes
    → length n.receivers ≡ length m.receivers
    → length n.senders ≡ length m.senders
    → ((x : ℕ) → x ≢ g → goroutine_at next x ≡ goroutine_at s x)
    → ((x : ℕ) → x ≢ g → status_of n x ≡ status_of m x)
    → ((x : ℕ) → x ≢ g → times x n.run_queue ≡ times x m.run_queue)
    → ((t : ℕ) (p : Party) → p.g ≢ g → often p (parties_at n.receivers t) ≡ often p (parties_at m.receivers t))
    → ((t : ℕ) (p : Party) → p.g ≢ g → often p (parties_at n.senders t) ≡ often p (parties_at m.senders t))
    → FitsOne script n g (goroutine_at next g) (status_of n g)
    → Fits script next n
fits-changes script s next m n g fits as_many mutexes receivers senders others statuses in_run in_receivers in_senders one =
    fits-from_each script next n as_many (mutexes ∙ fits.mutexes) (receivers ∙ fits.receivers) (senders ∙ fits.senders) (λ x.
    elim (cases_eq x g) [
      | inl e ↦ subst (λ x. FitsOne script n x (goroutine_at next x) (status_of n x)) (sym e) one
      | inr k ↦
          let before : FitsOne script m x (goroutine_at s x) (status_of m x) = fits-one script s m x fits in
          one-is script n x (goroutine_at next x) (goroutine_at s x) (status_of n x) (status_of m x) (others x k) (statuses x k)
          (record {
            agree = before.agree;
            queued = in_run x k ∙ before.queued;
            waiting = λ t c h. in_receivers t (party x c) k ∙ before.waiting t c h;
            sending = λ t c h. in_senders t (party x c) k ∙ before.sending t c h;
          })
    ])

-- nobody changes
pub fits-stays : (script : Script) (s next : State) (m : Schedule) → Fits script s m → next.goroutines ≡ s.goroutines → Fits script next m
fits-stays script s next m fits is =
    fits-from_each script next m (fits.as_many ∙ sym (ap length is)) fits.mutexes fits.receivers fits.senders (λ x.
    one-is script m x (goroutine_at next x) (goroutine_at s x) (status_of m x) (status_of m x) (ap (λ gs. numbered gs x) is) refl (fits-one script s m x fits))

-- ---- a goroutine in hand

pub off : (a b : Bool) → a ≡ false → as_number (a && b) ≡ 0
off true b e = cc
off false b e = refl

-- it goes on, and stays in hand
pub fits-goes_on : (script : Script) (s next : State) (m : Schedule) (g : ℕ) (f : Goroutine → Goroutine) → Fits script s m
    → status_of m g ≡ Some RunStatus.InHand
    → next.goroutines ≡ change_numbered s.goroutines g f → ((r : Goroutine) → Agrees (f r).mode RunStatus.InHand) → Fits script next m
fits-goes_on script s next m g f fits in_hand is agrees =
    let k : Known script s m g RunStatus.InHand = known script s m g RunStatus.InHand fits in_hand in
    fits-changes script s next m m g fits
    (fits.as_many ∙ sym (ap length is ∙ length-change_numbered s.goroutines g f))
    refl
    refl
    refl
    (λ x n. ap (λ gs. numbered gs x) is ∙ numbered-change_other s.goroutines g x f n)
    (λ x n. refl)
    (λ x n. refl)
    (λ t p n. refl)
    (λ t p n. refl)
    (one-is script m g (goroutine_at next g) (Some (f k.who)) (status_of m g) (Some RunStatus.InHand)
    (ap (λ gs. numbered gs g) is ∙ numbered-change_same s.goroutines g f k.who k.there) in_hand
    (one-of script m g (f k.who) RunStatus.InHand (agrees k.who) k.one.queued k.one.waiting k.one.sending))

-- it leaves the hand, and waits for nothing in a list
pub fits-leaves_hand : (script : Script) (s next : State) (m : Schedule) (parks g : ℕ) (f : Goroutine → Goroutine) (x : RunStatus) → Fits script s m
    → status_of m g ≡ Some RunStatus.InHand
    → next.goroutines ≡ change_numbered s.goroutines g f
    → ((r : Goroutine) → Agrees (f r).mode x)
    → is_queued (Some x) ≡ false
    → ((r : Goroutine) (n : ℕ) (test : CaseKind → Bool) → as_number (is_parked (Some x) && wants_of script (Some (f r)) n test) ≡ 0)
    → Fits script next (record m { statuses = change_numbered m.statuses g (λ _. x); parks = parks })
fits-leaves_hand script s next m parks g f x fits in_hand is agrees not_queued nowhere =
    let k : Known script s m g RunStatus.InHand = known script s m g RunStatus.InHand fits in_hand in
    let n : Schedule = record m { statuses = change_numbered m.statuses g (λ _. x); parks = parks } in
    fits-changes script s next m n g fits
    (length-change_numbered m.statuses g (λ _. x) ∙ (fits.as_many ∙ sym (ap length is ∙ length-change_numbered s.goroutines g f)))
    refl
    refl
    refl
    (λ y other. ap (λ gs. numbered gs y) is ∙ numbered-change_other s.goroutines g y f other)
    (λ y other. numbered-change_other m.statuses g y (λ _. x) other)
    (λ y other. refl)
    (λ t p other. refl)
    (λ t p other. refl)
    (one-is script n g (goroutine_at next g) (Some (f k.who)) (status_of n g) (Some x)
    (ap (λ gs. numbered gs g) is ∙ numbered-change_same s.goroutines g f k.who k.there)
    (numbered-change_same m.statuses g (λ _. x) RunStatus.InHand in_hand)
    (one-of script n g (f k.who) x (agrees k.who) (k.one.queued ∙ sym (ap as_number not_queued))
    (λ t c h. k.one.waiting t c h ∙ sym (nowhere k.who c (receives_from t)))
    (λ t c h. k.one.sending t c h ∙ sym (nowhere k.who c (sends_to t)))))

-- ---- a goroutine that waited goes on

pub fits-unparked : (script : Script) (s next : State) (m : Schedule) (g : ℕ) (f : Goroutine → Goroutine) → Fits script s m → is_parked (status_of m g) ≡ true
    → next.goroutines ≡ change_numbered s.goroutines g f → ((r : Goroutine) → Agrees (f r).mode RunStatus.Queued) → Fits script next (unparked m g)
fits-unparked script s next m g f fits waits is agrees =
    let was : Parking (status_of m g) = status-parked (status_of m g) waits in
    let k : Known script s m g (RunStatus.Parked was.since) = known script s m g (RunStatus.Parked was.since) fits was.is in
    let n : Schedule = unparked m g in
    fits-changes script s next m n g fits
    (length-change_numbered m.statuses g (λ _. RunStatus.Queued) ∙ (fits.as_many ∙ sym (ap length is ∙ length-change_numbered s.goroutines g f)))
    refl
    (length-left g m.receivers)
    (length-left g m.senders)
    (λ y other. ap (λ gs. numbered gs y) is ∙ numbered-change_other s.goroutines g y f other)
    (λ y other. numbered-change_other m.statuses g y (λ _. RunStatus.Queued) other)
    (λ y other. times-push_other y g m.run_queue other)
    (λ t p other. often-left_other g m.receivers t p other)
    (λ t p other. often-left_other g m.senders t p other)
    (one-is script n g (goroutine_at next g) (Some (f k.who)) (status_of n g) (Some RunStatus.Queued)
    (ap (λ gs. numbered gs g) is ∙ numbered-change_same s.goroutines g f k.who k.there)
    (numbered-change_same m.statuses g (λ _. RunStatus.Queued) (RunStatus.Parked was.since) was.is)
    (one-of script n g (f k.who) RunStatus.Queued (agrees k.who)
    (times-push_same g m.run_queue ∙ ap (λ n. n + 1) k.one.queued)
    (λ t c h. often-left_same g m.receivers t (party g c) refl)
    (λ t c h. often-left_same g m.senders t (party g c) refl)))
