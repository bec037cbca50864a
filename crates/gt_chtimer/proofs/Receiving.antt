-- The receive of a timer's value.
use Rattle.std.proofs.Common.{◌≡◌, ℕ, ◌<◌, ◌≤◌, length, slice_get, refl, sym, ap, subst, ◌∙◌, Option, None, Some, option_map, option_and_then, Bool, true, false, nat_le, if◌then◌else◌}
use Rattle.std.proofs.lemmas.Bool.{leb-true}
use Rattle.gt_model.specs.declared.entry.Entry.{Entry}
use Rattle.gt_model.specs.declared.entry.Party.{Party}
use Rattle.gt_model.specs.declared.script.Script.{Script}
use Rattle.gt_model.specs.declared.script.Decl.{Decl}
use Rattle.gt_model.specs.declared.script.What.{What}
use Rattle.gt_model.specs.Script.{is_timer, names_timer}
use Rattle.gt_model.proofs.Declared.{timer_setting, setting_declared}
use Rattle.gt_rules.specs.State.{State, clock, due_of}
use Rattle.gt_rules.specs.Legal.{LeavesDue}
use Rattle.gt_rules.specs.Operations.{receives_from}
use Rattle.gt_rules.specs.declared.change.Setting.{Setting}
use Rattle.gt_rec.specs.declared.RecKind.{RecKind}
use Rattle.gt_rec.specs.Ticks.{due_left}
use Rattle.gt_rec.specs.Rec.{Rec, BitsRight, has_channel, shown}
use Rattle.gt_rec.specs.Changes.{received, taken}
use Rattle.gt_book.specs.declared.answers.Commit.{Commit}
use Rattle.gt_book.specs.declared.answers.Op.{Op}
use Rattle.gt_book.specs.Steps.{Commits, MayCommit, is_gone}
use Rattle.gt_chtimer.specs.Receive.{Takes, ReceivesBy}
use Rattle.gt_book.specs.View.{BookView, Enters, IsLawful, outcome_of, is_parked_at}
use Rattle.gt_book.proofs.Committing.{may-receive}
use Rattle.gt_rows.specs.Agrees.{Agrees, kind_by, kind_of_what}
use Rattle.gt_rows.specs.Lent.{IsLentRec}
use Rattle.gt_rows.proofs.Keeping.{agrees-set}
use Rattle.gt_rows.proofs.Tickers.{leaves-due, channel-no_ctx}
use Rattle.gt_chtimer.proofs.Keeping.{shown-declared}

-- ---- a record with a channel is that of a timer that gives values

no-channel : (kind other : RecKind) → has_channel kind ≡ true → other ≡ kind → has_channel other ≡ false → ⊥
no-channel kind other h is none =
    let both : true ≡ false = sym h ∙ (ap has_channel (sym is) ∙ none) in
    cc

channel-what : (what : What) (kind : RecKind) → has_channel kind ≡ true → kind_of_what what ≡ Some kind → names_timer (Some what) ≡ true
channel-what What.Timer kind h is = refl
channel-what What.Ticker kind h is = refl
channel-what (What.AfterFunc f) kind h is = let same : RecKind.Func ≡ kind = cc in absurd (no-channel kind RecKind.Func h same refl)
channel-what What.Mutex kind h is = cc
channel-what What.Wg kind h is = cc
channel-what (What.Cond mutex) kind h is = cc
channel-what What.Function kind h is = cc
channel-what (What.Chan cap) kind h is = cc
channel-what (What.Ctx parent form) kind h is = let same : RecKind.Deadline ≡ kind = cc in absurd (no-channel kind RecKind.Deadline h same refl)
channel-what (What.Hook ctx func) kind h is = cc
channel-what What.Error kind h is = cc

channel-decl : (o : Option Decl) (kind : RecKind) → has_channel kind ≡ true
    → (elim o as (λ _. Option RecKind) [ None ↦ Some RecKind.Sleep | Some decl ↦ kind_of_what decl.what ]) ≡ Some kind
    → names_timer (option_map (λ (d : Decl). d.what) o) ≡ true
channel-decl None kind h is = let same : RecKind.Sleep ≡ kind = cc in absurd (no-channel kind RecKind.Sleep h same refl)
channel-decl (Some decl) kind h is = channel-what decl.what kind h is

pub channel-timer : (script : Script) (id : ℕ) (kind : RecKind) → has_channel kind ≡ true → kind_by script id ≡ Some kind → is_timer script id ≡ true
channel-timer script id kind h is = channel-decl (slice_get script.decls id) kind h is

pub channel-declared : (script : Script) (s : State) (r : Rec) → Agrees script s r → has_channel r.kind ≡ true → r.id < length script.decls
channel-declared script s r agrees h = setting_declared script r.id (timer_setting script r.id (channel-timer script r.id r.kind h agrees.kind))

-- ---- what is received

-- what is received, by the shown due time
pub record Got (r : Rec) (now due : ℕ) (next : Option ℕ) : Type 0 where
  pub shows : shown r ≡ Some due
  pub come : due ≤ now
  pub left : next ≡ due_left r.kind r.period due now

abbrev pub gets : Rec → ℕ → ℕ → Bool → Option (ℕ × Option ℕ)
gets r now at b = if b then Some (at, due_left r.kind r.period at now) else None

got-due : (r : Rec) (now due at : ℕ) (next : Option ℕ) (b : Bool) → nat_le at now ≡ b → shown r ≡ Some at
    → gets r now at b ≡ Some (due, next) → Got r now due next
got-due r now due at next true le shows is =
    let pair : (at, due_left r.kind r.period at now) ≡ (due, next) = cc in
    let same : at ≡ due = ap (λ (x : ℕ × Option ℕ). x.0) pair in
    let left : due_left r.kind r.period at now ≡ next = ap (λ (x : ℕ × Option ℕ). x.1) pair in
    record {
      shows = shows ∙ ap Some same;
      come = subst (λ due. due ≤ now) same (leb-true at now le);
      left = sym left ∙ ap (λ due. due_left r.kind r.period due now) same;
    }
got-due r now due at next false le shows is = cc

pub got : (r : Rec) (now due : ℕ) (next : Option ℕ) → received r now ≡ Some (due, next) → Got r now due next
got r now due next is =
    elim (shown r) as (λ o. shown r ≡ o → option_and_then (λ (at : ℕ). gets r now at (nat_le at now)) o ≡ Some (due, next) → Got r now due next) [
      | None ↦ λ q h. cc
      | Some at ↦ λ q h. got-due r now due at next (nat_le at now) refl q h
    ] refl is

-- what is left is what a receive leaves of the timer
pub got-leaves : (b : BookView) (r : Rec) (due : ℕ) (next : Option ℕ) → Agrees b.script b.state r → has_channel r.kind ≡ true → Got r (clock b.state 0) due next
    → LeavesDue b.script b.state (clock b.state 0) r.id due next
got-leaves b r due next agrees channel g =
    subst (LeavesDue b.script b.state (clock b.state 0) r.id due) (sym g.left)
    (leaves-due b.script b.state r (clock b.state 0) due agrees (channel-declared b.script b.state r agrees channel) g.come)

-- the receive may come
pub record ReceiveComes (b : BookView) (p : Party) (t due : ℕ) (next : Option ℕ) : Type 0 where
  pub may : MayCommit b (Op.TRecv p t due next)
  pub in_time : is_gone b (Op.TRecv p t due next) ≡ false

pub receive-comes : (b : BookView) (r : Rec) (p : Party) (t due : ℕ) (next : Option ℕ) → IsLawful b → outcome_of b ≡ None → IsLentRec b r → has_channel r.kind ≡ true
    → is_parked_at b.script b.state b.schedule p (receives_from r.id) ≡ true → t ≡ r.id → received r (clock b.state 0) ≡ Some (due, next) → ReceiveComes b p t due next
receive-comes b r p t due next lawful running lent channel waits its is =
    let g : Got r (clock b.state 0) due next = got r (clock b.state 0) due next is in
    let timer : is_timer b.script r.id ≡ true = channel-timer b.script r.id r.kind channel lent.agrees.kind in
    let set : due_of b.state r.id ≡ Some due = shown-declared b.script b.state r lent.agrees (channel-declared b.script b.state r lent.agrees channel)
    (channel-no_ctx b.script b.state r lent.agrees channel) ∙ g.shows in
    let all : MayCommit b (Op.TRecv p r.id due next) × (is_gone b (Op.TRecv p r.id due next) ≡ false) =
    may-receive b r.id due next p lawful running timer set g.come (got-leaves b r due next lent.agrees channel g) waits in
    let here : ReceiveComes b p r.id due next = record { may = all.0; in_time = all.1 } in
    subst (λ t. ReceiveComes b p t due next) (sym its) here

-- after it the record shows what is left
pub receive-kept : (old : BookView) (r : Rec) (p : Party) (t due : ℕ) (next : Option ℕ) (now : Rec) (new : BookView) (did : Commit) → IsLawful old → IsLentRec old r
    → has_channel r.kind ≡ true → ReceiveComes old p t due next → t ≡ r.id → now ≡ taken r next → shown now ≡ next → (BitsRight r → BitsRight now)
    → Commits old (Op.TRecv p t due next) (is_gone old (Op.TRecv p t due next)) new did → IsLentRec new now
receive-kept old r p t due next now new did lawful lent channel comes its is shows bits commits =
    let all : Commits old (Op.TRecv p t due next) false new did = subst (λ b. Commits old (Op.TRecv p t due next) b new did) comes.in_time commits in
    let entered : Enters old (Entry.TRecv p r.id due next) new = subst (λ t. Enters old (Entry.TRecv p t due next) new) its all.0 in
    record {
      agrees = agrees-set old (Entry.TRecv p r.id due next) new r now (Setting.Ended next) lawful entered lent.agrees
          (channel-declared old.script old.state r lent.agrees channel) (channel-no_ctx old.script old.state r lent.agrees channel) refl
          (record { id = ap (λ (r : Rec). r.id) is; kind = ap (λ (r : Rec). r.kind) is }) shows (ap (λ (r : Rec). r.period) is);
      bits = bits lent.bits;
    }

-- it is the row of a receive
pub receive-row : (old : BookView) (r : Rec) (p : Party) (t due : ℕ) (next : Option ℕ) (now : Rec) (new : BookView) (did : Commit) → ReceiveComes old p t due next → t ≡ r.id → now ≡ taken r next
    → received r (clock old.state 0) ≡ Some (due, next) → Commits old (Op.TRecv p t due next) (is_gone old (Op.TRecv p t due next)) new did
    → ReceivesBy r old p now new (Some did) (received r (clock old.state 0))
receive-row old r p t due next now new did comes its is takes commits =
    let all : Commits old (Op.TRecv p t due next) false new did = subst (λ b. Commits old (Op.TRecv p t due next) b new did) comes.in_time commits in
    let entered : Enters old (Entry.TRecv p r.id due next) new = subst (λ t. Enters old (Entry.TRecv p t due next) new) its all.0 in
    let row : Takes r old p due next now new did = record { entered = entered; rec = is; answer = all.1 } in
    subst (ReceivesBy r old p now new (Some did)) (sym takes) row
