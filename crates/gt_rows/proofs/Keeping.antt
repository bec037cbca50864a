-- A record agrees with the machine after an entry as before it.
use Rattle.std.proofs.Common.{◌≡◌, ℕ, ◌<◌, ◌-◌, cond, nat_lt, length, true, false, refl, sym, ap, ◌∙◌, Option, None, Some, subst, ◌⊎◌, IsTrue, inl, inr, Bool}
use Rattle.std.proofs.lemmas.Bool.{lt-ltb, eq-eqb}
use Rattle.gt_model.specs.declared.entry.Entry.{Entry}
use Rattle.gt_model.specs.declared.script.Script.{Script}
use Rattle.gt_rules.specs.State.{State, has_ended}
use Rattle.gt_rules.specs.After.{new_period, number_of}
use Rattle.gt_rules.specs.Change.{Change, change_of}
use Rattle.gt_rules.specs.declared.change.Move.{Move}
use Rattle.gt_rules.specs.declared.change.Setting.{Setting}
use Rattle.gt_rec.specs.Rec.{Rec, shown, needs_heap}
use Rattle.gt_lazy.specs.Slots.{LazyHeap, IsSettled, Holds}
use Rattle.gt_book.specs.View.{BookView, Enters, IsLawful}
use Rattle.gt_book.proofs.Passing.{enters-script}
use Rattle.gt_rows.specs.Agrees.{Agrees, kind_by, due_by, period_by, Shows}
use Rattle.gt_rows.specs.Frames.{touched, period_touched, due_after, until_after, period_after, timer_period_touched}
use Rattle.gt_rows.specs.Lent.{IsPlaced}
use Rattle.gt_rows.proofs.Frames.{enters-dues, enters-periods}
use Rattle.gt_model.specs.Script.{is_ctx}
use Rattle.gt_rows.proofs.Owns.{ended-stays}

-- a changed record is of the same timer or sleep
pub record IsOfSame (r now : Rec) : Type 0 where
  pub id : now.id ≡ r.id
  pub kind : now.kind ≡ r.kind

-- the book stays, and so does what the record shows
pub agrees-stays : (script : Script) (s : State) (r now : Rec) → Agrees script s r → IsOfSame r now → shown now ≡ shown r → now.period ≡ r.period → Agrees script s now
agrees-stays script s r now agrees same shows period = record {
  kind = ap (kind_by script) same.id ∙ (agrees.kind ∙ ap Some (sym same.kind));
  shown = elim agrees.shown [
    | inl is ↦ inl (shows ∙ (is ∙ ap (due_by script s) (sym same.id)))
    | inr ended ↦ inr (subst (λ id. IsTrue (is_ctx script id) × IsTrue (has_ended s id)) (sym same.id) ended)
  ];
  period = period ∙ (agrees.period ∙ ap (period_by script s) (sym same.id));
}

-- what a record shows after an entry, by what the entry makes of what it showed; or its context has ended then
abbrev pub ShowsAfter : BookView → Entry → BookView → Rec → Rec → Type 0
ShowsAfter old e new r now =
    (shown now ≡ touched old.script old.state (change_of e) r.id (shown r)) ⊎ (IsTrue (is_ctx old.script r.id) × IsTrue (has_ended new.state r.id))

pub agrees-after : (old : BookView) (e : Entry) (new : BookView) (r now : Rec) → IsLawful old → Enters old e new → Agrees old.script old.state r → IsOfSame r now
    → ShowsAfter old e new r now
    → now.period ≡ period_touched old.script old.state (change_of e) r.id r.period → Agrees new.script new.state now
agrees-after old e new r now lawful entered agrees same shows period =
    let every : period_by new.script new.state now.id ≡ now.period =
    ap (period_by new.script new.state) same.id
    ∙ (enters-periods old e new lawful entered r.id
    ∙ (ap (period_touched old.script old.state (change_of e) r.id) (sym agrees.period) ∙ sym period)) in
    let kind : kind_by new.script now.id ≡ Some now.kind =
    ap (λ (s : Script). kind_by s now.id) (enters-script old e new entered) ∙ (ap (kind_by old.script) same.id ∙ (agrees.kind ∙ ap Some (sym same.kind))) in
    record { kind = kind; shown = after agrees.shown shows; period = sym every }
  where
    ended : IsTrue (is_ctx old.script r.id) × IsTrue (has_ended new.state r.id) → IsTrue (is_ctx new.script now.id) × IsTrue (has_ended new.state now.id)
    ended h =
        subst (λ id. IsTrue (is_ctx new.script id) × IsTrue (has_ended new.state id)) (sym same.id)
        (subst (λ (s : Script). IsTrue (is_ctx s r.id)) (sym (enters-script old e new entered)) h.0, h.1)

    after : Shows old.script old.state r → ShowsAfter old e new r now → Shows new.script new.state now
    after (inr before) h = inr (ended (before.0, ended-stays old e new r.id lawful entered before.1))
    after (inl is) (inr h) = inr (ended h)
    after (inl is) (inl h) =
        let due : due_by new.script new.state now.id ≡ shown now =
        ap (due_by new.script new.state) same.id
        ∙ (enters-dues old e new lawful entered r.id ∙ (ap (touched old.script old.state (change_of e) r.id) (sym is) ∙ sym h)) in
        inl (sym due)

pub agrees-entered : (old : BookView) (e : Entry) (new : BookView) (r now : Rec) → IsLawful old → Enters old e new → Agrees old.script old.state r → IsOfSame r now
    → shown now ≡ touched old.script old.state (change_of e) r.id (shown r)
    → now.period ≡ period_touched old.script old.state (change_of e) r.id r.period → Agrees new.script new.state now
agrees-entered old e new r now lawful entered agrees same shows period = agrees-after old e new r now lawful entered agrees same (inl shows) period

touched-timer : (script : Script) (s : State) (c : Change) (t : ℕ) (setting : Setting) (before : Option ℕ) → c.timer ≡ Some (t, setting) → t < length script.decls → is_ctx script t ≡ false
    → touched script s c t before ≡ due_after setting
touched-timer script s c t setting before is below other = rw (lt-ltb t (length script.decls) below, other, is) (ap (λ b. cond b (due_after setting) before) (eq-eqb t t refl))

period-timer : (script : Script) (s : State) (c : Change) (t : ℕ) (setting : Setting) (before : ℕ) → c.timer ≡ Some (t, setting) → t < length script.decls
    → period_touched script s c t before ≡ period_after setting (new_period script s (number_of c.mover) t) before
period-timer script s c t setting before is below =
    rw (lt-ltb t (length script.decls) below, is) (ap (λ b. cond b (period_after setting (new_period script s (number_of c.mover) t) before) before) (eq-eqb t t refl))

-- the timer of an entry
pub agrees-set : (old : BookView) (e : Entry) (new : BookView) (r now : Rec) (setting : Setting) → IsLawful old → Enters old e new → Agrees old.script old.state r
    → r.id < length old.script.decls → is_ctx old.script r.id ≡ false → (change_of e).timer ≡ Some (r.id, setting) → IsOfSame r now
    → shown now ≡ due_after setting → now.period ≡ period_after setting (new_period old.script old.state (number_of (change_of e).mover) r.id) r.period
    → Agrees new.script new.state now
agrees-set old e new r now setting lawful entered agrees below other is same shows period =
    agrees-entered old e new r now lawful entered agrees same
    (shows ∙ sym (touched-timer old.script old.state (change_of e) r.id setting (shown r) is below other))
    (period ∙ sym (period-timer old.script old.state (change_of e) r.id setting r.period is below))

touched-sleep : (script : Script) (s : State) (c : Change) (id : ℕ) (move : Move) (before : Option ℕ) → c.mover ≡ Some (id - length script.decls, move) → c.partner ≡ None
    → nat_lt id (length script.decls) ≡ false → touched script s c id before ≡ until_after move before
touched-sleep script s c id move before is alone beyond =
    rw (beyond, alone, is) (ap (λ b. cond b (until_after move before) before) (eq-eqb (id - length script.decls) (id - length script.decls) refl))

period-sleep : (script : Script) (s : State) (c : Change) (id before : ℕ) → nat_lt id (length script.decls) ≡ false → period_touched script s c id before ≡ before
period-sleep script s c id before beyond = rw beyond refl

-- the period of a record that an entry sets no timer of
same-either : (b : Bool) (n : ℕ) → cond b n n ≡ n
same-either true n = refl
same-either false n = refl

pub period-still : (script : Script) (s : State) (c : Change) (id before : ℕ) → c.timer ≡ None → period_touched script s c id before ≡ before
period-still script s c id before none =
    ap (λ o. cond (nat_lt id (length script.decls)) (timer_period_touched script s c id before o) before) none ∙ same-either (nat_lt id (length script.decls)) before

-- a record of a context that has ended, whatever it shows
pub agrees-over : (script : Script) (s : State) (r now : Rec) → Agrees script s r → IsOfSame r now → now.period ≡ r.period → is_ctx script r.id ≡ true → has_ended s r.id ≡ true
    → Agrees script s now
agrees-over script s r now agrees same period ctx ended = record {
  kind = ap (kind_by script) same.id ∙ (agrees.kind ∙ ap Some (sym same.kind));
  shown = inr (subst (λ id. IsTrue (is_ctx script id) × IsTrue (has_ended s id)) (sym same.id) (ctx, ended));
  period = period ∙ (agrees.period ∙ ap (period_by script s) (sym same.id));
}

-- the sleep of the goroutine that makes an entry
pub agrees-moved : (old : BookView) (e : Entry) (new : BookView) (r now : Rec) (move : Move) → IsLawful old → Enters old e new → Agrees old.script old.state r
    → nat_lt r.id (length old.script.decls) ≡ false → (change_of e).mover ≡ Some (r.id - length old.script.decls, move) → (change_of e).partner ≡ None → IsOfSame r now
    → shown now ≡ until_after move (shown r) → now.period ≡ r.period → Agrees new.script new.state now
agrees-moved old e new r now move lawful entered agrees beyond is alone same shows period =
    agrees-entered old e new r now lawful entered agrees same
    (shows ∙ sym (touched-sleep old.script old.state (change_of e) r.id move (shown r) is alone beyond))
    (period ∙ sym (period-sleep old.script old.state (change_of e) r.id r.period beyond))

-- a record that is settled in a heap has its place there
pub placed-settled : (h : LazyHeap) (r : Rec) → IsSettled h r → IsPlaced h r
placed-settled h r settled =
    elim (needs_heap r) as (λ b. needs_heap r ≡ b → IsPlaced h r) [
      | true ↦ λ needs.
          let held : Holds h r = (settled.needed needs).0 in
          record { here = λ e. held.1; elsewhere = λ other. absurd (other held.0) }
      | false ↦ λ free.
          let none : r.heaped ≡ None = (settled.free free).0 in
          record { here = λ e. cc; elsewhere = λ other. (settled.free free).1 }
    ] refl
