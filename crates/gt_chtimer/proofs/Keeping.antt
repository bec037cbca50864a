-- A record of a timer agrees with the machine after an entry as before.
use Rattle.std.proofs.Common.{◌≡◌, ℕ, ◌<◌, ◌-◌, ◌==◌, ◌||◌, cond, nat_lt, length, Bool, true, false, refl, sym, Option, Some, None, IsTrue}
use Rattle.gt_model.specs.declared.entry.Entry.{Entry}
use Rattle.gt_model.specs.declared.entry.Party.{Party}
use Rattle.gt_model.specs.declared.entry.Reason.{Reason}
use Rattle.gt_model.specs.declared.script.Script.{Script}
use Rattle.gt_model.specs.declared.script.What.{What}
use Rattle.gt_model.specs.Good.{is_setting}
use Rattle.gt_model.specs.Script.{is_ctx, what_at, names_ctx, names_timer, names_func}
use Rattle.gt_rules.specs.State.{State, due_of}
use Rattle.gt_rules.specs.Change.{change_of}
use Rattle.gt_rec.specs.Rec.{Rec, shown}
use Rattle.gt_book.specs.View.{BookView, Enters, IsLawful}
use Rattle.gt_rows.specs.Agrees.{Agrees}
use Rattle.gt_rows.specs.Frames.{touched}
use Rattle.gt_rows.proofs.Keeping.{agrees-entered, period-still}
use Rattle.gt_rows.proofs.Tickers.{shown-due}

-- what can be set is no context
pub setting-no_ctx : (script : Script) (t : ℕ) → IsTrue (is_setting script t) → is_ctx script t ≡ false
setting-no_ctx script t h = by (what_at script t) h
  where
    by : (o : Option What) → IsTrue (names_timer o || names_func o) → names_ctx o ≡ false
    by (Some (What.Ctx parent form)) h = cc
    by None h = refl
    by (Some What.Timer) h = refl
    by (Some What.Ticker) h = refl
    by (Some (What.AfterFunc func)) h = refl
    by (Some what) h = cc

same-cond : {X : Type 0} (b : Bool) (x : X) → cond b x x ≡ x
same-cond true x = refl
same-cond false x = refl

outer : {X : Type 0} (b : Bool) {x now before : X} → now ≡ x → before ≡ x → cond b now before ≡ x
outer true first other = first
outer false first other = other

-- a panic is nobody's timer
pub agrees-panicked : (old : BookView) (p : Party) (reason : Reason) (new : BookView) (r : Rec) → IsLawful old → Enters old (Entry.Panic p reason) new
    → Agrees old.script old.state r → Agrees new.script new.state r
agrees-panicked old p reason new r lawful entered agrees =
    let still : touched old.script old.state (change_of (Entry.Panic p reason)) r.id (shown r) ≡ shown r =
    outer (nat_lt r.id (length old.script.decls)) (same-cond (is_ctx old.script r.id) (shown r)) (same-cond (r.id - length old.script.decls == p.g) (shown r)) in
    agrees-entered old (Entry.Panic p reason) new r r lawful entered agrees (record { id = refl; kind = refl }) (sym still)
    (sym (period-still old.script old.state (change_of (Entry.Panic p reason)) r.id r.period refl))

-- the record of a timer shows its due time
pub shown-declared : (script : Script) (s : State) (r : Rec) → Agrees script s r → r.id < length script.decls → is_ctx script r.id ≡ false → due_of s r.id ≡ shown r
shown-declared script s r agrees below other = sym (shown-due script s r agrees below other)
