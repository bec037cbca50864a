-- What comes of a record that fired, by its kind.
use Rattle.std.specs.Prelude.{ℕ, ◌≡◌, ◌≤◌, ◌-◌, Bool, true, false, length}
use Rattle.std.specs.declared.option.Option.TheVariants.{None}
use Rattle.gt_model.specs.declared.entry.Entry.{Entry}
use Rattle.gt_rules.specs.State.{has_ended, next_number}
use Rattle.gt_rec.specs.declared.RecKind.{RecKind}
use Rattle.gt_book.specs.declared.answers.Op.{Op}
use Rattle.gt_book.specs.Steps.{MayCommit, entry_of, is_gone}
use Rattle.gt_book.specs.View.{BookView, Enters, outcome_of}
use Rattle.gt_rows.specs.declared.answers.HeadDone.{HeadDone}
use Rattle.gt_rows.specs.Rows.{Answers}

-- the operation of a record that fired may come now. One with a channel has none, and that of a context that has ended comes too late
abbrev pub MayFire : BookView → ℕ → RecKind → Type 0
MayFire b id RecKind.Timer = Unit {0}
MayFire b id RecKind.Ticker = Unit {0}
MayFire b id RecKind.Func = MayCommit b (Op.Fire id) × (is_gone b (Op.Fire id) ≡ false)
MayFire b id RecKind.Sleep =
    (length b.script.decls ≤ id) × MayCommit b (Op.Wake (id - length b.script.decls)) × (is_gone b (Op.Wake (id - length b.script.decls)) ≡ false)
MayFire b id RecKind.Deadline = (outcome_of b ≡ None) × (has_ended b.state id ≡ false → MayCommit b (Op.Expire id))

-- an operation is entered, unless it comes too late
abbrev pub CommitsAs : BookView → Op → BookView → HeadDone → Bool → Type 0
CommitsAs old op new reply true = (new ≡ old) × (reply ≡ HeadDone.Gone)
CommitsAs old op new reply false = Enters old (entry_of old.script old.state op) new × Answers new HeadDone.Over reply HeadDone.Fired

-- the operation is entered, or the send of a value has begun
abbrev pub FiredAs : BookView → ℕ → ℕ → BookView → HeadDone → RecKind → Type 0
FiredAs old id seq new reply RecKind.Timer = (new ≡ old) × (reply ≡ HeadDone.Send seq)
FiredAs old id seq new reply RecKind.Ticker = (new ≡ old) × (reply ≡ HeadDone.Send seq)
FiredAs old id seq new reply RecKind.Func = Enters old (Entry.FireFunc id (next_number old.state)) new × Answers new HeadDone.Over reply HeadDone.Fired
FiredAs old id seq new reply RecKind.Sleep =
    Enters old (Entry.Wake (id - length old.script.decls)) new × Answers new HeadDone.Over reply HeadDone.Fired
FiredAs old id seq new reply RecKind.Deadline = CommitsAs old (Op.Expire id) new reply (has_ended old.state id)
