-- What a receive from a timer makes of its record and of the book.
use Rattle.std.specs.Prelude.{ℕ, ◌≡◌}
use Rattle.std.specs.declared.option.Option.{Option}
use Rattle.std.specs.declared.option.Option.TheVariants.{None, Some}
use Rattle.gt_model.specs.declared.entry.Entry.{Entry}
use Rattle.gt_model.specs.declared.entry.Party.{Party}
use Rattle.gt_rec.specs.Rec.{Rec}
use Rattle.gt_rec.specs.Changes.{taken}
use Rattle.gt_book.specs.declared.answers.Commit.{Commit}
use Rattle.gt_book.specs.Steps.{DidCommit}
use Rattle.gt_book.specs.View.{BookView, Enters}

-- the party takes the value of this due time
pub record Takes (r : Rec) (b : BookView) (p : Party) (due : ℕ) (next : Option ℕ) (r' : Rec) (b' : BookView) (did : Commit) : Type 0 where
  pub entered : Enters b (Entry.TRecv p r.id due next) b'
  pub rec : r' ≡ taken r next
  pub answer : DidCommit b' did

-- by what a receive would take
abbrev pub ReceivesBy : Rec → BookView → Party → Rec → BookView → Option Commit → Option (ℕ × Option ℕ) → Type 0
ReceivesBy r b p r' b' (Some did) (Some got) = Takes r b p got.0 got.1 r' b' did
ReceivesBy r b p r' b' None None = (r' ≡ r) × (b' ≡ b)
ReceivesBy r b p r' b' (Some did) None = ⊥
ReceivesBy r b p r' b' None (Some got) = ⊥
