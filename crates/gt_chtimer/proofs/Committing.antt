-- What comes of an operation that is committed while the run goes on.
use Rattle.std.proofs.Common.{◌≡◌, ◌⊎◌, inl, inr, sym, subst, None, Some, MatchOption, false}
use Rattle.gt_model.specs.declared.entry.Outcome.{Outcome}
use Rattle.gt_book.specs.declared.answers.Commit.{Commit}
use Rattle.gt_book.specs.declared.answers.Op.{Op}
use Rattle.gt_book.specs.Steps.{Commits, entry_of, is_gone}
use Rattle.gt_book.specs.View.{BookView, Enters, outcome_of}
use Rattle.gt_rows.specs.Rows.{Answers}

-- what a section answers by what the commitment came to
abbrev pub Tells : {Done : Type 0} → (Outcome → Done) → Done → Commit → Done → Type 0
Tells over fine Commit.Entered done = done ≡ fine
Tells over fine Commit.Gone done = done ≡ fine
Tells over fine (Commit.Over outcome) done = done ≡ over outcome

-- the entry came, with this answer
pub record Came {Done : Type 0} (old : BookView) (op : Op) (new : BookView) (over : Outcome → Done) (fine done : Done) : Type 0 where
  pub entered : Enters old (entry_of old.script old.state op) new
  pub answer : Answers new over done fine

pub came : {Done : Type 0} (over : Outcome → Done) (fine : Done) (old : BookView) (op : Op) (new : BookView) (did : Commit) (done : Done)
    → is_gone old op ≡ false → Commits old op (is_gone old op) new did → Tells over fine did done → Came old op new over fine done
came over fine old op new did done in_time commits tells =
    let all : Commits old op false new did = subst (λ b. Commits old op b new did) in_time commits in
    record {
      entered = all.0;
      answer = elim (outcome_of new) as (λ o. MatchOption o (did ≡ Commit.Entered) (λ outcome. did ≡ Commit.Over outcome) → MatchOption o (done ≡ fine) (λ outcome. done ≡ over outcome)) [
        | None ↦ λ is. subst (λ did. Tells over fine did done) is tells
        | Some outcome ↦ λ is. subst (λ did. Tells over fine did done) is tells
      ] all.1;
    }

pub tells-over : {Done : Type 0} (over : Outcome → Done) (fine : Done) (did : Commit) (outcome : Outcome) (done : Done) → did ≡ Commit.Over outcome → done ≡ over outcome
    → Tells over fine did done
tells-over over fine did outcome done is answer = subst (λ did. Tells over fine did done) (sym is) answer

pub tells-fine : {Done : Type 0} (over : Outcome → Done) (fine : Done) (did : Commit) (done : Done) → (did ≡ Commit.Entered) ⊎ (did ≡ Commit.Gone) → done ≡ fine
    → Tells over fine did done
tells-fine over fine did done is answer =
    elim is [
      | inl entered ↦ subst (λ did. Tells over fine did done) (sym entered) answer
      | inr gone ↦ subst (λ did. Tells over fine did done) (sym gone) answer
    ]
