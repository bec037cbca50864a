use Rattle.std.proofs.Common.{refl, subst, sym, ap, ◌∙◌, ◌≡◌, None, []}
use Rattle.std.proofs.Common.{◌∷◌}
use Rattle.gt_rules.specs.Finish.{IsIdle}
use Rattle.gt_rules.specs.Counted.{counted}
use Rattle.gt_book.specs.declared.run.Run.{Run}
use Rattle.gt_book.specs.View.{BookView, outcome_of, with_entries}
use Rattle.gt_model.specs.declared.entry.Entry.{Entry}
use Rattle.gt_model.specs.declared.entry.Outcome.{Outcome}
use Rattle.gt_book.proofs.Scheduled.{kept-deadlock, seen-deadlock}
use Rattle.gt_book.proofs.Books.{Finished}
use Rattle.gt_book.proofs.book.Book.finish_deadlock.Goals as goal

pub invariant_of-self : goal.invariant_of-self
invariant_of-self c =
    let run : Run = record { history = c.put.new.self; machine = c.finish.new.self; scheduler = c.self.inside.run.scheduler; waking = c.self.inside.run.waking } in
    let ends : Finished c.self.inside.script Outcome.Deadlock c.self.inside.run run = record {
      state = c.finish.ensures.state c.self.inside.script;
      goroutines = c.finish.ensures.room;
      channels = c.finish.ensures.channels;
      contexts = c.finish.ensures.contexts;
      waking = refl;
      scheduler = refl;
      items = c.put.ensures.items;
      spare = c.put.ensures.spare;
    } in
    kept-deadlock c.self.inside run c.self.invariant
    (subst (λ (v : BookView). outcome_of v ≡ None) (sym c.self.view_is) c.requires.running)
    (subst (λ (v : BookView). IsIdle v.script v.state) (sym c.self.view_is) c.requires.idle)
    (subst (λ (v : BookView). counted v.script v.state 0 ≡ []) (sym c.self.view_is) c.requires.none_counted) ends

pub returns : goal.returns
returns c =
    let run : Run = record { history = c.put.new.self; machine = c.finish.new.self; scheduler = c.self.inside.run.scheduler; waking = c.self.inside.run.waking } in
    let ends : Finished c.self.inside.script Outcome.Deadlock c.self.inside.run run = record {
      state = c.finish.ensures.state c.self.inside.script;
      goroutines = c.finish.ensures.room;
      channels = c.finish.ensures.channels;
      contexts = c.finish.ensures.contexts;
      waking = refl;
      scheduler = refl;
      items = c.put.ensures.items;
      spare = c.put.ensures.spare;
    } in
    seen-deadlock c.self.inside run ends ∙ ap (λ (v : BookView). with_entries v (Entry.Finish Outcome.Deadlock ∷ [])) c.self.view_is
