-- Contents that are those of a state of the machine.
use Rattle.std.specs.Prelude.{◌≡◌}
use Rattle.gt_model.specs.declared.script.Script.{Script}
use Rattle.gt_rules.specs.State.{State}
use Rattle.gt_ctx.specs.Decls.{decls_of}
use Rattle.gt_ctx.specs.Contents.{Contents}

-- they are declared in the script, and are as they are in the state
pub record IsTreeOf (script : Script) (s : State) (c : Contents) : Type 0 where
  pub declared : c.decls ≡ decls_of script.decls
  pub contexts : c.contexts ≡ s.contexts
  pub hooks : c.hooks ≡ s.hooks
