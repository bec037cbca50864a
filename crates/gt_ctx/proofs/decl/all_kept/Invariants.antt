use Rattle.std.proofs.Common.{◌≡◌, ◌≤◌, take, length, vec_capacity}
use Rattle.gt_ctx.specs.Decls.{decls_of}
use Rattle.gt_ctx.proofs.decl.all_kept.Given as goal

abbrev pub invariant-loop-decl : goal.invariant-loop-decl
invariant-loop-decl l = record {
  kept : l.kept.items ≡ decls_of (take l.decl-index l.decls);
  room : length l.decls ≤ vec_capacity l.kept;
}
