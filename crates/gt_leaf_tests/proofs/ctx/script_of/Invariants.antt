use Rattle.std.proofs.Common.{◌≡◌, ◌≤◌, take, map, length, vec_capacity}
use Rattle.gt_ctx.specs.Decls.{decl_by, decls_of}
use Rattle.gt_leaf_tests.proofs.ctx.script_of.Given as goal

-- the declarations so far are those that are wanted
abbrev pub invariant-loop-what : goal.invariant-loop-what
invariant-loop-what l = record {
  declared : decls_of l.decls.items ≡ map decl_by (take l.what-index l.whats);
  many : length l.decls.items ≡ l.what-index;
  room : length l.whats ≤ vec_capacity l.decls;
}
