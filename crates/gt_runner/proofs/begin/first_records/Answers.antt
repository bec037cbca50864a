use Rattle.std.proofs.Common.{rules, ◌≡◌, ◌<◌, ◌≤◌, ◌+◌, length, length-append, slice_get, Some, List, [], ◌∷◌, refl, sym, ap, subst, ◌∙◌, arith}
use Rattle.std.proofs.lemmas.Option.{slice_get_read}
use Rattle.gt_model.specs.declared.script.Decl.{Decl}
use Rattle.gt_rec.specs.Changes.{unset_rec}
use Rattle.gt_runner.specs.Begun.{kind_at}
use Rattle.gt_runner.proofs.Beginning.{up-to-none, up-to-more, up-to-all}
use Rattle.gt_runner.proofs.begin.first_records.Goals as goal

pub loop-id-init : goal.loop-id-init
loop-id-init c =
    let empty : c.in_ok-records.records.items ≡ [] = search rules in
    let spare : c.in_ok-records.records.spare ≡ c.args.count = search rules in
    let none : length c.in_ok-records.records.items ≡ 0 = ap length empty in
    (up-to-none c.args.script.now c.in_ok-records.records empty, omega arith, omega arith)

pub put-requires : goal.put-requires
put-requires c =
    let many : length c.loop-id.records.items ≡ c.loop-id.id = c.loop-id.invariant.0.many in
    let all : length c.loop-id.records.items + c.loop-id.records.spare ≡ c.args.count = c.loop-id.invariant.1 in
    let names : length c.as_slice-decls.result.now ≡ length c.args.script.now.decls = ap length c.as_slice-decls.ensures in
    let test : c.loop-id.id < length c.as_slice-decls.result.now = c.loop-id-test.true in
    let room : length c.args.script.now.decls ≤ c.args.count = c.requires.room in
    omega arith

pub loop-id-preserved : goal.loop-id-preserved
loop-id-preserved c =
    let decls : c.as_slice-decls.result.now ≡ c.args.script.now.decls = c.as_slice-decls.ensures in
    let inside : c.loop-id.id < length c.as_slice-decls.result.now = c.loop-id-test.true in
    let size : length c.as_slice-decls.result.now ≡ length c.args.script.now.decls = ap length decls in
    let all : length c.loop-id.records.items + c.loop-id.records.spare ≡ c.args.count = c.loop-id.invariant.1 in
    let spare : c.put.new.self.spare + 1 ≡ c.loop-id.records.spare = c.put.ensures.spare in
    let longer : length c.put.new.self.items ≡ length c.loop-id.records.items + 1 = ap length c.put.ensures.items ∙ length-append c.loop-id.records.items (c.unset.result ∷ []) in
    let d : Decl = c.index-decls-id.result in
    let there : slice_get c.args.script.now.decls c.loop-id.id ≡ Some d =
    subst (λ (ds : List Decl). slice_get ds c.loop-id.id ≡ Some d) decls
    (slice_get_read c.as_slice-decls.result.now (length c.as_slice-decls.result.now) c.loop-id.id d refl inside c.index-decls-id.is) in
    let is : c.unset.result ≡ unset_rec c.loop-id.id (kind_at d.what) =
    c.unset.ensures.value ∙ (ap (unset_rec c.loop-id.id) c.kind_of.ensures ∙ ap (λ (d : Decl). unset_rec c.loop-id.id (kind_at d.what)) (sym c.index-decls-id.is)) in (
      up-to-more c.args.script.now c.loop-id.id c.loop-id.records c.put.new.self c.unset.result d c.loop-id.invariant.0 c.put.ensures.items there is c.unset.ensures.bits,
      omega arith,
      omega arith,
    )

pub returns-clause-first : goal.returns-clause-first
returns-clause-first c =
    let size : length c.as_slice-decls.result.now ≡ length c.args.script.now.decls = ap length c.as_slice-decls.ensures in
    let over : length c.as_slice-decls.result.now ≤ c.loop-id.id = c.loop-id-test.false in
    let end : c.loop-id.id ≤ length c.as_slice-decls.result.now = c.loop-id.auto.id-end in
    up-to-all c.args.script.now c.loop-id.id c.loop-id.records c.loop-id.invariant.0 (omega arith)

pub returns-clause-room : goal.returns-clause-room
returns-clause-room c = c.loop-id.invariant.1
