-- Proves what is asked of `fields`.
use Rattle.std.proofs.Common.{arith}
use Rattle.std.proofs.lemmas.Result.{err_from_is_err_and}
use Rattle.tla_tree.proofs.PoolNumbers.{Keeps-then}
use Rattle.expr_nodes.specs.ReadIn.{field_seen}
use Rattle.expr_nodes.specs.ViewSeen.{mark_seen}
use Rattle.expr_rows.proofs.ReadGrown.{same_pool}
use Rattle.expr_lists.proofs.ReadFields.{fields_first, part_lost, fields_end, field_lost, fields_next}
use Rattle.expr_lists.proofs.ListsRead.{fields_some, fields_many}
use Rattle.expr_lists.proofs.read_field.fields.Goals as goal

pub loop-all-init : goal.loop-all-init
loop-all-init g c = record {
  fields = rw (c.new.ensures, c.new-2.ensures.items) (fields_first _ c.args.tokens.now c.args.s.left c.args.s.edge (mark_seen c.args.mark) c.args.pool.now c.args.s.at (field_seen c.args.tokens.now.bytes.items c.args.first));
  kept = same_pool;
  small = omega arith;
  inside = c.requires.given.there;
  further = omega arith;
}

pub loop-all-preserved : goal.loop-all-preserved
loop-all-preserved g c =
    let v = c.args.tokens.now in
    let s = c.args.s in
    let so_far = c.loop-all.invariant in
    let one = c.in_ok-a.ensures in
    let more = c.in_ok-keep.ensures in
    let next = fields_next _ v s.left s.edge (mark_seen c.args.mark) so_far.fields c.in_ok-a.next one.kept one.read c.in-Some.from c.in-Some.ensures.there c.in-Some.ensures.rest c.in_ok-other.past (field_seen v.bytes.items c.in_ok-other.other) c.in_ok-other.ensures.value in
    record {
      fields = rw (more.labels, more.ids, more.nesting) next;
      kept = Keeps-then _ _ _ so_far.kept one.kept;
      small = omega (arith, more.nesting, so_far.small, one.stands.1);
      inside = c.in_ok-other.ensures.inside;
      further = omega (arith, so_far.further, one.stands.3, c.in-Some.ensures.further, c.in_ok-other.ensures.further);
    }

pub returns-in_err-a-clause-read : goal.returns-in_err-a-clause-read
returns-in_err-a-clause-read g c =
    let p = err_from_is_err_and c.from_residual.result c.from_residual.ensures.1 in
    rw (p.1, p.2) (part_lost _ c.args.tokens.now c.args.s.left c.args.s.edge (mark_seen c.args.mark) c.loop-all.invariant.fields _ c.in_err-a.ensures.read)

pub returns-in_err-other-clause-read : goal.returns-in_err-other-clause-read
returns-in_err-other-clause-read g c =
    let one = c.in_ok-a.ensures in
    let p = err_from_is_err_and c.from_residual-in_err-other.result c.from_residual-in_err-other.ensures.1 in
    rw (p.1, p.2) (field_lost _ c.args.tokens.now c.args.s.left c.args.s.edge (mark_seen c.args.mark) c.loop-all.invariant.fields c.in_ok-a.next one.kept one.read c.in-Some.from c.in-Some.ensures.there c.in-Some.ensures.rest _ c.in_err-other.ensures.value)

pub returns-in_default : goal.returns-in_default
returns-in_default g c =
    let so_far = c.loop-all.invariant in
    let one = c.in_ok-a.ensures in
    let more = c.in_ok-keep.ensures in
    let all = fields_end _ c.args.tokens.now c.args.s.left c.args.s.edge (mark_seen c.args.mark) so_far.fields c.in_ok-a.next one.kept one.read c.in_default.ensures.none in
    record {
      read = rw (more.labels, more.ids, more.nesting) all;
      kept = Keeps-then _ _ _ so_far.kept one.kept;
      below = rw (more.ids) all.told.below;
      some = rw (more.ids) (fields_some all.told);
      as_many = rw (more.labels, more.ids) (fields_many all.told);
      small = omega (arith, more.nesting, so_far.small, one.stands.1);
      inside = one.stands.2;
      further = omega (arith, so_far.further, one.stands.3);
    }
