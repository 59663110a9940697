-- Proves what is asked of `path`.
use Rattle.std.proofs.Common.{◌≡◌, ◌+◌, ℕ, arith, subst, Some, refl}
use Rattle.std.proofs.lemmas.Result.{err_from_is_err_and}
use Rattle.tla_tree.specs.Whole.{whole_in}
use Rattle.tla_tree.proofs.PoolNumbers.{Keeps-then}
use Rattle.expr_nodes.specs.Ahead.{ahead}
use Rattle.expr_nodes.specs.ReadIn.{field_seen, Reads, Fails}
use Rattle.expr_lists.specs.Routed.{indexed, IsSubscript}
use Rattle.expr_rows.proofs.ReadGrown.{same_pool}
use Rattle.expr_lists.proofs.ReadPaths.{path_first, path_ends, too_many, index_lost, path_index, step_lost, path_field}
use Rattle.expr_lists.proofs.read_path.path.Goals as goal

pub loop-from-init : goal.loop-from-init
loop-from-init g c = record {
  path = rw (c.new.ensures.items, c.new-2.ensures.items) (path_first _ c.args.tokens.now c.args.s.left c.args.s.edge c.args.pool.now c.args.s.at);
  kept = same_pool;
  small = omega arith;
  inside = c.requires.given.there;
  further = omega arith;
}

pub loop-from-preserved-in-Some : goal.loop-from-preserved-in-Some
loop-from-preserved-in-Some g c =
    let v = c.args.tokens.now in
    let s = c.args.s in
    let d = c.in_ok-d.d in
    let so_far = c.loop-from.invariant in
    let one = c.in_ok-id.ensures in
    let more = c.in_ok-indexed_by.ensures in
    let l : d.left + 1 ≡ s.left = omega (arith, c.in_ok-d.ensures.left) in
    let read = subst (λ (e : ℕ). Reads (λ a. IsSubscript c.args.s.linked c.subscript_in.new.pool c.in_ok-id.id c.in_ok-id.opened a.0) (ahead v c.in_ok-id.next) (indexed (whole_in c.args.s.linked (Some d.left)) e (ahead v c.in-Some.from))) refl one.read in
    let next = path_index _ v s.left s.edge so_far.path c.in-Some.ensures.there d.left c.in-Some.from l c.in-Some.ensures.rest c.in_ok-id.id c.in_ok-id.next c.in_ok-id.opened one.kept read in
    record {
      path = rw (more.steps, more.ids, more.nesting) next;
      kept = Keeps-then _ _ _ so_far.kept one.kept;
      small = omega (arith, more.nesting, so_far.small, one.small, l);
      inside = one.inside;
      further = omega (arith, so_far.further, c.in-Some.ensures.further, one.further);
    }

pub loop-from-preserved : goal.loop-from-preserved
loop-from-preserved g c =
    let v = c.args.tokens.now in
    let s = c.args.s in
    let so_far = c.loop-from.invariant in
    let more = c.in_ok-at_field.ensures in
    let next = path_field _ v s.left s.edge so_far.path c.in-Some-after_mark.from c.in-Some-after_mark.ensures.there c.in-Some-after_mark.ensures.rest c.in_ok-field.next (field_seen v.bytes.items c.in_ok-field.field) c.in_ok-field.ensures.value in
    record {
      path = rw (more.steps, more.ids, more.nesting) next;
      kept = so_far.kept;
      small = omega (arith, more.nesting, so_far.small);
      inside = c.in_ok-field.ensures.inside;
      further = omega (arith, so_far.further, c.in-Some-after_mark.ensures.further, c.in_ok-field.ensures.further);
    }

pub returns-in_err-d-clause-read : goal.returns-in_err-d-clause-read
returns-in_err-d-clause-read g c =
    let p = err_from_is_err_and c.from_residual.result c.from_residual.ensures.1 in
    rw (p.1, p.2) (too_many _ c.args.tokens.now c.args.s.left c.args.s.edge c.loop-from.invariant.path c.in-Some.ensures.there _ c.in_err-d.ensures.deep c.in_err-d.ensures.refused)

pub returns-in_err-id-clause-read : goal.returns-in_err-id-clause-read
returns-in_err-id-clause-read g c =
    let v = c.args.tokens.now in
    let s = c.args.s in
    let d = c.in_ok-d.d in
    let l : d.left + 1 ≡ s.left = omega (arith, c.in_ok-d.ensures.left) in
    let p = err_from_is_err_and c.from_residual-in_err-id.result c.from_residual-in_err-id.ensures.1 in
    let lost = subst (λ (e : ℕ). Fails c.in_err-id.field-0.0 (indexed (whole_in c.args.s.linked (Some d.left)) e (ahead v c.in-Some.from))) refl c.in_err-id.ensures.read in
    rw (p.1, p.2) (index_lost _ v s.left s.edge c.loop-from.invariant.path c.in-Some.ensures.there d.left c.in-Some.from l c.in-Some.ensures.rest _ lost)

pub returns-in_err-field-clause-read : goal.returns-in_err-field-clause-read
returns-in_err-field-clause-read g c =
    let p = err_from_is_err_and c.from_residual-in_err-field.result c.from_residual-in_err-field.ensures.1 in
    rw (p.1, p.2) (step_lost _ c.args.tokens.now c.args.s.left c.args.s.edge c.loop-from.invariant.path c.in-Some-after_mark.from c.in-Some-after_mark.ensures.there c.in-Some-after_mark.ensures.rest _ c.in_err-field.ensures.value)

pub returns-in_default-after_mark-clause-read : goal.returns-in_default-after_mark-clause-read
returns-in_default-after_mark-clause-read g c =
    path_ends _ c.args.tokens.now c.args.s.left c.args.s.edge c.loop-from.invariant.path c.in_default.ensures.none c.in_default-after_mark.ensures.none
