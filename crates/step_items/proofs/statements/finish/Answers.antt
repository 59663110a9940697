-- Proves that behind a list that doesn't end its step the jump to the exit stands.
use Rattle.std.proofs.Common.{sym, subst, ◌∙◌}
use Rattle.module_tree.specs.Formulas.{self}
use Rattle.pcal_tree.specs.Expand.{graft_all}
use Rattle.pcal_tree.specs.Variables.{vars}
use Rattle.tla_token.specs.Signs.{is_among}
use Rattle.right_sides.specs.After.{put_items}
use Rattle.step_items.specs.Writing.{jumps_of, own_of, to_write, Plain, Writes}
use Rattle.right_sides.proofs.AfterLaws.{put_onto}
use Rattle.step_items.proofs.WritesLaws.{writes_then}
use Rattle.step_items.proofs.ListLaws.{union_names, plain_followed, settled_unmarked, finish_ends, finish_more}
use Rattle.step_items.proofs.statements.finish.Goals as goal

pub returns-then-reach-clause-made : goal.returns-then-reach-clause-made
returns-then-reach-clause-made c = λ P u x d ts start ss w e p.
    let a = c.args.around.now in
    subst (Writes P (put_items self x) ts c.args.pool.now start c.args.out.now.items a.before.now c.args.reach.now.assigned) (sym (finish_ends P u a.here.now a.exit.now ss (sym e ∙ c.if-reach.true))) w

pub returns-clause-made : goal.returns-clause-made
returns-clause-made c = λ P u x d ts start ss w e p.
    let a = c.args.around.now in
    let first = to_write P u a.here.now a.exit.now ss in
    let more = graft_all (own_of P) ((jumps_of P u).goto a.exit.now) in
    let whole = finish_more P u a.here.now a.exit.now ss (sym e ∙ c.if-reach.false) in
    let parts = plain_followed P first more (subst (Plain P) whole p) in
    subst (Writes P (put_items self x) ts c.jump.new.pool start c.jump.new.out.items a.before.now c.union.result) (sym whole)
    (writes_then P (put_items self x) ts c.args.pool.now c.jump.new.pool start c.args.out.now.items c.jump.new.out.items a.before.now c.args.reach.now.assigned c.union-before.result c.in_ok-more.more c.union.result first more
    (put_onto self x) (settled_unmarked (is_among (vars P)) first parts.0.settled)
    (union_names (vars P) a.before.now c.args.reach.now.assigned c.union-before.result c.union-before.ensures.numbers)
    (union_names (vars P) c.args.reach.now.assigned c.in_ok-more.more c.union.result c.union.ensures.numbers) w (c.in_ok-more.ensures.made P u x d parts.1))
