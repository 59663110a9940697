-- Proves that binds are written round the items.
use Rattle.std.proofs.Common.{◌<◌, length, ap, ◌∙◌, arith}
use Rattle.tla_token.specs.Signs.{is_among}
use Rattle.module_tree.specs.Formulas.{self}
use Rattle.pcal_tree.specs.Variables.{vars}
use Rattle.name_bits.specs.NamesIn.{names_in}
use Rattle.right_sides.specs.After.{put_items}
use Rattle.step_items.proofs.DeskLaws.{desk_kept}
use Rattle.step_items.proofs.ResultLaws.{with_ok}
use Rattle.step_items.proofs.WithLaws.{nest_more, outermost}
use Rattle.step_items.proofs.statements.around_all.Goals as goal

pub returns-clause-made : goal.returns-clause-made
returns-clause-made c = λ P u x d b h.
    let ts = c.args.pool.now in
    let us = c.nested.new.pool in
    let vs = c.bound.new.pool in
    let k = c.in_ok-inner.ensures.kept in
    let ys = c.args.binds.now in
    let E = is_among (names_in (vars P) c.args.before.now) in
    let less : 0 < length ys = omega arith in
    with_ok c.bound.result (c.bound.ensures.made P u x (desk_kept ts us k c.args.desk.now P u x c.requires.desk d) _ (c.in_ok-inner.ensures.made P u x d b h))
    (λ r e. nest_more P u x E ts us vs k ys c.index-binds-0.result c.index-binds-0.is less c.requires.binds b r e ∙ ap (put_items self x) (outermost P u E ts ys b less))
