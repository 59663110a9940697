-- Proves that an expression is written by its written names.
use Rattle.std.proofs.Common.{◌≡◌, IfOk, subst}
use Rattle.tla_token.specs.Signs.{is_among}
use Rattle.tla_tree.specs.Tree.{Tree, graft}
use Rattle.tla_tree.specs.Pool.{at}
use Rattle.pcal_tree.specs.Variables.{vars}
use Rattle.module_tree.specs.Formulas.{self}
use Rattle.name_bits.specs.NamesIn.{names_in}
use Rattle.action_builder.specs.Written.{primed}
use Rattle.right_sides.specs.After.{put_one}
use Rattle.step_items.specs.Writing.{own_of}
use Rattle.step_items.proofs.DeskLaws.{desk_kept}
use Rattle.step_items.proofs.expressions.expression.Goals as goal

pub returns-clause-tree : goal.returns-clause-tree
returns-clause-tree c = λ P u x h.
    let mid = c.by_written_names.new.pool in
    subst (λ (t : Tree). IfOk c.in_step.result (λ r. at c.in_step.new.pool r ≡ put_one self x (primed (is_among (names_in (vars P) c.args.before.now)) (graft (own_of P) t)))) (c.in_ok-named.ensures.tree P u x h)
    (c.in_step.ensures.tree P u x (desk_kept c.args.pool.now mid c.in_ok-named.ensures.kept c.args.desk.now P u x c.requires.desk h))
