-- Proves what is asked of `write_joined`.
use Rattle.std.proofs.Common.{ℕ, List, ◌++◌, refl, ap, ◌∙◌}
use Rattle.std.specs.Prelude.{codes}
use Rattle.module_tree.specs.ExprText.{joined}
use Rattle.tla_write.proofs.OneMore.{parted_more}
use Rattle.module_lines.proofs.line.write_joined.Goals as goal

pub loop-i-preserved : goal.loop-i-preserved
loop-i-preserved c =
    parted_more joined (λ x. x) (codes ", ") (record { none = refl; one = λ x. refl; more = λ x y xs. refl }) c.args.into.now c.loop-i.into c.write_where.new.into c.extend.new.self c.args.names.now c.loop-i.i c.index-names-i.result
    c.index-names-i.is c.loop-i-test.true c.loop-i.invariant c.in_ok-write_where.ensures (c.in_ok-extend.ensures.ok ∙ ap (λ (w : List ℕ). c.write_where.new.into ++ w) c.bytes.ensures)
