-- Proves what is asked of `put_arms`.
use Rattle.std.proofs.Common.{Bool, subst}
use Rattle.tla_tree.specs.Shapes.{CaseShaped}
use Rattle.tla_write.proofs.WritingLemmas.{paired_twice, others_twice}
use Rattle.tla_write.proofs.write.put_arms.Goals as goal

pub put_pairs-requires-clause-paired : goal.put_pairs-requires-clause-paired
put_pairs-requires-clause-paired c = others_twice c.args.n (subst (λ (b : Bool). CaseShaped b c.args.n) c.if-other.true c.requires)

pub put_pairs-requires-else-other-clause-paired : goal.put_pairs-requires-else-other-clause-paired
put_pairs-requires-else-other-clause-paired c = paired_twice c.args.n (subst (λ (b : Bool). CaseShaped b c.args.n) c.if-other.false c.requires)
