-- Proves that the names that a definition outside binds are added.
use Rattle.std.proofs.Common.{ap, arith}
use Rattle.tla_tree.specs.Tree.{words}
use Rattle.declared_rules.proofs.MetWalks.{adds_then, adds_as, marked_within}
use Rattle.declared_rules.proofs.met.Met.read.Goals as goal

pub returns : goal.returns
returns c = λ ts l.
    adds_then ts c.args.self.now c.names.new.self c.mark.new.self _ _ (adds_as ts c.args.self.now c.names.new.self _ _ (ap words c.deref.ensures.value) (c.in_ok-names.ensures ts))
    (marked_within ts c.names.new.self c.mark.new.self c.args.definition.now.body c.mark.ensures.adds c.mark.ensures.past (omega (arith, l, (c.in_ok-names.ensures ts).many)))
