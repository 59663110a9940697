-- Proves that the name of a procedure is looked at.
use Rattle.std.proofs.Common.{[], ◌∷◌, ap}
use Rattle.tla_tree.specs.Tree.{Name}
use Rattle.declared_rules.specs.Parts.{stacks}
use Rattle.declared_rules.proofs.WalkLaws.{adds_as, adds_then}
use Rattle.declared_rules.proofs.walk.Walked.stacked.Goals as goal

pub returns : goal.returns
returns c = λ ts.
    adds_then ts c.args.self.now c.declares.new.self c.stacks.new.self _ _ (c.declares.ensures ts)
    (adds_as ts c.declares.new.self c.stacks.new.self _ _ (ap (λ (n : Name). stacks n.place ∷ []) c.name.view_is) (c.stacks.ensures ts))
