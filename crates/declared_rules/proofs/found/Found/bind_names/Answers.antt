-- Proves that what a `with` names is looked at.
use Rattle.std.proofs.Common.{[], ◌∷◌}
use Rattle.pcal_tree.specs.declared.algorithm.Bind.{Bind}
use Rattle.declared_rules.specs.Parts.{bind_name}
use Rattle.declared_rules.proofs.NameLaws.{names_as, names_more, names_all, one_each}
use Rattle.declared_rules.proofs.found.Found.bind_names.Goals as goal

pub loop-bind-preserved : goal.loop-bind-preserved
loop-bind-preserved c =
    names_more (λ (b : Bind). bind_name b ∷ []) c.args.binds.now c.args.self.now c.loop-bind.self c.bind_name.new.self c.loop-bind.bind-index c.bind-item.result c.bind-item.is
    c.loop-bind-test.true c.loop-bind.invariant c.in_ok-bind_name.ensures

pub returns : goal.returns
returns c =
    names_as c.args.self.now c.loop-bind.self _ _ (one_each bind_name c.args.binds.now)
    (names_all (λ (b : Bind). bind_name b ∷ []) c.args.binds.now c.args.self.now c.loop-bind.self c.loop-bind.bind-index c.loop-bind-test.false c.loop-bind.invariant)
