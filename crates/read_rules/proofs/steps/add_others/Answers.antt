-- Proves that names are uses at a place.
use Rattle.std.proofs.Common.{[], ◌∷◌, ◌++◌, ◌∙◌, ap}
use Rattle.tla_tree.specs.Tree.{Name}
use Rattle.pcal_tree.specs.laws.MacroSpots.{other}
use Rattle.pcal_tree.specs.Reads.{named}
use Rattle.read_rules.specs.UsesIn.{uses_of}
use Rattle.read_rules.proofs.StepLaws.{others_then, others_done}
use Rattle.read_rules.proofs.steps.add_others.Goals as goal

pub loop-one-preserved : goal.loop-one-preserved
loop-one-preserved c =
    others_then c.args.place (uses_of c.loop-one.list.items) (uses_of c.add_use.new.list.items) c.args.names.now c.loop-one.one-index c.one-item.result c.one-item.is c.loop-one-test.true
    (c.in_ok-add_use.ensures ∙ ap (λ (n : Name). uses_of c.loop-one.list.items ++ other (named n.word c.args.place) ∷ []) c.one.view_is)
    ∙ c.loop-one.invariant

pub returns : goal.returns
returns c = others_done c.args.place (uses_of c.loop-one.list.items) c.args.names.now c.loop-one.one-index c.loop-one-test.false ∙ c.loop-one.invariant
