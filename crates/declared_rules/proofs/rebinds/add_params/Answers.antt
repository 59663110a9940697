-- Proves that the names are the identifier's and those of parameters.
use Rattle.std.proofs.Common.{List, ◌∷◌, subst}
use Rattle.std.proofs.lemmas.List.{take_all}
use Rattle.tla_tree.specs.Tree.{Name, words}
use Rattle.algorithm_limits.specs.DepthsIn.{Hides}
use Rattle.pcal_tree.specs.declared.algorithm.Macro.{Macro}
use Rattle.declared_rules.specs.Macros.{macro_names}
use Rattle.declared_rules.proofs.WholeLaws.{macro_more}
use Rattle.declared_rules.proofs.rebinds.add_params.Goals as goal

pub loop-i-init : goal.loop-i-init
loop-i-init c = c.in_ok-add.ensures

pub loop-i-preserved : goal.loop-i-preserved
loop-i-preserved c =
    macro_more c.args.macros.now c.loop-i.i c.index-macros-i.result c.args.names.now c.loop-i.names c.add_all.new.self c.args.process.now c.index-macros-i.is c.loop-i-test.true c.loop-i.invariant
    (subst (λ (ns : List Name). Hides c.loop-i.names c.add_all.new.self (words ns)) c.deref.ensures.value c.in_ok-add_all.ensures)

pub returns : goal.returns
returns c = subst (λ (ms : List Macro). Hides c.args.names.now c.loop-i.names (c.args.process.now ∷ macro_names ms)) (take_all c.loop-i.i c.args.macros.now c.loop-i-test.false) c.loop-i.invariant
