-- Proves that the names of parameters are there besides.
use Rattle.std.proofs.Common.{[], ◌∷◌, subst}
use Rattle.pcal_tree.specs.Algorithm.{Name}
use Rattle.read_rules.specs.Joins.{Joins}
use Rattle.read_rules.proofs.SetLaws.{joins_none, joins_more, joins_all}
use Rattle.read_rules.proofs.wanted.add_params.Goals as goal

pub loop-param-init : goal.loop-param-init
loop-param-init c = joins_none c.args.names.now

pub loop-param-preserved : goal.loop-param-preserved
loop-param-preserved c =
    joins_more (λ (p : Name). p.word ∷ []) c.args.names.now c.loop-param.names c.add.new.self c.args.params.now c.loop-param.param-index c.param-item.result c.param-item.is c.loop-param-test.true
    c.loop-param.invariant (subst (λ (p : Name). Joins c.loop-param.names c.add.new.self (p.word ∷ [])) c.param.view_is c.in_ok-add.ensures)

pub returns : goal.returns
returns c = joins_all (λ (p : Name). p.word ∷ []) c.args.names.now c.loop-param.names c.args.params.now c.loop-param.param-index c.loop-param-test.false c.loop-param.invariant
