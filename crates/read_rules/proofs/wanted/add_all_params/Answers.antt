-- Proves that the parameters of macros are there besides.
use Rattle.std.proofs.Common.{List, subst}
use Rattle.pcal_tree.specs.Algorithm.{Name}
use Rattle.pcal_tree.specs.declared.algorithm.Macro.{Macro}
use Rattle.read_rules.specs.Joins.{Joins}
use Rattle.read_rules.specs.WantedIn.{names_in}
use Rattle.read_rules.proofs.SetLaws.{joins_none, joins_more, joins_all}
use Rattle.read_rules.proofs.wanted.add_all_params.Goals as goal

pub loop-one-init : goal.loop-one-init
loop-one-init c = joins_none c.args.names.now

pub loop-one-preserved : goal.loop-one-preserved
loop-one-preserved c =
    joins_more (λ (d : Macro). names_in d.params.items) c.args.names.now c.loop-one.names c.add_params.new.names c.args.macros.now c.loop-one.one-index c.one-item.result c.one-item.is c.loop-one-test.true
    c.loop-one.invariant (subst (λ (ps : List Name). Joins c.loop-one.names c.add_params.new.names (names_in ps)) c.deref.ensures.value c.in_ok-add_params.ensures)

pub returns : goal.returns
returns c = joins_all (λ (d : Macro). names_in d.params.items) c.args.names.now c.loop-one.names c.args.macros.now c.loop-one.one-index c.loop-one-test.false c.loop-one.invariant
