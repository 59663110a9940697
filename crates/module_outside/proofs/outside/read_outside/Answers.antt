-- All that is outside is found.
use Rattle.module_tree.specs.FileUnits.{cut}
use Rattle.expr_nodes.specs.Ahead.{ahead}
use Rattle.module_outside.proofs.OutsideLaws.{outside_is, outside_of_file}
use Rattle.module_outside.proofs.outside.read_outside.Goals as goal

pub returns-clause-value : goal.returns-clause-value
returns-clause-value c =
    let d = c.in_ok-declared in
    let all = c.in_ok-found.ensures.all in
    outside_is (cut (ahead c.args.before.now 0)).units (cut (ahead c.args.after.now 0)).units d.declared.extended.items d.declared.constants.items _ _ d.ensures.extended d.ensures.constants all.definitions all.opaque

pub returns-clause-file : goal.returns-clause-file
returns-clause-file c =
    let d = c.in_ok-declared in
    let all = c.in_ok-found.ensures.all in
    outside_of_file c.args.before.now c.args.after.now _
    (outside_is (cut (ahead c.args.before.now 0)).units (cut (ahead c.args.after.now 0)).units d.declared.extended.items d.declared.constants.items _ _ d.ensures.extended d.ensures.constants all.definitions all.opaque)
