-- Proves that the names are those that are defined.
use Rattle.std.proofs.Common.{ap, ◌∙◌, rules}
use Rattle.written_names.specs.Units.{naming_of}
use Rattle.written_names.proofs.UnitLists.{naming_given}
use Rattle.written_names.proofs.give.named_by.Goals as goal

pub returns : goal.returns
returns c = λ ts extended taken k.
    ap naming_of c.new.ensures
    ∙ naming_given ts c.args.algorithm.now c.args.giver.now c.add_units.new.giver extended taken c.len.result c.in_ok-units.units.items c.add_units.new.units.items k (search rules) c.in_ok-units.ensures (c.in_ok-add_units.ensures ts)
