-- Proves that a name is there besides.
use Rattle.std.proofs.Common.{sym, ◌∙◌}
use Rattle.read_rules.proofs.SetLaws.{joins_had}
use Rattle.read_rules.proofs.names.Names.add.Goals as goal

pub returns-then-has : goal.returns-then-has
returns-then-has c = joins_had c.args.self.now c.args.name.now (sym c.has.ensures ∙ c.if-has.true)
