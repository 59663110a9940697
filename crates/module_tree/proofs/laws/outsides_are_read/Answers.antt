-- Proves the law `outsides_are_read`.
use Rattle.module_tree.proofs.SomeOutside.{some_outside, one_outside_of}
use Rattle.module_tree.proofs.laws.outsides_are_read.Goals as goal

pub returns-clause-some : goal.returns-clause-some
returns-clause-some c = some_outside

pub returns-clause-one : goal.returns-clause-one
returns-clause-one c = one_outside_of
