-- What is kept: the first of what was found and of the offences of the names that were passed.
use Rattle.pcal_tree.specs.OffencesSelf.{self_offence}
use Rattle.read_rules.proofs.FoundLaws.{Found}
use Rattle.read_rules.proofs.selves.with_names.Given as goal

abbrev pub invariant-loop-one : goal.invariant-loop-one
invariant-loop-one l = Found self_offence l.names l.one-index l.fn.so_far l.found
