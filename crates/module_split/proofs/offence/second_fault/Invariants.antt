use Rattle.std.proofs.Common.{◌≡◌, drop, filter, not, get_or, false}
use Rattle.tla_token.specs.declared.rule.Rule.TheVariants.{TwoAlgorithms}
use Rattle.tla_token.specs.Offences.{least}
use Rattle.tla_token.specs.Readings.{joined}
use Rattle.module_tree.specs.FileOffences.{offences_at}
use Rattle.module_split.proofs.offence.second_fault.Given as goal

abbrev pub invariant-starts : goal.invariant-starts
invariant-starts l =
    joined l.fault (least (offences_at TwoAlgorithms (filter (λ k. not (get_or l.marks k false)) (drop l.start-index l.starts))))
    ≡ least (offences_at TwoAlgorithms (filter (λ k. not (get_or l.marks k false)) l.starts))
