use Rattle.std.proofs.Common.{ap, ◌∙◌}
use Rattle.std.specs.Prelude.{◌+◌, filter, not, false, drop, slice_index_or as get_or}
use Rattle.tla_token.specs.declared.rule.Rule.TheVariants.{TwoAlgorithms}
use Rattle.tla_token.specs.Offences.{least}
use Rattle.tla_token.specs.Readings.{joined}
use Rattle.module_tree.specs.FileOffences.{offences_at}
use Rattle.module_split.proofs.StandSteps.{start_more}
use Rattle.module_split.proofs.offence.second_fault.Goals as goal

pub starts-preserved : goal.starts-preserved
starts-preserved c =
    let more = least (offences_at TwoAlgorithms (filter (λ k. not (get_or c.args.marks.now k false)) (drop (c.starts.start-index + 1) c.args.starts.now))) in
    ap (λ o. joined o more) (c.sooner-fault.ensures ∙ ap (joined c.starts.fault) c.start_fault.ensures)
    ∙ start_more c.starts.fault c.args.marks.now c.args.starts.now c.starts.start-index 0 c.starts-test.true
    ∙ c.starts.invariant
