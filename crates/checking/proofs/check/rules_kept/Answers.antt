-- Proves that a name which is wrong counts before labels.
use Rattle.std.proofs.Common.{◌≡◌, ◌++◌, ap, Err}
use Rattle.tla_token.specs.declared.rule.Stop.{Stop}
use Rattle.tla_token.specs.declared.rule.Stop.TheVariants as stop
use Rattle.pcal_tree.specs.InMemory.{algorithm_at}
use Rattle.pcal_tree.specs.OffencesLabels.{label_offences}
use Rattle.pcal_tree.specs.OffencesOfNames.{name_offences}
use Rattle.macro_expand.specs.TooLarge.{too_large}
use Rattle.module_outside.specs.WholeAt.{outside_at}
use Rattle.checking.proofs.CheckedFile.{first_before}
use Rattle.checking.proofs.check.rules_kept.Goals as goal

pub returns-in-Err-clause-refused : goal.returns-in-Err-clause-refused
returns-in-Err-clause-refused c = λ r e.
    let a = algorithm_at c.args.pool.now c.args.beside.algorithm in
    let f : c.in-Err.stop ≡ stop.Refused r = cc in
    first_before (name_offences a (outside_at c.args.pool.now c.args.beside.outside)) (label_offences a ++ too_large a) r (c.in-Err.ensures.refused r (ap (λ (s : Stop). Err s) f))
