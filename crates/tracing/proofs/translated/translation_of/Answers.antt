-- Proves that it is the translation of the checked algorithm, and why there is none.
use Rattle.std.proofs.Common.{◌≡◌, ap, Some, Err}
use Rattle.tla_token.specs.declared.rule.Stop.{Stop}
use Rattle.pcal_tree.specs.InMemory.{algorithm_at}
use Rattle.pcal_tree.specs.Offences.{first}
use Rattle.macro_expand.specs.TooLarge.{too_large}
use Rattle.module_outside.specs.WholeAt.{outside_at}
use Rattle.tracing.proofs.TranslatedLaws.{are_kept, is_translation, stop_of}
use Rattle.tracing.proofs.translated.translation_of.Goals as goal

pub returns-in-Err-clause-stopped : goal.returns-in-Err-clause-stopped
returns-in-Err-clause-stopped c =
    stop_of c.in-Err.stop (λ r. first (too_large (algorithm_at c.args.pool c.args.checked.algorithm)) ≡ Some r) (λ r e. (c.in-Err.ensures.refused r).0 (ap (λ (s : Stop). Err s) e))

pub returns-clause-made : goal.returns-clause-made
returns-clause-made c =
    let ts = c.args.pool in
    let k = c.args.checked in
    let h = c.requires in
    is_translation c.args.no_terminating ts c.built_region.new.pool c.in-Ok.ensures.kept k h c.in-Ok.region c.in_ok-defs.defs c.add_process_set.new.defs
    (c.in-Ok.ensures.built (outside_at ts k.outside) h.accepted h.names h.few) c.in-Ok.ensures.within
    (are_kept k c.as_slice.result.now c.as_slice.ensures.value c.in_ok-defs.defs c.in_ok-defs.ensures.all c.in_ok-defs.ensures.within)
    (record { added = c.in_ok-add_process_set.ensures.added; within = c.in_ok-add_process_set.ensures.within })
