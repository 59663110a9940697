-- Proves that it is the translation of the text's algorithm, whichever way this was read, and that a text in which something is wrong is answered so.
use Rattle.running.proofs.ReadyLaws.{can_run}
use Rattle.tracing.proofs.TranslatedLaws.{translation_told, stop_told}
use Rattle.tracing.proofs.translated.translated.Goals as goal

pub translation_of-requires : goal.translation_of-requires
translation_of-requires c = can_run c.args.forced c.args.source.now c.checked_source.new.pool c.in-Ok.checked c.in-Ok.ensures.labelled c.in-Ok.ensures.clean c.requires

pub returns-clause-made : goal.returns-clause-made
returns-clause-made c =
    translation_told c.args.forced c.args.source.now c.checked_source.new.pool c.in-Ok.checked c.in-Ok.ensures.labelled c.in-Ok.ensures.clean
    c.args.no_terminating c.translation_of.result c.translation_of.ensures.made

pub returns-clause-stopped : goal.returns-clause-stopped
returns-clause-stopped c =
    stop_told c.args.forced c.args.source.now c.checked_source.new.pool c.in-Ok.checked c.in-Ok.ensures.labelled c.in-Ok.ensures.clean
    c.translation_of.result c.translation_of.ensures.stopped
