-- Proves that the file is what is written for it, where nothing is wrong with it, and that only memory may be wanting then.
use Rattle.std.proofs.Common.{subst}
use Rattle.pcal_tree.specs.InMemory.{algorithm_at}
use Rattle.module_tree.specs.TextFront.{Text}
use Rattle.module_tree.specs.WithTranslation.{WithTranslation}
use Rattle.translating.proofs.WholeLaws.{is_memory, accepted, named, few, not_large, written}
use Rattle.translating.proofs.placed.with_its_translation.Goals as goal

pub returns-in-Err-clause-memory : goal.returns-in-Err-clause-memory
returns-in-Err-clause-memory c = λ forced h right.
    is_memory (algorithm_at c.args.pool.now c.args.checked.algorithm) c.in-Err.stop (not_large forced c.args.parts.now.text.now c.args.pool.now c.args.checked h right) c.in-Err.ensures.stopped

pub returns-in-Ok-with_translation-clause-whole : goal.returns-in-Ok-with_translation-clause-whole
returns-in-Ok-with_translation-clause-whole c = λ forced h right.
    let x = c.args.parts.now.text.now in
    let ts = c.args.pool.now in
    let made = c.in-Ok.ensures.made h.outside (accepted forced x ts c.args.checked h right c.requires.small) (named forced x ts c.args.checked h right) (few forced x ts c.args.checked h right) in
    let put = subst (λ (t : Text). WithTranslation x t c.in-Ok-with_translation.text.items) c.bytes.ensures c.in-Ok-with_translation.ensures in
    let p = written forced x ts c.args.checked h right c.args.no_terminating c.in-Ok.made c.in-Ok-with_translation.text.items made put in
    record { whole = p.0; variables = p.1 }
