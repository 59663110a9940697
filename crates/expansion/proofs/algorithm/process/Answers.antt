-- Proves that a process has the expansion of its body.
use Rattle.std.proofs.Common.{◌∙◌}
use Rattle.expansion.proofs.AlgorithmLaws.{body_made, process_made}
use Rattle.expansion.proofs.algorithm.process.Goals as goal

pub returns-clause-made : goal.returns-clause-made
returns-clause-made c =
    let ts = c.args.pool.now in
    let us = c.body.new.pool in
    let ms = c.args.macros.now in
    let o = c.args.one.now in
    let made = c.in_ok-body.ensures in
    process_made ts us made.kept ms o c.in_ok-copied.field-0 c.in_ok-variables.variables c.in_ok-body.body c.requires.there c.in_ok-copied.ensures (c.in_ok-variables.ensures ∙ c.deref-2.ensures.value)
    (body_made ts us made.kept ms c.in_ok-body.body.items o.body.items _ made.made.stand c.deref.ensures.value)
