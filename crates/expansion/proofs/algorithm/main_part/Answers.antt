-- Proves that the one body is its expansion.
use Rattle.std.proofs.Common.{sym, ap, ◌∙◌}
use Rattle.pcal_tree.specs.declared.algorithm.Main.{Main}
use Rattle.pcal_tree.specs.Algorithm.{alone}
use Rattle.pcal_tree.specs.Expand.{expanded}
use Rattle.pcal_tree.specs.InMemory.{main_at}
use Rattle.macro_expand.specs.Size.{expanded_main}
use Rattle.expansion_size.specs.FramesIn.{newest_first}
use Rattle.expansion.proofs.AlgorithmLaws.{body_made}
use Rattle.expansion.proofs.algorithm.main_part.Goals as goal

pub returns-in_ok-alone-in-Alone-clause-made : goal.returns-in_ok-alone-in-Alone-clause-made
returns-in_ok-alone-in-Alone-clause-made c =
    let ts = c.args.pool.now in
    let ms = c.args.macros.now in
    let made = c.in_ok-alone-in-Alone.ensures in
    ap alone (body_made ts c.body.new.pool made.kept ms c.in_ok-alone-in-Alone.alone.items c.in-Alone.stmts.items _ made.made.stand c.deref.ensures.value)
    ∙ ap (λ (m : Main). expanded_main (expanded (newest_first ts ms)) (main_at ts m)) (sym c.in-Alone.is)
