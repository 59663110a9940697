-- Proves that procedures and what runs are of the expansion.
use Rattle.std.proofs.Common.{List, map, ap, ◌∙◌, arith}
use Rattle.pcal_tree.specs.declared.algorithm.Macro.{Macro}
use Rattle.pcal_tree.specs.Expand.{expanded}
use Rattle.pcal_tree.specs.InMemory.{procedure_at, main_at}
use Rattle.macro_expand.specs.Size.{expanded_main}
use Rattle.expansion_size.specs.FramesIn.{newest_first}
use Rattle.expansion.specs.Expanded.{expanded_procedure}
use Rattle.expansion.proofs.AlgorithmLaws.{procedures_kept, main_grown}
use Rattle.expansion.proofs.algorithm.written_bodies.Goals as goal

pub returns-clause-procedures : goal.returns-clause-procedures
returns-clause-procedures c =
    let ts = c.args.pool.now in
    let a = c.args.algorithm.now in
    procedures_kept c.procedures.new.pool c.main_part.new.pool c.in_ok-main.ensures.kept a.macros.items c.in_ok-procedures.procedures.items c.in_ok-procedures.ensures.within
    ∙ c.in_ok-procedures.ensures.made
    ∙ (λ j. map (expanded_procedure (newest_first ts (c.deref.ensures.value j))) (map (procedure_at ts) (c.deref-2.ensures.value j)))

pub returns-clause-main : goal.returns-clause-main
returns-clause-main c =
    let ts = c.args.pool.now in
    let us = c.procedures.new.pool in
    let a = c.args.algorithm.now in
    c.in_ok-main.ensures.made
    ∙ ap (λ (ms : List Macro). expanded_main (expanded (newest_first us ms)) (main_at us a.main)) c.deref-3.ensures.value
    ∙ main_grown ts us c.in_ok-procedures.ensures.kept a.macros.items (omega (arith, c.requires)) a.main (omega (arith, c.requires))
