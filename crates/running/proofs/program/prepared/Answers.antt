-- Proves that procedures and what runs are prepared.
use Rattle.std.proofs.Common.{◌≡◌, length, map, ap, ◌∙◌, arith}
use Rattle.pcal_tree.specs.Algorithm.{numbered, Algorithm}
use Rattle.pcal_tree.specs.InMemory.{procedure_at}
use Rattle.pcal_tree.proofs.InMemoryGrown.{main_at-kept}
use Rattle.draft.proofs.Grown.{draft_kept}
use Rattle.expansion.proofs.AlgorithmLaws.{procedures_kept}
use Rattle.step_moves.specs.Prepared.{prepared_procedure, prepared_main}
use Rattle.running.proofs.RoutineLaws.{first_stands, next_stands}
use Rattle.running.proofs.program.prepared.Goals as goal

pub returns-clause-procedures : goal.returns-clause-procedures
returns-clause-procedures c = λ P is.
    let ts = c.args.pool.now in
    let d = c.args.draft.now in
    let first = first_stands ts d P is c.len-first.result (omega (arith, c.len-first.ensures, d.algorithm.now.macros.ok)) in
    procedures_kept c.procedures.new.pool c.main_part.new.pool c.in_ok-main.ensures.kept d.algorithm.now.macros.items c.in_ok-procedures.procedures.items c.in_ok-procedures.ensures.within
    ∙ c.in_ok-procedures.ensures.made P is
    ∙ (λ j. numbered (prepared_procedure P) (first j) ((ap (map (procedure_at ts)) c.deref.ensures.value ∙ ap (λ (a : Algorithm). a.procedures) is.algorithm) j))

pub returns-clause-main : goal.returns-clause-main
returns-clause-main c = λ P is.
    let ts = c.args.pool.now in
    let us = c.procedures.new.pool in
    let d = c.args.draft.now in
    let kept = c.in_ok-procedures.ensures.kept in
    let first : c.len-first.result ≡ length d.algorithm.now.macros.items = omega (arith, c.len-first.ensures, d.algorithm.now.macros.ok) in
    let many : c.len.result ≡ length d.algorithm.now.procedures.items = omega (arith, c.len.ensures, d.algorithm.now.procedures.ok) in
    c.in_ok-main.ensures.made P (draft_kept ts us kept d P is) (next_stands ts d P is c.len-first.result first c.len.result c.in_ok-number.number many c.in_ok-number.ensures)
    ∙ ap (prepared_main P) (main_at-kept ts us kept d.algorithm.now.main (omega (arith, c.requires)) ∙ ap (λ (a : Algorithm). a.main) is.algorithm)
