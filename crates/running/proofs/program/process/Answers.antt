-- Proves that a process is prepared.
use Rattle.std.proofs.Common.{List, [], refl, ap, ◌∙◌}
use Rattle.pcal_tree.specs.declared.algorithm.Declaration.{Declaration}
use Rattle.pcal_tree.specs.declared.algorithm.Stmt.{Stmt}
use Rattle.pcal_tree.specs.Algorithm.{process_routine}
use Rattle.pcal_tree.specs.InMemory.{statements_at, declarations_at, process_at}
use Rattle.step_walks.specs.WrittenFlows.{own_statements}
use Rattle.step_moves.specs.Prepared.{prepared_declarations}
use Rattle.running.proofs.RoutineLaws.{names_declared, macros_stand, process_prepared}
use Rattle.running.proofs.program.process.Goals as goal

pub returns-clause-made : goal.returns-clause-made
returns-clause-made c = λ P d.
    let ts = c.args.pool.now in
    let us = c.declarations.new.pool in
    let p = c.args.one.now in
    let k = c.in_ok-variables.ensures.kept in
    let u = process_routine c.args.number (process_at ts p) in
    let is = c.places_of-places.ensures P u refl (names_declared ts [] p.variables.items _ _ _ refl c.deref.ensures.value c.in_ok-names.ensures) d.naming d.own d.this in
    process_prepared ts us c.statements.new.pool k c.in_ok-body.ensures.kept P c.args.number p c.requires.there c.in_ok-copied.field-0 c.in_ok-variables.variables c.in_ok-body.body c.in_ok-copied.ensures
    c.in_ok-variables.ensures.within (c.in_ok-variables.ensures.made P u is ∙ ap (λ (ds : List Declaration). prepared_declarations P u (declarations_at ts ds)) c.deref-2.ensures.value)
    (c.in_ok-body.ensures.made P u is (macros_stand ts us k c.args.draft.now P d _ c.deref-3.ensures.value) ∙ ap (λ (ss : List Stmt). own_statements P u (statements_at us ss)) c.deref-4.ensures.value)
