-- Proves that a procedure is prepared.
use Rattle.std.proofs.Common.{List, refl, ap, ◌∙◌}
use Rattle.tla_tree.proofs.PoolNumbers.{Keeps-then}
use Rattle.pcal_tree.specs.declared.algorithm.Declaration.{Declaration}
use Rattle.pcal_tree.specs.declared.algorithm.Stmt.{Stmt}
use Rattle.pcal_tree.specs.Algorithm.{procedure_routine}
use Rattle.pcal_tree.specs.InMemory.{statements_at, declarations_at, procedure_at}
use Rattle.step_walks.specs.WrittenFlows.{own_statements}
use Rattle.step_moves.specs.Prepared.{prepared_declarations}
use Rattle.running.proofs.RoutineLaws.{names_declared, macros_stand, procedure_prepared}
use Rattle.running.proofs.program.procedure.Goals as goal

pub returns-clause-made : goal.returns-clause-made
returns-clause-made c = λ P d.
    let ts = c.args.pool.now in
    let us = c.declarations.new.pool in
    let vs = c.declarations-2.new.pool in
    let ws = c.statements.new.pool in
    let p = c.args.one.now in
    let k = c.in_ok-params.ensures.kept in
    let l = c.in_ok-variables.ensures.kept in
    let u = procedure_routine c.args.number (procedure_at ts p) in
    let is = c.places_of-places.ensures P u refl (names_declared ts p.params.items p.variables.items _ _ _ c.deref.ensures.value c.deref-2.ensures.value c.in_ok-names.ensures) d.naming d.own d.this in
    procedure_prepared ts us vs ws k l c.in_ok-body.ensures.kept P c.args.number p c.requires.there c.in_ok-copied.field-0 c.in_ok-params.params c.in_ok-variables.variables c.in_ok-body.body c.in_ok-copied.ensures
    c.in_ok-params.ensures.within (c.in_ok-params.ensures.made P u is ∙ ap (λ (ds : List Declaration). prepared_declarations P u (declarations_at ts ds)) c.deref-3.ensures.value)
    c.in_ok-variables.ensures.within (c.in_ok-variables.ensures.made P u is ∙ ap (λ (ds : List Declaration). prepared_declarations P u (declarations_at us ds)) c.deref-4.ensures.value)
    (c.in_ok-body.ensures.made P u is (macros_stand ts vs (Keeps-then ts us vs k l) c.args.draft.now P d _ c.deref-5.ensures.value)
    ∙ ap (λ (ss : List Stmt). own_statements P u (statements_at vs ss)) c.deref-6.ensures.value)
