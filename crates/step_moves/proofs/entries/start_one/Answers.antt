-- Proves that a variable gets its first value, what stops that, and that the variables stay the program's.
use Rattle.std.proofs.Common.{◌≡◌, Ok, sym, ap, subst, ◌∙◌}
use Rattle.pcal_tree.specs.declared.algorithm.Declaration.{Declaration}
use Rattle.pcal_tree.specs.declared.algorithm.Start.{Start}
use Rattle.pcal_tree.specs.Calls.{initial_place, setting}
use Rattle.pcal_tree.specs.InMemory.{start_at}
use Rattle.value_forms.specs.Gives.{Stops}
use Rattle.value_forms.proofs.StopLaws.{err_is}
use Rattle.written_names.specs.Units.{naming_of}
use Rattle.step_walks.specs.WrittenCalls.{first_value}
use Rattle.step_spots.specs.InMemory.{routine_at}
use Rattle.step_moves.specs.Programs.{program_at}
use Rattle.step_moves.specs.StatesOf.{state_of}
use Rattle.step_moves.specs.Prepared.{as_prepared}
use Rattle.step_moves.proofs.EntryForms.{start_none, start_last}
use Rattle.step_moves.proofs.MoveLaws.{scene_if}
use Rattle.step_moves.proofs.ReplaceForms.{gives_as}
use Rattle.step_moves.proofs.entries.start_one.Goals as goal

pub returns-in_err-first-clause-started : goal.returns-in_err-first-clause-started
returns-in_err-first-clause-started c v e b =
    let r = c.args.runner.now in
    let w = c.args.visit.now in
    let p = routine_at r.program.pool.now w.callee in
    let stop = c.in_err-first.field-0.0 in
    err_is _ c.from_residual.result stop _ c.from_residual.ensures
    (start_none r v w.callee e w.place c.args.one.now (state_of c.args.state.now) stop
    (subst (λ (d : Start). Stops stop (first_value (as_prepared (program_at r.program)) v p w.place (start_at r.program.pool.now d) (state_of c.args.state.now))) (ap (λ (d : Declaration). d.start) c.one.view_is) (c.in_err-first.ensures v p b)))

pub returns-clause-started : goal.returns-clause-started
returns-clause-started c v e b =
    let r = c.args.runner.now in
    let w = c.args.visit.now in
    let p = routine_at r.program.pool.now w.callee in
    let s = state_of c.args.state.now in
    let first = c.in_ok-first.first in
    let path = c.in_ok-path.path.items in
    let d = c.args.one.now in
    let got : first_value (as_prepared (program_at r.program)) v p w.place (start_at r.program.pool.now d.start) s ≡ Ok first =
    ap (λ (d : Declaration). first_value (as_prepared (program_at r.program)) v p w.place (start_at r.program.pool.now d.start) s) (sym c.one.view_is) ∙ c.in_ok-first.ensures v p b in
    let place : c.start_place.result ≡ initial_place w.place (start_at r.program.pool.now d.start) = c.start_place.ensures ∙ ap (λ (d : Declaration). initial_place w.place (start_at r.program.pool.now d.start)) c.one.view_is in
    let name : c.local.result.now ≡ (naming_of r.program.naming.now).local w.callee.number d.name.word = c.local.ensures ∙ ap (λ (d : Declaration). (naming_of r.program.naming.now).local w.callee.number d.name.word) c.one.view_is in
    gives_as _ c.set_one.result _ _ (start_last r v w.callee e w.place d s first got _ path c.in_ok-path.ensures (λ i. setting (place i) (name i) path first)) c.set_one.ensures.set

pub returns-clause-scene : goal.returns-clause-scene
returns-clause-scene c =
    let r = c.args.runner.now in
    let w = c.args.visit.now in
    scene_if r.program c.args.state.now c.set_one.new.state _ _ c.set_one.result c.requires.scene c.requires.known
    (c.local.ensures ∙ ap (λ (d : Declaration). (naming_of r.program.naming.now).local w.callee.number d.name.word) c.one.view_is) c.set_one.ensures.names
