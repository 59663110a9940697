-- Proves that the label is told that the value names.
use Rattle.std.proofs.Common.{[], sym, ap, ◌∙◌}
use Rattle.std.specs.Option.{option_map}
use Rattle.tla_tree.specs.Tree.{Name}
use Rattle.pcal_tree.specs.Calls.{label_name}
use Rattle.pcal_tree.specs.FirstTrouble.{stand_named}
use Rattle.pcal_tree.specs.Step.{Stand, routines_of}
use Rattle.step_runner.specs.Shown.{stepped}
use Rattle.step_moves.specs.Programs.{program_at}
use Rattle.step_spots.specs.InMemory.{routine_at}
use Rattle.step_moves.specs.InMemory.{actor_at}
use Rattle.step_meaning.specs.StandsAt.{stand_at, IsPlaced}
use Rattle.step_meaning.proofs.StandLaws.{stand_place, some_prepared, if_some, label_is}
use Rattle.step_meaning.proofs.StepLaws.{before_is}
use Rattle.explained_traces.proofs.befores.label_named.Goals as goal

pub returns-in-Some : goal.returns-in-Some
returns-in-Some c = λ s read.
    let ts = c.args.stage.now.program.pool.now in
    let P = program_at c.args.stage.now.program in
    let v = actor_at ts c.args.actor.now in
    let found = some_prepared P (stand_named P c.args.pc (routines_of P v)) (stand_at ts c.in-Some.stand) (sym (ap (option_map (stand_at ts)) c.in-Some.is) ∙ c.in_ok-stand.ensures.found) in
    let d = found.0 in
    let placed = if_some (IsPlaced c.args.stage.now.program) c.in_ok-stand.field-0 c.in-Some.stand c.in-Some.is c.in_ok-stand.ensures.placed in
    let label = c.in_ok-label-in-Some.ensures (label_name P d.routine d.label) (label_is P s v c.args.pc d read found.1.0) in
    let place =
    stand_place P c.requires.stage.openable d (routine_at ts c.in-Some.stand.routine) c.in-Some.stand.spot.label.now.word c.in-Some.stand.spot.label.now.place (ap (λ (x : Stand). x.routine) found.1.1) (ap (λ (x : Stand). x.label) found.1.1) placed.place
    ∙ ap (λ (n : Name). n.place) (sym c.name.view_is) in
    sym (before_is P s v c.args.pc [] read d found.1.0 ∙ (λ i. stepped (sym label i) (sym c.as_ref.ensures.value i) (place i)))
