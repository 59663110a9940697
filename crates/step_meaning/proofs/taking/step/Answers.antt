-- Proves what is replied of a step.
use Rattle.std.proofs.Common.{sym, ap, subst, ◌∙◌}
use Rattle.std.specs.Option.{option_map}
use Rattle.tla_tree.specs.Tree.{Word, Name}
use Rattle.pcal_tree.specs.Calls.{label_name}
use Rattle.pcal_tree.specs.FirstTrouble.{stand_named}
use Rattle.pcal_tree.specs.Scope.{State}
use Rattle.pcal_tree.specs.Step.{Stand, routines_of}
use Rattle.pcal_tree.specs.StepAnswers.{reached, label_place}
use Rattle.step_runner.specs.Shown.{stepped}
use Rattle.step_moves.specs.Programs.{program_at}
use Rattle.step_spots.specs.InMemory.{routine_at}
use Rattle.step_moves.specs.StatesOf.{state_of}
use Rattle.step_moves.specs.InMemory.{actor_at}
use Rattle.step_meaning.specs.declared.taking.Taken.{Taken}
use Rattle.step_meaning.specs.Replies.{HaltsBy}
use Rattle.step_meaning.specs.StandsAt.{stand_at, IsPlaced}
use Rattle.step_meaning.proofs.ReplyLaws.{err_replies, reached_more, halts_more}
use Rattle.step_meaning.proofs.StandLaws.{stand_place, some_prepared, if_some, label_is, routine_known}
use Rattle.step_meaning.proofs.StepLaws.{step_is, before_is}
use Rattle.step_meaning.proofs.taking.step.Goals as goal

pub state_after-requires-clause-stand : goal.state_after-requires-clause-stand
state_after-requires-clause-stand c =
    let ts = c.args.stage.now.program.pool.now in
    let P = program_at c.args.stage.now.program in
    let v = actor_at ts c.args.actor.now in
    let found = some_prepared P (stand_named P c.in_ok-pc.pc (routines_of P v)) (stand_at ts c.in-Some.stand) (sym (ap (option_map (stand_at ts)) c.in-Some.is) ∙ c.in_ok-stand.ensures.found) in
    (found.0, record { one_of = routine_known P (state_of c.args.state) v c.in_ok-pc.pc found.0 c.in_ok-pc.ensures found.1.0 c.requires.own; prepared = found.1.1 })

pub returns-in_err-after-in-Some-clause-stepped : goal.returns-in_err-after-in-Some-clause-stepped
returns-in_err-after-in-Some-clause-stepped c =
    let ts = c.args.stage.now.program.pool.now in
    let P = program_at c.args.stage.now.program in
    let v = actor_at ts c.args.actor.now in
    let s = state_of c.args.state in
    let found = some_prepared P (stand_named P c.in_ok-pc.pc (routines_of P v)) (stand_at ts c.in-Some.stand) (sym (ap (option_map (stand_at ts)) c.in-Some.is) ∙ c.in_ok-stand.ensures.found) in
    let d = found.0 in
    err_replies (λ (r : Taken). (state_of r.state, r.label)) c.from_residual-in_err-after-in-Some.result c.in_err-after-in-Some.field-0.0 _ c.from_residual-in_err-after-in-Some.ensures
    (subst (HaltsBy c.in_err-after-in-Some.field-0.0) (sym (step_is P s v c.in_ok-pc.pc c.args.choices.now c.in_ok-pc.ensures d found.1.0))
    (halts_more (λ (t : State). (t, label_name P d.routine d.label)) (label_place d.routine d.label) _ c.in_err-after-in-Some.field-0.0
    (c.in_err-after-in-Some.ensures.replied d (record { one_of = routine_known P s v c.in_ok-pc.pc d c.in_ok-pc.ensures found.1.0 c.requires.own; prepared = found.1.1 }))))

pub returns-in_ok-after-in-Some-clause-stepped : goal.returns-in_ok-after-in-Some-clause-stepped
returns-in_ok-after-in-Some-clause-stepped c =
    let ts = c.args.stage.now.program.pool.now in
    let P = program_at c.args.stage.now.program in
    let v = actor_at ts c.args.actor.now in
    let s = state_of c.args.state in
    let found = some_prepared P (stand_named P c.in_ok-pc.pc (routines_of P v)) (stand_at ts c.in-Some.stand) (sym (ap (option_map (stand_at ts)) c.in-Some.is) ∙ c.in_ok-stand.ensures.found) in
    let d = found.0 in
    step_is P s v c.in_ok-pc.pc c.args.choices.now c.in_ok-pc.ensures d found.1.0
    ∙ reached_more (λ (t : State). (t, label_name P d.routine d.label)) (label_place d.routine d.label) _ (state_of c.in_ok-after-in-Some.after)
    (c.in_ok-after-in-Some.ensures.replied d (record { one_of = routine_known P s v c.in_ok-pc.pc d c.in_ok-pc.ensures found.1.0 c.requires.own; prepared = found.1.1 }))
    ∙ ap (λ (l : Word). reached (state_of c.in_ok-after-in-Some.after, l)) (sym (c.in_ok-label-in-Some.ensures (label_name P d.routine d.label) (label_is P s v c.in_ok-pc.pc d c.in_ok-pc.ensures found.1.0)))

pub returns-in_ok-after-in-Some-clause-before : goal.returns-in_ok-after-in-Some-clause-before
returns-in_ok-after-in-Some-clause-before c =
    let ts = c.args.stage.now.program.pool.now in
    let P = program_at c.args.stage.now.program in
    let v = actor_at ts c.args.actor.now in
    let s = state_of c.args.state in
    let found = some_prepared P (stand_named P c.in_ok-pc.pc (routines_of P v)) (stand_at ts c.in-Some.stand) (sym (ap (option_map (stand_at ts)) c.in-Some.is) ∙ c.in_ok-stand.ensures.found) in
    let d = found.0 in
    let placed = if_some (IsPlaced c.args.stage.now.program) c.in_ok-stand.field-0 c.in-Some.stand c.in-Some.is c.in_ok-stand.ensures.placed in
    let label = c.in_ok-label-in-Some.ensures (label_name P d.routine d.label) (label_is P s v c.in_ok-pc.pc d c.in_ok-pc.ensures found.1.0) in
    let place =
    stand_place P c.requires.stage.openable d (routine_at ts c.in-Some.stand.routine) c.in-Some.stand.spot.label.now.word c.in-Some.stand.spot.label.now.place (ap (λ (x : Stand). x.routine) found.1.1) (ap (λ (x : Stand). x.label) found.1.1) placed.place
    ∙ ap (λ (n : Name). n.place) (sym c.name.view_is) in
    before_is P s v c.in_ok-pc.pc c.args.choices.now c.in_ok-pc.ensures d found.1.0 ∙ (λ i. stepped (sym label i) v.self (place i))
