-- Proves which state comes after a step.
use Rattle.std.proofs.Common.{drop, refl, sym, ap, subst, ◌∙◌, arith}
use Rattle.std.proofs.lemmas.List.{length-drop}
use Rattle.tla_tree.specs.Tree.{Name}
use Rattle.pcal_tree.specs.Step.{Stand}
use Rattle.pcal_tree.specs.StepAnswers.{too_many_choices, label_place}
use Rattle.step_moves.specs.Programs.{program_at}
use Rattle.step_moves.specs.declared.program.Program.{Program}
use Rattle.step_spots.specs.InMemory.{routine_at}
use Rattle.step_moves.specs.StatesOf.{state_of}
use Rattle.step_moves.specs.ScopeIn.{IsScene}
use Rattle.step_moves.specs.InMemory.{actor_at}
use Rattle.step_meaning.specs.Replies.{halt_of}
use Rattle.step_meaning.specs.Walks.{PausesWalk}
use Rattle.step_meaning.proofs.ReplyLaws.{pause_replies, err_replies, left_over, all_used}
use Rattle.step_meaning.proofs.StandLaws.{stand_place}
use Rattle.step_meaning.proofs.WalkLaws.{stand_walks_by}
use Rattle.step_meaning.proofs.taking.state_after.Goals as goal

pub runner-runner-requires-clause-routine : goal.runner-runner-requires-clause-routine
runner-runner-requires-clause-routine c = (
  c.requires.stand.0.routine,
  record { one_of = c.requires.stand.1.one_of; prepared = ap (λ (x : Stand). x.routine) c.requires.stand.1.prepared },
)

pub walk_from-requires-clause-stands : goal.walk_from-requires-clause-stands
walk_from-requires-clause-stands c = record {
  ready = c.runner-runner.ensures.ready;
  scene = subst (λ (p : Program). IsScene p c.args.state) (sym c.runner-runner.ensures.program) c.requires.scene;
  paired = c.in_ok-bound.ensures.paired;
}

pub returns-in_err-walk_from-clause-replied : goal.returns-in_err-walk_from-clause-replied
returns-in_err-walk_from-clause-replied c d h =
    let v = actor_at c.args.stage.now.program.pool.now c.args.actor.now in
    let runs = c.runner-runner.ensures.runs d.routine (record { one_of = h.one_of; prepared = ap (λ (x : Stand). x.routine) h.prepared }) in
    let same = stand_walks_by c.runner-runner.result v c.args.stand d (record { state = c.args.state; bound = c.in_ok-bound.bound; used = 0 }) c.args.choices.now c.args.stage.now.program c.runner-runner.ensures.program h.prepared c.in_ok-bound.ensures.scope refl in
    err_replies (λ s. state_of s) c.from_residual-in_err-walk_from.result (halt_of c.in_err-walk_from.field-0.0) _ c.from_residual-in_err-walk_from.ensures
    (pause_replies (λ s. s) (label_place d.routine d.label) c.in_err-walk_from.field-0.0 _ (subst (PausesWalk c.in_err-walk_from.field-0.0) same (c.in_err-walk_from.ensures.walks v d.routine runs)))

pub returns-then-going-choices-clause-replied : goal.returns-then-going-choices-clause-replied
returns-then-going-choices-clause-replied c d h =
    let ts = c.args.stage.now.program.pool.now in
    let v = actor_at ts c.args.actor.now in
    let runs = c.runner-runner.ensures.runs d.routine (record { one_of = h.one_of; prepared = ap (λ (x : Stand). x.routine) h.prepared }) in
    let same = stand_walks_by c.runner-runner.result v c.args.stand d (record { state = c.args.state; bound = c.in_ok-bound.bound; used = 0 }) c.args.choices.now c.args.stage.now.program c.runner-runner.ensures.program h.prepared c.in_ok-bound.ensures.scope refl in
    let many = length-drop c.walk_from.new.going.used c.args.choices.now in
    left_over (λ s. s) (label_place d.routine d.label) (state_of c.walk_from.new.going.state) (drop c.walk_from.new.going.used c.args.choices.now) _ (sym same ∙ c.in_ok-walk_from.ensures.walks v d.routine runs) (omega (arith, many, c.if-going-choices.true))
    ∙ ap too_many_choices
    (stand_place (program_at c.args.stage.now.program) c.requires.stage.openable d (routine_at ts c.args.stand.routine) c.args.stand.spot.label.now.word c.args.stand.spot.label.now.place (ap (λ (x : Stand). x.routine) h.prepared) (ap (λ (x : Stand). x.label) h.prepared) c.requires.placed.place
    ∙ ap (λ (n : Name). n.place) (sym c.label.view_is))

pub returns-clause-replied : goal.returns-clause-replied
returns-clause-replied c d h =
    let v = actor_at c.args.stage.now.program.pool.now c.args.actor.now in
    let runs = c.runner-runner.ensures.runs d.routine (record { one_of = h.one_of; prepared = ap (λ (x : Stand). x.routine) h.prepared }) in
    let same = stand_walks_by c.runner-runner.result v c.args.stand d (record { state = c.args.state; bound = c.in_ok-bound.bound; used = 0 }) c.args.choices.now c.args.stage.now.program c.runner-runner.ensures.program h.prepared c.in_ok-bound.ensures.scope refl in
    let many = length-drop c.walk_from.new.going.used c.args.choices.now in
    all_used (λ s. s) (label_place d.routine d.label) (state_of c.walk_from.new.going.state) (drop c.walk_from.new.going.used c.args.choices.now) _ (sym same ∙ c.in_ok-walk_from.ensures.walks v d.routine runs) (omega (arith, many, c.if-going-choices.false))
