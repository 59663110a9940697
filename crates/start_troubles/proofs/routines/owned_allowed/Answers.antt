-- Proves that parameters are asked, and then variables.
use Rattle.std.proofs.Common.{Bool, Ok, ap, ◌∙◌}
use Rattle.value_forms.proofs.StopLaws.{tells_err}
use Rattle.step_moves.specs.StatesOf.{state_of}
use Rattle.step_meaning.proofs.ReadiedLaws.{params_many, variables_many}
use Rattle.start_troubles.proofs.LocalLaws.{params_stop, params_not, variables_rest}
use Rattle.start_troubles.proofs.routines.owned_allowed.Goals as goal

pub locals_allowed-requires-clause-many : goal.locals_allowed-requires-clause-many
locals_allowed-requires-clause-many c = params_many c.args.origin.now.program c.args.routine.now c.args.locals.now c.requires.readied

pub returns-in_err-params : goal.returns-in_err-params
returns-in_err-params c spread vs h =
    tells_err c.from_residual.result c.in_err-params.field-0.0 _ c.from_residual.ensures
    (params_stop c.args.origin.now.program c.args.routine.now c.args.locals.now c.requires.readied spread vs (state_of c.args.state.now) c.in_err-params.field-0.0 (c.in_err-params.ensures spread vs h))

pub returns-then-not-params : goal.returns-then-not-params
returns-then-not-params c spread vs h =
    params_not c.args.origin.now.program c.args.routine.now c.args.locals.now c.requires.readied spread vs (state_of c.args.state.now) (c.in_ok-params.ensures spread vs h ∙ ap (λ (b : Bool). Ok b) c.if-not-params.true)

pub locals_allowed-requires-2-clause-many : goal.locals_allowed-requires-2-clause-many
locals_allowed-requires-2-clause-many c = variables_many c.args.origin.now.program c.args.routine.now c.args.locals.now c.requires.readied

pub returns : goal.returns
returns c spread vs h =
    variables_rest c.args.origin.now.program c.args.routine.now c.args.locals.now c.requires.readied spread vs (state_of c.args.state.now) c.locals_allowed-2.result (c.in_ok-params.ensures spread vs h ∙ ap (λ (b : Bool). Ok b) c.if-not-params.false) (c.locals_allowed-2.ensures spread vs h)
