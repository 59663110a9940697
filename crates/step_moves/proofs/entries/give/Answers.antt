-- Proves that a record is put on the stack and parameters get their arguments, and what stops that.
use Rattle.std.proofs.Common.{◌≡◌, true, List, [], cond, Ok, sym, ap, subst, ◌∙◌}
use Rattle.std.specs.Option.{option_copied}
use Rattle.tla_token.specs.Signs.{is_among}
use Rattle.tla_tree.specs.Tree.{Word, Each}
use Rattle.tla_value.specs.Limits.{bounded}
use Rattle.tla_value.specs.Value.{Outcome}
use Rattle.pcal_tree.specs.Assign as pure
use Rattle.pcal_tree.specs.Calls.{argument_settings}
use Rattle.pcal_tree.specs.Program.{index}
use Rattle.pcal_tree.specs.Scope.{State}
use Rattle.pcal_tree.specs.Variables.{vars}
use Rattle.value_forms.specs.Gives.{Gives}
use Rattle.value_forms.proofs.StopLaws.{err_is}
use Rattle.written_names.specs.Units.{naming_of}
use Rattle.step_moves.specs.Programs.{program_at}
use Rattle.step_moves.specs.StatesOf.{state_of}
use Rattle.step_moves.specs.Runners.{names_of}
use Rattle.step_moves.proofs.SettingLaws.{there_among}
use Rattle.step_moves.proofs.EntryForms.{params_known, given_no_stack, given_over, given_unset, given_last}
use Rattle.step_moves.proofs.entries.give.Goals as goal

pub returns-in_err-frames-clause-given : goal.returns-in_err-frames-clause-given
returns-in_err-frames-clause-given c v u h =
    let w = c.args.visit.now in
    err_is _ c.from_residual.result c.in_err-frames.field-0.0 _ c.from_residual.ensures
    (given_no_stack c.args.runner.now v w.callee c.requires.ready h.identifier w.place c.args.front w.places.now w.values.now (state_of c.args.state.now) c.in_err-frames.field-0.0 (c.in_err-frames.ensures.frames v u h))

pub returns-in_err-stack-clause-given : goal.returns-in_err-stack-clause-given
returns-in_err-stack-clause-given c v u h =
    let w = c.args.visit.now in
    err_is _ c.from_residual-in_err-stack.result c.in_err-stack.field-0.0 _ c.from_residual-in_err-stack.ensures
    (given_over c.args.runner.now v w.callee c.requires.ready h.identifier w.place c.args.front w.places.now w.values.now (state_of c.args.state.now) c.deref.result.now (c.in_ok-frames.ensures.frames v u h ∙ ap Ok (sym c.deref.ensures.value))
    c.in_err-stack.field-0.0 c.in_err-stack.ensures)

pub set_stack-requires-clause-known : goal.set_stack-requires-clause-known
set_stack-requires-clause-known c =
    there_among (vars (program_at c.args.runner.now.program)) c.args.state.now c.args.runner.now.stack.now c.requires.scene.names c.in_ok-frames.ensures.there

pub returns-in_err-set_stack-clause-given : goal.returns-in_err-set_stack-clause-given
returns-in_err-set_stack-clause-given c v u h =
    let w = c.args.visit.now in
    err_is _ c.from_residual-in_err-set_stack.result c.in_err-set_stack.field-0.0 _ c.from_residual-in_err-set_stack.ensures
    (given_unset c.args.runner.now v w.callee c.requires.ready h.identifier w.place c.args.front w.places.now w.values.now (state_of c.args.state.now) c.deref.result.now (c.in_ok-frames.ensures.frames v u h ∙ ap Ok (sym c.deref.ensures.value))
    c.in_ok-stack.stack c.in_ok-stack.ensures c.in_err-set_stack.field-0.0 c.in_err-set_stack.ensures.set)

pub give_arguments-requires-clause-known : goal.give_arguments-requires-clause-known
give_arguments-requires-clause-known c =
    let r = c.args.runner.now in
    let w = c.args.visit.now in
    let N : Word → Type 0 = λ x. is_among (vars (program_at r.program)) x ≡ true in
    subst (Each N) (sym (c.deref-2.ensures.value ∙ c.in_ok-names.ensures)) (params_known N ((naming_of r.program.naming.now).local w.callee.number) (names_of w.callee.params.now) (names_of w.callee.variables.now) c.requires.callee.variables)

pub returns-clause-given : goal.returns-clause-given
returns-clause-given c v u h =
    let r = c.args.runner.now in
    let w = c.args.visit.now in
    let path = cond w.callee.spread (index (option_copied r.identifier)) [] in
    let t = state_of c.set_stack.new.state in
    subst (λ (o : Outcome State). Gives (λ x. state_of c.give_arguments.new.state) c.give_arguments.result o)
    (ap (λ (xs : List Word). pure.set_all bounded (argument_settings path xs w.places.now w.values.now) t) (c.deref-2.ensures.value ∙ c.in_ok-names.ensures)
    ∙ sym (given_last r v w.callee c.requires.ready h.identifier w.place c.args.front w.places.now w.values.now (state_of c.args.state.now) c.deref.result.now (c.in_ok-frames.ensures.frames v u h ∙ ap Ok (sym c.deref.ensures.value))
    c.in_ok-stack.stack c.in_ok-stack.ensures t c.in_ok-set_stack.ensures.set))
    c.give_arguments.ensures.set
