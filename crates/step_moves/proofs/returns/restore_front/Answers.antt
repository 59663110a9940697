-- Proves that `pc`, the variables and the stack are set one after another, and what stops it.
use Rattle.std.proofs.Common.{◌≡◌, List, [], cond, sym, ap, subst, ◌∙◌}
use Rattle.std.specs.Option.{option_copied}
use Rattle.tla_tree.specs.Tree.{Word}
use Rattle.tla_value.specs.Value.{Outcome}
use Rattle.tla_value.specs.Limits.{bounded}
use Rattle.pcal_tree.specs.Assign as pure
use Rattle.pcal_tree.specs.Program.{index}
use Rattle.pcal_tree.specs.Scope.{State}
use Rattle.pcal_tree.specs.Calls.{setting, part_settings, fields_read}
use Rattle.value_forms.specs.Gives.{Gives, Stops}
use Rattle.value_forms.proofs.StopLaws.{err_is}
use Rattle.step_moves.specs.StatesOf.{state_of}
use Rattle.step_moves.specs.Runners.{written_names}
use Rattle.step_moves.proofs.ReturnForms.{stops_values, stops_pc, stops_locals, restored_last}
use Rattle.step_moves.proofs.returns.restore_front.Goals as goal

pub returns-in_err-values-clause-restored : goal.returns-in_err-values-clause-restored
returns-in_err-values-clause-restored c v u h =
    err_is _ c.from_residual-in_err-values.result c.in_err-values.field-0.0 _ c.from_residual-in_err-values.ensures
    (stops_values c.args.runner.now v u c.requires.ready h c.args.at c.args.front.now _ c.args.frames.now (state_of c.args.state.now) c.in_ok-label.ensures c.in_err-values.field-0.0
    (subst (λ (xs : List Word). Stops c.in_err-values.field-0.0 (fields_read c.args.at xs c.args.front.now)) (c.deref.ensures.value ∙ c.in_ok-names.ensures) c.in_err-values.ensures))

pub returns-in_err-set_pc-clause-restored : goal.returns-in_err-set_pc-clause-restored
returns-in_err-set_pc-clause-restored c v u h =
    let read = ap (λ (xs : List Word). fields_read c.args.at xs c.args.front.now) (sym (c.deref.ensures.value ∙ c.in_ok-names.ensures)) ∙ c.in_ok-values.ensures in
    err_is _ c.from_residual-in_err-set_pc.result c.in_err-set_pc.field-0.0 _ c.from_residual-in_err-set_pc.ensures
    (stops_pc c.args.runner.now v u c.requires.ready h c.args.at c.args.front.now _ c.args.frames.now (state_of c.args.state.now) c.in_ok-label.ensures _ read c.in_err-set_pc.field-0.0 (c.in_err-set_pc.ensures.set v u h))

pub returns-in_err-set_locals-clause-restored : goal.returns-in_err-set_locals-clause-restored
returns-in_err-set_locals-clause-restored c v u h =
    let r = c.args.runner.now in
    let names = c.deref.ensures.value ∙ c.in_ok-names.ensures in
    let again = c.deref-2.ensures.value ∙ c.in_ok-names.ensures in
    let read = ap (λ (xs : List Word). fields_read c.args.at xs c.args.front.now) (sym names) ∙ c.in_ok-values.ensures in
    let t = state_of c.set_pc.new.state in
    let path = cond r.routine.spread (index (option_copied r.identifier)) [] in
    let same : pure.set_all bounded (part_settings c.args.at path c.deref-2.result.now c.deref-3.result.now) t ≡ pure.set_all bounded (part_settings c.args.at path (written_names r.program r.routine) c.in_ok-values.values.items) t = λ i. pure.set_all bounded (part_settings c.args.at path (again i) (c.deref-3.ensures.value i)) t in
    err_is _ c.from_residual-in_err-set_locals.result c.in_err-set_locals.field-0.0 _ c.from_residual-in_err-set_locals.ensures
    (stops_locals r v u c.requires.ready h c.args.at c.args.front.now _ c.args.frames.now (state_of c.args.state.now) c.in_ok-label.ensures _ read (state_of c.set_pc.new.state) (c.in_ok-set_pc.ensures.set v u h) c.in_err-set_locals.field-0.0
    (subst (λ (o : Outcome State). Stops c.in_err-set_locals.field-0.0 o) same c.in_err-set_locals.ensures.set))

pub returns-clause-restored : goal.returns-clause-restored
returns-clause-restored c v u h =
    let r = c.args.runner.now in
    let names = c.deref.ensures.value ∙ c.in_ok-names.ensures in
    let again = c.deref-2.ensures.value ∙ c.in_ok-names.ensures in
    let read = ap (λ (xs : List Word). fields_read c.args.at xs c.args.front.now) (sym names) ∙ c.in_ok-values.ensures in
    let t = state_of c.set_pc.new.state in
    let path = cond r.routine.spread (index (option_copied r.identifier)) [] in
    let same : pure.set_all bounded (part_settings c.args.at path c.deref-2.result.now c.deref-3.result.now) t ≡ pure.set_all bounded (part_settings c.args.at path (written_names r.program r.routine) c.in_ok-values.values.items) t = λ i. pure.set_all bounded (part_settings c.args.at path (again i) (c.deref-3.ensures.value i)) t in
    subst (λ (o : Outcome State). Gives (λ x. state_of c.set_stack.new.state) c.set_stack.result o)
    ((λ i. pure.set_one bounded (setting c.args.at r.stack.now (index (option_copied r.identifier)) (c.in_ok-rest.ensures i)) (state_of c.set_locals.new.state))
    ∙ sym (restored_last r v u c.requires.ready h c.args.at c.args.front.now _ c.args.frames.now (state_of c.args.state.now) c.in_ok-label.ensures _ read (state_of c.set_pc.new.state) (c.in_ok-set_pc.ensures.set v u h) (state_of c.set_locals.new.state)
    (sym same ∙ c.in_ok-set_locals.ensures.set)))
    c.set_stack.ensures.set
