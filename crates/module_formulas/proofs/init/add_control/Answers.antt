-- Proves that the conjuncts of the stack and of pc are added.
use Rattle.std.proofs.Common.{◌∷◌, ◌++◌, [], List, map, ap, ◌∙◌}
use Rattle.tla_tree.specs.Pool.{at}
use Rattle.pcal_tree.specs.declared.algorithm.Procedure.{Procedure}
use Rattle.pcal_tree.specs.Algorithm as pure
use Rattle.pcal_tree.specs.Algorithm.{numbered, procedure_routine, procedure_routines, first_procedure}
use Rattle.pcal_tree.specs.InMemory.{procedure_at, main_at}
use Rattle.action_builder.specs.InitialFormulas.{stack_start, pc_start}
use Rattle.draft.proofs.Grown.{draft_kept}
use Rattle.module_formulas.proofs.Grown.{below_one}
use Rattle.module_formulas.proofs.Behind.{adds_one, adds_then}
use Rattle.module_formulas.proofs.init.add_control.Goals as goal

pub returns-clause-made : goal.returns-clause-made
returns-clause-made c = λ P d runs number.
    let ts = c.args.pool.now in
    let us = c.add_stack.new.pool in
    let a = c.args.draft.now.algorithm.now in
    let said = c.in_ok-add_stack.ensures in
    let made = c.in_ok-made.ensures in
    adds_then ts us c.pc_start.new.pool c.args.out.now.items c.add_stack.new.out.items c.push.new.self.items
    (stack_start P.algorithm.main (procedure_routines P.algorithm)) (pc_start P ∷ [])
    (said.made ts (first_procedure P.algorithm)
    ∙ ap (λ (ps : List Procedure). map (at ts) c.args.out.now.items ++ stack_start (main_at ts a.main) (numbered procedure_routine (first_procedure P.algorithm) (map (procedure_at ts) ps))) c.deref.ensures.value
    ∙ ap (λ (b : pure.Algorithm). map (at ts) c.args.out.now.items ++ stack_start b.main (numbered procedure_routine (first_procedure P.algorithm) b.procedures)) d.algorithm)
    (adds_one us c.pc_start.new.pool c.add_stack.new.out.items c.push.new.self.items c.in_ok-made.made _ made.kept said.below (made.tree P (draft_kept ts us said.kept c.args.draft.now P d) runs number) c.in_ok-push.ensures.items)

pub returns-clause-below : goal.returns-clause-below
returns-clause-below c =
    let made = c.in_ok-made.ensures in
    below_one c.add_stack.new.pool c.pc_start.new.pool c.add_stack.new.out.items c.push.new.self.items c.in_ok-made.made made.kept c.in_ok-add_stack.ensures.below made.within c.in_ok-push.ensures.items
