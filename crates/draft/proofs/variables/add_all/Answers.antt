-- Proves that all names but those of globals are added.
use Rattle.std.proofs.Common.{true, List, map, ◌∷◌, ◌++◌, ap, ◌∙◌, arith}
use Rattle.std.proofs.lemmas.Result.{on_ok_weaker}
use Rattle.pcal_tree.specs.declared.algorithm.Procedure.{Procedure}
use Rattle.pcal_tree.specs.Algorithm.{numbered, procedure_routine}
use Rattle.pcal_tree.specs.InMemory.{procedure_at}
use Rattle.pcal_tree.specs.Variables.{pc, stack_for}
use Rattle.written_names.specs.Units.{naming_of}
use Rattle.draft.specs.RoutineNames.{all_names_where}
use Rattle.draft.proofs.NameLaws.{all_names}
use Rattle.draft.proofs.variables.add_all.Goals as goal

pub returns : goal.returns
returns c =
    let a = c.args.algorithm.now in
    let f = naming_of c.args.naming.now in
    on_ok_weaker c.add_main.result (λ h ts P e same.
    all_names ts a f c.args.every P e same c.len-first.result c.in_ok-number.number c.args.into.now c.add_control.new.into c.add_procedures.new.into c.add_main.new.into
    (omega (arith, c.len-first.ensures, a.macros.ok)) (omega (arith, c.in_ok-number.ensures, c.len.ensures, a.procedures.ok))
    (λ k. c.in_ok-add_control.ensures ts k ∙ ap (λ (ps : List Procedure). c.args.into.now ++ (pc ∷ stack_for (numbered procedure_routine k (map (procedure_at ts) ps)))) c.deref.ensures.value)
    (c.in_ok-add_procedures.ensures ts ∙ ap (λ (ps : List Procedure). c.add_control.new.into ++ all_names_where f true (numbered procedure_routine c.len-first.result (map (procedure_at ts) ps))) c.deref-2.ensures.value)
    (h ts))
    c.add_main.ensures
