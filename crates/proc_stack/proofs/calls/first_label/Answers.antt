-- Proves that this is the first label of the procedure in a program.
use Rattle.std.proofs.Common.{refl, sym, ap}
use Rattle.std.proofs.lemmas.Result.{IfOk-weaker}
use Rattle.pcal_tree.specs.Algorithm.{procedure_routine}
use Rattle.pcal_tree.specs.InMemory.{statements_at, procedure_at}
use Rattle.proc_stack.proofs.calls.first_label.Goals as goal

pub returns : goal.returns
returns c =
    IfOk-weaker c.first_label.result _ _
    (λ r h P ts named. h ts P (procedure_routine c.args.callee.now.number (procedure_at ts c.args.callee.now.procedure.now)) named refl (sym (ap (statements_at ts) c.deref.ensures.value)) refl)
    c.first_label.ensures
