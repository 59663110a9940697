-- Proves that the first offence of a procedure is found.
use Rattle.std.proofs.Common.{List, ap, ◌∙◌}
use Rattle.std.proofs.lemmas.Result.{IfOk-weaker}
use Rattle.pcal_tree.specs.declared.algorithm.Declaration.{Declaration}
use Rattle.pcal_tree.specs.declared.algorithm.Stmt.{Stmt}
use Rattle.pcal_tree.specs.InMemory.{declarations_at, statements_at, procedure_at}
use Rattle.pcal_tree.specs.Offences.{first}
use Rattle.pcal_tree.specs.OffencesSelf.{selves, used_by_starts}
use Rattle.pcal_tree.specs.Spots.{used_in_body}
use Rattle.algorithm_answer.specs.Joined.{joined}
use Rattle.read_rules.proofs.SelfLaws.{procedure_selves}
use Rattle.read_rules.proofs.selves.with_procedure.Goals as goal

pub returns : goal.returns
returns c =
    let ts = c.args.pool.now in
    IfOk-weaker c.with_body.result _ _ (λ r h.
    procedure_selves c.args.so_far c.in_ok-params.params c.in_ok-variables.variables r (procedure_at ts c.args.procedure.now)
    (c.in_ok-params.ensures ∙ ap (λ (ds : List Declaration). joined c.args.so_far (first (selves (used_by_starts (declarations_at ts ds))))) c.deref.ensures.value)
    (c.in_ok-variables.ensures ∙ ap (λ (ds : List Declaration). joined c.in_ok-params.params (first (selves (used_by_starts (declarations_at ts ds))))) c.deref-2.ensures.value)
    (h ∙ ap (λ (ss : List Stmt). joined c.in_ok-variables.variables (first (selves (used_in_body (statements_at ts ss))))) c.deref-3.ensures.value))
    c.with_body.ensures
