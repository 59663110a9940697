-- Proves that what is kept of a macro is found.
use Rattle.std.proofs.Common.{List, ◌∙◌, subst}
use Rattle.std.proofs.lemmas.Result.{on_ok_weaker}
use Rattle.pcal_tree.specs.declared.algorithm.Stmt.{Stmt}
use Rattle.pcal_tree.specs.InMemory.{statements_at}
use Rattle.pcal_tree.specs.OffencesRebind.{any_name, body_rebinds}
use Rattle.declared_rules.specs.Telling.{Adds}
use Rattle.declared_rules.proofs.bind_walk.Walk.gone_through.Goals as goal

pub returns-clause-params : goal.returns-clause-params
returns-clause-params c = on_ok_weaker c.text.result (λ done e. c.in_ok-add_copies.ensures e ∙ c.deref.ensures.value) c.text.ensures

pub returns-clause-found : goal.returns-clause-found
returns-clause-found c =
    on_ok_weaker c.text.result
    (λ done C ps h.
    subst (λ (ys : List Stmt). Adds c.args.far.now any_name c.args.kept.now.found c.body.new.self (λ ms r. body_rebinds ms ps (C ms) (statements_at c.args.pool.now ys) r)) c.deref-2.ensures.value (c.in_ok-body.ensures C ps h)) c.text.ensures
