-- Proves that a row has what is called behind what it had.
use Rattle.std.proofs.Common.{ℕ, List, ◌++◌, set, sym, ap, ◌∙◌}
use Rattle.std.proofs.lemmas.Result.{on_ok_weaker}
use Rattle.pcal_tree.specs.InMemory.{statements_at}
use Rattle.fairness.specs.ReachedProcedures.{calls}
use Rattle.fairness_lines.specs.Numbers.{numbers_in}
use Rattle.fairness_lines.proofs.Reaching.{lists, list_at, lists_set}
use Rattle.fairness_lines.proofs.table.add_to_row.Goals as goal

pub returns : goal.returns
returns c =
    on_ok_weaker c.statements.result (λ h ts.
    lists_set c.args.rows.now.items c.args.number c.statements.new.into
    ∙ ap (λ (xs : List ℕ). set (lists c.args.rows.now.items) c.args.number xs)
    (h ts ∙ ap (λ (xs : List ℕ). xs ++ numbers_in c.args.names.now (calls (statements_at ts c.args.body.now))) (sym (list_at c.args.rows.now.items c.args.number c.index_mut.result.now c.index_mut.ensures.value c.requires))))
    c.statements.ensures
