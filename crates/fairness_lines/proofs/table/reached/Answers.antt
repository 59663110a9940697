-- Proves that what is marked is what can be reached.
use Rattle.std.proofs.Common.{◌≡◌, ◌++◌, List, ℕ, Vec, Global, sym, ap, ◌∙◌, subst}
use Rattle.std.proofs.lemmas.Result.{IfOk-weaker}
use Rattle.pcal_tree.specs.Algorithm.{Statements, first_procedure}
use Rattle.pcal_tree.specs.InMemory.{statements_at}
use Rattle.fairness.specs.ReachedProcedures.{calls}
use Rattle.fairness_lines.specs.Numbers.{numbers_in}
use Rattle.fairness_lines.specs.Tables.{marked_word}
use Rattle.fairness_lines.specs.WorkLists.{IsLeastOf}
use Rattle.fairness_lines.proofs.Reaching.{lists}
use Rattle.fairness_lines.proofs.TableLaws.{least_names}
use Rattle.fairness_lines.proofs.ReachedLaws.{reached_is}
use Rattle.fairness_lines.proofs.table.reached.Goals as goal

pub returns : goal.returns
returns c =
    IfOk-weaker c.reach.result _ _ (λ marks h ts a u t e.
    let same : c.deref-2.result.now ≡ numbers_in c.args.table.now.names (calls u.body) =
    c.deref-2.ensures.value ∙ c.in_ok-statements.ensures ts
    ∙ ap (λ (ns : List ℕ). ns ++ numbers_in c.args.table.now.names (calls (statements_at ts c.args.body.now))) c.new-start.ensures.items ∙ ap (λ (b : Statements). numbers_in c.args.table.now.names (calls b)) (sym e) in
    reached_is a u (marked_word c.args.table.now.names marks.items)
    (least_names (first_procedure a) a.procedures c.args.table.now.names (lists c.args.table.now.rows.items) t u marks.items
    (subst (λ (ns : List ℕ). IsLeastOf (lists c.args.table.now.rows.items) ns marks.items) same
    (subst (λ (vs : List (Vec ℕ Global)). IsLeastOf (lists vs) c.deref-2.result.now marks.items) c.deref.ensures.value h))))
    c.reach.ensures
