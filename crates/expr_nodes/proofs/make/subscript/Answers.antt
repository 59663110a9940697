-- Proves what is asked of `subscript`.
use Rattle.std.proofs.Common.{ℕ, List, length, sym, subst, ◌∙◌, arith}
use Rattle.std.proofs.lemmas.Result.{IfOk-weaker}
use Rattle.tla_tree.specs.Pool.{AllBelow}
use Rattle.expr_nodes.proofs.MakeLemmas.{only_one, one_subscript, more_subscripts}
use Rattle.expr_nodes.proofs.make.subscript.Goals as goal

pub returns-then-len-eq1-clause-tree : goal.returns-then-len-eq1-clause-tree
returns-then-len-eq1-clause-tree c = one_subscript _ _ c.index.result.now c.args.first (only_one c.args.ids.items c.index.result.now (omega (arith, c.len.ensures, c.if-len-eq1.true, c.args.ids.ok)) c.index.ensures)

pub returns-then-len-eq1-clause-within : goal.returns-then-len-eq1-clause-within
returns-then-len-eq1-clause-within c = (subst (λ (is : List ℕ). AllBelow (length c.args.pool.now) is) (only_one c.args.ids.items c.index.result.now (omega (arith, c.len.ensures, c.if-len-eq1.true, c.args.ids.ok)) c.index.ensures) c.requires.below).0

pub returns-clause-tree : goal.returns-clause-tree
returns-clause-tree c = IfOk-weaker c.put.result _ _ (λ i t. t ∙ sym (more_subscripts _ _ c.args.first (λ e. c.if-len-eq1.false (omega (arith, c.len.ensures, e, c.args.ids.ok))))) c.put.ensures.tree
