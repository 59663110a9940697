-- Proves what is asked of `element_of_operand`.
use Rattle.std.proofs.Common.{Option, Some, sym, subst, ◌∙◌}
use Rattle.tla_tree.specs.Spelling.{Phrase}
use Rattle.expr_nodes.specs.ReadIn.{MayBeIn}
use Rattle.expr_nodes.proofs.ElementLemmas.{element_yes}
use Rattle.expr_nodes.proofs.element.element_of_operand.Goals as goal

pub returns-in_ok-whole-clause-read : goal.returns-in_ok-whole-clause-read
returns-in_ok-whole-clause-read c = λ w i p q x z n a.
    subst (λ (e : Option Phrase). MayBeIn w c.infix.new.pool (Some c.in_ok-whole.whole) e) (sym (element_yes i p q x (sym (c.can_be_right.ensures w i a.shape) ∙ c.if-can_be_right.true))) (c.in_ok-whole.ensures.read w _ i q n a)
