-- Proves what is asked of `element_of_infix`.
use Rattle.std.proofs.Common.{Option, Some, sym, subst, ◌∙◌}
use Rattle.tla_tree.specs.Spelling.{Phrase, infix_of}
use Rattle.std.proofs.lemmas.Result.{IfOk-weaker}
use Rattle.tla_tree.specs.Reader.{element}
use Rattle.expr_nodes.specs.ReadIn.{MayBeIn}
use Rattle.expr_nodes.proofs.ElementLemmas.{element_yes, element_left}
use Rattle.expr_nodes.proofs.element.element_of_infix.Goals as goal

pub returns-in_ok-put-clause-read : goal.returns-in_ok-put-clause-read
returns-in_ok-put-clause-read c = λ linked i j p q x n l r w.
    let s = infix_of i c.args.place c.args.op j in
    subst (λ (e : Option Phrase). MayBeIn linked c.infix.new.pool (Some c.in_ok-put.put) e) (sym (element_yes s p q x (sym (c.can_be_right.ensures linked s w.shape) ∙ c.if-can_be_right.true))) (c.in_ok-put.ensures.read linked _ s q n w)

pub returns-else-can_be_right-clause-read : goal.returns-else-can_be_right-clause-read
returns-else-can_be_right-clause-read c = IfOk-weaker c.element_on_left.result _ _ (λ o f linked i j p q x n l r w.
    subst (λ (e : Option Phrase). MayBeIn linked c.element_on_left.new.pool o e) (sym (element_left i c.args.place c.args.op j p q x (sym (c.can_be_right.ensures linked (infix_of i c.args.place c.args.op j) w.shape) ∙ c.if-can_be_right.false))) (f linked (element p x q i) j l r))
    c.element_on_left.ensures.read
