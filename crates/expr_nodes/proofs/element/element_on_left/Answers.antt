-- Proves what is asked of `element_on_left`.
use Rattle.std.proofs.Common.{Option, sym, subst, ◌∙◌}
use Rattle.expr_nodes.specs.declared.make.Read.{Read}
use Rattle.expr_nodes.specs.ReadIn.{MayBeIn}
use Rattle.expr_nodes.proofs.ElementLemmas.{left_yes}
use Rattle.expr_nodes.proofs.element.element_on_left.Goals as goal

pub returns-in_ok-put-in-Some-clause-read : goal.returns-in_ok-put-in-Some-clause-read
returns-in_ok-put-in-Some-clause-read c = λ w e j l r.
    left_yes c.in-Some.e c.in_ok-put-in-Some.put e c.args.place c.args.op j (subst (λ (x : Option Read). MayBeIn w c.args.pool.now x e) c.in-Some.is l)
    (λ a s. sym (c.can_be_left.ensures w a s) ∙ c.if-can_be_left.true) (λ a h. c.in_ok-put-in-Some.ensures.read w a j c.args.place h r)
