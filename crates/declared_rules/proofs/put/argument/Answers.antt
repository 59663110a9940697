-- Proves that the argument is found that is put in for a name.
use Rattle.std.proofs.Common.{List, Some, IsTrue, ◌↔◌, ◌≡◌, sym, ap, ◌∙◌, subst, arith}
use Rattle.tla_tree.specs.Tree.{Name}
use Rattle.declared_rules.specs.declared.pieces.Piece.{Piece}
use Rattle.declared_rules.specs.Gathering.{list_of}
use Rattle.declared_rules.proofs.PutLaws.{no_arguments, argument_here, argument_further}
use Rattle.declared_rules.proofs.put.argument.Goals as goal

pub returns-then-i-args-clause-none : goal.returns-then-i-args-clause-none
returns-then-i-args-clause-none c = sym c.loop-i.invariant ∙ no_arguments c.args.params.now c.args.args.now c.loop-i.i c.args.name.now (omega (arith, c.if-i-args.true))

pub returns-then-is-clause-some : goal.returns-then-is-clause-some
returns-then-is-clause-some c =
    sym c.loop-i.invariant
    ∙ argument_here c.args.params.now c.args.args.now c.loop-i.i c.args.name.now c.index-params-i.result c.index-args-i.result c.is.result c.index-params-i.is c.loop-i-test.true c.index-args-i.is (omega (arith, c.if-i-args.false))
    (subst (λ (n : Name). IsTrue c.is.result ↔ (n.word ≡ c.args.name.now)) c.param.view_is c.is.ensures) c.if-is.true
    ∙ ap (λ (l : List Piece). Some (list_of l)) (sym c.deref.ensures.value)

pub loop-i-preserved : goal.loop-i-preserved
loop-i-preserved c =
    sym (argument_further c.args.params.now c.args.args.now c.loop-i.i c.args.name.now c.index-params-i.result c.is.result c.index-params-i.is c.loop-i-test.true
    (subst (λ (n : Name). IsTrue c.is.result ↔ (n.word ≡ c.args.name.now)) c.param.view_is c.is.ensures) c.if-is.false)
    ∙ c.loop-i.invariant
