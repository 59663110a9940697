-- Proves that the argument for a name is found.
use Rattle.std.proofs.Common.{slice_index_or, sym, ap, ◌∙◌, bytes_eq}
use Rattle.std.proofs.lemmas.List.{get_or_default}
use Rattle.tla_tree.specs.Tree.{Name}
use Rattle.read_rules.proofs.PutLaws.{argument_none, argument_passed}
use Rattle.read_rules.proofs.put.argument.Goals as goal

pub returns-then-i-args : goal.returns-then-i-args
returns-then-i-args c ts =
    argument_none ts c.args.params.now c.args.args.now c.args.name.now c.loop-i.i c.if-i-args.true ∙ c.loop-i.invariant ts

pub loop-i-preserved : goal.loop-i-preserved
loop-i-preserved c ts =
    let e = slice_index_or c.args.args.now c.loop-i.i 0 in
    let less = c.if-i-args.false in
    argument_passed ts c.args.params.now c.args.args.now c.args.name.now c.loop-i.i c.index-params-i.result e c.index-params-i.is (get_or_default c.args.args.now c.loop-i.i 0 e less) c.loop-i-test.true less
    (ap (λ (n : Name). bytes_eq n.word c.args.name.now) (sym c.param.view_is) ∙ sym c.same.ensures ∙ c.if-same.false)
    ∙ c.loop-i.invariant ts
