-- Proves what a call of a procedure uses.
use Rattle.std.proofs.Common.{List, ◌++◌, sym, ap, ◌∙◌, append-nil}
use Rattle.std.proofs.lemmas.Result.{on_ok_weaker}
use Rattle.tla_tree.specs.Tree.{Word, words}
use Rattle.read_rules.specs.StepsIn.{others_at}
use Rattle.read_rules.specs.UsesIn.{uses_of}
use Rattle.read_rules.proofs.StepLaws.{jump_more, jump_here, jump_nowhere}
use Rattle.read_rules.proofs.steps.add_jump.Goals as goal

pub returns-then-same : goal.returns-then-same
returns-then-same c =
    let found = jump_here c.args.jumps.now c.args.name.now c.loop-i.i c.index-jumps-i.result c.index-jumps-i.is c.loop-i-test.true (sym c.same.ensures ∙ c.if-same.true) c.loop-i.invariant.1 in
    on_ok_weaker c.add_others.result
    (λ done.
    done ∙ (λ k. uses_of (c.loop-i.invariant.0 k) ++ others_at c.args.place ((ap words c.deref.ensures.value ∙ found) k))) c.add_others.ensures

pub loop-i-preserved : goal.loop-i-preserved
loop-i-preserved c = (
  c.loop-i.invariant.0,
  jump_more c.args.jumps.now c.args.name.now c.loop-i.i c.index-jumps-i.result c.index-jumps-i.is c.loop-i-test.true (sym c.same.ensures ∙ c.if-same.false) c.loop-i.invariant.1,
)

pub returns : goal.returns
returns c =
    let none = jump_nowhere c.args.jumps.now c.args.name.now c.loop-i.i c.loop-i-test.false c.loop-i.invariant.1 in
    ap uses_of c.loop-i.invariant.0 ∙ sym (append-nil (uses_of c.args.list.now.items)) ∙ ap (λ (ws : List Word). uses_of c.args.list.now.items ++ others_at c.args.place ws) none
