-- Proves that what comes directly behind a statement is looked at.
use Rattle.std.proofs.Common.{◌+◌, sym, ap, ◌∙◌, drop, arith}
use Rattle.pcal_tree.specs.Algorithm.{Statements}
use Rattle.pcal_tree.specs.InMemory.{statements_at}
use Rattle.pcal_tree.specs.Run.{is_return, partner_of}
use Rattle.label_steps.proofs.WalksLaws.{next_one}
use Rattle.label_steps.proofs.walk.returns_behind.Goals as goal

pub returns : goal.returns
returns c = λ ts.
    c.is_return.ensures ts (statements_at ts (drop (c.args.i + 1 + 1) c.args.stmts.now))
    ∙ ap (λ (b : Statements). is_return (partner_of b)) (sym (next_one ts c.args.stmts.now (c.args.i + 1) c.index-stmts-i.result c.index-stmts-i.is (omega (arith, c.if-i-stmts-2.false))))
