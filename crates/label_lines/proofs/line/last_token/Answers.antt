-- Proves that statements end where the last of them before a label does.
use Rattle.std.proofs.Common.{Option, sym, ap, ◌∙◌}
use Rattle.tla_token.specs.declared.place.Place.{Place}
use Rattle.pcal_tree.specs.InMemory.{statements_at}
use Rattle.std.proofs.Common.{◌+◌, drop}
use Rattle.label_lines.specs.Ends.{ended}
use Rattle.label_lines.proofs.LineLaws.{ends_here, all_end}
use Rattle.label_lines.proofs.line.last_token.Goals as goal

pub returns-in-None : goal.returns-in-None
returns-in-None c = λ ts.
    ap (λ (e : Option Place). ended e c.loop-i.last (statements_at ts (drop (c.loop-i.i + 1) c.args.stmts.now))) (sym c.in-None.is)
    ∙ ends_here ts c.args.stmts.now c.loop-i.i c.index-stmts-i.result c.index-stmts-i.is c.loop-i-test.true c.end_of.result c.loop-i.last (c.end_of.ensures ts)
    ∙ c.loop-i.invariant ts

pub loop-i-preserved : goal.loop-i-preserved
loop-i-preserved c = λ ts.
    ap (λ (e : Option Place). ended e c.loop-i.last (statements_at ts (drop (c.loop-i.i + 1) c.args.stmts.now))) (sym c.in-Some.is)
    ∙ ends_here ts c.args.stmts.now c.loop-i.i c.index-stmts-i.result c.index-stmts-i.is c.loop-i-test.true c.end_of.result c.loop-i.last (c.end_of.ensures ts)
    ∙ c.loop-i.invariant ts

pub returns : goal.returns
returns c = λ ts. all_end ts c.args.stmts.now c.loop-i.i c.loop-i.last c.loop-i-test.false ∙ c.loop-i.invariant ts
