-- What is kept while the end of statements is looked for: what is left ends where all do.
use Rattle.std.proofs.Common.{◌≡◌, List, drop}
use Rattle.tla_tree.specs.Tree.{Tree}
use Rattle.pcal_tree.specs.InMemory.{statements_at}
use Rattle.source_map.specs.Lines.{last_token}
use Rattle.label_lines.proofs.line.last_token.Given as goal

abbrev pub invariant-loop-i : goal.invariant-loop-i
invariant-loop-i l = (ts : List Tree) → last_token l.last (statements_at ts (drop l.i l.stmts)) ≡ last_token l.fn.place (statements_at ts (drop l.fn.from l.stmts))
