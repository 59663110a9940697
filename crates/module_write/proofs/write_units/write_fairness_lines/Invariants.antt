-- What the loop of `write_fairness_lines` keeps.
use Rattle.std.proofs.Common.{◌≡◌, ◌++◌, take, map}
use Rattle.module_write.specs.InMemory.{fairness_at}
use Rattle.module_tree.specs.Layout.{fairness_text, conjuncts_text}
use Rattle.module_write.proofs.write_units.write_fairness_lines.Given as goal

abbrev pub invariant-loop-fairness : goal.invariant-loop-fairness
invariant-loop-fairness l = l.into ≡ l.fn.into ++ conjuncts_text (map fairness_text (map (fairness_at l.pool) (take l.fairness-index l.lines)))
