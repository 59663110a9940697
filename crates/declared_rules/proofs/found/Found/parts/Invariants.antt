-- What is kept: what is left of the parts still gives the whole.
use Rattle.std.proofs.Common.{◌≡◌, length, drop}
use Rattle.tla_tree.specs.Pool.{trees_at}
use Rattle.declared_rules.specs.declared.found.Found.{Found}
use Rattle.declared_rules.specs.Finding.{Joins, trees_offences}
use Rattle.declared_rules.proofs.found.Found.parts.Given as goal

abbrev pub invariant-loop-i : goal.invariant-loop-i
invariant-loop-i l = record {
  many : length l.self.marks.items ≡ length l.fn.self.marks.items;
  rest : (k : Found) → Joins l.pool l.self k (trees_offences l.self.modules l.member (trees_at l.pool (drop l.i l.parts))) → Joins l.pool l.fn.self k (trees_offences l.fn.self.modules l.member (trees_at l.pool l.parts));
}
