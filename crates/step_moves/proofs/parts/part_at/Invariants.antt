-- The loop's invariant.
use Rattle.std.proofs.Common.{◌≡◌, drop}
use Rattle.pcal_tree.specs.Program.{read_at}
use Rattle.step_moves.proofs.parts.part_at.Given as goal

-- the rest of the path leads from the part where the whole path leads
abbrev pub invariant-loop-key : goal.invariant-loop-key
invariant-loop-key l = read_at l.at (drop l.key-index l.path) l.part ≡ read_at l.at l.path l.whole
