-- What the loop keeps: the names so far.
use Rattle.std.proofs.Common.{ℕ, ◌≤◌, ◌-◌, length}
use Rattle.pcal_tree.specs.GrammarParts.{names_of}
use Rattle.syntax_reading.specs.ReadParts.{read_names as names_reader}
use Rattle.algorithm_reader.specs.PartsRead.{Enough}
use Rattle.algorithm_reader.proofs.Gathered.{SoFar}
use Rattle.algorithm_reader.proofs.names.read_names.Given as goal

abbrev pub invariant-loop-names : goal.invariant-loop-names
invariant-loop-names l =
    record {
      so_far : (n : ℕ) → Enough l.tokens l.at n → SoFar names_reader names_of l.tokens n l.at l.from l.names.items;
      inside : l.from ≤ length l.tokens.items.items;
      further : l.at ≤ l.from;
    }

abbrev pub decreases-loop-names : goal.decreases-loop-names
decreases-loop-names l = length l.tokens.items.items - l.from
