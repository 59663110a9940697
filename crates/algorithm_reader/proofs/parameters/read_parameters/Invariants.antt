-- What the loop keeps: the parameters so far, and the pool that grows.
use Rattle.std.proofs.Common.{ℕ, ◌≤◌, ◌-◌, length}
use Rattle.tla_tree.specs.Pool.{Keeps}
use Rattle.pcal_tree.specs.InMemory.{declaration_at, past_declaration}
use Rattle.pcal_tree.specs.GrammarParts.{parameters_of}
use Rattle.syntax_reading.specs.ReadParts.{read_parameters as parameters_reader}
use Rattle.algorithm_reader.specs.PartsRead.{parts_in, Enough}
use Rattle.algorithm_reader.proofs.Gathered.{InPool}
use Rattle.algorithm_reader.proofs.parameters.read_parameters.Given as goal

abbrev pub invariant-loop-list : goal.invariant-loop-list
invariant-loop-list l =
    record {
      in_pool : (n : ℕ) → Enough l.tokens l.at n → InPool (parameters_reader (parts_in l.tokens)) parameters_of declaration_at past_declaration l.tokens l.pool n l.at l.from l.list.items;
      kept : Keeps l.fn.pool l.pool;
      inside : l.from ≤ length l.tokens.items.items;
      further : l.at ≤ l.from;
    }

abbrev pub decreases-loop-list : goal.decreases-loop-list
decreases-loop-list l = length l.tokens.items.items - l.from
