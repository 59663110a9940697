-- Labels and routines in memory, and what they stand for where the pool has these trees.
use Rattle.std.specs.Prelude.{◌≡◌, ℕ, zero, suc, List, [], ◌++◌, map, drop, codes, false}
use Rattle.tla_tree.specs.Tree.{Word, Tree, Name}
use Rattle.tla_tree.specs.Nesting.{greatest}
use Rattle.pcal_tree.specs.declared.algorithm.Stmt.{Stmt}
use Rattle.pcal_tree.specs.Algorithm as tree
use Rattle.pcal_tree.specs.Algorithm.{Statements}
use Rattle.pcal_tree.specs.InMemory.{statements_at, declarations_at, past_statements}
use Rattle.pcal_tree.specs.Run.{label_of}
use Rattle.step_spots.specs.declared.walk.Spot as code
use Rattle.step_spots.specs.declared.routine.Routine.{Routine}
use Rattle.step_spots.specs.Targets.{target_word}
use Rattle.step_spots.specs.Spots.{Spot}

abbrev pub spot_at : List Tree → code.Spot → Spot
spot_at ts s = record { name = s.label.now; begins = record { items = statements_at ts s.items.now; exit = target_word s.exit } }

-- past which numbers those of the statements after a label are, and after labels: the least number that is above each
abbrev pub past_spot : code.Spot → ℕ
past_spot s = past_statements s.items.now

abbrev pub past_spots : List code.Spot → ℕ
past_spots ss = greatest (map past_spot ss)

-- these were added
abbrev pub AddsSpots : List Tree → List code.Spot → List code.Spot → List Spot → Type 0
AddsSpots ts old new ss = map (spot_at ts) new ≡ map (spot_at ts) old ++ ss

-- where the statement of this number is, in a list in memory that is at the label `here`
abbrev pub here_at : List Tree → Word → Word → List Stmt → ℕ → Word
here_at ts here x ss zero = here
here_at ts here x ss (suc i) = label_of (statements_at ts (drop i ss)) x

-- ---- routines

abbrev pub routine_at : List Tree → Routine → tree.Routine
routine_at ts u = record {
  number = u.number;
  name = u.name.now;
  params = declarations_at ts u.params.now;
  variables = declarations_at ts u.variables.now;
  spread = u.spread;
  body = statements_at ts u.body.now;
  exit = target_word u.exit;
}

-- the one body
abbrev pub alone_body : ℕ → Name → Statements → tree.Routine
alone_body n x b = record { number = n; name = x; params = []; variables = []; spread = false; body = b; exit = codes "Done" }
