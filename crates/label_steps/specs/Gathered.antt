-- What is found in a macro's body where no label is missing.
use Rattle.std.specs.Prelude.{List, [], Some, None}
use Rattle.std.specs.List.{flat_map}
use Rattle.tla_tree.specs.Tree.{Word}
use Rattle.pcal_tree.specs.Algorithm.{Statement, Statements}
use Rattle.pcal_tree.specs.OffencesSteps.{inside, Visit, visits}
use Rattle.pcal_tree.specs.Paths.{Effects, sets_once, Path}
use Rattle.pcal_tree.specs.laws.MacroSummaries.{Pair, Found, found_on}
use Rattle.pcal_tree.proofs.SetLaws.{Same}
use Rattle.label_steps.specs.StraightPaths.{straight_visits}

-- statements assign the names that are found in them
abbrev pub assigning : (Statement → Found) → Effects
assigning S st = sets_once (S st).names

abbrev pub names_met : (Statement → Found) → Visit → List Word
names_met S v = (found_on v.before.path (S v.statement)).names

abbrev pub pairs_met : (Statement → Found) → Visit → List Pair
pairs_met S v = (found_on v.before.path (S v.statement)).pairs

abbrev pub gathered : (Statement → Found) → Path → Statements → Found
gathered S p b = record {
  names = flat_map (names_met S) (straight_visits (assigning S) p b);
  pairs = flat_map (pairs_met S) (straight_visits (assigning S) p b);
}

-- along all paths, whatever labels are missing
abbrev pub gathered_generally : (Statement → Found) → Path → Statements → Found
gathered_generally S p b = record {
  names = flat_map (names_met S) (visits (assigning S) (inside p) b);
  pairs = flat_map (pairs_met S) (visits (assigning S) (inside p) b);
}

-- what a path has assigned; nothing where none leads there
abbrev pub names_there : Path → List Word
names_there None = []
names_there (Some xs) = xs

-- no test of a name or of a pair tells them apart
pub record FoundAlike (f g : Found) : Type 0 where
  pub names : Same f.names g.names
  pub pairs : Same f.pairs g.pairs
