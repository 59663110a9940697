-- What is made is put behind what was there, in a pool that has grown.
use Rattle.std.specs.Prelude.{◌≡◌, ℕ, List, ◌++◌, map}
use Rattle.tla_tree.specs.Tree.{Tree}
use Rattle.tla_tree.specs.Pool.{at}

-- the trees of these numbers are those of before, and then these
abbrev pub Adds : List Tree → List Tree → List ℕ → List ℕ → List Tree → Type 0
Adds old new before after made = map (at new) after ≡ map (at old) before ++ made
