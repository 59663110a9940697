-- An expression that is put in for a name is the same in a pool that has grown.
use Rattle.std.proofs.Common.{◌≡◌, ℕ, ◌<◌, List, length, ap, arith}
use Rattle.tla_tree.specs.Tree.{Word, Tree}
use Rattle.tla_tree.specs.Pool.{at, Keeps}
use Rattle.action_builder.specs.SingleProcess.{in_place_of}

pub place_stays : (x : Word) (e : ℕ) (old new : List Tree) → e < length old → Keeps old new → (e < length new) × (in_place_of x (at new e) ≡ in_place_of x (at old e))
place_stays x e old new h k = (omega (arith, k.longer), ap (in_place_of x) (k.same e h))
