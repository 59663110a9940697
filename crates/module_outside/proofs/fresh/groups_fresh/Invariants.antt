-- What is kept while groups of names are bound: those so far are fresh.
use Rattle.std.proofs.Common.{◌≡◌, true, List, take}
use Rattle.std.specs.List.{flat_map}
use Rattle.tla_tree.specs.Tree.{Word, words}
use Rattle.tla_pool.specs.FormOf.{groups_of}
use Rattle.module_tree.specs.Outside as pure
use Rattle.algorithm_limits.specs.DepthsIn.{Hides}
use Rattle.module_outside.specs.SightIn.{Sees, Binds}
use Rattle.module_outside.proofs.fresh.groups_fresh.Given as goal

abbrev pub invariant-loop-i : goal.invariant-loop-i
invariant-loop-i l = record {
  hides : Hides l.fn.bound l.bound (flat_map words (groups_of (take l.i l.groups)));
  fresh : (v : pure.Sight) (bs : List Word) → Sees l.sight v → Binds l.fn.bound bs → pure.are_fresh v bs (flat_map words (groups_of (take l.i l.groups))) ≡ true;
}
