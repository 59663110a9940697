-- What is kept while names are bound: those so far are fresh.
use Rattle.std.proofs.Common.{◌≡◌, true, List, take}
use Rattle.tla_tree.specs.Tree.{Word, words}
use Rattle.module_tree.specs.Outside as pure
use Rattle.algorithm_limits.specs.DepthsIn.{Hides}
use Rattle.module_outside.specs.SightIn.{Sees, Binds}
use Rattle.module_outside.proofs.fresh.names_fresh.Given as goal

abbrev pub invariant-loop-one : goal.invariant-loop-one
invariant-loop-one l = record {
  hides : Hides l.fn.bound l.bound (words (take l.one-index l.names));
  fresh : (v : pure.Sight) (bs : List Word) → Sees l.sight v → Binds l.fn.bound bs → pure.are_fresh v bs (words (take l.one-index l.names)) ≡ true;
}
