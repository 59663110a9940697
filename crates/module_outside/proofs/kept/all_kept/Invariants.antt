-- What the loop keeps: what is there, with the definitions that are left, is the whole.
use Rattle.std.proofs.Common.{◌≡◌, ◌++◌, drop, map}
use Rattle.module_outside.specs.KeptOf.{kept_of}
use Rattle.module_outside.proofs.kept.all_kept.Given as goal

abbrev pub invariant-loop-one : goal.invariant-loop-one
invariant-loop-one l = l.all ++ map kept_of (drop l.one-index l.list) ≡ map kept_of l.list
