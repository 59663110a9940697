-- What is kept: the first of those uses that were looked at.
use Rattle.std.proofs.Common.{◌≡◌, List, take}
use Rattle.tla_tree.specs.Tree.{Word}
use Rattle.pcal_tree.specs.NameUses as names
use Rattle.module_outside.specs.SightIn.{Binds}
use Rattle.declared_rules.specs.UsesTold.{told_by}
use Rattle.declared_rules.specs.UsesSeen.{Sees}
use Rattle.name_rules.proofs.routines.tell.Given as goal

abbrev pub invariant-loop-i : goal.invariant-loop-i
invariant-loop-i l = (s : names.Sight) (xs : List Word) → Sees l.sight s → Binds l.found.bound xs → l.first ≡ told_by l.found.first (take l.i l.uses) (names.seeing_variables xs s)
