-- What is kept: the first names may be used so, as many as were looked at.
use Rattle.std.proofs.Common.{◌≡◌, [], ◌∷◌, Some, take}
use Rattle.tla_tree.specs.Tree.{Name}
use Rattle.pcal_tree.specs.NameUses as names
use Rattle.declared_rules.specs.UsesTold.{use_seen}
use Rattle.declared_rules.specs.UsesSeen.{Sees}
use Rattle.declared_rules.proofs.SeenLaws.{seen_of}
use Rattle.declared_rules.proofs.use_sight.Sight.set_placed.Given as goal

abbrev pub invariant-loop-one : goal.invariant-loop-one
invariant-loop-one l = (s : names.Sight) (u : names.Use) → Sees l.fn.self s → use_seen l.known ≡ Some u → Sees l.self (seen_of (λ (x : Name). x.word ∷ []) u (take l.one-index l.list) s)
