-- What is kept: the first names may be used so, as many as were looked at.
use Rattle.std.proofs.Common.{◌≡◌, [], ◌∷◌, Some, take}
use Rattle.tla_tree.specs.Tree.{Word}
use Rattle.pcal_tree.specs.NameUses as names
use Rattle.declared_rules.specs.UsesTold.{use_seen}
use Rattle.declared_rules.specs.UsesSeen.{Sees}
use Rattle.declared_rules.proofs.SeenLaws.{seen_of}
use Rattle.declared_rules.proofs.use_sight.Sight.set_names.Given as goal

abbrev pub invariant-loop-name : goal.invariant-loop-name
invariant-loop-name l = (s : names.Sight) (u : names.Use) → Sees l.fn.self s → use_seen l.known ≡ Some u → Sees l.self (seen_of (λ (x : Word). x ∷ []) u (take l.name-index l.list) s)
