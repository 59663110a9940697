-- What is kept: the first names are variables, as many as were looked at.
use Rattle.std.proofs.Common.{[], ◌∷◌, take}
use Rattle.pcal_tree.specs.declared.algorithm.Declaration.{Declaration}
use Rattle.pcal_tree.specs.NameUses as names
use Rattle.declared_rules.specs.UsesSeen.{Sees}
use Rattle.declared_rules.proofs.SeenLaws.{seen_of}
use Rattle.declared_rules.proofs.use_sight.Sight.set_variables.Given as goal

abbrev pub invariant-loop-i : goal.invariant-loop-i
invariant-loop-i l = (s : names.Sight) → Sees l.fn.self s → Sees l.self (seen_of (λ (d : Declaration). d.name.word ∷ []) names.variable (take l.i l.list) s)
