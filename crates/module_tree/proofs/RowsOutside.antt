-- Definitions outside the translation that are read, and some that are not, by computation.
use Rattle.std.proofs.Common.{◌≡◌, refl}
use Rattle.std.specs.Prelude.{◌^◌, Bool, true, false, List, [], ◌∷◌, codes}
use Rattle.tla_tree.specs.declared.op.Op.TheVariants.{Plus}
use Rattle.tla_tree.specs.declared.op.Binder.TheVariants.{ForAll}
use Rattle.tla_tree.specs.Tree.{Word, number, name, member, binding, local, Tree, node, no_trees, tree}
use Rattle.module_tree.specs.Outside.{Sight, definition_reads}
use Rattle.module_tree.proofs.First.{here, leaf, signed}

-- a module with constants C and S
abbrev seen : List Word → Sight
seen ms = record { modules = ms; constants = codes "C" ∷ codes "S" ∷ []; earlier = record { title = codes "D"; params = []; body = leaf (number 1); outside = true } ∷ [] }

abbrev reads : List Word → List Word → Tree → Bool
reads ms ps e = definition_reads (seen ms) (record { title = codes "N"; params = ps; body = e; outside = true })

abbrev word : Word → Tree
word x = leaf (name x)

abbrev integers : List Word
integers = codes "Integers" ∷ []

sum : reads integers (codes "a" ∷ []) (signed Plus (word (codes "a")) (signed Plus (word (codes "C")) (word (codes "D")))) ≡ true
sum = refl

-- no module has +
no_plus : reads [] (codes "a" ∷ []) (signed Plus (word (codes "a")) (word (codes "C"))) ≡ false
no_plus = refl

-- a constant's name
constant_again : definition_reads (seen integers) (record { title = codes "C"; params = []; body = leaf (number 1); outside = true }) ≡ false
constant_again = refl

unknown : reads integers [] (word (codes "x")) ≡ false
unknown = refl

-- a parameter with the name of a constant, or of an earlier definition, or twice
rebound : reads integers (codes "C" ∷ []) (leaf (number 1)) ≡ false
rebound = refl

defined_before : reads integers (codes "D" ∷ []) (leaf (number 1)) ≡ false
defined_before = refl

twice : reads integers (codes "a" ∷ codes "a" ∷ []) (leaf (number 1)) ≡ false
twice = refl

-- \A y \in S : y \in Nat, and \A y \in Nat : y \in S
abbrev all : Tree → Tree → Tree
all s t = node (binding ForAll ((record { word = codes "y"; place = here } ∷ []) ∷ [])) here (tree s (tree (node (member true) here (tree (word (codes "y")) (tree t no_trees))) no_trees))

tested : reads integers [] (all (word (codes "S")) (word (codes "Nat"))) ≡ true
tested = refl

not_listed : reads integers [] (all (word (codes "Nat")) (word (codes "S"))) ≡ false
not_listed = refl

-- LET y == 1 z == y IN z, and with the names in the other order
abbrev lets : Word → Word → Tree
lets x w = node (local (record { word = x; place = here } ∷ record { word = w; place = here } ∷ [])) here (tree (leaf (number 1)) (tree (word (codes "y")) (tree (word (codes "z")) no_trees)))

seen_later : reads integers [] (lets (codes "y") (codes "z")) ≡ true
seen_later = refl

not_seen_earlier : reads integers [] (lets (codes "z") (codes "y")) ≡ false
not_seen_earlier = refl

too_large : reads integers [] (leaf (number (2 ^ 127))) ≡ false
too_large = refl
