-- Constants and states that the promise speaks of, and raw ones that it doesn't; and what it asks of definitions: by computation.
use Rattle.std.proofs.Common.{◌≡◌, ℕ, pos, List, [], ◌∷◌, Some, refl, ap, Bool, true, false, nat_eq, codes}
use Rattle.tla_token.specs.declared.place.Place.{Place}
use Rattle.tla_tree.specs.Tree.{Word, Tree, node, no_trees, number}
use Rattle.tla_value.specs.Value.{Value, int, set, no_values, and}
use Rattle.tla_value.specs.Order.{IsCanonical}
use Rattle.tla_value.specs.Definitions.{Valuation}
use Rattle.tla_value.specs.Definitions as module_has
use Rattle.pcal_tree.specs.Algorithm.{Algorithm, Definition}
use Rattle.module_tree.specs.Module.{Region, Module}
use Rattle.promise.specs.ConstantsAndStates.{AreConstants}
use Rattle.promise.specs.Translates.{Defines}

-- the members 1 and 2, in their order and in the other one; and 1 twice
abbrev ordered : Value
ordered = set (and (int (pos 1)) (and (int (pos 2)) no_values))

abbrev swapped : Value
swapped = set (and (int (pos 2)) (and (int (pos 1)) no_values))

abbrev twice : Value
twice = set (and (int (pos 1)) (and (int (pos 1)) no_values))

is_canonical : IsCanonical ordered
is_canonical = ((refl, (tt, tt)), (tt, (tt, tt)))

-- no constant has the set in another order, or with a member twice
not_swapped : (m : Module) (values : Valuation) (x : Word) → values x ≡ Some swapped → AreConstants m values → ⊥
not_swapped m values x e h = absurd (order_wrong (h.canonical x swapped e))
  where
    order_wrong : IsCanonical swapped → ⊥
    order_wrong c = absurd cc

not_twice : (m : Module) (values : Valuation) (x : Word) → values x ≡ Some twice → AreConstants m values → ⊥
not_twice m values x e h = absurd (order_wrong (h.canonical x twice e))
  where
    order_wrong : IsCanonical twice → ⊥
    order_wrong c = absurd cc

-- ---- definitions

-- N == k, at some places of the text
abbrev defined : ℕ → Place → Definition
defined k p = record { name = record { word = codes "N"; place = p }; params = []; body = node (number k) p no_trees }

abbrev read_so : ℕ → Place → module_has.Definition
read_so k p = record { title = codes "N"; params = []; body = node (number k) p no_trees; outside = false }

abbrev with_one : Region → module_has.Definition → Region
with_one r d = record r { definitions = d ∷ [] }

-- wherever the module has it
same_definition : (r : Region) (g : Algorithm) (p q : Place) → Defines (with_one r (read_so 7 q)) (record g { definitions = defined 7 p ∷ [] })
same_definition r g p q = refl

other_body : (r : Region) (g : Algorithm) (p q : Place) → Defines (with_one r (read_so 8 q)) (record g { definitions = defined 7 p ∷ [] }) → ⊥
other_body r g p q e = (let k : false ≡ true = ap one_is_seven e in absurd cc)
  where
    is_seven : Tree → Bool
    is_seven (node (number n) p ts) = nat_eq n 7
    is_seven t = false

    one_is_seven : List module_has.Definition → Bool
    one_is_seven [] = false
    one_is_seven (d ∷ ds) = is_seven d.body

left_out : (r : Region) (g : Algorithm) (p : Place) → Defines (record r { definitions = [] }) (record g { definitions = defined 7 p ∷ [] }) → ⊥
left_out r g p e = absurd cc
