-- What a list of forms behind bullets means as a whole.
use Rattle.std.proofs.Common.{◌≡◌, ℕ, List, [], ◌∷◌, length, map, refl}
use Rattle.tla_token.specs.declared.place.Place.{Place}
use Rattle.tla_tree.specs.Tree.{Tree}
use Rattle.tla_tree.specs.Pool.{at, AllBelow}
use Rattle.tla_tree.specs.Spelling.{Phrase, tree_of}
use Rattle.module_tree.specs.Grammar.{WayForm, way_of, each}
use Rattle.module_write.specs.declared.«module».Way.{Way}
use Rattle.module_write.specs.InMemory.{ways_at, WaysIn}
use Rattle.region_items.specs.Stand.{IsTree}
use Rattle.region_calls.specs.Told.{IsWay}
use Rattle.region_calls.specs.Lists.{AreAll}

pub ways_all : (ts : List Tree) (ws : List Way) (fs : List (Place × WayForm)) → AreAll (IsWay ts) ws fs → (ways_at ts ws ≡ each way_of fs) × WaysIn (length ts) ws
ways_all ts [] [] h = (refl, tt)
ways_all ts [] (f ∷ fs) h = absurd h
ways_all ts (w ∷ ws) [] h = absurd h
ways_all ts (w ∷ ws) (f ∷ fs) h = (let r = ways_all ts ws fs h.1 in (λ i. h.0.way i ∷ r.0 i, (h.0.below, r.1)))

pub phrases_all : (ts : List Tree) (is : List ℕ) (fs : List (Place × Phrase)) → AreAll (IsTree ts) is fs → (map (at ts) is ≡ each tree_of fs) × AllBelow (length ts) is
phrases_all ts [] [] h = (refl, tt)
phrases_all ts [] (f ∷ fs) h = absurd h
phrases_all ts (i ∷ is) [] h = absurd h
phrases_all ts (i ∷ is) (f ∷ fs) h = (let r = phrases_all ts is fs h.1 in (λ j. h.0.tree j ∷ r.0 j, (h.0.below, r.1)))
