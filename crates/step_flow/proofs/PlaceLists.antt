-- Places of expressions, one after another.
use Rattle.std.proofs.Common.{◌≡◌, ℕ, zero, suc, ◌+◌, ◌<◌, List, [], ◌∷◌, ◌++◌, length, take, get_or, refl, sym, ap, ◌∙◌, arith}
use Rattle.tla_token.specs.declared.place.Place.{Place}
use Rattle.tla_tree.specs.Pool.{at, trees_at}
use Rattle.tla_tree.specs.Tree.{Tree, root_place}
use Rattle.step_flow.specs.Ends.{root_places}

places_more : (ts : List Tree) (is : List ℕ) (i : ℕ) → i < length is → root_places (trees_at ts (take (suc i) is)) ≡ root_places (trees_at ts (take i is)) ++ root_place (at ts (get_or is i 0)) ∷ []
places_more ts [] i less = absurd (omega (arith, less))
places_more ts (j ∷ is) zero less = refl
places_more ts (j ∷ is) (suc i) less = ap (λ (ps : List Place). root_place (at ts j) ∷ ps) (places_more ts is i (omega (arith, less)))

pub one_place : (ts : List Tree) (is : List ℕ) (i : ℕ) (old new : List Place) (p : Place) → i < length is → old ≡ root_places (trees_at ts (take i is)) → root_place (at ts (get_or is i 0)) ≡ p → new ≡ old ++ p ∷ []
    → new ≡ root_places (trees_at ts (take (i + 1) is))
one_place ts is i old new p less so_far this n =
    let up : suc i ≡ i + 1 = omega arith in
    n ∙ (λ k. so_far k ++ sym this k ∷ []) ∙ sym (places_more ts is i less) ∙ ap (λ (m : ℕ). root_places (trees_at ts (take m is))) up
