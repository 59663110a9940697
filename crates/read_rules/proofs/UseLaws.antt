-- Uses of names in expressions, one after another.
use Rattle.std.proofs.Common.{◌≡◌, ℕ, ◌+◌, ◌<◌, ◌≤◌, List, [], ◌∷◌, ◌++◌, length, drop, get_or, sym, ap, ◌∙◌, append-nil, append_assoc}
use Rattle.std.proofs.lemmas.List.{map-append, drop_more, drop_all}
use Rattle.tla_tree.specs.Tree.{Tree}
use Rattle.tla_tree.specs.Pool.{at, trees_at}
use Rattle.pcal_tree.specs.laws.MacroSpots as spots
use Rattle.read_rules.specs.declared.uses.Use.{Use}
use Rattle.read_rules.specs.UsesIn.{use_of, uses_of}

pub one_more : (old : List Use) (u : Use) → uses_of (old ++ u ∷ []) ≡ uses_of old ++ use_of u ∷ []
one_more old u = map-append use_of old (u ∷ [])

-- what is left of a list of expressions still gives the whole
pub parts_then : (ts : List Tree) (old new : List spots.Use) (es : List ℕ) (i e : ℕ) → e ≡ get_or es i e → i < length es → new ≡ old ++ spots.uses (at ts e)
    → new ++ spots.uses_of_all (trees_at ts (drop (i + 1) es)) ≡ old ++ spots.uses_of_all (trees_at ts (drop i es))
parts_then ts old new es i e is less h =
    ap (λ (us : List spots.Use). us ++ spots.uses_of_all (trees_at ts (drop (i + 1) es))) h ∙ append_assoc old (spots.uses (at ts e)) (spots.uses_of_all (trees_at ts (drop (i + 1) es)))
    ∙ ap (λ (js : List ℕ). old ++ spots.uses_of_all (trees_at ts js)) (ap (λ (z : ℕ). z ∷ drop (i + 1) es) is ∙ sym (drop_more es i e less))

pub parts_done : (ts : List Tree) (new : List spots.Use) (es : List ℕ) (i : ℕ) → length es ≤ i → new ≡ new ++ spots.uses_of_all (trees_at ts (drop i es))
parts_done ts new es i less = sym (ap (λ (js : List ℕ). new ++ spots.uses_of_all (trees_at ts js)) (drop_all i es less) ∙ append-nil new)
