-- Names that are bound one after another.
use Rattle.std.proofs.Common.{◌≡◌, ℕ, ◌+◌, ◌<◌, ◌≤◌, List, [], ◌∷◌, ◌++◌, length, take, get_or, sym, ap, ◌∙◌}
use Rattle.std.proofs.lemmas.List.{take_more, take_all, map-append}
use Rattle.tla_tree.specs.Tree.{Word, Name, words}
use Rattle.pcal_tree.specs.declared.algorithm.Declaration.{Declaration}
use Rattle.algorithm_limits.specs.DepthsIn.{Hides}
use Rattle.algorithm_limits.proofs.BoundLemmas.{hides_then, hides_as}
use Rattle.declared_rules.specs.Units.{declared_names}

declared_next : (ds : List Declaration) (i : ℕ) (d : Declaration) → d ≡ get_or ds i d → i < length ds → words (declared_names (take i ds)) ++ d.name.word ∷ [] ≡ words (declared_names (take (i + 1) ds))
declared_next ds i d e l =
    sym (ap (λ (es : List Declaration). words (declared_names es)) (take_more ds i d l ∙ ap (λ (z : Declaration). take i ds ++ z ∷ []) (sym e))
    ∙ ap words (map-append (λ (d : Declaration). d.name) (take i ds) (d ∷ [])) ∙ map-append (λ (n : Name). n.word) (declared_names (take i ds)) (d.name ∷ []))

pub declared_more : (old now new : List Word) (ds : List Declaration) (i : ℕ) (d : Declaration) → d ≡ get_or ds i d → i < length ds → Hides old now (words (declared_names (take i ds))) → Hides now new (d.name.word ∷ []) → Hides old new (words (declared_names (take (i + 1) ds)))
declared_more old now new ds i d e l h k = hides_as old new _ _ (declared_next ds i d e l) (hides_then old now new (words (declared_names (take i ds))) (d.name.word ∷ []) h k)

pub declared_all : (old now : List Word) (ds : List Declaration) (i : ℕ) → length ds ≤ i → Hides old now (words (declared_names (take i ds))) → Hides old now (words (declared_names ds))
declared_all old now ds i l h = hides_as old now _ _ (ap (λ (es : List Declaration). words (declared_names es)) (take_all i ds l)) h
