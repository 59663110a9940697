-- Names of units outside are bound one after another.
use Rattle.std.proofs.Common.{◌≡◌, ℕ, ◌+◌, ◌<◌, ◌≤◌, List, [], ◌∷◌, ◌++◌, length, take, map, get_or, refl, ap}
use Rattle.std.specs.List.{flat_map}
use Rattle.std.proofs.lemmas.List.{take_all}
use Rattle.tla_tree.specs.Tree.{Word, Tree}
use Rattle.tla_value.specs.Outside as pure
use Rattle.algorithm_limits.specs.DepthsIn.{Hides}
use Rattle.algorithm_limits.proofs.BoundLemmas.{hides_then, hides_as}
use Rattle.module_outside.specs.declared.definition.ReadDefinition.{ReadDefinition}
use Rattle.module_outside.specs.OutsideAt.{definition_seen}
use Rattle.module_outside.specs.declared.passed.Passed.{Passed}
use Rattle.module_outside.specs.Passing.{passed_seen}
use Rattle.declared_rules.specs.OutsideWords.{read_words, passed_words}
use Rattle.declared_rules.proofs.ListLaws.{more_of}

module _ {A : Type 0} (f : A → List Word) (xs : List A) where
  pub hides_more : (a b c : List Word) (i : ℕ) (x : A) → x ≡ get_or xs i x → i < length xs → Hides a b (flat_map f (take i xs)) → Hides b c (f x) → Hides a c (flat_map f (take (i + 1) xs))
  hides_more a b c i x e less g h = hides_as a c _ _ (more_of f xs i x e less) (hides_then a b c (flat_map f (take i xs)) (f x) g h)

  pub hides_all : (a b : List Word) (i : ℕ) → length xs ≤ i → Hides a b (flat_map f (take i xs)) → Hides a b (flat_map f xs)
  hides_all a b i less g = hides_as a b _ _ (ap (flat_map f) (take_all i xs less)) g

pub each_word : {A : Type 0} (f : A → Word) (xs : List A) → flat_map (λ (x : A). f x ∷ []) xs ≡ map f xs
each_word f [] = refl
each_word f (x ∷ xs) = ap (λ (l : List Word). f x ∷ l) (each_word f xs)

pub one_word : (xs : List Word) → flat_map (λ (x : Word). x ∷ []) xs ≡ xs
one_word [] = refl
one_word (x ∷ xs) = ap (λ (ys : List Word). x ∷ ys) (one_word xs)

pub titles_read : (ts : List Tree) (ds : List ReadDefinition) → read_words ds ≡ map (λ (d : pure.ReadDefinition). d.definition.title) (map (definition_seen ts) ds)
titles_read ts [] = refl
titles_read ts (d ∷ ds) = ap (λ (l : List Word). d.title.word ∷ l) (titles_read ts ds)

pub names_passed : (us : List Passed) → passed_words us ≡ flat_map (λ (u : pure.Opaque). u.names) (map passed_seen us)
names_passed [] = refl
names_passed (u ∷ us) = ap (λ (l : List Word). u.names.items ++ l) (names_passed us)
