-- That titles are looked at, and what is outside.
use Rattle.std.proofs.Common.{◌≡◌, ℕ, ◌+◌, ◌<◌, ◌≤◌, List, [], ◌∷◌, ◌++◌, length, map, take, get_or, refl, sym, ap, subst, ◌∙◌}
use Rattle.std.specs.List.{flat_map}
use Rattle.std.proofs.lemmas.List.{take_all}
use Rattle.tla_token.specs.declared.rule.Refusal.{Refusal}
use Rattle.tla_tree.specs.Tree.{Name, Word, Tree}
use Rattle.tla_value.specs.Outside as pure
use Rattle.module_outside.specs.Passing.{passed_seen}
use Rattle.module_outside.specs.declared.definition.ReadDefinition.{ReadDefinition}
use Rattle.module_outside.specs.declared.outside.Outside.{Outside}
use Rattle.module_outside.specs.OutsideAt.{definition_seen}
use Rattle.module_outside.specs.WholeAt.{outside_at}
use Rattle.algorithm_limits.specs.DepthsIn.{Hides}
use Rattle.module_outside.specs.declared.modules.Modules.{Modules}
use Rattle.module_outside.specs.SightIn.{Binds}
use Rattle.module_outside.proofs.SightLaws.{binds_all, none_bound}
use Rattle.declared_rules.specs.declared.found.Found.{Found}
use Rattle.declared_rules.specs.Finding.{reserved_in, parts_offences, seen_offences, Joins, AddsNames}
use Rattle.declared_rules.specs.Titles.{constant_parts, read_parts, pure_title, unit_offences, outside_offences, title_offences}
use Rattle.declared_rules.proofs.JoinLaws.{joins_then, joins_as}
use Rattle.declared_rules.proofs.NameLaws.{with_seen, names_then}
use Rattle.declared_rules.proofs.ListLaws.{more_of}

-- ---- one more in a loop

module _ (ts : List Tree) {A : Type 0} (f : A → List Refusal) (xs : List A) where
  pub joins_more : (j k l : Found) (i : ℕ) (x : A) → x ≡ get_or xs i x → i < length xs → Joins ts j k (flat_map f (take i xs)) → Joins ts k l (f x) → Joins ts j l (flat_map f (take (i + 1) xs))
  joins_more j k l i x e less g h = joins_as ts j l _ _ (more_of f xs i x e less) (joins_then ts j k l (flat_map f (take i xs)) (f x) g h)

  pub joins_all : (j k : Found) (i : ℕ) → length xs ≤ i → Joins ts j k (flat_map f (take i xs)) → Joins ts j k (flat_map f xs)
  joins_all j k i less g = joins_as ts j k _ _ (ap (flat_map f) (take_all i xs less)) g

pub of_mapped : {A B : Type 0} (f : B → List Refusal) (g : A → B) (xs : List A) → flat_map (λ (x : A). f (g x)) xs ≡ flat_map f (map g xs)
of_mapped f g [] = refl
of_mapped f g (x ∷ xs) = ap (λ (l : List Refusal). f (g x) ++ l) (of_mapped f g xs)

-- ---- what is outside in memory, and the pure one

constants_offend : (m : Modules) (ns : List Name) → parts_offences m (flat_map constant_parts ns) ≡ flat_map (reserved_in m) ns
constants_offend m [] = refl
constants_offend m (n ∷ ns) = ap (λ (l : List Refusal). reserved_in m n ++ l) (constants_offend m ns)

read_offend : (m : Modules) (ts : List Tree) (ds : List ReadDefinition) → parts_offences m (flat_map read_parts ds) ≡ flat_map (λ (d : pure.ReadDefinition). reserved_in m (pure_title d)) (map (definition_seen ts) ds)
read_offend m ts [] = refl
read_offend m ts (d ∷ ds) = ap (λ (l : List Refusal). reserved_in m d.title ++ l) (read_offend m ts ds)

pub outside_joined : (ts : List Tree) (i j k l : Found) (o : Outside) → Joins ts i j (parts_offences i.modules (flat_map constant_parts o.constants.items)) → Joins ts j k (parts_offences j.modules (flat_map read_parts o.definitions.items))
    → Joins ts k l (flat_map unit_offences (map passed_seen o.opaque.items)) → Joins ts i l (outside_offences i.modules (outside_at ts o))
outside_joined ts i j k l o f g h =
    joins_then ts i j l _ _ (joins_as ts i j _ _ (constants_offend i.modules o.constants.items) f)
    (joins_then ts j k l _ _
    (joins_as ts j k _ _ (ap (λ (m : Modules). parts_offences m (flat_map read_parts o.definitions.items)) f.modules ∙ read_offend i.modules ts o.definitions.items) g) h)

-- ---- all titles

-- from no name, and from those outside
pub titles_joined : (j k l n : Found) (y z : List Word) (kept others : List Name) (ws : List Tree → List Word) → y ≡ [] → AddsNames (with_seen j y) k kept → AddsNames k l others
    → ((ts : List Tree) → Hides [] z (ws ts)) → AddsNames (with_seen l z) n kept → (ts : List Tree) → Joins ts j n (title_offences j.modules (ws ts) kept others)
titles_joined j k l n y z kept others ws e g h d c ts =
    joins_then ts j l n _ _ first
    (subst (λ (m : Modules). Joins ts l n (seen_offences m (ws ts) kept)) first.modules
    (let q = c.adds ts (ws ts) (binds_all z (ws ts) (d ts)) in record { modules = q.modules; many = q.many; value = q.value }))
  where
    first : Joins ts j l (seen_offences j.modules [] (kept ++ others))
    first =
        let q = (names_then (with_seen j y) k l kept others g h).adds ts [] (subst (λ (x : List Word). Binds x []) (sym e) none_bound) in
        record { modules = q.modules; many = q.many; value = q.value }
