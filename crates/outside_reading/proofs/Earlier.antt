-- What is known of earlier definitions, with one more.
use Rattle.std.proofs.Common.{◌≡◌, ℕ, ◌+◌, Bool, true, false, List, [], ◌∷◌, ◌++◌, length, Option, Some, None, refl, sym, ap, ◌∙◌, cond, bytes_eq, append-nil}
use Rattle.tla_tree.specs.Tree.{Word}
use Rattle.tla_value.specs.Definitions.{Definition}
use Rattle.tla_value.specs.DefinitionNesting.{Depths, definition_nests, depths}
use Rattle.tla_value.specs.Outside.{ReadDefinition, found}
use Rattle.module_tree.specs.Module.{OutsideUnit, definitions_of}
use Rattle.module_tree.specs.Outside.{Sight, arity}
use Rattle.outside_reading.specs.PlainUnits.{seen_behind}

abbrev or_first : Option ℕ → Bool → ℕ → Option ℕ
or_first (Some n) b k = Some n
or_first None true k = Some k
or_first None false k = None

arity_step : (e : Definition) (es : List Definition) (x : Word) → arity (e ∷ es) x ≡ or_first (arity es x) (bytes_eq e.title x) (length e.params)
arity_step e es x = by (arity es x) refl (bytes_eq e.title x) refl
  where
    by : (o : Option ℕ) → arity es x ≡ o → (b : Bool) → bytes_eq e.title x ≡ b → arity (e ∷ es) x ≡ or_first o b (length e.params)
    by (Some n) a b f = rw a refl
    by None a true f = rw (a, f) refl
    by None a false f = rw (a, f) refl

-- the last of a name counts
pub arity_more : (es : List Definition) (d : Definition) (x : Word) → arity (es ++ d ∷ []) x ≡ cond (bytes_eq d.title x) (Some (length d.params)) (arity es x)
arity_more [] d x = arity_step d [] x ∙ by (bytes_eq d.title x)
  where
    by : (b : Bool) → or_first None b (length d.params) ≡ cond b (Some (length d.params)) None
    by true = refl
    by false = refl
arity_more (e ∷ es) d x =
    arity_step e (es ++ d ∷ []) x ∙ ap (λ (o : Option ℕ). or_first o (bytes_eq e.title x) (length e.params)) (arity_more es d x) ∙ by (bytes_eq d.title x)
    ∙ ap (cond (bytes_eq d.title x) (Some (length d.params))) (sym (arity_step e es x))
  where
    by : (b : Bool) → or_first (cond b (Some (length d.params)) (arity es x)) (bytes_eq e.title x) (length e.params) ≡ cond b (Some (length d.params)) (or_first (arity es x) (bytes_eq e.title x) (length e.params))
    by true = refl
    by false = refl

pub depths_more : (ds : Depths) (es : List Definition) (d : Definition) → depths ds (es ++ d ∷ []) ≡ (d.title, 1 + definition_nests (depths ds es) d) ∷ depths ds es
depths_more ds [] d = refl
depths_more ds (e ∷ es) d = depths_more ((e.title, 1 + definition_nests ds e) ∷ ds) es d

-- behind a unit that defines nothing the same is seen
pub same_sight : (v : Sight) (u : OutsideUnit) → definitions_of u ≡ [] → seen_behind v u ≡ v
same_sight v u e = λ i. record { modules = v.modules; constants = v.constants; earlier = (ap (λ (ds : List ReadDefinition). v.earlier ++ found ds) e ∙ append-nil v.earlier) i }
