-- Definitions outside the algorithm, as expressions use them, are those that are found there.
use Rattle.std.proofs.Common.{◌≡◌, ◌≤◌, ◌++◌, ℕ, List, [], ◌∷◌, length, map, take, refl, sym, ap, subst, ◌∙◌, arith}
use Rattle.std.proofs.lemmas.List.{length-map}
use Rattle.tla_tree.specs.Tree.{Tree}
use Rattle.tla_value.specs.declared.names.Definition.{Definition as Kept}
use Rattle.tla_value.specs.Definitions.{Definition}
use Rattle.tla_value.specs.Defs.{DefinitionsIn, definition_at, definitions_at}
use Rattle.tla_value.specs.Outside.{found}
use Rattle.pcal_tree.specs.declared.algorithm.Algorithm as code_algorithm
use Rattle.pcal_tree.specs.declared.algorithm.Definition as code_definition
use Rattle.pcal_tree.specs.InMemory.{algorithm_at, past_algorithm, past_definitions}
use Rattle.pcal_tree.specs.InMemory as tree
use Rattle.pcal_tree.specs.Program.{inner}
use Rattle.module_outside.specs.declared.definition.ReadDefinition.{ReadDefinition}
use Rattle.module_outside.specs.OutsideAt.{definition_seen}
use Rattle.module_outside.specs.FoundAt.{AreHeld}
use Rattle.step_moves.specs.declared.program.Program as code
use Rattle.step_moves.specs.Programs.{IsWhole}
use Rattle.module_outside.specs.KeptOf.{kept_of}
use Rattle.module_outside.proofs.KeptLaws.{held_kept}

pub found_kept : (ts : List Tree) (ds : List ReadDefinition) → definitions_at ts (map kept_of ds) ≡ found (map (definition_seen ts) ds)
found_kept ts [] = refl
found_kept ts (d ∷ ds) = ap (λ (l : List Definition). definition_at ts (kept_of d) ∷ l) (found_kept ts ds)

-- all are those outside, and then the algorithm's
pub record AreAll (ds : List ReadDefinition) (a : code_algorithm.Algorithm) (all : List Kept) : Type 0 where
  pub seen : (ts : List Tree) → definitions_at ts all ≡ found (map (definition_seen ts) ds) ++ map inner (algorithm_at ts a).definitions
  pub outside : (ts : List Tree) → definitions_at ts (take (length ds) all) ≡ found (map (definition_seen ts) ds)
  pub within : (m : ℕ) → AreHeld m ds → past_algorithm a ≤ m → DefinitionsIn m all

pub whole : (ds : List ReadDefinition) (a : code_algorithm.Algorithm) (all : List Kept) → AreAll ds a all
    → (p : code.Program) → p.algorithm.now ≡ a → p.defs.now ≡ all → p.outside ≡ length ds → past_algorithm a ≤ length p.pool.now → AreHeld (length p.pool.now) ds → IsWhole p
whole ds a all h p here same many past held =
    let ts = p.pool.now in
    record {
      within = (let n = ap past_algorithm here in omega (arith, n, past));
      bodies = subst (DefinitionsIn (length ts)) (sym same) (h.within (length ts) held past);
      definitions =
          ap (definitions_at ts) same ∙ h.seen ts
          ∙ (λ j. (sym (h.outside ts) ∙ (λ k. definitions_at ts (take (sym many k) (sym same k)))) j ++ map inner (algorithm_at ts (sym here j)).definitions);
    }

-- the algorithm's put behind those outside
pub all_made : (ds : List ReadDefinition) (a : code_algorithm.Algorithm) (old new : List Kept) (own : List code_definition.Definition) → old ≡ map kept_of ds → own ≡ a.definitions.items
    → ((ts : List Tree) → definitions_at ts new ≡ definitions_at ts old ++ map inner (tree.definitions_at ts own)) → take (length old) new ≡ old
    → ((m : ℕ) → DefinitionsIn m old → past_definitions own ≤ m → DefinitionsIn m new) → AreAll ds a new
all_made ds a old new own e same behind front within = record {
  seen = λ ts. behind ts ∙ (λ j. (ap (definitions_at ts) e ∙ found_kept ts ds) j ++ map inner (tree.definitions_at ts (same j)));
  outside = λ ts. ap (λ (n : ℕ). definitions_at ts (take n new)) (sym (ap length e ∙ length-map ds kept_of)) ∙ ap (definitions_at ts) (front ∙ e) ∙ found_kept ts ds;
  within = λ m held past. within m (subst (DefinitionsIn m) (sym e) (held_kept m ds held)) (let n = ap past_definitions same in omega (arith, n, past));
}
