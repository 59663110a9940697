-- The written module of an algorithm that can be written is a region that can be written.
use Rattle.std.proofs.Common.{List, [], ◌∷◌, Bool, true, false, cond, codes, map, refl}
use Rattle.std.specs.List.{list_any, AllByRecursion}
use Rattle.tla_tree.specs.Tree.{Word, Each}
use Rattle.tla_tree.specs.laws.Writable.{IsIdentifier}
use Rattle.tla_value.specs.Outside.{Outside}
use Rattle.module_tree.specs.Ways.{processes_in}
use Rattle.module_tree.specs.laws.WritableRegion.{AreNames, IsDefinition, IsRegion}
use Rattle.pcal_tree.specs.Algorithm.{Definition, Algorithm}
use Rattle.pcal_tree.specs.Placeless.{placeless}
use Rattle.pcal_tree.specs.Program.{inner}
use Rattle.pcal_tree.specs.Variables.{declared, vars}
use Rattle.action_builder.specs.ModelValues.{is_unset, model_values}
use Rattle.pcal_tree.specs.Expressions.{all_declarations}
use Rattle.action_builder.specs.NextFormula.{next}
use Rattle.action_builder.specs.WrittenNames.{with_names}
use Rattle.translation.specs.Region.{region_of, written_region}
use Rattle.translation.specs.laws.WritableAlgorithm.{IsWritableDefinition, IsWritableAlgorithm}
use Rattle.translation.proofs.PlacelessAlgorithm.{placeless_writable}
use Rattle.translation.proofs.RegionActions.{IsSome, some_after, some_before, vars_identifiers}
use Rattle.translation.proofs.RegionTakers.{actions_writable}
use Rattle.translation.proofs.RegionInit.{process_sets_writable, init_writable}
use Rattle.translation.proofs.RegionNext.{all_done_writable, ended_writable, next_writable, terminating_there}
use Rattle.translation.proofs.RegionFairness.{fairness_writable}

model_names : (a : Algorithm) → AllByRecursion IsIdentifier (model_values a)
model_names a = by (list_any (λ d. is_unset d.start) (all_declarations a))
  where
    by : (b : Bool) → AllByRecursion IsIdentifier (cond b (codes "defaultInitValue" ∷ []) [])
    by true = (((refl, refl), refl), tt)
    by false = tt

definitions_writable : (ds : List Definition) → AllByRecursion IsWritableDefinition ds → AllByRecursion IsDefinition (map inner ds)
definitions_writable [] h = tt
definitions_writable (d ∷ ds) h = ((h.0.0, h.0.1, h.0.2, h.0.3, refl), definitions_writable ds h.1)

names_of : (xs : List Word) → IsSome xs → Each IsIdentifier xs → AreNames xs
names_of [] s h = absurd s
names_of (x ∷ []) s h = h.0
names_of (x ∷ y ∷ xs) s h = (h.0, names_of (y ∷ xs) tt h.1)

pub region_writable : (b : Bool) (o : Outside) (a : Algorithm) → IsWritableAlgorithm o a → IsRegion (region_of b (with_names o a))
region_writable b o a h =
    let names = names_of (vars (with_names o a)) (some_before _ _ (some_before _ _ (some_after (declared a.globals) _ tt))) (vars_identifiers o a h) in
    record {
      model_values = model_names a;
      variables = names;
      definitions = definitions_writable a.definitions h.definitions;
      vars = names;
      process_set = process_sets_writable a.main (processes_in (next b (with_names o a))) h.main;
      init = init_writable o a h;
      actions = actions_writable o a h;
      ended = ended_writable b a.main;
      next = next_writable o a h b;
      fairness = fairness_writable o a h;
      termination = all_done_writable a.main;
      terminating = terminating_there o a h b;
    }

-- without its places the algorithm can be written too
pub written_is_region : (b : Bool) (o : Outside) (a : Algorithm) → IsWritableAlgorithm o a → IsRegion (written_region b o a)
written_is_region b o a h = region_writable b o (placeless a) (placeless_writable o a h)
