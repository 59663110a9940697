-- What is past a limit in an algorithm offends by the one rule on too much.
use Rattle.std.proofs.Common.{◌≡◌, Bool, true, false, List, [], ◌∷◌, drop, refl}
use Rattle.std.specs.Prelude.{nat_lt}
use Rattle.std.specs.List.{list_all}
use Rattle.std.proofs.lemmas.Bool.{and_from}
use Rattle.tla_token.specs.declared.place.Place.{Place}
use Rattle.tla_token.specs.declared.rule.Rule.{Rule}
use Rattle.tla_token.specs.declared.rule.Rule.TheVariants.{TooMany}
use Rattle.tla_token.specs.declared.rule.Refusal.{Refusal}
use Rattle.tla_token.specs.Limits.{most_variables, most_processes, most_procedures, most_labels, longest_chain, deepest_definition}
use Rattle.tla_value.specs.DefinitionNesting.{Depths, definition_nests, depths}
use Rattle.pcal_tree.specs.Algorithm.{Name, Definition, Macro, Algorithm}
use Rattle.pcal_tree.specs.Program.{inner}
use Rattle.pcal_tree.specs.Offences.{offence_if}
use Rattle.pcal_tree.specs.OffencesNames.{process_names}
use Rattle.pcal_tree.specs.OffencesCounts.{variable_names, procedure_names, all_label_names, at_first_name, first_past, Chains, chain_to, long_chains, deep_definitions, count_offences}
use Rattle.module_tree.proofs.FineFiles.{all_more}

module _ (p : Rule → Bool) (many : p TooMany ≡ true) where
  abbrev holds : Refusal → Bool
  holds r = p r.rule

  abbrev All : List Refusal → Type 0
  All rs = list_all holds rs ≡ true

  one_many : (b : Bool) (at : Place) → All (offence_if b TooMany at)
  one_many true at = and_from (p TooMany) true many refl
  one_many false at = refl

  name_many : (xs : List Name) → All (at_first_name xs)
  name_many [] = refl
  name_many (x ∷ xs) = and_from (p TooMany) true many refl

  chains_many : (cs : Chains) (ds : List Macro) → All (long_chains cs ds)
  chains_many cs [] = refl
  chains_many cs (d ∷ ds) =
      all_more holds (offence_if (nat_lt longest_chain (chain_to cs d)) TooMany d.name.place) (long_chains ((d.name.word, chain_to cs d) ∷ cs) ds) (one_many (nat_lt longest_chain (chain_to cs d)) d.name.place)
      (chains_many ((d.name.word, chain_to cs d) ∷ cs) ds)

  deep_many : (ds : Depths) (es : List Definition) → All (deep_definitions ds es)
  deep_many ds [] = refl
  deep_many ds (e ∷ es) =
      all_more holds (offence_if (nat_lt deepest_definition (definition_nests ds (inner e))) TooMany e.name.place) (deep_definitions (depths ds (inner e ∷ [])) es)
      (one_many (nat_lt deepest_definition (definition_nests ds (inner e))) e.name.place) (deep_many (depths ds (inner e ∷ [])) es)

  pub counts_many : (a : Algorithm) → All (count_offences a)
  counts_many a =
      all_more holds (first_past most_variables (variable_names a)) _ (name_many (drop most_variables (variable_names a)))
      (all_more holds (first_past most_processes (process_names a.main)) _ (name_many (drop most_processes (process_names a.main)))
      (all_more holds (first_past most_procedures (procedure_names a)) _ (name_many (drop most_procedures (procedure_names a)))
      (all_more holds (first_past most_labels (all_label_names a)) _ (name_many (drop most_labels (all_label_names a)))
      (all_more holds (long_chains [] a.macros) (deep_definitions [] a.definitions) (chains_many [] a.macros) (deep_many [] a.definitions)))))
