-- The rules on names, on labels and on sizes that an algorithm offends against are the same wherever its parts are, and in whichever lines all else of the file is.
use Rattle.std.proofs.Common.{◌≡◌, List, [], ◌∷◌, ◌++◌, map, flat_map, reverse, ◌||◌, codes, refl, sym, ap, ◌∙◌}
use Rattle.tla_token.specs.declared.rule.Rule.TheVariants.{Reserved, OutsideVariable}
use Rattle.tla_token.specs.declared.rule.Refusal.{Refusal}
use Rattle.tla_token.specs.Places.{nowhere}
use Rattle.tla_token.specs.Signs.{is_among}
use Rattle.tla_token.specs.Words.{is_own, is_standard}
use Rattle.tla_tree.specs.Tree.{Word, Name, words}
use Rattle.tla_value.specs.Outside.{Opaque, ReadDefinition, Outside}
use Rattle.module_tree.specs.laws.Outsides.{unplaced, SameOutside}
use Rattle.pcal_tree.specs.Algorithm.{Algorithm}
use Rattle.pcal_tree.specs.NameUses.{Sight, plain, hidden_name, seeing_variables}
use Rattle.pcal_tree.specs.Offences.{offence_if}
use Rattle.pcal_tree.specs.OffencesLabels.{label_offences}
use Rattle.pcal_tree.specs.OffencesModules.{module_needs, outside_variables}
use Rattle.pcal_tree.specs.OffencesNames.{macro_offences, always_known, defined_inside, defined_outside, sight_outside, in_declared, in_definitions, in_procedure, in_main, use_offences_of, repeated, kept_names, repeated_names}
use Rattle.pcal_tree.specs.OffencesOfNames.{offences_of_uses, offences_of_declarations, offences_of_reads, through_each_call, name_offences}
use Rattle.pcal_tree.specs.OffencesReads.{process_offences, own_offences, order_offences}
use Rattle.pcal_tree.specs.OffencesRebind.{Standings, naming, any_name, starts_rebind, definitions_rebind, texts_rebind, macro_rebinds, procedure_rebinds, main_rebinds, rebind_offences_of}
use Rattle.pcal_tree.specs.OffencesReserved.{reserved_name, reserved_read, reserved_opaque, reserved_outside, reserved_declared}
use Rattle.pcal_tree.specs.OffencesSelf.{self_offences}
use Rattle.pcal_tree.specs.OffencesStale.{stale_offences}
use Rattle.pcal_tree.specs.Outside.{unit_names}
use Rattle.pcal_tree.specs.Placeless.{placeless}
use Rattle.pcal_tree.specs.Variables.{declared}
use Rattle.macro_expand.specs.TooLarge.{too_large}
use Rattle.translation.proofs.AgainCounts.{too_large_bare}
use Rattle.translation.proofs.AgainDeclared.{repeated_names_bare, reserved_bare, module_needs_bare}
use Rattle.translation.proofs.AgainJumps.{label_offences_bare}
use Rattle.translation.proofs.AgainOffences.{rules, rules_two, rules_if}
use Rattle.translation.proofs.AgainReads.{process_offences_bare, own_offences_bare, order_offences_bare, stale_offences_bare, self_offences_bare}
use Rattle.translation.proofs.AgainRebinds.{rebind_offences_bare}
use Rattle.translation.proofs.AgainUses.{use_offences_bare}

-- ---- places of the algorithm

pub names_bare : (a : Algorithm) (o : Outside) → rules (name_offences (placeless a) o) ≡ rules (name_offences a o)
names_bare a o =
    rules_two (offences_of_uses (through_each_call b o) b o) (offences_of_declarations (through_each_call b o) b o ++ offences_of_reads (through_each_call b o) b)
    (offences_of_uses (through_each_call a o) a o) (offences_of_declarations (through_each_call a o) a o ++ offences_of_reads (through_each_call a o) a)
    (rules_two (use_offences_of b o) (module_needs b o ++ outside_variables o) (use_offences_of a o) (module_needs a o ++ outside_variables o) (use_offences_bare a o)
    (rules_two (module_needs b o) (outside_variables o) (module_needs a o) (outside_variables o) (module_needs_bare a o) refl))
    (rules_two (offences_of_declarations (through_each_call b o) b o) (offences_of_reads (through_each_call b o) b) (offences_of_declarations (through_each_call a o) a o) (offences_of_reads (through_each_call a o) a)
    (rules_two (repeated_names b o) (rebind_offences_of b o ++ reserved_declared b o) (repeated_names a o) (rebind_offences_of a o ++ reserved_declared a o) (repeated_names_bare a o)
    (rules_two (rebind_offences_of b o) (reserved_declared b o) (rebind_offences_of a o) (reserved_declared a o) (rebind_offences_bare a o) (reserved_bare a o)))
    (rules_two (process_offences b) (own_offences b ++ (order_offences b ++ (stale_offences b ++ self_offences b))) (process_offences a) (own_offences a ++ (order_offences a ++ (stale_offences a ++ self_offences a)))
    (process_offences_bare a)
    (rules_two (own_offences b) (order_offences b ++ (stale_offences b ++ self_offences b)) (own_offences a) (order_offences a ++ (stale_offences a ++ self_offences a)) (own_offences_bare a)
    (rules_two (order_offences b) (stale_offences b ++ self_offences b) (order_offences a) (stale_offences a ++ self_offences a) (order_offences_bare a)
    (rules_two (stale_offences b) (self_offences b) (stale_offences a) (self_offences a) (stale_offences_bare a) (self_offences_bare a))))))
  where
    b : Algorithm
    b = placeless a

-- ---- lines of what is outside

opaque_names : (us : List Opaque) → flat_map (λ u. u.names) us ≡ flat_map (λ p. p.1) (map unplaced us)
opaque_names [] = refl
opaque_names (u ∷ us) = ap (λ (xs : List Word). u.names ++ xs) (opaque_names us)

-- each by its keyword
variable_rules : (us : List Opaque) → rules (flat_map (λ u. offence_if (is_among (codes "VARIABLE" ∷ codes "VARIABLES" ∷ []) u.keyword) OutsideVariable u.place) us)
    ≡ rules (flat_map (λ p. offence_if (is_among (codes "VARIABLE" ∷ codes "VARIABLES" ∷ []) p.0) OutsideVariable nowhere) (map unplaced us))
variable_rules [] = refl
variable_rules (u ∷ us) =
    rules_two (offence_if (is_among (codes "VARIABLE" ∷ codes "VARIABLES" ∷ []) u.keyword) OutsideVariable u.place) _
    (offence_if (is_among (codes "VARIABLE" ∷ codes "VARIABLES" ∷ []) u.keyword) OutsideVariable nowhere) _
    (rules_if (is_among (codes "VARIABLE" ∷ codes "VARIABLES" ∷ []) u.keyword) _ OutsideVariable u.place nowhere refl) (variable_rules us)

reserved_rules : (us : List Opaque) → rules (flat_map reserved_opaque us) ≡ rules (flat_map (λ p. flat_map (λ w. offence_if (is_own w) Reserved nowhere) p.1) (map unplaced us))
reserved_rules [] = refl
reserved_rules (u ∷ us) = rules_two (reserved_opaque u) _ (flat_map (λ w. offence_if (is_own w) Reserved nowhere) u.names) _ (each u.names) (reserved_rules us)
  where
    each : (ws : List Word) → rules (flat_map (λ w. offence_if (is_own w) Reserved u.place) ws) ≡ rules (flat_map (λ w. offence_if (is_own w) Reserved nowhere) ws)
    each [] = refl
    each (w ∷ ws) = rules_two (offence_if (is_own w) Reserved u.place) _ (offence_if (is_own w) Reserved nowhere) _ (rules_if (is_own w) _ Reserved u.place nowhere refl) (each ws)

constant_rules : (o : Outside) (xs : List Name) → rules (flat_map (reserved_name o) xs) ≡ rules (flat_map (λ w. offence_if (is_own w || is_standard o.extended w) Reserved nowhere) (words xs))
constant_rules o [] = refl
constant_rules o (x ∷ xs) =
    rules_two (reserved_name o x) _ (offence_if (is_own x.word || is_standard o.extended x.word) Reserved nowhere) _ (rules_if (is_own x.word || is_standard o.extended x.word) _ Reserved x.place nowhere refl) (constant_rules o xs)

-- of two that extend the same and have the same definitions
module _ (extended : List Word) (ds : List ReadDefinition) (xs ys : List Name) (us vs : List Opaque) (constants : words xs ≡ words ys) (passed : map unplaced us ≡ map unplaced vs) where
  abbrev o : Outside
  o = record { extended = extended; constants = xs; definitions = ds; opaque = us }

  abbrev q : Outside
  q = record { extended = extended; constants = ys; definitions = ds; opaque = vs }

  names : flat_map (λ (u : Opaque). u.names) us ≡ flat_map (λ (u : Opaque). u.names) vs
  names = opaque_names us ∙ ap (flat_map (λ p. p.1)) passed ∙ sym (opaque_names vs)

  sights : sight_outside o ≡ sight_outside q
  sights = λ i. map hidden_name (names i) ++ (map plain (constants i) ++ (map defined_outside (reverse ds) ++ always_known extended))

  units : unit_names o ≡ unit_names q
  units = λ i. constants i ++ (map (λ (d : ReadDefinition). d.definition.title) ds ++ names i)

  uses_alike : (a : Algorithm) → use_offences_of a o ≡ use_offences_of a q
  uses_alike a =
      ap (λ (s : Sight). in_declared a.globals (top s) ++ (in_definitions a.definitions (seeing_variables (declared a.globals) s)
      ++ (flat_map (in_procedure (macro_offences (reverse a.macros) a.procedures) a.procedures (top s)) a.procedures ++ in_main (macro_offences (reverse a.macros) a.procedures) a.procedures (top s) a.main))) sights
    where
      top : Sight → Sight
      top s = map defined_inside (reverse a.definitions) ++ seeing_variables (declared a.globals) s

  rebinds_alike : (a : Algorithm) → rebind_offences_of a o ≡ rebind_offences_of a q
  rebinds_alike a =
      ap (λ (ns : List Word). starts_rebind extended any_name a.globals (inner ns) ++ (definitions_rebind extended a.definitions (outer ns)
      ++ (texts_rebind extended a.procedures (macro_rebinds extended a.procedures) (inner ns) (reverse a.macros)
      ++ (flat_map (procedure_rebinds extended a.procedures (macro_rebinds extended a.procedures (reverse a.macros)) (inner ns)) a.procedures
      ++ main_rebinds extended a.procedures (macro_rebinds extended a.procedures (reverse a.macros)) (inner ns) a.main)))) units
    where
      outer : List Word → Standings
      outer ns = naming (declared a.globals ++ ns) []

      inner : List Word → Standings
      inner ns = naming (map (λ d. d.name.word) a.definitions) (outer ns)

  reserved_alike : (a : Algorithm) → rules (reserved_declared a o) ≡ rules (reserved_declared a q)
  reserved_alike a =
      rules_two (reserved_outside o) _ (reserved_outside q) _
      (rules_two (flat_map (reserved_name o) xs) (flat_map (reserved_read o) ds ++ flat_map reserved_opaque us) (flat_map (reserved_name q) ys) (flat_map (reserved_read q) ds ++ flat_map reserved_opaque vs)
      (constant_rules o xs ∙ ap (λ (ws : List Word). rules (flat_map (λ w. offence_if (is_own w || is_standard extended w) Reserved nowhere) ws)) constants ∙ sym (constant_rules q ys))
      (rules_two (flat_map (reserved_read o) ds) (flat_map reserved_opaque us) (flat_map (reserved_read q) ds) (flat_map reserved_opaque vs) refl
      (reserved_rules us ∙ ap (λ ps. rules (flat_map (λ p. flat_map (λ w. offence_if (is_own w) Reserved nowhere) p.1) ps)) passed ∙ sym (reserved_rules vs))))
      refl

  outside_names_alike : (a : Algorithm) → rules (name_offences a o) ≡ rules (name_offences a q)
  outside_names_alike a =
      rules_two (offences_of_uses (through_each_call a o) a o) (offences_of_declarations (through_each_call a o) a o ++ offences_of_reads (through_each_call a o) a)
      (offences_of_uses (through_each_call a q) a q) (offences_of_declarations (through_each_call a q) a q ++ offences_of_reads (through_each_call a q) a)
      (rules_two (use_offences_of a o) (module_needs a o ++ outside_variables o) (use_offences_of a q) (module_needs a q ++ outside_variables q) (ap rules (uses_alike a))
      (rules_two (module_needs a o) (outside_variables o) (module_needs a q) (outside_variables q) refl
      (variable_rules us ∙ ap (λ ps. rules (flat_map (λ p. offence_if (is_among (codes "VARIABLE" ∷ codes "VARIABLES" ∷ []) p.0) OutsideVariable nowhere) ps)) passed ∙ sym (variable_rules vs))))
      (rules_two (offences_of_declarations (through_each_call a o) a o) (offences_of_reads (through_each_call a o) a) (offences_of_declarations (through_each_call a q) a q) (offences_of_reads (through_each_call a q) a)
      (rules_two (repeated_names a o) (rebind_offences_of a o ++ reserved_declared a o) (repeated_names a q) (rebind_offences_of a q ++ reserved_declared a q)
      (rules_two (repeated (unit_names o) (kept_names a)) _ (repeated (unit_names q) (kept_names a)) _ (ap (λ (ns : List Word). rules (repeated ns (kept_names a))) units) refl)
      (rules_two (rebind_offences_of a o) (reserved_declared a o) (rebind_offences_of a q) (reserved_declared a q) (ap rules (rebinds_alike a)) (reserved_alike a)))
      refl)

outside_alike : (a : Algorithm) (o q : Outside) → SameOutside o q → rules (name_offences a o) ≡ rules (name_offences a q)
outside_alike a o q same =
    outside_names_alike o.extended o.definitions o.constants q.constants o.opaque q.opaque same.constants same.opaque a
    ∙ (λ i. rules (name_offences a (record { extended = same.extended i; constants = q.constants; definitions = same.definitions i; opaque = q.opaque })))

-- ---- both

-- what a list of rules has no member of is offended by nothing
pub none_alike : (xs ys : List Refusal) → rules xs ≡ rules ys → ys ≡ [] → xs ≡ []
none_alike [] ys e none = refl
none_alike (x ∷ xs) ys e none = (let f : x.rule ∷ rules xs ≡ [] = e ∙ ap rules none in absurd cc)

module _ (a c : Algorithm) (same : placeless c ≡ placeless a) where
  pub no_names : (o q : Outside) → SameOutside o q → name_offences a o ≡ [] → name_offences c q ≡ []
  no_names o q outside =
      none_alike (name_offences c q) (name_offences a o)
      (sym (names_bare c q) ∙ ap (λ (b : Algorithm). rules (name_offences b q)) same ∙ names_bare a q ∙ sym (outside_alike a o q outside))

  pub no_labels : label_offences a ≡ [] → label_offences c ≡ []
  no_labels = none_alike (label_offences c) (label_offences a) (sym (label_offences_bare c) ∙ ap (λ (b : Algorithm). rules (label_offences b)) same ∙ label_offences_bare a)

  pub not_too_large : too_large a ≡ [] → too_large c ≡ []
  not_too_large = none_alike (too_large c) (too_large a) (sym (too_large_bare c) ∙ ap (λ (b : Algorithm). rules (too_large b)) same ∙ too_large_bare a)
