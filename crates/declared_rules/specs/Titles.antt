-- Offences of what is outside, and of titles among others.
use Rattle.std.specs.Prelude.{List, [], ◌∷◌, ◌++◌, map, codes}
use Rattle.std.specs.List.{flat_map}
use Rattle.tla_token.specs.declared.place.Place.{Place}
use Rattle.tla_token.specs.declared.rule.Rule.TheVariants.{Reserved, OutsideVariable}
use Rattle.tla_token.specs.declared.rule.Refusal.{Refusal}
use Rattle.tla_token.specs.Signs.{is_among}
use Rattle.tla_token.specs.Words.{is_own}
use Rattle.tla_tree.specs.Tree.{Name, Word}
use Rattle.tla_value.specs.Outside.{Opaque}
use Rattle.tla_value.specs.Outside as pure
use Rattle.pcal_tree.specs.declared.algorithm.Definition.{Definition}
use Rattle.pcal_tree.specs.declared.algorithm.Macro.{Macro}
use Rattle.pcal_tree.specs.declared.algorithm.Procedure.{Procedure}
use Rattle.pcal_tree.specs.declared.algorithm.Process.{Process}
use Rattle.pcal_tree.specs.declared.algorithm.Main as code_main
use Rattle.pcal_tree.specs.declared.algorithm.Main.TheVariants as main
use Rattle.pcal_tree.specs.declared.algorithm.Algorithm.{Algorithm}
use Rattle.pcal_tree.specs.Offences.{offence_if}
use Rattle.module_outside.specs.declared.modules.Modules.{Modules}
use Rattle.module_outside.specs.declared.definition.ReadDefinition.{ReadDefinition}
use Rattle.declared_rules.specs.Parts.{Part, declares, declaration_names}
use Rattle.declared_rules.specs.Finding.{reserved_in, seen_offences}

-- ---- outside

abbrev pub passed_offences : Place → Word → List Refusal
passed_offences p w = offence_if (is_own w) Reserved p

abbrev pub unit_offences : Opaque → List Refusal
unit_offences u = flat_map (passed_offences u.place) u.names ++ offence_if (is_among (codes "VARIABLE" ∷ codes "VARIABLES" ∷ []) u.keyword) OutsideVariable u.place

abbrev pub constant_parts : Name → List Part
constant_parts n = declares n ∷ []

abbrev pub read_parts : ReadDefinition → List Part
read_parts d = declares d.title ∷ []

abbrev pub pure_title : pure.ReadDefinition → Name
pure_title d = record { word = d.definition.title; place = d.place }

-- constants, definitions and units that are passed on
abbrev pub outside_offences : Modules → pure.Outside → List Refusal
outside_offences m o = flat_map (reserved_in m) o.constants ++ (flat_map (λ d. reserved_in m (pure_title d)) o.definitions ++ flat_map unit_offences o.opaque)

-- ---- titles

abbrev pub defined_names : List Definition → List Name
defined_names ds = map (λ (d : Definition). d.name) ds

abbrev pub macro_names : List Macro → List Name
macro_names ds = map (λ (d : Macro). d.name) ds

abbrev pub procedure_names : List Procedure → List Name
procedure_names ps = map (λ (p : Procedure). p.name) ps

abbrev pub process_names : List Process → List Name
process_names ps = map (λ (p : Process). p.name) ps

abbrev pub main_names : code_main.Main → List Name
main_names (main.Alone ss) = []
main_names (main.Processes ps) = process_names ps.items

abbrev pub kept_titles : Algorithm → List Name
kept_titles a = declaration_names a.globals.items ++ defined_names a.definitions.items

abbrev pub other_titles : Algorithm → List Name
other_titles a = macro_names a.macros.items ++ (procedure_names a.procedures.items ++ main_names a.main)

-- each among those before it, and the first ones among these words too
abbrev pub title_offences : Modules → List Word → List Name → List Name → List Refusal
title_offences m ws kept others = seen_offences m [] (kept ++ others) ++ seen_offences m ws kept
