-- Names that the translation or a standard module has, where they are declared or bound ("A PlusCal User's Manual", appendix A and section 4).
use Rattle.std.specs.Prelude.{List, [], ◌∷◌, ◌++◌, ◌||◌, codes}
use Rattle.std.specs.List.{flat_map}
use Rattle.tla_token.specs.declared.rule.Rule.TheVariants.{Reserved}
use Rattle.tla_token.specs.declared.rule.Refusal.{Refusal}
use Rattle.tla_token.specs.Signs.{is_among}
use Rattle.tla_token.specs.Words.{is_own, is_standard}
use Rattle.tla_tree.specs.Tree.{Name}
use Rattle.pcal_tree.specs.Algorithm.{Definition, Macro, Procedure, Process, Main, alone, processes, Algorithm}
use Rattle.pcal_tree.specs.BoundNames.{all_of, bound_lists}
use Rattle.pcal_tree.specs.Offences.{offence_if}
use Rattle.pcal_tree.specs.OffencesLabels.{Label, all_labels}
use Rattle.pcal_tree.specs.OffencesNames.{names_of}
use Rattle.tla_value.specs.Outside.{Outside, Opaque, ReadDefinition}

-- ---- declared names

abbrev pub names_of_definition : Definition → List Name
names_of_definition d = d.name ∷ d.params

abbrev pub names_of_macro : Macro → List Name
names_of_macro d = d.name ∷ d.params

abbrev pub names_of_procedure : Procedure → List Name
names_of_procedure p = p.name ∷ names_of (p.params ++ p.variables)

abbrev pub names_of_process : Process → List Name
names_of_process p = p.name ∷ names_of p.variables

abbrev pub names_of_main : Main → List Name
names_of_main (alone b) = []
names_of_main (processes ps) = flat_map names_of_process ps

-- all that an algorithm declares, and all names that it binds
abbrev pub declared_names : Algorithm → List Name
declared_names a =
    names_of a.globals
    ++ (flat_map names_of_definition a.definitions
    ++ (flat_map names_of_macro a.macros
    ++ (flat_map names_of_procedure a.procedures ++ (names_of_main a.main ++ all_of (bound_lists a)))))

-- ---- offences

abbrev pub reserved_name : Outside → Name → List Refusal
reserved_name o n = offence_if (is_own n.word || is_standard o.extended n.word) Reserved n.place

abbrev pub reserved_label : Label → List Refusal
reserved_label l = offence_if (is_among (codes "Done" ∷ codes "Error" ∷ []) l.name.word) Reserved l.name.place

abbrev pub reserved_read : Outside → ReadDefinition → List Refusal
reserved_read o d = reserved_name o (record { word = d.definition.title; place = d.place })

-- a unit that was not read may have a standard name
abbrev pub reserved_opaque : Opaque → List Refusal
reserved_opaque u = flat_map (λ w. offence_if (is_own w) Reserved u.place) u.names

abbrev pub reserved_outside : Outside → List Refusal
reserved_outside o = flat_map (reserved_name o) o.constants ++ (flat_map (reserved_read o) o.definitions ++ flat_map reserved_opaque o.opaque)

abbrev pub reserved_declared : Algorithm → Outside → List Refusal
reserved_declared a o = reserved_outside o ++ (flat_map (reserved_name o) (declared_names a) ++ flat_map reserved_label (all_labels a))
