-- The parts of an algorithm without its places, list by list.
use Rattle.std.proofs.Common.{◌≡◌, List, [], ◌∷◌, ◌++◌, map, refl, ap, ◌∙◌}
use Rattle.tla_tree.specs.Tree.{words, Form, binding, local, beginnings, seen_names}
use Rattle.tla_tree.specs.laws.Placeless.{name_placeless, names_placeless, form_placeless, tree_placeless}
use Rattle.pcal_tree.specs.Algorithm.{Declaration, Definition, Macro, Procedure, Process, Main, alone, processes}
use Rattle.pcal_tree.specs.OffencesNames.{names_of, process_names}
use Rattle.pcal_tree.specs.Placeless.{statements_placeless, start_placeless, declarations_placeless, definitions_placeless, macros_placeless, procedures_placeless, processes_placeless, main_placeless}
use Rattle.translation.proofs.BareNames.{each_one, each_same, each_joined, words_bare, declarations_joined}

-- ---- parts

abbrev pub declaration_placeless : Declaration → Declaration
declaration_placeless d = record { name = name_placeless d.name; start = start_placeless d.start }

abbrev pub definition_placeless : Definition → Definition
definition_placeless d = record { name = name_placeless d.name; params = names_placeless d.params; body = tree_placeless d.body }

abbrev pub macro_placeless : Macro → Macro
macro_placeless d = record { name = name_placeless d.name; params = names_placeless d.params; body = statements_placeless d.body }

abbrev pub procedure_placeless : Procedure → Procedure
procedure_placeless p = record {
  name = name_placeless p.name;
  params = declarations_placeless p.params;
  variables = declarations_placeless p.variables;
  body = statements_placeless p.body;
}

abbrev pub process_placeless : Process → Process
process_placeless p = record {
  name = name_placeless p.name;
  fairness = p.fairness;
  several = p.several;
  identity = tree_placeless p.identity;
  variables = declarations_placeless p.variables;
  body = statements_placeless p.body;
}

pub declarations_each : (ds : List Declaration) → declarations_placeless ds ≡ map declaration_placeless ds
declarations_each [] = refl
declarations_each (d ∷ ds) = ap (λ es. declaration_placeless d ∷ es) (declarations_each ds)

pub definitions_each : (ds : List Definition) → definitions_placeless ds ≡ map definition_placeless ds
definitions_each [] = refl
definitions_each (d ∷ ds) = ap (λ es. definition_placeless d ∷ es) (definitions_each ds)

pub macros_each : (ds : List Macro) → macros_placeless ds ≡ map macro_placeless ds
macros_each [] = refl
macros_each (d ∷ ds) = ap (λ es. macro_placeless d ∷ es) (macros_each ds)

pub procedures_each : (ps : List Procedure) → procedures_placeless ps ≡ map procedure_placeless ps
procedures_each [] = refl
procedures_each (p ∷ ps) = ap (λ qs. procedure_placeless p ∷ qs) (procedures_each ps)

pub processes_each : (ps : List Process) → processes_placeless ps ≡ map process_placeless ps
processes_each [] = refl
processes_each (p ∷ ps) = ap (λ qs. process_placeless p ∷ qs) (processes_each ps)

-- ---- names

pub seen_bare : (m : Form) → seen_names (form_placeless m) ≡ seen_names m
seen_bare (binding b gs) = λ i. each_same names_placeless (λ xs. []) (λ xs. []) (λ xs. refl) gs i ++ (each_joined names_placeless words words words_bare gs i ∷ [])
seen_bare (local xs) = ap beginnings (words_bare xs)
seen_bare m = refl

pub names_of_bare : (ds : List Declaration) → names_of (declarations_placeless ds) ≡ names_placeless (names_of ds)
names_of_bare [] = refl
names_of_bare (d ∷ ds) = ap (λ ns. name_placeless d.name ∷ ns) (names_of_bare ds)

pub own_names_bare : (ds es : List Declaration) → names_of (declarations_placeless ds ++ declarations_placeless es) ≡ names_placeless (names_of (ds ++ es))
own_names_bare ds es = ap names_of (declarations_joined ds es) ∙ names_of_bare (ds ++ es)

pub process_names_bare : (m : Main) → process_names (main_placeless m) ≡ names_placeless (process_names m)
process_names_bare (alone b) = refl
process_names_bare (processes ps) = ap (map (λ (p : Process). p.name)) (processes_each ps) ∙ each_one process_placeless name_placeless (λ p. p.name) (λ p. p.name) (λ p. refl) ps
