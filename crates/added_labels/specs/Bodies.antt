-- Bodies and algorithms with labels put in where it was decided.
use Rattle.std.specs.Prelude.{List, [], ◌∷◌, Some, None, reverse}
use Rattle.tla_token.specs.declared.rule.Rule.TheVariants.{FirstLabel}
use Rattle.tla_tree.specs.Tree.{Word, Trees}
use Rattle.pcal_tree.specs.Algorithm.{Statements, Macro, Procedure, Process, Main, alone, processes, Algorithm}
use Rattle.pcal_tree.specs.Paths.{Effect, Effects, nothing}
use Rattle.pcal_tree.specs.OffencesSteps.{Before, at_first, procedure_effects, outer_effects}
use Rattle.pcal_tree.specs.Labelled.{Supply, typed_labels}
use Rattle.placed_labels.specs.Placed.{Plan, past, placed}
use Rattle.added_labels.specs.Decided.{chosen}

-- ---- bodies

abbrev pub plan_of : Effects → Before → Supply → Statements → Plan
plan_of E p s b = record { wanted = chosen E p b []; names = s }

abbrev pub body_with : Effects → Before → Supply → Statements → Statements
body_with E p s b = placed (plan_of E p s b) b

abbrev pub names_past : Effects → Before → Supply → Statements → Supply
names_past E p s b = (past (plan_of E p s b) b).names

abbrev pub macro_with : Supply → Macro → Macro
macro_with s d = record { name = d.name; params = d.params; body = body_with (λ st. nothing) (at_first None) s d.body }

abbrev pub past_macro : Supply → Macro → Supply
past_macro s d = names_past (λ st. nothing) (at_first None) s d.body

abbrev pub procedure_with : (Word → Trees → Effect) → Supply → Procedure → Procedure
procedure_with C s p = record {
  name = p.name;
  params = p.params;
  variables = p.variables;
  body = body_with (procedure_effects C p) (at_first (Some FirstLabel)) s p.body;
}

abbrev pub past_procedure : (Word → Trees → Effect) → Supply → Procedure → Supply
past_procedure C s p = names_past (procedure_effects C p) (at_first (Some FirstLabel)) s p.body

abbrev pub process_with : (Word → Trees → Effect) → Supply → Process → Process
process_with C s p = record {
  name = p.name;
  fairness = p.fairness;
  several = p.several;
  identity = p.identity;
  variables = p.variables;
  body = body_with (outer_effects C) (at_first (Some FirstLabel)) s p.body;
}

abbrev pub past_process : (Word → Trees → Effect) → Supply → Process → Supply
past_process C s p = names_past (outer_effects C) (at_first (Some FirstLabel)) s p.body

-- ---- algorithms

-- one after the other, each with the names that those before it leave
abbrev pub each_with : {X : Type 0} → (Supply → X → X) → (Supply → X → Supply) → Supply → List X → List X
each_with f g s [] = []
each_with f g s (x ∷ xs) = f s x ∷ each_with f g (g s x) xs

abbrev pub past_each : {X : Type 0} → (Supply → X → Supply) → Supply → List X → Supply
past_each g s [] = s
past_each g s (x ∷ xs) = past_each g (g s x) xs

abbrev pub macros_with : Supply → List Macro → List Macro
macros_with = each_with macro_with past_macro

abbrev pub past_macros : Supply → List Macro → Supply
past_macros = past_each past_macro

abbrev pub procedures_with : (Word → Trees → Effect) → Supply → List Procedure → List Procedure
procedures_with C = each_with (procedure_with C) (past_procedure C)

abbrev pub past_procedures : (Word → Trees → Effect) → Supply → List Procedure → Supply
past_procedures C = past_each (past_procedure C)

abbrev pub main_with : (Word → Trees → Effect) → Supply → Main → Main
main_with C s (alone b) = alone (body_with (outer_effects C) (at_first (Some FirstLabel)) s b)
main_with C s (processes ps) = processes (each_with (process_with C) (past_process C) s ps)

-- where calls of macros assign what C says, and these macros have been given their labels
abbrev pub routines_with : (Word → Trees → Effect) → Supply → List Macro → Algorithm → Algorithm
routines_with C s ms a = record {
  name = a.name;
  fair = a.fair;
  globals = a.globals;
  definitions = a.definitions;
  macros = ms;
  procedures = procedures_with C s a.procedures;
  main = main_with C (past_procedures C s a.procedures) a.main;
}

abbrev pub all_with : (List Macro → Word → Trees → Effect) → Supply → Algorithm → Algorithm
all_with F s a = routines_with (F (reverse (macros_with s a.macros))) (past_macros s a.macros) (macros_with s a.macros) a

-- all the names that are not typed
abbrev pub all_names : Word → Algorithm → Supply
all_names root a = record { root = root; typed = typed_labels a; from = 1 }
