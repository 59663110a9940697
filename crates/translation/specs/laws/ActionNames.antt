-- The written names of what has an action: each label, and after a procedure's or process's labels itself.
use Rattle.std.specs.Prelude.{List, [], ◌∷◌, ◌++◌, map, flat_map}
use Rattle.tla_tree.specs.Tree.{Word}
use Rattle.pcal_tree.specs.Algorithm.{Main, alone, processes, Routine, procedure_routines, main_routines}
use Rattle.pcal_tree.specs.OffencesLabels.{label_words}
use Rattle.pcal_tree.specs.Program.{Program}
use Rattle.pcal_tree.specs.Calls.{label_name}

abbrev pub label_names : Program → Routine → List Word
label_names P u = map (label_name P u) (label_words u.body)

abbrev pub routine_names : Program → Routine → List Word
routine_names P u = label_names P u ++ P.naming.title u.number ∷ []

-- the one body has no action of its own
abbrev pub main_names : Program → Main → List Word
main_names P (alone ss) = flat_map (label_names P) (main_routines P.algorithm (alone ss))
main_names P (processes ps) = flat_map (routine_names P) (main_routines P.algorithm (processes ps))

-- in the order of the text
abbrev pub action_names : Program → List Word
action_names P = flat_map (routine_names P) (procedure_routines P.algorithm) ++ main_names P P.algorithm.main
