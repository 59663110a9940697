-- The names of the variables of procedures and processes in memory, in the order of the text.
use Rattle.std.specs.Prelude.{List, [], ◌++◌}
use Rattle.std.specs.List.{flat_map}
use Rattle.tla_tree.specs.Tree.{Word}
use Rattle.pcal_tree.specs.declared.algorithm.Procedure.{Procedure}
use Rattle.pcal_tree.specs.declared.algorithm.Process.{Process}
use Rattle.pcal_tree.specs.declared.algorithm.Main.{Main}
use Rattle.pcal_tree.specs.declared.algorithm.Main.TheVariants as main
use Rattle.pcal_tree.specs.declared.algorithm.Algorithm.{Algorithm}
use Rattle.pcal_tree.specs.Algorithm as tree
use Rattle.tla_token.specs.declared.rule.Refusal.{Refusal}
use Rattle.pcal_tree.specs.Variables.{declared}
use Rattle.read_rules.specs.Levels.{Levels}
use Rattle.read_rules.specs.EarlyReads.{local_lists, variables_of, early_in, early_in_locals}
use Rattle.read_rules.specs.NumbersIn.{declared_in}

abbrev pub procedure_words : Procedure → List Word
procedure_words p = declared_in p.params.items ++ declared_in p.variables.items

abbrev pub process_words : Process → List Word
process_words p = declared_in p.variables.items

abbrev pub main_words : Main → List Word
main_words (main.Alone ss) = []
main_words (main.Processes ps) = flat_map process_words ps.items

abbrev pub algorithm_words : Algorithm → List Word
algorithm_words a = declared_in a.globals.items ++ (flat_map procedure_words a.procedures.items ++ main_words a.main)

-- the declarations of a procedure, and of a process
abbrev pub procedure_list : tree.Procedure → List tree.Declaration
procedure_list p = p.params ++ p.variables

abbrev pub process_list : tree.Process → List tree.Declaration
process_list p = p.variables

-- the offences of the order of initial values, where definitions have these levels
abbrev pub order_by : Levels → tree.Algorithm → List Refusal
order_by ls a = early_in (variables_of a) ls [] 0 a.globals ++ flat_map (early_in_locals (variables_of a) (declared a.globals)) (local_lists a)
