-- Whether a variable is declared without a first value ("A PlusCal User's Manual", section 4, on defaultInitValue).
use Rattle.std.specs.Prelude.{List, ◌++◌, Bool, false}
use Rattle.std.specs.List.{list_any, flat_map}
use Rattle.tla_tree.specs.Tree.{Tree}
use Rattle.pcal_tree.specs.declared.algorithm.Procedure.{Procedure}
use Rattle.pcal_tree.specs.declared.algorithm.Process.{Process}
use Rattle.pcal_tree.specs.declared.algorithm.Main.{Main}
use Rattle.pcal_tree.specs.declared.algorithm.Main.TheVariants as main
use Rattle.pcal_tree.specs.Algorithm.{Declaration}
use Rattle.pcal_tree.specs.InMemory.{declarations_at}
use Rattle.action_builder.specs.ModelValues.{is_unset}

abbrev pub some_unset : List Declaration → Bool
some_unset ds = list_any (λ d. is_unset d.start) ds

-- the parameters and variables of a routine in memory
abbrev pub procedure_declarations : List Tree → Procedure → List Declaration
procedure_declarations ts p = declarations_at ts p.params.items ++ declarations_at ts p.variables.items

abbrev pub process_declarations : List Tree → Process → List Declaration
process_declarations ts p = declarations_at ts p.variables.items

-- of what runs; the one body has no variables
abbrev pub main_unset : List Tree → Main → Bool
main_unset ts (main.Alone ss) = false
main_unset ts (main.Processes ps) = some_unset (flat_map (process_declarations ts) ps.items)
