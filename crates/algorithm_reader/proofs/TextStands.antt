-- What was read part by part, as the pool grew, stands for the algorithm that is spelled.
use Rattle.std.proofs.Common.{◌≡◌, List, map, ◌∙◌, arith}
use Rattle.tla_tree.specs.Tree.{Tree}
use Rattle.tla_tree.specs.Pool.{Keeps}
use Rattle.tla_tree.proofs.PoolNumbers.{Keeps-then}
use Rattle.pcal_tree.specs.declared.algorithm.Algorithm as code_algorithm
use Rattle.pcal_tree.specs.InMemory.{macro_at, past_macro, procedure_at, past_procedure, main_at, past_main, algorithm_at, past_algorithm}
use Rattle.pcal_tree.proofs.InMemoryGrown.{declarations_at-kept, definitions_at-kept, each_kept}
use Rattle.pcal_tree.specs.GrammarParts.{declared}
use Rattle.pcal_tree.specs.Grammar.{is_fair, defined, macro_tree, procedure_tree, main_tree, Text, algorithm_of}
use Rattle.algorithm_reader.specs.PartsRead.{StandsFor, all_declared_at, past_all_declared, all_defined_at, past_all_defined}
use Rattle.algorithm_reader.specs.RoutinesRead.{macros_at, past_macros, procedures_at, past_procedures}
use Rattle.algorithm_reader.proofs.Grown.{macros_stay, procedures_stay}

-- the pools are those behind the variables, `define`, the macros, the procedures and what runs
pub text_stands : (ps qs rs ss ts : List Tree) (a : code_algorithm.Algorithm) (x : Text) → Keeps ps qs → Keeps qs rs → Keeps rs ss → Keeps ss ts → a.name ≡ x.name → a.fair ≡ is_fair x.head
    → StandsFor all_declared_at past_all_declared declared ps a.globals x.variables → StandsFor all_defined_at past_all_defined defined qs a.definitions x.define → StandsFor macros_at past_macros (map macro_tree) rs a.macros x.macros
    → StandsFor procedures_at past_procedures (map procedure_tree) ss a.procedures x.procedures → StandsFor main_at past_main main_tree ts a.main x.main → StandsFor algorithm_at past_algorithm algorithm_of ts a x
text_stands ps qs rs ss ts a x g h i j named fairly globals definitions macros procedures runs =
    let from_macros = Keeps-then rs ss ts i j in
    let from_define = Keeps-then qs rs ts h from_macros in
    let from_start = Keeps-then ps qs ts g from_define in
    let in_globals = globals.below in
    let in_definitions = definitions.below in
    let in_macros = macros.below in
    let in_procedures = procedures.below in
    let in_main = runs.below in
    let same_globals = declarations_at-kept ps ts from_start a.globals.items in_globals ∙ globals.tree in
    let same_definitions = definitions_at-kept qs ts from_define a.definitions.items in_definitions ∙ definitions.tree in
    let same_macros = each_kept rs ts from_macros (macro_at ts) (macro_at rs) past_macro (macros_stay rs ts from_macros) a.macros.items in_macros ∙ macros.tree in
    let same_procedures = each_kept ss ts j (procedure_at ts) (procedure_at ss) past_procedure (procedures_stay ss ts j) a.procedures.items in_procedures ∙ procedures.tree in
    record {
      below = omega (arith, in_globals, in_definitions, in_macros, in_procedures, in_main, from_start.longer, from_define.longer, from_macros.longer, j.longer);
      tree = λ z. record { name = named z; fair = fairly z; globals = same_globals z; definitions = same_definitions z; macros = same_macros z; procedures = same_procedures z; main = runs.tree z };
    }
