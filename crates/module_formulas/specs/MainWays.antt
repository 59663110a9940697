-- The disjuncts of Next, in parts ("A PlusCal User's Manual", section 3.3, processes).
use Rattle.std.specs.Prelude.{ℕ, List, [], ◌∷◌, ◌++◌, map, Bool, false, cond, codes}
use Rattle.tla_token.specs.Places.{nowhere}
use Rattle.tla_tree.specs.Tree.{Tree}
use Rattle.module_tree.specs.Module.{Way, call, one_way}
use Rattle.pcal_tree.specs.declared.algorithm.Main.{Main}
use Rattle.pcal_tree.specs.declared.algorithm.Main.TheVariants as main
use Rattle.pcal_tree.specs.Algorithm.{Routine, Statements, numbered, first_procedure}
use Rattle.pcal_tree.specs.InMemory.{statements_at, process_at}
use Rattle.pcal_tree.specs.OffencesLabels.{label_words}
use Rattle.pcal_tree.specs.Takers.{Takers, lone, taken_process}
use Rattle.pcal_tree.specs.Program.{Program}
use Rattle.action_builder.specs.NextFormula.{own_way, main_ways}
use Rattle.module_formulas.specs.TakersIn.{taken, taken_procedure}
use Rattle.module_formulas.specs.LabelWays.{label_way}

-- the one body, with nothing but its number and its statements
abbrev pub body_routine : ℕ → Statements → Routine
body_routine n ss = record { number = n; name = record { word = []; place = nowhere }; params = []; variables = []; spread = false; body = ss; exit = codes "Done" }

-- of what runs, in memory, of which the first has the number n
abbrev pub main_ways_at : Program → ℕ → List Tree → Main → List Way
main_ways_at P n ts (main.Alone ss) = map (label_way P (taken lone (body_routine n (statements_at ts ss.items)))) (label_words (statements_at ts ss.items))
main_ways_at P n ts (main.Processes ps) = map (own_way P) (numbered taken_process n (map (process_at ts) ps.items))

-- all, where those take the steps of procedures
abbrev pub ways_of : Bool → Program → Takers → List Way
ways_of no_terminating P t =
    map (own_way P) (numbered (taken_procedure t) (first_procedure P.algorithm) P.algorithm.procedures)
    ++ (main_ways P P.algorithm.main ++ cond no_terminating [] (one_way (call (codes "Terminating")) ∷ []))
