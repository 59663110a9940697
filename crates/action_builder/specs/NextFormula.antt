-- Terminating and the disjuncts of Next ("A PlusCal User's Manual", sections 3.3 and 4; "Specifying Systems", section 2.3).
use Rattle.std.specs.Prelude.{List, [], ◌∷◌, ◌++◌, map, flat_map, Bool, cond, codes, Option, Some, None}
use Rattle.tla_tree.specs.Tree.{Tree}
use Rattle.module_tree.specs.Module.{call, Way, one_way, some_way}
use Rattle.module_tree.specs.Formulas.{self, named, quoted, process_set, equal, at, for_all_self}
use Rattle.pcal_tree.specs.Algorithm.{Main, alone, processes}
use Rattle.pcal_tree.specs.OffencesLabels.{label_words}
use Rattle.pcal_tree.specs.Takers.{Takers, each_of, Taken, taken_main}
use Rattle.pcal_tree.specs.Program.{Program}
use Rattle.pcal_tree.specs.Calls.{label_name}
use Rattle.pcal_tree.specs.Variables.{pc}
use Rattle.action_builder.specs.LabelActions.{taken_procedures, call_by, title_of}

-- pc = "Done", of all processes
abbrev pub all_done : Main → Tree
all_done (alone ss) = equal (named pc) (quoted (codes "Done"))
all_done (processes ps) = for_all_self process_set (equal (at (named pc) (named self)) (quoted (codes "Done")))

-- the test of Terminating, which is not there with the option `--no-terminating`
abbrev pub ended : Bool → Main → Option Tree
ended no_terminating m = cond no_terminating None (Some (all_done m))

-- \E self \in S : Q(self), or Q
abbrev pub way_by : Program → Taken → Takers → Way
way_by P t (each_of s) = some_way self s (call_by t.takers (title_of P t))
way_by P t _ = one_way (call_by t.takers (title_of P t))

abbrev pub own_way : Program → Taken → Way
own_way P t = way_by P t t.takers

abbrev pub label_ways : Program → Taken → List Way
label_ways P t = map (λ l. one_way (call_by t.takers (label_name P t.routine l))) (label_words t.routine.body)

-- each label of the one body
abbrev pub main_ways : Program → Main → List Way
main_ways P (alone ss) = flat_map (label_ways P) (taken_main P.algorithm (alone ss))
main_ways P (processes ps) = map (own_way P) (taken_main P.algorithm (processes ps))

abbrev pub next : Bool → Program → List Way
next no_terminating P =
    map (own_way P) (taken_procedures P.algorithm)
    ++ (main_ways P P.algorithm.main ++ cond no_terminating [] (one_way (call (codes "Terminating")) ∷ []))
