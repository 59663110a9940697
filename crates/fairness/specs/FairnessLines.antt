-- The formulas of fairness in Spec, one for each obligation ("Specifying Systems", section 8.9; "A PlusCal User's Manual", section 3.7).
use Rattle.std.specs.Prelude.{List, [], ◌∷◌, map, nat_eq, true, false, cond, codes, Option, Some, None}
use Rattle.tla_tree.specs.Tree.{Word, Tree}
use Rattle.module_tree.specs.Module.{Call, call, call_with, Fairness}
use Rattle.module_tree.specs.Formulas.{self, named, quoted, at, is_in, set}
use Rattle.pcal_tree.specs.Algorithm.{Routine}
use Rattle.pcal_tree.specs.Takers.{Takers, each_of, single, Taken}
use Rattle.pcal_tree.specs.Program.{Program}
use Rattle.pcal_tree.specs.Calls.{label_name}
use Rattle.pcal_tree.specs.Variables.{pc}
use Rattle.action_builder.specs.LabelActions.{call_by}
use Rattle.fairness.specs.MarkedLabels.{left_out_labels}
use Rattle.fairness.specs.Demands.{Demand, all_steps, routine_steps, label_steps, demands}
use Rattle.fairness.specs.Obligations.{written_labels}

-- `self`, or the expression of a single process
abbrev pub identifier_of : Takers → Tree
identifier_of (single e) = e
identifier_of _ = named self

-- \A self \in S, for a process set
abbrev pub over_of : Takers → Option (Word × Tree)
over_of (each_of s) = Some (self, s)
over_of _ = None

-- the call of an action, of the process's own or of a procedure
abbrev pub action_call : Taken → Routine → Word → Call
action_call t u a = cond (nat_eq t.routine.number u.number) (call_by t.takers a) (call_with a (identifier_of t.takers))

-- pc[self] \notin {"L"}, where labels are left out
abbrev pub guard_of : Takers → List Word → Option Tree
guard_of t [] = None
guard_of t (l ∷ ls) = Some (is_in false (at (named pc) (identifier_of t)) (set (map quoted (l ∷ ls))))

abbrev pub line_of : Program → Demand → Fairness
line_of P all_steps = record { over = None; strong = false; guard = None; action = call (codes "Next") }
line_of P (routine_steps t strong u) = record {
  over = over_of t.takers;
  strong = strong;
  guard = guard_of t.takers (written_labels P u (left_out_labels u.body));
  action = action_call t u (P.naming.title u.number);
}
line_of P (label_steps t u l) = record { over = over_of t.takers; strong = true; guard = None; action = action_call t u (label_name P u l) }

-- what follows `Init` and `[][Next]_vars`
abbrev pub fairness_lines : Program → List Fairness
fairness_lines P = map (line_of P) (demands P.algorithm)
