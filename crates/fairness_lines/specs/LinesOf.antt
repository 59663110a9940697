-- The formulas of fairness and the obligations of what is demanded, by numbers of routines and written names of labels.
use Rattle.std.specs.Prelude.{ℕ, List, ◌∷◌, [], Bool, true, false, cond, nat_eq, codes, Some, None}
use Rattle.std.specs.List.{flat_map}
use Rattle.tla_tree.specs.Tree.{Word, Tree}
use Rattle.module_tree.specs.Module.{Call, call, call_with, Fairness}
use Rattle.module_tree.specs.Formulas.{named, at}
use Rattle.pcal_tree.specs.Algorithm.{Statements, Routine, Naming}
use Rattle.pcal_tree.specs.Takers.{Takers}
use Rattle.pcal_tree.specs.Variables.{pc}
use Rattle.action_builder.specs.LabelActions.{call_by}
use Rattle.fairness.specs.Obligations.{Obligation}
use Rattle.fairness.specs.FairnessLines.{identifier_of, over_of, guard_of}
use Rattle.marked_labels.specs.declared.labels.Wanted.TheVariants.{All, LeftOut, Kept}
use Rattle.fairness_lines.specs.declared.obligations.Obligation as code
use Rattle.marked_labels.specs.Wanted.{labels_of}
use Rattle.fairness_lines.specs.Asked.{Asked, of_all, of_routine, of_label}

-- of a process whose number is k, an action of the routine with the number n
abbrev pub call_of : Takers → ℕ → ℕ → Word → Call
call_of t k n a = cond (nat_eq k n) (call_by t a) (call_with a (identifier_of t))

abbrev pub position_of : Takers → Tree
position_of t = at (named pc) (identifier_of t)

abbrev pub routine_line : Naming → Takers → ℕ → Bool → ℕ → Statements → Fairness
routine_line f t k strong n b = record { over = over_of t; strong = strong; guard = guard_of t (labels_of f n LeftOut b); action = call_of t k n (f.title n) }

abbrev pub label_line : Takers → ℕ → ℕ → Word → Fairness
label_line t k n l = record { over = over_of t; strong = true; guard = None; action = call_of t k n l }

abbrev pub next_line : Fairness
next_line = record { over = None; strong = false; guard = None; action = call (codes "Next") }

abbrev pub line_for : Naming → Asked → Fairness
line_for f of_all = next_line
line_for f (of_routine t k strong n b) = routine_line f t k strong n b
line_for f (of_label t k n l) = label_line t k n l

-- where these are the written names of all labels
abbrev pub obligation_for : Naming → List Word → Asked → Obligation
obligation_for f every of_all = record { strong = false; process = None; labels = every }
obligation_for f every (of_routine t k strong n b) = record { strong = strong; process = Some k; labels = labels_of f n Kept b }
obligation_for f every (of_label t k n l) = record { strong = true; process = Some k; labels = l ∷ [] }

-- the written names of all labels of these routines
abbrev pub every_in : Naming → List Routine → List Word
every_in f us = flat_map (λ u. labels_of f u.number All u.body) us

abbrev pub obligation_seen : code.Obligation → Obligation
obligation_seen o = record { strong = o.strong; process = o.process; labels = o.labels }
