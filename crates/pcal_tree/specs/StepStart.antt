-- Where a step begins: the statements after a label, and the exit of their sequence ("A PlusCal User's Manual", section 3.7, labels).
use Rattle.std.specs.Prelude.{cond, bytes_eq, Option, Some, None}
use Rattle.tla_tree.specs.Tree.{Word}
use Rattle.pcal_tree.specs.Algorithm.{Statement, branch, either, with, while, Statements, done, then, mark, Branches, no_branches, or, Routine}
use Rattle.pcal_tree.specs.Run.{unlabelled, label_of}
use Rattle.std.specs.Option.{option_or}

pub record Begin : Type 0 where
  pub items : Statements
  pub exit : Word

-- The list after the label l. `here` is the label at which the statement or list is, and x the exit: of a branch it is the label of what
-- follows the branching statement, or the exit of that one's list; of a loop's body it is the loop's label.
abbrev mutual
  pub begin_in : Word → Word → Statement → Word → Option Begin
  begin_in l here (branch e a b) x = option_or (begin l unlabelled a x) (begin l unlabelled b x)
  begin_in l here (either bs) x = begin_some l bs x
  begin_in l here (with bs b) x = begin l unlabelled b x
  begin_in l here (while e b) x = begin l unlabelled b here
  begin_in l here _ x = None

  pub begin : Word → Word → Statements → Word → Option Begin
  begin l here done x = None
  begin l here (then at st rest) x = option_or (begin_in l here st (label_of rest x)) (begin l unlabelled rest x)
  begin l here (mark m k rest) x = cond (bytes_eq l m.word) (Some (record { items = rest; exit = x })) (begin l m.word rest x)

  pub begin_some : Word → Branches → Word → Option Begin
  begin_some l no_branches x = None
  begin_some l (or b bs) x = option_or (begin l unlabelled b x) (begin_some l bs x)

-- where a step at the label begins in a routine
abbrev pub at_label : Routine → Word → Option Begin
at_label u l = begin l unlabelled u.body u.exit
