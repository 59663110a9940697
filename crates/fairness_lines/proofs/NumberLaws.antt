-- The numbers of the names that statements call.
use Rattle.std.proofs.Common.{ℕ, List, [], refl}
use Rattle.std.proofs.lemmas.List.Concat.{flat_map-append}
use Rattle.tla_tree.specs.Tree.{Name, Word}
use Rattle.pcal_tree.specs.declared.mark.Mark.{Mark}
use Rattle.pcal_tree.specs.Algorithm.{Statement, Statements, Branches}
use Rattle.fairness.specs.ReachedProcedures.{calls_in, calls, calls_some}
use Rattle.fairness_lines.specs.Numbers.{number_in, numbers_in}
use Rattle.marked_labels.proofs.Walks.{IsWalk}

module _ (order : List Word) where
  abbrev pub numbers : Statements → List ℕ
  numbers b = numbers_in order (calls b)

  abbrev pub numbers_some : Branches → List ℕ
  numbers_some bs = numbers_in order (calls_some bs)

  abbrev pub numbers_inside : Statement → List ℕ
  numbers_inside st = numbers_in order (calls_in st)

  abbrev pub numbers_here : Name → Mark → List ℕ
  numbers_here l k = []

  pub numbers_walk : IsWalk numbers numbers_some numbers_inside numbers_here
  numbers_walk = record {
    of_none = refl;
    of_label = λ l k rest. refl;
    of_one = λ p st rest. flat_map-append (number_in order) (calls_in st) (calls rest);
    of_if = λ e a b. flat_map-append (number_in order) (calls a) (calls b);
    of_either = λ bs. refl;
    of_with = λ bs b. refl;
    of_while = λ e b. refl;
    of_no_branch = refl;
    of_branch = λ b bs. flat_map-append (number_in order) (calls b) (calls_some bs);
  }
