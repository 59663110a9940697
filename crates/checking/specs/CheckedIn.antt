-- An algorithm in memory with which nothing is wrong.
use Rattle.std.specs.Prelude.{◌≡◌, ◌≤◌, ◌++◌, Bool, List, length}
use Rattle.tla_token.specs.declared.rule.Refusal.{Refusal}
use Rattle.tla_tree.specs.Tree.{Tree}
use Rattle.tla_value.specs.Outside.{Outside}
use Rattle.pcal_tree.specs.declared.algorithm.Algorithm.{Algorithm}
use Rattle.pcal_tree.specs.Algorithm as tree
use Rattle.pcal_tree.specs.InMemory.{algorithm_at, past_algorithm}
use Rattle.pcal_tree.specs.Labelled.{labelled}
use Rattle.pcal_tree.specs.Names.{naming}
use Rattle.pcal_tree.specs.OffencesLabels.{label_offences}
use Rattle.pcal_tree.specs.OffencesOfNames.{name_offences}
use Rattle.macro_expand.specs.TooLarge.{too_large}
use Rattle.module_tree.specs.TextFront.{Text}
use Rattle.module_tree.specs.Walk.{walk}
use Rattle.module_tree.specs.laws.Outsides.{HasOutside}
use Rattle.file_answer.specs.Holds.{HoldsTree}
use Rattle.file_answer.specs.Refusals.{or_else}
use Rattle.module_outside.specs.declared.outside.Outside as code
use Rattle.module_outside.specs.FoundAt.{AreHeld}
use Rattle.module_outside.specs.WholeAt.{outside_at}
use Rattle.written_names.specs.Units.{naming_of}
use Rattle.checking.specs.declared.check.Checked.{Checked}

-- all that counts of what is wrong with an algorithm that has its labels, beside what a module has outside, over these trees: its names, and where nothing is
-- wrong with these, its labels and its size
abbrev pub wrong_with : List Tree → Algorithm → code.Outside → List Refusal
wrong_with ts a o = or_else (name_offences (algorithm_at ts a) (outside_at ts o)) (label_offences (algorithm_at ts a) ++ too_large (algorithm_at ts a))

-- it is the algorithm of the file x with labels added, over these trees, with the names that it is written with, and with what the file has outside
pub record IsLabelled (forced : Bool) (x : Text) (ts : List Tree) (c : Checked) : Type 0 where
  pub tree : tree.Algorithm
  pub holds : HoldsTree x tree
  pub outside : Outside
  pub has : HasOutside (walk x) outside
  pub algorithm : algorithm_at ts c.algorithm ≡ labelled forced tree
  pub past : past_algorithm c.algorithm ≤ length ts
  pub names : naming_of c.naming ≡ naming (labelled forced tree) outside
  pub is_outside : outside_at ts c.outside ≡ outside
  pub held : AreHeld (length ts) c.outside.definitions.items
