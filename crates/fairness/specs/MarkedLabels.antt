-- The labels of a body with their marks, in the order of the text ("A PlusCal User's Manual", section 3.7, fairness).
use Rattle.std.specs.Prelude.{List, [], ◌∷◌, ◌++◌, flat_map}
use Rattle.tla_tree.specs.Tree.{Word}
use Rattle.pcal_tree.specs.declared.mark.Mark.{Mark}
use Rattle.pcal_tree.specs.declared.mark.Mark.TheVariants.{Strong, LeftOut}
use Rattle.pcal_tree.specs.Algorithm.{Statement, branch, either, with, while, Statements, done, then, mark, Branches, no_branches, or}

pub record Marked : Type 0 where
  pub label : Word
  pub mark : Mark

abbrev mutual
  pub marked_in : Statement → List Marked
  marked_in (branch e a b) = marked a ++ marked b
  marked_in (either bs) = marked_some bs
  marked_in (with bs b) = marked b
  marked_in (while e b) = marked b
  marked_in _ = []

  pub marked : Statements → List Marked
  marked done = []
  marked (then at st rest) = marked_in st ++ marked rest
  marked (mark l k rest) = record { label = l.word; mark = k } ∷ marked rest

  pub marked_some : Branches → List Marked
  marked_some no_branches = []
  marked_some (or b bs) = marked b ++ marked_some bs

-- those that are left out, by `:-`; those that aren't; and those with strong fairness of their own, by `:+`
abbrev pub if_left_out : Word → Mark → List Word
if_left_out l LeftOut = l ∷ []
if_left_out l _ = []

abbrev pub unless_left_out : Word → Mark → List Word
unless_left_out l LeftOut = []
unless_left_out l _ = l ∷ []

abbrev pub if_strong : Word → Mark → List Word
if_strong l Strong = l ∷ []
if_strong l _ = []

abbrev pub left_out_labels : Statements → List Word
left_out_labels b = flat_map (λ m. if_left_out m.label m.mark) (marked b)

abbrev pub kept_labels : Statements → List Word
kept_labels b = flat_map (λ m. unless_left_out m.label m.mark) (marked b)

abbrev pub strong_labels : Statements → List Word
strong_labels b = flat_map (λ m. if_strong m.label m.mark) (marked b)
