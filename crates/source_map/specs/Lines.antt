-- Where each label of an algorithm is, and where what is done from it ends in the text ("A PlusCal User's Manual", section 3.7, labels).
use Rattle.std.specs.Prelude.{ℕ, List, [], ◌∷◌, ◌++◌, codes}
use Rattle.std.specs.List.{flat_map}
use Rattle.std.specs.Fmt.{decimal}
use Rattle.tla_token.specs.declared.place.Place.{Place}
use Rattle.tla_tree.specs.Tree.{Word}
use Rattle.pcal_tree.specs.Algorithm.{Statement, branch, either, with, while, Statements, done, then, mark, Branches, no_branches, or, Main, alone, processes, Algorithm, Routine, procedure_routines, main_routines, Naming}

-- the written names of a label and of its unit, the label's place, and that of the last token before the next label of its list
pub record Line : Type 0 where
  pub label : Word
  pub unit : Word
  pub first : Place
  pub last : Place

-- the last token of the statements before the next label, which are after one that ends there
abbrev pub last_token : Place → Statements → Place
last_token at done = at
last_token at (then span st rest) = last_token span.last rest
last_token at (mark l k rest) = at

-- in the order of the text; named gives a label its written name
abbrev mutual
  pub lines_inside : (Word → Word) → Word → Statement → List Line
  lines_inside named unit (branch e a b) = lines_in named unit a ++ lines_in named unit b
  lines_inside named unit (either bs) = lines_of_some named unit bs
  lines_inside named unit (with bs b) = lines_in named unit b
  lines_inside named unit (while e b) = lines_in named unit b
  lines_inside named unit _ = []

  pub lines_in : (Word → Word) → Word → Statements → List Line
  lines_in named unit done = []
  lines_in named unit (then span st rest) = lines_inside named unit st ++ lines_in named unit rest
  lines_in named unit (mark l k rest) =
      record { label = named l.word; unit = unit; first = l.place; last = last_token l.place rest } ∷ lines_in named unit rest

  pub lines_of_some : (Word → Word) → Word → Branches → List Line
  lines_of_some named unit no_branches = []
  lines_of_some named unit (or b bs) = lines_in named unit b ++ lines_of_some named unit bs

abbrev pub lines_of : Naming → Word → Routine → List Line
lines_of f unit u = lines_in (f.label u.number) unit u.body

-- a procedure or process with its written name
abbrev pub lines_of_unit : Naming → Routine → List Line
lines_of_unit f u = lines_of f (f.title u.number) u

-- the one body has the algorithm's name
abbrev pub lines_of_main : Naming → Algorithm → Main → List Line
lines_of_main f g (alone b) = flat_map (lines_of f g.name.word) (main_routines g (alone b))
lines_of_main f g (processes ps) = flat_map (lines_of_unit f) (main_routines g (processes ps))

-- of a labelled algorithm, its macro calls not written out, with its written names
abbrev pub lines : Algorithm → Naming → List Line
lines g f = flat_map (lines_of_unit f) (procedure_routines g) ++ lines_of_main f g g.main

-- ---- the text of the lines

-- 12:3
abbrev pub place_text : Place → List ℕ
place_text at = decimal at.line ++ (codes ":" ++ decimal at.col)

-- A Inc 7:3 7:15
abbrev pub line_text : Line → List ℕ
line_text l = l.label ++ (codes " " ++ (l.unit ++ (codes " " ++ (place_text l.first ++ (codes " " ++ (place_text l.last ++ codes "\n"))))))

abbrev pub lines_text : List Line → List ℕ
lines_text ls = flat_map line_text ls
