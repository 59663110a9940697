-- The text of an expression where it is an operand, and of names with commas ("Specifying Systems", section 15.1).
use Rattle.std.specs.Prelude.{ℕ, List, [], ◌∷◌, ◌++◌, codes}
use Rattle.tla_tree.specs.Tree.{Word, Tree}
use Rattle.tla_tree.specs.Written.{as_operand, part, text_of}

-- in brackets where it is an infix or prefix form, a quantifier, IF, CASE or LET
abbrev pub operand : Tree → List ℕ
operand e = text_of (as_operand (part e) [])

abbrev pub joined : List Word → List ℕ
joined [] = []
joined (x ∷ []) = x
joined (x ∷ y ∷ xs) = x ++ codes ", " ++ joined (y ∷ xs)
