-- What is still to be written, step by step: what it shows, and a number that is less with each step.
use Rattle.std.specs.Prelude.{◌≡◌, ℕ, zero, suc, ◌+◌, ◌<◌, ◌≤◌, Bool, true, false, List, [], ◌∷◌, ◌++◌, length, Option, MatchOption}
use Rattle.tla_write.specs.declared.write.Ahead.{Ahead}
use Rattle.tla_write.specs.declared.write.Ahead.TheVariants as ahead
use Rattle.tla_write.specs.declared.write.Item.{Item}
use Rattle.tla_tree.specs.Tree.{Form, Tree, Trees, node, no_trees, tree}
use Rattle.tla_tree.specs.Written.{Piece, blank, text_of, Part, form_part, part}
use Rattle.tla_write.specs.Writing.{item_pieces, shown, parts_of}

-- as many blanks, before these pieces
abbrev pub blanks : ℕ → List Piece → List Piece
blanks zero ps = ps
blanks (suc n) ps = blank ∷ blanks n ps

-- more than a form shows, each part showing as many blanks as it weighs
abbrev mutual
  pub weight : Tree → ℕ
  weight (node m at ts) = 2 + length (form_part m (loads ts) true []) + length (form_part m (loads ts) false [])

  pub loads : Trees → List Part
  loads no_trees = []
  loads (tree t ts) = (λ b ps. blanks (weight t) ps) ∷ loads ts

abbrev pub loads_of : Tree → List Part
loads_of (node m at ts) = loads ts

-- how much the items show of a tree whose parts are their weights
abbrev pub left : Tree → List Item → ℕ
left t is = length (shown (loads_of t) is [])

-- ---- what is ahead
abbrev pub next_pieces : Ahead → List Piece → List Piece
next_pieces (ahead.Item i) ps = item_pieces [] i ps
next_pieces (ahead.Part t operand) ps = part t operand ps

abbrev pub next_weight : Ahead → ℕ
next_weight (ahead.Item i) = 1
next_weight (ahead.Part t operand) = weight t

-- what is ahead shows this, the last of it first, before these pieces
abbrev pub all_ahead : List Ahead → List Piece → List Piece
all_ahead [] ps = ps
all_ahead (a ∷ rest) ps = all_ahead rest (next_pieces a ps)

abbrev pub all_weight : List Ahead → ℕ
all_weight [] = 0
all_weight (a ∷ rest) = next_weight a + all_weight rest

-- ---- what a step does
-- an item that is all of this form
abbrev pub Stands : Form → Option Item → Type 0
Stands m found = MatchOption found (Unit {0}) (λ i. (xs : List Part) (operand : Bool) (ps : List Piece) → item_pieces [] i ps ≡ form_part m xs operand ps)

-- the items of a plan come ahead, for the parts of this tree
abbrev pub PutsAhead : Tree → List Item → List Ahead → List Ahead → Type 0
PutsAhead t is old new =
    ((ps : List Piece) → all_ahead new ps ≡ shown (parts_of t) is (all_ahead old ps)) × (all_weight new ≤ left t is + all_weight old)

-- in the place of the tree comes what it shows
abbrev pub Begins : Tree → Bool → List Ahead → List Ahead → Type 0
Begins t operand old new =
    ((ps : List Piece) → all_ahead new ps ≡ part t operand (all_ahead old ps)) × (all_weight new < weight t + all_weight old)

-- what is next is written, or what it shows comes ahead
abbrev pub Goes : Ahead → List Ahead → List Ahead → List ℕ → List ℕ → Type 0
Goes next old new from into =
    ((ps : List Piece) → into ++ text_of (all_ahead new ps) ≡ from ++ text_of (next_pieces next (all_ahead old ps))) × (all_weight new < next_weight next + all_weight old)
