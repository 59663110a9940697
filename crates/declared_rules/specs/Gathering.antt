-- What a tree brings to where it is put in, as it is gathered.
use Rattle.std.specs.Prelude.{◌≡◌, List, [], ◌∷◌, ◌++◌, length, take, map, cond, Vec}
use Rattle.std.specs.declared.alloc.Global.{Global}
use Rattle.tla_token.specs.Signs.{is_among}
use Rattle.tla_tree.specs.Tree.{Word, Form, Trees, no_trees, tree}
use Rattle.pcal_tree.specs.BoundNames as names
use Rattle.pcal_tree.specs.OffencesRebind as pure
use Rattle.module_outside.specs.SightIn.{Binds}
use Rattle.declared_rules.specs.declared.pieces.Piece.{Piece}
use Rattle.declared_rules.specs.declared.pieces.Piece.TheVariants as piece
use Rattle.declared_rules.specs.declared.pieces.Pieces.{Pieces}

abbrev pub piece_of : Piece → pure.Piece
piece_of (piece.Binds n) = pure.binds n
piece_of (piece.Frees x) = pure.frees x

abbrev pub list_of : List Piece → List pure.Piece
list_of ps = map piece_of ps

abbrev pub lists_of : List (Vec Piece Global) → List (List pure.Piece)
lists_of ls = map (λ (l : Vec Piece Global). list_of l.items) ls

abbrev pub each_pieces : Trees → List (List pure.Piece)
each_pieces no_trees = []
each_pieces (tree t ts) = pure.pieces t [] ∷ each_pieces ts

abbrev pub own_pieces : Word → List Word → List pure.Piece
own_pieces x xs = cond (is_among xs x) [] (pure.frees x ∷ [])

-- what a form brings besides its parts
abbrev pub form_pieces : Form → List Word → List pure.Piece
form_pieces m xs = map pure.binds (names.all_of (names.lists_of m)) ++ pure.free_piece xs m

-- these were gathered where some names are bound; no more are bound than before
pub record Gathers (old new : Pieces) (f : List Word → List pure.Piece) : Type 0 where
  pub bound : new.bound ≡ old.bound
  pub meets : (xs : List Word) → Binds old.bound xs → list_of new.list.items ≡ list_of old.list.items ++ f xs

-- the same, and more may be bound behind those
pub record GathersParts (old new : Pieces) (f : List Word → List pure.Piece) : Type 0 where
  pub bound : take (length old.bound) new.bound ≡ old.bound
  pub meets : (xs : List Word) → Binds old.bound xs → list_of new.list.items ≡ list_of old.list.items ++ f xs
