-- What is still to be written of a form: items, of which the last is the next one.
use Rattle.std.specs.Prelude.{◌≡◌, ℕ, zero, suc, ◌+◌, ◌≤◌, Bool, true, false, List, [], ◌∷◌, ◌++◌, length, map, drop}
use Rattle.tla_write.specs.declared.write.Fixed.{Fixed}
use Rattle.tla_write.specs.declared.write.Fixed.TheVariants as fixed
use Rattle.tla_write.specs.declared.write.Item.{Item}
use Rattle.tla_write.specs.declared.write.Item.TheVariants as item
use Rattle.tla_tree.specs.Tree.{Word, Name, PathStep, Slot, Tree}
use Rattle.tla_tree.specs.Shapes.{subscripts}
use Rattle.tla_tree.specs.TreeOf.{root_parts}
use Rattle.tla_tree.specs.Lexical.{TokenView}
use Rattle.tla_tree.specs.Lexical as tk
use Rattle.tla_tree.specs.Written.{Piece, blank, token, text_of, word, field, Part, spaced, colon, body, bind_pieces, field_pieces, path_pieces, slot_pieces, arm_pieces, part}

abbrev pub fixed_token : Fixed → TokenView
fixed_token fixed.OpenBracket = tk.mark tk.open_bracket
fixed_token fixed.CloseBracket = tk.mark tk.close_bracket
fixed_token fixed.OpenSquare = tk.mark tk.open_square
fixed_token fixed.CloseSquare = tk.mark tk.close_square
fixed_token fixed.OpenBrace = tk.mark tk.open_brace
fixed_token fixed.CloseBrace = tk.mark tk.close_brace
fixed_token fixed.OpenTuple = tk.mark tk.open_tuple
fixed_token fixed.CloseTuple = tk.mark tk.close_tuple
fixed_token fixed.Comma = tk.mark tk.comma
fixed_token fixed.Colon = tk.mark tk.colon
fixed_token fixed.Dot = tk.mark tk.dot
fixed_token fixed.Bang = tk.mark tk.bang
fixed_token fixed.Arrow = tk.mark tk.arrow
fixed_token fixed.Maps = tk.mark tk.maps
fixed_token fixed.Defines = tk.mark tk.defines
fixed_token fixed.NextArm = tk.mark tk.box
fixed_token fixed.Prime = tk.mark tk.prime
fixed_token fixed.If = tk.key tk.if_key
fixed_token fixed.Then = tk.key tk.then_key
fixed_token fixed.Else = tk.key tk.else_key
fixed_token fixed.Case = tk.key tk.case_key
fixed_token fixed.Other = tk.key tk.other_key
fixed_token fixed.Let = tk.key tk.let_key
fixed_token fixed.In = tk.key tk.in_key
fixed_token fixed.Except = tk.key tk.except_key
fixed_token fixed.ForAll = tk.key tk.for_all_key
fixed_token fixed.Exists = tk.key tk.exists_key
fixed_token fixed.True = tk.constant (tk.truth true)
fixed_token fixed.False = tk.constant (tk.truth false)
fixed_token fixed.Booleans = tk.constant tk.booleans
fixed_token fixed.Strings = tk.constant tk.strings

-- one of the parts, and nothing past them
abbrev pub part_at : List Part → ℕ → Part
part_at [] i = λ b ps. ps
part_at (a ∷ xs) zero = a
part_at (a ∷ xs) (suc i) = part_at xs i

abbrev pub item_pieces : List Part → Item → List Piece → List Piece
item_pieces xs item.Blank ps = blank ∷ ps
item_pieces xs (item.Fixed f) ps = token (fixed_token f) ∷ ps
item_pieces xs (item.Sign o) ps = token (tk.sign o) ∷ ps
item_pieces xs (item.Word x) ps = word x.now ps
item_pieces xs (item.Field x) ps = field x.now ps
item_pieces xs (item.Number n) ps = token (tk.number n.now) ∷ ps
item_pieces xs (item.Quote x) ps = token (tk.string x.now) ∷ ps
item_pieces xs (item.Part i b) ps = part_at xs i b ps

-- the pieces of items, the first of them before these pieces
abbrev pub shown : List Part → List Item → List Piece → List Piece
shown xs [] ps = ps
shown xs (i ∷ is) ps = shown xs is (item_pieces xs i ps)

-- the items show these pieces before what was shown; for n parts
abbrev pub Adds : List Item → List Item → (List Piece → List Piece) → Type 0
Adds old new f = (xs : List Part) (ps : List Piece) → shown xs new ps ≡ f (shown xs old ps)

abbrev pub Puts : ℕ → List Item → List Item → (List Part → List Piece → List Piece) → Type 0
Puts n old new f = (xs : List Part) → length xs ≡ n → (ps : List Piece) → shown xs new ps ≡ f xs (shown xs old ps)

abbrev pub comma_items : Bool → List Item
comma_items true = item.Blank ∷ item.Fixed fixed.Comma ∷ []
comma_items false = []

abbrev pub blank_items : Bool → List Item
blank_items true = item.Blank ∷ []
blank_items false = []

abbrev pub box_items : Bool → List Item
box_items true = item.Blank ∷ item.Fixed fixed.NextArm ∷ item.Blank ∷ []
box_items false = []

-- a quantifier of this key
abbrev pub quantifier_pieces : TokenView → List (List Name) → List Part → List Piece → List Piece
quantifier_pieces k gs xs ps = token k ∷ blank ∷ bind_pieces gs xs (colon (body gs xs false ps))

-- a record or a set of records, by the sign behind a field
abbrev pub record_pieces : TokenView → List Word → List Part → List Piece → List Piece
record_pieces k ys xs ps = token (tk.mark tk.open_square) ∷ field_pieces (spaced k) ys xs (token (tk.mark tk.close_square) ∷ ps)

-- the settings of an EXCEPT, whose first part is before them
abbrev pub slots_behind : List Slot → List Part → List Piece → List Piece
slots_behind ss xs ps = slot_pieces ss (drop 1 xs) ps

-- the steps of a path before what is shown by the parts from next on; their own parts begin at first
abbrev pub PutsPath : List PathStep → ℕ → ℕ → List Item → List Item → Type 0
PutsPath ss first next old new =
    (first + subscripts ss ≡ next) × ((xs : List Part) → next ≤ length xs → (ps : List Piece) (rest : List Part → List Piece) → shown xs old ps ≡ rest (drop next xs) → shown xs new ps ≡ path_pieces ss (drop first xs) rest)

abbrev pub IsTwice : ℕ → Type 0
IsTwice n = (half : ℕ) × (n ≡ half + half)

-- all arms, those from this part on being shown already, of n parts
abbrev pub PutsArms : Bool → ℕ → ℕ → List Item → List Item → Type 0
PutsArms other from n old new = (xs : List Part) → length xs ≡ n → (ps end : List Piece) → shown xs old ps ≡ arm_pieces other (drop from xs) end → shown xs new ps ≡ arm_pieces other xs end

-- ---- bytes
abbrev pub parts_of : Tree → List Part
parts_of t = map part (root_parts t)

-- the new bytes go on from the old ones as the pieces do, whatever is behind
abbrev pub Writes : List ℕ → List ℕ → (List Piece → List Piece) → Type 0
Writes old new f = (ps : List Piece) → new ++ text_of ps ≡ old ++ text_of (f ps)
