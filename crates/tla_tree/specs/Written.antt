-- The text of a tree: its tokens, with single blanks between some of them (signs as in "Specifying Systems", section 15.1).
use Rattle.std.specs.Prelude.{ℕ, Bool, true, false, List, [], ◌∷◌, ◌++◌}
use Rattle.tla_tree.specs.declared.op.Op.{Op}
use Rattle.tla_tree.specs.declared.op.Op.TheVariants as op
use Rattle.tla_tree.specs.declared.op.Binder.{Binder}
use Rattle.tla_tree.specs.declared.op.Binder.TheVariants as binder
use Rattle.tla_tree.specs.Tree.{Word, Name, PathStep, Slot, Strict, Form, Tree, Trees, node, no_trees, tree}
use Rattle.tla_tree.specs.Tree as tree
use Rattle.tla_tree.specs.Lexical.{TokenView, Mark, sign_of, field_kind, token_text}
use Rattle.tla_tree.specs.Lexical as tk
use Rattle.tla_token.specs.Words.{is_pluscal_word}

pub data Piece : Type 0 where
  blank : Piece
  token : TokenView → Piece

abbrev pub text_of : List Piece → List ℕ
text_of [] = []
text_of (blank ∷ ps) = 32 ∷ text_of ps
text_of (token k ∷ ps) = token_text k ++ text_of ps

-- ---- pieces, before others
abbrev pub mark : Mark → List Piece → List Piece
mark m ps = token (tk.mark m) ∷ ps

abbrev pub word : Word → List Piece → List Piece
word x ps = token (tk.word x) ∷ ps

abbrev pub field : Word → List Piece → List Piece
field x ps = token (field_kind (is_pluscal_word x) x) ∷ ps

abbrev pub spaced : TokenView → List Piece → List Piece
spaced k ps = blank ∷ token k ∷ blank ∷ ps

abbrev pub comma : List Piece → List Piece
comma ps = mark tk.comma (blank ∷ ps)

-- what is written of a part: in brackets where it needs them as an operand, and then what follows
abbrev pub Part : Type 0
Part = Bool → List Piece → List Piece

abbrev pub as_operand : Part → List Piece → List Piece
as_operand a ps = a true ps

abbrev pub plain : Part → List Piece → List Piece
plain a ps = a false ps

-- one blank on each side of an infix operator, none round `..`
abbrev pub infix_sign : Op → List Piece → List Piece
infix_sign op.Range ps = token (tk.sign op.Range) ∷ ps
infix_sign o ps = spaced (tk.sign o) ps

-- `-a`, `~a`, `SUBSET a`
abbrev pub prefix_sign : Op → List Piece → List Piece
prefix_sign op.Negate ps = token (sign_of op.Negate) ∷ ps
prefix_sign op.Not ps = token (tk.sign op.Not) ∷ ps
prefix_sign o ps = token (tk.sign o) ∷ blank ∷ ps

abbrev pub infix_pieces : Op → List Part → List Piece → List Piece
infix_pieces o (a ∷ b ∷ []) ps = as_operand a (infix_sign o (as_operand b ps))
infix_pieces o (a ∷ []) ps = prefix_sign o (as_operand a ps)
infix_pieces o xs ps = ps

-- a, b, ..
abbrev pub listed : List Part → List Piece → List Piece
listed [] ps = ps
listed (a ∷ []) ps = plain a ps
listed (a ∷ b ∷ xs) ps = plain a (comma (listed (b ∷ xs) ps))

-- a |-> e, b |-> f; the sign has its blanks
abbrev pub field_pieces : (List Piece → List Piece) → List Word → List Part → List Piece → List Piece
field_pieces s (x ∷ []) (a ∷ []) ps = field x (s (plain a ps))
field_pieces s (x ∷ y ∷ ys) (a ∷ xs) ps = field x (s (plain a (comma (field_pieces s (y ∷ ys) xs ps))))
field_pieces s ys xs ps = ps

-- x, y
abbrev pub name_pieces : List Name → List Piece → List Piece
name_pieces [] ps = ps
name_pieces (x ∷ []) ps = word x.word ps
name_pieces (x ∷ y ∷ xs) ps = word x.word (comma (name_pieces (y ∷ xs) ps))

-- x, y \in S, z \in T
abbrev pub bind_pieces : List (List Name) → List Part → List Piece → List Piece
bind_pieces (g ∷ []) (a ∷ xs) ps = name_pieces g (spaced (tk.sign op.In) (as_operand a ps))
bind_pieces (g ∷ h ∷ gs) (a ∷ xs) ps = name_pieces g (spaced (tk.sign op.In) (as_operand a (comma (bind_pieces (h ∷ gs) xs ps))))
bind_pieces gs xs ps = ps

-- x == a y == b
abbrev pub definition_pieces : List Name → List Part → List Piece → List Piece
definition_pieces (x ∷ []) (a ∷ xs) ps = word x.word (spaced (tk.mark tk.defines) (plain a ps))
definition_pieces (x ∷ y ∷ ys) (a ∷ xs) ps = word x.word (spaced (tk.mark tk.defines) (plain a (blank ∷ definition_pieces (y ∷ ys) xs ps)))
definition_pieces ys xs ps = ps

-- the part after one for each of these
abbrev pub body : {A : Type 0} → List A → List Part → Part
body [] (a ∷ xs) = a
body (y ∷ ys) (a ∷ xs) = body ys xs
body ys [] = λ b ps. ps

abbrev pub colon : List Piece → List Piece
colon ps = blank ∷ mark tk.colon (blank ∷ ps)

abbrev pub binding_pieces : Binder → List (List Name) → List Part → List Piece → List Piece
binding_pieces binder.ForAll gs xs ps = token (tk.key tk.for_all_key) ∷ blank ∷ bind_pieces gs xs (colon (plain (body gs xs) ps))
binding_pieces binder.Exists gs xs ps = token (tk.key tk.exists_key) ∷ blank ∷ bind_pieces gs xs (colon (plain (body gs xs) ps))
binding_pieces binder.Filter gs xs ps = mark tk.open_brace (bind_pieces gs xs (colon (plain (body gs xs) (mark tk.close_brace ps))))
binding_pieces binder.Image gs xs ps = mark tk.open_brace (as_operand (body gs xs) (colon (bind_pieces gs xs (mark tk.close_brace ps))))
binding_pieces binder.Function gs xs ps = mark tk.open_square (bind_pieces gs xs (spaced (tk.mark tk.maps) (plain (body gs xs) (mark tk.close_square ps))))

-- the steps of a path, and then what the parts after its subscripts give
abbrev pub path_pieces : List PathStep → List Part → (List Part → List Piece) → List Piece
path_pieces [] xs rest = rest xs
path_pieces (tree.index ∷ ss) (a ∷ xs) rest = mark tk.open_square (plain a (mark tk.close_square (path_pieces ss xs rest)))
path_pieces (tree.index ∷ ss) [] rest = path_pieces ss [] rest
path_pieces (tree.field x ∷ ss) xs rest = mark tk.dot (field x (path_pieces ss xs rest))

abbrev pub right_side : List Part → (List Part → List Piece) → List Piece
right_side [] rest = rest []
right_side (a ∷ xs) rest = spaced (tk.sign op.Equal) (plain a (rest xs))

-- !path = e, !path = f
abbrev pub slot_pieces : List Slot → List Part → List Piece → List Piece
slot_pieces [] xs ps = ps
slot_pieces (s ∷ []) xs ps = mark tk.bang (path_pieces s.path xs (λ ys. right_side ys (λ zs. ps)))
slot_pieces (s ∷ t ∷ ss) xs ps = mark tk.bang (path_pieces s.path xs (λ ys. right_side ys (λ zs. comma (slot_pieces (t ∷ ss) zs ps))))

abbrev pub except_pieces : List Slot → List Part → List Piece → List Piece
except_pieces ss [] ps = ps
except_pieces ss (a ∷ xs) ps = mark tk.open_square (as_operand a (spaced (tk.key tk.except_key) (slot_pieces ss xs (mark tk.close_square ps))))

abbrev pub strict_pieces : Strict → List Part → List Piece → List Piece
strict_pieces (tree.operator o) xs ps = infix_pieces o xs ps
strict_pieces tree.set_of xs ps = mark tk.open_brace (listed xs (mark tk.close_brace ps))
strict_pieces tree.tuple xs ps = mark tk.open_tuple (listed xs (mark tk.close_tuple ps))
strict_pieces (tree.fields ys) xs ps = mark tk.open_square (field_pieces (spaced (tk.mark tk.maps)) ys xs (mark tk.close_square ps))
strict_pieces (tree.records ys) xs ps = mark tk.open_square (field_pieces colon ys xs (mark tk.close_square ps))
strict_pieces tree.functions (a ∷ b ∷ xs) ps = mark tk.open_square (plain a (spaced (tk.mark tk.arrow) (plain b (mark tk.close_square ps))))
strict_pieces tree.apply (a ∷ b ∷ xs) ps = as_operand a (mark tk.open_square (plain b (mark tk.close_square ps)))
strict_pieces (tree.select x) (a ∷ xs) ps = as_operand a (mark tk.dot (field x ps))
strict_pieces (tree.except ss) xs ps = except_pieces ss xs ps
strict_pieces m xs ps = ps

-- a -> b [] c -> d, after what is before the first
abbrev pub arm_pieces : Bool → List Part → List Piece → List Piece
arm_pieces true (a ∷ []) ps = token (tk.key tk.other_key) ∷ spaced (tk.mark tk.arrow) (as_operand a ps)
arm_pieces b (c ∷ a ∷ []) ps = as_operand c (spaced (tk.mark tk.arrow) (as_operand a ps))
arm_pieces b (c ∷ a ∷ xs) ps = as_operand c (spaced (tk.mark tk.arrow) (as_operand a (spaced (tk.mark tk.box) (arm_pieces b xs ps))))
arm_pieces b xs ps = ps

abbrev pub choice_pieces : List Part → List Piece → List Piece
choice_pieces (a ∷ b ∷ c ∷ []) ps = token (tk.key tk.if_key) ∷ blank ∷ plain a (spaced (tk.key tk.then_key) (plain b (spaced (tk.key tk.else_key) (plain c ps))))
choice_pieces xs ps = ps

abbrev pub local_pieces : List Name → List Part → List Piece → List Piece
local_pieces ys xs ps = token (tk.key tk.let_key) ∷ blank ∷ definition_pieces ys xs (spaced (tk.key tk.in_key) (plain (body ys xs) ps))

abbrev pub form_pieces : Form → List Part → List Piece → List Piece
form_pieces (tree.number n) xs ps = token (tk.number n) ∷ ps
form_pieces (tree.string x) xs ps = token (tk.string x) ∷ ps
form_pieces (tree.truth b) xs ps = token (tk.constant (tk.truth b)) ∷ ps
form_pieces tree.booleans xs ps = token (tk.constant tk.booleans) ∷ ps
form_pieces tree.strings xs ps = token (tk.constant tk.strings) ∷ ps
form_pieces (tree.name x) xs ps = word x ps
form_pieces (tree.next x) xs ps = word x (mark tk.prime ps)
form_pieces (tree.strict m) xs ps = strict_pieces m xs ps
form_pieces (tree.operator_call x) xs ps = word x (mark tk.open_bracket (listed xs (mark tk.close_bracket ps)))
form_pieces tree.conjunction xs ps = infix_pieces op.And xs ps
form_pieces tree.disjunction xs ps = infix_pieces op.Or xs ps
form_pieces tree.implication xs ps = infix_pieces op.Implies xs ps
form_pieces (tree.member true) xs ps = infix_pieces op.In xs ps
form_pieces (tree.member false) xs ps = infix_pieces op.NotIn xs ps
form_pieces tree.if_then_else xs ps = choice_pieces xs ps
form_pieces (tree.cases b) xs ps = token (tk.key tk.case_key) ∷ blank ∷ arm_pieces b xs ps
form_pieces (tree.binding b gs) xs ps = binding_pieces b gs xs ps
form_pieces (tree.local ys) xs ps = local_pieces ys xs ps

-- is in brackets as an operand: an infix or prefix form, a quantifier, IF, CASE, LET
abbrev pub is_bracketed : Form → Bool
is_bracketed (tree.strict (tree.operator o)) = true
is_bracketed tree.conjunction = true
is_bracketed tree.disjunction = true
is_bracketed tree.implication = true
is_bracketed (tree.member b) = true
is_bracketed tree.if_then_else = true
is_bracketed (tree.cases b) = true
is_bracketed (tree.binding binder.ForAll gs) = true
is_bracketed (tree.binding binder.Exists gs) = true
is_bracketed (tree.local ys) = true
is_bracketed m = false

abbrev pub bracketed : Bool → (List Piece → List Piece) → List Piece → List Piece
bracketed true a ps = mark tk.open_bracket (a (mark tk.close_bracket ps))
bracketed false a ps = a ps

-- a form as a part, given its own parts
abbrev pub form_part : Form → List Part → Part
form_part m xs true ps = bracketed (is_bracketed m) (form_pieces m xs) ps
form_part m xs false ps = form_pieces m xs ps

abbrev mutual
  pub part : Tree → Part
  part (node m at ts) = form_part m (parts ts)

  pub parts : Trees → List Part
  parts no_trees = []
  parts (tree t ts) = part t ∷ parts ts

abbrev pub pieces : Tree → List Piece
pieces t = plain (part t) []

abbrev pub written : Tree → List ℕ
written t = text_of (pieces t)
