-- What the grammars of expressions, of algorithms and of modules see of a token, and how it is written ("Specifying Systems", sections 15.1 and 16.1).
use Rattle.std.specs.Prelude.{ℕ, Bool, true, false, List, [], ◌∷◌, ◌++◌, codes, nat_eq, if◌then◌else◌}
use Rattle.std.specs.Fmt.{decimal}
use Rattle.tla_token.specs.declared.place.Place.{Place}
use Rattle.tla_tree.specs.declared.op.Op.{Op}
use Rattle.tla_tree.specs.declared.op.Op.TheVariants as op
use Rattle.tla_tree.specs.Tree.{Word}

pub data Mark : Type 0 where
  open_bracket : Mark  -- (
  close_bracket : Mark  -- )
  open_square : Mark  -- [
  close_square : Mark  -- ]
  open_brace : Mark  -- {
  close_brace : Mark  -- }
  open_tuple : Mark  -- <<
  close_tuple : Mark  -- >>
  comma : Mark  -- ,
  colon : Mark  -- :
  dot : Mark  -- .
  bang : Mark  -- !
  arrow : Mark  -- ->
  maps : Mark  -- |->
  defines : Mark  -- ==
  box : Mark  -- []
  prime : Mark  -- ', in written text alone
  assigns : Mark  -- :=, which is in no expression, as the next two
  beside : Mark  -- ||
  semicolon : Mark  -- ;

-- reserved words and signs that begin or divide a form
pub data Key : Type 0 where
  if_key : Key
  then_key : Key
  else_key : Key
  case_key : Key
  other_key : Key
  let_key : Key
  in_key : Key
  except_key : Key
  for_all_key : Key  -- \A
  exists_key : Key  -- \E

pub data Constant : Type 0 where
  truth : Bool → Constant  -- TRUE, FALSE
  booleans : Constant  -- BOOLEAN
  strings : Constant  -- STRING

pub data TokenView : Type 0 where
  sign : Op → TokenView  -- a sign or word of an operator: synonyms are one; `-` is Minus, also as a prefix
  word : Word → TokenView  -- an identifier that is not reserved
  reserved : Word → TokenView  -- a reserved word of PlusCal
  number : ℕ → TokenView
  string : Word → TokenView  -- a string, without its quotes and escapes
  constant : Constant → TokenView
  mark : Mark → TokenView
  key : Key → TokenView
  other : Word → TokenView  -- a reserved word of TLA+ or a sign that stands in no expression

-- the token of a word that is the name of a field
abbrev pub field_kind : Bool → Word → TokenView
field_kind true x = reserved x
field_kind false x = word x

pub record Token : Type 0 where
  pub kind : TokenView
  pub place : Place

abbrev pub token : Place → TokenView → Token
token p k = record { kind = k; place = p }

-- the sign of an operator: negation has that of subtraction
abbrev pub sign_of : Op → TokenView
sign_of op.Negate = sign op.Minus
sign_of o = sign o

-- how tokens are written: of synonyms the first
abbrev pub op_text : Op → List ℕ
op_text op.Implies = codes "=>"
op_text op.Equivalent = codes "<=>"
op_text op.And = codes "/\\"
op_text op.Or = codes "\\/"
op_text op.Not = codes "~"
op_text op.Equal = codes "="
op_text op.NotEqual = codes "#"
op_text op.Less = codes "<"
op_text op.Greater = codes ">"
op_text op.AtMost = codes "<="
op_text op.AtLeast = codes ">="
op_text op.In = codes "\\in"
op_text op.NotIn = codes "\\notin"
op_text op.SubsetEq = codes "\\subseteq"
op_text op.Override = codes "@@"
op_text op.MapsTo = codes ":>"
op_text op.Cup = codes "\\cup"
op_text op.Cap = codes "\\cap"
op_text op.Without = codes "\\"
op_text op.Subset = codes "SUBSET"
op_text op.Union = codes "UNION"
op_text op.Range = codes ".."
op_text op.Domain = codes "DOMAIN"
op_text op.Plus = codes "+"
op_text op.Modulo = codes "%"
op_text op.Minus = codes "-"
op_text op.Negate = codes "-"
op_text op.Times = codes "*"
op_text op.Concat = codes "\\o"
op_text op.Divide = codes "\\div"

abbrev pub mark_text : Mark → List ℕ
mark_text open_bracket = codes "("
mark_text close_bracket = codes ")"
mark_text open_square = codes "["
mark_text close_square = codes "]"
mark_text open_brace = codes "{"
mark_text close_brace = codes "}"
mark_text open_tuple = codes "<<"
mark_text close_tuple = codes ">>"
mark_text comma = codes ","
mark_text colon = codes ":"
mark_text dot = codes "."
mark_text bang = codes "!"
mark_text arrow = codes "->"
mark_text maps = codes "|->"
mark_text defines = codes "=="
mark_text box = codes "[]"
mark_text prime = codes "'"
mark_text assigns = codes ":="
mark_text beside = codes "||"
mark_text semicolon = codes ";"

abbrev pub key_text : Key → List ℕ
key_text if_key = codes "IF"
key_text then_key = codes "THEN"
key_text else_key = codes "ELSE"
key_text case_key = codes "CASE"
key_text other_key = codes "OTHER"
key_text let_key = codes "LET"
key_text in_key = codes "IN"
key_text except_key = codes "EXCEPT"
key_text for_all_key = codes "\\A"
key_text exists_key = codes "\\E"

abbrev pub constant_text : Constant → List ℕ
constant_text (truth true) = codes "TRUE"
constant_text (truth false) = codes "FALSE"
constant_text booleans = codes "BOOLEAN"
constant_text strings = codes "STRING"

-- a character of a string: quote, backslash, tab, line feed, form feed and return by their escapes
abbrev pub escaped : ℕ → List ℕ
escaped b = if nat_eq b 34 then codes "\\\"" else (if nat_eq b 92 then codes "\\\\" else (if nat_eq b 9 then codes "\\t" else (if nat_eq b 10 then codes "\\n" else (if nat_eq b 12 then codes "\\f" else (if nat_eq b 13 then codes "\\r" else b ∷ [])))))

abbrev pub escapes : Word → List ℕ
escapes [] = []
escapes (b ∷ bs) = escaped b ++ escapes bs

abbrev pub token_text : TokenView → List ℕ
token_text (sign o) = op_text o
token_text (word x) = x
token_text (reserved x) = x
token_text (number n) = decimal n
token_text (string x) = codes "\"" ++ (escapes x ++ codes "\"")
token_text (constant c) = constant_text c
token_text (mark m) = mark_text m
token_text (key k) = key_text k
token_text (other w) = w
