-- Worked rows of what the writer may be given.
use Rattle.std.proofs.Common.{◌≡◌, refl, arith, ◌^◌, true, false, [], ◌∷◌, codes}
use Rattle.tla_token.specs.declared.place.Place.{Place}
use Rattle.tla_tree.specs.declared.op.Op.TheVariants as op
use Rattle.tla_tree.specs.declared.op.Binder.TheVariants as binder
use Rattle.tla_tree.specs.Tree.{Word, Form, Tree, node, no_trees, tree}
use Rattle.tla_tree.specs.Tree as tree
use Rattle.tla_tree.specs.Lexical as tk
use Rattle.tla_token.specs.declared.sign.Sign.TheVariants as sign
use Rattle.tla_token.specs.Lexemes as lexeme
use Rattle.tla_tree.specs.Spelling.{one, two}
use Rattle.tla_tree.specs.laws.Writable.{IsOfText, AreSmall, IsWritable, IsSpelled}

abbrev at : Place
at = record { line = 1; col = 1 }

abbrev leaf : Form → Tree
leaf m = node m at no_trees

abbrev name : Word → Tree
name x = leaf (tree.name x)

-- a name is an identifier that is not reserved
name_is_writable : IsWritable (name (codes "x_1"))
name_is_writable = (refl, (((refl, refl), refl), tt), tt, tt, tt)

no_blank : IsWritable (name (codes "a b")) → ⊥
no_blank h = (let e : false ≡ true = h.1.0.0.0 in cc)

no_number : IsWritable (name (codes "12")) → ⊥
no_number h = (let e : false ≡ true = h.1.0.0.1 in cc)

no_reserved : IsWritable (name (codes "begin")) → ⊥
no_reserved h = (let e : false ≡ true = h.1.0.1 in cc)

no_reserved_of_tla : IsWritable (name (codes "WF_x")) → ⊥
no_reserved_of_tla h = (let e : false ≡ true = h.1.0.1 in cc)

-- a field may be a reserved word of PlusCal, and none of TLA+
abbrev selects : Word → Tree
selects x = node (tree.strict (tree.select x)) at (one (name (codes "r")))

field_is_writable : IsWritable (selects (codes "procedure"))
field_is_writable = (refl, tt, (((refl, refl), refl), tt), tt, (name_of_r, tt))
  where
    name_of_r : IsWritable (name (codes "r"))
    name_of_r = (refl, (((refl, refl), refl), tt), tt, tt, tt)

no_field : IsWritable (selects (codes "DOMAIN")) → ⊥
no_field h = (let e : false ≡ true = h.2.0.1 in cc)

-- a string may hold a tab, and no byte that has neither a sign nor an escape
string_is_writable : IsWritable (leaf (tree.string (97 ∷ 9 ∷ 34 ∷ [])))
string_is_writable = (refl, tt, tt, (refl, tt), tt)

no_string : IsWritable (leaf (tree.string (7 ∷ []))) → ⊥
no_string h = (let e : false ≡ true = h.3.0 in cc)

-- numbers are below 2^127
no_large_number : IsWritable (leaf (tree.number (2 ^ 127))) → ⊥
no_large_number h = omega (arith, h.0.0)

-- bound names are names
no_bound : IsWritable (node (tree.binding binder.ForAll ((record { word = codes "if"; place = at } ∷ []) ∷ [])) at (two (name (codes "S")) (name (codes "p")))) → ⊥
no_bound h = (let e : false ≡ true = h.1.0.1 in cc)

-- the sign of a negation is that of a subtraction
spelled_negation : IsSpelled (tk.sign op.Minus)
spelled_negation = (lexeme.one sign.Minus, refl, refl)

-- a reserved word of PlusCal is the name of a field at most, and a number of a text may be too large
reserved_of_text : IsOfText (tk.reserved (codes "if"))
reserved_of_text = ((refl, refl), refl)

no_word_of_text : IsOfText (tk.word (codes "if")) → ⊥
no_word_of_text h = (let e : false ≡ true = h.1 in cc)

no_small : AreSmall (record { kind = lexeme.number (2 ^ 127); at = 0; place = at } ∷ []) → ⊥
no_small h = omega (arith, h.0)
