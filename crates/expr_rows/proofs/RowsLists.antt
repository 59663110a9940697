-- Worked rows: an arm, a definition, a bullet with its item, and what stands behind the first token of a form over them.
use Rattle.std.proofs.Common.{Bool, ◌≡◌, ℕ, true, false, List, [], ◌∷◌, Ok, Err, refl, arith}
use Rattle.tla_token.specs.declared.place.Place.{Place}
use Rattle.tla_token.specs.declared.rule.Rule.TheVariants.{Syntax}
use Rattle.tla_tree.specs.declared.op.Op.TheVariants as op
use Rattle.tla_tree.specs.Tree.{node}
use Rattle.tla_tree.specs.Lexical.{Token, token}
use Rattle.tla_tree.specs.Lexical as tk
use Rattle.tla_tree.specs.Spelling.{Phrase, Arms, Locals, number, cases, local, last_bullet, bullet, tree_of, operation, two}
use Rattle.tla_tree.specs.Reader.{Readers, no_steps}
use Rattle.expr_nodes.specs.declared.shape.Boxes.TheVariants as boxes
use Rattle.expr_nodes.specs.ReadIn.{AreItems}
use Rattle.expr_rows.specs.HasRead.{behind_mark, one_arm, is_arm_next, one_item, cased, defined}

abbrev here : Place
here = record { line = 1; col = 3 }

-- a reader that always reads this phrase, and takes nothing
abbrev always : Phrase → Readers
always b = record no_steps { expr = λ e c ts. Ok (b, ts) }

side : (b : Phrase) (ts : List Token) → behind_mark (always b) 2 tk.defines (token here (tk.mark tk.defines) ∷ ts) ≡ Ok ((here, b), ts)
side b ts = refl

-- at the edge there is no mark
no_side : (b : Phrase) (ts : List Token) → behind_mark (always b) 3 tk.defines (token here (tk.mark tk.defines) ∷ ts) ≡ Err (Syntax, token here (tk.mark tk.defines) ∷ ts)
no_side b ts = refl

arm_read : (b : Phrase) (ts : List Token) → one_arm (always b) 0 (token here (tk.mark tk.arrow) ∷ ts) ≡ Ok ((b, here, b), ts)
arm_read b ts = refl

no_arm : (b : Phrase) → one_arm (always b) 0 [] ≡ Err (Syntax, [])
no_arm b = refl

-- a `[]` after a number begins an arm, and after a CASE it is that one's
box_after_number : (p : Place) (n : ℕ) (ts : List Token) → is_arm_next 0 (number p n) (token here (tk.mark tk.box) ∷ ts) ≡ true
box_after_number p n ts = refl

box_after_case : (p : Place) (xs : Arms) (ts : List Token) → is_arm_next 0 (cases p xs) (token here (tk.mark tk.box) ∷ ts) ≡ false
box_after_case p xs ts = refl

no_box : (b : Phrase) (ts : List Token) → is_arm_next 0 b (token here (tk.mark tk.arrow) ∷ ts) ≡ false
no_box b ts = refl

item_read : (b : Phrase) (ts : List Token) → one_item (always b) 0 op.And 3 (token here (tk.sign op.And) ∷ ts) ≡ Ok ((here, b), ts)
item_read b ts = refl

in_other_column : (b : Phrase) → one_item (always b) 0 op.And 4 (token here (tk.sign op.And) ∷ []) ≡ Err (Syntax, token here (tk.sign op.And) ∷ [])
in_other_column b = refl

of_other_sign : (b : Phrase) → one_item (always b) 0 op.And 3 (token here (tk.sign op.Or) ∷ []) ≡ Err (Syntax, token here (tk.sign op.Or) ∷ [])
of_other_sign b = refl

arms_then : (xs : Arms) (p : Place) → cased (record no_steps { arms = λ e ts. Ok (xs, ts) }) 0 p [] ≡ Ok (cases p xs, [])
arms_then xs p = refl

defined_in : (ls : Locals) (b : Phrase) (p : Place) → defined (record no_steps { expr = λ e c ts. Ok (b, ts); locals = λ e ts. Ok (ls, ts) }) 0 p (token here (tk.key tk.in_key) ∷ []) ≡ Ok (local p ls here b, [])
defined_in ls b p = refl

-- without IN
not_defined : (ls : Locals) (b : Phrase) (p : Place) → defined (record no_steps { expr = λ e c ts. Ok (b, ts); locals = λ e ts. Ok (ls, ts) }) 0 p [] ≡ Err (Syntax, [])
not_defined ls b p = refl

-- one item is the item itself, and two are a conjunction
one_alone : {linked : Bool} (p q : Place) (n : ℕ) → AreItems linked (tree_of (number q n) ∷ []) op.And 0 p boxes.Never 1 (last_bullet p (number q n))
one_alone {linked} p q n = record { below = omega arith; tree = refl; first = refl; boxes = refl; nesting = refl }

two_joined : {linked : Bool} (p q r s : Place) (m n : ℕ)
    → AreItems linked (tree_of (number q m) ∷ tree_of (number s n) ∷ node (operation op.And) p (two (tree_of (number q m)) (tree_of (number s n))) ∷ []) op.And 2 p boxes.Never 2 (bullet p (number q m) (last_bullet r (number s n)))
two_joined {linked} p q r s m n = record { below = omega arith; tree = refl; first = refl; boxes = refl; nesting = refl }
