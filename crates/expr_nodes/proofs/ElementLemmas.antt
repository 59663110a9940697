-- The element of an expression, by whether it may stand to the right of `\in`.
use Rattle.std.proofs.Common.{◌≡◌, Bool, true, false, Option, Some, None, List, sym, ap, subst, if◌then◌else◌}
use Rattle.tla_token.specs.declared.place.Place.{Place}
use Rattle.tla_tree.specs.declared.op.Op.{Op}
use Rattle.tla_tree.specs.declared.op.Op.TheVariants as op
use Rattle.expr_nodes.specs.declared.make.Read.{Read}
use Rattle.tla_tree.specs.Tree.{Word, Tree}
use Rattle.tla_tree.specs.Spelling.{Phrase, name, infix_of, can_be_left, can_be_right}
use Rattle.expr_nodes.specs.ShapeOf.{shape_of}
use Rattle.tla_tree.specs.Reader.{element, on_left}
use Rattle.expr_nodes.specs.ReadIn.{IsIn, MayBeIn}

pub element_yes : (i : Phrase) (p q : Place) (x : Word) → can_be_right op.In i ≡ true → element p x q i ≡ Some (infix_of (name p x) q op.In i)
element_yes (infix_of a r o b) p q x e = ap (λ (t : Bool). if t then Some (infix_of (name p x) q op.In (infix_of a r o b)) else on_left (element p x q a) r o b) e
element_yes i p q x e = ap (λ (t : Bool). if t then Some (infix_of (name p x) q op.In i) else None) e

pub element_left : (a : Phrase) (r : Place) (o : Op) (b : Phrase) (p q : Place) (x : Word) → can_be_right op.In (infix_of a r o b) ≡ false → element p x q (infix_of a r o b) ≡ on_left (element p x q a) r o b
element_left a r o b p q x e = ap (λ (t : Bool). if t then Some (infix_of (name p x) q op.In (infix_of a r o b)) else on_left (element p x q a) r o b) e

pub left_yes : {linked : Bool} {old new : List Tree} (l put : Read) (e : Option Phrase) (p : Place) (o : Op) (j : Phrase) → MayBeIn linked old (Some l) e → ((a : Phrase) → shape_of linked a ≡ l.shape → can_be_left a p o ≡ true)
    → ((a : Phrase) → IsIn linked old l a → IsIn linked new put (infix_of a p o j)) → MayBeIn linked new (Some put) (on_left e p o j)
left_yes {linked} {old} {new} l put (Some a) p o j h can f = subst (λ (t : Bool). MayBeIn linked new (Some put) (if t then Some (infix_of a p o j) else None)) (sym (can a h.shape)) (f a h)
left_yes {linked} {old} {new} l put None p o j h can f = absurd h
