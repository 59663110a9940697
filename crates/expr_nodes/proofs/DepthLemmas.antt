-- How many forms are open at an operator is told by the shapes of the phrase and of its element.
use Rattle.std.proofs.Common.{◌≡◌, ℕ, ◌+◌, Bool, true, false, ◌||◌, ◌&&◌, not, nat_lt, nat_le, Option, Some, None, refl, sym, ap, ◌∙◌, arith, if◌then◌else◌}
use Rattle.tla_token.specs.declared.place.Place.{Place}
use Rattle.tla_tree.specs.declared.op.Op.{Op}
use Rattle.tla_tree.specs.declared.op.Op.TheVariants as op
use Rattle.expr_nodes.specs.declared.shape.Shape.{Shape}
use Rattle.tla_tree.specs.Tree.{Word}
use Rattle.tla_tree.specs.Rank.{rank}
use Rattle.tla_tree.specs.Nesting.{chain, nesting_in}
use Rattle.tla_tree.specs.Spelling.{Phrase}
use Rattle.tla_tree.specs.Reader.{Limit, Readers, room, behind, element, fewest, so_far, chain_of}
use Rattle.expr_nodes.specs.ShapeOf.{shape_of, stands_left, may_have, element_chain, least_chain}
use Rattle.expr_nodes.proofs.ShapeLemmas.{nesting_is, chain_is, left_is}

pub fits_is : (linked : Bool) (s : Shape) (b : ℕ) (a : Phrase) → shape_of linked a ≡ s → nat_le s.nesting b ≡ nat_le (nesting_in linked a + 0) b
fits_is linked s b a e =
    let n : s.nesting ≡ nesting_in linked a + 0 = sym (ap (λ (s : Shape). s.nesting) e) ∙ nesting_is linked a ∙ plus (nesting_in linked a) in
    ap (λ (n : ℕ). nat_le n b) n
  where
    plus : (n : ℕ) → n ≡ n + 0
    plus n = omega arith

chained : (linked : Bool) (s : Shape) (a : Phrase) → shape_of linked a ≡ s → s.chain ≡ chain a
chained linked s a e = sym (ap (λ (s : Shape). s.chain) e) ∙ chain_is linked a

or_false : (t : Bool) → t ≡ t || false
or_false true = refl
or_false false = refl

of_set : (linked : Bool) (s : Shape) (b : ℕ) (a : Phrase) → shape_of linked a ≡ s → (if nat_le s.nesting b then Some s.chain else None) ≡ (if nat_le (nesting_in linked a + 0) b || not true then Some (chain a) else None)
of_set linked s b a e = (λ i. if (fits_is linked s b a e ∙ or_false (nat_le (nesting_in linked a + 0) b)) i then Some (chained linked s a e i) else None)

of_element : (linked : Bool) (f : Limit → Readers) (b : ℕ) (e : Option Shape) (p : Place) (o : Op) (a : Option Phrase) → may_have linked e a → element_chain b e p o ≡ chain_of (room linked f (Some b)) a p o
of_element linked f b (Some s) p o (Some a) h = (λ i. if not (nat_lt (rank op.In).1 (rank o).0) && (left_is linked (stands_left s p o) s p o a refl h i && fits_is linked s b a h i) then Some (chained linked s a h i) else None)
of_element linked f b (Some s) p o None h = absurd h
of_element linked f b None p o (Some a) h = absurd h
of_element linked f b None p o None h = refl

pub least_is : (linked : Bool) (f : Limit → Readers) (b : ℕ) (s : Shape) (e : Option Shape) (r : Place) (o : Op) (a : Phrase) (p q : Place) (x : Word) → shape_of linked a ≡ s → may_have linked e (element p x q a) → least_chain b s e r o ≡ so_far (room linked f (Some b)) (behind p x q) a r o
least_is linked f b s e r o a p q x h k = (λ i. fewest (of_set linked s b a h i) (of_element linked f b e r o (element p x q a) k i))
