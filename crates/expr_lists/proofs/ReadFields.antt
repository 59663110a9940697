-- Fields, as the code reads them: what was read goes before what is still to come.
use Rattle.std.proofs.Common.{Bool, ◌≡◌, ℕ, max, true, false, List, [], ◌∷◌, ◌++◌, Ok, Some, refl, sym, ap, ◌∙◌, subst, arith}
use Rattle.std.proofs.lemmas.List.{append_assoc}
use Rattle.tla_token.specs.declared.place.Place.{Place}
use Rattle.tla_token.specs.declared.token.Tokens.{Tokens}
use Rattle.tla_tree.specs.Tree.{Tree, no_trees, tree, Word}
use Rattle.tla_tree.specs.Pool.{Keeps}
use Rattle.tla_tree.specs.Lexical.{Mark, TokenView, Token}
use Rattle.tla_tree.specs.Lexical as tk
use Rattle.tla_tree.specs.Spelling.{Field, Phrase, Fields, last_field, field}
use Rattle.tla_tree.specs.Reader.{Out, then_read, ◌>>=◌, gives, peek, next, tail, free, is_mark, a_mark, a_field, fields_by}
use Rattle.tla_tree.specs.Whole.{whole_in}
use Rattle.tla_tree.proofs.Whole.{fields_is}
use Rattle.tla_tree.proofs.SoundTokens.{mark_is}
use Rattle.tla_tree.proofs.PoolNumbers.{Keeps-then}
use Rattle.expr_nodes.specs.declared.cursor.Halt.{Halt}
use Rattle.expr_nodes.specs.declared.make.Read.{Read}
use Rattle.expr_nodes.specs.declared.shape.Shape.{Shape}
use Rattle.expr_nodes.specs.ReadIn.{IsIn, AreFields, Reads, Fails}
use Rattle.expr_nodes.specs.Ahead.{ahead}
use Rattle.expr_nodes.proofs.MakeLemmas.{kept_in}
use Rattle.expr_rows.specs.HasRead.{behind_mark}
use Rattle.expr_rows.proofs.ReadLemmas.{fails_then}
use Rattle.expr_rows.proofs.ReadLinks.{then_two}
use Rattle.expr_rows.proofs.ReadPut.{then_gives, put_on, put_fails}

-- ---- one of them, and one before others
field_alone : {linked : Bool} {ts : List Tree} {x : Read} {a : Phrase} (f : Field) (p : Place) → IsIn linked ts x a → AreFields linked ts (f.text ∷ []) (x.id ∷ []) x.shape.nesting (last_field f p a)
field_alone {linked} f p h = record {
  below = (h.below, tt);
  names = refl;
  trees = ap (λ (t : Tree). tree t no_trees) h.tree;
  nesting = ap (λ (s : Shape). s.nesting) h.shape;
}

field_before : {linked : Bool} {ts : List Tree} {x : Read} {a : Phrase} {xs : List Word} {js : List ℕ} {n : ℕ} {fs : Fields} (f : Field) (p q : Place) → IsIn linked ts x a → AreFields linked ts xs js n fs
    → AreFields linked ts (f.text ∷ xs) (x.id ∷ js) (max x.shape.nesting n) (field f p a q fs)
field_before {linked} f p q h g = record {
  below = (h.below, g.below);
  names = ap (λ (xs : List Word). f.text ∷ xs) g.names;
  trees = (λ i. tree (h.tree i) (g.trees i));
  nesting = (λ i. max (h.shape i).nesting (g.nesting i));
}

-- ---- the fields so far, reading being behind the name of the next one
pub record FieldsSoFar (linked : Bool) (v : Tokens) (ts : List Tree) (b e : ℕ) (m : Mark) (i : ℕ) (xs : List Word) (ids : List ℕ) (n : ℕ) (f : Field) (o : Out Fields) : Type 0 where
  pub before : Fields → Fields
  pub is : o ≡ then_read ((whole_in linked (Some b)).fields e m f (ahead v i)) (λ fs. gives (before fs))
  pub others : (us : List Tree) (ys : List Word) (js : List ℕ) (k : ℕ) (fs : Fields) → Keeps ts us → AreFields linked us ys js k fs → AreFields linked us (xs ++ ys) (ids ++ js) (max n k) (before fs)

module _ (linked : Bool) (v : Tokens) (b e : ℕ) (m : Mark) where
  pub fields_first : (ts : List Tree) (i : ℕ) (f : Field) → FieldsSoFar linked v ts b e m i [] [] 0 f ((whole_in linked (Some b)).fields e m f (ahead v i))
  fields_first ts i f = record {
    before = (λ fs. fs);
    is = sym (then_gives ((whole_in linked (Some b)).fields e m f (ahead v i)));
    others = (λ us ys js k fs l g. (let z : k ≡ max 0 k = omega arith in subst (λ (w : ℕ). AreFields linked us ys js w fs) z g));
  }

  rest_none : (f : Field) (p : Place) (a : Phrase) (q : Place) (k : TokenView) (ts : List Token) → is_mark tk.comma k ≡ false → fields_by (whole_in linked (Some b)) e m f p a q k ts ≡ Ok (last_field f p a, ts)
  rest_none f p a q (tk.mark tk.comma) ts h = (let no : true ≡ false = h in absurd cc)
  rest_none f p a q k ts h = refl

  rest_comma : (f : Field) (p : Place) (a : Phrase) (q : Place) (k : TokenView) (ts : List Token) → is_mark tk.comma k ≡ true
      → fields_by (whole_in linked (Some b)) e m f p a q k ts ≡ then_read (a_field e (tail ts)) (λ g. (whole_in linked (Some b)).fields e m g >>= λ fs. gives (field f p a q fs))
  rest_comma f p a q k ts h = ap (λ (k : TokenView). fields_by (whole_in linked (Some b)) e m f p a q k ts) (mark_is tk.comma k h)

  by_parts : (f : Field) (ts : List Token) → (whole_in linked (Some b)).fields e m f ts ≡ then_read (behind_mark (whole_in linked (Some b)) e m ts) (λ y. peek e (fields_by (whole_in linked (Some b)) e m f y.0 y.1))
  by_parts f ts = fields_is linked (Some b) e m f ts ∙ then_two (a_mark e m ts) (λ p. (whole_in linked (Some b)).expr e free) (λ p a. (p, a)) (λ y. peek e (fields_by (whole_in linked (Some b)) e m f y.0 y.1))

  module _ {ts : List Tree} {i : ℕ} {xs : List Word} {ids : List ℕ} {n : ℕ} {f : Field} {o : Out Fields} (s : FieldsSoFar linked v ts b e m i xs ids n f o) where
    pub part_lost : (w : Halt) → Fails w (behind_mark (whole_in linked (Some b)) e m (ahead v i)) → Fails w o
    part_lost w h = put_fails w s.before _ s.is (subst (Fails w) (sym (by_parts f (ahead v i))) (fails_then w (behind_mark (whole_in linked (Some b)) e m (ahead v i)) (λ y. peek e (fields_by (whole_in linked (Some b)) e m f y.0 y.1)) h))

    module _ {us : List Tree} {x : Read} (k : ℕ) (l : Keeps ts us) (h : Reads (λ (y : Place × Phrase). IsIn linked us x y.1) (ahead v k) (behind_mark (whole_in linked (Some b)) e m (ahead v i))) where
      rest_at : (whole_in linked (Some b)).fields e m f (ahead v i) ≡ peek e (fields_by (whole_in linked (Some b)) e m f h.what.0 h.what.1) (ahead v k)
      rest_at = by_parts f (ahead v i) ∙ ap (λ (o : Out (Place × Phrase)). then_read o (λ y. peek e (fields_by (whole_in linked (Some b)) e m f y.0 y.1))) h.is

      pub fields_end : is_mark tk.comma (next e (ahead v k)).kind ≡ false → Reads (AreFields linked us (xs ++ f.text ∷ []) (ids ++ x.id ∷ []) (max n x.shape.nesting)) (ahead v k) o
      fields_end c = record {
        what = s.before (last_field f h.what.0 h.what.1);
        is = s.is ∙ ap (λ (p : Out Fields). then_read p (λ fs. gives (s.before fs))) (rest_at ∙ rest_none f h.what.0 h.what.1 (next e (ahead v k)).place (next e (ahead v k)).kind (ahead v k) c);
        told = s.others us _ _ _ _ l (field_alone f h.what.0 h.told);
      }

      module _ (d : ℕ) (c : is_mark tk.comma (next e (ahead v k)).kind ≡ true) (t : ahead v d ≡ tail (ahead v k)) where
        more_at : (whole_in linked (Some b)).fields e m f (ahead v i) ≡ then_read (a_field e (ahead v d)) (λ g. (whole_in linked (Some b)).fields e m g >>= λ fs. gives (field f h.what.0 h.what.1 (next e (ahead v k)).place fs))
        more_at =
            rest_at ∙ rest_comma f h.what.0 h.what.1 (next e (ahead v k)).place (next e (ahead v k)).kind (ahead v k) c
            ∙ ap (λ (ts : List Token). then_read (a_field e ts) (λ g. (whole_in linked (Some b)).fields e m g >>= λ fs. gives (field f h.what.0 h.what.1 (next e (ahead v k)).place fs))) (sym t)

        pub field_lost : (w : Halt) → Fails w (a_field e (ahead v d)) → Fails w o
        field_lost w g = put_fails w s.before _ s.is (subst (Fails w) (sym more_at) (fails_then w (a_field e (ahead v d)) _ g))

        pub fields_next : (r : ℕ) (g : Field) → a_field e (ahead v d) ≡ Ok (g, ahead v r) → FieldsSoFar linked v us b e m r (xs ++ f.text ∷ []) (ids ++ x.id ∷ []) (max n x.shape.nesting) g o
        fields_next r g y =
            let p = h.what.0 in
            let a = h.what.1 in
            let q = (next e (ahead v k)).place in
            let on : (whole_in linked (Some b)).fields e m f (ahead v i) ≡ then_read ((whole_in linked (Some b)).fields e m g (ahead v r)) (λ fs. gives (field f p a q fs)) =
            more_at ∙ ap (λ (o : Out Field). then_read o (λ g. (whole_in linked (Some b)).fields e m g >>= λ fs. gives (field f p a q fs))) y in
            record {
              before = (λ fs. s.before (field f p a q fs));
              is = put_on s.before (field f p a q) _ s.is on;
              others = (λ ws ys js w fs u z.
                  let all = s.others ws _ _ _ _ (Keeps-then _ _ _ l u) (field_before f p q (kept_in u h.told) z) in
                  let big : max n (max x.shape.nesting w) ≡ max (max n x.shape.nesting) w = omega arith in
                  rw (append_assoc xs (f.text ∷ []) ys, append_assoc ids (x.id ∷ []) js, sym big) all);
            }
