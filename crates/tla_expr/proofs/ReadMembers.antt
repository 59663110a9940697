-- What comes behind `{x \in S`: a filter, or a set with an element.
use Rattle.std.proofs.Common.{◌≡◌, ℕ, ◌≤◌, ◌<◌, Bool, true, false, ◌||◌, not, nat_le, ◌+◌, List, Some, None, Err, refl, sym, ap, ◌∙◌, arith, if◌then◌else◌}
use Rattle.tla_token.specs.declared.place.Place.{Place}
use Rattle.tla_token.specs.declared.rule.Rule.TheVariants.{TooDeep, Syntax}
use Rattle.tla_tree.specs.Tree.{Word}
use Rattle.tla_tree.specs.Lexical.{Mark, TokenView, Token}
use Rattle.tla_tree.specs.Lexical as tk
use Rattle.tla_tree.specs.Nesting.{nesting_in}
use Rattle.tla_tree.specs.Spelling.{Phrase}
use Rattle.tla_tree.specs.Reader.{Readers, then_read, gives, peek, next, tail, took, ended, is_mark, if_fits, room, element, set_rest, set_from, member_rest}
use Rattle.tla_tree.specs.Whole.{whole_in}
use Rattle.tla_tree.proofs.SoundTokens.{mark_is}
use Rattle.expr_nodes.specs.declared.shape.Shape.{Shape}
use Rattle.expr_nodes.specs.ShapeOf.{shape_of}
use Rattle.expr_rows.specs.HasRead.{filtered}
use Rattle.tla_expr.specs.ReadForms.{deep_rule}
use Rattle.expr_nodes.proofs.DepthLemmas.{fits_is}

le_is : (m n : ℕ) → m ≤ n → nat_le m n ≡ true
le_is m n h = grind (arith, h)

lt_is : (m n : ℕ) → n < m → nat_le m n ≡ false
lt_is m n h = grind (arith, h)

pub fits_yes : (linked : Bool) (s : Shape) (b : ℕ) (a : Phrase) → shape_of linked a ≡ s → s.nesting ≤ b → nat_le (nesting_in linked a + 0) b ≡ true
fits_yes linked s b a e h = sym (fits_is _ s b a e) ∙ le_is s.nesting b h

pub fits_no : (linked : Bool) (s : Shape) (b : ℕ) (a : Phrase) → shape_of linked a ≡ s → b < s.nesting → nat_le (nesting_in linked a + 0) b ≡ false
fits_no linked s b a e h = sym (fits_is _ s b a e) ∙ lt_is s.nesting b h

not_ended : {A : Type 0} (e : ℕ) (m : Mark) (f : Place → A) (ts : List Token) → is_mark m (next e ts).kind ≡ false → ended e m f ts ≡ Err (Syntax, ts)
not_ended e m f ts h = ap (λ (t : Bool). then_read (took (if t then Some (next e ts).place else None) ts) (λ p. gives (f p))) h

module _ (linked : Bool) (b : ℕ) (d : Readers) (e : ℕ) (p : Place) (ts : List Token) where
  module _ (s : Shape) (a : Phrase) (is : shape_of linked a ≡ s) where
    pub from_fits : s.nesting ≤ b → set_from (room linked (whole_in linked) (Some b)) d e p (Some a) ts ≡ peek e (set_rest d e p a) ts
    from_fits h = ap (λ (t : Bool). if_fits (t || not (is_mark tk.comma (next e ts).kind || is_mark tk.close_brace (next e ts).kind)) (set_rest d e p a (next e ts).place (next e ts).kind) ts) (fits_yes _ s b a is h)

    pub from_deep : b < s.nesting → set_from (room linked (whole_in linked) (Some b)) d e p (Some a) ts ≡ Err (deep_rule (next e ts).kind, ts)
    from_deep h =
        ap (λ (t : Bool). if_fits (t || not (is_mark tk.comma (next e ts).kind || is_mark tk.close_brace (next e ts).kind)) (set_rest d e p a (next e ts).place (next e ts).kind) ts) (fits_no _ s b a is h)
        ∙ by (next e ts).kind refl
      where
        by : (k : TokenView) → (next e ts).kind ≡ k → if_fits (false || not (is_mark tk.comma k || is_mark tk.close_brace k)) (set_rest d e p a (next e ts).place k) ts ≡ Err (deep_rule k, ts)
        by (tk.mark tk.comma) h = refl
        by (tk.mark tk.close_brace) h = refl
        by k h = not_ended e tk.close_brace _ ts (ap (is_mark tk.close_brace) h)

  module _ (q : Place) (x : Word) (r : Place) (a : Phrase) where
    at_colon : is_mark tk.colon (next e ts).kind ≡ true → peek e (member_rest (room linked (whole_in linked) (Some b)) d e p q x r a) ts ≡ if_fits (nat_le (nesting_in linked a + 0) b) (λ us. filtered d e p q x r a (next e ts).place (tail us)) ts
    at_colon h = ap (λ (k : TokenView). member_rest (room linked (whole_in linked) (Some b)) d e p q x r a (next e ts).place k ts) (mark_is tk.colon (next e ts).kind h)

    pub member_tests : (s : Shape) → shape_of linked a ≡ s → is_mark tk.colon (next e ts).kind ≡ true → s.nesting ≤ b → (us : List Token) → us ≡ tail ts
        → peek e (member_rest (room linked (whole_in linked) (Some b)) d e p q x r a) ts ≡ filtered d e p q x r a (next e ts).place us
    member_tests s is h l us t =
        at_colon h ∙ ap (λ (f : Bool). if_fits f (λ us. filtered d e p q x r a (next e ts).place (tail us)) ts) (fits_yes _ s b a is l)
        ∙ ap (filtered d e p q x r a (next e ts).place) (sym t)

    pub member_deep : (s : Shape) → shape_of linked a ≡ s → is_mark tk.colon (next e ts).kind ≡ true → b < s.nesting → peek e (member_rest (room linked (whole_in linked) (Some b)) d e p q x r a) ts ≡ Err (TooDeep, ts)
    member_deep s is h l = at_colon h ∙ ap (λ (f : Bool). if_fits f (λ us. filtered d e p q x r a (next e ts).place (tail us)) ts) (fits_no _ s b a is l)

    pub member_other : is_mark tk.colon (next e ts).kind ≡ false → peek e (member_rest (room linked (whole_in linked) (Some b)) d e p q x r a) ts ≡ set_from (room linked (whole_in linked) (Some b)) d e p (element q x r a) ts
    member_other h = by (next e ts).kind h
      where
        by : (k : TokenView) → is_mark tk.colon k ≡ false → member_rest (room linked (whole_in linked) (Some b)) d e p q x r a (next e ts).place k ts ≡ set_from (room linked (whole_in linked) (Some b)) d e p (element q x r a) ts
        by (tk.mark tk.colon) h = (let no : true ≡ false = h in absurd cc)
        by k h = refl
