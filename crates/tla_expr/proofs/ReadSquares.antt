-- Forms in square brackets, by what comes behind the `[`.
use Rattle.std.proofs.Common.{◌≡◌, ℕ, ◌+◌, ◌≤◌, ◌<◌, Bool, true, false, ◌||◌, not, nat_le, List, Some, Err, refl, sym, ap, ◌∙◌}
use Rattle.tla_token.specs.declared.place.Place.{Place}
use Rattle.tla_token.specs.declared.rule.Rule.TheVariants.{TooDeep, Syntax}
use Rattle.tla_tree.specs.Tree.{Word}
use Rattle.tla_tree.specs.Lexical.{TokenView, Token}
use Rattle.tla_tree.specs.Lexical as tk
use Rattle.tla_tree.specs.Nesting.{nesting_in}
use Rattle.tla_tree.specs.Spelling.{Phrase, last_bind}
use Rattle.tla_tree.specs.Reader.{Reader, Readers, bind_rest, function_rest, then_read, peek, next, tail, is_mark, is_key, if_fits, room, primary, squares, square_rest, square_from, square_member}
use Rattle.tla_tree.specs.Whole.{whole_in}
use Rattle.tla_tree.proofs.Opened.{in_squares}
use Rattle.tla_tree.proofs.SoundTokens.{mark_is}
use Rattle.expr_nodes.specs.declared.shape.Shape.{Shape}
use Rattle.expr_nodes.specs.ShapeOf.{shape_of}
use Rattle.expr_rows.specs.HasRead.{mapped_to}
use Rattle.expr_binders.specs.Functions.{function_behind}
use Rattle.expr_lists.specs.InSquares.{changed}
use Rattle.tla_expr.specs.ReadForms.{square_rule}
use Rattle.expr_rows.proofs.ReadLinks.{open_at}
use Rattle.tla_expr.proofs.ReadMembers.{fits_yes, fits_no}

except_is : (k : TokenView) → is_key tk.except_key k ≡ true → k ≡ tk.key tk.except_key
except_is (tk.key tk.except_key) h = refl
except_is k h = absurd cc

if_same : (t : Bool) (f g : Reader Phrase) (ts : List Token) → f ts ≡ g ts → if_fits t f ts ≡ if_fits t g ts
if_same true f g ts h = h
if_same false f g ts h = refl

module _ (linked : Bool) (d : Readers) (e : ℕ) (p : Place) (ts : List Token) where
  module _ (a : Phrase) where
    pub to_more : is_mark tk.arrow (next e ts).kind ≡ true → (us : List Token) → us ≡ tail ts → peek e (square_rest d e p a) ts ≡ mapped_to d e p a (next e ts).place us
    to_more h us t = ap (λ (k : TokenView). square_rest d e p a (next e ts).place k ts) (mark_is tk.arrow (next e ts).kind h) ∙ ap (mapped_to d e p a (next e ts).place) (sym t)

    pub except_more : is_key tk.except_key (next e ts).kind ≡ true → (us : List Token) → us ≡ tail ts → peek e (square_rest d e p a) ts ≡ changed d e p a (next e ts).place us
    except_more h us t = ap (λ (k : TokenView). square_rest d e p a (next e ts).place k ts) (except_is (next e ts).kind h) ∙ ap (changed d e p a (next e ts).place) (sym t)

    rest_by : (k : TokenView) → is_mark tk.arrow k ≡ false → is_key tk.except_key k ≡ false → square_rest d e p a (next e ts).place k ts ≡ Err (Syntax, ts)
    rest_by (tk.mark tk.arrow) f g = (let no : true ≡ false = f in absurd cc)
    rest_by (tk.key tk.except_key) f g = (let no : true ≡ false = g in absurd cc)
    rest_by k f g = refl

    pub rest_none : is_mark tk.arrow (next e ts).kind ≡ false → is_key tk.except_key (next e ts).kind ≡ false → peek e (square_rest d e p a) ts ≡ Err (Syntax, ts)
    rest_none f g = rest_by (next e ts).kind f g

  module _ (b : ℕ) (s : Shape) (a : Phrase) (is : shape_of linked a ≡ s) where
    pub square_fits : s.nesting ≤ b → square_from (room linked (whole_in linked) (Some b)) d e p (Some a) ts ≡ peek e (square_rest d e p a) ts
    square_fits h = ap (λ (t : Bool). if_fits (t || not (is_mark tk.arrow (next e ts).kind || is_key tk.except_key (next e ts).kind)) (square_rest d e p a (next e ts).place (next e ts).kind) ts) (fits_yes _ s b a is h)

    pub square_deep : b < s.nesting → square_from (room linked (whole_in linked) (Some b)) d e p (Some a) ts ≡ Err (square_rule (next e ts).kind, ts)
    square_deep h =
        ap (λ (t : Bool). if_fits (t || not (is_mark tk.arrow (next e ts).kind || is_key tk.except_key (next e ts).kind)) (square_rest d e p a (next e ts).place (next e ts).kind) ts) (fits_no _ s b a is h)
        ∙ by (next e ts).kind
      where
        by : (k : TokenView) → if_fits (false || not (is_mark tk.arrow k || is_key tk.except_key k)) (square_rest d e p a (next e ts).place k) ts ≡ Err (square_rule k, ts)
        by (tk.mark tk.arrow) = refl
        by (tk.key tk.except_key) = refl
        by k = refl

    module _ (q : Place) (x : Word) (r : Place) where
      member_by : (k : TokenView) → is_mark tk.maps k || is_mark tk.comma k ≡ true → (next e ts).kind ≡ k → peek e (square_member (room linked (whole_in linked) (Some b)) d e p q x r a) ts ≡ if_fits (nat_le (nesting_in linked a + 0) b) (function_behind d e p q x r a) ts
      member_by (tk.mark tk.maps) h g =
          ap (λ (k : TokenView). square_member (room linked (whole_in linked) (Some b)) d e p q x r a (next e ts).place k ts) g
          ∙ if_same (nat_le (nesting_in linked a + 0) b) (function_rest d e p (last_bind q x r a)) (function_behind d e p q x r a) ts (sym (ap (λ (k : TokenView). then_read (bind_rest d e q x r a (next e ts).place k ts) (λ bs. function_rest d e p bs)) g))
      member_by (tk.mark tk.comma) h g = ap (λ (k : TokenView). square_member (room linked (whole_in linked) (Some b)) d e p q x r a (next e ts).place k ts) g
      member_by k h g = absurd cc

      pub function_fits : is_mark tk.maps (next e ts).kind || is_mark tk.comma (next e ts).kind ≡ true → s.nesting ≤ b → peek e (square_member (room linked (whole_in linked) (Some b)) d e p q x r a) ts ≡ function_behind d e p q x r a ts
      function_fits h l = member_by (next e ts).kind h refl ∙ ap (λ (f : Bool). if_fits f (function_behind d e p q x r a) ts) (fits_yes _ s b a is l)

      pub function_deep : is_mark tk.maps (next e ts).kind || is_mark tk.comma (next e ts).kind ≡ true → b < s.nesting → peek e (square_member (room linked (whole_in linked) (Some b)) d e p q x r a) ts ≡ Err (TooDeep, ts)
      function_deep h l = member_by (next e ts).kind h refl ∙ ap (λ (f : Bool). if_fits f (function_behind d e p q x r a) ts) (fits_no _ s b a is l)

pub square_more : (linked : Bool) (b e : ℕ) (p : Place) (ts us : List Token) (d : ℕ) → d + 1 ≡ b → us ≡ tail ts
    → primary (room linked (whole_in linked) (Some b)) (whole_in linked (Some b)) e p (tk.mark tk.open_square) ts ≡ then_read (peek e (squares (room linked (whole_in linked) (Some d)) (whole_in linked (Some d)) e p) us) (λ a. (whole_in linked (Some b)).postfix e a)
square_more linked b e p ts us d l t =
    open_at d 0 b l (in_squares (whole_in linked (Some b)) e p) ts
    ∙ ap (λ (us : List Token). then_read (peek e (squares (room linked (whole_in linked) (Some d)) (whole_in linked (Some d)) e p) us) (λ a. (whole_in linked (Some b)).postfix e a)) (sym t)
