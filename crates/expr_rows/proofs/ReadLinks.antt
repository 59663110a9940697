-- Applications and fields of a primary, one after the other.
use Rattle.std.proofs.Common.{◌≡◌, ℕ, suc, ◌+◌, ◌-◌, ◌≤◌, Bool, true, false, List, Ok, Err, Some, refl, sym, ap, ◌∙◌, arith}
use Rattle.tla_token.specs.declared.rule.Rule.TheVariants.{TooDeep}
use Rattle.tla_tree.specs.Lexical.{Mark, TokenView, Token}
use Rattle.tla_tree.specs.Lexical as tk
use Rattle.tla_tree.specs.Nesting.{links, before}
use Rattle.tla_tree.specs.Spelling.{Phrase, apply, select, can_be_head}
use Rattle.tla_tree.specs.Reader.{Out, Reader, Readers, Room, then_read, ◌>>=◌, gives, next, tail, a_mark, a_field, is_mark, opened, opened_if, room, apply_if, select_if, postfix_by}
use Rattle.tla_tree.specs.Whole.{whole_in}
use Rattle.tla_tree.proofs.Opened.{in_apply, in_select}
use Rattle.tla_tree.proofs.Rooms.{opened_is, opened_not}
use Rattle.tla_tree.proofs.SoundTokens.{mark_is}
use Rattle.tla_tree.proofs.Whole.{postfix_is}
use Rattle.expr_nodes.specs.ShapeOf.{field_links}
use Rattle.expr_rows.specs.HasRead.{applied, selected}

-- ---- one thing after two others
pub then_one : {A B C : Type 0} (o : Out A) (f : A → B) (k : B → Reader C) → then_read o (λ a. k (f a)) ≡ then_read (then_read o (λ a. gives (f a))) k
then_one (Ok x) f k = refl
then_one (Err s) f k = refl

pub then_two : {A B C D : Type 0} (o : Out A) (m : A → Reader B) (f : A → B → C) (k : C → Reader D)
    → then_read o (λ a. m a >>= λ b. k (f a b)) ≡ then_read (then_read o (λ a. m a >>= λ b. gives (f a b))) k
then_two (Ok x) m f k = then_one (m x.0 x.1) (f x.0) k
then_two (Err s) m f k = refl

-- ---- where a form opens
pub open_at : {linked : Bool} {A : Type 0} (d k b : ℕ) → d + suc k ≡ b → (g : Room → Readers → Reader A) (ts : List Token) → opened (room linked (whole_in linked) (Some b)) k g ts ≡ g (room linked (whole_in linked) (Some d)) (whole_in linked (Some d)) ts
open_at {linked} d k b h g ts =
    let e : b - suc k ≡ d = omega (arith, h) in
    let l : suc k ≤ b = omega (arith, h) in
    ap (λ (r : Reader _). r ts) (opened_is linked (whole_in linked) k b l g) ∙ ap (λ (n : ℕ). g (room linked (whole_in linked) (Some n)) (whole_in linked (Some n)) ts) e

pub open_not : (linked : Bool) {A : Type 0} (k b : ℕ) → b ≤ k → (g : Room → Readers → Reader A) (ts : List Token) → opened (room linked (whole_in linked) (Some b)) k g ts ≡ Err (TooDeep, ts)
open_not linked k b h g ts = ap (λ (r : Reader _). r ts) (opened_not linked (whole_in linked) k b g h)

-- ---- steps
module _ (linked : Bool) (b e : ℕ) (i : Phrase) (ts : List Token) where
  at_mark : (m : Mark) → is_mark m (next e ts).kind ≡ true → (whole_in linked (Some b)).postfix e i ts ≡ postfix_by (room linked (whole_in linked) (Some b)) (whole_in linked (Some b)) e i (next e ts).place (tk.mark m) ts
  at_mark m h = postfix_is linked (Some b) e i ts ∙ ap (λ (k : TokenView). postfix_by (room linked (whole_in linked) (Some b)) (whole_in linked (Some b)) e i (next e ts).place k ts) (mark_is m (next e ts).kind h)

  pub link_none : can_be_head i (next e ts).place ≡ false → (whole_in linked (Some b)).postfix e i ts ≡ Ok (i, ts)
  link_none h = postfix_is linked (Some b) e i ts ∙ by (next e ts).kind
    where
      by : (k : TokenView) → postfix_by (room linked (whole_in linked) (Some b)) (whole_in linked (Some b)) e i (next e ts).place k ts ≡ Ok (i, ts)
      by (tk.mark tk.open_square) = ap (λ (t : Bool). apply_if t (room linked (whole_in linked) (Some b)) (whole_in linked (Some b)) e i (next e ts).place ts) h
      by (tk.mark tk.dot) = ap (λ (t : Bool). select_if t (room linked (whole_in linked) (Some b)) (whole_in linked (Some b)) e i (next e ts).place ts) h
      by k = refl

  pub link_other : is_mark tk.open_square (next e ts).kind ≡ false → is_mark tk.dot (next e ts).kind ≡ false → (whole_in linked (Some b)).postfix e i ts ≡ Ok (i, ts)
  link_other f g = postfix_is linked (Some b) e i ts ∙ by (next e ts).kind f g
    where
      by : (k : TokenView) → is_mark tk.open_square k ≡ false → is_mark tk.dot k ≡ false → postfix_by (room linked (whole_in linked) (Some b)) (whole_in linked (Some b)) e i (next e ts).place k ts ≡ Ok (i, ts)
      by (tk.mark tk.open_square) f g = (let no : true ≡ false = f in absurd cc)
      by (tk.mark tk.dot) f g = (let no : true ≡ false = g in absurd cc)
      by k f g = refl

  module _ (c : can_be_head i (next e ts).place ≡ true) where
    at_apply : is_mark tk.open_square (next e ts).kind ≡ true → (whole_in linked (Some b)).postfix e i ts ≡ opened (room linked (whole_in linked) (Some b)) (before linked i) (in_apply (whole_in linked (Some b)) e i (next e ts).place) ts
    at_apply h = at_mark tk.open_square h ∙ ap (λ (t : Bool). apply_if t (room linked (whole_in linked) (Some b)) (whole_in linked (Some b)) e i (next e ts).place ts) c

    at_select : is_mark tk.dot (next e ts).kind ≡ true → (whole_in linked (Some b)).postfix e i ts ≡ opened_if linked (room linked (whole_in linked) (Some b)) (whole_in linked (Some b)) (links i) (in_select (whole_in linked (Some b)) e i (next e ts).place) ts
    at_select h = at_mark tk.dot h ∙ ap (λ (t : Bool). select_if t (room linked (whole_in linked) (Some b)) (whole_in linked (Some b)) e i (next e ts).place ts) c

    pub apply_deep : is_mark tk.open_square (next e ts).kind ≡ true → b ≤ before linked i → (whole_in linked (Some b)).postfix e i ts ≡ Err (TooDeep, ts)
    apply_deep h l = at_apply h ∙ open_not _ (before linked i) b l (in_apply (whole_in linked (Some b)) e i (next e ts).place) ts

    -- where links count, a field opens a form
    pub select_deep : linked ≡ true → is_mark tk.dot (next e ts).kind ≡ true → b ≤ links i → (whole_in linked (Some b)).postfix e i ts ≡ Err (TooDeep, ts)
    select_deep f h l = at_select h ∙ ap (λ (t : Bool). opened_if t (room linked (whole_in linked) (Some b)) (whole_in linked (Some b)) (links i) (in_select (whole_in linked (Some b)) e i (next e ts).place) ts) f ∙ open_not _ (links i) b l (in_select (whole_in linked (Some b)) e i (next e ts).place) ts

    pub apply_more : is_mark tk.open_square (next e ts).kind ≡ true → (d : ℕ) → d + suc (before linked i) ≡ b → (us : List Token) → us ≡ tail ts
        → (whole_in linked (Some b)).postfix e i ts ≡ then_read (applied (whole_in linked (Some d)) e i (next e ts).place us) (λ j. (whole_in linked (Some b)).postfix e j)
    apply_more h d l us t =
        at_apply h ∙ open_at d (before linked i) b l (in_apply (whole_in linked (Some b)) e i (next e ts).place) ts
        ∙ then_two ((whole_in linked (Some d)).phrases e (tail ts)) (λ xs. a_mark e tk.close_square) (λ xs q. apply i (next e ts).place xs q) (λ j. (whole_in linked (Some b)).postfix e j)
        ∙ ap (λ (us : List Token). then_read (applied (whole_in linked (Some d)) e i (next e ts).place us) (λ j. (whole_in linked (Some b)).postfix e j)) (sym t)

    selected_in : (w : Bool) (d : ℕ) → d + field_links w (links i) ≡ b → opened_if w (room linked (whole_in linked) (Some b)) (whole_in linked (Some b)) (links i) (in_select (whole_in linked (Some b)) e i (next e ts).place) ts ≡ (a_field e >>= λ f. (whole_in linked (Some b)).postfix e (select i (next e ts).place f)) (tail ts)
    selected_in true d l = open_at d (links i) b (omega (arith, l)) (in_select (whole_in linked (Some b)) e i (next e ts).place) ts
    selected_in false d l = refl

    pub select_more : is_mark tk.dot (next e ts).kind ≡ true → (d : ℕ) → d + field_links linked (links i) ≡ b → (us : List Token) → us ≡ tail ts
        → (whole_in linked (Some b)).postfix e i ts ≡ then_read (selected e i (next e ts).place us) (λ j. (whole_in linked (Some b)).postfix e j)
    select_more h d l us t =
        at_select h ∙ selected_in linked d l
        ∙ then_one (a_field e (tail ts)) (λ f. select i (next e ts).place f) (λ j. (whole_in linked (Some b)).postfix e j)
        ∙ ap (λ (us : List Token). then_read (selected e i (next e ts).place us) (λ j. (whole_in linked (Some b)).postfix e j)) (sym t)
