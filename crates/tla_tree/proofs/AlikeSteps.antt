-- The readers with some steps and those with others do the same up to a token for which both have enough steps.
use Rattle.std.proofs.Common.{◌≡◌, ℕ, zero, suc, ◌+◌, ◌-◌, ◌≤◌, ◌||◌, ◌&&◌, not, nat_eq, nat_le, Bool, true, false, List, Option, Some, None, option_map, refl, ap, subst, arith}
use Rattle.tla_token.specs.declared.place.Place.{Place}
use Rattle.tla_tree.specs.declared.op.Op.{Op}
use Rattle.tla_tree.specs.declared.op.Op.TheVariants as op
use Rattle.tla_tree.specs.Tree.{Word}
use Rattle.tla_tree.specs.Rank.{is_bullet}
use Rattle.tla_tree.specs.Lexical.{Mark, Key, TokenView, Token}
use Rattle.tla_tree.specs.Lexical as tk
use Rattle.tla_tree.specs.Spelling.{Field, Phrase, Binds, Path, call, brackets, apply, select, cases, local, infix_of, prefix_of, index, can_be_head, is_some_path, takes_box}
use Rattle.tla_tree.specs.Reader.{any, room, Room, within, read_by, opened, opened_if, opened_after, if_fits, chain_of, chain_behind, so_far, less, Limit, gives, skip, peek, take, Reader, ◌>>=◌, is_mark, is_key, is_sign, place_if, a_mark, a_key, a_sign, word_of, field_of, a_word, a_field, bullet_of, Context, free, right_of, under, behind, bound, is_free, prefix_by, goes_on, element, Readers, ended, named, from_name, set_rest, image_rest, brace_rest, set_from, member_rest, brace_name, braces, tuples, field_rest, function_rest, square_rest, square_from, bind_rest, square_member, plain_field, square_name, squares, list_if, primary, quantifier, choice_from, keyed, under_by, signed, operand, short_signed, short_by, apply_if, select_if, postfix_by, climb_if, climb_by, phrases_by, binds_by, fields_by, settings_by, setting_if, path_by, bullets_if, arms_other, arms_if, arms_by, locals_by, one_step, no_steps, readers, readers_in}
use Rattle.tla_tree.specs.Nesting.{links, before}
use Rattle.tla_tree.proofs.Opened.{in_apply, in_select}
use Rattle.tla_tree.proofs.Alike.{Within, IsFair, weaker, fair_gives, fair_refuses, fair_too_deep, fair_skip, fair_peek, fair_bind, fair_take}

-- with n steps and more
pub record AreFair (n : ℕ) (r q : Readers) : Type 0 where
  pub expr : (e : ℕ) (c : Context) → IsFair (n + 1) (r.expr e c) (q.expr e c)
  pub short : (e : ℕ) → IsFair n (r.short e) (q.short e)
  pub postfix : (e : ℕ) (a : Phrase) → IsFair (n + 2) (r.postfix e a) (q.postfix e a)
  pub climb : (e : ℕ) (c : Context) (a : Phrase) → IsFair (n + 2) (r.climb e c a) (q.climb e c a)
  pub phrases : (e : ℕ) → IsFair n (r.phrases e) (q.phrases e)
  pub binds : (e : ℕ) (p : Place) (x : Word) → IsFair n (r.binds e p x) (q.binds e p x)
  pub fields : (e : ℕ) (m : Mark) (f : Field) → IsFair n (r.fields e m f) (q.fields e m f)
  pub settings : (e : ℕ) → IsFair n (r.settings e) (q.settings e)
  pub path : (e : ℕ) → IsFair n (r.path e) (q.path e)
  pub bullets : (e : ℕ) (o : Op) (c : ℕ) → IsFair (n + 2) (r.bullets e o c) (q.bullets e o c)
  pub arms : (e : ℕ) → IsFair n (r.arms e) (q.arms e)
  pub locals : (e : ℕ) → IsFair n (r.locals e) (q.locals e)

-- ---- rooms with readers at the same numbers
abbrev pub BothFair : ℕ → Option Readers → Option Readers → Type 0
BothFair n (Some r) (Some q) = AreFair n r q
BothFair n None None = Unit {0}
BothFair n r q = ⊥

pub record FairRooms (n : ℕ) (m w : Room) : Type 0 where
  pub at : (j : ℕ) → BothFair n (m.at j) (w.at j)
  pub fits : (j : ℕ) (a : Phrase) → m.fits j a ≡ w.fits j a
  pub linked : m.linked ≡ w.linked

within_fair : (n : ℕ) (m w : Room) → FairRooms n m w → (j : ℕ) → FairRooms n (within j m) (within j w)
within_fair n m w g j = record { at = λ i. g.at (suc j + i); fits = λ i. g.fits (suc j + i); linked = g.linked }

-- what f reads, of the readers outside and those inside
fair_opened : {A : Type 0} {b : ℕ} (n : ℕ) (m w : Room) → FairRooms n m w → (j : ℕ) (r q : Readers) (f : Readers → Room → Readers → Reader A) → ((i i' : Room) (d d' : Readers) → FairRooms n i i' → AreFair n d d' → IsFair b (f r i d) (f q i' d')) → IsFair b (opened m j (f r)) (opened w j (f q))
fair_opened {A} {b} n m w h j r q f k = by (m.at (suc j)) (w.at (suc j)) (h.at (suc j))
  where
    by : (x y : Option Readers) → BothFair n x y → IsFair b (read_by x (f r (within j m))) (read_by y (f q (within j w)))
    by (Some d) (Some d') z = k (within j m) (within j w) d d' (within_fair n m w h j) z
    by None None z = fair_too_deep
    by (Some d) None z = absurd z
    by None (Some d) z = absurd z

fair_if_fits : {A : Type 0} {b : ℕ} (x y : Bool) {f g : Reader A} → x ≡ y → IsFair b f g → IsFair b (if_fits x f) (if_fits y g)
fair_if_fits {A} {b} x y {f} {g} e h = subst (λ (z : Bool). IsFair b (if_fits x f) (if_fits z g)) e (by x)
  where
    by : (x : Bool) → IsFair b (if_fits x f) (if_fits x g)
    by true = h
    by false = fair_too_deep

-- the same is open at an operator
same_chain : (n : ℕ) (m w : Room) → FairRooms n m w → (a : Option Phrase) (p : Place) (o : Op) → chain_of m a p o ≡ chain_of w a p o
same_chain n m w h (Some a) p o = rw (h.fits 0 a) refl
same_chain n m w h None p o = refl

same_behind : (n : ℕ) (m w : Room) → FairRooms n m w → (c : Context) (a : Phrase) (p : Place) (o : Op) → chain_behind m c a p o ≡ chain_behind w c a p o
same_behind n m w h (behind s x t) a p o = same_chain n m w h (element s x t a) p o
same_behind n m w h c a p o = refl

same_so_far : (n : ℕ) (m w : Room) → FairRooms n m w → (c : Context) (a : Phrase) (p : Place) (o : Op) → so_far m c a p o ≡ so_far w c a p o
same_so_far n m w h c a p o = rw (h.fits 0 a, same_behind n m w h c a p o) refl

fair_opened_after : {A : Type 0} {b : ℕ} (n : ℕ) (m w : Room) → FairRooms n m w → (x y : Option ℕ) → x ≡ y → (r q : Readers) (f : Readers → Room → Readers → Reader A) → ((i i' : Room) (d d' : Readers) → FairRooms n i i' → AreFair n d d' → IsFair b (f r i d) (f q i' d')) → IsFair b (opened_after m x (f r)) (opened_after w y (f q))
fair_opened_after {A} {b} n m w h x y e r q f k = subst (λ (z : Option ℕ). IsFair b (opened_after m x (f r)) (opened_after w z (f q))) e (by x)
  where
    by : (x : Option ℕ) → IsFair b (opened_after m x (f r)) (opened_after w x (f q))
    by (Some j) = fair_opened n m w h j r q f k
    by None = fair_too_deep

-- ---- a token, and then on
module _ {B : Type 0} {b n : ℕ} (l : b ≤ n + 4) where
  fair_mark : (e : ℕ) (m : Mark) {g i : Place → Reader B} → ((p : Place) → IsFair n (g p) (i p)) → IsFair b (a_mark e m >>= g) (a_mark e m >>= i)
  fair_mark e m h = fair_take l h e (place_if (is_mark m))

  fair_key : (e : ℕ) (m : Key) {g i : Place → Reader B} → ((p : Place) → IsFair n (g p) (i p)) → IsFair b (a_key e m >>= g) (a_key e m >>= i)
  fair_key e m h = fair_take l h e (place_if (is_key m))

  fair_sign : (e : ℕ) (o : Op) {g i : Place → Reader B} → ((p : Place) → IsFair n (g p) (i p)) → IsFair b (a_sign e o >>= g) (a_sign e o >>= i)
  fair_sign e o h = fair_take l h e (place_if (is_sign o))

  fair_word : (e : ℕ) {g i : Place × Word → Reader B} → ((x : Place × Word) → IsFair n (g x) (i x)) → IsFair b (a_word e >>= g) (a_word e >>= i)
  fair_word e h = fair_take l h e word_of

  fair_field : (e : ℕ) {g i : Field → Reader B} → ((f : Field) → IsFair n (g f) (i f)) → IsFair b (a_field e >>= g) (a_field e >>= i)
  fair_field e h = fair_take l h e field_of

module _ (n : ℕ) (m w : Room) (r q : Readers) (v : FairRooms n m w) (h : AreFair n r q) where
  -- ---- with n steps
  l0 : n ≤ n + 4
  l0 = omega arith

  l1 : n + 1 ≤ n + 4
  l1 = omega arith

  l2 : n + 2 ≤ n + 4
  l2 = omega arith

  l3 : n + 3 ≤ n + 4
  l3 = omega arith

  expr : (e : ℕ) (c : Context) → IsFair n (r.expr e c) (q.expr e c)
  expr e c = weaker (omega arith) (h.expr e c)

  postfix : (e : ℕ) (a : Phrase) → IsFair n (r.postfix e a) (q.postfix e a)
  postfix e a = weaker (omega arith) (h.postfix e a)

  climb : (e : ℕ) (c : Context) (a : Phrase) → IsFair n (r.climb e c a) (q.climb e c a)
  climb e c a = weaker (omega arith) (h.climb e c a)

  ends : {A : Type 0} (e : ℕ) (m : Mark) (f : Place → A) → IsFair n (ended e m f) (ended e m f)
  ends e m f = fair_mark l0 e m (λ p. fair_gives)

  -- ---- names
  fair_named : (e : ℕ) (p : Place) (x : Word) (s : Place) (k : TokenView) → IsFair n (named m e p x s k) (named w e p x s k)
  fair_named e p x s (tk.mark tk.open_bracket) = fair_opened n m w v 0 r q (λ r i d. skip (d.phrases e >>= λ xs. ended e tk.close_bracket (λ z. call p x s xs z))) (λ i i' d d' u g. fair_skip l0 (fair_bind (g.phrases e) (λ xs. ends e tk.close_bracket _)))
  fair_named e p x s (tk.mark tk.prime) = fair_skip l0 fair_gives
  fair_named e p x s k = fair_gives

  fair_from : (e : ℕ) (p : Place) (x : Word) → IsFair n (from_name m r e p x) (from_name w q e p x)
  fair_from e p x = fair_bind (fair_peek e (fair_named e p x)) (λ a. postfix e a)

  -- ---- braces
  fair_set : (e : ℕ) (p : Place) (a : Phrase) (s : Place) (k : TokenView) → IsFair n (set_rest r e p a s k) (set_rest q e p a s k)
  fair_set e p a s (tk.mark tk.comma) = fair_skip l0 (fair_bind (h.phrases e) (λ xs. ends e tk.close_brace _))
  fair_set e p a s k = ends e tk.close_brace _

  fair_image : (e : ℕ) (p : Place) (a : Phrase) (s : Place) → IsFair n (image_rest r e p a s) (image_rest q e p a s)
  fair_image e p a s = fair_word l0 e (λ x. fair_bind (h.binds e x.0 x.1) (λ bs. ends e tk.close_brace _))

  fair_brace : (e : ℕ) (p : Place) (a : Phrase) (s : Place) (k : TokenView) → IsFair n (brace_rest r e p a s k) (brace_rest q e p a s k)
  fair_brace e p a s (tk.mark tk.colon) = fair_skip l0 (fair_image e p a s)
  fair_brace e p a s k = fair_set e p a s k

  fair_set_from : (e : ℕ) (p : Place) (a : Option Phrase) → IsFair n (set_from m r e p a) (set_from w q e p a)
  fair_set_from e p (Some a) = fair_peek e (λ s k. fair_if_fits (m.fits 0 a || not (is_mark tk.comma k || is_mark tk.close_brace k)) (w.fits 0 a || not (is_mark tk.comma k || is_mark tk.close_brace k)) (ap (λ (b : Bool). b || not (is_mark tk.comma k || is_mark tk.close_brace k)) (v.fits 0 a)) (fair_set e p a s k))
  fair_set_from e p None = fair_refuses

  fair_member : (e : ℕ) (p s : Place) (x : Word) (t : Place) (a : Phrase) (u : Place) (k : TokenView) → IsFair n (member_rest m r e p s x t a u k) (member_rest w q e p s x t a u k)
  fair_member e p s x t a u (tk.mark tk.colon) = fair_if_fits (m.fits 0 a) (w.fits 0 a) (v.fits 0 a) (fair_skip l0 (fair_bind (expr e free) (λ b. ends e tk.close_brace _)))
  fair_member e p s x t a u k = fair_set_from e p (element s x t a)

  fair_brace_name : (e : ℕ) (p s : Place) (x : Word) (t : Place) (k : TokenView) → IsFair n (brace_name m r e p s x t k) (brace_name w q e p s x t k)
  fair_brace_name e p s x t (tk.sign op.In) = fair_skip l0 (fair_bind (expr e (behind s x t)) (λ a. fair_peek e (fair_member e p s x t a)))
  fair_brace_name e p s x t k = fair_bind (fair_from e s x) (λ a. fair_bind (climb e free a) (λ b. fair_peek e (fair_brace e p b)))

  fair_braces : (e : ℕ) (p s : Place) (k : TokenView) → IsFair n (braces m r e p s k) (braces w q e p s k)
  fair_braces e p s (tk.mark tk.close_brace) = fair_skip l0 fair_gives
  fair_braces e p s (tk.word x) = fair_skip l0 (fair_peek e (fair_brace_name e p s x))
  fair_braces e p s k = fair_bind (expr e free) (λ a. fair_peek e (fair_brace e p a))

  -- ---- tuples
  fair_tuples : (e : ℕ) (p s : Place) (k : TokenView) → IsFair n (tuples r e p s k) (tuples q e p s k)
  fair_tuples e p s (tk.mark tk.close_tuple) = fair_skip l0 fair_gives
  fair_tuples e p s k = fair_bind (h.phrases e) (λ xs. ends e tk.close_tuple _)

  -- ---- square brackets
  fair_in_fields : (e : ℕ) (p : Place) (f : Field) (s : Place) (k : TokenView) → IsFair n (field_rest r e p f s k) (field_rest q e p f s k)
  fair_in_fields e p f s (tk.mark tk.maps) = fair_bind (h.fields e tk.maps f) (λ fs. ends e tk.close_square _)
  fair_in_fields e p f s (tk.mark tk.colon) = fair_bind (h.fields e tk.colon f) (λ fs. ends e tk.close_square _)
  fair_in_fields e p f s k = fair_refuses

  fair_function : (e : ℕ) (p : Place) (bs : Binds) → IsFair n (function_rest r e p bs) (function_rest q e p bs)
  fair_function e p bs = fair_mark l0 e tk.maps (λ s. fair_bind (expr e free) (λ a. ends e tk.close_square _))

  fair_square : (e : ℕ) (p : Place) (a : Phrase) (s : Place) (k : TokenView) → IsFair n (square_rest r e p a s k) (square_rest q e p a s k)
  fair_square e p a s (tk.mark tk.arrow) = fair_skip l0 (fair_bind (expr e free) (λ b. ends e tk.close_square _))
  fair_square e p a s (tk.key tk.except_key) = fair_skip l0 (fair_bind (h.settings e) (λ ss. ends e tk.close_square _))
  fair_square e p a s k = fair_refuses

  fair_square_from : (e : ℕ) (p : Place) (a : Option Phrase) → IsFair n (square_from m r e p a) (square_from w q e p a)
  fair_square_from e p (Some a) = fair_peek e (λ s k. fair_if_fits (m.fits 0 a || not (is_mark tk.arrow k || is_key tk.except_key k)) (w.fits 0 a || not (is_mark tk.arrow k || is_key tk.except_key k)) (ap (λ (b : Bool). b || not (is_mark tk.arrow k || is_key tk.except_key k)) (v.fits 0 a)) (fair_square e p a s k))
  fair_square_from e p None = fair_refuses

  fair_bind_rest : (e : ℕ) (p : Place) (x : Word) (s : Place) (a : Phrase) (t : Place) (k : TokenView) → IsFair n (bind_rest r e p x s a t k) (bind_rest q e p x s a t k)
  fair_bind_rest e p x s a t (tk.mark tk.comma) = fair_skip l0 (fair_word l0 e (λ y. fair_bind (h.binds e y.0 y.1) (λ bs. fair_gives)))
  fair_bind_rest e p x s a t k = fair_gives

  fair_square_member : (e : ℕ) (p s : Place) (x : Word) (t : Place) (a : Phrase) (u : Place) (k : TokenView) → IsFair n (square_member m r e p s x t a u k) (square_member w q e p s x t a u k)
  fair_square_member e p s x t a u (tk.mark tk.maps) = fair_if_fits (m.fits 0 a) (w.fits 0 a) (v.fits 0 a) (fair_function e p _)
  fair_square_member e p s x t a u (tk.mark tk.comma) = fair_if_fits (m.fits 0 a) (w.fits 0 a) (v.fits 0 a) (fair_bind (fair_peek e (fair_bind_rest e s x t a)) (λ bs. fair_function e p bs))
  fair_square_member e p s x t a u k = fair_square_from e p (element s x t a)

  fair_square_name : (e : ℕ) (p s : Place) (x : Word) (t : Place) (k : TokenView) → IsFair n (square_name m r e p s x t k) (square_name w q e p s x t k)
  fair_square_name e p s x t (tk.mark tk.maps) = fair_in_fields e p (plain_field s x) t (tk.mark tk.maps)
  fair_square_name e p s x t (tk.mark tk.colon) = fair_in_fields e p (plain_field s x) t (tk.mark tk.colon)
  fair_square_name e p s x t (tk.mark tk.comma) = fair_bind (h.binds e s x) (λ bs. fair_function e p bs)
  fair_square_name e p s x t (tk.sign op.In) = fair_skip l0 (fair_bind (expr e (behind s x t)) (λ a. fair_peek e (fair_square_member e p s x t a)))
  fair_square_name e p s x t k = fair_bind (fair_from e s x) (λ a. fair_bind (climb e free a) (λ b. fair_peek e (fair_square e p b)))

  fair_squares : (e : ℕ) (p s : Place) (k : TokenView) → IsFair n (squares m r e p s k) (squares w q e p s k)
  fair_squares e p s (tk.reserved x) = fair_skip l0 (fair_peek e (fair_in_fields e p _))
  fair_squares e p s (tk.word x) = fair_skip l0 (fair_peek e (fair_square_name e p s x))
  fair_squares e p s k = fair_bind (expr e free) (λ a. fair_peek e (fair_square e p a))

  -- ---- open forms
  fair_quantifier : (e : ℕ) (b : Bool) (p : Place) → IsFair n (quantifier r e b p) (quantifier q e b p)
  fair_quantifier e b p = fair_word l0 e (λ x. fair_bind (h.binds e x.0 x.1) (λ bs. fair_mark l0 e tk.colon (λ s. fair_bind (expr e free) (λ a. fair_gives))))

  fair_choice : (e : ℕ) (p : Place) → IsFair n (choice_from r e p) (choice_from q e p)
  fair_choice e p = fair_bind (expr e free) (λ a. fair_key l0 e tk.then_key (λ s. fair_bind (expr e free) (λ b. fair_key l0 e tk.else_key (λ t. fair_bind (expr e free) (λ c. fair_gives)))))

  fair_under : (b : Bool) (e : ℕ) (o : Op) → IsFair n (under_by b r e o) (under_by b q e o)
  fair_under true e o = expr e (under o)
  fair_under false e o = h.short e

  fair_bullets : (b : Bool) (e : ℕ) (o : Op) (c : ℕ) (p : Place) (a : Phrase) → IsFair n (bullets_if b r e o c p a) (bullets_if b q e o c p a)
  fair_bullets true e o c p a = fair_bind (weaker (omega arith) (h.bullets e o c)) (λ bs. fair_gives)
  fair_bullets false e o c p a = fair_gives

module _ (n : ℕ) (m w : Room) (r q : Readers) (v : FairRooms n m w) (h : AreFair n r q) where
  -- ---- with n steps, again
  k0 : n ≤ n + 4
  k0 = omega arith

  k1 : n + 1 ≤ n + 4
  k1 = omega arith

  k2 : n + 2 ≤ n + 4
  k2 = omega arith

  k3 : n + 3 ≤ n + 4
  k3 = omega arith

  -- ---- primaries
  fair_list : (b : Bool) (e : ℕ) (p : Place) (o : Op) → IsFair (n + 2) (list_if b r e p o) (list_if b q e p o)
  fair_list true e p o = fair_bind (h.bullets e o p.col) (λ bs. h.postfix e _)
  fair_list false e p o = fair_refuses

  fair_primary : (e : ℕ) (p : Place) (k : TokenView) → IsFair (n + 2) (primary m r e p k) (primary w q e p k)
  fair_primary e p (tk.number x) = fair_skip k2 (postfix n m w r q v h e _)
  fair_primary e p (tk.string x) = fair_skip k2 (postfix n m w r q v h e _)
  fair_primary e p (tk.constant c) = fair_skip k2 (postfix n m w r q v h e _)
  fair_primary e p (tk.word x) = fair_skip k2 (fair_from n m w r q v h e p x)
  fair_primary e p (tk.mark tk.open_bracket) = fair_opened n m w v 0 r q (λ r i d. skip (d.expr e free >>= λ a. a_mark e tk.close_bracket >>= λ s. r.postfix e (brackets p a s))) (λ i i' d d' u g. fair_skip k2 (fair_bind (expr n i i' d d' u g e free) (λ a. fair_mark k0 e tk.close_bracket (λ s. postfix n m w r q v h e _))))
  fair_primary e p (tk.mark tk.open_brace) = fair_opened n m w v 0 r q (λ r i d. skip (peek e (braces i d e p) >>= λ a. r.postfix e a)) (λ i i' d d' u g. fair_skip k2 (fair_bind (fair_peek e (fair_braces n i i' d d' u g e p)) (λ a. postfix n m w r q v h e a)))
  fair_primary e p (tk.mark tk.open_tuple) = fair_opened n m w v 0 r q (λ r i d. skip (peek e (tuples d e p) >>= λ a. r.postfix e a)) (λ i i' d d' u g. fair_skip k2 (fair_bind (fair_peek e (fair_tuples n i i' d d' u g e p)) (λ a. postfix n m w r q v h e a)))
  fair_primary e p (tk.mark tk.open_square) = fair_opened n m w v 0 r q (λ r i d. skip (peek e (squares i d e p) >>= λ a. r.postfix e a)) (λ i i' d d' u g. fair_skip k2 (fair_bind (fair_peek e (fair_squares n i i' d d' u g e p)) (λ a. postfix n m w r q v h e a)))
  fair_primary e p (tk.sign o) = fair_list (is_bullet o) e p o
  fair_primary e p k = fair_refuses

  fair_keyed : (e : ℕ) (p : Place) (k : Key) → IsFair (n + 2) (keyed m e p k) (keyed w e p k)
  fair_keyed e p tk.if_key = fair_opened n m w v 0 r q (λ r i d. skip (choice_from d e p)) (λ i i' d d' u g. fair_skip k2 (fair_choice n i i' d d' u g e p))
  fair_keyed e p tk.case_key = fair_opened n m w v 0 r q (λ r i d. skip (d.arms e >>= λ xs. gives (cases p xs))) (λ i i' d d' u g. fair_skip k2 (fair_bind (g.arms e) (λ xs. fair_gives)))
  fair_keyed e p tk.let_key = fair_opened n m w v 0 r q (λ r i d. skip (d.locals e >>= λ ls. a_key e tk.in_key >>= λ s. d.expr e free >>= λ a. gives (local p ls s a))) (λ i i' d d' u g. fair_skip k2 (fair_bind (g.locals e) (λ ls. fair_key k0 e tk.in_key (λ s. fair_bind (expr n i i' d d' u g e free) (λ a. fair_gives)))))
  fair_keyed e p tk.for_all_key = fair_opened n m w v 0 r q (λ r i d. skip (quantifier d e true p)) (λ i i' d d' u g. fair_skip k2 (fair_quantifier n i i' d d' u g e true p))
  fair_keyed e p tk.exists_key = fair_opened n m w v 0 r q (λ r i d. skip (quantifier d e false p)) (λ i i' d d' u g. fair_skip k2 (fair_quantifier n i i' d d' u g e false p))
  fair_keyed e p k = fair_refuses

  -- ---- operands
  fair_signed : (e : ℕ) (c : Context) (p : Place) (o : Op) (s : Option Op) → IsFair (n + 2) (signed m r e c p o s) (signed w q e c p o s)
  fair_signed e c p o (Some s) = fair_opened n m w v 0 r q (λ r i d. skip (under_by (is_free c s) d e s >>= λ a. gives (prefix_of p s a))) (λ i i' d d' u g. fair_skip k2 (fair_bind (fair_under n i i' d d' u g (is_free c s) e s) (λ a. fair_gives)))
  fair_signed e c p o None = fair_primary e p (tk.sign o)

  fair_operand : (e : ℕ) (c : Context) (p : Place) (k : TokenView) → IsFair (n + 2) (operand m r e c p k) (operand w q e c p k)
  fair_operand e c p (tk.key k) = fair_keyed e p k
  fair_operand e c p (tk.sign o) = fair_signed e c p o (prefix_by o)
  fair_operand e c p k = fair_primary e p k

  fair_short_signed : (e : ℕ) (p : Place) (o : Op) (s : Option Op) → IsFair (n + 2) (short_signed m r e p o s) (short_signed w q e p o s)
  fair_short_signed e p o (Some s) = fair_opened n m w v 0 r q (λ r i d. skip (d.short e >>= λ a. gives (prefix_of p s a))) (λ i i' d d' u g. fair_skip k2 (fair_bind (g.short e) (λ a. fair_gives)))
  fair_short_signed e p o None = fair_primary e p (tk.sign o)

  fair_short : (e : ℕ) (p : Place) (k : TokenView) → IsFair (n + 2) (short_by m r e p k) (short_by w q e p k)
  fair_short e p (tk.sign o) = fair_short_signed e p o (prefix_by o)
  fair_short e p k = fair_primary e p k

  -- ---- loops
  fair_apply : (b : Bool) (e : ℕ) (a : Phrase) (p : Place) → IsFair (n + 3) (apply_if b m r e a p) (apply_if b w q e a p)
  fair_apply true e a p = subst (λ (t : Bool). IsFair (n + 3) (opened m (before m.linked a) (in_apply r e a p)) (opened w (before t a) (in_apply q e a p))) v.linked
      (fair_opened n m w v (before m.linked a) r q (λ r i d. skip (d.phrases e >>= λ xs. a_mark e tk.close_square >>= λ s. r.postfix e (apply a p xs s))) (λ i i' d d' u g. fair_skip k3 (fair_bind (g.phrases e) (λ xs. fair_mark k0 e tk.close_square (λ s. postfix n m w r q v h e _)))))
  fair_apply false e a p = fair_gives

  fair_select : (b : Bool) (e : ℕ) (a : Phrase) (p : Place) → IsFair (n + 3) (select_if b m r e a p) (select_if b w q e a p)
  fair_select true e a p = subst (λ (t : Bool). IsFair (n + 3) (opened_if m.linked m r (links a) (in_select r e a p)) (opened_if t w q (links a) (in_select q e a p))) v.linked (by m.linked)
    where
      by : (t : Bool) → IsFair (n + 3) (opened_if t m r (links a) (in_select r e a p)) (opened_if t w q (links a) (in_select q e a p))
      by true = fair_opened n m w v (links a) r q (λ r i d. skip (a_field e >>= λ f. r.postfix e (select a p f))) (λ i i' d d' u g. fair_skip k3 (fair_field k0 e (λ f. postfix n m w r q v h e _)))
      by false = fair_skip k3 (fair_field k0 e (λ f. postfix n m w r q v h e _))
  fair_select false e a p = fair_gives

  fair_postfix : (e : ℕ) (a : Phrase) (p : Place) (k : TokenView) → IsFair (n + 3) (postfix_by m r e a p k) (postfix_by w q e a p k)
  fair_postfix e a p (tk.mark tk.open_square) = fair_apply (can_be_head a p) e a p
  fair_postfix e a p (tk.mark tk.dot) = fair_select (can_be_head a p) e a p
  fair_postfix e a p k = fair_gives

  fair_climb_if : (f : Bool) (e : ℕ) (c : Context) (a : Phrase) (p : Place) (o : Op) → IsFair (n + 3) (climb_if f m r e c a p o) (climb_if f w q e c a p o)
  fair_climb_if true e c a p o = fair_opened_after n m w v (so_far m c a p o) (so_far w c a p o) (same_so_far n m w v c a p o) r q (λ r i d. skip (d.expr e (right_of o) >>= λ s. r.climb e c (infix_of a p o s))) (λ i i' d d' u g. fair_skip k3 (fair_bind (expr n i i' d d' u g e (right_of o)) (λ s. climb n m w r q v h e c _)))
  fair_climb_if false e c a p o = fair_gives

  fair_climb : (e : ℕ) (c : Context) (a : Phrase) (p : Place) (k : TokenView) → IsFair (n + 3) (climb_by m r e c a p k) (climb_by w q e c a p k)
  fair_climb e c a p (tk.sign o) = fair_climb_if (goes_on (bound c) a p o) e c a p o
  fair_climb e c a p k = fair_gives

  -- ---- lists
  fair_phrases : (e : ℕ) (a : Phrase) (p : Place) (k : TokenView) → IsFair (n + 3) (phrases_by r e a p k) (phrases_by q e a p k)
  fair_phrases e a p (tk.mark tk.comma) = fair_skip k3 (fair_bind (h.phrases e) (λ xs. fair_gives))
  fair_phrases e a p k = fair_gives

  fair_binds : (e : ℕ) (p : Place) (x : Word) (s : Place) (k : TokenView) → IsFair (n + 3) (binds_by r e p x s k) (binds_by q e p x s k)
  fair_binds e p x s (tk.sign op.In) = fair_skip k3 (fair_bind (expr n m w r q v h e free) (λ a. fair_peek e (fair_bind_rest n m w r q v h e p x s a)))
  fair_binds e p x s (tk.mark tk.comma) = fair_skip k3 (fair_word k0 e (λ y. fair_bind (h.binds e y.0 y.1) (λ bs. fair_gives)))
  fair_binds e p x s k = fair_refuses

  fair_fields : (e : ℕ) (m : Mark) (f : Field) (p : Place) (a : Phrase) (s : Place) (k : TokenView) → IsFair n (fields_by r e m f p a s k) (fields_by q e m f p a s k)
  fair_fields e m f p a s (tk.mark tk.comma) = fair_skip k0 (fair_field k0 e (λ g. fair_bind (h.fields e m g) (λ fs. fair_gives)))
  fair_fields e m f p a s k = fair_gives

  fair_settings : (e : ℕ) (p : Place) (path : Path) (s : Place) (a : Phrase) (t : Place) (k : TokenView) → IsFair n (settings_by r e p path s a t k) (settings_by q e p path s a t k)
  fair_settings e p path s a t (tk.mark tk.comma) = fair_skip k0 (fair_bind (h.settings e) (λ ss. fair_gives))
  fair_settings e p path s a t k = fair_gives

  fair_setting : (b : Bool) (e : ℕ) (p : Place) (path : Path) → IsFair n (setting_if b r e p path) (setting_if b q e p path)
  fair_setting true e p path = fair_sign k0 e op.Equal (λ s. fair_bind (expr n m w r q v h e free) (λ a. fair_peek e (fair_settings e p path s a)))
  fair_setting false e p path = fair_refuses

  fair_path : (e : ℕ) (p : Place) (k : TokenView) → IsFair (n + 3) (path_by m r e p k) (path_by w q e p k)
  fair_path e p (tk.mark tk.open_square) = fair_opened n m w v 0 r q (λ r i d. skip (d.phrases e >>= λ xs. a_mark e tk.close_square >>= λ s. r.path e >>= λ path. gives (index p xs s path))) (λ i i' d d' u g. fair_skip k3 (fair_bind (g.phrases e) (λ xs. fair_mark k0 e tk.close_square (λ s. fair_bind (h.path e) (λ path. fair_gives)))))
  fair_path e p (tk.mark tk.dot) = fair_skip k3 (fair_field k0 e (λ f. fair_bind (h.path e) (λ path. fair_gives)))
  fair_path e p k = fair_gives

  fair_other : (e : ℕ) (a : Phrase) (p : Place) (b : Phrase) (s t : Place) (k : TokenView) → IsFair n (arms_other r e a p b s t k) (arms_other q e a p b s t k)
  fair_other e a p b s t (tk.key tk.other_key) = fair_skip k0 (fair_mark k0 e tk.arrow (λ u. fair_bind (expr n m w r q v h e free) (λ c. fair_gives)))
  fair_other e a p b s t k = fair_bind (h.arms e) (λ xs. fair_gives)

  fair_arms_if : (m : Bool) (e : ℕ) (a : Phrase) (p : Place) (b : Phrase) (s : Place) → IsFair (n + 3) (arms_if m r e a p b s) (arms_if m q e a p b s)
  fair_arms_if true e a p b s = fair_gives
  fair_arms_if false e a p b s = fair_skip k3 (fair_peek e (fair_other e a p b s))

  fair_arms : (e : ℕ) (a : Phrase) (p : Place) (b : Phrase) (s : Place) (k : TokenView) → IsFair (n + 3) (arms_by r e a p b s k) (arms_by q e a p b s k)
  fair_arms e a p b s (tk.mark tk.box) = fair_arms_if (takes_box s.col b) e a p b s
  fair_arms e a p b s k = fair_gives

  fair_locals : (e : ℕ) (p : Place) (x : Word) (s : Place) (a : Phrase) (t : Place) (k : TokenView) → IsFair n (locals_by r e p x s a t k) (locals_by q e p x s a t k)
  fair_locals e p x s a t (tk.word y) = fair_bind (h.locals e) (λ ls. fair_gives)
  fair_locals e p x s a t k = fair_gives

  -- ---- one step more
  fair_step : AreFair (suc n) (one_step m r) (one_step w q)
  fair_step = record {
    expr = λ e c. weaker (omega arith) (fair_bind (fair_peek e (fair_operand e c)) (λ a. h.climb e c a));
    short = λ e. weaker (omega arith) (fair_peek e (fair_short e));
    postfix = λ e a. weaker (omega arith) (fair_peek e (fair_postfix e a));
    climb = λ e c a. weaker (omega arith) (fair_peek e (fair_climb e c a));
    phrases = λ e. weaker (omega arith) (fair_bind (h.expr e free) (λ a. fair_peek e (λ p k. weaker (omega arith) (fair_phrases e a p k))));
    binds = λ e p x. weaker (omega arith) (fair_peek e (fair_binds e p x));
    fields = λ e z f. weaker (omega arith) (fair_mark k3 e z (λ p. fair_bind (expr n m w r q v h e free) (λ a. fair_peek e (fair_fields e z f p a))));
    settings = λ e. weaker (omega arith) (fair_mark k3 e tk.bang (λ p. fair_bind (h.path e) (λ path. fair_setting (is_some_path path) e p path)));
    path = λ e. weaker (omega arith) (fair_peek e (fair_path e));
    bullets = λ e o c. weaker (omega arith) (fair_opened n m w v 0 r q (λ r i d. take e (bullet_of o c) >>= λ p. d.expr c free >>= λ a. peek e (λ s k. bullets_if (is_sign o k && nat_eq c s.col) d e o c p a)) (λ i i' d d' u g. fair_take k3 (λ p. fair_bind (expr n i i' d d' u g c free) (λ a. fair_peek e (λ s k. fair_bullets n i i' d d' u g (is_sign o k && nat_eq c s.col) e o c p a))) e (bullet_of o c)));
    arms = λ e. weaker (omega arith) (fair_bind (h.expr e free) (λ a. fair_mark k1 e tk.arrow (λ p. fair_bind (expr n m w r q v h e free) (λ b. fair_peek e (λ s k. weaker (omega arith) (fair_arms e a p b s k))))));
    locals = λ e. weaker (omega arith) (fair_word k3 e (λ x. fair_mark k0 e tk.defines (λ s. fair_bind (expr n m w r q v h e free) (λ a. fair_peek e (fair_locals e x.0 x.1 s a)))));
  }

-- ---- without steps
empty : {A : Type 0} {b : ℕ} {p q : Reader A} → b ≤ 3 → ((ts : List Token) → Within ts (p ts)) → ((ts : List Token) → Within ts (q ts)) → IsFair b p q
empty l f g = record { left = f; right = g; alike = λ k t r s m. absurd (omega (arith, l, m)) }

module _ (r q : Readers) (f : AreFair 0 r r) (g : AreFair 0 q q) where
  fair_nothing : AreFair 0 r q
  fair_nothing = record {
    expr = λ e c. empty (omega arith) (f.expr e c).left (g.expr e c).left;
    short = λ e. empty (omega arith) (f.short e).left (g.short e).left;
    postfix = λ e a. empty (omega arith) (f.postfix e a).left (g.postfix e a).left;
    climb = λ e c a. empty (omega arith) (f.climb e c a).left (g.climb e c a).left;
    phrases = λ e. empty (omega arith) (f.phrases e).left (g.phrases e).left;
    binds = λ e p x. empty (omega arith) (f.binds e p x).left (g.binds e p x).left;
    fields = λ e m x. empty (omega arith) (f.fields e m x).left (g.fields e m x).left;
    settings = λ e. empty (omega arith) (f.settings e).left (g.settings e).left;
    path = λ e. empty (omega arith) (f.path e).left (g.path e).left;
    bullets = λ e o c. empty (omega arith) (f.bullets e o c).left (g.bullets e o c).left;
    arms = λ e. empty (omega arith) (f.arms e).left (g.arms e).left;
    locals = λ e. empty (omega arith) (f.locals e).left (g.locals e).left;
  }

fewer : (n : ℕ) (r q : Readers) → AreFair n r q → AreFair 0 r q
fewer n r q h = record {
  expr = λ e c. weaker (omega arith) (h.expr e c);
  short = λ e. weaker (omega arith) (h.short e);
  postfix = λ e a. weaker (omega arith) (h.postfix e a);
  climb = λ e c a. weaker (omega arith) (h.climb e c a);
  phrases = λ e. weaker (omega arith) (h.phrases e);
  binds = λ e p x. weaker (omega arith) (h.binds e p x);
  fields = λ e m x. weaker (omega arith) (h.fields e m x);
  settings = λ e. weaker (omega arith) (h.settings e);
  path = λ e. weaker (omega arith) (h.path e);
  bullets = λ e o c. weaker (omega arith) (h.bullets e o c);
  arms = λ e. weaker (omega arith) (h.arms e);
  locals = λ e. weaker (omega arith) (h.locals e);
}

fair_none : AreFair 0 no_steps no_steps
fair_none = record {
  expr = λ e c. fair_refuses;
  short = λ e. fair_refuses;
  postfix = λ e a. fair_refuses;
  climb = λ e c a. fair_refuses;
  phrases = λ e. fair_refuses;
  binds = λ e p x. fair_refuses;
  fields = λ e m f. fair_refuses;
  settings = λ e. fair_refuses;
  path = λ e. fair_refuses;
  bullets = λ e o c. fair_refuses;
  arms = λ e. fair_refuses;
  locals = λ e. fair_refuses;
}

-- rooms of one limit
fair_any : (n : ℕ) (r q : Readers) → AreFair n r q → FairRooms n (any r) (any q)
fair_any n r q h = record { at = λ j. h; fits = λ j a. refl; linked = refl }

fair_room : (k : ℕ) (f g : Limit → Readers) → ((l : Limit) → AreFair k (f l) (g l)) → (l : Limit) → FairRooms k (room true f l) (room true g l)
fair_room k f g h None = fair_any k (f None) (g None) (h None)
fair_room k f g h (Some b) = record { at = λ j. by (nat_le j b) j; fits = λ j a. refl; linked = refl }
  where
    by : (z : Bool) (j : ℕ) → BothFair k (option_map f (less z b j)) (option_map g (less z b j))
    by true j = h (Some (b - j))
    by false j = tt

-- within the tokens
fair_same : (n : ℕ) (l : Limit) → AreFair n (readers n l) (readers n l)
unfolding readers_in
fair_same zero l = fair_none
fair_same (suc n) l = fair_step n (room true (readers n) l) (room true (readers n) l) (readers n l) (readers n l) (fair_room n (readers n) (readers n) (fair_same n) l) (fair_same n l)

-- within one limit, or without
pub fair_readers : (b n m : ℕ) → b ≤ n → b ≤ m → (l : Limit) → AreFair b (readers n l) (readers m l)
unfolding readers_in
fair_readers zero n m i j l = fair_nothing (readers n l) (readers m l) (fewer n (readers n l) (readers n l) (fair_same n l)) (fewer m (readers m l) (readers m l) (fair_same m l))
fair_readers (suc b) zero m i j l = absurd (omega (arith, i))
fair_readers (suc b) (suc n) zero i j l = absurd (omega (arith, j))
fair_readers (suc b) (suc n) (suc m) i j l = fair_step b (room true (readers n) l) (room true (readers m) l) (readers n l) (readers m l) (fair_room b (readers n) (readers m) (fair_readers b n m (omega (arith, i)) (omega (arith, j))) l) (fair_readers b n m (omega (arith, i)) (omega (arith, j)) l)
