-- Enough steps are enough: with more of them each reader does the same, within a limit as without.
use Rattle.std.proofs.Common.{◌≡◌, ℕ, suc, ◌+◌, ◌-◌, ◌≤◌, ◌||◌, ◌&&◌, not, nat_eq, nat_le, Bool, true, false, Option, Some, None, refl, ap, subst, arith, option_map}
use Rattle.tla_token.specs.declared.place.Place.{Place}
use Rattle.tla_tree.specs.declared.op.Op.{Op}
use Rattle.tla_tree.specs.declared.op.Op.TheVariants as op
use Rattle.tla_tree.specs.Tree.{Word}
use Rattle.tla_tree.specs.Rank.{is_bullet}
use Rattle.tla_tree.specs.Lexical.{Mark, Key, TokenView}
use Rattle.tla_tree.specs.Lexical as tk
use Rattle.tla_tree.specs.Nesting.{links, before}
use Rattle.tla_tree.specs.Spelling.{Field, Phrase, Binds, Path, can_be_head, is_some_path, takes_box}
use Rattle.tla_tree.specs.Reader.{Limit, Room, room, less, within, opened, opened_if, opened_after, read_by, so_far, chain_of, chain_behind, Reader, ◌>>=◌, is_mark, is_key, is_sign, place_if, a_mark, a_key, a_sign, word_of, field_of, a_word, a_field, bullet_of, Context, free, right_of, under, behind, bound, is_free, prefix_by, goes_on, element, Readers, ended, named, from_name, set_rest, image_rest, brace_rest, set_from, member_rest, brace_name, braces, tuples, field_rest, function_rest, square_rest, square_from, bind_rest, square_member, plain_field, square_name, squares, list_if, primary, quantifier, choice_from, keyed, under_by, signed, operand, short_signed, short_by, apply_if, select_if, postfix_by, climb_if, climb_by, phrases_by, binds_by, fields_by, settings_by, setting_if, path_by, bullets_if, arms_other, arms_if, arms_by, locals_by, one_step, no_steps}
use Rattle.tla_tree.proofs.Opened.{in_call, in_brackets, in_braces, in_tuples, in_squares, in_choice, in_cases, in_local, in_quantifier, in_signed, in_short, in_apply, in_select, in_climb, in_index, in_bullets}
use Rattle.tla_tree.proofs.Enough.{IsFair, weaker, fair_gives, fair_refuses, fair_deep, fair_skip, fair_peek, fair_bind, fair_take, fair_fits}

-- with n steps and more
pub record AreFair (n : ℕ) (r q : Readers) : Type 0 where
  pub expr : (e : ℕ) (c : Context) → IsFair (n + 1) (r.expr e c) (q.expr e c)
  pub short : (e : ℕ) → IsFair n (r.short e) (q.short e)
  pub postfix : (e : ℕ) (a : Phrase) → IsFair (n + 2) (r.postfix e a) (q.postfix e a)
  pub climb : (e : ℕ) (c : Context) (a : Phrase) → IsFair (n + 2) (r.climb e c a) (q.climb e c a)
  pub phrases : (e : ℕ) → IsFair n (r.phrases e) (q.phrases e)
  pub binds : (e : ℕ) (p : Place) (x : Word) → IsFair n (r.binds e p x) (q.binds e p x)
  pub fields : (e : ℕ) (m : Mark) (f : Field) → IsFair n (r.fields e m f) (q.fields e m f)
  pub settings : (e : ℕ) → IsFair n (r.settings e) (q.settings e)
  pub path : (e : ℕ) → IsFair n (r.path e) (q.path e)
  pub bullets : (e : ℕ) (o : Op) (c : ℕ) → IsFair (n + 2) (r.bullets e o c) (q.bullets e o c)
  pub arms : (e : ℕ) → IsFair n (r.arms e) (q.arms e)
  pub locals : (e : ℕ) → IsFair n (r.locals e) (q.locals e)

-- in both there are readers, or in neither
abbrev pub Alike : ℕ → Option Readers → Option Readers → Type 0
Alike n (Some r) (Some q) = AreFair n r q
Alike n (Some r) None = ⊥
Alike n None (Some q) = ⊥
Alike n None None = Unit {0}

-- two rooms and their readers
pub record Both (n : ℕ) : Type 0 where
  pub m : Room
  pub k : Room
  pub r : Readers
  pub q : Readers
  pub h : AreFair n r q
  pub at : (j : ℕ) → Alike n (m.at j) (k.at j)
  pub fits : (j : ℕ) (a : Phrase) → m.fits j a ≡ k.fits j a
  pub linked : m.linked ≡ k.linked

-- ---- a token, and then on
module _ {B : Type 0} {b n : ℕ} (l : b ≤ n + 4) where
  fair_mark : (e : ℕ) (m : Mark) {g i : Place → Reader B} → ((p : Place) → IsFair n (g p) (i p)) → IsFair b (a_mark e m >>= g) (a_mark e m >>= i)
  fair_mark e m h = fair_take l h e (place_if (is_mark m))

  fair_key : (e : ℕ) (m : Key) {g i : Place → Reader B} → ((p : Place) → IsFair n (g p) (i p)) → IsFair b (a_key e m >>= g) (a_key e m >>= i)
  fair_key e m h = fair_take l h e (place_if (is_key m))

  fair_sign : (e : ℕ) (o : Op) {g i : Place → Reader B} → ((p : Place) → IsFair n (g p) (i p)) → IsFair b (a_sign e o >>= g) (a_sign e o >>= i)
  fair_sign e o h = fair_take l h e (place_if (is_sign o))

  fair_word : (e : ℕ) {g i : Place × Word → Reader B} → ((x : Place × Word) → IsFair n (g x) (i x)) → IsFair b (a_word e >>= g) (a_word e >>= i)
  fair_word e h = fair_take l h e word_of

  fair_field : (e : ℕ) {g i : Field → Reader B} → ((f : Field) → IsFair n (g f) (i f)) → IsFair b (a_field e >>= g) (a_field e >>= i)
  fair_field e h = fair_take l h e field_of

-- ---- one form more
fair_read : {A : Type 0} {b n : ℕ} (k : ℕ) (m i : Room) (at : (j : ℕ) → Alike n (m.at j) (i.at j)) (fits : (j : ℕ) (a : Phrase) → m.fits j a ≡ i.fits j a) (linked : m.linked ≡ i.linked) (f g : Room → Readers → Reader A)
    → ((v : Both n) → IsFair b (f v.m v.r) (g v.k v.q)) → (o p : Option Readers) → Alike n o p → IsFair b (read_by o (f (within k m))) (read_by p (g (within k i)))
fair_read k m i at fits linked f g h (Some r) (Some q) x = h (record { m = within k m; k = within k i; r = r; q = q; h = x; at = λ j. at (suc k + j); fits = λ j. fits (suc k + j); linked = linked })
fair_read k m i at fits linked f g h (Some r) None x = absurd x
fair_read k m i at fits linked f g h None (Some q) x = absurd x
fair_read k m i at fits linked f g h None None x = fair_deep

fair_opened : {A : Type 0} {b n : ℕ} (w : Both n) (k : ℕ) (f g : Room → Readers → Reader A) → ((v : Both n) → IsFair b (f v.m v.r) (g v.k v.q)) → IsFair b (opened w.m k f) (opened w.k k g)
fair_opened w k f g h = fair_read k w.m w.k w.at w.fits w.linked f g h (w.m.at (suc k)) (w.k.at (suc k)) (w.at (suc k))

fair_some : {A : Type 0} {b n : ℕ} (w : Both n) (k : Option ℕ) (f g : Room → Readers → Reader A) → ((v : Both n) → IsFair b (f v.m v.r) (g v.k v.q)) → IsFair b (opened_after w.m k f) (opened_after w.k k g)
fair_some w (Some k) f g h = fair_opened w k f g h
fair_some w None f g h = fair_deep

fair_after : {A : Type 0} {b n : ℕ} (w : Both n) {j k : Option ℕ} → j ≡ k → (f g : Room → Readers → Reader A) → ((v : Both n) → IsFair b (f v.m v.r) (g v.k v.q)) → IsFair b (opened_after w.m j f) (opened_after w.k k g)
fair_after w {j} {k} e f g h = rw e (fair_some w k f g h)

chain_same : {n : ℕ} (w : Both n) (a : Option Phrase) (p : Place) (o : Op) → chain_of w.m a p o ≡ chain_of w.k a p o
chain_same w (Some a) p o = rw (w.fits 0 a) refl
chain_same w None p o = refl

behind_same : {n : ℕ} (w : Both n) (c : Context) (a : Phrase) (p : Place) (o : Op) → chain_behind w.m c a p o ≡ chain_behind w.k c a p o
behind_same w (behind p x q) a r o = chain_same w (element p x q a) r o
behind_same w free a r o = refl
behind_same w (right_of q) a r o = refl
behind_same w (under q) a r o = refl

so_far_is : {n : ℕ} (w : Both n) (c : Context) (a : Phrase) (p : Place) (o : Op) → so_far w.m c a p o ≡ so_far w.k c a p o
so_far_is w c a p o = rw (w.fits 0 a, behind_same w c a p o) refl

module _ (n : ℕ) where
  -- ---- with n steps
  l0 : n ≤ n + 4
  l0 = omega arith

  l1 : n + 1 ≤ n + 4
  l1 = omega arith

  l2 : n + 2 ≤ n + 4
  l2 = omega arith

  l3 : n + 3 ≤ n + 4
  l3 = omega arith

  expr : (w : Both n) (e : ℕ) (c : Context) → IsFair n (w.r.expr e c) (w.q.expr e c)
  expr w e c = weaker (omega arith) (w.h.expr e c)

  postfix : (w : Both n) (e : ℕ) (a : Phrase) → IsFair n (w.r.postfix e a) (w.q.postfix e a)
  postfix w e a = weaker (omega arith) (w.h.postfix e a)

  climb : (w : Both n) (e : ℕ) (c : Context) (a : Phrase) → IsFair n (w.r.climb e c a) (w.q.climb e c a)
  climb w e c a = weaker (omega arith) (w.h.climb e c a)

  ends : {A : Type 0} (e : ℕ) (m : Mark) (f : Place → A) → IsFair n (ended e m f) (ended e m f)
  ends e m f = fair_mark l0 e m (λ p. fair_gives)

  -- ---- names
  fair_named : (w : Both n) → (e : ℕ) (p : Place) (x : Word) (s : Place) (k : TokenView) → IsFair n (named w.m e p x s k) (named w.k e p x s k)
  fair_named w e p x s (tk.mark tk.open_bracket) = fair_opened w 0 (in_call e p x s) (in_call e p x s) (λ v. fair_skip l0 (fair_bind (v.h.phrases e) (λ xs. ends e tk.close_bracket _)))
  fair_named w e p x s (tk.mark tk.prime) = fair_skip l0 fair_gives
  fair_named w e p x s k = fair_gives

  fair_from : (w : Both n) → (e : ℕ) (p : Place) (x : Word) → IsFair n (from_name w.m w.r e p x) (from_name w.k w.q e p x)
  fair_from w e p x = fair_bind (fair_peek e (fair_named w e p x)) (λ a. postfix w e a)

  -- ---- braces
  fair_set : (w : Both n) → (e : ℕ) (p : Place) (a : Phrase) (s : Place) (k : TokenView) → IsFair n (set_rest w.r e p a s k) (set_rest w.q e p a s k)
  fair_set w e p a s (tk.mark tk.comma) = fair_skip l0 (fair_bind (w.h.phrases e) (λ xs. ends e tk.close_brace _))
  fair_set w e p a s k = ends e tk.close_brace _

  fair_image : (w : Both n) → (e : ℕ) (p : Place) (a : Phrase) (s : Place) → IsFair n (image_rest w.r e p a s) (image_rest w.q e p a s)
  fair_image w e p a s = fair_word l0 e (λ x. fair_bind (w.h.binds e x.0 x.1) (λ bs. ends e tk.close_brace _))

  fair_brace : (w : Both n) → (e : ℕ) (p : Place) (a : Phrase) (s : Place) (k : TokenView) → IsFair n (brace_rest w.r e p a s k) (brace_rest w.q e p a s k)
  fair_brace w e p a s (tk.mark tk.colon) = fair_skip l0 (fair_image w e p a s)
  fair_brace w e p a s k = fair_set w e p a s k

  fair_set_from : (w : Both n) → (e : ℕ) (p : Place) (a : Option Phrase) → IsFair n (set_from w.m w.r e p a) (set_from w.k w.q e p a)
  fair_set_from w e p (Some a) = fair_peek e (λ s k. fair_fits (ap (λ (b : Bool). b || not (is_mark tk.comma k || is_mark tk.close_brace k)) (w.fits 0 a)) (fair_set w e p a s k))
  fair_set_from w e p None = fair_refuses

  fair_member : (w : Both n) → (e : ℕ) (p s : Place) (x : Word) (t : Place) (a : Phrase) (u : Place) (k : TokenView) → IsFair n (member_rest w.m w.r e p s x t a u k) (member_rest w.k w.q e p s x t a u k)
  fair_member w e p s x t a u (tk.mark tk.colon) = fair_fits (w.fits 0 a) (fair_skip l0 (fair_bind (expr w e free) (λ b. ends e tk.close_brace _)))
  fair_member w e p s x t a u k = fair_set_from w e p (element s x t a)

  fair_brace_name : (w : Both n) → (e : ℕ) (p s : Place) (x : Word) (t : Place) (k : TokenView) → IsFair n (brace_name w.m w.r e p s x t k) (brace_name w.k w.q e p s x t k)
  fair_brace_name w e p s x t (tk.sign op.In) = fair_skip l0 (fair_bind (expr w e (behind s x t)) (λ a. fair_peek e (fair_member w e p s x t a)))
  fair_brace_name w e p s x t k = fair_bind (fair_from w e s x) (λ a. fair_bind (climb w e free a) (λ b. fair_peek e (fair_brace w e p b)))

  fair_braces : (w : Both n) → (e : ℕ) (p s : Place) (k : TokenView) → IsFair n (braces w.m w.r e p s k) (braces w.k w.q e p s k)
  fair_braces w e p s (tk.mark tk.close_brace) = fair_skip l0 fair_gives
  fair_braces w e p s (tk.word x) = fair_skip l0 (fair_peek e (fair_brace_name w e p s x))
  fair_braces w e p s k = fair_bind (expr w e free) (λ a. fair_peek e (fair_brace w e p a))

  -- ---- tuples
  fair_tuples : (w : Both n) → (e : ℕ) (p s : Place) (k : TokenView) → IsFair n (tuples w.r e p s k) (tuples w.q e p s k)
  fair_tuples w e p s (tk.mark tk.close_tuple) = fair_skip l0 fair_gives
  fair_tuples w e p s k = fair_bind (w.h.phrases e) (λ xs. ends e tk.close_tuple _)

  -- ---- square brackets
  fair_in_fields : (w : Both n) → (e : ℕ) (p : Place) (f : Field) (s : Place) (k : TokenView) → IsFair n (field_rest w.r e p f s k) (field_rest w.q e p f s k)
  fair_in_fields w e p f s (tk.mark tk.maps) = fair_bind (w.h.fields e tk.maps f) (λ fs. ends e tk.close_square _)
  fair_in_fields w e p f s (tk.mark tk.colon) = fair_bind (w.h.fields e tk.colon f) (λ fs. ends e tk.close_square _)
  fair_in_fields w e p f s k = fair_refuses

  fair_function : (w : Both n) → (e : ℕ) (p : Place) (bs : Binds) → IsFair n (function_rest w.r e p bs) (function_rest w.q e p bs)
  fair_function w e p bs = fair_mark l0 e tk.maps (λ s. fair_bind (expr w e free) (λ a. ends e tk.close_square _))

  fair_square : (w : Both n) → (e : ℕ) (p : Place) (a : Phrase) (s : Place) (k : TokenView) → IsFair n (square_rest w.r e p a s k) (square_rest w.q e p a s k)
  fair_square w e p a s (tk.mark tk.arrow) = fair_skip l0 (fair_bind (expr w e free) (λ b. ends e tk.close_square _))
  fair_square w e p a s (tk.key tk.except_key) = fair_skip l0 (fair_bind (w.h.settings e) (λ ss. ends e tk.close_square _))
  fair_square w e p a s k = fair_refuses

  fair_square_from : (w : Both n) → (e : ℕ) (p : Place) (a : Option Phrase) → IsFair n (square_from w.m w.r e p a) (square_from w.k w.q e p a)
  fair_square_from w e p (Some a) = fair_peek e (λ s k. fair_fits (ap (λ (b : Bool). b || not (is_mark tk.arrow k || is_key tk.except_key k)) (w.fits 0 a)) (fair_square w e p a s k))
  fair_square_from w e p None = fair_refuses

  fair_bind_rest : (w : Both n) → (e : ℕ) (p : Place) (x : Word) (s : Place) (a : Phrase) (t : Place) (k : TokenView) → IsFair n (bind_rest w.r e p x s a t k) (bind_rest w.q e p x s a t k)
  fair_bind_rest w e p x s a t (tk.mark tk.comma) = fair_skip l0 (fair_word l0 e (λ y. fair_bind (w.h.binds e y.0 y.1) (λ bs. fair_gives)))
  fair_bind_rest w e p x s a t k = fair_gives

  fair_square_member : (w : Both n) → (e : ℕ) (p s : Place) (x : Word) (t : Place) (a : Phrase) (u : Place) (k : TokenView) → IsFair n (square_member w.m w.r e p s x t a u k) (square_member w.k w.q e p s x t a u k)
  fair_square_member w e p s x t a u (tk.mark tk.maps) = fair_fits (w.fits 0 a) (fair_function w e p _)
  fair_square_member w e p s x t a u (tk.mark tk.comma) = fair_fits (w.fits 0 a) (fair_bind (fair_peek e (fair_bind_rest w e s x t a)) (λ bs. fair_function w e p bs))
  fair_square_member w e p s x t a u k = fair_square_from w e p (element s x t a)

  fair_square_name : (w : Both n) → (e : ℕ) (p s : Place) (x : Word) (t : Place) (k : TokenView) → IsFair n (square_name w.m w.r e p s x t k) (square_name w.k w.q e p s x t k)
  fair_square_name w e p s x t (tk.mark tk.maps) = fair_in_fields w e p (plain_field s x) t (tk.mark tk.maps)
  fair_square_name w e p s x t (tk.mark tk.colon) = fair_in_fields w e p (plain_field s x) t (tk.mark tk.colon)
  fair_square_name w e p s x t (tk.mark tk.comma) = fair_bind (w.h.binds e s x) (λ bs. fair_function w e p bs)
  fair_square_name w e p s x t (tk.sign op.In) = fair_skip l0 (fair_bind (expr w e (behind s x t)) (λ a. fair_peek e (fair_square_member w e p s x t a)))
  fair_square_name w e p s x t k = fair_bind (fair_from w e s x) (λ a. fair_bind (climb w e free a) (λ b. fair_peek e (fair_square w e p b)))

  fair_squares : (w : Both n) → (e : ℕ) (p s : Place) (k : TokenView) → IsFair n (squares w.m w.r e p s k) (squares w.k w.q e p s k)
  fair_squares w e p s (tk.reserved x) = fair_skip l0 (fair_peek e (fair_in_fields w e p _))
  fair_squares w e p s (tk.word x) = fair_skip l0 (fair_peek e (fair_square_name w e p s x))
  fair_squares w e p s k = fair_bind (expr w e free) (λ a. fair_peek e (fair_square w e p a))

  -- ---- primaries
  fair_list : (w : Both n) → (b : Bool) (e : ℕ) (p : Place) (o : Op) → IsFair (n + 2) (list_if b w.r e p o) (list_if b w.q e p o)
  fair_list w true e p o = fair_bind (w.h.bullets e o p.col) (λ bs. w.h.postfix e _)
  fair_list w false e p o = fair_refuses

  fair_primary : (w : Both n) → (e : ℕ) (p : Place) (k : TokenView) → IsFair (n + 2) (primary w.m w.r e p k) (primary w.k w.q e p k)
  fair_primary w e p (tk.number x) = fair_skip l2 (postfix w e _)
  fair_primary w e p (tk.string x) = fair_skip l2 (postfix w e _)
  fair_primary w e p (tk.constant c) = fair_skip l2 (postfix w e _)
  fair_primary w e p (tk.word x) = fair_skip l2 (fair_from w e p x)
  fair_primary w e p (tk.mark tk.open_bracket) = fair_opened w 0 (in_brackets w.r e p) (in_brackets w.q e p) (λ v. fair_skip l2 (fair_bind (expr v e free) (λ a. fair_mark l0 e tk.close_bracket (λ s. postfix w e _))))
  fair_primary w e p (tk.mark tk.open_brace) = fair_opened w 0 (in_braces w.r e p) (in_braces w.q e p) (λ v. fair_skip l2 (fair_bind (fair_peek e (fair_braces v e p)) (λ a. postfix w e a)))
  fair_primary w e p (tk.mark tk.open_tuple) = fair_opened w 0 (in_tuples w.r e p) (in_tuples w.q e p) (λ v. fair_skip l2 (fair_bind (fair_peek e (fair_tuples v e p)) (λ a. postfix w e a)))
  fair_primary w e p (tk.mark tk.open_square) = fair_opened w 0 (in_squares w.r e p) (in_squares w.q e p) (λ v. fair_skip l2 (fair_bind (fair_peek e (fair_squares v e p)) (λ a. postfix w e a)))
  fair_primary w e p (tk.sign o) = fair_list w (is_bullet o) e p o
  fair_primary w e p k = fair_refuses

  -- ---- open forms
  fair_quantifier : (w : Both n) → (e : ℕ) (b : Bool) (p : Place) → IsFair n (quantifier w.r e b p) (quantifier w.q e b p)
  fair_quantifier w e b p = fair_word l0 e (λ x. fair_bind (w.h.binds e x.0 x.1) (λ bs. fair_mark l0 e tk.colon (λ s. fair_bind (expr w e free) (λ a. fair_gives))))

  fair_choice : (w : Both n) → (e : ℕ) (p : Place) → IsFair n (choice_from w.r e p) (choice_from w.q e p)
  fair_choice w e p = fair_bind (expr w e free) (λ a. fair_key l0 e tk.then_key (λ s. fair_bind (expr w e free) (λ b. fair_key l0 e tk.else_key (λ t. fair_bind (expr w e free) (λ c. fair_gives)))))

  fair_keyed : (w : Both n) → (e : ℕ) (p : Place) (k : Key) → IsFair (n + 2) (keyed w.m e p k) (keyed w.k e p k)
  fair_keyed w e p tk.if_key = fair_opened w 0 (in_choice e p) (in_choice e p) (λ v. fair_skip l2 (fair_choice v e p))
  fair_keyed w e p tk.case_key = fair_opened w 0 (in_cases e p) (in_cases e p) (λ v. fair_skip l2 (fair_bind (v.h.arms e) (λ xs. fair_gives)))
  fair_keyed w e p tk.let_key = fair_opened w 0 (in_local e p) (in_local e p) (λ v. fair_skip l2 (fair_bind (v.h.locals e) (λ ls. fair_key l0 e tk.in_key (λ s. fair_bind (expr v e free) (λ a. fair_gives)))))
  fair_keyed w e p tk.for_all_key = fair_opened w 0 (in_quantifier e true p) (in_quantifier e true p) (λ v. fair_skip l2 (fair_quantifier v e true p))
  fair_keyed w e p tk.exists_key = fair_opened w 0 (in_quantifier e false p) (in_quantifier e false p) (λ v. fair_skip l2 (fair_quantifier v e false p))
  fair_keyed w e p k = fair_refuses

  -- ---- operands
  fair_under : (w : Both n) → (b : Bool) (e : ℕ) (o : Op) → IsFair n (under_by b w.r e o) (under_by b w.q e o)
  fair_under w true e o = expr w e (under o)
  fair_under w false e o = w.h.short e

  fair_signed : (w : Both n) → (e : ℕ) (c : Context) (p : Place) (o : Op) (m : Option Op) → IsFair (n + 2) (signed w.m w.r e c p o m) (signed w.k w.q e c p o m)
  fair_signed w e c p o (Some m) = fair_opened w 0 (in_signed e c p m) (in_signed e c p m) (λ v. fair_skip l2 (fair_bind (fair_under v (is_free c m) e m) (λ a. fair_gives)))
  fair_signed w e c p o None = fair_primary w e p (tk.sign o)

  fair_operand : (w : Both n) → (e : ℕ) (c : Context) (p : Place) (k : TokenView) → IsFair (n + 2) (operand w.m w.r e c p k) (operand w.k w.q e c p k)
  fair_operand w e c p (tk.key k) = fair_keyed w e p k
  fair_operand w e c p (tk.sign o) = fair_signed w e c p o (prefix_by o)
  fair_operand w e c p k = fair_primary w e p k

  fair_short_signed : (w : Both n) → (e : ℕ) (p : Place) (o : Op) (m : Option Op) → IsFair (n + 2) (short_signed w.m w.r e p o m) (short_signed w.k w.q e p o m)
  fair_short_signed w e p o (Some m) = fair_opened w 0 (in_short e p m) (in_short e p m) (λ v. fair_skip l2 (fair_bind (v.h.short e) (λ a. fair_gives)))
  fair_short_signed w e p o None = fair_primary w e p (tk.sign o)

  fair_short : (w : Both n) → (e : ℕ) (p : Place) (k : TokenView) → IsFair (n + 2) (short_by w.m w.r e p k) (short_by w.k w.q e p k)
  fair_short w e p (tk.sign o) = fair_short_signed w e p o (prefix_by o)
  fair_short w e p k = fair_primary w e p k

  -- ---- loops
  fair_apply : (w : Both n) → (b : Bool) (e : ℕ) (a : Phrase) (p : Place) → IsFair (n + 3) (apply_if b w.m w.r e a p) (apply_if b w.k w.q e a p)
  fair_apply w true e a p = subst (λ (t : Bool). IsFair (n + 3) (opened w.m (before w.m.linked a) (in_apply w.r e a p)) (opened w.k (before t a) (in_apply w.q e a p))) w.linked
      (fair_opened w (before w.m.linked a) (in_apply w.r e a p) (in_apply w.q e a p) (λ v. fair_skip l3 (fair_bind (v.h.phrases e) (λ xs. fair_mark l0 e tk.close_square (λ s. postfix w e _)))))
  fair_apply w false e a p = fair_gives

  fair_select : (w : Both n) → (b : Bool) (e : ℕ) (a : Phrase) (p : Place) → IsFair (n + 3) (select_if b w.m w.r e a p) (select_if b w.k w.q e a p)
  fair_select w true e a p = subst (λ (t : Bool). IsFair (n + 3) (opened_if w.m.linked w.m w.r (links a) (in_select w.r e a p)) (opened_if t w.k w.q (links a) (in_select w.q e a p))) w.linked (by w.m.linked)
    where
      by : (t : Bool) → IsFair (n + 3) (opened_if t w.m w.r (links a) (in_select w.r e a p)) (opened_if t w.k w.q (links a) (in_select w.q e a p))
      by true = fair_opened w (links a) (in_select w.r e a p) (in_select w.q e a p) (λ v. fair_skip l3 (fair_field l0 e (λ f. postfix w e _)))
      by false = fair_skip l3 (fair_field l0 e (λ f. postfix w e _))
  fair_select w false e a p = fair_gives

  fair_postfix : (w : Both n) → (e : ℕ) (a : Phrase) (p : Place) (k : TokenView) → IsFair (n + 3) (postfix_by w.m w.r e a p k) (postfix_by w.k w.q e a p k)
  fair_postfix w e a p (tk.mark tk.open_square) = fair_apply w (can_be_head a p) e a p
  fair_postfix w e a p (tk.mark tk.dot) = fair_select w (can_be_head a p) e a p
  fair_postfix w e a p k = fair_gives

  fair_climb_if : (w : Both n) → (m : Bool) (e : ℕ) (c : Context) (a : Phrase) (p : Place) (o : Op) → IsFair (n + 3) (climb_if m w.m w.r e c a p o) (climb_if m w.k w.q e c a p o)
  fair_climb_if w true e c a p o = fair_after w (so_far_is w c a p o) (in_climb w.r e c a p o) (in_climb w.q e c a p o) (λ v. fair_skip l3 (fair_bind (expr v e (right_of o)) (λ d. climb w e c _)))
  fair_climb_if w false e c a p o = fair_gives

  fair_climb : (w : Both n) → (e : ℕ) (c : Context) (a : Phrase) (p : Place) (k : TokenView) → IsFair (n + 3) (climb_by w.m w.r e c a p k) (climb_by w.k w.q e c a p k)
  fair_climb w e c a p (tk.sign o) = fair_climb_if w (goes_on (bound c) a p o) e c a p o
  fair_climb w e c a p k = fair_gives

  -- ---- lists
  fair_phrases : (w : Both n) → (e : ℕ) (a : Phrase) (p : Place) (k : TokenView) → IsFair (n + 3) (phrases_by w.r e a p k) (phrases_by w.q e a p k)
  fair_phrases w e a p (tk.mark tk.comma) = fair_skip l3 (fair_bind (w.h.phrases e) (λ xs. fair_gives))
  fair_phrases w e a p k = fair_gives

  fair_binds : (w : Both n) → (e : ℕ) (p : Place) (x : Word) (s : Place) (k : TokenView) → IsFair (n + 3) (binds_by w.r e p x s k) (binds_by w.q e p x s k)
  fair_binds w e p x s (tk.sign op.In) = fair_skip l3 (fair_bind (expr w e free) (λ a. fair_peek e (fair_bind_rest w e p x s a)))
  fair_binds w e p x s (tk.mark tk.comma) = fair_skip l3 (fair_word l0 e (λ y. fair_bind (w.h.binds e y.0 y.1) (λ bs. fair_gives)))
  fair_binds w e p x s k = fair_refuses

  fair_fields : (w : Both n) → (e : ℕ) (m : Mark) (f : Field) (p : Place) (a : Phrase) (s : Place) (k : TokenView) → IsFair n (fields_by w.r e m f p a s k) (fields_by w.q e m f p a s k)
  fair_fields w e m f p a s (tk.mark tk.comma) = fair_skip l0 (fair_field l0 e (λ g. fair_bind (w.h.fields e m g) (λ fs. fair_gives)))
  fair_fields w e m f p a s k = fair_gives

  fair_settings : (w : Both n) → (e : ℕ) (p : Place) (path : Path) (s : Place) (a : Phrase) (t : Place) (k : TokenView) → IsFair n (settings_by w.r e p path s a t k) (settings_by w.q e p path s a t k)
  fair_settings w e p path s a t (tk.mark tk.comma) = fair_skip l0 (fair_bind (w.h.settings e) (λ ss. fair_gives))
  fair_settings w e p path s a t k = fair_gives

  fair_setting : (w : Both n) → (b : Bool) (e : ℕ) (p : Place) (path : Path) → IsFair n (setting_if b w.r e p path) (setting_if b w.q e p path)
  fair_setting w true e p path = fair_sign l0 e op.Equal (λ s. fair_bind (expr w e free) (λ a. fair_peek e (fair_settings w e p path s a)))
  fair_setting w false e p path = fair_refuses

  fair_path : (w : Both n) → (e : ℕ) (p : Place) (k : TokenView) → IsFair (n + 3) (path_by w.m w.r e p k) (path_by w.k w.q e p k)
  fair_path w e p (tk.mark tk.open_square) = fair_opened w 0 (in_index w.r e p) (in_index w.q e p) (λ v. fair_skip l3 (fair_bind (v.h.phrases e) (λ xs. fair_mark l0 e tk.close_square (λ s. fair_bind (w.h.path e) (λ path. fair_gives)))))
  fair_path w e p (tk.mark tk.dot) = fair_skip l3 (fair_field l0 e (λ f. fair_bind (w.h.path e) (λ path. fair_gives)))
  fair_path w e p k = fair_gives

  fair_bullets : (w : Both n) → (b : Bool) (e : ℕ) (o : Op) (c : ℕ) (p : Place) (a : Phrase) → IsFair n (bullets_if b w.r e o c p a) (bullets_if b w.q e o c p a)
  fair_bullets w true e o c p a = fair_bind (weaker (omega arith) (w.h.bullets e o c)) (λ bs. fair_gives)
  fair_bullets w false e o c p a = fair_gives

  fair_other : (w : Both n) → (e : ℕ) (a : Phrase) (p : Place) (b : Phrase) (s t : Place) (k : TokenView) → IsFair n (arms_other w.r e a p b s t k) (arms_other w.q e a p b s t k)
  fair_other w e a p b s t (tk.key tk.other_key) = fair_skip l0 (fair_mark l0 e tk.arrow (λ u. fair_bind (expr w e free) (λ c. fair_gives)))
  fair_other w e a p b s t k = fair_bind (w.h.arms e) (λ xs. fair_gives)

  fair_arms_if : (w : Both n) → (m : Bool) (e : ℕ) (a : Phrase) (p : Place) (b : Phrase) (s : Place) → IsFair (n + 3) (arms_if m w.r e a p b s) (arms_if m w.q e a p b s)
  fair_arms_if w true e a p b s = fair_gives
  fair_arms_if w false e a p b s = fair_skip l3 (fair_peek e (fair_other w e a p b s))

  fair_arms : (w : Both n) → (e : ℕ) (a : Phrase) (p : Place) (b : Phrase) (s : Place) (k : TokenView) → IsFair (n + 3) (arms_by w.r e a p b s k) (arms_by w.q e a p b s k)
  fair_arms w e a p b s (tk.mark tk.box) = fair_arms_if w (takes_box s.col b) e a p b s
  fair_arms w e a p b s k = fair_gives

  fair_locals : (w : Both n) → (e : ℕ) (p : Place) (x : Word) (s : Place) (a : Phrase) (t : Place) (k : TokenView) → IsFair n (locals_by w.r e p x s a t k) (locals_by w.q e p x s a t k)
  fair_locals w e p x s a t (tk.word y) = fair_bind (w.h.locals e) (λ ls. fair_gives)
  fair_locals w e p x s a t k = fair_gives

  -- ---- one step more
  fair_step : (w : Both n) → AreFair (suc n) (one_step w.m w.r) (one_step w.k w.q)
  fair_step w = record {
    expr = λ e c. weaker (omega arith) (fair_bind (fair_peek e (fair_operand w e c)) (λ a. w.h.climb e c a));
    short = λ e. weaker (omega arith) (fair_peek e (fair_short w e));
    postfix = λ e a. weaker (omega arith) (fair_peek e (fair_postfix w e a));
    climb = λ e c a. weaker (omega arith) (fair_peek e (fair_climb w e c a));
    phrases = λ e. weaker (omega arith) (fair_bind (w.h.expr e free) (λ a. fair_peek e (λ p k. weaker (omega arith) (fair_phrases w e a p k))));
    binds = λ e p x. weaker (omega arith) (fair_peek e (fair_binds w e p x));
    fields = λ e m f. weaker (omega arith) (fair_mark l3 e m (λ p. fair_bind (expr w e free) (λ a. fair_peek e (fair_fields w e m f p a))));
    settings = λ e. weaker (omega arith) (fair_mark l3 e tk.bang (λ p. fair_bind (w.h.path e) (λ path. fair_setting w (is_some_path path) e p path)));
    path = λ e. weaker (omega arith) (fair_peek e (fair_path w e));
    bullets = λ e o c. weaker (omega arith) (fair_opened w 0 (in_bullets e o c) (in_bullets e o c) (λ v. fair_take l3 (λ p. fair_bind (expr v c free) (λ a. fair_peek e (λ s k. fair_bullets v (is_sign o k && nat_eq c s.col) e o c p a))) e (bullet_of o c)));
    arms = λ e. weaker (omega arith) (fair_bind (w.h.expr e free) (λ a. fair_mark l1 e tk.arrow (λ p. fair_bind (expr w e free) (λ b. fair_peek e (λ s k. weaker (omega arith) (fair_arms w e a p b s k))))));
    locals = λ e. weaker (omega arith) (fair_word l3 e (λ x. fair_mark l0 e tk.defines (λ s. fair_bind (expr w e free) (λ a. fair_peek e (fair_locals w e x.0 x.1 s a)))));
  }

pub fair_none : AreFair 0 no_steps no_steps
fair_none = record {
  expr = λ e c. fair_refuses;
  short = λ e. fair_refuses;
  postfix = λ e a. fair_refuses;
  climb = λ e c a. fair_refuses;
  phrases = λ e. fair_refuses;
  binds = λ e p x. fair_refuses;
  fields = λ e m f. fair_refuses;
  settings = λ e. fair_refuses;
  path = λ e. fair_refuses;
  bullets = λ e o c. fair_refuses;
  arms = λ e. fair_refuses;
  locals = λ e. fair_refuses;
}

-- ---- rooms within a limit
some_left : (n : ℕ) (f g : Limit → Readers) → ((b : Limit) → AreFair n (f b) (g b)) → (t : Bool) (b k : ℕ) → Alike n (option_map f (less t b k)) (option_map g (less t b k))
some_left n f g h true b k = h (Some (b - k))
some_left n f g h false b k = tt

module _ (linked : Bool) (n : ℕ) (f g : Limit → Readers) (h : (b : Limit) → AreFair n (f b) (g b)) where
  alike_left : (b : Limit) (j : ℕ) → Alike n ((room linked f b).at j) ((room linked g b).at j)
  alike_left None j = h None
  alike_left (Some b) j = some_left n f g h (nat_le j b) b j

  same_fits : (b : Limit) (j : ℕ) (a : Phrase) → (room linked f b).fits j a ≡ (room linked g b).fits j a
  same_fits None j a = refl
  same_fits (Some b) j a = refl

  same_linked : (b : Limit) → (room linked f b).linked ≡ (room linked g b).linked
  same_linked None = refl
  same_linked (Some b) = refl

  pub fair_one_step : (b : Limit) → AreFair (suc n) (one_step (room linked f b) (f b)) (one_step (room linked g b) (g b))
  fair_one_step b = fair_step n (record { m = room linked f b; k = room linked g b; r = f b; q = g b; h = h b; at = alike_left b; fits = same_fits b; linked = same_linked b })
