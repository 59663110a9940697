-- The readers with some steps at the end of the tokens, and those with others where a token is after them.
use Rattle.std.proofs.Common.{◌≡◌, ℕ, zero, suc, ◌+◌, ◌*◌, ◌≤◌, ◌&&◌, nat_eq, Bool, true, false, List, [], ◌∷◌, ◌++◌, length, Option, Some, None, Ok, Err, inl, inr, if◌then◌else◌, refl, sym, ap, ◌∙◌, length-append, arith}
use Rattle.std.proofs.lemmas.List.{append-nil}
use Rattle.tla_token.specs.declared.place.Place.{Place}
use Rattle.tla_token.specs.Places.{nowhere}
use Rattle.tla_tree.specs.declared.op.Op.{Op}
use Rattle.tla_tree.specs.declared.op.Op.TheVariants as op
use Rattle.tla_tree.specs.Tree.{Word}
use Rattle.tla_tree.specs.Rank.{is_bullet}
use Rattle.tla_token.specs.declared.rule.Rule.{Rule}
use Rattle.tla_tree.specs.Lexical.{Mark, Key, TokenView, Token, token}
use Rattle.tla_tree.specs.Lexical as tk
use Rattle.tla_tree.specs.Spelling.{Field, Phrase, call, apply, select, infix_of, last, more, Binds, bind, last_field, field, setting, Path, path_end, index, at_field, Bullets, last_bullet, bullet, last_arm, Locals, more_locals, can_be_head, is_some_path, takes_box, Good, spell}
use Rattle.tla_tree.specs.Reader.{Stop, any, Out, Reader, then_read, ◌>>=◌, gives, next, peek, took, is_mark, is_key, is_sign, place_if, a_mark, a_key, a_sign, word_of, field_of, a_word, a_field, bullet_of, Context, free, right_of, under, behind, bound, is_free, prefix_by, goes_on, element, Readers, ended, named, from_name, set_rest, image_rest, brace_rest, set_from, member_rest, brace_name, braces, tuples, field_rest, function_rest, square_rest, square_from, bind_rest, square_member, plain_field, square_name, squares, list_if, primary, quantifier, choice_from, keyed, under_by, signed, operand, short_signed, short_by, apply_if, select_if, postfix_by, climb_if, climb_by, phrases_by, binds_by, fields_by, settings_by, setting_if, path_by, bullets_if, arms_other, arms_if, arms_by, locals_by, one_step, readers, readers_in, read}
use Rattle.tla_tree.proofs.Alike.{Within, IsFair, fair_gives, right_then}
use Rattle.tla_tree.proofs.AlikeSteps.{AreFair, fair_readers}
use Rattle.tla_tree.proofs.AlikeEnds.{GoesOn, Ends, less, ends_gives, ends_refuses, ends_skip, Settles, ends_peek, ends_bind, ends_take, Shut, shut_on, shut_then, shut_first}
use Rattle.tla_tree.proofs.Steps.{few}
use Rattle.tla_tree.proofs.ReadPhrases.{closed}
use Rattle.tla_tree.proofs.ReadAll.{reads}

-- with n steps and more
pub record AreEnding (n : ℕ) (r q : Readers) : Type 0 where
  pub expr : (e : ℕ) (c : Context) → Ends (n + 1) (r.expr e c) (q.expr e c)
  pub short : (e : ℕ) → Ends n (r.short e) (q.short e)
  pub postfix : (e : ℕ) (a : Phrase) → Ends (n + 2) (r.postfix e a) (q.postfix e a)
  pub climb : (e : ℕ) (c : Context) (a : Phrase) → Ends (n + 2) (r.climb e c a) (q.climb e c a)
  pub phrases : (e : ℕ) → Ends n (r.phrases e) (q.phrases e)
  pub binds : (e : ℕ) (p : Place) (x : Word) → Ends n (r.binds e p x) (q.binds e p x)
  pub fields : (e : ℕ) (m : Mark) (f : Field) → Ends n (r.fields e m f) (q.fields e m f)
  pub settings : (e : ℕ) → Ends n (r.settings e) (q.settings e)
  pub path : (e : ℕ) → Ends n (r.path e) (q.path e)
  pub bullets : (e : ℕ) (o : Op) (c : ℕ) → Ends (n + 2) (r.bullets e o c) (q.bullets e o c)
  pub arms : (e : ℕ) → Ends n (r.arms e) (q.arms e)
  pub locals : (e : ℕ) → Ends n (r.locals e) (q.locals e)
  -- a list that goes on is past its next token
  pub bullets_past : (e : ℕ) (o : Op) (c : ℕ) (t : Token) (ts : List Token) (p : Place) (k : TokenView) → 1 ≤ n → next e (t ∷ ts) ≡ token p k → (is_sign o k && nat_eq c p.col) ≡ true → Within ts (q.bullets e o c (t ∷ ts))
  pub locals_past : (e : ℕ) (t : Token) (ts : List Token) (p : Place) (y : Word) → 1 ≤ n → next e (t ∷ ts) ≡ token p (tk.word y) → Within ts (q.locals e (t ∷ ts))

-- at the end of the tokens there is none of these
pub record Shuts (r : Readers) : Type 0 where
  pub expr : (e : ℕ) (c : Context) → Shut (r.expr e c)
  pub phrases : (e : ℕ) → Shut (r.phrases e)
  pub arms : (e : ℕ) → Shut (r.arms e)

shuts : (n : ℕ) → Shuts (readers n None)
unfolding readers_in
shuts zero = record { expr = λ e c x o. absurd cc; phrases = λ e x o. absurd cc; arms = λ e x o. absurd cc }
shuts (suc n) = record {
  expr = λ e c x o. absurd cc;
  phrases = λ e. shut_first ((readers n None).expr e free) _ ((shuts n).expr e free);
  arms = λ e. shut_first ((readers n None).expr e free) _ ((shuts n).expr e free);
}

took_past : {A B : Type 0} (o : Option A) (x : A) (f : A → Reader B) → o ≡ Some x → ((ts : List Token) → Within ts (f x ts)) → (t : Token) (ts : List Token) → Within ts (then_read (took o (t ∷ ts)) f)
took_past (Some a) x f e h t ts = (let same : a ≡ x = cc in rw same (h ts))
took_past None x f e h t ts = absurd cc

-- ---- a token, and then on
module _ {B : Type 0} {b n : ℕ} (l : b ≤ n + 4) where
  on_mark : (e : ℕ) (m : Mark) {g i : Place → Reader B} → ((p : Place) → Ends n (g p) (i p)) → Ends b (a_mark e m >>= g) (a_mark e m >>= i)
  on_mark e m h = ends_take l h e (place_if (is_mark m)) refl

  on_key : (e : ℕ) (m : Key) {g i : Place → Reader B} → ((p : Place) → Ends n (g p) (i p)) → Ends b (a_key e m >>= g) (a_key e m >>= i)
  on_key e m h = ends_take l h e (place_if (is_key m)) refl

  on_sign : (e : ℕ) (o : Op) {g i : Place → Reader B} → ((p : Place) → Ends n (g p) (i p)) → Ends b (a_sign e o >>= g) (a_sign e o >>= i)
  on_sign e o h = ends_take l h e (place_if (is_sign o)) refl

  on_word : (e : ℕ) {g i : Place × Word → Reader B} → ((x : Place × Word) → Ends n (g x) (i x)) → Ends b (a_word e >>= g) (a_word e >>= i)
  on_word e h = ends_take l h e word_of refl

  on_field : (e : ℕ) {g i : Field → Reader B} → ((f : Field) → Ends n (g f) (i f)) → Ends b (a_field e >>= g) (a_field e >>= i)
  on_field e h = ends_take l h e field_of refl

module _ (n : ℕ) (r q : Readers) (shut : Shuts r) (h : AreEnding n r q) where
  -- ---- with n steps
  l0 : n ≤ n + 4
  l0 = omega arith

  l1 : n + 1 ≤ n + 4
  l1 = omega arith

  l2 : n + 2 ≤ n + 4
  l2 = omega arith

  l3 : n + 3 ≤ n + 4
  l3 = omega arith

  expr : (e : ℕ) (c : Context) → Ends n (r.expr e c) (q.expr e c)
  expr e c = less (omega arith) (h.expr e c)

  postfix : (e : ℕ) (a : Phrase) → Ends n (r.postfix e a) (q.postfix e a)
  postfix e a = less (omega arith) (h.postfix e a)

  climb : (e : ℕ) (c : Context) (a : Phrase) → Ends n (r.climb e c a) (q.climb e c a)
  climb e c a = less (omega arith) (h.climb e c a)

  ends : {A : Type 0} (e : ℕ) (m : Mark) (f : Place → A) → Ends n (ended e m f) (ended e m f)
  ends e m f = on_mark l0 e m (λ p. ends_gives)

  -- ---- names
  on_named : (e : ℕ) (p : Place) (x : Word) (s : Place) (k : TokenView) → Ends n (named (any r) e p x s k) (named (any q) e p x s k)
  on_named e p x s (tk.mark tk.open_bracket) = ends_skip l0 (ends_bind (h.phrases e) (λ xs. ends e tk.close_bracket _))
  on_named e p x s (tk.mark tk.prime) = ends_skip l0 ends_gives
  on_named e p x s k = ends_gives

  settles_named : (e : ℕ) (p : Place) (x : Word) → Settles n e (named (any r) e p x) (named (any q) e p x)
  settles_named e p x l t ts s (tk.mark tk.open_bracket) i =
      let g : Ends n (r.phrases e >>= λ xs. ended e tk.close_bracket (λ j. call p x s xs j)) (q.phrases e >>= λ xs. ended e tk.close_bracket (λ j. call p x s xs j)) = ends_bind (h.phrases e) (λ xs. ends e tk.close_bracket (λ j. call p x s xs j)) in
      inr (refl, g.fair.right ts)
  settles_named e p x l t ts s (tk.mark tk.prime) i = inr (refl, ([], refl))
  settles_named e p x l t ts s k i = inl refl

  on_from : (e : ℕ) (p : Place) (x : Word) → Ends n (from_name (any r) r e p x) (from_name (any q) q e p x)
  on_from e p x = ends_bind (ends_peek e (on_named e p x) (settles_named e p x)) (λ a. postfix e a)

  -- ---- braces
  on_set : (e : ℕ) (p : Place) (a : Phrase) (s : Place) (k : TokenView) → Ends n (set_rest r e p a s k) (set_rest q e p a s k)
  on_set e p a s (tk.mark tk.comma) = ends_skip l0 (ends_bind (h.phrases e) (λ xs. ends e tk.close_brace _))
  on_set e p a s k = ends e tk.close_brace _

  on_image : (e : ℕ) (p : Place) (a : Phrase) (s : Place) → Ends n (image_rest r e p a s) (image_rest q e p a s)
  on_image e p a s = on_word l0 e (λ x. ends_bind (h.binds e x.0 x.1) (λ bs. ends e tk.close_brace _))

  on_brace : (e : ℕ) (p : Place) (a : Phrase) (s : Place) (k : TokenView) → Ends n (brace_rest r e p a s k) (brace_rest q e p a s k)
  on_brace e p a s (tk.mark tk.colon) = ends_skip l0 (on_image e p a s)
  on_brace e p a s k = on_set e p a s k

  on_set_from : (e : ℕ) (p : Place) (a : Option Phrase) → Ends n (set_from (any r) r e p a) (set_from (any q) q e p a)
  on_set_from e p (Some a) = ends_peek e (on_set e p a) (λ l t ts j k i. tt)
  on_set_from e p None = ends_refuses

  settles_member : (e : ℕ) (p s : Place) (x : Word) (t : Place) (a : Phrase) → Settles n e (member_rest (any r) r e p s x t a) (member_rest (any q) q e p s x t a)
  settles_member e p s x t a l u ts j k i = shut_on (set_from (any r) r e p (element s x t a)) (none_set e p (element s x t a)) u ts (member_rest (any q) q e p s x t a j k (u ∷ ts))
    where
      none_set : (e : ℕ) (p : Place) (b : Option Phrase) → Shut (set_from (any r) r e p b)
      none_set e p (Some b) x o = absurd cc
      none_set e p None x o = absurd cc

  on_member : (e : ℕ) (p s : Place) (x : Word) (t : Place) (a : Phrase) (u : Place) (k : TokenView) → Ends n (member_rest (any r) r e p s x t a u k) (member_rest (any q) q e p s x t a u k)
  on_member e p s x t a u (tk.mark tk.colon) = ends_skip l0 (ends_bind (expr e free) (λ b. ends e tk.close_brace _))
  on_member e p s x t a u k = on_set_from e p (element s x t a)

  shut_brace_name : (e : ℕ) (p s : Place) (x : Word) → Shut (brace_name (any r) r e p s x nowhere (tk.other []))
  shut_brace_name e p s x = shut_then (from_name (any r) r e s x) _ (on_from e s x).fair.left (λ a. shut_then (r.climb e free a) _ (h.climb e free a).fair.left (λ b y o. absurd cc))

  on_brace_name : (e : ℕ) (p s : Place) (x : Word) (t : Place) (k : TokenView) → Ends n (brace_name (any r) r e p s x t k) (brace_name (any q) q e p s x t k)
  on_brace_name e p s x t (tk.sign op.In) = ends_skip l0 (ends_bind (expr e (behind s x t)) (λ a. ends_peek e (on_member e p s x t a) (settles_member e p s x t a)))
  on_brace_name e p s x t k = ends_bind (on_from e s x) (λ a. ends_bind (climb e free a) (λ b. ends_peek e (on_brace e p b) (λ l t ts j k i. tt)))

  on_braces : (e : ℕ) (p s : Place) (k : TokenView) → Ends n (braces (any r) r e p s k) (braces (any q) q e p s k)
  on_braces e p s (tk.mark tk.close_brace) = ends_skip l0 ends_gives
  on_braces e p s (tk.word x) = ends_skip l0 (ends_peek e (on_brace_name e p s x) (λ l t ts j k i. shut_on (brace_name (any r) r e p s x nowhere (tk.other [])) (shut_brace_name e p s x) t ts (brace_name (any q) q e p s x j k (t ∷ ts))))
  on_braces e p s k = ends_bind (expr e free) (λ a. ends_peek e (on_brace e p a) (λ l t ts j k i. tt))

  -- ---- tuples
  on_tuples : (e : ℕ) (p s : Place) (k : TokenView) → Ends n (tuples r e p s k) (tuples q e p s k)
  on_tuples e p s (tk.mark tk.close_tuple) = ends_skip l0 ends_gives
  on_tuples e p s k = ends_bind (h.phrases e) (λ xs. ends e tk.close_tuple _)

  -- ---- square brackets
  on_in_fields : (e : ℕ) (p : Place) (f : Field) (s : Place) (k : TokenView) → Ends n (field_rest r e p f s k) (field_rest q e p f s k)
  on_in_fields e p f s (tk.mark tk.maps) = ends_bind (h.fields e tk.maps f) (λ fs. ends e tk.close_square _)
  on_in_fields e p f s (tk.mark tk.colon) = ends_bind (h.fields e tk.colon f) (λ fs. ends e tk.close_square _)
  on_in_fields e p f s k = ends_refuses

  on_function : (e : ℕ) (p : Place) (bs : Binds) → Ends n (function_rest r e p bs) (function_rest q e p bs)
  on_function e p bs = on_mark l0 e tk.maps (λ s. ends_bind (expr e free) (λ a. ends e tk.close_square _))

  on_square : (e : ℕ) (p : Place) (a : Phrase) (s : Place) (k : TokenView) → Ends n (square_rest r e p a s k) (square_rest q e p a s k)
  on_square e p a s (tk.mark tk.arrow) = ends_skip l0 (ends_bind (expr e free) (λ b. ends e tk.close_square _))
  on_square e p a s (tk.key tk.except_key) = ends_skip l0 (ends_bind (h.settings e) (λ ss. ends e tk.close_square _))
  on_square e p a s k = ends_refuses

  on_square_from : (e : ℕ) (p : Place) (a : Option Phrase) → Ends n (square_from (any r) r e p a) (square_from (any q) q e p a)
  on_square_from e p (Some a) = ends_peek e (on_square e p a) (λ l t ts j k i. tt)
  on_square_from e p None = ends_refuses

  settles_bind : (e : ℕ) (p : Place) (x : Word) (s : Place) (a : Phrase) → Settles n e (bind_rest r e p x s a) (bind_rest q e p x s a)
  settles_bind e p x s a l t ts j (tk.mark tk.comma) i =
      let g : Ends n (a_word e >>= λ y. r.binds e y.0 y.1 >>= λ bs. gives (bind p x s a j bs)) (a_word e >>= λ y. q.binds e y.0 y.1 >>= λ bs. gives (bind p x s a j bs)) = on_word l0 e (λ y. ends_bind (h.binds e y.0 y.1) (λ bs. ends_gives)) in
      inr (refl, g.fair.right ts)
  settles_bind e p x s a l t ts j k i = inl refl

  on_bind_rest : (e : ℕ) (p : Place) (x : Word) (s : Place) (a : Phrase) (t : Place) (k : TokenView) → Ends n (bind_rest r e p x s a t k) (bind_rest q e p x s a t k)
  on_bind_rest e p x s a t (tk.mark tk.comma) = ends_skip l0 (on_word l0 e (λ y. ends_bind (h.binds e y.0 y.1) (λ bs. ends_gives)))
  on_bind_rest e p x s a t k = ends_gives

  settles_square_member : (e : ℕ) (p s : Place) (x : Word) (t : Place) (a : Phrase) → Settles n e (square_member (any r) r e p s x t a) (square_member (any q) q e p s x t a)
  settles_square_member e p s x t a l u ts j k i = shut_on (square_from (any r) r e p (element s x t a)) (none_square e p (element s x t a)) u ts (square_member (any q) q e p s x t a j k (u ∷ ts))
    where
      none_square : (e : ℕ) (p : Place) (b : Option Phrase) → Shut (square_from (any r) r e p b)
      none_square e p (Some b) x o = absurd cc
      none_square e p None x o = absurd cc

  on_square_member : (e : ℕ) (p s : Place) (x : Word) (t : Place) (a : Phrase) (u : Place) (k : TokenView) → Ends n (square_member (any r) r e p s x t a u k) (square_member (any q) q e p s x t a u k)
  on_square_member e p s x t a u (tk.mark tk.maps) = on_function e p _
  on_square_member e p s x t a u (tk.mark tk.comma) = ends_bind (ends_peek e (on_bind_rest e s x t a) (settles_bind e s x t a)) (λ bs. on_function e p bs)
  on_square_member e p s x t a u k = on_square_from e p (element s x t a)

  shut_square_name : (e : ℕ) (p s : Place) (x : Word) → Shut (square_name (any r) r e p s x nowhere (tk.other []))
  shut_square_name e p s x = shut_then (from_name (any r) r e s x) _ (on_from e s x).fair.left (λ a. shut_then (r.climb e free a) _ (h.climb e free a).fair.left (λ b y o. absurd cc))

  on_square_name : (e : ℕ) (p s : Place) (x : Word) (t : Place) (k : TokenView) → Ends n (square_name (any r) r e p s x t k) (square_name (any q) q e p s x t k)
  on_square_name e p s x t (tk.mark tk.maps) = on_in_fields e p (plain_field s x) t (tk.mark tk.maps)
  on_square_name e p s x t (tk.mark tk.colon) = on_in_fields e p (plain_field s x) t (tk.mark tk.colon)
  on_square_name e p s x t (tk.mark tk.comma) = ends_bind (h.binds e s x) (λ bs. on_function e p bs)
  on_square_name e p s x t (tk.sign op.In) = ends_skip l0 (ends_bind (expr e (behind s x t)) (λ a. ends_peek e (on_square_member e p s x t a) (settles_square_member e p s x t a)))
  on_square_name e p s x t k = ends_bind (on_from e s x) (λ a. ends_bind (climb e free a) (λ b. ends_peek e (on_square e p b) (λ l t ts j k i. tt)))

  on_squares : (e : ℕ) (p s : Place) (k : TokenView) → Ends n (squares (any r) r e p s k) (squares (any q) q e p s k)
  on_squares e p s (tk.reserved x) = ends_skip l0 (ends_peek e (on_in_fields e p (record { place = s; is_reserved = true; text = x })) (λ l t ts j k i. tt))
  on_squares e p s (tk.word x) = ends_skip l0 (ends_peek e (on_square_name e p s x) (λ l t ts j k i. shut_on (square_name (any r) r e p s x nowhere (tk.other [])) (shut_square_name e p s x) t ts (square_name (any q) q e p s x j k (t ∷ ts))))
  on_squares e p s k = ends_bind (expr e free) (λ a. ends_peek e (on_square e p a) (λ l t ts j k i. tt))

  -- ---- primaries
  on_list : (b : Bool) (e : ℕ) (p : Place) (o : Op) → Ends (n + 2) (list_if b r e p o) (list_if b q e p o)
  on_list true e p o = ends_bind (h.bullets e o p.col) (λ bs. h.postfix e _)
  on_list false e p o = ends_refuses

  on_primary : (e : ℕ) (p : Place) (k : TokenView) → Ends (n + 2) (primary (any r) r e p k) (primary (any q) q e p k)
  on_primary e p (tk.number x) = ends_skip l2 (postfix e _)
  on_primary e p (tk.string x) = ends_skip l2 (postfix e _)
  on_primary e p (tk.constant c) = ends_skip l2 (postfix e _)
  on_primary e p (tk.word x) = ends_skip l2 (on_from e p x)
  on_primary e p (tk.mark tk.open_bracket) = ends_skip l2 (ends_bind (expr e free) (λ a. on_mark l0 e tk.close_bracket (λ s. postfix e _)))
  on_primary e p (tk.mark tk.open_brace) = ends_skip l2 (ends_bind (ends_peek e (on_braces e p) (λ l t ts j k i. shut_on (braces (any r) r e p nowhere (tk.other [])) (shut_first (r.expr e free) _ (shut.expr e free)) t ts (braces (any q) q e p j k (t ∷ ts)))) (λ a. postfix e a))
  on_primary e p (tk.mark tk.open_tuple) = ends_skip l2 (ends_bind (ends_peek e (on_tuples e p) (λ l t ts j k i. shut_on (tuples r e p nowhere (tk.other [])) (shut_first (r.phrases e) _ (shut.phrases e)) t ts (tuples q e p j k (t ∷ ts)))) (λ a. postfix e a))
  on_primary e p (tk.mark tk.open_square) = ends_skip l2 (ends_bind (ends_peek e (on_squares e p) (λ l t ts j k i. shut_on (squares (any r) r e p nowhere (tk.other [])) (shut_first (r.expr e free) _ (shut.expr e free)) t ts (squares (any q) q e p j k (t ∷ ts)))) (λ a. postfix e a))
  on_primary e p (tk.sign o) = on_list (is_bullet o) e p o
  on_primary e p k = ends_refuses

  -- ---- open forms
  on_quantifier : (e : ℕ) (b : Bool) (p : Place) → Ends n (quantifier r e b p) (quantifier q e b p)
  on_quantifier e b p = on_word l0 e (λ x. ends_bind (h.binds e x.0 x.1) (λ bs. on_mark l0 e tk.colon (λ s. ends_bind (expr e free) (λ a. ends_gives))))

  on_choice : (e : ℕ) (p : Place) → Ends n (choice_from r e p) (choice_from q e p)
  on_choice e p = ends_bind (expr e free) (λ a. on_key l0 e tk.then_key (λ s. ends_bind (expr e free) (λ b. on_key l0 e tk.else_key (λ t. ends_bind (expr e free) (λ c. ends_gives)))))

  on_keyed : (e : ℕ) (p : Place) (k : Key) → Ends (n + 2) (keyed (any r) e p k) (keyed (any q) e p k)
  on_keyed e p tk.if_key = ends_skip l2 (on_choice e p)
  on_keyed e p tk.case_key = ends_skip l2 (ends_bind (h.arms e) (λ xs. ends_gives))
  on_keyed e p tk.let_key = ends_skip l2 (ends_bind (h.locals e) (λ ls. on_key l0 e tk.in_key (λ s. ends_bind (expr e free) (λ a. ends_gives))))
  on_keyed e p tk.for_all_key = ends_skip l2 (on_quantifier e true p)
  on_keyed e p tk.exists_key = ends_skip l2 (on_quantifier e false p)
  on_keyed e p k = ends_refuses

  -- ---- operands
  on_under : (b : Bool) (e : ℕ) (o : Op) → Ends n (under_by b r e o) (under_by b q e o)
  on_under true e o = expr e (under o)
  on_under false e o = h.short e

  on_signed : (e : ℕ) (c : Context) (p : Place) (o : Op) (m : Option Op) → Ends (n + 2) (signed (any r) r e c p o m) (signed (any q) q e c p o m)
  on_signed e c p o (Some m) = ends_skip l2 (ends_bind (on_under (is_free c m) e m) (λ a. ends_gives))
  on_signed e c p o None = on_primary e p (tk.sign o)

  on_operand : (e : ℕ) (c : Context) (p : Place) (k : TokenView) → Ends (n + 2) (operand (any r) r e c p k) (operand (any q) q e c p k)
  on_operand e c p (tk.key k) = on_keyed e p k
  on_operand e c p (tk.sign o) = on_signed e c p o (prefix_by o)
  on_operand e c p k = on_primary e p k

  on_short_signed : (e : ℕ) (p : Place) (o : Op) (m : Option Op) → Ends (n + 2) (short_signed (any r) r e p o m) (short_signed (any q) q e p o m)
  on_short_signed e p o (Some m) = ends_skip l2 (ends_bind (h.short e) (λ a. ends_gives))
  on_short_signed e p o None = on_primary e p (tk.sign o)

  on_short : (e : ℕ) (p : Place) (k : TokenView) → Ends (n + 2) (short_by (any r) r e p k) (short_by (any q) q e p k)
  on_short e p (tk.sign o) = on_short_signed e p o (prefix_by o)
  on_short e p k = on_primary e p k

  -- ---- loops
  on_apply : (b : Bool) (e : ℕ) (a : Phrase) (p : Place) → Ends (n + 3) (apply_if b (any r) r e a p) (apply_if b (any q) q e a p)
  on_apply true e a p = ends_skip l3 (ends_bind (h.phrases e) (λ xs. on_mark l0 e tk.close_square (λ s. postfix e _)))
  on_apply false e a p = ends_gives

  on_select : (b : Bool) (e : ℕ) (a : Phrase) (p : Place) → Ends (n + 3) (select_if b (any r) r e a p) (select_if b (any q) q e a p)
  on_select true e a p = ends_skip l3 (on_field l0 e (λ f. postfix e _))
  on_select false e a p = ends_gives

  on_postfix : (e : ℕ) (a : Phrase) (p : Place) (k : TokenView) → Ends (n + 3) (postfix_by (any r) r e a p k) (postfix_by (any q) q e a p k)
  on_postfix e a p (tk.mark tk.open_square) = on_apply (can_be_head a p) e a p
  on_postfix e a p (tk.mark tk.dot) = on_select (can_be_head a p) e a p
  on_postfix e a p k = ends_gives

  settles_postfix : (e : ℕ) (a : Phrase) (t : Token) (ts : List Token) (p : Place) (k : TokenView) → next e (t ∷ ts) ≡ token p k → GoesOn t ts (Ok (a, [])) (postfix_by (any q) q e a p k (t ∷ ts))
  settles_postfix e a t ts p (tk.mark tk.open_square) i = by (can_be_head a p)
    where
      by : (m : Bool) → GoesOn t ts (Ok (a, [])) (apply_if m (any q) q e a p (t ∷ ts))
      by true =
          let g : Ends n (r.phrases e >>= λ xs. a_mark e tk.close_square >>= λ s. r.postfix e (apply a p xs s)) (q.phrases e >>= λ xs. a_mark e tk.close_square >>= λ s. q.postfix e (apply a p xs s)) = ends_bind (h.phrases e) (λ xs. on_mark l0 e tk.close_square (λ s. postfix e (apply a p xs s))) in
          inr (refl, g.fair.right ts)
      by false = inl refl
  settles_postfix e a t ts p (tk.mark tk.dot) i = by (can_be_head a p)
    where
      by : (m : Bool) → GoesOn t ts (Ok (a, [])) (select_if m (any q) q e a p (t ∷ ts))
      by true =
          let g : Ends n (a_field e >>= λ f. r.postfix e (select a p f)) (a_field e >>= λ f. q.postfix e (select a p f)) = on_field l0 e (λ f. postfix e (select a p f)) in
          inr (refl, g.fair.right ts)
      by false = inl refl
  settles_postfix e a t ts p k i = inl refl

  on_climb_if : (m : Bool) (e : ℕ) (c : Context) (a : Phrase) (p : Place) (o : Op) → Ends (n + 3) (climb_if m (any r) r e c a p o) (climb_if m (any q) q e c a p o)
  on_climb_if true e c a p o = ends_skip l3 (ends_bind (expr e (right_of o)) (λ d. climb e c _))
  on_climb_if false e c a p o = ends_gives

  on_climb : (e : ℕ) (c : Context) (a : Phrase) (p : Place) (k : TokenView) → Ends (n + 3) (climb_by (any r) r e c a p k) (climb_by (any q) q e c a p k)
  on_climb e c a p (tk.sign o) = on_climb_if (goes_on (bound c) a p o) e c a p o
  on_climb e c a p k = ends_gives

  settles_climb : (e : ℕ) (c : Context) (a : Phrase) (t : Token) (ts : List Token) (p : Place) (k : TokenView) → next e (t ∷ ts) ≡ token p k → GoesOn t ts (Ok (a, [])) (climb_by (any q) q e c a p k (t ∷ ts))
  settles_climb e c a t ts p (tk.sign o) i = by (goes_on (bound c) a p o)
    where
      by : (m : Bool) → GoesOn t ts (Ok (a, [])) (climb_if m (any q) q e c a p o (t ∷ ts))
      by true =
          let g : Ends n (r.expr e (right_of o) >>= λ d. r.climb e c (infix_of a p o d)) (q.expr e (right_of o) >>= λ d. q.climb e c (infix_of a p o d)) = ends_bind (expr e (right_of o)) (λ d. climb e c (infix_of a p o d)) in
          inr (refl, g.fair.right ts)
      by false = inl refl
  settles_climb e c a t ts p k i = inl refl

  -- ---- lists
  on_phrases : (e : ℕ) (a : Phrase) (p : Place) (k : TokenView) → Ends (n + 3) (phrases_by r e a p k) (phrases_by q e a p k)
  on_phrases e a p (tk.mark tk.comma) = ends_skip l3 (ends_bind (h.phrases e) (λ xs. ends_gives))
  on_phrases e a p k = ends_gives

  settles_phrases : (e : ℕ) (a : Phrase) (t : Token) (ts : List Token) (p : Place) (k : TokenView) → next e (t ∷ ts) ≡ token p k → GoesOn t ts (Ok (last a, [])) (phrases_by q e a p k (t ∷ ts))
  settles_phrases e a t ts p (tk.mark tk.comma) i =
      let g : Ends n (r.phrases e >>= λ xs. gives (more a p xs)) (q.phrases e >>= λ xs. gives (more a p xs)) = ends_bind (h.phrases e) (λ xs. ends_gives) in
      inr (refl, g.fair.right ts)
  settles_phrases e a t ts p k i = inl refl

  on_binds : (e : ℕ) (p : Place) (x : Word) (s : Place) (k : TokenView) → Ends (n + 3) (binds_by r e p x s k) (binds_by q e p x s k)
  on_binds e p x s (tk.sign op.In) = ends_skip l3 (ends_bind (expr e free) (λ a. ends_peek e (on_bind_rest e p x s a) (settles_bind e p x s a)))
  on_binds e p x s (tk.mark tk.comma) = ends_skip l3 (on_word l0 e (λ y. ends_bind (h.binds e y.0 y.1) (λ bs. ends_gives)))
  on_binds e p x s k = ends_refuses

  on_fields : (e : ℕ) (m : Mark) (f : Field) (p : Place) (a : Phrase) (s : Place) (k : TokenView) → Ends n (fields_by r e m f p a s k) (fields_by q e m f p a s k)
  on_fields e m f p a s (tk.mark tk.comma) = ends_skip l0 (on_field l0 e (λ g. ends_bind (h.fields e m g) (λ fs. ends_gives)))
  on_fields e m f p a s k = ends_gives

  settles_fields : (e : ℕ) (m : Mark) (f : Field) (p : Place) (a : Phrase) (t : Token) (ts : List Token) (s : Place) (k : TokenView) → next e (t ∷ ts) ≡ token s k → GoesOn t ts (Ok (last_field f p a, [])) (fields_by q e m f p a s k (t ∷ ts))
  settles_fields e m f p a t ts s (tk.mark tk.comma) i =
      let g : Ends n (a_field e >>= λ z. r.fields e m z >>= λ fs. gives (field f p a s fs)) (a_field e >>= λ z. q.fields e m z >>= λ fs. gives (field f p a s fs)) = on_field l0 e (λ z. ends_bind (h.fields e m z) (λ fs. ends_gives)) in
      inr (refl, g.fair.right ts)
  settles_fields e m f p a t ts s k i = inl refl

  on_settings : (e : ℕ) (p : Place) (path : Path) (s : Place) (a : Phrase) (t : Place) (k : TokenView) → Ends n (settings_by r e p path s a t k) (settings_by q e p path s a t k)
  on_settings e p path s a t (tk.mark tk.comma) = ends_skip l0 (ends_bind (h.settings e) (λ ss. ends_gives))
  on_settings e p path s a t k = ends_gives

  settles_settings : (e : ℕ) (p : Place) (path : Path) (s : Place) (a : Phrase) → Settles n e (settings_by r e p path s a) (settings_by q e p path s a)
  settles_settings e p path s a l t ts j (tk.mark tk.comma) i =
      let g : Ends n (r.settings e >>= λ ss. gives (setting p path s a j ss)) (q.settings e >>= λ ss. gives (setting p path s a j ss)) = ends_bind (h.settings e) (λ ss. ends_gives) in
      inr (refl, g.fair.right ts)
  settles_settings e p path s a l t ts j k i = inl refl

  on_setting : (b : Bool) (e : ℕ) (p : Place) (path : Path) → Ends n (setting_if b r e p path) (setting_if b q e p path)
  on_setting true e p path = on_sign l0 e op.Equal (λ s. ends_bind (expr e free) (λ a. ends_peek e (on_settings e p path s a) (settles_settings e p path s a)))
  on_setting false e p path = ends_refuses

  on_path : (e : ℕ) (p : Place) (k : TokenView) → Ends (n + 3) (path_by (any r) r e p k) (path_by (any q) q e p k)
  on_path e p (tk.mark tk.open_square) = ends_skip l3 (ends_bind (h.phrases e) (λ xs. on_mark l0 e tk.close_square (λ s. ends_bind (h.path e) (λ path. ends_gives))))
  on_path e p (tk.mark tk.dot) = ends_skip l3 (on_field l0 e (λ f. ends_bind (h.path e) (λ path. ends_gives)))
  on_path e p k = ends_gives

  settles_path : (e : ℕ) (t : Token) (ts : List Token) (p : Place) (k : TokenView) → next e (t ∷ ts) ≡ token p k → GoesOn t ts (Ok (path_end, [])) (path_by (any q) q e p k (t ∷ ts))
  settles_path e t ts p (tk.mark tk.open_square) i =
      let g : Ends n (r.phrases e >>= λ xs. a_mark e tk.close_square >>= λ s. r.path e >>= λ path. gives (index p xs s path)) (q.phrases e >>= λ xs. a_mark e tk.close_square >>= λ s. q.path e >>= λ path. gives (index p xs s path)) = ends_bind (h.phrases e) (λ xs. on_mark l0 e tk.close_square (λ s. ends_bind (h.path e) (λ path. ends_gives))) in
      inr (refl, g.fair.right ts)
  settles_path e t ts p (tk.mark tk.dot) i =
      let g : Ends n (a_field e >>= λ f. r.path e >>= λ path. gives (at_field p f path)) (a_field e >>= λ f. q.path e >>= λ path. gives (at_field p f path)) = on_field l0 e (λ f. ends_bind (h.path e) (λ path. ends_gives)) in
      inr (refl, g.fair.right ts)
  settles_path e t ts p k i = inl refl

  settles_bullets : (e : ℕ) (o : Op) (c : ℕ) (p : Place) (a : Phrase) → Settles n e (λ s k. bullets_if (is_sign o k && nat_eq c s.col) r e o c p a) (λ s k. bullets_if (is_sign o k && nat_eq c s.col) q e o c p a)
  settles_bullets e o c p a l t ts s k i = by (is_sign o k && nat_eq c s.col) refl
    where
      by : (m : Bool) → (is_sign o k && nat_eq c s.col) ≡ m → GoesOn t ts (Ok (last_bullet p a, [])) (bullets_if m q e o c p a (t ∷ ts))
      by true m =
          let g : (bs : Bullets) → IsFair n (gives (bullet p a bs)) (gives (bullet p a bs)) = λ bs. fair_gives in
          inr (refl, right_then g ts (q.bullets e o c (t ∷ ts)) (h.bullets_past e o c t ts s k (omega (arith, l)) i m))
      by false m = inl refl

  on_bullets : (b : Bool) (e : ℕ) (o : Op) (c : ℕ) (p : Place) (a : Phrase) → Ends n (bullets_if b r e o c p a) (bullets_if b q e o c p a)
  on_bullets true e o c p a = ends_bind (less (omega arith) (h.bullets e o c)) (λ bs. ends_gives)
  on_bullets false e o c p a = ends_gives

  on_other : (e : ℕ) (a : Phrase) (p : Place) (b : Phrase) (s t : Place) (k : TokenView) → Ends n (arms_other r e a p b s t k) (arms_other q e a p b s t k)
  on_other e a p b s t (tk.key tk.other_key) = ends_skip l0 (on_mark l0 e tk.arrow (λ u. ends_bind (expr e free) (λ c. ends_gives)))
  on_other e a p b s t k = ends_bind (h.arms e) (λ xs. ends_gives)

  settles_other : (e : ℕ) (a : Phrase) (p : Place) (b : Phrase) (s : Place) → Settles n e (arms_other r e a p b s) (arms_other q e a p b s)
  settles_other e a p b s l t ts j k i = shut_on (arms_other r e a p b s nowhere (tk.other [])) (shut_first (r.arms e) _ (shut.arms e)) t ts (arms_other q e a p b s j k (t ∷ ts))

  on_arms_if : (m : Bool) (e : ℕ) (a : Phrase) (p : Place) (b : Phrase) (s : Place) → Ends (n + 3) (arms_if m r e a p b s) (arms_if m q e a p b s)
  on_arms_if true e a p b s = ends_gives
  on_arms_if false e a p b s = ends_skip l3 (ends_peek e (on_other e a p b s) (settles_other e a p b s))

  on_arms : (e : ℕ) (a : Phrase) (p : Place) (b : Phrase) (s : Place) (k : TokenView) → Ends (n + 3) (arms_by r e a p b s k) (arms_by q e a p b s k)
  on_arms e a p b s (tk.mark tk.box) = on_arms_if (takes_box s.col b) e a p b s
  on_arms e a p b s k = ends_gives

  settles_arms : (e : ℕ) (a : Phrase) (p : Place) (b : Phrase) (t : Token) (ts : List Token) (s : Place) (k : TokenView) → next e (t ∷ ts) ≡ token s k → GoesOn t ts (Ok (last_arm a p b, [])) (arms_by q e a p b s k (t ∷ ts))
  settles_arms e a p b t ts s (tk.mark tk.box) i = by (takes_box s.col b)
    where
      by : (m : Bool) → GoesOn t ts (Ok (last_arm a p b, [])) (arms_if m q e a p b s (t ∷ ts))
      by true = inl refl
      by false =
          let g : Ends n (peek e (arms_other r e a p b s)) (peek e (arms_other q e a p b s)) = ends_peek e (on_other e a p b s) (settles_other e a p b s) in
          inr (refl, g.fair.right ts)
  settles_arms e a p b t ts s k i = inl refl

  settles_locals : (e : ℕ) (p : Place) (x : Word) (s : Place) (a : Phrase) → Settles n e (locals_by r e p x s a) (locals_by q e p x s a)
  settles_locals e p x s a l t ts j (tk.word y) i =
      let g : (ls : Locals) → IsFair n (gives (more_locals p x s a ls)) (gives (more_locals p x s a ls)) = λ ls. fair_gives in
      inr (refl, right_then g ts (q.locals e (t ∷ ts)) (h.locals_past e t ts j y (omega (arith, l)) i))
  settles_locals e p x s a l t ts j k i = inl refl

  on_locals : (e : ℕ) (p : Place) (x : Word) (s : Place) (a : Phrase) (t : Place) (k : TokenView) → Ends n (locals_by r e p x s a t k) (locals_by q e p x s a t k)
  on_locals e p x s a t (tk.word y) = ends_bind (h.locals e) (λ ls. ends_gives)
  on_locals e p x s a t k = ends_gives

  -- ---- one step more
  on_items : (e : ℕ) (o : Op) (c : ℕ) (p : Place) → Ends n (r.expr c free >>= λ a. peek e (λ s k. bullets_if (is_sign o k && nat_eq c s.col) r e o c p a)) (q.expr c free >>= λ a. peek e (λ s k. bullets_if (is_sign o k && nat_eq c s.col) q e o c p a))
  on_items e o c p = ends_bind (expr c free) (λ a. ends_peek e (λ s k. on_bullets (is_sign o k && nat_eq c s.col) e o c p a) (settles_bullets e o c p a))

  on_defined : (e : ℕ) (x : Place × Word) → Ends n (a_mark e tk.defines >>= λ s. r.expr e free >>= λ a. peek e (locals_by r e x.0 x.1 s a)) (a_mark e tk.defines >>= λ s. q.expr e free >>= λ a. peek e (locals_by q e x.0 x.1 s a))
  on_defined e x = on_mark l0 e tk.defines (λ s. ends_bind (expr e free) (λ a. ends_peek e (on_locals e x.0 x.1 s a) (settles_locals e x.0 x.1 s a)))

  bullets_are_past : (e : ℕ) (o : Op) (c : ℕ) (t : Token) (ts : List Token) (p : Place) (k : TokenView) → next e (t ∷ ts) ≡ token p k → (is_sign o k && nat_eq c p.col) ≡ true → Within ts ((one_step (any q) q).bullets e o c (t ∷ ts))
  bullets_are_past e o c t ts p k i m =
      took_past (bullet_of o c (next e (t ∷ ts)).place (next e (t ∷ ts)).kind) p (λ s. q.expr c free >>= λ a. peek e (λ j u. bullets_if (is_sign o u && nat_eq c j.col) q e o c s a))
      (ap (λ (z : Token). bullet_of o c z.place z.kind) i ∙ chosen (is_sign o k && nat_eq c p.col) m) (on_items e o c p).fair.right t ts
    where
      chosen : (b : Bool) → b ≡ true → (if b then Some p else None) ≡ Some p
      chosen true e = refl
      chosen false e = absurd cc

  locals_are_past : (e : ℕ) (t : Token) (ts : List Token) (p : Place) (y : Word) → next e (t ∷ ts) ≡ token p (tk.word y) → Within ts ((one_step (any q) q).locals e (t ∷ ts))
  locals_are_past e t ts p y i =
      took_past (word_of (next e (t ∷ ts)).place (next e (t ∷ ts)).kind) (p, y) (λ x. a_mark e tk.defines >>= λ s. q.expr e free >>= λ a. peek e (locals_by q e x.0 x.1 s a))
      (ap (λ (z : Token). word_of z.place z.kind) i) (on_defined e (p, y)).fair.right t ts

  on_step : AreEnding (suc n) (one_step (any r) r) (one_step (any q) q)
  on_step = record {
    expr = λ e c. less (omega arith) (ends_bind (ends_peek e (on_operand e c) (λ l t ts j k i. tt)) (λ a. h.climb e c a));
    short = λ e. less (omega arith) (ends_peek e (on_short e) (λ l t ts j k i. tt));
    postfix = λ e a. less (omega arith) (ends_peek e (on_postfix e a) (λ l. settles_postfix e a));
    climb = λ e c a. less (omega arith) (ends_peek e (on_climb e c a) (λ l. settles_climb e c a));
    phrases = λ e. less (omega arith) (ends_bind (h.expr e free) (λ a. ends_peek e (λ p k. less (omega arith) (on_phrases e a p k)) (λ l. settles_phrases e a)));
    binds = λ e p x. less (omega arith) (ends_peek e (on_binds e p x) (λ l t ts j k i. tt));
    fields = λ e m f. less (omega arith) (on_mark l3 e m (λ p. ends_bind (expr e free) (λ a. ends_peek e (on_fields e m f p a) (λ l. settles_fields e m f p a))));
    settings = λ e. less (omega arith) (on_mark l3 e tk.bang (λ p. ends_bind (h.path e) (λ path. on_setting (is_some_path path) e p path)));
    path = λ e. less (omega arith) (ends_peek e (on_path e) (λ l. settles_path e));
    bullets = λ e o c. less (omega arith) (ends_take l3 (on_items e o c) e (bullet_of o c) refl);
    arms = λ e. less (omega arith) (ends_bind (h.expr e free) (λ a. on_mark l1 e tk.arrow (λ p. ends_bind (expr e free) (λ b. ends_peek e (λ s k. less (omega arith) (on_arms e a p b s k)) (λ l. settles_arms e a p b)))));
    locals = λ e. less (omega arith) (on_word l3 e (on_defined e));
    bullets_past = λ e o c t ts p k l i m. bullets_are_past e o c t ts p k i m;
    locals_past = λ e t ts p y l i. locals_are_past e t ts p y i;
  }

-- ---- without steps
none_yet : {A : Type 0} {b : ℕ} {p q : Reader A} → b ≤ 3 → IsFair b p q → Ends b p q
none_yet l h = record { fair = h; ends = λ k t r m. absurd (omega (arith, l, m)) }

no_endings : (r q : Readers) → AreFair 0 r q → AreEnding 0 r q
no_endings r q f = record {
  expr = λ e c. none_yet (omega arith) (f.expr e c);
  short = λ e. none_yet (omega arith) (f.short e);
  postfix = λ e a. none_yet (omega arith) (f.postfix e a);
  climb = λ e c a. none_yet (omega arith) (f.climb e c a);
  phrases = λ e. none_yet (omega arith) (f.phrases e);
  binds = λ e p x. none_yet (omega arith) (f.binds e p x);
  fields = λ e m x. none_yet (omega arith) (f.fields e m x);
  settings = λ e. none_yet (omega arith) (f.settings e);
  path = λ e. none_yet (omega arith) (f.path e);
  bullets = λ e o c. none_yet (omega arith) (f.bullets e o c);
  arms = λ e. none_yet (omega arith) (f.arms e);
  locals = λ e. none_yet (omega arith) (f.locals e);
  bullets_past = λ e o c t ts p k l i m. absurd (omega (arith, l));
  locals_past = λ e t ts p y l i. absurd (omega (arith, l));
}

endings : (b n m : ℕ) → b ≤ n → b ≤ m → AreEnding b (readers n None) (readers m None)
unfolding readers_in
endings zero n m i j = no_endings (readers n None) (readers m None) (fair_readers 0 n m i j None)
endings (suc b) zero m i j = absurd (omega (arith, i))
endings (suc b) (suc n) zero i j = absurd (omega (arith, j))
endings (suc b) (suc n) (suc m) i j = on_step b (readers n None) (readers m None) (shuts n) (endings b n m (omega (arith, i)) (omega (arith, j)))

-- ---- where the tokens before the refused one are no expression
pub refused_after_none : (e : ℕ) (passed rest : List Token) (q : Rule) → read e (passed ++ rest) ≡ Err (q, rest) → (a : Phrase) → Good e a → passed ≡ spell a [] → ⊥
refused_after_none e passed [] q o a g s = both_ends (closed a (reads a) e g [] refl (4 * length (passed ++ [])) (omega (arith, few a [], ap length s, length-append passed [])))
  where
    both_ends : (readers (4 * length (passed ++ [])) None).expr e free (spell a []) ≡ Ok (a, []) → ⊥
    both_ends d = (let both : ◌≡◌ {A = Out Phrase} (Err (q, [])) (Ok (a, [])) = sym o ∙ ap (λ (ts : List Token). (readers (4 * length (passed ++ [])) None).expr e free ts) (append-nil passed ∙ s) ∙ d in cc)
refused_after_none e passed (t ∷ r) q o a g s =
    let n = 4 + 4 * length passed in
    let m = 4 * length (passed ++ t ∷ r) in
    let j : n ≤ m = omega (arith, length-append passed (t ∷ r)) in
    let ends : (readers n None).expr e free passed ≡ Ok (a, []) = ap (λ (ts : List Token). (readers n None).expr e free ts) s ∙ closed a (reads a) e g [] refl n (omega (arith, few a [], ap length s)) in
    let on = ((endings n n m (omega arith) j).expr e free).ends passed t r (omega arith) in
    apart ((readers n None).expr e free passed) (read e (passed ++ t ∷ r)) ends o on
  where
    apart : (x y : Out Phrase) → x ≡ Ok (a, []) → y ≡ Err (q, t ∷ r) → GoesOn t r x y → ⊥
    apart (Ok z) y d o (inl h) = (let both : ◌≡◌ {A = Out Phrase} (Err (q, t ∷ r)) (Ok (z.0, z.1 ++ t ∷ r)) = sym o ∙ h in cc)
    apart (Ok z) (Ok y) d o (inr h) = absurd cc
    apart (Ok z) (Err y) d o (inr h) =
        let pair : ◌≡◌ {A = Stop} y (q, t ∷ r) = cc in
        let same : y.1 ≡ t ∷ r = ap (λ (z : Stop). z.1) pair in
        let lengths : length r ≡ length h.1.0 + suc (length r) = ap length (h.1.1 ∙ ap (λ (u : List Token). h.1.0 ++ u) same) ∙ length-append h.1.0 (t ∷ r) in
        absurd (omega (arith, lengths))
    apart (Err z) y d o h = absurd cc
