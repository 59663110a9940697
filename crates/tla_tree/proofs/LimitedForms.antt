-- Reading within a limit: primaries, open forms, operators, and lists of all kinds.
use Rattle.std.proofs.Common.{◌≡◌, ◌≤◌, ℕ, suc, ◌+◌, Bool, true, false, ◌||◌, ◌&&◌, nat_eq, if◌then◌else◌, List, ◌∷◌, Option, Some, None, refl, sym, ap, eq-eqb, arith}
use Rattle.tla_token.specs.declared.place.Place.{Place}
use Rattle.tla_tree.specs.declared.op.Op.{Op}
use Rattle.tla_tree.specs.declared.op.Op.TheVariants as op
use Rattle.tla_tree.specs.Tree.{Word}
use Rattle.tla_tree.specs.Rank.{is_bullet, number_of}
use Rattle.tla_tree.specs.Lexical.{Mark, Key, TokenView, Token, token}
use Rattle.tla_tree.specs.Lexical as tk
use Rattle.tla_tree.specs.Spelling.{Field, Phrase, number, string, constant, brackets, apply, select, list, quantified, if_then_else, cases, local, infix_of, prefix_of}
use Rattle.tla_tree.specs.Spelling.{last, more, share, last_field, field, last_setting, setting, Path, path_end, index, at_field, last_bullet, bullet, last_arm, other_arm, arm, last_local, more_locals, can_be_head, takes_box}
use Rattle.tla_tree.specs.Nesting.{chain, links, before, counts_in, all_in, binds_in, fields_in, settings_in, path_in, bullets_in, arms_in, locals_in}
use Rattle.tla_tree.specs.Nesting.{at_field as field_at}
use Rattle.tla_tree.specs.Reader.{◌>>=◌, gives, a_mark, a_key, a_field, any, Room, next, tail, peek, take, is_sign, bullet_of, Context, free, right_of, under, behind, bound, is_free, is_behind_in, prefix_by, goes_on, fewest, so_far, Readers, braces, tuples, squares, list_if, primary, quantifier, choice_from, keyed, under_by, signed, operand, short_signed, short_by, apply_if, select_if, postfix_by, climb_if, climb_by, phrases_by, binds_by, fields_by, settings_by, setting_if, path_by, bullets_if, arms_other, arms_if, arms_by, locals_by, opened, opened_if}
use Rattle.tla_tree.proofs.Opened.{in_select}
use Rattle.tla_tree.proofs.SpellAhead.{Ahead, held, put_ahead, then_ahead}
use Rattle.tla_tree.proofs.DeepCounts.{ahead_in, ahead_all_in, ahead_binds_in, ahead_path_in, ahead_locals_in}
use Rattle.tla_tree.proofs.SoundTokens.{seen}
use Rattle.tla_tree.proofs.Limited.{Fitting, Late, On, limited_bind, limited_gives, limited_refuses, limited_skip, limited_mark, limited_key, limited_sign, limited_word, limited_field}
use Rattle.tla_tree.proofs.LimitedRooms.{AreLimited, IsRoom, limited_opened, limited_opened_by}
use Rattle.tla_tree.proofs.LimitedBraces.{limited_from, limited_bind_rest}
use Rattle.tla_tree.proofs.LimitedBraces as in_braces
use Rattle.tla_tree.proofs.LimitedMembers.{limited_braces, limited_squares}

abbrev Xs : Type 0
Xs = List ℕ → List ℕ

-- inside, where so many more are open
module _ (linked l : Bool) (b k : ℕ) (r q : Readers) (h : AreLimited linked l b (k + 1) r q) (x : Xs) (ax : Ahead x) where
  limited_quantifier : (e : ℕ) (o : Bool) (p : Place) (ts : List Token) → On l b (λ u. x ((k + 1) ∷ u)) (λ d u. x (counts_in linked k d u)) ts (quantifier r e o p ts) (quantifier q e o p ts)
  limited_quantifier e o p ts =
      limited_bind (limited_word l b (k + 1) h.low (λ u. x ((k + 1) ∷ u)) e ts)
      (λ y us j. limited_bind (h.binds e y.0 y.1 (λ u. x ((k + 1) ∷ u)) (then_ahead ax (put_ahead held)) us)
      (λ bs ws j. limited_bind (limited_mark l b (k + 1) h.low (λ u. x ((k + 1) ∷ binds_in linked (k + 1) bs u)) e tk.colon ws)
      (λ s zs j. limited_bind (h.expr e free refl (λ u. x ((k + 1) ∷ binds_in linked (k + 1) bs ((k + 1) ∷ u))) (then_ahead ax (put_ahead (then_ahead (ahead_binds_in linked (k + 1) bs) (put_ahead held)))) zs)
      (λ a vs j. limited_gives (quantified o p bs s a) vs))))

  limited_choice : (e : ℕ) (p : Place) (ts : List Token) → On l b (λ u. x ((k + 1) ∷ u)) (λ d u. x (counts_in linked k d u)) ts (choice_from r e p ts) (choice_from q e p ts)
  limited_choice e p ts =
      limited_bind (h.expr e free refl (λ u. x ((k + 1) ∷ u)) (then_ahead ax (put_ahead held)) ts)
      (λ a us j. limited_bind (limited_key l b (k + 1) h.low (λ u. x ((k + 1) ∷ counts_in linked (k + 1) a u)) e tk.then_key us)
      (λ s ws j. limited_bind (h.expr e free refl (λ u. x ((k + 1) ∷ counts_in linked (k + 1) a ((k + 1) ∷ u))) (then_ahead ax (put_ahead (then_ahead (ahead_in linked (k + 1) a) (put_ahead held)))) ws)
      (λ c zs j. limited_bind (limited_key l b (k + 1) h.low (λ u. x ((k + 1) ∷ counts_in linked (k + 1) a ((k + 1) ∷ counts_in linked (k + 1) c u))) e tk.else_key zs)
      (λ t vs j. limited_bind (h.expr e free refl (λ u. x ((k + 1) ∷ counts_in linked (k + 1) a ((k + 1) ∷ counts_in linked (k + 1) c ((k + 1) ∷ u)))) (then_ahead ax (put_ahead (then_ahead (ahead_in linked (k + 1) a) (put_ahead (then_ahead (ahead_in linked (k + 1) c) (put_ahead held)))))) vs)
      (λ d xs j. limited_gives (if_then_else p a s c t d) xs)))))

  limited_local : (e : ℕ) (p : Place) (ts : List Token) → On l b (λ u. x ((k + 1) ∷ u)) (λ d u. x (counts_in linked k d u)) ts ((r.locals e >>= λ ls. a_key e tk.in_key >>= λ q'. r.expr e free >>= λ a. gives (local p ls q' a)) ts) ((q.locals e >>= λ ls. a_key e tk.in_key >>= λ q'. q.expr e free >>= λ a. gives (local p ls q' a)) ts)
  limited_local e p ts =
      limited_bind (h.locals e (λ u. x ((k + 1) ∷ u)) (then_ahead ax (put_ahead held)) ts)
      (λ ls us j. limited_bind (limited_key l b (k + 1) h.low (λ u. x ((k + 1) ∷ locals_in linked (k + 1) ls u)) e tk.in_key us)
      (λ s ws j. limited_bind (h.expr e free refl (λ u. x ((k + 1) ∷ locals_in linked (k + 1) ls ((k + 1) ∷ u))) (then_ahead ax (put_ahead (then_ahead (ahead_locals_in linked (k + 1) ls) (put_ahead held)))) ws)
      (λ a zs j. limited_gives (local p ls s a) zs)))

  limited_under : (o : Bool) (e : ℕ) (p : Place) (s : Op) (ts : List Token) → On l b (λ u. x ((k + 1) ∷ u)) (λ d u. x (counts_in linked k d u)) ts ((under_by o r e s >>= λ a. gives (prefix_of p s a)) ts) ((under_by o q e s >>= λ a. gives (prefix_of p s a)) ts)
  limited_under true e p s ts = limited_bind (h.expr e (under s) refl (λ u. x ((k + 1) ∷ u)) (then_ahead ax (put_ahead held)) ts) (λ a us j. limited_gives (prefix_of p s a) us)
  limited_under false e p s ts = limited_bind (h.short e (λ u. x ((k + 1) ∷ u)) (then_ahead ax (put_ahead held)) ts) (λ a us j. limited_gives (prefix_of p s a) us)

-- a sign of the operator in the column
pub is_its_bullet : (e : ℕ) (p : Place) (o : Op) (ts : List Token) → next e ts ≡ token p (tk.sign o) → bullet_of o p.col (next e ts).place (next e ts).kind ≡ Some p
is_its_bullet e p o ts i = rw (i, eq-eqb (number_of o) (number_of o) refl, eq-eqb p.col p.col refl) refl

pub bullet_if : (o : Op) (c : ℕ) (t : Token) → (is_sign o t.kind && nat_eq c t.place.col) ≡ true → bullet_of o c t.place t.kind ≡ Some t.place
bullet_if o c t h = rw h refl

module _ (linked l : Bool) (b k : ℕ) (m : Room) (r q : Readers) (h : AreLimited linked l b k r q) (v : IsRoom linked l b k m q) where
  -- ---- primaries
  limited_list : (o' : Bool) (e : ℕ) (p : Place) (o : Op) (x : Xs) → Ahead x → (ts : List Token) → next e ts ≡ token p (tk.sign o) → On l b x (λ a u. x (counts_in linked k a u)) ts (list_if o' r e p o ts) (list_if o' q e p o ts)
  limited_list true e p o x ax ts i = limited_bind (h.bullets e o p.col x ax ts p (is_its_bullet e p o ts i)) (λ bs us j. h.postfix e (list o bs) x ax us)
  limited_list false e p o x ax ts i = limited_refuses ts

  limited_primary : (e : ℕ) (p : Place) (t : TokenView) (x : Xs) → Ahead x → (ts : List Token) → next e ts ≡ token p t → On l b x (λ a u. x (counts_in linked k a u)) ts (primary m r e p t ts) (primary (any q) q e p t ts)
  limited_primary e p (tk.number n) x ax ts i = limited_skip l b x k (seen e ts p (tk.number n) i refl).1 h.low (h.postfix e (number p n) x ax (tail ts))
  limited_primary e p (tk.string y) x ax ts i = limited_skip l b x k (seen e ts p (tk.string y) i refl).1 h.low (h.postfix e (string p y) x ax (tail ts))
  limited_primary e p (tk.constant c) x ax ts i = limited_skip l b x k (seen e ts p (tk.constant c) i refl).1 h.low (h.postfix e (constant p c) x ax (tail ts))
  limited_primary e p (tk.word y) x ax ts i = limited_skip l b x k (seen e ts p (tk.word y) i refl).1 h.low (limited_from linked l b k m r q h v e p y x ax (tail ts))
  limited_primary e p (tk.mark tk.open_bracket) x ax ts i =
      limited_opened linked l b k m r q h v 0 (k + 1) (λ z. refl) x ax (λ l' a. Fitting l' b (λ u. x (counts_in linked k a u))) (λ a. Late b (λ u. x (counts_in linked k a u)))
      (λ r' i d. d.expr e free >>= λ a. a_mark e tk.close_bracket >>= λ s. r'.postfix e (brackets p a s)) (seen e ts p (tk.mark tk.open_bracket) i refl).1
      (λ l' r' i d h' v' g. limited_bind (g.expr e free refl (λ u. x ((k + 1) ∷ u)) (then_ahead ax (put_ahead held)) (tail ts))
      (λ a us j. limited_bind (limited_mark l' b (k + 1) g.low (λ u. x ((k + 1) ∷ counts_in linked (k + 1) a u)) e tk.close_bracket us)
      (λ s ws j. h'.postfix e (brackets p a s) x ax ws)))
  limited_primary e p (tk.mark tk.open_brace) x ax ts i =
      limited_opened linked l b k m r q h v 0 (k + 1) (λ z. refl) x ax (λ l' a. Fitting l' b (λ u. x (counts_in linked k a u))) (λ a. Late b (λ u. x (counts_in linked k a u)))
      (λ r' i d. peek e (braces i d e p) >>= λ a. r'.postfix e a) (seen e ts p (tk.mark tk.open_brace) i refl).1
      (λ l' r' i d h' v' g. limited_bind (limited_braces linked l' b k i d q g v' x ax e p (next e (tail ts)).place (next e (tail ts)).kind (tail ts) refl) (λ a us j. h'.postfix e a x ax us))
  limited_primary e p (tk.mark tk.open_tuple) x ax ts i =
      limited_opened linked l b k m r q h v 0 (k + 1) (λ z. refl) x ax (λ l' a. Fitting l' b (λ u. x (counts_in linked k a u))) (λ a. Late b (λ u. x (counts_in linked k a u)))
      (λ r' i d. peek e (tuples d e p) >>= λ a. r'.postfix e a) (seen e ts p (tk.mark tk.open_tuple) i refl).1
      (λ l' r' i d h' v' g. limited_bind (in_braces.limited_tuples linked l' b k d q g x ax e p (next e (tail ts)).place (next e (tail ts)).kind (tail ts) refl) (λ a us j. h'.postfix e a x ax us))
  limited_primary e p (tk.mark tk.open_square) x ax ts i =
      limited_opened linked l b k m r q h v 0 (k + 1) (λ z. refl) x ax (λ l' a. Fitting l' b (λ u. x (counts_in linked k a u))) (λ a. Late b (λ u. x (counts_in linked k a u)))
      (λ r' i d. peek e (squares i d e p) >>= λ a. r'.postfix e a) (seen e ts p (tk.mark tk.open_square) i refl).1
      (λ l' r' i d h' v' g. limited_bind (limited_squares linked l' b k i d q g v' x ax e p (next e (tail ts)).place (next e (tail ts)).kind (tail ts) refl) (λ a us j. h'.postfix e a x ax us))
  limited_primary e p (tk.sign o) x ax ts i = limited_list (is_bullet o) e p o x ax ts i
  limited_primary e p t x ax ts i = limited_refuses ts

  -- ---- open forms
  limited_keyed : (e : ℕ) (p : Place) (t : Key) (x : Xs) → Ahead x → (ts : List Token) → next e ts ≡ token p (tk.key t) → On l b x (λ a u. x (counts_in linked k a u)) ts (keyed m e p t ts) (keyed (any q) e p t ts)
  limited_keyed e p tk.if_key x ax ts i =
      limited_opened linked l b k m r q h v 0 (k + 1) (λ z. refl) x ax (λ l' a. Fitting l' b (λ u. x (counts_in linked k a u))) (λ a. Late b (λ u. x (counts_in linked k a u)))
      (λ r' i d. choice_from d e p) (seen e ts p (tk.key tk.if_key) i refl).1 (λ l' r' i d h' v' g. limited_choice linked l' b k d q g x ax e p (tail ts))
  limited_keyed e p tk.case_key x ax ts i =
      limited_opened linked l b k m r q h v 0 (k + 1) (λ z. refl) x ax (λ l' a. Fitting l' b (λ u. x (counts_in linked k a u))) (λ a. Late b (λ u. x (counts_in linked k a u)))
      (λ r' i d. d.arms e >>= λ xs. gives (cases p xs)) (seen e ts p (tk.key tk.case_key) i refl).1
      (λ l' r' i d h' v' g. limited_bind (g.arms e (λ u. x ((k + 1) ∷ u)) (then_ahead ax (put_ahead held)) (tail ts)) (λ xs us j. limited_gives (cases p xs) us))
  limited_keyed e p tk.let_key x ax ts i =
      limited_opened linked l b k m r q h v 0 (k + 1) (λ z. refl) x ax (λ l' a. Fitting l' b (λ u. x (counts_in linked k a u))) (λ a. Late b (λ u. x (counts_in linked k a u)))
      (λ r' i d. d.locals e >>= λ ls. a_key e tk.in_key >>= λ s. d.expr e free >>= λ a. gives (local p ls s a)) (seen e ts p (tk.key tk.let_key) i refl).1
      (λ l' r' i d h' v' g. limited_local linked l' b k d q g x ax e p (tail ts))
  limited_keyed e p tk.for_all_key x ax ts i =
      limited_opened linked l b k m r q h v 0 (k + 1) (λ z. refl) x ax (λ l' a. Fitting l' b (λ u. x (counts_in linked k a u))) (λ a. Late b (λ u. x (counts_in linked k a u)))
      (λ r' i d. quantifier d e true p) (seen e ts p (tk.key tk.for_all_key) i refl).1 (λ l' r' i d h' v' g. limited_quantifier linked l' b k d q g x ax e true p (tail ts))
  limited_keyed e p tk.exists_key x ax ts i =
      limited_opened linked l b k m r q h v 0 (k + 1) (λ z. refl) x ax (λ l' a. Fitting l' b (λ u. x (counts_in linked k a u))) (λ a. Late b (λ u. x (counts_in linked k a u)))
      (λ r' i d. quantifier d e false p) (seen e ts p (tk.key tk.exists_key) i refl).1 (λ l' r' i d h' v' g. limited_quantifier linked l' b k d q g x ax e false p (tail ts))
  limited_keyed e p t x ax ts i = limited_refuses ts

  -- ---- operands
  limited_signed : (e : ℕ) (c : Context) (p : Place) (o : Op) (s : Option Op) (x : Xs) → Ahead x → (ts : List Token) → next e ts ≡ token p (tk.sign o) → On l b x (λ a u. x (counts_in linked k a u)) ts (signed m r e c p o s ts) (signed (any q) q e c p o s ts)
  limited_signed e c p o (Some s) x ax ts i =
      limited_opened linked l b k m r q h v 0 (k + 1) (λ z. refl) x ax (λ l' a. Fitting l' b (λ u. x (counts_in linked k a u))) (λ a. Late b (λ u. x (counts_in linked k a u)))
      (λ r' i d. under_by (is_free c s) d e s >>= λ a. gives (prefix_of p s a)) (seen e ts p (tk.sign o) i refl).1 (λ l' r' i d h' v' g. limited_under linked l' b k d q g x ax (is_free c s) e p s (tail ts))
  limited_signed e c p o None x ax ts i = limited_primary e p (tk.sign o) x ax ts i

  pub limited_operand : (e : ℕ) (c : Context) (p : Place) (t : TokenView) (x : Xs) → Ahead x → (ts : List Token) → next e ts ≡ token p t → On l b x (λ a u. x (counts_in linked k a u)) ts (operand m r e c p t ts) (operand (any q) q e c p t ts)
  limited_operand e c p (tk.key t) x ax ts i = limited_keyed e p t x ax ts i
  limited_operand e c p (tk.sign o) x ax ts i = limited_signed e c p o (prefix_by o) x ax ts i
  limited_operand e c p t x ax ts i = limited_primary e p t x ax ts i

  limited_short_signed : (e : ℕ) (p : Place) (o : Op) (s : Option Op) (x : Xs) → Ahead x → (ts : List Token) → next e ts ≡ token p (tk.sign o) → On l b x (λ a u. x (counts_in linked k a u)) ts (short_signed m r e p o s ts) (short_signed (any q) q e p o s ts)
  limited_short_signed e p o (Some s) x ax ts i =
      limited_opened linked l b k m r q h v 0 (k + 1) (λ z. refl) x ax (λ l' a. Fitting l' b (λ u. x (counts_in linked k a u))) (λ a. Late b (λ u. x (counts_in linked k a u)))
      (λ r' i d. d.short e >>= λ a. gives (prefix_of p s a)) (seen e ts p (tk.sign o) i refl).1 (λ l' r' i d h' v' g. limited_under linked l' b k d q g x ax false e p s (tail ts))
  limited_short_signed e p o None x ax ts i = limited_primary e p (tk.sign o) x ax ts i

  pub limited_short : (e : ℕ) (p : Place) (t : TokenView) (x : Xs) → Ahead x → (ts : List Token) → next e ts ≡ token p t → On l b x (λ a u. x (counts_in linked k a u)) ts (short_by m r e p t ts) (short_by (any q) q e p t ts)
  limited_short e p (tk.sign o) x ax ts i = limited_short_signed e p o (prefix_by o) x ax ts i
  limited_short e p t x ax ts i = limited_primary e p t x ax ts i

  -- ---- loops
  limited_apply : (o : Bool) (e : ℕ) (a : Phrase) (p : Place) (x : Xs) → Ahead x → (ts : List Token) → next e ts ≡ token p (tk.mark tk.open_square) → On l b (λ u. x (counts_in linked k a u)) (λ d u. x (counts_in linked k d u)) ts (apply_if o m r e a p ts) (apply_if o (any q) q e a p ts)
  limited_apply true e a p x ax ts i =
      limited_opened linked l b k m r q h v (before m.linked a) (k + before linked a + 1) (λ z. (let same = ap (λ (t : Bool). before t a) (v.links z) in omega (arith, same))) (λ u. x (counts_in linked k a u)) (then_ahead ax (ahead_in linked k a)) (λ l' d. Fitting l' b (λ u. x (counts_in linked k d u))) (λ d. Late b (λ u. x (counts_in linked k d u)))
      (λ r' i d. d.phrases e >>= λ xs. a_mark e tk.close_square >>= λ s. r'.postfix e (apply a p xs s)) (seen e ts p (tk.mark tk.open_square) i refl).1
      (λ l' r' i d h' v' g. limited_bind (g.phrases e (λ u. x (counts_in linked k a ((k + before linked a + 1) ∷ u))) (then_ahead ax (then_ahead (ahead_in linked k a) (put_ahead held))) (tail ts))
      (λ xs us j. limited_bind (limited_mark l' b (k + before linked a + 1) g.low (λ u. x (counts_in linked k a ((k + before linked a + 1) ∷ all_in linked (k + before linked a + 1) xs u))) e tk.close_square us)
      (λ s ws j. h'.postfix e (apply a p xs s) x ax ws)))
  limited_apply false e a p x ax ts i = limited_gives a ts

  -- a field, which opens as many forms as it counts
  module _ (e : ℕ) (a : Phrase) (p : Place) (x : Xs) (ax : Ahead x) (ts : List Token) (i : next e ts ≡ token p (tk.mark tk.dot)) where
    opens : m.linked ≡ true → l ≡ true → field_at linked k a ≡ k + suc (links a)
    opens z y = rw (sym (v.links y), z) (omega arith)

    opens_none : m.linked ≡ false → l ≡ true → field_at linked k a ≤ b
    opens_none z y = rw (sym (v.links y), z) (h.low y)

    limited_field_at : (t : Bool) → m.linked ≡ t → On l b (λ u. x (counts_in linked k a u)) (λ d u. x (counts_in linked k d u)) ts (opened_if t m r (links a) (in_select r e a p) ts) (in_select q e a p (any q) q ts)
    limited_field_at true z =
        limited_opened linked l b k m r q h v (links a) (field_at linked k a) (opens z) (λ u. x (counts_in linked k a u)) (then_ahead ax (ahead_in linked k a)) (λ l' d. Fitting l' b (λ u. x (counts_in linked k d u))) (λ d. Late b (λ u. x (counts_in linked k d u)))
        (λ r' i d. a_field e >>= λ f. r'.postfix e (select a p f)) (seen e ts p (tk.mark tk.dot) i refl).1
        (λ l' r' i d h' v' g. limited_bind (limited_field l' b (field_at linked k a) g.low (λ u. x (counts_in linked k a ((field_at linked k a) ∷ u))) e (tail ts)) (λ f us j. h'.postfix e (select a p f) x ax us))
    limited_field_at false z =
        limited_skip l b (λ u. x (counts_in linked k a u)) (field_at linked k a) (seen e ts p (tk.mark tk.dot) i refl).1 (opens_none z)
        (limited_bind (limited_field l b (field_at linked k a) (opens_none z) (λ u. x (counts_in linked k a ((field_at linked k a) ∷ u))) e (tail ts)) (λ f us j. h.postfix e (select a p f) x ax us))

  limited_select : (o : Bool) (e : ℕ) (a : Phrase) (p : Place) (x : Xs) → Ahead x → (ts : List Token) → next e ts ≡ token p (tk.mark tk.dot) → On l b (λ u. x (counts_in linked k a u)) (λ d u. x (counts_in linked k d u)) ts (select_if o m r e a p ts) (select_if o (any q) q e a p ts)
  limited_select true e a p x ax ts i = limited_field_at e a p x ax ts i m.linked refl
  limited_select false e a p x ax ts i = limited_gives a ts

  pub limited_postfix : (e : ℕ) (a : Phrase) (p : Place) (t : TokenView) (x : Xs) → Ahead x → (ts : List Token) → next e ts ≡ token p t → On l b (λ u. x (counts_in linked k a u)) (λ d u. x (counts_in linked k d u)) ts (postfix_by m r e a p t ts) (postfix_by (any q) q e a p t ts)
  limited_postfix e a p (tk.mark tk.open_square) x ax ts i = limited_apply (can_be_head a p) e a p x ax ts i
  limited_postfix e a p (tk.mark tk.dot) x ax ts i = limited_select (can_be_head a p) e a p x ax ts i
  limited_postfix e a p t x ax ts i = limited_gives a ts

  alone_at : (a : Phrase) (f : Bool) → fewest (if f || true then Some (chain a) else None) None ≡ Some (chain a)
  alone_at a true = refl
  alone_at a false = refl

  pub alone : (c : Context) → is_behind_in c ≡ false → (a : Phrase) (p : Place) (o : Op) → so_far m c a p o ≡ Some (chain a)
  alone free i a p o = alone_at a (m.fits 0 a)
  alone (right_of s) i a p o = alone_at a (m.fits 0 a)
  alone (under s) i a p o = alone_at a (m.fits 0 a)
  alone (behind s y t) i a p o = absurd cc

  limited_climb_if : (g : Bool) (e : ℕ) (c : Context) → is_behind_in c ≡ false → (a : Phrase) (p : Place) (o : Op) (x : Xs) → Ahead x → (ts : List Token) → next e ts ≡ token p (tk.sign o) → On l b (λ u. x (counts_in linked k a u)) (λ d u. x (counts_in linked k d u)) ts (climb_if g m r e c a p o ts) (climb_if g (any q) q e c a p o ts)
  limited_climb_if true e c n a p o x ax ts i = rw (alone c n a p o)
      (limited_opened linked l b k m r q h v (chain a) (k + chain a + 1) (λ z. omega arith) (λ u. x (counts_in linked k a u)) (then_ahead ax (ahead_in linked k a)) (λ l' d. Fitting l' b (λ u. x (counts_in linked k d u))) (λ d. Late b (λ u. x (counts_in linked k d u)))
      (λ r' i d. d.expr e (right_of o) >>= λ s. r'.climb e c (infix_of a p o s)) (seen e ts p (tk.sign o) i refl).1
      (λ l' r' i d h' v' g. limited_bind (g.expr e (right_of o) refl (λ u. x (counts_in linked k a ((k + chain a + 1) ∷ u))) (then_ahead ax (then_ahead (ahead_in linked k a) (put_ahead held))) (tail ts)) (λ s us j. h'.climb e c n (infix_of a p o s) x ax us)))
  limited_climb_if false e c n a p o x ax ts i = limited_gives a ts

  pub limited_climb : (e : ℕ) (c : Context) → is_behind_in c ≡ false → (a : Phrase) (p : Place) (t : TokenView) (x : Xs) → Ahead x → (ts : List Token) → next e ts ≡ token p t → On l b (λ u. x (counts_in linked k a u)) (λ d u. x (counts_in linked k d u)) ts (climb_by m r e c a p t ts) (climb_by (any q) q e c a p t ts)
  limited_climb e c n a p (tk.sign o) x ax ts i = limited_climb_if (goes_on (bound c) a p o) e c n a p o x ax ts i
  limited_climb e c n a p t x ax ts i = limited_gives a ts

  -- ---- lists
  pub limited_phrases : (e : ℕ) (a : Phrase) (p : Place) (t : TokenView) (x : Xs) → Ahead x → (ts : List Token) → next e ts ≡ token p t → On l b (λ u. x (counts_in linked k a u)) (λ xs u. x (all_in linked k xs u)) ts (phrases_by r e a p t ts) (phrases_by q e a p t ts)
  limited_phrases e a p (tk.mark tk.comma) x ax ts i =
      limited_skip l b (λ u. x (counts_in linked k a u)) k (seen e ts p (tk.mark tk.comma) i refl).1 h.low
      (limited_bind (h.phrases e (λ u. x (counts_in linked k a (k ∷ u))) (then_ahead ax (then_ahead (ahead_in linked k a) (put_ahead held))) (tail ts)) (λ xs us j. limited_gives (more a p xs) us))
  limited_phrases e a p t x ax ts i = limited_gives (last a) ts

  pub limited_binds : (e : ℕ) (p : Place) (y : Word) (s : Place) (t : TokenView) (x : Xs) → Ahead x → (ts : List Token) → next e ts ≡ token s t → On l b (λ u. x (k ∷ u)) (λ bs u. x (binds_in linked k bs u)) ts (binds_by r e p y s t ts) (binds_by q e p y s t ts)
  limited_binds e p y s (tk.sign op.In) x ax ts i =
      limited_skip l b (λ u. x (k ∷ u)) k (seen e ts s (tk.sign op.In) i refl).1 h.low
      (limited_bind (h.expr e free refl (λ u. x (k ∷ k ∷ u)) (then_ahead ax (put_ahead (put_ahead held))) (tail ts)) (λ a us j. limited_bind_rest linked l b k r q h x ax e p y s a (next e us).place (next e us).kind us refl))
  limited_binds e p y s (tk.mark tk.comma) x ax ts i =
      limited_skip l b (λ u. x (k ∷ u)) k (seen e ts s (tk.mark tk.comma) i refl).1 h.low
      (limited_bind (limited_word l b k h.low (λ u. x (k ∷ k ∷ u)) e (tail ts))
      (λ z us j. limited_bind (h.binds e z.0 z.1 (λ u. x (k ∷ k ∷ u)) (then_ahead ax (put_ahead (put_ahead held))) us) (λ bs ws j. limited_gives (share p y s bs) ws)))
  limited_binds e p y s t x ax ts i = limited_refuses ts

  pub limited_fields : (e : ℕ) (w : Mark) (f : Field) (p : Place) (a : Phrase) (s : Place) (t : TokenView) (x : Xs) → Ahead x → (ts : List Token) → next e ts ≡ token s t → On l b (λ u. x (k ∷ k ∷ counts_in linked k a u)) (λ fs u. x (fields_in linked k fs u)) ts (fields_by r e w f p a s t ts) (fields_by q e w f p a s t ts)
  limited_fields e w f p a s (tk.mark tk.comma) x ax ts i =
      limited_skip l b (λ u. x (k ∷ k ∷ counts_in linked k a u)) k (seen e ts s (tk.mark tk.comma) i refl).1 h.low
      (limited_bind (limited_field l b k h.low (λ u. x (k ∷ k ∷ counts_in linked k a (k ∷ u))) e (tail ts))
      (λ g us j. limited_bind (h.fields e w g (λ u. x (k ∷ k ∷ counts_in linked k a (k ∷ u))) (then_ahead ax (put_ahead (put_ahead (then_ahead (ahead_in linked k a) (put_ahead held))))) us) (λ fs ws j. limited_gives (field f p a s fs) ws)))
  limited_fields e w f p a s t x ax ts i = limited_gives (last_field f p a) ts

  limited_settings : (e : ℕ) (p : Place) (path : Path) (s : Place) (a : Phrase) (w : Place) (t : TokenView) (x : Xs) → Ahead x → (ts : List Token) → next e ts ≡ token w t → On l b (λ u. x (k ∷ path_in linked k path (k ∷ counts_in linked k a u))) (λ ss u. x (settings_in linked k ss u)) ts (settings_by r e p path s a w t ts) (settings_by q e p path s a w t ts)
  limited_settings e p path s a w (tk.mark tk.comma) x ax ts i =
      limited_skip l b (λ u. x (k ∷ path_in linked k path (k ∷ counts_in linked k a u))) k (seen e ts w (tk.mark tk.comma) i refl).1 h.low
      (limited_bind (h.settings e (λ u. x (k ∷ path_in linked k path (k ∷ counts_in linked k a (k ∷ u)))) (then_ahead ax (put_ahead (then_ahead (ahead_path_in linked k path) (put_ahead (then_ahead (ahead_in linked k a) (put_ahead held)))))) (tail ts)) (λ ss us j. limited_gives (setting p path s a w ss) us))
  limited_settings e p path s a w t x ax ts i = limited_gives (last_setting p path s a) ts

  pub limited_setting : (g : Bool) (e : ℕ) (p : Place) (path : Path) (x : Xs) → Ahead x → (ts : List Token) → On l b (λ u. x (k ∷ path_in linked k path u)) (λ ss u. x (settings_in linked k ss u)) ts (setting_if g r e p path ts) (setting_if g q e p path ts)
  limited_setting true e p path x ax ts =
      limited_bind (limited_sign l b k h.low (λ u. x (k ∷ path_in linked k path u)) e op.Equal ts)
      (λ s us j. limited_bind (h.expr e free refl (λ u. x (k ∷ path_in linked k path (k ∷ u))) (then_ahead ax (put_ahead (then_ahead (ahead_path_in linked k path) (put_ahead held)))) us)
      (λ a ws j. limited_settings e p path s a (next e ws).place (next e ws).kind x ax ws refl))
  limited_setting false e p path x ax ts = limited_refuses ts

  pub limited_path : (e : ℕ) (p : Place) (t : TokenView) (x : Xs) → Ahead x → (ts : List Token) → next e ts ≡ token p t → On l b x (λ path u. x (path_in linked k path u)) ts (path_by m r e p t ts) (path_by (any q) q e p t ts)
  limited_path e p (tk.mark tk.open_square) x ax ts i =
      limited_opened linked l b k m r q h v 0 (k + 1) (λ z. refl) x ax (λ l' path. Fitting l' b (λ u. x (path_in linked k path u))) (λ path. Late b (λ u. x (path_in linked k path u)))
      (λ r' i d. d.phrases e >>= λ xs. a_mark e tk.close_square >>= λ s. r'.path e >>= λ path. gives (index p xs s path)) (seen e ts p (tk.mark tk.open_square) i refl).1
      (λ l' r' i d h' v' g. limited_bind (g.phrases e (λ u. x ((k + 1) ∷ u)) (then_ahead ax (put_ahead held)) (tail ts))
      (λ xs us j. limited_bind (limited_mark l' b (k + 1) g.low (λ u. x ((k + 1) ∷ all_in linked (k + 1) xs u)) e tk.close_square us)
      (λ s ws j. limited_bind (h'.path e (λ u. x ((k + 1) ∷ all_in linked (k + 1) xs ((k + 1) ∷ u))) (then_ahead ax (put_ahead (then_ahead (ahead_all_in linked (k + 1) xs) (put_ahead held)))) ws)
      (λ path zs j. limited_gives (index p xs s path) zs))))
  limited_path e p (tk.mark tk.dot) x ax ts i =
      limited_skip l b x k (seen e ts p (tk.mark tk.dot) i refl).1 h.low
      (limited_bind (limited_field l b k h.low (λ u. x (k ∷ u)) e (tail ts))
      (λ f us j. limited_bind (h.path e (λ u. x (k ∷ k ∷ u)) (then_ahead ax (put_ahead (put_ahead held))) us) (λ path ws j. limited_gives (at_field p f path) ws)))
  limited_path e p t x ax ts i = limited_gives path_end ts

  limited_other : (e : ℕ) (a : Phrase) (p : Place) (c : Phrase) (s w : Place) (t : TokenView) (x : Xs) → Ahead x → (ts : List Token) → next e ts ≡ token w t → On l b (λ u. x (counts_in linked k a (k ∷ counts_in linked k c (k ∷ u)))) (λ xs u. x (arms_in linked k xs u)) ts (arms_other r e a p c s w t ts) (arms_other q e a p c s w t ts)
  limited_other e a p c s w (tk.key tk.other_key) x ax ts i =
      limited_skip l b (λ u. x (counts_in linked k a (k ∷ counts_in linked k c (k ∷ u)))) k (seen e ts w (tk.key tk.other_key) i refl).1 h.low
      (limited_bind (limited_mark l b k h.low (λ u. x (counts_in linked k a (k ∷ counts_in linked k c (k ∷ k ∷ u)))) e tk.arrow (tail ts))
      (λ z us j. limited_bind (h.expr e free refl (λ u. x (counts_in linked k a (k ∷ counts_in linked k c (k ∷ k ∷ k ∷ u)))) (then_ahead ax (then_ahead (ahead_in linked k a) (put_ahead (then_ahead (ahead_in linked k c) (put_ahead (put_ahead (put_ahead held))))))) us)
      (λ d ws j. limited_gives (other_arm a p c s w z d) ws)))
  limited_other e a p c s w t x ax ts i =
      limited_bind (h.arms e (λ u. x (counts_in linked k a (k ∷ counts_in linked k c (k ∷ u)))) (then_ahead ax (then_ahead (ahead_in linked k a) (put_ahead (then_ahead (ahead_in linked k c) (put_ahead held))))) ts) (λ xs us j. limited_gives (arm a p c s xs) us)

  limited_arms_if : (g : Bool) (e : ℕ) (a : Phrase) (p : Place) (c : Phrase) (s : Place) (x : Xs) → Ahead x → (ts : List Token) → next e ts ≡ token s (tk.mark tk.box) → On l b (λ u. x (counts_in linked k a (k ∷ counts_in linked k c u))) (λ xs u. x (arms_in linked k xs u)) ts (arms_if g r e a p c s ts) (arms_if g q e a p c s ts)
  limited_arms_if true e a p c s x ax ts i = limited_gives (last_arm a p c) ts
  limited_arms_if false e a p c s x ax ts i =
      limited_skip l b (λ u. x (counts_in linked k a (k ∷ counts_in linked k c u))) k (seen e ts s (tk.mark tk.box) i refl).1 h.low (limited_other e a p c s (next e (tail ts)).place (next e (tail ts)).kind x ax (tail ts) refl)

  pub limited_arms : (e : ℕ) (a : Phrase) (p : Place) (c : Phrase) (s : Place) (t : TokenView) (x : Xs) → Ahead x → (ts : List Token) → next e ts ≡ token s t → On l b (λ u. x (counts_in linked k a (k ∷ counts_in linked k c u))) (λ xs u. x (arms_in linked k xs u)) ts (arms_by r e a p c s t ts) (arms_by q e a p c s t ts)
  limited_arms e a p c s (tk.mark tk.box) x ax ts i = limited_arms_if (takes_box s.col c) e a p c s x ax ts i
  limited_arms e a p c s t x ax ts i = limited_gives (last_arm a p c) ts

  pub limited_locals : (e : ℕ) (p : Place) (y : Word) (s : Place) (a : Phrase) (w : Place) (t : TokenView) (x : Xs) → Ahead x → (ts : List Token) → On l b (λ u. x (k ∷ k ∷ counts_in linked k a u)) (λ ls u. x (locals_in linked k ls u)) ts (locals_by r e p y s a w t ts) (locals_by q e p y s a w t ts)
  limited_locals e p y s a w (tk.word z) x ax ts =
      limited_bind (h.locals e (λ u. x (k ∷ k ∷ counts_in linked k a u)) (then_ahead ax (put_ahead (put_ahead (ahead_in linked k a)))) ts) (λ ls us j. limited_gives (more_locals p y s a ls) us)
  limited_locals e p y s a w t x ax ts = limited_gives (last_local p y s a) ts

-- inside a bullet
limited_bullets_if : (linked l : Bool) (b k : ℕ) (r q : Readers) → AreLimited linked l b (k + 1) r q → (x : Xs) → Ahead x → (g : Bool) (e : ℕ) (o : Op) (c : ℕ) (p : Place) (a : Phrase) (ts : List Token) → (is_sign o (next e ts).kind && nat_eq c (next e ts).place.col) ≡ g
    → On l b (λ u. x ((k + 1) ∷ counts_in linked (k + 1) a u)) (λ bs u. x (bullets_in linked k bs u)) ts (bullets_if g r e o c p a ts) (bullets_if g q e o c p a ts)
limited_bullets_if linked l b k r q h x ax true e o c p a ts i =
    limited_bind (h.bullets e o c (λ u. x ((k + 1) ∷ counts_in linked (k + 1) a u)) (then_ahead ax (put_ahead (ahead_in linked (k + 1) a))) ts (next e ts).place (bullet_if o c (next e ts) i)) (λ bs us j. limited_gives (bullet p a bs) us)
limited_bullets_if linked l b k r q h x ax false e o c p a ts i = limited_gives (last_bullet p a) ts

module _ (linked l : Bool) (b k : ℕ) (m : Room) (r q : Readers) (h : AreLimited linked l b k r q) (v : IsRoom linked l b k m q) where
  pub limited_bullets : (e : ℕ) (o : Op) (c : ℕ) (x : Xs) → Ahead x → (ts : List Token) (p : Place) → bullet_of o c (next e ts).place (next e ts).kind ≡ Some p → {t : Token} → t ∷ tail ts ≡ ts
      → On l b x (λ bs u. x (bullets_in linked k bs u)) ts (opened m 0 (λ i d. take e (bullet_of o c) >>= λ p. d.expr c free >>= λ a. peek e (λ s t. bullets_if (is_sign o t && nat_eq c s.col) d e o c p a)) ts)
      ((take e (bullet_of o c) >>= λ p. q.expr c free >>= λ a. peek e (λ s t. bullets_if (is_sign o t && nat_eq c s.col) q e o c p a)) ts)
  limited_bullets e o c x ax ts p i s =
      limited_opened_by linked l b k m r q h v 0 (k + 1) (λ z. refl) x ax (λ l' bs. Fitting l' b (λ u. x (bullets_in linked k bs u))) (λ bs. Late b (λ u. x (bullets_in linked k bs u)))
      (λ r' i d. d.expr c free >>= λ a. peek e (λ s t. bullets_if (is_sign o t && nat_eq c s.col) d e o c p a))
      (λ i d. take e (bullet_of o c) >>= λ p. d.expr c free >>= λ a. peek e (λ s t. bullets_if (is_sign o t && nat_eq c s.col) d e o c p a)) _ s (λ i' d. rw i refl) (rw i refl)
      (λ l' r' i' d h' v' g. limited_bind (g.expr c free refl (λ u. x ((k + 1) ∷ u)) (then_ahead ax (put_ahead held)) (tail ts))
      (λ a us j. limited_bullets_if linked l' b k d q g x ax (is_sign o (next e us).kind && nat_eq c (next e us).place.col) e o c p a us refl))
