-- Reading within a limit: names, and what is in braces, tuples and square brackets.
use Rattle.std.proofs.Common.{◌≡◌, ℕ, ◌+◌, Bool, List, ◌∷◌, refl}
use Rattle.tla_token.specs.declared.place.Place.{Place}
use Rattle.tla_tree.specs.Tree.{Word}
use Rattle.tla_tree.specs.Lexical.{TokenView, Token, token}
use Rattle.tla_tree.specs.Lexical as tk
use Rattle.tla_tree.specs.Spelling.{Field, Phrase, name, primed, call, set_of, filter, image, no_tuple, tuple, fields, records, function, functions, except}
use Rattle.tla_tree.specs.Spelling.{last, more, Binds, last_bind, bind}
use Rattle.tla_tree.specs.Nesting.{counts_in, all_in, binds_in, fields_in, settings_in}
use Rattle.tla_tree.specs.Reader.{◌>>=◌, gives, ended, a_word, any, Room, next, tail, free, Readers, named, from_name, set_rest, image_rest, brace_rest, tuples, field_rest, function_rest, square_rest, bind_rest}
use Rattle.tla_tree.proofs.SpellAhead.{Ahead, held, put_ahead, then_ahead}
use Rattle.tla_tree.proofs.DeepCounts.{ahead_in, ahead_binds_in}
use Rattle.tla_tree.proofs.SoundTokens.{seen}
use Rattle.tla_tree.proofs.Limited.{Fitting, Late, On, limited_bind, limited_gives, limited_refuses, limited_skip, limited_mark, limited_word}
use Rattle.tla_tree.proofs.LimitedRooms.{AreLimited, IsRoom, limited_opened}

abbrev Xs : Type 0
Xs = List ℕ → List ℕ

-- ---- names
module _ (linked l : Bool) (b k : ℕ) (m : Room) (r q : Readers) (h : AreLimited linked l b k r q) (v : IsRoom linked l b k m q) where
  pub limited_named : (e : ℕ) (p : Place) (y : Word) (x : Xs) → Ahead x → (s : Place) (t : TokenView) (ts : List Token) → next e ts ≡ token s t → On l b (λ u. x (k ∷ u)) (λ a u. x (counts_in linked k a u)) ts (named m e p y s t ts) (named (any q) e p y s t ts)
  limited_named e p y x ax s (tk.mark tk.open_bracket) ts i =
      let n = seen e ts s (tk.mark tk.open_bracket) i refl in
      limited_opened linked l b k m r q h v 0 (k + 1) (λ z. refl) (λ u. x (k ∷ u)) (then_ahead ax (put_ahead held)) (λ l' a. Fitting l' b (λ u. x (counts_in linked k a u))) (λ a. Late b (λ u. x (counts_in linked k a u)))
      (λ r' i d. d.phrases e >>= λ xs. ended e tk.close_bracket (λ z. call p y s xs z)) n.1
      (λ l' r' i d h' v' g. limited_bind (g.phrases e (λ u. x (k ∷ (k + 1) ∷ u)) (then_ahead ax (put_ahead (put_ahead held))) (tail ts))
      (λ xs us j. limited_bind (limited_mark l' b (k + 1) g.low (λ u. x (k ∷ (k + 1) ∷ all_in linked (k + 1) xs u)) e tk.close_bracket us) (λ z ws j. limited_gives (call p y s xs z) ws)))
  limited_named e p y x ax s (tk.mark tk.prime) ts i = (let n = seen e ts s (tk.mark tk.prime) i refl in limited_skip l b (λ u. x (k ∷ u)) k n.1 h.low (limited_gives (primed p y s) (tail ts)))
  limited_named e p y x ax s t ts i = limited_gives (name p y) ts

  pub limited_from : (e : ℕ) (p : Place) (y : Word) (x : Xs) → Ahead x → (ts : List Token) → On l b (λ u. x (k ∷ u)) (λ a u. x (counts_in linked k a u)) ts (from_name m r e p y ts) (from_name (any q) q e p y ts)
  limited_from e p y x ax ts = limited_bind (limited_named e p y x ax (next e ts).place (next e ts).kind ts refl) (λ a us j. h.postfix e a x ax us)

-- ---- in braces and squares, where one more is open
module _ (linked l : Bool) (b k : ℕ) (r q : Readers) (h : AreLimited linked l b (k + 1) r q) (x : Xs) (ax : Ahead x) where
  pub limited_set_more : (e : ℕ) (p : Place) (a : Phrase) (s : Place) (ts : List Token) → On l b (λ u. x ((k + 1) ∷ counts_in linked (k + 1) a ((k + 1) ∷ u))) (λ d u. x (counts_in linked k d u)) ts
      ((r.phrases e >>= λ xs. ended e tk.close_brace (λ z. set_of p (more a s xs) z)) ts) ((q.phrases e >>= λ xs. ended e tk.close_brace (λ z. set_of p (more a s xs) z)) ts)
  limited_set_more e p a s ts =
      limited_bind (h.phrases e (λ u. x ((k + 1) ∷ counts_in linked (k + 1) a ((k + 1) ∷ u))) (then_ahead ax (put_ahead (then_ahead (ahead_in linked (k + 1) a) (put_ahead held)))) ts)
      (λ xs us j. limited_bind (limited_mark l b (k + 1) h.low (λ u. x ((k + 1) ∷ counts_in linked (k + 1) a ((k + 1) ∷ all_in linked (k + 1) xs u))) e tk.close_brace us) (λ z ws j. limited_gives (set_of p (more a s xs) z) ws))

  pub limited_set : (e : ℕ) (p : Place) (a : Phrase) (s : Place) (t : TokenView) (ts : List Token) → next e ts ≡ token s t → On l b (λ u. x ((k + 1) ∷ counts_in linked (k + 1) a u)) (λ d u. x (counts_in linked k d u)) ts (set_rest r e p a s t ts) (set_rest q e p a s t ts)
  limited_set e p a s (tk.mark tk.comma) ts i =
      let n = seen e ts s (tk.mark tk.comma) i refl in
      limited_skip l b (λ u. x ((k + 1) ∷ counts_in linked (k + 1) a u)) (k + 1) n.1 h.low (limited_set_more e p a s (tail ts))
  limited_set e p a s t ts i = limited_bind (limited_mark l b (k + 1) h.low (λ u. x ((k + 1) ∷ counts_in linked (k + 1) a u)) e tk.close_brace ts) (λ z ws j. limited_gives (set_of p (last a) z) ws)

  pub limited_image : (e : ℕ) (p : Place) (a : Phrase) (s : Place) (ts : List Token) → On l b (λ u. x ((k + 1) ∷ counts_in linked (k + 1) a ((k + 1) ∷ u))) (λ d u. x (counts_in linked k d u)) ts (image_rest r e p a s ts) (image_rest q e p a s ts)
  limited_image e p a s ts =
      limited_bind (limited_word l b (k + 1) h.low (λ u. x ((k + 1) ∷ counts_in linked (k + 1) a ((k + 1) ∷ u))) e ts)
      (λ y us j. limited_bind (h.binds e y.0 y.1 (λ u. x ((k + 1) ∷ counts_in linked (k + 1) a ((k + 1) ∷ u))) (then_ahead ax (put_ahead (then_ahead (ahead_in linked (k + 1) a) (put_ahead held)))) us)
      (λ bs ws j. limited_bind (limited_mark l b (k + 1) h.low (λ u. x ((k + 1) ∷ counts_in linked (k + 1) a ((k + 1) ∷ binds_in linked (k + 1) bs u))) e tk.close_brace ws) (λ z zs j. limited_gives (image p a s bs z) zs)))

  pub limited_brace : (e : ℕ) (p : Place) (a : Phrase) (s : Place) (t : TokenView) (ts : List Token) → next e ts ≡ token s t → On l b (λ u. x ((k + 1) ∷ counts_in linked (k + 1) a u)) (λ d u. x (counts_in linked k d u)) ts (brace_rest r e p a s t ts) (brace_rest q e p a s t ts)
  limited_brace e p a s (tk.mark tk.colon) ts i =
      (let n = seen e ts s (tk.mark tk.colon) i refl in limited_skip l b (λ u. x ((k + 1) ∷ counts_in linked (k + 1) a u)) (k + 1) n.1 h.low (limited_image e p a s (tail ts)))
  limited_brace e p a s t ts i = limited_set e p a s t ts i

  -- after the colon of a filter
  pub limited_filter : (e : ℕ) (p s : Place) (y : Word) (t : Place) (a : Phrase) (w : Place) (ts : List Token) → On l b (λ u. x ((k + 1) ∷ (k + 1) ∷ (k + 1) ∷ counts_in linked (k + 1) a ((k + 1) ∷ u))) (λ d u. x (counts_in linked k d u)) ts
      ((r.expr e free >>= λ c. ended e tk.close_brace (λ z. filter p s y t a w c z)) ts) ((q.expr e free >>= λ c. ended e tk.close_brace (λ z. filter p s y t a w c z)) ts)
  limited_filter e p s y t a w ts =
      limited_bind (h.expr e free refl (λ u. x ((k + 1) ∷ (k + 1) ∷ (k + 1) ∷ counts_in linked (k + 1) a ((k + 1) ∷ u))) (then_ahead ax (put_ahead (put_ahead (put_ahead (then_ahead (ahead_in linked (k + 1) a) (put_ahead held)))))) ts)
      (λ c us j. limited_bind (limited_mark l b (k + 1) h.low (λ u. x ((k + 1) ∷ (k + 1) ∷ (k + 1) ∷ counts_in linked (k + 1) a ((k + 1) ∷ counts_in linked (k + 1) c u))) e tk.close_brace us) (λ z ws j. limited_gives (filter p s y t a w c z) ws))

  -- ---- tuples
  pub limited_tuples : (e : ℕ) (p s : Place) (t : TokenView) (ts : List Token) → next e ts ≡ token s t → On l b (λ u. x ((k + 1) ∷ u)) (λ d u. x (counts_in linked k d u)) ts (tuples r e p s t ts) (tuples q e p s t ts)
  limited_tuples e p s (tk.mark tk.close_tuple) ts i = (let n = seen e ts s (tk.mark tk.close_tuple) i refl in limited_skip l b (λ u. x ((k + 1) ∷ u)) (k + 1) n.1 h.low (limited_gives (no_tuple p s) (tail ts)))
  limited_tuples e p s t ts i =
      limited_bind (h.phrases e (λ u. x ((k + 1) ∷ u)) (then_ahead ax (put_ahead held)) ts)
      (λ xs us j. limited_bind (limited_mark l b (k + 1) h.low (λ u. x ((k + 1) ∷ all_in linked (k + 1) xs u)) e tk.close_tuple us) (λ z ws j. limited_gives (tuple p xs z) ws))

  -- ---- squares
  pub limited_field_rest : (e : ℕ) (p : Place) (f : Field) (s : Place) (t : TokenView) (ts : List Token) → On l b (λ u. x ((k + 1) ∷ (k + 1) ∷ u)) (λ d u. x (counts_in linked k d u)) ts (field_rest r e p f s t ts) (field_rest q e p f s t ts)
  limited_field_rest e p f s (tk.mark tk.maps) ts =
      limited_bind (h.fields e tk.maps f (λ u. x ((k + 1) ∷ u)) (then_ahead ax (put_ahead held)) ts)
      (λ fs us j. limited_bind (limited_mark l b (k + 1) h.low (λ u. x ((k + 1) ∷ fields_in linked (k + 1) fs u)) e tk.close_square us) (λ z ws j. limited_gives (fields p fs z) ws))
  limited_field_rest e p f s (tk.mark tk.colon) ts =
      limited_bind (h.fields e tk.colon f (λ u. x ((k + 1) ∷ u)) (then_ahead ax (put_ahead held)) ts)
      (λ fs us j. limited_bind (limited_mark l b (k + 1) h.low (λ u. x ((k + 1) ∷ fields_in linked (k + 1) fs u)) e tk.close_square us) (λ z ws j. limited_gives (records p fs z) ws))
  limited_field_rest e p f s t ts = limited_refuses ts

  -- after `|->`
  pub limited_value : (e : ℕ) (p : Place) (bs : Binds) (s : Place) (ts : List Token) → On l b (λ u. x ((k + 1) ∷ binds_in linked (k + 1) bs ((k + 1) ∷ u))) (λ d u. x (counts_in linked k d u)) ts
      ((r.expr e free >>= λ a. ended e tk.close_square (λ z. function p bs s a z)) ts) ((q.expr e free >>= λ a. ended e tk.close_square (λ z. function p bs s a z)) ts)
  limited_value e p bs s ts =
      limited_bind (h.expr e free refl (λ u. x ((k + 1) ∷ binds_in linked (k + 1) bs ((k + 1) ∷ u))) (then_ahead ax (put_ahead (then_ahead (ahead_binds_in linked (k + 1) bs) (put_ahead held)))) ts)
      (λ a ws j. limited_bind (limited_mark l b (k + 1) h.low (λ u. x ((k + 1) ∷ binds_in linked (k + 1) bs ((k + 1) ∷ counts_in linked (k + 1) a u))) e tk.close_square ws) (λ z zs j. limited_gives (function p bs s a z) zs))

  pub limited_function : (e : ℕ) (p : Place) (bs : Binds) (ts : List Token) → On l b (λ u. x ((k + 1) ∷ binds_in linked (k + 1) bs u)) (λ d u. x (counts_in linked k d u)) ts (function_rest r e p bs ts) (function_rest q e p bs ts)
  limited_function e p bs ts =
      limited_bind (limited_mark l b (k + 1) h.low (λ u. x ((k + 1) ∷ binds_in linked (k + 1) bs u)) e tk.maps ts)
      (λ s us j. limited_value e p bs s us)

  -- after `->`, and after EXCEPT
  pub limited_arrow : (e : ℕ) (p : Place) (a : Phrase) (s : Place) (ts : List Token) → On l b (λ u. x ((k + 1) ∷ counts_in linked (k + 1) a ((k + 1) ∷ u))) (λ d u. x (counts_in linked k d u)) ts
      ((r.expr e free >>= λ c. ended e tk.close_square (λ z. functions p a s c z)) ts) ((q.expr e free >>= λ c. ended e tk.close_square (λ z. functions p a s c z)) ts)
  limited_arrow e p a s ts =
      limited_bind (h.expr e free refl (λ u. x ((k + 1) ∷ counts_in linked (k + 1) a ((k + 1) ∷ u))) (then_ahead ax (put_ahead (then_ahead (ahead_in linked (k + 1) a) (put_ahead held)))) ts)
      (λ c us j. limited_bind (limited_mark l b (k + 1) h.low (λ u. x ((k + 1) ∷ counts_in linked (k + 1) a ((k + 1) ∷ counts_in linked (k + 1) c u))) e tk.close_square us) (λ z ws j. limited_gives (functions p a s c z) ws))

  pub limited_except : (e : ℕ) (p : Place) (a : Phrase) (s : Place) (ts : List Token) → On l b (λ u. x ((k + 1) ∷ counts_in linked (k + 1) a ((k + 1) ∷ u))) (λ d u. x (counts_in linked k d u)) ts
      ((r.settings e >>= λ ss. ended e tk.close_square (λ z. except p a s ss z)) ts) ((q.settings e >>= λ ss. ended e tk.close_square (λ z. except p a s ss z)) ts)
  limited_except e p a s ts =
      limited_bind (h.settings e (λ u. x ((k + 1) ∷ counts_in linked (k + 1) a ((k + 1) ∷ u))) (then_ahead ax (put_ahead (then_ahead (ahead_in linked (k + 1) a) (put_ahead held)))) ts)
      (λ ss us j. limited_bind (limited_mark l b (k + 1) h.low (λ u. x ((k + 1) ∷ counts_in linked (k + 1) a ((k + 1) ∷ settings_in linked (k + 1) ss u))) e tk.close_square us) (λ z ws j. limited_gives (except p a s ss z) ws))

  pub limited_square : (e : ℕ) (p : Place) (a : Phrase) (s : Place) (t : TokenView) (ts : List Token) → next e ts ≡ token s t → On l b (λ u. x ((k + 1) ∷ counts_in linked (k + 1) a u)) (λ d u. x (counts_in linked k d u)) ts (square_rest r e p a s t ts) (square_rest q e p a s t ts)
  limited_square e p a s (tk.mark tk.arrow) ts i =
      (let n = seen e ts s (tk.mark tk.arrow) i refl in limited_skip l b (λ u. x ((k + 1) ∷ counts_in linked (k + 1) a u)) (k + 1) n.1 h.low (limited_arrow e p a s (tail ts)))
  limited_square e p a s (tk.key tk.except_key) ts i =
      (let n = seen e ts s (tk.key tk.except_key) i refl in limited_skip l b (λ u. x ((k + 1) ∷ counts_in linked (k + 1) a u)) (k + 1) n.1 h.low (limited_except e p a s (tail ts)))
  limited_square e p a s t ts i = limited_refuses ts

-- after `x \in S`
module _ (linked l : Bool) (b k : ℕ) (r q : Readers) (h : AreLimited linked l b k r q) (x : Xs) (ax : Ahead x) where
  pub limited_bind_more : (e : ℕ) (p : Place) (y : Word) (s : Place) (a : Phrase) (w : Place) (ts : List Token) → On l b (λ u. x (k ∷ k ∷ counts_in linked k a (k ∷ u))) (λ bs u. x (binds_in linked k bs u)) ts
      ((a_word e >>= λ z. r.binds e z.0 z.1 >>= λ bs. gives (bind p y s a w bs)) ts) ((a_word e >>= λ z. q.binds e z.0 z.1 >>= λ bs. gives (bind p y s a w bs)) ts)
  limited_bind_more e p y s a w ts =
      limited_bind (limited_word l b k h.low (λ u. x (k ∷ k ∷ counts_in linked k a (k ∷ u))) e ts)
      (λ z us j. limited_bind (h.binds e z.0 z.1 (λ u. x (k ∷ k ∷ counts_in linked k a (k ∷ u))) (then_ahead ax (put_ahead (put_ahead (then_ahead (ahead_in linked k a) (put_ahead held))))) us)
      (λ bs ws j. limited_gives (bind p y s a w bs) ws))

  pub limited_bind_rest : (e : ℕ) (p : Place) (y : Word) (s : Place) (a : Phrase) (w : Place) (t : TokenView) (ts : List Token) → next e ts ≡ token w t → On l b (λ u. x (k ∷ k ∷ counts_in linked k a u)) (λ bs u. x (binds_in linked k bs u)) ts (bind_rest r e p y s a w t ts) (bind_rest q e p y s a w t ts)
  limited_bind_rest e p y s a w (tk.mark tk.comma) ts i =
      let n = seen e ts w (tk.mark tk.comma) i refl in
      limited_skip l b (λ u. x (k ∷ k ∷ counts_in linked k a u)) k n.1 h.low (limited_bind_more e p y s a w (tail ts))
  limited_bind_rest e p y s a w t ts i = limited_gives (last_bind p y s a) ts
