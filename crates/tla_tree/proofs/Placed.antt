-- A phrase again, from tokens of the same kinds, and in the same columns where these count.
use Rattle.std.proofs.Common.{◌≡◌, ℕ, List, [], ◌∷◌, map, refl, sym, ap}
use Rattle.tla_token.specs.declared.place.Place.{Place}
use Rattle.tla_tree.specs.declared.op.Op.{Op}
use Rattle.tla_tree.specs.declared.op.Op.TheVariants as op
use Rattle.tla_tree.specs.Lexical.{Mark, TokenView, Token, token, sign_of, field_kind}
use Rattle.tla_tree.specs.Lexical as tk
use Rattle.tla_tree.specs.Spelling.{Phrase, number, string, constant, name, primed, call, brackets, no_set, set_of, filter, image, no_tuple, tuple, fields, records, function, functions, except, apply, select, list, quantified, if_then_else, cases, local, infix_of, prefix_of}
use Rattle.tla_tree.specs.Spelling.{Phrases, last, more, Binds, last_bind, bind, share, Fields, last_field, field, Settings, last_setting, setting, Path, path_end, index, at_field, Bullets, last_bullet, bullet, Arms, last_arm, other_arm, arm, Locals, last_local, more_locals}
use Rattle.tla_tree.specs.Spelling.{Field, field_token, quantifier, spell, spell_all, spell_binds, spell_fields, spell_settings, spell_path, spell_bullets, spell_arms, spell_locals}
use Rattle.tla_tree.specs.laws.Columns.{moved_place, moved_field, moved, moved_all, moved_binds, moved_fields, moved_settings, moved_path, moved_bullets, moved_arms, moved_locals}

-- what is looked at of tokens: their kinds, and a number for each place
abbrev pub look_by : (Place → ℕ) → Token → TokenView × ℕ
look_by column t = (t.kind, column t.place)

abbrev pub looks_by : (Place → ℕ) → List Token → List (TokenView × ℕ)
looks_by column ts = map (look_by column) ts

-- something that is spelled, again from us, and what is left of these
pub record Placed (column : Place → ℕ) (A : Type 0) (bare : A → A) (spells : A → List Token → List Token) (x : A) (ts us : List Token) : Type 0 where
  pub again : A
  pub rest : List Token
  pub tokens : spells again rest ≡ us
  pub same : bare again ≡ bare x
  pub looks_same : looks_by column rest ≡ looks_by column ts

first_look : TokenView × ℕ → List (TokenView × ℕ) → TokenView × ℕ
first_look d [] = d
first_look d (x ∷ xs) = x

other_looks : List (TokenView × ℕ) → List (TokenView × ℕ)
other_looks [] = []
other_looks (x ∷ xs) = xs

pub one_token : (column : Place → ℕ) → (p : Place) (k : TokenView) (ts us : List Token) → looks_by column us ≡ looks_by column (token p k ∷ ts) → Placed column Place (moved_place column) (λ q vs. token q k ∷ vs) p ts us
unfolding first_look other_looks
one_token column p k ts [] h = absurd cc
one_token column p k ts (u ∷ us) h =
    let first : look_by column u ≡ look_by column (token p k) = ap (λ (ls : List (TokenView × ℕ)). first_look (look_by column u) ls) h in
    record { again = u.place; rest = us; tokens = λ i. token u.place ((sym first i).0) ∷ us; same = λ i. record { line = 0; col = (first i).1 }; looks_same = ap other_looks h }

one_field : (column : Place → ℕ) → (f : Field) (ts us : List Token) → looks_by column us ≡ looks_by column (field_token f ts) → Placed column Field (moved_field column) (λ g vs. field_token g vs) f ts us
one_field column f ts us h =
    let v = one_token column f.place (field_kind f.is_reserved f.text) ts us h in
    record { again = record { place = v.again; is_reserved = f.is_reserved; text = f.text }; rest = v.rest; tokens = v.tokens; same = λ i. record { place = v.same i; is_reserved = f.is_reserved; text = f.text }; looks_same = v.looks_same }

mutual
  pub place : (column : Place → ℕ) → (x : Phrase) (ts us : List Token) → looks_by column us ≡ looks_by column (spell x ts) → Placed column Phrase (moved column) spell x ts us
  place column (number p n) ts us h =
      let v0 = one_token column p (tk.number n) ts us h in
      record { again = number v0.again n; rest = v0.rest; tokens = v0.tokens; same = λ i. number (v0.same i) n; looks_same = v0.looks_same }
  place column (string p x) ts us h =
      let v0 = one_token column p (tk.string x) ts us h in
      record { again = string v0.again x; rest = v0.rest; tokens = v0.tokens; same = λ i. string (v0.same i) x; looks_same = v0.looks_same }
  place column (constant p c) ts us h =
      let v0 = one_token column p (tk.constant c) ts us h in
      record { again = constant v0.again c; rest = v0.rest; tokens = v0.tokens; same = λ i. constant (v0.same i) c; looks_same = v0.looks_same }
  place column (name p x) ts us h =
      let v0 = one_token column p (tk.word x) ts us h in
      record { again = name v0.again x; rest = v0.rest; tokens = v0.tokens; same = λ i. name (v0.same i) x; looks_same = v0.looks_same }
  place column (primed p x q) ts us h =
      let v0 = one_token column p (tk.word x) (token q (tk.mark tk.prime) ∷ ts) us h in
      let v1 = one_token column q (tk.mark tk.prime) ts v0.rest v0.looks_same in
      record { again = primed v0.again x v1.again; rest = v1.rest; tokens = rw (v1.tokens, v0.tokens) refl; same = λ i. primed (v0.same i) x (v1.same i); looks_same = v1.looks_same }
  place column (call p x q xs r) ts us h =
      let v0 = one_token column p (tk.word x) (token q (tk.mark tk.open_bracket) ∷ (spell_all xs (token r (tk.mark tk.close_bracket) ∷ ts))) us h in
      let v1 = one_token column q (tk.mark tk.open_bracket) (spell_all xs (token r (tk.mark tk.close_bracket) ∷ ts)) v0.rest v0.looks_same in
      let v2 = place_all column xs (token r (tk.mark tk.close_bracket) ∷ ts) v1.rest v1.looks_same in
      let v3 = one_token column r (tk.mark tk.close_bracket) ts v2.rest v2.looks_same in
      record { again = call v0.again x v1.again v2.again v3.again; rest = v3.rest; tokens = rw (v3.tokens, v2.tokens, v1.tokens, v0.tokens) refl; same = λ i. call (v0.same i) x (v1.same i) (v2.same i) (v3.same i); looks_same = v3.looks_same }
  place column (brackets p a q) ts us h =
      let v0 = one_token column p (tk.mark tk.open_bracket) (spell a (token q (tk.mark tk.close_bracket) ∷ ts)) us h in
      let v1 = place column a (token q (tk.mark tk.close_bracket) ∷ ts) v0.rest v0.looks_same in
      let v2 = one_token column q (tk.mark tk.close_bracket) ts v1.rest v1.looks_same in
      record { again = brackets v0.again v1.again v2.again; rest = v2.rest; tokens = rw (v2.tokens, v1.tokens, v0.tokens) refl; same = λ i. brackets (v0.same i) (v1.same i) (v2.same i); looks_same = v2.looks_same }
  place column (no_set p q) ts us h =
      let v0 = one_token column p (tk.mark tk.open_brace) (token q (tk.mark tk.close_brace) ∷ ts) us h in
      let v1 = one_token column q (tk.mark tk.close_brace) ts v0.rest v0.looks_same in
      record { again = no_set v0.again v1.again; rest = v1.rest; tokens = rw (v1.tokens, v0.tokens) refl; same = λ i. no_set (v0.same i) (v1.same i); looks_same = v1.looks_same }
  place column (set_of p xs q) ts us h =
      let v0 = one_token column p (tk.mark tk.open_brace) (spell_all xs (token q (tk.mark tk.close_brace) ∷ ts)) us h in
      let v1 = place_all column xs (token q (tk.mark tk.close_brace) ∷ ts) v0.rest v0.looks_same in
      let v2 = one_token column q (tk.mark tk.close_brace) ts v1.rest v1.looks_same in
      record { again = set_of v0.again v1.again v2.again; rest = v2.rest; tokens = rw (v2.tokens, v1.tokens, v0.tokens) refl; same = λ i. set_of (v0.same i) (v1.same i) (v2.same i); looks_same = v2.looks_same }
  place column (filter p q x r s t a u) ts us h =
      let v0 = one_token column p (tk.mark tk.open_brace) (token q (tk.word x) ∷ (token r (sign_of op.In) ∷ (spell s (token t (tk.mark tk.colon) ∷ (spell a (token u (tk.mark tk.close_brace) ∷ ts)))))) us h in
      let v1 = one_token column q (tk.word x) (token r (sign_of op.In) ∷ (spell s (token t (tk.mark tk.colon) ∷ (spell a (token u (tk.mark tk.close_brace) ∷ ts))))) v0.rest v0.looks_same in
      let v2 = one_token column r (sign_of op.In) (spell s (token t (tk.mark tk.colon) ∷ (spell a (token u (tk.mark tk.close_brace) ∷ ts)))) v1.rest v1.looks_same in
      let v3 = place column s (token t (tk.mark tk.colon) ∷ (spell a (token u (tk.mark tk.close_brace) ∷ ts))) v2.rest v2.looks_same in
      let v4 = one_token column t (tk.mark tk.colon) (spell a (token u (tk.mark tk.close_brace) ∷ ts)) v3.rest v3.looks_same in
      let v5 = place column a (token u (tk.mark tk.close_brace) ∷ ts) v4.rest v4.looks_same in
      let v6 = one_token column u (tk.mark tk.close_brace) ts v5.rest v5.looks_same in
      record { again = filter v0.again v1.again x v2.again v3.again v4.again v5.again v6.again; rest = v6.rest; tokens = rw (v6.tokens, v5.tokens, v4.tokens, v3.tokens, v2.tokens, v1.tokens, v0.tokens) refl; same = λ i. filter (v0.same i) (v1.same i) x (v2.same i) (v3.same i) (v4.same i) (v5.same i) (v6.same i); looks_same = v6.looks_same }
  place column (image p a q bs r) ts us h =
      let v0 = one_token column p (tk.mark tk.open_brace) (spell a (token q (tk.mark tk.colon) ∷ (spell_binds bs (token r (tk.mark tk.close_brace) ∷ ts)))) us h in
      let v1 = place column a (token q (tk.mark tk.colon) ∷ (spell_binds bs (token r (tk.mark tk.close_brace) ∷ ts))) v0.rest v0.looks_same in
      let v2 = one_token column q (tk.mark tk.colon) (spell_binds bs (token r (tk.mark tk.close_brace) ∷ ts)) v1.rest v1.looks_same in
      let v3 = place_binds column bs (token r (tk.mark tk.close_brace) ∷ ts) v2.rest v2.looks_same in
      let v4 = one_token column r (tk.mark tk.close_brace) ts v3.rest v3.looks_same in
      record { again = image v0.again v1.again v2.again v3.again v4.again; rest = v4.rest; tokens = rw (v4.tokens, v3.tokens, v2.tokens, v1.tokens, v0.tokens) refl; same = λ i. image (v0.same i) (v1.same i) (v2.same i) (v3.same i) (v4.same i); looks_same = v4.looks_same }
  place column (no_tuple p q) ts us h =
      let v0 = one_token column p (tk.mark tk.open_tuple) (token q (tk.mark tk.close_tuple) ∷ ts) us h in
      let v1 = one_token column q (tk.mark tk.close_tuple) ts v0.rest v0.looks_same in
      record { again = no_tuple v0.again v1.again; rest = v1.rest; tokens = rw (v1.tokens, v0.tokens) refl; same = λ i. no_tuple (v0.same i) (v1.same i); looks_same = v1.looks_same }
  place column (tuple p xs q) ts us h =
      let v0 = one_token column p (tk.mark tk.open_tuple) (spell_all xs (token q (tk.mark tk.close_tuple) ∷ ts)) us h in
      let v1 = place_all column xs (token q (tk.mark tk.close_tuple) ∷ ts) v0.rest v0.looks_same in
      let v2 = one_token column q (tk.mark tk.close_tuple) ts v1.rest v1.looks_same in
      record { again = tuple v0.again v1.again v2.again; rest = v2.rest; tokens = rw (v2.tokens, v1.tokens, v0.tokens) refl; same = λ i. tuple (v0.same i) (v1.same i) (v2.same i); looks_same = v2.looks_same }
  place column (fields p fs q) ts us h =
      let v0 = one_token column p (tk.mark tk.open_square) (spell_fields tk.maps fs (token q (tk.mark tk.close_square) ∷ ts)) us h in
      let v1 = place_fields column tk.maps fs (token q (tk.mark tk.close_square) ∷ ts) v0.rest v0.looks_same in
      let v2 = one_token column q (tk.mark tk.close_square) ts v1.rest v1.looks_same in
      record { again = fields v0.again v1.again v2.again; rest = v2.rest; tokens = rw (v2.tokens, v1.tokens, v0.tokens) refl; same = λ i. fields (v0.same i) (v1.same i) (v2.same i); looks_same = v2.looks_same }
  place column (records p fs q) ts us h =
      let v0 = one_token column p (tk.mark tk.open_square) (spell_fields tk.colon fs (token q (tk.mark tk.close_square) ∷ ts)) us h in
      let v1 = place_fields column tk.colon fs (token q (tk.mark tk.close_square) ∷ ts) v0.rest v0.looks_same in
      let v2 = one_token column q (tk.mark tk.close_square) ts v1.rest v1.looks_same in
      record { again = records v0.again v1.again v2.again; rest = v2.rest; tokens = rw (v2.tokens, v1.tokens, v0.tokens) refl; same = λ i. records (v0.same i) (v1.same i) (v2.same i); looks_same = v2.looks_same }
  place column (function p bs q a r) ts us h =
      let v0 = one_token column p (tk.mark tk.open_square) (spell_binds bs (token q (tk.mark tk.maps) ∷ (spell a (token r (tk.mark tk.close_square) ∷ ts)))) us h in
      let v1 = place_binds column bs (token q (tk.mark tk.maps) ∷ (spell a (token r (tk.mark tk.close_square) ∷ ts))) v0.rest v0.looks_same in
      let v2 = one_token column q (tk.mark tk.maps) (spell a (token r (tk.mark tk.close_square) ∷ ts)) v1.rest v1.looks_same in
      let v3 = place column a (token r (tk.mark tk.close_square) ∷ ts) v2.rest v2.looks_same in
      let v4 = one_token column r (tk.mark tk.close_square) ts v3.rest v3.looks_same in
      record { again = function v0.again v1.again v2.again v3.again v4.again; rest = v4.rest; tokens = rw (v4.tokens, v3.tokens, v2.tokens, v1.tokens, v0.tokens) refl; same = λ i. function (v0.same i) (v1.same i) (v2.same i) (v3.same i) (v4.same i); looks_same = v4.looks_same }
  place column (functions p a q b r) ts us h =
      let v0 = one_token column p (tk.mark tk.open_square) (spell a (token q (tk.mark tk.arrow) ∷ (spell b (token r (tk.mark tk.close_square) ∷ ts)))) us h in
      let v1 = place column a (token q (tk.mark tk.arrow) ∷ (spell b (token r (tk.mark tk.close_square) ∷ ts))) v0.rest v0.looks_same in
      let v2 = one_token column q (tk.mark tk.arrow) (spell b (token r (tk.mark tk.close_square) ∷ ts)) v1.rest v1.looks_same in
      let v3 = place column b (token r (tk.mark tk.close_square) ∷ ts) v2.rest v2.looks_same in
      let v4 = one_token column r (tk.mark tk.close_square) ts v3.rest v3.looks_same in
      record { again = functions v0.again v1.again v2.again v3.again v4.again; rest = v4.rest; tokens = rw (v4.tokens, v3.tokens, v2.tokens, v1.tokens, v0.tokens) refl; same = λ i. functions (v0.same i) (v1.same i) (v2.same i) (v3.same i) (v4.same i); looks_same = v4.looks_same }
  place column (except p a q ss r) ts us h =
      let v0 = one_token column p (tk.mark tk.open_square) (spell a (token q (tk.key tk.except_key) ∷ (spell_settings ss (token r (tk.mark tk.close_square) ∷ ts)))) us h in
      let v1 = place column a (token q (tk.key tk.except_key) ∷ (spell_settings ss (token r (tk.mark tk.close_square) ∷ ts))) v0.rest v0.looks_same in
      let v2 = one_token column q (tk.key tk.except_key) (spell_settings ss (token r (tk.mark tk.close_square) ∷ ts)) v1.rest v1.looks_same in
      let v3 = place_settings column ss (token r (tk.mark tk.close_square) ∷ ts) v2.rest v2.looks_same in
      let v4 = one_token column r (tk.mark tk.close_square) ts v3.rest v3.looks_same in
      record { again = except v0.again v1.again v2.again v3.again v4.again; rest = v4.rest; tokens = rw (v4.tokens, v3.tokens, v2.tokens, v1.tokens, v0.tokens) refl; same = λ i. except (v0.same i) (v1.same i) (v2.same i) (v3.same i) (v4.same i); looks_same = v4.looks_same }
  place column (apply a p xs q) ts us h =
      let v0 = place column a (token p (tk.mark tk.open_square) ∷ (spell_all xs (token q (tk.mark tk.close_square) ∷ ts))) us h in
      let v1 = one_token column p (tk.mark tk.open_square) (spell_all xs (token q (tk.mark tk.close_square) ∷ ts)) v0.rest v0.looks_same in
      let v2 = place_all column xs (token q (tk.mark tk.close_square) ∷ ts) v1.rest v1.looks_same in
      let v3 = one_token column q (tk.mark tk.close_square) ts v2.rest v2.looks_same in
      record { again = apply v0.again v1.again v2.again v3.again; rest = v3.rest; tokens = rw (v3.tokens, v2.tokens, v1.tokens, v0.tokens) refl; same = λ i. apply (v0.same i) (v1.same i) (v2.same i) (v3.same i); looks_same = v3.looks_same }
  place column (select a p f) ts us h =
      let v0 = place column a (token p (tk.mark tk.dot) ∷ (field_token f ts)) us h in
      let v1 = one_token column p (tk.mark tk.dot) (field_token f ts) v0.rest v0.looks_same in
      let v2 = one_field column f ts v1.rest v1.looks_same in
      record { again = select v0.again v1.again v2.again; rest = v2.rest; tokens = rw (v2.tokens, v1.tokens, v0.tokens) refl; same = λ i. select (v0.same i) (v1.same i) (v2.same i); looks_same = v2.looks_same }
  place column (list o bs) ts us h =
      let v0 = place_bullets column o bs ts us h in
      record { again = list o v0.again; rest = v0.rest; tokens = v0.tokens; same = λ i. list o (v0.same i); looks_same = v0.looks_same }
  place column (quantified b p bs q a) ts us h =
      let v0 = one_token column p (tk.key (quantifier b)) (spell_binds bs (token q (tk.mark tk.colon) ∷ (spell a ts))) us h in
      let v1 = place_binds column bs (token q (tk.mark tk.colon) ∷ (spell a ts)) v0.rest v0.looks_same in
      let v2 = one_token column q (tk.mark tk.colon) (spell a ts) v1.rest v1.looks_same in
      let v3 = place column a ts v2.rest v2.looks_same in
      record { again = quantified b v0.again v1.again v2.again v3.again; rest = v3.rest; tokens = rw (v3.tokens, v2.tokens, v1.tokens, v0.tokens) refl; same = λ i. quantified b (v0.same i) (v1.same i) (v2.same i) (v3.same i); looks_same = v3.looks_same }
  place column (if_then_else p a q b r c) ts us h =
      let v0 = one_token column p (tk.key tk.if_key) (spell a (token q (tk.key tk.then_key) ∷ (spell b (token r (tk.key tk.else_key) ∷ (spell c ts))))) us h in
      let v1 = place column a (token q (tk.key tk.then_key) ∷ (spell b (token r (tk.key tk.else_key) ∷ (spell c ts)))) v0.rest v0.looks_same in
      let v2 = one_token column q (tk.key tk.then_key) (spell b (token r (tk.key tk.else_key) ∷ (spell c ts))) v1.rest v1.looks_same in
      let v3 = place column b (token r (tk.key tk.else_key) ∷ (spell c ts)) v2.rest v2.looks_same in
      let v4 = one_token column r (tk.key tk.else_key) (spell c ts) v3.rest v3.looks_same in
      let v5 = place column c ts v4.rest v4.looks_same in
      record { again = if_then_else v0.again v1.again v2.again v3.again v4.again v5.again; rest = v5.rest; tokens = rw (v5.tokens, v4.tokens, v3.tokens, v2.tokens, v1.tokens, v0.tokens) refl; same = λ i. if_then_else (v0.same i) (v1.same i) (v2.same i) (v3.same i) (v4.same i) (v5.same i); looks_same = v5.looks_same }
  place column (cases p xs) ts us h =
      let v0 = one_token column p (tk.key tk.case_key) (spell_arms xs ts) us h in
      let v1 = place_arms column xs ts v0.rest v0.looks_same in
      record { again = cases v0.again v1.again; rest = v1.rest; tokens = rw (v1.tokens, v0.tokens) refl; same = λ i. cases (v0.same i) (v1.same i); looks_same = v1.looks_same }
  place column (local p ls q a) ts us h =
      let v0 = one_token column p (tk.key tk.let_key) (spell_locals ls (token q (tk.key tk.in_key) ∷ (spell a ts))) us h in
      let v1 = place_locals column ls (token q (tk.key tk.in_key) ∷ (spell a ts)) v0.rest v0.looks_same in
      let v2 = one_token column q (tk.key tk.in_key) (spell a ts) v1.rest v1.looks_same in
      let v3 = place column a ts v2.rest v2.looks_same in
      record { again = local v0.again v1.again v2.again v3.again; rest = v3.rest; tokens = rw (v3.tokens, v2.tokens, v1.tokens, v0.tokens) refl; same = λ i. local (v0.same i) (v1.same i) (v2.same i) (v3.same i); looks_same = v3.looks_same }
  place column (infix_of a p o b) ts us h =
      let v0 = place column a (token p (sign_of o) ∷ (spell b ts)) us h in
      let v1 = one_token column p (sign_of o) (spell b ts) v0.rest v0.looks_same in
      let v2 = place column b ts v1.rest v1.looks_same in
      record { again = infix_of v0.again v1.again o v2.again; rest = v2.rest; tokens = rw (v2.tokens, v1.tokens, v0.tokens) refl; same = λ i. infix_of (v0.same i) (v1.same i) o (v2.same i); looks_same = v2.looks_same }
  place column (prefix_of p o a) ts us h =
      let v0 = one_token column p (sign_of o) (spell a ts) us h in
      let v1 = place column a ts v0.rest v0.looks_same in
      record { again = prefix_of v0.again o v1.again; rest = v1.rest; tokens = rw (v1.tokens, v0.tokens) refl; same = λ i. prefix_of (v0.same i) o (v1.same i); looks_same = v1.looks_same }

  pub place_all : (column : Place → ℕ) → (x : Phrases) (ts us : List Token) → looks_by column us ≡ looks_by column (spell_all x ts) → Placed column Phrases (moved_all column) spell_all x ts us
  place_all column (last a) ts us h =
      let v0 = place column a ts us h in
      record { again = last v0.again; rest = v0.rest; tokens = v0.tokens; same = λ i. last (v0.same i); looks_same = v0.looks_same }
  place_all column (more a p xs) ts us h =
      let v0 = place column a (token p (tk.mark tk.comma) ∷ (spell_all xs ts)) us h in
      let v1 = one_token column p (tk.mark tk.comma) (spell_all xs ts) v0.rest v0.looks_same in
      let v2 = place_all column xs ts v1.rest v1.looks_same in
      record { again = more v0.again v1.again v2.again; rest = v2.rest; tokens = rw (v2.tokens, v1.tokens, v0.tokens) refl; same = λ i. more (v0.same i) (v1.same i) (v2.same i); looks_same = v2.looks_same }

  place_binds : (column : Place → ℕ) → (x : Binds) (ts us : List Token) → looks_by column us ≡ looks_by column (spell_binds x ts) → Placed column Binds (moved_binds column) spell_binds x ts us
  place_binds column (last_bind p x q a) ts us h =
      let v0 = one_token column p (tk.word x) (token q (sign_of op.In) ∷ (spell a ts)) us h in
      let v1 = one_token column q (sign_of op.In) (spell a ts) v0.rest v0.looks_same in
      let v2 = place column a ts v1.rest v1.looks_same in
      record { again = last_bind v0.again x v1.again v2.again; rest = v2.rest; tokens = rw (v2.tokens, v1.tokens, v0.tokens) refl; same = λ i. last_bind (v0.same i) x (v1.same i) (v2.same i); looks_same = v2.looks_same }
  place_binds column (bind p x q a r bs) ts us h =
      let v0 = one_token column p (tk.word x) (token q (sign_of op.In) ∷ (spell a (token r (tk.mark tk.comma) ∷ (spell_binds bs ts)))) us h in
      let v1 = one_token column q (sign_of op.In) (spell a (token r (tk.mark tk.comma) ∷ (spell_binds bs ts))) v0.rest v0.looks_same in
      let v2 = place column a (token r (tk.mark tk.comma) ∷ (spell_binds bs ts)) v1.rest v1.looks_same in
      let v3 = one_token column r (tk.mark tk.comma) (spell_binds bs ts) v2.rest v2.looks_same in
      let v4 = place_binds column bs ts v3.rest v3.looks_same in
      record { again = bind v0.again x v1.again v2.again v3.again v4.again; rest = v4.rest; tokens = rw (v4.tokens, v3.tokens, v2.tokens, v1.tokens, v0.tokens) refl; same = λ i. bind (v0.same i) x (v1.same i) (v2.same i) (v3.same i) (v4.same i); looks_same = v4.looks_same }
  place_binds column (share p x q bs) ts us h =
      let v0 = one_token column p (tk.word x) (token q (tk.mark tk.comma) ∷ (spell_binds bs ts)) us h in
      let v1 = one_token column q (tk.mark tk.comma) (spell_binds bs ts) v0.rest v0.looks_same in
      let v2 = place_binds column bs ts v1.rest v1.looks_same in
      record { again = share v0.again x v1.again v2.again; rest = v2.rest; tokens = rw (v2.tokens, v1.tokens, v0.tokens) refl; same = λ i. share (v0.same i) x (v1.same i) (v2.same i); looks_same = v2.looks_same }

  place_fields : (column : Place → ℕ) → (m : Mark) (x : Fields) (ts us : List Token) → looks_by column us ≡ looks_by column (spell_fields m x ts) → Placed column Fields (moved_fields column) (spell_fields m) x ts us
  place_fields column m (last_field f p a) ts us h =
      let v0 = one_field column f (token p (tk.mark m) ∷ (spell a ts)) us h in
      let v1 = one_token column p (tk.mark m) (spell a ts) v0.rest v0.looks_same in
      let v2 = place column a ts v1.rest v1.looks_same in
      record { again = last_field v0.again v1.again v2.again; rest = v2.rest; tokens = rw (v2.tokens, v1.tokens, v0.tokens) refl; same = λ i. last_field (v0.same i) (v1.same i) (v2.same i); looks_same = v2.looks_same }
  place_fields column m (field f p a q fs) ts us h =
      let v0 = one_field column f (token p (tk.mark m) ∷ (spell a (token q (tk.mark tk.comma) ∷ (spell_fields m fs ts)))) us h in
      let v1 = one_token column p (tk.mark m) (spell a (token q (tk.mark tk.comma) ∷ (spell_fields m fs ts))) v0.rest v0.looks_same in
      let v2 = place column a (token q (tk.mark tk.comma) ∷ (spell_fields m fs ts)) v1.rest v1.looks_same in
      let v3 = one_token column q (tk.mark tk.comma) (spell_fields m fs ts) v2.rest v2.looks_same in
      let v4 = place_fields column m fs ts v3.rest v3.looks_same in
      record { again = field v0.again v1.again v2.again v3.again v4.again; rest = v4.rest; tokens = rw (v4.tokens, v3.tokens, v2.tokens, v1.tokens, v0.tokens) refl; same = λ i. field (v0.same i) (v1.same i) (v2.same i) (v3.same i) (v4.same i); looks_same = v4.looks_same }

  place_settings : (column : Place → ℕ) → (x : Settings) (ts us : List Token) → looks_by column us ≡ looks_by column (spell_settings x ts) → Placed column Settings (moved_settings column) spell_settings x ts us
  place_settings column (last_setting p path q a) ts us h =
      let v0 = one_token column p (tk.mark tk.bang) (spell_path path (token q (sign_of op.Equal) ∷ (spell a ts))) us h in
      let v1 = place_path column path (token q (sign_of op.Equal) ∷ (spell a ts)) v0.rest v0.looks_same in
      let v2 = one_token column q (sign_of op.Equal) (spell a ts) v1.rest v1.looks_same in
      let v3 = place column a ts v2.rest v2.looks_same in
      record { again = last_setting v0.again v1.again v2.again v3.again; rest = v3.rest; tokens = rw (v3.tokens, v2.tokens, v1.tokens, v0.tokens) refl; same = λ i. last_setting (v0.same i) (v1.same i) (v2.same i) (v3.same i); looks_same = v3.looks_same }
  place_settings column (setting p path q a r ss) ts us h =
      let v0 = one_token column p (tk.mark tk.bang) (spell_path path (token q (sign_of op.Equal) ∷ (spell a (token r (tk.mark tk.comma) ∷ (spell_settings ss ts))))) us h in
      let v1 = place_path column path (token q (sign_of op.Equal) ∷ (spell a (token r (tk.mark tk.comma) ∷ (spell_settings ss ts)))) v0.rest v0.looks_same in
      let v2 = one_token column q (sign_of op.Equal) (spell a (token r (tk.mark tk.comma) ∷ (spell_settings ss ts))) v1.rest v1.looks_same in
      let v3 = place column a (token r (tk.mark tk.comma) ∷ (spell_settings ss ts)) v2.rest v2.looks_same in
      let v4 = one_token column r (tk.mark tk.comma) (spell_settings ss ts) v3.rest v3.looks_same in
      let v5 = place_settings column ss ts v4.rest v4.looks_same in
      record { again = setting v0.again v1.again v2.again v3.again v4.again v5.again; rest = v5.rest; tokens = rw (v5.tokens, v4.tokens, v3.tokens, v2.tokens, v1.tokens, v0.tokens) refl; same = λ i. setting (v0.same i) (v1.same i) (v2.same i) (v3.same i) (v4.same i) (v5.same i); looks_same = v5.looks_same }

  place_path : (column : Place → ℕ) → (x : Path) (ts us : List Token) → looks_by column us ≡ looks_by column (spell_path x ts) → Placed column Path (moved_path column) spell_path x ts us
  place_path column path_end ts us h = record { again = path_end; rest = us; tokens = refl; same = refl; looks_same = h }
  place_path column (index p xs q path) ts us h =
      let v0 = one_token column p (tk.mark tk.open_square) (spell_all xs (token q (tk.mark tk.close_square) ∷ (spell_path path ts))) us h in
      let v1 = place_all column xs (token q (tk.mark tk.close_square) ∷ (spell_path path ts)) v0.rest v0.looks_same in
      let v2 = one_token column q (tk.mark tk.close_square) (spell_path path ts) v1.rest v1.looks_same in
      let v3 = place_path column path ts v2.rest v2.looks_same in
      record { again = index v0.again v1.again v2.again v3.again; rest = v3.rest; tokens = rw (v3.tokens, v2.tokens, v1.tokens, v0.tokens) refl; same = λ i. index (v0.same i) (v1.same i) (v2.same i) (v3.same i); looks_same = v3.looks_same }
  place_path column (at_field p f path) ts us h =
      let v0 = one_token column p (tk.mark tk.dot) (field_token f (spell_path path ts)) us h in
      let v1 = one_field column f (spell_path path ts) v0.rest v0.looks_same in
      let v2 = place_path column path ts v1.rest v1.looks_same in
      record { again = at_field v0.again v1.again v2.again; rest = v2.rest; tokens = rw (v2.tokens, v1.tokens, v0.tokens) refl; same = λ i. at_field (v0.same i) (v1.same i) (v2.same i); looks_same = v2.looks_same }

  place_bullets : (column : Place → ℕ) → (o : Op) (x : Bullets) (ts us : List Token) → looks_by column us ≡ looks_by column (spell_bullets o x ts) → Placed column Bullets (moved_bullets column) (spell_bullets o) x ts us
  place_bullets column o (last_bullet p a) ts us h =
      let v0 = one_token column p (sign_of o) (spell a ts) us h in
      let v1 = place column a ts v0.rest v0.looks_same in
      record { again = last_bullet v0.again v1.again; rest = v1.rest; tokens = rw (v1.tokens, v0.tokens) refl; same = λ i. last_bullet (v0.same i) (v1.same i); looks_same = v1.looks_same }
  place_bullets column o (bullet p a bs) ts us h =
      let v0 = one_token column p (sign_of o) (spell a (spell_bullets o bs ts)) us h in
      let v1 = place column a (spell_bullets o bs ts) v0.rest v0.looks_same in
      let v2 = place_bullets column o bs ts v1.rest v1.looks_same in
      record { again = bullet v0.again v1.again v2.again; rest = v2.rest; tokens = rw (v2.tokens, v1.tokens, v0.tokens) refl; same = λ i. bullet (v0.same i) (v1.same i) (v2.same i); looks_same = v2.looks_same }

  place_arms : (column : Place → ℕ) → (x : Arms) (ts us : List Token) → looks_by column us ≡ looks_by column (spell_arms x ts) → Placed column Arms (moved_arms column) spell_arms x ts us
  place_arms column (last_arm a p b) ts us h =
      let v0 = place column a (token p (tk.mark tk.arrow) ∷ (spell b ts)) us h in
      let v1 = one_token column p (tk.mark tk.arrow) (spell b ts) v0.rest v0.looks_same in
      let v2 = place column b ts v1.rest v1.looks_same in
      record { again = last_arm v0.again v1.again v2.again; rest = v2.rest; tokens = rw (v2.tokens, v1.tokens, v0.tokens) refl; same = λ i. last_arm (v0.same i) (v1.same i) (v2.same i); looks_same = v2.looks_same }
  place_arms column (other_arm a p b q r s c) ts us h =
      let v0 = place column a (token p (tk.mark tk.arrow) ∷ (spell b (token q (tk.mark tk.box) ∷ (token r (tk.key tk.other_key) ∷ (token s (tk.mark tk.arrow) ∷ (spell c ts)))))) us h in
      let v1 = one_token column p (tk.mark tk.arrow) (spell b (token q (tk.mark tk.box) ∷ (token r (tk.key tk.other_key) ∷ (token s (tk.mark tk.arrow) ∷ (spell c ts))))) v0.rest v0.looks_same in
      let v2 = place column b (token q (tk.mark tk.box) ∷ (token r (tk.key tk.other_key) ∷ (token s (tk.mark tk.arrow) ∷ (spell c ts)))) v1.rest v1.looks_same in
      let v3 = one_token column q (tk.mark tk.box) (token r (tk.key tk.other_key) ∷ (token s (tk.mark tk.arrow) ∷ (spell c ts))) v2.rest v2.looks_same in
      let v4 = one_token column r (tk.key tk.other_key) (token s (tk.mark tk.arrow) ∷ (spell c ts)) v3.rest v3.looks_same in
      let v5 = one_token column s (tk.mark tk.arrow) (spell c ts) v4.rest v4.looks_same in
      let v6 = place column c ts v5.rest v5.looks_same in
      record { again = other_arm v0.again v1.again v2.again v3.again v4.again v5.again v6.again; rest = v6.rest; tokens = rw (v6.tokens, v5.tokens, v4.tokens, v3.tokens, v2.tokens, v1.tokens, v0.tokens) refl; same = λ i. other_arm (v0.same i) (v1.same i) (v2.same i) (v3.same i) (v4.same i) (v5.same i) (v6.same i); looks_same = v6.looks_same }
  place_arms column (arm a p b q xs) ts us h =
      let v0 = place column a (token p (tk.mark tk.arrow) ∷ (spell b (token q (tk.mark tk.box) ∷ (spell_arms xs ts)))) us h in
      let v1 = one_token column p (tk.mark tk.arrow) (spell b (token q (tk.mark tk.box) ∷ (spell_arms xs ts))) v0.rest v0.looks_same in
      let v2 = place column b (token q (tk.mark tk.box) ∷ (spell_arms xs ts)) v1.rest v1.looks_same in
      let v3 = one_token column q (tk.mark tk.box) (spell_arms xs ts) v2.rest v2.looks_same in
      let v4 = place_arms column xs ts v3.rest v3.looks_same in
      record { again = arm v0.again v1.again v2.again v3.again v4.again; rest = v4.rest; tokens = rw (v4.tokens, v3.tokens, v2.tokens, v1.tokens, v0.tokens) refl; same = λ i. arm (v0.same i) (v1.same i) (v2.same i) (v3.same i) (v4.same i); looks_same = v4.looks_same }

  place_locals : (column : Place → ℕ) → (x : Locals) (ts us : List Token) → looks_by column us ≡ looks_by column (spell_locals x ts) → Placed column Locals (moved_locals column) spell_locals x ts us
  place_locals column (last_local p x q a) ts us h =
      let v0 = one_token column p (tk.word x) (token q (tk.mark tk.defines) ∷ (spell a ts)) us h in
      let v1 = one_token column q (tk.mark tk.defines) (spell a ts) v0.rest v0.looks_same in
      let v2 = place column a ts v1.rest v1.looks_same in
      record { again = last_local v0.again x v1.again v2.again; rest = v2.rest; tokens = rw (v2.tokens, v1.tokens, v0.tokens) refl; same = λ i. last_local (v0.same i) x (v1.same i) (v2.same i); looks_same = v2.looks_same }
  place_locals column (more_locals p x q a ls) ts us h =
      let v0 = one_token column p (tk.word x) (token q (tk.mark tk.defines) ∷ (spell a (spell_locals ls ts))) us h in
      let v1 = one_token column q (tk.mark tk.defines) (spell a (spell_locals ls ts)) v0.rest v0.looks_same in
      let v2 = place column a (spell_locals ls ts) v1.rest v1.looks_same in
      let v3 = place_locals column ls ts v2.rest v2.looks_same in
      record { again = more_locals v0.again x v1.again v2.again v3.again; rest = v3.rest; tokens = rw (v3.tokens, v2.tokens, v1.tokens, v0.tokens) refl; same = λ i. more_locals (v0.same i) x (v1.same i) (v2.same i) (v3.same i); looks_same = v3.looks_same }
