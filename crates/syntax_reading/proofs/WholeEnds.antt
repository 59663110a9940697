-- What is spelled is read: parts that end before a word, a brace or a bracket.
use Rattle.std.proofs.Common.{◌≡◌, ℕ, zero, suc, ◌+◌, ◌≤◌, Bool, true, false, List, length, Option, Some, None, Ok, refl, arith}
use Rattle.tla_token.specs.declared.place.Place.{Place}
use Rattle.tla_tree.specs.Lexical.{TokenView, Token}
use Rattle.tla_tree.specs.Lexical as tk
use Rattle.tla_tree.specs.Spelling.{spell}
use Rattle.tla_tree.specs.laws.Following.{is_calm}
use Rattle.pcal_tree.specs.GrammarParts.{Separator, by_semicolon, by_comma, Initial, unset, equals, among, Variables, last_variable, variable, Section, no_section, section, Definitions, last_definition, more_definitions, plain, applied, Colon, colon, colon_plus, colon_minus, Binds, last_bind, bind}
use Rattle.pcal_tree.specs.GrammarParts.{mark, separator, maybe_semicolon, maybe_separator, initial, GoodInitial, variables, GoodVariables, section_tokens, GoodSection, definitions, GoodDefinitions, colon_tokens, binds, GoodBinds}
use Rattle.syntax_reading.specs.TokenReaders.{first, by_next, Parts}
use Rattle.syntax_reading.specs.ReadParts.{semicolon_by, read_semicolon, separator_by, read_separator, initial_by, read_initial, variables_by, read_variables, section_by, read_section, definitions_by, read_definitions, colon_by, read_colon, binds_by, read_binds}
use Rattle.syntax_reading.proofs.Whole.{Fits, smaller, less, then_is, WholeParts}
use Rattle.syntax_reading.proofs.WholeParts.{heading_whole, signed}
use Rattle.syntax_reading.proofs.Lengths.{grow_phrase, grow_separator, grow_initial, grow_heading, grow_variables, grow_definitions, grow_binds}

-- ---- what may follow
-- words, braces and `)`
abbrev pub is_end_next : TokenView → Bool
is_end_next (tk.reserved w) = true
is_end_next (tk.mark tk.open_brace) = true
is_end_next (tk.mark tk.close_brace) = true
is_end_next (tk.mark tk.close_bracket) = true
is_end_next k = false

-- and separators
abbrev pub is_divider_next : TokenView → Bool
is_divider_next (tk.reserved w) = true
is_divider_next (tk.mark tk.open_brace) = true
is_divider_next (tk.mark tk.close_brace) = true
is_divider_next (tk.mark tk.close_bracket) = true
is_divider_next (tk.mark tk.semicolon) = true
is_divider_next (tk.mark tk.comma) = true
is_divider_next k = false

pub end_divides : (k : TokenView) → is_end_next k ≡ true → is_divider_next k ≡ true
end_divides (tk.reserved w) h = refl
end_divides (tk.mark tk.open_brace) h = refl
end_divides (tk.mark tk.close_brace) h = refl
end_divides (tk.mark tk.close_bracket) h = refl
end_divides k h = absurd cc

pub next_calm : (k : TokenView) → is_divider_next k ≡ true → is_calm k ≡ true
next_calm (tk.reserved w) h = refl
next_calm (tk.mark tk.open_brace) h = refl
next_calm (tk.mark tk.close_brace) h = refl
next_calm (tk.mark tk.close_bracket) h = refl
next_calm (tk.mark tk.semicolon) h = refl
next_calm (tk.mark tk.comma) h = refl
next_calm k h = absurd cc

-- ---- `;` and `,`
pub semicolon_ends : (o : Option Place) (ts : List Token) → is_end_next (first ts).kind ≡ true → read_semicolon (maybe_semicolon o ts) ≡ Ok (o, ts)
semicolon_ends (Some p) ts h = refl
semicolon_ends None ts h = by (first ts).place (first ts).kind h
  where
    by : (p : Place) (k : TokenView) → is_end_next k ≡ true → semicolon_by p k ts ≡ Ok (None, ts)
    by p (tk.reserved w) h = refl
    by p (tk.mark tk.open_brace) h = refl
    by p (tk.mark tk.close_brace) h = refl
    by p (tk.mark tk.close_bracket) h = refl
    by p k h = absurd cc

separated : (s : Separator) (ts : List Token) → read_separator (separator s ts) ≡ Ok (Some s, ts)
separated (by_semicolon p) ts = refl
separated (by_comma p) ts = refl

separator_ends : (o : Option Separator) (ts : List Token) → is_end_next (first ts).kind ≡ true → read_separator (maybe_separator o ts) ≡ Ok (o, ts)
separator_ends (Some s) ts h = separated s ts
separator_ends None ts h = by (first ts).place (first ts).kind h
  where
    by : (p : Place) (k : TokenView) → is_end_next k ≡ true → separator_by p k ts ≡ Ok (None, ts)
    by p (tk.reserved w) h = refl
    by p (tk.mark tk.open_brace) h = refl
    by p (tk.mark tk.close_brace) h = refl
    by p (tk.mark tk.close_bracket) h = refl
    by p k h = absurd cc

separator_divides : (s : Separator) (ts : List Token) → is_divider_next (first (separator s ts)).kind ≡ true
separator_divides (by_semicolon p) ts = refl
separator_divides (by_comma p) ts = refl

maybe_divides : (o : Option Separator) (ts : List Token) → is_end_next (first ts).kind ≡ true → is_divider_next (first (maybe_separator o ts)).kind ≡ true
maybe_divides (Some s) ts h = separator_divides s ts
maybe_divides None ts h = end_divides (first ts).kind h

-- ---- after the name of a label
abbrev pub is_statement_start : TokenView → Bool
is_statement_start (tk.reserved w) = true
is_statement_start (tk.word x) = true
is_statement_start (tk.mark tk.open_brace) = true
is_statement_start k = false

pub colon_ends : (c : Colon) (ts : List Token) → is_statement_start (first ts).kind ≡ true → read_colon (colon_tokens c ts) ≡ Ok (c, ts)
colon_ends (colon_plus p q) ts h = refl
colon_ends (colon_minus p q) ts h = refl
colon_ends (colon p) ts h = by (first ts).place (first ts).kind h
  where
    by : (q : Place) (k : TokenView) → is_statement_start k ≡ true → colon_by p q k ts ≡ Ok (colon p, ts)
    by q (tk.reserved w) h = refl
    by q (tk.word w) h = refl
    by q (tk.mark tk.open_brace) h = refl
    by q k h = absurd cc

module _ (m : ℕ) (r : Parts) (h : WholeParts m r) where
  -- ---- declarations
  initial_ends : (b : Bool) (i : Initial) → GoodInitial b i → (ts : List Token) → is_divider_next (first ts).kind ≡ true → length (initial i ts) ≤ m → read_initial b r (initial i ts) ≡ Ok (i, ts)
  initial_ends b (equals p e) g ts d l = then_is _ (h.expr e g ts (next_calm (first ts).kind d) (omega (arith, l))) refl
  initial_ends true (among p e) g ts d l = then_is _ (h.expr e g.1 ts (next_calm (first ts).kind d) (omega (arith, l))) refl
  initial_ends false (among p e) g ts d l = absurd cc
  initial_ends b unset g ts d l = by (first ts).place (first ts).kind d
    where
      by : (p : Place) (k : TokenView) → is_divider_next k ≡ true → initial_by b r p k ts ≡ Ok (unset, ts)
      by p (tk.reserved w) d = refl
      by p (tk.mark tk.open_brace) d = refl
      by p (tk.mark tk.close_brace) d = refl
      by p (tk.mark tk.close_bracket) d = refl
      by p (tk.mark tk.semicolon) d = refl
      by p (tk.mark tk.comma) d = refl
      by p k d = absurd cc

  variables_end : (b : Bool) (n : ℕ) (vs : Variables) → GoodVariables b vs → (ts : List Token) → is_end_next (first ts).kind ≡ true → Fits n m (variables vs ts) → read_variables b r n (variables vs ts) ≡ Ok (vs, ts)
  variables_end b zero vs g ts d f = absurd (omega (arith, f.list, grow_variables vs ts))
  variables_end b (suc n) (last_variable x i s) g ts d f =
      then_is _ (initial_ends b i g (maybe_separator s ts) (maybe_divides s ts d) (omega (arith, f.all))) (then_is _ (separator_ends s ts d) (by s (first ts).place (first ts).kind d))
    where
      by : (s : Option Separator) (p : Place) (k : TokenView) → is_end_next k ≡ true → variables_by (read_variables b r n) x i s p k ts ≡ Ok (last_variable x i s, ts)
      by None p k d = refl
      by (Some s) p (tk.reserved w) d = refl
      by (Some s) p (tk.mark tk.open_brace) d = refl
      by (Some s) p (tk.mark tk.close_brace) d = refl
      by (Some s) p (tk.mark tk.close_bracket) d = refl
      by s p k d = absurd cc
  variables_end b (suc n) (variable x i s vs) g ts d f =
      then_is _ (initial_ends b i g.0 (separator s (variables vs ts)) (separator_divides s (variables vs ts)) (omega (arith, f.all)))
      (then_is _ (separated s (variables vs ts)) (next vs (variables_end b n vs g.1 ts d (less (omega (arith, grow_initial i (separator s (variables vs ts)), grow_separator s (variables vs ts))) f))))
    where
      next : (vs : Variables) → read_variables b r n (variables vs ts) ≡ Ok (vs, ts) → by_next (variables_by (read_variables b r n) x i (Some s)) (variables vs ts) ≡ Ok (variable x i s vs, ts)
      next (last_variable y j t) e = then_is _ e refl
      next (variable y j t us) e = then_is _ e refl

  pub section_ends : (b : Bool) (n : ℕ) (x : Section) → GoodSection b x → (ts : List Token) → is_end_next (first ts).kind ≡ true → section_by b r n (first ts).place (first ts).kind ts ≡ Ok (no_section, ts) → Fits n m (section_tokens x ts)
      → read_section b r n (section_tokens x ts) ≡ Ok (x, ts)
  section_ends b n no_section g ts d o f = o
  section_ends b n (section p false vs) g ts d o f = then_is _ (variables_end b n vs g ts d (smaller (omega arith) f)) refl
  section_ends b n (section p true vs) g ts d o f = then_is _ (variables_end b n vs g ts d (smaller (omega arith) f)) refl

  -- ---- definitions
  pub definitions_end : (n : ℕ) (ds : Definitions) → GoodDefinitions ds → (ts : List Token) → is_end_next (first ts).kind ≡ true → Fits n m (definitions ds ts) → read_definitions r n (definitions ds ts) ≡ Ok (ds, ts)
  definitions_end zero ds g ts d f = absurd (omega (arith, f.list, grow_definitions ds ts))
  definitions_end (suc n) (last_definition x p e) g ts d f =
      then_is _ (heading_whole n m x p (spell e ts) f)
      (then_is _ (h.expr e g ts (next_calm (first ts).kind (end_divides (first ts).kind d)) (omega (arith, f.all, grow_heading x (mark p tk.defines (spell e ts))))) (by (first ts).place (first ts).kind d))
    where
      by : (q : Place) (k : TokenView) → is_end_next k ≡ true → definitions_by (read_definitions r n) x p e q k ts ≡ Ok (last_definition x p e, ts)
      by q (tk.reserved w) d = refl
      by q (tk.mark tk.open_brace) d = refl
      by q (tk.mark tk.close_brace) d = refl
      by q (tk.mark tk.close_bracket) d = refl
      by q k d = absurd cc
  definitions_end (suc n) (more_definitions x p e ds) g ts d f =
      (let us = definitions ds ts in
      then_is _ (heading_whole n m x p (spell e us) f)
      (then_is _ (h.expr e g.0 us (begins ds) (omega (arith, f.all, grow_heading x (mark p tk.defines (spell e us)))))
      (next ds (definitions_end n ds g.1 ts d (less (omega (arith, grow_heading x (mark p tk.defines (spell e us)), grow_phrase e us)) f)))))
    where
      begins : (ds : Definitions) → is_calm (first (definitions ds ts)).kind ≡ true
      begins (last_definition (plain y) q a) = refl
      begins (last_definition (applied y s xs t) q a) = refl
      begins (more_definitions (plain y) q a cs) = refl
      begins (more_definitions (applied y s xs t) q a cs) = refl

      next : (ds : Definitions) → read_definitions r n (definitions ds ts) ≡ Ok (ds, ts) → by_next (definitions_by (read_definitions r n) x p e) (definitions ds ts) ≡ Ok (more_definitions x p e ds, ts)
      next (last_definition (plain y) q a) i = then_is _ i refl
      next (last_definition (applied y s xs t) q a) i = then_is _ i refl
      next (more_definitions (plain y) q a cs) i = then_is _ i refl
      next (more_definitions (applied y s xs t) q a cs) i = then_is _ i refl

  -- ---- what a `with` names
  pub binds_end : (n o : ℕ) (bs : Binds) → GoodBinds bs → (ts : List Token) → is_end_next (first ts).kind ≡ true → Fits n m (binds bs ts) → read_binds r n o (binds bs ts) ≡ Ok (bs, ts)
  binds_end zero o bs g ts d f = absurd (omega (arith, f.list, grow_binds bs ts))
  binds_end (suc n) o (last_bind x b p e s) g ts d f =
      rw (h.room (o + 1))
      (then_is _ (signed b p (spell e (maybe_separator s ts)))
      (then_is _ (h.expr e g (maybe_separator s ts) (next_calm (first (maybe_separator s ts)).kind (maybe_divides s ts d)) (omega (arith, f.all)))
      (then_is _ (separator_ends s ts d) (by s (first ts).place (first ts).kind d))))
    where
      by : (s : Option Separator) (q : Place) (k : TokenView) → is_end_next k ≡ true → binds_by (read_binds r n (o + 1)) x b p e s q k ts ≡ Ok (last_bind x b p e s, ts)
      by None q k d = refl
      by (Some s) q (tk.reserved w) d = refl
      by (Some s) q (tk.mark tk.open_brace) d = refl
      by (Some s) q (tk.mark tk.close_brace) d = refl
      by (Some s) q (tk.mark tk.close_bracket) d = refl
      by s q k d = absurd cc
  binds_end (suc n) o (bind x b p e s bs) g ts d f =
      (let us = binds bs ts in
      rw (h.room (o + 1))
      (then_is _ (signed b p (spell e (separator s us)))
      (then_is _ (h.expr e g.0 (separator s us) (next_calm (first (separator s us)).kind (separator_divides s us)) (omega (arith, f.all)))
      (then_is _ (separated s us) (next bs (binds_end n (o + 1) bs g.1 ts d (less (omega (arith, grow_phrase e (separator s us), grow_separator s us)) f)))))))
    where
      next : (bs : Binds) → read_binds r n (o + 1) (binds bs ts) ≡ Ok (bs, ts) → by_next (binds_by (read_binds r n (o + 1)) x b p e (Some s)) (binds bs ts) ≡ Ok (bind x b p e s bs, ts)
      next (last_bind y c q a t) i = then_is _ i refl
      next (bind y c q a t cs) i = then_is _ i refl
