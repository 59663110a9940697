-- What is spelled is read: declarations, definitions, labels and what a `with` names.
use Rattle.std.proofs.Common.{◌≡◌, ℕ, zero, suc, ◌+◌, ◌≤◌, Bool, true, false, List, length, Option, Some, None, Ok, refl, arith}
use Rattle.tla_token.specs.declared.place.Place.{Place}
use Rattle.tla_tree.specs.Lexical.{TokenView, Token}
use Rattle.tla_tree.specs.Lexical as tk
use Rattle.tla_tree.specs.Spelling.{spell}
use Rattle.tla_tree.specs.laws.Following.{is_calm}
use Rattle.pcal_tree.specs.GrammarParts.{Separator, by_semicolon, by_comma, Initial, unset, equals, among, Variables, last_variable, variable, Section, no_section, section, Names, last_name, more_names, MacroParameters, no_names, some_names, Parameters, last_parameter, parameter, ProcedureParameters, no_parameters, some_parameters, Heading, plain, applied, Definitions, last_definition, more_definitions, Colon, colon, colon_plus, colon_minus, Binds, last_bind, bind}
use Rattle.pcal_tree.specs.GrammarParts.{sign, mark, separator, maybe_semicolon, maybe_separator, initial, GoodInitial, variables, GoodVariables, section_tokens, GoodSection, names, macro_parameters, parameters, GoodParameters, procedure_parameters, GoodProcedureParameters, heading, definitions, GoodDefinitions, colon_tokens, bind_sign, binds, GoodBinds}
use Rattle.syntax_reading.specs.TokenReaders.{first, by_next, past, Parts}
use Rattle.syntax_reading.specs.ReadParts.{semicolon_by, read_semicolon, separator_by, read_separator, initial_by, read_initial, variables_by, read_variables, section_by, read_section, names_by, read_names, read_macro_parameters, read_parameters, read_procedure_parameters, read_heading, definitions_by, read_definitions, colon_by, read_colon, binds_by, bind_by, read_binds}
use Rattle.syntax_reading.proofs.Whole.{Fits, smaller, less, then_is, is_word_next, is_divider, word_divides, divider_calm, WholeParts}
use Rattle.syntax_reading.proofs.Lengths.{grow_phrase, grow_separator, grow_initial, grow_heading, grow_variables, grow_parameters, grow_definitions, grow_binds}

-- ---- `;` and `,`
pub semicolon_whole : (o : Option Place) (ts : List Token) → is_word_next (first ts).kind ≡ true → read_semicolon (maybe_semicolon o ts) ≡ Ok (o, ts)
semicolon_whole (Some p) ts h = refl
semicolon_whole None ts h = by (first ts).place (first ts).kind h
  where
    by : (p : Place) (k : TokenView) → is_word_next k ≡ true → semicolon_by p k ts ≡ Ok (None, ts)
    by p (tk.reserved w) h = refl
    by p k h = absurd cc

separated : (s : Separator) (ts : List Token) → read_separator (separator s ts) ≡ Ok (Some s, ts)
separated (by_semicolon p) ts = refl
separated (by_comma p) ts = refl

separator_whole : (o : Option Separator) (ts : List Token) → is_word_next (first ts).kind ≡ true → read_separator (maybe_separator o ts) ≡ Ok (o, ts)
separator_whole (Some s) ts h = separated s ts
separator_whole None ts h = by (first ts).place (first ts).kind h
  where
    by : (p : Place) (k : TokenView) → is_word_next k ≡ true → separator_by p k ts ≡ Ok (None, ts)
    by p (tk.reserved w) h = refl
    by p k h = absurd cc

separator_divides : (s : Separator) (ts : List Token) → is_divider (first (separator s ts)).kind ≡ true
separator_divides (by_semicolon p) ts = refl
separator_divides (by_comma p) ts = refl

maybe_divides : (o : Option Separator) (ts : List Token) → is_word_next (first ts).kind ≡ true → is_divider (first (maybe_separator o ts)).kind ≡ true
maybe_divides (Some s) ts h = separator_divides s ts
maybe_divides None ts h = word_divides (first ts).kind h

-- ---- lists of names
abbrev is_close : TokenView → Bool
is_close (tk.mark tk.close_bracket) = true
is_close k = false

pub names_whole : (n m : ℕ) (xs : Names) (ts : List Token) → is_close (first ts).kind ≡ true → Fits n m (names xs ts) → read_names n (names xs ts) ≡ Ok (xs, ts)
names_whole zero m (last_name x) ts h f = absurd (omega (arith, f.list))
names_whole zero m (more_names x p xs) ts h f = absurd (omega (arith, f.list))
names_whole (suc n) m (last_name x) ts h f = by (first ts).place (first ts).kind h
  where
    by : (p : Place) (k : TokenView) → is_close k ≡ true → names_by (read_names n) x p k ts ≡ Ok (last_name x, ts)
    by p (tk.mark tk.close_bracket) h = refl
    by p k h = absurd cc
names_whole (suc n) m (more_names x p xs) ts h f = then_is _ (names_whole n m xs ts h (less (omega arith) f)) refl

pub macro_parameters_whole : (n m : ℕ) (x : MacroParameters) (ts : List Token) → Fits n m (macro_parameters x ts) → read_macro_parameters n (macro_parameters x ts) ≡ Ok (x, ts)
macro_parameters_whole n m (no_names p q) ts f = refl
macro_parameters_whole n m (some_names p (last_name x) q) ts f = then_is _ (names_whole n m (last_name x) (mark q tk.close_bracket ts) refl (smaller (omega arith) f)) refl
macro_parameters_whole n m (some_names p (more_names x r xs) q) ts f = then_is _ (names_whole n m (more_names x r xs) (mark q tk.close_bracket ts) refl (smaller (omega arith) f)) refl

pub heading_whole : (n m : ℕ) (x : Heading) (p : Place) (ts : List Token) → Fits (suc n) m (heading x (mark p tk.defines ts)) → read_heading n (heading x (mark p tk.defines ts)) ≡ Ok (x, mark p tk.defines ts)
heading_whole n m (plain x) p ts f = refl
heading_whole n m (applied x r xs q) p ts f = then_is _ (names_whole n m xs (mark q tk.close_bracket (mark p tk.defines ts)) refl (less (omega arith) f)) refl

-- ---- after the name of a label
abbrev pub starts_statement : TokenView → Bool
starts_statement (tk.reserved w) = true
starts_statement (tk.word x) = true
starts_statement k = false

pub colon_whole : (c : Colon) (ts : List Token) → starts_statement (first ts).kind ≡ true → read_colon (colon_tokens c ts) ≡ Ok (c, ts)
colon_whole (colon_plus p q) ts h = refl
colon_whole (colon_minus p q) ts h = refl
colon_whole (colon p) ts h = by (first ts).place (first ts).kind h
  where
    by : (q : Place) (k : TokenView) → starts_statement k ≡ true → colon_by p q k ts ≡ Ok (colon p, ts)
    by q (tk.reserved w) h = refl
    by q (tk.word w) h = refl
    by q k h = absurd cc

-- ---- the sign of a bind
pub signed : (b : Bool) (p : Place) (us : List Token) → past bind_by (sign p (bind_sign b) us) ≡ Ok ((b, p), us)
signed true p us = refl
signed false p us = refl

module _ (m : ℕ) (r : Parts) (h : WholeParts m r) where
  -- ---- declarations
  pub initial_whole : (b : Bool) (i : Initial) → GoodInitial b i → (ts : List Token) → is_divider (first ts).kind ≡ true → length (initial i ts) ≤ m → read_initial b r (initial i ts) ≡ Ok (i, ts)
  initial_whole b (equals p e) g ts d l = then_is _ (h.expr e g ts (divider_calm (first ts).kind d) (omega (arith, l))) refl
  initial_whole true (among p e) g ts d l = then_is _ (h.expr e g.1 ts (divider_calm (first ts).kind d) (omega (arith, l))) refl
  initial_whole false (among p e) g ts d l = absurd cc
  initial_whole b unset g ts d l = by (first ts).place (first ts).kind d
    where
      by : (p : Place) (k : TokenView) → is_divider k ≡ true → initial_by b r p k ts ≡ Ok (unset, ts)
      by p (tk.reserved w) d = refl
      by p (tk.mark tk.semicolon) d = refl
      by p (tk.mark tk.comma) d = refl
      by p (tk.mark tk.close_bracket) d = refl
      by p k d = absurd cc

  pub variables_whole : (b : Bool) (n : ℕ) (vs : Variables) → GoodVariables b vs → (ts : List Token) → is_word_next (first ts).kind ≡ true → Fits n m (variables vs ts) → read_variables b r n (variables vs ts) ≡ Ok (vs, ts)
  variables_whole b zero vs g ts d f = absurd (omega (arith, f.list, grow_variables vs ts))
  variables_whole b (suc n) (last_variable x i s) g ts d f =
      then_is _ (initial_whole b i g (maybe_separator s ts) (maybe_divides s ts d) (omega (arith, f.all))) (then_is _ (separator_whole s ts d) (by s (first ts).place (first ts).kind d))
    where
      by : (s : Option Separator) (p : Place) (k : TokenView) → is_word_next k ≡ true → variables_by (read_variables b r n) x i s p k ts ≡ Ok (last_variable x i s, ts)
      by (Some s) p (tk.reserved w) d = refl
      by None p (tk.reserved w) d = refl
      by s p k d = absurd cc
  variables_whole b (suc n) (variable x i s vs) g ts d f =
      then_is _ (initial_whole b i g.0 (separator s (variables vs ts)) (separator_divides s (variables vs ts)) (omega (arith, f.all)))
      (then_is _ (separated s (variables vs ts)) (next vs (variables_whole b n vs g.1 ts d (less (omega (arith, grow_initial i (separator s (variables vs ts)), grow_separator s (variables vs ts))) f))))
    where
      next : (vs : Variables) → read_variables b r n (variables vs ts) ≡ Ok (vs, ts) → by_next (variables_by (read_variables b r n) x i (Some s)) (variables vs ts) ≡ Ok (variable x i s vs, ts)
      next (last_variable y j t) e = then_is _ e refl
      next (variable y j t us) e = then_is _ e refl

  pub section_whole : (b : Bool) (n : ℕ) (x : Section) → GoodSection b x → (ts : List Token) → is_word_next (first ts).kind ≡ true → section_by b r n (first ts).place (first ts).kind ts ≡ Ok (no_section, ts) → Fits n m (section_tokens x ts)
      → read_section b r n (section_tokens x ts) ≡ Ok (x, ts)
  section_whole b n no_section g ts d o f = o
  section_whole b n (section p false vs) g ts d o f = then_is _ (variables_whole b n vs g ts d (smaller (omega arith) f)) refl
  section_whole b n (section p true vs) g ts d o f = then_is _ (variables_whole b n vs g ts d (smaller (omega arith) f)) refl

  -- ---- parameters and definitions
  pub parameters_whole : (n : ℕ) (xs : Parameters) → GoodParameters xs → (p : Place) (ts : List Token) → Fits n m (parameters xs (mark p tk.close_bracket ts)) → read_parameters r n (parameters xs (mark p tk.close_bracket ts)) ≡ Ok (xs, mark p tk.close_bracket ts)
  parameters_whole zero xs g p ts f = absurd (omega (arith, f.list, grow_parameters xs (mark p tk.close_bracket ts)))
  parameters_whole (suc n) (last_parameter x i) g p ts f = then_is _ (initial_whole false i g (mark p tk.close_bracket ts) refl (omega (arith, f.all))) refl
  parameters_whole (suc n) (parameter x i q xs) g p ts f =
      (let us = parameters xs (mark p tk.close_bracket ts) in
      then_is _ (initial_whole false i g.0 (mark q tk.comma us) refl (omega (arith, f.all))) (then_is _ (parameters_whole n xs g.1 p ts (less (omega (arith, grow_initial i (mark q tk.comma us))) f)) refl))

  pub procedure_parameters_whole : (n : ℕ) (x : ProcedureParameters) → GoodProcedureParameters x → (ts : List Token) → Fits n m (procedure_parameters x ts) → read_procedure_parameters r n (procedure_parameters x ts) ≡ Ok (x, ts)
  procedure_parameters_whole n (no_parameters p q) g ts f = refl
  procedure_parameters_whole n (some_parameters p (last_parameter x i) q) g ts f = then_is _ (parameters_whole n (last_parameter x i) g q ts (smaller (omega arith) f)) refl
  procedure_parameters_whole n (some_parameters p (parameter x i s xs) q) g ts f = then_is _ (parameters_whole n (parameter x i s xs) g q ts (smaller (omega arith) f)) refl

  pub definitions_whole : (n : ℕ) (ds : Definitions) → GoodDefinitions ds → (ts : List Token) → is_word_next (first ts).kind ≡ true → Fits n m (definitions ds ts) → read_definitions r n (definitions ds ts) ≡ Ok (ds, ts)
  definitions_whole zero ds g ts d f = absurd (omega (arith, f.list, grow_definitions ds ts))
  definitions_whole (suc n) (last_definition x p e) g ts d f =
      then_is _ (heading_whole n m x p (spell e ts) f)
      (then_is _ (h.expr e g ts (divider_calm (first ts).kind (word_divides (first ts).kind d)) (omega (arith, f.all, grow_heading x (mark p tk.defines (spell e ts))))) (by (first ts).place (first ts).kind d))
    where
      by : (q : Place) (k : TokenView) → is_word_next k ≡ true → definitions_by (read_definitions r n) x p e q k ts ≡ Ok (last_definition x p e, ts)
      by q (tk.reserved w) d = refl
      by q k d = absurd cc
  definitions_whole (suc n) (more_definitions x p e ds) g ts d f =
      (let us = definitions ds ts in
      then_is _ (heading_whole n m x p (spell e us) f)
      (then_is _ (h.expr e g.0 us (begins ds) (omega (arith, f.all, grow_heading x (mark p tk.defines (spell e us)))))
      (next ds (definitions_whole n ds g.1 ts d (less (omega (arith, grow_heading x (mark p tk.defines (spell e us)), grow_phrase e us)) f)))))
    where
      begins : (ds : Definitions) → is_calm (first (definitions ds ts)).kind ≡ true
      begins (last_definition (plain y) q a) = refl
      begins (last_definition (applied y s xs t) q a) = refl
      begins (more_definitions (plain y) q a cs) = refl
      begins (more_definitions (applied y s xs t) q a cs) = refl

      next : (ds : Definitions) → read_definitions r n (definitions ds ts) ≡ Ok (ds, ts) → by_next (definitions_by (read_definitions r n) x p e) (definitions ds ts) ≡ Ok (more_definitions x p e ds, ts)
      next (last_definition (plain y) q a) i = then_is _ i refl
      next (last_definition (applied y s xs t) q a) i = then_is _ i refl
      next (more_definitions (plain y) q a cs) i = then_is _ i refl
      next (more_definitions (applied y s xs t) q a cs) i = then_is _ i refl

  -- ---- what a `with` names
  pub binds_whole : (n o : ℕ) (bs : Binds) → GoodBinds bs → (ts : List Token) → is_word_next (first ts).kind ≡ true → Fits n m (binds bs ts) → read_binds r n o (binds bs ts) ≡ Ok (bs, ts)
  binds_whole zero o bs g ts d f = absurd (omega (arith, f.list, grow_binds bs ts))
  binds_whole (suc n) o (last_bind x b p e s) g ts d f =
      rw (h.room (o + 1))
      (then_is _ (signed b p (spell e (maybe_separator s ts)))
      (then_is _ (h.expr e g (maybe_separator s ts) (divider_calm (first (maybe_separator s ts)).kind (maybe_divides s ts d)) (omega (arith, f.all)))
      (then_is _ (separator_whole s ts d) (by s (first ts).place (first ts).kind d))))
    where
      by : (s : Option Separator) (q : Place) (k : TokenView) → is_word_next k ≡ true → binds_by (read_binds r n (o + 1)) x b p e s q k ts ≡ Ok (last_bind x b p e s, ts)
      by (Some s) q (tk.reserved w) d = refl
      by None q (tk.reserved w) d = refl
      by s q k d = absurd cc
  binds_whole (suc n) o (bind x b p e s bs) g ts d f =
      (let us = binds bs ts in
      rw (h.room (o + 1))
      (then_is _ (signed b p (spell e (separator s us)))
      (then_is _ (h.expr e g.0 (separator s us) (divider_calm (first (separator s us)).kind (separator_divides s us)) (omega (arith, f.all)))
      (then_is _ (separated s us) (next bs (binds_whole n (o + 1) bs g.1 ts d (less (omega (arith, grow_phrase e (separator s us), grow_separator s us)) f)))))))
    where
      next : (bs : Binds) → read_binds r n (o + 1) (binds bs ts) ≡ Ok (bs, ts) → by_next (binds_by (read_binds r n (o + 1)) x b p e (Some s)) (binds bs ts) ≡ Ok (bind x b p e s bs, ts)
      next (last_bind y c q a t) i = then_is _ i refl
      next (bind y c q a t cs) i = then_is _ i refl
