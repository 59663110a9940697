-- What was read within the limits can be gone on with within them: expressions, declarations, definitions, labels and what a `with` names.
use Rattle.std.proofs.Common.{◌≡◌, ℕ, zero, suc, ◌+◌, Bool, true, false, List, [], ◌∷◌, ◌++◌, length, take, drop, Option, Some, None, refl, sym, ap, ◌∙◌, append_assoc, length-append, arith}
use Rattle.std.proofs.lemmas.List.{append-nil, take-append-drop, length-map, map-append}
use Rattle.tla_token.specs.declared.place.Place.{Place}
use Rattle.tla_token.specs.Places.{nowhere}
use Rattle.tla_token.specs.Limits.{deepest_expression}
use Rattle.tla_tree.specs.declared.op.Op.TheVariants as op
use Rattle.tla_tree.specs.Tree.{Name}
use Rattle.tla_tree.specs.Lexical.{TokenView, Token}
use Rattle.tla_tree.specs.Lexical as tk
use Rattle.tla_tree.specs.Spelling.{Phrase, spell, spell_all, IsGood, GoodAll, last}
use Rattle.tla_tree.specs.Nesting.{counts, counts_all}
use Rattle.tla_tree.specs.Reader.{Stop, Reader, gives, free}
use Rattle.tla_tree.specs.FirstStop.{Open}
use Rattle.tla_tree.proofs.SpellAhead.{Ahead, held, put_ahead, then_ahead, ahead, ahead_all}
use Rattle.tla_tree.proofs.CountsLaws.{count_one, count_all}
use Rattle.tla_tree.proofs.DeepCounts as counted
use Rattle.tla_tree.proofs.Limited.{told_ok}
use Rattle.tla_tree.proofs.MendedLists.{mended_within}
use Rattle.pcal_tree.specs.GrammarParts.{Separator, by_semicolon, by_comma, maybe_separator, maybe_semicolon, Initial, unset, equals, among, Variables, last_variable, variable, no_section, section, Names, last_name, more_names, names, no_names, some_names, macro_parameters, Parameters, last_parameter, parameter, no_parameters, some_parameters, Heading, plain, applied, heading, Definitions, last_definition, more_definitions, colon, colon_plus, colon_minus, colon_tokens, Binds, last_bind, bind}
use Rattle.pcal_tree.specs.GrammarParts.{name, sign, mark, initial, GoodInitial, variables, GoodVariables, section_tokens, GoodSection, parameters, GoodParameters, procedure_parameters, GoodProcedureParameters, definitions, GoodDefinitions, bind_sign, binds, GoodBinds}
use Rattle.pcal_tree.specs.OpenForms.{here, within, expression_opens, initial_opens, variables_open, section_opens, parameters_open, procedure_parameters_open, definitions_open, binds_open}
use Rattle.pcal_tree.specs.OpenForms as opens
use Rattle.syntax_reading.specs.TokenReaders.{past, limited_parts}
use Rattle.syntax_reading.specs.ReadParts.{semicolon_by, read_semicolon, separator_by, read_separator, among_if, initial_by, read_initial, variables_by, read_variables, section_words, section_by, read_section, names_by, read_names, macro_parameters_by, read_macro_parameters, parameters_by, read_parameters, procedure_parameters_by, read_procedure_parameters, heading_by, read_heading, definitions_by, read_definitions, colon_by, read_colon, binds_by, bind_by, read_binds}
use Rattle.syntax_reading.proofs.Sound.{Any}
use Rattle.syntax_reading.proofs.SoundParts.{SoundParts, parts_sound, semicolon_sound, separator_sound, initial_sound, variables_sound, section_sound, names_sound, macro_parameters_sound, heading_sound, parameters_sound, procedure_parameters_sound, definitions_sound, colon_sound, bind_sound, binds_sound}
use Rattle.syntax_reading.proofs.Aheads.{ahead_semicolon, ahead_maybe, ahead_initial, ahead_variables, ahead_section, ahead_names, ahead_macro, ahead_parameters, ahead_procedure, ahead_heading, ahead_definitions, ahead_colon, ahead_binds}
use Rattle.syntax_reading.proofs.MendParts.{some_name, some_phrase, some_good}
use Rattle.syntax_reading.proofs.Beside.{Sits, sits, sits_on, sits_here, fit_both}
use Rattle.syntax_reading.proofs.BesideParts.{counts_fit, names_plain, named_plain, beside_expr, beside_arguments, beside_subscripts, beside_semicolon, beside_separator, beside_initial, beside_variables, beside_section, beside_names, beside_macro_parameters, beside_parameters, beside_procedure_parameters, beside_heading, beside_definitions, beside_colon, beside_bind_sign, beside_binds}
use Rattle.syntax_reading.proofs.Within.{before, Ending, EndsAt, Part, fits_of, here_filled, ends_gives, ends_refuses, ends_bind, ends_next, ends_stays, ends_past, ends_pick, ends_token, mark_part, name_part, name_within_part}

-- ---- expressions
pub limited_sound : (e : ℕ) → SoundParts (limited_parts e)
limited_sound e = record {
  expr = record { is = λ ts a us i. (parts_sound e).expr.is ts a us (told_ok ((beside_expr e 0 [] sits).is ts) i).0 };
  arguments = record { is = λ ts a us i. (parts_sound e).arguments.is ts a us (told_ok ((beside_arguments e 0 [] sits).is ts) i).0 };
  subscripts = record { is = λ ts a us i. (parts_sound e).subscripts.is ts a us (told_ok ((beside_subscripts e 0 [] sits).is ts) i).0 };
}

fit_taken : (n : ℕ) (ns : List ℕ) → counted.Fit deepest_expression ns → counted.Fit deepest_expression (take n ns)
fit_taken zero ns f = tt
fit_taken (suc n) [] f = tt
fit_taken (suc n) (i ∷ ns) f = (f.0, fit_taken n ns f.1)

long_dropped : (n k : ℕ) (ns : List ℕ) → length ns ≡ n + k → length (drop n ns) ≡ k
long_dropped zero k ns e = omega (arith, e)
long_dropped (suc n) k [] e = absurd (omega (arith, e))
long_dropped (suc n) k (i ∷ ns) e = long_dropped n k ns (omega (arith, e))

-- counts of a whole that fit, up to the tokens that were read
cut_counts : {A : Type 0} {Q : A → Type 0} {put : A → List Token → List Token} (d : ℕ) (y : List Open) → Sits d y → (ns : A → List ℕ) (a : A) → Q a → counted.Fit deepest_expression (ns a) → (read fix ts : List Token) (u : Stop) → ts ≡ read ++ u.1 → ((v : List Token) → put a v ≡ read ++ (fix ++ v))
    → length (ns a) ≡ length (put a []) → Ending Q put y (λ a. y ++ within d (ns a)) ts u
cut_counts {A} {Q} {put} d y s ns a g f read fix ts u p t n =
    (let k = length read in
    let xs = take k (ns a) in
    let zs = drop k (ns a) in
    let all = take-append-drop k (ns a) in
    let m = ap length (t []) in
    let i = length-append read (fix ++ []) in
    let j = length-append fix [] in
    let w = length-map {B = Open} zs (λ (z : ℕ). record { expressions = z; statements = d }) in
    let l = long_dropped k (length fix) (ns a) (omega (arith, n, m, i, j)) in
    record {
      whole = a;
      good = g;
      known = y ++ within d xs;
      more = within d zs;
      counts = ap (λ (z : List ℕ). y ++ within d z) (sym all) ∙ ap (λ (z : List Open). y ++ z) (map-append (λ (z : ℕ). record { expressions = z; statements = d }) xs zs) ∙ sym (append_assoc y (within d xs) (within d zs));
      fit = λ h. fit_both y (within d xs) h (counts_fit d xs (s.is h) (fit_taken k (ns a) f));
      read = read;
      fix = fix;
      long = omega (arith, w, l);
      parts = p;
      tokens = t;
    })

pub expr_part : (e d : ℕ) (y : List Open) → Sits d y → Part IsGood spell y (λ a. y ++ expression_opens d a) (limited_parts e).expr
expr_part e d y s = record {
  sound = (limited_sound e).expr;
  ahead = λ a u. ahead a;
  fits = fits_of (beside_expr e d y s);
  ends = record {
    fill = record { whole = some_phrase; good = some_good; more = here d; counts = refl; fix = spell some_phrase []; long = refl; tokens = λ v. refl };
    is = λ ts u i.
        (let m = (mended_within deepest_expression e 0 deepest_expression (omega arith)).expr 0 free refl ts u i in
        cut_counts d y s (λ a. counts 0 a []) m.whole m.good.0 (m.fits refl [] tt) m.read m.fix ts u m.parts m.tokens (let c = count_one 0 m.whole [] [] in omega (arith, c)));
  };
}

pub arguments_part : (e d : ℕ) (y : List Open) → Sits d y → Part (GoodAll 0) spell_all y (λ a. y ++ within d (counts_all 0 a [])) (limited_parts e).arguments
arguments_part e d y s = record {
  sound = (limited_sound e).arguments;
  ahead = λ a u. ahead_all a;
  fits = fits_of (beside_arguments e d y s);
  ends = record {
    fill = record { whole = last some_phrase; good = some_good; more = here d; counts = refl; fix = spell_all (last some_phrase) []; long = refl; tokens = λ v. refl };
    is = λ ts u i.
        (let m = (mended_within deepest_expression e 0 deepest_expression (omega arith)).phrases 0 ts u i in
        cut_counts d y s (λ a. counts_all 0 a []) m.whole m.good (m.fits refl [] tt) m.read m.fix ts u m.parts m.tokens (let c = count_all 0 m.whole [] [] in omega (arith, c)));
  };
}

pub subscripts_part : (e d : ℕ) (y : List Open) → Sits d y → Part (GoodAll 0) spell_all y (λ a. y ++ within d (counts_all 1 a [])) (limited_parts e).subscripts
subscripts_part e d y s = record {
  sound = (limited_sound e).subscripts;
  ahead = λ a u. ahead_all a;
  fits = fits_of (beside_subscripts e d y s);
  ends = record {
    fill = record { whole = last some_phrase; good = some_good; more = within d (1 ∷ []); counts = refl; fix = spell_all (last some_phrase) []; long = refl; tokens = λ v. refl };
    is = λ ts u i.
        (let m = (mended_within deepest_expression e 1 199 refl).phrases 0 ts u i in
        cut_counts d y s (λ a. counts_all 1 a []) m.whole m.good (m.fits refl [] tt) m.read m.fix ts u m.parts m.tokens (let c = count_all 1 m.whole [] [] in omega (arith, c)));
  };
}

-- ---- `;` and `,`
pub semicolon_part : (y : List Open) → Part Any maybe_semicolon y (λ s. y ++ opens.plain 0 (maybe_semicolon s)) read_semicolon
semicolon_part y = record { sound = semicolon_sound; ahead = λ a u. ahead_semicolon a; fits = fits_of (beside_semicolon y); ends = ends_next (here_filled None tt (λ ts. refl) (append-nil y)) by }
  where
    by : (p : Place) (k : TokenView) → EndsAt p k before Any maybe_semicolon y (λ s. y ++ opens.plain 0 (maybe_semicolon s)) (semicolon_by p k)
    by p (tk.mark tk.semicolon) = ends_past 0 sits refl (ends_gives (Some p) tt (λ ts. refl) refl)
    by p k = ends_stays (ends_gives None tt (λ ts. refl) (append-nil y))

pub separator_part : (d : ℕ) (y : List Open) → Sits d y → Part Any maybe_separator y (λ s. y ++ opens.plain d (maybe_separator s)) read_separator
separator_part d y i = record { sound = separator_sound; ahead = λ a u. ahead_maybe a; fits = fits_of (beside_separator d y i); ends = ends_next (here_filled None tt (λ ts. refl) (append-nil y)) by }
  where
    by : (p : Place) (k : TokenView) → EndsAt p k before Any maybe_separator y (λ s. y ++ opens.plain d (maybe_separator s)) (separator_by p k)
    by p (tk.mark tk.semicolon) = ends_past d i refl (ends_gives (Some (by_semicolon p)) tt (λ ts. refl) refl)
    by p (tk.mark tk.comma) = ends_past d i refl (ends_gives (Some (by_comma p)) tt (λ ts. refl) refl)
    by p k = ends_stays (ends_gives None tt (λ ts. refl) (append-nil y))

-- ---- declarations
by_among : (e : ℕ) (b : Bool) (y : List Open) (p : Place) → EndsAt p (tk.sign op.In) before (GoodInitial b) initial y (λ i. y ++ initial_opens i) (among_if b (limited_parts e) p)
by_among e true y p = ends_past 0 sits refl (ends_bind (put_ahead held) (expr_part e 0 (y ++ here 0) sits) (λ a g h. ends_gives (among p a) (refl, g) (λ ts. refl) (simp append_assoc refl)))
by_among e false y p = ends_stays (ends_gives unset tt (λ ts. refl) (append-nil y))

pub initial_part : (e : ℕ) (b : Bool) (y : List Open) → Part (GoodInitial b) initial y (λ i. y ++ initial_opens i) (read_initial b (limited_parts e))
initial_part e b y = record { sound = initial_sound (limited_parts e) (limited_sound e) b; ahead = λ a u. ahead_initial a; fits = fits_of (beside_initial e b y); ends = ends_next (here_filled unset tt (λ ts. refl) (append-nil y)) by }
  where
    by : (p : Place) (k : TokenView) → EndsAt p k before (GoodInitial b) initial y (λ i. y ++ initial_opens i) (initial_by b (limited_parts e) p k)
    by p (tk.sign op.Equal) = ends_past 0 sits refl (ends_bind (put_ahead held) (expr_part e 0 (y ++ here 0) sits) (λ a g h. ends_gives (equals p a) g (λ ts. refl) (simp append_assoc refl)))
    by p (tk.sign op.In) = by_among e b y p
    by p k = ends_stays (ends_gives unset tt (λ ts. refl) (append-nil y))

abbrev nought : Open
nought = record { expressions = 0; statements = 0 }

by_variables : (b : Bool) (r : Reader Variables) → ((y : List Open) → Part (GoodVariables b) variables y (λ vs. y ++ variables_open vs) r) → (y : List Open) (x : Name) (i : Initial) → GoodInitial b i → (s : Option Separator) → Ahead (λ ts. name x (initial i (maybe_separator s ts))) → (p : Place) (k : TokenView)
    → EndsAt p k (λ ts. name x (initial i (maybe_separator s ts))) (GoodVariables b) variables (y ++ here 0 ++ initial_opens i ++ opens.plain 0 (maybe_separator s)) (λ vs. y ++ variables_open vs) (variables_by r x i s p k)
by_variables b r n y x i g (Some (by_semicolon t)) h p (tk.word z) = ends_stays (ends_bind h (n (y ++ here 0 ++ initial_opens i ++ here 0)) (λ vs f j. ends_gives (variable x i (by_semicolon t) vs) (g, f) (λ ts. refl) (simp append_assoc refl)))
by_variables b r n y x i g (Some (by_comma t)) h p (tk.word z) = ends_stays (ends_bind h (n (y ++ here 0 ++ initial_opens i ++ here 0)) (λ vs f j. ends_gives (variable x i (by_comma t) vs) (g, f) (λ ts. refl) (simp append_assoc refl)))
by_variables b r n y x i g s h p k = ends_stays (ends_gives (last_variable x i s) g (λ ts. refl) (simp append_assoc refl))

variables_part : (e : ℕ) (b : Bool) (n : ℕ) (y : List Open) → Part (GoodVariables b) variables y (λ vs. y ++ variables_open vs) (read_variables b (limited_parts e) n)
variables_part e b zero y = record {
  sound = variables_sound (limited_parts e) (limited_sound e) b zero;
  ahead = λ a u. ahead_variables a;
  fits = fits_of (beside_variables e b zero y);
  ends = ends_refuses held (record { whole = last_variable some_name unset None; good = tt; more = here 0; counts = refl; fix = name some_name []; long = refl; tokens = λ v. refl });
}
variables_part e b (suc n) y = record {
  sound = variables_sound (limited_parts e) (limited_sound e) b (suc n);
  ahead = λ a u. ahead_variables a;
  fits = fits_of (beside_variables e b (suc n) y);
  ends = ends_bind held (name_part 0 sits) (λ x u hx. ends_bind hx (initial_part e b (y ++ here 0)) (λ i g hi. ends_bind hi (separator_part 0 (y ++ here 0 ++ initial_opens i) sits) (λ s v hs.
      ends_next (here_filled (last_variable x i s) g (λ ts. refl) (simp append_assoc refl)) (by_variables b (read_variables b (limited_parts e) n) (variables_part e b n) y x i g s hs))));
}

pub section_part : (e : ℕ) (b : Bool) (n : ℕ) (y : List Open) → Part (GoodSection b) section_tokens y (λ vs. y ++ section_opens vs) (read_section b (limited_parts e) n)
section_part e b n y = record { sound = section_sound (limited_parts e) (limited_sound e) b n; ahead = λ a u. ahead_section a; fits = fits_of (beside_section e b n y); ends = ends_next (here_filled no_section tt (λ ts. refl) (append-nil y)) by }
  where
    by : (p : Place) (k : TokenView) → EndsAt p k before (GoodSection b) section_tokens y (λ vs. y ++ section_opens vs) (section_by b (limited_parts e) n p k)
    by p (tk.reserved w) =
        ends_pick w (section_words b (limited_parts e) n p) (gives no_section) (
          ends_past 0 sits refl (ends_bind (put_ahead held) (variables_part e b n (y ++ here 0)) (λ vs g i. ends_gives (section p false vs) g (λ ts. refl) (simp append_assoc refl))),
          (ends_past 0 sits refl (ends_bind (put_ahead held) (variables_part e b n (y ++ here 0)) (λ vs g i. ends_gives (section p true vs) g (λ ts. refl) (simp append_assoc refl))), tt),
        )
        (ends_stays (ends_gives no_section tt (λ ts. refl) (append-nil y)))
    by p k = ends_stays (ends_gives no_section tt (λ ts. refl) (append-nil y))

-- ---- parameters and definitions
by_names : (r : Reader Names) → ((y : List Open) → Part Any names y (λ xs. y ++ opens.plain 0 (names xs)) r) → (y : List Open) (x : Name) → Ahead (name x) → (p : Place) (k : TokenView) → EndsAt p k (name x) Any names (y ++ here 0) (λ xs. y ++ opens.plain 0 (names xs)) (names_by r x p k)
by_names r n y x h p (tk.mark tk.comma) = ends_past 0 sits refl (ends_bind (then_ahead h (put_ahead held)) (n (y ++ here 0 ++ here 0)) (λ xs u i. ends_gives (more_names x p xs) tt (λ ts. refl) (simp append_assoc refl)))
by_names r n y x h p k = ends_stays (ends_gives (last_name x) tt (λ ts. refl) refl)

names_part : (n : ℕ) (y : List Open) → Part Any names y (λ xs. y ++ opens.plain 0 (names xs)) (read_names n)
names_part zero y = record { sound = names_sound zero; ahead = λ a u. ahead_names a; fits = fits_of (beside_names zero y); ends = ends_refuses held (record { whole = last_name some_name; good = tt; more = here 0; counts = refl; fix = name some_name []; long = refl; tokens = λ v. refl }) }
names_part (suc n) y = record {
  sound = names_sound (suc n);
  ahead = λ a u. ahead_names a;
  fits = fits_of (beside_names (suc n) y);
  ends = ends_bind held (name_part 0 sits) (λ x u hx. ends_next (here_filled (last_name x) tt (λ ts. refl) refl) (by_names (read_names n) (names_part n) y x hx));
}

pub macro_parameters_part : (n : ℕ) (y : List Open) → Part Any macro_parameters y (λ ps. y ++ opens.plain 0 (macro_parameters ps)) (read_macro_parameters n)
macro_parameters_part n y = record {
  sound = macro_parameters_sound n;
  ahead = λ a u. ahead_macro a;
  fits = fits_of (beside_macro_parameters n y);
  ends = ends_bind held (mark_part 0 sits tk.open_bracket) (λ p u hx. ends_next (record { whole = no_names p nowhere; good = tt; more = here 0; counts = simp append_assoc refl; fix = mark nowhere tk.close_bracket []; long = refl; tokens = λ v. refl }) (by p hx));
}
  where
    by : (p : Place) → Ahead (mark p tk.open_bracket) → (q : Place) (k : TokenView) → EndsAt q k (mark p tk.open_bracket) Any macro_parameters (y ++ here 0) (λ ps. y ++ opens.plain 0 (macro_parameters ps)) (macro_parameters_by n p q k)
    by p hx q (tk.mark tk.close_bracket) = ends_past 0 sits refl (ends_gives (no_names p q) tt (λ ts. refl) (simp append_assoc refl))
    by p hx q k = ends_stays (ends_bind hx (names_part n (y ++ here 0)) (λ xs u h. ends_bind h (mark_part 0 sits tk.close_bracket) (λ r v i. ends_gives (some_names p xs r) tt (λ ts. refl) (named_plain y nought xs _))))

by_parameters : (r : Reader Parameters) → ((y : List Open) → Part GoodParameters parameters y (λ xs. y ++ parameters_open xs) r) → (y : List Open) (x : Name) (i : Initial) → GoodInitial false i → Ahead (λ ts. name x (initial i ts)) → (p : Place) (k : TokenView)
    → EndsAt p k (λ ts. name x (initial i ts)) GoodParameters parameters (y ++ here 0 ++ initial_opens i) (λ xs. y ++ parameters_open xs) (parameters_by r x i p k)
by_parameters r n y x i g h p (tk.mark tk.comma) = ends_past 0 sits refl (ends_bind (then_ahead h (put_ahead held)) (n (y ++ here 0 ++ initial_opens i ++ here 0)) (λ xs f j. ends_gives (parameter x i p xs) (g, f) (λ ts. refl) (simp append_assoc refl)))
by_parameters r n y x i g h p k = ends_stays (ends_gives (last_parameter x i) g (λ ts. refl) (simp append_assoc refl))

parameters_part : (e n : ℕ) (y : List Open) → Part GoodParameters parameters y (λ xs. y ++ parameters_open xs) (read_parameters (limited_parts e) n)
parameters_part e zero y = record {
  sound = parameters_sound (limited_parts e) (limited_sound e) zero;
  ahead = λ a u. ahead_parameters a;
  fits = fits_of (beside_parameters e zero y);
  ends = ends_refuses held (record { whole = last_parameter some_name unset; good = tt; more = here 0; counts = refl; fix = name some_name []; long = refl; tokens = λ v. refl });
}
parameters_part e (suc n) y = record {
  sound = parameters_sound (limited_parts e) (limited_sound e) (suc n);
  ahead = λ a u. ahead_parameters a;
  fits = fits_of (beside_parameters e (suc n) y);
  ends = ends_bind held (name_part 0 sits) (λ x u hx. ends_bind hx (initial_part e false (y ++ here 0)) (λ i g hi. ends_next (here_filled (last_parameter x i) g (λ ts. refl) (simp append_assoc refl)) (by_parameters (read_parameters (limited_parts e) n) (parameters_part e n) y x i g hi)));
}

pub procedure_parameters_part : (e n : ℕ) (y : List Open) → Part GoodProcedureParameters procedure_parameters y (λ ps. y ++ procedure_parameters_open ps) (read_procedure_parameters (limited_parts e) n)
procedure_parameters_part e n y = record {
  sound = procedure_parameters_sound (limited_parts e) (limited_sound e) n;
  ahead = λ a u. ahead_procedure a;
  fits = fits_of (beside_procedure_parameters e n y);
  ends = ends_bind held (mark_part 0 sits tk.open_bracket) (λ p u hx. ends_next (record { whole = no_parameters p nowhere; good = tt; more = here 0; counts = simp append_assoc refl; fix = mark nowhere tk.close_bracket []; long = refl; tokens = λ v. refl }) (by p hx));
}
  where
    by : (p : Place) → Ahead (mark p tk.open_bracket) → (q : Place) (k : TokenView) → EndsAt q k (mark p tk.open_bracket) GoodProcedureParameters procedure_parameters (y ++ here 0) (λ ps. y ++ procedure_parameters_open ps) (procedure_parameters_by (limited_parts e) n p q k)
    by p hx q (tk.mark tk.close_bracket) = ends_past 0 sits refl (ends_gives (no_parameters p q) tt (λ ts. refl) (simp append_assoc refl))
    by p hx q k = ends_stays (ends_bind hx (parameters_part e n (y ++ here 0)) (λ xs g h. ends_bind h (mark_part 0 sits tk.close_bracket) (λ r v i. ends_gives (some_parameters p xs r) g (λ ts. refl) (simp append_assoc refl))))

heading_part : (n : ℕ) (y : List Open) → Part Any heading y (λ h. y ++ opens.plain 0 (heading h)) (read_heading n)
heading_part n y = record { sound = heading_sound n; ahead = λ a u. ahead_heading a; fits = fits_of (beside_heading n y); ends = ends_bind held (name_part 0 sits) (λ x u hx. ends_next (here_filled (plain x) tt (λ ts. refl) refl) (by x hx)) }
  where
    by : (x : Name) → Ahead (name x) → (p : Place) (k : TokenView) → EndsAt p k (name x) Any heading (y ++ here 0) (λ h. y ++ opens.plain 0 (heading h)) (heading_by n x p k)
    by x hx p (tk.mark tk.open_bracket) =
        ends_past 0 sits refl (ends_bind (then_ahead hx (put_ahead held)) (names_part n (y ++ here 0 ++ here 0)) (λ xs u h. ends_bind h (mark_part 0 sits tk.close_bracket) (λ q v i. ends_gives (applied x p xs q) tt (λ ts. refl)
        (rw (names_plain 0 xs (tk.token q (tk.mark tk.close_bracket) ∷ [])) (simp append_assoc refl)))))
    by x hx p k = ends_stays (ends_gives (plain x) tt (λ ts. refl) refl)

by_definitions : (r : Reader Definitions) → ((y : List Open) → Part GoodDefinitions definitions y (λ ds. y ++ definitions_open ds) r) → (y : List Open) (x : Heading) (p : Place) (a : Phrase) → IsGood a → Ahead (λ ts. heading x (mark p tk.defines (spell a ts))) → (q : Place) (k : TokenView)
    → EndsAt q k (λ ts. heading x (mark p tk.defines (spell a ts))) GoodDefinitions definitions (y ++ opens.plain 0 (heading x) ++ here 0 ++ expression_opens 0 a) (λ ds. y ++ definitions_open ds) (definitions_by r x p a q k)
by_definitions r n y x p a g h q (tk.word w) = ends_stays (ends_bind h (n (y ++ opens.plain 0 (heading x) ++ here 0 ++ expression_opens 0 a)) (λ ds f j. ends_gives (more_definitions x p a ds) (g, f) (λ ts. refl) (simp append_assoc refl)))
by_definitions r n y x p a g h q k = ends_stays (ends_gives (last_definition x p a) g (λ ts. refl) (simp append_assoc refl))

pub definitions_part : (e n : ℕ) (y : List Open) → Part GoodDefinitions definitions y (λ ds. y ++ definitions_open ds) (read_definitions (limited_parts e) n)
definitions_part e zero y = record {
  sound = definitions_sound (limited_parts e) (limited_sound e) zero;
  ahead = λ a u. ahead_definitions a;
  fits = fits_of (beside_definitions e zero y);
  ends = ends_refuses held (record { whole = last_definition (plain some_name) nowhere some_phrase; good = some_good; more = here 0 ++ here 0 ++ here 0; counts = refl; fix = name some_name (mark nowhere tk.defines (spell some_phrase [])); long = refl; tokens = λ v. refl });
}
definitions_part e (suc n) y = record {
  sound = definitions_sound (limited_parts e) (limited_sound e) (suc n);
  ahead = λ a u. ahead_definitions a;
  fits = fits_of (beside_definitions e (suc n) y);
  ends = ends_bind held (heading_part n y) (λ x u hx. ends_bind hx (mark_part 0 sits tk.defines) (λ p v hp. ends_bind hp (expr_part e 0 (y ++ opens.plain 0 (heading x) ++ here 0) sits) (λ a g he.
      ends_next (here_filled (last_definition x p a) g (λ ts. refl) (simp append_assoc refl)) (by_definitions (read_definitions (limited_parts e) n) (definitions_part e n) y x p a g he))));
}

-- ---- after the name of a label
pub colon_part : (d : ℕ) (y : List Open) → Sits d y → Part Any colon_tokens y (λ c. y ++ opens.plain d (colon_tokens c)) read_colon
colon_part d y s = record { sound = colon_sound; ahead = λ a u. ahead_colon a; fits = fits_of (beside_colon d y s); ends = ends_bind held (mark_part d s tk.colon) (λ p u hx. ends_next (here_filled (colon p) tt (λ ts. refl) refl) (by p)) }
  where
    by : (p q : Place) (k : TokenView) → EndsAt q k (mark p tk.colon) Any colon_tokens (y ++ here d) (λ c. y ++ opens.plain d (colon_tokens c)) (colon_by p q k)
    by p q (tk.sign op.Plus) = ends_past d (sits_on (here d) s) refl (ends_gives (colon_plus p q) tt (λ ts. refl) (simp append_assoc refl))
    by p q (tk.sign op.Minus) = ends_past d (sits_on (here d) s) refl (ends_gives (colon_minus p q) tt (λ ts. refl) (simp append_assoc refl))
    by p q k = ends_stays (ends_gives (colon p) tt (λ ts. refl) refl)

-- ---- what a `with` names
pub bind_part : (d : ℕ) (y : List Open) → Sits d y → Part Any (λ b ts. sign b.1 (bind_sign b.0) ts) y (λ b. y ++ here d) (past bind_by)
bind_part d y s = record { sound = bind_sound; ahead = λ a u. put_ahead held; fits = fits_of (beside_bind_sign d y s); ends = ends_token d s bind_by (λ b. tk.token b.1 (tk.sign_of (bind_sign b.0))) (true, nowhere) }

by_binds : (d : ℕ) (r : Reader Binds) → ((y : List Open) → Part GoodBinds binds y (λ bs. y ++ binds_open (d + 1) bs) r) → (y : List Open) (x : Name) (b : Bool) (q : Place) (a : Phrase) → IsGood a → (s : Option Separator) → Ahead (λ ts. name x (sign q (bind_sign b) (spell a (maybe_separator s ts)))) → (p : Place) (k : TokenView)
    → EndsAt p k (λ ts. name x (sign q (bind_sign b) (spell a (maybe_separator s ts)))) GoodBinds binds (y ++ here (d + 1) ++ here (d + 1) ++ expression_opens (d + 1) a ++ opens.plain (d + 1) (maybe_separator s)) (λ bs. y ++ binds_open d bs) (binds_by r x b q a s p k)
by_binds d r n y x b q a g (Some (by_semicolon t)) h p (tk.word z) = ends_stays (ends_bind h (n (y ++ here (d + 1) ++ here (d + 1) ++ expression_opens (d + 1) a ++ here (d + 1))) (λ bs f j. ends_gives (bind x b q a (by_semicolon t) bs) (g, f) (λ ts. refl) (simp append_assoc refl)))
by_binds d r n y x b q a g (Some (by_comma t)) h p (tk.word z) = ends_stays (ends_bind h (n (y ++ here (d + 1) ++ here (d + 1) ++ expression_opens (d + 1) a ++ here (d + 1))) (λ bs f j. ends_gives (bind x b q a (by_comma t) bs) (g, f) (λ ts. refl) (simp append_assoc refl)))
by_binds d r n y x b q a g s h p k = ends_stays (ends_gives (last_bind x b q a s) g (λ ts. refl) (simp append_assoc refl))

pub binds_part : (e n d : ℕ) (y : List Open) → Part GoodBinds binds y (λ bs. y ++ binds_open d bs) (read_binds (limited_parts e) n d)
binds_part e zero d y = record {
  sound = binds_sound (limited_parts e) (limited_sound e) zero d;
  ahead = λ a u. ahead_binds a;
  fits = fits_of (beside_binds e zero d y);
  ends = ends_refuses held (record { whole = last_bind some_name false nowhere some_phrase None; good = some_good; more = here (d + 1) ++ here (d + 1) ++ here (d + 1); counts = refl; fix = name some_name (sign nowhere op.Equal (spell some_phrase [])); long = refl; tokens = λ v. refl });
}
binds_part e (suc n) d y =
    (let s = sits_here (d + 1) y in
    let t = sits_on (here (d + 1)) s in
    record {
      sound = binds_sound (limited_parts e) (limited_sound e) (suc n) d;
      ahead = λ a u. ahead_binds a;
      fits = fits_of (beside_binds e (suc n) d y);
      ends = ends_bind held (name_within_part (d + 1)) (λ x u hx. ends_bind hx (bind_part (d + 1) (y ++ here (d + 1)) s) (λ b v hb. ends_bind hb (expr_part e (d + 1) (y ++ here (d + 1) ++ here (d + 1)) t) (λ a g he.
          ends_bind he (separator_part (d + 1) (y ++ here (d + 1) ++ here (d + 1) ++ expression_opens (d + 1) a) (sits_on (expression_opens (d + 1) a) t)) (λ w i hs.
          ends_next (here_filled (last_bind x b.0 b.1 a w) g (λ ts. refl) (simp append_assoc refl)) (by_binds d (read_binds (limited_parts e) n (d + 1)) (binds_part e n (d + 1)) y x b.0 b.1 a g w hs)))));
    })
