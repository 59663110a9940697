-- What stands before a refused token can be gone on with: declarations, definitions, labels and what a `with` names.
use Rattle.std.proofs.Common.{◌≡◌, ◌⊎◌, ℕ, zero, suc, ◌+◌, ◌*◌, ◌≤◌, Bool, true, false, List, [], ◌∷◌, ◌++◌, length, Option, Some, None, Err, inl, inr, refl, ap, ◌∙◌, arith, length-append, append_assoc}
use Rattle.tla_token.specs.declared.place.Place.{Place}
use Rattle.tla_token.specs.Places.{nowhere}
use Rattle.tla_token.specs.declared.rule.Rule.TheVariants.{Syntax}
use Rattle.tla_tree.specs.declared.op.Op.TheVariants as op
use Rattle.tla_tree.specs.Tree.{Name}
use Rattle.tla_tree.specs.Lexical.{TokenView, Token}
use Rattle.tla_tree.specs.Lexical as tk
use Rattle.tla_tree.specs.Spelling.{Phrase, spell, spell_all, IsGood, GoodAll}
use Rattle.tla_tree.specs.Reader.{Out, Stop, gives, free, readers}
use Rattle.tla_tree.specs.Spelling.{last}
use Rattle.tla_tree.proofs.Mended.{some, right_after}
use Rattle.tla_tree.proofs.Alike.{rest_of}
use Rattle.tla_tree.proofs.Limited.{Limited, Plain, Past, told_err}
use Rattle.tla_tree.proofs.LimitedAll.{unlimited}
use Rattle.tla_tree.proofs.MendedLists.{mended}
use Rattle.tla_tree.proofs.MendedCounts.{Cut, Heads}
use Rattle.tla_tree.specs.Wanted.{an_x, Wants, completing}
use Rattle.tla_tree.specs.NeedsLists.{needs}
use Rattle.tla_tree.specs.Nesting.{counts, counts_all}
use Rattle.tla_tree.specs.FirstStop.{Open}
use Rattle.std.proofs.lemmas.List.{append-nil, map-append, length-map}
use Rattle.std.specs.List.{flat_map}
use Rattle.syntax_reading.proofs.BesideParts.{names_plain}
use Rattle.tla_tree.proofs.SpellAhead.{Ahead, held, put_ahead, then_ahead, ahead, ahead_all}
use Rattle.pcal_tree.specs.GrammarParts.{Separator, by_semicolon, by_comma, Initial, unset, equals, among, last_variable, variable, no_section, section, Names, last_name, more_names, no_names, some_names, last_parameter, parameter, no_parameters, some_parameters, Heading, plain, applied, last_definition, more_definitions, colon, colon_plus, colon_minus, last_bind, bind}
use Rattle.pcal_tree.specs.GrammarParts.{name, sign, mark, maybe_semicolon, maybe_separator, initial, GoodInitial, variables, GoodVariables, section_tokens, GoodSection, names, macro_parameters, parameters, GoodParameters, procedure_parameters, GoodProcedureParameters, heading, definitions, GoodDefinitions, colon_tokens, bind_sign, binds, GoodBinds}
use Rattle.pcal_tree.specs.OpenForms as form
use Rattle.pcal_tree.specs.OpenForms.{within, expression_opens, initial_opens, variables_open, section_opens, parameters_open, procedure_parameters_open, definitions_open, binds_open}
use Rattle.syntax_reading.specs.TokenReaders.{past, Parts, parts_of}
use Rattle.syntax_reading.specs.Missing.{all_of, an_identifier, an_equal, a_number, PartsMiss, parts_miss}
use Rattle.syntax_reading.specs.MissingParts.{missing_after_separator, missing_after_comma, missing_after_definition, missing_among, missing_initial_by, missing_initial, missing_variables, missing_section_words, missing_section_by, missing_section, missing_names, a_close, no_list, missing_macro_parameters_by, missing_macro_parameters, missing_parameters, missing_procedure_parameters_by, missing_procedure_parameters, missing_heading_by, missing_heading, a_meaning, missing_definitions, missing_colon, a_value, missing_binds}
use Rattle.syntax_reading.specs.ReadParts.{semicolon_by, read_semicolon, separator_by, read_separator, among_if, initial_by, read_initial, variables_by, read_variables, section_words, section_by, read_section, names_by, read_names, macro_parameters_by, read_macro_parameters, parameters_by, read_parameters, procedure_parameters_by, read_procedure_parameters, heading_by, read_heading, definitions_by, read_definitions, colon_by, read_colon, binds_by, bind_by, read_binds}
use Rattle.syntax_reading.proofs.Sound.{here, Any}
use Rattle.syntax_reading.proofs.SoundParts.{SoundParts, parts_sound, semicolon_sound, separator_sound, initial_sound, variables_sound, section_sound, names_sound, macro_parameters_sound, heading_sound, parameters_sound, procedure_parameters_sound, definitions_sound, colon_sound, bind_sound, binds_sound}
use Rattle.syntax_reading.proofs.Aheads.{ahead_semicolon, ahead_maybe, ahead_initial, ahead_variables, ahead_section, ahead_names, ahead_macro, ahead_parameters, ahead_procedure, ahead_heading, ahead_definitions, ahead_colon, ahead_binds}
use Rattle.syntax_reading.proofs.Mends.{Suffice, none, Mend, Fill, MendsAt, IsPart, filled, mends_gives, mends_give, mends_done, mends_refuses, mends_bind, mends_next, mends_stays, mends_past, mends_pick, token_mends, part_mark, part_name, part_name_within}

abbrev pub some_name : Name
some_name = record { place = nowhere; word = an_x }

abbrev pub some_phrase : Phrase
some_phrase = some 0

pub some_good : IsGood some_phrase
some_good = right_after 0

-- the readers of expressions, where so many forms of statements are open
pub record MendsParts (m : Parts) (w : PartsMiss) : Type 0 where
  pub sound : SoundParts m
  pub room : (d : ℕ) → m.room d ≡ true
  pub expr : (d : ℕ) → IsPart IsGood spell (expression_opens d) d 1 (a_number []) w.expr m.expr
  pub arguments : (d : ℕ) → IsPart (GoodAll 0) spell_all (λ xs. within d (counts_all 0 xs [])) d 1 (a_number []) w.arguments m.arguments
  pub subscripts : (d : ℕ) → IsPart (GoodAll 0) spell_all (λ xs. within d (counts_all 1 xs [])) d 1 (a_number []) w.subscripts m.subscripts

-- without a limit nothing is too deep
rule_beside : {A : Type 0} {F : Type 0} {L : ℕ → ℕ → Type 0} {G : A → Type 0} {M : A → ℕ → ℕ → Type 0} {ts : List Token} {o : Out A} {u : Stop} → Limited F L G M ts o o → o ≡ Err u → u.0 ≡ Syntax
rule_beside {A} {F} {L} {G} {M} {ts} {o} {u} h e = by (told_err h e)
  where
    by : Plain u o ⊎ Past M u o → u.0 ≡ Syntax
    by (inl p) = p.0
    by (inr (t, us, d, s, w, late)) =
        (let n = ap length (w.1 ∙ ap (λ (v : List Token). w.0 ++ v) (ap rest_of e ∙ s)) ∙ length-append w.0 (t ∷ us) in
        absurd (omega (arith, n)))

-- ---- from expressions, whose counts are those of forms of expressions
-- as many are enough where forms of statements are counted too
suffice_counts : (d base l : ℕ) (ns : List ℕ) → (ns ≡ []) ⊎ ((m : ℕ) × Heads m ns × (l + 16 * base ≤ 16 * m + 1)) → Suffice d 1 (within d ns) l
suffice_counts d base l [] h = tt
suffice_counts d base l (n ∷ ns) (inl e) = absurd cc
suffice_counts d base l (n ∷ ns) (inr (m, h, k)) = omega (arith, h, k)

module _ {A : Type 0} (d base : ℕ) (y : ℕ → A → List ℕ → List ℕ) (Q : A → Type 0) (put : A → List Token → List Token) where
  abbrev counts_of : A → List Open
  counts_of a = within d (y base a [])

  -- what completes an expression has so many counts
  cut_mends : {ts : List Token} {u : Stop} (ws : Wants) (a : A) → Q a → u.0 ≡ Syntax → (read fix : List Token) → ts ≡ read ++ u.1 → ((v : List Token) → put a v ≡ read ++ (fix ++ v)) → fix ≡ completing ws → Cut (y base a) base 1 fix → Mend Q put counts_of none d 1 (completing ws) ts u
  cut_mends {ts} {u} ws a g r read fix s t e k = record {
    rule = r;
    read = read;
    parts = s;
    front = within d (k.front []);
    fill = record {
      whole = a;
      good = g;
      fix = fix;
      tokens = t;
      given = append-nil fix ∙ e;
      back = within d (k.back []);
      opens = ap (within d) (k.splits [] ∙ k.is_front.is [] (k.back [])) ∙ map-append (λ (n : ℕ). record { expressions = n; statements = d }) (k.front []) (k.back []);
      long = (let n = k.long [] in length-map {B = Open} (k.back []) (λ (n : ℕ). record { expressions = n; statements = d }) ∙ omega (arith, n));
      enough = suffice_counts d base (length (completing ws)) (k.back []) (by k.enough);
    };
  }
    where
      by : ((fix ≡ []) × ((u : List ℕ) → k.back u ≡ u)) ⊎ ((m : ℕ) × ((u : List ℕ) → Heads m (k.back u)) × (length fix + 16 * base ≤ 16 * m + 1)) → (k.back [] ≡ []) ⊎ ((m : ℕ) × Heads m (k.back []) × (length (completing ws) + 16 * base ≤ 16 * m + 1))
      by (inl (z, same)) = inl (same [])
      by (inr (m, h, less)) = inr (m, h [], (let j = ap length e in omega (arith, less, j)))

phrase_fill : (d : ℕ) → Fill here [] IsGood spell (expression_opens d) none d 1 (a_number [])
phrase_fill d = record { whole = some_phrase; good = some_good; fix = a_number []; tokens = λ v. refl; given = refl; back = expression_opens d some_phrase; opens = refl; long = refl; enough = omega arith }

phrases_fill : (d base : ℕ) → Fill here [] (GoodAll 0) spell_all (λ xs. within d (counts_all base xs [])) none d 1 (a_number [])
phrases_fill d base = record { whole = last some_phrase; good = some_good; fix = a_number []; tokens = λ v. refl; given = refl; back = within d (counts_all base (last some_phrase) []); opens = refl; long = refl; enough = omega arith }

pub parts_mend : (n : ℕ) → MendsParts (parts_of (readers n None)) (parts_miss n)
parts_mend n =
    let s = parts_sound n in
    record {
      sound = s;
      room = λ d. refl;
      expr = λ d. record {
        sound = s.expr;
        ahead = λ a u. ahead a;
        mends = record {
          fill = phrase_fill d;
          is = λ ts u e. (let m = (mended 0 n 0).expr 0 free refl ts u e in cut_mends d 0 counts IsGood spell ((needs n).expr 0 free ts) m.whole m.good.0 (rule_beside ((unlimited true 0 n 0).expr 0 free refl (λ s. s) held ts) e) m.read m.fix m.parts m.tokens (m.given refl) (m.few 0));
        };
      };
      arguments = λ d. record { sound = s.arguments; ahead = λ a u. ahead_all a; mends = record { fill = phrases_fill d 0; is = λ ts u e. row_mends d 0 ts u e } };
      subscripts = λ d. record { sound = s.subscripts; ahead = λ a u. ahead_all a; mends = record { fill = phrases_fill d 1; is = λ ts u e. row_mends d 1 ts u e } };
    }
  where
    row_mends : (d base : ℕ) (ts : List Token) (u : Stop) → (readers n None).phrases 0 ts ≡ Err u → Mend (GoodAll 0) spell_all (λ xs. within d (counts_all base xs [])) none d 1 (completing ((needs n).phrases 0 ts)) ts u
    row_mends d base ts u e = (let m = (mended 0 n 0).phrases 0 ts u e in cut_mends d base counts_all (GoodAll 0) spell_all ((needs n).phrases 0 ts) m.whole m.good (rule_beside ((unlimited true 0 n 0).phrases 0 (λ s. s) held ts) e) m.read m.fix m.parts m.tokens (m.given refl) (m.few base))

-- ---- `;` and `,`
by_semicolon_mends : (d : ℕ) (p : Place) (k : TokenView) → MendsAt p k here [] Any maybe_semicolon (λ s. form.plain d (maybe_semicolon s)) none d 0 (all_of []) (semicolon_by p k)
by_semicolon_mends d p (tk.mark tk.semicolon) = mends_done (form.here d) (Some p) refl tt (λ ts. refl) refl
by_semicolon_mends d p k = mends_stays (mends_gives None tt (λ ts. refl) refl)

pub part_semicolon : (d : ℕ) → IsPart Any maybe_semicolon (λ s. form.plain d (maybe_semicolon s)) d 0 [] (all_of []) read_semicolon
part_semicolon d = record { sound = semicolon_sound; ahead = λ a u. ahead_semicolon a; mends = mends_next (filled None tt (λ ts. refl) refl) (by_semicolon_mends d) }

by_separator_mends : (d : ℕ) (p : Place) (k : TokenView) → MendsAt p k here [] Any maybe_separator (λ s. form.plain d (maybe_separator s)) none d 0 (all_of []) (separator_by p k)
by_separator_mends d p (tk.mark tk.semicolon) = mends_done (form.here d) (Some (by_semicolon p)) refl tt (λ ts. refl) refl
by_separator_mends d p (tk.mark tk.comma) = mends_done (form.here d) (Some (by_comma p)) refl tt (λ ts. refl) refl
by_separator_mends d p k = mends_stays (mends_gives None tt (λ ts. refl) refl)

part_separator : (d : ℕ) → IsPart Any maybe_separator (λ s. form.plain d (maybe_separator s)) d 0 [] (all_of []) read_separator
part_separator d = record { sound = separator_sound; ahead = λ a u. ahead_maybe a; mends = mends_next (filled None tt (λ ts. refl) refl) (by_separator_mends d) }

-- ---- lists of names
abbrev names_open : Names → List Open
names_open xs = form.plain 0 (names xs)

by_names_mends : (n : ℕ) → IsPart Any names names_open 0 1 (an_identifier []) (missing_names n) (read_names n) → (x : Name) → Ahead (name x) → (p : Place) (k : TokenView)
    → MendsAt p k (name x) (form.here 0) Any names names_open none 0 1 (missing_after_comma (missing_names n) p k) (names_by (read_names n) x p k)
by_names_mends n i x hx p (tk.mark tk.comma) = mends_past (form.here 0) refl (mends_give (λ xs. more_names x p xs) (then_ahead hx (put_ahead held)) i (omega arith) (λ xs u. tt) (λ xs ts. refl) (λ xs. refl))
by_names_mends n i x hx p k = mends_stays (mends_gives (last_name x) tt (λ ts. refl) refl)

part_names : (n : ℕ) → IsPart Any names names_open 0 1 (an_identifier []) (missing_names n) (read_names n)
part_names zero = record { sound = names_sound zero; ahead = λ a u. ahead_names a; mends = mends_refuses held (record { whole = last_name some_name; good = tt; fix = an_identifier []; tokens = λ v. refl; given = refl; back = form.here 0; opens = refl; long = refl; enough = omega arith }) }
part_names (suc n) = record { sound = names_sound (suc n); ahead = λ a u. ahead_names a; mends = mends_bind held (part_name 0) (omega arith) (λ x u hx. mends_next (filled (last_name x) tt (λ ts. refl) refl) (by_names_mends n (part_names n) x hx)) }

-- what `(` and names are followed by
close_plain : (xs : Names) (t : Token) → form.here 0 ++ flat_map (λ (u : Token). form.here 0) (names xs (t ∷ [])) ≡ (form.here 0 ++ names_open xs) ++ form.here 0
close_plain xs t = rw (names_plain 0 xs (t ∷ [])) (simp append_assoc refl)

by_macro_mends : (n : ℕ) (p : Place) → Ahead (mark p tk.open_bracket) → (q : Place) (k : TokenView)
    → MendsAt q k (mark p tk.open_bracket) (form.here 0) Any macro_parameters (λ x. form.plain 0 (macro_parameters x)) none 0 2 (missing_macro_parameters_by n q k) (macro_parameters_by n p q k)
by_macro_mends n p hx q (tk.mark tk.close_bracket) = mends_done (form.here 0) (no_names p q) refl tt (λ ts. refl) refl
by_macro_mends n p hx q k =
    mends_stays (mends_bind hx (part_names n) (omega arith) (λ xs u h. mends_give (λ r. some_names p xs r) h (part_mark 0 tk.close_bracket) (omega arith) (λ r v. tt) (λ r ts. refl) (λ r. close_plain xs (tk.token r (tk.mark tk.close_bracket)))))

pub part_macro_parameters : (n : ℕ) → IsPart Any macro_parameters (λ x. form.plain 0 (macro_parameters x)) 0 2 (no_list []) (missing_macro_parameters n) (read_macro_parameters n)
part_macro_parameters n = record {
  sound = macro_parameters_sound n;
  ahead = λ a u. ahead_macro a;
  mends =
      mends_bind held (part_mark 0 tk.open_bracket) (omega arith) (λ p u hx.
      mends_next (record { whole = no_names p nowhere; good = tt; fix = a_close []; tokens = λ v. refl; given = refl; back = form.here 0; opens = refl; long = refl; enough = omega arith }) (by_macro_mends n p hx));
}

by_heading_mends : (n : ℕ) (x : Name) → Ahead (name x) → (p : Place) (k : TokenView) → MendsAt p k (name x) (form.here 0) Any heading (λ h. form.plain 0 (heading h)) none 0 2 (missing_heading_by n p k) (heading_by n x p k)
by_heading_mends n x hx p (tk.mark tk.open_bracket) =
    mends_past (form.here 0) refl (mends_bind (then_ahead hx (put_ahead held)) (part_names n) (omega arith) (λ xs u h.
    mends_give (λ q. applied x p xs q) h (part_mark 0 tk.close_bracket) (omega arith) (λ q v. tt) (λ q ts. refl) (λ q. rw (names_plain 0 xs (tk.token q (tk.mark tk.close_bracket) ∷ [])) (simp append_assoc refl))))
by_heading_mends n x hx p k = mends_stays (mends_gives (plain x) tt (λ ts. refl) refl)

part_heading : (n : ℕ) → IsPart Any heading (λ h. form.plain 0 (heading h)) 0 2 (an_identifier []) (missing_heading n) (read_heading n)
part_heading n = record { sound = heading_sound n; ahead = λ a u. ahead_heading a; mends = mends_bind held (part_name 0) (omega arith) (λ x u hx. mends_next (filled (plain x) tt (λ ts. refl) refl) (by_heading_mends n x hx)) }

-- ---- after the name of a label
by_colon_mends : (d : ℕ) (p q : Place) (k : TokenView) → MendsAt q k (mark p tk.colon) (form.here d) Any colon_tokens (λ c. form.plain d (colon_tokens c)) none d 1 (all_of []) (colon_by p q k)
by_colon_mends d p q (tk.sign op.Plus) = mends_done (form.here d) (colon_plus p q) refl tt (λ ts. refl) refl
by_colon_mends d p q (tk.sign op.Minus) = mends_done (form.here d) (colon_minus p q) refl tt (λ ts. refl) refl
by_colon_mends d p q k = mends_stays (mends_gives (colon p) tt (λ ts. refl) refl)

pub part_colon : (d : ℕ) → IsPart Any colon_tokens (λ c. form.plain d (colon_tokens c)) d 1 (mark nowhere tk.colon []) missing_colon read_colon
part_colon d = record { sound = colon_sound; ahead = λ a u. ahead_colon a; mends = mends_bind held (part_mark d tk.colon) (omega arith) (λ p u hx. mends_next (filled (colon p) tt (λ ts. refl) refl) (by_colon_mends d p)) }

pub part_bind : (d : ℕ) → IsPart Any (λ b ts. sign b.1 (bind_sign b.0) ts) (λ b. form.here d) d 1 (an_equal []) (all_of (an_equal [])) (past bind_by)
part_bind d = record { sound = bind_sound; ahead = λ a u. put_ahead held; mends = token_mends bind_by (λ b. tk.token b.1 (tk.sign_of (bind_sign b.0))) d (false, nowhere) }

module _ (m : Parts) (w : PartsMiss) (h : MendsParts m w) where
  -- ---- declarations
  by_among_mends : (b : Bool) (p : Place) → MendsAt p (tk.sign op.In) here [] (GoodInitial b) initial initial_opens none 0 1 (missing_among b w) (among_if b m p)
  by_among_mends true p = mends_past (form.here 0) refl (mends_give (among p) (put_ahead held) (h.expr 0) (omega arith) (λ e g. (refl, g)) (λ e ts. refl) (λ e. refl))
  by_among_mends false p = mends_stays (mends_gives unset tt (λ ts. refl) refl)

  by_initial_mends : (b : Bool) (p : Place) (k : TokenView) → MendsAt p k here [] (GoodInitial b) initial initial_opens none 0 1 (missing_initial_by b w p k) (initial_by b m p k)
  by_initial_mends b p (tk.sign op.Equal) = mends_past (form.here 0) refl (mends_give (equals p) (put_ahead held) (h.expr 0) (omega arith) (λ e g. g) (λ e ts. refl) (λ e. refl))
  by_initial_mends b p (tk.sign op.In) = by_among_mends b p
  by_initial_mends b p k = mends_stays (mends_gives unset tt (λ ts. refl) refl)

  part_initial : (b : Bool) → IsPart (GoodInitial b) initial initial_opens 0 1 [] (missing_initial b w) (read_initial b m)
  part_initial b = record { sound = initial_sound m h.sound b; ahead = λ a u. ahead_initial a; mends = mends_next (filled unset tt (λ ts. refl) refl) (by_initial_mends b) }

  -- a name, its initial value and a separator, with their counts
  abbrev declared : Initial → Option Separator → List Open
  declared i s = (form.here 0 ++ initial_opens i) ++ form.plain 0 (maybe_separator s)

  by_variables_mends : (b : Bool) (n : ℕ) → IsPart (GoodVariables b) variables variables_open 0 1 (an_identifier []) (missing_variables b m w n) (read_variables b m n) → (x : Name) (i : Initial) → GoodInitial b i → (s : Option Separator) → Ahead (λ ts. name x (initial i (maybe_separator s ts))) → (p : Place) (k : TokenView)
      → MendsAt p k (λ ts. name x (initial i (maybe_separator s ts))) (declared i s) (GoodVariables b) variables variables_open none 0 1 (missing_after_separator (missing_variables b m w n) s p k) (variables_by (read_variables b m n) x i s p k)
  by_variables_mends b n v x i g (Some (by_semicolon t)) hx p (tk.word y) = mends_stays (mends_give (variable x i (by_semicolon t)) hx v (omega arith) (λ vs f. (g, f)) (λ vs ts. refl) (λ vs. simp append_assoc refl))
  by_variables_mends b n v x i g (Some (by_comma t)) hx p (tk.word y) = mends_stays (mends_give (variable x i (by_comma t)) hx v (omega arith) (λ vs f. (g, f)) (λ vs ts. refl) (λ vs. simp append_assoc refl))
  by_variables_mends b n v x i g s hx p k = mends_stays (mends_gives (last_variable x i s) g (λ ts. refl) (simp append_assoc refl))

  part_variables : (b : Bool) (n : ℕ) → IsPart (GoodVariables b) variables variables_open 0 1 (an_identifier []) (missing_variables b m w n) (read_variables b m n)
  part_variables b zero = record {
    sound = variables_sound m h.sound b zero;
    ahead = λ a u. ahead_variables a;
    mends = mends_refuses held (record { whole = last_variable some_name unset None; good = tt; fix = an_identifier []; tokens = λ v. refl; given = refl; back = form.here 0; opens = refl; long = refl; enough = omega arith });
  }
  part_variables b (suc n) = record {
    sound = variables_sound m h.sound b (suc n);
    ahead = λ a u. ahead_variables a;
    mends =
        mends_bind held (part_name 0) (omega arith) (λ x u hx. mends_bind hx (part_initial b) (omega arith) (λ i g hi. mends_bind hi (part_separator 0) (omega arith) (λ s v hs.
        mends_next (filled (last_variable x i s) g (λ ts. refl) (simp append_assoc refl)) (by_variables_mends b n (part_variables b n) x i g s hs))));
  }

  by_section_mends : (b : Bool) (n : ℕ) (p : Place) (k : TokenView) → MendsAt p k here [] (GoodSection b) section_tokens section_opens none 0 1 (missing_section_by b m w n p k) (section_by b m n p k)
  by_section_mends b n p (tk.reserved v) =
      mends_pick v (missing_section_words b m w n) (section_words b m n p) {d = gives no_section} (
        refl,
        mends_past (form.here 0) refl (mends_give (section p false) (put_ahead held) (part_variables b n) (omega arith) (λ vs g. g) (λ vs ts. refl) (λ vs. refl)),
        (refl, mends_past (form.here 0) refl (mends_give (section p true) (put_ahead held) (part_variables b n) (omega arith) (λ vs g. g) (λ vs ts. refl) (λ vs. refl)), tt),
      )
      (mends_stays (mends_gives no_section tt (λ ts. refl) refl))
  by_section_mends b n p k = mends_stays (mends_gives no_section tt (λ ts. refl) refl)

  pub part_section : (b : Bool) (n : ℕ) → IsPart (GoodSection b) section_tokens section_opens 0 1 [] (missing_section b m w n) (read_section b m n)
  part_section b n = record { sound = section_sound m h.sound b n; ahead = λ a u. ahead_section a; mends = mends_next (filled no_section tt (λ ts. refl) refl) (by_section_mends b n) }

  -- ---- parameters and definitions
  by_parameters_mends : (n : ℕ) → IsPart GoodParameters parameters parameters_open 0 1 (an_identifier []) (missing_parameters m w n) (read_parameters m n) → (x : Name) (i : Initial) → GoodInitial false i → Ahead (λ ts. name x (initial i ts)) → (p : Place) (k : TokenView)
      → MendsAt p k (λ ts. name x (initial i ts)) (form.here 0 ++ initial_opens i) GoodParameters parameters parameters_open none 0 1 (missing_after_comma (missing_parameters m w n) p k) (parameters_by (read_parameters m n) x i p k)
  by_parameters_mends n v x i g hx p (tk.mark tk.comma) = mends_past (form.here 0) refl (mends_give (parameter x i p) (then_ahead hx (put_ahead held)) v (omega arith) (λ xs f. (g, f)) (λ xs ts. refl) (λ xs. simp append_assoc refl))
  by_parameters_mends n v x i g hx p k = mends_stays (mends_gives (last_parameter x i) g (λ ts. refl) refl)

  part_parameters : (n : ℕ) → IsPart GoodParameters parameters parameters_open 0 1 (an_identifier []) (missing_parameters m w n) (read_parameters m n)
  part_parameters zero = record {
    sound = parameters_sound m h.sound zero;
    ahead = λ a u. ahead_parameters a;
    mends = mends_refuses held (record { whole = last_parameter some_name unset; good = tt; fix = an_identifier []; tokens = λ v. refl; given = refl; back = form.here 0; opens = refl; long = refl; enough = omega arith });
  }
  part_parameters (suc n) = record {
    sound = parameters_sound m h.sound (suc n);
    ahead = λ a u. ahead_parameters a;
    mends = mends_bind held (part_name 0) (omega arith) (λ x u hx. mends_bind hx (part_initial false) (omega arith) (λ i g hi. mends_next (filled (last_parameter x i) g (λ ts. refl) refl) (by_parameters_mends n (part_parameters n) x i g hi)));
  }

  by_procedure_mends : (n : ℕ) (p : Place) → Ahead (mark p tk.open_bracket) → (q : Place) (k : TokenView)
      → MendsAt q k (mark p tk.open_bracket) (form.here 0) GoodProcedureParameters procedure_parameters procedure_parameters_open none 0 2 (missing_procedure_parameters_by m w n q k) (procedure_parameters_by m n p q k)
  by_procedure_mends n p hx q (tk.mark tk.close_bracket) = mends_done (form.here 0) (no_parameters p q) refl tt (λ ts. refl) refl
  by_procedure_mends n p hx q k =
      mends_stays (mends_bind hx (part_parameters n) (omega arith) (λ xs g i. mends_give (λ r. some_parameters p xs r) i (part_mark 0 tk.close_bracket) (omega arith) (λ r v. g) (λ r ts. refl) (λ r. simp append_assoc refl)))

  pub part_procedure_parameters : (n : ℕ) → IsPart GoodProcedureParameters procedure_parameters procedure_parameters_open 0 2 (no_list []) (missing_procedure_parameters m w n) (read_procedure_parameters m n)
  part_procedure_parameters n = record {
    sound = procedure_parameters_sound m h.sound n;
    ahead = λ a u. ahead_procedure a;
    mends =
        mends_bind held (part_mark 0 tk.open_bracket) (omega arith) (λ p u hx.
        mends_next (record { whole = no_parameters p nowhere; good = tt; fix = a_close []; tokens = λ v. refl; given = refl; back = form.here 0; opens = refl; long = refl; enough = omega arith }) (by_procedure_mends n p hx));
  }

  by_definitions_mends : (n : ℕ) → IsPart GoodDefinitions definitions definitions_open 0 4 (an_identifier (a_meaning [])) (missing_definitions m w n) (read_definitions m n) → (x : Heading) (p : Place) (e : Phrase) → IsGood e → Ahead (λ ts. heading x (mark p tk.defines (spell e ts))) → (q : Place) (k : TokenView)
      → MendsAt q k (λ ts. heading x (mark p tk.defines (spell e ts))) ((form.plain 0 (heading x) ++ form.here 0) ++ expression_opens 0 e) GoodDefinitions definitions definitions_open none 0 4 (missing_after_definition (missing_definitions m w n) q k) (definitions_by (read_definitions m n) x p e q k)
  by_definitions_mends n v x p e g hx q (tk.word y) = mends_stays (mends_give (more_definitions x p e) hx v (omega arith) (λ ds f. (g, f)) (λ ds ts. refl) (λ ds. simp append_assoc refl))
  by_definitions_mends n v x p e g hx q k = mends_stays (mends_gives (last_definition x p e) g (λ ts. refl) (simp append_assoc refl))

  pub part_definitions : (n : ℕ) → IsPart GoodDefinitions definitions definitions_open 0 4 (an_identifier (a_meaning [])) (missing_definitions m w n) (read_definitions m n)
  part_definitions zero = record {
    sound = definitions_sound m h.sound zero;
    ahead = λ a u. ahead_definitions a;
    mends = mends_refuses held (record { whole = last_definition (plain some_name) nowhere some_phrase; good = some_good; fix = an_identifier (a_meaning []); tokens = λ v. refl; given = refl; back = form.here 0 ++ form.here 0 ++ expression_opens 0 some_phrase; opens = refl; long = refl; enough = omega arith });
  }
  part_definitions (suc n) = record {
    sound = definitions_sound m h.sound (suc n);
    ahead = λ a u. ahead_definitions a;
    mends =
        mends_bind held (part_heading n) (omega arith) (λ x u hx. mends_bind hx (part_mark 0 tk.defines) (omega arith) (λ p v hp. mends_bind hp (h.expr 0) (omega arith) (λ e g he.
        mends_next (filled (last_definition x p e) g (λ ts. refl) (simp append_assoc refl)) (by_definitions_mends n (part_definitions n) x p e g he))));
  }

  -- ---- what a `with` names, where d forms are open
  abbrev named : ℕ → Phrase → Option Separator → List Open
  named d e s = ((form.here (d + 1) ++ form.here (d + 1)) ++ expression_opens (d + 1) e) ++ form.plain (d + 1) (maybe_separator s)

  by_binds_mends : (n d : ℕ) → IsPart GoodBinds binds (binds_open (d + 1)) (d + 1 + 1) 3 (an_identifier (a_value [])) (missing_binds m w n (d + 1)) (read_binds m n (d + 1)) → (x : Name) (b : Bool) (q : Place) (e : Phrase) → IsGood e → (s : Option Separator)
      → Ahead (λ ts. name x (sign q (bind_sign b) (spell e (maybe_separator s ts)))) → (p : Place) (k : TokenView)
      → MendsAt p k (λ ts. name x (sign q (bind_sign b) (spell e (maybe_separator s ts)))) (named d e s) GoodBinds binds (binds_open d) none (d + 1) 3 (missing_after_separator (missing_binds m w n (d + 1)) s p k) (binds_by (read_binds m n (d + 1)) x b q e s p k)
  by_binds_mends n d v x b q e g (Some (by_semicolon t)) hx p (tk.word y) = mends_stays (mends_give (bind x b q e (by_semicolon t)) hx v (omega arith) (λ bs f. (g, f)) (λ bs ts. refl) (λ bs. simp append_assoc refl))
  by_binds_mends n d v x b q e g (Some (by_comma t)) hx p (tk.word y) = mends_stays (mends_give (bind x b q e (by_comma t)) hx v (omega arith) (λ bs f. (g, f)) (λ bs ts. refl) (λ bs. simp append_assoc refl))
  by_binds_mends n d v x b q e g s hx p k = mends_stays (mends_gives (last_bind x b q e s) g (λ ts. refl) (simp append_assoc refl))

  pub part_binds : (n d : ℕ) → IsPart GoodBinds binds (binds_open d) (d + 1) 3 (an_identifier (a_value [])) (missing_binds m w n d) (read_binds m n d)
  part_binds zero d = record {
    sound = binds_sound m h.sound zero d;
    ahead = λ a u. ahead_binds a;
    mends = mends_refuses held (record { whole = last_bind some_name false nowhere some_phrase None; good = some_good; fix = an_identifier (a_value []); tokens = λ v. refl; given = refl; back = binds_open d (last_bind some_name false nowhere some_phrase None); opens = refl; long = refl; enough = omega arith });
  }
  part_binds (suc n) d = record {
    sound = binds_sound m h.sound (suc n) d;
    ahead = λ a u. ahead_binds a;
    mends =
        mends_bind held (part_name_within (d + 1) (h.room (d + 1))) (omega arith) (λ x u hx. mends_bind hx (part_bind (d + 1)) (omega arith) (λ b v hb. mends_bind hb (h.expr (d + 1)) (omega arith) (λ e g he. mends_bind he (part_separator (d + 1)) (omega arith) (λ s y hs.
        mends_next (filled (last_bind x b.0 b.1 e s) g (λ ts. refl) (simp append_assoc refl)) (by_binds_mends n d (part_binds n (d + 1)) x b.0 b.1 e g s hs)))));
  }
