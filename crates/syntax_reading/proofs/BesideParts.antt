-- Reading within the limits beside reading without: expressions, declarations, definitions, labels and what a `with` names.
use Rattle.std.proofs.Common.{◌≡◌, ℕ, zero, suc, ◌+◌, ◌<◌, Bool, true, false, nat_le, List, [], ◌∷◌, ◌++◌, length, Option, Some, None, Ok, Err, inl, inr, refl, sym, ap, subst, append_assoc, length-append, arith}
use Rattle.std.specs.List.{flat_map}
use Rattle.std.proofs.lemmas.List.{append-nil, length-map}
use Rattle.std.proofs.lemmas.Bool.{leb-true, le-leb}
use Rattle.tla_token.specs.declared.place.Place.{Place}
use Rattle.tla_token.specs.Limits.{deepest_expression, deepest_statement}
use Rattle.tla_tree.specs.declared.op.Op.TheVariants as op
use Rattle.tla_tree.specs.Tree.{Name}
use Rattle.tla_tree.specs.Lexical.{TokenView, Token}
use Rattle.tla_tree.specs.Lexical as tk
use Rattle.tla_tree.specs.Spelling.{Phrase}
use Rattle.tla_tree.specs.Nesting.{counts, counts_all}
use Rattle.tla_tree.specs.Reader.{Out, Reader, gives, free, readers}
use Rattle.tla_tree.specs.FirstStop.{Open, is_within}
use Rattle.tla_tree.proofs.SpellAhead.{Ahead, held}
use Rattle.tla_tree.proofs.CountsLaws.{count_one, count_all}
use Rattle.tla_tree.proofs.DeepCounts as counted
use Rattle.tla_tree.proofs.Limited.{On, Told}
use Rattle.tla_tree.proofs.Limited as tla
use Rattle.tla_tree.proofs.LimitedAll.{limited}
use Rattle.pcal_tree.specs.GrammarParts.{Separator, by_semicolon, by_comma, maybe_separator, maybe_semicolon, Initial, unset, equals, among, Variables, last_variable, variable, no_section, section, Names, last_name, more_names, names, no_names, some_names, macro_parameters, Parameters, last_parameter, parameter, no_parameters, some_parameters, Heading, plain, applied, heading, Definitions, last_definition, more_definitions, colon, colon_plus, colon_minus, colon_tokens, Binds, last_bind, bind}
use Rattle.pcal_tree.specs.OpenForms.{here, within, expression_opens, initial_opens, variables_open, section_opens, parameters_open, procedure_parameters_open, definitions_open, binds_open}
use Rattle.pcal_tree.specs.OpenForms as opens
use Rattle.syntax_reading.specs.TokenReaders.{past, Parts, parts_of, limited_parts}
use Rattle.syntax_reading.specs.ReadParts.{semicolon_by, read_semicolon, separator_by, read_separator, among_if, initial_by, read_initial, variables_by, read_variables, section_of, section_words, section_by, read_section, names_by, read_names, macro_parameters_by, read_macro_parameters, parameters_by, read_parameters, procedure_parameters_by, read_procedure_parameters, heading_by, read_heading, definitions_by, read_definitions, colon_by, read_colon, binds_by, bind_by, read_binds}
use Rattle.syntax_reading.proofs.Sound.{is_other}
use Rattle.syntax_reading.proofs.SoundParts.{parts_sound}
use Rattle.syntax_reading.proofs.Beside.{Fit, Deep, Late, Sits, sits, sits_on, sits_here, fit_both, deep_after, late_on, Beside, BesideAt, beside_gives, beside_refuses, beside_bind, beside_next, beside_stays, beside_skip, beside_past, beside_mark, beside_name, beside_name_within, beside_pick}

-- ---- counts of expressions, where d forms of statements are open
noughts : List Open → List ℕ
noughts [] = []
noughts (o ∷ os) = 0 ∷ noughts os

as_long : (r : List Open) → length (noughts r) ≡ length r
unfolding noughts
as_long [] = refl
as_long (o ∷ r) = (let h = as_long r in omega (arith, h))

never_deep : (r : List Open) (m : ℕ) → counted.Deep deepest_expression (noughts r) m → ⊥
unfolding noughts
never_deep [] m h = h
never_deep (o ∷ r) m (inl (l, k)) = absurd (omega (arith, l))
never_deep (o ∷ r) m (inr h) = never_deep r m h

too_many : (n d : ℕ) → deepest_expression < n → is_within (record { expressions = n; statements = d }) ≡ false
too_many n d l = by (nat_le n deepest_expression) refl
  where
    by : (b : Bool) → nat_le n deepest_expression ≡ b → is_within (record { expressions = n; statements = d }) ≡ false
    by true e = (let h = leb-true n deepest_expression e in absurd (omega (arith, h, l)))
    by false e = rw e refl

counts_deep : (d : ℕ) (ns : List ℕ) (r : List Open) (m : ℕ) → counted.Deep deepest_expression (ns ++ noughts r) m → Deep (within d ns ++ r) m
counts_deep d [] r m h = absurd (never_deep r m h)
counts_deep d (n ∷ ns) r m (inl (l, k)) =
    (let a = length-append ns (noughts r) in
    let b = length-append (within d ns) r in
    let c = length-map {B = Open} ns (λ (i : ℕ). record { expressions = i; statements = d }) in
    let e = as_long r in
    inl (too_many n d l, omega (arith, a, b, c, e, k)))
counts_deep d (n ∷ ns) r m (inr h) = inr (counts_deep d ns r m h)

pub counts_fit : (d : ℕ) (ns : List ℕ) → nat_le d deepest_statement ≡ true → counted.Fit deepest_expression ns → Fit (within d ns)
counts_fit d [] e f = refl
counts_fit d (n ∷ ns) e f = rw (le-leb n deepest_expression f.0, e, counts_fit d ns e f.1) refl

beside_counts : {A : Type 0} (d : ℕ) (x : List Open) → Sits d x → (y : A → List ℕ → List ℕ) → ((a : A) → Ahead (y a)) → {r q : Reader A} → ((ts : List Token) → On true deepest_expression (λ s. s) y ts (r ts) (q ts))
    → ((ts : List Token) (a : A) (us : List Token) → q ts ≡ Ok (a, us) → length ts ≡ length (y a []) + length us) → Beside x (λ a. x ++ within d (y a [])) r q
beside_counts {A} d x s y ya {r} {q} h n = record {
  is = λ ts. record {
    told = by ts (r ts) (h ts).told;
    on = λ a us e j l. (let c = n ts a us e in let b = length-map {B = Open} (y a []) (λ (i : ℕ). record { expressions = i; statements = d }) in late_on x (within d (y a [])) j (length ts) (length us) (omega (arith, c, b)) l);
    within = (h ts).within;
    left = (h ts).left;
  };
}
  where
    late : (a : A) (j t : ℕ) → tla.Late deepest_expression (y a) j t → Late (x ++ within d (y a [])) j t
    late a j t l r m i =
        (let c = as_long r in
        let there = subst (λ (ns : List ℕ). counted.Deep deepest_expression ns m) ((ya a).is [] (noughts r)) (l (noughts r) m (omega (arith, c, i))) in
        subst (λ (z : List Open). Deep z m) (sym (append_assoc x (within d (y a [])) r)) (deep_after x (within d (y a []) ++ r) m (counts_deep d (y a []) r m there)))

    by : (ts : List Token) (o : Out A) → Told (tla.Fitting true deepest_expression (λ s. s)) (λ a. tla.Fitting true deepest_expression (y a)) (λ a. tla.Late deepest_expression (y a)) o (q ts)
        → Told (Fit x) (λ a. Fit (x ++ within d (y a []))) (λ a. Late (x ++ within d (y a []))) o (q ts)
    by ts (Ok (a, us)) (e, g) = (e, λ f. fit_both x (within d (y a [])) f (counts_fit d (y a []) (s.is f) (g (λ z r k. k) refl [] tt)))
    by ts (Err u) (inl p) = inl p
    by ts (Err u) (inr (t, v, k, e, w, l)) = inr (t, v, k, e, w, λ a us i. late a (length v) (length us) (l a us i))

abbrev pub unlimited_parts : ℕ → Parts
unlimited_parts e = parts_of (readers e None)

pub beside_expr : (e d : ℕ) (x : List Open) → Sits d x → Beside x (λ a. x ++ expression_opens d a) (limited_parts e).expr (unlimited_parts e).expr
beside_expr e d x s =
    beside_counts d x s (counts 0) (counted.ahead_counts 0) (λ ts. (limited true deepest_expression e 0 deepest_expression (omega arith)).expr 0 free refl (λ u. u) held ts)
    (λ ts a us i. (let w = (parts_sound e).expr.is ts a us i in let c = ap length w.1 in let n = count_one 0 a [] us in omega (arith, c, n)))

pub beside_arguments : (e d : ℕ) (x : List Open) → Sits d x → Beside x (λ a. x ++ within d (counts_all 0 a [])) (limited_parts e).arguments (unlimited_parts e).arguments
beside_arguments e d x s =
    beside_counts d x s (counts_all 0) (counted.ahead_all 0) (λ ts. (limited true deepest_expression e 0 deepest_expression (omega arith)).phrases 0 (λ u. u) held ts)
    (λ ts a us i. (let w = (parts_sound e).arguments.is ts a us i in let c = ap length w.1 in let n = count_all 0 a [] us in omega (arith, c, n)))

-- inside the brackets of a left side
pub beside_subscripts : (e d : ℕ) (x : List Open) → Sits d x → Beside x (λ a. x ++ within d (counts_all 1 a [])) (limited_parts e).subscripts (unlimited_parts e).subscripts
beside_subscripts e d x s =
    beside_counts d x s (counts_all 1) (counted.ahead_all 1) (λ ts. (limited true deepest_expression e 1 199 refl).phrases 0 (λ u. u) held ts)
    (λ ts a us i. (let w = (parts_sound e).subscripts.is ts a us i in let c = ap length w.1 in let n = count_all 1 a [] us in omega (arith, c, n)))

-- ---- `;` and `,`
pub beside_semicolon : (x : List Open) → Beside x (λ s. x ++ opens.plain 0 (maybe_semicolon s)) read_semicolon read_semicolon
beside_semicolon x = beside_next by
  where
    by : (p : Place) (k : TokenView) → BesideAt p k x (λ s. x ++ opens.plain 0 (maybe_semicolon s)) (semicolon_by p k) (semicolon_by p k)
    by p (tk.mark tk.semicolon) = beside_skip 0 sits refl (beside_gives (Some p) refl)
    by p k = beside_stays (beside_gives None (append-nil x))

pub beside_separator : (d : ℕ) (x : List Open) → Sits d x → Beside x (λ s. x ++ opens.plain d (maybe_separator s)) read_separator read_separator
beside_separator d x i = beside_next by
  where
    by : (p : Place) (k : TokenView) → BesideAt p k x (λ s. x ++ opens.plain d (maybe_separator s)) (separator_by p k) (separator_by p k)
    by p (tk.mark tk.semicolon) = beside_skip d i refl (beside_gives (Some (by_semicolon p)) refl)
    by p (tk.mark tk.comma) = beside_skip d i refl (beside_gives (Some (by_comma p)) refl)
    by p k = beside_stays (beside_gives None (append-nil x))

-- ---- declarations
by_among : (e : ℕ) (b : Bool) (x : List Open) (p : Place) → BesideAt p (tk.sign op.In) x (λ i. x ++ initial_opens i) (among_if b (limited_parts e) p) (among_if b (unlimited_parts e) p)
by_among e true x p = beside_skip 0 sits refl (beside_bind (beside_expr e 0 (x ++ here 0) sits) (λ a. beside_gives (among p a) (simp append_assoc refl)))
by_among e false x p = beside_stays (beside_gives unset (append-nil x))

pub beside_initial : (e : ℕ) (b : Bool) (x : List Open) → Beside x (λ i. x ++ initial_opens i) (read_initial b (limited_parts e)) (read_initial b (unlimited_parts e))
beside_initial e b x = beside_next by
  where
    by : (p : Place) (k : TokenView) → BesideAt p k x (λ i. x ++ initial_opens i) (initial_by b (limited_parts e) p k) (initial_by b (unlimited_parts e) p k)
    by p (tk.sign op.Equal) = beside_skip 0 sits refl (beside_bind (beside_expr e 0 (x ++ here 0) sits) (λ a. beside_gives (equals p a) (simp append_assoc refl)))
    by p (tk.sign op.In) = by_among e b x p
    by p k = beside_stays (beside_gives unset (append-nil x))

by_variables : (r q : Reader Variables) → ((x : List Open) → Beside x (λ vs. x ++ variables_open vs) r q) → (x : List Open) (y : Name) (i : Initial) (s : Option Separator) (p : Place) (k : TokenView)
    → BesideAt p k (x ++ here 0 ++ initial_opens i ++ opens.plain 0 (maybe_separator s)) (λ vs. x ++ variables_open vs) (variables_by r y i s p k) (variables_by q y i s p k)
by_variables r q h x y i (Some (by_semicolon t)) p (tk.word z) = beside_stays (beside_bind (h (x ++ here 0 ++ initial_opens i ++ here 0)) (λ vs. beside_gives (variable y i (by_semicolon t) vs) (simp append_assoc refl)))
by_variables r q h x y i (Some (by_comma t)) p (tk.word z) = beside_stays (beside_bind (h (x ++ here 0 ++ initial_opens i ++ here 0)) (λ vs. beside_gives (variable y i (by_comma t) vs) (simp append_assoc refl)))
by_variables r q h x y i s p k = beside_stays (beside_gives (last_variable y i s) (simp append_assoc refl))

pub beside_variables : (e : ℕ) (b : Bool) (n : ℕ) (x : List Open) → Beside x (λ vs. x ++ variables_open vs) (read_variables b (limited_parts e) n) (read_variables b (unlimited_parts e) n)
beside_variables e b zero x = beside_refuses
beside_variables e b (suc n) x =
    beside_bind (beside_name 0 sits) (λ y. beside_bind (beside_initial e b (x ++ here 0)) (λ i. beside_bind (beside_separator 0 (x ++ here 0 ++ initial_opens i) sits) (λ s.
    beside_next (by_variables (read_variables b (limited_parts e) n) (read_variables b (unlimited_parts e) n) (beside_variables e b n) x y i s))))

pub beside_section : (e : ℕ) (b : Bool) (n : ℕ) (x : List Open) → Beside x (λ vs. x ++ section_opens vs) (read_section b (limited_parts e) n) (read_section b (unlimited_parts e) n)
beside_section e b n x = beside_next by
  where
    of : (s : Bool) (p : Place) (k : TokenView) → is_other k ≡ false → BesideAt p k x (λ vs. x ++ section_opens vs) (section_of b (limited_parts e) n s p) (section_of b (unlimited_parts e) n s p)
    of s p k o = beside_skip 0 sits o (beside_bind (beside_variables e b n (x ++ here 0)) (λ vs. beside_gives (section p s vs) (simp append_assoc refl)))

    by : (p : Place) (k : TokenView) → BesideAt p k x (λ vs. x ++ section_opens vs) (section_by b (limited_parts e) n p k) (section_by b (unlimited_parts e) n p k)
    by p (tk.reserved w) =
        beside_pick w (section_words b (limited_parts e) n p) (section_words b (unlimited_parts e) n p) (gives no_section) (gives no_section) (refl, of false p (tk.reserved w) refl, (refl, of true p (tk.reserved w) refl, tt)) (beside_stays (beside_gives no_section (append-nil x)))
    by p k = beside_stays (beside_gives no_section (append-nil x))

-- ---- parameters and definitions
pub names_plain : (d : ℕ) (xs : Names) (ts : List Token) → flat_map (λ (t : Token). here d) (names xs ts) ≡ opens.plain d (names xs) ++ flat_map (λ (t : Token). here d) ts
names_plain d (last_name y) ts = refl
names_plain d (more_names y p xs) ts = rw (names_plain d xs ts) refl

by_names : (r q : Reader Names) → ((x : List Open) → Beside x (λ xs. x ++ opens.plain 0 (names xs)) r q) → (x : List Open) (y : Name) (p : Place) (k : TokenView) → BesideAt p k (x ++ here 0) (λ xs. x ++ opens.plain 0 (names xs)) (names_by r y p k) (names_by q y p k)
by_names r q h x y p (tk.mark tk.comma) = beside_skip 0 sits refl (beside_bind (h (x ++ here 0 ++ here 0)) (λ xs. beside_gives (more_names y p xs) (simp append_assoc refl)))
by_names r q h x y p k = beside_stays (beside_gives (last_name y) refl)

pub beside_names : (n : ℕ) (x : List Open) → Beside x (λ xs. x ++ opens.plain 0 (names xs)) (read_names n) (read_names n)
beside_names zero x = beside_refuses
beside_names (suc n) x = beside_bind (beside_name 0 sits) (λ y. beside_next (by_names (read_names n) (read_names n) (beside_names n) x y))

-- names and the bracket after them
pub named_plain : (x : List Open) (o : Open) (xs : Names) (t : Token) → x ++ (o ∷ flat_map (λ (t : Token). here 0) (names xs (t ∷ []))) ≡ x ++ (o ∷ []) ++ opens.plain 0 (names xs) ++ here 0
named_plain x o xs t = rw (names_plain 0 xs (t ∷ [])) (simp append_assoc refl)

pub beside_macro_parameters : (n : ℕ) (x : List Open) → Beside x (λ ps. x ++ opens.plain 0 (macro_parameters ps)) (read_macro_parameters n) (read_macro_parameters n)
beside_macro_parameters n x = beside_bind (beside_mark 0 sits tk.open_bracket) (λ p. beside_next (by p))
  where
    by : (p q : Place) (k : TokenView) → BesideAt q k (x ++ here 0) (λ ps. x ++ opens.plain 0 (macro_parameters ps)) (macro_parameters_by n p q k) (macro_parameters_by n p q k)
    by p q (tk.mark tk.close_bracket) = beside_skip 0 sits refl (beside_gives (no_names p q) (simp append_assoc refl))
    by p q k = beside_stays (beside_bind (beside_names n (x ++ here 0)) (λ xs. beside_bind (beside_mark 0 sits tk.close_bracket) (λ r. beside_gives (some_names p xs r) (named_plain x (record { expressions = 0; statements = 0 }) xs _))))

by_parameters : (r q : Reader Parameters) → ((x : List Open) → Beside x (λ xs. x ++ parameters_open xs) r q) → (x : List Open) (y : Name) (i : Initial) (p : Place) (k : TokenView)
    → BesideAt p k (x ++ here 0 ++ initial_opens i) (λ xs. x ++ parameters_open xs) (parameters_by r y i p k) (parameters_by q y i p k)
by_parameters r q h x y i p (tk.mark tk.comma) = beside_skip 0 sits refl (beside_bind (h (x ++ here 0 ++ initial_opens i ++ here 0)) (λ xs. beside_gives (parameter y i p xs) (simp append_assoc refl)))
by_parameters r q h x y i p k = beside_stays (beside_gives (last_parameter y i) (simp append_assoc refl))

pub beside_parameters : (e n : ℕ) (x : List Open) → Beside x (λ xs. x ++ parameters_open xs) (read_parameters (limited_parts e) n) (read_parameters (unlimited_parts e) n)
beside_parameters e zero x = beside_refuses
beside_parameters e (suc n) x =
    beside_bind (beside_name 0 sits) (λ y. beside_bind (beside_initial e false (x ++ here 0)) (λ i. beside_next (by_parameters (read_parameters (limited_parts e) n) (read_parameters (unlimited_parts e) n) (beside_parameters e n) x y i)))

pub beside_procedure_parameters : (e n : ℕ) (x : List Open) → Beside x (λ ps. x ++ procedure_parameters_open ps) (read_procedure_parameters (limited_parts e) n) (read_procedure_parameters (unlimited_parts e) n)
beside_procedure_parameters e n x = beside_bind (beside_mark 0 sits tk.open_bracket) (λ p. beside_next (by p))
  where
    by : (p q : Place) (k : TokenView) → BesideAt q k (x ++ here 0) (λ ps. x ++ procedure_parameters_open ps) (procedure_parameters_by (limited_parts e) n p q k) (procedure_parameters_by (unlimited_parts e) n p q k)
    by p q (tk.mark tk.close_bracket) = beside_skip 0 sits refl (beside_gives (no_parameters p q) (simp append_assoc refl))
    by p q k = beside_stays (beside_bind (beside_parameters e n (x ++ here 0)) (λ xs. beside_bind (beside_mark 0 sits tk.close_bracket) (λ r. beside_gives (some_parameters p xs r) (simp append_assoc refl))))

pub beside_heading : (n : ℕ) (x : List Open) → Beside x (λ h. x ++ opens.plain 0 (heading h)) (read_heading n) (read_heading n)
beside_heading n x = beside_bind (beside_name 0 sits) (λ y. beside_next (by y))
  where
    by : (y : Name) (p : Place) (k : TokenView) → BesideAt p k (x ++ here 0) (λ h. x ++ opens.plain 0 (heading h)) (heading_by n y p k) (heading_by n y p k)
    by y p (tk.mark tk.open_bracket) =
        beside_skip 0 sits refl (beside_bind (beside_names n (x ++ here 0 ++ here 0)) (λ xs. beside_bind (beside_mark 0 sits tk.close_bracket) (λ q. beside_gives (applied y p xs q)
        (rw (names_plain 0 xs (tk.token q (tk.mark tk.close_bracket) ∷ [])) (simp append_assoc refl)))))
    by y p k = beside_stays (beside_gives (plain y) refl)

by_definitions : (r q : Reader Definitions) → ((x : List Open) → Beside x (λ ds. x ++ definitions_open ds) r q) → (x : List Open) (h : Heading) (p : Place) (a : Phrase) (t : Place) (k : TokenView)
    → BesideAt t k (x ++ opens.plain 0 (heading h) ++ here 0 ++ expression_opens 0 a) (λ ds. x ++ definitions_open ds) (definitions_by r h p a t k) (definitions_by q h p a t k)
by_definitions r q i x h p a t (tk.word y) = beside_stays (beside_bind (i (x ++ opens.plain 0 (heading h) ++ here 0 ++ expression_opens 0 a)) (λ ds. beside_gives (more_definitions h p a ds) (simp append_assoc refl)))
by_definitions r q i x h p a t k = beside_stays (beside_gives (last_definition h p a) (simp append_assoc refl))

pub beside_definitions : (e n : ℕ) (x : List Open) → Beside x (λ ds. x ++ definitions_open ds) (read_definitions (limited_parts e) n) (read_definitions (unlimited_parts e) n)
beside_definitions e zero x = beside_refuses
beside_definitions e (suc n) x =
    beside_bind (beside_heading n x) (λ h. beside_bind (beside_mark 0 sits tk.defines) (λ p. beside_bind (beside_expr e 0 (x ++ opens.plain 0 (heading h) ++ here 0) sits) (λ a.
    beside_next (by_definitions (read_definitions (limited_parts e) n) (read_definitions (unlimited_parts e) n) (beside_definitions e n) x h p a))))

-- ---- after the name of a label
pub beside_colon : (d : ℕ) (x : List Open) → Sits d x → Beside x (λ c. x ++ opens.plain d (colon_tokens c)) read_colon read_colon
beside_colon d x s = beside_bind (beside_mark d s tk.colon) (λ p. beside_next (by p))
  where
    by : (p q : Place) (k : TokenView) → BesideAt q k (x ++ here d) (λ c. x ++ opens.plain d (colon_tokens c)) (colon_by p q k) (colon_by p q k)
    by p q (tk.sign op.Plus) = beside_skip d (sits_on (here d) s) refl (beside_gives (colon_plus p q) (simp append_assoc refl))
    by p q (tk.sign op.Minus) = beside_skip d (sits_on (here d) s) refl (beside_gives (colon_minus p q) (simp append_assoc refl))
    by p q k = beside_stays (beside_gives (colon p) refl)

-- ---- what a `with` names
bind_other : (p : Place) (k : TokenView) (a : Bool × Place) → bind_by p k ≡ Some a → is_other k ≡ false
bind_other p (tk.other w) a e = absurd cc
bind_other p k a e = refl

pub beside_bind_sign : (d : ℕ) (x : List Open) → Sits d x → Beside x (λ b. x ++ here d) (past bind_by) (past bind_by)
beside_bind_sign d x s = beside_past d s bind_by bind_other

by_binds : (d : ℕ) (r q : Reader Binds) → ((x : List Open) → Beside x (λ bs. x ++ binds_open (d + 1) bs) r q) → (x : List Open) (y : Name) (b : Bool) (t : Place) (a : Phrase) (s : Option Separator) (p : Place) (k : TokenView)
    → BesideAt p k (x ++ here (d + 1) ++ here (d + 1) ++ expression_opens (d + 1) a ++ opens.plain (d + 1) (maybe_separator s)) (λ bs. x ++ binds_open d bs) (binds_by r y b t a s p k) (binds_by q y b t a s p k)
by_binds d r q h x y b t a (Some (by_semicolon u)) p (tk.word z) =
    beside_stays (beside_bind (h (x ++ here (d + 1) ++ here (d + 1) ++ expression_opens (d + 1) a ++ here (d + 1))) (λ bs. beside_gives (bind y b t a (by_semicolon u) bs) (simp append_assoc refl)))
by_binds d r q h x y b t a (Some (by_comma u)) p (tk.word z) =
    beside_stays (beside_bind (h (x ++ here (d + 1) ++ here (d + 1) ++ expression_opens (d + 1) a ++ here (d + 1))) (λ bs. beside_gives (bind y b t a (by_comma u) bs) (simp append_assoc refl)))
by_binds d r q h x y b t a s p k = beside_stays (beside_gives (last_bind y b t a s) (simp append_assoc refl))

pub beside_binds : (e n d : ℕ) (x : List Open) → Beside x (λ bs. x ++ binds_open d bs) (read_binds (limited_parts e) n d) (read_binds (unlimited_parts e) n d)
beside_binds e zero d x = beside_refuses
beside_binds e (suc n) d x =
    (let s = sits_here (d + 1) x in
    let t = sits_on (here (d + 1)) s in
    beside_bind (beside_name_within (d + 1)) (λ y. beside_bind (beside_bind_sign (d + 1) (x ++ here (d + 1)) s) (λ b. beside_bind (beside_expr e (d + 1) (x ++ here (d + 1) ++ here (d + 1)) t) (λ a.
    beside_bind (beside_separator (d + 1) (x ++ here (d + 1) ++ here (d + 1) ++ expression_opens (d + 1) a) (sits_on (expression_opens (d + 1) a) t)) (λ u.
    beside_next (by_binds d (read_binds (limited_parts e) n (d + 1)) (read_binds (unlimited_parts e) n (d + 1)) (beside_binds e n (d + 1)) x y b.0 b.1 a u))))))
