-- A reader looks no further than the token at which it stops: declarations, definitions, labels and what a `with` names.
use Rattle.std.proofs.Common.{ℕ, ◌+◌, ◌*◌, ◌≤◌, Bool, true, false, Option, Some, refl, arith}
use Rattle.tla_token.specs.declared.place.Place.{Place}
use Rattle.tla_tree.specs.declared.op.Op.TheVariants as op
use Rattle.tla_tree.specs.Tree.{Name}
use Rattle.tla_tree.specs.Lexical.{Mark, TokenView}
use Rattle.tla_tree.specs.Lexical as tk
use Rattle.tla_tree.specs.Spelling.{Phrase}
use Rattle.tla_tree.specs.Reader.{Reader, ◌>>=◌, gives, is_mark, place_if}
use Rattle.tla_tree.proofs.Alike.{IsFair, fair_gives, fair_refuses, fair_skip, fair_bind}
use Rattle.pcal_tree.specs.GrammarParts.{Separator, Initial, Variables, no_section, Names, Parameters, Heading, Definitions, Binds}
use Rattle.syntax_reading.specs.TokenReaders.{name_of, a_mark, a_name, Parts}
use Rattle.syntax_reading.specs.ReadParts.{semicolon_by, read_semicolon, separator_by, read_separator, among_if, initial_by, read_initial, variables_by, read_variables, section_of, section_words, section_by, read_section, names_by, read_names, macro_parameters_by, read_macro_parameters, parameters_by, read_parameters, procedure_parameters_by, read_procedure_parameters, heading_by, read_heading, definitions_by, read_definitions, colon_by, read_colon, binds_by, bind_by, read_binds}
use Rattle.syntax_reading.proofs.Fair.{fair_next, fair_past, fair_name_within, pick_both, Step, fair_steps, FairParts, less_parts, left_parts, right_parts}

-- ---- single tokens
pub fair_mark : {B : Type 0} {b n : ℕ} (m : Mark) {g i : Place → Reader B} → b ≤ n + 4 → ((p : Place) → IsFair n (g p) (i p)) → IsFair b (a_mark m >>= g) (a_mark m >>= i)
fair_mark m l h = fair_past (place_if (is_mark m)) l h

pub fair_name : {B : Type 0} {b n : ℕ} {g i : Name → Reader B} → b ≤ n + 4 → ((x : Name) → IsFair n (g x) (i x)) → IsFair b (a_name >>= g) (a_name >>= i)
fair_name l h = fair_past name_of l h

-- ---- `;` and `,`
pub semicolon_fair : {b : ℕ} → IsFair b read_semicolon read_semicolon
semicolon_fair {b} = fair_next by
  where
    by : (p : Place) (k : TokenView) → IsFair b (semicolon_by p k) (semicolon_by p k)
    by p (tk.mark tk.semicolon) = fair_skip {n = b} (omega arith) fair_gives
    by p k = fair_gives

separator_fair : {b : ℕ} → IsFair b read_separator read_separator
separator_fair {b} = fair_next by
  where
    by : (p : Place) (k : TokenView) → IsFair b (separator_by p k) (separator_by p k)
    by p (tk.mark tk.semicolon) = fair_skip {n = b} (omega arith) fair_gives
    by p (tk.mark tk.comma) = fair_skip {n = b} (omega arith) fair_gives
    by p k = fair_gives

-- ---- declarations
by_among : {b c : ℕ} {m q : Parts} → b ≤ c + 4 → FairParts c m q → (i : Bool) (p : Place) → IsFair b (among_if i m p) (among_if i q p)
by_among l h true p = fair_skip l (fair_bind h.expr (λ e. fair_gives))
by_among l h false p = fair_gives

pub initial_fair : {b c : ℕ} {m q : Parts} → b ≤ c + 4 → FairParts c m q → (i : Bool) → IsFair b (read_initial i m) (read_initial i q)
initial_fair {b} {c} {m} {q} l h i = fair_next by
  where
    by : (p : Place) (k : TokenView) → IsFair b (initial_by i m p k) (initial_by i q p k)
    by p (tk.sign op.Equal) = fair_skip l (fair_bind h.expr (λ e. fair_gives))
    by p (tk.sign op.In) = by_among l h i p
    by p k = fair_gives

by_variables : {b : ℕ} (r t : Reader Variables) → IsFair b r t → (x : Name) (i : Initial) (s : Option Separator) (p : Place) (k : TokenView) → IsFair b (variables_by r x i s p k) (variables_by t x i s p k)
by_variables r t h x i (Some s) p (tk.word y) = fair_bind h (λ vs. fair_gives)
by_variables r t h x i s p k = fair_gives

variables_step : (d : ℕ) {m q : Parts} → FairParts d m q → (j : Bool) → Step d (λ n (u : Unit {0}). read_variables j m n) (λ n (u : Unit {0}). read_variables j q n)
variables_step d {m} {q} h j b c n o l k s t u f i =
    fair_name k (λ x. fair_bind (initial_fair {c = c} (omega arith) (less_parts (omega (arith, l, s)) h) j) (λ y. fair_bind separator_fair (λ z. fair_next (by_variables (read_variables j m n) (read_variables j q o) (f i) x y z))))

pub variables_fair : (d : ℕ) {m q : Parts} → FairParts d m q → (j : Bool) (n o b : ℕ) → b ≤ d → b ≤ 4 * n → b ≤ 4 * o → IsFair b (read_variables j m n) (read_variables j q o)
variables_fair d {m} {q} h j n o b l k s =
    fair_steps d (λ n (u : Unit {0}). read_variables j m n) (λ n (u : Unit {0}). read_variables j q n) (λ u. fair_refuses) (λ u. fair_refuses)
    (variables_step 0 (left_parts h) j) (variables_step 0 (right_parts h) j) (variables_step d h j) n o b l k s tt

pub section_fair : (d : ℕ) {m q : Parts} → FairParts d m q → (j : Bool) (n o b : ℕ) → b ≤ d → b ≤ 4 * n → b ≤ 4 * o → IsFair b (read_section j m n) (read_section j q o)
section_fair d {m} {q} h j n o b l k s = fair_next by
  where
    of : (t : Bool) (p : Place) → IsFair b (section_of j m n t p) (section_of j q o t p)
    of t p = fair_skip {n = b} (omega arith) (fair_bind (variables_fair d h j n o b l k s) (λ vs. fair_gives))

    by : (p : Place) (k : TokenView) → IsFair b (section_by j m n p k) (section_by j q o p k)
    by p (tk.reserved w) = pick_both (λ x y. IsFair b x y) w (section_words j m n p) (section_words j q o p) (gives no_section) (gives no_section) (refl, of false p, (refl, of true p, tt)) fair_gives
    by p k = fair_gives

-- ---- parameters and definitions
by_names : {b c : ℕ} → b ≤ c + 4 → (r t : Reader Names) → IsFair c r t → (x : Name) (p : Place) (k : TokenView) → IsFair b (names_by r x p k) (names_by t x p k)
by_names l r t h x p (tk.mark tk.comma) = fair_skip l (fair_bind h (λ xs. fair_gives))
by_names l r t h x p k = fair_gives

names_step : (d : ℕ) → Step d (λ n (u : Unit {0}). read_names n) (λ n (u : Unit {0}). read_names n)
names_step d b c n o l k s t u f i = fair_name k (λ x. fair_next (by_names {c = c} (omega arith) (read_names n) (read_names o) (f i) x))

names_fair : (n o b : ℕ) → b ≤ 4 * n → b ≤ 4 * o → IsFair b (read_names n) (read_names o)
names_fair n o b k s = fair_steps b (λ n (u : Unit {0}). read_names n) (λ n (u : Unit {0}). read_names n) (λ u. fair_refuses) (λ u. fair_refuses) (names_step 0) (names_step 0) (names_step b) n o b (omega arith) k s tt

pub macro_parameters_fair : (n o b : ℕ) → b ≤ 4 * n → b ≤ 4 * o → IsFair b (read_macro_parameters n) (read_macro_parameters o)
macro_parameters_fair n o b k s = fair_mark {n = b} tk.open_bracket (omega arith) (λ p. fair_next (by p))
  where
    by : (p x : Place) (v : TokenView) → IsFair b (macro_parameters_by n p x v) (macro_parameters_by o p x v)
    by p x (tk.mark tk.close_bracket) = fair_skip {n = b} (omega arith) fair_gives
    by p x v = fair_bind (names_fair n o b k s) (λ xs. fair_mark {n = b} tk.close_bracket (omega arith) (λ y. fair_gives))

heading_fair : (n o b c : ℕ) → b ≤ c + 4 → c ≤ 4 * n → c ≤ 4 * o → IsFair b (read_heading n) (read_heading o)
heading_fair n o b c l k s = fair_name l (λ x. fair_next (by x))
  where
    by : (x : Name) (p : Place) (v : TokenView) → IsFair c (heading_by n x p v) (heading_by o x p v)
    by x p (tk.mark tk.open_bracket) = fair_skip {n = c} (omega arith) (fair_bind (names_fair n o c k s) (λ xs. fair_mark {n = c} tk.close_bracket (omega arith) (λ y. fair_gives)))
    by x p v = fair_gives

by_parameters : {b c : ℕ} → b ≤ c + 4 → (r t : Reader Parameters) → IsFair c r t → (x : Name) (i : Initial) (p : Place) (k : TokenView) → IsFair b (parameters_by r x i p k) (parameters_by t x i p k)
by_parameters l r t h x i p (tk.mark tk.comma) = fair_skip l (fair_bind h (λ xs. fair_gives))
by_parameters l r t h x i p k = fair_gives

parameters_step : (d : ℕ) {m q : Parts} → FairParts d m q → Step d (λ n (u : Unit {0}). read_parameters m n) (λ n (u : Unit {0}). read_parameters q n)
parameters_step d {m} {q} h b c n o l k s t u f i =
    fair_name k (λ x. fair_bind (initial_fair {c = c} (omega arith) (less_parts (omega (arith, l, s)) h) false) (λ y. fair_next (by_parameters {c = c} (omega arith) (read_parameters m n) (read_parameters q o) (f i) x y)))

pub procedure_parameters_fair : (d : ℕ) {m q : Parts} → FairParts d m q → (n o b : ℕ) → b ≤ d → b ≤ 4 * n → b ≤ 4 * o → IsFair b (read_procedure_parameters m n) (read_procedure_parameters q o)
procedure_parameters_fair d {m} {q} h n o b l k s = fair_mark {n = b} tk.open_bracket (omega arith) (λ p. fair_next (by p))
  where
    all : IsFair b (read_parameters m n) (read_parameters q o)
    all = fair_steps d (λ n (u : Unit {0}). read_parameters m n) (λ n (u : Unit {0}). read_parameters q n) (λ u. fair_refuses) (λ u. fair_refuses) (parameters_step 0 (left_parts h)) (parameters_step 0 (right_parts h)) (parameters_step d h) n o b l k s tt

    by : (p x : Place) (v : TokenView) → IsFair b (procedure_parameters_by m n p x v) (procedure_parameters_by q o p x v)
    by p x (tk.mark tk.close_bracket) = fair_skip {n = b} (omega arith) fair_gives
    by p x v = fair_bind all (λ xs. fair_mark {n = b} tk.close_bracket (omega arith) (λ y. fair_gives))

by_definitions : {b : ℕ} (r t : Reader Definitions) → IsFair b r t → (x : Heading) (p : Place) (e : Phrase) (y : Place) (k : TokenView) → IsFair b (definitions_by r x p e y k) (definitions_by t x p e y k)
by_definitions r t h x p e y (tk.word w) = fair_bind h (λ ds. fair_gives)
by_definitions r t h x p e y k = fair_gives

definitions_step : (d : ℕ) {m q : Parts} → FairParts d m q → Step d (λ n (u : Unit {0}). read_definitions m n) (λ n (u : Unit {0}). read_definitions q n)
definitions_step d {m} {q} h b c n o l k s t u f i =
    fair_bind (heading_fair n o b c k t u)
    (λ x. fair_mark tk.defines k (λ p. fair_bind (less_parts (omega (arith, l, s)) h).expr (λ e. fair_next (by_definitions (read_definitions m n) (read_definitions q o) (f i) x p e))))

pub definitions_fair : (d : ℕ) {m q : Parts} → FairParts d m q → (n o b : ℕ) → b ≤ d → b ≤ 4 * n → b ≤ 4 * o → IsFair b (read_definitions m n) (read_definitions q o)
definitions_fair d {m} {q} h n o b l k s =
    fair_steps d (λ n (u : Unit {0}). read_definitions m n) (λ n (u : Unit {0}). read_definitions q n) (λ u. fair_refuses) (λ u. fair_refuses) (definitions_step 0 (left_parts h)) (definitions_step 0 (right_parts h)) (definitions_step d h) n o b l k s tt

-- ---- after the name of a label
pub colon_fair : {b : ℕ} → IsFair b read_colon read_colon
colon_fair {b} = fair_mark {n = b} tk.colon (omega arith) (λ p. fair_next (by p))
  where
    by : (p x : Place) (k : TokenView) → IsFair b (colon_by p x k) (colon_by p x k)
    by p x (tk.sign op.Plus) = fair_skip {n = b} (omega arith) fair_gives
    by p x (tk.sign op.Minus) = fair_skip {n = b} (omega arith) fair_gives
    by p x k = fair_gives

-- ---- what a `with` names
by_binds : {b : ℕ} (r t : Reader Binds) → IsFair b r t → (x : Name) (i : Bool) (p : Place) (e : Phrase) (s : Option Separator) (y : Place) (k : TokenView) → IsFair b (binds_by r x i p e s y k) (binds_by t x i p e s y k)
by_binds r t h x i p e (Some s) y (tk.word w) = fair_bind h (λ bs. fair_gives)
by_binds r t h x i p e s y k = fair_gives

binds_step : (d : ℕ) {m q : Parts} → FairParts d m q → Step d (read_binds m) (read_binds q)
binds_step d {m} {q} h b c n o l k s t u f i =
    fair_name_within (m.room (i + 1)) (q.room (i + 1)) (h.room (i + 1)) k
    (λ x. fair_past {n = c} bind_by (omega arith) (λ y. fair_bind (less_parts (omega (arith, l, s)) h).expr (λ e. fair_bind separator_fair (λ z. fair_next (by_binds (read_binds m n (i + 1)) (read_binds q o (i + 1)) (f (i + 1)) x y.0 y.1 e z)))))

pub binds_fair : (d : ℕ) {m q : Parts} → FairParts d m q → (n o b i : ℕ) → b ≤ d → b ≤ 4 * n → b ≤ 4 * o → IsFair b (read_binds m n i) (read_binds q o i)
binds_fair d {m} {q} h n o b i l k s =
    fair_steps d (read_binds m) (read_binds q) (λ u. fair_refuses) (λ u. fair_refuses) (binds_step 0 (left_parts h)) (binds_step 0 (right_parts h)) (binds_step d h) n o b l k s i
