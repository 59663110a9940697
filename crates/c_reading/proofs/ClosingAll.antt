-- What stands open in the lists of statements of an algorithm is closed, up to the end of the algorithm.
use Rattle.std.proofs.Common.{◌≡◌, ℕ, zero, suc, ◌+◌, ◌*◌, ◌≤◌, List, [], ◌∷◌, ◌++◌, length, None, Ok, refl, ap, ◌∙◌, arith, length-append}
use Rattle.tla_token.specs.declared.place.Place.{Place}
use Rattle.tla_token.specs.Places.{nowhere}
use Rattle.tla_tree.specs.Lexical.{Token, open_brace, close_brace}
use Rattle.tla_tree.specs.Reader.{Out, gives, then_read, ◌>>=◌}
use Rattle.pcal_tree.specs.GrammarParts.{mark, no_labels, skip}
use Rattle.pcal_tree.specs.GrammarC.{simple, labelled, Sequence, last_statement}
use Rattle.pcal_tree.specs.Grammar.{Body, braces, Macro, Procedure, Process, Main, block, in_braces, Text}
use Rattle.syntax_reading.specs.TokenReaders.{a_mark, Parts}
use Rattle.syntax_reading.specs.ReadParts.{read_semicolon}
use Rattle.syntax_reading.specs.Owners.{Owner, in_macro, in_procedure, in_process, in_main, main_of}
use Rattle.syntax_reading.proofs.Whole.{then_is}
use Rattle.syntax_reading.proofs.OneAfter.{same_read, then_assoc, then_same}
use Rattle.c_reading.specs.ReadStatements.{State, Turn, bottom, none, on, step, turned, run, rest, AreApart, open_stack, depth}
use Rattle.c_reading.specs.ReadStatements as machine
use Rattle.c_reading.specs.Resume.{Front, finish, main_from, resume, closing_brace, after_list, rest_of_all, macros_from, procedures_from, processes_from, main_rest, end_rest}
use Rattle.c_reading.proofs.Closing.{closed_by_rest, few_rest}

abbrev Closed : Parts → ℕ → ℕ → ℕ → Front → Owner → State → Type 0
Closed m k j n f o s = (x : Text) × (resume m k j n f o s (rest_of_all o s) ≡ Ok (x, []))

-- the shortest main part
abbrev a_main : Main
a_main = block nowhere (last_statement (labelled no_labels (simple (skip nowhere))) None) nowhere None

abbrev closed_body : Place → Sequence → Body
closed_body a ss = braces a ss nowhere None

abbrev whole : Front → List Macro → List Procedure → Main → Text
whole f ms ps b = record { head = f.head; name = f.name; around = in_braces f.brace nowhere; variables = f.variables; define = f.define; macros = ms; procedures = ps; main = b }

-- where enough steps are left
closed_on : (m : Parts) (k j n : ℕ) (f : Front) (o : Owner) (s : State) → AreApart (open_stack s) → suc (length (rest s)) ≤ n → Closed m (suc (suc (suc k))) (suc j) n f o s
closed_on m k j n f (in_macro ns p x xs a) s i l =
    (let w = closed_by_rest m n s i nowhere main_rest l in
    let y : Macro = record { place = p; name = x; parameters = xs; body = closed_body a w.0 } in
    (whole f ((ns ++ y ∷ []) ++ []) [] a_main, then_is _ (then_is _ w.1 refl) refl))
closed_on m k j n f (in_procedure ms qs p x xs vs a) s i l =
    (let w = closed_by_rest m n s i nowhere main_rest l in
    let y : Procedure = record { place = p; name = x; parameters = xs; variables = vs; body = closed_body a w.0 } in
    (whole f ms ((qs ++ y ∷ []) ++ []) a_main, then_is _ (then_is _ w.1 refl) refl))
closed_on m k j n f (in_process ms ps ys q p x vs a) s i l =
    (let w = closed_by_rest m n s i nowhere (closing_brace []) l in
    let y : Process = record { fair = q; place = p; identity = x; variables = vs; body = closed_body a w.0 } in
    (whole f ms ps (main_of ys y []), then_is _ (then_is _ w.1 refl) refl))
closed_on m k j n f (in_main ms ps a) s i l = (let w = closed_by_rest m n s i nowhere (closing_brace []) l in (whole f ms ps (block a w.0 nowhere None), then_is _ w.1 refl))

pub all_closed : (m : Parts) (k j n : ℕ) (f : Front) (o : Owner) (s : State) → AreApart (open_stack s) → 3 ≤ k → 1 ≤ j → suc (length (rest s)) ≤ n → Closed m k j n f o s
all_closed m zero j n f o s i a b l = absurd (omega (arith, a))
all_closed m (suc zero) j n f o s i a b l = absurd (omega (arith, a))
all_closed m (suc (suc zero)) j n f o s i a b l = absurd (omega (arith, a))
all_closed m (suc (suc (suc k))) zero n f o s i a b l = absurd (omega (arith, b))
all_closed m (suc (suc (suc k))) (suc j) n f o s i a b l = closed_on m k j n f o s i l

-- and between the parts, where as many steps are left
pub macros_closed : (m : Parts) (k j : ℕ) (f : Front) (ns : List Macro) → 3 ≤ k → 1 ≤ j → (x : Text) × (macros_from m k j f ns main_rest ≡ Ok (x, []))
macros_closed m zero j f ns a b = absurd (omega (arith, a))
macros_closed m (suc zero) j f ns a b = absurd (omega (arith, a))
macros_closed m (suc (suc zero)) j f ns a b = absurd (omega (arith, a))
macros_closed m (suc (suc (suc k))) zero f ns a b = absurd (omega (arith, b))
macros_closed m (suc (suc (suc k))) (suc j) f ns a b = (whole f (ns ++ []) [] a_main, refl)

pub procedures_closed : (m : Parts) (j k : ℕ) (f : Front) (ms : List Macro) (qs : List Procedure) → 3 ≤ k → 1 ≤ j → (x : Text) × (procedures_from m j k f ms qs main_rest ≡ Ok (x, []))
procedures_closed m j zero f ms qs a b = absurd (omega (arith, a))
procedures_closed m j (suc zero) f ms qs a b = absurd (omega (arith, a))
procedures_closed m j (suc (suc zero)) f ms qs a b = absurd (omega (arith, a))
procedures_closed m zero (suc (suc (suc k))) f ms qs a b = absurd (omega (arith, b))
procedures_closed m (suc j) (suc (suc (suc k))) f ms qs a b = (whole f ms (qs ++ []) a_main, refl)

pub processes_closed : (m : Parts) (j : ℕ) (f : Front) (ms : List Macro) (ps : List Procedure) (ys : List Process) (y : Process) → 1 ≤ j → (x : Text) × (processes_from m j f ms ps ys y end_rest ≡ Ok (x, []))
processes_closed m zero f ms ps ys y b = absurd (omega (arith, b))
processes_closed m (suc j) f ms ps ys y b = (whole f ms ps (main_of ys y []), refl)

after_few : (o : Owner) → length (after_list o) ≤ 5
after_few (in_macro ns p x xs a) = omega arith
after_few (in_procedure ms qs p x xs vs a) = omega arith
after_few (in_process ms ps ys q p x vs a) = omega arith
after_few (in_main ms ps a) = omega arith

pub few_in_all : (o : Owner) (s : State) → length (rest_of_all o s) ≤ 2 * depth (open_stack s) + 6
few_in_all o s = (let a = length-append (rest s) (after_list o) in let b = few_rest s in let c = after_few o in omega (arith, a, b, c))

-- ---- reading goes from state to state
run_on : (m : Parts) (n : ℕ) (s : State) (ts : List Token) (t : State) (us : List Token) → step m n s ts ≡ Ok (on t, us) → run m (suc n) s ts ≡ run m n t us
run_on m n s ts t us e = ap (λ (o : Out Turn). then_read o (turned (run m n))) e

pub resumed_on : (m : Parts) (k j n : ℕ) (f : Front) (o : Owner) (s : State) (ts : List Token) (t : State) (us : List Token) → step m n s ts ≡ Ok (on t, us) → resume m k j (suc n) f o s ts ≡ resume m k j n f o t us
resumed_on m k j n f (in_macro ns p x xs a) s ts t us e = same_read _ (same_read _ (run_on m n s ts t us e))
resumed_on m k j n f (in_procedure ms qs p x xs vs a) s ts t us e = same_read _ (same_read _ (run_on m n s ts t us e))
resumed_on m k j n f (in_process ms ps ys q p x vs a) s ts t us e = same_read _ (same_read _ (run_on m n s ts t us e))
resumed_on m k j n f (in_main ms ps a) s ts t us e = same_read _ (run_on m n s ts t us e)

-- and it begins with the first state of a list
pub main_resumed : (m : Parts) (j k : ℕ) (f : Front) (ms : List Macro) (ps : List Procedure) (a : Place) (us : List Token) → main_from m k f ms ps (mark a open_brace us) ≡ resume m k j k f (in_main ms ps a) (machine.begin no_labels (bottom none)) us
main_resumed m j k f ms ps a us =
    (let o = run m k (machine.begin no_labels (bottom none)) us in
    let go = finish f ms ps in
    then_assoc o (λ ss. a_mark close_brace >>= λ b. read_semicolon >>= λ c. gives (block a ss b c)) go
    ∙ then_same o _ _ (λ ss vs. then_assoc (a_mark close_brace vs) (λ b. read_semicolon >>= λ c. gives (block a ss b c)) go ∙ then_same (a_mark close_brace vs) _ _ (λ b ws. then_assoc (read_semicolon ws) (λ c. gives (block a ss b c)) go)))
