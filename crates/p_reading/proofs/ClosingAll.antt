-- What stands open in the lists of statements of an algorithm is closed, up to the end of the algorithm.
use Rattle.std.proofs.Common.{◌≡◌, ℕ, zero, suc, ◌+◌, ◌*◌, ◌≤◌, List, [], ◌∷◌, ◌++◌, length, None, Ok, Err, refl, ap, arith, length-append, codes}
use Rattle.tla_token.specs.declared.place.Place.{Place}
use Rattle.tla_token.specs.Places.{nowhere}
use Rattle.tla_tree.specs.Lexical.{Token}
use Rattle.tla_tree.specs.Reader.{Out, gives, then_read}
use Rattle.pcal_tree.specs.GrammarParts.{key, no_labels, skip}
use Rattle.pcal_tree.specs.GrammarP.{simple, Sequence, last_statement}
use Rattle.pcal_tree.specs.Grammar.{Body, begin_end, Macro, Procedure, Process, Main, begin, to_end, Text}
use Rattle.syntax_reading.specs.TokenReaders.{Parts}
use Rattle.syntax_reading.proofs.Whole.{then_is}
use Rattle.syntax_reading.specs.Owners.{Owner, in_macro, in_procedure, in_process, in_main, main_of}
use Rattle.syntax_reading.proofs.OneAfter.{same_read}
use Rattle.p_reading.specs.ReadStatements.{State, Turn, none, bottom, on, step, turned, run, ends_with, rest, open_in}
use Rattle.p_reading.specs.ReadStatements as machine
use Rattle.p_reading.specs.Resume.{Front, finish, main_from, resume, after_list, rest_of_all, macros_from, procedures_from, processes_from, main_rest, end_rest}
use Rattle.p_reading.proofs.Closing.{closed_by_rest, few_rest}

abbrev Closed : Parts → ℕ → ℕ → ℕ → Front → Owner → State → Type 0
Closed m k j n f o s = (x : Text) × (resume m k j n f o s (rest_of_all o s) ≡ Ok (x, []))

-- the shortest main part
abbrev a_main : Main
a_main = begin nowhere (last_statement no_labels (simple (skip nowhere)) None)

abbrev closed_body : Place → Sequence → Body
closed_body a ss = begin_end a ss nowhere nowhere None

abbrev whole : Front → List Macro → List Procedure → Main → Text
whole f ms ps b = record { head = f.head; name = f.name; around = to_end nowhere nowhere; variables = f.variables; define = f.define; macros = ms; procedures = ps; main = b }

-- where enough steps are left
closed_on : (m : Parts) (k j n : ℕ) (f : Front) (o : Owner) (s : State) → suc (length (rest s)) ≤ n → Closed m (suc (suc (suc k))) (suc j) n f o s
closed_on m k j n f (in_macro ns p x xs a) s l =
    (let w = closed_by_rest m n s nowhere (key nowhere (codes "macro") (key nowhere (codes "begin") (key nowhere (codes "skip") (ends_with (codes "algorithm") [])))) l in
    let y : Macro = record { place = p; name = x; parameters = xs; body = closed_body a w.0 } in
    (whole f ((ns ++ y ∷ []) ++ []) [] a_main, then_is _ (then_is _ w.1 refl) refl))
closed_on m k j n f (in_procedure ms qs p x xs vs a) s l =
    (let w = closed_by_rest m n s nowhere (key nowhere (codes "procedure") (key nowhere (codes "begin") (key nowhere (codes "skip") (ends_with (codes "algorithm") [])))) l in
    let y : Procedure = record { place = p; name = x; parameters = xs; variables = vs; body = closed_body a w.0 } in
    (whole f ms ((qs ++ y ∷ []) ++ []) a_main, then_is _ (then_is _ w.1 refl) refl))
closed_on m k j n f (in_process ms ps ys q p x vs a) s l =
    (let w = closed_by_rest m n s nowhere (key nowhere (codes "process") (ends_with (codes "algorithm") [])) l in
    let y : Process = record { fair = q; place = p; identity = x; variables = vs; body = closed_body a w.0 } in
    (whole f ms ps (main_of ys y []), then_is _ (then_is _ w.1 refl) refl))
closed_on m k j n f (in_main ms ps a) s l = (let w = closed_by_rest m n s nowhere (key nowhere (codes "algorithm") []) l in (whole f ms ps (begin a w.0), then_is _ w.1 refl))

pub all_closed : (m : Parts) (k j n : ℕ) (f : Front) (o : Owner) (s : State) → 3 ≤ k → 1 ≤ j → suc (length (rest s)) ≤ n → Closed m k j n f o s
all_closed m zero j n f o s a b l = absurd (omega (arith, a))
all_closed m (suc zero) j n f o s a b l = absurd (omega (arith, a))
all_closed m (suc (suc zero)) j n f o s a b l = absurd (omega (arith, a))
all_closed m (suc (suc (suc k))) zero n f o s a b l = absurd (omega (arith, b))
all_closed m (suc (suc (suc k))) (suc j) n f o s a b l = closed_on m k j n f o s l

-- and between the parts, where as many steps are left
pub macros_closed : (m : Parts) (k j : ℕ) (f : Front) (ns : List Macro) → 3 ≤ k → 1 ≤ j → (x : Text) × (macros_from m k j f ns main_rest ≡ Ok (x, []))
macros_closed m zero j f ns a b = absurd (omega (arith, a))
macros_closed m (suc zero) j f ns a b = absurd (omega (arith, a))
macros_closed m (suc (suc zero)) j f ns a b = absurd (omega (arith, a))
macros_closed m (suc (suc (suc k))) zero f ns a b = absurd (omega (arith, b))
macros_closed m (suc (suc (suc k))) (suc j) f ns a b = (whole f (ns ++ []) [] a_main, refl)

pub procedures_closed : (m : Parts) (j k : ℕ) (f : Front) (ms : List Macro) (qs : List Procedure) → 3 ≤ k → 1 ≤ j → (x : Text) × (procedures_from m j k f ms qs main_rest ≡ Ok (x, []))
procedures_closed m j zero f ms qs a b = absurd (omega (arith, a))
procedures_closed m j (suc zero) f ms qs a b = absurd (omega (arith, a))
procedures_closed m j (suc (suc zero)) f ms qs a b = absurd (omega (arith, a))
procedures_closed m zero (suc (suc (suc k))) f ms qs a b = absurd (omega (arith, b))
procedures_closed m (suc j) (suc (suc (suc k))) f ms qs a b = (whole f ms (qs ++ []) a_main, refl)

pub processes_closed : (m : Parts) (j : ℕ) (f : Front) (ms : List Macro) (ps : List Procedure) (ys : List Process) (y : Process) → 1 ≤ j → (x : Text) × (processes_from m j f ms ps ys y end_rest ≡ Ok (x, []))
processes_closed m zero f ms ps ys y b = absurd (omega (arith, b))
processes_closed m (suc j) f ms ps ys y b = (whole f ms ps (main_of ys y []), refl)

after_few : (o : Owner) → length (after_list o) ≤ 6
after_few (in_macro ns p x xs a) = omega arith
after_few (in_procedure ms qs p x xs vs a) = omega arith
after_few (in_process ms ps ys q p x vs a) = omega arith
after_few (in_main ms ps a) = omega arith

pub few_in_all : (o : Owner) (s : State) → length (rest_of_all o s) ≤ 4 * open_in s + 7
few_in_all o s = (let a = length-append (rest s) (after_list o) in let b = few_rest s in let c = after_few o in omega (arith, a, b, c))

-- ---- reading goes from state to state
run_on : (m : Parts) (n : ℕ) (s : State) (ts : List Token) (t : State) (us : List Token) → step m n s ts ≡ Ok (on t, us) → run m (suc n) s ts ≡ run m n t us
run_on m n s ts t us e = ap (λ (o : Out Turn). then_read o (turned (run m n))) e

pub resumed_on : (m : Parts) (k j n : ℕ) (f : Front) (o : Owner) (s : State) (ts : List Token) (t : State) (us : List Token) → step m n s ts ≡ Ok (on t, us) → resume m k j (suc n) f o s ts ≡ resume m k j n f o t us
resumed_on m k j n f (in_macro ns p x xs a) s ts t us e = same_read _ (same_read _ (run_on m n s ts t us e))
resumed_on m k j n f (in_procedure ms qs p x xs vs a) s ts t us e = same_read _ (same_read _ (run_on m n s ts t us e))
resumed_on m k j n f (in_process ms ps ys q p x vs a) s ts t us e = same_read _ (same_read _ (run_on m n s ts t us e))
resumed_on m k j n f (in_main ms ps a) s ts t us e = same_read _ (run_on m n s ts t us e)

-- and it begins with the first state of a list
main_then : (o : Out Sequence) (f : Front) (ms : List Macro) (ps : List Procedure) (a : Place) → then_read (then_read o (λ ss. gives (begin a ss))) (finish f ms ps) ≡ then_read o (λ ss. finish f ms ps (begin a ss))
main_then (Ok w) f ms ps a = refl
main_then (Err u) f ms ps a = refl

pub main_resumed : (m : Parts) (j k : ℕ) (f : Front) (ms : List Macro) (ps : List Procedure) (a : Place) (us : List Token) → main_from m k f ms ps (key a (codes "begin") us) ≡ resume m k j k f (in_main ms ps a) (machine.begin none no_labels bottom) us
main_resumed m j k f ms ps a us = main_then (run m k (machine.begin none no_labels bottom) us) f ms ps a
