-- The written names of procedures are variables of the translation.
use Rattle.std.proofs.Common.{◌≡◌, ℕ, zero, suc, ◌+◌, ◌<◌, Bool, true, false, ◌||◌, bytes_eq, List, [], ◌∷◌, ◌++◌, length, get_or, refl, sym, ap, subst, arith}
use Rattle.std.proofs.lemmas.Slice.Eq.{bytes_eq-Decides}
use Rattle.tla_token.specs.Signs.{is_among}
use Rattle.tla_tree.specs.Tree.{Word, Each}
use Rattle.pcal_tree.specs.Algorithm.{Procedure, locals, procedure_routine, numbered, procedure_routines, main_routines}
use Rattle.pcal_tree.specs.Program.{Program}
use Rattle.pcal_tree.specs.Variables.{pc, declared, stack_for, written_all, written_by_all, vars}
use Rattle.step_moves.specs.Prepared.{prepared_procedure}
use Rattle.step_moves.proofs.PreparedLaws.{names_alike}
use Rattle.step_moves.proofs.SettingLaws.{among_later, among_before}

or_left : {b : Bool} (c : Bool) → b ≡ true → (b || c) ≡ true
or_left c e = ap (λ (b : Bool). b || c) e

or_right : (b : Bool) {c : Bool} → c ≡ true → (b || c) ≡ true
or_right true e = refl
or_right false e = e

each_more : (P Q : Word → Type 0) → ((x : Word) → P x → Q x) → (xs : List Word) → Each P xs → Each Q xs
each_more P Q f [] h = tt
each_more P Q f (x ∷ xs) h = (f x h.0, each_more P Q f xs h.1)

each_left : (P : Word → Type 0) (xs ys : List Word) → Each P (xs ++ ys) → Each P xs
each_left P [] ys h = tt
each_left P (x ∷ xs) ys h = (h.0, each_left P xs ys h.1)

each_right : (P : Word → Type 0) (xs ys : List Word) → Each P (xs ++ ys) → Each P ys
each_right P [] ys h = h
each_right P (x ∷ xs) ys h = each_right P xs ys h.1

all_among : (xs : List Word) → Each (λ x. is_among xs x ≡ true) xs
all_among [] = tt
all_among (y ∷ ys) =
    (or_left (is_among ys y) ((bytes_eq-Decides y y).1 refl), each_more (λ x. is_among ys x ≡ true) (λ x. is_among (y ∷ ys) x ≡ true) (λ x e. or_right (bytes_eq y x) e) ys (all_among ys))

pub procedures_among : (P : Program) → Each (λ x. is_among (vars P) x ≡ true) (written_by_all P (procedure_routines P.algorithm))
procedures_among P =
    let us = procedure_routines P.algorithm in
    let own = written_by_all P us in
    let first = declared P.algorithm.globals ++ (pc ∷ stack_for us) in
    each_more (λ x. is_among own x ≡ true) (λ x. is_among (vars P) x ≡ true)
    (λ x e. among_before (first ++ own) (written_by_all P (main_routines P.algorithm P.algorithm.main)) x (among_later first own x e)) own (all_among own)

-- the names of the prepared procedure with this number are among those of all procedures
pub callee_among : (P : Program) (N : Word → Type 0) (n : ℕ) (ps : List Procedure) (i k : ℕ) (q : Procedure) → i < length (numbered (prepared_procedure P) n ps)
    → q ≡ get_or (numbered (prepared_procedure P) n ps) i q → k ≡ n + i → Each N (written_by_all P (numbered procedure_routine n ps)) → Each N (written_all P (procedure_routine k q) (q.params ++ q.variables))
callee_among P N n [] i k q less is e h = absurd (omega (arith, less))
callee_among P N n (p ∷ ps) zero k q less is e h =
    let u = procedure_routine n p in
    let own : Each N (written_all P u (locals u)) = each_left N (written_all P u (locals u)) (written_by_all P (numbered procedure_routine (suc n) ps)) h in
    let same : k ≡ n = omega (arith, e) in
    subst (λ (x : ℕ × Procedure). Each N (written_all P (procedure_routine x.0 x.1) (x.1.params ++ x.1.variables))) (λ j. (sym same j, sym is j))
    (subst (Each N) (sym (names_alike P u)) own)
callee_among P N n (p ∷ ps) (suc i) k q less is e h =
    let u = procedure_routine n p in
    callee_among P N (suc n) ps i k q (omega (arith, less)) is (omega (arith, e)) (each_right N (written_all P u (locals u)) (written_by_all P (numbered procedure_routine (suc n) ps)) h)
