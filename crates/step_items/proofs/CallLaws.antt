-- Which routine a call enters: the first procedure of the name.
use Rattle.std.proofs.Common.{◌≡◌, ℕ, suc, ◌+◌, ◌≤◌, List, [], ◌∷◌, ◌++◌, length, map, Bool, true, false, cond, not, bytes_eq, MatchOption, Option, Some, None, refl, sym, ap, subst, ◌∙◌, arith}
use Rattle.std.specs.Prelude.{nat_lt, position, slice_get}
use Rattle.std.specs.List.{position_or_len}
use Rattle.std.specs.Option.{option_map}
use Rattle.std.proofs.lemmas.Bool.{ltb-false}
use Rattle.std.proofs.lemmas.List.{length-map}
use Rattle.std.proofs.lemmas.Option.{none-some, same_Some, slice_get-map, slice_get_past}
use Rattle.tla_tree.specs.Tree.{Word, Tree}
use Rattle.pcal_tree.specs.declared.algorithm.Algorithm as code
use Rattle.pcal_tree.specs.declared.algorithm.Procedure as code_procedure
use Rattle.pcal_tree.specs.Algorithm.{Procedure, Routine, locals, numbered, procedure_routine, procedure_routines, main_routines, Algorithm}
use Rattle.pcal_tree.specs.Calls.{routine_named}
use Rattle.pcal_tree.specs.InMemory.{macro_at, procedure_at, algorithm_at}
use Rattle.pcal_tree.specs.Processes.{OneOf}
use Rattle.pcal_tree.specs.Program.{Program}
use Rattle.pcal_tree.specs.Variables.{declared}
use Rattle.pcal_tree.proofs.OneStand.{one_number}
use Rattle.pcal_tree.proofs.TroubleLaws.{one_left}
use Rattle.draft.specs.RoutineNames.{words_of}
use Rattle.draft.proofs.NameLaws.{both_declared}
use Rattle.step_items.specs.declared.desk.Desk.{Desk}
use Rattle.step_items.specs.Desks.{IsDesk}

pub on_none : {T : Type 0} (o : Option T) (A : Type 0) (B : T → Type 0) → o ≡ None → A → MatchOption o A B
on_none o A B e a = subst (λ r. MatchOption r A B) (sym e) a

abbrev title : Procedure → Word
title p = p.name.word

abbrev is_named : Word → Word → Bool
is_named x v = bytes_eq v x

-- of procedures of which the first has the number n
first_named : (x : Word) (ps : List Procedure) (n : ℕ)
    → routine_named x (numbered procedure_routine n ps) ≡ option_map (procedure_routine (n + position_or_len (is_named x) (map title ps))) (slice_get ps (position_or_len (is_named x) (map title ps)))
first_named x [] n = refl
first_named x (p ∷ ps) n = by (first_named x ps (suc n)) (bytes_eq (title p) x)
  where
    i : ℕ
    i = position_or_len (is_named x) (map title ps)

    by : routine_named x (numbered procedure_routine (suc n) ps) ≡ option_map (procedure_routine (suc n + i)) (slice_get ps i) → (b : Bool)
        → cond b (Some (procedure_routine n p)) (routine_named x (numbered procedure_routine (suc n) ps)) ≡ option_map (procedure_routine (n + cond (not b) (1 + i) 0)) (slice_get (p ∷ ps) (cond (not b) (1 + i) 0))
    by rest true = let same : n ≡ n + 0 = omega arith in ap (λ (m : ℕ). Some (procedure_routine m p)) same
    by rest false =
        let on : suc i ≡ 1 + i = omega arith in
        let same : suc n + i ≡ n + (1 + i) = omega arith in
        rest ∙ (λ k. option_map (procedure_routine (same k)) (slice_get (p ∷ ps) (on k)))

position_is : (t : Word → Bool) (xs : List Word) (m : ℕ) → position t xs ≡ Some m → position_or_len t xs ≡ m
position_is t xs m = by (nat_lt (position_or_len t xs) (length xs))
  where
    by : (b : Bool) → cond b (Some (position_or_len t xs)) None ≡ Some m → position_or_len t xs ≡ m
    by true e = same_Some (position_or_len t xs) m e
    by false e = absurd (none-some m e)

position_past : (t : Word → Bool) (xs : List Word) → position t xs ≡ None → length xs ≤ position_or_len t xs
position_past t xs = by (nat_lt (position_or_len t xs) (length xs)) refl
  where
    by : (b : Bool) → nat_lt (position_or_len t xs) (length xs) ≡ b → cond b (Some (position_or_len t xs)) None ≡ None → length xs ≤ position_or_len t xs
    by true p e = absurd (none-some (position_or_len t xs) (sym e))
    by false p e = ltb-false (position_or_len t xs) (length xs) p

module _ (ts : List Tree) (a : code.Algorithm) (A : Algorithm) (same : algorithm_at ts a ≡ A) (titles : List Word) (listed : map title A.procedures ≡ titles) (x : Word) where
  first : routine_named x (procedure_routines A) ≡ option_map (procedure_routine (length a.macros.items + position_or_len (is_named x) titles)) (slice_get (map (procedure_at ts) a.procedures.items) (position_or_len (is_named x) titles))
  first =
      first_named x A.procedures (length A.macros)
      ∙ (λ i. option_map (procedure_routine (length (sym same i).macros + position_or_len (is_named x) (listed i))) (slice_get (sym same i).procedures (position_or_len (is_named x) (listed i))))
      ∙ ap (λ (n : ℕ). option_map (procedure_routine (n + position_or_len (is_named x) titles)) (slice_get (map (procedure_at ts) a.procedures.items) (position_or_len (is_named x) titles))) (length-map a.macros.items (macro_at ts))

  -- it is in the list
  pub called : (m : ℕ) (q : code_procedure.Procedure) → position (is_named x) titles ≡ Some m → slice_get a.procedures.items m ≡ Some q → routine_named x (procedure_routines A) ≡ Some (procedure_routine (length a.macros.items + m) (procedure_at ts q))
  called m q at there =
      first
      ∙ ap (λ (n : ℕ). option_map (procedure_routine (length a.macros.items + n)) (slice_get (map (procedure_at ts) a.procedures.items) n)) (position_is (is_named x) titles m at)
      ∙ ap (option_map (procedure_routine (length a.macros.items + m))) (slice_get-map (procedure_at ts) a.procedures.items m ∙ ap (option_map (procedure_at ts)) there)

  past : (m : ℕ) → position_or_len (is_named x) titles ≡ m → length a.procedures.items ≤ m → routine_named x (procedure_routines A) ≡ None
  past m at le =
      first
      ∙ ap (λ (n : ℕ). option_map (procedure_routine (length a.macros.items + n)) (slice_get (map (procedure_at ts) a.procedures.items) n)) at
      ∙ ap (option_map (procedure_routine (length a.macros.items + m))) (slice_get-map (procedure_at ts) a.procedures.items m ∙ ap (option_map (procedure_at ts)) (slice_get_past a.procedures.items m le))

  -- no name of the list
  pub called_none : position (is_named x) titles ≡ None → routine_named x (procedure_routines A) ≡ None
  called_none none =
      let as_many : length a.procedures.items ≡ length titles = sym (length-map a.procedures.items (procedure_at ts)) ∙ ap (λ (b : Algorithm). length b.procedures) same ∙ sym (length-map A.procedures title) ∙ ap length listed in
      past (position_or_len (is_named x) titles) refl (omega (arith, as_many, position_past (is_named x) titles none))

-- a routine of a program that has a procedure's number has the procedure's names
pub own_names : (ts : List Tree) (d : Desk) (P : Program) (u : Routine) (x : Option Tree) → IsDesk ts d P u x → (n : ℕ) (q : code_procedure.Procedure) → OneOf (procedure_routine n (procedure_at ts q)) (procedure_routines P.algorithm) → d.unit ≡ n
    → d.names.now ≡ words_of q.params.items ++ words_of q.variables.items
own_names ts d P u x h n q one e =
    let p : Routine = procedure_routine n (procedure_at ts q) in
    let same : u ≡ p = one_number P.algorithm u p h.one (one_left p (procedure_routines P.algorithm) (main_routines P.algorithm P.algorithm.main) one) (h.number ∙ e) in
    sym h.listed ∙ ap (λ (w : Routine). declared (locals w)) same ∙ both_declared ts q.params.items q.variables.items
