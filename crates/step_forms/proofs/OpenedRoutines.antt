-- The routines of an algorithm with its macro calls written out, their variables, and the variables of the translation.
use Rattle.std.proofs.Common.{◌≡◌, ℕ, suc, ◌+◌, List, [], ◌∷◌, ◌++◌, map, length, reverse, Bool, true, false, cond, bytes_eq, Option, Some, None, refl, ◌∙◌, ap}
use Rattle.std.specs.List.{filter}
use Rattle.tla_token.specs.Signs.{is_among}
use Rattle.tla_tree.specs.Tree.{Word, Tree, graft}
use Rattle.tla_value.specs.Grafts.{owned}
use Rattle.module_tree.specs.Formulas.{self, named, quoted, equal}
use Rattle.pcal_tree.specs.Algorithm.{Procedure, Process, Main, alone, processes, Routine, procedure_routine, process_routine, numbered, first_process, procedure_routines, alone_routine, main_routines, Algorithm}
use Rattle.pcal_tree.specs.Calls.{label_name, routine_named}
use Rattle.pcal_tree.specs.Expand.{expanded}
use Rattle.pcal_tree.specs.Program.{Program}
use Rattle.pcal_tree.specs.Takers.{lone, taken_process, taken_main}
use Rattle.pcal_tree.specs.Variables.{declared, pc, stack_for, written_by_all, vars}
use Rattle.macro_expand.specs.Size.{expanded_main}
use Rattle.action_builder.specs.LabelActions.{procedure_takers, taken_procedures, at_test}
use Rattle.action_builder.specs.OwnVariables.{own_under, own_variables, is_own_variable, localised}
use Rattle.step_forms.specs.Opened.{opened, opened_program, opened_routine, opened_taken}

pub length_mapped : {X Y : Type 0} (f : X → Y) (xs : List X) → length (map f xs) ≡ length xs
length_mapped f [] = refl
length_mapped f (x ∷ xs) = ap suc (length_mapped f xs)

numbered_mapped : {A B : Type 0} (f : ℕ → A → B) (g : A → A) (h : B → B) → ((n : ℕ) (x : A) → f n (g x) ≡ h (f n x)) → (n : ℕ) (xs : List A) → numbered f n (map g xs) ≡ map h (numbered f n xs)
numbered_mapped f g h e n [] = refl
numbered_mapped f g h e n (x ∷ xs) = λ i. e n x i ∷ numbered_mapped f g h e (suc n) xs i

-- ---- routines

abbrev pub opened_option : Algorithm → Option Routine → Option Routine
opened_option a None = None
opened_option a (Some u) = Some (opened_routine a u)

abbrev pub opened_main : Algorithm → Main → Main
opened_main a m = expanded_main (expanded (reverse a.macros)) m

abbrev pub opened_process : Algorithm → Process → Process
opened_process a p = record p { body = expanded (reverse a.macros) p.body }

module _ (a : Algorithm) where
  pub first_process_opened : first_process (opened a) ≡ first_process a
  first_process_opened = ap (λ n. length a.macros + n) (length_mapped (λ (p : Procedure). record { name = p.name; params = p.params; variables = p.variables; body = expanded (reverse a.macros) p.body }) a.procedures)

  pub procedures_opened : procedure_routines (opened a) ≡ map (opened_routine a) (procedure_routines a)
  procedures_opened = numbered_mapped procedure_routine _ (opened_routine a) (λ n p. refl) (length a.macros) a.procedures

  pub mains_opened : (m : Main) → main_routines (opened a) (opened_main a m) ≡ map (opened_routine a) (main_routines a m)
  mains_opened (alone ss) = ap (λ n. record { number = n; name = a.name; params = []; variables = []; spread = false; body = expanded (reverse a.macros) ss; exit = (alone_routine a ss).exit } ∷ []) first_process_opened
  mains_opened (processes ps) = ap (λ n. numbered process_routine n (map (opened_process a) ps)) first_process_opened ∙ numbered_mapped process_routine (opened_process a) (opened_routine a) (λ n p. refl) (first_process a) ps

  pub taken_main_opened : (m : Main) → taken_main (opened a) (opened_main a m) ≡ map (opened_taken a) (taken_main a m)
  taken_main_opened (alone ss) = ap (λ us. map (λ (u : Routine). record { takers = lone; routine = u }) us) (mains_opened (alone ss))
  taken_main_opened (processes ps) = ap (λ n. numbered taken_process n (map (opened_process a) ps)) first_process_opened ∙ numbered_mapped taken_process (opened_process a) (opened_taken a) (λ n p. refl) (first_process a) ps

  takers_opened : (m : Main) → procedure_takers (opened_main a m) ≡ procedure_takers m
  takers_opened (alone ss) = refl
  takers_opened (processes ps) = refl

  pub taken_procedures_opened : taken_procedures (opened a) ≡ map (opened_taken a) (taken_procedures a)
  taken_procedures_opened =
      (λ i. map (λ (u : Routine). record { takers = takers_opened a.main i; routine = u }) (procedures_opened i))
      ∙ taken_mapped (procedure_routines a)
    where
      taken_mapped : (us : List Routine) → map (λ (u : Routine). record { takers = procedure_takers a.main; routine = u }) (map (opened_routine a) us) ≡ map (opened_taken a) (map (λ (u : Routine). record { takers = procedure_takers a.main; routine = u }) us)
      taken_mapped [] = refl
      taken_mapped (u ∷ us) = ap (λ ts. record { takers = procedure_takers a.main; routine = opened_routine a u } ∷ ts) (taken_mapped us)

  pub named_opened : (x : Word) (us : List Routine) → routine_named x (map (opened_routine a) us) ≡ opened_option a (routine_named x us)
  named_opened x [] = refl
  named_opened x (u ∷ us) = by (bytes_eq u.name.word x) (named_opened x us)
    where
      by : (b : Bool) → routine_named x (map (opened_routine a) us) ≡ opened_option a (routine_named x us)
          → cond b (Some (opened_routine a u)) (routine_named x (map (opened_routine a) us)) ≡ opened_option a (cond b (Some u) (routine_named x us))
      by true e = refl
      by false e = e

-- ---- variables

module _ (P : Program) where
  abbrev Q : Program
  Q = opened_program P

  abbrev O : Routine → Routine
  O u = opened_routine P.algorithm u

  stack_opened : (us : List Routine) → stack_for (map O us) ≡ stack_for us
  stack_opened [] = refl
  stack_opened (u ∷ us) = refl

  written_opened : (us : List Routine) → written_by_all Q (map O us) ≡ written_by_all P us
  written_opened [] = refl
  written_opened (u ∷ us) = ap (λ xs. map (P.naming.local u.number) (declared (u.params ++ u.variables)) ++ xs) (written_opened us)

  spread_opened : (us : List Routine) → filter (λ (u : Routine). u.spread) (map O us) ≡ map O (filter (λ (u : Routine). u.spread) us)
  spread_opened [] = refl
  spread_opened (u ∷ us) = by u.spread (spread_opened us)
    where
      by : (b : Bool) → filter (λ (v : Routine). v.spread) (map O us) ≡ map O (filter (λ (v : Routine). v.spread) us)
          → cond b (O u ∷ filter (λ (v : Routine). v.spread) (map O us)) (filter (λ (v : Routine). v.spread) (map O us)) ≡ map O (cond b (u ∷ filter (λ (v : Routine). v.spread) us) (filter (λ (v : Routine). v.spread) us))
      by true e = ap (λ vs. O u ∷ vs) e
      by false e = e

  pub vars_opened : vars Q ≡ vars P
  vars_opened = λ i. declared P.algorithm.globals ++ (pc ∷ (ap stack_for (procedures_opened P.algorithm) ∙ stack_opened (procedure_routines P.algorithm)) i)
      ++ (ap (written_by_all Q) (procedures_opened P.algorithm) ∙ written_opened (procedure_routines P.algorithm)) i
      ++ (ap (written_by_all Q) (mains_opened P.algorithm P.algorithm.main) ∙ written_opened (main_routines P.algorithm P.algorithm.main)) i

  own_opened_under : (us vs : List Routine) (m : Main) → own_under Q (map O us) (map O vs) (opened_main P.algorithm m) ≡ own_under P us vs m
  own_opened_under us vs (alone ss) = refl
  own_opened_under us vs (processes ps) =
      λ i. pc ∷ stack_opened us i ++ written_opened us i ++ (ap (written_by_all Q) (spread_opened vs) ∙ written_opened (filter (λ (u : Routine). u.spread) vs)) i

  pub own_opened : own_variables Q ≡ own_variables P
  own_opened =
      (λ i. own_under Q (procedures_opened P.algorithm i) (mains_opened P.algorithm P.algorithm.main i) (opened_main P.algorithm P.algorithm.main))
      ∙ own_opened_under (procedure_routines P.algorithm) (main_routines P.algorithm P.algorithm.main) P.algorithm.main

  pub is_own_opened : is_own_variable Q ≡ is_own_variable P
  is_own_opened = λ i x. is_among (own_opened i) x

  pub localised_opened : (e : Tree) → localised Q e ≡ localised P e
  localised_opened e = ap (λ f. graft (owned self f) e) is_own_opened

  pub at_test_opened : (u : Routine) (l : Word) → at_test Q (O u) l ≡ at_test P u l
  at_test_opened u l = localised_opened (equal (named pc) (quoted (label_name P u l)))
