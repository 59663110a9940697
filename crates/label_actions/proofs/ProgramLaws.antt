-- The units of a program: its procedures with those who take their steps, and what runs.
use Rattle.std.proofs.Common.{◌≡◌, ℕ, suc, ◌≤◌, List, [], ◌∷◌, length, map, cond, refl, ap, subst, ◌∙◌, inl, arith}
use Rattle.std.proofs.lemmas.Simd.{map-map}
use Rattle.tla_tree.specs.Tree.{Tree}
use Rattle.tla_tree.specs.Pool.{Keeps}
use Rattle.pcal_tree.specs.declared.algorithm.Procedure as code_procedure
use Rattle.pcal_tree.specs.declared.algorithm.Process as code_process
use Rattle.pcal_tree.specs.Algorithm.{Procedure, Process, Statements, alone, processes, Routine, numbered, procedure_routine, process_routine, alone_routine, first_procedure, first_process, procedure_routines, main_routines, routines, Algorithm}
use Rattle.pcal_tree.specs.InMemory.{procedure_at, process_at, past_process}
use Rattle.pcal_tree.specs.Processes.{OneOf}
use Rattle.pcal_tree.specs.Takers.{Takers, each_of, single, takers_of, Taken}
use Rattle.pcal_tree.proofs.TroubleLaws.{one_left, one_right}
use Rattle.action_builder.specs.LabelActions.{procedure_takers, taken_procedures}
use Rattle.module_formulas.specs.TakersIn.{taken, taken_procedure}
use Rattle.label_actions.specs.Units.{titles_of}

pub titles_are : (ts : List Tree) (ps : List code_procedure.Procedure) → map (λ (p : Procedure). p.name.word) (map (procedure_at ts) ps) ≡ titles_of ps
titles_are ts ps = map-map (λ (p : Procedure). p.name.word) (procedure_at ts) ps

taken_are : (t : Takers) (n : ℕ) (ps : List Procedure) → numbered (taken_procedure t) n ps ≡ map (taken t) (numbered procedure_routine n ps)
taken_are t n [] = refl
taken_are t n (p ∷ ps) = ap (λ (l : List Taken). taken t (procedure_routine n p) ∷ l) (taken_are t (suc n) ps)

module _ (a : Algorithm) where
  pub procedures_taken : (t : Takers) (n : ℕ) (ps : List Procedure) → t ≡ procedure_takers a.main → n ≡ first_procedure a → ps ≡ a.procedures → numbered (taken_procedure t) n ps ≡ taken_procedures a
  procedures_taken t n ps e f g = taken_are t n ps ∙ (λ j. map (taken (e j)) (numbered procedure_routine (f j) (g j)))

  pub procedure_one : (n : ℕ) (ps : List Procedure) → n ≡ first_procedure a → ps ≡ a.procedures → (u : Routine) → OneOf u (numbered procedure_routine n ps) → OneOf u (routines a)
  procedure_one n ps f g u h = one_left u (procedure_routines a) (main_routines a a.main) (subst (OneOf u) (λ j. numbered procedure_routine (f j) (g j)) h)

  pub process_one : (n : ℕ) (ps : List Process) → n ≡ first_process a → processes ps ≡ a.main → (u : Routine) → OneOf u (numbered process_routine n ps) → OneOf u (routines a)
  process_one n ps f q u h = one_right u (procedure_routines a) (main_routines a a.main) (subst (OneOf u) ((λ j. numbered process_routine (f j) ps) ∙ ap (main_routines a) q) h)

  pub alone_one : (ss : Statements) → alone ss ≡ a.main → OneOf (alone_routine a ss) (routines a)
  alone_one ss q = one_right (alone_routine a ss) (procedure_routines a) (main_routines a a.main) (subst (OneOf (alone_routine a ss)) (ap (main_routines a) q) (inl refl))

-- as the pool grows
pub takers_kept : (ts us : List Tree) → Keeps ts us → (p : code_process.Process) → past_process p ≤ length ts → takers_of (process_at us p) ≡ takers_of (process_at ts p)
takers_kept ts us k p h = λ j. cond p.several (each_of (k.same p.identity (omega (arith, h)) j)) (single (k.same p.identity (omega (arith, h)) j))
