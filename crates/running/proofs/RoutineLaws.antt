-- Procedures and processes in memory, prepared part by part as the pool grows.
use Rattle.std.proofs.Common.{◌≡◌, ℕ, ◌+◌, ◌≤◌, List, ◌++◌, length, map, Vec, Global, refl, sym, ap, ◌∙◌, arith}
use Rattle.std.proofs.lemmas.List.{length-map}
use Rattle.tla_token.specs.Signs.{is_among}
use Rattle.tla_tree.specs.Tree.{Word, Name, Tree}
use Rattle.tla_tree.specs.Pool.{Keeps}
use Rattle.tla_tree.proofs.PoolNumbers.{Keeps-then}
use Rattle.pcal_tree.specs.declared.algorithm.Stmt.{Stmt}
use Rattle.pcal_tree.specs.declared.algorithm.Declaration as code
use Rattle.pcal_tree.specs.declared.algorithm.Macro as code_macro
use Rattle.pcal_tree.specs.declared.algorithm.Procedure as code_procedure
use Rattle.pcal_tree.specs.declared.algorithm.Process as code_process
use Rattle.pcal_tree.specs.Algorithm.{declares, Routine, procedure_routine, process_routine, first_procedure, first_process, Algorithm}
use Rattle.pcal_tree.specs.InMemory.{statements_at, declarations_at, macro_at, procedure_at, process_at, past_declarations, past_procedure, past_process}
use Rattle.pcal_tree.specs.Program.{Program}
use Rattle.pcal_tree.proofs.InMemoryGrown.{declarations_at-kept, statements_at-kept}
use Rattle.step_walks.specs.WrittenFlows.{own_statements}
use Rattle.step_moves.specs.Prepared.{prepared_declarations, prepared_procedure, prepared_process}
use Rattle.draft.specs.declared.draft.Draft.{Draft}
use Rattle.draft.specs.Drafts.{IsDraft}
use Rattle.draft.specs.RoutineNames.{words_of}
use Rattle.draft.proofs.Grown.{draft_kept}
use Rattle.draft.proofs.NameLaws.{both_declared}

pub keeps_all : (ts : List Tree) → Keeps ts ts
keeps_all ts = record { longer = omega arith; same = λ i h. refl }

-- names of parameters and of variables are what the routine declares
pub names_declared : (ts : List Tree) (ps vs qs ds : List code.Declaration) (ks : List Word) → qs ≡ ps → ds ≡ vs → ((x : Word) → is_among ks x ≡ is_among (words_of qs ++ words_of ds) x)
    → (x : Word) → is_among ks x ≡ declares (declarations_at ts ps ++ declarations_at ts vs) x
names_declared ts ps vs qs ds ks e f h x = h x ∙ (λ j. is_among (words_of (e j) ++ words_of (f j)) x) ∙ ap (λ (l : List Word). is_among l x) (sym (both_declared ts ps vs))

-- the macros stay those of the program
pub macros_stand : (ts us : List Tree) → Keeps ts us → (d : Draft) (P : Program) → IsDraft ts d P → (ms : List code_macro.Macro) → ms ≡ d.algorithm.now.macros.items
    → map (macro_at us) ms ≡ P.algorithm.macros
macros_stand ts us k d P h ms e = ap (map (macro_at us)) e ∙ ap (λ (a : Algorithm). a.macros) (draft_kept ts us k d P h).algorithm

-- the numbers of the first procedure and of the first process
module _ (ts : List Tree) (d : Draft) (P : Program) (is : IsDraft ts d P) (n : ℕ) (first : n ≡ length d.algorithm.now.macros.items) where
  pub first_stands : n ≡ first_procedure P.algorithm
  first_stands = first ∙ sym (length-map d.algorithm.now.macros.items (macro_at ts)) ∙ ap first_procedure is.algorithm

  pub next_stands : (m k : ℕ) → m ≡ length d.algorithm.now.procedures.items → k ≡ n + m → k ≡ first_process P.algorithm
  next_stands m k many e =
      e
      ∙ (λ j. (first ∙ sym (length-map d.algorithm.now.macros.items (macro_at ts))) j + (many ∙ sym (length-map d.algorithm.now.procedures.items (procedure_at ts))) j)
      ∙ ap first_process is.algorithm

-- ---- procedures: first parameters, then variables, and then the body

module _ (ts us vs ws : List Tree) (k : Keeps ts us) (l : Keeps us vs) (m : Keeps vs ws) (P : Program) (n : ℕ) (p : code_procedure.Procedure) (there : past_procedure p ≤ length ts) where
  abbrev the_routine : Routine
  the_routine = procedure_routine n (procedure_at ts p)

  pub procedure_prepared : (x : Name) (qs ds : Vec code.Declaration Global) (b : Vec Stmt Global) → x ≡ p.name
      → past_declarations qs.items ≤ length us → declarations_at us qs.items ≡ prepared_declarations P the_routine (declarations_at ts p.params.items)
      → past_declarations ds.items ≤ length vs → declarations_at vs ds.items ≡ prepared_declarations P the_routine (declarations_at us p.variables.items)
      → statements_at ws b.items ≡ own_statements P the_routine (statements_at vs p.body.items)
      → procedure_at ws (record { name = x; params = qs; variables = ds; body = b }) ≡ prepared_procedure P n (procedure_at ts p)
  procedure_prepared x qs ds b named q_within q_made d_within d_made b_made = λ j. record {
    name = named j;
    params = (declarations_at-kept us ws (Keeps-then us vs ws l m) qs.items q_within ∙ q_made) j;
    variables = (
        declarations_at-kept vs ws m ds.items d_within ∙ d_made
        ∙ ap (prepared_declarations P the_routine) (declarations_at-kept ts us k p.variables.items (omega (arith, there)))) j;
    body = (b_made ∙ ap (own_statements P the_routine) (statements_at-kept ts vs (Keeps-then ts us vs k l) p.body.items (omega (arith, there)))) j;
  }

-- ---- processes: first variables, and then the body

module _ (ts us vs : List Tree) (k : Keeps ts us) (l : Keeps us vs) (P : Program) (n : ℕ) (p : code_process.Process) (there : past_process p ≤ length ts) where
  abbrev this_routine : Routine
  this_routine = process_routine n (process_at ts p)

  pub process_prepared : (x : Name) (ds : Vec code.Declaration Global) (b : Vec Stmt Global) → x ≡ p.name
      → past_declarations ds.items ≤ length us → declarations_at us ds.items ≡ prepared_declarations P this_routine (declarations_at ts p.variables.items)
      → statements_at vs b.items ≡ own_statements P this_routine (statements_at us p.body.items)
      → process_at vs (record { name = x; fairness = p.fairness; several = p.several; identity = p.identity; variables = ds; body = b }) ≡ prepared_process P n (process_at ts p)
  process_prepared x ds b named d_within d_made b_made = λ j. record {
    name = named j;
    fairness = p.fairness;
    several = p.several;
    identity = (Keeps-then ts us vs k l).same p.identity (omega (arith, there)) j;
    variables = (declarations_at-kept us vs l ds.items d_within ∙ d_made) j;
    body = (b_made ∙ ap (own_statements P this_routine) (statements_at-kept ts us k p.body.items (omega (arith, there)))) j;
  }
