-- Procedures, processes and the one body in memory, with what all their actions are written from.
use Rattle.std.specs.Prelude.{◌≡◌, ◌<◌, ◌≤◌, ℕ, List, map}
use Rattle.tla_tree.specs.Tree.{Word, Tree}
use Rattle.tla_tree.specs.Pool.{at}
use Rattle.module_tree.specs.Formulas.{self, named}
use Rattle.pcal_tree.specs.declared.algorithm.Procedure as code_procedure
use Rattle.pcal_tree.specs.Algorithm.{Procedure}
use Rattle.pcal_tree.specs.InMemory.{declarations_at, statements_at, past_declarations, past_statements, past_algorithm}
use Rattle.pcal_tree.specs.Program.{Program}
use Rattle.pcal_tree.specs.Run.{unlabelled}
use Rattle.pcal_tree.specs.Takers.{Taken}
use Rattle.draft.specs.Drafts.{IsDraft}
use Rattle.module_formulas.specs.TakersIn.{taker_at, TakerIn}
use Rattle.label_actions.specs.declared.unit.Basis.{Basis}
use Rattle.label_actions.specs.declared.unit.Unit as code

pub record IsBasis (ts : List Tree) (b : Basis) (P : Program) : Type 0 where
  pub draft : IsDraft ts b.draft.now P
  pub titles : map (λ (p : Procedure). p.name.word) P.algorithm.procedures ≡ b.procedures.now
  pub empty : b.unlabelled.now ≡ unlabelled
  pub this : at ts b.this ≡ named self

-- the numbers of all that is in it are below m
pub record BasisIn (m : ℕ) (b : Basis) : Type 0 where
  pub draft : past_algorithm b.draft.now.algorithm.now ≤ m
  pub this : b.this < m

-- u is t's routine, with its takers
pub record IsUnit (ts : List Tree) (u : code.Unit) (t : Taken) : Type 0 where
  pub number : t.routine.number ≡ u.number
  pub takers : taker_at ts u.taker ≡ t.takers
  pub params : t.routine.params ≡ declarations_at ts u.params.now
  pub variables : t.routine.variables ≡ declarations_at ts u.variables.now
  pub body : t.routine.body ≡ statements_at ts u.body.now
  pub exit : t.routine.exit ≡ u.exit.now

pub record UnitIn (m : ℕ) (u : code.Unit) : Type 0 where
  pub taker : TakerIn m u.taker
  pub params : past_declarations u.params.now ≤ m
  pub variables : past_declarations u.variables.now ≤ m
  pub body : past_statements u.body.now ≤ m

-- the names of procedures in memory
abbrev pub titles_of : List code_procedure.Procedure → List Word
titles_of ps = map (λ (p : code_procedure.Procedure). p.name.word) ps
