-- Whose steps are written from what is in memory: of a program's routine, with what stands for `self`.
use Rattle.std.specs.Prelude.{◌≡◌, ◌≤◌, ℕ, List, length, map, Option}
use Rattle.std.specs.Option.{option_map}
use Rattle.tla_tree.specs.Tree.{Tree}
use Rattle.tla_tree.specs.Pool.{at}
use Rattle.module_write.specs.InMemory.{MaybeIn}
use Rattle.pcal_tree.specs.Algorithm.{Routine, locals, routines}
use Rattle.pcal_tree.specs.InMemory.{past_algorithm}
use Rattle.pcal_tree.specs.Processes.{OneOf}
use Rattle.pcal_tree.specs.Program.{Program}
use Rattle.pcal_tree.specs.Run.{unlabelled}
use Rattle.pcal_tree.specs.Variables.{declared, vars}
use Rattle.name_bits.specs.NamesIn.{most}
use Rattle.draft.specs.Drafts.{IsDraft}
use Rattle.step_items.specs.declared.desk.Desk.{Desk}

-- the numbers of all that it is written from are below m
pub record DeskIn (m : ℕ) (d : Desk) : Type 0 where
  pub draft : past_algorithm d.draft.now.algorithm.now ≤ m
  pub single : MaybeIn m d.single

-- u is one of the program's routines; e: the expression of a single process
pub record IsDesk (ts : List Tree) (d : Desk) (P : Program) (u : Routine) (e : Option Tree) : Type 0 where
  pub draft : IsDraft ts d.draft.now P
  pub one : OneOf u (routines P.algorithm)
  pub number : u.number ≡ d.unit
  pub ordered : declared (locals u) ≡ d.locals.now
  pub listed : declared (locals u) ≡ d.names.now
  pub titles : map (λ p. p.name.word) P.algorithm.procedures ≡ d.procedures.now
  pub empty : d.unlabelled.now ≡ unlabelled
  pub single : option_map (at ts) d.single ≡ e
  pub few : length (vars P) ≤ most
