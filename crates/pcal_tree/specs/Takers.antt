-- Who takes the steps of a routine: the members of a process set, a single process, or the one body ("A PlusCal User's Manual", section 3.3, processes).
use Rattle.std.specs.Prelude.{ℕ, List, [], ◌∷◌, cond}
use Rattle.tla_tree.specs.Tree.{Tree}
use Rattle.pcal_tree.specs.Algorithm.{Process, Main, alone, processes, Routine, process_routine, alone_routine, first_process, numbered, Algorithm}

pub data Takers : Type 0 where
  each_of : Tree → Takers  -- each member of the set is `self`
  single : Tree → Takers  -- the one identifier, whose expression stands for `self`
  lone : Takers  -- the one body has no identifier

abbrev pub takers_of : Process → Takers
takers_of p = cond p.several (each_of p.identity) (single p.identity)

-- a routine with its takers
pub record Taken : Type 0 where
  pub takers : Takers
  pub routine : Routine

abbrev pub taken_process : ℕ → Process → Taken
taken_process n p = record { takers = takers_of p; routine = process_routine n p }

abbrev pub taken_main : Algorithm → Main → List Taken
taken_main a (alone ss) = record { takers = lone; routine = alone_routine a ss } ∷ []
taken_main a (processes ps) = numbered taken_process (first_process a) ps
