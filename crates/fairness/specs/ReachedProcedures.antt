-- The procedures that a process can reach by calls ("A PlusCal User's Manual", section 3.4, procedures).
use Rattle.std.specs.Prelude.{ℕ, zero, suc, length, List, [], ◌∷◌, ◌++◌, filter, flat_map}
use Rattle.tla_token.specs.Signs.{is_among}
use Rattle.tla_tree.specs.Tree.{Word}
use Rattle.pcal_tree.specs.Algorithm.{Statement, branch, either, with, while, call, Statements, done, then, mark, Branches, no_branches, or, Routine, procedure_routines, Algorithm}

-- the names of the procedures that statements call
abbrev mutual
  pub calls_in : Statement → List Word
  calls_in (call p ts) = p.word ∷ []
  calls_in (branch e a b) = calls a ++ calls b
  calls_in (either bs) = calls_some bs
  calls_in (with bs b) = calls b
  calls_in (while e b) = calls b
  calls_in _ = []

  pub calls : Statements → List Word
  calls done = []
  calls (then at st rest) = calls_in st ++ calls rest
  calls (mark l k rest) = calls rest

  pub calls_some : Branches → List Word
  calls_some no_branches = []
  calls_some (or b bs) = calls b ++ calls_some bs

-- by some of these routines; no macro has a call
abbrev pub called_by : List Routine → List Word
called_by us = flat_map (λ u. calls u.body) us

-- by chains of so many calls at most, in the order of the text; what they call is listed once, for all procedures
abbrev pub reached_within : ℕ → Algorithm → Routine → List Routine
reached_within zero a u = []
reached_within (suc n) a u = (let called = called_by (u ∷ reached_within n a u) in filter (λ p. is_among called p.name.word) (procedure_routines a))

-- no chain need be longer than there are procedures
abbrev pub reached : Algorithm → Routine → List Routine
reached a u = reached_within (length a.procedures) a u
