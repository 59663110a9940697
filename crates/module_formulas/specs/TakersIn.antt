-- Who takes the steps of a routine, in memory ("A PlusCal User's Manual", section 3.3, processes).
use Rattle.std.specs.Prelude.{ℕ, ◌<◌, List, [], ◌∷◌}
use Rattle.tla_tree.specs.Tree.{Tree}
use Rattle.tla_tree.specs.Pool.{at}
use Rattle.pcal_tree.specs.Algorithm.{Routine, Procedure, procedure_routine, Main, alone, processes}
use Rattle.pcal_tree.specs.Takers.{Takers, each_of, single, lone, Taken}
use Rattle.module_formulas.specs.declared.takers.Taker.{Taker}
use Rattle.module_formulas.specs.declared.takers.Taker.TheVariants.{Each, Single, Lone}

abbrev pub taker_at : List Tree → Taker → Takers
taker_at ts (Each s) = each_of (at ts s)
taker_at ts (Single e) = single (at ts e)
taker_at ts Lone = lone

-- its number is below m
abbrev pub TakerIn : ℕ → Taker → Type 0
TakerIn m (Each s) = s < m
TakerIn m (Single e) = e < m
TakerIn m Lone = Unit {0}

abbrev pub taken : Takers → Routine → Taken
taken t u = record { takers = t; routine = u }

abbrev pub taken_procedure : Takers → ℕ → Procedure → Taken
taken_procedure t n p = taken t (procedure_routine n p)

-- there is one body, or a process at least
abbrev pub Runs : Main → Type 0
Runs (alone ss) = Unit {0}
Runs (processes []) = ⊥
Runs (processes (p ∷ ps)) = Unit {0}
