-- The definitions so far have their bodies in the pool.
use Rattle.std.proofs.Common.{length}
use Rattle.tla_value.specs.Defs.{DefinitionsIn}
use Rattle.value_rows.proofs.reading.value.Given as goal

abbrev pub invariant-loop-one : goal.invariant-loop-one
invariant-loop-one l = DefinitionsIn (length l.pool) l.defs
