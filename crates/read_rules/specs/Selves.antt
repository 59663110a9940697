-- The macros that a procedure calls.
use Rattle.std.specs.Prelude.{List}
use Rattle.tla_tree.specs.Tree.{Word}
use Rattle.pcal_tree.specs.Algorithm.{Procedure}
use Rattle.pcal_tree.specs.OffencesCounts.{calls_of}

abbrev pub calls_of_procedure : Procedure → List Word
calls_of_procedure p = calls_of p.body
