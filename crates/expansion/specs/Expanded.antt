-- Procedures and processes with the macro calls of their bodies written out.
use Rattle.std.specs.Prelude.{List}
use Rattle.pcal_tree.specs.Algorithm.{Macro, Procedure, Process}
use Rattle.pcal_tree.specs.Expand.{expanded}

-- the macros, the newest first
abbrev pub expanded_procedure : List Macro → Procedure → Procedure
expanded_procedure ms p = record { name = p.name; params = p.params; variables = p.variables; body = expanded ms p.body }

abbrev pub expanded_process : List Macro → Process → Process
expanded_process ms p = record {
  name = p.name;
  fairness = p.fairness;
  several = p.several;
  identity = p.identity;
  variables = p.variables;
  body = expanded ms p.body;
}
