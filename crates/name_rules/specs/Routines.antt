-- The offences of a routine's declarations and statements.
use Rattle.std.specs.Prelude.{List, ◌++◌}
use Rattle.tla_token.specs.declared.rule.Refusal.{Refusal}
use Rattle.pcal_tree.specs.Algorithm.{Declaration, Statements, Procedure}
use Rattle.pcal_tree.specs.NameUses.{Sight, seeing_variables}
use Rattle.pcal_tree.specs.OffencesNames.{Calls, in_declared, in_body}
use Rattle.pcal_tree.specs.Variables.{declared}

-- it sees its variables
abbrev pub routine_offences : Calls → List Procedure → List Declaration → Statements → Sight → List Refusal
routine_offences C ps ds b s = in_declared ds (seeing_variables (declared ds) s) ++ in_body C ps b (seeing_variables (declared ds) s)
