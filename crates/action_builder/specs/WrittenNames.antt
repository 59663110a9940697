-- Written names, given to expressions and statements ("A PlusCal User's Manual", section 4, on names in the translation; macros, section 3.5). Macro
-- calls are written out before: a macro's text has no scope of its own.
use Rattle.std.specs.Prelude.{cond, Some, None, reverse}
use Rattle.tla_tree.specs.Tree.{name, Tree, node, no_trees, Graft, graft}
use Rattle.tla_value.specs.Stops.{plain}
use Rattle.tla_value.specs.Definitions.{no_state}
use Rattle.tla_value.specs.Outside.{Outside}
use Rattle.pcal_tree.specs.Algorithm.{Statements, Routine, declares, locals, Algorithm}
use Rattle.pcal_tree.specs.Program.{Program, written}
use Rattle.pcal_tree.specs.Programs.{program_in}
use Rattle.pcal_tree.specs.Expand.{graft_all, expanded}

-- the algorithm with its written names; neither limits nor values of constants matter to what is written
abbrev pub with_names : Outside → Algorithm → Program
with_names o a = program_in plain o a no_state

-- a routine's own variables and parameters by their written names
abbrev pub renames : Program → Routine → Graft
renames P u x at = cond (declares (locals u) x) (Some (node (name (written P u x)) at no_trees)) None

abbrev pub renamed : Program → Routine → Tree → Tree
renamed P u e = graft (renames P u) e

-- macro calls written out, and then names
abbrev pub written_statements : Program → Routine → Statements → Statements
written_statements P u ss = graft_all (renames P u) (expanded (reverse P.algorithm.macros) ss)
