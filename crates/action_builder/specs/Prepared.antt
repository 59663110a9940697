-- What the statements of a step become before items are written for them: jumps, loops, calls and returns as assignments, and then the variables of
-- the process as functions of its identifier ("A PlusCal User's Manual", sections 3.3 and 3.7). Macro calls are written out before, and all names are
-- the written ones: a macro's text has no scope of its own, so names are given after that.
use Rattle.std.specs.Prelude.{List, Bool, false}
use Rattle.tla_tree.specs.Tree.{Word}
use Rattle.tla_value.specs.Grafts.{owned}
use Rattle.module_tree.specs.Module.{Items}
use Rattle.pcal_tree.specs.Algorithm.{Statements}
use Rattle.pcal_tree.specs.Expand.{graft_all}
use Rattle.action_builder.specs.Assigned.{Names, assigned_in}
use Rattle.action_builder.specs.Settled.{WrittenJumps, settled}
use Rattle.action_builder.specs.Written.{left_of, unchanged_of, onto, write}

-- jumps settled, from the label `here` with the exit l, and then x[self] for each x of own
abbrev pub prepared : WrittenJumps → Word → (Word → Bool) → Word → Word → Statements → Statements
prepared W self own here l ss = graft_all (owned self own) (settled W here l ss)

-- no variable is assigned yet
abbrev pub none : Names
none x = false

-- the items of a step, with UNCHANGED for all that it assigns nowhere; vs: all variables, in the order of `vars`
abbrev pub action_items : List Word → Statements → Items
action_items vs ss = onto (write vs none ss) (unchanged_of (left_of vs vs (assigned_in ss)))
