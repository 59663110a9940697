-- Statements of a step that more of it may follow: settled where they end it by a jump, else as they are.
use Rattle.std.specs.Prelude.{cond}
use Rattle.tla_tree.specs.Tree.{Word}
use Rattle.pcal_tree.specs.Algorithm.{Statements}
use Rattle.action_builder.specs.Settled.{WrittenJumps, jumps, settled}

-- here: the label at which the list is; l: that of what follows it
abbrev pub left_over : WrittenJumps → Word → Word → Statements → Statements
left_over W here l ss = cond (jumps ss) (settled W here l ss) ss
