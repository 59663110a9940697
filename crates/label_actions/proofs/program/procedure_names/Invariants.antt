-- What is kept while names are added: what is there, with those that are left, is the whole.
use Rattle.std.proofs.Common.{◌≡◌, ◌++◌, drop}
use Rattle.label_actions.specs.Units.{titles_of}
use Rattle.label_actions.proofs.program.procedure_names.Given as goal

abbrev pub invariant-loop-one : goal.invariant-loop-one
invariant-loop-one l = l.names ++ titles_of (drop l.one-index l.list) ≡ titles_of l.list
