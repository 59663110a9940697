-- What is kept while names are added: what is there, with those that are left, is the whole.
use Rattle.std.proofs.Common.{◌≡◌, ◌++◌, drop}
use Rattle.draft.specs.RoutineNames.{words_of}
use Rattle.proc_stack.proofs.callee.add_names.Given as goal

abbrev pub invariant-loop-declaration : goal.invariant-loop-declaration
invariant-loop-declaration l = l.into ++ words_of (drop l.declaration-index l.declarations) ≡ l.fn.into ++ words_of l.declarations
