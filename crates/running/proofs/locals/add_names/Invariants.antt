-- What is kept while names are added: what is there, with those that are left, is the whole.
use Rattle.std.proofs.Common.{◌≡◌, ◌++◌, drop}
use Rattle.draft.specs.RoutineNames.{words_of}
use Rattle.running.proofs.locals.add_names.Given as goal

abbrev pub invariant-loop-one : goal.invariant-loop-one
invariant-loop-one l = l.into ++ words_of (drop l.one-index l.list) ≡ l.fn.into ++ words_of l.list
