-- What is kept while names are added: what is there, with those that are left, is the whole.
use Rattle.std.proofs.Common.{◌≡◌, ◌++◌, drop, map}
use Rattle.written_names.specs.Units.{naming_of}
use Rattle.draft.specs.RoutineNames.{words_of}
use Rattle.draft.proofs.variables.add_locals.Given as goal

abbrev pub invariant-loop-declaration : goal.invariant-loop-declaration
invariant-loop-declaration l =
    l.into ++ map ((naming_of l.naming).local l.unit) (words_of (drop l.declaration-index l.declarations)) ≡ l.fn.into ++ map ((naming_of l.naming).local l.unit) (words_of l.declarations)
