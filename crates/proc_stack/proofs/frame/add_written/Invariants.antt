-- What is kept while names are added: what is there, with those that are left, is the whole.
use Rattle.std.proofs.Common.{◌≡◌, ◌++◌, drop, map}
use Rattle.written_names.specs.Units.{naming_of}
use Rattle.proc_stack.proofs.frame.add_written.Given as goal

abbrev pub invariant-loop-name : goal.invariant-loop-name
invariant-loop-name l =
    l.into ++ map ((naming_of l.locals.naming.now).local l.locals.unit) (drop l.name-index l.names) ≡ l.fn.into ++ map ((naming_of l.locals.naming.now).local l.locals.unit) l.names
