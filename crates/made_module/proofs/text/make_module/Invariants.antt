-- What is kept while lines are appended: with those that are left the text is the module.
use Rattle.std.proofs.Common.{◌≡◌, ◌+◌, ◌-◌, ◌++◌}
use Rattle.std.specs.String.{string_bytes}
use Rattle.make_module.specs.Big.{lines_from, front_text}
use Rattle.made_module.proofs.text.make_module.Given as goal

abbrev pub invariant-loop-i : goal.invariant-loop-i
invariant-loop-i l = string_bytes l.text ++ lines_from (l.count - l.i) (l.i + 1) l.number ≡ front_text ++ lines_from l.count 1 l.fn.seed
