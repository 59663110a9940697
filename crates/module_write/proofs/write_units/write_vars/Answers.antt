-- Proves what is asked of `write_vars`.
use Rattle.std.specs.Prelude.{codes}
use Rattle.module_tree.specs.Layout.{tuple_of}
use Rattle.tla_write.proofs.OneMore.{same_text}
use Rattle.module_lines.proofs.Regrouped.{unit_joined}
use Rattle.module_write.proofs.write_units.write_vars.Goals as goal

pub returns : goal.returns
returns c =
    same_text c.push.result c.push.new.self _ _ c.push.ensures.ok
    (rw (c.in_ok-write_tuple.ensures, c.in_ok-extend.ensures.ok, c.as_slice.ensures) (unit_joined c.args.into.now (codes "\n") (codes "vars == ") (tuple_of c.args.names.now) (codes "\n")))
