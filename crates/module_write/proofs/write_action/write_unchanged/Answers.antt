-- Proves what is asked of `write_unchanged`.
use Rattle.std.specs.Prelude.{codes}
use Rattle.module_tree.specs.Layout.{blanks, tuple_of}
use Rattle.tla_write.proofs.OneMore.{same_text}
use Rattle.module_lines.proofs.Regrouped.{line_joined}
use Rattle.module_write.proofs.write_action.write_unchanged.Goals as goal

pub returns : goal.returns
returns c =
    same_text c.push.result c.push.new.self _ _ c.push.ensures.ok
    (rw (c.in_ok-write_tuple.ensures, c.in_ok-begin_line.ensures, c.as_slice.ensures) (line_joined c.args.into.now (blanks c.args.k) (codes "/\\ UNCHANGED ") (tuple_of c.args.names.now) (codes "\n")))
