-- Proves what is asked of `read_left`.
use Rattle.std.proofs.Common.{arith}
use Rattle.tla_token.specs.TokensSeen.{span_bytes}
use Rattle.tla_tree.specs.Spelling as spelled
use Rattle.algorithm_reader.proofs.LeftSides.{name_stands}
use Rattle.algorithm_reader.proofs.left.read_left.Goals as goal

pub returns-clause-read : goal.returns-clause-read
returns-clause-read c n h =
    let w = c.in_ok-word.word in
    let x = span_bytes c.args.tokens.now.bytes.items w.span in
    rw c.in_ok-word.ensures.value (c.links.ensures.read (spelled.name w.place x) (name_stands w.place x _ c.in_ok-x.x c.in_ok-x.ensures.read) n (omega (arith, h, c.in_ok-word.ensures.further)))
