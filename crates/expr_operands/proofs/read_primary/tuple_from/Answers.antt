-- Proves what is asked of `tuple_from`.
use Rattle.std.proofs.Common.{arith}
use Rattle.tla_tree.specs.Spelling.{no_tuple}
use Rattle.tla_tree.specs.Reader.{next}
use Rattle.expr_nodes.specs.Ahead.{ahead}
use Rattle.expr_rows.proofs.ReadPrimaries.{tuple_none}
use Rattle.expr_operands.proofs.read_primary.tuple_from.Goals as goal

pub returns-in-Some : goal.returns-in-Some
returns-in-Some g c =
    let s = c.args.s in
    let ts = ahead c.args.tokens.now s.at in
    let made = c.in_ok-whole.ensures in
    record {
      read = record {
        what = no_tuple c.args.place (next s.edge ts).place;
        is = tuple_none _ s.left s.edge c.args.place ts _ c.in-Some.ensures.there c.in-Some.ensures.rest;
        told = made.read _ (next s.edge ts).place;
      };
      kept = made.kept;
      within = made.within;
      small = grind (arith, made.shape);
      inside = c.in-Some.ensures.inside;
      further = omega (arith, c.in-Some.ensures.further);
    }
