-- Proves what is asked of `braces_from`.
use Rattle.std.proofs.Common.{Some, arith}
use Rattle.tla_tree.specs.Spelling.{no_set}
use Rattle.tla_tree.specs.Reader.{next, room}
use Rattle.tla_tree.specs.Whole.{whole_in}
use Rattle.expr_nodes.specs.Ahead.{ahead}
use Rattle.tla_expr.proofs.ReadBraces.{no_members}
use Rattle.tla_expr.proofs.read_braces.braces_from.Goals as goal

pub returns-in-Some : goal.returns-in-Some
returns-in-Some g c =
    let s = c.args.s in
    let ts = ahead c.args.tokens.now s.at in
    let made = c.in_ok-whole.ensures in
    record {
      read = record {
        what = no_set c.args.place (next s.edge ts).place;
        is = no_members (room c.args.s.linked (whole_in c.args.s.linked) (Some s.left)) (whole_in c.args.s.linked (Some s.left)) s.edge c.args.place ts c.in-Some.ensures.there _ c.in-Some.ensures.rest;
        told = made.read _ (next s.edge ts).place;
      };
      kept = made.kept;
      within = made.within;
      small = grind (arith, made.shape);
      inside = c.in-Some.ensures.inside;
      further = omega (arith, c.in-Some.ensures.further);
    }
