-- Proves what is asked of `subscripted`.
use Rattle.std.proofs.Common.{ℕ, List, ap, ◌∙◌, sym}
use Rattle.tla_tree.specs.Tree.{node}
use Rattle.tla_tree.specs.Tree as pure
use Rattle.tla_tree.specs.Pool.{trees_at}
use Rattle.tla_tree.specs.Lexical.{Token}
use Rattle.tla_tree.specs.Spelling.{apply}
use Rattle.expr_nodes.specs.Ahead.{ahead}
use Rattle.algorithm_reader.specs.PartsRead.{parts_in}
use Rattle.algorithm_reader.proofs.LeftSides.{subscripts_begin, subscripted_is, subscripted_stands}
use Rattle.tla_tree.proofs.PoolNumbers.{Keeps-then}
use Rattle.expr_nodes.proofs.MakeLemmas.{subscript_is}
use Rattle.algorithm_reader.proofs.left.subscripted.Goals as goal

pub returns-clause-read : goal.returns-clause-read
returns-clause-read c a p h =
    let v = c.args.tokens.now in
    let row = c.in_ok-ids.ensures.read in
    let begin = subscripts_begin v c.args.at (ahead v c.in_ok-ids.end) row.what row.is ∙ ap (λ (t : Token). t.place) (sym c.next_token.ensures) in
    record {
      what = apply a p row.what c.in_ok-end.field-0-0;
      is = subscripted_is (parts_in v) a p (ahead v c.args.at) (ahead v c.in_ok-ids.end) (ahead v c.in_ok-end.end) row.what c.in_ok-end.field-0-0 row.is c.in_ok-end.ensures.value;
      told = subscripted_stands row.what c.args.left c.in_ok-index.index c.in_ok-whole.whole p c.in_ok-end.field-0-0 (Keeps-then _ _ _ c.in_ok-ids.ensures.kept c.in_ok-index.ensures.kept) c.in_ok-whole.ensures.within
          (c.in_ok-whole.ensures.tree ∙ ap (λ (is : List ℕ). node (pure.strict pure.apply) c.args.place (trees_at c.subscript.new.pool is)) c.in_ok-parts.ensures.items) (c.in_ok-index.ensures.tree ∙ subscript_is _ row.what row.told.tree begin) h;
    }
