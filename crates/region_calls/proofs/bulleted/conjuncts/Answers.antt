-- Proves what is asked of `conjuncts`.
use Rattle.std.proofs.Common.{ℕ, List}
use Rattle.std.specs.Prelude.{Vec}
use Rattle.std.specs.declared.alloc.Global.{Global}
use Rattle.std.proofs.lemmas.Result.{err_from_is_err_and}
use Rattle.tla_token.specs.declared.place.Place.{Place}
use Rattle.tla_tree.specs.declared.op.Op.TheVariants as op
use Rattle.tla_tree.specs.Reader.{Out}
use Rattle.tla_tree.specs.Spelling.{Phrase}
use Rattle.expr_nodes.specs.Ahead.{ahead}
use Rattle.expr_nodes.specs.ReadIn.{Told}
use Rattle.region_reading.specs.NameReader.{bulleted_from}
use Rattle.region_reading.specs.Bound.{a_phrase}
use Rattle.region_items.specs.Stand.{IsTree}
use Rattle.region_calls.specs.Lists.{AreAll}
use Rattle.region_calls.proofs.ReadBullets.{column_read, column_lost}
use Rattle.region_calls.proofs.bulleted.conjuncts.Goals as goal

pub returns-clause-read : goal.returns-clause-read
returns-clause-read c =
    let v = c.args.tokens.now in
    let s = c.args.s in
    let at = c.in_ok-left.ensures in
    column_read s.left op.And (λ m col. bulleted_from op.And (a_phrase m) col)
    (λ (o : Out (List (Place × Phrase))). Told (λ (x : Vec ℕ Global × ℕ) fs. AreAll (IsTree c.conjuncts_from.new.pool) x.0.items fs) (λ x. ahead v x.1) c.conjuncts_from.result o)
    c.in_ok-left.left c.in_ok-left.col (ahead v s.at) at.there at.left at.column c.conjuncts_from.ensures.read

pub returns-in_err-left-clause-read : goal.returns-in_err-left-clause-read
returns-in_err-left-clause-read c =
    let s = c.args.s in
    let p = err_from_is_err_and c.from_residual.result c.from_residual.ensures.1 in
    rw (p.1, p.2) (column_lost _ s.left op.And (λ m col. bulleted_from op.And (a_phrase m) col) (ahead c.args.tokens.now s.at) c.in_err-left.ensures.none)
