-- Proves what is asked of `read_named`.
use Rattle.std.proofs.Common.{nat_lt, ap, sym, ◌∙◌}
use Rattle.tla_tree.specs.Tree.{Name}
use Rattle.std.proofs.lemmas.Result.{err_from_is_err_and}
use Rattle.tla_tree.specs.Reader.{Out, then_read, gives}
use Rattle.expr_nodes.specs.Ahead.{ahead}
use Rattle.pcal_tree.specs.Algorithm as tree
use Rattle.pcal_tree.specs.GrammarParts.{Assignments}
use Rattle.pcal_tree.specs.GrammarParts as g
use Rattle.algorithm_reader.specs.PartsRead.{parts_in}
use Rattle.algorithm_reader.proofs.SimpleParts.{is_positive, named_assigns, named_assigns_fail, named_call_fails}
use Rattle.algorithm_reader.proofs.simple.read_named.Goals as goal

pub returns-in_err-list-clause-read : goal.returns-in_err-list-clause-read
returns-in_err-list-clause-read c n h =
    let v = c.args.tokens.now in
    let p = err_from_is_err_and c.from_residual-in_err-list.result c.from_residual-in_err-list.ensures.1 in
    rw (p.1, p.2) (named_call_fails (parts_in v) n (ahead v c.args.at) (ahead v c.in_ok-name.next) c.in_ok-name.name c.in_err-list.field-0.0 c.in_ok-name.ensures.value c.in-Some.ensures.there c.in_err-list.ensures.read)

pub returns-in_err-list-2-clause-read : goal.returns-in_err-list-2-clause-read
returns-in_err-list-2-clause-read c n h =
    let v = c.args.tokens.now in
    let p = err_from_is_err_and c.from_residual-in_err-list-2.result c.from_residual-in_err-list-2.ensures.1 in
    rw (p.1, p.2) (named_assigns_fail (parts_in v) n (ahead v c.args.at) (ahead v c.in_ok-name.next) c.in_ok-name.name c.in_err-list-2.field-0.0 c.in_ok-name.ensures.value c.in_default.ensures.none (ap (λ (x : Name). nat_lt 0 x.place.col) (sym c.name.view_is) ∙ is_positive _ c.if-name-eq0.false) (c.in_err-list-2.ensures.read n h))

pub returns-clause-read : goal.returns-clause-read
returns-clause-read c n h =
    let v = c.args.tokens.now in
    let m = parts_in v in
    let said = c.in_ok-list-2.ensures.read n h in
    record {
      what = g.assign said.what;
      is = named_assigns m n (ahead v c.args.at) (ahead v c.in_ok-name.next) c.in_ok-name.name c.in_ok-name.ensures.value c.in_default.ensures.none (ap (λ (x : Name). nat_lt 0 x.place.col) (sym c.name.view_is) ∙ is_positive _ c.if-name-eq0.false)
          ∙ ap (λ (o : Out Assignments). then_read o (λ ms. gives (g.assign ms))) said.is;
      told = record { below = said.told.below; tree = ap tree.assign said.told.tree };
    }
