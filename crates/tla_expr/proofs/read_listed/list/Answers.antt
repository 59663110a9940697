-- Proves what is asked of `list`.
use Rattle.std.proofs.Common.{Ok, Some, arith, refl, sym, subst}
use Rattle.tla_tree.specs.Spelling.{Phrase, list}
use Rattle.tla_tree.specs.Reader.{Out, ◌>>=◌, gives}
use Rattle.tla_tree.specs.Whole.{whole_in}
use Rattle.expr_nodes.specs.declared.make.Read.{Read}
use Rattle.expr_nodes.specs.Ahead.{ahead}
use Rattle.expr_rows.specs.HasRead.{HasRead}
use Rattle.expr_rows.proofs.ReadLemmas.{told_then}
use Rattle.expr_rows.proofs.ReadNames.{read_on}
use Rattle.tla_expr.proofs.ReadListed.{list_more, list_in}
use Rattle.tla_expr.proofs.read_listed.list.Goals as goal

pub returns : goal.returns
returns g c =
    let v = c.args.tokens.now in
    let s = c.args.s in
    let o = c.args.op in
    let many = c.in_ok-items.ensures in
    let a : Read = record { id = c.in_ok-items.items.id; shape = c.list_shape-shape.result } in
    let one : HasRead c.args.s.linked v c.args.pool.now c.bullets.new.pool s.at s.left (Ok (a, c.in_ok-items.at)) (((whole_in c.args.s.linked (Some s.left)).bullets s.edge o c.args.place.col >>= λ bs. gives (list o bs)) (ahead v s.at)) = record {
      read = told_then _ _ many.read (λ bs are. record { what = list o bs; is = refl; told = list_in are c.list_shape-shape.ensures });
      kept = many.kept;
      within = many.below;
      small = grind (arith, c.list_shape-shape.ensures, many.small);
      inside = many.inside;
      further = many.further;
    } in
    subst (λ (p : Out Phrase). HasRead c.args.s.linked v c.args.pool.now c.postfix.new.pool s.at s.left c.postfix.result p) (sym (list_more _ s.left s.edge c.args.place o (ahead v s.at) c.requires.bullet))
    (read_on v c.args.pool.now c.bullets.new.pool c.postfix.new.pool s.at c.in_ok-items.at s.left a c.postfix.result _ (λ i. (whole_in c.args.s.linked (Some s.left)).postfix s.edge i) one c.postfix.ensures.kept c.postfix.ensures.read c.postfix.ensures.stands)
