-- Proves what is asked of `set_in`.
use Rattle.std.proofs.Common.{ℕ, Some, sym, subst}
use Rattle.tla_tree.specs.Spelling.{Phrase}
use Rattle.tla_tree.specs.Reader.{Out, next}
use Rattle.tla_tree.specs.Whole.{whole_in}
use Rattle.expr_nodes.specs.declared.make.Read.{Read}
use Rattle.expr_nodes.specs.ReadIn.{IsIn, Told}
use Rattle.expr_nodes.specs.Ahead.{ahead}
use Rattle.expr_binders.proofs.ReadSets.{set_more, set_ends}
use Rattle.expr_binders.proofs.read_set.set_in.Goals as goal

pub returns-in-Some-clause-read : goal.returns-in-Some-clause-read
returns-in-Some-clause-read g c = λ i h.
    let v = c.args.tokens.now in
    let s = c.args.s in
    let ts = ahead v s.at in
    subst (λ (o : Out Phrase). Told (λ (x : Read × ℕ) j. IsIn c.args.s.linked c.before_in.new.pool x.0 j) (λ x. ahead v x.1) c.before_in.result o)
    (sym (set_more (whole_in c.args.s.linked (Some s.left)) s.edge c.args.place i ts c.in-Some.ensures.there (ahead v c.in-Some.at) c.in-Some.ensures.rest))
    (c.before_in.ensures.read i (next s.edge ts).place h)

pub returns-in-None-clause-read : goal.returns-in-None-clause-read
returns-in-None-clause-read g c = λ i h.
    let v = c.args.tokens.now in
    let s = c.args.s in
    subst (λ (o : Out Phrase). Told (λ (x : Read × ℕ) j. IsIn c.args.s.linked c.alone_in.new.pool x.0 j) (λ x. ahead v x.1) c.alone_in.result o)
    (sym (set_ends (whole_in c.args.s.linked (Some s.left)) s.edge c.args.place i (ahead v s.at) c.in-None.ensures.none))
    (c.alone_in.ensures.read i h)
