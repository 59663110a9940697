-- Proves what is asked of `operator`.
use Rattle.std.proofs.Common.{◌≡◌, ◌<◌, ◌≤◌, ◌-◌, ℕ, suc, drop, arith, ap, ◌∙◌, subst, Some, refl}
use Rattle.std.proofs.lemmas.Result.{err_from_is_err_and}
use Rattle.tla_tree.specs.Nesting.{chain}
use Rattle.tla_tree.specs.Spelling.{Phrase, infix_of}
use Rattle.tla_tree.specs.Reader.{Out, Reader, then_read, right_of}
use Rattle.tla_tree.specs.Whole.{whole_in}
use Rattle.expr_nodes.specs.Ahead.{ahead}
use Rattle.expr_nodes.specs.ShapeOf.{context_seen}
use Rattle.expr_nodes.specs.ReadIn.{IsIn, Reads, Fails}
use Rattle.expr_nodes.proofs.MakeLemmas.{kept_in}
use Rattle.expr_rows.proofs.ReadCode.{climb_other, stops_here, deep_here, more_here}
use Rattle.expr_rows.proofs.ReadGrown.{same_pool, lost, deep, chain_in}
use Rattle.expr_operands.proofs.read_climb.operator.Goals as goal

pub returns-in_default : goal.returns-in_default
returns-in_default g c = record {
  read = λ i h. climb_other _ c.args.tokens.now.bytes.items c.args.s.left c.args.s.edge c.args.context i (drop c.args.s.at c.args.tokens.now.items.items) c.next_at-t.result.place c.next_at-t.result.view c.next_at-t.ensures c.in_default.not-Sign;
  kept = same_pool;
  stands = tt;
  longer = tt;
}

pub returns-then-not-goes_on-clause-read : goal.returns-then-not-goes_on-clause-read
returns-then-not-goes_on-clause-read g c = λ i h.
    let v = c.args.tokens.now in
    let bytes = v.bytes.items in
    let b = c.args.s.left in
    let e = c.args.s.edge in
    let here = drop c.args.s.at v.items.items in
    let on : Phrase → Reader Phrase = λ j. (whole_in c.args.s.linked (Some b)).climb e (context_seen c.args.context) j in
    stops_here _ bytes b e c.args.context i here c.next_at-t.result.place c.next_at-t.result.view c.next_at-t.ensures c.in-Sign.op c.in-Sign.is c.bound.result c.bound.ensures c.goes_on.result (c.goes_on.ensures.phrase _ i h.shape) c.if-not-goes_on.true

pub returns-in_err-d-clause-read : goal.returns-in_err-d-clause-read
returns-in_err-d-clause-read g c = λ i h.
    let v = c.args.tokens.now in
    let bytes = v.bytes.items in
    let b = c.args.s.left in
    let e = c.args.s.edge in
    let here = drop c.args.s.at v.items.items in
    let on : Phrase → Reader Phrase = λ j. (whole_in c.args.s.linked (Some b)).climb e (context_seen c.args.context) j in
    let p = err_from_is_err_and c.from_residual.result c.from_residual.ensures.1 in
    let l : b ≤ chain i = omega (arith, chain_in h, c.in_err-d.ensures.deep) in
    deep _ _ i (ahead v c.args.s.at) v on (on i (ahead v c.args.s.at)) p.1 p.2 c.in_err-d.ensures.refused (deep_here _ bytes b e c.args.context i here c.next_at-t.result.place c.next_at-t.result.view c.next_at-t.ensures c.in-Sign.op c.in-Sign.is c.bound.result c.bound.ensures c.goes_on.result (c.goes_on.ensures.phrase _ i h.shape) c.if-not-goes_on.false l)

pub returns-in_err-b-clause-read : goal.returns-in_err-b-clause-read
returns-in_err-b-clause-read g c = λ i h.
    let v = c.args.tokens.now in
    let bytes = v.bytes.items in
    let b = c.args.s.left in
    let e = c.args.s.edge in
    let here = drop c.args.s.at v.items.items in
    let on : Phrase → Reader Phrase = λ j. (whole_in c.args.s.linked (Some b)).climb e (context_seen c.args.context) j in
    let p = err_from_is_err_and c.from_residual-in_err-b.result c.from_residual-in_err-b.ensures.1 in
    let d = c.in_ok-d.d.left in
    let less : d < b = omega (arith, c.in_ok-d.ensures.left) in
    let one = c.requires.given.reads _ _ _ _ _ less c.after-from.ensures.inside c.in_err-b.ensures in
    let i' : d ≡ b - chain i - 1 = omega (arith, chain_in h, c.in_ok-d.ensures.left) in
    let l : suc (chain i) ≤ b = omega (arith, chain_in h, c.in_ok-d.ensures.left) in
    let r = subst (λ (f : ℕ). Fails c.in_err-b.field-0.0 ((whole_in c.args.s.linked (Some d)).expr f (right_of c.in-Sign.op) (ahead v c.after-from.result))) refl one.read in
    lost _ _ i (ahead v c.args.s.at) v on (on i (ahead v c.args.s.at)) ((whole_in c.args.s.linked (Some d)).expr e (right_of c.in-Sign.op) (ahead v c.after-from.result)) (λ s. on (infix_of i c.next_at-t.result.place c.in-Sign.op s)) p.1 p.2
    (more_here _ bytes b e c.args.context i here c.next_at-t.result.place c.next_at-t.result.view c.next_at-t.ensures c.in-Sign.op c.in-Sign.is c.bound.result c.bound.ensures c.goes_on.result (c.goes_on.ensures.phrase _ i h.shape) c.if-not-goes_on.false d i' l (drop c.after-from.result v.items.items) c.after-from.ensures.rest) r

pub returns-clause-read : goal.returns-clause-read
returns-clause-read g c = λ i h.
    let v = c.args.tokens.now in
    let bytes = v.bytes.items in
    let b = c.args.s.left in
    let e = c.args.s.edge in
    let here = drop c.args.s.at v.items.items in
    let on : Phrase → Reader Phrase = λ j. (whole_in c.args.s.linked (Some b)).climb e (context_seen c.args.context) j in
    let d = c.in_ok-d.d.left in
    let less : d < b = omega (arith, c.in_ok-d.ensures.left) in
    let one = c.requires.given.reads _ _ _ _ _ less c.after-from.ensures.inside c.in_ok-b.ensures in
    let i' : d ≡ b - chain i - 1 = omega (arith, chain_in h, c.in_ok-d.ensures.left) in
    let l : suc (chain i) ≤ b = omega (arith, chain_in h, c.in_ok-d.ensures.left) in
    let r = subst (λ (f : ℕ). Reads (IsIn c.args.s.linked c.inner.new.arg2 c.in_ok-b.b) (ahead v c.in_ok-b.at) ((whole_in c.args.s.linked (Some d)).expr f (right_of c.in-Sign.op) (ahead v c.after-from.result))) refl one.read in
    record {
      what = infix_of i c.next_at-t.result.place c.in-Sign.op r.what;
      told = c.in_ok-whole.ensures.read _ i r.what _ (kept_in one.kept h) r.told;
      is = more_here _ bytes b e c.args.context i here c.next_at-t.result.place c.next_at-t.result.view c.next_at-t.ensures c.in-Sign.op c.in-Sign.is c.bound.result c.bound.ensures c.goes_on.result (c.goes_on.ensures.phrase _ i h.shape) c.if-not-goes_on.false d i' l (drop c.after-from.result v.items.items) c.after-from.ensures.rest
          ∙ ap (λ (o : Out Phrase). then_read o (λ s. on (infix_of i c.next_at-t.result.place c.in-Sign.op s))) r.is;
    }
