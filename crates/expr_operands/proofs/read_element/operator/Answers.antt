-- Proves what is asked of `operator`.
use Rattle.std.proofs.Common.{◌≡◌, ◌≤◌, ◌+◌, ℕ, Some, arith, ap, sym, ◌∙◌, subst, refl}
use Rattle.std.proofs.lemmas.Result.{err_from_is_err_and}
use Rattle.tla_token.specs.declared.rule.Rule.TheVariants.{TooDeep}
use Rattle.tla_tree.specs.Spelling.{Phrase, infix_of}
use Rattle.tla_tree.specs.Reader.{Out, Reader, then_read, right_of, behind, so_far, room}
use Rattle.tla_tree.specs.Whole.{whole_in}
use Rattle.expr_nodes.specs.declared.shape.Shape.{Shape}
use Rattle.expr_nodes.specs.ShapeOf.{shape_of}
use Rattle.expr_nodes.specs.Ahead.{ahead}
use Rattle.expr_nodes.specs.ReadIn.{IsIn, Reads, Fails}
use Rattle.expr_rows.proofs.ReadCode.{fails_step}
use Rattle.expr_rows.proofs.ReadGrown.{same_pool}
use Rattle.expr_operands.proofs.ReadElement.{any_other, any_stops, any_deep, any_more, part_fails, refused_at, parted_kept, shape_told, less_by, low_at, grown_small}
use Rattle.expr_operands.proofs.read_element.operator.Goals as goal

pub returns-in_default : goal.returns-in_default
returns-in_default g c = record {
  read = λ i p q x h. any_other _ c.args.tokens.now.bytes.items c.args.s.left c.args.s.edge (behind p x q) i (ahead c.args.tokens.now c.args.s.at) c.next_at-t.result.place c.next_at-t.result.view c.next_at-t.ensures c.in_default.not-Sign;
  kept = same_pool;
  small = tt;
  longer = tt;
  inside = tt;
  further = tt;
}

pub returns-then-not-goes_on-clause-read : goal.returns-then-not-goes_on-clause-read
returns-then-not-goes_on-clause-read g c = λ i p q x h.
    any_stops _ c.args.tokens.now.bytes.items c.args.s.left c.args.s.edge (behind p x q) i (ahead c.args.tokens.now c.args.s.at) c.next_at-t.result.place c.next_at-t.result.view c.next_at-t.ensures c.in-Sign.op c.in-Sign.is
    (sym (c.goes_on.ensures.phrase _ i h.set.shape) ∙ c.if-not-goes_on.true)

pub returns-in_err-d-clause-read : goal.returns-in_err-d-clause-read
returns-in_err-d-clause-read g c = λ i p q x h.
    let v = c.args.tokens.now in
    let b = c.args.s.left in
    let e = c.args.s.edge in
    let ts = ahead v c.args.s.at in
    let on : Phrase → Reader Phrase = λ j. (whole_in c.args.s.linked (Some b)).climb e (behind p x q) j in
    let f = err_from_is_err_and c.from_residual.result c.from_residual.ensures.1 in
    let w : c.least-k.result ≡ so_far (room c.args.s.linked (whole_in c.args.s.linked) (Some b)) (behind p x q) i c.next_at-t.result.place c.in-Sign.op = c.least-k.ensures _ (whole_in c.args.s.linked) i p q x h.set.shape (shape_told _ p x q c.shape_in.result c.shape_in.ensures h) in
    part_fails _ v _ p x q c.args.name on i ts (on i ts) f.1 f.2
    (refused_at TooDeep ts (on i ts) _ c.in_err-d.ensures.refused
    (any_deep _ v.bytes.items b e (behind p x q) i ts c.next_at-t.result.place c.next_at-t.result.view c.next_at-t.ensures c.in-Sign.op c.in-Sign.is (sym (c.goes_on.ensures.phrase _ i h.set.shape) ∙ c.if-not-goes_on.false) c.least-k.result w c.in_err-d.ensures.deep))

pub returns-in_err-b-clause-read : goal.returns-in_err-b-clause-read
returns-in_err-b-clause-read g c = λ i p q x h.
    let v = c.args.tokens.now in
    let b = c.args.s.left in
    let e = c.args.s.edge in
    let ts = ahead v c.args.s.at in
    let on : Phrase → Reader Phrase = λ j. (whole_in c.args.s.linked (Some b)).climb e (behind p x q) j in
    let f = err_from_is_err_and c.from_residual-in_err-b.result c.from_residual-in_err-b.ensures.1 in
    let w : c.least-k.result ≡ so_far (room c.args.s.linked (whole_in c.args.s.linked) (Some b)) (behind p x q) i c.next_at-t.result.place c.in-Sign.op = c.least-k.ensures _ (whole_in c.args.s.linked) i p q x h.set.shape (shape_told _ p x q c.shape_in.result c.shape_in.ensures h) in
    let d = c.in_ok-d.d.left in
    let less = less_by b d c.least-k.result c.in_ok-d.ensures.left in
    let one = c.requires.given.reads _ _ _ _ _ less c.after-from.ensures.inside c.in_err-b.ensures in
    let r = subst (λ (f : ℕ). Fails c.in_err-b.field-0.0 ((whole_in c.args.s.linked (Some d)).expr f (right_of c.in-Sign.op) (ahead v c.after-from.result))) refl one.read in
    part_fails _ v _ p x q c.args.name on i ts (on i ts) f.1 f.2
    (fails_step _ (on i ts) ((whole_in c.args.s.linked (Some d)).expr e (right_of c.in-Sign.op) (ahead v c.after-from.result)) (λ s. on (infix_of i c.next_at-t.result.place c.in-Sign.op s))
    (any_more _ v.bytes.items b e (behind p x q) i ts c.next_at-t.result.place c.next_at-t.result.view c.next_at-t.ensures c.in-Sign.op c.in-Sign.is (sym (c.goes_on.ensures.phrase _ i h.set.shape) ∙ c.if-not-goes_on.false) c.least-k.result w d c.in_ok-d.ensures.left (ahead v c.after-from.result) c.after-from.ensures.rest) r)

pub returns-clause-read : goal.returns-clause-read
returns-clause-read g c = λ i p q x h.
    let v = c.args.tokens.now in
    let b = c.args.s.left in
    let e = c.args.s.edge in
    let ts = ahead v c.args.s.at in
    let on : Phrase → Reader Phrase = λ j. (whole_in c.args.s.linked (Some b)).climb e (behind p x q) j in
    let w : c.least-k.result ≡ so_far (room c.args.s.linked (whole_in c.args.s.linked) (Some b)) (behind p x q) i c.next_at-t.result.place c.in-Sign.op = c.least-k.ensures _ (whole_in c.args.s.linked) i p q x h.set.shape (shape_told _ p x q c.shape_in.result c.shape_in.ensures h) in
    let d = c.in_ok-d.d.left in
    let less = less_by b d c.least-k.result c.in_ok-d.ensures.left in
    let one = c.requires.given.reads _ _ _ _ _ less c.after-from.ensures.inside c.in_ok-b.ensures in
    let r = subst (λ (f : ℕ). Reads (IsIn c.args.s.linked c.inner.new.arg2 c.in_ok-b.b) (ahead v c.in_ok-b.at) ((whole_in c.args.s.linked (Some d)).expr f (right_of c.in-Sign.op) (ahead v c.after-from.result))) refl one.read in
    record {
      what = infix_of i c.next_at-t.result.place c.in-Sign.op r.what;
      told = c.in_ok-y.ensures.read _ i r.what p q x (parted_kept _ p x q one.kept h) r.told;
      is = any_more _ v.bytes.items b e (behind p x q) i ts c.next_at-t.result.place c.next_at-t.result.view c.next_at-t.ensures c.in-Sign.op c.in-Sign.is (sym (c.goes_on.ensures.phrase _ i h.set.shape) ∙ c.if-not-goes_on.false) c.least-k.result w d c.in_ok-d.ensures.left (ahead v c.after-from.result) c.after-from.ensures.rest
          ∙ ap (λ (o : Out Phrase). then_read o (λ s. on (infix_of i c.next_at-t.result.place c.in-Sign.op s))) r.is;
    }

pub grown-requires-clause-some : goal.grown-requires-clause-some
grown-requires-clause-some g c =
    let some = c.requires.some in
    let less = less_by c.args.s.left c.in_ok-d.d.left c.least-k.result c.in_ok-d.ensures.left in
    let one = c.requires.given.reads _ _ _ _ _ less c.after-from.ensures.inside c.in_ok-b.ensures in
    (c.args.s.linked, record { place = some.place; word_of = some.word_of; sign = some.sign; what = some.what; told = parted_kept _ some.place some.word_of some.sign one.kept some.told })

pub grown-requires-clause-chained : goal.grown-requires-clause-chained
grown-requires-clause-chained g c =
    let some = c.requires.some in
    let b = c.args.s.left in
    let d = c.in_ok-d.d.left in
    let w : c.least-k.result ≡ so_far (room c.args.s.linked (whole_in c.args.s.linked) (Some b)) (behind some.place some.word_of some.sign) some.what c.next_at-t.result.place c.in-Sign.op = c.least-k.ensures _ (whole_in c.args.s.linked) some.what some.place some.sign some.word_of some.told.set.shape (shape_told _ some.place some.word_of some.sign c.shape_in.result c.shape_in.ensures some.told) in
    let less = less_by b d c.least-k.result c.in_ok-d.ensures.left in
    let one = c.requires.given.reads _ _ _ _ _ less c.after-from.ensures.inside c.in_ok-b.ensures in
    let same : (shape_of c.args.s.linked some.what).chain ≡ c.args.a.set.shape.chain = ap (λ (s : Shape). s.chain) some.told.set.shape in
    let told = low_at _ some.place some.word_of some.sign (whole_in c.args.s.linked) b some.what c.next_at-t.result.place c.in-Sign.op c.least-k.result w d c.in_ok-d.ensures.left in
    let low : c.args.a.set.shape.chain ≤ b + b = omega (arith, same, told) in
    omega (arith, low, one.small, less, c.requires.given.limited)

pub returns-clause-small : goal.returns-clause-small
returns-clause-small g c =
    let some = c.requires.some in
    let b = c.args.s.left in
    let d = c.in_ok-d.d.left in
    let w : c.least-k.result ≡ so_far (room c.args.s.linked (whole_in c.args.s.linked) (Some b)) (behind some.place some.word_of some.sign) some.what c.next_at-t.result.place c.in-Sign.op = c.least-k.ensures _ (whole_in c.args.s.linked) some.what some.place some.sign some.word_of some.told.set.shape (shape_told _ some.place some.word_of some.sign c.shape_in.result c.shape_in.ensures some.told) in
    let less = less_by b d c.least-k.result c.in_ok-d.ensures.left in
    let one = c.requires.given.reads _ _ _ _ _ less c.after-from.ensures.inside c.in_ok-b.ensures in
    let same : (shape_of c.args.s.linked some.what).chain ≡ c.args.a.set.shape.chain = ap (λ (s : Shape). s.chain) some.told.set.shape in
    let told = low_at _ some.place some.word_of some.sign (whole_in c.args.s.linked) b some.what c.next_at-t.result.place c.in-Sign.op c.least-k.result w d c.in_ok-d.ensures.left in
    let low : c.args.a.set.shape.chain ≤ b + b = omega (arith, same, told) in
    grown_small c.args.a.set.shape c.in-Sign.op c.in_ok-b.b.shape c.in_ok-y.y.set.shape b d c.in_ok-y.ensures.shape c.requires.small low one.small less

pub returns-clause-longer : goal.returns-clause-longer
returns-clause-longer g c =
    let some = c.requires.some in
    let b = c.args.s.left in
    let d = c.in_ok-d.d.left in
    let w : c.least-k.result ≡ so_far (room c.args.s.linked (whole_in c.args.s.linked) (Some b)) (behind some.place some.word_of some.sign) some.what c.next_at-t.result.place c.in-Sign.op = c.least-k.ensures _ (whole_in c.args.s.linked) some.what some.place some.sign some.word_of some.told.set.shape (shape_told _ some.place some.word_of some.sign c.shape_in.result c.shape_in.ensures some.told) in
    let less = less_by b d c.least-k.result c.in_ok-d.ensures.left in
    let one = c.requires.given.reads _ _ _ _ _ less c.after-from.ensures.inside c.in_ok-b.ensures in
    let same : (shape_of c.args.s.linked some.what).chain ≡ c.args.a.set.shape.chain = ap (λ (s : Shape). s.chain) some.told.set.shape in
    let told = low_at _ some.place some.word_of some.sign (whole_in c.args.s.linked) b some.what c.next_at-t.result.place c.in-Sign.op c.least-k.result w d c.in_ok-d.ensures.left in
    let low : c.args.a.set.shape.chain ≤ b + b = omega (arith, same, told) in
    (ap (λ (s : Shape). s.chain) c.in_ok-y.ensures.shape, low)
