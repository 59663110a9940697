-- Proves that the order of a list without repeats is that list, and that of any list has its names.
use Rattle.std.proofs.Common.{◌≡◌, List, get_or, sym, ap, subst, ◌∙◌, arith}
use Rattle.std.proofs.lemmas.List.{take_all}
use Rattle.tla_token.specs.Signs.{is_among}
use Rattle.tla_tree.specs.Tree.{Word}
use Rattle.name_bits.proofs.OrderLaws.{put_more, among_more}
use Rattle.name_bits.proofs.order.Order.new.Goals as goal

pub loop-name-preserved : goal.loop-name-preserved
loop-name-preserved c =
    let names = c.args.names.now in
    let i = c.loop-name.name-index in
    let x = c.in_ok-copied.field-0 in
    let here = subst (λ (x : Word). x ≡ get_or names i x) (sym c.in_ok-copied.ensures) c.name-item.is in
    let keys = c.in_ok-insert.ensures.keys in (
      λ h. keys ∙ put_more names c.loop-name.set.keys i x h c.loop-name-test.true here (c.loop-name.invariant.0 h),
      λ w. ap (λ (ys : List Word). is_among ys w) keys ∙ among_more names c.loop-name.set.keys i x c.loop-name-test.true here c.loop-name.invariant.1 w,
    )

pub returns : goal.returns
returns c =
    let all = take_all c.loop-name.name-index c.args.names.now (omega (arith, c.loop-name-test.false)) in record {
      order = λ h. c.loop-name.invariant.0 h ∙ all;
      among = λ w. c.loop-name.invariant.1 w ∙ ap (λ (ys : List Word). is_among ys w) all;
    }
