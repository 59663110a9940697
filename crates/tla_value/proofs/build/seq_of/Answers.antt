-- Proves what is asked of `seq_of`.
use Rattle.std.proofs.Common.{refl, Ok, ◌∙◌, sym, arith, ap, subst, pos, length-append, ◌∷◌, ◌++◌, length, [], ◌+◌}
use Rattle.tla_value.specs.Value.{int, fun, values_in}
use Rattle.tla_value.specs.Order.{seq_from, numbers_from}
use Rattle.tla_value.specs.Limits.{depths}
use Rattle.tla_value.specs.ValueOf.{IsStored, AreStored}
use Rattle.tla_value.proofs.ValueLists.{count-values_in}
use Rattle.tla_value.proofs.OrderFuns.{count_numbered, seq_from_canonical}
use Rattle.tla_value.proofs.Fits.{fun_many, fun_deep, seq_fits, bounded_past, bounded_kept}
use Rattle.tla_value.proofs.Lookups.{numbered_push, numbered_whole}
use Rattle.tla_value.proofs.build.seq_of.Goals as goal

pub loop-i-preserved : goal.loop-i-preserved
loop-i-preserved c =
    let items = c.in_ok-push.ensures.items ∙ ap (λ v. c.loop-i.numbers.items ++ v ∷ []) c.number.ensures in
    (rw items (numbered_push c.loop-i.numbers.items c.args.values.items c.loop-i.i (int (pos 0)) _ (omega arith) c.loop-i.invariant.0), omega (arith, c.loop-i.invariant.1, ap length items, length-append c.loop-i.numbers.items (int (pos (c.loop-i.i + 1)) ∷ [])))

pub returns-then-len-gt-MOST_MEMBERS : goal.returns-then-len-gt-MOST_MEMBERS
returns-then-len-gt-MOST_MEMBERS c =
    let vs = c.args.values.items in
    bounded_past c.args.at (seq_from vs) (seq_from vs) refl (fun_many (numbers_from 1 vs) (values_in vs) (omega (arith, count_numbered 1 vs, count-values_in vs, c.len.ensures, c.if-len-gt-MOST_MEMBERS.true)))

pub returns-then-depth_in-ge-DEEPEST : goal.returns-then-depth_in-ge-DEEPEST
returns-then-depth_in-ge-DEEPEST c =
    let vs = c.args.values.items in
    bounded_past c.args.at (seq_from vs) (seq_from vs) refl (fun_deep (numbers_from 1 vs) (values_in vs) (omega (arith, c.depth_in.ensures.depth, ap (λ l. depths (values_in l)) c.deref.ensures.value, c.if-depth_in-ge-DEEPEST.true)))

pub invariant_of-result : goal.invariant_of-result
invariant_of-result c =
    let vs = c.args.values.items in
    let stored = subst (λ l. AreStored (values_in l)) c.deref.ensures.value c.depth_in.ensures.stored in
    let whole = numbered_whole c.loop-i.numbers.items vs c.loop-i.i (omega arith) c.loop-i.invariant.0 in
    subst (λ ds. IsStored (fun ds (values_in vs))) (sym whole)
    (seq_from_canonical vs stored.0, seq_fits vs (omega (arith, c.len.ensures, c.if-len-gt-MOST_MEMBERS.false)) (omega (arith, c.depth_in.ensures.depth, ap (λ l. depths (values_in l)) c.deref.ensures.value, c.if-depth_in-ge-DEEPEST.false)) stored.1)

pub returns : goal.returns
returns c =
    let vs = c.args.values.items in
    let stored = subst (λ l. AreStored (values_in l)) c.deref.ensures.value c.depth_in.ensures.stored in
    let whole = numbered_whole c.loop-i.numbers.items vs c.loop-i.i (omega arith) c.loop-i.invariant.0 in
    bounded_kept c.args.at (seq_from vs) (seq_from vs) refl
    (seq_fits vs (omega (arith, c.len.ensures, c.if-len-gt-MOST_MEMBERS.false)) (omega (arith, c.depth_in.ensures.depth, ap (λ l. depths (values_in l)) c.deref.ensures.value, c.if-depth_in-ge-DEEPEST.false)) stored.1) ∙ ap (λ ds. Ok (fun ds (values_in vs))) (sym whole)
