-- Proves what is asked of `next_choice`.
use Rattle.std.proofs.Common.{◌≡◌, ◌<◌, ◌∙◌, ap, subst, arith, length, length-append, get_or, List, [], ◌∷◌, ◌++◌, suc, zero, add-one, true}
use Rattle.tla_tree.specs.Tree.{Word}
use Rattle.tla_value.specs.Value.{Value, truth}
use Rattle.eval_visits.proofs.WalkLemmas.{left_done, fewer_done, left_deeper, fewer_deeper, choice_found}
use Rattle.eval_visits.proofs.walk.next_choice.Goals as goal

abbrev nothing : Value
nothing = truth true

pub returns-then-here-names : goal.returns-then-here-names
returns-then-here-names c =
    let names = c.args.names.now in let P = c.pop.new.self.items in let next = c.in-Some.next in let o = c.index-names-here.result in
    let at_P : c.len-here.result ≡ length P = omega (arith, c.len-here.ensures) in
    let is : o ≡ get_or names (length P) o = subst (λ n. o ≡ get_or names n o) at_P c.index-names-here.is in
    let many : length o.1 ≡ c.len.result = omega (arith, ap (λ (p : Word × List Value). length p.1) c.over.view_is, c.len.ensures) in
    let whole : suc (length P) ≡ length names = omega (arith, at_P, c.if-here-names.true) in
    let Q : c.push.new.self.items ≡ P ++ suc next ∷ [] = c.in_ok-push.ensures.items ∙ ap (λ n. P ++ n ∷ []) (add-one next) in
    choice_found names c.args.left.now.items c.loop-next.left.items P c.push.new.self.items next o (get_or o.1 next nothing) c.in-Some.ensures.items whole is (omega (arith, many, c.if-next-len.false)) Q c.loop-next.invariant

pub loop-next-preserved-then-next-len : goal.loop-next-preserved-then-next-len
loop-next-preserved-then-next-len c =
    let names = c.args.names.now in let P = c.pop.new.self.items in let next = c.in-Some.next in let o = c.index-names-here.result in
    let at_P : c.len-here.result ≡ length P = omega (arith, c.len-here.ensures) in
    let is : o ≡ get_or names (length P) o = subst (λ n. o ≡ get_or names n o) at_P c.index-names-here.is in
    let many : length o.1 ≡ c.len.result = omega (arith, ap (λ (p : Word × List Value). length p.1) c.over.view_is, c.len.ensures) in
    left_done names c.args.left.now.items c.loop-next.left.items P next o c.in-Some.ensures.items is (omega (arith, many, c.if-next-len.true)) c.loop-next.invariant

pub loop-next-smaller-then-next-len : goal.loop-next-smaller-then-next-len
loop-next-smaller-then-next-len c =
    let names = c.args.names.now in let P = c.pop.new.self.items in let o = c.index-names-here.result in
    let at_P : c.len-here.result ≡ length P = omega (arith, c.len-here.ensures) in
    let is : o ≡ get_or names (length P) o = subst (λ n. o ≡ get_or names n o) at_P c.index-names-here.is in
    fewer_done names c.loop-next.left.items P c.in-Some.next o c.in-Some.ensures.items is c.loop-next.invariant.0

pub loop-next-preserved : goal.loop-next-preserved
loop-next-preserved c =
    let names = c.args.names.now in let P = c.pop.new.self.items in let next = c.in-Some.next in let o = c.index-names-here.result in
    let at_P : c.len-here.result ≡ length P = omega (arith, c.len-here.ensures) in
    let is : o ≡ get_or names (length P) o = subst (λ n. o ≡ get_or names n o) at_P c.index-names-here.is in
    let many : length o.1 ≡ c.len.result = omega (arith, ap (λ (p : Word × List Value). length p.1) c.over.view_is, c.len.ensures) in
    let lt : length P < length names = omega (arith, c.loop-next.invariant.0, ap length c.in-Some.ensures.items, length-append P (next ∷ [])) in
    let more : suc (length P) < length names = omega (arith, lt, at_P, c.if-here-names.false) in
    let Q : c.push.new.self.items ≡ P ++ suc next ∷ [] = c.in_ok-push.ensures.items ∙ ap (λ n. P ++ n ∷ []) (add-one next) in
    let R : c.push-in-Some.new.self.items ≡ (P ++ suc next ∷ []) ++ zero ∷ [] = c.in_ok-push-2.ensures.items ∙ ap (λ l. l ++ zero ∷ []) Q in
    left_deeper names c.args.left.now.items c.loop-next.left.items P c.push-in-Some.new.self.items next o (get_or o.1 next nothing) c.in-Some.ensures.items more is (omega (arith, many, c.if-next-len.false)) R c.loop-next.invariant

pub loop-next-smaller : goal.loop-next-smaller
loop-next-smaller c =
    let names = c.args.names.now in let P = c.pop.new.self.items in let next = c.in-Some.next in let o = c.index-names-here.result in
    let at_P : c.len-here.result ≡ length P = omega (arith, c.len-here.ensures) in
    let is : o ≡ get_or names (length P) o = subst (λ n. o ≡ get_or names n o) at_P c.index-names-here.is in
    let many : length o.1 ≡ c.len.result = omega (arith, ap (λ (p : Word × List Value). length p.1) c.over.view_is, c.len.ensures) in
    let lt : length P < length names = omega (arith, c.loop-next.invariant.0, ap length c.in-Some.ensures.items, length-append P (next ∷ [])) in
    let more : suc (length P) < length names = omega (arith, lt, at_P, c.if-here-names.false) in
    let Q : c.push.new.self.items ≡ P ++ suc next ∷ [] = c.in_ok-push.ensures.items ∙ ap (λ n. P ++ n ∷ []) (add-one next) in
    let R : c.push-in-Some.new.self.items ≡ (P ++ suc next ∷ []) ++ zero ∷ [] = c.in_ok-push-2.ensures.items ∙ ap (λ l. l ++ zero ∷ []) Q in
    fewer_deeper names c.loop-next.left.items P c.push-in-Some.new.self.items next o c.in-Some.ensures.items more is (omega (arith, many, c.if-next-len.false)) R
