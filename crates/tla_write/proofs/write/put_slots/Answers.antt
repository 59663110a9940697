-- Proves what is asked of `put_slots`.
use Rattle.std.proofs.Common.{◌≡◌, arith, ap, ◌∙◌, length, ◌-◌, ◌≤◌, drop, List}
use Rattle.tla_write.specs.Writing.{shown}
use Rattle.std.proofs.lemmas.List.{length-map}
use Rattle.tla_tree.specs.Shapes.{subscripts}
use Rattle.tla_pool.specs.declared.form.Step.{Step}
use Rattle.tla_pool.specs.FormOf.{steps_of, slot_of, slots_of}
use Rattle.tla_tree.specs.Tree as pure
use Rattle.tla_tree.specs.Written.{mark, path_pieces, right_side, slot_pieces}
use Rattle.tla_tree.specs.Lexical as tk
use Rattle.tla_write.proofs.WritingLemmas.{shown_append, map_next, map_get, settings_next, settings_less, side_shown, slots_next, comma_by, is_more}
use Rattle.tla_write.proofs.write.put_slots.Goals as goal

pub put_path-requires : goal.put_path-requires
put_path-requires c =
    let ss = slots_of c.args.slots.now in
    let s = slot_of c.index-slots-i.result in
    let same = ap slot_of c.index-slots-i.is ∙ map_get slot_of c.args.slots.now (c.loop-i.i - 1) c.index-slots-i.result in
    let next = settings_next ss c.loop-i.i s (omega (arith, c.loop-i-test.true)) (omega (arith, c.loop-i.invariant.0, length-map c.args.slots.now slot_of)) in
    omega (arith, c.loop-i.invariant.1, next, ap (λ (t : pure.Slot). subscripts t.path) same, ap (λ (l : List Step). subscripts (steps_of l)) c.deref.ensures.value)

pub loop-i-preserved : goal.loop-i-preserved
loop-i-preserved c =
    let ss = slots_of c.args.slots.now in
    let i = c.loop-i.i in
    let s = slot_of c.index-slots-i.result in
    let long = length-map c.args.slots.now slot_of in
    let same = ap slot_of c.index-slots-i.is ∙ map_get slot_of c.args.slots.now (i - 1) c.index-slots-i.result in
    let more = settings_next ss i s (omega (arith, c.loop-i-test.true)) (omega (arith, c.loop-i.invariant.0, long)) in
    let walk = ap (λ (l : List Step). steps_of l) c.deref.ensures.value in
    let all = map_next slot_of c.args.slots.now i c.index-slots-i.result c.index-slots-i.is (omega (arith, c.loop-i-test.true)) c.loop-i.invariant.0 in (
      omega (arith, c.loop-i.invariant.0),
      omega (arith, c.loop-i.invariant.1, more, ap (λ (t : pure.Slot). subscripts t.path) same, ap subscripts walk, c.in_ok-next.ensures.0),
      λ xs h ps.
          (let end = shown xs c.args.plan.now.items ps in
          let fits : c.loop-i.next ≤ length xs = omega (arith, c.loop-i.invariant.1, c.requires, h, settings_less ss i) in
          let right : shown xs c.put_spaced.new.plan.items ps ≡ right_side (drop (c.loop-i.next - 1) xs) (λ zs. comma_by (is_more (drop i ss)) (slot_pieces (drop i ss) zs end)) =
          rw (c.in_ok-put_spaced.ensures, c.in_ok-push.ensures.items, c.in_ok-put_comma_if.ensures) (simp shown_append (rw (c.loop-i.invariant.2 xs h ps) (side_shown ss (length c.args.slots.now) i c.loop-i.next xs long (omega (arith, c.loop-i.invariant.1)) fits end))) in
          rw c.in_ok-push-2.ensures.items (simp shown_append (rw (c.in_ok-next.ensures.1 xs (omega (arith, fits)) ps (λ ys. right_side ys (λ zs. comma_by (is_more (drop i ss)) (slot_pieces (drop i ss) zs end))) right)
          (ap (λ (p : List pure.PathStep). mark tk.bang (path_pieces p (drop c.in_ok-next.next xs) (λ ys. right_side ys (λ zs. comma_by (is_more (drop i ss)) (slot_pieces (drop i ss) zs end))))) walk ∙ slots_next s (drop i ss) (drop (i - 1) ss) (drop c.in_ok-next.next xs) end all)))),
    )
