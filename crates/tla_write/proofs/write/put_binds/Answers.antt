-- Proves what is asked of `put_binds`.
use Rattle.std.proofs.Common.{arith, ap, ◌∙◌, length, Vec, ◌-◌}
use Rattle.tla_write.specs.Writing.{shown}
use Rattle.std.proofs.lemmas.List.{length-map}
use Rattle.std.specs.declared.alloc.Global.{Global}
use Rattle.tla_tree.specs.Tree.{Name}
use Rattle.tla_pool.specs.FormOf.{groups_of}
use Rattle.tla_write.proofs.WritingLemmas.{shown_append, binds_next, map_get}
use Rattle.tla_write.proofs.write.put_binds.Goals as goal

pub loop-i-preserved : goal.loop-i-preserved
loop-i-preserved c = (
  omega (arith, c.loop-i.invariant.0),
  λ xs h ps. (let group = λ (g : Vec Name Global). g.items in let e = c.deref.ensures.value ∙ ap group c.index-groups-i.is ∙ map_get group c.args.groups.now (c.loop-i.i - 1) c.index-groups-i.result in
      rw (c.in_ok-put_names.ensures xs ps, c.in_ok-extend_from_slice.ensures.items, c.in_ok-put_comma_if.ensures)
      (simp shown_append (rw (c.loop-i.invariant.1 xs h ps) (rw e (binds_next (groups_of c.args.groups.now) xs (length c.args.groups.now) c.loop-i.i (group c.index-groups-i.result) (length-map c.args.groups.now group) h (omega (arith, c.loop-i-test.true)) c.loop-i.invariant.0 (shown xs c.args.plan.now.items ps)))))),
)
