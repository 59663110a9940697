-- Proves that the left sides of an assignment are kept.
use Rattle.std.proofs.Common.{◌-◌, ◌<◌, [], length, map, slice_index_or, drop, subst, arith}
use Rattle.std.proofs.lemmas.List.{get_or_default}
use Rattle.tla_tree.specs.Pool.{at}
use Rattle.tla_tree.proofs.PoolNumbers.{past_at}
use Rattle.pcal_tree.specs.declared.algorithm.Assignment.{Assignment}
use Rattle.pcal_tree.specs.Algorithm.{Assignments}
use Rattle.pcal_tree.specs.InMemory.{assignments_at, past_assignment}
use Rattle.pcal_tree.specs.Paths.{root, is_whole}
use Rattle.pcal_tree.specs.laws.MacroSummaries.{sides, pairs_of}
use Rattle.pcal_tree.proofs.SetLaws.{Same}
use Rattle.label_steps.specs.GatheredIn.{Adds}
use Rattle.label_steps.specs.PutIn.{side_of}
use Rattle.label_steps.proofs.AddsLaws.{sides_step}
use Rattle.label_steps.proofs.SideLaws.{next_side}
use Rattle.label_steps.proofs.gathered.Gathered.sides.Goals as goal

abbrev unset : Assignment
unset = record { left = 0; right = 0 }

pub side-requires : goal.side-requires
side-requires c =
    let ms = c.args.list.now in
    let i = length ms - 1 - c.loop-i.i in
    let e = slice_index_or ms i unset in
    let inside : i < length ms = omega (arith, c.loop-i-test.true) in
    let less = past_at past_assignment ms i e (get_or_default ms i unset e inside) inside in
    omega (arith, less, c.requires)

pub loop-i-preserved : goal.loop-i-preserved
loop-i-preserved c =
    let ms = c.args.list.now in
    let ts = c.args.pool.now in
    let i = length ms - 1 - c.loop-i.i in
    let e = slice_index_or ms i unset in
    let inside : i < length ms = omega (arith, c.loop-i-test.true) in
    let h =
    sides_step c.args.known.now c.args.self.now c.loop-i.self c.side.new.self c.loop-i.met.keys c.side.new.sides.keys (is_whole (at ts e.left)) (root (at ts e.left)) (sides (assignments_at ts (drop (length ms - c.loop-i.i) ms)))
    c.loop-i.invariant.met c.loop-i.invariant.adds c.in_ok-side.ensures in
    let next = next_side ts ms c.loop-i.i e (get_or_default ms i unset e inside) c.loop-i-test.true in
    record {
      adds = subst (λ (ns : Assignments). Adds c.args.known.now c.args.self.now c.side.new.self [] (pairs_of (sides ns))) next h.0;
      met = subst (λ (ns : Assignments). Same (map side_of c.side.new.sides.keys) (sides ns)) next h.1;
    }
