-- Groups of names are fresh as far as they are bound.
use Rattle.std.proofs.Common.{◌++◌, List, take, sym, ap, ◌∙◌, subst, Vec, Global}
use Rattle.std.specs.List.{flat_map}
use Rattle.std.proofs.lemmas.List.{take_all}
use Rattle.tla_tree.specs.Tree.{Name, words}
use Rattle.tla_pool.specs.FormOf.{groups_of}
use Rattle.module_tree.specs.Outside as pure
use Rattle.algorithm_limits.specs.DepthsIn.{Hides}
use Rattle.algorithm_limits.proofs.BoundLemmas.{groups_more}
use Rattle.module_outside.proofs.SightLaws.{binds_more, fresh_group, stale_group, kept_then}
use Rattle.module_outside.proofs.fresh.groups_fresh.Goals as goal

pub returns-then-not-branch-clause-value : goal.returns-then-not-branch-clause-value
returns-then-not-branch-clause-value c v bs s b =
    let taken = flat_map words (groups_of (take c.loop-i.i c.args.groups.now)) in
    let is = c.in_ok-names_fresh.ensures.value v (taken ++ bs) s (binds_more c.args.bound.now c.loop-i.bound taken bs b c.loop-i.invariant.hides) in
    sym (stale_group v bs c.args.groups.now c.loop-i.i c.index-groups-i.result c.index-groups-i.is c.loop-i-test.true (c.loop-i.invariant.fresh v bs s b)
    (ap (λ (ns : List Name). pure.are_fresh v (taken ++ bs) (words ns)) (sym c.deref.ensures.value) ∙ sym is ∙ c.if-not-branch.true))

pub returns-then-not-branch-clause-kept : goal.returns-then-not-branch-clause-kept
returns-then-not-branch-clause-kept c = kept_then c.args.bound.now c.loop-i.bound c.names_fresh.new.bound _ c.loop-i.invariant.hides c.in_ok-names_fresh.ensures.kept

pub loop-i-preserved : goal.loop-i-preserved
loop-i-preserved c = record {
  hides = groups_more c.args.bound.now c.loop-i.bound c.names_fresh.new.bound c.args.groups.now c.loop-i.i c.index-groups-i.result c.index-groups-i.is c.loop-i-test.true c.loop-i.invariant.hides
      (subst (λ (ns : List Name). Hides c.loop-i.bound c.names_fresh.new.bound (words ns)) c.deref.ensures.value (c.in_ok-names_fresh.ensures.hides c.if-not-branch.false));
  fresh = λ v bs s b.
      let taken = flat_map words (groups_of (take c.loop-i.i c.args.groups.now)) in
      let is = c.in_ok-names_fresh.ensures.value v (taken ++ bs) s (binds_more c.args.bound.now c.loop-i.bound taken bs b c.loop-i.invariant.hides) in
      fresh_group v bs c.args.groups.now c.loop-i.i c.index-groups-i.result c.index-groups-i.is c.loop-i-test.true (c.loop-i.invariant.fresh v bs s b)
      (ap (λ (ns : List Name). pure.are_fresh v (taken ++ bs) (words ns)) (sym c.deref.ensures.value) ∙ sym is ∙ c.if-not-branch.false);
}

pub returns-clause-value : goal.returns-clause-value
returns-clause-value c v bs s b =
    sym (ap (λ (gs : List (Vec Name Global)). pure.are_fresh v bs (flat_map words (groups_of gs))) (sym (take_all c.loop-i.i c.args.groups.now c.loop-i-test.false)) ∙ c.loop-i.invariant.fresh v bs s b)
