-- Names are fresh as far as they are bound.
use Rattle.std.proofs.Common.{◌≡◌, true, false, ◌++◌, List, [], ◌∷◌, length, take, refl, sym, ap, ◌∙◌, subst}
use Rattle.std.proofs.lemmas.List.{take_all}
use Rattle.std.proofs.lemmas.Result.{IfOk-from_err}
use Rattle.std.proofs.Math.Seq.{take-append_seam}
use Rattle.tla_tree.specs.Tree.{Name, words}
use Rattle.module_tree.specs.Outside as pure
use Rattle.algorithm_limits.specs.DepthsIn.{Hides}
use Rattle.algorithm_limits.proofs.BoundLemmas.{hides_none, names_more}
use Rattle.module_outside.specs.SightIn.{fresh_in}
use Rattle.module_outside.proofs.SightLaws.{binds_more, fresh_seen, fresh_name, stale_name}
use Rattle.module_outside.proofs.fresh.names_fresh.Goals as goal

untrue : (A : Type 0) → false ≡ true → A
untrue A h = absurd cc

pub returns-then-not-is_fresh-clause-value : goal.returns-then-not-is_fresh-clause-value
returns-then-not-is_fresh-clause-value c v bs s b =
    let taken = words (take c.loop-one.one-index c.args.names.now) in
    let is : c.is_fresh.result ≡ pure.is_fresh v (taken ++ bs) c.one-item.result.word =
    c.is_fresh.ensures ∙ ap (λ (n : Name). fresh_in c.args.sight.now c.loop-one.bound n.word) c.one.view_is
    ∙ fresh_seen c.args.sight.now v c.loop-one.bound (taken ++ bs) c.one-item.result.word s (binds_more c.args.bound.now c.loop-one.bound taken bs b c.loop-one.invariant.hides) in
    sym (stale_name v bs c.args.names.now c.loop-one.one-index c.one-item.result c.one-item.is c.loop-one-test.true (c.loop-one.invariant.fresh v bs s b) (sym is ∙ c.if-not-is_fresh.true))

pub loop-one-preserved : goal.loop-one-preserved
loop-one-preserved c = record {
  hides = names_more c.args.bound.now c.loop-one.bound c.add.new.self c.args.names.now c.loop-one.one-index c.one-item.result c.one-item.is c.loop-one-test.true c.loop-one.invariant.hides
      (subst (λ (n : Name). Hides c.loop-one.bound c.add.new.self (n.word ∷ [])) c.one.view_is c.in_ok-add.ensures);
  fresh = λ v bs s b.
      let taken = words (take c.loop-one.one-index c.args.names.now) in
      let is : c.is_fresh.result ≡ pure.is_fresh v (taken ++ bs) c.one-item.result.word =
      c.is_fresh.ensures ∙ ap (λ (n : Name). fresh_in c.args.sight.now c.loop-one.bound n.word) c.one.view_is
      ∙ fresh_seen c.args.sight.now v c.loop-one.bound (taken ++ bs) c.one-item.result.word s (binds_more c.args.bound.now c.loop-one.bound taken bs b c.loop-one.invariant.hides) in
      fresh_name v bs c.args.names.now c.loop-one.one-index c.one-item.result c.one-item.is c.loop-one-test.true (c.loop-one.invariant.fresh v bs s b) (sym is ∙ c.if-not-is_fresh.false);
}

pub returns-clause-value : goal.returns-clause-value
returns-clause-value c v bs s b =
    sym (ap (λ (xs : List Name). pure.are_fresh v bs (words xs)) (sym (take_all c.loop-one.one-index c.args.names.now c.loop-one-test.false)) ∙ c.loop-one.invariant.fresh v bs s b)

pub loop-one-init : goal.loop-one-init
loop-one-init c = record { hides = hides_none c.args.bound.now; fresh = λ v bs s b. refl }

pub returns-then-not-is_fresh-clause-hides : goal.returns-then-not-is_fresh-clause-hides
returns-then-not-is_fresh-clause-hides c t = untrue _ t

pub returns-then-not-is_fresh-clause-kept : goal.returns-then-not-is_fresh-clause-kept
returns-then-not-is_fresh-clause-kept c = ap (take (length c.args.bound.now)) c.loop-one.invariant.hides.behind ∙ take-append_seam c.args.bound.now c.loop-one.invariant.hides.more

pub returns-in_err-add-clause-value : goal.returns-in_err-add-clause-value
returns-in_err-add-clause-value c = IfOk-from_err c.from_residual.result _ c.from_residual.ensures.0

pub returns-in_err-add-clause-hides : goal.returns-in_err-add-clause-hides
returns-in_err-add-clause-hides c = IfOk-from_err c.from_residual.result _ c.from_residual.ensures.0

pub returns-in_err-add-clause-kept : goal.returns-in_err-add-clause-kept
returns-in_err-add-clause-kept c = IfOk-from_err c.from_residual.result _ c.from_residual.ensures.0

pub returns-clause-hides : goal.returns-clause-hides
returns-clause-hides c t = subst (λ (xs : List Name). Hides c.args.bound.now c.loop-one.bound (words xs)) (take_all c.loop-one.one-index c.args.names.now c.loop-one-test.false) c.loop-one.invariant.hides

pub returns-clause-kept : goal.returns-clause-kept
returns-clause-kept c = ap (take (length c.args.bound.now)) c.loop-one.invariant.hides.behind ∙ take-append_seam c.args.bound.now c.loop-one.invariant.hides.more
