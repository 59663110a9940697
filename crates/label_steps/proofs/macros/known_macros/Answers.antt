-- Proves that what is known of macros is found.
use Rattle.std.proofs.Common.{List, map, reverse, take, sym, ap, ◌∙◌, subst, arith}
use Rattle.tla_token.specs.Signs.{is_among}
use Rattle.tla_tree.proofs.PoolNumbers.{past_at}
use Rattle.pcal_tree.specs.declared.algorithm.Macro.{Macro}
use Rattle.pcal_tree.specs.Algorithm as tree
use Rattle.pcal_tree.specs.InMemory.{macro_at, past_macro}
use Rattle.pcal_tree.specs.laws.MacroSummaries.{summaries}
use Rattle.label_steps.specs.KnownIn.{AreMacros}
use Rattle.label_steps.specs.MacrosIn.{params_of}
use Rattle.label_steps.proofs.LearnLaws.{one_inside, newest_first}
use Rattle.label_steps.proofs.macros.known_macros.Goals as goal

pub learn-requires : goal.learn-requires
learn-requires c =
    let less = past_at past_macro c.args.macros.now c.loop-i.i c.index-macros-i.result c.index-macros-i.is c.loop-i-test.true in omega (arith, less, c.requires)

pub loop-i-preserved : goal.loop-i-preserved
loop-i-preserved c = record {
  name = c.in_ok-learn.ensures.same.name ∙ c.loop-i.invariant.name;
  own = ap (λ v. v.items) c.in_ok-learn.ensures.same.own ∙ c.loop-i.invariant.own;
  params = λ x. ap (λ s. is_among s.keys x) c.in_ok-learn.ensures.same.params ∙ c.loop-i.invariant.params x;
  known =
      let ts = c.args.pool.now in
      let one = c.index-macros-i.result in
      subst (λ (ds : List tree.Macro). AreMacros c.learn.new.self.known (summaries ds)) (sym (newest_first (macro_at ts) c.args.macros.now c.loop-i.i one c.index-macros-i.is c.loop-i-test.true))
      (c.in_ok-learn.ensures.known (summaries (reverse (map (macro_at ts) (take c.loop-i.i c.args.macros.now)))) c.loop-i.invariant.known c.loop-i.invariant.name c.loop-i.invariant.own
      (λ x e. one_inside (λ (d : Macro). is_among (params_of d.params.items) x) c.args.macros.now c.loop-i.i one c.index-macros-i.is c.loop-i-test.true (sym (c.loop-i.invariant.params x) ∙ e)));
}
