-- Proves what is asked of `past_names`.
use Rattle.std.proofs.Common.{List, arith, sym, subst}
use Rattle.tla_tree.specs.Tree.{Word}
use Rattle.expr_nodes.specs.Ahead.{ahead}
use Rattle.module_tree.specs.Grammar.{words_of}
use Rattle.region_reading.specs.NameReader.{names_in}
use Rattle.region_items.proofs.Gathered.{none_so_far, one_more}
use Rattle.region_items.proofs.NamesGathered.{NamesSoFar, names_go_on}
use Rattle.region_items.proofs.names.past_names.Goals as goal

pub loop-names-init : goal.loop-names-init
loop-names-init c =
    let s = c.args.s in
    let from = ahead c.args.tokens.now s.at in
    record {
      so_far = subst (λ (l : List Word). NamesSoFar s.edge from from l) (sym c.new-names.ensures) (none_so_far (names_in s.edge) words_of from);
      inside = c.requires;
      further = omega arith;
    }

pub loop-names-preserved : goal.loop-names-preserved
loop-names-preserved c =
    let s = c.args.s in
    let v = c.args.tokens.now in
    let one = c.in_ok-name.ensures in
    let comma = c.in-Some.ensures in
    record {
      so_far = subst (λ (l : List Word). NamesSoFar s.edge (ahead v s.at) (ahead v c.in-Some.behind) l) (sym c.in_ok-push.ensures.ok)
          (one_more (names_in s.edge) words_of c.loop-names.invariant.so_far (names_go_on s.edge _ _ _ _ one.value comma.there comma.rest));
      inside = comma.inside;
      further = omega (arith, c.loop-names.invariant.further, one.further, comma.further);
    }
