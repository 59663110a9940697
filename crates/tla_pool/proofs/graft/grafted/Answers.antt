-- Proves what is asked of `grafted`.
use Rattle.std.proofs.Common.{ℕ, List, ap, sym, ◌∙◌, subst, arith}
use Rattle.tla_tree.specs.Tree.{Graft, graft}
use Rattle.tla_tree.specs.Pool.{tree_in}
use Rattle.tla_pool.proofs.VisitLemmas.{Goes, goes_enter, goes_leave, less_goes, less_after, less_last, within_goes, done_goes, shaped_goes, goes_last, goes_end}
use Rattle.tla_pool.proofs.graft.grafted.Goals as goal

pub enter-requires : goal.enter-requires
enter-requires g c = within_goes _ _ _ _ _ _ _ (goes_last _ _ _ _ _ _ _ _ _ c.loop-visit.invariant c.in-Some.ensures.items c.in-Enter.is)

pub loop-visit-preserved-in-Continue-branch-2 : goal.loop-visit-preserved-in-Continue-branch-2
loop-visit-preserved-in-Continue-branch-2 g c = goes_enter _ _ _ _ _ _ _ _ (goes_last _ _ _ _ _ _ _ _ _ c.loop-visit.invariant c.in-Some.ensures.items c.in-Enter.is) c.in_ok-enter-in-Enter.ensures

pub loop-visit-smaller-in-Continue-branch-2 : goal.loop-visit-smaller-in-Continue-branch-2
loop-visit-smaller-in-Continue-branch-2 g c =
    less_last c.args.pool.now _ _ _ _ _ c.in-Some.ensures.items c.in-Enter.is (less_goes _ _ _ _ _ _ _ _ (goes_last _ _ _ _ _ _ _ _ _ c.loop-visit.invariant c.in-Some.ensures.items c.in-Enter.is) c.in_ok-enter-in-Enter.ensures)

pub over_made_parts-requires-clause-shaped : goal.over_made_parts-requires-clause-shaped
over_made_parts-requires-clause-shaped g c = shaped_goes _ _ _ _ _ _ _ _ (goes_last _ _ _ _ _ _ _ _ _ c.loop-visit.invariant c.in-Some.ensures.items c.in-Leave.is)

pub over_made_parts-requires-clause-parts : goal.over_made_parts-requires-clause-parts
over_made_parts-requires-clause-parts g c = done_goes _ _ _ _ _ _ _ _ (goes_last _ _ _ _ _ _ _ _ _ c.loop-visit.invariant c.in-Some.ensures.items c.in-Leave.is)

pub loop-visit-smaller : goal.loop-visit-smaller
loop-visit-smaller g c = less_last c.args.pool.now _ _ _ _ _ c.in-Some.ensures.items c.in-Leave.is (less_after _ _ _)

pub loop-visit-preserved : goal.loop-visit-preserved
loop-visit-preserved g c =
    let made = c.in_ok-made-in-Leave.ensures in
    let stays = (g.met.G.Grafting.stays c.args.g.now _ _ c.requires.fits c.loop-visit.invariant.kept).1 in
    subst (λ (d : List (ℕ × ℕ)). Goes (g.G.Grafting.graft c.args.g.now c.args.pool.now) c.args.pool.now c.over_made_parts.new.pool d c.pop.new.self.items c.args.e) (sym c.in_ok-keep-in-Leave.ensures)
    (goes_leave _ _ _ _ _ _ _ _ _ _ (goes_last _ _ _ _ _ _ _ _ _ c.loop-visit.invariant c.in-Some.ensures.items c.in-Leave.is) made.kept made.within (made.tree ∙ ap (λ (f : Graft). graft f (tree_in c.loop-visit.pool c.in-Leave.node)) stays))

pub returns-clause-tree : goal.returns-clause-tree
returns-clause-tree g c = (goes_end _ _ _ _ _ c.args.e c.unwrap.result c.requires.e_in c.loop-visit.invariant (sym c.get.ensures ∙ c.unwrap.ensures)).1

pub returns-clause-within : goal.returns-clause-within
returns-clause-within g c = (goes_end _ _ _ _ _ c.args.e c.unwrap.result c.requires.e_in c.loop-visit.invariant (sym c.get.ensures ∙ c.unwrap.ensures)).0

pub returns-clause-same : goal.returns-clause-same
returns-clause-same g c = λ plain.
    let kept = c.loop-visit.invariant.kept in
    let made = goes_end _ _ _ _ _ c.args.e c.unwrap.result c.requires.e_in c.loop-visit.invariant (sym c.get.ensures ∙ c.unwrap.ensures) in
    c.differ.ensures c.unwrap.result c.args.e made.0 (omega (arith, c.requires.e_in, kept.longer)) (made.1 ∙ plain ∙ sym (kept.same c.args.e c.requires.e_in))
