-- Proves that what a call of a macro has in pairs is kept.
use Rattle.std.proofs.Common.{[], List, subst}
use Rattle.std.specs.List.{flat_map}
use Rattle.std.proofs.lemmas.Result.{on_ok_weaker}
use Rattle.tla_tree.specs.Pool.{trees_at}
use Rattle.pcal_tree.specs.laws.MacroSummaries.{argument, put_pair}
use Rattle.label_steps.specs.declared.put.Pair.{Pair}
use Rattle.label_steps.specs.GatheredIn.{Adds}
use Rattle.label_steps.specs.KnownIn.{IsKnown, find_summary}
use Rattle.label_steps.specs.PutIn.{pair_of}
use Rattle.label_steps.proofs.AddsLaws.{call_none, call_some}
use Rattle.label_steps.proofs.gathered.Gathered.call.Goals as goal

pub returns-in-None : goal.returns-in-None
returns-in-None c = λ ms k.
    call_none c.args.known.now c.args.self.now ms c.args.name.now (trees_at c.args.pool.now c.args.args.now)
    (subst (λ o. IsKnown c.args.known.now.params.keys o (find_summary ms c.args.name.now)) c.in-None.is (c.find.ensures ms k))

pub returns-in-Some : goal.returns-in-Some
returns-in-Some c =
    on_ok_weaker c.put_pairs.result (λ g ms k.
    let us = trees_at c.args.pool.now c.args.args.now in
    let f = subst (λ o. IsKnown c.args.known.now.params.keys o (find_summary ms c.args.name.now)) c.in-Some.is (c.find.ensures ms k) in
    call_some c.args.known.now c.args.self.now c.put_pairs.new.self ms c.args.name.now us c.in-Some.summary.now f.0 f.1 f.2
    (subst (λ (qs : List Pair). Adds c.args.known.now c.args.self.now c.put_pairs.new.self [] (flat_map (λ p. put_pair (argument c.in-Some.summary.now.params us) (pair_of p)) qs)) c.as_slice.ensures.keys g)) c.put_pairs.ensures
