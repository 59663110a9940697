-- Proves that all demands of an algorithm are added.
use Rattle.std.proofs.Common.{◌++◌, ◌∷◌, [], List, cond, ◌≤◌, sym, ap, ◌∙◌, append_assoc, arith}
use Rattle.std.proofs.lemmas.Result.{on_ok_weaker}
use Rattle.pcal_tree.specs.InMemory.{main_at, past_main, algorithm_at}
use Rattle.written_names.specs.Units.{naming_of}
use Rattle.fairness_lines.specs.Asked.{Asked, of_all, asked_of_main}
use Rattle.fairness_lines.specs.DemandsAt.{all_asked}
use Rattle.fairness_lines.proofs.AskedLaws.{all_asked_is}
use Rattle.fairness_lines.proofs.demands.add_demands.Goals as goal

pub returns-clause-asked : goal.returns-clause-asked
returns-clause-asked c =
    on_ok_weaker c.add_main.result (λ h ts.
    let f = naming_of c.args.draft.now.naming.now in
    let a = algorithm_at ts c.args.draft.now.algorithm.now in
    h ts
    ∙ ap (λ (xs : List Asked). xs ++ asked_of_main f a (main_at ts c.args.draft.now.algorithm.now.main)) (c.in_ok-add_all.ensures.asked ts)
    ∙ append_assoc (all_asked ts c.args.into.now.items) (cond c.args.draft.now.algorithm.now.fair (of_all ∷ []) []) (asked_of_main f a (main_at ts c.args.draft.now.algorithm.now.main))
    ∙ ap (λ (xs : List Asked). all_asked ts c.args.into.now.items ++ xs) (sym (all_asked_is f a)))
    c.add_main.ensures.asked

pub returns-clause-within : goal.returns-clause-within
returns-clause-within c =
    on_ok_weaker c.add_main.result (λ h m k l.
    let less : past_main c.args.draft.now.algorithm.now.main ≤ m = omega (arith, l) in
    h m (c.in_ok-add_all.ensures.within m k) less)
    c.add_main.ensures.within
