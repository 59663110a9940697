-- Proves that all that an algorithm offends is found.
use Rattle.std.proofs.Common.{◌++◌, List, map, reverse, ap, ◌∙◌, subst}
use Rattle.std.specs.List.{flat_map}
use Rattle.pcal_tree.specs.declared.algorithm.Macro.{Macro}
use Rattle.pcal_tree.specs.InMemory.{macro_at, algorithm_at}
use Rattle.pcal_tree.specs.OffencesLabels.{of_macro}
use Rattle.pcal_tree.specs.laws.MacroSummaries.{summaries}
use Rattle.label_steps.specs.KnownIn.{AreMacros}
use Rattle.label_rules.proofs.AllLaws.{all_are}
use Rattle.label_rules.proofs.all.offences.Goals as goal

pub returns : goal.returns
returns c =
    let ts = c.args.pool.now in
    let a = algorithm_at ts c.args.algorithm.now in
    let ms = summaries (reverse a.macros) in
    let k = subst (λ (ds : List Macro). AreMacros c.in_ok-known.known (summaries (reverse (map (macro_at ts) ds)))) c.deref.ensures.value c.in_ok-known.ensures in
    all_are a c.new-found.result.items c.add_macros.new.found.items c.add_routines.new.found.items c.new-found.ensures.items
    (c.in_ok-add_macros.ensures ms k ∙ ap (λ (ds : List Macro). c.new-found.result.items ++ flat_map of_macro (map (macro_at ts) ds)) c.deref-2.ensures.value)
    (c.in_ok-add_routines.ensures ms k)
