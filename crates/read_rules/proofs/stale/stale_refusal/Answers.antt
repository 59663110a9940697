-- Proves that the first offence of an algorithm is found.
use Rattle.std.proofs.Common.{List, vec_len, sym, ap, ◌∙◌}
use Rattle.std.proofs.lemmas.Result.{IfOk-weaker}
use Rattle.pcal_tree.specs.Algorithm as tree
use Rattle.pcal_tree.specs.declared.algorithm.Definition.{Definition}
use Rattle.pcal_tree.specs.InMemory.{definitions_at, algorithm_at}
use Rattle.pcal_tree.specs.laws.MacroSpots.{spots_by_macros}
use Rattle.pcal_tree.specs.Offences.{first}
use Rattle.read_rules.proofs.NoReadings.{none_stale, no_items}
use Rattle.read_rules.proofs.stale.stale_refusal.Goals as goal

pub returns : goal.returns
returns c = IfOk-weaker c.refusal_with-found.result _ _ (λ r h. h c.in_ok-wanted.ensures.0 c.in_ok-wanted.ensures.1) c.refusal_with-found.ensures

pub returns-then-is_empty : goal.returns-then-is_empty
returns-then-is_empty c =
    let ts = c.args.pool.now in
    let a : tree.Algorithm = algorithm_at ts c.args.algorithm.now in
    let ds = c.args.algorithm.now.definitions in
    let none = no_items ds.items (vec_len ds) (sym c.is_empty.ensures ∙ c.if-is_empty.true) ds.ok.0 in
    sym (ap first (none_stale (spots_by_macros a) a (ap (λ (es : List Definition). definitions_at ts es) none)))
