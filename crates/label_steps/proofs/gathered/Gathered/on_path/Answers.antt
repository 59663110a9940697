-- Proves that names are assigned where a path leads.
use Rattle.std.proofs.Common.{[], List, map, subst}
use Rattle.std.specs.List.{flat_map}
use Rattle.std.proofs.lemmas.Result.{on_ok_weaker}
use Rattle.tla_tree.specs.Tree.{Word}
use Rattle.pcal_tree.specs.laws.MacroSummaries.{in_turn}
use Rattle.label_steps.specs.GatheredIn.{Adds}
use Rattle.label_steps.proofs.AddsLaws.{on_some}
use Rattle.label_steps.proofs.gathered.Gathered.on_path.Goals as goal

pub returns : goal.returns
returns c =
    on_ok_weaker c.all_turns.result (λ h.
    on_some c.args.known.now c.args.self.now c.add.new.self c.all_turns.new.self c.args.path.now c.args.names.now c.if-not-path.false c.in_ok-add.ensures
    (subst (λ (xs : List Word). Adds c.args.known.now c.add.new.self c.all_turns.new.self [] (flat_map (λ y. map (λ x. in_turn x y) xs) c.args.names.now)) c.as_slice.ensures.keys h)) c.all_turns.ensures
