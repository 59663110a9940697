-- Proves that one more left side is passed.
use Rattle.std.proofs.Common.{◌∷◌, [], List, sym, ◌∙◌, subst}
use Rattle.std.specs.List.{flat_map}
use Rattle.tla_tree.specs.Pool.{at}
use Rattle.pcal_tree.specs.Paths.{root, is_whole}
use Rattle.pcal_tree.specs.laws.MacroSummaries.{at_once}
use Rattle.label_steps.specs.declared.put.Side.{Side}
use Rattle.label_steps.specs.GatheredIn.{Adds}
use Rattle.label_steps.specs.PutIn.{side_of}
use Rattle.label_steps.proofs.AddsLaws.{side_some}
use Rattle.label_steps.proofs.gathered.Gathered.side.Goals as goal

pub returns-in_ok-insert-in-Some : goal.returns-in_ok-insert-in-Some
returns-in_ok-insert-in-Some c =
    side_some c.args.known.now c.args.self.now c.before_sides.new.self c.args.sides.now.keys c.insert.new.self.keys c.in-Some.name c.is_whole.result (is_whole (at c.args.pool.now c.args.left)) (root (at c.args.pool.now c.args.left))
    (sym c.in_ok-root.ensures ∙ c.in-Some.is) c.is_whole.ensures
    (subst (λ (ss : List Side). Adds c.args.known.now c.args.self.now c.before_sides.new.self [] (flat_map (λ s. at_once (record { name = c.in-Some.name; whole = c.is_whole.result }) (side_of s) ∷ []) ss)) c.as_slice.ensures.keys
    c.in_ok-before_sides-in-Some.ensures) c.in_ok-insert-in-Some.ensures.keys
