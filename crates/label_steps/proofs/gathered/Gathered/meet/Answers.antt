-- Proves that what a statement assigns is gathered.
use Rattle.std.proofs.Common.{[], ◌++◌, List, sym, subst}
use Rattle.std.proofs.lemmas.Result.{on_ok_weaker}
use Rattle.tla_tree.specs.Pool.{trees_at}
use Rattle.pcal_tree.specs.declared.algorithm.Assignment.{Assignment}
use Rattle.pcal_tree.specs.declared.algorithm.Simple.{Simple}
use Rattle.pcal_tree.specs.InMemory.{simple_at, assignments_at}
use Rattle.pcal_tree.specs.laws.MacroSummaries.{sides, pairs_of, found_in_call, found_here}
use Rattle.label_steps.specs.GatheredIn.{Adds, names_on, turns_on}
use Rattle.label_steps.specs.PathsIn.{path_of}
use Rattle.label_steps.proofs.AddsLaws.{then_pairs}
use Rattle.label_steps.proofs.gathered.Gathered.meet.Goals as goal

pub returns-in-Assign : goal.returns-in-Assign
returns-in-Assign c =
    on_ok_weaker c.sides.result (λ h ms k.
    let p = path_of c.args.path.now in
    subst (λ (z : Simple). Adds c.args.known.now c.args.self.now c.sides.new.self (names_on p c.args.names.now) (turns_on p c.args.names.now ++ (found_here ms (simple_at c.args.pool.now z)).pairs)) (sym c.in-Assign.is)
    (then_pairs c.args.known.now c.args.self.now c.on_path.new.self c.sides.new.self (names_on p c.args.names.now) (turns_on p c.args.names.now) (pairs_of (sides (assignments_at c.args.pool.now c.in-Assign.list.items))) c.in_ok-on_path.ensures
    (subst (λ (l : List Assignment). Adds c.args.known.now c.on_path.new.self c.sides.new.self [] (pairs_of (sides (assignments_at c.args.pool.now l)))) c.deref.ensures.value h))) c.sides.ensures

pub returns-in-Macro : goal.returns-in-Macro
returns-in-Macro c =
    on_ok_weaker c.call.result (λ h ms k.
    let p = path_of c.args.path.now in
    subst (λ (z : Simple). Adds c.args.known.now c.args.self.now c.call.new.self (names_on p c.args.names.now) (turns_on p c.args.names.now ++ (found_here ms (simple_at c.args.pool.now z)).pairs)) (sym c.in-Macro.is)
    (then_pairs c.args.known.now c.args.self.now c.on_path.new.self c.call.new.self (names_on p c.args.names.now) (turns_on p c.args.names.now) (found_in_call ms c.in-Macro.name (trees_at c.args.pool.now c.in-Macro.args.items)).pairs
    c.in_ok-on_path.ensures
    (subst (λ (es : List _). Adds c.args.known.now c.on_path.new.self c.call.new.self [] (found_in_call ms c.in-Macro.name (trees_at c.args.pool.now es)).pairs) c.deref-in-Macro.ensures.value (h ms k)))) c.call.ensures
