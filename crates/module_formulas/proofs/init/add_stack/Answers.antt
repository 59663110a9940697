-- Proves that the conjunct of the stack is added where there are procedures.
use Rattle.std.proofs.Common.{◌<◌, ◌++◌, List, length, map, ap, ◌∙◌, rules, arith}
use Rattle.std.proofs.lemmas.List.{length-map}
use Rattle.tla_tree.specs.Tree.{Tree}
use Rattle.tla_tree.specs.Pool.{at}
use Rattle.pcal_tree.specs.Algorithm.{procedure_routine}
use Rattle.pcal_tree.specs.InMemory.{procedure_at, main_at}
use Rattle.module_formulas.proofs.Grown.{below_one}
use Rattle.module_formulas.proofs.Behind.{adds_one}
use Rattle.module_formulas.proofs.RoutineLaws.{stack_there}
use Rattle.module_formulas.proofs.init.add_stack.Goals as goal

pub returns-clause-made : goal.returns-clause-made
returns-clause-made c = λ ts n.
    let some : 0 < length c.args.procedures.now = search rules in
    let said = c.in_ok-made.ensures in
    adds_one c.args.pool.now c.empty_stack.new.pool c.args.out.now.items c.push.new.self.items c.in_ok-made.made _ said.kept c.requires (said.tree ts) c.in_ok-push.ensures.items
    ∙ ap (λ (l : List Tree). map (at c.args.pool.now) c.args.out.now.items ++ l)
    (stack_there (main_at ts c.args.main.now) procedure_routine n (map (procedure_at ts) c.args.procedures.now) (omega (arith, length-map c.args.procedures.now (procedure_at ts), some)))

pub returns-clause-below : goal.returns-clause-below
returns-clause-below c =
    let said = c.in_ok-made.ensures in
    below_one c.args.pool.now c.empty_stack.new.pool c.args.out.now.items c.push.new.self.items c.in_ok-made.made said.kept c.requires said.within c.in_ok-push.ensures.items
