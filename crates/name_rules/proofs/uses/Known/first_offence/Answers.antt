-- Proves that the first offence of all is found.
use Rattle.std.proofs.Common.{List, ◌++◌, map, reverse, ap, ◌∙◌, subst}
use Rattle.std.specs.List.{flat_map}
use Rattle.pcal_tree.specs.declared.algorithm.Declaration.{Declaration}
use Rattle.pcal_tree.specs.declared.algorithm.Definition.{Definition}
use Rattle.pcal_tree.specs.declared.algorithm.Macro.{Macro}
use Rattle.pcal_tree.specs.declared.algorithm.Procedure.{Procedure}
use Rattle.pcal_tree.specs.InMemory.{declarations_at, definitions_at, procedure_at, main_at}
use Rattle.pcal_tree.specs.Offences.{first}
use Rattle.pcal_tree.specs.NameUses.{seeing_variables}
use Rattle.pcal_tree.specs.OffencesNames.{sight_outside, defined_inside, in_declared, in_definitions, in_procedure, in_main}
use Rattle.pcal_tree.specs.Variables.{declared}
use Rattle.algorithm_answer.specs.Joined.{joined}
use Rattle.module_outside.specs.WholeAt.{outside_at}
use Rattle.name_rules.specs.Calling.{Means}
use Rattle.name_rules.specs.Keeping.{procedures_at, calls_at}
use Rattle.declared_rules.specs.UsesSeen.{Sees}
use Rattle.name_rules.proofs.RoutineLaws.{in_order}
use Rattle.name_rules.proofs.uses.Known.first_offence.Goals as goal

pub returns : goal.returns
returns c = λ n m.
    let ts = c.args.pool.now in
    let a = c.args.algorithm.now in
    let ps = procedures_at ts a.procedures.items in
    let C = calls_at ts a.macros.items ps in
    let k = c.fill.new.self in
    let means = subst (λ (qs : List Procedure). Means k (calls_at ts a.macros.items (procedures_at ts qs)) (procedures_at ts qs)) c.deref-3.ensures.value
    (subst (λ (ms : List Macro). Means k (calls_at ts ms (procedures_at ts c.deref-3.result.now)) (procedures_at ts c.deref-3.result.now)) c.deref-2.ensures.value (c.in_ok-fill.ensures n.macros n.procedures)) in
    let outer = sight_outside (outside_at ts c.args.outside.now) in
    let variables = subst (λ (ds : List Declaration). Sees c.set_variables.new.self (seeing_variables (declared (declarations_at ts ds)) outer)) c.deref.ensures.value
    (c.in_ok-set_variables.ensures ts outer (c.in_ok-set_outside.ensures ts n.uses m)) in
    let globals = seeing_variables (declared (declarations_at ts a.globals.items)) outer in
    let inside = subst (λ (ds : List Definition). Sees c.of_definitions.new.sight (map defined_inside (reverse (definitions_at ts ds)) ++ globals)) c.deref-4.ensures.value
    (c.in_ok-definitions.ensures.seen globals variables) in
    let s = map defined_inside (reverse (definitions_at ts a.definitions.items)) ++ globals in
    c.least-3.ensures
    ∙ ap (joined c.in_ok-globals.globals) (c.least-2.ensures ∙ ap (joined c.in_ok-definitions.definitions) c.least.ensures)
    ∙ in_order (in_declared (declarations_at ts a.globals.items) s) (in_definitions (definitions_at ts a.definitions.items) globals)
    (flat_map (in_procedure C ps s) (map (procedure_at ts) a.procedures.items)) (in_main C ps s (main_at ts a.main))
    c.in_ok-globals.globals c.in_ok-definitions.definitions c.in_ok-procedures.procedures c.in_ok-main.main
    (c.in_ok-globals.ensures s inside ∙ ap (λ (ds : List Declaration). first (in_declared (declarations_at ts ds) s)) c.deref-5.ensures.value)
    (c.in_ok-definitions.ensures.first globals variables ∙ ap (λ (ds : List Definition). first (in_definitions (definitions_at ts ds) globals)) c.deref-4.ensures.value)
    (c.in_ok-procedures.ensures C ps s means inside ∙ ap (λ (qs : List Procedure). first (flat_map (in_procedure C ps s) (map (procedure_at ts) qs))) c.deref-6.ensures.value)
    (c.in_ok-main.ensures C ps s means inside)
