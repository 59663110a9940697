-- Proves that a whole algorithm is looked at.
use Rattle.std.proofs.lemmas.Result.{on_ok_weaker}
use Rattle.std.proofs.Common.{List, ap}
use Rattle.std.specs.List.{flat_map}
use Rattle.pcal_tree.specs.declared.algorithm.Declaration.{Declaration}
use Rattle.pcal_tree.specs.declared.algorithm.Definition.{Definition}
use Rattle.pcal_tree.specs.declared.algorithm.Macro.{Macro}
use Rattle.pcal_tree.specs.declared.algorithm.Procedure.{Procedure}
use Rattle.declared_rules.specs.Parts.{global_parts, definition_parts, macro_parts, procedure_parts}
use Rattle.declared_rules.proofs.WalkLaws.{adds_as, adds_then}
use Rattle.declared_rules.proofs.walk.Walked.algorithm.Goals as goal

pub returns : goal.returns
returns c =
    on_ok_weaker c.main.result
    (λ done ts.
    adds_then ts c.args.self.now c.globals.new.self c.main.new.self _ _
    (adds_as ts c.args.self.now c.globals.new.self _ _ (ap (λ (xs : List Declaration). flat_map (global_parts ts) xs) c.deref.ensures.value) (c.in_ok-globals.ensures ts))
    (adds_then ts c.globals.new.self c.definitions.new.self c.main.new.self _ _
    (adds_as ts c.globals.new.self c.definitions.new.self _ _ (ap (λ (xs : List Definition). flat_map (definition_parts ts) xs) c.deref-2.ensures.value) (c.in_ok-definitions.ensures ts))
    (adds_then ts c.definitions.new.self c.macros.new.self c.main.new.self _ _
    (adds_as ts c.definitions.new.self c.macros.new.self _ _ (ap (λ (xs : List Macro). flat_map (macro_parts ts) xs) c.deref-3.ensures.value) (c.in_ok-macros.ensures ts))
    (adds_then ts c.macros.new.self c.procedures.new.self c.main.new.self _ _
    (adds_as ts c.macros.new.self c.procedures.new.self _ _ (ap (λ (xs : List Procedure). flat_map (procedure_parts ts) xs) c.deref-4.ensures.value) (c.in_ok-procedures.ensures ts))
    (done ts))))) c.main.ensures
