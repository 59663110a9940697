-- Proves that all but the definitions is looked at.
use Rattle.std.proofs.lemmas.Result.{on_ok_weaker}
use Rattle.std.proofs.Common.{List, [], map, reverse, subst}
use Rattle.std.specs.List.{flat_map}
use Rattle.tla_tree.specs.Tree.{Word}
use Rattle.pcal_tree.specs.declared.algorithm.Declaration.{Declaration}
use Rattle.pcal_tree.specs.declared.algorithm.Macro.{Macro}
use Rattle.pcal_tree.specs.declared.algorithm.Procedure as memory
use Rattle.pcal_tree.specs.Algorithm.{Procedure}
use Rattle.pcal_tree.specs.InMemory.{declarations_at, macro_at, procedure_at}
use Rattle.pcal_tree.specs.OffencesRebind.{any_name, Calls, starts_rebind, macro_rebinds, procedure_rebinds}
use Rattle.declared_rules.specs.Telling.{Adds}
use Rattle.declared_rules.specs.Keeping.{Means, KnowsCalls}
use Rattle.declared_rules.specs.Macros.{macro_names, Ready, MacrosAt}
use Rattle.declared_rules.proofs.WholeLaws.{insides_told}
use Rattle.declared_rules.proofs.bind_walk.Walk.inside.Goals as goal

pub returns : goal.returns
returns c =
    on_ok_weaker c.main.result
    (λ a b.
    insides_told c.args.sights.now c.args.pool.now c.args.algorithm.now c.args.calls.now b c.args.self.now c.starts.new.self c.macros.new.self c.procedures.new.self c.main.new.self c.macros.new.calls
    (subst (λ (es : List Declaration). Adds c.args.sights.now.near any_name c.args.self.now c.starts.new.self (λ ms r. starts_rebind ms any_name (declarations_at c.args.pool.now es) r)) c.deref.ensures.value (c.in_ok-starts.ensures any_name))
    (subst
    (λ (ms : List Macro). (qs : List Procedure) → Ready c.args.sights.now.near c.args.sights.now.far c.args.calls.now qs (macro_names ms) → Means c.args.sights.now.far c.args.sights.now.far.stands c.args.calls.now.macros (λ zs. macro_rebinds zs qs [])
    → MacrosAt c.args.sights.now.near c.args.sights.now.far qs c.starts.new.self c.macros.new.self c.args.calls.now c.macros.new.calls (reverse (map (macro_at c.args.pool.now) ms))) c.deref-2.ensures.value c.in_ok-macros.ensures)
    (subst
    (λ (ds : List memory.Procedure). (C : List Word → Calls) (qs : List Procedure) → KnowsCalls c.args.sights.now.near c.macros.new.calls C qs
    → Adds c.args.sights.now.near any_name c.macros.new.self c.procedures.new.self (λ ms r. flat_map (procedure_rebinds ms qs (C ms) r) (map (procedure_at c.args.pool.now) ds))) c.deref-3.ensures.value c.in_ok-procedures.ensures)
    a) c.main.ensures
