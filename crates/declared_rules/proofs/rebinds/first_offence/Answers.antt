-- Proves that the first offence is found.
use Rattle.std.proofs.Common.{◌≡◌, List, [], ◌++◌, map, ap, ◌∙◌, subst}
use Rattle.tla_token.specs.Signs.{is_among}
use Rattle.tla_tree.specs.Tree.{Word, words}
use Rattle.algorithm_limits.specs.DepthsIn.{Hides}
use Rattle.algorithm_limits.proofs.BoundLemmas.{hides_then}
use Rattle.module_outside.specs.WholeAt.{outside_at}
use Rattle.pcal_tree.specs.declared.algorithm.Declaration.{Declaration}
use Rattle.pcal_tree.specs.declared.algorithm.Definition as memory
use Rattle.pcal_tree.specs.declared.algorithm.Macro.{Macro}
use Rattle.pcal_tree.specs.declared.algorithm.Procedure.{Procedure}
use Rattle.pcal_tree.specs.Algorithm.{Definition}
use Rattle.pcal_tree.specs.InMemory.{definitions_at, procedure_at, algorithm_at}
use Rattle.pcal_tree.specs.Outside.{unit_names}
use Rattle.pcal_tree.specs.Variables.{declared}
use Rattle.pcal_tree.specs.OffencesRebind.{any_name, self_alone, call_rebinds, definitions_rebind}
use Rattle.declared_rules.specs.declared.bind_walk.Walk.{Walk}
use Rattle.declared_rules.specs.Telling.{AddsNaming}
use Rattle.declared_rules.specs.Keeping.{Means}
use Rattle.declared_rules.specs.Units.{declared_names}
use Rattle.declared_rules.specs.Whole.{AreSights}
use Rattle.declared_rules.proofs.UnitLaws.{words_are}
use Rattle.declared_rules.proofs.WholeLaws.{refusal_told}
use Rattle.declared_rules.proofs.rebinds.first_offence.Goals as goal

pub returns : goal.returns
returns c = λ m e z n w.
    let a = c.args.algorithm.now in
    let ts = c.args.pool.now in
    let o = outside_at ts c.args.outside.now in
    let old = c.args.walk.now in
    let s = c.stand.new.self in
    let globals = declared (algorithm_at ts a).globals in
    let g = subst (λ (ds : List Macro). AreSights m ds s) c.deref.ensures.value (c.in_ok-stand.ensures m z n.process) in
    let kept =
    subst
    (λ (ps : List Procedure). (P : List Word) → c.args.calls.now.procedures.kept.entries ≡ [] → ((x : Word) → is_among s.own.stands x ≡ self_alone x)
    → Means s.own P c.procedures.new.self (λ ms z x us. call_rebinds ms (map (procedure_at ts) ps) x z)) c.deref-2.ensures.value c.in_ok-procedures.ensures
    in
    let mid : Walk = record { bound = c.bind_units.new.bound; first = old.first; free = old.free } in
    refusal_told ts a o mid c.definitions.new.self c.inside.new.self s m e g w.first w.free
    (subst (λ (b : List Word). Hides b c.bind_units.new.bound (globals ++ unit_names o)) w.bound
    (hides_then old.bound c.add_declared.new.bound c.bind_units.new.bound globals (unit_names o)
    (subst (λ (ws : List Word). Hides old.bound c.add_declared.new.bound ws) (ap (λ (ds : List Declaration). words (declared_names ds)) c.deref-3.ensures.value ∙ words_are ts a.globals.items) c.in_ok-add_declared.ensures) (c.in_ok-bind_units.ensures ts)))
    (subst (λ (ds : List memory.Definition). AddsNaming s.near any_name mid c.definitions.new.self (map (λ (d : Definition). d.name.word) (definitions_at ts ds)) (λ ms r. definitions_rebind ms (definitions_at ts ds) r)) c.deref-4.ensures.value
    c.in_ok-definitions.ensures)
    (c.in_ok-inside.ensures (record { modules = m; sights = g; process = n.process; macros = n.macros; procedures = kept s.far.stands n.procedures g.own }))
