-- Proves that macros are gone through.
use Rattle.std.proofs.Common.{List, map, reverse, subst}
use Rattle.std.proofs.lemmas.List.{take_all}
use Rattle.pcal_tree.specs.declared.algorithm.Macro.{Macro}
use Rattle.pcal_tree.specs.Algorithm as tree
use Rattle.pcal_tree.specs.InMemory.{macro_at}
use Rattle.declared_rules.specs.Macros.{macro_names, MacrosAt}
use Rattle.declared_rules.proofs.MacroLaws.{macro_step, one_within, macros_taken}
use Rattle.declared_rules.proofs.bind_walk.Walk.macros.Goals as goal

pub loop-i-preserved : goal.loop-i-preserved
loop-i-preserved c = λ ps h m.
    let ts = c.args.pool.now in
    let d = c.index-list-i.result in
    let n = c.in_ok-one_macro.ensures in
    subst (λ (ds : List tree.Macro). MacrosAt c.args.near.now c.args.far.now ps c.args.self.now c.one_macro.new.self c.args.calls.now c.one_macro.new.calls ds) (macros_taken ts c.args.list.now c.loop-i.i d c.index-list-i.is c.loop-i-test.true)
    (macro_step c.args.near.now c.args.far.now ps c.args.self.now c.loop-i.self c.one_macro.new.self c.args.calls.now c.loop-i.calls c.one_macro.new.calls (macro_names c.args.list.now) _ (macro_at ts d) n.kept h
    (one_within c.args.far.now.stands c.args.list.now c.loop-i.i d c.index-list-i.is c.loop-i-test.true h.within) n.params n.tells n.text n.puts n.procedures n.process (c.loop-i.invariant ps h m))

pub returns : goal.returns
returns c = λ ps h m.
    subst (λ (ms : List Macro). MacrosAt c.args.near.now c.args.far.now ps c.args.self.now c.loop-i.self c.args.calls.now c.loop-i.calls (reverse (map (macro_at c.args.pool.now) ms))) (take_all c.loop-i.i c.args.list.now c.loop-i-test.false) (c.loop-i.invariant ps h m)
