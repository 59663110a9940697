-- Proves that macros are known besides.
use Rattle.std.proofs.Common.{List, ◌+◌, length, refl, sym, ap, subst, ◌∙◌, map, take, reverse}
use Rattle.std.proofs.lemmas.List.{take_all}
use Rattle.pcal_tree.specs.declared.algorithm.Macro.{Macro}
use Rattle.pcal_tree.specs.InMemory.{macro_at}
use Rattle.pcal_tree.specs.laws.MacroSpots.{MacroSeen}
use Rattle.algorithm_limits.specs.Numbers.{with_number}
use Rattle.read_rules.specs.KnownIn.{Knows}
use Rattle.read_rules.specs.MacrosIn.{macro_seen}
use Rattle.read_rules.specs.Pruned.{macro_pruned, macros_pruned}
use Rattle.read_rules.specs.WantedIn.{wants}
use Rattle.read_rules.proofs.KnownLaws.{knows_more, newest_kept}
use Rattle.read_rules.proofs.known.Known.add_macros.Goals as goal

pub loop-one-init : goal.loop-one-init
loop-one-init c = λ ps a. a

pub loop-one-preserved : goal.loop-one-preserved
loop-one-preserved c = λ ps a.
    let ts = c.args.pool.now in
    let T = wants c.args.wanted.now in
    let k = c.loop-one.self in
    let d = c.one-item.result in
    let s = c.in_ok-summary.summary in
    let n = length k.summaries.items + 1 in
    let ms = macros_pruned T ps (reverse (map (macro_at ts) (take c.loop-one.one-index c.args.macros.now))) in
    let next = c.add_macro.new.self in
    let h = c.loop-one.invariant ps a in
    let more = c.in_ok-add_macro.ensures in
    subst (λ (all : List MacroSeen). Knows next all ps) (sym (newest_kept T ts ps c.args.macros.now c.loop-one.one-index d c.one-item.is c.loop-one-test.true))
    (knows_more k next ms ps (macro_pruned T (macro_seen ps ms (macro_at ts d))) s n h (c.in_ok-summary.ensures ms ps h) more.summaries refl
    (more.numbers ∙ ap (λ (e : Macro). with_number k.numbers e.name.word n) c.one.view_is) more.jumps)

pub returns : goal.returns
returns c = λ ps a.
    let T = wants c.args.wanted.now in
    subst (λ (ds : List Macro). Knows c.loop-one.self (macros_pruned T ps (reverse (map (macro_at c.args.pool.now) ds))) ps) (take_all c.loop-one.one-index c.args.macros.now c.loop-one-test.false) (c.loop-one.invariant ps a)
