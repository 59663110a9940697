-- Proves that names are looked for in a set.
use Rattle.std.proofs.Common.{◌+◌, Bool, ◌||◌, drop, sym, ap, ◌∙◌}
use Rattle.pcal_tree.specs.Paths.{meets}
use Rattle.read_rules.proofs.ReadLaws.{meets_first}
use Rattle.read_rules.proofs.definitions.has_one.Goals as goal

pub returns-then-has : goal.returns-then-has
returns-then-has c =
    let ns = c.args.names.now in
    let xs = c.args.list.now in
    let i = c.loop-one.one-index in
    ap (λ (b : Bool). b || meets ns (drop (i + 1) xs)) (sym c.if-has.true ∙ c.has.ensures) ∙ sym (meets_first ns xs i c.one-item.result c.one-item.is c.loop-one-test.true) ∙ c.loop-one.invariant

pub loop-one-preserved : goal.loop-one-preserved
loop-one-preserved c =
    let ns = c.args.names.now in
    let xs = c.args.list.now in
    let i = c.loop-one.one-index in
    ap (λ (b : Bool). b || meets ns (drop (i + 1) xs)) (sym c.if-has.false ∙ c.has.ensures) ∙ sym (meets_first ns xs i c.one-item.result c.one-item.is c.loop-one-test.true) ∙ c.loop-one.invariant
