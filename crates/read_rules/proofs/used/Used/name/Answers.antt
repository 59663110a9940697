-- Proves that a name is met.
use Rattle.std.proofs.Common.{List, [], ◌∷◌, ◌++◌, Bool, cond, refl, sym, ap, ◌∙◌, append-nil}
use Rattle.pcal_tree.specs.Algorithm.{Name}
use Rattle.pcal_tree.specs.Reads.{named}
use Rattle.read_rules.proofs.UsedLaws.{skipped_met, name_met}
use Rattle.read_rules.proofs.used.Used.name.Goals as goal

pub returns-then-skips : goal.returns-then-skips
returns-then-skips c = skipped_met c.args.self.now c.args.name.now c.args.place c.skips.result c.skips.ensures c.if-skips.true

pub returns-then-has : goal.returns-then-has
returns-then-has c =
    let u = c.args.self.now in
    let n = named c.args.name.now c.args.place in
    name_met u c.args.name.now c.args.place c.skips.result c.has.result u c.skips.ensures c.if-skips.false c.has.ensures refl refl
    (sym (append-nil u.names.items) ∙ ap (λ (b : Bool). u.names.items ++ cond b [] (n ∷ [])) (sym c.if-has.true))

pub returns : goal.returns
returns c =
    let n = named c.args.name.now c.args.place in
    name_met c.args.self.now c.args.name.now c.args.place c.skips.result c.has.result _ c.skips.ensures c.if-skips.false c.has.ensures refl refl
    (◌∙◌ {A = List Name} c.in_ok-push.ensures.items (λ i. c.args.self.now.names.items ++ cond (sym c.if-has.false i) [] (record { word = c.in_ok-copied.ensures i; place = c.args.place } ∷ [])))
