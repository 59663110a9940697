-- Proves that what is outside is known.
use Rattle.std.proofs.lemmas.Result.{on_ok_weaker}
use Rattle.std.proofs.Common.{List, ◌++◌, map, reverse, refl, subst}
use Rattle.std.specs.List.{flat_map}
use Rattle.tla_tree.specs.Tree.{Name, words}
use Rattle.module_outside.specs.declared.passed.Passed.{Passed}
use Rattle.module_outside.specs.Passing.{passed_seen}
use Rattle.module_outside.specs.declared.definition.ReadDefinition.{ReadDefinition}
use Rattle.module_outside.specs.OutsideAt.{definition_seen}
use Rattle.pcal_tree.specs.NameUses as names
use Rattle.pcal_tree.specs.OffencesNames.{always_known, defined_outside}
use Rattle.declared_rules.specs.UsesSeen.{Sees}
use Rattle.declared_rules.proofs.SeenLaws.{always_seen}
use Rattle.declared_rules.proofs.use_sight.Sight.set_outside.Goals as goal

pub returns : goal.returns
returns c =
    on_ok_weaker c.set_passed.result
    (λ a ts e m.
    let o = c.args.outside.now in
    let v = c.args.self.now in
    let s = always_known (words o.extended.items) in
    let read = subst (λ (ds : List ReadDefinition). Sees c.set_read.new.self (map defined_outside (reverse (map (definition_seen ts) ds)) ++ s)) c.deref.ensures.value
    (c.in_ok-set_read.ensures ts s (always_seen v.modules (words o.extended.items) m v e refl)) in
    let r = map defined_outside (reverse (map (definition_seen ts) o.definitions.items)) ++ s in
    let placed = subst (λ (xs : List Name). Sees c.set_placed.new.self (map (names.knowing (names.takes 0)) (words xs) ++ r)) c.deref-2.ensures.value (c.in_ok-set_placed.ensures r (names.takes 0) read refl) in
    let q = map (names.knowing (names.takes 0)) (words o.constants.items) ++ r in
    subst (λ (us : List Passed). Sees c.set_passed.new.self (map names.hidden_name (flat_map (λ u. u.names) (map passed_seen us)) ++ q)) c.deref-3.ensures.value (a q placed)) c.set_passed.ensures
