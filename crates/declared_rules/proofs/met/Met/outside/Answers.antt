-- Proves that all names that are taken outside are met.
use Rattle.std.proofs.lemmas.Result.{on_ok_weaker}
use Rattle.std.proofs.Common.{List, refl, ap, ◌∙◌}
use Rattle.std.specs.List.{flat_map}
use Rattle.module_outside.specs.declared.definition.ReadDefinition.{ReadDefinition}
use Rattle.declared_rules.specs.Met.{words_within}
use Rattle.declared_rules.proofs.MetWalks.{adds_hidden, adds_then, adds_as}
use Rattle.declared_rules.proofs.MetWords.{bound_read}
use Rattle.declared_rules.proofs.met.Met.outside.Goals as goal

pub returns : goal.returns
returns c =
    on_ok_weaker c.reads.result
    (λ done ts l.
    adds_then ts c.args.self.now _ c.reads.new.self _ _ (adds_hidden ts c.args.self.now _ _ (c.in_ok-bind_units.ensures ts) refl)
    (adds_as ts _ c.reads.new.self _ _ (ap (λ (ds : List ReadDefinition). flat_map (words_within ts) ds) c.deref.ensures.value ∙ bound_read ts c.args.outside.now.definitions.items) (done ts l))) c.reads.ensures
