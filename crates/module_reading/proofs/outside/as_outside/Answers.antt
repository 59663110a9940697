-- What is outside stands for what was read.
use Rattle.std.proofs.Common.{map, sym, ap, ◌∙◌, subst}
use Rattle.tla_tree.specs.Tree.{words}
use Rattle.tla_value.specs.Defs.{read_at, DefinitionsIn}
use Rattle.module_outside.specs.Passing.{passed_seen}
use Rattle.module_outside.specs.KeptOf.{kept_of}
use Rattle.module_outside.proofs.KeptLaws.{held_kept}
use Rattle.module_reading.proofs.OutsideKept.{read_kept}
use Rattle.module_reading.proofs.outside.as_outside.Goals as goal

pub returns-clause-same : goal.returns-clause-same
returns-clause-same c ts =
    let definitions = ap (map (read_at ts)) (c.in_ok-definitions.ensures ∙ ap (map kept_of) c.deref-2.ensures.value) ∙ read_kept ts c.args.found.definitions.items in
    let opaque = c.in_ok-opaque.ensures ∙ ap (map passed_seen) c.deref-3.ensures.value in
    λ i. record { extended = (c.in_ok-extended.ensures ∙ ap words c.deref.ensures.value) i; constants = c.args.found.constants.items; definitions = definitions i; opaque = opaque i }

pub returns-clause-within : goal.returns-clause-within
returns-clause-within c m h = subst (DefinitionsIn m) (sym (c.in_ok-definitions.ensures ∙ ap (map kept_of) c.deref-2.ensures.value)) (held_kept m c.args.found.definitions.items h)
