-- Proves what a kept use is seen as.
use Rattle.std.proofs.Common.{List, [], ◌∷◌, ◌++◌, ap, ◌∙◌}
use Rattle.tla_token.specs.declared.place.Place.{Place}
use Rattle.tla_tree.specs.Tree.{Word}
use Rattle.pcal_tree.specs.Reads.{named}
use Rattle.read_rules.specs.declared.uses.Use.{Use}
use Rattle.read_rules.specs.UsesIn.{of_kind}
use Rattle.read_rules.proofs.KeptLaws.{key_group}
use Rattle.read_rules.proofs.once.group_of.Goals as goal

pub returns : goal.returns
returns c =
    let k = c.args.key.now in
    let p : Place = record { line = k.line; col = k.col } in
    let u : Use = record { kind = k.kind; name = named c.in_ok-copied.field-0 p } in
    key_group k (record { uses = c.push.new.self; after = c.in_ok-copied-2.field-0 }) c.args.after.now u (c.in_ok-push.ensures.items ∙ ap (λ (us : List Use). us ++ u ∷ []) c.new-uses.ensures.items)
    (ap (λ (w : Word). of_kind k.kind (named w p)) c.in_ok-copied.ensures) c.in_ok-copied-2.ensures
