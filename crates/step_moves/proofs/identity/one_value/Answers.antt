-- Proves that the identifiers are the members of a set, or the one value.
use Rattle.std.proofs.Common.{Bool, List, ◌∷◌, [], ◌++◌, Ok, ap, sym, ◌∙◌}
use Rattle.tla_value.specs.Value.{Value, set, values_in}
use Rattle.tla_value.specs.Stops.{members_at}
use Rattle.tla_value.specs.ValueOf.{kind_value}
use Rattle.pcal_tree.specs.Processes.{one_value}
use Rattle.step_moves.proofs.identity.one_value.Goals as goal

pub returns-then-not-several : goal.returns-then-not-several
returns-then-not-several c =
    ap (λ (b : Bool). one_value b c.args.at c.args.v) c.if-not-several.true
    ∙ ap (λ (vs : List Value). Ok (values_in vs)) (sym (c.in_ok-push.ensures.items ∙ ap (λ (vs : List Value). vs ++ c.args.v ∷ []) c.new-one.ensures.items))

pub returns-in-Set : goal.returns-in-Set
returns-in-Set c =
    let members = sym c.in-Set.members-is ∙ sym c.members.view_is in
    ap (λ (b : Bool). one_value b c.args.at c.args.v) c.if-not-several.false
    ∙ ap (members_at c.args.at) (sym c.v.view_is ∙ ap kind_value c.in-Set.is ∙ ap (λ (vs : List Value). set (values_in vs)) members)

pub returns-in-Bool : goal.returns-in-Bool
returns-in-Bool c = ap (λ (b : Bool). one_value b c.args.at c.args.v) c.if-not-several.false ∙ ap (members_at c.args.at) (sym c.v.view_is ∙ ap kind_value c.in-Bool.is)

pub returns-in-Int : goal.returns-in-Int
returns-in-Int c = ap (λ (b : Bool). one_value b c.args.at c.args.v) c.if-not-several.false ∙ ap (members_at c.args.at) (sym c.v.view_is ∙ ap kind_value c.in-Int.is)

pub returns-in-Text : goal.returns-in-Text
returns-in-Text c = ap (λ (b : Bool). one_value b c.args.at c.args.v) c.if-not-several.false ∙ ap (members_at c.args.at) (sym c.v.view_is ∙ ap kind_value c.in-Text.is)

pub returns-in-Model : goal.returns-in-Model
returns-in-Model c = ap (λ (b : Bool). one_value b c.args.at c.args.v) c.if-not-several.false ∙ ap (members_at c.args.at) (sym c.v.view_is ∙ ap kind_value c.in-Model.is)

pub returns : goal.returns
returns c = ap (λ (b : Bool). one_value b c.args.at c.args.v) c.if-not-several.false ∙ ap (members_at c.args.at) (sym c.v.view_is ∙ ap kind_value c.in-Fun.is)
