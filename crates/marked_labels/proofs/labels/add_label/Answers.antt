-- Proves that the written name of a label is added where it is wanted.
use Rattle.std.proofs.Common.{◌≡◌, ◌++◌, ◌∷◌, [], Bool, cond, map, ap, ◌∙◌}
use Rattle.std.proofs.lemmas.Result.{on_ok_weaker}
use Rattle.tla_tree.specs.Tree.{Word, Name}
use Rattle.written_names.specs.Units.{naming_of}
use Rattle.marked_labels.specs.Wanted.{written_label}
use Rattle.marked_labels.proofs.LabelLaws.{from_name}
use Rattle.marked_labels.proofs.labels.add_label.Goals as goal

pub returns : goal.returns
returns c =
    let named : c.in_ok-copied.field-0 ≡ written_label (naming_of c.args.draft.now.naming.now) c.args.unit c.args.label.now.word =
    c.in_ok-copied.ensures ∙ from_name (naming_of c.args.draft.now.naming.now) c.args.unit c.label.inside.name c.label_name-written.result.now c.label_name-written.ensures
    ∙ ap (λ (x : Name). written_label (naming_of c.args.draft.now.naming.now) c.args.unit x.word) c.label.view_is in
    on_ok_weaker c.push.result (λ h.
    h ∙ ap (λ (x : Word). c.args.into.now ++ x ∷ []) named
    ∙ ap (λ (b : Bool). c.args.into.now ++ map (written_label (naming_of c.args.draft.now.naming.now) c.args.unit) (cond b (c.args.label.now.word ∷ []) [])) c.if-not-is_wanted.ensures)
    c.push.ensures.ok
