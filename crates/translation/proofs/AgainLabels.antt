-- The labels that are added to an algorithm are the same wherever its parts are.
use Rattle.std.proofs.Common.{◌≡◌, List, map, Bool, true, false, ◌||◌, ◌&&◌, cond, codes, refl, sym, ap, ◌∙◌}
use Rattle.tla_tree.specs.Tree.{Word}
use Rattle.pcal_tree.specs.Algorithm.{Main, alone, processes, Algorithm}
use Rattle.pcal_tree.specs.Labelled.{Supply, is_alone, typed_labels, labelled}
use Rattle.pcal_tree.specs.OffencesLabels.{Label, all_labels}
use Rattle.pcal_tree.specs.Placeless.{main_placeless, placeless}
use Rattle.pcal_tree.specs.Tests.{is_empty}
use Rattle.translation.proofs.AgainAdded.{labels_from, labels_added}
use Rattle.translation.proofs.AgainJumps.{all_labels_bare}
use Rattle.translation.proofs.BareNames.{each_same, label_placeless}

-- ---- typed labels have no places

typed_bare : (a : Algorithm) → typed_labels (placeless a) ≡ typed_labels a
typed_bare a = ap (map (λ (l : Label). l.name.word)) (all_labels_bare a) ∙ each_same label_placeless (λ l. l.name.word) (λ l. l.name.word) (λ l. refl) (all_labels a)

alone_bare : (m : Main) → is_alone (main_placeless m) ≡ is_alone m
alone_bare (alone ss) = refl
alone_bare (processes ps) = refl

-- ---- labels added

pub labelled_bare : (forced : Bool) (a : Algorithm) → labelled forced (placeless a) ≡ placeless (labelled forced a)
labelled_bare forced a = (λ i. cond (forced || (alone_bare a.main i && is_empty (typed_bare a i))) (with_typed (typed_bare a i)) (placeless a)) ∙ by (forced || (is_alone a.main && is_empty (typed_labels a)))
  where
    names_left : List Word → Supply
    names_left typed = record { root = codes "Lbl_"; typed = typed; from = 1 }

    with_typed : List Word → Algorithm
    with_typed typed = labels_from (names_left typed) (placeless a)

    by : (b : Bool) → cond b (with_typed (typed_labels a)) (placeless a) ≡ placeless (cond b (labels_from (names_left (typed_labels a)) a) a)
    by true = labels_added (names_left (typed_labels a)) a
    by false = refl

pub labels_alike : (forced : Bool) (a c : Algorithm) → placeless c ≡ placeless a → placeless (labelled forced c) ≡ placeless (labelled forced a)
labels_alike forced a c e = sym (labelled_bare forced c) ∙ ap (labelled forced) e ∙ labelled_bare forced a
