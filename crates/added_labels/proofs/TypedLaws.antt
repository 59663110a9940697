-- Labels that are met in the bodies of an algorithm.
use Rattle.std.proofs.Common.{◌≡◌, ℕ, ◌+◌, ◌<◌, ◌≤◌, false, List, [], ◌∷◌, ◌++◌, length, map, take, get_or, sym, ap, ◌∙◌, append-nil}
use Rattle.std.specs.List.{flat_map}
use Rattle.std.proofs.lemmas.Grind.{flat_map-append}
use Rattle.std.proofs.lemmas.List.{take_more, take_all, map-append}
use Rattle.pcal_tree.specs.Algorithm.{Statements}
use Rattle.pcal_tree.specs.OffencesLabels.{Label, labels}
use Rattle.label_jumps.specs.declared.labels.Labels.{Labels}
use Rattle.label_jumps.specs.Meeting.{Meets}
use Rattle.label_jumps.proofs.MeetLaws.{met_none, met_as, met_then}

module _ {A X : Type 0} (at : A → X) (body : X → Statements) where
  abbrev pub Found : List A → List Label
  Found xs = flat_map (λ x. labels false (body x)) (map at xs)

  found_more : (xs : List A) (x : A) → Found (xs ++ x ∷ []) ≡ Found xs ++ labels false (body (at x))
  found_more xs x =
      ap (flat_map (λ x. labels false (body x))) (map-append at xs (x ∷ [])) ∙ flat_map-append (λ x. labels false (body x)) (map at xs) (at x ∷ [])
      ∙ ap (λ (ls : List Label). Found xs ++ ls) (append-nil (labels false (body (at x))))

  pub none_met : (k : Labels) → Meets k k (Found [])
  none_met k = met_none k

  pub next_met : (j k l : Labels) (all : List A) (i : ℕ) (x : A) → x ≡ get_or all i x → i < length all → Meets j k (Found (take i all)) → Meets k l (labels false (body (at x))) → Meets j l (Found (take (i + 1) all))
  next_met j k l all i x e t h m =
      met_as j l (Found (take i all) ++ labels false (body (at x))) (Found (take (i + 1) all))
      (sym (found_more (take i all) x) ∙ ap Found (sym (take_more all i x t ∙ ap (λ (z : A). take i all ++ z ∷ []) (sym e)))) (met_then j k l (Found (take i all)) (labels false (body (at x))) h m)

  pub all_found : (j k : Labels) (all : List A) (i : ℕ) → length all ≤ i → Meets j k (Found (take i all)) → Meets j k (Found all)
  all_found j k all i l h = met_as j k (Found (take i all)) (Found all) (ap Found (take_all i all l)) h
