-- What a file has that breaks none of the rules 1 to 10.
use Rattle.std.proofs.Common.{◌≡◌, ℕ, List, [], ◌∷◌, ◌++◌, Option, Some, None, refl, sym, ap, ◌∙◌}
use Rattle.std.specs.Prelude.{filter}
use Rattle.std.proofs.lemmas.List.Elements.{filter-append}
use Rattle.tla_token.specs.Offences.{Offence, or_earlier, least}
use Rattle.module_split.specs.declared.stand.Shape.TheVariants as shape
use Rattle.module_split.specs.declared.stand.Shape.{Shape}
use Rattle.module_split.specs.declared.stand.Stand.{Stand}
use Rattle.module_tree.specs.TextFront.{Text}
use Rattle.module_tree.specs.Walk.{Located, walk}
use Rattle.module_split.specs.StandsSeen.{segment_of, segment_seen, stands_seen}
use Rattle.module_tree.specs.FileParts.{module_end, beginnings}
use Rattle.module_tree.specs.AlgorithmText.{algorithm_of}
use Rattle.module_tree.specs.FileOffences.{segment_offences, offences_of, algorithm_offences, no_module, no_algorithm, second_algorithms, placements, is_splitting, splitting_offences}
use Rattle.module_split.proofs.SplitFaults.{Kept, kept_append, plain_kept}
use Rattle.module_split.proofs.SplitLeast.{module_kept, missing_kept, placements_kept}
use Rattle.module_tree.proofs.WalkPlace.{both_empty}
use Rattle.module_tree.proofs.WalkKept.{Sound, sound_parts}

segment_kept : (at : ℕ) (s : Shape) (w : Text) → Kept (segment_offences at (segment_of s w))
segment_kept at shape.Free w = refl
segment_kept at shape.Header w = refl
segment_kept at (shape.Part c) w = plain_kept c at w
segment_kept at (shape.Region n) w = refl
segment_kept at shape.Mark w = refl
segment_kept at shape.Inner w = refl
segment_kept at shape.Tail w = refl

pub stands_kept : (x : Text) (ds : List Stand) → Kept (offences_of (stands_seen x ds))
stands_kept x [] = refl
stands_kept x (d ∷ ds) = kept_append (segment_offences d.at (segment_seen x d)) (offences_of (stands_seen x ds)) (segment_kept d.at d.shape _) (stands_kept x ds)

pub none_least : (os : List Offence) → least os ≡ None → os ≡ []
none_least [] e = refl
none_least (o ∷ os) e = by (least os) refl
  where
    by : (q : Option Offence) → least os ≡ q → o ∷ os ≡ []
    by None q = (let f : Some o ≡ None = rw q at e in absurd cc)
    by (Some p) q = (let f : or_earlier o (Some p) ≡ None = rw q at e in absurd cc)

both_filtered : (xs ys : List Offence) → filter is_splitting (xs ++ ys) ≡ [] → (filter is_splitting xs ≡ []) × (filter is_splitting ys ≡ [])
both_filtered xs ys h = both_empty (filter is_splitting xs) (filter is_splitting ys) (sym (filter-append is_splitting xs ys) ∙ h)

kept_none : (xs : List Offence) → Kept xs → filter is_splitting xs ≡ [] → xs ≡ []
kept_none xs k h = sym k ∙ h

-- it is sound
pub fine_file : (x : Text) (ds : List Stand) → stands_seen x ds ≡ walk x → splitting_offences x ≡ [] → Sound x
fine_file x ds seen h =
    let w = walk x in
    let a = algorithm_of x w in
    let o = both_filtered (offences_of w) _ h in
    let p = both_filtered (algorithm_offences a) _ o.1 in
    let q = both_filtered (no_module x (module_end w)) _ p.1 in
    let r = both_filtered (no_algorithm (module_end w) (beginnings w)) _ q.1 in
    let s = both_filtered (second_algorithms a (beginnings w)) _ r.1 in
    let t = both_filtered (placements w) _ s.1 in
    let fine : offences_of w ≡ [] = ap offences_of (sym seen) ∙ kept_none (offences_of (stands_seen x ds)) (stands_kept x ds) (ap (λ (es : List Located). filter is_splitting (offences_of es)) seen ∙ o.0) in
    sound_parts x fine (kept_none (no_module x (module_end w)) (module_kept x (module_end w)) q.0) (kept_none (no_algorithm (module_end w) (beginnings w)) (missing_kept (module_end w) (beginnings w)) r.0)
    (kept_none (placements w) (placements_kept w) t.0)
