-- A translation brings no new offence of the whole file: one that breaks no rule breaks none with it.
use Rattle.std.proofs.Common.{◌≡◌, inl, inr, ℕ, Bool, true, false, List, [], ◌∷◌, ◌++◌, Option, Some, None, refl, sym, ap, subst, ◌∙◌}
use Rattle.std.specs.Prelude.{if◌then◌else◌, is_some}
use Rattle.std.specs.List.{flat_map}
use Rattle.tla_token.specs.declared.rule.Rule.TheVariants.{TwoAlgorithms}
use Rattle.tla_token.specs.Tokens as text
use Rattle.tla_token.specs.Tokens.{block, blank, line, lexeme}
use Rattle.tla_tree.specs.TokenViews.{view, views}
use Rattle.tla_tree.specs.FirstStop.{looks}
use Rattle.module_tree.specs.FileOffences.{algorithm_offences, no_module, no_algorithm, second_algorithms, offences_at, rest_of_line, no_unit, placements, outside_region, options_in}
use Rattle.module_tree.specs.TextFront.{Text}
use Rattle.module_tree.specs.Walk.{is_header_line, is_tail, Located, walk, at_start}
use Rattle.module_tree.specs.FileParts.{first_that, module_end, beginnings, after_comment, region_of, after_spot}
use Rattle.module_tree.specs.AlgorithmText.{algorithm_in, in_token}
use Rattle.module_tree.specs.FileUnits.{token_in, begins_unit, tokens_in, units_in}
use Rattle.module_tree.specs.WithTranslation.{WithTranslation}
use Rattle.module_tree.specs.laws.Walks.{after_all, IsInside, made, located, Put}
use Rattle.module_tree.specs.laws.Kept.{IsFine, KeepsFile}
use Rattle.module_tree.proofs.WalkPlace.{none_such, before_tail, walk_tails, tails_last, headed_title}
use Rattle.module_tree.proofs.WalkKept.{all_fine_in, Shape, HasPlace, has_place}
use Rattle.module_tree.proofs.WalkSame.{keeps_file, moved_tail}
use Rattle.module_tree.proofs.OptionsKept.{HasEnds, NoOptions, from_header, to_end, moved_to_end, both_free, free_without, free_with}
use Rattle.module_tree.proofs.OutsideAlike.{same_views, same_front}
use Rattle.module_tree.proofs.ModuleKept.{no_front_in, no_looks}
use Rattle.module_tree.proofs.AlgorithmKept.{filtered, algorithms_fine}

-- ---- the first unit after the translation

begun_back : (ds : List Located) → (units_in ds).front ≡ [] → no_unit ds ≡ []
begun_back [] e = refl
begun_back (d ∷ ds) e = by (token_in d) refl (begun_back ds)
  where
    by : (o : Option text.Token) → token_in d ≡ o → ((units_in ds).front ≡ [] → no_unit ds ≡ []) → no_unit (d ∷ ds) ≡ []
    by None o deeper = (let f : (units_in ds).front ≡ [] = rw o at e in rw o (deeper f))
    by (Some t) o deeper = on (begins_unit (view t)) refl
      where
        on : (k : Bool) → begins_unit (view t) ≡ k → no_unit (d ∷ ds) ≡ []
        on true k = rw (o, k) refl
        on false k = (let f : view t ∷ (units_in ds).front ≡ [] = rw (o, k) at e in absurd cc)

placed_there : (x w : Text) → IsFine x → (t : Text) → KeepsFile x t w → placements (walk w) ≡ []
placed_there x w f t k = λ i. none i ++ begun_back (after_spot (walk w)) front i
  where
    front : (units_in (after_spot (walk w))).front ≡ []
    front =
        no_looks (units_in (after_spot (walk w))).front
        (sym (same_front (views (tokens_in (after_spot (walk x)))) (views (tokens_in (after_spot (walk w))))
        (same_views (tokens_in (after_spot (walk x))) (tokens_in (after_spot (walk w))) (sym k.after))) ∙ ap looks (no_front_in x f))

    none : (if is_some (region_of (walk w)) then [] else rest_of_line (after_comment (walk w))) ≡ []
    none = rw k.region refl

-- ---- the file with a translation

module _ (x t w : Text) (fine : IsFine x) (inside : IsInside t) (put_there : WithTranslation x t w) where
  h : HasPlace x
  h = has_place x fine

  put : Put h.front h.back t (10 ∷ h.rest_text)
  put = (h.written t w inside put_there).1

  abbrev new : Located
  new = located (after_all at_start h.front) (made t)

  walked : walk w ≡ h.front ++ new ∷ put.here ∷ put.us
  walked = ap walk (h.written t w inside put_there).0 ∙ put.walked

  kept : KeepsFile x t w
  kept = keeps_file x t w fine inside put_there

  -- ---- options

  some_is : {A : Type 0} (o : Option A) → is_some o ≡ true → (a : A) × (o ≡ Some a)
  some_is (Some a) e = (a, refl)
  some_is None e = absurd cc

  endless : none_such is_tail h.front ≡ true
  endless = by h.shape
    where
      no_tail : (es : List Located) → walk x ≡ h.front ++ es → is_some (first_that is_tail es) ≡ true → none_such is_tail h.front ≡ true
      no_tail [] e n = absurd cc
      no_tail (d ∷ es) e n = before_tail h.front d es (ap tails_last (sym e) ∙ walk_tails x)

      by : Shape x h.front h.back → none_such is_tail h.front ≡ true
      by (inl (none, e)) = no_tail h.back e h.ends
      by (inr (old, here, some, other, newline, e)) = before_tail h.front old (here ∷ h.back) (ap tails_last (sym e) ∙ walk_tails x)

  header_found : (d : Located) × (first_that is_header_line h.front ≡ Some d)
  header_found = some_is (first_that is_header_line h.front) (headed_title at_start h.front refl h.opened.0)

  ends_here : HasEnds h.front h.back
  ends_here =
      let t = some_is (first_that is_tail h.back) h.ends in
      record { hd = header_found.0; tl = t.0; found = header_found.1; ended = t.1; endless = endless }

  ends_there : HasEnds h.front put.us
  ends_there =
      let t = some_is (first_that is_tail put.us) (moved_tail put.bytes_here put.bytes_there put.lines_here put.lines_there h.back put.us put.are_moved h.ends) in
      record { hd = header_found.0; tl = t.0; found = header_found.1; ended = t.1; endless = endless }

  no_options : NoOptions (from_header ends_here.hd h.front) × NoOptions (to_end h.back)
  no_options = by h.shape
    where
      options : flat_map (options_in x) (outside_region x (walk x)) ≡ []
      options = (all_fine_in x fine).options

      by : Shape x h.front h.back → NoOptions (from_header ends_here.hd h.front) × NoOptions (to_end h.back)
      by (inl (none, e)) = free_without x h.front h.back ends_here e none options
      by (inr (old, here, some, other, newline, e)) = free_with x h.front h.back ends_here old here e some other newline options

  options_fine : flat_map (options_in w) (outside_region w (walk w)) ≡ []
  unfolding ends_here ends_there
  options_fine =
      let same = moved_to_end put.bytes_here put.bytes_there put.lines_here put.lines_there h.back put.us put.are_moved in
      let region : region_of (walk w) ≡ Some new = kept.region ∙ ap (λ (ds : List Located). Some (located (after_all at_start ds) (made t))) h.is_front in
      both_free w h.front put.us ends_there no_options.0 (subst NoOptions same no_options.1) new put.here walked region refl put.is_newline

  -- ---- all of them

  all_fine : IsFine w
  all_fine =
      let a = algorithms_fine x t w fine inside put_there in
      let algorithm : algorithm_offences (algorithm_in w) ≡ [] = ap algorithm_offences a.is ∙ a.offences in
      let ended : no_module w (module_end (walk w)) ≡ [] = ended_so (module_end (walk w)) kept.ended in
      let some : no_algorithm (module_end (walk w)) (beginnings (walk w)) ≡ [] = ap (no_algorithm (module_end (walk w))) a.begun ∙ begun_so (module_end (walk w)) a.n a.others in
      let second : second_algorithms (algorithm_in w) (beginnings (walk w)) ≡ [] =
      (λ i. second_algorithms (a.is i) (a.begun i)) ∙ ap (offences_at TwoAlgorithms) (filtered (in_token a.algorithm) a.others a.within_tokens) in
      let placed = placed_there x w fine t kept in
      λ i. kept.sound i ++ (algorithm i ++ (ended i ++ (some i ++ (second i ++ (placed i ++ options_fine i)))))
    where
      ended_so : (o : Option ℕ) → is_some o ≡ true → no_module w o ≡ []
      ended_so (Some n) e = refl
      ended_so None e = absurd cc

      begun_so : (o : Option ℕ) (n : ℕ) (ns : List ℕ) → no_algorithm o (n ∷ ns) ≡ []
      begun_so (Some m) n ns = refl
      begun_so None n ns = refl

pub fine_kept : (x t w : Text) → IsFine x → IsInside t → WithTranslation x t w → IsFine w
fine_kept x t w fine inside put = all_fine x t w fine inside put
