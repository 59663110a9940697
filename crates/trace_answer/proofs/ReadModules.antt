-- What `translate` writes for a module is read as the written module, places aside, which has outside what the file has, in other lines; so what is true by one is true by the other.
use Rattle.std.proofs.Common.{◌≡◌, ◌<◌, Bool, true, length, sym, ap, subst, ◌∙◌, Ok, Err}
use Rattle.tla_token.specs.Limits.{past_text}
use Rattle.tla_value.specs.Outside.{Outside}
use Rattle.tla_value.specs.laws.Places.{AgreeButPlaces}
use Rattle.pcal_tree.specs.Algorithm.{Algorithm}
use Rattle.pcal_tree.specs.Labelled.{labelled}
use Rattle.module_tree.specs.ActionTruth.{Verdict}
use Rattle.module_tree.specs.Layout.{layout}
use Rattle.module_tree.specs.Module.{Module}
use Rattle.module_tree.specs.Reading.{Reads}
use Rattle.module_tree.specs.TextFront.{Text}
use Rattle.module_tree.specs.Walk.{walk}
use Rattle.module_tree.specs.WithTranslation.{WithTranslation}
use Rattle.module_tree.specs.laws.Outsides.{SameOutside}
use Rattle.module_tree.specs.laws.PlacelessRegion.{region_placeless}
use Rattle.module_tree.specs.laws.WritableRegion.{IsWritten}
use Rattle.module_tree.proofs.SomeOutside.{one_outside_of}
use Rattle.module_tree.proofs.WrittenRegion.{written_file}
use Rattle.promise.specs.Options.{Options}
use Rattle.file_answer.proofs.OneTree.{one_stands}
use Rattle.translation.specs.PromiseWhole.{WrittenWhole}
use Rattle.translation.specs.Region.{written_region}
use Rattle.translation.proofs.AcceptedAlgorithms.{text_writable}
use Rattle.translation.proofs.KeptAccepted.{checked_is_fine}
use Rattle.translation.proofs.WritableRegions.{written_is_region}
use Rattle.run_answer.specs.Chosen.{Right, algorithm_in}
use Rattle.run_answer.proofs.Choices.{stands_right, right_accepted}

module _ (options : Options) (x y : Text) (short : length x < past_text) (c : Right options.label x) (whole : WrittenWhole options x y) (m : Module) (reads : Reads y m) where
  abbrev o : Outside
  o = c.outside

  abbrev g : Algorithm
  g = algorithm_in c

  abbrev b : Bool
  b = options.no_terminating

  same_algorithm : whole.algorithm ≡ c.typed
  same_algorithm = one_stands x whole.algorithm c.typed whole.stands (stands_right options.label x c)

  outside_is : whole.outside ≡ o
  outside_is = one_outside_of (walk x) whole.outside o whole.has c.has

  put : WithTranslation x (layout (written_region b o g)) y
  put = subst (λ (t : Text). WithTranslation x t y) (λ i. layout (written_region b (outside_is i) (labelled options.label (same_algorithm i)))) whole.is

  written : IsWritten x y o (written_region b o g)
  written =
      let a = right_accepted options.label x c short in
      written_file x y o (written_region b o g) (written_is_region b o g (text_writable a.file o g a.accepted a.short a.outside)) (checked_is_fine options.label x c.clean) c.has put

  pub read_outside : SameOutside o m.outside
  read_outside = subst (λ (n : Module). SameOutside o n.outside) (sym (written.only m reads)) written.is.outside

  pub read_region : region_placeless m.region ≡ region_placeless (written_region b o g)
  read_region =
      subst (λ (n : Module). region_placeless n.region ≡ region_placeless (written_region b o g)) (sym (written.only m reads)) (ap region_placeless written.is.region ∙ written.same)

-- ---- truths

pub true_alike : (v w : Verdict) → AgreeButPlaces v w → v ≡ Ok true → w ≡ Ok true
true_alike (Ok a) (Ok d) h e = ap Ok (sym h) ∙ e
true_alike (Ok a) (Err j) h e = absurd h
true_alike (Err i) w h e = absurd (no_truth e)
  where
    no_truth : ◌≡◌ {A = Verdict} (Err i) (Ok true) → ⊥
    no_truth e = cc
