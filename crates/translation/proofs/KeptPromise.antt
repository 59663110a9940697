-- What is written for a text with which nothing is wrong keeps the promise for the algorithm that is in it.
use Rattle.std.proofs.Common.{◌≡◌, ◌<◌, ◌++◌, Bool, length, take, drop, None, refl, sym, ap, subst, ◌∙◌}
use Rattle.std.proofs.lemmas.Option.{same_Some}
use Rattle.tla_token.specs.Limits.{past_text}
use Rattle.tla_value.specs.Definitions.{no_state}
use Rattle.tla_value.specs.Outside.{Outside}
use Rattle.pcal_tree.specs.Algorithm.{Algorithm}
use Rattle.pcal_tree.specs.Labelled.{labelled}
use Rattle.pcal_tree.specs.Variables.{vars}
use Rattle.module_tree.specs.FileParts.{Span}
use Rattle.module_tree.specs.Layout.{layout}
use Rattle.module_tree.specs.Module.{Region, Module}
use Rattle.module_tree.specs.TextFront.{Text}
use Rattle.module_tree.specs.Walk.{walk}
use Rattle.module_tree.specs.WithTranslation.{begin_line, end_line, line_end_if_new, WithTranslation}
use Rattle.module_tree.specs.laws.PlacelessRegion.{region_placeless}
use Rattle.module_tree.specs.laws.WritableRegion.{IsWritten}
use Rattle.module_tree.proofs.SomeOutside.{some_outside, one_outside_of}
use Rattle.module_tree.proofs.WalkKept.{has_spot}
use Rattle.module_tree.proofs.WrittenRegion.{written_file}
use Rattle.promise.specs.ConstantsAndStates.{variables_of}
use Rattle.promise.specs.Headline.{Headline}
use Rattle.promise.specs.Options.{Options}
use Rattle.promise.specs.Translates.{Translates}
use Rattle.file_answer.specs.Checking.{AnswersChecking}
use Rattle.file_answer.proofs.OneTree.{one_stands}
use Rattle.action_builder.specs.WrittenNames.{with_names}
use Rattle.translation.specs.PromiseWhole.{WrittenWhole}
use Rattle.translation.specs.Region.{written_region}
use Rattle.translation.specs.laws.AcceptedAlgorithm.{IsAcceptedInFile}
use Rattle.translation.proofs.AcceptedAlgorithms.{text_writable}
use Rattle.translation.proofs.KeptAccepted.{checked_is_fine, some_stands, stands_in_file}
use Rattle.translation.proofs.NextLaw.{kept_law}
use Rattle.translation.proofs.NoPlaces.{variables_bare}
use Rattle.translation.proofs.RegionPlaced.{region_placed}
use Rattle.translation.proofs.SameProgram.{same_program}
use Rattle.translation.proofs.WritableRegions.{written_is_region}

-- an accepted algorithm of a file that is written so
module _ (b : Bool) (x w : Text) (o : Outside) (g : Algorithm) (accepted : IsAcceptedInFile o g) (k : IsWritten x w o (written_region b o g)) where
  abbrev m : Module
  m = k.is.written

  same : region_placeless m.region ≡ region_placeless (written_region b o g)
  same = ap region_placeless k.is.region ∙ k.same

  own_vars : vars (with_names o g) ≡ variables_of g m
  own_vars = ap vars (same_program o g m k.is.outside no_state)

  pub kept_in_module : Translates b x g w
  kept_in_module = record {
    module_of = m;
    around = k.around;
    reads = k.is.reads;
    only = k.only;
    variables = ap (λ (r : Region). r.variables) same ∙ variables_bare o g ∙ own_vars;
    vars = ap (λ (r : Region). r.vars) same ∙ variables_bare o g ∙ own_vars;
    definitions = ap (λ (r : Region). r.definitions) (same ∙ sym (region_placed b o g));
    next = (kept_law b o g m accepted k.is.outside same).0;
    init = (kept_law b o g m accepted k.is.outside same).1;
  }

pub texts_keep_the_promise : (options : Options) (x w : Text) → AnswersChecking options.label x None → length x < past_text → WrittenWhole options x w → Headline options x w
texts_keep_the_promise options x w right short whole =
    let g = labelled options.label whole.algorithm in
    let accepted = stands_in_file options.label x right whole.algorithm whole.stands whole.outside whole.has short in
    let r = written_region options.no_terminating whole.outside g in
    let is_region = written_is_region options.no_terminating whole.outside g (text_writable x whole.outside g accepted.accepted short whole.has) in
    let k = written_file x w whole.outside r is_region (checked_is_fine options.label x right) whole.has whole.is in
    record {
      algorithm = whole.algorithm;
      stands = whole.stands;
      translates = kept_in_module options.no_terminating x w whole.outside g accepted k;
    }

-- ---- there is one such text

-- what is written is some text, and no other
module _ (options : Options) (x : Text) (right : AnswersChecking options.label x None) where
  abbrev laid_out : Outside → Algorithm → Text
  laid_out o a = layout (written_region options.no_terminating o (labelled options.label a))

  put : (t : Text) → (w : Text) × WithTranslation x t w
  put t =
      let s = has_spot x (checked_is_fine options.label x right) in
      (take s.0.from x ++ (begin_line ++ (t ++ (end_line ++ (line_end_if_new x ++ drop s.0.to x)))), record { at = s.0; is_spot = s.1; is = refl })

  pub some_whole : (w : Text) × WrittenWhole options x w
  some_whole =
      let a = some_stands options.label x right in
      let o = some_outside (walk x) in
      let p = put (laid_out o.0 a.0) in
      (p.0, record { algorithm = a.0; stands = a.1; outside = o.0; has = o.1; is = p.1 })

pub one_put : (x t v w : Text) → WithTranslation x t v → WithTranslation x t w → v ≡ w
one_put x t v w h k =
    let same : h.at ≡ k.at = same_Some h.at k.at (sym h.is_spot ∙ k.is_spot) in
    h.is ∙ ap (λ (s : Span). take s.from x ++ (begin_line ++ (t ++ (end_line ++ (line_end_if_new x ++ drop s.to x))))) same ∙ sym k.is

pub one_whole : (options : Options) (x v w : Text) → WrittenWhole options x v → WrittenWhole options x w → v ≡ w
one_whole options x v w h k =
    let a : h.algorithm ≡ k.algorithm = one_stands x h.algorithm k.algorithm h.stands k.stands in
    let o : h.outside ≡ k.outside = one_outside_of (walk x) h.outside k.outside h.has k.has in
    let t : layout (written_region options.no_terminating h.outside (labelled options.label h.algorithm)) ≡ layout (written_region options.no_terminating k.outside (labelled options.label k.algorithm)) =
    λ i. layout (written_region options.no_terminating (o i) (labelled options.label (a i))) in
    one_put x _ v w (subst (λ (u : Text). WithTranslation x u v) t h.is) k.is
