-- A trace all of whose states are shown keeps the promise of a trace.
use Rattle.std.proofs.Common.{◌≡◌, ◌<◌, ℕ, Bool, List, length, None, refl, sym, ap, subst, ◌∙◌}
use Rattle.tla_token.specs.Limits.{past_text}
use Rattle.tla_value.specs.Definitions.{Valuation}
use Rattle.tla_value.specs.Outside.{Outside}
use Rattle.pcal_tree.specs.Algorithm.{Algorithm}
use Rattle.pcal_tree.specs.Labelled.{labelled}
use Rattle.pcal_tree.specs.Processes.{Proper}
use Rattle.module_tree.specs.Module.{Module}
use Rattle.module_tree.specs.Reading.{Reads}
use Rattle.module_tree.specs.TextFront.{Text}
use Rattle.promise.specs.ConstantsAndStates.{program}
use Rattle.promise.specs.Headline.{Headline}
use Rattle.promise.specs.NextAndInit.{NextIs, InitIs}
use Rattle.promise.specs.Options.{Options}
use Rattle.file_answer.proofs.OneTree.{one_stands}
use Rattle.translation.specs.PromiseWhole.{WrittenWhole}
use Rattle.translation.specs.Region.{written_region}
use Rattle.translation.proofs.KeptAccepted.{checked_is_fine}
use Rattle.step_runner.specs.Config.{constants_of}
use Rattle.step_runner.specs.Shown.{trace_text}
use Rattle.run_answer.specs.Chosen.{Files, algorithm_in}
use Rattle.run_answer.proofs.Choices.{stands_right, right_accepted}
use Rattle.run_answer.proofs.Constants.{are_constants}
use Rattle.run_answer.proofs.ReadOutside.{outside_read_back}
use Rattle.trace_answer.specs.Traced.{variables_of, Given, traced_program, states_in, module_for, explained_of, IsTrace}
use Rattle.trace_answer.specs.Promised.{AreAllTrue, AreTrueUnlessFaulty, KeepsTrace}
use Rattle.trace_answer.proofs.OtherModules.{states_there}
use Rattle.trace_answer.proofs.ReadModules.{read_outside, read_region}
use Rattle.trace_answer.proofs.ReadTruth.{states_true}
use Rattle.trace_answer.proofs.States.{AreCanonicalStates, spelled_states}
use Rattle.trace_answer.proofs.Titles.{text_same}
use Rattle.trace_answer.proofs.Whole.{StatesTrue, whole}

module _ (options : Options) (f : Files) (short : length f.source < past_text) (w : Text) (r : IsTrace options f w None) where
  abbrev c : Given options.label f
  c = r.given

  abbrev b : Bool
  b = options.no_terminating

  abbrev o : Outside
  o = c.right.outside

  abbrev g : Algorithm
  g = algorithm_in c.right

  abbrev values : Valuation
  values = constants_of c.constants

  abbrev W : Module
  W = module_for b r.title c

  all_shown : Proper (traced_program c) × ((explained_of b r.title c).states ≡ states_in c) × StatesTrue (traced_program c) W values (states_in c)
  all_shown = whole (traced_program c) W values (states_in c) (sym r.halted)

  canonical : AreCanonicalStates (states_in c)
  canonical = spelled_states (variables_of c.right) _ c.trace c.spells_trace.2

  text_is : (title : List ℕ) → w ≡ trace_text (traced_program c) (module_for b title c) values (states_in c)
  text_is title = r.text ∙ ap (trace_text (traced_program c) W values) all_shown.1 ∙ text_same (traced_program c) o (written_region b o g) values r.title title (states_in c)

  holds : (y : Text) (m : Module) → WrittenWhole options f.source y → Reads y m → AreAllTrue m (program g m values) values (states_in c)
  holds y m written reads =
      let same = read_outside options f.source y short c.right written m reads in
      let region = read_region options f.source y short c.right written m reads in
      states_true b r.title o g values m same region c.trace c.spells_trace.1 all_shown.2

  others : (y : Text) (h : Headline options f.source y) → AreTrueUnlessFaulty h.translates.module_of (program g h.translates.module_of values) values (states_in c)
  others y h =
      let m = h.translates.module_of in
      let algorithm : h.algorithm ≡ c.right.typed = one_stands f.source h.algorithm c.right.typed h.stands (stands_right options.label f.source c.right) in
      let same = outside_read_back f.source y m o (checked_is_fine options.label f.source c.right.clean) c.right.has h.translates.around h.translates.reads in
      let next : NextIs b g m = subst (λ (a : Algorithm). NextIs b (labelled options.label a) m) algorithm h.translates.next in
      let init : InitIs g m = subst (λ (a : Algorithm). InitIs (labelled options.label a) m) algorithm h.translates.init in
      let kept = are_constants o f.config c.constants c.spells_constants m same.constants in
      let own = are_constants o f.config c.constants c.spells_constants W refl in
      states_there b r.title o g (right_accepted options.label f.source c.right short) values m same next init kept own all_shown.0 c.trace c.spells_trace.1 canonical all_shown.2

pub keeps_trace : (options : Options) (f : Files) (w : Text) → length f.source < past_text → IsTrace options f w None → KeepsTrace options f w
keeps_trace options f w short r = record {
  given = r.given;
  text = text_is options f short w r;
  holds = holds options f short w r;
  others = others options f short w r;
}
