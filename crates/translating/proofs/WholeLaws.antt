-- Of a checked algorithm all is known that its builder asks; and the file with its translation is what is written for the file.
use Rattle.std.proofs.Common.{◌≡◌, ℕ, ◌<◌, ◌≤◌, Bool, List, [], length, Some, None, refl, sym, ap, subst, ◌∙◌}
use Rattle.std.proofs.lemmas.Option.{none-some}
use Rattle.tla_token.specs.declared.rule.Refusal.{Refusal}
use Rattle.tla_token.specs.declared.rule.Stop.{Stop}
use Rattle.tla_token.specs.declared.rule.Stop.TheVariants as stop
use Rattle.tla_token.specs.Limits.{past_text}
use Rattle.tla_tree.specs.Tree.{Tree}
use Rattle.pcal_tree.specs.Algorithm.{Algorithm}
use Rattle.pcal_tree.specs.InMemory.{algorithm_at}
use Rattle.pcal_tree.specs.Labelled.{labelled}
use Rattle.pcal_tree.specs.Names.{naming}
use Rattle.pcal_tree.specs.Offences.{first}
use Rattle.pcal_tree.specs.OffencesLabels.{label_offences}
use Rattle.pcal_tree.specs.Variables.{vars}
use Rattle.pcal_tree.proofs.ClearLabels.{both_none}
use Rattle.module_tree.specs.Layout.{layout}
use Rattle.module_tree.specs.Module.{Region, Module}
use Rattle.module_tree.specs.TextFront.{Text}
use Rattle.module_tree.specs.WithTranslation.{WithTranslation}
use Rattle.module_tree.specs.laws.PlacelessRegion.{region_placeless}
use Rattle.module_tree.proofs.LayoutBare.{same_layout}
use Rattle.module_tree.proofs.WrittenRegion.{written_file}
use Rattle.macro_expand.specs.TooLarge.{too_large}
use Rattle.action_builder.specs.WrittenNames.{with_names}
use Rattle.make_module.specs.Big.{label_count}
use Rattle.promise.specs.Headline.{Stands}
use Rattle.promise.specs.Options as pure
use Rattle.file_answer.specs.Checking.{AnswersChecking}
use Rattle.file_answer.specs.Refusals.{IsStop}
use Rattle.file_answer.proofs.OneTree.{one_stands}
use Rattle.file_answer.proofs.SpelledInFile.{stand_there}
use Rattle.translation.specs.laws.AcceptedAlgorithm.{IsAcceptedInFile}
use Rattle.translation.specs.PromiseWhole.{WrittenWhole}
use Rattle.translation.specs.Region.{region_of, written_region}
use Rattle.translation.proofs.AcceptedAlgorithms.{text_writable}
use Rattle.translation.proofs.KeptAccepted.{nothing_wrong, checked_is_fine, stands_in_file}
use Rattle.translation.proofs.KeptPromise.{texts_keep_the_promise}
use Rattle.translation.proofs.RegionPlaced.{region_placed}
use Rattle.translation.proofs.WritableRegions.{written_is_region}
use Rattle.build_premises.proofs.CheckedVariables.{checked_few}
use Rattle.name_bits.specs.NamesIn.{most}
use Rattle.written_names.specs.Units.{naming_of}
use Rattle.checking.specs.CheckedIn.{IsLabelled}
use Rattle.checking.specs.declared.check.Checked.{Checked}
use Rattle.translating.specs.declared.region_text.RegionText.{RegionText}
use Rattle.translating.specs.declared.placed.Translated.{Translated}
use Rattle.translating.specs.Translated.{IsRegionText, IsTranslated, KeptAs, AreCounts}

-- a stop that is this refusal or want of memory
pub stop_of : (s : Stop) (R : Refusal → Type 0) → ((r : Refusal) → s ≡ stop.Refused r → R r) → IsStop R s
stop_of stop.Memory R h = tt
stop_of (stop.Refused r) R h = h r refl

-- where the rule isn't broken, only want of memory is left
pub is_memory : (a : Algorithm) (s : Stop) → too_large a ≡ [] → IsStop (λ r. first (too_large a) ≡ Some r) s → s ≡ stop.Memory
is_memory a stop.Memory e h = refl
is_memory a (stop.Refused r) e h = absurd (none-some r (sym (ap first e) ∙ h))

-- which is no refusal
pub memory_stop : (s : Stop) (R : Refusal → Type 0) → s ≡ stop.Memory → IsStop R s
memory_stop s R e = subst (IsStop R) (sym e) tt

-- places don't matter to the text
same_text : (no_terminating : Bool) (o : _) (g : Algorithm) → layout (region_of no_terminating (with_names o g)) ≡ layout (written_region no_terminating o g)
same_text no_terminating o g = same_layout _ _ (region_placed no_terminating o g)

-- c, over these trees, is the algorithm of the text x, with which nothing is wrong
module _ (forced : Bool) (x : Text) (ts : List Tree) (c : Checked) (h : IsLabelled forced x ts c) (right : AnswersChecking forced x None) where
  abbrev g : Algorithm
  g = algorithm_at ts c.algorithm

  stands : Stands x h.tree
  stands = stand_there x h.holds.text h.holds.syntax h.tree (checked_is_fine forced x right) h.holds.is_text h.holds.spelled

  pub accepted : length x < past_text → IsAcceptedInFile h.outside g
  accepted short = subst (IsAcceptedInFile h.outside) (sym h.algorithm) (stands_in_file forced x right h.tree stands h.outside h.has short)

  pub named : naming_of c.naming ≡ naming g h.outside
  named = h.names ∙ ap (λ (a : Algorithm). naming a h.outside) (sym h.algorithm)

  pub few : length (vars (with_names h.outside g)) ≤ most
  few = subst (λ (a : Algorithm). length (vars (with_names h.outside a)) ≤ most) (sym h.algorithm) (checked_few forced x right h.tree stands h.outside)

  pub not_large : too_large g ≡ []
  not_large =
      let none = nothing_wrong right.0 right.2 in
      subst (λ (a : Algorithm). too_large a ≡ []) (sym h.algorithm) (both_none (label_offences (labelled forced h.tree)) (too_large (labelled forced h.tree)) (sym (right.1.tree h.tree h.outside h.holds h.has).labels ∙ none.labels)).1

  -- with the text t of its translation in its place, x is what is written for x
  pub written : (no_terminating : Bool) (t : RegionText) (w : Text) → IsRegionText no_terminating (with_names h.outside g) t → WithTranslation x t.text w
      → (whole : WrittenWhole (record { label = forced; no_terminating = no_terminating }) x w) × (t.variables ≡ length (written_region no_terminating whole.outside (labelled forced whole.algorithm)).variables)
  written no_terminating t w is put =
      let text : t.text ≡ layout (written_region no_terminating h.outside (labelled forced h.tree)) = is.text ∙ same_text no_terminating h.outside g ∙ ap (λ (a : Algorithm). layout (written_region no_terminating h.outside a)) h.algorithm in (
        record { algorithm = h.tree; stands = stands; outside = h.outside; has = h.has; is = subst (λ (u : Text). WithTranslation x u w) text put },
        is.variables ∙ ap (λ (a : Algorithm). length (region_of no_terminating (with_names h.outside a)).variables) h.algorithm ∙ counted no_terminating,
      )
    where
      counted : (no_terminating : Bool) → length (region_of no_terminating (with_names h.outside (labelled forced h.tree))).variables ≡ length (written_region no_terminating h.outside (labelled forced h.tree)).variables
      counted no_terminating = ap (λ (r : Region). length r.variables) (region_placed no_terminating h.outside (labelled forced h.tree))

  -- the labels of the algorithm in memory are those of the one that is translated
  pub same_algorithm : (no_terminating : Bool) (w : Text) (whole : WrittenWhole (record { label = forced; no_terminating = no_terminating }) x w) → g ≡ labelled forced whole.algorithm
  same_algorithm no_terminating w whole = h.algorithm ∙ ap (labelled forced) (one_stands x h.tree whole.algorithm stands whole.stands)

-- ---- the promise

pub kept_as : (options : pure.Options) (x w : Text) → AnswersChecking options.label x None → length x < past_text → (whole : WrittenWhole options x w) → KeptAs options x w whole
kept_as options x w right short whole =
    let g = labelled options.label whole.algorithm in
    let r = written_region options.no_terminating whole.outside g in
    let accepted = stands_in_file options.label x right whole.algorithm whole.stands whole.outside whole.has short in
    let is = written_file x w whole.outside r (written_is_region options.no_terminating whole.outside g (text_writable x whole.outside g accepted.accepted short whole.has)) (checked_is_fine options.label x right) whole.has whole.is in
    let keeps = texts_keep_the_promise options x w right short whole in
    record {
      keeps = keeps;
      algorithm = one_stands x keeps.algorithm whole.algorithm keeps.stands whole.stands;
      variables = ap (λ (m : Module). m.region.variables) (is.only keeps.translates.module_of keeps.translates.reads) ∙ ap (λ (q : Region). q.variables) (ap region_placeless is.is.region ∙ is.same);
    }

-- counts of what is written
pub counts_kept : (forced no_terminating : Bool) (x : Text) (ts : List Tree) (c : Checked) → IsLabelled forced x ts c → AnswersChecking forced x None → length x < past_text → (t : Translated) (labels bytes : ℕ)
    → IsTranslated (record { label = forced; no_terminating = no_terminating }) x t → labels ≡ label_count (algorithm_at ts c.algorithm) → bytes ≡ length t.text.items
    → AreCounts (record { label = forced; no_terminating = no_terminating }) x (record { labels = labels; variables = t.variables; bytes = bytes })
counts_kept forced no_terminating x ts c h right short t labels bytes k n b = record {
  text = t.text.items;
  whole = k.whole;
  labels = n ∙ ap label_count (same_algorithm forced x ts c h right no_terminating t.text.items k.whole);
  variables = k.variables;
  bytes = b;
  keeps = kept_as (record { label = forced; no_terminating = no_terminating }) x t.text.items right short k.whole;
}
