use Rattle.std.proofs.Common.{◌≡◌, List, ℕ, Option, refl, ap, ◌∙◌}
use Rattle.std.specs.List.{flat_map}
use Rattle.tla_token.specs.Offences.{least}
use Rattle.tla_token.specs.Readings.{joined}
use Rattle.module_split.specs.StandsSeen.{stands_seen}
use Rattle.module_tree.specs.FileParts.{module_end, beginnings}
use Rattle.module_tree.specs.AlgorithmText.{algorithm_of}
use Rattle.module_tree.specs.FileOffences.{no_module, no_algorithm, second_algorithms, placements, options_in, outside_region}
use Rattle.module_split.proofs.SplitLeast.{split_least}
use Rattle.module_split.proofs.split.file_fault.Goals as goal

pub returns : goal.returns
returns c =
    let x = c.args.text.now in
    let S = stands_seen x c.args.stands.now in
    let e : c.module_end-end.result ≡ module_end S = c.module_end-end.ensures x in
    let options = least (flat_map (options_in x) (outside_region x S)) in
    let place : c.sooner-place.result ≡ joined (least (placements S)) options = c.sooner-place.ensures ∙ (λ i. joined (c.placement_fault.ensures i) (c.options_outside-options.ensures i)) in
    let seconds = c.further_fault.ensures x S c.requires.found ∙ ap (λ (ns : List ℕ). least (second_algorithms (algorithm_of x S) ns)) c.requires.starts in
    let further : c.sooner-further.result ≡ joined (least (second_algorithms (algorithm_of x S) (beginnings S))) (joined (least (placements S)) options) = c.sooner-further.ensures ∙ (λ i. joined (seconds i) (place i)) in
    let none = c.missing_fault.ensures ∙ (λ i. least (no_algorithm (e i) (c.requires.starts i))) in
    let missing : c.sooner-missing.result ≡ joined (least (no_algorithm (module_end S) (beginnings S))) (joined (least (second_algorithms (algorithm_of x S) (beginnings S))) (joined (least (placements S)) options)) = c.sooner-missing.ensures ∙ (λ i. joined (none i) (further i)) in
    let endless = c.module_fault.ensures x refl ∙ ap (λ (o : Option ℕ). least (no_module x o)) e in
    let ended : c.sooner-ended.result ≡ joined (least (no_module x (module_end S))) (joined (least (no_algorithm (module_end S) (beginnings S))) (joined (least (second_algorithms (algorithm_of x S) (beginnings S))) (joined (least (placements S)) options))) =
    c.sooner-ended.ensures ∙ (λ i. joined (endless i) (missing i)) in
    let within = c.inside_fault.ensures x S c.args.marks.now c.requires.found in
    let inside = c.sooner-inside.ensures ∙ (λ i. joined (within i) (ended i)) in
    c.sooner.ensures ∙ (λ i. joined (c.stands_fault.ensures i) (inside i)) ∙ split_least x S c.requires.walk
