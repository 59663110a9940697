-- All that bodies offend, one after another.
use Rattle.std.proofs.Common.{Result, Ok, Err, OnOk, ◌≡◌, List, [], ◌++◌, Bool, true, Option, Some, None, Vec, Global, reverse, sym, ap, ◌∙◌, cond}
use Rattle.std.specs.Bool.{if◌then◌else◌}
use Rattle.std.specs.List.{flat_map}
use Rattle.std.specs.Result.{is_ok}
use Rattle.tla_token.specs.declared.rule.Rule.{Rule}
use Rattle.tla_token.specs.declared.rule.Refusal.{Refusal}
use Rattle.pcal_tree.specs.Algorithm.{Statements, Algorithm}
use Rattle.pcal_tree.specs.OffencesLabels.{of_macro, of_procedure, of_main, label_offences}
use Rattle.pcal_tree.specs.OffencesSteps.{at_first, step_offences}
use Rattle.pcal_tree.specs.Paths.{Effects, nothing}
use Rattle.pcal_tree.specs.laws.MacroSummaries.{Summary, summaries, summary_effect}
use Rattle.pcal_tree.proofs.EffectLaws.{offences_by_summaries}
use Rattle.label_steps.specs.declared.ways.Ways.{Ways}
use Rattle.label_steps.specs.AroundIn.{effects_around}
use Rattle.label_steps.specs.WaysIn.{AreWays}
use Rattle.added_labels.specs.declared.seen.Where.{Where}
use Rattle.added_labels.specs.Sight.{effects_of}
use Rattle.step_offences.specs.Stepping.{Told, told, GoesAll}
use Rattle.label_rules.proofs.AddedLaws.{added_then}

-- in a list of its own, from the beginning of a body on
pub all_told : (E : Effects) (r : Option Rule) (b : Statements) (start now : Ways) (v : Vec Refusal Global) (n : Told) (x : Bool) → AreWays None (Some []) start → v.items ≡ [] → GoesAll E r b start now (Some v) n x
    → told n ≡ Some (step_offences E (at_first r) b)
all_told E r b start now v n x s e g = g.found (Some []) s.reached ∙ ap (λ (ms : List Refusal). Some (ms ++ step_offences E (at_first r) b)) e

-- a list that is longer only where nothing went wrong
pub longer_if_ok : {T F : Type 0} (r : Result T F) (x a b : List Refusal) → x ≡ (if is_ok r then a else b) → OnOk r (x ≡ a)
longer_if_ok (Ok u) x a b h = h
longer_if_ok (Err e) x a b h = tt

-- in a macro nothing is assigned
pub effects_silent : (w : Where) (ms : List Summary) → w.silent ≡ true → effects_of w ms ≡ (λ st. nothing)
effects_silent w ms e = ap (λ (b : Bool). cond b (λ st. nothing) (effects_around w.around ms)) e

pub all_are : (a : Algorithm) (k m n : List Refusal) → k ≡ [] → m ≡ k ++ flat_map of_macro a.macros
    → n ≡ m ++ (flat_map (of_procedure (summary_effect (summaries (reverse a.macros)))) a.procedures ++ of_main (summary_effect (summaries (reverse a.macros))) a.main) → n ≡ label_offences a
all_are a k m n e g h =
    let C = summary_effect (summaries (reverse a.macros)) in
    let rest = flat_map (of_procedure C) a.procedures ++ of_main C a.main in
    added_then k m n (flat_map of_macro a.macros) rest g h ∙ ap (λ (rs : List Refusal). rs ++ (flat_map of_macro a.macros ++ rest)) e ∙ sym (offences_by_summaries a)
