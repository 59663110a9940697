-- An algorithm with a procedure that calls itself is accepted in its file, by computation; so what the laws of accepted algorithms say of each step holds of its steps.
use Rattle.std.proofs.Common.{◌≡◌, ◌<◌, length, List, [], ◌∷◌, true, false, cond, bytes_eq, codes, Option, Some, None, inl, inr, refl, arith}
use Rattle.std.proofs.lemmas.Option.{same_Some}
use Rattle.tla_token.specs.AlgorithmOffences as tokens
use Rattle.tla_token.specs.Limits.{past_text}
use Rattle.tla_value.specs.Definitions.{Valuation}
use Rattle.tla_value.specs.Outside.{Outside}
use Rattle.tla_value.specs.Stops.{plain}
use Rattle.pcal_tree.specs.Algorithm.{done, Main, alone, processes, Routine, alone_routine, procedure_routines, Algorithm}
use Rattle.pcal_tree.specs.AlgorithmTokens.{views}
use Rattle.pcal_tree.specs.Calls.{defaultInitValue}
use Rattle.pcal_tree.specs.Grammar.{Text, spell, algorithm_of, Good, p_syntax}
use Rattle.pcal_tree.specs.Labelled.{labelled}
use Rattle.pcal_tree.specs.OffencesLabels.{label_offences}
use Rattle.pcal_tree.specs.OffencesOfNames.{name_offences}
use Rattle.pcal_tree.specs.Program.{Program, Actor}
use Rattle.pcal_tree.specs.Programs.{program_in}
use Rattle.pcal_tree.specs.Step.{Stand}
use Rattle.pcal_tree.specs.StepStart.{Begin, at_label}
use Rattle.module_tree.specs.AlgorithmText.{AlgorithmText, algorithm_in, algorithm_tokens}
use Rattle.module_tree.specs.FileOffences.{offences_of, algorithm_offences}
use Rattle.module_tree.specs.TextFront as front
use Rattle.module_tree.specs.Walk.{walk}
use Rattle.module_tree.specs.laws.Kept.{only_large}
use Rattle.module_tree.specs.laws.Outsides.{HasOutside}
use Rattle.module_tree.proofs.AlgorithmIsCut.{algorithm_is_cut}
use Rattle.action_builder.specs.laws.Jumps.{PairsStand}
use Rattle.action_builder.specs.laws.LabelSteps.{IsPrepared}
use Rattle.action_builder.specs.laws.StepsOfLabels.{step_of}
use Rattle.translation.specs.laws.AcceptedAlgorithm.{IsAcceptedInFile}
use Rattle.translation.specs.laws.AcceptedLaws.{extra_of, Stance, may_bind, callable_for}
use Rattle.translation.proofs.PairsApart.{pairs_law}
use Rattle.translation.proofs.PreparedSteps.{prepared_law}
use Rattle.translation.proofs.RowsProcedures as procedures
use Rattle.translation.proofs.RowsStands.{add_text, add_good, add_has}

-- an algorithm that the tokens of a file spell, and that breaks no rule
pub accepted_by : (x : front.Text) (t : Text) (o : Option AlgorithmText) (u : Outside) → algorithm_in x ≡ o → Good p_syntax t → offences_of (walk x) ≡ [] → only_large (algorithm_offences o) ≡ true
    → front.on_some o (λ a. Some (views (algorithm_tokens x a))) ≡ Some (spell t []) → front.on_some o (λ a. Some (tokens.algorithm_offences (algorithm_tokens x a))) ≡ Some []
    → labelled false (algorithm_of t) ≡ algorithm_of t → name_offences (algorithm_of t) u ≡ [] → label_offences (algorithm_of t) ≡ [] → length x < past_text → HasOutside (walk x) u → IsAcceptedInFile u (algorithm_of t)
accepted_by x t (Some a) u is good fine large told rules labels_added names labels short outside = record {
  file = x;
  accepted = record {
    syntax = p_syntax;
    text = x;
    from = a.from;
    to = a.rest.to;
    tokens = algorithm_tokens x a;
    tok = algorithm_is_cut x a fine is large;
    rules = same_Some (tokens.algorithm_offences (algorithm_tokens x a)) [] rules;
    typed = algorithm_of t;
    spelled = (t, good, same_Some (views (algorithm_tokens x a)) (spell t []) told, refl);
    forced = false;
    labels_added = labels_added;
    names = names;
    labels = labels;
  };
  short = short;
  outside = outside;
}
accepted_by x t None u is good fine large told rules labels_added names labels short outside = absurd cc

abbrev adder : Algorithm
adder = algorithm_of add_text

pub add_accepted : IsAcceptedInFile procedures.sequences adder
add_accepted = accepted_by procedures.file add_text (algorithm_in procedures.file) procedures.sequences refl add_good refl refl refl refl refl refl refl (omega arith) add_has

-- ---- its one process at the first label of the procedure

abbrev values : Valuation
values x = cond (bytes_eq (codes "defaultInitValue") x) (Some defaultInitValue) None

abbrev P : Program
P = program_in plain procedures.sequences adder values

abbrev body : Routine
body = by adder.main
  where
    by : Main → Routine
    by (alone ss) = alone_routine adder ss
    by (processes ps) = alone_routine adder done

abbrev actor : Actor
actor = record { self = None; own = body }

abbrev adds : List Routine → Routine
adds [] = body
adds (u ∷ us) = u

abbrev begun : Option Begin → Begin
begun (Some b) = b
begun None = record { items = done; exit = [] }

abbrev here : Stand
here = record { routine = adds (procedure_routines adder); label = codes "P"; begins = begun (at_label (adds (procedure_routines adder)) (codes "P")) }

stands_there : Stance P actor here
stands_there = record { actor = (actor ∷ [], refl, inl refl); routine = inr (inl refl); label = refl }

add_prepared : IsPrepared (step_of P (extra_of adder) actor here (may_bind procedures.sequences P) (callable_for P))
add_prepared = prepared_law procedures.sequences adder add_accepted values refl actor here stands_there

add_pairs : PairsStand P actor (adds (procedure_routines adder))
add_pairs = pairs_law procedures.sequences adder add_accepted values actor (adds (procedure_routines adder)) (actor ∷ [], refl, inl refl) (inr (inl refl))
