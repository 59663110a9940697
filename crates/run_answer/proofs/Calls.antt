-- Jumps, calls and returns under limits.
use Rattle.std.proofs.Common.{List, [], ◌∷◌, ◌++◌, Option, Some, None, Ok, Err, refl, subst}
use Rattle.tla_token.specs.declared.place.Place.{Place}
use Rattle.tla_tree.specs.Tree.{Word}
use Rattle.tla_value.specs.Value.{Value, text, Outcome, fault, over}
use Rattle.tla_value.specs.Order.{seq_from}
use Rattle.tla_value.specs.Limits.{bounded}
use Rattle.tla_value.specs.Stops.{plain}
use Rattle.tla_value.specs.Strict.{applied}
use Rattle.tla_value.specs.laws.UnderLimits.{Below}
use Rattle.pcal_tree.specs.Algorithm.{Start, unset, equals, among, Declaration, Routine, locals, procedure_routines}
use Rattle.pcal_tree.specs.Scope.{State}
use Rattle.pcal_tree.specs.Run.{ends, stops, held, Partner, no_partner, goto_partner, return_partner}
use Rattle.pcal_tree.specs.Program.{Program, Actor, index, local_index, written, routine_scope}
use Rattle.pcal_tree.specs.Variables.{pc, stack, written_all}
use Rattle.pcal_tree.specs.Calls.{label_value, first_label, setting, all_read, frame, on_stack, argument_settings, initial_value, initial_place, variables_started, entered_keeping, entered, fields_read, part_settings, restored, returned, values_left, replaced, returned_and_entered, finished, called_with, entered_at, routine_named, rules_without_macros}
use Rattle.run_answer.specs.LimitedRuns.{under}
use Rattle.run_answer.proofs.Outcomes.{CourseBelow, course_same, below_same, below_then, reached_below}
use Rattle.run_answer.proofs.Scopes.{value_below, one_below, all_below, routine_below}
use Rattle.run_answer.proofs.Statements.{PartsBelow}

pub finished_below : (o q : Outcome State) → Below o q → CourseBelow (finished o) (finished q)
finished_below (Ok t) q h = subst (λ (o : Outcome State). CourseBelow (ends t) (finished o)) h (course_same (ends t))
finished_below (Err (fault k p)) q h = subst (λ (o : Outcome State). CourseBelow (stops (fault k p)) (finished o)) h (course_same (stops (fault k p)))
finished_below (Err (over p)) q h = λ ns. tt

module _ (P : Program) (v : Actor) where
  abbrev B : Program
  B = under bounded P

  abbrev F : Program
  F = under plain P

  -- ---- calls

  initial_below : (p : Routine) (at : Place) (d : Start) (s : State) → Below (initial_value B v p at d s) (initial_value F v p at d s)
  initial_below p at unset s = refl
  initial_below p at (equals e) s = value_below e (routine_scope B v p) (routine_scope F v p) s (routine_below P v p)
  initial_below p at (among e) s = refl

  started_below : (p : Routine) (at : Place) (ds : List Declaration) (s : State) → Below (variables_started B v p at ds s) (variables_started F v p at ds s)
  started_below p at [] s = refl
  started_below p at (d ∷ ds) s =
      below_then _ _ _ _ (initial_below p at d.start s)
      (λ w. below_then _ _ _ _ (one_below (setting (initial_place at d.start) (written P p d.name.word) (local_index v p) w) s) (started_below p at ds))

  keeping_below : (at : Place) (back : Value) (p : Routine) (places : List Place) (vs olds : List Value) (s : State) → Below (entered_keeping B v at back p places vs olds s) (entered_keeping F v at back p places vs olds s)
  keeping_below at back p places vs olds s =
      below_then _ _ _ _ (reached_below at (frame P p back olds))
      (λ front. below_then _ _ _ _ (below_same (on_stack v at s))
      (λ frames. below_then _ _ _ _ (reached_below at (seq_from (front ∷ frames)))
      (λ new. below_then _ _ _ _ (all_below (setting at stack (index v.self) new ∷ argument_settings (local_index v p) (written_all P p p.params) places vs) s)
      (λ t. below_then _ _ _ _ (started_below p at p.variables t) (λ u. one_below (setting at pc (index v.self) (label_value P p (first_label p))) u)))))

  entered_below : (at : Place) (back : Value) (p : Routine) (places : List Place) (vs : List Value) (s : State) → Below (entered B v at back p places vs s) (entered F v at back p places vs s)
  entered_below at back p places vs s = below_then _ _ _ _ (below_same (all_read at (local_index v p) (written_all P p (locals p)) s)) (λ olds. keeping_below at back p places vs olds s)

  -- ---- returns

  restored_below : (at : Place) (p : Routine) (fs : List Value) (s : State) → Below (restored B v at p fs s) (restored F v at p fs s)
  restored_below at p [] s = refl
  restored_below at p (front ∷ frames) s =
      below_then _ _ _ _ (below_same (applied at front (text pc)))
      (λ label. below_then _ _ _ _ (below_same (fields_read at (written_all P p (locals p)) front))
      (λ vs. all_below (setting at pc (index v.self) label ∷ (part_settings at (local_index v p) (written_all P p (locals p)) vs ++ (setting at stack (index v.self) (seq_from frames) ∷ []))) s))

  returned_below : (at : Place) (p : Routine) (s : State) → Below (returned B v at p s) (returned F v at p s)
  returned_below at p s = below_then _ _ _ _ (below_same (on_stack v at s)) (λ frames. restored_below at p frames s)

  replaced_below : (at end : Place) (u p : Routine) (places : List Place) (vs fs : List Value) (s : State) → Below (replaced B v at end u p places vs fs s) (replaced F v at end u p places vs fs s)
  replaced_below at end u p places vs [] s = refl
  replaced_below at end u p places vs (front ∷ frames) s =
      below_then _ _ _ _ (below_same (applied end front (text pc)))
      (λ back. below_then _ _ _ _ (restored_below end u (front ∷ frames) s)
      (λ t. below_then _ _ _ _ (below_same (values_left P v at end u p front t)) (λ olds. keeping_below at back p places vs olds t)))

  both_below : (at end : Place) (u p : Routine) (places : List Place) (vs : List Value) (s : State) → Below (returned_and_entered B v at end u p places vs s) (returned_and_entered F v at end u p places vs s)
  both_below at end u p places vs s = below_then _ _ _ _ (below_same (on_stack v end s)) (λ frames. replaced_below at end u p places vs frames s)

  -- ---- the rules of a step

  with_below : (u : Routine) (at : Place) (p : Routine) (places : List Place) (vs : List Value) (l : Word) (j : Partner) (s : State) → Below (called_with B v u at p places vs l j s) (called_with F v u at p places vs l j s)
  with_below u at p places vs l no_partner s = entered_below at (label_value P u l) p places vs s
  with_below u at p places vs l (goto_partner m) s = entered_below at (label_value P u m) p places vs s
  with_below u at p places vs l (return_partner end) s = both_below at end.first u p places vs s

  at_below : (u : Routine) (at : Place) (o : Option Routine) (places : List Place) (vs : List Value) (l : Word) (j : Partner) (s : State) → CourseBelow (entered_at B v u at o places vs l j s) (entered_at F v u at o places vs l j s)
  at_below u at None places vs l j s = course_same (held at)
  at_below u at (Some p) places vs l j s = finished_below _ _ (with_below u at p places vs l j s)

  pub rules_below : (u : Routine) → PartsBelow (rules_without_macros B v u) (rules_without_macros F v u)
  rules_below u = record {
    goto = λ l s. finished_below _ _ (one_below (setting v.own.name.place pc (index v.self) (label_value P u l)) s);
    call = λ at p places vs l j s. at_below u at (routine_named p (procedure_routines P.algorithm)) places vs l j s;
    return = λ at s. finished_below _ _ (returned_below at u s);
  }
