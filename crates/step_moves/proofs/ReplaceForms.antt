-- A return and then a call, in the parts in which they are made.
use Rattle.std.proofs.Common.{◌≡◌, ℕ, ◌-◌, Bool, false, true, nat_eq, List, [], ◌∷◌, length, take, drop, get_or, cond, arith, refl, sym, ap, subst, ◌∙◌, Ok, Result, true≢false}
use Rattle.std.proofs.Math.Seq.{take-length}
use Rattle.std.proofs.lemmas.Bool.{eqb-true}
use Rattle.std.specs.Prelude.{◌==◌}
use Rattle.std.specs.Option.{option_copied}
use Rattle.tla_token.specs.declared.place.Place.{Place}
use Rattle.tla_tree.specs.Tree.{Word}
use Rattle.tla_value.specs.declared.stop.EvalStop.{EvalStop}
use Rattle.tla_value.specs.Value.{Value, text, Outcome, ◌>>=◌}
use Rattle.tla_value.specs.Strict.{applied}
use Rattle.pcal_tree.specs.Algorithm.{Routine, locals}
use Rattle.pcal_tree.specs.Scope.{State}
use Rattle.pcal_tree.specs.Program.{Program, Actor, index, local_index}
use Rattle.pcal_tree.specs.Calls.{all_read, fields_read, on_stack, restored, values_left}
use Rattle.pcal_tree.specs.Variables.{pc, written_all}
use Rattle.value_forms.specs.Gives.{Gives, Stops}
use Rattle.value_forms.proofs.StopLaws.{then_stops}
use Rattle.step_walks.specs.FirstValues.{Evaluation}
use Rattle.step_walks.specs.WrittenCalls.{entered_keeping_by, replaced_by, returned_and_entered_by}
use Rattle.step_spots.specs.declared.routine.Routine as spots
use Rattle.step_spots.specs.InMemory.{routine_at}
use Rattle.step_moves.specs.Programs.{program_at}
use Rattle.step_moves.specs.declared.runner.Runner.{Runner}
use Rattle.step_moves.specs.Runners.{written_names, IsRunner}
use Rattle.step_moves.proofs.EntryForms.{olds_are}

-- an answer that gives the one outcome gives the other
pub gives_as : {X Y : Type 0} (view : X → Y) (r : Result X EvalStop) (o q : Outcome Y) → o ≡ q → Gives view r q → Gives view r o
gives_as view r o q e h = subst (Gives view r) (sym e) h

-- ---- the values of the callee's variables

false_unless : (b : Bool) → (b ≡ true → ⊥) → b ≡ false
false_unless true other = absurd (other refl)
false_unless false other = refl

module _ (r : Runner) (v : Actor) (u : Routine) (c : spots.Routine) (h : IsRunner r v u) (at end : Place) (front : Value) (s : State) where
  abbrev left : Outcome (List Value)
  left = values_left (program_at r.program) v at end u (routine_at r.program.pool.now c) front s

  abbrev kept : Outcome (List Value)
  kept = fields_read end (written_all (program_at r.program) u (locals u)) front

  abbrev read : Outcome (List Value)
  read = all_read at (local_index v (routine_at r.program.pool.now c)) (written_all (program_at r.program) (routine_at r.program.pool.now c) (locals (routine_at r.program.pool.now c))) s

  -- another one is
  pub left_other : (r.routine.number ≡ c.number → ⊥) → (names : List Word) (path : List Value) → names ≡ written_names r.program c → path ≡ cond c.spread (index (option_copied r.identifier)) []
      → left ≡ all_read at path names s
  left_other other names path en ep =
      ap (λ (b : Bool). cond b kept read) (false_unless (nat_eq u.number c.number) (λ t. other (sym h.number ∙ eqb-true u.number c.number t)))
      ∙ olds_are r v c h.identifier at s names path en ep

-- ---- both

module _ (E : Evaluation) (P : Program) (v : Actor) (at end : Place) (u p : Routine) (places : List Place) (vs : List Value) (s : State) where
  -- there is no stack
  pub both_no_stack : (stop : EvalStop) → Stops stop (on_stack v end s) → Stops stop (returned_and_entered_by E P v at end u p places vs s)
  both_no_stack stop h = then_stops stop (on_stack v end s) (λ frames. replaced_by E P v at end u p places vs frames s) h

  pub both_stack : (frames fs : List Value) → on_stack v end s ≡ Ok frames → fs ≡ frames → returned_and_entered_by E P v at end u p places vs s ≡ replaced_by E P v at end u p places vs fs s
  both_stack frames fs e same =
      ap (λ (o : Outcome (List Value)). o >>= (λ gs. replaced_by E P v at end u p places vs gs s)) e ∙ ap (λ (gs : List Value). replaced_by E P v at end u p places vs gs s) (sym same)

  -- the first record
  pub both_first : (frames : List Value) (front : Value) (empty : Bool) → empty ≡ (length frames == 0) → empty ≡ false → front ≡ get_or frames 0 front
      → replaced_by E P v at end u p places vs frames s ≡ replaced_by E P v at end u p places vs (front ∷ take (length frames - 1) (drop 1 frames)) s
  both_first [] front empty e not is = absurd (true≢false (sym e ∙ not))
  both_first (f ∷ frames) front empty e not is =
      let less : length (f ∷ frames) - 1 ≡ length frames = omega arith in
      let more : take (length (f ∷ frames) - 1) frames ≡ frames = ap (λ (n : ℕ). take n frames) less ∙ take-length frames in
      λ i. replaced_by E P v at end u p places vs (sym is i ∷ sym more i) s

  abbrev enter_then : Value → State → List Value → Outcome State
  enter_then back t olds = entered_keeping_by E P v at back p places vs olds t

  module _ (front : Value) (frames : List Value) where
    abbrev both : Outcome State
    both = replaced_by E P v at end u p places vs (front ∷ frames) s

    abbrev olds_then : Value → State → Outcome State
    olds_then back t = (values_left P v at end u p front t) >>= (enter_then back t)

    abbrev restore_then : Value → Outcome State
    restore_then back = (restored P v end u (front ∷ frames) s) >>= (olds_then back)

    module _ (back : Value) (eb : applied end front (text pc) ≡ Ok back) where
      after_label : both ≡ restore_then back
      after_label = ap (λ (o : Outcome Value). o >>= restore_then) eb

      -- the return stops
      pub both_not_restored : (stop : EvalStop) → Stops stop (restored P v end u (front ∷ frames) s) → Stops stop both
      both_not_restored stop h = subst (Stops stop) (sym after_label) (then_stops stop (restored P v end u (front ∷ frames) s) (olds_then back) h)

      module _ (t : State) (et : restored P v end u (front ∷ frames) s ≡ Ok t) where
        after_return : both ≡ olds_then back t
        after_return = after_label ∙ ap (λ (o : Outcome State). o >>= (olds_then back)) et

        -- a value of the callee's variables is missing
        pub both_unread : (stop : EvalStop) → Stops stop (values_left P v at end u p front t) → Stops stop both
        both_unread stop h = subst (Stops stop) (sym after_return) (then_stops stop (values_left P v at end u p front t) (enter_then back t) h)

        -- all before the entry is done
        pub both_last : (olds : List Value) → values_left P v at end u p front t ≡ Ok olds → both ≡ enter_then back t olds
        both_last olds eo = after_return ∙ ap (λ (o : Outcome (List Value)). o >>= (enter_then back t)) eo
