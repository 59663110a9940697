-- A return in the parts in which it is made.
use Rattle.std.proofs.Common.{◌≡◌, List, [], ◌∷◌, ◌++◌, map, cond, refl, sym, ap, subst, ◌∙◌, Ok, Err}
use Rattle.std.specs.Option.{option_copied}
use Rattle.tla_token.specs.declared.place.Place.{Place}
use Rattle.tla_value.specs.declared.stop.EvalStop.{EvalStop}
use Rattle.tla_value.specs.Value.{Value, text, Outcome, ◌>>=◌}
use Rattle.tla_value.specs.Order.{seq_from}
use Rattle.tla_value.specs.Limits.{bounded}
use Rattle.tla_value.specs.Stops.{Check}
use Rattle.tla_value.specs.Strict.{applied}
use Rattle.pcal_tree.specs.Algorithm.{Routine, locals}
use Rattle.pcal_tree.specs.Scope.{State}
use Rattle.pcal_tree.specs.Assign as pure
use Rattle.pcal_tree.specs.Program.{Actor, index, local_index}
use Rattle.pcal_tree.specs.Calls.{setting, part_settings, fields_read, restored}
use Rattle.pcal_tree.specs.Variables.{pc, written_all}
use Rattle.value_forms.specs.Gives.{Stops}
use Rattle.value_forms.proofs.StopLaws.{then_stops}
use Rattle.step_moves.specs.Programs.{program_at}
use Rattle.step_moves.specs.declared.runner.Runner.{Runner}
use Rattle.step_moves.specs.Runners.{written_names, IsReady, IsRunner}

just_set : (c : Check) (o : Outcome State) → o >>= (pure.set_all c []) ≡ o
just_set c (Ok s) = refl
just_set c (Err k) = refl

then_both : (o : Outcome State) (f g h : State → Outcome State) → ((s : State) → f s ≡ (g s) >>= h) → o >>= f ≡ (o >>= g) >>= h
then_both (Ok s) f g h e = e s
then_both (Err k) f g h e = refl

last_set : (c : Check) (xs : List pure.Setting) (y : pure.Setting) (s : State) → pure.set_all c (xs ++ (y ∷ [])) s ≡ (pure.set_all c xs s) >>= (pure.set_one c y)
last_set c [] y s = just_set c (pure.set_one c y s)
last_set c (x ∷ xs) y s = then_both (pure.set_one c x s) (pure.set_all c (xs ++ (y ∷ []))) (pure.set_all c xs) (pure.set_one c y) (last_set c xs y)

module _ (r : Runner) (v : Actor) (u : Routine) (g : IsReady r) (h : IsRunner r v u) where
  pub names_are : written_all (program_at r.program) u (locals u) ≡ written_names r.program r.routine
  names_are = λ i. map ((program_at r.program).naming.local (h.number i)) (h.names i)

  pub local_is : local_index v u ≡ cond r.routine.spread (index (option_copied r.identifier)) []
  local_is = λ i. cond (h.spread i) (index (h.identifier i)) []

  abbrev pub parts : Place → List Value → List pure.Setting
  parts at vs = part_settings at (cond r.routine.spread (index (option_copied r.identifier)) []) (written_names r.program r.routine) vs

  abbrev pub on_top : Place → List Value → pure.Setting
  on_top at frames = setting at r.stack.now (index (option_copied r.identifier)) (seq_from frames)

  abbrev pub restoring : Place → List Value → Value → List Value → State → Outcome State
  restoring at frames label vs s = (pure.set_one bounded (setting at pc (index v.self) label) s) >>= (λ t. (pure.set_all bounded (parts at vs) t) >>= (pure.set_one bounded (on_top at frames)))

  pub restored_form : (at : Place) (front : Value) (frames : List Value) (s : State)
      → restored (program_at r.program) v at u (front ∷ frames) s
      ≡ (applied at front (text r.pc.now)) >>= (λ label. (fields_read at (written_names r.program r.routine) front) >>= (λ vs. restoring at frames label vs s))
  restored_form at front frames s =
      (λ i. (applied at front (text (sym g.pc_is i))) >>= (λ label. (fields_read at (names_are i) front) >>= (λ vs. (pure.set_one bounded (setting at pc (index v.self) label) s) >>= (pure.set_all bounded
      (part_settings at (local_is i) (names_are i) vs ++ (setting at (sym g.stack_is i) (index (h.identifier i)) (seq_from frames) ∷ []))))))
      ∙ (λ i. (applied at front (text r.pc.now)) >>= (λ label. (fields_read at (written_names r.program r.routine) front) >>= (λ vs. (pure.set_one bounded (setting at pc (index v.self) label) s) >>= (λ t. last_set bounded (parts at vs) (on_top at frames) t i))))

  module _ (at : Place) (front label : Value) (frames : List Value) (s : State) (el : applied at front (text r.pc.now) ≡ Ok label) where
    after_label : restored (program_at r.program) v at u (front ∷ frames) s ≡ (fields_read at (written_names r.program r.routine) front) >>= (λ vs. restoring at frames label vs s)
    after_label = restored_form at front frames s ∙ ap (λ (o : Outcome Value). o >>= (λ l. (fields_read at (written_names r.program r.routine) front) >>= (λ vs. restoring at frames l vs s))) el

    -- a value is missing
    pub stops_values : (stop : EvalStop) → Stops stop (fields_read at (written_names r.program r.routine) front) → Stops stop (restored (program_at r.program) v at u (front ∷ frames) s)
    stops_values stop e = subst (Stops stop) (sym after_label) (then_stops stop (fields_read at (written_names r.program r.routine) front) (λ vs. restoring at frames label vs s) e)

    module _ (vs : List Value) (ev : fields_read at (written_names r.program r.routine) front ≡ Ok vs) where
      after_values : restored (program_at r.program) v at u (front ∷ frames) s ≡ restoring at frames label vs s
      after_values = after_label ∙ ap (λ (o : Outcome (List Value)). o >>= (λ vs. restoring at frames label vs s)) ev

      -- pc can't be set
      pub stops_pc : (stop : EvalStop) → Stops stop (pure.set_one bounded (setting at pc (index v.self) label) s) → Stops stop (restored (program_at r.program) v at u (front ∷ frames) s)
      stops_pc stop e =
          subst (Stops stop) (sym after_values) (then_stops stop (pure.set_one bounded (setting at pc (index v.self) label) s) (λ t. (pure.set_all bounded (parts at vs) t) >>= (pure.set_one bounded (on_top at frames))) e)

      module _ (t : State) (et : pure.set_one bounded (setting at pc (index v.self) label) s ≡ Ok t) where
        after_pc : restored (program_at r.program) v at u (front ∷ frames) s ≡ (pure.set_all bounded (parts at vs) t) >>= (pure.set_one bounded (on_top at frames))
        after_pc = after_values ∙ ap (λ (o : Outcome State). o >>= (λ t. (pure.set_all bounded (parts at vs) t) >>= (pure.set_one bounded (on_top at frames)))) et

        -- a variable can't be set
        pub stops_locals : (stop : EvalStop) → Stops stop (pure.set_all bounded (parts at vs) t) → Stops stop (restored (program_at r.program) v at u (front ∷ frames) s)
        stops_locals stop e = subst (Stops stop) (sym after_pc) (then_stops stop (pure.set_all bounded (parts at vs) t) (pure.set_one bounded (on_top at frames)) e)

        -- all before the stack is set
        pub restored_last : (w : State) → pure.set_all bounded (parts at vs) t ≡ Ok w → restored (program_at r.program) v at u (front ∷ frames) s ≡ pure.set_one bounded (on_top at frames) w
        restored_last w ew = after_pc ∙ ap (λ (o : Outcome State). o >>= (pure.set_one bounded (on_top at frames))) ew
