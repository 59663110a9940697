-- Next is true exactly where some process steps, or all are done and nothing changes.
use Rattle.std.proofs.Common.{◌≡◌, List, [], ◌∷◌, ◌++◌, map, Bool, true, false, cond, codes, ◌⊎◌, refl, sym, subst, Ok}
use Rattle.std.proofs.lemmas.List.{append-nil, append_assoc}
use Rattle.tla_value.specs.Value.{TrueExactly}
use Rattle.tla_value.specs.Stops.{plain}
use Rattle.tla_value.specs.Meaning.{Env, just}
use Rattle.tla_token.specs.Places.{nowhere}
use Rattle.module_tree.specs.Module.{call, Way, one_way}
use Rattle.module_tree.specs.ActionTruth.{Acts, some_way_holds}
use Rattle.module_tree.proofs.Tells.{tells_as}
use Rattle.pcal_tree.specs.Algorithm.{Main}
use Rattle.pcal_tree.specs.Processes.{OneOf, actors}
use Rattle.pcal_tree.specs.Program.{Program, Actor}
use Rattle.pcal_tree.specs.Scope.{State}
use Rattle.pcal_tree.specs.Step.{Step, Stutters}
use Rattle.pcal_tree.specs.Takers.{Taken}
use Rattle.pcal_tree.specs.Variables.{pc, vars}
use Rattle.action_builder.specs.NextFormula.{own_way, main_ways}
use Rattle.action_builder.specs.laws.Ready.{values_of}
use Rattle.action_builder.proofs.WaysOfNext.{AnyOf, ways_both}
use Rattle.promise.specs.NextAndInit.{Moves}
use Rattle.translation.proofs.NextFound.{Finds}
use Rattle.translation.proofs.NextTrue.{procedures_taken, FromTaken, FromMain, RoutineTrue, MainTrue, steps_true}
use Rattle.translation.proofs.NextSteps.{steps_of_ways, ways_of_steps}
use Rattle.translation.proofs.NextEnds.{AllThere, terminating_action, ends_true}

-- the disjuncts of Next, of an algorithm with this main part
abbrev pub ways_of : Bool → Program → Main → List Way
ways_of no_terminating P m =
    map (own_way P) (procedures_taken P m) ++ (main_ways P m ++ cond no_terminating [] (one_way (call (codes "Terminating")) ∷ []))

module _ (P : Program) (s t : State) (env : Env) (reads : env.now pc nowhere ≡ just (s pc)) (acts : Acts) (vs : List Actor) (m : Main) (is : P.algorithm.main ≡ m) (all : actors P ≡ Ok vs) where
  -- the actions of all routines are there, and true of the steps from their labels; and so is Terminating, where Next has it
  pub record AllTrue (no_terminating : Bool) : Type 0 where
    pub procedures : (r : Taken) → OneOf r (procedures_taken P m) → RoutineTrue P s t (values_of (vars P) s) (values_of (vars P) t) env acts r vs
    pub main : MainTrue P s t (values_of (vars P) s) (values_of (vars P) t) env acts vs m
    pub there : AllThere s env reads vs m
    pub ends : no_terminating ≡ false → Finds (values_of (vars P) s) (values_of (vars P) t) env acts (terminating_action P m)

  pub next_true : (b : Bool) → AllTrue b → TrueExactly (some_way_holds plain env acts (ways_of b P m)) (Moves b P s t)
  next_true b h = by b (λ e. h.ends e)
    where
      steps : TrueExactly (some_way_holds plain env acts (map (own_way P) (procedures_taken P m) ++ main_ways P m)) (Step P s t)
      steps =
          tells_as _ (AnyOf (λ r. FromTaken P s t r vs) (procedures_taken P m) ⊎ FromMain P s t vs m) (Step P s t) (steps_true P s t (values_of (vars P) s) (values_of (vars P) t) env acts vs m h.procedures h.main)
          (steps_of_ways P s t vs m is all) (ways_of_steps P s t vs m is all)

      by : (c : Bool) → (c ≡ false → Finds (values_of (vars P) s) (values_of (vars P) t) env acts (terminating_action P m)) → TrueExactly (some_way_holds plain env acts (ways_of c P m)) (Moves c P s t)
      by true f = subst (λ ys. TrueExactly (some_way_holds plain env acts (map (own_way P) (procedures_taken P m) ++ ys)) (Step P s t)) (sym (append-nil (main_ways P m))) steps
      by false f =
          subst (λ ys. TrueExactly (some_way_holds plain env acts ys) (Step P s t ⊎ Stutters P s t)) (append_assoc (map (own_way P) (procedures_taken P m)) (main_ways P m) (one_way (call (codes "Terminating")) ∷ []))
          (ways_both env acts (map (own_way P) (procedures_taken P m) ++ main_ways P m) (one_way (call (codes "Terminating")) ∷ []) (Step P s t) (Stutters P s t) steps (ends_true P s t env reads acts vs m h.there all (f refl)))
