-- Whether a state is initial is asked of accepted algorithms by the written names, with the same answer, under any limits.
use Rattle.std.proofs.Common.{◌≡◌, List, [], ◌∷◌, true, false, None, Some, Ok, refl, sym, ◌∙◌}
use Rattle.std.specs.List.{AllByRecursion}
use Rattle.tla_tree.specs.Tree.{Tree}
use Rattle.tla_value.specs.Definitions.{Valuation}
use Rattle.tla_value.specs.Outside.{Outside}
use Rattle.tla_value.specs.Stops.{Check, plain}
use Rattle.tla_value.specs.Value.{truth}
use Rattle.tla_value.specs.laws.FreeNames.{Any}
use Rattle.tla_value.proofs.FreeNames.{free_names}
use Rattle.pcal_tree.specs.Algorithm as tree
use Rattle.pcal_tree.specs.Algorithm.{Start, unset, equals, among, Declaration, Main, alone, processes, Routine, locals, alone_routine, procedure_routines, main_routines, routines, Algorithm}
use Rattle.pcal_tree.specs.BoundNames.{lists_in_start}
use Rattle.pcal_tree.specs.InitialStates.{running, is_multiprocess, allowed}
use Rattle.pcal_tree.specs.OffencesNames.{in_whole, in_start, in_declared, sight_inside}
use Rattle.pcal_tree.specs.OffencesRebind.{start_rebinds, any_name}
use Rattle.pcal_tree.specs.Processes.{actors, OneOf}
use Rattle.pcal_tree.specs.Program.{Program, Actor}
use Rattle.pcal_tree.specs.Programs.{program_in}
use Rattle.pcal_tree.specs.Scope.{State}
use Rattle.pcal_tree.proofs.CallsFine.{tree_seen}
use Rattle.pcal_tree.proofs.ClearLabels.{both_none}
use Rattle.pcal_tree.proofs.GraftsRead.{tree_wider}
use Rattle.pcal_tree.proofs.TroubleLaws.{one_left, one_right}
use Rattle.action_builder.specs.laws.WrittenScope.{Common}
use Rattle.action_builder.proofs.WrittenScope.{common_agree}
use Rattle.action_builder.proofs.WrittenStarts.{written_expression}
use Rattle.translation.specs.laws.AcceptedAlgorithm.{IsAcceptedInFile}
use Rattle.translation.specs.laws.AcceptedLaws.{extra_of}
use Rattle.translation.proofs.BoundOf.{AllIn}
use Rattle.translation.proofs.InitNames as init
use Rattle.translation.proofs.InitNames.{sight_of, standings_of, StartFine, all_fine}
use Rattle.translation.proofs.NamesApart.{used_outside, global_common, defined_common}
use Rattle.translation.proofs.NamesInSight.{sees_inside}
use Rattle.translation.proofs.NamesOfRules.{rules_of_names}
use Rattle.translation.proofs.NextSteps.{running_one}
use Rattle.accepted_steps.proofs.AnyLimits.{HasIdentifier, has_identifier, common_less, apart_outside, apart_inside}
use Rattle.accepted_steps.proofs.FirstNames.{first_named}
use Rattle.accepted_steps.proofs.FirstValues.{starts_alike}
use Rattle.written_traces.specs.AskedStarts.{Meanings, as_declared, as_written, start_asked}
use Rattle.written_traces.proofs.AskedLaws.{SensesAlike, MeaningsAlike, start_alike, locals_senses, asked_declared}

-- some process, which has an identifier where there are processes
some_actor : (a : Algorithm) (m : Main) → (v : Actor) × HasIdentifier m v
some_actor a (alone ss) = (record { self = None; own = alone_routine a tree.done }, refl)
some_actor a (processes ps) = (record { self = Some (truth true); own = alone_routine a tree.done }, (truth true, refl))

module _ (c : Check) (o : Outside) (a : Algorithm) (h : IsAcceptedInFile o a) (values : Valuation) where
  abbrev P : Program
  P = program_in c o a values

  abbrev Q : Program
  Q = program_in plain o a values

  abbrev M : Meanings
  M = as_written P

  abbrev N : Meanings
  N = as_declared P

  -- ---- for a process

  start_inside : (v : Actor) → HasIdentifier a.main v → (u : Routine) → OneOf u (routines a) → (d : Declaration) → StartFine o a u d → SensesAlike (M.inside v u) (N.inside v u) d.start
  start_inside v i u k d f = by d.start f.used f.once f.bound
    where
      whole : (e : Tree) → in_start (equals e) (sight_of o a u) ≡ [] → start_rebinds o.extended any_name (equals e) (standings_of o a u) ≡ [] → AllIn (init.Bound o a) (lists_in_start (equals e)) → (s : State) → M.inside v u e s ≡ N.inside v u e s
      whole e l m n s = written_expression P [] v u (apart_inside o a h values c v i u k) e (first_named o a h values c u k e l m n) s

      by : (d : Start) → in_start d (sight_of o a u) ≡ [] → start_rebinds o.extended any_name d (standings_of o a u) ≡ [] → AllIn (init.Bound o a) (lists_in_start d) → SensesAlike (M.inside v u) (N.inside v u) d
      by unset l m n = tt
      by (equals e) l m n = whole e l m n
      by (among e) l m n = whole e l m n

  starts_inside : (v : Actor) → HasIdentifier a.main v → (u : Routine) → OneOf u (routines a) → (ds : List Declaration) → AllByRecursion (StartFine o a u) ds → AllByRecursion (λ d. SensesAlike (M.inside v u) (N.inside v u) d.start) ds
  starts_inside v i u k [] f = tt
  starts_inside v i u k (d ∷ ds) f = (start_inside v i u k d f.0, starts_inside v i u k ds f.1)

  -- ---- outside of processes

  whole_outside : (e : Tree) → in_whole e (sight_inside a o) ≡ [] → (s : State) → M.outside e s ≡ N.outside e s
  whole_outside e q s =
      let w = some_actor a a.main in
      let sees = sees_inside o (Common Q (extra_of a)) (used_outside o a h values) a (global_common o a h values) (defined_common o a h values) in
      let reads = tree_wider (Common Q (extra_of a)) (Common P []) Any (common_less o a h values c) e (tree_seen e false (sight_inside a o) (Common Q (extra_of a)) sees q) in
      sym (free_names c (Common P []) Any e reads _ _ (common_agree P [] w.0 (alone_routine a tree.done) (apart_outside o a h values c w.0 w.1) s))

  start_outside : (d : Start) → in_start d (sight_inside a o) ≡ [] → SensesAlike M.outside N.outside d
  start_outside unset e = tt
  start_outside (equals t) e = whole_outside t e
  start_outside (among t) e = whole_outside t e

  globals_outside : (ds : List Declaration) → in_declared ds (sight_inside a o) ≡ [] → AllByRecursion (λ d. SensesAlike M.outside N.outside d.start) ds
  globals_outside [] e = tt
  globals_outside (d ∷ ds) e = (let k = both_none (in_start d.start (sight_inside a o)) _ e in (start_outside d.start k.0, globals_outside ds k.1))

  -- ---- all declarations

  module _ (vs : List Actor) (e : actors P ≡ Ok vs) where
    inside : (u : Routine) → OneOf u (routines a) → (v : Actor) → OneOf v vs → AllByRecursion (λ d. SensesAlike (M.inside v u) (N.inside v u) d.start) (locals u)
    inside u k v n = starts_inside v (has_identifier P v (vs, e, n)) u k (locals u) (all_fine o a h values u k)

    meanings_alike : MeaningsAlike M N a vs
    meanings_alike =
        let known = starts_alike c o a h values vs e in
        record {
          globals = globals_outside a.globals (both_none (in_declared a.globals (sight_inside a o)) _ (rules_of_names a o h.accepted.names).0).0;
          procedures = λ u m. locals_senses M N u (is_multiprocess a.main) vs (locals u) (known.procedures u m) (inside u (one_left u (procedure_routines a) (main_routines a a.main) m));
          processes = λ u m.
              locals_senses M N u u.spread (running u vs) (locals u) (known.processes u m)
              (λ v n. inside u (one_right u (procedure_routines a) (main_routines a a.main) m) v (running_one u v vs n));
        }

    pub asked_written : (s : State) → start_asked M P vs s ≡ allowed P s
    asked_written s = start_alike M N P vs meanings_alike s ∙ asked_declared P vs s e
