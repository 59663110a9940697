-- Init as a whole, in an accepted algorithm's module: where the walk through all initial values gives a truth value, Init has it.
use Rattle.std.proofs.Common.{◌≡◌, ℕ, suc, List, [], ◌∷◌, ◌++◌, ◌==◌, Bool, true, false, cond, map, flat_map, Some, None, inl, inr, refl, sym, ◌∙◌, ap, subst, Ok}
use Rattle.std.specs.List.{AllByRecursion}
use Rattle.tla_token.specs.Signs.{is_among}
use Rattle.tla_tree.specs.Tree.{Word}
use Rattle.tla_value.specs.Value.{Values, no_values, and, set, and_then, ◌>>=◌}
use Rattle.tla_value.specs.Order.{IsAscending}
use Rattle.tla_value.specs.Stops.{plain}
use Rattle.tla_value.specs.Meaning.{Env}
use Rattle.tla_value.specs.Definitions.{Valuation}
use Rattle.tla_value.specs.Outside.{Outside}
use Rattle.tla_value.proofs.Outcomes.{ok_is}
use Rattle.module_tree.specs.Formulas.{process_set}
use Rattle.module_tree.specs.Module.{Region}
use Rattle.module_tree.specs.ModuleTruth.{all_hold}
use Rattle.pcal_tree.specs.Algorithm.{Statements, Declaration, Process, Main, alone, processes, Routine, locals, process_routine, alone_routine, numbered, first_process, procedure_routines, main_routines, routines, Algorithm}
use Rattle.pcal_tree.specs.InitialStates.{globals_allowed, local_allowed, locals_allowed, is_multiprocess, procedures_allowed, running, processes_allowed, stack_allowed, pc_allowed, allowed}
use Rattle.pcal_tree.specs.Processes.{OneOf, identifiers_of, actors_of, all_actors, actors_in, actors}
use Rattle.pcal_tree.specs.Program.{Program, Actor}
use Rattle.pcal_tree.specs.Scope.{State}
use Rattle.pcal_tree.specs.Takers.{Takers, each_of, single, lone, taken_process, taken_main}
use Rattle.pcal_tree.specs.Variables.{declared, pc, stack_for, written_by_all, vars}
use Rattle.pcal_tree.proofs.OneStand.{every_both}
use Rattle.pcal_tree.proofs.ProcessesInOrder.{id, ids, ids_of_actors, sorted_ascending, At, at_first, at_later, running_in_order, running_ascending, all_owned, all_parts}
use Rattle.pcal_tree.proofs.RoutineNames.{every_one}
use Rattle.pcal_tree.proofs.TroubleLaws.{one_left, one_right}
use Rattle.action_builder.specs.InitialFormulas.{locals_start, globals_start, stack_start, pc_start, init}
use Rattle.action_builder.specs.LabelActions.{procedure_takers, taken_procedures}
use Rattle.action_builder.specs.laws.WrittenScope.{NamesApart}
use Rattle.action_builder.proofs.WrittenStarts.{Follows, follows_and, hold_both}
use Rattle.module_tree.specs.ActionTruth.{truth_in}
use Rattle.action_builder.specs.InitialFormulas.{start_by}
use Rattle.pcal_tree.specs.Program.{written}
use Rattle.promise.specs.ConstantsAndStates.{AreConstants, IsState}
use Rattle.translation.specs.laws.AcceptedAlgorithm.{IsAcceptedInFile}
use Rattle.translation.specs.laws.AcceptedLaws.{extra_of}
use Rattle.pcal_tree.proofs.ReplyConverse.{in_sorted}
use Rattle.translation.proofs.InitLabels.{one_holds, lone_pc, lone_stack, all_pc, all_stack}
use Rattle.translation.proofs.InitNames.{StartFine, identity_used, all_fine}
use Rattle.translation.proofs.InitSets.{P, E, all_grow, Gives, identity_gives, identity_canonical, value_grows, Running, running_all, process_set_gives}
use Rattle.translation.proofs.InitValues.{globals_hold, lone_is, single_is, spread_is, locals_hold}
use Rattle.translation.proofs.NamesApart.{names_apart}
use Rattle.translation.proofs.NamesOfRules.{rules_of_names}
use Rattle.translation.proofs.RoutinesNamed.{among_before}
use Rattle.translation.proofs.VariableNames.{one_is_among}
use Rattle.translation.proofs.NextTrue.{all_from}

declared_one : (d : Declaration) (ds : List Declaration) → OneOf d ds → OneOf d.name.word (declared ds)
declared_one d [] m = absurd m
declared_one d (c ∷ ds) (inl e) = inl (ap (λ (b : Declaration). b.name.word) e)
declared_one d (c ∷ ds) (inr m) = inr (declared_one d ds m)

running_one : (u : Routine) (v : Actor) (vs : List Actor) → OneOf v (running u vs) → OneOf v vs
running_one u v [] m = absurd m
running_one u v (w ∷ ws) m = by (running_one u v ws) (w.own.number == u.number) m
  where
    by : (OneOf v (running u ws) → OneOf v ws) → (b : Bool) → OneOf v (cond b (w ∷ running u ws) (running u ws)) → OneOf v (w ∷ ws)
    by f true (inl e) = inl e
    by f true (inr m) = inr (f m)
    by f false m = inr (f m)

at_one : (p : Process) (m n : ℕ) (ps : List Process) → At p m ps n → OneOf p ps
at_one _ _ _ _ (at_first p n ps) = inl refl
at_one _ _ _ _ (at_later p q m n ps x) = inr (at_one p m (suc n) ps x)

at_routine : (p : Process) (m n : ℕ) (ps : List Process) → At p m ps n → OneOf (process_routine m p) (numbered process_routine n ps)
at_routine _ _ _ _ (at_first p n ps) = inl refl
at_routine _ _ _ _ (at_later p q m n ps x) = inr (at_routine p m (suc n) ps x)

-- what each process gives is there
at_given : (P : Program) (p : Process) (m n : ℕ) (ps : List Process) (vs : List Actor) → At p m ps n → all_actors P n ps ≡ Ok vs → (is : Values) × (identifiers_of P p ≡ Ok is)
at_given P _ _ _ _ vs (at_first p n ps) e = (let (is, more, d, f, q) = all_parts P n p ps vs e in (is, d))
at_given P _ _ _ _ vs (at_later p c m n ps x) e = (let (is, more, d, f, q) = all_parts P n c ps vs e in at_given P p m (suc n) ps more x f)

its_selves : (u : Routine) (is : Values) → AllByRecursion (λ (v : Actor). v.self ≡ Some (id v)) (actors_of u is)
its_selves u no_values = tt
its_selves u (and i is) = (refl, its_selves u is)

all_selves : (P : Program) (n : ℕ) (ps : List Process) (vs : List Actor) → all_actors P n ps ≡ Ok vs → AllByRecursion (λ (v : Actor). v.self ≡ Some (id v)) vs
all_selves P n [] vs e = subst (AllByRecursion (λ (v : Actor). v.self ≡ Some (id v))) (ok_is e) tt
all_selves P n (p ∷ ps) vs e =
    let (is, more, d, f, q) = all_parts P n p ps vs e in
    subst (AllByRecursion (λ (v : Actor). v.self ≡ Some (id v))) (sym q) (every_both (λ (v : Actor). v.self ≡ Some (id v)) (actors_of (process_routine n p) is) more (its_selves (process_routine n p) is) (all_selves P (suc n) ps more f))

module _ (o : Outside) (a : Algorithm) (h : IsAcceptedInFile o a) (title : Word) (r : Region) (values : Valuation) (k : AreConstants (record { title = title; outside = o; region = r }) values) (s : State) (state : IsState (P o a h title r values k) s) where
  abbrev Q : Program
  Q = P o a h title r values k

  abbrev env : Env
  env = E o a h title r values k s

  -- ---- the variables of a routine

  locals_of : (u : Routine) → OneOf u (routines a) → (t : Takers) (spread : Bool) (vs : List Actor)
      → ((d : Declaration) → OneOf d.name.word (declared (locals u)) → StartFine o a u d → Follows (local_allowed Q u spread vs d s) (truth_in plain env (start_by Q u t (written Q u d.name.word) d.start)))
      → Follows (locals_allowed Q u spread vs (locals u) s) (all_hold plain env (locals_start Q (record { takers = t; routine = u })))
  locals_of u mine t spread vs f =
      locals_hold o a h title r values k s state u t spread vs (locals u)
      (all_from _ (locals u) (λ d m. f d (declared_one d (locals u) m) (every_one (StartFine o a u) d (locals u) (all_fine o a h values u mine) m)))

  -- ---- routine by routine

  procedures_hold : (ws : List Actor) (us : List Routine)
      → ((u : Routine) → OneOf u us → Follows (locals_allowed Q u (is_multiprocess a.main) ws (locals u) s) (all_hold plain env (locals_start Q (record { takers = procedure_takers a.main; routine = u }))))
      → Follows (procedures_allowed Q ws us s) (all_hold plain env (flat_map (locals_start Q) (map (λ u. record { takers = procedure_takers a.main; routine = u }) us)))
  procedures_hold ws [] f = λ b e. e
  procedures_hold ws (u ∷ us) f = λ b e. hold_both env (locals_start Q (record { takers = procedure_takers a.main; routine = u })) _ ∙ follows_and _ _ _ _ (f u (inl refl)) (procedures_hold ws us (λ w m. f w (inr m))) b e

  processes_hold : (ws : List Actor) (n : ℕ) (ps : List Process)
      → ((p : Process) (m : ℕ) → At p m ps n → Follows (locals_allowed Q (process_routine m p) p.several (running (process_routine m p) ws) (locals (process_routine m p)) s) (all_hold plain env (locals_start Q (taken_process m p))))
      → Follows (processes_allowed Q ws (numbered process_routine n ps) s) (all_hold plain env (flat_map (locals_start Q) (numbered taken_process n ps)))
  processes_hold ws n [] f = λ b e. e
  processes_hold ws n (p ∷ ps) f = λ b e. hold_both env (locals_start Q (taken_process n p)) _ ∙ follows_and _ _ _ _ (f p n (at_first p n ps)) (processes_hold ws (suc n) ps (λ c m x. f c m (at_later c p m n ps x))) b e

  -- ---- all conjuncts, from their parts

  global_there : (x : Word) → OneOf x (declared a.globals) → is_among (vars Q) x ≡ true
  global_there x m =
      let us = procedure_routines a in
      among_before ((declared a.globals ++ (pc ∷ stack_for us)) ++ written_by_all Q us) (written_by_all Q (main_routines a a.main)) x
      (among_before (declared a.globals ++ (pc ∷ stack_for us)) (written_by_all Q us) x (among_before (declared a.globals) (pc ∷ stack_for us) x (one_is_among (declared a.globals) x m)))

  joined : (ws : List Actor) → actors Q ≡ Ok ws
      → Follows (procedures_allowed Q ws (procedure_routines a) s) (all_hold plain env (flat_map (locals_start Q) (taken_procedures a)))
      → Follows (processes_allowed Q ws (main_routines a a.main) s) (all_hold plain env (flat_map (locals_start Q) (taken_main a a.main)))
      → Follows (Ok (stack_allowed Q (procedure_routines a) ws s)) (all_hold plain env (stack_start a.main (procedure_routines a)))
      → Follows (Ok (pc_allowed Q ws s)) (truth_in plain env (pc_start Q))
      → Follows (allowed Q s) (all_hold plain env (init Q))
  joined ws q f g i j = λ b e.
      hold_both env (globals_start a.globals) _
      ∙ follows_and _ _ _ _ (globals_hold o a h title r values k s state a.globals global_there)
      (λ c x. hold_both env (flat_map (locals_start Q) (taken_procedures a)) _
      ∙ follows_and _ _ _ _ f
      (λ c x. hold_both env (flat_map (locals_start Q) (taken_main a a.main)) _
      ∙ follows_and _ _ _ _ g
      (λ c x. hold_both env (stack_start a.main (procedure_routines a)) _ ∙ follows_and _ _ _ _ i (one_holds _ _ j) c x) c x) c x) b
      ((λ n. sym q n >>= (λ vs.
      and_then (globals_allowed Q a.globals s)
      (and_then (procedures_allowed Q vs (procedure_routines a) s)
      (and_then (processes_allowed Q vs (main_routines a a.main) s)
      (and_then (Ok (stack_allowed Q (procedure_routines a) vs s)) (Ok (pc_allowed Q vs s))))))) ∙ e)

  -- ---- the one body

  module _ (ss : Statements) (main : a.main ≡ alone ss) where
    abbrev one : List Actor
    one = record { self = None; own = alone_routine a ss } ∷ []

    lone_local : (u : Routine) → OneOf u (routines a) → Follows (locals_allowed Q u false one (locals u) s) (all_hold plain env (locals_start Q (record { takers = lone; routine = u })))
    lone_local u mine = locals_of u mine lone false one (lone_is o a h title r values k s state u mine (alone_routine a ss) [] (names_apart o a h values (record { self = None; own = alone_routine a ss }) u (one, ap (actors_in Q) main, inl refl) mine))

    lone_follows : Follows (allowed Q s) (all_hold plain env (init Q))
    lone_follows =
        joined one (ap (actors_in Q) main)
        (procedures_hold one (procedure_routines a) (λ u m. subst (λ (c : Main). Follows (locals_allowed Q u (is_multiprocess c) one (locals u) s) (all_hold plain env (locals_start Q (record { takers = procedure_takers c; routine = u })))) (sym main)
        (lone_local u (one_left u (procedure_routines a) (main_routines a a.main) m))))
        (subst (λ (c : Main). Follows (processes_allowed Q one (main_routines a c) s) (all_hold plain env (flat_map (locals_start Q) (taken_main a c)))) (sym main) (λ b e. e))
        (lone_stack o a h title r values k s state ss main (procedure_routines a) refl)
        (lone_pc o a h title r values k s state ss main)

  -- ---- processes

  module _ (ps : List Process) (main : a.main ≡ processes ps) (ws : List Actor) (acts : actors Q ≡ Ok ws) where
    run : Running o a h title r values k ps ws
    run = running_all o a h title r values k ps ws main acts

    ascending : IsAscending (ids ws)
    ascending = subst (λ zs. IsAscending (ids zs)) (sym run.ordered) (sorted_ascending run.all run.distinct)

    named : (u : Routine) → OneOf u (routines a) → (v : Actor) → OneOf v ws → (v.self ≡ Some (id v)) × NamesApart Q (extra_of a) v u
    named u mine v m = (
      every_one (λ (w : Actor). w.self ≡ Some (id w)) v run.all (all_selves Q (first_process a) ps run.all run.given) (in_sorted v run.all (subst (OneOf v) run.ordered m)),
      names_apart o a h values v u (ws, acts, m) mine,
    )

    procedure_local : (u : Routine) → OneOf u (routines a) → Follows (locals_allowed Q u true ws (locals u) s) (all_hold plain env (locals_start Q (record { takers = each_of process_set; routine = u })))
    procedure_local u mine = locals_of u mine (each_of process_set) true ws (spread_is o a h title r values k s state u mine process_set ws (all_from _ ws (named u mine)) (process_set_gives o a h title r values k s ps ws main run) ascending)

    process_local : (p : Process) (m : ℕ) → At p m ps (first_process a) → Follows (locals_allowed Q (process_routine m p) p.several (running (process_routine m p) ws) (locals (process_routine m p)) s) (all_hold plain env (locals_start Q (taken_process m p)))
    process_local p m x =
        let (is, d) = at_given Q p m (first_process a) ps run.all x run.given in
        by is d (identity_gives o a h title r values k p is d)
      where
        mine : OneOf (process_routine m p) (routines a)
        mine = one_right (process_routine m p) (procedure_routines a) (main_routines a a.main) (subst (λ (c : Main). OneOf (process_routine m p) (main_routines a c)) (sym main) (at_routine p m (first_process a) ps x))

        by : (is : Values) → identifiers_of Q p ≡ Ok is → Gives o a h title r values k p.several p.identity is
            → Follows (locals_allowed Q (process_routine m p) p.several (running (process_routine m p) ws) (locals (process_routine m p)) s) (all_hold plain env (locals_start Q (taken_process m p)))
        by is d g = split p.several g
          where
            -- they are the actors of its identifiers
            those : running (process_routine m p) ws ≡ actors_of (process_routine m p) is
            those =
                ap (running (process_routine m p)) run.ordered
                ∙ running_in_order Q p m (first_process a) ps run.all is x run.given d (identity_canonical o a h title r values k p.several p.identity is g).0 run.distinct (all_owned Q p m (first_process a) ps run.all x run.given)

            split : (b : Bool) → Gives o a h title r values k b p.identity is
                → Follows (locals_allowed Q (process_routine m p) b (running (process_routine m p) ws) (locals (process_routine m p)) s)
                (all_hold plain env (locals_start Q (record { takers = cond b (each_of p.identity) (single p.identity); routine = process_routine m p })))
            split true q =
                locals_of (process_routine m p) mine (each_of p.identity) true (running (process_routine m p) ws)
                (spread_is o a h title r values k s state (process_routine m p) mine p.identity (running (process_routine m p) ws) (all_from _ (running (process_routine m p) ws) (λ v l. named (process_routine m p) mine v (running_one (process_routine m p) v ws l)))
                (value_grows o a h title r values k env (all_grow o a h title r values k s) p.identity (set is) q ∙ ap (λ z. Ok (set z)) (sym (ap ids those ∙ ids_of_actors (process_routine m p) is)))
                (running_ascending (process_routine m p) ws ascending))
            split false (i, z, q) =
                let only : running (process_routine m p) ws ≡ record { self = Some i; own = process_routine m p } ∷ [] = those ∙ ap (actors_of (process_routine m p)) z in
                subst (λ vs. Follows (locals_allowed Q (process_routine m p) false vs (locals (process_routine m p)) s) (all_hold plain env (locals_start Q (record { takers = single p.identity; routine = process_routine m p })))) (sym only)
                (locals_of (process_routine m p) mine (single p.identity) false (record { self = Some i; own = process_routine m p } ∷ [])
                (single_is o a h title r values k s state (process_routine m p) mine p.identity i (process_routine m p) (identity_used o a (rules_of_names a o h.accepted.names).0 a.main ps main p (at_one p m (first_process a) ps x)) q
                (named (process_routine m p) mine (record { self = Some i; own = process_routine m p }) (running_one (process_routine m p) _ ws (subst (OneOf (record { self = Some i; own = process_routine m p })) (sym only) (inl refl)))).1))

    all_follow : Follows (allowed Q s) (all_hold plain env (init Q))
    all_follow =
        joined ws acts
        (procedures_hold ws (procedure_routines a) (λ u m. subst (λ (c : Main). Follows (locals_allowed Q u (is_multiprocess c) ws (locals u) s) (all_hold plain env (locals_start Q (record { takers = procedure_takers c; routine = u })))) (sym main)
        (procedure_local u (one_left u (procedure_routines a) (main_routines a a.main) m))))
        (subst (λ (c : Main). Follows (processes_allowed Q ws (main_routines a c) s) (all_hold plain env (flat_map (locals_start Q) (taken_main a c)))) (sym main) (processes_hold ws (first_process a) ps process_local))
        (all_stack o a h title r values k s state ps main ws run (procedure_routines a) refl)
        (all_pc o a h title r values k s state ps main ws run)

  -- where the walk gives a truth value, Init has it
  pub init_follows : (ws : List Actor) → actors Q ≡ Ok ws → Follows (allowed Q s) (all_hold plain env (init Q))
  init_follows ws acts = by a.main refl
    where
      by : (m : Main) → a.main ≡ m → Follows (allowed Q s) (all_hold plain env (init Q))
      by (alone ss) e = lone_follows ss e
      by (processes ps) e = all_follow ps e ws acts
