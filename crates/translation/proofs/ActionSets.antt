-- In the module of an accepted algorithm ProcSet has just the identifiers of the processes, and the test of Termination is true of a sound state exactly where all are done.
use Rattle.std.proofs.Common.{◌≡◌, List, ◌++◌, map, Bool, true, false, cond, bytes_eq, codes, Option, Some, None, inl, refl, sym, ap, ◌∙◌, subst, Ok, Err}
use Rattle.std.proofs.lemmas.Slice.Eq.{bytes_eq-Decides}
use Rattle.tla_token.specs.declared.place.Place.{Place}
use Rattle.tla_token.specs.Places.{nowhere}
use Rattle.tla_token.specs.Words.{is_own}
use Rattle.tla_tree.specs.Tree.{Word, words, Tree}
use Rattle.tla_value.specs.Value.{Value, set, text, Outcome, TrueExactly}
use Rattle.tla_value.specs.Order.{holds, set_from}
use Rattle.tla_value.specs.Outside.{Outside, ReadDefinition, found}
use Rattle.tla_value.specs.Stops.{plain}
use Rattle.tla_value.specs.Meaning.{Env, just, eval}
use Rattle.tla_value.specs.Definitions.{Valuation, no_state, or_sense, base, in_states, scope_of}
use Rattle.tla_value.specs.laws.Untitled.{Untitled}
use Rattle.tla_value.proofs.JoinedScopes.{Envs}
use Rattle.tla_value.proofs.OrderSets.{holds_set_from, set_from_ascending, same_members}
use Rattle.tla_value.proofs.Outcomes.{ok_is}
use Rattle.tla_value.proofs.Untitled.{looked_through}
use Rattle.module_tree.specs.ActionTruth.{value_in, truth_in}
use Rattle.module_tree.specs.Module.{Module}
use Rattle.module_tree.specs.ModuleTruth.{scope}
use Rattle.module_tree.proofs.Tells.{tells_as}
use Rattle.pcal_tree.specs.Algorithm.{Main, alone, processes, first_process, alone_routine, Algorithm}
use Rattle.pcal_tree.specs.Faults.{Sound}
use Rattle.pcal_tree.specs.Processes.{OneOf, identifier, identifiers, actors_in, sorted, actors, IsActor}
use Rattle.pcal_tree.specs.Program.{Program, Actor, inner}
use Rattle.pcal_tree.specs.Programs.{program_in}
use Rattle.pcal_tree.specs.Scope.{State}
use Rattle.pcal_tree.specs.Step.{pc_of}
use Rattle.pcal_tree.specs.Variables.{pc, on_variables}
use Rattle.pcal_tree.proofs.ProcessesInOrder.{id, ids, Distinct, sorted_ascending}
use Rattle.action_builder.specs.ProcessSets.{process_set_of}
use Rattle.action_builder.specs.WrittenNames.{with_names}
use Rattle.action_builder.specs.laws.WrittenScope.{definitions_of}
use Rattle.promise.specs.ConstantsAndStates.{AreConstants}
use Rattle.translation.specs.Region.{region_of}
use Rattle.translation.specs.laws.AcceptedAlgorithm.{IsAcceptedInFile}
use Rattle.translation.specs.laws.AcceptedLaws.{extra_of}
use Rattle.translation.proofs.FramesAccepted.{pc_among}
use Rattle.translation.proofs.InitScopes.{grows, NoValue, scope_grows, scope_lacks, with_both, set_grows, Lacks}
use Rattle.translation.proofs.InitSets.{G, running_all, process_set_gives, union_is}
use Rattle.translation.proofs.NamesApart.{self_some, free, own_differs, extra_untitled_by, untitled_mapped, untitled_joined}
use Rattle.translation.proofs.NamesOfRules.{Unreserved, not_own, turned}
use Rattle.translation.proofs.NextEnds.{PcRead, AllDone, AllThere, all_done_true}
use Rattle.translation.proofs.VariableNames.{each_to, none_among}

module _ (b : Bool) (title : Word) (o : Outside) (g : Algorithm) (h : IsAcceptedInFile o g) (values : Valuation) where
  abbrev first : Module
  first = record { title = title; outside = o; region = region_of b (with_names o g) }

  abbrev P : Program
  P = program_in plain o g values

  module _ (k : AreConstants first values) where
    -- ---- a name of the translation

    pub own_untitled : (x : Word) → is_own x ≡ true → Untitled x (definitions_of P)
    own_untitled x e =
        untitled_joined x (found o.definitions) (map inner g.definitions)
        (untitled_mapped x (λ (d : ReadDefinition). d.definition) o.definitions (λ d m. turned x d.definition.title (own_differs x d.definition.title e (not_own o d.definition.title ((free o g h).read d m)))))
        (untitled_mapped x inner g.definitions (λ d m. turned x d.name.word (own_differs x d.name.word e (not_own o d.name.word ((free o g h).definitions d m)))))

    set_no_value : NoValue values (codes "ProcSet")
    set_no_value = (
      k.no_other (codes "ProcSet") (none_among (words o.constants) (codes "ProcSet") (each_to (Unreserved o) (λ y. bytes_eq y (codes "ProcSet") ≡ false) (λ y u. turned (codes "ProcSet") y (own_differs (codes "ProcSet") y refl (not_own o y u))) (words o.constants) (free o g h).constants)),
      refl,
      refl,
    )

    set_lacks : (y : Word) (at : Place) → bytes_eq (codes "ProcSet") y ≡ true → Lacks ((G o g h title first.region values k).now y at)
    set_lacks y at q =
        subst (λ z. Lacks ((scope_of plain values (definitions_of P) no_state no_state).now z at)) ((bytes_eq-Decides (codes "ProcSet") y).0 q)
        (scope_lacks values (definitions_of P) no_state (codes "ProcSet") at (own_untitled (codes "ProcSet") refl) refl set_no_value)

    -- ---- ProcSet, without states

    -- the module's scope without states has what identifiers are looked at in
    none_grow : Envs grows (G o g h title first.region values k) (scope plain first values no_state no_state)
    none_grow =
        subst (Envs grows (G o g h title first.region values k)) (sym (with_both (definitions_of P) (extra_of g) (in_states no_state no_state (base plain values))))
        (set_grows (process_set_of g.main) (G o g h title first.region values k) (scope_of plain values (definitions_of P) no_state no_state) set_lacks (scope_grows values (definitions_of P) no_state no_state (λ x. inl refl)))

    -- processes in order are in the order of a set
    ordered_set : (all vs : List Actor) → Distinct all → vs ≡ sorted all → ids vs ≡ set_from (identifiers vs)
    ordered_set all vs d q =
        ap ids q
        ∙ sym (same_members (set_from (identifiers vs)) (ids (sorted all)) (set_from_ascending (identifiers vs)) (sorted_ascending all d) (λ x. holds_set_from x (identifiers vs) ∙ ap (λ zs. holds x (ids zs)) q))

    -- its body has just the identifiers
    pub process_set_value : (vs : List Actor) → actors P ≡ Ok vs → (e : Tree) → first.region.process_set ≡ Some e → value_in plain (scope plain first values no_state no_state) e ≡ Ok (set (set_from (identifiers vs)))
    process_set_value vs all e q = by g.main refl q
      where
        by : (m : Main) → g.main ≡ m → process_set_of m ≡ Some e → value_in plain (scope plain first values no_state no_state) e ≡ Ok (set (set_from (identifiers vs)))
        by (alone ss) i n = cc
        by (processes ps) i n =
            let r = running_all o g h title first.region values k ps vs i all in
            ap (λ (z : Option Tree). elim z [ Some y ↦ (eval plain y (scope plain first values no_state no_state)).value | None ↦ Ok (set (ids vs)) ]) (sym n)
            ∙ union_is o g h title first.region values k (scope plain first values no_state no_state) none_grow (first_process g) ps r.all r.given r.distinct
            ∙ ap (λ zs. Ok (set (ids zs))) (sym r.ordered)
            ∙ ap (λ z. Ok (set z)) (ordered_set r.all vs r.distinct r.ordered)

    -- ---- Termination

    module _ (s : State) (sound : Sound P s) where
      abbrev X : Env
      X = scope plain first values (on_variables P s) no_state

      pc_read : (v : Actor) → IsActor P v → PcRead s v
      pc_read v a = by (pc_of v s) refl
        where
          by : (r : Outcome Value) → pc_of v s ≡ r → PcRead s v
          by (Ok w) e = record { value = w; read = e }
          by (Err q) e = absurd (sound.1 v q a (inl e))

      reads : X.now pc nowhere ≡ just (s pc)
      reads =
          looked_through plain (definitions_of P ++ extra_of g) _ pc nowhere (untitled_joined pc (definitions_of P) (extra_of g) (own_untitled pc refl) (extra_untitled_by pc g.main refl))
          ∙ ap (λ c. or_sense (cond c (Some (s pc)) None) ((base plain values).now pc nowhere)) (pc_among o g h values)

      there : (vs : List Actor) → actors P ≡ Ok vs → (m : Main) → g.main ≡ m → AllThere s X reads vs m
      there vs all (alone ss) e = (record { self = None; own = alone_routine g ss }, ok_is (sym all ∙ ap (actors_in P) e), refl)
      there vs all (processes ps) e = (
        λ v m. (self_is v m, pc_read v (vs, all, m)),
        process_set_gives o g h title first.region values k s ps vs e (running_all o g h title first.region values k ps vs e all),
      )
        where
          self_is : (v : Actor) → OneOf v vs → v.self ≡ Some (id v)
          self_is v m = (let (w, q) = self_some P v ps e (vs, all, m) in q ∙ ap (λ z. Some z) (sym (ap identifier q)))

      -- all are done
      pub termination_true : TrueExactly (truth_in plain X first.region.termination) ((v : Actor) → IsActor P v → pc_of v s ≡ Ok (text (codes "Done")))
      termination_true =
          let (vs, all) = sound.0 in
          tells_as _ (AllDone s vs) _ (all_done_true s X reads vs g.main (there vs all g.main refl)) (λ f v a. f v (subst (OneOf v) (ok_is (sym a.1 ∙ all)) a.2)) (λ f v m. f v (vs, all, m))
