-- Next of an accepted algorithm's region is true exactly of its steps, and of the end that stutters, from sound states.
use Rattle.std.proofs.Common.{◌≡◌, List, [], ◌∷◌, ◌++◌, Bool, Some, None, inl, inr, refl, sym, ap, ◌∙◌, subst, Ok}
use Rattle.tla_tree.specs.Tree.{Word, Tree}
use Rattle.tla_value.specs.Value.{Values, TrueExactly}
use Rattle.tla_value.specs.Outside.{Outside}
use Rattle.tla_value.specs.Stops.{plain}
use Rattle.tla_value.specs.Meaning.{Env}
use Rattle.tla_value.specs.Definitions.{Valuation, scope_of}
use Rattle.tla_value.proofs.Outcomes.{ok_is}
use Rattle.module_tree.specs.Formulas.{self, process_set}
use Rattle.module_tree.specs.Module.{Module}
use Rattle.module_tree.specs.ModuleTruth.{next_holds}
use Rattle.module_tree.specs.ActionTruth.{some_way_holds}
use Rattle.pcal_tree.specs.Algorithm.{Statements, Process, Main, alone, processes, Routine, alone_routine, procedure_routines, Algorithm}
use Rattle.pcal_tree.specs.Faults.{Sound}
use Rattle.pcal_tree.specs.InitialStates.{running}
use Rattle.pcal_tree.specs.OffencesLabels.{label_words}
use Rattle.pcal_tree.specs.Processes.{OneOf, identifier, actors_of, actors_in, actors, IsActor}
use Rattle.pcal_tree.specs.Program.{Program, Actor}
use Rattle.pcal_tree.specs.Programs.{program_in}
use Rattle.pcal_tree.specs.Scope.{State}
use Rattle.pcal_tree.specs.StepStart.{at_label}
use Rattle.pcal_tree.specs.Takers.{Takers, each_of, single, lone, Taken, taken_main}
use Rattle.pcal_tree.specs.Variables.{vars}
use Rattle.pcal_tree.proofs.ProcessesInOrder.{id}
use Rattle.action_builder.specs.LabelActions.{items_from}
use Rattle.action_builder.specs.SingleProcess.{in_place_of}
use Rattle.action_builder.specs.WrittenNames.{with_names}
use Rattle.action_builder.specs.laws.Grafts.{ClearItems}
use Rattle.action_builder.specs.laws.Ready.{Readable, values_of}
use Rattle.action_builder.specs.laws.WrittenScope.{definitions_of}
use Rattle.promise.specs.ConstantsAndStates.{AreConstants, IsState}
use Rattle.promise.specs.NextAndInit.{Moves}
use Rattle.translation.specs.Region.{region_of}
use Rattle.translation.specs.laws.AcceptedAlgorithm.{IsAcceptedInFile}
use Rattle.translation.specs.laws.AcceptedLaws.{extra_of, PreparedLaw, ReadyLaw, NextOfRegionLaw}
use Rattle.translation.proofs.NamesApart.{self_some, self_none}
use Rattle.translation.proofs.NextHolds.{ways_of, AllTrue, next_true}
use Rattle.translation.proofs.NextLabels.{ReadyHere, pc_read, named_true, lone_true, single_true}
use Rattle.translation.proofs.NextParts.{acts, reads, taken_by, procedure_found, ends_found, body_found, process_found}
use Rattle.translation.proofs.NextScopes.{names_sound, names_by_value, Identified, taken_there, set_there, own_is}
use Rattle.translation.proofs.NextSteps.{running_one}
use Rattle.translation.proofs.NextTitles.{unmapped}
use Rattle.translation.proofs.NextTrue.{procedures_taken, RoutineTrue}

pub one_only : (w v : Actor) → OneOf v (w ∷ []) → v ≡ w
one_only w v (inl e) = e
one_only w v (inr k) = absurd k

-- what is written for a single process captures nothing where its expression stands for self
abbrev pub SingleClearLaw : Type 0
SingleClearLaw = (o : Outside) (g : Algorithm) → IsAcceptedInFile o g → (values : Valuation) (r : Taken) → OneOf r (taken_main g g.main) → (e : Tree) → r.takers ≡ single e → (l : Word) → OneOf l (label_words r.routine.body)
    → ClearItems plain (in_place_of self e) (items_from (program_in plain o g values) r.routine l (at_label r.routine l))

-- there is a single process
pub record HasSingle (g : Algorithm) : Type 0 where
  pub taken : Taken
  pub expression : Tree
  pub among : OneOf taken (taken_main g g.main)
  pub is : taken.takers ≡ single expression

module _ (U : Readable) (prepared : PreparedLaw IsAcceptedInFile) (clear : SingleClearLaw) where
  module _ (b : Bool) (title : Word) (o : Outside) (g : Algorithm) (h : IsAcceptedInFile o g) (values : Valuation) (s t : State) (ready : ReadyHere U o g values) where
    abbrev first : Module
    first = record { title = title; outside = o; region = region_of b (with_names o g) }

    abbrev P : Program
    P = program_in plain o g values

    abbrev S : Valuation
    S = values_of (vars P) s

    abbrev T : Valuation
    T = values_of (vars P) t

    abbrev X : Env
    X = scope_of plain values (definitions_of P ++ extra_of g) S T

    module _ (k : AreConstants first values) (is_canonical : IsState P s) (it : HasSingle g → IsState P t) (sound : Sound P s) where
      -- ---- a procedure, and the processes

      module _ (vs : List Actor) (all : actors P ≡ Ok vs) where
        actor : (v : Actor) → OneOf v vs → IsActor P v
        actor v m = (vs, all, m)

        abbrev True : Main → Taken → List Actor → Type 0
        True m r ws = RoutineTrue P s t S T X (acts b o g h values s t m) r ws

        each_procedure : (m : Main) → ((u : Routine) → OneOf u (procedure_routines g) → True m (taken_by b o g h values s t m u) vs) → (r : Taken) → OneOf r (procedures_taken P m) → True m r vs
        each_procedure m f r n = (let (u, i, q) = unmapped (taken_by b o g h values s t m) r (procedure_routines g) n in subst (λ z. True m z vs) (sym q) (f u i))

        -- ---- one body

        module _ (ss : Statements) (e : g.main ≡ alone ss) where
          abbrev body : Actor
          body = record { self = None; own = alone_routine g ss }

          only : vs ≡ body ∷ []
          only = ok_is (sym all ∙ ap (actors_in P) e)

          here : OneOf body vs
          here = subst (OneOf body) (sym only) (inl refl)

          lone_procedure : (u : Routine) → OneOf u (procedure_routines g) → True (alone ss) (taken_by b o g h values s t (alone ss) u) vs
          lone_procedure u n = record {
            taken = (body, only);
            found = procedure_found b o g h values s t (alone ss) e u n;
            labels = λ v m. lone_true U prepared o g h values ready k.unset s t sound v (self_none P v ss e (actor v m)) (actor v m) u (inr n);
          }

          alone_true : AllTrue P s t X (reads b o g h values s t) (acts b o g h values s t (alone ss)) vs (alone ss) e all b
          alone_true = record {
            procedures = each_procedure (alone ss) lone_procedure;
            main = (body, only, body_found b o g h values s t ss e, lone_true U prepared o g h values ready k.unset s t sound body refl (actor body here) (alone_routine g ss) (inl refl));
            there = (body, only, refl);
            ends = ends_found b o g h values s t (alone ss) e;
          }

        -- ---- processes

        module _ (ps : List Process) (e : g.main ≡ processes ps) where
          self_is : (v : Actor) → OneOf v vs → v.self ≡ Some (id v)
          self_is v m = (let (w, q) = self_some P v ps e (actor v m) in q ∙ ap (λ z. Some z) (sym (ap identifier q)))

          set_procedure : (u : Routine) → OneOf u (procedure_routines g) → True (processes ps) (taken_by b o g h values s t (processes ps) u) vs
          set_procedure u n = record {
            taken = set_there o g h title first.region values k s t ps vs e all;
            found = procedure_found b o g h values s t (processes ps) e u n;
            labels = λ v m. named_true U prepared o g h values ready k.unset s t sound v (self_is v m) (actor v m) u (inr n) process_set;
          }

          in_main : (u : Routine) (f : Tree) → OneOf (record { takers = single f; routine = u }) (taken_main g (processes ps)) → OneOf (record { takers = single f; routine = u }) (taken_main g g.main)
          in_main u f n = subst (λ z. OneOf (record { takers = single f; routine = u }) (taken_main g z)) (sym e) n

          -- by who takes it
          process_true : (c : Takers) (u : Routine) → OneOf (record { takers = c; routine = u }) (taken_main g (processes ps)) → (is : Values) → running u vs ≡ actors_of u is
              → Identified o g h title first.region values k s t c (running u vs) → True (processes ps) (record { takers = c; routine = u }) (running u vs)
          process_true (each_of f) u n is order i = record {
            taken = i;
            found = process_found b o g h values s t ps e (record { takers = each_of f; routine = u }) n;
            labels = λ v m.
                named_true U prepared o g h values ready k.unset s t sound v (self_is v (running_one u v vs m)) (actor v (running_one u v vs m)) u
                (inl (sym (own_is u v is (subst (OneOf v) order m)))) f;
          }
          process_true (single f) u n is order (w, only, q) = record {
            taken = (w, only);
            found = process_found b o g h values s t ps e (record { takers = single f; routine = u }) n;
            labels = λ v m.
                single_true U prepared o g h values ready k.unset s t sound (names_sound o g h title first.region values k s t is_canonical (it (record { taken = record { takers = single f; routine = u }; expression = f; among = in_main u f n; is = refl }))) (names_by_value o g h title first.region values k s t) v (self_is v (running_one u v vs m))
                (actor v (running_one u v vs m)) u (inl (sym (own_is u v is (subst (OneOf v) order m)))) f (q ∙ ap (λ (z : Actor). Ok (id z)) (sym (one_only w v (subst (OneOf v) only m))))
                (clear o g h values (record { takers = single f; routine = u }) (in_main u f n) f refl);
          }
          process_true lone u n is order i = absurd i

          each_process : (r : Taken) → OneOf r (taken_main g (processes ps)) → True (processes ps) r (running r.routine vs)
          each_process r n =
              let h2 = taken_there o g h title first.region values k s t ps vs e all r n in
              process_true r.takers r.routine n h2.members h2.ordered h2.identified

          processes_true : AllTrue P s t X (reads b o g h values s t) (acts b o g h values s t (processes ps)) vs (processes ps) e all b
          processes_true = record {
            procedures = each_procedure (processes ps) set_procedure;
            main = each_process;
            there = ((λ v m. (self_is v m, pc_read U prepared o g h values ready k.unset s t sound v (actor v m))), set_there o g h title first.region values k s t ps vs e all);
            ends = ends_found b o g h values s t (processes ps) e;
          }

        by_main : (m : Main) → g.main ≡ m → TrueExactly (some_way_holds plain X (acts b o g h values s t m) (ways_of b P m)) (Moves b P s t)
        by_main (alone ss) e = next_true P s t X (reads b o g h values s t) (acts b o g h values s t (alone ss)) vs (alone ss) e all b (alone_true ss e)
        by_main (processes ps) e = next_true P s t X (reads b o g h values s t) (acts b o g h values s t (processes ps)) vs (processes ps) e all b (processes_true ps e)

      pub next_is : TrueExactly (next_holds plain first values S T) (Moves b P s t)
      next_is = by_main sound.0.0 sound.0.1 g.main refl

-- Next of the region is as the promise asks, of accepted algorithms for whose steps items can be written
pub next_of_region : (A : Outside → Algorithm → Type 0) → ((o : Outside) (g : Algorithm) → A o g → IsAcceptedInFile o g) → (U : Algorithm → Readable) → PreparedLaw IsAcceptedInFile → ReadyLaw A U → SingleClearLaw → NextOfRegionLaw A
next_of_region A inside U prepared ready clear b title o g a values s t k is it sound = next_is (U g) prepared clear b title o g (inside o g a) values s t (ready o g a values) k is (λ c. it) sound
