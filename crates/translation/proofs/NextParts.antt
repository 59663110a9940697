-- The actions of Next of an accepted algorithm's region: each is found under its name; and pc is read in their scope.
use Rattle.std.proofs.Common.{◌≡◌, List, ◌++◌, map, Bool, false, cond, Some, None, inl, refl, sym, ap, ◌∙◌, subst}
use Rattle.std.specs.List.{flat_map}
use Rattle.tla_token.specs.Places.{nowhere}
use Rattle.tla_value.specs.Outside.{Outside, ReadDefinition, found}
use Rattle.tla_value.specs.Stops.{plain}
use Rattle.tla_value.specs.Meaning.{Env, just}
use Rattle.tla_value.specs.Definitions.{Valuation, or_sense, base, scope_of}
use Rattle.tla_value.specs.laws.Untitled.{Untitled}
use Rattle.tla_value.proofs.Untitled.{looked_through}
use Rattle.module_tree.specs.ModuleTruth.{terminating}
use Rattle.module_tree.specs.ActionTruth.{Acts, acts_of, no_acts}
use Rattle.pcal_tree.specs.Algorithm.{Statements, Process, Main, alone, processes, Routine, alone_routine, procedure_routines, Algorithm}
use Rattle.pcal_tree.specs.Processes.{OneOf}
use Rattle.pcal_tree.specs.Program.{Program, inner}
use Rattle.pcal_tree.specs.Programs.{program_in}
use Rattle.pcal_tree.specs.Scope.{State}
use Rattle.pcal_tree.specs.Takers.{lone, Taken, taken_main}
use Rattle.pcal_tree.specs.Variables.{pc, vars}
use Rattle.pcal_tree.proofs.TroubleLaws.{one_right}
use Rattle.action_builder.specs.LabelActions.{label_actions, routine_actions, taken_procedures, procedure_takers, main_actions}
use Rattle.action_builder.specs.NextFormula.{ended}
use Rattle.action_builder.specs.laws.Ready.{values_of}
use Rattle.action_builder.specs.laws.WrittenScope.{definitions_of}
use Rattle.translation.specs.laws.AcceptedAlgorithm.{IsAcceptedInFile}
use Rattle.translation.specs.laws.AcceptedLaws.{extra_of}
use Rattle.translation.proofs.FramesAccepted.{pc_among}
use Rattle.translation.proofs.NamesApart.{free, own_differs, extra_untitled_by, untitled_mapped, untitled_joined}
use Rattle.translation.proofs.NamesOfRules.{not_own, turned}
use Rattle.translation.proofs.NextEnds.{terminating_action}
use Rattle.translation.proofs.NextFound.{Finds, FindsLabels, FindsOwn, within_flat, within_first, within_last, one_mapped, one_found, labels_found, own_found}
use Rattle.translation.proofs.NextTitles.{all_actions, titles_once}
use Rattle.translation.proofs.NextTrue.{procedures_taken}

module _ (b : Bool) (o : Outside) (g : Algorithm) (h : IsAcceptedInFile o g) (values : Valuation) (s t : State) where
  abbrev P : Program
  P = program_in plain o g values

  abbrev S : Valuation
  S = values_of (vars P) s

  abbrev T : Valuation
  T = values_of (vars P) t

  abbrev pub X : Env
  X = scope_of plain values (definitions_of P ++ extra_of g) S T

  pc_untitled : Untitled pc (definitions_of P ++ extra_of g)
  pc_untitled =
      untitled_joined pc (definitions_of P) (extra_of g)
      (untitled_joined pc (found o.definitions) (map inner g.definitions)
      (untitled_mapped pc (λ (d : ReadDefinition). d.definition) o.definitions (λ d m. turned pc d.definition.title (own_differs pc d.definition.title refl (not_own o d.definition.title ((free o g h).read d m)))))
      (untitled_mapped pc inner g.definitions (λ d m. turned pc d.name.word (own_differs pc d.name.word refl (not_own o d.name.word ((free o g h).definitions d m))))))
      (extra_untitled_by pc g.main refl)

  pub reads : X.now pc nowhere ≡ just (s pc)
  reads =
      looked_through plain (definitions_of P ++ extra_of g) _ pc nowhere pc_untitled
      ∙ ap (λ c. or_sense (cond c (Some (s pc)) None) ((base plain values).now pc nowhere)) (pc_among o g h values)

  abbrev pub acts : Main → Acts
  acts m = acts_of plain S T X (all_actions o g h values m (ended b m)) no_acts

  -- ---- what is found

  procedures_found : (m : Main) → g.main ≡ m → (r : Taken) → OneOf r (procedures_taken P m) → FindsOwn S T X P (acts m) r
  procedures_found m e r n =
      own_found S T X P (all_actions o g h values m (ended b m)) no_acts r
      (within_first (routine_actions P) r _ (terminating (vars P) (ended b m)) (within_first (routine_actions P) r _ (main_actions P m)
      (within_flat (routine_actions P) r (taken_procedures g) (subst (λ n. OneOf r (procedures_taken P n)) (sym e) n))))
      (titles_once o g h values m e (ended b m))

  pub ends_found : (m : Main) → g.main ≡ m → b ≡ false → Finds S T X (acts m) (terminating_action P m)
  ends_found m e q =
      one_found S T X (all_actions o g h values m (ended b m)) no_acts (terminating_action P m)
      (one_right (terminating_action P m) (flat_map (routine_actions P) (taken_procedures g) ++ main_actions P m) (terminating (vars P) (ended b m))
      (subst (λ c. OneOf (terminating_action P m) (terminating (vars P) (ended c m))) (sym q) (inl refl)))
      (titles_once o g h values m e (ended b m))

  abbrev pub taken_by : Main → Routine → Taken
  taken_by m u = record { takers = procedure_takers m; routine = u }

  pub procedure_found : (m : Main) → g.main ≡ m → (u : Routine) → OneOf u (procedure_routines g) → FindsOwn S T X P (acts m) (taken_by m u)
  procedure_found m e u n = procedures_found m e (taken_by m u) (one_mapped (taken_by m) u (procedure_routines g) n)

  pub body_found : (ss : Statements) → g.main ≡ alone ss → FindsLabels S T X P (acts (alone ss)) (record { takers = lone; routine = alone_routine g ss })
  body_found ss e =
      labels_found S T X P (all_actions o g h values (alone ss) (ended b (alone ss))) no_acts (record { takers = lone; routine = alone_routine g ss })
      (within_first (label_actions P) _ _ (terminating (vars P) (ended b (alone ss))) (within_last (label_actions P) _ (flat_map (routine_actions P) (taken_procedures g)) (main_actions P (alone ss))
      (within_flat (label_actions P) (record { takers = lone; routine = alone_routine g ss }) (taken_main g (alone ss)) (inl refl))))
      (titles_once o g h values (alone ss) e (ended b (alone ss)))

  pub process_found : (ps : List Process) → g.main ≡ processes ps → (r : Taken) → OneOf r (taken_main g (processes ps)) → FindsOwn S T X P (acts (processes ps)) r
  process_found ps e r n =
      own_found S T X P (all_actions o g h values (processes ps) (ended b (processes ps))) no_acts r
      (within_first (routine_actions P) r _ (terminating (vars P) (ended b (processes ps))) (within_last (routine_actions P) r (flat_map (routine_actions P) (taken_procedures g)) (main_actions P (processes ps))
      (within_flat (routine_actions P) r (taken_main g (processes ps)) n)))
      (titles_once o g h values (processes ps) e (ended b (processes ps)))
