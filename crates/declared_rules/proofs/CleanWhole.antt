-- Where no offence of the parts of an algorithm passes a test, none does by the rules themselves.
use Rattle.std.proofs.Common.{◌≡◌, ℕ, suc, List, [], ◌∷◌, ◌++◌, map, Bool, false, refl, ◌∙◌}
use Rattle.std.specs.List.{list_any, flat_map, AllByRecursion}
use Rattle.tla_token.specs.declared.rule.Refusal.{Refusal}
use Rattle.tla_tree.specs.Tree.{Name, Tree}
use Rattle.tla_value.specs.Outside.{Outside}
use Rattle.pcal_tree.specs.Algorithm.{Declaration, Definition, Macro, Procedure, Process, Main, alone, processes, Routine, locals, numbered, procedure_routine, process_routine, procedure_routines, main_routines, routines, first_procedure, first_process, Algorithm}
use Rattle.pcal_tree.specs.BoundNames.{all_of, lists_in, lists_in_body, lists_in_start, lists_in_declared, lists_in_procedure, lists_in_process, lists_in_main, bound_lists}
use Rattle.pcal_tree.specs.Expressions.{StatementAt, statements_in, bodies, all_statements, expressions_of, identities, all_declarations, all_expressions}
use Rattle.pcal_tree.specs.OffencesLabels.{Label, labels, labels_of_main, all_labels}
use Rattle.pcal_tree.specs.OffencesModules.{procedure_needs}
use Rattle.pcal_tree.specs.OffencesNames.{repeated, names_of, repeated_in_main}
use Rattle.pcal_tree.specs.OffencesReserved.{names_of_definition, names_of_macro, names_of_procedure, names_of_process, names_of_main, declared_names}
use Rattle.pcal_tree.specs.Reads.{initial}
use Rattle.pcal_tree.proofs.OneStand.{every_both}
use Rattle.module_outside.specs.declared.modules.Modules.{Modules}
use Rattle.module_outside.specs.ModulesIn.{AreModules}
use Rattle.declared_rules.proofs.EachLaws.{every_map, unmapped, unflattened, each_none}
use Rattle.declared_rules.proofs.CleanBodies.{CleanList, CleanText, CleanStatement, CleanLabel, stacks_same}
use Rattle.declared_rules.proofs.CleanParts.{CleanDeclared, CleanStart, CleanGlobal, CleanDefinition, CleanMacro, CleanProcedure, CleanProcess, CleanMain, CleanAlgorithm}
use Rattle.declared_rules.proofs.CleanNames.{PlainName, to_name, to_list}

module _ (f : Refusal → Bool) (m : Modules) (o : Outside) (h : AreModules m o.extended) where
  abbrev L : List Name → Type 0
  L ns = CleanList f m o.extended h ns

  abbrev X : Tree → Type 0
  X t = CleanText f m o.extended h t

  abbrev S : StatementAt → Type 0
  S st = CleanStatement f m o.extended h st

  abbrev K : Label → Type 0
  K l = CleanLabel f m o.extended h l

  abbrev N : Name → Type 0
  N n = PlainName f m o h n

  abbrev pub CleanInitial : Declaration → Type 0
  CleanInitial d = AllByRecursion X (initial d.start)

  abbrev pub CleanRoutine : Routine → Type 0
  CleanRoutine u = AllByRecursion CleanInitial (locals u) × AllByRecursion S (statements_in u.body)

  abbrev Declared : List Declaration → Type 0
  Declared ds = CleanDeclared f m o.extended h ds

  abbrev OfStart : Declaration → Type 0
  OfStart d = CleanStart f m o.extended h d.start

  -- ---- declarations

  starts_lists : (ds : List Declaration) → Declared ds → AllByRecursion L (lists_in_declared ds)
  starts_lists ds k = unflattened L (λ (d : Declaration). lists_in_start d.start) ds (every_map OfStart (λ (d : Declaration). AllByRecursion L (lists_in_start d.start)) (λ d q. q.0) ds k)

  starts_texts : (ds : List Declaration) → Declared ds → AllByRecursion CleanInitial ds
  starts_texts ds k = every_map OfStart CleanInitial (λ d q. q.1) ds k

  names_plain : (ns : List Name) → L ns → AllByRecursion N ns
  names_plain ns k = (to_list f m o h [] ns k).0

  -- ---- routines

  procedures_run : (n : ℕ) (ps : List Procedure) → AllByRecursion (CleanProcedure f m o.extended h) ps → AllByRecursion CleanRoutine (numbered procedure_routine n ps)
  procedures_run n [] k = tt
  procedures_run n (p ∷ ps) k = (
    (every_both CleanInitial p.params p.variables (starts_texts p.params k.0.1.1.1.0) (starts_texts p.variables k.0.1.1.1.1.0), k.0.1.1.1.1.1.1.0),
    procedures_run (suc n) ps k.1,
  )

  processes_run : (n : ℕ) (ps : List Process) → AllByRecursion (CleanProcess f m o.extended h) ps → AllByRecursion CleanRoutine (numbered process_routine n ps)
  processes_run n [] k = tt
  processes_run n (p ∷ ps) k = ((starts_texts p.variables k.0.1.1.1.0, k.0.1.1.1.1.1.0), processes_run (suc n) ps k.1)

  main_runs : (a : Algorithm) (x : Main) → CleanMain f m o.extended h x → AllByRecursion CleanRoutine (main_routines a x)
  main_runs a (alone b) k = ((tt, k.1.0), tt)
  main_runs a (processes ps) k = processes_run (first_process a) ps k

  procedure_lists : (p : Procedure) → CleanProcedure f m o.extended h p → AllByRecursion L (lists_in_procedure p)
  procedure_lists p k =
      every_both L (lists_in_declared (p.params ++ p.variables)) (lists_in_body p.body) (starts_lists (p.params ++ p.variables) (every_both OfStart p.params p.variables k.1.1.1.0 k.1.1.1.1.0)) k.1.1.1.1.1.0

  process_lists : (p : Process) → CleanProcess f m o.extended h p → AllByRecursion L (lists_in_process p)
  process_lists p k =
      every_both L (lists_in p.identity) (lists_in_declared p.variables ++ lists_in_body p.body) k.1.1.0.0
      (every_both L (lists_in_declared p.variables) (lists_in_body p.body) (starts_lists p.variables k.1.1.1.0) k.1.1.1.1.0)

  main_lists : (x : Main) → CleanMain f m o.extended h x → AllByRecursion L (lists_in_main x)
  main_lists (alone b) k = k.0
  main_lists (processes ps) k = unflattened L lists_in_process ps (every_map (CleanProcess f m o.extended h) (λ (p : Process). AllByRecursion L (lists_in_process p)) process_lists ps k)

  main_plain : (x : Main) → CleanMain f m o.extended h x → AllByRecursion N (names_of_main x)
  main_plain (alone b) k = tt
  main_plain (processes ps) k =
      unflattened N names_of_process ps
      (every_map (CleanProcess f m o.extended h) (λ (p : Process). AllByRecursion N (names_of_process p)) (λ p q. (to_name f m o h p.name q.0, names_plain (names_of p.variables) q.1.0)) ps k)

  pub main_once : (x : Main) → CleanMain f m o.extended h x → list_any f (repeated_in_main x) ≡ false
  main_once (alone b) k = refl
  main_once (processes ps) k =
      each_none f (λ (p : Process). repeated [] (names_of p.variables)) ps
      (every_map (CleanProcess f m o.extended h) (λ (p : Process). list_any f (repeated [] (names_of p.variables)) ≡ false) (λ p q. (to_list f m o h [] (names_of p.variables) q.1.0).1) ps k)

  main_labels : (x : Main) → CleanMain f m o.extended h x → AllByRecursion K (labels_of_main x)
  main_labels (alone b) k = k.1.1
  main_labels (processes ps) k =
      unflattened K (λ (p : Process). labels false p.body) ps (every_map (CleanProcess f m o.extended h) (λ (p : Process). AllByRecursion K (labels false p.body)) (λ p q. q.1.1.1.1.1.1) ps k)

  main_identities : (x : Main) → CleanMain f m o.extended h x → AllByRecursion X (identities x)
  main_identities (alone b) k = tt
  main_identities (processes ps) k = unmapped X (λ (p : Process). p.identity) ps (every_map (CleanProcess f m o.extended h) (λ (p : Process). X p.identity) (λ p q. q.1.1.0.1) ps k)

  -- ---- the algorithm

  module _ (a : Algorithm) (k : CleanAlgorithm f m o.extended h a) where
    pub all_lists : AllByRecursion L (bound_lists a)
    all_lists =
        every_both L (lists_in_declared a.globals) _ (starts_lists a.globals (every_map (CleanGlobal f m o.extended h) OfStart (λ d q. q.1) a.globals k.0))
        (every_both L (flat_map (λ (d : Definition). lists_in d.body) a.definitions) _
        (unflattened L (λ (d : Definition). lists_in d.body) a.definitions (every_map (CleanDefinition f m o.extended h) (λ (d : Definition). AllByRecursion L (lists_in d.body)) (λ d q. q.1.1.0) a.definitions k.1.0))
        (every_both L (flat_map (λ (d : Macro). lists_in_body d.body) a.macros) _
        (unflattened L (λ (d : Macro). lists_in_body d.body) a.macros (every_map (CleanMacro f m o.extended h) (λ (d : Macro). AllByRecursion L (lists_in_body d.body)) (λ d q. q.1.1.0) a.macros k.1.1.0))
        (every_both L (flat_map lists_in_procedure a.procedures) (lists_in_main a.main)
        (unflattened L lists_in_procedure a.procedures (every_map (CleanProcedure f m o.extended h) (λ (p : Procedure). AllByRecursion L (lists_in_procedure p)) procedure_lists a.procedures k.1.1.1.0))
        (main_lists a.main k.1.1.1.1))))

    all_run : AllByRecursion CleanRoutine (routines a)
    all_run = every_both CleanRoutine (procedure_routines a) (main_routines a a.main) (procedures_run (first_procedure a) a.procedures k.1.1.1.0) (main_runs a a.main k.1.1.1.1)

    pub statements_clean : AllByRecursion S (all_statements a)
    statements_clean =
        unflattened S statements_in (bodies a)
        (every_both (λ b. AllByRecursion S (statements_in b)) (map (λ (d : Macro). d.body) a.macros) (map (λ (u : Routine). u.body) (routines a))
        (unmapped (λ b. AllByRecursion S (statements_in b)) (λ (d : Macro). d.body) a.macros
        (every_map (CleanMacro f m o.extended h) (λ (d : Macro). AllByRecursion S (statements_in d.body)) (λ d q. q.1.1.1.0) a.macros k.1.1.0))
        (unmapped (λ b. AllByRecursion S (statements_in b)) (λ (u : Routine). u.body) (routines a)
        (every_map CleanRoutine (λ (u : Routine). AllByRecursion S (statements_in u.body)) (λ u q. q.1) (routines a) all_run)))

    pub all_texts : AllByRecursion X (all_expressions a)
    all_texts =
        every_both X (flat_map (λ (d : Declaration). initial d.start) (all_declarations a)) _
        (unflattened X (λ (d : Declaration). initial d.start) (all_declarations a)
        (every_both CleanInitial a.globals (flat_map locals (routines a)) (every_map (CleanGlobal f m o.extended h) CleanInitial (λ d q. q.1.1) a.globals k.0)
        (unflattened CleanInitial locals (routines a) (every_map CleanRoutine (λ (u : Routine). AllByRecursion CleanInitial (locals u)) (λ u q. q.0) (routines a) all_run))))
        (every_both X (map (λ (d : Definition). d.body) a.definitions) _
        (unmapped X (λ (d : Definition). d.body) a.definitions (every_map (CleanDefinition f m o.extended h) (λ (d : Definition). X d.body) (λ d q. q.1.1.1) a.definitions k.1.0))
        (every_both X (identities a.main) _ (main_identities a.main k.1.1.1.1)
        (unflattened X (λ (st : StatementAt). expressions_of st.statement) (all_statements a) (every_map S (λ (st : StatementAt). AllByRecursion X (expressions_of st.statement)) (λ st q. q.0) (all_statements a) statements_clean))))

    pub all_marked : AllByRecursion K (all_labels a)
    all_marked =
        every_both K (flat_map (λ (d : Macro). labels false d.body) a.macros) _
        (unflattened K (λ (d : Macro). labels false d.body) a.macros (every_map (CleanMacro f m o.extended h) (λ (d : Macro). AllByRecursion K (labels false d.body)) (λ d q. q.1.1.1.1) a.macros k.1.1.0))
        (every_both K (flat_map (λ (p : Procedure). labels false p.body) a.procedures) (labels_of_main a.main)
        (unflattened K (λ (p : Procedure). labels false p.body) a.procedures
        (every_map (CleanProcedure f m o.extended h) (λ (p : Procedure). AllByRecursion K (labels false p.body)) (λ p q. q.1.1.1.1.1.1.1) a.procedures k.1.1.1.0))
        (main_labels a.main k.1.1.1.1))

    pub all_plain : AllByRecursion N (declared_names a)
    all_plain =
        every_both N (names_of a.globals) _ (unmapped N (λ (d : Declaration). d.name) a.globals (every_map (CleanGlobal f m o.extended h) (λ (d : Declaration). N d.name) (λ d q. to_name f m o h d.name q.0) a.globals k.0))
        (every_both N (flat_map names_of_definition a.definitions) _
        (unflattened N names_of_definition a.definitions
        (every_map (CleanDefinition f m o.extended h) (λ (d : Definition). AllByRecursion N (names_of_definition d)) (λ d q. (to_name f m o h d.name q.0, names_plain d.params q.1.0)) a.definitions k.1.0))
        (every_both N (flat_map names_of_macro a.macros) _
        (unflattened N names_of_macro a.macros
        (every_map (CleanMacro f m o.extended h) (λ (d : Macro). AllByRecursion N (names_of_macro d)) (λ d q. (to_name f m o h d.name q.0, names_plain d.params q.1.0)) a.macros k.1.1.0))
        (every_both N (flat_map names_of_procedure a.procedures) _
        (unflattened N names_of_procedure a.procedures
        (every_map (CleanProcedure f m o.extended h) (λ (p : Procedure). AllByRecursion N (names_of_procedure p)) (λ p q. (to_name f m o h p.name q.0, names_plain (names_of (p.params ++ p.variables)) q.1.1.0)) a.procedures k.1.1.1.0))
        (every_both N (names_of_main a.main) (all_of (bound_lists a)) (main_plain a.main k.1.1.1.1)
        (unflattened N (λ (xs : List Name). xs) (bound_lists a) (every_map L (λ (xs : List Name). AllByRecursion N xs) names_plain (bound_lists a) all_lists))))))

    pub all_stacked : AllByRecursion (λ (p : Procedure). list_any f (procedure_needs o.extended p) ≡ false) a.procedures
    all_stacked =
        every_map (CleanProcedure f m o.extended h) (λ (p : Procedure). list_any f (procedure_needs o.extended p) ≡ false) (λ p q. stacks_same f m o.extended h p.name.place ∙ q.1.0) a.procedures k.1.1.1.0
