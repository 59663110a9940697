-- Where no offence passes a test by the rules themselves, none does in the parts of an algorithm.
use Rattle.std.proofs.Common.{◌≡◌, ℕ, suc, List, [], ◌∷◌, ◌++◌, map, Bool, false, sym, ◌∙◌}
use Rattle.std.specs.List.{list_any, flat_map, AllByRecursion}
use Rattle.tla_token.specs.declared.rule.Refusal.{Refusal}
use Rattle.tla_tree.specs.Tree.{Name, Tree}
use Rattle.tla_value.specs.Outside.{Outside}
use Rattle.pcal_tree.specs.Algorithm.{Statements, Declaration, Definition, Macro, Procedure, Process, Main, alone, processes, Routine, locals, numbered, procedure_routine, process_routine, procedure_routines, main_routines, routines, first_procedure, first_process, Algorithm}
use Rattle.pcal_tree.specs.BoundNames.{all_of, lists_in, lists_in_body, lists_in_start, lists_in_declared, lists_in_procedure, lists_in_process, lists_in_main, bound_lists}
use Rattle.pcal_tree.specs.Expressions.{StatementAt, statements_in, bodies, all_statements, expressions_of, identities, all_declarations, all_expressions}
use Rattle.pcal_tree.specs.OffencesLabels.{Label, labels, labels_of_main, all_labels}
use Rattle.pcal_tree.specs.OffencesModules.{statement_needs, procedure_needs}
use Rattle.pcal_tree.specs.OffencesNames.{repeated, names_of, repeated_in_main}
use Rattle.pcal_tree.specs.OffencesReserved.{names_of_definition, names_of_macro, names_of_procedure, names_of_process, names_of_main, declared_names}
use Rattle.pcal_tree.specs.Reads.{initial}
use Rattle.module_outside.specs.declared.modules.Modules.{Modules}
use Rattle.module_outside.specs.ModulesIn.{AreModules}
use Rattle.declared_rules.proofs.EachLaws.{every_split, every_map, every_pair, mapped, flattened, none_each}
use Rattle.declared_rules.proofs.CleanBodies.{CleanList, CleanText, CleanStatement, CleanLabel, stacks_same}
use Rattle.declared_rules.proofs.CleanParts.{CleanDeclared, CleanGlobal, CleanDefinition, CleanMacro, CleanProcedure, CleanProcess, CleanMain, CleanAlgorithm}
use Rattle.declared_rules.proofs.CleanNames.{PlainName, OnceEach, of_name, of_list}
use Rattle.declared_rules.proofs.CleanWhole.{CleanInitial, CleanRoutine}

module _ (f : Refusal → Bool) (m : Modules) (o : Outside) (h : AreModules m o.extended) where
  abbrev L : List Name → Type 0
  L ns = CleanList f m o.extended h ns

  abbrev X : Tree → Type 0
  X t = CleanText f m o.extended h t

  abbrev S : StatementAt → Type 0
  S st = CleanStatement f m o.extended h st

  abbrev K : Label → Type 0
  K l = CleanLabel f m o.extended h l

  abbrev N : Name → Type 0
  N n = PlainName f m o h n

  abbrev Once : List Name → Type 0
  Once ns = OnceEach f m o h ns

  abbrev I : Declaration → Type 0
  I d = CleanInitial f m o h d

  abbrev Run : Routine → Type 0
  Run u = CleanRoutine f m o h u

  abbrev Statements_clean : Statements → Type 0
  Statements_clean b = AllByRecursion S (statements_in b)

  -- ---- declarations and routines

  starts_clean : (ds : List Declaration) → AllByRecursion L (lists_in_declared ds) → AllByRecursion I ds → CleanDeclared f m o.extended h ds
  starts_clean ds l k = every_pair (λ (d : Declaration). AllByRecursion L (lists_in_start d.start)) I ds (flattened L (λ (d : Declaration). lists_in_start d.start) ds l) k

  procedures_ran : (n : ℕ) (ps : List Procedure) → AllByRecursion Run (numbered procedure_routine n ps) → AllByRecursion (λ (p : Procedure). AllByRecursion I (p.params ++ p.variables) × Statements_clean p.body) ps
  procedures_ran n [] k = tt
  procedures_ran n (p ∷ ps) k = (k.0, procedures_ran (suc n) ps k.1)

  processes_ran : (n : ℕ) (ps : List Process) → AllByRecursion Run (numbered process_routine n ps) → AllByRecursion (λ (p : Process). AllByRecursion I p.variables × Statements_clean p.body) ps
  processes_ran n [] k = tt
  processes_ran n (p ∷ ps) k = (k.0, processes_ran (suc n) ps k.1)

  -- its names, which are declared once, its lists, its labels, and what runs
  procedure_clean : (p : Procedure) → ((((AllByRecursion N (names_of_procedure p) × Once (names_of (p.params ++ p.variables))) × AllByRecursion L (lists_in_procedure p)) × AllByRecursion K (labels false p.body)) × (list_any f (procedure_needs o.extended p) ≡ false))
      × (AllByRecursion I (p.params ++ p.variables) × Statements_clean p.body) → CleanProcedure f m o.extended h p
  procedure_clean p k =
      let q = every_split L (lists_in_declared (p.params ++ p.variables)) (lists_in_body p.body) k.0.0.0.1 in
      let r = every_split (λ (d : Declaration). AllByRecursion L (lists_in_start d.start) × I d) p.params p.variables (starts_clean (p.params ++ p.variables) q.0 k.1.0) in
      (of_name f m o h p.name k.0.0.0.0.0.0, (sym (stacks_same f m o.extended h p.name.place) ∙ k.0.1, (of_list f m o h [] (names_of (p.params ++ p.variables)) k.0.0.0.0.0.1 k.0.0.0.0.1, (r.0, (r.1, (q.1, (k.1.1, k.0.0.1)))))))

  process_clean : (p : Process) → ((((AllByRecursion N (names_of_process p) × Once (names_of p.variables)) × AllByRecursion L (lists_in_process p)) × AllByRecursion K (labels false p.body)) × X p.identity)
      × (AllByRecursion I p.variables × Statements_clean p.body) → CleanProcess f m o.extended h p
  process_clean p k =
      let q = every_split L (lists_in p.identity) (lists_in_declared p.variables ++ lists_in_body p.body) k.0.0.0.1 in
      let r = every_split L (lists_in_declared p.variables) (lists_in_body p.body) q.1 in
      (of_name f m o h p.name k.0.0.0.0.0.0, (of_list f m o h [] (names_of p.variables) k.0.0.0.0.0.1 k.0.0.0.0.1, ((q.0, k.0.1), (starts_clean p.variables r.0 k.1.0, (r.1, (k.1.1, k.0.0.1))))))

  main_clean : (a : Algorithm) (x : Main) → AllByRecursion N (names_of_main x) → list_any f (repeated_in_main x) ≡ false → AllByRecursion L (lists_in_main x) → AllByRecursion K (labels_of_main x) → AllByRecursion X (identities x)
      → AllByRecursion Run (main_routines a x) → CleanMain f m o.extended h x
  main_clean a (alone b) n u l k x r = (l, (r.0.1, k))
  main_clean a (processes ps) n u l k x r =
      every_map _ (CleanProcess f m o.extended h) process_clean ps
      (every_pair _ _ ps
      (every_pair _ _ ps
      (every_pair _ _ ps
      (every_pair _ _ ps
      (every_pair _ _ ps (flattened N names_of_process ps n) (none_each f (λ (p : Process). repeated [] (names_of p.variables)) ps u)) (flattened L lists_in_process ps l))
      (flattened K (λ (p : Process). labels false p.body) ps k)) (mapped X (λ (p : Process). p.identity) ps x)) (processes_ran (first_process a) ps r))

  -- ---- the algorithm

  pub algorithm_clean : (a : Algorithm) → AllByRecursion N (declared_names a) → AllByRecursion Once (bound_lists a) → AllByRecursion (λ (d : Definition). Once d.params) a.definitions
      → AllByRecursion (λ (d : Macro). Once d.params) a.macros → AllByRecursion (λ (p : Procedure). Once (names_of (p.params ++ p.variables))) a.procedures → list_any f (repeated_in_main a.main) ≡ false
      → AllByRecursion K (all_labels a) → AllByRecursion X (all_expressions a) → AllByRecursion (λ (st : StatementAt). list_any f (statement_needs o.extended st.statement st.place) ≡ false) (all_statements a)
      → AllByRecursion (λ (p : Procedure). list_any f (procedure_needs o.extended p) ≡ false) a.procedures → CleanAlgorithm f m o.extended h a
  algorithm_clean a n u ud um up ux k x s p =
      -- names
      let n1 = every_split N (names_of a.globals) (flat_map names_of_definition a.definitions ++ (flat_map names_of_macro a.macros ++ (flat_map names_of_procedure a.procedures ++ (names_of_main a.main ++ all_of (bound_lists a))))) n in
      let n2 = every_split N (flat_map names_of_definition a.definitions) (flat_map names_of_macro a.macros ++ (flat_map names_of_procedure a.procedures ++ (names_of_main a.main ++ all_of (bound_lists a)))) n1.1 in
      let n3 = every_split N (flat_map names_of_macro a.macros) (flat_map names_of_procedure a.procedures ++ (names_of_main a.main ++ all_of (bound_lists a))) n2.1 in
      let n4 = every_split N (flat_map names_of_procedure a.procedures) (names_of_main a.main ++ all_of (bound_lists a)) n3.1 in
      let n5 = every_split N (names_of_main a.main) (all_of (bound_lists a)) n4.1 in
      -- lists
      let l = every_map (λ (ns : List Name). AllByRecursion N ns × Once ns) L (λ ns q. of_list f m o h [] ns q.0 q.1) (bound_lists a) (every_pair (λ (ns : List Name). AllByRecursion N ns) Once (bound_lists a) (flattened N (λ (xs : List Name). xs) (bound_lists a) n5.1) u) in
      let l1 = every_split L (lists_in_declared a.globals) (flat_map (λ (d : Definition). lists_in d.body) a.definitions ++ (flat_map (λ (d : Macro). lists_in_body d.body) a.macros ++ (flat_map lists_in_procedure a.procedures ++ lists_in_main a.main))) l in
      let l2 = every_split L (flat_map (λ (d : Definition). lists_in d.body) a.definitions) (flat_map (λ (d : Macro). lists_in_body d.body) a.macros ++ (flat_map lists_in_procedure a.procedures ++ lists_in_main a.main)) l1.1 in
      let l3 = every_split L (flat_map (λ (d : Macro). lists_in_body d.body) a.macros) (flat_map lists_in_procedure a.procedures ++ lists_in_main a.main) l2.1 in
      let l4 = every_split L (flat_map lists_in_procedure a.procedures) (lists_in_main a.main) l3.1 in
      -- labels
      let k1 = every_split K (flat_map (λ (d : Macro). labels false d.body) a.macros) (flat_map (λ (p : Procedure). labels false p.body) a.procedures ++ labels_of_main a.main) k in
      let k2 = every_split K (flat_map (λ (p : Procedure). labels false p.body) a.procedures) (labels_of_main a.main) k1.1 in
      -- expressions
      let x1 = every_split X (flat_map (λ (d : Declaration). initial d.start) (all_declarations a)) (map (λ (d : Definition). d.body) a.definitions ++ (identities a.main ++ flat_map (λ (st : StatementAt). expressions_of st.statement) (all_statements a))) x in
      let x2 = every_split X (map (λ (d : Definition). d.body) a.definitions) (identities a.main ++ flat_map (λ (st : StatementAt). expressions_of st.statement) (all_statements a)) x1.1 in
      let x3 = every_split X (identities a.main) (flat_map (λ (st : StatementAt). expressions_of st.statement) (all_statements a)) x2.1 in
      -- statements
      let s1 = flattened S statements_in (bodies a) (every_pair (λ (st : StatementAt). AllByRecursion X (expressions_of st.statement)) (λ (st : StatementAt). list_any f (statement_needs o.extended st.statement st.place) ≡ false) (all_statements a)
      (flattened X (λ (st : StatementAt). expressions_of st.statement) (all_statements a) x3.1) s) in
      let s2 = every_split Statements_clean (map (λ (d : Macro). d.body) a.macros) (map (λ (u : Routine). u.body) (routines a)) s1 in
      -- routines
      let d1 = every_split I a.globals (flat_map locals (routines a)) (flattened X (λ (d : Declaration). initial d.start) (all_declarations a) x1.0) in
      let r = every_pair (λ (u : Routine). AllByRecursion I (locals u)) (λ (u : Routine). Statements_clean u.body) (routines a) (flattened I locals (routines a) d1.1) (mapped Statements_clean (λ (u : Routine). u.body) (routines a) s2.1) in
      let r1 = every_split Run (procedure_routines a) (main_routines a a.main) r in (
        every_map _ (CleanGlobal f m o.extended h) (λ d q. (of_name f m o h d.name q.0, q.1)) a.globals
            (every_pair _ _ a.globals (mapped N (λ (d : Declaration). d.name) a.globals n1.0) (starts_clean a.globals l1.0 d1.0)),
        (
          every_map _ (CleanDefinition f m o.extended h) (λ d q. (of_name f m o h d.name q.0.0.0.0, (of_list f m o h [] d.params q.0.0.0.1 q.0.0.1, (q.0.1, q.1)))) a.definitions
              (every_pair _ _ a.definitions
              (every_pair _ _ a.definitions (every_pair _ _ a.definitions (flattened N names_of_definition a.definitions n2.0) ud) (flattened L (λ (d : Definition). lists_in d.body) a.definitions l2.0))
              (mapped X (λ (d : Definition). d.body) a.definitions x2.0)),
          (
            every_map _ (CleanMacro f m o.extended h) (λ d q. (of_name f m o h d.name q.0.0.0.0.0, (of_list f m o h [] d.params q.0.0.0.0.1 q.0.0.0.1, (q.0.0.1, (q.1, q.0.1))))) a.macros
                (every_pair _ _ a.macros
                (every_pair _ _ a.macros
                (every_pair _ _ a.macros (every_pair _ _ a.macros (flattened N names_of_macro a.macros n3.0) um) (flattened L (λ (d : Macro). lists_in_body d.body) a.macros l3.0))
                (flattened K (λ (d : Macro). labels false d.body) a.macros k1.0)) (mapped Statements_clean (λ (d : Macro). d.body) a.macros s2.0)),
            (
              every_map _ (CleanProcedure f m o.extended h) procedure_clean a.procedures
                  (every_pair _ _ a.procedures
                  (every_pair _ _ a.procedures
                  (every_pair _ _ a.procedures
                  (every_pair _ _ a.procedures (every_pair _ _ a.procedures (flattened N names_of_procedure a.procedures n4.0) up) (flattened L lists_in_procedure a.procedures l4.0))
                  (flattened K (λ (p : Procedure). labels false p.body) a.procedures k2.0)) p) (procedures_ran (first_procedure a) a.procedures r1.0)),
              main_clean a a.main n5.0 ux l4.1 k2.1 x3.0 r1.1,
            ),
          ),
        ),
      )
