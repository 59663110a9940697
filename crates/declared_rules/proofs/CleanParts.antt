-- No offence passes a test in the parts of an algorithm in memory where none does in what it stands for, and the other way.
use Rattle.std.proofs.Common.{◌≡◌, List, [], ◌∷◌, ◌++◌, map, Bool, false, not, refl, sym, ap, subst, ◌∙◌}
use Rattle.std.specs.List.{list_any, flat_map, AllByRecursion}
use Rattle.std.proofs.lemmas.List.{map-append}
use Rattle.tla_token.specs.declared.rule.Rule.TheVariants.{NeedsModule}
use Rattle.tla_token.specs.declared.rule.Refusal.{Refusal}
use Rattle.tla_tree.specs.Tree.{Name, Word, Tree}
use Rattle.tla_tree.specs.Pool.{at}
use Rattle.pcal_tree.specs.declared.algorithm.Start as code_start
use Rattle.pcal_tree.specs.declared.algorithm.Start.TheVariants as start
use Rattle.pcal_tree.specs.declared.algorithm.Declaration.{Declaration}
use Rattle.pcal_tree.specs.declared.algorithm.Procedure.{Procedure}
use Rattle.pcal_tree.specs.declared.algorithm.Process.{Process}
use Rattle.pcal_tree.specs.declared.algorithm.Main as code_main
use Rattle.pcal_tree.specs.declared.algorithm.Main.TheVariants as main
use Rattle.pcal_tree.specs.declared.algorithm.Algorithm as code
use Rattle.pcal_tree.specs.Algorithm as tree
use Rattle.pcal_tree.specs.Algorithm.{alone, processes}
use Rattle.pcal_tree.specs.InMemory.{start_at, declaration_at, declarations_at, definition_at, macro_at, procedure_at, process_at, main_at, algorithm_at, statements_at}
use Rattle.pcal_tree.specs.BoundNames.{lists_in_start}
use Rattle.pcal_tree.specs.Offences.{offence_if}
use Rattle.pcal_tree.specs.OffencesNames.{names_of}
use Rattle.pcal_tree.specs.Reads.{initial}
use Rattle.pcal_tree.proofs.OneStand.{every_both}
use Rattle.module_outside.specs.declared.modules.Modules.{Modules}
use Rattle.module_outside.specs.ModulesIn.{AreModules}
use Rattle.declared_rules.specs.Parts.{Part, declaration_names, body_parts, start_parts, declaration_parts, global_parts, definition_parts, macro_parts, procedure_parts, process_parts, main_parts, parts_of_algorithm}
use Rattle.declared_rules.specs.Finding.{reserved_in}
use Rattle.declared_rules.proofs.EachLaws.{every_split}
use Rattle.declared_rules.proofs.CleanBodies.{CleanList, CleanText, CleanPart, CleanTree, CleanBody, to_tree, of_tree, to_body, of_body}

pub names_at : (ts : List Tree) (ds : List Declaration) → declaration_names ds ≡ names_of (declarations_at ts ds)
names_at ts [] = refl
names_at ts (d ∷ ds) = ap (λ (l : List Name). d.name ∷ l) (names_at ts ds)

names_joined : (ts : List Tree) (ds es : List Declaration) → declaration_names ds ++ declaration_names es ≡ names_of (declarations_at ts ds ++ declarations_at ts es)
names_joined ts ds es = (λ i. names_at ts ds i ++ names_at ts es i) ∙ sym (map-append (λ (d : tree.Declaration). d.name) (declarations_at ts ds) (declarations_at ts es))

module _ (f : Refusal → Bool) (m : Modules) (ms : List Word) (h : AreModules m ms) where
  abbrev P : Part → Type 0
  P x = CleanPart f m ms h x

  abbrev pub CleanName : Name → Type 0
  CleanName n = list_any f (reserved_in m n) ≡ false

  abbrev pub CleanStart : tree.Start → Type 0
  CleanStart s = AllByRecursion (CleanList f m ms h) (lists_in_start s) × AllByRecursion (CleanText f m ms h) (initial s)

  abbrev pub CleanDeclared : List tree.Declaration → Type 0
  CleanDeclared ds = AllByRecursion (λ (d : tree.Declaration). CleanStart d.start) ds

  abbrev pub CleanGlobal : tree.Declaration → Type 0
  CleanGlobal d = CleanName d.name × CleanStart d.start

  abbrev pub CleanDefinition : tree.Definition → Type 0
  CleanDefinition d = CleanName d.name × (CleanList f m ms h d.params × CleanTree f m ms h d.body)

  abbrev pub CleanMacro : tree.Macro → Type 0
  CleanMacro d = CleanName d.name × (CleanList f m ms h d.params × CleanBody f m ms h false d.body)

  abbrev pub CleanProcedure : tree.Procedure → Type 0
  CleanProcedure p =
      CleanName p.name
      × ((list_any f (offence_if (not m.sequences) NeedsModule p.name.place) ≡ false)
      × (CleanList f m ms h (names_of (p.params ++ p.variables)) × (CleanDeclared p.params × (CleanDeclared p.variables × CleanBody f m ms h false p.body))))

  abbrev pub CleanProcess : tree.Process → Type 0
  CleanProcess p =
      CleanName p.name × (CleanList f m ms h (names_of p.variables) × (CleanTree f m ms h p.identity × (CleanDeclared p.variables × CleanBody f m ms h false p.body)))

  abbrev pub CleanMain : tree.Main → Type 0
  CleanMain (alone b) = CleanBody f m ms h false b
  CleanMain (processes ps) = AllByRecursion CleanProcess ps

  abbrev pub CleanAlgorithm : tree.Algorithm → Type 0
  CleanAlgorithm a =
      AllByRecursion CleanGlobal a.globals
      × (AllByRecursion CleanDefinition a.definitions × (AllByRecursion CleanMacro a.macros × (AllByRecursion CleanProcedure a.procedures × CleanMain a.main)))

  -- ---- each of a list

  each_to : {A B : Type 0} (g : A → B) (parts : A → List Part) (D : B → Type 0) → ((x : A) → AllByRecursion P (parts x) → D (g x)) → (xs : List A) → AllByRecursion P (flat_map parts xs) → AllByRecursion D (map g xs)
  each_to g parts D step [] k = tt
  each_to g parts D step (x ∷ xs) k = let q = every_split P (parts x) (flat_map parts xs) k in (step x q.0, each_to g parts D step xs q.1)

  each_of : {A B : Type 0} (g : A → B) (parts : A → List Part) (D : B → Type 0) → ((x : A) → D (g x) → AllByRecursion P (parts x)) → (xs : List A) → AllByRecursion D (map g xs) → AllByRecursion P (flat_map parts xs)
  each_of g parts D step [] k = tt
  each_of g parts D step (x ∷ xs) k = every_both P (parts x) (flat_map parts xs) (step x k.0) (each_of g parts D step xs k.1)

  -- ---- declarations

  module _ (ts : List Tree) where
    start_to : (s : code_start.Start) → AllByRecursion P (start_parts ts s) → CleanStart (start_at ts s)
    start_to start.Unset k = (tt, tt)
    start_to (start.Equals e) k = let q = to_tree f m ms h (at ts e) k.0 in (q.0, (q.1, tt))
    start_to (start.Among e) k = let q = to_tree f m ms h (at ts e) k.0 in (q.0, (q.1, tt))

    start_of : (s : code_start.Start) → CleanStart (start_at ts s) → AllByRecursion P (start_parts ts s)
    start_of start.Unset k = tt
    start_of (start.Equals e) k = (of_tree f m ms h (at ts e) (k.0, k.1.0), tt)
    start_of (start.Among e) k = (of_tree f m ms h (at ts e) (k.0, k.1.0), tt)

    declared_to : (ds : List Declaration) → AllByRecursion P (flat_map (declaration_parts ts) ds) → CleanDeclared (declarations_at ts ds)
    declared_to ds k = each_to (declaration_at ts) (declaration_parts ts) (λ (d : tree.Declaration). CleanStart d.start) (λ d q. start_to d.start q) ds k

    declared_of : (ds : List Declaration) → CleanDeclared (declarations_at ts ds) → AllByRecursion P (flat_map (declaration_parts ts) ds)
    declared_of ds k = each_of (declaration_at ts) (declaration_parts ts) (λ (d : tree.Declaration). CleanStart d.start) (λ d q. start_of d.start q) ds k

    -- ---- routines

    procedure_to : (p : Procedure) → AllByRecursion P (procedure_parts ts p) → CleanProcedure (procedure_at ts p)
    procedure_to p k =
        let q = every_split P (flat_map (declaration_parts ts) p.params.items) (flat_map (declaration_parts ts) p.variables.items ++ body_parts ts p.body.items) k.1.1.1 in
        let r = every_split P (flat_map (declaration_parts ts) p.variables.items) (body_parts ts p.body.items) q.1 in
        (k.0, (k.1.0, (subst (CleanList f m ms h) (names_joined ts p.params.items p.variables.items) k.1.1.0, (declared_to p.params.items q.0, (declared_to p.variables.items r.0, to_body f m ms h false (statements_at ts p.body.items) r.1)))))

    procedure_of : (p : Procedure) → CleanProcedure (procedure_at ts p) → AllByRecursion P (procedure_parts ts p)
    procedure_of p k = (
      k.0,
      (
        k.1.0,
        (
          subst (CleanList f m ms h) (sym (names_joined ts p.params.items p.variables.items)) k.1.1.0,
          every_both P (flat_map (declaration_parts ts) p.params.items) (flat_map (declaration_parts ts) p.variables.items ++ body_parts ts p.body.items) (declared_of p.params.items k.1.1.1.0)
              (every_both P (flat_map (declaration_parts ts) p.variables.items) (body_parts ts p.body.items) (declared_of p.variables.items k.1.1.1.1.0) (of_body f m ms h false (statements_at ts p.body.items) k.1.1.1.1.1)),
        ),
      ),
    )

    process_to : (p : Process) → AllByRecursion P (process_parts ts p) → CleanProcess (process_at ts p)
    process_to p k =
        let r = every_split P (flat_map (declaration_parts ts) p.variables.items) (body_parts ts p.body.items) k.1.1.1 in
        (k.0, (subst (CleanList f m ms h) (names_at ts p.variables.items) k.1.0, (to_tree f m ms h (at ts p.identity) k.1.1.0, (declared_to p.variables.items r.0, to_body f m ms h false (statements_at ts p.body.items) r.1))))

    process_of : (p : Process) → CleanProcess (process_at ts p) → AllByRecursion P (process_parts ts p)
    process_of p k = (
      k.0,
      (
        subst (CleanList f m ms h) (sym (names_at ts p.variables.items)) k.1.0,
        (
          of_tree f m ms h (at ts p.identity) k.1.1.0,
          every_both P (flat_map (declaration_parts ts) p.variables.items) (body_parts ts p.body.items) (declared_of p.variables.items k.1.1.1.0) (of_body f m ms h false (statements_at ts p.body.items) k.1.1.1.1),
        ),
      ),
    )

    main_to : (x : code_main.Main) → AllByRecursion P (main_parts ts x) → CleanMain (main_at ts x)
    main_to (main.Alone ss) k = to_body f m ms h false (statements_at ts ss.items) k
    main_to (main.Processes ps) k = each_to (process_at ts) (process_parts ts) CleanProcess process_to ps.items k

    main_of : (x : code_main.Main) → CleanMain (main_at ts x) → AllByRecursion P (main_parts ts x)
    main_of (main.Alone ss) k = of_body f m ms h false (statements_at ts ss.items) k
    main_of (main.Processes ps) k = each_of (process_at ts) (process_parts ts) CleanProcess process_of ps.items k

    -- ---- all

    pub algorithm_to : (a : code.Algorithm) → AllByRecursion P (parts_of_algorithm ts a) → CleanAlgorithm (algorithm_at ts a)
    algorithm_to a k =
        let q = every_split P (flat_map (global_parts ts) a.globals.items) _ k in
        let r = every_split P (flat_map (definition_parts ts) a.definitions.items) _ q.1 in
        let s = every_split P (flat_map (macro_parts ts) a.macros.items) _ r.1 in
        let t = every_split P (flat_map (procedure_parts ts) a.procedures.items) (main_parts ts a.main) s.1 in (
          each_to (declaration_at ts) (global_parts ts) CleanGlobal (λ d q. (q.0, start_to d.start q.1.1)) a.globals.items q.0,
          (
            each_to (definition_at ts) (definition_parts ts) CleanDefinition (λ d q. (q.0, (q.1.1.0, to_tree f m ms h (at ts d.body) q.1.1.1.1.0))) a.definitions.items r.0,
            (
              each_to (macro_at ts) (macro_parts ts) CleanMacro (λ d q. (q.0, (q.1.0, to_body f m ms h false (statements_at ts d.body.items) q.1.1.1))) a.macros.items s.0,
              (each_to (procedure_at ts) (procedure_parts ts) CleanProcedure procedure_to a.procedures.items t.0, main_to a.main t.1),
            ),
          ),
        )

    pub algorithm_of : (a : code.Algorithm) → CleanAlgorithm (algorithm_at ts a) → AllByRecursion P (parts_of_algorithm ts a)
    algorithm_of a k =
        every_both P (flat_map (global_parts ts) a.globals.items) _ (each_of (declaration_at ts) (global_parts ts) CleanGlobal (λ d q. (q.0, (refl, start_of d.start q.1))) a.globals.items k.0)
        (every_both P (flat_map (definition_parts ts) a.definitions.items) _
        (each_of (definition_at ts) (definition_parts ts) CleanDefinition (λ d q. (q.0, (refl, (q.1.0, (refl, (of_tree f m ms h (at ts d.body) q.1.1, tt)))))) a.definitions.items k.1.0)
        (every_both P (flat_map (macro_parts ts) a.macros.items) _
        (each_of (macro_at ts) (macro_parts ts) CleanMacro (λ d q. (q.0, (q.1.0, (refl, of_body f m ms h false (statements_at ts d.body.items) q.1.1)))) a.macros.items k.1.1.0)
        (every_both P (flat_map (procedure_parts ts) a.procedures.items) (main_parts ts a.main)
        (each_of (procedure_at ts) (procedure_parts ts) CleanProcedure procedure_of a.procedures.items k.1.1.1.0) (main_of a.main k.1.1.1.1))))
