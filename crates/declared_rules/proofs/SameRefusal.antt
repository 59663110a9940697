-- The first offence that is found is the first one by the rules.
use Rattle.std.proofs.Common.{◌≡◌, List, [], ◌∷◌, ◌++◌, map, Bool, false, codes, true≢false, refl, sym, ap, ◌∙◌}
use Rattle.std.specs.List.{list_any, flat_map, AllByRecursion}
use Rattle.tla_token.specs.declared.rule.Rule.TheVariants.{OutsideVariable}
use Rattle.tla_token.specs.declared.rule.Refusal.{Refusal}
use Rattle.tla_token.specs.Signs.{is_among}
use Rattle.tla_tree.specs.Tree.{Name, Tree, words}
use Rattle.tla_value.specs.Outside.{Outside, Opaque, ReadDefinition}
use Rattle.pcal_tree.specs.declared.algorithm.Main as code_main
use Rattle.pcal_tree.specs.declared.algorithm.Main.TheVariants as main
use Rattle.pcal_tree.specs.declared.algorithm.Algorithm as code
use Rattle.pcal_tree.specs.Algorithm.{Declaration, Process, Definition, Macro, Procedure, Algorithm}
use Rattle.pcal_tree.specs.Algorithm as tree
use Rattle.pcal_tree.specs.InMemory.{definition_at, macro_at, procedure_at, process_at, main_at, algorithm_at}
use Rattle.pcal_tree.specs.BoundNames.{bound_lists}
use Rattle.pcal_tree.specs.Expressions.{StatementAt, all_statements, all_expressions}
use Rattle.pcal_tree.specs.Offences.{offence_if, first}
use Rattle.pcal_tree.specs.OffencesLabels.{all_labels}
use Rattle.pcal_tree.specs.OffencesModules.{text_offences, statement_needs, procedure_needs, module_needs, outside_variables}
use Rattle.pcal_tree.specs.OffencesNames.{repeated, names_of, process_names, repeated_in_main, kept_names, repeated_names}
use Rattle.pcal_tree.specs.OffencesReserved.{declared_names, reserved_name, reserved_label, reserved_read, reserved_opaque, reserved_outside, reserved_declared}
use Rattle.pcal_tree.specs.Outside.{unit_names}
use Rattle.pcal_tree.proofs.SetLaws.{none_of_both, none_together}
use Rattle.pcal_tree.proofs.FirstLaws.{same_first}
use Rattle.pcal_tree.proofs.OneStand.{every_both}
use Rattle.module_outside.specs.declared.modules.Modules.{Modules}
use Rattle.module_outside.specs.ModulesIn.{AreModules}
use Rattle.declared_rules.specs.Parts.{parts_of_algorithm}
use Rattle.declared_rules.specs.Finding.{reserved_in, seen_offences, seen_after, part_offences, parts_offences}
use Rattle.declared_rules.specs.Titles.{kept_titles, other_titles, main_names, pure_title, passed_offences, unit_offences, outside_offences, title_offences}
use Rattle.declared_rules.specs.Refusal.{declared_offences, offences_found}
use Rattle.declared_rules.proofs.EachLaws.{both_false, every_map, every_pair, unmapped, none_each, each_none}
use Rattle.declared_rules.proofs.CleanParts.{CleanGlobal, CleanProcess, CleanMain, CleanDefinition, CleanMacro, CleanProcedure, CleanAlgorithm, names_at, algorithm_to, algorithm_of}
use Rattle.declared_rules.proofs.CleanNames.{PlainName, repeated_same, repeated_both, after_words, fewer_seen, to_name, of_name, to_list, of_list}
use Rattle.declared_rules.proofs.CleanBodies.{CleanStatement}
use Rattle.declared_rules.proofs.CleanWhole.{all_lists, all_texts, all_marked, all_plain, all_stacked, statements_clean, main_once}
use Rattle.declared_rules.proofs.CleanAgain.{algorithm_clean}

-- ---- titles in memory

same_names : {A B : Type 0} (g : A → B) (n : A → Name) (k : B → Name) → ((x : A) → n x ≡ k (g x)) → (xs : List A) → map n xs ≡ map k (map g xs)
same_names g n k e [] = refl
same_names g n k e (x ∷ xs) = λ i. e x i ∷ same_names g n k e xs i

abbrev others : Algorithm → List Name
others a = map (λ (d : Macro). d.name) a.macros ++ (map (λ (p : Procedure). p.name) a.procedures ++ process_names a.main)

main_same : (ts : List Tree) (x : code_main.Main) → main_names x ≡ process_names (main_at ts x)
main_same ts (main.Alone ss) = refl
main_same ts (main.Processes ps) = same_names (process_at ts) _ _ (λ p. refl) ps.items

kept_same : (ts : List Tree) (a : code.Algorithm) → kept_titles a ≡ kept_names (algorithm_at ts a)
kept_same ts a = λ i. names_at ts a.globals.items i ++ same_names (definition_at ts) _ (λ (d : Definition). d.name) (λ d. refl) a.definitions.items i

others_same : (ts : List Tree) (a : code.Algorithm) → other_titles a ≡ others (algorithm_at ts a)
others_same ts a = λ i. same_names (macro_at ts) _ (λ (d : Macro). d.name) (λ d. refl) a.macros.items i ++ (same_names (procedure_at ts) _ (λ (p : Procedure). p.name) (λ p. refl) a.procedures.items i ++ main_same ts a.main i)

module _ (f : Refusal → Bool) (m : Modules) (o : Outside) (h : AreModules m o.extended) (a : Algorithm) where
  abbrev None : List Refusal → Type 0
  None rs = list_any f rs ≡ false

  abbrev N : Name → Type 0
  N n = PlainName f m o h n

  abbrev declares_variables : Opaque → List Refusal
  declares_variables u = offence_if (is_among (codes "VARIABLE" ∷ codes "VARIABLES" ∷ []) u.keyword) OutsideVariable u.place

  -- what the rules tell, part by part
  abbrev r1 : List Refusal
  r1 = repeated (unit_names o) (kept_names a)

  abbrev r2 : List Refusal
  r2 = repeated (words (kept_names a)) (others a)

  abbrev r3 : List Refusal
  r3 = flat_map (λ (d : Definition). repeated [] d.params) a.definitions

  abbrev r4 : List Refusal
  r4 = flat_map (λ (d : Macro). repeated [] d.params) a.macros

  abbrev r5 : List Refusal
  r5 = flat_map (λ (p : Procedure). repeated [] (names_of (p.params ++ p.variables))) a.procedures

  abbrev r6 : List Refusal
  r6 = repeated_in_main a.main

  abbrev r7 : List Refusal
  r7 = flat_map (repeated []) (bound_lists a)

  abbrev s1 : List Refusal
  s1 = flat_map (reserved_name o) o.constants

  abbrev s2 : List Refusal
  s2 = flat_map (reserved_read o) o.definitions

  abbrev s3 : List Refusal
  s3 = flat_map reserved_opaque o.opaque

  abbrev t1 : List Refusal
  t1 = flat_map (reserved_name o) (declared_names a)

  abbrev t2 : List Refusal
  t2 = flat_map reserved_label (all_labels a)

  abbrev n1 : List Refusal
  n1 = flat_map (text_offences o.extended false) (all_expressions a)

  abbrev n2 : List Refusal
  n2 = flat_map (λ (st : StatementAt). statement_needs o.extended st.statement st.place) (all_statements a)

  abbrev n3 : List Refusal
  n3 = flat_map (procedure_needs o.extended) a.procedures

  abbrev c2 : List Refusal
  c2 = flat_map (λ (d : ReadDefinition). reserved_in m (pure_title d)) o.definitions

  abbrev Clean : Type 0
  Clean = CleanAlgorithm f m o.extended h a

  -- titles after others, by what is seen
  titles_after : repeated [] (kept_names a ++ others a) ≡ repeated [] (kept_names a) ++ r2
  titles_after = repeated_both [] (kept_names a) (others a) ∙ ap (λ (rs : List Refusal). repeated [] (kept_names a) ++ rs) (repeated_same (seen_after [] (kept_names a)) (words (kept_names a)) (others a) (after_words (kept_names a)))

  to_rules : Clean → None (title_offences m (unit_names o) (kept_names a) (others a)) → None (outside_offences m o) → None (declared_offences a o)
  to_rules k t u =
      let t' = none_of_both f (seen_offences m [] (kept_names a ++ others a)) (seen_offences m (unit_names o) (kept_names a)) t in
      let w = none_of_both f (repeated [] (kept_names a)) r2 (ap (list_any f) (sym titles_after) ∙ (to_list f m o h [] (kept_names a ++ others a) t'.0).1) in
      let u1 = none_of_both f (flat_map (reserved_in m) o.constants) (c2 ++ flat_map unit_offences o.opaque) u in
      let u2 = none_of_both f c2 (flat_map unit_offences o.opaque) u1.1 in
      let us = none_each f unit_offences o.opaque u2.1 in
      none_together f (repeated_names a o) (reserved_declared a o ++ (module_needs a o ++ outside_variables o))
      (none_together f r1 (r2 ++ (r3 ++ (r4 ++ (r5 ++ (r6 ++ r7))))) (to_list f m o h (unit_names o) (kept_names a) t'.1).1
      (none_together f r2 (r3 ++ (r4 ++ (r5 ++ (r6 ++ r7)))) w.1
      (none_together f r3 (r4 ++ (r5 ++ (r6 ++ r7)))
      (each_none f (λ (d : Definition). repeated [] d.params) a.definitions (every_map (CleanDefinition f m o.extended h) (λ (d : Definition). None (repeated [] d.params)) (λ d q. (to_list f m o h [] d.params q.1.0).1) a.definitions k.1.0))
      (none_together f r4 (r5 ++ (r6 ++ r7))
      (each_none f (λ (d : Macro). repeated [] d.params) a.macros (every_map (CleanMacro f m o.extended h) (λ (d : Macro). None (repeated [] d.params)) (λ d q. (to_list f m o h [] d.params q.1.0).1) a.macros k.1.1.0))
      (none_together f r5 (r6 ++ r7)
      (each_none f (λ (p : Procedure). repeated [] (names_of (p.params ++ p.variables))) a.procedures
      (every_map (CleanProcedure f m o.extended h) (λ (p : Procedure). None (repeated [] (names_of (p.params ++ p.variables)))) (λ p q. (to_list f m o h [] (names_of (p.params ++ p.variables)) q.1.1.0).1) a.procedures k.1.1.1.0))
      (none_together f r6 r7 (main_once f m o h a.main k.1.1.1.1)
      (each_none f (repeated []) (bound_lists a) (every_map _ (λ (ns : List Name). None (repeated [] ns)) (λ ns q. (to_list f m o h [] ns q).1) (bound_lists a) (all_lists f m o h a k)))))))))
      (none_together f (reserved_declared a o) (module_needs a o ++ outside_variables o)
      (none_together f (reserved_outside o) (t1 ++ t2)
      (none_together f s1 (s2 ++ s3) (each_none f (reserved_name o) o.constants (every_map (λ (n : Name). None (reserved_in m n)) N (to_name f m o h) o.constants (none_each f (reserved_in m) o.constants u1.0)))
      (none_together f s2 s3
      (each_none f (reserved_read o) o.definitions
      (every_map (λ (d : ReadDefinition). None (reserved_in m (pure_title d))) (λ (d : ReadDefinition). None (reserved_read o d)) (λ d q. to_name f m o h (pure_title d) q) o.definitions (none_each f (λ (d : ReadDefinition). reserved_in m (pure_title d)) o.definitions u2.0)))
      (each_none f reserved_opaque o.opaque
      (every_map (λ (u : Opaque). None (unit_offences u)) (λ (u : Opaque). None (reserved_opaque u)) (λ u q. (none_of_both f (flat_map (passed_offences u.place) u.names) (declares_variables u) q).0) o.opaque us))))
      (none_together f t1 t2 (each_none f (reserved_name o) (declared_names a) (all_plain f m o h a k)) (each_none f reserved_label (all_labels a) (all_marked f m o h a k))))
      (none_together f (module_needs a o) (outside_variables o)
      (none_together f n1 (n2 ++ n3) (each_none f (text_offences o.extended false) (all_expressions a) (all_texts f m o h a k))
      (none_together f n2 n3
      (each_none f (λ (st : StatementAt). statement_needs o.extended st.statement st.place) (all_statements a)
      (every_map (CleanStatement f m o.extended h) (λ (st : StatementAt). None (statement_needs o.extended st.statement st.place)) (λ st q. q.1) (all_statements a) (statements_clean f m o h a k)))
      (each_none f (procedure_needs o.extended) a.procedures (all_stacked f m o h a k))))
      (each_none f declares_variables o.opaque
      (every_map (λ (u : Opaque). None (unit_offences u)) (λ (u : Opaque). None (declares_variables u)) (λ u q. (none_of_both f (flat_map (passed_offences u.place) u.names) (declares_variables u) q).1) o.opaque us))))

  -- ---- the other way

  main_titles : (x : tree.Main) → CleanMain f m o.extended h x → AllByRecursion N (process_names x)
  main_titles (tree.alone b) k = tt
  main_titles (tree.processes ps) k = unmapped N (λ (p : Process). p.name) ps (every_map (CleanProcess f m o.extended h) (λ (p : Process). N p.name) (λ p q. to_name f m o h p.name q.0) ps k)

  kept_plain : Clean → AllByRecursion N (kept_names a)
  kept_plain k =
      every_both N (names_of a.globals) (map (λ (d : Definition). d.name) a.definitions)
      (unmapped N (λ (d : Declaration). d.name) a.globals (every_map (CleanGlobal f m o.extended h) (λ (d : Declaration). N d.name) (λ d q. to_name f m o h d.name q.0) a.globals k.0))
      (unmapped N (λ (d : Definition). d.name) a.definitions (every_map (CleanDefinition f m o.extended h) (λ (d : Definition). N d.name) (λ d q. to_name f m o h d.name q.0) a.definitions k.1.0))

  others_plain : Clean → AllByRecursion N (others a)
  others_plain k =
      every_both N (map (λ (d : Macro). d.name) a.macros) (map (λ (p : Procedure). p.name) a.procedures ++ process_names a.main)
      (unmapped N (λ (d : Macro). d.name) a.macros (every_map (CleanMacro f m o.extended h) (λ (d : Macro). N d.name) (λ d q. to_name f m o h d.name q.0) a.macros k.1.1.0))
      (every_both N (map (λ (p : Procedure). p.name) a.procedures) (process_names a.main)
      (unmapped N (λ (p : Procedure). p.name) a.procedures (every_map (CleanProcedure f m o.extended h) (λ (p : Procedure). N p.name) (λ p q. to_name f m o h p.name q.0) a.procedures k.1.1.1.0))
      (main_titles a.main k.1.1.1.1))

  titles_clean : Clean → None r1 → None r2 → None (title_offences m (unit_names o) (kept_names a) (others a))
  titles_clean k p q =
      none_together f (seen_offences m [] (kept_names a ++ others a)) (seen_offences m (unit_names o) (kept_names a))
      (of_list f m o h [] (kept_names a ++ others a) (every_both N (kept_names a) (others a) (kept_plain k) (others_plain k))
      (ap (list_any f) titles_after ∙ none_together f (repeated [] (kept_names a)) r2 (fewer_seen f [] (unit_names o) (kept_names a) (λ w e. absurd (true≢false (sym e))) p) q))
      (of_list f m o h (unit_names o) (kept_names a) (kept_plain k) p)

  of_rules : None (declared_offences a o) → Clean × (None (title_offences m (unit_names o) (kept_names a) (others a)) × None (outside_offences m o))
  of_rules k =
      let k1 = none_of_both f (repeated_names a o) (reserved_declared a o ++ (module_needs a o ++ outside_variables o)) k in
      let q1 = none_of_both f r1 (r2 ++ (r3 ++ (r4 ++ (r5 ++ (r6 ++ r7))))) k1.0 in
      let q2 = none_of_both f r2 (r3 ++ (r4 ++ (r5 ++ (r6 ++ r7)))) q1.1 in
      let q3 = none_of_both f r3 (r4 ++ (r5 ++ (r6 ++ r7))) q2.1 in
      let q4 = none_of_both f r4 (r5 ++ (r6 ++ r7)) q3.1 in
      let q5 = none_of_both f r5 (r6 ++ r7) q4.1 in
      let q6 = none_of_both f r6 r7 q5.1 in
      let k2 = none_of_both f (reserved_declared a o) (module_needs a o ++ outside_variables o) k1.1 in
      let w = none_of_both f (reserved_outside o) (t1 ++ t2) k2.0 in
      let w1 = none_of_both f s1 (s2 ++ s3) w.0 in
      let w2 = none_of_both f s2 s3 w1.1 in
      let v = none_of_both f t1 t2 w.1 in
      let k3 = none_of_both f (module_needs a o) (outside_variables o) k2.1 in
      let x1 = none_of_both f n1 (n2 ++ n3) k3.0 in
      let x2 = none_of_both f n2 n3 x1.1 in
      let c =
      algorithm_clean f m o h a (none_each f (reserved_name o) (declared_names a) v.0) (none_each f (repeated []) (bound_lists a) q6.1) (none_each f (λ (d : Definition). repeated [] d.params) a.definitions q3.0)
      (none_each f (λ (d : Macro). repeated [] d.params) a.macros q4.0) (none_each f (λ (p : Procedure). repeated [] (names_of (p.params ++ p.variables))) a.procedures q5.0) q6.0
      (none_each f reserved_label (all_labels a) v.1) (none_each f (text_offences o.extended false) (all_expressions a) x1.0)
      (none_each f (λ (st : StatementAt). statement_needs o.extended st.statement st.place) (all_statements a) x2.0) (none_each f (procedure_needs o.extended) a.procedures x2.1)
      in (
        c,
        (
          titles_clean c q1.0 q2.0,
          none_together f (flat_map (reserved_in m) o.constants) (c2 ++ flat_map unit_offences o.opaque)
              (each_none f (reserved_in m) o.constants (every_map N (λ (n : Name). None (reserved_in m n)) (of_name f m o h) o.constants (none_each f (reserved_name o) o.constants w1.0)))
              (none_together f c2 (flat_map unit_offences o.opaque)
              (each_none f (λ (d : ReadDefinition). reserved_in m (pure_title d)) o.definitions
              (every_map (λ (d : ReadDefinition). None (reserved_read o d)) (λ (d : ReadDefinition). None (reserved_in m (pure_title d))) (λ d q. of_name f m o h (pure_title d) q) o.definitions (none_each f (reserved_read o) o.definitions w2.0)))
              (each_none f unit_offences o.opaque
              (every_map (λ (u : Opaque). None (reserved_opaque u) × None (declares_variables u)) (λ (u : Opaque). None (unit_offences u))
              (λ u q. none_together f (flat_map (passed_offences u.place) u.names) (declares_variables u) q.0 q.1) o.opaque
              (every_pair (λ (u : Opaque). None (reserved_opaque u)) (λ (u : Opaque). None (declares_variables u)) o.opaque (none_each f reserved_opaque o.opaque w2.1) (none_each f declares_variables o.opaque k3.1))))),
        ),
      )

-- ---- in memory

pub same_refusal_found : (m : Modules) (ts : List Tree) (a : code.Algorithm) (o : Outside) → AreModules m o.extended → first (offences_found m ts a o) ≡ first (declared_offences (algorithm_at ts a) o)
same_refusal_found m ts a o h = same_first (offences_found m ts a o) (declared_offences (algorithm_at ts a) o) (λ f. both_false _ _ (there f) (back f))
  where
    A : Algorithm
    A = algorithm_at ts a

    own : List Refusal
    own = title_offences m (unit_names o) (kept_titles a) (other_titles a)

    same_titles : own ≡ title_offences m (unit_names o) (kept_names A) (others A)
    same_titles = λ i. title_offences m (unit_names o) (kept_same ts a i) (others_same ts a i)

    there : (f : Refusal → Bool) → list_any f (offences_found m ts a o) ≡ false → list_any f (declared_offences A o) ≡ false
    there f k =
        let p = none_of_both f (outside_offences m o) (own ++ parts_offences m (parts_of_algorithm ts a)) k in
        let q = none_of_both f own (parts_offences m (parts_of_algorithm ts a)) p.1 in
        to_rules f m o h A (algorithm_to f m o.extended h ts a (none_each f (part_offences m) (parts_of_algorithm ts a) q.1)) (ap (list_any f) (sym same_titles) ∙ q.0) p.0

    back : (f : Refusal → Bool) → list_any f (declared_offences A o) ≡ false → list_any f (offences_found m ts a o) ≡ false
    back f k =
        let p = of_rules f m o h A k in
        none_together f (outside_offences m o) (own ++ parts_offences m (parts_of_algorithm ts a)) p.1.1
        (none_together f own (parts_offences m (parts_of_algorithm ts a)) (ap (list_any f) same_titles ∙ p.1.0) (each_none f (part_offences m) (parts_of_algorithm ts a) (algorithm_of f m o.extended h ts a p.0)))
