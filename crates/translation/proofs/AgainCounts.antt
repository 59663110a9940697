-- How many names an algorithm has, how long its chains of macros are, how deep its definitions nest, and how large it is with macro calls written out, rests on no place.
use Rattle.std.proofs.Common.{◌≡◌, ℕ, suc, ◌+◌, ◌*◌, max, length, nat_lt, List, [], ◌∷◌, map, flat_map, reverse, drop, refl, sym, ap, ◌∙◌}
use Rattle.std.proofs.lemmas.List.{drop-map, length-map}
use Rattle.tla_token.specs.declared.rule.Rule.TheVariants as rule
use Rattle.tla_token.specs.declared.rule.Rule.TheVariants.{TooMany}
use Rattle.tla_token.specs.Limits.{most_variables, most_processes, most_procedures, most_labels, longest_chain, deepest_definition}
use Rattle.tla_tree.specs.Nesting.{form_nesting, tree_nesting, trees_nesting}
use Rattle.tla_tree.specs.Tree.{Word, Name, words, Form, name, binding, strict, except, Tree, node, Trees, no_trees, tree, seen_names}
use Rattle.tla_tree.specs.laws.Placeless.{name_placeless, names_placeless, form_placeless, tree_placeless, trees_placeless}
use Rattle.tla_value.specs.DefinitionNesting as nesting
use Rattle.tla_value.specs.DefinitionNesting.{Depths, hidden, nests, nest, definition_nests, depths}
use Rattle.pcal_tree.specs.Algorithm.{nowhere, Assignments, no_assignments, assignment, Binds, no_binds, one_of, is, Statement, assign, await, print, assert, skip, branch, either, with, while, goto, macro, call, return, Statements, done, then, mark, Branches, no_branches, or, Start, unset, equals, among, Declaration, Definition, Macro, Procedure, Process, Main, alone, processes, Routine, locals, routines, Algorithm}
use Rattle.pcal_tree.specs.Expand.{expanded}
use Rattle.pcal_tree.specs.Offences.{offence_if}
use Rattle.pcal_tree.specs.OffencesCounts.{variable_names, procedure_names, all_label_names, at_first_name, first_past, calls_of, Chains, longest, chain_to, long_chains, deep_definitions, count_offences}
use Rattle.pcal_tree.specs.OffencesLabels.{Label, all_labels}
use Rattle.pcal_tree.specs.OffencesNames.{names_of, process_names}
use Rattle.pcal_tree.specs.Placeless.{assignments_placeless, binds_placeless, statement_placeless, statements_placeless, branches_placeless, start_placeless, declarations_placeless, definitions_placeless, macros_placeless, procedures_placeless, processes_placeless, main_placeless, placeless}
use Rattle.pcal_tree.specs.Program.{inner}
use Rattle.macro_expand.specs.Measured.{of_trees, of_assignments, of_binds, how_many, of_one, of_all, of_some, of_each, of_start, of_declared, of_procedure, of_process, of_main, of_algorithm}
use Rattle.macro_expand.specs.Size.{weights, form_nodes, nodes, weighed, in_left, after_first, subscript_nodes, first_subscript_nodes, left_nesting, first_left_nesting, both as sum, expression_size, one_node_more, deeper, one_label_more, sizes, call_size, expanded_main, expansion}
use Rattle.macro_expand.specs.TooLarge.{is_too_large, too_large}
use Rattle.translation.proofs.AgainJumps.{all_labels_bare}
use Rattle.translation.proofs.AgainOffences.{rules, rules_two, rules_if}
use Rattle.translation.proofs.AgainParts.{procedure_placeless, procedures_each, seen_bare, names_of_bare, process_names_bare}
use Rattle.translation.proofs.AgainUsed.{calls_bare}
use Rattle.translation.proofs.BareNames.{both, each_list, each_one, each_same, label_placeless, words_bare}
use Rattle.translation.proofs.PlacelessAlgorithm.{expanded_bare}
use Rattle.translation.proofs.PlacelessJumps.{routine_placeless, locals_bare}
use Rattle.translation.proofs.PlacelessUnits.{all_routines}

-- ---- names that are counted

past_bare : (n : ℕ) (xs us : List Name) → us ≡ names_placeless xs → rules (first_past n us) ≡ rules (first_past n xs)
past_bare n xs us e = ap (λ (vs : List Name). rules (first_past n vs)) e ∙ ap (λ (vs : List Name). rules (at_first_name vs)) (drop-map name_placeless n xs) ∙ by (drop n xs)
  where
    by : (vs : List Name) → rules (at_first_name (map name_placeless vs)) ≡ rules (at_first_name vs)
    by [] = refl
    by (v ∷ vs) = refl

variables_bare : (a : Algorithm) → variable_names (placeless a) ≡ names_placeless (variable_names a)
variables_bare a =
    both name_placeless (names_of a.globals) (flat_map (λ u. names_of (locals u)) (routines a)) _ _ (names_of_bare a.globals)
    (ap (flat_map (λ (u : Routine). names_of (locals u))) (all_routines a)
    ∙ each_list routine_placeless name_placeless (λ u. names_of (locals u)) (λ u. names_of (locals u)) (λ u. ap names_of (locals_bare u) ∙ names_of_bare (locals u)) (routines a))

procedures_bare : (a : Algorithm) → procedure_names (placeless a) ≡ names_placeless (procedure_names a)
procedures_bare a =
    ap (map (λ (p : Procedure). p.name)) (procedures_each a.procedures) ∙ each_one procedure_placeless name_placeless (λ p. p.name) (λ p. p.name) (λ p. refl) a.procedures

label_names_bare : (a : Algorithm) → all_label_names (placeless a) ≡ names_placeless (all_label_names a)
label_names_bare a = ap (map (λ (l : Label). l.name)) (all_labels_bare a) ∙ each_one label_placeless name_placeless (λ l. l.name) (λ l. l.name) (λ l. refl) (all_labels a)

-- ---- chains of macros

chains_bare : (cs : Chains) (ds : List Macro) → rules (long_chains cs (macros_placeless ds)) ≡ rules (long_chains cs ds)
chains_bare cs [] = refl
chains_bare cs (d ∷ ds) =
    rules_two (offence_if (nat_lt longest_chain (1 + longest cs (calls_of (statements_placeless d.body)))) TooMany nowhere) (long_chains ((d.name.word, 1 + longest cs (calls_of (statements_placeless d.body))) ∷ cs) (macros_placeless ds))
    (offence_if (nat_lt longest_chain (chain_to cs d)) TooMany d.name.place) (long_chains ((d.name.word, chain_to cs d) ∷ cs) ds)
    (rules_if _ _ TooMany nowhere d.name.place (ap (λ (ws : List Word). nat_lt longest_chain (1 + longest cs ws)) (calls_bare d.body)))
    (ap (λ (ws : List Word). rules (long_chains ((d.name.word, 1 + longest cs ws) ∷ cs) (macros_placeless ds))) (calls_bare d.body) ∙ chains_bare ((d.name.word, chain_to cs d) ∷ cs) ds)

-- ---- definitions

form_used : (ds : Depths) (m : Form) → nesting.used ds (form_placeless m) ≡ nesting.used ds m
form_used ds (name x) = refl
form_used ds m = refl

mutual
  nests_bare : (t : Tree) (ds : Depths) → nests (tree_placeless t) ds ≡ nests t ds
  nests_bare (node m at ts) ds = (λ i. max (form_used ds m i) (nest (seen_bare m i) (trees_placeless ts) ds)) ∙ ap (max (nesting.used ds m)) (nest_bare (seen_names m) ts ds)

  nest_bare : (names : List (List Word)) (ts : Trees) (ds : Depths) → nest names (trees_placeless ts) ds ≡ nest names ts ds
  nest_bare names no_trees ds = refl
  nest_bare [] (tree t ts) ds = λ i. max (1 + nests_bare t ds i) (nest_bare [] ts ds i)
  nest_bare (xs ∷ names) (tree t ts) ds = λ i. max (1 + nests_bare t (hidden xs ds) i) (nest_bare names ts ds i)

definition_nests_bare : (ds : Depths) (e : Definition) → nests (tree_placeless e.body) (hidden (words (names_placeless e.params)) ds) ≡ definition_nests ds (inner e)
definition_nests_bare ds e = ap (λ (xs : List Word). nests (tree_placeless e.body) (hidden xs ds)) (words_bare e.params) ∙ nests_bare e.body (hidden (words e.params) ds)

deep_bare : (ds : Depths) (es : List Definition) → rules (deep_definitions ds (definitions_placeless es)) ≡ rules (deep_definitions ds es)
deep_bare ds [] = refl
deep_bare ds (e ∷ es) =
    rules_two (offence_if (nat_lt deepest_definition deep) TooMany nowhere) (deep_definitions ((e.name.word, 1 + deep) ∷ ds) (definitions_placeless es))
    (offence_if (nat_lt deepest_definition (definition_nests ds (inner e))) TooMany e.name.place) (deep_definitions (depths ds (inner e ∷ [])) es)
    (rules_if _ _ TooMany nowhere e.name.place (ap (nat_lt deepest_definition) (definition_nests_bare ds e)))
    (ap (λ (n : ℕ). rules (deep_definitions ((e.name.word, 1 + n) ∷ ds) (definitions_placeless es))) (definition_nests_bare ds e) ∙ deep_bare (depths ds (inner e ∷ [])) es)
  where
    deep : ℕ
    deep = nests (tree_placeless e.body) (hidden (words (names_placeless e.params)) ds)

pub count_offences_bare : (a : Algorithm) → rules (count_offences (placeless a)) ≡ rules (count_offences a)
count_offences_bare a =
    rules_two (first_past most_variables (variable_names b)) _ (first_past most_variables (variable_names a)) _ (past_bare most_variables (variable_names a) _ (variables_bare a))
    (rules_two (first_past most_processes (process_names b.main)) _ (first_past most_processes (process_names a.main)) _ (past_bare most_processes (process_names a.main) _ (process_names_bare a.main))
    (rules_two (first_past most_procedures (procedure_names b)) _ (first_past most_procedures (procedure_names a)) _ (past_bare most_procedures (procedure_names a) _ (procedures_bare a))
    (rules_two (first_past most_labels (all_label_names b)) _ (first_past most_labels (all_label_names a)) _ (past_bare most_labels (all_label_names a) _ (label_names_bare a))
    (rules_two (long_chains [] b.macros) (deep_definitions [] b.definitions) (long_chains [] a.macros) (deep_definitions [] a.definitions) (chains_bare [] a.macros) (deep_bare [] a.definitions)))))
  where
    b : Algorithm
    b = placeless a

-- ---- sizes

weights_bare : (m : Form) → weights (form_placeless m) ≡ weights m
weights_bare (binding b gs) = each_same names_placeless (λ (g : List Name). length g) (λ (g : List Name). length g) (λ g. length-map g name_placeless) gs
weights_bare m = refl

form_nodes_bare : (m : Form) (n : ℕ) → form_nodes (form_placeless m) n ≡ form_nodes m n
form_nodes_bare (name x) n = refl
form_nodes_bare m n = refl

mutual
  nodes_bare : (t : Tree) → nodes (tree_placeless t) ≡ nodes t
  nodes_bare (node m at ts) = (λ i. form_nodes (form_placeless m) (weighed (weights_bare m i) (trees_placeless ts))) ∙ ap (form_nodes (form_placeless m)) (weighed_bare (weights m) ts) ∙ form_nodes_bare m (weighed (weights m) ts)

  weighed_bare : (ks : List ℕ) (ts : Trees) → weighed ks (trees_placeless ts) ≡ weighed ks ts
  weighed_bare ks no_trees = refl
  weighed_bare [] (tree t ts) = λ i. nodes_bare t i + weighed_bare [] ts i
  weighed_bare (k ∷ ks) (tree t ts) = λ i. k * nodes_bare t i + weighed_bare ks ts i

form_nesting_bare : (m : Form) (n : ℕ) → form_nesting (form_placeless m) n ≡ form_nesting m n
form_nesting_bare (name x) n = refl
form_nesting_bare m n = refl

mutual
  nesting_bare : (t : Tree) → tree_nesting (tree_placeless t) ≡ tree_nesting t
  nesting_bare (node m at ts) = ap (form_nesting (form_placeless m)) (nestings_bare ts) ∙ form_nesting_bare m (trees_nesting ts)

  nestings_bare : (ts : Trees) → trees_nesting (trees_placeless ts) ≡ trees_nesting ts
  nestings_bare no_trees = refl
  nestings_bare (tree t ts) = λ i. max (1 + nesting_bare t i) (nestings_bare ts i)

in_left_bare : (plus : ℕ → ℕ → ℕ) (m : Form) (n k : ℕ) → in_left plus (form_placeless m) n k ≡ in_left plus m n k
in_left_bare plus (strict (except ns)) n k = refl
in_left_bare plus (strict o) n k = refl
in_left_bare plus m n k = refl

after_first_bare : (ts : Trees) → after_first (trees_placeless ts) ≡ trees_placeless (after_first ts)
after_first_bare no_trees = refl
after_first_bare (tree t ts) = refl

mutual
  subscripts_bare : (t : Tree) → subscript_nodes (tree_placeless t) ≡ subscript_nodes t
  subscripts_bare (node m at ts) =
      in_left_bare (λ n k. n + k) m (first_subscript_nodes (trees_placeless ts)) (weighed [] (after_first (trees_placeless ts)))
      ∙ (λ i. in_left (λ n k. n + k) m (first_subscripts_bare ts i) ((ap (weighed []) (after_first_bare ts) ∙ weighed_bare [] (after_first ts)) i))

  first_subscripts_bare : (ts : Trees) → first_subscript_nodes (trees_placeless ts) ≡ first_subscript_nodes ts
  first_subscripts_bare no_trees = refl
  first_subscripts_bare (tree l ts) = subscripts_bare l

mutual
  left_bare : (t : Tree) → left_nesting (tree_placeless t) ≡ left_nesting t
  left_bare (node m at ts) =
      in_left_bare max m (first_left_nesting (trees_placeless ts)) (trees_nesting (after_first (trees_placeless ts)))
      ∙ (λ i. in_left max m (first_left_bare ts i) ((ap trees_nesting (after_first_bare ts) ∙ nestings_bare (after_first ts)) i))

  first_left_bare : (ts : Trees) → first_left_nesting (trees_placeless ts) ≡ first_left_nesting ts
  first_left_bare no_trees = refl
  first_left_bare (tree l ts) = left_bare l

expression_bare : (t : Tree) → sizes.expression (tree_placeless t) ≡ sizes.expression t
expression_bare t = λ i. expression_size (nodes_bare t i) (nesting_bare t i)

side_bare : (t : Tree) → sizes.left (tree_placeless t) ≡ sizes.left t
side_bare t = λ i. expression_size (1 + subscripts_bare t i) (left_bare t i)

trees_sized : (ts : Trees) → of_trees sizes (trees_placeless ts) ≡ of_trees sizes ts
trees_sized no_trees = refl
trees_sized (tree t ts) = λ i. sum (expression_bare t i) (trees_sized ts i)

assignments_sized : (ms : Assignments) → of_assignments sizes (assignments_placeless ms) ≡ of_assignments sizes ms
assignments_sized no_assignments = refl
assignments_sized (assignment l e ms) = λ i. sum (side_bare l i) (sum (expression_bare e i) (assignments_sized ms i))

binds_sized : (bs : Binds) → of_binds sizes (binds_placeless bs) ≡ of_binds sizes bs
binds_sized no_binds = refl
binds_sized (one_of x e bs) = λ i. sum (expression_bare e i) (binds_sized bs i)
binds_sized (is x e bs) = λ i. sum (expression_bare e i) (binds_sized bs i)

as_many : (bs : Binds) → how_many (binds_placeless bs) ≡ how_many bs
as_many no_binds = refl
as_many (one_of x e bs) = ap (λ (n : ℕ). suc n) (as_many bs)
as_many (is x e bs) = ap (λ (n : ℕ). suc n) (as_many bs)

mutual
  one_sized : (st : Statement) → of_one sizes call_size (statement_placeless st) ≡ of_one sizes call_size st
  one_sized (assign ms) = ap one_node_more (assignments_sized ms)
  one_sized (await e) = ap one_node_more (expression_bare e)
  one_sized (print e) = ap one_node_more (expression_bare e)
  one_sized (assert e) = ap one_node_more (expression_bare e)
  one_sized skip = refl
  one_sized (branch e a b) = λ i. one_node_more (sum (expression_bare e i) (deeper 1 (sum (all_sized a i) (all_sized b i))))
  one_sized (either bs) = λ i. one_node_more (deeper 1 (some_sized bs i))
  one_sized (with bs b) = λ i. one_node_more (sum (binds_sized bs i) (deeper (as_many bs i) (all_sized b i)))
  one_sized (while e b) = λ i. one_node_more (sum (expression_bare e i) (deeper 1 (all_sized b i)))
  one_sized (goto l) = refl
  one_sized (macro m ts) = ap one_node_more (trees_sized ts)
  one_sized (call p ts) = ap one_node_more (trees_sized ts)
  one_sized return = refl

  all_sized : (b : Statements) → of_all sizes call_size (statements_placeless b) ≡ of_all sizes call_size b
  all_sized done = refl
  all_sized (then at st rest) = λ i. sum (one_sized st i) (all_sized rest i)
  all_sized (mark l k rest) = ap one_label_more (all_sized rest)

  some_sized : (bs : Branches) → of_some sizes call_size (branches_placeless bs) ≡ of_some sizes call_size bs
  some_sized no_branches = refl
  some_sized (or b bs) = λ i. sum (all_sized b i) (some_sized bs i)

start_sized : (s : Start) → of_start sizes (start_placeless s) ≡ of_start sizes s
start_sized unset = refl
start_sized (equals e) = expression_bare e
start_sized (among e) = expression_bare e

declared_sized : (ds : List Declaration) → of_declared sizes (declarations_placeless ds) ≡ of_declared sizes ds
declared_sized [] = refl
declared_sized (d ∷ ds) = λ i. sum (start_sized d.start i) (declared_sized ds i)

definitions_sized : (ds : List Definition) → of_each sizes (λ (d : Definition). sizes.expression d.body) (definitions_placeless ds) ≡ of_each sizes (λ d. sizes.expression d.body) ds
definitions_sized [] = refl
definitions_sized (d ∷ ds) = λ i. sum (expression_bare d.body i) (definitions_sized ds i)

procedures_sized : (ps : List Procedure) → of_each sizes (of_procedure sizes call_size) (procedures_placeless ps) ≡ of_each sizes (of_procedure sizes call_size) ps
procedures_sized [] = refl
procedures_sized (p ∷ ps) = λ i. sum (sum (declared_sized p.params i) (sum (declared_sized p.variables i) (all_sized p.body i))) (procedures_sized ps i)

processes_sized : (ps : List Process) → of_each sizes (of_process sizes call_size) (processes_placeless ps) ≡ of_each sizes (of_process sizes call_size) ps
processes_sized [] = refl
processes_sized (p ∷ ps) = λ i. sum (sum (expression_bare p.identity i) (sum (declared_sized p.variables i) (all_sized p.body i))) (processes_sized ps i)

main_sized : (m : Main) → of_main sizes call_size (main_placeless m) ≡ of_main sizes call_size m
main_sized (alone b) = all_sized b
main_sized (processes ps) = processes_sized ps

size_bare : (a : Algorithm) → of_algorithm sizes call_size (placeless a) ≡ of_algorithm sizes call_size a
size_bare a = λ i. sum (declared_sized a.globals i) (sum (definitions_sized a.definitions i) (sum (procedures_sized a.procedures i) (main_sized a.main i)))

expansion_bare : (a : Algorithm) → expansion (placeless a) ≡ placeless (expansion a)
expansion_bare a = λ i. record {
  name = name_placeless a.name;
  fair = a.fair;
  globals = declarations_placeless a.globals;
  definitions = definitions_placeless a.definitions;
  macros = [];
  procedures = procedures a.procedures i;
  main = mains a.main i;
}
  where
    bodies : (b : Statements) → expanded (reverse (macros_placeless a.macros)) (statements_placeless b) ≡ statements_placeless (expanded (reverse a.macros) b)
    bodies b = sym (expanded_bare a.macros b)

    procedures : (ps : List Procedure)
        → map (λ (p : Procedure). record { name = p.name; params = p.params; variables = p.variables; body = expanded (reverse (macros_placeless a.macros)) p.body }) (procedures_placeless ps)
        ≡ procedures_placeless (map (λ (p : Procedure). record { name = p.name; params = p.params; variables = p.variables; body = expanded (reverse a.macros) p.body }) ps)
    procedures [] = refl
    procedures (p ∷ ps) =
        λ i. record { name = name_placeless p.name; params = declarations_placeless p.params; variables = declarations_placeless p.variables; body = bodies p.body i } ∷ procedures ps i

    mains : (m : Main) → expanded_main (expanded (reverse (macros_placeless a.macros))) (main_placeless m) ≡ main_placeless (expanded_main (expanded (reverse a.macros)) m)
    mains (alone b) = ap alone (bodies b)
    mains (processes ps) = ap processes (each ps)
      where
        each : (ps : List Process)
            → map (λ (p : Process). record { name = p.name; fairness = p.fairness; several = p.several; identity = p.identity; variables = p.variables; body = expanded (reverse (macros_placeless a.macros)) p.body }) (processes_placeless ps)
            ≡ processes_placeless (map (λ (p : Process). record { name = p.name; fairness = p.fairness; several = p.several; identity = p.identity; variables = p.variables; body = expanded (reverse a.macros) p.body }) ps)
        each [] = refl
        each (p ∷ ps) = λ i. record {
          name = name_placeless p.name;
          fairness = p.fairness;
          several = p.several;
          identity = tree_placeless p.identity;
          variables = declarations_placeless p.variables;
          body = bodies p.body i;
        } ∷ each ps i

pub too_large_bare : (a : Algorithm) → rules (too_large (placeless a)) ≡ rules (too_large a)
too_large_bare a =
    rules_if _ _ rule.TooLarge nowhere a.name.place
    (ap (λ (b : Algorithm). is_too_large (of_algorithm sizes call_size b)) (expansion_bare a) ∙ ap is_too_large (size_bare (expansion a)))
