-- Which names are declared twice, which are reserved, and what of the standard modules is wanted, rests on no place.
use Rattle.std.proofs.Common.{◌≡◌, List, [], ◌∷◌, ◌++◌, map, flat_map, Bool, false, ◌&&◌, ◌||◌, not, codes, refl, ap, ◌∙◌}
use Rattle.tla_token.specs.declared.place.Place.{Place}
use Rattle.tla_token.specs.declared.rule.Rule.TheVariants.{Duplicate, Reserved, NeedsModule, Infinite}
use Rattle.tla_token.specs.Signs.{is_among}
use Rattle.tla_token.specs.Words.{is_own, is_standard}
use Rattle.tla_tree.specs.Tree.{Word, Name, words, Form, strings, strict, operator, except, Tree, node, Trees, no_trees, tree}
use Rattle.tla_tree.specs.laws.Placeless.{name_placeless, names_placeless, form_placeless, tree_placeless, trees_placeless}
use Rattle.tla_value.specs.Outside.{Outside}
use Rattle.tla_value.specs.StandardModules.{sequence_modules, tlc_modules, extends_one, has_operator, is_member, is_last}
use Rattle.pcal_tree.specs.Algorithm.{nowhere, Assignments, no_assignments, assignment, Binds, no_binds, one_of, is, Statement, assign, print, assert, branch, either, with, while, macro, call, Statements, done, then, mark, Branches, no_branches, or, Declaration, Definition, Macro, Procedure, Process, Main, alone, processes, Routine, locals, routines, Algorithm}
use Rattle.pcal_tree.specs.BoundNames.{Lists, all_of, bound_lists}
use Rattle.pcal_tree.specs.Expressions.{StatementAt, statements_inside, statements_in, statements_in_some, bodies, all_statements, tree_list, expressions_of_assignments, expressions_of_binds, expressions_of, identities, all_declarations, all_expressions}
use Rattle.pcal_tree.specs.Offences.{offence_if}
use Rattle.pcal_tree.specs.OffencesLabels.{Label, all_labels}
use Rattle.pcal_tree.specs.OffencesModules.{sign_offences, strings_offences, text_offences, text_offences_in, statement_needs, procedure_needs, module_needs}
use Rattle.pcal_tree.specs.OffencesNames.{repeated, names_of, process_names, repeated_in_main, kept_names, repeated_names}
use Rattle.pcal_tree.specs.OffencesReserved.{names_of_definition, names_of_macro, names_of_procedure, names_of_process, names_of_main, declared_names, reserved_name, reserved_label, reserved_outside, reserved_declared}
use Rattle.pcal_tree.specs.Outside.{unit_names}
use Rattle.pcal_tree.specs.Placeless.{assignments_placeless, binds_placeless, statement_placeless, statements_placeless, branches_placeless, macros_placeless, procedures_placeless, main_placeless, placeless}
use Rattle.pcal_tree.specs.Reads.{initial}
use Rattle.translation.proofs.AgainJumps.{all_labels_bare}
use Rattle.translation.proofs.AgainOffences.{rules, rules_two, rules_if, rules_each}
use Rattle.translation.proofs.AgainParts.{declaration_placeless, definition_placeless, macro_placeless, procedure_placeless, process_placeless, declarations_each, definitions_each, macros_each, procedures_each, processes_each, names_of_bare, own_names_bare, process_names_bare}
use Rattle.translation.proofs.AgainUsed.{initial_bare}
use Rattle.translation.proofs.AgainUses.{last_bare, member_bare}
use Rattle.translation.proofs.BareNames.{all_bare, both, bound_bare, each_list, each_one, label_placeless, words_bare}
use Rattle.translation.proofs.PlacelessJumps.{routine_placeless, locals_bare}
use Rattle.translation.proofs.PlacelessUnits.{all_routines}

-- names that are those without their places
abbrev Bare : List Name → List Name → Type 0
Bare xs ys = ys ≡ names_placeless xs

two : (xs ys us vs : List Name) → Bare xs us → Bare ys vs → Bare (xs ++ ys) (us ++ vs)
two = both name_placeless

-- ---- names declared twice

repeated_bare : (seen : List Word) (ns : List Name) → rules (repeated seen (names_placeless ns)) ≡ rules (repeated seen ns)
repeated_bare seen [] = refl
repeated_bare seen (n ∷ ns) =
    rules_two (offence_if (is_among seen n.word) Duplicate nowhere) (repeated (n.word ∷ seen) (names_placeless ns)) (offence_if (is_among seen n.word) Duplicate n.place) (repeated (n.word ∷ seen) ns)
    (rules_if (is_among seen n.word) (is_among seen n.word) Duplicate nowhere n.place refl) (repeated_bare (n.word ∷ seen) ns)

kept_names_bare : (a : Algorithm) → Bare (kept_names a) (kept_names (placeless a))
kept_names_bare a =
    two (names_of a.globals) (map (λ d. d.name) a.definitions) _ _ (names_of_bare a.globals)
    (ap (map (λ (d : Definition). d.name)) (definitions_each a.definitions) ∙ each_one definition_placeless name_placeless (λ d. d.name) (λ d. d.name) (λ d. refl) a.definitions)

unit_names_bare : (a : Algorithm)
    → Bare (map (λ d. d.name) a.macros ++ (map (λ p. p.name) a.procedures ++ process_names a.main))
    (map (λ d. d.name) (macros_placeless a.macros) ++ (map (λ p. p.name) (procedures_placeless a.procedures) ++ process_names (main_placeless a.main)))
unit_names_bare a =
    two (map (λ d. d.name) a.macros) (map (λ p. p.name) a.procedures ++ process_names a.main) _ _
    (ap (map (λ (d : Macro). d.name)) (macros_each a.macros) ∙ each_one macro_placeless name_placeless (λ d. d.name) (λ d. d.name) (λ d. refl) a.macros)
    (two (map (λ p. p.name) a.procedures) (process_names a.main) _ _
    (ap (map (λ (p : Procedure). p.name)) (procedures_each a.procedures) ∙ each_one procedure_placeless name_placeless (λ p. p.name) (λ p. p.name) (λ p. refl) a.procedures)
    (process_names_bare a.main))

repeated_main : (m : Main) → rules (repeated_in_main (main_placeless m)) ≡ rules (repeated_in_main m)
repeated_main (alone b) = refl
repeated_main (processes ps) =
    ap (λ (qs : List Process). rules (flat_map (λ p. repeated [] (names_of p.variables)) qs)) (processes_each ps)
    ∙ rules_each process_placeless (λ p. repeated [] (names_of p.variables)) (λ p. repeated [] (names_of p.variables))
    (λ p. ap (λ (ns : List Name). rules (repeated [] ns)) (names_of_bare p.variables) ∙ repeated_bare [] (names_of p.variables)) ps

pub repeated_names_bare : (a : Algorithm) (o : Outside) → rules (repeated_names (placeless a) o) ≡ rules (repeated_names a o)
repeated_names_bare a o =
    rules_two (repeated (unit_names o) (kept_names b)) _ (repeated (unit_names o) (kept_names a)) _
    (ap (λ (ns : List Name). rules (repeated (unit_names o) ns)) (kept_names_bare a) ∙ repeated_bare (unit_names o) (kept_names a))
    (rules_two (repeated (words (kept_names b)) (units b)) _ (repeated (words (kept_names a)) (units a)) _
    ((λ i. rules (repeated (words (kept_names_bare a i)) (unit_names_bare a i))) ∙ ap (λ (ws : List Word). rules (repeated ws (names_placeless (units a)))) (words_bare (kept_names a))
    ∙ repeated_bare (words (kept_names a)) (units a))
    (rules_two (flat_map (λ d. repeated [] d.params) b.definitions) _ (flat_map (λ d. repeated [] d.params) a.definitions) _
    (ap (λ (ds : List Definition). rules (flat_map (λ d. repeated [] d.params) ds)) (definitions_each a.definitions)
    ∙ rules_each definition_placeless (λ d. repeated [] d.params) (λ d. repeated [] d.params) (λ d. repeated_bare [] d.params) a.definitions)
    (rules_two (flat_map (λ d. repeated [] d.params) b.macros) _ (flat_map (λ d. repeated [] d.params) a.macros) _
    (ap (λ (ds : List Macro). rules (flat_map (λ d. repeated [] d.params) ds)) (macros_each a.macros)
    ∙ rules_each macro_placeless (λ d. repeated [] d.params) (λ d. repeated [] d.params) (λ d. repeated_bare [] d.params) a.macros)
    (rules_two (flat_map (λ p. repeated [] (names_of (p.params ++ p.variables))) b.procedures) _ (flat_map (λ p. repeated [] (names_of (p.params ++ p.variables))) a.procedures) _
    (ap (λ (ps : List Procedure). rules (flat_map (λ p. repeated [] (names_of (p.params ++ p.variables))) ps)) (procedures_each a.procedures)
    ∙ rules_each procedure_placeless (λ p. repeated [] (names_of (p.params ++ p.variables))) (λ p. repeated [] (names_of (p.params ++ p.variables)))
    (λ p. ap (λ (ns : List Name). rules (repeated [] ns)) (own_names_bare p.params p.variables) ∙ repeated_bare [] (names_of (p.params ++ p.variables))) a.procedures)
    (rules_two (repeated_in_main b.main) (flat_map (repeated []) (bound_lists b)) (repeated_in_main a.main) (flat_map (repeated []) (bound_lists a)) (repeated_main a.main)
    (ap (λ (ls : Lists). rules (flat_map (repeated []) ls)) (bound_bare a) ∙ rules_each names_placeless (repeated []) (repeated []) (repeated_bare []) (bound_lists a)))))))
  where
    b : Algorithm
    b = placeless a

    units : Algorithm → List Name
    units c = map (λ d. d.name) c.macros ++ (map (λ p. p.name) c.procedures ++ process_names c.main)

-- ---- reserved names

main_names_bare : (m : Main) → Bare (names_of_main m) (names_of_main (main_placeless m))
main_names_bare (alone b) = refl
main_names_bare (processes ps) =
    ap (flat_map names_of_process) (processes_each ps)
    ∙ each_list process_placeless name_placeless names_of_process names_of_process (λ p. ap (λ (ns : List Name). name_placeless p.name ∷ ns) (names_of_bare p.variables)) ps

declared_names_bare : (a : Algorithm) → Bare (declared_names a) (declared_names (placeless a))
declared_names_bare a =
    two (names_of a.globals) _ _ _ (names_of_bare a.globals)
    (two (flat_map names_of_definition a.definitions) _ _ _
    (ap (flat_map names_of_definition) (definitions_each a.definitions) ∙ each_list definition_placeless name_placeless names_of_definition names_of_definition (λ d. refl) a.definitions)
    (two (flat_map names_of_macro a.macros) _ _ _ (ap (flat_map names_of_macro) (macros_each a.macros) ∙ each_list macro_placeless name_placeless names_of_macro names_of_macro (λ d. refl) a.macros)
    (two (flat_map names_of_procedure a.procedures) _ _ _
    (ap (flat_map names_of_procedure) (procedures_each a.procedures)
    ∙ each_list procedure_placeless name_placeless names_of_procedure names_of_procedure (λ p. ap (λ (ns : List Name). name_placeless p.name ∷ ns) (own_names_bare p.params p.variables)) a.procedures)
    (two (names_of_main a.main) (all_of (bound_lists a)) _ _ (main_names_bare a.main) (ap all_of (bound_bare a) ∙ all_bare (bound_lists a))))))

pub reserved_bare : (a : Algorithm) (o : Outside) → rules (reserved_declared (placeless a) o) ≡ rules (reserved_declared a o)
reserved_bare a o =
    rules_two (reserved_outside o) _ (reserved_outside o) _ refl
    (rules_two (flat_map (reserved_name o) (declared_names (placeless a))) (flat_map reserved_label (all_labels (placeless a))) (flat_map (reserved_name o) (declared_names a)) (flat_map reserved_label (all_labels a))
    (ap (λ (ns : List Name). rules (flat_map (reserved_name o) ns)) (declared_names_bare a)
    ∙ rules_each name_placeless (reserved_name o) (reserved_name o) (λ n. rules_if (is_own n.word || is_standard o.extended n.word) _ Reserved nowhere n.place refl) (declared_names a))
    (ap (λ (ls : List Label). rules (flat_map reserved_label ls)) (all_labels_bare a)
    ∙ rules_each label_placeless reserved_label reserved_label (λ l. rules_if (is_among (codes "Done" ∷ codes "Error" ∷ []) l.name.word) _ Reserved nowhere l.name.place refl) (all_labels a)))

-- ---- all expressions and statements

abbrev pub statement_at_placeless : StatementAt → StatementAt
statement_at_placeless s = record { place = nowhere; statement = statement_placeless s.statement }

abbrev Listed : List StatementAt → List StatementAt → Type 0
Listed xs ys = ys ≡ map statement_at_placeless xs

join : (xs ys us vs : List StatementAt) → Listed xs us → Listed ys vs → Listed (xs ++ ys) (us ++ vs)
join = both statement_at_placeless

mutual
  inside_listed : (st : Statement) → Listed (statements_inside st) (statements_inside (statement_placeless st))
  inside_listed (branch e a b) = join (statements_in a) (statements_in b) _ _ (statements_listed a) (statements_listed b)
  inside_listed (either bs) = some_listed bs
  inside_listed (with bs b) = statements_listed b
  inside_listed (while e b) = statements_listed b
  inside_listed st = refl

  statements_listed : (b : Statements) → Listed (statements_in b) (statements_in (statements_placeless b))
  statements_listed done = refl
  statements_listed (then at st rest) =
      ap (λ (us : List StatementAt). record { place = nowhere; statement = statement_placeless st } ∷ us) (join (statements_inside st) (statements_in rest) _ _ (inside_listed st) (statements_listed rest))
  statements_listed (mark l k rest) = statements_listed rest

  some_listed : (bs : Branches) → Listed (statements_in_some bs) (statements_in_some (branches_placeless bs))
  some_listed no_branches = refl
  some_listed (or b bs) = join (statements_in b) (statements_in_some bs) _ _ (statements_listed b) (some_listed bs)

bodies_bare : (a : Algorithm) → bodies (placeless a) ≡ map statements_placeless (bodies a)
bodies_bare a =
    both statements_placeless (map (λ d. d.body) a.macros) (map (λ u. u.body) (routines a)) _ _
    (ap (map (λ (d : Macro). d.body)) (macros_each a.macros) ∙ each_one macro_placeless statements_placeless (λ d. d.body) (λ d. d.body) (λ d. refl) a.macros)
    (ap (map (λ (u : Routine). u.body)) (all_routines a) ∙ each_one routine_placeless statements_placeless (λ u. u.body) (λ u. u.body) (λ u. refl) (routines a))

all_listed : (a : Algorithm) → Listed (all_statements a) (all_statements (placeless a))
all_listed a =
    ap (flat_map statements_in) (bodies_bare a) ∙ each_list statements_placeless statement_at_placeless statements_in statements_in statements_listed (bodies a)

abbrev Written : List Tree → List Tree → Type 0
Written xs ys = ys ≡ map tree_placeless xs

trees_written : (ts : Trees) → Written (tree_list ts) (tree_list (trees_placeless ts))
trees_written no_trees = refl
trees_written (tree t ts) = ap (λ us. tree_placeless t ∷ us) (trees_written ts)

assignments_written : (ms : Assignments) → Written (expressions_of_assignments ms) (expressions_of_assignments (assignments_placeless ms))
assignments_written no_assignments = refl
assignments_written (assignment l e ms) = ap (λ us. tree_placeless l ∷ tree_placeless e ∷ us) (assignments_written ms)

binds_written : (bs : Binds) → Written (expressions_of_binds bs) (expressions_of_binds (binds_placeless bs))
binds_written no_binds = refl
binds_written (one_of x e bs) = ap (λ us. tree_placeless e ∷ us) (binds_written bs)
binds_written (is x e bs) = ap (λ us. tree_placeless e ∷ us) (binds_written bs)

statement_written : (st : Statement) → Written (expressions_of st) (expressions_of (statement_placeless st))
statement_written (assign ms) = assignments_written ms
statement_written (with bs b) = binds_written bs
statement_written (macro m ts) = trees_written ts
statement_written (call p ts) = trees_written ts
statement_written st = refl

identities_written : (m : Main) → Written (identities m) (identities (main_placeless m))
identities_written (alone b) = refl
identities_written (processes ps) = ap (map (λ (p : Process). p.identity)) (processes_each ps) ∙ each_one process_placeless tree_placeless (λ p. p.identity) (λ p. p.identity) (λ p. refl) ps

pub declarations_all : (a : Algorithm) → all_declarations (placeless a) ≡ map declaration_placeless (all_declarations a)
declarations_all a =
    both declaration_placeless a.globals (flat_map locals (routines a)) _ _ (declarations_each a.globals)
    (ap (flat_map locals) (all_routines a)
    ∙ each_list routine_placeless declaration_placeless locals locals (λ u. locals_bare u ∙ declarations_each (locals u)) (routines a))

expressions_written : (a : Algorithm) → Written (all_expressions a) (all_expressions (placeless a))
expressions_written a =
    both tree_placeless (flat_map (λ d. initial d.start) (all_declarations a)) _ _ _
    (ap (flat_map (λ (d : Declaration). initial d.start)) (declarations_all a)
    ∙ each_list declaration_placeless tree_placeless (λ d. initial d.start) (λ d. initial d.start) (λ d. initial_bare d.start) (all_declarations a))
    (both tree_placeless (map (λ d. d.body) a.definitions) _ _ _
    (ap (map (λ (d : Definition). d.body)) (definitions_each a.definitions) ∙ each_one definition_placeless tree_placeless (λ d. d.body) (λ d. d.body) (λ d. refl) a.definitions)
    (both tree_placeless (identities a.main) (flat_map (λ st. expressions_of st.statement) (all_statements a)) _ _ (identities_written a.main)
    (ap (flat_map (λ (st : StatementAt). expressions_of st.statement)) (all_listed a)
    ∙ each_list statement_at_placeless tree_placeless (λ st. expressions_of st.statement) (λ st. expressions_of st.statement) (λ st. statement_written st.statement) (all_statements a))))

-- ---- what is wanted of modules

module _ (extended : List Word) where
  sign_bare : (m : Form) (at : Place) → rules (sign_offences extended (form_placeless m) nowhere) ≡ rules (sign_offences extended m at)
  sign_bare (strict (operator o)) at = rules_if (not (has_operator extended o)) _ NeedsModule nowhere at refl
  sign_bare (strict (except ns)) at = refl
  sign_bare (strict o) at = refl
  sign_bare m at = refl

  strings_bare : (right : Bool) (m : Form) (at : Place) → rules (strings_offences right (form_placeless m) nowhere) ≡ rules (strings_offences right m at)
  strings_bare right strings at = rules_if (not right) _ Infinite nowhere at refl
  strings_bare right m at = refl

  mutual
    text_bare : (right : Bool) (t : Tree) → rules (text_offences extended right (tree_placeless t)) ≡ rules (text_offences extended right t)
    text_bare right (node m at ts) =
        rules_two (sign_offences extended (form_placeless m) nowhere) (strings_offences right (form_placeless m) nowhere ++ text_offences_in extended (is_member (form_placeless m)) (trees_placeless ts))
        (sign_offences extended m at) (strings_offences right m at ++ text_offences_in extended (is_member m) ts) (sign_bare m at)
        (rules_two (strings_offences right (form_placeless m) nowhere) (text_offences_in extended (is_member (form_placeless m)) (trees_placeless ts)) (strings_offences right m at) (text_offences_in extended (is_member m) ts)
        (strings_bare right m at) (ap (λ (b : Bool). rules (text_offences_in extended b (trees_placeless ts))) (member_bare m) ∙ texts_bare (is_member m) ts))

    texts_bare : (right : Bool) (ts : Trees) → rules (text_offences_in extended right (trees_placeless ts)) ≡ rules (text_offences_in extended right ts)
    texts_bare right no_trees = refl
    texts_bare right (tree t ts) =
        rules_two (text_offences extended (right && is_last (trees_placeless ts)) (tree_placeless t)) (text_offences_in extended right (trees_placeless ts))
        (text_offences extended (right && is_last ts) t) (text_offences_in extended right ts)
        (ap (λ (b : Bool). rules (text_offences extended (right && b) (tree_placeless t))) (last_bare ts) ∙ text_bare (right && is_last ts) t) (texts_bare right ts)

  needs_bare : (st : Statement) (at : Place) → rules (statement_needs extended (statement_placeless st) nowhere) ≡ rules (statement_needs extended st at)
  needs_bare (print e) at = rules_if (not (extends_one extended tlc_modules)) _ NeedsModule nowhere at refl
  needs_bare (assert e) at = rules_if (not (extends_one extended tlc_modules)) _ NeedsModule nowhere at refl
  needs_bare st at = refl

pub module_needs_bare : (a : Algorithm) (o : Outside) → rules (module_needs (placeless a) o) ≡ rules (module_needs a o)
module_needs_bare a o =
    rules_two (flat_map (text_offences o.extended false) (all_expressions b)) _ (flat_map (text_offences o.extended false) (all_expressions a)) _
    (ap (λ (es : List Tree). rules (flat_map (text_offences o.extended false) es)) (expressions_written a)
    ∙ rules_each tree_placeless (text_offences o.extended false) (text_offences o.extended false) (text_bare o.extended false) (all_expressions a))
    (rules_two (flat_map (λ st. statement_needs o.extended st.statement st.place) (all_statements b)) (flat_map (procedure_needs o.extended) b.procedures)
    (flat_map (λ st. statement_needs o.extended st.statement st.place) (all_statements a)) (flat_map (procedure_needs o.extended) a.procedures)
    (ap (λ (ss : List StatementAt). rules (flat_map (λ st. statement_needs o.extended st.statement st.place) ss)) (all_listed a)
    ∙ rules_each statement_at_placeless (λ st. statement_needs o.extended st.statement st.place) (λ st. statement_needs o.extended st.statement st.place) (λ st. needs_bare o.extended st.statement st.place) (all_statements a))
    (ap (λ (ps : List Procedure). rules (flat_map (procedure_needs o.extended) ps)) (procedures_each a.procedures)
    ∙ rules_each procedure_placeless (procedure_needs o.extended) (procedure_needs o.extended) (λ p. rules_if (not (extends_one o.extended sequence_modules)) _ NeedsModule nowhere p.name.place refl) a.procedures))
  where
    b : Algorithm
    b = placeless a
