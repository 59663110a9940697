-- Whether names are used as they may be rests on no place.
use Rattle.std.proofs.Common.{◌≡◌, ℕ, suc, length, nat_eq, List, [], ◌∷◌, ◌++◌, map, flat_map, reverse, Bool, true, false, ◌&&◌, not, cond, bytes_eq, codes, Option, Some, None, option_map, refl, sym, ap, ◌∙◌}
use Rattle.std.proofs.lemmas.List.{length-map}
use Rattle.tla_token.specs.declared.place.Place.{Place}
use Rattle.tla_token.specs.declared.rule.Rule.TheVariants.{Arity, NeedsModule, Infinite}
use Rattle.tla_tree.specs.Tree.{Word, Name, words, Form, name, operator_call, Tree, node, Trees, no_trees, tree, seen_names, root_place}
use Rattle.tla_tree.specs.laws.Placeless.{name_placeless, names_placeless, form_placeless, tree_placeless, trees_placeless}
use Rattle.tla_value.specs.Outside.{Outside}
use Rattle.tla_value.specs.StandardModules.{standard_table, is_member, is_last}
use Rattle.pcal_tree.specs.Algorithm.{nowhere, Assignments, no_assignments, assignment, Binds, no_binds, one_of, is, Statement, assign, await, print, assert, skip, branch, either, with, while, goto, macro, call, return, Statements, done, then, mark, Branches, no_branches, or, Start, unset, equals, among, Declaration, Definition, Macro, Procedure, Process, Main, alone, processes, Algorithm}
use Rattle.pcal_tree.specs.NameUses.{Use, takes, variable, argument, standard, unread, Known, Sight, knowing, plain, hidden_name, known_standard, seeing_plain, seeing_variables, use_of, applied_offences, left_offences, handed_use}
use Rattle.pcal_tree.specs.Offences.{offence_if}
use Rattle.pcal_tree.specs.OffencesNames.{form_offences, count, in_tree, in_parts, in_whole, in_each, root_offences, in_left, in_left_parts, Calls, call_offences, in_assignments, in_binds, after_binds, in_one, in_body, in_branches, parameter_use, seeing_parameters, macro_offences, defined_inside, defined_outside, sight_outside, sight_inside, in_start, in_declared, in_definitions, in_procedure, in_process, in_main, use_offences_of}
use Rattle.pcal_tree.specs.Paths.{root}
use Rattle.pcal_tree.specs.Placeless.{assignments_placeless, binds_placeless, statement_placeless, statements_placeless, branches_placeless, start_placeless, declarations_placeless, definitions_placeless, macros_placeless, procedures_placeless, main_placeless, placeless}
use Rattle.pcal_tree.specs.Variables.{declared}
use Rattle.translation.proofs.AgainOffences.{rules, rules_two, rules_if, rules_each}
use Rattle.translation.proofs.AgainParts.{declaration_placeless, definition_placeless, procedure_placeless, process_placeless, declarations_each, definitions_each, procedures_each, processes_each, seen_bare}
use Rattle.translation.proofs.BareNames.{declarations_joined, each_same, map_reversed, words_bare}
use Rattle.translation.proofs.NoPlaces.{declared_bare}
use Rattle.translation.proofs.PlacelessAlgorithm.{macros_reversed}
use Rattle.translation.proofs.PlacelessItems.{place_bare}
use Rattle.translation.proofs.WritableBare.{root_bare}

-- ---- what is in scope, without places

abbrev use_placeless : Use → Use
use_placeless (argument p) = argument nowhere
use_placeless u = u

abbrev known_placeless : Known → Known
known_placeless k = knowing (use_placeless k.use_as) k.word

abbrev bare : Sight → Sight
bare s = map known_placeless s

use_of_bare : (s : Sight) (x : Word) → use_of (bare s) x ≡ option_map use_placeless (use_of s x)
use_of_bare [] x = refl
use_of_bare (k ∷ ks) x = (λ i. cond (bytes_eq k.word x) (Some (use_placeless k.use_as)) (use_of_bare ks x i)) ∙ by (bytes_eq k.word x)
  where
    by : (b : Bool) → cond b (Some (use_placeless k.use_as)) (option_map use_placeless (use_of ks x)) ≡ option_map use_placeless (cond b (Some k.use_as) (use_of ks x))
    by true = refl
    by false = refl

applied_bare : (u : Option Use) (n : ℕ) (right : Bool) (at : Place) → rules (applied_offences (option_map use_placeless u) n right nowhere) ≡ rules (applied_offences u n right at)
applied_bare None n right at = refl
applied_bare (Some (takes k)) n right at =
    rules_two (offence_if (not (nat_eq k n)) Arity nowhere) [] (offence_if (not (nat_eq k n)) Arity at) [] (rules_if (not (nat_eq k n)) (not (nat_eq k n)) Arity nowhere at refl) refl
applied_bare (Some variable) n right at =
    rules_two (offence_if (not (nat_eq 0 n)) Arity nowhere) [] (offence_if (not (nat_eq 0 n)) Arity at) [] (rules_if (not (nat_eq 0 n)) (not (nat_eq 0 n)) Arity nowhere at refl) refl
applied_bare (Some (argument p)) n right at =
    rules_two (offence_if (not (nat_eq 0 n)) Arity nowhere) [] (offence_if (not (nat_eq 0 n)) Arity at) [] (rules_if (not (nat_eq 0 n)) (not (nat_eq 0 n)) Arity nowhere at refl) refl
applied_bare (Some (standard d extended)) n right at =
    rules_two (offence_if wrong Arity nowhere) (offence_if missing NeedsModule nowhere ++ offence_if infinite Infinite nowhere) (offence_if wrong Arity at) (offence_if missing NeedsModule at ++ offence_if infinite Infinite at)
    (rules_if wrong wrong Arity nowhere at refl)
    (rules_two (offence_if missing NeedsModule nowhere) (offence_if infinite Infinite nowhere) (offence_if missing NeedsModule at) (offence_if infinite Infinite at)
    (rules_if missing missing NeedsModule nowhere at refl) (rules_if infinite infinite Infinite nowhere at refl))
  where
    wrong : Bool
    wrong = not (nat_eq d.arity n)

    missing : Bool
    missing = not extended

    infinite : Bool
    infinite = d.infinite && not right
applied_bare (Some unread) n right at = refl

left_bare : (u : Option Use) (at : Place) → rules (left_offences (option_map use_placeless u) nowhere) ≡ rules (left_offences u at)
left_bare None at = refl
left_bare (Some variable) at = refl
left_bare (Some (argument p)) at = refl
left_bare (Some u) at = refl

handed_bare : (u : Option Use) (at : Place) → handed_use (option_map use_placeless u) nowhere ≡ use_placeless (handed_use u at)
handed_bare None at = refl
handed_bare (Some variable) at = refl
handed_bare (Some (argument p)) at = refl
handed_bare (Some u) at = refl

plain_seen : (xs : List Word) (s : Sight) → seeing_plain xs (bare s) ≡ bare (seeing_plain xs s)
plain_seen [] s = refl
plain_seen (x ∷ xs) s = ap (λ r. plain x ∷ r) (plain_seen xs s)

variables_seen : (xs : List Word) (s : Sight) → seeing_variables xs (bare s) ≡ bare (seeing_variables xs s)
variables_seen [] s = refl
variables_seen (x ∷ xs) s = ap (λ r. knowing variable x ∷ r) (variables_seen xs s)

-- ---- expressions

count_bare : (ts : Trees) → count (trees_placeless ts) ≡ count ts
count_bare no_trees = refl
count_bare (tree t ts) = ap (λ (n : ℕ). suc n) (count_bare ts)

pub last_bare : (ts : Trees) → is_last (trees_placeless ts) ≡ is_last ts
last_bare no_trees = refl
last_bare (tree t ts) = refl

pub member_bare : (m : Form) → is_member (form_placeless m) ≡ is_member m
member_bare (name x) = refl
member_bare m = refl

form_uses : (m : Form) (n : ℕ) (right : Bool) (at : Place) (s : Sight) → rules (form_offences (bare s) right (form_placeless m) n nowhere) ≡ rules (form_offences s right m n at)
form_uses (name x) n right at s = ap (λ (u : Option Use). rules (applied_offences u 0 right nowhere)) (use_of_bare s x) ∙ applied_bare (use_of s x) 0 right at
form_uses (operator_call f) n right at s = ap (λ (u : Option Use). rules (applied_offences u n right nowhere)) (use_of_bare s f) ∙ applied_bare (use_of s f) n right at
form_uses m n right at s = refl

mutual
  tree_uses : (t : Tree) (right : Bool) (s : Sight) → rules (in_tree (tree_placeless t) right (bare s)) ≡ rules (in_tree t right s)
  tree_uses (node m at ts) right s =
      rules_two (form_offences (bare s) right (form_placeless m) (count (trees_placeless ts)) nowhere) (in_parts (seen_names (form_placeless m)) (is_member (form_placeless m)) (trees_placeless ts) (bare s))
      (form_offences s right m (count ts) at) (in_parts (seen_names m) (is_member m) ts s)
      (ap (λ (n : ℕ). rules (form_offences (bare s) right (form_placeless m) n nowhere)) (count_bare ts) ∙ form_uses m (count ts) right at s)
      ((λ i. rules (in_parts (seen_bare m i) (member_bare m i) (trees_placeless ts) (bare s))) ∙ parts_uses (seen_names m) (is_member m) ts s)

  parts_uses : (names : List (List Word)) (right : Bool) (ts : Trees) (s : Sight) → rules (in_parts names right (trees_placeless ts) (bare s)) ≡ rules (in_parts names right ts s)
  parts_uses names right no_trees s = refl
  parts_uses [] right (tree t ts) s =
      rules_two (in_tree (tree_placeless t) (right && is_last (trees_placeless ts)) (bare s)) (in_parts [] right (trees_placeless ts) (bare s)) (in_tree t (right && is_last ts) s) (in_parts [] right ts s)
      (ap (λ (b : Bool). rules (in_tree (tree_placeless t) (right && b) (bare s))) (last_bare ts) ∙ tree_uses t (right && is_last ts) s) (parts_uses [] right ts s)
  parts_uses (xs ∷ names) right (tree t ts) s =
      rules_two (in_tree (tree_placeless t) (right && is_last (trees_placeless ts)) (seeing_plain xs (bare s))) (in_parts names right (trees_placeless ts) (bare s))
      (in_tree t (right && is_last ts) (seeing_plain xs s)) (in_parts names right ts s)
      ((λ i. rules (in_tree (tree_placeless t) (right && last_bare ts i) (plain_seen xs s i))) ∙ tree_uses t (right && is_last ts) (seeing_plain xs s)) (parts_uses names right ts s)

whole_uses : (t : Tree) (s : Sight) → rules (in_whole (tree_placeless t) (bare s)) ≡ rules (in_whole t s)
whole_uses t s = tree_uses t false s

each_uses : (ts : Trees) (s : Sight) → rules (in_each (trees_placeless ts) (bare s)) ≡ rules (in_each ts s)
each_uses ts s = parts_uses [] false ts s

root_uses : (m : Form) (at : Place) (s : Sight) → rules (root_offences (bare s) (form_placeless m) nowhere) ≡ rules (root_offences s m at)
root_uses (name x) at s = ap (λ (u : Option Use). rules (left_offences u nowhere)) (use_of_bare s x) ∙ left_bare (use_of s x) at
root_uses m at s = refl

mutual
  left_uses : (t : Tree) (s : Sight) → rules (in_left (tree_placeless t) (bare s)) ≡ rules (in_left t s)
  left_uses (node m at ts) s =
      rules_two (root_offences (bare s) (form_placeless m) nowhere) (in_left_parts (trees_placeless ts) (bare s)) (root_offences s m at) (in_left_parts ts s) (root_uses m at s) (left_parts ts s)

  left_parts : (ts : Trees) (s : Sight) → rules (in_left_parts (trees_placeless ts) (bare s)) ≡ rules (in_left_parts ts s)
  left_parts no_trees s = refl
  left_parts (tree t ts) s =
      rules_two (in_left (tree_placeless t) (bare s)) (in_each (trees_placeless ts) (bare s)) (in_left t s) (in_each ts s) (left_uses t s) (each_uses ts s)

-- ---- statements

call_bare : (ps : List Procedure) (at : Place) (p : Name) (n : ℕ) → rules (call_offences (procedures_placeless ps) nowhere (name_placeless p) n) ≡ rules (call_offences ps at p n)
call_bare [] at p n = refl
call_bare (d ∷ ds) at p n = by (bytes_eq d.name.word p.word) (call_bare ds at p n)
  where
    wrong : not (nat_eq (length (declarations_placeless d.params)) n) ≡ not (nat_eq (length d.params) n)
    wrong = ap (λ (k : ℕ). not (nat_eq k n)) (ap length (declarations_each d.params) ∙ length-map d.params declaration_placeless)

    by : (b : Bool) → rules (call_offences (procedures_placeless ds) nowhere (name_placeless p) n) ≡ rules (call_offences ds at p n)
        → rules (cond b (offence_if (not (nat_eq (length (declarations_placeless d.params)) n)) Arity nowhere) (call_offences (procedures_placeless ds) nowhere (name_placeless p) n))
        ≡ rules (cond b (offence_if (not (nat_eq (length d.params) n)) Arity p.place) (call_offences ds at p n))
    by true e = rules_if _ _ Arity nowhere p.place wrong
    by false e = e

assignments_uses : (ms : Assignments) (s : Sight) → rules (in_assignments (assignments_placeless ms) (bare s)) ≡ rules (in_assignments ms s)
assignments_uses no_assignments s = refl
assignments_uses (assignment l e ms) s =
    rules_two (in_left (tree_placeless l) (bare s)) (in_whole (tree_placeless e) (bare s) ++ in_assignments (assignments_placeless ms) (bare s)) (in_left l s) (in_whole e s ++ in_assignments ms s) (left_uses l s)
    (rules_two (in_whole (tree_placeless e) (bare s)) (in_assignments (assignments_placeless ms) (bare s)) (in_whole e s) (in_assignments ms s) (whole_uses e s) (assignments_uses ms s))

binds_uses : (bs : Binds) (s : Sight) → rules (in_binds (binds_placeless bs) (bare s)) ≡ rules (in_binds bs s)
binds_uses no_binds s = refl
binds_uses (one_of x e bs) s =
    rules_two (in_whole (tree_placeless e) (bare s)) (in_binds (binds_placeless bs) (seeing_plain (x.word ∷ []) (bare s))) (in_whole e s) (in_binds bs (seeing_plain (x.word ∷ []) s)) (whole_uses e s)
    (binds_uses bs (seeing_plain (x.word ∷ []) s))
binds_uses (is x e bs) s =
    rules_two (in_whole (tree_placeless e) (bare s)) (in_binds (binds_placeless bs) (seeing_plain (x.word ∷ []) (bare s))) (in_whole e s) (in_binds bs (seeing_plain (x.word ∷ []) s)) (whole_uses e s)
    (binds_uses bs (seeing_plain (x.word ∷ []) s))

binds_seen : (bs : Binds) (s : Sight) → after_binds (binds_placeless bs) (bare s) ≡ bare (after_binds bs s)
binds_seen no_binds s = refl
binds_seen (one_of x e bs) s = binds_seen bs (seeing_plain (x.word ∷ []) s)
binds_seen (is x e bs) s = binds_seen bs (seeing_plain (x.word ∷ []) s)

-- where D finds at a macro call without places what C finds at it with them
abbrev SameCalls : Calls → Calls → Type 0
SameCalls C D = (s : Sight) (at : Place) (m : Word) (ts : Trees) → rules (D (bare s) nowhere m (trees_placeless ts)) ≡ rules (C s at m ts)

module _ (C D : Calls) (ps : List Procedure) (same : SameCalls C D) where
  abbrev qs : List Procedure
  qs = procedures_placeless ps

  mutual
    one_uses : (at : Place) (st : Statement) (s : Sight) → rules (in_one D qs nowhere (statement_placeless st) (bare s)) ≡ rules (in_one C ps at st s)
    one_uses at (assign ms) s = assignments_uses ms s
    one_uses at (await e) s = whole_uses e s
    one_uses at (print e) s = whole_uses e s
    one_uses at (assert e) s = whole_uses e s
    one_uses at skip s = refl
    one_uses at (branch e a b) s =
        rules_two (in_whole (tree_placeless e) (bare s)) (in_body D qs (statements_placeless a) (bare s) ++ in_body D qs (statements_placeless b) (bare s)) (in_whole e s) (in_body C ps a s ++ in_body C ps b s) (whole_uses e s)
        (rules_two (in_body D qs (statements_placeless a) (bare s)) (in_body D qs (statements_placeless b) (bare s)) (in_body C ps a s) (in_body C ps b s) (body_uses a s) (body_uses b s))
    one_uses at (either bs) s = some_uses bs s
    one_uses at (with bs b) s =
        rules_two (in_binds (binds_placeless bs) (bare s)) (in_body D qs (statements_placeless b) (after_binds (binds_placeless bs) (bare s))) (in_binds bs s) (in_body C ps b (after_binds bs s)) (binds_uses bs s)
        (ap (λ (r : Sight). rules (in_body D qs (statements_placeless b) r)) (binds_seen bs s) ∙ body_uses b (after_binds bs s))
    one_uses at (while e b) s =
        rules_two (in_whole (tree_placeless e) (bare s)) (in_body D qs (statements_placeless b) (bare s)) (in_whole e s) (in_body C ps b s) (whole_uses e s) (body_uses b s)
    one_uses at (goto l) s = refl
    one_uses at (macro m ts) s =
        rules_two (D (bare s) nowhere m (trees_placeless ts)) (in_each (trees_placeless ts) (bare s)) (C s at m ts) (in_each ts s) (same s at m ts) (each_uses ts s)
    one_uses at (call p ts) s =
        rules_two (call_offences qs nowhere (name_placeless p) (count (trees_placeless ts))) (in_each (trees_placeless ts) (bare s)) (call_offences ps at p (count ts)) (in_each ts s)
        (ap (λ (n : ℕ). rules (call_offences qs nowhere (name_placeless p) n)) (count_bare ts) ∙ call_bare ps at p (count ts)) (each_uses ts s)
    one_uses at return s = refl

    body_uses : (b : Statements) (s : Sight) → rules (in_body D qs (statements_placeless b) (bare s)) ≡ rules (in_body C ps b s)
    body_uses done s = refl
    body_uses (then at st rest) s =
        rules_two (in_one D qs nowhere (statement_placeless st) (bare s)) (in_body D qs (statements_placeless rest) (bare s)) (in_one C ps at.first st s) (in_body C ps rest s) (one_uses at.first st s) (body_uses rest s)
    body_uses (mark l k rest) s = body_uses rest s

    some_uses : (bs : Branches) (s : Sight) → rules (in_branches D qs (branches_placeless bs) (bare s)) ≡ rules (in_branches C ps bs s)
    some_uses no_branches s = refl
    some_uses (or b bs) s =
        rules_two (in_body D qs (statements_placeless b) (bare s)) (in_branches D qs (branches_placeless bs) (bare s)) (in_body C ps b s) (in_branches C ps bs s) (body_uses b s) (some_uses bs s)

-- ---- macros

parameter_bare : (t : Tree) (s : Sight) → parameter_use (root (tree_placeless t)) (root_place (tree_placeless t)) (bare s) ≡ use_placeless (parameter_use (root t) (root_place t) s)
parameter_bare t s = (λ i. parameter_use (root_bare t i) (place_bare t i) (bare s)) ∙ by (root t) (root_place t)
  where
    by : (o : Option Word) (at : Place) → parameter_use o nowhere (bare s) ≡ use_placeless (parameter_use o at s)
    by None at = refl
    by (Some x) at = ap (λ (u : Option Use). handed_use u nowhere) (use_of_bare s x) ∙ handed_bare (use_of s x) at

parameters_seen : (ps : List Name) (ts : Trees) (s r : Sight) → seeing_parameters (names_placeless ps) (trees_placeless ts) (bare s) (bare r) ≡ bare (seeing_parameters ps ts s r)
parameters_seen [] ts s r = refl
parameters_seen (p ∷ ps) no_trees s r = ap (λ q. knowing variable p.word ∷ q) (parameters_seen ps no_trees s r)
parameters_seen (p ∷ ps) (tree t ts) s r = λ i. knowing (parameter_bare t s i) p.word ∷ parameters_seen ps ts s r i

macros_uses : (ms : List Macro) (ps : List Procedure) → SameCalls (macro_offences ms ps) (macro_offences (macros_placeless ms) (procedures_placeless ps))
macros_uses [] ps s at m ts = refl
macros_uses (d ∷ older) ps s at m ts = by (bytes_eq d.name.word m) (macros_uses older ps)
  where
    C : Calls
    C = macro_offences older ps

    D : Calls
    D = macro_offences (macros_placeless older) (procedures_placeless ps)

    wrong : not (nat_eq (length (names_placeless d.params)) (count (trees_placeless ts))) ≡ not (nat_eq (length d.params) (count ts))
    wrong = λ i. not (nat_eq (length-map d.params name_placeless i) (count_bare ts i))

    by : (b : Bool) → SameCalls C D
        → rules (cond b (offence_if (not (nat_eq (length (names_placeless d.params)) (count (trees_placeless ts)))) Arity nowhere
        ++ in_body D (procedures_placeless ps) (statements_placeless d.body) (seeing_parameters (names_placeless d.params) (trees_placeless ts) (bare s) (bare s))) (D (bare s) nowhere m (trees_placeless ts)))
        ≡ rules (cond b (offence_if (not (nat_eq (length d.params) (count ts))) Arity at ++ in_body C ps d.body (seeing_parameters d.params ts s s)) (C s at m ts))
    by true same =
        rules_two (offence_if _ Arity nowhere) (in_body D (procedures_placeless ps) (statements_placeless d.body) (seeing_parameters (names_placeless d.params) (trees_placeless ts) (bare s) (bare s)))
        (offence_if (not (nat_eq (length d.params) (count ts))) Arity at) (in_body C ps d.body (seeing_parameters d.params ts s s)) (rules_if _ _ Arity nowhere at wrong)
        (ap (λ (r : Sight). rules (in_body D (procedures_placeless ps) (statements_placeless d.body) r)) (parameters_seen d.params ts s s) ∙ body_uses C D ps same d.body (seeing_parameters d.params ts s s))
    by false same = same s at m ts

-- ---- algorithms

kept : {X : Type 0} (f : X → Known) → ((x : X) → known_placeless (f x) ≡ f x) → (xs : List X) (s r : Sight) → s ≡ bare r → map f xs ++ s ≡ bare (map f xs ++ r)
kept f e [] s r h = h
kept f e (x ∷ xs) s r h = λ i. sym (e x) i ∷ kept f e xs s r h i

outside_seen : (o : Outside) → sight_outside o ≡ bare (sight_outside o)
outside_seen o =
    kept hidden_name (λ x. refl) (flat_map (λ u. u.names) o.opaque) _ _
    (kept plain (λ x. refl) (words o.constants) _ _
    (kept defined_outside (λ d. refl) (reverse o.definitions) _ _
    (ap (λ s. plain (codes "self") ∷ s) (all standard_table))))
  where
    all : (ds : List _) → map (known_standard o.extended) ds ≡ bare (map (known_standard o.extended) ds)
    all [] = refl
    all (d ∷ ds) = ap (λ s. known_standard o.extended d ∷ s) (all ds)

defined_bare : (d : Definition) → defined_inside (definition_placeless d) ≡ defined_inside d
defined_bare d = ap (λ (n : ℕ). knowing (takes n) d.name.word) (length-map d.params name_placeless)

inside_seen : (a : Algorithm) (o : Outside) → sight_inside (placeless a) o ≡ bare (sight_inside a o)
inside_seen a o =
    (λ i. names i ++ seeing_variables (declared_bare a.globals i) (outside_seen o i))
    ∙ kept defined_inside (λ d. refl) (reverse a.definitions) _ (seeing_variables (declared a.globals) (sight_outside o)) (variables_seen (declared a.globals) (sight_outside o))
  where
    names : map defined_inside (reverse (definitions_placeless a.definitions)) ≡ map defined_inside (reverse a.definitions)
    names =
        ap (λ (ds : List Definition). map defined_inside (reverse ds)) (definitions_each a.definitions) ∙ ap (map defined_inside) (map_reversed definition_placeless a.definitions)
        ∙ each_same definition_placeless defined_inside defined_inside defined_bare (reverse a.definitions)

start_uses : (d : Start) (s : Sight) → rules (in_start (start_placeless d) (bare s)) ≡ rules (in_start d s)
start_uses unset s = refl
start_uses (equals e) s = whole_uses e s
start_uses (among e) s = whole_uses e s

declared_uses : (ds : List Declaration) (s : Sight) → rules (in_declared (declarations_placeless ds) (bare s)) ≡ rules (in_declared ds s)
declared_uses ds s =
    ap (λ (es : List Declaration). rules (in_declared es (bare s))) (declarations_each ds)
    ∙ rules_each declaration_placeless (λ d. in_start d.start (bare s)) (λ d. in_start d.start s) (λ d. start_uses d.start s) ds

definitions_uses : (ds : List Definition) (s : Sight) → rules (in_definitions (definitions_placeless ds) (bare s)) ≡ rules (in_definitions ds s)
definitions_uses [] s = refl
definitions_uses (d ∷ ds) s =
    rules_two (in_whole (tree_placeless d.body) (seeing_plain (words (names_placeless d.params)) (bare s))) (in_definitions (definitions_placeless ds) (defined_inside (definition_placeless d) ∷ bare s))
    (in_whole d.body (seeing_plain (words d.params) s)) (in_definitions ds (defined_inside d ∷ s))
    ((λ i. rules (in_whole (tree_placeless d.body) (seeing_plain (words_bare d.params i) (bare s)))) ∙ (λ i. rules (in_whole (tree_placeless d.body) (plain_seen (words d.params) s i)))
    ∙ whole_uses d.body (seeing_plain (words d.params) s))
    (ap (λ (k : Known). rules (in_definitions (definitions_placeless ds) (k ∷ bare s))) (defined_bare d) ∙ definitions_uses ds (defined_inside d ∷ s))

module _ (C D : Calls) (ps : List Procedure) (same : SameCalls C D) (s : Sight) where
  procedure_uses : (p : Procedure) → rules (in_procedure D (procedures_placeless ps) (bare s) (procedure_placeless p)) ≡ rules (in_procedure C ps s p)
  procedure_uses p =
      (λ i. rules (in_declared (ds i) (seeing_variables (declared (ds i)) (bare s)) ++ in_body D (procedures_placeless ps) (statements_placeless p.body) (seeing_variables (declared (ds i)) (bare s))))
      ∙ (λ i. rules (in_declared (declarations_placeless es) (sight i) ++ in_body D (procedures_placeless ps) (statements_placeless p.body) (sight i)))
      ∙ rules_two (in_declared (declarations_placeless es) (bare (seeing_variables (declared es) s))) (in_body D (procedures_placeless ps) (statements_placeless p.body) (bare (seeing_variables (declared es) s)))
      (in_declared es (seeing_variables (declared es) s)) (in_body C ps p.body (seeing_variables (declared es) s))
      (declared_uses es (seeing_variables (declared es) s)) (body_uses C D ps same p.body (seeing_variables (declared es) s))
    where
      es : List Declaration
      es = p.params ++ p.variables

      ds : declarations_placeless p.params ++ declarations_placeless p.variables ≡ declarations_placeless es
      ds = declarations_joined p.params p.variables

      sight : seeing_variables (declared (declarations_placeless es)) (bare s) ≡ bare (seeing_variables (declared es) s)
      sight = ap (λ (xs : List Word). seeing_variables xs (bare s)) (declared_bare es) ∙ variables_seen (declared es) s

  process_uses : (p : Process) → rules (in_process D (procedures_placeless ps) (bare s) (process_placeless p)) ≡ rules (in_process C ps s p)
  process_uses p =
      rules_two (in_whole (tree_placeless p.identity) (bare s)) (in_declared (declarations_placeless p.variables) own ++ in_body D (procedures_placeless ps) (statements_placeless p.body) own)
      (in_whole p.identity s) (in_declared p.variables inner ++ in_body C ps p.body inner) (whole_uses p.identity s)
      ((λ i. rules (in_declared (declarations_placeless p.variables) (sight i) ++ in_body D (procedures_placeless ps) (statements_placeless p.body) (sight i)))
      ∙ rules_two (in_declared (declarations_placeless p.variables) (bare inner)) (in_body D (procedures_placeless ps) (statements_placeless p.body) (bare inner)) (in_declared p.variables inner) (in_body C ps p.body inner)
      (declared_uses p.variables inner) (body_uses C D ps same p.body inner))
    where
      own : Sight
      own = seeing_variables (declared (declarations_placeless p.variables)) (bare s)

      inner : Sight
      inner = seeing_variables (declared p.variables) s

      sight : own ≡ bare inner
      sight = ap (λ (xs : List Word). seeing_variables xs (bare s)) (declared_bare p.variables) ∙ variables_seen (declared p.variables) s

  main_uses : (m : Main) → rules (in_main D (procedures_placeless ps) (bare s) (main_placeless m)) ≡ rules (in_main C ps s m)
  main_uses (alone b) = body_uses C D ps same b s
  main_uses (processes qs) =
      ap (λ (us : List Process). rules (flat_map (in_process D (procedures_placeless ps) (bare s)) us)) (processes_each qs)
      ∙ rules_each process_placeless (in_process D (procedures_placeless ps) (bare s)) (in_process C ps s) process_uses qs

  procedures_uses : (us : List Procedure) → rules (flat_map (in_procedure D (procedures_placeless ps) (bare s)) (procedures_placeless us)) ≡ rules (flat_map (in_procedure C ps s) us)
  procedures_uses us =
      ap (λ (vs : List Procedure). rules (flat_map (in_procedure D (procedures_placeless ps) (bare s)) vs)) (procedures_each us)
      ∙ rules_each procedure_placeless (in_procedure D (procedures_placeless ps) (bare s)) (in_procedure C ps s) procedure_uses us

pub use_offences_bare : (a : Algorithm) (o : Outside) → rules (use_offences_of (placeless a) o) ≡ rules (use_offences_of a o)
use_offences_bare a o =
    (λ i. rules (in_declared b.globals (inside_seen a o i)
    ++ (in_definitions b.definitions (top i) ++ (flat_map (in_procedure (E i) b.procedures (inside_seen a o i)) b.procedures ++ in_main (E i) b.procedures (inside_seen a o i) b.main))))
    ∙ rules_two (in_declared b.globals (bare s)) _ (in_declared a.globals s) _ (declared_uses a.globals s)
    (rules_two (in_definitions b.definitions (bare outer)) _ (in_definitions a.definitions outer) _ (definitions_uses a.definitions outer)
    (rules_two (flat_map (in_procedure D b.procedures (bare s)) b.procedures) (in_main D b.procedures (bare s) b.main) (flat_map (in_procedure C a.procedures s) a.procedures) (in_main C a.procedures s a.main)
    (procedures_uses C D a.procedures same s a.procedures) (main_uses C D a.procedures same s a.main)))
  where
    b : Algorithm
    b = placeless a

    s : Sight
    s = sight_inside a o

    outer : Sight
    outer = seeing_variables (declared a.globals) (sight_outside o)

    C : Calls
    C = macro_offences (reverse a.macros) a.procedures

    D : Calls
    D = macro_offences (macros_placeless (reverse a.macros)) (procedures_placeless a.procedures)

    same : SameCalls C D
    same = macros_uses (reverse a.macros) a.procedures

    E : macro_offences (reverse (macros_placeless a.macros)) (procedures_placeless a.procedures) ≡ D
    E = ap (λ (ms : List Macro). macro_offences ms (procedures_placeless a.procedures)) (macros_reversed a.macros)

    top : seeing_variables (declared (declarations_placeless a.globals)) (sight_outside o) ≡ bare outer
    top = (λ i. seeing_variables (declared_bare a.globals i) (outside_seen o i)) ∙ variables_seen (declared a.globals) (sight_outside o)
