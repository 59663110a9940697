-- The names that an algorithm without its places binds are those that it binds with them, without their places, list by list; and so are its labels.
use Rattle.std.proofs.Common.{◌≡◌, List, [], ◌∷◌, ◌++◌, map, flat_map, reverse, Bool, true, false, refl, sym, ap, ◌∙◌}
use Rattle.std.proofs.lemmas.List.{map-append}
use Rattle.std.proofs.lemmas.Grind.{reverse_onto}
use Rattle.tla_tree.specs.Tree.{Name, words, Form, binding, local, Tree, node, Trees, no_trees, tree}
use Rattle.tla_tree.specs.laws.Placeless.{name_placeless, names_placeless, form_placeless, tree_placeless, trees_placeless}
use Rattle.pcal_tree.specs.Algorithm.{Assignments, no_assignments, assignment, Binds, no_binds, one_of, is, Statement, assign, await, print, assert, skip, branch, either, with, while, goto, macro, call, return, Statements, done, then, mark, Branches, no_branches, or, Start, unset, equals, among, Declaration, Definition, Macro, Procedure, Process, Main, alone, processes, Algorithm}
use Rattle.pcal_tree.specs.BoundNames.{Lists, all_of, lists_of, lists_in, lists_in_all, lists_in_assignments, names_of_binds, lists_in_binds, lists_in_one, lists_in_body, lists_in_branches, lists_in_start, lists_in_declared, lists_in_procedure, lists_in_process, lists_in_main, bound_lists}
use Rattle.pcal_tree.specs.OffencesLabels.{Label, labels_of_one, labels, labels_of_some}
use Rattle.pcal_tree.specs.Placeless.{assignments_placeless, binds_placeless, statement_placeless, statements_placeless, branches_placeless, start_placeless, declarations_placeless, definitions_placeless, macros_placeless, procedures_placeless, processes_placeless, main_placeless, placeless}

-- ---- lists

-- two lists, each of what f makes of others
pub both : {X Y : Type 0} (f : X → Y) (xs ys : List X) (us vs : List Y) → us ≡ map f xs → vs ≡ map f ys → us ++ vs ≡ map f (xs ++ ys)
both f xs ys us vs e d = (λ i. e i ++ d i) ∙ sym (map-append f xs ys)

-- what is made of each
pub each_list : {X Y Z W : Type 0} (h : X → Y) (k : Z → W) (f : Y → List W) (g : X → List Z) → ((x : X) → f (h x) ≡ map k (g x)) → (xs : List X) → flat_map f (map h xs) ≡ map k (flat_map g xs)
each_list h k f g e [] = refl
each_list h k f g e (x ∷ xs) = both k (g x) (flat_map g xs) _ _ (e x) (each_list h k f g e xs)

pub each_one : {X Y Z W : Type 0} (h : X → Y) (k : Z → W) (f : Y → W) (g : X → Z) → ((x : X) → f (h x) ≡ k (g x)) → (xs : List X) → map f (map h xs) ≡ map k (map g xs)
each_one h k f g e [] = refl
each_one h k f g e (x ∷ xs) = λ i. e x i ∷ each_one h k f g e xs i

pub each_same : {X Y Z : Type 0} (h : X → Y) (f : Y → Z) (g : X → Z) → ((x : X) → f (h x) ≡ g x) → (xs : List X) → map f (map h xs) ≡ map g xs
each_same h f g e [] = refl
each_same h f g e (x ∷ xs) = λ i. e x i ∷ each_same h f g e xs i

pub each_joined : {X Y Z : Type 0} (h : X → Y) (f : Y → List Z) (g : X → List Z) → ((x : X) → f (h x) ≡ g x) → (xs : List X) → flat_map f (map h xs) ≡ flat_map g xs
each_joined h f g e [] = refl
each_joined h f g e (x ∷ xs) = λ i. e x i ++ each_joined h f g e xs i

pub map_reversed : {X Y : Type 0} (f : X → Y) (xs : List X) → reverse (map f xs) ≡ map f (reverse xs)
map_reversed f [] = refl
map_reversed f (x ∷ xs) =
    reverse_onto (map f xs) (f x) [] ∙ (λ i. map_reversed f xs i ++ (f x ∷ [])) ∙ sym (map-append f (reverse xs) (x ∷ [])) ∙ sym (ap (map f) (reverse_onto xs x []))

-- ---- names

pub words_bare : (xs : List Name) → words (names_placeless xs) ≡ words xs
words_bare [] = refl
words_bare (x ∷ xs) = λ i. x.word ∷ words_bare xs i

pub binds_names_bare : (bs : Binds) → names_of_binds (binds_placeless bs) ≡ names_placeless (names_of_binds bs)
binds_names_bare no_binds = refl
binds_names_bare (one_of x e bs) = ap (λ ns. name_placeless x ∷ ns) (binds_names_bare bs)
binds_names_bare (is x e bs) = ap (λ ns. name_placeless x ∷ ns) (binds_names_bare bs)

pub all_bare : (xss : Lists) → all_of (map names_placeless xss) ≡ names_placeless (all_of xss)
all_bare = each_list names_placeless name_placeless (λ xs. xs) (λ xs. xs) (λ xs. refl)

pub declarations_joined : (ds es : List Declaration) → declarations_placeless ds ++ declarations_placeless es ≡ declarations_placeless (ds ++ es)
declarations_joined [] es = refl
declarations_joined (d ∷ ds) es = ap (λ ks. record { name = name_placeless d.name; start = start_placeless d.start } ∷ ks) (declarations_joined ds es)

-- ---- bound names

-- lists of which each is without places
abbrev Bare : Lists → Lists → Type 0
Bare xss yss = yss ≡ map names_placeless xss

two : (xs ys us vs : Lists) → Bare xs us → Bare ys vs → Bare (xs ++ ys) (us ++ vs)
two = both names_placeless

pub form_lists : (m : Form) → Bare (lists_of m) (lists_of (form_placeless m))
form_lists (binding b gs) = ap (λ xs. xs ∷ []) (all_bare gs)
form_lists (local xs) = refl
form_lists m = refl

mutual
  tree_lists : (t : Tree) → Bare (lists_in t) (lists_in (tree_placeless t))
  tree_lists (node m at ts) = two (lists_of m) (lists_in_all ts) _ _ (form_lists m) (trees_lists ts)

  trees_lists : (ts : Trees) → Bare (lists_in_all ts) (lists_in_all (trees_placeless ts))
  trees_lists no_trees = refl
  trees_lists (tree t ts) = two (lists_in t) (lists_in_all ts) _ _ (tree_lists t) (trees_lists ts)

assignments_lists : (ms : Assignments) → Bare (lists_in_assignments ms) (lists_in_assignments (assignments_placeless ms))
assignments_lists no_assignments = refl
assignments_lists (assignment l e ms) =
    two (lists_in l) (lists_in e ++ lists_in_assignments ms) _ _ (tree_lists l) (two (lists_in e) (lists_in_assignments ms) _ _ (tree_lists e) (assignments_lists ms))

binds_lists : (bs : Binds) → Bare (lists_in_binds bs) (lists_in_binds (binds_placeless bs))
binds_lists no_binds = refl
binds_lists (one_of x e bs) = two (lists_in e) (lists_in_binds bs) _ _ (tree_lists e) (binds_lists bs)
binds_lists (is x e bs) = two (lists_in e) (lists_in_binds bs) _ _ (tree_lists e) (binds_lists bs)

mutual
  one_lists : (st : Statement) → Bare (lists_in_one st) (lists_in_one (statement_placeless st))
  one_lists (assign ms) = assignments_lists ms
  one_lists (await e) = tree_lists e
  one_lists (print e) = tree_lists e
  one_lists (assert e) = tree_lists e
  one_lists skip = refl
  one_lists (branch e a b) =
      two (lists_in e) (lists_in_body a ++ lists_in_body b) _ _ (tree_lists e) (two (lists_in_body a) (lists_in_body b) _ _ (body_lists a) (body_lists b))
  one_lists (either bs) = branches_lists bs
  one_lists (with bs b) =
      (λ i. binds_names_bare bs i ∷ (lists_in_binds (binds_placeless bs) ++ lists_in_body (statements_placeless b)))
      ∙ ap (λ (ls : Lists). names_placeless (names_of_binds bs) ∷ ls) (two (lists_in_binds bs) (lists_in_body b) _ _ (binds_lists bs) (body_lists b))
  one_lists (while e b) = two (lists_in e) (lists_in_body b) _ _ (tree_lists e) (body_lists b)
  one_lists (goto l) = refl
  one_lists (macro m ts) = trees_lists ts
  one_lists (call p ts) = trees_lists ts
  one_lists return = refl

  body_lists : (b : Statements) → Bare (lists_in_body b) (lists_in_body (statements_placeless b))
  body_lists done = refl
  body_lists (then at st rest) = two (lists_in_one st) (lists_in_body rest) _ _ (one_lists st) (body_lists rest)
  body_lists (mark l k rest) = body_lists rest

  branches_lists : (bs : Branches) → Bare (lists_in_branches bs) (lists_in_branches (branches_placeless bs))
  branches_lists no_branches = refl
  branches_lists (or b bs) = two (lists_in_body b) (lists_in_branches bs) _ _ (body_lists b) (branches_lists bs)

start_lists : (s : Start) → Bare (lists_in_start s) (lists_in_start (start_placeless s))
start_lists unset = refl
start_lists (equals e) = tree_lists e
start_lists (among e) = tree_lists e

declared_lists : (ds : List Declaration) → Bare (lists_in_declared ds) (lists_in_declared (declarations_placeless ds))
declared_lists [] = refl
declared_lists (d ∷ ds) = two (lists_in_start d.start) (lists_in_declared ds) _ _ (start_lists d.start) (declared_lists ds)

definitions_lists : (ds : List Definition) → Bare (flat_map (λ d. lists_in d.body) ds) (flat_map (λ d. lists_in d.body) (definitions_placeless ds))
definitions_lists [] = refl
definitions_lists (d ∷ ds) = two (lists_in d.body) (flat_map (λ d. lists_in d.body) ds) _ _ (tree_lists d.body) (definitions_lists ds)

macros_lists : (ds : List Macro) → Bare (flat_map (λ d. lists_in_body d.body) ds) (flat_map (λ d. lists_in_body d.body) (macros_placeless ds))
macros_lists [] = refl
macros_lists (d ∷ ds) = two (lists_in_body d.body) (flat_map (λ d. lists_in_body d.body) ds) _ _ (body_lists d.body) (macros_lists ds)

procedures_lists : (ps : List Procedure) → Bare (flat_map lists_in_procedure ps) (flat_map lists_in_procedure (procedures_placeless ps))
procedures_lists [] = refl
procedures_lists (p ∷ ps) =
    two (lists_in_procedure p) (flat_map lists_in_procedure ps) _ _
    (two (lists_in_declared (p.params ++ p.variables)) (lists_in_body p.body) _ _ (ap lists_in_declared (declarations_joined p.params p.variables) ∙ declared_lists (p.params ++ p.variables)) (body_lists p.body))
    (procedures_lists ps)

processes_lists : (ps : List Process) → Bare (flat_map lists_in_process ps) (flat_map lists_in_process (processes_placeless ps))
processes_lists [] = refl
processes_lists (p ∷ ps) =
    two (lists_in_process p) (flat_map lists_in_process ps) _ _
    (two (lists_in p.identity) (lists_in_declared p.variables ++ lists_in_body p.body) _ _ (tree_lists p.identity)
    (two (lists_in_declared p.variables) (lists_in_body p.body) _ _ (declared_lists p.variables) (body_lists p.body)))
    (processes_lists ps)

main_lists : (m : Main) → Bare (lists_in_main m) (lists_in_main (main_placeless m))
main_lists (alone b) = body_lists b
main_lists (processes ps) = processes_lists ps

-- list by list, the names that an algorithm without its places binds
pub bound_bare : (a : Algorithm) → Bare (bound_lists a) (bound_lists (placeless a))
bound_bare a =
    two (lists_in_declared a.globals) _ _ _ (declared_lists a.globals)
    (two (flat_map (λ d. lists_in d.body) a.definitions) _ _ _ (definitions_lists a.definitions)
    (two (flat_map (λ d. lists_in_body d.body) a.macros) _ _ _ (macros_lists a.macros)
    (two (flat_map lists_in_procedure a.procedures) (lists_in_main a.main) _ _ (procedures_lists a.procedures) (main_lists a.main))))

-- ---- labels

abbrev pub label_placeless : Label → Label
label_placeless l = record { name = name_placeless l.name; second = l.second }

abbrev Labelled : List Label → List Label → Type 0
Labelled xs ys = ys ≡ map label_placeless xs

join : (xs ys us vs : List Label) → Labelled xs us → Labelled ys vs → Labelled (xs ++ ys) (us ++ vs)
join = both label_placeless

mutual
  one_labels : (st : Statement) → Labelled (labels_of_one st) (labels_of_one (statement_placeless st))
  one_labels (branch e a b) = join (labels false a) (labels false b) _ _ (labels_bare false a) (labels_bare false b)
  one_labels (either bs) = some_labels bs
  one_labels (with bs b) = labels_bare false b
  one_labels (while e b) = labels_bare false b
  one_labels st = refl

  pub labels_bare : (l : Bool) (b : Statements) → Labelled (labels l b) (labels l (statements_placeless b))
  labels_bare l done = refl
  labels_bare l (mark n k rest) = ap (λ (ls : List Label). record { name = name_placeless n; second = l } ∷ ls) (labels_bare true rest)
  labels_bare l (then at st rest) = join (labels_of_one st) (labels false rest) _ _ (one_labels st) (labels_bare false rest)

  some_labels : (bs : Branches) → Labelled (labels_of_some bs) (labels_of_some (branches_placeless bs))
  some_labels no_branches = refl
  some_labels (or b bs) = join (labels false b) (labels_of_some bs) _ _ (labels_bare false b) (some_labels bs)
