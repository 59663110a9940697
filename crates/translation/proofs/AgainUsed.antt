-- The names that an algorithm without its places uses are those that it uses with them, without their places: in expressions, and on the paths through statements.
use Rattle.std.proofs.Common.{◌≡◌, List, [], ◌∷◌, ◌++◌, map, flat_map, Bool, true, false, cond, Some, refl, ap, ◌∙◌}
use Rattle.tla_token.specs.declared.place.Place.{Place}
use Rattle.tla_token.specs.Signs.{is_among}
use Rattle.tla_tree.specs.Tree.{Word, Name, words, Form, name, operator_call, Tree, node, Trees, no_trees, tree, seen_names}
use Rattle.tla_tree.specs.laws.Placeless.{name_placeless, names_placeless, form_placeless, tree_placeless, trees_placeless}
use Rattle.pcal_tree.specs.Algorithm.{nowhere, Assignments, no_assignments, assignment, Binds, no_binds, one_of, is, Statement, assign, await, print, assert, skip, branch, either, with, while, goto, macro, call, return, Statements, done, then, mark, Branches, no_branches, or, Start, unset, equals, among, Declaration}
use Rattle.pcal_tree.specs.BoundNames.{names_of_binds}
use Rattle.pcal_tree.specs.OffencesCounts.{calls_in, calls_of, calls_of_some}
use Rattle.pcal_tree.specs.OffencesSelf.{used_by_starts}
use Rattle.pcal_tree.specs.Paths.{assigned, Path, after_one}
use Rattle.pcal_tree.specs.Placeless.{assignments_placeless, binds_placeless, statement_placeless, statements_placeless, branches_placeless, start_placeless, declarations_placeless}
use Rattle.pcal_tree.specs.Reads.{if_free, named, used_by_form, used, used_by_parts, used_by_all, used_by_assignments, used_by_binds, initial}
use Rattle.pcal_tree.specs.Spots.{Spot, after_path, Further, spots_of_one, spots, spots_of_some, spots_in, used_in_body}
use Rattle.translation.proofs.AgainOffences.{assigned_bare, after_one_bare}
use Rattle.translation.proofs.AgainParts.{seen_bare}
use Rattle.translation.proofs.BareNames.{binds_names_bare, both, each_list, each_one, words_bare}

-- names that are those without their places
abbrev Bare : List Name → List Name → Type 0
Bare xs ys = ys ≡ names_placeless xs

two : (xs ys us vs : List Name) → Bare xs us → Bare ys vs → Bare (xs ++ ys) (us ++ vs)
two = both name_placeless

-- ---- expressions

free_bare : (xs : List Word) (x : Word) (at : Place) → Bare (if_free xs (named x at)) (if_free xs (named x nowhere))
free_bare xs x at = by (is_among xs x)
  where
    by : (b : Bool) → cond b [] (named x nowhere ∷ []) ≡ names_placeless (cond b [] (named x at ∷ []))
    by true = refl
    by false = refl

form_used : (m : Form) (at : Place) (xs : List Word) (ns us : List Name) → Bare ns us → Bare (used_by_form m at xs ns) (used_by_form (form_placeless m) nowhere xs us)
form_used (name x) at xs ns us e = free_bare xs x at
form_used (operator_call f) at xs ns us e = two (if_free xs (named f at)) ns _ us (free_bare xs f at) e
form_used m at xs ns us e = e

mutual
  pub used_bare : (t : Tree) (xs : List Word) → Bare (used t xs) (used (tree_placeless t) xs)
  used_bare (node m at ts) xs =
      form_used m at xs (used_by_parts (seen_names m) ts xs) (used_by_parts (seen_names (form_placeless m)) (trees_placeless ts) xs)
      (ap (λ (names : List (List Word)). used_by_parts names (trees_placeless ts) xs) (seen_bare m) ∙ parts_used (seen_names m) ts xs)

  pub parts_used : (names : List (List Word)) (ts : Trees) (xs : List Word) → Bare (used_by_parts names ts xs) (used_by_parts names (trees_placeless ts) xs)
  parts_used names no_trees xs = refl
  parts_used [] (tree t ts) xs = two (used t xs) (used_by_parts [] ts xs) _ _ (used_bare t xs) (parts_used [] ts xs)
  parts_used (ys ∷ names) (tree t ts) xs = two (used t (ys ++ xs)) (used_by_parts names ts xs) _ _ (used_bare t (ys ++ xs)) (parts_used names ts xs)

assignments_used : (ms : Assignments) (xs : List Word) → Bare (used_by_assignments ms xs) (used_by_assignments (assignments_placeless ms) xs)
assignments_used no_assignments xs = refl
assignments_used (assignment l e ms) xs =
    two (used l xs) (used e xs ++ used_by_assignments ms xs) _ _ (used_bare l xs) (two (used e xs) (used_by_assignments ms xs) _ _ (used_bare e xs) (assignments_used ms xs))

binds_used : (bs : Binds) (xs : List Word) → Bare (used_by_binds bs xs) (used_by_binds (binds_placeless bs) xs)
binds_used no_binds xs = refl
binds_used (one_of x e bs) xs = two (used e xs) (used_by_binds bs (x.word ∷ xs)) _ _ (used_bare e xs) (binds_used bs (x.word ∷ xs))
binds_used (is x e bs) xs = two (used e xs) (used_by_binds bs (x.word ∷ xs)) _ _ (used_bare e xs) (binds_used bs (x.word ∷ xs))

pub initial_bare : (s : Start) → initial (start_placeless s) ≡ map tree_placeless (initial s)
initial_bare unset = refl
initial_bare (equals e) = refl
initial_bare (among e) = refl

-- in initial values, where the names xs are bound
pub starts_used_in : (xs : List Word) (ds : List Declaration)
    → Bare (flat_map (λ d. flat_map (λ e. used e xs) (initial d.start)) ds) (flat_map (λ d. flat_map (λ e. used e xs) (initial d.start)) (declarations_placeless ds))
starts_used_in xs [] = refl
starts_used_in xs (d ∷ ds) =
    two (flat_map (λ e. used e xs) (initial d.start)) (flat_map (λ d. flat_map (λ e. used e xs) (initial d.start)) ds) _ _
    (ap (flat_map (λ e. used e xs)) (initial_bare d.start) ∙ each_list tree_placeless name_placeless (λ e. used e xs) (λ e. used e xs) (λ e. used_bare e xs) (initial d.start))
    (starts_used_in xs ds)

pub starts_used : (ds : List Declaration) → Bare (used_by_starts ds) (used_by_starts (declarations_placeless ds))
starts_used = starts_used_in []

-- ---- spots

abbrev pub spot_placeless : Spot → Spot
spot_placeless s = record { name = name_placeless s.name; path = s.path }

abbrev Spotted : List Spot → List Spot → Type 0
Spotted xs ys = ys ≡ map spot_placeless xs

join : (xs ys us vs : List Spot) → Spotted xs us → Spotted ys vs → Spotted (xs ++ ys) (us ++ vs)
join = both spot_placeless

on_path : (p : Path) (ns us : List Name) → Bare ns us → Spotted (after_path p ns) (after_path p us)
on_path p ns us e = ap (after_path p) e ∙ each_one name_placeless spot_placeless (λ n. record { name = n; path = p }) (λ n. record { name = n; path = p }) (λ n. refl) ns

-- where G uses of what is without places what F uses of it with them
module _ (F G : Further) (same : (at : Place) (st : Statement) → Bare (F at st) (G nowhere (statement_placeless st))) where
  -- the path after a statement
  after_bare : (st : Statement) (l : Bool) (p : Path) → after_one assigned (statement_placeless st) l p ≡ after_one assigned st l p
  after_bare = after_one_bare assigned assigned assigned_bare

  mutual
    one_spotted : (l : Bool) (p : Path) (at : Place) (st : Statement) (xs : List Word) → Spotted (spots_of_one F l p at st xs) (spots_of_one G l p nowhere (statement_placeless st) xs)
    one_spotted l p at (assign ms) xs = on_path p _ _ (assignments_used ms xs)
    one_spotted l p at (await e) xs = on_path p _ _ (used_bare e xs)
    one_spotted l p at (print e) xs = on_path p _ _ (used_bare e xs)
    one_spotted l p at (assert e) xs = on_path p _ _ (used_bare e xs)
    one_spotted l p at skip xs = refl
    one_spotted l p at (branch e a b) xs =
        join (after_path p (used e xs)) (spots F false p a xs ++ spots F false p b xs) _ _ (on_path p _ _ (used_bare e xs))
        (join (spots F false p a xs) (spots F false p b xs) _ _ (spotted false p a xs) (spotted false p b xs))
    one_spotted l p at (either bs) xs = some_spotted p bs xs
    one_spotted l p at (with bs b) xs =
        join (after_path p (used_by_binds bs xs)) (spots F false p b (words (names_of_binds bs) ++ xs)) _ _ (on_path p _ _ (binds_used bs xs))
        (ap (λ (ys : List Word). spots G false p (statements_placeless b) (ys ++ xs)) (ap words (binds_names_bare bs) ∙ words_bare (names_of_binds bs))
        ∙ spotted false p b (words (names_of_binds bs) ++ xs))
    one_spotted l p at (while e b) xs =
        ap (λ (q : Path). after_path q (used (tree_placeless e) xs) ++ spots G false q (statements_placeless b) xs) (after_bare (while e b) l p)
        ∙ join (after_path (after_one assigned (while e b) l p) (used e xs)) (spots F false (after_one assigned (while e b) l p) b xs) _ _ (on_path _ _ _ (used_bare e xs)) (spotted false _ b xs)
    one_spotted l p at (goto n) xs = on_path p _ _ (same at (goto n))
    one_spotted l p at (macro m ts) xs = on_path p _ _ (parts_used [] ts xs)
    one_spotted l p at (call q ts) xs = on_path p (used_by_all ts xs ++ F at (call q ts)) _ (two (used_by_all ts xs) (F at (call q ts)) _ _ (parts_used [] ts xs) (same at (call q ts)))
    one_spotted l p at return xs = refl

    spotted : (l : Bool) (p : Path) (b : Statements) (xs : List Word) → Spotted (spots F l p b xs) (spots G l p (statements_placeless b) xs)
    spotted l p done xs = refl
    spotted l p (then at st rest) xs =
        join (spots_of_one F l p at.first st xs) (spots F false (after_one assigned st l p) rest xs) _ _ (one_spotted l p at.first st xs)
        (ap (λ (q : Path). spots G false q (statements_placeless rest) xs) (after_bare st l p) ∙ spotted false (after_one assigned st l p) rest xs)
    spotted l p (mark n k rest) xs = spotted true (Some []) rest xs

    some_spotted : (p : Path) (bs : Branches) (xs : List Word) → Spotted (spots_of_some F p bs xs) (spots_of_some G p (branches_placeless bs) xs)
    some_spotted p no_branches xs = refl
    some_spotted p (or b bs) xs = join (spots F false p b xs) (spots_of_some F p bs xs) _ _ (spotted false p b xs) (some_spotted p bs xs)

  pub spots_bare : (b : Statements) (xs : List Word) → spots_in G (statements_placeless b) xs ≡ map spot_placeless (spots_in F b xs)
  spots_bare b xs = spotted false (Some []) b xs

pub body_used : (b : Statements) → Bare (used_in_body b) (used_in_body (statements_placeless b))
body_used b =
    ap (map (λ (s : Spot). s.name)) (spots_bare (λ at st. []) (λ at st. []) (λ at st. refl) b [])
    ∙ each_one spot_placeless name_placeless (λ s. s.name) (λ s. s.name) (λ s. refl) (spots_in (λ at st. []) b [])

-- ---- the macros that are called

mutual
  called_in : (st : Statement) → calls_in (statement_placeless st) ≡ calls_in st
  called_in (branch e a b) = λ i. calls_bare a i ++ calls_bare b i
  called_in (either bs) = some_called bs
  called_in (with bs b) = calls_bare b
  called_in (while e b) = calls_bare b
  called_in st = refl

  pub calls_bare : (b : Statements) → calls_of (statements_placeless b) ≡ calls_of b
  calls_bare done = refl
  calls_bare (then at st rest) = λ i. called_in st i ++ calls_bare rest i
  calls_bare (mark l k rest) = calls_bare rest

  some_called : (bs : Branches) → calls_of_some (branches_placeless bs) ≡ calls_of_some bs
  some_called no_branches = refl
  some_called (or b bs) = λ i. calls_bare b i ++ some_called bs i
