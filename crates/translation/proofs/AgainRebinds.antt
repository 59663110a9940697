-- Which names are bound where they are in scope rests on no place.
use Rattle.std.proofs.Common.{◌≡◌, List, [], ◌∷◌, ◌++◌, map, flat_map, reverse, Bool, true, false, ◌&&◌, ◌||◌, cond, bytes_eq, codes, refl, ap, ◌∙◌}
use Rattle.tla_token.specs.declared.rule.Rule.TheVariants.{Rebind}
use Rattle.tla_token.specs.Signs.{is_among}
use Rattle.tla_tree.specs.Tree.{Word, Name, words, Form, name, Tree, node, Trees, no_trees, tree, seen_names}
use Rattle.tla_tree.specs.laws.Placeless.{name_placeless, names_placeless, form_placeless, tree_placeless, trees_placeless}
use Rattle.tla_value.specs.Outside.{Outside}
use Rattle.pcal_tree.specs.Algorithm.{nowhere, Assignments, no_assignments, assignment, Binds, no_binds, one_of, is, Statement, assign, await, print, assert, skip, branch, either, with, while, goto, macro, call, return, Statements, done, then, mark, Branches, no_branches, or, Start, unset, equals, among, Declaration, Definition, Macro, Procedure, Process, Main, alone, processes, Algorithm}
use Rattle.pcal_tree.specs.BoundNames.{all_of, lists_of, names_of_binds}
use Rattle.pcal_tree.specs.OffencesNames.{names_of}
use Rattle.pcal_tree.specs.OffencesRebind.{Standing, named, stands_for, Standings, naming, in_scope, brought, may_rebind, rebound, rebound_all, put_in, any_name, self_alone, form_rebinds, tree_rebinds, parts_rebind, Piece, binds, frees, free_piece, pieces, pieces_in, piece_names, bound_by, Calls, start_rebinds, starts_rebind, jump_rebinds, call_rebinds, whole_rebinds, each_rebinds, assignments_rebind, binds_rebind, one_rebinds, body_rebinds, branches_rebind, putting_in, macro_rebinds, texts_rebind, standing_outside, standing_inside, definitions_rebind, locals_rebind, procedure_rebinds, in_process_body, process_rebinds, main_rebinds, rebind_offences_of}
use Rattle.pcal_tree.specs.Outside.{unit_names}
use Rattle.pcal_tree.specs.Placeless.{assignments_placeless, binds_placeless, statement_placeless, statements_placeless, branches_placeless, start_placeless, declarations_placeless, definitions_placeless, macros_placeless, procedures_placeless, main_placeless, placeless}
use Rattle.pcal_tree.specs.Variables.{declared}
use Rattle.translation.proofs.AgainOffences.{rules, rules_two, rules_if, rules_each}
use Rattle.translation.proofs.AgainParts.{declaration_placeless, definition_placeless, procedure_placeless, process_placeless, declarations_each, definitions_each, procedures_each, processes_each, seen_bare, names_of_bare}
use Rattle.translation.proofs.BareNames.{all_bare, binds_names_bare, both, declarations_joined, each_list, each_one, each_same, form_lists, words_bare}
use Rattle.translation.proofs.NoPlaces.{declared_bare}
use Rattle.translation.proofs.PlacelessAlgorithm.{macros_reversed}

-- ---- what a text has around it, without places

abbrev standing_placeless : Standing → Standing
standing_placeless (named x) = named x
standing_placeless (stands_for x ns) = stands_for x (names_placeless ns)

abbrev bare : Standings → Standings
bare s = map standing_placeless s

in_scope_bare : (s : Standings) (x : Word) → in_scope (bare s) x ≡ in_scope s x
in_scope_bare [] x = refl
in_scope_bare (named y ∷ s) x = ap (λ (b : Bool). bytes_eq y x || b) (in_scope_bare s x)
in_scope_bare (stands_for y ns ∷ s) x = in_scope_bare s x

brought_bare : (s : Standings) (x : Word) → brought (bare s) x ≡ names_placeless (brought s x)
brought_bare [] x = refl
brought_bare (named y ∷ s) x = by (bytes_eq y x) (brought_bare s x)
  where
    by : (b : Bool) → brought (bare s) x ≡ names_placeless (brought s x) → cond b [] (brought (bare s) x) ≡ names_placeless (cond b [] (brought s x))
    by true e = refl
    by false e = e
brought_bare (stands_for y ns ∷ s) x = by (bytes_eq y x) (brought_bare s x)
  where
    by : (b : Bool) → brought (bare s) x ≡ names_placeless (brought s x) → cond b (names_placeless ns) (brought (bare s) x) ≡ names_placeless (cond b ns (brought s x))
    by true e = refl
    by false e = e

named_too : (xs : List Word) (s : Standings) → naming xs (bare s) ≡ bare (naming xs s)
named_too [] s = refl
named_too (x ∷ xs) s = ap (λ r. named x ∷ r) (named_too xs s)

module _ (extended : List Word) where
  all_rebound : (s : Standings) (ns : List Name) → rules (rebound_all extended (bare s) (names_placeless ns)) ≡ rules (rebound_all extended s ns)
  all_rebound s ns =
      rules_each name_placeless (rebound extended (bare s)) (rebound extended s)
      (λ n. rules_if _ _ Rebind nowhere n.place (ap (λ (b : Bool). b && may_rebind extended n.word) (in_scope_bare s n.word))) ns

  -- where these are those without their places
  rebound_as : (s : Standings) (ns us : List Name) → us ≡ names_placeless ns → rules (rebound_all extended (bare s) us) ≡ rules (rebound_all extended s ns)
  rebound_as s ns us e = ap (λ (vs : List Name). rules (rebound_all extended (bare s) vs)) e ∙ all_rebound s ns

-- ---- expressions

put_bare : (K : Word → Bool) (s : Standings) (m : Form) → put_in K (bare s) (form_placeless m) ≡ names_placeless (put_in K s m)
put_bare K s (name x) = ap (λ (ns : List Name). cond (K x) ns []) (brought_bare s x) ∙ by (K x)
  where
    by : (b : Bool) → cond b (names_placeless (brought s x)) [] ≡ names_placeless (cond b (brought s x) [])
    by true = refl
    by false = refl
put_bare K s m = refl

module _ (extended : List Word) (K : Word → Bool) where
  form_rebound : (s : Standings) (m : Form) → rules (form_rebinds extended K (bare s) (form_placeless m)) ≡ rules (form_rebinds extended K s m)
  form_rebound s m =
      rules_two (rebound_all extended (bare s) (all_of (lists_of (form_placeless m)))) (rebound_all extended (bare s) (put_in K (bare s) (form_placeless m)))
      (rebound_all extended s (all_of (lists_of m))) (rebound_all extended s (put_in K s m))
      (rebound_as extended s (all_of (lists_of m)) _ (ap all_of (form_lists m) ∙ all_bare (lists_of m))) (rebound_as extended s (put_in K s m) _ (put_bare K s m))

  mutual
    tree_rebound : (t : Tree) (s : Standings) → rules (tree_rebinds extended K (tree_placeless t) (bare s)) ≡ rules (tree_rebinds extended K t s)
    tree_rebound (node m at ts) s =
        rules_two (form_rebinds extended K (bare s) (form_placeless m)) (parts_rebind extended K (seen_names (form_placeless m)) (trees_placeless ts) (bare s)) (form_rebinds extended K s m) (parts_rebind extended K (seen_names m) ts s)
        (form_rebound s m)
        (ap (λ (names : List (List Word)). rules (parts_rebind extended K names (trees_placeless ts) (bare s))) (seen_bare m) ∙ parts_rebound (seen_names m) ts s)

    parts_rebound : (names : List (List Word)) (ts : Trees) (s : Standings) → rules (parts_rebind extended K names (trees_placeless ts) (bare s)) ≡ rules (parts_rebind extended K names ts s)
    parts_rebound names no_trees s = refl
    parts_rebound [] (tree t ts) s =
        rules_two (tree_rebinds extended K (tree_placeless t) (bare s)) (parts_rebind extended K [] (trees_placeless ts) (bare s)) (tree_rebinds extended K t s) (parts_rebind extended K [] ts s)
        (tree_rebound t s) (parts_rebound [] ts s)
    parts_rebound (xs ∷ names) (tree t ts) s =
        rules_two (tree_rebinds extended K (tree_placeless t) (naming xs (bare s))) (parts_rebind extended K names (trees_placeless ts) (bare s)) (tree_rebinds extended K t (naming xs s)) (parts_rebind extended K names ts s)
        (ap (λ (r : Standings). rules (tree_rebinds extended K (tree_placeless t) r)) (named_too xs s) ∙ tree_rebound t (naming xs s)) (parts_rebound names ts s)

  start_rebound : (d : Start) (s : Standings) → rules (start_rebinds extended K (start_placeless d) (bare s)) ≡ rules (start_rebinds extended K d s)
  start_rebound unset s = refl
  start_rebound (equals e) s = tree_rebound e s
  start_rebound (among e) s = tree_rebound e s

  starts_rebound : (ds : List Declaration) (s : Standings) → rules (starts_rebind extended K (declarations_placeless ds) (bare s)) ≡ rules (starts_rebind extended K ds s)
  starts_rebound ds s =
      ap (λ (es : List Declaration). rules (starts_rebind extended K es (bare s))) (declarations_each ds)
      ∙ rules_each declaration_placeless (λ d. start_rebinds extended K d.start (bare s)) (λ d. start_rebinds extended K d.start s) (λ d. start_rebound d.start s) ds

-- ---- what a tree brings to where it is put in

abbrev piece_placeless : Piece → Piece
piece_placeless (binds n) = binds (name_placeless n)
piece_placeless (frees x) = frees x

abbrev Pieced : List Piece → List Piece → Type 0
Pieced xs ys = ys ≡ map piece_placeless xs

join : (xs ys us vs : List Piece) → Pieced xs us → Pieced ys vs → Pieced (xs ++ ys) (us ++ vs)
join = both piece_placeless

free_pieced : (xs : List Word) (m : Form) → Pieced (free_piece xs m) (free_piece xs (form_placeless m))
free_pieced xs (name x) = by (is_among xs x)
  where
    by : (b : Bool) → cond b [] (frees x ∷ []) ≡ map piece_placeless (cond b [] (frees x ∷ []))
    by true = refl
    by false = refl
free_pieced xs m = refl

mutual
  pieced : (t : Tree) (xs : List Word) → Pieced (pieces t xs) (pieces (tree_placeless t) xs)
  pieced (node m at ts) xs =
      join (map binds (all_of (lists_of m))) (free_piece xs m ++ pieces_in (seen_names m) ts xs) _ _
      (ap (map binds) (ap all_of (form_lists m) ∙ all_bare (lists_of m)) ∙ each_one name_placeless piece_placeless binds binds (λ n. refl) (all_of (lists_of m)))
      (join (free_piece xs m) (pieces_in (seen_names m) ts xs) _ _ (free_pieced xs m)
      (ap (λ (names : List (List Word)). pieces_in names (trees_placeless ts) xs) (seen_bare m) ∙ all_pieced (seen_names m) ts xs))

  all_pieced : (names : List (List Word)) (ts : Trees) (xs : List Word) → Pieced (pieces_in names ts xs) (pieces_in names (trees_placeless ts) xs)
  all_pieced names no_trees xs = refl
  all_pieced [] (tree t ts) xs = join (pieces t xs) (pieces_in [] ts xs) _ _ (pieced t xs) (all_pieced [] ts xs)
  all_pieced (ys ∷ names) (tree t ts) xs = join (pieces t (ys ++ xs)) (pieces_in names ts xs) _ _ (pieced t (ys ++ xs)) (all_pieced names ts xs)

bound_by_bare : (t : Tree) (s : Standings) → bound_by (tree_placeless t) (bare s) ≡ names_placeless (bound_by t s)
bound_by_bare t s =
    ap (flat_map (piece_names (bare s))) (pieced t []) ∙ each_list piece_placeless name_placeless (piece_names (bare s)) (piece_names s) one (pieces t [])
  where
    one : (p : Piece) → piece_names (bare s) (piece_placeless p) ≡ names_placeless (piece_names s p)
    one (binds n) = refl
    one (frees x) = brought_bare s x

-- ---- statements

jump_rebound : (extended : List Word) (s : Standings) → rules (jump_rebinds extended (bare s)) ≡ rules (jump_rebinds extended s)
jump_rebound extended s = rebound_as extended s (brought s (codes "self")) _ (brought_bare s (codes "self"))

call_rebound : (extended : List Word) (ps : List Procedure) (x : Word) (s : Standings) → rules (call_rebinds extended (procedures_placeless ps) x (bare s)) ≡ rules (call_rebinds extended ps x s)
call_rebound extended [] x s = refl
call_rebound extended (d ∷ ds) x s = by (bytes_eq d.name.word x) (call_rebound extended ds x s)
  where
    by : (b : Bool) → rules (call_rebinds extended (procedures_placeless ds) x (bare s)) ≡ rules (call_rebinds extended ds x s)
        → rules (cond b (starts_rebind extended self_alone (declarations_placeless d.variables) (bare s)) (call_rebinds extended (procedures_placeless ds) x (bare s)))
        ≡ rules (cond b (starts_rebind extended self_alone d.variables s) (call_rebinds extended ds x s))
    by true e = starts_rebound extended self_alone d.variables s
    by false e = e

-- where D finds at a macro call without places what C finds at it with them
abbrev SameCalls : Calls → Calls → Type 0
SameCalls C D = (s : Standings) (m : Word) (ts : Trees) → rules (D (bare s) m (trees_placeless ts)) ≡ rules (C s m ts)

module _ (extended : List Word) (ps : List Procedure) where
  abbrev qs : List Procedure
  qs = procedures_placeless ps

  whole : (t : Tree) (s : Standings) → rules (whole_rebinds extended (tree_placeless t) (bare s)) ≡ rules (whole_rebinds extended t s)
  whole = tree_rebound extended any_name

  each : (ts : Trees) (s : Standings) → rules (each_rebinds extended (trees_placeless ts) (bare s)) ≡ rules (each_rebinds extended ts s)
  each = parts_rebound extended any_name []

  assignments_rebound : (ms : Assignments) (s : Standings) → rules (assignments_rebind extended (assignments_placeless ms) (bare s)) ≡ rules (assignments_rebind extended ms s)
  assignments_rebound no_assignments s = refl
  assignments_rebound (assignment l e ms) s =
      rules_two (whole_rebinds extended (tree_placeless l) (bare s)) (whole_rebinds extended (tree_placeless e) (bare s) ++ assignments_rebind extended (assignments_placeless ms) (bare s))
      (whole_rebinds extended l s) (whole_rebinds extended e s ++ assignments_rebind extended ms s) (whole l s)
      (rules_two (whole_rebinds extended (tree_placeless e) (bare s)) (assignments_rebind extended (assignments_placeless ms) (bare s)) (whole_rebinds extended e s) (assignments_rebind extended ms s)
      (whole e s) (assignments_rebound ms s))

  binds_rebound : (bs : Binds) (s : Standings) → rules (binds_rebind extended (binds_placeless bs) (bare s)) ≡ rules (binds_rebind extended bs s)
  binds_rebound no_binds s = refl
  binds_rebound (one_of x e bs) s =
      rules_two (whole_rebinds extended (tree_placeless e) (bare s)) (binds_rebind extended (binds_placeless bs) (naming (x.word ∷ []) (bare s))) (whole_rebinds extended e s) (binds_rebind extended bs (naming (x.word ∷ []) s))
      (whole e s) (binds_rebound bs (naming (x.word ∷ []) s))
  binds_rebound (is x e bs) s =
      rules_two (whole_rebinds extended (tree_placeless e) (bare s)) (binds_rebind extended (binds_placeless bs) (naming (x.word ∷ []) (bare s))) (whole_rebinds extended e s) (binds_rebind extended bs (naming (x.word ∷ []) s))
      (whole e s) (binds_rebound bs (naming (x.word ∷ []) s))

  module _ (C D : Calls) (same : SameCalls C D) where
    mutual
      one_rebound : (st : Statement) (s : Standings) → rules (one_rebinds extended qs D (statement_placeless st) (bare s)) ≡ rules (one_rebinds extended ps C st s)
      one_rebound (assign ms) s = assignments_rebound ms s
      one_rebound (await e) s = whole e s
      one_rebound (print e) s = whole e s
      one_rebound (assert e) s = whole e s
      one_rebound skip s = refl
      one_rebound (branch e a b) s =
          rules_two (whole_rebinds extended (tree_placeless e) (bare s)) (body_rebinds extended qs D (statements_placeless a) (bare s) ++ body_rebinds extended qs D (statements_placeless b) (bare s))
          (whole_rebinds extended e s) (body_rebinds extended ps C a s ++ body_rebinds extended ps C b s) (whole e s)
          (rules_two (body_rebinds extended qs D (statements_placeless a) (bare s)) (body_rebinds extended qs D (statements_placeless b) (bare s)) (body_rebinds extended ps C a s) (body_rebinds extended ps C b s)
          (body_rebound a s) (body_rebound b s))
      one_rebound (either bs) s = some_rebound bs s
      one_rebound (with bs b) s =
          rules_two (rebound_all extended (bare s) (names_of_binds (binds_placeless bs)))
          (binds_rebind extended (binds_placeless bs) (bare s) ++ body_rebinds extended qs D (statements_placeless b) (naming (words (names_of_binds (binds_placeless bs))) (bare s)))
          (rebound_all extended s (names_of_binds bs)) (binds_rebind extended bs s ++ body_rebinds extended ps C b (naming (words (names_of_binds bs)) s))
          (rebound_as extended s (names_of_binds bs) _ (binds_names_bare bs))
          (rules_two (binds_rebind extended (binds_placeless bs) (bare s)) (body_rebinds extended qs D (statements_placeless b) (naming (words (names_of_binds (binds_placeless bs))) (bare s)))
          (binds_rebind extended bs s) (body_rebinds extended ps C b (naming (words (names_of_binds bs)) s)) (binds_rebound bs s)
          (ap (λ (xs : List Word). rules (body_rebinds extended qs D (statements_placeless b) (naming xs (bare s)))) (ap words (binds_names_bare bs) ∙ words_bare (names_of_binds bs))
          ∙ ap (λ (r : Standings). rules (body_rebinds extended qs D (statements_placeless b) r)) (named_too (words (names_of_binds bs)) s)
          ∙ body_rebound b (naming (words (names_of_binds bs)) s)))
      one_rebound (while e b) s =
          rules_two (whole_rebinds extended (tree_placeless e) (bare s)) (body_rebinds extended qs D (statements_placeless b) (bare s)) (whole_rebinds extended e s) (body_rebinds extended ps C b s) (whole e s) (body_rebound b s)
      one_rebound (goto l) s = jump_rebound extended s
      one_rebound (macro m ts) s =
          rules_two (D (bare s) m (trees_placeless ts)) (each_rebinds extended (trees_placeless ts) (bare s)) (C s m ts) (each_rebinds extended ts s) (same s m ts) (each ts s)
      one_rebound (call p ts) s =
          rules_two (jump_rebinds extended (bare s)) (call_rebinds extended qs p.word (bare s) ++ each_rebinds extended (trees_placeless ts) (bare s)) (jump_rebinds extended s) (call_rebinds extended ps p.word s ++ each_rebinds extended ts s)
          (jump_rebound extended s)
          (rules_two (call_rebinds extended qs p.word (bare s)) (each_rebinds extended (trees_placeless ts) (bare s)) (call_rebinds extended ps p.word s) (each_rebinds extended ts s) (call_rebound extended ps p.word s) (each ts s))
      one_rebound return s = refl

      body_rebound : (b : Statements) (s : Standings) → rules (body_rebinds extended qs D (statements_placeless b) (bare s)) ≡ rules (body_rebinds extended ps C b s)
      body_rebound done s = refl
      body_rebound (then at st rest) s =
          rules_two (one_rebinds extended qs D (statement_placeless st) (bare s)) (body_rebinds extended qs D (statements_placeless rest) (bare s)) (one_rebinds extended ps C st s) (body_rebinds extended ps C rest s)
          (one_rebound st s) (body_rebound rest s)
      body_rebound (mark l k rest) s = body_rebound rest s

      some_rebound : (bs : Branches) (s : Standings) → rules (branches_rebind extended qs D (branches_placeless bs) (bare s)) ≡ rules (branches_rebind extended ps C bs s)
      some_rebound no_branches s = refl
      some_rebound (or b bs) s =
          rules_two (body_rebinds extended qs D (statements_placeless b) (bare s)) (branches_rebind extended qs D (branches_placeless bs) (bare s)) (body_rebinds extended ps C b s) (branches_rebind extended ps C bs s)
          (body_rebound b s) (some_rebound bs s)

    -- where the words are named too
    named_body : (xs : List Word) (b : Statements) (s : Standings) → rules (body_rebinds extended qs D (statements_placeless b) (naming xs (bare s))) ≡ rules (body_rebinds extended ps C b (naming xs s))
    named_body xs b s = ap (λ (r : Standings). rules (body_rebinds extended qs D (statements_placeless b) r)) (named_too xs s) ∙ body_rebound b (naming xs s)

  -- ---- macros

  put_too : (ns : List Name) (ts : Trees) (s r : Standings) → putting_in (names_placeless ns) (trees_placeless ts) (bare s) (bare r) ≡ bare (putting_in ns ts s r)
  put_too [] ts s r = refl
  put_too (n ∷ ns) no_trees s r = refl
  put_too (n ∷ ns) (tree t ts) s r = λ i. stands_for n.word (bound_by_bare t s i) ∷ put_too ns ts s r i

  macros_rebound : (ms : List Macro) → SameCalls (macro_rebinds extended ps ms) (macro_rebinds extended qs (macros_placeless ms))
  macros_rebound [] s m ts = refl
  macros_rebound (d ∷ older) s m ts = by (bytes_eq d.name.word m) (macros_rebound older)
    where
      C : Calls
      C = macro_rebinds extended ps older

      D : Calls
      D = macro_rebinds extended qs (macros_placeless older)

      by : (b : Bool) → SameCalls C D
          → rules (cond b (body_rebinds extended qs D (statements_placeless d.body) (putting_in (names_placeless d.params) (trees_placeless ts) (bare s) (bare s))) (D (bare s) m (trees_placeless ts)))
          ≡ rules (cond b (body_rebinds extended ps C d.body (putting_in d.params ts s s)) (C s m ts))
      by true same =
          ap (λ (r : Standings). rules (body_rebinds extended qs D (statements_placeless d.body) r)) (put_too d.params ts s s) ∙ body_rebound C D same d.body (putting_in d.params ts s s)
      by false same = same s m ts

  texts_rebound : (s : Standings) (ms : List Macro)
      → rules (texts_rebind extended qs (macro_rebinds extended qs) (bare s) (macros_placeless ms)) ≡ rules (texts_rebind extended ps (macro_rebinds extended ps) s ms)
  texts_rebound s [] = refl
  texts_rebound s (d ∷ older) =
      rules_two (rebound_all extended (bare s) (names_placeless d.params) ++ body_rebinds extended qs D (statements_placeless d.body) (naming (words (names_placeless d.params)) (bare s)))
      (texts_rebind extended qs (macro_rebinds extended qs) (bare s) (macros_placeless older))
      (rebound_all extended s d.params ++ body_rebinds extended ps C d.body (naming (words d.params) s)) (texts_rebind extended ps (macro_rebinds extended ps) s older)
      (rules_two (rebound_all extended (bare s) (names_placeless d.params)) (body_rebinds extended qs D (statements_placeless d.body) (naming (words (names_placeless d.params)) (bare s)))
      (rebound_all extended s d.params) (body_rebinds extended ps C d.body (naming (words d.params) s)) (all_rebound extended s d.params)
      (ap (λ (xs : List Word). rules (body_rebinds extended qs D (statements_placeless d.body) (naming xs (bare s)))) (words_bare d.params) ∙ named_body C D (macros_rebound older) (words d.params) d.body s))
      (texts_rebound s older)
    where
      C : Calls
      C = macro_rebinds extended ps older

      D : Calls
      D = macro_rebinds extended qs (macros_placeless older)

  -- ---- units

  definitions_rebound : (ds : List Definition) (s : Standings) → rules (definitions_rebind extended (definitions_placeless ds) (bare s)) ≡ rules (definitions_rebind extended ds s)
  definitions_rebound [] s = refl
  definitions_rebound (d ∷ ds) s =
      rules_two (rebound_all extended (bare s) (names_placeless d.params))
      (whole_rebinds extended (tree_placeless d.body) (naming (words (names_placeless d.params)) (bare s)) ++ definitions_rebind extended (definitions_placeless ds) (naming (d.name.word ∷ []) (bare s)))
      (rebound_all extended s d.params) (whole_rebinds extended d.body (naming (words d.params) s) ++ definitions_rebind extended ds (naming (d.name.word ∷ []) s)) (all_rebound extended s d.params)
      (rules_two (whole_rebinds extended (tree_placeless d.body) (naming (words (names_placeless d.params)) (bare s))) (definitions_rebind extended (definitions_placeless ds) (naming (d.name.word ∷ []) (bare s)))
      (whole_rebinds extended d.body (naming (words d.params) s)) (definitions_rebind extended ds (naming (d.name.word ∷ []) s))
      (ap (λ (xs : List Word). rules (whole_rebinds extended (tree_placeless d.body) (naming xs (bare s)))) (words_bare d.params)
      ∙ ap (λ (r : Standings). rules (whole_rebinds extended (tree_placeless d.body) r)) (named_too (words d.params) s) ∙ whole d.body (naming (words d.params) s))
      (definitions_rebound ds (naming (d.name.word ∷ []) s)))

  locals_rebound : (ds : List Declaration) (s : Standings) → rules (locals_rebind extended (declarations_placeless ds) (bare s)) ≡ rules (locals_rebind extended ds s)
  locals_rebound ds s =
      rules_two (rebound_all extended (bare s) (names_of (declarations_placeless ds))) (starts_rebind extended any_name (declarations_placeless ds) (naming (declared (declarations_placeless ds)) (bare s)))
      (rebound_all extended s (names_of ds)) (starts_rebind extended any_name ds (naming (declared ds) s)) (rebound_as extended s (names_of ds) _ (names_of_bare ds))
      (ap (λ (xs : List Word). rules (starts_rebind extended any_name (declarations_placeless ds) (naming xs (bare s)))) (declared_bare ds)
      ∙ ap (λ (r : Standings). rules (starts_rebind extended any_name (declarations_placeless ds) r)) (named_too (declared ds) s) ∙ starts_rebound extended any_name ds (naming (declared ds) s))

  module _ (C D : Calls) (same : SameCalls C D) (s : Standings) where
    procedure_rebound : (p : Procedure) → rules (procedure_rebinds extended qs D (bare s) (procedure_placeless p)) ≡ rules (procedure_rebinds extended ps C s p)
    procedure_rebound p =
        ap (λ (ds : List Declaration). rules (locals_rebind extended ds (bare s) ++ body_rebinds extended qs D (statements_placeless p.body) (naming (declared ds) (bare s)))) (declarations_joined p.params p.variables)
        ∙ rules_two (locals_rebind extended (declarations_placeless es) (bare s)) (body_rebinds extended qs D (statements_placeless p.body) (naming (declared (declarations_placeless es)) (bare s)))
        (locals_rebind extended es s) (body_rebinds extended ps C p.body (naming (declared es) s)) (locals_rebound es s)
        (ap (λ (xs : List Word). rules (body_rebinds extended qs D (statements_placeless p.body) (naming xs (bare s)))) (declared_bare es) ∙ named_body C D same (declared es) p.body s)
      where
        es : List Declaration
        es = p.params ++ p.variables

    process_body : (p : Process) → in_process_body (process_placeless p) (bare s) ≡ bare (in_process_body p s)
    process_body p = (λ i. cond p.several (names i) (stands_for (codes "self") (bound_by_bare p.identity s i) ∷ names i)) ∙ by p.several
      where
        names : naming (declared (declarations_placeless p.variables)) (bare s) ≡ bare (naming (declared p.variables) s)
        names = ap (λ (xs : List Word). naming xs (bare s)) (declared_bare p.variables) ∙ named_too (declared p.variables) s

        by : (b : Bool) → cond b (bare (naming (declared p.variables) s)) (stands_for (codes "self") (names_placeless (bound_by p.identity s)) ∷ bare (naming (declared p.variables) s))
            ≡ bare (cond b (naming (declared p.variables) s) (stands_for (codes "self") (bound_by p.identity s) ∷ naming (declared p.variables) s))
        by true = refl
        by false = refl

    process_rebound : (p : Process) → rules (process_rebinds extended qs D (bare s) (process_placeless p)) ≡ rules (process_rebinds extended ps C s p)
    process_rebound p =
        rules_two (whole_rebinds extended (tree_placeless p.identity) (bare s))
        (locals_rebind extended (declarations_placeless p.variables) (bare s) ++ body_rebinds extended qs D (statements_placeless p.body) (in_process_body (process_placeless p) (bare s)))
        (whole_rebinds extended p.identity s) (locals_rebind extended p.variables s ++ body_rebinds extended ps C p.body (in_process_body p s)) (whole p.identity s)
        (rules_two (locals_rebind extended (declarations_placeless p.variables) (bare s)) (body_rebinds extended qs D (statements_placeless p.body) (in_process_body (process_placeless p) (bare s)))
        (locals_rebind extended p.variables s) (body_rebinds extended ps C p.body (in_process_body p s)) (locals_rebound p.variables s)
        (ap (λ (r : Standings). rules (body_rebinds extended qs D (statements_placeless p.body) r)) (process_body p) ∙ body_rebound C D same p.body (in_process_body p s)))

    main_rebound : (m : Main) → rules (main_rebinds extended qs D (bare s) (main_placeless m)) ≡ rules (main_rebinds extended ps C s m)
    main_rebound (alone b) = body_rebound C D same b s
    main_rebound (processes us) =
        ap (λ (vs : List Process). rules (flat_map (process_rebinds extended qs D (bare s)) vs)) (processes_each us)
        ∙ rules_each process_placeless (process_rebinds extended qs D (bare s)) (process_rebinds extended ps C s) process_rebound us

    procedures_rebound : (us : List Procedure) → rules (flat_map (procedure_rebinds extended qs D (bare s)) (procedures_placeless us)) ≡ rules (flat_map (procedure_rebinds extended ps C s) us)
    procedures_rebound us =
        ap (λ (vs : List Procedure). rules (flat_map (procedure_rebinds extended qs D (bare s)) vs)) (procedures_each us)
        ∙ rules_each procedure_placeless (procedure_rebinds extended qs D (bare s)) (procedure_rebinds extended ps C s) procedure_rebound us

-- ---- algorithms

outside_bare : (a : Algorithm) (o : Outside) → standing_outside (placeless a) o ≡ bare (standing_outside a o)
outside_bare a o = ap (λ (xs : List Word). naming (xs ++ unit_names o) []) (declared_bare a.globals) ∙ named_too (declared a.globals ++ unit_names o) []

inside_bare : (a : Algorithm) (o : Outside) → standing_inside (placeless a) o ≡ bare (standing_inside a o)
inside_bare a o = (λ i. naming (names i) (outside_bare a o i)) ∙ named_too (map (λ d. d.name.word) a.definitions) (standing_outside a o)
  where
    names : map (λ (d : Definition). d.name.word) (definitions_placeless a.definitions) ≡ map (λ (d : Definition). d.name.word) a.definitions
    names = ap (map (λ (d : Definition). d.name.word)) (definitions_each a.definitions) ∙ each_same definition_placeless (λ d. d.name.word) (λ d. d.name.word) (λ d. refl) a.definitions

pub rebind_offences_bare : (a : Algorithm) (o : Outside) → rules (rebind_offences_of (placeless a) o) ≡ rules (rebind_offences_of a o)
rebind_offences_bare a o =
    (λ i. rules (starts_rebind o.extended any_name b.globals (inside_bare a o i)
    ++ (definitions_rebind o.extended b.definitions (outside_bare a o i)
    ++ (texts_rebind o.extended qs (macro_rebinds o.extended qs) (inside_bare a o i) (macros_reversed a.macros i)
    ++ (flat_map (procedure_rebinds o.extended qs (macro_rebinds o.extended qs (macros_reversed a.macros i)) (inside_bare a o i)) qs
    ++ main_rebinds o.extended qs (macro_rebinds o.extended qs (macros_reversed a.macros i)) (inside_bare a o i) b.main)))))
    ∙ rules_two (starts_rebind o.extended any_name b.globals (bare s)) _ (starts_rebind o.extended any_name a.globals s) _ (starts_rebound o.extended any_name a.globals s)
    (rules_two (definitions_rebind o.extended b.definitions (bare (standing_outside a o))) _ (definitions_rebind o.extended a.definitions (standing_outside a o)) _
    (definitions_rebound o.extended a.procedures a.definitions (standing_outside a o))
    (rules_two (texts_rebind o.extended qs (macro_rebinds o.extended qs) (bare s) (macros_placeless ms)) _ (texts_rebind o.extended a.procedures (macro_rebinds o.extended a.procedures) s ms) _
    (texts_rebound o.extended a.procedures s ms)
    (rules_two (flat_map (procedure_rebinds o.extended qs D (bare s)) qs) (main_rebinds o.extended qs D (bare s) b.main)
    (flat_map (procedure_rebinds o.extended a.procedures C s) a.procedures) (main_rebinds o.extended a.procedures C s a.main)
    (procedures_rebound o.extended a.procedures C D (macros_rebound o.extended a.procedures ms) s a.procedures) (main_rebound o.extended a.procedures C D (macros_rebound o.extended a.procedures ms) s a.main))))
  where
    b : Algorithm
    b = placeless a

    s : Standings
    s = standing_inside a o

    qs : List Procedure
    qs = procedures_placeless a.procedures

    ms : List Macro
    ms = reverse a.macros

    C : Calls
    C = macro_rebinds o.extended a.procedures ms

    D : Calls
    D = macro_rebinds o.extended qs (macros_placeless ms)
