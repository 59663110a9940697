-- The bindings that were found in a macro say what its body offends, wherever it is looked at.
use Rattle.std.proofs.Common.{◌≡◌, List, [], ◌∷◌, ◌++◌, Bool, true, false, ◌&&◌, ◌||◌, cond, bytes_eq, codes, Option, Some, None, refl, sym, ◌∙◌, ap}
use Rattle.std.specs.List.{list_any, flat_map}
use Rattle.std.proofs.lemmas.List.Folds.{list_any-append}
use Rattle.tla_token.specs.declared.rule.Rule.TheVariants.{Rebind}
use Rattle.tla_tree.specs.Tree.{Word, Name, Form, number, string, truth, booleans, strings, name, next, strict, operator_call, conjunction, disjunction, implication, member, if_then_else, cases, binding, local, Tree, node, Trees, no_trees, tree, words, seen_names}
use Rattle.pcal_tree.specs.Algorithm.{Assignments, no_assignments, assignment, Binds, no_binds, one_of, is, Statement, assign, await, print, assert, skip, branch, either, with, while, goto, macro, call, return, Statements, done, then, mark, Branches, no_branches, or, Start, unset, equals, among, Declaration, Procedure}
use Rattle.pcal_tree.specs.BoundNames.{all_of, lists_of, names_of_binds}
use Rattle.pcal_tree.specs.Offences.{offence_if}
use Rattle.pcal_tree.specs.OffencesRebind.{Standings, naming, in_scope, brought, may_rebind, rebound, rebound_all, put_in, any_name, self_alone, form_rebinds, tree_rebinds, parts_rebind, Piece, binds, frees, pieces, piece_names, bound_by, Calls, start_rebinds, starts_rebind, jump_rebinds, call_rebinds, whole_rebinds, each_rebinds, assignments_rebind, binds_rebind, one_rebinds, body_rebinds, branches_rebind, putting_in}
use Rattle.pcal_tree.specs.laws.MacroSummaries.{argument}
use Rattle.pcal_tree.specs.laws.MacroBindings.{Binding, bound, standing, beneath, Bindings, MacroBindings, offences_where, none_found, offending, both, bound_inside, all_bound_inside, standing_inside, free_inside, tree_bindings, parts_bindings, CallBindings, start_bindings, starts_bindings, jump_bindings, procedure_bindings, whole_bindings, each_bindings, assignments_bindings, binds_bindings, one_bindings, body_bindings, branches_bindings, piece_inside, pieces_inside, piece_beneath, pieces_beneath, standing_called, beneath_called, called_binding, called_bindings, call_bindings, offences_seen, rebinds_by}
use Rattle.pcal_tree.proofs.SetLaws.{any_flat, Same}
use Rattle.pcal_tree.proofs.RebindNames.{around_more, says_both, and_nothing, says_offending, says_nothing, says_same, same_scope, says_bound, says_all_bound, says_standing, says_beneath, Around, Says}

-- ---- expressions

says_put_in : (ms : List Word) (K : Word → Bool) (xs : List Word) (s r : Standings) → Around xs s r → (m : Form) → Says ms s (rebound_all ms r (put_in K r m)) (free_inside K xs m)
says_put_in ms K xs s r a (name x) = by (K x)
  where
    by : (b : Bool) → Says ms s (rebound_all ms r (cond b (brought r x) [])) (cond b (standing_inside xs x) none_found)
    by true = says_standing ms xs s r a x
    by false = says_nothing ms s
says_put_in ms K xs s r a (operator_call g) = says_nothing ms s
says_put_in ms K xs s r a (number k) = says_nothing ms s
says_put_in ms K xs s r a (string w) = says_nothing ms s
says_put_in ms K xs s r a (truth b) = says_nothing ms s
says_put_in ms K xs s r a booleans = says_nothing ms s
says_put_in ms K xs s r a strings = says_nothing ms s
says_put_in ms K xs s r a (next w) = says_nothing ms s
says_put_in ms K xs s r a (strict o) = says_nothing ms s
says_put_in ms K xs s r a conjunction = says_nothing ms s
says_put_in ms K xs s r a disjunction = says_nothing ms s
says_put_in ms K xs s r a implication = says_nothing ms s
says_put_in ms K xs s r a (member b) = says_nothing ms s
says_put_in ms K xs s r a if_then_else = says_nothing ms s
says_put_in ms K xs s r a (cases b) = says_nothing ms s
says_put_in ms K xs s r a (binding b gs) = says_nothing ms s
says_put_in ms K xs s r a (local ns) = says_nothing ms s

says_form : (ms : List Word) (K : Word → Bool) (xs : List Word) (s r : Standings) → Around xs s r → (m : Form)
    → Says ms s (form_rebinds ms K r m) (both (all_bound_inside ms xs (all_of (lists_of m))) (free_inside K xs m))
says_form ms K xs s r a m =
    says_both ms s (rebound_all ms r (all_of (lists_of m))) (rebound_all ms r (put_in K r m)) (all_bound_inside ms xs (all_of (lists_of m))) (free_inside K xs m)
    (says_all_bound ms xs s r a (all_of (lists_of m))) (says_put_in ms K xs s r a m)

mutual
  says_tree : (ms : List Word) (K : Word → Bool) (t : Tree) (xs : List Word) (s r : Standings) → Around xs s r → Says ms s (tree_rebinds ms K t r) (tree_bindings ms K t xs)
  says_tree ms K (node m at ts) xs s r a =
      says_both ms s (form_rebinds ms K r m) (parts_rebind ms K (seen_names m) ts r)
      (both (all_bound_inside ms xs (all_of (lists_of m))) (free_inside K xs m)) (parts_bindings ms K (seen_names m) ts xs)
      (says_form ms K xs s r a m) (says_parts ms K (seen_names m) ts xs s r a)

  says_parts : (ms : List Word) (K : Word → Bool) (names : List (List Word)) (ts : Trees) (xs : List Word) (s r : Standings) → Around xs s r
      → Says ms s (parts_rebind ms K names ts r) (parts_bindings ms K names ts xs)
  says_parts ms K names no_trees xs s r a = says_nothing ms s
  says_parts ms K [] (tree t ts) xs s r a =
      says_both ms s (tree_rebinds ms K t r) (parts_rebind ms K [] ts r) (tree_bindings ms K t xs) (parts_bindings ms K [] ts xs)
      (says_tree ms K t xs s r a) (says_parts ms K [] ts xs s r a)
  says_parts ms K (ys ∷ names) (tree t ts) xs s r a =
      says_both ms s (tree_rebinds ms K t (naming ys r)) (parts_rebind ms K names ts r) (tree_bindings ms K t (ys ++ xs)) (parts_bindings ms K names ts xs)
      (says_tree ms K t (ys ++ xs) s (naming ys r) (around_more ys xs s r a)) (says_parts ms K names ts xs s r a)

-- ---- statements

says_start : (ms : List Word) (K : Word → Bool) (d : Start) (xs : List Word) (s r : Standings) → Around xs s r → Says ms s (start_rebinds ms K d r) (start_bindings ms K d xs)
says_start ms K unset xs s r a = says_nothing ms s
says_start ms K (equals e) xs s r a = says_tree ms K e xs s r a
says_start ms K (among e) xs s r a = says_tree ms K e xs s r a

says_starts : (ms : List Word) (K : Word → Bool) (ds : List Declaration) (xs : List Word) (s r : Standings) → Around xs s r
    → Says ms s (starts_rebind ms K ds r) (starts_bindings ms K ds xs)
says_starts ms K [] xs s r a = says_nothing ms s
says_starts ms K (d ∷ ds) xs s r a =
    says_both ms s (start_rebinds ms K d.start r) (starts_rebind ms K ds r) (start_bindings ms K d.start xs) (starts_bindings ms K ds xs)
    (says_start ms K d.start xs s r a) (says_starts ms K ds xs s r a)

says_procedure : (ms : List Word) (ps : List Procedure) (p : Word) (xs : List Word) (s r : Standings) → Around xs s r
    → Says ms s (call_rebinds ms ps p r) (procedure_bindings ms ps p xs)
says_procedure ms [] p xs s r a = says_nothing ms s
says_procedure ms (d ∷ ds) p xs s r a = by (bytes_eq d.name.word p) (says_procedure ms ds p xs s r a)
  where
    by : (b : Bool) → Says ms s (call_rebinds ms ds p r) (procedure_bindings ms ds p xs)
        → Says ms s (cond b (starts_rebind ms self_alone d.variables r) (call_rebinds ms ds p r))
        (cond b (starts_bindings ms self_alone d.variables xs) (procedure_bindings ms ds p xs))
    by true h = says_starts ms self_alone d.variables xs s r a
    by false h = h

says_jump : (ms xs : List Word) (s r : Standings) → Around xs s r → Says ms s (jump_rebinds ms r) (jump_bindings xs)
says_jump ms xs s r a = says_standing ms xs s r a (codes "self")

says_whole : (ms : List Word) (t : Tree) (xs : List Word) (s r : Standings) → Around xs s r → Says ms s (whole_rebinds ms t r) (whole_bindings ms t xs)
says_whole ms t xs s r a = says_tree ms any_name t xs s r a

says_each : (ms : List Word) (ts : Trees) (xs : List Word) (s r : Standings) → Around xs s r → Says ms s (each_rebinds ms ts r) (each_bindings ms ts xs)
says_each ms ts xs s r a = says_parts ms any_name [] ts xs s r a

says_assignments : (ms : List Word) (ns : Assignments) (xs : List Word) (s r : Standings) → Around xs s r
    → Says ms s (assignments_rebind ms ns r) (assignments_bindings ms ns xs)
says_assignments ms no_assignments xs s r a = says_nothing ms s
says_assignments ms (assignment l e ns) xs s r a =
    says_both ms s (whole_rebinds ms l r) (whole_rebinds ms e r ++ assignments_rebind ms ns r) (whole_bindings ms l xs) (both (whole_bindings ms e xs) (assignments_bindings ms ns xs))
    (says_whole ms l xs s r a)
    (says_both ms s (whole_rebinds ms e r) (assignments_rebind ms ns r) (whole_bindings ms e xs) (assignments_bindings ms ns xs)
    (says_whole ms e xs s r a) (says_assignments ms ns xs s r a))

says_binds : (ms : List Word) (bs : Binds) (xs : List Word) (s r : Standings) → Around xs s r → Says ms s (binds_rebind ms bs r) (binds_bindings ms bs xs)
says_binds ms no_binds xs s r a = says_nothing ms s
says_binds ms (one_of x e bs) xs s r a =
    says_both ms s (whole_rebinds ms e r) (binds_rebind ms bs (naming (x.word ∷ []) r)) (whole_bindings ms e xs) (binds_bindings ms bs (x.word ∷ xs))
    (says_whole ms e xs s r a) (says_binds ms bs (x.word ∷ xs) s (naming (x.word ∷ []) r) (around_more (x.word ∷ []) xs s r a))
says_binds ms (is x e bs) xs s r a =
    says_both ms s (whole_rebinds ms e r) (binds_rebind ms bs (naming (x.word ∷ []) r)) (whole_bindings ms e xs) (binds_bindings ms bs (x.word ∷ xs))
    (says_whole ms e xs s r a) (says_binds ms bs (x.word ∷ xs) s (naming (x.word ∷ []) r) (around_more (x.word ∷ []) xs s r a))

-- what S finds in a call says what C says of it
abbrev pub CallsSay : List Word → Standings → Calls → CallBindings → Type 0
CallsSay ms s C S = (xs : List Word) (r : Standings) → Around xs s r → (m : Word) (ts : Trees) → Says ms s (C r m ts) (S xs m ts)

mutual
  says_one : (ms : List Word) (ps : List Procedure) (C : Calls) (S : CallBindings) (s : Standings) → CallsSay ms s C S
      → (st : Statement) (xs : List Word) (r : Standings) → Around xs s r → Says ms s (one_rebinds ms ps C st r) (one_bindings ms ps S st xs)
  says_one ms ps C S s c (assign ns) xs r a = says_assignments ms ns xs s r a
  says_one ms ps C S s c (await e) xs r a = says_whole ms e xs s r a
  says_one ms ps C S s c (print e) xs r a = says_whole ms e xs s r a
  says_one ms ps C S s c (assert e) xs r a = says_whole ms e xs s r a
  says_one ms ps C S s c skip xs r a = says_nothing ms s
  says_one ms ps C S s c (branch e b d) xs r a =
      says_both ms s (whole_rebinds ms e r) (body_rebinds ms ps C b r ++ body_rebinds ms ps C d r) (whole_bindings ms e xs) (both (body_bindings ms ps S b xs) (body_bindings ms ps S d xs))
      (says_whole ms e xs s r a)
      (says_both ms s (body_rebinds ms ps C b r) (body_rebinds ms ps C d r) (body_bindings ms ps S b xs) (body_bindings ms ps S d xs)
      (says_body ms ps C S s c b xs r a) (says_body ms ps C S s c d xs r a))
  says_one ms ps C S s c (either bs) xs r a = says_branches ms ps C S s c bs xs r a
  says_one ms ps C S s c (with bs b) xs r a =
      let ns = names_of_binds bs in
      let inner = naming (words ns) r in
      says_both ms s (rebound_all ms r ns) (binds_rebind ms bs r ++ body_rebinds ms ps C b inner) (all_bound_inside ms xs ns)
      (both (binds_bindings ms bs xs) (body_bindings ms ps S b (words ns ++ xs))) (says_all_bound ms xs s r a ns)
      (says_both ms s (binds_rebind ms bs r) (body_rebinds ms ps C b inner) (binds_bindings ms bs xs) (body_bindings ms ps S b (words ns ++ xs))
      (says_binds ms bs xs s r a) (says_body ms ps C S s c b (words ns ++ xs) inner (around_more (words ns) xs s r a)))
  says_one ms ps C S s c (while e b) xs r a =
      says_both ms s (whole_rebinds ms e r) (body_rebinds ms ps C b r) (whole_bindings ms e xs) (body_bindings ms ps S b xs) (says_whole ms e xs s r a) (says_body ms ps C S s c b xs r a)
  says_one ms ps C S s c (goto l) xs r a = says_jump ms xs s r a
  says_one ms ps C S s c (macro m ts) xs r a =
      says_both ms s (C r m ts) (each_rebinds ms ts r) (S xs m ts) (each_bindings ms ts xs) (c xs r a m ts) (says_each ms ts xs s r a)
  says_one ms ps C S s c (call p ts) xs r a =
      says_both ms s (jump_rebinds ms r) (call_rebinds ms ps p.word r ++ each_rebinds ms ts r) (jump_bindings xs)
      (both (procedure_bindings ms ps p.word xs) (each_bindings ms ts xs)) (says_jump ms xs s r a)
      (says_both ms s (call_rebinds ms ps p.word r) (each_rebinds ms ts r) (procedure_bindings ms ps p.word xs) (each_bindings ms ts xs)
      (says_procedure ms ps p.word xs s r a) (says_each ms ts xs s r a))
  says_one ms ps C S s c return xs r a = says_nothing ms s

  pub says_body : (ms : List Word) (ps : List Procedure) (C : Calls) (S : CallBindings) (s : Standings) → CallsSay ms s C S
      → (b : Statements) (xs : List Word) (r : Standings) → Around xs s r → Says ms s (body_rebinds ms ps C b r) (body_bindings ms ps S b xs)
  says_body ms ps C S s c done xs r a = says_nothing ms s
  says_body ms ps C S s c (then at st rest) xs r a =
      says_both ms s (one_rebinds ms ps C st r) (body_rebinds ms ps C rest r) (one_bindings ms ps S st xs) (body_bindings ms ps S rest xs)
      (says_one ms ps C S s c st xs r a) (says_body ms ps C S s c rest xs r a)
  says_body ms ps C S s c (mark l k rest) xs r a = says_body ms ps C S s c rest xs r a

  says_branches : (ms : List Word) (ps : List Procedure) (C : Calls) (S : CallBindings) (s : Standings) → CallsSay ms s C S
      → (bs : Branches) (xs : List Word) (r : Standings) → Around xs s r → Says ms s (branches_rebind ms ps C bs r) (branches_bindings ms ps S bs xs)
  says_branches ms ps C S s c no_branches xs r a = says_nothing ms s
  says_branches ms ps C S s c (or b bs) xs r a =
      says_both ms s (body_rebinds ms ps C b r) (branches_rebind ms ps C bs r) (body_bindings ms ps S b xs) (branches_bindings ms ps S bs xs)
      (says_body ms ps C S s c b xs r a) (says_branches ms ps C S s c bs xs r a)

-- ---- calls

all_of_both : (ms : List Word) (s : Standings) (ns ks : List Name) → Same (rebound_all ms s (ns ++ ks)) (rebound_all ms s ns ++ rebound_all ms s ks)
all_of_both ms s ns ks f =
    any_flat f (rebound ms s) (ns ++ ks) ∙ list_any-append (λ n. list_any f (rebound ms s n)) ns ks
    ∙ sym (λ i. any_flat f (rebound ms s) ns i || any_flat f (rebound ms s) ks i)
    ∙ sym (list_any-append f (rebound_all ms s ns) (rebound_all ms s ks))

says_split : (ms : List Word) (s r : Standings) (ns ks : List Name) (a b : Bindings) → Says ms s (rebound_all ms r ns) a → Says ms s (rebound_all ms r ks) b
    → Says ms s (rebound_all ms r (ns ++ ks)) (both a b)
says_split ms s r ns ks a b h k f = all_of_both ms r ns ks f ∙ says_both ms s (rebound_all ms r ns) (rebound_all ms r ks) a b h k f

one_name : (ms : List Word) (s r : Standings) (n : Name) (u : Bindings) → Says ms s (rebound ms r n) u → Says ms s (rebound_all ms r (n ∷ [])) u
one_name ms s r n u h f = sym (and_nothing (rebound ms r n) f) ∙ h f

says_piece : (ms xs : List Word) (s r : Standings) → Around xs s r → (p : Piece) → Says ms s (rebound_all ms r (piece_names r p)) (piece_inside ms xs p)
says_piece ms xs s r a (binds n) = one_name ms s r n (bound_inside ms xs n) (says_bound ms xs s r a n)
says_piece ms xs s r a (frees x) = says_standing ms xs s r a x

says_pieces : (ms xs : List Word) (s r : Standings) → Around xs s r → (ps : List Piece)
    → Says ms s (rebound_all ms r (flat_map (piece_names r) ps)) (pieces_inside ms xs ps)
says_pieces ms xs s r a [] = says_nothing ms s
says_pieces ms xs s r a (p ∷ ps) =
    says_split ms s r (piece_names r p) (flat_map (piece_names r) ps) (piece_inside ms xs p) (pieces_inside ms xs ps) (says_piece ms xs s r a p) (says_pieces ms xs s r a ps)

says_piece_beneath : (ms xs : List Word) (s r : Standings) → Around xs s r → (y : Word) (p : Piece)
    → Says ms s (rebound_all ms (naming (y ∷ []) []) (piece_names r p)) (piece_beneath ms xs y p)
says_piece_beneath ms xs s r a y (binds n) =
    one_name ms s (naming (y ∷ []) []) n (offending (rebound ms (naming (y ∷ []) []) n)) (says_offending ms s (rebound ms (naming (y ∷ []) []) n))
says_piece_beneath ms xs s r a y (frees x) = says_beneath ms xs s r a x y

says_pieces_beneath : (ms xs : List Word) (s r : Standings) → Around xs s r → (y : Word) (ps : List Piece)
    → Says ms s (rebound_all ms (naming (y ∷ []) []) (flat_map (piece_names r) ps)) (pieces_beneath ms xs y ps)
says_pieces_beneath ms xs s r a y [] = says_nothing ms s
says_pieces_beneath ms xs s r a y (p ∷ ps) =
    says_split ms s (naming (y ∷ []) []) (piece_names r p) (flat_map (piece_names r) ps) (piece_beneath ms xs y p) (pieces_beneath ms xs y ps)
    (says_piece_beneath ms xs s r a y p) (says_pieces_beneath ms xs s r a y ps)

-- where arguments are put in
scope_putting : (ps : List Name) (ts : Trees) (s r : Standings) (w : Word) → in_scope (putting_in ps ts s r) w ≡ in_scope r w
scope_putting [] ts s r w = refl
scope_putting (p ∷ ps) no_trees s r w = refl
scope_putting (p ∷ ps) (tree t ts) s r w = scope_putting ps ts s r w

abbrev names_put : Option Tree → Standings → List Name → List Name
names_put (Some t) s ns = bound_by t s
names_put None s ns = ns

brought_putting : (ps : List Name) (ts : Trees) (s r : Standings) (w : Word) → brought (putting_in ps ts s r) w ≡ names_put (argument ps ts w) s (brought r w)
brought_putting [] ts s r w = refl
brought_putting (p ∷ ps) no_trees s r w = refl
brought_putting (p ∷ ps) (tree t ts) s r w = by (bytes_eq p.word w) (brought_putting ps ts s r w)
  where
    by : (b : Bool) → brought (putting_in ps ts s r) w ≡ names_put (argument ps ts w) s (brought r w)
        → cond b (bound_by t s) (brought (putting_in ps ts s r) w) ≡ names_put (cond b (Some t) (argument ps ts w)) s (brought r w)
    by true h = refl
    by false h = h

says_standing_called : (ms xs : List Word) (s r : Standings) → Around xs s r → (o : Option Tree) (w : Word)
    → Says ms s (rebound_all ms r (names_put o r (brought r w))) (standing_called ms xs o w)
says_standing_called ms xs s r a (Some t) w = says_pieces ms xs s r a (pieces t [])
says_standing_called ms xs s r a None w = says_standing ms xs s r a w

says_beneath_called : (ms xs : List Word) (s r : Standings) → Around xs s r → (o : Option Tree) (w y : Word)
    → Says ms s (rebound_all ms (naming (y ∷ []) []) (names_put o r (brought r w))) (beneath_called ms xs o w y)
says_beneath_called ms xs s r a (Some t) w y = says_pieces_beneath ms xs s r a y (pieces t [])
says_beneath_called ms xs s r a None w y = says_beneath ms xs s r a w y

says_called : (ms xs : List Word) (s r : Standings) → Around xs s r → (ps : List Name) (ts : Trees) (v : Binding)
    → Says ms s (offences_where ms (putting_in ps ts r r) v) (called_binding ms xs (argument ps ts) v)
says_called ms xs s r a ps ts (bound n) =
    says_same ms s (rebound ms (putting_in ps ts r r) n) (rebound ms r n) (bound_inside ms xs n)
    (λ i. offence_if (scope_putting ps ts r r n.word i && may_rebind ms n.word) Rebind n.place) (says_bound ms xs s r a n)
says_called ms xs s r a ps ts (standing w) =
    let inner = putting_in ps ts r r in
    says_same ms s (rebound_all ms inner (brought inner w)) (rebound_all ms r (names_put (argument ps ts w) r (brought r w))) (standing_called ms xs (argument ps ts w) w)
    (same_scope ms inner r (scope_putting ps ts r r) (brought inner w) ∙ ap (rebound_all ms r) (brought_putting ps ts r r w))
    (says_standing_called ms xs s r a (argument ps ts w) w)
says_called ms xs s r a ps ts (beneath w y) =
    let inner = putting_in ps ts r r in
    says_same ms s (rebound_all ms (naming (y ∷ []) []) (brought inner w)) (rebound_all ms (naming (y ∷ []) []) (names_put (argument ps ts w) r (brought r w)))
    (beneath_called ms xs (argument ps ts w) w y) (ap (rebound_all ms (naming (y ∷ []) [])) (brought_putting ps ts r r w))
    (says_beneath_called ms xs s r a (argument ps ts w) w y)

says_all_called : (ms xs : List Word) (s r : Standings) → Around xs s r → (ps : List Name) (ts : Trees) (vs : List Binding)
    → Says ms s (flat_map (offences_where ms (putting_in ps ts r r)) vs) (called_bindings ms xs (argument ps ts) vs)
says_all_called ms xs s r a ps ts [] = says_nothing ms s
says_all_called ms xs s r a ps ts (v ∷ vs) =
    let inner = putting_in ps ts r r in
    says_both ms s (offences_where ms inner v) (flat_map (offences_where ms inner) vs) (called_binding ms xs (argument ps ts) v) (called_bindings ms xs (argument ps ts) vs)
    (says_called ms xs s r a ps ts v) (says_all_called ms xs s r a ps ts vs)

pub says_call : (ms : List Word) (us : List MacroBindings) (s : Standings) → CallsSay ms s (rebinds_by ms us) (call_bindings ms us)
says_call ms [] s xs r a m ts = says_nothing ms s
says_call ms (d ∷ older) s xs r a m ts = by (bytes_eq d.title m) (says_call ms older s xs r a m ts)
  where
    inner : Standings
    inner = putting_in d.params ts r r

    found : Bindings
    found = called_bindings ms xs (argument d.params ts) d.found.free

    by : (b : Bool) → Says ms s (rebinds_by ms older r m ts) (call_bindings ms older xs m ts)
        → Says ms s (cond b (offences_seen ms d.found inner) (rebinds_by ms older r m ts))
        (cond b (both (offending d.found.offences) found) (call_bindings ms older xs m ts))
    by true h =
        says_both ms s d.found.offences (flat_map (offences_where ms inner) d.found.free) (offending d.found.offences) found
        (says_offending ms s d.found.offences) (says_all_called ms xs s r a d.params ts d.found.free)
    by false h = h
