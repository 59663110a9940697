-- What is computed once for each macro, in place of looking through its body at each call: the names that it binds, and the names for which other text
-- may be put in, each with the names that are bound around it ("A PlusCal User's Manual", section 3.5, macros; "Specifying Systems", section 17.3).
use Rattle.std.specs.Prelude.{List, [], ◌∷◌, ◌++◌, Bool, false, ◌&&◌, map, cond, bytes_eq, codes, Option, Some, None}
use Rattle.std.specs.List.{flat_map}
use Rattle.tla_token.specs.declared.rule.Refusal.{Refusal}
use Rattle.tla_token.specs.Signs.{is_among}
use Rattle.tla_tree.specs.Tree.{Word, Name, Form, name, Tree, node, Trees, no_trees, tree, words, seen_names}
use Rattle.pcal_tree.specs.Algorithm.{Assignments, no_assignments, assignment, Binds, no_binds, one_of, is, Statement, assign, await, print, assert, skip, branch, either, with, while, goto, macro, call, return, Statements, done, then, mark, Branches, no_branches, or, Start, unset, equals, among, Declaration, Macro, Procedure}
use Rattle.pcal_tree.specs.BoundNames.{all_of, lists_of, names_of_binds}
use Rattle.pcal_tree.specs.OffencesRebind.{Standings, naming, brought, rebound, rebound_all, any_name, self_alone, Piece, binds, frees, pieces, Calls, putting_in}
use Rattle.pcal_tree.specs.laws.MacroSummaries.{union, argument}
use Rattle.pcal_tree.specs.laws.MacroUses.{same_name, same_refusal}

-- a name that is bound, which offends where it is in scope; a free name, which offends where a name that is bound in what is put in for it is in scope; and a free name
-- where another name is bound
pub data Binding : Type 0 where
  bound : Name → Binding
  standing : Word → Binding
  beneath : Word → Word → Binding

-- offences that rest on no name around, and what may offend where it is
pub record Bindings : Type 0 where
  pub offences : List Refusal
  pub free : List Binding

pub record MacroBindings : Type 0 where
  pub title : Word
  pub params : List Name
  pub found : Bindings

-- what a binding offends, in a module that extends these
abbrev pub offences_where : List Word → Standings → Binding → List Refusal
offences_where extended s (bound n) = rebound extended s n
offences_where extended s (standing x) = rebound_all extended s (brought s x)
offences_where extended s (beneath x y) = rebound_all extended (naming (y ∷ []) []) (brought s x)

-- ---- each once

abbrev pub same_binding : Binding → Binding → Bool
same_binding (bound n) (bound k) = same_name n k
same_binding (standing x) (standing y) = bytes_eq x y
same_binding (beneath x y) (beneath v w) = bytes_eq x v && bytes_eq y w
same_binding _ _ = false

abbrev pub none_found : Bindings
none_found = record { offences = []; free = [] }

abbrev pub offending : List Refusal → Bindings
offending rs = record { offences = rs; free = [] }

abbrev pub unsettled : List Binding → Bindings
unsettled bs = record { offences = []; free = bs }

abbrev pub both : Bindings → Bindings → Bindings
both a b = record { offences = union same_refusal a.offences b.offences; free = union same_binding a.free b.free }

-- ---- where the names xs are bound

abbrev pub bound_inside : List Word → List Word → Name → Bindings
bound_inside extended xs n = record { offences = rebound extended (naming xs []) n; free = bound n ∷ [] }

abbrev pub all_bound_inside : List Word → List Word → List Name → Bindings
all_bound_inside extended xs [] = none_found
all_bound_inside extended xs (n ∷ ns) = both (bound_inside extended xs n) (all_bound_inside extended xs ns)

abbrev pub standing_inside : List Word → Word → Bindings
standing_inside xs x = cond (is_among xs x) none_found (unsettled (standing x ∷ map (beneath x) xs))

abbrev pub beneath_inside : List Word → Word → Word → Bindings
beneath_inside xs x y = cond (is_among xs x) none_found (unsettled (beneath x y ∷ []))

-- ---- expressions

abbrev pub free_inside : (Word → Bool) → List Word → Form → Bindings
free_inside K xs (name x) = cond (K x) (standing_inside xs x) none_found
free_inside K xs _ = none_found

abbrev mutual
  pub tree_bindings : List Word → (Word → Bool) → Tree → List Word → Bindings
  tree_bindings extended K (node m at ts) xs =
      both (both (all_bound_inside extended xs (all_of (lists_of m))) (free_inside K xs m)) (parts_bindings extended K (seen_names m) ts xs)

  pub parts_bindings : List Word → (Word → Bool) → List (List Word) → Trees → List Word → Bindings
  parts_bindings extended K names no_trees xs = none_found
  parts_bindings extended K [] (tree t ts) xs = both (tree_bindings extended K t xs) (parts_bindings extended K [] ts xs)
  parts_bindings extended K (ys ∷ names) (tree t ts) xs = both (tree_bindings extended K t (ys ++ xs)) (parts_bindings extended K names ts xs)

-- ---- statements

-- of a macro call
abbrev pub CallBindings : Type 0
CallBindings = List Word → Word → Trees → Bindings

abbrev pub start_bindings : List Word → (Word → Bool) → Start → List Word → Bindings
start_bindings extended K unset xs = none_found
start_bindings extended K (equals e) xs = tree_bindings extended K e xs
start_bindings extended K (among e) xs = tree_bindings extended K e xs

abbrev pub starts_bindings : List Word → (Word → Bool) → List Declaration → List Word → Bindings
starts_bindings extended K [] xs = none_found
starts_bindings extended K (d ∷ ds) xs = both (start_bindings extended K d.start xs) (starts_bindings extended K ds xs)

abbrev pub jump_bindings : List Word → Bindings
jump_bindings xs = standing_inside xs (codes "self")

abbrev pub procedure_bindings : List Word → List Procedure → Word → List Word → Bindings
procedure_bindings extended [] p xs = none_found
procedure_bindings extended (d ∷ ds) p xs = cond (bytes_eq d.name.word p) (starts_bindings extended self_alone d.variables xs) (procedure_bindings extended ds p xs)

abbrev pub whole_bindings : List Word → Tree → List Word → Bindings
whole_bindings extended t xs = tree_bindings extended any_name t xs

abbrev pub each_bindings : List Word → Trees → List Word → Bindings
each_bindings extended ts xs = parts_bindings extended any_name [] ts xs

abbrev pub assignments_bindings : List Word → Assignments → List Word → Bindings
assignments_bindings extended no_assignments xs = none_found
assignments_bindings extended (assignment l e ms) xs = both (whole_bindings extended l xs) (both (whole_bindings extended e xs) (assignments_bindings extended ms xs))

abbrev pub binds_bindings : List Word → Binds → List Word → Bindings
binds_bindings extended no_binds xs = none_found
binds_bindings extended (one_of x e bs) xs = both (whole_bindings extended e xs) (binds_bindings extended bs (x.word ∷ xs))
binds_bindings extended (is x e bs) xs = both (whole_bindings extended e xs) (binds_bindings extended bs (x.word ∷ xs))

abbrev mutual
  pub one_bindings : List Word → List Procedure → CallBindings → Statement → List Word → Bindings
  one_bindings extended ps S (assign ms) xs = assignments_bindings extended ms xs
  one_bindings extended ps S (await e) xs = whole_bindings extended e xs
  one_bindings extended ps S (print e) xs = whole_bindings extended e xs
  one_bindings extended ps S (assert e) xs = whole_bindings extended e xs
  one_bindings extended ps S skip xs = none_found
  one_bindings extended ps S (branch e a b) xs = both (whole_bindings extended e xs) (both (body_bindings extended ps S a xs) (body_bindings extended ps S b xs))
  one_bindings extended ps S (either bs) xs = branches_bindings extended ps S bs xs
  one_bindings extended ps S (with bs b) xs =
      both (all_bound_inside extended xs (names_of_binds bs))
      (both (binds_bindings extended bs xs) (body_bindings extended ps S b (words (names_of_binds bs) ++ xs)))
  one_bindings extended ps S (while e b) xs = both (whole_bindings extended e xs) (body_bindings extended ps S b xs)
  one_bindings extended ps S (goto l) xs = jump_bindings xs
  one_bindings extended ps S (macro m ts) xs = both (S xs m ts) (each_bindings extended ts xs)
  one_bindings extended ps S (call p ts) xs = both (jump_bindings xs) (both (procedure_bindings extended ps p.word xs) (each_bindings extended ts xs))
  one_bindings extended ps S return xs = none_found

  pub body_bindings : List Word → List Procedure → CallBindings → Statements → List Word → Bindings
  body_bindings extended ps S done xs = none_found
  body_bindings extended ps S (then at st rest) xs = both (one_bindings extended ps S st xs) (body_bindings extended ps S rest xs)
  body_bindings extended ps S (mark l k rest) xs = body_bindings extended ps S rest xs

  pub branches_bindings : List Word → List Procedure → CallBindings → Branches → List Word → Bindings
  branches_bindings extended ps S no_branches xs = none_found
  branches_bindings extended ps S (or b bs) xs = both (body_bindings extended ps S b xs) (branches_bindings extended ps S bs xs)

-- ---- macros and calls

abbrev pub piece_inside : List Word → List Word → Piece → Bindings
piece_inside extended xs (binds n) = bound_inside extended xs n
piece_inside extended xs (frees x) = standing_inside xs x

abbrev pub pieces_inside : List Word → List Word → List Piece → Bindings
pieces_inside extended xs [] = none_found
pieces_inside extended xs (p ∷ ps) = both (piece_inside extended xs p) (pieces_inside extended xs ps)

-- where y is bound in the called macro
abbrev pub piece_beneath : List Word → List Word → Word → Piece → Bindings
piece_beneath extended xs y (binds n) = offending (rebound extended (naming (y ∷ []) []) n)
piece_beneath extended xs y (frees x) = beneath_inside xs x y

abbrev pub pieces_beneath : List Word → List Word → Word → List Piece → Bindings
pieces_beneath extended xs y [] = none_found
pieces_beneath extended xs y (p ∷ ps) = both (piece_beneath extended xs y p) (pieces_beneath extended xs y ps)

abbrev pub standing_called : List Word → List Word → Option Tree → Word → Bindings
standing_called extended xs (Some t) x = pieces_inside extended xs (pieces t [])
standing_called extended xs None x = standing_inside xs x

abbrev pub beneath_called : List Word → List Word → Option Tree → Word → Word → Bindings
beneath_called extended xs (Some t) x y = pieces_beneath extended xs y (pieces t [])
beneath_called extended xs None x y = beneath_inside xs x y

-- what a macro's body may offend, where the macro is called with arguments and the names xs are bound around the call
abbrev pub called_binding : List Word → List Word → (Word → Option Tree) → Binding → Bindings
called_binding extended xs g (bound n) = bound_inside extended xs n
called_binding extended xs g (standing x) = standing_called extended xs (g x) x
called_binding extended xs g (beneath x y) = beneath_called extended xs (g x) x y

abbrev pub called_bindings : List Word → List Word → (Word → Option Tree) → List Binding → Bindings
called_bindings extended xs g [] = none_found
called_bindings extended xs g (b ∷ bs) = both (called_binding extended xs g b) (called_bindings extended xs g bs)

-- a call in a macro
abbrev pub call_bindings : List Word → List MacroBindings → CallBindings
call_bindings extended [] xs m ts = none_found
call_bindings extended (d ∷ older) xs m ts =
    cond (bytes_eq d.title m) (both (offending d.found.offences) (called_bindings extended xs (argument d.params ts) d.found.free)) (call_bindings extended older xs m ts)

-- the newest first
abbrev pub macro_bindings : List Word → List Procedure → List Macro → List MacroBindings
macro_bindings extended ps [] = []
macro_bindings extended ps (d ∷ older) =
    let before = macro_bindings extended ps older in
    record { title = d.name.word; params = d.params; found = body_bindings extended ps (call_bindings extended before) d.body [] } ∷ before

abbrev pub offences_seen : List Word → Bindings → Standings → List Refusal
offences_seen extended u s = u.offences ++ flat_map (offences_where extended s) u.free

-- what a macro call offends, by what was computed for each macro
abbrev pub rebinds_by : List Word → List MacroBindings → Calls
rebinds_by extended [] s m ts = []
rebinds_by extended (d ∷ older) s m ts =
    cond (bytes_eq d.title m) (offences_seen extended d.found (putting_in d.params ts s s)) (rebinds_by extended older s m ts)
