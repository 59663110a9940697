-- The names that expressions and statements use, and the variables that definitions read ("A PlusCal User's Manual", sections 3.1 and 3.6; "Specifying
-- Systems", section 17.3).
use Rattle.std.specs.Prelude.{List, [], ◌∷◌, ◌++◌, reverse, filter, Bool, cond, bytes_eq}
use Rattle.std.specs.List.{list_any}
use Rattle.tla_token.specs.declared.place.Place.{Place}
use Rattle.tla_token.specs.Signs.{is_among}
use Rattle.tla_tree.specs.Tree.{Word, Form, name, operator_call, Tree, node, Trees, no_trees, tree, words, seen_names}
use Rattle.pcal_tree.specs.Algorithm.{Name, Assignments, no_assignments, assignment, Binds, no_binds, one_of, is, Start, unset, equals, among, Definition, Algorithm}
use Rattle.pcal_tree.specs.Variables.{declared}

-- ---- names that are used and not bound, where the names xs are bound around

abbrev pub named : Word → Place → Name
named x at = record { word = x; place = at }

abbrev pub if_free : List Word → Name → List Name
if_free xs n = cond (is_among xs n.word) [] (n ∷ [])

-- with those of its parts, which a name doesn't have
abbrev pub used_by_form : Form → Place → List Word → List Name → List Name
used_by_form (name x) at xs ns = if_free xs (named x at)
used_by_form (operator_call f) at xs ns = if_free xs (named f at) ++ ns
used_by_form _ at xs ns = ns

abbrev mutual
  pub used : Tree → List Word → List Name
  used (node m at ts) xs = used_by_form m at xs (used_by_parts (seen_names m) ts xs)

  -- each part sees further names
  pub used_by_parts : List (List Word) → Trees → List Word → List Name
  used_by_parts names no_trees xs = []
  used_by_parts [] (tree t ts) xs = used t xs ++ used_by_parts [] ts xs
  used_by_parts (ys ∷ names) (tree t ts) xs = used t (ys ++ xs) ++ used_by_parts names ts xs

abbrev pub used_by_all : Trees → List Word → List Name
used_by_all = used_by_parts []

-- a left side uses its variable
abbrev pub used_by_assignments : Assignments → List Word → List Name
used_by_assignments no_assignments xs = []
used_by_assignments (assignment l e ms) xs = used l xs ++ (used e xs ++ used_by_assignments ms xs)

-- each name is seen by those after it
abbrev pub used_by_binds : Binds → List Word → List Name
used_by_binds no_binds xs = []
used_by_binds (one_of x e bs) xs = used e xs ++ used_by_binds bs (x.word ∷ xs)
used_by_binds (is x e bs) xs = used e xs ++ used_by_binds bs (x.word ∷ xs)

-- an initial value, or the set that it is of
abbrev pub initial : Start → List Tree
initial unset = []
initial (equals e) = e ∷ []
initial (among e) = e ∷ []

-- ---- what definitions read

-- a definition, and the global variables that it reads, itself or through others
pub record Reading : Type 0 where
  pub title : Word
  pub variables : List Word

-- those of the newest definition of the name
abbrev pub through : List Reading → Word → List Word
through [] x = []
through (d ∷ ds) x = cond (bytes_eq d.title x) d.variables (through ds x)

-- what may be a variable that a name reads: it itself, and what it reads as a definition
abbrev pub looked_at : List Reading → Name → List Word
looked_at ds n = n.word ∷ through ds n.word

abbrev pub among_looked_at : List Reading → List Name → Word → Bool
among_looked_at ds ns y = list_any (λ n. is_among (looked_at ds n) y) ns

-- the newest first; each sees older ones
abbrev pub readings : List Word → List Definition → List Reading
readings gs [] = []
readings gs (d ∷ older) =
    let before = readings gs older in
    record { title = d.name.word; variables = filter (among_looked_at before (used d.body (words d.params))) gs } ∷ before

abbrev pub readings_of : Algorithm → List Reading
readings_of a = readings (declared a.globals) (reverse a.definitions)
