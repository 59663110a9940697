-- What is computed once for each macro, in place of writing it out at each call: the names that it assigns, parameters or others, and which of them
-- must not be one variable ("A PlusCal User's Manual", sections 3.5, macros, and 3.7, labels).
use Rattle.std.specs.Prelude.{List, [], ◌∷◌, ◌++◌, Bool, true, false, ◌&&◌, ◌||◌, cond, bytes_eq, Option, Some, None, option_map, map}
use Rattle.std.specs.List.{list_any, flat_map}
use Rattle.tla_tree.specs.Tree.{Word, Tree, Trees}
use Rattle.pcal_tree.specs.Algorithm.{nowhere, Name, Assignments, no_assignments, assignment, Statement, assign, branch, either, with, while, goto, macro, call, return, Statements, done, then, mark, Branches, no_branches, or, Macro}
use Rattle.pcal_tree.specs.Run.{arguments}
use Rattle.pcal_tree.specs.Paths.{root, is_whole, some_word, same_word, Effect, nothing, rounds}

-- ---- what a macro's body assigns

-- a left side: the name that it begins with, a parameter of the macro or another one, and whether it is the whole of it
pub record Side : Type 0 where
  pub name : Word
  pub whole : Bool

-- names that must not be one variable: what is assigned one after the other, and what one statement assigns, where one side is the whole
pub data Pair : Type 0 where
  in_turn : Word → Word → Pair
  at_once : Side → Side → Pair

-- names that are assigned, and pairs of them
pub record Found : Type 0 where
  pub names : List Word
  pub pairs : List Pair

pub record Summary : Type 0 where
  pub name : Word
  pub params : List Name
  pub found : Found

-- ---- each once

abbrev pub same_truth : Bool → Bool → Bool
same_truth true true = true
same_truth false false = true
same_truth _ _ = false

abbrev pub same_side : Side → Side → Bool
same_side s r = bytes_eq s.name r.name && same_truth s.whole r.whole

abbrev pub same_pair : Pair → Pair → Bool
same_pair (in_turn a b) (in_turn c d) = bytes_eq a c && bytes_eq b d
same_pair (at_once a b) (at_once c d) = same_side a c && same_side b d
same_pair _ _ = false

-- xs and then ys, what is the same once
abbrev pub union : {X : Type 0} → (X → X → Bool) → List X → List X → List X
union same [] ys = ys
union same (x ∷ xs) ys = let all = union same xs ys in cond (list_any (same x) all) all (x ∷ all)

abbrev pub none_found : Found
none_found = record { names = []; pairs = [] }

abbrev pub both : Found → Found → Found
both a b = record { names = union bytes_eq a.names b.names; pairs = union same_pair a.pairs b.pairs }

-- ---- statements of a body

abbrev pub sides_of : Bool → Option Word → List Side
sides_of w None = []
sides_of w (Some x) = record { name = x; whole = w } ∷ []

abbrev pub sides : Assignments → List Side
sides no_assignments = []
sides (assignment l e ms) = sides_of (is_whole l) (root l) ++ sides ms

abbrev pub pairs_of : List Side → List Pair
pairs_of [] = []
pairs_of (s ∷ ss) = map (at_once s) ss ++ pairs_of ss

abbrev pub found_at_once : List Side → Found
found_at_once ss = record { names = map (λ s. s.name) ss; pairs = pairs_of ss }

-- the argument that stands for a name
abbrev pub argument : List Name → Trees → Word → Option Tree
argument ps ts x = arguments ps ts x nowhere

-- the name with which what stands for x begins; a tree that is no left side has none, and where none stands for it, it is x
abbrev pub variable_of : Option Tree → Word → Option Word
variable_of (Some t) x = root t
variable_of None x = Some x

abbrev pub argument_whole : Option Tree → Bool
argument_whole (Some t) = is_whole t
argument_whole None = true

-- what a name of a macro is where the macro is called, in another one or outside macros
abbrev pub resolved : (Word → Option Tree) → Word → Option Word
resolved g x = variable_of (g x) x

abbrev pub resolved_whole : (Word → Option Tree) → Side → Bool
resolved_whole g s = s.whole && argument_whole (g s.name)

abbrev pub put_side : (Word → Option Tree) → Side → List Side
put_side g s = sides_of (resolved_whole g s) (resolved g s.name)

abbrev pub put_pair : (Word → Option Tree) → Pair → List Pair
put_pair g (in_turn a b) = flat_map (λ c. map (in_turn c) (some_word (resolved g b))) (some_word (resolved g a))
put_pair g (at_once r s) = flat_map (λ c. map (at_once c) (put_side g s)) (put_side g r)

abbrev pub put_found : (Word → Option Tree) → Found → Found
put_found g f = record { names = flat_map (λ x. some_word (resolved g x)) f.names; pairs = flat_map (put_pair g) f.pairs }

-- a call in a macro
abbrev pub found_in_call : List Summary → Word → Trees → Found
found_in_call [] m us = none_found
found_in_call (s ∷ older) m us = cond (bytes_eq s.name m) (put_found (argument s.params us) s.found) (found_in_call older m us)

abbrev pub found_here : List Summary → Statement → Found
found_here older (assign ms) = found_at_once (sides ms)
found_here older (macro m us) = found_in_call older m us
found_here older _ = none_found

-- ---- paths

-- what some path to a place has assigned since its last label
abbrev pub Trail : Type 0
Trail = Option (List Word)

abbrev pub joined : Trail → Trail → Trail
joined None q = q
joined (Some xs) None = Some xs
joined (Some xs) (Some ys) = Some (union bytes_eq xs ys)

abbrev mutual
  pub trail_after_one : (Statement → Found) → Statement → Bool → Trail → Trail
  trail_after_one S (branch e a b) l p = joined (trail_after S a false p) (trail_after S b false p)
  trail_after_one S (either bs) l p = trail_after_some S bs p
  trail_after_one S (with bs b) l p = trail_after S b false p
  trail_after_one S (while e b) l p = cond l p (rounds joined (λ q. trail_after S b false q) p)
  trail_after_one S (goto n) l p = None
  trail_after_one S (call n ts) l p = None
  trail_after_one S return l p = None
  trail_after_one S st l p = option_map (λ xs. union bytes_eq (S st).names xs) p

  pub trail_after : (Statement → Found) → Statements → Bool → Trail → Trail
  trail_after S done l p = p
  trail_after S (mark n k rest) l p = trail_after S rest true (Some [])
  trail_after S (then at st rest) l p = trail_after S rest false (trail_after_one S st l p)

  pub trail_after_some : (Statement → Found) → Branches → Trail → Trail
  trail_after_some S no_branches p = None
  trail_after_some S (or b bs) p = joined (trail_after S b false p) (trail_after_some S bs p)

-- at a statement that the path leads to
abbrev pub found_on : Trail → Found → Found
found_on None f = record { names = []; pairs = f.pairs }
found_on (Some xs) f = record { names = f.names; pairs = union same_pair f.pairs (flat_map (λ y. map (λ x. in_turn x y) xs) f.names) }

abbrev mutual
  pub found_inside : (Statement → Found) → Bool → Trail → Statement → Found
  found_inside S l p (branch e a b) = both (found S false p a) (found S false p b)
  found_inside S l p (either bs) = found_in_some S p bs
  found_inside S l p (with bs b) = found S false p b
  found_inside S l p (while e b) = found S false (trail_after_one S (while e b) l p) b
  found_inside S l p _ = none_found

  pub found : (Statement → Found) → Bool → Trail → Statements → Found
  found S l p done = none_found
  found S l p (mark n k rest) = found S true (Some []) rest
  found S l p (then at st rest) = both (found_on p (S st)) (both (found_inside S l p st) (found S false (trail_after_one S st l p) rest))

  pub found_in_some : (Statement → Found) → Trail → Branches → Found
  found_in_some S p no_branches = none_found
  found_in_some S p (or b bs) = both (found S false p b) (found_in_some S p bs)

-- ---- macros and calls

-- the newest first
abbrev pub summaries : List Macro → List Summary
summaries [] = []
summaries (d ∷ older) =
    let done = summaries older in
    record { name = d.name.word; params = d.params; found = found (found_here done) false (Some []) d.body } ∷ done

abbrev pub is_broken : (Word → Option Tree) → Pair → Bool
is_broken g (in_turn a b) = same_word (resolved g a) (resolved g b)
is_broken g (at_once r s) = same_word (resolved g r.name) (resolved g s.name) && (resolved_whole g r || resolved_whole g s)

abbrev pub effect_by : (Word → Option Tree) → Found → Effect
effect_by g f = record { variables = flat_map (λ x. some_word (resolved g x)) f.names; twice = list_any (is_broken g) f.pairs }

-- what a macro call assigns, by the summaries
abbrev pub summary_effect : List Summary → Word → Trees → Effect
summary_effect [] m ts = nothing
summary_effect (s ∷ older) m ts = cond (bytes_eq s.name m) (effect_by (argument s.params ts) s.found) (summary_effect older m ts)
