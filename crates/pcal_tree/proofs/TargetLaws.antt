-- What left sides are with trees put in for names, by what was found in the macro's text.
use Rattle.std.proofs.Common.{◌≡◌, List, [], ◌∷◌, ◌++◌, Bool, true, false, ◌&&◌, ◌||◌, cond, bytes_eq, Option, Some, None, refl, sym, ◌∙◌, ap, map}
use Rattle.std.specs.Option.{option_or, option_map}
use Rattle.std.specs.List.{list_any, flat_map}
use Rattle.std.proofs.lemmas.List.Folds.{list_any-append}
use Rattle.std.proofs.Math.Bool.{and_assoc, or-false}
use Rattle.tla_token.specs.declared.place.Place.{Place}
use Rattle.tla_tree.specs.Tree.{Word, apply, select, name, strict, Tree, node, Trees, no_trees, tree, Graft, grafted_name, graft, grafts}
use Rattle.pcal_tree.specs.Algorithm.{nowhere, Name, Assignments, no_assignments, assignment}
use Rattle.pcal_tree.specs.Run.{arguments}
use Rattle.pcal_tree.specs.Expand.{placed_at, graft_left, graft_assignments}
use Rattle.pcal_tree.specs.OffencesSteps.{called_with}
use Rattle.pcal_tree.specs.Paths.{root, is_whole, some_word, roots, same_word, clash, clashes_with, clashes}
use Rattle.pcal_tree.specs.laws.MacroSummaries.{Side, Pair, in_turn, at_once, sides_of, sides, pairs_of, argument, argument_whole, put_pair, variable_of, resolved, resolved_whole, is_broken, Found, put_found, effect_by}
use Rattle.pcal_tree.proofs.ExpandRuns.{same_argument}
use Rattle.pcal_tree.proofs.SetLaws.{any_map, any_flat, any_same, any_none, any_or, Agree}

-- ---- the variable of a left side

-- what is put in rests on no place
abbrev pub Anywhere : Graft → Type 0
Anywhere g = (x : Word) (p q : Place) → g x p ≡ g x q

abbrev pub put_for : Graft → Word → Option Tree
put_for g x = g x nowhere

-- with trees put in
abbrev pub root_after : (Word → Option Tree) → Option Word → Option Word
root_after g None = None
root_after g (Some x) = variable_of (g x) x

abbrev pub whole_after : (Word → Option Tree) → Option Word → Bool
whole_after g None = true
whole_after g (Some x) = argument_whole (g x)

pub root_put : (g : Graft) → Anywhere g → (t : Tree) → root (graft g t) ≡ root_after (put_for g) (root t)
root_put g free (node (name x) at us) = ap (λ (o : Option Tree). root (grafted_name o (name x) at (grafts g us))) (free x at nowhere) ∙ by (g x nowhere)
  where
    by : (o : Option Tree) → root (grafted_name o (name x) at (grafts g us)) ≡ variable_of o x
    by (Some t) = refl
    by None = refl
root_put g free (node (strict apply) at no_trees) = refl
root_put g free (node (strict apply) at (tree t us)) = root_put g free t
root_put g free (node (strict (select a)) at no_trees) = refl
root_put g free (node (strict (select a)) at (tree t us)) = root_put g free t
root_put g free (node m at us) = refl

pub whole_put : (g : Graft) → Anywhere g → (t : Tree) → is_whole (graft g t) ≡ (is_whole t && whole_after (put_for g) (root t))
whole_put g free (node (name x) at us) = ap (λ (o : Option Tree). is_whole (grafted_name o (name x) at (grafts g us))) (free x at nowhere) ∙ by (g x nowhere)
  where
    by : (o : Option Tree) → is_whole (grafted_name o (name x) at (grafts g us)) ≡ argument_whole o
    by (Some t) = refl
    by None = refl
whole_put g free (node m at us) = refl

pub root_placed : (at : Place) (t : Tree) → root (placed_at at t) ≡ root t
root_placed at (node m p ts) = refl

whole_placed : (at : Place) (t : Tree) → is_whole (placed_at at t) ≡ is_whole t
whole_placed at (node (name x) p ts) = refl
whole_placed at (node m p ts) = refl

pub root_side : (g : Graft) → Anywhere g → (l : Tree) → root (graft_left g l) ≡ root_after (put_for g) (root l)
root_side g free (node m at us) = root_placed at (graft g (node m at us)) ∙ root_put g free (node m at us)

pub whole_side : (g : Graft) → Anywhere g → (l : Tree) → is_whole (graft_left g l) ≡ (is_whole l && whole_after (put_for g) (root l))
whole_side g free (node m at us) = whole_placed at (graft g (node m at us)) ∙ whole_put g free (node m at us)

pub arguments_anywhere : (ps : List Name) (ts : Trees) → Anywhere (arguments ps ts)
arguments_anywhere ps ts x p q = same_argument ps ts x p q

pub called_anywhere : (ps : List Name) (ts : Trees) (g : Graft) → Anywhere g → Anywhere (called_with ps ts g)
called_anywhere ps ts g free x p q = λ i. option_or (same_argument ps ts x p q i) (free x p q i)

pub root_left : (ps : List Name) (ts : Trees) (l : Tree) → root (graft_left (arguments ps ts) l) ≡ root_after (argument ps ts) (root l)
root_left ps ts l = root_side (arguments ps ts) (arguments_anywhere ps ts) l

-- ---- the assignments of a statement

abbrev pub variables_of : (Word → Option Tree) → List Word → List Word
variables_of g xs = flat_map (λ x. some_word (resolved g x)) xs

pub same_none : (o : Option Word) → same_word o None ≡ false
same_none None = refl
same_none (Some x) = refl

-- some pair of one side of each list is broken
abbrev BrokenOf : (Word → Option Tree) → List Side → List Side → Bool
BrokenOf g ss rs = list_any (λ s. list_any (λ r. is_broken g (at_once s r)) rs) ss

module _ (g : Graft) (free : Anywhere g) where
  one_root : (w : Bool) (o : Option Word) (rest : List Side)
      → (some_word (root_after (put_for g) o) ++ variables_of (put_for g) (map (λ s. s.name) rest)) ≡ variables_of (put_for g) (map (λ s. s.name) (sides_of w o ++ rest))
  one_root w None rest = refl
  one_root w (Some x) rest = refl

  pub roots_put : (ms : Assignments) → roots (graft_assignments g ms) ≡ variables_of (put_for g) (map (λ s. s.name) (sides ms))
  roots_put no_assignments = refl
  roots_put (assignment l e ms) = (λ i. some_word (root_side g free l i) ++ roots_put ms i) ∙ one_root (is_whole l) (root l) (sides ms)

  two_sides : (w v : Bool) (o p : Option Word)
      → (same_word (root_after (put_for g) o) (root_after (put_for g) p) && ((w && whole_after (put_for g) o) || (v && whole_after (put_for g) p)))
      ≡ BrokenOf (put_for g) (sides_of w o) (sides_of v p)
  two_sides w v None p = refl
  two_sides w v (Some x) None = ap (λ (b : Bool). b && ((w && argument_whole (g x nowhere)) || (v && true))) (same_none (variable_of (g x nowhere) x))
  two_sides w v (Some x) (Some y) = sym (or-false one) ∙ sym (or-false (one || false))
    where
      one : Bool
      one = is_broken (put_for g) (at_once (record { name = x; whole = w }) (record { name = y; whole = v }))

  clash_put : (l m : Tree) → clash (graft_left g l) (graft_left g m) ≡ BrokenOf (put_for g) (sides_of (is_whole l) (root l)) (sides_of (is_whole m) (root m))
  clash_put l m =
      (λ i. same_word (root_side g free l i) (root_side g free m i) && (whole_side g free l i || whole_side g free m i))
      ∙ two_sides (is_whole l) (is_whole m) (root l) (root m)

  clashes_with_put : (l : Tree) (ms : Assignments) → clashes_with (graft_left g l) (graft_assignments g ms) ≡ BrokenOf (put_for g) (sides_of (is_whole l) (root l)) (sides ms)
  clashes_with_put l no_assignments = sym (any_none (λ s. false) (λ s. refl) (sides_of (is_whole l) (root l)))
  clashes_with_put l (assignment m e ms) =
      (λ i. clash_put l m i || clashes_with_put l ms i)
      ∙ sym (any_or (λ s. list_any (λ r. is_broken (put_for g) (at_once s r)) here) (λ s. list_any (λ r. is_broken (put_for g) (at_once s r)) (sides ms)) (sides_of (is_whole l) (root l)))
      ∙ sym (any_same (λ s. list_any (λ r. is_broken (put_for g) (at_once s r)) (here ++ sides ms))
      (λ s. list_any (λ r. is_broken (put_for g) (at_once s r)) here || list_any (λ r. is_broken (put_for g) (at_once s r)) (sides ms))
      (λ s. list_any-append (λ r. is_broken (put_for g) (at_once s r)) here (sides ms)) (sides_of (is_whole l) (root l)))
    where
      here : List Side
      here = sides_of (is_whole m) (root m)

  more_sides : (w : Bool) (o : Option Word) (rest : List Side)
      → list_any (is_broken (put_for g)) (pairs_of (sides_of w o ++ rest)) ≡ (BrokenOf (put_for g) (sides_of w o) rest || list_any (is_broken (put_for g)) (pairs_of rest))
  more_sides w None rest = refl
  more_sides w (Some x) rest =
      list_any-append (is_broken (put_for g)) (map (at_once s) rest) (pairs_of rest)
      ∙ ap (λ (b : Bool). b || list_any (is_broken (put_for g)) (pairs_of rest)) (any_map (is_broken (put_for g)) (at_once s) rest ∙ sym (or-false (list_any (λ r. is_broken (put_for g) (at_once s r)) rest)))
    where
      s : Side
      s = record { name = x; whole = w }

  pub clashes_put : (ms : Assignments) → clashes (graft_assignments g ms) ≡ list_any (is_broken (put_for g)) (pairs_of (sides ms))
  clashes_put no_assignments = refl
  clashes_put (assignment l e ms) = (λ i. clashes_with_put l ms i || clashes_put ms i) ∙ sym (more_sides (is_whole l) (root l) (sides ms))

-- ---- a call in the body

pub argument_after : (qs : List Name) (us : Trees) (g : Graft) (x : Word) → argument qs (grafts g us) x ≡ option_map (graft g) (argument qs us x)
argument_after [] us g x = refl
argument_after (q ∷ qs) no_trees g x = refl
argument_after (q ∷ qs) (tree t us) g x = by (bytes_eq q.word x) (argument_after qs us g x)
  where
    by : (b : Bool) → argument qs (grafts g us) x ≡ option_map (graft g) (argument qs us x)
        → cond b (Some (graft g t)) (argument qs (grafts g us) x) ≡ option_map (graft g) (cond b (Some t) (argument qs us x))
    by true e = refl
    by false e = e

-- the arguments us of a call for the parameters qs, where g is put in around it
module _ (qs : List Name) (us : Trees) (g : Graft) (free : Anywhere g) where
  abbrev around : Graft
  around = called_with qs (grafts g us) g

  pub resolved_twice : (x : Word) → resolved (put_for around) x ≡ root_after (put_for g) (resolved (argument qs us) x)
  resolved_twice x = ap (λ (o : Option Tree). variable_of (option_or o (g x nowhere)) x) (argument_after qs us g x) ∙ by (argument qs us x)
    where
      by : (o : Option Tree) → variable_of (option_or (option_map (graft g) o) (g x nowhere)) x ≡ root_after (put_for g) (variable_of o x)
      by (Some t) = root_put g free t
      by None = refl

  pub whole_twice : (x : Word) → argument_whole (put_for around x) ≡ (argument_whole (argument qs us x) && whole_after (put_for g) (resolved (argument qs us) x))
  whole_twice x = ap (λ (o : Option Tree). argument_whole (option_or o (g x nowhere))) (argument_after qs us g x) ∙ by (argument qs us x)
    where
      by : (o : Option Tree) → argument_whole (option_or (option_map (graft g) o) (g x nowhere)) ≡ (argument_whole o && whole_after (put_for g) (variable_of o x))
      by (Some t) = whole_put g free t
      by None = refl

  side_twice : (s : Side) → resolved_whole (put_for around) s ≡ (resolved_whole (argument qs us) s && whole_after (put_for g) (resolved (argument qs us) s.name))
  side_twice s = ap (λ (b : Bool). s.whole && b) (whole_twice s.name) ∙ sym (and_assoc s.whole (argument_whole (argument qs us s.name)) (whole_after (put_for g) (resolved (argument qs us) s.name)))

  turn_put : (o p : Option Word)
      → same_word (root_after (put_for g) o) (root_after (put_for g) p) ≡ list_any (is_broken (put_for g)) (flat_map (λ c. map (in_turn c) (some_word p)) (some_word o))
  turn_put None p = refl
  turn_put (Some c) None = same_none (resolved (put_for g) c)
  turn_put (Some c) (Some d) = sym (or-false (same_word (resolved (put_for g) c) (resolved (put_for g) d)))

  once_put : (w v : Bool) (o p : Option Word)
      → (same_word (root_after (put_for g) o) (root_after (put_for g) p) && ((w && whole_after (put_for g) o) || (v && whole_after (put_for g) p)))
      ≡ list_any (is_broken (put_for g)) (flat_map (λ c. map (at_once c) (sides_of v p)) (sides_of w o))
  once_put w v None p = refl
  once_put w v (Some c) None = ap (λ (b : Bool). b && ((w && argument_whole (g c nowhere)) || (v && true))) (same_none (resolved (put_for g) c))
  once_put w v (Some c) (Some d) = sym (or-false (is_broken (put_for g) (at_once (record { name = c; whole = w }) (record { name = d; whole = v }))))

  pair_put : (p : Pair) → is_broken (put_for around) p ≡ list_any (is_broken (put_for g)) (put_pair (argument qs us) p)
  pair_put (in_turn a b) =
      (λ i. same_word (resolved_twice a i) (resolved_twice b i)) ∙ turn_put (resolved (argument qs us) a) (resolved (argument qs us) b)
  pair_put (at_once r s) =
      (λ i. same_word (resolved_twice r.name i) (resolved_twice s.name i) && (side_twice r i || side_twice s i))
      ∙ once_put (resolved_whole (argument qs us) r) (resolved_whole (argument qs us) s) (resolved (argument qs us) r.name) (resolved (argument qs us) s.name)

  pub found_put : (f : Found) → Agree (effect_by (put_for around) f) (effect_by (put_for g) (put_found (argument qs us) f))
  found_put f = (
    λ k.
        any_flat k (λ x. some_word (resolved (put_for around) x)) f.names
        ∙ any_same (λ x. list_any k (some_word (resolved (put_for around) x))) (λ x. list_any (λ y. list_any k (some_word (resolved (put_for g) y))) (some_word (resolved (argument qs us) x))) (one k) f.names
        ∙ sym (any_flat (λ y. list_any k (some_word (resolved (put_for g) y))) (λ x. some_word (resolved (argument qs us) x)) f.names)
        ∙ sym (any_flat k (λ y. some_word (resolved (put_for g) y)) (flat_map (λ x. some_word (resolved (argument qs us) x)) f.names)),
    any_same (is_broken (put_for around)) (λ p. list_any (is_broken (put_for g)) (put_pair (argument qs us) p)) pair_put f.pairs
        ∙ sym (any_flat (is_broken (put_for g)) (put_pair (argument qs us)) f.pairs),
  )
    where
      of : (k : Word → Bool) (o : Option Word) → list_any k (some_word (root_after (put_for g) o)) ≡ list_any (λ y. list_any k (some_word (resolved (put_for g) y))) (some_word o)
      of k None = refl
      of k (Some y) = sym (or-false (list_any k (some_word (resolved (put_for g) y))))

      one : (k : Word → Bool) (x : Word) → list_any k (some_word (resolved (put_for around) x)) ≡ list_any (λ y. list_any k (some_word (resolved (put_for g) y))) (some_word (resolved (argument qs us) x))
      one k x = ap (λ (o : Option Word). list_any k (some_word o)) (resolved_twice x) ∙ of k (resolved (argument qs us) x)
