-- Counts of trees in which others are put in for names, as sums: what counts whatever is put in, and how often each of these counts.
use Rattle.std.specs.Prelude.{ℕ, ◌+◌, ◌*◌, max, List, [], ◌∷◌, map, Bool, false, cond, bytes_eq, Option, Some, None}
use Rattle.tla_tree.specs.Tree.{Word, Name, Form, name, strict, apply, select, Tree, node, Trees, no_trees, tree}
use Rattle.pcal_tree.specs.Algorithm.{nowhere}
use Rattle.pcal_tree.specs.Run.{arguments}
use Rattle.macro_expand.specs.Size.{weights, after_first}

-- what isn't known of a name: the count of what is put in for it, and that of the subscripts of this, where a left side begins with the name
pub data Unknown : Type 0 where
  whole : Word → Unknown
  root : Word → Unknown

abbrev pub same_unknown : Unknown → Unknown → Bool
same_unknown (whole x) (whole y) = bytes_eq x y
same_unknown (root x) (root y) = bytes_eq x y
same_unknown _ _ = false

-- how counts are joined, what a part counts inside a form, what a node counts by itself, and the weights of a form's first parts
pub record Arithmetic : Type 0 where
  pub plus : ℕ → ℕ → ℕ
  pub times : ℕ → ℕ → ℕ
  pub node : ℕ
  pub weights : Form → List ℕ

-- of nodes
abbrev pub counting : Arithmetic
counting = record { plus = λ m n. m + n; times = λ m n. m * n; node = 1; weights = weights }

-- of nesting: a part is one deeper than its form, and the deepest part counts
abbrev pub nesting : Arithmetic
nesting = record { plus = max; times = λ m n. m + n; node = 0; weights = λ m. [] }

-- ---- sums

pub record Sum : Type 0 where
  pub alone : ℕ
  pub terms : List (Unknown × ℕ)

abbrev pub number : ℕ → Sum
number n = record { alone = n; terms = [] }

abbrev pub only : Arithmetic → Unknown → Sum
only A v = record { alone = 0; terms = (v, A.node) ∷ [] }

-- each unknown is in one term
abbrev pub with_term : Arithmetic → Unknown → ℕ → List (Unknown × ℕ) → List (Unknown × ℕ)
with_term A v c [] = (v, c) ∷ []
with_term A v c (t ∷ ts) = cond (same_unknown v t.0) ((t.0, A.plus c t.1) ∷ ts) (t ∷ with_term A v c ts)

abbrev pub with_terms : Arithmetic → List (Unknown × ℕ) → List (Unknown × ℕ) → List (Unknown × ℕ)
with_terms A [] us = us
with_terms A (t ∷ ts) us = with_term A t.0 t.1 (with_terms A ts us)

abbrev pub plus : Arithmetic → Sum → Sum → Sum
plus A s r = record { alone = A.plus s.alone r.alone; terms = with_terms A s.terms r.terms }

abbrev pub times : Arithmetic → ℕ → Sum → Sum
times A k s = record { alone = A.times k s.alone; terms = map (λ (t : Unknown × ℕ). (t.0, A.times k t.1)) s.terms }

-- sums put in for the unknowns
abbrev pub put_terms : Arithmetic → (Unknown → Sum) → List (Unknown × ℕ) → ℕ → Sum
put_terms A f [] n = number n
put_terms A f (t ∷ ts) n = plus A (times A t.1 (f t.0)) (put_terms A f ts n)

abbrev pub put : Arithmetic → (Unknown → Sum) → Sum → Sum
put A f s = put_terms A f s.terms s.alone

-- numbers put in for them
abbrev pub value_of_terms : Arithmetic → (Unknown → ℕ) → List (Unknown × ℕ) → ℕ → ℕ
value_of_terms A f [] n = n
value_of_terms A f (t ∷ ts) n = A.plus (A.times t.1 (f t.0)) (value_of_terms A f ts n)

abbrev pub value : Arithmetic → (Unknown → ℕ) → Sum → ℕ
value A f s = value_of_terms A f s.terms s.alone

-- a name for which nothing is put in is one node, without subscripts
abbrev pub as_names : Arithmetic → Unknown → ℕ
as_names A (whole x) = A.node
as_names A (root x) = 0

-- ---- trees

abbrev pub form_sum : Arithmetic → Form → Sum → Sum
form_sum A (name x) s = only A (whole x)
form_sum A m s = plus A (number A.node) s

abbrev mutual
  pub tree_sum : Arithmetic → Tree → Sum
  tree_sum A (node m at ts) = form_sum A m (weighed_sum A (A.weights m) ts)

  pub weighed_sum : Arithmetic → List ℕ → Trees → Sum
  weighed_sum A ks no_trees = number 0
  weighed_sum A [] (tree t ts) = plus A (times A 1 (tree_sum A t)) (weighed_sum A [] ts)
  weighed_sum A (k ∷ ks) (tree t ts) = plus A (times A k (tree_sum A t)) (weighed_sum A ks ts)

-- of the subscripts of a left side
abbrev pub sum_in_left : Arithmetic → Form → Sum → Sum → Sum
sum_in_left A (name x) s r = only A (root x)
sum_in_left A (strict apply) s r = plus A s r
sum_in_left A (strict (select f)) s r = s
sum_in_left A m s r = number 0

abbrev mutual
  pub left_sum : Arithmetic → Tree → Sum
  left_sum A (node m at ts) = sum_in_left A m (first_left_sum A ts) (weighed_sum A [] (after_first ts))

  pub first_left_sum : Arithmetic → Trees → Sum
  first_left_sum A no_trees = number 0
  first_left_sum A (tree l ts) = left_sum A l

-- of what is put in for a name, or of the name
abbrev pub whole_sum : Arithmetic → Word → Option Tree → Sum
whole_sum A x (Some t) = tree_sum A t
whole_sum A x None = only A (whole x)

abbrev pub root_sum : Arithmetic → Word → Option Tree → Sum
root_sum A x (Some t) = left_sum A t
root_sum A x None = only A (root x)

-- what is put in for the parameters of a macro
abbrev pub argument : Arithmetic → List Name → Trees → Unknown → Sum
argument A ps ts (whole x) = whole_sum A x (arguments ps ts x nowhere)
argument A ps ts (root x) = root_sum A x (arguments ps ts x nowhere)
