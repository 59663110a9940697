-- Worked rows of the grammar, the written text and nesting.
use Rattle.std.proofs.Common.{◌≡◌, refl, arith, ℕ, ◌<◌, true, false, List, [], ◌∷◌, codes}
use Rattle.std.specs.Fmt.{decimal}
use Rattle.std.proofs.lemmas.Fmt.{decimal_digit}
use Rattle.tla_token.specs.declared.place.Place.{Place}
use Rattle.tla_tree.specs.declared.op.Op.{Op}
use Rattle.tla_tree.specs.declared.op.Op.TheVariants as op
use Rattle.tla_tree.specs.declared.op.Binder.TheVariants as binder
use Rattle.tla_tree.specs.Tree.{Word, Name, binders, PathStep, Slot, Strict, Tree, Trees, node, no_trees, tree}
use Rattle.tla_tree.specs.Tree as tree
use Rattle.tla_tree.specs.Lexical.{Token, token, Mark, Key}
use Rattle.tla_tree.specs.Lexical as tk
use Rattle.tla_tree.specs.Spelling.{Phrase, Binds, Good, Spells, spell, operation, one, two}
use Rattle.tla_tree.specs.Spelling as spelled
use Rattle.tla_tree.specs.Written.{written, pieces}
use Rattle.tla_tree.specs.laws.Bracketed.{phrase_of, kinds, tokens_of}
use Rattle.tla_tree.specs.Nesting.{counts, tree_nesting}
use Rattle.tla_tree.specs.Shapes.{Shaped}

-- ---- spelling
abbrev at : ℕ → ℕ → Place
at l c = record { line = l; col = c }

abbrev w : ℕ → ℕ → Word → Token
w l c x = token (at l c) (tk.word x)

abbrev s : ℕ → ℕ → Op → Token
s l c o = token (at l c) (tk.sign o)

abbrev m : ℕ → ℕ → Mark → Token
m l c k = token (at l c) (tk.mark k)

abbrev k : ℕ → ℕ → Key → Token
k l c x = token (at l c) (tk.key x)

abbrev name : ℕ → ℕ → Word → Phrase
name l c x = spelled.name (at l c) x

abbrev leaf : ℕ → ℕ → Word → Tree
leaf l c x = node (tree.name x) (at l c) no_trees

abbrev bound : ℕ → ℕ → Word → Name
bound l c x = record { word = x; place = at l c }

abbrev infix_tree : Op → Place → Tree → Tree → Tree
infix_tree o p a b = node (operation o) p (two a b)

abbrev prefix_tree : Op → Place → Tree → Tree
prefix_tree o p a = node (operation o) p (one a)

abbrev a' : Word
a' = codes "a"

abbrev b' : Word
b' = codes "b"

abbrev c' : Word
c' = codes "c"

abbrev f' : Word
f' = codes "f"

abbrev x' : Word
x' = codes "x"

abbrev s' : Word
s' = codes "S"

-- `a + b - c` is a + (b - c)
sum : Spells (w 1 1 a' ∷ s 1 3 op.Plus ∷ w 1 5 b' ∷ s 1 7 op.Minus ∷ w 1 9 c' ∷ []) (infix_tree op.Plus (at 1 1) (leaf 1 1 a') (infix_tree op.Minus (at 1 5) (leaf 1 5 b') (leaf 1 9 c')))
sum = (spelled.infix_of (name 1 1 a') (at 1 3) op.Plus (spelled.infix_of (name 1 5 b') (at 1 7) op.Minus (name 1 9 c')), search, refl, refl)

-- `-a * b` is -(a * b)
negated : Spells (s 1 1 op.Minus ∷ w 1 2 a' ∷ s 1 4 op.Times ∷ w 1 6 b' ∷ []) (prefix_tree op.Negate (at 1 1) (infix_tree op.Times (at 1 2) (leaf 1 2 a') (leaf 1 6 b')))
negated = (spelled.prefix_of (at 1 1) op.Negate (spelled.infix_of (name 1 2 a') (at 1 4) op.Times (name 1 6 b')), search, refl, refl)

-- `a * -b` is a * (-b)
by_negated : Spells (w 1 1 a' ∷ s 1 3 op.Times ∷ s 1 5 op.Minus ∷ w 1 6 b' ∷ []) (infix_tree op.Times (at 1 1) (leaf 1 1 a') (prefix_tree op.Negate (at 1 5) (leaf 1 6 b')))
by_negated = (spelled.infix_of (name 1 1 a') (at 1 3) op.Times (spelled.prefix_of (at 1 5) op.Negate (name 1 6 b')), search, refl, refl)

-- `(a + b) * c` begins at its bracket
bracketed : Spells (m 1 1 tk.open_bracket ∷ w 1 2 a' ∷ s 1 4 op.Plus ∷ w 1 6 b' ∷ m 1 7 tk.close_bracket ∷ s 1 9 op.Times ∷ w 1 11 c' ∷ [])
    (infix_tree op.Times (at 1 1) (infix_tree op.Plus (at 1 2) (leaf 1 2 a') (leaf 1 6 b')) (leaf 1 11 c'))
bracketed = (spelled.infix_of (spelled.brackets (at 1 1) (spelled.infix_of (name 1 2 a') (at 1 4) op.Plus (name 1 6 b')) (at 1 7)) (at 1 9) op.Times (name 1 11 c'), search, refl, refl)

-- two bullets in one column are the conjunction
two_bullets : Spells (s 1 3 op.And ∷ w 1 6 a' ∷ s 2 3 op.And ∷ w 2 6 b' ∷ []) (infix_tree op.And (at 1 3) (leaf 1 6 a') (leaf 2 6 b'))
two_bullets = (spelled.list op.And (spelled.bullet (at 1 3) (name 1 6 a') (spelled.last_bullet (at 2 3) (name 2 6 b'))), search, refl, refl)

-- an operator at the column of a list has the whole list on its left
behind_a_list : Spells (s 1 3 op.And ∷ w 1 6 a' ∷ s 2 3 op.And ∷ w 2 6 b' ∷ s 3 3 op.Implies ∷ w 3 6 c' ∷ [])
    (infix_tree op.Implies (at 1 3) (infix_tree op.And (at 1 3) (leaf 1 6 a') (leaf 2 6 b')) (leaf 3 6 c'))
behind_a_list = (spelled.infix_of (spelled.list op.And (spelled.bullet (at 1 3) (name 1 6 a') (spelled.last_bullet (at 2 3) (name 2 6 b')))) (at 3 3) op.Implies (name 3 6 c'), search, refl, refl)

-- right of that column it belongs to the last item
in_a_list : Spells (s 1 3 op.And ∷ w 1 6 a' ∷ s 2 3 op.And ∷ w 2 6 b' ∷ s 3 4 op.Implies ∷ w 3 7 c' ∷ [])
    (infix_tree op.And (at 1 3) (leaf 1 6 a') (infix_tree op.Implies (at 2 6) (leaf 2 6 b') (leaf 3 7 c')))
in_a_list = (spelled.list op.And (spelled.bullet (at 1 3) (name 1 6 a') (spelled.last_bullet (at 2 3) (spelled.infix_of (name 2 6 b') (at 3 4) op.Implies (name 3 7 c')))), search, refl, refl)

not_behind_a_list : Good 0 (spelled.infix_of (spelled.list op.And (spelled.bullet (at 1 3) (name 1 6 a') (spelled.last_bullet (at 2 3) (name 2 6 b')))) (at 3 4) op.Implies (name 3 7 c')) → ⊥
not_behind_a_list g = cc

-- bullets in two columns are no list
two_columns : (p q : Place) (a b : Phrase) → p.col < q.col → Good 0 (spelled.list op.And (spelled.bullet p a (spelled.last_bullet q b))) → ⊥
two_columns p q a b l g = let e : q.col ≡ p.col = g.2.2.0 in omega arith

-- `{x \in S : a}` is a filter, and no image
filtered : Spells (m 1 1 tk.open_brace ∷ w 1 2 x' ∷ s 1 4 op.In ∷ w 1 8 s' ∷ m 1 10 tk.colon ∷ w 1 12 a' ∷ m 1 13 tk.close_brace ∷ [])
    (node (tree.binding binder.Filter ((bound 1 2 x' ∷ []) ∷ [])) (at 1 1) (two (leaf 1 8 s') (leaf 1 12 a')))
filtered = (spelled.filter (at 1 1) (at 1 2) x' (at 1 4) (name 1 8 s') (at 1 10) (name 1 12 a') (at 1 13), search, refl, refl)

no_image : (p q r t u : Place) (x : Word) (s a : Phrase) (bs : Binds) → Good 0 (spelled.image p (spelled.infix_of (spelled.name q x) r op.In s) t bs u) → ⊥
no_image p q r t u x s a bs g = let e : false ≡ true = g.5 in cc

-- `{x : x \in S}` is an image
mapped : Spells (m 1 1 tk.open_brace ∷ w 1 2 x' ∷ m 1 4 tk.colon ∷ w 1 6 x' ∷ s 1 8 op.In ∷ w 1 12 s' ∷ m 1 13 tk.close_brace ∷ [])
    (node (tree.binding binder.Image ((bound 1 6 x' ∷ []) ∷ [])) (at 1 1) (two (leaf 1 12 s') (leaf 1 2 x')))
mapped = (spelled.image (at 1 1) (name 1 2 x') (at 1 4) (spelled.last_bind (at 1 6) x' (at 1 8) (name 1 12 s')) (at 1 13), search, refl, refl)

-- `\A x, a \in S : b` has one set, and its names the places of their tokens
for_all : Spells (k 1 1 tk.for_all_key ∷ w 1 4 x' ∷ m 1 5 tk.comma ∷ w 1 7 a' ∷ s 1 9 op.In ∷ w 1 13 s' ∷ m 1 15 tk.colon ∷ w 1 17 b' ∷ [])
    (node (tree.binding binder.ForAll ((bound 1 4 x' ∷ bound 1 7 a' ∷ []) ∷ [])) (at 1 1) (two (leaf 1 13 s') (leaf 1 17 b')))
for_all = (spelled.quantified true (at 1 1) (spelled.share (at 1 4) x' (at 1 5) (spelled.last_bind (at 1 7) a' (at 1 9) (name 1 13 s'))) (at 1 15) (name 1 17 b'), search, refl, refl)

-- `\E x, a \in S, b \in a : c` has a set for each of its two groups
abbrev two_groups : List (List Name)
two_groups = (bound 1 4 x' ∷ bound 1 7 a' ∷ []) ∷ (bound 1 16 b' ∷ []) ∷ []

exists : Spells (k 1 1 tk.exists_key ∷ w 1 4 x' ∷ m 1 5 tk.comma ∷ w 1 7 a' ∷ s 1 9 op.In ∷ w 1 13 s' ∷ m 1 14 tk.comma ∷ w 1 16 b' ∷ s 1 18 op.In ∷ w 1 22 a' ∷ m 1 24 tk.colon ∷ w 1 26 c' ∷ [])
    (node (tree.binding binder.Exists two_groups) (at 1 1) (tree (leaf 1 13 s') (two (leaf 1 22 a') (leaf 1 26 c'))))
exists = (spelled.quantified false (at 1 1) (spelled.share (at 1 4) x' (at 1 5) (spelled.bind (at 1 7) a' (at 1 9) (name 1 13 s') (at 1 14) (spelled.last_bind (at 1 16) b' (at 1 18) (name 1 22 a')))) (at 1 24) (name 1 26 c'), search, refl, refl)

binders_of_groups : binders (tree.binding binder.Exists two_groups) ≡ x' ∷ a' ∷ b' ∷ []
binders_of_groups = refl

-- no group is empty, there is a set for each, and a filter has one name
no_empty_group : Shaped (tree.binding binder.Exists ((bound 1 4 x' ∷ []) ∷ [] ∷ [])) 3 → ⊥
no_empty_group h = omega (arith, h.0)

shaped_groups : Shaped (tree.binding binder.Exists two_groups) 3
shaped_groups = ((omega arith, omega arith), refl)

no_filter_of_two : Shaped (tree.binding binder.Filter ((bound 1 4 x' ∷ bound 1 7 a' ∷ []) ∷ [])) 2 → ⊥
no_filter_of_two h = h.0

-- `f[a, b]` is f[<<a, b>>]
applied : Spells (w 1 1 f' ∷ m 1 2 tk.open_square ∷ w 1 3 a' ∷ m 1 4 tk.comma ∷ w 1 6 b' ∷ m 1 7 tk.close_square ∷ [])
    (node (tree.strict tree.apply) (at 1 1) (two (leaf 1 1 f') (node (tree.strict tree.tuple) (at 1 3) (two (leaf 1 3 a') (leaf 1 6 b')))))
applied = (spelled.apply (name 1 1 f') (at 1 2) (spelled.more (name 1 3 a') (at 1 4) (spelled.last (name 1 6 b'))) (at 1 7), search, refl, refl)

-- `[f EXCEPT ![a].b = c]`
excepted : Spells (m 1 1 tk.open_square ∷ w 1 2 f' ∷ k 1 4 tk.except_key ∷ m 1 11 tk.bang ∷ m 1 12 tk.open_square ∷ w 1 13 a' ∷ m 1 14 tk.close_square ∷ m 1 15 tk.dot ∷ w 1 16 b' ∷ s 1 18 op.Equal ∷ w 1 20 c' ∷ m 1 21 tk.close_square ∷ [])
    (node (tree.strict (tree.except (record { path = tree.index ∷ tree.field b' ∷ []; place = at 1 1 } ∷ []))) (at 1 1) (tree (leaf 1 2 f') (two (leaf 1 13 a') (leaf 1 20 c'))))
excepted = (spelled.except (at 1 1) (name 1 2 f') (at 1 4) (spelled.last_setting (at 1 11) (spelled.index (at 1 12) (spelled.last (name 1 13 a')) (at 1 14) (spelled.at_field (at 1 15) (record { place = at 1 16; is_reserved = false; text = b' }) spelled.path_end)) (at 1 18) (name 1 20 c')) (at 1 21), search, refl, refl)

-- `[]` belongs to the nearest CASE
nearest : (p q r t u v : Place) (a b c d e : Phrase) → Good 0 (spelled.cases p (spelled.arm a q (spelled.cases r (spelled.last_arm b t c)) u (spelled.last_arm d v e))) → ⊥
nearest p q r t u v a b c d e g = let h : false ≡ true = g.1.3 in cc

-- `CASE a -> b [] OTHER -> c`
with_other : Spells (k 1 1 tk.case_key ∷ w 1 6 a' ∷ m 1 8 tk.arrow ∷ w 1 11 b' ∷ m 1 13 tk.box ∷ k 1 16 tk.other_key ∷ m 1 22 tk.arrow ∷ w 1 25 c' ∷ []) (node (tree.cases true) (at 1 1) (tree (leaf 1 6 a') (two (leaf 1 11 b') (leaf 1 25 c'))))
with_other = (spelled.cases (at 1 1) (spelled.other_arm (name 1 6 a') (at 1 8) (name 1 11 b') (at 1 13) (at 1 16) (at 1 22) (name 1 25 c')), search, refl, refl)

-- `CASE a -> /\ CASE b -> c` and below it `[] x -> b`, left of the bullet: the list has closed the inner CASE
closed_by_list : Spells (k 1 1 tk.case_key ∷ w 1 6 a' ∷ m 1 8 tk.arrow ∷ s 1 11 op.And ∷ k 1 14 tk.case_key ∷ w 1 19 b' ∷ m 1 21 tk.arrow ∷ w 1 24 c' ∷ m 2 8 tk.box ∷ w 2 11 x' ∷ m 2 13 tk.arrow ∷ w 2 16 b' ∷ []) (node (tree.cases false) (at 1 1) (tree (leaf 1 6 a') (tree (node (tree.cases false) (at 1 14) (two (leaf 1 19 b') (leaf 1 24 c'))) (two (leaf 2 11 x') (leaf 2 16 b')))))
closed_by_list = (spelled.cases (at 1 1) (spelled.arm (name 1 6 a') (at 1 8) (spelled.list op.And (spelled.last_bullet (at 1 11) (spelled.cases (at 1 14) (spelled.last_arm (name 1 19 b') (at 1 21) (name 1 24 c'))))) (at 2 8) (spelled.last_arm (name 2 11 x') (at 2 13) (name 2 16 b'))), search, refl, refl)

-- `LET a == b c == a IN c` is one form, with a right side for each name
abbrev two_locals_tree : Tree
two_locals_tree = node (tree.local (bound 1 5 a' ∷ bound 1 12 c' ∷ [])) (at 1 1) (tree (leaf 1 10 b') (two (leaf 1 17 a') (leaf 1 22 c')))

two_locals : Spells (k 1 1 tk.let_key ∷ w 1 5 a' ∷ m 1 7 tk.defines ∷ w 1 10 b' ∷ w 1 12 c' ∷ m 1 14 tk.defines ∷ w 1 17 a' ∷ k 1 19 tk.in_key ∷ w 1 22 c' ∷ []) two_locals_tree
two_locals = (spelled.local (at 1 1) (spelled.more_locals (at 1 5) a' (at 1 7) (name 1 10 b') (spelled.last_local (at 1 12) c' (at 1 14) (name 1 17 a'))) (at 1 19) (name 1 22 c'), search, refl, refl)

-- `[pc |-> a, procedure |-> b]`: the name of a field may be a reserved word
frame : Spells (m 1 1 tk.open_square ∷ w 1 2 (codes "pc") ∷ m 1 5 tk.maps ∷ w 1 9 a' ∷ m 1 10 tk.comma ∷ token (at 1 12) (tk.reserved (codes "procedure")) ∷ m 1 22 tk.maps ∷ w 1 26 b' ∷ m 1 27 tk.close_square ∷ []) (node (tree.strict (tree.fields (codes "pc" ∷ codes "procedure" ∷ []))) (at 1 1) (two (leaf 1 9 a') (leaf 1 26 b')))
frame = (spelled.fields (at 1 1) (spelled.field (record { place = at 1 2; is_reserved = false; text = codes "pc" }) (at 1 5) (name 1 9 a') (at 1 10) (spelled.last_field (record { place = at 1 12; is_reserved = true; text = codes "procedure" }) (at 1 22) (name 1 26 b'))) (at 1 27), search, refl, refl)

-- ---- written text
one_text : decimal 1 ≡ codes "1"
one_text = decimal_digit 1 (omega arith)

two_text : decimal 2 ≡ codes "2"
two_text = decimal_digit 2 (omega arith)

three_text : decimal 3 ≡ codes "3"
three_text = decimal_digit 3 (omega arith)

abbrev number : ℕ → Tree
number n = node (tree.number n) (at 1 1) no_trees

abbrev o_tree : Op → Tree → Tree → Tree
o_tree o a b = infix_tree o (at 1 1) a b

abbrev v : Word → Tree
v x = leaf 1 1 x

abbrev strict_tree : Strict → Trees → Tree
strict_tree m ts = node (tree.strict m) (at 1 1) ts

writes_sum : written (o_tree op.Plus (v x') (number 1)) ≡ codes "x + 1"
writes_sum = rw one_text refl

writes_product : written (o_tree op.Times (o_tree op.Plus (v x') (number 1)) (number 2)) ≡ codes "(x + 1) * 2"
writes_product = rw (one_text, two_text) refl

writes_range : written (o_tree op.Range (number 1) (number 3)) ≡ codes "1..3"
writes_range = rw (one_text, three_text) refl

writes_prefix : written (prefix_tree op.Subset (at 1 1) (v a')) ≡ codes "SUBSET a"
writes_prefix = refl

writes_negation : written (prefix_tree op.Negate (at 1 1) (prefix_tree op.Negate (at 1 1) (v a'))) ≡ codes "-(-a)"
writes_negation = refl

writes_lists : written (o_tree op.And (o_tree op.And (v a') (v b')) (o_tree op.NotIn (v x') (v s'))) ≡ codes "(a /\\ b) /\\ (x \\notin S)"
writes_lists = refl

writes_next : written (o_tree op.Equal (node (tree.next x') (at 1 1) no_trees) (node (tree.string (codes "a\\\"")) (at 1 1) no_trees)) ≡ codes "x' = \"a\\\\\\\"\""
writes_next = refl

abbrev for_all_tree : Tree
for_all_tree = node (tree.binding binder.ForAll ((bound 1 1 x' ∷ []) ∷ (bound 1 1 a' ∷ []) ∷ [])) (at 1 1) (tree (o_tree op.Range (number 1) (number 3)) (two (v s') (o_tree op.Equal (v x') (v a'))))

writes_for_all : written for_all_tree ≡ codes "\\A x \\in (1..3), a \\in S : x = a"
writes_for_all = rw (one_text, three_text) refl

-- groups and definitions are written as they are read
abbrev exists_tree : Tree
exists_tree = node (tree.binding binder.Exists two_groups) (at 1 1) (tree (v s') (two (v a') (v c')))

writes_groups : written exists_tree ≡ codes "\\E x, a \\in S, b \\in a : c"
writes_groups = refl

writes_function_of_two : written (node (tree.binding binder.Function ((bound 1 1 x' ∷ bound 1 1 a' ∷ []) ∷ [])) (at 1 1) (two (v s') (v x'))) ≡ codes "[x, a \\in S |-> x]"
writes_function_of_two = refl

writes_two_locals : written two_locals_tree ≡ codes "LET a == b c == a IN c"
writes_two_locals = refl

abbrev image_tree : Tree
image_tree = node (tree.binding binder.Image ((bound 1 1 x' ∷ []) ∷ [])) (at 1 1) (two (v s') (o_tree op.Plus (v x') (number 1)))

writes_image : written image_tree ≡ codes "{(x + 1) : x \\in S}"
writes_image = rw one_text refl

writes_cases : written (node (tree.cases true) (at 1 1) (tree (o_tree op.Equal (v x') (number 1)) (two (v a') (v b')))) ≡ codes "CASE (x = 1) -> a [] OTHER -> b"
writes_cases = rw one_text refl

abbrev local_tree : Tree
local_tree = node (tree.local (bound 1 1 x' ∷ [])) (at 1 1) (two (o_tree op.Plus (v a') (number 1)) (node tree.if_then_else (at 1 1) (tree (v a') (two (v b') (v x')))))

writes_local : written local_tree ≡ codes "LET x == a + 1 IN IF a THEN b ELSE x"
writes_local = rw one_text refl

abbrev slot : List PathStep → Slot
slot path = record { path = path; place = at 1 1 }

writes_except : written (strict_tree (tree.except (slot (tree.index ∷ []) ∷ slot (tree.index ∷ []) ∷ [])) (tree (v a') (tree (number 1) (tree (number 2) (two (number 2) (strict_tree tree.apply (two (v a') (number 1)))))))) ≡ codes "[a EXCEPT ![1] = 2, ![2] = a[1]]"
writes_except = rw (one_text, two_text) refl

writes_frame : written (o_tree op.Concat (strict_tree tree.tuple (one (strict_tree (tree.fields (codes "procedure" ∷ codes "pc" ∷ [])) (two (node (tree.string (codes "Add")) (at 1 1) no_trees) (node (tree.string (codes "Done")) (at 1 1) no_trees))))) (v (codes "stack"))) ≡ codes "<<[procedure |-> \"Add\", pc |-> \"Done\"]>> \\o stack"
writes_frame = refl

-- ---- the phrase of a written text has its tokens
abbrev SameTokens : Tree → Type 0
SameTokens t = kinds (spell (phrase_of t) []) ≡ tokens_of (pieces t)

phrase_of_product : SameTokens (o_tree op.Times (o_tree op.Plus (v x') (number 1)) (number 2))
phrase_of_product = refl

phrase_of_for_all : SameTokens for_all_tree
phrase_of_for_all = refl

phrase_of_groups : SameTokens exists_tree
phrase_of_groups = refl

phrase_of_two_locals : SameTokens two_locals_tree
phrase_of_two_locals = refl

phrase_of_image : SameTokens image_tree
phrase_of_image = refl

phrase_of_cases : SameTokens (node (tree.cases true) (at 1 1) (tree (o_tree op.Equal (v x') (number 1)) (two (v a') (v b'))))
phrase_of_cases = refl

phrase_of_local : SameTokens local_tree
phrase_of_local = refl

phrase_of_except : SameTokens (strict_tree (tree.except (slot (tree.index ∷ []) ∷ slot (tree.index ∷ []) ∷ [])) (tree (v a') (tree (number 1) (tree (number 2) (two (number 2) (strict_tree tree.apply (two (v a') (number 1))))))))
phrase_of_except = refl

phrase_of_frame : SameTokens (o_tree op.Concat (strict_tree tree.tuple (one (strict_tree (tree.fields (codes "procedure" ∷ codes "pc" ∷ [])) (two (node (tree.string (codes "Add")) (at 1 1) no_trees) (node (tree.string (codes "Done")) (at 1 1) no_trees))))) (v (codes "stack")))
phrase_of_frame = refl

-- ---- nesting
-- in `a + b * c + d` both `+` are open at d, and the `*` ends at the second `+`
counts_chain : counts 0 (spelled.infix_of (spelled.infix_of (name 1 1 a') (at 1 3) op.Plus (spelled.infix_of (name 1 5 b') (at 1 7) op.Times (name 1 9 c'))) (at 1 11) op.Plus (name 1 13 x')) [] ≡ 0 ∷ 1 ∷ 1 ∷ 2 ∷ 2 ∷ 2 ∷ 2 ∷ []
counts_chain = refl

-- `f[a].b + c`
counts_fields : counts 0 (spelled.infix_of (spelled.select (spelled.apply (name 1 1 f') (at 1 2) (spelled.last (name 1 3 a')) (at 1 4)) (at 1 5) (record { place = at 1 6; is_reserved = false; text = b' })) (at 1 8) op.Plus (name 1 10 c')) [] ≡ 0 ∷ 1 ∷ 1 ∷ 1 ∷ 2 ∷ 2 ∷ 1 ∷ 1 ∷ []
counts_fields = refl

-- a list, each bullet being open to its end
counts_list : counts 0 (spelled.list op.And (spelled.bullet (at 1 3) (name 1 6 a') (spelled.last_bullet (at 2 3) (name 2 6 b')))) [] ≡ 1 ∷ 1 ∷ 2 ∷ 2 ∷ []
counts_list = refl

nests_product : tree_nesting (o_tree op.Times (o_tree op.Plus (v x') (number 1)) (number 2)) ≡ 2
nests_product = refl

-- a LET is one form, however many its definitions are
nests_two_locals : tree_nesting two_locals_tree ≡ 1
nests_two_locals = refl
