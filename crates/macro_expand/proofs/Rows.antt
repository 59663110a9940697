-- Worked examples of sizes, by computation.
use Rattle.std.specs.Prelude.{ℕ, zero, suc, List, [], ◌∷◌, ◌++◌, true, false, reverse, codes}
use Rattle.std.proofs.Common.{◌≡◌, refl, sym, ap, ◌∙◌}
use Rattle.tla_token.specs.declared.place.Place.{Place}
use Rattle.tla_token.specs.declared.rule.Rule.TheVariants.{TooLarge}
use Rattle.tla_token.specs.declared.rule.Refusal.{Refusal}
use Rattle.tla_tree.specs.declared.op.Op.{Op}
use Rattle.tla_tree.specs.declared.op.Op.TheVariants as op
use Rattle.tla_tree.specs.declared.op.Binder.TheVariants as binder
use Rattle.tla_tree.specs.Tree.{Word, Name, Form, Tree, node, Trees, no_trees, tree, strict, operator, apply, select, name, truth}
use Rattle.tla_tree.specs.Tree as expr
use Rattle.tla_tree.specs.Nesting.{tree_nesting}
use Rattle.pcal_tree.specs.declared.mark.Mark.TheVariants.{Plain}
use Rattle.pcal_tree.specs.Algorithm.{nowhere, Span, no_assignments, assignment, no_binds, one_of, Statement, assign, await, skip, with, macro, Statements, done, then, mark, alone, Macro, Declaration, unset, Algorithm}
use Rattle.pcal_tree.specs.Offences.{offence, offence_if}
use Rattle.macro_expand.specs.Size.{nodes, subscript_nodes, left_nesting, Size, expanded_size}
use Rattle.macro_expand.specs.laws.MacroSizes.{size_by_macros}
use Rattle.macro_expand.specs.TooLarge.{is_too_large, too_large, counted}
use Rattle.macro_expand.proofs.CountLaws.{counted_once}

abbrev of : Form → List Tree → Tree
of m ts = node m nowhere (all ts)
  where
    all : List Tree → Trees
    all [] = no_trees
    all (t ∷ ts) = tree t (all ts)

abbrev n : Word → Name
n w = record { word = w; place = nowhere }

abbrev v : Word → Tree
v w = of (name w) []

abbrev at : Tree → Tree → Tree
at f e = of (strict apply) (f ∷ e ∷ [])

abbrev two : Op → Tree → Tree → Tree
two o a b = of (strict (operator o)) (a ∷ b ∷ [])

abbrev one : Tree
one = of (expr.number 1) []

abbrev slot : Tree
slot = at (v (codes "slots")) (v (codes "i"))

-- ---- nodes and nesting

-- \A x, y \in S, z \in T : x: the set of a group counts once for each of its names
groups_count : nodes (of (expr.binding binder.ForAll ((n (codes "x") ∷ n (codes "y") ∷ []) ∷ (n (codes "z") ∷ []) ∷ [])) (two op.Plus (v (codes "S")) one ∷ v (codes "T") ∷ v (codes "x") ∷ [])) ≡ 9
groups_count = refl

-- slots[i + 1].a as a left side: the subscript has three nodes, and is one deeper
in_left_side : subscript_nodes (of (strict (select (codes "a"))) (at (v (codes "slots")) (two op.Plus (v (codes "i")) one) ∷ [])) ≡ 3
in_left_side = refl

left_side_nests : left_nesting (of (strict (select (codes "a"))) (at (v (codes "slots")) (two op.Plus (v (codes "i")) one) ∷ [])) ≡ 2
left_side_nests = refl

plain_left_side : left_nesting (v (codes "x")) ≡ 0
plain_left_side = refl

-- ---- a macro

abbrev span : Span
span = record { first = nowhere; last = nowhere }

abbrev algorithm : List Macro → Statements → Algorithm
algorithm ms b = record { name = record { word = codes "R"; place = record { line = 4; col = 13 } }; fair = false; globals = []; definitions = []; macros = ms; procedures = []; main = alone b }

-- macro P(s) begin await s > 1; s := s - 1 end macro
abbrev wait_macro : Macro
wait_macro = record {
  name = n (codes "P");
  params = n (codes "s") ∷ [];
  body = then span (await (two op.Greater (v (codes "s")) one)) (then span (assign (assignment (v (codes "s")) (two op.Minus (v (codes "s")) one) no_assignments)) done);
}

-- A: with x \in S do P(slots[i]) end with
abbrev waiting : Algorithm
waiting = algorithm (wait_macro ∷ []) (mark (n (codes "A")) Plain (then span (with (one_of (n (codes "x")) (v (codes "S")) no_binds) (then span (macro (codes "P") (tree slot no_trees)) done)) done))

abbrev waiting_size : Size
waiting_size = record { nodes = 16; expressions = 2; statements = 1; labels = 1 }

written_out_size : expanded_size waiting ≡ waiting_size
written_out_size = refl

size_without_writing : size_by_macros waiting ≡ waiting_size
size_without_writing = refl

-- macro I() begin await s > 1 end macro, macro O(s) begin I() end macro, and O(slots[i]): in the place of the s of I the argument counts, which is O's
abbrev for_the_caller : Algorithm
for_the_caller = algorithm
    (record { name = n (codes "I"); params = []; body = then span (await (two op.Greater (v (codes "s")) one)) done }
    ∷ record { name = n (codes "O"); params = n (codes "s") ∷ []; body = then span (macro (codes "I") no_trees) done } ∷ [])
    (then span (macro (codes "O") (tree slot no_trees)) done)

for_the_caller_written_out : expanded_size for_the_caller ≡ record { nodes = 6; expressions = 2; statements = 0; labels = 0 }
for_the_caller_written_out = refl

for_the_caller_without_writing : size_by_macros for_the_caller ≡ expanded_size for_the_caller
for_the_caller_without_writing = refl

-- ---- many macros

-- k macros before others: the first skips, each other one calls the one before it twice
abbrev twice : ℕ → Statements
twice zero = then span skip done
twice (suc k) = then span (macro (k ∷ []) no_trees) (then span (macro (k ∷ []) no_trees) done)

abbrev doubling : ℕ → List Macro → List Macro
doubling zero ms = ms
doubling (suc k) ms = doubling k (record { name = n (k ∷ []); params = []; body = twice k } ∷ ms)

-- the last one is called once
abbrev doubled : ℕ → Algorithm
doubled k = algorithm (doubling (suc k) []) (then span (macro (k ∷ []) no_trees) done)

-- of 21 macros the size is just at the limit, of 25 past it
at_the_limit : too_large (doubled 20) ≡ []
at_the_limit = ap (λ (s : Size). offence_if (is_too_large s) TooLarge (doubled 20).name.place) (sym (counted_once (doubled 20)))

past_the_limit : too_large (doubled 24) ≡ offence TooLarge (record { line = 4; col = 13 })
past_the_limit = ap (λ (s : Size). offence_if (is_too_large s) TooLarge (doubled 24).name.place) (sym (counted_once (doubled 24)))

counts_to_the_limit : counted (size_by_macros (doubled 24)) ≡ 1048577
counts_to_the_limit = refl
