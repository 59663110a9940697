-- What is computed once for each macro, tried by computation.
use Rattle.std.proofs.Common.{◌≡◌, ℕ, zero, suc, List, [], ◌∷◌, true, false, codes, refl}
use Rattle.tla_tree.specs.Tree.{no_trees, tree}
use Rattle.pcal_tree.specs.Algorithm.{Statement, macro, done, Macro}
use Rattle.pcal_tree.specs.laws.MacroSummaries.{in_turn, summaries, summary_effect}
use Rattle.pcal_tree.proofs.Sample.{title, x, y, num, var, item, and_next, sets}

-- macro M0(p) begin p := 1; x := 2; end macro
abbrev first_macro : Macro
first_macro = record { name = title (0 ∷ []); params = title (codes "p") ∷ []; body = and_next (sets (var (codes "p")) (num 1)) (and_next (sets (var x) (num 2)) done) }

-- the parameter and x must not be one variable
of_the_first : summaries (first_macro ∷ []) ≡ record {
  name = 0 ∷ [];
  params = title (codes "p") ∷ [];
  found = record { names = codes "p" ∷ x ∷ []; pairs = in_turn (codes "p") x ∷ [] };
} ∷ []
of_the_first = refl

abbrev calls : ℕ → Statement
calls n = macro (n ∷ []) (tree (var (codes "q")) no_trees)

-- n macros M1(q), M2(q), .., each of which calls the one before twice, the newest first
abbrev chain : ℕ → List Macro
chain zero = first_macro ∷ []
chain (suc n) = record { name = title (suc n ∷ []); params = title (codes "q") ∷ []; body = and_next (calls n) (and_next (calls n) done) } ∷ chain n

-- M1(y) assigns y and x twice
called_twice : summary_effect (summaries (chain 1)) (1 ∷ []) (tree (var y) no_trees) ≡ record { variables = y ∷ x ∷ []; twice = true }
called_twice = refl

-- M0(y[1]) assigns y and x, and M0(x[1]) assigns x twice
at_a_part : summary_effect (summaries (chain 0)) (0 ∷ []) (tree (item (var y) (num 1)) no_trees) ≡ record { variables = y ∷ x ∷ []; twice = false }
at_a_part = refl

part_of_the_same : summary_effect (summaries (chain 0)) (0 ∷ []) (tree (item (var x) (num 1)) no_trees) ≡ record { variables = x ∷ x ∷ []; twice = true }
part_of_the_same = refl

-- written out, M12 would assign 8,192 times
twelve : summary_effect (summaries (chain 12)) (12 ∷ []) (tree (var y) no_trees) ≡ record { variables = y ∷ x ∷ []; twice = true }
twelve = refl

-- macro I() begin p := 1; x := 2; end macro, macro O(p) begin I(); end macro: the p of I is the parameter of O, which the same is found of
abbrev outer_macro : List Macro
outer_macro =
    record { name = title (codes "O"); params = title (codes "p") ∷ []; body = and_next (macro (0 ∷ []) no_trees) done }
    ∷ record { name = title (0 ∷ []); params = []; body = first_macro.body } ∷ []

through_another : summary_effect (summaries outer_macro) (codes "O") (tree (var x) no_trees) ≡ record { variables = x ∷ x ∷ []; twice = true }
through_another = refl

-- where I is called by itself its p is p
by_itself : summary_effect (summaries outer_macro) (0 ∷ []) no_trees ≡ record { variables = codes "p" ∷ x ∷ []; twice = false }
by_itself = refl
