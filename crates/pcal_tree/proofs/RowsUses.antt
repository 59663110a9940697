-- The uses of names that are found once for each macro, tried by computation.
use Rattle.std.proofs.Common.{◌≡◌, ℕ, zero, suc, List, [], ◌∷◌, false, codes, refl}
use Rattle.tla_token.specs.declared.rule.Rule.TheVariants.{Unknown, Arity, NotVariable}
use Rattle.tla_tree.specs.declared.op.Binder.TheVariants.{ForAll}
use Rattle.tla_tree.specs.Tree.{Tree, node, operator_call, binding, no_trees, tree}
use Rattle.pcal_tree.specs.Algorithm.{no_binds, is, Statement, await, with, macro, Statements, done, Macro}
use Rattle.pcal_tree.specs.NameUses.{variable, knowing}
use Rattle.pcal_tree.specs.laws.MacroUses.{applied, assigned, handed, Uses, MacroUses, macro_uses, offences_by_uses}
use Rattle.pcal_tree.proofs.Sample.{at, title, x, y, num, sets}
use Rattle.pcal_tree.proofs.RowsOffences.{stands, read, named, q}

abbrev of_p : ℕ → Statements → Macro
of_p n ss = record { name = title (n ∷ []); params = title (codes "p") ∷ []; body = ss }

abbrev found : ℕ → Uses → MacroUses
found n u = record { title = n ∷ []; params = title (codes "p") ∷ []; uses = u }

abbrev calls : ℕ → Tree → Statement
calls n t = macro (n ∷ []) (tree t no_trees)

-- macro M0(p) begin p := q; x := p; await \A y \in q : y(x); end macro
abbrev first_macro : Macro
first_macro =
    of_p 0 (stands 2 (sets (read 3 (codes "p")) (read 4 q)) (stands 5 (sets (read 6 x) (read 7 (codes "p")))
    (stands 8 (await (node (binding ForAll ((named 9 y ∷ []) ∷ [])) (at 8) (tree (read 10 q) (tree (node (operator_call y) (at 11) (tree (read 12 x) no_trees)) no_trees)))) done)))

-- y is bound inside, and y(x) is an offence wherever M0 is called; p is what its argument is
abbrev of_the_first : Uses
of_the_first = record {
  offences = record { rule = Arity; place = at 11 } ∷ [];
  free = assigned (codes "p") (at 3) ∷ applied q 0 false (at 4) ∷ assigned x (at 6) ∷ applied (codes "p") 0 false (at 7) ∷ applied q 0 false (at 10) ∷ applied x 0 false (at 12) ∷ [];
}

free_in_the_first : macro_uses (first_macro ∷ []) [] ≡ found 0 of_the_first ∷ []
free_in_the_first = refl

-- macro M1(p) begin M0(p); M0(y); end macro: each use of M0 once, the arguments that it assigns, and p and y of its own
called_twice : macro_uses (of_p 1 (stands 20 (calls 0 (read 21 (codes "p"))) (stands 22 (calls 0 (read 23 y)) done)) ∷ first_macro ∷ []) []
    ≡ found 1 (record {
      offences = record { rule = Arity; place = at 11 } ∷ [];
      free = handed (codes "p") (at 21) ∷ applied (codes "p") 0 false (at 21) ∷ handed y (at 23) ∷ applied q 0 false (at 4) ∷ assigned x (at 6)
          ∷ applied q 0 false (at 10) ∷ applied x 0 false (at 12) ∷ applied y 0 false (at 23) ∷ [];
    }) ∷ found 0 of_the_first ∷ []
called_twice = refl

-- macro M1(p) begin with q = p do M0(q); end with; end macro: q is bound around the call, and no variable
bound_around : macro_uses (of_p 1 (stands 20 (with (is (named 21 q) (read 22 (codes "p")) no_binds) (stands 23 (calls 0 (read 24 q)) done)) done) ∷ first_macro ∷ []) []
    ≡ found 1 (record {
      offences = record { rule = Arity; place = at 11 } ∷ record { rule = NotVariable; place = at 24 } ∷ [];
      free = applied (codes "p") 0 false (at 22) ∷ assigned x (at 6) ∷ applied x 0 false (at 12) ∷ [];
    }) ∷ found 0 of_the_first ∷ []
bound_around = refl

-- macro M1(p) begin M0(p); end macro, where M0's body is p(x): the p of M1 is seen there
bound_with_arguments : macro_uses (of_p 1 (stands 20 (calls 0 (read 21 (codes "p"))) done)
    ∷ record { name = title (0 ∷ []); params = title y ∷ []; body = stands 2 (await (node (operator_call (codes "p")) (at 3) (tree (read 4 x) no_trees))) done } ∷ []) []
    ≡ found 1 (record { offences = []; free = applied (codes "p") 1 false (at 3) ∷ applied x 0 false (at 4) ∷ applied (codes "p") 0 false (at 21) ∷ [] })
    ∷ record { title = 0 ∷ []; params = title y ∷ []; uses = record { offences = []; free = applied (codes "p") 1 false (at 3) ∷ applied x 0 false (at 4) ∷ [] } } ∷ []
bound_with_arguments = refl

-- macro M1(p) begin M0(); end macro, where M0's body is p := 1: the p of M1 is assigned
assigned_for_the_caller : offences_by_uses (macro_uses (of_p 1 (stands 20 (macro (0 ∷ []) no_trees) done)
    ∷ record { name = title (0 ∷ []); params = []; body = stands 2 (sets (read 3 (codes "p")) (num 1)) done } ∷ []) []) [] (at 30) (1 ∷ []) (tree (num 1) no_trees)
    ≡ record { rule = NotVariable; place = at 1 } ∷ []
assigned_for_the_caller = refl

-- M2(p) calls itself, which is no macro before it
not_before : macro_uses (of_p 2 (stands 20 (calls 2 (num 1)) done) ∷ []) [] ≡ found 2 (record { offences = record { rule = Unknown; place = at 20 } ∷ []; free = [] }) ∷ []
not_before = refl

-- where x is a variable, and q is nothing; 1 is no variable
at_a_call : offences_by_uses (macro_uses (first_macro ∷ []) []) (knowing variable x ∷ []) (at 30) (0 ∷ []) (tree (num 1) no_trees)
    ≡ record { rule = Arity; place = at 11 } ∷ record { rule = NotVariable; place = at 1 } ∷ record { rule = Unknown; place = at 4 } ∷ record { rule = Unknown; place = at 10 } ∷ []
at_a_call = refl

-- n macros, each of which calls the one before twice, the newest first
abbrev chain : ℕ → List Macro
chain zero = first_macro ∷ []
chain (suc n) = of_p (suc n) (stands 20 (calls n (read 21 (codes "p"))) (stands 22 (calls n (read 23 (codes "p"))) done)) ∷ chain n

-- written out, M12 would offend 12,288 times
twelve : offences_by_uses (macro_uses (chain 12) []) (knowing variable x ∷ []) (at 30) (12 ∷ []) (tree (num 1) no_trees)
    ≡ record { rule = Arity; place = at 11 } ∷ record { rule = NotVariable; place = at 1 } ∷ record { rule = NotVariable; place = at 1 }
    ∷ record { rule = Unknown; place = at 4 } ∷ record { rule = Unknown; place = at 10 } ∷ []
twelve = refl
