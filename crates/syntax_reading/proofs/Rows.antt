-- Worked rows of reading parts, by computation.
use Rattle.std.proofs.Common.{◌≡◌, refl, ℕ, true, false, List, [], ◌∷◌, None, Ok, Err, codes}
use Rattle.tla_token.specs.declared.place.Place.{Place}
use Rattle.tla_token.specs.declared.rule.Rule.TheVariants.{Syntax}
use Rattle.tla_tree.specs.declared.op.Op.{Op}
use Rattle.tla_tree.specs.declared.op.Op.TheVariants as op
use Rattle.tla_tree.specs.Tree.{Word}
use Rattle.tla_tree.specs.Lexical.{Mark, Token, token}
use Rattle.tla_tree.specs.Lexical as tk
use Rattle.tla_tree.specs.Spelling as spelled
use Rattle.tla_tree.specs.Reader.{readers, readers_in}
use Rattle.pcal_tree.specs.GrammarParts.{last_variable, variable, unset, among, by_comma, last_assignment}
use Rattle.syntax_reading.specs.TokenReaders.{Parts, parts_of}
use Rattle.syntax_reading.specs.ReadParts.{read_variables, read_parameters}
use Rattle.syntax_reading.specs.ReadSimple.{read_assignments}

abbrev at : ℕ → Place
at k = record { line = 1; col = k }

abbrev word : ℕ → Word → Token
word k x = token (at k) (tk.word x)

abbrev mark : ℕ → Mark → Token
mark k m = token (at k) (tk.mark m)

abbrev sign : ℕ → Op → Token
sign k o = token (at k) (tk.sign o)

abbrev parts : Parts
parts = parts_of (readers 40 None)

abbrev end : List Token
end = token (at 30) (tk.reserved (codes "begin")) ∷ []

-- x \in S, y
two : read_variables true parts 9 (word 1 (codes "x") ∷ sign 3 op.In ∷ word 7 (codes "S") ∷ mark 8 tk.comma ∷ word 10 (codes "y") ∷ end)
    ≡ Ok (variable (spelled.named (at 1) (codes "x")) (among (at 3) (spelled.name (at 7) (codes "S"))) (by_comma (at 8)) (last_variable (spelled.named (at 10) (codes "y")) unset None), end)
unfolding readers_in
two = refl

-- of a procedure, `\in` stays, and so it is refused after the list
no_in : read_variables false parts 9 (word 1 (codes "x") ∷ sign 3 op.In ∷ word 7 (codes "S") ∷ end) ≡ Ok (last_variable (spelled.named (at 1) (codes "x")) unset None, sign 3 op.In ∷ word 7 (codes "S") ∷ end)
unfolding readers_in
no_in = refl

-- a parameter that is no name
no_name : read_parameters parts 9 (mark 1 tk.comma ∷ end) ≡ Err (Syntax, mark 1 tk.comma ∷ end)
no_name = refl

-- x.f := y, after the name x; and `||` before a name that is not right of the edge
one : read_assignments parts 9 (spelled.named (at 1) (codes "x")) (mark 2 tk.dot ∷ word 3 (codes "f") ∷ mark 5 tk.assigns ∷ word 8 (codes "y") ∷ end)
    ≡ Ok (last_assignment (spelled.select (spelled.name (at 1) (codes "x")) (at 2) (record { place = at 3; is_reserved = false; text = codes "f" })) (at 5) (spelled.name (at 8) (codes "y")), end)
unfolding readers_in
one = refl

at_edge : read_assignments parts 9 (spelled.named (at 1) (codes "x")) (mark 3 tk.assigns ∷ word 6 (codes "y") ∷ mark 8 tk.beside ∷ word 0 (codes "z") ∷ end) ≡ Err (Syntax, word 0 (codes "z") ∷ end)
unfolding readers_in
at_edge = refl
