-- Worked rows of algorithms in P-syntax that are refused, by computation: at a token, or at the end of the comment.
use Rattle.std.proofs.Common.{◌≡◌, refl, List, [], ◌∷◌, ◌++◌, Err, codes}
use Rattle.tla_token.specs.declared.place.Place.{Place}
use Rattle.tla_token.specs.declared.rule.Rule.TheVariants.{Syntax}
use Rattle.tla_tree.specs.declared.op.Op.{Op}
use Rattle.tla_tree.specs.declared.op.Op.TheVariants as op
use Rattle.tla_tree.specs.Tree.{Word}
use Rattle.tla_tree.specs.Lexical.{Mark, Token, token}
use Rattle.tla_tree.specs.Lexical as tk
use Rattle.tla_tree.specs.Reader.{readers, readers_in}
use Rattle.p_reading.specs.ReadAlgorithm.{read_algorithm}

abbrev at : Place
at = record { line = 1; col = 1 }

abbrev word : Word → Token
word x = token at (tk.word x)

abbrev key : Word → Token
key x = token at (tk.reserved x)

abbrev mark : Mark → Token
mark m = token at (tk.mark m)

abbrev sign : Op → Token
sign o = token at (tk.sign o)

-- refused at the first of the others, or at the end where there are none
abbrev IsRefusedAfter : List Token → List Token → Type 0
IsRefusedAfter passed others = read_algorithm (passed ++ others) ≡ Err (Syntax, others)

-- ---- around the statements
-- no token
no_algorithm : IsRefusedAfter [] []
no_algorithm = refl

-- `algorithm`, without its two dashes
no_dashes : IsRefusedAfter [] (key (codes "algorithm") ∷ word (codes "A") ∷ [])
no_dashes = refl

abbrev head : List Token
head = word (codes "--algorithm") ∷ word (codes "A") ∷ []

no_name : IsRefusedAfter (word (codes "--algorithm") ∷ []) (key (codes "begin") ∷ key (codes "skip") ∷ [])
no_name = refl

not_fair : IsRefusedAfter (word (codes "--fair") ∷ []) (word (codes "A") ∷ key (codes "begin") ∷ [])
not_fair = refl

no_body : IsRefusedAfter head (key (codes "end") ∷ key (codes "algorithm") ∷ [])
no_body = refl

-- a brace is of the other syntax
a_brace : IsRefusedAfter head (mark tk.open_brace ∷ key (codes "skip") ∷ mark tk.close_brace ∷ [])
a_brace = refl

-- variables begin
no_variable : IsRefusedAfter (head ++ key (codes "variables") ∷ []) (key (codes "begin") ∷ [])
no_variable = refl

-- variables x = begin
no_value : IsRefusedAfter (head ++ key (codes "variables") ∷ word (codes "x") ∷ sign op.Equal ∷ []) (key (codes "begin") ∷ [])
unfolding readers_in
no_value = refl

-- define end
no_definition : IsRefusedAfter (head ++ key (codes "define") ∷ []) (key (codes "end") ∷ key (codes "define") ∷ [])
no_definition = refl

-- define T == x ;
ends_definition : IsRefusedAfter (head ++ key (codes "define") ∷ word (codes "T") ∷ mark tk.defines ∷ word (codes "x") ∷ []) (mark tk.semicolon ∷ key (codes "end") ∷ [])
unfolding readers_in
ends_definition = refl

-- macro M begin
no_bracket : IsRefusedAfter (head ++ key (codes "macro") ∷ word (codes "M") ∷ []) (key (codes "begin") ∷ [])
no_bracket = refl

-- macro M(a =
no_default : IsRefusedAfter (head ++ key (codes "macro") ∷ word (codes "M") ∷ mark tk.open_bracket ∷ word (codes "a") ∷ []) (sign op.Equal ∷ [])
no_default = refl

-- procedure P(a \in
no_set : IsRefusedAfter (head ++ key (codes "procedure") ∷ word (codes "P") ∷ mark tk.open_bracket ∷ word (codes "a") ∷ []) (sign op.In ∷ word (codes "S") ∷ [])
no_set = refl

-- procedure P() begin skip end process
other_word : IsRefusedAfter (head ++ key (codes "procedure") ∷ word (codes "P") ∷ mark tk.open_bracket ∷ mark tk.close_bracket ∷ key (codes "begin") ∷ key (codes "skip") ∷ key (codes "end") ∷ []) (key (codes "process") ∷ [])
other_word = refl

-- fair begin
no_process : IsRefusedAfter (head ++ key (codes "fair") ∷ []) (key (codes "begin") ∷ [])
no_process = refl

-- process P begin
no_identity : IsRefusedAfter (head ++ key (codes "process") ∷ word (codes "P") ∷ []) (key (codes "begin") ∷ [])
no_identity = refl

-- a procedure after a process
late_procedure : IsRefusedAfter (head ++ key (codes "process") ∷ word (codes "P") ∷ sign op.Equal ∷ word (codes "x") ∷ key (codes "begin") ∷ key (codes "skip") ∷ key (codes "end") ∷ key (codes "process") ∷ mark tk.semicolon ∷ []) (key (codes "procedure") ∷ word (codes "Q") ∷ [])
unfolding readers_in
late_procedure = refl

-- ---- in a body
abbrev begun : List Token
begun = head ++ key (codes "begin") ∷ []

abbrev a_test : Word → List Token
a_test w = begun ++ key w ∷ word (codes "x") ∷ []

no_statement : IsRefusedAfter begun (key (codes "end") ∷ key (codes "algorithm") ∷ [])
no_statement = refl

two_statements : IsRefusedAfter (begun ++ key (codes "skip") ∷ []) (key (codes "skip") ∷ [])
two_statements = refl

no_then : IsRefusedAfter (a_test (codes "if")) (key (codes "skip") ∷ [])
unfolding readers_in
no_then = refl

then_for_do : IsRefusedAfter (a_test (codes "while")) (key (codes "then") ∷ [])
unfolding readers_in
then_for_do = refl

-- with x do
no_value_named : IsRefusedAfter (begun ++ key (codes "with") ∷ word (codes "x") ∷ []) (key (codes "do") ∷ [])
no_value_named = refl

-- else, with no `if`
no_if : IsRefusedAfter (begun ++ key (codes "skip") ∷ mark tk.semicolon ∷ []) (key (codes "else") ∷ [])
no_if = refl

-- two times `else`
two_elses : IsRefusedAfter (a_test (codes "if") ++ key (codes "then") ∷ key (codes "skip") ∷ key (codes "else") ∷ key (codes "skip") ∷ []) (key (codes "else") ∷ [])
unfolding readers_in
two_elses = refl

goto_nothing : IsRefusedAfter (begun ++ key (codes "goto") ∷ []) (mark tk.semicolon ∷ [])
goto_nothing = refl

call_no_bracket : IsRefusedAfter (begun ++ key (codes "call") ∷ word (codes "P") ∷ []) (mark tk.semicolon ∷ [])
call_no_bracket = refl

-- x + 1
no_assignment : IsRefusedAfter (begun ++ word (codes "x") ∷ []) (sign op.Plus ∷ word (codes "y") ∷ [])
no_assignment = refl

-- x[y := 1
no_square : IsRefusedAfter (begun ++ word (codes "x") ∷ mark tk.open_square ∷ word (codes "y") ∷ []) (mark tk.assigns ∷ word (codes "z") ∷ [])
unfolding readers_in
no_square = refl

-- x := y || begin
nothing_beside : IsRefusedAfter (begun ++ word (codes "x") ∷ mark tk.assigns ∷ word (codes "y") ∷ mark tk.beside ∷ []) (key (codes "begin") ∷ [])
unfolding readers_in
nothing_beside = refl

await_nothing : IsRefusedAfter (begun ++ key (codes "await") ∷ []) (mark tk.semicolon ∷ [])
unfolding readers_in
await_nothing = refl

-- ---- at the end of the comment
-- after `begin`, after a statement, after `end`, and in an expression
ends_at_begin : IsRefusedAfter begun []
ends_at_begin = refl

ends_after_statement : IsRefusedAfter (begun ++ key (codes "skip") ∷ []) []
ends_after_statement = refl

ends_after_end : IsRefusedAfter (begun ++ key (codes "skip") ∷ key (codes "end") ∷ []) []
ends_after_end = refl

ends_in_expression : IsRefusedAfter (begun ++ key (codes "print") ∷ word (codes "x") ∷ sign op.Plus ∷ []) []
unfolding readers_in
ends_in_expression = refl
