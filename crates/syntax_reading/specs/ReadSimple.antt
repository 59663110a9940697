-- Reading simple statements ("A PlusCal User's Manual", section 3).
use Rattle.std.specs.Prelude.{ℕ, zero, suc, Bool, true, false, nat_lt, List, [], ◌∷◌, codes}
use Rattle.tla_token.specs.declared.place.Place.{Place}
use Rattle.tla_tree.specs.Tree.{Word, Name}
use Rattle.tla_tree.specs.Lexical.{TokenView}
use Rattle.tla_tree.specs.Lexical as tk
use Rattle.tla_tree.specs.Spelling.{Phrase}
use Rattle.tla_tree.specs.Spelling as spelled
use Rattle.tla_tree.specs.Reader.{Reader, ◌>>=◌, gives, refuses, skip, peek, a_word, a_field}
use Rattle.tla_tree.specs.Reader as expression
use Rattle.pcal_tree.specs.GrammarParts.{Arguments, no_arguments, some_arguments, Assignments, last_assignment, assignment, Simple}
use Rattle.pcal_tree.specs.GrammarParts as g
use Rattle.syntax_reading.specs.TokenReaders.{by_next, a_mark, a_name, Parts}

-- ---- (a, b) of a call
abbrev pub arguments_by : Parts → Place → Place → TokenView → Reader Arguments
arguments_by m p q (tk.mark tk.close_bracket) = skip (gives (no_arguments p q))
arguments_by m p q k = m.arguments >>= λ xs. a_mark tk.close_bracket >>= λ r. gives (some_arguments p xs r)

abbrev pub read_arguments : Parts → Reader Arguments
read_arguments m = a_mark tk.open_bracket >>= λ p. by_next (arguments_by m p)

-- ---- left sides: so far, and then `[a]` and `.b`
abbrev pub left_by : Parts → (Phrase → Reader Phrase) → Phrase → Place → TokenView → Reader Phrase
left_by m r a p (tk.mark tk.open_square) = skip (m.subscripts >>= λ xs. expression.a_mark 0 tk.close_square >>= λ q. r (spelled.apply a p xs q))
left_by m r a p (tk.mark tk.dot) = skip (a_field 0 >>= λ f. r (spelled.select a p f))
left_by m r a p k = gives a

abbrev pub read_left : Parts → ℕ → Phrase → Reader Phrase
read_left m zero a = refuses
read_left m (suc n) a = peek 0 (left_by m (read_left m n) a)

-- ---- l := e || m := f, after its first name, which is right of the edge
abbrev pub assignments_by : (Name → Reader Assignments) → Phrase → Place → Phrase → Place → TokenView → Reader Assignments
assignments_by r l p e q (tk.mark tk.beside) = skip (a_word 0 >>= λ x. r (spelled.named x.0 x.1) >>= λ ms. gives (assignment l p e q ms))
assignments_by r l p e q k = gives (last_assignment l p e)

abbrev pub read_assignments : Parts → ℕ → Name → Reader Assignments
read_assignments m zero x = refuses
read_assignments m (suc n) x = read_left m (suc n) (spelled.name x.place x.word) >>= λ l. a_mark tk.assigns >>= λ p. m.expr >>= λ e. by_next (assignments_by (read_assignments m n) l p e)

-- ---- a statement after its first name, and those that begin with a word
-- an assignment has a name that is right of the edge
abbrev pub assign_if : Bool → Parts → ℕ → Name → Reader Simple
assign_if true m n x = read_assignments m n x >>= λ ms. gives (g.assign ms)
assign_if false m n x = refuses

abbrev pub named_by : Parts → ℕ → Name → Place → TokenView → Reader Simple
named_by m n x p (tk.mark tk.open_bracket) = read_arguments m >>= λ xs. gives (g.macro x xs)
named_by m n x p k = assign_if (nat_lt 0 x.place.col) m n x

abbrev pub of_expression : Parts → (Phrase → Simple) → Reader Simple
of_expression m f = skip (m.expr >>= λ e. gives (f e))

abbrev pub simple_words : Parts → Place → List (Word × Reader Simple)
simple_words m p =
    (codes "await", of_expression m (g.await p))
    ∷ (codes "when", of_expression m (g.when p))
    ∷ (codes "print", of_expression m (g.print p))
    ∷ (codes "assert", of_expression m (g.assert p))
    ∷ (codes "skip", skip (gives (g.skip p)))
    ∷ (codes "goto", skip (a_name >>= λ x. gives (g.goto p x)))
    ∷ (codes "call", skip (a_name >>= λ x. read_arguments m >>= λ xs. gives (g.call p x xs)))
    ∷ (codes "return", skip (gives (g.return p)))
    ∷ []
