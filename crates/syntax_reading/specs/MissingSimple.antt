-- What is missing where a simple statement is refused ("A PlusCal User's Manual", section 3).
use Rattle.std.specs.Prelude.{ℕ, zero, suc, Bool, true, false, nat_lt, List, [], ◌∷◌, codes}
use Rattle.tla_token.specs.declared.place.Place.{Place}
use Rattle.tla_token.specs.Places.{nowhere}
use Rattle.tla_tree.specs.Tree.{Word, Name}
use Rattle.tla_tree.specs.Lexical.{TokenView, Token}
use Rattle.tla_tree.specs.Lexical as tk
use Rattle.tla_tree.specs.Spelling as spelled
use Rattle.tla_tree.specs.Reader as expression
use Rattle.tla_tree.specs.Wanted.{mark_at, word_at}
use Rattle.pcal_tree.specs.GrammarParts.{key, mark}
use Rattle.syntax_reading.specs.TokenReaders.{Parts}
use Rattle.syntax_reading.specs.ReadSimple.{read_left}
use Rattle.syntax_reading.specs.Missing.{Missing, then_misses, by_next_misses, peek_misses, past_misses, all_of, an_identifier, a_number, mark_then, name_then, PartsMiss, expr_then}
use Rattle.syntax_reading.specs.MissingParts.{a_close, no_list}

-- ---- (a, b) of a call
abbrev pub missing_arguments_by : Parts → PartsMiss → Place → TokenView → Missing
missing_arguments_by m w q (tk.mark tk.close_bracket) = all_of []
missing_arguments_by m w q k = then_misses m.arguments w.arguments (a_close []) (λ xs. all_of (a_close []))

abbrev pub missing_arguments : Parts → PartsMiss → Missing
missing_arguments m w = mark_then tk.open_bracket (a_close []) (λ p. by_next_misses (missing_arguments_by m w))

-- ---- left sides: `]`, and the name of a field
abbrev pub a_close_square : List Token
a_close_square = mark_at 0 tk.close_square ∷ []

abbrev pub missing_left_by : Parts → PartsMiss → Missing → Place → TokenView → Missing
missing_left_by m w n p (tk.mark tk.open_square) = past_misses (then_misses m.subscripts w.subscripts a_close_square (λ xs. then_misses (expression.a_mark 0 tk.close_square) (all_of a_close_square) [] (λ q. n)))
missing_left_by m w n p (tk.mark tk.dot) = past_misses (then_misses (expression.a_field 0) (all_of (word_at 0 ∷ [])) [] (λ f. n))
missing_left_by m w n p k = all_of []

abbrev pub missing_left : Parts → PartsMiss → ℕ → Missing
missing_left m w zero = all_of []
missing_left m w (suc n) = peek_misses (missing_left_by m w (missing_left m w n))

-- ---- l := e || m := f: `:= 0`
abbrev pub a_new_value : List Token → List Token
a_new_value ts = mark nowhere tk.assigns (a_number ts)

abbrev pub missing_after_value : (Name → Missing) → Place → TokenView → Missing
missing_after_value n q (tk.mark tk.beside) = past_misses (then_misses (expression.a_word 0) (all_of (word_at 0 ∷ [])) (a_new_value []) (λ x. n (spelled.named x.0 x.1)))
missing_after_value n q k = all_of []

abbrev pub missing_assignments : Parts → PartsMiss → ℕ → Name → Missing
missing_assignments m w zero x = all_of (a_new_value [])
missing_assignments m w (suc n) x =
    then_misses (read_left m (suc n) (spelled.name x.place x.word)) (missing_left m w (suc n)) (a_new_value [])
    (λ l. mark_then tk.assigns (a_number []) (λ p. expr_then m w [] (λ e. by_next_misses (missing_after_value (missing_assignments m w n)))))

-- ---- the shortest statement
abbrev pub a_skip : List Token → List Token
a_skip ts = key nowhere (codes "skip") ts

-- ---- a statement after its first name, and those that begin with a word
abbrev pub missing_assign : Bool → Parts → PartsMiss → ℕ → Name → Missing
missing_assign true m w n x = missing_assignments m w n x
missing_assign false m w n x = all_of (no_list [])

abbrev pub missing_named : Parts → PartsMiss → ℕ → Name → Place → TokenView → Missing
missing_named m w n x p (tk.mark tk.open_bracket) = missing_arguments m w
missing_named m w n x p k = missing_assign (nat_lt 0 x.place.col) m w n x

abbrev pub missing_simple_words : Parts → PartsMiss → List (Word × Missing)
missing_simple_words m w =
    (codes "await", past_misses w.expr)
    ∷ (codes "when", past_misses w.expr)
    ∷ (codes "print", past_misses w.expr)
    ∷ (codes "assert", past_misses w.expr)
    ∷ (codes "skip", all_of [])
    ∷ (codes "goto", all_of (an_identifier []))
    ∷ (codes "call", past_misses (name_then (no_list []) (λ x. missing_arguments m w)))
    ∷ (codes "return", all_of [])
    ∷ []
