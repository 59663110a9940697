-- What is missing where a declaration, a definition, a label or what a `with` names is refused ("A PlusCal User's Manual", section 3).
use Rattle.std.specs.Prelude.{ℕ, zero, suc, ◌+◌, Bool, true, false, List, [], ◌∷◌, Option, Some, codes}
use Rattle.tla_token.specs.declared.place.Place.{Place}
use Rattle.tla_token.specs.Places.{nowhere}
use Rattle.tla_tree.specs.declared.op.Op.TheVariants as op
use Rattle.tla_tree.specs.Tree.{Word}
use Rattle.tla_tree.specs.Lexical.{TokenView, Token}
use Rattle.tla_tree.specs.Lexical as tk
use Rattle.pcal_tree.specs.GrammarParts.{mark, Separator}
use Rattle.syntax_reading.specs.TokenReaders.{past, name_within, pick, Parts}
use Rattle.syntax_reading.specs.ReadParts.{read_separator, read_initial, read_names, read_parameters, read_heading, bind_by}
use Rattle.syntax_reading.specs.Missing.{Missing, then_misses, by_next_misses, past_misses, all_of, an_identifier, an_equal, a_number, mark_then, name_then, PartsMiss, expr_then}

-- ---- declarations
abbrev pub missing_among : Bool → PartsMiss → Missing
missing_among true w = past_misses w.expr
missing_among false w = all_of []

abbrev pub missing_initial_by : Bool → PartsMiss → Place → TokenView → Missing
missing_initial_by b w p (tk.sign op.Equal) = past_misses w.expr
missing_initial_by b w p (tk.sign op.In) = missing_among b w
missing_initial_by b w p k = all_of []

abbrev pub missing_initial : Bool → PartsMiss → Missing
missing_initial b w = by_next_misses (missing_initial_by b w)

-- after a separator
abbrev pub missing_after_separator : Missing → Option Separator → Place → TokenView → Missing
missing_after_separator n (Some s) p (tk.word y) = n
missing_after_separator n s p k = all_of []

abbrev pub missing_variables : Bool → Parts → PartsMiss → ℕ → Missing
missing_variables b m w zero = all_of (an_identifier [])
missing_variables b m w (suc n) = name_then [] (λ x. then_misses (read_initial b m) (missing_initial b w) [] (λ i. then_misses read_separator (all_of []) [] (λ s. by_next_misses (missing_after_separator (missing_variables b m w n) s))))

abbrev pub missing_section_words : Bool → Parts → PartsMiss → ℕ → List (Word × Missing)
missing_section_words b m w n = (codes "variable", past_misses (missing_variables b m w n)) ∷ (codes "variables", past_misses (missing_variables b m w n)) ∷ []

abbrev pub missing_section_by : Bool → Parts → PartsMiss → ℕ → Place → TokenView → Missing
missing_section_by b m w n p (tk.reserved v) = pick v (missing_section_words b m w n) (all_of [])
missing_section_by b m w n p k = all_of []

abbrev pub missing_section : Bool → Parts → PartsMiss → ℕ → Missing
missing_section b m w n = by_next_misses (missing_section_by b m w n)

-- ---- parameters and definitions
-- after a comma
abbrev pub missing_after_comma : Missing → Place → TokenView → Missing
missing_after_comma n p (tk.mark tk.comma) = past_misses n
missing_after_comma n p k = all_of []

abbrev pub missing_names : ℕ → Missing
missing_names zero = all_of (an_identifier [])
missing_names (suc n) = name_then [] (λ x. by_next_misses (missing_after_comma (missing_names n)))

-- `)`, and `( )`
abbrev pub a_close : List Token → List Token
a_close = mark nowhere tk.close_bracket

abbrev pub no_list : List Token → List Token
no_list ts = mark nowhere tk.open_bracket (a_close ts)

abbrev pub missing_macro_parameters_by : ℕ → Place → TokenView → Missing
missing_macro_parameters_by n q (tk.mark tk.close_bracket) = all_of []
missing_macro_parameters_by n q k = then_misses (read_names n) (missing_names n) (a_close []) (λ xs. all_of (a_close []))

abbrev pub missing_macro_parameters : ℕ → Missing
missing_macro_parameters n = mark_then tk.open_bracket (a_close []) (λ p. by_next_misses (missing_macro_parameters_by n))

abbrev pub missing_parameters : Parts → PartsMiss → ℕ → Missing
missing_parameters m w zero = all_of (an_identifier [])
missing_parameters m w (suc n) = name_then [] (λ x. then_misses (read_initial false m) (missing_initial false w) [] (λ i. by_next_misses (missing_after_comma (missing_parameters m w n))))

abbrev pub missing_procedure_parameters_by : Parts → PartsMiss → ℕ → Place → TokenView → Missing
missing_procedure_parameters_by m w n q (tk.mark tk.close_bracket) = all_of []
missing_procedure_parameters_by m w n q k = then_misses (read_parameters m n) (missing_parameters m w n) (a_close []) (λ xs. all_of (a_close []))

abbrev pub missing_procedure_parameters : Parts → PartsMiss → ℕ → Missing
missing_procedure_parameters m w n = mark_then tk.open_bracket (a_close []) (λ p. by_next_misses (missing_procedure_parameters_by m w n))

abbrev pub missing_heading_by : ℕ → Place → TokenView → Missing
missing_heading_by n p (tk.mark tk.open_bracket) = past_misses (then_misses (read_names n) (missing_names n) (a_close []) (λ xs. all_of (a_close [])))
missing_heading_by n p k = all_of []

abbrev pub missing_heading : ℕ → Missing
missing_heading n = name_then [] (λ x. by_next_misses (missing_heading_by n))

-- `== 0`
abbrev pub a_meaning : List Token → List Token
a_meaning ts = mark nowhere tk.defines (a_number ts)

-- a name begins one more
abbrev pub missing_after_definition : Missing → Place → TokenView → Missing
missing_after_definition n q (tk.word y) = n
missing_after_definition n q k = all_of []

abbrev pub missing_definitions : Parts → PartsMiss → ℕ → Missing
missing_definitions m w zero = all_of (an_identifier (a_meaning []))
missing_definitions m w (suc n) =
    then_misses (read_heading n) (missing_heading n) (a_meaning []) (λ h. mark_then tk.defines (a_number []) (λ p. expr_then m w [] (λ e. by_next_misses (missing_after_definition (missing_definitions m w n)))))

-- ---- after the name of a label
abbrev pub missing_colon : Missing
missing_colon = mark_then tk.colon [] (λ p. all_of [])

-- ---- what a `with` names
-- `= 0`
abbrev pub a_value : List Token → List Token
a_value ts = an_equal (a_number ts)

abbrev pub bind_then : List Token → (Bool × Place → Missing) → Missing
bind_then = then_misses (past bind_by) (all_of (an_equal []))

abbrev pub missing_binds : Parts → PartsMiss → ℕ → ℕ → Missing
missing_binds m w zero d = all_of (an_identifier (a_value []))
missing_binds m w (suc n) d =
    then_misses (name_within (m.room (d + 1))) (all_of (an_identifier [])) (a_value [])
    (λ x. bind_then (a_number []) (λ b. expr_then m w [] (λ e. then_misses read_separator (all_of []) [] (λ s. by_next_misses (missing_after_separator (missing_binds m w n (d + 1)) s)))))
