-- Reading the parts that both syntaxes spell alike: declarations, definitions, labels and what a `with` names ("A PlusCal User's Manual", section 3).
use Rattle.std.specs.Prelude.{ℕ, zero, suc, ◌+◌, Bool, true, false, List, [], ◌∷◌, Option, Some, None, codes}
use Rattle.tla_token.specs.declared.place.Place.{Place}
use Rattle.tla_tree.specs.declared.op.Op.TheVariants as op
use Rattle.tla_tree.specs.Tree.{Word, Name}
use Rattle.tla_tree.specs.Lexical.{TokenView}
use Rattle.tla_tree.specs.Lexical as tk
use Rattle.tla_tree.specs.Spelling.{Phrase}
use Rattle.tla_tree.specs.Reader.{Reader, ◌>>=◌, gives, refuses, skip}
use Rattle.pcal_tree.specs.GrammarParts.{Separator, by_semicolon, by_comma, Initial, unset, equals, among, Variables, last_variable, variable, Section, no_section, section, Names, last_name, more_names, MacroParameters, no_names, some_names, Parameters, last_parameter, parameter, ProcedureParameters, no_parameters, some_parameters, Heading, plain, applied, Definitions, last_definition, more_definitions, Colon, colon, colon_plus, colon_minus, Binds, last_bind, bind}
use Rattle.syntax_reading.specs.TokenReaders.{by_next, past, a_mark, a_name, name_within, pick, Parts}

-- ---- `;` and `,`
abbrev pub semicolon_by : Place → TokenView → Reader (Option Place)
semicolon_by p (tk.mark tk.semicolon) = skip (gives (Some p))
semicolon_by p k = gives None

abbrev pub read_semicolon : Reader (Option Place)
read_semicolon = by_next semicolon_by

abbrev pub separator_by : Place → TokenView → Reader (Option Separator)
separator_by p (tk.mark tk.semicolon) = skip (gives (Some (by_semicolon p)))
separator_by p (tk.mark tk.comma) = skip (gives (Some (by_comma p)))
separator_by p k = gives None

abbrev pub read_separator : Reader (Option Separator)
read_separator = by_next separator_by

-- ---- declarations; lists have at most as many members as tokens
abbrev pub among_if : Bool → Parts → Place → Reader Initial
among_if true m p = skip (m.expr >>= λ e. gives (among p e))
among_if false m p = gives unset

abbrev pub initial_by : Bool → Parts → Place → TokenView → Reader Initial
initial_by b m p (tk.sign op.Equal) = skip (m.expr >>= λ e. gives (equals p e))
initial_by b m p (tk.sign op.In) = among_if b m p
initial_by b m p k = gives unset

abbrev pub read_initial : Bool → Parts → Reader Initial
read_initial b m = by_next (initial_by b m)

-- a name after a separator is one more variable
abbrev pub variables_by : Reader Variables → Name → Initial → Option Separator → Place → TokenView → Reader Variables
variables_by r x i (Some s) p (tk.word y) = r >>= λ vs. gives (variable x i s vs)
variables_by r x i s p k = gives (last_variable x i s)

abbrev pub read_variables : Bool → Parts → ℕ → Reader Variables
read_variables b m zero = refuses
read_variables b m (suc n) = a_name >>= λ x. read_initial b m >>= λ i. read_separator >>= λ s. by_next (variables_by (read_variables b m n) x i s)

abbrev pub section_of : Bool → Parts → ℕ → Bool → Place → Reader Section
section_of b m n s p = skip (read_variables b m n >>= λ vs. gives (section p s vs))

abbrev pub section_words : Bool → Parts → ℕ → Place → List (Word × Reader Section)
section_words b m n p = (codes "variable", section_of b m n false p) ∷ (codes "variables", section_of b m n true p) ∷ []

abbrev pub section_by : Bool → Parts → ℕ → Place → TokenView → Reader Section
section_by b m n p (tk.reserved w) = pick w (section_words b m n p) (gives no_section)
section_by b m n p k = gives no_section

abbrev pub read_section : Bool → Parts → ℕ → Reader Section
read_section b m n = by_next (section_by b m n)

-- ---- parameters and definitions
abbrev pub names_by : Reader Names → Name → Place → TokenView → Reader Names
names_by r x p (tk.mark tk.comma) = skip (r >>= λ xs. gives (more_names x p xs))
names_by r x p k = gives (last_name x)

abbrev pub read_names : ℕ → Reader Names
read_names zero = refuses
read_names (suc n) = a_name >>= λ x. by_next (names_by (read_names n) x)

abbrev pub macro_parameters_by : ℕ → Place → Place → TokenView → Reader MacroParameters
macro_parameters_by n p q (tk.mark tk.close_bracket) = skip (gives (no_names p q))
macro_parameters_by n p q k = read_names n >>= λ xs. a_mark tk.close_bracket >>= λ r. gives (some_names p xs r)

abbrev pub read_macro_parameters : ℕ → Reader MacroParameters
read_macro_parameters n = a_mark tk.open_bracket >>= λ p. by_next (macro_parameters_by n p)

abbrev pub parameters_by : Reader Parameters → Name → Initial → Place → TokenView → Reader Parameters
parameters_by r x i p (tk.mark tk.comma) = skip (r >>= λ xs. gives (parameter x i p xs))
parameters_by r x i p k = gives (last_parameter x i)

abbrev pub read_parameters : Parts → ℕ → Reader Parameters
read_parameters m zero = refuses
read_parameters m (suc n) = a_name >>= λ x. read_initial false m >>= λ i. by_next (parameters_by (read_parameters m n) x i)

abbrev pub procedure_parameters_by : Parts → ℕ → Place → Place → TokenView → Reader ProcedureParameters
procedure_parameters_by m n p q (tk.mark tk.close_bracket) = skip (gives (no_parameters p q))
procedure_parameters_by m n p q k = read_parameters m n >>= λ xs. a_mark tk.close_bracket >>= λ r. gives (some_parameters p xs r)

abbrev pub read_procedure_parameters : Parts → ℕ → Reader ProcedureParameters
read_procedure_parameters m n = a_mark tk.open_bracket >>= λ p. by_next (procedure_parameters_by m n p)

abbrev pub heading_by : ℕ → Name → Place → TokenView → Reader Heading
heading_by n x p (tk.mark tk.open_bracket) = skip (read_names n >>= λ xs. a_mark tk.close_bracket >>= λ q. gives (applied x p xs q))
heading_by n x p k = gives (plain x)

abbrev pub read_heading : ℕ → Reader Heading
read_heading n = a_name >>= λ x. by_next (heading_by n x)

abbrev pub definitions_by : Reader Definitions → Heading → Place → Phrase → Place → TokenView → Reader Definitions
definitions_by r h p e q (tk.word y) = r >>= λ ds. gives (more_definitions h p e ds)
definitions_by r h p e q k = gives (last_definition h p e)

abbrev pub read_definitions : Parts → ℕ → Reader Definitions
read_definitions m zero = refuses
read_definitions m (suc n) = read_heading n >>= λ h. a_mark tk.defines >>= λ p. m.expr >>= λ e. by_next (definitions_by (read_definitions m n) h p e)

-- ---- after the name of a label
abbrev pub colon_by : Place → Place → TokenView → Reader Colon
colon_by p q (tk.sign op.Plus) = skip (gives (colon_plus p q))
colon_by p q (tk.sign op.Minus) = skip (gives (colon_minus p q))
colon_by p q k = gives (colon p)

abbrev pub read_colon : Reader Colon
read_colon = a_mark tk.colon >>= λ p. by_next (colon_by p)

-- ---- what a `with` names
abbrev pub binds_by : Reader Binds → Name → Bool → Place → Phrase → Option Separator → Place → TokenView → Reader Binds
binds_by r x b q e (Some s) p (tk.word y) = r >>= λ bs. gives (bind x b q e s bs)
binds_by r x b q e s p k = gives (last_bind x b q e s)

abbrev pub bind_rest : Parts → Reader Binds → Name → Bool → Place → Reader Binds
bind_rest m r x b q = m.expr >>= λ e. read_separator >>= λ s. by_next (binds_by r x b q e s)

abbrev pub bind_by : Place → TokenView → Option (Bool × Place)
bind_by p (tk.sign op.In) = Some (true, p)
bind_by p (tk.sign op.Equal) = Some (false, p)
bind_by p k = None

-- each bind is a form, where so many are open
abbrev pub read_binds : Parts → ℕ → ℕ → Reader Binds
read_binds m zero d = refuses
read_binds m (suc n) d = name_within (m.room (d + 1)) >>= λ x. past bind_by >>= λ b. bind_rest m (read_binds m n (d + 1)) x b.0 b.1
