-- The limits of this project: of files and numbers, of algorithms, of their expansions, and of values in a run.
use Rattle.std.specs.Prelude.{ℕ, ◌^◌}

-- the least number that is too big; an integer of a run may also be its negative
abbrev pub past_numbers : ℕ
past_numbers = 2 ^ 127

-- ---- files

-- how many bytes a file may have
abbrev pub most_bytes : ℕ
most_bytes = 1048576

-- the least length of a text that is too long to be scanned; a tab being eight columns, places in a shorter one fit in 32 bits
abbrev pub past_text : ℕ
past_text = 2 ^ 29

-- ---- algorithms

abbrev pub most_tokens : ℕ
most_tokens = 65536

-- how many names of variables; parameters of procedures are among them
abbrev pub most_variables : ℕ
most_variables = 1024

abbrev pub most_processes : ℕ
most_processes = 100

abbrev pub most_procedures : ℕ
most_procedures = 100

-- how many labels, as typed and with the added ones
abbrev pub most_labels : ℕ
most_labels = 8192

-- how many forms of expressions may be open at a token, and how deep an expression of an expansion may nest
abbrev pub deepest_expression : ℕ
deepest_expression = 200

-- how many forms of statements may be open at a token, and how deep the statements of an expansion may nest
abbrev pub deepest_statement : ℕ
deepest_statement = 100

-- how many macros a chain may have, of which each calls the one before it
abbrev pub longest_chain : ℕ
longest_chain = 100

-- how deep a definition may nest with the bodies of earlier ones in place of their names
abbrev pub deepest_definition : ℕ
deepest_definition = 500

-- how many nodes an algorithm may have with its macro calls written out
abbrev pub most_nodes : ℕ
most_nodes = 2 ^ 20

-- ---- values

-- how many members a set may have, or the domain of a function
abbrev pub most_members : ℕ
most_members = 65536

abbrev pub deepest_value : ℕ
deepest_value = 200
