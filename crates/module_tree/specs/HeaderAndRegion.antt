-- The lines of a file that say where its module and its translation begin and end ("A PlusCal User's Manual", sections 2.1 and 2.2).
use Rattle.std.specs.Prelude.{Bool, ◌++◌, Option, Some, None, is_some, codes, if◌then◌else◌}
use Rattle.tla_token.specs.Lexemes.{is_word}
use Rattle.tla_token.specs.Cut.{run}
use Rattle.module_tree.specs.TextFront.{Text, is_space, past_all, past_word, on_some, past_blanks, past_run, past_name, ends_line}

-- the name in a line `---- MODULE Name ----`
abbrev pub header_title : Text → Option Text
header_title s =
    on_some (past_run 45 (past_all is_space s)) (λ r.
    on_some (past_word (codes "MODULE") (past_all is_space r)) (λ r.
    on_some (past_blanks is_space r) (λ n.
    on_some (past_name n) (λ r.
    on_some (past_run 45 (past_all is_space r)) (λ r. if ends_line (past_all is_space r) then Some (run is_word n) else None)))))

abbrev pub is_header : Text → Bool
is_header s = is_some (header_title s)

-- `\* BEGIN TRANSLATION`, or another first word, and anything after it
abbrev pub is_translation_line : Text → Text → Bool
is_translation_line word s =
    is_some (on_some (past_word (codes "\\*") (past_all is_space s)) (λ r. past_word (word ++ codes " TRANSLATION") (past_all is_space r)))

abbrev pub is_begin : Text → Bool
is_begin s = is_translation_line (codes "BEGIN") s

abbrev pub is_end : Text → Bool
is_end s = is_translation_line (codes "END") s
