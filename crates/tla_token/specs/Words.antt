-- Words that are no names of the user's: reserved, own and standard ones ("A PlusCal User's Manual", appendix A; "Specifying Systems", section 15.1).
use Rattle.std.specs.Prelude.{ℕ, List, [], ◌∷◌, Bool, ◌||◌, ◌&&◌, nat_eq, codes}
use Rattle.std.specs.List.{starts_with}
use Rattle.tla_token.specs.Signs.{is_among}

abbrev pub pluscal_words : List (List ℕ)
pluscal_words =
    codes "algorithm" ∷ codes "assert" ∷ codes "await" ∷ codes "begin" ∷ codes "call" ∷ codes "define" ∷ codes "do" ∷
    codes "either" ∷ codes "else" ∷ codes "elsif" ∷ codes "end" ∷ codes "fair" ∷ codes "goto" ∷ codes "if" ∷
    codes "macro" ∷ codes "or" ∷ codes "print" ∷ codes "procedure" ∷ codes "process" ∷ codes "return" ∷
    codes "skip" ∷ codes "then" ∷ codes "variable" ∷ codes "variables" ∷ codes "when" ∷ codes "while" ∷
    codes "with" ∷ []

abbrev pub tla_words : List (List ℕ)
tla_words =
    codes "ASSUME" ∷ codes "ASSUMPTION" ∷ codes "AXIOM" ∷ codes "BOOLEAN" ∷ codes "CASE" ∷ codes "CHOOSE" ∷
    codes "CONSTANT" ∷ codes "CONSTANTS" ∷ codes "DOMAIN" ∷ codes "ELSE" ∷ codes "ENABLED" ∷ codes "EXCEPT" ∷
    codes "EXTENDS" ∷ codes "FALSE" ∷ codes "IF" ∷ codes "IN" ∷ codes "INSTANCE" ∷ codes "LAMBDA" ∷ codes "LET" ∷
    codes "LOCAL" ∷ codes "MODULE" ∷ codes "OTHER" ∷ codes "RECURSIVE" ∷ codes "STRING" ∷ codes "SUBSET" ∷
    codes "THEN" ∷ codes "THEOREM" ∷ codes "TRUE" ∷ codes "UNCHANGED" ∷ codes "UNION" ∷ codes "VARIABLE" ∷
    codes "VARIABLES" ∷ codes "WITH" ∷ []

-- a word that begins a fairness formula
abbrev pub begins_fairness : List ℕ → Bool
begins_fairness w = starts_with nat_eq w (codes "WF_") || starts_with nat_eq w (codes "SF_")

abbrev pub is_pluscal_word : List ℕ → Bool
is_pluscal_word w = is_among pluscal_words w

abbrev pub is_tla_word : List ℕ → Bool
is_tla_word w = is_among tla_words w || begins_fairness w

abbrev pub is_reserved : List ℕ → Bool
is_reserved w = is_pluscal_word w || is_tla_word w

-- names that the translation defines itself
abbrev pub own_names : List (List ℕ)
own_names =
    codes "vars" ∷ codes "pc" ∷ codes "stack" ∷ codes "self" ∷ codes "Init" ∷ codes "Next" ∷ codes "Spec" ∷
    codes "Terminating" ∷ codes "Termination" ∷ codes "ProcSet" ∷ codes "defaultInitValue" ∷ []

abbrev pub is_own : List ℕ → Bool
is_own w = is_among own_names w

-- names of standard modules, whether these are extended or not
abbrev pub standard_names : List (List ℕ)
standard_names =
    codes "Nat" ∷ codes "Int" ∷ codes "Seq" ∷ codes "Len" ∷ codes "Append" ∷ codes "Head" ∷ codes "Tail" ∷
    codes "SubSeq" ∷ codes "Cardinality" ∷ codes "IsFiniteSet" ∷ codes "PrintT" ∷ codes "Assert" ∷ []

-- further names of Sequences and of TLC, where these are extended
abbrev pub sequence_names : List (List ℕ)
sequence_names = codes "SelectSeq" ∷ []

abbrev pub tlc_names : List (List ℕ)
tlc_names = codes "Print" ∷ codes "JavaTime" ∷ codes "Permutations" ∷ codes "SortSeq" ∷ []

-- in a module that extends these
abbrev pub is_standard : List (List ℕ) → List ℕ → Bool
is_standard modules w =
    is_among standard_names w
    || (is_among modules (codes "Sequences") && is_among sequence_names w)
    || (is_among modules (codes "TLC") && is_among tlc_names w)
