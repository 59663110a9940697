-- What is kept in memory of a unit that is passed on unread.
use Rattle.std.specs.Prelude.{List, [], ◌∷◌, ◌++◌, Option, Some, None, cond, codes}
use Rattle.tla_token.specs.Signs.{is_among}
use Rattle.tla_tree.specs.Tree.{Word}
use Rattle.tla_tree.specs.Lexical.{TokenView, Token}
use Rattle.tla_tree.specs.Lexical as tk
use Rattle.tla_tree.specs.Reader.{tail}
use Rattle.tla_value.specs.Outside.{Opaque}
use Rattle.module_tree.specs.Outside.{identifiers, first_one, title_at, keyword_of}
use Rattle.module_outside.specs.declared.passed.Passed.{Passed}

abbrev pub identifier_in : TokenView → Option Word
identifier_in (tk.word x) = Some x
identifier_in (tk.reserved x) = Some x
identifier_in k = None

abbrev pub front_identifier : List Token → Option Word
front_identifier [] = None
front_identifier (t ∷ ts) = identifier_in t.kind

abbrev pub front_word : List Token → Word
front_word [] = []
front_word (t ∷ ts) = keyword_of t.kind

abbrev pub with_one : List Word → Option Word → List Word
with_one xs (Some x) = xs ++ x ∷ []
with_one xs None = xs

abbrev pub passed_names : Word → List Token → List Word
passed_names w ts =
    cond (is_among (codes "ASSUME" ∷ codes "ASSUMPTION" ∷ codes "AXIOM" ∷ codes "THEOREM" ∷ []) w) (title_at (tail ts))
    (cond (is_among (codes "CONSTANT" ∷ codes "CONSTANTS" ∷ codes "RECURSIVE" ∷ []) w) (identifiers (tail ts)) (first_one (identifiers ts)))

abbrev pub passed_seen : Passed → Opaque
passed_seen p = record { keyword = p.keyword; names = p.names.items; place = p.place }
