-- Worked rows of reading algorithms in C-syntax, by computation: each part read, and refused at a token or at the end of the comment.
use Rattle.std.proofs.Common.{◌≡◌, refl, ℕ, true, false, List, [], ◌∷◌, ◌++◌, Some, None, Ok, Err, codes}
use Rattle.tla_token.specs.declared.place.Place.{Place}
use Rattle.tla_token.specs.declared.rule.Rule.TheVariants.{Syntax}
use Rattle.tla_tree.specs.declared.op.Op.TheVariants as op
use Rattle.tla_tree.specs.Tree.{Word, Name}
use Rattle.tla_tree.specs.Lexical.{Mark, Token, token}
use Rattle.tla_tree.specs.Lexical as tk
use Rattle.tla_tree.specs.Spelling.{Phrase}
use Rattle.tla_tree.specs.Spelling as spelled
use Rattle.tla_tree.specs.Reader.{readers, readers_in}
use Rattle.pcal_tree.specs.GrammarParts as part
use Rattle.pcal_tree.specs.GrammarC.{labelled, Sequence, simple, last_statement}
use Rattle.pcal_tree.specs.Grammar.{Text, spell}
use Rattle.pcal_tree.specs.Grammar as g
use Rattle.syntax_reading.specs.TokenReaders.{parts_of}
use Rattle.c_reading.specs.ReadAlgorithm.{read_algorithm}
use Rattle.c_reading.specs.Around.{frames}

abbrev at : Place
at = record { line = 1; col = 1 }

abbrev n : Word → Name
n x = spelled.named at x

abbrev var : Word → Phrase
var x = spelled.name at x

abbrev num : ℕ → Phrase
num k = spelled.number at k

abbrev skips : Sequence
skips = last_statement (labelled part.no_labels (simple (part.skip at))) None

abbrev body : Sequence → g.Body
body ss = g.braces at ss at (Some at)

-- each part once
abbrev large : Text
large = record {
  head = g.fair_algorithm at at;
  name = n (codes "Big");
  around = g.in_braces at at;
  variables = part.section at true (part.variable (n (codes "x")) (part.equals at (num 0)) (part.by_comma at) (part.variable (n (codes "y")) (part.among at (var (codes "S"))) (part.by_semicolon at)
      (part.last_variable (n (codes "z")) part.unset (Some (part.by_semicolon at)))));
  define = g.define_braces at at (part.more_definitions (part.plain (n (codes "T"))) at (num 1)
      (part.last_definition (part.applied (n (codes "F")) at (part.more_names (n (codes "a")) at (part.last_name (n (codes "b")))) at) at (spelled.infix_of (var (codes "a")) at op.Plus (var (codes "b")))))
      at (Some at);
  macros = record { place = at; name = n (codes "Put"); parameters = part.some_names at (part.last_name (n (codes "a"))) at; body = body skips } ∷ [];
  procedures = record {
    place = at;
    name = n (codes "P");
    parameters = part.some_parameters at (part.parameter (n (codes "a")) (part.equals at (num 0)) at (part.last_parameter (n (codes "b")) part.unset)) at;
    variables = part.section at true (part.last_variable (n (codes "d")) (part.equals at (num 2)) None);
    body = g.braces at (last_statement (labelled part.no_labels (simple (part.call at (n (codes "P")) (part.some_arguments at (spelled.more (num 0) at (spelled.last (num 1))) at)))) None) at None;
  } ∷ [];
  main = g.processes
      (record { fair = g.strong at at; place = at; identity = g.bracketed at (n (codes "Q")) true at (spelled.infix_of (num 0) at op.Range (num 1)) at; variables = part.no_section; body = body skips })
      (record { fair = g.unfair; place = at; identity = g.bracketed at (n (codes "R")) false at (num 2) at; variables = part.section at false (part.last_variable (n (codes "c")) part.unset None); body = body skips } ∷ []);
}

large_read : read_algorithm (spell large []) ≡ Ok (large, [])
unfolding readers_in
large_read = refl

-- one body
abbrev small : Text
small = record {
  head = g.algorithm at;
  name = n (codes "A");
  around = g.in_braces at at;
  variables = part.no_section;
  define = g.no_define;
  macros = [];
  procedures = [];
  main = g.block at skips at (Some at);
}

small_read : read_algorithm (spell small []) ≡ Ok (small, [])
unfolding readers_in
small_read = refl

-- ---- refused at the first of the others, or at the end where there are none
abbrev word : Word → Token
word x = token at (tk.word x)

abbrev key : Word → Token
key x = token at (tk.reserved x)

abbrev mark : Mark → Token
mark m = token at (tk.mark m)

abbrev IsRefusedAfter : List Token → List Token → Type 0
IsRefusedAfter passed others = read_algorithm (passed ++ others) ≡ Err (Syntax, others)

-- a token after it
after_it : IsRefusedAfter (spell small []) (mark tk.semicolon ∷ [])
unfolding readers_in
after_it = refl

no_algorithm : IsRefusedAfter [] []
no_algorithm = refl

abbrev head : List Token
head = word (codes "--algorithm") ∷ word (codes "A") ∷ []

-- no brace after the name: words of the other syntax
no_brace : IsRefusedAfter head (key (codes "begin") ∷ key (codes "skip") ∷ key (codes "end") ∷ key (codes "algorithm") ∷ [])
no_brace = refl

abbrev inside : List Token
inside = head ++ mark tk.open_brace ∷ []

a_begin : IsRefusedAfter inside (key (codes "begin") ∷ [])
a_begin = refl

-- the parts have their order
late_macro : IsRefusedAfter (inside ++ key (codes "procedure") ∷ word (codes "P") ∷ mark tk.open_bracket ∷ mark tk.close_bracket ∷ mark tk.open_brace ∷ key (codes "return") ∷ mark tk.close_brace ∷ []) (key (codes "macro") ∷ [])
unfolding readers_in
late_macro = refl

-- define has braces
no_define_brace : IsRefusedAfter (inside ++ key (codes "define") ∷ []) (word (codes "T") ∷ [])
no_define_brace = refl

-- a process stands in brackets
no_bracket : IsRefusedAfter (inside ++ key (codes "fair") ∷ key (codes "process") ∷ []) (word (codes "P") ∷ [])
no_bracket = refl

no_body : IsRefusedAfter inside (mark tk.close_brace ∷ [])
no_body = refl

empty_body : IsRefusedAfter (inside ++ mark tk.open_brace ∷ []) (mark tk.close_brace ∷ [])
unfolding readers_in
empty_body = refl

-- after its body comes the last brace: no other body, and no end
two_bodies : IsRefusedAfter (inside ++ mark tk.open_brace ∷ key (codes "skip") ∷ mark tk.close_brace ∷ []) (mark tk.open_brace ∷ [])
unfolding readers_in
two_bodies = refl

not_closed : IsRefusedAfter (inside ++ mark tk.open_brace ∷ key (codes "skip") ∷ mark tk.close_brace ∷ mark tk.semicolon ∷ []) []
unfolding readers_in
not_closed = refl

-- braces are around the parts
opened : (frames (parts_of (readers 0 None))).opening (token at (tk.mark tk.open_brace) ∷ []) ≡ Ok (at, [])
opened = refl

closed : (frames (parts_of (readers 0 None))).closing at (token at (tk.mark tk.close_brace) ∷ []) ≡ Ok (g.in_braces at at, [])
closed = refl
