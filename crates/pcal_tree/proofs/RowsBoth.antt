-- One algorithm with a define block, a macro, a procedure and processes, spelled and printed in both syntaxes, by computation.
use Rattle.std.proofs.Common.{◌≡◌, refl, ℕ, ◌++◌, List, [], ◌∷◌, Some, None, false, true, codes}
use Rattle.tla_token.specs.declared.place.Place.{Place}
use Rattle.tla_token.specs.declared.sign.Sign.TheVariants as sign
use Rattle.tla_token.specs.Lexemes.{Kind, name, one}
use Rattle.tla_token.specs.Tokens.{Token}
use Rattle.tla_tree.specs.Tree.{Word}
use Rattle.tla_tree.specs.Spelling.{Phrase, Field}
use Rattle.tla_tree.specs.Spelling as spelled
use Rattle.pcal_tree.specs.Algorithm.{Name}
use Rattle.pcal_tree.specs.Placeless.{placeless}
use Rattle.pcal_tree.specs.GrammarParts as part
use Rattle.pcal_tree.specs.GrammarP as p
use Rattle.pcal_tree.specs.GrammarC as c
use Rattle.pcal_tree.specs.Grammar.{Text, SpellsP, SpellsC, algorithm_of}
use Rattle.pcal_tree.specs.Grammar as text
use Rattle.pcal_tree.specs.Printed.{PText, CText}

-- the columns are the numbers of the tokens
abbrev at : ℕ → Place
at k = record { line = 1; col = k }

abbrev token : ℕ → Kind → Token
token k w = record { kind = w; at = 0; place = at k }

abbrev n : ℕ → Word → Name
n k w = record { word = w; place = at k }

abbrev v : ℕ → Word → Phrase
v k w = spelled.name (at k) w

abbrev f : ℕ → Field
f k = record { place = at k; is_reserved = false; text = codes "f" }

abbrev bare : c.Statement → c.Labelled
bare st = c.labelled part.no_labels st

-- { s; }
abbrev in_block : Place → part.Simple → Place → Place → c.Labelled
in_block a s b d = bare (c.compound a (c.last_statement (bare (c.simple s)) (Some b)) d)

-- ---- P-syntax

abbrev p_tokens : List Token
p_tokens =
    token 1 (name (codes "--fair")) ∷ token 2 (name (codes "algorithm")) ∷ token 3 (name (codes "Two")) ∷ token 4 (name (codes "variables")) ∷ token 5 (name (codes "x")) ∷ token 6 (one sign.In)
    ∷ token 7 (name (codes "S")) ∷ token 8 (one sign.Comma) ∷ token 9 (name (codes "y")) ∷ token 10 (one sign.Semicolon) ∷ token 11 (name (codes "define")) ∷ token 12 (name (codes "T"))
    ∷ token 13 (one sign.Defined) ∷ token 14 (name (codes "x")) ∷ token 15 (name (codes "F")) ∷ token 16 (one sign.OpenRound) ∷ token 17 (name (codes "a")) ∷ token 18 (one sign.Comma)
    ∷ token 19 (name (codes "b")) ∷ token 20 (one sign.CloseRound) ∷ token 21 (one sign.Defined) ∷ token 22 (name (codes "a")) ∷ token 23 (name (codes "end")) ∷ token 24 (name (codes "define"))
    ∷ token 25 (one sign.Semicolon) ∷ token 26 (name (codes "macro")) ∷ token 27 (name (codes "M")) ∷ token 28 (one sign.OpenRound) ∷ token 29 (name (codes "a")) ∷ token 30 (one sign.CloseRound)
    ∷ token 31 (name (codes "begin")) ∷ token 32 (name (codes "a")) ∷ token 33 (one sign.Assign) ∷ token 34 (name (codes "x")) ∷ token 35 (one sign.Semicolon) ∷ token 36 (name (codes "end"))
    ∷ token 37 (name (codes "macro")) ∷ token 38 (one sign.Semicolon) ∷ token 39 (name (codes "procedure")) ∷ token 40 (name (codes "P")) ∷ token 41 (one sign.OpenRound) ∷ token 42 (name (codes "b"))
    ∷ token 43 (one sign.Equal) ∷ token 44 (name (codes "x")) ∷ token 45 (one sign.CloseRound) ∷ token 46 (name (codes "variables")) ∷ token 47 (name (codes "d")) ∷ token 48 (one sign.Semicolon)
    ∷ token 49 (name (codes "begin")) ∷ token 50 (name (codes "K")) ∷ token 51 (one sign.Colon) ∷ token 52 (name (codes "return")) ∷ token 53 (one sign.Semicolon) ∷ token 54 (name (codes "end"))
    ∷ token 55 (name (codes "procedure")) ∷ token 56 (one sign.Semicolon) ∷ token 57 (name (codes "fair")) ∷ token 58 (one sign.Plus) ∷ token 59 (name (codes "process")) ∷ token 60 (name (codes "Q"))
    ∷ token 61 (one sign.In) ∷ token 62 (name (codes "S")) ∷ token 63 (name (codes "variables")) ∷ token 64 (name (codes "e")) ∷ token 65 (one sign.Equal) ∷ token 66 (name (codes "x"))
    ∷ token 67 (one sign.Semicolon) ∷ token 68 (name (codes "begin")) ∷ token 69 (name (codes "L")) ∷ token 70 (one sign.Colon) ∷ token 71 (one sign.Plus) ∷ token 72 (name (codes "while"))
    ∷ token 73 (name (codes "T")) ∷ token 74 (name (codes "do")) ∷ token 75 (name (codes "call")) ∷ token 76 (name (codes "P")) ∷ token 77 (one sign.OpenRound) ∷ token 78 (name (codes "x"))
    ∷ token 79 (one sign.CloseRound) ∷ token 80 (one sign.Semicolon) ∷ token 81 (name (codes "end")) ∷ token 82 (name (codes "while")) ∷ token 83 (one sign.Semicolon) ∷ token 84 (name (codes "either"))
    ∷ token 85 (name (codes "await")) ∷ token 86 (name (codes "T")) ∷ token 87 (one sign.Semicolon) ∷ token 88 (name (codes "or")) ∷ token 89 (name (codes "print")) ∷ token 90 (name (codes "x"))
    ∷ token 91 (one sign.Semicolon) ∷ token 92 (name (codes "or")) ∷ token 93 (name (codes "goto")) ∷ token 94 (name (codes "L")) ∷ token 95 (one sign.Semicolon) ∷ token 96 (name (codes "end"))
    ∷ token 97 (name (codes "either")) ∷ token 98 (one sign.Semicolon) ∷ token 99 (name (codes "end")) ∷ token 100 (name (codes "process")) ∷ token 101 (one sign.Semicolon) ∷ token 102 (name (codes "fair"))
    ∷ token 103 (name (codes "process")) ∷ token 104 (name (codes "R")) ∷ token 105 (one sign.Equal) ∷ token 106 (name (codes "x")) ∷ token 107 (name (codes "begin")) ∷ token 108 (name (codes "N"))
    ∷ token 109 (one sign.Colon) ∷ token 110 (one sign.Minus) ∷ token 111 (name (codes "with")) ∷ token 112 (name (codes "i")) ∷ token 113 (one sign.In) ∷ token 114 (name (codes "S"))
    ∷ token 115 (one sign.Comma) ∷ token 116 (name (codes "j")) ∷ token 117 (one sign.Equal) ∷ token 118 (name (codes "x")) ∷ token 119 (name (codes "do")) ∷ token 120 (name (codes "if"))
    ∷ token 121 (name (codes "T")) ∷ token 122 (name (codes "then")) ∷ token 123 (name (codes "assert")) ∷ token 124 (name (codes "T")) ∷ token 125 (one sign.Semicolon) ∷ token 126 (name (codes "else"))
    ∷ token 127 (name (codes "M")) ∷ token 128 (one sign.OpenRound) ∷ token 129 (name (codes "y")) ∷ token 130 (one sign.Dot) ∷ token 131 (name (codes "f")) ∷ token 132 (one sign.CloseRound)
    ∷ token 133 (one sign.Semicolon) ∷ token 134 (name (codes "end")) ∷ token 135 (name (codes "if")) ∷ token 136 (one sign.Semicolon) ∷ token 137 (name (codes "end")) ∷ token 138 (name (codes "with"))
    ∷ token 139 (one sign.Semicolon) ∷ token 140 (name (codes "end")) ∷ token 141 (name (codes "process")) ∷ token 142 (one sign.Semicolon) ∷ token 143 (name (codes "end")) ∷ token 144 (name (codes "algorithm")) ∷ []

abbrev p_text : Text
p_text = record {
  head = text.fair_algorithm (at 1) (at 2);
  name = n 3 (codes "Two");
  around = text.to_end (at 143) (at 144);
  variables = part.section (at 4) true (part.variable (n 5 (codes "x")) (part.among (at 6) (v 7 (codes "S"))) (part.by_comma (at 8)) (part.last_variable (n 9 (codes "y")) part.unset (Some (part.by_semicolon (at 10)))));
  define = text.define_end (at 11) (part.more_definitions (part.plain (n 12 (codes "T"))) (at 13) (v 14 (codes "x")) (part.last_definition (part.applied (n 15 (codes "F")) (at 16) (part.more_names (n 17 (codes "a")) (at 18) (part.last_name (n 19 (codes "b")))) (at 20)) (at 21) (v 22 (codes "a")))) (at 23) (at 24) (Some (at 25));
  macros = record {
    place = at 26;
    name = n 27 (codes "M");
    parameters = part.some_names (at 28) (part.last_name (n 29 (codes "a"))) (at 30);
    body = text.begin_end (at 31) (p.last_statement part.no_labels (p.simple (part.assign (part.last_assignment (v 32 (codes "a")) (at 33) (v 34 (codes "x"))))) (Some (at 35))) (at 36) (at 37) (Some (at 38));
  } ∷ [];
  procedures = record {
    place = at 39;
    name = n 40 (codes "P");
    parameters = part.some_parameters (at 41) (part.last_parameter (n 42 (codes "b")) (part.equals (at 43) (v 44 (codes "x")))) (at 45);
    variables = part.section (at 46) true (part.last_variable (n 47 (codes "d")) part.unset (Some (part.by_semicolon (at 48))));
    body = text.begin_end (at 49) (p.last_statement (part.label (n 50 (codes "K")) (part.colon (at 51)) part.no_labels) (p.simple (part.return (at 52))) (Some (at 53))) (at 54) (at 55) (Some (at 56));
  } ∷ [];
  main = text.processes (record {
    fair = text.strong (at 57) (at 58);
    place = at 59;
    identity = text.bare (n 60 (codes "Q")) true (at 61) (v 62 (codes "S"));
    variables = part.section (at 63) true (part.last_variable (n 64 (codes "e")) (part.equals (at 65) (v 66 (codes "x"))) (Some (part.by_semicolon (at 67))));
    body = text.begin_end (at 68)
        (p.more_statements (part.label (n 69 (codes "L")) (part.colon_plus (at 70) (at 71)) part.no_labels)
        (p.while (at 72) (v 73 (codes "T")) (at 74) (p.last_statement part.no_labels (p.simple (part.call (at 75) (n 76 (codes "P")) (part.some_arguments (at 77) (spelled.last (v 78 (codes "x"))) (at 79)))) (Some (at 80))) (at 81) (at 82)) (at 83)
        (p.last_statement part.no_labels
        (p.either (at 84) (p.last_statement part.no_labels (p.simple (part.await (at 85) (v 86 (codes "T")))) (Some (at 87)))
        (p.more_branches (at 88) (p.last_statement part.no_labels (p.simple (part.print (at 89) (v 90 (codes "x")))) (Some (at 91)))
        (p.last_branch (at 92) (p.last_statement part.no_labels (p.simple (part.goto (at 93) (n 94 (codes "L")))) (Some (at 95))))) (at 96) (at 97)) (Some (at 98))))
        (at 99) (at 100) (Some (at 101));
  }) (record {
    fair = text.weak (at 102);
    place = at 103;
    identity = text.bare (n 104 (codes "R")) false (at 105) (v 106 (codes "x"));
    variables = part.no_section;
    body = text.begin_end (at 107)
        (p.last_statement (part.label (n 108 (codes "N")) (part.colon_minus (at 109) (at 110)) part.no_labels)
        (p.with (at 111) (part.bind (n 112 (codes "i")) true (at 113) (v 114 (codes "S")) (part.by_comma (at 115)) (part.last_bind (n 116 (codes "j")) false (at 117) (v 118 (codes "x")) None)) (at 119)
        (p.last_statement part.no_labels
        (p.branch (at 120) (v 121 (codes "T")) (at 122) (p.last_statement part.no_labels (p.simple (part.assert (at 123) (v 124 (codes "T")))) (Some (at 125)))
        (p.else_then (at 126) (p.last_statement part.no_labels (p.simple (part.macro (n 127 (codes "M")) (part.some_arguments (at 128) (spelled.last (spelled.select (v 129 (codes "y")) (at 130) (f 131))) (at 132)))) (Some (at 133)))) (at 134) (at 135)) (Some (at 136)))
        (at 137) (at 138)) (Some (at 139)))
        (at 140) (at 141) (Some (at 142));
  } ∷ []);
}

spelled_in_p : SpellsP p_tokens (algorithm_of p_text)
spelled_in_p = (p_text, search, refl, refl)

printed_in_p : PText (algorithm_of p_text) ≡
    codes "--fair algorithm Two\nvariables x \\in S, y;\ndefine\n  T == x\n  F(a, b) == a\nend define;\n"
    ++ codes "macro M(a)\nbegin\n  a := x;\nend macro;\nprocedure P(b = x)\nvariables d;\nbegin\n  K: return;\n"
    ++ codes "end procedure;\nfair+ process Q \\in S\nvariables e = x;\nbegin\n  L:+ while T do\n    call P(x);\n"
    ++ codes "  end while;\n  either\n    await T;\n  or\n    print x;\n  or\n    goto L;\n  end either;\n"
    ++ codes "end process;\nfair process R = x\nbegin\n  N:- with i \\in S, j = x do\n    if T then\n      assert T;\n"
    ++ codes "    else\n      M(y.f);\n    end if;\n  end with;\nend process;\nend algorithm"
printed_in_p = refl

-- ---- C-syntax

abbrev c_tokens : List Token
c_tokens =
    token 1 (name (codes "--fair")) ∷ token 2 (name (codes "algorithm")) ∷ token 3 (name (codes "Two")) ∷ token 4 (one sign.OpenCurly) ∷ token 5 (name (codes "variables")) ∷ token 6 (name (codes "x"))
    ∷ token 7 (one sign.In) ∷ token 8 (name (codes "S")) ∷ token 9 (one sign.Comma) ∷ token 10 (name (codes "y")) ∷ token 11 (one sign.Semicolon) ∷ token 12 (name (codes "define"))
    ∷ token 13 (one sign.OpenCurly) ∷ token 14 (name (codes "T")) ∷ token 15 (one sign.Defined) ∷ token 16 (name (codes "x")) ∷ token 17 (name (codes "F")) ∷ token 18 (one sign.OpenRound)
    ∷ token 19 (name (codes "a")) ∷ token 20 (one sign.Comma) ∷ token 21 (name (codes "b")) ∷ token 22 (one sign.CloseRound) ∷ token 23 (one sign.Defined) ∷ token 24 (name (codes "a"))
    ∷ token 25 (one sign.CloseCurly) ∷ token 26 (name (codes "macro")) ∷ token 27 (name (codes "M")) ∷ token 28 (one sign.OpenRound) ∷ token 29 (name (codes "a")) ∷ token 30 (one sign.CloseRound)
    ∷ token 31 (one sign.OpenCurly) ∷ token 32 (name (codes "a")) ∷ token 33 (one sign.Assign) ∷ token 34 (name (codes "x")) ∷ token 35 (one sign.Semicolon) ∷ token 36 (one sign.CloseCurly)
    ∷ token 37 (name (codes "procedure")) ∷ token 38 (name (codes "P")) ∷ token 39 (one sign.OpenRound) ∷ token 40 (name (codes "b")) ∷ token 41 (one sign.Equal) ∷ token 42 (name (codes "x"))
    ∷ token 43 (one sign.CloseRound) ∷ token 44 (name (codes "variables")) ∷ token 45 (name (codes "d")) ∷ token 46 (one sign.Semicolon) ∷ token 47 (one sign.OpenCurly) ∷ token 48 (name (codes "K"))
    ∷ token 49 (one sign.Colon) ∷ token 50 (name (codes "return")) ∷ token 51 (one sign.Semicolon) ∷ token 52 (one sign.CloseCurly) ∷ token 53 (name (codes "fair")) ∷ token 54 (one sign.Plus)
    ∷ token 55 (name (codes "process")) ∷ token 56 (one sign.OpenRound) ∷ token 57 (name (codes "Q")) ∷ token 58 (one sign.In) ∷ token 59 (name (codes "S")) ∷ token 60 (one sign.CloseRound)
    ∷ token 61 (name (codes "variables")) ∷ token 62 (name (codes "e")) ∷ token 63 (one sign.Equal) ∷ token 64 (name (codes "x")) ∷ token 65 (one sign.Semicolon) ∷ token 66 (one sign.OpenCurly)
    ∷ token 67 (name (codes "L")) ∷ token 68 (one sign.Colon) ∷ token 69 (one sign.Plus) ∷ token 70 (name (codes "while")) ∷ token 71 (one sign.OpenRound) ∷ token 72 (name (codes "T"))
    ∷ token 73 (one sign.CloseRound) ∷ token 74 (one sign.OpenCurly) ∷ token 75 (name (codes "call")) ∷ token 76 (name (codes "P")) ∷ token 77 (one sign.OpenRound) ∷ token 78 (name (codes "x"))
    ∷ token 79 (one sign.CloseRound) ∷ token 80 (one sign.Semicolon) ∷ token 81 (one sign.CloseCurly) ∷ token 82 (one sign.Semicolon) ∷ token 83 (name (codes "either")) ∷ token 84 (one sign.OpenCurly)
    ∷ token 85 (name (codes "await")) ∷ token 86 (name (codes "T")) ∷ token 87 (one sign.Semicolon) ∷ token 88 (one sign.CloseCurly) ∷ token 89 (name (codes "or")) ∷ token 90 (one sign.OpenCurly)
    ∷ token 91 (name (codes "print")) ∷ token 92 (name (codes "x")) ∷ token 93 (one sign.Semicolon) ∷ token 94 (one sign.CloseCurly) ∷ token 95 (name (codes "or")) ∷ token 96 (one sign.OpenCurly)
    ∷ token 97 (name (codes "goto")) ∷ token 98 (name (codes "L")) ∷ token 99 (one sign.Semicolon) ∷ token 100 (one sign.CloseCurly) ∷ token 101 (one sign.Semicolon) ∷ token 102 (one sign.CloseCurly)
    ∷ token 103 (name (codes "fair")) ∷ token 104 (name (codes "process")) ∷ token 105 (one sign.OpenRound) ∷ token 106 (name (codes "R")) ∷ token 107 (one sign.Equal) ∷ token 108 (name (codes "x"))
    ∷ token 109 (one sign.CloseRound) ∷ token 110 (one sign.OpenCurly) ∷ token 111 (name (codes "N")) ∷ token 112 (one sign.Colon) ∷ token 113 (one sign.Minus) ∷ token 114 (name (codes "with"))
    ∷ token 115 (one sign.OpenRound) ∷ token 116 (name (codes "i")) ∷ token 117 (one sign.In) ∷ token 118 (name (codes "S")) ∷ token 119 (one sign.Comma) ∷ token 120 (name (codes "j"))
    ∷ token 121 (one sign.Equal) ∷ token 122 (name (codes "x")) ∷ token 123 (one sign.CloseRound) ∷ token 124 (one sign.OpenCurly) ∷ token 125 (name (codes "if")) ∷ token 126 (one sign.OpenRound)
    ∷ token 127 (name (codes "T")) ∷ token 128 (one sign.CloseRound) ∷ token 129 (one sign.OpenCurly) ∷ token 130 (name (codes "assert")) ∷ token 131 (name (codes "T")) ∷ token 132 (one sign.Semicolon)
    ∷ token 133 (one sign.CloseCurly) ∷ token 134 (name (codes "else")) ∷ token 135 (one sign.OpenCurly) ∷ token 136 (name (codes "M")) ∷ token 137 (one sign.OpenRound) ∷ token 138 (name (codes "y"))
    ∷ token 139 (one sign.Dot) ∷ token 140 (name (codes "f")) ∷ token 141 (one sign.CloseRound) ∷ token 142 (one sign.Semicolon) ∷ token 143 (one sign.CloseCurly) ∷ token 144 (one sign.Semicolon)
    ∷ token 145 (one sign.CloseCurly) ∷ token 146 (one sign.Semicolon) ∷ token 147 (one sign.CloseCurly) ∷ token 148 (one sign.CloseCurly) ∷ []

abbrev c_text : Text
c_text = record {
  head = text.fair_algorithm (at 1) (at 2);
  name = n 3 (codes "Two");
  around = text.in_braces (at 4) (at 148);
  variables = part.section (at 5) true (part.variable (n 6 (codes "x")) (part.among (at 7) (v 8 (codes "S"))) (part.by_comma (at 9)) (part.last_variable (n 10 (codes "y")) part.unset (Some (part.by_semicolon (at 11)))));
  define = text.define_braces (at 12) (at 13) (part.more_definitions (part.plain (n 14 (codes "T"))) (at 15) (v 16 (codes "x")) (part.last_definition (part.applied (n 17 (codes "F")) (at 18) (part.more_names (n 19 (codes "a")) (at 20) (part.last_name (n 21 (codes "b")))) (at 22)) (at 23) (v 24 (codes "a")))) (at 25) None;
  macros = record {
    place = at 26;
    name = n 27 (codes "M");
    parameters = part.some_names (at 28) (part.last_name (n 29 (codes "a"))) (at 30);
    body = text.braces (at 31) (c.last_statement (bare (c.simple (part.assign (part.last_assignment (v 32 (codes "a")) (at 33) (v 34 (codes "x")))))) (Some (at 35))) (at 36) None;
  } ∷ [];
  procedures = record {
    place = at 37;
    name = n 38 (codes "P");
    parameters = part.some_parameters (at 39) (part.last_parameter (n 40 (codes "b")) (part.equals (at 41) (v 42 (codes "x")))) (at 43);
    variables = part.section (at 44) true (part.last_variable (n 45 (codes "d")) part.unset (Some (part.by_semicolon (at 46))));
    body = text.braces (at 47) (c.last_statement (c.labelled (part.label (n 48 (codes "K")) (part.colon (at 49)) part.no_labels) (c.simple (part.return (at 50)))) (Some (at 51))) (at 52) None;
  } ∷ [];
  main = text.processes (record {
    fair = text.strong (at 53) (at 54);
    place = at 55;
    identity = text.bracketed (at 56) (n 57 (codes "Q")) true (at 58) (v 59 (codes "S")) (at 60);
    variables = part.section (at 61) true (part.last_variable (n 62 (codes "e")) (part.equals (at 63) (v 64 (codes "x"))) (Some (part.by_semicolon (at 65))));
    body = text.braces (at 66)
        (c.more_statements (c.labelled (part.label (n 67 (codes "L")) (part.colon_plus (at 68) (at 69)) part.no_labels)
        (c.while (at 70) (at 71) (v 72 (codes "T")) (at 73) (in_block (at 74) (part.call (at 75) (n 76 (codes "P")) (part.some_arguments (at 77) (spelled.last (v 78 (codes "x"))) (at 79))) (at 80) (at 81)))) (Some (at 82))
        (c.last_statement (bare
        (c.either (at 83) (in_block (at 84) (part.await (at 85) (v 86 (codes "T"))) (at 87) (at 88))
        (c.more_branches None (at 89) (in_block (at 90) (part.print (at 91) (v 92 (codes "x"))) (at 93) (at 94))
        (c.last_branch None (at 95) (in_block (at 96) (part.goto (at 97) (n 98 (codes "L"))) (at 99) (at 100)))))) (Some (at 101))))
        (at 102) None;
  }) (record {
    fair = text.weak (at 103);
    place = at 104;
    identity = text.bracketed (at 105) (n 106 (codes "R")) false (at 107) (v 108 (codes "x")) (at 109);
    variables = part.no_section;
    body = text.braces (at 110)
        (c.last_statement (c.labelled (part.label (n 111 (codes "N")) (part.colon_minus (at 112) (at 113)) part.no_labels)
        (c.with (at 114) (at 115) (part.bind (n 116 (codes "i")) true (at 117) (v 118 (codes "S")) (part.by_comma (at 119)) (part.last_bind (n 120 (codes "j")) false (at 121) (v 122 (codes "x")) None)) (at 123)
        (bare (c.compound (at 124) (c.last_statement (bare
        (c.branch (at 125) (at 126) (v 127 (codes "T")) (at 128) (in_block (at 129) (part.assert (at 130) (v 131 (codes "T"))) (at 132) (at 133))
        (c.else_then None (at 134) (in_block (at 135) (part.macro (n 136 (codes "M")) (part.some_arguments (at 137) (spelled.last (spelled.select (v 138 (codes "y")) (at 139) (f 140))) (at 141))) (at 142) (at 143))))) (Some (at 144))) (at 145))))) (Some (at 146)))
        (at 147) None;
  } ∷ []);
}

spelled_in_c : SpellsC c_tokens (algorithm_of c_text)
spelled_in_c = (c_text, search, refl, refl)

printed_in_c : CText (algorithm_of c_text) ≡
    codes "--fair algorithm Two {\nvariables x \\in S, y;\ndefine {\n  T == x\n  F(a, b) == a\n}\nmacro M(a)\n"
    ++ codes "{\n  a := x;\n}\nprocedure P(b = x)\nvariables d;\n{\n  K: return;\n}\nfair+ process (Q \\in S)\n"
    ++ codes "variables e = x;\n{\n  L:+ while (T) {\n    call P(x);\n  };\n  either {\n    await T;\n  } or {\n"
    ++ codes "    print x;\n  } or {\n    goto L;\n  };\n}\nfair process (R = x)\n{\n  N:- with (i \\in S, j = x) {\n"
    ++ codes "    if (T) {\n      assert T;\n    } else {\n      M(y.f);\n    };\n  };\n}\n}"
printed_in_c = refl

-- but for places it is one algorithm
one_algorithm : placeless (algorithm_of p_text) ≡ placeless (algorithm_of c_text)
one_algorithm = refl
