-- Worked rows of what stands open, of what closes it, and of where no more may open, by computation.
use Rattle.std.proofs.Common.{◌≡◌, refl, true, false, List, [], ◌++◌, None, Some, Ok, Err, codes}
use Rattle.tla_token.specs.declared.place.Place.{Place}
use Rattle.tla_token.specs.Places.{nowhere}
use Rattle.tla_token.specs.declared.rule.Rule.TheVariants.{TooDeep, Syntax}
use Rattle.tla_tree.specs.Lexical.{Token}
use Rattle.tla_tree.specs.Lexical as tk
use Rattle.tla_tree.specs.Spelling as spelled
use Rattle.tla_tree.specs.Reader.{readers}
use Rattle.pcal_tree.specs.GrammarParts.{word, no_labels, last_bind, bind, by_comma, skip, key, mark}
use Rattle.pcal_tree.specs.GrammarC.{Labelled, labelled, Sequence, simple, branch, either, else_then, last_branch, last_statement}
use Rattle.syntax_reading.specs.TokenReaders.{Parts, parts_of}
use Rattle.c_reading.specs.ReadStatements.{on, step, none, first_arm, later_arm, Test, if_test, with_opening, Stack, bottom, in_block, in_then, in_else, in_body, in_either, begin, ended, run, AreApart, closing, rest, depth}

abbrev at : Place
at = record { line = 1; col = 1 }

abbrev a_test : Test
a_test = if_test at at (spelled.name at (codes "a")) at

abbrev skips : Place → Labelled
skips p = labelled no_labels (simple (skip p))

-- if (a) either skip
abbrev open_arm : Stack
open_arm = in_either (first_arm no_labels at) (in_then no_labels a_test (bottom none))

arm_apart : AreApart open_arm
arm_apart = (refl, tt)

-- or skip else skip
arm_closing : closing open_arm ≡ key nowhere (codes "or") (key nowhere (codes "skip") (key nowhere (codes "else") (key nowhere (codes "skip") [])))
arm_closing = refl

arm_deep : depth open_arm ≡ 2
arm_deep = refl

-- it is read so, after a statement with its `;`
abbrev whole : Sequence
whole = last_statement
    (labelled no_labels (branch at at (spelled.name at (codes "a")) at (labelled no_labels (either at (skips at) (last_branch (Some at) nowhere (skips nowhere)))) (else_then None nowhere (skips nowhere))))
    None

arm_closed : run (parts_of (readers 0 None)) 9 (ended (skips at) (Some at) open_arm) (rest (ended (skips at) (Some at) open_arm) ++ mark at tk.close_brace []) ≡ Ok (whole, mark at tk.close_brace [])
arm_closed = refl

-- either skip or if (a) skip else with (x = a, y = a) {: a statement comes, and a brace; nothing is wanted after it
abbrev open_block : Stack
open_block = in_block no_labels at none
    (in_body no_labels (with_opening at at (bind (spelled.named at (codes "x")) true at (spelled.name at (codes "a")) (by_comma at) (last_bind (spelled.named at (codes "y")) true at (spelled.name at (codes "a")) None)) at)
    (in_else no_labels a_test (skips at) None at (in_either (later_arm (first_arm no_labels at) (skips at) None at) (bottom none))))

block_rest : rest (begin no_labels open_block) ≡ key nowhere (codes "skip") (mark nowhere tk.close_brace [])
block_rest = refl

-- the block, two names, the `if` and the `either`
block_deep : depth open_block ≡ 5
block_deep = refl

-- either either: reading doesn't come there
not_apart : AreApart (in_either (first_arm no_labels at) (in_either (first_arm no_labels at) (bottom none))) → ⊥
not_apart i = (let e = i.0 in cc)

-- ---- where no more forms may be open
abbrev full : Parts
full = (let m = parts_of (readers 0 None) in record { expr = m.expr; arguments = m.arguments; subscripts = m.subscripts; room = λ d. false })

-- refused at its first token
abbrev IsTooDeep : List Token → Type 0
IsTooDeep ts = step full 1 (begin no_labels (bottom none)) ts ≡ Err (TooDeep, ts)

deep_block : IsTooDeep (mark at tk.open_brace [])
deep_block = refl

deep_if : IsTooDeep (key at (codes "if") (mark at tk.open_bracket []))
deep_if = refl

deep_while : IsTooDeep (key at (codes "while") [])
deep_while = refl

deep_either : IsTooDeep (key at (codes "either") [])
deep_either = refl

-- with (x: at the name
deep_bind : step full 1 (begin no_labels (bottom none)) (key at (codes "with") (mark at tk.open_bracket (word at (codes "x") []))) ≡ Err (TooDeep, word at (codes "x") [])
deep_bind = refl

-- an `either` that may not stand there is refused as syntax first
deep_in_arm : step full 1 (begin no_labels (in_either (first_arm no_labels at) (bottom none))) (key at (codes "either") []) ≡ Err (Syntax, key at (codes "either") [])
deep_in_arm = refl

-- simple statements open none
flat_skip : step full 1 (begin no_labels (bottom none)) (key at (codes "skip") []) ≡ Ok (on (ended (skips at) None (bottom none)), [])
flat_skip = refl
