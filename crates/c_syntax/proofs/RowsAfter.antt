-- Worked rows of what comes after a statement, by computation.
use Rattle.std.proofs.Common.{◌≡◌, refl, true, false, [], None, Some, Ok, Err, codes}
use Rattle.tla_token.specs.declared.place.Place.{Place}
use Rattle.tla_token.specs.declared.rule.Rule.TheVariants.{Syntax}
use Rattle.tla_tree.specs.Lexical as tk
use Rattle.tla_tree.specs.Spelling as spelled
use Rattle.tla_tree.specs.Reader.{readers}
use Rattle.pcal_tree.specs.GrammarParts.{no_labels, skip, key, mark}
use Rattle.pcal_tree.specs.GrammarC.{Labelled, labelled, simple, compound, last_statement}
use Rattle.syntax_reading.specs.TokenReaders.{Parts, parts_of}
use Rattle.c_reading.specs.ReadStatements.{on, done, none, after, Test, if_test, first_arm, later_arm, Stack, bottom, in_block, in_then, in_else, in_either, begin, ended}
use Rattle.c_syntax.specs.AfterRead.{taken, next_taken, past_word, at_brace, else_step, or_step, brace_step, list_step, ended_step, is_its_semicolon}
use Rattle.pcal_tree.specs.Tests.{only_if}

abbrev at : Place
at = record { line = 1; col = 1 }

abbrev parts : Parts
parts = parts_of (readers 0 None)

abbrev a_test : Test
a_test = if_test at at (spelled.name at (codes "a")) at

abbrev skips : Labelled
skips = labelled no_labels (simple (skip at))

-- if (a) skip; with an `else` behind it
abbrev open_if : Stack
open_if = in_then no_labels a_test (bottom none)

else_is_taken : else_step parts 9 skips (Some at) open_if (key at (codes "else") []) ≡ Ok (on (begin no_labels (in_else no_labels a_test skips (Some at) at (bottom none))), [])
else_is_taken = refl

-- an `or` ends it, and nothing takes that
or_is_refused : or_step parts 9 skips (Some at) open_if (key at (codes "or") []) ≡ Err (Syntax, key at (codes "or") [])
or_is_refused = refl

-- but an `either` around it does
abbrev open_either : Stack
open_either = in_either (first_arm no_labels at) (bottom none)

or_is_taken : or_step parts 9 skips None open_either (key at (codes "or") []) ≡ Ok (on (begin no_labels (in_either (later_arm (first_arm no_labels at) skips None at) (bottom none))), [])
or_is_taken = refl

-- a `}` is passed in a block, and stays at the end of the whole list
block_closes : brace_step parts 9 skips None (in_block no_labels at none (bottom none)) (mark at tk.close_brace []) ≡ Ok (on (ended (labelled no_labels (compound at (last_statement skips None) at)) None (bottom none)), [])
block_closes = refl

list_ends : brace_step parts 9 skips (Some at) (bottom none) (mark at tk.close_brace []) ≡ Ok (done (last_statement skips (Some at)), mark at tk.close_brace [])
list_ends = refl

brace_is_refused : at_brace None (mark at tk.close_brace []) ≡ Err (Syntax, mark at tk.close_brace [])
brace_is_refused = refl

-- another statement comes after a `;`, or after a block
another_after_semicolon : taken (next_taken (Some at)) (Some (skips, bottom none)) ≡ Some (bottom (after none skips (Some at)))
another_after_semicolon = refl

none_without_semicolon : taken (next_taken None) (Some (skips, bottom none)) ≡ None
none_without_semicolon = refl

none_in_an_if : taken (next_taken (Some at)) (Some (skips, open_if)) ≡ None
none_in_an_if = refl

only_if_so : only_if true (Some at) ≡ Some at
only_if_so = refl

another_is_read : list_step parts 9 skips (Some at) (bottom none) (key at (codes "skip") []) ≡ Ok (on (ended skips None (bottom (after none skips (Some at)))), [])
another_is_read = refl

another_is_refused : list_step parts 9 skips None (bottom none) (key at (codes "skip") []) ≡ Err (Syntax, key at (codes "skip") [])
another_is_refused = refl

-- a statement has one `;`
semicolon_is_its : is_its_semicolon false (tk.mark tk.semicolon) ≡ true
semicolon_is_its = refl

second_is_not : is_its_semicolon true (tk.mark tk.semicolon) ≡ false
second_is_not = refl

semicolon_is_passed : ended_step parts 9 skips None open_if (mark at tk.semicolon []) ≡ Ok (on (ended skips (Some at) open_if), [])
semicolon_is_passed = refl

past_else : past_word (Some open_either) (key at (codes "or") []) ≡ Ok (on (begin no_labels open_either), [])
past_else = refl
