-- Worked rows of files with a printed algorithm, by computation: what comes right behind its last word, and comments in it, which are not kept.
use Rattle.std.proofs.Common.{◌≡◌, ℕ, refl, false, [], ◌∷◌, ◌++◌, Option, Some, codes}
use Rattle.tla_tree.specs.Tree.{Word, Name, node, no_trees}
use Rattle.tla_tree.specs.Tree as expr
use Rattle.tla_token.specs.declared.rule.Rule.TheVariants.{Placement, Options}
use Rattle.tla_token.specs.Tokens.{stretch}
use Rattle.pcal_tree.specs.declared.mark.Mark.TheVariants as marked
use Rattle.pcal_tree.specs.Algorithm.{nowhere, skip, done, then, mark, Algorithm, alone}
use Rattle.pcal_tree.specs.Placeless.{no_span}
use Rattle.pcal_tree.specs.Grammar.{p_syntax, c_syntax}
use Rattle.pcal_tree.specs.Printed.{PText, CText}
use Rattle.module_tree.specs.TextFront.{Text, on_some}
use Rattle.module_tree.specs.Beginnings.{is_options, all_at}
use Rattle.module_tree.specs.AlgorithmText.{Stage, open_p, past_p, past_c, algorithm_in}
use Rattle.module_tree.specs.FileOffences.{file_offences}
use Rattle.module_tree.specs.WithTranslation.{Swapped}
use Rattle.module_tree.specs.laws.Kept.{IsFine}
use Rattle.module_tree.specs.laws.Swaps.{is_paired}
use Rattle.printed_text.specs.Rewritten.{gap}
use Rattle.tla_token.specs.declared.place.Place.{Place}
use Rattle.pcal_tree.specs.GrammarParts as part
use Rattle.pcal_tree.specs.GrammarP as p
use Rattle.pcal_tree.specs.Grammar as grammar
use Rattle.printed_text.specs.Rewrites.{Rewrites}
use Rattle.printed_text.proofs.Rewritten.{rewritten_rewrites}

abbrev n : Word → Name
n x = record { word = x; place = nowhere }

abbrev least : Algorithm
least = record { name = n (codes "R"); fair = false; globals = []; definitions = []; macros = []; procedures = []; main = alone (mark (n (codes "A")) marked.Plain (then no_span skip done)) }

abbrev file : Text → Text
file w = codes "---- MODULE M ----\n(* " ++ (w ++ codes "*)\n====\n")

-- the algorithm of a file, and whether its end was found
abbrev found : Text → Option (Text × Stage)
found x = on_some (algorithm_in x) (λ a. Some (stretch x a.from a.rest.to, a.rest.stage))

-- ---- a word right behind the last brace

braced : found (file (CText least ++ codes "x")) ≡ Some (CText least, past_c)
braced = refl

no_gap : gap c_syntax (codes "x*)\n====\n") ≡ []
no_gap = refl

-- without a blank it would go on with `algorithm`, and the end would not be found
joined : found (file (PText least ++ codes "x")) ≡ Some (PText least ++ codes "x", open_p false)
joined = refl

blank_there : gap p_syntax (codes "x*)\n====\n") ≡ codes " "
blank_there = refl

swapped : Swapped (file (CText least ++ codes "x")) (PText least ++ codes " ") (file (PText least ++ codes " x"))
swapped = record { old = _; is_old = refl; is = refl }

parted : found (file (PText least ++ codes " x")) ≡ Some (PText least, past_p)
parted = refl

-- ---- and anything else

at_once : gap p_syntax (codes "*)\n====\n") ≡ []
at_once = refl

ended : found (file (PText least)) ≡ Some (PText least, past_p)
ended = refl

commented : gap p_syntax (codes "(* x *)*)\n====\n") ≡ []
commented = refl

behind_comment : found (file (PText least ++ codes "(* x *)")) ≡ Some (PText least, past_p)
behind_comment = refl

-- ---- comments in it are not kept

-- a lone mark in a line comment
abbrev marked_file : Text
marked_file = file (codes "--algorithm R {\n{ \\* (*\nA: skip;\n}\n} *) ")

fine_with_mark : IsFine marked_file
fine_with_mark = refl

without_mark : Swapped marked_file (CText least) (file (CText least ++ codes " *) "))
without_mark = record { old = _; is_old = refl; is = refl }

unpaired : on_some (algorithm_in marked_file) (λ a. Some (is_paired 0 (stretch marked_file a.from a.rest.to))) ≡ Some false
unpaired = refl

-- the comment ends before its old end then
broken : file_offences (file (CText least ++ codes " *) ")) ≡ (Placement, 58) ∷ []
broken = refl

-- a comment between two words of options
abbrev with_options : Algorithm
with_options = record least {
  definitions = record { name = n (codes "F"); params = []; body = node (expr.name (codes "PlusCal")) nowhere no_trees } ∷ record { name = n (codes "options"); params = n (codes "x") ∷ []; body = node (expr.name (codes "x")) nowhere no_trees } ∷ [];
}

abbrev parted_file : Text
parted_file = file (codes "--algorithm R { define { F == PlusCal \\* F\noptions(x) == x } {\nA: skip;\n}\n}")

fine_apart : IsFine parted_file
fine_apart = refl

printed_together : Swapped parted_file (CText with_options) (file (CText with_options))
printed_together = record { old = _; is_old = refl; is = refl }

together : all_at is_options 0 (CText with_options) ≡ 32 ∷ []
together = refl

options_there : file_offences (file (CText with_options)) ≡ (Options, 54) ∷ []
options_there = refl

-- ---- the promise: a file in P-syntax, and the same in C-syntax

abbrev at : ℕ → Place
at k = record { line = 2; col = k }

abbrev as_spelled : grammar.Text
as_spelled = record {
  head = grammar.algorithm (at 4);
  name = record { word = codes "R"; place = at 16 };
  around = grammar.to_end (at 30) (at 34);
  variables = part.no_section;
  define = grammar.no_define;
  macros = [];
  procedures = [];
  main = grammar.begin (at 18) (p.last_statement part.no_labels (p.simple (part.skip (at 24))) (Some (at 28)));
}

promised : Rewrites c_syntax (file (codes "--algorithm R begin skip; end algorithm")) (file (codes "--algorithm R {\n{\n  skip;\n}\n}"))
promised =
    rewritten_rewrites c_syntax (file (codes "--algorithm R begin skip; end algorithm")) (file (codes "--algorithm R {\n{\n  skip;\n}\n}")) refl
    (record { old = _; is_old = refl; syntax = p_syntax; tree = grammar.algorithm_of as_spelled; spelled = (as_spelled, search, refl, refl); swapped = record { old = _; is_old = refl; is = refl } })
