-- Worked files whose algorithm is to be rewritten, by computation: those that are, and how others are refused.
use Rattle.std.specs.Prelude.{ℕ, [], ◌∷◌, ◌++◌, Some, None, codes}
use Rattle.std.proofs.Common.{refl}
use Rattle.tla_token.specs.declared.place.Place.{Place}
use Rattle.tla_token.specs.declared.rule.Rule.{Rule}
use Rattle.tla_token.specs.declared.rule.Rule.TheVariants as rule
use Rattle.tla_token.specs.declared.rule.Refusal.{Refusal}
use Rattle.tla_tree.specs.Spelling as spelled
use Rattle.pcal_tree.specs.GrammarParts as part
use Rattle.pcal_tree.specs.GrammarP as p
use Rattle.pcal_tree.specs.Grammar as grammar
use Rattle.pcal_tree.specs.Grammar.{p_syntax}
use Rattle.pcal_tree.specs.OpenForms.{opens}
use Rattle.module_tree.specs.TextFront.{Text}
use Rattle.file_answer.specs.Refusals.{Wrong}
use Rattle.file_answer.specs.Spelling.{AnswersRewriting}
use Rattle.file_answer.specs.Holds.{HoldsTree}

abbrev at : ℕ → Place
at k = record { line = 2; col = k }

abbrev pub r : Rule → ℕ → ℕ → Refusal
r k l c = record { rule = k; place = record { line = l; col = c } }

abbrev pub nothing : Wrong
nothing = record { bytes = []; parts = []; tokens = []; syntax = None; counts = []; names = []; labels = [] }

-- a module with this on its second line
abbrev pub file : Text → Text
file w = codes "---- MODULE M ----\n" ++ (w ++ codes "\n====\n")

-- an algorithm in P-syntax with one statement, and the columns of its last words
abbrev body : part.Simple → ℕ → ℕ → ℕ → grammar.Text
body st a b c = record {
  head = grammar.algorithm (at 4);
  name = record { word = codes "R"; place = at 16 };
  around = grammar.to_end (at b) (at c);
  variables = part.no_section;
  define = grammar.no_define;
  macros = [];
  procedures = [];
  main = grammar.begin (at 18) (p.last_statement part.no_labels (p.simple st) (Some (at a)));
}

-- ---- it is rewritten

abbrev pub least : Text
least = file (codes "(* --algorithm R begin skip; end algorithm *)")

pub least_is_rewritten : AnswersRewriting least None
least_is_rewritten =
    let x = body (part.skip (at 24)) 28 30 34 in (
      nothing,
      record {
        bytes = refl;
        parts = refl;
        algorithm = (refl, ([], opens x, (x, search, refl, refl), search), (grammar.algorithm_of x, (x, search, refl, refl), refl));
        names = refl;
        labels = refl;
      },
      refl,
    )

-- its tree is that of its tokens
least_holds : HoldsTree least (grammar.algorithm_of (body (part.skip (at 24)) 28 30 34))
least_holds = record { text = _; is_text = refl; syntax = p_syntax; spelled = (body (part.skip (at 24)) 28 30 34, search, refl, refl) }

-- ---- it is refused

-- a number that is too big is one of a spelled algorithm
abbrev large : Text
large = file (codes "(* --algorithm R begin print 170141183460469231731687303715884105728; end algorithm *)")

number_too_big : AnswersRewriting large (Some (r rule.NumberTooBig 2 30))
number_too_big =
    let x = body (part.print (at 24) (spelled.number (at 30) 170141183460469231731687303715884105728)) 69 71 75 in (
      record nothing { tokens = r rule.NumberTooBig 2 30 ∷ [] },
      record {
        bytes = refl;
        parts = refl;
        algorithm = (refl, ([], opens x, (x, search, refl, refl), search), (grammar.algorithm_of x, (x, search, refl, refl), refl));
        names = refl;
        labels = refl;
      },
      refl,
    )

-- the least rule counts, wherever it is broken
abbrev optioned : Text
optioned = file (codes "(* --algorithm R begin print 170141183460469231731687303715884105728; end algorithm PlusCal options (wf) *)")

options_first : AnswersRewriting optioned (Some (r rule.Options 2 85))
options_first =
    let x = body (part.print (at 24) (spelled.number (at 30) 170141183460469231731687303715884105728)) 69 71 75 in (
      record nothing { parts = r rule.Options 2 85 ∷ []; tokens = r rule.NumberTooBig 2 30 ∷ [] },
      record {
        bytes = refl;
        parts = refl;
        algorithm = (refl, ([], opens x, (x, search, refl, refl), search), (grammar.algorithm_of x, (x, search, refl, refl), refl));
        names = refl;
        labels = refl;
      },
      refl,
    )

pub no_algorithm : AnswersRewriting (file []) (Some (r rule.NoAlgorithm 3 1))
no_algorithm = (record nothing { parts = r rule.NoAlgorithm 3 1 ∷ [] }, record { bytes = refl; parts = refl; algorithm = (refl, refl, refl); names = refl; labels = refl }, refl)

-- where a comment is open no other rule is asked
no_end : AnswersRewriting (codes "---- MODULE M ----\n(* x") (Some (r rule.OpenComment 2 1))
no_end =
    (record nothing { bytes = r rule.OpenComment 2 1 ∷ []; parts = r rule.NoModule 2 5 ∷ [] }, record { bytes = refl; parts = refl; algorithm = (refl, refl, refl); names = refl; labels = refl }, refl)
