-- Worked examples of the one refusal that is answered, by computation.
use Rattle.std.specs.Prelude.{ℕ, true, false, [], ◌∷◌, Some, None, codes}
use Rattle.std.proofs.Common.{◌≡◌, refl}
use Rattle.tla_token.specs.declared.rule.Rule.{Rule}
use Rattle.tla_token.specs.declared.rule.Rule.TheVariants as rule
use Rattle.tla_token.specs.declared.rule.Refusal.{Refusal}
use Rattle.file_answer.specs.laws.FewRules.{is_too_much, is_options_or_too_much}
use Rattle.algorithm_answer.specs.TokensRefused.{placed}
use Rattle.file_answer.specs.Refusals.{Wrong, of_spelling, of_completion, of_all, refusal_of, refused}

abbrev r : Rule → ℕ → ℕ → Refusal
r k l c = record { rule = k; place = record { line = l; col = c } }

abbrev nothing : Wrong
nothing = record { bytes = []; parts = []; tokens = []; syntax = None; counts = []; names = []; labels = [] }

no_refusal : refusal_of of_all nothing ≡ None
no_refusal = refl

-- bytes come first, whatever else there is
bytes_first : refusal_of of_all (record nothing { bytes = r rule.OpenComment 9 1 ∷ []; parts = r rule.NoModule 1 1 ∷ [] }) ≡ Some (r rule.OpenComment 9 1)
bytes_first = refl

-- a word that is left out comes before a number that is too big
words_before_numbers : refusal_of of_all (record nothing { tokens = r rule.NumberTooBig 7 3 ∷ r rule.LeftOutWord 8 1 ∷ [] }) ≡ Some (r rule.LeftOutWord 8 1)
words_before_numbers = refl

-- where reading stops, nothing is said of the algorithm
stopped : refusal_of of_all (record nothing { syntax = Some (r rule.Syntax 7 16); counts = r rule.TooMany 5 1 ∷ [] }) ≡ Some (r rule.Syntax 7 16)
stopped = refl

-- labels are looked at where names are well
names_first : refusal_of of_all (record nothing { names = r rule.Reserved 9 1 ∷ r rule.Unknown 8 2 ∷ r rule.Unknown 7 11 ∷ []; labels = r rule.FirstLabel 1 1 ∷ [] }) ≡ Some (r rule.Unknown 7 11)
names_first = refl

labels_then : refusal_of of_all (record nothing { labels = r rule.TooLarge 4 13 ∷ r rule.AssignTwice 7 14 ∷ [] }) ≡ Some (r rule.AssignTwice 7 14)
labels_then = refl

rewrites : refusal_of of_spelling (record nothing { names = r rule.Unknown 7 11 ∷ [] }) ≡ None
rewrites = refl

completes : refusal_of of_completion (record nothing { syntax = Some (r rule.Syntax 7 16) }) ≡ None
completes = refl

-- the module, then the first file beside it
second_file : refused of_all nothing ((r rule.BadLine 2 1 ∷ r rule.BadLine 1 1 ∷ []) ∷ (r rule.BadLine 1 1 ∷ []) ∷ []) ≡ Some (1, r rule.BadLine 1 1)
second_file = refl

first_file : refused of_all (record nothing { labels = r rule.AssignTwice 7 14 ∷ [] }) ((r rule.BadLine 1 1 ∷ []) ∷ []) ≡ Some (0, r rule.AssignTwice 7 14)
first_file = refl

in_a_text : placed (codes "a\nbc") ((rule.Options, 3) ∷ []) ≡ r rule.Options 2 2 ∷ []
in_a_text = refl

-- a rewritten file may have options, or too many tokens; with no options it is refused for too much alone
may_have_options : is_options_or_too_much rule.Options ≡ true
may_have_options = refl

may_be_too_deep : is_options_or_too_much rule.TooDeep ≡ true
may_be_too_deep = refl

options_are_not_too_much : is_too_much rule.Options ≡ false
options_are_not_too_much = refl

never_of_syntax : is_options_or_too_much rule.Syntax ≡ false
never_of_syntax = refl
