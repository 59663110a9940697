-- The forms that are open at the tokens which were passed: each state of a list of statements says how many, and what closes a form puts them together.
use Rattle.std.proofs.Common.{◌≡◌, ℕ, ◌+◌, List, [], ◌++◌, refl, ◌∙◌, append_assoc}
use Rattle.tla_token.specs.declared.place.Place.{Place}
use Rattle.tla_tree.specs.FirstStop.{Open}
use Rattle.pcal_tree.specs.GrammarParts.{labels, maybe_semicolon}
use Rattle.pcal_tree.specs.GrammarP.{Else, else_if, Branches, more_branches, Sequence, more_statements}
use Rattle.pcal_tree.specs.OpenForms.{here, plain, expression_opens, binds_open, after_binds, p_statement, p_else, p_branches, p_sequence}
use Rattle.p_reading.specs.ReadStatements.{Before, none, after, Tests, if_test, elsif_test, Arms, first_arm, later_arm, Frame, in_then, in_else, in_either, in_with, in_while, Stack, bottom, inside, after_tests, depth, State, begin, ended, Turn, on, done, with_before, closed_if, closed_either}

-- ---- the forms that were open at the tokens that were passed
abbrev pub before_opens : ℕ → Before → List Open
before_opens d none = []
before_opens d (after b ls a p) = before_opens d b ++ plain d (labels ls) ++ p_statement d a ++ here d

abbrev pub tests_open : ℕ → Tests → List Open
tests_open d (if_test p e q) = here (d + 1) ++ expression_opens (d + 1) e ++ here (d + 1)
tests_open d (elsif_test t a p e q) = tests_open d t ++ p_sequence (after_tests d t) a ++ here (after_tests d t + 1) ++ expression_opens (after_tests d t + 1) e ++ here (after_tests d t + 1)

abbrev pub arms_open : ℕ → Arms → List Open
arms_open d (first_arm p) = here (d + 1)
arms_open d (later_arm t a p) = arms_open d t ++ p_sequence (d + 1) a ++ here (d + 1)

abbrev pub frame_opens : ℕ → Frame → List Open
frame_opens d (in_then t) = tests_open d t
frame_opens d (in_else t a p) = tests_open d t ++ p_sequence (after_tests d t) a ++ here (after_tests d t)
frame_opens d (in_either t) = arms_open d t
frame_opens d (in_with p bs q) = here d ++ binds_open d bs ++ here (after_binds d bs)
frame_opens d (in_while p e q) = here (d + 1) ++ expression_opens (d + 1) e ++ here (d + 1)

abbrev pub stack_opens : Stack → List Open
stack_opens bottom = []
stack_opens (inside f b ls st) = stack_opens st ++ before_opens (depth st) b ++ plain (depth st) (labels ls) ++ frame_opens (depth st) f

abbrev pub state_opens : State → List Open
state_opens (begin b ls st) = stack_opens st ++ before_opens (depth st) b ++ plain (depth st) (labels ls)
state_opens (ended b ls a o st) = stack_opens st ++ before_opens (depth st) b ++ plain (depth st) (labels ls) ++ p_statement (depth st) a ++ plain (depth st) (maybe_semicolon o)

abbrev pub turn_opens : Turn → List Open
turn_opens (on s) = state_opens s
turn_opens (done ss) = p_sequence 0 ss

-- ---- parts together
pub with_before_opens : (d : ℕ) (b : Before) (ss : Sequence) → p_sequence d (with_before b ss) ≡ before_opens d b ++ p_sequence d ss
with_before_opens d none ss = refl
with_before_opens d (after b ls a p) ss = with_before_opens d b (more_statements ls a p ss) ∙ simp append_assoc refl

pub closed_if_opens : (d : ℕ) (t : Tests) (a : Sequence) (b : Else) (r s : Place) → p_statement d (closed_if t a b r s) ≡ tests_open d t ++ p_sequence (after_tests d t) a ++ p_else (after_tests d t) b ++ here (d + 1) ++ here (d + 1)
closed_if_opens d (if_test p e q) a b r s = refl
closed_if_opens d (elsif_test t c p e q) a b r s = closed_if_opens d t c (else_if p e q a b) r s ∙ simp append_assoc refl

pub closed_either_opens : (d : ℕ) (t : Arms) (a : Sequence) (bs : Branches) (r s : Place) → p_statement d (closed_either t a bs r s) ≡ arms_open d t ++ p_sequence (d + 1) a ++ p_branches (d + 1) bs ++ here (d + 1) ++ here (d + 1)
closed_either_opens d (first_arm p) a bs r s = refl
closed_either_opens d (later_arm t c p) a bs r s = closed_either_opens d t c (more_branches p a bs) r s ∙ simp append_assoc refl
