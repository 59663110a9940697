-- What stands open in a list of statements is closed by a word or two for each form, and four for a first branch.
use Rattle.std.proofs.Common.{◌≡◌, ℕ, zero, suc, ◌+◌, ◌*◌, ◌≤◌, List, ◌++◌, length, Option, None, Ok, refl, arith, codes}
use Rattle.tla_token.specs.declared.place.Place.{Place}
use Rattle.tla_token.specs.Places.{nowhere}
use Rattle.tla_tree.specs.Lexical.{Token}
use Rattle.pcal_tree.specs.GrammarParts.{Labels, no_labels, skip, key}
use Rattle.pcal_tree.specs.GrammarP.{Statement, simple, with, while, no_else, else_then, last_branch, Sequence, last_statement}
use Rattle.syntax_reading.proofs.BesideAround.{binds_deep}
use Rattle.syntax_reading.specs.TokenReaders.{Parts}
use Rattle.p_reading.specs.ReadStatements.{Before, Tests, if_test, elsif_test, first_arm, later_arm, in_then, in_else, in_either, in_with, in_while, Stack, bottom, inside, after_tests, depth, State, begin, ended, with_before, closed_if, closed_either, run, closing, rest, open_in}

-- a list is read up to the `end` after it
abbrev pub IsClosed : Parts → ℕ → State → List Token → Place → List Token → Type 0
IsClosed m n s us p ts = (ss : Sequence) × (run m n s (us ++ key p (codes "end") ts) ≡ Ok (ss, key p (codes "end") ts))

module _ (m : Parts) (p : Place) (ts : List Token) where
  closed_after : (st : Stack) (n : ℕ) → suc (length (closing st)) ≤ n → (b : Before) (ls : Labels) (a : Statement) (o : Option Place) → IsClosed m n (ended b ls a o st) (closing st) p ts
  closed_after st zero l b ls a o = absurd (omega (arith, l))
  closed_after bottom (suc n) l b ls a o = (with_before b (last_statement ls a o), refl)
  closed_after (inside (in_then t) c ms st) (suc n) l b ls a o = closed_after st n (omega (arith, l)) c ms (closed_if t (with_before b (last_statement ls a o)) no_else nowhere nowhere) None
  closed_after (inside (in_else t d q) c ms st) (suc n) l b ls a o = closed_after st n (omega (arith, l)) c ms (closed_if t d (else_then q (with_before b (last_statement ls a o))) nowhere nowhere) None
  closed_after (inside (in_either (first_arm q)) c ms st) (suc zero) l b ls a o = absurd (omega (arith, l))
  closed_after (inside (in_either (first_arm q)) c ms st) (suc (suc zero)) l b ls a o = absurd (omega (arith, l))
  closed_after (inside (in_either (first_arm q)) c ms st) (suc (suc (suc n))) l b ls a o =
      closed_after st n (omega (arith, l)) c ms (closed_either (first_arm q) (with_before b (last_statement ls a o)) (last_branch nowhere (last_statement no_labels (simple (skip nowhere)) None)) nowhere nowhere) None
  closed_after (inside (in_either (later_arm t d q)) c ms st) (suc n) l b ls a o = closed_after st n (omega (arith, l)) c ms (closed_either t d (last_branch q (with_before b (last_statement ls a o))) nowhere nowhere) None
  closed_after (inside (in_with q bs r) c ms st) (suc n) l b ls a o = closed_after st n (omega (arith, l)) c ms (with q bs r (with_before b (last_statement ls a o)) nowhere nowhere) None
  closed_after (inside (in_while q e r) c ms st) (suc n) l b ls a o = closed_after st n (omega (arith, l)) c ms (while q e r (with_before b (last_statement ls a o)) nowhere nowhere) None

pub closed_by_rest : (m : Parts) (n : ℕ) (s : State) (p : Place) (ts : List Token) → suc (length (rest s)) ≤ n → IsClosed m n s (rest s) p ts
closed_by_rest m zero s p ts l = absurd (omega (arith, l))
closed_by_rest m (suc n) (begin b ls st) p ts l = closed_after m p ts st n (omega (arith, l)) b ls (simple (skip nowhere)) None
closed_by_rest m (suc n) (ended b ls a o st) p ts l = closed_after m p ts st (suc n) l b ls a o

-- ---- how many words that are
pub tests_deep : (d : ℕ) (t : Tests) → d + 1 ≤ after_tests d t
tests_deep d (if_test p e q) = omega arith
tests_deep d (elsif_test t a p e q) = (let h = tests_deep d t in omega (arith, h))

pub few_closing : (st : Stack) → length (closing st) ≤ 4 * depth st
few_closing bottom = omega arith
few_closing (inside (in_then t) b ls st) = (let h = few_closing st in let i = tests_deep (depth st) t in omega (arith, h, i))
few_closing (inside (in_else t a p) b ls st) = (let h = few_closing st in let i = tests_deep (depth st) t in omega (arith, h, i))
few_closing (inside (in_either (first_arm p)) b ls st) = (let h = few_closing st in omega (arith, h))
few_closing (inside (in_either (later_arm t a p)) b ls st) = (let h = few_closing st in omega (arith, h))
few_closing (inside (in_with p bs q) b ls st) = (let h = few_closing st in let i = binds_deep (depth st) bs in omega (arith, h, i))
few_closing (inside (in_while p e q) b ls st) = (let h = few_closing st in omega (arith, h))

pub few_rest : (s : State) → length (rest s) ≤ 4 * open_in s + 1
few_rest (begin b ls st) = (let h = few_closing st in omega (arith, h))
few_rest (ended b ls a o st) = (let h = few_closing st in omega (arith, h))
