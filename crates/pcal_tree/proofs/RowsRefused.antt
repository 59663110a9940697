-- Worked examples of algorithms that are refused at a token.
use Rattle.std.proofs.Common.{ℕ, ◌+◌, List, [], ◌∷◌, ◌++◌, take, drop, true, Some, None, refl, arith, inr, codes}
use Rattle.tla_token.specs.declared.rule.Rule.TheVariants.{Syntax}
use Rattle.tla_token.specs.declared.sign.Sign.TheVariants as sign
use Rattle.tla_token.specs.Lexemes.{name, number, one}
use Rattle.tla_token.specs.Tokens.{Token}
use Rattle.tla_tree.specs.declared.op.Op.TheVariants as op
use Rattle.tla_tree.specs.Spelling.{Phrase}
use Rattle.tla_tree.specs.Spelling as spelled
use Rattle.tla_tree.specs.Reader.{readers, readers_in}
use Rattle.tla_tree.specs.FirstStop.{to_end, Begins, Passes}
use Rattle.tla_tree.proofs.StopLaws.{passes_begins}
use Rattle.pcal_tree.specs.AlgorithmTokens.{views}
use Rattle.pcal_tree.specs.GrammarParts as part
use Rattle.pcal_tree.specs.GrammarP as psyntax
use Rattle.pcal_tree.specs.Grammar.{Text, p_syntax, c_syntax}
use Rattle.pcal_tree.specs.Grammar as text
use Rattle.pcal_tree.specs.OpenForms.{opens}
use Rattle.pcal_tree.specs.OffencesSyntax.{algorithms, RefusesTokens}
use Rattle.pcal_tree.proofs.AfterSignsAll.{begins_none}
use Rattle.pcal_tree.proofs.AfterColonsAll.{no_expression_begins}
use Rattle.pcal_tree.proofs.RowsPrinted.{at, n, token, p_front, c_front, open_sum_passes, open_assignment_passes}

-- ---- `A: x := (x + ;` is refused at the semicolon

abbrev bad_sum : List Token
bad_sum =
    p_front ++ (token 4 6 (name (codes "x")) ∷ token 4 8 (one sign.Assign) ∷ token 4 11 (one sign.OpenRound) ∷ token 4 12 (name (codes "x")) ∷ token 4 14 (one sign.Plus)
    ∷ token 4 16 (one sign.Semicolon) ∷ token 5 1 (name (codes "end")) ∷ token 5 5 (name (codes "algorithm")) ∷ [])

no_such_sum : Begins (algorithms p_syntax) (take 16 (to_end (views bad_sum))) → ⊥
no_such_sum b = begins_none p_syntax (take 16 (views bad_sum)) (λ more. refl) b

sum_refused : RefusesTokens p_syntax bad_sum (at 6 1) (record { rule = Syntax; place = at 4 16 })
sum_refused = record {
  passed = 15;
  stops = record { there = omega arith; passed = open_sum_passes; stopped = λ p. no_such_sum (passes_begins (algorithms p_syntax) (take 16 (to_end (views bad_sum))) p); rule = inr (refl, no_such_sum) };
  place = refl;
}

-- ---- `A: x := ;` in C is refused at the semicolon

abbrev bad_assignment : List Token
bad_assignment =
    c_front ++ (token 4 6 (name (codes "x")) ∷ token 4 8 (one sign.Assign) ∷ token 4 11 (one sign.Semicolon) ∷ token 5 1 (one sign.CloseCurly) ∷ token 6 1 (one sign.CloseCurly) ∷ [])

no_such_assignment : Begins (algorithms c_syntax) (take 14 (to_end (views bad_assignment))) → ⊥
no_such_assignment b = begins_none c_syntax (take 14 (views bad_assignment)) (λ more. refl) b

assignment_refused : RefusesTokens c_syntax bad_assignment (at 7 1) (record { rule = Syntax; place = at 4 11 })
assignment_refused = record {
  passed = 13;
  stops = record { there = omega arith; passed = open_assignment_passes; stopped = λ p. no_such_assignment (passes_begins (algorithms c_syntax) (take 14 (to_end (views bad_assignment))) p); rule = inr (refl, no_such_assignment) };
  place = refl;
}

-- ---- two in a module, whose comment begins on line 3

-- up to the colon of `A:`
abbrev front : List Token
front =
    token 4 1 (name (codes "--algorithm")) ∷ token 4 13 (name (codes "Two"))
    ∷ token 5 1 (name (codes "variables")) ∷ token 5 11 (name (codes "x")) ∷ token 5 13 (one sign.Equal) ∷ token 5 15 (number 1) ∷ token 5 16 (one sign.Comma)
    ∷ token 5 18 (name (codes "y")) ∷ token 5 20 (one sign.Equal) ∷ token 5 22 (number 0) ∷ token 5 23 (one sign.Semicolon)
    ∷ token 6 1 (name (codes "begin")) ∷ token 7 3 (name (codes "A")) ∷ token 7 4 (one sign.Colon) ∷ []

abbrev with_statement : psyntax.Statement → Text
with_statement s = record {
  head = text.algorithm (at 4 1);
  name = n 4 13 (codes "Two");
  around = text.to_end (at 9 1) (at 9 5);
  variables = part.section (at 5 1) true (part.variable (n 5 11 (codes "x")) (part.equals (at 5 13) (spelled.number (at 5 15) 1)) (part.by_comma (at 5 16))
      (part.last_variable (n 5 18 (codes "y")) (part.equals (at 5 20) (spelled.number (at 5 22) 0)) (Some (part.by_semicolon (at 5 23)))));
  define = text.no_define;
  macros = [];
  procedures = [];
  main = text.begin (at 6 1) (psyntax.last_statement (part.label (n 7 3 (codes "A")) (part.colon (at 7 4)) part.no_labels) s None);
}

-- `x > 0` and the like on line 7
abbrev above_zero : List ℕ → ℕ → Phrase
above_zero w k = spelled.infix_of (spelled.name (at 7 k) w) (at 7 (k + 2)) op.Greater (spelled.number (at 7 (k + 4)) 0)

-- `A: if x > 0 y := 1;`, where a `then` is left out, is refused at `y`
abbrev no_then : List Token
no_then =
    front ++ (token 7 6 (name (codes "if")) ∷ token 7 9 (name (codes "x")) ∷ token 7 11 (one sign.Greater) ∷ token 7 13 (number 0)
    ∷ token 7 15 (name (codes "y")) ∷ token 7 17 (one sign.Assign) ∷ token 7 20 (number 1) ∷ token 7 21 (one sign.Semicolon)
    ∷ token 8 3 (name (codes "end")) ∷ token 8 7 (name (codes "if")) ∷ token 8 9 (one sign.Semicolon) ∷ token 9 1 (name (codes "end")) ∷ token 9 5 (name (codes "algorithm")) ∷ [])

abbrev up_to_then : Text
up_to_then = with_statement (psyntax.branch (at 7 6) (above_zero (codes "x") 9) (at 7 15) (psyntax.last_statement part.no_labels (psyntax.simple (part.skip (at 7 20))) None) psyntax.no_else (at 8 3) (at 8 7))

up_to_then_passes : Passes (algorithms p_syntax) (take 18 (to_end (views no_then)))
up_to_then_passes = (drop 18 (to_end (text.spell up_to_then [])), opens up_to_then, (up_to_then, search, refl, refl), refl)

no_such_if : Begins (algorithms p_syntax) (take 19 (to_end (views no_then))) → ⊥
unfolding readers_in
no_such_if b = no_expression_begins 20 (take 19 (views no_then)) (drop 15 (take 19 (views no_then))) (λ more so. so.0) (λ m more. refl) b

no_then_refused : RefusesTokens p_syntax no_then (at 10 1) (record { rule = Syntax; place = at 7 15 })
no_then_refused = record {
  passed = 18;
  stops = record { there = omega arith; passed = up_to_then_passes; stopped = λ p. no_such_if (passes_begins (algorithms p_syntax) (take 19 (to_end (views no_then))) p); rule = inr (refl, no_such_if) };
  place = refl;
}

-- `A: await /\ x > 0 \/ y > 0` with `/\ x < 5;` under it, one column to the right of the first bullet, is refused at the second `/\`
abbrev slanted : List Token
slanted =
    front ++ (token 7 6 (name (codes "await")) ∷ token 7 12 (one sign.And) ∷ token 7 15 (name (codes "x")) ∷ token 7 17 (one sign.Greater) ∷ token 7 19 (number 0)
    ∷ token 7 21 (one sign.Or) ∷ token 7 24 (name (codes "y")) ∷ token 7 26 (one sign.Greater) ∷ token 7 28 (number 0)
    ∷ token 8 13 (one sign.And) ∷ token 8 16 (name (codes "x")) ∷ token 8 18 (one sign.Less) ∷ token 8 20 (number 5) ∷ token 8 21 (one sign.Semicolon)
    ∷ token 9 1 (name (codes "end")) ∷ token 9 5 (name (codes "algorithm")) ∷ [])

abbrev up_to_bullet : Text
up_to_bullet = with_statement (psyntax.simple (part.await (at 7 6) (spelled.list op.And (spelled.last_bullet (at 7 12) (spelled.infix_of (above_zero (codes "x") 15) (at 7 21) op.Or (above_zero (codes "y") 24))))))

up_to_bullet_passes : Passes (algorithms p_syntax) (take 23 (to_end (views slanted)))
up_to_bullet_passes = (drop 23 (to_end (text.spell up_to_bullet [])), opens up_to_bullet, (up_to_bullet, search, refl, refl), refl)

no_such_list : Begins (algorithms p_syntax) (take 24 (to_end (views slanted))) → ⊥
unfolding readers_in
no_such_list b = no_expression_begins 20 (take 24 (views slanted)) (drop 15 (take 24 (views slanted))) (λ more so. so.0) (λ m more. refl) b

slanted_refused : RefusesTokens p_syntax slanted (at 10 1) (record { rule = Syntax; place = at 8 13 })
slanted_refused = record {
  passed = 23;
  stops = record { there = omega arith; passed = up_to_bullet_passes; stopped = λ p. no_such_list (passes_begins (algorithms p_syntax) (take 24 (to_end (views slanted))) p); rule = inr (refl, no_such_list) };
  place = refl;
}
