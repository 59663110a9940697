-- Worked examples of algorithms that are refused where too many forms are open: at the 201st bracket, and at the 101st `if`.
use Rattle.std.proofs.Common.{◌≡◌, ℕ, zero, suc, ◌+◌, ◌≤◌, List, [], ◌∷◌, ◌++◌, length, take, drop, true, false, Some, None, refl, arith, inl, codes}
use Rattle.std.specs.List.{AllByRecursion}
use Rattle.std.proofs.lemmas.Bool.{lt-ltb}
use Rattle.tla_token.specs.declared.place.Place.{Place}
use Rattle.tla_token.specs.declared.rule.Rule.TheVariants.{TooDeep}
use Rattle.tla_token.specs.declared.sign.Sign.TheVariants as sign
use Rattle.tla_token.specs.Lexemes.{name, number, one}
use Rattle.tla_token.specs.Tokens.{Token}
use Rattle.tla_tree.specs.declared.op.Op.TheVariants as op
use Rattle.tla_tree.specs.Lexical as tk
use Rattle.tla_tree.specs.Spelling.{Phrase, Good}
use Rattle.tla_tree.specs.Spelling as spelled
use Rattle.tla_tree.specs.FirstStop.{Look, look, looks, to_end, Begins, Passes}
use Rattle.pcal_tree.specs.AlgorithmTokens.{view, views}
use Rattle.pcal_tree.specs.GrammarParts as part
use Rattle.pcal_tree.specs.GrammarP as psyntax
use Rattle.pcal_tree.specs.GrammarC as csyntax
use Rattle.pcal_tree.specs.Grammar.{Text, p_syntax, c_syntax}
use Rattle.pcal_tree.specs.Grammar as text
use Rattle.pcal_tree.specs.OpenForms.{opens}
use Rattle.pcal_tree.specs.OffencesSyntax.{algorithms, RefusesTokens}
use Rattle.pcal_tree.proofs.RowsPrinted.{at, n, token}
use Rattle.pcal_tree.specs.laws.DeepForms.{assigned, head_word, Head, FineHead, heads, is_before}
use Rattle.pcal_tree.proofs.DeepLaws.{too_many_brackets, too_many_heads}

-- so many tokens begin a list if that many are taken from it
at_least : {A : Type 0} (k : ℕ) (xs : List A) → length (take k xs) ≡ k → k ≤ length xs
at_least zero xs e = omega arith
at_least (suc k) [] e = absurd (omega arith)
at_least (suc k) (x ∷ xs) e = (let h = at_least k xs (omega arith) in omega arith)

-- ---- algorithms with one statement, labelled A on line 7

abbrev variable_tokens : List Token
variable_tokens = token 5 1 (name (codes "variables")) ∷ token 5 11 (name (codes "x")) ∷ token 5 13 (one sign.Equal) ∷ token 5 15 (number 0) ∷ token 5 16 (one sign.Semicolon) ∷ []

abbrev p_start : List Token
p_start = token 4 1 (name (codes "--algorithm")) ∷ token 4 13 (name (codes "R")) ∷ (variable_tokens ++ (token 6 1 (name (codes "begin")) ∷ token 7 3 (name (codes "A")) ∷ []))

abbrev c_start : List Token
c_start = token 4 1 (name (codes "--algorithm")) ∷ token 4 13 (name (codes "R")) ∷ token 4 15 (one sign.OpenCurly) ∷ (variable_tokens ++ (token 6 1 (one sign.OpenCurly) ∷ token 7 3 (name (codes "A")) ∷ []))

abbrev colon : Token
colon = token 7 4 (one sign.Colon)

abbrev labels : part.Labels
labels = part.label (n 7 3 (codes "A")) (part.colon (at 7 4)) part.no_labels

abbrev text_of : text.Around → text.Main → Text
text_of r m = record {
  head = text.algorithm (at 4 1);
  name = n 4 13 (codes "R");
  around = r;
  variables = part.section (at 5 1) true (part.last_variable (n 5 11 (codes "x")) (part.equals (at 5 13) (spelled.number (at 5 15) 0)) (Some (part.by_semicolon (at 5 16))));
  define = text.no_define;
  macros = [];
  procedures = [];
  main = m;
}

abbrev p_text : psyntax.Statement → Text
p_text s = text_of (text.to_end (at 8 1) (at 8 5)) (text.begin (at 6 1) (psyntax.last_statement labels s None))

abbrev c_text : csyntax.Statement → Text
c_text s = text_of (text.in_braces (at 4 15) (at 8 1)) (text.block (at 6 1) (csyntax.last_statement (csyntax.labelled labels s) None) (at 8 1) None)

-- ---- 201 brackets

abbrev brackets : ℕ → ℕ → List Token → List Token
brackets zero c ts = ts
brackets (suc k) c ts = token 7 c (one sign.OpenRound) ∷ brackets k (suc c) ts

-- `A: x := ((..`, with 201 brackets, whatever comes then
abbrev deep_sum : List Token → List Token
deep_sum more = p_start ++ (colon ∷ token 7 6 (name (codes "x")) ∷ token 7 8 (one sign.Assign) ∷ brackets 201 11 more)

-- k brackets round a name
abbrev bracketed : ℕ → ℕ → Phrase
bracketed zero c = spelled.name (at 7 c) (codes "x")
bracketed (suc k) c = spelled.brackets (at 7 c) (bracketed k (suc c)) (at 8 5)

good_bracketed : (k c : ℕ) → 1 ≤ c → Good 0 (bracketed k c)
good_bracketed zero c h = lt-ltb 0 c h
good_bracketed (suc k) c h = (lt-ltb 0 c h, good_bracketed k (suc c) (omega arith), refl)

abbrev completed : ℕ → Text
completed k = p_text (psyntax.simple (part.assign (part.last_assignment (spelled.name (at 7 6) (codes "x")) (at 7 8) (bracketed k 11))))

good_completed : (k : ℕ) → text.Good p_syntax (completed k)
good_completed k = (tt, refl, tt, tt, tt, (refl, refl, good_bracketed k 11 (omega arith)))

enough_brackets : (more : List Token) → Passes (algorithms p_syntax) (take 212 (to_end (views (deep_sum more))))
enough_brackets more = (drop 212 (to_end (text.spell (completed 200) [])), opens (completed 200), (completed 200, good_completed 200, refl, refl), refl)

one_more_begins : (more : List Token) → Begins (algorithms p_syntax) (take 213 (to_end (views (deep_sum more))))
one_more_begins more = (drop 213 (to_end (text.spell (completed 201) [])), opens (completed 201), (completed 201, good_completed 201, refl, refl))

abbrev before_assign : List Look
before_assign = looks (views (p_start ++ (colon ∷ token 7 6 (name (codes "x")) ∷ [])))

abbrev columns : ℕ → ℕ → List ℕ
columns zero c = []
columns (suc k) c = c ∷ columns k (suc c)

some_brackets : assigned 8 (columns 2 11) ≡ looks (views (token 7 8 (one sign.Assign) ∷ brackets 2 11 []))
some_brackets = refl

one_too_many : (more : List Token) → Passes (algorithms p_syntax) (take 213 (to_end (views (deep_sum more)))) → ⊥
one_too_many more p = (let l : length (columns 200 11) ≡ 200 = refl in too_many_brackets p_syntax before_assign 8 211 (columns 200 11) (omega arith) p)

pub deep_sum_refused : (more : List Token) (end : Place) → RefusesTokens p_syntax (deep_sum more) end (record { rule = TooDeep; place = at 7 211 })
deep_sum_refused more end = record {
  passed = 212;
  stops = record { there = (let l = at_least 213 (to_end (views (deep_sum more))) refl in omega arith); passed = enough_brackets more; stopped = one_too_many more; rule = inl (refl, one_more_begins more) };
  place = refl;
}

-- ---- 101 times `if` in P-syntax

-- `x > 0` on a line
abbrev above_zero : ℕ → ℕ → Phrase
above_zero l c = spelled.infix_of (spelled.name (at l c) (codes "x")) (at l (c + 2)) op.Greater (spelled.number (at l (c + 4)) 0)

-- `if x > 0 then` on k lines from this one on
abbrev p_ifs : ℕ → ℕ → List Token → List Token
p_ifs zero l ts = ts
p_ifs (suc k) l ts = token l 6 (name (codes "if")) ∷ token l 9 (name (codes "x")) ∷ token l 11 (one sign.Greater) ∷ token l 13 (number 0) ∷ token l 15 (name (codes "then")) ∷ p_ifs k (suc l) ts

abbrev deep_if : List Token → List Token
deep_if more = p_start ++ (colon ∷ p_ifs 100 7 (token 107 6 (name (codes "if")) ∷ more))

abbrev p_nested : ℕ → ℕ → psyntax.Statement
p_nested zero l = psyntax.simple (part.skip (at l 6))
p_nested (suc k) l = psyntax.branch (at l 6) (above_zero l 9) (at l 15) (psyntax.last_statement part.no_labels (p_nested k (suc l)) None) psyntax.no_else (at 8 1) (at 8 5)

good_above : (l : ℕ) → Good 0 (above_zero l 9)
good_above l = search

good_p_nested : (k l : ℕ) → psyntax.GoodStatement (p_nested k l)
good_p_nested zero l = tt
good_p_nested (suc k) l = (good_above l, good_p_nested k (suc l), tt)

good_p_text : (k : ℕ) → text.Good p_syntax (p_text (p_nested k 7))
good_p_text k = (tt, refl, tt, tt, tt, good_p_nested k 7)

abbrev p_head : Head
p_head = record { is_while = false; column = 6; inner = (tk.word (codes "x"), 9) ∷ (tk.sign op.Greater, 11) ∷ (tk.number 0, 13) ∷ []; last = (tk.reserved (codes "then"), 15) }

abbrev same_heads : Head → ℕ → List Head
same_heads h zero = []
same_heads h (suc k) = h ∷ same_heads h k

fine_heads : (h : Head) (k : ℕ) → FineHead h → AllByRecursion FineHead (same_heads h k)
fine_heads h zero f = tt
fine_heads h (suc k) f = (f, fine_heads h k f)

-- the same words as the law has
some_heads : heads (p_head ∷ record p_head { is_while = true; last = (tk.reserved (codes "do"), 18) } ∷ []) (head_word true 6 ∷ []) ≡ looks (views (p_ifs 1 7 (
    token 8 6 (name (codes "while")) ∷ token 8 9 (name (codes "x")) ∷ token 8 11 (one sign.Greater) ∷ token 8 13 (number 0) ∷ token 8 18 (name (codes "do")) ∷ token 9 6 (name (codes "while")) ∷ [])))
some_heads = refl

behind_colon : is_before (view colon).kind ≡ true
behind_colon = refl

behind_end : is_before (tk.reserved (codes "end")) ≡ false
behind_end = refl

enough_ifs : (more : List Token) → Passes (algorithms p_syntax) (take 510 (to_end (views (deep_if more))))
enough_ifs more = (drop 510 (to_end (text.spell (p_text (p_nested 100 7)) [])), opens (p_text (p_nested 100 7)), (p_text (p_nested 100 7), good_p_text 100, refl, refl), refl)

one_more_if : (more : List Token) → Begins (algorithms p_syntax) (take 511 (to_end (views (deep_if more))))
one_more_if more = (drop 511 (to_end (text.spell (p_text (p_nested 101 7)) [])), opens (p_text (p_nested 101 7)), (p_text (p_nested 101 7), good_p_text 101, refl, refl))

one_if_too_many : (more : List Token) → Passes (algorithms p_syntax) (take 511 (to_end (views (deep_if more)))) → ⊥
one_if_too_many more p = (let l : length (same_heads p_head 100) ≡ 100 = refl in too_many_heads p_syntax (looks (views p_start)) (look (view colon)) (same_heads p_head 100) false 6 refl (fine_heads p_head 100 (refl, refl)) (omega arith) p)

pub deep_if_refused : (more : List Token) (end : Place) → RefusesTokens p_syntax (deep_if more) end (record { rule = TooDeep; place = at 107 6 })
deep_if_refused more end = record {
  passed = 510;
  stops = record { there = (let l = at_least 511 (to_end (views (deep_if more))) refl in omega arith); passed = enough_ifs more; stopped = one_if_too_many more; rule = inl (refl, one_more_if more) };
  place = refl;
}

-- ---- 101 times `if` in C-syntax

-- `if (x > 0)` on k lines from this one on
abbrev c_ifs : ℕ → ℕ → List Token → List Token
c_ifs zero l ts = ts
c_ifs (suc k) l ts =
    token l 6 (name (codes "if")) ∷ token l 9 (one sign.OpenRound) ∷ token l 10 (name (codes "x")) ∷ token l 12 (one sign.Greater) ∷ token l 14 (number 0) ∷ token l 15 (one sign.CloseRound) ∷ c_ifs k (suc l) ts

abbrev deep_c_if : List Token → List Token
deep_c_if more = c_start ++ (colon ∷ c_ifs 100 7 (token 107 6 (name (codes "if")) ∷ more))

abbrev c_nested : ℕ → ℕ → csyntax.Statement
c_nested zero l = csyntax.simple (part.skip (at l 6))
c_nested (suc k) l = csyntax.branch (at l 6) (at l 9) (above_zero l 10) (at l 15) (csyntax.labelled part.no_labels (c_nested k (suc l))) csyntax.no_else

good_above_in_brackets : (l : ℕ) → Good 0 (above_zero l 10)
good_above_in_brackets l = search

good_c_nested : (k l : ℕ) → csyntax.GoodStatement (c_nested k l)
good_c_nested zero l = tt
good_c_nested (suc k) l = (good_above_in_brackets l, good_c_nested k (suc l), tt)

good_c_text : (k : ℕ) → text.Good c_syntax (c_text (c_nested k 7))
good_c_text k = (tt, refl, tt, tt, tt, good_c_nested k 7)

enough_c_ifs : (more : List Token) → Passes (algorithms c_syntax) (take 611 (to_end (views (deep_c_if more))))
enough_c_ifs more = (drop 611 (to_end (text.spell (c_text (c_nested 100 7)) [])), opens (c_text (c_nested 100 7)), (c_text (c_nested 100 7), good_c_text 100, refl, refl), refl)

one_more_c_if : (more : List Token) → Begins (algorithms c_syntax) (take 612 (to_end (views (deep_c_if more))))
one_more_c_if more = (drop 612 (to_end (text.spell (c_text (c_nested 101 7)) [])), opens (c_text (c_nested 101 7)), (c_text (c_nested 101 7), good_c_text 101, refl, refl))

abbrev c_head : Head
c_head = record { is_while = false; column = 6; inner = (tk.mark tk.open_bracket, 9) ∷ (tk.word (codes "x"), 10) ∷ (tk.sign op.Greater, 12) ∷ (tk.number 0, 14) ∷ []; last = (tk.mark tk.close_bracket, 15) }

one_c_if_too_many : (more : List Token) → Passes (algorithms c_syntax) (take 612 (to_end (views (deep_c_if more)))) → ⊥
one_c_if_too_many more p = (let l : length (same_heads c_head 100) ≡ 100 = refl in too_many_heads c_syntax (looks (views c_start)) (look (view colon)) (same_heads c_head 100) false 6 refl (fine_heads c_head 100 (refl, refl)) (omega arith) p)

pub deep_c_if_refused : (more : List Token) (end : Place) → RefusesTokens c_syntax (deep_c_if more) end (record { rule = TooDeep; place = at 107 6 })
deep_c_if_refused more end = record {
  passed = 611;
  stops = record { there = (let l = at_least 612 (to_end (views (deep_c_if more))) refl in omega arith); passed = enough_c_ifs more; stopped = one_c_if_too_many more; rule = inl (refl, one_more_c_if more) };
  place = refl;
}
