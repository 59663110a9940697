-- Worked examples of where reading an expression stops.
use Rattle.std.proofs.Common.{◌≡◌, ◌≤◌, ℕ, zero, suc, List, [], ◌∷◌, length, take, map, Option, Some, refl, arith, inl, inr, codes, drop}
use Rattle.tla_token.specs.declared.place.Place.{Place}
use Rattle.tla_token.specs.declared.rule.Rule.TheVariants.{Syntax, TooDeep}
use Rattle.tla_tree.specs.declared.op.Op.{Op}
use Rattle.tla_tree.specs.declared.op.Op.TheVariants as op
use Rattle.tla_tree.specs.Tree.{Tree}
use Rattle.tla_tree.specs.Lexical.{Mark, Token, token}
use Rattle.tla_tree.specs.Lexical as tk
use Rattle.tla_tree.specs.Spelling.{Phrase, Good, tree_of}
use Rattle.tla_tree.specs.Spelling as spelled
use Rattle.tla_tree.specs.Reader.{readers, readers_in}
use Rattle.tla_tree.specs.Nesting.{counts}
use Rattle.tla_tree.specs.FirstStop.{Look, looks, to_end, Begins, Passes, StopsAt, phrases, in_expression, ReadsExpression, RefusesExpression}
use Rattle.tla_tree.proofs.AlikeEndsSteps.{refused_after_none}
use Rattle.tla_tree.proofs.StopLaws.{begins_none, passes_begins, stops_by_one_rule}
use Rattle.tla_tree.proofs.BracketCounts.{too_many_brackets}
use Rattle.tla_tree.proofs.Completed.{completed_there}
use Rattle.std.proofs.lemmas.Bool.{lt-ltb}

abbrev pub at : ℕ → Place
at c = record { line = 7; col = c }

abbrev pub w : ℕ → Token
w c = token (at c) (tk.word (codes "a"))

abbrev pub s : ℕ → Op → Token
s c o = token (at c) (tk.sign o)

abbrev pub m : ℕ → Mark → Token
m c k = token (at c) (tk.mark k)

abbrev pub name : ℕ → Phrase
name c = spelled.name (at c) (codes "a")

-- ---- `(a + ;` is refused at the semicolon

abbrev opened : List Token
opened = m 11 tk.open_bracket ∷ w 12 ∷ s 14 op.Plus ∷ m 16 tk.semicolon ∷ []

abbrev closed_sum : Phrase
closed_sum = spelled.brackets (at 11) (spelled.infix_of (name 12) (at 14) op.Plus (name 16)) (at 17)

begins_so_far : Passes (phrases 0) (take 3 (to_end opened))
begins_so_far = (map Some (looks (w 16 ∷ m 17 tk.close_bracket ∷ [])), map in_expression (counts 0 closed_sum []), (closed_sum, search, refl, refl), refl)

none_with_semicolon : Begins (phrases 0) (take 4 (to_end opened)) → ⊥
unfolding readers_in
none_with_semicolon b = begins_none 0 12 opened (λ m more. refl) b

no_expression : (t : Tree) → ReadsExpression opened 3 t → ⊥
unfolding readers_in
no_expression t r = refused_after_none 0 (take 3 opened) (drop 3 opened) Syntax refl r.spelled.0 r.spelled.1 r.spelled.2

opened_stops : StopsAt (phrases 0) (to_end opened) 3 Syntax
opened_stops = record { there = omega arith; passed = begins_so_far; stopped = λ p. none_with_semicolon (passes_begins (phrases 0) (take 4 (to_end opened)) p); rule = inr (refl, none_with_semicolon) }

refused : RefusesExpression opened (at 40) (record { rule = Syntax; place = at 16 })
refused = record {
  passed = 3;
  stops = opened_stops;
  place = refl;
  unread = no_expression;
  completed = completed_there opened 3 Syntax opened_stops;
}

-- ---- of `a /\ a \/ a` what is before the second operator is read

abbrev mixed : List Token
mixed = w 1 ∷ s 3 op.And ∷ w 6 ∷ s 8 op.Or ∷ w 11 ∷ []

abbrev both : Phrase
both = spelled.infix_of (name 1) (at 3) op.And (name 6)

reads_both : Passes (phrases 0) (take 3 (to_end mixed))
reads_both = (map Some (looks []), map in_expression (counts 0 both []), (both, search, refl, refl), refl)

none_with_or : Begins (phrases 0) (take 4 (to_end mixed)) → ⊥
unfolding readers_in
none_with_or b = begins_none 0 12 (take 4 mixed) (λ m more. refl) b

read_before : ReadsExpression mixed 3 (tree_of both)
read_before = record {
  stops = record { there = omega arith; passed = reads_both; stopped = λ p. none_with_or (passes_begins (phrases 0) (take 4 (to_end mixed)) p); rule = inr (refl, none_with_or) };
  spelled = (both, search, refl, refl);
}

-- ---- of 201 brackets the last one is too many: 7:211 where the first is at 7:11

abbrev brackets_from : ℕ → ℕ → List Token
brackets_from zero c = []
brackets_from (suc k) c = m c tk.open_bracket ∷ brackets_from k (suc c)

-- k brackets round a name
abbrev nested : ℕ → ℕ → Phrase
nested zero c = name 5
nested (suc k) c = spelled.brackets (at c) (nested k (suc c)) (at 5)

good_nested : (k c : ℕ) → 1 ≤ c → Good 0 (nested k c)
good_nested zero c h = refl
good_nested (suc k) c h = (lt-ltb 0 c h, good_nested k (suc c) (omega arith), refl)

abbrev after_brackets : ℕ → List (Option Look)
after_brackets zero = []
after_brackets (suc k) = Some (tk.mark tk.close_bracket, 5) ∷ after_brackets k

enough_brackets : Passes (phrases 0) (take 200 (to_end (brackets_from 201 11)))
enough_brackets = (Some (tk.word (codes "a"), 5) ∷ after_brackets 200, map in_expression (counts 0 (nested 200 11) []), (nested 200 11, good_nested 200 11 (omega arith), refl, refl), refl)

one_more_begins : Begins (phrases 0) (take 201 (to_end (brackets_from 201 11)))
one_more_begins = (Some (tk.word (codes "a"), 5) ∷ after_brackets 201, map in_expression (counts 0 (nested 201 11) []), (nested 201 11, good_nested 201 11 (omega arith), refl, refl))

one_too_many : Passes (phrases 0) (take 201 (to_end (brackets_from 201 11))) → ⊥
one_too_many p = too_many_brackets 0 11 201 (omega arith) p

brackets_stop : StopsAt (phrases 0) (to_end (brackets_from 201 11)) 200 TooDeep
brackets_stop = record { there = (let l : length (to_end (brackets_from 201 11)) ≡ 202 = refl in omega arith); passed = enough_brackets; stopped = one_too_many; rule = inl (refl, one_more_begins) }

brackets_unread : (t : Tree) → ReadsExpression (brackets_from 201 11) 200 t → ⊥
brackets_unread t r = (let e : Syntax ≡ TooDeep = stops_by_one_rule (phrases 0) (to_end (brackets_from 201 11)) 200 200 Syntax TooDeep r.stops brackets_stop in cc)

brackets_refused : RefusesExpression (brackets_from 201 11) (at 212) (record { rule = TooDeep; place = at 211 })
brackets_refused = record { passed = 200; stops = brackets_stop; place = refl; unread = brackets_unread; completed = completed_there (brackets_from 201 11) 200 TooDeep brackets_stop }
