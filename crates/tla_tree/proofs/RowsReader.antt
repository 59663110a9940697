-- Worked rows of reading, by computation.
use Rattle.std.proofs.Common.{◌≡◌, refl, ℕ, true, ap, List, [], ◌∷◌, map, Some, Ok, Err, codes}
use Rattle.tla_token.specs.declared.place.Place.{Place}
use Rattle.tla_token.specs.declared.rule.Rule.TheVariants.{Syntax}
use Rattle.tla_tree.specs.declared.op.Op.{Op}
use Rattle.tla_tree.specs.declared.op.Op.TheVariants as op
use Rattle.tla_tree.specs.Lexical.{Mark, Key, TokenView, Token, token}
use Rattle.tla_tree.specs.Lexical as tk
use Rattle.tla_tree.specs.Spelling.{Phrase}
use Rattle.tla_tree.specs.Spelling as spelled
use Rattle.tla_tree.specs.Reader.{read, readers, readers_in}
use Rattle.tla_tree.specs.Nesting.{counts}
use Rattle.tla_tree.specs.FirstStop.{looks, Begins, Passes, phrases, in_expression}
use Rattle.tla_tree.specs.laws.Columns.{lineless}

abbrev pub at : ℕ → Place
at c = record { line = 1; col = c }

abbrev pub w : ℕ → Token
w c = token (at c) (tk.word (codes "a"))

abbrev pub s : ℕ → Op → Token
s c o = token (at c) (tk.sign o)

abbrev pub m : ℕ → Mark → Token
m c k = token (at c) (tk.mark k)

abbrev pub k : ℕ → Key → Token
k c x = token (at c) (tk.key x)

abbrev name : ℕ → Phrase
name c = spelled.name (at c) (codes "a")

-- `/\ a`, and `/\ /\ /\ a`: each bullet takes more than one step
one_bullet : read 0 (s 1 op.And ∷ w 4 ∷ []) ≡ Ok (spelled.list op.And (spelled.last_bullet (at 1) (name 4)), [])
unfolding readers_in
one_bullet = refl

three_bullets : read 0 (s 1 op.And ∷ s 4 op.And ∷ s 7 op.And ∷ w 10 ∷ [])
    ≡ Ok (spelled.list op.And (spelled.last_bullet (at 1) (spelled.list op.And (spelled.last_bullet (at 4) (spelled.list op.And (spelled.last_bullet (at 7) (name 10)))))), [])
unfolding readers_in
three_bullets = refl

-- `CASE a -> CASE a -> a [] OTHER -> a [] a -> a`: the last `[]` belongs to no CASE, since the nearest has its OTHER
after_other : read 0 (k 1 tk.case_key ∷ w 6 ∷ m 8 tk.arrow ∷ k 11 tk.case_key ∷ w 16 ∷ m 18 tk.arrow ∷ w 21 ∷ m 23 tk.box ∷ k 26 tk.other_key ∷ m 32 tk.arrow ∷ w 35 ∷ m 37 tk.box ∷ w 40 ∷ m 42 tk.arrow ∷ w 45 ∷ [])
    ≡ Ok (spelled.cases (at 1) (spelled.last_arm (name 6) (at 8) (spelled.cases (at 11) (spelled.other_arm (name 16) (at 18) (name 21) (at 23) (at 26) (at 32) (name 35)))), m 37 tk.box ∷ w 40 ∷ m 42 tk.arrow ∷ w 45 ∷ [])
unfolding readers_in
after_other = refl

-- names that share a set, and definitions of one LET
shared : read 0 (k 1 tk.for_all_key ∷ w 4 ∷ m 5 tk.comma ∷ w 7 ∷ s 9 op.In ∷ w 13 ∷ m 15 tk.colon ∷ w 17 ∷ [])
    ≡ Ok (spelled.quantified true (at 1) (spelled.share (at 4) (codes "a") (at 5) (spelled.last_bind (at 7) (codes "a") (at 9) (name 13))) (at 15) (name 17), [])
unfolding readers_in
shared = refl

two_definitions : read 0 (k 1 tk.let_key ∷ w 5 ∷ m 7 tk.defines ∷ w 10 ∷ w 12 ∷ m 14 tk.defines ∷ w 17 ∷ k 19 tk.in_key ∷ w 22 ∷ [])
    ≡ Ok (spelled.local (at 1) (spelled.more_locals (at 5) (codes "a") (at 7) (name 10) (spelled.last_local (at 12) (codes "a") (at 14) (name 17))) (at 19) (name 22), [])
unfolding readers_in
two_definitions = refl

-- in `a /\ a \/ a` the second operator goes on nothing, being neither above nor below the first
mixed : read 0 (w 1 ∷ s 3 op.And ∷ w 6 ∷ s 8 op.Or ∷ w 11 ∷ []) ≡ Ok (spelled.infix_of (name 1) (at 3) op.And (name 6), s 8 op.Or ∷ w 11 ∷ [])
unfolding readers_in
mixed = refl

-- `a +` is refused after its last token
unfinished : read 0 (w 1 ∷ s 3 op.Plus ∷ []) ≡ Err (Syntax, [])
unfolding readers_in
unfinished = refl

-- ---- kinds and columns
-- `a` in another line looks the same, and in another column it does not
other_line : looks (token (record { line = 7; col = 1 }) (tk.word (codes "a")) ∷ []) ≡ looks (w 1 ∷ [])
other_line = refl

abbrev first_col : List (TokenView × ℕ) → ℕ
first_col [] = 0
first_col (x ∷ xs) = x.1

other_column : looks (w 2 ∷ []) ≡ looks (w 1 ∷ []) → ⊥
other_column h = (let same : ◌≡◌ {A = ℕ} 2 1 = ap first_col h in cc)

bare_sum : lineless (spelled.infix_of (name 1) (at 3) op.Plus (spelled.name (record { line = 2; col = 1 }) (codes "b"))) ≡ spelled.infix_of (spelled.name (record { line = 0; col = 1 }) (codes "a")) (record { line = 0; col = 3 }) op.Plus (spelled.name (record { line = 0; col = 1 }) (codes "b"))
bare_sum = refl

abbrev sum : Phrase
sum = spelled.infix_of (name 1) (at 3) op.Plus (name 5)

-- `a +` begins a phrase, right of column 0, and passes
sum_begins : Begins (phrases 0) (map Some (looks (w 1 ∷ s 3 op.Plus ∷ [])))
sum_begins = (map Some (looks (w 5 ∷ [])), map in_expression (counts 0 sum []), (sum, search, refl, refl))

sum_passes : Passes (phrases 0) (map Some (looks (w 1 ∷ s 3 op.Plus ∷ [])))
sum_passes = (map Some (looks (w 5 ∷ [])), map in_expression (counts 0 sum []), (sum, search, refl, refl), refl)
