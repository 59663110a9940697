-- A reader looks no further than the token at which it stops: simple statements.
use Rattle.std.proofs.Common.{ℕ, suc, ◌+◌, ◌*◌, ◌≤◌, Bool, true, false, nat_lt, arith}
use Rattle.tla_token.specs.declared.place.Place.{Place}
use Rattle.tla_tree.specs.Tree.{Name}
use Rattle.tla_tree.specs.Lexical.{TokenView}
use Rattle.tla_tree.specs.Lexical as tk
use Rattle.tla_tree.specs.Spelling.{Phrase}
use Rattle.tla_tree.specs.Spelling as spelled
use Rattle.tla_tree.specs.Reader.{Reader, is_mark, place_if, word_of, field_of}
use Rattle.tla_tree.proofs.Alike.{IsFair, fair_gives, fair_refuses, fair_skip, fair_peek, fair_bind, fair_take}
use Rattle.pcal_tree.specs.GrammarParts.{Assignments}
use Rattle.syntax_reading.specs.TokenReaders.{Parts}
use Rattle.syntax_reading.specs.ReadSimple.{arguments_by, read_arguments, left_by, read_left, assignments_by, read_assignments, assign_if, named_by}
use Rattle.syntax_reading.proofs.Fair.{fair_next, Step, fair_steps, FairParts, less_parts, left_parts, right_parts}
use Rattle.syntax_reading.proofs.FairParts.{fair_mark}

pub arguments_fair : {b : ℕ} {m q : Parts} → FairParts b m q → IsFair b (read_arguments m) (read_arguments q)
arguments_fair {b} {m} {q} h = fair_mark {n = b} tk.open_bracket (omega arith) (λ p. fair_next (by p))
  where
    by : (p x : Place) (k : TokenView) → IsFair b (arguments_by m p x k) (arguments_by q p x k)
    by p x (tk.mark tk.close_bracket) = fair_skip {n = b} (omega arith) fair_gives
    by p x k = fair_bind h.arguments (λ xs. fair_mark {n = b} tk.close_bracket (omega arith) (λ y. fair_gives))

-- ---- left sides
by_left : {b c : ℕ} {m q : Parts} → b ≤ c + 4 → FairParts c m q → (r t : Phrase → Reader Phrase) → ((a : Phrase) → IsFair c (r a) (t a)) → (a : Phrase) (p : Place) (k : TokenView) → IsFair b (left_by m r a p k) (left_by q t a p k)
by_left {b} {c} l h r t f a p (tk.mark tk.open_square) = fair_skip l (fair_bind h.subscripts (λ xs. fair_take {n = c} (omega arith) (λ x. f (spelled.apply a p xs x)) 0 (place_if (is_mark tk.close_square))))
by_left {b} {c} l h r t f a p (tk.mark tk.dot) = fair_skip l (fair_take {n = c} (omega arith) (λ x. f (spelled.select a p x)) 0 field_of)
by_left l h r t f a p k = fair_gives

left_step : (d : ℕ) {m q : Parts} → FairParts d m q → Step d (read_left m) (read_left q)
left_step d {m} {q} h b c n o l k s t u f a = fair_peek 0 (by_left k (less_parts (omega (arith, l, s)) h) (read_left m n) (read_left q o) f a)

left_fair : (d : ℕ) {m q : Parts} → FairParts d m q → (n o b : ℕ) → b ≤ d → b ≤ 4 * n → b ≤ 4 * o → (a : Phrase) → IsFair b (read_left m n a) (read_left q o a)
left_fair d {m} {q} h n o b l k s = fair_steps d (read_left m) (read_left q) (λ a. fair_refuses) (λ a. fair_refuses) (left_step 0 (left_parts h)) (left_step 0 (right_parts h)) (left_step d h) n o b l k s

-- ---- l := e || m := f
by_assignments : {b c : ℕ} → b ≤ c + 4 → (r t : Name → Reader Assignments) → ((x : Name) → IsFair c (r x) (t x)) → (a : Phrase) (p : Place) (e : Phrase) (x : Place) (k : TokenView) → IsFair b (assignments_by r a p e x k) (assignments_by t a p e x k)
by_assignments {b} {c} l r t f a p e x (tk.mark tk.beside) = fair_skip l (fair_take {n = c} (omega arith) (λ y. fair_bind (f (spelled.named y.0 y.1)) (λ ms. fair_gives)) 0 word_of)
by_assignments l r t f a p e x k = fair_gives

assignments_step : (d : ℕ) {m q : Parts} → FairParts d m q → Step d (read_assignments m) (read_assignments q)
assignments_step d {m} {q} h b c n o l k s t u f x =
    fair_bind (left_fair d h (suc n) (suc o) b l (omega (arith, k, t)) (omega (arith, k, u)) (spelled.name x.place x.word))
    (λ a. fair_mark {n = b} tk.assigns (omega arith) (λ p. fair_bind (less_parts l h).expr (λ e. fair_next (by_assignments k (read_assignments m n) (read_assignments q o) f a p e))))

assignments_fair : (d : ℕ) {m q : Parts} → FairParts d m q → (n o b : ℕ) → b ≤ d → b ≤ 4 * n → b ≤ 4 * o → (x : Name) → IsFair b (read_assignments m n x) (read_assignments q o x)
assignments_fair d {m} {q} h n o b l k s =
    fair_steps d (read_assignments m) (read_assignments q) (λ a. fair_refuses) (λ a. fair_refuses) (assignments_step 0 (left_parts h)) (assignments_step 0 (right_parts h)) (assignments_step d h) n o b l k s

assign_if_fair : (d : ℕ) {m q : Parts} → FairParts d m q → (n o b : ℕ) → b ≤ d → b ≤ 4 * n → b ≤ 4 * o → (i : Bool) (x : Name) → IsFair b (assign_if i m n x) (assign_if i q o x)
assign_if_fair d h n o b l k s true x = fair_bind (assignments_fair d h n o b l k s x) (λ ms. fair_gives)
assign_if_fair d h n o b l k s false x = fair_refuses

-- ---- a statement after its first name, and those that begin with a word
pub named_fair : (d : ℕ) {m q : Parts} → FairParts d m q → (n o b : ℕ) → b ≤ d → b ≤ 4 * n → b ≤ 4 * o → (x : Name) (p : Place) (k : TokenView) → IsFair b (named_by m n x p k) (named_by q o x p k)
named_fair d h n o b l k s x p (tk.mark tk.open_bracket) = fair_bind (arguments_fair (less_parts l h)) (λ xs. fair_gives)
named_fair d h n o b l k s x p v = assign_if_fair d h n o b l k s (nat_lt 0 x.place.col) x
