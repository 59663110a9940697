-- The pieces of a line, joined as they are written and as the layout joins them.
use Rattle.std.proofs.Common.{◌≡◌, ℕ, List, [], ◌++◌, append_assoc, append-nil}

-- a line: blanks, a beginning, a text, an end
pub line_joined : (old b p t e : List ℕ) → ((old ++ (b ++ p)) ++ t) ++ e ≡ old ++ ((b ++ (p ++ t)) ++ e)
line_joined old b p t e = simp append_assoc

-- a unit of one line behind an empty line
pub unit_joined : (old n a t e : List ℕ) → ((old ++ (n ++ a)) ++ t) ++ e ≡ old ++ ((n ++ ((a ++ t) ++ e)) ++ [])
unit_joined old n a t e = simp (append_assoc, append-nil)

-- the same with a closing bracket
pub closed_joined : (old n a t p e : List ℕ) → ((old ++ (n ++ a)) ++ t) ++ (p ++ e) ≡ old ++ ((n ++ (((a ++ t) ++ p) ++ e)) ++ [])
closed_joined old n a t p e = simp (append_assoc, append-nil)

-- a unit of three lines, whose second has a text
pub lines_joined : (old n h b a t p e u : List ℕ) → ((old ++ (n ++ (h ++ (b ++ a)))) ++ t) ++ ((p ++ e) ++ u) ≡ old ++ ((n ++ ((h ++ ((b ++ ((a ++ t) ++ p)) ++ e)) ++ u)) ++ [])
lines_joined old n h b a t p e u = simp (append_assoc, append-nil)

-- a unit of lines before a list
pub list_joined : (old n s i x r : List ℕ) → (old ++ (n ++ (s ++ (i ++ x)))) ++ r ≡ old ++ ((n ++ (s ++ (i ++ (x ++ r)))) ++ [])
list_joined old n s i x r = simp (append_assoc, append-nil)

-- two behind one another
pub then_joined : (old a b x y : List ℕ) → x ≡ old ++ a → y ≡ x ++ b → y ≡ old ++ (a ++ b)
then_joined old a b x y e g = rw (g, e) (append_assoc old a b)
