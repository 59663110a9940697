-- Names of an order, of which those are in a set whose numbers are.
use Rattle.std.specs.Prelude.{◌≡◌, ◌==◌, ℕ, ◌/◌, ◌%◌, suc, List, [], ◌∷◌, Bool, false, cond, get_or}
use Rattle.std.specs.Int.{bit_at}
use Rattle.tla_token.specs.Signs.{is_among}
use Rattle.tla_tree.specs.Tree.{Word}
use Rattle.name_bits.specs.declared.bits.Bits.{Bits}

-- the first number that is in no set
abbrev pub most : ℕ
most = 1088

-- a number is in: its bit is set; past the words there is none
unfoldable pub has : Bits → ℕ → Bool
has b i = bit_at (get_or b.words (i / 64) 0) (i % 64) == 1

-- the names whose numbers pass the test, where the first name has the number n
abbrev pub chosen : (ℕ → Bool) → ℕ → List Word → List Word
chosen p n [] = []
chosen p n (x ∷ xs) = cond (p n) (x ∷ chosen p (suc n) xs) (chosen p (suc n) xs)

-- the names that are in, in the order
abbrev pub names_in : List Word → Bits → List Word
names_in order b = chosen (has b) 0 order

-- no name stands twice
abbrev pub AllApart : List Word → Type 0
AllApart [] = Unit {0}
AllApart (x ∷ xs) = (is_among xs x ≡ false) × AllApart xs
