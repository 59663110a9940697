-- Words of the law on forms that are open in one another: round brackets right behind one another, and heads of `if` and `while`.
use Rattle.std.specs.Prelude.{ℕ, List, [], ◌∷◌, ◌++◌, ◌||◌, Bool, true, false, not, IsTrue, map, codes}
use Rattle.std.specs.List.{list_all}
use Rattle.std.specs.Str.{bytes_eq}
use Rattle.tla_tree.specs.Lexical.{TokenView}
use Rattle.tla_tree.specs.Lexical as tk
use Rattle.tla_tree.specs.FirstStop.{Look}

-- ---- brackets

abbrev pub bracket : ℕ → Look
bracket c = (tk.mark tk.open_bracket, c)

-- `:=`, and right behind it brackets in these columns
abbrev pub assigned : ℕ → List ℕ → List Look
assigned c cs = (tk.mark tk.assigns, c) ∷ map bracket cs

-- ---- heads

-- `if` or, with true, `while`
abbrev pub head_word : Bool → ℕ → Look
head_word false c = (tk.reserved (codes "if"), c)
head_word true c = (tk.reserved (codes "while"), c)

-- if x > 0 then, while (x > 0): the word and its column, what is behind it, and what closes it
pub record Head : Type 0 where
  pub is_while : Bool
  pub column : ℕ
  pub inner : List Look
  pub last : Look

-- a name, a number, a sign or an opening round bracket
abbrev pub is_inner : TokenView → Bool
is_inner (tk.word x) = true
is_inner (tk.number n) = true
is_inner (tk.sign o) = true
is_inner (tk.mark tk.open_bracket) = true
is_inner k = false

abbrev pub is_last : TokenView → Bool
is_last (tk.reserved w) = bytes_eq w (codes "then") || bytes_eq w (codes "do")
is_last (tk.mark tk.close_bracket) = true
is_last k = false

abbrev pub FineHead : Head → Type 0
FineHead h = IsTrue (list_all (λ (l : Look). is_inner l.0) h.inner) × IsTrue (is_last h.last.0)

-- heads right behind one another, before others
abbrev pub heads : List Head → List Look → List Look
heads [] ls = ls
heads (h ∷ hs) ls = head_word h.is_while h.column ∷ (h.inner ++ (h.last ∷ heads hs ls))

-- a word right behind it is neither a field's name nor that of an `end`
abbrev pub is_before : TokenView → Bool
is_before (tk.mark tk.dot) = false
is_before (tk.mark tk.comma) = false
is_before (tk.mark tk.open_square) = false
is_before (tk.reserved w) = not (bytes_eq w (codes "end"))
is_before k = true
