-- What a line is does not depend on the lines after it.
use Rattle.std.proofs.Common.{◌≡◌, ℕ, suc, ◌+◌, Bool, true, false, not, nat_eq, [], ◌∷◌, ◌++◌, take, drop, refl, sym, ap, ◌∙◌, arith}
use Rattle.tla_token.specs.Offences.{Part, ends_string, string_len, escape_len}
use Rattle.module_tree.specs.TextFront.{Text, begins, line_here, whole_line}
use Rattle.module_tree.specs.HeaderAndRegion.{header_title, is_header, is_begin, is_end}
use Rattle.module_tree.specs.Beginnings.{ends_module}
use Rattle.tla_token.specs.Cut.{string_part}
use Rattle.module_tree.specs.ModuleParts.{barred}
use Rattle.module_tree.proofs.EdgeAlike.{lacks, at_newline}
use Rattle.module_tree.proofs.EdgeAlike as edge
pub use Rattle.module_tree.proofs.EdgeAlike.{never_some}

-- two texts that are one up to a newline, after which p stands in the one and q in the other
abbrev pub Alike : Text → Text → Text → Text → Type 0
Alike p q x y = edge.Alike 10 p q x y

abbrev pub unlined : Text → Bool
unlined w = lacks 10 w

one_plus : (n : ℕ) → 1 + n ≡ suc n
one_plus n = omega arith

pub begins_alike : (p q l w : Text) → unlined w ≡ true → begins (l ++ 10 ∷ p) w ≡ begins (l ++ 10 ∷ q) w
begins_alike p q l w h = edge.begins_alike 10 p q l w h

pub header_title_alike : (p q l : Text) → header_title (l ++ 10 ∷ p) ≡ header_title (l ++ 10 ∷ q)
header_title_alike p q l = edge.header_title_alike 10 at_newline p q l

pub header_alike : (p q l : Text) → is_header (l ++ 10 ∷ p) ≡ is_header (l ++ 10 ∷ q)
header_alike p q l = edge.header_alike 10 at_newline p q l

pub begin_alike : (p q l : Text) → is_begin (l ++ 10 ∷ p) ≡ is_begin (l ++ 10 ∷ q)
begin_alike p q l = edge.begin_alike 10 at_newline p q l

pub end_alike : (p q l : Text) → is_end (l ++ 10 ∷ p) ≡ is_end (l ++ 10 ∷ q)
end_alike p q l = edge.end_alike 10 at_newline p q l

pub tail_alike : (p q l : Text) → ends_module (l ++ 10 ∷ p) ≡ ends_module (l ++ 10 ∷ q)
tail_alike p q l = edge.tail_alike 10 at_newline p q l

pub barred_alike : (p q l : Text) (b : ℕ) → barred b (l ++ 10 ∷ p) ≡ barred b (l ++ 10 ∷ q)
barred_alike p q l b = edge.barred_alike 10 at_newline p q l b

pub here_alike : (p q l : Text) → line_here (l ++ 10 ∷ p) ≡ line_here (l ++ 10 ∷ q)
here_alike p q l = edge.run_alike 10 (λ b. not (nat_eq b 10)) refl p q l

pub whole_alike : (p q l : Text) → whole_line (l ++ 10 ∷ p) ≡ whole_line (l ++ 10 ∷ q)
whole_alike p q [] = refl
whole_alike p q (b ∷ l) = rw (whole_alike p q l) refl

-- ---- strings

take_one : (n b : ℕ) (x : Text) → take (1 + n) (b ∷ x) ≡ b ∷ take n x
take_one n b x = rw (one_plus n) refl

drop_one : (n b : ℕ) (x : Text) → drop (1 + n) (b ∷ x) ≡ drop n x
drop_one n b x = rw (one_plus n) refl

abbrev Split : Text → Text → ℕ → ℕ → Text → Text → Type 0
Split p q n m x y = (take n x ≡ take m y) × Alike p q (drop n x) (drop m y)

split_one : (p q : Text) (n m b : ℕ) (x y : Text) → Split p q n m x y → Split p q (1 + n) (1 + m) (b ∷ x) (b ∷ y)
split_one p q n m b x y (t, (l, d, e)) = (take_one n b x ∙ ap (λ (u : Text). b ∷ u) t ∙ sym (take_one m b y), (l, drop_one n b x ∙ d, drop_one m b y ∙ e))

string_split : (p q l : Text) → Split p q (string_len (l ++ 10 ∷ p)) (string_len (l ++ 10 ∷ q)) (l ++ 10 ∷ p) (l ++ 10 ∷ q) × Split p q (escape_len (l ++ 10 ∷ p)) (escape_len (l ++ 10 ∷ q)) (l ++ 10 ∷ p) (l ++ 10 ∷ q)
string_split p q [] = ((refl, ([], refl, refl)), (refl, ([], refl, refl)))
string_split p q (b ∷ l) = (by (nat_eq b 92) refl (ends_string b) refl (string_split p q l), on (nat_eq b 10) refl (string_split p q l).0)
  where
    x : Text
    x = l ++ 10 ∷ p

    y : Text
    y = l ++ 10 ∷ q

    by : (j : Bool) → nat_eq b 92 ≡ j → (k : Bool) → ends_string b ≡ k → Split p q (string_len x) (string_len y) x y × Split p q (escape_len x) (escape_len y) x y
        → Split p q (string_len (b ∷ x)) (string_len (b ∷ y)) (b ∷ x) (b ∷ y)
    by true j k e s = rw j (split_one p q (escape_len x) (escape_len y) b x y s.1)
    by false j true k s = rw (j, k) (refl, (b ∷ l, refl, refl))
    by false j false k s = rw (j, k) (split_one p q (string_len x) (string_len y) b x y s.0)

    on : (k : Bool) → nat_eq b 10 ≡ k → Split p q (string_len x) (string_len y) x y → Split p q (escape_len (b ∷ x)) (escape_len (b ∷ y)) (b ∷ x) (b ∷ y)
    on true k s = rw k (refl, (b ∷ l, refl, refl))
    on false k s = rw k (split_one p q (string_len x) (string_len y) b x y s)

abbrev pub string_at : Text → Part
string_at s = string_part (take (string_len s) s) (drop (string_len s) s)

pub string_alike : (p q l : Text) → string_at (l ++ 10 ∷ p) ≡ string_at (l ++ 10 ∷ q)
string_alike p q l =
    let s = (string_split p q l).0 in
    let x = l ++ 10 ∷ p in
    let y = l ++ 10 ∷ q in
    ap (λ (u : Text). string_part u (drop (string_len x) x)) s.0
    ∙ edge.at_alike 10 p q (drop (string_len x) x) (drop (string_len y) y) s.1 (string_part (take (string_len y) y)) (string_part (take (string_len y) y)) (λ m. rw (begins_alike p q m (34 ∷ []) refl) refl)
