-- One line more of a module, and the module when no line is left.
use Rattle.std.proofs.Common.{◌≡◌, ℕ, suc, ◌+◌, ◌-◌, ◌<◌, ◌≤◌, List, ◌++◌, sym, ap, ◌∙◌, append_assoc, append-nil, add-one, arith}
use Rattle.make_module.specs.Big.{next_number, line_text, lines_from, front_text, back_text, big}

-- lines are one and the rest of them
line_and_rest : (count i g : ℕ) → i < count → lines_from (count - i) (i + 1) g ≡ line_text (i + 1) (next_number g) ++ lines_from (count - (i + 1)) (i + 1 + 1) (next_number g)
line_and_rest count i g less =
    let e : count - i ≡ suc (count - (i + 1)) = omega arith in
    ap (λ (n : ℕ). lines_from n (i + 1) g) e
    ∙ ap (λ (k : ℕ). line_text (i + 1) (next_number g) ++ lines_from (count - (i + 1)) k (next_number g)) (sym (add-one (i + 1)))

pub line_more : (count i g r : ℕ) → i < count → r ≡ next_number g → (old new all : List ℕ) → new ≡ old ++ line_text (i + 1) r
    → old ++ lines_from (count - i) (i + 1) g ≡ all → new ++ lines_from (count - (i + 1)) (i + 1 + 1) r ≡ all
line_more count i g r less is old new all h k =
    let line = line_text (i + 1) (next_number g) in
    let rest = lines_from (count - (i + 1)) (i + 1 + 1) (next_number g) in
    ap (λ (l : List ℕ). l ++ lines_from (count - (i + 1)) (i + 1 + 1) r) h
    ∙ ap (λ (n : ℕ). (old ++ line_text (i + 1) n) ++ lines_from (count - (i + 1)) (i + 1 + 1) n) is
    ∙ append_assoc old line rest ∙ ap (λ (l : List ℕ). old ++ l) (sym (line_and_rest count i g less)) ∙ k

pub all_lines : (seed count i g : ℕ) → count ≤ i → (old new : List ℕ) → new ≡ old ++ back_text → old ++ lines_from (count - i) (i + 1) g ≡ front_text ++ lines_from count 1 seed → new ≡ big seed count
all_lines seed count i g past old new h k =
    let none : count - i ≡ 0 = omega arith in
    let lines = lines_from count 1 seed in
    h ∙ ap (λ (l : List ℕ). l ++ back_text) (sym (append-nil old) ∙ ap (λ (n : ℕ). old ++ lines_from n (i + 1) g) (sym none) ∙ k) ∙ append_assoc front_text lines back_text
