-- The text of lines, put together piece by piece.
use Rattle.std.proofs.Common.{◌≡◌, ℕ, ◌+◌, ◌<◌, ◌≤◌, List, [], ◌∷◌, ◌++◌, length, drop, get_or, refl, sym, ap, ◌∙◌, append-nil, append_assoc}
use Rattle.std.proofs.lemmas.List.{drop_more, drop_all}
use Rattle.source_map.specs.Lines.{line_text, lines_text}
use Rattle.label_lines.specs.Found.{line_seen, lines_seen}
use Rattle.label_lines.specs.declared.line.Line.{Line}

-- four texts with a blank between two, and the end of the line
pub four_put : (out a b c d : List ℕ)
    → (((((((out ++ a) ++ 32 ∷ []) ++ b) ++ 32 ∷ []) ++ c) ++ 32 ∷ []) ++ d) ++ 10 ∷ [] ≡ out ++ (a ++ (32 ∷ (b ++ (32 ∷ (c ++ (32 ∷ (d ++ 10 ∷ [])))))))
four_put out a b c d =
    let s : List ℕ = 32 ∷ [] in
    let n : List ℕ = 10 ∷ [] in
    append_assoc ((((((out ++ a) ++ s) ++ b) ++ s) ++ c) ++ s) d n
    ∙ append_assoc (((((out ++ a) ++ s) ++ b) ++ s) ++ c) s (d ++ n)
    ∙ append_assoc ((((out ++ a) ++ s) ++ b) ++ s) c (s ++ (d ++ n))
    ∙ append_assoc (((out ++ a) ++ s) ++ b) s (c ++ (s ++ (d ++ n)))
    ∙ append_assoc ((out ++ a) ++ s) b (s ++ (c ++ (s ++ (d ++ n))))
    ∙ append_assoc (out ++ a) s (b ++ (s ++ (c ++ (s ++ (d ++ n)))))
    ∙ append_assoc out a (s ++ (b ++ (s ++ (c ++ (s ++ (d ++ n))))))

-- what is left of the lines still gives the whole
pub line_then : (old new : List ℕ) (ls : List Line) (i : ℕ) (l : Line) → l ≡ get_or ls i l → i < length ls → new ≡ old ++ line_text (line_seen l)
    → new ++ lines_text (lines_seen (drop (i + 1) ls)) ≡ old ++ lines_text (lines_seen (drop i ls))
line_then old new ls i l is less h =
    let rest = lines_text (lines_seen (drop (i + 1) ls)) in
    ap (λ (v : List ℕ). v ++ rest) h ∙ append_assoc old (line_text (line_seen l)) rest
    ∙ ap (λ (v : List Line). old ++ lines_text (lines_seen v)) (ap (λ (k : Line). k ∷ drop (i + 1) ls) is ∙ sym (drop_more ls i l less))

pub line_over : (new : List ℕ) (ls : List Line) (i : ℕ) → length ls ≤ i → new ≡ new ++ lines_text (lines_seen (drop i ls))
line_over new ls i less = sym (ap (λ (v : List Line). new ++ lines_text (lines_seen v)) (drop_all i ls less) ∙ append-nil new)
