-- Where algorithms begin among segments, and among those that are moved.
use Rattle.std.proofs.Common.{◌≡◌, ℕ, suc, ◌+◌, ◌-◌, ◌≤◌, Bool, true, false, List, [], ◌∷◌, ◌++◌, length, take, Some, None, refl, sym, ap, subst, ◌∙◌, arith, append_assoc, length-take, find}
use Rattle.std.specs.Prelude.{if◌then◌else◌}
use Rattle.std.proofs.lemmas.Option.{none-some, same_Some}
use Rattle.tla_token.specs.Tokens.{block, blank, line, lexeme}
use Rattle.tla_token.specs.Offences.{sound, stray, bad_string, open_string, open_block}
use Rattle.module_tree.specs.TextFront.{Text}
use Rattle.module_tree.specs.Beginnings.{begins_algorithm, index_if, all_at}
use Rattle.module_tree.specs.Walk.{Segment, free, header, part, region, mark, inner, tail, bytes, Located}
use Rattle.module_tree.specs.FileParts.{within, beginnings_in, beginnings, first_of, holds_algorithm}
use Rattle.module_tree.specs.laws.Walks.{Near, Moved}

-- ---- beginnings of algorithms

-- i more there are j more here
abbrev pub Shifted : ℕ → ℕ → List ℕ → List ℕ → Type 0
Shifted i j [] [] = Unit {0}
Shifted i j (n ∷ ns) (m ∷ ms) = (n + j ≡ m + i) × Shifted i j ns ms
Shifted i j _ _ = ⊥

all_shifted : (p : Text → Bool) (i j k l : ℕ) (u : Text) → k + j ≡ l + i → Shifted i j (all_at p k u) (all_at p l u)
all_shifted p i j k l [] e = tt
all_shifted p i j k l (b ∷ u) e = by (p (b ∷ u)) (all_shifted p i j (suc k) (suc l) u (omega arith))
  where
    by : (t : Bool) → Shifted i j (all_at p (suc k) u) (all_at p (suc l) u) → Shifted i j (index_if t k (all_at p (suc k) u)) (index_if t l (all_at p (suc l) u))
    by true h = (e, h)
    by false h = h

shifted_both : (i j : ℕ) (ns ms us vs : List ℕ) → Shifted i j ns ms → Shifted i j us vs → Shifted i j (ns ++ us) (ms ++ vs)
shifted_both i j [] [] us vs h k = k
shifted_both i j [] (m ∷ ms) us vs h k = absurd h
shifted_both i j (n ∷ ns) [] us vs h k = absurd h
shifted_both i j (n ∷ ns) (m ∷ ms) us vs h k = (h.0, shifted_both i j ns ms us vs h.1 k)

shifted_in : (i j : ℕ) (d e : Located) → d.is ≡ e.is → d.at + j ≡ e.at + i → Shifted i j (beginnings_in d) (beginnings_in e)
shifted_in i j d e is at =
    let here : Shifted i j (beginnings_in d) (all_at begins_algorithm (e.at + 2) (within d.is)) = all_shifted begins_algorithm i j (d.at + 2) (e.at + 2) (within d.is) (two d.at e.at at) in
    subst (λ (g : Segment). Shifted i j (beginnings_in d) (all_at begins_algorithm (e.at + 2) (within g))) is here
  where
    two : (a b : ℕ) → a + j ≡ b + i → a + 2 + j ≡ b + 2 + i
    two a b e = omega arith

pub moved_beginnings : (i j m n : ℕ) (ds es : List Located) → Moved i j m n ds es → Shifted i j (beginnings ds) (beginnings es)
moved_beginnings i j m n [] [] h = tt
moved_beginnings i j m n [] (e ∷ es) h = absurd h
moved_beginnings i j m n (d ∷ ds) [] h = absurd h
moved_beginnings i j m n (d ∷ ds) (e ∷ es) h =
    shifted_both i j (beginnings_in d) (beginnings_in e) (beginnings ds) (beginnings es) (shifted_in i j d e h.0 h.1.0) (moved_beginnings i j m n ds es h.2)

-- the first comment with a beginning is moved with the others
abbrev pub FoundThere : ℕ → ℕ → ℕ → ℕ → Located → List Located → Type 0
FoundThere i j m n d es = (c : Located) × (find holds_algorithm es ≡ Some c) × (d.is ≡ c.is) × Near i j m n d.at d.place c.at c.place

pub moved_found : (i j m n : ℕ) (ds es : List Located) (d : Located) → Moved i j m n ds es → find holds_algorithm ds ≡ Some d → FoundThere i j m n d es
moved_found i j m n [] es d h e = absurd (none-some d e)
moved_found i j m n (a ∷ ds) [] d h e = absurd h
moved_found i j m n (a ∷ ds) (b ∷ es) d h e = by (beginnings_in a) refl (beginnings_in b) refl (shifted_in i j a b h.0 h.1.0) (moved_found i j m n ds es d h.2)
  where
    by : (ns : List ℕ) → beginnings_in a ≡ ns → (ms : List ℕ) → beginnings_in b ≡ ms → Shifted i j ns ms → (find holds_algorithm ds ≡ Some d → FoundThere i j m n d es) → FoundThere i j m n d (b ∷ es)
    by [] o (k ∷ ms) q s deeper = absurd s
    by (l ∷ ns) o [] q s deeper = absurd s
    by [] o [] q s deeper =
        let f : find holds_algorithm ds ≡ Some d = rw o at e in
        let r = deeper f in
        (r.0, rw q r.1, r.2, r.3)
    by (l ∷ ns) o (k ∷ ms) q s deeper =
        let f : Some a ≡ Some d = rw o at e in
        subst (λ (d : Located). FoundThere i j m n d (b ∷ es)) (same_Some a d f) (b, rw q refl, h.0, h.1)

pub beginnings_append : (ds es : List Located) → beginnings (ds ++ es) ≡ beginnings ds ++ beginnings es
beginnings_append [] es = refl
beginnings_append (d ∷ ds) es = ap (λ (ns : List ℕ). beginnings_in d ++ ns) (beginnings_append ds es) ∙ sym (append_assoc (beginnings_in d) (beginnings ds) (beginnings es))

pub two_more : (c d : Located) (es : List Located) → within c.is ≡ [] → within d.is ≡ [] → beginnings (c ∷ d ∷ es) ≡ beginnings es
two_more c d es n m = rw (n, m) refl

pub none_held : (ds : List Located) → find holds_algorithm ds ≡ None → beginnings ds ≡ []
none_held [] e = refl
none_held (d ∷ ds) e = by (beginnings_in d) refl (none_held ds)
  where
    by : (ns : List ℕ) → beginnings_in d ≡ ns → (find holds_algorithm ds ≡ None → beginnings ds ≡ []) → beginnings (d ∷ ds) ≡ []
    by [] o deeper = (let f : find holds_algorithm ds ≡ None = rw o at e in rw o (deeper f))
    by (n ∷ ns) o deeper = (let f : Some d ≡ None = rw o at e in absurd (none-some d (sym f)))

-- the first beginning is in the first comment with one
pub record Begun (ds : List Located) (d : Located) : Type 0 where
  pub n : ℕ
  pub others : List ℕ
  pub first : first_of (beginnings_in d) ≡ Some n
  pub all : beginnings ds ≡ n ∷ others

pub begun_in : (ds : List Located) (d : Located) → find holds_algorithm ds ≡ Some d → Begun ds d
begun_in [] d e = absurd (none-some d e)
begun_in (c ∷ ds) d e = by (beginnings_in c) refl (begun_in ds d)
  where
    by : (ns : List ℕ) → beginnings_in c ≡ ns → (find holds_algorithm ds ≡ Some d → Begun ds d) → Begun (c ∷ ds) d
    by [] o deeper =
        let f : find holds_algorithm ds ≡ Some d = rw o at e in
        let r = deeper f in
        record { n = r.n; others = r.others; first = r.first; all = ap (λ (ns : List ℕ). ns ++ beginnings ds) o ∙ r.all }
    by (n ∷ ns) o deeper =
        let f : Some c ≡ Some d = rw o at e in
        let same : c ≡ d = same_Some c d f in
        record { n = n; others = ns ++ beginnings ds; first = ap (λ (d : Located). first_of (beginnings_in d)) (sym same) ∙ ap first_of o; all = ap (λ (ns : List ℕ). ns ++ beginnings ds) o }

pub found_front : (ds es : List Located) (d : Located) → find holds_algorithm ds ≡ Some d → find holds_algorithm (ds ++ es) ≡ Some d
found_front [] es d e = absurd (none-some d e)
found_front (c ∷ ds) es d e = by (holds_algorithm c) refl (found_front ds es d)
  where
    by : (k : Bool) → holds_algorithm c ≡ k → (find holds_algorithm ds ≡ Some d → find holds_algorithm (ds ++ es) ≡ Some d) → find holds_algorithm (c ∷ (ds ++ es)) ≡ Some d
    by true k deeper = (let f : Some c ≡ Some d = rw k at e in ap (λ (t : Bool). if t then Some c else find holds_algorithm (ds ++ es)) k ∙ f)
    by false k deeper = (let f : find holds_algorithm ds ≡ Some d = rw k at e in ap (λ (t : Bool). if t then Some c else find holds_algorithm (ds ++ es)) k ∙ deeper f)

pub found_back : (ds es : List Located) → find holds_algorithm ds ≡ None → find holds_algorithm (ds ++ es) ≡ find holds_algorithm es
found_back [] es e = refl
found_back (c ∷ ds) es e = by (holds_algorithm c) refl (found_back ds es)
  where
    by : (k : Bool) → holds_algorithm c ≡ k → (find holds_algorithm ds ≡ None → find holds_algorithm (ds ++ es) ≡ find holds_algorithm es) → find holds_algorithm (c ∷ (ds ++ es)) ≡ find holds_algorithm es
    by true k deeper = (let f : Some c ≡ None = rw k at e in absurd (none-some c (sym f)))
    by false k deeper = (let f : find holds_algorithm ds ≡ None = rw k at e in ap (λ (t : Bool). if t then Some c else find holds_algorithm (ds ++ es)) k ∙ deeper f)

-- a comment with a beginning has its two marks besides
pub comment_size : (g : Segment) (n at : ℕ) → first_of (all_at begins_algorithm at (within g)) ≡ Some n → 2 + length (within g) ≤ length (bytes g)
comment_size (part (sound (block body))) n at e = bound (length body) (length (within (part (sound (block body))))) (taken (length body - 2) body)
  where
    bound : (b w : ℕ) → w ≤ b → 2 + w ≤ suc (suc b)
    bound b w l = omega arith

    taken : (k : ℕ) (u : Text) → length (take k u) ≤ length u
    taken k u = omega (arith, length-take k u)
comment_size (part (sound (blank b))) n at e = absurd (none-some n e)
comment_size (part (sound (line body))) n at e = absurd (none-some n e)
comment_size (part (sound (lexeme k w))) n at e = absurd (none-some n e)
comment_size (part (open_block body)) n at e = omega arith
comment_size (part (stray b)) n at e = absurd (none-some n e)
comment_size (part (bad_string raw)) n at e = absurd (none-some n e)
comment_size (part (open_string raw)) n at e = absurd (none-some n e)
comment_size (free w) n at e = absurd (none-some n e)
comment_size (header w) n at e = absurd (none-some n e)
comment_size (region v w) n at e = absurd (none-some n e)
comment_size (mark w) n at e = absurd (none-some n e)
comment_size (inner w) n at e = absurd (none-some n e)
comment_size (tail w) n at e = absurd (none-some n e)
