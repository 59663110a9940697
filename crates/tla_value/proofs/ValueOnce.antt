-- At a place of a text there is one value at most, and it has one end.
use Rattle.std.proofs.Common.{◌≡◌, ◌⊎◌, inl, inr, ◌<◌, ◌≤◌, ◌+◌, ◌-◌, ℕ, IsTrue, List, [], ◌∷◌, ◌++◌, length, take, drop, map, refl, sym, ap, subst, ◌∙◌, arith, codes}
use Rattle.std.proofs.lemmas.Bool.{cases_lt}
use Rattle.std.proofs.lemmas.List.{append_assoc, drop-drop, length-take-le, length-drop, take-append-drop}
use Rattle.tla_token.specs.Tokens.{Piece, blank, block, line, lexeme, bytes_of, text_of, Fits}
use Rattle.tla_token.specs.Offences.{Part, sound, parts_text, PartsFit}
use Rattle.tla_token.specs.Cut.{parts}
use Rattle.tla_token.proofs.Cutting.{cut_fits}
use Rattle.tla_token.proofs.Parted.{cut_back, some_part}
use Rattle.tla_value.specs.Value.{Value}
use Rattle.tla_value.specs.ValueText.{Mark, sign, Spelling, Spellings, Fields, Pairs, truth_word, digits, minus, quoted, named, braces, angles, fields, pairs, no_spellings, spelling, no_fields, field, no_pairs, pair, marks, marks_in, more_marks, field_marks, pair_marks, Spells, spelled}
use Rattle.tla_value.specs.ValueSeen.{mark_of, marks_of, FitBefore, SpellsFrom, ends_in_token}
use Rattle.tla_value.proofs.ValueReader.{one_spelling}

-- ---- how a text is cut from a place on

pub text_before : (ps : List Piece) (more : List Part) → parts_text (map sound ps ++ more) ≡ text_of ps ++ parts_text more
text_before [] more = refl
text_before (p ∷ ps) more = ap (λ (u : List ℕ). bytes_of p ++ u) (text_before ps more) ∙ sym (append_assoc (bytes_of p) (text_of ps) (parts_text more))

fit_with : (ps : List Piece) (rest : List ℕ) → FitBefore ps rest → PartsFit (map sound ps ++ parts rest)
fit_with [] rest h = (cut_fits rest).1
fit_with (p ∷ ps) rest (f, h) =
    let F : List ℕ → Type 0 = λ u. Fits p u in
    let e : text_of ps ++ rest ≡ parts_text (map sound ps ++ parts rest) =
    ap (λ (u : List ℕ). text_of ps ++ u) (sym (cut_fits rest).0) ∙ sym (text_before ps (parts rest)) in
    (subst F e f, fit_with ps rest h)

-- pieces that fit before the rest are cut there
pub cut_from : (ps : List Piece) (rest : List ℕ) → FitBefore ps rest → parts (text_of ps ++ rest) ≡ map sound ps ++ parts rest
cut_from ps rest h =
    let e : parts_text (map sound ps ++ parts rest) ≡ text_of ps ++ rest =
    text_before ps (parts rest) ∙ ap (λ (u : List ℕ). text_of ps ++ u) (cut_fits rest).0 in
    ap parts (sym e) ∙ cut_back (map sound ps ++ parts rest) (fit_with ps rest h)

-- ---- pieces and their tokens

abbrev tokens_in : Piece → ℕ
tokens_in (lexeme k bytes) = 1
tokens_in (blank b) = 0
tokens_in (block body) = 0
tokens_in (line body) = 0

counted : (p : Piece) (ps : List Piece) → length (marks_of (p ∷ ps)) ≡ tokens_in p + length (marks_of ps)
counted (lexeme k bytes) ps = omega arith
counted (blank b) ps = omega arith
counted (block body) ps = omega arith
counted (line body) ps = omega arith

ends_one : (p : Piece) → IsTrue (ends_in_token (p ∷ [])) → tokens_in p ≡ 1
ends_one (lexeme k bytes) h = refl
ends_one (blank b) h = absurd cc
ends_one (block body) h = absurd cc
ends_one (line body) h = absurd cc

pub ends_more : (p q : Piece) (ps : List Piece) → ends_in_token (p ∷ q ∷ ps) ≡ ends_in_token (q ∷ ps)
ends_more (lexeme k bytes) q ps = refl
ends_more (blank b) q ps = refl
ends_more (block body) q ps = refl
ends_more (line body) q ps = refl

later : (p q : Piece) (ps : List Piece) → IsTrue (ends_in_token (p ∷ q ∷ ps)) → IsTrue (ends_in_token (q ∷ ps))
later p q ps h = subst IsTrue (ends_more p q ps) h

some_tokens : (ps : List Piece) → IsTrue (ends_in_token ps) → 0 < length (marks_of ps)
some_tokens [] h = absurd cc
some_tokens (p ∷ []) h = omega (arith, counted p [], ends_one p h)
some_tokens (p ∷ q ∷ ps) h = omega (arith, counted p (q ∷ ps), some_tokens (q ∷ ps) (later p q ps h))

heads : (p q : Piece) (a b : List Part) → sound p ∷ a ≡ sound q ∷ b → p ≡ q
heads p q a b e = cc

tails : (x y : Part) (a b : List Part) → x ∷ a ≡ y ∷ b → a ≡ b
tails x y a b e = cc

-- of one list of parts, with as many tokens, and with a token at the end
same_pieces : (ps qs : List Piece) (a b : List Part) → map sound ps ++ a ≡ map sound qs ++ b → IsTrue (ends_in_token ps) → IsTrue (ends_in_token qs) → length (marks_of ps) ≡ length (marks_of qs) → ps ≡ qs
same_pieces [] qs a b e g h l = absurd cc
same_pieces (p ∷ ps) [] a b e g h l = absurd cc
same_pieces (p ∷ []) (q ∷ []) a b e g h l = ap (λ (x : Piece). x ∷ []) (heads p q a b e)
same_pieces (p ∷ []) (q ∷ o ∷ qs) a b e g h l =
    absurd (omega (arith, l, counted p [], counted q (o ∷ qs), ends_one p g, ap tokens_in (heads p q a (map sound (o ∷ qs) ++ b) e), some_tokens (o ∷ qs) (later q o qs h)))
same_pieces (p ∷ o ∷ ps) (q ∷ []) a b e g h l =
    absurd (omega (arith, l, counted q [], counted p (o ∷ ps), ends_one q h, ap tokens_in (heads p q (map sound (o ∷ ps) ++ a) b e), some_tokens (o ∷ ps) (later p o ps g)))
same_pieces (p ∷ o ∷ ps) (q ∷ n ∷ qs) a b e g h l =
    let first : p ≡ q = heads p q (map sound (o ∷ ps) ++ a) (map sound (n ∷ qs) ++ b) e in
    let rest : (o ∷ ps) ≡ (n ∷ qs) =
    same_pieces (o ∷ ps) (n ∷ qs) a b (tails (sound p) (sound q) (map sound (o ∷ ps) ++ a) (map sound (n ∷ qs) ++ b) e) (later p o ps g) (later q n qs h) (omega (arith, l, counted p (o ∷ ps), counted q (n ∷ qs), ap tokens_in first)) in
    λ i. first i ∷ rest i

-- ---- the tokens that are in sight of a spelling

abbrev marks_ahead : List Part → List Mark
marks_ahead [] = []
marks_ahead (sound (lexeme k bytes) ∷ ps) = mark_of k ∷ marks_ahead ps
marks_ahead (p ∷ ps) = marks_ahead ps

ahead : (ps : List Piece) (more : List Part) → marks_ahead (map sound ps ++ more) ≡ marks_of ps ++ marks_ahead more
ahead [] more = refl
ahead (lexeme k bytes ∷ ps) more = ap (λ (ms : List Mark). mark_of k ∷ ms) (ahead ps more)
ahead (blank b ∷ ps) more = ahead ps more
ahead (block body ∷ ps) more = ahead ps more
ahead (line body ∷ ps) more = ahead ps more

-- the tokens of a spelling, and others after them
mutual
  pub joined : (s : Spelling) (r q : List Mark) → marks s r ++ q ≡ marks s (r ++ q)
  joined (truth_word b) r q = refl
  joined (digits n) r q = refl
  joined (minus n) r q = refl
  joined (quoted w) r q = refl
  joined (named w) r q = refl
  joined (braces ss) r q = rw (joined_in ss (sign (codes "}") ∷ r) q) refl
  joined (angles ss) r q = rw (joined_in ss (sign (codes ">>") ∷ r) q) refl
  joined (fields x s fs) r q = rw (joined s (field_marks fs (sign (codes "]") ∷ r)) q, joined_fields fs (sign (codes "]") ∷ r) q) refl
  joined (pairs d s ps) r q =
      rw (joined d (sign (codes ":>") ∷ marks s (pair_marks ps (sign (codes ")") ∷ r))) q, joined s (pair_marks ps (sign (codes ")") ∷ r)) q, joined_pairs ps (sign (codes ")") ∷ r) q) refl

  joined_in : (ss : Spellings) (r q : List Mark) → marks_in ss r ++ q ≡ marks_in ss (r ++ q)
  joined_in no_spellings r q = refl
  joined_in (spelling s ss) r q = rw (joined s (more_marks ss r) q, joined_more ss r q) refl

  joined_more : (ss : Spellings) (r q : List Mark) → more_marks ss r ++ q ≡ more_marks ss (r ++ q)
  joined_more no_spellings r q = refl
  joined_more (spelling s ss) r q = rw (joined s (more_marks ss r) q, joined_more ss r q) refl

  joined_fields : (fs : Fields) (r q : List Mark) → field_marks fs r ++ q ≡ field_marks fs (r ++ q)
  joined_fields no_fields r q = refl
  joined_fields (field x s fs) r q = rw (joined s (field_marks fs r) q, joined_fields fs r q) refl

  joined_pairs : (ps : Pairs) (r q : List Mark) → pair_marks ps r ++ q ≡ pair_marks ps (r ++ q)
  joined_pairs no_pairs r q = refl
  joined_pairs (pair d s ps) r q = rw (joined d (sign (codes ":>") ∷ marks s (pair_marks ps r)) q, joined s (pair_marks ps r) q, joined_pairs ps r q) refl

-- ---- one value, and one end

-- a value isn't empty
pub some_text : (ps : List Piece) (rest : List ℕ) → FitBefore ps rest → IsTrue (ends_in_token ps) → text_of ps ≡ [] → ⊥
some_text [] rest f h e = cc
some_text (p ∷ ps) rest (f, g) h e = some_part (sound p) (text_of ps ++ rest) f (no_front (bytes_of p) (text_of ps) e)
  where
    no_front : (a b : List ℕ) → a ++ b ≡ [] → a ≡ []
    no_front [] b e = refl
    no_front (x ∷ a) b e = cc

pub starts_before : (bytes : List ℕ) (at to : ℕ) (v : Value) → SpellsFrom bytes at to v → at < to
starts_before bytes at to v s = by (cases_lt at to)
  where
    none : (n : ℕ) → n ≡ 0 → take n (drop at bytes) ≡ []
    none n e = ap (λ (k : ℕ). take k (drop at bytes)) e

    by : (at < to) ⊎ (to ≤ at) → at < to
    by (inl l) = l
    by (inr l) = absurd (some_text s.pieces (drop to bytes) s.fit s.ends (sym s.cut ∙ none (to - at) (omega (arith, l))))

pub cut_at : (bytes : List ℕ) (at to : ℕ) (v : Value) (s : SpellsFrom bytes at to v) → parts (drop at bytes) ≡ map sound s.pieces ++ parts (drop to bytes)
cut_at bytes at to v s =
    let behind : drop (to - at) (drop at bytes) ≡ drop to bytes = drop-drop (to - at) at bytes ∙ ap (λ (k : ℕ). drop k bytes) (omega (arith, starts_before bytes at to v s)) in
    let whole : drop at bytes ≡ text_of s.pieces ++ drop to bytes =
    sym (take-append-drop (to - at) (drop at bytes)) ∙ (λ i. s.cut i ++ behind i) in
    ap parts whole ∙ cut_from s.pieces (drop to bytes) s.fit

length_cut : (bytes : List ℕ) (at to : ℕ) (v : Value) (s : SpellsFrom bytes at to v) → length (text_of s.pieces) ≡ to - at
length_cut bytes at to v s =
    ap length (sym s.cut) ∙ length-take-le (to - at) (drop at bytes) (omega (arith, length-drop at bytes, s.inside, starts_before bytes at to v s))

-- the tokens from a place on are those of the value and others
marks_at : (bytes : List ℕ) (at to : ℕ) (v : Value) (s : SpellsFrom bytes at to v) → marks_ahead (parts (drop at bytes)) ≡ marks s.spells.0 (marks_ahead (parts (drop to bytes)))
marks_at bytes at to v s =
    let q = marks_ahead (parts (drop to bytes)) in
    ap marks_ahead (cut_at bytes at to v s) ∙ ahead s.pieces (parts (drop to bytes)) ∙ ap (λ (ms : List Mark). ms ++ q) s.spells.3 ∙ joined s.spells.0 [] q

pub value_once : (bytes : List ℕ) (at to end : ℕ) (v w : Value) → SpellsFrom bytes at to v → SpellsFrom bytes at end w → (to ≡ end) × (v ≡ w)
value_once bytes at to end v w s t =
    let one = one_spelling s.spells.0 t.spells.0 (marks_ahead (parts (drop to bytes))) (marks_ahead (parts (drop end bytes))) s.spells.1 t.spells.1
    (sym (marks_at bytes at to v s) ∙ marks_at bytes at end w t) in
    let same_marks : marks_of s.pieces ≡ marks_of t.pieces = s.spells.3 ∙ ap (λ (x : Spelling). marks x []) one.0 ∙ sym t.spells.3 in
    let same_cut : s.pieces ≡ t.pieces =
    same_pieces s.pieces t.pieces (parts (drop to bytes)) (parts (drop end bytes)) (sym (cut_at bytes at to v s) ∙ cut_at bytes at end w t) s.ends t.ends (ap length same_marks) in (
      omega (arith, length_cut bytes at to v s, length_cut bytes at end w t, ap (λ (ps : List Piece). length (text_of ps)) same_cut, starts_before bytes at to v s, starts_before bytes at end w t),
      sym s.spells.4 ∙ ap spelled one.0 ∙ t.spells.4,
    )

-- tokens spell one value
pub spelled_once : (ts : List Mark) (v w : Value) → Spells ts v → Spells ts w → v ≡ w
spelled_once ts v w s t = sym s.4 ∙ ap spelled (one_spelling s.0 t.0 [] [] s.1 t.1 (sym s.3 ∙ t.3)).0 ∙ t.4
