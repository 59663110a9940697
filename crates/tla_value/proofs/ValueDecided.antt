-- Whether a value is spelled at a place of a text can be told: its tokens are read, and then looked at again.
use Rattle.std.proofs.Common.{◌≡◌, ◌⊎◌, inl, inr, ◌<◌, ◌≤◌, ◌+◌, ◌*◌, ℕ, zero, suc, pos, Bool, true, false, true≢false, IsTrue, List, [], ◌∷◌, ◌++◌, take, drop, length, map, Option, Some, None, refl, sym, ap, subst, ◌∙◌, arith, codes, length-append}
use Rattle.std.specs.Prelude.{bytes_eq, nat_eq, ◌&&◌, neg_ℤ}
use Rattle.std.specs.List.{list_all}
use Rattle.std.proofs.lemmas.Bool.{eqb-true, eq-eqb}
use Rattle.std.proofs.lemmas.Slice.Eq.{bytes_eq-Decides}
use Rattle.std.proofs.lemmas.List.{length-drop, drop-drop}
use Rattle.tla_token.specs.Tokens.{Piece, blank, block, line, lexeme, text_of, Fits}
use Rattle.tla_token.specs.Offences.{Part, sound, stray, bad_string, open_string, open_block, parts_text, PartsFit}
use Rattle.tla_token.specs.Cut.{parts}
use Rattle.tla_token.proofs.Cutting.{cut_fits}
use Rattle.tla_token.proofs.Spelled.{same_bytes}
use Rattle.tla_value.specs.Value.{Value}
use Rattle.tla_token.specs.Limits.{deepest_value}
use Rattle.tla_value.specs.Limits.{fits, fits_int}
use Rattle.tla_value.specs.ValueText.{Mark, word, number, quote, sign, Spelling, Spellings, Fields, Pairs, truth_word, digits, minus, quoted, named, braces, angles, fields, pairs, no_spellings, spelling, no_fields, field, no_pairs, pair, marks, marks_in, more_marks, field_marks, pair_marks, IsGood, AreGood, AreGoodFields, AreGoodPairs, IsWithin, AreWithin, AreWithinFields, AreWithinPairs, Spells, spelled, is_model_name, is_identifier}
use Rattle.tla_value.specs.ValueSeen.{mark_of, marks_of, FitBefore, SpellsFrom, is_no_block, ends_in_token}
use Rattle.tla_value.proofs.ValueReader.{read, steps, member_steps, field_steps, pair_steps, read_marks}
use Rattle.tla_value.proofs.ValueOnce.{text_before, cut_at, joined, ends_more, some_text}
use Rattle.std.proofs.lemmas.Option.{same_Some}

-- ---- what can be told

abbrev pub Told : Type 0 → Type 0
Told P = P ⊎ (P → ⊥)

abbrev two : {P Q : Type 0} → Told P → Told Q → Told (P × Q)
two (inl p) (inl q) = inl (p, q)
two (inr n) q = inr (λ x. n x.0)
two (inl p) (inr n) = inr (λ x. n x.1)

abbrev three : {P Q R : Type 0} → Told P → Told Q → Told R → Told (P × Q × R)
three (inl p) (inl q) (inl r) = inl (p, q, r)
three (inr n) q r = inr (λ x. n x.0)
three (inl p) (inr n) r = inr (λ x. n x.1)
three (inl p) (inl q) (inr n) = inr (λ x. n x.2)

abbrev four : {P Q R S : Type 0} → Told P → Told Q → Told R → Told S → Told (P × Q × R × S)
four (inl p) (inl q) (inl r) (inl s) = inl (p, q, r, s)
four (inr n) q r s = inr (λ x. n x.0)
four (inl p) (inr n) r s = inr (λ x. n x.1)
four (inl p) (inl q) (inr n) s = inr (λ x. n x.2)
four (inl p) (inl q) (inl r) (inr n) = inr (λ x. n x.3)

is_so : (b : Bool) → Told (b ≡ true)
is_so true = inl refl
is_so false = inr (λ e. true≢false (sym e))

mutual
  good : (s : Spelling) → Told (IsGood s)
  good (truth_word b) = inl tt
  good (digits n) = inl tt
  good (minus n) = inl tt
  good (quoted w) = inl tt
  good (named w) = is_so (is_model_name w)
  good (braces ss) = all_good ss
  good (angles ss) = all_good ss
  good (fields x s fs) = three (is_so (is_identifier x)) (good s) (good_fields fs)
  good (pairs d s ps) = three (good d) (good s) (good_pairs ps)

  all_good : (ss : Spellings) → Told (AreGood ss)
  all_good no_spellings = inl tt
  all_good (spelling s ss) = two (good s) (all_good ss)

  good_fields : (fs : Fields) → Told (AreGoodFields fs)
  good_fields no_fields = inl tt
  good_fields (field x s fs) = three (is_so (is_identifier x)) (good s) (good_fields fs)

  good_pairs : (ps : Pairs) → Told (AreGoodPairs ps)
  good_pairs no_pairs = inl tt
  good_pairs (pair d s ps) = three (good d) (good s) (good_pairs ps)

mutual
  within : (s : Spelling) (d : ℕ) → Told (IsWithin s d)
  within (truth_word b) d = inl tt
  within (digits n) d = is_so (fits_int (pos n))
  within (minus n) d = is_so (fits_int (neg_ℤ (pos n)))
  within (quoted w) d = inl tt
  within (named w) d = inl tt
  within (braces ss) zero = inr (λ x. x)
  within (braces ss) (suc d) = two (is_so (fits (spelled (braces ss)))) (all_within ss d)
  within (angles ss) zero = inr (λ x. x)
  within (angles ss) (suc d) = two (is_so (fits (spelled (angles ss)))) (all_within ss d)
  within (fields x s fs) zero = inr (λ x. x)
  within (fields x s fs) (suc d) = three (is_so (fits (spelled (fields x s fs)))) (within s d) (within_fields fs d)
  within (pairs k s ps) zero = inr (λ x. x)
  within (pairs k s ps) (suc d) = four (is_so (fits (spelled (pairs k s ps)))) (within k d) (within s d) (within_pairs ps d)

  all_within : (ss : Spellings) (d : ℕ) → Told (AreWithin ss d)
  all_within no_spellings d = inl tt
  all_within (spelling s ss) d = two (within s d) (all_within ss d)

  within_fields : (fs : Fields) (d : ℕ) → Told (AreWithinFields fs d)
  within_fields no_fields d = inl tt
  within_fields (field x s fs) d = two (within s d) (within_fields fs d)

  within_pairs : (ps : Pairs) (d : ℕ) → Told (AreWithinPairs ps d)
  within_pairs no_pairs d = inl tt
  within_pairs (pair k s ps) d = three (within k d) (within s d) (within_pairs ps d)

-- ---- tokens that are the same

abbrev same_mark : Mark → Mark → Bool
same_mark (word v) (word w) = bytes_eq v w
same_mark (number m) (number n) = nat_eq m n
same_mark (quote v) (quote w) = bytes_eq v w
same_mark (sign v) (sign w) = bytes_eq v w
same_mark _ _ = false

mark_same : (m n : Mark) → same_mark m n ≡ true → m ≡ n
mark_same (word v) (word w) h = ap word (same_bytes v w h)
mark_same (number m) (number n) h = ap number (eqb-true m n h)
mark_same (quote v) (quote w) h = ap quote (same_bytes v w h)
mark_same (sign v) (sign w) h = ap sign (same_bytes v w h)
mark_same (word v) (number n) h = cc
mark_same (word v) (quote w) h = cc
mark_same (word v) (sign w) h = cc
mark_same (number m) (word w) h = cc
mark_same (number m) (quote w) h = cc
mark_same (number m) (sign w) h = cc
mark_same (quote v) (word w) h = cc
mark_same (quote v) (number n) h = cc
mark_same (quote v) (sign w) h = cc
mark_same (sign v) (word w) h = cc
mark_same (sign v) (number n) h = cc
mark_same (sign v) (quote w) h = cc

bytes_self : (w : List ℕ) → bytes_eq w w ≡ true
bytes_self w = (bytes_eq-Decides w w).1 refl

nat_self : (n : ℕ) → nat_eq n n ≡ true
nat_self n = eq-eqb n n refl

mark_self : (m : Mark) → same_mark m m ≡ true
mark_self (word v) = bytes_self v
mark_self (number n) = nat_self n
mark_self (quote v) = bytes_self v
mark_self (sign v) = bytes_self v

mark_told : (m n : Mark) → Told (m ≡ n)
mark_told m n = by (is_so (same_mark m n))
  where
    by : Told (same_mark m n ≡ true) → Told (m ≡ n)
    by (inl h) = inl (mark_same m n h)
    by (inr h) = inr (λ e. h (ap (λ (o : Mark). same_mark m o) (sym e) ∙ mark_self m))

heads : (m n : Mark) (a b : List Mark) → m ∷ a ≡ n ∷ b → m ≡ n
heads m n a b e = cc

tails : (m n : Mark) (a b : List Mark) → m ∷ a ≡ n ∷ b → a ≡ b
tails m n a b e = cc

marks_told : (a b : List Mark) → Told (a ≡ b)
marks_told [] [] = inl refl
marks_told [] (n ∷ b) = inr (λ e. cc)
marks_told (m ∷ a) [] = inr (λ e. cc)
marks_told (m ∷ a) (n ∷ b) = by (mark_told m n) (marks_told a b)
  where
    by : Told (m ≡ n) → Told (a ≡ b) → Told ((m ∷ a) ≡ (n ∷ b))
    by (inl p) (inl q) = inl (λ i. p i ∷ q i)
    by (inr h) t = inr (λ e. h (heads m n a b e))
    by (inl p) (inr h) = inr (λ e. h (tails m n a b e))

-- ---- the steps of the reader, by the number of tokens

mutual
  few_steps : (s : Spelling) (r : List Mark) → steps s + 2 * length r ≤ 2 * length (marks s r)
  few_steps (truth_word b) r = omega arith
  few_steps (digits n) r = omega arith
  few_steps (minus n) r = omega arith
  few_steps (quoted w) r = omega arith
  few_steps (named w) r = omega arith
  few_steps (braces ss) r = omega (arith, few_in ss (sign (codes "}") ∷ r))
  few_steps (angles ss) r = omega (arith, few_in ss (sign (codes ">>") ∷ r))
  few_steps (fields x s fs) r = omega (arith, few_steps s (field_marks fs (sign (codes "]") ∷ r)), few_fields fs (sign (codes "]") ∷ r))
  few_steps (pairs d s ps) r =
      omega (arith, few_steps d (sign (codes ":>") ∷ marks s (pair_marks ps (sign (codes ")") ∷ r))), few_steps s (pair_marks ps (sign (codes ")") ∷ r)), few_pairs ps (sign (codes ")") ∷ r))

  few_in : (ss : Spellings) (r : List Mark) → member_steps ss + 2 * length r ≤ 2 * length (marks_in ss r) + 2
  few_in no_spellings r = omega arith
  few_in (spelling s ss) r = omega (arith, few_steps s (more_marks ss r), few_more ss r)

  few_more : (ss : Spellings) (r : List Mark) → member_steps ss + 2 * length r ≤ 2 * length (more_marks ss r) + 1
  few_more no_spellings r = omega arith
  few_more (spelling s ss) r = omega (arith, few_steps s (more_marks ss r), few_more ss r)

  few_fields : (fs : Fields) (r : List Mark) → field_steps fs + 2 * length r ≤ 2 * length (field_marks fs r) + 1
  few_fields no_fields r = omega arith
  few_fields (field x s fs) r = omega (arith, few_steps s (field_marks fs r), few_fields fs r)

  few_pairs : (ps : Pairs) (r : List Mark) → pair_steps ps + 2 * length r ≤ 2 * length (pair_marks ps r) + 1
  few_pairs no_pairs r = omega arith
  few_pairs (pair d s ps) r = omega (arith, few_steps d (sign (codes ":>") ∷ marks s (pair_marks ps r)), few_steps s (pair_marks ps r), few_pairs ps r)

-- ---- the tokens in sight, up to what is no part of a value

abbrev seen : List Part → List Mark
seen [] = []
seen (sound (lexeme k bytes) ∷ ps) = mark_of k ∷ seen ps
seen (sound (blank b) ∷ ps) = seen ps
seen (sound (line body) ∷ ps) = seen ps
seen (p ∷ ps) = []

seen_before : (ps : List Piece) (more : List Part) → IsTrue (list_all is_no_block ps) → seen (map sound ps ++ more) ≡ marks_of ps ++ seen more
seen_before [] more h = refl
seen_before (lexeme k bytes ∷ ps) more h = ap (λ (ms : List Mark). mark_of k ∷ ms) (seen_before ps more h)
seen_before (blank b ∷ ps) more h = seen_before ps more h
seen_before (line body ∷ ps) more h = seen_before ps more h
seen_before (block body ∷ ps) more h = absurd (true≢false (sym h))

-- the pieces of these tokens, the last of them at the end
pub record Front (ps : List Part) (ms : List Mark) : Type 0 where
  pub pieces : List Piece
  pub more : List Part
  pub cut : ps ≡ map sound pieces ++ more
  pub tokens : marks_of pieces ≡ ms
  pub no_blocks : IsTrue (list_all is_no_block pieces)
  pub ends : IsTrue (ends_in_token pieces)

skipped : (p : Piece) (ps : List Part) (m : Mark) (ms : List Mark) → ((qs : List Piece) → marks_of (p ∷ qs) ≡ marks_of qs) → is_no_block p ≡ true → Front ps (m ∷ ms) → Front (sound p ∷ ps) (m ∷ ms)
skipped p ps m ms none plain f = record {
  pieces = p ∷ f.pieces;
  more = f.more;
  cut = ap (λ (l : List Part). sound p ∷ l) f.cut;
  tokens = none f.pieces ∙ f.tokens;
  no_blocks = ap (λ (b : Bool). b && list_all is_no_block f.pieces) plain ∙ f.no_blocks;
  ends = by f.pieces f.ends;
}
  where
    by : (qs : List Piece) → IsTrue (ends_in_token qs) → IsTrue (ends_in_token (p ∷ qs))
    by [] h = absurd (true≢false (sym h))
    by (q ∷ qs) h = subst IsTrue (sym (ends_more p q qs)) h

front : (ps : List Part) (m : Mark) (ms r : List Mark) → seen ps ≡ m ∷ (ms ++ r) → Front ps (m ∷ ms)
front [] m ms r e = absurd cc
front (sound (lexeme k bytes) ∷ ps) m [] r e = record {
  pieces = lexeme k bytes ∷ [];
  more = ps;
  cut = refl;
  tokens = ap (λ (o : Mark). o ∷ []) (heads (mark_of k) m (seen ps) r e);
  no_blocks = refl;
  ends = refl;
}
front (sound (lexeme k bytes) ∷ ps) m (o ∷ ms) r e =
    let f = front ps o ms r (tails (mark_of k) m (seen ps) (o ∷ (ms ++ r)) e) in
    record {
      pieces = lexeme k bytes ∷ f.pieces;
      more = f.more;
      cut = ap (λ (l : List Part). sound (lexeme k bytes) ∷ l) f.cut;
      tokens = λ i. heads (mark_of k) m (seen ps) (o ∷ (ms ++ r)) e i ∷ f.tokens i;
      no_blocks = f.no_blocks;
      ends = last f.pieces f.ends;
    }
  where
    last : (qs : List Piece) → IsTrue (ends_in_token qs) → IsTrue (ends_in_token (lexeme k bytes ∷ qs))
    last [] h = refl
    last (q ∷ qs) h = h
front (sound (blank b) ∷ ps) m ms r e = skipped (blank b) ps m ms (λ qs. refl) refl (front ps m ms r e)
front (sound (line body) ∷ ps) m ms r e = skipped (line body) ps m ms (λ qs. refl) refl (front ps m ms r e)
front (sound (block body) ∷ ps) m ms r e = absurd cc
front (stray b ∷ ps) m ms r e = absurd cc
front (bad_string raw ∷ ps) m ms r e = absurd cc
front (open_string raw ∷ ps) m ms r e = absurd cc
front (open_block body ∷ ps) m ms r e = absurd cc

-- ---- the value at a place

pub fit_before : (ps : List Piece) (more : List Part) → PartsFit (map sound ps ++ more) → FitBefore ps (parts_text more)
fit_before [] more h = tt
fit_before (p ∷ ps) more (f, h) = (let F : List ℕ → Type 0 = λ u. Fits p u in subst F (text_before ps more) f, fit_before ps more h)

take_front : (a b : List ℕ) → take (length a) (a ++ b) ≡ a
take_front [] b = refl
take_front (x ∷ a) b = ap (λ (l : List ℕ). x ∷ l) (take_front a b)

drop_front : (a b : List ℕ) → drop (length a) (a ++ b) ≡ b
drop_front [] b = refl
drop_front (x ∷ a) b = drop_front a b

some_bytes : (ps : List Piece) (rest : List ℕ) → FitBefore ps rest → IsTrue (ends_in_token ps) → 0 < length (text_of ps)
some_bytes ps rest f h = by (text_of ps) refl
  where
    by : (t : List ℕ) → text_of ps ≡ t → 0 < length t
    by [] e = absurd (some_text ps rest f h e)
    by (b ∷ t) e = omega arith

-- what is cut so from a place on, and has the tokens of a value, spells it
spells_by : (bytes : List ℕ) (at : ℕ) (ms : List Mark) (v : Value) → Front (parts (drop at bytes)) ms → Spells ms v → (to : ℕ) × SpellsFrom bytes at to v
spells_by bytes at ms v f s =
    let t = drop at bytes in
    let n = length (text_of f.pieces) in
    let F : List Part → Type 0 = λ qs. PartsFit qs in
    let G : List ℕ → Type 0 = λ u. FitBefore f.pieces u in
    let H : List Mark → Type 0 = λ l. Spells l v in
    let whole : t ≡ text_of f.pieces ++ parts_text f.more = sym (cut_fits t).0 ∙ ap parts_text f.cut ∙ text_before f.pieces f.more in
    let behind : drop (at + n) bytes ≡ parts_text f.more = sym (drop-drop n at bytes) ∙ ap (λ (u : List ℕ). drop n u) whole ∙ drop_front (text_of f.pieces) (parts_text f.more) in
    let fits = fit_before f.pieces f.more (subst F f.cut (cut_fits t).1) in
    let size : 0 < n = some_bytes f.pieces (parts_text f.more) fits f.ends in (
      at + n,
      record {
        inside = omega (arith, size, length-drop at bytes, ap length whole, length-append (text_of f.pieces) (parts_text f.more));
        pieces = f.pieces;
        cut = ap (λ (k : ℕ). take k t) (omega arith) ∙ ap (λ (u : List ℕ). take n u) whole ∙ take_front (text_of f.pieces) (parts_text f.more);
        fit = subst G (sym behind) fits;
        no_blocks = f.no_blocks;
        ends = f.ends;
        spells = subst H (sym f.tokens) s;
      },
    )

-- of a value that is there: the tokens in sight are those of its spelling, before others
seen_at : (bytes : List ℕ) (at to : ℕ) (v : Value) (s : SpellsFrom bytes at to v) → seen (parts (drop at bytes)) ≡ marks s.spells.0 (seen (parts (drop to bytes)))
seen_at bytes at to v s =
    let q = seen (parts (drop to bytes)) in
    ap seen (cut_at bytes at to v s) ∙ seen_before s.pieces (parts (drop to bytes)) s.no_blocks ∙ ap (λ (ms : List Mark). ms ++ q) s.spells.3 ∙ joined s.spells.0 [] q

abbrev pub ValueAt : List ℕ → ℕ → Type 0
ValueAt bytes at = (to : ℕ) × (v : Value) × SpellsFrom bytes at to v

-- the spelling that is read is that of each value there
is_read : (bytes : List ℕ) (at to : ℕ) (v : Value) (s : SpellsFrom bytes at to v) → read (2 * length (seen (parts (drop at bytes)))) (seen (parts (drop at bytes))) ≡ Some (s.spells.0, seen (parts (drop to bytes)))
is_read bytes at to v s =
    let ms = seen (parts (drop at bytes)) in
    let r = seen (parts (drop to bytes)) in
    let e = seen_at bytes at to v s in
    ap (read (2 * length ms)) e ∙ read_marks s.spells.0 (2 * length ms) r s.spells.1 (omega (arith, few_steps s.spells.0 r, ap length e))

first_mark : (s : Spelling) (r : List Mark) → (m : Mark) × (ms : List Mark) × (marks s [] ≡ m ∷ ms)
first_mark (truth_word b) r = (_, _, refl)
first_mark (digits n) r = (_, _, refl)
first_mark (minus n) r = (_, _, refl)
first_mark (quoted w) r = (_, _, refl)
first_mark (named w) r = (_, _, refl)
first_mark (braces ss) r = (_, _, refl)
first_mark (angles ss) r = (_, _, refl)
first_mark (fields x s fs) r = (_, _, refl)
first_mark (pairs d s ps) r = (_, _, refl)

none_is_some : {A : Type 0} (a : A) → None ≡ Some a → ⊥
none_is_some a e = cc

pub value_told : (bytes : List ℕ) (at : ℕ) → Told (ValueAt bytes at)
value_told bytes at = by (read (2 * length ms) ms) refl
  where
    ms : List Mark
    ms = seen (parts (drop at bytes))

    -- the spelling of a value there, and what is read
    pair_of : (x : ValueAt bytes at) (p : Spelling × List Mark) → read (2 * length ms) ms ≡ Some p → (x.2.spells.0, seen (parts (drop x.0 bytes))) ≡ p
    pair_of x p e = same_Some (x.2.spells.0, seen (parts (drop x.0 bytes))) p (sym (is_read bytes at x.0 x.1 x.2) ∙ e)

    found : (s : Spelling) (r : List Mark) → read (2 * length ms) ms ≡ Some (s, r) → Told (ms ≡ marks s r) → Told (IsGood s) → Told (IsWithin s deepest_value) → Told (ValueAt bytes at)
    found s r e (inl m) (inl g) (inl w) =
        let first = first_mark s r in
        let begin : ms ≡ first.0 ∷ (first.1 ++ r) = m ∙ sym (joined s [] r) ∙ ap (λ (l : List Mark). l ++ r) first.2 in
        let F : List Mark → Type 0 = λ l. Front (parts (drop at bytes)) l in
        let there = spells_by bytes at (marks s []) (spelled s) (subst F (sym first.2) (front (parts (drop at bytes)) first.0 first.1 r begin)) (s, g, w, refl, refl) in
        inl (there.0, spelled s, there.1)
    found s r e (inr n) g w = inr (λ x. let p = pair_of x (s, r) e in n (seen_at bytes at x.0 x.1 x.2 ∙ ap (λ (o : Spelling × List Mark). marks o.0 o.1) p))
    found s r e (inl m) (inr n) w = inr (λ x. let G : Spelling → Type 0 = λ o. IsGood o in n (subst G (ap (λ (o : Spelling × List Mark). o.0) (pair_of x (s, r) e)) x.2.spells.1))
    found s r e (inl m) (inl g) (inr n) = inr (λ x. let W : Spelling → Type 0 = λ o. IsWithin o deepest_value in n (subst W (ap (λ (o : Spelling × List Mark). o.0) (pair_of x (s, r) e)) x.2.spells.2))

    by : (o : Option (Spelling × List Mark)) → read (2 * length ms) ms ≡ o → Told (ValueAt bytes at)
    by None e = inr (λ x. none_is_some (x.2.spells.0, seen (parts (drop x.0 bytes))) (sym e ∙ is_read bytes at x.0 x.1 x.2))
    by (Some (s, r)) e = found s r e (marks_told ms (marks s r)) (good s) (within s deepest_value)
