-- A text of the module that is cut into pieces is walked piece by piece, where no bar is in it and no comment goes to a line's end.
use Rattle.std.proofs.Common.{◌≡◌, ℕ, Bool, true, false, not, ◌&&◌, nat_eq, List, [], ◌∷◌, ◌++◌, Some, None, refl, sym, ap, subst, ◌∙◌, codes, append_assoc}
use Rattle.std.specs.List.{list_all}
use Rattle.std.proofs.Math.Seq.{take-append_seam}
use Rattle.std.proofs.lemmas.Bool.{and_parts, or_parts, not-true, false_from_ne_true}
use Rattle.tla_token.specs.Lexemes.{Kind, name, number, string, one, other, is_word, is_blank, unquoted, IsLexeme}
use Rattle.tla_token.specs.Tokens.{Token, Piece, blank, block, line, lexeme, bytes_of, text_of, Fits, AllFit, tokens_of}
use Rattle.tla_token.specs.Offences.{Part, sound}
use Rattle.tla_token.specs.Cut.{part_at}
use Rattle.tla_token.proofs.Words.{digits_words}
use Rattle.tla_token.proofs.Signed.{tells_other}
use Rattle.tla_token.proofs.Front.{closes_len, quote_front}
use Rattle.tla_token.proofs.Parted.{first_part, fits_first, same_some, some_part}
use Rattle.tla_token.proofs.Faulty.{sound_fine}
use Rattle.module_tree.specs.TextFront.{Text, begins, is_space, past_all, past_word}
use Rattle.module_tree.specs.HeaderAndRegion.{is_header, is_begin, is_end}
use Rattle.module_tree.specs.Beginnings.{is_rule, ends_module, begins_bar}
use Rattle.module_tree.specs.ModuleParts.{module_part}
use Rattle.module_tree.specs.Walk.{Segment, part, State, segment_at, after_segment, Located, walk_from}
use Rattle.module_tree.specs.FileParts.{first_that}
use Rattle.module_tree.specs.FileUnits.{tokens_in}
use Rattle.module_tree.specs.FileOffences.{offences_of}
use Rattle.module_tree.specs.laws.Walks.{located, are_calm}
use Rattle.module_tree.specs.laws.Walks as segments
use Rattle.module_tree.proofs.WalkWritten.{one_segment}

-- ---- pieces among which is no bar

-- no bar begins here or a byte further
abbrev pub barless : Text → Bool
barless [] = true
barless (b ∷ s) = not (begins_bar (b ∷ s)) && not (begins_bar s)

-- no bar reaches into a lexeme of this kind: names and numbers hold no byte of one, and strings are cut before bars are looked for
abbrev pub unbarred : Kind → Text → Text → Bool
unbarred (name w) bytes rest = not (begins_bar rest)
unbarred (number n) bytes rest = not (begins_bar rest)
unbarred (string w) bytes rest = true
unbarred k bytes rest = barless (bytes ++ rest)

abbrev pub are_barless : List Piece → Bool
are_barless [] = true
are_barless (lexeme k bytes ∷ ps) = unbarred k bytes (text_of ps) && are_barless ps
are_barless (line body ∷ ps) = false
are_barless (p ∷ ps) = are_barless ps

pub word_bar : (b : ℕ) (s : Text) → is_word b ≡ true → begins_bar (b ∷ s) ≡ false
word_bar b s h = rw (tells_other is_word 45 b h refl, tells_other is_word 61 b h refl) refl

blank_bar : (b : ℕ) (s : Text) → is_blank b ≡ true → begins_bar (b ∷ s) ≡ false
blank_bar b s h = rw (tells_other is_blank 45 b h refl, tells_other is_blank 61 b h refl) refl

words_barless : (b : ℕ) (w rest : Text) → list_all is_word (b ∷ w) ≡ true → not (begins_bar rest) ≡ true → barless ((b ∷ w) ++ rest) ≡ true
words_barless b [] rest h k = rw (word_bar b rest (and_parts (is_word b) true h).0, not-true (begins_bar rest) k) refl
words_barless b (c ∷ w) rest h k =
    let x = and_parts (is_word b) (list_all is_word (c ∷ w)) h in
    let y = and_parts (is_word c) (list_all is_word w) x.1 in
    rw (word_bar b (c ∷ (w ++ rest)) x.0, word_bar c (w ++ rest) y.0) refl

-- a lexeme but a string
barless_lexeme : (k : Kind) (b : ℕ) (m rest : Text) → ((w : Text) → k ≡ string w → ⊥) → IsLexeme k (b ∷ m) → unbarred k (b ∷ m) rest ≡ true → barless ((b ∷ m) ++ rest) ≡ true
barless_lexeme (name w) b m rest n h k = words_barless b m rest (ap (list_all is_word) h.0 ∙ h.1.0) k
barless_lexeme (number i) b m rest n h k = words_barless b m rest (digits_words (b ∷ m) h.1) k
barless_lexeme (string w) b m rest n h k = absurd (n w refl)
barless_lexeme (one s) b m rest n h k = k
barless_lexeme (other w) b m rest n h k = k

-- ---- a piece is found here

-- its first byte and the others, before the rest
pub record Here (p : Piece) (rest : Text) : Type 0 where
  pub b : ℕ
  pub m : Text
  pub is : bytes_of p ≡ b ∷ m
  pub found : module_part b (m ++ rest) ≡ sound p
  pub bar : begins_bar (b ∷ (m ++ rest)) ≡ false

no_bar_near : (b : ℕ) (s : Text) → barless (b ∷ s) ≡ true → (begins_bar (b ∷ s) ≡ false) × (begins_bar s ≡ false)
no_bar_near b s h =
    let k = and_parts (not (begins_bar (b ∷ s))) (not (begins_bar s)) h in
    (not-true (begins_bar (b ∷ s)) k.0, not-true (begins_bar s) k.1)

-- where no bar is, the parts of a module are those of any text
part_kept : (b : ℕ) (s : Text) → begins_bar (b ∷ s) ≡ false → begins_bar s ≡ false → module_part b s ≡ part_at b s
part_kept b s h k = (let r = (or_parts (is_rule (b ∷ s)) (ends_module (b ∷ s)) h).0 in rw (r, k) refl)

-- a piece that fits is the first part
first_found : (p : Piece) (b : ℕ) (m rest : Text) → bytes_of p ≡ b ∷ m → Fits p rest → part_at b (m ++ rest) ≡ sound p
first_found p b m rest e h = same_some (part_at b (m ++ rest)) (sound p) (ap (λ (u : Text). first_part (u ++ rest)) (sym e) ∙ fits_first (sound p) rest h)

lexeme_here : (k : Kind) (bytes rest : Text) → ((w : Text) → k ≡ string w → ⊥) → Fits (lexeme k bytes) rest → unbarred k bytes rest ≡ true → Here (lexeme k bytes) rest
lexeme_here k [] rest n h u = absurd (some_part (sound (lexeme k [])) rest h refl)
lexeme_here k (b ∷ m) rest n h u =
    let near = no_bar_near b (m ++ rest) (barless_lexeme k b m rest n h.1 u) in
    record {
      b = b;
      m = m;
      is = refl;
      found = part_kept b (m ++ rest) near.0 near.1 ∙ first_found (lexeme k (b ∷ m)) b m rest refl h;
      bar = near.0;
    }

string_here : (w raw rest : Text) → unquoted raw ≡ Some w → Here (lexeme (string w) (34 ∷ (raw ++ 34 ∷ []))) rest
string_here w raw rest u = record {
  b = 34;
  m = raw ++ 34 ∷ [];
  is = refl;
  found = ap (module_part 34) (append_assoc raw (34 ∷ []) rest) ∙ quote_front raw rest w u;
  bar = refl;
}

-- of pieces before others
pub here : (p : Piece) (ps : List Piece) → AllFit (p ∷ ps) → are_barless (p ∷ ps) ≡ true → Here p (text_of ps)
here (blank b) ps h k = record { b = b; m = []; is = refl; found = rw h.0 refl; bar = blank_bar b (text_of ps) h.0 }
here (block body) ps h k =
    let n = closes_len 1 body (text_of ps) h.0 in
    record { b = 40; m = 42 ∷ body; is = refl; found = rw (n, take-append_seam body (text_of ps)) refl; bar = refl }
here (line body) ps h k = absurd cc
here (lexeme (string w) bytes) ps h k =
    let l = h.0.1 in
    subst (λ (bytes : Text). Here (lexeme (string w) bytes) (text_of ps)) (sym l.1) (string_here w l.0 (text_of ps) l.2)
here (lexeme (name w) bytes) ps h k =
    lexeme_here (name w) bytes (text_of ps) (λ v e. cc) h.0 (and_parts (unbarred (name w) bytes (text_of ps)) (are_barless ps) k).0
here (lexeme (number n) bytes) ps h k =
    lexeme_here (number n) bytes (text_of ps) (λ v e. cc) h.0 (and_parts (unbarred (number n) bytes (text_of ps)) (are_barless ps) k).0
here (lexeme (one s) bytes) ps h k =
    lexeme_here (one s) bytes (text_of ps) (λ v e. cc) h.0 (and_parts (unbarred (one s) bytes (text_of ps)) (are_barless ps) k).0
here (lexeme (other w) bytes) ps h k =
    lexeme_here (other w) bytes (text_of ps) (λ v e. cc) h.0 (and_parts (unbarred (other w) bytes (text_of ps)) (are_barless ps) k).0

pub barless_rest : (p : Piece) (ps : List Piece) → are_barless (p ∷ ps) ≡ true → are_barless ps ≡ true
barless_rest (blank b) ps k = k
barless_rest (block body) ps k = k
barless_rest (line body) ps k = absurd cc
barless_rest (lexeme j bytes) ps k = (and_parts (unbarred j bytes (text_of ps)) (are_barless ps) k).1

-- ---- no line of a header or of a translation begins here

-- a lexeme is no blank
unblank : (b : ℕ) (s : Text) (k : Kind) (bytes : Text) → module_part b s ≡ sound (lexeme k bytes) → is_blank b ≡ false
unblank b s k bytes e = false_from_ne_true (is_blank b) (λ t. (let x : sound (blank b) ≡ sound (lexeme k bytes) = sym (blank_first b s t) ∙ e in cc))
  where
    blank_first : (b : ℕ) (s : Text) → is_blank b ≡ true → module_part b s ≡ sound (blank b)
    blank_first b s t = rw t refl

-- neither `\*` nor dashes are after the blanks at the front
abbrev pub Lineless : Text → Type 0
Lineless s = (past_word (codes "\\*") (past_all is_space s) ≡ None) × (past_word (codes "----") (past_all is_space s) ≡ None)

other_front : (b : ℕ) (s : Text) → is_blank b ≡ false → begins (b ∷ s) (codes "\\*") ≡ false → begins_bar (b ∷ s) ≡ false → Lineless (b ∷ s)
other_front b s h k n = (let r = (or_parts (is_rule (b ∷ s)) (ends_module (b ∷ s)) n).0 in (rw (h, k) refl, rw (h, r) refl))

pub lineless : (ps : List Piece) → AllFit ps → are_barless ps ≡ true → Lineless (text_of ps)
lineless [] h k = (refl, refl)
lineless (blank b ∷ ps) h k = by (is_space b) refl (lineless ps h.1 k)
  where
    by : (t : Bool) → is_space b ≡ t → Lineless (text_of ps) → Lineless (b ∷ text_of ps)
    by true t l = (rw t l.0, rw t l.1)
    by false t l = (rw (t, tells_other is_blank 92 b h.0 refl) refl, rw (t, tells_other is_blank 45 b h.0 refl) refl)
lineless (block body ∷ ps) h k = (refl, refl)
lineless (line body ∷ ps) h k = absurd cc
lineless (lexeme j bytes ∷ ps) h k =
    let x = here (lexeme j bytes) ps h k in
    let is : bytes ++ text_of ps ≡ x.b ∷ (x.m ++ text_of ps) = ap (λ (u : Text). u ++ text_of ps) x.is in
    let filled = unblank x.b (x.m ++ text_of ps) j bytes x.found in
    let none : begins (x.b ∷ (x.m ++ text_of ps)) (codes "\\*") ≡ false =
    ap (λ (u : Text). begins u (codes "\\*")) (sym is) ∙ (or_parts (begins (bytes ++ text_of ps) (codes "(*")) (begins (bytes ++ text_of ps) (codes "\\*")) h.0.0).1 in
    subst Lineless (sym is) (other_front x.b (x.m ++ text_of ps) filled none x.bar)

pub no_mark : (s : Text) → Lineless s → (is_begin s ≡ false) × (is_end s ≡ false) × (is_header s ≡ false)
no_mark s (star, dash) = (rw star refl, rw star refl, rw dash refl)

-- ---- the walk

abbrev pub located_pieces : State → List Piece → List Located
located_pieces st [] = []
located_pieces st (p ∷ ps) = located st (part (sound p)) ∷ located_pieces (after_segment st (part (sound p))) ps

piece_segment : (st : State) (b : ℕ) (s : Text) (p : Piece) → st.headed ≡ true → (is_begin (b ∷ s) ≡ false) × (is_end (b ∷ s) ≡ false) × (is_header (b ∷ s) ≡ false)
    → begins_bar (b ∷ s) ≡ false → module_part b s ≡ sound p → segment_at st b s ≡ part (sound p)
piece_segment st b s p h (no_begin, no_end, no_header) bar e = by (nat_eq st.place.col 1) refl (or_parts (is_rule (b ∷ s)) (ends_module (b ∷ s)) bar).1
  where
    by : (k : Bool) → nat_eq st.place.col 1 ≡ k → ends_module (b ∷ s) ≡ false → segment_at st b s ≡ part (sound p)
    by true k last = rw (h, k, no_begin, no_end, no_header, last, e) refl
    by false k last = rw (h, k, last, e) refl

stays_headed : (st : State) (p : Piece) → st.headed ≡ true → (after_segment st (part (sound p))).headed ≡ true
stays_headed st p h = rw h refl

-- piece by piece
pub pieces_walked : (st : State) (ps : List Piece) → st.headed ≡ true → AllFit ps → are_barless ps ≡ true → walk_from st 0 (text_of ps) ≡ located_pieces st ps
pieces_walked st [] h f k = refl
pieces_walked st (p ∷ ps) h f k =
    let x = here p ps f k in
    let is : bytes_of p ++ text_of ps ≡ x.b ∷ (x.m ++ text_of ps) = ap (λ (u : Text). u ++ text_of ps) x.is in
    let marks = subst (λ (u : Text). (is_begin u ≡ false) × (is_end u ≡ false) × (is_header u ≡ false)) is (no_mark (bytes_of p ++ text_of ps) (lineless (p ∷ ps) f k)) in
    ap (λ (u : Text). walk_from st 0 u) is
    ∙ one_segment st x.b (x.m ++ text_of ps) (part (sound p)) x.m (text_of ps) (piece_segment st x.b (x.m ++ text_of ps) p h marks x.bar x.found) x.is refl
    ∙ ap (λ (ds : List Located). located st (part (sound p)) ∷ ds) (pieces_walked (after_segment st (part (sound p))) ps (stays_headed st p h) f.1 (barless_rest p ps k))

-- its tokens are those of the pieces
pub tokens_are : (st : State) (ps : List Piece) → tokens_in (located_pieces st ps) ≡ tokens_of st.place st.at ps
tokens_are st [] = refl
tokens_are st (blank b ∷ ps) = tokens_are (after_segment st (part (sound (blank b)))) ps
tokens_are st (block body ∷ ps) = tokens_are (after_segment st (part (sound (block body)))) ps
tokens_are st (line body ∷ ps) = tokens_are (after_segment st (part (sound (line body)))) ps
tokens_are st (lexeme k bytes ∷ ps) =
    ap (λ (ts : List Token). record { kind = k; at = st.at; place = st.place } ∷ ts) (tokens_are (after_segment st (part (sound (lexeme k bytes)))) ps)

pub no_offences : (st : State) (ps : List Piece) → offences_of (located_pieces st ps) ≡ []
no_offences st [] = refl
no_offences st (p ∷ ps) = rw (sound_fine st.at p) (no_offences (after_segment st (part (sound p))) ps)

pub pieces_calm : (st : State) (ps : List Piece) → are_calm (located_pieces st ps) ≡ true
pieces_calm st [] = refl
pieces_calm st (p ∷ ps) = pieces_calm (after_segment st (part (sound p))) ps

-- nothing but parts is among them
pub none_among : (q : Segment → Bool) → ((x : Part) → q (part x) ≡ false) → (st : State) (ps : List Piece) (ds : List Located) → first_that q (located_pieces st ps ++ ds) ≡ first_that q ds
none_among q n st [] ds = refl
none_among q n st (p ∷ ps) ds = rw (n (sound p)) (none_among q n (after_segment st (part (sound p))) ps ds)

pub none_in : (q : Segment → Bool) → ((x : Part) → q (part x) ≡ false) → (st : State) (ps : List Piece) → first_that q (located_pieces st ps) ≡ None
none_in q n st [] = refl
none_in q n st (p ∷ ps) = rw (n (sound p)) (none_in q n (after_segment st (part (sound p))) ps)

pub text_located : (st : State) (ps : List Piece) → segments.text_of (located_pieces st ps) ≡ text_of ps
text_located st [] = refl
text_located st (p ∷ ps) = ap (λ (u : Text). bytes_of p ++ u) (text_located (after_segment st (part (sound p))) ps)
