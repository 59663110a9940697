-- Where no segment of a file is faulty, its tokens are its sound parts.
use Rattle.std.proofs.Common.{◌≡◌, ℕ, Bool, true, false, ◌&&◌, nat_eq, List, [], ◌∷◌, ◌++◌, Option, Some, None, codes, refl, sym, ap, subst, ◌∙◌, append_assoc, append-nil}
use Rattle.std.specs.Prelude.{if◌then◌else◌, option_map}
use Rattle.tla_token.specs.Lexemes.{Kind, is_blank}
use Rattle.tla_token.specs.Tokens.{blank, block, line, lexeme}
use Rattle.tla_token.specs.Offences.{Part, sound, stray, bad_string, open_string, open_block, part_offences, PartFits}
use Rattle.tla_token.specs.Cut.{part_at, lexeme_part}
use Rattle.tla_token.specs.TokensSeen.{part_kind}
use Rattle.tla_token.proofs.Faulty.{sound_part}
use Rattle.tla_token.proofs.Signed.{to_lexeme}
use Rattle.tla_token.proofs.Parted.{same_some}
use Rattle.tla_token.proofs.Cutting.{front_cut}
use Rattle.module_tree.specs.TextFront.{Text, begins}
use Rattle.module_tree.specs.HeaderAndRegion.{is_header, is_begin, is_end}
use Rattle.module_tree.specs.Beginnings.{is_rule, begins_bar, ends_module}
use Rattle.module_tree.specs.ModuleParts.{kind_in, module_part}
use Rattle.module_tree.specs.Walk.{Segment, State, in_module, opened, at_end_line, segment_at, Located, walk_from, walk, at_start}
use Rattle.module_tree.specs.FileParts.{is_newline, holds_algorithm, region_of, before_spot, after_spot, up_to_first, after_first, after_comment}
use Rattle.module_tree.specs.FileUnits.{kind_of_segment, token_in, with_token, tokens_in}
use Rattle.module_tree.specs.FileOffences.{segment_offences, offences_of}
use Rattle.module_split.specs.SplitSeen.{plain_kind, plain_token, plain_tokens}
use Rattle.module_tree.proofs.WalkPlace.{both_empty, up_to_whole, before_whole, offences_append, Met, met}
use Rattle.module_tree.proofs.WalkWhole.{alone}
use Rattle.module_tree.proofs.InsidePieces.{no_bad}

-- ---- parts

abbrev IsPlain : ℕ → Part → Type 0
IsPlain at q = part_offences false at q ≡ [] → kind_in q ≡ part_kind q

fits_plain : (at : ℕ) (q : Part) (rest : Text) → PartFits q rest → IsPlain at q
fits_plain at (sound (blank b)) rest f h = refl
fits_plain at (sound (block body)) rest f h = refl
fits_plain at (sound (line body)) rest f h = refl
fits_plain at (sound (lexeme k bytes)) rest f h = refl
fits_plain at (stray b) rest f h = refl
fits_plain at (bad_string raw) rest f h = (let s = sound_part false at (bad_string raw) rest f h in absurd (no_bad raw s.0 s.1))
fits_plain at (open_string raw) rest f h = absurd cc
fits_plain at (open_block body) rest f h = refl

at_plain : (at b : ℕ) (s : Text) → IsPlain at (part_at b s)
at_plain at b s = (let c = front_cut b s in subst (IsPlain at) (same_some c.part (part_at b s) (sym c.first)) (fits_plain at c.part c.rest c.fits))

module_plain : (at b : ℕ) (s : Text) → IsPlain at (module_part b s)
module_plain at b s = by (is_blank b) refl (nat_eq b 34) refl (begins (b ∷ s) (codes "(*")) refl (begins (b ∷ s) (codes "\\*")) refl (is_rule (b ∷ s)) refl (begins_bar s) refl
  where
    as_at : part_at b s ≡ module_part b s → IsPlain at (module_part b s)
    as_at e = subst (IsPlain at) e (at_plain at b s)

    by : (i : Bool) → is_blank b ≡ i → (j : Bool) → nat_eq b 34 ≡ j → (k : Bool) → begins (b ∷ s) (codes "(*") ≡ k → (l : Bool) → begins (b ∷ s) (codes "\\*") ≡ l
        → (m : Bool) → is_rule (b ∷ s) ≡ m → (n : Bool) → begins_bar s ≡ n → IsPlain at (module_part b s)
    by true i j jj k kk l ll m mm n nn = as_at (rw i refl)
    by false i true j k kk l ll m mm n nn = as_at (rw (i, j) refl)
    by false i false j true k l ll m mm n nn = as_at (rw (i, j, k) refl)
    by false i false j false k true l m mm n nn = as_at (rw (i, j, k, l) refl)
    by false i false j false k false l true m n nn = rw (i, j, k, l, m) (λ h. refl)
    by false i false j false k false l false m true n =
        let single : IsPlain at (lexeme_part b []) = subst (IsPlain at) (to_lexeme b [] i j (alone b)) (at_plain at b []) in
        rw (i, j, k, l, m, n) single
    by false i false j false k false l false m false n = as_at (rw (i, j, k, l, m, n) refl)

-- ---- segments

abbrev IsPlainSegment : ℕ → Segment → Type 0
IsPlainSegment at g = segment_offences at g ≡ [] → kind_of_segment g ≡ plain_kind g

inside_plain : (at : ℕ) (marked first : Bool) (b : ℕ) (s : Text) → IsPlainSegment at (in_module marked first b s)
inside_plain at marked first b s = by (first && is_begin (b ∷ s)) refl (first && is_end (b ∷ s)) refl (first && is_header (b ∷ s)) refl (ends_module (b ∷ s)) refl
  where
    at_begin : (o : Option (Text × Text)) → IsPlainSegment at (opened o (b ∷ s))
    at_begin None h = refl
    at_begin (Some (v, w)) h = refl

    by : (i : Bool) → (first && is_begin (b ∷ s)) ≡ i → (j : Bool) → (first && is_end (b ∷ s)) ≡ j → (k : Bool) → (first && is_header (b ∷ s)) ≡ k → (l : Bool) → ends_module (b ∷ s) ≡ l → IsPlainSegment at (in_module marked first b s)
    by true i j jj k kk l ll = rw i (at_begin (if marked then None else at_end_line false (b ∷ s)))
    by false i true j k kk l ll = rw (i, j) (λ h. refl)
    by false i false j true k l ll = rw (i, j, k) (λ h. absurd cc)
    by false i false j false k true l = rw (i, j, k, l) (λ h. refl)
    by false i false j false k false l = rw (i, j, k, l) (module_plain at b s)

segment_plain : (at : ℕ) (st : State) (b : ℕ) (s : Text) → IsPlainSegment at (segment_at st b s)
segment_plain at st b s = by st.headed refl (is_header (b ∷ s)) refl
  where
    by : (i : Bool) → st.headed ≡ i → (k : Bool) → is_header (b ∷ s) ≡ k → IsPlainSegment at (segment_at st b s)
    by true i k kk = rw i (inside_plain at st.marked (nat_eq st.place.col 1) b s)
    by false i true k = rw (i, k) (λ h. refl)
    by false i false k = rw (i, k) (λ h. refl)

met_plain : (st : State) (d : Located) → Met st d → segment_offences d.at d.is ≡ [] → token_in d ≡ plain_token d
met_plain st d m h =
    let is : segment_at st m.b m.s ≡ d.is = ap (λ (d : Located). d.is) m.is in
    let same : kind_of_segment d.is ≡ plain_kind d.is = subst (IsPlainSegment d.at) is (segment_plain d.at st m.b m.s) h in
    ap (λ (o : Option Kind). option_map (λ k. record { kind = k; at = d.at; place = d.place }) o) same

-- ---- the tokens among them

pub plain_all : (st : State) (t : Text) (front es bs : List Located) → walk_from st 0 t ≡ front ++ (es ++ bs) → offences_of es ≡ [] → tokens_in es ≡ plain_tokens es
plain_all st t front [] bs w h = refl
plain_all st t front (d ∷ es) bs w h =
    let none = both_empty (segment_offences d.at d.is) (offences_of es) h in
    let here : token_in d ≡ plain_token d = met_plain _ d (met front d (es ++ bs) st t w) none.0 in
    let further : walk_from st 0 t ≡ (front ++ d ∷ []) ++ (es ++ bs) = w ∙ sym (append_assoc front (d ∷ []) (es ++ bs)) in
    (λ i. with_token (here i) (plain_all st t (front ++ d ∷ []) es bs further none.1 i))

-- the file is its segments before the place of a translation, an old one, and those after it
record Round (x : Text) : Type 0 where
  old : List Located
  whole : walk x ≡ before_spot (walk x) ++ (old ++ after_spot (walk x))

round : (x : Text) → Round x
round x = by (region_of (walk x)) refl
  where
    by : (o : Option Located) → region_of (walk x) ≡ o → Round x
    by (Some r) k = record { old = r ∷ []; whole = rw k (before_whole _ (walk x) r k) }
    by None k =
        let es = walk x in
        let comment = up_to_whole holds_algorithm es in
        let line = up_to_whole is_newline (after_comment es) in
        record {
          old = [];
          whole =
              rw k (sym comment ∙ ap (λ (fs : List Located). up_to_first holds_algorithm es ++ fs) (sym line)
              ∙ sym (append_assoc (up_to_first holds_algorithm es) (up_to_first is_newline (after_comment es)) (after_first is_newline (after_comment es))));
        }

pub tokens_before : (x : Text) → offences_of (walk x) ≡ [] → tokens_in (before_spot (walk x)) ≡ plain_tokens (before_spot (walk x))
tokens_before x h =
    let r = round x in
    let front = before_spot (walk x) in
    let rest = r.old ++ after_spot (walk x) in
    plain_all at_start x [] front rest r.whole (both_empty (offences_of front) (offences_of rest) (sym (ap offences_of r.whole ∙ offences_append front rest) ∙ h)).0

pub tokens_after : (x : Text) → offences_of (walk x) ≡ [] → tokens_in (after_spot (walk x)) ≡ plain_tokens (after_spot (walk x))
tokens_after x h =
    let r = round x in
    let front = before_spot (walk x) ++ r.old in
    let back = after_spot (walk x) in
    let whole : walk x ≡ front ++ back = r.whole ∙ sym (append_assoc (before_spot (walk x)) r.old back) in
    plain_all at_start x front back [] (whole ∙ ap (λ (fs : List Located). front ++ fs) (sym (append-nil back))) (both_empty (offences_of front) (offences_of back) (sym (ap offences_of whole ∙ offences_append front back) ∙ h)).1
