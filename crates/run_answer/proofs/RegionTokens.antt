-- Where no byte and no string of a stretch of a module breaks a rule, its tokens have the words, strings and numbers of a text.
use Rattle.std.proofs.Common.{◌≡◌, ◌⊎◌, inl, inr, ℕ, zero, suc, ◌+◌, ◌-◌, Bool, true, false, ◌&&◌, ◌||◌, nat_eq, List, [], ◌∷◌, ◌++◌, length, drop, Option, Some, None, refl, sym, ap, subst, ◌∙◌, arith, codes, length-append, append-nil, bytes_eq}
use Rattle.std.specs.Prelude.{if◌then◌else◌, option_map}
use Rattle.std.specs.List.{AllByRecursion, starts_with}
use Rattle.std.proofs.Math.Bool.{and-false}
use Rattle.std.proofs.lemmas.List.{take_all}
use Rattle.tla_token.specs.declared.place.Place.{Place}
use Rattle.tla_token.specs.Places.{after, place_at}
use Rattle.tla_token.specs.Cut.{run, lexeme_part, part_at}
use Rattle.tla_token.specs.Lexemes.{Kind, other, is_blank}
use Rattle.tla_token.specs.Offences.{Part, sound, PartFits, part_offences}
use Rattle.tla_token.specs.Tokens.{Token, Piece, blank, block, line, lexeme, text_of, opens_comment, Fits, stretch, Tok}
use Rattle.tla_token.proofs.Cutting.{cut_fits}
use Rattle.tla_token.proofs.Faulty.{sound_part}
use Rattle.tla_tree.specs.Lexical as tk
use Rattle.tla_tree.specs.TokenViews.{kind_of, views}
use Rattle.tla_tree.specs.laws.Writable.{IsOfText, AreOfText, IsSmall, AreSmall}
use Rattle.tla_tree.proofs.TextTokens.{text_tokens}
use Rattle.module_tree.specs.TextFront.{Text, line_here, whole_line}
use Rattle.module_tree.specs.HeaderAndRegion.{is_header, is_begin, is_end}
use Rattle.module_tree.specs.Beginnings.{is_rule, begins_bar, ends_module}
use Rattle.module_tree.specs.ModuleParts.{dashes, barred, module_part, kind_in}
use Rattle.module_tree.specs.Walk.{Segment, free, header, part, region, mark, inner, tail, bytes, State, at_end_line, opened, in_module, segment_at, after_segment, Located, walk_from}
use Rattle.module_tree.specs.FileParts.{inside_region}
use Rattle.module_tree.specs.FileUnits.{kind_of_segment, with_token, tokens_in, begins_unit, cut_at, cut, units_in}
use Rattle.module_tree.specs.FileOffences.{segment_offences, offences_of}
use Rattle.module_tree.specs.Module.{Module}
use Rattle.module_tree.specs.Reading.{ReadsRegion}
use Rattle.module_tree.proofs.WalkPlace.{both_empty}

-- ---- one lexeme

quiet : (w rest : Text) → opens_comment (w ++ rest) ≡ false → opens_comment (w ++ []) ≡ false
quiet [] rest h = refl
quiet (a ∷ []) rest h = λ i. and-false (nat_eq 40 a) i || and-false (nat_eq 92 a) i
quiet (a ∷ b ∷ w) rest h = h

-- what fits before others fits before nothing
alone : (k : Kind) (w rest : Text) → Fits (lexeme k w) rest → Fits (lexeme k w) []
alone k w rest (o, l, m) = (quiet w rest o, l, λ j n more i e. (let s = ap length e in omega (arith, s, length-append w [], length-append n more)))

lexeme_text : (k : Kind) (w rest : Text) → Fits (lexeme k w) rest → IsSmall k → IsOfText (kind_of k)
lexeme_text k w rest f s =
    let t : Token = record { kind = k; at = 0; place = place_at w 0 } in
    let whole : stretch w 0 (length w) ≡ text_of (lexeme k w ∷ []) = take_all (length w - 0) w (omega arith) ∙ sym (append-nil w) in
    let tok : Tok w 0 (length w) (t ∷ []) = record { pieces = lexeme k w ∷ []; cut = whole; fit = (alone k w rest f, tt); tokens = refl } in
    (text_tokens w 0 (length w) (t ∷ []) tok (s, tt)).0

other_text : (w : Text) → IsOfText (kind_of (other w))
other_text w = by (bytes_eq w (codes "'"))
  where
    by : (b : Bool) → IsOfText (if b then tk.mark tk.prime else tk.other w)
    by true = tt
    by false = tt

-- ---- one part

-- a bar of dashes, or what is first in some stretch
abbrev Known : ℕ → Part → Type 0
Known b p = ((w : Text) × (p ≡ dashes w)) ⊎ ((s : Text) × (p ≡ part_at b s))

known_lexeme : (b : ℕ) (s : Text) → is_blank b ≡ false → nat_eq b 34 ≡ false → starts_with nat_eq (b ∷ s) (codes "(*") ≡ false → starts_with nat_eq (b ∷ s) (codes "\\*") ≡ false → Known b (barred b s)
known_lexeme b s i j k l = by (is_rule (b ∷ s)) refl (begins_bar s) refl
  where
    own : lexeme_part b s ≡ part_at b s
    own = rw (i, j, k, l) refl

    lone : lexeme_part b [] ≡ part_at b []
    lone =
        let m : starts_with nat_eq (b ∷ []) (codes "(*") ≡ false = and-false (nat_eq 40 b) in
        let n : starts_with nat_eq (b ∷ []) (codes "\\*") ≡ false = and-false (nat_eq 92 b) in
        rw (i, j, m, n) refl

    by : (r : Bool) → is_rule (b ∷ s) ≡ r → (d : Bool) → begins_bar s ≡ d → Known b (barred b s)
    by true r d e = inl (run (λ c. nat_eq c 45) (b ∷ s), rw r refl)
    by false r true e = inr ([], rw (r, e) lone)
    by false r false e = inr (s, rw (r, e) own)

known : (b : ℕ) (s : Text) → Known b (module_part b s)
known b s = by (is_blank b) refl (nat_eq b 34) refl (starts_with nat_eq (b ∷ s) (codes "(*")) refl (starts_with nat_eq (b ∷ s) (codes "\\*")) refl
  where
    by : (i : Bool) → is_blank b ≡ i → (j : Bool) → nat_eq b 34 ≡ j → (k : Bool) → starts_with nat_eq (b ∷ s) (codes "(*") ≡ k → (l : Bool) → starts_with nat_eq (b ∷ s) (codes "\\*") ≡ l → Known b (module_part b s)
    by true i j jj k kk l ll = inr (s, rw i refl)
    by false i true j k kk l ll = inr (s, rw (i, j) refl)
    by false i false j true k l ll = inr (s, rw (i, j, k) refl)
    by false i false j false k true l = inr (s, rw (i, j, k, l) refl)
    by false i false j false k false l =
        let same : module_part b s ≡ barred b s = rw (i, j, k, l) refl in
        subst (Known b) (sym same) (known_lexeme b s i j k l)

same_kind : (k l : Kind) → Some k ≡ Some l → k ≡ l
same_kind k l e = cc

piece_text : (p : Piece) (rest : Text) → Fits p rest → (k : Kind) → kind_in (sound p) ≡ Some k → IsSmall k → IsOfText (kind_of k)
piece_text (lexeme l w) rest f k e s = (let d = same_kind l k e in lexeme_text k w rest (subst (λ (j : Kind). Fits (lexeme j w) rest) d f) s)
piece_text (blank b) rest f k e s = cc
piece_text (block w) rest f k e s = cc
piece_text (line w) rest f k e s = cc

fit_text : (at : ℕ) (p : Part) (rest : Text) → PartFits p rest → part_offences false at p ≡ [] → (k : Kind) → kind_in p ≡ Some k → IsSmall k → IsOfText (kind_of k)
fit_text at p rest f o k q s =
    let c = sound_part false at p rest f o in
    piece_text c.0 rest (subst (λ (x : Part). PartFits x rest) c.1 f) k (ap kind_in (sym c.1) ∙ q) s

part_text : (at b : ℕ) (p : Part) → Known b p → part_offences false at p ≡ [] → (k : Kind) → kind_in p ≡ Some k → IsSmall k → IsOfText (kind_of k)
part_text at b p (inl (w, e)) o k q s = (let d = same_kind (other w) k (ap kind_in (sym e) ∙ q) in subst (λ (j : Kind). IsOfText (kind_of j)) d (other_text w))
part_text at b p (inr (w, e)) o k q s = fit_text at (part_at b w) _ (cut_fits (b ∷ w)).1.0 (ap (part_offences false at) (sym e) ∙ o) k (ap kind_in (sym e) ∙ q) s

-- ---- one segment

-- no token, a second header, or a part
abbrev Met : ℕ → Text → Segment → Type 0
Met b s g = (kind_of_segment g ≡ None) ⊎ ((w : Text) × (g ≡ inner w)) ⊎ (g ≡ part (module_part b s))

no_token : (o : Option (Text × Text)) (s : Text) → kind_of_segment (opened o s) ≡ None
no_token None s = refl
no_token (Some (v, w)) s = refl

met_in : (marked first : Bool) (b : ℕ) (s : Text) → Met b s (in_module marked first b s)
met_in marked first b s = by (first && is_begin (b ∷ s)) refl (first && is_end (b ∷ s)) refl (first && is_header (b ∷ s)) refl (ends_module (b ∷ s)) refl
  where
    by : (i : Bool) → (first && is_begin (b ∷ s)) ≡ i → (j : Bool) → (first && is_end (b ∷ s)) ≡ j → (k : Bool) → (first && is_header (b ∷ s)) ≡ k → (l : Bool) → ends_module (b ∷ s) ≡ l → Met b s (in_module marked first b s)
    by true i j jj k kk l ll = inl (rw i (no_token (if marked then None else at_end_line false (b ∷ s)) (b ∷ s)))
    by false i true j k kk l ll = inl (rw (i, j) refl)
    by false i false j true k l ll = inr (inl (line_here (b ∷ s), rw (i, j, k) refl))
    by false i false j false k true l = inl (rw (i, j, k, l) refl)
    by false i false j false k false l = inr (inr (rw (i, j, k, l) refl))

met : (st : State) (b : ℕ) (s : Text) → Met b s (segment_at st b s)
met st b s = by st.headed refl (is_header (b ∷ s)) refl
  where
    by : (h : Bool) → st.headed ≡ h → (k : Bool) → is_header (b ∷ s) ≡ k → Met b s (segment_at st b s)
    by true h k kk =
        let is : segment_at st b s ≡ in_module st.marked (nat_eq st.place.col 1) b s = rw h refl in
        subst (Met b s) (sym is) (met_in st.marked (nat_eq st.place.col 1) b s)
    by false h true k = inl (rw (h, k) refl)
    by false h false k = inl (rw (h, k) refl)

kind_text : (at b : ℕ) (s : Text) (g : Segment) → Met b s g → segment_offences at g ≡ [] → (k : Kind) → kind_of_segment g ≡ Some k → IsSmall k → IsOfText (kind_of k)
kind_text at b s g (inl n) o k q m = (let f : None ≡ Some k = sym n ∙ q in absurd cc)
kind_text at b s g (inr (inl (w, e))) o k q m = (let f : segment_offences at (inner w) ≡ [] = ap (segment_offences at) (sym e) ∙ o in absurd cc)
kind_text at b s g (inr (inr e)) o k q m = part_text at b (module_part b s) (known b s) (ap (segment_offences at) (sym e) ∙ o) k (ap kind_of_segment (sym e) ∙ q) m

-- ---- a stretch

-- what is here, and the walk of the rest
abbrev here : State → ℕ → Text → Segment
here st b s = segment_at st b s

abbrev onward : State → ℕ → Text → List Located
onward st b s = walk_from (after_segment st (here st b s)) (length (bytes (here st b s)) - 1) s

abbrev with_kind : State → Option Kind → List Token → List Token
with_kind st o ts = with_token (option_map (λ k. record { kind = k; at = st.at; place = st.place }) o) ts

kind_first : (st : State) (b : ℕ) (s : Text) (ts : List Token) → segment_offences st.at (here st b s) ≡ [] → (AreSmall ts → AreOfText (views ts)) → (o : Option Kind) → kind_of_segment (here st b s) ≡ o → AreSmall (with_kind st o ts) → AreOfText (views (with_kind st o ts))
kind_first st b s ts none f None q h = f h
kind_first st b s ts none f (Some k) q h = (kind_text st.at b s (here st b s) (met st b s) none k q h.0, f h.1)

walk_text : (st : State) (n : ℕ) (t : Text) → offences_of (walk_from st n t) ≡ [] → AreSmall (tokens_in (walk_from st n t)) → AreOfText (views (tokens_in (walk_from st n t)))
walk_text st n [] o m = tt
walk_text st (suc n) (b ∷ s) o m = walk_text st n s o m
walk_text st zero (b ∷ s) o m =
    let none = both_empty (segment_offences st.at (here st b s)) (offences_of (onward st b s)) o in
    kind_first st b s (tokens_in (onward st b s)) none.0 (walk_text (after_segment st (here st b s)) (length (bytes (here st b s)) - 1) s none.1) (kind_of_segment (here st b s)) refl m

-- ---- units

cut_text : (ts : List tk.Token) → AreOfText ts → AreOfText (cut ts).front × AllByRecursion AreOfText (cut ts).units
cut_text [] h = (tt, tt)
cut_text (t ∷ ts) h = by (begins_unit t) (cut_text ts h.1)
  where
    by : (k : Bool) → AreOfText (cut ts).front × AllByRecursion AreOfText (cut ts).units → AreOfText (cut_at k t (cut ts)).front × AllByRecursion AreOfText (cut_at k t (cut ts)).units
    by true (f, u) = (tt, ((h.0, f), u))
    by false (f, u) = ((h.0, f), u)

inside_text : (at : ℕ) (place : Place) (g : Segment) → offences_of (inside_region (record { at = at; place = place; is = g })) ≡ [] → AreSmall (tokens_in (inside_region (record { at = at; place = place; is = g })))
    → AreOfText (views (tokens_in (inside_region (record { at = at; place = place; is = g }))))
inside_text at place (region v w) o m =
    let l = whole_line v in
    walk_text (record { at = at + length l; place = after place l; headed = true; marked = true }) 0 (drop (length l) v) o m
inside_text at place (free w) o m = tt
inside_text at place (header w) o m = tt
inside_text at place (part p) o m = tt
inside_text at place (mark w) o m = tt
inside_text at place (inner w) o m = tt
inside_text at place (tail w) o m = tt

pub units_text : (d : Located) (m : Module) → ReadsRegion d m → AllByRecursion AreOfText (units_in (inside_region d)).units
units_text d m r = (cut_text (views (tokens_in (inside_region d))) (inside_text d.at d.place d.is r.sound r.small)).1
