-- What is before a comment is walked alike, whatever is in the comment and after it.
use Rattle.std.proofs.Common.{◌≡◌, inl, inr, ℕ, suc, ◌+◌, ◌-◌, ◌≤◌, Bool, true, false, ◌&&◌, nat_eq, List, [], ◌∷◌, ◌++◌, length, take, drop, Option, Some, None, refl, sym, ap, subst, ◌∙◌, codes, arith, append_assoc, length-append}
use Rattle.std.proofs.lemmas.Bool.{and_parts, eqb-true, both_ways}
use Rattle.tla_token.specs.Lexemes.{is_blank, unquoted, string}
use Rattle.tla_token.specs.Tokens.{Piece, block, lexeme, EndsLine}
use Rattle.tla_token.specs.Offences.{sound, bad_string, open_string, part_bytes, parts_text, string_len, begins_with, part_offences}
use Rattle.tla_token.specs.Cut.{comment_len, block_part, string_part, part_at, parts_at}
use Rattle.tla_token.proofs.Spelled.{begins_is}
use Rattle.tla_token.proofs.Parted.{len_closes}
use Rattle.tla_token.proofs.Front.{block_front, quote_front}
use Rattle.tla_token.proofs.Cutting.{cut_fits}
use Rattle.tla_token.proofs.Faulty.{sound_part}
use Rattle.module_tree.specs.TextFront.{Text, begins, line_here, whole_line}
use Rattle.module_tree.specs.HeaderAndRegion.{is_header, is_begin, is_end}
use Rattle.module_tree.specs.Beginnings.{ends_module}
use Rattle.module_tree.specs.ModuleParts.{barred, module_part}
use Rattle.module_tree.specs.Walk.{Segment, free, header, part, region, mark, inner, tail, bytes, State, at_end_line, in_module, segment_at, after_segment, Located, walk_from}
use Rattle.module_tree.specs.FileOffences.{segment_offences, offences_of}
use Rattle.module_tree.specs.laws.Walks.{text_of, is_lined, is_calm, are_calm, after_all, located}
use Rattle.module_tree.proofs.EdgeAlike.{at_bracket}
use Rattle.module_tree.proofs.EdgeAlike as edge
use Rattle.module_tree.proofs.WalkResumed.{lined_end, segment_kept, step}
use Rattle.module_tree.proofs.WalkSame.{segment_anywhere}
use Rattle.module_tree.proofs.WalkParted.{segment_short, some_bytes, cancel, first_is, rest_is}
use Rattle.module_tree.proofs.WalkAround.{region_closes}
use Rattle.module_tree.proofs.WalkPlace.{both_empty}
use Rattle.module_tree.proofs.InsidePieces.{no_bad, no_open}
use Rattle.module_tree.proofs.ModuleKept.{Lined, lined}

-- after m a comment begins
abbrev commented : Text → Text → Text
commented m r = m ++ 40 ∷ 42 ∷ r

-- ---- up to a line's end

by_line : (st : State) (b : ℕ) (t y z : Text) (g : Segment) → is_lined (b ∷ t) ≡ true → is_calm g ≡ true → length (bytes g) ≤ length (b ∷ t) → segment_at st b (t ++ y) ≡ g → segment_at st b (t ++ z) ≡ g
by_line st b t y z g e c l is =
    let calm : is_calm (segment_at st b (t ++ y)) ≡ true = ap is_calm is ∙ c in
    let size : length (bytes (segment_at st b (t ++ y))) ≤ length (b ∷ t) = subst (λ (g : Segment). length (bytes g) ≤ length (b ∷ t)) (sym is) l in
    let short = segment_short st b t y e calm size in
    segment_kept st b t z e (ap is_calm (short ∙ is) ∙ c) ∙ short ∙ is

-- ---- parts

-- the bytes so far are before a comment
edge_of : (k m r : Text) → k ++ commented m r ≡ (k ++ m) ++ 40 ∷ (42 ∷ r)
edge_of k m r = sym (append_assoc k m (40 ∷ 42 ∷ r))

abbrev Before : Text → Text → Text → Text → Text → Type 0
Before m r z k [] = ⊥
Before m r z k (b ∷ s) =
    s ≡ k ++ commented m r → part_bytes (module_part b s) ≡ b ∷ k → (EndsLine (commented m r) → ⊥) → is_calm (part (module_part b s)) ≡ true → part_offences false 0 (module_part b s) ≡ []
    → module_part b (k ++ commented m z) ≡ module_part b s

rest_of : (b : ℕ) (s k y : Text) → s ≡ k ++ y → part_bytes (part_at b s) ≡ b ∷ k → parts_text (parts_at (length (part_bytes (part_at b s)) - 1) s) ≡ y
rest_of b s k y e is =
    let rest = parts_text (parts_at (length (part_bytes (part_at b s)) - 1) s) in
    cancel (b ∷ k) rest y (ap (λ (u : Text). u ++ rest) (sym is) ∙ (cut_fits (b ∷ s)).0 ∙ ap (λ (s : Text). b ∷ s) e)

block_before : (m r z k s : Text) → Before m r z k (40 ∷ 42 ∷ s)
block_before m r z k s e is ends calm fine = by (comment_len 1 s) refl
  where
    by : (o : Option ℕ) → comment_len 1 s ≡ o → module_part 40 (k ++ commented m z) ≡ module_part 40 (42 ∷ s)
    by None o = (let x : true ≡ false = sym calm ∙ ap (λ (o : Option ℕ). is_calm (part (block_part o s))) o in absurd cc)
    by (Some n) o =
        let body = take n s in
        let found : module_part 40 (42 ∷ s) ≡ sound (block body) = ap (λ (o : Option ℕ). block_part o s) o in
        let k_is : 42 ∷ body ≡ k = cancel (40 ∷ []) (42 ∷ body) k (ap part_bytes (sym found) ∙ is) in
        ap (λ (k : Text). module_part 40 (k ++ commented m z)) (sym k_is) ∙ block_front body (commented m z) (len_closes 1 s n o).1 ∙ sym found

line_before : (m r z k s : Text) → Before m r z k (92 ∷ 42 ∷ s)
line_before m r z k s e is ends calm fine =
    let f = (cut_fits (92 ∷ 42 ∷ s)).1.0 in
    absurd (ends (subst EndsLine (rest_of 92 (42 ∷ s) k (commented m r) e is) f.1))

string_before : (m r z k s : Text) → Before m r z k (34 ∷ s)
string_before m r z k s e is ends calm fine = by (begins_with 34 rest) refl (unquoted raw) refl
  where
    raw : Text
    raw = take (string_len s) s

    rest : Text
    rest = drop (string_len s) s

    piece : (p : Piece) × (part_at 34 s ≡ sound p)
    piece = sound_part false 0 (part_at 34 s) (parts_text (parts_at (length (part_bytes (part_at 34 s)) - 1) s)) (cut_fits (34 ∷ s)).1.0 fine

    by : (j : Bool) → begins_with 34 rest ≡ j → (o : Option Text) → unquoted raw ≡ o → module_part 34 (k ++ commented m z) ≡ module_part 34 s
    by true j None o = (let x : string_part raw rest ≡ bad_string raw = rw (j, o) refl in absurd (no_bad raw piece.0 (sym x ∙ piece.1)))
    by true j (Some w) o =
        let found : string_part raw rest ≡ sound (lexeme (string w) (34 ∷ (raw ++ 34 ∷ []))) = rw (j, o) refl in
        let k_is : raw ++ 34 ∷ [] ≡ k = cancel (34 ∷ []) (raw ++ 34 ∷ []) k (ap part_bytes (sym found) ∙ is) in
        ap (λ (k : Text). module_part 34 (k ++ commented m z)) (sym k_is) ∙ ap (module_part 34) (append_assoc raw (34 ∷ []) (commented m z)) ∙ quote_front raw (commented m z) w o ∙ sym found
    by false j o oo = (let x : string_part raw rest ≡ open_string raw = rw j refl in absurd (no_open raw piece.0 (sym x ∙ piece.1)))

part_before : (m r z k s : Text) (b : ℕ) → Before m r z k (b ∷ s)
part_before m r z k s b e is ends calm fine = by (is_blank b) refl (nat_eq b 34) refl (begins (b ∷ s) (codes "(*")) refl (begins (b ∷ s) (codes "\\*")) refl
  where
    t : Text
    t = k ++ commented m z

    star : begins t (codes "*") ≡ begins s (codes "*")
    star =
        ap (λ (u : Text). begins u (codes "*")) (edge_of k m z) ∙ edge.begins_alike 40 (42 ∷ z) (42 ∷ r) (k ++ m) (codes "*") refl
        ∙ ap (λ (u : Text). begins u (codes "*")) (sym (e ∙ edge_of k m r))

    open_same : begins (b ∷ t) (codes "(*") ≡ begins (b ∷ s) (codes "(*")
    open_same = ap (λ (j : Bool). nat_eq 40 b && j) star

    line_same : begins (b ∷ t) (codes "\\*") ≡ begins (b ∷ s) (codes "\\*")
    line_same = ap (λ (j : Bool). nat_eq 92 b && j) star

    by : (i : Bool) → is_blank b ≡ i → (j : Bool) → nat_eq b 34 ≡ j → (q : Bool) → begins (b ∷ s) (codes "(*") ≡ q → (l : Bool) → begins (b ∷ s) (codes "\\*") ≡ l → module_part b t ≡ module_part b s
    by true i j jj q qq l ll = rw i refl
    by false i true j q qq l ll = subst (Before m r z k) (ap (λ (c : ℕ). c ∷ s) (sym (eqb-true b 34 j))) (string_before m r z k s) e is ends calm fine
    by false i false j true q l ll = subst (Before m r z k) (sym (begins_is (b ∷ s) (codes "(*") q)) (block_before m r z k (drop 2 (b ∷ s))) e is ends calm fine
    by false i false j false q true l = subst (Before m r z k) (sym (begins_is (b ∷ s) (codes "\\*") l)) (line_before m r z k (drop 2 (b ∷ s))) e is ends calm fine
    by false i false j false q false l =
        rw (i, j, q, l, open_same ∙ q, line_same ∙ l)
        (ap (barred b) (edge_of k m z) ∙ edge.barred_alike 40 at_bracket (42 ∷ z) (42 ∷ r) (k ++ m) b ∙ ap (barred b) (sym (e ∙ edge_of k m r)))

-- ---- segments

whole_open : (b : ℕ) (k m r : Text) → whole_line (b ∷ (k ++ commented m r)) ≡ b ∷ k → is_lined (b ∷ k) ≡ true
whole_open b k m r e = by (lined (b ∷ (k ++ commented m r)))
  where
    long : (n j i : ℕ) → n ≡ j + (i + suc (suc (length r))) → n ≡ j → ⊥
    long n j i e f = omega (arith, e, f)

    by : Lined (b ∷ (k ++ commented m r)) → is_lined (b ∷ k) ≡ true
    by (inl (l, p, d, f)) = subst (λ (u : Text). is_lined u ≡ true) (sym f ∙ e) (lined_end l)
    by (inr f) =
        let same : b ∷ k ≡ b ∷ (k ++ commented m r) = sym e ∙ f in
        let size : length k ≡ length (k ++ commented m r) = ap (λ (u : Text). length (drop 1 u)) same in
        absurd (long (length (k ++ commented m r)) (length k) (length m) (length-append k (commented m r) ∙ ap (λ (n : ℕ). length k + n) (length-append m (40 ∷ 42 ∷ r))) (sym size))

abbrev SegmentBefore : State → ℕ → Text → Text → Text → Segment → Type 0
SegmentBefore st b k m z g = segment_at st b (k ++ commented m z) ≡ g

module _ (marked first : Bool) (b : ℕ) (k m r z : Text) (g : Segment) (is : in_module marked first b (k ++ commented m r) ≡ g) (front : bytes g ≡ b ∷ k) (calm : is_calm g ≡ true)
    (fine : segment_offences 0 g ≡ []) (ends : EndsLine (commented m r) → ⊥) where
  abbrev s : Text
  s = k ++ commented m r

  abbrev t : Text
  t = k ++ commented m z

  same_so : (f : Text → Bool) → ((p q l : Text) → f (l ++ 40 ∷ p) ≡ f (l ++ 40 ∷ q)) → f (b ∷ t) ≡ f (b ∷ s)
  same_so f h =
      ap (λ (u : Text). f (b ∷ u)) (edge_of k m z) ∙ h (42 ∷ z) (42 ∷ r) (b ∷ (k ++ m)) ∙ ap (λ (u : Text). f (b ∷ u)) (sym (edge_of k m r))

  begin_same : (first && is_begin (b ∷ t)) ≡ (first && is_begin (b ∷ s))
  begin_same = ap (λ (j : Bool). first && j) (same_so is_begin (edge.begin_alike 40 at_bracket))

  end_same : (first && is_end (b ∷ t)) ≡ (first && is_end (b ∷ s))
  end_same = ap (λ (j : Bool). first && j) (same_so is_end (edge.end_alike 40 at_bracket))

  header_same : (first && is_header (b ∷ t)) ≡ (first && is_header (b ∷ s))
  header_same = ap (λ (j : Bool). first && j) (same_so is_header (edge.header_alike 40 at_bracket))

  tail_same : ends_module (b ∷ t) ≡ ends_module (b ∷ s)
  tail_same = same_so ends_module (edge.tail_alike 40 at_bracket)

  no_mark : (w : Text) → in_module marked first b s ≡ mark w → ⊥
  no_mark w e = (let f : segment_offences 0 (mark w) ≡ [] = ap (segment_offences 0) (sym e ∙ is) ∙ fine in cc)

  no_inner : (w : Text) → in_module marked first b s ≡ inner w → ⊥
  no_inner w e = (let f : segment_offences 0 (inner w) ≡ [] = ap (segment_offences 0) (sym e ∙ is) ∙ fine in cc)

  no_tail : (w : Text) → in_module marked first b s ≡ tail w → ⊥
  no_tail w e = (let f : false ≡ true = ap is_calm (sym e ∙ is) ∙ calm in cc)

  -- a region ends with its line
  no_region : (v w : Text) → marked ≡ false → in_module marked first b s ≡ region v w → ⊥
  no_region v w unmarked e =
      let c = region_closes first b s v w (ap (λ (j : Bool). in_module j first b s) (sym unmarked) ∙ e) in
      let bytes_are : v ++ w ≡ b ∷ k = ap bytes (sym e ∙ is) ∙ front in
      let rest : c.0 ≡ commented m r = cancel (b ∷ k) c.0 (commented m r) (ap (λ (u : Text). u ++ c.0) (sym bytes_are) ∙ sym c.1) in
      ends (subst EndsLine rest c.2)

  module_before : in_module marked first b t ≡ g
  module_before = by (first && is_begin (b ∷ s)) refl (first && is_end (b ∷ s)) refl (first && is_header (b ∷ s)) refl (ends_module (b ∷ s)) refl
    where
      at_begin : (first && is_begin (b ∷ s)) ≡ true → (j : Bool) → marked ≡ j → (o : Option (Text × Text)) → at_end_line false (b ∷ s) ≡ o → in_module marked first b t ≡ g
      at_begin i true j o oo = absurd (no_mark (line_here (b ∷ s)) (rw (i, j) refl))
      at_begin i false j None o = absurd (no_mark (line_here (b ∷ s)) (rw (i, j, o) refl))
      at_begin i false j (Some (v, w)) o = absurd (no_region v w j (rw (i, j, o) refl))

      by : (i : Bool) → (first && is_begin (b ∷ s)) ≡ i → (j : Bool) → (first && is_end (b ∷ s)) ≡ j → (h : Bool) → (first && is_header (b ∷ s)) ≡ h → (l : Bool) → ends_module (b ∷ s) ≡ l
          → in_module marked first b t ≡ g
      by true i j jj h hh l ll = at_begin i marked refl (at_end_line false (b ∷ s)) refl
      by false i true j h hh l ll = absurd (no_mark (line_here (b ∷ s)) (rw (i, j) refl))
      by false i false j true h l ll = absurd (no_inner (line_here (b ∷ s)) (rw (i, j, h) refl))
      by false i false j false h true l = absurd (no_tail (b ∷ s) (rw (i, j, h, l) refl))
      by false i false j false h false l =
          let here : in_module marked first b s ≡ part (module_part b s) = rw (i, j, h, l) refl in
          let there : in_module marked first b t ≡ part (module_part b t) = rw (begin_same ∙ i, end_same ∙ j, header_same ∙ h, tail_same ∙ l) refl in
          let same : part (module_part b s) ≡ g = sym here ∙ is in
          let p = part_before m r z k s b refl (ap bytes same ∙ front) ends (ap is_calm same ∙ calm) (ap (segment_offences 0) same ∙ fine) in
          there ∙ ap part p ∙ same

not_ten : ◌≡◌ {A = ℕ} 40 10 → ⊥
not_ten e = both_ways (nat_eq 40 10) refl (ap (λ (n : ℕ). nat_eq n 10) e)

segment_before : (st : State) (b : ℕ) (k m r z : Text) (g : Segment) → segment_at st b (k ++ commented m r) ≡ g → bytes g ≡ b ∷ k → is_calm g ≡ true → segment_offences 0 g ≡ [] → SegmentBefore st b k m z g
segment_before st b k m r z g is front calm fine = by (is_lined (b ∷ k)) refl
  where
    size : (w : Text) → length (b ∷ k) ≤ length w → length (bytes g) ≤ length w
    size w l = subst (λ (u : Text). length u ≤ length w) (sym front) l

    other : (m : Text) → segment_at st b (k ++ commented m r) ≡ g → is_lined (b ∷ k) ≡ false → (EndsLine (commented m r) → ⊥) → SegmentBefore st b k m z g
    other m is whole ends = heads st.headed refl (is_header (b ∷ (k ++ commented m r))) refl
      where
        heads : (h : Bool) → st.headed ≡ h → (j : Bool) → is_header (b ∷ (k ++ commented m r)) ≡ j → SegmentBefore st b k m z g
        heads true h j jj =
            let here : segment_at st b (k ++ commented m r) ≡ in_module st.marked (nat_eq st.place.col 1) b (k ++ commented m r) = rw h refl in
            let there : segment_at st b (k ++ commented m z) ≡ in_module st.marked (nat_eq st.place.col 1) b (k ++ commented m z) = rw h refl in
            there ∙ module_before st.marked (nat_eq st.place.col 1) b k m r z g (sym here ∙ is) front calm fine ends
        heads false h true j =
            let here : segment_at st b (k ++ commented m r) ≡ header (whole_line (b ∷ (k ++ commented m r))) = rw (h, j) refl in
            absurd (both_ways (is_lined (b ∷ k)) whole (whole_open b k m r (ap bytes (sym here ∙ is) ∙ front)))
        heads false h false j =
            let here : segment_at st b (k ++ commented m r) ≡ free (whole_line (b ∷ (k ++ commented m r))) = rw (h, j) refl in
            absurd (both_ways (is_lined (b ∷ k)) whole (whole_open b k m r (ap bytes (sym here ∙ is) ∙ front)))

    on : (m : Text) → segment_at st b (k ++ commented m r) ≡ g → is_lined (b ∷ k) ≡ false → SegmentBefore st b k m z g
    on [] is whole = other [] is whole not_ten
    on (c ∷ m) is whole = lines (nat_eq c 10) refl
      where
        in_line : (y : Text) → (k ++ 10 ∷ []) ++ y ≡ k ++ 10 ∷ y
        in_line y = append_assoc k (10 ∷ []) y

        lines : (j : Bool) → nat_eq c 10 ≡ j → SegmentBefore st b k (c ∷ m) z g
        lines true j =
            let ten = eqb-true c 10 j in
            let here : segment_at st b ((k ++ 10 ∷ []) ++ commented m r) ≡ g = ap (segment_at st b) (in_line (commented m r) ∙ ap (λ (c : ℕ). k ++ c ∷ commented m r) (sym ten)) ∙ is in
            ap (segment_at st b) (ap (λ (c : ℕ). k ++ c ∷ commented m z) ten ∙ sym (in_line (commented m z)))
            ∙ by_line st b (k ++ 10 ∷ []) (commented m r) (commented m z) g (lined_end (b ∷ k)) calm (size (b ∷ (k ++ 10 ∷ [])) (longer (length-append k (10 ∷ [])))) here
          where
            longer : {n : ℕ} → n ≡ length k + 1 → suc (length k) ≤ suc n
            longer e = omega (arith, e)
        lines false j = other (c ∷ m) is whole (λ e. both_ways (nat_eq c 10) j (ap (λ (n : ℕ). nat_eq n 10) e))

    by : (j : Bool) → is_lined (b ∷ k) ≡ j → SegmentBefore st b k m z g
    by true j = by_line st b k (commented m r) (commented m z) g j calm (size (b ∷ k) (omega arith)) is
    by false j = on m is j

-- ---- the walk

pub walk_step : (st : State) (b : ℕ) (s rest : Text) (g : Segment) → segment_at st b s ≡ g → b ∷ s ≡ bytes g ++ rest → walk_from st 0 (b ∷ s) ≡ located st g ∷ walk_from (after_segment st g) 0 rest
walk_step st b s rest g is split =
    let f = step st b s in
    let same : f.rest ≡ rest = cancel (bytes g) f.rest rest (ap (λ (g : Segment). bytes g ++ f.rest) (sym is) ∙ sym f.split ∙ split) in
    ap (λ (ds : List Located). located st (segment_at st b s) ∷ ds) (f.over (after_segment st (segment_at st b s)))
    ∙ ap (λ (g : Segment). located st g ∷ walk_from (after_segment st g) 0 f.rest) is
    ∙ ap (λ (u : Text). located st g ∷ walk_from (after_segment st g) 0 u) same

pub walk_before : (ds es : List Located) (st : State) (r z : Text) → walk_from st 0 (commented (text_of ds) r) ≡ ds ++ es → are_calm ds ≡ true → offences_of ds ≡ []
    → walk_from st 0 (commented (text_of ds) z) ≡ ds ++ walk_from (after_all st ds) 0 (40 ∷ 42 ∷ z)
walk_before [] es st r z w c f = refl
walk_before (d ∷ ds) es st r z w c f = by (bytes d.is) refl (λ st. walk_before ds es st r z)
  where
    calm : (is_calm d.is ≡ true) × (are_calm ds ≡ true)
    calm = and_parts (is_calm d.is) (are_calm ds) c

    fine : (segment_offences d.at d.is ≡ []) × (offences_of ds ≡ [])
    fine = both_empty (segment_offences d.at d.is) (offences_of ds) f

    m : Text
    m = text_of ds

    grouped : (y u : Text) → bytes d.is ≡ y → commented (bytes d.is ++ m) u ≡ y ++ commented m u
    grouped y u e = append_assoc (bytes d.is) m (40 ∷ 42 ∷ u) ∙ ap (λ (y : Text). y ++ commented m u) e

    by : (y : Text) → bytes d.is ≡ y → ((st : State) → walk_from st 0 (commented m r) ≡ ds ++ es → are_calm ds ≡ true → offences_of ds ≡ [] → walk_from st 0 (commented m z) ≡ ds ++ walk_from (after_all st ds) 0 (40 ∷ 42 ∷ z))
        → walk_from st 0 (commented (bytes d.is ++ m) z) ≡ d ∷ (ds ++ walk_from (after_all (after_segment st d.is) ds) 0 (40 ∷ 42 ∷ z))
    by [] y deeper = absurd (some_bytes st (commented (bytes d.is ++ m) r) d (ds ++ es) w y)
    by (b ∷ k) y deeper =
        let s = k ++ commented m r in
        let t = k ++ commented m z in
        let here : walk_from st 0 (b ∷ s) ≡ d ∷ (ds ++ es) = ap (walk_from st 0) (sym (grouped (b ∷ k) r y)) ∙ w in
        let g = segment_at st b s in
        let is : located st g ≡ d = first_is (located st g) (walk_from (after_segment st g) (length (bytes g) - 1) s) d (ds ++ es) here in
        let segment_is : g ≡ d.is = ap (λ (d : Located). d.is) is in
        let there : segment_at st b t ≡ d.is = segment_before st b k m r z d.is segment_is y calm.0 (segment_anywhere d.at 0 d.is fine.0) in
        let split : (u : Text) → b ∷ (k ++ commented m u) ≡ bytes d.is ++ commented m u = λ u. ap (λ (y : Text). y ++ commented m u) (sym y) in
        let mine = walk_step st b s (commented m r) d.is segment_is (split r) in
        let more : walk_from (after_segment st d.is) 0 (commented m r) ≡ ds ++ es = rest_is (located st d.is) (walk_from (after_segment st d.is) 0 (commented m r)) d (ds ++ es) (sym mine ∙ here) in
        ap (walk_from st 0) (grouped (b ∷ k) z y) ∙ walk_step st b t (commented m z) d.is there (split z)
        ∙ (λ i. (ap (located st) (sym segment_is) ∙ is) i ∷ deeper (after_segment st d.is) more calm.1 fine.1 i)
