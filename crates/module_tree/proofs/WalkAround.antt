-- A file in which a translation is put, or put in the place of another, is walked as before but for the region.
use Rattle.std.proofs.Common.{◌≡◌, ℕ, ◌+◌, ◌-◌, Bool, true, false, not, ◌&&◌, nat_eq, List, [], ◌∷◌, ◌++◌, length, Option, Some, None, refl, sym, ap, subst, ◌∙◌, inl, inr, arith, append_assoc}
use Rattle.std.proofs.lemmas.Bool.{eqb-true}
use Rattle.tla_token.specs.Tokens.{EndsLine}
use Rattle.tla_token.proofs.Words.{run_over}
use Rattle.module_tree.specs.TextFront.{Text, line_here}
use Rattle.module_tree.specs.HeaderAndRegion.{is_begin, is_end, is_header}
use Rattle.module_tree.specs.Beginnings.{ends_module}
use Rattle.module_tree.specs.ModuleParts.{module_part}
use Rattle.module_tree.specs.Walk.{Segment, part, region, mark, inner, tail, is_region, bytes, State, at_end_line, in_module, segment_at, after_segment, Located, walk_from, walk, at_start}
use Rattle.module_tree.specs.WithTranslation.{begin_line, end_line}
use Rattle.module_tree.specs.laws.Walks.{text_of, is_lined, after_all, are_calm, IsOpen, IsInside, made, located, after_text, are_common, Moved, newline_segment, Put}
use Rattle.module_tree.proofs.WalkLines.{never_some}
use Rattle.module_tree.proofs.WalkResumed.{Step, step}
use Rattle.module_tree.proofs.WalkWritten.{one_segment, written}
use Rattle.module_tree.proofs.WalkMoved.{moved}
use Rattle.module_tree.proofs.WalkParted.{parted, cancel, first_is, rest_is, no_stand}

-- what is after the first segments is walked from where they end
pub suffixed : (ds es : List Located) (st : State) (x : Text) → walk_from st 0 x ≡ ds ++ es → (c : Text) × (x ≡ text_of ds ++ c) × (walk_from (after_all st ds) 0 c ≡ es)
suffixed [] es st x w = (x, refl, w)
suffixed (d ∷ ds) es st [] w = absurd (no_stand d (ds ++ es) w)
suffixed (d ∷ ds) es st (b ∷ s) w =
    let g = segment_at st b s in
    let next = after_segment st g in
    let f = step st b s in
    let stand : Located = record { at = st.at; place = st.place; is = g } in
    let more = walk_from next (length (bytes g) - 1) s in
    let is : stand ≡ d = first_is stand more d (ds ++ es) w in
    let deeper = suffixed ds es next f.rest (sym (f.over next) ∙ rest_is stand more d (ds ++ es) w) in
    let split : b ∷ s ≡ (bytes d.is ++ text_of ds) ++ deeper.0 =
    f.split ∙ ap (λ (u : Text). bytes g ++ u) deeper.1 ∙ sym (append_assoc (bytes g) (text_of ds) deeper.0) ∙ ap (λ (d : Located). (bytes d.is ++ text_of ds) ++ deeper.0) is in
    (deeper.0, split, ap (λ (d : Located). walk_from (after_all (after_segment st d.is) ds) 0 deeper.0) (sym is) ∙ deeper.2)

newline_here : (st : State) (c : Text) → st.headed ≡ true → segment_at st 10 c ≡ newline_segment
newline_here st c h = by (nat_eq st.place.col 1) refl
  where
    by : (k : Bool) → nat_eq st.place.col 1 ≡ k → segment_at st 10 c ≡ newline_segment
    by true k = rw (h, k) refl
    by false k = rw (h, k) refl

pub newline_walk : (st : State) (c : Text) → st.headed ≡ true → walk_from st 0 (10 ∷ c) ≡ record { at = st.at; place = st.place; is = newline_segment } ∷ walk_from (after_segment st newline_segment) 0 c
newline_walk st c h = one_segment st 10 c newline_segment [] c (newline_here st c h) refl refl

-- the text before the place is walked as in the file
before_place : (x : Text) (ds es : List Located) → walk x ≡ ds ++ es → is_lined (text_of ds) ≡ true → are_calm ds ≡ true → walk (text_of ds) ≡ ds
before_place x ds es w e c =
    let s = suffixed ds es at_start x w in
    parted ds es at_start (text_of ds) s.0 e c (ap (λ (u : Text). walk_from at_start 0 u) (sym s.1) ∙ w) refl

col_one : (st : State) → IsOpen st → st.place.col ≡ 1
col_one st o = eqb-true st.place.col 1 o.2

sum_turned : (a b : ℕ) → a + b ≡ b + a
sum_turned a b = omega arith

-- put where none was: all that is after it is moved
pub inserted : (x t : Text) (ds es : List Located) → walk x ≡ ds ++ es → is_lined (text_of ds) ≡ true → are_calm ds ≡ true → IsOpen (after_all at_start ds) → IsInside t → are_common es ≡ true
    → (c : Text) × (x ≡ text_of ds ++ c) × Put ds es t (10 ∷ c)
inserted x t ds es w e calm o i common =
    let s = suffixed ds es at_start x w in
    let c = s.0 in
    let a = text_of ds in
    let st = after_all at_start ds in
    let before : walk a ≡ ds = before_place x ds es w e calm in
    let same : after_text a ≡ st = ap (λ (xs : List Located). after_all at_start xs) before in
    let open_there : IsOpen (after_text a) = subst (λ (st : State). IsOpen st) (sym same) o in
    let calm_there : are_calm (walk a) ≡ true = ap are_calm before ∙ calm in
    let marked = after_segment st (made t) in
    let nd = after_segment marked newline_segment in
    let headed : marked.headed ≡ true = rw o.0 refl in
    let headed_there : nd.headed ≡ true = rw o.0 refl in
    let us = walk_from nd 0 c in
    let walked : walk (a ++ (begin_line ++ (t ++ (end_line ++ (10 ∷ c))))) ≡ ds ++ located st (made t) ∷ located marked newline_segment ∷ us =
    written a t (10 ∷ c) e calm_there open_there i refl
    ∙ ap (λ (xs : List Located). xs ++ located (after_text a) (made t) ∷ walk_from (after_segment (after_text a) (made t)) 0 (10 ∷ c)) before
    ∙ ap (λ (st : State). ds ++ located st (made t) ∷ walk_from (after_segment st (made t)) 0 (10 ∷ c)) same
    ∙ ap (λ (xs : List Located). ds ++ located st (made t) ∷ xs) (newline_walk marked c headed) in
    let near_moved = moved st.at nd.at st.place.line nd.place.line st nd c o.0 headed_there (sum_turned st.at nd.at, sum_turned st.place.line nd.place.line, col_one st o) (inr (ap are_common s.2 ∙ common)) in
    let P : List Located → Type 0 = λ xs. Moved st.at nd.at st.place.line nd.place.line xs us in
    (c, s.1, record { here = located marked newline_segment; us = us; is_newline = refl; walked = walked; bytes_here = st.at; bytes_there = nd.at; lines_here = st.place.line; lines_there = nd.place.line; are_moved = subst P s.2 near_moved })

-- ---- in the place of another

here_closes : (b : ℕ) (s : Text) → (rest : Text) × (b ∷ s ≡ line_here (b ∷ s) ++ rest) × EndsLine rest
here_closes b s = line_closes (b ∷ s)
  where
    line_closes : (t : Text) → (rest : Text) × (t ≡ line_here t ++ rest) × EndsLine rest
    line_closes [] = ([], refl, tt)
    line_closes (b ∷ t) = by (nat_eq b 10) refl (line_closes t)
      where
        by : (k : Bool) → nat_eq b 10 ≡ k → ((rest : Text) × (t ≡ line_here t ++ rest) × EndsLine rest) → (rest : Text) × (b ∷ t ≡ line_here (b ∷ t) ++ rest) × EndsLine rest
        by true k r = (b ∷ t, rw k refl, eqb-true b 10 k)
        by false k (rest, e, h) = (rest, ap (λ (u : Text). b ∷ u) e ∙ ap (λ (u : Text). u ++ rest) (sym (run_over (λ c. not (nat_eq c 10)) (b ∷ []) t (rw k refl))), h)

end_closes : (t : Text) (first : Bool) (v w : Text) → at_end_line first t ≡ Some (v, w) → (rest : Text) × (t ≡ (v ++ w) ++ rest) × EndsLine rest
end_closes [] first v w e = absurd (never_some (v, w) e)
end_closes (b ∷ s) first v w e = by (first && is_end (b ∷ s)) refl (at_end_line (nat_eq b 10) s) refl (end_closes s (nat_eq b 10))
  where
    pairs : (x y : Text × Text) → Some x ≡ Some y → x ≡ y
    pairs x y e = cc

    Closed : Text × Text → Type 0
    Closed m = (rest : Text) × (b ∷ s ≡ (m.0 ++ m.1) ++ rest) × EndsLine rest

    over : (m : Text × Text) → m ≡ (v, w) → (rest : Text) → b ∷ s ≡ (m.0 ++ m.1) ++ rest → EndsLine rest → (rest : Text) × (b ∷ s ≡ (v ++ w) ++ rest) × EndsLine rest
    over m is rest e h = (rest, e ∙ ap (λ (m : Text × Text). (m.0 ++ m.1) ++ rest) is, h)

    by : (k : Bool) → (first && is_end (b ∷ s)) ≡ k → (o : Option (Text × Text)) → at_end_line (nat_eq b 10) s ≡ o
        → ((v w : Text) → at_end_line (nat_eq b 10) s ≡ Some (v, w) → (rest : Text) × (s ≡ (v ++ w) ++ rest) × EndsLine rest) → (rest : Text) × (b ∷ s ≡ (v ++ w) ++ rest) × EndsLine rest
    by true k o oo deeper =
        let got : at_end_line first (b ∷ s) ≡ Some ([], line_here (b ∷ s)) = rw k refl in
        let c = here_closes b s in
        over ([], line_here (b ∷ s)) (pairs ([], line_here (b ∷ s)) (v, w) (sym got ∙ e)) c.0 c.1 c.2
    by false k None o deeper =
        let got : at_end_line first (b ∷ s) ≡ None = rw (k, o) refl in
        absurd (never_some (v, w) (sym got ∙ e))
    by false k (Some (p, q)) o deeper =
        let got : at_end_line first (b ∷ s) ≡ Some (b ∷ p, q) = rw (k, o) refl in
        let c = deeper p q o in
        over (b ∷ p, q) (pairs (b ∷ p, q) (v, w) (sym got ∙ e)) c.0 (ap (λ (u : Text). b ∷ u) c.1) c.2

-- after a region a line ends
pub region_closes : (first : Bool) (b : ℕ) (s v w : Text) → in_module false first b s ≡ region v w → (rest : Text) × (b ∷ s ≡ (v ++ w) ++ rest) × EndsLine rest
region_closes first b s v w e = by (first && is_begin (b ∷ s)) refl (at_end_line false (b ∷ s)) refl (first && is_end (b ∷ s)) refl (first && is_header (b ∷ s)) refl (ends_module (b ∷ s)) refl
  where
    Closed : Type 0
    Closed = (rest : Text) × (b ∷ s ≡ (v ++ w) ++ rest) × EndsLine rest

    never : (g : Segment) → in_module false first b s ≡ g → is_region g ≡ false → ⊥
    never g is no_region = (let x : true ≡ false = ap is_region (sym e ∙ is) ∙ no_region in cc)

    regions : (p q : Text) → region p q ≡ region v w → (p ≡ v) × (q ≡ w)
    regions p q e = (cc, cc)

    by : (i : Bool) → (first && is_begin (b ∷ s)) ≡ i → (o : Option (Text × Text)) → at_end_line false (b ∷ s) ≡ o → (j : Bool) → (first && is_end (b ∷ s)) ≡ j → (k : Bool) → (first && is_header (b ∷ s)) ≡ k
        → (l : Bool) → ends_module (b ∷ s) ≡ l → (rest : Text) × (b ∷ s ≡ (v ++ w) ++ rest) × EndsLine rest
    by true i None o j jj k kk l ll = absurd (never (mark (line_here (b ∷ s))) (rw (i, o) refl) refl)
    by true i (Some (p, q)) o j jj k kk l ll =
        let is : in_module false first b s ≡ region p q = rw (i, o) refl in
        let same = regions p q (sym is ∙ e) in
        let c = end_closes (b ∷ s) false p q o in
        (c.0, c.1 ∙ ap (λ (u : Text). (u ++ q) ++ c.0) same.0 ∙ ap (λ (u : Text). (v ++ u) ++ c.0) same.1, c.2)
    by false i o oo true j k kk l ll = absurd (never (mark (line_here (b ∷ s))) (rw (i, j) refl) refl)
    by false i o oo false j true k l ll = absurd (never (inner (line_here (b ∷ s))) (rw (i, j, k) refl) refl)
    by false i o oo false j false k true l = absurd (never (tail (b ∷ s)) (rw (i, j, k, l) refl) refl)
    by false i o oo false j false k false l = absurd (never (part (module_part b s)) (rw (i, j, k, l) refl) refl)

pub after_region : (st : State) (x v w : Text) (old here : Located) (es : List Located) → st.headed ≡ true → st.marked ≡ false → walk_from st 0 x ≡ old ∷ here ∷ es → old.is ≡ region v w
    → (c : Text) × (x ≡ (v ++ w) ++ 10 ∷ c) × (walk_from (after_segment (after_segment st (region v w)) newline_segment) 0 c ≡ es) × (here.is ≡ newline_segment)
after_region st [] v w old here es headed unmarked e r = absurd (no_stand old (here ∷ es) e)
after_region st (b ∷ s) v w old here es headed unmarked e r = by closed.0 closed.1 closed.2
  where
    g : Segment
    g = segment_at st b s

    stand : Located
    stand = record { at = st.at; place = st.place; is = g }

    more : List Located
    more = walk_from (after_segment st g) (length (bytes g) - 1) s

    f : Step st b s
    f = step st b s

    is : g ≡ region v w
    is = ap (λ (d : Located). d.is) (first_is stand more old (here ∷ es) e) ∙ r

    opened_here : segment_at st b s ≡ in_module false (nat_eq st.place.col 1) b s
    opened_here = rw (headed, unmarked) refl

    closed : (rest : Text) × (b ∷ s ≡ (v ++ w) ++ rest) × EndsLine rest
    closed = region_closes (nat_eq st.place.col 1) b s v w (sym opened_here ∙ is)

    next : State
    next = after_segment st (region v w)

    by : (rest : Text) → b ∷ s ≡ (v ++ w) ++ rest → EndsLine rest → (c : Text) × (b ∷ s ≡ (v ++ w) ++ 10 ∷ c) × (walk_from (after_segment (after_segment st (region v w)) newline_segment) 0 c ≡ es) × (here.is ≡ newline_segment)
    by rest split ends = on rest split ends (walked rest split)
      where
        walked : (rest : Text) → b ∷ s ≡ (v ++ w) ++ rest → walk_from next 0 rest ≡ here ∷ es
        walked rest split =
            let same : f.rest ≡ rest = cancel (v ++ w) f.rest rest (ap (λ (g : Segment). bytes g ++ f.rest) (sym is) ∙ sym f.split ∙ split) in
            ap (λ (u : Text). walk_from next 0 u) (sym same) ∙ ap (λ (g : Segment). walk_from (after_segment st g) 0 f.rest) (sym is) ∙ sym (f.over (after_segment st g))
            ∙ rest_is stand more old (here ∷ es) e

        on : (rest : Text) → b ∷ s ≡ (v ++ w) ++ rest → EndsLine rest → walk_from next 0 rest ≡ here ∷ es
            → (c : Text) × (b ∷ s ≡ (v ++ w) ++ 10 ∷ c) × (walk_from (after_segment (after_segment st (region v w)) newline_segment) 0 c ≡ es) × (here.is ≡ newline_segment)
        on [] split ends walk = absurd (no_stand here es walk)
        on (k ∷ c) split ends walk =
            let line : walk_from next 0 (10 ∷ c) ≡ here ∷ es = ap (λ (k : ℕ). walk_from next 0 (k ∷ c)) (sym ends) ∙ walk in
            let newline : Located = record { at = next.at; place = next.place; is = newline_segment } in
            let more = walk_from (after_segment next newline_segment) 0 c in
            let whole = sym (newline_walk next c (rw headed refl)) ∙ line in (
              c,
              split ∙ ap (λ (k : ℕ). (v ++ w) ++ k ∷ c) ends,
              rest_is newline more here es whole,
              ap (λ (d : Located). d.is) (sym (first_is newline more here es whole)),
            )

-- put in the place of another: all that is after its line is moved
pub replaced : (x t v w : Text) (ds es : List Located) (old here : Located) → walk x ≡ ds ++ old ∷ here ∷ es → old.is ≡ region v w → is_lined (text_of ds) ≡ true → are_calm ds ≡ true
    → IsOpen (after_all at_start ds) → IsInside t → (c : Text) × (x ≡ text_of ds ++ ((v ++ w) ++ 10 ∷ c)) × Put ds es t (10 ∷ c)
replaced x t v w ds es old here walks r e calm o i =
    let s = suffixed ds (old ∷ here ∷ es) at_start x walks in
    let a = text_of ds in
    let st = after_all at_start ds in
    let further = after_region st s.0 v w old here es o.0 o.1 s.2 r in
    let c = further.0 in
    let before : walk a ≡ ds = before_place x ds (old ∷ here ∷ es) walks e calm in
    let same : after_text a ≡ st = ap (λ (xs : List Located). after_all at_start xs) before in
    let open_there : IsOpen (after_text a) = subst (λ (st : State). IsOpen st) (sym same) o in
    let calm_there : are_calm (walk a) ≡ true = ap are_calm before ∙ calm in
    let marked = after_segment st (made t) in
    let nd = after_segment marked newline_segment in
    let md = after_segment (after_segment st (region v w)) newline_segment in
    let us = walk_from nd 0 c in
    let walked : walk (a ++ (begin_line ++ (t ++ (end_line ++ (10 ∷ c))))) ≡ ds ++ located st (made t) ∷ located marked newline_segment ∷ us =
    written a t (10 ∷ c) e calm_there open_there i refl
    ∙ ap (λ (xs : List Located). xs ++ located (after_text a) (made t) ∷ walk_from (after_segment (after_text a) (made t)) 0 (10 ∷ c)) before
    ∙ ap (λ (st : State). ds ++ located st (made t) ∷ walk_from (after_segment st (made t)) 0 (10 ∷ c)) same
    ∙ ap (λ (xs : List Located). ds ++ located st (made t) ∷ xs) (newline_walk marked c (rw o.0 refl)) in
    let near_moved = moved md.at nd.at md.place.line nd.place.line md nd c (rw o.0 refl) (rw o.0 refl) (sum_turned md.at nd.at, sum_turned md.place.line nd.place.line, refl) (inl (rw o.1 refl)) in
    let P : List Located → Type 0 = λ xs. Moved md.at nd.at md.place.line nd.place.line xs us in (
      c,
      s.1 ∙ ap (λ (u : Text). text_of ds ++ u) further.1,
      record { here = located marked newline_segment; us = us; is_newline = refl; walked = walked; bytes_here = md.at; bytes_there = nd.at; lines_here = md.place.line; lines_there = nd.place.line; are_moved = subst P further.2 near_moved },
    )
