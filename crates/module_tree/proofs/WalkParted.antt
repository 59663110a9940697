-- The walk of a text that ends with a newline is the beginning of the walk of any text that begins so and is cut there.
use Rattle.std.proofs.Common.{◌≡◌, ℕ, zero, suc, ◌+◌, ◌-◌, ◌≤◌, Bool, true, false, ◌&&◌, nat_eq, List, [], ◌∷◌, ◌++◌, length, take, drop, Option, Some, None, refl, sym, ap, subst, ◌∙◌, arith, codes, length-append}
use Rattle.std.specs.Prelude.{if◌then◌else◌}
use Rattle.std.proofs.lemmas.List.{length-take-le}
use Rattle.std.proofs.lemmas.Bool.{and_parts, eqb-true}
use Rattle.tla_token.specs.Lexemes.{is_blank}
use Rattle.tla_token.specs.Tokens.{line, is_pair, Closes}
use Rattle.tla_token.specs.Offences.{sound, part_bytes}
use Rattle.tla_token.specs.Cut.{comment_len, plus, block_part}
use Rattle.tla_token.proofs.Spelled.{begins_is}
use Rattle.tla_token.proofs.Parted.{len_closes}
use Rattle.module_tree.specs.TextFront.{Text, begins, line_here, whole_line}
use Rattle.module_tree.specs.HeaderAndRegion.{is_header, is_begin, is_end}
use Rattle.module_tree.specs.Beginnings.{ends_module}
use Rattle.module_tree.specs.ModuleParts.{barred, module_part}
use Rattle.module_tree.specs.Walk.{Segment, free, header, part, mark, inner, tail, bytes, State, at_end_line, opened, in_module, segment_at, after_segment, Located, walk_from}
use Rattle.module_tree.specs.laws.Walks.{text_of, is_lined, is_calm, are_calm}
use Rattle.module_tree.proofs.WalkLines.{unlined, never_some, begins_alike, header_alike, begin_alike, end_alike, here_alike, whole_alike, tail_alike, string_at, string_alike, barred_alike}
use Rattle.module_tree.proofs.WalkWhole.{segment_front, region_front}
use Rattle.module_tree.proofs.WalkResumed.{Newline, newline, newline_rest, keep, no_newline, lined_rest, lined_over, take_more, step}

-- ---- comments

two_bytes : (d : ℕ) (x : Text) → Closes (suc d) x → 2 ≤ length x
two_bytes d [] c = absurd c
two_bytes d (a ∷ []) c = absurd c
two_bytes d (a ∷ b ∷ x) c = omega arith

long_enough : (d : ℕ) (x : Text) (n : ℕ) → comment_len (suc d) x ≡ Some n → 2 ≤ n
long_enough d x n e =
    let c = len_closes (suc d) x n e in
    let two = two_bytes d (take n x) c.1 in
    omega (arith, two, at_most n x)
  where
    at_most : (n : ℕ) (x : Text) → length (take n x) ≤ n
    at_most zero x = omega arith
    at_most (suc n) [] = omega arith
    at_most (suc n) (b ∷ x) = (let e = at_most n x in omega (arith, e))

plus_less : (k : ℕ) (o c : Option ℕ) (most : ℕ) → ((m : ℕ) → o ≡ Some m → m ≤ most → c ≡ Some m) → (n : ℕ) → plus k o ≡ Some n → n ≤ k + most → plus k c ≡ Some n
plus_less k None c most h n e l = absurd (never_some n e)
plus_less k (Some m) c most h n e l = rw (h m refl (let same : k + m ≡ n = some_is e in omega (arith, same, l))) e
  where
    some_is : {a b : ℕ} → Some a ≡ Some b → a ≡ b
    some_is e = cc

three_less : (i j : Bool) (n most : ℕ) (o p q o' p' q' : Option ℕ) → ((m : ℕ) → o ≡ Some m → m ≤ most → o' ≡ Some m) → ((m : ℕ) → p ≡ Some m → m ≤ most → p' ≡ Some m)
    → ((m : ℕ) → q ≡ Some m → m ≤ suc most → q' ≡ Some m) → n ≤ 2 + most
    → (if i then plus 2 o else (if j then plus 2 p else plus 1 q)) ≡ Some n → (if i then plus 2 o' else (if j then plus 2 p' else plus 1 q')) ≡ Some n
three_less true j n most o p q o' p' q' f g h l e = plus_less 2 o o' most f n e l
three_less false true n most o p q o' p' q' f g h l e = plus_less 2 p p' most g n e l
three_less false false n most o p q o' p' q' f g h l e = plus_less 1 q q' (suc most) h n e (omega (arith, l))

comment_less : (d : ℕ) (x r : Text) (n : ℕ) → comment_len d (x ++ r) ≡ Some n → n ≤ length x → comment_len d x ≡ Some n
comment_less zero x r n e l = e
comment_less (suc d) [] r n e l = (let two = long_enough d r n e in absurd (omega (arith, two, l)))
comment_less (suc d) (a ∷ []) r n e l = (let two = long_enough d (a ∷ r) n e in absurd (omega (arith, two, l)))
comment_less (suc d) (a ∷ b ∷ x) r n e l =
    three_less (is_pair 40 42 a b) (is_pair 42 41 a b) n (length x) (comment_len (suc (suc d)) (x ++ r)) (comment_len d (x ++ r)) (comment_len (suc d) (b ∷ (x ++ r)))
    (comment_len (suc (suc d)) x) (comment_len d x) (comment_len (suc d) (b ∷ x))
    (comment_less (suc (suc d)) x r) (comment_less d x r) (comment_less (suc d) (b ∷ x) r) (omega (arith, l)) e

-- ---- regions

region_less : (t r : Text) (first : Bool) (v w : Text) → is_lined t ≡ true → at_end_line first (t ++ r) ≡ Some (v, w) → length (v ++ w) ≤ length t → at_end_line first t ≡ Some (v, w)
region_less [] r first v w e h l = absurd (none (v ++ w) (region_front r first v w h).2 l)
  where
    none : (u : Text) → (u ≡ [] → ⊥) → length u ≤ 0 → ⊥
    none [] some l = some refl
    none (b ∷ u) some l = omega (arith, l)
region_less (b ∷ s) r first v w e h l = by (first && is_end (b ∷ s)) refl (at_end_line (nat_eq b 10) (s ++ r)) refl (λ v w. region_less s r (nat_eq b 10) v w (lined_rest b s e))
  where
    same : (first && is_end (b ∷ (s ++ r))) ≡ (first && is_end (b ∷ s))
    same = ap (λ (k : Bool). first && k) (keep is_end end_alike (b ∷ s) r (newline b s e))

    pairs : (x y : Text × Text) → Some x ≡ Some y → x ≡ y
    pairs x y e = cc

    by : (k : Bool) → (first && is_end (b ∷ s)) ≡ k → (o : Option (Text × Text)) → at_end_line (nat_eq b 10) (s ++ r) ≡ o
        → ((v w : Text) → at_end_line (nat_eq b 10) (s ++ r) ≡ Some (v, w) → length (v ++ w) ≤ length s → at_end_line (nat_eq b 10) s ≡ Some (v, w)) → at_end_line first (b ∷ s) ≡ Some (v, w)
    by true k o oo deeper =
        let got : at_end_line first (b ∷ (s ++ r)) ≡ Some ([], line_here (b ∷ (s ++ r))) = rw (same ∙ k) refl in
        let here : line_here (b ∷ (s ++ r)) ≡ line_here (b ∷ s) = keep line_here here_alike (b ∷ s) r (newline b s e) in
        rw (k, sym here) (sym got ∙ h)
    by false k None o deeper =
        let got : at_end_line first (b ∷ (s ++ r)) ≡ None = rw (same ∙ k, o) refl in
        absurd (never_some (v, w) (sym got ∙ h))
    by false k (Some (v', w')) o deeper =
        let got : at_end_line first (b ∷ (s ++ r)) ≡ Some (b ∷ v', w') = rw (same ∙ k, o) refl in
        let is : (b ∷ v', w') ≡ (v, w) = pairs (b ∷ v', w') (v, w) (sym got ∙ h) in
        let short : length (v' ++ w') ≤ length s = (let n = ap (λ (x : Text × Text). length (x.0 ++ x.1)) is in omega (arith, n, l)) in
        rw (k, deeper v' w' o short) (sym got ∙ h)

-- ---- segments

abbrev Short : Text → Text → Type 0
Short r [] = ⊥
Short r (b ∷ s) =
    is_lined (b ∷ s) ≡ true → is_calm (part (module_part b (s ++ r))) ≡ true → length (part_bytes (module_part b (s ++ r))) ≤ length (b ∷ s) → module_part b s ≡ module_part b (s ++ r)

block_short : (r s : Text) → Short r (40 ∷ 42 ∷ s)
block_short r s e c l = by (comment_len 1 (s ++ r)) refl
  where
    by : (o : Option ℕ) → comment_len 1 (s ++ r) ≡ o → block_part (comment_len 1 s) s ≡ block_part (comment_len 1 (s ++ r)) (s ++ r)
    by None o = (let x : true ≡ false = sym c ∙ ap (λ (o : Option ℕ). is_calm (part (block_part o (s ++ r)))) o in absurd cc)
    by (Some n) o =
        let size : length (part_bytes (block_part (comment_len 1 (s ++ r)) (s ++ r))) ≡ length (part_bytes (block_part (Some n) (s ++ r))) =
        ap (λ (o : Option ℕ). length (part_bytes (block_part o (s ++ r)))) o in
        let taken : length (take n (s ++ r)) ≡ n = length-take-le n (s ++ r) (len_closes 1 (s ++ r) n o).0 in
        let short : n ≤ length s = omega (arith, size, taken, l) in
        rw (o, comment_less 1 s r n o short, take_more n s r short) refl

line_short : (r s : Text) → Short r (92 ∷ 42 ∷ s)
line_short r s e c l = ap (λ (u : Text). sound (line u)) (sym (keep line_here here_alike s r (newline_rest 42 s refl (lined_rest 92 (42 ∷ s) e))))

string_short : (r s : Text) → Short r (34 ∷ s)
string_short r s e c l = sym (keep string_at string_alike s r (newline_rest 34 s refl e))

part_short : (b : ℕ) (s r : Text) → is_lined (b ∷ s) ≡ true → is_calm (part (module_part b (s ++ r))) ≡ true → length (part_bytes (module_part b (s ++ r))) ≤ length (b ∷ s)
    → module_part b s ≡ module_part b (s ++ r)
part_short b s r e c m = by (is_blank b) refl (nat_eq b 34) refl (begins (b ∷ s) (codes "(*")) refl (begins (b ∷ s) (codes "\\*")) refl
  where
    as_before : (w : Text) → unlined w ≡ true → begins (b ∷ (s ++ r)) w ≡ begins (b ∷ s) w
    as_before w h = keep (λ u. begins u w) (λ p q l. begins_alike p q l w h) (b ∷ s) r (newline b s e)

    by : (i : Bool) → is_blank b ≡ i → (j : Bool) → nat_eq b 34 ≡ j → (k : Bool) → begins (b ∷ s) (codes "(*") ≡ k → (l : Bool) → begins (b ∷ s) (codes "\\*") ≡ l → module_part b s ≡ module_part b (s ++ r)
    by true i j jj k kk l ll = rw i refl
    by false i true j k kk l ll = subst (Short r) (ap (λ (c : ℕ). c ∷ s) (sym (eqb-true b 34 j))) (string_short r s) e c m
    by false i false j true k l ll = subst (Short r) (sym (begins_is (b ∷ s) (codes "(*") k)) (block_short r (drop 2 (b ∷ s))) e c m
    by false i false j false k true l = subst (Short r) (sym (begins_is (b ∷ s) (codes "\\*") l)) (line_short r (drop 2 (b ∷ s))) e c m
    by false i false j false k false l =
        rw (i, j, k, l, as_before (codes "(*") refl ∙ k, as_before (codes "\\*") refl ∙ l) (sym (keep (barred b) (λ p q m. barred_alike p q m b) s r (newline_rest b s (no_newline b i) e)))

module_short : (marked first : Bool) (b : ℕ) (s r : Text) → is_lined (b ∷ s) ≡ true → is_calm (in_module marked first b (s ++ r)) ≡ true → length (bytes (in_module marked first b (s ++ r))) ≤ length (b ∷ s)
    → in_module marked first b s ≡ in_module marked first b (s ++ r)
module_short marked first b s r e c m = by (first && is_begin (b ∷ s)) refl (first && is_end (b ∷ s)) refl (first && is_header (b ∷ s)) refl (ends_module (b ∷ s)) refl
  where
    lined : Newline (b ∷ s)
    lined = newline b s e

    begin_same : (first && is_begin (b ∷ (s ++ r))) ≡ (first && is_begin (b ∷ s))
    begin_same = ap (λ (k : Bool). first && k) (keep is_begin begin_alike (b ∷ s) r lined)

    end_same : (first && is_end (b ∷ (s ++ r))) ≡ (first && is_end (b ∷ s))
    end_same = ap (λ (k : Bool). first && k) (keep is_end end_alike (b ∷ s) r lined)

    header_same : (first && is_header (b ∷ (s ++ r))) ≡ (first && is_header (b ∷ s))
    header_same = ap (λ (k : Bool). first && k) (keep is_header header_alike (b ∷ s) r lined)

    tail_same : ends_module (b ∷ (s ++ r)) ≡ ends_module (b ∷ s)
    tail_same = keep ends_module tail_alike (b ∷ s) r lined

    here_same : line_here (b ∷ (s ++ r)) ≡ line_here (b ∷ s)
    here_same = keep line_here here_alike (b ∷ s) r lined

    never : (g : Segment) → in_module marked first b (s ++ r) ≡ g → is_calm g ≡ false → ⊥
    never g is wild = (let x : true ≡ false = sym c ∙ ap is_calm is ∙ wild in cc)

    by_end : (o : Option (Text × Text)) → at_end_line false (b ∷ (s ++ r)) ≡ o → is_calm (opened o (b ∷ (s ++ r))) ≡ true → length (bytes (opened o (b ∷ (s ++ r)))) ≤ length (b ∷ s)
        → opened (at_end_line false (b ∷ s)) (b ∷ s) ≡ opened (at_end_line false (b ∷ (s ++ r))) (b ∷ (s ++ r))
    by_end None o calm short = (let x : false ≡ true = calm in absurd cc)
    by_end (Some (v, w)) o calm short = rw (o, region_less (b ∷ s) r false v w e o short) refl

    at_begin : (m : Bool) → is_calm (opened (if m then None else at_end_line false (b ∷ (s ++ r))) (b ∷ (s ++ r))) ≡ true
        → length (bytes (opened (if m then None else at_end_line false (b ∷ (s ++ r))) (b ∷ (s ++ r)))) ≤ length (b ∷ s)
        → opened (if m then None else at_end_line false (b ∷ s)) (b ∷ s) ≡ opened (if m then None else at_end_line false (b ∷ (s ++ r))) (b ∷ (s ++ r))
    at_begin true calm short = (let x : false ≡ true = calm in absurd cc)
    at_begin false calm short = by_end (at_end_line false (b ∷ (s ++ r))) refl calm short

    by : (i : Bool) → (first && is_begin (b ∷ s)) ≡ i → (j : Bool) → (first && is_end (b ∷ s)) ≡ j → (k : Bool) → (first && is_header (b ∷ s)) ≡ k → (l : Bool) → ends_module (b ∷ s) ≡ l
        → in_module marked first b s ≡ in_module marked first b (s ++ r)
    by true i j jj k kk l ll =
        let is : in_module marked first b (s ++ r) ≡ opened (if marked then None else at_end_line false (b ∷ (s ++ r))) (b ∷ (s ++ r)) = rw (begin_same ∙ i) refl in
        rw (begin_same ∙ i, i) (at_begin marked (sym (ap is_calm is) ∙ c) (let n = ap (λ (g : Segment). length (bytes g)) is in omega (arith, n, m)))
    by false i true j k kk l ll = absurd (never (mark (line_here (b ∷ (s ++ r)))) (rw (begin_same ∙ i, end_same ∙ j) refl) refl)
    by false i false j true k l ll = rw (begin_same ∙ i, i, end_same ∙ j, j, header_same ∙ k, k) (ap inner (sym here_same))
    by false i false j false k true l = absurd (never (tail (b ∷ (s ++ r))) (rw (begin_same ∙ i, end_same ∙ j, header_same ∙ k, tail_same ∙ l) refl) refl)
    by false i false j false k false l =
        let is : in_module marked first b (s ++ r) ≡ part (module_part b (s ++ r)) = rw (begin_same ∙ i, end_same ∙ j, header_same ∙ k, tail_same ∙ l) refl in
        rw (begin_same ∙ i, i, end_same ∙ j, j, header_same ∙ k, k, tail_same ∙ l, l)
        (ap part (part_short b s r e (sym (ap is_calm is) ∙ c) (let n = ap (λ (g : Segment). length (bytes g)) is in omega (arith, n, m))))

pub segment_short : (st : State) (b : ℕ) (s r : Text) → is_lined (b ∷ s) ≡ true → is_calm (segment_at st b (s ++ r)) ≡ true → length (bytes (segment_at st b (s ++ r))) ≤ length (b ∷ s)
    → segment_at st b s ≡ segment_at st b (s ++ r)
segment_short st b s r e c m = by st.headed refl (is_header (b ∷ s)) refl
  where
    header_same : is_header (b ∷ (s ++ r)) ≡ is_header (b ∷ s)
    header_same = keep is_header header_alike (b ∷ s) r (newline b s e)

    whole_same : whole_line (b ∷ (s ++ r)) ≡ whole_line (b ∷ s)
    whole_same = keep whole_line whole_alike (b ∷ s) r (newline b s e)

    by : (h : Bool) → st.headed ≡ h → (k : Bool) → is_header (b ∷ s) ≡ k → segment_at st b s ≡ segment_at st b (s ++ r)
    by true h k kk =
        let is : segment_at st b (s ++ r) ≡ in_module st.marked (nat_eq st.place.col 1) b (s ++ r) = rw h refl in
        rw h (module_short st.marked (nat_eq st.place.col 1) b s r e (sym (ap is_calm is) ∙ c) (let n = ap (λ (g : Segment). length (bytes g)) is in omega (arith, n, m)))
    by false h true k = rw (h, header_same ∙ k, k) (ap header (sym whole_same))
    by false h false k = rw (h, header_same ∙ k, k) (ap free (sym whole_same))

-- ---- the walk

pub cancel : (m x y : Text) → m ++ x ≡ m ++ y → x ≡ y
cancel [] x y e = e
cancel (b ∷ m) x y e = cancel m x y (ap (λ (u : Text). drop 1 u) e)

pub first_is : (d : Located) (ds : List Located) (e : Located) (es : List Located) → d ∷ ds ≡ e ∷ es → d ≡ e
first_is d ds e es h = cc

pub rest_is : (d : Located) (ds : List Located) (e : Located) (es : List Located) → d ∷ ds ≡ e ∷ es → ds ≡ es
rest_is d ds e es h = cc

pub no_stand : (d : Located) (ds : List Located) → [] ≡ d ∷ ds → ⊥
no_stand d ds e = cc

pub some_bytes : (st : State) (r : Text) (d : Located) (ds : List Located) → walk_from st 0 r ≡ d ∷ ds → bytes d.is ≡ [] → ⊥
some_bytes st [] d ds e n = no_stand d ds e
some_bytes st (b ∷ r) d ds e n =
    let g = segment_at st b r in
    let is = first_is (record { at = st.at; place = st.place; is = g }) (walk_from (after_segment st g) (length (bytes g) - 1) r) d ds e in
    (segment_front st b r).2 (ap (λ (d : Located). bytes d.is) is ∙ n)

front_nil : (x y : Text) → x ++ y ≡ [] → x ≡ []
front_nil [] y e = refl
front_nil (b ∷ x) y e = absurd cc

parted_at : (ds es : List Located) (st : State) (a r : Text) → is_lined a ≡ true → are_calm ds ≡ true → walk_from st 0 (a ++ r) ≡ ds ++ es → text_of ds ≡ a → walk_from st 0 a ≡ ds
parted_at [] es st a r e c w t = ap (λ (u : Text). walk_from st 0 u) (sym t)
parted_at (d ∷ ds) es st [] r e c w t = absurd (some_bytes st r d (ds ++ es) w (front_nil (bytes d.is) (text_of ds) t))
parted_at (d ∷ ds) es st (b ∷ s) r e c w t =
    let long = segment_at st b (s ++ r) in
    let g = segment_at st b s in
    let next = after_segment st g in
    let f = step st b s in
    let more : Segment → List Located = λ h. walk_from (after_segment st h) (length (bytes h) - 1) (s ++ r) in
    let stand : Segment → Located = λ h. record { at = st.at; place = st.place; is = h } in
    let is : stand long ≡ d = first_is (stand long) (more long) d (ds ++ es) w in
    let segment_is : long ≡ d.is = ap (λ (d : Located). d.is) is in
    let calm = and_parts (is_calm d.is) (are_calm ds) c in
    let size : length (bytes d.is) ≤ length (b ∷ s) = (let n = ap (λ (u : Text). length u) t in omega (arith, n, length-append (bytes d.is) (text_of ds))) in
    let long_size : length (bytes long) ≤ length (b ∷ s) = (let n = ap (λ (g : Segment). length (bytes g)) segment_is in omega (arith, n, size)) in
    let same : g ≡ long = segment_short st b s r e (ap is_calm segment_is ∙ calm.0) long_size in
    let rest_text : text_of ds ≡ f.rest = cancel (bytes d.is) (text_of ds) f.rest (t ∙ f.split ∙ ap (λ (g : Segment). bytes g ++ f.rest) (same ∙ segment_is)) in
    let rest_walk : walk_from next 0 (f.rest ++ r) ≡ ds ++ es = sym (f.over_more next r) ∙ ap more same ∙ rest_is (stand long) (more long) d (ds ++ es) w in
    let ends = lined_over (bytes g) f.rest (subst (λ u. is_lined u ≡ true) f.split e) in
    let deeper : walk_from next 0 f.rest ≡ ds = parted_at ds es next f.rest r ends calm.1 rest_walk rest_text in
    ap (λ (xs : List Located). stand g ∷ xs) (f.over next ∙ deeper) ∙ ap (λ (x : Located). x ∷ ds) (ap stand same ∙ is)

-- where a walk is cut after a newline, its beginning is the walk of the bytes so far
pub parted : (ds es : List Located) (st : State) (a r : Text) → is_lined a ≡ true → are_calm ds ≡ true → walk_from st 0 (a ++ r) ≡ ds ++ es → text_of ds ≡ a → walk_from st 0 a ≡ ds
parted ds es st a r e c w t = parted_at ds es st a r e c w t
