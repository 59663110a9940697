-- The walk of a text that ends with a newline goes on after it whatever follows.
use Rattle.std.proofs.Common.{◌≡◌, ℕ, zero, suc, ◌-◌, ◌<◌, ◌≤◌, Bool, true, false, ◌&&◌, nat_eq, List, [], ◌∷◌, ◌++◌, length, take, drop, Option, Some, None, refl, sym, ap, subst, ◌∙◌, arith, codes, append_assoc, length-append}
use Rattle.std.specs.Prelude.{if◌then◌else◌}
use Rattle.std.proofs.lemmas.Bool.{and_parts, eqb-true}
use Rattle.tla_token.specs.Lexemes.{is_blank}
use Rattle.tla_token.specs.Tokens.{line, is_pair}
use Rattle.tla_token.specs.Offences.{sound}
use Rattle.tla_token.specs.Cut.{comment_len, plus, block_part}
use Rattle.tla_token.proofs.Spelled.{begins_is}
use Rattle.tla_token.proofs.Parted.{len_closes}
use Rattle.module_tree.specs.TextFront.{Text, begins, line_here, whole_line}
use Rattle.module_tree.specs.HeaderAndRegion.{is_header, is_begin, is_end}
use Rattle.module_tree.specs.Beginnings.{ends_module}
use Rattle.module_tree.specs.ModuleParts.{barred, module_part}
use Rattle.module_tree.specs.Walk.{Segment, free, header, part, mark, inner, tail, bytes, State, at_end_line, opened, in_module, segment_at, after_segment, Located, walk_from}
use Rattle.module_tree.specs.laws.Walks.{is_lined, is_calm, after_all, are_calm}
use Rattle.module_tree.proofs.WalkLines.{unlined, never_some, begins_alike, header_alike, begin_alike, end_alike, here_alike, whole_alike, tail_alike, string_at, string_alike, barred_alike}
use Rattle.module_tree.proofs.WalkWhole.{segment_front, walk_over}

-- ---- texts that end with a newline

pub lined_rest : (b : ℕ) (s : Text) → is_lined (b ∷ s) ≡ true → is_lined s ≡ true
lined_rest b [] e = refl
lined_rest b (c ∷ s) e = e

pub lined_over : (m rest : Text) → is_lined (m ++ rest) ≡ true → is_lined rest ≡ true
lined_over [] rest e = e
lined_over (b ∷ m) rest e = lined_over m rest (lined_rest b (m ++ rest) e)

pub lined_end : (u : Text) → is_lined (u ++ 10 ∷ []) ≡ true
lined_end [] = refl
lined_end (b ∷ []) = refl
lined_end (b ∷ c ∷ u) = lined_end (c ∷ u)

abbrev pub Newline : Text → Type 0
Newline t = (l : Text) × (t ≡ l ++ 10 ∷ [])

pub newline : (b : ℕ) (s : Text) → is_lined (b ∷ s) ≡ true → Newline (b ∷ s)
newline b [] e = ([], ap (λ (c : ℕ). c ∷ []) (eqb-true b 10 e))
newline b (c ∷ s) e = (let n = newline c s e in (b ∷ n.0, ap (λ (u : Text). b ∷ u) n.1))

-- after another byte
pub newline_rest : (b : ℕ) (s : Text) → nat_eq b 10 ≡ false → is_lined (b ∷ s) ≡ true → Newline s
newline_rest b [] k e = (let x : true ≡ false = sym e ∙ k in absurd cc)
newline_rest b (c ∷ s) k e = newline c s e

pub keep : {A : Type 0} (f : Text → A) → ((p q l : Text) → f (l ++ 10 ∷ p) ≡ f (l ++ 10 ∷ q)) → (t r : Text) → Newline t → f (t ++ r) ≡ f t
keep f h t r (l, e) = ap (λ (u : Text). f (u ++ r)) e ∙ ap f (append_assoc l (10 ∷ []) r) ∙ h r [] l ∙ sym (ap f e)

-- ---- comments and regions

pub plus_more : (k : ℕ) (o c : Option ℕ) → ((m : ℕ) → o ≡ Some m → c ≡ Some m) → (n : ℕ) → plus k o ≡ Some n → plus k c ≡ Some n
plus_more k None c h n e = absurd (never_some n e)
plus_more k (Some m) c h n e = rw (h m refl) e

three_more : (i j : Bool) (n : ℕ) (o p q o' p' q' : Option ℕ) → ((m : ℕ) → o ≡ Some m → o' ≡ Some m) → ((m : ℕ) → p ≡ Some m → p' ≡ Some m) → ((m : ℕ) → q ≡ Some m → q' ≡ Some m)
    → (if i then plus 2 o else (if j then plus 2 p else plus 1 q)) ≡ Some n → (if i then plus 2 o' else (if j then plus 2 p' else plus 1 q')) ≡ Some n
three_more true j n o p q o' p' q' f g h e = plus_more 2 o o' f n e
three_more false true n o p q o' p' q' f g h e = plus_more 2 p p' g n e
three_more false false n o p q o' p' q' f g h e = plus_more 1 q q' h n e

comment_more : (d : ℕ) (x r : Text) (n : ℕ) → comment_len d x ≡ Some n → comment_len d (x ++ r) ≡ Some n
comment_more zero x r n e = e
comment_more (suc d) [] r n e = absurd (never_some n e)
comment_more (suc d) (a ∷ []) r n e = absurd (never_some n e)
comment_more (suc d) (a ∷ b ∷ x) r n e =
    three_more (is_pair 40 42 a b) (is_pair 42 41 a b) n (comment_len (suc (suc d)) x) (comment_len d x) (comment_len (suc d) (b ∷ x))
    (comment_len (suc (suc d)) (x ++ r)) (comment_len d (x ++ r)) (comment_len (suc d) (b ∷ (x ++ r)))
    (comment_more (suc (suc d)) x r) (comment_more d x r) (comment_more (suc d) (b ∷ x) r) e

pub take_more : (n : ℕ) (x r : Text) → n ≤ length x → take n (x ++ r) ≡ take n x
take_more zero x r l = refl
take_more (suc n) [] r l = absurd (omega arith)
take_more (suc n) (b ∷ x) r l = ap (λ (u : Text). b ∷ u) (take_more n x r (omega arith))

region_more : (t r : Text) (first : Bool) (v w : Text) → is_lined t ≡ true → at_end_line first t ≡ Some (v, w) → at_end_line first (t ++ r) ≡ Some (v, w)
region_more [] r first v w e h = absurd (never_some (v, w) h)
region_more (b ∷ s) r first v w e h = by (first && is_end (b ∷ s)) refl (at_end_line (nat_eq b 10) s) refl (λ v w. region_more s r (nat_eq b 10) v w (lined_rest b s e))
  where
    same : (first && is_end (b ∷ (s ++ r))) ≡ (first && is_end (b ∷ s))
    same = ap (λ (k : Bool). first && k) (keep is_end end_alike (b ∷ s) r (newline b s e))

    by : (k : Bool) → (first && is_end (b ∷ s)) ≡ k → (o : Option (Text × Text)) → at_end_line (nat_eq b 10) s ≡ o
        → ((v w : Text) → at_end_line (nat_eq b 10) s ≡ Some (v, w) → at_end_line (nat_eq b 10) (s ++ r) ≡ Some (v, w)) → at_end_line first (b ∷ (s ++ r)) ≡ Some (v, w)
    by true k o oo deeper =
        let got : at_end_line first (b ∷ s) ≡ Some ([], line_here (b ∷ s)) = rw k refl in
        let here : line_here (b ∷ (s ++ r)) ≡ line_here (b ∷ s) = keep line_here here_alike (b ∷ s) r (newline b s e) in
        rw (same ∙ k, here) (sym got ∙ h)
    by false k None o deeper =
        let got : at_end_line first (b ∷ s) ≡ None = rw (k, o) refl in
        absurd (never_some (v, w) (sym got ∙ h))
    by false k (Some (v', w')) o deeper =
        let got : at_end_line first (b ∷ s) ≡ Some (b ∷ v', w') = rw (k, o) refl in
        rw (same ∙ k, deeper v' w' o) (sym got ∙ h)

-- ---- segments

abbrev Kept : Text → Text → Type 0
Kept r [] = ⊥
Kept r (b ∷ s) = is_lined (b ∷ s) ≡ true → is_calm (part (module_part b s)) ≡ true → module_part b (s ++ r) ≡ module_part b s

block_kept : (r s : Text) → Kept r (40 ∷ 42 ∷ s)
block_kept r s e c = by (comment_len 1 s) refl c
  where
    by : (o : Option ℕ) → comment_len 1 s ≡ o → is_calm (part (block_part (comment_len 1 s) s)) ≡ true → block_part (comment_len 1 (s ++ r)) (s ++ r) ≡ block_part (comment_len 1 s) s
    by None o c = (let x : is_calm (part (block_part (comment_len 1 s) s)) ≡ false = rw o refl in let y : true ≡ false = sym c ∙ x in absurd cc)
    by (Some n) o c = rw (o, comment_more 1 s r n o, take_more n s r (len_closes 1 s n o).0) refl

line_kept : (r s : Text) → Kept r (92 ∷ 42 ∷ s)
line_kept r s e c = ap (λ (u : Text). sound (line u)) (keep line_here here_alike s r (newline_rest 42 s refl (lined_rest 92 (42 ∷ s) e)))

string_kept : (r s : Text) → Kept r (34 ∷ s)
string_kept r s e c = keep string_at string_alike s r (newline_rest 34 s refl e)

pub no_newline : (b : ℕ) → is_blank b ≡ false → nat_eq b 10 ≡ false
no_newline b i = by (nat_eq b 10) refl
  where
    by : (k : Bool) → nat_eq b 10 ≡ k → k ≡ false
    by true k = (let e : true ≡ false = ap is_blank (sym (eqb-true b 10 k)) ∙ i in cc)
    by false k = refl

part_kept : (b : ℕ) (s r : Text) → is_lined (b ∷ s) ≡ true → is_calm (part (module_part b s)) ≡ true → module_part b (s ++ r) ≡ module_part b s
part_kept b s r e c = by (is_blank b) refl (nat_eq b 34) refl (begins (b ∷ s) (codes "(*")) refl (begins (b ∷ s) (codes "\\*")) refl
  where
    as_before : (w : Text) → unlined w ≡ true → begins (b ∷ (s ++ r)) w ≡ begins (b ∷ s) w
    as_before w h = keep (λ u. begins u w) (λ p q l. begins_alike p q l w h) (b ∷ s) r (newline b s e)

    by : (i : Bool) → is_blank b ≡ i → (j : Bool) → nat_eq b 34 ≡ j → (k : Bool) → begins (b ∷ s) (codes "(*") ≡ k → (l : Bool) → begins (b ∷ s) (codes "\\*") ≡ l → module_part b (s ++ r) ≡ module_part b s
    by true i j jj k kk l ll = rw i refl
    by false i true j k kk l ll = subst (Kept r) (ap (λ (c : ℕ). c ∷ s) (sym (eqb-true b 34 j))) (string_kept r s) e c
    by false i false j true k l ll = subst (Kept r) (sym (begins_is (b ∷ s) (codes "(*") k)) (block_kept r (drop 2 (b ∷ s))) e c
    by false i false j false k true l = subst (Kept r) (sym (begins_is (b ∷ s) (codes "\\*") l)) (line_kept r (drop 2 (b ∷ s))) e c
    by false i false j false k false l =
        rw (i, j, k, l, as_before (codes "(*") refl ∙ k, as_before (codes "\\*") refl ∙ l) (keep (barred b) (λ p q m. barred_alike p q m b) s r (newline_rest b s (no_newline b i) e))

module_kept : (marked first : Bool) (b : ℕ) (s r : Text) → is_lined (b ∷ s) ≡ true → is_calm (in_module marked first b s) ≡ true → in_module marked first b (s ++ r) ≡ in_module marked first b s
module_kept marked first b s r e c = by (first && is_begin (b ∷ s)) refl (first && is_end (b ∷ s)) refl (first && is_header (b ∷ s)) refl (ends_module (b ∷ s)) refl
  where
    lined : Newline (b ∷ s)
    lined = newline b s e

    begin_same : (first && is_begin (b ∷ (s ++ r))) ≡ (first && is_begin (b ∷ s))
    begin_same = ap (λ (k : Bool). first && k) (keep is_begin begin_alike (b ∷ s) r lined)

    end_same : (first && is_end (b ∷ (s ++ r))) ≡ (first && is_end (b ∷ s))
    end_same = ap (λ (k : Bool). first && k) (keep is_end end_alike (b ∷ s) r lined)

    header_same : (first && is_header (b ∷ (s ++ r))) ≡ (first && is_header (b ∷ s))
    header_same = ap (λ (k : Bool). first && k) (keep is_header header_alike (b ∷ s) r lined)

    tail_same : ends_module (b ∷ (s ++ r)) ≡ ends_module (b ∷ s)
    tail_same = keep ends_module tail_alike (b ∷ s) r lined

    here_same : line_here (b ∷ (s ++ r)) ≡ line_here (b ∷ s)
    here_same = keep line_here here_alike (b ∷ s) r lined

    never : (g : Segment) → in_module marked first b s ≡ g → is_calm g ≡ false → ⊥
    never g is wild = (let x : true ≡ false = sym c ∙ ap is_calm is ∙ wild in cc)

    by_end : (o : Option (Text × Text)) → at_end_line false (b ∷ s) ≡ o → is_calm (opened o (b ∷ s)) ≡ true → opened (at_end_line false (b ∷ (s ++ r))) (b ∷ (s ++ r)) ≡ opened (at_end_line false (b ∷ s)) (b ∷ s)
    by_end None o calm = (let x : false ≡ true = calm in absurd cc)
    by_end (Some (v, w)) o calm = rw (o, region_more (b ∷ s) r false v w e o) refl

    at_begin : (m : Bool) → is_calm (opened (if m then None else at_end_line false (b ∷ s)) (b ∷ s)) ≡ true
        → opened (if m then None else at_end_line false (b ∷ (s ++ r))) (b ∷ (s ++ r)) ≡ opened (if m then None else at_end_line false (b ∷ s)) (b ∷ s)
    at_begin true calm = (let x : false ≡ true = calm in absurd cc)
    at_begin false calm = by_end (at_end_line false (b ∷ s)) refl calm

    by : (i : Bool) → (first && is_begin (b ∷ s)) ≡ i → (j : Bool) → (first && is_end (b ∷ s)) ≡ j → (k : Bool) → (first && is_header (b ∷ s)) ≡ k → (l : Bool) → ends_module (b ∷ s) ≡ l → in_module marked first b (s ++ r) ≡ in_module marked first b s
    by true i j jj k kk l ll =
        let is : in_module marked first b s ≡ opened (if marked then None else at_end_line false (b ∷ s)) (b ∷ s) = rw i refl in
        rw (begin_same ∙ i, i) (at_begin marked (sym (ap is_calm is) ∙ c))
    by false i true j k kk l ll = absurd (never (mark (line_here (b ∷ s))) (rw (i, j) refl) refl)
    by false i false j true k l ll = rw (begin_same ∙ i, i, end_same ∙ j, j, header_same ∙ k, k) (ap inner here_same)
    by false i false j false k true l = absurd (never (tail (b ∷ s)) (rw (i, j, k, l) refl) refl)
    by false i false j false k false l =
        let is : in_module marked first b s ≡ part (module_part b s) = rw (i, j, k, l) refl in
        rw (begin_same ∙ i, i, end_same ∙ j, j, header_same ∙ k, k, tail_same ∙ l, l) (ap part (part_kept b s r e (sym (ap is_calm is) ∙ c)))

pub segment_kept : (st : State) (b : ℕ) (s r : Text) → is_lined (b ∷ s) ≡ true → is_calm (segment_at st b s) ≡ true → segment_at st b (s ++ r) ≡ segment_at st b s
segment_kept st b s r e c = by st.headed refl (is_header (b ∷ s)) refl
  where
    header_same : is_header (b ∷ (s ++ r)) ≡ is_header (b ∷ s)
    header_same = keep is_header header_alike (b ∷ s) r (newline b s e)

    whole_same : whole_line (b ∷ (s ++ r)) ≡ whole_line (b ∷ s)
    whole_same = keep whole_line whole_alike (b ∷ s) r (newline b s e)

    by : (h : Bool) → st.headed ≡ h → (k : Bool) → is_header (b ∷ s) ≡ k → segment_at st b (s ++ r) ≡ segment_at st b s
    by true h k kk =
        let is : segment_at st b s ≡ in_module st.marked (nat_eq st.place.col 1) b s = rw h refl in
        rw h (module_kept st.marked (nat_eq st.place.col 1) b s r e (sym (ap is_calm is) ∙ c))
    by false h true k = rw (h, header_same ∙ k, k) (ap header whole_same)
    by false h false k = rw (h, header_same ∙ k, k) (ap free whole_same)

-- ---- the walk

-- the bytes of the first segment are passed over
pub record Step (st : State) (b : ℕ) (s : Text) : Type 0 where
  pub rest : Text
  pub split : b ∷ s ≡ bytes (segment_at st b s) ++ rest
  pub shorter : length rest < suc (length s)
  pub over : (next : State) → walk_from next (length (bytes (segment_at st b s)) - 1) s ≡ walk_from next 0 rest
  pub over_more : (next : State) (r : Text) → walk_from next (length (bytes (segment_at st b s)) - 1) (s ++ r) ≡ walk_from next 0 (rest ++ r)

pub step : (st : State) (b : ℕ) (s : Text) → Step st b s
step st b s = by (bytes (segment_at st b s)) refl (segment_front st b s).1 (segment_front st b s).2
  where
    rest : Text
    rest = (segment_front st b s).0

    less : (n : ℕ) → suc n - 1 ≡ n
    less n = omega arith

    by : (w : Text) → bytes (segment_at st b s) ≡ w → b ∷ s ≡ bytes (segment_at st b s) ++ rest → (bytes (segment_at st b s) ≡ [] → ⊥) → Step st b s
    by [] x e some = absurd (some x)
    by (c ∷ m) x e some =
        let all : b ∷ s ≡ c ∷ (m ++ rest) = e ∙ ap (λ (u : Text). u ++ rest) x in
        let tail_is : s ≡ m ++ rest = ap (λ (u : Text). drop 1 u) all in
        let count : length (bytes (segment_at st b s)) - 1 ≡ length m = ap (λ (u : Text). length u - 1) x ∙ less (length m) in
        record {
          rest = rest;
          split = e;
          shorter = (let n = ap length all in omega (arith, length-append m rest));
          over = λ next. ap (λ (n : ℕ). walk_from next n s) count ∙ ap (λ (u : Text). walk_from next (length m) u) tail_is ∙ walk_over next m rest;
          over_more = λ next r. ap (λ (n : ℕ). walk_from next n (s ++ r)) count ∙ ap (λ (u : Text). walk_from next (length m) (u ++ r)) tail_is
              ∙ ap (λ (u : Text). walk_from next (length m) u) (append_assoc m rest r) ∙ walk_over next m (rest ++ r);
        }

abbrev Resumes : State → Text → Text → Type 0
Resumes st t r = walk_from st 0 (t ++ r) ≡ walk_from st 0 t ++ walk_from (after_all st (walk_from st 0 t)) 0 r

resume_within : (fuel : ℕ) (st : State) (t r : Text) → length t < fuel → is_lined t ≡ true → are_calm (walk_from st 0 t) ≡ true → Resumes st t r
resume_within zero st t r l e c = absurd (omega arith)
resume_within (suc fuel) st [] r l e c = refl
resume_within (suc fuel) st (b ∷ s) r l e c =
    let g = segment_at st b s in
    let next = after_segment st g in
    let f = step st b s in
    let calm = and_parts (is_calm g) (are_calm (walk_from next (length (bytes g) - 1) s)) c in
    let first : Segment → List Located = λ h. record { at = st.at; place = st.place; is = h } ∷ walk_from (after_segment st h) (length (bytes h) - 1) (s ++ r) in
    let on : List Located → List Located = λ ds. record { at = st.at; place = st.place; is = g } ∷ ds in
    let ends = lined_over (bytes g) f.rest (subst (λ u. is_lined u ≡ true) f.split e) in
    let calm_rest = ap are_calm (sym (f.over next)) ∙ calm.1 in
    let deeper : Resumes next f.rest r = resume_within fuel next f.rest r (let n = f.shorter in omega (arith, l)) ends calm_rest in
    ap first (segment_kept st b s r e calm.0)
    ∙ ap on (f.over_more next r ∙ deeper ∙ ap (λ (ds : List Located). ds ++ walk_from (after_all next ds) 0 r) (sym (f.over next)))

-- a text that ends with a newline, and is calm, is walked as it stands, whatever follows
pub resumed : (st : State) (t r : Text) → is_lined t ≡ true → are_calm (walk_from st 0 t) ≡ true → walk_from st 0 (t ++ r) ≡ walk_from st 0 t ++ walk_from (after_all st (walk_from st 0 t)) 0 r
resumed st t r e c = resume_within (suc (length t)) st t r (omega arith) e c
