-- The segments of a file make it up.
use Rattle.std.proofs.Common.{◌≡◌, ℕ, zero, suc, ◌-◌, ◌<◌, Bool, true, false, not, ◌&&◌, nat_eq, [], ◌∷◌, ◌++◌, length, take, drop, Option, Some, None, refl, sym, ap, subst, ◌∙◌, arith, codes, append_assoc, append-nil, length-append}
use Rattle.std.specs.Prelude.{if◌then◌else◌}
use Rattle.std.proofs.lemmas.List.{take-append-drop}
use Rattle.std.proofs.lemmas.Bool.{eqb-true}
use Rattle.tla_token.specs.Lexemes.{is_blank, unquoted}
use Rattle.tla_token.specs.Tokens.{opens_comment}
use Rattle.tla_token.specs.Offences.{Part, part_bytes, parts_text, string_len}
use Rattle.tla_token.specs.Cut.{run, comment_len, lexeme_part, part_at, parts_at, string_part}
use Rattle.tla_token.proofs.Words.{run_splits, run_over}
use Rattle.tla_token.proofs.Spelled.{begins_is}
use Rattle.tla_token.proofs.Signed.{to_lexeme}
use Rattle.tla_token.proofs.Parted.{some_part}
use Rattle.tla_token.proofs.Cutting.{cut_fits}
use Rattle.module_tree.specs.TextFront.{Text, begins, line_here, whole_line}
use Rattle.module_tree.specs.HeaderAndRegion.{is_header, is_begin, is_end}
use Rattle.module_tree.specs.Beginnings.{is_rule, begins_bar, ends_module}
use Rattle.module_tree.specs.ModuleParts.{barred, module_part}
use Rattle.module_tree.specs.Walk.{Segment, bytes, State, at_end_line, opened, in_module, segment_at, after_segment, walk_from, walk, at_start}
use Rattle.module_tree.specs.laws.Walks.{text_of}
use Rattle.module_tree.proofs.WalkLines.{never_some}

-- w is at the front of t, and some bytes
abbrev pub At : Text → Text → Type 0
At w t = (rest : Text) × (t ≡ w ++ rest) × (w ≡ [] → ⊥)

some_byte : (b : ℕ) (s : Text) → b ∷ s ≡ [] → ⊥
some_byte b s e = cc

-- ---- parts

lexeme_front : (b : ℕ) (s : Text) → is_blank b ≡ false → nat_eq b 34 ≡ false → opens_comment (b ∷ s) ≡ false → At (part_bytes (lexeme_part b s)) (b ∷ s)
lexeme_front b s i j k =
    let c = cut_fits (b ∷ s) in
    let P : Part → Type 0 = λ p. At (part_bytes p) (b ∷ s) in
    let more : Text = parts_text (parts_at (length (part_bytes (part_at b s)) - 1) s) in
    subst P (to_lexeme b s i j k) (more, sym c.0, some_part (part_at b s) more c.1.0)

pub alone : (b : ℕ) → opens_comment (b ∷ []) ≡ false
alone b = by (nat_eq 40 b) refl (nat_eq 92 b) refl
  where
    by : (i : Bool) → nat_eq 40 b ≡ i → (j : Bool) → nat_eq 92 b ≡ j → opens_comment (b ∷ []) ≡ false
    by true i true j = rw (i, j) refl
    by true i false j = rw (i, j) refl
    by false i true j = rw (i, j) refl
    by false i false j = rw (i, j) refl

abbrev Dashed : Text → Type 0
Dashed [] = ⊥
Dashed (b ∷ s) = At (part_bytes (barred b s)) (b ∷ s)

dashes_front : (r : Text) → Dashed (45 ∷ 45 ∷ 45 ∷ 45 ∷ r)
dashes_front r =
    let c = run_splits (λ c. nat_eq c 45) (45 ∷ 45 ∷ 45 ∷ 45 ∷ r) in
    let first = run_over (λ c. nat_eq c 45) (45 ∷ []) (45 ∷ 45 ∷ 45 ∷ r) refl in
    (c.0, c.1, λ e. some_byte 45 (run (λ c. nat_eq c 45) (45 ∷ 45 ∷ 45 ∷ r)) (sym first ∙ e))

barred_front : (b : ℕ) (s : Text) → is_blank b ≡ false → nat_eq b 34 ≡ false → opens_comment (b ∷ s) ≡ false → At (part_bytes (barred b s)) (b ∷ s)
barred_front b s i j k = by (is_rule (b ∷ s)) refl (begins_bar s) refl
  where
    by : (l : Bool) → is_rule (b ∷ s) ≡ l → (m : Bool) → begins_bar s ≡ m → At (part_bytes (barred b s)) (b ∷ s)
    by true l m mm = subst Dashed (sym (begins_is (b ∷ s) (codes "----") l)) (dashes_front (drop 4 (b ∷ s)))
    by false l true m = rw (l, m) (let c = lexeme_front b [] i j (alone b) in (c.0 ++ s, ap (λ (u : Text). u ++ s) c.1 ∙ append_assoc (part_bytes (lexeme_part b [])) c.0 s, c.2))
    by false l false m = rw (l, m) (lexeme_front b s i j k)

-- ---- strings

string_front : (raw rest : Text) → At (part_bytes (string_part raw rest)) (34 ∷ (raw ++ rest))
string_front raw rest = by (begins rest (34 ∷ [])) refl (unquoted raw) refl
  where
    closed : Text → Text
    closed r = 34 ∷ (raw ++ r)

    by : (k : Bool) → begins rest (34 ∷ []) ≡ k → (o : Option Text) → unquoted raw ≡ o → At (part_bytes (string_part raw rest)) (34 ∷ (raw ++ rest))
    by true k None o = rw (k, o) (drop 1 rest, ap closed (begins_is rest (34 ∷ []) k) ∙ ap (λ (u : Text). 34 ∷ u) (sym (append_assoc raw (34 ∷ []) (drop 1 rest))), λ e. cc)
    by true k (Some w) o = rw (k, o) (drop 1 rest, ap closed (begins_is rest (34 ∷ []) k) ∙ ap (λ (u : Text). 34 ∷ u) (sym (append_assoc raw (34 ∷ []) (drop 1 rest))), λ e. cc)
    by false k o oo = rw k (rest, refl, λ e. cc)

-- ---- comments

abbrev Commented : Text → Type 0
Commented [] = ⊥
Commented (b ∷ s) = At (part_bytes (module_part b s)) (b ∷ s)

block_front : (s : Text) → Commented (40 ∷ 42 ∷ s)
block_front s = by (comment_len 1 s) refl
  where
    by : (o : Option ℕ) → comment_len 1 s ≡ o → Commented (40 ∷ 42 ∷ s)
    by None e = rw e ([], ap (λ (u : Text). 40 ∷ 42 ∷ u) (sym (append-nil s)), λ e. cc)
    by (Some n) e = rw e (drop n s, ap (λ (u : Text). 40 ∷ 42 ∷ u) (sym (take-append-drop n s)), λ e. cc)

line_front : (s : Text) → Commented (92 ∷ 42 ∷ s)
line_front s = (let c = run_splits (λ c. not (nat_eq c 10)) s in (c.0, ap (λ (u : Text). 92 ∷ 42 ∷ u) c.1, λ e. cc))

quote_front : (s : Text) → Commented (34 ∷ s)
quote_front s =
    let n = string_len s in
    let P : Text → Type 0 = λ u. At (part_bytes (string_part (take n s) (drop n s))) (34 ∷ u) in
    subst P (take-append-drop n s) (string_front (take n s) (drop n s))

part_front : (b : ℕ) (s : Text) → At (part_bytes (module_part b s)) (b ∷ s)
part_front b s = by (is_blank b) refl (nat_eq b 34) refl (begins (b ∷ s) (codes "(*")) refl (begins (b ∷ s) (codes "\\*")) refl
  where
    by : (i : Bool) → is_blank b ≡ i → (j : Bool) → nat_eq b 34 ≡ j → (k : Bool) → begins (b ∷ s) (codes "(*") ≡ k → (l : Bool) → begins (b ∷ s) (codes "\\*") ≡ l → At (part_bytes (module_part b s)) (b ∷ s)
    by true i j jj k kk l ll = rw i (s, refl, λ e. cc)
    by false i true j k kk l ll = subst Commented (ap (λ (c : ℕ). c ∷ s) (sym (eqb-true b 34 j))) (quote_front s)
    by false i false j true k l ll = subst Commented (sym (begins_is (b ∷ s) (codes "(*") k)) (block_front (drop 2 (b ∷ s)))
    by false i false j false k true l = subst Commented (sym (begins_is (b ∷ s) (codes "\\*") l)) (line_front (drop 2 (b ∷ s)))
    by false i false j false k false l = rw (i, j, k, l) (barred_front b s i j (rw (k, l) refl))

-- ---- segments

abbrev Lined : Text → Type 0
Lined t = At (whole_line t) t

whole_front : (b : ℕ) (s : Text) → Lined (b ∷ s)
whole_front b s = by (nat_eq b 10) refl (tail_front s)
  where
    tail_front : (s : Text) → (rest : Text) × (s ≡ whole_line s ++ rest)
    tail_front [] = ([], refl)
    tail_front (c ∷ s) = on (nat_eq c 10) refl (tail_front s)
      where
        on : (k : Bool) → nat_eq c 10 ≡ k → (rest : Text) × (s ≡ whole_line s ++ rest) → (rest : Text) × (c ∷ s ≡ whole_line (c ∷ s) ++ rest)
        on true k r = (s, rw k refl)
        on false k (r, e) = (r, rw k (ap (λ (u : Text). c ∷ u) e))

    by : (k : Bool) → nat_eq b 10 ≡ k → (rest : Text) × (s ≡ whole_line s ++ rest) → Lined (b ∷ s)
    by true k r = rw k (s, refl, λ e. cc)
    by false k (r, e) = rw k (r, ap (λ (u : Text). b ∷ u) e, λ e. cc)

here_front : (b : ℕ) (s : Text) → nat_eq b 10 ≡ false → At (line_here (b ∷ s)) (b ∷ s)
here_front b s k =
    let c = run_splits (λ c. not (nat_eq c 10)) (b ∷ s) in
    let first = run_over (λ c. not (nat_eq c 10)) (b ∷ []) s (rw k refl) in
    (c.0, c.1, λ e. some_byte b (line_here s) (sym first ∙ e))

-- no such line begins with its end
apart : (P : Text → Bool) (b : ℕ) (s : Text) → P (10 ∷ s) ≡ false → P (b ∷ s) ≡ true → nat_eq b 10 ≡ false
apart P b s never here = by (nat_eq b 10) refl
  where
    by : (k : Bool) → nat_eq b 10 ≡ k → k ≡ false
    by true k = (let e : true ≡ false = sym here ∙ ap (λ (c : ℕ). P (c ∷ s)) (eqb-true b 10 k) ∙ never in cc)
    by false k = refl

begin_front : (b : ℕ) (s : Text) → is_begin (b ∷ s) ≡ true → At (line_here (b ∷ s)) (b ∷ s)
begin_front b s e = here_front b s (apart is_begin b s refl e)

end_front : (b : ℕ) (s : Text) → is_end (b ∷ s) ≡ true → At (line_here (b ∷ s)) (b ∷ s)
end_front b s e = here_front b s (apart is_end b s refl e)

inner_front : (b : ℕ) (s : Text) → is_header (b ∷ s) ≡ true → At (line_here (b ∷ s)) (b ∷ s)
inner_front b s e = here_front b s (apart is_header b s refl e)

both : (i j : Bool) → (i && j) ≡ true → j ≡ true
both true j e = e
both false j e = cc

pub region_front : (t : Text) (first : Bool) (v w : Text) → at_end_line first t ≡ Some (v, w) → At (v ++ w) t
region_front [] first v w e = absurd (never_some (v, w) e)
region_front (b ∷ s) first v w e = by (first && is_end (b ∷ s)) refl (at_end_line (nat_eq b 10) s) refl (region_front s (nat_eq b 10))
  where
    pairs : {A : Type 0} (x y : A) → Some x ≡ Some y → x ≡ y
    pairs x y e = cc

    over : (m : Text × Text) → m ≡ (v, w) → At (m.0 ++ m.1) (b ∷ s) → At (v ++ w) (b ∷ s)
    over m e a = (let P : Text × Text → Type 0 = λ m. At (m.0 ++ m.1) (b ∷ s) in subst P e a)

    by : (k : Bool) → (first && is_end (b ∷ s)) ≡ k → (o : Option (Text × Text)) → at_end_line (nat_eq b 10) s ≡ o
        → ((p q : Text) → at_end_line (nat_eq b 10) s ≡ Some (p, q) → At (p ++ q) s) → At (v ++ w) (b ∷ s)
    by true k o oo deeper =
        let got : at_end_line first (b ∷ s) ≡ Some ([], line_here (b ∷ s)) = rw k refl in
        over ([], line_here (b ∷ s)) (pairs ([], line_here (b ∷ s)) (v, w) (sym got ∙ e)) (end_front b s (both first (is_end (b ∷ s)) k))
    by false k None o deeper =
        let got : at_end_line first (b ∷ s) ≡ None = rw (k, o) refl in
        absurd (never_some (v, w) (sym got ∙ e))
    by false k (Some (p, q)) o deeper =
        let got : at_end_line first (b ∷ s) ≡ Some (b ∷ p, q) = rw (k, o) refl in
        let c = deeper p q o in
        over (b ∷ p, q) (pairs (b ∷ p, q) (v, w) (sym got ∙ e)) (c.0, ap (λ (u : Text). b ∷ u) c.1, some_byte b (p ++ q))

module_front : (marked first : Bool) (b : ℕ) (s : Text) → At (bytes (in_module marked first b s)) (b ∷ s)
module_front marked first b s =
    by (first && is_begin (b ∷ s)) refl (first && is_end (b ∷ s)) refl (first && is_header (b ∷ s)) refl (ends_module (b ∷ s)) refl
  where
    unmarked : (o : Option (Text × Text)) → at_end_line false (b ∷ s) ≡ o → is_begin (b ∷ s) ≡ true → At (bytes (opened o (b ∷ s))) (b ∷ s)
    unmarked None o e = begin_front b s e
    unmarked (Some (v, w)) o e = region_front (b ∷ s) false v w o

    at_begin : (m : Bool) → is_begin (b ∷ s) ≡ true → At (bytes (opened (if m then None else at_end_line false (b ∷ s)) (b ∷ s))) (b ∷ s)
    at_begin true e = begin_front b s e
    at_begin false e = unmarked (at_end_line false (b ∷ s)) refl e

    by : (i : Bool) → (first && is_begin (b ∷ s)) ≡ i → (j : Bool) → (first && is_end (b ∷ s)) ≡ j → (k : Bool) → (first && is_header (b ∷ s)) ≡ k → (l : Bool) → ends_module (b ∷ s) ≡ l → At (bytes (in_module marked first b s)) (b ∷ s)
    by true i j jj k kk l ll = rw i (at_begin marked (both first (is_begin (b ∷ s)) i))
    by false i true j k kk l ll = rw (i, j) (end_front b s (both first (is_end (b ∷ s)) j))
    by false i false j true k l ll = rw (i, j, k) (inner_front b s (both first (is_header (b ∷ s)) k))
    by false i false j false k true l = rw (i, j, k, l) ([], ap (λ (u : Text). b ∷ u) (sym (append-nil s)), some_byte b s)
    by false i false j false k false l = rw (i, j, k, l) (part_front b s)

pub segment_front : (st : State) (b : ℕ) (s : Text) → At (bytes (segment_at st b s)) (b ∷ s)
segment_front st b s = by st.headed refl (is_header (b ∷ s)) refl
  where
    by : (h : Bool) → st.headed ≡ h → (k : Bool) → is_header (b ∷ s) ≡ k → At (bytes (segment_at st b s)) (b ∷ s)
    by true h k kk = rw h (module_front st.marked (nat_eq st.place.col 1) b s)
    by false h true k = rw (h, k) (whole_front b s)
    by false h false k = rw (h, k) (whole_front b s)

-- ---- the walk

pub walk_over : (st : State) (m rest : Text) → walk_from st (length m) (m ++ rest) ≡ walk_from st 0 rest
walk_over st [] rest = refl
walk_over st (b ∷ m) rest = walk_over st m rest

abbrev IsWhole : State → Text → Type 0
IsWhole st t = text_of (walk_from st 0 t) ≡ t

whole_within : (fuel : ℕ) (st : State) (t : Text) → length t < fuel → IsWhole st t
whole_within zero st t l = absurd (omega arith)
whole_within (suc fuel) st [] l = refl
whole_within (suc fuel) st (b ∷ s) l = by (bytes g) refl front.1 front.2 (whole_within fuel next)
  where
    g : Segment
    g = segment_at st b s

    next : State
    next = after_segment st g

    front : At (bytes g) (b ∷ s)
    front = segment_front st b s

    by : (w : Text) → bytes g ≡ w → b ∷ s ≡ bytes g ++ front.0 → (bytes g ≡ [] → ⊥) → ((t : Text) → length t < fuel → IsWhole next t) → IsWhole st (b ∷ s)
    by [] x e some deeper = absurd (some x)
    by (c ∷ m) x e some deeper =
        let split : b ∷ s ≡ c ∷ (m ++ front.0) = e ∙ ap (λ (u : Text). u ++ front.0) x in
        let rest : s ≡ m ++ front.0 = ap (λ (u : Text). drop 1 u) split in
        let count : length (bytes g) - 1 ≡ length m = ap (λ (u : Text). length u - 1) x ∙ less (length m) in
        let step : walk_from next (length (bytes g) - 1) s ≡ walk_from next 0 front.0 =
        ap (λ (n : ℕ). walk_from next n s) count ∙ ap (λ (u : Text). walk_from next (length m) u) rest ∙ walk_over next m front.0 in
        let shorter : length front.0 < fuel = (let n = ap length split in omega (arith, length-append m front.0)) in
        ap (λ (u : Text). bytes g ++ u) (ap text_of step ∙ deeper front.0 shorter) ∙ sym e
      where
        less : (n : ℕ) → suc n - 1 ≡ n
        less n = omega arith

-- the segments of a file make it up
pub whole : (x : Text) → text_of (walk x) ≡ x
whole x = whole_within (suc (length x)) at_start x (omega arith)
