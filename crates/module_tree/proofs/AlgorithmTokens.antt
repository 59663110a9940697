-- Where no rule on bytes and strings is broken in an algorithm, its tokens are those of its stretch.
use Rattle.std.proofs.Common.{◌≡◌, ℕ, zero, suc, ◌+◌, ◌-◌, ◌<◌, Bool, true, false, not, ◌||◌, nat_eq, List, [], ◌∷◌, ◌++◌, length, map, take, drop, Option, Some, None, refl, sym, ap, subst, ◌∙◌, codes, arith, append_assoc, append-nil, length-append}
use Rattle.std.specs.Prelude.{if◌then◌else◌, nat_le, ◌&&◌}
use Rattle.std.specs.List.{list_all, list_any, flat_map, starts_with}
use Rattle.std.proofs.lemmas.Bool.{and_parts, and_from, eqb-true, eq-eqb, not-true, or_right, both_ways}
use Rattle.std.proofs.lemmas.Option.{none-some, same_Some}
use Rattle.std.proofs.lemmas.List.{take-append-drop}
use Rattle.std.proofs.Math.Seq.{take-append_seam}
use Rattle.tla_token.specs.Lexemes.{name, number, string, one, other, unquoted, behind_backslash, in_front, escaped, is_plain}
use Rattle.tla_token.specs.Tokens.{Piece, blank, block, line, lexeme, bytes_of, text_of, Fits, AllFit, holds_mark, unmarked_kind}
use Rattle.tla_token.specs.Offences.{Part, sound, stray, bad_string, open_string, open_block, part_bytes, parts_text, PartFits, string_len, begins_with, is_stray, has_bad_escape, breaks_string, Offence, offence_if, byte_offences, part_offences}
use Rattle.tla_token.specs.Rules.{rule_number}
use Rattle.tla_token.specs.declared.rule.Rule.{Rule}
use Rattle.tla_token.specs.declared.rule.Rule.TheVariants.{NotAscii, BadToken, OpenString}
use Rattle.tla_token.specs.Cut.{part_at, parts_at, string_part}
use Rattle.tla_token.proofs.Spelled.{begins_is}
use Rattle.tla_token.proofs.Front.{quote_front}
use Rattle.tla_token.proofs.Longest.{same_first}
use Rattle.tla_token.proofs.Parted.{some_part}
use Rattle.tla_token.proofs.Cutting.{cut_fits}
use Rattle.tla_token.proofs.Faulty.{sound_part}
use Rattle.tla_token.proofs.Less.{fits_less}
use Rattle.module_tree.specs.TextFront.{Text}
use Rattle.module_tree.specs.ModuleParts.{kind_in}
use Rattle.module_tree.specs.laws.Kept.{is_large, only_large}
use Rattle.module_tree.specs.AlgorithmText.{Stage, is_past, after_part, IndexedPart, Inside, with_part, inner_part, inside}
use Rattle.module_tree.proofs.InsidePieces.{passed, no_bad, no_open}

-- ---- a mark of a comment in a string

in_front_some : (o : Option ℕ) (p : Option Text) (w : Text) → in_front o p ≡ Some w → (b : ℕ) × (v : Text) × (w ≡ b ∷ v) × (p ≡ Some v)
in_front_some (Some b) (Some v) w e = (b, v, sym (same_Some (b ∷ v) w e), refl)
in_front_some (Some b) None w e = absurd cc
in_front_some None p w e = absurd cc

more_mark : (b : ℕ) (v : Text) → holds_mark v ≡ true → holds_mark (b ∷ v) ≡ true
more_mark b v h = or_right (starts_with nat_eq (b ∷ v) (codes "(*") || starts_with nat_eq (b ∷ v) (codes "*)")) (holds_mark v) h

mark_first : (v w : Text) (o : Option Text) → unquoted v ≡ o → unquoted (42 ∷ 41 ∷ v) ≡ Some w → holds_mark w ≡ true
mark_first v w None o e = (let f : None ≡ Some w = rw o at e in absurd (none-some w f))
mark_first v w (Some z) o e =
    let f : Some (42 ∷ 41 ∷ z) ≡ Some w = rw o at e in
    subst (λ (w : Text). holds_mark w ≡ true) (same_Some _ _ f) refl

mutual
  marked : (u v w : Text) → unquoted (u ++ 42 ∷ 41 ∷ v) ≡ Some w → holds_mark w ≡ true
  marked [] v w e = mark_first v w (unquoted v) refl e
  marked (b ∷ u) v w e = by (nat_eq b 92) refl (marked_behind u v) (marked u v)
    where
      by : (k : Bool) → nat_eq b 92 ≡ k → ((w : Text) → behind_backslash (u ++ 42 ∷ 41 ∷ v) ≡ Some w → holds_mark w ≡ true) → ((w : Text) → unquoted (u ++ 42 ∷ 41 ∷ v) ≡ Some w → holds_mark w ≡ true)
          → holds_mark w ≡ true
      by true k x y = (let f : behind_backslash (u ++ 42 ∷ 41 ∷ v) ≡ Some w = rw k at e in x w f)
      by false k x y =
          let bs = u ++ 42 ∷ 41 ∷ v in
          let f : in_front (if is_plain b then Some b else None) (unquoted bs) ≡ Some w =
          ap (λ (k : Bool). if k then behind_backslash bs else in_front (if is_plain b then Some b else None) (unquoted bs)) (sym k) ∙ e in
          let a = in_front_some (if is_plain b then Some b else None) (unquoted (u ++ 42 ∷ 41 ∷ v)) w f in
          subst (λ (w : Text). holds_mark w ≡ true) (sym a.2) (more_mark a.0 a.1 (y a.1 a.3))

  marked_behind : (u v w : Text) → behind_backslash (u ++ 42 ∷ 41 ∷ v) ≡ Some w → holds_mark w ≡ true
  marked_behind [] v w e = absurd cc
  marked_behind (b ∷ u) v w e =
      let a = in_front_some (escaped b) (unquoted (u ++ 42 ∷ 41 ∷ v)) w e in
      subst (λ (w : Text). holds_mark w ≡ true) (sym a.2) (more_mark a.0 a.1 (marked u v a.1 a.3))

-- ---- a part within the comment

-- the comment's end, or the text's
abbrev pub Ends : Text → Type 0
Ends [] = Unit {0}
Ends (a ∷ []) = ⊥
Ends (a ∷ b ∷ r) = (a ≡ 42) × (b ≡ 41)

unlike : (a b : ℕ) → nat_eq a b ≡ false → a ≡ b → ⊥
unlike a b n e = both_ways (nat_eq a b) n (eq-eqb a b e)

-- a text that the mark ends, and a string in which it isn't
cut_before : (r rest v raw done : Text) → v ++ 42 ∷ 41 ∷ r ≡ raw ++ 34 ∷ rest → ((u z : Text) → done ++ raw ≡ u ++ 42 ∷ 41 ∷ z → ⊥) → (more : Text) × (v ≡ raw ++ 34 ∷ more)
cut_before r rest [] [] done e n = absurd (unlike 42 34 refl (same_first 42 34 (41 ∷ r) rest e).0)
cut_before r rest [] (c ∷ []) done e n = absurd (unlike 41 34 refl (same_first 41 34 r rest (same_first 42 c (41 ∷ r) (34 ∷ rest) e).1).0)
cut_before r rest [] (c ∷ d ∷ raw) done e n =
    let x = same_first 42 c (41 ∷ r) (d ∷ (raw ++ 34 ∷ rest)) e in
    let y = same_first 41 d r (raw ++ 34 ∷ rest) x.1 in
    absurd (n done raw (ap (λ (c : ℕ). done ++ c ∷ d ∷ raw) (sym x.0) ∙ ap (λ (d : ℕ). done ++ 42 ∷ d ∷ raw) (sym y.0)))
cut_before r rest (b ∷ v) [] done e n = (v, ap (λ (b : ℕ). b ∷ v) (same_first b 34 (v ++ 42 ∷ 41 ∷ r) rest e).0)
cut_before r rest (b ∷ v) (c ∷ raw) done e n =
    let x = same_first b c (v ++ 42 ∷ 41 ∷ r) (raw ++ 34 ∷ rest) e in
    let deeper = cut_before r rest v raw (done ++ c ∷ []) x.1 (λ u z f. n u z (sym (append_assoc done (c ∷ []) raw) ∙ f)) in
    (deeper.0, ap (λ (b : ℕ). b ∷ v) x.0 ∙ ap (λ (u : Text). c ∷ u) deeper.1)

-- a string of which the mark of the end is no part ends before it
within_end : (v r raw rest : Text) → Ends r → v ++ r ≡ raw ++ 34 ∷ rest → (w : Text) → unquoted raw ≡ Some w → holds_mark w ≡ false
    → (more : Text) × (v ≡ raw ++ 34 ∷ more)
within_end v [] raw rest h e w u m = (rest, sym (append-nil v) ∙ e)
within_end v (a ∷ []) raw rest h e w u m = absurd h
within_end v (a ∷ b ∷ r) raw rest h e w u m =
    cut_before r rest v raw [] (ap (λ (a : ℕ). v ++ a ∷ 41 ∷ r) (sym h.0) ∙ ap (λ (b : ℕ). v ++ a ∷ b ∷ r) (sym h.1) ∙ e)
    (λ p z f. both_ways (holds_mark w) m (marked p z w (ap unquoted (sym f) ∙ u)))

-- ---- a sound part of an algorithm

abbrev pub plain_piece : Piece → Bool
plain_piece (lexeme k bytes) = unmarked_kind k
plain_piece p = true

-- it is the first part of what is in the comment
pub record Found (p : Piece) (b : ℕ) (v : Text) : Type 0 where
  pub m : Text
  pub rest : Text
  pub is : bytes_of p ≡ b ∷ m
  pub split : v ≡ m ++ rest
  pub fits : Fits p rest

pub found_first : (p : Piece) (b : ℕ) (v : Text) → part_at b v ≡ sound p → Found p b v
found_first p b v e = by (bytes_of p) refl
  where
    rest : Text
    rest = parts_text (parts_at (length (part_bytes (part_at b v)) - 1) v)

    fits : Fits p rest
    fits = subst (λ (q : Part). PartFits q rest) e (cut_fits (b ∷ v)).1.0

    whole : bytes_of p ++ rest ≡ b ∷ v
    whole = ap (λ (q : Part). part_bytes q ++ rest) (sym e) ∙ (cut_fits (b ∷ v)).0

    by : (u : Text) → bytes_of p ≡ u → Found p b v
    by [] x = absurd (some_part (sound p) rest fits x)
    by (c ∷ m) x =
        let all : c ∷ (m ++ rest) ≡ b ∷ v = ap (λ (u : Text). u ++ rest) (sym x) ∙ whole in
        let first : c ≡ b = cc in
        record { m = m; rest = rest; is = x ∙ ap (λ (c : ℕ). c ∷ m) first; split = sym (ap (drop 1) all); fits = fits }

sound_is : {p q : Piece} → sound p ≡ sound q → p ≡ q
sound_is e = cc

-- a string on its line is one in the comment
string_found : (v r : Text) (p : Piece) → Ends r → part_at 34 (v ++ r) ≡ sound p → plain_piece p ≡ true → part_at 34 v ≡ sound p
string_found v r p h e n = by (begins_with 34 rest) refl (unquoted raw) refl
  where
    s : Text
    s = v ++ r

    raw : Text
    raw = take (string_len s) s

    rest : Text
    rest = drop (string_len s) s

    by : (k : Bool) → begins_with 34 rest ≡ k → (o : Option Text) → unquoted raw ≡ o → part_at 34 v ≡ sound p
    by true k None o = (let x : string_part raw rest ≡ bad_string raw = rw (k, o) refl in absurd (no_bad raw p (sym x ∙ e)))
    by true k (Some w) o =
        let x : string_part raw rest ≡ sound (lexeme (string w) (34 ∷ (raw ++ 34 ∷ []))) = rw (k, o) refl in
        let same : lexeme (string w) (34 ∷ (raw ++ 34 ∷ [])) ≡ p = sound_is (sym x ∙ e) in
        let plain : not (holds_mark w) ≡ true = ap plain_piece same ∙ n in
        let split : v ++ r ≡ raw ++ 34 ∷ drop 1 rest = sym (take-append-drop (string_len s) s) ∙ ap (λ (u : Text). raw ++ u) (begins_is rest (34 ∷ []) k) in
        let c = within_end v r raw (drop 1 rest) h split w o (not-true (holds_mark w) plain) in
        ap (part_at 34) c.1 ∙ quote_front raw c.0 w o ∙ sym x ∙ e
    by false k o oo = (let x : string_part raw rest ≡ open_string raw = rw k refl in absurd (no_open raw p (sym x ∙ e)))

pub part_found : (b : ℕ) (v r : Text) (p : Piece) → Ends r → inner_part (length v) b (v ++ r) ≡ sound p → plain_piece p ≡ true → part_at b v ≡ sound p
part_found b v r p h e n = by (nat_eq b 34) refl
  where
    choose : {k : Bool} → nat_eq b 34 ≡ k → part_at b (if k then v ++ r else take (length v) (v ++ r)) ≡ sound p
    choose k = ap (λ (k : Bool). part_at b (if k then v ++ r else take (length v) (v ++ r))) (sym k) ∙ e

    by : (k : Bool) → nat_eq b 34 ≡ k → part_at b v ≡ sound p
    by true k =
        let same : b ≡ 34 = eqb-true b 34 k in
        ap (λ (b : ℕ). part_at b v) same ∙ string_found v r p h (ap (λ (b : ℕ). part_at b (v ++ r)) (sym same) ∙ choose k) n
    by false k = ap (part_at b) (sym (take-append_seam v r)) ∙ choose k

-- ---- all of them

-- the parts are sound, and no string has a mark in it
abbrev pub is_plain_part : Part → Bool
is_plain_part (sound p) = plain_piece p
is_plain_part p = false

abbrev pub are_plain : List IndexedPart → Bool
are_plain ps = only_large (flat_map (λ p. part_offences true p.0 p.1) ps)

pub large_parts : (os qs : List Offence) → only_large (os ++ qs) ≡ true → (only_large os ≡ true) × (only_large qs ≡ true)
large_parts [] qs h = (refl, h)
large_parts (o ∷ os) qs h =
    let k = and_parts (is_large o) (only_large (os ++ qs)) h in
    let m = large_parts os qs k.1 in
    (and_from (is_large o) (only_large os) k.0 m.0, m.1)

-- of another rule there is none
none_of : (k : Bool) (q : Rule) (at : ℕ) → nat_eq (rule_number q) 12 ≡ false → only_large (offence_if k q at) ≡ true → (k ≡ false) × (offence_if k q at ≡ [])
none_of true q at n h = absurd (both_ways (nat_eq (rule_number q) 12) n (and_parts (nat_eq (rule_number q) 12) true h).0)
none_of false q at n h = (refl, refl)

byte_rule : (b : ℕ) → nat_eq (rule_number (if nat_le 128 b then NotAscii else BadToken)) 12 ≡ false
byte_rule b = by (nat_le 128 b)
  where
    by : (k : Bool) → nat_eq (rule_number (if k then NotAscii else BadToken)) 12 ≡ false
    by true = refl
    by false = refl

no_bytes : (at : ℕ) (raw : Text) → only_large (byte_offences at raw) ≡ true → byte_offences at raw ≡ []
no_bytes at [] h = refl
no_bytes at (b ∷ bs) h =
    let q = if nat_le 128 b then NotAscii else BadToken in
    let k = large_parts (offence_if (is_stray b) q at) (byte_offences (at + 1) bs) h in
    rw (none_of (is_stray b) q at (byte_rule b) k.0).1 (no_bytes (at + 1) bs k.1)

-- a part that breaks no other rule is a sound one
plain_part : (q : Part) (rest : Text) (at : ℕ) → PartFits q rest → only_large (part_offences true at q) ≡ true → is_plain_part q ≡ true
plain_part (sound (blank b)) rest at f h = refl
plain_part (sound (block body)) rest at f h = refl
plain_part (sound (line body)) rest at f h = refl
plain_part (sound (lexeme (name w) bytes)) rest at f h = refl
plain_part (sound (lexeme (number n) bytes)) rest at f h = refl
plain_part (sound (lexeme (string w) bytes)) rest at f h = ap not (none_of (holds_mark w) BadToken at refl h).0
plain_part (sound (lexeme (one s) bytes)) rest at f h = refl
plain_part (sound (lexeme (other w) bytes)) rest at f h = refl
plain_part (stray b) rest at f h =
    let q = if nat_le 128 b then NotAscii else BadToken in
    let k = large_parts (offence_if (is_stray b) q at) [] h in
    absurd (both_ways (is_stray b) (none_of (is_stray b) q at (byte_rule b) k.0).0 f)
plain_part (bad_string raw) rest at f h =
    let bad = has_bad_escape raw || (true && holds_mark raw) in
    let broken = list_any breaks_string raw in
    let k = large_parts (offence_if bad BadToken at) (offence_if broken OpenString at ++ byte_offences (at + 1) raw) h in
    let m = large_parts (offence_if broken OpenString at) (byte_offences (at + 1) raw) k.1 in
    let none : part_offences true at (bad_string raw) ≡ [] = three (offence_if bad BadToken at) (offence_if broken OpenString at) (byte_offences (at + 1) raw)
    (none_of bad BadToken at refl k.0).1 (none_of broken OpenString at refl m.0).1 (no_bytes (at + 1) raw m.1) in
    let s = sound_part true at (bad_string raw) rest f none in
    absurd (no_bad raw s.0 s.1)
  where
    three : (a b c : List Offence) → a ≡ [] → b ≡ [] → c ≡ [] → a ++ (b ++ c) ≡ []
    three a b c e f g = λ i. e i ++ (f i ++ g i)
plain_part (open_string raw) rest at f h = absurd cc
plain_part (open_block body) rest at f h = absurd cc

pub plain_first : (at b : ℕ) (t : Text) → only_large (part_offences true at (part_at b t)) ≡ true → is_plain_part (part_at b t) ≡ true
plain_first at b t h = plain_part (part_at b t) (parts_text (parts_at (length (part_bytes (part_at b t)) - 1) t)) at (cut_fits (b ∷ t)).1.0 h

pub record Cut (i : Inside) (n : ℕ) (v : Text) : Type 0 where
  pub pieces : List Piece
  pub more : Text
  pub split : v ≡ text_of pieces ++ more
  pub fit : AllFit pieces
  pub plain : list_all plain_piece pieces ≡ true
  pub parts : map (λ p. p.1) i.parts ≡ map sound pieces
  pub to : i.to ≡ n + length (text_of pieces)

nothing : (st : Stage) (n : ℕ) (v : Text) → Cut (record { parts = []; stage = st; to = n }) n v
nothing st n v = record { pieces = []; more = v; split = refl; fit = tt; plain = refl; parts = refl; to = none n }
  where
    none : (n : ℕ) → n ≡ n + 0
    none n = omega arith

-- one before others
one_more : (p : Piece) (i : Inside) (n : ℕ) (b : ℕ) (v : Text) → plain_piece p ≡ true → (f : Found p b v) → Cut i (n + length (bytes_of p)) f.rest → Cut (with_part (n, sound p) i) n (b ∷ v)
one_more p i n b v plain f c = record {
  pieces = p ∷ c.pieces;
  more = c.more;
  split = ap (λ (u : Text). b ∷ u) f.split ∙ ap (λ (u : Text). u ++ f.rest) (sym f.is) ∙ ap (λ (u : Text). bytes_of p ++ u) c.split
      ∙ sym (append_assoc (bytes_of p) (text_of c.pieces) c.more);
  fit = (fits_less p (text_of c.pieces) c.more (subst (Fits p) c.split f.fits), c.fit);
  plain = and_from (plain_piece p) (list_all plain_piece c.pieces) plain c.plain;
  parts = ap (λ (ps : List Part). sound p ∷ ps) c.parts;
  to = c.to ∙ sum (length-append (bytes_of p) (text_of c.pieces));
}
  where
    sum : {u : ℕ} → u ≡ length (bytes_of p) + length (text_of c.pieces) → n + length (bytes_of p) + length (text_of c.pieces) ≡ n + u
    sum e = omega arith

pub sound_of : (q : Part) → is_plain_part q ≡ true → (p : Piece) × (q ≡ sound p) × (plain_piece p ≡ true)
sound_of (sound p) h = (p, refl, h)
sound_of (stray b) h = absurd cc
sound_of (bad_string raw) h = absurd cc
sound_of (open_string raw) h = absurd cc
sound_of (open_block body) h = absurd cc

cut_within : (fuel : ℕ) (st : Stage) (n : ℕ) (v r : Text) → length v < fuel → Ends r → are_plain (inside st n 0 (length v) (v ++ r)).parts ≡ true → Cut (inside st n 0 (length v) (v ++ r)) n v
cut_within zero st n v r l h e = absurd (omega arith)
cut_within (suc fuel) st n [] r l h e = nothing st n []
cut_within (suc fuel) st n (b ∷ v) r l h e = by (is_past st) refl (λ st n v. cut_within fuel st n v r)
  where
    -- by what the first part is
    cut_by : Part → Inside
    cut_by q = with_part (n, q) (inside (after_part st (kind_in q)) (suc n) (length (part_bytes q) - 1) (length v) (v ++ r))

    first : Part
    first = inner_part (length v) b (v ++ r)

    opened : (k : Bool) → is_past st ≡ k → inside st n 0 (suc (length v)) (b ∷ (v ++ r)) ≡ (if k then record { parts = []; stage = st; to = n } else cut_by first)
    opened k e = ap (λ (k : Bool). if k then record { parts = []; stage = st; to = n } else cut_by first) e

    by : (k : Bool) → is_past st ≡ k → ((st : Stage) (n : ℕ) (v : Text) → length v < fuel → Ends r → are_plain (inside st n 0 (length v) (v ++ r)).parts ≡ true → Cut (inside st n 0 (length v) (v ++ r)) n v)
        → Cut (inside st n 0 (suc (length v)) (b ∷ (v ++ r))) n (b ∷ v)
    by true k deeper = subst (λ (i : Inside). Cut i n (b ∷ v)) (sym (opened true k)) (nothing st n (b ∷ v))
    by false k deeper =
        let plain : are_plain (cut_by first).parts ≡ true = ap (λ (i : Inside). are_plain i.parts) (sym (opened false k)) ∙ e in
        let both = large_parts (part_offences true n first) _ plain in
        let s = sound_of first (plain_first n b (if nat_eq b 34 then v ++ r else take (length v) (v ++ r)) both.0) in
        let f = found_first s.0 b v (part_found b v r s.0 h s.1 s.2) in
        let next = after_part st (kind_in (sound s.0)) in
        let passed_over : inside next (suc n) (length (bytes_of s.0) - 1) (length v) (v ++ r) ≡ inside next (n + length (bytes_of s.0)) 0 (length f.rest) (f.rest ++ r) = over s.0 f next in
        let is : cut_by first ≡ with_part (n, sound s.0) (inside next (n + length (bytes_of s.0)) 0 (length f.rest) (f.rest ++ r)) =
        ap cut_by s.1 ∙ ap (with_part (n, sound s.0)) passed_over in
        let plain_rest : are_plain (inside next (n + length (bytes_of s.0)) 0 (length f.rest) (f.rest ++ r)).parts ≡ true =
        (large_parts (part_offences true n (sound s.0)) _ (ap (λ (i : Inside). are_plain i.parts) (sym is) ∙ plain)).1 in
        let c = deeper next (n + length (bytes_of s.0)) f.rest (shorter s.0 f) h plain_rest in
        subst (λ (i : Inside). Cut i n (b ∷ v)) (sym (opened false k ∙ is)) (one_more s.0 _ n b v s.2 f c)
      where
        shorter : (p : Piece) (f : Found p b v) → length f.rest < fuel
        shorter p f = (let n = ap length f.split in omega (arith, l, n, length-append f.m f.rest))

        less : (n : ℕ) → suc n - 1 ≡ n
        less n = omega arith

        sum : (n k l : ℕ) → l ≡ suc k → suc n + k ≡ n + l
        sum n k l e = omega arith

        over : (p : Piece) (f : Found p b v) (next : Stage) → inside next (suc n) (length (bytes_of p) - 1) (length v) (v ++ r) ≡ inside next (n + length (bytes_of p)) 0 (length f.rest) (f.rest ++ r)
        over p f next =
            ap (λ (i : ℕ). inside next (suc n) i (length v) (v ++ r)) (ap (λ (u : Text). length u - 1) f.is ∙ less (length f.m))
            ∙ ap (λ (u : Text). inside next (suc n) (length f.m) (length u) (u ++ r)) f.split
            ∙ ap (λ (u : Text). inside next (suc n) (length f.m) (length (f.m ++ f.rest)) u) (append_assoc f.m f.rest r)
            ∙ passed next f.m (f.rest ++ r) (suc n) (length f.rest) (length (f.m ++ f.rest)) (length-append f.m f.rest)
            ∙ ap (λ (i : ℕ). inside next i 0 (length f.rest) (f.rest ++ r)) (sum n (length f.m) (length (bytes_of p)) (ap length f.is))

pub cut_inside : (st : Stage) (n : ℕ) (v r : Text) → Ends r → are_plain (inside st n 0 (length v) (v ++ r)).parts ≡ true → Cut (inside st n 0 (length v) (v ++ r)) n v
cut_inside st n v r h e = cut_within (suc (length v)) st n v r (omega arith) h e
