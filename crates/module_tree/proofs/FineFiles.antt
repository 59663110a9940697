-- A file that is not refused before its algorithm is read breaks no rule of files, where the numbers of its algorithm are small.
use Rattle.std.proofs.Common.{◌≡◌, ℕ, ◌+◌, Bool, true, false, ◌&&◌, ◌||◌, not, nat_le, nat_lt, List, [], ◌∷◌, ◌++◌, length, map, Option, Some, None, is_some, refl, sym, ap, subst, ◌∙◌, arith, cond}
use Rattle.std.specs.Prelude.{if◌then◌else◌, filter}
use Rattle.std.specs.List.{list_all, list_any, flat_map}
use Rattle.std.proofs.lemmas.Bool.{and_parts, and_from, false_from_ne_true, leb-true, ltb-true}
use Rattle.std.proofs.lemmas.List.Folds.{list_all-append}
use Rattle.tla_token.specs.declared.rule.Rule.{Rule}
use Rattle.tla_token.specs.declared.rule.Rule.TheVariants.{NotAscii, BadToken, OpenString, TwoAlgorithms, Placement, Options}
use Rattle.tla_token.specs.declared.place.Place.{Place}
use Rattle.tla_token.specs.Places.{place_at, after}
use Rattle.tla_token.specs.Limits.{past_numbers}
use Rattle.tla_token.specs.Lexemes.{Kind, name, number, string, one, other}
use Rattle.tla_token.specs.Tokens.{Token, Piece, blank, block, line, lexeme, bytes_of, tokens_of, holds_mark, stretch}
use Rattle.tla_token.specs.Offences.{Part, sound, stray, bad_string, open_string, open_block, is_stray, has_bad_escape, breaks_string, Offence, offence_if, byte_offences, part_offences}
use Rattle.tla_token.specs.Cut.{pieces}
use Rattle.tla_tree.specs.TokenViews.{view}
use Rattle.module_tree.specs.TextFront.{Text}
use Rattle.module_tree.specs.Beginnings.{is_options, all_at}
use Rattle.module_tree.specs.Walk.{Segment, part, Located, walk}
use Rattle.module_tree.specs.FileParts.{module_end, beginnings, after_comment, Span, region_of, is_newline, after_spot}
use Rattle.module_tree.specs.AlgorithmText.{IndexedPart, AlgorithmText, algorithm_in, algorithm_tokens, in_token}
use Rattle.module_tree.specs.FileUnits.{token_in, begins_unit}
use Rattle.module_tree.specs.FileOffences.{offences_at, segment_offences, offences_of, algorithm_offences, no_module, no_algorithm, second_algorithms, rest_of_line, no_unit, placements, outside_region, options_in, file_offences, is_splitting, splitting_offences}

-- ---- offences that are all of these rules

-- what holds of two lists holds of both in a row
pub all_more : {A : Type 0} (p : A → Bool) (xs ys : List A) → list_all p xs ≡ true → list_all p ys ≡ true → list_all p (xs ++ ys) ≡ true
all_more p xs ys h k = list_all-append p xs ys ∙ and_from (list_all p xs) (list_all p ys) h k

abbrev Free : List Offence → Type 0
Free os = list_all is_splitting os ≡ true

abbrev Spared : List Offence → Type 0
Spared os = filter is_splitting os ≡ []

pub none_left : (os : List Offence) → Free os → Spared os → os ≡ []
none_left [] h e = refl
none_left (o ∷ os) h e =
    let k = and_parts (is_splitting o) (list_all is_splitting os) h in
    let f : o ∷ filter is_splitting os ≡ [] = ap (λ (b : Bool). cond b (o ∷ filter is_splitting os) (filter is_splitting os)) (sym k.0) ∙ e in
    absurd cc

pub spared_both : (os ps : List Offence) → Spared (os ++ ps) → Spared os × Spared ps
spared_both [] ps e = (refl, e)
spared_both (o ∷ os) ps e = by (is_splitting o) refl (spared_both os ps)
  where
    by : (b : Bool) → is_splitting o ≡ b → (Spared (os ++ ps) → Spared os × Spared ps) → Spared (o ∷ os) × Spared ps
    by true k deeper =
        let f : o ∷ filter is_splitting (os ++ ps) ≡ [] = ap (λ (b : Bool). cond b (o ∷ filter is_splitting (os ++ ps)) (filter is_splitting (os ++ ps))) (sym k) ∙ e in
        absurd cc
    by false k deeper =
        let f : Spared (os ++ ps) = ap (λ (b : Bool). cond b (o ∷ filter is_splitting (os ++ ps)) (filter is_splitting (os ++ ps))) (sym k) ∙ e in
        let d = deeper f in
        (ap (λ (b : Bool). cond b (o ∷ filter is_splitting os) (filter is_splitting os)) k ∙ d.0, d.1)

if_free : (b : Bool) (r : Rule) (at : ℕ) → is_splitting (r, at) ≡ true → Free (offence_if b r at)
if_free true r at h = and_from (is_splitting (r, at)) true h refl
if_free false r at h = refl

bytes_free : (at : ℕ) (bs : List ℕ) → Free (byte_offences at bs)
bytes_free at [] = refl
bytes_free at (b ∷ bs) =
    all_more is_splitting (offence_if (is_stray b) (if nat_le 128 b then NotAscii else BadToken) at) (byte_offences (at + 1) bs)
    (if_free (is_stray b) (if nat_le 128 b then NotAscii else BadToken) at (rule (nat_le 128 b))) (bytes_free (at + 1) bs)
  where
    rule : (k : Bool) → is_splitting ((if k then NotAscii else BadToken), at) ≡ true
    rule true = refl
    rule false = refl

bad_free : (in_algorithm : Bool) (at : ℕ) (raw : List ℕ) → Free (part_offences in_algorithm at (bad_string raw))
bad_free in_algorithm at raw =
    let bytes = byte_offences (at + 1) raw in
    let breaks = offence_if (list_any breaks_string raw) OpenString at in
    let token = offence_if (has_bad_escape raw || (in_algorithm && holds_mark raw)) BadToken at in
    all_more is_splitting token (breaks ++ bytes) (if_free (has_bad_escape raw || (in_algorithm && holds_mark raw)) BadToken at refl)
    (all_more is_splitting breaks bytes (if_free (list_any breaks_string raw) OpenString at refl) (bytes_free (at + 1) raw))

-- ---- segments

part_free : (at : ℕ) (p : Part) → Free (part_offences false at p)
part_free at (sound (lexeme (name w) bytes)) = refl
part_free at (sound (lexeme (number n) bytes)) = refl
part_free at (sound (lexeme (string w) bytes)) = refl
part_free at (sound (lexeme (one s) bytes)) = refl
part_free at (sound (lexeme (other w) bytes)) = refl
part_free at (sound p) = refl
part_free at (stray b) = bytes_free at (b ∷ [])
part_free at (bad_string raw) = bad_free false at raw
part_free at (open_string raw) = bytes_free (at + 1) raw
part_free at (open_block body) = refl

segment_free : (at : ℕ) (g : Segment) → Free (segment_offences at g)
segment_free at (part p) = part_free at p
segment_free at g = refl

pub segments_free : (ds : List Located) → Free (offences_of ds)
segments_free [] = refl
segments_free (d ∷ ds) = all_more is_splitting (segment_offences d.at d.is) (offences_of ds) (segment_free d.at d.is) (segments_free ds)

-- ---- the algorithm's parts

abbrev pub small_kind : Kind → Bool
small_kind (number n) = nat_lt n past_numbers
small_kind _ = true

abbrev all_small : List Piece → Bool
all_small [] = true
all_small (lexeme k bytes ∷ ps) = small_kind k && all_small ps
all_small (p ∷ ps) = all_small ps

within_limit : (n m : ℕ) → nat_lt n m ≡ true → nat_le m n ≡ false
within_limit n m h = false_from_ne_true (nat_le m n) (λ e. (let a = leb-true m n e in let b = ltb-true n m h in omega arith))

part_empty : (at : ℕ) (p : Part) → Spared (part_offences true at p) → all_small (pieces (p ∷ [])) ≡ true → part_offences true at p ≡ []
part_empty at (sound (lexeme (name w) bytes)) e h = refl
part_empty at (sound (lexeme (number n) bytes)) e h = rw (within_limit n past_numbers (and_parts (nat_lt n past_numbers) true h).0) refl
part_empty at (sound (lexeme (string w) bytes)) e h = none_left (offence_if (holds_mark w) BadToken at) (if_free (holds_mark w) BadToken at refl) e
part_empty at (sound (lexeme (one s) bytes)) e h = refl
part_empty at (sound (lexeme (other w) bytes)) e h = refl
part_empty at (sound p) e h = refl
part_empty at (stray b) e h = none_left (byte_offences at (b ∷ [])) (bytes_free at (b ∷ [])) e
part_empty at (bad_string raw) e h = none_left (part_offences true at (bad_string raw)) (bad_free true at raw) e
part_empty at (open_string raw) e h = none_left (part_offences true at (open_string raw)) (bytes_free (at + 1) raw) e
part_empty at (open_block body) e h = none_left (part_offences true at (open_block body)) refl e

small_both : (p : Part) (ps : List Part) → all_small (pieces (p ∷ ps)) ≡ true → (all_small (pieces (p ∷ [])) ≡ true) × (all_small (pieces ps) ≡ true)
small_both (sound (lexeme k bytes)) ps h = (let x = and_parts (small_kind k) (all_small (pieces ps)) h in (and_from (small_kind k) true x.0 refl, x.1))
small_both (sound p) ps h = (refl, h)
small_both p ps h = (refl, h)

abbrev all_parts : List IndexedPart → List Offence
all_parts ps = flat_map (λ p. part_offences true p.0 p.1) ps

parts_empty : (ps : List IndexedPart) → Spared (all_parts ps) → all_small (pieces (map (λ p. p.1) ps)) ≡ true → all_parts ps ≡ []
parts_empty [] e h = refl
parts_empty (p ∷ ps) e h =
    let s = spared_both (part_offences true p.0 p.1) (all_parts ps) e in
    let k = small_both p.1 (map (λ p. p.1) ps) h in
    let first = part_empty p.0 p.1 s.0 k.0 in
    let others = parts_empty ps s.1 k.1 in
    λ i. first i ++ others i

tokens_small : (p : Place) (at : ℕ) (ps : List Piece) → list_all small_kind (map (λ t. t.kind) (tokens_of p at ps)) ≡ true → all_small ps ≡ true
tokens_small p at [] h = refl
tokens_small p at (blank b ∷ ps) h = tokens_small (after p (b ∷ [])) (at + 1) ps h
tokens_small p at (block body ∷ ps) h = tokens_small (after p (bytes_of (block body))) (at + length (bytes_of (block body))) ps h
tokens_small p at (line body ∷ ps) h = tokens_small (after p (bytes_of (line body))) (at + length (bytes_of (line body))) ps h
tokens_small p at (lexeme k bytes ∷ ps) h =
    let more = tokens_of (after p bytes) (at + length bytes) ps in
    let x = and_parts (small_kind k) (list_all small_kind (map (λ t. t.kind) more)) h in
    and_from (small_kind k) (all_small ps) x.0 (tokens_small (after p bytes) (at + length bytes) ps x.1)

algorithm_empty : (x : Text) (a : AlgorithmText) → Spared (algorithm_offences (Some a)) → list_all small_kind (map (λ t. t.kind) (algorithm_tokens x a)) ≡ true → algorithm_offences (Some a) ≡ []
algorithm_empty x a e h =
    let n = a.from + length a.opening in
    let ps = pieces (map (λ p. p.1) a.rest.parts) in
    parts_empty a.rest.parts e (tokens_small (place_at x n) n ps h)

-- ---- all other offences

at_free : (r : Rule) → ((n : ℕ) → is_splitting (r, n) ≡ true) → (ns : List ℕ) → Free (offences_at r ns)
at_free r h [] = refl
at_free r h (n ∷ ns) = and_from (is_splitting (r, n)) (list_all is_splitting (offences_at r ns)) (h n) (at_free r h ns)

no_module_free : (x : Text) (e : Option ℕ) → Free (no_module x e)
no_module_free x (Some n) = refl
no_module_free x None = refl

no_algorithm_free : (e : Option ℕ) (ns : List ℕ) → Free (no_algorithm e ns)
no_algorithm_free (Some n) [] = refl
no_algorithm_free (Some n) (m ∷ ns) = refl
no_algorithm_free None ns = refl

second_free : (a : Option AlgorithmText) (ns : List ℕ) → Free (second_algorithms a ns)
second_free None ns = refl
second_free (Some a) [] = refl
second_free (Some a) (n ∷ ns) = at_free TwoAlgorithms (λ n. refl) (filter (λ k. not (in_token a k)) ns)

line_free : (ds : List Located) → Free (rest_of_line ds)
line_free [] = refl
line_free (d ∷ ds) = on (is_newline d) refl d.is refl (line_free ds)
  where
    on : (k : Bool) → is_newline d ≡ k → (g : Segment) → d.is ≡ g → Free (rest_of_line ds) → Free (rest_of_line (d ∷ ds))
    on true k g e h = rw k refl
    on false k (part (sound (blank b))) e h = rw (k, e) h
    on false k g e h = rw (k, e) refl

unit_free : (ds : List Located) → Free (no_unit ds)
unit_free [] = refl
unit_free (d ∷ ds) = on (token_in d) refl (unit_free ds)
  where
    on : (t : Option Token) → token_in d ≡ t → Free (no_unit ds) → Free (no_unit (d ∷ ds))
    on (Some t) e h = rw e (if_free (not (begins_unit (view t))) Placement d.at refl)
    on None e h = rw e h

placements_free : (ds : List Located) → Free (placements ds)
placements_free ds =
    all_more is_splitting (if is_some (region_of ds) then [] else rest_of_line (after_comment ds)) (no_unit (after_spot ds)) (on (is_some (region_of ds))) (unit_free (after_spot ds))
  where
    on : (k : Bool) → Free (if k then [] else rest_of_line (after_comment ds))
    on true = refl
    on false = line_free (after_comment ds)

options_free : (x : Text) (rs : List Span) → Free (flat_map (options_in x) rs)
options_free x [] = refl
options_free x (r ∷ rs) = all_more is_splitting (options_in x r) (flat_map (options_in x) rs) (at_free Options (λ n. refl) (all_at is_options r.from (stretch x r.from r.to))) (options_free x rs)

-- ---- the file

empty_both : (os ps : List Offence) → os ≡ [] → ps ≡ [] → os ++ ps ≡ []
empty_both os ps e f = λ i. e i ++ f i

left_empty : (os ps : List Offence) → Free os → Spared (os ++ ps) → (Spared ps → ps ≡ []) → os ++ ps ≡ []
left_empty os ps h e more = (let s = spared_both os ps e in empty_both os ps (none_left os h s.0) (more s.1))

fine_by : (x : Text) → splitting_offences x ≡ [] → (Spared (algorithm_offences (algorithm_in x)) → algorithm_offences (algorithm_in x) ≡ []) → file_offences x ≡ []
fine_by x e own =
    let ds = walk x in
    left_empty (offences_of ds) _ (segments_free ds) e (λ e.
    let s = spared_both (algorithm_offences (algorithm_in x)) _ e in
    empty_both (algorithm_offences (algorithm_in x)) _ (own s.0)
    (left_empty (no_module x (module_end ds)) _ (no_module_free x (module_end ds)) s.1 (λ e.
    left_empty (no_algorithm (module_end ds) (beginnings ds)) _ (no_algorithm_free (module_end ds) (beginnings ds)) e (λ e.
    left_empty (second_algorithms (algorithm_in x) (beginnings ds)) _ (second_free (algorithm_in x) (beginnings ds)) e (λ e.
    left_empty (placements ds) _ (placements_free ds) e (λ e.
    none_left (flat_map (options_in x) (outside_region x ds)) (options_free x (outside_region x ds)) e))))))

pub fine : (x : Text) (a : AlgorithmText) → splitting_offences x ≡ [] → algorithm_in x ≡ Some a → list_all small_kind (map (λ t. t.kind) (algorithm_tokens x a)) ≡ true → file_offences x ≡ []
fine x a e is small =
    fine_by x e (λ s. ap algorithm_offences is ∙ algorithm_empty x a (subst (λ (o : Option AlgorithmText). Spared (algorithm_offences o)) is s) small)

-- where there is no algorithm there are no numbers of it
pub fine_without : (x : Text) → splitting_offences x ≡ [] → algorithm_in x ≡ None → file_offences x ≡ []
fine_without x e is = fine_by x e (λ s. ap algorithm_offences is)
