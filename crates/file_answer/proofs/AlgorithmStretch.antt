-- The stretch of a file's algorithm, where the file breaks none of the rules 1 to 10: its tokens are the algorithm's, and it begins with the first of them.
use Rattle.std.proofs.Common.{◌≡◌, ◌⊎◌, inl, inr, ℕ, zero, suc, ◌+◌, ◌-◌, ◌≤◌, Bool, true, false, ◌&&◌, ◌||◌, nat_eq, nat_le, List, [], ◌∷◌, ◌++◌, length, take, drop, Option, Some, None, refl, sym, ap, subst, ◌∙◌, arith, length-append, append_assoc, find, codes, cond}
use Rattle.std.specs.Prelude.{if◌then◌else◌, filter, is_some, bytes_eq}
use Rattle.std.specs.List.{list_all, list_any, flat_map}
use Rattle.std.proofs.lemmas.Bool.{and_parts}
use Rattle.std.proofs.lemmas.Option.{none-some, same_Some}
use Rattle.std.proofs.lemmas.List.{length-drop, length-take}
use Rattle.std.proofs.lemmas.List.Sums.{take_while-cons}
use Rattle.std.proofs.Math.Seq.{take-append-add, drop-append_seam}
use Rattle.tla_token.specs.declared.rule.Rule.{Rule}
use Rattle.tla_token.specs.declared.rule.Rule.TheVariants.{NotAscii, BadToken, OpenString, NumberTooBig}
use Rattle.tla_token.specs.Limits.{past_numbers}
use Rattle.tla_token.specs.Signs.{is_among}
use Rattle.tla_token.specs.Lexemes.{Kind, name, number, string, one, other, is_word, is_letter, is_blank}
use Rattle.tla_token.specs.Tokens.{Token, blank, block, line, lexeme, TokAlgorithm, stretch, openings, holds_mark}
use Rattle.tla_token.specs.Offences.{Part, part_bytes, sound, stray, bad_string, open_string, open_block, is_stray, has_bad_escape, breaks_string, Offence, offence_if, byte_offences, part_offences}
use Rattle.tla_token.specs.Cut.{run, part_at}
use Rattle.tla_token.specs.Readings.{names_algorithm, opening_of}
use Rattle.tla_token.proofs.Spelled.{begins_is, same_bytes}
use Rattle.module_tree.specs.TextFront.{Text, begins, past_all, past_word}
use Rattle.module_tree.specs.Beginnings.{is_fair, opening, begins_algorithm}
use Rattle.module_tree.specs.ModuleParts.{kind_in}
use Rattle.module_tree.specs.Walk.{Located, walk}
use Rattle.module_tree.specs.FileParts.{within, beginnings_in, first_of, holds_algorithm, before_first, after_first}
use Rattle.module_tree.specs.AlgorithmText.{Stage, head, is_past, after_part, IndexedPart, inner_part, Inside, with_part, inside, AlgorithmText, algorithm_at, algorithm_in, algorithm_tokens}
use Rattle.module_tree.specs.FileOffences.{offences_of, algorithm_offences, is_splitting, splitting_offences}
use Rattle.module_tree.specs.laws.Kept.{is_large, only_large}
use Rattle.module_tree.proofs.FineFiles.{all_more, none_left, spared_both, segments_free}
use Rattle.module_tree.proofs.WalkPlace.{before_whole}
use Rattle.module_tree.proofs.AlgorithmFound.{Opened, opened, made_there}
use Rattle.module_tree.proofs.LineLengths.{past_len}
use Rattle.module_tree.proofs.AlgorithmIsCut.{placed, fine_here, algorithm_is_cut}

-- ---- where it is

same : (n : ℕ) → n ≤ n
same n = omega arith

within_sum : (n m : ℕ) → n ≤ n + m
within_sum n m = omega arith

-- it ends after where it begins, and within the text
grows : (st : Stage) (n k left : ℕ) (s : Text) → (n ≤ (inside st n k left s).to) × ((inside st n k left s).to ≤ n + length s)
grows st n k zero s = (same n, within_sum n (length s))
grows st n k (suc left) [] = (same n, within_sum n 0)
grows st n (suc k) (suc left) (b ∷ s) = (let m = grows st (suc n) k left s in (omega (arith, m.0), omega (arith, m.1)))
grows st n zero (suc left) (b ∷ s) = by (is_past st) refl (λ st k. grows st (suc n) k left s)
  where
    Grown : Inside → Type 0
    Grown i = (n ≤ i.to) × (i.to ≤ n + length (b ∷ s))

    cut_by : Part → Inside
    cut_by q = with_part (n, q) (inside (after_part st (kind_in q)) (suc n) (length (part_bytes q) - 1) left s)

    by : (k : Bool) → is_past st ≡ k → ((st : Stage) (k : ℕ) → (suc n ≤ (inside st (suc n) k left s).to) × ((inside st (suc n) k left s).to ≤ suc n + length s)) → Grown (inside st n zero (suc left) (b ∷ s))
    by true k deeper = rw k (same n, within_sum n (length (b ∷ s)))
    by false k deeper =
        let q = inner_part left b s in
        let e : inside st n zero (suc left) (b ∷ s) ≡ cut_by q = ap (λ (k : Bool). if k then record { parts = []; stage = st; to = n } else cut_by q) k in
        let m = deeper (after_part st (kind_in q)) (length (part_bytes q) - 1) in
        subst Grown (sym e) (omega (arith, m.0), omega (arith, m.1))

-- it begins in a comment
made : (x : Text) (a : AlgorithmText) → algorithm_in x ≡ Some a → (n left : ℕ) × (algorithm_at n left (drop n x) ≡ a)
made x a is = by (find holds_algorithm (walk x)) refl
  where
    begun : (d : Located) → find holds_algorithm (walk x) ≡ Some d → (o : Option ℕ) → first_of (beginnings_in d) ≡ o → (n left : ℕ) × (algorithm_at n left (drop n x) ≡ a)
    begun d f None o = (let g : None ≡ Some a = rw (f, o) at is in absurd (none-some a g))
    begun d f (Some n) o =
        let left = d.at + 2 + length (within d.is) - n in
        let g : Some (algorithm_at n left (drop n x)) ≡ Some a = rw (f, o) at is in
        (n, left, same_Some (algorithm_at n left (drop n x)) a g)

    by : (o : Option Located) → find holds_algorithm (walk x) ≡ o → (n left : ℕ) × (algorithm_at n left (drop n x) ≡ a)
    by None f = (let g : None ≡ Some a = rw f at is in absurd (none-some a g))
    by (Some d) f = begun d f (first_of (beginnings_in d)) refl

ends_within : (x : Text) (a : AlgorithmText) → algorithm_in x ≡ Some a → a.from + length a.opening ≤ length x → a.rest.to ≤ length x
ends_within x a is h = (let m = made x a is in subst (λ (a : AlgorithmText). a.from + length a.opening ≤ length x → a.rest.to ≤ length x) m.2 (at_most m.0 m.1) h)
  where
    at_most : (n left : ℕ) → n + length (opening (drop n x)) ≤ length x → (algorithm_at n left (drop n x)).rest.to ≤ length x
    at_most n left h =
        let s = drop n x in
        let w = opening s in
        let g = (grows (head (if is_fair s then 1 else 0)) (n + length w) 0 (left - length w) (drop (length w) s)).1 in
        let k = length-drop (length w) s in
        let l = length-drop n x in
        omega (arith, g, k, l, h)

-- ---- its offences are of rules 1 to 10, or numbers that are too big

abbrev known : Offence → Bool
known o = is_splitting o || is_large o

abbrev Known : List Offence → Type 0
Known os = list_all known os ≡ true

if_known : (b : Bool) (r : Rule) (at : ℕ) → known (r, at) ≡ true → Known (offence_if b r at)
if_known true r at h = rw h refl
if_known false r at h = refl

bytes_known : (at : ℕ) (bs : List ℕ) → Known (byte_offences at bs)
bytes_known at [] = refl
bytes_known at (b ∷ bs) =
    all_more known (offence_if (is_stray b) (if nat_le 128 b then NotAscii else BadToken) at) (byte_offences (at + 1) bs)
    (if_known (is_stray b) (if nat_le 128 b then NotAscii else BadToken) at (rule (nat_le 128 b))) (bytes_known (at + 1) bs)
  where
    rule : (k : Bool) → known ((if k then NotAscii else BadToken), at) ≡ true
    rule true = refl
    rule false = refl

kind_known : (at : ℕ) (k : Kind) (w : List ℕ) → Known (part_offences true at (sound (lexeme k w)))
kind_known at (number n) w = if_known (true && nat_le past_numbers n) NumberTooBig at refl
kind_known at (string v) w = if_known (true && holds_mark v) BadToken at refl
kind_known at (name v) w = refl
kind_known at (one s) w = refl
kind_known at (other v) w = refl

part_known : (at : ℕ) (p : Part) → Known (part_offences true at p)
part_known at (sound (lexeme k w)) = kind_known at k w
part_known at (sound (blank b)) = refl
part_known at (sound (block b)) = refl
part_known at (sound (line b)) = refl
part_known at (stray b) = bytes_known at (b ∷ [])
part_known at (bad_string raw) =
    let bytes = byte_offences (at + 1) raw in
    let breaks = offence_if (list_any breaks_string raw) OpenString at in
    let token = offence_if (has_bad_escape raw || (true && holds_mark raw)) BadToken at in
    all_more known token (breaks ++ bytes) (if_known (has_bad_escape raw || (true && holds_mark raw)) BadToken at refl)
    (all_more known breaks bytes (if_known (list_any breaks_string raw) OpenString at refl) (bytes_known (at + 1) raw))
part_known at (open_string raw) = bytes_known (at + 1) raw
part_known at (open_block body) = refl

parts_known : (ps : List IndexedPart) → Known (flat_map (λ (p : IndexedPart). part_offences true p.0 p.1) ps)
parts_known [] = refl
parts_known (p ∷ ps) = all_more known (part_offences true p.0 p.1) (flat_map (λ (p : IndexedPart). part_offences true p.0 p.1) ps) (part_known p.0 p.1) (parts_known ps)

large_left : (os : List Offence) → Known os → filter is_splitting os ≡ [] → only_large os ≡ true
large_left [] h e = refl
large_left (o ∷ os) h e = (let k = and_parts (known o) (list_all known os) h in by (is_splitting o) refl k.0 (large_left os k.1))
  where
    by : (b : Bool) → is_splitting o ≡ b → known o ≡ true → (filter is_splitting os ≡ [] → only_large os ≡ true) → only_large (o ∷ os) ≡ true
    by true q k deeper = (let f : o ∷ filter is_splitting os ≡ [] = rw q at e in absurd cc)
    by false q k deeper =
        let f : filter is_splitting os ≡ [] = rw q at e in
        let l : is_large o ≡ true = rw q at k in
        rw (l, deeper f) refl

-- ---- its tokens

pub has_tokens : (x : Text) (a : AlgorithmText) → splitting_offences x ≡ [] → algorithm_in x ≡ Some a → TokAlgorithm x a.from a.rest.to (algorithm_tokens x a)
has_tokens x a e is =
    let ds = walk x in
    let s = spared_both (offences_of ds) _ e in
    let own : filter is_splitting (algorithm_offences (Some a)) ≡ [] = ap (λ (o : Option AlgorithmText). filter is_splitting (algorithm_offences o)) (sym is) ∙ (spared_both (algorithm_offences (algorithm_in x)) _ s.1).0 in
    algorithm_is_cut x a (none_left (offences_of ds) (segments_free ds) s.0) is (large_left (algorithm_offences (Some a)) (parts_known a.rest.parts) own)

-- the word of the first token is one of two
pub some_opening : (w : Text) → is_among openings w ≡ true → (w ≡ codes "--algorithm") ⊎ (w ≡ codes "--fair")
some_opening w h = by (bytes_eq (codes "--algorithm") w) refl (bytes_eq (codes "--fair") w) refl h
  where
    by : (b : Bool) → bytes_eq (codes "--algorithm") w ≡ b → (c : Bool) → bytes_eq (codes "--fair") w ≡ c → (b || (c || false)) ≡ true → (w ≡ codes "--algorithm") ⊎ (w ≡ codes "--fair")
    by true p c q h = inl (sym (same_bytes (codes "--algorithm") w p))
    by false p true q h = inr (sym (same_bytes (codes "--fair") w q))
    by false p false q h = absurd cc

some_length : (w : Text) → is_among openings w ≡ true → 1 ≤ length w
some_length w h =
    elim (some_opening w h) [
      | inl e ↦ subst (λ (w : Text). 1 ≤ length w) (sym e) (omega arith)
      | inr e ↦ subst (λ (w : Text). 1 ≤ length w) (sym e) (omega arith)
    ]

-- the first word stands in the stretch
pub word_within : (x : Text) (from to : ℕ) (ts : List Token) (t : TokAlgorithm x from to ts) → (from + length t.opening ≤ to) × (from + length t.opening ≤ length x)
word_within x from to ts t =
    let w = t.opening in
    let some = some_length w t.is_opening in
    let e = ap length (begins_is (stretch x from to) w t.stands) in
    let f = length-append w (drop (length w) (stretch x from to)) in
    let g = length-take (to - from) (drop from x) in
    let k = length-drop from x in
    (omega (arith, e, f, g, k, some), omega (arith, e, f, g, k, some))

-- the word of a token
abbrev word_of : Kind → Text
word_of (name w) = w
word_of k = []

abbrev first_word : List Token → Text
first_word [] = []
first_word (t ∷ ts) = word_of t.kind

pub opens_with : (x : Text) (a : AlgorithmText) (t : TokAlgorithm x a.from a.rest.to (algorithm_tokens x a)) → a.opening ≡ t.opening
opens_with x a t = ap first_word t.tokens

-- it stands within the text
pub stretch_within : (x : Text) (a : AlgorithmText) → splitting_offences x ≡ [] → algorithm_in x ≡ Some a → (a.from ≤ a.rest.to) × (a.rest.to ≤ length x)
stretch_within x a e is =
    let t = has_tokens x a e is in
    let l = word_within x a.from a.rest.to (algorithm_tokens x a) t in
    let k = l.0 in
    (omega (arith, k), ends_within x a is (subst (λ (w : Text). a.from + length w ≤ length x) (sym (opens_with x a t)) l.1))

-- ---- the scanner knows its first word

-- it goes on with `algorithm` behind blanks
abbrev Names : Text → Type 0
Names s = begins (past_all is_blank s) (codes "algorithm") ≡ true

named : (b : ℕ) (s : Text) → is_blank b ≡ true → Names (b ∷ s) → names_algorithm (b ∷ s) ≡ true
named b s k h = (λ i. k i && begins (past_len is_blank (b ∷ s) i) (codes "algorithm")) ∙ h

-- the end of an algorithm whose first word ends before n, with s left in its comment
abbrev end_of : ℕ → Text → Text → ℕ
end_of n s r = (inside (head 1) n 0 (length s) (s ++ r)).to

one_more : (n t b : ℕ) (s : Text) → suc n ≤ t → take (t - n) (b ∷ s) ≡ b ∷ take (t - suc n) s
one_more n t b s l = (let e : t - n ≡ suc (t - suc n) = omega (arith, l) in ap (λ (k : ℕ). take k (b ∷ s)) e)

end_blank : (n b : ℕ) (s r : Text) → is_blank b ≡ true → end_of n (b ∷ s) r ≡ end_of (suc n) s r
end_blank n b s r k =
    let q : inner_part (length s) b (s ++ r) ≡ sound (blank b) = rw k refl in
    ap (λ (p : Part). (with_part (n, p) (inside (after_part (head 1) (kind_in p)) (suc n) (length (part_bytes p) - 1) (length s) (s ++ r))).to) q

blank_kept : (n b : ℕ) (s r : Text) → is_blank b ≡ true → take (end_of n (b ∷ s) r - n) ((b ∷ s) ++ r) ≡ b ∷ take (end_of (suc n) s r - suc n) (s ++ r)
blank_kept n b s r k =
    ap (λ (t : ℕ). take (t - n) (b ∷ (s ++ r))) (end_blank n b s r k) ∙ one_more n (end_of (suc n) s r) b (s ++ r) (grows (head 1) (suc n) 0 (length s) (s ++ r)).0

-- the word itself is one token
abbrev word_more : Text → Text → Text
word_more u r = run is_word (take (length u) (u ++ r))

abbrev nine_more : ℕ → ℕ
nine_more n = suc (suc (suc (suc (suc (suc (suc (suc (suc n))))))))

run_over : (p : ℕ → Bool) (v w : Text) → list_all p v ≡ true → run p (v ++ w) ≡ v ++ run p w
run_over p [] w h = refl
run_over p (b ∷ v) w h =
    let k = and_parts (p b) (list_all p v) h in
    take_while-cons p b (v ++ w) ∙ ap (λ (c : Bool). cond c (b ∷ run p (v ++ w)) []) k.0 ∙ ap (λ (u : Text). b ∷ u) (run_over p v w k.1)

name_first : (b : ℕ) (s w : Text) → is_blank b ≡ false → nat_eq b 34 ≡ false → begins (b ∷ s) (codes "(*") ≡ false → begins (b ∷ s) (codes "\\*") ≡ false → run is_word (b ∷ s) ≡ w → list_any is_letter w ≡ true
    → part_at b s ≡ sound (lexeme (name w) w)
name_first b s w i j k l e h =
    let m : list_any is_letter (run is_word (b ∷ s)) ≡ true = ap (list_any is_letter) e ∙ h in
    rw (i, j, k, l, m) (ap (λ (w : Text). sound (lexeme (name w) w)) e)

word_part : (u r : Text) → inner_part (length (codes "lgorithm" ++ u)) 97 ((codes "lgorithm" ++ u) ++ r) ≡ sound (lexeme (name (codes "algorithm" ++ word_more u r)) (codes "algorithm" ++ word_more u r))
word_part u r = name_first 97 (codes "lgorithm" ++ take (length u) (u ++ r)) (codes "algorithm" ++ word_more u r) refl refl refl refl (run_over is_word (codes "algorithm") (take (length u) (u ++ r)) refl) refl

word_end : (n : ℕ) (u r : Text) → end_of n (codes "algorithm" ++ u) r ≡ (inside (head 0) (nine_more n) (length (word_more u r)) (length u) (u ++ r)).to
word_end n u r =
    ap (λ (p : Part). (with_part (n, p) (inside (after_part (head 1) (kind_in p)) (suc n) (length (part_bytes p) - 1) (length (codes "lgorithm" ++ u)) ((codes "lgorithm" ++ u) ++ r))).to) (word_part u r)
    ∙ ap (λ (j : ℕ). (inside (head 0) (suc n) j (length (codes "lgorithm" ++ u)) ((codes "lgorithm" ++ u) ++ r)).to) (eight (length (word_more u r)) (length (codes "algorithm" ++ word_more u r)) (length-append (codes "algorithm") (word_more u r)))
  where
    eight : (m k : ℕ) → k ≡ 9 + m → k - 1 ≡ suc (suc (suc (suc (suc (suc (suc (suc m)))))))
    eight m k e = omega arith

word_kept : (n : ℕ) (u r : Text) → Names (take (end_of n (codes "algorithm" ++ u) r - n) ((codes "algorithm" ++ u) ++ r))
word_kept n u r =
    ap (λ (j : ℕ). begins (past_all is_blank (take (j - n) (codes "algorithm" ++ (u ++ r)))) (codes "algorithm")) (word_end n u r)
    ∙ ap (λ (w : Text). begins (past_all is_blank w) (codes "algorithm")) (cut ((inside (head 0) (nine_more n) (length (word_more u r)) (length u) (u ++ r)).to) (grows (head 0) (nine_more n) (length (word_more u r)) (length u) (u ++ r)).0)
  where
    cut : (t : ℕ) → nine_more n ≤ t → take (t - n) (codes "algorithm" ++ (u ++ r)) ≡ codes "algorithm" ++ take (t - nine_more n) (u ++ r)
    cut t l =
        let d : t - n ≡ length (codes "algorithm") + (t - nine_more n) = omega (arith, l) in
        ap (λ (j : ℕ). take j (codes "algorithm" ++ (u ++ r))) d ∙ take-append-add (codes "algorithm") (u ++ r) (t - nine_more n)

names_kept : (n : ℕ) (s r : Text) → Names s → Names (take (end_of n s r - n) (s ++ r))
names_kept n [] r h = absurd cc
names_kept n (b ∷ s) r h = by (is_blank b) refl (names_kept (suc n) s r)
  where
    by : (k : Bool) → is_blank b ≡ k → (Names s → Names (take (end_of (suc n) s r - suc n) (s ++ r))) → Names (take (end_of n (b ∷ s) r - n) ((b ∷ s) ++ r))
    by true k deeper =
        let g : Names s = rw k at h in
        let d : Names (take (end_of (suc n) s r - suc n) (s ++ r)) = deeper g in
        let f : Names (b ∷ take (end_of (suc n) s r - suc n) (s ++ r)) = rw k d in
        subst Names (sym (blank_kept n b s r k)) f
    by false k deeper =
        let g : begins (b ∷ s) (codes "algorithm") ≡ true = rw k at h in
        subst (λ (v : Text). Names (take (end_of n v r - n) (v ++ r))) (sym (begins_is (b ∷ s) (codes "algorithm") g)) (word_kept n (drop 9 (b ∷ s)) r)

-- `--fair` is before it
fair_named : (n : ℕ) (s r : Text) → is_fair (codes "--fair" ++ s) ≡ true → names_algorithm (take (end_of n s r - n) (s ++ r)) ≡ true
fair_named n [] r h = absurd cc
fair_named n (b ∷ s) r h = by (is_blank b) refl
  where
    by : (k : Bool) → is_blank b ≡ k → names_algorithm (take (end_of n (b ∷ s) r - n) ((b ∷ s) ++ r)) ≡ true
    by false k = (let f : false ≡ true = rw k at h in absurd cc)
    by true k =
        let g : is_some (past_word (codes "algorithm") (past_all is_blank s)) ≡ true = rw k at h in
        let m : Names (b ∷ s) = rw k (there (past_all is_blank s) g) in
        let d : Names (b ∷ take (end_of (suc n) s r - suc n) (s ++ r)) = subst Names (blank_kept n b s r k) (names_kept n (b ∷ s) r m) in
        ap names_algorithm (blank_kept n b s r k) ∙ named b (take (end_of (suc n) s r - suc n) (s ++ r)) k d
      where
        there : (u : Text) → is_some (past_word (codes "algorithm") u) ≡ true → begins u (codes "algorithm") ≡ true
        there u g = on (begins u (codes "algorithm")) refl
          where
            on : (t : Bool) → begins u (codes "algorithm") ≡ t → begins u (codes "algorithm") ≡ true
            on true t = t
            on false t = (let f : false ≡ true = rw t at g in absurd cc)

abbrev Opens : Text → AlgorithmText → Type 0
Opens x a = opening_of (stretch x a.from a.rest.to) ≡ Some a.opening

-- an algorithm that begins after the bytes p, with v left in its comment
opens_there : (x p v r : Text) (n left : ℕ) → x ≡ p ++ (v ++ r) → n ≡ length p → left ≡ length v → begins_algorithm v ≡ true → Opens x (algorithm_at n left (drop n x))
opens_there x p v r n left e size count begun = subst (Opens x) (sym (made_there x p v r n left e size count o)) (by (is_fair v) refl o.is)
  where
    o : Opened v
    o = opened v begun

    made : Bool → Text → AlgorithmText
    made k w = record { from = n; opening = w; rest = inside (head (if k then 1 else 0)) (n + length w) 0 (length o.rest) (o.rest ++ r) }

    -- from the word on
    cut : (k : Bool) (w : Text) → v ≡ w ++ o.rest → stretch x n (made k w).rest.to ≡ w ++ take ((made k w).rest.to - (n + length w)) (o.rest ++ r)
    cut k w is =
        let t = (made k w).rest.to in
        let g = (grows (head (if k then 1 else 0)) (n + length w) 0 (length o.rest) (o.rest ++ r)).0 in
        let d : t - n ≡ length w + (t - (n + length w)) = omega (arith, g) in
        ap (take (t - n)) (ap (λ (m : ℕ). drop m x) size ∙ ap (drop (length p)) e ∙ drop-append_seam p (v ++ r) ∙ ap (λ (u : Text). u ++ r) is ∙ append_assoc w o.rest r)
        ∙ ap (λ (m : ℕ). take m (w ++ (o.rest ++ r))) d
        ∙ take-append-add w (o.rest ++ r) (t - (n + length w))

    word_is : (k : Bool) → is_fair v ≡ k → opening v ≡ (if k then codes "--fair" else codes "--algorithm")
    word_is k e = ap (λ (k : Bool). if k then codes "--fair" else codes "--algorithm") e

    whole : (k : Bool) → is_fair v ≡ k → (w : Text) → opening v ≡ w → Opens x (made k w) → Opens x (made (is_fair v) (opening v))
    whole k f w g h = subst (Opens x) (λ i. made (sym f i) (sym g i)) h

    by : (k : Bool) → is_fair v ≡ k → v ≡ opening v ++ o.rest → Opens x (made (is_fair v) (opening v))
    by false k is = whole false k (codes "--algorithm") (word_is false k) (ap opening_of (cut false (codes "--algorithm") (is ∙ ap (λ (w : Text). w ++ o.rest) (word_is false k))))
    by true k is =
        let own : v ≡ codes "--fair" ++ o.rest = is ∙ ap (λ (w : Text). w ++ o.rest) (word_is true k) in
        let t = (made true (codes "--fair")).rest.to in
        let m : names_algorithm (take (t - (n + 6)) (o.rest ++ r)) ≡ true = fair_named (n + 6) o.rest r (ap is_fair (sym own) ∙ k) in
        whole true k (codes "--fair") (word_is true k)
        (ap opening_of (cut true (codes "--fair") own) ∙ ap (λ (j : Bool). if j then Some (codes "--fair") else None) m)

pub opening_is : (x : Text) (a : AlgorithmText) → splitting_offences x ≡ [] → algorithm_in x ≡ Some a → Opens x a
opening_is x a none is = by (find holds_algorithm (walk x)) refl
  where
    fine : offences_of (walk x) ≡ []
    fine = none_left (offences_of (walk x)) (segments_free (walk x)) (spared_both (offences_of (walk x)) _ none).0

    begun : (d : Located) → find holds_algorithm (walk x) ≡ Some d → (o : Option ℕ) → first_of (beginnings_in d) ≡ o → Opens x a
    begun d f None o = (let g : None ≡ Some a = rw (f, o) at is in absurd (none-some a g))
    begun d f (Some n) o =
        let left = d.at + 2 + length (within d.is) - n in
        let made = algorithm_at n left (drop n x) in
        let g : Some made ≡ Some a = rw (f, o) at is in
        let before = before_first holds_algorithm (walk x) in
        let after = after_first holds_algorithm (walk x) in
        let split = before_whole holds_algorithm (walk x) d f in
        let q = placed x before after d n (fine_here x before after d fine split) split o in
        subst (Opens x) (same_Some made a g) (opens_there x q.p q.v q.r n left q.text q.from q.left q.here)

    by : (o : Option Located) → find holds_algorithm (walk x) ≡ o → Opens x a
    by None f = (let g : None ≡ Some a = rw f at is in absurd (none-some a g))
    by (Some d) f = begun d f (first_of (beginnings_in d)) refl
