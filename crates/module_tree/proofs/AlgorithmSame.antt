-- The algorithm of a file with a translation is that of the file that was read.
use Rattle.std.proofs.Common.{◌≡◌, ℕ, zero, suc, ◌+◌, ◌-◌, ◌<◌, Bool, true, false, nat_eq, List, [], ◌∷◌, ◌++◌, length, map, take, drop, Option, Some, None, refl, sym, ap, subst, ◌∙◌, arith, append_assoc, length-append, find}
use Rattle.std.specs.Prelude.{if◌then◌else◌, is_some}
use Rattle.std.proofs.lemmas.Bool.{eqb-true}
use Rattle.std.proofs.lemmas.Option.{none-some, same_Some}
use Rattle.std.proofs.Math.Seq.{take-append_seam, drop-append_seam}
use Rattle.tla_token.specs.Tokens.{Piece, bytes_of}
use Rattle.tla_token.specs.Offences.{Part, sound, part_bytes, part_offences}
use Rattle.tla_token.specs.Cut.{part_at}
use Rattle.module_tree.specs.TextFront.{Text}
use Rattle.module_tree.specs.Beginnings.{is_fair, opening, begins_algorithm, all_at}
use Rattle.module_tree.specs.ModuleParts.{kind_in}
use Rattle.module_tree.specs.Walk.{Segment, Located, walk, at_start}
use Rattle.module_tree.specs.FileParts.{within, beginnings_in, first_of, holds_algorithm, before_first, after_first}
use Rattle.module_tree.specs.AlgorithmText.{Stage, head, is_past, after_part, Inside, with_part, inner_part, inside, AlgorithmText, algorithm_at, algorithm_in}
use Rattle.module_tree.specs.FileOffences.{offences_of, algorithm_offences}
use Rattle.module_tree.specs.WithTranslation.{WithTranslation}
use Rattle.module_tree.specs.laws.Walks.{IsInside, made, located, after_all, Moved}
use Rattle.module_tree.specs.laws.Kept.{IsFine, only_large, SameAlgorithm}
use Rattle.module_tree.proofs.WalkPlace.{both_empty, before_whole}
use Rattle.module_tree.proofs.WalkKept.{has_place}
use Rattle.module_tree.proofs.WalkSame.{keeps_file}
use Rattle.module_tree.proofs.InsidePieces.{passed, quoted}
use Rattle.module_tree.proofs.AlgorithmTokens.{Ends, are_plain, large_parts, plain_first, sound_of, part_found, Found, found_first}
use Rattle.module_tree.proofs.AlgorithmFound.{opened, made_there}
use Rattle.module_tree.proofs.AlgorithmIsCut.{Placed, placed, fine_here}

-- ---- the same text in a comment, elsewhere

abbrev Same : Inside → Inside → Type 0
Same i j = (map (λ p. p.1) i.parts ≡ map (λ p. p.1) j.parts) × (i.stage ≡ j.stage)

part_in : (b : ℕ) (v r : Text) (p : Piece) → part_at b v ≡ sound p → inner_part (length v) b (v ++ r) ≡ sound p
part_in b v r p e = by (nat_eq b 34) refl
  where
    choose : (k : Bool) → nat_eq b 34 ≡ k → inner_part (length v) b (v ++ r) ≡ part_at b (if k then v ++ r else take (length v) (v ++ r))
    choose k e = ap (λ (k : Bool). part_at b (if k then v ++ r else take (length v) (v ++ r))) e

    by : (k : Bool) → nat_eq b 34 ≡ k → inner_part (length v) b (v ++ r) ≡ sound p
    by true k =
        let same : b ≡ 34 = eqb-true b 34 k in
        choose true k ∙ ap (λ (b : ℕ). part_at b (v ++ r)) same ∙ quoted v r p (ap (λ (b : ℕ). part_at b v) (sym same) ∙ e)
    by false k = choose false k ∙ ap (part_at b) (take-append_seam v r) ∙ e

-- the bytes of the first part are passed over
over_part : (n b : ℕ) (v r : Text) (p : Piece) (f : Found p b v) (next : Stage)
    → inside next (suc n) (length (bytes_of p) - 1) (length v) (v ++ r) ≡ inside next (n + length (bytes_of p)) 0 (length f.rest) (f.rest ++ r)
over_part n b v r p f next =
    ap (λ (i : ℕ). inside next (suc n) i (length v) (v ++ r)) (ap (λ (u : Text). length u - 1) f.is ∙ less (length f.m))
    ∙ ap (λ (u : Text). inside next (suc n) (length f.m) (length u) (u ++ r)) f.split
    ∙ ap (λ (u : Text). inside next (suc n) (length f.m) (length (f.m ++ f.rest)) u) (append_assoc f.m f.rest r)
    ∙ passed next f.m (f.rest ++ r) (suc n) (length f.rest) (length (f.m ++ f.rest)) (length-append f.m f.rest)
    ∙ ap (λ (i : ℕ). inside next i 0 (length f.rest) (f.rest ++ r)) (sum n (length f.m) (length (bytes_of p)) (ap length f.is))
  where
    less : (n : ℕ) → suc n - 1 ≡ n
    less n = omega arith

    sum : (n k l : ℕ) → l ≡ suc k → suc n + k ≡ n + l
    sum n k l e = omega arith

-- at the first part
pub opened_at : (st : Stage) (n b : ℕ) (v r : Text) (p : Piece) (f : Found p b v) → is_past st ≡ false → part_at b v ≡ sound p
    → inside st n 0 (suc (length v)) (b ∷ (v ++ r)) ≡ with_part (n, sound p) (inside (after_part st (kind_in (sound p))) (n + length (bytes_of p)) 0 (length f.rest) (f.rest ++ r))
opened_at st n b v r p f past e =
    ap (λ (k : Bool). if k then record { parts = []; stage = st; to = n } else cut_by (inner_part (length v) b (v ++ r))) past
    ∙ ap cut_by (part_in b v r p e) ∙ ap (with_part (n, sound p)) (over_part n b v r p f (after_part st (kind_in (sound p))))
  where
    cut_by : Part → Inside
    cut_by q = with_part (n, q) (inside (after_part st (kind_in q)) (suc n) (length (part_bytes q) - 1) (length v) (v ++ r))

same_within : (fuel : ℕ) (st : Stage) (n m : ℕ) (v r s : Text) → length v < fuel → Ends r → are_plain (inside st n 0 (length v) (v ++ r)).parts ≡ true
    → Same (inside st n 0 (length v) (v ++ r)) (inside st m 0 (length v) (v ++ s))
same_within zero st n m v r s l h e = absurd (omega arith)
same_within (suc fuel) st n m [] r s l h e = (refl, refl)
same_within (suc fuel) st n m (b ∷ v) r s l h e = by (is_past st) refl (λ st n m v. same_within fuel st n m v r s)
  where
    first : Part
    first = inner_part (length v) b (v ++ r)

    cut_by : Part → Inside
    cut_by q = with_part (n, q) (inside (after_part st (kind_in q)) (suc n) (length (part_bytes q) - 1) (length v) (v ++ r))

    nothing : (r : Text) (n : ℕ) → is_past st ≡ true → inside st n 0 (suc (length v)) (b ∷ (v ++ r)) ≡ record { parts = []; stage = st; to = n }
    nothing r n k = rw k refl

    by : (k : Bool) → is_past st ≡ k
        → ((st : Stage) (n m : ℕ) (v : Text) → length v < fuel → Ends r → are_plain (inside st n 0 (length v) (v ++ r)).parts ≡ true → Same (inside st n 0 (length v) (v ++ r)) (inside st m 0 (length v) (v ++ s)))
        → Same (inside st n 0 (suc (length v)) (b ∷ (v ++ r))) (inside st m 0 (suc (length v)) (b ∷ (v ++ s)))
    by true k deeper = (
      ap (λ (i : Inside). map (λ p. p.1) i.parts) (nothing r n k) ∙ sym (ap (λ (i : Inside). map (λ p. p.1) i.parts) (nothing s m k)),
      ap (λ (i : Inside). i.stage) (nothing r n k) ∙ sym (ap (λ (i : Inside). i.stage) (nothing s m k)),
    )
    by false k deeper =
        let whole : inside st n 0 (suc (length v)) (b ∷ (v ++ r)) ≡ cut_by first = ap (λ (k : Bool). if k then record { parts = []; stage = st; to = n } else cut_by first) k in
        let plain : are_plain (cut_by first).parts ≡ true = ap (λ (i : Inside). are_plain i.parts) (sym whole) ∙ e in
        let both = large_parts (part_offences true n first) _ plain in
        let q = sound_of first (plain_first n b (if nat_eq b 34 then v ++ r else take (length v) (v ++ r)) both.0) in
        let here = part_found b v r q.0 h q.1 q.2 in
        let f = found_first q.0 b v here in
        let next = after_part st (kind_in (sound q.0)) in
        let mine = opened_at st n b v r q.0 f k here in
        let other = opened_at st m b v s q.0 f k here in
        let plain_rest : are_plain (inside next (n + length (bytes_of q.0)) 0 (length f.rest) (f.rest ++ r)).parts ≡ true =
        (large_parts (part_offences true n (sound q.0)) _ (ap (λ (i : Inside). are_plain i.parts) (sym mine) ∙ e)).1 in
        let d = deeper next (n + length (bytes_of q.0)) (m + length (bytes_of q.0)) f.rest (shorter q.0 f) h plain_rest in (
          ap (λ (i : Inside). map (λ p. p.1) i.parts) mine ∙ ap (λ (ps : List Part). sound q.0 ∷ ps) d.0 ∙ sym (ap (λ (i : Inside). map (λ p. p.1) i.parts) other),
          ap (λ (i : Inside). i.stage) mine ∙ d.1 ∙ sym (ap (λ (i : Inside). i.stage) other),
        )
      where
        shorter : (p : Piece) (f : Found p b v) → length f.rest < fuel
        shorter p f = (let n = ap length f.split in omega (arith, l, n, length-append f.m f.rest))

-- ---- the comment in the other file

-- where it begins in another place
pub begins_there : (p : Text → Bool) (k l n : ℕ) (u : Text) → first_of (all_at p k u) ≡ Some n → (i : ℕ) × (n ≡ k + i) × (first_of (all_at p l u) ≡ Some (l + i))
begins_there p k l n [] e = absurd (none-some n e)
begins_there p k l n (b ∷ u) e = by (p (b ∷ u)) refl (begins_there p (suc k) (suc l) n u)
  where
    none : (k : ℕ) → k ≡ k + 0
    none k = omega arith

    further : (n k i : ℕ) → n ≡ suc k + i → n ≡ k + suc i
    further n k i e = omega arith

    by : (t : Bool) → p (b ∷ u) ≡ t → (first_of (all_at p (suc k) u) ≡ Some n → (i : ℕ) × (n ≡ suc k + i) × (first_of (all_at p (suc l) u) ≡ Some (suc l + i)))
        → (i : ℕ) × (n ≡ k + i) × (first_of (all_at p l (b ∷ u)) ≡ Some (l + i))
    by true t deeper =
        let f : Some k ≡ Some n = rw t at e in
        (0, sym (same_Some k n f) ∙ none k, first_here t)
      where
        first_here : p (b ∷ u) ≡ true → first_of (all_at p l (b ∷ u)) ≡ Some (l + 0)
        first_here t = rw t (ap Some (none l))
    by false t deeper = (let f : first_of (all_at p (suc k) u) ≡ Some n = rw t at e in let d = deeper f in (suc d.0, further n k d.0 d.1, later t d.0 d.2))
      where
        later : p (b ∷ u) ≡ false → (i : ℕ) → first_of (all_at p (suc l) u) ≡ Some (suc l + i) → first_of (all_at p l (b ∷ u)) ≡ Some (l + suc i)
        later t i g = rw t (g ∙ ap Some (further (suc l + i) l i refl))

pub rest_same : (u v s t : Text) → u ++ v ≡ s ++ t → length u ≡ length s → v ≡ t
rest_same u v s t e n = sym (drop-append_seam u v) ∙ ap (drop (length u)) e ∙ ap (λ (k : ℕ). drop k (s ++ t)) n ∙ drop-append_seam s t

abbrev pub at_comment : Text → Located → ℕ → AlgorithmText
at_comment x d n = algorithm_at n (d.at + 2 + length (within d.is) - n) (drop n x)

-- the algorithm of one comment in two files
pub same_comment : (x w : Text) (c d : Located) (n m : ℕ) → Placed x c n → Placed w d m → c.is ≡ d.is → (i : ℕ) → n ≡ c.at + 2 + i → m ≡ d.at + 2 + i
    → are_plain (at_comment x c n).rest.parts ≡ true → SameAlgorithm (at_comment x c n) (at_comment w d m)
same_comment x w c d n m q s is i e f plain =
    let size : length q.u ≡ length s.u = equal c.at d.at n m i (length q.u) (length s.u) q.at s.at e f in
    let v : q.v ≡ s.v = rest_same q.u q.v s.u s.v (sym q.inner ∙ ap within is ∙ s.inner) size in
    let o = opened q.v q.here in
    let mine = made_there x q.p q.v q.r n (c.at + 2 + length (within c.is) - n) q.text q.from q.left o in
    let other = made_there w s.p q.v s.r m (d.at + 2 + length (within d.is) - m) (s.text ∙ ap (λ (v : Text). s.p ++ (v ++ s.r)) (sym v)) s.from (s.left ∙ ap length (sym v)) o in
    let st = head (if is_fair q.v then 1 else 0) in
    let k = length (opening q.v) in
    let same = same_within (suc (length o.rest)) st (n + k) (m + k) o.rest q.r s.r (omega arith) q.ends (ap (λ (a : AlgorithmText). are_plain a.rest.parts) (sym mine) ∙ plain) in
    record {
      opening = ap (λ (a : AlgorithmText). a.opening) (mine) ∙ sym (ap (λ (a : AlgorithmText). a.opening) other);
      parts = ap (λ (a : AlgorithmText). map (λ p. p.1) a.rest.parts) mine ∙ same.0 ∙ sym (ap (λ (a : AlgorithmText). map (λ p. p.1) a.rest.parts) other);
      stage = ap (λ (a : AlgorithmText). a.rest.stage) mine ∙ same.1 ∙ sym (ap (λ (a : AlgorithmText). a.rest.stage) other);
    }
  where
    equal : (a b n m i u s : ℕ) → n ≡ a + 2 + u → m ≡ b + 2 + s → n ≡ a + 2 + i → m ≡ b + 2 + i → u ≡ s
    equal a b n m i u s e f g h = omega arith

-- ---- the comment is found

pub record There (ds : List Located) (d : Located) : Type 0 where
  pub there : Located
  pub found : find holds_algorithm ds ≡ Some there
  pub is : d.is ≡ there.is

pub moved_there : (i j m n : ℕ) (ds es : List Located) (d : Located) → Moved i j m n ds es → find holds_algorithm ds ≡ Some d → There es d
moved_there i j m n [] es d h e = absurd (none-some d e)
moved_there i j m n (c ∷ ds) [] d h e = absurd h
moved_there i j m n (c ∷ ds) (b ∷ es) d h e = by (holds_algorithm c) refl (moved_there i j m n ds es d h.2)
  where
    same_holds : holds_algorithm b ≡ holds_algorithm c
    same_holds = ap (λ (g : Segment). is_some (first_of (all_at begins_algorithm (b.at + 2) (within g)))) (sym h.0) ∙ anywhere (within c.is) (b.at + 2) (c.at + 2)
      where
        anywhere : (u : Text) (k l : ℕ) → is_some (first_of (all_at begins_algorithm k u)) ≡ is_some (first_of (all_at begins_algorithm l u))
        anywhere [] k l = refl
        anywhere (b ∷ u) k l = on (begins_algorithm (b ∷ u)) refl (anywhere u (suc k) (suc l))
          where
            on : (t : Bool) → begins_algorithm (b ∷ u) ≡ t → is_some (first_of (all_at begins_algorithm (suc k) u)) ≡ is_some (first_of (all_at begins_algorithm (suc l) u))
                → is_some (first_of (all_at begins_algorithm k (b ∷ u))) ≡ is_some (first_of (all_at begins_algorithm l (b ∷ u)))
            on true t deeper = rw t refl
            on false t deeper = rw t deeper

    by : (k : Bool) → holds_algorithm c ≡ k → (find holds_algorithm ds ≡ Some d → There es d) → There (b ∷ es) d
    by true k deeper =
        let f : Some c ≡ Some d = rw k at e in
        let yes : holds_algorithm b ≡ true = same_holds ∙ k in
        record { there = b; found = first_held b es yes; is = ap (λ (d : Located). d.is) (sym (same_Some c d f)) ∙ h.0 }
      where
        first_held : (b : Located) (es : List Located) → holds_algorithm b ≡ true → find holds_algorithm (b ∷ es) ≡ Some b
        first_held b es t = rw t refl
    by false k deeper =
        let f : find holds_algorithm ds ≡ Some d = rw k at e in
        let r = deeper f in
        let other : holds_algorithm b ≡ false = same_holds ∙ k in
        record { there = r.there; found = next_held b es other ∙ r.found; is = r.is }
      where
        next_held : (b : Located) (es : List Located) → holds_algorithm b ≡ false → find holds_algorithm (b ∷ es) ≡ find holds_algorithm es
        next_held b es t = rw t refl

-- among the first, or among what is after them
pub found_there : (front rest es : List Located) (d : Located) → find holds_algorithm (front ++ rest) ≡ Some d → (find holds_algorithm rest ≡ Some d → There es d) → There (front ++ es) d
found_there [] rest es d e h = h e
found_there (c ∷ front) rest es d e h = by (holds_algorithm c) refl (found_there front rest es d)
  where
    by : (k : Bool) → holds_algorithm c ≡ k → (find holds_algorithm (front ++ rest) ≡ Some d → (find holds_algorithm rest ≡ Some d → There es d) → There (front ++ es) d) → There (c ∷ (front ++ es)) d
    by true k deeper =
        let f : Some c ≡ Some d = rw k at e in
        record { there = c; found = first_held k; is = ap (λ (d : Located). d.is) (sym (same_Some c d f)) }
      where
        first_held : holds_algorithm c ≡ true → find holds_algorithm (c ∷ (front ++ es)) ≡ Some c
        first_held t = rw t refl
    by false k deeper =
        let f : find holds_algorithm (front ++ rest) ≡ Some d = rw k at e in
        let r = deeper f h in
        record { there = r.there; found = next_held k ∙ r.found; is = r.is }
      where
        next_held : holds_algorithm c ≡ false → find holds_algorithm (c ∷ (front ++ es)) ≡ find holds_algorithm (front ++ es)
        next_held t = rw t refl

-- ---- the file with a translation

-- its algorithm is the same
pub algorithm_kept : (x t w : Text) (a : AlgorithmText) → IsFine x → IsInside t → WithTranslation x t w → algorithm_in x ≡ Some a → (b : AlgorithmText) × (algorithm_in w ≡ Some b) × SameAlgorithm a b
algorithm_kept x t w a fine i put is = by (find holds_algorithm (walk x)) refl
  where
    Goal : Type 0
    Goal = (b : AlgorithmText) × (algorithm_in w ≡ Some b) × SameAlgorithm a b

    plain : are_plain a.rest.parts ≡ true
    plain =
        let rest = (both_empty (offences_of (walk x)) _ fine).1 in
        let none : algorithm_offences (algorithm_in x) ≡ [] = (both_empty (algorithm_offences (algorithm_in x)) _ rest).0 in
        ap only_large (ap algorithm_offences (sym is) ∙ none)

    there : (d : Located) → find holds_algorithm (walk x) ≡ Some d → There (walk w) d
    there d f =
        let h = has_place x fine in
        let p = h.written t w i put in
        let new = located (after_all at_start h.front) (made t) in
        let walked : walk w ≡ h.front ++ new ∷ p.1.here ∷ p.1.us = ap walk p.0 ∙ p.1.walked in
        let two : There p.1.us d → There (new ∷ p.1.here ∷ p.1.us) d =
        λ r. record { there = r.there; found = skipped new p.1.here p.1.us refl (ap within p.1.is_newline) ∙ r.found; is = r.is } in
        subst (λ (ds : List Located). There ds d) (sym walked)
        (found_there h.front h.rest (new ∷ p.1.here ∷ p.1.us) d (ap (find holds_algorithm) (sym h.whole) ∙ f)
        (λ e. two (moved_there p.1.bytes_here p.1.bytes_there p.1.lines_here p.1.lines_there h.back p.1.us d p.1.are_moved (sym h.found ∙ e))))
      where
        skipped : (c d : Located) (es : List Located) → within c.is ≡ [] → within d.is ≡ [] → find holds_algorithm (c ∷ d ∷ es) ≡ find holds_algorithm es
        skipped c d es n m = rw (n, m) refl

    begun : (d : Located) → find holds_algorithm (walk x) ≡ Some d → (o : Option ℕ) → first_of (beginnings_in d) ≡ o → Goal
    begun d f None o = (let g : None ≡ Some a = rw (f, o) at is in absurd (none-some a g))
    begun d f (Some n) o =
        let g : Some (at_comment x d n) ≡ Some a = rw (f, o) at is in
        let same : at_comment x d n ≡ a = same_Some (at_comment x d n) a g in
        let r = there d f in
        let c = r.there in
        let j = begins_there begins_algorithm (d.at + 2) (c.at + 2) n (within d.is) o in
        let m = c.at + 2 + j.0 in
        let first : first_of (beginnings_in c) ≡ Some m = ap (λ (g : Segment). first_of (all_at begins_algorithm (c.at + 2) (within g))) (sym r.is) ∙ j.2 in
        let split = before_whole holds_algorithm (walk x) d f in
        let split_there = before_whole holds_algorithm (walk w) c r.found in
        let q = placed x (before_first holds_algorithm (walk x)) (after_first holds_algorithm (walk x)) d n (fine_here x _ _ d (both_empty (offences_of (walk x)) _ fine).0 split) split o in
        let s = placed w (before_first holds_algorithm (walk w)) (after_first holds_algorithm (walk w)) c m (fine_here w _ _ c (keeps_file x t w fine i put).sound split_there) split_there first in
        let found : algorithm_in w ≡ Some (at_comment w c m) = rw (r.found, first) refl in
        let kept = same_comment x w d c n m q s r.is j.0 j.1 refl (ap (λ (a : AlgorithmText). are_plain a.rest.parts) same ∙ plain) in
        (at_comment w c m, found, subst (λ (a : AlgorithmText). SameAlgorithm a (at_comment w c m)) same kept)

    by : (o : Option Located) → find holds_algorithm (walk x) ≡ o → Goal
    by None f = (let g : None ≡ Some a = rw f at is in absurd (none-some a g))
    by (Some d) f = begun d f (first_of (beginnings_in d)) refl
