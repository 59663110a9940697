-- Where algorithms begin in a file: nothing begins behind the algorithm of one that breaks no rule.
use Rattle.std.proofs.Common.{◌≡◌, ℕ, suc, ◌+◌, ◌<◌, ◌≤◌, nat_lt, Bool, true, false, List, [], ◌∷◌, ◌++◌, length, Option, Some, None, refl, sym, ap, ◌∙◌, arith, append_assoc, length-append, find}
use Rattle.std.specs.List.{list_all}
use Rattle.std.proofs.lemmas.Bool.{and_parts, and_from, ltb-true, lt-ltb}
use Rattle.std.proofs.lemmas.Option.{same_Some}
use Rattle.module_tree.specs.TextFront.{Text}
use Rattle.module_tree.specs.Beginnings.{begins_algorithm, index_if, all_at}
use Rattle.module_tree.specs.Walk.{Segment, bytes, Located, walk}
use Rattle.module_tree.specs.FileParts.{within, beginnings_in, beginnings, first_of, holds_algorithm, before_first, after_first}
use Rattle.module_tree.specs.laws.Walks.{text_of}
use Rattle.module_tree.specs.laws.Swaps.{segments}
use Rattle.module_tree.proofs.WalkPlace.{before_whole, text_append}
use Rattle.module_tree.proofs.WalkKept.{at_is}
use Rattle.module_tree.proofs.AlgorithmFound.{first_at}
use Rattle.module_tree.proofs.BeginningsKept.{none_held, begun_in}

-- ---- all places in a text

pub none_anywhere : (p : Text → Bool) (k l : ℕ) (u : Text) → all_at p k u ≡ [] → all_at p l u ≡ []
none_anywhere p k l [] e = refl
none_anywhere p k l (b ∷ u) e = by (p (b ∷ u)) refl (none_anywhere p (suc k) (suc l) u)
  where
    by : (t : Bool) → p (b ∷ u) ≡ t → (all_at p (suc k) u ≡ [] → all_at p (suc l) u ≡ []) → all_at p l (b ∷ u) ≡ []
    by true t deeper = (let f : k ∷ all_at p (suc k) u ≡ [] = rw t at e in absurd cc)
    by false t deeper = (let f : all_at p (suc k) u ≡ [] = rw t at e in rw t (deeper f))

-- none is before the first one
pub over_front : (p : Text → Bool) (k : ℕ) (u v : Text) → first_of (all_at p k (u ++ v)) ≡ Some (k + length u) → all_at p k (u ++ v) ≡ all_at p (k + length u) v
over_front p k [] v e = ap (λ (k : ℕ). all_at p k v) (none k)
  where
    none : (k : ℕ) → k ≡ k + 0
    none k = omega arith
over_front p k (b ∷ u) v e = by (p (b ∷ (u ++ v))) refl (over_front p (suc k) u v)
  where
    further : suc k + length u ≡ k + suc (length u)
    further = omega arith

    by : (t : Bool) → p (b ∷ (u ++ v)) ≡ t → (first_of (all_at p (suc k) (u ++ v)) ≡ Some (suc k + length u) → all_at p (suc k) (u ++ v) ≡ all_at p (suc k + length u) v)
        → all_at p k (b ∷ (u ++ v)) ≡ all_at p (k + suc (length u)) v
    by true t deeper =
        let f : Some k ≡ Some (k + suc (length u)) = rw t at e in
        let same = same_Some k (k + suc (length u)) f in
        absurd (omega (arith, same))
    by false t deeper =
        let f : first_of (all_at p (suc k) (u ++ v)) ≡ Some (k + suc (length u)) = rw t at e in
        rw t (deeper (f ∙ ap Some (sym further)) ∙ ap (λ (k : ℕ). all_at p k v) further)

-- where all are before the end of u, none is behind it
pub none_past : (p : Text → Bool) (e n : ℕ) (u v : Text) → e ≡ n + length u → list_all (λ k. nat_lt k e) (all_at p n (u ++ v)) ≡ true → all_at p e v ≡ []
none_past p e n [] v s h = by (all_at p n v) refl
  where
    by : (ks : List ℕ) → all_at p n v ≡ ks → all_at p e v ≡ []
    by [] o = none_anywhere p n e v o
    by (k ∷ ks) o =
        let f = first_at p n k v (ap first_of o) in
        let l = (and_parts (nat_lt k e) (list_all (λ k. nat_lt k e) ks) (ap (list_all (λ k. nat_lt k e)) (sym o) ∙ h)).0 in
        let less = ltb-true k e l in
        let at = f.at in
        absurd (omega (arith, s, at, less))
none_past p e n (b ∷ u) v s h = none_past p e (suc n) u v (omega (arith, s)) (rest (p (b ∷ (u ++ v))) h)
  where
    rest : (t : Bool) → list_all (λ k. nat_lt k e) (index_if t n (all_at p (suc n) (u ++ v))) ≡ true → list_all (λ k. nat_lt k e) (all_at p (suc n) (u ++ v)) ≡ true
    rest true h = (and_parts (nat_lt n e) (list_all (λ k. nat_lt k e) (all_at p (suc n) (u ++ v))) h).1
    rest false h = h

-- ---- among segments

pub all_before : (p : ℕ → Bool) (e : ℕ) (ns : List ℕ) → ((k : ℕ) → p k ≡ true → k < e) → list_all p ns ≡ true → list_all (λ k. nat_lt k e) ns ≡ true
all_before p e [] f h = refl
all_before p e (n ∷ ns) f h =
    let k = and_parts (p n) (list_all p ns) h in
    and_from (nat_lt n e) (list_all (λ k. nat_lt k e) ns) (lt-ltb n e (f n k.0)) (all_before p e ns f k.1)

-- the same segments elsewhere
pub none_there : (ds es : List Located) → segments ds ≡ segments es → beginnings ds ≡ [] → beginnings es ≡ []
none_there [] [] s e = refl
none_there [] (d ∷ es) s e = absurd cc
none_there (c ∷ ds) [] s e = refl
none_there (c ∷ ds) (d ∷ es) s e =
    let first : c.is ≡ d.is = cc in
    let more : segments ds ≡ segments es = cc in
    let here : beginnings_in c ≡ [] = front (beginnings_in c) (beginnings ds) e in
    let behind : beginnings ds ≡ [] = ap (λ (ns : List ℕ). ns ++ beginnings ds) (sym here) ∙ e in
    let there : beginnings_in d ≡ [] = none_anywhere begins_algorithm (c.at + 2) (d.at + 2) (within d.is) (ap (λ (g : Segment). all_at begins_algorithm (c.at + 2) (within g)) (sym first) ∙ here) in
    (λ i. there i ++ none_there ds es more behind i)
  where
    front : (ns ms : List ℕ) → ns ++ ms ≡ [] → ns ≡ []
    front [] ms e = refl
    front (n ∷ ns) ms e = absurd cc

-- where all are before the end of a comment, none is after it
pub none_after : (x : Text) (ds es : List Located) (d : Located) (e : ℕ) → walk x ≡ ds ++ d ∷ es → e ≤ d.at + length (bytes d.is) → list_all (λ k. nat_lt k e) (beginnings es) ≡ true → beginnings es ≡ []
none_after x ds es d e split bound all = by (find holds_algorithm es) refl
  where
    by : (o : Option Located) → find holds_algorithm es ≡ o → beginnings es ≡ []
    by None o = none_held es o
    by (Some c) o =
        let b = begun_in es c o in
        let k = (and_parts (nat_lt b.n e) (list_all (λ k. nat_lt k e) b.others) (ap (list_all (λ k. nat_lt k e)) (sym b.all) ∙ all)).0 in
        let less = ltb-true b.n e k in
        let front = before_first holds_algorithm es in
        let back = after_first holds_algorithm es in
        let c_at = at_is (ds ++ d ∷ front) back c x (split ∙ ap (λ (es : List Located). ds ++ d ∷ es) (before_whole holds_algorithm es c o) ∙ sym (append_assoc ds (d ∷ front) (c ∷ back))) in
        let d_at = at_is ds es d x split in
        let size = ap length (text_append ds (d ∷ front)) ∙ length-append (text_of ds) (bytes d.is ++ text_of front) in
        let d_size = length-append (bytes d.is) (text_of front) in
        let from = (first_at begins_algorithm (c.at + 2) b.n (within c.is) b.first).at in
        absurd (omega (arith, less, c_at, d_at, size, d_size, bound, from))
