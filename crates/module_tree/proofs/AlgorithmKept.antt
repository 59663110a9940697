-- The algorithm of a file with a translation is that of the file that was read, moved: its beginning, its offences, and which other beginnings are in its tokens.
use Rattle.std.proofs.Common.{◌≡◌, inl, inr, ℕ, suc, ◌+◌, ◌<◌, ◌≤◌, Bool, true, false, not, List, [], ◌∷◌, ◌++◌, length, take, filter, Option, Some, None, refl, sym, ap, subst, ◌∙◌, arith, append_assoc, append-nil, length-append, find}
use Rattle.std.specs.List.{list_all}
use Rattle.std.proofs.lemmas.Bool.{and_parts, and_from}
use Rattle.std.proofs.lemmas.Option.{same_Some}
use Rattle.tla_token.specs.declared.rule.Rule.TheVariants.{TwoAlgorithms}
use Rattle.module_tree.specs.TextFront.{Text}
use Rattle.module_tree.specs.Beginnings.{begins_algorithm, all_at}
use Rattle.module_tree.specs.Walk.{Segment, region, bytes, is_region, Located, walk, at_start}
use Rattle.module_tree.specs.FileParts.{before_first, after_first, within, beginnings_in, beginnings, first_of, holds_algorithm}
use Rattle.module_tree.specs.AlgorithmText.{AlgorithmText, algorithm_in, in_token}
use Rattle.module_tree.specs.FileOffences.{offences_of, algorithm_offences, second_algorithms, offences_at}
use Rattle.module_tree.specs.WithTranslation.{WithTranslation}
use Rattle.module_tree.specs.laws.Walks.{text_of, after_all, IsInside, made, located, Put, Near}
use Rattle.module_tree.specs.laws.Kept.{IsFine, only_large, KeepsFile, SameAlgorithm}
use Rattle.module_tree.proofs.WalkPlace.{before_whole, text_append, met, after_both, places_after}
use Rattle.module_tree.proofs.WalkKept.{all_fine_in, Shape, HasPlace, has_place, at_is}
use Rattle.module_tree.proofs.WalkSame.{keeps_file}
use Rattle.module_tree.proofs.AlgorithmTokens.{are_plain}
use Rattle.module_tree.proofs.AlgorithmIsCut.{Placed, placed, fine_here}
use Rattle.module_tree.proofs.AlgorithmFound.{first_at}
use Rattle.module_tree.proofs.AlgorithmSame.{begins_there, at_comment, same_comment}
use Rattle.module_tree.proofs.AlgorithmRow.{row_of, in_before, in_moved, parts_anywhere, row_bound}
use Rattle.module_tree.proofs.ModuleKept.{found_so}
use Rattle.std.proofs.lemmas.List.{take-append-le}
use Rattle.tla_token.specs.declared.place.Place.{Place}
use Rattle.tla_token.specs.Places.{start, after, place_at}
use Rattle.module_tree.proofs.WalkWhole.{whole}
use Rattle.module_tree.proofs.WalkMoved.{after_below}
use Rattle.module_tree.proofs.BeginningsKept.{Shifted, moved_beginnings, beginnings_append, two_more, none_held, begun_in, found_front, found_back, comment_size, moved_found}

-- ---- one comment in two files

record Matched (a b : AlgorithmText) (n m e : ℕ) : Type 0 where
  same : SameAlgorithm a b
  room : n + length a.opening ≤ e
  offences : algorithm_offences (Some b) ≡ []
  tokens : (k l : ℕ) → k + m ≡ l + n → in_token a k ≡ in_token b l
  bound : (k : ℕ) → in_token a k ≡ true → k < e

matched : (x w : Text) (d c : Located) (n m j : ℕ) → Placed x d n → Placed w c m → d.is ≡ c.is → n ≡ d.at + 2 + j → m ≡ c.at + 2 + j → algorithm_offences (Some (at_comment x d n)) ≡ []
    → Matched (at_comment x d n) (at_comment w c m) n m (d.at + 2 + length (within d.is))
matched x w d c n m j q s is e f fine =
    let a = at_comment x d n in
    let b = at_comment w c m in
    let plain : are_plain a.rest.parts ≡ true = ap only_large fine in
    let same = same_comment x w d c n m q s is j e f plain in
    let there = parts_anywhere a.rest.parts b.rest.parts same.parts fine in
    let plain_there : are_plain b.rest.parts ≡ true = ap only_large there in
    let row = row_of x d n q plain in
    let row_there = row_of w c m s plain_there in
    record {
      same = same;
      room = opening_within (length q.u) (length q.v) (length (within d.is)) (length a.opening) (row_bound (n + length a.opening) (n + length q.v) a.rest.parts row) q.at (ap length q.inner ∙ length-append q.u q.v);
      offences = there;
      tokens = λ k l g. in_moved (n + length a.opening) (m + length b.opening) (n + length q.v) (m + length s.v) a.rest.parts b.rest.parts k l row row_there same.parts
          (apart (length a.opening) (length b.opening) k l (ap length same.opening) g);
      bound = λ k g. within_it (length q.u) (length q.v) (length (within d.is)) k (in_before (n + length a.opening) (n + length q.v) a.rest.parts k row g) q.at (ap length q.inner ∙ length-append q.u q.v);
    }
  where
    apart : (o z k l : ℕ) → o ≡ z → k + m ≡ l + n → k + (m + z) ≡ l + (n + o)
    apart o z k l e g = omega arith

    opening_within : (u v y o : ℕ) → n + o ≤ n + v → n ≡ d.at + 2 + u → y ≡ u + v → n + o ≤ d.at + 2 + y
    opening_within u v y o l e g = omega arith

    within_it : (u v y k : ℕ) → k < n + v → n ≡ d.at + 2 + u → y ≡ u + v → k < d.at + 2 + y
    within_it u v y k l e g = omega arith

-- ---- lists of indexes in tokens

not_filtered : (p : ℕ → Bool) (ns : List ℕ) → filter (λ k. not (p k)) ns ≡ [] → list_all p ns ≡ true
not_filtered p [] e = refl
not_filtered p (n ∷ ns) e = by (p n) refl (not_filtered p ns)
  where
    by : (k : Bool) → p n ≡ k → (filter (λ k. not (p k)) ns ≡ [] → list_all p ns ≡ true) → list_all p (n ∷ ns) ≡ true
    by true k deeper = (let f : filter (λ k. not (p k)) ns ≡ [] = rw k at e in rw k (deeper f))
    by false k deeper = (let f : n ∷ filter (λ k. not (p k)) ns ≡ [] = rw k at e in absurd cc)

pub filtered : (p : ℕ → Bool) (ns : List ℕ) → list_all p ns ≡ true → filter (λ k. not (p k)) ns ≡ []
filtered p [] h = refl
filtered p (n ∷ ns) h =
    let k = and_parts (p n) (list_all p ns) h in
    let here = k.0 in
    rw here (filtered p ns k.1)

no_seconds : (ns : List ℕ) → offences_at TwoAlgorithms ns ≡ [] → ns ≡ []
no_seconds [] e = refl
no_seconds (n ∷ ns) e = absurd cc

pub all_parts : (p : ℕ → Bool) (ns ms : List ℕ) → list_all p (ns ++ ms) ≡ true → (list_all p ns ≡ true) × (list_all p ms ≡ true)
all_parts p [] ms h = (refl, h)
all_parts p (n ∷ ns) ms h =
    let k = and_parts (p n) (list_all p (ns ++ ms)) h in
    let m = all_parts p ns ms k.1 in
    (and_from (p n) (list_all p ns) k.0 m.0, m.1)

all_there : (p q : ℕ → Bool) (i j n m : ℕ) → n + j ≡ m + i → ((k l : ℕ) → k + m ≡ l + n → p k ≡ q l) → (ns ms : List ℕ) → Shifted i j ns ms → list_all p ns ≡ true → list_all q ms ≡ true
all_there p q i j n m e f [] [] s h = refl
all_there p q i j n m e f [] (l ∷ ms) s h = absurd s
all_there p q i j n m e f (k ∷ ns) [] s h = absurd s
all_there p q i j n m e f (k ∷ ns) (l ∷ ms) s h =
    let c = and_parts (p k) (list_all p ns) h in
    and_from (q l) (list_all q ms) (sym (f k l (far k l s.0)) ∙ c.0) (all_there p q i j n m e f ns ms s.1 c.1)
  where
    far : (k l : ℕ) → k + j ≡ l + i → k + m ≡ l + n
    far k l g = omega (arith, e)

shifted_same : (ns : List ℕ) → Shifted 0 0 ns ns
shifted_same [] = tt
shifted_same (n ∷ ns) = (refl, shifted_same ns)

none_shifted : (i j : ℕ) (ms : List ℕ) → Shifted i j [] ms → ms ≡ []
none_shifted i j [] s = refl
none_shifted i j (m ∷ ms) s = absurd s

-- ---- the algorithms of a file with a translation

pub near_after : (i j m n : ℕ) (p q : Place) (at to : ℕ) (w : Text) → Near i j m n at p to q → Near i j m n (at + length w) (after p w) (to + length w) (after q w)
near_after i j m n p q at to w near =
    let b = after_below m n p q w (near.1, near.2) in
    (further (length w) near.0, b.0, b.1)
  where
    further : (k : ℕ) → at + j ≡ to + i → at + k + j ≡ to + k + i
    further k e = omega arith

region_within : (g : Segment) → is_region g ≡ true → within g ≡ []
region_within (region v w) h = refl
region_within g h = absurd cc

-- near the beginning, i bytes and m lines in x are j bytes and n lines in w
abbrev NearBegun : Text → Text → ℕ → ℕ → ℕ → ℕ → ℕ → ℕ → ℕ → Type 0
NearBegun x w i j m n from to size = (z : ℕ) → z ≤ size → Near i j m n (from + z) (place_at x (from + z)) (to + z) (place_at w (to + z))

-- the algorithm in x, and the same one in w, moved
pub record AlgorithmsFine (x w : Text) : Type 0 where
  pub old : AlgorithmText
  pub is_old : algorithm_in x ≡ Some old
  pub algorithm : AlgorithmText
  pub is : algorithm_in w ≡ Some algorithm
  pub same : SameAlgorithm old algorithm
  pub bytes_here : ℕ
  pub bytes_there : ℕ
  pub lines_here : ℕ
  pub lines_there : ℕ
  pub near : NearBegun x w bytes_here bytes_there lines_here lines_there old.from algorithm.from (length old.opening)
  pub n : ℕ
  pub others : List ℕ
  pub begun : beginnings (walk w) ≡ n ∷ others
  pub offences : algorithm_offences (Some algorithm) ≡ []
  pub within_tokens : list_all (in_token algorithm) others ≡ true

-- where a comment is k bytes after its mark
place_begun : (x : Text) (d : Located) (n k : ℕ) → find holds_algorithm (walk x) ≡ Some d → n ≡ d.at + 2 + k → 2 + k ≤ length (bytes d.is) → place_at x n ≡ after d.place (take (2 + k) (bytes d.is))
place_begun x d n k f e l =
    let ds = before_first holds_algorithm (walk x) in
    let es = after_first holds_algorithm (walk x) in
    let split = before_whole holds_algorithm (walk x) d f in
    let size = at_is ds es d x split in
    let text : x ≡ text_of ds ++ (bytes d.is ++ text_of es) = sym (whole x) ∙ ap text_of split ∙ text_append ds (d ∷ es) in
    let place : d.place ≡ after start (text_of ds) = sym (ap (λ (d : Located). d.place) (met ds d es at_start x split).is) ∙ places_after at_start ds in
    let count : n ≡ length (text_of ds) + (2 + k) = omega (arith, e, size) in
    ap (λ (n : ℕ). after start (take n x)) count
    ∙ ap (λ (u : Text). after start (take (length (text_of ds) + (2 + k)) u)) text
    ∙ ap (after start) (take_past (text_of ds) (bytes d.is ++ text_of es) (2 + k) ∙ ap (λ (u : Text). text_of ds ++ u) (take-append-le (2 + k) (bytes d.is) (text_of es) l))
    ∙ after_both start (text_of ds) (take (2 + k) (bytes d.is)) ∙ ap (λ (p : Place). after p (take (2 + k) (bytes d.is))) (sym place)
  where
    take_past : (u v : Text) (k : ℕ) → take (length u + k) (u ++ v) ≡ u ++ take k v
    take_past [] v k = ap (λ (n : ℕ). take n v) (none k)
      where
        none : (k : ℕ) → 0 + k ≡ k
        none k = omega arith
    take_past (b ∷ u) v k = ap (λ (n : ℕ). take n (b ∷ (u ++ v))) (more (length u) k) ∙ ap (λ (w : Text). b ∷ w) (take_past u v k)
      where
        more : (n k : ℕ) → suc n + k ≡ suc (n + k)
        more n k = omega arith

near_begun : (x w : Text) (d c : Located) (n m k i j l o size : ℕ) → find holds_algorithm (walk x) ≡ Some d → find holds_algorithm (walk w) ≡ Some c → d.is ≡ c.is
    → Near i j l o d.at d.place c.at c.place → n ≡ d.at + 2 + k → m ≡ c.at + 2 + k → 2 + length (within d.is) ≤ length (bytes d.is) → n + size ≤ d.at + 2 + length (within d.is)
    → NearBegun x w i j l o n m size
near_begun x w d c n m k i j l o size f g is near e h marks room z below =
    let here : n + z ≡ d.at + 2 + (k + z) = omega (arith, e) in
    let there : m + z ≡ c.at + 2 + (k + z) = omega (arith, h) in
    let fits : 2 + (k + z) ≤ length (bytes d.is) = omega (arith, e, marks, room, below) in
    let fits_there : 2 + (k + z) ≤ length (bytes c.is) = subst (λ (g : Segment). 2 + (k + z) ≤ length (bytes g)) is fits in
    let p = place_begun x d (n + z) (k + z) f here fits in
    let q = place_begun w c (m + z) (k + z) g there fits_there in
    let bytes_near : n + z + j ≡ m + z + i = (let b = near.0 in omega (arith, b, e, h)) in
    let below_it = after_below l o d.place c.place (take (2 + (k + z)) (bytes d.is)) (near.1, near.2) in
    let same : after c.place (take (2 + (k + z)) (bytes d.is)) ≡ place_at w (m + z) = ap (λ (g : Segment). after c.place (take (2 + (k + z)) (bytes g))) is ∙ sym q in
    subst (λ (v : Place). Near i j l o (n + z) v (m + z) (place_at w (m + z))) (sym p)
    (subst (λ (v : Place). Near i j l o (n + z) (after d.place (take (2 + (k + z)) (bytes d.is))) (m + z) v) same (bytes_near, below_it.0, below_it.1))

pub algorithm_at_first : (x : Text) (d : Located) (n : ℕ) → find holds_algorithm (walk x) ≡ Some d → first_of (beginnings_in d) ≡ Some n → algorithm_in x ≡ Some (at_comment x d n)
algorithm_at_first x d n f o = rw (f, o) refl

-- what is known of the algorithm in a file that is not refused
pub record FirstFine (x : Text) (d : Located) (n : ℕ) (others : List ℕ) : Type 0 where
  pub offences : algorithm_offences (Some (at_comment x d n)) ≡ []
  pub within_tokens : list_all (in_token (at_comment x d n)) others ≡ true
  pub placed : Placed x d n

pub placed_at : (x : Text) (d : Located) (n : ℕ) → offences_of (walk x) ≡ [] → find holds_algorithm (walk x) ≡ Some d → first_of (beginnings_in d) ≡ Some n → Placed x d n
placed_at x d n fine f o =
    let split = before_whole holds_algorithm (walk x) d f in
    placed x (before_first holds_algorithm (walk x)) (after_first holds_algorithm (walk x)) d n (fine_here x _ _ d fine split) split o

pub first_fine : (x : Text) (d : Located) (n : ℕ) (others : List ℕ) → IsFine x → find holds_algorithm (walk x) ≡ Some d → first_of (beginnings_in d) ≡ Some n → beginnings (walk x) ≡ n ∷ others
    → FirstFine x d n others
first_fine x d n others fine f o all =
    let s = all_fine_in x fine in
    let is = algorithm_at_first x d n f o in
    let second : offences_at TwoAlgorithms (filter (λ k. not (in_token (at_comment x d n) k)) others) ≡ [] =
    (λ i. second_algorithms (sym is i) (sym all i)) ∙ s.second in
    record {
      offences = ap algorithm_offences (sym is) ∙ s.algorithm;
      within_tokens = not_filtered (in_token (at_comment x d n)) others (no_seconds _ second);
      placed = placed_at x d n s.parts.fine f o;
    }

module _ (x t w : Text) (fine : IsFine x) (inside : IsInside t) (put_there : WithTranslation x t w) where
  h : HasPlace x
  h = has_place x fine

  put : Put h.front h.back t (10 ∷ h.rest_text)
  put = (h.written t w inside put_there).1

  abbrev new : Located
  new = located (after_all at_start h.front) (made t)

  walked : walk w ≡ h.front ++ new ∷ put.here ∷ put.us
  walked = ap walk (h.written t w inside put_there).0 ∙ put.walked

  kept : KeepsFile x t w
  kept = keeps_file x t w fine inside put_there

  begun_here : beginnings (walk x) ≡ beginnings h.front ++ beginnings h.back
  begun_here = by h.shape
    where
      by : Shape x h.front h.back → beginnings (walk x) ≡ beginnings h.front ++ beginnings h.back
      by (inl (none, e)) = ap beginnings e ∙ beginnings_append h.front h.back
      by (inr (old, here, some, other, newline, e)) =
          ap beginnings e ∙ beginnings_append h.front (old ∷ here ∷ h.back)
          ∙ ap (λ (ns : List ℕ). beginnings h.front ++ ns) (two_more old here h.back (region_within old.is (found_so is_region (walk x) old some)) (ap within newline))

  begun_there : beginnings (walk w) ≡ beginnings h.front ++ beginnings put.us
  begun_there =
      ap beginnings walked ∙ beginnings_append h.front (new ∷ put.here ∷ put.us)
      ∙ ap (λ (ns : List ℕ). beginnings h.front ++ ns) (two_more new put.here put.us refl (ap within put.is_newline))

  shifted : Shifted put.bytes_here put.bytes_there (beginnings h.back) (beginnings put.us)
  shifted = moved_beginnings put.bytes_here put.bytes_there put.lines_here put.lines_there h.back put.us put.are_moved

  -- the comment is before the translation
  in_front : (d : Located) → find holds_algorithm h.front ≡ Some d → AlgorithmsFine x w
  in_front d f =
      let b = begun_in h.front d f in
      let here : find holds_algorithm (walk x) ≡ Some d = ap (find holds_algorithm) h.whole ∙ found_front h.front h.rest d f in
      let there : find holds_algorithm (walk w) ≡ Some d = ap (find holds_algorithm) walked ∙ found_front h.front (new ∷ put.here ∷ put.us) d f in
      let all : beginnings (walk x) ≡ b.n ∷ (b.others ++ beginnings h.back) = begun_here ∙ ap (λ (ns : List ℕ). ns ++ beginnings h.back) b.all in
      let mine = first_fine x d b.n (b.others ++ beginnings h.back) fine here b.first all in
      let q = mine.placed in
      let s = placed_at w d b.n kept.sound there b.first in
      let m = matched x w d d b.n b.n (length q.u) q s refl q.at q.at mine.offences in
      let parts = all_parts (in_token (at_comment x d b.n)) b.others (beginnings h.back) mine.within_tokens in
      let none : beginnings h.back ≡ [] = no_more d f b.n m.bound parts.1 (find holds_algorithm h.back) refl in
      let none_there : beginnings put.us ≡ [] = none_shifted put.bytes_here put.bytes_there (beginnings put.us) (subst (λ (ns : List ℕ). Shifted put.bytes_here put.bytes_there ns (beginnings put.us)) none shifted) in
      record {
        old = at_comment x d b.n;
        is_old = algorithm_at_first x d b.n here b.first;
        algorithm = at_comment w d b.n;
        is = algorithm_at_first w d b.n there b.first;
        same = m.same;
        bytes_here = 0;
        bytes_there = 0;
        lines_here = 0;
        lines_there = 0;
        near = near_begun x w d d b.n b.n (length q.u) 0 0 0 0 (length (at_comment x d b.n).opening) here there refl (refl, refl, refl) q.at q.at (comment_size d.is b.n (d.at + 2) b.first) m.room;
        n = b.n;
        others = b.others;
        begun = begun_there ∙ (λ i. b.all i ++ none_there i) ∙ append-nil (b.n ∷ b.others);
        offences = m.offences;
        within_tokens = all_there (in_token (at_comment x d b.n)) (in_token (at_comment w d b.n)) 0 0 b.n b.n refl m.tokens b.others b.others (shifted_same b.others) parts.0;
      }
    where
      no_more : (d : Located) → find holds_algorithm h.front ≡ Some d → (n : ℕ)
          → ((k : ℕ) → in_token (at_comment x d n) k ≡ true → k < d.at + 2 + length (within d.is)) → list_all (in_token (at_comment x d n)) (beginnings h.back) ≡ true
          → (o : Option Located) → find holds_algorithm h.back ≡ o → beginnings h.back ≡ []
      no_more d f n bound all None o = none_held h.back o
      no_more d f n bound all (Some c) o =
          let b = begun_in h.back c o in
          let k = (and_parts (in_token (at_comment x d n) b.n) (list_all (in_token (at_comment x d n)) b.others) (ap (list_all (in_token (at_comment x d n))) (sym b.all) ∙ all)).0 in
          let less = bound b.n k in
          let in_rest = before_whole holds_algorithm h.rest c (h.found ∙ o) in
          let r0 = before_first holds_algorithm h.rest in
          let r1 = after_first holds_algorithm h.rest in
          let f0 = before_first holds_algorithm h.front in
          let f1 = after_first holds_algorithm h.front in
          let split = before_whole holds_algorithm h.front d f in
          let c_at = at_is (h.front ++ r0) r1 c x (h.whole ∙ ap (λ (ds : List Located). h.front ++ ds) in_rest ∙ sym (append_assoc h.front r0 (c ∷ r1))) in
          let d_at = at_is f0 (f1 ++ h.rest) d x (h.whole ∙ ap (λ (ds : List Located). ds ++ h.rest) split ∙ append_assoc f0 (d ∷ f1) h.rest) in
          let size = ap length (text_append h.front r0) ∙ length-append (text_of h.front) (text_of r0) in
          let front_size = ap (λ (ds : List Located). length (text_of ds)) split ∙ ap length (text_append f0 (d ∷ f1)) ∙ length-append (text_of f0) (bytes d.is ++ text_of f1) in
          let d_size = length-append (bytes d.is) (text_of f1) in
          let n_d = begun_in h.front d f in
          let marks = comment_size d.is n_d.n (d.at + 2) n_d.first in
          let from = (first_at begins_algorithm (c.at + 2) b.n (within c.is) b.first).at in
          absurd (omega (arith, less, c_at, d_at, size, front_size, d_size, marks, from))

  -- it is after it
  behind : find holds_algorithm h.front ≡ None → (d : Located) → find holds_algorithm h.back ≡ Some d → AlgorithmsFine x w
  behind none d f =
      let b = begun_in h.back d f in
      let r = moved_found put.bytes_here put.bytes_there put.lines_here put.lines_there h.back put.us d put.are_moved f in
      let c = r.0 in
      let z = begun_in put.us c r.1 in
      let here : find holds_algorithm (walk x) ≡ Some d = ap (find holds_algorithm) h.whole ∙ found_back h.front h.rest none ∙ h.found ∙ f in
      let there : find holds_algorithm (walk w) ≡ Some c =
      ap (find holds_algorithm) walked ∙ found_back h.front (new ∷ put.here ∷ put.us) none ∙ skipped new put.here put.us refl (ap within put.is_newline) ∙ r.1 in
      let no_front = none_held h.front none in
      let all : beginnings (walk x) ≡ b.n ∷ b.others = begun_here ∙ (λ i. no_front i ++ b.all i) in
      let mine = first_fine x d b.n b.others fine here b.first all in
      let s = placed_at w c z.n kept.sound there z.first in
      let j = begins_there begins_algorithm (d.at + 2) (c.at + 2) b.n (within d.is) b.first in
      let same_first : z.n ≡ c.at + 2 + j.0 =
      same_Some z.n (c.at + 2 + j.0) (sym z.first ∙ ap (λ (g : Segment). first_of (all_at begins_algorithm (c.at + 2) (within g))) (sym r.2) ∙ j.2) in
      let m = matched x w d c b.n z.n j.0 mine.placed s r.2 j.1 same_first mine.offences in
      let both : Shifted put.bytes_here put.bytes_there (b.n ∷ b.others) (z.n ∷ z.others) = subst (λ (ns : List ℕ). Shifted put.bytes_here put.bytes_there ns (z.n ∷ z.others)) b.all
      (subst (λ (ms : List ℕ). Shifted put.bytes_here put.bytes_there (beginnings h.back) ms) z.all shifted) in
      record {
        old = at_comment x d b.n;
        is_old = algorithm_at_first x d b.n here b.first;
        algorithm = at_comment w c z.n;
        is = algorithm_at_first w c z.n there z.first;
        same = m.same;
        bytes_here = put.bytes_here;
        bytes_there = put.bytes_there;
        lines_here = put.lines_here;
        lines_there = put.lines_there;
        near = near_begun x w d c b.n z.n j.0 put.bytes_here put.bytes_there put.lines_here put.lines_there (length (at_comment x d b.n).opening) here there r.2 r.3 j.1 same_first
            (comment_size d.is b.n (d.at + 2) b.first) m.room;
        n = z.n;
        others = z.others;
        begun = begun_there ∙ (λ i. no_front i ++ z.all i);
        offences = m.offences;
        within_tokens = all_there (in_token (at_comment x d b.n)) (in_token (at_comment w c z.n)) put.bytes_here put.bytes_there b.n z.n both.0 m.tokens b.others z.others both.1 mine.within_tokens;
      }
    where
      skipped : (c d : Located) (es : List Located) → within c.is ≡ [] → within d.is ≡ [] → find holds_algorithm (c ∷ d ∷ es) ≡ find holds_algorithm es
      skipped c d es n m = rw (n, m) refl

  pub algorithms_fine : AlgorithmsFine x w
  algorithms_fine = by (find holds_algorithm h.front) refl (find holds_algorithm h.back) refl
    where
      by : (o : Option Located) → find holds_algorithm h.front ≡ o → (q : Option Located) → find holds_algorithm h.back ≡ q → AlgorithmsFine x w
      by (Some d) o q qq = in_front d o
      by None o (Some d) q = behind o d q
      by None o None q = absurd ((all_fine_in x fine).parts.begun (begun_here ∙ (λ i. none_held h.front o i ++ none_held h.back q i)))
