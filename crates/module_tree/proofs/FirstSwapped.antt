-- Where another algorithm is in a comment, the first beginning is where it was.
use Rattle.std.proofs.Common.{◌≡◌, ℕ, suc, ◌+◌, Bool, true, false, nat_eq, [], ◌∷◌, ◌++◌, length, drop, Option, Some, None, refl, sym, ap, ◌∙◌, codes, arith}
use Rattle.std.specs.Prelude.{if◌then◌else◌, is_some}
use Rattle.std.specs.List.{list_any}
use Rattle.std.proofs.lemmas.Option.{none-some, same_Some}
use Rattle.tla_token.specs.Lexemes.{is_blank, is_word, is_letter}
use Rattle.tla_token.specs.Cut.{run}
use Rattle.module_tree.specs.TextFront.{Text, begins, on_some, past_all, past_word, past_blanks, past_name}
use Rattle.module_tree.specs.Beginnings.{is_fair, past_opening, begins_algorithm, all_at}
use Rattle.module_tree.specs.FileParts.{first_of}
use Rattle.tla_token.proofs.Words.{run_over}
use Rattle.tla_token.proofs.Spelled.{begins_is}
use Rattle.module_tree.proofs.AlgorithmFound.{past_all_more, opened}
use Rattle.module_tree.proofs.OptionsKept.{IsMore, some_step, word_more, blanks_more}
use Rattle.module_tree.proofs.EdgeAlike.{lacks, Alike, Both, past_word_alike, past_all_alike, past_blanks_alike, past_name_alike, on_both, both_at, some_alike}

abbrev dashed : Text → Text
dashed p = 45 ∷ 45 ∷ p

-- ---- words that begin with two dashes

past_word_cons : (d b : ℕ) (w z : Text) → past_word (d ∷ w) (b ∷ z) ≡ (if nat_eq d b then past_word w z else None)
past_word_cons d b w z = by (nat_eq d b) refl
  where
    by : (k : Bool) → nat_eq d b ≡ k → past_word (d ∷ w) (b ∷ z) ≡ (if k then past_word w z else None)
    by true k = rw k refl
    by false k = rw k refl

word_dashed : (b : ℕ) (f p q : Text) (c : ℕ) (v : Text) → nat_eq c 45 ≡ false → lacks 45 (c ∷ v) ≡ true
    → Both 45 (45 ∷ p) (45 ∷ q) (past_word (45 ∷ 45 ∷ c ∷ v) (b ∷ (f ++ dashed p))) (past_word (45 ∷ 45 ∷ c ∷ v) (b ∷ (f ++ dashed q)))
word_dashed b f p q c v n h = rw (past_word_cons 45 b (45 ∷ c ∷ v) (f ++ dashed p), past_word_cons 45 b (45 ∷ c ∷ v) (f ++ dashed q)) (by (nat_eq 45 b) f)
  where
    by : (k : Bool) (f : Text) → Both 45 (45 ∷ p) (45 ∷ q) (if k then past_word (45 ∷ c ∷ v) (f ++ dashed p) else None) (if k then past_word (45 ∷ c ∷ v) (f ++ dashed q) else None)
    by false f = tt
    by true [] = rw n tt
    by true (e ∷ f) = rw (past_word_cons 45 e (c ∷ v) (f ++ dashed p), past_word_cons 45 e (c ∷ v) (f ++ dashed q)) (on (nat_eq 45 e))
      where
        on : (k : Bool) → Both 45 (45 ∷ p) (45 ∷ q) (if k then past_word (c ∷ v) (f ++ dashed p) else None) (if k then past_word (c ∷ v) (f ++ dashed q) else None)
        on false = tt
        on true = past_word_alike 45 (45 ∷ p) (45 ∷ q) f (c ∷ v) h

-- ---- what begins before two dashes begins there whatever is after them

module _ (b : ℕ) (f p q : Text) where
  abbrev x : Text
  x = b ∷ (f ++ dashed p)

  abbrev y : Text
  y = b ∷ (f ++ dashed q)

  fair_both : Both 45 (45 ∷ p) (45 ∷ q) (past_word (codes "--fair") x) (past_word (codes "--fair") y)
  fair_both = word_dashed b f p q 102 (codes "air") refl refl

  algorithm_both : Both 45 (45 ∷ p) (45 ∷ q) (past_word (codes "--algorithm") x) (past_word (codes "--algorithm") y)
  algorithm_both = word_dashed b f p q 97 (codes "lgorithm") refl refl

  abbrev word_after : Text → Option Text
  word_after r = past_word (codes "algorithm") r

  abbrev blanks_then : Text → Option Text
  blanks_then r = on_some (past_blanks is_blank r) word_after

  word_both : (l : Text) → Both 45 (45 ∷ p) (45 ∷ q) (word_after (l ++ 45 ∷ 45 ∷ p)) (word_after (l ++ 45 ∷ 45 ∷ q))
  word_both l = past_word_alike 45 (45 ∷ p) (45 ∷ q) l (codes "algorithm") refl

  fair_same : is_fair x ≡ is_fair y
  fair_same =
      some_alike 45 (45 ∷ p) (45 ∷ q) (on_some (past_word (codes "--fair") x) blanks_then) (on_some (past_word (codes "--fair") y) blanks_then)
      (on_both 45 (45 ∷ p) (45 ∷ q) (past_word (codes "--fair") x) (past_word (codes "--fair") y) fair_both blanks_then blanks_then
      (λ l. on_both 45 (45 ∷ p) (45 ∷ q) (past_blanks is_blank (l ++ 45 ∷ 45 ∷ p)) (past_blanks is_blank (l ++ 45 ∷ 45 ∷ q)) (past_blanks_alike 45 is_blank refl (45 ∷ p) (45 ∷ q) l) word_after word_after word_both))

  -- after the first of them
  dropped : is_fair x ≡ true → Alike 45 (45 ∷ p) (45 ∷ q) (drop 6 x) (drop 6 y)
  dropped h = by (begins x (codes "--fair")) refl (begins y (codes "--fair")) refl fair_both
    where
      by : (k : Bool) → begins x (codes "--fair") ≡ k → (j : Bool) → begins y (codes "--fair") ≡ j → Both 45 (45 ∷ p) (45 ∷ q) (if k then Some (drop 6 x) else None) (if j then Some (drop 6 y) else None)
          → Alike 45 (45 ∷ p) (45 ∷ q) (drop 6 x) (drop 6 y)
      by true k true j both = both
      by true k false j both = absurd both
      by false k j jj both = (let g : false ≡ true = rw k at h in absurd cc)

  opening_both : Both 45 (45 ∷ p) (45 ∷ q) (past_opening x) (past_opening y)
  opening_both = by (is_fair x) refl
    where
      by : (k : Bool) → is_fair x ≡ k → Both 45 (45 ∷ p) (45 ∷ q) (past_opening x) (past_opening y)
      by true k =
          let there : is_fair y ≡ true = sym fair_same ∙ k in
          rw (k, there) (both_at 45 (45 ∷ p) (45 ∷ q) (drop 6 x) (drop 6 y) (dropped k) (λ r. past_word (codes "algorithm") (past_all is_blank r)) (λ r. past_word (codes "algorithm") (past_all is_blank r))
          (λ l. both_at 45 (45 ∷ p) (45 ∷ q) (past_all is_blank (l ++ 45 ∷ 45 ∷ p)) (past_all is_blank (l ++ 45 ∷ 45 ∷ q)) (past_all_alike 45 is_blank refl (45 ∷ p) (45 ∷ q) l) word_after word_after word_both))
      by false k =
          let there : is_fair y ≡ false = sym fair_same ∙ k in
          rw (k, there) algorithm_both

  abbrev name_then : Text → Option Text
  name_then r = on_some (past_blanks is_blank r) past_name

  pub begins_same : begins_algorithm x ≡ begins_algorithm y
  begins_same =
      some_alike 45 (45 ∷ p) (45 ∷ q) (on_some (past_opening x) name_then) (on_some (past_opening y) name_then)
      (on_both 45 (45 ∷ p) (45 ∷ q) (past_opening x) (past_opening y) opening_both name_then name_then
      (λ l. on_both 45 (45 ∷ p) (45 ∷ q) (past_blanks is_blank (l ++ 45 ∷ 45 ∷ p)) (past_blanks is_blank (l ++ 45 ∷ 45 ∷ q)) (past_blanks_alike 45 is_blank refl (45 ∷ p) (45 ∷ q) l) past_name past_name
      (past_name_alike 45 refl (45 ∷ p) (45 ∷ q))))

-- ---- the first beginning

pub first_swapped : (f p q : Text) (k : ℕ) → first_of (all_at begins_algorithm k (f ++ dashed p)) ≡ Some (k + length f) → begins_algorithm (dashed q) ≡ true
    → first_of (all_at begins_algorithm k (f ++ dashed q)) ≡ Some (k + length f)
first_swapped [] p q k e h = rw h (ap Some (none k))
  where
    none : (k : ℕ) → k ≡ k + 0
    none k = omega arith
first_swapped (b ∷ f) p q k e h = by (begins_algorithm (b ∷ (f ++ dashed p))) refl (first_swapped f p q (suc k))
  where
    further : (k l : ℕ) → suc k + l ≡ k + suc l
    further k l = omega arith

    later : (k l : ℕ) → k ≡ k + suc l → ⊥
    later k l e = omega (arith, e)

    by : (t : Bool) → begins_algorithm (b ∷ (f ++ dashed p)) ≡ t
        → (first_of (all_at begins_algorithm (suc k) (f ++ dashed p)) ≡ Some (suc k + length f) → begins_algorithm (dashed q) ≡ true → first_of (all_at begins_algorithm (suc k) (f ++ dashed q)) ≡ Some (suc k + length f))
        → first_of (all_at begins_algorithm k (b ∷ (f ++ dashed q))) ≡ Some (k + suc (length f))
    by true t deeper = (let g : Some k ≡ Some (k + suc (length f)) = rw t at e in absurd (later k (length f) (same_Some k (k + suc (length f)) g)))
    by false t deeper =
        let g : first_of (all_at begins_algorithm (suc k) (f ++ dashed p)) ≡ Some (k + suc (length f)) = rw t at e in
        let there : begins_algorithm (b ∷ (f ++ dashed q)) ≡ false = sym (begins_same b f p q) ∙ t in
        let found = deeper (g ∙ ap Some (sym (further k (length f)))) h in
        rw there (found ∙ ap Some (further k (length f)))

-- ---- what begins an algorithm does so before more

run_letters : (m r : Text) → list_any is_letter (run is_word m) ≡ true → list_any is_letter (run is_word (m ++ r)) ≡ true
run_letters [] r h = absurd cc
run_letters (b ∷ m) r h = by (is_word b) refl (run_letters m r)
  where
    over : (m : Text) → is_word b ≡ true → run is_word (b ∷ m) ≡ b ∷ run is_word m
    over m k = run_over is_word (b ∷ []) m (rw k refl)

    by : (k : Bool) → is_word b ≡ k → (list_any is_letter (run is_word m) ≡ true → list_any is_letter (run is_word (m ++ r)) ≡ true) → list_any is_letter (run is_word (b ∷ (m ++ r))) ≡ true
    by false k deeper = (let g : false ≡ true = rw k at h in absurd cc)
    by true k deeper = ap (list_any is_letter) (over (m ++ r) k) ∙ on (is_letter b) refl
      where
        here : list_any is_letter (b ∷ run is_word m) ≡ true
        here = ap (list_any is_letter) (sym (over m k)) ∙ h

        on : (l : Bool) → is_letter b ≡ l → list_any is_letter (b ∷ run is_word (m ++ r)) ≡ true
        on true l = rw l refl
        on false l = (let g : list_any is_letter (run is_word m) ≡ true = rw l at here in rw l (deeper g))

name_more : (m r : Text) → is_some (past_name m) ≡ true → is_some (past_name (m ++ r)) ≡ true
name_more m r h = by (list_any is_letter (run is_word m)) refl
  where
    by : (k : Bool) → list_any is_letter (run is_word m) ≡ k → is_some (past_name (m ++ r)) ≡ true
    by true k = (let there = run_letters m r k in rw there refl)
    by false k = (let g : false ≡ true = rw k at h in absurd cc)

some_name : (m : Text) → is_some (past_name m) ≡ true → IsMore m
some_name [] h = absurd cc
some_name (b ∷ m) h = (b, m, refl)

opening_more : (s r m : Text) → is_fair (s ++ r) ≡ is_fair s → past_opening s ≡ Some m → past_opening (s ++ r) ≡ Some (m ++ r)
opening_more s r m same e = by (is_fair s) refl
  where
    begun : is_fair s ≡ true → s ≡ codes "--fair" ++ drop 6 s
    begun k = on (begins s (codes "--fair")) refl
      where
        on : (t : Bool) → begins s (codes "--fair") ≡ t → s ≡ codes "--fair" ++ drop 6 s
        on true t = begins_is s (codes "--fair") t
        on false t = (let f : false ≡ true = rw t at k in absurd cc)

    blank_more : (v : Text) → past_word (codes "algorithm") (past_all is_blank v) ≡ Some m → past_word (codes "algorithm") (past_all is_blank (v ++ r)) ≡ Some (m ++ r)
    blank_more v f = on (past_all is_blank v) refl f
      where
        on : (z : Text) → past_all is_blank v ≡ z → past_word (codes "algorithm") z ≡ Some m → past_word (codes "algorithm") (past_all is_blank (v ++ r)) ≡ Some (m ++ r)
        on [] d f = absurd (none-some m f)
        on (c ∷ z) d f = ap (past_word (codes "algorithm")) (past_all_more is_blank v r c z d) ∙ word_more (codes "algorithm") (c ∷ z) r m f

    by : (k : Bool) → is_fair s ≡ k → past_opening (s ++ r) ≡ Some (m ++ r)
    by true k =
        let f : past_word (codes "algorithm") (past_all is_blank (drop 6 s)) ≡ Some m = rw k at e in
        let there : is_fair (s ++ r) ≡ true = same ∙ k in
        let dropped_more : drop 6 (s ++ r) ≡ drop 6 s ++ r = ap (λ (v : Text). drop 6 (v ++ r)) (begun k) in
        rw there (ap (λ (v : Text). past_word (codes "algorithm") (past_all is_blank v)) dropped_more ∙ blank_more (drop 6 s) f)
    by false k =
        let f : past_word (codes "--algorithm") s ≡ Some m = rw k at e in
        let there : is_fair (s ++ r) ≡ false = same ∙ k in
        rw there (word_more (codes "--algorithm") s r m f)

pub begins_more : (s r : Text) → begins_algorithm s ≡ true → begins_algorithm (s ++ r) ≡ true
begins_more s r h =
    let o = opened s h in
    let a = some_step (past_opening s) (λ r. on_some (past_blanks is_blank r) past_name) h in
    let b = some_step (past_blanks is_blank a.0) past_name a.2 in
    ap (λ (o : Option Text). is_some (on_some o (λ r. on_some (past_blanks is_blank r) past_name))) (opening_more s r a.0 (o.more r) a.1)
    ∙ ap (λ (o : Option Text). is_some (on_some o past_name)) (blanks_more a.0 r b.0 (some_name b.0 b.2) b.1)
    ∙ name_more b.0 r b.2
