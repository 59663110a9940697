-- Reserved words are looked for among those that begin with the first byte.
use Rattle.std.proofs.Common.{◌≡◌, ℕ, Bool, true, false, nat_eq, get_or, map, List, [], ◌∷◌, Option, Some, None, find, refl, sym, ap, ◌∙◌}
use Rattle.std.specs.Prelude.{is_some, ◌||◌}
use Rattle.std.specs.List.{filter, list_any}
use Rattle.std.specs.Str.{bytes_eq}
use Rattle.std.proofs.lemmas.Bool.{both_ways}
use Rattle.tla_token.specs.declared.word.PluscalWord.{PluscalWord}
use Rattle.tla_token.specs.declared.word.TlaWord.{TlaWord}
use Rattle.tla_token.specs.Signs.{is_among}
use Rattle.tla_token.specs.Words.{pluscal_words, tla_words, is_pluscal_word, is_tla_word, begins_fairness}
use Rattle.tla_token.specs.ReservedWords.{pluscal_spelling, tla_spelling, all_pluscal_words, all_tla_words, pluscal_word_of, tla_word_of}
use Rattle.tla_token.specs.Offences.{begins_with}
use Rattle.tla_token.proofs.Spelled.{begins_from, same_bytes}
use Rattle.tla_token.proofs.FirstBytes.{find_among}

spelled_begins : {A : Type 0} (f : A → List ℕ) (b : ℕ) (v : List ℕ) (a : A) → bytes_eq (f a) (b ∷ v) ≡ true → begins_with b (f a) ≡ true
spelled_begins f b v a e = ap (begins_with b) (same_bytes (f a) (b ∷ v) e) ∙ begins_from (b ∷ v) (b ∷ []) v refl

pub pluscal_from : (w : List ℕ) → find (λ r. bytes_eq (pluscal_spelling r) w) (filter (λ r. begins_with (get_or w 0 0) (pluscal_spelling r)) all_pluscal_words) ≡ pluscal_word_of w
pluscal_from [] = refl
pluscal_from (b ∷ v) = find_among (λ r. bytes_eq (pluscal_spelling r) (b ∷ v)) (λ r. begins_with b (pluscal_spelling r)) all_pluscal_words (spelled_begins pluscal_spelling b v)

pub tla_from : (w : List ℕ) → find (λ r. bytes_eq (tla_spelling r) w) (filter (λ r. begins_with (get_or w 0 0) (tla_spelling r)) all_tla_words) ≡ tla_word_of w
tla_from [] = refl
tla_from (b ∷ v) = find_among (λ r. bytes_eq (tla_spelling r) (b ∷ v)) (λ r. begins_with b (tla_spelling r)) all_tla_words (spelled_begins tla_spelling b v)

-- one of them is found just where the word is among their spellings
found_among : {A : Type 0} (f : A → List ℕ) (w : List ℕ) (xs : List A) → is_some (find (λ r. bytes_eq (f r) w) xs) ≡ is_among (map f xs) w
found_among f w [] = refl
found_among f w (x ∷ xs) = by (bytes_eq (f x) w) refl (found_among f w xs)
  where
    by : (k : Bool) → bytes_eq (f x) w ≡ k → is_some (find (λ r. bytes_eq (f r) w) xs) ≡ is_among (map f xs) w → is_some (find (λ r. bytes_eq (f r) w) (x ∷ xs)) ≡ is_among (map f (x ∷ xs)) w
    by true e h = rw e refl
    by false e h = rw e h

pub pluscal_found : (w : List ℕ) → is_some (pluscal_word_of w) ≡ is_pluscal_word w
pluscal_found w = found_among pluscal_spelling w all_pluscal_words

pub tla_among : (w : List ℕ) → is_some (tla_word_of w) ≡ is_among tla_words w
tla_among w = found_among tla_spelling w all_tla_words

-- what is found is spelled so
found_spelled : {A : Type 0} (f : A → List ℕ) (w : List ℕ) (xs : List A) (a : A) → find (λ r. bytes_eq (f r) w) xs ≡ Some a → bytes_eq (f a) w ≡ true
found_spelled f w [] a h = absurd cc
found_spelled f w (x ∷ xs) a h = by (bytes_eq (f x) w) refl (found_spelled f w xs a)
  where
    by : (k : Bool) → bytes_eq (f x) w ≡ k → (find (λ r. bytes_eq (f r) w) xs ≡ Some a → bytes_eq (f a) w ≡ true) → bytes_eq (f a) w ≡ true
    by true e deeper = (let g : Some x ≡ Some a = rw e at h in let same : x ≡ a = cc in ap (λ r. bytes_eq (f r) w) (sym same) ∙ e)
    by false e deeper = deeper (rw e at h)

pub pluscal_is : (w : List ℕ) (r : PluscalWord) → pluscal_word_of w ≡ Some r → bytes_eq (pluscal_spelling r) w ≡ true
pluscal_is w r h = found_spelled pluscal_spelling w all_pluscal_words r h

pub tla_is : (w : List ℕ) (r : TlaWord) → tla_word_of w ≡ Some r → bytes_eq (tla_spelling r) w ≡ true
tla_is w r h = found_spelled tla_spelling w all_tla_words r h

-- by one test after the other
pub tla_yes : (w : List ℕ) → is_some (tla_word_of w) ≡ true → true ≡ is_tla_word w
tla_yes w h = ap (λ (k : Bool). k || begins_fairness w) (sym h ∙ tla_among w)

pub tla_no : (w : List ℕ) (k : Bool) → is_some (tla_word_of w) ≡ false → k ≡ begins_fairness w → k ≡ is_tla_word w
tla_no w k h f = f ∙ ap (λ (k : Bool). k || begins_fairness w) (sym h ∙ tla_among w)
