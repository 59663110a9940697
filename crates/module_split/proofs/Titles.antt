-- Where the name is in a header line: what is left of a text after its parts is its end.
use Rattle.std.proofs.Common.{◌≡◌, ℕ, ◌+◌, ◌-◌, ◌≤◌, Bool, true, false, nat_eq, [], ◌∷◌, ◌++◌, length, take, drop, Option, Some, None, refl, sym, ap, subst, ◌∙◌, arith, codes, append_assoc, length-append}
use Rattle.std.proofs.Math.Seq.{drop-append_seam}
use Rattle.std.proofs.lemmas.List.{take-append-drop}
use Rattle.std.proofs.lemmas.Option.{same_Some}
use Rattle.tla_token.specs.Lexemes.{is_word}
use Rattle.tla_token.specs.Cut.{run}
use Rattle.tla_token.specs.Tokens.{stretch}
use Rattle.module_tree.specs.TextFront.{Text, begins, is_space, first_is, past_all, on_some, past_word, past_blanks, past_run}
use Rattle.module_tree.proofs.LineLengths.{run_within, run_taken, past_len}

abbrev pub IsLeft : Text → Text → Type 0
IsLeft r t = (front : Text) × (t ≡ front ++ r)

and_left : (t r q : Text) → IsLeft r t → IsLeft q r → IsLeft q t
and_left t r q (f, e) (g, d) = (f ++ g, e ∙ ap (λ (u : Text). f ++ u) d ∙ sym (append_assoc f g q))

all_left : (p : ℕ → Bool) (t : Text) → IsLeft (past_all p t) t
all_left p t = (take (length (run p t)) t, sym (take-append-drop (length (run p t)) t) ∙ ap (λ (u : Text). take (length (run p t)) t ++ u) (past_len p t))

word_left : (w t r : Text) → past_word w t ≡ Some r → IsLeft r t
word_left w t r e = by (begins t w) refl
  where
    by : (k : Bool) → begins t w ≡ k → IsLeft r t
    by true k =
        let f : Some (drop (length w) t) ≡ Some r = rw k at e in
        let d : drop (length w) t ≡ r = same_Some (drop (length w) t) r f in
        (take (length w) t, sym (take-append-drop (length w) t) ∙ ap (λ (u : Text). take (length w) t ++ u) d)
    by false k = (let f : None ≡ Some r = rw k at e in absurd cc)

blanks_left : (p : ℕ → Bool) (t r : Text) → past_blanks p t ≡ Some r → IsLeft r t
blanks_left p t r e = by (first_is p t) refl
  where
    by : (k : Bool) → first_is p t ≡ k → IsLeft r t
    by true k =
        let f : Some (past_all p t) ≡ Some r = rw k at e in
        let d : past_all p t ≡ r = same_Some (past_all p t) r f in
        subst (λ (u : Text). IsLeft u t) d (all_left p t)
    by false k = (let f : None ≡ Some r = rw k at e in absurd cc)

run_left : (b : ℕ) (t r : Text) → past_run b t ≡ Some r → IsLeft r t
run_left b t r e = by (past_word (b ∷ b ∷ b ∷ b ∷ []) t) refl
  where
    by : (o : Option Text) → past_word (b ∷ b ∷ b ∷ b ∷ []) t ≡ o → IsLeft r t
    by (Some q) o =
        let f : Some (past_all (nat_eq b) q) ≡ Some r = sym (ap (λ (o : Option Text). on_some o (λ r. Some (past_all (nat_eq b) r))) o) ∙ e in
        let d : past_all (nat_eq b) q ≡ r = same_Some (past_all (nat_eq b) q) r f in
        and_left t q r (word_left (b ∷ b ∷ b ∷ b ∷ []) t q o) (subst (λ (u : Text). IsLeft u q) d (all_left (nat_eq b) q))
    by None o = (let f : None ≡ Some r = sym (ap (λ (o : Option Text). on_some o (λ r. Some (past_all (nat_eq b) r))) o) ∙ e in absurd cc)

pub name_left : (t a b n : Text) → past_run 45 (past_all is_space t) ≡ Some a → past_word (codes "MODULE") (past_all is_space a) ≡ Some b → past_blanks is_space b ≡ Some n → IsLeft n t
name_left t a b n e f g =
    let x = and_left t (past_all is_space t) a (all_left is_space t) (run_left 45 (past_all is_space t) a e) in
    let y = and_left a (past_all is_space a) b (all_left is_space a) (word_left (codes "MODULE") (past_all is_space a) b f) in
    and_left t b n (and_left t a b x y) (blanks_left is_space b n g)

pub name_span : (t n : Text) (w : ℕ) → IsLeft n t → w ≡ length (run is_word n) → stretch t (length t - length n) (length t - length n + w) ≡ run is_word n
name_span t n w (f, e) h =
    let size : length t - length n ≡ length f = omega (arith, ap length e, length-append f n) in
    let less : length f + w - length f ≡ w = omega arith in
    let rest : drop (length f) t ≡ n = ap (drop (length f)) e ∙ drop-append_seam f n in
    ap (λ (k : ℕ). stretch t k (k + w)) size ∙ (λ i. take (less i) (rest i)) ∙ run_taken is_word n w h

pub name_within : (t n : Text) (w : ℕ) → IsLeft n t → w ≡ length (run is_word n) → length t - length n + w ≤ length t
name_within t n w (f, e) h = (let r = run_within is_word n in omega (arith, ap length e, length-append f n))

pub left_within : (t n : Text) → IsLeft n t → length n ≤ length t
left_within t n (f, e) = omega (arith, ap length e, length-append f n)
