-- The first END line of a text, sought line by line.
use Rattle.std.proofs.Common.{◌≡◌, ℕ, zero, suc, ◌+◌, ◌<◌, ◌≤◌, ◌&&◌, Bool, true, false, nat_eq, [], ◌∷◌, length, drop, Option, Some, None, refl, sym, ap, subst, ◌∙◌, arith}
use Rattle.std.proofs.lemmas.List.{drop_all}
use Rattle.tla_token.specs.Cut.{plus}
use Rattle.tla_token.proofs.Scans.{drop_more}
use Rattle.tla_token.proofs.Steps.{byte_there}
use Rattle.module_tree.specs.TextFront.{Text, line_here, whole_line}
use Rattle.module_tree.specs.HeaderAndRegion.{is_end}
use Rattle.module_tree.specs.Walk.{at_end_line}
use Rattle.module_split.specs.Walking.{end_at}
use Rattle.module_tree.proofs.WalkLines.{never_some}

plus_plus : (a b : ℕ) (o : Option ℕ) → plus a (plus b o) ≡ plus (a + b) o
plus_plus a b None = refl
plus_plus a b (Some k) = ap Some (omega arith)

-- ---- one byte further

end_here : (b : ℕ) (s : Text) → is_end (b ∷ s) ≡ true → end_at true (b ∷ s) ≡ Some 0
end_here b s k = rw k refl

end_further : (first : Bool) (b : ℕ) (s : Text) → (first && is_end (b ∷ s)) ≡ false → end_at first (b ∷ s) ≡ plus 1 (end_at (nat_eq b 10) s)
end_further first b s k = by (at_end_line (nat_eq b 10) s) refl
  where
    by : (o : Option (Text × Text)) → at_end_line (nat_eq b 10) s ≡ o → end_at first (b ∷ s) ≡ plus 1 (end_at (nat_eq b 10) s)
    by None o = rw (k, o) refl
    by (Some (v, w)) o = rw (k, o) (ap Some (omega arith))

-- ---- one line further

line_further : (t : Text) → end_at false t ≡ plus (length (whole_line t)) (end_at true (drop (length (whole_line t)) t))
line_further [] = refl
line_further (b ∷ s) = by (nat_eq b 10) refl (line_further s)
  where
    by : (k : Bool) → nat_eq b 10 ≡ k → end_at false s ≡ plus (length (whole_line s)) (end_at true (drop (length (whole_line s)) s))
        → end_at false (b ∷ s) ≡ plus (length (whole_line (b ∷ s))) (end_at true (drop (length (whole_line (b ∷ s))) (b ∷ s)))
    by true k deeper =
        let rest : plus 1 (end_at true s) ≡ plus (length (whole_line (b ∷ s))) (end_at true (drop (length (whole_line (b ∷ s))) (b ∷ s))) = rw k refl in
        end_further false b s refl ∙ ap (λ (j : Bool). plus 1 (end_at j s)) k ∙ rest
    by false k deeper =
        let m = length (whole_line s) in
        let rest : plus (suc m) (end_at true (drop m s)) ≡ plus (length (whole_line (b ∷ s))) (end_at true (drop (length (whole_line (b ∷ s))) (b ∷ s))) = rw k refl in
        let e : 1 + m ≡ suc m = omega arith in
        end_further false b s refl
        ∙ ap (λ (j : Bool). plus 1 (end_at j s)) k
        ∙ ap (plus 1) deeper
        ∙ plus_plus 1 m (end_at true (drop m s))
        ∙ ap (λ (n : ℕ). plus n (end_at true (drop m s))) e
        ∙ rest

none_here : (t : Text) → is_end t ≡ false → end_at true t ≡ end_at false t
none_here [] k = refl
none_here (b ∷ s) k = end_further true b s k ∙ sym (end_further false b s refl)

-- ---- steps of the search

pub first_line : (t : Text) (n : ℕ) → n ≡ length (whole_line t) → plus n (end_at true (drop n t)) ≡ end_at false t
first_line t n e = ap (λ (m : ℕ). plus m (end_at true (drop m t))) e ∙ sym (line_further t)

pub next_line : (at n : ℕ) (t : Text) → is_end (drop at t) ≡ false → n ≡ length (whole_line (drop at t)) → plus (at + n) (end_at true (drop (at + n) t)) ≡ plus at (end_at true (drop at t))
next_line at n t k e =
    let there = end_at true (drop n (drop at t)) in
    ap (λ (u : Text). plus (at + n) (end_at true u)) (sym (drop_more at n t))
    ∙ sym (plus_plus at n there)
    ∙ ap (plus at) (first_line (drop at t) n e ∙ sym (none_here (drop at t) k))

pub found_end : (at : ℕ) (t : Text) → at < length t → is_end (drop at t) ≡ true → Some at ≡ plus at (end_at true (drop at t))
found_end at t l k =
    let there = byte_there at t l in
    by (drop at t) k
  where
    by : (u : Text) → is_end u ≡ true → Some at ≡ plus at (end_at true u)
    by [] k = absurd cc
    by (b ∷ s) k = (let z : at ≡ at + 0 = omega arith in ap Some z ∙ ap (plus at) (sym (end_here b s k)))

pub no_end : (at : ℕ) (t : Text) → length t ≤ at → None ≡ plus at (end_at true (drop at t))
no_end at t l = ap (λ (u : Text). plus at (end_at true u)) (sym (drop_all at t l))

-- ---- what is found

-- the END line is found after so many bytes
pub end_is : (first : Bool) (t v w : Text) → at_end_line first t ≡ Some (v, w) → w ≡ line_here (drop (length v) t)
end_is first [] v w e = absurd (never_some (v, w) e)
end_is first (b ∷ s) v w e = by (first && is_end (b ∷ s)) refl (at_end_line (nat_eq b 10) s) refl (end_is (nat_eq b 10) s)
  where
    pairs : {A : Type 0} (x y : A) → Some x ≡ Some y → x ≡ y
    pairs x y e = cc

    over : (m : Text × Text) → m ≡ (v, w) → m.1 ≡ line_here (drop (length m.0) (b ∷ s)) → w ≡ line_here (drop (length v) (b ∷ s))
    over m e a = (let P : Text × Text → Type 0 = λ m. m.1 ≡ line_here (drop (length m.0) (b ∷ s)) in subst P e a)

    by : (k : Bool) → (first && is_end (b ∷ s)) ≡ k → (o : Option (Text × Text)) → at_end_line (nat_eq b 10) s ≡ o
        → ((p q : Text) → at_end_line (nat_eq b 10) s ≡ Some (p, q) → q ≡ line_here (drop (length p) s)) → w ≡ line_here (drop (length v) (b ∷ s))
    by true k o oo deeper =
        let got : at_end_line first (b ∷ s) ≡ Some ([], line_here (b ∷ s)) = rw k refl in
        over ([], line_here (b ∷ s)) (pairs ([], line_here (b ∷ s)) (v, w) (sym got ∙ e)) refl
    by false k None o deeper =
        let got : at_end_line first (b ∷ s) ≡ None = rw (k, o) refl in
        absurd (never_some (v, w) (sym got ∙ e))
    by false k (Some (p, q)) o deeper =
        let got : at_end_line first (b ∷ s) ≡ Some (b ∷ p, q) = rw (k, o) refl in
        over (b ∷ p, q) (pairs (b ∷ p, q) (v, w) (sym got ∙ e)) (deeper p q o)

pub end_parts : (first : Bool) (t : Text) (n : ℕ) → Some n ≡ end_at first t → (v : Text) × (w : Text) × (at_end_line first t ≡ Some (v, w)) × (n ≡ length v)
end_parts first t n e = by (at_end_line first t) refl
  where
    by : (o : Option (Text × Text)) → at_end_line first t ≡ o → (v : Text) × (w : Text) × (at_end_line first t ≡ Some (v, w)) × (n ≡ length v)
    by None o = (let z : Some n ≡ None = rw o at e in absurd cc)
    by (Some (v, w)) o = (let z : Some n ≡ Some (length v) = rw o at e in (v, w, o, cc))

pub end_none : (first : Bool) (t : Text) → None ≡ end_at first t → at_end_line first t ≡ None
end_none first t e = by (at_end_line first t) refl
  where
    by : (o : Option (Text × Text)) → at_end_line first t ≡ o → at_end_line first t ≡ None
    by None o = o
    by (Some (v, w)) o = (let z : None ≡ Some (length v) = rw o at e in absurd cc)

-- ---- where none comes, none comes later

plus_none : (n : ℕ) (o : Option ℕ) → plus n o ≡ None → o ≡ None
plus_none n None e = refl
plus_none n (Some k) e = absurd cc

not_none : (n : ℕ) → Some n ≡ None → ⊥
not_none n e = cc

unlined : (first : Bool) (t : Text) → end_at first t ≡ None → end_at false t ≡ None
unlined first [] e = refl
unlined first (b ∷ s) e = by (first && is_end (b ∷ s)) refl
  where
    by : (k : Bool) → (first && is_end (b ∷ s)) ≡ k → end_at false (b ∷ s) ≡ None
    by true k = (let got : end_at first (b ∷ s) ≡ Some 0 = rw k refl in absurd (not_none 0 (sym got ∙ e)))
    by false k = end_further false b s refl ∙ sym (end_further first b s k) ∙ e

pub none_later : (n : ℕ) (t : Text) → end_at false t ≡ None → end_at false (drop n t) ≡ None
none_later zero t e = e
none_later (suc n) [] e = refl
none_later (suc n) (b ∷ s) e = none_later n s (unlined (nat_eq b 10) s (plus_none 1 (end_at (nat_eq b 10) s) (sym (end_further false b s refl) ∙ e)))
