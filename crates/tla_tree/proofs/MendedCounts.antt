-- Where the tokens of a whole are cut off, and those that complete it: as their open forms are counted.
use Rattle.std.proofs.Common.{◌≡◌, ◌⊎◌, ℕ, ◌+◌, ◌*◌, ◌≤◌, length, length-append, subst, inl, inr, List, [], ◌∷◌, ◌++◌, refl, sym, ap, ◌∙◌, arith}
use Rattle.tla_tree.specs.Lexical.{Token}
use Rattle.tla_tree.specs.Spelling.{Phrase}
use Rattle.tla_tree.specs.Nesting.{counts}
use Rattle.tla_tree.proofs.DeepCounts as cnt
use Rattle.tla_tree.proofs.SpellAhead.{Ahead, then_ahead}

abbrev pub Heads : ℕ → List ℕ → Type 0
Heads n [] = ⊥
Heads n (x ∷ xs) = n ≡ x

-- none, or as many forms are open at the first of them that 16 for each form, and c, are enough, those round the whole counted off
pub record Cut (y : List ℕ → List ℕ) (n c : ℕ) (fix : List Token) : Type 0 where
  pub front : List ℕ → List ℕ
  pub back : List ℕ → List ℕ
  pub is_front : Ahead front
  pub splits : (u : List ℕ) → y u ≡ front (back u)
  pub long : (u : List ℕ) → length (back u) ≡ length fix + length u
  pub enough : ((fix ≡ []) × ((u : List ℕ) → back u ≡ u)) ⊎ ((m : ℕ) × ((u : List ℕ) → Heads m (back u)) × (length fix + 16 * n ≤ 16 * m + c))

abbrev pub Few : {A : Type 0} → (ℕ → A → List ℕ → List ℕ) → ℕ → A → List Token → Type 0
Few y c a fix = (n : ℕ) → Cut (y n a) n c fix

-- the part is cut, and the whole after it is completed
pub cut_inside : {y z : List ℕ → List ℕ} {i j c d : ℕ} (front : List ℕ → List ℕ) → Ahead front → (post : List ℕ → List ℕ) (close : List Token) → ((u : List ℕ) → z u ≡ front (y (post u))) → ((u : List ℕ) → length (post u) ≡ length close + length u)
    → ((close ≡ []) × ((u : List ℕ) → post u ≡ u)) ⊎ ((m : ℕ) × ((u : List ℕ) → Heads m (post u)) × (length close + 16 * j ≤ 16 * m + d)) → length close + c + 16 * j ≤ d + 16 * i → (fix : List Token) → Cut y i c fix → Cut z j d (fix ++ close)
cut_inside {y} {z} {i} {j} {c} {d} front fa post close same long ends less fix k = record {
  front = λ u. front (k.front u);
  back = λ u. k.back (post u);
  is_front = then_ahead fa k.is_front;
  splits = λ u. same u ∙ ap front (k.splits (post u));
  long = λ u. (let a = k.long (post u) in let b = long u in let e = length-append fix close in omega (arith, a, b, e));
  enough = by fix close k.enough ends (length-append fix close) less;
}
  where
    by : (fix close : List Token) → ((fix ≡ []) × ((u : List ℕ) → k.back u ≡ u)) ⊎ ((m : ℕ) × ((u : List ℕ) → Heads m (k.back u)) × (length fix + 16 * i ≤ 16 * m + c))
        → ((close ≡ []) × ((u : List ℕ) → post u ≡ u)) ⊎ ((m : ℕ) × ((u : List ℕ) → Heads m (post u)) × (length close + 16 * j ≤ 16 * m + d)) → length (fix ++ close) ≡ length fix + length close → length close + c + 16 * j ≤ d + 16 * i
        → ((fix ++ close ≡ []) × ((u : List ℕ) → k.back (post u) ≡ u)) ⊎ ((m : ℕ) × ((u : List ℕ) → Heads m (k.back (post u))) × (length (fix ++ close) + 16 * j ≤ 16 * m + d))
    by fix close (inl e) (inl f) n l = inl (rw (e.0, f.0) refl, λ u. e.1 (post u) ∙ f.1 u)
    by fix close (inl e) (inr (m, h, f)) n l = inr (m, λ u. subst (λ (xs : List ℕ). Heads m xs) (sym (e.1 (post u))) (h u), (let z = ap length e.0 in omega (arith, n, z, f)))
    by fix close (inr (m, h, f)) g n l = inr (m, λ u. h (post u), omega (arith, n, f, l))

pub cut_missing : {z : List ℕ → List ℕ} {j d : ℕ} (front : List ℕ → List ℕ) → Ahead front → (back : List ℕ → List ℕ) (fix : List Token) → ((u : List ℕ) → z u ≡ front (back u)) → ((u : List ℕ) → length (back u) ≡ length fix + length u)
    → ((fix ≡ []) × ((u : List ℕ) → back u ≡ u)) ⊎ ((m : ℕ) × ((u : List ℕ) → Heads m (back u)) × (length fix + 16 * j ≤ 16 * m + d)) → Cut z j d fix
cut_missing front fa back fix same long ends = record { front = front; back = back; is_front = fa; splits = same; long = long; enough = ends }

pub uncut : (a : Phrase) → Few counts 1 a []
uncut a n = cut_missing (counts n a) (cnt.ahead_counts n a) (λ u. u) [] (λ u. refl) (λ u. omega arith) (inl (refl, λ u. refl))

-- something is before it
pub cut_front : {y z : List ℕ → List ℕ} {i j c d : ℕ} (front : List ℕ → List ℕ) → Ahead front → ((u : List ℕ) → z u ≡ front (y u)) → c + 16 * j ≤ d + 16 * i → (fix : List Token) → Cut y i c fix → Cut z j d fix
cut_front {y} {z} {i} {j} {c} {d} front fa same less fix k = record {
  front = λ u. front (k.front u);
  back = k.back;
  is_front = then_ahead fa k.is_front;
  splits = λ u. same u ∙ ap front (k.splits u);
  long = k.long;
  enough = by k.enough;
}
  where
    by : ((fix ≡ []) × ((u : List ℕ) → k.back u ≡ u)) ⊎ ((m : ℕ) × ((u : List ℕ) → Heads m (k.back u)) × (length fix + 16 * i ≤ 16 * m + c)) → ((fix ≡ []) × ((u : List ℕ) → k.back u ≡ u)) ⊎ ((m : ℕ) × ((u : List ℕ) → Heads m (k.back u)) × (length fix + 16 * j ≤ 16 * m + d))
    by (inl e) = inl e
    by (inr (m, h, f)) = inr (m, h, omega (arith, f, less))
