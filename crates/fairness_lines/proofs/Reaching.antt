-- How far a work list has come: what the numbers that were looked at lead to is marked.
use Rattle.std.proofs.Common.{◌≡◌, ℕ, zero, suc, ◌+◌, ◌<◌, ◌≤◌, inl, inr, ◌⊎◌, Bool, true, false, List, [], ◌∷◌, length, get_or, set, replicate, map, Vec, Global, refl, sym, ap, ◌∙◌, subst, true≢false, arith}
use Rattle.tla_tree.proofs.PoolNumbers.{AllBelow-at}
use Rattle.pcal_tree.specs.Processes.{OneOf}
use Rattle.fairness_lines.specs.WorkLists.{Found, put_all, IsClosedUnder, IsLeastOf}
use Rattle.fairness_lines.proofs.WorkLaws.{IsSound, all_sound, none_sound, all_grow, all_front, all_there, all_only, either_below}

pub record Reaching (leads : List (List ℕ)) (start : List ℕ) (f : Found) (at : ℕ) : Type 0 where
  pub sound : IsSound (length leads) f
  pub starts : (x : ℕ) → OneOf x start → x < length leads → get_or f.marks x false ≡ true
  pub done : (k x : ℕ) → k < at → OneOf x (get_or leads (get_or f.work k 0) []) → x < length leads → get_or f.marks x false ≡ true
  pub least : (S : ℕ → Bool) → IsClosedUnder leads start S → (i : ℕ) → get_or f.marks i false ≡ true → S i ≡ true

abbrev pub none : ℕ → Found
none n = record { marks = replicate n false; work = [] }

no_mark : (n i : ℕ) → get_or (replicate n false) i false ≡ false
no_mark zero i = refl
no_mark (suc n) zero = refl
no_mark (suc n) (suc i) = no_mark n i

pub begins : (leads : List (List ℕ)) (start : List ℕ) → Reaching leads start (put_all (none (length leads)) start) 0
begins leads start =
    let empty = none_sound (length leads) in
    record {
      sound = all_sound (length leads) (none (length leads)) start empty;
      starts = λ x h l. all_there (none (length leads)) start x h (omega (arith, l, empty.long));
      done = λ k x l h m. absurd (let no : ⊥ = omega (arith, l) in no);
      least = λ S c.
          all_only S (none (length leads)) start (λ i h. absurd (true≢false (sym h ∙ no_mark (length leads) i))) (λ x h l. c.starts x h (omega (arith, l, empty.long)));
    }

pub goes : (leads : List (List ℕ)) (start : List ℕ) (f : Found) (at : ℕ) → Reaching leads start f at → at < length f.work
    → Reaching leads start (put_all f (get_or leads (get_or f.work at 0) [])) (at + 1)
goes leads start f at h less = record {
  sound = all_sound (length leads) f these h.sound;
  starts = λ x q l. all_grow f these x (h.starts x q l);
  done = λ k x l q m. by k (either_below k at l) x m
      (subst (λ (j : ℕ). OneOf x (get_or leads j [])) (all_front f these k (omega (arith, l, less))) q);
  least = λ S c. all_only S f these (h.least S c) (λ x q l. c.goes_on this x (AllBelow-at (length leads) f.work at 0 h.sound.below less) (h.least S c this (h.sound.marked at less)) q (omega (arith, l, h.sound.long)));
}
  where
    this : ℕ
    this = get_or f.work at 0

    these : List ℕ
    these = get_or leads this []

    by : (k : ℕ) → (k ≡ at) ⊎ (k < at) → (x : ℕ) → x < length leads → OneOf x (get_or leads (get_or f.work k 0) []) → get_or (put_all f these).marks x false ≡ true
    by k (inl e) x m q = all_there f these x (subst (λ (j : ℕ). OneOf x (get_or leads (get_or f.work j 0) [])) e q) (omega (arith, m, h.sound.long))
    by k (inr l) x m q = all_grow f these x (h.done k x l q m)

pub ends : (leads : List (List ℕ)) (start : List ℕ) (f : Found) (at : ℕ) → Reaching leads start f at → length f.work ≤ at → IsLeastOf leads start f.marks
ends leads start f at h all = record {
  long = h.sound.long;
  closed = record {
    starts = h.starts;
    goes_on = λ i x l e q m. by i (h.sound.listed i e) x m q;
  };
  least = h.least;
}
  where
    by : (i : ℕ) → ((k : ℕ) × (k < length f.work) × (get_or f.work k 0 ≡ i)) → (x : ℕ) → x < length leads → OneOf x (get_or leads i []) → get_or f.marks x false ≡ true
    by i t x m q = h.done t.0 x (omega (arith, t.1, all)) (subst (λ (j : ℕ). OneOf x (get_or leads j [])) (sym t.2) q) m

-- ---- lists of lists in memory

abbrev pub lists : List (Vec ℕ Global) → List (List ℕ)
lists vs = map (λ (v : Vec ℕ Global). v.items) vs

pub list_at : (vs : List (Vec ℕ Global)) (i : ℕ) (v : Vec ℕ Global) → v ≡ get_or vs i v → i < length vs → get_or (lists vs) i [] ≡ v.items
list_at [] i v is less = absurd (let no : ⊥ = omega (arith, less) in no)
list_at (w ∷ ws) zero v is less = ap (λ (y : Vec ℕ Global). y.items) (sym is)
list_at (w ∷ ws) (suc i) v is less = list_at ws i v is (omega (arith, less))

pub lists_long : (vs : List (Vec ℕ Global)) → length (lists vs) ≡ length vs
lists_long [] = refl
lists_long (v ∷ vs) = ap suc (lists_long vs)

pub lists_set : (vs : List (Vec ℕ Global)) (n : ℕ) (v : Vec ℕ Global) → lists (set vs n v) ≡ set (lists vs) n v.items
lists_set [] n v = refl
lists_set (w ∷ ws) zero v = refl
lists_set (w ∷ ws) (suc n) v = ap (λ (xs : List (List ℕ)). w.items ∷ xs) (lists_set ws n v)
