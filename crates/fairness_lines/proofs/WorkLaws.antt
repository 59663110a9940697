-- A work list finds the numbers of the least closed set: each that is marked is listed, and each that is listed is looked at once.
use Rattle.std.proofs.Common.{◌≡◌, inl, inr, ◌⊎◌, ℕ, zero, suc, ◌+◌, ◌<◌, ◌≤◌, Bool, true, false, cond, List, [], ◌∷◌, ◌++◌, length, get_or, set, replicate, refl, sym, ap, ◌∙◌, subst, true≢false, get_or-set_same, length-append, length-set, arith}
use Rattle.std.specs.List.{sum_by}
use Rattle.std.proofs.lemmas.List.Sums.{sum_by-set}
use Rattle.std.proofs.lemmas.List.Folds.{sum_by-replicate}
use Rattle.std.proofs.lemmas.List.{length-replicate}
use Rattle.tla_tree.specs.Pool.{AllBelow}
use Rattle.tla_tree.proofs.PoolNumbers.{AllBelow-push}
use Rattle.pcal_tree.specs.Processes.{OneOf}
use Rattle.fairness_lines.specs.WorkLists.{Found, put, put_all}

-- ---- one number more

-- a number that has no mark, or is past them
here_or_past : (ms : List Bool) (n : ℕ) → get_or ms n true ≡ false → n < length ms
here_or_past [] n h = absurd (true≢false h)
here_or_past (m ∷ ms) zero h = omega arith
here_or_past (m ∷ ms) (suc n) h = omega (arith, here_or_past ms n h)

default_either : (ms : List Bool) (n : ℕ) (d e : Bool) → n < length ms → get_or ms n d ≡ get_or ms n e
default_either [] n d e h = absurd (let no : ⊥ = omega (arith, h) in no)
default_either (m ∷ ms) zero d e h = refl
default_either (m ∷ ms) (suc n) d e h = default_either ms n d e (omega (arith, h))

marked_within : (ms : List Bool) (n : ℕ) → get_or ms n false ≡ true → n < length ms
marked_within [] n h = absurd (true≢false (sym h))
marked_within (m ∷ ms) zero h = omega arith
marked_within (m ∷ ms) (suc n) h = omega (arith, marked_within ms n h)

set_marked : (ms : List Bool) (n i : ℕ) → n < length ms → get_or (set ms n true) i false ≡ true → (i ≡ n) ⊎ (get_or ms i false ≡ true)
set_marked [] n i h e = absurd (let no : ⊥ = omega (arith, h) in no)
set_marked (m ∷ ms) zero zero h e = inl refl
set_marked (m ∷ ms) zero (suc i) h e = inr e
set_marked (m ∷ ms) (suc n) zero h e = inr e
set_marked (m ∷ ms) (suc n) (suc i) h e = by (set_marked ms n i (omega (arith, h)) e)
  where
    by : (i ≡ n) ⊎ (get_or ms i false ≡ true) → (suc i ≡ suc n) ⊎ (get_or ms i false ≡ true)
    by (inl q) = inl (ap suc q)
    by (inr q) = inr q

keeps_marked : (ms : List Bool) (n i : ℕ) → get_or ms i false ≡ true → get_or (set ms n true) i false ≡ true
keeps_marked [] n i e = e
keeps_marked (m ∷ ms) zero zero e = refl
keeps_marked (m ∷ ms) zero (suc i) e = e
keeps_marked (m ∷ ms) (suc n) zero e = e
keeps_marked (m ∷ ms) (suc n) (suc i) e = keeps_marked ms n i e

front : (xs ys : List ℕ) (k : ℕ) → k < length xs → get_or (xs ++ ys) k 0 ≡ get_or xs k 0
front [] ys k h = absurd (let no : ⊥ = omega (arith, h) in no)
front (x ∷ xs) ys zero h = refl
front (x ∷ xs) ys (suc k) h = front xs ys k (omega (arith, h))

pub either_below : (k n : ℕ) → k < n + 1 → (k ≡ n) ⊎ (k < n)
either_below zero zero h = inl refl
either_below zero (suc n) h = inr (omega arith)
either_below (suc k) zero h = absurd (let no : ⊥ = omega (arith, h) in no)
either_below (suc k) (suc n) h = by (either_below k n (omega (arith, h)))
  where
    by : (k ≡ n) ⊎ (k < n) → (suc k ≡ suc n) ⊎ (suc k < suc n)
    by (inl e) = inl (ap suc e)
    by (inr l) = inr (omega (arith, l))

last : (xs : List ℕ) (y : ℕ) → get_or (xs ++ y ∷ []) (length xs) 0 ≡ y
last [] y = refl
last (x ∷ xs) y = last xs y

-- what holds of all that puts may make
module _ (Q : Found → Type 0) (each : (f : Found) (n : ℕ) → get_or f.marks n true ≡ false → Q f → Q (record { marks = set f.marks n true; work = f.work ++ n ∷ [] })) where
  put_keeps : (f : Found) (n : ℕ) → Q f → Q (put f n)
  put_keeps f n h = by (get_or f.marks n true) refl
    where
      by : (b : Bool) → get_or f.marks n true ≡ b → Q (cond b f (record { marks = set f.marks n true; work = f.work ++ n ∷ [] }))
      by true e = h
      by false e = each f n e h

  put_all_keeps : (f : Found) (ns : List ℕ) → Q f → Q (put_all f ns)
  put_all_keeps f [] h = h
  put_all_keeps f (n ∷ ns) h = put_all_keeps (put f n) ns (put_keeps f n h)

-- ---- what is kept

abbrev one_unless : Bool → ℕ
one_unless true = 0
one_unless false = 1

abbrev pub unmarked : List Bool → ℕ
unmarked ms = sum_by one_unless ms

pub record IsSound (m : ℕ) (f : Found) : Type 0 where
  pub long : length f.marks ≡ m
  pub count : unmarked f.marks + length f.work ≡ m
  pub below : AllBelow m f.work
  pub listed : (i : ℕ) → get_or f.marks i false ≡ true → (k : ℕ) × (k < length f.work) × (get_or f.work k 0 ≡ i)
  pub marked : (k : ℕ) → k < length f.work → get_or f.marks (get_or f.work k 0) false ≡ true

put_sound : (m : ℕ) (f : Found) (n : ℕ) → get_or f.marks n true ≡ false → IsSound m f → IsSound m (record { marks = set f.marks n true; work = f.work ++ n ∷ [] })
put_sound m f n e h = record {
  long = length-set f.marks n true ∙ h.long;
  count =
      (let was : get_or f.marks n false ≡ false = default_either f.marks n false true less ∙ e in
      let one = ap one_unless was in
      omega (arith, sum_by-set one_unless f.marks n true false less, one, length-append f.work (n ∷ []), h.count));
  below = AllBelow-push m f.work n h.below (omega (arith, less, h.long));
  listed = λ i k. by i (set_marked f.marks n i less k);
  marked = λ k l. at_place k (split k l);
}
  where
    less : n < length f.marks
    less = here_or_past f.marks n e

    longer : length (f.work ++ n ∷ []) ≡ length f.work + 1
    longer = length-append f.work (n ∷ [])

    old : (i : ℕ) → ((k : ℕ) × (k < length f.work) × (get_or f.work k 0 ≡ i)) → (k : ℕ) × (k < length (f.work ++ n ∷ [])) × (get_or (f.work ++ n ∷ []) k 0 ≡ i)
    old i t = (t.0, omega (arith, t.1, longer), front f.work (n ∷ []) t.0 t.1 ∙ t.2)

    split : (k : ℕ) → k < length (f.work ++ n ∷ []) → (k ≡ length f.work) ⊎ (k < length f.work)
    split k l = either_below k (length f.work) (omega (arith, l, longer))

    at_place : (k : ℕ) → (k ≡ length f.work) ⊎ (k < length f.work) → get_or (set f.marks n true) (get_or (f.work ++ n ∷ []) k 0) false ≡ true
    at_place k (inl q) =
        ap (λ (i : ℕ). get_or (set f.marks n true) i false) (ap (λ (j : ℕ). get_or (f.work ++ n ∷ []) j 0) q ∙ last f.work n) ∙ get_or-set_same f.marks n true false less
    at_place k (inr q) =
        ap (λ (i : ℕ). get_or (set f.marks n true) i false) (front f.work (n ∷ []) k q) ∙ keeps_marked f.marks n (get_or f.work k 0) (h.marked k q)

    by : (i : ℕ) → (i ≡ n) ⊎ (get_or f.marks i false ≡ true) → (k : ℕ) × (k < length (f.work ++ n ∷ [])) × (get_or (f.work ++ n ∷ []) k 0 ≡ i)
    by i (inl q) = (length f.work, omega (arith, longer), last f.work n ∙ sym q)
    by i (inr q) = old i (h.listed i q)

pub all_sound : (m : ℕ) (f : Found) (ns : List ℕ) → IsSound m f → IsSound m (put_all f ns)
all_sound m = put_all_keeps (IsSound m) (put_sound m)

pub none_sound : (n : ℕ) → IsSound n (record { marks = replicate n false; work = [] })
none_sound n = record {
  long = length-replicate n false;
  count = (let e = sum_by-replicate one_unless n false in omega (arith, e));
  below = tt;
  listed = λ i h. absurd (true≢false (sym h ∙ none n i));
  marked = λ k h. absurd (let no : ⊥ = omega (arith, h) in no);
}
  where
    none : (n i : ℕ) → get_or (replicate n false) i false ≡ false
    none zero i = refl
    none (suc n) zero = refl
    none (suc n) (suc i) = none n i

-- what is marked stays so, and the list only grows
pub all_grow : (f : Found) (ns : List ℕ) (i : ℕ) → get_or f.marks i false ≡ true → get_or (put_all f ns).marks i false ≡ true
all_grow f ns i h = put_all_keeps (λ g. get_or g.marks i false ≡ true) (λ g n e k. keeps_marked g.marks n i k) f ns h

abbrev Begins : List ℕ → Found → Type 0
Begins xs f = (length xs ≤ length f.work) × ((k : ℕ) → k < length xs → get_or f.work k 0 ≡ get_or xs k 0)

all_begin : (f : Found) (ns : List ℕ) → Begins f.work (put_all f ns)
all_begin f ns = put_all_keeps (Begins f.work) each f ns (omega arith, λ k h. refl)
  where
    each : (g : Found) (n : ℕ) → get_or g.marks n true ≡ false → Begins f.work g → Begins f.work (record { marks = set g.marks n true; work = g.work ++ n ∷ [] })
    each g n e h = (omega (arith, h.0, length-append g.work (n ∷ [])), λ k l. front g.work (n ∷ []) k (omega (arith, l, h.0)) ∙ h.1 k l)

pub all_longer : (f : Found) (ns : List ℕ) → length f.work ≤ length (put_all f ns).work
all_longer f ns = (all_begin f ns).0

pub all_front : (f : Found) (ns : List ℕ) (k : ℕ) → k < length f.work → get_or (put_all f ns).work k 0 ≡ get_or f.work k 0
all_front f ns = (all_begin f ns).1

put_there : (f : Found) (n : ℕ) → n < length f.marks → get_or (put f n).marks n false ≡ true
put_there f n less = by (get_or f.marks n true) refl
  where
    by : (b : Bool) → get_or f.marks n true ≡ b → get_or (cond b f (record { marks = set f.marks n true; work = f.work ++ n ∷ [] })).marks n false ≡ true
    by true e = default_either f.marks n false true less ∙ e
    by false e = get_or-set_same f.marks n true false less

same_long : (f : Found) (n : ℕ) → length (put f n).marks ≡ length f.marks
same_long f n = put_keeps (λ g. length g.marks ≡ length f.marks) (λ g k e h. length-set g.marks k true ∙ h) f n refl

pub all_there : (f : Found) (ns : List ℕ) (x : ℕ) → OneOf x ns → x < length f.marks → get_or (put_all f ns).marks x false ≡ true
all_there f [] x h l = absurd h
all_there f (n ∷ ns) x (inl e) l =
    all_grow (put f n) ns x (subst (λ (y : ℕ). get_or (put f n).marks y false ≡ true) (sym e) (put_there f n (subst (λ (y : ℕ). y < length f.marks) e l)))
all_there f (n ∷ ns) x (inr h) l = all_there (put f n) ns x h (omega (arith, l, same_long f n))

-- nothing is marked but what was put
put_only : (S : ℕ → Bool) (f : Found) (n : ℕ) → ((i : ℕ) → get_or f.marks i false ≡ true → S i ≡ true) → (n < length f.marks → S n ≡ true)
    → (i : ℕ) → get_or (put f n).marks i false ≡ true → S i ≡ true
put_only S f n h k = by (get_or f.marks n true) refl
  where
    new : get_or f.marks n true ≡ false → (i : ℕ) → (i ≡ n) ⊎ (get_or f.marks i false ≡ true) → S i ≡ true
    new e i (inl q) = ap S q ∙ k (here_or_past f.marks n e)
    new e i (inr q) = h i q

    by : (b : Bool) → get_or f.marks n true ≡ b → (i : ℕ) → get_or (cond b f (record { marks = set f.marks n true; work = f.work ++ n ∷ [] })).marks i false ≡ true → S i ≡ true
    by true e i q = h i q
    by false e i q = new e i (set_marked f.marks n i (here_or_past f.marks n e) q)

pub all_only : (S : ℕ → Bool) (f : Found) (ns : List ℕ) → ((i : ℕ) → get_or f.marks i false ≡ true → S i ≡ true) → ((x : ℕ) → OneOf x ns → x < length f.marks → S x ≡ true)
    → (i : ℕ) → get_or (put_all f ns).marks i false ≡ true → S i ≡ true
all_only S f [] h k = h
all_only S f (n ∷ ns) h k = all_only S (put f n) ns (put_only S f n h (k n (inl refl))) (λ x q l. k x (inr q) (omega (arith, l, same_long f n)))
