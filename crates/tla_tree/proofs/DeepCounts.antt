-- Counts of open forms within a bound, and those that pass it before so many others; both by forms.
use Rattle.std.proofs.Common.{◌≡◌, ◌⊎◌, Bool, true, false, ℕ, ◌+◌, ◌<◌, ◌≤◌, max, List, [], ◌∷◌, ◌++◌, length, inl, inr, refl, sym, subst, arith}
use Rattle.std.proofs.lemmas.Bool.{cases_order}
use Rattle.std.proofs.lemmas.List.{length-append}
use Rattle.std.proofs.Math.Nat.{le-max_left, le-max_right, max-le}
use Rattle.tla_tree.specs.Spelling.{Phrase, number, string, constant, name, primed, call, brackets, no_set, set_of, filter, image, no_tuple, tuple, fields, records, function, functions, except, apply, select, list, quantified, if_then_else, cases, local, infix_of, prefix_of}
use Rattle.tla_tree.specs.Spelling.{Phrases, last, more, Binds, last_bind, bind, share, Fields, last_field, field, Settings, last_setting, setting, Path, path_end, index, at_field, Bullets, last_bullet, bullet, Arms, last_arm, other_arm, arm, Locals, last_local, more_locals}
use Rattle.tla_tree.specs.Nesting.{greatest, chain, links, before, counts_in, all_in, binds_in, fields_in, settings_in, path_in, bullets_in, arms_in, locals_in, counts, counts_all, counts_binds, counts_fields, counts_settings, counts_path, counts_bullets, counts_arms, counts_locals}
use Rattle.tla_tree.specs.Nesting.{at_field as field_at}
use Rattle.tla_tree.proofs.SpellAhead.{Ahead, held, put_ahead, then_ahead}

abbrev pub Fit : ℕ → List ℕ → Type 0
Fit b [] = Unit {0}
Fit b (n ∷ ns) = (n ≤ b) × Fit b ns

-- one passes the bound, and so many come after it
abbrev pub Deep : ℕ → List ℕ → ℕ → Type 0
Deep b [] m = ⊥
Deep b (n ∷ ns) m = ((b < n) × (m ≤ length ns)) ⊎ Deep b ns m

pub deep_after : (b : ℕ) (xs ys : List ℕ) (m : ℕ) → Deep b ys m → Deep b (xs ++ ys) m
deep_after b [] ys m d = d
deep_after b (x ∷ xs) ys m d = inr (deep_after b xs ys m d)

pub deep_fewer : (b : ℕ) (xs : List ℕ) (m n : ℕ) → n ≤ m → Deep b xs m → Deep b xs n
deep_fewer b [] m n h d = d
deep_fewer b (x ∷ xs) m n h (inl (l, k)) = inl (l, omega arith)
deep_fewer b (x ∷ xs) m n h (inr d) = inr (deep_fewer b xs m n h d)

-- put before others
pub lift : {x : List ℕ → List ℕ} → Ahead x → (b : ℕ) (s : List ℕ) (m : ℕ) → Deep b s m → Deep b (x s) m
lift {x} h b s m d = subst (λ (r : List ℕ). Deep b r m) (sym (h.is [] s)) (deep_after b (x []) s m d)

pub fit_front : (b : ℕ) (xs ys : List ℕ) → Fit b (xs ++ ys) → Fit b xs
fit_front b [] ys f = tt
fit_front b (x ∷ xs) ys f = (f.0, fit_front b xs ys f.1)

pub fit_both : (b : ℕ) (xs ys : List ℕ) → Fit b xs → Fit b ys → Fit b (xs ++ ys)
fit_both b [] ys f g = g
fit_both b (x ∷ xs) ys f g = (f.0, fit_both b xs ys f.1 g)

-- as many, and each is greater by so much at least, and by so much at most
abbrev pub Raised : ℕ → ℕ → List ℕ → List ℕ → Type 0
Raised i j [] [] = Unit {0}
Raised i j [] (y ∷ ys) = ⊥
Raised i j (x ∷ xs) [] = ⊥
Raised i j (x ∷ xs) (y ∷ ys) = (x + i ≤ y) × (y ≤ x + j) × Raised i j xs ys

raised_length : (i j : ℕ) (xs ys : List ℕ) → Raised i j xs ys → length xs ≡ length ys
raised_length i j [] [] o = refl
raised_length i j [] (y ∷ ys) o = absurd o
raised_length i j (x ∷ xs) [] o = absurd o
raised_length i j (x ∷ xs) (y ∷ ys) o = (let h = raised_length i j xs ys o.2 in omega (arith, h))

pub deep_raised : (a b i j : ℕ) → b ≤ a + i → (xs ys : List ℕ) (m : ℕ) → Raised i j xs ys → Deep a xs m → Deep b ys m
deep_raised a b i j h [] ys m o d = absurd d
deep_raised a b i j h (x ∷ xs) [] m o d = absurd o
deep_raised a b i j h (x ∷ xs) (y ∷ ys) m o (inl (l, k)) = (let e = raised_length i j xs ys o.2 in let n = o.0 in inl (omega (arith, n, l, h), omega (arith, e, k)))
deep_raised a b i j h (x ∷ xs) (y ∷ ys) m o (inr d) = inr (deep_raised a b i j h xs ys m o.2 d)

pub fit_raised : (a b i j : ℕ) → a + j ≤ b → (xs ys : List ℕ) → Raised i j xs ys → Fit a xs → Fit b ys
fit_raised a b i j h [] [] o f = tt
fit_raised a b i j h [] (y ∷ ys) o f = absurd o
fit_raised a b i j h (x ∷ xs) [] o f = absurd o
fit_raised a b i j h (x ∷ xs) (y ∷ ys) o f = (let n = o.1 in let k = f.0 in (omega (arith, n, k, h), fit_raised a b i j h xs ys o.2 f.1))

pub raised_same : (j : ℕ) (xs : List ℕ) → Raised 0 j xs xs
raised_same j [] = tt
raised_same j (x ∷ xs) = (omega arith, omega arith, raised_same j xs)

-- and before others
pub deep_before : (b : ℕ) (xs r : List ℕ) → Deep b xs 0 → Deep b (xs ++ r) (length r)
deep_before b [] r d = absurd d
deep_before b (x ∷ xs) r (inl (l, k)) = (let n = length-append xs r in inl (l, omega (arith, n)))
deep_before b (x ∷ xs) r (inr d) = inr (deep_before b xs r d)

-- the greatest
pub fit_greatest : (ns : List ℕ) (b : ℕ) → greatest ns ≤ b → Fit b ns
fit_greatest [] b h = tt
fit_greatest (n ∷ ns) b h = (omega (arith, h, le-max_left n (greatest ns)), fit_greatest ns b (omega (arith, h, le-max_right n (greatest ns))))

pub greatest_fits : (ns : List ℕ) (b : ℕ) → Fit b ns → greatest ns ≤ b
greatest_fits [] b f = omega arith
greatest_fits (n ∷ ns) b f = max-le f.0 (greatest_fits ns b f.1)

pub deep_greatest : (ns : List ℕ) (b : ℕ) → b < greatest ns → Deep b ns 0
deep_greatest [] b h = absurd (omega (arith, h))
deep_greatest (n ∷ ns) b h = elim (cases_order b n) [
  | inl e ↦ inr (deep_greatest ns b (more e))
  | inr o ↦ elim o [ inl l ↦ inl (l, omega arith) | inr l ↦ inr (deep_greatest ns b (elim (cases_order b (greatest ns)) [ inl e ↦ absurd (no (max-le (omega (arith, l)) (omega (arith, e)))) | inr z ↦ elim z [ inl z ↦ z | inr z ↦ absurd (no (max-le (omega (arith, l)) (omega (arith, z)))) ] ])) ]
]
  where
    no : max n (greatest ns) ≤ b → ⊥
    no w = absurd (omega (arith, h, w))

    more : b ≡ n → b < greatest ns
    more e = elim (cases_order b (greatest ns)) [ inl e' ↦ absurd (no (max-le (omega (arith, e)) (omega (arith, e')))) | inr z ↦ elim z [ inl z ↦ z | inr z ↦ absurd (no (max-le (omega (arith, e)) (omega (arith, z)))) ] ]

raised_front : (j : ℕ) (zs xs ys : List ℕ) → Raised 0 j xs ys → Raised 0 j (zs ++ xs) (zs ++ ys)
raised_front j [] xs ys o = o
raised_front j (z ∷ zs) xs ys o = (omega arith, omega arith, raised_front j zs xs ys o)

-- what is greater is late too, behind the same counts
pub deep_behind : {x : List ℕ → List ℕ} → Ahead x → (b j : ℕ) (xs ys : List ℕ) (m : ℕ) → Raised 0 j xs ys → Deep b (x xs) m → Deep b (x ys) m
deep_behind {x} h b j xs ys m o d =
    subst (λ (r : List ℕ). Deep b r m) (sym (h.is [] ys)) (deep_raised b b 0 j (omega arith) (x [] ++ xs) (x [] ++ ys) m (raised_front j (x []) xs ys o) (subst (λ (r : List ℕ). Deep b r m) (h.is [] xs) d))

mutual
  pub ahead_in : (linked : Bool) (n : ℕ) (a : Phrase) → Ahead (counts_in linked n a)
  ahead_in linked n (number p k) = put_ahead held
  ahead_in linked n (string p x) = put_ahead held
  ahead_in linked n (constant p c) = put_ahead held
  ahead_in linked n (name p x) = put_ahead held
  ahead_in linked n (primed p x q) = put_ahead (put_ahead held)
  ahead_in linked n (call p x q xs t) = put_ahead (put_ahead (then_ahead (ahead_all_in linked (n + 1) xs) (put_ahead held)))
  ahead_in linked n (brackets p a q) = put_ahead (then_ahead (ahead_in linked (n + 1) a) (put_ahead held))
  ahead_in linked n (no_set p q) = put_ahead (put_ahead held)
  ahead_in linked n (set_of p xs q) = put_ahead (then_ahead (ahead_all_in linked (n + 1) xs) (put_ahead held))
  ahead_in linked n (filter p q x v s t a u) = put_ahead (put_ahead (put_ahead (then_ahead (ahead_in linked (n + 1) s) (put_ahead (then_ahead (ahead_in linked (n + 1) a) (put_ahead held))))))
  ahead_in linked n (image p a q bs t) = put_ahead (then_ahead (ahead_in linked (n + 1) a) (put_ahead (then_ahead (ahead_binds_in linked (n + 1) bs) (put_ahead held))))
  ahead_in linked n (no_tuple p q) = put_ahead (put_ahead held)
  ahead_in linked n (tuple p xs q) = put_ahead (then_ahead (ahead_all_in linked (n + 1) xs) (put_ahead held))
  ahead_in linked n (fields p fs q) = put_ahead (then_ahead (ahead_fields_in linked (n + 1) fs) (put_ahead held))
  ahead_in linked n (records p fs q) = put_ahead (then_ahead (ahead_fields_in linked (n + 1) fs) (put_ahead held))
  ahead_in linked n (function p bs q a t) = put_ahead (then_ahead (ahead_binds_in linked (n + 1) bs) (put_ahead (then_ahead (ahead_in linked (n + 1) a) (put_ahead held))))
  ahead_in linked n (functions p a q b t) = put_ahead (then_ahead (ahead_in linked (n + 1) a) (put_ahead (then_ahead (ahead_in linked (n + 1) b) (put_ahead held))))
  ahead_in linked n (except p a q ss t) = put_ahead (then_ahead (ahead_in linked (n + 1) a) (put_ahead (then_ahead (ahead_settings_in linked (n + 1) ss) (put_ahead held))))
  ahead_in linked n (apply a p xs q) = then_ahead (ahead_in linked n a) (put_ahead (then_ahead (ahead_all_in linked (n + before linked a + 1) xs) (put_ahead held)))
  ahead_in linked n (select a p f) = then_ahead (ahead_in linked n a) (put_ahead (put_ahead held))
  ahead_in linked n (list o bs) = ahead_bullets_in linked n bs
  ahead_in linked n (quantified b p bs q a) = put_ahead (then_ahead (ahead_binds_in linked (n + 1) bs) (put_ahead (ahead_in linked (n + 1) a)))
  ahead_in linked n (if_then_else p a q b t c) = put_ahead (then_ahead (ahead_in linked (n + 1) a) (put_ahead (then_ahead (ahead_in linked (n + 1) b) (put_ahead (ahead_in linked (n + 1) c)))))
  ahead_in linked n (cases p xs) = put_ahead (ahead_arms_in linked (n + 1) xs)
  ahead_in linked n (local p ls q a) = put_ahead (then_ahead (ahead_locals_in linked (n + 1) ls) (put_ahead (ahead_in linked (n + 1) a)))
  ahead_in linked n (infix_of a p o b) = then_ahead (ahead_in linked n a) (put_ahead (ahead_in linked (n + chain a + 1) b))
  ahead_in linked n (prefix_of p o a) = put_ahead (ahead_in linked (n + 1) a)

  pub ahead_all_in : (linked : Bool) (n : ℕ) (xs : Phrases) → Ahead (all_in linked n xs)
  ahead_all_in linked n (last a) = ahead_in linked n a
  ahead_all_in linked n (more a p xs) = then_ahead (ahead_in linked n a) (put_ahead (ahead_all_in linked n xs))

  pub ahead_binds_in : (linked : Bool) (n : ℕ) (bs : Binds) → Ahead (binds_in linked n bs)
  ahead_binds_in linked n (last_bind p x q a) = put_ahead (put_ahead (ahead_in linked n a))
  ahead_binds_in linked n (bind p x q a t bs) = put_ahead (put_ahead (then_ahead (ahead_in linked n a) (put_ahead (ahead_binds_in linked n bs))))
  ahead_binds_in linked n (share p x q bs) = put_ahead (put_ahead (ahead_binds_in linked n bs))

  pub ahead_fields_in : (linked : Bool) (n : ℕ) (fs : Fields) → Ahead (fields_in linked n fs)
  ahead_fields_in linked n (last_field f p a) = put_ahead (put_ahead (ahead_in linked n a))
  ahead_fields_in linked n (field f p a q fs) = put_ahead (put_ahead (then_ahead (ahead_in linked n a) (put_ahead (ahead_fields_in linked n fs))))

  pub ahead_settings_in : (linked : Bool) (n : ℕ) (ss : Settings) → Ahead (settings_in linked n ss)
  ahead_settings_in linked n (last_setting p path q a) = put_ahead (then_ahead (ahead_path_in linked n path) (put_ahead (ahead_in linked n a)))
  ahead_settings_in linked n (setting p path q a t ss) = put_ahead (then_ahead (ahead_path_in linked n path) (put_ahead (then_ahead (ahead_in linked n a) (put_ahead (ahead_settings_in linked n ss)))))

  pub ahead_path_in : (linked : Bool) (n : ℕ) (path : Path) → Ahead (path_in linked n path)
  ahead_path_in linked n path_end = held
  ahead_path_in linked n (index p xs q path) = put_ahead (then_ahead (ahead_all_in linked (n + 1) xs) (put_ahead (ahead_path_in linked n path)))
  ahead_path_in linked n (at_field p f path) = put_ahead (put_ahead (ahead_path_in linked n path))

  pub ahead_bullets_in : (linked : Bool) (n : ℕ) (bs : Bullets) → Ahead (bullets_in linked n bs)
  ahead_bullets_in linked n (last_bullet p a) = put_ahead (ahead_in linked (n + 1) a)
  ahead_bullets_in linked n (bullet p a bs) = put_ahead (then_ahead (ahead_in linked (n + 1) a) (ahead_bullets_in linked (n + 1) bs))

  pub ahead_arms_in : (linked : Bool) (n : ℕ) (xs : Arms) → Ahead (arms_in linked n xs)
  ahead_arms_in linked n (last_arm a p b) = then_ahead (ahead_in linked n a) (put_ahead (ahead_in linked n b))
  ahead_arms_in linked n (other_arm a p b q s t c) = then_ahead (ahead_in linked n a) (put_ahead (then_ahead (ahead_in linked n b) (put_ahead (put_ahead (put_ahead (ahead_in linked n c))))))
  ahead_arms_in linked n (arm a p b q xs) = then_ahead (ahead_in linked n a) (put_ahead (then_ahead (ahead_in linked n b) (put_ahead (ahead_arms_in linked n xs))))

  pub ahead_locals_in : (linked : Bool) (n : ℕ) (ls : Locals) → Ahead (locals_in linked n ls)
  ahead_locals_in linked n (last_local p x q a) = put_ahead (put_ahead (ahead_in linked n a))
  ahead_locals_in linked n (more_locals p x q a ls) = put_ahead (put_ahead (then_ahead (ahead_in linked n a) (ahead_locals_in linked n ls)))

-- where fields and closed applications count
pub ahead_counts : (n : ℕ) (a : Phrase) → Ahead (counts n a)
ahead_counts n a = ahead_in true n a

pub ahead_all : (n : ℕ) (xs : Phrases) → Ahead (counts_all n xs)
ahead_all n xs = ahead_all_in true n xs

pub ahead_binds : (n : ℕ) (bs : Binds) → Ahead (counts_binds n bs)
ahead_binds n bs = ahead_binds_in true n bs

pub ahead_fields : (n : ℕ) (fs : Fields) → Ahead (counts_fields n fs)
ahead_fields n fs = ahead_fields_in true n fs

pub ahead_settings : (n : ℕ) (ss : Settings) → Ahead (counts_settings n ss)
ahead_settings n ss = ahead_settings_in true n ss

pub ahead_path : (n : ℕ) (path : Path) → Ahead (counts_path n path)
ahead_path n path = ahead_path_in true n path

pub ahead_bullets : (n : ℕ) (bs : Bullets) → Ahead (counts_bullets n bs)
ahead_bullets n bs = ahead_bullets_in true n bs

pub ahead_arms : (n : ℕ) (xs : Arms) → Ahead (counts_arms n xs)
ahead_arms n xs = ahead_arms_in true n xs

pub ahead_locals : (n : ℕ) (ls : Locals) → Ahead (counts_locals n ls)
ahead_locals n ls = ahead_locals_in true n ls

-- where more are open round it, each count is greater by so many
field_least : (linked : Bool) (i n m : ℕ) → n + i ≤ m → (a : Phrase) → field_at linked n a + i ≤ field_at linked m a
field_least true i n m h a = omega (arith, h)
field_least false i n m h a = h

field_most : (linked : Bool) (j n m : ℕ) → m ≤ n + j → (a : Phrase) → field_at linked m a ≤ field_at linked n a + j
field_most true j n m h a = omega (arith, h)
field_most false j n m h a = h

mutual
  pub raised_in : (linked : Bool) (i j n m : ℕ) → n + i ≤ m → m ≤ n + j → (a : Phrase) (r w : List ℕ) → Raised i j r w → Raised i j (counts_in linked n a r) (counts_in linked m a w)
  raised_in linked i j n m h k (number p d) r w v = (omega (arith, h), omega (arith, k), v)
  raised_in linked i j n m h k (string p x) r w v = (omega (arith, h), omega (arith, k), v)
  raised_in linked i j n m h k (constant p c) r w v = (omega (arith, h), omega (arith, k), v)
  raised_in linked i j n m h k (name p x) r w v = (omega (arith, h), omega (arith, k), v)
  raised_in linked i j n m h k (primed p x q) r w v = (omega (arith, h), omega (arith, k), (omega (arith, h), omega (arith, k), v))
  raised_in linked i j n m h k (call p x q xs t) r w v = (omega (arith, h), omega (arith, k), (omega (arith, h), omega (arith, k), raised_all_in linked i j (n + 1) (m + 1) (omega (arith, h)) (omega (arith, k)) xs ((n + 1) ∷ r) ((m + 1) ∷ w) ((omega (arith, h), omega (arith, k), v))))
  raised_in linked i j n m h k (brackets p a q) r w v = (omega (arith, h), omega (arith, k), raised_in linked i j (n + 1) (m + 1) (omega (arith, h)) (omega (arith, k)) a ((n + 1) ∷ r) ((m + 1) ∷ w) ((omega (arith, h), omega (arith, k), v)))
  raised_in linked i j n m h k (no_set p q) r w v = (omega (arith, h), omega (arith, k), (omega (arith, h), omega (arith, k), v))
  raised_in linked i j n m h k (set_of p xs q) r w v = (omega (arith, h), omega (arith, k), raised_all_in linked i j (n + 1) (m + 1) (omega (arith, h)) (omega (arith, k)) xs ((n + 1) ∷ r) ((m + 1) ∷ w) ((omega (arith, h), omega (arith, k), v)))
  raised_in linked i j n m h k (filter p q x y s t a u) r w v = (omega (arith, h), omega (arith, k), (omega (arith, h), omega (arith, k), (omega (arith, h), omega (arith, k), raised_in linked i j (n + 1) (m + 1) (omega (arith, h)) (omega (arith, k)) s ((n + 1) ∷ (counts_in linked (n + 1) a ((n + 1) ∷ r))) ((m + 1) ∷ (counts_in linked (m + 1) a ((m + 1) ∷ w))) ((omega (arith, h), omega (arith, k), raised_in linked i j (n + 1) (m + 1) (omega (arith, h)) (omega (arith, k)) a ((n + 1) ∷ r) ((m + 1) ∷ w) ((omega (arith, h), omega (arith, k), v)))))))
  raised_in linked i j n m h k (image p a q bs t) r w v = (omega (arith, h), omega (arith, k), raised_in linked i j (n + 1) (m + 1) (omega (arith, h)) (omega (arith, k)) a ((n + 1) ∷ (binds_in linked (n + 1) bs ((n + 1) ∷ r))) ((m + 1) ∷ (binds_in linked (m + 1) bs ((m + 1) ∷ w))) ((omega (arith, h), omega (arith, k), raised_binds_in linked i j (n + 1) (m + 1) (omega (arith, h)) (omega (arith, k)) bs ((n + 1) ∷ r) ((m + 1) ∷ w) ((omega (arith, h), omega (arith, k), v)))))
  raised_in linked i j n m h k (no_tuple p q) r w v = (omega (arith, h), omega (arith, k), (omega (arith, h), omega (arith, k), v))
  raised_in linked i j n m h k (tuple p xs q) r w v = (omega (arith, h), omega (arith, k), raised_all_in linked i j (n + 1) (m + 1) (omega (arith, h)) (omega (arith, k)) xs ((n + 1) ∷ r) ((m + 1) ∷ w) ((omega (arith, h), omega (arith, k), v)))
  raised_in linked i j n m h k (fields p fs q) r w v = (omega (arith, h), omega (arith, k), raised_fields_in linked i j (n + 1) (m + 1) (omega (arith, h)) (omega (arith, k)) fs ((n + 1) ∷ r) ((m + 1) ∷ w) ((omega (arith, h), omega (arith, k), v)))
  raised_in linked i j n m h k (records p fs q) r w v = (omega (arith, h), omega (arith, k), raised_fields_in linked i j (n + 1) (m + 1) (omega (arith, h)) (omega (arith, k)) fs ((n + 1) ∷ r) ((m + 1) ∷ w) ((omega (arith, h), omega (arith, k), v)))
  raised_in linked i j n m h k (function p bs q a t) r w v = (omega (arith, h), omega (arith, k), raised_binds_in linked i j (n + 1) (m + 1) (omega (arith, h)) (omega (arith, k)) bs ((n + 1) ∷ (counts_in linked (n + 1) a ((n + 1) ∷ r))) ((m + 1) ∷ (counts_in linked (m + 1) a ((m + 1) ∷ w))) ((omega (arith, h), omega (arith, k), raised_in linked i j (n + 1) (m + 1) (omega (arith, h)) (omega (arith, k)) a ((n + 1) ∷ r) ((m + 1) ∷ w) ((omega (arith, h), omega (arith, k), v)))))
  raised_in linked i j n m h k (functions p a q b t) r w v = (omega (arith, h), omega (arith, k), raised_in linked i j (n + 1) (m + 1) (omega (arith, h)) (omega (arith, k)) a ((n + 1) ∷ (counts_in linked (n + 1) b ((n + 1) ∷ r))) ((m + 1) ∷ (counts_in linked (m + 1) b ((m + 1) ∷ w))) ((omega (arith, h), omega (arith, k), raised_in linked i j (n + 1) (m + 1) (omega (arith, h)) (omega (arith, k)) b ((n + 1) ∷ r) ((m + 1) ∷ w) ((omega (arith, h), omega (arith, k), v)))))
  raised_in linked i j n m h k (except p a q ss t) r w v = (omega (arith, h), omega (arith, k), raised_in linked i j (n + 1) (m + 1) (omega (arith, h)) (omega (arith, k)) a ((n + 1) ∷ (settings_in linked (n + 1) ss ((n + 1) ∷ r))) ((m + 1) ∷ (settings_in linked (m + 1) ss ((m + 1) ∷ w))) ((omega (arith, h), omega (arith, k), raised_settings_in linked i j (n + 1) (m + 1) (omega (arith, h)) (omega (arith, k)) ss ((n + 1) ∷ r) ((m + 1) ∷ w) ((omega (arith, h), omega (arith, k), v)))))
  raised_in linked i j n m h k (apply a p xs q) r w v = raised_in linked i j n m (omega (arith, h)) (omega (arith, k)) a ((n + before linked a + 1) ∷ (all_in linked (n + before linked a + 1) xs ((n + before linked a + 1) ∷ r))) ((m + before linked a + 1) ∷ (all_in linked (m + before linked a + 1) xs ((m + before linked a + 1) ∷ w))) ((omega (arith, h), omega (arith, k), raised_all_in linked i j (n + before linked a + 1) (m + before linked a + 1) (omega (arith, h)) (omega (arith, k)) xs ((n + before linked a + 1) ∷ r) ((m + before linked a + 1) ∷ w) ((omega (arith, h), omega (arith, k), v))))
  raised_in linked i j n m h k (select a p f) r w v =
      let least = field_least linked i n m h a in
      let most = field_most linked j n m k a in
      raised_in linked i j n m (omega (arith, h)) (omega (arith, k)) a (field_at linked n a ∷ (field_at linked n a ∷ r)) (field_at linked m a ∷ (field_at linked m a ∷ w)) (least, most, (least, most, v))
  raised_in linked i j n m h k (list o bs) r w v = raised_bullets_in linked i j n m (omega (arith, h)) (omega (arith, k)) bs r w v
  raised_in linked i j n m h k (quantified b p bs q a) r w v = (omega (arith, h), omega (arith, k), raised_binds_in linked i j (n + 1) (m + 1) (omega (arith, h)) (omega (arith, k)) bs ((n + 1) ∷ (counts_in linked (n + 1) a r)) ((m + 1) ∷ (counts_in linked (m + 1) a w)) ((omega (arith, h), omega (arith, k), raised_in linked i j (n + 1) (m + 1) (omega (arith, h)) (omega (arith, k)) a r w v)))
  raised_in linked i j n m h k (if_then_else p a q b t c) r w v = (omega (arith, h), omega (arith, k), raised_in linked i j (n + 1) (m + 1) (omega (arith, h)) (omega (arith, k)) a ((n + 1) ∷ (counts_in linked (n + 1) b ((n + 1) ∷ (counts_in linked (n + 1) c r)))) ((m + 1) ∷ (counts_in linked (m + 1) b ((m + 1) ∷ (counts_in linked (m + 1) c w)))) ((omega (arith, h), omega (arith, k), raised_in linked i j (n + 1) (m + 1) (omega (arith, h)) (omega (arith, k)) b ((n + 1) ∷ (counts_in linked (n + 1) c r)) ((m + 1) ∷ (counts_in linked (m + 1) c w)) ((omega (arith, h), omega (arith, k), raised_in linked i j (n + 1) (m + 1) (omega (arith, h)) (omega (arith, k)) c r w v)))))
  raised_in linked i j n m h k (cases p xs) r w v = (omega (arith, h), omega (arith, k), raised_arms_in linked i j (n + 1) (m + 1) (omega (arith, h)) (omega (arith, k)) xs r w v)
  raised_in linked i j n m h k (local p ls q a) r w v = (omega (arith, h), omega (arith, k), raised_locals_in linked i j (n + 1) (m + 1) (omega (arith, h)) (omega (arith, k)) ls ((n + 1) ∷ (counts_in linked (n + 1) a r)) ((m + 1) ∷ (counts_in linked (m + 1) a w)) ((omega (arith, h), omega (arith, k), raised_in linked i j (n + 1) (m + 1) (omega (arith, h)) (omega (arith, k)) a r w v)))
  raised_in linked i j n m h k (infix_of a p o b) r w v = raised_in linked i j n m (omega (arith, h)) (omega (arith, k)) a ((n + chain a + 1) ∷ (counts_in linked (n + chain a + 1) b r)) ((m + chain a + 1) ∷ (counts_in linked (m + chain a + 1) b w)) ((omega (arith, h), omega (arith, k), raised_in linked i j (n + chain a + 1) (m + chain a + 1) (omega (arith, h)) (omega (arith, k)) b r w v))
  raised_in linked i j n m h k (prefix_of p o a) r w v = (omega (arith, h), omega (arith, k), raised_in linked i j (n + 1) (m + 1) (omega (arith, h)) (omega (arith, k)) a r w v)

  pub raised_all_in : (linked : Bool) (i j n m : ℕ) → n + i ≤ m → m ≤ n + j → (xs : Phrases) (r w : List ℕ) → Raised i j r w → Raised i j (all_in linked n xs r) (all_in linked m xs w)
  raised_all_in linked i j n m h k (last a) r w v = raised_in linked i j n m (omega (arith, h)) (omega (arith, k)) a r w v
  raised_all_in linked i j n m h k (more a p xs) r w v = raised_in linked i j n m (omega (arith, h)) (omega (arith, k)) a (n ∷ (all_in linked n xs r)) (m ∷ (all_in linked m xs w)) ((omega (arith, h), omega (arith, k), raised_all_in linked i j n m (omega (arith, h)) (omega (arith, k)) xs r w v))

  pub raised_binds_in : (linked : Bool) (i j n m : ℕ) → n + i ≤ m → m ≤ n + j → (bs : Binds) (r w : List ℕ) → Raised i j r w → Raised i j (binds_in linked n bs r) (binds_in linked m bs w)
  raised_binds_in linked i j n m h k (last_bind p x q a) r w v = (omega (arith, h), omega (arith, k), (omega (arith, h), omega (arith, k), raised_in linked i j n m (omega (arith, h)) (omega (arith, k)) a r w v))
  raised_binds_in linked i j n m h k (bind p x q a t bs) r w v = (omega (arith, h), omega (arith, k), (omega (arith, h), omega (arith, k), raised_in linked i j n m (omega (arith, h)) (omega (arith, k)) a (n ∷ (binds_in linked n bs r)) (m ∷ (binds_in linked m bs w)) ((omega (arith, h), omega (arith, k), raised_binds_in linked i j n m (omega (arith, h)) (omega (arith, k)) bs r w v))))
  raised_binds_in linked i j n m h k (share p x q bs) r w v = (omega (arith, h), omega (arith, k), (omega (arith, h), omega (arith, k), raised_binds_in linked i j n m (omega (arith, h)) (omega (arith, k)) bs r w v))

  pub raised_fields_in : (linked : Bool) (i j n m : ℕ) → n + i ≤ m → m ≤ n + j → (fs : Fields) (r w : List ℕ) → Raised i j r w → Raised i j (fields_in linked n fs r) (fields_in linked m fs w)
  raised_fields_in linked i j n m h k (last_field f p a) r w v = (omega (arith, h), omega (arith, k), (omega (arith, h), omega (arith, k), raised_in linked i j n m (omega (arith, h)) (omega (arith, k)) a r w v))
  raised_fields_in linked i j n m h k (field f p a q fs) r w v = (omega (arith, h), omega (arith, k), (omega (arith, h), omega (arith, k), raised_in linked i j n m (omega (arith, h)) (omega (arith, k)) a (n ∷ (fields_in linked n fs r)) (m ∷ (fields_in linked m fs w)) ((omega (arith, h), omega (arith, k), raised_fields_in linked i j n m (omega (arith, h)) (omega (arith, k)) fs r w v))))

  pub raised_settings_in : (linked : Bool) (i j n m : ℕ) → n + i ≤ m → m ≤ n + j → (ss : Settings) (r w : List ℕ) → Raised i j r w → Raised i j (settings_in linked n ss r) (settings_in linked m ss w)
  raised_settings_in linked i j n m h k (last_setting p path q a) r w v = (omega (arith, h), omega (arith, k), raised_path_in linked i j n m (omega (arith, h)) (omega (arith, k)) path (n ∷ (counts_in linked n a r)) (m ∷ (counts_in linked m a w)) ((omega (arith, h), omega (arith, k), raised_in linked i j n m (omega (arith, h)) (omega (arith, k)) a r w v)))
  raised_settings_in linked i j n m h k (setting p path q a t ss) r w v = (omega (arith, h), omega (arith, k), raised_path_in linked i j n m (omega (arith, h)) (omega (arith, k)) path (n ∷ (counts_in linked n a (n ∷ (settings_in linked n ss r)))) (m ∷ (counts_in linked m a (m ∷ (settings_in linked m ss w)))) ((omega (arith, h), omega (arith, k), raised_in linked i j n m (omega (arith, h)) (omega (arith, k)) a (n ∷ (settings_in linked n ss r)) (m ∷ (settings_in linked m ss w)) ((omega (arith, h), omega (arith, k), raised_settings_in linked i j n m (omega (arith, h)) (omega (arith, k)) ss r w v)))))

  pub raised_path_in : (linked : Bool) (i j n m : ℕ) → n + i ≤ m → m ≤ n + j → (path : Path) (r w : List ℕ) → Raised i j r w → Raised i j (path_in linked n path r) (path_in linked m path w)
  raised_path_in linked i j n m h k path_end r w v = v
  raised_path_in linked i j n m h k (index p xs q path) r w v = (omega (arith, h), omega (arith, k), raised_all_in linked i j (n + 1) (m + 1) (omega (arith, h)) (omega (arith, k)) xs ((n + 1) ∷ (path_in linked n path r)) ((m + 1) ∷ (path_in linked m path w)) ((omega (arith, h), omega (arith, k), raised_path_in linked i j n m (omega (arith, h)) (omega (arith, k)) path r w v)))
  raised_path_in linked i j n m h k (at_field p f path) r w v = (omega (arith, h), omega (arith, k), (omega (arith, h), omega (arith, k), raised_path_in linked i j n m (omega (arith, h)) (omega (arith, k)) path r w v))

  pub raised_bullets_in : (linked : Bool) (i j n m : ℕ) → n + i ≤ m → m ≤ n + j → (bs : Bullets) (r w : List ℕ) → Raised i j r w → Raised i j (bullets_in linked n bs r) (bullets_in linked m bs w)
  raised_bullets_in linked i j n m h k (last_bullet p a) r w v = (omega (arith, h), omega (arith, k), raised_in linked i j (n + 1) (m + 1) (omega (arith, h)) (omega (arith, k)) a r w v)
  raised_bullets_in linked i j n m h k (bullet p a bs) r w v = (omega (arith, h), omega (arith, k), raised_in linked i j (n + 1) (m + 1) (omega (arith, h)) (omega (arith, k)) a (bullets_in linked (n + 1) bs r) (bullets_in linked (m + 1) bs w) (raised_bullets_in linked i j (n + 1) (m + 1) (omega (arith, h)) (omega (arith, k)) bs r w v))

  pub raised_arms_in : (linked : Bool) (i j n m : ℕ) → n + i ≤ m → m ≤ n + j → (xs : Arms) (r w : List ℕ) → Raised i j r w → Raised i j (arms_in linked n xs r) (arms_in linked m xs w)
  raised_arms_in linked i j n m h k (last_arm a p b) r w v = raised_in linked i j n m (omega (arith, h)) (omega (arith, k)) a (n ∷ (counts_in linked n b r)) (m ∷ (counts_in linked m b w)) ((omega (arith, h), omega (arith, k), raised_in linked i j n m (omega (arith, h)) (omega (arith, k)) b r w v))
  raised_arms_in linked i j n m h k (other_arm a p b q s t c) r w v = raised_in linked i j n m (omega (arith, h)) (omega (arith, k)) a (n ∷ (counts_in linked n b (n ∷ (n ∷ (n ∷ (counts_in linked n c r)))))) (m ∷ (counts_in linked m b (m ∷ (m ∷ (m ∷ (counts_in linked m c w)))))) ((omega (arith, h), omega (arith, k), raised_in linked i j n m (omega (arith, h)) (omega (arith, k)) b (n ∷ (n ∷ (n ∷ (counts_in linked n c r)))) (m ∷ (m ∷ (m ∷ (counts_in linked m c w)))) ((omega (arith, h), omega (arith, k), (omega (arith, h), omega (arith, k), (omega (arith, h), omega (arith, k), raised_in linked i j n m (omega (arith, h)) (omega (arith, k)) c r w v))))))
  raised_arms_in linked i j n m h k (arm a p b q xs) r w v = raised_in linked i j n m (omega (arith, h)) (omega (arith, k)) a (n ∷ (counts_in linked n b (n ∷ (arms_in linked n xs r)))) (m ∷ (counts_in linked m b (m ∷ (arms_in linked m xs w)))) ((omega (arith, h), omega (arith, k), raised_in linked i j n m (omega (arith, h)) (omega (arith, k)) b (n ∷ (arms_in linked n xs r)) (m ∷ (arms_in linked m xs w)) ((omega (arith, h), omega (arith, k), raised_arms_in linked i j n m (omega (arith, h)) (omega (arith, k)) xs r w v))))

  pub raised_locals_in : (linked : Bool) (i j n m : ℕ) → n + i ≤ m → m ≤ n + j → (ls : Locals) (r w : List ℕ) → Raised i j r w → Raised i j (locals_in linked n ls r) (locals_in linked m ls w)
  raised_locals_in linked i j n m h k (last_local p x q a) r w v = (omega (arith, h), omega (arith, k), (omega (arith, h), omega (arith, k), raised_in linked i j n m (omega (arith, h)) (omega (arith, k)) a r w v))
  raised_locals_in linked i j n m h k (more_locals p x q a ls) r w v = (omega (arith, h), omega (arith, k), (omega (arith, h), omega (arith, k), raised_in linked i j n m (omega (arith, h)) (omega (arith, k)) a (locals_in linked n ls r) (locals_in linked m ls w) (raised_locals_in linked i j n m (omega (arith, h)) (omega (arith, k)) ls r w v)))

pub raised_counts : (i j n m : ℕ) → n + i ≤ m → m ≤ n + j → (a : Phrase) (r w : List ℕ) → Raised i j r w → Raised i j (counts n a r) (counts m a w)
raised_counts i j n m h k a r w v = raised_in true i j n m h k a r w v
