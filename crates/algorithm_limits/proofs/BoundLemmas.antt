-- Names that are bound behind others.
use Rattle.std.proofs.Common.{◌≡◌, ℕ, zero, suc, ◌+◌, ◌-◌, ◌<◌, ◌≤◌, Bool, true, false, ◌||◌, nat_eq, nat_lt, List, [], ◌∷◌, ◌++◌, length, take, drop, get_or, Vec, Global, refl, sym, ap, ◌∙◌, subst, arith, cond, append-nil, append_assoc, le-ltb, lt-ltb, ltb-true, ltb-false, eqb-true, eq-eqb, ne_eqb}
use Rattle.std.specs.Prelude.{if◌then◌else◌}
use Rattle.std.specs.List.{list_any, flat_map}
use Rattle.std.proofs.lemmas.List.{drop_more, drop_all, take_more, take_all, map-append, length-map}
use Rattle.std.proofs.lemmas.Bool.{eqb-false}
use Rattle.std.proofs.lemmas.List.Folds.{list_any-append}
use Rattle.std.proofs.lemmas.Grind.{flat_map-append}
use Rattle.std.proofs.Math.Seq.{take-add, take-append_seam}
use Rattle.indexmap.specs.IndexSet.{insert_key}
use Rattle.tla_tree.specs.declared.op.Binder.{Binder}
use Rattle.tla_tree.specs.Tree.{Name, Word, words, Form, binding, local}
use Rattle.tla_pool.specs.FormOf.{groups_of}
use Rattle.algorithm_limits.specs.DepthsIn.{seen_by, seen_next, Hides}
use Rattle.algorithm_limits.proofs.Tables.{equal, equal_is}

pub hides_none : (old : List Word) → Hides old old []
hides_none old = record { more = []; behind = sym (append-nil old); has = λ x. ap (list_any (equal x)) (sym (append-nil old)) }

pub hides_then : (a b c xs ys : List Word) → Hides a b xs → Hides b c ys → Hides a c (xs ++ ys)
hides_then a b c xs ys h k = record {
  more = h.more ++ k.more;
  behind = k.behind ∙ ap (λ (l : List Word). l ++ k.more) h.behind ∙ append_assoc a h.more k.more;
  has = λ x.
      k.has x ∙ list_any-append (equal x) b ys ∙ ap (λ (t : Bool). t || list_any (equal x) ys) (h.has x) ∙ sym (list_any-append (equal x) (a ++ xs) ys)
      ∙ ap (list_any (equal x)) (append_assoc a xs ys);
}

pub hides_as : (a b xs ys : List Word) → xs ≡ ys → Hides a b xs → Hides a b ys
hides_as a b xs ys e h = subst (λ (l : List Word). Hides a b l) e h

or_known : (a c : Bool) → (c ≡ true → a ≡ true) → a ≡ (a || (c || false))
or_known true c h = refl
or_known false true h = h refl
or_known false false h = refl

pub hides_one : (old : List Word) (x : Word) → Hides old (insert_key equal old x) (x ∷ [])
hides_one old x = by (list_any (equal x) old) refl
  where
    by : (b : Bool) → list_any (equal x) old ≡ b → Hides old (if b then old else old ++ x ∷ []) (x ∷ [])
    by true e = record {
      more = [];
      behind = sym (append-nil old);
      has = λ y. or_known (list_any (equal y) old) (equal y x) (λ h. ap (λ (z : Word). list_any (equal z) old) (equal_is y x h) ∙ e) ∙ sym (list_any-append (equal y) old (x ∷ []));
    }
    by false e = record { more = x ∷ []; behind = refl; has = λ y. refl }

-- ---- names one by one

pub none_more : (f : Word → Bool) (xs : List Word) (i : ℕ) (x : Word) → x ≡ get_or xs i x → i < length xs → list_any f (take i xs) ≡ false → f x ≡ false → list_any f (take (i + 1) xs) ≡ false
none_more f xs i x e l h k =
    ap (list_any f) (take_more xs i x l ∙ ap (λ (z : Word). take i xs ++ z ∷ []) (sym e)) ∙ list_any-append f (take i xs) (x ∷ []) ∙ (λ j. h j || (k j || false))

pub found_at : (f : Word → Bool) (xs : List Word) (i : ℕ) (x : Word) → x ≡ get_or xs i x → i < length xs → f x ≡ true → true ≡ list_any f xs
found_at f [] i x e l h = absurd (omega (arith, l))
found_at f (y ∷ ys) zero x e l h = ap (λ (b : Bool). b || list_any f ys) (sym h ∙ ap f e)
found_at f (y ∷ ys) (suc i) x e l h = or_true (f y) ∙ ap (λ (b : Bool). f y || b) (found_at f ys i x e (omega (arith, l)) h)
  where
    or_true : (b : Bool) → true ≡ (b || true)
    or_true true = refl
    or_true false = refl

pub none_at_all : (f : Word → Bool) (xs : List Word) (i : ℕ) → length xs ≤ i → list_any f (take i xs) ≡ false → false ≡ list_any f xs
none_at_all f xs i l h = sym h ∙ ap (list_any f) (take_all i xs l)

-- ---- few names, and many behind them

pub few_hides : (few many : List Word) (x : Word) → length many ≡ 0 → Hides (few ++ many) ((few ++ x ∷ []) ++ many) (x ∷ [])
few_hides few [] x e = record {
  more = x ∷ [];
  behind = append-nil (few ++ x ∷ []) ∙ ap (λ (l : List Word). l ++ x ∷ []) (sym (append-nil few));
  has = λ y. ap (list_any (equal y)) (append-nil (few ++ x ∷ []) ∙ ap (λ (l : List Word). l ++ x ∷ []) (sym (append-nil few)));
}
few_hides few (m ∷ many) x e = absurd (omega (arith, e))

pub many_hides : (few many : List Word) (x : Word) → Hides (few ++ many) (few ++ insert_key equal many x) (x ∷ [])
many_hides few many x =
    let h = hides_one many x in record {
      more = h.more;
      behind = ap (λ (l : List Word). few ++ l) h.behind ∙ sym (append_assoc few many h.more);
      has = λ y.
          list_any-append (equal y) few (insert_key equal many x) ∙ ap (λ (b : Bool). list_any (equal y) few || b) (h.has y) ∙ sym (list_any-append (equal y) few (many ++ x ∷ []))
          ∙ ap (list_any (equal y)) (sym (append_assoc few many (x ∷ [])));
    }

pub few_kept : (few many : List Word) (n : ℕ) → n ≤ length few → take n few ++ take 0 many ≡ take n (few ++ many)
few_kept few many zero l = refl
few_kept [] many (suc n) l = absurd (omega (arith, l))
few_kept (x ∷ few) many (suc n) l = ap (λ (l : List Word). x ∷ l) (few_kept few many n (omega (arith, l)))

pub many_kept : (few many : List Word) (n : ℕ) → length few ≤ n → few ++ take (n - length few) many ≡ take n (few ++ many)
many_kept [] many n l = ap (λ (k : ℕ). take k many) (omega arith)
many_kept (x ∷ few) many zero l = absurd (omega (arith, l))
many_kept (x ∷ few) many (suc n) l =
    let less : suc n - suc (length few) ≡ n - length few = omega arith in
    ap (λ (k : ℕ). x ∷ (few ++ take k many)) less ∙ ap (λ (l : List Word). x ∷ l) (many_kept few many n (omega (arith, l)))

pub has_few : (f : Word → Bool) (few many : List Word) → list_any f few ≡ true → true ≡ list_any f (few ++ many)
has_few f few many h = ap (λ (b : Bool). b || list_any f many) (sym h) ∙ sym (list_any-append f few many)

pub has_no_more : (f : Word → Bool) (few many : List Word) → list_any f few ≡ false → length many ≡ 0 → false ≡ list_any f (few ++ many)
has_no_more f few [] h e = sym h ∙ ap (list_any f) (sym (append-nil few))
has_no_more f few (m ∷ many) h e = absurd (omega (arith, e))

pub has_many : (f : Word → Bool) (few many : List Word) → list_any f few ≡ false → list_any f many ≡ list_any f (few ++ many)
has_many f few many h = ap (λ (b : Bool). b || list_any f many) (sym h) ∙ sym (list_any-append f few many)

-- so the names that were bound first are those that were bound
pub first_kept : (old new xs : List Word) → Hides old new xs → take (length old) new ≡ old
first_kept old new xs h = ap (take (length old)) h.behind ∙ take-append_seam old h.more

-- ---- in loops

pub names_more : (old now new : List Word) (ns : List Name) (i : ℕ) (n : Name) → n ≡ get_or ns i n → i < length ns → Hides old now (words (take i ns)) → Hides now new (n.word ∷ []) → Hides old new (words (take (i + 1) ns))
names_more old now new ns i n e l h k =
    hides_as old new (words (take i ns) ++ n.word ∷ []) (words (take (i + 1) ns)) (sym (ap words (take_more ns i n l) ∙ map-append (λ (x : Name). x.word) (take i ns) (get_or ns i n ∷ []) ∙ ap (λ (x : Name). words (take i ns) ++ x.word ∷ []) (sym e)))
    (hides_then old now new (words (take i ns)) (n.word ∷ []) h k)

pub groups_more : (old now new : List Word) (gs : List (Vec Name Global)) (i : ℕ) (g : Vec Name Global) → g ≡ get_or gs i g → i < length gs → Hides old now (flat_map words (groups_of (take i gs))) → Hides now new (words g.items)
    → Hides old new (flat_map words (groups_of (take (i + 1) gs)))
groups_more old now new gs i g e l h k =
    hides_as old new (flat_map words (groups_of (take i gs)) ++ words g.items) (flat_map words (groups_of (take (i + 1) gs)))
    (sym (ap (λ (l : List (Vec Name Global)). flat_map words (groups_of l)) (take_more gs i g l)
    ∙ ap (flat_map words) (map-append (λ (g : Vec Name Global). g.items) (take i gs) (get_or gs i g ∷ []))
    ∙ flat_map-append words (groups_of (take i gs)) ((get_or gs i g).items ∷ [])
    ∙ ap (λ (l : List Word). flat_map words (groups_of (take i gs)) ++ l) (append-nil (words (get_or gs i g).items) ∙ ap (λ (x : Vec Name Global). words x.items) (sym e))))
    (hides_then old now new (flat_map words (groups_of (take i gs))) (words g.items) h k)

pub names_all : (old now : List Word) (ns : List Name) (i : ℕ) → length ns ≤ i → Hides old now (words (take i ns)) → Hides old now (words ns)
names_all old now ns i l h = hides_as old now (words (take i ns)) (words ns) (ap words (take_all i ns l)) h

pub groups_all : (old now : List Word) (gs : List (Vec Name Global)) (i : ℕ) → length gs ≤ i → Hides old now (flat_map words (groups_of (take i gs))) → Hides old now (flat_map words (groups_of gs))
groups_all old now gs i l h =
    hides_as old now (flat_map words (groups_of (take i gs))) (flat_map words (groups_of gs)) (ap (λ (l : List (Vec Name Global)). flat_map words (groups_of l)) (take_all i gs l)) h

-- ---- what the parts of a form see

pub seen_first : (m : Form) → seen_by m 0 ≡ []
seen_first (binding b []) = refl
seen_first (binding b (g ∷ gs)) = ap (λ (t : Bool). cond t [] (flat_map words (g ∷ gs))) (lt-ltb 0 (length (g ∷ gs)) (omega arith))
seen_first (local xs) = refl
seen_first m = refl

of_binding : (i n : ℕ) (all : List Word) → cond (nat_lt i n) [] all ++ cond (nat_eq (i + 1) n) all [] ≡ cond (nat_lt (i + 1) n) [] all
of_binding i n all = by (nat_lt i n) refl (nat_eq (i + 1) n) refl
  where
    by : (a : Bool) → nat_lt i n ≡ a → (b : Bool) → nat_eq (i + 1) n ≡ b → cond a [] all ++ cond b all [] ≡ cond (nat_lt (i + 1) n) [] all
    by true l true e = ap (λ (t : Bool). cond t [] all) (sym (le-ltb (i + 1) n (let h = eqb-true (i + 1) n e in omega arith)))
    by true l false e = ap (λ (t : Bool). cond t [] all) (sym (lt-ltb (i + 1) n (let h = ltb-true i n l in let k = eqb-false (i + 1) n e in omega (arith, k))))
    by false l true e = absurd (let h = ltb-false i n l in let k = eqb-true (i + 1) n e in omega arith)
    by false l false e = append-nil all ∙ ap (λ (t : Bool). cond t [] all) (sym (le-ltb (i + 1) n (let h = ltb-false i n l in omega arith)))

pub seen_more : (m : Form) (i : ℕ) → seen_by m i ++ seen_next m i ≡ seen_by m (i + 1)
seen_more (binding b gs) i = of_binding i (length gs) (flat_map words gs)
seen_more (local xs) i = sym (map-append (λ (x : Name). x.word) (take i xs) (take 1 (drop i xs))) ∙ ap words (sym (take-add i 1 xs))
seen_more m i = refl

-- ---- what code binds for the next part

pub last_group : (b : Binder) (gs : List (Vec Name Global)) (i : ℕ) → 0 < length gs → i ≡ length gs - 1 → flat_map words (groups_of gs) ≡ seen_next (binding b (groups_of gs)) i
last_group b gs i l e = ap (λ (t : Bool). cond t (flat_map words (groups_of gs)) []) (sym (eq-eqb (i + 1) (length (groups_of gs)) (let h = length-map gs (λ (g : Vec Name Global). g.items) in omega arith)))

pub no_group : (b : Binder) (gs : List (Vec Name Global)) (i : ℕ) → ((i + 1 ≡ length gs) → ⊥) → [] ≡ seen_next (binding b (groups_of gs)) i
no_group b gs i n = ap (λ (t : Bool). cond t (flat_map words (groups_of gs)) []) (sym (ne_eqb (i + 1) (length (groups_of gs)) (λ e. n (e ∙ length-map gs (λ (g : Vec Name Global). g.items)))))

pub next_name : (xs : List Name) (i : ℕ) (x : Name) → x ≡ get_or xs i x → i < length xs → x.word ∷ [] ≡ seen_next (local xs) i
next_name xs i x e l = sym (ap (λ (l : List Name). words (take 1 l)) (drop_more xs i x l) ∙ ap (λ (y : Name). y.word ∷ []) (sym e))

pub no_name : (xs : List Name) (i : ℕ) → length xs ≤ i → [] ≡ seen_next (local xs) i
no_name xs i l = sym (ap (λ (l : List Name). words (take 1 l)) (drop_all i xs l))
