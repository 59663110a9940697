-- That offences are found part by part.
use Rattle.std.proofs.Common.{◌≡◌, ◌⊎◌, inl, inr, ℕ, zero, suc, Vec, Global, ◌+◌, ◌<◌, ◌≤◌, List, [], ◌∷◌, ◌++◌, length, take, get_or, slice_index_or, set, Bool, true, false, ◌||◌, Option, Result, Ok, Err, OnOk, cond, refl, sym, ap, subst, ◌∙◌, append-nil, append_assoc, arith}
use Rattle.std.specs.List.{list_any, flat_map}
use Rattle.std.proofs.lemmas.Bool.{cases_lt}
use Rattle.std.proofs.lemmas.List.{take_all, length-set}
use Rattle.std.proofs.lemmas.List.Folds.{list_any-append}
use Rattle.std.proofs.lemmas.Grind.{flat_map-append}
use Rattle.std.proofs.Math.Bool.{or_comm}
use Rattle.tla_token.specs.declared.rule.Refusal.{Refusal}
use Rattle.tla_tree.specs.Tree.{Tree}
use Rattle.tla_tree.specs.Pool.{at}
use Rattle.pcal_tree.specs.Offences.{first}
use Rattle.pcal_tree.proofs.SetLaws.{Same}
use Rattle.pcal_tree.proofs.FirstLaws.{same_first}
use Rattle.algorithm_answer.specs.Joined.{joined}
use Rattle.algorithm_answer.proofs.Joins.{joined_assoc, joined_none, joined_swapped, first_append}
use Rattle.module_outside.specs.declared.modules.Modules.{Modules}
use Rattle.declared_rules.specs.declared.found.Found.{Found}
use Rattle.declared_rules.specs.Parts.{Part, expr_parts}
use Rattle.declared_rules.specs.Finding.{tree_offences, part_offences, parts_offences, marked, finding, Joins, Adds}
use Rattle.declared_rules.proofs.ListLaws.{more_of, item_of}

-- where there is memory
pub on_ok : {A E P Q : Type 0} (r : Result A E) → (P → Q) → OnOk r P → OnOk r Q
on_ok (Ok a) f h = f h
on_ok (Err e) f h = tt

pub on_ok_two : {A E P Q R : Type 0} (r : Result A E) → (P → Q → R) → OnOk r P → OnOk r Q → OnOk r R
on_ok_two (Ok a) f h g = f h g
on_ok_two (Err e) f h g = tt

-- ---- offences after others

pub joins_none : (ts : List Tree) (k : Found) → Joins ts k k []
joins_none ts k = record { modules = refl; many = refl; value = sym (joined_none (finding ts k)) }

pub joins_then : (ts : List Tree) (j k l : Found) (rs qs : List Refusal) → Joins ts j k rs → Joins ts k l qs → Joins ts j l (rs ++ qs)
joins_then ts j k l rs qs g h = record {
  modules = h.modules ∙ g.modules;
  many = h.many ∙ g.many;
  value =
      h.value ∙ ap (λ (o : Option Refusal). joined o (first qs)) g.value ∙ joined_assoc (finding ts j) (first rs) (first qs)
      ∙ ap (joined (finding ts j)) (sym (first_append rs qs));
}

pub joins_as : (ts : List Tree) (j k : Found) (rs qs : List Refusal) → rs ≡ qs → Joins ts j k rs → Joins ts j k qs
joins_as ts j k rs qs e g = subst (λ (l : List Refusal). Joins ts j k l) e g

pub adds_none : (ts : List Tree) (k : Found) → Adds ts k k []
adds_none ts k = record { joins = joins_none ts k }

pub adds_as : (ts : List Tree) (j k : Found) (xs ys : List Part) → xs ≡ ys → Adds ts j k xs → Adds ts j k ys
adds_as ts j k xs ys e g = subst (λ (l : List Part). Adds ts j k l) e g

pub adds_then : (ts : List Tree) (j k l : Found) (xs ys : List Part) → Adds ts j k xs → Adds ts k l ys → Adds ts j l (xs ++ ys)
adds_then ts j k l xs ys g h = record {
  joins =
      joins_as ts j l _ _ (sym (flat_map-append (part_offences j.modules) xs ys))
      (joins_then ts j k l _ _ g.joins (subst (λ (m : Modules). Joins ts k l (parts_offences m ys)) g.joins.modules h.joins));
}

-- one part
pub adds_one : (ts : List Tree) (j k : Found) (x : Part) → Joins ts j k (part_offences j.modules x) → Adds ts j k (x ∷ [])
adds_one ts j k x g = record { joins = joins_as ts j k _ _ (sym (append-nil (part_offences j.modules x))) g }

-- ---- one offence, and one mark

pub joins_first : (ts : List Tree) (j k : Found) (rs : List Refusal) → k.modules ≡ j.modules → k.marks ≡ j.marks → k.first ≡ joined j.first (first rs) → Joins ts j k rs
joins_first ts j k rs m e f = record {
  modules = m;
  many = ap (λ (v : Vec Bool Global). length v.items) e;
  value =
      (λ i. joined (f i) (first (marked (m i) ts (e i).items))) ∙ joined_swapped j.first (first rs) (first (marked j.modules ts j.marks.items));
}

one_more_mark : (m : Modules) (ts : List Tree) (bs : List Bool) (e : ℕ) → e < length bs → Same (marked m ts (set bs e true)) (marked m ts bs ++ tree_offences m false (at ts e))
one_more_mark m [] bs e l f = refl
one_more_mark m (t ∷ ts) [] e l f = absurd (omega (arith, l))
one_more_mark m (t ∷ ts) (b ∷ bs) zero l f =
    list_any-append f own rest ∙ by b ∙ sym (list_any-append f (cond b own [] ++ rest) own)
  where
    own : List Refusal
    own = tree_offences m false t

    rest : List Refusal
    rest = marked m ts bs

    again : (a b : Bool) → (a || b) ≡ ((a || b) || a)
    again true b = refl
    again false true = refl
    again false false = refl

    by : (b : Bool) → (list_any f own || list_any f rest) ≡ (list_any f (cond b own [] ++ rest) || list_any f own)
    by true = again (list_any f own) (list_any f rest) ∙ ap (λ (c : Bool). c || list_any f own) (sym (list_any-append f own rest))
    by false = or_comm (list_any f own) (list_any f rest)
one_more_mark m (t ∷ ts) (b ∷ bs) (suc e) l f =
    list_any-append f (cond b (tree_offences m false t) []) (marked m ts (set bs e true))
    ∙ ap (λ (c : Bool). list_any f (cond b (tree_offences m false t) []) || c) (one_more_mark m ts bs e (omega (arith, l)) f)
    ∙ sym (list_any-append f (cond b (tree_offences m false t) []) (marked m ts bs ++ tree_offences m false (at ts e)))
    ∙ ap (list_any f) (sym (append_assoc (cond b (tree_offences m false t) []) (marked m ts bs) (tree_offences m false (at ts e))))

pub adds_marked : (ts : List Tree) (j k : Found) (e : ℕ) → e < length j.marks.items → k.modules ≡ j.modules → k.first ≡ j.first → k.marks.items ≡ set j.marks.items e true → Adds ts j k (expr_parts ts e)
adds_marked ts j k e l m f s = record {
  joins = record {
    modules = m;
    many = ap (λ (bs : List Bool). length bs) s ∙ length-set j.marks.items e true;
    value =
        (λ i. joined (f i) (first (marked (m i) ts (s i))))
        ∙ ap (joined j.first) (same_first (marked j.modules ts (set j.marks.items e true)) (marked j.modules ts j.marks.items ++ own) (one_more_mark j.modules ts j.marks.items e l) ∙ first_append (marked j.modules ts j.marks.items) own)
        ∙ sym (joined_assoc j.first (first (marked j.modules ts j.marks.items)) (first own))
        ∙ ap (λ (rs : List Refusal). joined (finding ts j) (first rs)) (sym (append-nil own));
  };
}
  where
    own : List Refusal
    own = tree_offences j.modules false (at ts e)

-- a number past the pool is an expression without offences
past_pool : (m : Modules) (ts : List Tree) (e : ℕ) → length ts ≤ e → parts_offences m (expr_parts ts e) ≡ []
past_pool m [] e l = refl
past_pool m (t ∷ ts) zero l = absurd (omega (arith, l))
past_pool m (t ∷ ts) (suc e) l = past_pool m ts e (omega (arith, l))

-- where the pool has no more than there are marks
pub marked_within : (ts : List Tree) (j k : Found) (e : ℕ) → (e < length j.marks.items → (us : List Tree) → Adds us j k (expr_parts us e)) → (length j.marks.items ≤ e → k ≡ j) → length ts ≤ length j.marks.items → Adds ts j k (expr_parts ts e)
marked_within ts j k e g p less = by (cases_lt e (length j.marks.items))
  where
    by : (e < length j.marks.items) ⊎ (length j.marks.items ≤ e) → Adds ts j k (expr_parts ts e)
    by (inl h) = g h ts
    by (inr h) = subst (λ (z : Found). Adds ts j z (expr_parts ts e)) (sym (p h)) (record { joins = joins_as ts j j _ _ (sym (past_pool j.modules ts e (omega (arith, h, less)))) (joins_none ts j) })

-- as many marks, whether there is one for the number or not
pub many_marked : (j k : Found) (e : ℕ) → (e < length j.marks.items → (us : List Tree) → Adds us j k (expr_parts us e)) → (length j.marks.items ≤ e → k ≡ j) → length k.marks.items ≡ length j.marks.items
many_marked j k e g p = by (cases_lt e (length j.marks.items))
  where
    by : (e < length j.marks.items) ⊎ (length j.marks.items ≤ e) → length k.marks.items ≡ length j.marks.items
    by (inl h) = (g h []).joins.many
    by (inr h) = ap (λ (z : Found). length z.marks.items) (p h)

-- ---- one more in a loop

module _ (ts : List Tree) {A : Type 0} (f : A → List Part) (xs : List A) where
  pub adds_more : (j k l : Found) (i : ℕ) (x : A) → x ≡ get_or xs i x → i < length xs → Adds ts j k (flat_map f (take i xs)) → Adds ts k l (f x) → Adds ts j l (flat_map f (take (i + 1) xs))
  adds_more j k l i x e less g h = adds_as ts j l _ _ (more_of f xs i x e less) (adds_then ts j k l (flat_map f (take i xs)) (f x) g h)

  pub adds_all : (j k : Found) (i : ℕ) → length xs ≤ i → Adds ts j k (flat_map f (take i xs)) → Adds ts j k (flat_map f xs)
  adds_all j k i less g = adds_as ts j k _ _ (ap (flat_map f) (take_all i xs less)) g

  pub adds_item : (j k l : Found) (i : ℕ) (d : A) → i < length xs → Adds ts j k (flat_map f (take i xs)) → Adds ts k l (f (slice_index_or xs i d)) → Adds ts j l (flat_map f (take (i + 1) xs))
  adds_item j k l i d less g h = adds_as ts j l _ _ (item_of f xs i d less) (adds_then ts j k l (flat_map f (take i xs)) (f (slice_index_or xs i d)) g h)
