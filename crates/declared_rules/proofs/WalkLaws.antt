-- That a walk looks at parts and keeps their names, one part after another.
use Rattle.std.proofs.Common.{◌≡◌, ℕ, ◌+◌, ◌<◌, ◌≤◌, List, [], ◌∷◌, ◌++◌, length, take, get_or, slice_index_or, refl, sym, ap, subst, ◌∙◌, append-nil}
use Rattle.std.specs.List.{flat_map}
use Rattle.std.proofs.lemmas.List.{take_all}
use Rattle.std.proofs.lemmas.Grind.{flat_map-append}
use Rattle.tla_tree.specs.Tree.{Name, Tree, words}
use Rattle.declared_rules.specs.declared.walk.Walked.{Walked}
use Rattle.declared_rules.specs.declared.found.Found.{Found}
use Rattle.declared_rules.specs.declared.met.Met.{Met}
use Rattle.declared_rules.specs.Parts.{Part, takes, expr_parts}
use Rattle.declared_rules.specs.Finding as finding
use Rattle.declared_rules.specs.Met as met
use Rattle.declared_rules.specs.Walking.{Adds}
use Rattle.declared_rules.proofs.JoinLaws as join
use Rattle.declared_rules.proofs.MetWalks as words
use Rattle.declared_rules.proofs.ListLaws.{more_of, item_of}

pub words_both : (xs ys : List Part) → met.parts_words xs ++ met.parts_words ys ≡ met.parts_words (xs ++ ys)
words_both xs ys = sym (flat_map-append met.part_words xs ys)

pub adds_none : (ts : List Tree) (k : Walked) → Adds ts k k []
adds_none ts k = record { marks = record { found = refl; met = refl }; found = λ l. join.adds_none ts k.found; met = λ l. words.adds_none ts k.met }

pub adds_as : (ts : List Tree) (j k : Walked) (xs ys : List Part) → xs ≡ ys → Adds ts j k xs → Adds ts j k ys
adds_as ts j k xs ys e g = subst (λ (l : List Part). Adds ts j k l) e g

as_many : (ts : List Tree) (m n : ℕ) → n ≡ m → length ts ≤ m → length ts ≤ n
as_many ts m n e less = subst (λ (k : ℕ). length ts ≤ k) (sym e) less

pub adds_then : (ts : List Tree) (j k l : Walked) (xs ys : List Part) → Adds ts j k xs → Adds ts k l ys → Adds ts j l (xs ++ ys)
adds_then ts j k l xs ys g h = record {
  marks = record { found = h.marks.found ∙ g.marks.found; met = h.marks.met ∙ g.marks.met };
  found = λ less. join.adds_then ts j.found k.found l.found xs ys (g.found less) (h.found (as_many ts _ _ g.marks.found less));
  met = λ less. words.adds_as ts j.met l.met _ _ (words_both xs ys) (words.adds_then ts j.met k.met l.met _ _ (g.met less) (h.met (as_many ts _ _ g.marks.met less)));
}

-- ---- parts that have no names, names of parts, and expressions

pub adds_found : (ts : List Tree) (j k : Walked) (xs : List Part) → k.met ≡ j.met → met.parts_words xs ≡ [] → finding.Adds ts j.found k.found xs → Adds ts j k xs
adds_found ts j k xs e n g = record {
  marks = record { found = g.joins.many; met = ap (λ (m : Met). length m.marks.items) e };
  found = λ less. g;
  met = λ less. subst (λ (m : Met). met.Adds ts j.met m (met.parts_words xs)) (sym e) (words.adds_as ts j.met j.met _ _ (sym n) (words.adds_none ts j.met));
}

pub adds_taken : (ts : List Tree) (j k : Walked) (ns : List Name) → k.found ≡ j.found → met.Adds ts j.met k.met (words ns) → Adds ts j k (takes ns ∷ [])
adds_taken ts j k ns e g = record {
  marks = record { found = ap (λ (f : Found). length f.marks.items) e; met = g.many };
  found = λ less. subst (λ (f : Found). finding.Adds ts j.found f (takes ns ∷ [])) (sym e) (record { joins = join.joins_none ts j.found });
  met = λ less. words.adds_as ts j.met k.met _ _ (sym (append-nil (words ns))) g;
}

module _ (ts : List Tree) (j k : Walked) (e : ℕ) where
  pub adds_marked : (e < length j.found.marks.items → (us : List Tree) → finding.Adds us j.found k.found (expr_parts us e)) → (length j.found.marks.items ≤ e → k.found ≡ j.found)
      → (e < length j.met.marks.items → (us : List Tree) → met.Adds us j.met k.met (met.expr_words us e)) → (length j.met.marks.items ≤ e → k.met ≡ j.met) → Adds ts j k (expr_parts ts e)
  adds_marked f q g p = record {
    marks = record { found = join.many_marked j.found k.found e f q; met = words.many_marked j.met k.met e g p };
    found = join.marked_within ts j.found k.found e f q;
    met = λ less. words.adds_as ts j.met k.met _ _ (sym (append-nil (met.expr_words ts e))) (words.marked_within ts j.met k.met e g p less);
  }

-- ---- one more in a loop

module _ (ts : List Tree) {A : Type 0} (f : A → List Part) (xs : List A) where
  pub adds_more : (j k l : Walked) (i : ℕ) (x : A) → x ≡ get_or xs i x → i < length xs → Adds ts j k (flat_map f (take i xs)) → Adds ts k l (f x) → Adds ts j l (flat_map f (take (i + 1) xs))
  adds_more j k l i x e less g h = adds_as ts j l _ _ (more_of f xs i x e less) (adds_then ts j k l (flat_map f (take i xs)) (f x) g h)

  pub adds_all : (j k : Walked) (i : ℕ) → length xs ≤ i → Adds ts j k (flat_map f (take i xs)) → Adds ts j k (flat_map f xs)
  adds_all j k i less g = adds_as ts j k _ _ (ap (flat_map f) (take_all i xs less)) g

  pub adds_item : (j k l : Walked) (i : ℕ) (d : A) → i < length xs → Adds ts j k (flat_map f (take i xs)) → Adds ts k l (f (slice_index_or xs i d)) → Adds ts j l (flat_map f (take (i + 1) xs))
  adds_item j k l i d less g h = adds_as ts j l _ _ (item_of f xs i d less) (adds_then ts j k l (flat_map f (take i xs)) (f (slice_index_or xs i d)) g h)
