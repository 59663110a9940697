-- What is kept of the modules that are extended tells what they give.
use Rattle.std.proofs.Common.{◌≡◌, ℕ, ◌+◌, ◌<◌, ◌≤◌, length, take, get_or, subst, Bool, true, false, not, ◌&&◌, ◌||◌, nat_eq, List, [], ◌∷◌, ◌++◌, Option, Some, refl, sym, ap, ◌∙◌, cond, bytes_eq, codes}
use Rattle.std.proofs.lemmas.List.{take_more, take_all, map-append}
use Rattle.std.proofs.lemmas.Slice.Eq.{bytes_eq-Decides}
use Rattle.tla_token.specs.Signs.{is_among}
use Rattle.tla_token.specs.Words.{is_standard, standard_names, sequence_names, tlc_names}
use Rattle.tla_tree.specs.declared.op.Op.{Op}
use Rattle.tla_tree.specs.declared.op.Op.TheVariants as op
use Rattle.tla_tree.specs.Tree.{Word, Name, words}
use Rattle.tla_value.specs.StandardModules.{extends_one, has_operator, number_modules, integer_modules, sequence_modules, finite_set_modules, tlc_modules, StandardName}
use Rattle.module_tree.specs.Outside.{Sight, standard_reads, has_standard}
use Rattle.module_outside.specs.declared.modules.Modules.{Modules}
use Rattle.module_outside.specs.declared.standard.Giver.TheVariants as giver
use Rattle.module_outside.specs.declared.standard.Standard.{Standard}
use Rattle.module_outside.specs.ModulesIn.{AreModules, no_modules, with_module, gives, has_op, is_standard_in, standard_of, given}

-- ---- one more module

flipped : (x y : Word) → bytes_eq x y ≡ bytes_eq y x
flipped x y = by (bytes_eq x y) refl (bytes_eq y x) refl
  where
    by : (b : Bool) → bytes_eq x y ≡ b → (c : Bool) → bytes_eq y x ≡ c → b ≡ c
    by true e true f = refl
    by true e false f = sym ((bytes_eq-Decides y x).1 (sym ((bytes_eq-Decides x y).0 e))) ∙ f
    by false e true f = sym e ∙ (bytes_eq-Decides x y).1 (sym ((bytes_eq-Decides y x).0 f))
    by false e false f = refl

pub none_extended : AreModules no_modules []
none_extended = record { naturals = refl; integers = refl; sequences = refl; finite_sets = refl; tlc = refl }

among_more : (ms : List Word) (x w : Word) → is_among (ms ++ x ∷ []) w ≡ (is_among ms w || bytes_eq x w)
among_more [] x w = by (bytes_eq x w)
  where
    by : (b : Bool) → (b || false) ≡ b
    by true = refl
    by false = refl
among_more (m ∷ ms) x w = by (bytes_eq m w) (among_more ms x w)
  where
    by : (b : Bool) → is_among (ms ++ x ∷ []) w ≡ (is_among ms w || bytes_eq x w) → (b || is_among (ms ++ x ∷ []) w) ≡ ((b || is_among ms w) || bytes_eq x w)
    by true h = refl
    by false h = h

pub one_extended : (m : Modules) (ms : List Word) (x : Word) → AreModules m ms → AreModules (with_module m x) (ms ++ x ∷ [])
one_extended m ms x h = record {
  naturals = among_more ms x (codes "Naturals") ∙ (λ i. h.naturals i || flipped x (codes "Naturals") i);
  integers = among_more ms x (codes "Integers") ∙ (λ i. h.integers i || flipped x (codes "Integers") i);
  sequences = among_more ms x (codes "Sequences") ∙ (λ i. h.sequences i || flipped x (codes "Sequences") i);
  finite_sets = among_more ms x (codes "FiniteSets") ∙ (λ i. h.finite_sets i || flipped x (codes "FiniteSets") i);
  tlc = among_more ms x (codes "TLC") ∙ (λ i. h.tlc i || flipped x (codes "TLC") i);
}

pub names_extended : (m k : Modules) (ns : List Name) (i : ℕ) (n : Name) → n ≡ get_or ns i n → i < length ns → k ≡ with_module m n.word → AreModules m (words (take i ns)) → AreModules k (words (take (i + 1) ns))
names_extended m k ns i n e l is h =
    subst (λ (ws : List Word). AreModules k ws) (sym (ap words (take_more ns i n l) ∙ map-append (λ (x : Name). x.word) (take i ns) (get_or ns i n ∷ []) ∙ ap (λ (x : Name). words (take i ns) ++ x.word ∷ []) (sym e)))
    (subst (λ (k : Modules). AreModules k (words (take i ns) ++ n.word ∷ [])) (sym is) (one_extended m (words (take i ns)) n.word h))

pub all_extended : (m : Modules) (ns : List Name) (i : ℕ) → length ns ≤ i → AreModules m (words (take i ns)) → AreModules m (words ns)
all_extended m ns i l h = subst (λ (xs : List Name). AreModules m (words xs)) (take_all i ns l) h

-- ---- what they give

module _ (m : Modules) (ms : List Word) (h : AreModules m ms) where
  or_none : (a b : Bool) → a ≡ b → (a || false) ≡ b
  or_none true b e = e
  or_none false b e = e

  numbers_given : extends_one ms number_modules ≡ (m.naturals || m.integers)
  numbers_given = λ i. h.naturals i || or_none (is_among ms (codes "Integers")) m.integers h.integers i

  pub operators_given : (o : Op) → has_op m o ≡ has_operator ms o
  operators_given op.Plus = sym numbers_given
  operators_given op.Minus = sym numbers_given
  operators_given op.Times = sym numbers_given
  operators_given op.Divide = sym numbers_given
  operators_given op.Modulo = sym numbers_given
  operators_given op.Range = sym numbers_given
  operators_given op.Less = sym numbers_given
  operators_given op.Greater = sym numbers_given
  operators_given op.AtMost = sym numbers_given
  operators_given op.AtLeast = sym numbers_given
  operators_given op.Negate = sym (or_none (is_among ms (codes "Integers")) m.integers h.integers)
  operators_given op.Concat = sym (or_none (is_among ms (codes "Sequences")) m.sequences h.sequences)
  operators_given op.MapsTo = sym (or_none (is_among ms (codes "TLC")) m.tlc h.tlc)
  operators_given op.Override = sym (or_none (is_among ms (codes "TLC")) m.tlc h.tlc)
  operators_given o = refl

  pub standard_given : (w : Word) → is_standard_in m w ≡ is_standard ms w
  standard_given w = λ i. is_among standard_names w || (sym h.sequences i && is_among sequence_names w) || (sym h.tlc i && is_among tlc_names w)

module _ (m : Modules) (v : Sight) (h : AreModules m v.modules) (inf : Bool) (n : ℕ) where
  -- a row of the table, and those after it
  a_row : (b : Bool) (d : StandardName) (s : Standard) (o : Option StandardName) (p : Option Standard) → s.arity ≡ d.arity → s.infinite ≡ d.infinite → gives m s.giver ≡ extends_one v.modules d.modules
      → given m inf p n ≡ standard_reads v inf o n → given m inf (cond b (Some s) p) n ≡ standard_reads v inf (cond b (Some d) o) n
  a_row true d s o p a i g k = λ j. nat_eq (a j) n && (g j && (inf || not (i j)))
  a_row false d s o p a i g k = k

  integers : gives m giver.Integers ≡ extends_one v.modules integer_modules
  integers = sym (or_none m v.modules h (is_among v.modules (codes "Integers")) m.integers h.integers)

  sequences : gives m giver.Sequences ≡ extends_one v.modules sequence_modules
  sequences = sym (or_none m v.modules h (is_among v.modules (codes "Sequences")) m.sequences h.sequences)

  finite_sets : gives m giver.FiniteSets ≡ extends_one v.modules finite_set_modules
  finite_sets = sym (or_none m v.modules h (is_among v.modules (codes "FiniteSets")) m.finite_sets h.finite_sets)

  tlc : gives m giver.Tlc ≡ extends_one v.modules tlc_modules
  tlc = sym (or_none m v.modules h (is_among v.modules (codes "TLC")) m.tlc h.tlc)

  pub names_given : (x : Word) → given m inf (standard_of x) n ≡ has_standard v inf x n
  names_given x =
      a_row (bytes_eq (codes "Nat") x) _ _ _ _ refl refl (sym (numbers_given m v.modules h))
      (a_row (bytes_eq (codes "Int") x) _ _ _ _ refl refl integers
      (a_row (bytes_eq (codes "Seq") x) _ _ _ _ refl refl sequences
      (a_row (bytes_eq (codes "Len") x) _ _ _ _ refl refl sequences
      (a_row (bytes_eq (codes "Append") x) _ _ _ _ refl refl sequences
      (a_row (bytes_eq (codes "Head") x) _ _ _ _ refl refl sequences
      (a_row (bytes_eq (codes "Tail") x) _ _ _ _ refl refl sequences
      (a_row (bytes_eq (codes "SubSeq") x) _ _ _ _ refl refl sequences
      (a_row (bytes_eq (codes "Cardinality") x) _ _ _ _ refl refl finite_sets
      (a_row (bytes_eq (codes "IsFiniteSet") x) _ _ _ _ refl refl finite_sets
      (a_row (bytes_eq (codes "PrintT") x) _ _ _ _ refl refl tlc
      (a_row (bytes_eq (codes "Assert") x) _ _ _ _ refl refl tlc refl)))))))))))
