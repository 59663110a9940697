-- No offence passes a test in lists of names where none does against the rules on reserved names and on names declared twice, and the other way.
use Rattle.std.proofs.Common.{◌≡◌, List, [], ◌∷◌, ◌++◌, Bool, true, false, ◌||◌, bytes_eq, refl, sym, ap, ◌∙◌, append_assoc}
use Rattle.std.specs.List.{list_any, AllByRecursion}
use Rattle.tla_token.specs.declared.rule.Rule.TheVariants.{Reserved, Duplicate}
use Rattle.tla_token.specs.declared.rule.Refusal.{Refusal}
use Rattle.tla_token.specs.Signs.{is_among}
use Rattle.tla_token.specs.Words.{is_own}
use Rattle.tla_tree.specs.Tree.{Name, Word, words}
use Rattle.tla_value.specs.Outside.{Outside}
use Rattle.pcal_tree.specs.Offences.{offence_if}
use Rattle.pcal_tree.specs.OffencesNames.{repeated}
use Rattle.pcal_tree.specs.OffencesReserved.{reserved_name}
use Rattle.pcal_tree.proofs.SetLaws.{none_of_both, none_together}
use Rattle.module_outside.specs.declared.modules.Modules.{Modules}
use Rattle.module_outside.specs.ModulesIn.{AreModules}
use Rattle.module_outside.proofs.ModuleLaws.{standard_given}
use Rattle.declared_rules.specs.Finding.{reserved_in, seen_offences, seen_after}

-- ---- names that were seen

pub repeated_same : (s r : List Word) (ns : List Name) → ((w : Word) → is_among s w ≡ is_among r w) → repeated s ns ≡ repeated r ns
repeated_same s r [] e = refl
repeated_same s r (n ∷ ns) e = λ i. offence_if (e n.word i) Duplicate n.place ++ repeated_same (n.word ∷ s) (n.word ∷ r) ns (λ w. ap (λ (b : Bool). bytes_eq n.word w || b) (e w)) i

pub repeated_both : (s : List Word) (xs ys : List Name) → repeated s (xs ++ ys) ≡ repeated s xs ++ repeated (seen_after s xs) ys
repeated_both s [] ys = refl
repeated_both s (n ∷ ns) ys =
    ap (λ (rs : List Refusal). offence_if (is_among s n.word) Duplicate n.place ++ rs) (repeated_both (n.word ∷ s) ns ys)
    ∙ sym (append_assoc (offence_if (is_among s n.word) Duplicate n.place) (repeated (n.word ∷ s) ns) (repeated (seen_after (n.word ∷ s) ns) ys))

after_same : (s : List Word) (xs : List Name) (w : Word) → is_among (seen_after s xs) w ≡ (is_among (words xs) w || is_among s w)
after_same s [] w = refl
after_same s (n ∷ ns) w = after_same (n.word ∷ s) ns w ∙ turned (is_among (words ns) w) (bytes_eq n.word w) (is_among s w)
  where
    turned : (a b c : Bool) → (a || (b || c)) ≡ ((b || a) || c)
    turned true true c = refl
    turned true false c = refl
    turned false true c = refl
    turned false false c = refl

pub after_words : (xs : List Name) (w : Word) → is_among (seen_after [] xs) w ≡ is_among (words xs) w
after_words xs w = after_same [] xs w ∙ or_nothing (is_among (words xs) w)
  where
    or_nothing : (a : Bool) → (a || false) ≡ a
    or_nothing true = refl
    or_nothing false = refl

-- where fewer are seen, none is found either
pub fewer_seen : (f : Refusal → Bool) (s r : List Word) (ns : List Name) → ((w : Word) → is_among s w ≡ true → is_among r w ≡ true) → list_any f (repeated r ns) ≡ false → list_any f (repeated s ns) ≡ false
fewer_seen f s r [] e h = refl
fewer_seen f s r (n ∷ ns) e h =
    let q = none_of_both f (offence_if (is_among r n.word) Duplicate n.place) (repeated (n.word ∷ r) ns) h in
    none_together f (offence_if (is_among s n.word) Duplicate n.place) (repeated (n.word ∷ s) ns) (by (is_among s n.word) (is_among r n.word) (e n.word) q.0)
    (fewer_seen f (n.word ∷ s) (n.word ∷ r) ns (λ w. wider (bytes_eq n.word w) (is_among s w) (is_among r w) (e w)) q.1)
  where
    by : (a b : Bool) → (a ≡ true → b ≡ true) → list_any f (offence_if b Duplicate n.place) ≡ false → list_any f (offence_if a Duplicate n.place) ≡ false
    by false b g k = refl
    by true true g k = k
    by true false g k = let c = g refl in absurd cc

    wider : (c a b : Bool) → (a ≡ true → b ≡ true) → (c || a) ≡ true → (c || b) ≡ true
    wider true a b g k = refl
    wider false a b g k = g k

-- ---- lists of names

module _ (f : Refusal → Bool) (m : Modules) (o : Outside) (h : AreModules m o.extended) where
  abbrev pub PlainName : Name → Type 0
  PlainName n = list_any f (reserved_name o n) ≡ false

  abbrev pub OnceEach : List Name → Type 0
  OnceEach ns = list_any f (repeated [] ns) ≡ false

  pub name_same : (n : Name) → reserved_in m n ≡ reserved_name o n
  name_same n = ap (λ (b : Bool). offence_if (is_own n.word || b) Reserved n.place) (standard_given m o.extended h n.word)

  pub to_name : (n : Name) → list_any f (reserved_in m n) ≡ false → PlainName n
  to_name n k = ap (list_any f) (sym (name_same n)) ∙ k

  pub of_name : (n : Name) → PlainName n → list_any f (reserved_in m n) ≡ false
  of_name n k = ap (list_any f) (name_same n) ∙ k

  pub to_list : (s : List Word) (ns : List Name) → list_any f (seen_offences m s ns) ≡ false → AllByRecursion PlainName ns × (list_any f (repeated s ns) ≡ false)
  to_list s [] k = (tt, refl)
  to_list s (n ∷ ns) k =
      let q = none_of_both f (reserved_in m n ++ offence_if (is_among s n.word) Duplicate n.place) (seen_offences m (n.word ∷ s) ns) k in
      let r = none_of_both f (reserved_in m n) (offence_if (is_among s n.word) Duplicate n.place) q.0 in
      let t = to_list (n.word ∷ s) ns q.1 in
      ((to_name n r.0, t.0), none_together f (offence_if (is_among s n.word) Duplicate n.place) (repeated (n.word ∷ s) ns) r.1 t.1)

  pub of_list : (s : List Word) (ns : List Name) → AllByRecursion PlainName ns → list_any f (repeated s ns) ≡ false → list_any f (seen_offences m s ns) ≡ false
  of_list s [] k l = refl
  of_list s (n ∷ ns) k l =
      let q = none_of_both f (offence_if (is_among s n.word) Duplicate n.place) (repeated (n.word ∷ s) ns) l in
      none_together f (reserved_in m n ++ offence_if (is_among s n.word) Duplicate n.place) (seen_offences m (n.word ∷ s) ns)
      (none_together f (reserved_in m n) (offence_if (is_among s n.word) Duplicate n.place) (of_name n k.0) q.0) (of_list (n.word ∷ s) ns k.1 q.1)
