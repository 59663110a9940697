-- Whether labels are added at all.
use Rattle.std.proofs.Common.{◌≡◌, reverse, ◌-◌, ◌≤◌, nat_eq, List, [], ◌∷◌, map, Bool, true, false, ◌||◌, ◌&&◌, cond, Option, Some, None, refl, sym, ap, ◌∙◌, subst, codes, arith}
use Rattle.std.proofs.lemmas.Bool.{eqb-true, false_from_ne_true}
use Rattle.tla_token.specs.declared.place.Place.{Place}
use Rattle.tla_tree.specs.Tree.{Tree, Name}
use Rattle.pcal_tree.specs.declared.algorithm.Algorithm as code
use Rattle.pcal_tree.specs.declared.algorithm.Macro as code_macro
use Rattle.pcal_tree.specs.laws.MacroSummaries.{summaries}
use Rattle.label_steps.specs.declared.known.Known.{Known}
use Rattle.label_steps.specs.KnownIn.{AreMacros}
use Rattle.pcal_tree.specs.Algorithm as tree
use Rattle.pcal_tree.specs.InMemory.{macro_at, main_at, algorithm_at}
use Rattle.pcal_tree.specs.Labelled.{labelled, with_labels, is_alone, typed_labels}
use Rattle.pcal_tree.specs.OffencesLabels.{Label, all_labels}
use Rattle.pcal_tree.specs.OffencesSteps.{call_effect}
use Rattle.pcal_tree.specs.Tests.{is_empty}
use Rattle.algorithm_limits.specs.declared.count.Count.{Count}
use Rattle.algorithm_limits.specs.Counting.{none_of, after_one, counted_one, counted}
use Rattle.algorithm_limits.specs.LabelsIn.{labels_in}
use Rattle.algorithm_limits.proofs.LabelWalks.{labels_are}

one_less : (o : Option Place) (c : Count) (p : Place) → (after_one o c p).left ≤ c.left
one_less (Some q) c p = omega arith
one_less None c p = by (nat_eq c.left 0)
  where
    by : (b : Bool) → (cond {A = Count} b (record { left = 0; past = Some p }) (record { left = c.left - 1; past = None })).left ≤ c.left
    by true = omega arith
    by false = omega arith

all_less : (xs : List Name) (c : Count) → (counted c xs).left ≤ c.left
all_less [] c = omega arith
all_less (x ∷ xs) c = let h = all_less xs (counted_one c x.place) in let k = one_less c.past c x.place in omega (arith, h, k)

none_counted : (xs : List Name) → nat_eq (counted (none_of 8192) xs).left 8192 ≡ is_empty xs
none_counted [] = refl
none_counted (x ∷ xs) = false_from_ne_true _ (λ e. let h = all_less xs (record { left = 8191; past = None }) in let k = eqb-true _ _ e in absurd (omega (arith, h, k)))

none_mapped : {A X Y : Type 0} (f : A → X) (g : A → Y) (xs : List A) → is_empty (map f xs) ≡ is_empty (map g xs)
none_mapped f g [] = refl
none_mapped f g (x ∷ xs) = refl

pub none_typed : (ts : List Tree) (x : code.Algorithm) (c : Count) → c ≡ counted (none_of 8192) (labels_in ts x) → nat_eq c.left 8192 ≡ is_empty (typed_labels (algorithm_at ts x))
none_typed ts x c e =
    ap (λ (d : Count). nat_eq d.left 8192) e ∙ none_counted (labels_in ts x) ∙ ap (λ (xs : List Name). is_empty xs) (sym (labels_are ts x))
    ∙ none_mapped (λ (l : Label). l.name) (λ (l : Label). l.name.word) (all_labels (algorithm_at ts x))

abbrev pub Added : Bool → tree.Algorithm → Bool
Added forced a = forced || (is_alone a.main && is_empty (typed_labels a))

pub added_if_forced : (forced : Bool) (a : tree.Algorithm) → forced ≡ true → true ≡ Added forced a
added_if_forced forced a e = sym (ap (λ (b : Bool). Added b a) e)

pub added_alone : (forced : Bool) (ts : List Tree) (x : code.Algorithm) (b : Bool) → forced ≡ false → is_alone (main_at ts x.main) ≡ true → b ≡ is_empty (typed_labels (algorithm_at ts x)) → b ≡ Added forced (algorithm_at ts x)
added_alone forced ts x b e h k = k ∙ (λ i. sym e i || (sym h i && is_empty (typed_labels (algorithm_at ts x))))

pub not_added : (forced : Bool) (ts : List Tree) (x : code.Algorithm) → forced ≡ false → is_alone (main_at ts x.main) ≡ false → false ≡ Added forced (algorithm_at ts x)
not_added forced ts x e h = λ i. sym e i || (sym h i && is_empty (typed_labels (algorithm_at ts x)))

pub stays : (forced : Bool) (a : tree.Algorithm) (b : Bool) → b ≡ Added forced a → b ≡ false → a ≡ labelled forced a
stays forced a b e h = ap (λ (c : Bool). cond c (with_labels call_effect (codes "Lbl_") a) a) (sym h ∙ e)

pub changes : (forced : Bool) (a : tree.Algorithm) (b : Bool) → b ≡ Added forced a → b ≡ true → labelled true a ≡ labelled forced a
changes forced a b e h = ap (λ (c : Bool). cond c (with_labels call_effect (codes "Lbl_") a) a) (sym h ∙ e)

pub known_as : (ts : List Tree) (ds es : List code_macro.Macro) (k : Known) → ds ≡ es → AreMacros k (summaries (reverse (map (macro_at ts) ds))) → AreMacros k (summaries (reverse (map (macro_at ts) es)))
known_as ts ds es k e h = subst (λ (xs : List code_macro.Macro). AreMacros k (summaries (reverse (map (macro_at ts) xs)))) e h
