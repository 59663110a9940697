-- As an operand each tree is written as a primary, so its reading rests on no rank.
use Rattle.std.proofs.Common.{◌≡◌, refl, true, List, [], ◌∷◌}
use Rattle.tla_tree.specs.declared.op.Binder.{Binder}
use Rattle.tla_tree.specs.declared.op.Binder.TheVariants as binder
use Rattle.tla_tree.specs.Tree.{Name, PathStep, Slot, Strict, Form, Tree, node}
use Rattle.tla_tree.specs.Tree as tree
use Rattle.tla_tree.specs.Spelling.{Phrase, Settings, Path, head, primary}
use Rattle.tla_tree.specs.Spelling as spelled
use Rattle.tla_tree.specs.laws.Bracketed.{Part, part, parts, form_part, path_of, right_side, slots_of, except_phrase}

abbrev IsPrimary : Phrase → Type 0
IsPrimary a = head a ≡ primary

path_primary : (ss : List PathStep) (xs : List Part) (k : Path → List Part → Phrase) → ((p : Path) (ys : List Part) → IsPrimary (k p ys)) → IsPrimary (path_of ss xs k)
path_primary [] xs k h = h spelled.path_end xs
path_primary (tree.index ∷ ss) (a ∷ xs) k h = path_primary ss xs _ (λ p ys. h _ ys)
path_primary (tree.index ∷ ss) [] k h = refl
path_primary (tree.field x ∷ ss) xs k h = path_primary ss xs _ (λ p ys. h _ ys)

right_primary : (xs : List Part) (k : Phrase → List Part → Phrase) → ((a : Phrase) (ys : List Part) → IsPrimary (k a ys)) → IsPrimary (right_side xs k)
right_primary [] k h = refl
right_primary (a ∷ xs) k h = h _ xs

slots_primary : (s : Slot) (ss : List Slot) (xs : List Part) (k : Settings → Phrase) → ((r : Settings) → IsPrimary (k r)) → IsPrimary (slots_of s ss xs k)
slots_primary s [] xs k h = path_primary s.path xs _ (λ p ys. right_primary ys _ (λ a zs. h _))
slots_primary s (t ∷ ss) xs k h = path_primary s.path xs _ (λ p ys. right_primary ys _ (λ a zs. slots_primary t ss zs _ (λ r. h _)))

except_primary : (ss : List Slot) (xs : List Part) → IsPrimary (except_phrase ss xs)
except_primary [] xs = refl
except_primary (s ∷ ss) [] = refl
except_primary (s ∷ ss) (a ∷ xs) = slots_primary s ss xs _ (λ r. refl)

strict_primary : (m : Strict) (xs : List Part) → IsPrimary (form_part (tree.strict m) xs true)
strict_primary (tree.operator o) xs = refl
strict_primary tree.set_of [] = refl
strict_primary tree.set_of (a ∷ xs) = refl
strict_primary tree.tuple [] = refl
strict_primary tree.tuple (a ∷ xs) = refl
strict_primary (tree.fields []) xs = refl
strict_primary (tree.fields (y ∷ ys)) [] = refl
strict_primary (tree.fields (y ∷ ys)) (a ∷ xs) = refl
strict_primary (tree.records []) xs = refl
strict_primary (tree.records (y ∷ ys)) [] = refl
strict_primary (tree.records (y ∷ ys)) (a ∷ xs) = refl
strict_primary tree.functions [] = refl
strict_primary tree.functions (a ∷ []) = refl
strict_primary tree.functions (a ∷ b ∷ []) = refl
strict_primary tree.functions (a ∷ b ∷ c ∷ xs) = refl
strict_primary tree.apply [] = refl
strict_primary tree.apply (a ∷ []) = refl
strict_primary tree.apply (a ∷ b ∷ []) = refl
strict_primary tree.apply (a ∷ b ∷ c ∷ xs) = refl
strict_primary (tree.select x) [] = refl
strict_primary (tree.select x) (a ∷ []) = refl
strict_primary (tree.select x) (a ∷ b ∷ xs) = refl
strict_primary (tree.except ss) xs = except_primary ss xs

binding_primary : (b : Binder) (ys : List (List Name)) (xs : List Part) → IsPrimary (form_part (tree.binding b ys) xs true)
binding_primary binder.ForAll gs xs = refl
binding_primary binder.Exists gs xs = refl
binding_primary binder.Filter [] xs = refl
binding_primary binder.Filter ([] ∷ gs) xs = refl
binding_primary binder.Filter ((y ∷ ys) ∷ gs) [] = refl
binding_primary binder.Filter ((y ∷ ys) ∷ gs) (a ∷ xs) = refl
binding_primary binder.Image [] xs = refl
binding_primary binder.Image ([] ∷ gs) xs = refl
binding_primary binder.Image ((y ∷ ys) ∷ gs) [] = refl
binding_primary binder.Image ((y ∷ ys) ∷ gs) (a ∷ xs) = refl
binding_primary binder.Function [] xs = refl
binding_primary binder.Function ([] ∷ gs) xs = refl
binding_primary binder.Function ((y ∷ ys) ∷ gs) [] = refl
binding_primary binder.Function ((y ∷ ys) ∷ gs) (a ∷ xs) = refl

form_primary : (m : Form) (xs : List Part) → IsPrimary (form_part m xs true)
form_primary (tree.strict m) xs = strict_primary m xs
form_primary (tree.binding b ys) xs = binding_primary b ys xs
form_primary (tree.operator_call x) [] = refl
form_primary (tree.operator_call x) (a ∷ xs) = refl
form_primary (tree.number n) xs = refl
form_primary (tree.string x) xs = refl
form_primary (tree.truth b) xs = refl
form_primary tree.booleans xs = refl
form_primary tree.strings xs = refl
form_primary (tree.name x) xs = refl
form_primary (tree.next x) xs = refl
form_primary tree.conjunction xs = refl
form_primary tree.disjunction xs = refl
form_primary tree.implication xs = refl
form_primary (tree.member b) xs = refl
form_primary tree.if_then_else xs = refl
form_primary (tree.cases b) xs = refl
form_primary (tree.local ys) xs = refl

pub operand_primary : (t : Tree) → head (part t true) ≡ primary
operand_primary (node m at ts) = form_primary m (parts ts)
