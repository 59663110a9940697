-- Where no item with a new name begins.
use Rattle.std.proofs.Common.{◌≡◌, ◌<◌, ℕ, Bool, false, List, length, Some, None, sym, ap, ◌∙◌}
use Rattle.tla_tree.specs.Tree.{Word}
use Rattle.step_runner.specs.Fronts.{Text}
use Rattle.step_runner.specs.Items.{item_begins, is_new, NoNewItem}

pub none_some : {A : Type 0} (a : A) → None ≡ Some a → ⊥
none_some a e = cc

pub same_some : {A : Type 0} (a b : A) → Some a ≡ Some b → a ≡ b
same_some a b e = cc

pub no_item : (bullet : Bool) (known before : List Word) (x : Text) (at : ℕ) → at < length x → item_begins bullet x at ≡ None → NoNewItem bullet known before x at
no_item bullet known before x at l e = (l, λ to it i. absurd (none_some (it.0, i.0) (sym e ∙ i.1)))

pub old_name : (bullet : Bool) (known before : List Word) (x : Text) (at : ℕ) (w : Word) (p : ℕ) → at < length x → item_begins bullet x at ≡ Some (w, p) → is_new known before w ≡ false
    → NoNewItem bullet known before x at
old_name bullet known before x at w p l e bad =
    (l, λ to it i. let same : (it.0, i.0) ≡ (w, p) = same_some (it.0, i.0) (w, p) (sym i.1 ∙ e) in ap (λ (q : Word × ℕ). is_new known before q.0) same ∙ bad)
