-- Each kind of item in memory stands for its form, if its parts do; and it still does so in a pool that grew.
use Rattle.std.proofs.Common.{ℕ, List, Vec, Global, ap, ◌∙◌, arith}
use Rattle.tla_token.specs.declared.place.Place.{Place}
use Rattle.tla_tree.specs.Tree.{Tree}
use Rattle.tla_tree.specs.Pool.{Keeps}
use Rattle.tla_tree.specs.Spelling.{Phrase}
use Rattle.module_tree.specs.Module as tree
use Rattle.module_tree.specs.Grammar.{choice_form, either_form, ListForm, BranchForms}
use Rattle.module_write.specs.declared.«module».Item.{Item}
use Rattle.module_write.specs.declared.«module».Item.TheVariants.{Choice, Either}
use Rattle.module_write.proofs.InMemoryGrown.{items_at-kept}
use Rattle.module_write.proofs.ItemEquations.{choice_at, either_at, past_choice, past_either}
use Rattle.region_items.specs.Stand.{IsTree, IsItem, AreItems, AreBranches}

-- ---- in a pool that grew
module _ {ts us : List Tree} (k : Keeps ts us) where
  pub tree_kept : {e : ℕ} {a : Phrase} → IsTree ts e a → IsTree us e a
  tree_kept {e} {a} h = record { below = omega (arith, h.below, k.longer); tree = k.same e h.below ∙ h.tree }

  pub items_kept : {xs : List Item} {f : ListForm} → AreItems ts xs f → AreItems us xs f
  items_kept {xs} {f} h = record { below = omega (arith, h.below, k.longer); means = items_at-kept ts us k xs h.below ∙ h.means }

-- ---- kinds of items
module _ {ts : List Tree} where
  pub choice_stands : {e : ℕ} {a : Phrase} (is js : Vec Item Global) {f g : ListForm} (p q s : Place) → IsTree ts e a → AreItems ts is.items f → AreItems ts js.items g → IsItem ts (Choice e is js) (choice_form p a q f s g)
  choice_stands {e} {a} is js {f} {g} p q s h k m = record { below = omega (arith, past_choice e is js, h.below, k.below, m.below); means = choice_at ts e is js ∙ (λ j. tree.if_then_else (h.tree j) (k.means j) (m.means j)) }

  pub either_stands : (bs : Vec (Vec Item Global) Global) {f : BranchForms} → AreBranches ts bs.items f → IsItem ts (Either bs) (either_form f)
  either_stands bs {f} h = record { below = omega (arith, past_either bs, h.below); means = either_at ts bs ∙ ap tree.either h.means }
