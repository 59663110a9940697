-- Items that can be written but that their names are of some kind.
use Rattle.std.proofs.Common.{◌≡◌, Bool, true, false, cond, Some, None, refl, bytes_eq}
use Rattle.tla_token.specs.declared.place.Place.{Place}
use Rattle.tla_tree.specs.Tree.{Word, Tree, Graft}
use Rattle.tla_tree.specs.laws.Writable.{IsIdentifier}
use Rattle.module_tree.specs.Module.{Item, test, setting, unchanged, exists, local, if_then_else, either, Items, no_items, item, Branches, no_branches, branch}
use Rattle.module_tree.specs.laws.WritableRegion.{AreNames, IsItem, AreItems, AreBranches}
use Rattle.action_builder.specs.SingleProcess.{in_place_of, graft_item, graft_items, graft_branches}
use Rattle.action_builder.specs.Written.{onto, filled}
use Rattle.action_builder.proofs.FitTrees.{Fits, IsPut, Puts, fit_writable, graft_fits}

abbrev mutual
  pub ItemFits : (Word → Type 0) → Item → Type 0
  ItemFits N (test e) = Fits N e
  ItemFits N (setting x e) = IsIdentifier x × Fits N e
  ItemFits N (unchanged xs) = AreNames xs
  ItemFits N (exists x s is) = IsIdentifier x × Fits N s × SomeFit N is
  ItemFits N (local x e is) = IsIdentifier x × Fits N e × SomeFit N is
  ItemFits N (if_then_else e a b) = Fits N e × SomeFit N a × SomeFit N b
  ItemFits N (either bs) = SomeBranchesFit N bs

  pub ItemsFit : (Word → Type 0) → Items → Type 0
  ItemsFit N no_items = Unit {0}
  ItemsFit N (item i is) = ItemFits N i × ItemsFit N is

  -- there is one
  pub SomeFit : (Word → Type 0) → Items → Type 0
  SomeFit N no_items = ⊥
  SomeFit N (item i is) = ItemFits N i × ItemsFit N is

  pub BranchesFit : (Word → Type 0) → Branches → Type 0
  BranchesFit N no_branches = Unit {0}
  BranchesFit N (branch is bs) = SomeFit N is × BranchesFit N bs

  pub SomeBranchesFit : (Word → Type 0) → Branches → Type 0
  SomeBranchesFit N no_branches = ⊥
  SomeBranchesFit N (branch is bs) = SomeFit N is × BranchesFit N bs

-- ---- those of identifiers can be written

mutual
  fit_item : (i : Item) → ItemFits IsIdentifier i → IsItem i
  fit_item (test e) h = fit_writable e h
  fit_item (setting x e) h = (h.0, fit_writable e h.1)
  fit_item (unchanged xs) h = h
  fit_item (exists x s is) h = (h.0, fit_writable s h.1, fit_items is h.2)
  fit_item (local x e is) h = (h.0, fit_writable e h.1, fit_items is h.2)
  fit_item (if_then_else e a b) h = (fit_writable e h.0, fit_items a h.1, fit_items b h.2)
  fit_item (either bs) h = fit_branches bs h

  pub fit_items : (is : Items) → SomeFit IsIdentifier is → AreItems is
  fit_items no_items h = absurd h
  fit_items (item i no_items) h = fit_item i h.0
  fit_items (item i (item j is)) h = (fit_item i h.0, fit_items (item j is) h.1)

  fit_branches : (bs : Branches) → SomeBranchesFit IsIdentifier bs → AreBranches bs
  fit_branches no_branches h = absurd h
  fit_branches (branch is no_branches) h = fit_items is h.0
  fit_branches (branch is (branch js bs)) h = (fit_items is h.0, fit_branches (branch js bs) h.1)

-- ---- trees put in

mutual
  graft_item_fits : (M N : Word → Type 0) (g : Graft) → Puts M N g → (i : Item) → ItemFits M i → ItemFits N (graft_item g i)
  graft_item_fits M N g p (test e) h = graft_fits M N g p e h
  graft_item_fits M N g p (setting x e) h = (h.0, graft_fits M N g p e h.1)
  graft_item_fits M N g p (unchanged xs) h = h
  graft_item_fits M N g p (exists x s is) h = (h.0, graft_fits M N g p s h.1, graft_some_fit M N g p is h.2)
  graft_item_fits M N g p (local x e is) h = (h.0, graft_fits M N g p e h.1, graft_some_fit M N g p is h.2)
  graft_item_fits M N g p (if_then_else e a b) h = (graft_fits M N g p e h.0, graft_some_fit M N g p a h.1, graft_some_fit M N g p b h.2)
  graft_item_fits M N g p (either bs) h = graft_some_branches M N g p bs h

  pub graft_items_fit : (M N : Word → Type 0) (g : Graft) → Puts M N g → (is : Items) → ItemsFit M is → ItemsFit N (graft_items g is)
  graft_items_fit M N g p no_items h = tt
  graft_items_fit M N g p (item i is) h = (graft_item_fits M N g p i h.0, graft_items_fit M N g p is h.1)

  pub graft_some_fit : (M N : Word → Type 0) (g : Graft) → Puts M N g → (is : Items) → SomeFit M is → SomeFit N (graft_items g is)
  graft_some_fit M N g p no_items h = absurd h
  graft_some_fit M N g p (item i is) h = (graft_item_fits M N g p i h.0, graft_items_fit M N g p is h.1)

  graft_branches_fit : (M N : Word → Type 0) (g : Graft) → Puts M N g → (bs : Branches) → BranchesFit M bs → BranchesFit N (graft_branches g bs)
  graft_branches_fit M N g p no_branches h = tt
  graft_branches_fit M N g p (branch is bs) h = (graft_some_fit M N g p is h.0, graft_branches_fit M N g p bs h.1)

  graft_some_branches : (M N : Word → Type 0) (g : Graft) → Puts M N g → (bs : Branches) → SomeBranchesFit M bs → SomeBranchesFit N (graft_branches g bs)
  graft_some_branches M N g p no_branches h = absurd h
  graft_some_branches M N g p (branch is bs) h = (graft_some_fit M N g p is h.0, graft_branches_fit M N g p bs h.1)

-- an expression for a name, where names of M other than that one are of N
pub in_place_put : (M N : Word → Type 0) (self : Word) (e : Tree) → Fits N e → ((x : Word) → bytes_eq self x ≡ false → M x → N x) → Puts M N (in_place_of self e)
in_place_put M N self e h k x at m = by (bytes_eq self x) (λ q. k x q m)
  where
    by : (b : Bool) → (b ≡ false → N x) → IsPut N (cond b (Some e) None) x
    by true q = h
    by false q = q refl

-- ---- lists

pub onto_fits : (N : Word → Type 0) (is js : Items) → ItemsFit N is → ItemsFit N js → ItemsFit N (onto is js)
onto_fits N no_items js h k = k
onto_fits N (item i is) js h k = (h.0, onto_fits N is js h.1 k)

pub filled_fits : (N : Word → Type 0) (at : Place) (is : Items) → ItemsFit N is → SomeFit N (filled at is)
filled_fits N at no_items h = ((refl, tt, tt, tt, tt), tt)
filled_fits N at (item i is) h = h
