-- How deep items are in an item: why the writer's calls end.
use Rattle.std.proofs.lemmas.Simd.{map-map}
use Rattle.std.proofs.Common.{◌≡◌, ℕ, ◌+◌, max, List, map, Vec, Global, sym, ap, ◌∙◌}
use Rattle.tla_tree.specs.Tree.{Word}
use Rattle.tla_tree.specs.Nesting.{greatest}
use Rattle.module_write.specs.declared.«module».Item.{Item}
use Rattle.module_write.specs.declared.«module».Item.TheOpen.{Item-F}
use Rattle.module_write.specs.declared.«module».Item.TheFolds.{fold-Item, fold-roll-Item}
use Rattle.module_write.specs.declared.«module».Item.TheVariants.{Exists, Local, Choice, Either, rolls-Exists, rolls-Local, rolls-Choice, rolls-Either}

abbrev height_step : Item-F ℕ → ℕ
height_step (Item-F.Exists x s is) = greatest is.items + 1
height_step (Item-F.Local x e is) = greatest is.items + 1
height_step (Item-F.Choice p a b) = max (greatest a.items) (greatest b.items) + 1
height_step (Item-F.Either bs) = greatest (map (λ (b : Vec ℕ Global). greatest b.items) bs.items) + 1
height_step _ = 0

abbrev pub height : Item → ℕ
height = fold-Item ℕ height_step

abbrev pub heights : List Item → ℕ
heights is = greatest (map height is)

abbrev pub branch_heights : List (Vec Item Global) → ℕ
branch_heights bs = greatest (map (λ (b : Vec Item Global). heights b.items) bs)

pub exists_height : (x : Word) (s : ℕ) (is : Vec Item Global) → height (Exists x s is) ≡ heights is.items + 1
exists_height x s is = ap height (sym (rolls-Exists x s is)) ∙ fold-roll-Item ℕ height_step (Item-F.Exists x s is)

pub local_height : (x : Word) (e : ℕ) (is : Vec Item Global) → height (Local x e is) ≡ heights is.items + 1
local_height x e is = ap height (sym (rolls-Local x e is)) ∙ fold-roll-Item ℕ height_step (Item-F.Local x e is)

pub choice_height : (p : ℕ) (a b : Vec Item Global) → height (Choice p a b) ≡ max (heights a.items) (heights b.items) + 1
choice_height p a b = ap height (sym (rolls-Choice p a b)) ∙ fold-roll-Item ℕ height_step (Item-F.Choice p a b)

pub either_height : (bs : Vec (Vec Item Global) Global) → height (Either bs) ≡ branch_heights bs.items + 1
either_height bs =
    ap height (sym (rolls-Either bs)) ∙ fold-roll-Item ℕ height_step (Item-F.Either bs) ∙ ap (λ (l : List ℕ). greatest l + 1) (map-map _ _ bs.items)
