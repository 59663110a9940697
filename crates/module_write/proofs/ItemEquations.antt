-- What each kind of item in memory stands for, and past which numbers its own are.
use Rattle.std.proofs.lemmas.Simd.{map-map}
use Rattle.std.proofs.Common.{◌≡◌, ℕ, ◌+◌, max, List, Vec, Global, sym, ap, ◌∙◌}
use Rattle.tla_tree.specs.Tree.{Word, Tree}
use Rattle.tla_tree.specs.Pool.{at}
use Rattle.tla_tree.specs.Nesting.{greatest}
use Rattle.module_tree.specs.Module as tree
use Rattle.module_write.specs.declared.«module».Item.{Item}
use Rattle.module_write.specs.declared.«module».Item.TheOpen.{Item-F}
use Rattle.module_write.specs.declared.«module».Item.TheFolds.{fold-roll-Item}
use Rattle.module_write.specs.declared.«module».Item.TheVariants.{Test, Setting, Unchanged, Exists, Local, Choice, Either, rolls-Test, rolls-Setting, rolls-Unchanged, rolls-Exists, rolls-Local, rolls-Choice, rolls-Either}
use Rattle.module_write.specs.InMemory.{branches_from, item_step, item_at, items_at, branches_at, past_step, past_item, past_items, past_branches}

pub test_at : (ts : List Tree) (e : ℕ) → item_at ts (Test e) ≡ tree.test (at ts e)
test_at ts e = ap (item_at ts) (sym (rolls-Test e)) ∙ fold-roll-Item tree.Item (item_step ts) (Item-F.Test e)

pub setting_at : (ts : List Tree) (x : Word) (e : ℕ) → item_at ts (Setting x e) ≡ tree.setting x (at ts e)
setting_at ts x e = ap (item_at ts) (sym (rolls-Setting x e)) ∙ fold-roll-Item tree.Item (item_step ts) (Item-F.Setting x e)

pub unchanged_at : (ts : List Tree) (xs : List Word) → item_at ts (Unchanged xs) ≡ tree.unchanged xs
unchanged_at ts xs = ap (item_at ts) (sym (rolls-Unchanged xs)) ∙ fold-roll-Item tree.Item (item_step ts) (Item-F.Unchanged xs)

pub exists_at : (ts : List Tree) (x : Word) (s : ℕ) (is : Vec Item Global) → item_at ts (Exists x s is) ≡ tree.exists x (at ts s) (items_at ts is.items)
exists_at ts x s is = ap (item_at ts) (sym (rolls-Exists x s is)) ∙ fold-roll-Item tree.Item (item_step ts) (Item-F.Exists x s is)

pub local_at : (ts : List Tree) (x : Word) (e : ℕ) (is : Vec Item Global) → item_at ts (Local x e is) ≡ tree.local x (at ts e) (items_at ts is.items)
local_at ts x e is = ap (item_at ts) (sym (rolls-Local x e is)) ∙ fold-roll-Item tree.Item (item_step ts) (Item-F.Local x e is)

pub choice_at : (ts : List Tree) (p : ℕ) (a b : Vec Item Global) → item_at ts (Choice p a b) ≡ tree.if_then_else (at ts p) (items_at ts a.items) (items_at ts b.items)
choice_at ts p a b = ap (item_at ts) (sym (rolls-Choice p a b)) ∙ fold-roll-Item tree.Item (item_step ts) (Item-F.Choice p a b)

pub either_at : (ts : List Tree) (bs : Vec (Vec Item Global) Global) → item_at ts (Either bs) ≡ tree.either (branches_at ts bs.items)
either_at ts bs = ap (item_at ts) (sym (rolls-Either bs)) ∙ fold-roll-Item tree.Item (item_step ts) (Item-F.Either bs) ∙ ap (λ (l : List tree.Items). tree.either (branches_from l)) (map-map _ _ bs.items)

-- ---- past which numbers they are

pub past_test : (e : ℕ) → past_item (Test e) ≡ e + 1
past_test e = ap past_item (sym (rolls-Test e)) ∙ fold-roll-Item ℕ past_step (Item-F.Test e)

pub past_setting : (x : Word) (e : ℕ) → past_item (Setting x e) ≡ e + 1
past_setting x e = ap past_item (sym (rolls-Setting x e)) ∙ fold-roll-Item ℕ past_step (Item-F.Setting x e)

pub past_unchanged : (xs : List Word) → past_item (Unchanged xs) ≡ 0
past_unchanged xs = ap past_item (sym (rolls-Unchanged xs)) ∙ fold-roll-Item ℕ past_step (Item-F.Unchanged xs)

pub past_exists : (x : Word) (s : ℕ) (is : Vec Item Global) → past_item (Exists x s is) ≡ max (s + 1) (past_items is.items)
past_exists x s is = ap past_item (sym (rolls-Exists x s is)) ∙ fold-roll-Item ℕ past_step (Item-F.Exists x s is)

pub past_local : (x : Word) (e : ℕ) (is : Vec Item Global) → past_item (Local x e is) ≡ max (e + 1) (past_items is.items)
past_local x e is = ap past_item (sym (rolls-Local x e is)) ∙ fold-roll-Item ℕ past_step (Item-F.Local x e is)

pub past_choice : (p : ℕ) (a b : Vec Item Global) → past_item (Choice p a b) ≡ max (p + 1) (max (past_items a.items) (past_items b.items))
past_choice p a b = ap past_item (sym (rolls-Choice p a b)) ∙ fold-roll-Item ℕ past_step (Item-F.Choice p a b)

pub past_either : (bs : Vec (Vec Item Global) Global) → past_item (Either bs) ≡ past_branches bs.items
past_either bs = ap past_item (sym (rolls-Either bs)) ∙ fold-roll-Item ℕ past_step (Item-F.Either bs) ∙ ap greatest (map-map _ _ bs.items)
