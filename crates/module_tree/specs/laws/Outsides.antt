-- What the laws of units outside the translation speak of: what a file has outside its translation, and the module that it is with another one.
use Rattle.std.specs.Prelude.{◌≡◌, true, false, List, [], ◌∷◌, ◌++◌, Some, map}
use Rattle.tla_tree.specs.Tree.{Word, words}
use Rattle.tla_value.specs.Outside.{Opaque, Outside}
use Rattle.module_tree.specs.Module.{Region, Module, OutsideUnit, extends, constants, defines, opaque, outside_of}
use Rattle.module_tree.specs.TextFront.{Text}
use Rattle.module_tree.specs.Walk.{Located, walk}
use Rattle.module_tree.specs.FileParts.{title, before_spot, after_spot}
use Rattle.module_tree.specs.FileUnits.{units_in}
use Rattle.module_tree.specs.Outside.{AllOutside}
use Rattle.module_tree.specs.Reading.{sight_in, Reads}

-- a text with these segments has this outside its translation, or outside the place for one
pub record HasOutside (ds : List Located) (o : Outside) : Type 0 where
  pub before : List OutsideUnit
  pub are_before : AllOutside true (sight_in o) (units_in (before_spot ds)).units before
  pub after : List OutsideUnit
  pub are_after : AllOutside false (sight_in o) (units_in (after_spot ds)).units after
  pub is : o ≡ outside_of (before ++ after)

-- ---- the same in other lines

abbrev pub unplaced : Opaque → Word × List Word
unplaced o = (o.keyword, o.names)

-- but for the places of names, and of what is passed on; a definition stays where it was
abbrev pub Alike : OutsideUnit → OutsideUnit → Type 0
Alike (extends ms) (extends ns) = words ms ≡ words ns
Alike (constants xs) (constants ys) = words xs ≡ words ys
Alike (defines d) (defines e) = d ≡ e
Alike (opaque o) (opaque q) = unplaced o ≡ unplaced q
Alike _ _ = ⊥

abbrev pub AllAlike : List OutsideUnit → List OutsideUnit → Type 0
AllAlike [] [] = Unit {0}
AllAlike (u ∷ us) (y ∷ ys) = Alike u y × AllAlike us ys
AllAlike _ _ = ⊥

pub record SameOutside (o q : Outside) : Type 0 where
  pub extended : o.extended ≡ q.extended
  pub constants : words o.constants ≡ words q.constants
  pub definitions : o.definitions ≡ q.definitions
  pub opaque : map unplaced o.opaque ≡ map unplaced q.opaque

-- ---- a file with a translation

-- w is a module: it has the title of x, this translation, and o outside it, but for places
pub record IsModuleOf (x w : Text) (o : Outside) (r : Region) : Type 0 where
  pub written : Module
  pub title : title (walk x) ≡ Some written.title
  pub region : written.region ≡ r
  pub outside : SameOutside o written.outside
  pub reads : Reads w written
