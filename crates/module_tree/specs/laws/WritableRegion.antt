-- Translations that can be written and read back: their names are names and no reserved words, their expressions can be written, and no list is empty.
use Rattle.std.specs.Prelude.{◌≡◌, false, not, List, [], ◌∷◌, Option, Some, None, is_some}
use Rattle.std.specs.Bool.{IsTrue}
use Rattle.std.specs.List.{list_any, AllByRecursion}
use Rattle.tla_token.specs.Words.{is_own}
use Rattle.tla_tree.specs.Tree.{Word, Tree}
use Rattle.tla_tree.specs.laws.Writable.{IsIdentifier, IsWritable}
use Rattle.tla_value.specs.Definitions.{Definition}
use Rattle.tla_value.specs.Outside.{Outside}
use Rattle.module_tree.specs.Module.{Item, test, setting, unchanged, exists, local, if_then_else, either, Items, no_items, item, Branches, no_branches, branch, Call, call, call_with, Way, one_way, some_way, Body, all_of, some_of, Action, Fairness, Region, Module}
use Rattle.module_tree.specs.Ways.{is_terminating, sets_of, processes_in}
use Rattle.module_tree.specs.TextFront.{Text}
use Rattle.module_tree.specs.Walk.{State}
use Rattle.module_tree.specs.Layout.{layout}
use Rattle.module_tree.specs.Around.{Around}
use Rattle.module_tree.specs.Reading.{ReadsRegion, Reads}
use Rattle.module_tree.specs.laws.Walks.{made, located}
use Rattle.module_tree.specs.laws.Outsides.{IsModuleOf}
use Rattle.module_tree.specs.laws.PlacelessRegion.{region_placeless}

-- each of these, and there is one
abbrev pub AllOf : {A : Type 0} → (A → Type 0) → List A → Type 0
AllOf P [] = ⊥
AllOf P (x ∷ []) = P x
AllOf P (x ∷ y ∷ xs) = P x × AllOf P (y ∷ xs)

abbrev pub AreNames : List Word → Type 0
AreNames xs = AllOf IsIdentifier xs

-- ---- actions
abbrev mutual
  pub IsItem : Item → Type 0
  IsItem (test e) = IsWritable e
  IsItem (setting x e) = IsIdentifier x × IsWritable e
  IsItem (unchanged xs) = AreNames xs
  IsItem (exists x s is) = IsIdentifier x × IsWritable s × AreItems is
  IsItem (local x e is) = IsIdentifier x × IsWritable e × AreItems is
  IsItem (if_then_else p a b) = IsWritable p × AreItems a × AreItems b
  IsItem (either bs) = AreBranches bs

  pub AreItems : Items → Type 0
  AreItems no_items = ⊥
  AreItems (item i no_items) = IsItem i
  AreItems (item i (item j is)) = IsItem i × AreItems (item j is)

  pub AreBranches : Branches → Type 0
  AreBranches no_branches = ⊥
  AreBranches (branch is no_branches) = AreItems is
  AreBranches (branch is (branch js bs)) = AreItems is × AreBranches (branch js bs)

abbrev pub IsCall : Call → Type 0
IsCall (call a) = IsIdentifier a
IsCall (call_with a e) = IsIdentifier a × IsWritable e

abbrev pub IsWay : Way → Type 0
IsWay (one_way c) = IsCall c
IsWay (some_way x s c) = IsIdentifier x × IsWritable s × IsCall c

abbrev pub IsBody : Body → Type 0
IsBody (all_of is) = AreItems is
IsBody (some_of ys) = AllOf IsWay ys

abbrev pub IsParameter : Option Word → Type 0
IsParameter None = Unit {0}
IsParameter (Some x) = IsIdentifier x

-- ---- fairness
abbrev pub IsOver : Option (Word × Tree) → Type 0
IsOver None = Unit {0}
IsOver (Some (x, s)) = IsIdentifier x × IsWritable s

abbrev pub IsGuard : Option Tree → Type 0
IsGuard None = Unit {0}
IsGuard (Some e) = IsWritable e

abbrev pub IsFairness : Fairness → Type 0
IsFairness f = IsOver f.over × IsGuard f.guard × IsCall f.action

-- ---- units
abbrev pub IsDefinition : Definition → Type 0
IsDefinition d = IsIdentifier d.title × IsTrue (not (is_own d.title)) × AllByRecursion IsIdentifier d.params × IsWritable d.body × (d.outside ≡ false)

abbrev pub IsAction : Action → Type 0
IsAction a = IsIdentifier a.title × IsTrue (not (is_own a.title)) × IsParameter a.parameter × IsBody a.body

-- ProcSet is the sets of the processes with \cup between them; Terminating stands where Next has it, and only there
pub record IsRegion (r : Region) : Type 0 where
  pub model_values : AllByRecursion IsIdentifier r.model_values
  pub variables : AreNames r.variables
  pub definitions : AllByRecursion IsDefinition r.definitions
  pub vars : AreNames r.vars
  pub process_set : AllByRecursion IsWritable (sets_of (processes_in r.next) r.process_set)
  pub init : AllOf IsWritable r.init
  pub actions : AllByRecursion IsAction r.actions
  pub ended : IsGuard r.ended
  pub next : AllOf IsWay r.next
  pub fairness : AllByRecursion IsFairness r.fairness
  pub termination : IsWritable r.termination
  pub terminating : is_some r.ended ≡ list_any is_terminating r.next

-- ---- what is written of one

-- where a region is put in the walk of a file, what is laid out of r is read as this translation, which is r, places aside
pub record IsReadBack (st : State) (r : Region) : Type 0 where
  pub region : Region
  pub same : region_placeless region ≡ region_placeless r
  pub reads : (m : Module) → m.region ≡ region → ReadsRegion (located st (made (layout r))) m

-- w reads as one module: it is around the file x, with a translation that is r, places aside, and with o outside it
pub record IsWritten (x w : Text) (o : Outside) (r : Region) : Type 0 where
  pub region : Region
  pub same : region_placeless region ≡ region_placeless r
  pub is : IsModuleOf x w o region
  pub around : Around x is.written w
  pub only : (n : Module) → Reads w n → n ≡ is.written
