-- Bodies in memory, with their labels.
use Rattle.std.specs.Prelude.{◌≡◌, List, [], true, false, None, map}
use Rattle.tla_tree.specs.Tree.{Tree, Word, Trees}
use Rattle.pcal_tree.specs.declared.algorithm.Stmt.{Stmt}
use Rattle.pcal_tree.specs.declared.algorithm.Main.{Main}
use Rattle.pcal_tree.specs.declared.algorithm.Algorithm as code
use Rattle.pcal_tree.specs.Algorithm as tree
use Rattle.pcal_tree.specs.InMemory.{statements_at, main_at, algorithm_at}
use Rattle.pcal_tree.specs.Labelled.{Supply}
use Rattle.pcal_tree.specs.OffencesSteps.{Before}
use Rattle.pcal_tree.specs.Paths.{Effect, Effects}
use Rattle.label_steps.specs.KnownIn.{AreMacros}
use Rattle.placed_labels.specs.declared.place.Plan.{Plan}
use Rattle.added_labels.specs.declared.seen.Where.{Where}
use Rattle.placed_labels.specs.InMemory.{AreLeft}
use Rattle.added_labels.specs.Bodies.{body_with, names_past, each_with, past_each, main_with, macros_with, past_macros, all_names}

-- these names are left behind it
pub record With {X : Type 0} (old new : Plan) (is was : X) (f : Supply → X → X) (g : Supply → X → Supply) (s : Supply) : Type 0 where
  pub with : is ≡ f s was
  pub left : AreLeft new.names (g s was)

abbrev pub BodyWith : Effects → Before → List Tree → Plan → Plan → List Stmt → List Stmt → Type 0
BodyWith E p ts old new b r = (s : Supply) → AreLeft old.names s → With old new (statements_at ts r) (statements_at ts b) (body_with E p) (names_past E p) s

abbrev pub OneWith : {A X : Type 0} → (A → X) → (Supply → X → X) → (Supply → X → Supply) → Plan → Plan → A → A → Type 0
OneWith at f g old new x r = (s : Supply) → AreLeft old.names s → With old new (at r) (at x) f g s

abbrev pub EachWith : {A X : Type 0} → (A → X) → (Supply → X → X) → (Supply → X → Supply) → Plan → Plan → List A → List A → Type 0
EachWith at f g old new xs rs = (s : Supply) → AreLeft old.names s → With old new (map at rs) (map at xs) (each_with f g) (past_each g) s

abbrev pub MainWith : (Word → Trees → Effect) → List Tree → Plan → Main → Main → Type 0
MainWith C ts old m r = (s : Supply) → AreLeft old.names s → main_at ts r ≡ main_with C s (main_at ts m)

-- a macro's body stands there: nothing is looked up
abbrev pub IsSilent : Where → Type 0
IsSilent w = (w.silent ≡ true) × AreMacros w.around.known []

-- no procedure's
pub record IsOutside (w : Where) : Type 0 where
  pub loud : w.silent ≡ false
  pub name : w.around.name ≡ None
  pub own : w.around.own.items ≡ []

-- the macros of an algorithm have their labels with this root, and these names are left
pub record Begun (root : Word) (ts : List Tree) (plan : Plan) (x : code.Algorithm) (a : tree.Algorithm) : Type 0 where
  pub now : algorithm_at ts x ≡ record {
    name = a.name;
    fair = a.fair;
    globals = a.globals;
    definitions = a.definitions;
    macros = macros_with (all_names root a) a.macros;
    procedures = a.procedures;
    main = a.main;
  }
  pub left : AreLeft plan.names (past_macros (all_names root a) a.macros)
