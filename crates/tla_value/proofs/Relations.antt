-- Relations between environments, and forms that keep them.
use Rattle.std.proofs.Common.{◌≡◌}
use Rattle.tla_token.specs.declared.place.Place.{Place}
use Rattle.tla_tree.specs.Tree.{Word, Form, name, next, operator_call, Each, binders}
use Rattle.tla_value.specs.Value.{Value}
use Rattle.tla_value.specs.Meaning.{Env, Denotation, bind}

-- a relation between environments
abbrev pub Rel : Type 1
Rel = Env → Env → Type 0

-- the relation passes a binder of x
abbrev pub Bound : Rel → Word → Type 0
Bound R x = (e f : Env) (v : Value) → R e f → R (bind x v e) (bind x v f)

-- what a form reads of its environment is the same
abbrev pub ReadsAlike : Rel → Form → Type 0
ReadsAlike R (name x) = (at : Place) (e f : Env) → R e f → e.now x at ≡ f.now x at
ReadsAlike R (next x) = (at : Place) (e f : Env) → R e f → e.primed x at ≡ f.primed x at
ReadsAlike R (operator_call g) = (e f : Env) → R e f → e.defs g ≡ f.defs g
ReadsAlike R _ = Unit {0}

-- and the relation passes the names that it binds
abbrev pub KeptBy : Rel → Form → Place → Type 0
KeptBy R m at = Each (Bound R) (binders m) × ReadsAlike R m

abbrev pub Alike : Rel → Denotation → Denotation → Type 0
Alike R a b = (e f : Env) → R e f → a e ≡ b f
