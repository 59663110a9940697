-- Uses of names, in memory.
use Rattle.std.specs.Prelude.{List, [], ◌∷◌, map}
use Rattle.tla_token.specs.declared.place.Place.{Place}
use Rattle.tla_tree.specs.Tree.{Form, name, operator_call, Tree, node}
use Rattle.pcal_tree.specs.Algorithm.{Name}
use Rattle.pcal_tree.specs.Reads.{named}
use Rattle.pcal_tree.specs.laws.MacroSpots as spots
use Rattle.read_rules.specs.declared.uses.Kind.{Kind}
use Rattle.read_rules.specs.declared.uses.Kind.TheVariants as kind
use Rattle.read_rules.specs.declared.uses.Use.{Use}

abbrev pub of_kind : Kind → Name → spots.Use
of_kind kind.Value n = spots.value n
of_kind kind.Left n = spots.left n
of_kind kind.Other n = spots.other n

abbrev pub use_of : Use → spots.Use
use_of u = of_kind u.kind u.name

abbrev pub uses_of : List Use → List spots.Use
uses_of us = map use_of us

-- those of a tree at a place, where a name that is the whole tree is used so
abbrev pub form_uses : Kind → Form → Place → List spots.Use → List spots.Use
form_uses k (name x) at us = of_kind k (named x at) ∷ []
form_uses k (operator_call f) at us = spots.other (named f at) ∷ us
form_uses k m at us = us

abbrev pub uses_as : Kind → Place → Tree → List spots.Use
uses_as k at (node m p ts) = form_uses k m at (spots.uses_of_all ts)
