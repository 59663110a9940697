-- What names may be used as, in memory.
use Rattle.std.specs.Prelude.{◌≡◌, ◌==◌, List, true, cond, bytes_eq, codes, Option, Some, None}
use Rattle.std.specs.List.{list_any}
use Rattle.std.specs.Map.{lookup}
use Rattle.std.specs.Cmp.Lexicographic.{pointwise}
use Rattle.tla_token.specs.declared.place.Place.{Place}
use Rattle.tla_tree.specs.Tree.{Word}
use Rattle.pcal_tree.specs.NameUses as names
use Rattle.pcal_tree.specs.NameUses.{use_of}
use Rattle.pcal_tree.specs.laws.MacroUses.{offences_as}
use Rattle.module_outside.specs.declared.modules.Modules.{Modules}
use Rattle.module_outside.specs.declared.standard.Standard.{Standard}
use Rattle.module_outside.specs.ModulesIn.{given, standard_of}
use Rattle.declared_rules.specs.declared.using.Kind.{Kind}
use Rattle.declared_rules.specs.declared.using.Use.{Use}
use Rattle.declared_rules.specs.declared.using.Use.TheVariants as known
use Rattle.declared_rules.specs.declared.use_sight.Sight.{Sight}
use Rattle.declared_rules.specs.UsesTold.{use_seen, use_as}

-- two that no use tells apart
abbrev pub Alike : Option names.Use → Option names.Use → Type 0
Alike o q = (k : Kind) (x : Word) (p : Place) → offences_as o (use_as k x p) ≡ offences_as q (use_as k x p)

-- a name of a standard module, where these are extended
abbrev pub standard_use : Modules → Option Standard → Use
standard_use m None = known.Unknown
standard_use m (Some s) = known.Standard s.arity (given m true (Some s) s.arity) s.infinite

-- whatever is declared
abbrev pub always_use : Modules → Word → Use
always_use m x = cond (bytes_eq (codes "self") x) (known.Takes 0) (standard_use m (standard_of x))

abbrev pub known_or : Option Use → Use → Use
known_or None d = d
known_or (Some u) d = u

abbrev pub use_in : Sight → Word → Use
use_in v x = known_or (lookup (pointwise ◌==◌ x) v.uses.entries) (always_use v.modules x)

-- names may be used as in this
pub record Sees (v : Sight) (s : names.Sight) : Type 0 where
  pub same : (x : Word) → Alike (use_seen (use_in v x)) (use_of s x)

-- where these names are variables besides
abbrev pub within_use : Sight → List Word → Word → Use
within_use v hs x = cond (list_any (pointwise ◌==◌ x) hs) known.Variable (use_in v x)
