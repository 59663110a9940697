-- What uses of names tell of a place: the first offence there, by what the names may be used as.
use Rattle.std.specs.Prelude.{◌≡◌, ◌==◌, ℕ, List, [], Bool, false, Option, Some, None, cond}
use Rattle.std.specs.List.{list_any, flat_map}
use Rattle.std.specs.Cmp.Lexicographic.{pointwise}
use Rattle.tla_token.specs.declared.place.Place.{Place}
use Rattle.tla_token.specs.declared.rule.Refusal.{Refusal}
use Rattle.tla_tree.specs.Tree.{Word}
use Rattle.pcal_tree.specs.Offences.{first, is_before}
use Rattle.tla_value.specs.StandardModules.{StandardName}
use Rattle.pcal_tree.specs.NameUses as names
use Rattle.pcal_tree.specs.NameUses.{takes, Sight, use_of}
use Rattle.pcal_tree.specs.laws.MacroUses as pure
use Rattle.pcal_tree.specs.laws.MacroUses.{offences_as}
use Rattle.algorithm_answer.specs.Joined.{joined}
use Rattle.declared_rules.specs.declared.using.Kind.{Kind}
use Rattle.declared_rules.specs.declared.using.Kind.TheVariants as kind
use Rattle.declared_rules.specs.declared.using.NameUse.{NameUse}
use Rattle.declared_rules.specs.declared.using.Use.{Use}
use Rattle.declared_rules.specs.declared.using.Use.TheVariants as known

-- ---- what names may be used as

-- a name of a standard module, of which its name and the modules don't matter
abbrev pub some_standard : ℕ → Bool → StandardName
some_standard n infinite = record { title = []; arity = n; modules = []; infinite = infinite }

abbrev pub use_seen : Use → Option names.Use
use_seen known.Unknown = None
use_seen (known.Takes n) = Some (takes n)
use_seen known.Variable = Some names.variable
use_seen (known.Standard n extended infinite) = Some (names.standard (some_standard n infinite) extended)
use_seen known.Unread = Some names.unread

-- ---- uses

-- a use in memory
abbrev pub use_as : Kind → Word → Place → pure.NameUse
use_as (kind.Applied n right) x at = pure.applied x n right at
use_as kind.Assigned x at = pure.assigned x at
use_as kind.Handed x at = pure.handed x at

abbrev pub place_in : NameUse → Place
place_in v = record { line = v.line; col = v.col }

-- it is the same use of this name, and no later than this place
abbrev pub IsEarlier : NameUse → Kind → Word → Place → Type 0
IsEarlier v k x at = (v.kind ≡ k) × (v.name ≡ x) × (is_before at (place_in v) ≡ false)

-- what a use of a name offends where these names are known
abbrev pub used : Kind → Word → Place → Sight → List Refusal
used k x at s = offences_as (use_of s x) (use_as k x at)

abbrev pub looked : Sight → NameUse → List Refusal
looked s v = used v.kind v.name (place_in v) s

-- the first of an offence that was found and of those of uses
abbrev pub told_by : Option Refusal → List NameUse → Sight → Option Refusal
told_by o vs s = joined o (first (flat_map (looked s) vs))

-- in r more names are bound than in s, which these are
abbrev pub Inside : List Word → Sight → Sight → Type 0
Inside hs s r = (x : Word) → use_of r x ≡ cond (list_any (pointwise ◌==◌ x) hs) (Some (takes 0)) (use_of s x)
