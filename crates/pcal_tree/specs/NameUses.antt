-- What names may be used as where they are, and what is wrong with a use of one ("A PlusCal User's Manual", sections 3.2 to 3.5; "Specifying Systems", section 14.5.3 and
-- chapter 18).
use Rattle.std.specs.Prelude.{ℕ, nat_eq, List, [], ◌∷◌, ◌++◌, Bool, ◌&&◌, map, not, cond, bytes_eq, Option, Some, None}
use Rattle.tla_token.specs.declared.place.Place.{Place}
use Rattle.tla_token.specs.declared.rule.Rule.TheVariants.{Unknown, Arity, NotVariable, NeedsModule, OpaqueUnit, Infinite}
use Rattle.tla_token.specs.declared.rule.Refusal.{Refusal}
use Rattle.tla_tree.specs.Tree.{Word}
use Rattle.tla_value.specs.StandardModules.{StandardName, extends_one}
use Rattle.pcal_tree.specs.Offences.{offence, offence_if}

-- ---- what is in scope

-- what a name may be used as
pub data Use : Type 0 where
  takes : ℕ → Use  -- with so many arguments, and never assigned: a constant, a definition, a bound name
  variable : Use  -- also a macro's parameter whose argument is a variable with subscripts and fields
  argument : Place → Use  -- a macro's parameter whose argument, at that place, is anything else
  standard : StandardName → Bool → Use  -- of a standard module; true where one that gives it is extended
  unread : Use  -- not at all, since its unit was not read

pub record Known : Type 0 where
  pub word : Word
  pub use_as : Use

-- the names that are known, the latest first
abbrev pub Sight : Type 0
Sight = List Known

abbrev pub knowing : Use → Word → Known
knowing u x = record { word = x; use_as = u }

abbrev pub taking : ℕ → Word → Known
taking n x = knowing (takes n) x

abbrev pub plain : Word → Known
plain x = taking 0 x

abbrev pub hidden_name : Word → Known
hidden_name x = knowing unread x

abbrev pub known_standard : List Word → StandardName → Known
known_standard extended d = knowing (standard d (extends_one extended d.modules)) d.title

abbrev pub seeing_plain : List Word → Sight → Sight
seeing_plain xs s = map plain xs ++ s

abbrev pub seeing_variables : List Word → Sight → Sight
seeing_variables xs s = map (knowing variable) xs ++ s

abbrev pub use_of : Sight → Word → Option Use
use_of [] x = None
use_of (k ∷ ks) x = cond (bytes_eq k.word x) (Some k.use_as) (use_of ks x)

-- ---- what is wrong with a use

-- how many arguments a name takes
abbrev pub arity_of : Use → ℕ
arity_of (takes k) = k
arity_of (standard d extended) = d.arity
arity_of _ = 0

-- it is nothing, or its unit was not read, or it has a wrong number of arguments
abbrev pub use_offences : Option Use → ℕ → Place → List Refusal
use_offences None n at = offence Unknown at
use_offences (Some unread) n at = offence OpaqueUnit at
use_offences (Some u) n at = offence_if (not (nat_eq (arity_of u) n)) Arity at

abbrev pub module_offences : Option Use → Place → List Refusal
module_offences (Some (standard d extended)) at = offence_if (not extended) NeedsModule at
module_offences _ at = []

-- an infinite set; true where it is directly right of \in or \notin
abbrev pub infinite_offences : Option Use → Bool → Place → List Refusal
infinite_offences (Some (standard d extended)) right at = offence_if (d.infinite && not right) Infinite at
infinite_offences _ right at = []

-- a name used in an expression
abbrev pub applied_offences : Option Use → ℕ → Bool → Place → List Refusal
applied_offences u n right at = use_offences u n at ++ (module_offences u at ++ infinite_offences u right at)

-- a left side must be a variable; a macro's parameter offends where its argument is
abbrev pub left_offences : Option Use → Place → List Refusal
left_offences None at = offence Unknown at ++ offence NotVariable at
left_offences (Some variable) at = []
left_offences (Some (argument p)) at = offence NotVariable p
left_offences (Some _) at = offence NotVariable at

-- what a parameter is whose argument, at a place, is this name with subscripts and fields; a parameter that is handed on stays what it was
abbrev pub handed_use : Option Use → Place → Use
handed_use (Some variable) at = variable
handed_use (Some (argument p)) at = argument p
handed_use _ at = argument at
