-- Names that are met where they are used, in the order of the text.
use Rattle.std.specs.Prelude.{◌≡◌, Bool, List, [], ◌∷◌, ◌++◌, length, take, cond, bytes_eq, codes}
use Rattle.std.specs.List.{flat_map}
use Rattle.tla_token.specs.declared.place.Place.{Place}
use Rattle.tla_tree.specs.Tree.{Word, Form, name, operator_call}
use Rattle.pcal_tree.specs.Algorithm.{Name}
use Rattle.pcal_tree.specs.Reads.{named, if_free}
use Rattle.module_outside.specs.SightIn.{Binds}
use Rattle.read_rules.specs.declared.used.Used.{Used}

-- what a form at a place uses besides its parts, where these names are bound
abbrev pub own_names : Form → Place → List Word → List Name
own_names (name x) at xs = if_free xs (named x at)
own_names (operator_call f) at xs = if_free xs (named f at)
own_names m at xs = []

-- a name that is `self`
abbrev pub if_self : Name → List Name
if_self n = cond (bytes_eq (codes "self") n.word) (n ∷ []) []

-- of names that are met, those that are kept: all, or `self` alone
abbrev pub kept : Bool → List Name → List Name
kept only ns = cond only (flat_map if_self ns) ns

-- names were met, which these are where some are bound; no more are bound than before
pub record Adds (old new : Used) (names : List Word → List Name) : Type 0 where
  pub only : new.only_self ≡ old.only_self
  pub bound : new.bound ≡ old.bound
  pub meets : (xs : List Word) → Binds old.bound xs → new.names.items ≡ old.names.items ++ kept old.only_self (names xs)

-- the same, and more may be bound behind those
pub record AddsParts (old new : Used) (names : List Word → List Name) : Type 0 where
  pub only : new.only_self ≡ old.only_self
  pub bound : take (length old.bound) new.bound ≡ old.bound
  pub meets : (xs : List Word) → Binds old.bound xs → new.names.items ≡ old.names.items ++ kept old.only_self (names xs)
