-- The names that a module has outside its algorithm and the translation ("Specifying Systems", chapter 17).
use Rattle.std.specs.Prelude.{List, ◌++◌, map}
use Rattle.std.specs.List.{flat_map}
use Rattle.tla_tree.specs.Tree.{Word, words}
use Rattle.tla_value.specs.Outside.{Outside}
use Rattle.pcal_tree.specs.BoundNames.{all_of, lists_in}

-- the names of the units
abbrev pub unit_names : Outside → List Word
unit_names o = words o.constants ++ (map (λ d. d.definition.title) o.definitions ++ flat_map (λ u. u.names) o.opaque)

-- parameters and bound names of the definitions that were read
abbrev pub bound_outside : Outside → List Word
bound_outside o = flat_map (λ d. d.definition.params ++ words (all_of (lists_in d.definition.body))) o.definitions
