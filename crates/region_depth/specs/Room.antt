-- Whether what nests so deep has room at a depth; and the parts of a translation that are looked at one after another.
use Rattle.std.specs.Prelude.{ℕ, ◌+◌, max, nat_le, Bool, map}
use Rattle.tla_tree.specs.Nesting.{greatest, tree_nesting, deepest_in_module}
use Rattle.module_tree.specs.Module.{Action, Region}
use Rattle.region_reading.specs.Nests.{part_nests, maybe_nests, body_nests, way_nests, fairness_nests, listed}

-- with d forms round it, n deep is no deeper than a module may nest
abbrev pub has_room : ℕ → ℕ → Bool
has_room d n = nat_le (d + n) deepest_in_module

-- the units of a translation from Next on
abbrev pub end_nests : Region → ℕ
end_nests r = max (listed (map way_nests r.next)) (max (listed (map fairness_nests r.fairness)) (part_nests r.termination))

-- its units from the actions on
abbrev pub steps_nest : Region → ℕ
steps_nest r = max (greatest (map (λ (a : Action). body_nests a.body) r.actions)) (max (1 + maybe_nests r.ended) (end_nests r))

-- all but its definitions
abbrev pub rest_nests : Region → ℕ
rest_nests r = max (maybe_nests r.process_set) (max (listed (map tree_nesting r.init)) (steps_nest r))
