-- Sets as lists: what is there besides.
use Rattle.std.specs.Prelude.{◌≡◌, List, Bool, ◌||◌}
use Rattle.std.specs.List.{list_any}

-- these are there besides: no test tells it from both together
abbrev pub Joins : {X : Type 0} → List X → List X → List X → Type 0
Joins {X = X} old new more = (f : X → Bool) → list_any f new ≡ (list_any f old || list_any f more)
