-- A body of which no parameter is replaced: what is seen in it after other assignments.
use Rattle.std.specs.Prelude.{List, ◌++◌, Some, None}
use Rattle.pcal_tree.specs.laws.MacroSpots.{Origin, Trail, At, Called, Put}

-- these were assigned before
abbrev pub plain : List Origin → Put
plain os = record { before = os; arguments = λ x. None }

-- what is seen, and where it ends, by the place where it begins
abbrev pub Going : Type 0
Going = At → Called

-- one after another
abbrev pub after : Going → Going → Going
after f g z = record { seen = (f z).seen ++ (g (f z).end).seen; end = (g (f z).end).end }

-- what is seen in a body where it isn't reached and where it is
abbrev pub way : Called → Called → Trail → Called
way unreached reached None = unreached
way unreached reached (Some os) = reached
