-- What may still come of nodes and labels after some of each; what nests too deep takes all.
use Rattle.std.specs.Prelude.{ℕ, ◌-◌, suc, nat_lt, nat_eq, Bool, ◌||◌, cond}
use Rattle.tla_token.specs.Limits.{most_nodes, most_labels, deepest_expression}
use Rattle.macro_expand.specs.Size.{Size}
use Rattle.expansion_size.specs.declared.left.Left.{Left}

-- one more of each than the limits say
abbrev pub all_left : Left
all_left = record { nodes = suc most_nodes; labels = suc most_labels }

abbrev pub none_left : Left
none_left = record { nodes = 0; labels = 0 }

-- after so many nodes and labels; where no node was left it stays so
abbrev pub spend : ℕ → ℕ → Bool → Left → Left
spend n k deep l =
    cond (nat_eq l.nodes 0) l (cond deep none_left (cond (nat_lt n l.nodes) (record { nodes = l.nodes - n; labels = l.labels - k }) none_left))

-- after what is of a size, where statements may nest so deep
abbrev pub spent : Size → ℕ → Left → Left
spent s d l = spend s.nodes s.labels (nat_lt deepest_expression s.expressions || nat_lt d s.statements) l
