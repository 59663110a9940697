-- What is read of functions in square brackets, behind their first name.
use Rattle.std.specs.Prelude.{ℕ}
use Rattle.tla_token.specs.declared.place.Place.{Place}
use Rattle.tla_tree.specs.Tree.{Word}
use Rattle.tla_tree.specs.Spelling.{Phrase}
use Rattle.tla_tree.specs.Reader.{Reader, Readers, ◌>>=◌, peek, bind_rest, function_rest}

-- behind `[x`: `, y \in S |-> e]`
abbrev pub function_of : Readers → ℕ → Place → Place → Word → Reader Phrase
function_of d e p q x = d.binds e q x >>= λ bs. function_rest d e p bs

-- behind `[x \in S`: `, y \in T |-> e]`, or `|-> e]`
abbrev pub function_behind : Readers → ℕ → Place → Place → Word → Place → Phrase → Reader Phrase
function_behind d e p q x s a = peek e (bind_rest d e q x s a) >>= λ bs. function_rest d e p bs
