-- The tokens that are still to be read, by the number of the next one, and the place of a token, by how many are left from it on.
use Rattle.std.specs.Prelude.{ℕ, ◌-◌, List, length, map, drop, get_or}
use Rattle.tla_token.specs.declared.place.Place.{Place}
use Rattle.tla_token.specs.declared.token.Token as code_token
use Rattle.tla_token.specs.declared.token.Tokens.{Tokens}
use Rattle.tla_tree.specs.Lexical.{Token}
use Rattle.expr_nodes.specs.ReadIn.{seen}

-- the tokens from one on, as they are seen
abbrev pub ahead : Tokens → ℕ → List Token
ahead v i = seen v.bytes.items (drop i v.items.items)

-- the place of the token from which on so many are left, or of the end
abbrev pub place_before : Tokens → ℕ → Place
place_before v n = get_or (map (λ (t : code_token.Token). t.place) v.items.items) (length v.items.items - n) v.end
