-- What the procedures of each name call, by numbers of names ("A PlusCal User's Manual", section 3.4, procedures).
use Rattle.std.specs.Prelude.{◌≡◌, ℕ, List, [], map, cond, Bool, false, get_or, position, bytes_eq, Option, Some, None}
use Rattle.std.specs.List.{flat_map}
use Rattle.tla_token.specs.Signs.{is_among}
use Rattle.tla_tree.specs.Tree.{Word}
use Rattle.pcal_tree.specs.Algorithm.{Procedure}
use Rattle.name_bits.specs.NamesIn.{AllApart}
use Rattle.fairness.specs.ReachedProcedures.{calls}
use Rattle.fairness_lines.specs.Numbers.{numbers_in}

-- the names that procedures of this name call
abbrev pub calls_under : Word → List Procedure → List Word
calls_under x ps = flat_map (λ p. cond (bytes_eq p.name.word x) (calls p.body) []) ps

abbrev pub rows_of : List Word → List Procedure → List (List ℕ)
rows_of names ps = map (λ x. numbers_in names (calls_under x ps)) names

pub record IsTable (ps : List Procedure) (names : List Word) (rows : List (List ℕ)) : Type 0 where
  pub apart : AllApart names
  pub among : (x : Word) → is_among names x ≡ is_among (map (λ p. p.name.word) ps) x
  pub called : rows ≡ rows_of names ps

abbrev pub mark_at : List Bool → Option ℕ → Bool
mark_at marks None = false
mark_at marks (Some i) = get_or marks i false

-- whether a name's number is marked
abbrev pub marked_word : List Word → List Bool → Word → Bool
marked_word names marks x = mark_at marks (position (λ v. bytes_eq v x) names)
