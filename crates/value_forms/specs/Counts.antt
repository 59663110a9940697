-- A count that is known only where a set may have so many members.
use Rattle.std.specs.Prelude.{◌≡◌, ◌<◌, ◌≤◌, ℕ, Option, Some, None}
use Rattle.tla_token.specs.Limits.{most_members}

abbrev pub Counts : Option ℕ → ℕ → Type 0
Counts None n = most_members < n
Counts (Some k) n = (k ≡ n) × (k ≤ most_members)
