-- Memory for the line of an answer about any of three files.
use Rattle.std.specs.Prelude.{◌≡◌, ◌+◌, ◌≤◌, ℕ, [], length, Vec, vec_capacity}
use Rattle.std.specs.declared.alloc.Global.{Global}
use Rattle.running.specs.Names.{Names}

-- it is empty, and has room for the name of each file and for what stands beside that
pub record HasRoom (names : Names) (room : Vec ℕ Global) : Type 0 where
  pub empty : room.items ≡ []
  pub source : length names.source + 80 ≤ vec_capacity room
  pub config : length names.config + 80 ≤ vec_capacity room
  pub third : length names.third + 80 ≤ vec_capacity room
