-- What `check` writes of a module that is not refused.
use Rattle.std.specs.Prelude.{ℕ, List, codes}

abbrev pub checked_text : List ℕ
checked_text = codes "ok\n"
