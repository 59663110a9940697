-- An algorithm of which nothing is known yet.
use Rattle.std.specs.Prelude.{◌≡◌, []}
use Rattle.name_rules.specs.declared.uses.Known.{Known}

pub record AreNone (k : Known) : Type 0 where
  pub uses : k.sight.uses.entries ≡ []
  pub macros : k.callees.macros.entries ≡ []
  pub procedures : k.callees.procedures ≡ []
