-- Bodies of processes, where they stand.
use Rattle.std.specs.Prelude.{◌≡◌, Bool, [], ◌∷◌, cond, codes}
use Rattle.tla_token.specs.Signs.{is_among}
use Rattle.tla_tree.specs.Tree.{Word, Tree}
use Rattle.pcal_tree.specs.OffencesRebind.{Standings, stands_for, bound_by, self_alone}
use Rattle.declared_rules.specs.declared.sight.Sight.{Sight}

-- in the body of a single process, `self` is its identifier
abbrev pub body_scope : Bool → Tree → Standings → Standings
body_scope several t r = cond several r (stands_for (codes "self") (bound_by t r) ∷ r)

-- near no text is put in, and in a single process for `self` alone
pub record Singles (near own : Sight) : Type 0 where
  pub modules : near.modules ≡ own.modules
  pub alone : near.stands ≡ []
  pub stands : (x : Word) → is_among own.stands x ≡ self_alone x
