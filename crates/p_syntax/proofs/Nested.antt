-- Tests in memory with more behind them.
use Rattle.std.proofs.Common.{◌≡◌, List, [], ◌∷◌, ◌++◌, refl}
use Rattle.tla_token.specs.declared.place.Place.{Place}
use Rattle.tla_tree.specs.Tree.{Tree}
use Rattle.pcal_tree.specs.Algorithm.{Statements}
use Rattle.p_syntax.specs.declared.open.Test.{Test}
use Rattle.p_syntax.specs.StatesRead.{nested}

pub nested-append : (ts : List Tree) (xs ys : List Test) (last : Place) (rest : Statements) → nested ts (xs ++ ys) last rest ≡ nested ts xs last (nested ts ys last rest)
nested-append ts [] ys last rest = refl
nested-append ts (x ∷ xs) ys last rest = λ j. nested ts (x ∷ []) last (nested-append ts xs ys last rest j)
