-- What is seen in statements in memory, one after another.
use Rattle.std.specs.Prelude.{◌≡◌, List, ◌++◌, None}
use Rattle.tla_token.specs.declared.place.Place.{Place}
use Rattle.tla_tree.specs.Tree.{Tree}
use Rattle.pcal_tree.specs.declared.algorithm.Stmt.{Stmt}
use Rattle.pcal_tree.specs.Algorithm.{Statement, Statements, Branches, Procedure}
use Rattle.pcal_tree.specs.InMemory.{stmt_at}
use Rattle.pcal_tree.specs.laws.MacroSpots.{Trail, At, unlabelled, Called, joined, CallSeen, one_seen, one_end, seen_in_some, end_of_some, seen_in_body}
use Rattle.read_rules.specs.declared.walk.Ways.{Ways}
use Rattle.read_rules.specs.declared.ways.Paths.{Paths}
use Rattle.read_rules.specs.PlainPuts.{Going, after}
use Rattle.read_rules.specs.WaysIn.{Goes}

abbrev pub one : CallSeen → List Procedure → Place → Statement → Going
one S ps at st z = record { seen = one_seen S ps at st z; end = one_end S st z }

-- one of a list, which comes before the rest of it
pub record GoesStmt (S : CallSeen) (ps : List Procedure) (ts : List Tree) (s : Stmt) (old new : Ways) : Type 0 where
  pub these : Going
  pub ahead : (rest : Statements) (z : At) → seen_in_body S ps (stmt_at ts s rest) z ≡ after these (λ y. seen_in_body S ps rest y) z
  pub goes : Goes old new these

abbrev pub in_some : CallSeen → List Procedure → Branches → Trail → Called
in_some S ps bs q = record { seen = seen_in_some S ps bs (unlabelled q); end = unlabelled (end_of_some S bs (unlabelled q)) }

-- what is seen in one branch and then in another, and the ends of both
abbrev pub together : (Trail → Called) → (Trail → Called) → Trail → Called
together f g q = record { seen = (f q).seen ++ (g q).seen; end = unlabelled (joined (f q).end.trail (g q).end.trail) }

abbrev pub no_paths : Paths
no_paths = record { unreached = None; reached = None }
