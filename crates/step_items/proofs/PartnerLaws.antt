-- What a call before a list is one statement with is what it is before the list's first statement.
use Rattle.std.proofs.Common.{◌≡◌, List, [], ◌∷◌, Some, sym, subst}
use Rattle.std.specs.Prelude.{slice_get}
use Rattle.std.proofs.lemmas.Option.{none-some, same_Some}
use Rattle.tla_tree.specs.Tree.{Tree}
use Rattle.pcal_tree.specs.declared.algorithm.Stmt.{Stmt}
use Rattle.pcal_tree.specs.Algorithm.{Statements}
use Rattle.pcal_tree.specs.InMemory.{stmt_at, statements_at}
use Rattle.pcal_tree.specs.Run.{partner_of}
use Rattle.step_items.specs.declared.partner.Partner.{Partner}
use Rattle.step_items.specs.Partners.{IsPartner}

pub partner_first : (ts : List Tree) (p : Partner) (ss : List Stmt) (st : Stmt) → Some st ≡ slice_get ss 0 → ((rest : Statements) → IsPartner p (partner_of (stmt_at ts st rest))) → IsPartner p (partner_of (statements_at ts ss))
partner_first ts p [] st e h = absurd (none-some st (sym e))
partner_first ts p (s ∷ ss) st e h = subst (λ (z : Stmt). IsPartner p (partner_of (stmt_at ts z (statements_at ts ss)))) (same_Some st s e) (h (statements_at ts ss))
