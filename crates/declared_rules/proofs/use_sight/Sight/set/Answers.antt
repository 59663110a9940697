-- Proves that one more name is known.
use Rattle.std.proofs.Common.{◌∷◌, refl, subst}
use Rattle.tla_tree.specs.Tree.{Word}
use Rattle.pcal_tree.specs.NameUses.{knowing}
use Rattle.declared_rules.specs.UsesSeen.{Sees}
use Rattle.declared_rules.specs.declared.use_sight.Sight.{Sight}
use Rattle.declared_rules.proofs.SeenLaws.{one_seen}
use Rattle.declared_rules.proofs.use_sight.Sight.set.Goals as goal

pub returns : goal.returns
returns c = λ s u h e.
    let last : Sight = record { uses = c.insert.new.self; modules = c.args.self.now.modules } in
    subst (λ (x : Word). Sees last (knowing u x ∷ s)) c.in_ok-copied.ensures
    (one_seen c.args.self.now last c.in_ok-copied.field-0 c.args.known s u refl c.in_ok-insert.ensures.entries h e)
