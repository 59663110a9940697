-- Proves that a name with a number is taken.
use Rattle.std.proofs.Common.{◌≡◌, true, refl, sym, ap, subst, ◌∙◌}
use Rattle.std.proofs.lemmas.Result.{on_ok_weaker}
use Rattle.tla_tree.specs.Tree.{Word}
use Rattle.algorithm_limits.specs.Numbers.{with_number}
use Rattle.pcal_tree.specs.Names.{is_taken as is_taken_of}
use Rattle.written_names.specs.Giving.{IsFound, Known, Knows}
use Rattle.written_names.proofs.Steps.{given_numbered}
use Rattle.written_names.proofs.giver.Giver.take.Goals as goal

pub returns : goal.returns
returns c = on_ok_weaker c.set.result (λ h extended taken k t f.
    given_numbered extended taken c.args.name.now _ _ c.args.found.now c.args.number (subst (λ (z : Known). Knows z extended taken) (sym c.self.view_is) k)
    (subst (λ (z : Known). is_taken_of extended z.names c.args.name.now ≡ true) (sym c.self.view_is) t)
    (subst (λ (z : Known). IsFound z.names c.args.name.now c.args.found.now c.args.number) (sym c.self.view_is) f)
    c.in_ok-add.ensures refl refl
    (h ∙ ap (λ (w : Word). with_number c.self.inside.tried w c.args.number) c.in_ok-copied.ensures)) c.set.ensures
