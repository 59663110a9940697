-- Proves that a word gets the first name that is free, which is taken then.
use Rattle.std.proofs.Common.{refl, sym, ap, subst, ◌∙◌}
use Rattle.std.proofs.lemmas.Result.{IfOk-weaker}
use Rattle.pcal_tree.specs.Names.{is_taken as is_taken_of}
use Rattle.written_names.specs.Giving.{Known, Knows}
use Rattle.written_names.proofs.FirstFree.{plain_free}
use Rattle.written_names.proofs.Steps.{given_plain, name_numbered}
use Rattle.written_names.proofs.giver.Giver.give.Goals as goal

pub returns-then-not-is_taken-clause-name : goal.returns-then-not-is_taken-clause-name
returns-then-not-is_taken-clause-name c =
    IfOk-weaker c.copied.result _ _ (λ w e extended taken k.
    e ∙ plain_free extended c.args.self.now.names taken c.args.name.now k.names (sym (c.is_taken.ensures extended taken k) ∙ c.if-not-is_taken.true))
    c.copied.ensures

pub returns-then-not-is_taken-clause-known : goal.returns-then-not-is_taken-clause-known
returns-then-not-is_taken-clause-known c =
    IfOk-weaker c.copied.result _ _ (λ w e extended taken k.
    given_plain extended taken c.args.name.now _ _ (subst (λ (z : Known). Knows z extended taken) (sym c.self.view_is) k)
    (ap (λ (z : Known). is_taken_of extended z.names c.args.name.now) c.self.view_is ∙ sym (c.is_taken.ensures extended taken k) ∙ c.if-not-is_taken.true)
    c.in_ok-add.ensures refl refl refl)
    c.copied.ensures

pub returns-clause-name : goal.returns-clause-name
returns-clause-name c = λ extended taken k.
    name_numbered extended taken c.args.name.now c.args.self.now c.in_ok-found.found c.in_ok-found.number k
    (sym (c.is_taken.ensures extended taken k) ∙ c.if-not-is_taken.false) (c.in_ok-found.ensures k.tried)

pub returns-clause-known : goal.returns-clause-known
returns-clause-known c = λ extended taken k.
    c.in_ok-take.ensures extended taken k (sym (c.is_taken.ensures extended taken k) ∙ c.if-not-is_taken.false) (c.in_ok-found.ensures k.tried)
