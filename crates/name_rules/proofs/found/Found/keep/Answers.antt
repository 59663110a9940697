-- Proves that a use is told as what its name may be used as.
use Rattle.std.proofs.Common.{Some, sym, ◌∙◌, ap, refl, subst}
use Rattle.std.specs.List.{list_any}
use Rattle.tla_tree.specs.Tree.{Word}
use Rattle.algorithm_limits.proofs.Tables.{equal}
use Rattle.pcal_tree.specs.NameUses.{takes}
use Rattle.pcal_tree.specs.laws.MacroUses.{offences_as}
use Rattle.name_rules.specs.declared.found.Found.{Found}
use Rattle.declared_rules.specs.declared.using.NameUse.{NameUse}
use Rattle.declared_rules.specs.contracts.using.NameUsePartialEq.TheImpl.{eq-value as same}
use Rattle.declared_rules.specs.UsesTold.{use_as, used}
use Rattle.name_rules.specs.Finding.{Tells}
use Rattle.declared_rules.proofs.UseSame.{uses_sound}
use Rattle.name_rules.proofs.TellLaws.{tells_bound, tells_free, tells_again}
use Rattle.name_rules.proofs.found.Found.keep.Goals as goal

pub returns-then-has : goal.returns-then-has
returns-then-has c =
    tells_bound c.args.self.now c.refuse.new.self c.args.kind c.args.name.now c.args.place (sym c.has.ensures ∙ c.if-has.true)
    (c.refuse.ensures (offences_as (Some (takes 0)) (use_as c.args.kind c.args.name.now c.args.place)) (c.offence_as.ensures c.args.name.now))

pub returns-then-is_told : goal.returns-then-is_told
returns-then-is_told c =
    tells_again c.args.self.now c.args.kind c.args.name.now c.args.place (sym c.has.ensures ∙ c.if-has.false) (c.is_told.ensures.tells c.if-is_told.true)

pub returns : goal.returns
returns c =
    let last : Found = record { first = c.args.self.now.first; free = c.insert.new.self; bound = c.args.self.now.bound } in
    let one : NameUse = record { name = c.in_ok-copied.field-0; kind = c.args.kind; line = c.args.place.line; col = c.args.place.col } in
    let free = ap (λ (x : Word). list_any (equal x) c.args.self.now.bound) c.in_ok-copied.ensures ∙ sym c.has.ensures ∙ c.if-has.false in
    subst (λ (x : Word). Tells c.args.self.now last (used c.args.kind x c.args.place)) c.in_ok-copied.ensures
    (tells_free same.it uses_sound c.args.self.now last one free refl c.in_ok-insert.ensures.keys refl)
