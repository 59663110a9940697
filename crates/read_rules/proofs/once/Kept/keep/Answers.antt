-- Proves that one more use is kept.
use Rattle.std.proofs.Common.{[], Option, unwrap_or, subst}
use Rattle.std.specs.Option.{option_map}
use Rattle.read_rules.specs.declared.assigned.Assigned.{Assigned}
use Rattle.read_rules.specs.Joins.{Joins}
use Rattle.read_rules.specs.Sets.{origins}
use Rattle.read_rules.specs.UsesIn.{use_of}
use Rattle.read_rules.proofs.KeptLaws.{keeps_joined}
use Rattle.read_rules.proofs.once.Kept.keep.Goals as goal

pub returns-in_ok-before-in-Ok : goal.returns-in_ok-before-in-Ok
returns-in_ok-before-in-Ok c =
    let a = c.args.after.now in
    keeps_joined c.args.self.now.uses.entries c.insert.new.self.entries c.in_ok-key.key c.in-Ok.all a (use_of c.args.one.now) c.in_ok-key.ensures
    (subst (λ (o : Option Assigned). Joins (unwrap_or (option_map origins o) []) (origins c.in-Ok.all) (origins a)) c.get.ensures.value c.in-Ok.ensures) c.in_ok-before-in-Ok.ensures.entries
