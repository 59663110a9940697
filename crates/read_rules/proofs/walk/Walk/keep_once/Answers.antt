-- Proves that each use that may matter is seen once.
use Rattle.std.proofs.Common.{List, refl, subst}
use Rattle.read_rules.specs.OnceIn.{Keeps}
use Rattle.read_rules.specs.Pruned.{only}
use Rattle.read_rules.specs.SeenIn.{seen_of}
use Rattle.read_rules.specs.WantedIn.{wants}
use Rattle.read_rules.specs.declared.walk.Walk.{Walk}
use Rattle.read_rules.specs.declared.walk.Group.{Group}
use Rattle.read_rules.proofs.KeptLaws.{way_kept}
use Rattle.read_rules.proofs.walk.Walk.keep_once.Goals as goal

pub returns : goal.returns
returns c = λ k.
    let T = wants c.args.wanted.now in
    let w = c.args.self.now in
    let last : Walk = record { seen = c.in_ok-self.field-0; labelled = w.labelled; path = w.path } in
    way_kept T w last c.new-kept.result.uses.entries c.keep_groups.new.self.uses.entries k c.new-kept.ensures
    (subst (λ (gs : List Group). Keeps c.new-kept.result.uses.entries c.keep_groups.new.self.uses.entries (only T (seen_of gs))) c.deref.ensures.value c.in_ok-keep_groups.ensures)
    c.in_ok-self.ensures refl refl
