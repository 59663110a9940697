use Rattle.std.proofs.Common.{ap, sym, ◌∙◌}
use Rattle.std.specs.Prelude.{is_some}
use Rattle.module_split.specs.StandsSeen.{IsSolid}
use Rattle.module_split.specs.SplitSeen.{is_header_stand}
use Rattle.module_split.proofs.SplitParts.{found_one}
use Rattle.module_split.proofs.SplitTitle.{title_is, no_title}
use Rattle.module_split.proofs.split.title_of.Goals as goal

pub name_in-requires-clause-solid : goal.name_in-requires-clause-solid
name_in-requires-clause-solid c = (found_one is_header_stand (IsSolid c.args.text.now) c.args.stands.now c.in-Some.line c.requires.solid (sym c.in-Some.ensures)).0

pub name_in-requires-clause-named : goal.name_in-requires-clause-named
name_in-requires-clause-named c = ap (λ o. is_some o) (sym (title_is c.args.text.now c.args.stands.now c.in-Some.line c.requires.solid c.in-Some.ensures)) ∙ c.requires.titled

pub unreachable-requires : goal.unreachable-requires
unreachable-requires c = no_title c.args.text.now c.args.stands.now c.in-None.ensures c.requires.titled

pub returns : goal.returns
returns c = title_is c.args.text.now c.args.stands.now c.in-Some.line c.requires.solid c.in-Some.ensures ∙ c.name_in.ensures
