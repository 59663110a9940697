-- A text without parts is no module.
use Rattle.std.proofs.Common.{Option, subst}
use Rattle.std.specs.Option.{MatchOption}
use Rattle.tla_token.specs.declared.rule.Rule.TheVariants.{Syntax}
use Rattle.region_reading.specs.ReadAnswer.{beginning}
use Rattle.region_split.specs.declared.parts.RegionParts.{RegionParts}
use Rattle.region_split.specs.Parted.{IsParted, IsNoModule}
use Rattle.module_reading.proofs.ByParts.{told, no_module}
use Rattle.module_reading.proofs.read.read_module.Goals as goal

pub returns-in-None-clause-refuses : goal.returns-in-None-clause-refuses
returns-in-None-clause-refuses c r e =
    let x = c.args.text.now in
    told x (record { rule = Syntax; place = beginning }) c.refused.result c.refused.ensures
    (no_module x (subst (λ (o : Option RegionParts). MatchOption o (IsNoModule x) (IsParted x)) c.in-None.is c.in_ok-parts.ensures.parts)) r e
