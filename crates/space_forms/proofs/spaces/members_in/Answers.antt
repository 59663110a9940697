-- Proves what is asked of `members_in`.
use Rattle.std.proofs.Common.{subst}
use Rattle.tla_value.specs.ValueOf.{IsStored}
use Rattle.space_forms.proofs.SpaceLaws.{is_space}
use Rattle.space_forms.proofs.spaces.members_in.Goals as goal

pub returns-in-Set-clause-space : goal.returns-in-Set-clause-space
returns-in-Set-clause-space c = is_space c.args.s.now (subst IsStored c.s.view_is c.s.invariant)
