use Rattle.std.proofs.Common.{Some, None, sym}
use Rattle.module_split.proofs.SplitParts.{end_found}
use Rattle.module_split.proofs.split.module_end.Goals as goal

pub returns-in-Some : goal.returns-in-Some
returns-in-Some c x = sym (end_found x c.args.stands.now (Some c.in-Some.last) c.in-Some.ensures)

pub returns-in-None : goal.returns-in-None
returns-in-None c x = sym (end_found x c.args.stands.now None c.in-None.ensures)
