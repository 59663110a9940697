use Rattle.std.proofs.Common.{Some, None, ap, sym, length, unwrap_or, arith}
use Rattle.module_split.proofs.SplitParts.{end_found, sound_end}
use Rattle.module_split.specs.SplitSeen.{is_tail_stand}
use Rattle.module_split.proofs.split.end_index.Goals as goal

pub returns-in-Some-clause-value : goal.returns-in-Some-clause-value
returns-in-Some-clause-value c = ap (λ o. unwrap_or o (length c.args.text.now)) (sym (end_found c.args.text.now c.args.stands.now (Some c.in-Some.last) c.in-Some.ensures))

pub returns-in-Some-clause-within : goal.returns-in-Some-clause-within
returns-in-Some-clause-within c = (let l = sound_end c.args.text.now c.args.stands.now c.in-Some.last is_tail_stand c.requires (sym c.in-Some.ensures) in omega arith)

pub returns-in-None-clause-value : goal.returns-in-None-clause-value
returns-in-None-clause-value c = ap (λ o. unwrap_or o (length c.args.text.now)) (sym (end_found c.args.text.now c.args.stands.now None c.in-None.ensures))
