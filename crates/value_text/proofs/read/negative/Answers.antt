-- Proves what is asked of `negative`.
use Rattle.value_text.specs.InSight.{ahead}
use Rattle.value_text.proofs.ReadLemmas.{minus_alone, minus_answer, minus_other}
use Rattle.value_text.proofs.read.negative.Goals as goal

pub returns-in-None-clause-read : goal.returns-in-None-clause-read
returns-in-None-clause-read c = minus_alone (ahead c.args.text.now c.args.at.now) c.in-None.ensures

pub returns-in-Number-clause-read : goal.returns-in-Number-clause-read
returns-in-Number-clause-read c = λ d. minus_answer c.args.text.now c.args.at.now c.in-Some.token d c.integer.result c.in-Some.ensures c.in-Number.is c.integer.ensures

pub returns-in_default : goal.returns-in_default
returns-in_default c = record {
  read = minus_other c.args.text.now c.args.at.now c.in-Some.token c.in-Some.ensures c.in_default.not-Number;
  moved = tt;
  way = tt;
}
