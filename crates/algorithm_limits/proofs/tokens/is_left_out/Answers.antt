use Rattle.std.proofs.Common.{List, drop, map}
use Rattle.tla_token.specs.Tokens.{Token}
use Rattle.tla_token.specs.TokensSeen.{token_seen}
use Rattle.algorithm_limits.proofs.LeftOutWords.{tla_found, fairness_found, others_stand}
use Rattle.algorithm_limits.proofs.tokens.is_left_out.Goals as goal

pub returns-in-TlaWord : goal.returns-in-TlaWord
returns-in-TlaWord c =
    let rest : List Token = map (token_seen c.args.tokens.now.bytes.items) (drop c.args.next c.args.tokens.now.items.items) in
    tla_found c.args.tokens.now.bytes.items c.args.token.kind c.in-TlaWord.field-0 c.in-TlaWord.word c.is_left_out_word.result rest c.in-TlaWord.is c.requires c.is_left_out_word.ensures

pub returns-in-Fairness : goal.returns-in-Fairness
returns-in-Fairness c =
    let rest : List Token = map (token_seen c.args.tokens.now.bytes.items) (drop c.args.next c.args.tokens.now.items.items) in
    fairness_found c.args.tokens.now.bytes.items c.args.token.kind c.in-Fairness.field-0 rest c.in-Fairness.is c.requires

pub returns-in_default : goal.returns-in_default
returns-in_default c =
    let rest : List Token = map (token_seen c.args.tokens.now.bytes.items) (drop c.args.next c.args.tokens.now.items.items) in
    others_stand c.args.tokens.now.bytes.items c.args.token.kind rest c.in_default.not-TlaWord c.in_default.not-Fairness c.in_default.not-Sign c.in_default.not-Other c.requires
