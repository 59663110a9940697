-- Proves that the names outside are met, and those of all that is marked.
use Rattle.std.proofs.lemmas.Result.{on_ok_weaker}
use Rattle.std.proofs.Common.{[], ◌∙◌, arith}
use Rattle.declared_rules.proofs.met.Met.all.Goals as goal

pub sweep-requires : goal.sweep-requires
sweep-requires c = let many = (c.in_ok-outside.ensures [] (omega arith)).many in omega (arith, many, c.requires)

pub returns : goal.returns
returns c = on_ok_weaker c.sweep.result (λ done w. let out = c.in_ok-outside.ensures c.args.pool.now (omega (arith, c.requires)) in done w ∙ out.names w) c.sweep.ensures
