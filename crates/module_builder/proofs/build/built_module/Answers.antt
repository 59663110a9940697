-- Proves that it is the module with this translation, and when it is refused.
use Rattle.std.proofs.Common.{length}
use Rattle.std.proofs.lemmas.Result.{err_from_is_err_and}
use Rattle.tla_value.proofs.DefsGrown.{DefinitionsIn-more}
use Rattle.module_builder.proofs.OutsideGrown.{outside_kept}
use Rattle.module_builder.proofs.RefusalLaws.{passed_on, made_again}
use Rattle.module_builder.proofs.build.built_module.Goals as goal

pub returns-in_err-region-clause-refused : goal.returns-in_err-region-clause-refused
returns-in_err-region-clause-refused c = λ q.
    let r = err_from_is_err_and c.from_residual.result c.from_residual.ensures.1 in
    passed_on q c.from_residual.result c.in_err-region.field-0.0 r.0 r.1 r.2 (c.in_err-region.ensures.refused q)

pub returns-clause-built : goal.returns-clause-built
returns-clause-built c = λ o h naming few j. record {
  title = c.args.title;
  outside = outside_kept c.args.pool.now c.built_region.new.pool c.in_ok-region.ensures.kept c.args.outside c.requires.outside j;
  region = c.in_ok-region.ensures.built o h naming few j;
}

pub returns-clause-definitions : goal.returns-clause-definitions
returns-clause-definitions c = DefinitionsIn-more (length c.args.pool.now) (length c.built_region.new.pool) c.args.outside.definitions c.in_ok-region.ensures.kept.longer c.requires.outside

pub returns-clause-refused : goal.returns-clause-refused
returns-clause-refused c = λ q. made_again q c.in_ok-region.region (record { title = c.args.title; outside = c.args.outside; region = c.in_ok-region.region }) (c.in_ok-region.ensures.refused q)
