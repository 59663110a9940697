-- Proves that it is the translation, and when it is refused.
use Rattle.std.proofs.Common.{◌∙◌}
use Rattle.std.proofs.lemmas.Result.{err_from_is_err_and}
use Rattle.pcal_tree.specs.InMemory.{algorithm_at}
use Rattle.pcal_tree.specs.Offences.{first}
use Rattle.macro_expand.specs.TooLarge.{too_large}
use Rattle.action_builder.specs.WrittenNames.{with_names}
use Rattle.step_forms.specs.Opened.{opened_program}
use Rattle.region_forms.proofs.OpenedRegions.{accepted_openable, region_stepped}
use Rattle.module_builder.proofs.AcceptedLaws.{variables_apart, something_runs, actable}
use Rattle.module_builder.proofs.RefusalLaws.{passed_on, made_fine, no_memory}
use Rattle.module_builder.proofs.build.built_region.Goals as goal

pub returns-in_err-made-clause-refused : goal.returns-in_err-made-clause-refused
returns-in_err-made-clause-refused c = λ q.
    let r = err_from_is_err_and c.from_residual.result c.from_residual.ensures.1 in
    passed_on q c.from_residual.result c.in_err-made.field-0.0 r.0 r.1 r.2 (c.in_err-made.ensures.refused q)

pub returns-in_err-region-clause-refused : goal.returns-in_err-region-clause-refused
returns-in_err-region-clause-refused c = λ q.
    let r = err_from_is_err_and c.from_residual-in_err-region.result c.from_residual-in_err-region.ensures.1 in
    no_memory q (first (too_large (algorithm_at c.args.pool.now c.args.algorithm))) c.from_residual-in_err-region.result r.0 r.1 r.2 c.in_ok-made.ensures.fine

pub returns-clause-built : goal.returns-clause-built
returns-clause-built c = λ o h naming few.
    let g = algorithm_at c.args.pool.now c.args.algorithm in
    c.in_ok-region.ensures.made (opened_program (with_names o g)) c.in_ok-made.ensures.made naming (variables_apart o g h) (something_runs o g h) (actable o g h few)
    ∙ region_stepped c.args.no_terminating (with_names o g) (accepted_openable o g h)

pub returns-clause-refused : goal.returns-clause-refused
returns-clause-refused c = λ q. made_fine q (first (too_large (algorithm_at c.args.pool.now c.args.algorithm))) c.in_ok-region.region c.in_ok-made.ensures.fine
