-- Proves what is asked of `is_new`.
use Rattle.std.proofs.Common.{sym, ◌∙◌}
use Rattle.step_runner.specs.Items.{names_of}
use Rattle.run_files.proofs.ItemLaws.{new_unknown, new_known}
use Rattle.run_files.proofs.items.is_new.Goals as goal

pub returns-then-not-has : goal.returns-then-not-has
returns-then-not-has c = new_unknown c.args.known.now (names_of c.args.state.now) c.args.name.now (sym c.has.ensures ∙ c.if-not-has.true)

pub returns : goal.returns
returns c = new_known c.args.known.now (names_of c.args.state.now) c.args.name.now c.is_given.result (sym c.has.ensures ∙ c.if-not-has.false) c.is_given.ensures
