-- Proves what is asked of `read_config`.
use Rattle.std.proofs.Common.{sym, ◌∙◌}
use Rattle.tla_tree.specs.Tree.{words}
use Rattle.run_files.proofs.ConfigLaws.{from_none, config_read, config_lacks, config_stops}
use Rattle.run_files.proofs.config.read_config.Goals as goal

pub returns-then-are_given-clause-read : goal.returns-then-are_given-clause-read
returns-then-are_given-clause-read c = λ o e.
    let cs = c.args.constants.now in
    let known = c.add_all.new.self in
    config_read o cs known c.args.text.now c.in-Ok.state e (from_none c.new-known.result known (words cs) c.new-known.ensures c.in_ok-add_all.ensures) c.in-Ok.ensures (sym c.are_given.ensures ∙ c.if-are_given.true)

pub returns-in-Ok-clause-refused : goal.returns-in-Ok-clause-refused
returns-in-Ok-clause-refused c = λ o r e f.
    let cs = c.args.constants.now in
    let known = c.add_all.new.self in
    config_lacks o cs known c.args.text.now c.in-Ok.state c.refused.result r e (from_none c.new-known.result known (words cs) c.new-known.ensures c.in_ok-add_all.ensures) c.in-Ok.ensures (sym c.are_given.ensures ∙ c.if-are_given.false) c.refused.ensures f

pub returns-clause-refused : goal.returns-clause-refused
returns-clause-refused c = λ o r e f.
    let cs = c.args.constants.now in
    let known = c.add_all.new.self in
    let a = rw c.in-Err-At.field-0-is at c.in-Err-At.ensures in
    config_stops o cs known c.args.text.now a.0 c.in-Err-At.at c.refused-in-Err-At.result r e (from_none c.new-known.result known (words cs) c.new-known.ensures c.in_ok-add_all.ensures) a.1 a.2 c.refused-in-Err-At.ensures f
