-- Proves what is asked of `line_end`.
use Rattle.std.proofs.Common.{◌-◌, length, take, drop, ap, arith}
use Rattle.std.proofs.lemmas.List.{take_rest, length-drop}
use Rattle.run_files.proofs.LineLaws.{run_within, line_broken, line_last}
use Rattle.run_files.proofs.lines.line_end.Goals as goal

pub overflow_add-end : goal.overflow_add-end
overflow_add-end c =
    let x = c.args.text.now in
    omega (arith, c.line_len.ensures, run_within (take (length x - c.args.from) (drop c.args.from x)), ap length (take_rest x c.args.from), length-drop c.args.from x, c.requires.within, c.requires.small)

pub returns-then-end-text : goal.returns-then-end-text
returns-then-end-text c = line_broken c.args.text.now c.args.from c.line_len.result c.line_len.ensures c.if-end-text.true

pub returns : goal.returns
returns c = line_last c.args.text.now c.args.from c.line_len.result c.requires.within c.line_len.ensures c.if-end-text.false
