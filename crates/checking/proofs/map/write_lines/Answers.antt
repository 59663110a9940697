-- Proves that the text of the lines is put together.
use Rattle.std.proofs.Common.{◌∙◌, ◌++◌, ap, refl, List, ℕ}
use Rattle.source_map.specs.Lines.{lines_text}
use Rattle.label_lines.specs.Found.{lines_seen}
use Rattle.checking.proofs.LinesWritten.{line_then, line_over}
use Rattle.checking.proofs.map.write_lines.Goals as goal

pub loop-line-init : goal.loop-line-init
loop-line-init c = ap (λ (v : List ℕ). v ++ lines_text (lines_seen c.args.lines.now)) c.new-out.ensures.items

pub loop-line-preserved : goal.loop-line-preserved
loop-line-preserved c =
    line_then c.loop-line.out.items c.write_line.new.out.items c.args.lines.now c.loop-line.line-index c.line-item.result c.line-item.is c.loop-line-test.true c.in_ok-write_line.ensures
    ∙ c.loop-line.invariant

pub returns : goal.returns
returns c = line_over c.loop-line.out.items c.args.lines.now c.loop-line.line-index c.loop-line-test.false ∙ c.loop-line.invariant
