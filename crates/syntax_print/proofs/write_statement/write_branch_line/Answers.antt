-- Proves what is asked of `write_branch_line`.
use Rattle.pcal_tree.specs.Syntaxes.{syntax_of}
use Rattle.syntax_print.proofs.Lines.{on_ok}
use Rattle.syntax_print.proofs.Branches.{first_line, later_line}
use Rattle.syntax_print.proofs.write_statement.write_branch_line.Goals as goal

pub returns-in_ok-begin_line : goal.returns-in_ok-begin_line
returns-in_ok-begin_line c =
    on_ok c.write_opening.result _ _ (λ e. first_line (syntax_of c.args.syntax) c.args.k c.args.labels.now c.args.into.now c.begin_line.new.into c.write_opening.new.into c.args.first c.if-first.true c.in_ok-begin_line.ensures e) c.write_opening.ensures

pub returns-else-first : goal.returns-else-first
returns-else-first c = on_ok c.write_middle_line.result _ _ (later_line (syntax_of c.args.syntax) c.args.k c.args.labels.now c.args.into.now c.write_middle_line.new.into c.args.first c.if-first.false) c.write_middle_line.ensures
