-- A file that is read is not refused, and is rewritten; one that isn't split or read is refused so.
use Rattle.std.proofs.Common.{ap, subst, None, Err}
use Rattle.tla_token.specs.declared.rule.Stop.{Stop}
use Rattle.pcal_tree.specs.Syntaxes.{syntax_of}
use Rattle.module_tree.specs.TextFront.{Text}
use Rattle.printed_text.specs.Rewritten.{Rewritten}
use Rattle.file_answer.specs.Spelling.{AnswersRewriting}
use Rattle.file_answer.proofs.Changed.{rewrites_it}
use Rattle.rewriting.proofs.FileRead.{split_stop}
use Rattle.rewriting.proofs.read_file.rewrite_text.Goals as goal

pub returns-in-Err-clause-stopped : goal.returns-in-Err-clause-stopped
returns-in-Err-clause-stopped c = split_stop c.args.text.now c.in-Err.stop (λ r e. c.in-Err.ensures.refused r (ap (λ (s : Stop). Err s) e))

pub returns-in-Ok-rewritten-clause-ok : goal.returns-in-Ok-rewritten-clause-ok
returns-in-Ok-rewritten-clause-ok c =
    let s = syntax_of c.args.to in
    let w = c.in-Ok-rewritten.file.items in
    let same = c.in-Ok.ensures.parts.text in
    rewrites_it s c.args.text.now w (subst (λ (x : Text). AnswersRewriting x None) same c.in-Ok-read_parts.ensures.clean) (subst (λ (x : Text). Rewritten s x w) same c.in-Ok-rewritten.ensures)
