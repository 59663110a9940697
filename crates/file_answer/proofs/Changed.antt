-- A file that is not refused is rewritten, in each syntax, to one file.
use Rattle.std.proofs.Common.{◌≡◌, None, sym, subst}
use Rattle.pcal_tree.specs.Grammar.{Syntax}
use Rattle.module_tree.specs.TextFront.{Text}
use Rattle.printed_text.specs.Rewritten.{Rewritten}
use Rattle.printed_text.specs.Rewrites.{Rewrites}
use Rattle.printed_text.proofs.Rewritten.{some_rewritten, one_rewritten, rewritten_rewrites}
use Rattle.file_answer.specs.Spelling.{AnswersRewriting}
use Rattle.file_answer.proofs.Unrefused.{unrefused_is_fine, unrefused_holds}

pub is_rewritten : (s : Syntax) (x : Text) → AnswersRewriting x None → (w : Text) × Rewrites s x w × ((v : Text) → Rewritten s x v → v ≡ w)
is_rewritten s x a =
    let g = unrefused_holds x a in
    let h = g.1 in
    let w = some_rewritten s h.syntax x h.text g.0 h.is_text h.spelled in
    (w.0, rewritten_rewrites s x w.0 (unrefused_is_fine x a) w.1, λ v r. one_rewritten s x v w.0 r w.1)

-- so whatever is its algorithm printed in its place keeps the promise
pub rewrites_it : (s : Syntax) (x w : Text) → AnswersRewriting x None → Rewritten s x w → Rewrites s x w
rewrites_it s x w a r = (let d = is_rewritten s x a in subst (Rewrites s x) (sym (d.2 w r)) d.1)
