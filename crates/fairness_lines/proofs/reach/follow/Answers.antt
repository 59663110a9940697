-- Proves that the numbers of a row are marked.
use Rattle.std.proofs.Common.{List, ℕ, sym, ap, ◌∙◌}
use Rattle.std.proofs.lemmas.Result.{on_ok_weaker}
use Rattle.fairness_lines.specs.WorkLists.{put_all}
use Rattle.fairness_lines.proofs.Reaching.{list_at}
use Rattle.fairness_lines.proofs.reach.follow.Goals as goal

pub returns : goal.returns
returns c =
    on_ok_weaker c.mark_all.result (λ h.
    h ∙ ap (λ (ns : List ℕ). put_all (record { marks = c.args.marks.now.items; work = c.args.work.now.items }) ns)
    (c.deref.ensures.value ∙ sym (list_at c.args.rows.now c.args.number c.index-rows-number.result c.index-rows-number.is c.requires)))
    c.mark_all.ensures
