-- Proves that it is decided before which statements of a body labels are added.
use Rattle.std.proofs.Common.{sym, ◌∙◌, append-nil}
use Rattle.added_labels.proofs.ChooseLaws.{body_begins}
use Rattle.added_labels.proofs.seen.Where.choose.Goals as goal

pub returns : goal.returns
returns c = λ ms a p b.
    sym (append-nil c.choose_list.new.wanted.items) ∙ sym ((c.in_ok-choose_list.ensures.chooses ms a p (body_begins _ c.new-path.result p c.args.due b c.new-path.ensures.names c.new-path.ensures.reached)).chosen _)
