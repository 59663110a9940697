-- What is kept while numbers are marked: those that are left still give the whole.
use Rattle.std.proofs.Common.{◌≡◌, drop}
use Rattle.fairness_lines.specs.WorkLists.{put_all}
use Rattle.fairness_lines.proofs.reach.mark_all.Given as goal

abbrev pub invariant-loop-number : goal.invariant-loop-number
invariant-loop-number l =
    put_all (record { marks = l.marks.items; work = l.work.items }) (drop l.number-index l.numbers) ≡ put_all (record { marks = l.fn.marks.items; work = l.fn.work.items }) l.numbers
