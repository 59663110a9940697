use Rattle.std.proofs.Common.{◌≡◌, ℕ, ◌+◌, ◌&&◌, ◌||◌, nat_le, nat_lt, get_or, false, is_some, sym, ap, ◌∙◌}
use Rattle.tla_token.specs.Readings.{joined}
use Rattle.tla_token.specs.Scan.{part_of}
use Rattle.module_tree.specs.ModuleParts.{kind_in}
use Rattle.module_split.proofs.AlgorithmSteps.{passes, marked_token, marked_other}
use Rattle.module_split.proofs.algorithm.past.Goals as goal
use Rattle.module_split.proofs.algorithm.past.Goals.{then-is_token, else-is_token}

pub returns : goal.returns
returns c =
    let bytes = c.bytes_of-bytes.result.now in
    let at = c.args.inside.at in
    let to = c.args.inside.at + c.args.part.len in
    let b = is_some (kind_in (part_of c.args.part.class bytes)) in
    let marks : (k : ℕ) → get_or c.if-is_token.marks k false ≡ (get_or c.args.marks.now k false || (b && (nat_le at k && nat_lt k to))) =
    elim c.if-is_token.branch [
      | then-is_token w ↦ λ k. marked_token c.args.marks.now w.mark.new.marks c.if-is_token.marks at to k b w.marks-is (w.mark.ensures k) (sym w.if-is_token.true ∙ c.is_token.ensures bytes)
      | else-is_token w ↦ λ k. marked_other c.args.marks.now c.if-is_token.marks at to k b w.marks-is (sym w.if-is_token.false ∙ c.is_token.ensures bytes)
    ] in
    passes c.args.text.now c.args.end c.args.inside _ c.args.marks.now c.if-is_token.marks c.args.part bytes c.requires.here c.requires.more c.requires.ends c.requires.going c.requires.part
    c.bytes_of-bytes.ensures.value c.min.ensures c.after_part.ensures.is c.after_part.ensures.depth c.saturating_sub.ensures (c.sooner.ensures ∙ ap (joined c.args.inside.fault) c.inner_fault-fault.ensures) c.if-is_token.auto.marks marks
