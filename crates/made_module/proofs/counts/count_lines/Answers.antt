-- Proves that the three lines are those of the definition.
use Rattle.std.proofs.Common.{ℕ, Vec, Global, ap, ◌∙◌, append_assoc}
use Rattle.made_module.proofs.counts.count_lines.Goals as goal

pub returns : goal.returns
returns c = ap (λ (v : Vec ℕ Global). v.items) c.into_bytes.ensures.value ∙ c.in_ok-lines.ensures.ok ∙ simp append_assoc
