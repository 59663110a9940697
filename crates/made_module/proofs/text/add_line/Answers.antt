-- Proves that a line is that of its kind.
use Rattle.std.proofs.Common.{ℕ, List, ◌++◌, ap, ◌∙◌, append_assoc}
use Rattle.std.proofs.lemmas.Result.{on_ok_weaker}
use Rattle.std.specs.String.{string_bytes}
use Rattle.made_module.proofs.text.add_line.Goals as goal

pub returns-in-0 : goal.returns-in-0
returns-in-0 c = on_ok_weaker c.writeln.result (λ h. h ∙ ap (λ (l : List ℕ). string_bytes c.args.text.now ++ l) (simp (c.in-0.is, append_assoc))) c.writeln.ensures.bytes

pub returns-in-1 : goal.returns-in-1
returns-in-1 c = on_ok_weaker c.writeln-in-1.result (λ h. h ∙ ap (λ (l : List ℕ). string_bytes c.args.text.now ++ l) (simp (c.in-1.is, append_assoc))) c.writeln-in-1.ensures.bytes

pub returns-in-2 : goal.returns-in-2
returns-in-2 c = on_ok_weaker c.writeln-in-2.result (λ h. h ∙ ap (λ (l : List ℕ). string_bytes c.args.text.now ++ l) (simp (c.in-2.is, append_assoc))) c.writeln-in-2.ensures.bytes
