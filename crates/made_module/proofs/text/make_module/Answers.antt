-- Proves that the text is the module, and short.
use Rattle.std.proofs.Common.{ℕ, List, Vec, Global, ◌<◌, ◌^◌, length, sym, ap, ◌∙◌, subst}
use Rattle.std.specs.String.{string_bytes}
use Rattle.make_module.proofs.Short.{short}
use Rattle.made_module.proofs.LineSteps.{line_more, all_lines}
use Rattle.made_module.proofs.text.make_module.Goals as goal

pub loop-i-preserved : goal.loop-i-preserved
loop-i-preserved c =
    line_more c.args.count c.loop-i.i c.loop-i.number c.next_number-number.result c.loop-i-test.true c.next_number-number.ensures (string_bytes c.loop-i.text) (string_bytes c.add_line.new.text) _ c.in_ok-add_line.ensures c.loop-i.invariant

pub returns-clause-made : goal.returns-clause-made
returns-clause-made c =
    ap (λ (v : Vec ℕ Global). v.items) c.into_bytes.ensures.value
    ∙ all_lines c.args.seed c.args.count c.loop-i.i c.loop-i.number c.loop-i-test.false (string_bytes c.loop-i.text) (string_bytes c.push_str.new.self) c.in_ok-push_str.ensures.bytes c.loop-i.invariant

pub returns-clause-short : goal.returns-clause-short
returns-clause-short c = λ few. subst (λ (w : List ℕ). length w < 2 ^ 17) (sym (returns-clause-made c)) (short c.args.seed c.args.count few)
