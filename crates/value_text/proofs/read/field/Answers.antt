-- Proves what is asked of `field`.
use Rattle.std.proofs.Common.{ℕ, ◌∙◌, sym, ap, subst}
use Rattle.tla_value.specs.Value.{text}
use Rattle.value_text.specs.InSight.{ahead, Moves}
use Rattle.value_text.proofs.Tokens.{moves_then}
use Rattle.value_text.proofs.ReadLemmas.{field_answer}
use Rattle.value_text.proofs.read.field.Goals as goal

pub returns-in_ok-push-in-Some-clause-read : goal.returns-in_ok-push-in-Some-clause-read
returns-in_ok-push-in-Some-clause-read c = λ d.
    field_answer c.args.text.now c.args.at.now c.next_name.new.at c.in-Some.token (ahead c.args.text.now c.passes.new.at) d c.args.keys.now.items c.push.new.self.items c.text.result c.in-Some.ensures.0 c.in-Some.ensures.1 (ap (ahead c.args.text.now) (sym c.in-Some.ensures.2) ∙ c.if-passes.ensures.0) (c.text.ensures ∙ ap text c.in_ok-name-in-Some.ensures) c.in_ok-push-in-Some.ensures.items

pub returns-in_ok-push-in-Some-clause-way : goal.returns-in_ok-push-in-Some-clause-way
returns-in_ok-push-in-Some-clause-way c =
    moves_then c.args.text.now c.args.at.now c.next_name.new.at c.passes.new.at (subst (λ (n : ℕ). Moves c.args.text.now c.args.at.now n) (sym c.in-Some.ensures.2) c.in-Some.ensures.0.way) c.if-passes.ensures.3
