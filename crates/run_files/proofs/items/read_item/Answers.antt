-- Proves what is asked of `read_item`.
use Rattle.std.proofs.Common.{sym, ap, ◌∙◌, Err}
use Rattle.tla_token.specs.declared.rule.Stop.{Stop}
use Rattle.step_runner.specs.Items.{names_of}
use Rattle.run_files.proofs.ItemLaws.{item_read, refused_value}
use Rattle.run_files.proofs.items.read_item.Goals as goal

pub returns-in-Ok : goal.returns-in-Ok
returns-in-Ok c =
    let i = rw c.in-Ok-Some.field-0-is at c.in-Ok-Some.ensures.inside in
    item_read c.args.bullet c.args.known.now c.args.state.now c.set.new.self c.args.text.now c.args.at c.in-Ok-Some.from c.in-Ok.to c.in-Ok-Some.name c.in-Ok.value
    i.0 (sym c.in-Ok-Some.field-0-is ∙ c.in-Ok-Some.ensures.value) (sym c.if-not-is_new.false ∙ c.is_new.ensures) c.in-Ok.ensures.read c.in_ok-set-in-Ok.ensures.ok

pub returns-in-Ok-Some : goal.returns-in-Ok-Some
returns-in-Ok-Some c =
    refused_value c.args.bullet c.args.known.now (names_of c.args.state.now) c.args.text.now c.args.at c.in-Ok-Some.name c.in-Ok-Some.from c.requires.within (sym c.in-Ok-Some.field-0-is ∙ c.in-Ok-Some.ensures.value)
    (c.in-Err-Refused.ensures.refused c.in-Err-Refused.field-0-0 (ap (λ (s : Stop). Err s) c.in-Err-Refused.field-0-is)).none
