-- Proves what is asked of `write_item`.
use Rattle.std.proofs.Common.{[], ◌++◌, sym, ap, ◌∙◌}
use Rattle.tla_write.specs.declared.write.Item.{Item}
use Rattle.tla_tree.specs.Written.{text_of}
use Rattle.tla_write.specs.Writing.{item_pieces}
use Rattle.tla_write.proofs.WritingLemmas.{field_written}
use Rattle.tla_write.proofs.write.write_item.Goals as goal

pub returns-in_ok-extend-in-Field : goal.returns-in_ok-extend-in-Field
returns-in_ok-extend-in-Field c = λ ps.
    field_written c.args.into.now c.extend-in-Field.new.self c.bytes-in-Field.result.now c.in-Field.name.now c.in_ok-extend-in-Field.ensures.ok c.bytes-in-Field.ensures ps
    ∙ ap (λ (i : Item). c.args.into.now ++ text_of (item_pieces [] i ps)) (sym c.in-Field.is)
