-- Worked rows: short forms.
use Rattle.std.proofs.Common.{◌≡◌, [], None, Ok, refl}
use Rattle.tla_token.specs.declared.place.Place.{Place}
use Rattle.tla_tree.specs.declared.op.Op.TheVariants as op
use Rattle.tla_tree.specs.Spelling.{Phrase, prefix_of}
use Rattle.tla_tree.specs.Reader.{Readers, no_steps}
use Rattle.expr_operands.specs.ShortForms.{under_short, shape_if}

-- a reader that always reads this, and takes nothing
abbrev shorts : Phrase → Readers
shorts b = record no_steps { short = λ e ts. Ok (b, ts) }

short_negated : (b : Phrase) (p : Place) → under_short (shorts b) 0 p op.Not [] ≡ Ok (prefix_of p op.Not b, [])
short_negated b p = refl

no_shape : shape_if None ≡ None
no_shape = refl
