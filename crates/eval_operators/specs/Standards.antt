-- The standard operators in memory.
use Rattle.tla_value.specs.Standard as pure
use Rattle.eval_operators.specs.declared.standard.Standard.{Standard}
use Rattle.eval_operators.specs.declared.standard.Standard.TheVariants as kept

abbrev pub standard_in : Standard → pure.Standard
standard_in kept.Length = pure.length_of
standard_in kept.Append = pure.appended
standard_in kept.Head = pure.first_of
standard_in kept.Tail = pure.rest_of
standard_in kept.SubSequence = pure.part_of
standard_in kept.Sequences = pure.sequences
standard_in kept.Cardinality = pure.size_of
standard_in kept.IsFinite = pure.is_finite
standard_in kept.Print = pure.printed
standard_in kept.Assert = pure.asserted
