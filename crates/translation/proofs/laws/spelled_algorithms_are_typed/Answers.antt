-- Proves the law `spelled_algorithms_are_typed`.
use Rattle.translation.proofs.TypedNames.{typed_names}
use Rattle.translation.proofs.TypedTexts.{text_typed}
use Rattle.translation.proofs.TypedLabels.{labelled_typed}
use Rattle.translation.proofs.laws.spelled_algorithms_are_typed.Goals as goal

pub returns-clause-typed : goal.returns-clause-typed
returns-clause-typed c = text_typed

pub returns-clause-labelled : goal.returns-clause-labelled
returns-clause-labelled c = labelled_typed

pub returns-clause-names : goal.returns-clause-names
returns-clause-names c = typed_names
