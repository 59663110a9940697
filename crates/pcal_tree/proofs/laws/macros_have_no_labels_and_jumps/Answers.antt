-- Proves the law `macros_have_no_labels_and_jumps`.
use Rattle.pcal_tree.proofs.PlainMacros.{macros_bare, macros_stay, macros_begin}
use Rattle.pcal_tree.proofs.laws.macros_have_no_labels_and_jumps.Goals as goal

pub returns-clause-bare : goal.returns-clause-bare
returns-clause-bare c = macros_bare

pub returns-clause-stays : goal.returns-clause-stays
returns-clause-stays c = macros_stay

pub returns-clause-begins : goal.returns-clause-begins
returns-clause-begins c = macros_begin
