-- Proves the law `printed_algorithms_are_spelled`.
use Rattle.pcal_tree.specs.Grammar.{p_syntax, c_syntax}
use Rattle.printed_text.proofs.Back.{spelled}
use Rattle.printed_text.proofs.laws.printed_algorithms_are_spelled.Goals as goal

pub returns-clause-p : goal.returns-clause-p
returns-clause-p c = spelled p_syntax

pub returns-clause-c : goal.returns-clause-c
returns-clause-c c = spelled c_syntax
