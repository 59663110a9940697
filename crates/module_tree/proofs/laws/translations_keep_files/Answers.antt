-- Proves the law `translations_keep_files`.
use Rattle.module_tree.proofs.WalkSame.{is_put, keeps_file, put_again}
use Rattle.module_tree.proofs.AlgorithmSame.{algorithm_kept}
use Rattle.module_tree.proofs.AlgorithmMoved.{tokens_kept, token_offences_kept}
use Rattle.module_tree.proofs.FineKept.{fine_kept}
use Rattle.module_tree.proofs.laws.translations_keep_files.Goals as goal

pub returns-clause-place : goal.returns-clause-place
returns-clause-place c = is_put

pub returns-clause-kept : goal.returns-clause-kept
returns-clause-kept c = keeps_file

pub returns-clause-again : goal.returns-clause-again
returns-clause-again c = put_again

pub returns-clause-algorithm : goal.returns-clause-algorithm
returns-clause-algorithm c = algorithm_kept

pub returns-clause-fine : goal.returns-clause-fine
returns-clause-fine c = fine_kept

pub returns-clause-tokens : goal.returns-clause-tokens
returns-clause-tokens c = tokens_kept

pub returns-clause-tokens_fine : goal.returns-clause-tokens_fine
returns-clause-tokens_fine c = token_offences_kept
