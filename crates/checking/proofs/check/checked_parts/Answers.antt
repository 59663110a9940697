-- Proves that a file is answered as its names and labels are, and else as a rewriting of it is.
use Rattle.std.proofs.Common.{refl}
use Rattle.pcal_tree.specs.InMemory.{algorithm_at}
use Rattle.module_outside.specs.WholeAt.{outside_at}
use Rattle.checking.proofs.CheckedFile.{stops_alike, clean_told, stop_told, labelled_told}
use Rattle.checking.proofs.check.checked_parts.Goals as goal

pub returns-in-Err-clause-stopped : goal.returns-in-Err-clause-stopped
returns-in-Err-clause-stopped c = stops_alike c.args.forced c.args.parts.now.text.now c.in-Err.stop c.in-Err.ensures.stopped

pub returns-in-Ok-with_labels-clause-labelled : goal.returns-in-Ok-with_labels-clause-labelled
returns-in-Ok-with_labels-clause-labelled c =
    let ts = c.with_labels.new.pool in
    let b = c.in-Ok-with_labels.beside.algorithm in
    labelled_told c.args.forced c.args.parts.now.text.now (algorithm_at c.read_parts.new.pool c.in-Ok.read) (algorithm_at ts b) (outside_at ts c.in-Ok-with_labels.beside.outside) c.in-Ok.ensures.clean c.in-Ok.ensures.held
    c.in-Ok-with_labels.ensures.outside c.in-Ok-with_labels.ensures.algorithm ts b c.in-Ok-with_labels.beside.outside refl c.in-Ok-with_labels.ensures.past refl c.in-Ok-with_labels.ensures.held c.rules_kept.result c.rules_kept.ensures.algorithm
    c.rules_kept.ensures.outside c.rules_kept.ensures.names

pub returns-in-Ok-with_labels-clause-clean : goal.returns-in-Ok-with_labels-clause-clean
returns-in-Ok-with_labels-clause-clean c =
    let ts = c.with_labels.new.pool in
    clean_told c.args.forced c.args.parts.now.text.now (algorithm_at c.read_parts.new.pool c.in-Ok.read) (algorithm_at ts c.in-Ok-with_labels.beside.algorithm) (outside_at ts c.in-Ok-with_labels.beside.outside) c.in-Ok.ensures.clean
    c.in-Ok.ensures.held c.in-Ok-with_labels.ensures.outside c.in-Ok-with_labels.ensures.algorithm c.rules_kept.result c.rules_kept.ensures.clean

pub returns-in-Ok-with_labels-clause-stopped : goal.returns-in-Ok-with_labels-clause-stopped
returns-in-Ok-with_labels-clause-stopped c =
    let ts = c.with_labels.new.pool in
    stop_told c.args.forced c.args.parts.now.text.now (algorithm_at c.read_parts.new.pool c.in-Ok.read) (algorithm_at ts c.in-Ok-with_labels.beside.algorithm) (outside_at ts c.in-Ok-with_labels.beside.outside) c.in-Ok.ensures.clean
    c.in-Ok.ensures.held c.in-Ok-with_labels.ensures.outside c.in-Ok-with_labels.ensures.algorithm c.rules_kept.result c.rules_kept.ensures.refused
