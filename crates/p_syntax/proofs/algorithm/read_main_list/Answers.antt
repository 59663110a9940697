-- Proves what is asked of `read_main_list`.
use Rattle.std.proofs.Common.{ap}
use Rattle.std.proofs.lemmas.Result.{err_from_is_err_and}
use Rattle.tla_tree.specs.Reader.{Out, then_read, gives}
use Rattle.pcal_tree.specs.Algorithm as tree
use Rattle.pcal_tree.specs.GrammarP.{Sequence}
use Rattle.pcal_tree.specs.Grammar.{begin}
use Rattle.algorithm_reader.proofs.Gathered.{fails_then}
use Rattle.p_syntax.proofs.algorithm.read_main_list.Goals as goal

pub returns-clause-read : goal.returns-clause-read
returns-clause-read c n p e =
    let list = c.in_ok-list.ensures.read n e in
    record {
      what = begin p list.what;
      is = ap (λ (o : Out Sequence). then_read o (λ ss. gives (begin p ss))) list.is;
      told = record { below = list.told.below; tree = ap tree.alone list.told.tree };
    }

pub returns-in_err-list-clause-read : goal.returns-in_err-list-clause-read
returns-in_err-list-clause-read c n p e =
    let r = err_from_is_err_and c.from_residual.result c.from_residual.ensures.1 in
    rw (r.1, r.2) (fails_then c.in_err-list.field-0.0 _ (λ ss. gives (begin p ss)) (c.in_err-list.ensures.read n e))
