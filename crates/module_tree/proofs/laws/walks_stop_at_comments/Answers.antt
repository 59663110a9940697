-- Proves the law `walks_stop_at_comments`.
use Rattle.module_tree.proofs.WalkBefore.{walk_before}
use Rattle.module_tree.proofs.laws.walks_stop_at_comments.Goals as goal

pub returns : goal.returns
returns c = walk_before
