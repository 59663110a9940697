-- Proves the law `layouts_rest_on_no_place`.
use Rattle.module_tree.proofs.LayoutBare.{same_layout}
use Rattle.module_tree.proofs.laws.layouts_rest_on_no_place.Goals as goal

pub returns : goal.returns
returns c = same_layout
