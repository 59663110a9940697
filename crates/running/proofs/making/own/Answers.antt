-- Proves that these are the variables that each process has for itself.
use Rattle.std.proofs.Common.{◌≤◌, ◌&&◌, List, length, sym, subst, ◌∙◌}
use Rattle.tla_token.specs.Signs.{is_among}
use Rattle.tla_tree.specs.Tree.{Word}
use Rattle.name_bits.specs.NamesIn.{most}
use Rattle.running.proofs.OwnLaws.{own_among}
use Rattle.running.proofs.making.own.Goals as goal

pub returns : goal.returns
returns c = λ ts P here naming ordered few x.
    c.own_bits.ensures (subst (λ (vs : List Word). length vs ≤ most) (sym ordered) few) x
    ∙ (λ j. is_among ((c.as_slice.ensures ∙ c.in_ok-names.ensures ts P here naming) j) x && is_among (ordered j) x)
    ∙ own_among P x
