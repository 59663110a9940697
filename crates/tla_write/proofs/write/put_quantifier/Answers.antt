-- Proves what is asked of `put_quantifier`.
use Rattle.std.proofs.Common.{◌∷◌, ap, false}
use Rattle.tla_write.specs.Writing.{fixed_token, shown}
use Rattle.tla_pool.specs.FormOf.{groups_of}
use Rattle.tla_tree.specs.Written.{Part, blank, token, colon, bind_pieces}
use Rattle.tla_write.proofs.WritingLemmas.{shown_append, body_groups}
use Rattle.tla_write.proofs.write.put_quantifier.Goals as goal

pub returns : goal.returns
returns c = λ xs h ps. rw c.in_ok-extend_from_slice-2.ensures.items
    (simp shown_append (rw (c.in_ok-put_binds.ensures xs h ps, c.in_ok-extend_from_slice.ensures.items)
    (simp shown_append (ap (λ (a : Part). token (fixed_token c.args.key) ∷ blank ∷ bind_pieces (groups_of c.args.groups.now) xs (colon (a false (shown xs c.args.plan.now.items ps)))) (body_groups c.args.groups.now xs h)))))
