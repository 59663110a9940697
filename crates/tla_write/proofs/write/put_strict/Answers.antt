-- Proves what is asked of `put_strict`.
use Rattle.std.proofs.Common.{sym, ap, subst, ◌∙◌}
use Rattle.tla_write.specs.Writing.{shown}
use Rattle.tla_pool.specs.declared.form.Strict.{Strict}
use Rattle.tla_pool.specs.FormOf.{strict_of}
use Rattle.tla_tree.specs.Shapes.{StrictShaped}
use Rattle.tla_tree.specs.Written.{strict_pieces}
use Rattle.tla_write.proofs.WritingLemmas.{shown_append, select_shown}
use Rattle.tla_write.proofs.write.put_strict.Goals as goal

pub returns-in_ok-push-in-SetOf-2 : goal.returns-in_ok-push-in-SetOf-2
returns-in_ok-push-in-SetOf-2 c = λ xs h ps. rw c.in_ok-push-in-SetOf-2.ensures.items (simp shown_append (rw (c.in_ok-put_listed-in-SetOf.ensures xs h ps, c.in_ok-push-in-SetOf.ensures.items) (simp shown_append (ap (λ (m : Strict). strict_pieces (strict_of m) xs (shown xs c.args.plan.now.items ps)) (sym c.in-SetOf.is)))))

pub returns-in_ok-push-in-Tuple-2 : goal.returns-in_ok-push-in-Tuple-2
returns-in_ok-push-in-Tuple-2 c = λ xs h ps. rw c.in_ok-push-in-Tuple-2.ensures.items (simp shown_append (rw (c.in_ok-put_listed-in-Tuple.ensures xs h ps, c.in_ok-push-in-Tuple.ensures.items) (simp shown_append (ap (λ (m : Strict). strict_pieces (strict_of m) xs (shown xs c.args.plan.now.items ps)) (sym c.in-Tuple.is)))))

pub returns-in_ok-extend_from_slice-in-Select : goal.returns-in_ok-extend_from_slice-in-Select
returns-in_ok-extend_from_slice-in-Select c = λ xs h ps. rw c.in_ok-extend_from_slice-in-Select.ensures.items (simp shown_append (select_shown c.in-Select.name xs (h ∙ (subst (λ (m : Strict). StrictShaped (strict_of m) c.args.n) c.in-Select.is c.requires)) (shown xs c.args.plan.now.items ps) ∙ ap (λ (m : Strict). strict_pieces (strict_of m) xs (shown xs c.args.plan.now.items ps)) (sym c.in-Select.is)))
