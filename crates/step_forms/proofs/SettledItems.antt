-- Items of a settled list: those of what is left of it, and, where it does not jump itself, those of the jump to what follows it.
use Rattle.std.proofs.Common.{◌≡◌, List, ◌++◌, Bool, true, false, cond, refl, sym, ◌∙◌, ap, subst}
use Rattle.tla_tree.specs.Tree.{Word, Graft}
use Rattle.pcal_tree.specs.Algorithm.{Statements}
use Rattle.pcal_tree.specs.Expand.{graft_all, followed_by}
use Rattle.action_builder.specs.Assigned.{Names, more, assigned_in}
use Rattle.action_builder.specs.Settled.{WrittenJumps, jumps, settled}
use Rattle.action_builder.specs.Written.{onto, write}
use Rattle.step_forms.specs.LeftOver.{left_over}
use Rattle.step_forms.proofs.LeftLaws.{still_left, settled_left, put_jumps, put_followed}
use Rattle.step_forms.proofs.WrittenLaws.{Unmarked, still_unmarked, assigned_followed, write_followed}

module _ (o : Graft) (W : WrittenJumps) (here l : Word) (ss : Statements) where
  abbrev pub left_put : Statements
  left_put = graft_all o (left_over W here l ss)

  left_unmarked : jumps ss ≡ false → Unmarked left_put
  left_unmarked h = subst (λ (a : Statements). Unmarked (graft_all o a)) (sym (still_left W here l ss h)) (still_unmarked (graft_all o ss) (put_jumps o ss ∙ h))

  settled_put : graft_all o (settled W here l ss) ≡ cond (jumps ss) left_put (followed_by left_put (graft_all o (W.goto l)))
  settled_put = ap (graft_all o) (settled_left W here l ss) ∙ by (jumps ss)
    where
      by : (b : Bool) → graft_all o (cond b (left_over W here l ss) (followed_by (left_over W here l ss) (W.goto l))) ≡ cond b left_put (followed_by left_put (graft_all o (W.goto l)))
      by true = refl
      by false = put_followed o (left_over W here l ss) (W.goto l)

  pub settled_assigned : assigned_in (graft_all o (settled W here l ss)) ≡ cond (jumps ss) (assigned_in left_put) (assigned_in left_put ++ assigned_in (graft_all o (W.goto l)))
  settled_assigned = ap assigned_in settled_put ∙ by (jumps ss) refl
    where
      by : (b : Bool) → jumps ss ≡ b → assigned_in (cond b left_put (followed_by left_put (graft_all o (W.goto l)))) ≡ cond b (assigned_in left_put) (assigned_in left_put ++ assigned_in (graft_all o (W.goto l)))
      by true h = refl
      by false h = assigned_followed left_put (graft_all o (W.goto l)) (left_unmarked h)

  -- A: the variables that are assigned already
  pub settled_written : (vs : List Word) (A : Names) → write vs A (graft_all o (settled W here l ss))
      ≡ cond (jumps ss) (write vs A left_put) (onto (write vs A left_put) (write vs (more A (assigned_in left_put)) (graft_all o (W.goto l))))
  settled_written vs A = ap (write vs A) settled_put ∙ by (jumps ss) refl
    where
      by : (b : Bool) → jumps ss ≡ b → write vs A (cond b left_put (followed_by left_put (graft_all o (W.goto l))))
          ≡ cond b (write vs A left_put) (onto (write vs A left_put) (write vs (more A (assigned_in left_put)) (graft_all o (W.goto l))))
      by true h = refl
      by false h = write_followed vs A left_put (graft_all o (W.goto l)) (left_unmarked h)
