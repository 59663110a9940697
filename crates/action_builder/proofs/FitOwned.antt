-- Plain statements with the variables of the process put at its identifier can be written if they could before.
use Rattle.std.proofs.Common.{◌≡◌, Bool, true, false, cond, Some, None, refl, ◌∙◌, subst, sym}
use Rattle.std.proofs.lemmas.Slice.Eq.{bytes_eq-Decides}
use Rattle.tla_token.specs.declared.place.Place.{Place}
use Rattle.tla_tree.specs.Tree.{Word, name, Tree, Trees, grafted_node, grafted_name}
use Rattle.tla_tree.specs.laws.Writable.{IsIdentifier}
use Rattle.tla_value.specs.Grafts.{own_part, owned}
use Rattle.pcal_tree.specs.Algorithm.{Assignments, no_assignments, assignment, Statement, assign, await, print, assert, skip, branch, either, with, while, goto, macro, call, return, Statements, no_branches, or}
use Rattle.pcal_tree.specs.Expand.{graft_left, graft_one, graft_all}
use Rattle.action_builder.specs.Assigned.{head_of}
use Rattle.action_builder.specs.Written.{old_stack}
use Rattle.action_builder.proofs.FitTrees.{owned_put}
use Rattle.action_builder.proofs.FitStatements.{HeadsAre, StatementFits, StatementsFit, IsPlain, LeavesOld, head_graft, head_left, parts_graft, graft_all_fits}

module _ (self : Word) (own : Word → Bool) where
  -- the variable of a left side stays
  name_head : (x : Word) (at : Place) (ts : Trees) → head_of (grafted_node (owned self own) (name x) at ts) ≡ x
  name_head x at ts = by (own x)
    where
      by : (b : Bool) → head_of (grafted_name (cond b (Some (own_part self x at)) None) (name x) at ts) ≡ x
      by true = refl
      by false = refl

  left_head : (l : Tree) → head_of (graft_left (owned self own) l) ≡ head_of l
  left_head l = head_left (owned self own) l ∙ head_graft (owned self own) (λ x. x) name_head refl l

  any_heads : (ms : Assignments) → HeadsAre (λ x. Unit {0}) ms
  any_heads no_assignments = tt
  any_heads (assignment l e ms) = (tt, any_heads ms)

  plain_stays : (L : Word → Type 0) (st : Statement) → IsPlain st → StatementFits L IsPlain st → IsPlain (graft_one (owned self own) st)
  plain_stays L (assign ms) a f = parts_graft (owned self own) (λ x. x) left_head (λ x. Unit {0}) (λ x y h k e. e) ms (any_heads ms) a
  plain_stays L (await e) a f = tt
  plain_stays L (print e) a f = tt
  plain_stays L (assert e) a f = tt
  plain_stays L skip a f = tt
  plain_stays L (branch e x y) a f = tt
  plain_stays L (either no_branches) a f = absurd a
  plain_stays L (either (or b bs)) a f = tt
  plain_stays L (with bs b) a f = tt
  plain_stays L (while e b) a f = absurd a
  plain_stays L (goto l) a f = absurd a
  plain_stays L (macro m ts) a f = absurd a
  plain_stays L (call p ts) a f = absurd a
  plain_stays L return a f = absurd a

  leaves_old : ((x : Word) → own x ≡ true → IsIdentifier x) → LeavesOld (owned self own)
  leaves_old k x at e = by (own x) (k x)
    where
      clash : true ≡ false → ⊥
      clash q = cc

      old_name : IsIdentifier old_stack → ⊥
      old_name i = clash (sym i.0.0)

      by : (b : Bool) → (b ≡ true → IsIdentifier x) → cond b (Some (own_part self x at)) None ≡ None
      by true f = absurd (old_name (subst IsIdentifier (sym ((bytes_eq-Decides old_stack x).0 e)) (f refl)))
      by false f = refl

  pub owned_all : IsIdentifier self → ((x : Word) → own x ≡ true → IsIdentifier x) → (ss : Statements) → StatementsFit IsIdentifier IsPlain ss → StatementsFit IsIdentifier IsPlain (graft_all (owned self own) ss)
  owned_all s k ss h =
      graft_all_fits (owned self own) IsPlain IsPlain (leaves_old k) (λ l i. subst IsIdentifier (sym (left_head l)) i) plain_stays IsIdentifier IsIdentifier (owned_put IsIdentifier self own s) ss h
