-- Statements are settled where those that stand for jumps, calls and returns are, and stay so with the variables of the process at its identifier.
use Rattle.std.proofs.Common.{◌≡◌, Bool, true, false, ◌||◌, cond, Some, None, refl}
use Rattle.std.proofs.lemmas.Bool.{or_parts}
use Rattle.tla_token.specs.declared.place.Place.{Place}
use Rattle.tla_tree.specs.Tree.{Word, Trees, Name}
use Rattle.tla_value.specs.Grafts.{own_part, owned}
use Rattle.pcal_tree.specs.Algorithm.{Span, Assignments, no_assignments, assignment, Statement, assign, await, print, assert, skip, branch, either, with, while, goto, macro, call, return, Statements, done, then, mark, Branches, no_branches, or}
use Rattle.pcal_tree.specs.Expand.{graft_assignments, graft_one, graft_all, graft_some}
use Rattle.pcal_tree.specs.Run.{Partner, unlabelled, label_of, partner_of}
use Rattle.action_builder.specs.Settled.{WrittenJumps, jumps_one, jumps, jumps_some, settled_one, settled, settled_some}
use Rattle.action_builder.specs.laws.Ready.{LeftSides, SettledOne, Settled, SettledSome}
use Rattle.translation.proofs.PutTrees.{IfLeft, side_put}
use Rattle.build_premises.specs.Everywhere.{Parts, EverywhereOne, Everywhere, EverywhereSome}

-- ---- jumps

module _ (V : Word → Bool) (R : Parts) (assigns : (ms : Assignments) → R.assigns ms → LeftSides V ms) where
  -- where nothing jumps
  mutual
    still_one : (st : Statement) → jumps_one st ≡ false → EverywhereOne R st → SettledOne V st
    still_one (assign ms) q h = assigns ms h
    still_one (await e) q h = tt
    still_one (print e) q h = tt
    still_one (assert e) q h = tt
    still_one skip q h = tt
    still_one (branch e a b) q h = (let k = or_parts (jumps a) (jumps b) q in (still a k.0 h.0, still b k.1 h.1))
    still_one (either bs) q h = still_some bs q h
    still_one (with bs b) q h = still b q h.1
    still_one (while e b) q h = cc
    still_one (goto l) q h = cc
    still_one (macro m ts) q h = cc
    still_one (call p ts) q h = cc
    still_one return q h = cc

    still : (ss : Statements) → jumps ss ≡ false → Everywhere R ss → Settled V ss
    still done q h = tt
    still (then at st rest) q h = (let k = or_parts (jumps_one st) (jumps rest) q in (still_one st k.0 h.0, still rest k.1 h.1))
    still (mark l k rest) q h = cc

    still_some : (bs : Branches) → jumps_some bs ≡ false → EverywhereSome R bs → SettledSome V bs
    still_some no_branches q h = tt
    still_some (or b bs) q h = (let k = or_parts (jumps b) (jumps_some bs) q in (still b k.0 h.0, still_some bs k.1 h.1))

  by_jumps : (b : Bool) (x y : Statements) → Settled V x → (b ≡ false → Settled V y) → Settled V (cond b x y)
  by_jumps true x y h k = h
  by_jumps false x y h k = k refl

  module _ (W : WrittenJumps) (goes : (l : Word) → Settled V (W.goto l)) (calls : (at : Span) (p : Name) (ts : Trees) (l : Word) (j : Partner) → R.calls p → Settled V (W.call at p ts l j))
      (returns : (at : Span) → R.returns → Settled V (W.return at)) (macros : R.macros → ⊥) where
    mutual
      one_settled : (here l : Word) (j : Partner) (at : Span) (st : Statement) (rest : Statements) → EverywhereOne R st → Settled V rest → Settled V (settled_one W here l j at st rest)
      one_settled here l j at (assign ms) rest h r = (assigns ms h, r)
      one_settled here l j at (await e) rest h r = (tt, r)
      one_settled here l j at (print e) rest h r = (tt, r)
      one_settled here l j at (assert e) rest h r = (tt, r)
      one_settled here l j at skip rest h r = (tt, r)
      one_settled here l j at (branch e a b) rest h r =
          by_jumps (jumps a || jumps b) (then at (branch e (settled W unlabelled l a) (settled W unlabelled l b)) done) (then at (branch e a b) rest)
          ((all_settled unlabelled l a h.0, all_settled unlabelled l b h.1), tt) (λ q. (still_one (branch e a b) q h, r))
      one_settled here l j at (either bs) rest h r =
          by_jumps (jumps_some bs) (then at (either (settled_some W l bs)) done) (then at (either bs) rest) (some_settled l bs h, tt) (λ q. (still_some bs q h, r))
      one_settled here l j at (with bs b) rest h r =
          by_jumps (jumps b) (then at (with bs (settled W unlabelled l b)) done) (then at (with bs b) rest) (all_settled unlabelled l b h.1, tt) (λ q. (still b q h.1, r))
      one_settled here l j at (while e b) rest h r = ((all_settled unlabelled here b h, r), tt)
      one_settled here l j at (goto m) rest h r = goes m
      one_settled here l j at (macro m ts) rest h r = absurd (macros h)
      one_settled here l j at (call p ts) rest h r = calls at p ts l j h
      one_settled here l j at return rest h r = returns at h

      pub all_settled : (here l : Word) (ss : Statements) → Everywhere R ss → Settled V (settled W here l ss)
      all_settled here l done h = goes l
      all_settled here l (then at st rest) h = one_settled here (label_of rest l) (partner_of rest) at st (settled W unlabelled l rest) h.0 (all_settled unlabelled l rest h.1)
      all_settled here l (mark m k rest) h = goes m.word

      some_settled : (l : Word) (bs : Branches) → EverywhereSome R bs → SettledSome V (settled_some W l bs)
      some_settled l no_branches h = tt
      some_settled l (or b bs) h = (all_settled unlabelled l b h.0, some_settled l bs h.1)

-- ---- x[self] for x

module _ (V : Word → Bool) (self : Word) (own : Word → Bool) where
  own_left : (y : Word) (at : Place) → V y ≡ true → IfLeft V (owned self own y at) y
  own_left y at v = by (own y)
    where
      by : (b : Bool) → IfLeft V (cond b (Some (own_part self y at)) None) y
      by true = v
      by false = v

  lefts_owned : (ms : Assignments) → LeftSides V ms → LeftSides V (graft_assignments (owned self own) ms)
  lefts_owned no_assignments h = tt
  lefts_owned (assignment l e ms) h = (side_put V V (owned self own) own_left l h.0, lefts_owned ms h.1)

  mutual
    one_owned : (st : Statement) → SettledOne V st → SettledOne V (graft_one (owned self own) st)
    one_owned (assign ms) h = lefts_owned ms h
    one_owned (await e) h = tt
    one_owned (print e) h = tt
    one_owned (assert e) h = tt
    one_owned skip h = tt
    one_owned (branch e a b) h = (all_owned a h.0, all_owned b h.1)
    one_owned (either bs) h = some_owned bs h
    one_owned (with bs b) h = all_owned b h
    one_owned (while e b) h = absurd h
    one_owned (goto l) h = absurd h
    one_owned (macro m ts) h = absurd h
    one_owned (call p ts) h = absurd h
    one_owned return h = absurd h

    pub all_owned : (ss : Statements) → Settled V ss → Settled V (graft_all (owned self own) ss)
    all_owned done h = tt
    all_owned (then at st rest) h = (one_owned st h.0, all_owned rest h.1)
    all_owned (mark l k rest) h = absurd h

    some_owned : (bs : Branches) → SettledSome V bs → SettledSome V (graft_some (owned self own) bs)
    some_owned no_branches h = tt
    some_owned (or b bs) h = (all_owned b h.0, some_owned bs h.1)
