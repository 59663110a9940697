-- What statements do within one step by a list of choices ("A PlusCal User's Manual", section 3.2, the statements), where no macro is called.
use Rattle.std.specs.Prelude.{◌≡◌, ℕ, zero, suc, List, [], ◌∷◌, cond}
use Rattle.tla_token.specs.declared.place.Place.{Place}
use Rattle.tla_tree.specs.Tree.{Word, Trees}
use Rattle.tla_value.specs.declared.fault.FaultKind.TheVariants.{AssertFailed}
use Rattle.tla_value.specs.Value.{fault}
use Rattle.tla_value.specs.Stops.{Check}
use Rattle.tla_value.specs.Meaning.{evals, part_values}
use Rattle.pcal_tree.specs.Algorithm.{Binds, no_binds, one_of, is, Statement, assign, await, print, assert, skip, branch, either, with, while, goto, macro, call, return, Statements, done, then, mark, Branches, no_branches, or}
use Rattle.pcal_tree.specs.Scope.{State, Scope, bound, places_of, value_of, test, members}
use Rattle.pcal_tree.specs.Assign.{after_assignments}
use Rattle.pcal_tree.specs.Run.{held, Partner, no_partner, partner_of, Follow, Rules, unlabelled, label_of}
use Rattle.pcal_tree.specs.Program.{Program, Actor, routine_scope}
use Rattle.pcal_tree.specs.Calls.{rules_of}
use Rattle.pcal_tree.specs.Step.{Stand}
use Rattle.pcal_tree.specs.Choices.{Walk, failed, blocked, walk}
use Rattle.step_walks.specs.Flows.{Flow, falls, halts, onward, finish, flowing, unchosen, chosen}

abbrev pub count_branches : Branches → ℕ
count_branches no_branches = 0
count_branches (or b bs) = suc (count_branches bs)

-- no macro is called by these rules of a step
abbrev pub CallsNoMacro : Rules → Type 0
CallsNoMacro M = (here : Word) (at : Place) (m : Word) (ts : Trees) (sc : Scope) (K : Follow) (s : State) → M.macros here at m ts sc K s ≡ held at

-- the end of a loop's body goes back to the loop
abbrev pub back : Rules → Word → State → List ℕ → Flow State
back M here t ns = halts (walk (M.goto here t) ns)

-- each bind of a `with` in turn, seen by those after it, and then the body
abbrev pub flow_binds : Check → Place → Binds → (Scope → List ℕ → Flow State) → Scope → State → List ℕ → Flow State
flow_binds c at no_binds body sc s ns = body sc ns
flow_binds c at (one_of x e bs) body sc s ns =
    flowing (members c e sc s) (λ vs. chosen at vs ns (λ v ms. flow_binds c at bs body (bound x.word v sc) s ms))
flow_binds c at (is x e bs) body sc s ns = flowing (value_of c e sc s) (λ v. flow_binds c at bs body (bound x.word v sc) s ns)

-- `here` is the label at which the statement or list is, l the label at which a later step goes on, and j the partner of a call
abbrev mutual
  pub flow_one : Rules → Word → Place → Statement → Scope → Word → Partner → State → List ℕ → Flow State
  flow_one M here at (assign ms) sc l j s ns = flowing (after_assignments M.check ms sc s) (λ t. falls t ns)
  flow_one M here at (await e) sc l j s ns = flowing (test M.check e sc s) (λ t. cond t (falls s ns) (halts (blocked at)))
  flow_one M here at (print e) sc l j s ns = flowing (value_of M.check e sc s) (λ v. falls s ns)
  flow_one M here at (assert e) sc l j s ns = flowing (test M.check e sc s) (λ t. cond t (falls s ns) (halts (failed (fault AssertFailed at))))
  flow_one M here at skip sc l j s ns = falls s ns
  flow_one M here at (branch e a b) sc l j s ns =
      flowing (test M.check e sc s) (λ t. cond t (flow M unlabelled a sc l j s ns) (flow M unlabelled b sc l j s ns))
  flow_one M here at (either bs) sc l j s [] = halts (unchosen (count_branches bs) at)
  flow_one M here at (either bs) sc l j s (n ∷ ns) = flow_branch M (unchosen (count_branches bs) at) bs sc l j s n ns
  flow_one M here at (with bs b) sc l j s ns = flow_binds M.check at bs (λ inner ms. flow M unlabelled b inner l j s ms) sc s ns
  flow_one M here at (while e b) sc l j s ns =
      flowing (test M.check e sc s) (λ t. cond t (onward (flow M unlabelled b sc here no_partner s ns) (back M here)) (falls s ns))
  flow_one M here at (goto x) sc l j s ns = halts (walk (M.goto x s) ns)
  flow_one M here at (macro m ts) sc l j s ns = halts (blocked at)
  flow_one M here at (call p ts) sc l j s ns =
      flowing (part_values (evals M.check ts) (sc.env s)) (λ vs. halts (walk (M.call at p.word (places_of ts sc) vs l j s) ns))
  flow_one M here at return sc l j s ns = halts (walk (M.return at s) ns)

  pub flow : Rules → Word → Statements → Scope → Word → Partner → State → List ℕ → Flow State
  flow M here done sc l j s ns = falls s ns
  flow M here (then at st rest) sc l j s ns =
      onward (flow_one M here at.first st sc (label_of rest l) (partner_of rest) s ns) (λ t ms. flow M unlabelled rest sc l j t ms)
  flow M here (mark x m rest) sc l j s ns = halts (walk (M.goto x.word s) ns)

  -- the branch of a number from 1
  pub flow_branch : Rules → Walk → Branches → Scope → Word → Partner → State → ℕ → List ℕ → Flow State
  flow_branch M otherwise (or b bs) sc l j s (suc zero) ns = flow M unlabelled b sc l j s ns
  flow_branch M otherwise (or b bs) sc l j s (suc (suc n)) ns = flow_branch M otherwise bs sc l j s (suc n) ns
  flow_branch M otherwise _ sc l j s _ ns = halts otherwise

-- a step from a label, by a list of choices
abbrev pub stand_flow : Program → Actor → Stand → State → List ℕ → Walk
stand_flow P v d s ns =
    finish (flow (rules_of P v d.routine) d.label d.begins.items (routine_scope P v d.routine) d.begins.exit no_partner s ns)
    (λ t ms. walk ((rules_of P v d.routine).goto d.begins.exit t) ms)
