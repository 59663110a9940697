-- What comes of a list of choices in a step is what comes of its statements one by one.
use Rattle.std.proofs.Common.{◌≡◌, ℕ, zero, suc, List, [], ◌∷◌, Bool, true, false, cond, reverse, refl, sym, ap, ◌∙◌}
use Rattle.tla_token.specs.declared.place.Place.{Place}
use Rattle.tla_tree.specs.Tree.{Word}
use Rattle.tla_value.specs.declared.fault.FaultKind.TheVariants.{AssertFailed}
use Rattle.tla_value.specs.Value.{fault}
use Rattle.tla_value.specs.Stops.{Check}
use Rattle.tla_value.specs.Meaning.{evals, part_values}
use Rattle.pcal_tree.specs.Algorithm.{Binds, no_binds, one_of, is, Statement, assign, await, print, assert, skip, branch, either, with, while, goto, macro, call, return, Statements, done, then, mark, Branches, no_branches, or, Macro, Routine}
use Rattle.pcal_tree.specs.Scope.{State, Scope, bound, places_of, value_of, test, members}
use Rattle.pcal_tree.specs.Assign.{after_assignments}
use Rattle.pcal_tree.specs.Run.{Course, chooses, held, stops, at_each, no_partner, partner_of, Follow, Rules, unlabelled, label_of, run_binds, run_one, run, run_branches, called, exit_to}
use Rattle.pcal_tree.specs.Program.{Program, Actor, routine_scope}
use Rattle.pcal_tree.specs.Calls.{rules_of, rules_without_macros}
use Rattle.pcal_tree.specs.Step.{Stand, course_of}
use Rattle.pcal_tree.specs.Choices.{Walk, wanting, count_courses, missing, walk, walk_into}
use Rattle.step_walks.specs.Flows.{Flow, falls, halts, finish, unchosen, chosen}
use Rattle.step_walks.specs.StepFlows.{count_branches, back, flow_binds, flow_one, flow, flow_branch, stand_flow, CallsNoMacro}
use Rattle.step_walks.proofs.FlowLaws.{finish_onward, finish_same, after_flows, held_blocks, chosen_flows}

-- ---- the binds of a `with`

binds_flow : (c : Check) (at : Place) (bs : Binds) (body : Scope → State → Course) (inner : Scope → List ℕ → Flow State) (k : State → List ℕ → Walk) (sc : Scope) (s : State) (ns : List ℕ)
    → ((sc : Scope) (ms : List ℕ) → walk (body sc s) ms ≡ finish (inner sc ms) k) → walk (run_binds c at bs body sc s) ns ≡ finish (flow_binds c at bs inner sc s ns) k
binds_flow c at no_binds body inner k sc s ns h = h sc ns
binds_flow c at (one_of x e bs) body inner k sc s ns h =
    after_flows (members c e sc s) (λ vs. chooses at (at_each vs (λ v. run_binds c at bs body (bound x.word v sc) s)))
    (λ vs. chosen at vs ns (λ v ms. flow_binds c at bs inner (bound x.word v sc) s ms)) k ns
    (λ vs. chosen_flows at vs ns (λ v. run_binds c at bs body (bound x.word v sc) s) (λ v ms. flow_binds c at bs inner (bound x.word v sc) s ms) k
    (λ v ms. binds_flow c at bs body inner k (bound x.word v sc) s ms h))
binds_flow c at (is x e bs) body inner k sc s ns h =
    after_flows (value_of c e sc s) (λ v. run_binds c at bs body (bound x.word v sc) s) (λ v. flow_binds c at bs inner (bound x.word v sc) s ns) k ns
    (λ v. binds_flow c at bs body inner k (bound x.word v sc) s ns h)

-- ---- a test

tested : (o : Bool) (go stay : Course) (f g : Flow State) (k : State → List ℕ → Walk) (ns : List ℕ) → walk go ns ≡ finish f k → walk stay ns ≡ finish g k → walk (cond o go stay) ns ≡ finish (cond o f g) k
tested true go stay f g k ns h i = h
tested false go stay f g k ns h i = i

-- a choice between functions of the state, at a state
applied_to : (o : Bool) (go stay : State → Course) (s : State) → cond o go stay s ≡ cond o (go s) (stay s)
applied_to true go stay s = refl
applied_to false go stay s = refl

-- ---- branches

branches_counted : (M : Rules) (bs : Branches) (sc : Scope) (K : Follow) (s : State) → count_courses (run_branches M bs sc K s) ≡ count_branches bs
branches_counted M no_branches sc K s = refl
branches_counted M (or b bs) sc K s = ap suc (branches_counted M bs sc K s)

missing_branch : (M : Rules) (at : Place) (bs : Branches) (sc : Scope) (K : Follow) (s : State) → missing (run_branches M bs sc K s) at ≡ unchosen (count_branches bs) at
missing_branch M at no_branches sc K s = refl
missing_branch M at (or b bs) sc K s = ap (λ (n : ℕ). wanting (suc n) at) (branches_counted M bs sc K s)

-- ---- statements

module _ (M : Rules) (none : CallsNoMacro M) where
  mutual
    pub one_flows : (here : Word) (at : Place) (st : Statement) (sc : Scope) (K : Follow) (s : State) (ns : List ℕ)
        → walk (run_one M here at st sc K s) ns ≡ finish (flow_one M here at st sc K.label K.partner s ns) (λ t ms. walk (K.goes t) ms)
    one_flows here at (assign ms) sc K s ns = after_flows (after_assignments M.check ms sc s) K.goes (λ t. falls t ns) (λ t ms. walk (K.goes t) ms) ns (λ t. refl)
    one_flows here at (await e) sc K s ns =
        after_flows (test M.check e sc s) _ _ (λ t ms. walk (K.goes t) ms) ns
        (λ o. ap (λ (c : Course). walk c ns) (applied_to o K.goes (λ u. held at) s) ∙ tested o (K.goes s) (held at) _ _ (λ t ms. walk (K.goes t) ms) ns refl (held_blocks at ns))
    one_flows here at (print e) sc K s ns = after_flows (value_of M.check e sc s) (λ v. K.goes s) (λ v. falls s ns) (λ t ms. walk (K.goes t) ms) ns (λ v. refl)
    one_flows here at (assert e) sc K s ns =
        after_flows (test M.check e sc s) _ _ (λ t ms. walk (K.goes t) ms) ns
        (λ o. ap (λ (c : Course). walk c ns) (applied_to o K.goes (λ u. stops (fault AssertFailed at)) s) ∙ tested o (K.goes s) (stops (fault AssertFailed at)) _ _ (λ t ms. walk (K.goes t) ms) ns refl refl)
    one_flows here at skip sc K s ns = refl
    one_flows here at (branch e a b) sc K s ns =
        after_flows (test M.check e sc s) _ _ (λ t ms. walk (K.goes t) ms) ns
        (λ o. ap (λ (c : Course). walk c ns) (applied_to o (run M unlabelled a sc K) (run M unlabelled b sc K) s)
        ∙ tested o (run M unlabelled a sc K s) (run M unlabelled b sc K s) _ _ (λ t ms. walk (K.goes t) ms) ns (list_flows unlabelled a sc K s ns) (list_flows unlabelled b sc K s ns))
    one_flows here at (either bs) sc K s [] = missing_branch M at bs sc K s
    one_flows here at (either bs) sc K s (n ∷ ns) = into_branch (missing (run_branches M bs sc K s) at) (unchosen (count_branches bs) at) bs sc K s n ns (missing_branch M at bs sc K s)
    one_flows here at (with bs b) sc K s ns =
        binds_flow M.check at bs (λ inner. run M unlabelled b inner K) (λ inner ms. flow M unlabelled b inner K.label K.partner s ms) (λ t ms. walk (K.goes t) ms) sc s ns
        (λ inner ms. list_flows unlabelled b inner K s ms)
    one_flows here at (while e b) sc K s ns =
        let again : Follow = record { label = here; partner = no_partner; goes = M.goto here } in
        after_flows (test M.check e sc s) _ _ (λ t ms. walk (K.goes t) ms) ns
        (λ o. ap (λ (c : Course). walk c ns) (applied_to o (run M unlabelled b sc again) K.goes s)
        ∙ tested o (run M unlabelled b sc again s) (K.goes s) _ _ (λ t ms. walk (K.goes t) ms) ns
        (list_flows unlabelled b sc again s ns ∙ sym (finish_onward (flow M unlabelled b sc here no_partner s ns) (back M here) (λ t ms. walk (K.goes t) ms))) refl)
    one_flows here at (goto x) sc K s ns = refl
    one_flows here at (macro m ts) sc K s ns = ap (λ (c : Course). walk c ns) (none here at m ts sc K s) ∙ held_blocks at ns
    one_flows here at (call p ts) sc K s ns =
        after_flows (part_values (evals M.check ts) (sc.env s)) (λ vs. M.call at p.word (places_of ts sc) vs K.label K.partner s)
        (λ vs. halts (walk (M.call at p.word (places_of ts sc) vs K.label K.partner s) ns)) (λ t ms. walk (K.goes t) ms) ns (λ vs. refl)
    one_flows here at return sc K s ns = refl

    pub list_flows : (here : Word) (ss : Statements) (sc : Scope) (K : Follow) (s : State) (ns : List ℕ)
        → walk (run M here ss sc K s) ns ≡ finish (flow M here ss sc K.label K.partner s ns) (λ t ms. walk (K.goes t) ms)
    list_flows here done sc K s ns = refl
    list_flows here (then at st rest) sc K s ns =
        let later : Follow = record { label = label_of rest K.label; partner = partner_of rest; goes = run M unlabelled rest sc K } in
        let first = flow_one M here at.first st sc (label_of rest K.label) (partner_of rest) s ns in
        one_flows here at.first st sc later s ns
        ∙ finish_same first (λ t ms. walk (run M unlabelled rest sc K t) ms) (λ t ms. finish (flow M unlabelled rest sc K.label K.partner t ms) (λ u ls. walk (K.goes u) ls))
        (λ t ms. list_flows unlabelled rest sc K t ms)
        ∙ sym (finish_onward first (λ t ms. flow M unlabelled rest sc K.label K.partner t ms) (λ t ms. walk (K.goes t) ms))
    list_flows here (mark x m rest) sc K s ns = refl

    into_branch : (w u : Walk) (bs : Branches) (sc : Scope) (K : Follow) (s : State) (n : ℕ) (ns : List ℕ) → w ≡ u
        → walk_into w (run_branches M bs sc K s) n ns ≡ finish (flow_branch M u bs sc K.label K.partner s n ns) (λ t ms. walk (K.goes t) ms)
    into_branch w u no_branches sc K s zero ns e = e
    into_branch w u no_branches sc K s (suc zero) ns e = e
    into_branch w u no_branches sc K s (suc (suc n)) ns e = e
    into_branch w u (or b bs) sc K s zero ns e = e
    into_branch w u (or b bs) sc K s (suc zero) ns e = list_flows unlabelled b sc K s ns
    into_branch w u (or b bs) sc K s (suc (suc n)) ns e = into_branch w u bs sc K s (suc n) ns e

-- ---- a step from a label

no_macro_called : (P : Program) (v : Actor) (u : Routine) → P.algorithm.macros ≡ [] → CallsNoMacro (rules_of P v u)
no_macro_called P v u none here at m ts sc K s = ap (λ (ms : List Macro). called (rules_without_macros P v u) (reverse ms) here at m ts sc K s) none

-- where all macro calls are written out
pub stand_flows : (P : Program) (v : Actor) (d : Stand) (s : State) (ns : List ℕ) → P.algorithm.macros ≡ [] → walk (course_of P v d s) ns ≡ stand_flow P v d s ns
stand_flows P v d s ns none =
    let M = rules_of P v d.routine in
    list_flows M (no_macro_called P v d.routine none) d.label d.begins.items (routine_scope P v d.routine) (exit_to M d.begins.exit) s ns
