-- What is chosen for a variable at a start is allowed there, also on a later state that gives its expression the same.
use Rattle.std.proofs.Common.{◌≡◌, ℕ, List, [], ◌∷◌, Bool, true, false, cond, map, refl, sym, ap, ◌∙◌, Ok}
use Rattle.std.specs.Ordering.{is_eq}
use Rattle.tla_token.specs.declared.place.Place.{Place}
use Rattle.tla_tree.specs.Tree.{Tree}
use Rattle.tla_value.specs.Value.{Value, set, Values, values_in, Outcome, ◌>>=◌, in_order, Sense}
use Rattle.tla_value.specs.Order.{same, holds}
use Rattle.tla_value.specs.OrderLaws.{same_self, orders_self}
use Rattle.tla_value.specs.Stops.{Check, members_at}
use Rattle.tla_value.specs.Meaning.{eval}
use Rattle.pcal_tree.specs.Algorithm.{Start, unset, equals, among, Routine}
use Rattle.pcal_tree.specs.Calls.{defaultInitValue}
use Rattle.pcal_tree.specs.Choices.{went}
use Rattle.pcal_tree.specs.InitialStates.{plain_allowed, all_hold, has_members, values_for, function_on, spread_allowed}
use Rattle.pcal_tree.specs.Processes.{identifiers}
use Rattle.pcal_tree.specs.Program.{Program, Actor, routine_scope, global_scope, global_env}
use Rattle.pcal_tree.specs.Scope.{State, Scope, value_of}
use Rattle.step_walks.specs.FirstValues.{as_declared}
use Rattle.step_walks.specs.Flows.{Flow, finish, onward, flowing, falls, chosen}
use Rattle.step_walks.specs.StartFlows.{plain_flow, each_flow, values_flow, spread_flow}
use Rattle.step_walks.proofs.FlowLaws.{finish_onward}
use Rattle.accepted_steps.specs.StartedStates.{HandsOn}
use Rattle.accepted_steps.proofs.FlowParts.{After, flowing_went, chosen_went, set_of_members}
use Rattle.accepted_steps.proofs.Members.{HoldingEnv, eval_holding}

-- of the expression of an initial value, if there is one
abbrev pub OfStart : (Tree → Type 0) → Start → Type 0
OfStart A unset = Unit {0}
OfStart A (equals e) = A e
OfStart A (among e) = A e

-- ---- a plain variable

module _ (P : Program) (l : HandsOn P.check) where
  abbrev c : Check
  c = P.check

  abbrev pub Same : Scope → State → State → Tree → Type 0
  Same sc s z e = eval c e (sc.env s) ≡ eval c e (sc.env z)

  equal_allowed : (e : Tree) (sc : Scope) (s : State) (v : Value) → value_of c e sc s ≡ Ok v → (at : Place) (z : State) → Same sc s z e → plain_allowed P sc at (equals e) z v ≡ Ok true
  equal_allowed e sc s v q at z k =
      (λ i. ((sym k i).value) >>= (λ (w : Value). Ok (same v w))) ∙ ap (λ (o : Outcome Value). o >>= (λ w. Ok (same v w))) q ∙ ap Ok (same_self v)

  member_allowed : (e : Tree) (sc : Scope) (s : State) (ws : Values) → value_of c e sc s ≡ Ok (set ws) → (v : Value) → holds v ws ≡ true
      → (at : Place) (z : State) → HoldingEnv (sc.env z) → Same sc s z e → plain_allowed P sc at (among e) z v ≡ Ok true
  member_allowed e sc s ws q v h at z b k = eval_holding c l e (sc.env z) b ws (ap (λ (d : Sense). d.value) (sym k) ∙ q) at v h

  pub plain_went : (sc : Scope) (at : Place) (d : Start) (s : State) (ns : List ℕ) (k : After Value) (t : State) (ms : List ℕ) → finish (plain_flow (λ e. value_of P.check e sc) at d s ns) k ≡ went t ms
      → (v : Value) × (ks : List ℕ) × ((z : State) → HoldingEnv (sc.env z) → OfStart (Same sc s z) d → plain_allowed P sc at d z v ≡ Ok true) × (k v ks ≡ went t ms)
  plain_went sc at unset s ns k t ms q = (defaultInitValue, ns, (λ z b i. ap Ok (same_self defaultInitValue)), q)
  plain_went sc at (equals e) s ns k t ms q =
      let (v, a, r) = flowing_went (value_of c e sc s) (λ v. falls v ns) k t ms q in
      (v, ns, (λ z b i. equal_allowed e sc s v a at z i), r)
  plain_went sc at (among e) s ns k t ms q =
      let (ws, a, r) = flowing_went ((value_of c e sc s) >>= (members_at at)) (λ ws. chosen at ws ns falls) k t ms q in
      let (v, ks, h, p) = chosen_went at ws ns falls k t ms r in
      (v, ks, (λ z b i. member_allowed e sc s ws (set_of_members at (value_of c e sc s) ws a) v h at z b i), p)

  -- ---- a function of identifiers

  each_went : (at : Place) (ws : Values) (vs : List Actor) (ns : List ℕ) (k : After (List Value)) (t : State) (ms : List ℕ) → finish (each_flow at ws vs ns) k ≡ went t ms
      → (us : List Value) × (ks : List ℕ) × (all_hold (values_in us) ws ≡ true) × (k us ks ≡ went t ms)
  each_went at ws [] ns k t ms q = ([], ns, refl, q)
  each_went at ws (v ∷ vs) ns k t ms q =
      let (u, ls, h, p) = chosen_went at ws ns (λ w ms. onward (each_flow at ws vs ms) (λ us ls. falls (w ∷ us) ls)) k t ms q in
      let (us, ks, a, r) = each_went at ws vs ls (λ us ls. k (u ∷ us) ls) t ms (sym (finish_onward (each_flow at ws vs ls) (λ us ls. falls (u ∷ us) ls) k) ∙ p) in
      (u ∷ us, ks, ap (λ (b : Bool). cond b (all_hold (values_in us) ws) false) h ∙ a, r)

  -- for all processes
  abbrev pub SameForAll : Routine → State → State → Tree → Type 0
  SameForAll u s z e = (v : Actor) → Same (routine_scope P v u) s z e

  values_same : (u : Routine) (e : Tree) (s z : State) → SameForAll u s z e → (vs : List Actor) → values_for P u e z vs ≡ values_for P u e s vs
  values_same u e s z h vs = λ i. in_order (λ v. (sym (h v) i).value) vs

  reached : (vs : List Actor) (at : Place) (ws : List Value) (f : Value) → P.check at (function_on vs ws) ≡ Ok f → (P.check at (function_on vs ws) >>= (λ g. Ok (same f g))) ≡ Ok true
  reached vs at ws f q = ap (λ (o : Outcome Value). o >>= (λ g. Ok (same f g))) q ∙ ap Ok (same_self f)

  has_all : (vs : List Actor) (xs : Values) (ws : List Value) (f : Value) → f ≡ function_on vs ws → all_hold (values_in ws) xs ≡ true → has_members (values_in (identifiers vs)) xs f ≡ true
  has_all vs xs ws f e h =
      ap (has_members (values_in (identifiers vs)) xs) e
      ∙ ap (λ (b : Bool). cond b (all_hold (values_in ws) xs) false) (ap is_eq (orders_self (values_in (identifiers vs)))) ∙ h

  all_members : (vs : List Actor) (e : Tree) (s : State) (xs : Values) → value_of c e (global_scope P) s ≡ Ok (set xs) → (f : Value) → has_members (values_in (identifiers vs)) xs f ≡ true
      → (at : Place) (z : State) → global_env P s ≡ global_env P z → (value_of c e (global_scope P) z >>= (λ w. members_at at w >>= (λ us. Ok (has_members (values_in (identifiers vs)) us f)))) ≡ Ok true
  all_members vs e s xs q f h at z g =
      (λ i. ((eval c e (sym g i)).value) >>= (λ (w : Value). members_at at w >>= (λ us. Ok (has_members (values_in (identifiers vs)) us f))))
      ∙ ap (λ (o : Outcome Value). o >>= (λ w. members_at at w >>= (λ us. Ok (has_members (values_in (identifiers vs)) us f)))) q ∙ ap Ok h

  pub spread_went : (u : Routine) (vs : List Actor) (at : Place) (d : Start) (s : State) (ns : List ℕ) (k : After Value) (t : State) (ms : List ℕ) → finish (spread_flow (as_declared P) P u vs at d s ns) k ≡ went t ms
      → (f : Value) × (ks : List ℕ) × ((z : State) → global_env P s ≡ global_env P z → OfStart (SameForAll u s z) d → spread_allowed P u vs at d z f ≡ Ok true) × (k f ks ≡ went t ms)
  spread_went u vs at d s ns k t ms q = by d (sym (finish_onward (values_flow (as_declared P) u vs at d s ns) next k) ∙ q)
    where
      next : List Value → List ℕ → Flow Value
      next ws ls = flowing (P.check at (function_on vs ws)) (λ f. falls f ls)

      by : (d : Start) → finish (values_flow (as_declared P) u vs at d s ns) (λ ws ls. finish (next ws ls) k) ≡ went t ms
          → (f : Value) × (ks : List ℕ) × ((z : State) → global_env P s ≡ global_env P z → OfStart (SameForAll u s z) d → spread_allowed P u vs at d z f ≡ Ok true) × (k f ks ≡ went t ms)
      by unset r =
          let ws = map (λ (v : Actor). defaultInitValue) vs in
          let (f, b, p) = flowing_went (P.check at (function_on vs ws)) (λ f. falls f ns) k t ms r in
          (f, ns, (λ z g h. reached vs at ws f b), p)
      by (equals e) r =
          let (ws, a, m) = flowing_went (values_for P u e s vs) (λ ws. falls ws ns) (λ ws ls. finish (next ws ls) k) t ms r in
          let (f, b, p) = flowing_went (P.check at (function_on vs ws)) (λ f. falls f ns) k t ms m in
          (f, ns, (λ z g h. ap (λ (o : Outcome (List Value)). o >>= (λ ws. P.check at (function_on vs ws) >>= (λ g. Ok (same f g)))) (values_same u e s z h vs ∙ a) ∙ reached vs at ws f b), p)
      by (among e) r =
          let (xs, a, m) = flowing_went ((value_of c e (global_scope P) s) >>= (members_at at)) (λ xs. each_flow at xs vs ns) (λ ws ls. finish (next ws ls) k) t ms r in
          let (ws, ks, h, n) = each_went at xs vs ns (λ ws ls. finish (next ws ls) k) t ms m in
          let (f, b, p) = flowing_went (P.check at (function_on vs ws)) (λ f. falls f ks) k t ms n in
          (f, ks, (λ z g i. all_members vs e s xs (set_of_members at (value_of c e (global_scope P) s) xs a) f (has_all vs xs ws f (l at (function_on vs ws) f b) h) at z g), p)
