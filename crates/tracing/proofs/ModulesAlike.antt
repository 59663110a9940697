-- Places don't matter to what a module says but for where a trouble is, under any limits that rest on no place: Next, Init, and what Next says of one
-- process. Each module is compared with itself without its places.
use Rattle.std.proofs.Common.{◌≡◌, List, [], ◌∷◌, ◌++◌, Bool, true, false, cond, bytes_eq, filter, Option, Some, None, map, refl, sym, ◌∙◌, subst, Ok, Err}
use Rattle.tla_tree.specs.Tree.{Word, Tree, root_place}
use Rattle.tla_tree.specs.laws.Placeless.{tree_placeless}
use Rattle.tla_value.specs.Order.{holds}
use Rattle.tla_value.specs.Value.{Value, Outcome, Trouble, fault, over, ◌>>=◌}
use Rattle.tla_value.specs.Stops.{Check}
use Rattle.tla_value.specs.Meaning.{Env, bind, eval}
use Rattle.tla_value.specs.Definitions.{Valuation, no_state}
use Rattle.tla_value.specs.Outside.{found}
use Rattle.tla_value.specs.laws.Places.{SameKind, AgreeButPlaces, ChecksButPlaces, EnvsButPlaces}
use Rattle.tla_value.proofs.Places.{eval_places, bind_places, scope_places}
use Rattle.module_tree.specs.Module.{Call, call, call_with, Way, one_way, some_way, Body, all_of, some_of, Action, Module}
use Rattle.module_tree.specs.ActionTruth.{Verdict, truth_in, members_in, Acts, acted, call_holds, way_holds, some_way_holds, body_holds, with_argument, action_of, acts_of, no_acts}
use Rattle.module_tree.specs.ModuleTruth.{definitions_in, scope, terminating, acts_in, next_holds, all_hold, init_holds}
use Rattle.module_tree.specs.ProcessPart.{called_for, case_for, cases_for, all_for, mine_by, mine_holds}
use Rattle.module_tree.specs.Ways.{call_of, is_procedure, steps_of, own_steps, processes_in, sets_of}
use Rattle.module_tree.specs.laws.PlacelessRegion.{call_placeless, way_placeless, body_placeless, action_placeless, region_placeless}
use Rattle.module_tree.proofs.OutcomesAlike.{then_same, and_same, or_same, cond_same, each_same, truth_same, members_same}
use Rattle.module_tree.proofs.ItemPlaces.{items_agree}
use Rattle.tracing.proofs.BareRegions.{bare, items_bare, all_bare, actions_bare, steps_bare, own_bare, procedures_bare, all_sets_bare}

-- ---- actions by their names

abbrev SameActs : Option (Option Value → Verdict) → Option (Option Value → Verdict) → Type 0
SameActs None None = Unit {0}
SameActs (Some f) (Some g) = (v : Option Value) → AgreeButPlaces (f v) (g v)
SameActs _ _ = ⊥

abbrev ActsAlike : Acts → Acts → Type 0
ActsAlike acts others = (x : Word) → SameActs (acts x) (others x)

acted_same : (o p : Option (Option Value → Verdict)) → SameActs o p → (v : Option Value) → AgreeButPlaces (acted o v) (acted p v)
acted_same None None h v = refl
acted_same (Some f) (Some g) h v = h v
acted_same None (Some g) h v = absurd h
acted_same (Some f) None h v = absurd h

-- ---- two that agree with one agree

same_kinds : (k j i : Trouble) → SameKind k i → SameKind j i → SameKind k j
same_kinds (fault a p) (fault b q) (fault d r) h l = h ∙ sym l
same_kinds (over p) (over q) i h l = tt
same_kinds (fault a p) j (over r) h l = absurd h
same_kinds (over p) j (fault d r) h l = absurd h
same_kinds (fault a p) (over q) (fault d r) h l = absurd l
same_kinds (over p) (fault b q) (over r) h l = absurd l

agree_both : (o p q : Verdict) → AgreeButPlaces o q → AgreeButPlaces p q → AgreeButPlaces o p
agree_both (Ok a) (Ok b) (Ok d) h k = h ∙ sym k
agree_both (Err a) (Err b) (Err d) h k = same_kinds a b d h k
agree_both (Ok a) p (Err d) h k = absurd h
agree_both (Err a) p (Ok d) h k = absurd h
agree_both (Ok a) (Err b) (Ok d) h k = absurd k
agree_both (Err a) (Ok b) (Err d) h k = absurd k

module _ (c : Check) (own : ChecksButPlaces c c) where
  value_same : {X : Type 0} (t : Tree) (e f : Env) → EnvsButPlaces e f → (g h : Value → Outcome X) → ((v : Value) → AgreeButPlaces (g v) (h v)) → AgreeButPlaces ((eval c t e).value >>= g) ((eval c (tree_placeless t) f).value >>= h)
  value_same t e f r g h q = then_same _ _ g h (eval_places c c own t (tree_placeless t) (bare t) e f r).value q

  truth_alike : (t : Tree) (e f : Env) → EnvsButPlaces e f → AgreeButPlaces (truth_in c e t) (truth_in c f (tree_placeless t))
  truth_alike t e f r = value_same t e f r _ _ (truth_same (root_place t) (root_place (tree_placeless t)))

  members_alike : (t : Tree) (e f : Env) → EnvsButPlaces e f → AgreeButPlaces (members_in c e t) (members_in c f (tree_placeless t))
  members_alike t e f r = value_same t e f r _ _ (members_same (root_place t) (root_place (tree_placeless t)))

  -- ---- with actions that are alike

  module _ (acts others : Acts) (a : ActsAlike acts others) where
    call_alike : (e f : Env) → EnvsButPlaces e f → (u : Call) → AgreeButPlaces (call_holds c e acts u) (call_holds c f others (call_placeless u))
    call_alike e f r (call x) = acted_same (acts x) (others x) (a x) None
    call_alike e f r (call_with x t) = value_same t e f r _ _ (λ v. acted_same (acts x) (others x) (a x) (Some v))

    way_alike : (e f : Env) → EnvsButPlaces e f → (y : Way) → AgreeButPlaces (way_holds c e acts y) (way_holds c f others (way_placeless y))
    way_alike e f r (one_way u) = call_alike e f r u
    way_alike e f r (some_way x s u) =
        then_same (members_in c e s) (members_in c f (tree_placeless s)) _ _ (members_alike s e f r)
        (λ vs. each_same vs _ _ (λ v. call_alike (bind x v e) (bind x v f) (bind_places x v e f r) u))

    ways_alike : (e f : Env) → EnvsButPlaces e f → (ys : List Way) → AgreeButPlaces (some_way_holds c e acts ys) (some_way_holds c f others (map way_placeless ys))
    ways_alike e f r [] = refl
    ways_alike e f r (y ∷ ys) = or_same _ _ _ _ (way_alike e f r y) (ways_alike e f r ys)

    body_alike : (s t : Valuation) (e f : Env) → EnvsButPlaces e f → (b : Body) → AgreeButPlaces (body_holds c s t e acts b) (body_holds c s t f others (body_placeless b))
    body_alike s t e f r (all_of is) = items_agree c c own s t is _ (items_bare is) e f r
    body_alike s t e f r (some_of ys) = ways_alike e f r ys

    action_alike : (s t : Valuation) (e f : Env) → EnvsButPlaces e f → (b : Action) (v : Option Value) → AgreeButPlaces (action_of c s t e acts b v) (action_of c s t f others (action_placeless b) v)
    action_alike s t e f r b v = by b.parameter v
      where
        by : (x : Option Word) (v : Option Value) → AgreeButPlaces (with_argument x v e >>= (λ inner. body_holds c s t inner acts b.body)) (with_argument x v f >>= (λ inner. body_holds c s t inner others (body_placeless b.body)))
        by None None = body_alike s t e f r b.body
        by (Some x) (Some w) = body_alike s t (bind x w e) (bind x w f) (bind_places x w e f r) b.body
        by None (Some w) = refl
        by (Some x) None = refl

    -- ---- what Next says of one process

    called_alike : (v : Value) (u : Call) → AgreeButPlaces (called_for acts v u) (called_for others v (call_placeless u))
    called_alike v (call x) = acted_same (acts x) (others x) (a x) None
    called_alike v (call_with x t) = acted_same (acts x) (others x) (a x) (Some v)

    way_called : (v : Value) (y : Way) → AgreeButPlaces (called_for acts v (call_of y)) (called_for others v (call_of (way_placeless y)))
    way_called v (one_way u) = called_alike v u
    way_called v (some_way x s u) = called_alike v u

    case_alike : (e f : Env) → EnvsButPlaces e f → (v : Value) (y : Way) (s : Tree) → AgreeButPlaces (case_for c e acts v y s) (case_for c f others v (way_placeless y) (tree_placeless s))
    case_alike e f r v y s =
        then_same (members_in c e s) (members_in c f (tree_placeless s)) _ _ (members_alike s e f r)
        (λ vs. cond_same (holds v vs) _ _ _ _ (way_called v y) refl)

    cases_alike : (e f : Env) → EnvsButPlaces e f → (v : Value) (ys : List Way) (ss : List Tree) → AgreeButPlaces (cases_for c e acts v ys ss) (cases_for c f others v (map way_placeless ys) (map tree_placeless ss))
    cases_alike e f r v [] ss = refl
    cases_alike e f r v (y ∷ ys) [] = refl
    cases_alike e f r v (y ∷ ys) (s ∷ ss) = or_same _ _ _ _ (case_alike e f r v y s) (cases_alike e f r v ys ss)

    all_alike : (v : Value) (ys : List Way) → AgreeButPlaces (all_for acts v ys) (all_for others v (map way_placeless ys))
    all_alike v [] = refl
    all_alike v (y ∷ ys) = or_same _ _ _ _ (way_called v y) (all_alike v ys)

  acts_alike : (s t : Valuation) (e f : Env) → EnvsButPlaces e f → (bs : List Action) (acts others : Acts) → ActsAlike acts others → ActsAlike (acts_of c s t e bs acts) (acts_of c s t f (map action_placeless bs) others)
  acts_alike s t e f r [] acts others h = h
  acts_alike s t e f r (a ∷ more) acts others h = acts_alike s t e f r more _ _ (λ x. by x (bytes_eq a.title x))
    where
      by : (x : Word) (b : Bool) → SameActs (cond b (Some (action_of c s t e acts a)) (acts x)) (cond b (Some (action_of c s t f others (action_placeless a))) (others x))
      by x true = λ v. action_alike acts others h s t e f r a v
      by x false = h x

  -- ---- a module and itself without places

  module _ (m : Module) where
    abbrev n : Module
    n = record { title = m.title; outside = m.outside; region = region_placeless m.region }

    scopes_alike : (values s t : Valuation) → EnvsButPlaces (scope c m values s t) (scope c n values s t)
    scopes_alike values s t =
        scope_places c c own values (definitions_in m) (definitions_in n) (all_bare (found m.outside.definitions) m.region.definitions m.region.process_set) s t

    actions_alike : (values s t : Valuation) → ActsAlike (acts_in c m values s t) (acts_in c n values s t)
    actions_alike values s t =
        let e = scope c m values s t in
        let f = scope c n values s t in
        subst (λ (bs : List Action). ActsAlike (acts_in c m values s t) (acts_of c s t f bs no_acts)) (actions_bare m.region.actions m.region.vars m.region.ended)
        (acts_alike s t e f (scopes_alike values s t) (m.region.actions ++ terminating m.region.vars m.region.ended) no_acts no_acts (λ x. tt))

    next_bare : (values s t : Valuation) → AgreeButPlaces (next_holds c m values s t) (next_holds c n values s t)
    next_bare values s t =
        ways_alike (acts_in c m values s t) (acts_in c n values s t) (actions_alike values s t) (scope c m values s t) (scope c n values s t) (scopes_alike values s t) m.region.next

    all_hold_alike : (e f : Env) → EnvsButPlaces e f → (ts : List Tree) → AgreeButPlaces (all_hold c e ts) (all_hold c f (map tree_placeless ts))
    all_hold_alike e f r [] = refl
    all_hold_alike e f r (t ∷ ts) = and_same _ _ _ _ (truth_alike t e f r) (all_hold_alike e f r ts)

    init_bare : (values s : Valuation) → AgreeButPlaces (init_holds c m values s) (init_holds c n values s)
    init_bare values s = all_hold_alike (scope c m values s no_state) (scope c n values s no_state) (scopes_alike values s no_state) m.region.init

    mine_bare : (values s t : Valuation) (v : Option Value) → AgreeButPlaces (mine_holds c m values s t v) (mine_holds c n values s t v)
    mine_bare values s t v = by v
      where
        e : Env
        e = scope c m values s t

        f : Env
        f = scope c n values s t

        acts : Acts
        acts = acts_in c m values s t

        others : Acts
        others = acts_in c n values s t

        by : (v : Option Value) → AgreeButPlaces (mine_by c e acts m v) (mine_by c f others n v)
        by None =
            subst (λ (ys : List Way). AgreeButPlaces (some_way_holds c e acts (steps_of m.region.next)) (some_way_holds c f others ys)) (sym (steps_bare m.region.next))
            (ways_alike acts others (actions_alike values s t) e f (scopes_alike values s t) (steps_of m.region.next))
        by (Some w) =
            or_same _ _ _ _
            (subst (λ (es : List Tree). AgreeButPlaces (cases_for c e acts w (own_steps m.region.next) (sets_of (processes_in m.region.next) m.region.process_set)) (cases_for c f others w (own_steps n.region.next) es))
            (sym (all_sets_bare m.region.next m.region.process_set))
            (subst (λ (ys : List Way). AgreeButPlaces (cases_for c e acts w (own_steps m.region.next) (sets_of (processes_in m.region.next) m.region.process_set)) (cases_for c f others w ys (map tree_placeless (sets_of (processes_in m.region.next) m.region.process_set))))
            (sym (own_bare m.region.next))
            (cases_alike acts others (actions_alike values s t) e f (scopes_alike values s t) w (own_steps m.region.next) (sets_of (processes_in m.region.next) m.region.process_set))))
            (subst (λ (ys : List Way). AgreeButPlaces (all_for acts w (filter is_procedure (steps_of m.region.next))) (all_for others w ys)) (sym (procedures_bare m.region.next))
            (all_alike acts others (actions_alike values s t) w (filter is_procedure (steps_of m.region.next))))

  -- ---- two modules with one title and one outside, whose translations are the same but for places

  module _ (m n : Module) (title : m.title ≡ n.title) (outside : m.outside ≡ n.outside) (region : region_placeless m.region ≡ region_placeless n.region) where
    abbrev bare_of : Module → Module
    bare_of k = record { title = k.title; outside = k.outside; region = region_placeless k.region }

    one : bare_of m ≡ bare_of n
    one = λ i. record { title = title i; outside = outside i; region = region i }

    pub next_agrees : (values s t : Valuation) → AgreeButPlaces (next_holds c m values s t) (next_holds c n values s t)
    next_agrees values s t =
        agree_both _ _ (next_holds c (bare_of n) values s t)
        (subst (λ (k : Module). AgreeButPlaces (next_holds c m values s t) (next_holds c k values s t)) one (next_bare m values s t)) (next_bare n values s t)

    pub init_agrees : (values s : Valuation) → AgreeButPlaces (init_holds c m values s) (init_holds c n values s)
    init_agrees values s =
        agree_both _ _ (init_holds c (bare_of n) values s)
        (subst (λ (k : Module). AgreeButPlaces (init_holds c m values s) (init_holds c k values s)) one (init_bare m values s)) (init_bare n values s)

    pub mine_agrees : (values s t : Valuation) (v : Option Value) → AgreeButPlaces (mine_holds c m values s t v) (mine_holds c n values s t v)
    mine_agrees values s t v =
        agree_both _ _ (mine_holds c (bare_of n) values s t v)
        (subst (λ (k : Module). AgreeButPlaces (mine_holds c m values s t v) (mine_holds c k values s t v)) one (mine_bare m values s t v)) (mine_bare n values s t v)
