-- The written right side of a variable has the value that its assignments give it.
use Rattle.std.proofs.Common.{◌≡◌, List, [], ◌∷◌, ◌++◌, Bool, true, false, cond, bytes_eq, refl, sym, ◌∙◌, ap, Ok, Err}
use Rattle.tla_token.specs.declared.place.Place.{Place}
use Rattle.tla_tree.specs.Tree.{Word, index, apply, select, except, name, strict, Tree, node, Trees, no_trees, tree, root_place}
use Rattle.tla_value.specs.Value.{Value, text, Outcome, fault, over, ◌>>=◌}
use Rattle.tla_value.specs.Stops.{Check, plain}
use Rattle.tla_value.specs.Strict.{changed_at, next_slot, updated, strict_value}
use Rattle.tla_value.specs.Meaning.{Env, just, part_values, eval, evals}
use Rattle.pcal_tree.specs.Algorithm.{nowhere, Assignments, no_assignments, assignment}
use Rattle.pcal_tree.specs.Scope.{State, Part, deeper, Scope, reach, reach_path, value_of}
use Rattle.action_builder.specs.Assigned.{Names, head_of, head_first}
use Rattle.action_builder.proofs.Actions.{all_changes, changes_for, folded, value_for}
use Rattle.action_builder.proofs.Effects.{Change, Parts, no_parts, part, changing, part_of, parts_of, Changes, no_changes, change, evaluated, Named}
use Rattle.action_builder.specs.laws.Scopes.{part_at, IsPlain as Plain}
use Rattle.action_builder.specs.laws.Ready.{IsLeft, LeftFirst, LeftSides}
use Rattle.action_builder.specs.Written.{Key, sub, fixed, subs, keys_of, keys_first, steps_of, subscripts, own, slots_of, slot_trees, except_of, sets_whole, side_of}
use Rattle.tla_value.proofs.Outcomes.{then_ok, then_then}
use Rattle.pcal_tree.specs.Assign.{Setting}
use Rattle.action_builder.specs.laws.States.{changed_by, value_after}
use Rattle.action_builder.proofs.Denotations.{to_changes, settings_law, on_both}

-- ---- left sides

-- the values of subscripts and the names of fields
abbrev pub on_keys : {X : Type 0} → Check → List Key → Env → (List Value → Outcome X) → Outcome X
on_keys c [] env go = go []
on_keys c (sub t ∷ ks) env go = (eval c t env).value >>= (λ v. on_keys c ks env (λ vs. go (v ∷ vs)))
on_keys c (fixed a ∷ ks) env go = on_keys c ks env (λ vs. go (text a ∷ vs))

keys_append : {X : Type 0} (c : Check) (ks js : List Key) (env : Env) (go : List Value → Outcome X) → on_keys c (ks ++ js) env go ≡ on_keys c ks env (λ vs. on_keys c js env (λ ws. go (vs ++ ws)))
keys_append c [] js env go = refl
keys_append c (sub t ∷ ks) js env go = λ i. (eval c t env).value >>= (λ v. keys_append c ks js env (λ vs. go (v ∷ vs)) i)
keys_append c (fixed a ∷ ks) js env go = keys_append c ks js env (λ vs. go (text a ∷ vs))

subs_law : {X : Type 0} (c : Check) (ts : Trees) (env : Env) (go : List Value → Outcome X) → (part_values (evals c ts) env) >>= go ≡ on_keys c (subs ts) env go
subs_law c no_trees env go = refl
subs_law c (tree t ts) env go =
    on_both (eval c t env).value (λ v. part_values (evals c ts) env) (λ v vs. v ∷ vs) go
    ∙ (λ i. (eval c t env).value >>= (λ v. subs_law c ts env (λ vs. go (v ∷ vs)) i))

mutual
  pub plain_reach : {X : Type 0} (V : Names) (c : Check) (l : Tree) → IsLeft V l → (sc : Scope) → Plain V sc → (s : State) (go : Part → Outcome X) → (reach c l sc s) >>= go ≡ on_keys c (keys_of l) (sc.env s) (λ ks. go (part_at (head_of l) ks))
  plain_reach V c (node (name x) at ts) h sc n s go = ap (λ o. o >>= go) (n x h at s)
  plain_reach V c (node (strict apply) at ts) h sc n s go = plain_path V c at ts h sc n s go
  plain_reach V c (node (strict (select a)) at ts) h sc n s go =
      then_then (reach_path c at ts sc s) (λ p. Ok (deeper (text a ∷ []) p)) go
      ∙ plain_path V c at ts h sc n s (λ p. go (deeper (text a ∷ []) p))
      ∙ sym (keys_append c (keys_first ts) (fixed a ∷ []) (sc.env s) (λ ks. go (part_at (head_first ts) ks)))
  plain_reach V c (node _ at ts) h sc n s go = absurd h

  plain_path : {X : Type 0} (V : Names) (c : Check) (at : Place) (ts : Trees) → LeftFirst V ts → (sc : Scope) → Plain V sc → (s : State) (go : Part → Outcome X) → (reach_path c at ts sc s) >>= go ≡ on_keys c (keys_first ts) (sc.env s) (λ ks. go (part_at (head_first ts) ks))
  plain_path V c at no_trees h sc n s go = absurd h
  plain_path V c at (tree f us) h sc n s go =
      then_then (reach c f sc s) (λ p. (part_values (evals c us) (sc.env s)) >>= (λ ks. Ok (deeper ks p))) go
      ∙ plain_reach V c f h sc n s (λ p. ((part_values (evals c us) (sc.env s)) >>= (λ ks. Ok (deeper ks p))) >>= go)
      ∙ (λ i. on_keys c (keys_of f) (sc.env s) (λ js. then_then (part_values (evals c us) (sc.env s)) (λ ks. Ok (part_at (head_of f) (js ++ ks))) go i))
      ∙ (λ i. on_keys c (keys_of f) (sc.env s) (λ js. subs_law c us (sc.env s) (λ ks. go (part_at (head_of f) (js ++ ks))) i))
      ∙ sym (keys_append c (keys_of f) (subs us) (sc.env s) (λ ks. go (part_at (head_of f) ks)))

-- ---- slots

-- one slot takes the values of its keys and its right side; o is the value so far
slot_law : (c : Check) (at : Place) (ks : List Key) (e : Tree) (more : Trees) (env : Env) (o : Outcome Value) (go : Value → List Value → Value → List Value → Outcome Value) →
    part_values (evals c (subscripts ks (tree e more))) env >>= (λ vs. o >>= (λ old. next_slot at (steps_of ks) vs >>= (λ (path, v, rest). go old path v rest)))
    ≡ on_keys c ks env (λ path. (eval c e env).value >>= (λ v. part_values (evals c more) env >>= (λ ws. o >>= (λ old. go old path v ws))))
slot_law c at [] e more env o go = on_both (eval c e env).value (λ v. part_values (evals c more) env) (λ v vs. v ∷ vs) (λ vs. o >>= (λ old. next_slot at [] vs >>= (λ (path, v, rest). go old path v rest)))
slot_law c at (sub t ∷ ks) e more env o go =
    on_both (eval c t env).value (λ k. part_values (evals c (subscripts ks (tree e more))) env) (λ k vs. k ∷ vs) (λ vs. o >>= (λ old. next_slot at (index ∷ steps_of ks) vs >>= (λ (path, v, rest). go old path v rest)))
    ∙ (λ i. (eval c t env).value >>= (λ k. part_values (evals c (subscripts ks (tree e more))) env >>= (λ vs. o >>= (λ old. then_then (next_slot at (steps_of ks) vs) (λ (path, v, rest). Ok (k ∷ path, v, rest)) (λ (path, v, rest). go old path v rest) i))))
    ∙ (λ i. (eval c t env).value >>= (λ k. slot_law c at ks e more env o (λ old path v rest. go old (k ∷ path) v rest) i))
slot_law c at (fixed a ∷ ks) e more env o go =
    (λ i. part_values (evals c (subscripts ks (tree e more))) env >>= (λ vs. o >>= (λ old. then_then (next_slot at (steps_of ks) vs) (λ (path, v, rest). Ok (text a ∷ path, v, rest)) (λ (path, v, rest). go old path v rest) i)))
    ∙ slot_law c at ks e more env o (λ old path v rest. go old (text a ∷ path) v rest)

-- the value after one more slot
abbrev after_slot : Check → Place → List Value → Value → Outcome Value → Outcome Value
after_slot c at path v o = o >>= (λ old. (changed_at at path v old) >>= (c at))

value_twice : (o : Outcome Value) (f g : Value → Outcome Value) → o >>= (λ x. (f x) >>= g) ≡ (o >>= f) >>= g
value_twice (Ok v) f g = refl
value_twice (Err (fault k p)) f g = refl
value_twice (Err (over p)) f g = refl

slot_then : (c : Check) (at : Place) (path : List Value) (v : Value) (o : Outcome Value) (g : Value → Outcome Value) → o >>= (λ old. (changed_at at path v old) >>= (λ new. (c at new) >>= g)) ≡ (after_slot c at path v o) >>= g
slot_then c at path v o g =
    (λ i. o >>= (λ old. value_twice (changed_at at path v old) (c at) g i))
    ∙ value_twice o (λ old. (changed_at at path v old) >>= (c at)) g

-- the first part, and then the others
first_change : (V : Names) (c : Check) (l e : Tree) → IsLeft V l → (ps : Parts) (sc : Scope) → Plain V sc → (s : State) (G : List Change → Outcome Value) →
    (all_changes (part (head_of l) (part_of c l e) ps) sc s) >>= G ≡ on_keys c (keys_of l) (sc.env s) (λ path. (value_of c e sc s) >>= (λ v. (all_changes ps sc s) >>= (λ fs. G (changing c (root_place l) path v ∷ fs))))
first_change V c l e h ps sc n s G =
    then_then (part_of c l e sc s) (λ f. (all_changes ps sc s) >>= (λ fs. Ok (f ∷ fs))) G
    ∙ (λ i. (part_of c l e sc s) >>= (λ f. then_then (all_changes ps sc s) (λ fs. Ok (f ∷ fs)) G i))
    ∙ then_then (reach c l sc s) (λ p. (value_of c e sc s) >>= (λ v. Ok (changing c (root_place l) p.path v))) (λ f. (all_changes ps sc s) >>= (λ fs. G (f ∷ fs)))
    ∙ (λ i. (reach c l sc s) >>= (λ p. then_then (value_of c e sc s) (λ v. Ok (changing c (root_place l) p.path v)) (λ f. (all_changes ps sc s) >>= (λ fs. G (f ∷ fs))) i))
    ∙ plain_reach V c l h sc n s (λ p. (value_of c e sc s) >>= (λ v. (all_changes ps sc s) >>= (λ fs. G (changing c (root_place l) p.path v ∷ fs))))

slots_law : (V : Names) (c : Check) (ms : Assignments) → LeftSides V ms → (sc : Scope) → Plain V sc → (s : State) (o : Outcome Value) →
    part_values (evals c (slot_trees ms)) (sc.env s) >>= (λ vs. o >>= (updated c (slots_of ms) vs)) ≡ (all_changes (parts_of c ms) sc s) >>= (λ fs. o >>= (folded fs))
slots_law V c no_assignments h sc n s o = refl
slots_law V c (assignment l e ms) h sc n s o =
    slot_law c (root_place l) (keys_of l) e (slot_trees ms) (sc.env s) o (λ old path v rest. (changed_at (root_place l) path v old) >>= (λ new. (c (root_place l) new) >>= (updated c (slots_of ms) rest)))
    ∙ (λ i. on_keys c (keys_of l) (sc.env s) (λ path. (eval c e (sc.env s)).value >>= (λ v. part_values (evals c (slot_trees ms)) (sc.env s) >>= (λ ws. slot_then c (root_place l) path v o (updated c (slots_of ms) ws) i))))
    ∙ (λ i. on_keys c (keys_of l) (sc.env s) (λ path. (eval c e (sc.env s)).value >>= (λ v. slots_law V c ms h.1 sc n s (after_slot c (root_place l) path v o) i)))
    ∙ (λ i. on_keys c (keys_of l) (sc.env s) (λ path. (eval c e (sc.env s)).value >>= (λ v. (all_changes (parts_of c ms) sc s) >>= (λ fs. then_then o (changing c (root_place l) path v) (folded fs) i))))
    ∙ sym (first_change V c l e h.0 (parts_of c ms) sc n s (λ fs. o >>= (folded fs)))

-- the law of EXCEPT, within any limits
pub except_law : (V : Names) (c : Check) (at : Place) (y : Word) (ms : Assignments) → LeftSides V ms → (sc : Scope) → Plain V sc → (s : State) → (sc.env s).now y at ≡ just (s y) → (eval c (except_of at y ms) (sc.env s)).value ≡ (all_changes (parts_of c ms) sc s) >>= (λ fs. folded fs (s y))
except_law V c at y ms h sc n s here =
    (λ i. ((here i).value >>= (λ old. part_values (evals c (slot_trees ms)) (sc.env s) >>= (λ vs. Ok (old ∷ vs)))) >>= strict_value c (except (slots_of ms)) at)
    ∙ then_then (part_values (evals c (slot_trees ms)) (sc.env s)) (λ vs. Ok (s y ∷ vs)) (strict_value c (except (slots_of ms)) at)
    ∙ slots_law V c ms h sc n s (Ok (s y))

-- ---- the right side of a variable

pub own_left : (V : Names) (y : Word) (ms : Assignments) → LeftSides V ms → LeftSides V (own y ms)
own_left V y no_assignments h = tt
own_left V y (assignment l e ms) h = by (own_left V y ms h.1) (bytes_eq (head_of l) y)
  where
    by : LeftSides V (own y ms) → (b : Bool) → LeftSides V (cond b (assignment l e (own y ms)) (own y ms))
    by ih true = (h.0, ih)
    by ih false = ih

own_law : (c : Check) (y : Word) (ms : Assignments) (sc : Scope) (s : State) → changes_for y (parts_of c ms) sc s ≡ all_changes (parts_of c (own y ms)) sc s
own_law c y no_assignments sc s = refl
own_law c y (assignment l e ms) sc s = by (own_law c y ms sc s) (bytes_eq (head_of l) y)
  where
    by : changes_for y (parts_of c ms) sc s ≡ all_changes (parts_of c (own y ms)) sc s → (b : Bool) → cond b ((part_of c l e sc s) >>= (λ f. (changes_for y (parts_of c ms) sc s) >>= (λ fs. Ok (f ∷ fs)))) (changes_for y (parts_of c ms) sc s) ≡ all_changes (parts_of c (cond b (assignment l e (own y ms)) (own y ms))) sc s
    by ih true = λ i. (part_of c l e sc s) >>= (λ f. (ih i) >>= (λ fs. Ok (f ∷ fs)))
    by ih false = ih

whole_law : (V : Names) (l e : Tree) → IsLeft V l → (sc : Scope) → Plain V sc → (s : State) (y : Word) → keys_of l ≡ [] → value_of plain e sc s ≡ (all_changes (part (head_of l) (part_of plain l e) no_parts) sc s) >>= (λ fs. folded fs (s y))
whole_law V l e h sc n s y q =
    sym (then_ok (value_of plain e sc s))
    ∙ sym (first_change V plain l e h no_parts sc n s (λ fs. folded fs (s y))
    ∙ (λ i. on_keys plain (q i) (sc.env s) (λ path. (value_of plain e sc s) >>= (λ v. (changing plain (root_place l) path v (s y)) >>= Ok))))

side_law : (V : Names) (y : Word) (ms : Assignments) → LeftSides V ms → (sc : Scope) → Plain V sc → (s : State) → ((at : Place) → (sc.env s).now y at ≡ just (s y)) → (eval plain (side_of y ms) (sc.env s)).value ≡ (all_changes (parts_of plain ms) sc s) >>= (λ fs. folded fs (s y))
side_law V y no_assignments h sc n s here = λ i. (here nowhere i).value
side_law V y (assignment l e ms) h sc n s here = by (keys_of l) refl ms h
  where
    by : (ks : List Key) → keys_of l ≡ ks → (us : Assignments) → LeftSides V (assignment l e us) → (eval plain (cond (sets_whole (keys_of l) us) e (except_of (root_place l) y (assignment l e us))) (sc.env s)).value ≡ (all_changes (parts_of plain (assignment l e us)) sc s) >>= (λ fs. folded fs (s y))
    by [] q no_assignments k = (λ i. (eval plain (cond (sets_whole (q i) no_assignments) e (except_of (root_place l) y (assignment l e no_assignments))) (sc.env s)).value) ∙ whole_law V l e k.0 sc n s y q
    by [] q (assignment m f us) k = (λ i. (eval plain (cond (sets_whole (q i) (assignment m f us)) e (except_of (root_place l) y (assignment l e (assignment m f us)))) (sc.env s)).value) ∙ except_law V plain (root_place l) y (assignment l e (assignment m f us)) k sc n s (here (root_place l))
    by (x ∷ ks) q us k = (λ i. (eval plain (cond (sets_whole (q i) us) e (except_of (root_place l) y (assignment l e us))) (sc.env s)).value) ∙ except_law V plain (root_place l) y (assignment l e us) k sc n s (here (root_place l))

-- the written right side has the value of the variable's assignments
pub value_law : (V : Names) (y : Word) (ms : Assignments) → LeftSides V ms → (sc : Scope) → Plain V sc → (s : State) → ((at : Place) → (sc.env s).now y at ≡ just (s y)) → (eval plain (side_of y (own y ms)) (sc.env s)).value ≡ value_for y (parts_of plain ms) sc s
value_law V y ms h sc n s here =
    side_law V y (own y ms) (own_left V y ms h) sc n s here
    ∙ (λ i. (sym (own_law plain y ms sc s) i) >>= (λ fs. folded fs (s y)))

-- ---- by its settings

abbrev changes_of : Changes → List Change
changes_of no_changes = []
changes_of (change x f fs) = f ∷ changes_of fs

all_law : {X : Type 0} (ps : Parts) (sc : Scope) (s : State) (G : List Change → Outcome X) → (all_changes ps sc s) >>= G ≡ (evaluated ps sc s) >>= (λ fs. G (changes_of fs))
all_law no_parts sc s G = refl
all_law (part x e ps) sc s G =
    then_then (e sc s) (λ f. (all_changes ps sc s) >>= (λ fs. Ok (f ∷ fs))) G
    ∙ (λ i. (e sc s) >>= (λ f. then_then (all_changes ps sc s) (λ fs. Ok (f ∷ fs)) G i))
    ∙ (λ i. (e sc s) >>= (λ f. all_law ps sc s (λ fs. G (f ∷ fs)) i))
    ∙ sym (
    then_then (e sc s) (λ f. (evaluated ps sc s) >>= (λ fs. Ok (change x f fs))) (λ fs. G (changes_of fs))
    ∙ (λ i. (e sc s) >>= (λ f. then_then (evaluated ps sc s) (λ fs. Ok (change x f fs)) (λ fs. G (changes_of fs)) i)))

by_settings : (c : Check) (all : List Setting) (v : Value) → changed_by c all v ≡ folded (changes_of (to_changes c all)) v
by_settings c [] v = refl
by_settings c (m ∷ ms) v =
    (λ i. (changed_at m.place m.part.path m.value v) >>= (λ w. (c m.place w) >>= (λ u. by_settings c ms u i)))
    ∙ sym (then_then (changed_at m.place m.part.path m.value v) (c m.place) (folded (changes_of (to_changes c ms))))

plain_named : (V : Names) (sc : Scope) → Plain V sc → Named V sc
plain_named V sc h x m at s = ([], h x m at s)

pub except_settings : (V : Names) (c : Check) (at : Place) (y : Word) (ms : Assignments) → LeftSides V ms → (sc : Scope) → Plain V sc → (s : State) → (sc.env s).now y at ≡ just (s y) → (eval c (except_of at y ms) (sc.env s)).value ≡ value_after c ms sc s (s y)
except_settings V c at y ms h sc n s here =
    except_law V c at y ms h sc n s here
    ∙ all_law (parts_of c ms) sc s (λ fs. folded fs (s y))
    ∙ sym (settings_law V c ms h sc (plain_named V sc n) s (λ all. changed_by c all (s y)) (λ fs. folded (changes_of fs) (s y)) (λ all. by_settings c all (s y)))
