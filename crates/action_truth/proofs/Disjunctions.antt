-- The disjunctions and conjunctions that are visited element by element.
use Rattle.std.proofs.Common.{◌≡◌, ℕ, zero, suc, ◌<◌, List, [], ◌∷◌, length, map, get_or, filter, not, ◌&&◌, Bool, true, false, cond, Vec, Global, Ok, refl, sym, ap, subst, ◌∙◌, arith}
use Rattle.tla_tree.specs.Tree.{Tree}
use Rattle.tla_tree.specs.Pool.{at}
use Rattle.tla_value.specs.Value.{Value, values_in, or_all}
use Rattle.tla_value.specs.Limits.{bounded}
use Rattle.tla_value.specs.Meaning.{Env}
use Rattle.module_tree.specs.Module as tree
use Rattle.module_tree.specs.ActionTruth.{Verdict, Acts, some_member, way_holds, some_way_holds}
use Rattle.module_tree.specs.ProcessPart.{called_for, case_for, cases_for, all_for}
use Rattle.module_tree.specs.Ways.{is_procedure, is_terminating, call_of, steps_of, own_steps}
use Rattle.module_write.specs.declared.«module».Item.{Item}
use Rattle.module_write.specs.declared.«module».Way.{Way}
use Rattle.module_write.specs.InMemory.{item_at, items_at, branches_at, way_at, ways_at, WayIn, WaysIn}
use Rattle.action_truth.specs.declared.formulas.Pair.{Pair}
use Rattle.action_truth.specs.Pairs.{item_in, items_in, branches_in, step_in, shared_in}
use Rattle.action_truth.proofs.ListLaws.{IsAny, IsEvery, any_start, or_step, or_stops}
use Rattle.tla_value.specs.declared.stop.EvalStop.{EvalStop}
use Rattle.value_forms.specs.Gives.{Stops}

-- members of a set
pub any_member : (f : Value → Verdict) → IsAny (λ (vs : List Value). some_member (values_in vs) f) f
any_member f = record { none = refl; more = λ v vs. refl }

-- items of a list, and branches
pub every_item : (p : Pair) (ts : List Tree) (env : Env) → IsEvery (λ (is : List Item). items_in p env (items_at ts is)) (λ (i : Item). item_in p env (item_at ts i))
every_item p ts env = record { none = refl; more = λ i is. refl }

pub any_branch : (p : Pair) (ts : List Tree) (env : Env) → IsAny (λ (bs : List (Vec Item Global)). branches_in p env (branches_at ts bs)) (λ (b : Vec Item Global). items_in p env (items_at ts b.items))
any_branch p ts env = record { none = refl; more = λ b bs. refl }

-- calls
pub any_way : (ts : List Tree) (env : Env) (acts : Acts) → IsAny (λ (ys : List Way). some_way_holds bounded env acts (ways_at ts ys)) (λ (y : Way). way_holds bounded env acts (way_at ts y))
any_way ts env acts = record { none = refl; more = λ y ys. refl }

-- those that are no Terminating
step_more : (env : Env) (acts : Acts) (y : tree.Way) (ys : List tree.Way) → some_way_holds bounded env acts (steps_of (y ∷ ys)) ≡ or_all (step_in env acts y) (some_way_holds bounded env acts (steps_of ys))
step_more env acts y ys = by (is_terminating y)
  where
    by : (b : Bool) → some_way_holds bounded env acts (cond (not b) (y ∷ steps_of ys) (steps_of ys)) ≡ or_all (cond b (Ok false) (way_holds bounded env acts y)) (some_way_holds bounded env acts (steps_of ys))
    by true = sym (any_start (some_way_holds bounded env acts (steps_of ys)))
    by false = refl

pub any_step : (ts : List Tree) (env : Env) (acts : Acts) → IsAny (λ (ys : List Way). some_way_holds bounded env acts (steps_of (ways_at ts ys))) (λ (y : Way). step_in env acts (way_at ts y))
any_step ts env acts = record { none = refl; more = λ y ys. step_more env acts (way_at ts y) (ways_at ts ys) }

-- those of procedures
abbrev procedures_of : List tree.Way → List tree.Way
procedures_of ys = filter is_procedure (steps_of ys)

shared_more : (acts : Acts) (v : Value) (y : tree.Way) (ys : List tree.Way) → all_for acts v (procedures_of (y ∷ ys)) ≡ or_all (shared_in acts v y) (all_for acts v (procedures_of ys))
shared_more acts v y ys = by (is_terminating y)
  where
    each : (q : Bool) → all_for acts v (cond q (y ∷ procedures_of ys) (procedures_of ys)) ≡ or_all (cond q (called_for acts v (call_of y)) (Ok false)) (all_for acts v (procedures_of ys))
    each true = refl
    each false = sym (any_start (all_for acts v (procedures_of ys)))

    by : (b : Bool) → all_for acts v (filter is_procedure (cond (not b) (y ∷ steps_of ys) (steps_of ys))) ≡ or_all (cond (not b && is_procedure y) (called_for acts v (call_of y)) (Ok false)) (all_for acts v (procedures_of ys))
    by true = sym (any_start (all_for acts v (procedures_of ys)))
    by false = each (is_procedure y)

pub any_shared : (ts : List Tree) (acts : Acts) (v : Value) → IsAny (λ (ys : List Way). all_for acts v (filter is_procedure (steps_of (ways_at ts ys)))) (λ (y : Way). shared_in acts v (way_at ts y))
any_shared ts acts v = record { none = refl; more = λ y ys. shared_more acts v (way_at ts y) (ways_at ts ys) }

-- ---- a process's own, each with its set

found_alone : (f : Bool) → or_all (Ok f) (Ok false) ≡ Ok f
found_alone true = refl
found_alone false = refl

own_next : (y : tree.Way) (ys : List tree.Way) → own_steps (y ∷ ys) ≡ cond (not (is_terminating y) && not (is_procedure y)) (y ∷ own_steps ys) (own_steps ys)
own_next y ys = by (is_terminating y)
  where
    by : (b : Bool) → filter (λ z. not (is_procedure z)) (cond (not b) (y ∷ steps_of ys) (steps_of ys)) ≡ cond (not b && not (is_procedure y)) (y ∷ own_steps ys) (own_steps ys)
    by true = refl
    by false = refl

module _ (ts : List Tree) (env : Env) (acts : Acts) (v : Value) (whole : Verdict) where
  -- what is found, and the cases that are left, are the whole
  abbrev pub Cases : Bool → List Way → List ℕ → Type 0
  Cases found ys es = or_all (Ok found) (cases_for bounded env acts v (own_steps (ways_at ts ys)) (map (at ts) es)) ≡ whole

  no_sets : (ys : List tree.Way) → cases_for bounded env acts v ys [] ≡ Ok false
  no_sets [] = refl
  no_sets (y ∷ ys) = refl

  no_ways : (es : List Tree) → cases_for bounded env acts v [] es ≡ Ok false
  no_ways [] = refl
  no_ways (e ∷ es) = refl

  -- a disjunct that isn't a process's own
  pub case_passed : (found : Bool) (zs ys : List Way) (y : Way) (es : List ℕ) → zs ≡ y ∷ ys → (not (is_terminating (way_at ts y)) && not (is_procedure (way_at ts y))) ≡ false → Cases found zs es → Cases found ys es
  case_passed found zs ys y es e not_own h =
      let same : own_steps (ways_at ts zs) ≡ own_steps (ways_at ts ys) =
      ap (λ (l : List Way). own_steps (ways_at ts l)) e ∙ own_next (way_at ts y) (ways_at ts ys) ∙ ap (λ (b : Bool). cond b (way_at ts y ∷ own_steps (ways_at ts ys)) (own_steps (ways_at ts ys))) not_own in
      ap (λ (l : List tree.Way). or_all (Ok found) (cases_for bounded env acts v l (map (at ts) es))) (sym same) ∙ h

  -- no set is left
  pub cases_over : (found : Bool) (zs : List Way) (es : List ℕ) → es ≡ [] → Cases found zs es → whole ≡ Ok found
  cases_over found zs es e h =
      sym h ∙ ap (or_all (Ok found)) (ap (λ (us : List ℕ). cases_for bounded env acts v (own_steps (ways_at ts zs)) (map (at ts) us)) e ∙ no_sets (own_steps (ways_at ts zs))) ∙ found_alone found

  own_case : (zs ys : List Way) (y : Way) (es us : List ℕ) (e : ℕ) → zs ≡ y ∷ ys → es ≡ e ∷ us → (not (is_terminating (way_at ts y)) && not (is_procedure (way_at ts y))) ≡ true
      → cases_for bounded env acts v (own_steps (ways_at ts zs)) (map (at ts) es) ≡ or_all (case_for bounded env acts v (way_at ts y) (at ts e)) (cases_for bounded env acts v (own_steps (ways_at ts ys)) (map (at ts) us))
  own_case zs ys y es us e one two own =
      let first : own_steps (ways_at ts zs) ≡ way_at ts y ∷ own_steps (ways_at ts ys) =
      ap (λ (l : List Way). own_steps (ways_at ts l)) one ∙ own_next (way_at ts y) (ways_at ts ys) ∙ ap (λ (b : Bool). cond b (way_at ts y ∷ own_steps (ways_at ts ys)) (own_steps (ways_at ts ys))) own in
      λ i. cases_for bounded env acts v (first i) (map (at ts) (two i))

  pub case_next : (found next b : Bool) (zs ys : List Way) (y : Way) (es us : List ℕ) (e : ℕ) → zs ≡ y ∷ ys → es ≡ e ∷ us → (not (is_terminating (way_at ts y)) && not (is_procedure (way_at ts y))) ≡ true
      → case_for bounded env acts v (way_at ts y) (at ts e) ≡ Ok b → next ≡ cond b true found → Cases found zs es → Cases next ys us
  case_next found next b zs ys y es us e one two own o n h =
      let rest = cases_for bounded env acts v (own_steps (ways_at ts ys)) (map (at ts) us) in
      or_step found next b rest n ∙ ap (λ (w : Verdict). or_all (Ok found) (or_all w rest)) (sym o) ∙ ap (or_all (Ok found)) (sym (own_case zs ys y es us e one two own)) ∙ h

  pub case_stops : (found : Bool) (stop : EvalStop) (zs ys : List Way) (y : Way) (es us : List ℕ) (e : ℕ) → zs ≡ y ∷ ys → es ≡ e ∷ us → (not (is_terminating (way_at ts y)) && not (is_procedure (way_at ts y))) ≡ true
      → Stops stop (case_for bounded env acts v (way_at ts y) (at ts e)) → Cases found zs es → Stops stop whole
  case_stops found stop zs ys y es us e one two own s h =
      let rest = cases_for bounded env acts v (own_steps (ways_at ts ys)) (map (at ts) us) in
      subst (Stops stop) (ap (or_all (Ok found)) (sym (own_case zs ys y es us e one two own)) ∙ h) (or_stops stop found (case_for bounded env acts v (way_at ts y) (at ts e)) rest s)

  pub cases_end : (found : Bool) (zs : List Way) (es : List ℕ) → zs ≡ [] → Cases found zs es → whole ≡ Ok found
  cases_end found zs es e h =
      sym h ∙ ap (or_all (Ok found)) (ap (λ (l : List Way). cases_for bounded env acts v (own_steps (ways_at ts l)) (map (at ts) es)) e ∙ no_ways (map (at ts) es)) ∙ found_alone found

-- ---- their numbers

pub way_within : (m : ℕ) (ys : List Way) (i : ℕ) (y : Way) → y ≡ get_or ys i y → i < length ys → WaysIn m ys → WayIn m y
way_within m [] i y is less h = absurd (let no : ⊥ = omega (arith, less) in no)
way_within m (z ∷ ys) zero y is less h = subst (WayIn m) (sym is) h.0
way_within m (z ∷ ys) (suc i) y is less h = way_within m ys i y is (omega (arith, less)) h.1
