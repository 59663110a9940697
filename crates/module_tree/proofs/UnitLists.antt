-- The units of a translation one after the other, with an empty line between two: each is read as itself, places aside.
use Rattle.std.proofs.Common.{◌≡◌, ℕ, ◌+◌, true, List, [], ◌∷◌, ◌++◌, Option, Some, None, map, refl, sym, ap, subst, ◌∙◌, append_assoc, append-nil, codes}
use Rattle.std.specs.List.{AllByRecursion}
use Rattle.tla_token.specs.Tokens.{Piece, blank, text_of}
use Rattle.tla_tree.specs.Tree.{Word, Tree}
use Rattle.tla_tree.specs.Lexical.{Token}
use Rattle.tla_tree.specs.Written.{written}
use Rattle.tla_tree.specs.laws.Writable.{IsIdentifier, IsWritable}
use Rattle.tla_value.specs.Definitions.{Definition}
use Rattle.module_tree.specs.FileUnits.{Cut, cut}
use Rattle.module_tree.specs.Module.{RegionUnit, Action, Region, units_of, model_value_units, process_set_of, terminating_of, constant_unit, definition_unit, action_unit}
use Rattle.module_tree.specs.Layout.{unit_text, units_text}
use Rattle.module_tree.specs.Reading.{AllAre}
use Rattle.module_tree.specs.Units.{IsUnit, spell_unit}
use Rattle.module_tree.specs.Ways.{processes_in, sets_of}
use Rattle.module_tree.specs.laws.Walks.{is_lined}
use Rattle.module_tree.specs.laws.WritableRegion.{IsGuard, IsDefinition, IsAction, IsRegion}
use Rattle.module_tree.specs.laws.PlacelessRegion.{action_placeless, definition_placeless, perhaps_placeless, region_placeless}
use Rattle.module_tree.proofs.WalkResumed.{lined_end}
use Rattle.module_tree.proofs.Chunks.{put, Fine, none_fine, newline_fine, seen}
use Rattle.module_tree.proofs.UnitChunks.{new_unit}
use Rattle.module_tree.proofs.UnitForms.{UnitAt, as_it_is, some_names, constant_at, variables_at, vars_at, definition_at, init_at, next_at}
use Rattle.module_tree.proofs.UnitsOfActions.{action_at, terminating_at, spec_at, termination_at}
use Rattle.module_tree.proofs.ProcessSets.{process_set_at}

-- ---- whole lines

abbrev HasUnit : List RegionUnit → Type 0
HasUnit [] = ⊥
HasUnit (u ∷ us) = Unit {0}

lined_after : (w : List ℕ) (b : ℕ) (r : List ℕ) → is_lined (w ++ b ∷ r) ≡ is_lined (b ∷ r)
lined_after [] b r = refl
lined_after (c ∷ []) b r = refl
lined_after (c ∷ d ∷ w) b r = lined_after (d ∷ w) b r

lined_more : (w r : List ℕ) → is_lined w ≡ true → is_lined r ≡ true → is_lined (w ++ r) ≡ true
lined_more w [] h k = ap is_lined (append-nil w) ∙ h
lined_more w (b ∷ r) h k = lined_after w b r ∙ k

-- ---- units, from line n on: they are these, and are read as those

pub record Reached (n h : ℕ) (us ws : List RegionUnit) : Type 0 where
  pub pieces : List Piece
  pub some : HasUnit us
  pub bytes : text_of pieces ≡ units_text h us
  pub lined : is_lined (units_text h us) ≡ true
  pub fine : Fine pieces
  pub no_front : (cut (seen (put n 1) pieces)).front ≡ []
  pub units : AllAre IsUnit (cut (seen (put n 1) pieces)).units ws

last_one : {A : Type 0} {make : A → RegionUnit} {bare : A → A} {n h : ℕ} {a : A} (x : UnitAt make bare n h a) → is_lined (unit_text h (make a)) ≡ true → Reached n h (make a ∷ []) (make x.new ∷ [])
last_one {make = make} {n = n} {h = h} {a = a} x l =
    let ps = x.start.pieces [] in
    let s = spell_unit x.form in
    let found : cut (seen (put n 1) ps) ≡ new_unit s (cut []) = ap cut (x.start.seen []) ∙ x.start.cuts [] in
    record {
      pieces = ps;
      some = tt;
      bytes = x.start.bytes [] ∙ append-nil (unit_text h (make a));
      lined = l;
      fine = x.start.fine [] none_fine refl;
      no_front = ap (λ (c : Cut). c.front) found;
      units = subst (λ (c : Cut). AllAre IsUnit c.units (make x.new ∷ [])) (sym found) ((x.form, x.good, refl, x.is), tt);
    }

joined_text : (h : ℕ) (u : RegionUnit) (us : List RegionUnit) → HasUnit us → (unit_text h u ++ codes "\n") ++ units_text h us ≡ units_text h (u ∷ us)
joined_text h u [] s = absurd s
joined_text h u (v ∷ us) s = refl

one_more : {A : Type 0} {make : A → RegionUnit} {bare : A → A} {n h : ℕ} {a : A} (x : UnitAt make bare n h a) (us ws : List RegionUnit) → Reached (x.next + 1) h us ws → Reached n h (make a ∷ us) (make x.new ∷ ws)
one_more {make = make} {n = n} {h = h} {a = a} x us ws y =
    let ps = x.start.pieces (blank 10 ∷ y.pieces) in
    let s = spell_unit x.form in
    let r : List Token = seen (put (x.next + 1) 1) y.pieces in
    let found : cut (seen (put n 1) ps) ≡ new_unit s (cut r) = ap cut (x.start.seen (blank 10 ∷ y.pieces)) ∙ x.start.cuts r in
    let w = unit_text h (make a) ++ codes "\n" in
    record {
      pieces = ps;
      some = tt;
      bytes = x.start.bytes (blank 10 ∷ y.pieces) ∙ ap (λ (t : List ℕ). unit_text h (make a) ++ 10 ∷ t) y.bytes ∙ sym (append_assoc (unit_text h (make a)) (codes "\n") (units_text h us)) ∙ joined_text h (make a) us y.some;
      lined = ap is_lined (sym (joined_text h (make a) us y.some)) ∙ lined_more w (units_text h us) (lined_end (unit_text h (make a))) y.lined;
      fine = x.start.fine (blank 10 ∷ y.pieces) (newline_fine y.fine) refl;
      no_front = ap (λ (c : Cut). c.front) found;
      units =
          subst (λ (c : Cut). AllAre IsUnit c.units (make x.new ∷ ws)) (sym found)
          (subst (λ (ts : List Token). IsUnit (s ts) (make x.new)) (sym y.no_front) (x.form, x.good, refl, x.is), y.units);
    }

-- ---- some units, before others

record UnitsAt {B : Type 0} (units : B → List RegionUnit) (bare : B → B) (n h : ℕ) (b : B) : Type 0 where
  new : B
  same : bare new ≡ bare b
  next : ℕ
  before : (vs ws : List RegionUnit) → Reached next h vs ws → Reached n h (units b ++ vs) (units new ++ ws)

single : {A : Type 0} {make : A → RegionUnit} {bare : A → A} {n h : ℕ} {a : A} → UnitAt make bare n h a → UnitsAt (λ (x : A). make x ∷ []) bare n h a
single x = record { new = x.new; same = x.same; next = x.next + 1; before = λ vs ws y. one_more x vs ws y }

models_at : (n h : ℕ) (xs : List Word) → AllByRecursion IsIdentifier xs → UnitsAt model_value_units as_it_is n h xs
models_at n h [] v = record { new = []; same = refl; next = n; before = λ vs ws y. y }
models_at n h (x ∷ xs) v =
    let u = constant_at n h (x ∷ xs) (some_names x xs v) in
    record { new = x ∷ xs; same = refl; next = u.next + 1; before = λ vs ws y. subst (λ (ys : List Word). Reached n h (constant_unit (x ∷ xs) ∷ vs) (constant_unit ys ∷ ws)) u.same (one_more u vs ws y) }

definitions_at : (n h : ℕ) (ds : List Definition) → AllByRecursion IsDefinition ds → UnitsAt (map definition_unit) (map definition_placeless) n h ds
definitions_at n h [] v = record { new = []; same = refl; next = n; before = λ vs ws y. y }
definitions_at n h (d ∷ ds) v =
    let u = definition_at n h d v.0 in
    let us = definitions_at (u.next + 1) h ds v.1 in
    record {
      new = u.new ∷ us.new;
      same = (λ i. u.same i ∷ us.same i);
      next = us.next;
      before = λ vs ws y. one_more u (map definition_unit ds ++ vs) (map definition_unit us.new ++ ws) (us.before vs ws y);
    }

process_sets_at : (n h : ℕ) (o : Option Tree) → AllByRecursion IsWritable (sets_of h o) → UnitsAt process_set_of perhaps_placeless n h o
process_sets_at n h None v = record { new = None; same = refl; next = n; before = λ vs ws y. y }
process_sets_at n h (Some e) v =
    let u = process_set_at n h e v in
    record { new = Some u.new; same = ap (λ (t : Tree). Some t) u.same; next = u.next + 1; before = λ vs ws y. one_more u vs ws y }

actions_at : (n h : ℕ) (ds : List Action) → AllByRecursion IsAction ds → UnitsAt (map action_unit) (map action_placeless) n h ds
actions_at n h [] v = record { new = []; same = refl; next = n; before = λ vs ws y. y }
actions_at n h (d ∷ ds) v =
    let u = action_at n h d v.0 in
    let us = actions_at (u.next + 1) h ds v.1 in
    record {
      new = u.new ∷ us.new;
      same = (λ i. u.same i ∷ us.same i);
      next = us.next;
      before = λ vs ws y. one_more u (map action_unit ds ++ vs) (map action_unit us.new ++ ws) (us.before vs ws y);
    }

ended_at : (n h : ℕ) (o : Option Tree) → IsGuard o → UnitsAt terminating_of perhaps_placeless n h o
ended_at n h None v = record { new = None; same = refl; next = n; before = λ vs ws y. y }
ended_at n h (Some e) v =
    let u = terminating_at n h e v in
    record { new = Some u.new; same = ap (λ (t : Tree). Some t) u.same; next = u.next + 1; before = λ vs ws y. one_more u vs ws y }

-- ---- the translation

pub record RegionAt (n : ℕ) (r : Region) : Type 0 where
  pub region : Region
  pub same : region_placeless region ≡ region_placeless r
  pub reached : Reached n (processes_in r.next) (units_of r) (units_of region)

pub region_at : (n : ℕ) (r : Region) → IsRegion r → RegionAt n r
region_at n r v =
    let h = processes_in r.next in
    let models = models_at n h r.model_values v.model_values in
    let variables = single (variables_at models.next h r.variables v.variables) in
    let definitions = definitions_at variables.next h r.definitions v.definitions in
    let vars = single (vars_at definitions.next h r.vars v.vars) in
    let sets = process_sets_at vars.next h r.process_set v.process_set in
    let init = single (init_at sets.next h r.init v.init) in
    let actions = actions_at init.next h r.actions v.actions in
    let ended = ended_at actions.next h r.ended v.ended in
    let next = single (next_at ended.next h r.next v.next) in
    let spec = single (spec_at next.next h r.fairness v.fairness) in
    let termination = termination_at spec.next h r.termination v.termination in
    let q : Region = record {
      model_values = models.new;
      variables = variables.new;
      definitions = definitions.new;
      vars = vars.new;
      process_set = sets.new;
      init = init.new;
      actions = actions.new;
      ended = ended.new;
      next = next.new;
      fairness = spec.new;
      termination = termination.new;
    } in
    record {
      region = q;
      same = (λ i. record {
        model_values = models.same i;
        variables = variables.same i;
        definitions = definitions.same i;
        vars = vars.same i;
        process_set = sets.same i;
        init = init.same i;
        actions = actions.same i;
        ended = ended.same i;
        next = next.same i;
        fairness = spec.same i;
        termination = termination.same i;
      });
      reached =
          models.before _ _ (variables.before _ _ (definitions.before _ _ (vars.before _ _ (sets.before _ _ (init.before _ _ (actions.before _ _ (ended.before _ _
          (next.before _ _ (spec.before _ _ (last_one termination (lined_end (codes "Termination == <>(" ++ written r.termination ++ codes ")"))))))))))));
    }
