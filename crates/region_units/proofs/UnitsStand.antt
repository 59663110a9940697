-- Each kind of unit in memory stands for its form, if its parts do.
use Rattle.std.proofs.Common.{◌≡◌, ℕ, List, Vec, Global, Option, Some, None, refl, sym, ap}
use Rattle.std.proofs.lemmas.Option.{none-some, same_Some}
use Rattle.tla_token.specs.declared.place.Place.{Place}
use Rattle.tla_tree.specs.Tree.{Word, Tree}
use Rattle.tla_tree.specs.Lexical.{Token}
use Rattle.tla_tree.specs.Spelling.{Phrase}
use Rattle.tla_tree.specs.Reader.{Out, then_read}
use Rattle.expr_nodes.specs.ReadIn.{Reads}
use Rattle.expr_rows.proofs.ReadLemmas.{told_then}
use Rattle.module_tree.specs.Module as tree
use Rattle.module_tree.specs.Grammar.{Names, last_name, more_names, words_of, WayForm}
use Rattle.module_tree.specs.Units.{ParameterForm, BodyForm, some_form, UnitForm, init_form, action_form, next_form}
use Rattle.module_write.specs.declared.«module».Way.{Way}
use Rattle.module_write.specs.declared.«module».Body.{Body}
use Rattle.module_write.specs.declared.«module».Body.TheVariants as body
use Rattle.region_reading.specs.NameReader.{gives_if}
use Rattle.region_reading.specs.UnitReader.{one_parameter, action_of, action_with}
use Rattle.region_items.specs.Stand.{IsTree}
use Rattle.region_calls.specs.Told.{IsWay}
use Rattle.region_calls.specs.Lists.{AreAll}
use Rattle.region_calls.proofs.AllTold.{ways_all, phrases_all}
use Rattle.region_made.specs.declared.unit.Unit.{Unit as Kept}
use Rattle.region_made.specs.declared.unit.Unit.TheVariants as unit
use Rattle.region_units.specs.Stands.{IsUnitOf, IsBody, parameter_names, at_most_one}

module _ {ts : List Tree} where
  pub init_stands : (is : Vec ℕ Global) (p q : Place) (fs : List (Place × Phrase)) → AreAll (IsTree ts) is.items fs → IsUnitOf ts (unit.Init is) (init_form p q fs)
  init_stands is p q fs h = (let r = phrases_all ts is.items fs h in record { below = r.1; means = ap tree.init_unit r.0 })

  pub next_stands : (ws : Vec Way Global) (p q : Place) (fs : List (Place × WayForm)) → AreAll (IsWay ts) ws.items fs → IsUnitOf ts (unit.Next ws) (next_form p q fs)
  next_stands ws p q fs h = (let r = ways_all ts ws.items fs h in record { below = r.1; means = ap tree.next_unit r.0 })

  pub ways_stand : (ws : Vec Way Global) (fs : List (Place × WayForm)) → AreAll (IsWay ts) ws.items fs → IsBody ts (body.Any ws) (some_form fs)
  ways_stand ws fs h = (let r = ways_all ts ws.items fs h in record { below = r.1; means = ap tree.some_of r.0 })

-- ---- actions, with one name in brackets at most
abbrev action_at : Word → Option Word → Body → Kept
action_at x y b = unit.Action (record { title = x; parameter = y; body = b })

record IsTaken (ts : List Tree) (u : Kept) (o : Option UnitForm) : Type 0 where
  pub what : UnitForm
  pub is : o ≡ Some what
  pub told : IsUnitOf ts u what

module _ (ts : List Tree) (x : Word) (p q : Place) {b : Body} (f : BodyForm) where
  named_taken : (y : Option Word) (s t : Place) (ns : Names) → at_most_one (Some (words_of ns)) ≡ Some y → IsBody ts b f → IsTaken ts (action_at x y b) (action_of p x (one_parameter s ns t) q f)
  named_taken y s t (last_name r w) e h = record {
    what = action_form p x (Some (s, r, w, t)) q f;
    is = refl;
    told = record { below = h.below; means = λ i. tree.action_unit (record { title = x; parameter = sym (same_Some (Some w) y e) i; body = h.means i }) };
  }
  named_taken y s t (more_names r w v (last_name a c)) e h = absurd (none-some y e)
  named_taken y s t (more_names r w v (more_names a c d ns)) e h = absurd (none-some y e)

  action_taken : (y : Option Word) (g : Option ParameterForm) → at_most_one (parameter_names g) ≡ Some y → IsBody ts b f → IsTaken ts (action_at x y b) (action_with p x g q f)
  action_taken y None e h = record {
    what = action_form p x None q f;
    is = refl;
    told = record { below = h.below; means = λ i. tree.action_unit (record { title = x; parameter = sym (same_Some None y e) i; body = h.means i }) };
  }
  action_taken y (Some g) e h = named_taken y g.left g.right g.names e h

pub action_told : {ts : List Tree} {b : Body} {us : List Token} (o : Out BodyForm) (x : Word) (p q : Place) (g : Option ParameterForm) → Reads (IsBody ts b) us o → (y : Option Word) → at_most_one (parameter_names g) ≡ Some y
    → Reads (IsUnitOf ts (unit.Action (record { title = x; parameter = y; body = b }))) us (then_read o (λ f. gives_if (action_with p x g q f)))
action_told {ts} {b} {us} o x p q g r y e = told_then o (λ f. gives_if (action_with p x g q f)) r (λ f h.
    let t = action_taken ts x p q f y g e h in
    record { what = t.what; is = ap (λ (o : Option UnitForm). gives_if o us) t.is; told = t.told })
