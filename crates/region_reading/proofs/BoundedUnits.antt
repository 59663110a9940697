-- Reading within a bound beside reading without: the units of a translation.
use Rattle.std.proofs.Common.{◌≡◌, ℕ, suc, ◌+◌, ◌≤◌, max, bytes_eq, Bool, true, false, if◌then◌else◌, List, [], ◌∷◌, codes, Option, Some, None, refl, ap, ◌∙◌, arith}
use Rattle.std.proofs.lemmas.Option.{none-some, same_Some}
use Rattle.tla_token.specs.declared.place.Place.{Place}
use Rattle.tla_token.specs.Words.{is_own}
use Rattle.tla_tree.specs.declared.op.Op.TheVariants as op
use Rattle.tla_tree.specs.Tree.{Word}
use Rattle.tla_tree.specs.Lexical.{TokenView, Token, sign}
use Rattle.tla_tree.specs.Lexical as tk
use Rattle.tla_tree.specs.Spelling.{Phrase}
use Rattle.tla_tree.specs.Reader.{Reader, next, place_if, is_mark, is_sign, bullet_of}
use Rattle.module_tree.specs.Grammar.{Names, last_name, more_names}
use Rattle.module_tree.specs.Units.{SpecForm, start_line, steps_line, FairForm, ParameterForm, BodyForm, all_form, some_form, begins_list, UnitForm, constant_form, variables_form, definition_form, vars_form, process_set_form, init_form, action_form, terminating_form, next_form, spec_form, termination_form}
use Rattle.outside_reading.specs.PlainUnits.{is_keyword}
use Rattle.region_reading.specs.Bound.{Bound, unbounded, a_phrase, bounded, OnlyRefuses, ReadsWithin}
use Rattle.region_reading.specs.Opens.{item_opens, list_opens, bullets_open, call_opens, way_opens, fair_opens, spec_opens, parameters_open, body_opens, unit_opens}
use Rattle.region_reading.specs.NameReader.{whole, gives_if, is_title, names_in, parameters_in, bulleted_in}
use Rattle.region_reading.specs.ItemReader.{whole_items, list_in}
use Rattle.region_reading.specs.CallReader.{call_in, way_in, fair_in, spec_in, fairs_of}
use Rattle.region_reading.specs.UnitReader.{vars_from, process_set_from, init_from, terminating_from, next_from, spec_with, spec_of, spec_from, termination_from, own_from, body_by, body_in, one_parameter, action_of, action_with, action_from, definition_from, defined_from, constant_from, variables_from, declared_from, unit_by, form_within, form_in}
use Rattle.region_reading.proofs.CallsRead.{fairs_ok}
use Rattle.region_reading.proofs.UnitsRead.{whole_ok}
use Rattle.region_reading.proofs.BoundedSteps.{Bounded, within, bounded_gives, bounded_refuses, bounded_bind, then_part, then_plain, then_token, then_opening, bounded_phrase, only_refuses, what_fits_is_read}
use Rattle.region_reading.proofs.BoundedItems.{names_plain, bounded_parameters, bounded_bullets, bounded_item, bounded_list}
use Rattle.region_reading.proofs.BoundedCalls.{bounded_call, bounded_way, bounded_fair, bounded_spec}

-- what is given, if it is there
bounded_if_given : {A : Type 0} {l c : ℕ} {opens : A → ℕ} (o : Option A) (ts : List Token) → ((a : A) → o ≡ Some a → c ≡ opens a) → Bounded l c opens (gives_if o ts) (gives_if o ts)
bounded_if_given (Some a) ts h = bounded_gives a ts (h a refl)
bounded_if_given None ts h = bounded_refuses ts

bounded_choice : {A : Type 0} {l c : ℕ} {opens : A → ℕ} (b : Bool) (f g i j : Reader A) (ts : List Token) → Bounded l c opens (f ts) (g ts) → Bounded l c opens (i ts) (j ts)
    → Bounded l c opens ((if b then f else i) ts) ((if b then g else j) ts)
bounded_choice true f g i j ts h k = h
bounded_choice false f g i j ts h k = k

module _ (x : ℕ → ℕ → Reader Phrase) (bare : Phrase → ℕ) (w : ReadsWithin x bare) (l d : ℕ) where
  abbrev AsUnit : (Bound → Reader UnitForm) → List Token → Type 0
  AsUnit f ts = Bounded l d (λ u. d + unit_opens bare u) (f (within x l d) ts) (f unbounded ts)

  -- ---- units with titles of their own

  bounded_vars : (p : Place) (ts : List Token) → AsUnit (λ n. vars_from n p) ts
  bounded_vars p ts =
      then_token 1 (place_if (is_mark tk.defines)) ts
      (λ q us. then_opening x l d 1 (place_if (is_mark tk.open_tuple)) us
      (λ s vs. then_plain (names_in 1 vs) (names_plain 1 vs)
      (λ ns ws. then_token 1 (place_if (is_mark tk.close_tuple)) ws
      (λ t zs. bounded_gives (vars_form p q s ns t) zs (omega arith)))))

  bounded_process_set : (p : Place) (ts : List Token) → AsUnit (λ n. process_set_from n p) ts
  bounded_process_set p ts =
      then_token 1 (place_if (is_mark tk.defines)) ts
      (λ q us. then_part (omega arith) (bounded_phrase x bare w l d 1 us)
      (λ a vs. bounded_gives (process_set_form p q a) vs (omega arith)))

  bounded_init : (p : Place) (ts : List Token) → AsUnit (λ n. init_from n p) ts
  bounded_init p ts =
      then_token 1 (place_if (is_mark tk.defines)) ts
      (λ q us. then_part (omega arith) (bounded_bullets x l bare a_phrase (bounded_phrase x bare w l) op.And d us)
      (λ es vs. bounded_gives (init_form p q es) vs (omega arith)))

  bounded_terminating : (p : Place) (ts : List Token) → AsUnit (λ n. terminating_from n p) ts
  bounded_terminating p ts =
      then_token 1 (place_if (is_mark tk.defines)) ts
      (λ q us. then_opening x l d 1 (place_if (is_sign op.And)) us
      (λ s vs. then_opening x l (suc d) s.col (place_if (is_mark tk.open_bracket)) vs
      (λ t ns. then_part (omega arith) (bounded_phrase x bare w l (suc (suc d)) s.col ns)
      (λ a bs. then_token s.col (place_if (is_mark tk.close_bracket)) bs
      (λ u cs. then_token 1 (bullet_of op.And s.col) cs
      (λ v ds. then_opening x l (suc d) s.col (place_if (is_keyword (codes "UNCHANGED"))) ds
      (λ y es. then_token s.col (place_if (is_title (codes "vars"))) es
      (λ z zs. bounded_gives (terminating_form p q s t a u v y z) zs (omega arith)))))))))

  bounded_next : (p : Place) (ts : List Token) → AsUnit (λ n. next_from n p) ts
  bounded_next p ts =
      then_token 1 (place_if (is_mark tk.defines)) ts
      (λ q us. then_part (omega arith) (bounded_bullets x l (way_opens bare) way_in (bounded_way x bare w l) op.Or d us)
      (λ ys vs. bounded_gives (next_form p q ys) vs (omega arith)))

  fairs_open : (p q s t u : Place) (g : SpecForm) (xs : List (Place × SpecForm)) (o : Option (List (Place × FairForm))) → fairs_of xs ≡ o → (f : UnitForm) → spec_with p q s t u g o ≡ Some f
      → bullets_open (spec_opens bare) ((s, start_line t) ∷ (u, g) ∷ xs) ≡ unit_opens bare f
  fairs_open p q s t u g xs (Some fs) e f h =
      ap (λ (ys : List (Place × SpecForm)). bullets_open (spec_opens bare) ((s, start_line t) ∷ (u, g) ∷ ys)) (fairs_ok xs fs e)
      ∙ ap (unit_opens bare) (same_Some (spec_form p q s t u g fs) f h)
  fairs_open p q s t u g xs None e f h = absurd (none-some f h)

  spec_is : (p q : Place) (xs : List (Place × SpecForm)) (f : UnitForm) → spec_of p q xs ≡ Some f → bullets_open (spec_opens bare) xs ≡ unit_opens bare f
  spec_is p q ((s, start_line t) ∷ (u, steps_line v w x y z) ∷ xs) f h = fairs_open p q s t u (steps_line v w x y z) xs (fairs_of xs) refl f h
  spec_is p q xs f h = absurd (none-some f h)

  bounded_spec_unit : (p : Place) (ts : List Token) → AsUnit (λ n. spec_from n p) ts
  bounded_spec_unit p ts =
      then_token 1 (place_if (is_mark tk.defines)) ts
      (λ q us. then_part (omega arith) (bounded_bullets x l (spec_opens bare) spec_in (bounded_spec x bare w l) op.And d us)
      (λ xs vs. bounded_if_given (spec_of p q xs) vs (λ f h. (let e = spec_is p q xs f h in omega (arith, e)))))

  bounded_termination : (p : Place) (ts : List Token) → AsUnit (λ n. termination_from n p) ts
  bounded_termination p ts =
      then_token 1 (place_if (is_mark tk.defines)) ts
      (λ q us. then_opening x l d 1 (place_if (is_sign op.Less)) us
      (λ s vs. then_token 1 (place_if (is_sign op.Greater)) vs
      (λ t ns. then_opening x l (suc d) 1 (place_if (is_mark tk.open_bracket)) ns
      (λ u bs. then_part (omega arith) (bounded_phrase x bare w l (suc (suc d)) 1 bs)
      (λ a cs. then_token 1 (place_if (is_mark tk.close_bracket)) cs
      (λ v zs. bounded_gives (termination_form p q s t u a v) zs (omega arith)))))))

  bounded_own : (p : Place) (y : Word) (ts : List Token) → AsUnit (λ n. own_from n p y) ts
  bounded_own p y ts =
      bounded_choice (bytes_eq y (codes "vars")) (vars_from (within x l d) p) (vars_from unbounded p) _ _ ts (bounded_vars p ts)
      (bounded_choice (bytes_eq y (codes "ProcSet")) (process_set_from (within x l d) p) (process_set_from unbounded p) _ _ ts (bounded_process_set p ts)
      (bounded_choice (bytes_eq y (codes "Init")) (init_from (within x l d) p) (init_from unbounded p) _ _ ts (bounded_init p ts)
      (bounded_choice (bytes_eq y (codes "Terminating")) (terminating_from (within x l d) p) (terminating_from unbounded p) _ _ ts (bounded_terminating p ts)
      (bounded_choice (bytes_eq y (codes "Next")) (next_from (within x l d) p) (next_from unbounded p) _ _ ts (bounded_next p ts)
      (bounded_choice (bytes_eq y (codes "Spec")) (spec_from (within x l d) p) (spec_from unbounded p) _ _ ts (bounded_spec_unit p ts)
      (bounded_choice (bytes_eq y (codes "Termination")) (termination_from (within x l d) p) (termination_from unbounded p) _ _ ts (bounded_termination p ts)
      (bounded_refuses ts)))))))

  -- ---- definitions and actions

  bounded_body_by : (p : Place) (k : TokenView) (ts : List Token) → Bounded l d (λ b. d + body_opens bare b) (body_by (within x l d) p k ts) (body_by unbounded p k ts)
  bounded_body_by p (sign op.And) ts = bounded_bind (bounded_list x bare w l d 1 ts) (λ is us. bounded_gives (all_form is) us refl)
  bounded_body_by p (sign op.Or) ts = bounded_bind (bounded_bullets x l (way_opens bare) way_in (bounded_way x bare w l) op.Or d ts) (λ ys us. bounded_gives (some_form ys) us refl)
  bounded_body_by p k ts = bounded_refuses ts

  bounded_body : (ts : List Token) → Bounded l d (λ b. d + body_opens bare b) (body_in (within x l d) ts) (body_in unbounded ts)
  bounded_body ts = bounded_body_by (next 1 ts).place (next 1 ts).kind ts

  one_opens : (p : Place) (y : Word) (s : Place) (ns : Names) (t q : Place) (b : BodyForm) (u : UnitForm) → action_of p y (one_parameter s ns t) q b ≡ Some u → max 1 (body_opens bare b) ≡ unit_opens bare u
  one_opens p y s (last_name m z) t q b u h = ap (unit_opens bare) (same_Some (action_form p y (Some (s, m, z, t)) q b) u h)
  one_opens p y s (more_names m z c ns) t q b u h = absurd (none-some u h)

  action_is : (p : Place) (y : Word) (f : Option ParameterForm) (q : Place) (b : BodyForm) (u : UnitForm) → action_with p y f q b ≡ Some u → max (parameters_open f) (body_opens bare b) ≡ unit_opens bare u
  action_is p y (Some f) q b u h = one_opens p y f.left f.names f.right q b u h
  action_is p y None q b u h = ap (unit_opens bare) (same_Some (action_form p y None q b) u h)

  -- after the parameters
  bounded_action : (p : Place) (y : Word) (f : Option ParameterForm) (q : Place) (ts : List Token)
      → Bounded l (d + parameters_open f) (λ u. d + unit_opens bare u) (action_from (within x l d) p y f q ts) (action_from unbounded p y f q ts)
  bounded_action p y f q ts =
      then_part (omega arith) (bounded_body ts)
      (λ b us. bounded_if_given (action_with p y f q b) us (λ u h. (let e = action_is p y f q b u h in omega (arith, e))))

  bounded_definition : (p : Place) (y : Word) (f : Option ParameterForm) (q : Place) (ts : List Token)
      → Bounded l (d + parameters_open f) (λ u. d + unit_opens bare u) (definition_from (within x l d) p y f q ts) (definition_from unbounded p y f q ts)
  bounded_definition p y f q ts = then_part (omega arith) (bounded_phrase x bare w l d 1 ts) (λ a us. bounded_gives (definition_form p y f q a) us (omega arith))

  bounded_defined : (p : Place) (y : Word) (ts : List Token) → AsUnit (λ n. defined_from n p y) ts
  bounded_defined p y ts =
      bounded_bind (bounded_parameters x l d ts)
      (λ f us. then_token 1 (place_if (is_mark tk.defines)) us
      (λ q vs. bounded_choice (begins_list vs) (action_from (within x l d) p y f q) (action_from unbounded p y f q) (definition_from (within x l d) p y f q) (definition_from unbounded p y f q) vs
      (bounded_action p y f q vs) (bounded_definition p y f q vs)))

  -- ---- units, by their first token

  bounded_constant : (p : Place) (ts : List Token) → AsUnit (λ n. constant_from p) ts
  bounded_constant p ts = then_plain (names_in 1 ts) (names_plain 1 ts) (λ ns us. bounded_gives (constant_form p ns) us (omega arith))

  bounded_variables : (p : Place) (ts : List Token) → AsUnit (λ n. variables_from p) ts
  bounded_variables p ts = then_plain (names_in 1 ts) (names_plain 1 ts) (λ ns us. bounded_gives (variables_form p ns) us (omega arith))

  bounded_declared : (p : Place) (v : Word) (ts : List Token) → AsUnit (λ n. declared_from p v) ts
  bounded_declared p v ts =
      bounded_choice (bytes_eq v (codes "CONSTANT")) (constant_from p) (constant_from p) _ _ ts (bounded_constant p ts)
      (bounded_choice (bytes_eq v (codes "VARIABLES")) (variables_from p) (variables_from p) _ _ ts (bounded_variables p ts) (bounded_refuses ts))

  pub bounded_unit : (p : Place) (k : TokenView) (ts : List Token) → AsUnit (λ n. unit_by n p k) ts
  bounded_unit p (tk.other v) ts = bounded_declared p v ts
  bounded_unit p (tk.word y) ts = bounded_choice (is_own y) (own_from (within x l d) p y) (own_from unbounded p y) (defined_from (within x l d) p y) (defined_from unbounded p y) ts (bounded_own p y ts) (bounded_defined p y ts)
  bounded_unit p k ts = bounded_refuses ts

-- ---- what a bound does: it only refuses

module _ (x : ℕ → ℕ → Reader Phrase) (bare : Phrase → ℕ) (w : ReadsWithin x bare) (l : ℕ) where
  pub parameters_refuse : (ts : List Token) → OnlyRefuses l parameters_open (parameters_in (bounded x l) ts) (parameters_in unbounded ts)
  parameters_refuse ts = only_refuses l parameters_open (parameters_in (bounded x l) ts) (parameters_in unbounded ts) (bounded_parameters x l 0 ts)

  pub item_refuses : (e : ℕ) (ts : List Token) → OnlyRefuses l (item_opens bare) (whole_items.item (bounded x l) e ts) (whole_items.item unbounded e ts)
  item_refuses e ts = only_refuses l (item_opens bare) (whole_items.item (bounded x l) e ts) (whole_items.item unbounded e ts) (bounded_item x bare w l 0 e ts)

  pub list_refuses : (e : ℕ) (ts : List Token) → OnlyRefuses l (list_opens bare) (list_in (bounded x l) e ts) (list_in unbounded e ts)
  list_refuses e ts = only_refuses l (list_opens bare) (list_in (bounded x l) e ts) (list_in unbounded e ts) (bounded_list x bare w l 0 e ts)

  pub call_refuses : (e : ℕ) (ts : List Token) → OnlyRefuses l (call_opens bare) (call_in (bounded x l) e ts) (call_in unbounded e ts)
  call_refuses e ts = only_refuses l (call_opens bare) (call_in (bounded x l) e ts) (call_in unbounded e ts) (bounded_call x bare w l 0 e ts)

  pub way_refuses : (e : ℕ) (ts : List Token) → OnlyRefuses l (way_opens bare) (way_in (bounded x l) e ts) (way_in unbounded e ts)
  way_refuses e ts = only_refuses l (way_opens bare) (way_in (bounded x l) e ts) (way_in unbounded e ts) (bounded_way x bare w l 0 e ts)

  pub fair_refuses : (e : ℕ) (ts : List Token) → OnlyRefuses l (fair_opens bare) (fair_in (bounded x l) e ts) (fair_in unbounded e ts)
  fair_refuses e ts = only_refuses l (fair_opens bare) (fair_in (bounded x l) e ts) (fair_in unbounded e ts) (bounded_fair x bare w l 0 e ts)

  pub spec_refuses : (e : ℕ) (ts : List Token) → OnlyRefuses l (spec_opens bare) (spec_in (bounded x l) e ts) (spec_in unbounded e ts)
  spec_refuses e ts = only_refuses l (spec_opens bare) (spec_in (bounded x l) e ts) (spec_in unbounded e ts) (bounded_spec x bare w l 0 e ts)

  -- the lists of Init, Next and Spec
  pub phrases_refuse : (ts : List Token) → OnlyRefuses l (bullets_open bare) (bulleted_in (bounded x l) op.And a_phrase ts) (bulleted_in unbounded op.And a_phrase ts)
  phrases_refuse ts =
      only_refuses l (bullets_open bare) (bulleted_in (bounded x l) op.And a_phrase ts) (bulleted_in unbounded op.And a_phrase ts) (bounded_bullets x l bare a_phrase (bounded_phrase x bare w l) op.And 0 ts)

  pub ways_refuse : (ts : List Token) → OnlyRefuses l (bullets_open (way_opens bare)) (bulleted_in (bounded x l) op.Or way_in ts) (bulleted_in unbounded op.Or way_in ts)
  ways_refuse ts =
      only_refuses l (bullets_open (way_opens bare)) (bulleted_in (bounded x l) op.Or way_in ts) (bulleted_in unbounded op.Or way_in ts) (bounded_bullets x l (way_opens bare) way_in (bounded_way x bare w l) op.Or 0 ts)

  pub specs_refuse : (ts : List Token) → OnlyRefuses l (bullets_open (spec_opens bare)) (bulleted_in (bounded x l) op.And spec_in ts) (bulleted_in unbounded op.And spec_in ts)
  specs_refuse ts =
      only_refuses l (bullets_open (spec_opens bare)) (bulleted_in (bounded x l) op.And spec_in ts) (bulleted_in unbounded op.And spec_in ts) (bounded_bullets x l (spec_opens bare) spec_in (bounded_spec x bare w l) op.And 0 ts)

  pub body_refuses : (ts : List Token) → OnlyRefuses l (body_opens bare) (body_in (bounded x l) ts) (body_in unbounded ts)
  body_refuses ts = only_refuses l (body_opens bare) (body_in (bounded x l) ts) (body_in unbounded ts) (bounded_body x bare w l 0 ts)

  pub unit_refuses : (p : Place) (k : TokenView) (ts : List Token) → OnlyRefuses l (unit_opens bare) (unit_by (bounded x l) p k ts) (unit_by unbounded p k ts)
  unit_refuses p k ts = only_refuses l (unit_opens bare) (unit_by (bounded x l) p k ts) (unit_by unbounded p k ts) (bounded_unit x bare w l 0 p k ts)

  -- what is read within a bound is the form that is read without, and opens no more
  pub form_same : (ts : List Token) (f : UnitForm) → form_within (bounded x l) ts ≡ Some f → (form_in ts ≡ Some f) × (unit_opens bare f ≤ l)
  form_same [] f h = absurd (none-some f h)
  form_same (t ∷ ts) f h = (let e = (unit_refuses t.place t.kind ts).same f [] (whole_ok (unit_by (bounded x l) t.place t.kind ts) f h) in (ap whole e.0, e.1))

  -- and each form that opens no more is read
  pub form_fits : (ts : List Token) (f : UnitForm) → form_in ts ≡ Some f → unit_opens bare f ≤ l → form_within (bounded x l) ts ≡ Some f
  form_fits [] f h low = absurd (none-some f h)
  form_fits (t ∷ ts) f h low =
      ap whole (what_fits_is_read l (unit_opens bare) (unit_by unbounded t.place t.kind ts) f [] (whole_ok (unit_by unbounded t.place t.kind ts) f h) low
      (unit_by (bounded x l) t.place t.kind ts) (unit_refuses t.place t.kind ts))
