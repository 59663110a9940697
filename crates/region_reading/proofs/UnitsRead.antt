-- What is read is spelled, and what is spelled is read: the units of a translation.
use Rattle.std.proofs.Common.{◌≡◌, ℕ, nat_lt, bytes_eq, Bool, true, false, not, List, [], ◌∷◌, codes, Option, Some, None, Ok, Err, refl, sym, ap, subst, ◌∙◌}
use Rattle.std.specs.Prelude.{option_map, if◌then◌else◌}
use Rattle.std.proofs.lemmas.Bool.{not-true}
use Rattle.std.proofs.lemmas.Option.{none-some, same_Some}
use Rattle.tla_token.specs.declared.place.Place.{Place}
use Rattle.tla_token.specs.Words.{is_own}
use Rattle.tla_token.proofs.Spelled.{same_bytes}
use Rattle.tla_tree.specs.declared.op.Op.TheVariants as op
use Rattle.tla_tree.specs.Tree.{Word}
use Rattle.tla_tree.specs.Lexical.{TokenView, Token, token, mark, sign}
use Rattle.tla_tree.specs.Lexical as tk
use Rattle.tla_tree.specs.Spelling.{Phrase, Right, Good, spell, word}
use Rattle.tla_tree.specs.Reader.{Out, Reader, ◌>>=◌, gives, refuses, next, read}
use Rattle.tla_tree.proofs.ReadStops.{Calm}
use Rattle.tla_tree.proofs.SoundTokens.{then_ok, ok_is, given, mark_ok, sign_ok}
use Rattle.tla_tree.proofs.SoundLists.{read_is_spelled}
use Rattle.module_tree.specs.Module.{RegionUnit}
use Rattle.module_tree.specs.Grammar.{see, keyword, Names, last_name, more_names, spell_names, ListForm, last_item, more_items, spell_item, spell_list, list_column, WayForm, spell_way, GoodWay, spell_bullets, GoodSome}
use Rattle.module_tree.specs.Units.{SpecForm, start_line, steps_line, fair_line, is_steps, FairForm, fair_specs, spell_spec, GoodSpec, ParameterForm, spell_parameters, GoodParameters, BodyForm, all_form, some_form, spell_body, GoodBody, begins_list, UnitForm, constant_form, variables_form, definition_form, vars_form, process_set_form, init_form, action_form, terminating_form, next_form, spec_form, termination_form, spell_unit, unit_of, GoodUnit, IsUnit}
use Rattle.module_tree.proofs.OneItem.{bullet_calm, calm_at}
use Rattle.region_reading.specs.Bound.{unbounded, a_phrase}
use Rattle.region_reading.specs.NameReader.{whole, gives_if, bulleted_in}
use Rattle.region_reading.specs.ItemReader.{list_in}
use Rattle.region_reading.specs.CallReader.{way_in, spec_in, fairs_of}
use Rattle.region_reading.specs.UnitReader.{vars_from, process_set_from, init_from, terminating_from, next_from, spec_with, spec_of, spec_from, termination_from, own_from, body_by, body_in, one_parameter, action_of, action_with, action_from, definition_from, defined_by, defined_from, constant_from, variables_from, declared_from, unit_by, form_in, unit_in}
use Rattle.region_reading.proofs.NamesRead.{next_is, phrase_read, shorter, keyword_ok, title_ok, keyword_read, title_read, names_ok, names_read, parameters_ok, parameters_read}
use Rattle.region_reading.proofs.BulletsRead.{bullet_ok, bullet_read, Ends, IsSound, bulleted_in_ok, bulleted_in_read}
use Rattle.region_reading.proofs.ItemsRead.{list_ok, list_read}
use Rattle.region_reading.proofs.CallsRead.{way_ok, NoBracket, no_bracket_at, way_read, way_shorter, spec_ok, spec_read, spec_shorter, fairs_ok, fairs_back}

-- ---- what is read is spelled

-- what is behind a title
abbrev pub IsTitled : Place → Word → List Token → UnitForm → List Token → Type 0
IsTitled p x ts f us = GoodUnit f × (spell_unit f us ≡ word p x ts)

vars_ok : (p : Place) (ts : List Token) (f : UnitForm) (us : List Token) → vars_from unbounded p ts ≡ Ok (f, us) → IsTitled p (codes "vars") ts f us
vars_ok p ts f us o =
    let v = then_ok o in
    let a = mark_ok 1 tk.defines ts v.0 v.1 v.2 in
    let u = then_ok v.3 in
    let b = mark_ok 1 tk.open_tuple v.1 u.0 u.1 u.2 in
    let z = then_ok u.3 in
    let c = names_ok 1 u.1 z.0 z.1 z.2 in
    let i = then_ok z.3 in
    let d = mark_ok 1 tk.close_tuple z.1 i.0 i.1 i.2 in
    given (λ d vs. IsTitled p (codes "vars") ts d vs) i.3 ((a.0, b.0, c.0, d.0), rw (d.1, c.1, b.1, a.1) refl)

process_set_ok : (p : Place) (ts : List Token) (f : UnitForm) (us : List Token) → process_set_from unbounded p ts ≡ Ok (f, us) → IsTitled p (codes "ProcSet") ts f us
process_set_ok p ts f us o =
    let v = then_ok o in
    let a = mark_ok 1 tk.defines ts v.0 v.1 v.2 in
    let u = then_ok v.3 in
    let b = read_is_spelled 1 v.1 u.1 u.0 u.2 in
    given (λ d vs. IsTitled p (codes "ProcSet") ts d vs) u.3 ((a.0, b.0), rw (sym b.1, a.1) refl)

phrase_sound : IsSound Good spell read
phrase_sound e ts a us o = (let w = read_is_spelled e ts us a o in (w.0, sym w.1))

init_ok : (p : Place) (ts : List Token) (f : UnitForm) (us : List Token) → init_from unbounded p ts ≡ Ok (f, us) → IsTitled p (codes "Init") ts f us
init_ok p ts f us o =
    let v = then_ok o in
    let a = mark_ok 1 tk.defines ts v.0 v.1 v.2 in
    let u = then_ok v.3 in
    let b = bulleted_in_ok op.And Good spell a_phrase phrase_sound v.1 u.0 u.1 u.2 in
    given (λ d vs. IsTitled p (codes "Init") ts d vs) u.3 ((a.0, b.0), rw (b.1, a.1) refl)

next_ok : (p : Place) (ts : List Token) (f : UnitForm) (us : List Token) → next_from unbounded p ts ≡ Ok (f, us) → IsTitled p (codes "Next") ts f us
next_ok p ts f us o =
    let v = then_ok o in
    let a = mark_ok 1 tk.defines ts v.0 v.1 v.2 in
    let u = then_ok v.3 in
    let b = bulleted_in_ok op.Or GoodWay spell_way way_in way_ok v.1 u.0 u.1 u.2 in
    given (λ d vs. IsTitled p (codes "Next") ts d vs) u.3 ((a.0, b.0), rw (b.1, a.1) refl)

terminating_ok : (p : Place) (ts : List Token) (f : UnitForm) (us : List Token) → terminating_from unbounded p ts ≡ Ok (f, us) → IsTitled p (codes "Terminating") ts f us
terminating_ok p ts f us o =
    let v = then_ok o in
    let a = mark_ok 1 tk.defines ts v.0 v.1 v.2 in
    let u = then_ok v.3 in
    let b = sign_ok 1 op.And v.1 u.0 u.1 u.2 in
    let e = u.0.col in
    let z = then_ok u.3 in
    let c = mark_ok e tk.open_bracket u.1 z.0 z.1 z.2 in
    let i = then_ok z.3 in
    let d = read_is_spelled e z.1 i.1 i.0 i.2 in
    let j = then_ok i.3 in
    let g = mark_ok e tk.close_bracket i.1 j.0 j.1 j.2 in
    let k = then_ok j.3 in
    let h = bullet_ok 1 op.And e j.1 k.0 k.1 k.2 in
    let l = then_ok k.3 in
    let m = keyword_ok e (codes "UNCHANGED") refl k.1 l.0 l.1 l.2 in
    let n = then_ok l.3 in
    let q = title_ok e (codes "vars") l.1 n.0 n.1 n.2 in
    given (λ d vs. IsTitled p (codes "Terminating") ts d vs) n.3 ((a.0, b.0, c.0, d.0, g.0, h.1, m.0, q.0), rw (q.1, m.1, h.2, g.1, sym d.1, c.1, b.1, a.1) refl)

termination_ok : (p : Place) (ts : List Token) (f : UnitForm) (us : List Token) → termination_from unbounded p ts ≡ Ok (f, us) → IsTitled p (codes "Termination") ts f us
termination_ok p ts f us o =
    let v = then_ok o in
    let a = mark_ok 1 tk.defines ts v.0 v.1 v.2 in
    let u = then_ok v.3 in
    let b = sign_ok 1 op.Less v.1 u.0 u.1 u.2 in
    let z = then_ok u.3 in
    let c = sign_ok 1 op.Greater u.1 z.0 z.1 z.2 in
    let i = then_ok z.3 in
    let d = mark_ok 1 tk.open_bracket z.1 i.0 i.1 i.2 in
    let j = then_ok i.3 in
    let g = read_is_spelled 1 i.1 j.1 j.0 j.2 in
    let k = then_ok j.3 in
    let h = mark_ok 1 tk.close_bracket j.1 k.0 k.1 k.2 in
    given (λ d vs. IsTitled p (codes "Termination") ts d vs) k.3 ((a.0, b.0, c.0, d.0, g.0, h.0), rw (h.1, sym g.1, d.1, c.1, b.1, a.1) refl)

-- what there is is given
given_if : {A : Type 0} (o : Option A) (ts : List Token) (a : A) (us : List Token) → gives_if o ts ≡ Ok (a, us) → (o ≡ Some a) × (ts ≡ us)
given_if (Some b) ts a us h = (let w = ok_is h in (ap (λ x. Some x) w.0, w.1))
given_if None ts a us h = absurd cc

spec_of_ok : (p q : Place) → Right 1 q → (xs : List (Place × SpecForm)) (us : List Token) → GoodSome GoodSpec xs → (f : UnitForm) → spec_of p q xs ≡ Some f
    → IsTitled p (codes "Spec") (see q (mark tk.defines) (spell_bullets (sign op.And) spell_spec xs us)) f us
spec_of_ok p q r ((s, start_line t) ∷ (u, steps_line v w x y z) ∷ xs) us g f h = by (fairs_of xs) refl h
  where
    all : List (Place × SpecForm) → List (Place × SpecForm)
    all xs = (s, start_line t) ∷ (u, steps_line v w x y z) ∷ xs

    with_fairs : (fs : List (Place × FairForm)) → (xs : List (Place × SpecForm)) → fair_specs fs ≡ xs → GoodSome GoodSpec ((s, start_line t) ∷ (u, steps_line v w x y z) ∷ xs)
        → IsTitled p (codes "Spec") (see q (mark tk.defines) (spell_bullets (sign op.And) spell_spec ((s, start_line t) ∷ (u, steps_line v w x y z) ∷ xs) us)) (spec_form p q s t u (steps_line v w x y z) fs) us
    with_fairs fs xs e g = subst (λ (xs : List (Place × SpecForm)). GoodSome GoodSpec ((s, start_line t) ∷ (u, steps_line v w x y z) ∷ xs)
        → IsTitled p (codes "Spec") (see q (mark tk.defines) (spell_bullets (sign op.And) spell_spec ((s, start_line t) ∷ (u, steps_line v w x y z) ∷ xs) us)) (spec_form p q s t u (steps_line v w x y z) fs) us) e
        (λ g. ((r, refl, g), refl)) g

    by : (o : Option (List (Place × FairForm))) → fairs_of xs ≡ o → spec_with p q s t u (steps_line v w x y z) o ≡ Some f
        → IsTitled p (codes "Spec") (see q (mark tk.defines) (spell_bullets (sign op.And) spell_spec ((s, start_line t) ∷ (u, steps_line v w x y z) ∷ xs) us)) f us
    by (Some fs) e h = subst (λ (f : UnitForm). IsTitled p (codes "Spec") (see q (mark tk.defines) (spell_bullets (sign op.And) spell_spec ((s, start_line t) ∷ (u, steps_line v w x y z) ∷ xs) us)) f us)
        (same_Some (spec_form p q s t u (steps_line v w x y z) fs) f h) (with_fairs fs xs (sym (fairs_ok xs fs e)) g)
    by None e h = absurd (none-some f h)
spec_of_ok p q r xs us g f h = absurd cc

spec_unit_ok : (p : Place) (ts : List Token) (f : UnitForm) (us : List Token) → spec_from unbounded p ts ≡ Ok (f, us) → IsTitled p (codes "Spec") ts f us
spec_unit_ok p ts f us o =
    let v = then_ok o in
    let a = mark_ok 1 tk.defines ts v.0 v.1 v.2 in
    let u = then_ok v.3 in
    let b = bulleted_in_ok op.And GoodSpec spell_spec spec_in spec_ok v.1 u.0 u.1 u.2 in
    let c = given_if (spec_of p v.0 u.0) u.1 f us u.3 in
    let d = spec_of_ok p v.0 a.0 u.0 u.1 b.0 f c.0 in
    let g : spell_unit f us ≡ spell_unit f u.1 = ap (spell_unit f) (sym c.1) in
    (d.0, g ∙ d.1 ∙ rw (b.1, a.1) refl)

-- by a title
title_case : (p : Place) (x w : Word) (ts : List Token) (f : UnitForm) (us : List Token) (A B : Reader UnitForm)
    → (A ts ≡ Ok (f, us) → IsTitled p w ts f us) → (B ts ≡ Ok (f, us) → IsTitled p x ts f us)
    → (if bytes_eq x w then A else B) ts ≡ Ok (f, us) → IsTitled p x ts f us
title_case p x w ts f us A B go next o = by (bytes_eq x w) refl o
  where
    by : (b : Bool) → bytes_eq x w ≡ b → (if b then A else B) ts ≡ Ok (f, us) → IsTitled p x ts f us
    by true q o = subst (λ (y : Word). IsTitled p y ts f us) (sym (same_bytes x w q)) (go o)
    by false q o = next o

own_ok : (p : Place) (x : Word) (ts : List Token) (f : UnitForm) (us : List Token) → own_from unbounded p x ts ≡ Ok (f, us) → IsTitled p x ts f us
own_ok p x ts f us =
    title_case p x (codes "vars") ts f us (vars_from unbounded p) _ (vars_ok p ts f us) (
    title_case p x (codes "ProcSet") ts f us (process_set_from unbounded p) _ (process_set_ok p ts f us) (
    title_case p x (codes "Init") ts f us (init_from unbounded p) _ (init_ok p ts f us) (
    title_case p x (codes "Terminating") ts f us (terminating_from unbounded p) _ (terminating_ok p ts f us) (
    title_case p x (codes "Next") ts f us (next_from unbounded p) _ (next_ok p ts f us) (
    title_case p x (codes "Spec") ts f us (spec_from unbounded p) _ (spec_unit_ok p ts f us) (
    title_case p x (codes "Termination") ts f us (termination_from unbounded p) _ (termination_ok p ts f us) (λ o. absurd cc)))))))

-- ---- bodies

body_by_ok : (p : Place) (k : TokenView) (ts : List Token) (b : BodyForm) (us : List Token) → body_by unbounded p k ts ≡ Ok (b, us) → GoodBody b × (spell_body b us ≡ ts)
body_by_ok p (sign op.And) ts b us o =
    let v = then_ok o in
    let w = list_ok 1 ts v.0 v.1 v.2 in
    given (λ d vs. GoodBody d × (spell_body d vs ≡ ts)) v.3 ((w.0, w.1), w.2)
body_by_ok p (sign op.Or) ts b us o =
    let v = then_ok o in
    let w = bulleted_in_ok op.Or GoodWay spell_way way_in way_ok ts v.0 v.1 v.2 in
    given (λ d vs. GoodBody d × (spell_body d vs ≡ ts)) v.3 (w.0, w.1)
body_by_ok p k ts b us o = absurd cc

body_ok : (ts : List Token) (b : BodyForm) (us : List Token) → body_in unbounded ts ≡ Ok (b, us) → GoodBody b × (spell_body b us ≡ ts)
body_ok ts b us o = body_by_ok (next 1 ts).place (next 1 ts).kind ts b us o

-- ---- definitions and actions

action_of_ok : (p : Place) (x : Word) → is_own x ≡ false → (l : Place) (ns : Names) (r : Place) → GoodParameters 1 (Some (record { left = l; names = ns; right = r })) → (q : Place) → Right 1 q
    → (b : BodyForm) → GoodBody b → (f : UnitForm) (us : List Token) → action_of p x (one_parameter l ns r) q b ≡ Some f
    → IsTitled p x (spell_parameters (Some (record { left = l; names = ns; right = r })) (see q (mark tk.defines) (spell_body b us))) f us
action_of_ok p x n l (last_name m y) r g q h b k f us o =
    subst (λ (f : UnitForm). IsTitled p x (spell_parameters (Some (record { left = l; names = last_name m y; right = r })) (see q (mark tk.defines) (spell_body b us))) f us)
    (same_Some (action_form p x (Some (l, m, y, r)) q b) f o) ((rw n refl, (g.0, g.1, g.2), h, k), refl)
action_of_ok p x n l (more_names m y s ns) r g q h b k f us o = absurd (none-some f o)

action_with_ok : (p : Place) (x : Word) → is_own x ≡ false → (g : Option ParameterForm) → GoodParameters 1 g → (q : Place) → Right 1 q → (b : BodyForm) → GoodBody b → (f : UnitForm) (us : List Token)
    → action_with p x g q b ≡ Some f → IsTitled p x (spell_parameters g (see q (mark tk.defines) (spell_body b us))) f us
action_with_ok p x n None g q h b k f us o =
    subst (λ (f : UnitForm). IsTitled p x (see q (mark tk.defines) (spell_body b us)) f us) (same_Some (action_form p x None q b) f o) ((rw n refl, tt, h, k), refl)
action_with_ok p x n (Some d) g q h b k f us o = action_of_ok p x n d.left d.names d.right g q h b k f us o

defined_by_ok : (p : Place) (x : Word) → is_own x ≡ false → (g : Option ParameterForm) → GoodParameters 1 g → (q : Place) → Right 1 q → (ts : List Token) (f : UnitForm)
    → defined_by unbounded p x g q ts ≡ Ok (f, []) → IsTitled p x (spell_parameters g (see q (mark tk.defines) ts)) f []
defined_by_ok p x n g gg q h ts f o = by (begins_list ts) refl o
  where
    action : action_from unbounded p x g q ts ≡ Ok (f, []) → IsTitled p x (spell_parameters g (see q (mark tk.defines) ts)) f []
    action o =
        let v = then_ok o in
        let w = body_ok ts v.0 v.1 v.2 in
        let u = given_if (action_with p x g q v.0) v.1 f [] v.3 in
        let z = action_with_ok p x n g gg q h v.0 w.0 f v.1 u.0 in
        let e : spell_unit f [] ≡ spell_unit f v.1 = ap (spell_unit f) (sym u.1) in
        (z.0, e ∙ z.1 ∙ rw w.1 refl)

    definition : begins_list ts ≡ false → definition_from unbounded p x g q ts ≡ Ok (f, []) → IsTitled p x (spell_parameters g (see q (mark tk.defines) ts)) f []
    definition k o =
        let v = then_ok o in
        let w = read_is_spelled 1 ts v.1 v.0 v.2 in
        let u = ok_is v.3 in
        let spelled : spell v.0 [] ≡ ts = ap (spell v.0) (sym u.1) ∙ sym w.1 in
        let none : begins_list (spell v.0 []) ≡ false = ap begins_list spelled ∙ k in
        subst (λ (f : UnitForm). IsTitled p x (spell_parameters g (see q (mark tk.defines) ts)) f []) u.0 ((rw n refl, gg, h, w.0, ap not none), ap (λ (vs : List Token). word p x (spell_parameters g (see q (mark tk.defines) vs))) spelled)

    by : (b : Bool) → begins_list ts ≡ b → (if b then action_from unbounded p x g q else definition_from unbounded p x g q) ts ≡ Ok (f, []) → IsTitled p x (spell_parameters g (see q (mark tk.defines) ts)) f []
    by true k o = action o
    by false k o = definition k o

defined_ok : (p : Place) (x : Word) → is_own x ≡ false → (ts : List Token) (f : UnitForm) → defined_from unbounded p x ts ≡ Ok (f, []) → IsTitled p x ts f []
defined_ok p x n ts f o =
    let v = then_ok o in
    let a = parameters_ok ts v.0 v.1 v.2 in
    let u = then_ok v.3 in
    let b = mark_ok 1 tk.defines v.1 u.0 u.1 u.2 in
    let c = defined_by_ok p x n v.0 a.0 u.0 b.0 u.1 f u.3 in
    (c.0, c.1 ∙ rw (b.1, a.1) refl)

-- ---- units

abbrev IsDeclared : Place → List Token → UnitForm → List Token → Word → Type 0
IsDeclared p ts f us w = GoodUnit f × (spell_unit f us ≡ keyword p w ts)

declared_ok : (p : Place) (w : Word) (ts : List Token) (f : UnitForm) (us : List Token) → declared_from p w ts ≡ Ok (f, us) → GoodUnit f × (spell_unit f us ≡ keyword p w ts)
declared_ok p w ts f us o = first (bytes_eq w (codes "CONSTANT")) refl o
  where
    constants : constant_from p ts ≡ Ok (f, us) → IsDeclared p ts f us (codes "CONSTANT")
    constants o =
        let v = then_ok o in
        let a = names_ok 1 ts v.0 v.1 v.2 in
        given (λ d vs. GoodUnit d × (spell_unit d vs ≡ keyword p (codes "CONSTANT") ts)) v.3 (a.0, rw a.1 refl)

    variables : variables_from p ts ≡ Ok (f, us) → IsDeclared p ts f us (codes "VARIABLES")
    variables o =
        let v = then_ok o in
        let a = names_ok 1 ts v.0 v.1 v.2 in
        given (λ d vs. GoodUnit d × (spell_unit d vs ≡ keyword p (codes "VARIABLES") ts)) v.3 (a.0, rw a.1 refl)

    other : refuses ts ≡ Ok (f, us) → IsDeclared p ts f us w
    other o = absurd cc

    second : (b : Bool) → bytes_eq w (codes "VARIABLES") ≡ b → (if b then variables_from p else refuses) ts ≡ Ok (f, us) → IsDeclared p ts f us w
    second true q o = subst (IsDeclared p ts f us) (sym (same_bytes w (codes "VARIABLES") q)) (variables o)
    second false q o = other o

    first : (b : Bool) → bytes_eq w (codes "CONSTANT") ≡ b → (if b then constant_from p else (if bytes_eq w (codes "VARIABLES") then variables_from p else refuses)) ts ≡ Ok (f, us) → IsDeclared p ts f us w
    first true q o = subst (IsDeclared p ts f us) (sym (same_bytes w (codes "CONSTANT") q)) (constants o)
    first false q o = second (bytes_eq w (codes "VARIABLES")) refl o

unit_by_ok : (p : Place) (k : TokenView) (ts : List Token) (f : UnitForm) → unit_by unbounded p k ts ≡ Ok (f, []) → GoodUnit f × (spell_unit f [] ≡ see p k ts)
unit_by_ok p (tk.other w) ts f o = declared_ok p w ts f [] o
unit_by_ok p (tk.word x) ts f o = by (is_own x) refl o
  where
    by : (b : Bool) → is_own x ≡ b → (if b then own_from unbounded p x else defined_from unbounded p x) ts ≡ Ok (f, []) → IsTitled p x ts f []
    by true n o = own_ok p x ts f [] o
    by false n o = defined_ok p x n ts f o
unit_by_ok p k ts f o = absurd cc

pub whole_ok : {A : Type 0} (o : Out A) (a : A) → whole o ≡ Some a → o ≡ Ok (a, [])
whole_ok (Ok (b, [])) a h = ap (λ b. Ok (b, [])) (same_Some b a h)
whole_ok (Ok (b, t ∷ ts)) a h = absurd (none-some a h)
whole_ok (Err s) a h = absurd (none-some a h)

-- the unit that is read is one whose tokens these are
pub form_ok : (ts : List Token) (f : UnitForm) → form_in ts ≡ Some f → GoodUnit f × (ts ≡ spell_unit f [])
form_ok [] f h = absurd (none-some f h)
form_ok (t ∷ ts) f h = (let w = unit_by_ok t.place t.kind ts f (whole_ok (unit_by unbounded t.place t.kind ts) f h) in (w.0, sym w.1))

-- ---- what is spelled is read

calm_ends : Ends op.And Calm
calm_ends = record { before = λ c p r h. bullet_calm c (token p (sign op.And)) r h; ended = λ c. refl }

bracket_ends : Ends op.Or NoBracket
bracket_ends = record { before = λ c p r h. no_bracket_at c (token p (sign op.Or)) r refl; ended = λ c. refl }

abbrev Anywhere : ℕ → List Token → Type 0
Anywhere e ts = Unit {0}

all_ends : Ends op.And Anywhere
all_ends = record { before = λ c p r h. tt; ended = λ c. tt }

phrases_read : (es : List (Place × Phrase)) → GoodSome Good es → bulleted_in unbounded op.And a_phrase (spell_bullets (sign op.And) spell es []) ≡ Ok (es, [])
phrases_read es g = bulleted_in_read op.And Calm Good spell a_phrase calm_ends phrase_read shorter es g

ways_read : (ys : List (Place × WayForm)) → GoodSome GoodWay ys → bulleted_in unbounded op.Or way_in (spell_bullets (sign op.Or) spell_way ys []) ≡ Ok (ys, [])
ways_read ys g = bulleted_in_read op.Or NoBracket GoodWay spell_way way_in bracket_ends way_read way_shorter ys g

specs_read : (xs : List (Place × SpecForm)) → GoodSome GoodSpec xs → bulleted_in unbounded op.And spec_in (spell_bullets (sign op.And) spell_spec xs []) ≡ Ok (xs, [])
specs_read xs g = bulleted_in_read op.And Anywhere GoodSpec spell_spec spec_in all_ends (λ e f g r k. spec_read e f g r) spec_shorter xs g

-- ---- units with titles of their own

vars_read : (p q s : Place) (ns : Names) (t : Place) → GoodUnit (vars_form p q s ns t) → vars_from unbounded p (see q (mark tk.defines) (see s (mark tk.open_tuple) (spell_names ns (see t (mark tk.close_tuple) [])))) ≡ Ok (vars_form p q s ns t, [])
vars_read p q s ns t g = (let w = names_read 1 ns (see t (mark tk.close_tuple) []) g.2 (rw g.3 refl) in rw (g.0, g.1, w, g.3) refl)

process_set_read : (p q : Place) (a : Phrase) → GoodUnit (process_set_form p q a) → process_set_from unbounded p (see q (mark tk.defines) (spell a [])) ≡ Ok (process_set_form p q a, [])
process_set_read p q a g = rw (g.0, phrase_read 1 a g.1 [] refl) refl

init_read : (p q : Place) (es : List (Place × Phrase)) → GoodUnit (init_form p q es) → init_from unbounded p (see q (mark tk.defines) (spell_bullets (sign op.And) spell es [])) ≡ Ok (init_form p q es, [])
init_read p q es g = rw (g.0, phrases_read es g.1) refl

next_read : (p q : Place) (ys : List (Place × WayForm)) → GoodUnit (next_form p q ys) → next_from unbounded p (see q (mark tk.defines) (spell_bullets (sign op.Or) spell_way ys [])) ≡ Ok (next_form p q ys, [])
next_read p q ys g = rw (g.0, ways_read ys g.1) refl

terminating_read : (p q s t : Place) (a : Phrase) (u v w z : Place) → GoodUnit (terminating_form p q s t a u v w z)
    → terminating_from unbounded p (see q (mark tk.defines) (see s (sign op.And) (see t (mark tk.open_bracket) (spell a (see u (mark tk.close_bracket) (see v (sign op.And) (keyword w (codes "UNCHANGED") (word z (codes "vars") []))))))))
    ≡ Ok (terminating_form p q s t a u v w z, [])
terminating_read p q s t a u v w z g =
    let e = s.col in
    let r = see v (sign op.And) (keyword w (codes "UNCHANGED") (word z (codes "vars") [])) in
    let b = phrase_read e a g.3 (see u (mark tk.close_bracket) r) (calm_at e u (mark tk.close_bracket) r g.4 refl) in
    let c = bullet_read 1 op.And e v (keyword w (codes "UNCHANGED") (word z (codes "vars") [])) g.1 g.5 in
    rw (g.0, g.1, g.2, b, g.4, c, keyword_read e (codes "UNCHANGED") w (word z (codes "vars") []) g.6, title_read e (codes "vars") z [] g.7) refl

steps_are : (f : SpecForm) → is_steps f ≡ true → (p q s t u : Place) → (fs : List (Place × FairForm)) → spec_of p q ((s, start_line t) ∷ (u, f) ∷ fair_specs fs) ≡ Some (spec_form p q s t u f fs)
steps_are (steps_line v w x y z) h p q s t u fs = rw (fairs_back fs) refl
steps_are (start_line v) h p q s t u fs = absurd cc
steps_are (fair_line v) h p q s t u fs = absurd cc

spec_unit_read : (p q s t u : Place) (f : SpecForm) (fs : List (Place × FairForm)) → GoodUnit (spec_form p q s t u f fs)
    → spec_from unbounded p (see q (mark tk.defines) (spell_bullets (sign op.And) spell_spec ((s, start_line t) ∷ (u, f) ∷ fair_specs fs) [])) ≡ Ok (spec_form p q s t u f fs, [])
spec_unit_read p q s t u f fs g = rw (g.0, specs_read ((s, start_line t) ∷ (u, f) ∷ fair_specs fs) g.2, steps_are f g.1 p q s t u fs) refl

termination_read : (p q s t u : Place) (a : Phrase) (v : Place) → GoodUnit (termination_form p q s t u a v)
    → termination_from unbounded p (see q (mark tk.defines) (see s (sign op.Less) (see t (sign op.Greater) (see u (mark tk.open_bracket) (spell a (see v (mark tk.close_bracket) [])))))) ≡ Ok (termination_form p q s t u a v, [])
termination_read p q s t u a v g =
    let w = phrase_read 1 a g.4 (see v (mark tk.close_bracket) []) (calm_at 1 v (mark tk.close_bracket) [] g.5 refl) in
    rw (g.0, g.1, g.2, g.3, w, g.5) refl

-- ---- definitions and actions

by_item : (is : ListForm) (r : List Token) → nat_lt 1 (list_column is) ≡ true → body_in unbounded (spell_list is r) ≡ (list_in unbounded 1 >>= λ is. gives (all_form is)) (spell_list is r)
by_item (last_item p i) r g = (let us = spell_item i r in ap (λ (t : Token). body_by unbounded t.place t.kind (see p (sign op.And) us)) (next_is 1 p (sign op.And) us g))
by_item (more_items p i is) r g = (let us = spell_item i (spell_list is r) in ap (λ (t : Token). body_by unbounded t.place t.kind (see p (sign op.And) us)) (next_is 1 p (sign op.And) us g))

by_way : (ys : List (Place × WayForm)) → GoodSome GoodWay ys
    → body_in unbounded (spell_bullets (sign op.Or) spell_way ys []) ≡ (bulleted_in unbounded op.Or way_in >>= λ ys. gives (some_form ys)) (spell_bullets (sign op.Or) spell_way ys [])
by_way [] g = absurd g
by_way (y ∷ ys) g =
    let us = spell_way y.1 (spell_bullets (sign op.Or) spell_way ys []) in
    ap (λ (t : Token). body_by unbounded t.place t.kind (see y.0 (sign op.Or) us)) (next_is 1 y.0 (sign op.Or) us g.0)

body_read : (b : BodyForm) → GoodBody b → body_in unbounded (spell_body b []) ≡ Ok (b, [])
body_read (all_form is) g = by_item is [] g.0 ∙ rw (list_read 1 is g.0 g.1 [] refl) refl
body_read (some_form ys) g = by_way ys g ∙ rw (ways_read ys g) refl

body_begins : (b : BodyForm) → GoodBody b → begins_list (spell_body b []) ≡ true
body_begins (all_form (last_item p i)) g = refl
body_begins (all_form (more_items p i is)) g = refl
body_begins (some_form []) g = absurd g
body_begins (some_form (y ∷ ys)) g = refl

-- behind the title and parameters
defined_read : (p : Place) (x : Word) (f : Option ParameterForm) (q : Place) (r : List Token) → GoodParameters 1 f → Right 1 q
    → defined_from unbounded p x (spell_parameters f (see q (mark tk.defines) r)) ≡ defined_by unbounded p x f q r
defined_read p x f q r g h = rw (parameters_read f q r g h, h) refl

definition_read : (p : Place) (x : Word) (f : Option ParameterForm) (q : Place) (a : Phrase) → GoodUnit (definition_form p x f q a) → defined_by unbounded p x f q (spell a []) ≡ Ok (definition_form p x f q a, [])
definition_read p x f q a g =
    ap (λ (b : Bool). (if b then action_from unbounded p x f q else definition_from unbounded p x f q) (spell a [])) (not-true (begins_list (spell a [])) g.4)
    ∙ rw (phrase_read 1 a g.3 [] refl) refl

action_read : (p : Place) (x : Word) (f : Option ParameterForm) (q : Place) (b : BodyForm) (u : UnitForm) → GoodBody b → action_with p x f q b ≡ Some u
    → defined_by unbounded p x f q (spell_body b []) ≡ Ok (u, [])
action_read p x f q b u g h =
    ap (λ (b2 : Bool). (if b2 then action_from unbounded p x f q else definition_from unbounded p x f q) (spell_body b [])) (body_begins b g)
    ∙ rw (body_read b g, h) refl

-- ---- units

by_title : (p : Place) (x : Word) (ts : List Token) → is_own x ≡ false → unit_by unbounded p (tk.word x) ts ≡ defined_from unbounded p x ts
by_title p x ts n = ap (λ (b : Bool). (if b then own_from unbounded p x else defined_from unbounded p x) ts) n

-- a unit is read of its tokens
pub form_read : (f : UnitForm) → GoodUnit f → form_in (spell_unit f []) ≡ Some f
form_read (constant_form p ns) g = rw (names_read 1 ns [] g refl) refl
form_read (variables_form p ns) g = rw (names_read 1 ns [] g refl) refl
form_read (definition_form p x f q a) g =
    ap whole (by_title p x (spell_parameters f (see q (mark tk.defines) (spell a []))) (not-true (is_own x) g.0) ∙ defined_read p x f q (spell a []) g.1 g.2 ∙ definition_read p x f q a g)
form_read (vars_form p q s ns t) g = ap whole (vars_read p q s ns t g)
form_read (process_set_form p q a) g = ap whole (process_set_read p q a g)
form_read (init_form p q es) g = ap whole (init_read p q es g)
form_read (action_form p x None q b) g =
    ap whole (by_title p x (see q (mark tk.defines) (spell_body b [])) (not-true (is_own x) g.0) ∙ defined_read p x None q (spell_body b []) tt g.2 ∙ action_read p x None q b (action_form p x None q b) g.3 refl)
form_read (action_form p x (Some f) q b) g =
    let d : ParameterForm = record { left = f.0; names = last_name f.1 f.2; right = f.3 } in
    ap whole (by_title p x (spell_parameters (Some d) (see q (mark tk.defines) (spell_body b []))) (not-true (is_own x) g.0) ∙ defined_read p x (Some d) q (spell_body b []) g.1 g.2
    ∙ action_read p x (Some d) q b (action_form p x (Some f) q b) g.3 refl)
form_read (terminating_form p q s t a u v w z) g = ap whole (terminating_read p q s t a u v w z g)
form_read (next_form p q ys) g = ap whole (next_read p q ys g)
form_read (spec_form p q s t u f fs) g = ap whole (spec_unit_read p q s t u f fs g)
form_read (termination_form p q s t u a v) g = ap whole (termination_read p q s t u a v g)

-- ---- the unit itself

pub some_mapped : {A B : Type 0} (f : A → B) (o : Option A) (y : B) → option_map f o ≡ Some y → (x : A) × (o ≡ Some x) × (f x ≡ y)
some_mapped f (Some x) y e = (x, refl, same_Some (f x) y e)
some_mapped f None y e = absurd (none-some y e)

pub unit_ok : (ts : List Token) (u : RegionUnit) → unit_in ts ≡ Some u → IsUnit ts u
unit_ok ts u h =
    let m = some_mapped unit_of (form_in ts) u h in
    let w = form_ok ts m.0 m.1 in
    (m.0, w.0, w.1, m.2)

pub unit_read : (ts : List Token) (u : RegionUnit) → IsUnit ts u → unit_in ts ≡ Some u
unit_read ts u (f, g, s, e) = ap unit_in s ∙ ap (option_map unit_of) (form_read f g) ∙ ap Some e
