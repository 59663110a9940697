-- Units of a translation: each is the only unit with its tokens.
use Rattle.std.proofs.Common.{eq-eqb, nat_eq, ◌≡◌, ℕ, ◌+◌, Bool, true, false, ◌||◌, List, [], ◌∷◌, length, codes, Option, Some, None, if◌then◌else◌, subst, refl, sym, ap, ◌∙◌}
use Rattle.std.proofs.lemmas.Bool.{both_ways, not-true}
use Rattle.std.specs.Str.{bytes_eq}
use Rattle.tla_token.specs.declared.place.Place.{Place}
use Rattle.tla_token.specs.Signs.{is_among}
use Rattle.tla_token.specs.Words.{own_names, is_own}
use Rattle.tla_tree.specs.declared.op.Op.TheVariants as op
use Rattle.tla_tree.specs.Tree.{Word}
use Rattle.tla_tree.specs.Lexical.{TokenView, Token, token, mark, sign}
use Rattle.tla_tree.specs.Lexical as tk
use Rattle.tla_tree.specs.Spelling.{Phrase, Good, Right, spell, tree_of, word}
use Rattle.tla_tree.proofs.ReadStops.{Calm}
use Rattle.module_tree.specs.Module.{all_of, some_of, RegionUnit, constant_unit, variables_unit, definition_unit, vars_unit, process_set_unit, init_unit, action_unit, terminating_unit, next_unit, spec_unit, termination_unit}
use Rattle.module_tree.specs.Grammar.{see, keyword, Names, last_name, spell_list, list_column, WayForm, spell_bullets, GoodBullets, GoodSome, each}
use Rattle.module_tree.specs.Units.{FairForm, SpecForm, steps_line, start_line, fair_line, fair_specs, GoodSpec, ParameterForm, spell_parameters, parameters, BodyForm, all_form, some_form, spell_body, body_of, GoodBody, spell_parameter, parameter_of, begins_list, UnitForm, constant_form, variables_form, definition_form, vars_form, process_set_form, init_form, action_form, terminating_form, next_form, spec_form, termination_form, spell_unit, unit_of, GoodUnit, IsUnit}
use Rattle.tla_tree.proofs.ReadAll.{one_before}
use Rattle.module_tree.proofs.OneItem.{tail, sort, first_sort, first_word, first_col, apart, one_names, calm_at, bullet_calm, list_first, in_column, one_list}
use Rattle.module_tree.proofs.OneWay.{sorts_apart, some_ways, one_fairs}

-- ---- the first token tells which unit it is

-- where a word is in a list, from its end; 0 if it doesn't
abbrev number_in : List Word → Word → ℕ
number_in [] x = 0
number_in (w ∷ ws) x = if bytes_eq w x then length ws + 1 else number_in ws x

not_among : (ws : List Word) (x : Word) → is_among ws x ≡ false → number_in ws x ≡ 0
not_among [] x h = refl
not_among (w ∷ ws) x h = by (bytes_eq w x) refl h (not_among ws x)
  where
    by : (b : Bool) → bytes_eq w x ≡ b → (b || is_among ws x) ≡ false → (is_among ws x ≡ false → number_in ws x ≡ 0) → number_in (w ∷ ws) x ≡ 0
    by true e h go = absurd (both_ways true h refl)
    by false e h go = rw e (go h)

abbrev title_sort : TokenView → ℕ
title_sort (tk.word x) = number_in own_names x
title_sort (tk.other w) = if bytes_eq w (codes "CONSTANT") then 12 else 13
title_sort k = 14

abbrev first_title : List Token → ℕ
first_title [] = 15
first_title (t ∷ ts) = title_sort t.kind

abbrev unit_sort : UnitForm → ℕ
unit_sort (constant_form p ns) = 12
unit_sort (variables_form p ns) = 13
unit_sort (definition_form p x f q a) = 0
unit_sort (vars_form p q s ns t) = 11
unit_sort (process_set_form p q a) = 2
unit_sort (init_form p q es) = 7
unit_sort (action_form p x f q b) = 0
unit_sort (terminating_form p q s t a u v w z) = 4
unit_sort (next_form p q ys) = 6
unit_sort (spec_form p q s t u f fs) = 5
unit_sort (termination_form p q s t u a v) = 3

title_is : (f : UnitForm) → GoodUnit f → first_title (spell_unit f []) ≡ unit_sort f
title_is (definition_form p x f q a) g = not_among own_names x (not-true (is_own x) g.0)
title_is (action_form p x f q b) g = not_among own_names x (not-true (is_own x) g.0)
title_is f g = refl

units_apart : (f g : UnitForm) → GoodUnit f → GoodUnit g → nat_eq (unit_sort f) (unit_sort g) ≡ false → spell_unit f [] ≡ spell_unit g [] → ⊥
units_apart f g h k n same =
    both_ways (nat_eq (unit_sort f) (unit_sort g)) n (eq-eqb (unit_sort f) (unit_sort g) (sym (title_is f h) ∙ ap first_title same ∙ title_is g k))

-- ---- parameters

pub one_parameters : (f g : Option ParameterForm) (p q : Place) (r s : List Token)
    → spell_parameters f (see p (mark tk.defines) r) ≡ spell_parameters g (see q (mark tk.defines) s)
    → (parameters f ≡ parameters g) × (r ≡ s)
one_parameters None None p q r s same = (refl, ap tail same)
one_parameters None (Some g) p q r s same = absurd (apart _ _ refl same)
one_parameters (Some f) None p q r s same = absurd (apart _ _ refl same)
one_parameters (Some f) (Some g) p q r s same =
    let w = one_names f.names g.names (see f.right (mark tk.close_bracket) (see p (mark tk.defines) r))
    (see g.right (mark tk.close_bracket) (see q (mark tk.defines) s)) refl refl (ap tail same) in
    (w.0, ap (λ (ts : List Token). tail (tail ts)) w.1)

-- the parameter of an action is spelled as those of a definition
abbrev as_parameters : Option (Place × Place × Word × Place) → Option ParameterForm
as_parameters None = None
as_parameters (Some f) = Some (record { left = f.0; names = last_name f.1 f.2; right = f.3 })

parameter_spelled : (f : Option (Place × Place × Word × Place)) (r : List Token) → spell_parameter f r ≡ spell_parameters (as_parameters f) r
parameter_spelled None r = refl
parameter_spelled (Some f) r = refl

parameter_back : (f g : Option (Place × Place × Word × Place)) → parameters (as_parameters f) ≡ parameters (as_parameters g)
    → parameter_of f ≡ parameter_of g
parameter_back None None h = refl
parameter_back None (Some g) h = absurd cc
parameter_back (Some f) None h = absurd cc
parameter_back (Some f) (Some g) h = (let d : f.2 ≡ g.2 = cc in ap Some d)

-- ---- bodies

one_body : (b d : BodyForm) → GoodBody b → GoodBody d → spell_body b [] ≡ spell_body d [] → body_of b ≡ body_of d
one_body (all_form is) (all_form js) g h same =
    ap all_of (one_list 1 (list_column is) is js g.0 g.1 (in_column is js [] [] same h.1) [] [] refl refl same).0
one_body (all_form is) (some_form []) g h same = absurd h
one_body (all_form is) (some_form (z ∷ zs)) g h same = absurd (sorts_apart 3 4 (spell_list is []) _ refl (list_first is []) refl same)
one_body (some_form []) d g h same = absurd g
one_body (some_form (y ∷ ys)) (all_form js) g h same = absurd (sorts_apart 3 4 (spell_list js []) _ refl (list_first js []) refl (sym same))
one_body (some_form (y ∷ ys)) (some_form zs) g h same = ap some_of (some_ways (y ∷ ys) zs g h same)

abbrev is_bullet_sort : ℕ → Bool
is_bullet_sort n = nat_eq n 3 || nat_eq n 4

bullet_first : (b : BodyForm) → GoodBody b → is_bullet_sort (first_sort (spell_body b [])) ≡ true
bullet_first (all_form is) g = rw (list_first is []) refl
bullet_first (some_form []) g = absurd g
bullet_first (some_form (y ∷ ys)) g = refl

begins_bullet : (t : Token) (ts : List Token) (k : TokenView) → t.kind ≡ k → is_bullet_sort (sort k) ≡ true → begins_list (t ∷ ts) ≡ true
begins_bullet t ts (sign op.And) e h = rw e refl
begins_bullet t ts (sign op.Or) e h = rw e refl
begins_bullet t ts (mark tk.comma) e h = absurd (both_ways false refl h)
begins_bullet t ts (tk.key tk.if_key) e h = absurd (both_ways false refl h)
begins_bullet t ts k e h = absurd (both_ways false refl h)

bullet_list : (ts : List Token) → is_bullet_sort (first_sort ts) ≡ true → begins_list ts ≡ true
bullet_list [] h = absurd cc
bullet_list (t ∷ ts) h = begins_bullet t ts t.kind refl h

no_body : (b : BodyForm) (a : Phrase) → GoodBody b → begins_list (spell a []) ≡ false → spell_body b [] ≡ spell a [] → ⊥
no_body b a g n same = both_ways (begins_list (spell a [])) n
    (bullet_list (spell a []) (ap (λ (ts : List Token). is_bullet_sort (first_sort ts)) (sym same) ∙ bullet_first b g))

-- ---- the conjuncts of Init

abbrev conjuncts : List (Place × Phrase) → List Token
conjuncts es = spell_bullets (sign op.And) spell es []

conjuncts_calm : (c : ℕ) (es : List (Place × Phrase)) → GoodBullets Good c es → Calm c (conjuncts es)
conjuncts_calm c [] g = refl
conjuncts_calm c (x ∷ es) g = bullet_calm c (token x.0 (sign op.And)) (spell x.1 (conjuncts es)) g.0

one_conjuncts : (c : ℕ) (es fs : List (Place × Phrase)) → GoodBullets Good c es → GoodBullets Good c fs → conjuncts es ≡ conjuncts fs
    → each tree_of es ≡ each tree_of fs
one_conjuncts c [] [] g h same = refl
one_conjuncts c [] (y ∷ fs) g h same = absurd (apart _ _ refl same)
one_conjuncts c (x ∷ es) [] g h same = absurd (apart _ _ refl same)
one_conjuncts c (x ∷ es) (y ∷ fs) g h same =
    let w = one_before c x.1 y.1 g.1 h.1 (conjuncts es) (conjuncts fs) (conjuncts_calm c es g.2) (conjuncts_calm c fs h.2) (ap tail same) in
    let more = one_conjuncts c es fs g.2 h.2 w.1 in
    λ i. tree_of (w.0 i) ∷ more i

some_conjuncts : (es fs : List (Place × Phrase)) → GoodSome Good es → GoodSome Good fs → conjuncts es ≡ conjuncts fs
    → each tree_of es ≡ each tree_of fs
some_conjuncts [] fs g h same = absurd g
some_conjuncts (x ∷ es) [] g h same = absurd h
some_conjuncts (x ∷ es) (y ∷ fs) g h same =
    let c : y.0.col ≡ x.0.col = ap first_col (sym same) in
    one_conjuncts x.0.col (x ∷ es) (y ∷ fs) g.1 (subst (λ (n : ℕ). GoodBullets Good n (y ∷ fs)) c h.1) same

-- ---- units that begin alike

one_definition : (p : Place) (x : Word) (f : Option ParameterForm) (q : Place) (a : Phrase) (g : UnitForm) → GoodUnit (definition_form p x f q a)
    → GoodUnit g
    → spell_unit (definition_form p x f q a) [] ≡ spell_unit g [] → unit_of (definition_form p x f q a) ≡ unit_of g
one_definition p x f q a (definition_form l y k m b) g h same =
    let d : x ≡ y = ap first_word same in
    let v = one_parameters f k q m (spell a []) (spell b []) (ap tail same) in
    let w = one_before 1 a b g.3 h.3 [] [] refl refl v.1 in
    λ i. definition_unit (record { title = d i; params = v.0 i; body = tree_of (w.0 i); outside = false })
one_definition p x f q a (action_form l y k m b) g h same =
    let v = one_parameters f (as_parameters k) q m (spell a []) (spell_body b [])
    (ap tail same ∙ parameter_spelled k (see m (mark tk.defines) (spell_body b []))) in
    absurd (no_body b a h.3 (not-true (begins_list (spell a [])) g.4) (sym v.1))
one_definition p x f q a u g h same = absurd (units_apart (definition_form p x f q a) u g h refl same)

one_action : (p : Place) (x : Word) (f : Option (Place × Place × Word × Place)) (q : Place) (b : BodyForm) (g : UnitForm)
    → GoodUnit (action_form p x f q b) → GoodUnit g
    → spell_unit (action_form p x f q b) [] ≡ spell_unit g [] → unit_of (action_form p x f q b) ≡ unit_of g
one_action p x f q b (action_form l y k m c) g h same =
    let d : x ≡ y = ap first_word same in
    let v = one_parameters (as_parameters f) (as_parameters k) q m (spell_body b []) (spell_body c [])
    (sym (parameter_spelled f (see q (mark tk.defines) (spell_body b []))) ∙ ap tail same
    ∙ parameter_spelled k (see m (mark tk.defines) (spell_body c []))) in
    let o = parameter_back f k v.0 in
    let w = one_body b c g.3 h.3 v.1 in
    λ i. action_unit (record { title = d i; parameter = o i; body = w i })
one_action p x f q b (definition_form l y k m a) g h same =
    let v = one_parameters (as_parameters f) k q m (spell_body b []) (spell a [])
    (sym (parameter_spelled f (see q (mark tk.defines) (spell_body b []))) ∙ ap tail same) in
    absurd (no_body b a g.3 (not-true (begins_list (spell a [])) h.4) v.1)
one_action p x f q b u g h same = absurd (units_apart (action_form p x f q b) u g h refl same)

-- ---- the other units

one_constant : (p : Place) (ns : Names) (g : UnitForm) → GoodUnit (constant_form p ns) → GoodUnit g
    → spell_unit (constant_form p ns) [] ≡ spell_unit g [] → unit_of (constant_form p ns) ≡ unit_of g
one_constant p ns (constant_form q ms) g h same = ap constant_unit (one_names ns ms [] [] refl refl (ap tail same)).0
one_constant p ns x g h same = absurd (units_apart (constant_form p ns) x g h refl same)

one_variables : (p : Place) (ns : Names) (g : UnitForm) → GoodUnit (variables_form p ns) → GoodUnit g
    → spell_unit (variables_form p ns) [] ≡ spell_unit g [] → unit_of (variables_form p ns) ≡ unit_of g
one_variables p ns (variables_form q ms) g h same = ap variables_unit (one_names ns ms [] [] refl refl (ap tail same)).0
one_variables p ns x g h same = absurd (units_apart (variables_form p ns) x g h refl same)

one_vars : (p q s : Place) (ns : Names) (t : Place) (g : UnitForm) → GoodUnit (vars_form p q s ns t) → GoodUnit g
    → spell_unit (vars_form p q s ns t) [] ≡ spell_unit g [] → unit_of (vars_form p q s ns t) ≡ unit_of g
one_vars p q s ns t (vars_form p2 q2 s2 ms t2) g h same =
    ap vars_unit (one_names ns ms (see t (mark tk.close_tuple) []) (see t2 (mark tk.close_tuple) []) refl refl
    (ap (λ (ts : List Token). tail (tail (tail ts))) same)).0
one_vars p q s ns t x g h same = absurd (units_apart (vars_form p q s ns t) x g h refl same)

one_process_set : (p q : Place) (a : Phrase) (g : UnitForm) → GoodUnit (process_set_form p q a) → GoodUnit g
    → spell_unit (process_set_form p q a) [] ≡ spell_unit g [] → unit_of (process_set_form p q a) ≡ unit_of g
one_process_set p q a (process_set_form l m b) g h same =
    let w = one_before 1 a b g.1 h.1 [] [] refl refl (ap (λ (ts : List Token). tail (tail ts)) same) in
    ap (λ (d : Phrase). process_set_unit (tree_of d)) w.0
one_process_set p q a x g h same = absurd (units_apart (process_set_form p q a) x g h refl same)

one_init : (p q : Place) (es : List (Place × Phrase)) (g : UnitForm) → GoodUnit (init_form p q es) → GoodUnit g
    → spell_unit (init_form p q es) [] ≡ spell_unit g [] → unit_of (init_form p q es) ≡ unit_of g
one_init p q es (init_form s t fs) g h same = ap init_unit (some_conjuncts es fs g.1 h.1 (ap (λ (ts : List Token). tail (tail ts)) same))
one_init p q es x g h same = absurd (units_apart (init_form p q es) x g h refl same)

one_terminating : (p q s t : Place) (a : Phrase) (u v w z : Place) (g : UnitForm) → GoodUnit (terminating_form p q s t a u v w z) → GoodUnit g
    → spell_unit (terminating_form p q s t a u v w z) [] ≡ spell_unit g [] → unit_of (terminating_form p q s t a u v w z) ≡ unit_of g
one_terminating p q s t a u v w z (terminating_form p2 q2 s2 t2 b u2 v2 w2 z2) g h same =
    let c : s2.col ≡ s.col = ap (λ (ts : List Token). first_col (tail (tail ts))) (sym same) in
    let good : Good s.col b = subst (λ (n : ℕ). Good n b) c h.3 in
    let right : Right s.col u2 = subst (λ (n : ℕ). Right n u2) c h.4 in
    let r = see v (sign op.And) (keyword w (codes "UNCHANGED") (word z (codes "vars") [])) in
    let r2 = see v2 (sign op.And) (keyword w2 (codes "UNCHANGED") (word z2 (codes "vars") [])) in
    let k = one_before s.col a b g.3 good (see u (mark tk.close_bracket) r) (see u2 (mark tk.close_bracket) r2)
    (calm_at s.col u (mark tk.close_bracket) r g.4 refl) (calm_at s.col u2 (mark tk.close_bracket) r2 right refl)
    (ap (λ (ts : List Token). tail (tail (tail (tail ts)))) same) in
    ap (λ (d : Phrase). terminating_unit (tree_of d)) k.0
one_terminating p q s t a u v w z x g h same = absurd (units_apart (terminating_form p q s t a u v w z) x g h refl same)

one_next : (p q : Place) (ys : List (Place × WayForm)) (g : UnitForm) → GoodUnit (next_form p q ys) → GoodUnit g
    → spell_unit (next_form p q ys) [] ≡ spell_unit g [] → unit_of (next_form p q ys) ≡ unit_of g
one_next p q ys (next_form s t zs) g h same = ap next_unit (some_ways ys zs g.1 h.1 (ap (λ (ts : List Token). tail (tail ts)) same))
one_next p q ys x g h same = absurd (units_apart (next_form p q ys) x g h refl same)

-- the tokens from the bullet of `Init` on
abbrev from_start : List Token → List Token
from_start ts = tail (tail ts)

-- the tokens after `[][Next]_vars`
abbrev after_steps : List Token → List Token
after_steps ts = tail (tail (tail (tail (tail (tail (tail (tail (tail (tail ts)))))))))

one_spec : (p q s t u : Place) (k : SpecForm) (fs : List (Place × FairForm)) (g : UnitForm) → GoodUnit (spec_form p q s t u k fs) → GoodUnit g
    → spell_unit (spec_form p q s t u k fs) [] ≡ spell_unit g [] → unit_of (spec_form p q s t u k fs) ≡ unit_of g
one_spec p q s t u (steps_line a b c d e) fs (spec_form p2 q2 s2 t2 u2 (steps_line a2 b2 c2 d2 e2) gs) g h same =
    let c : s2.col ≡ s.col = ap (λ (ts : List Token). first_col (from_start ts)) (sym same) in
    let good : GoodBullets GoodSpec s.col (fair_specs gs) = subst (λ (n : ℕ). GoodBullets GoodSpec n (fair_specs gs)) c h.2.1.2.2 in
    ap spec_unit (one_fairs s.col fs gs g.2.1.2.2 good (ap after_steps same))
one_spec p q s t u (steps_line a b c d e) fs (spec_form p2 q2 s2 t2 u2 (start_line a2) gs) g h same = absurd (both_ways false refl h.1)
one_spec p q s t u (steps_line a b c d e) fs (spec_form p2 q2 s2 t2 u2 (fair_line a2) gs) g h same = absurd (both_ways false refl h.1)
one_spec p q s t u (start_line a) fs x g h same = absurd (both_ways false refl g.1)
one_spec p q s t u (fair_line a) fs x g h same = absurd (both_ways false refl g.1)
one_spec p q s t u k fs x g h same = absurd (units_apart (spec_form p q s t u k fs) x g h refl same)

one_termination : (p q s t u : Place) (a : Phrase) (v : Place) (g : UnitForm) → GoodUnit (termination_form p q s t u a v) → GoodUnit g
    → spell_unit (termination_form p q s t u a v) [] ≡ spell_unit g [] → unit_of (termination_form p q s t u a v) ≡ unit_of g
one_termination p q s t u a v (termination_form p2 q2 s2 t2 u2 b v2) g h same =
    let k = one_before 1 a b g.4 h.4 (see v (mark tk.close_bracket) []) (see v2 (mark tk.close_bracket) [])
    (calm_at 1 v (mark tk.close_bracket) [] g.5 refl) (calm_at 1 v2 (mark tk.close_bracket) [] h.5 refl)
    (ap (λ (ts : List Token). tail (tail (tail (tail (tail ts))))) same) in
    ap (λ (d : Phrase). termination_unit (tree_of d)) k.0
one_termination p q s t u a v x g h same = absurd (units_apart (termination_form p q s t u a v) x g h refl same)

-- ---- all units

one_form_alone : (f g : UnitForm) → GoodUnit f → GoodUnit g → spell_unit f [] ≡ spell_unit g [] → unit_of f ≡ unit_of g
one_form_alone (constant_form p ns) f g h same = one_constant p ns f g h same
one_form_alone (variables_form p ns) f g h same = one_variables p ns f g h same
one_form_alone (definition_form p x k q a) f g h same = one_definition p x k q a f g h same
one_form_alone (vars_form p q s ns t) f g h same = one_vars p q s ns t f g h same
one_form_alone (process_set_form p q a) f g h same = one_process_set p q a f g h same
one_form_alone (init_form p q es) f g h same = one_init p q es f g h same
one_form_alone (action_form p x k q b) f g h same = one_action p x k q b f g h same
one_form_alone (terminating_form p q s t a u v w z) f g h same = one_terminating p q s t a u v w z f g h same
one_form_alone (next_form p q ys) f g h same = one_next p q ys f g h same
one_form_alone (spec_form p q s t u k fs) f g h same = one_spec p q s t u k fs f g h same
one_form_alone (termination_form p q s t u a v) f g h same = one_termination p q s t u a v f g h same

pub one_unit : (ts : List Token) (u v : RegionUnit) → IsUnit ts u → IsUnit ts v → u ≡ v
one_unit ts u v (f, gf, tf, ef) (g, gg, tg, eg) = sym ef ∙ one_form_alone f g gf gg (sym tf ∙ tg) ∙ eg
