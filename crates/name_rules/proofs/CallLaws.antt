-- What calls offend, by what is kept of macros and procedures.
use Rattle.std.proofs.Common.{◌≡◌, ℕ, zero, suc, ◌+◌, ◌-◌, ◌<◌, ◌≤◌, Bool, true, false, ◌&&◌, nat_lt, List, [], ◌∷◌, ◌++◌, length, drop, get_or, slice_index_or, cond, bytes_eq, Option, Some, None, refl, sym, ap, ◌∙◌, subst, arith, lt-ltb, true≢false}
use Rattle.std.specs.Prelude.{◌==◌}
use Rattle.std.specs.List.{flat_map}
use Rattle.std.specs.Map.{lookup}
use Rattle.std.specs.Cmp.Lexicographic.{pointwise}
use Rattle.std.proofs.lemmas.Bool.{and_parts}
use Rattle.std.proofs.lemmas.List.{drop_more, drop_all}
use Rattle.tla_token.specs.declared.place.Place.{Place}
use Rattle.tla_token.specs.declared.rule.Refusal.{Refusal}
use Rattle.tla_tree.specs.Tree.{Word, Form, strict, apply, select, Tree, node, Trees, root_place}
use Rattle.tla_tree.specs.Pool.{Entry, at, trees_at, tree_in}
use Rattle.pcal_tree.specs.Algorithm.{Name, Procedure}
use Rattle.pcal_tree.specs.Offences.{first}
use Rattle.pcal_tree.specs.Paths.{root_form, root}
use Rattle.pcal_tree.specs.NameUses.{Use, takes, variable, argument, standard, unread, Sight, use_of, applied_offences, left_offences, handed_use}
use Rattle.pcal_tree.specs.OffencesNames.{Calls, call_offences, parameter_use, seeing_parameters}
use Rattle.pcal_tree.specs.laws.MacroUses.{offences_as, applied, assigned, handed}
use Rattle.algorithm_limits.specs.Numbers.{number_of}
use Rattle.tla_pool.specs.declared.form.Form as form
use Rattle.tla_pool.specs.declared.form.Form.TheVariants as forms
use Rattle.tla_pool.specs.declared.form.Strict.TheVariants as stricts
use Rattle.tla_pool.specs.FormOf.{form_of}
use Rattle.declared_rules.specs.declared.using.Kind.{Kind}
use Rattle.declared_rules.specs.declared.using.Kind.TheVariants as kind
use Rattle.name_rules.specs.declared.found.Found.{Found}
use Rattle.declared_rules.specs.declared.using.NameUse.{NameUse}
use Rattle.name_rules.specs.declared.macros.MacroUses.{MacroUses}
use Rattle.name_rules.specs.declared.macros.Callees.{Callees}
use Rattle.declared_rules.specs.UsesTold.{use_as, place_in, looked}
use Rattle.name_rules.specs.Finding.{Tells}
use Rattle.name_rules.specs.Calling.{is_subscripted, handed_from, use_through, use_through_first, later, parameter_number, kept_list, wrong_number, called_offences, kept_offences, procedure_offences, Means}
use Rattle.name_rules.proofs.TellLaws.{tells_none, tells_as, tells_first, tells_then}
use Rattle.name_rules.proofs.TreeLaws.{counted}

-- ---- what an argument begins with

subscripted_form : (m : Form) (o : Option Word) → is_subscripted m ≡ true → root_form m o ≡ o
subscripted_form (strict apply) o e = refl
subscripted_form (strict (select a)) o e = refl
subscripted_form m o e = cc

plain_form : (m : Form) (o : Option Word) → is_subscripted m ≡ false → root_form m o ≡ root_form m None
plain_form (strict apply) o e = absurd (true≢false e)
plain_form (strict (select a)) o e = absurd (true≢false e)
plain_form m o e = refl

pub deeper_root : (n : Entry) (ts : List Tree) (e : ℕ) → at ts e ≡ tree_in ts n → (is_subscripted n.form && nat_lt 0 (length n.parts)) ≡ true → root (at ts (slice_index_or n.parts 0 0)) ≡ root (at ts e)
deeper_root n ts e is h = some n.parts h ∙ ap root (sym is)
  where
    some : (ids : List ℕ) → (is_subscripted n.form && nat_lt 0 (length ids)) ≡ true → root (at ts (slice_index_or ids 0 0)) ≡ root (node n.form n.place (trees_at ts ids))
    some [] h = absurd (true≢false (sym (and_parts (is_subscripted n.form) (nat_lt 0 0) h).1))
    some (i ∷ ids) h = sym (subscripted_form n.form (root (at ts i)) (and_parts (is_subscripted n.form) (nat_lt 0 (length (i ∷ ids))) h).0)

pub flat_root : (n : Entry) (ts : List Tree) (e : ℕ) → at ts e ≡ tree_in ts n → (is_subscripted n.form && nat_lt 0 (length n.parts)) ≡ false → root_form n.form None ≡ root (at ts e)
flat_root n ts e is h = some n.parts h ∙ ap root (sym is)
  where
    by : (a b : Bool) → b ≡ true → (a && b) ≡ false → a ≡ false
    by true b e h = absurd (true≢false (sym e ∙ h))
    by false b e h = refl

    some : (ids : List ℕ) → (is_subscripted n.form && nat_lt 0 (length ids)) ≡ false → root_form n.form None ≡ root (node n.form n.place (trees_at ts ids))
    some [] h = refl
    some (i ∷ ids) h = sym (plain_form n.form (root (at ts i)) (by (is_subscripted n.form) (nat_lt 0 (length (i ∷ ids))) (lt-ltb 0 (length (i ∷ ids)) (omega arith)) h))

-- ---- a macro's parameter, whatever stands for it

no_arguments : (o : Option Use) (at : Place) (n : ℕ) (b : Bool) (by : Place) → applied_offences (Some (handed_use o at)) n b by ≡ applied_offences (Some variable) n b by
no_arguments None at n b by = refl
no_arguments (Some (takes k)) at n b by = refl
no_arguments (Some variable) at n b by = refl
no_arguments (Some (argument p)) at n b by = refl
no_arguments (Some (standard d e)) at n b by = refl
no_arguments (Some unread) at n b by = refl

any_left : (o : Option Use) (at by : Place) → left_offences (Some (handed_use o at)) by ≡ left_offences (Some (handed_use o at)) at
any_left None at by = refl
any_left (Some (takes k)) at by = refl
any_left (Some variable) at by = refl
any_left (Some (argument p)) at by = refl
any_left (Some (standard d e)) at by = refl
any_left (Some unread) at by = refl

handed_again : (o : Option Use) (at by : Place) → left_offences (Some (handed_use (Some (handed_use o at)) by)) by ≡ left_offences (Some (handed_use o at)) at
handed_again None at by = refl
handed_again (Some (takes k)) at by = refl
handed_again (Some variable) at by = refl
handed_again (Some (argument p)) at by = refl
handed_again (Some (standard d e)) at by = refl
handed_again (Some unread) at by = refl

pub argument_applied : (o : Option Word) (p : Place) (r : Sight) (x : Word) (n : ℕ) (b : Bool) (by : Place) → offences_as (Some variable) (applied x n b by) ≡ offences_as (Some (parameter_use o p r)) (applied x n b by)
argument_applied None p r x n b by = refl
argument_applied (Some y) p r x n b by = sym (no_arguments (use_of r y) p n b by)

pub argument_assigned : (o : Option Word) (p : Place) (r : Sight) (x : Word) (by : Place) → handed_from o p r ≡ offences_as (Some (parameter_use o p r)) (assigned x by)
argument_assigned None p r x by = refl
argument_assigned (Some y) p r x by = sym (any_left (use_of r y) p by)

pub argument_handed : (o : Option Word) (p : Place) (r : Sight) (x : Word) (by : Place) → handed_from o p r ≡ offences_as (Some (parameter_use o p r)) (handed x by)
argument_handed None p r x by = refl
argument_handed (Some y) p r x by = sym (handed_again (use_of r y) p by)

-- ---- which parameter it is

abbrev pub shifted : ℕ → Option ℕ → Option ℕ
shifted i None = None
shifted i (Some k) = Some (i + k)

pub shift_none : (o : Option ℕ) → shifted 0 o ≡ o
shift_none None = refl
shift_none (Some k) = ap (λ (n : ℕ). Some n) (omega arith)

shift_later : (i : ℕ) (o : Option ℕ) → shifted (i + 1) o ≡ shifted i (later o)
shift_later i None = refl
shift_later i (Some k) = ap (λ (n : ℕ). Some n) (omega arith)

at_front : (ps : List Name) (i : ℕ) (p : Name) (x : Word) → p ≡ get_or ps i p → i < length ps → parameter_number (drop i ps) x ≡ cond (bytes_eq p.word x) (Some 0) (later (parameter_number (drop (i + 1) ps) x))
at_front ps i p x is l = ap (λ (qs : List Name). parameter_number qs x) (drop_more ps i p l ∙ ap (λ (z : Name). z ∷ drop (i + 1) ps) (sym is))

pub number_here : (ps : List Name) (i : ℕ) (p : Name) (x : Word) → p ≡ get_or ps i p → i < length ps → bytes_eq p.word x ≡ true → Some i ≡ shifted i (parameter_number (drop i ps) x)
number_here ps i p x is l e =
    ap (λ (n : ℕ). Some n) (plain i) ∙ sym (ap (shifted i) (at_front ps i p x is l ∙ ap (λ (b : Bool). cond b (Some 0) (later (parameter_number (drop (i + 1) ps) x))) e))
  where
    plain : (i : ℕ) → i ≡ i + 0
    plain i = omega arith

pub number_further : (ps : List Name) (i : ℕ) (p : Name) (x : Word) → p ≡ get_or ps i p → i < length ps → bytes_eq p.word x ≡ false
    → shifted (i + 1) (parameter_number (drop (i + 1) ps) x) ≡ shifted i (parameter_number (drop i ps) x)
number_further ps i p x is l e =
    shift_later i (parameter_number (drop (i + 1) ps) x) ∙ sym (ap (shifted i) (at_front ps i p x is l ∙ ap (λ (b : Bool). cond b (Some 0) (later (parameter_number (drop (i + 1) ps) x))) e))

pub number_none : (ps : List Name) (i : ℕ) (x : Word) → length ps ≤ i → None ≡ shifted i (parameter_number (drop i ps) x)
number_none ps i x l = sym (ap (λ (qs : List Name). shifted i (parameter_number qs x)) (drop_all i ps l))

abbrev pub seen_through : List Tree → List ℕ → Sight → Sight → Word → Option ℕ → Option Use
seen_through ts ids s r x None = use_of r x
seen_through ts ids s r x (Some k) = Some (use_through_first ts (drop k ids) s)

pub parameters_seen : (ts : List Tree) (ids : List ℕ) (ps : List Name) (s r : Sight) (x : Word) → use_of (seeing_parameters ps (trees_at ts ids) s r) x ≡ seen_through ts ids s r x (parameter_number ps x)
parameters_seen ts ids [] s r x = refl
parameters_seen ts [] (p ∷ ps) s r x = by (bytes_eq p.word x) (parameters_seen ts [] ps s r x)
  where
    over : (k : ℕ) → drop {A = ℕ} k [] ≡ []
    over zero = refl
    over (suc k) = refl

    next : (o : Option ℕ) → seen_through ts [] s r x o ≡ seen_through ts [] s r x (later o)
    next None = refl
    next (Some k) = ap (λ (es : List ℕ). Some (use_through_first ts es s)) (over k)

    by : (b : Bool) → use_of (seeing_parameters ps (trees_at ts []) s r) x ≡ seen_through ts [] s r x (parameter_number ps x)
        → cond b (Some variable) (use_of (seeing_parameters ps (trees_at ts []) s r) x) ≡ seen_through ts [] s r x (cond b (Some 0) (later (parameter_number ps x)))
    by true h = refl
    by false h = h ∙ next (parameter_number ps x)
parameters_seen ts (e ∷ es) (p ∷ ps) s r x = by (bytes_eq p.word x) (parameters_seen ts es ps s r x)
  where
    next : (o : Option ℕ) → seen_through ts es s r x o ≡ seen_through ts (e ∷ es) s r x (later o)
    next None = refl
    next (Some k) = refl

    by : (b : Bool) → use_of (seeing_parameters ps (trees_at ts es) s r) x ≡ seen_through ts es s r x (parameter_number ps x)
        → cond b (Some (use_through (at ts e) s)) (use_of (seeing_parameters ps (trees_at ts es) s r) x) ≡ seen_through ts (e ∷ es) s r x (cond b (Some 0) (later (parameter_number ps x)))
    by true h = refl
    by false h = h ∙ next (parameter_number ps x)

-- so a use is looked at as that parameter, or where the call is
pub called_as : (j k : Found) (ts : List Tree) (ids : List ℕ) (ps : List Name) (v : NameUse) (o : Option ℕ) → o ≡ parameter_number ps v.name
    → Tells j k (λ r. offences_as (seen_through ts ids r r v.name o) (use_as v.kind v.name (place_in v))) → Tells j k (λ r. looked (seeing_parameters ps (trees_at ts ids) r r) v)
called_as j k ts ids ps v o e a =
    tells_as j k _ _ (λ r. ap (λ (u : Option Use). offences_as u (use_as v.kind v.name (place_in v))) (ap (seen_through ts ids r r v.name) e ∙ sym (parameters_seen ts ids ps r r v.name))) a

-- what is left still gives the whole
abbrev pub all_called : List Tree → List ℕ → List Name → List NameUse → Sight → List Refusal
all_called ts ids ps vs r = flat_map (looked (seeing_parameters ps (trees_at ts ids) r r)) vs

pub called_then : (ts : List Tree) (ids : List ℕ) (ps : List Name) (j k l : Found) (vs : List NameUse) (i : ℕ) (v : NameUse) → v ≡ get_or vs i v → i < length vs
    → Tells j k (λ r. looked (seeing_parameters ps (trees_at ts ids) r r) v) → Tells k l (all_called ts ids ps (drop (i + 1) vs)) → Tells j l (all_called ts ids ps (drop i vs))
called_then ts ids ps j k l vs i v is less a h =
    tells_as j l _ _ (λ r. ap (λ (us : List NameUse). all_called ts ids ps us r) (ap (λ (z : NameUse). z ∷ drop (i + 1) vs) is ∙ sym (drop_more vs i v less)))
    (tells_then j k l (λ r. looked (seeing_parameters ps (trees_at ts ids) r r) v) (all_called ts ids ps (drop (i + 1) vs)) a h)

pub called_done : (ts : List Tree) (ids : List ℕ) (ps : List Name) (k : Found) (vs : List NameUse) (i : ℕ) → length vs ≤ i → Tells k k (all_called ts ids ps (drop i vs))
called_done ts ids ps k vs i less = tells_as k k _ _ (λ r. ap (λ (us : List NameUse). all_called ts ids ps us r) (sym (drop_all i vs less))) (tells_none k)

-- ---- calls

pub first_kept : (o : Option Refusal) → o ≡ first (kept_list o)
first_kept None = refl
first_kept (Some r) = refl

pub kept_called : (ts : List Tree) (ids : List ℕ) (u : MacroUses) (p : Place) (i j k l : Found) → Tells i j (λ r. wrong_number (length u.params.items) (length ids) p) → Tells j k (λ r. kept_list u.found.first)
    → Tells k l (all_called ts ids u.params.items u.found.free.keys) → Tells i l (called_offences u p (trees_at ts ids))
kept_called ts ids u p i j k l a b c =
    tells_as i l _ _ (λ r. ap (λ (n : ℕ). wrong_number (length u.params.items) n p ++ (kept_list u.found.first ++ all_called ts ids u.params.items u.found.free.keys r)) (sym (counted ts ids)))
    (tells_then i j l (λ r. wrong_number (length u.params.items) (length ids) p) (λ r. kept_list u.found.first ++ all_called ts ids u.params.items u.found.free.keys r) a
    (tells_then j k l (λ r. kept_list u.found.first) (all_called ts ids u.params.items u.found.free.keys) b c))

pub macro_called : (k : Callees) (C : Calls) (ps : List Procedure) (i j : Found) (o : Option MacroUses) (p : Place) (m : Word) (ts : Trees) → Means k C ps → o ≡ lookup (pointwise ◌==◌ m) k.macros.entries
    → Tells i j (kept_offences o p ts) → Tells i j (λ r. C r p m ts)
macro_called k C ps i j o p m ts h e a =
    tells_first i j _ _ (λ r. ap (λ (u : Option MacroUses). first (kept_offences u p ts r)) e ∙ sym (h.macros m p ts r)) a

pub procedure_called : (k : Callees) (C : Calls) (ps : List Procedure) (i j : Found) (past : ℕ) (p : Place) (x : Name) (n : ℕ) → Means k C ps → past ≡ number_of k.procedures x.word
    → Tells i j (λ r. procedure_offences past p x n) → Tells i j (λ r. call_offences ps p x n)
procedure_called k C ps i j past p x n h e a =
    tells_as i j _ _ (λ r. ap (λ (z : ℕ). procedure_offences z p x n) e ∙ sym (h.procedures x p n)) a

pub procedure_some : (past : ℕ) (p : Place) (x : Name) (n : ℕ) → (past ≡ 0 → ⊥) → wrong_number (past - 1) n x.place ≡ procedure_offences past p x n
procedure_some zero p x n h = absurd (h refl)
procedure_some (suc k) p x n h = ap (λ (z : ℕ). wrong_number z n x.place) (omega arith)

-- ---- by the kinds of uses in memory

pub no_root : (f : form.Form) → ((x : Word) → f ≡ forms.Name x → ⊥) → None ≡ root_form (form_of f) None
no_root (forms.Name x) h = absurd (h x refl)
no_root (forms.Strict stricts.Apply) h = refl
no_root (forms.Strict (stricts.Select a)) h = refl
no_root f h = refl

pub applied_through : (k : Kind) (n : ℕ) (b : Bool) (t : Tree) (r : Sight) (x : Word) (p : Place) → k ≡ kind.Applied n b → offences_as (Some variable) (use_as k x p) ≡ offences_as (Some (use_through t r)) (use_as k x p)
applied_through k n b t r x p e =
    subst (λ (z : Kind). offences_as (Some variable) (use_as z x p) ≡ offences_as (Some (use_through t r)) (use_as z x p)) (sym e) (argument_applied (root t) (root_place t) r x n b p)

pub assigned_through : (k : Kind) (t : Tree) (r : Sight) (x : Word) (p : Place) → k ≡ kind.Assigned → handed_from (root t) (root_place t) r ≡ offences_as (Some (use_through t r)) (use_as k x p)
assigned_through k t r x p e =
    subst (λ (z : Kind). handed_from (root t) (root_place t) r ≡ offences_as (Some (use_through t r)) (use_as z x p)) (sym e) (argument_assigned (root t) (root_place t) r x p)

pub handed_through : (k : Kind) (t : Tree) (r : Sight) (x : Word) (p : Place) → k ≡ kind.Handed → handed_from (root t) (root_place t) r ≡ offences_as (Some (use_through t r)) (use_as k x p)
handed_through k t r x p e =
    subst (λ (z : Kind). handed_from (root t) (root_place t) r ≡ offences_as (Some (use_through t r)) (use_as z x p)) (sym e) (argument_handed (root t) (root_place t) r x p)

pub through_first : (ts : List Tree) (es : List ℕ) (i e : ℕ) (r : Sight) → e ≡ get_or es i e → i < length es → use_through (at ts e) r ≡ use_through_first ts (drop i es) r
through_first ts es i e r is l = sym (ap (λ (ids : List ℕ). use_through_first ts ids r) (drop_more es i e l ∙ ap (λ (z : ℕ). z ∷ drop (i + 1) es) (sym is)))

pub through_none : (ts : List Tree) (es : List ℕ) (i : ℕ) (r : Sight) → length es ≤ i → variable ≡ use_through_first ts (drop i es) r
through_none ts es i r l = sym (ap (λ (ids : List ℕ). use_through_first ts ids r) (drop_all i es l))
