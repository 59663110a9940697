-- Reading calls of actions, ways of a step and conjuncts of Spec, as functions of the tokens ("Specifying Systems", section 15.2; formulas of fairness, section 8.9).
use Rattle.std.specs.Prelude.{ℕ, bytes_eq, Bool, true, false, List, [], ◌∷◌, Option, Some, None, codes}
use Rattle.tla_token.specs.declared.place.Place.{Place}
use Rattle.tla_tree.specs.declared.op.Op.TheVariants as op
use Rattle.tla_tree.specs.Tree.{Word}
use Rattle.tla_tree.specs.Lexical.{TokenView}
use Rattle.tla_tree.specs.Lexical as tk
use Rattle.tla_tree.specs.Reader.{Reader, ◌>>=◌, gives, refuses, skip, peek, take, a_mark, a_sign, a_word}
use Rattle.module_tree.specs.Grammar.{CallForm, call_form, call_with_form, WayForm, one_form, some_form}
use Rattle.module_tree.specs.Units.{OverForm, GuardForm, FairForm, SpecForm, start_line, steps_line, fair_line}
use Rattle.region_reading.specs.Bound.{Bound, deeper, a_phrase, opened, opening}
use Rattle.region_reading.specs.NameReader.{a_title}

-- ---- calls

abbrev pub call_from : Bound → ℕ → Place → Word → Place → Reader CallForm
call_from m e p x q = a_phrase m e >>= λ a. a_mark e tk.close_bracket >>= λ s. gives (call_with_form p x q a s)

abbrev pub call_by : Bound → ℕ → Place → Word → Place → TokenView → Reader CallForm
call_by m e p x q (tk.mark tk.open_bracket) = opened m (λ n. skip (call_from n e p x q))
call_by m e p x q k = gives (call_form p x)

abbrev pub call_in : Bound → ℕ → Reader CallForm
call_in m e = a_word e >>= λ x. peek e (call_by m e x.0 x.1)

-- ---- ways

abbrev pub some_way_from : Bound → ℕ → Place → Reader WayForm
some_way_from m e p = a_word e >>= λ x. a_sign e op.In >>= λ s. a_phrase m e >>= λ a. a_mark e tk.colon >>= λ t. call_in m e >>= λ u. gives (some_form p x.0 x.1 s a t u)

abbrev pub way_by : Bound → ℕ → Place → TokenView → Reader WayForm
way_by m e p (tk.key tk.exists_key) = opened m (λ n. skip (some_way_from n e p))
way_by m e p k = call_in m e >>= λ u. gives (one_form u)

abbrev pub way_in : Bound → ℕ → Reader WayForm
way_in m e = peek e (way_by m e)

-- ---- fairness

abbrev pub over_from : Bound → ℕ → Place → Reader (Option OverForm)
over_from m e p = a_word e >>= λ x. a_sign e op.In >>= λ s. a_phrase m e >>= λ a. a_mark e tk.colon >>= λ t. gives (Some (record { all = p; at = x.0; name = x.1; in_at = s; set = a; colon = t }))

abbrev pub over_by : Bound → ℕ → Place → TokenView → Reader (Option OverForm)
over_by m e p (tk.key tk.for_all_key) = opened m (λ n. skip (over_from n e p))
over_by m e p k = gives None

-- behind `\A x \in S :`, if it is there
abbrev pub behind_over : Bound → Option OverForm → Bound
behind_over m (Some f) = deeper m
behind_over m None = m

-- n bounds the test, right of its bracket, and m what is behind the other
abbrev pub guard_from : Bound → Bound → ℕ → Place → Reader (Option GuardForm)
guard_from m n e p = a_phrase n e >>= λ a. a_mark e tk.close_bracket >>= λ q. opening m (a_sign e op.And) >>= λ s. gives (Some (record { left = p; test = a; right = q; and_at = s }))

abbrev pub guard_by : Bound → ℕ → Place → TokenView → Reader (Option GuardForm)
guard_by m e p (tk.mark tk.open_bracket) = opened m (λ n. skip (guard_from m n e p))
guard_by m e p k = gives None

-- behind `(e) /\`, if it is there
abbrev pub behind_guard : Bound → Option GuardForm → Bound
behind_guard m (Some f) = deeper m
behind_guard m None = m

-- whether it is strong fairness
abbrev pub strong_if : Bool → Bool → Place → Option (Place × Bool)
strong_if true b p = Some (p, true)
strong_if false true p = Some (p, false)
strong_if false false p = None

abbrev pub strong_of : Place → TokenView → Option (Place × Bool)
strong_of p (tk.other w) = strong_if (bytes_eq w (codes "SF_vars")) (bytes_eq w (codes "WF_vars")) p
strong_of p k = None

abbrev pub fair_end : Bound → ℕ → Option OverForm → Place × Bool → Place → Option GuardForm → Reader FairForm
fair_end m e o b p g = call_in m e >>= λ u. a_mark e tk.close_bracket >>= λ q. gives (record { over = o; at = b.0; strong = b.1; left = p; guard = g; action = u; right = q })

-- right of the bracket
abbrev pub fair_with : Bound → ℕ → Option OverForm → Place × Bool → Place → Reader FairForm
fair_with m e o b p = peek e (guard_by m e) >>= λ g. fair_end (behind_guard m g) e o b p g

abbrev pub fair_from : Bound → ℕ → Option OverForm → Reader FairForm
fair_from m e o = take e strong_of >>= λ b. opening m (a_mark e tk.open_bracket) >>= λ p. fair_with (deeper m) e o b p

abbrev pub fair_in : Bound → ℕ → Reader FairForm
fair_in m e = peek e (over_by m e) >>= λ o. fair_from (behind_over m o) e o

-- ---- conjuncts of Spec

abbrev pub start_if : Bool → Place → Reader SpecForm
start_if true p = skip (gives (start_line p))
start_if false p = refuses

abbrev pub steps_from : Bound → ℕ → Place → Reader SpecForm
steps_from m e p = opening m (a_mark e tk.open_square) >>= λ q. a_title e (codes "Next") >>= λ s. a_mark e tk.close_square >>= λ t. a_title e (codes "_vars") >>= λ u. gives (steps_line p q s t u)

abbrev pub spec_by : Bound → ℕ → Place → TokenView → Reader SpecForm
spec_by m e p (tk.word x) = start_if (bytes_eq x (codes "Init")) p
spec_by m e p (tk.mark tk.box) = opened m (λ n. skip (steps_from n e p))
spec_by m e p k = fair_in m e >>= λ f. gives (fair_line f)

abbrev pub spec_in : Bound → ℕ → Reader SpecForm
spec_in m e = peek e (spec_by m e)

-- after the first two conjuncts, formulas of fairness alone
abbrev pub one_fair_more : Place → FairForm → Option (List (Place × FairForm)) → Option (List (Place × FairForm))
one_fair_more p f (Some fs) = Some ((p, f) ∷ fs)
one_fair_more p f None = None

abbrev pub fairs_of : List (Place × SpecForm) → Option (List (Place × FairForm))
fairs_of [] = Some []
fairs_of ((p, fair_line f) ∷ xs) = one_fair_more p f (fairs_of xs)
fairs_of (x ∷ xs) = None
