-- What is gathered at each choice of members.
use Rattle.std.proofs.Common.{◌≡◌, Bool, true, false, cond, List, [], ◌∷◌, ◌++◌, map, refl, sym, ap, ◌∙◌, append_assoc, Ok, Err}
use Rattle.std.specs.Prelude.{◌&&◌, ◌||◌}
use Rattle.std.proofs.lemmas.List.{append-nil}
use Rattle.tla_token.specs.declared.place.Place.{Place}
use Rattle.tla_tree.specs.declared.op.Binder.{Binder}
use Rattle.tla_tree.specs.declared.op.Binder.TheVariants.{ForAll, Exists, Filter, Image, Function}
use Rattle.tla_tree.specs.Tree.{Word, Name}
use Rattle.tla_value.specs.Value.{Value, Values, no_values, and, values_in, Outcome, ◌>>=◌}
use Rattle.tla_value.specs.Order.{listed}
use Rattle.tla_value.specs.Meaning.{Env, Row, Denotation, bind, suited, with_first, at_members, at_group, at_choices, at_body, key, is_true, all_true, some_true, where_true, results, table, gathered}
use Rattle.eval_scopes.specs.Choices.{Over, Spot, stepped, unbound}
use Rattle.eval_visits.specs.Visits.{over, over_group, Body, rows_over, rows_at, body_at, paired, whole, visited, at_left}
use Rattle.eval_visits.specs.Gathered.{Gathered, all_of, some_of, kept, picked, tabled, start, rows_true, bound_members, added, row_added, row_answered}

-- ---- further rows

and_assoc : (a b c : Bool) → ((a && b) && c) ≡ (a && (b && c))
and_assoc true b c = refl
and_assoc false b c = refl

or_assoc : (a b c : Bool) → ((a || b) || c) ≡ (a || (b || c))
or_assoc true b c = refl
or_assoc false b c = refl

and_true : (a : Bool) → (a && true) ≡ a
and_true true = refl
and_true false = refl

or_false : (a : Bool) → (a || false) ≡ a
or_false true = refl
or_false false = refl

all_append : (rs qs : List Row) → all_true (rs ++ qs) ≡ (all_true rs && all_true qs)
all_append [] qs = refl
all_append (r ∷ rs) qs = ap (λ b. is_true r.1 && b) (all_append rs qs) ∙ sym (and_assoc (is_true r.1) (all_true rs) (all_true qs))

some_append : (rs qs : List Row) → some_true (rs ++ qs) ≡ (some_true rs || some_true qs)
some_append [] qs = refl
some_append (r ∷ rs) qs = ap (λ b. is_true r.1 || b) (some_append rs qs) ∙ sym (or_assoc (is_true r.1) (some_true rs) (some_true qs))

results_append : (rs qs : List Row) → results (rs ++ qs) ≡ results rs ++ results qs
results_append [] qs = refl
results_append (r ∷ rs) qs = ap (λ l. r.1 ∷ l) (results_append rs qs)

members_append : (rs qs : List Row) → bound_members (rs ++ qs) ≡ bound_members rs ++ bound_members qs
members_append [] qs = refl
members_append (r ∷ rs) qs = ap (λ l. r.0 ∷ l) (members_append rs qs)

true_first : (b : Bool) (k : List Value) (ks ls : List (List Value)) → cond b (k ∷ (ks ++ ls)) (ks ++ ls) ≡ cond b (k ∷ ks) ks ++ ls
true_first true k ks ls = refl
true_first false k ks ls = refl

true_append : (rs qs : List Row) → rows_true (rs ++ qs) ≡ rows_true rs ++ rows_true qs
true_append [] qs = refl
true_append (r ∷ rs) qs = ap (λ l. cond (is_true r.1) (r.0 ∷ l) l) (true_append rs qs) ∙ true_first (is_true r.1) r.0 (rows_true rs) (rows_true qs)

-- the first rows, and then the others
pub added_more : (g : Gathered) (rs qs : List Row) → added g (rs ++ qs) ≡ added (added g rs) qs
added_more (all_of a) rs qs = ap (λ x. all_of (a && x)) (all_append rs qs) ∙ ap all_of (sym (and_assoc a (all_true rs) (all_true qs)))
added_more (some_of a) rs qs = ap (λ x. some_of (a || x)) (some_append rs qs) ∙ ap some_of (sym (or_assoc a (some_true rs) (some_true qs)))
added_more (kept ks) rs qs = ap (λ l. kept (ks ++ l)) (true_append rs qs) ∙ ap kept (sym (append_assoc ks (rows_true rs) (rows_true qs)))
added_more (picked vs) rs qs = ap (λ l. picked (vs ++ l)) (results_append rs qs) ∙ ap picked (sym (append_assoc vs (results rs) (results qs)))
added_more (tabled ks vs) rs qs =
    (λ i. tabled (ks ++ members_append rs qs i) (vs ++ results_append rs qs i))
    ∙ (λ i. tabled (sym (append_assoc ks (bound_members rs) (bound_members qs)) i) (sym (append_assoc vs (results rs) (results qs)) i))

pub added_none : (g : Gathered) → added g [] ≡ g
added_none (all_of a) = ap all_of (and_true a)
added_none (some_of a) = ap some_of (or_false a)
added_none (kept ks) = ap kept (append-nil ks)
added_none (picked vs) = ap picked (append-nil vs)
added_none (tabled ks vs) = λ i. tabled (append-nil ks i) (append-nil vs i)

-- ---- the members of one name

abbrev two_rows : Outcome (List Row) → Outcome (List Row) → Outcome (List Row)
two_rows o p = o >>= λ rows. p >>= λ more. Ok (rows ++ more)

abbrev gather : Gathered → Outcome (List Row) → Outcome Gathered
gather g o = o >>= λ rows. Ok (added g rows)

-- the first member, and then the others
both : (g : Gathered) (o p : Outcome (List Row)) → gather g (two_rows o p) ≡ (gather g o >>= λ h. gather h p)
both g (Err k) p = refl
both g (Ok rows) (Err k) = refl
both g (Ok rows) (Ok qs) = ap Ok (added_more g rows qs)

pub split : (g : Gathered) (x : Word) (v : Value) (vs : List Value) (go : Body) (s : Spot) → at_left g x (v ∷ vs) go s ≡ (gather g (go (stepped x v s)) >>= λ h. at_left h x vs go s)
split g x v vs go s = both g (go (stepped x v s)) (rows_over x vs go s)

-- ---- rows with the members that came before, and rows to which they are added

abbrev behind_members : List Value → Row → Row
behind_members pre r = (pre ++ r.0, r.1)

abbrev moved : List Value → Outcome (List Row) → Outcome (List Row)
moved pre o = o >>= λ rs. Ok (map (behind_members pre) rs)

abbrev Agree : Body → (Env → Outcome (List Row)) → Type 0
Agree go gm = (env : Env) (pre : List Value) → go (env, pre) ≡ moved pre (gm env)

abbrev row : List Value → Value → Row
row k v = (k, v)

firsts_moved : (pre : List Value) (v : Value) (rs : List Row) → map (behind_members (pre ++ v ∷ [])) rs ≡ map (behind_members pre) (map (with_first v) rs)
firsts_moved pre v [] = refl
firsts_moved pre v (r ∷ rs) = λ i. row (append_assoc pre (v ∷ []) r.0 i) r.1 ∷ firsts_moved pre v rs i

map_append : (f : Row → Row) (rs qs : List Row) → map f (rs ++ qs) ≡ map f rs ++ map f qs
map_append f [] qs = refl
map_append f (r ∷ rs) qs = ap (λ l. f r ∷ l) (map_append f rs qs)

rows_moved : (pre : List Value) (v : Value) (o p : Outcome (List Row))
    → two_rows (moved (pre ++ v ∷ []) o) (moved pre p) ≡ moved pre (o >>= λ rows. p >>= λ more. Ok (map (with_first v) rows ++ more))
rows_moved pre v (Err k) p = refl
rows_moved pre v (Ok rs) (Err k) = refl
rows_moved pre v (Ok rs) (Ok qs) =
    ap Ok (ap (λ l. l ++ map (behind_members pre) qs) (firsts_moved pre v rs) ∙ sym (map_append (behind_members pre) (map (with_first v) rs) qs))

members_agree : (x : Word) (vs : Values) (go : Body) (gm : Env → Outcome (List Row)) → Agree go gm → Agree (rows_over x (listed vs) go) (at_members x vs gm)
members_agree x no_values go gm h env pre = refl
members_agree x (and v vs) go gm h env pre =
    (λ i. two_rows (h (bind x v env) (pre ++ v ∷ []) i) (members_agree x vs go gm h env pre i)) ∙ rows_moved pre v (gm (bind x v env)) (at_members x vs gm env)

group_agrees : (xs : List Name) (s : Values) (more : Over) (go : Body) (gm : Env → Outcome (List Row)) → Agree (rows_at more go) gm → Agree (rows_at (over_group xs s ++ more) go) (at_group xs s gm)
group_agrees [] s more go gm h env pre = h env pre
group_agrees (x ∷ xs) s more go gm h env pre =
    members_agree x.word s (rows_at (over_group xs s ++ more) go) (at_group xs s gm) (group_agrees xs s more go gm h) env pre

choices_agree : (groups : List (List Name)) (ss : List Values) (go : Body) (gm : Env → Outcome (List Row)) → Agree go gm → Agree (rows_at (over groups ss) go) (at_choices groups ss gm)
choices_agree [] [] go gm h env pre = h env pre
choices_agree [] (s ∷ ss) go gm h env pre = h env pre
choices_agree (xs ∷ groups) [] go gm h env pre = h env pre
choices_agree (xs ∷ groups) (s ∷ ss) go gm h env pre = group_agrees xs s (over groups ss) go (at_choices groups ss gm) (choices_agree groups ss go gm h) env pre

body_row : (pre : List Value) (o : Outcome Value) → (o >>= λ w. Ok (row pre w ∷ [])) ≡ moved pre (o >>= λ w. Ok (row [] w ∷ []))
body_row pre (Ok w) = ap (λ l. Ok (row l w ∷ [])) (sym (append-nil pre))
body_row pre (Err k) = refl

body_rows : (b : Binder) (at : Place) (pre : List Value) (o : Outcome Value)
    → (o >>= λ v. suited b at v >>= λ w. Ok (row pre w ∷ [])) ≡ moved pre (o >>= λ v. suited b at v >>= λ w. Ok (row [] w ∷ []))
body_rows b at pre (Ok v) = body_row pre (suited b at v)
body_rows b at pre (Err k) = refl

body_agrees : (b : Binder) (at : Place) (d : Denotation) → Agree (body_at b at d) (at_body b at d)
body_agrees b at d env pre = body_rows b at pre (d env).value

none_behind : (rs : List Row) → map (behind_members []) rs ≡ rs
none_behind [] = refl
none_behind (r ∷ rs) = ap (λ l. r ∷ l) (none_behind rs)

moved_none : (o : Outcome (List Row)) → moved [] o ≡ o
moved_none (Ok rs) = ap Ok (none_behind rs)
moved_none (Err k) = refl

pub choices_are : (groups : List (List Name)) (ss : List Values) (b : Binder) (at : Place) (d : Denotation) (env : Env)
    → rows_at (over groups ss) (body_at b at d) (unbound env) ≡ at_choices groups ss (at_body b at d) env
choices_are groups ss b at d env =
    choices_agree groups ss (body_at b at d) (at_body b at d) (body_agrees b at d) env [] ∙ moved_none (at_choices groups ss (at_body b at d) env)

-- ---- what is gathered of all rows

keys_true : (rs : List Row) → map key (rows_true rs) ≡ where_true rs
keys_true [] = refl
keys_true (r ∷ rs) = one (is_true r.1) ∙ ap (λ l. cond (is_true r.1) (key r.0 ∷ l) l) (keys_true rs)
  where
    one : (b : Bool) → map key (cond b (r.0 ∷ rows_true rs) (rows_true rs)) ≡ cond b (key r.0 ∷ map key (rows_true rs)) (map key (rows_true rs))
    one true = refl
    one false = refl

pairs_table : (rs : List Row) → paired (bound_members rs) (results rs) ≡ table rs
pairs_table [] = refl
pairs_table (r ∷ rs) = ap (λ l. (key r.0, r.1) ∷ l) (pairs_table rs)

pub gathered_is : (b : Binder) (rs : List Row) → whole (added (start b) rs) ≡ gathered b rs
gathered_is ForAll rs = refl
gathered_is Exists rs = refl
gathered_is Filter rs = ap (λ l. Rattle.tla_value.specs.Value.set (Rattle.tla_value.specs.Order.set_from l)) (keys_true rs)
gathered_is Image rs = refl
gathered_is Function rs = ap Rattle.tla_value.specs.Order.fun_from (pairs_table rs)

-- ---- what is gathered at one choice

abbrev one_row : Binder → Place → List Value → Outcome Value → Outcome (List Row)
one_row b at ms o = o >>= λ v. suited b at v >>= λ w. Ok ((ms, w) ∷ [])

abbrev one_added : Gathered → List Value → Outcome Value → Outcome Gathered
one_added g ms o = o >>= λ w. Ok (added g ((ms, w) ∷ []))

row_is : (b : Binder) (at : Place) (g : Gathered) (ms : List Value) (v : Value) (q : Outcome Value) → q ≡ suited b at v → gather g (one_row b at ms (Ok v)) ≡ row_added b at g ms v
row_is b at g ms v (Ok w) e = (λ i. gather g (sym e i >>= λ u. Ok ((ms, u) ∷ []))) ∙ (λ i. one_added g ms (e i))
row_is b at g ms v (Err k) e = (λ i. gather g (sym e i >>= λ u. Ok ((ms, u) ∷ []))) ∙ (λ i. one_added g ms (e i))

answer_is : (b : Binder) (at : Place) (g : Gathered) (ms : List Value) (o : Outcome Value) → row_answered b at g ms o ≡ gather g (one_row b at ms o)
answer_is b at g ms (Ok v) = sym (row_is b at g ms v (suited b at v) refl)
answer_is b at g ms (Err k) = refl

pub choice_gathers : (b : Binder) (at : Place) (d : Denotation) (g : Gathered) (s : Spot) (ms : List Value) → s.1 ≡ ms → row_answered b at g ms (d s.0).value ≡ visited g [] (body_at b at d) s
choice_gathers b at d g s ms m = answer_is b at g ms (d s.0).value ∙ (λ i. gather g (one_row b at (sym m i) (d s.0).value))
