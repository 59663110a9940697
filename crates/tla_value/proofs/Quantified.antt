-- What the forms over one name mean where the body gives a value at each member of the set.
use Rattle.std.proofs.Common.{◌≡◌, Bool, true, false, cond, ◌&&◌, ◌||◌, List, [], ◌∷◌, ◌++◌, map, refl, sym, ◌∙◌, ap, Ok}
use Rattle.tla_token.specs.declared.place.Place.{Place}
use Rattle.tla_tree.specs.declared.op.Binder.{Binder}
use Rattle.tla_tree.specs.declared.op.Binder.TheVariants.{ForAll, Exists, Filter, Image, Function}
use Rattle.tla_tree.specs.Tree.{Word, Name, binding}
use Rattle.tla_value.specs.Value.{Value, Values, truth, set, no_values, and, ◌>>=◌, in_order}
use Rattle.tla_value.specs.Order.{set_from, fun_from, listed}
use Rattle.tla_value.specs.Sets.{kept}
use Rattle.tla_value.specs.Stops.{Check, members_at}
use Rattle.tla_value.specs.Meaning.{Env, Denotation, bind, Row, with_first, at_members, at_choices, suited, at_body, all_true, some_true, where_true, results, table, gathered, meaning_of}

-- a fact of each member
abbrev pub EachIn : (Value → Type 0) → Values → Type 0
EachIn P no_values = Unit {0}
EachIn P (and v vs) = P v × EachIn P vs

-- the body gives g v where x is v
abbrev pub Gives : Denotation → Word → Env → (Value → Value) → Value → Type 0
Gives body x env g v = (body (bind x v env)).value ≡ Ok (g v)

abbrev pub rows : (Value → Value) → Values → List Row
rows g no_values = []
rows g (and v vs) = (v ∷ [], g v) ∷ rows g vs

-- the kind of g's values is that which the form needs
abbrev pub Suits : Binder → Place → (Value → Value) → Type 0
Suits b at g = (v : Value) → suited b at (g v) ≡ Ok (g v)

visited : (b : Binder) (at : Place) (x : Word) (vs : Values) (body : Denotation) (env : Env) (g : Value → Value) → Suits b at g → EachIn (Gives body x env g) vs → at_members x vs (at_body b at body) env ≡ Ok (rows g vs)
visited b at x no_values body env g s h = refl
visited b at x (and v vs) body env g s h =
    (λ i. (h.0 i >>= λ w. suited b at w >>= λ u. Ok (([], u) ∷ [])) >>= λ first. at_members x vs (at_body b at body) env >>= λ more. Ok (map (with_first v) first ++ more))
    ∙ (λ i. (s v i >>= λ u. Ok (([], u) ∷ [])) >>= λ first. visited b at x vs body env g s h.1 i >>= λ more. Ok (map (with_first v) first ++ more))

-- the form makes what is gathered from all members
pub one_set : (c : Check) (b : Binder) (x : Name) (at : Place) (s body : Denotation) (env : Env) (vs : Values) (g : Value → Value) → Suits b at g → (s env).value ≡ Ok (set vs) → EachIn (Gives body x.word env g) vs →
    (meaning_of c (binding b ((x ∷ []) ∷ [])) at (s ∷ body ∷ []) env).value ≡ c at (gathered b (rows g vs))
one_set c b x at s body env vs g k is h =
    (λ i. (is i >>= λ v. Ok (v ∷ [], body)) >>= λ (us, d). in_order (members_at at) us >>= λ ss. at_choices ((x ∷ []) ∷ []) ss (at_body b at d) env >>= λ rs. c at (gathered b rs))
    ∙ (λ i. visited b at x.word vs body env g k h i >>= λ rs. c at (gathered b rs))

-- ---- what is gathered

abbrev pub every : (Value → Bool) → Values → Bool
every t no_values = true
every t (and v vs) = t v && every t vs

abbrev pub some : (Value → Bool) → Values → Bool
some t no_values = false
some t (and v vs) = t v || some t vs

all_rows : (t : Value → Bool) (vs : Values) → all_true (rows (λ v. truth (t v)) vs) ≡ every t vs
all_rows t no_values = refl
all_rows t (and v vs) = ap (λ b. t v && b) (all_rows t vs)

some_rows : (t : Value → Bool) (vs : Values) → some_true (rows (λ v. truth (t v)) vs) ≡ some t vs
some_rows t no_values = refl
some_rows t (and v vs) = ap (λ b. t v || b) (some_rows t vs)

listed_either : (b : Bool) (us vs : Values) → listed (cond b us vs) ≡ cond b (listed us) (listed vs)
listed_either true us vs = refl
listed_either false us vs = refl

kept_rows : (t : Value → Bool) (vs : Values) → where_true (rows (λ v. truth (t v)) vs) ≡ listed (kept t vs)
kept_rows t no_values = refl
kept_rows t (and v vs) =
    (λ i. cond (t v) (v ∷ kept_rows t vs i) (kept_rows t vs i)) ∙ sym (listed_either (t v) (and v (kept t vs)) (kept t vs))

result_rows : (g : Value → Value) (vs : Values) → results (rows g vs) ≡ map g (listed vs)
result_rows g no_values = refl
result_rows g (and v vs) = ap (λ ws. g v ∷ ws) (result_rows g vs)

table_rows : (g : Value → Value) (vs : Values) → table (rows g vs) ≡ map (λ v. (v, g v)) (listed vs)
table_rows g no_values = refl
table_rows g (and v vs) = ap (λ ps. (v, g v) ∷ ps) (table_rows g vs)

-- \A x \in S : t
pub for_all_law : (c : Check) (x : Name) (at : Place) (s body : Denotation) (env : Env) (vs : Values) (t : Value → Bool) → (s env).value ≡ Ok (set vs) → EachIn (Gives body x.word env (λ v. truth (t v))) vs →
    (meaning_of c (binding ForAll ((x ∷ []) ∷ [])) at (s ∷ body ∷ []) env).value ≡ c at (truth (every t vs))
for_all_law c x at s body env vs t is h = one_set c ForAll x at s body env vs (λ v. truth (t v)) (λ v. refl) is h ∙ ap (λ b. c at (truth b)) (all_rows t vs)

-- \E x \in S : t
pub exists_law : (c : Check) (x : Name) (at : Place) (s body : Denotation) (env : Env) (vs : Values) (t : Value → Bool) → (s env).value ≡ Ok (set vs) → EachIn (Gives body x.word env (λ v. truth (t v))) vs →
    (meaning_of c (binding Exists ((x ∷ []) ∷ [])) at (s ∷ body ∷ []) env).value ≡ c at (truth (some t vs))
exists_law c x at s body env vs t is h = one_set c Exists x at s body env vs (λ v. truth (t v)) (λ v. refl) is h ∙ ap (λ b. c at (truth b)) (some_rows t vs)

-- {x \in S : t}
pub filter_law : (c : Check) (x : Name) (at : Place) (s body : Denotation) (env : Env) (vs : Values) (t : Value → Bool) → (s env).value ≡ Ok (set vs) → EachIn (Gives body x.word env (λ v. truth (t v))) vs →
    (meaning_of c (binding Filter ((x ∷ []) ∷ [])) at (s ∷ body ∷ []) env).value ≡ c at (set (set_from (listed (kept t vs))))
filter_law c x at s body env vs t is h = one_set c Filter x at s body env vs (λ v. truth (t v)) (λ v. refl) is h ∙ ap (λ ws. c at (set (set_from ws))) (kept_rows t vs)

-- {g : x \in S}
pub image_law : (c : Check) (x : Name) (at : Place) (s body : Denotation) (env : Env) (vs : Values) (g : Value → Value) → (s env).value ≡ Ok (set vs) → EachIn (Gives body x.word env g) vs →
    (meaning_of c (binding Image ((x ∷ []) ∷ [])) at (s ∷ body ∷ []) env).value ≡ c at (set (set_from (map g (listed vs))))
image_law c x at s body env vs g is h = one_set c Image x at s body env vs g (λ v. refl) is h ∙ ap (λ ws. c at (set (set_from ws))) (result_rows g vs)

-- [x \in S |-> g]
pub function_law : (c : Check) (x : Name) (at : Place) (s body : Denotation) (env : Env) (vs : Values) (g : Value → Value) → (s env).value ≡ Ok (set vs) → EachIn (Gives body x.word env g) vs →
    (meaning_of c (binding Function ((x ∷ []) ∷ [])) at (s ∷ body ∷ []) env).value ≡ c at (fun_from (map (λ v. (v, g v)) (listed vs)))
function_law c x at s body env vs g is h = one_set c Function x at s body env vs g (λ v. refl) is h ∙ ap (λ ps. c at (fun_from ps)) (table_rows g vs)
