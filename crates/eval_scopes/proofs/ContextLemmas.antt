-- What a name means among definitions: the use of the last one that has it, or what it means outside of them.
use Rattle.std.proofs.Common.{◌≡◌, ℕ, suc, zero, ◌<◌, ◌≤◌, Bool, true, false, cond, ◌&&◌, List, [], ◌∷◌, ◌++◌, Option, Some, None, length, take, refl, sym, ap, ◌∙◌, arith, get_or, bytes_eq}
use Rattle.std.specs.Prelude.{slice_get}
use Rattle.tla_token.specs.declared.place.Place.{Place}
use Rattle.tla_tree.specs.Tree.{Word, Tree}
use Rattle.tla_tree.specs.Pool.{at}
use Rattle.tla_value.specs.declared.names.Definition.{Definition as Kept}
use Rattle.tla_value.specs.Value.{Value, Sense}
use Rattle.tla_value.specs.Limits.{bounded}
use Rattle.tla_value.specs.Stops.{misshapen}
use Rattle.tla_value.specs.Meaning.{Env, eval}
use Rattle.tla_value.specs.Definitions.{Definition, with_arguments, body_sense, defined, with_definitions, at_use}
use Rattle.tla_value.specs.Defs.{definition_at, definitions_at, DefinitionsIn}
use Rattle.tla_value.specs.Strict.{same_truth}
use Rattle.eval_scopes.specs.Contexts.{with_kept, seen_env, has_none, gives_name, last_of, kept_use, use_of}
use Rattle.eval_scopes.specs.Scopes.{with_words}
use Rattle.std.proofs.lemmas.Option.{slice_get-get_or}

-- ---- the latest definition

abbrev pub MaybeUse : Type 0
MaybeUse = Option (Place → List Value → Sense)

-- what a name means with one more definition
one_now : (ts : List Tree) (o : Option Kept) (env : Env) (y : Word) (p : Place) (b : Bool) → gives_name true y o ≡ b
    → (with_kept ts o env).now y p ≡ cond b (kept_use ts o env p []) (env.now y p)
one_now ts None env y p true h = cc
one_now ts None env y p false h = refl
one_now ts (Some d) env y p b h = by_params d.params refl
  where
    by_params : (ps : List Word) → d.params ≡ ps → (with_kept ts (Some d) env).now y p ≡ cond b (kept_use ts (Some d) env p []) (env.now y p)
    by_params [] e =
        (λ i. (defined bounded (definition_at ts d) (e i) env).now y p)
        ∙ (λ i. cond (test i) (body_sense bounded (definition_at ts d) (with_arguments (sym e i) [] env) p) (env.now y p))
      where
        test : bytes_eq d.name y ≡ b
        test = sym (λ i. same_truth true (has_none (e i)) && bytes_eq d.name y) ∙ h
    by_params (q ∷ qs) e =
        (λ i. (defined bounded (definition_at ts d) (e i) env).now y p) ∙ ap (λ t. cond t (kept_use ts (Some d) env p []) (env.now y p)) test
      where
        test : false ≡ b
        test = sym (λ i. same_truth true (has_none (e i)) && bytes_eq d.name y) ∙ h

abbrev some_use : List Tree → Option Kept → Env → MaybeUse
some_use ts o env = Some (λ at vs. kept_use ts o env at vs)

one_def : (ts : List Tree) (o : Option Kept) (env : Env) (y : Word) (b : Bool) → gives_name false y o ≡ b
    → (with_kept ts o env).defs y ≡ cond b (some_use ts o env) (env.defs y)
one_def ts None env y true h = cc
one_def ts None env y false h = refl
one_def ts (Some d) env y b h = by_params d.params refl
  where
    by_params : (ps : List Word) → d.params ≡ ps → (with_kept ts (Some d) env).defs y ≡ cond b (some_use ts (Some d) env) (env.defs y)
    by_params [] e =
        (λ i. (defined bounded (definition_at ts d) (e i) env).defs y) ∙ ap (λ t. cond t (some_use ts (Some d) env) (env.defs y)) test
      where
        test : false ≡ b
        test = sym (λ i. same_truth false (has_none (e i)) && bytes_eq d.name y) ∙ h
    by_params (q ∷ qs) e =
        (λ i. (defined bounded (definition_at ts d) (e i) env).defs y)
        ∙ (λ i. cond (test i) (Some (λ at vs. body_sense bounded (definition_at ts d) (with_arguments (sym e i) vs env) at)) (env.defs y))
      where
        test : bytes_eq d.name y ≡ b
        test = sym (λ i. same_truth false (has_none (e i)) && bytes_eq d.name y) ∙ h

abbrev pub use_sense : List Tree → List Kept → Env → Place → Option ℕ → Sense → Sense
use_sense ts ds env p None s = s
use_sense ts ds env p (Some k) s = use_of ts ds k env p []

abbrev pub use_call : List Tree → List Kept → Env → Option ℕ → MaybeUse → MaybeUse
use_call ts ds env None m = m
use_call ts ds env (Some k) m = Some (λ at vs. use_of ts ds k env at vs)

now_step : (ts : List Tree) (ds : List Kept) (env : Env) (y : Word) (p : Place) (k : ℕ) (b : Bool) (o : Option ℕ) (s t : Sense)
    → t ≡ use_sense ts ds env p o s → cond b (use_of ts ds k env p []) t ≡ use_sense ts ds env p (cond b (Some k) o) s
now_step ts ds env y p k true o s t h = refl
now_step ts ds env y p k false o s t h = h

call_step : (ts : List Tree) (ds : List Kept) (env : Env) (k : ℕ) (b : Bool) (o : Option ℕ) (m t : MaybeUse)
    → t ≡ use_call ts ds env o m → cond b (Some (λ at vs. use_of ts ds k env at vs)) t ≡ use_call ts ds env (cond b (Some k) o) m
call_step ts ds env k true o m t h = refl
call_step ts ds env k false o m t h = h

pub seen_now : (ts : List Tree) (ds : List Kept) (n : ℕ) (env : Env) (y : Word) (p : Place) → (seen_env ts ds n env).now y p ≡ use_sense ts ds env p (last_of true ds y n) (env.now y p)
seen_now ts ds zero env y p = refl
seen_now ts ds (suc k) env y p =
    one_now ts (slice_get ds k) (seen_env ts ds k env) y p (gives_name true y (slice_get ds k)) refl
    ∙ now_step ts ds env y p k (gives_name true y (slice_get ds k)) (last_of true ds y k) (env.now y p) ((seen_env ts ds k env).now y p) (seen_now ts ds k env y p)

pub seen_call : (ts : List Tree) (ds : List Kept) (n : ℕ) (env : Env) (y : Word) → (seen_env ts ds n env).defs y ≡ use_call ts ds env (last_of false ds y n) (env.defs y)
seen_call ts ds zero env y = refl
seen_call ts ds (suc k) env y =
    one_def ts (slice_get ds k) (seen_env ts ds k env) y (gives_name false y (slice_get ds k)) refl
    ∙ call_step ts ds env k (gives_name false y (slice_get ds k)) (last_of false ds y k) (env.defs y) ((seen_env ts ds k env).defs y) (seen_call ts ds k env y)

one_primed : (ts : List Tree) (o : Option Kept) (env : Env) → (with_kept ts o env).primed ≡ env.primed
one_primed ts None env = refl
one_primed ts (Some d) env = by_params d.params
  where
    by_params : (ps : List Word) → (defined bounded (definition_at ts d) ps env).primed ≡ env.primed
    by_params [] = refl
    by_params (q ∷ qs) = refl

pub seen_primed : (ts : List Tree) (ds : List Kept) (n : ℕ) (env : Env) → (seen_env ts ds n env).primed ≡ env.primed
seen_primed ts ds zero env = refl
seen_primed ts ds (suc k) env = one_primed ts (slice_get ds k) (seen_env ts ds k env) ∙ seen_primed ts ds k env

-- the loop that looks for it
pub last_here : (b : Bool) (ds : List Kept) (y : Word) (n k : ℕ) (d : Kept) → n ≡ suc k → k < length ds → d ≡ get_or ds k d → (same_truth b (has_none d.params) && bytes_eq d.name y) ≡ true → last_of b ds y n ≡ Some k
last_here b ds y n k d e lt is t =
    ap (last_of b ds y) e ∙ ap (λ o. cond (gives_name b y o) (Some k) (last_of b ds y k)) (slice_get-get_or ds k d lt ∙ ap (λ w. Some w) (sym is)) ∙ ap (λ q. cond q (Some k) (last_of b ds y k)) t

pub last_before : (b : Bool) (ds : List Kept) (y : Word) (n k : ℕ) (d : Kept) → n ≡ suc k → k < length ds → d ≡ get_or ds k d → (same_truth b (has_none d.params) && bytes_eq d.name y) ≡ false → last_of b ds y n ≡ last_of b ds y k
last_before b ds y n k d e lt is t =
    ap (last_of b ds y) e ∙ ap (λ o. cond (gives_name b y o) (Some k) (last_of b ds y k)) (slice_get-get_or ds k d lt ∙ ap (λ w. Some w) (sym is)) ∙ ap (λ q. cond q (Some k) (last_of b ds y k)) t

is_some : (b : Bool) (k j n : ℕ) (o : Option ℕ) → (o ≡ Some j → j < n) → k < suc n → n ≤ suc n → cond b (Some k) o ≡ Some j → j < suc n
is_some true k j n o h lt le e = omega (arith, lt, ap number e)
  where
    number : Option ℕ → ℕ
    number None = 0
    number (Some m) = m
is_some false k j n o h lt le e = omega (arith, h e)

pub last_below : (b : Bool) (ds : List Kept) (y : Word) (n j : ℕ) → last_of b ds y n ≡ Some j → j < n
last_below b ds y zero j h = cc
last_below b ds y (suc k) j h = is_some (gives_name b y (slice_get ds k)) k j k (last_of b ds y k) (last_below b ds y k j) (omega arith) (omega arith) h

-- ---- all definitions, in the order of the list

abbrev with_one : Definition → Env → Env
with_one d env = defined bounded d d.params env

definitions_last : (ds : List Definition) (d : Definition) (env : Env) → with_definitions bounded (ds ++ d ∷ []) env ≡ with_one d (with_definitions bounded ds env)
definitions_last [] d env = refl
definitions_last (e ∷ ds) d env = definitions_last ds d (defined bounded e e.params env)

map_last : (ts : List Tree) (ds : List Kept) (d : Kept) → definitions_at ts (ds ++ d ∷ []) ≡ definitions_at ts ds ++ definition_at ts d ∷ []
map_last ts [] d = refl
map_last ts (e ∷ ds) d = ap (λ l. definition_at ts e ∷ l) (map_last ts ds d)

abbrev front : List Kept → Option Kept → List Kept
front xs None = xs
front xs (Some d) = xs ++ d ∷ []

take_front : (ds : List Kept) (k : ℕ) → take (suc k) ds ≡ front (take k ds) (slice_get ds k)
take_front [] zero = refl
take_front [] (suc k) = refl
take_front (d ∷ ds) zero = refl
take_front (d ∷ ds) (suc k) = ap (λ l. d ∷ l) (take_front ds k) ∙ cons_front (take k ds) (slice_get ds k)
  where
    cons_front : (xs : List Kept) (o : Option Kept) → d ∷ front xs o ≡ front (d ∷ xs) o
    cons_front xs None = refl
    cons_front xs (Some e) = refl

with_front : (ts : List Tree) (ds : List Kept) (o : Option Kept) (env : Env) → with_definitions bounded (definitions_at ts (front ds o)) env ≡ with_kept ts o (with_definitions bounded (definitions_at ts ds) env)
with_front ts ds None env = refl
with_front ts ds (Some d) env = ap (λ l. with_definitions bounded l env) (map_last ts ds d) ∙ definitions_last (definitions_at ts ds) (definition_at ts d) env

pub seen_taken : (ts : List Tree) (ds : List Kept) (n : ℕ) (env : Env) → seen_env ts ds n env ≡ with_definitions bounded (definitions_at ts (take n ds)) env
seen_taken ts ds zero env = refl
seen_taken ts ds (suc k) env =
    ap (with_kept ts (slice_get ds k)) (seen_taken ts ds k env) ∙ sym (with_front ts (take k ds) (slice_get ds k) env) ∙ ap (λ l. with_definitions bounded (definitions_at ts l) env) (sym (take_front ds k))

take_all : (ds : List Kept) → take (length ds) ds ≡ ds
take_all [] = refl
take_all (d ∷ ds) = ap (λ l. d ∷ l) (take_all ds)

pub seen_all : (ts : List Tree) (ds : List Kept) (env : Env) → seen_env ts ds (length ds) env ≡ with_definitions bounded (definitions_at ts ds) env
seen_all ts ds env = seen_taken ts ds (length ds) env ∙ ap (λ l. with_definitions bounded (definitions_at ts l) env) (take_all ds)

-- ---- the use of a definition

pub with_all : (xs : List Word) (vs : List Value) (env : Env) → length xs ≡ length vs → with_arguments xs vs env ≡ Some (with_words xs vs env)
with_all [] [] env h = refl
with_all [] (v ∷ vs) env h = absurd (omega arith)
with_all (x ∷ xs) [] env h = absurd (omega arith)
with_all (x ∷ xs) (v ∷ vs) env h = with_all xs vs (Rattle.tla_value.specs.Meaning.bind x v env) (omega arith)

other_count : (xs : List Word) (vs : List Value) (env : Env) → (length xs ≡ length vs → ⊥) → with_arguments xs vs env ≡ None
other_count [] [] env h = absurd (h refl)
other_count [] (v ∷ vs) env h = refl
other_count (x ∷ xs) [] env h = refl
other_count (x ∷ xs) (v ∷ vs) env h = other_count xs vs (Rattle.tla_value.specs.Meaning.bind x v env) (λ e. h (ap suc e))

pub used_wrongly : (ts : List Tree) (ds : List Kept) (k : ℕ) (env : Env) (p : Place) (vs : List Value) (d : Kept) → k < length ds → d ≡ get_or ds k d → (length d.params ≡ length vs → ⊥)
    → (use_of ts ds k env p vs).value ≡ misshapen p
used_wrongly ts ds k env p vs d lt is h =
    ap (λ o. (kept_use ts o (seen_env ts ds k env) p vs).value) (slice_get-get_or ds k d lt ∙ ap (λ w. Some w) (sym is))
    ∙ ap (λ o. (body_sense bounded (definition_at ts d) o p).value) (other_count d.params vs (seen_env ts ds k env) h)

pub used_value : (ts : List Tree) (ds : List Kept) (k : ℕ) (env : Env) (p : Place) (vs : List Value) (d : Kept) → k < length ds → d ≡ get_or ds k d → length d.params ≡ length vs
    → (use_of ts ds k env p vs).value ≡ at_use d.outside p (eval bounded (at ts d.body) (with_words d.params vs (seen_env ts ds k env))).value
used_value ts ds k env p vs d lt is h =
    ap (λ o. (kept_use ts o (seen_env ts ds k env) p vs).value) (slice_get-get_or ds k d lt ∙ ap (λ w. Some w) (sym is))
    ∙ ap (λ o. (body_sense bounded (definition_at ts d) o p).value) (with_all d.params vs (seen_env ts ds k env) h)

pub definition_in : (m : ℕ) (ds : List Kept) (k : ℕ) (d : Kept) → DefinitionsIn m ds → k < length ds → d ≡ get_or ds k d → d.body < m
definition_in m [] k d h lt is = absurd (omega arith)
definition_in m (e ∷ ds) zero d h lt is = omega (arith, h.0, ap (λ (w : Kept). w.body) is)
definition_in m (e ∷ ds) (suc k) d h lt is = definition_in m ds k d h.1 (omega arith) is
