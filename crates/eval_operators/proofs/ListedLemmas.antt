-- Sets that are tested by their members.
use Rattle.std.proofs.Common.{◌≡◌, ℕ, List, Option, Some, None, refl, sym, subst}
use Rattle.std.specs.Prelude.{slice_get}
use Rattle.tla_token.specs.declared.place.Place.{Place}
use Rattle.tla_tree.specs.Tree.{Word, Tree}
use Rattle.tla_pool.specs.declared.form.Form.{Form as KeptForm}
use Rattle.tla_pool.specs.declared.form.Form.TheVariants as kept
use Rattle.tla_pool.specs.declared.form.Strict.{Strict as KeptStrict}
use Rattle.tla_pool.specs.FormOf.{form_of}
use Rattle.tla_value.specs.declared.names.Definition.{Definition as Kept}
use Rattle.tla_value.specs.Value.{Value, Sense}
use Rattle.tla_value.specs.Limits.{bounded}
use Rattle.tla_value.specs.Stops.{tested}
use Rattle.tla_value.specs.Meaning.{Env, Denotation, just, called, meaning_of}
use Rattle.tla_value.specs.Definitions.{or_sense, with_arguments, body_sense}
use Rattle.tla_value.specs.Defs.{definition_at}
use Rattle.tla_value.specs.Standard as pure
use Rattle.tla_value.specs.Standard.{standard_sense}
use Rattle.eval_scopes.specs.Contexts.{seen_env, kept_use, use_of}
use Rattle.eval_operators.specs.Tested.{IsListed}

pub just_listed : (v : Value) → IsListed (just v)
just_listed v p w = refl

kept_listed : (ts : List Tree) (o : Option Kept) (env : Env) (at : Place) (vs : List Value) → IsListed (kept_use ts o env at vs)
kept_listed ts None env at vs p v = refl
kept_listed ts (Some d) env at vs p v = by_env (with_arguments d.params vs env)
  where
    by_env : (e : Option Env) → (body_sense bounded (definition_at ts d) e at).test p v ≡ tested p v (body_sense bounded (definition_at ts d) e at).value
    by_env None = refl
    by_env (Some e) = refl

pub use_listed : (ts : List Tree) (ds : List Kept) (k : ℕ) (env : Env) (at : Place) (vs : List Value) → IsListed (use_of ts ds k env at vs)
use_listed ts ds k env at vs = kept_listed ts (slice_get ds k) (seen_env ts ds k env) at vs

pub listed_by : (s t : Sense) → s ≡ t → IsListed t → IsListed s
listed_by s t e h = subst IsListed (sym e) h

-- a standard operator other than Seq
pub standard_listed : (o : pure.Standard) (at : Place) (vs : List Value) → (o ≡ pure.sequences → ⊥) → IsListed (standard_sense bounded o at vs)
standard_listed pure.length_of at vs h p v = refl
standard_listed pure.appended at vs h p v = refl
standard_listed pure.first_of at vs h p v = refl
standard_listed pure.rest_of at vs h p v = refl
standard_listed pure.part_of at vs h p v = refl
standard_listed pure.sequences at vs h p v = absurd (h refl)
standard_listed pure.size_of at vs h p v = refl
standard_listed pure.is_finite at vs h p v = refl
standard_listed pure.printed at vs h p v = refl
standard_listed pure.asserted at vs h p v = refl

pub called_listed : (at : Place) (o : Option (Place → List Value → Sense)) (f : Place → List Value → Sense) (vs : List Value) → o ≡ Some f → IsListed (f at vs) → IsListed (called at o vs)
called_listed at o f vs e h = subst (λ q. IsListed (called at q vs)) (sym e) h

pub undefined_listed : (at : Place) (o : Option (Place → List Value → Sense)) (vs : List Value) → o ≡ None → IsListed (called at o vs)
undefined_listed at o vs e = subst (λ q. IsListed (called at q vs)) (sym e) (λ p v. refl)

-- ---- forms whose sets are listed to be tested

pub other_listed : (m : KeptForm) (env : Env) → (m ≡ kept.Strings → ⊥) → ((x : Word) → m ≡ kept.Name x → ⊥) → ((o : KeptStrict) → m ≡ kept.Strict o → ⊥) → ((f : Word) → m ≡ kept.Call f → ⊥) → ((x : Word) (at : Place) → IsListed (env.primed x at))
    → (at : Place) (ds : List Denotation) → IsListed (meaning_of bounded (form_of m) at ds env)
other_listed (kept.Number n) env a b d e f' at ds p v = refl
other_listed (kept.String w) env a b d e f' at ds p v = refl
other_listed (kept.Truth q) env a b d e f' at ds p v = refl
other_listed kept.Booleans env a b d e f' at ds p v = refl
other_listed kept.Strings env a b d e f' at ds p v = absurd (a refl)
other_listed (kept.Name x) env a b d e f' at ds p v = absurd (b x refl)
other_listed (kept.Next x) env a b d e f' at ds p v = f' x at p v
other_listed (kept.Strict o) env a b d e f' at ds p v = absurd (d o refl)
other_listed (kept.Call f) env a b d e f' at ds p v = absurd (e f refl)
other_listed kept.Conjunction env a b d e f' at ds p v = refl
other_listed kept.Disjunction env a b d e f' at ds p v = refl
other_listed kept.Implication env a b d e f' at ds p v = refl
other_listed (kept.Member q) env a b d e f' at ds p v = refl
other_listed kept.IfThenElse env a b d e f' at ds p v = refl
other_listed (kept.Cases q) env a b d e f' at ds p v = refl
other_listed (kept.Binding q gs) env a b d e f' at ds p v = refl
other_listed (kept.Local xs) env a b d e f' at ds p v = refl

pub or_listed : (o : Option Value) (s : Sense) → IsListed s → IsListed (or_sense o s)
or_listed None s h = h
or_listed (Some w) s h = λ p v. refl
