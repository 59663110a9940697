-- Reading names with commas, parameters and single words, as functions of the tokens ("Specifying Systems", sections 15.1 and 15.2).
use Rattle.std.specs.Prelude.{ℕ, zero, suc, bytes_eq, Bool, true, false, ◌&&◌, nat_eq, List, [], ◌∷◌, Option, Some, None, Ok, length}
use Rattle.tla_token.specs.declared.place.Place.{Place}
use Rattle.tla_tree.specs.declared.op.Op.{Op}
use Rattle.tla_tree.specs.Tree.{Word}
use Rattle.tla_tree.specs.Lexical.{TokenView, Token}
use Rattle.tla_tree.specs.Lexical as tk
use Rattle.tla_tree.specs.Reader.{Out, Reader, ◌>>=◌, gives, refuses, next, skip, peek, take, place_if, is_sign, bullet_of, a_mark, a_word}
use Rattle.module_tree.specs.Grammar.{Names, last_name, more_names}
use Rattle.module_tree.specs.Units.{ParameterForm}
use Rattle.outside_reading.specs.PlainUnits.{is_keyword}
use Rattle.region_reading.specs.Bound.{Bound, opened, opened_if}

-- all of the tokens were read
abbrev pub whole : {A : Type 0} → Out A → Option A
whole (Ok (a, [])) = Some a
whole o = None

-- what there is, past no token, or a refusal
abbrev pub gives_if : {A : Type 0} → Option A → Reader A
gives_if (Some a) = gives a
gives_if None = refuses

-- ---- single words

-- a reserved word that stands in no expression
abbrev pub a_keyword : ℕ → Word → Reader Place
a_keyword e w = take e (place_if (is_keyword w))

-- just this name
abbrev pub is_title : Word → TokenView → Bool
is_title w (tk.word v) = bytes_eq v w
is_title w k = false

abbrev pub a_title : ℕ → Word → Reader Place
a_title e w = take e (place_if (is_title w))

-- ---- names with commas

abbrev pub names_by : Reader Names → Place → Word → Place → TokenView → Reader Names
names_by more p x q (tk.mark tk.comma) = skip (more >>= λ ns. gives (more_names p x q ns))
names_by more p x q k = gives (last_name p x)

-- a name, and what is behind it
abbrev pub names_step : ℕ → Reader Names → Reader Names
names_step e more = a_word e >>= λ x. peek e (names_by more x.0 x.1)

-- so many names at most
abbrev pub some_names : ℕ → ℕ → Reader Names
some_names zero e = refuses
some_names (suc n) e = names_step e (some_names n e)

abbrev pub names_in : ℕ → Reader Names
names_in e ts = some_names (length ts) e ts

-- ---- the parameters after a title, if there are any

abbrev pub parameters_from : Place → Reader (Option ParameterForm)
parameters_from p = names_in 1 >>= λ ns. a_mark 1 tk.close_bracket >>= λ q. gives (Some (record { left = p; names = ns; right = q }))

abbrev pub parameters_by : Bound → Place → TokenView → Reader (Option ParameterForm)
parameters_by m p (tk.mark tk.open_bracket) = opened m (λ n. skip (parameters_from p))
parameters_by m p k = gives None

abbrev pub parameters_in : Bound → Reader (Option ParameterForm)
parameters_in m = peek 1 (parameters_by m)

-- ---- lists of forms, each after its bullet

-- the further forms, where a further bullet is seen
abbrev pub bulleted_if : {A : Type 0} → Bool → Reader (List (Place × A)) → Place → A → Reader (List (Place × A))
bulleted_if true more p a = more >>= λ xs. gives ((p, a) ∷ xs)
bulleted_if false more p a = gives ((p, a) ∷ [])

abbrev pub is_bullet_in : Op → ℕ → Place → TokenView → Bool
is_bullet_in o c p k = is_sign o k && nat_eq c p.col

-- a bullet in this column, a form, and what is behind it
abbrev pub bulleted_step : {A : Type 0} → Op → (ℕ → Reader A) → ℕ → Reader (List (Place × A)) → Reader (List (Place × A))
bulleted_step o f c more = take 1 (bullet_of o c) >>= λ p. f c >>= λ a. peek 1 (λ q k. bulleted_if (is_bullet_in o c q k) more p a)

-- so many forms at most, behind bullets in this column
abbrev pub bulleted : {A : Type 0} → ℕ → Op → (ℕ → Reader A) → ℕ → Reader (List (Place × A))
bulleted zero o f c = refuses
bulleted (suc n) o f c = bulleted_step o f c (bulleted n o f c)

-- all forms behind bullets in this column
abbrev pub bulleted_from : {A : Type 0} → Op → (ℕ → Reader A) → ℕ → Reader (List (Place × A))
bulleted_from o f c ts = bulleted (length ts) o f c ts

-- in the column of the first bullet, right of column 1: one form
abbrev pub bulleted_in : {A : Type 0} → Bound → Op → (Bound → ℕ → Reader A) → Reader (List (Place × A))
bulleted_in m o f ts = opened_if (is_sign o (next 1 ts).kind) m (λ n. bulleted_from o (f n) (next 1 ts).place.col) ts
