-- The names of a state in memory in their order, and what they are where a name gets a value.
use Rattle.std.proofs.Common.{◌≡◌, ℕ, ◌+◌, ◌<◌, Bool, true, false, ◌||◌, cond, bytes_eq, List, [], ◌∷◌, ◌++◌, length, take, get_or, Option, Some, None, refl, sym, ap, subst, ◌∙◌, true≢false}
use Rattle.std.specs.Prelude.{◌==◌, if◌then◌else◌}
use Rattle.std.specs.Option.{is_some}
use Rattle.std.specs.Cmp.Lexicographic.{pointwise, bytes_decides}
use Rattle.std.proofs.lemmas.List.{take_more}
use Rattle.std.proofs.lemmas.Slice.Eq.{bytes_eq-Decides}
use Rattle.tla_token.specs.Signs.{is_among}
use Rattle.tla_tree.specs.Tree.{Word}
use Rattle.tla_value.specs.Value.{Value, truth}
use Rattle.tla_value.specs.States.{Entries, value_of, updated}
use Rattle.pcal_tree.specs.InitialChoice.{nothing}
use Rattle.pcal_tree.specs.Scope.{put}
use Rattle.pcal_tree.specs.Variables.{vars}
use Rattle.step_moves.specs.declared.program.Program as code
use Rattle.step_moves.specs.Programs.{program_at}
use Rattle.step_moves.specs.StatesOf.{state_of, HasJust}
use Rattle.step_moves.proofs.StateLaws.{state_updated}
use Rattle.step_moves.specs.ScopeIn.{IsScene}
use Rattle.step_meaning.specs.Begun.{names_in, IsBegun}

abbrev equal : Word → Word → Bool
equal = pointwise ◌==◌

same_test : (x y : Word) → equal x y ≡ bytes_eq y x
same_test x y = by (bytes_eq y x) (equal x y) refl refl
  where
    by : (b c : Bool) → bytes_eq y x ≡ b → equal x y ≡ c → c ≡ b
    by true true e k = refl
    by false false e k = refl
    by true false e k = absurd (true≢false (sym ((bytes_decides x y).1 (sym ((bytes_eq-Decides y x).0 e))) ∙ k))
    by false true e k = absurd (true≢false (sym ((bytes_eq-Decides y x).1 (sym ((bytes_decides x y).0 k))) ∙ e))

-- ---- which names have values

some_or : (b : Bool) (v : Value) (o : Option Value) → is_some (cond b (Some v) o) ≡ (b || is_some o)
some_or true v o = refl
some_or false v o = refl

pub has_just : (m : Entries) → HasJust (names_in m) m
has_just [] x = refl
has_just (e ∷ es) x = some_or (equal x e.0) e.1 (value_of es x) ∙ (λ i. same_test x e.0 i || has_just es x i)

pub scene_of : (p : code.Program) (m : Entries) → IsBegun p m → IsScene p m
scene_of p m b = record { whole = b.whole; names = subst (λ (xs : List Word). HasJust xs m) b.order (has_just m) }

-- ---- their order

abbrev one_updated : Bool → Word × Value → Entries → Word → Value → Entries
one_updated b e es x v = if b then (e.0, v) ∷ es else e ∷ updated es x v

pub names_stay : (m : Entries) (x : Word) (v : Value) → is_among (names_in m) x ≡ true → names_in (updated m x v) ≡ names_in m
names_stay [] x v h = absurd (true≢false (sym h))
names_stay (e ∷ es) x v h = by (equal x e.0) (sym (same_test x e.0)) (names_stay es x v) h
  where
    by : (b : Bool) → bytes_eq e.0 x ≡ b → (is_among (names_in es) x ≡ true → names_in (updated es x v) ≡ names_in es) → (bytes_eq e.0 x || is_among (names_in es) x) ≡ true → names_in (one_updated b e es x v) ≡ names_in (e ∷ es)
    by true k f d = refl
    by false k f d = ap (λ (ys : List Word). e.0 ∷ ys) (f (sym (ap (λ (c : Bool). c || is_among (names_in es) x) k) ∙ d))

pub names_more : (m : Entries) (x : Word) (v : Value) → value_of m x ≡ None → names_in (updated m x v) ≡ names_in m ++ x ∷ []
names_more [] x v h = refl
names_more (e ∷ es) x v h = by (equal x e.0) (names_more es x v) h
  where
    by : (b : Bool) → (value_of es x ≡ None → names_in (updated es x v) ≡ names_in es ++ x ∷ []) → cond b (Some e.1) (value_of es x) ≡ None → names_in (one_updated b e es x v) ≡ names_in (e ∷ es) ++ x ∷ []
    by true f d = absurd (let no : ⊥ = cc in no)
    by false f d = ap (λ (ys : List Word). e.0 ∷ ys) (f d)

pub begun_put : (p : code.Program) (m n : Entries) (x y : Word) (v : Value) → n ≡ updated m y v → y ≡ x → is_among (vars (program_at p)) x ≡ true → IsBegun p m → IsBegun p n
begun_put p m n x y v e d h b =
    record {
      whole = b.whole;
      order = ap names_in e ∙ ap (λ (z : Word). names_in (updated m z v)) d ∙ names_stay m x v (subst (λ (ys : List Word). is_among ys x ≡ true) (sym b.order) h) ∙ b.order;
    }

pub state_put : (m n : Entries) (x y : Word) (v : Value) → n ≡ updated m y v → y ≡ x → state_of n ≡ put x v (state_of m)
state_put m n x y v e d = ap state_of e ∙ ap (λ (z : Word). state_of (updated m z v)) d ∙ state_updated m x v

-- ---- before the first value

put_nothing : (x : Word) → put x (truth false) nothing ≡ nothing
put_nothing x i y = by (bytes_eq x y) i
  where
    by : (b : Bool) → cond b (truth false) (truth false) ≡ truth false
    by true = refl
    by false = refl

pub blank_begun : (m : Entries) → m ≡ [] → state_of m ≡ nothing
blank_begun m e = ap state_of e

pub blank_next : (m n : Entries) (x y : Word) → n ≡ updated m y (truth false) → y ≡ x → state_of m ≡ nothing → state_of n ≡ nothing
blank_next m n x y e d h = state_put m n x y (truth false) e d ∙ ap (put x (truth false)) h ∙ put_nothing x

pub names_next : (xs : List Word) (i : ℕ) (x y : Word) (m n : Entries) → i < length xs → x ≡ get_or xs i x → n ≡ updated m y (truth false) → y ≡ x → value_of m y ≡ None → names_in m ≡ take i xs → names_in n ≡ take (i + 1) xs
names_next xs i x y m n less is e d new h =
    ap names_in e ∙ names_more m y (truth false) new ∙ ap (λ (ys : List Word). ys ++ y ∷ []) h ∙ ap (λ (z : Word). take i xs ++ z ∷ []) (d ∙ is) ∙ sym (take_more xs i x less)

pub none_there : (o : Option Value) → is_some o ≡ false → o ≡ None
none_there None e = refl
none_there (Some v) e = absurd (true≢false e)
