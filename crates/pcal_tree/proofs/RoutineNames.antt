-- Written labels of different labels differ: each label of a routine is wanted, and routines have different numbers.
use Rattle.std.proofs.Common.{◌≡◌, ℕ, List, [], ◌∷◌, ◌++◌, Bool, true, false, ◌&&◌, nat_eq, cond, bytes_eq, refl, sym, ◌∙◌, ap, subst, inl, inr, ◌⊎◌}
use Rattle.std.specs.List.{flat_map, AllByRecursion}
use Rattle.std.proofs.lemmas.Slice.Eq.{bytes_eq-Decides}
use Rattle.std.proofs.lemmas.Bool.{and_parts, and_from, eqb-true, eq-eqb}
use Rattle.tla_tree.specs.Tree.{Word}
use Rattle.pcal_tree.specs.Algorithm.{Main, alone, processes, Algorithm, Routine, locals, procedure_routines, main_routines, routines}
use Rattle.pcal_tree.specs.OffencesLabels.{label_words}
use Rattle.pcal_tree.specs.Names.{Role, label, variable, title, Want, wants, wanted_within, wanted_by, wanted_by_main, wanted, Given, give, first_free, same_role, is_for, written_for}
use Rattle.pcal_tree.specs.laws.Apart.{Apart}
use Rattle.pcal_tree.proofs.TroubleLaws.{one_left, one_right}
use Rattle.pcal_tree.specs.Variables.{declared}
use Rattle.pcal_tree.specs.Processes.{OneOf}

pub every_one : {X : Type 0} (Q : X → Type 0) (x : X) (xs : List X) → AllByRecursion Q xs → OneOf x xs → Q x
every_one Q x [] h k = absurd k
every_one Q x (y ∷ ys) h (inl e) = subst Q (sym e) h.0
every_one Q x (y ∷ ys) h (inr k) = every_one Q x ys h.1 k

pub one_each : {X Y : Type 0} (f : X → List Y) (x : X) (y : Y) (xs : List X) → OneOf x xs → OneOf y (f x) → OneOf y (flat_map f xs)
one_each f x y [] h k = absurd h
one_each f x y (z ∷ zs) (inl e) k = one_left y (f z) (flat_map f zs) (subst (λ u. OneOf y (f u)) e k)
one_each f x y (z ∷ zs) (inr h) k = one_right y (f z) (flat_map f zs) (one_each f x y zs h k)

-- ---- what is wanted

abbrev pub want : Routine → Word → Want
want u l = record { unit = u.number; role = label; word = l }

one_want : (n : ℕ) (r : Role) (x : Word) (ws : List Word) → OneOf x ws → OneOf (record { unit = n; role = r; word = x }) (wants n r ws)
one_want n r x [] h = absurd h
one_want n r x (w ∷ ws) (inl e) = inl (ap (λ z. record { unit = n; role = r; word = z }) e)
one_want n r x (w ∷ ws) (inr h) = inr (one_want n r x ws h)

wanted_label : (u : Routine) (l : Word) → OneOf l (label_words u.body) → OneOf (want u l) (wanted_within u)
wanted_label u l h =
    one_right (want u l) (wants u.number variable (declared (locals u))) (wants u.number label (label_words u.body))
    (one_want u.number label l (label_words u.body) h)

main_label : (a : Algorithm) (m : Main) (u : Routine) (l : Word) → OneOf u (main_routines a m) → OneOf l (label_words u.body)
    → OneOf (want u l) (wanted_by_main a m)
main_label a (alone b) u l h k = one_each wanted_within u (want u l) (main_routines a (alone b)) h (wanted_label u l k)
main_label a (processes ps) u l h k = one_each wanted_by u (want u l) (main_routines a (processes ps)) h (inr (wanted_label u l k))

pub one_either : {X : Type 0} (x : X) (xs ys : List X) → OneOf x (xs ++ ys) → OneOf x xs ⊎ OneOf x ys
one_either x [] ys h = inr h
one_either x (z ∷ xs) ys (inl e) = inl (inl e)
one_either x (z ∷ xs) ys (inr h) = by (one_either x xs ys h)
  where
    by : OneOf x xs ⊎ OneOf x ys → OneOf x (z ∷ xs) ⊎ OneOf x ys
    by (inl k) = inl (inr k)
    by (inr k) = inr k

pub label_wanted : (a : Algorithm) (u : Routine) (l : Word) → OneOf u (routines a) → OneOf l (label_words u.body) → OneOf (want u l) (wanted a)
label_wanted a u l h k = by (one_either u (procedure_routines a) (main_routines a a.main) h)
  where
    by : OneOf u (procedure_routines a) ⊎ OneOf u (main_routines a a.main) → OneOf (want u l) (wanted a)
    by (inl p) =
        one_left (want u l) (flat_map wanted_by (procedure_routines a)) (wanted_by_main a a.main)
        (one_each wanted_by u (want u l) (procedure_routines a) p (inr (wanted_label u l k)))
    by (inr p) = one_right (want u l) (flat_map wanted_by (procedure_routines a)) (wanted_by_main a a.main) (main_label a a.main u l p k)

-- ---- the names given

record Looked (gs : List Given) (n : ℕ) (x : Word) : Type 0 where
  found : Given
  listed : OneOf found gs
  is : found.want ≡ record { unit = n; role = label; word = x }
  written : written_for gs n label x ≡ found.written

role_is : (r : Role) → same_role r label ≡ true → r ≡ label
role_is title e = cc
role_is variable e = cc
role_is label e = refl

want_is : (w : Want) (n : ℕ) (x : Word) → (is_for n label w && bytes_eq w.word x) ≡ true → w ≡ record { unit = n; role = label; word = x }
want_is w n x e =
    let p = and_parts (is_for n label w) (bytes_eq w.word x) e in
    let q = and_parts (nat_eq w.unit n) (same_role w.role label) p.0 in
    λ i. record { unit = eqb-true w.unit n q.0 i; role = role_is w.role q.1 i; word = (bytes_eq-Decides w.word x).0 p.1 i }

want_found : (w : Want) (n : ℕ) (x : Word) → record { unit = n; role = label; word = x } ≡ w → (is_for n label w && bytes_eq w.word x) ≡ true
want_found w n x e =
    subst (λ v. (is_for n label v && bytes_eq v.word x) ≡ true) e
    (and_from (is_for n label v0) (bytes_eq x x) (and_from (nat_eq n n) (same_role label label) (eq-eqb n n refl) refl)
    ((bytes_eq-Decides x x).1 refl))
  where
    v0 : Want
    v0 = record { unit = n; role = label; word = x }

looked : (extended taken : List Word) (ws : List Want) (n : ℕ) (x : Word) → OneOf (record { unit = n; role = label; word = x }) ws
    → Looked (give extended taken ws) n x
looked extended taken [] n x h = absurd h
looked extended taken (w ∷ ws) n x h =
    by (looked extended (first_free extended taken w.word ∷ taken) ws n x) (is_for n label w && bytes_eq w.word x) refl h
  where
    name : Word
    name = first_free extended taken w.word

    rest : List Given
    rest = give extended (name ∷ taken) ws

    behind : (is_for n label w && bytes_eq w.word x) ≡ false → Looked rest n x → Looked (give extended taken (w ∷ ws)) n x
    behind e f =
        record { found = f.found; listed = inr f.listed; is = f.is; written = ap (λ b. cond b name (written_for rest n label x)) e ∙ f.written }

    true_false : true ≡ false → ⊥
    true_false e = cc

    by : (OneOf (record { unit = n; role = label; word = x }) ws → Looked rest n x) → (b : Bool) → (is_for n label w && bytes_eq w.word x) ≡ b
        → OneOf (record { unit = n; role = label; word = x }) (w ∷ ws) → Looked (give extended taken (w ∷ ws)) n x
    by ih true e h =
        record {
          found = record { want = w; written = name };
          listed = inl refl;
          is = want_is w n x e;
          written = ap (λ b. cond b name (written_for rest n label x)) e;
        }
    by ih false e (inl k) = absurd (true_false (sym (want_found w n x k) ∙ e))
    by ih false e (inr k) = behind e (ih k)

pub one_given : (gs : List Given) (g h : Given) → Apart gs → OneOf g gs → OneOf h gs → g.written ≡ h.written → g ≡ h
one_given [] g h a k l e = absurd k
one_given (f ∷ gs) g h a (inl p) (inl q) e = p ∙ sym q
one_given (f ∷ gs) g h a (inl p) (inr q) e = absurd (every_one (λ h. f.written ≡ h.written → ⊥) h gs a.0 q (sym (ap (λ u. u.written) p) ∙ e))
one_given (f ∷ gs) g h a (inr p) (inl q) e = absurd (every_one (λ h. f.written ≡ h.written → ⊥) g gs a.0 p (sym (ap (λ u. u.written) q) ∙ sym e))
one_given (f ∷ gs) g h a (inr p) (inr q) e = one_given gs g h a.1 p q e

-- labels with the same written name are one
pub one_label : (extended taken : List Word) (ws : List Want) (n m : ℕ) (x y : Word) → Apart (give extended taken ws)
    → OneOf (record { unit = n; role = label; word = x }) ws → OneOf (record { unit = m; role = label; word = y }) ws
    → written_for (give extended taken ws) n label x ≡ written_for (give extended taken ws) m label y → (n ≡ m) × (x ≡ y)
one_label extended taken ws n m x y a h k e = by (looked extended taken ws n x h) (looked extended taken ws m y k)
  where
    by : Looked (give extended taken ws) n x → Looked (give extended taken ws) m y → (n ≡ m) × (x ≡ y)
    by f g =
        let same : f.found ≡ g.found = one_given (give extended taken ws) f.found g.found a f.listed g.listed (sym f.written ∙ e ∙ g.written) in
        let at : record { unit = n; role = label; word = x } ≡ record { unit = m; role = label; word = y } =
        sym f.is ∙ ap (λ u. u.want) same ∙ g.is in
        (ap (λ w. w.unit) at, ap (λ w. w.word) at)
