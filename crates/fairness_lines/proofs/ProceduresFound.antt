-- Procedures of a list, by their names and what they call.
use Rattle.std.proofs.Common.{◌≡◌, inl, inr, ◌⊎◌, ℕ, suc, Bool, true, false, ◌||◌, cond, bytes_eq, List, [], ◌∷◌, map, refl, sym, ap, ◌∙◌, true≢false}
use Rattle.std.proofs.lemmas.List.Folds.{list_any-append}
use Rattle.tla_token.specs.Signs.{is_among}
use Rattle.tla_tree.specs.Tree.{Word}
use Rattle.pcal_tree.specs.Algorithm.{Procedure, Routine, numbered, procedure_routine}
use Rattle.pcal_tree.specs.Processes.{OneOf}
use Rattle.fairness.specs.ReachedProcedures.{calls}
use Rattle.fairness_lines.specs.Tables.{calls_under}
use Rattle.fairness_lines.proofs.NamesFound.{same_names, same_itself, either_true, or_first, or_second}

pub one_procedure : (n : ℕ) (ps : List Procedure) (q : Routine) → OneOf q (numbered procedure_routine n ps) → (p : Procedure) × OneOf p ps × (p.name ≡ q.name) × (p.body ≡ q.body)
one_procedure n [] q h = absurd h
one_procedure n (p ∷ ps) q (inl e) = (p, inl refl, ap (λ (r : Routine). r.name) (sym e), ap (λ (r : Routine). r.body) (sym e))
one_procedure n (p ∷ ps) q (inr h) = later (one_procedure (suc n) ps q h)
  where
    later : (r : Procedure) × OneOf r ps × (r.name ≡ q.name) × (r.body ≡ q.body) → (r : Procedure) × OneOf r (p ∷ ps) × (r.name ≡ q.name) × (r.body ≡ q.body)
    later t = (t.0, inr t.1, t.2, t.3)

pub one_routine : (n : ℕ) (ps : List Procedure) (p : Procedure) → OneOf p ps → (q : Routine) × OneOf q (numbered procedure_routine n ps) × (p.name ≡ q.name) × (p.body ≡ q.body)
one_routine n [] p h = absurd h
one_routine n (r ∷ ps) p (inl e) = (procedure_routine n r, inl refl, ap (λ (s : Procedure). s.name) e, ap (λ (s : Procedure). s.body) e)
one_routine n (r ∷ ps) p (inr h) = later (one_routine (suc n) ps p h)
  where
    later : (q : Routine) × OneOf q (numbered procedure_routine (suc n) ps) × (p.name ≡ q.name) × (p.body ≡ q.body)
        → (q : Routine) × OneOf q (numbered procedure_routine n (r ∷ ps)) × (p.name ≡ q.name) × (p.body ≡ q.body)
    later t = (t.0, inr t.1, t.2, t.3)

pub is_name : (ps : List Procedure) (p : Procedure) → OneOf p ps → is_among (map (λ r. r.name.word) ps) p.name.word ≡ true
is_name [] p h = absurd h
is_name (r ∷ ps) p (inl e) = or_first _ _ (ap (λ (s : Procedure). bytes_eq s.name.word p.name.word) (sym e) ∙ same_itself p.name.word)
is_name (r ∷ ps) p (inr h) = or_second _ _ (is_name ps p h)

pub of_name : (ps : List Procedure) (x : Word) → is_among (map (λ r. r.name.word) ps) x ≡ true → (p : Procedure) × OneOf p ps × (p.name.word ≡ x)
of_name [] x h = absurd (true≢false (sym h))
of_name (p ∷ ps) x h = by (either_true (bytes_eq p.name.word x) (is_among (map (λ r. r.name.word) ps) x) h) (of_name ps x)
  where
    later : (r : Procedure) × OneOf r ps × (r.name.word ≡ x) → (r : Procedure) × OneOf r (p ∷ ps) × (r.name.word ≡ x)
    later t = (t.0, inr t.1, t.2)

    by : (bytes_eq p.name.word x ≡ true) ⊎ (is_among (map (λ r. r.name.word) ps) x ≡ true) → (is_among (map (λ r. r.name.word) ps) x ≡ true → (r : Procedure) × OneOf r ps × (r.name.word ≡ x))
        → (r : Procedure) × OneOf r (p ∷ ps) × (r.name.word ≡ x)
    by (inl q) ih = (p, inl refl, same_names p.name.word x q)
    by (inr q) ih = later (ih q)

pub under_one : (y x : Word) (ps : List Procedure) (p : Procedure) → OneOf p ps → p.name.word ≡ y → is_among (calls p.body) x ≡ true → is_among (calls_under y ps) x ≡ true
under_one y x [] p h e k = absurd h
under_one y x (r ∷ ps) p h e k = list_any-append _ (cond (bytes_eq r.name.word y) (calls r.body) []) (calls_under y ps) ∙ by h (λ q. under_one y x ps p q e k)
  where
    by : (p ≡ r) ⊎ OneOf p ps → (OneOf p ps → is_among (calls_under y ps) x ≡ true) → (is_among (cond (bytes_eq r.name.word y) (calls r.body) []) x || is_among (calls_under y ps) x) ≡ true
    by (inl q) ih =
        or_first _ _
        (ap (λ (b : Bool). is_among (cond b (calls r.body) []) x) (ap (bytes_eq r.name.word) (sym e ∙ ap (λ (s : Procedure). s.name.word) q) ∙ same_itself r.name.word)
        ∙ ap (λ (s : Procedure). is_among (calls s.body) x) (sym q) ∙ k)
    by (inr q) ih = or_second _ _ (ih q)

abbrev pub Under : Word → Word → List Procedure → Type 0
Under y x ps = (p : Procedure) × OneOf p ps × (p.name.word ≡ y) × (is_among (calls p.body) x ≡ true)

pub one_under : (y x : Word) (ps : List Procedure) → is_among (calls_under y ps) x ≡ true → Under y x ps
one_under y x [] h = absurd (true≢false (sym h))
one_under y x (r ∷ ps) h =
    by (bytes_eq r.name.word y) refl (either_true _ _ (sym (list_any-append _ (cond (bytes_eq r.name.word y) (calls r.body) []) (calls_under y ps)) ∙ h)) (one_under y x ps)
  where
    later : Under y x ps → Under y x (r ∷ ps)
    later t = (t.0, inr t.1, t.2, t.3)

    by : (b : Bool) → bytes_eq r.name.word y ≡ b → (is_among (cond b (calls r.body) []) x ≡ true) ⊎ (is_among (calls_under y ps) x ≡ true)
        → (is_among (calls_under y ps) x ≡ true → Under y x ps) → Under y x (r ∷ ps)
    by true e (inl q) ih = (r, inl refl, same_names r.name.word y e, q)
    by false e (inl q) ih = absurd (true≢false (sym q))
    by b e (inr q) ih = later (ih q)
