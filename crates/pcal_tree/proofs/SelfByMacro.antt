-- The macros that calls reach use the names that are found by looking through each call.
use Rattle.std.proofs.Common.{◌≡◌, List, [], ◌∷◌, ◌++◌, Bool, true, false, ◌&&◌, ◌||◌, not, cond, bytes_eq, reverse, Contains, ◌↔◌, refl, sym, ◌∙◌, ap}
use Rattle.std.specs.List.{list_any, flat_map}
use Rattle.std.proofs.lemmas.List.Folds.{list_any-append}
use Rattle.std.proofs.lemmas.Slice.Eq.{bytes_eq-Decides}
use Rattle.tla_token.specs.declared.rule.Refusal.{Refusal}
use Rattle.tla_token.specs.Signs.{is_among}
use Rattle.tla_tree.specs.Tree.{Word}
use Rattle.pcal_tree.specs.Algorithm.{Name, Statements, Macro, Procedure, Main, alone, processes, Algorithm}
use Rattle.pcal_tree.specs.Offences.{first}
use Rattle.pcal_tree.specs.OffencesCounts.{calls_of}
use Rattle.pcal_tree.specs.OffencesSelf.{self_offence, selves, used_by_starts, without, reached, used_in_macros, used_by_procedure, used_outside, used_at_the_top, self_offences}
use Rattle.pcal_tree.specs.Spots.{used_in_body}
use Rattle.pcal_tree.specs.laws.MacroSelves.{used_through, used_by_macro, used_through_procedure, used_outside_by_calls, self_offences_by_calls}
use Rattle.pcal_tree.proofs.FirstLaws.{same_offences, same_first}
use Rattle.pcal_tree.proofs.SetLaws.{Same, same_both, any_flat, or_both, or_mixed}
use Rattle.pcal_tree.proofs.UsesByMacro.{same_before}

-- ---- words

pub turned : (x y : Word) → bytes_eq x y ≡ bytes_eq y x
turned x y = by (bytes_eq x y) (bytes_eq y x) (λ e. (bytes_eq-Decides y x).1 (sym ((bytes_eq-Decides x y).0 e))) (λ e. (bytes_eq-Decides x y).1 (sym ((bytes_eq-Decides y x).0 e)))
  where
    by : (b c : Bool) → (b ≡ true → c ≡ true) → (c ≡ true → b ≡ true) → b ≡ c
    by true c h k = sym (h refl)
    by false true h k = k refl
    by false false h k = refl

absent : (x : Word) (ms : List Word) → is_among ms x ≡ false → without x ms ≡ ms
absent x [] e = refl
absent x (m ∷ ms) e = by (bytes_eq m x) (turned x m) e (absent x ms)
  where
    by : (b : Bool) → bytes_eq x m ≡ b → (b || is_among ms x) ≡ false → (is_among ms x ≡ false → without x ms ≡ ms)
        → cond (not (bytes_eq x m)) (m ∷ without x ms) (without x ms) ≡ m ∷ ms
    by true h e rest = cc
    by false h e rest = ap (λ (b : Bool). cond (not b) (m ∷ without x ms) (without x ms)) h ∙ ap (λ (ns : List Word). m ∷ ns) (rest e)

-- ---- calls

-- some call leads to a name that passes the test
abbrev Leads : (Name → Bool) → (Word → List Name) → List Word → Bool
Leads f C ms = list_any (λ m. list_any f (C m)) ms

-- calls of x apart from the others
apart : (f : Name → Bool) (x : Word) (ns : List Name) (C : Word → List Name) (ms : List Word)
    → Leads f (λ m. cond (bytes_eq x m) ns (C m)) ms ≡ ((is_among ms x && list_any f ns) || Leads f C (without x ms))
apart f x ns C [] = refl
apart f x ns C (m ∷ ms) =
    ap (λ (b : Bool). list_any f (cond (bytes_eq x m) ns (C m)) || b) (apart f x ns C ms)
    ∙ by (bytes_eq x m)
    ∙ ap (λ (b : Bool). ((b || is_among ms x) && list_any f ns) || Leads f C (without x (m ∷ ms))) (turned x m)
  where
    use_here : (a t w : Bool) → (t || ((a && t) || w)) ≡ (t || w)
    use_here a true w = refl
    use_here true false w = refl
    use_here false false w = refl

    use_there : (h a w : Bool) → (h || (a || w)) ≡ (a || (h || w))
    use_there true true w = refl
    use_there true false w = refl
    use_there false a w = refl

    by : (b : Bool) → (list_any f (cond b ns (C m)) || ((is_among ms x && list_any f ns) || Leads f C (without x ms)))
        ≡ (((b || is_among ms x) && list_any f ns) || Leads f C (cond (not b) (m ∷ without x ms) (without x ms)))
    by true = use_here (is_among ms x) (list_any f ns) (Leads f C (without x ms))
    by false = use_there (list_any f (C m)) (is_among ms x && list_any f ns) (Leads f C (without x ms))

-- those that the calls reach use what the calls lead to
reached_same : (ds : List Macro) (ms : List Word) (f : Name → Bool) → list_any f (used_in_macros (reached ms ds)) ≡ Leads f (used_by_macro ds) ms
reached_same [] [] f = refl
reached_same [] (m ∷ ms) f = reached_same [] ms f
reached_same (d ∷ older) ms f = by (is_among ms d.name.word) refl (λ ns. reached_same older ns f) ∙ sym (apart f d.name.word inner (used_by_macro older) ms)
  where
    own : List Name
    own = used_in_body d.body

    inner : List Name
    inner = used_through (used_by_macro older) d.body

    others : List Word
    others = without d.name.word ms

    C : Word → List Name
    C = used_by_macro older

    by : (b : Bool) → is_among ms d.name.word ≡ b → ((ns : List Word) → list_any f (used_in_macros (reached ns older)) ≡ Leads f C ns)
        → list_any f (used_in_macros (cond b (d ∷ reached (calls_of d.body ++ others) older) (reached ms older))) ≡ ((b && list_any f inner) || Leads f C others)
    by true e rest =
        list_any-append f own (used_in_macros (reached (calls_of d.body ++ others) older))
        ∙ ap (λ (b : Bool). list_any f own || b) (rest (calls_of d.body ++ others) ∙ list_any-append (λ m. list_any f (C m)) (calls_of d.body) others)
        ∙ sym (or_both (list_any f own) (Leads f C (calls_of d.body)) (Leads f C others))
        ∙ ap (λ (b : Bool). (list_any f own || b) || Leads f C others) (sym (any_flat f C (calls_of d.body)))
        ∙ ap (λ (b : Bool). b || Leads f C others) (sym (list_any-append f own (flat_map C (calls_of d.body))))
    by false e rest = rest ms ∙ ap (Leads f C) (sym (absent d.name.word ms e))

-- ---- algorithms

through_body : (C : Word → List Name) (b : Statements) (f : Name → Bool) → list_any f (used_through C b) ≡ (list_any f (used_in_body b) || Leads f C (calls_of b))
through_body C b f = list_any-append f (used_in_body b) (flat_map C (calls_of b)) ∙ ap (λ (c : Bool). list_any f (used_in_body b) || c) (any_flat f C (calls_of b))

abbrev procedure_calls : List Procedure → List Word
procedure_calls ps = flat_map (λ p. calls_of p.body) ps

through_procedures : (C : Word → List Name) (ps : List Procedure) (f : Name → Bool)
    → list_any f (flat_map (used_through_procedure C) ps) ≡ (list_any f (flat_map used_by_procedure ps) || Leads f C (procedure_calls ps))
through_procedures C [] f = refl
through_procedures C (p ∷ ps) f =
    list_any-append f (used_through_procedure C p) (flat_map (used_through_procedure C) ps)
    ∙ (λ i. one i || through_procedures C ps f i)
    ∙ or_mixed (list_any f (used_by_procedure p)) (Leads f C (calls_of p.body)) (list_any f (flat_map used_by_procedure ps)) (Leads f C (procedure_calls ps))
    ∙ sym (λ i. list_any-append f (used_by_procedure p) (flat_map used_by_procedure ps) i || list_any-append (λ m. list_any f (C m)) (calls_of p.body) (procedure_calls ps) i)
  where
    starts : List Name
    starts = used_by_starts (p.params ++ p.variables)

    one : list_any f (used_through_procedure C p) ≡ (list_any f (used_by_procedure p) || Leads f C (calls_of p.body))
    one =
        list_any-append f starts (used_through C p.body)
        ∙ ap (λ (b : Bool). list_any f starts || b) (through_body C p.body f)
        ∙ sym (or_both (list_any f starts) (list_any f (used_in_body p.body)) (Leads f C (calls_of p.body)))
        ∙ ap (λ (b : Bool). b || Leads f C (calls_of p.body)) (sym (list_any-append f starts (used_in_body p.body)))

outside_same : (a : Algorithm) (m : Main) → Same (used_outside a m) (used_outside_by_calls (used_by_macro (reverse a.macros)) a m)
outside_same a (processes ps) f = refl
outside_same a (alone b) f =
    list_any-append f procedures (used_in_body b ++ used_in_macros (reached calls ds))
    ∙ ap (λ (c : Bool). list_any f procedures || c)
    (list_any-append f (used_in_body b) (used_in_macros (reached calls ds))
    ∙ ap (λ (c : Bool). list_any f (used_in_body b) || c) (reached_same ds calls f ∙ list_any-append (λ m. list_any f (C m)) (procedure_calls a.procedures) (calls_of b)))
    ∙ mixed (list_any f procedures) (list_any f (used_in_body b)) (Leads f C (procedure_calls a.procedures)) (Leads f C (calls_of b))
    ∙ sym (λ i. through_procedures C a.procedures f i || through_body C b f i)
    ∙ sym (list_any-append f (flat_map (used_through_procedure C) a.procedures) (used_through C b))
  where
    ds : List Macro
    ds = reverse a.macros

    C : Word → List Name
    C = used_by_macro ds

    procedures : List Name
    procedures = flat_map used_by_procedure a.procedures

    calls : List Word
    calls = procedure_calls a.procedures ++ calls_of b

    mixed : (p q r s : Bool) → (p || (q || (r || s))) ≡ ((p || r) || (q || s))
    mixed true q r s = refl
    mixed false true true s = refl
    mixed false true false s = refl
    mixed false false r s = refl

selves_same : (xs ys : List Name) → Same xs ys → Same (selves xs) (selves ys)
selves_same xs ys s f = any_flat f self_offence xs ∙ s (λ n. list_any f (self_offence n)) ∙ sym (any_flat f self_offence ys)

self_same : (a : Algorithm) → Same (self_offences a) (self_offences_by_calls a)
self_same a =
    let through_calls = used_outside_by_calls (used_by_macro (reverse a.macros)) a a.main in
    selves_same (used_at_the_top a ++ used_outside a a.main) (used_at_the_top a ++ through_calls)
    (same_both (used_at_the_top a) (used_at_the_top a) (used_outside a a.main) through_calls (λ f. refl) (outside_same a a.main))

pub selves_alike : (a : Algorithm) (r : Refusal) → Contains (self_offences a) r ↔ Contains (self_offences_by_calls a) r
selves_alike a = same_offences (self_offences a) (self_offences_by_calls a) (self_same a)

pub first_self : (a : Algorithm) (others : List Refusal) → first (self_offences a ++ others) ≡ first (self_offences_by_calls a ++ others)
first_self a others =
    same_first (self_offences a ++ others) (self_offences_by_calls a ++ others) (same_before (self_offences a) (self_offences_by_calls a) others (self_same a))
