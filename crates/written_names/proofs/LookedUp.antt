-- What is looked up in the names that were given is what the routines have.
use Rattle.std.proofs.Common.{◌≡◌, ℕ, zero, suc, ◌+◌, ◌-◌, ◌<◌, ◌≤◌, List, [], ◌∷◌, ◌++◌, length, map, get_or, Bool, true, false, ◌&&◌, cond, bytes_eq, nat_eq, Option, Some, None, unwrap_or, refl, sym, ◌∙◌, ap, arith, eqb-true, eq-eqb, ne_eqb, append_assoc, replicate}
use Rattle.std.proofs.lemmas.Bool.{eqb-false}
use Rattle.std.proofs.lemmas.List.{length-map}
use Rattle.pcal_tree.specs.OffencesLabels.{label_words}
use Rattle.pcal_tree.specs.Variables.{declared}
use Rattle.std.specs.List.{flat_map}
use Rattle.tla_tree.specs.Tree.{Word}
use Rattle.pcal_tree.specs.Algorithm.{Procedure, Process, Main, alone, processes, Algorithm, numbered, procedure_routine, process_routine, first_procedure, first_process}
use Rattle.pcal_tree.specs.Names.{first_free, Role, title, variable, label, Want, wants, Given, give, same_role, is_for, written_for, title_for, naming_by, wanted, wanted_by, wanted_by_main}
use Rattle.written_names.specs.declared.naming.UnitNames.{UnitNames}
use Rattle.written_names.specs.Giving.{taken_after, first_named, found, first_of}
use Rattle.written_names.specs.Units.{no_names, naming_of, Asked, asked_procedure, asked_process, asked_main, asked, title_given, after_unit, AreUnits}
use Rattle.written_names.proofs.Given.{first_none}

-- ---- what is found, if anything

abbrev found_for : List Given → ℕ → Role → Word → Option Word
found_for [] n r x = None
found_for (g ∷ gs) n r x = cond (is_for n r g.want && bytes_eq g.want.word x) (Some g.written) (found_for gs n r x)

abbrev titled : List Given → ℕ → Option Word
titled [] n = None
titled (g ∷ gs) n = cond (is_for n title g.want) (Some g.written) (titled gs n)

written_found : (gs : List Given) (n : ℕ) (r : Role) (x : Word) → written_for gs n r x ≡ unwrap_or (found_for gs n r x) x
written_found [] n r x = refl
written_found (g ∷ gs) n r x = by (is_for n r g.want && bytes_eq g.want.word x) (written_found gs n r x)
  where
    by : (b : Bool) → written_for gs n r x ≡ unwrap_or (found_for gs n r x) x → cond b g.written (written_for gs n r x) ≡ unwrap_or (cond b (Some g.written) (found_for gs n r x)) x
    by true ih = refl
    by false ih = ih

title_found : (gs : List Given) (n : ℕ) → title_for gs n ≡ unwrap_or (titled gs n) []
title_found [] n = refl
title_found (g ∷ gs) n = by (is_for n title g.want) (title_found gs n)
  where
    by : (b : Bool) → title_for gs n ≡ unwrap_or (titled gs n) [] → cond b g.written (title_for gs n) ≡ unwrap_or (cond b (Some g.written) (titled gs n)) []
    by true ih = refl
    by false ih = ih

-- ---- words of one role in one unit, before others

module _ (extended : List Word) where
  found_here : (taken : List Word) (n m : ℕ) (r : Role) (ws : List Word) (vs : List Want) (x : Word) → (nat_eq n m && same_role r r) ≡ true
      → found_for (give extended taken (wants n r ws ++ vs)) m r x ≡ first_of (first_named extended taken ws x) (found_for (give extended (taken_after extended taken ws) vs) m r x)
  found_here taken n m r [] vs x e = refl
  found_here taken n m r (w ∷ ws) vs x e =
      ap (λ c. cond (c && bytes_eq w x) (Some name) (found_for (give extended (name ∷ taken) (wants n r ws ++ vs)) m r x)) e
      ∙ by (bytes_eq w x) (found_here (name ∷ taken) n m r ws vs x e)
    where
      name : Word
      name = first_free extended taken w

      by : (b : Bool) → found_for (give extended (name ∷ taken) (wants n r ws ++ vs)) m r x
          ≡ first_of (first_named extended (name ∷ taken) ws x) (found_for (give extended (taken_after extended (name ∷ taken) ws) vs) m r x)
          → cond (true && b) (Some name) (found_for (give extended (name ∷ taken) (wants n r ws ++ vs)) m r x)
          ≡ first_of (cond b (Some name) (first_named extended (name ∷ taken) ws x)) (found_for (give extended (taken_after extended (name ∷ taken) ws) vs) m r x)
      by true ih = refl
      by false ih = ih

  found_past : (taken : List Word) (n m : ℕ) (r s : Role) (ws : List Word) (vs : List Want) (x : Word) → (nat_eq n m && same_role r s) ≡ false
      → found_for (give extended taken (wants n r ws ++ vs)) m s x ≡ found_for (give extended (taken_after extended taken ws) vs) m s x
  found_past taken n m r s [] vs x e = refl
  found_past taken n m r s (w ∷ ws) vs x e =
      ap (λ c. cond (c && bytes_eq w x) (Some name) (found_for (give extended (name ∷ taken) (wants n r ws ++ vs)) m s x)) e
      ∙ found_past (name ∷ taken) n m r s ws vs x e
    where
      name : Word
      name = first_free extended taken w

  titled_past : (taken : List Word) (n m : ℕ) (r : Role) (ws : List Word) (vs : List Want) → (nat_eq n m && same_role r title) ≡ false
      → titled (give extended taken (wants n r ws ++ vs)) m ≡ titled (give extended (taken_after extended taken ws) vs) m
  titled_past taken n m r [] vs e = refl
  titled_past taken n m r (w ∷ ws) vs e =
      ap (λ c. cond c (Some name) (titled (give extended (name ∷ taken) (wants n r ws ++ vs)) m)) e ∙ titled_past (name ∷ taken) n m r ws vs e
    where
      name : Word
      name = first_free extended taken w

-- ---- routine after routine

abbrev wants_of : ℕ → Asked → List Want → List Want
wants_of n q rest = wants n title q.titles ++ (wants n variable q.variables ++ (wants n label q.labels ++ rest))

abbrev wants_from : ℕ → List Asked → List Want
wants_from n [] = []
wants_from n (q ∷ qs) = wants_of n q (wants_from (suc n) qs)

-- the names of the unit of a number, where the first of these has the number n
abbrev unit_from : ℕ → List UnitNames → ℕ → UnitNames
unit_from n [] m = no_names
unit_from n (u ∷ us) m = cond (nat_eq n m) u (unit_from (suc n) us m)

before_all : (n : ℕ) (us : List UnitNames) (m : ℕ) → m < n → unit_from n us m ≡ no_names
before_all n [] m l = refl
before_all n (u ∷ us) m l =
    ap (λ c. cond c u (unit_from (suc n) us m)) (ne_eqb n m (λ e. absurd (less n m l e))) ∙ before_all (suc n) us m (omega arith)
  where
    less : (n m : ℕ) → m < n → n ≡ m → ⊥
    less n m l e = omega arith

no_role : (b : Bool) → (b && false) ≡ false
no_role true = refl
no_role false = refl

same_number : (n m : ℕ) (r : Role) → nat_eq n m ≡ true → same_role r r ≡ true → (nat_eq n m && same_role r r) ≡ true
same_number n m r e f = λ i. e i && f i

other_number : (n m : ℕ) (b : Bool) → nat_eq n m ≡ false → (nat_eq n m && b) ≡ false
other_number n m b e = ap (λ c. c && b) e

module _ (extended : List Word) where
  local_here : (taken : List Word) (n m : ℕ) (q : Asked) (rest : List Want) (x : Word) → nat_eq n m ≡ true
      → found_for (give extended taken (wants_of n q rest)) m variable x
      ≡ first_of (first_named extended (taken_after extended taken q.titles) q.variables x) (found_for (give extended (after_unit extended taken q) rest) m variable x)
  local_here taken n m q rest x e =
      found_past extended taken n m title variable q.titles _ x (no_role (nat_eq n m))
      ∙ found_here extended (taken_after extended taken q.titles) n m variable q.variables _ x (same_number n m variable e refl)
      ∙ ap (first_of (first_named extended (taken_after extended taken q.titles) q.variables x))
      (found_past extended (taken_after extended (taken_after extended taken q.titles) q.variables) n m label variable q.labels rest x (no_role (nat_eq n m)))

  label_here : (taken : List Word) (n m : ℕ) (q : Asked) (rest : List Want) (x : Word) → nat_eq n m ≡ true
      → found_for (give extended taken (wants_of n q rest)) m label x
      ≡ first_of (first_named extended (taken_after extended (taken_after extended taken q.titles) q.variables) q.labels x) (found_for (give extended (after_unit extended taken q) rest) m label x)
  label_here taken n m q rest x e =
      found_past extended taken n m title label q.titles _ x (no_role (nat_eq n m))
      ∙ found_past extended (taken_after extended taken q.titles) n m variable label q.variables _ x (no_role (nat_eq n m))
      ∙ found_here extended (taken_after extended (taken_after extended taken q.titles) q.variables) n m label q.labels rest x (same_number n m label e refl)

  none_there : (taken : List Word) (n m : ℕ) (q : Asked) (rest : List Want) (s : Role) (x : Word) → nat_eq n m ≡ false
      → found_for (give extended taken (wants_of n q rest)) m s x ≡ found_for (give extended (after_unit extended taken q) rest) m s x
  none_there taken n m q rest s x e =
      found_past extended taken n m title s q.titles _ x (other_number n m (same_role title s) e)
      ∙ found_past extended (taken_after extended taken q.titles) n m variable s q.variables _ x (other_number n m (same_role variable s) e)
      ∙ found_past extended (taken_after extended (taken_after extended taken q.titles) q.variables) n m label s q.labels rest x (other_number n m (same_role label s) e)

  untitled : (taken : List Word) (n m : ℕ) (vs ls : List Word) (rest : List Want)
      → titled (give extended taken (wants n variable vs ++ (wants n label ls ++ rest))) m
      ≡ titled (give extended (taken_after extended (taken_after extended taken vs) ls) rest) m
  untitled taken n m vs ls rest =
      titled_past extended taken n m variable vs _ (no_role (nat_eq n m))
      ∙ titled_past extended (taken_after extended taken vs) n m label ls rest (no_role (nat_eq n m))

  title_here : (taken : List Word) (n m : ℕ) (ts : List Word) (vs ls : List Word) (rest : List Want) → nat_eq n m ≡ true
      → unwrap_or (titled (give extended (taken_after extended (taken_after extended (taken_after extended taken ts) vs) ls) rest) m) [] ≡ []
      → unwrap_or (titled (give extended taken (wants_of n (record { titles = ts; variables = vs; labels = ls }) rest)) m) [] ≡ title_given extended taken ts
  title_here taken n m [] vs ls rest e none = ap (λ o. unwrap_or o []) (untitled taken n m vs ls rest) ∙ none
  title_here taken n m (t ∷ ts) vs ls rest e none =
      ap (λ c. unwrap_or (cond (c && true) (Some (first_free extended taken t)) (titled (give extended (first_free extended taken t ∷ taken) (wants n title ts ++ (wants n variable vs ++ (wants n label ls ++ rest)))) m)) []) e

  title_there : (taken : List Word) (n m : ℕ) (q : Asked) (rest : List Want) → nat_eq n m ≡ false
      → titled (give extended taken (wants_of n q rest)) m ≡ titled (give extended (after_unit extended taken q) rest) m
  title_there taken n m q rest e =
      titled_past extended taken n m title q.titles _ (other_number n m true e)
      ∙ untitled (taken_after extended taken q.titles) n m q.variables q.labels rest

  -- ---- in all of them

  locals_found : (taken : List Word) (n m : ℕ) (qs : List Asked) (us : List UnitNames) (x : Word) → AreUnits extended taken qs us
      → found_for (give extended taken (wants_from n qs)) m variable x ≡ found (unit_from n us m).variables x
  locals_found taken n m [] [] x h = refl
  locals_found taken n m [] (u ∷ us) x h = absurd h
  locals_found taken n m (q ∷ qs) [] x h = absurd h
  locals_found taken n m (q ∷ qs) (u ∷ us) x h = by (nat_eq n m) refl (locals_found (after_unit extended taken q) (suc n) m qs us x h.1)
    where
      rest : Option Word
      rest = found_for (give extended (after_unit extended taken q) (wants_from (suc n) qs)) m variable x

      own : Option Word
      own = first_named extended (taken_after extended taken q.titles) q.variables x

      by : (b : Bool) → nat_eq n m ≡ b → rest ≡ found (unit_from (suc n) us m).variables x
          → found_for (give extended taken (wants_from n (q ∷ qs))) m variable x ≡ found (cond b u (unit_from (suc n) us m)).variables x
      by true e ih =
          local_here taken n m q (wants_from (suc n) qs) x e
          ∙ ap (first_of own) (ih ∙ ap (λ (v : UnitNames). found v.variables x) (before_all (suc n) us m (let k = eqb-true n m e in omega arith)))
          ∙ first_none own
          ∙ sym (h.0.within.variables x)
      by false e ih = none_there taken n m q (wants_from (suc n) qs) variable x e ∙ ih

  labels_found : (taken : List Word) (n m : ℕ) (qs : List Asked) (us : List UnitNames) (x : Word) → AreUnits extended taken qs us
      → found_for (give extended taken (wants_from n qs)) m label x ≡ found (unit_from n us m).labels x
  labels_found taken n m [] [] x h = refl
  labels_found taken n m [] (u ∷ us) x h = absurd h
  labels_found taken n m (q ∷ qs) [] x h = absurd h
  labels_found taken n m (q ∷ qs) (u ∷ us) x h = by (nat_eq n m) refl (labels_found (after_unit extended taken q) (suc n) m qs us x h.1)
    where
      rest : Option Word
      rest = found_for (give extended (after_unit extended taken q) (wants_from (suc n) qs)) m label x

      own : Option Word
      own = first_named extended (taken_after extended (taken_after extended taken q.titles) q.variables) q.labels x

      by : (b : Bool) → nat_eq n m ≡ b → rest ≡ found (unit_from (suc n) us m).labels x
          → found_for (give extended taken (wants_from n (q ∷ qs))) m label x ≡ found (cond b u (unit_from (suc n) us m)).labels x
      by true e ih =
          label_here taken n m q (wants_from (suc n) qs) x e
          ∙ ap (first_of own) (ih ∙ ap (λ (v : UnitNames). found v.labels x) (before_all (suc n) us m (let k = eqb-true n m e in omega arith)))
          ∙ first_none own
          ∙ sym (h.0.within.labels x)
      by false e ih = none_there taken n m q (wants_from (suc n) qs) label x e ∙ ih

  titles_found : (taken : List Word) (n m : ℕ) (qs : List Asked) (us : List UnitNames) → AreUnits extended taken qs us
      → unwrap_or (titled (give extended taken (wants_from n qs)) m) [] ≡ (unit_from n us m).title
  titles_found taken n m [] [] h = refl
  titles_found taken n m [] (u ∷ us) h = absurd h
  titles_found taken n m (q ∷ qs) [] h = absurd h
  titles_found taken n m (q ∷ qs) (u ∷ us) h = by (nat_eq n m) refl (titles_found (after_unit extended taken q) (suc n) m qs us h.1)
    where
      by : (b : Bool) → nat_eq n m ≡ b
          → unwrap_or (titled (give extended (after_unit extended taken q) (wants_from (suc n) qs)) m) [] ≡ (unit_from (suc n) us m).title
          → unwrap_or (titled (give extended taken (wants_from n (q ∷ qs))) m) [] ≡ (cond b u (unit_from (suc n) us m)).title
      by true e ih =
          title_here taken n m q.titles q.variables q.labels (wants_from (suc n) qs) e
          (ih ∙ ap (λ (v : UnitNames). v.title) (before_all (suc n) us m (let k = eqb-true n m e in omega arith)))
          ∙ sym h.0.title
      by false e ih = ap (λ o. unwrap_or o []) (title_there taken n m q (wants_from (suc n) qs) e) ∙ ih

-- ---- behind units without names

at_first : (us : List UnitNames) (n m : ℕ) → n ≤ m → unit_from n us m ≡ get_or us (m - n) no_names
at_first [] n m l = refl
at_first (u ∷ us) n m l = by (nat_eq n m) refl (at_first us (suc n) m)
  where
    by : (b : Bool) → nat_eq n m ≡ b → (suc n ≤ m → unit_from (suc n) us m ≡ get_or us (m - suc n) no_names)
        → cond b u (unit_from (suc n) us m) ≡ get_or (u ∷ us) (m - n) no_names
    by true e ih = let k = eqb-true n m e in let first : 0 ≡ m - n = omega arith in ap (λ k. get_or (u ∷ us) k no_names) first
    by false e ih =
        let k = eqb-false n m e in
        let later : suc (m - suc n) ≡ m - n = omega (arith, k) in
        ih (omega (arith, k)) ∙ ap (λ j. get_or (u ∷ us) j no_names) later

next_number : (k m : ℕ) → nat_eq k m ≡ nat_eq (suc k) (suc m)
next_number k m = by (nat_eq k m) refl
  where
    by : (b : Bool) → nat_eq k m ≡ b → b ≡ nat_eq (suc k) (suc m)
    by true e = let h = eqb-true k m e in sym (eq-eqb (suc k) (suc m) (omega arith))
    by false e = let h = eqb-false k m e in sym (ne_eqb (suc k) (suc m) (λ s. h (omega arith)))

padded : (k : ℕ) (us : List UnitNames) (m : ℕ) → get_or (replicate k no_names ++ us) m no_names ≡ unit_from k us m
padded zero us m = let whole : m - 0 ≡ m = omega arith in sym (at_first us 0 m (omega arith) ∙ ap (λ k. get_or us k no_names) whole)
padded (suc k) us zero = sym (before_all (suc k) us 0 (omega arith))
padded (suc k) us (suc m) = padded k us m ∙ earlier k us m
  where
    earlier : (k : ℕ) (us : List UnitNames) (m : ℕ) → unit_from k us m ≡ unit_from (suc k) us (suc m)
    earlier k [] m = refl
    earlier k (u ∷ us) m = (λ i. cond (next_number k m i) u (earlier (suc k) us m i))

pub naming_is : (extended taken : List Word) (k : ℕ) (qs : List Asked) (us : List UnitNames) → AreUnits extended taken qs us
    → naming_of (replicate k no_names ++ us) ≡ naming_by (give extended taken (wants_from k qs))
naming_is extended taken k qs us h = λ i. record {
  local = λ n x. at_local n x i;
  label = λ n x. at_label n x i;
  title = λ n. at_title n i;
}
  where
    gs : List Given
    gs = give extended taken (wants_from k qs)

    at_local : (n : ℕ) (x : Word) → unwrap_or (found (get_or (replicate k no_names ++ us) n no_names).variables x) x ≡ written_for gs n variable x
    at_local n x =
        ap (λ (v : UnitNames). unwrap_or (found v.variables x) x) (padded k us n)
        ∙ ap (λ o. unwrap_or o x) (sym (locals_found extended taken k n qs us x h))
        ∙ sym (written_found gs n variable x)

    at_label : (n : ℕ) (x : Word) → unwrap_or (found (get_or (replicate k no_names ++ us) n no_names).labels x) x ≡ written_for gs n label x
    at_label n x =
        ap (λ (v : UnitNames). unwrap_or (found v.labels x) x) (padded k us n)
        ∙ ap (λ o. unwrap_or o x) (sym (labels_found extended taken k n qs us x h))
        ∙ sym (written_found gs n label x)

    at_title : (n : ℕ) → (get_or (replicate k no_names ++ us) n no_names).title ≡ title_for gs n
    at_title n =
        ap (λ (v : UnitNames). v.title) (padded k us n) ∙ sym (titles_found extended taken k n qs us h) ∙ sym (title_found gs n)

-- ---- the algorithm's

wants_both : (n : ℕ) (qs rs : List Asked) → wants_from n (qs ++ rs) ≡ wants_from n qs ++ wants_from (n + length qs) rs
wants_both n [] rs = ap (λ k. wants_from k rs) (omega arith)
wants_both n (q ∷ qs) rs =
    ap (wants_of n q) (wants_both (suc n) qs rs ∙ ap (λ k. wants_from (suc n) qs ++ wants_from k rs) (omega arith))
    ∙ sym (append_assoc (wants n title q.titles) (wants n variable q.variables ++ (wants n label q.labels ++ wants_from (suc n) qs)) (wants_from (n + length (q ∷ qs)) rs)
    ∙ ap (λ l. wants n title q.titles ++ l) (append_assoc (wants n variable q.variables) (wants n label q.labels ++ wants_from (suc n) qs) (wants_from (n + length (q ∷ qs)) rs)
    ∙ ap (λ l. wants n variable q.variables ++ l) (append_assoc (wants n label q.labels) (wants_from (suc n) qs) (wants_from (n + length (q ∷ qs)) rs))))

of_procedures : (n : ℕ) (ps : List Procedure) → flat_map wanted_by (numbered procedure_routine n ps) ≡ wants_from n (map asked_procedure ps)
of_procedures n [] = refl
of_procedures n (p ∷ ps) =
    ap (λ l. wanted_by (procedure_routine n p) ++ l) (of_procedures (suc n) ps)
    ∙ ap (λ l. record { unit = n; role = title; word = p.name.word } ∷ l)
    (append_assoc (wants n variable (declared (p.params ++ p.variables))) (wants n label (label_words p.body)) (wants_from (suc n) (map asked_procedure ps)))

of_processes : (n : ℕ) (ps : List Process) → flat_map wanted_by (numbered process_routine n ps) ≡ wants_from n (map asked_process ps)
of_processes n [] = refl
of_processes n (p ∷ ps) =
    ap (λ l. wanted_by (process_routine n p) ++ l) (of_processes (suc n) ps)
    ∙ ap (λ l. record { unit = n; role = title; word = p.name.word } ∷ l)
    (append_assoc (wants n variable (declared p.variables)) (wants n label (label_words p.body)) (wants_from (suc n) (map asked_process ps)))

of_main : (a : Algorithm) (m : Main) → wanted_by_main a m ≡ wants_from (first_process a) (asked_main m)
of_main a (alone b) = refl
of_main a (processes ps) = of_processes (first_process a) ps

pub wanted_is : (a : Algorithm) → wanted a ≡ wants_from (first_procedure a) (asked a)
wanted_is a =
    (λ i. of_procedures (first_procedure a) a.procedures i ++ of_main a a.main i)
    ∙ ap (λ k. wants_from (first_procedure a) (map asked_procedure a.procedures) ++ wants_from (first_procedure a + k) (asked_main a.main)) (sym (length-map a.procedures asked_procedure))
    ∙ sym (wants_both (first_procedure a) (map asked_procedure a.procedures) (asked_main a.main))
