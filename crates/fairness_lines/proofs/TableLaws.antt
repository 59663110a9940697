-- The names that a work list marks over a table of procedures are the least closed set of names.
use Rattle.std.proofs.Common.{◌≡◌, ℕ, ◌<◌, Bool, true, false, List, [], length, map, get_or, Option, Some, None, sym, ap, ◌∙◌, subst, arith}
use Rattle.std.specs.Prelude.{slice_get}
use Rattle.std.proofs.lemmas.List.{length-map}
use Rattle.std.proofs.lemmas.Option.{slice_get-get_or}
use Rattle.tla_token.specs.Signs.{is_among}
use Rattle.tla_tree.specs.Tree.{Word}
use Rattle.pcal_tree.specs.Algorithm.{Procedure, Routine, numbered, procedure_routine}
use Rattle.pcal_tree.specs.Processes.{OneOf}
use Rattle.name_bits.proofs.NameLaws.{place_is}
use Rattle.fairness.specs.ReachedProcedures.{calls}
use Rattle.fairness_lines.specs.LeastSets.{IsClosed, IsLeast}
use Rattle.fairness_lines.specs.Numbers.{numbers_in}
use Rattle.fairness_lines.specs.WorkLists.{IsClosedUnder, IsLeastOf}
use Rattle.fairness_lines.specs.Tables.{calls_under, IsTable, mark_at, marked_word}
use Rattle.fairness_lines.proofs.NamesFound.{there, at_place, HasNumber, numbered_in, named_in, number_of}
use Rattle.fairness_lines.proofs.ProceduresFound.{one_procedure, one_routine, is_name, of_name, under_one, Under, one_under}

module _ (n : ℕ) (ps : List Procedure) (names : List Word) (rows : List (List ℕ)) (t : IsTable ps names rows) (u : Routine) (marks : List Bool) (h : IsLeastOf rows (numbers_in names (calls u.body)) marks) where
  abbrev us : List Routine
  us = numbered procedure_routine n ps

  long : length rows ≡ length names
  long = ap length t.called ∙ length-map names (λ x. numbers_in names (calls_under x ps))

  abbrev number : (q : Routine) → OneOf q us → (i : ℕ) × HasNumber names q.name.word i
  number q k =
      let p = one_procedure n ps q k in
      number_of names q.name.word (t.among q.name.word ∙ ap (λ x. is_among (map (λ r. r.name.word) ps) x.word) (sym p.2) ∙ is_name ps p.0 p.1)

  within : (x : Word) (i : ℕ) → HasNumber names x i → i < length rows
  within x i e = (let l = (place_is x names i e).1 in omega (arith, l, long))

  row_is : (x : Word) (i : ℕ) → HasNumber names x i → get_or rows i [] ≡ numbers_in names (calls_under x ps)
  row_is x i e = ap (λ (rs : List (List ℕ)). get_or rs i []) t.called ∙ at_place (λ x. numbers_in names (calls_under x ps)) names i x [] (place_is x names i e).0

  is_marked : (x : Word) (i : ℕ) → HasNumber names x i → marked_word names marks x ≡ get_or marks i false
  is_marked x i e = ap (mark_at marks) e

  in_row : (p q : Routine) → OneOf p us → is_among (calls p.body) q.name.word ≡ true → is_among (calls_under p.name.word ps) q.name.word ≡ true
  in_row p q k c =
      let r = one_procedure n ps p k in
      under_one p.name.word q.name.word ps r.0 r.1 (ap (λ x. x.word) r.2) (ap (λ b. is_among (calls b) q.name.word) r.3 ∙ c)

  closed : IsClosed us u (marked_word names marks)
  closed = record {
    starts = λ q k c.
        let i = number q k in
        is_marked q.name.word i.0 i.1 ∙ h.closed.starts i.0 (numbered_in names (calls u.body) q.name.word i.0 i.1 c) (within q.name.word i.0 i.1);
    goes_on = λ p q k l m c.
        let i = number p k in
        let j = number q l in
        is_marked q.name.word j.0 j.1
        ∙ h.closed.goes_on i.0 j.0 (within p.name.word i.0 i.1) (sym (is_marked p.name.word i.0 i.1) ∙ m)
        (subst (λ (ns : List ℕ). OneOf j.0 ns) (sym (row_is p.name.word i.0 i.1)) (numbered_in names (calls_under p.name.word ps) q.name.word j.0 j.1 (in_row p q k c)))
        (within q.name.word j.0 j.1);
  }

  -- each closed set of names is a closed set of their numbers
  module _ (S : Word → Bool) (c : IsClosed us u S) where
    abbrev told : Option Word → Bool
    told None = false
    told (Some x) = S x

    abbrev by_number : ℕ → Bool
    by_number i = told (slice_get names i)

    is_told : (x : Word) (i : ℕ) → HasNumber names x i → by_number i ≡ S x
    is_told x i e = ap told (place_is x names i e).0

    routine_of : (x : Word) (i : ℕ) → HasNumber names x i → (q : Routine) × OneOf q us × (q.name.word ≡ x)
    routine_of x i e =
        let p = of_name ps x (sym (t.among x) ∙ there names i x (place_is x names i e).0) in
        let q = one_routine n ps p.0 p.1 in
        (q.0, q.1, ap (λ y. y.word) (sym q.2) ∙ p.2)

    by_routine : (y w : Word) (q : Routine) → OneOf q us → q.name.word ≡ w → (p : Procedure) → p.name.word ≡ y → is_among (calls p.body) w ≡ true
        → (r : Routine) → OneOf r us → p.name ≡ r.name → p.body ≡ r.body → S y ≡ true → S w ≡ true
    by_routine y w q k e p d o r l a b m =
        ap S (sym e) ∙ c.goes_on r q l k (ap S (ap (λ x. x.word) (sym a) ∙ d) ∙ m) (ap (λ s. is_among (calls s) q.name.word) (sym b) ∙ ap (is_among (calls p.body)) e ∙ o)

    by_procedure : (y w : Word) → ((q : Routine) × OneOf q us × (q.name.word ≡ w)) → Under y w ps → S y ≡ true → S w ≡ true
    by_procedure y w q p m =
        let r = one_routine n ps p.0 p.1 in
        by_routine y w q.0 q.1 q.2 p.0 p.2 p.3 r.0 r.1 r.2 r.3 m

    closed_by_number : IsClosedUnder rows (numbers_in names (calls u.body)) by_number
    closed_by_number = record {
      starts = λ i o l.
          let w = named_in names (calls u.body) i o in
          let q = routine_of w.0 i w.2 in
          is_told w.0 i w.2 ∙ ap S (sym q.2) ∙ c.starts q.0 q.1 (ap (is_among (calls u.body)) q.2 ∙ w.1);
      goes_on = λ i j l m o k.
          let y = get_or names i [] in
          let here = slice_get-get_or names i [] (omega (arith, l, long)) in
          let row = ap (λ (rs : List (List ℕ)). get_or rs i []) t.called ∙ at_place (λ x. numbers_in names (calls_under x ps)) names i y [] here in
          let w = named_in names (calls_under y ps) j (subst (λ (ns : List ℕ). OneOf j ns) row o) in
          is_told w.0 j w.2 ∙ by_procedure y w.0 (routine_of w.0 j w.2) (one_under y w.0 ps w.1) (sym (ap told here) ∙ m);
    }

    in_it : (q : Routine) → OneOf q us → marked_word names marks q.name.word ≡ true → S q.name.word ≡ true
    in_it q k m =
        let i = number q k in
        sym (is_told q.name.word i.0 i.1) ∙ h.least by_number closed_by_number i.0 (sym (is_marked q.name.word i.0 i.1) ∙ m)

  pub least_names : IsLeast us u (marked_word names marks)
  least_names = record { closed = closed; least = in_it }
