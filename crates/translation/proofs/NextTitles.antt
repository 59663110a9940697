-- No two actions of the written module of an accepted algorithm have one name, and none is called Terminating but that one.
use Rattle.std.proofs.Common.{◌≡◌, ℕ, suc, ◌+◌, ◌<◌, ◌≤◌, length, List, [], ◌∷◌, ◌++◌, map, Bool, true, false, ◌||◌, cond, bytes_eq, codes, nat_eq, reverse, Option, Some, None, ◌⊎◌, inl, inr, refl, sym, ap, ◌∙◌, subst, arith}
use Rattle.std.specs.List.{flat_map, AllByRecursion}
use Rattle.std.proofs.lemmas.Bool.{or_parts, and_parts, and_from, eq-eqb, eqb-true}
use Rattle.std.proofs.lemmas.List.{map-append}
use Rattle.std.proofs.lemmas.Slice.Eq.{bytes_eq-Decides}
use Rattle.tla_token.specs.Signs.{is_among}
use Rattle.tla_token.specs.Words.{is_own}
use Rattle.tla_tree.specs.Tree.{Word, Each, Tree, Trees}
use Rattle.tla_value.specs.Definitions.{Valuation}
use Rattle.tla_value.specs.Outside.{Outside}
use Rattle.tla_value.specs.Stops.{plain}
use Rattle.module_tree.specs.Module.{Action}
use Rattle.module_tree.specs.ModuleTruth.{terminating}
use Rattle.module_tree.proofs.ActionFound.{titles}
use Rattle.pcal_tree.specs.Algorithm.{Statements, Procedure, Process, Main, alone, processes, Routine, procedure_routine, process_routine, numbered, first_procedure, first_process, procedure_routines, main_routines, routines, Algorithm}
use Rattle.pcal_tree.specs.Calls.{label_name}
use Rattle.pcal_tree.specs.Names.{Role, title, variable, label, same_role, first_free, Want, wanted_by, wanted_by_main, wanted, taken_at_start, Given, give, given, is_for, title_for}
use Rattle.pcal_tree.specs.OffencesLabels.{Label, labels, label_words, second_labels, misplaced, of_macro, of_procedure, of_body, of_main, jump_offences, label_offences}
use Rattle.pcal_tree.specs.OffencesSteps.{call_effect, missing_in_body, procedure_effects, outer_effects}
use Rattle.pcal_tree.specs.Paths.{Effect}
use Rattle.pcal_tree.specs.Processes.{OneOf}
use Rattle.pcal_tree.specs.Program.{Program}
use Rattle.pcal_tree.specs.Programs.{program_in}
use Rattle.pcal_tree.specs.Takers.{Taken, taken_process, taken_main}
use Rattle.pcal_tree.specs.Variables.{vars}
use Rattle.pcal_tree.specs.laws.Apart.{Apart, NoEndLabels}
use Rattle.pcal_tree.proofs.ClearLabels.{both_none, clear_labels}
use Rattle.pcal_tree.proofs.FreeNames.{given_apart}
use Rattle.pcal_tree.proofs.RoutineNames.{every_one, one_each, one_either, label_wanted}
use Rattle.pcal_tree.proofs.TroubleLaws.{one_left, one_right}
use Rattle.action_builder.specs.LabelActions.{procedure_takers, label_action, label_actions, own_action, routine_actions, main_actions, taken_procedures}
use Rattle.action_builder.specs.laws.Jumps.{Unlike, AllUnlike}
use Rattle.translation.specs.laws.AcceptedAlgorithm.{IsAcceptedInFile}
use Rattle.translation.proofs.AcceptedNames.{no_offence}
use Rattle.translation.proofs.NamesApart.{writable, false_among, never}
use Rattle.translation.proofs.NamesOfRules.{rules_of_names}
use Rattle.translation.proofs.NextFound.{OneTitle}
use Rattle.translation.proofs.RoutinesNamed.{one_each_of, all_wanted}
use Rattle.translation.proofs.VariableNames.{each_to}
use Rattle.translation.proofs.WrittenIdentifiers.{IsFree, given_identifiers, want_of, Looked, looked, one_given}

-- ---- lists

differs : (x y : Word) → (x ≡ y → ⊥) → bytes_eq x y ≡ false
differs x y h = false_among (bytes_eq x y) (λ q. h ((bytes_eq-Decides x y).0 q))

pub unmapped : {X Y : Type 0} (f : X → Y) (y : Y) (xs : List X) → OneOf y (map f xs) → (x : X) × OneOf x xs × (y ≡ f x)
unmapped f y [] h = absurd h
unmapped f y (x ∷ xs) (inl e) = (x, inl refl, e)
unmapped f y (x ∷ xs) (inr k) = (let h = unmapped f y xs k in (h.0, inr h.1, h.2))

pub unflat : {X Y : Type 0} (f : X → List Y) (y : Y) (xs : List X) → OneOf y (flat_map f xs) → (x : X) × OneOf x xs × OneOf y (f x)
unflat f y [] h = absurd h
unflat {X = X} f y (x ∷ xs) h = by (unflat f y xs) (one_either y (f x) (flat_map f xs) h)
  where
    by : (OneOf y (flat_map f xs) → (z : X) × OneOf z xs × OneOf y (f z)) → OneOf y (f x) ⊎ OneOf y (flat_map f xs) → (z : X) × OneOf z (x ∷ xs) × OneOf y (f z)
    by g (inl k) = (x, inl refl, k)
    by g (inr k) = (let h = g k in (h.0, inr h.1, h.2))

unlike_all : (b : Action) (ys : List Action) → ((c : Action) → OneOf c ys → b.title ≡ c.title → ⊥) → Unlike b.title (titles ys)
unlike_all b [] h = tt
unlike_all b (c ∷ ys) h = (differs b.title c.title (h c (inl refl)), unlike_all b ys (λ d k. h d (inr k)))

unlike_both : (x : Word) (xs ys : List Word) → Unlike x xs → Unlike x ys → Unlike x (xs ++ ys)
unlike_both x [] ys h k = k
unlike_both x (y ∷ xs) ys h k = (h.0, unlike_both x xs ys h.1 k)

-- names of the one and of the other differ
abbrev Different : List Action → List Action → Type 0
Different xs ys = (b c : Action) → OneOf b xs → OneOf c ys → b.title ≡ c.title → ⊥

one_title_both : (xs ys : List Action) → OneTitle xs → OneTitle ys → Different xs ys → OneTitle (xs ++ ys)
one_title_both [] ys h k d = k
one_title_both (x ∷ xs) ys h k d = (
  subst (Unlike x.title) (sym (map-append (λ (a : Action). a.title) xs ys)) (unlike_both x.title (titles xs) (titles ys) h.0 (unlike_all x ys (λ c m. d x c (inl refl) m))),
  one_title_both xs ys h.1 k (λ b c m n. d b c (inr m) n),
)

-- ---- routines have different numbers

abbrev Once : {X : Type 0} → (X → ℕ) → List X → Type 0
Once number [] = Unit {0}
Once {X = X} number (r ∷ rs) = ((q : X) → OneOf q rs → number r ≡ number q → ⊥) × Once number rs

-- by what makes the n-th
module _ {A X : Type 0} (f : ℕ → A → X) (number : X → ℕ) (is : (n : ℕ) (x : A) → number (f n x) ≡ n) where
  within : (n : ℕ) (xs : List A) (q : X) → OneOf q (numbered f n xs) → (n ≤ number q) × (number q < n + length xs)
  within n [] q h = absurd h
  within n (x ∷ xs) q (inl e) = (let k = ap number e ∙ is n x in (omega (arith, k), omega (arith, k)))
  within n (x ∷ xs) q (inr h) = (let k = within (suc n) xs q h in (omega (arith, k.0), omega (arith, k.1)))

  numbered_once : (n : ℕ) (xs : List A) → Once number (numbered f n xs)
  numbered_once n [] = tt
  numbered_once n (x ∷ xs) = ((λ q h e. (let k = within (suc n) xs q h in let z = is n x in absurd (omega (arith, k.0, z, e)))), numbered_once (suc n) xs)

mapped_once : {X Y : Type 0} (f : X → Y) (number : Y → ℕ) (xs : List X) → Once (λ x. number (f x)) xs → Once number (map f xs)
mapped_once f number [] h = tt
mapped_once f number (x ∷ xs) h = ((λ q m e. (let k = unmapped f q xs m in h.0 k.0 k.1 (e ∙ ap number k.2))), mapped_once f number xs h.1)

-- ---- labels of a body stand once

labels_once : (xs : List Word) (ls : List Label) → second_labels xs ls ≡ [] → Each (λ y. is_among xs y ≡ false) (map (λ (l : Label). l.name.word) ls) × AllUnlike (map (λ (l : Label). l.name.word) ls)
labels_once xs [] e = (tt, tt)
labels_once xs (l ∷ ls) e =
    let k = both_none _ (second_labels (l.name.word ∷ xs) ls) e in
    let here = or_parts l.second (is_among xs l.name.word) (no_offence _ _ _ k.0) in
    let rest = labels_once (l.name.word ∷ xs) ls k.1 in (
      (here.1, each_to _ _ (λ y q. (or_parts (bytes_eq l.name.word y) (is_among xs y) q).1) (map (λ (l : Label). l.name.word) ls) rest.0),
      (each_to _ _ (λ y q. (or_parts (bytes_eq l.name.word y) (is_among xs y) q).0) (map (λ (l : Label). l.name.word) ls) rest.0, rest.1),
    )

abbrev LabelsOnce : Routine → Type 0
LabelsOnce u = AllUnlike (label_words u.body)

body_once : (macro procedure : Bool) (b : Statements) → misplaced macro procedure b ≡ [] → AllUnlike (label_words b)
body_once macro procedure b e = (labels_once [] (labels false b) (both_none (jump_offences _ b) (second_labels [] (labels false b)) e).1).1

module _ (C : Word → Trees → Effect) where
  procedures_once : (n : ℕ) (ps : List Procedure) → flat_map (of_procedure C) ps ≡ [] → (u : Routine) → OneOf u (numbered procedure_routine n ps) → LabelsOnce u
  procedures_once n [] e u k = absurd k
  procedures_once n (p ∷ ps) e u (inl q) =
      subst LabelsOnce (sym q) (body_once false true p.body (both_none (missing_in_body (procedure_effects C p) p.body) _ (both_none (of_procedure C p) _ e).0).1)
  procedures_once n (p ∷ ps) e u (inr k) = procedures_once (suc n) ps (both_none (of_procedure C p) _ e).1 u k

  processes_once : (n : ℕ) (ps : List Process) → flat_map (λ (p : Process). of_body C p.body) ps ≡ [] → (u : Routine) → OneOf u (numbered process_routine n ps) → LabelsOnce u
  processes_once n [] e u k = absurd k
  processes_once n (p ∷ ps) e u (inl q) =
      subst LabelsOnce (sym q) (body_once false false p.body (both_none (missing_in_body (outer_effects C) p.body) _ (both_none (of_body C p.body) _ e).0).1)
  processes_once n (p ∷ ps) e u (inr k) = processes_once (suc n) ps (both_none (of_body C p.body) _ e).1 u k

  main_once : (a : Algorithm) (m : Main) → of_main C m ≡ [] → (u : Routine) → OneOf u (main_routines a m) → LabelsOnce u
  main_once a (alone ss) e u (inl q) = subst LabelsOnce (sym q) (body_once false false ss (both_none (missing_in_body (outer_effects C) ss) _ e).1)
  main_once a (alone ss) e u (inr k) = absurd k
  main_once a (processes ps) e u k = processes_once (first_process a) ps e u k

routine_once : (a : Algorithm) → label_offences a ≡ [] → (u : Routine) → OneOf u (routines a) → LabelsOnce u
routine_once a e u k =
    let C = call_effect (reverse a.macros) in
    let b = both_none (flat_map (of_procedure C) a.procedures) (of_main C a.main) (both_none (flat_map of_macro a.macros) _ e).1 in
    by b.0 b.1 (one_either u (procedure_routines a) (main_routines a a.main) k)
  where
    by : flat_map (of_procedure (call_effect (reverse a.macros))) a.procedures ≡ [] → of_main (call_effect (reverse a.macros)) a.main ≡ [] → OneOf u (procedure_routines a) ⊎ OneOf u (main_routines a a.main) → LabelsOnce u
    by b c (inl q) = procedures_once (call_effect (reverse a.macros)) (first_procedure a) a.procedures b u q
    by b c (inr q) = main_once (call_effect (reverse a.macros)) a a.main c u q

-- ---- names that are given

-- what has this name is of the unit n and of the role r
record Named (gs : List Given) (n : ℕ) (r : Role) (w : Word) : Type 0 where
  found : Given
  listed : OneOf found gs
  unit : found.want.unit ≡ n
  role : found.want.role ≡ r
  is : w ≡ found.written

title_role : (r : Role) → same_role r title ≡ true → r ≡ title
title_role title e = refl
title_role variable e = cc
title_role label e = cc

titled : (extended taken : List Word) (ws : List Want) (n : ℕ) (x : Word) → OneOf (want_of n title x) ws → Named (give extended taken ws) n title (title_for (give extended taken ws) n)
titled extended taken [] n x h = absurd h
titled extended taken (w ∷ ws) n x h = by (titled extended (first_free extended taken w.word ∷ taken) ws n x) (is_for n title w) refl h
  where
    first : Word
    first = first_free extended taken w.word

    rest : List Given
    rest = give extended (first ∷ taken) ws

    here : is_for n title w ≡ true → (w.unit ≡ n) × (w.role ≡ title)
    here e = (let p = and_parts (nat_eq w.unit n) (same_role w.role title) e in (eqb-true w.unit n p.0, title_role w.role p.1))

    it : want_of n title x ≡ w → is_for n title w ≡ true
    it e = subst (λ v. is_for n title v ≡ true) e (and_from (nat_eq n n) true (eq-eqb n n refl) refl)

    by : (OneOf (want_of n title x) ws → Named rest n title (title_for rest n)) → (b : Bool) → is_for n title w ≡ b → OneOf (want_of n title x) (w ∷ ws) → Named (give extended taken (w ∷ ws)) n title (title_for (give extended taken (w ∷ ws)) n)
    by f true e k = record { found = record { want = w; written = first }; listed = inl refl; unit = (here e).0; role = (here e).1; is = ap (λ b. cond b first (title_for rest n)) e }
    by f false e (inl k) = absurd (never (sym (it k) ∙ e))
    by f false e (inr k) = (let l = f k in record { found = l.found; listed = inr l.listed; unit = l.unit; role = l.role; is = ap (λ b. cond b first (title_for rest n)) e ∙ l.is })

module _ (o : Outside) (a : Algorithm) (h : IsAcceptedInFile o a) (values : Valuation) where
  abbrev P : Program
  P = program_in plain o a values

  abbrev number : Taken → ℕ
  number r = r.routine.number

  apart : Apart (given a o)
  apart = given_apart o.extended (taken_at_start a o) (wanted a) (writable o a h).few

  -- names alike are of one unit, of one role and for one word
  one_name : (n m : ℕ) (r q : Role) (w v : Word) (k : Named (given a o) n r w) (l : Named (given a o) m q v) → w ≡ v → k.found ≡ l.found
  one_name n m r q w v k l e = one_given (given a o) k.found l.found apart k.listed l.listed (sym k.is ∙ e ∙ l.is)

  one_unit : (n m : ℕ) (r q : Role) (w v : Word) → Named (given a o) n r w → Named (given a o) m q v → w ≡ v → n ≡ m
  one_unit n m r q w v k l e = sym k.unit ∙ ap (λ (f : Given). f.want.unit) (one_name n m r q w v k l e) ∙ l.unit

  one_role : (n m : ℕ) (r q : Role) (w v : Word) → Named (given a o) n r w → Named (given a o) m q v → w ≡ v → r ≡ q
  one_role n m r q w v k l e = sym k.role ∙ ap (λ (f : Given). f.want.role) (one_name n m r q w v k l e) ∙ l.role

  -- ---- labels

  label_written : (u : Routine) (l : Word) → is_among (codes "Done" ∷ codes "Error" ∷ []) l ≡ false → label_name P u l ≡ P.naming.label u.number l
  label_written u l e = by (bytes_eq (codes "Done") l) (bytes_eq (codes "Error") l) e
    where
      by : (b c : Bool) → (b || (c || false)) ≡ false → cond (b || c) l (P.naming.label u.number l) ≡ P.naming.label u.number l
      by true c e = cc
      by false true e = cc
      by false false e = refl

  pub clear : NoEndLabels a
  clear = clear_labels a o (rules_of_names a o h.accepted.names).3

  no_end : (u : Routine) → OneOf u (routines a) → (l : Word) → OneOf l (label_words u.body) → is_among (codes "Done" ∷ codes "Error" ∷ []) l ≡ false
  no_end u k l m =
      every_one (λ l. is_among (codes "Done" ∷ codes "Error" ∷ []) l ≡ false) l (label_words u.body)
      (every_one (λ u. AllByRecursion (λ l. is_among (codes "Done" ∷ codes "Error" ∷ []) l ≡ false) (label_words u.body)) u (routines a) clear k) m

  label_looked : (u : Routine) → OneOf u (routines a) → (l : Word) → OneOf l (label_words u.body) → Looked (given a o) u.number label l
  label_looked u k l m = looked o.extended (taken_at_start a o) (wanted a) u.number label l (label_wanted a u l k m)

  label_named : (u : Routine) → OneOf u (routines a) → (l : Word) → OneOf l (label_words u.body) → Named (given a o) u.number label (label_name P u l)
  label_named u k l m =
      let f = label_looked u k l m in
      record { found = f.found; listed = f.listed; unit = ap (λ (w : Want). w.unit) f.is; role = ap (λ (w : Want). w.role) f.is; is = label_written u l (no_end u k l m) ∙ f.written }

  one_label_name : (u : Routine) → OneOf u (routines a) → (l x : Word) → OneOf l (label_words u.body) → OneOf x (label_words u.body) → label_name P u l ≡ label_name P u x → l ≡ x
  one_label_name u k l x m n e =
      let f = label_looked u k l m in
      let g = label_looked u k x n in
      let same = one_given (given a o) f.found g.found apart f.listed g.listed (sym (label_written u l (no_end u k l m) ∙ f.written) ∙ e ∙ label_written u x (no_end u k x n) ∙ g.written) in
      ap (λ (w : Want). w.word) (sym f.is ∙ ap (λ (z : Given). z.want) same ∙ g.is)

  labels_apart : (r : Taken) → OneOf r.routine (routines a) → (ls : List Word) → ((l : Word) → OneOf l ls → OneOf l (label_words r.routine.body)) → AllUnlike ls → OneTitle (map (label_action P r) ls)
  labels_apart r k [] f d = tt
  labels_apart r k (l ∷ ls) f d = (
    unlike_all (label_action P r l) (map (label_action P r) ls) (λ c m e. (let (x, n, q) = unmapped (label_action P r) c ls m in
        other x n (one_label_name r.routine k l x (f l (inl refl)) (f x (inr n)) (e ∙ ap (λ (b : Action). b.title) q)))),
    labels_apart r k ls (λ x m. f x (inr m)) d.1,
  )
    where
      other : (x : Word) → OneOf x ls → l ≡ x → ⊥
      other x n e = never (sym ((bytes_eq-Decides l x).1 e) ∙ one_each_of (λ y. bytes_eq l y ≡ false) ls d.0 x n)

  labels_apart_all : (r : Taken) → OneOf r.routine (routines a) → OneTitle (label_actions P r)
  labels_apart_all r k = labels_apart r k (label_words r.routine.body) (λ l m. m) (routine_once a h.accepted.labels r.routine k)

  -- ---- routines

  abbrev NamedOf : Taken → Action → Type 0
  NamedOf r b = (q : Role) × Named (given a o) (number r) q b.title

  label_of : (r : Taken) → OneOf r.routine (routines a) → (b : Action) → OneOf b (label_actions P r) → Named (given a o) (number r) label b.title
  label_of r k b m =
      let (l, n, e) = unmapped (label_action P r) b (label_words r.routine.body) m in
      subst (λ (c : Action). Named (given a o) (number r) label c.title) (sym e) (label_named r.routine k l n)

  abbrev TitleWanted : Routine → Type 0
  TitleWanted u = OneOf (want_of u.number title u.name.word) (wanted a)

  own_named : (r : Taken) → TitleWanted r.routine → Named (given a o) (number r) title (P.naming.title (number r))
  own_named r w = titled o.extended (taken_at_start a o) (wanted a) (number r) r.routine.name.word w

  own_of : (r : Taken) → TitleWanted r.routine → (b : Action) → OneOf b (own_action P r ∷ []) → Named (given a o) (number r) title b.title
  own_of r w b (inl e) = subst (λ (c : Action). Named (given a o) (number r) title c.title) (sym e) (own_named r w)
  own_of r w b (inr k) = absurd k

  routine_apart : (r : Taken) → OneOf r.routine (routines a) → TitleWanted r.routine → OneTitle (routine_actions P r)
  routine_apart r k w =
      one_title_both (label_actions P r) (own_action P r ∷ []) (labels_apart_all r k) (tt, tt)
      (λ b c m n e. no_title (one_role (number r) (number r) label title b.title c.title (label_of r k b m) (own_of r w c n) e))
    where
      no_title : label ≡ title → ⊥
      no_title e = cc

  routine_of : (r : Taken) → OneOf r.routine (routines a) → TitleWanted r.routine → (b : Action) → OneOf b (routine_actions P r) → NamedOf r b
  routine_of r k w b m = by (one_either b (label_actions P r) (own_action P r ∷ []) m)
    where
      by : OneOf b (label_actions P r) ⊎ OneOf b (own_action P r ∷ []) → NamedOf r b
      by (inl n) = (label, label_of r k b n)
      by (inr n) = (title, own_of r w b n)

  -- ---- all of them

  -- what is made of each routine has its names
  record Makes (F : Taken → List Action) (r : Taken) : Type 0 where
    once : OneTitle (F r)
    of : (b : Action) → OneOf b (F r) → NamedOf r b

  other_units : (r q : Taken) (b c : Action) → NamedOf r b → NamedOf q c → (number r ≡ number q → ⊥) → b.title ≡ c.title → ⊥
  other_units r q b c (x, k) (y, l) d e = d (one_unit (number r) (number q) x y b.title c.title k l e)

  flat_apart : (F : Taken → List Action) (rs : List Taken) → Once number rs → ((r : Taken) → OneOf r rs → Makes F r) → OneTitle (flat_map F rs)
  flat_apart F [] d h = tt
  flat_apart F (r ∷ rs) d h =
      one_title_both (F r) (flat_map F rs) (h r (inl refl)).once (flat_apart F rs d.1 (λ q m. h q (inr m)))
      (λ b c m n e. (let (q, k, l) = unflat F c rs n in other_units r q b c ((h r (inl refl)).of b m) ((h q (inr k)).of c l) (d.0 q k) e))

  flat_apart_from : (F G : Taken → List Action) (rs qs : List Taken) → ((r : Taken) → OneOf r rs → Makes F r) → ((q : Taken) → OneOf q qs → Makes G q)
      → ((r q : Taken) → OneOf r rs → OneOf q qs → number r ≡ number q → ⊥) → Different (flat_map F rs) (flat_map G qs)
  flat_apart_from F G rs qs h k d b c m n e =
      let (r, i, j) = unflat F b rs m in
      let (q, x, y) = unflat G c qs n in
      other_units r q b c ((h r i).of b j) ((k q x).of c y) (d r q i x) e

  number_before : (u w : Routine) → OneOf u (procedure_routines a) → (m : Main) → OneOf w (main_routines a m) → u.number ≡ w.number → ⊥
  number_before u w k (alone ss) (inl e) q =
      let i = within procedure_routine (λ (u : Routine). u.number) (λ n x. refl) (first_procedure a) a.procedures u k in
      let z : w.number ≡ first_process a = ap (λ (v : Routine). v.number) e in
      absurd (omega (arith, i.1, z, q))
  number_before u w k (alone ss) (inr l) q = absurd l
  number_before u w k (processes ps) l q =
      let i = within procedure_routine (λ (u : Routine). u.number) (λ n x. refl) (first_procedure a) a.procedures u k in
      let j = within process_routine (λ (u : Routine). u.number) (λ n x. refl) (first_process a) ps w l in
      absurd (omega (arith, i.1, j.0, q))

  -- the routines of those that are taken
  taken_numbered : (n : ℕ) (ps : List Process) (r : Taken) → OneOf r (numbered taken_process n ps) → OneOf r.routine (numbered process_routine n ps)
  taken_numbered n [] r k = absurd k
  taken_numbered n (p ∷ ps) r (inl e) = inl (ap (λ (z : Taken). z.routine) e)
  taken_numbered n (p ∷ ps) r (inr k) = inr (taken_numbered (suc n) ps r k)

  pub main_routine : (m : Main) (r : Taken) → OneOf r (taken_main a m) → OneOf r.routine (main_routines a m)
  main_routine (alone ss) r (inl e) = inl (ap (λ (z : Taken). z.routine) e)
  main_routine (alone ss) r (inr k) = absurd k
  main_routine (processes ps) r k = taken_numbered (first_process a) ps r k

  procedure_routine_of : (r : Taken) → OneOf r (taken_procedures a) → OneOf r.routine (procedure_routines a)
  procedure_routine_of r k =
      let (u, m, e) = unmapped (λ (u : Routine). record { takers = procedure_takers a.main; routine = u }) r (procedure_routines a) k in
      subst (λ (z : Taken). OneOf z.routine (procedure_routines a)) (sym e) m

  procedures_make : (r : Taken) → OneOf r (taken_procedures a) → Makes (routine_actions P) r
  procedures_make r k =
      let m = procedure_routine_of r k in
      let in_all = one_left r.routine (procedure_routines a) (main_routines a a.main) m in
      let wanted_it = one_left (want_of r.routine.number title r.routine.name.word) (flat_map wanted_by (procedure_routines a)) (wanted_by_main a a.main) (one_each wanted_by r.routine (want_of r.routine.number title r.routine.name.word) (procedure_routines a) m (inl refl)) in
      record { once = routine_apart r in_all wanted_it; of = routine_of r in_all wanted_it }

  abbrev made_by_main : Main → Taken → List Action
  made_by_main (alone ss) = label_actions P
  made_by_main (processes ps) = routine_actions P

  mains_make : (m : Main) → a.main ≡ m → (r : Taken) → OneOf r (taken_main a m) → Makes (made_by_main m) r
  mains_make (alone ss) e r k =
      let in_all = one_right r.routine (procedure_routines a) (main_routines a a.main) (subst (λ n. OneOf r.routine (main_routines a n)) (sym e) (main_routine (alone ss) r k)) in
      record { once = labels_apart_all r in_all; of = λ b m. (label, label_of r in_all b m) }
  mains_make (processes ps) e r k =
      let m = main_routine (processes ps) r k in
      let in_all = one_right r.routine (procedure_routines a) (main_routines a a.main) (subst (λ n. OneOf r.routine (main_routines a n)) (sym e) m) in
      let wanted_it = one_right (want_of r.routine.number title r.routine.name.word) (flat_map wanted_by (procedure_routines a)) (wanted_by_main a a.main)
      (subst (λ n. OneOf (want_of r.routine.number title r.routine.name.word) (wanted_by_main a n)) (sym e) (one_each wanted_by r.routine (want_of r.routine.number title r.routine.name.word) (main_routines a (processes ps)) m (inl refl))) in
      record { once = routine_apart r in_all wanted_it; of = routine_of r in_all wanted_it }

  main_numbers : (m : Main) → Once number (taken_main a m)
  main_numbers (alone ss) = ((λ q k e. absurd k), tt)
  main_numbers (processes ps) = numbered_once taken_process number (λ n x. refl) (first_process a) ps

  procedure_numbers : Once number (taken_procedures a)
  procedure_numbers =
      mapped_once (λ (u : Routine). record { takers = procedure_takers a.main; routine = u }) number (procedure_routines a)
      (numbered_once procedure_routine (λ (u : Routine). u.number) (λ n x. refl) (first_procedure a) a.procedures)

  abbrev all_of : Main → List Action
  all_of m = flat_map (routine_actions P) (taken_procedures a) ++ flat_map (made_by_main m) (taken_main a m)

  all_once : (m : Main) → a.main ≡ m → OneTitle (all_of m)
  all_once m e =
      one_title_both (flat_map (routine_actions P) (taken_procedures a)) (flat_map (made_by_main m) (taken_main a m))
      (flat_apart (routine_actions P) (taken_procedures a) procedure_numbers procedures_make) (flat_apart (made_by_main m) (taken_main a m) (main_numbers m) (mains_make m e))
      (flat_apart_from (routine_actions P) (made_by_main m) (taken_procedures a) (taken_main a m) procedures_make (mains_make m e)
      (λ r q k l d. number_before r.routine q.routine (procedure_routine_of r k) m (main_routine m q l) d))

  all_named : (m : Main) → a.main ≡ m → (b : Action) → OneOf b (all_of m) → (r : Taken) × NamedOf r b
  all_named m e b k = by (one_either b (flat_map (routine_actions P) (taken_procedures a)) (flat_map (made_by_main m) (taken_main a m)) k)
    where
      by : OneOf b (flat_map (routine_actions P) (taken_procedures a)) ⊎ OneOf b (flat_map (made_by_main m) (taken_main a m)) → (r : Taken) × NamedOf r b
      by (inl n) = (let (r, i, j) = unflat (routine_actions P) b (taken_procedures a) n in (r, (procedures_make r i).of b j))
      by (inr n) = (let (r, i, j) = unflat (made_by_main m) b (taken_main a m) n in (r, (mains_make m e r i).of b j))

  -- ---- and Terminating

  all_free : AllByRecursion (λ g. IsFree g.written) (given a o)
  all_free = given_identifiers o.extended (taken_at_start a o) (wanted a) (writable o a h).few (all_wanted o a (writable o a h))

  not_terminating : (b : Action) → (r : Taken) × NamedOf r b → b.title ≡ codes "Terminating" → ⊥
  not_terminating b (r, (x, k)) e = never (ap is_own (sym e ∙ k.is) ∙ (every_one (λ g. IsFree g.written) k.found (given a o) all_free k.listed).1)

  no_terminating_name : (m : Main) → a.main ≡ m → (e : Option Tree) → Different (all_of m) (terminating (vars P) e)
  no_terminating_name m q None b c i j d = absurd j
  no_terminating_name m q (Some e) b c i (inr j) d = absurd j
  no_terminating_name m q (Some e) b c i (inl j) d =
      not_terminating b (all_named m q b i) (d ∙ ap (λ (z : Action). z.title) j)

  terminating_once : (e : Option Tree) → OneTitle (terminating (vars P) e)
  terminating_once None = tt
  terminating_once (Some e) = (tt, tt)

  abbrev pub all_actions : Main → Option Tree → List Action
  all_actions m e = (flat_map (routine_actions P) (taken_procedures a) ++ main_actions P m) ++ terminating (vars P) e

  main_made : (m : Main) → main_actions P m ≡ flat_map (made_by_main m) (taken_main a m)
  main_made (alone ss) = refl
  main_made (processes ps) = refl

  -- no two actions have one name
  pub titles_once : (m : Main) → a.main ≡ m → (e : Option Tree) → OneTitle (all_actions m e)
  titles_once m q e =
      subst (λ us. OneTitle ((flat_map (routine_actions P) (taken_procedures a) ++ us) ++ terminating (vars P) e)) (sym (main_made m))
      (one_title_both (all_of m) (terminating (vars P) e) (all_once m q) (terminating_once e) (no_terminating_name m q e))
