-- A state that has proper identifiers is sound exactly if there is no first trouble, where written labels are apart.
use Rattle.std.proofs.Common.{◌≡◌, List, [], ◌∷◌, ◌++◌, Bool, true, false, cond, bytes_eq, Option, Some, None, refl, sym, ◌∙◌, ap, subst, inl, inr, ◌⊎◌, Ok, Err}
use Rattle.tla_tree.specs.Tree.{Word}
use Rattle.tla_value.specs.Value.{Value, Trouble, Outcome}
use Rattle.tla_value.specs.Order.{same}
use Rattle.std.proofs.lemmas.Slice.Eq.{bytes_eq-Decides}
use Rattle.tla_value.specs.OrderLaws.{same_is, same_self}
use Rattle.pcal_tree.specs.Algorithm.{Statement, branch, either, with, while, Statements, done, then, mark, Branches, no_branches, or, Routine}
use Rattle.pcal_tree.specs.Run.{Course, Has, unlabelled, label_of}
use Rattle.pcal_tree.specs.Scope.{State}
use Rattle.pcal_tree.specs.Choices.{first_trouble}
use Rattle.pcal_tree.specs.StepStart.{Begin, begin_in, begin, begin_some, at_label}
use Rattle.pcal_tree.specs.Program.{Program, Actor}
use Rattle.pcal_tree.specs.Calls.{label_value}
use Rattle.pcal_tree.specs.Step.{pc_of, Stand, routines_of, StandsAt, course_of}
use Rattle.pcal_tree.specs.OffencesLabels.{label_words}
use Rattle.pcal_tree.proofs.BodyLabels.{labels_in, labels, labels_of, same_labels}
use Rattle.pcal_tree.proofs.Choices.{some_inside, first_has, none_has}
use Rattle.std.specs.Option.{option_or}
use Rattle.pcal_tree.specs.Processes.{OneOf, IsActor, Proper}
use Rattle.pcal_tree.specs.Faults.{Troubled, Sound}
use Rattle.pcal_tree.specs.laws.Steps.{StandsOnce}
use Rattle.pcal_tree.specs.FirstTrouble.{stand_at, label_named, stand_named, trouble_from, trouble_at, trouble_of_all, FirstTrouble}

-- d is a label of one of the routines, and w names it
record Found (P : Program) (w : Value) (us : List Routine) (d : Stand) : Type 0 where
  routine : OneOf d.routine us
  begins : at_label d.routine d.label ≡ Some d.begins
  named : w ≡ label_value P d.routine d.label

label_found : (P : Program) (w : Value) (u : Routine) (ls : List Word) (d : Stand) → label_named P w u ls ≡ Some d → Found P w (u ∷ []) d
label_found P w u [] d e = cc
label_found P w u (l ∷ ls) d e = by (label_found P w u ls d) (same w (label_value P u l)) refl (at_label u l) refl e
  where
    by : (label_named P w u ls ≡ Some d → Found P w (u ∷ []) d) → (b : Bool) → same w (label_value P u l) ≡ b → (o : Option Begin) → at_label u l ≡ o → option_or (cond b (stand_at u l o) None) (label_named P w u ls) ≡ Some d → Found P w (u ∷ []) d
    by ih true p (Some b) q e = subst (Found P w (u ∷ [])) (sym (some_inside e)) (record { routine = inl refl; begins = q; named = same_is w (label_value P u l) p })
    by ih true p None q e = ih e
    by ih false p o q e = ih e

wider : (x u : Routine) (us : List Routine) → OneOf x (u ∷ []) → OneOf x (u ∷ us)
wider x u us (inl p) = inl p
wider x u us (inr h) = absurd h

stand_found : (P : Program) (w : Value) (us : List Routine) (d : Stand) → stand_named P w us ≡ Some d → Found P w us d
stand_found P w [] d e = cc
stand_found P w (u ∷ us) d e = by (stand_found P w us d) (label_named P w u (label_words u.body)) refl e
  where
    front : Found P w (u ∷ []) d → Found P w (u ∷ us) d
    front f = record { routine = wider d.routine u us f.routine; begins = f.begins; named = f.named }

    behind : Found P w us d → Found P w (u ∷ us) d
    behind f = record { routine = inr f.routine; begins = f.begins; named = f.named }

    by : (stand_named P w us ≡ Some d → Found P w us d) → (o : Option Stand) → label_named P w u (label_words u.body) ≡ o → option_or o (stand_named P w us) ≡ Some d → Found P w (u ∷ us) d
    by ih (Some c) p e = front (label_found P w u (label_words u.body) d (p ∙ e))
    by ih None p e = behind (ih e)

-- what is found is where the process is
pub found_stands : (P : Program) (s : State) (v : Actor) (w : Value) (d : Stand) → pc_of v s ≡ Ok w → stand_named P w (routines_of P v) ≡ Some d → StandsAt P s v d
found_stands P s v w d p e = by (stand_found P w (routines_of P v) d e)
  where
    by : Found P w (routines_of P v) d → StandsAt P s v d
    by f = (f.routine, f.begins, p ∙ ap Ok f.named)

pub trouble_is : (P : Program) (s : State) (v : Actor) (k : Trouble) → trouble_at P s v (pc_of v s) ≡ Some k → Troubled P s v k
trouble_is P s v k e = by (pc_of v s) refl e
  where
    by_stand : (w : Value) → pc_of v s ≡ Ok w → (o : Option Stand) → stand_named P w (routines_of P v) ≡ o → trouble_from P s v o ≡ Some k → Troubled P s v k
    by_stand w p None q e = cc
    by_stand w p (Some d) q e = inr (d, found_stands P s v w d p q, first_has (course_of P v d s) k e)

    by : (o : Outcome Value) → pc_of v s ≡ o → trouble_at P s v o ≡ Some k → Troubled P s v k
    by (Err j) p e = inl (p ∙ ap Err (sym (some_inside e)))
    by (Ok w) p e = by_stand w p (stand_named P w (routines_of P v)) refl e

pub first_of_all : (P : Program) (s : State) (vs : List Actor) (k : Trouble) → trouble_of_all P s vs ≡ Some k → (v : Actor) × OneOf v vs × Troubled P s v k
first_of_all P s [] k e = cc
first_of_all P s (v ∷ vs) k e = by (first_of_all P s vs k) (trouble_at P s v (pc_of v s)) refl e
  where
    more : ((w : Actor) × OneOf w vs × Troubled P s w k) → (w : Actor) × OneOf w (v ∷ vs) × Troubled P s w k
    more q = (q.0, inr q.1, q.2)

    by : (trouble_of_all P s vs ≡ Some k → (w : Actor) × OneOf w vs × Troubled P s w k) → (o : Option Trouble) → trouble_at P s v (pc_of v s) ≡ o → option_or o (trouble_of_all P s vs) ≡ Some k → (w : Actor) × OneOf w (v ∷ vs) × Troubled P s w k
    by ih (Some j) p e = (v, inl refl, trouble_is P s v k (p ∙ e))
    by ih None p e = more (ih e)

-- a sound state has no first trouble
pub sound_quiet : (P : Program) (s : State) (k : Trouble) → Sound P s → FirstTrouble P s k → ⊥
sound_quiet P s k sound t = by (first_of_all P s t.0 k t.2)
  where
    by : ((v : Actor) × OneOf v t.0 × Troubled P s v k) → ⊥
    by q = sound.1 q.0 k (t.0, t.1, q.1) q.2

-- ---- where a process is in trouble there is a first trouble

pub one_left : {X : Type 0} (x : X) (xs ys : List X) → OneOf x xs → OneOf x (xs ++ ys)
one_left x [] ys h = absurd h
one_left x (z ∷ xs) ys (inl p) = inl p
one_left x (z ∷ xs) ys (inr h) = inr (one_left x xs ys h)

pub one_right : {X : Type 0} (x : X) (xs ys : List X) → OneOf x ys → OneOf x (xs ++ ys)
one_right x [] ys h = h
one_right x (z ∷ xs) ys h = inr (one_right x xs ys h)

pub either_some : {X : Type 0} (o p : Option X) (x : X) → option_or o p ≡ Some x → (o ≡ Some x) ⊎ (p ≡ Some x)
either_some (Some y) p x e = inl e
either_some None p x e = inr e

-- a label that a step can begin at is listed
mutual
  listed_in : (l here : Word) (st : Statement) (x : Word) (b : Begin) → begin_in l here st x ≡ Some b → OneOf l (labels_in st)
  listed_in l here (branch e s t) x b q = by (either_some (begin l unlabelled s x) (begin l unlabelled t x) b q) (listed l unlabelled s x b) (listed l unlabelled t x b)
    where
      by : (begin l unlabelled s x ≡ Some b) ⊎ (begin l unlabelled t x ≡ Some b) → (begin l unlabelled s x ≡ Some b → OneOf l (labels s)) → (begin l unlabelled t x ≡ Some b → OneOf l (labels t)) → OneOf l (labels s ++ labels t)
      by (inl p) f g = one_left l (labels s) (labels t) (f p)
      by (inr p) f g = one_right l (labels s) (labels t) (g p)
  listed_in l here (either bs) x b q = listed_some l bs x b q
  listed_in l here (with bs t) x b q = listed l unlabelled t x b q
  listed_in l here (while e t) x b q = listed l unlabelled t here b q
  listed_in l here _ x b q = cc

  pub listed : (l here : Word) (ss : Statements) (x : Word) (b : Begin) → begin l here ss x ≡ Some b → OneOf l (labels ss)
  listed l here done x b q = cc
  listed l here (then at st rest) x b q = by (either_some (begin_in l here st (label_of rest x)) (begin l unlabelled rest x) b q) (listed_in l here st (label_of rest x) b) (listed l unlabelled rest x b)
    where
      by : (begin_in l here st (label_of rest x) ≡ Some b) ⊎ (begin l unlabelled rest x ≡ Some b) → (begin_in l here st (label_of rest x) ≡ Some b → OneOf l (labels_in st)) → (begin l unlabelled rest x ≡ Some b → OneOf l (labels rest)) → OneOf l (labels_in st ++ labels rest)
      by (inl p) f g = one_left l (labels_in st) (labels rest) (f p)
      by (inr p) f g = one_right l (labels_in st) (labels rest) (g p)
  listed l here (mark m k rest) x b q = by (listed l m.word rest x b) (bytes_eq l m.word) refl q
    where
      by : (begin l m.word rest x ≡ Some b → OneOf l (labels rest)) → (c : Bool) → bytes_eq l m.word ≡ c → cond c (Some (record { items = rest; exit = x })) (begin l m.word rest x) ≡ Some b → OneOf l (m.word ∷ labels rest)
      by ih true p q = inl ((bytes_eq-Decides l m.word).0 p)
      by ih false p q = inr (ih q)

  listed_some : (l : Word) (bs : Branches) (x : Word) (b : Begin) → begin_some l bs x ≡ Some b → OneOf l (labels_of bs)
  listed_some l no_branches x b q = cc
  listed_some l (or t bs) x b q = by (either_some (begin l unlabelled t x) (begin_some l bs x) b q) (listed l unlabelled t x b) (listed_some l bs x b)
    where
      by : (begin l unlabelled t x ≡ Some b) ⊎ (begin_some l bs x ≡ Some b) → (begin l unlabelled t x ≡ Some b → OneOf l (labels t)) → (begin_some l bs x ≡ Some b → OneOf l (labels_of bs)) → OneOf l (labels t ++ labels_of bs)
      by (inl p) f g = one_left l (labels t) (labels_of bs) (f p)
      by (inr p) f g = one_right l (labels t) (labels_of bs) (g p)

pub label_listed : (u : Routine) (l : Word) (b : Begin) → at_label u l ≡ Some b → OneOf l (label_words u.body)
label_listed u l b e = subst (OneOf l) (sym (same_labels u.body)) (listed l unlabelled u.body u.exit b e)

abbrev pub IsSomething : {X : Type 0} → Option X → Type 0
IsSomething {X = X} o = (x : X) × (o ≡ Some x)

front_some : {X : Type 0} (o p : Option X) → IsSomething o → IsSomething (option_or o p)
front_some o p h = (h.0, ap (λ z. option_or z p) h.1)

behind_some : {X : Type 0} (o p : Option X) → IsSomething p → IsSomething (option_or o p)
behind_some (Some x) p h = (x, refl)
behind_some None p h = h

label_is_found : (P : Program) (u : Routine) (l : Word) (b : Begin) → at_label u l ≡ Some b → (ls : List Word) → OneOf l ls → IsSomething (label_named P (label_value P u l) u ls)
label_is_found P u l b e [] h = absurd h
label_is_found P u l b e (m ∷ ls) (inl p) =
    front_some _ _ (record { routine = u; label = m; begins = b }, (λ i. cond (same (label_value P u l) (label_value P u (sym p i))) (stand_at u m (at_label u m)) None) ∙ (λ i. cond (same_self (label_value P u l) i) (stand_at u m ((ap (at_label u) (sym p) ∙ e) i)) None))
label_is_found P u l b e (m ∷ ls) (inr h) = behind_some _ _ (label_is_found P u l b e ls h)

pub stand_is_found : (P : Program) (d : Stand) → at_label d.routine d.label ≡ Some d.begins → (us : List Routine) → OneOf d.routine us → IsSomething (stand_named P (label_value P d.routine d.label) us)
stand_is_found P d e [] h = absurd h
stand_is_found P d e (u ∷ us) (inl p) =
    front_some _ _ (subst (λ z. IsSomething (label_named P (label_value P d.routine d.label) z (label_words z.body))) p (label_is_found P d.routine d.label d.begins e (label_words d.routine.body) (label_listed d.routine d.label d.begins e)))
stand_is_found P d e (u ∷ us) (inr h) = behind_some _ _ (stand_is_found P d e us h)

has_first : (c : Course) (k : Trouble) → Has c (Err k) → IsSomething (first_trouble c)
has_first c k h = by (first_trouble c) refl
  where
    by : (o : Option Trouble) → first_trouble c ≡ o → IsSomething (first_trouble c)
    by (Some j) p = (j, p)
    by None p = absurd (none_has c k p h)

stand_troubled : (P : Program) (s : State) (v : Actor) (k : Trouble) → StandsOnce P s v → (d : Stand) → StandsAt P s v d → Has (course_of P v d s) (Err k) → IsSomething (trouble_at P s v (pc_of v s))
stand_troubled P s v k once d st h = by (stand_is_found P d st.1 (routines_of P v) st.0)
  where
    by : IsSomething (stand_named P (label_value P d.routine d.label) (routines_of P v)) → IsSomething (trouble_at P s v (pc_of v s))
    by q =
        let same_stand : d ≡ q.0 = once d q.0 st (found_stands P s v (label_value P d.routine d.label) q.0 st.2 q.1) in
        subst (λ o. IsSomething (trouble_at P s v o)) (sym st.2)
        (subst (λ o. IsSomething (trouble_from P s v o)) (sym q.1) (has_first (course_of P v q.0 s) k (subst (λ e. Has (course_of P v e s) (Err k)) same_stand h)))

troubled_here : (P : Program) (s : State) (v : Actor) (k : Trouble) → StandsOnce P s v → Troubled P s v k → IsSomething (trouble_at P s v (pc_of v s))
troubled_here P s v k once (inl p) = subst (λ o. IsSomething (trouble_at P s v o)) (sym p) (k, refl)
troubled_here P s v k once (inr q) = stand_troubled P s v k once q.0 q.1 q.2

pub troubled_first : (P : Program) (s : State) (v : Actor) (k : Trouble) (vs : List Actor) → StandsOnce P s v → OneOf v vs → Troubled P s v k → IsSomething (trouble_of_all P s vs)
troubled_first P s v k [] once h t = absurd h
troubled_first P s v k (w ∷ vs) once (inl p) t =
    front_some _ _ (subst (λ z. IsSomething (trouble_at P s z (pc_of z s))) p (troubled_here P s v k once t))
troubled_first P s v k (w ∷ vs) once (inr h) t = behind_some _ _ (troubled_first P s v k vs once h t)

-- a state without a first trouble is sound
pub quiet_sound : (P : Program) (s : State) → Proper P → ((v : Actor) → IsActor P v → StandsOnce P s v) → ((k : Trouble) → FirstTrouble P s k → ⊥) → Sound P s
quiet_sound P s proper once quiet = (proper, λ v k is_actor t. by v k is_actor (troubled_first P s v k is_actor.0 (once v is_actor) is_actor.2 t))
  where
    by : (v : Actor) (k : Trouble) (h : IsActor P v) → IsSomething (trouble_of_all P s h.0) → ⊥
    by v k h q = quiet q.0 (h.0, h.1, q.1)
