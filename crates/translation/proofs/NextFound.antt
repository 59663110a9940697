-- In Next the actions of labels, procedures and processes are found under their names, where no two have one name.
use Rattle.std.proofs.Common.{◌≡◌, List, [], ◌∷◌, ◌++◌, map, false, bytes_eq, Some, inl, inr, sym, ap, ◌∙◌, subst}
use Rattle.std.specs.List.{flat_map}
use Rattle.std.proofs.lemmas.List.{append-nil, append_assoc, map-append}
use Rattle.tla_token.specs.Signs.{is_among}
use Rattle.tla_tree.specs.Tree.{Word}
use Rattle.tla_value.specs.Stops.{plain}
use Rattle.tla_value.specs.Meaning.{Env}
use Rattle.tla_value.specs.Definitions.{Valuation}
use Rattle.module_tree.specs.Module.{Action}
use Rattle.module_tree.specs.ActionTruth.{Acts, action_of, acts_of}
use Rattle.module_tree.proofs.ActionFound.{titles, action_found}
use Rattle.pcal_tree.specs.OffencesLabels.{label_words}
use Rattle.pcal_tree.specs.Processes.{OneOf}
use Rattle.pcal_tree.specs.Program.{Program}
use Rattle.pcal_tree.specs.Takers.{Taken}
use Rattle.pcal_tree.proofs.TroubleLaws.{one_left, one_right}
use Rattle.action_builder.specs.LabelActions.{label_action, label_actions, own_action, routine_actions, title_of}
use Rattle.action_builder.specs.laws.Jumps.{Unlike, AllUnlike}
use Rattle.translation.proofs.NamesOfRules.{turned}
use Rattle.translation.proofs.VariableNames.{none_among, each_to}

-- ---- lists

pub one_mapped : {X Y : Type 0} (f : X → Y) (x : X) (xs : List X) → OneOf x xs → OneOf (f x) (map f xs)
one_mapped f x [] h = absurd h
one_mapped f x (y ∷ xs) (inl e) = inl (ap f e)
one_mapped f x (y ∷ xs) (inr k) = inr (one_mapped f x xs k)

-- what one of some makes stands somewhere in what all make
pub record Within {X Y : Type 0} (f : X → List Y) (x : X) (ys : List Y) : Type 0 where
  pub before : List Y
  pub later : List Y
  pub all : ys ≡ before ++ (f x ++ later)

pub within_flat : {X Y : Type 0} (f : X → List Y) (x : X) (xs : List X) → OneOf x xs → Within f x (flat_map f xs)
within_flat f x [] h = absurd h
within_flat f x (y ∷ xs) (inl e) = record { before = []; later = flat_map f xs; all = ap (λ z. f z ++ flat_map f xs) (sym e) }
within_flat f x (y ∷ xs) (inr k) =
    let w = within_flat f x xs k in
    record { before = f y ++ w.before; later = w.later; all = ap (λ zs. f y ++ zs) w.all ∙ sym (append_assoc (f y) w.before (f x ++ w.later)) }

pub within_first : {X Y : Type 0} (f : X → List Y) (x : X) (ys zs : List Y) → Within f x ys → Within f x (ys ++ zs)
within_first f x ys zs w = record {
  before = w.before;
  later = w.later ++ zs;
  all = ap (λ us. us ++ zs) w.all ∙ append_assoc w.before (f x ++ w.later) zs ∙ ap (λ us. w.before ++ us) (append_assoc (f x) w.later zs);
}

pub within_last : {X Y : Type 0} (f : X → List Y) (x : X) (ys zs : List Y) → Within f x zs → Within f x (ys ++ zs)
within_last f x ys zs w = record { before = ys ++ w.before; later = w.later; all = ap (λ us. ys ++ us) w.all ∙ sym (append_assoc ys w.before (f x ++ w.later)) }

unlike_front : (x : Word) (xs ys : List Word) → Unlike x (xs ++ ys) → Unlike x xs
unlike_front x [] ys h = tt
unlike_front x (z ∷ xs) ys h = (h.0, unlike_front x xs ys h.1)

unlike_parts : (xs ys : List Word) → AllUnlike (xs ++ ys) → AllUnlike xs × AllUnlike ys
unlike_parts [] ys h = (tt, h)
unlike_parts (x ∷ xs) ys h = (let k = unlike_parts xs ys h.1 in ((unlike_front x xs ys h.0, k.0), k.1))

-- ---- actions

-- no two have one name
abbrev pub OneTitle : List Action → Type 0
OneTitle xs = AllUnlike (titles xs)

title_parts : (xs ys : List Action) → OneTitle (xs ++ ys) → OneTitle xs × OneTitle ys
title_parts xs ys h = unlike_parts (titles xs) (titles ys) (subst AllUnlike (map-append (λ (a : Action). a.title) xs ys) h)

no_later : (b : Action) (ys : List Action) → Unlike b.title (titles ys) → is_among (titles ys) b.title ≡ false
no_later b ys h = none_among (titles ys) b.title (each_to (λ y. bytes_eq b.title y ≡ false) (λ y. bytes_eq y b.title ≡ false) (λ y e. turned b.title y e) (titles ys) h)

module _ (s t : Valuation) (env : Env) where
  -- under its name there is this action, which may call others
  abbrev pub Finds : Acts → Action → Type 0
  Finds acts b = (before : Acts) × (acts b.title ≡ Some (action_of plain s t env before b))

  pub one_found : (xs : List Action) (acts : Acts) (b : Action) → OneOf b xs → OneTitle xs → Finds (acts_of plain s t env xs acts) b
  one_found [] acts b h k = absurd h
  one_found (x ∷ xs) acts b (inl e) k =
      (acts, subst (λ z. acts_of plain s t env (x ∷ xs) acts z.title ≡ Some (action_of plain s t env acts z)) (sym e) (action_found plain s t env [] xs x acts (no_later x xs k.0)))
  one_found (x ∷ xs) acts b (inr h) k = one_found xs _ b h k.1

  module _ (P : Program) where
    -- each label's action of a routine
    abbrev pub FindsLabels : Acts → Taken → Type 0
    FindsLabels acts r = (l : Word) → OneOf l (label_words r.routine.body) → Finds acts (label_action P r l)

    -- its own action, which calls those of its labels
    abbrev pub FindsOwn : Acts → Taken → Type 0
    FindsOwn acts r = (before : Acts) × (acts (title_of P r) ≡ Some (action_of plain s t env before (own_action P r))) × FindsLabels before r

    pub labels_found : (xs : List Action) (acts : Acts) (r : Taken) → Within (label_actions P) r xs → OneTitle xs → FindsLabels (acts_of plain s t env xs acts) r
    labels_found xs acts r w k l m =
        one_found xs acts (label_action P r l)
        (subst (OneOf (label_action P r l)) (sym w.all)
        (one_right (label_action P r l) w.before (label_actions P r ++ w.later) (one_left (label_action P r l) (label_actions P r) w.later (one_mapped (label_action P r) l (label_words r.routine.body) m))))
        k

    -- the labels' actions stand before their own
    split : (xs : List Action) (r : Taken) (w : Within (routine_actions P) r xs) → xs ≡ (w.before ++ label_actions P r) ++ own_action P r ∷ w.later
    split xs r w = w.all ∙ ap (λ us. w.before ++ us) (append_assoc (label_actions P r) (own_action P r ∷ []) w.later) ∙ sym (append_assoc w.before (label_actions P r) (own_action P r ∷ w.later))

    pub own_found : (xs : List Action) (acts : Acts) (r : Taken) → Within (routine_actions P) r xs → OneTitle xs → FindsOwn (acts_of plain s t env xs acts) r
    own_found xs acts r w k =
        let front = w.before ++ label_actions P r in
        let once = title_parts front (own_action P r ∷ w.later) (subst OneTitle (split xs r w) k) in (
          acts_of plain s t env front acts,
          subst (λ us. acts_of plain s t env us acts (title_of P r) ≡ Some (action_of plain s t env (acts_of plain s t env front acts) (own_action P r))) (sym (split xs r w))
              (action_found plain s t env front w.later (own_action P r) acts (no_later (own_action P r) w.later once.1.0)),
          labels_found front acts r (record { before = w.before; later = []; all = ap (λ us. w.before ++ us) (sym (append-nil (label_actions P r))) }) once.0,
        )

    -- so a routine with its own action has those of its labels in the whole list too
    pub labels_of_own : (xs : List Action) (r : Taken) → Within (routine_actions P) r xs → Within (label_actions P) r xs
    labels_of_own xs r w = record { before = w.before; later = own_action P r ∷ w.later; all = w.all ∙ ap (λ us. w.before ++ us) (append_assoc (label_actions P r) (own_action P r ∷ []) w.later) }
