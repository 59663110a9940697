-- The loops that look a name up among bound names.
use Rattle.std.proofs.Common.{◌≡◌, ℕ, suc, ◌+◌, ◌<◌, ◌≤◌, List, [], ◌∷◌, ◌++◌, Option, Some, None, cond, bytes_eq, length, refl, sym, ap, ◌∙◌, get_or, drop, add-one}
use Rattle.std.proofs.lemmas.List.{append-nil}
use Rattle.std.proofs.Math.Seq.{drop-cons}
use Rattle.std.proofs.Math.ListN.{drop_of_length-le}
use Rattle.tla_tree.specs.Tree.{Word, Name}
use Rattle.tla_value.specs.Value.{Value}
use Rattle.eval_scopes.specs.Choices.{Over, picked_at, with_option, members_of_choice}
use Rattle.eval_scopes.specs.Scopes.{rather, word_at, local_at, choice_at}
use Rattle.eval_scopes.proofs.ScopeLemmas.{rather_assoc, option_next}
use Rattle.std.proofs.lemmas.Option.{slice_get-get_or}

abbrev pub word_here : Word → Value → Word → Option Value
word_here x v y = cond (bytes_eq x y) (Some v) None

pub word_next : (xs : List Word) (vs : List Value) (y : Word) (i : ℕ) (x : Word) (v : Value) (f all : Option Value) → i < length xs → i < length vs
    → rather (word_at (drop i xs) (drop i vs) y) f ≡ all → rather (word_at (drop (i + 1) xs) (drop (i + 1) vs) y) (rather (word_here (get_or xs i x) (get_or vs i v) y) f) ≡ all
word_next xs vs y i x v f all lt gt h =
    ap (λ n. rather (word_at (drop n xs) (drop n vs) y) (rather (word_here (get_or xs i x) (get_or vs i v) y) f)) (add-one i)
    ∙ sym (rather_assoc (word_at (drop (suc i) xs) (drop (suc i) vs) y) (word_here (get_or xs i x) (get_or vs i v) y) f)
    ∙ sym (λ j. rather (word_at (drop-cons xs i x lt j) (drop-cons vs i v gt j) y) f) ∙ h

no_word : (xs : List Word) (y : Word) → word_at xs [] y ≡ None
no_word [] y = refl
no_word (x ∷ xs) y = refl

pub word_stop : (xs : List Word) (vs : List Value) (y : Word) (i : ℕ) (f all : Option Value) → length vs ≤ i → rather (word_at (drop i xs) (drop i vs) y) f ≡ all → f ≡ all
word_stop xs vs y i f all le h = sym (ap (λ l. rather (word_at (drop i xs) l y) f) (drop_of_length-le vs le) ∙ ap (λ o. rather o f) (no_word (drop i xs) y)) ∙ h

pub word_end : (xs : List Word) (vs : List Value) (y : Word) (i : ℕ) (f all : Option Value) → length xs ≤ i → rather (word_at (drop i xs) (drop i vs) y) f ≡ all → f ≡ all
word_end xs vs y i f all le h = sym (ap (λ l. rather (word_at l (drop i vs) y) f) (drop_of_length-le xs le)) ∙ h

abbrev pub local_here : Name → Value → Word → Option Value
local_here x v y = cond (bytes_eq x.word y) (Some v) None

pub local_next : (xs : List Name) (vs : List Value) (y : Word) (i : ℕ) (x : Name) (v : Value) (f all : Option Value) → i < length xs → i < length vs
    → rather (local_at (drop i xs) (drop i vs) y) f ≡ all → rather (local_at (drop (i + 1) xs) (drop (i + 1) vs) y) (rather (local_here (get_or xs i x) (get_or vs i v) y) f) ≡ all
local_next xs vs y i x v f all lt gt h =
    ap (λ n. rather (local_at (drop n xs) (drop n vs) y) (rather (local_here (get_or xs i x) (get_or vs i v) y) f)) (add-one i)
    ∙ sym (rather_assoc (local_at (drop (suc i) xs) (drop (suc i) vs) y) (local_here (get_or xs i x) (get_or vs i v) y) f)
    ∙ sym (λ j. rather (local_at (drop-cons xs i x lt j) (drop-cons vs i v gt j) y) f) ∙ h

no_local : (xs : List Name) (y : Word) → local_at xs [] y ≡ None
no_local [] y = refl
no_local (x ∷ xs) y = refl

pub local_stop : (xs : List Name) (vs : List Value) (y : Word) (i : ℕ) (f all : Option Value) → length vs ≤ i → rather (local_at (drop i xs) (drop i vs) y) f ≡ all → f ≡ all
local_stop xs vs y i f all le h = sym (ap (λ l. rather (local_at (drop i xs) l y) f) (drop_of_length-le vs le) ∙ ap (λ o. rather o f) (no_local (drop i xs) y)) ∙ h

pub local_end : (xs : List Name) (vs : List Value) (y : Word) (i : ℕ) (f all : Option Value) → length xs ≤ i → rather (local_at (drop i xs) (drop i vs) y) f ≡ all → f ≡ all
local_end xs vs y i f all le h = sym (ap (λ l. rather (local_at l (drop i vs) y) f) (drop_of_length-le xs le)) ∙ h

abbrev pub choice_here : Word × List Value → ℕ → Word → Option Value
choice_here o k y = cond (bytes_eq o.0 y) (picked_at o.1 k) None

pub choice_next : (os : Over) (ks : List ℕ) (y : Word) (i : ℕ) (o : Word × List Value) (k : ℕ) (f all : Option Value) → i < length os → i < length ks
    → rather (choice_at (drop i os) (drop i ks) y) f ≡ all → rather (choice_at (drop (i + 1) os) (drop (i + 1) ks) y) (rather (choice_here (get_or os i o) (get_or ks i k) y) f) ≡ all
choice_next os ks y i o k f all lt gt h =
    ap (λ n. rather (choice_at (drop n os) (drop n ks) y) (rather (choice_here (get_or os i o) (get_or ks i k) y) f)) (add-one i)
    ∙ sym (rather_assoc (choice_at (drop (suc i) os) (drop (suc i) ks) y) (choice_here (get_or os i o) (get_or ks i k) y) f)
    ∙ sym (λ j. rather (choice_at (drop-cons os i o lt j) (drop-cons ks i k gt j) y) f) ∙ h

no_choice : (os : Over) (y : Word) → choice_at os [] y ≡ None
no_choice [] y = refl
no_choice (o ∷ os) y = refl

pub choice_stop : (os : Over) (ks : List ℕ) (y : Word) (i : ℕ) (f all : Option Value) → length ks ≤ i → rather (choice_at (drop i os) (drop i ks) y) f ≡ all → f ≡ all
choice_stop os ks y i f all le h = sym (ap (λ l. rather (choice_at (drop i os) l y) f) (drop_of_length-le ks le) ∙ ap (λ o. rather o f) (no_choice (drop i os) y)) ∙ h

pub choice_end : (os : Over) (ks : List ℕ) (y : Word) (i : ℕ) (f all : Option Value) → length os ≤ i → rather (choice_at (drop i os) (drop i ks) y) f ≡ all → f ≡ all
choice_end os ks y i f all le h = sym (ap (λ l. rather (choice_at l (drop i ks) y) f) (drop_of_length-le os le)) ∙ h

pub picked_is : (vs : List Value) (n m : ℕ) (d : Value) → n ≡ suc m → m < length vs → picked_at vs n ≡ Some (get_or vs m d)
picked_is vs n m d h lt = ap (picked_at vs) h ∙ slice_get-get_or vs m d lt

-- ---- the members of a choice

pub row_next : (os : Over) (ks : List ℕ) (i : ℕ) (o : Word × List Value) (done done2 all : List Value) → i < length os → i < length ks → o ≡ get_or os i o
    → done2 ≡ done ++ with_option (picked_at o.1 (get_or ks i 0)) [] → done ++ members_of_choice (drop i os) (drop i ks) ≡ all → done2 ++ members_of_choice (drop (i + 1) os) (drop (i + 1) ks) ≡ all
row_next os ks i o done done2 all lt gt is d h =
    ap (λ n. done2 ++ members_of_choice (drop n os) (drop n ks)) (add-one i)
    ∙ option_next (drop (suc i) os) (drop (suc i) ks) done done2 all (picked_at o.1 (get_or ks i 0)) d
    ((λ j. done ++ members_of_choice (is j ∷ drop (suc i) os) (get_or ks i 0 ∷ drop (suc i) ks)) ∙ sym (λ j. done ++ members_of_choice (drop-cons os i o lt j) (drop-cons ks i 0 gt j)) ∙ h)

no_members : (os : Over) → members_of_choice os [] ≡ []
no_members [] = refl
no_members (o ∷ os) = refl

pub row_stop : (os : Over) (ks : List ℕ) (i : ℕ) (done all : List Value) → length ks ≤ i → done ++ members_of_choice (drop i os) (drop i ks) ≡ all → done ≡ all
row_stop os ks i done all le h =
    sym (ap (λ l. done ++ members_of_choice (drop i os) l) (drop_of_length-le ks le) ∙ ap (λ l. done ++ l) (no_members (drop i os)) ∙ append-nil done) ∙ h

pub row_end : (os : Over) (ks : List ℕ) (i : ℕ) (done all : List Value) → length os ≤ i → done ++ members_of_choice (drop i os) (drop i ks) ≡ all → done ≡ all
row_end os ks i done all le h = sym (ap (λ l. done ++ members_of_choice l (drop i ks)) (drop_of_length-le os le) ∙ append-nil done) ∙ h
