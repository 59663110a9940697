-- What a name means in a scope is what the look-up finds, or what it means outside.
use Rattle.std.proofs.Common.{◌≡◌, ℕ, suc, zero, Bool, true, false, cond, List, [], ◌∷◌, ◌++◌, Option, Some, None, refl, sym, ap, ◌∙◌, bytes_eq, append_assoc}
use Rattle.std.specs.Prelude.{slice_get}
use Rattle.std.proofs.lemmas.List.{append-nil}
use Rattle.tla_token.specs.declared.place.Place.{Place}
use Rattle.tla_tree.specs.Tree.{Word, Name}
use Rattle.tla_value.specs.Value.{Value, Sense}
use Rattle.tla_value.specs.Meaning.{Env, just, bind}
use Rattle.tla_value.specs.Definitions.{or_sense}
use Rattle.eval_scopes.specs.declared.scope.Scope.{Scope, Top, Params, Local', Choice'}
use Rattle.eval_scopes.specs.Choices.{Over, Spot, chosen, chosen_one, stepping, unbound, picked_at, with_option, members_of_choice}
use Rattle.eval_scopes.specs.Scopes.{scope_env, seen_of, bound_in, with_words, with_locals, rather, word_at, local_at, choice_at}

bound_or : (b : Bool) (v : Value) (o : Option Value) (s t : Sense) → t ≡ or_sense o s → cond b (just v) t ≡ or_sense (cond b (Some v) o) s
bound_or true v o s t h = refl
bound_or false v o s t h = h

pub rather_assoc : (l m o : Option Value) → rather (rather l m) o ≡ rather l (rather m o)
rather_assoc (Some v) m o = refl
rather_assoc None m o = refl

cond_rather : (b : Bool) (v : Value) (o : Option Value) → cond b (Some v) o ≡ rather (cond b (Some v) None) o
cond_rather true v o = refl
cond_rather false v o = refl

rather_none : (l : Option Value) → rather l None ≡ l
rather_none (Some v) = refl
rather_none None = refl

words_are : (xs : List Word) (vs : List Value) (env : Env) (y : Word) (p : Place) (l : Option Value) (s : Sense) → env.now y p ≡ or_sense l s → (with_words xs vs env).now y p ≡ or_sense (rather (word_at xs vs y) l) s
words_are [] vs env y p l s h = h
words_are (x ∷ xs) [] env y p l s h = h
words_are (x ∷ xs) (v ∷ vs) env y p l s h =
    words_are xs vs (bind x v env) y p (cond (bytes_eq x y) (Some v) l) s (bound_or (bytes_eq x y) v l s (env.now y p) h)
    ∙ ap (λ o. or_sense o s) (ap (rather (word_at xs vs y)) (cond_rather (bytes_eq x y) v l) ∙ sym (rather_assoc (word_at xs vs y) (cond (bytes_eq x y) (Some v) None) l))

locals_are : (xs : List Name) (vs : List Value) (env : Env) (y : Word) (p : Place) (l : Option Value) (s : Sense) → env.now y p ≡ or_sense l s → (with_locals xs vs env).now y p ≡ or_sense (rather (local_at xs vs y) l) s
locals_are [] vs env y p l s h = h
locals_are (x ∷ xs) [] env y p l s h = h
locals_are (x ∷ xs) (v ∷ vs) env y p l s h =
    locals_are xs vs (bind x.word v env) y p (cond (bytes_eq x.word y) (Some v) l) s (bound_or (bytes_eq x.word y) v l s (env.now y p) h)
    ∙ ap (λ o. or_sense o s) (ap (rather (local_at xs vs y)) (cond_rather (bytes_eq x.word y) v l) ∙ sym (rather_assoc (local_at xs vs y) (cond (bytes_eq x.word y) (Some v) None) l))

abbrev absent : Option Value
absent = None

absent_is : (b : Bool) (l : Option Value) → rather (cond b absent absent) l ≡ l
absent_is true l = refl
absent_is false l = refl

pick_is : (x : Word) (w : Option Value) (e : Spot) (y : Word) (p : Place) (l : Option Value) (s : Sense) → e.0.now y p ≡ or_sense l s → (stepping x w e).0.now y p ≡ or_sense (rather (cond (bytes_eq x y) w None) l) s
pick_is x None e y p l s h = h ∙ ap (λ o. or_sense o s) (sym (absent_is (bytes_eq x y) l))
pick_is x (Some v) e y p l s h = bound_or (bytes_eq x y) v l s (e.0.now y p) h ∙ ap (λ o. or_sense o s) (cond_rather (bytes_eq x y) v l)

one_is : (x : Word) (vs : List Value) (k : ℕ) (e : Spot) (y : Word) (p : Place) (l : Option Value) (s : Sense) → e.0.now y p ≡ or_sense l s → (chosen_one x vs k e).0.now y p ≡ or_sense (rather (cond (bytes_eq x y) (picked_at vs k) None) l) s
one_is x vs zero e y p l s h = pick_is x None e y p l s h
one_is x vs (suc k) e y p l s h = pick_is x (slice_get vs k) e y p l s h

choice_is : (names : Over) (left : List ℕ) (e : Spot) (y : Word) (p : Place) (l : Option Value) (s : Sense) → e.0.now y p ≡ or_sense l s → (chosen names left e).0.now y p ≡ or_sense (rather (choice_at names left y) l) s
choice_is [] left e y p l s h = h
choice_is (o ∷ os) [] e y p l s h = h
choice_is (o ∷ os) (k ∷ ks) e y p l s h =
    choice_is os ks (chosen_one o.0 o.1 k e) y p (rather (cond (bytes_eq o.0 y) (picked_at o.1 k) None) l) s (one_is o.0 o.1 k e y p l s h)
    ∙ ap (λ m. or_sense m s) (sym (rather_assoc (choice_at os ks y) (cond (bytes_eq o.0 y) (picked_at o.1 k) None) l))

pub now_is : (outer : ℕ → Env) (s : Scope) (y : Word) (p : Place) → (scope_env outer s).now y p ≡ or_sense (bound_in s y) ((outer (seen_of s)).now y p)
now_is outer (Top n) y p = refl
now_is outer (Params xs vs n) y p =
    words_are xs.now vs.now (outer n) y p None ((outer n).now y p) refl ∙ ap (λ o. or_sense o ((outer n).now y p)) (rather_none (word_at xs.now vs.now y))
now_is outer (Local' xs vs q o) y p = locals_are xs.now vs.now (scope_env outer o) y p (bound_in o y) ((outer (seen_of o)).now y p) (now_is outer o y p)
now_is outer (Choice' names left q o) y p =
    choice_is names.now left.now (unbound (scope_env outer o)) y p (bound_in o y) ((outer (seen_of o)).now y p) (now_is outer o y p)

-- ---- nothing else rests on bound names

record Rest (e f : Env) : Type 0 where
  primed : e.primed ≡ f.primed
  defs : e.defs ≡ f.defs

words_rest : (xs : List Word) (vs : List Value) (e f : Env) → Rest e f → Rest (with_words xs vs e) f
words_rest [] vs e f r = r
words_rest (x ∷ xs) [] e f r = r
words_rest (x ∷ xs) (v ∷ vs) e f r = words_rest xs vs (bind x v e) f (record { primed = r.primed; defs = r.defs })

locals_rest : (xs : List Name) (vs : List Value) (e f : Env) → Rest e f → Rest (with_locals xs vs e) f
locals_rest [] vs e f r = r
locals_rest (x ∷ xs) [] e f r = r
locals_rest (x ∷ xs) (v ∷ vs) e f r = locals_rest xs vs (bind x.word v e) f (record { primed = r.primed; defs = r.defs })

step_rest : (x : Word) (w : Option Value) (s : Spot) (f : Env) → Rest s.0 f → Rest (stepping x w s).0 f
step_rest x None s f r = r
step_rest x (Some v) s f r = record { primed = r.primed; defs = r.defs }

one_rest : (x : Word) (vs : List Value) (k : ℕ) (s : Spot) (f : Env) → Rest s.0 f → Rest (chosen_one x vs k s).0 f
one_rest x vs zero s f r = r
one_rest x vs (suc k) s f r = step_rest x (slice_get vs k) s f r

choice_rest : (names : Over) (left : List ℕ) (s : Spot) (f : Env) → Rest s.0 f → Rest (chosen names left s).0 f
choice_rest [] left s f r = r
choice_rest (o ∷ os) [] s f r = r
choice_rest (o ∷ os) (k ∷ ks) s f r = choice_rest os ks (chosen_one o.0 o.1 k s) f (one_rest o.0 o.1 k s f r)

scope_rest : (outer : ℕ → Env) (s : Scope) → Rest (scope_env outer s) (outer (seen_of s))
scope_rest outer (Top n) = record { primed = refl; defs = refl }
scope_rest outer (Params xs vs n) = words_rest xs.now vs.now (outer n) (outer n) (record { primed = refl; defs = refl })
scope_rest outer (Local' xs vs q o) = locals_rest xs.now vs.now (scope_env outer o) (outer (seen_of o)) (scope_rest outer o)
scope_rest outer (Choice' names left q o) = choice_rest names.now left.now (unbound (scope_env outer o)) (outer (seen_of o)) (scope_rest outer o)

pub primed_is : (outer : ℕ → Env) (s : Scope) → (scope_env outer s).primed ≡ (outer (seen_of s)).primed
primed_is outer s = (scope_rest outer s).primed

pub defs_are : (outer : ℕ → Env) (s : Scope) → (scope_env outer s).defs ≡ (outer (seen_of s)).defs
defs_are outer s = (scope_rest outer s).defs

-- ---- the members of a choice

option_first : (o : Option Value) (vs : List Value) → with_option o vs ≡ with_option o [] ++ vs
option_first None vs = refl
option_first (Some v) vs = refl

one_member : (x : Word) (w : Option Value) (s : Spot) → (stepping x w s).1 ≡ s.1 ++ with_option w []
one_member x None s = sym (append-nil s.1)
one_member x (Some v) s = refl

next_member : (x : Word) (vs : List Value) (k : ℕ) (s : Spot) → (chosen_one x vs k s).1 ≡ s.1 ++ with_option (picked_at vs k) []
next_member x vs zero s = sym (append-nil s.1)
next_member x vs (suc k) s = one_member x (slice_get vs k) s

pub choice_members : (names : Over) (left : List ℕ) (s : Spot) → (chosen names left s).1 ≡ s.1 ++ members_of_choice names left
choice_members [] left s = sym (append-nil s.1)
choice_members (o ∷ os) [] s = sym (append-nil s.1)
choice_members (o ∷ os) (k ∷ ks) s =
    choice_members os ks (chosen_one o.0 o.1 k s)
    ∙ ap (λ l. l ++ members_of_choice os ks) (next_member o.0 o.1 k s)
    ∙ append_assoc s.1 (with_option (picked_at o.1 k) []) (members_of_choice os ks)
    ∙ ap (λ l. s.1 ++ l) (sym (option_first (picked_at o.1 k) (members_of_choice os ks)))

pub option_next : (names : Over) (left : List ℕ) (done done2 all : List Value) (o : Option Value) → done2 ≡ done ++ with_option o [] → done ++ with_option o (members_of_choice names left) ≡ all → done2 ++ members_of_choice names left ≡ all
option_next names left done done2 all o d h =
    ap (λ l. l ++ members_of_choice names left) d ∙ append_assoc done (with_option o []) (members_of_choice names left)
    ∙ ap (λ l. done ++ l) (sym (option_first o (members_of_choice names left))) ∙ h
