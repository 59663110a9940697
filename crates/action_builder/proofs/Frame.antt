-- A run changes no variable that its items don't assign.
use Rattle.std.proofs.Common.{◌≡◌, List, ◌++◌, Bool, true, false, refl, sym, ◌∙◌, ap, subst, ⊎_elim, Ok, Err}
use Rattle.std.proofs.lemmas.Bool.{or_parts}
use Rattle.tla_tree.specs.Tree.{Word}
use Rattle.tla_value.specs.Value.{Value, Values, no_values, and, Outcome}
use Rattle.tla_value.proofs.Outcomes.{ok_is}
use Rattle.pcal_tree.specs.Scope.{Scope, bound, State}
use Rattle.tla_token.specs.Signs.{is_among}
use Rattle.action_builder.proofs.Effects.{Effect, assign, await, branch, either, choose, Effects, done, then, Ways, no_ways, way, effect_names, effects_names, ways_names, Awaits, Chosen, SomeOf, Picks, Next, RunOne, Run, RunSome}
use Rattle.action_builder.proofs.Parts.{moved_good, value_kept, not_bad}
use Rattle.action_builder.proofs.Sets.{member_append}

pub not_in_front : (xs ys : List Word) (x : Word) → is_among (xs ++ ys) x ≡ false → is_among xs x ≡ false
not_in_front xs ys x e = (or_parts (is_among xs x) (is_among ys x) (sym (member_append xs ys x) ∙ e)).0

pub not_behind : (xs ys : List Word) (x : Word) → is_among (xs ++ ys) x ≡ false → is_among ys x ≡ false
not_behind xs ys x e = (or_parts (is_among xs x) (is_among ys x) (sym (member_append xs ys x) ∙ e)).1

pub frame_awaits : (o : Outcome Bool) (s u : State) → Awaits o s (Ok u) → u ≡ s
frame_awaits (Ok true) s u e = ok_is e
frame_awaits (Ok false) s u e = absurd e
frame_awaits (Err k) s u e = not_bad u k e

frame_chosen : (o : Outcome Bool) (P Q Z : Type 0) (u : State) → Chosen o P Q (Ok u) → (P → Z) → (Q → Z) → Z
frame_chosen (Ok true) P Q Z u r p q = p r
frame_chosen (Ok false) P Q Z u r p q = q r
frame_chosen (Err k) P Q Z u r p q = not_bad u k r

frame_some : (vs : Values) (P : Value → Type 0) (Z : Type 0) → SomeOf vs P → ((v : Value) → P v → Z) → Z
frame_some no_values P Z r h = absurd r
frame_some (and v vs) P Z r h = ⊎_elim (λ p. h v p) (λ q. frame_some vs P Z q h) r

frame_picks : (o : Outcome Values) (P : Value → Type 0) (Z : Type 0) (u : State) → Picks o P (Ok u) → ((v : Value) → P v → Z) → Z
frame_picks (Ok vs) P Z u r h = frame_some vs P Z r h
frame_picks (Err k) P Z u r h = not_bad u k r

frame_next : (R : State → Outcome State → Type 0) (q : Outcome State) (s u : State) (x : Word) → Next R q (Ok u) → ((w : State) → q ≡ Ok w → w x ≡ s x) → ((w : State) → R w (Ok u) → u x ≡ w x) → u x ≡ s x
frame_next R (Ok w) s u x n h k = k w n ∙ h w refl
frame_next R (Err j) s u x n h k = not_bad u j n

mutual
  pub frame_one : (st : Effect) (c : Scope) (s u : State) (x : Word) → RunOne st c s (Ok u) → is_among (effect_names st) x ≡ false → u x ≡ s x
  frame_one (assign ps) c s u x r f = ok_is (sym (moved_good ps c s u (sym r) x) ∙ value_kept ps c s x f)
  frame_one (await e) c s u x r f = ap (λ w. w x) (frame_awaits (e c s) s u r)
  frame_one (branch e a b) c s u x r f =
      frame_chosen (e c s) _ _ _ u r (λ p. frame a c s u x p (not_in_front (effects_names a) (effects_names b) x f)) (λ q. frame b c s u x q (not_behind (effects_names a) (effects_names b) x f))
  frame_one (either bs) c s u x r f = frame_by bs c s u x r f
  frame_one (choose y e b) c s u x r f = frame_picks (e c s) _ _ u r (λ v p. frame b (bound y v c) s u x p f)

  pub frame : (ss : Effects) (c : Scope) (s u : State) (x : Word) → Run ss c s (Ok u) → is_among (effects_names ss) x ≡ false → u x ≡ s x
  frame done c s u x r f = ap (λ w. w x) (ok_is r)
  frame (then st rest) c s u x r f =
      frame_next (Run rest c) r.0 s u x r.2
      (λ w q. frame_one st c s w x (subst (RunOne st c s) q r.1) (not_in_front (effect_names st) (effects_names rest) x f))
      (λ w n. frame rest c w u x n (not_behind (effect_names st) (effects_names rest) x f))

  pub frame_by : (bs : Ways) (c : Scope) (s u : State) (x : Word) → RunSome bs c s (Ok u) → is_among (ways_names bs) x ≡ false → u x ≡ s x
  frame_by no_ways c s u x r f = absurd r
  frame_by (way b bs) c s u x r f =
      ⊎_elim (λ p. frame b c s u x p (not_in_front (effects_names b) (ways_names bs) x f)) (λ q. frame_by bs c s u x q (not_behind (effects_names b) (ways_names bs) x f)) r
