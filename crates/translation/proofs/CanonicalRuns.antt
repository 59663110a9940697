-- Where names give canonical values in each state whose variables have canonical values, a run of effects leads from such states to such states.
use Rattle.std.proofs.Common.{◌≡◌, List, Bool, true, false, inl, inr, sym, subst, Ok, Err}
use Rattle.tla_token.specs.Signs.{is_among}
use Rattle.tla_token.specs.declared.place.Place.{Place}
use Rattle.tla_tree.specs.Tree.{Word, Tree}
use Rattle.tla_value.specs.Value.{Value, Values, no_values, and, Outcome}
use Rattle.tla_value.specs.Order.{IsCanonical, AreCanonical}
use Rattle.tla_value.specs.Stops.{plain}
use Rattle.tla_value.specs.laws.CanonicalNames.{Has, Sound}
use Rattle.tla_value.proofs.Canonical.{then_has, IsSet}
use Rattle.tla_value.proofs.CanonicalForms.{set_proper}
use Rattle.tla_value.proofs.CanonicalEval.{sound_bind, eval_canonical}
use Rattle.tla_value.proofs.CanonicalTests.{value_kept}
use Rattle.pcal_tree.specs.Algorithm.{Binds, no_binds, one_of, is, Statement, Statements, Branches, no_branches, or}
use Rattle.pcal_tree.specs.Algorithm as Source
use Rattle.pcal_tree.specs.Scope.{State, Scope, bound, place_of, members}
use Rattle.action_builder.specs.Assigned.{Names, more, assigned}
use Rattle.action_builder.specs.Written.{own, side_of}
use Rattle.action_builder.specs.laws.Ready.{Readable, Scoped, SettledOne, Settled, SettledSome, FineBinds, FineOne, Fine, FineSome}
use Rattle.action_builder.proofs.Actions.{value_for}
use Rattle.action_builder.proofs.Effects.{Exp, Effect, assign, await, branch, either, choose, Effects, done, then, Ways, no_ways, way, Awaits, Chosen, SomeOf, Picks, Next, RunOne, Run, RunSome, one_member, nested, effect_of, effects_of, ways_of}
use Rattle.action_builder.proofs.Except.{value_law}
use Rattle.action_builder.proofs.Matching.{scoped_bound}
use Rattle.action_builder.proofs.Parts.{moved_good}

module _ (vs : List Word) where
  -- the variables have canonical values
  abbrev pub AllCanonical : State → Type 0
  AllCanonical s = (x : Word) → is_among vs x ≡ true → IsCanonical (s x)

  -- variables stand for themselves, and in such states names give canonical values
  pub record CanonicalScope (c : Scope) : Type 0 where
    pub scoped : Scoped vs c
    pub sound : (s : State) → AllCanonical s → Sound (c.env s)

  pub canonical_bound : (x : Word) (v : Value) (c : Scope) → is_among vs x ≡ false → IsCanonical v → CanonicalScope c → CanonicalScope (bound x v c)
  canonical_bound x v c out k h = record { scoped = scoped_bound vs c x v out h.scoped; sound = λ s i. sound_bind x v (c.env s) k (h.sound s i) }

  -- what an expression gives there, if anything, has the property
  abbrev pub Gives : {X : Type 0} → (X → Type 0) → Exp X → Type 0
  Gives Q e = (c : Scope) (s : State) → CanonicalScope c → AllCanonical s → Has Q (e c s)

  -- what is assigned and what a `with` binds is canonical, and no variable is bound
  abbrev mutual
    pub KeepsOne : Effect → Type 0
    KeepsOne (assign ps) = (y : Word) → is_among vs y ≡ true → Gives IsCanonical (value_for y ps)
    KeepsOne (await e) = Unit {0}
    KeepsOne (branch e a b) = Keeps a × Keeps b
    KeepsOne (either bs) = KeepsSome bs
    KeepsOne (choose x e b) = (is_among vs x ≡ false) × Gives IsSet e × Keeps b

    pub Keeps : Effects → Type 0
    Keeps done = Unit {0}
    Keeps (then st rest) = KeepsOne st × Keeps rest

    pub KeepsSome : Ways → Type 0
    KeepsSome no_ways = Unit {0}
    KeepsSome (way b bs) = Keeps b × KeepsSome bs

  -- ---- runs

  awaits_keep : (o : Outcome Bool) (s : State) (r : Outcome State) → AllCanonical s → Awaits o s r → Has AllCanonical r
  awaits_keep (Ok true) s r i h = subst (Has AllCanonical) (sym h) i
  awaits_keep (Ok false) s r i h = absurd h
  awaits_keep (Err k) s r i h = subst (Has AllCanonical) (sym h) tt

  chosen_keep : (o : Outcome Bool) (P Q : Type 0) (r : Outcome State) → Chosen o P Q r → (P → Has AllCanonical r) → (Q → Has AllCanonical r) → Has AllCanonical r
  chosen_keep (Ok true) P Q r h p q = p h
  chosen_keep (Ok false) P Q r h p q = q h
  chosen_keep (Err k) P Q r h p q = subst (Has AllCanonical) (sym h) tt

  some_keep : (us : Values) (P : Value → Type 0) (Z : Type 0) → AreCanonical us → SomeOf us P → ((v : Value) → IsCanonical v → P v → Z) → Z
  some_keep no_values P Z k h f = absurd h
  some_keep (and v us) P Z k (inl p) f = f v k.0 p
  some_keep (and v us) P Z k (inr q) f = some_keep us P Z k.1 q f

  picks_keep : (o : Outcome Values) (P : Value → Type 0) (r : Outcome State) → Has IsSet o → Picks o P r → ((v : Value) → IsCanonical v → P v → Has AllCanonical r) → Has AllCanonical r
  picks_keep (Ok us) P r k h f = some_keep us P (Has AllCanonical r) k.1 h f
  picks_keep (Err j) P r k h f = subst (Has AllCanonical) (sym h) tt

  next_keep : (R : State → Outcome State → Type 0) (q r : Outcome State) → Has AllCanonical q → Next R q r → ((u : State) → AllCanonical u → R u r → Has AllCanonical r) → Has AllCanonical r
  next_keep R (Ok u) r k h f = f u k h
  next_keep R (Err j) r k h f = subst (Has AllCanonical) (sym h) tt

  mutual
    pub run_one_keeps : (st : Effect) → KeepsOne st → (c : Scope) (s : State) (r : Outcome State) → CanonicalScope c → AllCanonical s → RunOne st c s r → Has AllCanonical r
    run_one_keeps (assign ps) k c s (Ok u) g i h = λ y m. subst (Has IsCanonical) (moved_good ps c s u (sym h) y) (k y m c s g i)
    run_one_keeps (assign ps) k c s (Err j) g i h = tt
    run_one_keeps (await e) k c s r g i h = awaits_keep (e c s) s r i h
    run_one_keeps (branch e a b) k c s r g i h = chosen_keep (e c s) _ _ r h (run_keeps a k.0 c s r g i) (run_keeps b k.1 c s r g i)
    run_one_keeps (either bs) k c s r g i h = run_some_keeps bs k c s r g i h
    run_one_keeps (choose x e b) k c s r g i h = picks_keep (e c s) _ r (k.1 c s g i) h (λ v q p. run_keeps b k.2 (bound x v c) s r (canonical_bound x v c k.0 q g) i p)

    pub run_keeps : (ss : Effects) → Keeps ss → (c : Scope) (s : State) (r : Outcome State) → CanonicalScope c → AllCanonical s → Run ss c s r → Has AllCanonical r
    run_keeps done k c s r g i h = subst (Has AllCanonical) (sym h) i
    run_keeps (then st rest) k c s r g i (q, one, h) = next_keep (Run rest c) q r (run_one_keeps st k.0 c s q g i one) h (λ u j n. run_keeps rest k.1 c u r g j n)

    run_some_keeps : (bs : Ways) → KeepsSome bs → (c : Scope) (s : State) (r : Outcome State) → CanonicalScope c → AllCanonical s → RunSome bs c s r → Has AllCanonical r
    run_some_keeps no_ways k c s r g i h = absurd h
    run_some_keeps (way b bs) k c s r g i (inl h) = run_keeps b k.0 c s r g i h
    run_some_keeps (way b bs) k c s r g i (inr h) = run_some_keeps bs k.1 c s r g i h

  -- ---- statements for which items can be written

  members_give : (e : Tree) → Gives IsSet (members plain e)
  members_give e c s g i = then_has IsCanonical IsSet _ _ (eval_canonical plain value_kept e (c.env s) (g.sound s i)) (λ v q. set_proper (place_of e c) v q)

  member_gives : (e : Tree) → Gives IsSet (one_member plain e)
  member_gives e c s g i = then_has IsCanonical IsSet _ _ (eval_canonical plain value_kept e (c.env s) (g.sound s i)) (λ v q. ((tt, tt), (q, tt)))

  module _ (U : Readable) where
    nested_keeps : (A : Names) (bs : Binds) → FineBinds U vs A bs → (b : Effects) → Keeps b → Keeps (nested plain bs b)
    nested_keeps A no_binds f b k = k
    nested_keeps A (one_of x e bs) f b k = ((f.1, members_give e, nested_keeps A bs f.2 b k), tt)
    nested_keeps A (is x e bs) f b k = ((f.1, member_gives e, nested_keeps A bs f.2 b k), tt)

    mutual
      one_keeps : (A : Names) (at : Place) (st : Statement) → SettledOne (is_among vs) st → FineOne U vs A st → KeepsOne (effect_of plain at st)
      one_keeps A at (Source.assign ms) z f = λ y m c s g i.
          subst (Has IsCanonical) (value_law (is_among vs) y ms f.left c g.scoped.part s (λ p. g.scoped.reads y m p s)) (eval_canonical plain value_kept (side_of y (own y ms)) (c.env s) (g.sound s i))
      one_keeps A at (Source.await e) z f = tt
      one_keeps A at (Source.print e) z f = tt
      one_keeps A at (Source.assert e) z f = tt
      one_keeps A at Source.skip z f = tt
      one_keeps A at (Source.branch e a b) z f = (all_keep A a z.0 f.1, all_keep A b z.1 f.2)
      one_keeps A at (Source.either bs) z f = some_keeps A bs z f
      one_keeps A at (Source.with no_binds b) z f = (all_keep A b z f.1, tt)
      one_keeps A at (Source.with (one_of x e bs) b) z f = (f.0.1, members_give e, nested_keeps A bs f.0.2 (effects_of plain b) (all_keep A b z f.1))
      one_keeps A at (Source.with (is x e bs) b) z f = (f.0.1, member_gives e, nested_keeps A bs f.0.2 (effects_of plain b) (all_keep A b z f.1))
      one_keeps A at _ z f = absurd z

      pub all_keep : (A : Names) (ss : Statements) → Settled (is_among vs) ss → Fine U vs A ss → Keeps (effects_of plain ss)
      all_keep A Source.done z f = tt
      all_keep A (Source.then at st rest) z f = (one_keeps A at.first st z.0 f.0, all_keep (more A (assigned st)) rest z.1 f.1)
      all_keep A (Source.mark l k rest) z f = tt

      some_keeps : (A : Names) (bs : Branches) → SettledSome (is_among vs) bs → FineSome U vs A bs → KeepsSome (ways_of plain bs)
      some_keeps A no_branches z f = tt
      some_keeps A (or b bs) z f = (all_keep A b z.0 f.0, some_keeps A bs z.1 f.1)
