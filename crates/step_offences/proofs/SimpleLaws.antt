-- What a statement with none in it offends where it is gone through along all paths. The first three lemmas stand in `WaysLaws` of `label_steps` too, where they are said of what is gathered.
use Rattle.std.proofs.Common.{◌≡◌, List, [], ◌++◌, Bool, false, ◌||◌, Option, None, refl, sym, ◌∙◌, subst, cond}
use Rattle.std.specs.Option.{option_map}
use Rattle.tla_token.specs.declared.place.Place.{Place}
use Rattle.tla_token.specs.declared.rule.Rule.{Rule}
use Rattle.tla_tree.specs.Tree.{Word, Tree}
use Rattle.pcal_tree.specs.declared.algorithm.Simple as declared_simple
use Rattle.pcal_tree.specs.declared.algorithm.Simple.TheVariants as simple
use Rattle.pcal_tree.specs.Algorithm.{Span}
use Rattle.pcal_tree.specs.InMemory.{simple_at}
use Rattle.pcal_tree.specs.OffencesSteps.{holds_one, due_after, Visit, effect_with, visits_inside, while_offence}
use Rattle.pcal_tree.specs.Paths as paths
use Rattle.pcal_tree.specs.Paths.{Effects, has_assigned, after_one}
use Rattle.pcal_tree.specs.Run.{Partner}
use Rattle.pcal_tree.proofs.EffectLaws.{Alike}
use Rattle.pcal_tree.proofs.SetLaws.{Same}
use Rattle.label_steps.specs.declared.path.Path.{Path}
use Rattle.label_steps.specs.declared.sides.Step.{Step}
use Rattle.label_steps.specs.declared.ways.Ways.{Ways}
use Rattle.label_steps.specs.KnownIn.{Assigns}
use Rattle.label_steps.specs.PathsIn.{path_of}
use Rattle.label_steps.specs.WaysIn.{Leads, AreWays, standing}
use Rattle.label_steps.proofs.WalksLaws.{alike_sym, alike_then, assigned_alike, has_alike}
use Rattle.step_offences.specs.declared.steps.Spot.{Spot}
use Rattle.step_offences.specs.declared.steps.Behind.{Behind}
use Rattle.step_offences.specs.Stepping.{Told, Tells, TellsVisits, here, GoesOne}
use Rattle.step_offences.proofs.ToldLaws.{visits_none, one_told}

none_within : (ts : List Tree) (E : Effects) (l : Bool) (r : Option Rule) (p : paths.Path) (x : declared_simple.Simple) → visits_inside E (standing l r p) (simple_at ts x) ≡ []
none_within ts E l r p (simple.Assign ms) = refl
none_within ts E l r p (simple.Await e) = refl
none_within ts E l r p (simple.Print e) = refl
none_within ts E l r p (simple.Assert e) = refl
none_within ts E l r p simple.Skip = refl
none_within ts E l r p (simple.Goto x) = refl
none_within ts E l r p (simple.Macro x es) = refl
none_within ts E l r p (simple.Call x es) = refl
none_within ts E l r p simple.Return = refl

path_past : (ts : List Tree) (E : Effects) (l : Bool) (xs : List Word) (j : Partner) (x : declared_simple.Simple) → Same xs (effect_with E (simple_at ts x) j).variables → (p q : paths.Path) → Alike p q
    → Alike (after_one E (simple_at ts x) l p) (cond (holds_one (simple_at ts x)) None (option_map (λ us. xs ++ us) q))
path_past ts E l xs j x n p q h = by x n
  where
    moved : (ys : List Word) → Same xs ys → Alike (option_map (λ us. ys ++ us) p) (option_map (λ us. xs ++ us) q)
    moved ys n = assigned_alike ys xs p q (λ f. sym (n f)) h

    by : (x : declared_simple.Simple) → Same xs (effect_with E (simple_at ts x) j).variables → Alike (after_one E (simple_at ts x) l p) (cond (holds_one (simple_at ts x)) None (option_map (λ us. xs ++ us) q))
    by (simple.Assign ms) n = moved (E (simple_at ts (simple.Assign ms))).variables n
    by (simple.Await e) n = moved (E (simple_at ts (simple.Await e))).variables n
    by (simple.Print e) n = moved (E (simple_at ts (simple.Print e))).variables n
    by (simple.Assert e) n = moved (E (simple_at ts (simple.Assert e))).variables n
    by simple.Skip n = moved (E (simple_at ts simple.Skip)).variables n
    by (simple.Goto x) n = tt
    by (simple.Macro x es) n = moved (E (simple_at ts (simple.Macro x es))).variables n
    by (simple.Call x es) n = tt
    by simple.Return n = tt

simple_leads : (ts : List Tree) (E : Effects) (l : Bool) (xs : List Word) (j : Partner) (x : declared_simple.Simple) (jumps : Bool) → Same xs (effect_with E (simple_at ts x) j).variables → jumps ≡ holds_one (simple_at ts x) → (old new : Path)
    → Alike (cond jumps None (option_map (λ us. xs ++ us) (path_of old))) (path_of new) → Leads (after_one E (simple_at ts x) l) old new
simple_leads ts E l xs j x jumps n b old new h = λ p i.
    alike_then (after_one E (simple_at ts x) l p) (cond jumps None (option_map (λ us. xs ++ us) (path_of old))) (path_of new)
    (subst (λ (c : Bool). Alike (after_one E (simple_at ts x) l p) (cond c None (option_map (λ us. xs ++ us) (path_of old)))) (sym b) (path_past ts E l xs j x n p (path_of old) i)) h

no_loop : (ts : List Tree) (x : declared_simple.Simple) (at : Place) → [] ≡ while_offence (simple_at ts x) at
no_loop ts (simple.Assign ms) at = refl
no_loop ts (simple.Await e) at = refl
no_loop ts (simple.Print e) at = refl
no_loop ts (simple.Assert e) at = refl
no_loop ts simple.Skip at = refl
no_loop ts (simple.Goto x) at = refl
no_loop ts (simple.Macro x es) at = refl
no_loop ts (simple.Call x es) at = refl
no_loop ts simple.Return at = refl

pub simple_goes : (E : Effects) (s : Spot) (j : Partner) (ts : List Tree) (x : declared_simple.Simple) (step : Step) (at : Span) (place : Place) (old new : Ways) (m n : Told) (twice : Bool) (b : Behind)
    → Assigns step (effect_with E (simple_at ts x) j) → place ≡ at.first → b.held ≡ holds_one (simple_at ts x) → b.due ≡ due_after (simple_at ts x) j
    → twice ≡ (step.twice || has_assigned (path_of old.reached) step.names.items) → Tells m n (here s false twice place)
    → AreWays (cond b.held None (option_map (λ us. step.names.items ++ us) (path_of old.unreached))) (cond b.held None (option_map (λ us. step.names.items ++ us) (path_of old.reached))) new
    → GoesOne E s.labelled s.due at (simple_at ts x) j old new m n b
simple_goes E s j ts x step at place old new m n twice b k is held due t h w = record {
  goes = record {
    leads = record {
      unreached = simple_leads ts E s.labelled step.names.items j x b.held k.names held old.unreached new.unreached w.unreached;
      reached = simple_leads ts E s.labelled step.names.items j x b.held k.names held old.reached new.reached w.reached;
    };
    found = λ p i.
        one_told E m n n s false twice p at (simple_at ts x) j (no_loop ts x at.first)
        (t ∙ (λ z. k.twice z || has_alike (path_of old.reached) p step.names.items (effect_with E (simple_at ts x) j).variables (alike_sym p (path_of old.reached) i) k.names z))
        (subst (λ (q : Place). Tells m n (here s false twice q)) is h)
        (subst (λ (vs : List Visit). TellsVisits E n n vs) (sym (none_within ts E s.labelled s.due p x)) (visits_none E n));
    held = λ u. held;
  };
  due = λ u. due;
}
