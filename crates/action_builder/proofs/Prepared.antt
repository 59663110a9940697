-- The prepared statements have the ends of the statements as they are, and trouble where these have trouble.
use Rattle.std.proofs.Common.{◌≡◌, List, [], ◌∷◌, Bool, true, false, cond, Some, None, refl, sym, ◌∙◌, subst, Ok, Err}
use Rattle.tla_token.specs.declared.place.Place.{Place}
use Rattle.tla_tree.specs.Tree.{Word, apply, name, node, no_trees}
use Rattle.tla_value.specs.Value.{Value, Outcome, Sense, fault, over, ◌>>=◌}
use Rattle.tla_value.specs.Stops.{Check, sense_of}
use Rattle.tla_value.specs.Strict.{applied, strict_value, strict_test}
use Rattle.tla_value.specs.Meaning.{just, eval, part_values}
use Rattle.tla_value.specs.laws.FreeNames.{Any}
use Rattle.tla_value.specs.Grafts.{owned, own_part, read_tree}
use Rattle.pcal_tree.specs.Algorithm.{Statements}
use Rattle.pcal_tree.specs.Scope.{State, deeper, Scope, reach_in}
use Rattle.pcal_tree.specs.Program.{read_at}
use Rattle.pcal_tree.specs.Run.{Has, Follow, Rules, unlabelled, run}
use Rattle.pcal_tree.specs.Expand.{graft_all}
use Rattle.pcal_tree.specs.laws.Expansion.{Clean, AnyPlace}
use Rattle.pcal_tree.proofs.GraftRuns.{graft_runs, any_body}
use Rattle.pcal_tree.proofs.ExpandRuns.{through_meets}
use Rattle.action_builder.specs.laws.Settling.{to_end, Close}
use Rattle.action_builder.specs.laws.Scopes.{part_at, StandsAtPath, own_scope, Whole, own_path}
use Rattle.action_builder.specs.Settled.{settled}
use Rattle.action_builder.specs.laws.LabelSteps.{LabelStep, prepared_of, Prepares, Stepped}
use Rattle.tla_value.proofs.Outcomes.{then_then}
use Rattle.action_builder.proofs.Settle.{settle_in}

-- the localised statements have the courses of the statements
pub localised : (M : Rules) (self : Word) (own : Word → Bool) (here : Word) (ss : Statements) (sc : Scope) → AnyPlace sc → Clean M.check (owned self own) ss → (K : Follow) → run M here (graft_all (owned self own) ss) sc K ≡ run M here ss (own_scope M.check self own sc) K
localised M self own here ss sc h clean K =
    graft_runs M (owned self own) Any here ss clean (any_body ss) sc (own_scope M.check self own sc) (through_meets M.check (owned self own) sc h) K K refl

own_parts : (c : Check) (V : Word → Bool) (self : Word) (v : Value) (own : Word → Bool) (sc : Scope) → Whole V self v own sc → (x : Word) → V x ≡ true → (at : Place) (s : State) → (own_scope c self own sc).part x at s ≡ Ok (part_at x (own_path (own x) v))
own_parts c V self v own sc h x m at s = by (own x) refl
  where
    by : (b : Bool) → own x ≡ b → reach_in c (cond b (Some (own_part self x at)) None) x at sc s ≡ Ok (part_at x (own_path b v))
    by true o = (λ i. (h.part x m at s i) >>= (λ p. (part_values (eval c (node (name self) at no_trees) ∷ []) (sc.env s)) >>= (λ ks. Ok (deeper ks p))))
        ∙ then_then ((sc.env s).now self at).value (λ k. Ok (k ∷ [])) (λ ks. Ok (deeper ks (part_at x [])))
        ∙ (λ i. (h.identity x o at s i).value >>= (λ k. Ok (deeper (k ∷ []) (part_at x []))))
    by false o = h.part x m at s

last_read : (o : Outcome Value) (at : Place) → o ≡ o >>= (read_at at [])
last_read (Ok v) at = refl
last_read (Err (fault k p)) at = refl
last_read (Err (over p)) at = refl

-- a variable that is read in the state stands at the identifier where it is the process's own, else for itself
pub own_stands : (c : Check) (V : Word → Bool) (self : Word) (v : Value) (own : Word → Bool) (sc : Scope) → Whole V self v own sc → (x : Word) → V x ≡ true → ((at : Place) (s : State) → (sc.env s).now x at ≡ just (s x)) → StandsAtPath (own_scope c self own sc) (own_path (own x) v) x
own_stands c V self v own sc h x m reads at s = (own_parts c V self v own sc h x m at s, by (own x) refl)
  where
    parts : Sense → Sense → Outcome (List Value)
    parts f k = f.value >>= (λ v. (k.value >>= (λ w. Ok (w ∷ []))) >>= (λ ws. Ok (v ∷ ws)))

    by : (b : Bool) → own x ≡ b → read_tree c (cond b (Some (own_part self x at)) None) x at (sc.env s) ≡ sense_of (read_at at (own_path b v) (s x))
    by true o =
        (λ i. record {
          value = parts (reads at s i) (h.identity x o at s i) >>= strict_value c apply at;
          test = λ p w. parts (reads at s i) (h.identity x o at s i) >>= strict_test c apply at p w;
        }) ∙ (λ i. sense_of (last_read (applied at (s x) v) at i))
    by false o = reads at s

-- from the prepared statements to the statements as they are
pub prepared_law : (M : Rules) (d : LabelStep) → Prepares M d → (s : State) → Close (Has (run M unlabelled (prepared_of d) d.scope to_end s)) (Stepped M d s)
prepared_law M d p s =
    subst (λ F. Close (Has (F s)) (Stepped M d s)) (sym (localised M d.self d.own unlabelled (settled d.jumps d.here d.exit d.statements) d.scope p.free p.clean to_end))
    (settle_in M d.jumps d.names d.callable (own_scope M.check d.self d.own d.scope) p.does d.here d.exit d.statements p.tidy s)
