-- Formulas of fairness that are made of demands in memory are those that are defined, also as the pool grows.
use Rattle.std.proofs.Common.{◌≡◌, ℕ, ◌<◌, cond, List, [], ◌∷◌, length, map, Option, Some, None, refl, sym, ap, arith}
use Rattle.tla_tree.specs.Tree.{Word, Tree}
use Rattle.tla_tree.specs.Pool.{Keeps}
use Rattle.module_write.specs.declared.«module».Fairness.{Fairness}
use Rattle.module_write.specs.declared.«module».Call.{Call}
use Rattle.module_write.specs.declared.«module».Call.TheVariants as call
use Rattle.module_write.specs.InMemory.{CallIn, OverIn, MaybeIn, AllFairnessIn}
use Rattle.pcal_tree.specs.Takers.{each_of, single}
use Rattle.pcal_tree.specs.Program.{Program}
use Rattle.fairness.specs.Demands.{Demand, all_steps, routine_steps, label_steps, demands}
use Rattle.fairness.specs.FairnessLines.{over_of, guard_of, action_call, line_of, fairness_lines}
use Rattle.pcal_tree.specs.Calls.{label_name}
use Rattle.fairness_lines.specs.declared.demands.Owner.{Owner}
use Rattle.fairness_lines.specs.DemandsAt.{takers_at}
use Rattle.fairness_lines.specs.Asked.{asked}
use Rattle.fairness_lines.specs.LinesOf.{line_for}
use Rattle.marked_labels.proofs.LabelLaws.{chosen_left_out}

-- ---- as the pool grows

pub takers_kept : (ts us : List Tree) → Keeps ts us → (o : Owner) → o.identity < length ts → takers_at us o ≡ takers_at ts o
takers_kept ts us k o h = ap (λ (e : Tree). cond o.several (each_of e) (single e)) (k.same o.identity h)

module _ (ts us : List Tree) (k : Keeps ts us) where
  over_in : (o : Option (Word × ℕ)) → OverIn (length ts) o → OverIn (length us) o
  over_in None h = tt
  over_in (Some (x, s)) h = (let l = k.longer in omega (arith, h, l))

  pub maybe_in : (o : Option ℕ) → MaybeIn (length ts) o → MaybeIn (length us) o
  maybe_in None h = tt
  maybe_in (Some e) h = (let l = k.longer in omega (arith, h, l))

  call_in : (c : Call) → CallIn (length ts) c → CallIn (length us) c
  call_in (call.Bare a) h = tt
  call_in (call.With a e) h = (let l = k.longer in omega (arith, h, l))

  pub lines_in : (fs : List Fairness) → AllFairnessIn (length ts) fs → AllFairnessIn (length us) fs
  lines_in [] h = tt
  lines_in (f ∷ fs) h = (record { over = over_in f.over h.0.over; guard = maybe_in f.guard h.0.guard; action = call_in f.action h.0.action }, lines_in fs h.1)

-- ---- formulas

module _ (P : Program) where
  same_line : (d : Demand) → line_of P d ≡ line_for P.naming (asked P.naming d)
  same_line all_steps = refl
  same_line (routine_steps t strong u) =
      ap (λ (ls : List Word). record {
        over = over_of t.takers;
        strong = strong;
        guard = guard_of t.takers (map (label_name P u) ls);
        action = action_call t u (P.naming.title u.number);
      }) (sym (chosen_left_out u.body))
  same_line (label_steps t u l) = refl

  same_lines : (ds : List Demand) → map (line_of P) ds ≡ map (line_for P.naming) (map (asked P.naming) ds)
  same_lines [] = refl
  same_lines (d ∷ ds) = λ i. same_line d i ∷ same_lines ds i

  pub lines_are : map (line_for P.naming) (map (asked P.naming) (demands P.algorithm)) ≡ fairness_lines P
  lines_are = sym (same_lines (demands P.algorithm))
