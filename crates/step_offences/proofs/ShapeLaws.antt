-- What statements in memory with others in them offend, each shape with what its branches do.
use Rattle.std.proofs.Common.{◌≡◌, ℕ, List, Bool, true, false, ◌||◌, Some, None, Vec, Global, refl, ap, ◌∙◌, subst, cond}
use Rattle.tla_token.specs.declared.rule.Rule.TheVariants.{AfterBranch}
use Rattle.tla_tree.specs.Tree.{Tree}
use Rattle.tla_tree.specs.Pool as pool
use Rattle.pcal_tree.specs.declared.algorithm.Span as code_span
use Rattle.pcal_tree.specs.declared.algorithm.Bind.{Bind}
use Rattle.pcal_tree.specs.declared.algorithm.Stmt.{Stmt}
use Rattle.pcal_tree.specs.declared.algorithm.Stmt.TheVariants.{If, Either, With, While}
use Rattle.pcal_tree.specs.Algorithm.{Span, Statement, branch, either, with, while, then}
use Rattle.pcal_tree.specs.InMemory.{span_of, binds_at, stmt_at, statements_at, branches_at}
use Rattle.pcal_tree.specs.OffencesSteps.{holds, inside, visits}
use Rattle.pcal_tree.specs.Paths as paths
use Rattle.pcal_tree.specs.Paths.{Effects}
use Rattle.pcal_tree.specs.Run.{Partner}
use Rattle.pcal_tree.specs.laws.MacroSummaries.{Summary}
use Rattle.pcal_tree.proofs.EffectLaws.{Alike}
use Rattle.pcal_tree.proofs.InMemoryEach.{if_at, either_at, with_at, while_at}
use Rattle.label_steps.specs.declared.ways.Ways.{Ways}
use Rattle.label_steps.specs.PathsIn.{path_of}
use Rattle.label_steps.specs.WaysIn.{looped, LeadsBoth, AreWays}
use Rattle.added_labels.specs.declared.seen.Where.{Where}
use Rattle.added_labels.specs.Sight.{effects_of}
use Rattle.added_labels.proofs.SightLaws.{quiet}
use Rattle.step_offences.specs.declared.steps.Spot.{Spot}
use Rattle.step_offences.specs.declared.steps.Behind.{Behind}
use Rattle.step_offences.specs.Stepping.{Told, is_told, Tells, TellsVisits, here, GoesOne, GoesAll, GoesSome}
use Rattle.step_offences.proofs.StepLaws.{OfBranches, if_goes, either_goes, with_goes, while_goes, one_stands}

pub behind_both : (r : Behind) (h x y : Bool) → r.held ≡ h → r.due ≡ cond h (Some AfterBranch) None → h ≡ (x || y) → OfBranches r (x || y)
behind_both r h x y e d z = subst (OfBranches r) z (record { held = e; due = d })

module _ (w : Where) (ms : List Summary) (ts : List Tree) (s : Spot) (j : Partner) (f : Stmt) (at : Span) (st : Statement) (stands : stmt_at ts f ≡ then at st) where
  pub if_stands : (sp : code_span.Span) (e : ℕ) (b c : Vec Stmt Global) (x y : List Stmt) (old copy one two new : Ways) (k m n o : Told) (p q : Bool) (r : Behind) → f ≡ If sp e b c → x ≡ b.items → y ≡ c.items → Tells k m (here s false false sp.first)
      → AreWays (path_of old.unreached) (path_of old.reached) copy → GoesAll (effects_of w ms) None (statements_at ts x) old one m n p → GoesAll (effects_of w ms) None (statements_at ts y) copy two n o q
      → AreWays (paths.joined (path_of one.unreached) (path_of two.unreached)) (paths.joined (path_of one.reached) (path_of two.reached)) new → OfBranches r (p || q)
      → GoesOne (effects_of w ms) s.labelled s.due at st j old new k o r
  if_stands sp e b c x y old copy one two new k m n o p q r is d g t a h i z br =
      one_stands (effects_of w ms) s j (stmt_at ts f) (span_of sp) at (branch (pool.at ts e) (statements_at ts b.items) (statements_at ts c.items)) st old new k o r (ap (stmt_at ts) is ∙ if_at ts sp e b c) stands
      (if_goes (effects_of w ms) s j (span_of sp) (pool.at ts e) (statements_at ts b.items) (statements_at ts c.items) old copy one two new k m n o p q r
      ((quiet w ms).branch (pool.at ts e) (statements_at ts b.items) (statements_at ts c.items)) t a
      (subst (λ (ss : List Stmt). GoesAll (effects_of w ms) None (statements_at ts ss) old one m n p) d h) (subst (λ (ss : List Stmt). GoesAll (effects_of w ms) None (statements_at ts ss) copy two n o q) g i) z br)

  pub either_stands : (sp : code_span.Span) (bs : Vec (Vec Stmt Global) Global) (xs : List (Vec Stmt Global)) (old new : Ways) (k m n : Told) (p : Bool) (r : Behind) → f ≡ Either sp bs → xs ≡ bs.items → Tells k m (here s false false sp.first)
      → GoesSome (effects_of w ms) (branches_at ts xs) old new m n p → OfBranches r p → GoesOne (effects_of w ms) s.labelled s.due at st j old new k n r
  either_stands sp bs xs old new k m n p r is d t g br =
      one_stands (effects_of w ms) s j (stmt_at ts f) (span_of sp) at (either (branches_at ts bs.items)) st old new k n r (ap (stmt_at ts) is ∙ either_at ts sp bs) stands
      (either_goes (effects_of w ms) s j (span_of sp) (branches_at ts bs.items) old new k m n p r ((quiet w ms).either (branches_at ts bs.items)) t
      (subst (λ (ys : List (Vec Stmt Global)). GoesSome (effects_of w ms) (branches_at ts ys) old new m n p) d g) br)

  pub with_stands : (sp : code_span.Span) (bs : Vec Bind Global) (b : Vec Stmt Global) (x : List Stmt) (old new : Ways) (k m n : Told) (p : Bool) (r : Behind) → f ≡ With sp bs b → x ≡ b.items → Tells k m (here s false false sp.first)
      → GoesAll (effects_of w ms) None (statements_at ts x) old new m n p → OfBranches r p → GoesOne (effects_of w ms) s.labelled s.due at st j old new k n r
  with_stands sp bs b x old new k m n p r is d t g br =
      one_stands (effects_of w ms) s j (stmt_at ts f) (span_of sp) at (with (binds_at ts bs.items) (statements_at ts b.items)) st old new k n r (ap (stmt_at ts) is ∙ with_at ts sp bs b) stands
      (with_goes (effects_of w ms) s j (span_of sp) (binds_at ts bs.items) (statements_at ts b.items) old new k m n p r ((quiet w ms).with (binds_at ts bs.items) (statements_at ts b.items)) t
      (subst (λ (ss : List Stmt). GoesAll (effects_of w ms) None (statements_at ts ss) old new m n p) d g) br)

  pub while_stands : (sp : code_span.Span) (e : ℕ) (b : Vec Stmt Global) (x y : List Stmt) (old new : Ways) (k m n : Told) (p : Bool) → f ≡ While sp e b → x ≡ b.items → y ≡ b.items → Tells k m (here s true false sp.first)
      → LeadsBoth (looped (effects_of w ms) (statements_at ts x) s.labelled) old new
      → ((q : paths.Path) → Alike q (path_of new.reached) → TellsVisits (effects_of w ms) m n (visits (effects_of w ms) (inside q) (statements_at ts y))) → (is_told m ≡ true → p ≡ holds (statements_at ts y))
      → GoesOne (effects_of w ms) s.labelled s.due at st j old new k n (record { held = p; due = None })
  while_stands sp e b x y old new k m n p is d g t h i v =
      one_stands (effects_of w ms) s j (stmt_at ts f) (span_of sp) at (while (pool.at ts e) (statements_at ts b.items)) st old new k n (record { held = p; due = None }) (ap (stmt_at ts) is ∙ while_at ts sp e b) stands
      (while_goes (effects_of w ms) s j (span_of sp) (pool.at ts e) (statements_at ts b.items) old new k m n (record { held = p; due = None }) ((quiet w ms).while (pool.at ts e) (statements_at ts b.items)) t
      (subst (λ (ss : List Stmt). LeadsBoth (looped (effects_of w ms) (statements_at ts ss) s.labelled) old new) d h)
      (subst (λ (ss : List Stmt). (q : paths.Path) → Alike q (path_of new.reached) → TellsVisits (effects_of w ms) m n (visits (effects_of w ms) (inside q) (statements_at ts ss))) g i)
      (subst (λ (ss : List Stmt). is_told m ≡ true → p ≡ holds (statements_at ts ss)) g v) refl)
