-- Jumps, loops, calls and returns that can be written as assignments, and courses that have the same ends.
use Rattle.std.specs.Prelude.{◌≡◌, ◌↔◌, Bool, true, ◌||◌, Ok}
use Rattle.tla_tree.specs.Tree.{Word, Trees}
use Rattle.tla_value.specs.Value.{Value, Outcome, IsBad}
use Rattle.tla_value.specs.Meaning.{evals, part_values}
use Rattle.pcal_tree.specs.Algorithm.{Name, Span, Binds, no_binds, one_of, is, Statement, branch, either, with, while, macro, call, return, Statements, done, then, mark, Branches, no_branches, or}
use Rattle.pcal_tree.specs.Scope.{State, Scope, bound, places_of}
use Rattle.pcal_tree.specs.Run.{Course, ends, Has, after, Partner, no_partner, partner_of, Follow, Rules, unlabelled, run}
use Rattle.action_builder.specs.Settled.{WrittenJumps, jumps, jumps_some}

-- nothing follows
abbrev pub to_end : Follow
to_end = record { label = unlabelled; partner = no_partner; goes = λ s. ends s }

-- a label or the end, as after a branching statement that jumps
abbrev pub Stops : Statements → Type 0
Stops done = Unit {0}
Stops (then at st rest) = ⊥
Stops (mark l k rest) = Unit {0}

abbrev pub EachBind : (Word → Type 0) → Binds → Type 0
EachBind F no_binds = Unit {0}
EachBind F (one_of x e bs) = F x.word × EachBind F bs
EachBind F (is x e bs) = F x.word × EachBind F bs

-- the calls that can be written, with their partners, and whether a `return` can
pub record Callable : Type 0 where
  pub calls : Name → Trees → Partner → Bool
  pub returns : Bool

-- no macro call is left, what jumps ends its list, each name of a `with` has F, and each call is one of g
abbrev mutual
  pub TidyOne : (Word → Type 0) → Callable → Statement → Statements → Type 0
  TidyOne F g (branch e a b) rest = Tidy F g a × Tidy F g b × ((jumps a || jumps b) ≡ true → Stops rest)
  TidyOne F g (either bs) rest = TidySome F g bs × (jumps_some bs ≡ true → Stops rest)
  TidyOne F g (with bs b) rest = Tidy F g b × (jumps b ≡ true → Stops rest) × EachBind F bs
  TidyOne F g (while e b) rest = Tidy F g b
  TidyOne F g (macro m ts) rest = ⊥
  TidyOne F g (call p ts) rest = g.calls p ts (partner_of rest) ≡ true
  TidyOne F g return rest = g.returns ≡ true
  TidyOne F g _ rest = Unit {0}

  pub Tidy : (Word → Type 0) → Callable → Statements → Type 0
  Tidy F g done = Unit {0}
  Tidy F g (then at st rest) = TidyOne F g st rest × Tidy F g rest
  Tidy F g (mark l k rest) = Unit {0}

  pub TidySome : (Word → Type 0) → Callable → Branches → Type 0
  TidySome F g no_branches = Unit {0}
  TidySome F g (or b bs) = Tidy F g b × TidySome F g bs

-- ---- the same ends, and trouble where the other has trouble

abbrev pub Outcomes : Type 1
Outcomes = Outcome State → Type 0

abbrev pub AnyBad : Outcomes → Type 0
AnyBad P = (o : Outcome State) × IsBad o × P o

pub record Close (P Q : Outcomes) : Type 0 where
  pub ends : (u : State) → P (Ok u) ↔ Q (Ok u)
  pub faults : AnyBad P ↔ AnyBad Q

abbrev pub CloseCourses : (State → Course) → (State → Course) → Type 0
CloseCourses K L = (s : State) → Close (Has (K s)) (Has (L s))

-- the assignments do what a jump, a call and a return do, in the scopes that fit
pub record DoesAsRules (M : Rules) (W : WrittenJumps) (Fit : Scope → Type 0) (F : Word → Type 0) (g : Callable) : Type 0 where
  pub goto : (l : Word) (sc : Scope) → Fit sc → CloseCourses (run M unlabelled (W.goto l) sc to_end) (M.goto l)
  pub call : (at : Span) (p : Name) (ts : Trees) (l : Word) (j : Partner) (sc : Scope) → Fit sc → g.calls p ts j ≡ true
      → CloseCourses (run M unlabelled (W.call at p ts l j) sc to_end) (λ s. after (part_values (evals M.check ts) (sc.env s)) (λ vs. M.call at.first p.word (places_of ts sc) vs l j s))
  pub return : (at : Span) (sc : Scope) → Fit sc → g.returns ≡ true → CloseCourses (run M unlabelled (W.return at) sc to_end) (M.return at.first)
  pub bind : (x : Word) (v : Value) (sc : Scope) → F x → Fit sc → Fit (bound x v sc)
