-- What is left for added labels, in memory.
use Rattle.std.specs.Prelude.{◌≡◌, ◌≤◌, ℕ, List, [], ◌∷◌, Bool, Option, Some, None, drop, ◌++◌, map, Vec}
use Rattle.std.specs.declared.alloc.Global.{Global}
use Rattle.tla_tree.specs.Tree.{Word}
use Rattle.tla_token.specs.declared.place.Place.{Place}
use Rattle.tla_tree.specs.Tree.{Tree}
use Rattle.pcal_tree.specs.declared.algorithm.Stmt.{Stmt}
use Rattle.pcal_tree.specs.Algorithm.{Span, Statement, Statements, then, mark}
use Rattle.tla_tree.specs.Tree.{Name}
use Rattle.pcal_tree.specs.declared.mark.Mark.{Mark}
use Rattle.pcal_tree.specs.InMemory.{Before, stmt_at, statements_at, branches_at, past_stmt, past_statements}
use Rattle.pcal_tree.specs.Labelled.{Supply, added_name, number, labelled_if}
use Rattle.label_jumps.specs.Meeting.{AreMet}
use Rattle.placed_labels.specs.declared.names.Names.{Names}
use Rattle.placed_labels.specs.declared.place.Plan as code
use Rattle.placed_labels.specs.Placed.{Plan, is_wanted, wanted_then, passed, past_inside, past, past_some, placed_inside, placed, placed_some}

pub record AreLeft (n : Names) (s : Supply) : Type 0 where
  pub root : s.root ≡ n.root
  pub typed : AreMet n.typed s.typed
  pub from : n.from ≡ s.from

-- the next name of these and its number
pub record IsNext (s : Supply) (w : Word) (n : ℕ) : Type 0 where
  pub word : w ≡ added_name s.root (number s)
  pub number : n ≡ number s

-- ---- plans

pub record IsPlan (m : code.Plan) (k : Plan) : Type 0 where
  pub wanted : drop m.passed m.wanted.items ≡ k.wanted
  pub names : AreLeft m.names k.names

-- what is next was asked
pub record IsNextWanted (old new : code.Plan) (b : Bool) (k : Plan) : Type 0 where
  pub next : b ≡ is_wanted k
  pub wanted : drop new.passed new.wanted.items ≡ wanted_then k.wanted
  pub names : new.names ≡ old.names

-- the label that is added, if one is
abbrev pub with_label : List Tree → Option Stmt → Before
with_label ts None rest = rest
with_label ts (Some s) rest = stmt_at ts s rest

abbrev pub past_label : Option Stmt → ℕ
past_label None = 0
past_label (Some s) = past_stmt s

abbrev pub IsLabel : Option Stmt → Plan → Place → Type 0
IsLabel o k at = (ts : List Tree) (rest : Statements) → with_label ts o rest ≡ labelled_if (is_wanted k) k.names at rest

-- what stands before the rest of a list is a label, which has no place, or a statement at this place
abbrev pub IsPlaceOf : Option Place → Before → Type 0
IsPlaceOf None f = (x : Name) × (m : Mark) × (f ≡ mark x m)
IsPlaceOf (Some at) f = (s : Span) × (st : Statement) × (f ≡ then s st) × (at ≡ s.first)

-- what stands before the rest of a list, where labels are put inside it; a label stays
pub record IsPut (k : Plan) (new : code.Plan) (f g : Before) : Type 0 where
  pub label : (x : Name) (m : Mark) → f ≡ mark x m → (g ≡ mark x m) × IsPlan new k
  pub statement : (s : Span) (st : Statement) → f ≡ then s st → (g ≡ then s (placed_inside k st)) × IsPlan new (past_inside k st)

abbrev pub PutsInside : code.Plan → code.Plan → Stmt → Stmt → Type 0
PutsInside old new s r = (ts : List Tree) (k : Plan) → IsPlan old k → IsPut k new (stmt_at ts s) (stmt_at ts r)

-- what stands before a rest of statements, one before the other
abbrev pub onto : List Before → Statements → Statements
onto [] rest = rest
onto (f ∷ fs) rest = f (onto fs rest)

-- the label of a statement was put behind these, if it has one
pub record PutsLabel (old new : code.Plan) (s : Stmt) (before after : List Stmt) : Type 0 where
  pub more : List Stmt
  pub kept : after ≡ before ++ more
  pub numbers : past_statements after ≤ past_statements before
  pub at : Option Place
  pub place : (ts : List Tree) → IsPlaceOf at (stmt_at ts s)
  pub label : (ts : List Tree) (x : Name) (m : Mark) → stmt_at ts s ≡ mark x m → (more ≡ []) × (new ≡ old)
  pub statement : (ts : List Tree) (k : Plan) → IsPlan old k → (sp : Span) (st : Statement) → stmt_at ts s ≡ then sp st
      → ((rest : Statements) → onto (map (stmt_at ts) more) rest ≡ labelled_if (is_wanted k) k.names sp.first rest) × IsPlan new (passed k)

abbrev pub PutsAll : code.Plan → code.Plan → List Stmt → List Stmt → Type 0
PutsAll old new ss rs = (ts : List Tree) (k : Plan) → IsPlan old k → (statements_at ts rs ≡ placed k (statements_at ts ss)) × IsPlan new (past k (statements_at ts ss))

abbrev pub PutsBranches : code.Plan → code.Plan → List (Vec Stmt Global) → List (Vec Stmt Global) → Type 0
PutsBranches old new ss rs = (ts : List Tree) (k : Plan) → IsPlan old k → (branches_at ts rs ≡ placed_some k (branches_at ts ss)) × IsPlan new (past_some k (branches_at ts ss))
