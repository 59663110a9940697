-- What is seen in statements where no path leads to them and where one does, in memory.
use Rattle.std.specs.Prelude.{◌≡◌, [], ◌++◌, false, Option}
use Rattle.pcal_tree.specs.laws.MacroSpots.{Trail, At, Called, joined}
use Rattle.pcal_tree.proofs.SpotCalls.{LikeTrail, Like, SeenLike}
use Rattle.read_rules.specs.declared.assigned.Assigned.{Assigned}
use Rattle.read_rules.specs.declared.walk.Walk.{Walk}
use Rattle.read_rules.specs.declared.walk.Ways.{Ways}
use Rattle.read_rules.specs.declared.ways.Paths.{Paths}
use Rattle.read_rules.specs.PlainPuts.{Going}
use Rattle.read_rules.specs.SeenIn.{seen_of, at_of, Walks}
use Rattle.read_rules.specs.Sets.{trail_of}

-- both go on so
abbrev pub Goes : Ways → Ways → Going → Type 0
Goes old new f = Walks old.unreached new.unreached f × Walks old.reached new.reached f

-- nothing is seen yet
pub record Begins (w : Walk) (z : At) : Type 0 where
  pub seen : w.seen.items ≡ []
  pub at : Like (at_of w) z

-- a walk goes on where a path leads to another place
pub record Moves (old new : Walk) (to : Option Assigned) : Type 0 where
  pub seen : new.seen.items ≡ old.seen.items
  pub labelled : new.labelled ≡ false
  pub path : new.path ≡ to

abbrev pub Restarts : Ways → Ways → Paths → Type 0
Restarts old new start = Moves old.unreached new.unreached start.unreached × Moves old.reached new.reached start.reached

abbrev pub Ends : Ways → Ways → Paths → Type 0
Ends old new ends = Moves old.unreached new.unreached ends.unreached × Moves old.reached new.reached ends.reached

pub record JoinsEnd (old new : Walk) (before after : Option Assigned) : Type 0 where
  pub seen : new.seen.items ≡ old.seen.items
  pub path : LikeTrail (trail_of after) (joined (trail_of before) (trail_of old.path))

abbrev pub Joined : Ways → Ways → Paths → Paths → Type 0
Joined old new before after = JoinsEnd old.unreached new.unreached before.unreached after.unreached × JoinsEnd old.reached new.reached before.reached after.reached

-- a branch from a place: what is seen in it, and its end besides those before
abbrev pub Forks : Walk → Walk → Option Assigned → Option Assigned → Option Assigned → (Trail → Called) → Type 0
Forks old new start before after f = (q : Trail) → LikeTrail (trail_of start) q
    → LikeTrail (trail_of after) (joined (trail_of before) (f q).end.trail) × SeenLike (seen_of new.seen.items) (seen_of old.seen.items ++ (f q).seen)

abbrev pub Branches : Ways → Ways → Paths → Paths → Paths → (Trail → Called) → Type 0
Branches old new start before after f = Forks old.unreached new.unreached start.unreached before.unreached after.unreached f × Forks old.reached new.reached start.reached before.reached after.reached f
