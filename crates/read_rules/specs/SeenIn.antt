-- What is seen on paths through statements, in memory, and where they end.
use Rattle.std.specs.Prelude.{◌≡◌, List, [], ◌++◌, Bool, Some, None, map, cond}
use Rattle.std.specs.List.{flat_map}
use Rattle.std.specs.Option.{option_map}
use Rattle.tla_tree.specs.Tree.{Word}
use Rattle.pcal_tree.specs.Paths.{rounds}
use Rattle.pcal_tree.specs.laws.MacroSpots.{Use, Origin, assigned, Trail, At, unlabelled, Seen, on_trail, Called, joined, put_called}
use Rattle.pcal_tree.proofs.SpotCalls.{Like, SeenLike}
use Rattle.read_rules.specs.declared.walk.Group.{Group}
use Rattle.read_rules.specs.declared.walk.Walk.{Walk}
use Rattle.read_rules.specs.declared.walk.Ways.{Ways}
use Rattle.read_rules.specs.PlainPuts.{Going, plain}
use Rattle.read_rules.specs.Sets.{origins, trail_of}
use Rattle.read_rules.specs.UsesIn.{uses_of}

abbrev pub group_seen : Group → List Seen
group_seen g = on_trail (Some (origins g.after)) (uses_of g.uses.items)

abbrev pub seen_of : List Group → List Seen
seen_of gs = flat_map group_seen gs

abbrev pub at_of : Walk → At
at_of w = record { labelled = w.labelled; trail = trail_of w.path }

-- this is seen too
abbrev pub Gains : List Group → List Group → List Seen → Type 0
Gains old new ss = SeenLike (seen_of new) (seen_of old ++ ss)

-- this is seen too, and nothing else changes
pub record Sees (old new : Walk) (ss : List Seen) : Type 0 where
  pub labelled : new.labelled ≡ old.labelled
  pub path : new.path ≡ old.path
  pub seen : Gains old.seen.items new.seen.items ss

-- this was seen in a body from its beginning
pub record IsWay (w : Walk) (c : Called) : Type 0 where
  pub end : Like (at_of w) c.end
  pub seen : SeenLike (seen_of w.seen.items) c.seen

-- a walk goes on so
abbrev pub Walks : Walk → Walk → Going → Type 0
Walks old new f = (z : At) → Like (at_of old) z → Like (at_of new) (f z).end × SeenLike (seen_of new.seen.items) (seen_of old.seen.items ++ (f z).seen)

-- of a statement with none in it
abbrev pub trail_stepped : List Word → Bool → Trail → Trail
trail_stepped xs stops q = cond stops None (option_map (λ os. map assigned xs ++ os) q)

abbrev pub stepping : List Use → List Word → Bool → Going
stepping us xs stops z = record { seen = on_trail z.trail us; end = unlabelled (trail_stepped xs stops z.trail) }

-- the body of a loop, by the path to it: what is seen after any assignments is what is seen after some, with those put in
pub record IsLoop (inner : Ways) (g : Trail → Called) : Type 0 where
  pub symbol : Called
  pub unreached : IsWay inner.unreached (g None)
  pub reached : IsWay inner.reached symbol
  pub after_any : (os : List Origin) → put_called (plain os) symbol ≡ g (Some os)
  pub after_none : put_called (plain []) (g None) ≡ g None

abbrev pub rounds_of : (Trail → Called) → Trail → Trail
rounds_of g q = rounds joined (λ r. (g r).end.trail) q

abbrev pub looping : List Use → (Trail → Called) → Going
looping us g z =
    let r = cond z.labelled z.trail (rounds_of g z.trail) in
    record { seen = on_trail r us ++ (g r).seen; end = unlabelled r }
