-- What is computed once for each macro, in place of writing it out at each call: the names that its text uses, and what may have been assigned before
-- ("A PlusCal User's Manual", sections 3.5, macros, and 3.7, labels).
use Rattle.std.specs.Prelude.{List, [], ◌∷◌, ◌++◌, Bool, true, false, ◌&&◌, cond, bytes_eq, Option, Some, None, option_map, map, reverse}
use Rattle.std.specs.List.{flat_map}
use Rattle.tla_token.specs.declared.place.Place.{Place}
use Rattle.tla_tree.specs.Tree.{Word, Form, name, operator_call, Tree, node, Trees, no_trees, tree}
use Rattle.pcal_tree.specs.Algorithm.{Name, Assignments, no_assignments, assignment, Binds, no_binds, one_of, is, Statement, assign, await, print, assert, skip, branch, either, with, while, goto, macro, call, return, Statements, done, then, mark, Branches, no_branches, or, Macro, Procedure, Algorithm}
use Rattle.pcal_tree.specs.Expand.{placed_at}
use Rattle.pcal_tree.specs.OffencesStale.{Looking, jumps_use}
use Rattle.pcal_tree.specs.Paths.{roots, some_word, rounds}
use Rattle.pcal_tree.specs.Reads.{named}
use Rattle.pcal_tree.specs.Spots.{Spot}
use Rattle.pcal_tree.specs.laws.MacroSummaries.{union, argument, variable_of}
use Rattle.pcal_tree.specs.laws.MacroUses.{same_name}

-- ---- uses and paths in a text

-- a use of a name: for a macro's parameter its argument is put in, but not where an operator is named, nor for what jumps use
pub data Use : Type 0 where
  value : Name → Use
  left : Name → Use  -- a left side that is a name; it keeps its place
  other : Name → Use

abbrev pub name_used : Use → Name
name_used (value n) = n
name_used (left n) = n
name_used (other n) = n

abbrev pub uses_of_form : Form → Place → List Use → List Use
uses_of_form (name x) at us = value (named x at) ∷ []
uses_of_form (operator_call f) at us = other (named f at) ∷ us
uses_of_form _ at us = us

abbrev mutual
  pub uses : Tree → List Use
  uses (node m at ts) = uses_of_form m at (uses_of_all ts)

  pub uses_of_all : Trees → List Use
  uses_of_all no_trees = []
  uses_of_all (tree t ts) = uses t ++ uses_of_all ts

abbrev pub left_form : Form → Place → List Use → List Use
left_form (name x) at us = left (named x at) ∷ []
left_form (operator_call f) at us = other (named f at) ∷ us
left_form _ at us = us

abbrev pub left_uses : Tree → List Use
left_uses (node m at ts) = left_form m at (uses_of_all ts)

abbrev pub uses_of_assignments : Assignments → List Use
uses_of_assignments no_assignments = []
uses_of_assignments (assignment l e ms) = left_uses l ++ (uses e ++ uses_of_assignments ms)

abbrev pub uses_of_binds : Binds → List Use
uses_of_binds no_binds = []
uses_of_binds (one_of x e bs) = uses e ++ uses_of_binds bs
uses_of_binds (is x e bs) = uses e ++ uses_of_binds bs

-- what was assigned before a macro was called, or what a name of its text is as a left side
pub data Origin : Type 0 where
  earlier : Origin
  assigned : Word → Origin

abbrev pub Trail : Type 0
Trail = Option (List Origin)

-- where a path is: at a label or not, and what it has assigned
pub record At : Type 0 where
  pub labelled : Bool
  pub trail : Trail

abbrev pub unlabelled : Trail → At
unlabelled q = record { labelled = false; trail = q }

abbrev pub at_label : At
at_label = record { labelled = true; trail = Some [] }

abbrev pub inside : At → At
inside s = unlabelled s.trail

-- a use, and what the paths to it have assigned
pub record Seen : Type 0 where
  pub use_of : Use
  pub trail : Trail

abbrev pub on_trail : Trail → List Use → List Seen
on_trail q us = map (λ u. record { use_of = u; trail = q }) us

-- what is seen in a call, and where it ends
pub record Called : Type 0 where
  pub seen : List Seen
  pub end : At

abbrev pub CallSeen : Type 0
CallSeen = Word → Trees → At → Called

-- ---- paths through statements, where S says what calls do

abbrev pub joined : Trail → Trail → Trail
joined None q = q
joined (Some xs) None = Some xs
joined (Some xs) (Some ys) = Some (xs ++ ys)

abbrev pub assigning : Assignments → Trail → Trail
assigning ms q = option_map (λ os. map assigned (roots ms) ++ os) q

abbrev mutual
  pub one_end : CallSeen → Statement → At → At
  one_end S (assign ms) s = unlabelled (assigning ms s.trail)
  one_end S (branch e a b) s = unlabelled (joined (end_of S a (inside s)).trail (end_of S b (inside s)).trail)
  one_end S (either bs) s = unlabelled (end_of_some S bs s)
  one_end S (with bs b) s = unlabelled (end_of S b (inside s)).trail
  one_end S (while e b) s = unlabelled (cond s.labelled s.trail (rounds joined (λ q. (end_of S b (unlabelled q)).trail) s.trail))
  one_end S (macro m ts) s = (S m ts s).end
  one_end S (goto l) s = unlabelled None
  one_end S (call q ts) s = unlabelled None
  one_end S return s = unlabelled None
  one_end S _ s = unlabelled s.trail

  pub end_of : CallSeen → Statements → At → At
  end_of S done s = s
  end_of S (then at st rest) s = end_of S rest (one_end S st s)
  end_of S (mark l k rest) s = end_of S rest at_label

  pub end_of_some : CallSeen → Branches → At → Trail
  end_of_some S no_branches s = None
  end_of_some S (or b bs) s = joined (end_of S b (inside s)).trail (end_of_some S bs s)

abbrev mutual
  pub one_seen : CallSeen → List Procedure → Place → Statement → At → List Seen
  one_seen S ps at (assign ms) s = on_trail s.trail (uses_of_assignments ms)
  one_seen S ps at (await e) s = on_trail s.trail (uses e)
  one_seen S ps at (print e) s = on_trail s.trail (uses e)
  one_seen S ps at (assert e) s = on_trail s.trail (uses e)
  one_seen S ps at skip s = []
  one_seen S ps at (branch e a b) s = on_trail s.trail (uses e) ++ (seen_in S ps a (inside s) ++ seen_in S ps b (inside s))
  one_seen S ps at (either bs) s = seen_in_some S ps bs s
  one_seen S ps at (with bs b) s = on_trail s.trail (uses_of_binds bs) ++ seen_in S ps b (inside s)
  one_seen S ps at (while e b) s = on_trail (one_end S (while e b) s).trail (uses e) ++ seen_in S ps b (inside (one_end S (while e b) s))
  one_seen S ps at (goto l) s = on_trail s.trail (map other (jumps_use ps at (goto l)))
  one_seen S ps at (macro m ts) s = (S m ts s).seen
  one_seen S ps at (call q ts) s = on_trail s.trail (uses_of_all ts ++ map other (jumps_use ps at (call q ts)))
  one_seen S ps at return s = []

  pub seen_in : CallSeen → List Procedure → Statements → At → List Seen
  seen_in S ps done s = []
  seen_in S ps (then at st rest) s = one_seen S ps at.first st s ++ seen_in S ps rest (one_end S st s)
  seen_in S ps (mark l k rest) s = seen_in S ps rest at_label

  pub seen_in_some : CallSeen → List Procedure → Branches → At → List Seen
  seen_in_some S ps no_branches s = []
  seen_in_some S ps (or b bs) s = seen_in S ps b (inside s) ++ seen_in_some S ps bs s

-- ---- arguments for parameters

-- what is put in: for what was assigned before, and for parameters
pub record Put : Type 0 where
  pub before : List Origin
  pub arguments : Word → Option Tree

abbrev pub put_origin : Put → Origin → List Origin
put_origin P earlier = P.before
put_origin P (assigned x) = map assigned (some_word (variable_of (P.arguments x) x))

abbrev pub put_trail : Put → Trail → Trail
put_trail P q = option_map (flat_map (put_origin P)) q

abbrev pub value_uses : Option Tree → Name → List Use
value_uses (Some t) n = uses t
value_uses None n = value n ∷ []

abbrev pub left_value_uses : Option Tree → Name → List Use
left_value_uses (Some t) n = left_uses (placed_at n.place t)
left_value_uses None n = left n ∷ []

abbrev pub put_use : Put → Use → List Use
put_use P (value n) = value_uses (P.arguments n.word) n
put_use P (left n) = left_value_uses (P.arguments n.word) n
put_use P (other n) = other n ∷ []

abbrev pub put_seen : Put → Seen → List Seen
put_seen P s = on_trail (put_trail P s.trail) (put_use P s.use_of)

abbrev pub put_at : Put → At → At
put_at P s = record { labelled = s.labelled; trail = put_trail P s.trail }

abbrev pub put_called : Put → Called → Called
put_called P c = record { seen = flat_map (put_seen P) c.seen; end = put_at P c.end }

-- ---- each once

abbrev pub same_origin : Origin → Origin → Bool
same_origin earlier earlier = true
same_origin (assigned x) (assigned y) = bytes_eq x y
same_origin _ _ = false

abbrev pub same_use : Use → Use → Bool
same_use (value n) (value k) = same_name n k
same_use (left n) (left k) = same_name n k
same_use (other n) (other k) = same_name n k
same_use _ _ = false

-- a use after one assignment
pub record Pair : Type 0 where
  pub use_of : Use
  pub origin : Origin

abbrev pub same_pair : Pair → Pair → Bool
same_pair p r = same_use p.use_of r.use_of && same_origin p.origin r.origin

abbrev pub pairs_on : Trail → Use → List Pair
pairs_on None u = []
pairs_on (Some os) u = map (λ o. record { use_of = u; origin = o }) os

abbrev pub pairs : List Seen → List Pair
pairs ss = flat_map (λ s. pairs_on s.trail s.use_of) ss

abbrev pub seen_pair : Pair → Seen
seen_pair p = record { use_of = p.use_of; trail = Some (p.origin ∷ []) }

abbrev pub once : Called → Called
once c = record {
  seen = map seen_pair (union same_pair (pairs c.seen) []);
  end = record { labelled = c.end.labelled; trail = option_map (λ os. union same_origin os []) c.end.trail };
}

-- ---- macros and calls

-- what is seen in a macro's body where a call of it is reached or not, at a label or not
pub record MacroSeen : Type 0 where
  pub title : Word
  pub params : List Name
  pub reached : Called
  pub reached_at_label : Called
  pub unreached : Called
  pub unreached_at_label : Called

abbrev pub before_on : Trail → List Origin
before_on None = []
before_on (Some os) = os

abbrev pub seen_from : MacroSeen → Bool → Trail → Called
seen_from d true (Some os) = d.reached_at_label
seen_from d false (Some os) = d.reached
seen_from d true None = d.unreached_at_label
seen_from d false None = d.unreached

-- a call of no macro can't be taken
abbrev pub seen_in_call : List MacroSeen → CallSeen
seen_in_call [] m ts s = record { seen = []; end = unlabelled None }
seen_in_call (d ∷ older) m ts s =
    cond (bytes_eq d.title m)
    (put_called (record { before = before_on s.trail; arguments = argument d.params ts }) (seen_from d s.labelled s.trail))
    (seen_in_call older m ts s)

abbrev pub seen_in_body : CallSeen → List Procedure → Statements → At → Called
seen_in_body S ps b s = record { seen = seen_in S ps b s; end = end_of S b s }

abbrev pub starting : Bool → Trail → At
starting l q = record { labelled = l; trail = q }

-- the newest first
abbrev pub macros_seen : List Procedure → List Macro → List MacroSeen
macros_seen ps [] = []
macros_seen ps (d ∷ older) =
    let before = macros_seen ps older in
    record {
      title = d.name.word;
      params = d.params;
      reached = once (seen_in_body (seen_in_call before) ps d.body (starting false (Some (earlier ∷ []))));
      reached_at_label = once (seen_in_body (seen_in_call before) ps d.body (starting true (Some (earlier ∷ []))));
      unreached = once (seen_in_body (seen_in_call before) ps d.body (starting false None));
      unreached_at_label = once (seen_in_body (seen_in_call before) ps d.body (starting true None));
    } ∷ before

-- ---- algorithms

abbrev pub word_of : Origin → List Word
word_of earlier = []
word_of (assigned x) = x ∷ []

abbrev pub spot_of : Seen → Spot
spot_of s = record { name = name_used s.use_of; path = option_map (flat_map word_of) s.trail }

-- by what was computed once for each macro
abbrev pub spots_by_macros : Algorithm → Looking
spots_by_macros a xs b = map spot_of (seen_in (seen_in_call (macros_seen a.procedures (reverse a.macros))) a.procedures b (starting false (Some [])))
