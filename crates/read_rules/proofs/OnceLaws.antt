-- What is seen in a macro, each once.
use Rattle.std.proofs.Common.{◌≡◌, [], Bool, false, ◌||◌, Some, None, refl, sym, ◌∙◌, ap}
use Rattle.std.specs.Option.{option_map}
use Rattle.std.specs.List.{list_any}
use Rattle.std.proofs.lemmas.Bool.{and_parts}
use Rattle.std.proofs.lemmas.Slice.Eq.{bytes_eq-Decides}
use Rattle.std.proofs.Math.Bool.{or-false}
use Rattle.pcal_tree.specs.laws.MacroSummaries.{union}
use Rattle.pcal_tree.specs.laws.MacroSpots.{Use, value, left, other, Origin, earlier, assigned, Trail, Called, same_origin, same_use, Pair, same_pair, pairs_on, pairs, seen_pair, once}
use Rattle.pcal_tree.proofs.FirstLaws.{name_sound}
use Rattle.pcal_tree.proofs.SetLaws.{Sound, any_flat, any_map, any_same, any_union}
use Rattle.pcal_tree.proofs.SpotCalls.{LikeTrail, met, passes, SeenLike, like_then}
use Rattle.read_rules.specs.declared.walk.Walk.{Walk}
use Rattle.read_rules.specs.SeenIn.{IsWay}
use Rattle.read_rules.specs.Sets.{trail_of}

use_sound : Sound same_use
use_sound (value n) (value k) e = ap value (name_sound n k e)
use_sound (left n) (left k) e = ap left (name_sound n k e)
use_sound (other n) (other k) e = ap other (name_sound n k e)
use_sound (value n) (left k) e = cc
use_sound (value n) (other k) e = cc
use_sound (left n) (value k) e = cc
use_sound (left n) (other k) e = cc
use_sound (other n) (value k) e = cc
use_sound (other n) (left k) e = cc

origin_sound : Sound same_origin
origin_sound earlier earlier e = refl
origin_sound (assigned x) (assigned y) e = ap assigned ((bytes_eq-Decides x y).0 e)
origin_sound earlier (assigned y) e = cc
origin_sound (assigned x) earlier e = cc

pair_sound : Sound same_pair
pair_sound p r e =
    let h = and_parts (same_use p.use_of r.use_of) (same_origin p.origin r.origin) e in
    λ i. record { use_of = use_sound p.use_of r.use_of h.0 i; origin = origin_sound p.origin r.origin h.1 i }

pairs_pass : (K : Origin → Use → Bool) (q : Trail) (u : Use) → met K q u ≡ list_any (λ p. passes K (seen_pair p)) (pairs_on q u)
pairs_pass K None u = refl
pairs_pass K (Some os) u =
    any_same (λ o. K o u) (λ o. K o u || false) (λ o. sym (or-false (K o u))) os
    ∙ sym (any_map (λ p. passes K (seen_pair p)) (λ o. record { use_of = u; origin = o }) os)

pub once_seen : (c : Called) → SeenLike c.seen (once c).seen
once_seen c K =
    any_same (passes K) (λ s. list_any one (pairs_on s.trail s.use_of)) (λ s. pairs_pass K s.trail s.use_of) c.seen
    ∙ sym (any_flat one (λ s. pairs_on s.trail s.use_of) c.seen)
    ∙ sym (any_union same_pair pair_sound one (pairs c.seen) [] ∙ or-false (list_any one (pairs c.seen)))
    ∙ sym (any_map (passes K) seen_pair (union same_pair (pairs c.seen) []))
  where
    one : Pair → Bool
    one p = passes K (seen_pair p)

once_trail : (q : Trail) → LikeTrail q (option_map (λ os. union same_origin os []) q)
once_trail None = tt
once_trail (Some os) = λ f. sym (any_union same_origin origin_sound f os [] ∙ or-false (list_any f os))

pub way_once : (w : Walk) (c : Called) → IsWay w c → IsWay w (once c)
way_once w c h = record {
  end = (h.end.0, like_then (trail_of w.path) c.end.trail (once c).end.trail h.end.1 (once_trail c.end.trail));
  seen = λ K. h.seen K ∙ once_seen c K;
}
