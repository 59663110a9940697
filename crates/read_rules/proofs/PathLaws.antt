-- Paths in memory, and what is seen on them: what no test tells apart.
use Rattle.std.proofs.Common.{◌≡◌, List, Some, None, refl, sym, ap, ◌∙◌, append_assoc}
use Rattle.std.proofs.lemmas.List.Folds.{list_any-append}
use Rattle.pcal_tree.proofs.SetLaws.{same_both}
use Rattle.pcal_tree.proofs.SpotCalls.{LikeTrail}
use Rattle.pcal_tree.specs.laws.MacroSpots.{Origin, Trail, joined}
use Rattle.read_rules.specs.declared.assigned.Assigned.{Assigned}
use Rattle.read_rules.specs.Joins.{Joins}
use Rattle.read_rules.specs.Sets.{origins, trail_of}

-- ---- paths

pub like_itself : (q : Trail) → LikeTrail q q
like_itself None = tt
like_itself (Some xs) = λ f. refl

pub like_turned : (q r : Trail) → LikeTrail q r → LikeTrail r q
like_turned None None l = tt
like_turned (Some xs) (Some ys) l = λ f. sym (l f)
like_turned None (Some ys) l = absurd l
like_turned (Some xs) None l = absurd l

pub like_join : (a b c : Assigned) → Joins (origins a) (origins c) (origins b) → LikeTrail (trail_of (Some c)) (joined (trail_of (Some a)) (trail_of (Some b)))
like_join a b c j f = j f ∙ sym (list_any-append f (origins a) (origins b))

pub like_joined : (q r o p : Trail) → LikeTrail q r → LikeTrail o p → LikeTrail (joined q o) (joined r p)
like_joined None None o p l k = k
like_joined (Some xs) (Some ys) None None l k = l
like_joined (Some xs) (Some ys) (Some us) (Some vs) l k = same_both xs ys us vs l k
like_joined (Some xs) (Some ys) None (Some vs) l k = absurd k
like_joined (Some xs) (Some ys) (Some us) None l k = absurd k
like_joined None (Some ys) o p l k = absurd l
like_joined (Some xs) None o p l k = absurd l

pub joined_after : (q r o : Trail) → joined (joined q r) o ≡ joined q (joined r o)
joined_after None r o = refl
joined_after (Some xs) None o = refl
joined_after (Some xs) (Some ys) None = refl
joined_after (Some xs) (Some ys) (Some zs) = ap (λ (os : List Origin). Some os) (append_assoc xs ys zs)
