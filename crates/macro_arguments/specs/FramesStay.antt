-- What stands for names in macros' bodies rests on no place, and stays as the pool grows.
use Rattle.std.proofs.Common.{◌≡◌, ℕ, ◌<◌, ◌≤◌, List, length, refl, sym, ap, subst, ◌∙◌, arith}
use Rattle.tla_tree.specs.Tree.{Tree, Graft, graft, grafts}
use Rattle.tla_tree.specs.Pool.{at, trees_at, Keeps}
use Rattle.pcal_tree.specs.OffencesSteps.{called_with}
use Rattle.pcal_tree.proofs.TargetLaws.{Anywhere, called_anywhere}
use Rattle.pcal_tree.proofs.InMemoryGrown.{numbers_kept}
use Rattle.expansion_size.specs.declared.frames.Frames.{Frames}
use Rattle.expansion_size.specs.declared.frames.Frames.TheOpen.{Frames-F}
use Rattle.expansion_size.specs.declared.frames.Frames.TheFolds.{fold-roll-Frames, ind-Frames, map-Frames}
use Rattle.expansion_size.specs.declared.frames.Frames.TheViews.{roll-Frames}
use Rattle.expansion_size.specs.declared.frames.Frames.TheVariants.{Outside}
use Rattle.expansion_size.specs.FramesIn.{put_step, put_by, past_step, past_frames}
use Rattle.expansion_size.proofs.FrameLaws.{put_outside}
use Rattle.expansion_size.proofs.GraftLaws.{graft_none}

module _ (ts : List Tree) where
  abbrev IsFree : Frames → Type 0
  IsFree f = Anywhere (put_by ts f)

  layer_free : (y : Frames-F ((f : Frames) × IsFree f)) → Anywhere (put_step ts (map-Frames Frames Graft (put_by ts) (map-Frames ((f : Frames) × IsFree f) Frames (λ e. e.0) y)))
  layer_free Frames-F.Outside = λ x p q. refl
  layer_free (Frames-F.Called ps es outer) = called_anywhere ps.now (grafts (put_by ts outer.now.0) (trees_at ts es.now)) (put_by ts outer.now.0) outer.now.1

  pub put_anywhere : (f : Frames) → Anywhere (put_by ts f)
  put_anywhere = ind-Frames IsFree (λ x y is. subst (λ z. IsFree (roll-Frames z)) is
      (subst Anywhere (sym (fold-roll-Frames Graft (put_step ts) (map-Frames ((f : Frames) × IsFree f) Frames (λ e. e.0) y))) (layer_free y)))

module _ (ts us : List Tree) (k : Keeps ts us) where
  abbrev IsKept : Frames → Type 0
  IsKept f = past_frames f ≤ length ts → put_by us f ≡ put_by ts f

  abbrev bare : Frames-F ((f : Frames) × IsKept f) → Frames-F Frames
  bare y = map-Frames ((f : Frames) × IsKept f) Frames (λ e. e.0) y

  layer_kept : (y : Frames-F ((f : Frames) × IsKept f)) → past_step (map-Frames Frames ℕ past_frames (bare y)) ≤ length ts
      → put_step us (map-Frames Frames Graft (put_by us) (bare y)) ≡ put_step ts (map-Frames Frames Graft (put_by ts) (bare y))
  layer_kept Frames-F.Outside h = refl
  layer_kept (Frames-F.Called ps es outer) h =
      λ j. called_with ps.now (grafts (outer.now.1 (omega (arith, h)) j) (numbers_kept ts us k es.now (omega (arith, h)) j)) (outer.now.1 (omega (arith, h)) j)

  pub put_kept : (f : Frames) → past_frames f ≤ length ts → put_by us f ≡ put_by ts f
  put_kept = ind-Frames IsKept (λ x y is. subst (λ z. IsKept (roll-Frames z)) is (λ h.
      fold-roll-Frames Graft (put_step us) (bare y) ∙ layer_kept y (omega (arith, h, fold-roll-Frames ℕ past_step (bare y))) ∙ sym (fold-roll-Frames Graft (put_step ts) (bare y))))

  -- an expression with what stands for its names is the same in a pool that has grown
  pub graft_grown : (f : Frames) → past_frames f ≤ length ts → (e : ℕ) → e < length ts → graft (put_by us f) (at us e) ≡ graft (put_by ts f) (at ts e)
  graft_grown f h e l = λ j. graft (put_kept f h j) (k.same e l j)

-- outside macros an expression is as it was
pub outside_same : (ts : List Tree) (f : Frames) (t : Tree) → f ≡ Outside → t ≡ graft (put_by ts f) t
outside_same ts f t h = sym (ap (λ (f : Frames). graft (put_by ts f) t) h ∙ ap (λ (g : Graft). graft g t) (put_outside ts) ∙ graft_none t)

pub frames_stay : (f : Frames) (old new : List Tree) → past_frames f ≤ length old → Keeps old new → (past_frames f ≤ length new) × (put_by new f ≡ put_by old f)
frames_stay f old new h k = (omega (arith, h, k.longer), put_kept old new k f h)
