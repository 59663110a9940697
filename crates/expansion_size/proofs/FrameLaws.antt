-- What stands for names in the body of a macro that is called.
use Rattle.std.proofs.Common.{◌≡◌, ℕ, ◌+◌, ◌<◌, ◌≤◌, List, [], ◌∷◌, length, drop, get_or, Bool, true, false, IsTrue, ◌↔◌, cond, bytes_eq, option_map, Option, Some, None, Bor, refl, sym, ap, ◌∙◌, arith}
use Rattle.std.proofs.lemmas.Slice.Eq.{bytes_eq-Decides}
use Rattle.std.proofs.lemmas.List.{drop_more, drop_all}
use Rattle.std.specs.Option.{option_or}
use Rattle.tla_token.specs.declared.place.Place.{Place}
use Rattle.tla_tree.specs.Tree.{Word, Name, Tree, Trees, no_trees, tree, Graft, graft, grafts}
use Rattle.tla_tree.specs.Pool.{at, trees_at}
use Rattle.pcal_tree.specs.InMemory.{past_numbers}
use Rattle.pcal_tree.specs.Run.{arguments}
use Rattle.pcal_tree.specs.OffencesSteps.{called_with, nothing_put}
use Rattle.expansion_size.specs.declared.frames.Frames.{Frames}
use Rattle.expansion_size.specs.declared.frames.Frames.TheOpen.{Frames-F}
use Rattle.expansion_size.specs.declared.frames.Frames.TheFolds.{fold-roll-Frames}
use Rattle.expansion_size.specs.declared.frames.Frames.TheVariants.{Outside, Called, rolls-Outside, rolls-Called}
use Rattle.expansion_size.specs.FramesIn.{put_step, put_by, past_step, past_frames}

-- ---- the argument of a parameter

pub same_is : (b : Bool) (x y : Word) → (IsTrue b ↔ (x ≡ y)) → b ≡ bytes_eq x y
same_is true x y h = sym ((bytes_eq-Decides x y).1 (h.0 refl))
same_is false x y h = by (bytes_eq x y) refl
  where
    by : (c : Bool) → bytes_eq x y ≡ c → false ≡ c
    by true e = h.1 ((bytes_eq-Decides x y).0 e)
    by false e = refl

module _ (ts : List Tree) (ps : List Name) (es : List ℕ) (i : ℕ) (x : Word) (p : Place) where
  none_of : (qs : List Name) → arguments qs no_trees x p ≡ None
  none_of [] = refl
  none_of (q ∷ qs) = refl

  pub no_arguments : length es ≤ i → arguments (drop i ps) (trees_at ts (drop i es)) x p ≡ None
  no_arguments l = ap (λ (is : List ℕ). arguments (drop i ps) (trees_at ts is) x p) (drop_all i es l) ∙ none_of (drop i ps)

  module _ (q : Name) (e : ℕ) (b : Bool) (hq : q ≡ get_or ps i q) (lq : i < length ps) (he : e ≡ get_or es i e) (le : i < length es) (h : IsTrue b ↔ (q.word ≡ x)) where
    argument_at : arguments (drop i ps) (trees_at ts (drop i es)) x p ≡ cond b (Some (at ts e)) (arguments (drop (i + 1) ps) (trees_at ts (drop (i + 1) es)) x p)
    argument_at =
        (λ j. arguments ((drop_more ps i q lq ∙ ap (λ (n : Name). n ∷ drop (i + 1) ps) (sym hq)) j) (trees_at ts ((drop_more es i e le ∙ ap (λ (n : ℕ). n ∷ drop (i + 1) es) (sym he)) j)) x p)
        ∙ ap (λ (c : Bool). cond c (Some (at ts e)) (arguments (drop (i + 1) ps) (trees_at ts (drop (i + 1) es)) x p)) (sym (same_is b q.word x h))

    pub argument_here : b ≡ true → arguments (drop i ps) (trees_at ts (drop i es)) x p ≡ Some (at ts e)
    argument_here t = argument_at ∙ ap (λ (c : Bool). cond c (Some (at ts e)) (arguments (drop (i + 1) ps) (trees_at ts (drop (i + 1) es)) x p)) t

    pub argument_further : b ≡ false → arguments (drop i ps) (trees_at ts (drop i es)) x p ≡ arguments (drop (i + 1) ps) (trees_at ts (drop (i + 1) es)) x p
    argument_further t = argument_at ∙ ap (λ (c : Bool). cond c (Some (at ts e)) (arguments (drop (i + 1) ps) (trees_at ts (drop (i + 1) es)) x p)) t

-- ---- calls around

pub put_outside : (ts : List Tree) → put_by ts Outside ≡ nothing_put
put_outside ts = ap (put_by ts) (sym rolls-Outside) ∙ fold-roll-Frames Graft (put_step ts) Frames-F.Outside

module _ (ts : List Tree) (ps : Bor (List Name)) (es : Bor (List ℕ)) (f : Bor Frames) where
  pub put_called : put_by ts (Called ps es f) ≡ called_with ps.now (grafts (put_by ts f.now) (trees_at ts es.now)) (put_by ts f.now)
  put_called = ap (put_by ts) (sym (rolls-Called ps es f)) ∙ fold-roll-Frames Graft (put_step ts) (Frames-F.Called ps es f)

  arguments_put : (g : Graft) (x : Word) (p : Place) (qs : List Name) (us : Trees) → arguments qs (grafts g us) x p ≡ option_map (graft g) (arguments qs us x p)
  arguments_put g x p [] us = refl
  arguments_put g x p (q ∷ qs) no_trees = refl
  arguments_put g x p (q ∷ qs) (tree u us) = by (bytes_eq q.word x) (arguments_put g x p qs us)
    where
      by : (b : Bool) → arguments qs (grafts g us) x p ≡ option_map (graft g) (arguments qs us x p)
          → cond b (Some (graft g u)) (arguments qs (grafts g us) x p) ≡ option_map (graft g) (cond b (Some u) (arguments qs us x p))
      by true h = refl
      by false h = h

  stands : (x : Word) (p : Place) (o : Option Tree) → o ≡ arguments ps.now (trees_at ts es.now) x p → option_or (option_map (graft (put_by ts f.now)) o) (put_by ts f.now x p) ≡ put_by ts (Called ps es f) x p
  stands x p o h =
      ap (λ (o : Option Tree). option_or (option_map (graft (put_by ts f.now)) o) (put_by ts f.now x p)) h
      ∙ sym ((λ z. put_called z x p) ∙ ap (λ (o : Option Tree). option_or o (put_by ts f.now x p)) (arguments_put (put_by ts f.now) x p ps.now (trees_at ts es.now)))

  pub found_here : (x : Word) (p : Place) (e : ℕ) → Some (at ts e) ≡ arguments ps.now (trees_at ts es.now) x p → Some (graft (put_by ts f.now) (at ts e)) ≡ put_by ts (Called ps es f) x p
  found_here x p e h = stands x p (Some (at ts e)) h

  pub found_around : (x : Word) (p : Place) → None ≡ arguments ps.now (trees_at ts es.now) x p → put_by ts f.now x p ≡ put_by ts (Called ps es f) x p
  found_around x p h = stands x p None h

pub past_called : (ps : Bor (List Name)) (es : Bor (List ℕ)) (f : Bor Frames) (n : ℕ) → past_numbers es.now ≤ n → past_frames f.now ≤ n → past_frames (Called ps es f) ≤ n
past_called ps es f n h k = let past = ap past_frames (sym (rolls-Called ps es f)) ∙ fold-roll-Frames ℕ past_step (Frames-F.Called ps es f) in omega (arith, past, h, k)
