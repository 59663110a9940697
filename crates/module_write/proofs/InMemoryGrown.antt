-- Modules in memory, as the pool grows that their expressions are numbers of.
use Rattle.std.proofs.Common.{◌≡◌, ℕ, ◌≤◌, List, [], ◌∷◌, length, map, Vec, Global, Option, Some, None, refl, sym, ap, subst, ◌∙◌, arith}
use Rattle.std.specs.Option.{option_map}
use Rattle.std.specs.formers.vec.Vec.{mapped}
use Rattle.tla_tree.specs.Tree.{Word, Tree}
use Rattle.tla_tree.specs.Pool.{at, Keeps, AllBelow}
use Rattle.tla_tree.specs.Nesting.{greatest}
use Rattle.tla_value.proofs.DefsGrown.{definitions_at-kept}
use Rattle.module_tree.specs.Module as tree
use Rattle.module_write.specs.declared.«module».Item.{Item}
use Rattle.module_write.specs.declared.«module».Item.TheOpen.{Item-F}
use Rattle.module_write.specs.declared.«module».Item.TheFolds.{fold-roll-Item, ind-Item, map-Item}
use Rattle.module_write.specs.declared.«module».Item.TheViews.{roll-Item}
use Rattle.module_write.specs.declared.«module».Call.{Call}
use Rattle.module_write.specs.declared.«module».Call.TheVariants as call
use Rattle.module_write.specs.declared.«module».Way.{Way}
use Rattle.module_write.specs.declared.«module».Way.TheVariants as way
use Rattle.module_write.specs.declared.«module».Body.{Body}
use Rattle.module_write.specs.declared.«module».Body.TheVariants as body
use Rattle.module_write.specs.declared.«module».Action.{Action}
use Rattle.module_write.specs.declared.«module».Fairness.{Fairness}
use Rattle.module_write.specs.declared.«module».Region.{Region}
use Rattle.module_write.specs.InMemory.{items_from, branches_from, item_step, item_at, items_at, call_at, way_at, ways_at, body_at, actions_at, over_at, fairness_at, region_at, past_step, past_item, past_items, CallIn, WayIn, WaysIn, BodyIn, ActionsIn, OverIn, MaybeIn, AllFairnessIn, RegionIn}

-- ---- items: by induction, with the fact beside each item in an item
module _ (ts us : List Tree) (k : Keeps ts us) where
  abbrev IsKept : Item → Type 0
  IsKept i = past_item i ≤ length ts → item_at us i ≡ item_at ts i

  abbrev Sure : Type 0
  Sure = (i : Item) × IsKept i

  abbrev bare : Item-F Sure → Item-F Item
  bare y = map-Item Sure Item (λ e. e.0) y

  some_kept : (es : List Sure) → past_items (map (λ e. e.0) es) ≤ length ts → items_at us (map (λ e. e.0) es) ≡ items_at ts (map (λ e. e.0) es)
  some_kept [] h = refl
  some_kept (e ∷ es) h = λ j. tree.item (e.1 (omega (arith, h)) j) (some_kept es (omega (arith, h)) j)

  branches_kept : (bs : List (Vec Sure Global)) → greatest (map (λ (b : Vec Sure Global). past_items (map (λ e. e.0) b.items)) bs) ≤ length ts
      → map (λ (b : Vec Sure Global). items_at us (map (λ e. e.0) b.items)) bs ≡ map (λ (b : Vec Sure Global). items_at ts (map (λ e. e.0) b.items)) bs
  branches_kept [] h = refl
  branches_kept (b ∷ bs) h = λ j. some_kept b.items (omega (arith, h)) j ∷ branches_kept bs (omega (arith, h)) j

  -- a function of the items of each branch, through the two maps
  each_branch : {X Y : Type 0} (f : Item → X) (g : List X → Y) (bs : List (Vec Sure Global))
      → map (λ (b : Vec X Global). g b.items) (map (mapped f) (map (mapped (λ (e : Sure). e.0)) bs)) ≡ map (λ (b : Vec Sure Global). g (map f (map (λ e. e.0) b.items))) bs
  each_branch f g [] = refl
  each_branch f g (b ∷ bs) = λ j. g (map f (map (λ (e : Sure). e.0) b.items)) ∷ each_branch f g bs j

  layer_kept : (y : Item-F Sure) → past_step (map-Item Item ℕ past_item (bare y)) ≤ length ts
      → item_step us (map-Item Item tree.Item (item_at us) (bare y)) ≡ item_step ts (map-Item Item tree.Item (item_at ts) (bare y))
  layer_kept (Item-F.Test e) h = ap tree.test (k.same e (omega (arith, h)))
  layer_kept (Item-F.Setting x e) h = ap (tree.setting x) (k.same e (omega (arith, h)))
  layer_kept (Item-F.Unchanged xs) h = refl
  layer_kept (Item-F.Exists x s is) h = λ j. tree.exists x (k.same s (omega (arith, h)) j) (some_kept is.items (omega (arith, h)) j)
  layer_kept (Item-F.Local x e is) h = λ j. tree.local x (k.same e (omega (arith, h)) j) (some_kept is.items (omega (arith, h)) j)
  layer_kept (Item-F.Choice p a b) h = λ j. tree.if_then_else (k.same p (omega (arith, h)) j) (some_kept a.items (omega (arith, h)) j) (some_kept b.items (omega (arith, h)) j)
  layer_kept (Item-F.Either bs) h =
      let all = branches_kept bs.items (omega (arith, h, ap greatest (each_branch past_item greatest bs.items))) in
      ap (λ (l : List tree.Items). tree.either (branches_from l)) (each_branch (item_at us) items_from bs.items ∙ all ∙ sym (each_branch (item_at ts) items_from bs.items))

  pub item_at-kept : (i : Item) → past_item i ≤ length ts → item_at us i ≡ item_at ts i
  item_at-kept = ind-Item IsKept (λ x y is. subst (λ z. IsKept (roll-Item z)) is (λ h.
      fold-roll-Item tree.Item (item_step us) (bare y) ∙ layer_kept y (omega (arith, h, fold-roll-Item ℕ past_step (bare y))) ∙ sym (fold-roll-Item tree.Item (item_step ts) (bare y))))

  pub items_at-kept : (is : List Item) → past_items is ≤ length ts → items_at us is ≡ items_at ts is
  items_at-kept [] h = refl
  items_at-kept (i ∷ is) h = λ j. tree.item (item_at-kept i (omega (arith, h)) j) (items_at-kept is (omega (arith, h)) j)

  pub call_at-kept : (c : Call) → CallIn (length ts) c → call_at us c ≡ call_at ts c
  call_at-kept (call.Bare a) h = refl
  call_at-kept (call.With a e) h = ap (tree.call_with a) (k.same e h)

  way_at-kept : (y : Way) → WayIn (length ts) y → way_at us y ≡ way_at ts y
  way_at-kept (way.One c) h = ap tree.one_way (call_at-kept c h)
  way_at-kept (way.Among x s c) h = λ j. tree.some_way x (k.same s h.0 j) (call_at-kept c h.1 j)

  pub ways_at-kept : (ys : List Way) → WaysIn (length ts) ys → ways_at us ys ≡ ways_at ts ys
  ways_at-kept [] h = refl
  ways_at-kept (y ∷ ys) h = λ j. way_at-kept y h.0 j ∷ ways_at-kept ys h.1 j

  pub body_at-kept : (b : Body) → BodyIn (length ts) b → body_at us b ≡ body_at ts b
  body_at-kept (body.All is) h = ap tree.all_of (items_at-kept is.items h)
  body_at-kept (body.Any ys) h = ap tree.some_of (ways_at-kept ys.items h)

  pub actions_at-kept : (acts : List Action) → ActionsIn (length ts) acts → actions_at us acts ≡ actions_at ts acts
  actions_at-kept [] h = refl
  actions_at-kept (a ∷ acts) h = λ j. record { title = a.title; parameter = a.parameter; body = body_at-kept a.body h.0 j } ∷ actions_at-kept acts h.1 j

  pub over_at-kept : (o : Option (Word × ℕ)) → OverIn (length ts) o → over_at us o ≡ over_at ts o
  over_at-kept None h = refl
  over_at-kept (Some (x, s)) h = λ j. Some (x, k.same s h j)

  pub maybe-kept : (o : Option ℕ) → MaybeIn (length ts) o → option_map (at us) o ≡ option_map (at ts) o
  maybe-kept None h = refl
  maybe-kept (Some e) h = ap Some (k.same e h)

  pub fairness-kept : (fs : List Fairness) → AllFairnessIn (length ts) fs → map (fairness_at us) fs ≡ map (fairness_at ts) fs
  fairness-kept [] h = refl
  fairness-kept (f ∷ fs) h =
      λ j. record { over = over_at-kept f.over h.0.over j; strong = f.strong; guard = maybe-kept f.guard h.0.guard j; action = call_at-kept f.action h.0.action j } ∷ fairness-kept fs h.1 j

  numbers-kept : (es : List ℕ) → AllBelow (length ts) es → map (at us) es ≡ map (at ts) es
  numbers-kept [] h = refl
  numbers-kept (e ∷ es) h = λ j. k.same e h.0 j ∷ numbers-kept es h.1 j

  pub region_at-kept : (r : Region) → RegionIn (length ts) r → region_at us r ≡ region_at ts r
  region_at-kept r h = λ j. record {
    model_values = r.model_values;
    variables = r.variables;
    definitions = definitions_at-kept ts us r.definitions k h.definitions j;
    vars = r.vars;
    process_set = maybe-kept r.process_set h.process_set j;
    init = numbers-kept r.init.items h.init j;
    actions = actions_at-kept r.actions.items h.actions j;
    ended = maybe-kept r.ended h.ended j;
    next = ways_at-kept r.next.items h.next j;
    fairness = fairness-kept r.fairness.items h.fairness j;
    termination = k.same r.termination h.termination j;
  }
