-- The item of two lists of which one is taken.
use Rattle.std.proofs.Common.{◌≡◌, ℕ, List, [], ◌∷◌, ◌++◌, append-nil, Bool, true, false, cond, ◌||◌, Option, Some, None, Vec, Global, refl, sym, ap, subst, ◌∙◌}
use Rattle.tla_token.specs.Signs.{is_among}
use Rattle.tla_token.specs.declared.place.Place.{Place}
use Rattle.tla_tree.specs.Tree.{Word, Tree, graft}
use Rattle.tla_tree.specs.Pool.{at}
use Rattle.module_tree.specs.Formulas.{self}
use Rattle.module_tree.specs.Module.{if_then_else, Items, no_items, item}
use Rattle.module_write.specs.declared.«module».Item.{Item}
use Rattle.module_write.specs.declared.«module».Item.TheVariants.{Choice}
use Rattle.module_write.specs.InMemory.{items_at}
use Rattle.module_write.proofs.ItemEquations.{choice_at}
use Rattle.pcal_tree.specs.Algorithm.{Span, branch, Statements, done, then, Routine}
use Rattle.pcal_tree.specs.Run.{unlabelled}
use Rattle.pcal_tree.specs.Expand.{graft_all}
use Rattle.pcal_tree.specs.Program.{Program}
use Rattle.pcal_tree.specs.Variables.{vars}
use Rattle.name_bits.specs.declared.bits.Bits.{Bits}
use Rattle.name_bits.specs.NamesIn.{names_in}
use Rattle.action_builder.specs.Assigned.{Names, assigned_in}
use Rattle.action_builder.specs.Settled.{jumps, settled}
use Rattle.action_builder.specs.Written.{primed, onto, branch_items, write}
use Rattle.action_builder.proofs.Sets.{member_append}
use Rattle.step_forms.proofs.WrittenLaws.{branch_alike}
use Rattle.right_sides.specs.After.{put_one, put_items}
use Rattle.step_items.specs.declared.desk.Reach.{Reach}
use Rattle.step_items.specs.Branching.{to_end, Side}
use Rattle.step_items.specs.Writing.{jumps_of, own_of, branch_part, Plain, Fits, Writes}
use Rattle.right_sides.proofs.AfterLaws.{items_last}
use Rattle.step_items.proofs.WritesLaws.{branch_put}

choice_put : (x : Option Tree) (t : Tree) (a b : Items) → put_items self x (item (if_then_else t a b) no_items) ≡ item (if_then_else (put_one self x t) (put_items self x a) (put_items self x b)) no_items
choice_put None t a b = refl
choice_put (Some e) t a b = refl

-- a list with UNCHANGED for what others assign; all: the set of what all assign, and bs the same as a list
pub side_list : (P : Program) (x : Option Tree) (ws : List Tree) (items : List Item) (earlier : Bits) (r : Reach) (S : Statements) (k : Bool) (order : List Word) (place at_first : Place) (all : Bits) (bs : List Word)
    → order ≡ vars P → at_first ≡ place → Side P x ws items earlier r S k → ((y : Word) → is_among (names_in (vars P) all) y ≡ is_among bs y)
    → branch_items order place (items_at ws items) (names_in order all) (names_in order r.assigned)
    ≡ put_items self x (branch_items (vars P) at_first (write (vars P) (is_among (names_in (vars P) earlier)) S) bs (assigned_in S))
side_list P x ws items earlier r S k order place at_first all bs o p side names =
    let written : Items = write (vars P) (is_among (names_in (vars P) earlier)) S in
    (λ i. branch_items (o i) (sym p i) (side.writes.items i) (names_in (o i) all) (names_in (o i) r.assigned))
    ∙ branch_alike (vars P) at_first (put_items self x written) (names_in (vars P) all) (names_in (vars P) r.assigned) bs (assigned_in S) names side.writes.names
    ∙ sym (branch_put self x (vars P) at_first written bs (assigned_in S))

-- e: the test, at its process; A and B: what is left of the two
pub choice_written : (P : Program) (x : Option Tree) (ts ws us : List Tree) (before after : List Item) (earlier both : Bits) (order : List Word) (s : Span) (place : Place) (t : ℕ) (e : Tree) (A B : Statements) (j k : Bool) (q r : Reach)
    (open_first open_second : List Item) (first second : Vec Item Global)
    → order ≡ vars P → s.first ≡ place → items_at us before ≡ items_at ts before → after ≡ before ++ Choice t first second ∷ []
    → at us t ≡ put_one self x (primed (is_among (names_in (vars P) earlier)) e) → Side P x ws open_first earlier q A j → Side P x ws open_second earlier r B k
    → items_at us first.items ≡ branch_items order place (items_at ws open_first) (names_in order r.assigned) (names_in order q.assigned)
    → items_at us second.items ≡ branch_items order place (items_at ws open_second) (names_in order q.assigned) (names_in order r.assigned)
    → ((y : Word) → is_among (names_in (vars P) both) y ≡ (is_among (names_in (vars P) q.assigned) y || is_among (names_in (vars P) r.assigned) y))
    → Writes P (put_items self x) ts us before after earlier both (then s (branch e A B) done)
choice_written P x ts ws us before after earlier both order s place t e A B j k q r open_first open_second first second o p kept m test one two h l union =
    let f = h ∙ side_list P x ws open_first earlier q A j order place s.first r.assigned (assigned_in B) o p one two.writes.names in
    let g = l ∙ side_list P x ws open_second earlier r B k order place s.first q.assigned (assigned_in A) o p two one.writes.names in
    let E : Names = is_among (names_in (vars P) earlier) in
    record {
      items =
          ap (items_at us) m
          ∙ items_last us before (Choice t first second)
          ∙ (λ i. onto (kept i) (item (choice_at us t first second i) no_items))
          ∙ (λ i. onto (items_at ts before) (item (if_then_else (test i) (f i) (g i)) no_items))
          ∙ ap (onto (items_at ts before))
          (sym (choice_put x (primed E e) (branch_items (vars P) s.first (write (vars P) E A) (assigned_in B) (assigned_in A)) (branch_items (vars P) s.first (write (vars P) E B) (assigned_in A) (assigned_in B))));
      names = λ y.
          union y
          ∙ (λ i. one.writes.names y i || two.writes.names y i)
          ∙ sym (member_append (assigned_in A) (assigned_in B) y)
          ∙ ap (λ (zs : List Word). is_among zs y) (sym (append-nil (assigned_in A ++ assigned_in B)));
    }

-- ---- an `if`

module _ (P : Program) (u : Routine) (l : Word) (s : Span) (t : Tree) (a b : Statements) where
  abbrev J : Bool
  J = jumps a || jumps b

  pub branch_ended : graft_all (own_of P) (branch_part (jumps_of P u) l s t a b) ≡ then s (branch (graft (own_of P) t) (to_end P u J unlabelled l a) (to_end P u J unlabelled l b)) done
  branch_ended = by J
    where
      by : (k : Bool)
          → graft_all (own_of P) (cond k (then s (branch t (settled (jumps_of P u) unlabelled l a) (settled (jumps_of P u) unlabelled l b)) done) (then s (branch t a b) done))
          ≡ then s (branch (graft (own_of P) t) (to_end P u k unlabelled l a) (to_end P u k unlabelled l b)) done
      by true = refl
      by false = refl

  -- what is asked of both lists
  pub branch_plain : Fits P (graft_all (own_of P) (branch_part (jumps_of P u) l s t a b)) (then s (branch t a b) done) → Plain P (to_end P u J unlabelled l a) × Plain P (to_end P u J unlabelled l b)
  branch_plain f =
      let plain : Plain P (then s (branch (graft (own_of P) t) (to_end P u J unlabelled l a) (to_end P u J unlabelled l b)) done) = subst (Plain P) branch_ended f.plain in
      (record { settled = plain.settled.0.0; parts = plain.parts.0.0 }, record { settled = plain.settled.0.1; parts = plain.parts.0.1 })
