-- How far the items of a list have come: what is written for the statements that were passed, and what is left.
use Rattle.std.proofs.Common.{◌≡◌, List, [], ◌∷◌, Bool, true, false, ◌||◌, ◌⊎◌, inl, inr, Option, refl, sym, ap, subst, ◌∙◌}
use Rattle.tla_token.specs.Signs.{is_among}
use Rattle.tla_tree.specs.Tree.{Word, Name, Tree}
use Rattle.module_tree.specs.Formulas.{self}
use Rattle.module_write.specs.declared.«module».Item.{Item}
use Rattle.pcal_tree.specs.declared.mark.Mark.{Mark}
use Rattle.pcal_tree.specs.declared.algorithm.Stmt.{Stmt}
use Rattle.pcal_tree.specs.declared.algorithm.Stmt.TheOpen.{Stmt-F}
use Rattle.pcal_tree.specs.declared.algorithm.Stmt.TheFolds.{fold_out-Stmt, map-Stmt}
use Rattle.pcal_tree.specs.declared.algorithm.Stmt.TheViews.{out-Stmt}
use Rattle.pcal_tree.specs.Algorithm.{Span, Statement, Statements, done, then, mark, Routine}
use Rattle.pcal_tree.specs.Run.{unlabelled}
use Rattle.pcal_tree.specs.Expand.{graft_one, graft_all, followed_by}
use Rattle.pcal_tree.specs.InMemory.{Before, stmt_step, stmt_at, statements_at}
use Rattle.pcal_tree.specs.Program.{Program}
use Rattle.pcal_tree.specs.Variables.{vars}
use Rattle.name_bits.specs.declared.bits.Bits.{Bits}
use Rattle.name_bits.specs.NamesIn.{names_in}
use Rattle.action_builder.specs.Settled.{jumps_one, jumps}
use Rattle.action_builder.specs.WrittenNames.{renames}
use Rattle.right_sides.specs.After.{put_items}
use Rattle.step_forms.proofs.LeftLaws.{left_past, followed_done, followed_again}
use Rattle.step_forms.proofs.WrittenLaws.{Unmarked}
use Rattle.step_items.specs.Writing.{jumps_of, own_of, named, ends_first, to_write, to_write_first, Plain, Fits, Writes}
use Rattle.right_sides.proofs.AfterLaws.{put_nothing, put_onto}
use Rattle.step_items.proofs.WritesLaws.{writes_none, writes_then}
use Rattle.step_items.proofs.ListLaws.{first_ends, first_stays, ends_jumps}

-- ---- a statement in memory goes before the rest of its list

abbrev pub Goes : Before → Type 0
Goes f = ((x : Name) × (m : Mark) × (f ≡ mark x m)) ⊎ ((s : Span) × (st : Statement) × (f ≡ then s st))

layer_goes : (ts : List Tree) (y : Stmt-F Before) → Goes (stmt_step ts y)
layer_goes ts (Stmt-F.Label x m) = inl (x, m, refl)
layer_goes ts (Stmt-F.Simple s x) = inr (_, _, refl)
layer_goes ts (Stmt-F.If s e a b) = inr (_, _, refl)
layer_goes ts (Stmt-F.Either s bs) = inr (_, _, refl)
layer_goes ts (Stmt-F.With s bs a) = inr (_, _, refl)
layer_goes ts (Stmt-F.While s e a) = inr (_, _, refl)

pub goes : (ts : List Tree) (s : Stmt) → Goes (stmt_at ts s)
goes ts s = subst Goes (sym (fold_out-Stmt Before (stmt_step ts) s)) (layer_goes ts (map-Stmt Stmt Before (stmt_at ts) (out-Stmt s)))

contrary : true ≡ false → ⊥
contrary h = cc

-- ---- one list

module _ (P : Program) (u : Routine) (x : Option Tree) where
  pub record Far (ts us : List Tree) (before after : List Item) (earlier assigned : Bits) (start here l : Word) (all rest : Statements) : Type 0 where
    pub so_far : Statements
    pub writes : Writes P (put_items self x) ts us before after earlier assigned so_far
    pub unmarked : Unmarked so_far
    pub whole : to_write P u start l all ≡ followed_by so_far (to_write P u here l rest)
    pub jumps_as : jumps all ≡ jumps rest
    pub fits : Fits P (to_write P u here l rest) rest

  pub far_first : (ts : List Tree) (before : List Item) (earlier none : Bits) (here l : Word) (all : Statements) → names_in (vars P) none ≡ [] → Fits P (to_write P u here l all) all
      → Far ts ts before before earlier none here here l all all
  far_first ts before earlier none here l all n fits = record {
    so_far = done;
    writes = writes_none P (put_items self x) ts ts before earlier none refl (put_nothing self x) n;
    unmarked = tt;
    whole = refl;
    jumps_as = refl;
    fits = fits;
  }

  -- what fits, one statement on
  fits_first : (here l : Word) (s : Span) (st : Statement) (rest : Statements) → jumps_one st ≡ false → Fits P (to_write P u here l (then s st rest)) (then s st rest)
      → Fits P (then s (graft_one (own_of P) st) done) (then s st rest) × Fits P (to_write P u unlabelled l rest) rest
  fits_first here l s st rest h f =
      let plain : Plain P (then s (graft_one (own_of P) st) (to_write P u unlabelled l rest)) = subst (λ (a : Statements). Plain P (graft_all (own_of P) a)) (left_past (jumps_of P u) here l s st rest h) f.plain in (
        record { plain = record { settled = (plain.settled.0, tt); parts = (plain.parts.0, tt) }; fresh = f.fresh },
        record { plain = record { settled = plain.settled.1; parts = plain.parts.1 }; fresh = f.fresh.1 },
      )

  by_jump : (st : Statement) (A : Type 0) → (jumps_one st ≡ true → A) → (jumps_one st ≡ false → A) → A
  by_jump st A h k = by (jumps_one st) refl
    where
      by : (b : Bool) → jumps_one st ≡ b → A
      by true e = h e
      by false e = k e

  pub first_fits : (here l : Word) (s : Span) (st : Statement) (rest : Statements) → Fits P (to_write P u here l (then s st rest)) (then s st rest) → Fits P (to_write_first P u here l (then s st rest)) (then s st rest)
  first_fits here l s st rest f =
      by_jump st (Fits P (to_write_first P u here l (then s st rest)) (then s st rest))
      (λ e. record { plain = subst (λ (a : Statements). Plain P (graft_all (own_of P) a)) (sym (first_ends (jumps_of P u) here l (then s st rest) e)) f.plain; fresh = f.fresh })
      (λ e. record { plain = subst (λ (a : Statements). Plain P (graft_all (own_of P) a)) (sym (first_stays (jumps_of P u) here l s st rest e)) (fits_first here l s st rest e f).0.plain; fresh = f.fresh })

  -- in memory
  pub fits_one : (ts : List Tree) (here l : Word) (one : Stmt) (rest : List Stmt) → Fits P (to_write P u here l (named P u ts (one ∷ rest))) (named P u ts (one ∷ rest))
      → Fits P (to_write_first P u here l (named P u ts (one ∷ rest))) (named P u ts (one ∷ rest))
  fits_one ts here l one rest = by (stmt_at ts one) (goes ts one)
    where
      by : (f : Before) → Goes f → Fits P (to_write P u here l (graft_all (renames P u) (f (statements_at ts rest)))) (graft_all (renames P u) (f (statements_at ts rest)))
          → Fits P (to_write_first P u here l (graft_all (renames P u) (f (statements_at ts rest)))) (graft_all (renames P u) (f (statements_at ts rest)))
      by f (inl (y, m, e)) =
          subst (λ (f : Before). Fits P (to_write P u here l (graft_all (renames P u) (f (statements_at ts rest)))) (graft_all (renames P u) (f (statements_at ts rest)))
          → Fits P (to_write_first P u here l (graft_all (renames P u) (f (statements_at ts rest)))) (graft_all (renames P u) (f (statements_at ts rest)))) (sym e) (λ h. h)
      by f (inr (s, st, e)) =
          subst (λ (f : Before). Fits P (to_write P u here l (graft_all (renames P u) (f (statements_at ts rest)))) (graft_all (renames P u) (f (statements_at ts rest)))
          → Fits P (to_write_first P u here l (graft_all (renames P u) (f (statements_at ts rest)))) (graft_all (renames P u) (f (statements_at ts rest)))) (sym e)
          (first_fits here l s (graft_one (renames P u) st) (graft_all (renames P u) (statements_at ts rest)))

  -- sets of what was assigned before, so far and after one statement more
  abbrev pub Both : Bits → Bits → Bits → Type 0
  Both a b c = (y : Word) → is_among (names_in (vars P) c) y ≡ (is_among (names_in (vars P) a) y || is_among (names_in (vars P) b) y)

  module _ (ts us vs : List Tree) (before mid after : List Item) (earlier so between one both : Bits) (start here l : Word) (all : Statements) where
    -- one that does not end the step
    pub far_more : (s : Span) (st : Statement) (rest : Statements) → jumps_one st ≡ false → Both earlier so between → Both so one both → Far ts us before mid earlier so start here l all (then s st rest)
        → Writes P (put_items self x) us vs mid after between one (to_write_first P u here l (then s st rest)) → Far ts vs before after earlier both start unlabelled l all rest
    far_more s st rest h b c f w =
        let one_done : Statements = then s (graft_one (own_of P) st) done in
        let said : Writes P (put_items self x) us vs mid after between one one_done = subst (λ (a : Statements). Writes P (put_items self x) us vs mid after between one (graft_all (own_of P) a)) (first_stays (jumps_of P u) here l s st rest h) w in
        record {
          so_far = followed_by f.so_far one_done;
          writes = writes_then P (put_items self x) ts us vs before mid after earlier so between one both f.so_far one_done (put_onto self x) f.unmarked b c f.writes said;
          unmarked = unmarked_more f.so_far f.unmarked s (graft_one (own_of P) st);
          whole =
              f.whole
              ∙ ap (λ (a : Statements). followed_by f.so_far (graft_all (own_of P) a)) (left_past (jumps_of P u) here l s st rest h)
              ∙ sym (followed_again f.so_far one_done (to_write P u unlabelled l rest));
          jumps_as = f.jumps_as ∙ ap (λ b. b || jumps rest) h;
          fits = (fits_first here l s st rest h f.fits).1;
        }
      where
        unmarked_more : (a : Statements) → Unmarked a → (s : Span) (st : Statement) → Unmarked (followed_by a (then s st done))
        unmarked_more done m s st = tt
        unmarked_more (then r q a) m s st = unmarked_more a m s st
        unmarked_more (mark y k a) m s st = absurd m

    -- one that ends it
    pub far_ends : (ss : Statements) → ends_first ss ≡ true → Both earlier so between → Both so one both → Far ts us before mid earlier so start here l all ss
        → Writes P (put_items self x) us vs mid after between one (to_write_first P u here l ss) → Writes P (put_items self x) ts vs before after earlier both (to_write P u start l all) × (true ≡ jumps all)
    far_ends ss h b c f w =
        let said : Writes P (put_items self x) us vs mid after between one (to_write P u here l ss) = subst (λ (a : Statements). Writes P (put_items self x) us vs mid after between one (graft_all (own_of P) a)) (first_ends (jumps_of P u) here l ss h) w in (
          subst (Writes P (put_items self x) ts vs before after earlier both) (sym f.whole)
              (writes_then P (put_items self x) ts us vs before mid after earlier so between one both f.so_far (to_write P u here l ss) (put_onto self x) f.unmarked b c f.writes said),
          sym (f.jumps_as ∙ ends_jumps ss h),
        )

  -- none is left
  pub far_all : (ts us : List Tree) (before after : List Item) (earlier assigned : Bits) (start here l : Word) (all : Statements) → Far ts us before after earlier assigned start here l all done
      → Writes P (put_items self x) ts us before after earlier assigned (to_write P u start l all) × (false ≡ jumps all)
  far_all ts us before after earlier assigned start here l all f = (
    subst (Writes P (put_items self x) ts us before after earlier assigned) (sym (f.whole ∙ followed_done f.so_far)) f.writes,
    sym f.jumps_as,
  )

  -- in memory
  module _ (ts us vs os : List Tree) (before mid after : List Item) (earlier so between one both : Bits) (start here l : Word) (all : Statements) (rest : List Stmt) where
    abbrev Next : Before → Type 0
    Next f =
        ends_first (graft_all (renames P u) (f (statements_at os rest))) ≡ false → Both earlier so between → Both so one both → Far ts us before mid earlier so start here l all (graft_all (renames P u) (f (statements_at os rest)))
        → Writes P (put_items self x) us vs mid after between one (to_write_first P u here l (graft_all (renames P u) (f (statements_at os rest)))) → Far ts vs before after earlier both start unlabelled l all (named P u os rest)

    next : (f : Before) → Goes f → Next f
    next f (inl (y, m, e)) = subst Next (sym e) (λ h. absurd (contrary h))
    next f (inr (sp, st, e)) = subst Next (sym e) (far_more ts us vs before mid after earlier so between one both start here l all sp (graft_one (renames P u) st) (graft_all (renames P u) (statements_at os rest)))

    pub far_next : (s : Stmt) → Next (stmt_at os s)
    far_next s = next (stmt_at os s) (goes os s)
