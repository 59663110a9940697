-- Statements in memory one after another, as the pool grows; and what is written for a call.
use Rattle.std.proofs.Common.{◌≡◌, ℕ, ◌+◌, ◌<◌, ◌≤◌, List, [], ◌∷◌, ◌++◌, length, map, take, get_or, reverse, Vec, Global, Bor, refl, sym, ap, subst, ◌∙◌, arith}
use Rattle.std.proofs.lemmas.List.{take_more, take_all}
use Rattle.tla_tree.specs.Tree.{Word, Name, Tree, Trees, Graft, graft, grafts}
use Rattle.tla_tree.specs.Pool.{at, trees_at, Keeps}
use Rattle.tla_tree.specs.Nesting.{greatest}
use Rattle.pcal_tree.specs.declared.algorithm.Span as code_span
use Rattle.pcal_tree.specs.declared.algorithm.Bind.{Bind}
use Rattle.pcal_tree.specs.declared.algorithm.Stmt.{Stmt}
use Rattle.pcal_tree.specs.declared.algorithm.Stmt.TheVariants.{If, Either, With, While}
use Rattle.pcal_tree.specs.declared.algorithm.Stmt.TheOpen.{Stmt-F}
use Rattle.pcal_tree.specs.declared.algorithm.Stmt.TheFolds.{fold-roll-Stmt, ind-Stmt, map-Stmt}
use Rattle.pcal_tree.specs.declared.algorithm.Stmt.TheViews.{roll-Stmt}
use Rattle.pcal_tree.specs.declared.algorithm.Macro as code_macro
use Rattle.pcal_tree.specs.Algorithm.{Span, Binds, branch, either, with, while, macro, Statements, done, then, no_branches, or, Macro}
use Rattle.pcal_tree.specs.InMemory.{span_of, binds_at, Before, stmt_step, stmt_at, statements_at, branches_at, branches_from, macro_at, past_stmt, past_statements, past_branches, past_macro}
use Rattle.pcal_tree.specs.Expand.{followed_by, graft_binds, graft_all, expand, written_out}
use Rattle.pcal_tree.specs.OffencesSteps.{called_with}
use Rattle.pcal_tree.proofs.InMemoryEach.{if_at, either_at, with_at, while_at, past_if, past_either, past_with, past_while, past_one_more}
use Rattle.pcal_tree.proofs.InMemoryGrown.{binds_at-kept, statements_at-kept, each_kept}
use Rattle.expansion_size.specs.FramesIn.{newest_first, put_by, past_frames}
use Rattle.expansion_size.specs.declared.frames.Frames.{Frames}
use Rattle.expansion_size.specs.declared.frames.Frames.TheVariants.{Called}
use Rattle.macro_arguments.specs.FramesStay.{put_anywhere, put_kept}
use Rattle.macro_arguments.specs.Expressions.{StandBinds}
use Rattle.expansion.specs.Written.{put_out, expand_first, written, written_some, inside_written, body_written, Stand, StandSome}
use Rattle.expansion.proofs.PutTwice.{all_twice, joined_done, joined_again, put_joined}
use Rattle.expansion_size.proofs.FrameLaws.{put_called}
use Rattle.macro_arguments.proofs.Lists.{MadeOf, Grows}

-- ---- one after another

module _ (ts : List Tree) where
  abbrev IsFirst : Stmt → Type 0
  IsFirst s = (rest : Statements) → stmt_at ts s rest ≡ followed_by (stmt_at ts s done) rest

  abbrev bare : Stmt-F ((s : Stmt) × IsFirst s) → Stmt-F Stmt
  bare y = map-Stmt ((s : Stmt) × IsFirst s) Stmt (λ e. e.0) y

  layer_first : (y : Stmt-F ((s : Stmt) × IsFirst s)) (rest : Statements)
      → stmt_step ts (map-Stmt Stmt Before (stmt_at ts) (bare y)) rest ≡ followed_by (stmt_step ts (map-Stmt Stmt Before (stmt_at ts) (bare y)) done) rest
  layer_first (Stmt-F.Label x m) rest = refl
  layer_first (Stmt-F.Simple s x) rest = refl
  layer_first (Stmt-F.If s e a b) rest = refl
  layer_first (Stmt-F.Either s bs) rest = refl
  layer_first (Stmt-F.With s bs a) rest = refl
  layer_first (Stmt-F.While s e a) rest = refl

  -- a statement goes before the rest of its list
  pub goes_first : (s : Stmt) (rest : Statements) → stmt_at ts s rest ≡ followed_by (stmt_at ts s done) rest
  goes_first = ind-Stmt IsFirst (λ x y is. subst (λ z. IsFirst (roll-Stmt z)) is
      (subst (λ (f : Before). (rest : Statements) → f rest ≡ followed_by (f done) rest) (sym (fold-roll-Stmt Before (stmt_step ts) (bare y))) (layer_first y)))

  statements_joined : (ss rs : List Stmt) → statements_at ts (ss ++ rs) ≡ followed_by (statements_at ts ss) (statements_at ts rs)
  statements_joined [] rs = refl
  statements_joined (s ∷ ss) rs =
      ap (stmt_at ts s) (statements_joined ss rs)
      ∙ goes_first s (followed_by (statements_at ts ss) (statements_at ts rs))
      ∙ sym (joined_again (stmt_at ts s done) (statements_at ts ss) (statements_at ts rs))
      ∙ ap (λ (b : Statements). followed_by b (statements_at ts rs)) (sym (goes_first s (statements_at ts ss)))

  -- one more in the list
  pub written_more : (ms : List code_macro.Macro) (a : Frames) (ss : List Stmt) (i : ℕ) (s : Stmt) → s ≡ get_or ss i s → i < length ss → written ts ms a (take (i + 1) ss) ≡ followed_by (written ts ms a (take i ss)) (written ts ms a (s ∷ []))
  written_more ms a ss i s here within =
      ap (written ts ms a) (take_more ss i s within ∙ ap (λ (r : Stmt). take i ss ++ r ∷ []) (sym here))
      ∙ ap (put_out (newest_first ts ms) (put_by ts a)) (statements_joined (take i ss) (s ∷ []))
      ∙ put_joined (newest_first ts ms) (put_by ts a) (statements_at ts (take i ss)) (statements_at ts (s ∷ []))

-- ---- as the pool grows

module _ (ts us : List Tree) (k : Keeps ts us) where
  pub stand_kept : (ss : List Stmt) (b : Statements) → Stand ts ss b → Stand us ss b
  stand_kept ss b h = record { within = omega (arith, h.within, k.longer); stand = statements_at-kept ts us k ss h.within ∙ h.stand }

  -- one more is written
  pub stand_pushed : (ss rs : List Stmt) (r : Stmt) (b v : Statements) → Stand ts ss b → Stand us (r ∷ []) v → rs ≡ ss ++ r ∷ [] → Stand us rs (followed_by b v)
  stand_pushed ss rs r b v h m e = record {
    within = let past = past_one_more past_stmt ss r in let all = ap past_statements e in omega (arith, past, all, h.within, m.within, k.longer);
    stand = ap (statements_at us) e ∙ statements_joined us ss (r ∷ []) ∙ (λ j. followed_by ((statements_at-kept ts us k ss h.within ∙ h.stand) j) (m.stand j));
  }

  pub newest_kept : (ms : List code_macro.Macro) → greatest (map past_macro ms) ≤ length ts → newest_first us ms ≡ newest_first ts ms
  newest_kept ms h =
      ap (λ (l : List Macro). reverse l)
      (each_kept ts us k (macro_at us) (macro_at ts) past_macro (λ m l j. record { name = m.name; params = m.params.items; body = statements_at-kept ts us k m.body.items l j }) ms h)

  pub written_kept : (ms : List code_macro.Macro) → greatest (map past_macro ms) ≤ length ts → (a : Frames) → past_frames a ≤ length ts → (ss : List Stmt) → past_statements ss ≤ length ts → written us ms a ss ≡ written ts ms a ss
  written_kept ms h a l ss m = λ j. put_out (newest_kept ms h j) (put_kept ts us k a l j) (statements_at-kept ts us k ss m j)

-- the body of the macro that is called
pub call_written : (ts : List Tree) (older ms : List code_macro.Macro) (f : Bor Frames) (o : code_macro.Macro) (ps : Bor (List Name)) (es : Bor (List ℕ)) (at : Span) (x : Word) → ps.now ≡ o.params.items
    → body_written ts older o (trees_at ts es.now) ≡ written_out (newest_first ts ms) at x (trees_at ts es.now)
    → written ts older (Called ps es f) o.body.items ≡ graft_all (put_by ts f.now) (written_out (newest_first ts ms) at x (trees_at ts es.now))
call_written ts older ms f o ps es at x p w =
    (λ j. put_out (newest_first ts older) (put_called ts ps es f j) (statements_at ts o.body.items))
    ∙ (λ j. put_out (newest_first ts older) (called_with (p j) (grafts (put_by ts f.now) (trees_at ts es.now)) (put_by ts f.now)) (statements_at ts o.body.items))
    ∙ sym (all_twice (put_by ts f.now) (put_anywhere ts f.now) o.params.items (trees_at ts es.now) (expand (written_out (newest_first ts older)) (statements_at ts o.body.items)))
    ∙ ap (graft_all (put_by ts f.now)) w

-- ---- branches

abbrev pub past_branch : Vec Stmt Global → ℕ
past_branch b = past_statements b.items

abbrev pub branch_at : List Tree → Vec Stmt Global → Statements
branch_at ts b = statements_at ts b.items

abbrev pub branch_put : List code_macro.Macro → Frames → List Tree → Vec Stmt Global → Statements
branch_put ms a ts b = written ts ms a b.items

pub branches_grow : Grows past_branch branch_at
branches_grow ts us k b h = statements_at-kept ts us k b.items h

branches_put : (ms : List code_macro.Macro) (a : Frames) (ts : List Tree) (bs : List (Vec Stmt Global)) → branches_from (map (branch_put ms a ts) bs) ≡ written_some ts ms a bs
branches_put ms a ts [] = refl
branches_put ms a ts (b ∷ bs) = ap (or (branch_put ms a ts b)) (branches_put ms a ts bs)

pub branches_made : (ms : List code_macro.Macro) (a : Frames) (old ts : List Tree) (rs bs : List (Vec Stmt Global)) → MadeOf past_branch branch_at (branch_put ms a old) ts rs bs → StandSome ts rs (written_some old ms a bs)
branches_made ms a old ts rs bs m = record { within = m.within; stand = ap branches_from m.stand ∙ branches_put ms a old bs }

-- ---- lists that begin and end

pub stand_none : (ts : List Tree) (ss : List Stmt) → ss ≡ [] → Stand ts ss done
stand_none ts ss e = record { within = let none = ap past_statements e in omega (arith, none); stand = ap (statements_at ts) e }

pub keeps_all : (ts : List Tree) → Keeps ts ts
keeps_all ts = record { longer = omega arith; same = λ i h. refl }

module _ (ts : List Tree) (ms : List code_macro.Macro) (a : Frames) where
  none_written : (ss : List Stmt) → written ts ms a (take 0 ss) ≡ done
  none_written [] = refl
  none_written (s ∷ ss) = refl

  pub first_written : (us : List Tree) (ss out : List Stmt) (b : Statements) → Stand us out b → Stand us out (followed_by b (written ts ms a (take 0 ss)))
  first_written us ss out b h = subst (Stand us out) (sym (ap (followed_by b) (none_written ss) ∙ joined_done b)) h

  pub all_written : (us : List Tree) (ss out : List Stmt) (i : ℕ) (b : Statements) → length ss ≤ i → Stand us out (followed_by b (written ts ms a (take i ss))) → Stand us out (followed_by b (written ts ms a ss))
  all_written us ss out i b less h = subst (Stand us out) (ap (λ (l : List Stmt). followed_by b (written ts ms a l)) (take_all i ss less)) h

-- ---- by the first pool, in the last one

module _ (ms : List code_macro.Macro) (a : Frames) where
  pub stand_from : (ts us vs ws : List Tree) → Keeps ts us → Keeps vs ws → greatest (map past_macro ms) ≤ length ts → past_frames a ≤ length ts → (rs ss ks : List Stmt) → ks ≡ ss → past_statements ss ≤ length ts
      → Stand vs rs (written us ms a ks) → Stand ws rs (written ts ms a ss)
  stand_from ts us vs ws k l h m rs ss ks e n s = subst (Stand ws rs) (ap (written us ms a) e ∙ written_kept ts us k ms h a m ss n) (stand_kept vs ws l rs (written us ms a ks) s)

  pub next_written : (ts us : List Tree) → Keeps ts us → greatest (map past_macro ms) ≤ length ts → past_frames a ≤ length ts → (ss : List Stmt) (i : ℕ) (s : Stmt) → s ≡ get_or ss i s → i < length ss → past_stmt s ≤ length ts → (b : Statements)
      → followed_by (followed_by b (written ts ms a (take i ss))) (written us ms a (s ∷ [])) ≡ followed_by b (written ts ms a (take (i + 1) ss))
  next_written ts us k h m ss i s here within l b =
      joined_again b (written ts ms a (take i ss)) (written us ms a (s ∷ []))
      ∙ ap (followed_by b) (ap (followed_by (written ts ms a (take i ss))) (written_kept ts us k ms h a m (s ∷ []) (omega (arith, l))) ∙ sym (written_more ts ms a ss i s here within))

-- ---- each kind of statement

pub binds_stand : (ts us : List Tree) → Keeps ts us → (cs : List Bind) (b : Binds) → StandBinds ts cs b → StandBinds us cs b
binds_stand ts us k cs b h = record { within = omega (arith, h.within, k.longer); stand = binds_at-kept ts us k cs h.within ∙ h.stand }

pub inside_is : (ts us : List Tree) (ms : List code_macro.Macro) (a : Frames) (rs : List Stmt) (x s : Stmt) → x ≡ s → Stand us rs (inside_written ts ms a s) → Stand us rs (inside_written ts ms a x)
inside_is ts us ms a rs x s e h = subst (λ (y : Stmt). Stand us rs (inside_written ts ms a y)) (sym e) h

module _ (ts us : List Tree) (ms : List code_macro.Macro) (a : Frames) where
  abbrev g : Graft
  g = put_by ts a

  pub if_made : (s : code_span.Span) (e t : ℕ) (xs ys rs ss : Vec Stmt Global) → at us t ≡ graft g (at ts e) → t < length us → Stand us rs.items (written ts ms a xs.items) → Stand us ss.items (written ts ms a ys.items)
      → Stand us (If s t rs ss ∷ []) (inside_written ts ms a (If s e xs ys))
  if_made s e t xs ys rs ss is within h k = record {
    within = let past = past_if s t rs ss in omega (arith, past, within, h.within, k.within);
    stand =
        (λ j. if_at us s t rs ss j done)
        ∙ (λ j. then (span_of s) (branch (is j) (h.stand j) (k.stand j)) done)
        ∙ (λ j. graft_all g (expand_first (written_out (newest_first ts ms)) (sym (if_at ts s e xs ys) j done)));
  }

  pub either_made : (s : code_span.Span) (bs rs : Vec (Vec Stmt Global) Global) → StandSome us rs.items (written_some ts ms a bs.items) → Stand us (Either s rs ∷ []) (inside_written ts ms a (Either s bs))
  either_made s bs rs h = record {
    within = let past = past_either s rs in omega (arith, past, h.within);
    stand =
        (λ j. either_at us s rs j done)
        ∙ (λ j. then (span_of s) (either (h.stand j)) done)
        ∙ (λ j. graft_all g (expand_first (written_out (newest_first ts ms)) (sym (either_at ts s bs) j done)));
  }

  pub with_made : (s : code_span.Span) (bs cs : Vec Bind Global) (xs rs : Vec Stmt Global) → StandBinds us cs.items (graft_binds g (binds_at ts bs.items)) → Stand us rs.items (written ts ms a xs.items)
      → Stand us (With s cs rs ∷ []) (inside_written ts ms a (With s bs xs))
  with_made s bs cs xs rs b h = record {
    within = let past = past_with s cs rs in omega (arith, past, b.within, h.within);
    stand =
        (λ j. with_at us s cs rs j done)
        ∙ (λ j. then (span_of s) (with (b.stand j) (h.stand j)) done)
        ∙ (λ j. graft_all g (expand_first (written_out (newest_first ts ms)) (sym (with_at ts s bs xs) j done)));
  }

  pub while_made : (s : code_span.Span) (e t : ℕ) (xs rs : Vec Stmt Global) → at us t ≡ graft g (at ts e) → t < length us → Stand us rs.items (written ts ms a xs.items) → Stand us (While s t rs ∷ []) (inside_written ts ms a (While s e xs))
  while_made s e t xs rs is within h = record {
    within = let past = past_while s t rs in omega (arith, past, within, h.within);
    stand =
        (λ j. while_at us s t rs j done)
        ∙ (λ j. then (span_of s) (while (is j) (h.stand j)) done)
        ∙ (λ j. graft_all g (expand_first (written_out (newest_first ts ms)) (sym (while_at ts s e xs) j done)));
  }

-- ---- macro calls

-- of no macro
pub no_macro_made : (ts : List Tree) (s : code_span.Span) (rs : Vec (Vec Stmt Global) Global) → rs.items ≡ [] → Stand ts (Either s rs ∷ []) (then (span_of s) (either no_branches) done)
no_macro_made ts s rs e = record {
  within = let past = past_either s rs in let none = ap past_branches e in omega (arith, past, none);
  stand = (λ j. either_at ts s rs j done) ∙ ap (λ (l : List (Vec Stmt Global)). then (span_of s) (either (branches_at ts l)) done) e;
}

-- a statement that is one
pub call_is : (ts : List Tree) (ms : List code_macro.Macro) (a : Frames) (s : Stmt) (at : Span) (x : Word) (us : Trees) → stmt_at ts s done ≡ then at (macro x us) done
    → graft_all (put_by ts a) (written_out (newest_first ts ms) at x us) ≡ written ts ms a (s ∷ [])
call_is ts ms a s at x us h =
    ap (graft_all (put_by ts a)) (sym (joined_done (written_out (newest_first ts ms) at x us)) ∙ ap (expand (written_out (newest_first ts ms))) (sym h))
