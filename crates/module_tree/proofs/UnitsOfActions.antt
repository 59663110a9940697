-- The units of actions, of Terminating, of Spec and of Termination, as they are written.
use Rattle.std.proofs.Common.{◌≡◌, ℕ, ◌+◌, true, false, List, [], ◌∷◌, ◌++◌, Option, Some, None, map, refl, sym, ap, subst, codes}
use Rattle.std.specs.List.{AllByRecursion}
use Rattle.tla_token.specs.declared.place.Place.{Place}
use Rattle.tla_token.specs.Places.{after}
use Rattle.tla_token.proofs.Before.{marks_before}
use Rattle.tla_tree.specs.declared.op.Op.TheVariants as op
use Rattle.tla_tree.specs.Tree.{Word, Tree}
use Rattle.tla_tree.specs.Lexical as tk
use Rattle.tla_tree.specs.Spelling.{Right, tree_of}
use Rattle.tla_tree.specs.laws.Writable.{IsWritable}
use Rattle.tla_tree.specs.laws.InText.{ends_word}
use Rattle.tla_tree.specs.laws.Placeless.{tree_placeless}
use Rattle.tla_tree.proofs.FitTokens.{Before, starts, open_square_fits, close_square_fits}
use Rattle.tla_tree.proofs.FitTrees.{written_starts}
use Rattle.tla_tree.proofs.SpelledTokens.{sign_spelled, mark_spelled}
use Rattle.module_tree.specs.Module.{Action, Body, all_of, some_of, Fairness, action_unit, terminating_unit, spec_unit, termination_unit}
use Rattle.module_tree.specs.Grammar.{see, GoodList, each}
use Rattle.module_tree.specs.Layout.{parameter_text, body_text, line}
use Rattle.module_tree.specs.Units.{action_form, terminating_form, spec_form, termination_form, steps_line, fairness_of, BodyForm, all_form, some_form, spell_body, body_of, GoodBody, spell_parameter, parameter_of, GoodParameter}
use Rattle.module_tree.specs.laws.WritableRegion.{IsWay, IsBody, IsParameter, IsFairness, IsAction}
use Rattle.module_tree.specs.laws.PlacelessRegion.{body_placeless, action_placeless, fairness_placeless}
use Rattle.module_tree.proofs.Chunks.{put, Chunk, any, at_byte, before_byte, passes_sign, join, one, space, nothing, narrowed, over}
use Rattle.module_tree.proofs.ExprChunks.{expr_at, name_at, name_over, name_starts}
use Rattle.module_tree.proofs.LineChunks.{line_of, close, open_round, and_bullet, unchanged_word}
use Rattle.module_tree.proofs.ItemChunks.{test_at, items_at}
use Rattle.module_tree.proofs.UnitChunks.{onward, first_line, title_at, past_title}
use Rattle.module_tree.proofs.UnitForms.{UnitAt, defined, defined_line, own_title, each_of, way_line, ways_at, fairs_at}

-- ---- actions

record ParameterAt (o : Option Word) (p : Place) : Type 0 where
  form : Option (Place × Place × Word × Place)
  good : GoodParameter form
  same : parameter_of form ≡ o
  end : Place
  right : Right 1 end
  chunk : Chunk ends_word p (parameter_text o) (spell_parameter form) end
  begins : (y : List ℕ) → ends_word y ≡ true → ends_word (parameter_text o ++ y) ≡ true

parameter_at : (o : Option Word) → IsParameter o → (p : Place) → Right 1 p → ParameterAt o p
parameter_at None h p r = record { form = None; good = tt; same = refl; end = p; right = r; chunk = narrowed ends_word (nothing p); begins = λ y e. e }
parameter_at (Some x) h p r =
    let q = after p (codes "(") in
    let rq = over 1 p (codes "(") r refl in
    let s = after q x in
    let rs = name_over 1 q x h rq in
    record {
      form = Some (p, q, x, s);
      good = (r, rq, rs);
      same = refl;
      end = after s (codes ")");
      right = over 1 s (codes ")") rs refl;
      chunk = narrowed ends_word (join (join (open_round p) (name_at q x h rq) (λ y e. name_starts x y h)) (close s) (λ y e. refl));
      begins = λ y e. refl;
    }

record BodyAt (n : ℕ) (b : Body) : Type 0 where
  form : BodyForm
  good : GoodBody form
  same : body_placeless (body_of form) ≡ body_placeless b
  next : ℕ
  chunk : Chunk any (put n 1) (body_text b) (spell_body form) (put next 1)

body_at : (n : ℕ) (b : Body) → IsBody b → BodyAt n b
body_at n (all_of is) h =
    let x = items_at 2 n is h in
    record {
      form = all_form x.form;
      good = subst (λ (c : ℕ). Right 1 (record { line = 1; col = c }) × GoodList c x.form) (sym x.column) (refl, x.good);
      same = ap all_of x.same;
      next = x.next;
      chunk = x.chunk;
    }
body_at n (some_of []) h = absurd h
body_at n (some_of (y ∷ ys)) h =
    let vs = each_of IsWay (y ∷ ys) h in
    let x = way_line n y vs.0 in
    let xs = ways_at x.next ys vs.1 in
    record {
      form = some_form ((put n 3, x.form) ∷ xs.forms);
      good = (refl, (refl, x.good, xs.good));
      same = (λ i. some_of (x.same i ∷ xs.same i));
      next = xs.next;
      chunk = join x.chunk xs.chunk (λ y e. refl);
    }

pub action_at : (n h : ℕ) (a : Action) → IsAction a → UnitAt action_unit action_placeless n h a
action_at n h a v =
    let p = put n 1 in
    let f = parameter_at a.parameter v.2 (after p a.title) (past_title n a.title v.0) in
    let q = after f.end (codes " ") in
    let b = body_at ((after q (codes "==")).line + 1) a.body v.3 in
    record {
      form = action_form p a.title f.form q b.form;
      good = (v.1, f.good, over 1 f.end (codes " ") f.right refl, b.good);
      new = record { title = a.title; parameter = a.parameter; body = body_of b.form };
      is = (λ i. action_unit (record { title = a.title; parameter = f.same i; body = body_of b.form }));
      same = (λ i. record { title = a.title; parameter = a.parameter; body = b.same i });
      next = b.next;
      start = onward (first_line (onward (onward (title_at n a.title v.0) f.chunk f.begins) (defined_line f.end) (λ y e. refl)) (λ y. refl)) b.chunk (λ y e. refl);
    }

-- ---- Terminating

unchanged_vars : (n : ℕ) → (let p = put n 3 in let w = after p (codes "/\\ ") in let z = after w (codes "UNCHANGED ") in Chunk any (put n 1) (line 2 (codes "/\\ UNCHANGED vars")) (λ r. see p (tk.sign op.And) (see w (tk.other (codes "UNCHANGED")) (see z (tk.word (codes "vars")) r))) (put (n + 1) 1))
unchanged_vars n =
    let w = after (put n 3) (codes "/\\ ") in
    let z = after w (codes "UNCHANGED ") in
    line_of n 2 (join (join (and_bullet n 2) (join (unchanged_word w) (space (after w (codes "UNCHANGED"))) (λ y e. refl)) (λ y e. refl)) (name_at z (codes "vars") ((refl, refl), refl) refl) (λ y e. refl)) (λ y. refl)

pub terminating_at : (n h : ℕ) (e : Tree) → IsWritable e → UnitAt terminating_unit tree_placeless n h e
terminating_at n h e v =
    let x = test_at 2 (n + 1) e v in
    let u = put x.next 3 in
    let w = after u (codes "/\\ ") in
    record {
      form = terminating_form (put n 1) (put n 13) (put (n + 1) 3) x.left x.phrase x.right u w (after w (codes "UNCHANGED "));
      good = (refl, refl, x.good_left, x.good, x.good_right, refl, refl, refl);
      new = tree_of x.phrase;
      is = refl;
      same = x.tree;
      next = x.next + 1;
      start = onward (onward (first_line (own_title n (codes "Terminating") ((refl, refl), refl)) (λ y. refl)) x.chunk (λ y e. refl)) (unchanged_vars x.next) (λ y e. refl);
    }

-- ---- Spec

box_at : (p : Place) → Chunk (at_byte 91) p (codes "[]") (see p (tk.mark tk.box)) (after p (codes "[]"))
box_at p = one (at_byte 91) p (tk.mark tk.box) (mark_spelled tk.box) (before_byte 91 (Before (tk.mark tk.box)) (λ r. (refl, marks_before 91 91 (93 ∷ []) r refl refl refl, refl, refl, tt))) (passes_sign p (tk.mark tk.box) refl refl)

open_square : (p : Place) → Chunk starts p (codes "[") (see p (tk.mark tk.open_square)) (after p (codes "["))
open_square p = one starts p (tk.mark tk.open_square) (mark_spelled tk.open_square) open_square_fits (passes_sign p (tk.mark tk.open_square) refl refl)

close_square : (p : Place) → Chunk any p (codes "]") (see p (tk.mark tk.close_square)) (after p (codes "]"))
close_square p = one any p (tk.mark tk.close_square) (mark_spelled tk.close_square) (λ x e. close_square_fits x) (passes_sign p (tk.mark tk.close_square) refl refl)

start_chunk : (n : ℕ) → Chunk any (put n 1) (line 2 (codes "/\\ Init")) (λ r. see (put n 3) (tk.sign op.And) (see (put n 6) (tk.word (codes "Init")) r)) (put (n + 1) 1)
start_chunk n = line_of n 2 (join (and_bullet n 2) (name_at (put n 6) (codes "Init") ((refl, refl), refl) refl) (λ y e. refl)) (λ y. refl)

steps_chunk : (n : ℕ) → Chunk any (put n 1) (line 2 (codes "/\\ [][Next]_vars")) (λ r. see (put n 3) (tk.sign op.And) (see (put n 6) (tk.mark tk.box) (see (put n 8) (tk.mark tk.open_square) (see (put n 9) (tk.word (codes "Next")) (see (put n 13) (tk.mark tk.close_square) (see (put n 14) (tk.word (codes "_vars")) r)))))) (put (n + 1) 1)
steps_chunk n =
    line_of n 2 (join (and_bullet n 2) (join (box_at (put n 6)) (join (open_square (put n 8)) (join (name_at (put n 9) (codes "Next") ((refl, refl), refl) refl)
    (join (close_square (put n 13)) (name_at (put n 14) (codes "_vars") ((refl, refl), refl) refl) (λ y e. refl)) (λ y e. refl)) (λ y e. refl)) (λ y e. refl)) (λ y e. refl)) (λ y. refl)

pub spec_at : (n h : ℕ) (fs : List Fairness) → AllByRecursion IsFairness fs → UnitAt spec_unit (map fairness_placeless) n h fs
spec_at n h fs v =
    let m = n + 1 in
    let k = m + 1 in
    let xs = fairs_at (k + 1) fs v in
    record {
      form = spec_form (put n 1) (put n 6) (put m 3) (put m 6) (put k 3) (steps_line (put k 6) (put k 8) (put k 9) (put k 13) (put k 14)) xs.forms;
      good = (refl, refl, (refl, (refl, refl, (refl, (refl, refl, refl, refl, refl), xs.good))));
      new = each fairness_of xs.forms;
      is = refl;
      same = xs.same;
      next = xs.next;
      start = onward (first_line (own_title n (codes "Spec") ((refl, refl), refl)) (λ y. refl)) (join (start_chunk m) (join (steps_chunk k) xs.chunk (λ y e. refl)) (λ y e. refl)) (λ y e. refl);
    }

-- ---- Termination

-- `<>(`
eventually : (p : Place) → (let q = after p (codes "<") in let s = after q (codes ">") in Chunk starts p (codes "<>(") (λ r. see p (tk.sign op.Less) (see q (tk.sign op.Greater) (see s (tk.mark tk.open_bracket) r))) (after s (codes "(")))
eventually p =
    let q = after p (codes "<") in
    join (one (at_byte 62) p (tk.sign op.Less) (sign_spelled op.Less) (before_byte 62 (Before (tk.sign op.Less)) (λ r. (refl, marks_before 60 62 [] r refl refl refl, refl, refl, tt))) (passes_sign p (tk.sign op.Less) refl refl))
    (join (one (at_byte 40) q (tk.sign op.Greater) (sign_spelled op.Greater) (before_byte 40 (Before (tk.sign op.Greater)) (λ r. (refl, marks_before 62 40 [] r refl refl refl, refl, refl, tt))) (passes_sign q (tk.sign op.Greater) refl refl))
    (open_round (after q (codes ">"))) (λ y e. refl)) (λ y e. refl)

pub termination_at : (n h : ℕ) (e : Tree) → IsWritable e → UnitAt termination_unit tree_placeless n h e
termination_at n h e v =
    let p = put n 1 in
    let s = put n 16 in
    let a = expr_at 0 false e v (put n 19) refl in
    record {
      form = termination_form p (put n 13) s (put n 17) (put n 18) a.phrase a.end;
      good = (refl, refl, refl, refl, a.good, a.right);
      new = tree_of a.phrase;
      is = refl;
      same = a.tree;
      next = (after a.end (codes ")")).line + 1;
      start = first_line (onward (onward (onward (onward (title_at n (codes "Termination") ((refl, refl), refl)) (defined (put n 12)) (λ y e. refl)) (eventually s) (λ y e. refl)) a.chunk (λ y i. written_starts y e v false i)) (close a.end) (λ y e. refl)) (λ y. refl);
    }
