-- What is known of macros: what is seen in a call, and one more macro.
use Rattle.std.proofs.Common.{◌≡◌, ℕ, zero, suc, ◌+◌, ◌<◌, Bool, true, false, List, [], ◌∷◌, ◌++◌, length, take, get_or, map, reverse, Option, Some, None, refl, sym, ap, ◌∙◌, subst, cond, bytes_eq, arith}
use Rattle.std.proofs.lemmas.List.{take_more, map-append, reverse-append, length-append}
use Rattle.std.proofs.lemmas.Option.{get_or_from_slice_get, slice_get_within, slice_get_read}
use Rattle.std.proofs.Math.Seq.{get_or-append_seam}
use Rattle.std.proofs.Math.ListN.{get_or-append}
use Rattle.tla_tree.specs.Tree.{Word, Tree, Trees}
use Rattle.pcal_tree.specs.declared.algorithm.Macro.{Macro}
use Rattle.pcal_tree.specs.Algorithm.{Name, Procedure}
use Rattle.pcal_tree.specs.Algorithm as tree
use Rattle.pcal_tree.specs.InMemory.{macro_at}
use Rattle.pcal_tree.specs.laws.MacroSpots.{At, Trail, Called, MacroSeen, seen_in_call, before_on, put_called, seen_from, unlabelled}
use Rattle.pcal_tree.proofs.SpotCalls.{Like, SeenLike}
use Rattle.pcal_tree.proofs.SpotGrafts.{putting}
use Rattle.algorithm_limits.specs.Numbers.{Numbers, number_of, with_number}
use Rattle.algorithm_limits.proofs.Tables.{number_of_with}
use Rattle.read_rules.specs.declared.known.Known.{Known}
use Rattle.read_rules.specs.declared.known.Summary.{Summary}
use Rattle.read_rules.specs.declared.steps.Jump.{Jump}
use Rattle.read_rules.specs.declared.walk.Walk.{Walk}
use Rattle.read_rules.specs.KnownIn.{IsSummary, find_seen, seen_by_found, IsFound, AreMacros, Knows}
use Rattle.read_rules.specs.MacrosIn.{macro_seen}
use Rattle.read_rules.specs.Pruned.{macro_pruned, macros_pruned}
use Rattle.read_rules.specs.PlainPuts.{way}
use Rattle.read_rules.specs.SeenIn.{seen_of, at_of, Walks}
use Rattle.read_rules.specs.StepsIn.{AreJumps}
use Rattle.read_rules.proofs.SeenBodyLaws.{walks_as}

-- ---- calls

found_call : (ms : List MacroSeen) (m : Word) (ts : Trees) (z : At) → seen_by_found (find_seen ms m) ts z ≡ seen_in_call ms m ts z
found_call [] m ts z = refl
found_call (d ∷ older) m ts z = by (bytes_eq d.title m) (found_call older m ts z)
  where
    by : (b : Bool) → seen_by_found (find_seen older m) ts z ≡ seen_in_call older m ts z
        → seen_by_found (cond b (Some d) (find_seen older m)) ts z ≡ cond b (put_called (putting d.params ts (before_on z.trail)) (seen_from d z.labelled z.trail)) (seen_in_call older m ts z)
    by true h = refl
    by false h = h

walks_found : (k : Known) (ms : List MacroSeen) (m : Word) (ts : Trees) (old new : Walk) (o : Option MacroSeen) → find_seen ms m ≡ o → Walks old new (seen_by_found o ts) → Walks old new (seen_in_call ms m ts)
walks_found k ms m ts old new o e w = walks_as old new (seen_by_found o ts) (seen_in_call ms m ts) (λ z. ap (λ (p : Option MacroSeen). seen_by_found p ts z) (sym e) ∙ found_call ms m ts z) w

-- a name of no macro
pub no_call : (k : Known) (ms : List MacroSeen) (m : Word) (ts : Trees) (old new : Walk) → AreMacros k ms → number_of k.numbers m ≡ 0 → Walks old new (λ z. record { seen = []; end = unlabelled None }) → Walks old new (seen_in_call ms m ts)
no_call k ms m ts old new a e w = walks_found k ms m ts old new None (subst (λ (n : ℕ). IsFound k.summaries.items n (find_seen ms m)) e (a m)) w

pub past_call : (k : Known) (ms : List MacroSeen) (m : Word) (ts : Trees) (old new : Walk) → AreMacros k ms → length k.summaries.items < number_of k.numbers m → Walks old new (seen_in_call ms m ts)
past_call k ms m ts old new a less = by (number_of k.numbers m) less (a m)
  where
    by : (n : ℕ) → length k.summaries.items < n → IsFound k.summaries.items n (find_seen ms m) → Walks old new (seen_in_call ms m ts)
    by zero l f = absurd (omega (arith, l))
    by (suc i) l f = let h = slice_get_within k.summaries.items i f.1 f.3 in absurd (omega (arith, l, h))

pub found_walks : (k : Known) (ms : List MacroSeen) (m : Word) (ts : Trees) (old new : Walk) (s : Summary) → AreMacros k ms → (i : ℕ) → number_of k.numbers m ≡ suc i → s ≡ get_or k.summaries.items i s
    → ((d : MacroSeen) → IsSummary s d → Walks old new (λ z. put_called (putting d.params ts (before_on z.trail)) (seen_from d z.labelled z.trail))) → Walks old new (seen_in_call ms m ts)
found_walks k ms m ts old new s a i e is w =
    let f = subst (λ (n : ℕ). IsFound k.summaries.items n (find_seen ms m)) e (a m) in
    let same : f.1 ≡ s = sym (get_or_from_slice_get k.summaries.items i f.1 s f.3) ∙ sym is in
    walks_found k ms m ts old new (Some f.0) f.2 (w f.0 (subst (λ (r : Summary). IsSummary r f.0) same f.4))

-- of the two kinds of a call, by whether a label is right before it
pub labelled_walks : (d : MacroSeen) (ps : List Name) (ts : Trees) (old new : Walk) → ps ≡ d.params → old.labelled ≡ true
    → Walks old new (λ z. put_called (putting ps ts (before_on z.trail)) (way d.unreached_at_label d.reached_at_label z.trail)) → Walks old new (λ z. put_called (putting d.params ts (before_on z.trail)) (seen_from d z.labelled z.trail))
labelled_walks d ps ts old new e l w z k =
    subst (λ (c : Called). Like (at_of new) c.end × SeenLike (seen_of new.seen.items) (seen_of old.seen.items ++ c.seen))
    ((λ i. put_called (putting (e i) ts (before_on z.trail)) (by z.trail i)) ∙ ap (λ (b : Bool). put_called (putting d.params ts (before_on z.trail)) (seen_from d b z.trail)) (sym l ∙ k.0)) (w z k)
  where
    by : (q : Trail) → way d.unreached_at_label d.reached_at_label q ≡ seen_from d true q
    by None = refl
    by (Some os) = refl

pub plain_walks : (d : MacroSeen) (ps : List Name) (ts : Trees) (old new : Walk) → ps ≡ d.params → old.labelled ≡ false
    → Walks old new (λ z. put_called (putting ps ts (before_on z.trail)) (way d.unreached d.reached z.trail)) → Walks old new (λ z. put_called (putting d.params ts (before_on z.trail)) (seen_from d z.labelled z.trail))
plain_walks d ps ts old new e l w z k =
    subst (λ (c : Called). Like (at_of new) c.end × SeenLike (seen_of new.seen.items) (seen_of old.seen.items ++ c.seen))
    ((λ i. put_called (putting (e i) ts (before_on z.trail)) (by z.trail i)) ∙ ap (λ (b : Bool). put_called (putting d.params ts (before_on z.trail)) (seen_from d b z.trail)) (sym l ∙ k.0)) (w z k)
  where
    by : (q : Trail) → way d.unreached d.reached q ≡ seen_from d false q
    by None = refl
    by (Some os) = refl

-- ---- one more macro

found_more : (ss : List Summary) (s : Summary) (n : ℕ) (o : Option MacroSeen) → IsFound ss n o → IsFound (ss ++ s ∷ []) n o
found_more ss s zero o f = f
found_more ss s (suc i) o f =
    let less = slice_get_within ss i f.1 f.3 in
    let more = length-append ss (s ∷ []) in (
      f.0,
      f.1,
      f.2,
      slice_get_read (ss ++ s ∷ []) (length (ss ++ s ∷ [])) i f.1 refl (omega (arith, less, more)) (sym (get_or-append ss (s ∷ []) f.1 i less ∙ get_or_from_slice_get ss i f.1 f.1 f.3)),
      f.4,
    )

found_last : (ss : List Summary) (s : Summary) (d : MacroSeen) → IsSummary s d → IsFound (ss ++ s ∷ []) (suc (length ss)) (Some d)
found_last ss s d h =
    let more = length-append ss (s ∷ []) in
    (d, s, refl, slice_get_read (ss ++ s ∷ []) (length (ss ++ s ∷ [])) (length ss) s refl (omega (arith, more)) (sym (get_or-append_seam ss s [] s)), h)

pub knows_more : (k j : Known) (ms : List MacroSeen) (ps : List Procedure) (d : MacroSeen) (s : Summary) (n : ℕ) → Knows k ms ps → IsSummary s d → j.summaries.items ≡ k.summaries.items ++ s ∷ []
    → n ≡ length k.summaries.items + 1 → j.numbers ≡ with_number k.numbers d.title n → j.jumps.items ≡ k.jumps.items → Knows j (d ∷ ms) ps
knows_more k j ms ps d s n h is all last table same = record {
  macros = λ m.
      subst (λ (es : Numbers). IsFound j.summaries.items (number_of es m) (find_seen (d ∷ ms) m)) (sym table)
      (subst (λ (ss : List Summary). IsFound ss (number_of (with_number k.numbers d.title n) m) (find_seen (d ∷ ms) m)) (sym all)
      (subst (λ (i : ℕ). IsFound (k.summaries.items ++ s ∷ []) i (find_seen (d ∷ ms) m)) (sym (number_of_with k.numbers d.title n m)) (by (bytes_eq d.title m) m)));
  jumps = subst (λ (js : List Jump). AreJumps js ps) (sym same) h.jumps;
}
  where
    by : (b : Bool) (m : Word) → IsFound (k.summaries.items ++ s ∷ []) (cond b n (number_of k.numbers m)) (cond b (Some d) (find_seen ms m))
    by true m = subst (λ (i : ℕ). IsFound (k.summaries.items ++ s ∷ []) i (Some d)) (let e : suc (length k.summaries.items) ≡ n = omega (arith, last) in e) (found_last k.summaries.items s d is)
    by false m = found_more k.summaries.items s (number_of k.numbers m) (find_seen ms m) (h.macros m)

pub knows_none : (k : Known) (ps : List Procedure) → k.numbers ≡ [] → AreJumps k.jumps.items ps → Knows k [] ps
knows_none k ps e j = record {
  macros = λ m. subst (λ (es : Numbers). IsFound k.summaries.items (number_of es m) None) (sym e) refl;
  jumps = j;
}

-- the newest comes first
pub newest_kept : (T : Word → Bool) (ts : List Tree) (ps : List Procedure) (ds : List Macro) (i : ℕ) (d : Macro) → d ≡ get_or ds i d → i < length ds
    → macros_pruned T ps (reverse (map (macro_at ts) (take (i + 1) ds)))
    ≡ macro_pruned T (macro_seen ps (macros_pruned T ps (reverse (map (macro_at ts) (take i ds)))) (macro_at ts d)) ∷ macros_pruned T ps (reverse (map (macro_at ts) (take i ds)))
newest_kept T ts ps ds i d e l =
    ap (macros_pruned T ps)
    (ap (λ (es : List Macro). reverse (map (macro_at ts) es)) (take_more ds i d l ∙ ap (λ (z : Macro). take i ds ++ z ∷ []) (sym e))
    ∙ ap (λ (es : List tree.Macro). reverse es) (map-append (macro_at ts) (take i ds) (d ∷ []))
    ∙ reverse-append (map (macro_at ts) (take i ds)) (macro_at ts d ∷ []))
