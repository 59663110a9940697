-- One part further in an algorithm, and what is found at its end.
use Rattle.std.proofs.Common.{◌≡◌, ℕ, zero, suc, ◌+◌, ◌-◌, ◌<◌, ◌≤◌, Bool, true, false, ◌&&◌, ◌||◌, nat_eq, nat_le, nat_lt, List, [], ◌∷◌, ◌++◌, length, get_or, take, drop, min, Option, Some, None, refl, sym, ap, subst, ◌∙◌, arith, codes, length-append, length-drop}
use Rattle.std.specs.Prelude.{is_some, if◌then◌else◌, filter}
use Rattle.std.specs.List.{flat_map}
use Rattle.std.proofs.lemmas.Bool.{leb-true, leb-false}
use Rattle.std.proofs.lemmas.List.{drop_all, take-append-drop, length-take-le}
use Rattle.std.proofs.lemmas.List.Elements.{filter-append}
use Rattle.tla_token.specs.declared.part.Part as code_part
use Rattle.tla_token.specs.Tokens.{stretch}
use Rattle.tla_token.specs.Offences.{Part, part_bytes, Offence, part_offences, least}
use Rattle.tla_token.specs.Cut.{parts, part_at, parts_at}
use Rattle.tla_token.specs.Scan.{part_of, front, IsWordless}
use Rattle.tla_token.specs.Readings.{joined}
use Rattle.tla_token.proofs.Found.{found, nothing_found}
use Rattle.tla_token.proofs.Scans.{wordless_on, drop_more}
use Rattle.tla_token.proofs.Faults.{joined_assoc, joined_none, least_append}
use Rattle.module_split.specs.declared.algorithm.Inside as code_inside
use Rattle.module_split.specs.declared.algorithm.Stage as code_stage
use Rattle.module_split.specs.declared.algorithm.Stage.TheVariants as code
use Rattle.module_tree.specs.TextFront.{Text}
use Rattle.module_tree.specs.Beginnings.{is_fair, opening, begins_algorithm}
use Rattle.module_tree.specs.ModuleParts.{kind_in}
use Rattle.module_tree.specs.AlgorithmText.{Stage, head, is_past, after_part, IndexedPart, is_token_byte, in_tokens, Inside, with_part, inner_part, inside, algorithm_at}
use Rattle.module_split.specs.AlgorithmSeen.{stage_seen, depth, part_rest, from_here, IsInside, Passes, Reaches}
use Rattle.module_tree.specs.FileOffences.{inner_offences, is_splitting}
use Rattle.module_tree.proofs.AlgorithmFound.{opened}
use Rattle.module_split.proofs.BeginningSteps.{stretch_is}

-- ---- bytes are passed

past_some : (st : Stage) (n k left : ℕ) (s : Text) → k ≤ left → left ≤ length s → inside st n k left s ≡ inside st (n + k) 0 (left - k) (drop k s)
past_some st n zero left s l m =
    let e : n + 0 ≡ n = omega arith in
    let f : left - 0 ≡ left = omega arith in
    rw (e, f) refl
past_some st n (suc k) zero s l m = absurd (omega arith)
past_some st n (suc k) (suc left) [] l m = absurd (omega arith)
past_some st n (suc k) (suc left) (b ∷ s) l m =
    let e : n + suc k ≡ suc n + k = omega arith in
    let f : suc left - suc k ≡ left - k = omega arith in
    rw (e, f) (past_some st (suc n) k left s (omega arith) (omega arith))

past_all : (st : Stage) (n k left : ℕ) (s : Text) → left ≤ k → left ≤ length s → inside st n k left s ≡ record { parts = []; stage = st; to = n + left }
past_all st n k zero s l m = (let e : n + 0 ≡ n = omega arith in rw e refl)
past_all st n zero (suc left) s l m = absurd (omega arith)
past_all st n (suc k) (suc left) [] l m = absurd (omega arith)
past_all st n (suc k) (suc left) (b ∷ s) l m = (let e : n + suc left ≡ suc n + left = omega arith in rw e (past_all st (suc n) k left s (omega arith) (omega arith)))

-- from a text's index on, k bytes further or to the end
further : (st : Stage) (at k end to : ℕ) (x : Text) → at ≤ end → end ≤ length x → to ≡ min (at + k) end → inside st at k (end - at) (drop at x) ≡ inside st to 0 (end - to) (drop to x)
further st at k end to x l m e = by (nat_le (at + k) end) refl
  where
    size : end - at ≤ length (drop at x)
    size = omega (arith, length-drop at x)

    by : (t : Bool) → nat_le (at + k) end ≡ t → inside st at k (end - at) (drop at x) ≡ inside st to 0 (end - to) (drop to x)
    by true t =
        let g : at + k ≤ end = leb-true (at + k) end t in
        let f : at + k ≡ to = omega arith in
        let h : (end - at) - k ≡ end - to = omega arith in
        let d : drop k (drop at x) ≡ drop to x = drop_more at k x ∙ ap (λ (n : ℕ). drop n x) f in
        past_some st at k (end - at) (drop at x) (omega arith) size ∙ (λ i. inside st (f i) 0 (h i) (d i))
    by false t =
        let g : end < at + k = leb-false (at + k) end t in
        let f : at + (end - at) ≡ to = omega arith in
        let h : 0 ≡ end - to = omega arith in
        past_all st at k (end - at) (drop at x) (omega arith) size
        ∙ ap (λ (n : ℕ). record { parts = []; stage = st; to = n }) f
        ∙ ap (λ (left : ℕ). inside st to 0 left (drop to x)) h

-- ---- a part

-- the first of a text's parts
first_is : (b : ℕ) (bs : Text) (p : Part) (ps : List Part) → parts (b ∷ bs) ≡ p ∷ ps → part_at b bs ≡ p
first_is b bs p ps e = same_head (part_at b bs) p (parts_at (length (part_bytes (part_at b bs)) - 1) bs) ps e
  where
    same_head : (p q : Part) (ps qs : List Part) → p ∷ ps ≡ q ∷ qs → p ≡ q
    same_head p q ps qs e = cc

at_index : (at : ℕ) (x : Text) (b : ℕ) (s : Text) → drop at x ≡ b ∷ s → (get_or x at 0 ≡ b) × (drop (suc at) x ≡ s)
at_index zero [] b s e = absurd cc
at_index zero (c ∷ x) b s e = (cc, cc)
at_index (suc at) [] b s e = absurd cc
at_index (suc at) (c ∷ x) b s e = at_index at x b s e

-- where this is the part in front, it is the part of the algorithm here
record Here (at end : ℕ) (x : Text) (p : code_part.Part) : Type 0 where
  byte : ℕ
  rest : Text
  is : drop at x ≡ byte ∷ rest
  part : Part
  of_class : part_of p.class (take p.len (part_rest at end x)) ≡ part
  inner : inner_part (end - suc at) byte rest ≡ part
  size : length (part_bytes part) ≡ p.len

rest_is : (at end : ℕ) (x : Text) (b : ℕ) (s : Text) → at < end → drop at x ≡ b ∷ s → part_rest at end x ≡ b ∷ (if nat_eq b 34 then s else take (end - suc at) s)
rest_is at end x b s l e = by (nat_eq b 34) refl
  where
    here : get_or x at 0 ≡ b
    here = (at_index at x b s e).0

    left : end - at ≡ suc (end - suc at)
    left = omega arith

    by : (t : Bool) → nat_eq b 34 ≡ t → part_rest at end x ≡ b ∷ (if nat_eq b 34 then s else take (end - suc at) s)
    by true t = rw (here, t) e
    by false t = rw (here, t, left, e) refl

here_found : (at end : ℕ) (x : Text) (p : code_part.Part) → at < end → end ≤ length x → Some p ≡ front (part_rest at end x) → (b : ℕ) (s : Text) → drop at x ≡ b ∷ s → Here at end x p
here_found at end x p l m e b s d =
    let r = rest_is at end x b s l d in
    let f = found (part_rest at end x) p e in
    let u = if nat_eq b 34 then s else take (end - suc at) s in
    let cut : parts (b ∷ u) ≡ f.part ∷ parts (drop p.len (part_rest at end x)) = ap parts (sym r) ∙ f.cut in
    record {
      byte = b;
      rest = s;
      is = d;
      part = f.part;
      of_class = f.is;
      inner = first_is b u f.part (parts (drop p.len (part_rest at end x))) cut;
      size = ap length f.bytes ∙ length-take-le p.len (part_rest at end x) f.within;
    }

some_byte : (at : ℕ) (x : Text) → at < length x → (b : ℕ) × (s : Text) × (drop at x ≡ b ∷ s)
some_byte zero [] l = absurd (omega arith)
some_byte zero (b ∷ x) l = (b, x, refl)
some_byte (suc at) [] l = absurd (omega arith)
some_byte (suc at) (b ∷ x) l = some_byte at x (omega arith)

-- the walk takes that part, and goes on behind it
pub one_part : (st : Stage) (at end to : ℕ) (x : Text) (p : code_part.Part) → at < end → end ≤ length x → is_past st ≡ false → Some p ≡ front (part_rest at end x) → to ≡ min (at + p.len) end
    → (q : Part) × (part_of p.class (take p.len (part_rest at end x)) ≡ q) × (length (part_bytes q) ≡ p.len)
    × (inside st at 0 (end - at) (drop at x) ≡ with_part (at, q) (inside (after_part st (kind_in q)) to 0 (end - to) (drop to x)))
one_part st at end to x p l m goes e t =
    let c = some_byte at x (omega arith) in
    let h = here_found at end x p l m e c.0 c.1 c.2 in
    let f = found (part_rest at end x) p e in
    let some : 0 < p.len = f.some in
    let left : end - at ≡ suc (end - suc at) = omega arith in
    let dropped : h.rest ≡ drop (suc at) x = sym (at_index at x h.byte h.rest h.is).1 in
    let size : length (part_bytes h.part) - 1 ≡ p.len - 1 = ap (λ (n : ℕ). n - 1) h.size in
    let one = unfolded st at (end - suc at) h.byte h.rest goes in
    let on : inside (after_part st (kind_in h.part)) (suc at) (p.len - 1) (end - suc at) (drop (suc at) x) ≡ inside (after_part st (kind_in h.part)) to 0 (end - to) (drop to x) =
    further (after_part st (kind_in h.part)) (suc at) (p.len - 1) end to x (omega arith) m (omega arith) in (
      h.part,
      h.of_class,
      h.size,
      (λ i. inside st at 0 (left i) (h.is i))
          ∙ one
          ∙ ap (λ (q : Part). with_part (at, q) (inside (after_part st (kind_in q)) (suc at) (length (part_bytes q) - 1) (end - suc at) h.rest)) h.inner
          ∙ ap (with_part (at, h.part)) ((λ i. inside (after_part st (kind_in h.part)) (suc at) (size i) (end - suc at) (dropped i)) ∙ on),
    )
  where
    unfolded : (st : Stage) (n left b : ℕ) (s : Text) → is_past st ≡ false
        → inside st n 0 (suc left) (b ∷ s)
        ≡ with_part (n, inner_part left b s) (inside (after_part st (kind_in (inner_part left b s))) (suc n) (length (part_bytes (inner_part left b s)) - 1) left s)
    unfolded st n left b s h = rw h refl

-- ---- what is known there

known_on : (w n at end to : ℕ) (x : Text) → at ≤ end → end ≤ length x → to ≡ min (at + n) end → IsWordless w (stretch x at end) → IsWordless (w - n) (stretch x to end)
known_on w n at end to x l m e h =
    let P : Text → Type 0 = λ u. IsWordless w u in
    let Q : Text → Type 0 = λ u. IsWordless (w - n) u in
    subst Q (same (nat_le (at + n) end) refl) (wordless_on w n at (take end x) (subst P (sym (stretch_is x at end m)) h))
  where
    size : length (take end x) ≡ end
    size = length-take-le end x m

    same : (t : Bool) → nat_le (at + n) end ≡ t → drop (at + n) (take end x) ≡ stretch x to end
    same true t =
        let g : at + n ≤ end = leb-true (at + n) end t in
        let f : at + n ≡ to = omega arith in
        ap (λ (k : ℕ). drop k (take end x)) f ∙ stretch_is x to end m
    same false t =
        let g : end < at + n = leb-false (at + n) end t in
        let f : to ≡ end = omega arith in
        drop_all (at + n) (take end x) (omega (arith, size)) ∙ sym (drop_all to (take end x) (omega (arith, size))) ∙ stretch_is x to end m

-- ---- one part further

pub passes : (x : Text) (end : ℕ) (s t : code_inside.Inside) (before after : List Bool) (p : code_part.Part) (bytes : Text)
    → IsInside x end s
    → s.at < end
    → end ≤ length x
    → is_past (stage_seen s.stage) ≡ false
    → Some p ≡ front (part_rest s.at end x)
    → bytes ≡ take p.len (part_rest s.at end x)
    → t.at ≡ min (s.at + p.len) end
    → stage_seen t.stage ≡ after_part (stage_seen s.stage) (kind_in (part_of p.class bytes))
    → depth t.stage ≤ 1 + depth s.stage
    → t.wordless ≡ s.wordless - p.len
    → t.fault ≡ joined s.fault (least (filter is_splitting (part_offences true s.at (part_of p.class bytes))))
    → length after ≡ length before
    → ((k : ℕ) → get_or after k false ≡ (get_or before k false || (is_some (kind_in (part_of p.class bytes)) && (nat_le s.at k && nat_lt k (s.at + p.len)))))
    → Passes x end s t before after
passes x end s t before after p bytes here l m goes e is at stage deep known fault size marks =
    let f = found (part_rest s.at end x) p e in
    let some : 0 < p.len = f.some in
    let o = one_part (stage_seen s.stage) s.at end t.at x p l m goes e at in
    let q = o.0 in
    let same : part_of p.class bytes ≡ q = ap (part_of p.class) is ∙ o.1 in
    let w : IsWordless (s.wordless - p.len) (stretch x t.at end) = known_on s.wordless p.len s.at end t.at x here.within m at here.wordless in
    let shallow : depth s.stage ≤ s.at = here.shallow in
    let P : ℕ → Type 0 = λ n. IsWordless n (stretch x t.at end) in
    record {
      here = record { within = omega arith; shallow = omega arith; wordless = subst P (sym known) w };
      further = omega arith;
      part = q;
      found = o.3 ∙ ap (λ (st : Stage). with_part (s.at, q) (inside st t.at 0 (end - t.at) (drop t.at x))) (sym (stage ∙ ap (λ (y : Part). after_part (stage_seen s.stage) (kind_in y)) same));
      fault = fault ∙ ap (λ (y : Part). joined s.fault (least (filter is_splitting (part_offences true s.at y)))) same;
      size = size;
      marked = λ k. marks k ∙ (λ i. get_or before k false || (is_some (kind_in (same i)) && (nat_le s.at k && nat_lt k (s.at + sym o.2 i))));
    }

-- ---- so far

-- what is found in all is the same from s on as from t on
pub record Follows (x : Text) (end : ℕ) (s t : code_inside.Inside) (before after : List Bool) : Type 0 where
  pub to : (from_here x end t).to ≡ (from_here x end s).to
  pub stage : (from_here x end t).stage ≡ (from_here x end s).stage
  pub fault : joined t.fault (least (filter is_splitting (inner_offences (from_here x end t).parts))) ≡ joined s.fault (least (filter is_splitting (inner_offences (from_here x end s).parts)))
  pub marked : (k : ℕ) → (get_or after k false || in_tokens (from_here x end t).parts k) ≡ (get_or before k false || in_tokens (from_here x end s).parts k)

pub follows_start : (x : Text) (end : ℕ) (s : code_inside.Inside) (before : List Bool) → Follows x end s s before before
follows_start x end s before = record { to = refl; stage = refl; fault = refl; marked = λ k. refl }

first_fault : (n : ℕ) (p : Part) (ps : List IndexedPart) → least (filter is_splitting (inner_offences ((n, p) ∷ ps))) ≡ joined (least (filter is_splitting (part_offences true n p))) (least (filter is_splitting (inner_offences ps)))
first_fault n p ps =
    let rest = flat_map (λ (p : IndexedPart). part_offences true p.0 p.1) ps in
    ap least (filter-append is_splitting (part_offences true n p) rest) ∙ least_append (filter is_splitting (part_offences true n p)) (filter is_splitting rest)

or_more : (a b c : Bool) → ((a || b) || c) ≡ (a || (b || c))
or_more true b c = refl
or_more false b c = refl

pub follows_on : (x : Text) (end : ℕ) (a s t : code_inside.Inside) (first before after : List Bool) → Follows x end a s first before → Passes x end s t before after → Follows x end a t first after
follows_on x end a s t first before after f p =
    let rest = (from_here x end t).parts in
    record {
      to = ap (λ (i : Inside). i.to) (sym p.found) ∙ f.to;
      stage = ap (λ (i : Inside). i.stage) (sym p.found) ∙ f.stage;
      fault =
          ap (λ (o : Option Offence). joined o (least (filter is_splitting (inner_offences rest)))) p.fault
          ∙ joined_assoc s.fault (least (filter is_splitting (part_offences true s.at p.part))) (least (filter is_splitting (inner_offences rest)))
          ∙ ap (joined s.fault) (sym (first_fault s.at p.part rest))
          ∙ ap (λ (i : Inside). joined s.fault (least (filter is_splitting (inner_offences i.parts)))) (sym p.found)
          ∙ f.fault;
      marked = λ k.
          ap (λ (m : Bool). m || in_tokens rest k) (p.marked k)
          ∙ or_more (get_or before k false) (is_token_byte k (s.at, p.part)) (in_tokens rest k)
          ∙ ap (λ (i : Inside). get_or before k false || in_tokens i.parts k) (sym p.found)
          ∙ f.marked k;
    }

-- what is known of words changes nothing
pub follows_known : (x : Text) (end : ℕ) (a s t : code_inside.Inside) (first after : List Bool) → t.at ≡ s.at → t.stage ≡ s.stage → t.fault ≡ s.fault → Follows x end a s first after → Follows x end a t first after
follows_known x end a s t first after at stage fault f =
    let same : from_here x end t ≡ from_here x end s = (λ i. inside (stage_seen (stage i)) (at i) 0 (end - at i) (drop (at i) x)) in
    record {
      to = ap (λ (i : Inside). i.to) same ∙ f.to;
      stage = ap (λ (i : Inside). i.stage) same ∙ f.stage;
      fault = (λ j. joined (fault j) (least (filter is_splitting (inner_offences (same j).parts)))) ∙ f.fault;
      marked = λ k. ap (λ (i : Inside). get_or after k false || in_tokens i.parts k) same ∙ f.marked k;
    }

-- ---- the end

none_more : (x : Text) (end : ℕ) (s : code_inside.Inside) → from_here x end s ≡ record { parts = []; stage = stage_seen s.stage; to = s.at } → (first after : List Bool) (a : code_inside.Inside) → Follows x end a s first after
    → Reaches x end a s first after
none_more x end s e first after a f = record {
  to = ap (λ (i : Inside). i.to) (sym e) ∙ f.to;
  stage = ap (λ (i : Inside). i.stage) (sym e) ∙ f.stage;
  fault = sym (joined_none s.fault) ∙ ap (λ (i : Inside). joined s.fault (least (filter is_splitting (inner_offences i.parts)))) (sym e) ∙ f.fault;
  marked = λ k. sym (or_none (get_or after k false)) ∙ ap (λ (i : Inside). get_or after k false || in_tokens i.parts k) (sym e) ∙ f.marked k;
}
  where
    or_none : (b : Bool) → (b || false) ≡ b
    or_none true = refl
    or_none false = refl

pub at_comment_end : (x : Text) (end : ℕ) (a s : code_inside.Inside) (first after : List Bool) → end ≤ s.at → Follows x end a s first after → Reaches x end a s first after
at_comment_end x end a s first after l f =
    let none : end - s.at ≡ 0 = omega arith in
    none_more x end s (ap (λ (left : ℕ). inside (stage_seen s.stage) s.at 0 left (drop s.at x)) none) first after a f

past_stage : (st : Stage) (n left : ℕ) (s : Text) → is_past st ≡ true → inside st n 0 left s ≡ record { parts = []; stage = st; to = n }
past_stage st n zero s h = refl
past_stage st n (suc left) [] h = refl
past_stage st n (suc left) (b ∷ s) h = rw h refl

pub at_end : (x : Text) (end : ℕ) (a s : code_inside.Inside) (first after : List Bool) → is_past (stage_seen s.stage) ≡ true → Follows x end a s first after → Reaches x end a s first after
at_end x end a s first after h f = none_more x end s (past_stage (stage_seen s.stage) s.at (end - s.at) (drop s.at x) h) first after a f

-- ---- marks

pub marked_token : (before new after : List Bool) (at to k : ℕ) (b : Bool) → after ≡ new → get_or new k false ≡ (get_or before k false || (nat_le at k && nat_lt k to)) → true ≡ b
    → get_or after k false ≡ (get_or before k false || (b && (nat_le at k && nat_lt k to)))
marked_token before new after at to k b same is t = ap (λ (m : List Bool). get_or m k false) same ∙ is ∙ ap (λ (b : Bool). get_or before k false || (b && (nat_le at k && nat_lt k to))) t

pub marked_other : (before after : List Bool) (at to k : ℕ) (b : Bool) → after ≡ before → false ≡ b → get_or after k false ≡ (get_or before k false || (b && (nat_le at k && nat_lt k to)))
marked_other before after at to k b same t =
    ap (λ (m : List Bool). get_or m k false) same ∙ no_more (get_or before k false) ∙ ap (λ (b : Bool). get_or before k false || (b && (nat_le at k && nat_lt k to))) t
  where
    no_more : (b : Bool) → b ≡ (b || false)
    no_more true = refl
    no_more false = refl

pub some_there : (at end : ℕ) (x : Text) → at < end → end ≤ length x → None ≡ front (part_rest at end x) → ⊥
some_there at end x l m e =
    let c = some_byte at x (omega arith) in
    let r = rest_is at end x c.0 c.1 l c.2 in
    let n = ap length r in
    let z = nothing_found (part_rest at end x) e in
    omega (arith, n, z)

-- ---- from its first words on

-- the algorithm that begins in these bytes of a comment
pub opened_within : (x : Text) (from end : ℕ) → end ≤ length x → begins_algorithm (stretch x from end) ≡ true → (from + length (opening (drop from x)) ≤ end) × (is_fair (drop from x) ≡ is_fair (stretch x from end))
opened_within x from end l h =
    let u = stretch x from end in
    let o = opened u h in
    let rest = drop (end - from) (drop from x) in
    let whole : drop from x ≡ u ++ rest = sym (take-append-drop (end - from) (drop from x)) in
    let fair : is_fair (drop from x) ≡ is_fair u = ap is_fair whole ∙ o.more rest in
    let same : opening (drop from x) ≡ opening u = ap (λ (k : Bool). if k then codes "--fair" else codes "--algorithm") fair in
    let size : length u ≡ length (opening u) + length o.rest = ap length o.is ∙ length-append (opening u) o.rest in
    let some : 0 < length (opening u) = opening_some (is_fair u) refl in
    let bound : length u ≤ end - from = length-take-le-n (end - from) (drop from x) in
    let words : length (opening (drop from x)) ≡ length (opening u) = ap length same in
    (omega arith, fair)
  where
    length-take-le-n : (n : ℕ) (xs : Text) → length (take n xs) ≤ n
    length-take-le-n zero xs = omega arith
    length-take-le-n (suc n) [] = omega arith
    length-take-le-n (suc n) (b ∷ xs) = (let d = length-take-le-n n xs in omega arith)

    opening_some : (k : Bool) → is_fair (stretch x from end) ≡ k → 0 < length (opening (stretch x from end))
    opening_some true k = rw k (omega arith)
    opening_some false k = rw k (omega arith)

-- where the walk over it begins
pub starts_fair : (x : Text) (from end at : ℕ) (st : code_stage.Stage) → end ≤ length x → begins_algorithm (stretch x from end) ≡ true → true ≡ is_fair (drop from x) → at ≡ from + 6 → st ≡ code.Head 1
    → (at ≤ end) × (inside (stage_seen st) at 0 (end - at) (drop at x) ≡ (algorithm_at from (end - from) (drop from x)).rest)
starts_fair x from end at st l h f e g =
    let o = opened_within x from end l h in
    let k : is_fair (drop from x) ≡ true = sym f in
    let size : from + 6 ≤ end = rw k at o.0 in
    let left : end - at ≡ (end - from) - 6 = omega arith in
    let rest : drop at x ≡ drop 6 (drop from x) = ap (λ (n : ℕ). drop n x) e ∙ sym (drop_more from 6 x) in
    (omega arith, (λ i. inside (stage_seen (g i)) (e i) 0 (left i) (rest i)) ∙ rw k refl)

pub starts_plain : (x : Text) (from end at : ℕ) (st : code_stage.Stage) → end ≤ length x → begins_algorithm (stretch x from end) ≡ true → false ≡ is_fair (drop from x) → at ≡ from + 11 → st ≡ code.Head 0
    → (at ≤ end) × (inside (stage_seen st) at 0 (end - at) (drop at x) ≡ (algorithm_at from (end - from) (drop from x)).rest)
starts_plain x from end at st l h f e g =
    let o = opened_within x from end l h in
    let k : is_fair (drop from x) ≡ false = sym f in
    let size : from + 11 ≤ end = rw k at o.0 in
    let left : end - at ≡ (end - from) - 11 = omega arith in
    let rest : drop at x ≡ drop 11 (drop from x) = ap (λ (n : ℕ). drop n x) e ∙ sym (drop_more from 11 x) in
    (omega arith, (λ i. inside (stage_seen (g i)) (e i) 0 (left i) (rest i)) ∙ rw k refl)

-- so many words before the name, and so many bytes of the first
pub record Started (x : Text) (from end : ℕ) (words : ℕ × ℕ) : Type 0 where
  pub within : from + words.1 ≤ end
  pub rest : inside (head words.0) (from + words.1) 0 (end - (from + words.1)) (drop (from + words.1) x) ≡ (algorithm_at from (end - from) (drop from x)).rest

pub fair_started : (x : Text) (from end : ℕ) (words : ℕ × ℕ) → end ≤ length x → begins_algorithm (stretch x from end) ≡ true → true ≡ is_fair (drop from x) → words ≡ (1, 6) → Started x from end words
fair_started x from end words l h f e =
    let s = starts_fair x from end (from + words.1) (code.Head words.0) l h f (ap (λ (w : ℕ × ℕ). from + w.1) e) (ap (λ (w : ℕ × ℕ). code.Head w.0) e) in
    record { within = s.0; rest = s.1 }

pub plain_started : (x : Text) (from end : ℕ) (words : ℕ × ℕ) → end ≤ length x → begins_algorithm (stretch x from end) ≡ true → false ≡ is_fair (drop from x) → words ≡ (0, 11) → Started x from end words
plain_started x from end words l h f e =
    let s = starts_plain x from end (from + words.1) (code.Head words.0) l h f (ap (λ (w : ℕ × ℕ). from + w.1) e) (ap (λ (w : ℕ × ℕ). code.Head w.0) e) in
    record { within = s.0; rest = s.1 }

pub nothing_known : (x : Text) (from end : ℕ) (words : ℕ × ℕ) (f : Option Offence) → Started x from end words → IsInside x end (record { at = from + words.1; stage = code.Head words.0; wordless = 0; fault = f })
nothing_known x from end words f s = record { within = s.within; shallow = omega arith; wordless = none_known (stretch x (from + words.1) end) }
  where
    none_known : (t : Text) → IsWordless 0 t
    none_known t = (omega arith, λ l. absurd (omega arith))

pub none_marked : (first after : List Bool) (b : Bool) (k : ℕ) → get_or first k false ≡ false → get_or after k false ≡ (get_or first k false || b) → get_or after k false ≡ b
none_marked first after b k n e = e ∙ ap (λ (c : Bool). c || b) n
