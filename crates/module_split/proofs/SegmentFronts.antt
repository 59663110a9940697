-- What is in front of a text in a file, by the tests that code makes.
use Rattle.std.proofs.Common.{◌≡◌, ℕ, ◌+◌, ◌<◌, ◌||◌, Bool, true, false, nat_eq, [], ◌∷◌, ◌++◌, length, drop, Option, Some, None, refl, sym, ap, ◌∙◌, arith, not, ◌≤◌, length-append, length-drop}
use Rattle.std.specs.Prelude.{if◌then◌else◌}
use Rattle.tla_token.specs.declared.part.Part as code
use Rattle.tla_token.specs.Scan as parts
use Rattle.module_split.specs.declared.stand.Shape.TheVariants as shape
use Rattle.module_split.specs.declared.walk.Front.{Front}
use Rattle.module_tree.specs.TextFront.{Text, line_here, whole_line}
use Rattle.module_tree.specs.HeaderAndRegion.{is_header, is_begin, is_end}
use Rattle.module_tree.specs.Beginnings.{ends_module}
use Rattle.module_tree.specs.ModuleParts.{module_part}
use Rattle.module_tree.specs.Walk.{Segment, region, State, in_module, segment_at}
use Rattle.module_split.specs.Walking.{outline, front_of, end_at}
use Rattle.module_split.proofs.EndLine.{end_parts, end_is, end_none}
use Rattle.module_tree.proofs.LineLengths.{run_within}
use Rattle.module_tree.proofs.WalkWhole.{region_front as region_at}

abbrev marks : ℕ → Option Front
marks n = Some (record { shape = shape.Mark; len = n })

-- ---- before the module

pub header_front : (st : State) (t : Text) (n : ℕ) → st.headed ≡ false → is_header t ≡ true → n ≡ length (whole_line t) → Some (record { shape = shape.Header; len = n }) ≡ front_of (segment_at st) t
header_front st [] n h k e = absurd cc
header_front st (b ∷ s) n h k e = rw (h, k) (ap (λ (m : ℕ). Some (record { shape = shape.Header; len = m })) e)

pub free_front : (st : State) (t : Text) (n : ℕ) → 0 < length t → st.headed ≡ false → is_header t ≡ false → n ≡ length (whole_line t) → Some (record { shape = shape.Free; len = n }) ≡ front_of (segment_at st) t
free_front st [] n l h k e = absurd (omega arith)
free_front st (b ∷ s) n l h k e = rw (h, k) (ap (λ (m : ℕ). Some (record { shape = shape.Free; len = m })) e)

pub nothing_front : (f : ℕ → Text → Segment) (t : Text) → length t ≡ 0 → None ≡ front_of f t
nothing_front f [] l = refl
nothing_front f (b ∷ s) l = absurd (omega arith)

-- ---- in the module

pub headed_front : (st : State) (t : Text) → st.headed ≡ true → front_of (in_module st.marked (nat_eq st.place.col 1)) t ≡ front_of (segment_at st) t
headed_front st [] h = refl
headed_front st (b ∷ s) h = rw h refl

-- where no region is sought
pub not_sought : (marked endless : Bool) (t : Text) → (marked || endless) ≡ true → (endless ≡ true → end_at false t ≡ None) → None ≡ (if marked then None else end_at false t)
not_sought true endless t e h = refl
not_sought false endless t e h = sym (h e)

pub region_front : (marked : Bool) (t : Text) (n l : ℕ) → is_begin t ≡ true → Some n ≡ (if marked then None else end_at false t) → l ≡ length (line_here (drop n t))
    → front_of (in_module marked true) t ≡ Some (record { shape = shape.Region n; len = n + l })
region_front true t n l k e h = absurd cc
region_front false [] n l k e h = absurd cc
region_front false (b ∷ s) n l k e h =
    let p = end_parts false (b ∷ s) n e in
    let is : in_module false true b s ≡ region p.0 p.1 = rw (k, p.2) refl in
    let last : length p.1 ≡ l = ap length (end_is false (b ∷ s) p.0 p.1 p.2) ∙ ap (λ (m : ℕ). length (line_here (drop m (b ∷ s)))) (sym p.3) ∙ sym h in
    let size : length (p.0 ++ p.1) ≡ n + l = length-append p.0 p.1 ∙ ap (λ (m : ℕ). length p.0 + m) last ∙ ap (λ (m : ℕ). m + l) (sym p.3) in
    ap (λ (g : Segment). Some (outline g)) is ∙ (λ i. Some (record { shape = shape.Region (sym p.3 i); len = size i }))

pub begin_front : (marked : Bool) (t : Text) (n : ℕ) → is_begin t ≡ true → None ≡ (if marked then None else end_at false t) → n ≡ length (line_here t) → front_of (in_module marked true) t ≡ marks n
begin_front marked [] n k e h = absurd cc
begin_front true (b ∷ s) n k e h = rw k (ap marks (sym h))
begin_front false (b ∷ s) n k e h = (let o = end_none false (b ∷ s) e in rw (k, o) (ap marks (sym h)))

pub end_front : (marked : Bool) (t : Text) (n : ℕ) → is_begin t ≡ false → is_end t ≡ true → n ≡ length (line_here t) → front_of (in_module marked true) t ≡ marks n
end_front marked [] n i j h = absurd cc
end_front marked (b ∷ s) n i j h = rw (i, j) (ap marks (sym h))

pub inner_front : (marked : Bool) (t : Text) (n : ℕ) → is_begin t ≡ false → is_end t ≡ false → is_header t ≡ true → n ≡ length (line_here t)
    → front_of (in_module marked true) t ≡ Some (record { shape = shape.Inner; len = n })
inner_front marked [] n i j k h = absurd cc
inner_front marked (b ∷ s) n i j k h = rw (i, j, k) (ap (λ (m : ℕ). Some (record { shape = shape.Inner; len = m })) (sym h))

pub unlined_front : (marked : Bool) (t : Text) → is_begin t ≡ false → is_end t ≡ false → is_header t ≡ false → front_of (in_module marked true) t ≡ front_of (in_module marked false) t
unlined_front marked [] i j k = refl
unlined_front marked (b ∷ s) i j k = rw (i, j, k) refl

pub tail_front : (marked : Bool) (t : Text) (n : ℕ) → ends_module t ≡ true → n ≡ length t → Some (record { shape = shape.Tail; len = n }) ≡ front_of (in_module marked false) t
tail_front marked [] n k e = absurd cc
tail_front marked (b ∷ s) n k e = rw k (ap (λ (m : ℕ). Some (record { shape = shape.Tail; len = m })) e)

pub part_front : (marked : Bool) (t : Text) (p : code.Part) → ends_module t ≡ false → Some p ≡ parts.front_by module_part t → Some (record { shape = shape.Part p.class; len = p.len }) ≡ front_of (in_module marked false) t
part_front marked [] p k e = absurd cc
part_front marked (b ∷ s) p k e =
    let q : p ≡ parts.outline (module_part b s) = cc in
    rw k (ap (λ (p : code.Part). Some (record { shape = shape.Part p.class; len = p.len })) q)

pub no_part : (marked : Bool) (t : Text) → None ≡ parts.front_by module_part t → None ≡ front_of (in_module marked false) t
no_part marked [] e = refl
no_part marked (b ∷ s) e = absurd cc

pub region_within : (marked : Bool) (t : Text) (n : ℕ) → Some n ≡ (if marked then None else end_at false t) → n ≤ length t
region_within true t n e = absurd cc
region_within false t n e = (let p = end_parts false t n e in let f = region_at t false p.0 p.1 p.2 in rw p.3 (omega (arith, ap length f.1, length-append (p.0 ++ p.1) f.0, length-append p.0 p.1)))

-- a region's line ends within the text
pub region_ends : (marked : Bool) (t : Text) (n l : ℕ) → Some n ≡ (if marked then None else end_at false t) → l ≡ length (line_here (drop n t)) → n + l ≤ length t
region_ends marked t n l e h =
    let w = region_within marked t n e in
    let r = run_within (λ b. not (nat_eq b 10)) (drop n t) in
    omega (arith, length-drop n t)
