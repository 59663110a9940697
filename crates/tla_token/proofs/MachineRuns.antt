-- What the machine gives for a text in pieces are the parts of the whole text.
use Rattle.std.proofs.Common.{◌≡◌, ℕ, suc, ◌+◌, ◌<◌, Bool, true, false, ◌||◌, nat_eq, inl, inr, List, [], ◌∷◌, ◌++◌, length, drop, Option, Some, None, refl, sym, ap, subst, ◌∙◌, arith, append_assoc, append-nil, length-append}
use Rattle.std.specs.List.{concat, list_all, list_any}
use Rattle.std.proofs.Math.Seq.{drop-append_seam}
use Rattle.std.proofs.lemmas.Bool.{and_parts, and_from, or_left}
use Rattle.tla_token.specs.declared.part.Class.TheVariants as class
use Rattle.tla_token.specs.declared.part.Part as code
use Rattle.tla_token.specs.Lexemes.{name, is_word, is_letter}
use Rattle.tla_token.specs.Tokens.{line, lexeme, opens_comment}
use Rattle.tla_token.specs.Offences.{Part, sound, open_string, open_block, part_bytes, PartFits}
use Rattle.tla_token.specs.Cut.{part_at, parts, plus, comment_len}
use Rattle.tla_token.specs.Scan.{outline, first_by}
use Rattle.tla_token.specs.Feeding.{is_settled, is_open, is_open_word, IsKept}
use Rattle.tla_token.specs.laws.Machine.{outlines, Open, fresh, mark, wordless, word, back, text, block, line as rest_of_line, State, only, marks, Step, given, one_part, begin, begun, next, again, settled, step, at_end, stop, run_on, run_all}
use Rattle.tla_token.proofs.Front.{closes_len}
use Rattle.tla_token.proofs.Parted.{some_part, cut_back}
use Rattle.tla_token.proofs.Cutting.{Cut, front_cut}
use Rattle.tla_token.proofs.Before.{word_before}
use Rattle.tla_token.proofs.MachineStays.{unpassed_fits, settled_unpassed, begins_quoted}
use Rattle.tla_token.proofs.MachineApart.{word_apart}
use Rattle.tla_token.proofs.MachineStands.{len_behind, last_byte, Texts, Blocks, Lines, Holds, Stands, Goes, waits, joins, first_off, begun_goes}
use Rattle.tla_token.proofs.MachineGoes.{wordless_goes, word_goes, mark_goes, back_goes}
use Rattle.tla_token.proofs.MachineTexts.{text_goes}
use Rattle.tla_token.proofs.MachineComments.{block_goes, line_goes}

-- ---- one byte

-- from the bytes for which a state stands, with one more
moved : (w v : List ℕ) (b : ℕ) (r : Step) → w ≡ v → Goes (v ++ b ∷ []) r → Goes (w ++ b ∷ []) r
moved w v b r e g = (let P : List ℕ → Type 0 = λ u. Goes (u ++ b ∷ []) r in subst P (sym e) g)

next_goes : (s : Open) (w : List ℕ) (b : ℕ) → Holds s w → Goes (w ++ b ∷ []) (next s b)
next_goes fresh w b e = moved w [] b (begun b) e (begun_goes b)
next_goes (mark a) w b (e, quote, no_word, slash) = moved w (a ∷ []) b (next (mark a) b) e (mark_goes a b quote no_word slash)
next_goes (wordless v) w b (e, all) = moved w v b (next (wordless v) b) e (wordless_goes v b all)
next_goes (word n) w b h = word_goes n w b h
next_goes (back v) w b (e, all) = moved w (92 ∷ v) b (next (back v) b) e (back_goes v b all)
next_goes (text n good escaped) w b h = text_goes n good escaped w b h
next_goes (block n d last) w b h = block_goes n d last w b h
next_goes (rest_of_line n) w b h = line_goes n w b h

again_goes : (r : List ℕ) → length r < 3 → Goes r (again r)
again_goes [] l = waits [] (only fresh) refl
again_goes (x ∷ []) l = begun_goes x
again_goes (x ∷ y ∷ []) l =
    let g = begun_goes x in
    joins (x ∷ []) (y ∷ []) g.pending (begin x).0 (next (begin x).1 y) (λ t. g.seen (y ∷ t)) (next_goes (begin x).1 g.pending y g.stands)
again_goes (x ∷ y ∷ z ∷ r) l = absurd (omega arith)

shorter : (m r : List ℕ) → (m ≡ [] → ⊥) → length (m ++ r) ≡ 3 → length r < 3
shorter [] r some e = absurd (some refl)
shorter (b ∷ m) r some e = omega (arith, length-append m r)

-- the first part of three bytes that are settled
settled_goes : (u : List ℕ) → length u ≡ 3 → opens_comment u ≡ false → begins_quoted u ≡ false → is_settled u ≡ true → Cut u → Goes u (settled (first_by part_at u) u)
settled_goes u l o q s c =
    let x = c.part in
    let r = c.rest in
    let IsWhole : List ℕ → Type 0 = λ v. (opens_comment v ≡ false) × (begins_quoted v ≡ false) × (is_settled v ≡ true) in
    let h = subst IsWhole c.bytes (o, q, s) in
    let size = shorter (part_bytes x) r (some_part x r c.fits) (ap length (sym c.bytes) ∙ l) in
    let g = joins (part_bytes x) r [] (outline x ∷ []) (again r)
    (λ t. first_off x (r ++ t) (unpassed_fits x r t c.fits h.0 h.1 (settled_unpassed (part_bytes x ++ r) t h.2))) (again_goes r size) in
    let d : r ≡ drop (length (part_bytes x)) u = sym (ap (drop (length (part_bytes x))) c.bytes ∙ drop-append_seam (part_bytes x) r) in
    let P : List ℕ → Type 0 = λ v. Goes v (given (outline x ∷ []) (again r)) in
    let Q : List ℕ → Type 0 = λ v. Goes u (given (outline x ∷ []) (again v)) in
    let R : Option Part → Type 0 = λ p. Goes u (settled p u) in
    subst R (sym (first_is u c)) (subst Q d (subst P (sym c.bytes) g))
  where
    first_is : (u : List ℕ) → (c : Cut u) → first_by part_at u ≡ Some c.part
    first_is [] c = c.first
    first_is (b ∷ bs) c = c.first

step_goes : (s : State) (w : List ℕ) (b : ℕ) → Stands s w → Goes (w ++ b ∷ []) (step s b)
step_goes (only s) w b h = next_goes s w b h
step_goes (marks a c) w b (e, quote, none, settles) =
    moved w (a ∷ c ∷ []) b (step (marks a c) b) e (settled_goes (a ∷ c ∷ b ∷ []) refl none quote (settles b) (front_cut a (c ∷ b ∷ [])))

-- ---- all bytes of a piece

run_goes : (s : State) (w bytes : List ℕ) → Stands s w → Goes (w ++ bytes) (run_on s bytes)
run_goes s w [] h = (let P : List ℕ → Type 0 = λ u. Goes u ([], s) in subst P (sym (append-nil w)) (waits w s h))
run_goes s w (b ∷ bs) h =
    let g = step_goes s w b h in
    let P : List ℕ → Type 0 = λ u. Goes u (run_on s (b ∷ bs)) in
    subst P (append_assoc w (b ∷ []) bs) (joins (w ++ b ∷ []) bs g.pending (step s b).0 (run_on (step s b).1 bs) (λ t. g.seen (bs ++ t)) (run_goes (step s b).1 g.pending bs g.stands))

-- ---- the end

last_off : (x : Part) → PartFits x [] → outlines (part_bytes x) ≡ outline x ∷ []
last_off x f = ap outlines (sym (append-nil (part_bytes x))) ∙ first_off x [] f

name_last : (w : List ℕ) → list_all is_word w ≡ true → list_any is_letter w ≡ true → outlines w ≡ one_part class.Name (length w)
name_last [] all any = absurd cc
name_last (c ∷ l) all any =
    let a = word_apart (c ∷ l) [] all refl in
    last_off (sound (lexeme (name (c ∷ l)) (c ∷ l))) (a.2.0 a.0, (refl, (all, any)), word_before c l [] all refl)

nothing_behind : (escaped : Bool) → len_behind escaped [] ≡ 0
nothing_behind true = refl
nothing_behind false = refl

text_fits : (n : ℕ) (good escaped : Bool) (w : List ℕ) → (x : Texts n good escaped w) → PartFits (open_string x.raw) []
text_fits n good escaped w x = (x.len [] ∙ ap (λ (m : ℕ). length x.raw + m) (nothing_behind escaped) ∙ omega arith, refl)

text_last : (n : ℕ) (good escaped : Bool) (w : List ℕ) → Texts n good escaped w → one_part class.OpenText n ≡ outlines w
text_last n good escaped w x = ap (one_part class.OpenText) x.size ∙ sym (last_off (open_string x.raw) (text_fits n good escaped w x)) ∙ ap outlines (sym x.is)

unclosed : (d : ℕ) (last : Option ℕ) → comment_len (suc d) (last_byte last ++ []) ≡ None
unclosed d None = refl
unclosed d (Some a) = refl

block_fits : (n d : ℕ) (last : Option ℕ) (w : List ℕ) → (x : Blocks n d last w) → PartFits (open_block x.body) []
block_fits n d last w x =
    let none : comment_len 1 x.body ≡ None = ap (comment_len 1) (sym (append-nil x.body)) ∙ x.len [] ∙ ap (plus x.done) (unclosed d last) in
    (refl, λ m more s c. (let f : Some (length m) ≡ None = sym (closes_len 1 m more c) ∙ ap (comment_len 1) (sym s) ∙ none in cc))

block_last : (n d : ℕ) (last : Option ℕ) (w : List ℕ) → Blocks n d last w → one_part class.OpenBlock n ≡ outlines w
block_last n d last w x = ap (one_part class.OpenBlock) x.size ∙ sym (last_off (open_block x.body) (block_fits n d last w x)) ∙ ap outlines (sym x.is)

line_last : (n : ℕ) (w : List ℕ) → Lines n w → one_part class.Line n ≡ outlines w
line_last n w x = ap (one_part class.Line) x.size ∙ sym (last_off (sound (line x.body)) (x.all, tt)) ∙ ap outlines (sym x.is)

end_is : (s : Open) (w : List ℕ) → Holds s w → at_end s ≡ outlines w
end_is fresh w e = ap outlines (sym e)
end_is (mark a) w (e, quote, no_word, slash) = ap outlines (sym e)
end_is (wordless v) w (e, all) = ap outlines (sym e)
end_is (word n) w (size, all, any) = ap (one_part class.Name) size ∙ sym (name_last w all any)
end_is (back v) w (e, all) = ap outlines (sym e)
end_is (text n good escaped) w h = text_last n good escaped w h
end_is (block n d last) w h = block_last n d last w h
end_is (rest_of_line n) w h = line_last n w h

stop_is : (s : State) (w : List ℕ) → Stands s w → stop s ≡ outlines w
stop_is (only s) w h = end_is s w h
stop_is (marks a c) w h = ap outlines (sym h.0)

-- ---- all pieces

run_from : (s : State) (w : List ℕ) (pieces : List (List ℕ)) → Stands s w → run_all s pieces ≡ outlines (w ++ concat pieces)
run_from s w [] h = stop_is s w h ∙ ap outlines (sym (append-nil w))
run_from s w (p ∷ ps) h =
    let g = run_goes s w p h in
    ap (λ (qs : List code.Part). (run_on s p).0 ++ qs) (run_from (run_on s p).1 g.pending ps g.stands)
    ∙ sym (g.seen (concat ps))
    ∙ ap outlines (append_assoc w p (concat ps))

pub run_so : (pieces : List (List ℕ)) → run_all (only fresh) pieces ≡ outlines (concat pieces)
run_so pieces = run_from (only fresh) [] pieces refl

-- ---- what waits

alone : (x : Part) → PartFits x [] → is_open x ≡ true → (w : List ℕ) → w ≡ part_bytes x → IsKept w
alone x f o w e = inr (inr (x, ap parts (e ∙ sym (append-nil (part_bytes x))) ∙ cut_back (x ∷ []) (f, tt), o))

word_kept : (w : List ℕ) → list_all is_word w ≡ true → IsKept w
word_kept [] all = inl (omega arith)
word_kept (b ∷ w) all =
    let p = and_parts (is_word b) (list_all is_word w) all in
    inr (inl (and_from (is_word b || nat_eq b 92) (list_all is_word w) (or_left (is_word b) (nat_eq b 92) p.0) p.1))

few : (w v : List ℕ) → w ≡ v → length v < 3 → IsKept w
few w v e l = inl (omega (arith, ap length e))

stands_kept : (s : State) (w : List ℕ) → Stands s w → IsKept w
stands_kept (only fresh) w e = few w [] e (omega arith)
stands_kept (only (mark a)) w h = few w (a ∷ []) h.0 (omega arith)
stands_kept (only (wordless v)) w (e, all) = word_kept w (ap (list_all is_word) e ∙ all)
stands_kept (only (word n)) w (size, all, any) = word_kept w all
stands_kept (only (back v)) w (e, all) = inr (inl (ap is_open_word e ∙ all))
stands_kept (only (text n good escaped)) w x = alone (open_string x.raw) (text_fits n good escaped w x) refl w x.is
stands_kept (only (block n d last)) w x = alone (open_block x.body) (block_fits n d last w x) refl w x.is
stands_kept (only (rest_of_line n)) w x = alone (sound (line x.body)) (x.all, tt) refl w x.is
stands_kept (marks a c) w h = few w (a ∷ c ∷ []) h.0 (omega arith)

pub run_kept : (text : List ℕ) → (pending : List ℕ) × IsKept pending × ((more : List ℕ) → outlines (text ++ more) ≡ (run_on (only fresh) text).0 ++ outlines (pending ++ more))
run_kept bytes =
    let g = run_goes (only fresh) [] bytes refl in
    (g.pending, stands_kept (run_on (only fresh) bytes).1 g.pending g.stands, g.seen)
