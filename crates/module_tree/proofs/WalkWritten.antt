-- A text with a translation in it is walked as the text before it, one region, and the text after it.
use Rattle.std.proofs.Common.{◌≡◌, ℕ, suc, ◌-◌, Bool, true, false, not, ◌&&◌, nat_eq, List, [], ◌∷◌, ◌++◌, length, drop, Option, Some, None, refl, sym, ap, ◌∙◌, arith, codes, append_assoc, append-nil}
use Rattle.std.proofs.lemmas.Bool.{and_parts}
use Rattle.tla_token.specs.Tokens.{EndsLine}
use Rattle.tla_token.specs.Cut.{run}
use Rattle.tla_token.proofs.Words.{run_over}
use Rattle.module_tree.specs.TextFront.{Text, line_here}
use Rattle.module_tree.specs.HeaderAndRegion.{is_end}
use Rattle.module_tree.specs.Walk.{Segment, region, bytes, State, at_end_line, segment_at, after_segment, Located, walk_from, walk, at_start}
use Rattle.module_tree.specs.WithTranslation.{begin_line, end_line}
use Rattle.module_tree.specs.laws.Walks.{is_lined, are_calm, IsOpen, IsInside, made, after_text, located}
use Rattle.module_tree.proofs.WalkLines.{unlined, end_alike, never_some}
use Rattle.std.proofs.lemmas.Bool.{not-true}
use Rattle.module_tree.proofs.WalkWhole.{walk_over}
use Rattle.module_tree.proofs.WalkResumed.{newline, keep, resumed}

end_here : (c : Text) → EndsLine c → line_here (end_line ++ c) ≡ end_line
end_here c h = run_over (λ b. not (nat_eq b 10)) end_line c refl ∙ ap (λ (u : Text). end_line ++ u) (none c h) ∙ append-nil end_line
  where
    none : (c : Text) → EndsLine c → run (λ b. not (nat_eq b 10)) c ≡ []
    none [] h = refl
    none (b ∷ c) h = rw h refl

-- after a text without END line
end_found : (t c : Text) (first : Bool) → (t ≡ [] → first ≡ true) → is_lined t ≡ true → at_end_line first t ≡ None → EndsLine c → at_end_line first (t ++ (end_line ++ c)) ≡ Some (t, end_line)
end_found [] c first f e n h = rw (f refl, end_here c h) refl
end_found (b ∷ t) c first f e n h = by (first && is_end (b ∷ t)) refl (at_end_line (nat_eq b 10) t) refl (end_found t c (nat_eq b 10))
  where
    same : (first && is_end (b ∷ (t ++ (end_line ++ c)))) ≡ (first && is_end (b ∷ t))
    same = ap (λ (k : Bool). first && k) (keep is_end end_alike (b ∷ t) (end_line ++ c) (newline b t e))

    last : (t : Text) → is_lined (b ∷ t) ≡ true → t ≡ [] → nat_eq b 10 ≡ true
    last [] e x = e
    last (c ∷ t) e x = absurd cc

    rest : (t : Text) → is_lined (b ∷ t) ≡ true → is_lined t ≡ true
    rest [] e = refl
    rest (c ∷ t) e = e

    by : (k : Bool) → (first && is_end (b ∷ t)) ≡ k → (o : Option (Text × Text)) → at_end_line (nat_eq b 10) t ≡ o
        → ((t ≡ [] → nat_eq b 10 ≡ true) → is_lined t ≡ true → at_end_line (nat_eq b 10) t ≡ None → EndsLine c → at_end_line (nat_eq b 10) (t ++ (end_line ++ c)) ≡ Some (t, end_line))
        → at_end_line first (b ∷ (t ++ (end_line ++ c))) ≡ Some (b ∷ t, end_line)
    by true k o oo deeper =
        let got : at_end_line first (b ∷ t) ≡ Some ([], line_here (b ∷ t)) = rw k refl in
        absurd (never_some ([], line_here (b ∷ t)) (sym n ∙ got))
    by false k None o deeper = rw (same ∙ k, deeper (last t e) (rest t e) o h) refl
    by false k (Some (v, w)) o deeper =
        let got : at_end_line first (b ∷ t) ≡ Some (b ∷ v, w) = rw (k, o) refl in
        absurd (never_some (b ∷ v, w) (sym n ∙ got))

-- after the rest of a line
end_after_line : (m s v w : Text) → unlined m ≡ true → at_end_line true s ≡ Some (v, w) → at_end_line false (m ++ 10 ∷ s) ≡ Some (m ++ 10 ∷ v, w)
end_after_line [] s v w h e = rw e refl
end_after_line (b ∷ m) s v w h e =
    let c = and_parts (not (nat_eq b 10)) (unlined m) h in
    rw (not-true (nat_eq b 10) c.0, end_after_line m s v w c.1 e) refl

abbrev begin_word : Text
begin_word = codes "\\* BEGIN TRANSLATION"

region_here : (st : State) (t c : Text) → IsOpen st → IsInside t → EndsLine c
    → segment_at st 92 (drop 1 begin_line ++ (t ++ (end_line ++ c))) ≡ region (begin_line ++ t) end_line
region_here st t c (headed, marked, first) (e, none) h =
    let found : at_end_line false (begin_line ++ (t ++ (end_line ++ c))) ≡ Some (begin_line ++ t, end_line) =
    end_after_line begin_word (t ++ (end_line ++ c)) t end_line refl (end_found t c true (λ x. refl) e none h) in
    rw (headed, marked, first, found) refl

pub one_segment : (st : State) (b : ℕ) (s : Text) (g : Segment) (m c : Text) → segment_at st b s ≡ g → bytes g ≡ b ∷ m → s ≡ m ++ c
    → walk_from st 0 (b ∷ s) ≡ record { at = st.at; place = st.place; is = g } ∷ walk_from (after_segment st g) 0 c
one_segment st b s g m c is made split =
    let next = after_segment st g in
    let first : Segment → List Located = λ g. record { at = st.at; place = st.place; is = g } ∷ walk_from (after_segment st g) (length (bytes g) - 1) s in
    let count : length (bytes g) - 1 ≡ length m = ap (λ (u : Text). length u - 1) made ∙ less (length m) in
    ap first is
    ∙ ap (λ (ds : List Located). record { at = st.at; place = st.place; is = g } ∷ ds)
    (ap (λ (n : ℕ). walk_from next n s) count ∙ ap (λ (u : Text). walk_from next (length m) u) split ∙ walk_over next m c)
  where
    less : (n : ℕ) → suc n - 1 ≡ n
    less n = omega arith

-- a text of three parts, of which the first begins with b
three_parts : (st : State) (b : ℕ) (v v' t w c : Text) (g : Segment) → v ≡ b ∷ v' → segment_at st b (v' ++ (t ++ (w ++ c))) ≡ g → bytes g ≡ (v ++ t) ++ w
    → walk_from st 0 (v ++ (t ++ (w ++ c))) ≡ record { at = st.at; place = st.place; is = g } ∷ walk_from (after_segment st g) 0 c
three_parts st b v v' t w c g e is made =
    let split : v' ++ (t ++ (w ++ c)) ≡ (v' ++ (t ++ w)) ++ c = ap (λ (u : Text). v' ++ u) (sym (append_assoc t w c)) ∙ sym (append_assoc v' (t ++ w) c) in
    let bytes_are : bytes g ≡ b ∷ (v' ++ (t ++ w)) = made ∙ append_assoc v t w ∙ ap (λ (u : Text). u ++ (t ++ w)) e in
    ap (λ (u : Text). walk_from st 0 (u ++ (t ++ (w ++ c)))) e ∙ one_segment st b (v' ++ (t ++ (w ++ c))) g (v' ++ (t ++ w)) c is bytes_are split

-- a translation is one segment
pub region_walk : (st : State) (t c : Text) → IsOpen st → IsInside t → EndsLine c
    → walk_from st 0 (begin_line ++ (t ++ (end_line ++ c))) ≡ record { at = st.at; place = st.place; is = made t } ∷ walk_from (after_segment st (made t)) 0 c
region_walk st t c o i h = three_parts st 92 begin_line (drop 1 begin_line) t end_line c (made t) refl (region_here st t c o i h) refl

-- the text before it, the region, and the text after it
pub written : (a t c : Text) → is_lined a ≡ true → are_calm (walk a) ≡ true → IsOpen (after_text a) → IsInside t → EndsLine c
    → walk (a ++ (begin_line ++ (t ++ (end_line ++ c)))) ≡ walk a ++ located (after_text a) (made t) ∷ walk_from (after_segment (after_text a) (made t)) 0 c
written a t c e calm o i h =
    resumed at_start a (begin_line ++ (t ++ (end_line ++ c))) e calm ∙ ap (λ (ds : List Located). walk a ++ ds) (region_walk (after_text a) t c o i h)
