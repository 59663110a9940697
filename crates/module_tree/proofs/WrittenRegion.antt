-- What is laid out of a translation that can be written is read back as it, wherever it is put.
use Rattle.std.proofs.Common.{◌≡◌, ℕ, ◌+◌, Bool, true, false, ◌||◌, nat_eq, List, [], ◌∷◌, ◌++◌, length, map, Option, Some, None, is_some, refl, sym, ap, subst, ◌∙◌}
use Rattle.std.specs.List.{list_all, list_any}
use Rattle.std.proofs.lemmas.Bool.{and_parts, not-true}
use Rattle.std.proofs.Math.Bool.{and-false}
use Rattle.tla_token.specs.declared.place.Place.{Place}
use Rattle.tla_token.specs.Places.{after}
use Rattle.tla_token.specs.Tokens.{Token, Piece, blank, block, line, lexeme, text_of, AllFit, tokens_of}
use Rattle.tla_token.proofs.OneLine.{stays, lexeme_stays}
use Rattle.tla_tree.specs.TokenViews.{views}
use Rattle.tla_tree.specs.Tree.{Tree}
use Rattle.tla_tree.specs.laws.Writable.{AreSmall}
use Rattle.tla_value.specs.Outside.{Outside}
use Rattle.module_tree.specs.TextFront.{Text, on_some}
use Rattle.module_tree.specs.HeaderAndRegion.{is_end}
use Rattle.module_tree.specs.Walk.{is_tail, State, Located, walk_from, walk, at_start, at_end_line}
use Rattle.module_tree.specs.FileParts.{module_end, before_spot, inside_region}
use Rattle.module_tree.specs.FileUnits.{tokens_in, Cut, cut}
use Rattle.module_tree.specs.FileOffences.{offences_of}
use Rattle.module_tree.specs.WithTranslation.{begin_line, WithTranslation}
use Rattle.module_tree.specs.Around.{Around}
use Rattle.module_tree.specs.Layout.{layout}
use Rattle.module_tree.specs.Module.{Way, Region, units_of, Module}
use Rattle.module_tree.specs.Units.{IsUnit}
use Rattle.module_tree.specs.Reading.{AllAre}
use Rattle.module_tree.specs.Ways.{is_terminating}
use Rattle.module_tree.specs.laws.Walks.{IsInside, after_all, made, located}
use Rattle.module_tree.specs.laws.Kept.{IsFine}
use Rattle.module_tree.specs.laws.Outsides.{HasOutside}
use Rattle.module_tree.specs.laws.WritableRegion.{IsRegion, IsReadBack, IsWritten}
use Rattle.module_tree.specs.laws.PlacelessRegion.{way_placeless, perhaps_placeless, region_placeless}
use Rattle.module_tree.proofs.WalkPieces.{are_barless, barless_rest, lineless, no_mark, located_pieces, pieces_walked, tokens_are, no_offences, none_in}
use Rattle.module_tree.proofs.WalkSame.{keeps_file}
use Rattle.module_tree.proofs.ModuleKept.{is_module}
use Rattle.module_tree.proofs.OneModule.{one_module}
use Rattle.module_tree.proofs.LayoutBare.{terminating_is, same_layout}
use Rattle.module_tree.proofs.Chunks.{Plain, seen, seen_is}
use Rattle.module_tree.proofs.UnitLists.{region_at}

-- ---- no END line is in it

none_within : (w t : Text) → list_all stays w ≡ true → at_end_line false t ≡ None → at_end_line false (w ++ t) ≡ None
none_within [] t h e = e
none_within (b ∷ w) t h e =
    let k = and_parts (stays b) (list_all stays w) h in
    rw (not-true (nat_eq b 10) k.0, none_within w t k.1 e) refl

-- a line's first byte is that of a piece
none_here : (b : ℕ) (s : Text) (first : Bool) → is_end (b ∷ s) ≡ false → at_end_line (nat_eq b 10) s ≡ None → at_end_line first (b ∷ s) ≡ None
none_here b s first h e = rw (h, and-false first, e) refl

no_end_in : (ps : List Piece) → AllFit ps → are_barless ps ≡ true → Plain ps → (first : Bool) → at_end_line first (text_of ps) ≡ None
no_end_in [] f h p first = refl
no_end_in (blank b ∷ ps) f h p first =
    none_here b (text_of ps) first (no_mark (b ∷ text_of ps) (lineless (blank b ∷ ps) f h)).1 (no_end_in ps f.1 (barless_rest (blank b) ps h) p (nat_eq b 10))
no_end_in (block w ∷ ps) f h p first = absurd p
no_end_in (line w ∷ ps) f h p first = absurd p
no_end_in (lexeme k [] ∷ ps) f h p first = no_end_in ps f.1 (barless_rest (lexeme k []) ps h) p.1 first
no_end_in (lexeme k (b ∷ w) ∷ ps) f h p first =
    let s = and_parts (stays b) (list_all stays w) (lexeme_stays k (b ∷ w) f.0.1) in
    let rest = no_end_in ps f.1 (barless_rest (lexeme k (b ∷ w)) ps h) p.1 false in
    let within : at_end_line (nat_eq b 10) (w ++ text_of ps) ≡ None = rw (not-true (nat_eq b 10) s.0) (none_within w (text_of ps) s.1 rest) in
    none_here b (w ++ text_of ps) first (no_mark ((b ∷ w) ++ text_of ps) (lineless (lexeme k (b ∷ w) ∷ ps) f h)).1 within

pub layout_inside : (r : Region) → IsRegion r → IsInside (layout r)
layout_inside r v =
    let x = (region_at 1 r v).reached in
    let f = x.fine in
    (x.lined, ap (at_end_line true) (sym x.bytes) ∙ no_end_in x.pieces f.fit f.barless f.plain true)

-- ---- numbers

small_tokens : (p : Place) (at : ℕ) (ps : List Piece) → Plain ps → AreSmall (tokens_of p at ps)
small_tokens p at [] h = tt
small_tokens p at (blank b ∷ ps) h = small_tokens (after p (b ∷ [])) (at + 1) ps h
small_tokens p at (block w ∷ ps) h = absurd h
small_tokens p at (line w ∷ ps) h = absurd h
small_tokens p at (lexeme k w ∷ ps) h = (h.0, small_tokens (after p w) (at + length w) ps h.1)

-- ---- the region, wherever it begins

abbrev in_region : State → State
in_region st = record { at = st.at + length begin_line; place = after st.place begin_line; headed = true; marked = true }

-- these tokens are its units
abbrev UnitsOf : Region → List Token → Type 0
UnitsOf q ts = AreSmall ts × ((cut (views ts)).front ≡ []) × AllAre IsUnit (cut (views ts)).units (units_of q)

pub read_back : (st : State) (r : Region) → IsRegion r → IsReadBack st r
read_back st r v =
    let here = in_region st in
    let x = region_at here.place.line r v in
    let ps = x.reached.pieces in
    let f = x.reached.fine in
    let inside : inside_region (located st (made (layout r))) ≡ located_pieces here ps =
    ap (walk_from here 0) (sym x.reached.bytes) ∙ pieces_walked here ps refl f.fit f.barless in
    let tokens : tokens_in (inside_region (located st (made (layout r)))) ≡ tokens_of here.place here.at ps = ap tokens_in inside ∙ tokens_are here ps in
    let cuts : cut (views (tokens_of here.place here.at ps)) ≡ cut (seen here.place ps) = ap cut (seen_is here.place here.at ps) in
    let units = subst (λ (ts : List Token). UnitsOf x.region ts) (sym tokens) (
      small_tokens here.place here.at ps f.plain,
      ap (λ (c : Cut). c.front) cuts ∙ x.reached.no_front,
      subst (λ (c : Cut). AllAre IsUnit c.units (units_of x.region)) (sym cuts) x.reached.units,
    ) in
    record {
      region = x.region;
      same = x.same;
      reads = λ m e. record {
        sound = ap offences_of inside ∙ no_offences here ps;
        open_ended = ap module_end inside ∙ ap (λ (o : Option Located). on_some o (λ d. Some d.at)) (none_in is_tail (λ y. refl) here ps);
        small = units.0;
        no_front = units.1;
        units = subst (λ (q : Region). AllAre IsUnit (cut (views (tokens_in (inside_region (located st (made (layout r))))))).units (units_of q)) (sym e) units.2;
      };
    }

-- ---- the file

any_terminating : (ys : List Way) → list_any is_terminating (map way_placeless ys) ≡ list_any is_terminating ys
any_terminating [] = refl
any_terminating (y ∷ ys) = (λ i. terminating_is y i || any_terminating ys i)

is_ended : (o : Option Tree) → is_some (perhaps_placeless o) ≡ is_some o
is_ended None = refl
is_ended (Some e) = refl

-- Terminating stands in both places or in neither, whatever the places are
terminates : (r q : Region) → region_placeless q ≡ region_placeless r → is_some r.ended ≡ list_any is_terminating r.next → is_some q.ended ≡ list_any is_terminating q.next
terminates r q e t =
    sym (is_ended q.ended) ∙ ap (λ (x : Region). is_some x.ended) e ∙ is_ended r.ended ∙ t ∙ sym (any_terminating r.next)
    ∙ ap (λ (x : Region). list_any is_terminating x.next) (sym e) ∙ any_terminating q.next

-- the layout of what is read is that of what was written
around_it : (x w : Text) (r q : Region) (m : Module) → region_placeless q ≡ region_placeless r → m.region ≡ q → WithTranslation x (layout r) w → Around x m w
around_it x w r q m e f t = subst (λ (v : Text). WithTranslation x v w) (sym (ap layout f ∙ same_layout q r e)) t

pub written_file : (x w : Text) (o : Outside) (r : Region) → IsRegion r → IsFine x → HasOutside (walk x) o → WithTranslation x (layout r) w → IsWritten x w o r
written_file x w o r v f h t =
    let k = keeps_file x (layout r) w f (layout_inside r v) t in
    let b = read_back (after_all at_start (before_spot (walk x))) r v in
    let m : Module = record { title = []; outside = o; region = b.region } in
    let is = is_module x (layout r) w o m f k h (b.reads m refl) (terminates r b.region b.same v.terminating) in
    record {
      region = b.region;
      same = b.same;
      is = is;
      around = around_it x w r b.region is.written b.same is.region t;
      only = λ n g. one_module w n is.written g is.reads;
    }
