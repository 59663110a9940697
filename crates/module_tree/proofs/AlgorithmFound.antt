-- The stretch of a file's algorithm has the tokens that the walk gives.
use Rattle.std.proofs.Common.{◌≡◌, ℕ, suc, ◌+◌, ◌-◌, Bool, true, false, List, [], ◌∷◌, ◌++◌, length, map, drop, Some, refl, sym, ap, subst, ◌∙◌, codes, arith, append_assoc, length-append}
use Rattle.std.specs.Prelude.{if◌then◌else◌, is_some}
use Rattle.std.specs.List.{list_all}
use Rattle.std.proofs.lemmas.Bool.{and_parts, and_from}
use Rattle.std.proofs.lemmas.Option.{none-some, same_Some}
use Rattle.std.proofs.Math.Seq.{take-append_seam, drop-append_seam}
use Rattle.tla_token.specs.declared.place.Place.{Place}
use Rattle.tla_token.specs.Places.{place_at, after}
use Rattle.tla_token.specs.Signs.{is_among}
use Rattle.tla_token.specs.Lexemes.{name, is_blank}
use Rattle.tla_token.specs.Tokens.{Piece, blank, block, line, lexeme, bytes_of, text_of, stretch, tokens_of, openings, is_unmarked, TokAlgorithm}
use Rattle.tla_token.specs.Offences.{sound}
use Rattle.tla_token.specs.Cut.{pieces}
use Rattle.tla_token.proofs.Spelled.{begins_is, begins_from}
use Rattle.module_tree.specs.TextFront.{Text, begins, past_all, past_word}
use Rattle.module_tree.specs.Beginnings.{is_fair, opening, begins_algorithm, all_at}
use Rattle.module_tree.specs.FileParts.{first_of}
use Rattle.module_tree.specs.AlgorithmText.{head, Inside, inside, AlgorithmText, algorithm_at, algorithm_tokens}
use Rattle.module_tree.proofs.AlgorithmTokens.{Ends, are_plain, plain_piece, cut_inside}

-- ---- where it begins

-- the first place at which it goes on so
pub record First (p : Text → Bool) (k n : ℕ) (u : Text) : Type 0 where
  pub front : Text
  pub rest : Text
  pub split : u ≡ front ++ rest
  pub at : n ≡ k + length front
  pub here : p rest ≡ true

pub first_at : (p : Text → Bool) (k n : ℕ) (u : Text) → first_of (all_at p k u) ≡ Some n → First p k n u
first_at p k n [] e = absurd (none-some n e)
first_at p k n (b ∷ u) e = by (p (b ∷ u)) refl (first_at p (suc k) n u)
  where
    none : (k : ℕ) → k ≡ k + 0
    none k = omega arith

    further : (k l n : ℕ) → n ≡ suc k + l → n ≡ k + suc l
    further k l n e = omega arith

    by : (t : Bool) → p (b ∷ u) ≡ t → (first_of (all_at p (suc k) u) ≡ Some n → First p (suc k) n u) → First p k n (b ∷ u)
    by true t deeper =
        let f : Some k ≡ Some n = rw t at e in
        record { front = []; rest = b ∷ u; split = refl; at = sym (same_Some k n f) ∙ none k; here = t }
    by false t deeper =
        let f : first_of (all_at p (suc k) u) ≡ Some n = rw t at e in
        let d = deeper f in
        record { front = b ∷ d.front; rest = d.rest; split = ap (λ (u : Text). b ∷ u) d.split; at = further k (length d.front) n d.at; here = d.here }

-- ---- its first word

pub past_all_more : (f : ℕ → Bool) (v r : Text) (c : ℕ) (m : Text) → past_all f v ≡ c ∷ m → past_all f (v ++ r) ≡ c ∷ (m ++ r)
past_all_more f [] r c m e = absurd cc
past_all_more f (b ∷ v) r c m e = by (f b) refl (past_all_more f v r c m)
  where
    by : (k : Bool) → f b ≡ k → (past_all f v ≡ c ∷ m → past_all f (v ++ r) ≡ c ∷ (m ++ r)) → past_all f (b ∷ (v ++ r)) ≡ c ∷ (m ++ r)
    by true k deeper = (let g : past_all f v ≡ c ∷ m = rw k at e in rw k (deeper g))
    by false k deeper = (let g : b ∷ v ≡ c ∷ m = rw k at e in rw k (ap (λ (u : Text). u ++ r) g))

-- the word at the front, and what is after it
pub record Opened (v : Text) : Type 0 where
  pub rest : Text
  pub is : v ≡ opening v ++ rest
  pub is_opening : is_among openings (opening v) ≡ true
  pub more : (r : Text) → is_fair (v ++ r) ≡ is_fair v

word_after : (v : Text) → is_fair v ≡ true → (r : Text) → is_fair (v ++ r) ≡ true
word_after v h r = by (begins v (codes "--fair")) refl
  where
    by : (k : Bool) → begins v (codes "--fair") ≡ k → is_fair (v ++ r) ≡ true
    by false k = (let f : false ≡ true = rw k at h in absurd cc)
    by true k = whole (drop 6 v) (begins_is v (codes "--fair") k)
      where
        whole : (u : Text) → v ≡ codes "--fair" ++ u → is_fair (v ++ r) ≡ true
        whole u e = ap (λ (v : Text). is_fair (v ++ r)) e ∙ on u (ap is_fair (sym e) ∙ h)
          where
            on : (u : Text) → is_fair (codes "--fair" ++ u) ≡ true → is_fair ((codes "--fair" ++ u) ++ r) ≡ true
            on [] g = absurd cc
            on (b ∷ u) g = blanks (is_blank b) refl
              where
                blanks : (k : Bool) → is_blank b ≡ k → is_fair ((codes "--fair" ++ b ∷ u) ++ r) ≡ true
                blanks false k = (let f : false ≡ true = rw k at g in absurd cc)
                blanks true k = (let f : is_some (past_word (codes "algorithm") (past_all is_blank u)) ≡ true = rw k at g in rw k (last (past_all is_blank u) refl f))
                  where
                    last : (m : Text) → past_all is_blank u ≡ m → is_some (past_word (codes "algorithm") m) ≡ true → is_some (past_word (codes "algorithm") (past_all is_blank (u ++ r))) ≡ true
                    last [] e f = absurd cc
                    last (c ∷ m) e f = ap (λ (s : Text). is_some (past_word (codes "algorithm") s)) (past_all_more is_blank u r c m e) ∙ longer (c ∷ m) f
                      where
                        longer : (m : Text) → is_some (past_word (codes "algorithm") m) ≡ true → is_some (past_word (codes "algorithm") (m ++ r)) ≡ true
                        longer m f = begun (begins m (codes "algorithm")) refl
                          where
                            begun : (k : Bool) → begins m (codes "algorithm") ≡ k → is_some (past_word (codes "algorithm") (m ++ r)) ≡ true
                            begun false k = (let g : false ≡ true = rw k at f in absurd cc)
                            begun true k = ap (λ (m : Text). is_some (past_word (codes "algorithm") (m ++ r))) (begins_is m (codes "algorithm") k)

pub opened : (v : Text) → begins_algorithm v ≡ true → Opened v
opened v h = by (is_fair v) refl
  where
    word_is : (k : Bool) → is_fair v ≡ k → opening v ≡ (if k then codes "--fair" else codes "--algorithm")
    word_is k e = ap (λ (k : Bool). if k then codes "--fair" else codes "--algorithm") e

    fair_front : is_fair v ≡ true → v ≡ codes "--fair" ++ drop 6 v
    fair_front k = on (begins v (codes "--fair")) refl
      where
        on : (t : Bool) → begins v (codes "--fair") ≡ t → v ≡ codes "--fair" ++ drop 6 v
        on true t = begins_is v (codes "--fair") t
        on false t = (let f : false ≡ true = rw t at k in absurd cc)

    plain_front : is_fair v ≡ false → v ≡ codes "--algorithm" ++ drop 11 v
    plain_front k = on (begins v (codes "--algorithm")) refl
      where
        on : (t : Bool) → begins v (codes "--algorithm") ≡ t → v ≡ codes "--algorithm" ++ drop 11 v
        on true t = begins_is v (codes "--algorithm") t
        on false t = (let f : false ≡ true = rw (k, t) at h in absurd cc)

    by : (k : Bool) → is_fair v ≡ k → Opened v
    by true k = record {
      rest = drop 6 v;
      is = fair_front k ∙ ap (λ (w : Text). w ++ drop 6 v) (sym (word_is true k));
      is_opening = ap (is_among openings) (word_is true k);
      more = λ r. word_after v k r ∙ sym k;
    }
    by false k = record {
      rest = drop 11 v;
      is = plain_front k ∙ ap (λ (w : Text). w ++ drop 11 v) (sym (word_is false k));
      is_opening = ap (is_among openings) (word_is false k);
      more = λ r. ap (λ (v : Text). is_fair (v ++ r)) (plain_front k) ∙ sym k;
    }

-- ---- its tokens

pieces_back : (ps : List Piece) → pieces (map sound ps) ≡ ps
pieces_back [] = refl
pieces_back (p ∷ ps) = ap (λ (qs : List Piece). p ∷ qs) (pieces_back ps)

plain_tokens : (p : Place) (at : ℕ) (ps : List Piece) → list_all plain_piece ps ≡ true → list_all is_unmarked (tokens_of p at ps) ≡ true
plain_tokens p at [] h = refl
plain_tokens p at (blank b ∷ ps) h = plain_tokens (after p (b ∷ [])) (at + length (b ∷ [])) ps h
plain_tokens p at (block body ∷ ps) h = plain_tokens (after p (bytes_of (block body))) (at + length (bytes_of (block body))) ps h
plain_tokens p at (line body ∷ ps) h = plain_tokens (after p (bytes_of (line body))) (at + length (bytes_of (line body))) ps h
plain_tokens p at (lexeme k bytes ∷ ps) h =
    let c = and_parts (plain_piece (lexeme k bytes)) (list_all plain_piece ps) h in
    and_from (plain_piece (lexeme k bytes)) (list_all is_unmarked (tokens_of (after p bytes) (at + length bytes) ps)) c.0 (plain_tokens (after p bytes) (at + length bytes) ps c.1)

pub stretch_is : (w a b c : List ℕ) (from to : ℕ) → w ≡ a ++ (b ++ c) → from ≡ length a → to ≡ length a + length b → stretch w from to ≡ b
stretch_is w a b c from to e f g =
    let n : to - from ≡ length b = omega arith in
    rw (n, f, e, drop-append_seam a (b ++ c)) (take-append_seam b c)

-- an algorithm that begins after the bytes p, with v left in its comment
pub made_there : (x p v r : Text) (n left : ℕ) → x ≡ p ++ (v ++ r) → n ≡ length p → left ≡ length v → (o : Opened v)
    → algorithm_at n left (drop n x) ≡ record {
      from = n;
      opening = opening v;
      rest = inside (head (if is_fair v then 1 else 0)) (n + length (opening v)) 0 (length o.rest) (o.rest ++ r);
    }
made_there x p v r n left e size count o =
    ap (algorithm_at n left) from_text
    ∙ ap (λ (k : Bool). made k (left - length (if k then codes "--fair" else codes "--algorithm")) (drop (length (if k then codes "--fair" else codes "--algorithm")) (v ++ r))) (o.more r)
    ∙ ap (λ (l : ℕ). made (is_fair v) l (drop (length w) (v ++ r))) (ap (λ (l : ℕ). l - length w) count ∙ less)
    ∙ ap (made (is_fair v) (length o.rest)) after_word
  where
    w : Text
    w = opening v

    from_text : drop n x ≡ v ++ r
    from_text = ap (λ (k : ℕ). drop k x) size ∙ ap (drop (length p)) e ∙ drop-append_seam p (v ++ r)

    made : (k : Bool) (l : ℕ) (s : Text) → AlgorithmText
    made k l s =
        let w = if k then codes "--fair" else codes "--algorithm" in
        record { from = n; opening = w; rest = inside (head (if k then 1 else 0)) (n + length w) 0 l s }

    after_word : drop (length w) (v ++ r) ≡ o.rest ++ r
    after_word = ap (λ (u : Text). drop (length w) (u ++ r)) o.is ∙ ap (drop (length w)) (append_assoc w o.rest r) ∙ drop-append_seam w (o.rest ++ r)

    less : length v - length w ≡ length o.rest
    less = (let n = ap length o.is in omega (arith, n, length-append w o.rest))

-- its tokens
pub tokens_there : (x p v r : Text) (n left : ℕ) → x ≡ p ++ (v ++ r) → n ≡ length p → left ≡ length v → Ends r → begins_algorithm v ≡ true
    → are_plain (algorithm_at n left (drop n x)).rest.parts ≡ true
    → TokAlgorithm x n (algorithm_at n left (drop n x)).rest.to (algorithm_tokens x (algorithm_at n left (drop n x)))
tokens_there x p v r n left e size count h begun plain =
    subst (λ (a : AlgorithmText). TokAlgorithm x n a.rest.to (algorithm_tokens x a)) (sym is) (tok (subst (λ (a : AlgorithmText). are_plain a.rest.parts ≡ true) is plain))
  where
    o : Opened v
    o = opened v begun

    w : Text
    w = opening v

    i : Inside
    i = inside (head (if is_fair v then 1 else 0)) (n + length w) 0 (length o.rest) (o.rest ++ r)

    a : AlgorithmText
    a = record { from = n; opening = w; rest = i }

    is : algorithm_at n left (drop n x) ≡ a
    is = made_there x p v r n left e size count o

    tok : are_plain i.parts ≡ true → TokAlgorithm x n i.to (algorithm_tokens x a)
    tok plain =
        let c = cut_inside (head (if is_fair v then 1 else 0)) (n + length w) o.rest r h plain in
        let ps = c.pieces in
        let from = n + length w in
        let whole : x ≡ p ++ ((w ++ text_of ps) ++ (c.more ++ r)) =
        e ∙ ap (λ (u : Text). p ++ (u ++ r)) (o.is ∙ ap (λ (u : Text). w ++ u) c.split) ∙ in_order p w (text_of ps) c.more r in
        let all : stretch x n i.to ≡ w ++ text_of ps =
        stretch_is x p (w ++ text_of ps) (c.more ++ r) n i.to whole size (c.to ∙ sum n (length w) (length (text_of ps)) (length p) (length (w ++ text_of ps)) size (length-append w (text_of ps))) in
        let from_is : from ≡ length (p ++ w) = ap (λ (k : ℕ). k + length w) size ∙ sym (length-append p w) in
        let cut : stretch x from i.to ≡ text_of ps =
        stretch_is x (p ++ w) (text_of ps) (c.more ++ r) from i.to (whole ∙ regrouped p w (text_of ps) (c.more ++ r)) from_is (c.to ∙ ap (λ (k : ℕ). k + length (text_of ps)) from_is) in
        let ts = tokens_of (place_at x from) from ps in
        let same : pieces (map (λ q. q.1) i.parts) ≡ ps = ap pieces c.parts ∙ pieces_back ps in
        record {
          opening = w;
          is_opening = o.is_opening;
          stands = begins_from (stretch x n i.to) w (text_of ps) all;
          more = ts;
          tok = record { pieces = ps; cut = cut; fit = c.fit; tokens = refl };
          unmarked = plain_tokens (place_at x from) from ps c.plain;
          tokens = ap (λ (ps : List Piece). record { kind = name w; at = n; place = place_at x n } ∷ tokens_of (place_at x from) from ps) same;
        }
      where
        in_order : (p w t m r : Text) → p ++ ((w ++ (t ++ m)) ++ r) ≡ p ++ ((w ++ t) ++ (m ++ r))
        in_order p w t m r = simp append_assoc refl

        regrouped : (p w t m : Text) → p ++ ((w ++ t) ++ m) ≡ (p ++ w) ++ (t ++ m)
        regrouped p w t m = simp append_assoc refl

        sum : (n w t p u : ℕ) → n ≡ p → u ≡ w + t → n + w + t ≡ p + u
        sum n w t p u e f = omega arith
