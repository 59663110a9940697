-- Whatever begins an algorithm is completed by the tokens that are missing behind it: of a reader of either syntax.
use Rattle.std.proofs.Common.{◌≡◌, ℕ, ◌<◌, List, [], ◌∷◌, ◌++◌, length, take, drop, map, Option, Some, None, Ok, Err, refl, sym, ap, ◌∙◌, subst, append_assoc, length-append, arith}
use Rattle.std.proofs.lemmas.List.{append-nil, append_cancel_right, take-append-drop, length-map, length-take-le}
use Rattle.tla_token.specs.declared.rule.Rule.{Rule}
use Rattle.tla_tree.specs.Lexical.{Token}
use Rattle.tla_tree.specs.Reader.{Out, Reader}
use Rattle.tla_tree.specs.FirstStop.{Look, look, looks, to_end, Begins, StopsAt}
use Rattle.tla_tree.proofs.StopLaws.{passes_begins}
use Rattle.tla_tree.proofs.StopsThere.{before}
use Rattle.pcal_tree.specs.Grammar as grammar
use Rattle.pcal_tree.specs.Grammar.{Text, Good, spell}
use Rattle.pcal_tree.specs.OffencesSyntax.{algorithms}
use Rattle.pcal_tree.proofs.LinesGood.{begun}
use Rattle.tla_tree.specs.Wanted.{or_then}
use Rattle.syntax_reading.specs.Missing.{all_of, completed_by}
use Rattle.syntax_reading.specs.Completes.{Completes}
use Rattle.syntax_reading.proofs.Completing.{completes_of}
use Rattle.syntax_reading.proofs.StopsOf.{ReadsAll}
use Rattle.syntax_reading.proofs.StopsWithin.{ReadsWithin, refused_passes}

module _ (syntax : grammar.Syntax) (read : Reader Text) (facts : ReadsAll syntax read) where
  -- by these
  abbrev missing : List Token → List Token
  missing = completed_by read facts.missing

  pub completed : (passed more : List Token) (x : Text) → Good syntax x → spell x [] ≡ passed ++ more → Completes syntax passed (missing passed)
  completed passed more x g s = by (read passed) refl
    where
      by : (o : Out Text) → read passed ≡ o → Completes syntax passed (or_then o (facts.missing passed) (λ x. all_of []))
      by (Ok (y, rest)) o = (let w = facts.spelled passed y rest o in record { whole = y; good = w.0; spelled = sym w.1 ∙ sym (append-nil passed); few = omega arith })
      by (Err (q, [])) o = (let m = facts.mended passed (q, []) o in subst (λ (us : List Token). Completes syntax us (facts.missing passed)) (sym (append-nil m.read) ∙ sym m.parts) (completes_of syntax m))
      by (Err (q, t ∷ rest)) o =
          let m = facts.mended passed (q, t ∷ rest) o in
          absurd (facts.through passed t rest q o m.read m.parts x g (rest ++ more) (s ∙ ap (λ (us : List Token). us ++ more) m.parts ∙ append_assoc m.read (t ∷ rest) more))

  pub refused_completes : (ts passed rest : List Token) (q : Rule) → read ts ≡ Err (q, rest) → ts ≡ passed ++ rest → Completes syntax passed (missing passed)
  refused_completes ts passed rest q o s =
      let m = facts.mended ts (q, rest) o in
      let c = completes_of syntax m in
      let same : m.read ≡ passed = append_cancel_right m.read passed rest (sym m.parts ∙ s) in
      completed passed (facts.missing ts) c.whole c.good (c.spelled ∙ ap (λ (us : List Token). us ++ facts.missing ts) same)

  begun_completes : (passed : List Token) → Begins (algorithms syntax) (map Some (looks passed)) → Completes syntax passed (missing passed)
  begun_completes passed b = (let w = begun syntax passed b in completed passed w.1 w.0 w.2 w.3)

  -- what passes before the place where tokens are refused
  pub completed_there : (ts : List Token) (n : ℕ) (r : Rule) → StopsAt (algorithms syntax) (to_end ts) n r → Completes syntax (take n ts) (missing (take n ts))
  completed_there ts n r s = begun_completes (take n ts) (subst (λ (ks : List (Option Look)). Begins (algorithms syntax) ks) (there ts n s.there) (passes_begins (algorithms syntax) _ s.passed))
    where
      there : (ts : List Token) (n : ℕ) → n < length (to_end ts) → take n (to_end ts) ≡ map Some (looks (take n ts))
      there ts n l =
          let s = take-append-drop n ts in
          let long = length-append (map Some (looks ts)) (None ∷ []) in
          let all = length-map (looks ts) Some ∙ length-map ts look in
          let k : length (take n ts) ≡ n = length-take-le n ts (omega (arith, l, long, all)) in
          ap (λ (m : ℕ). take m (to_end ts)) (sym k) ∙ ap (λ (us : List Token). take (length (take n ts)) (to_end us)) (sym s) ∙ before (take n ts) (drop n ts)

pub limited_completes : (syntax : grammar.Syntax) (read limited : Reader Text) (facts : ReadsWithin syntax read limited) (ts passed rest : List Token) (q : Rule) → limited ts ≡ Err (q, rest) → ts ≡ passed ++ rest → Completes syntax passed (completed_by read facts.all.missing passed)
limited_completes syntax read limited facts ts passed rest q o s = begun_completes syntax read facts.all passed (passes_begins (algorithms syntax) _ (refused_passes syntax read limited facts ts passed rest q o s))
