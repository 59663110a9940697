-- The parts of a file that breaks none of the rules 1 to 10.
use Rattle.std.proofs.Common.{◌≡◌, ℕ, Bool, true, false, not, List, [], ◌∷◌, ◌++◌, length, Option, Some, None, refl, sym, ap, ◌∙◌, append-nil}
use Rattle.std.specs.Prelude.{is_some}
use Rattle.std.specs.Option.{option_map, unwrap_or}
use Rattle.tla_token.specs.declared.token.Span.{Span}
use Rattle.tla_token.specs.Places.{place_at}
use Rattle.tla_token.specs.Tokens as text
use Rattle.tla_token.specs.Tokens.{stretch}
use Rattle.tla_token.specs.TokensSeen.{tokens_seen}
use Rattle.module_tree.specs.declared.parts.Parts.{Parts}
use Rattle.module_split.specs.declared.stand.Stand.{Stand}
use Rattle.module_split.specs.declared.split.Algorithm.{Algorithm}
use Rattle.module_split.specs.declared.split.Gap.{Gap}
use Rattle.module_tree.specs.TextFront.{Text, on_some}
use Rattle.module_tree.specs.Walk.{Located, is_tail, walk}
use Rattle.module_split.specs.StandsSeen.{stands_seen}
use Rattle.module_tree.specs.FileParts.{title, first_that, module_end, region_of, spot, before_spot, after_spot}
use Rattle.module_tree.specs.AlgorithmText.{algorithm_of, is_c}
use Rattle.module_tree.specs.FileUnits.{tokens_in}
use Rattle.module_tree.specs.FileOffences.{splitting_offences}
use Rattle.module_split.specs.Splitting.{Splits}
use Rattle.module_split.specs.AlgorithmSeen.{stage_seen}
use Rattle.module_split.specs.SplitSeen.{span_seen, plain_token, plain_tokens, IsFound, IsAlgorithm, IsGap}
use Rattle.module_split.proofs.SplitFine.{fine_file}
use Rattle.module_split.proofs.SplitTokens.{tokens_before, tokens_after}
use Rattle.module_tree.proofs.SplitWhole.{some_algorithm, some_spot, some_title}
use Rattle.module_tree.proofs.WalkKept.{Sound}

pub titled : (x : Text) (ds : List Stand) → stands_seen x ds ≡ walk x → splitting_offences x ≡ [] → is_some (title (stands_seen x ds)) ≡ true
titled x ds seen fine = ap (λ (es : List Located). is_some (title es)) seen ∙ some_title x (fine_file x ds seen fine)

pub no_spot : (x : Text) (ds : List Stand) (g : Gap) → stands_seen x ds ≡ walk x → splitting_offences x ≡ [] → IsGap x ds g → g.spot ≡ None → ⊥
no_spot x ds g seen fine gap e =
    let none : spot (stands_seen x ds) ≡ None = gap.spot ∙ ap (option_map span_seen) e in
    let some : is_some (spot (stands_seen x ds)) ≡ true = ap (λ (es : List Located). is_some (spot es)) seen ∙ some_spot x (fine_file x ds seen fine) in
    let f : false ≡ true = rw none at some in
    absurd cc

pub no_algorithm : (x : Text) (ds : List Stand) (o : Option Algorithm) → stands_seen x ds ≡ walk x → splitting_offences x ≡ [] → (marks : List Bool) × IsAlgorithm x (stands_seen x ds) marks o → o ≡ None → ⊥
no_algorithm x ds o seen fine (marks, h) e = by (rw e at h)
  where
    by : algorithm_of x (stands_seen x ds) ≡ None → ⊥
    by none =
        let some : is_some (algorithm_of x (stands_seen x ds)) ≡ true = ap (λ (es : List Located). is_some (algorithm_of x es)) seen ∙ some_algorithm x (fine_file x ds seen fine) in
        let f : false ≡ true = rw none at some in
        absurd cc

pub found_is : (x : Text) (es : List Located) (o : Option Algorithm) (a : Algorithm) → (marks : List Bool) × IsAlgorithm x es marks o → o ≡ Some a → (marks : List Bool) × IsFound x es marks a
found_is x es o a (marks, h) e = (marks, (rw e at h))

plain_append : (es fs : List Located) → plain_tokens es ++ plain_tokens fs ≡ plain_tokens (es ++ fs)
plain_append [] fs = refl
plain_append (e ∷ es) fs = by (plain_token e) refl (plain_append es fs)
  where
    by : (o : Option text.Token) → plain_token e ≡ o → plain_tokens es ++ plain_tokens fs ≡ plain_tokens (es ++ fs) → plain_tokens (e ∷ es) ++ plain_tokens fs ≡ plain_tokens (e ∷ (es ++ fs))
    by None k more = rw k more
    by (Some t) k more = rw k (ap (λ (ts : List text.Token). t ∷ ts) more)

pub before_is : (x : Text) (ds : List Stand) (g : Gap) → stands_seen x ds ≡ walk x → splitting_offences x ≡ [] → IsGap x ds g
    → plain_tokens (stands_seen x g.before.now) ++ plain_tokens (stands_seen x g.line.now) ≡ tokens_in (before_spot (walk x))
before_is x ds g seen fine gap =
    let s : Sound x = fine_file x ds seen fine in
    plain_append (stands_seen x g.before.now) (stands_seen x g.line.now) ∙ ap plain_tokens (sym gap.before ∙ ap before_spot seen) ∙ sym (tokens_before x s.fine)

pub after_is : (x : Text) (ds : List Stand) (g : Gap) → stands_seen x ds ≡ walk x → splitting_offences x ≡ [] → IsGap x ds g
    → plain_tokens (stands_seen x g.after.now) ++ plain_tokens (stands_seen x []) ≡ tokens_in (after_spot (walk x))
after_is x ds g seen fine gap =
    let s : Sound x = fine_file x ds seen fine in
    append-nil (plain_tokens (stands_seen x g.after.now)) ∙ ap plain_tokens (sym gap.after ∙ ap after_spot seen) ∙ sym (tokens_after x s.fine)

-- the module has an end
ended_at : (x : Text) (ds : List Stand) → stands_seen x ds ≡ walk x → splitting_offences x ≡ [] → (m : ℕ) × (module_end (walk x) ≡ Some m)
ended_at x ds seen fine = by (first_that is_tail (walk x)) refl
  where
    by : (o : Option Located) → first_that is_tail (walk x) ≡ o → (m : ℕ) × (module_end (walk x) ≡ Some m)
    by (Some d) k = (d.at, ap (λ (o : Option Located). on_some o (λ d. Some d.at)) k)
    by None k =
        let s : Sound x = fine_file x ds seen fine in
        let f : false ≡ true = ap (λ (o : Option Located). is_some o) (sym k) ∙ s.ends in
        absurd cc

-- these are the file's parts
pub parts_made : (x : Text) (ds : List Stand) (g : Gap) (o : Option Algorithm) (a : Algorithm) (p : Parts) (s : Span) (n : ℕ)
    → stands_seen x ds ≡ walk x
    → splitting_offences x ≡ []
    → IsGap x ds g
    → (marks : List Bool) × IsAlgorithm x (stands_seen x ds) marks o
    → o ≡ Some a
    → g.spot ≡ Some s
    → p.text.now ≡ x
    → title (stands_seen x ds) ≡ Some (stretch x p.title.from p.title.to)
    → p.spot ≡ s
    → p.is_new ≡ g.is_new
    → p.algorithm ≡ record { from = a.from; to = a.inside.at }
    → p.is_c ≡ is_c (stage_seen a.inside.stage)
    → tokens_seen p.before ≡ plain_tokens (stands_seen x g.before.now) ++ plain_tokens (stands_seen x g.line.now)
    → tokens_seen p.after ≡ plain_tokens (stands_seen x g.after.now) ++ plain_tokens (stands_seen x [])
    → p.before.end ≡ place_at x s.from
    → n ≡ unwrap_or (module_end (stands_seen x ds)) (length x)
    → p.after.end ≡ place_at x n
    → Splits x p
parts_made x ds g o a p s n seen fine gap found some placed text_is named spot_is new algorithm syntax before after before_end end_is after_end =
    let f = found_is x (stands_seen x ds) o a found some in
    let m = ended_at x ds seen fine in
    let is : IsFound x (stands_seen x ds) f.0 a = f.1 in
    record {
      text = text_is;
      title = sym (ap title seen) ∙ named;
      spot = sym (ap spot seen) ∙ gap.spot ∙ ap (option_map span_seen) placed ∙ ap (λ (s : Span). Some (span_seen s)) (sym spot_is);
      is_new = sym (ap (λ (es : List Located). is_some (region_of es)) seen) ∙ gap.is_new ∙ ap not (sym new);
      found = is.found;
      algorithm = sym (ap (algorithm_of x) seen) ∙ is.is;
      begins = is.begins ∙ ap (λ (s : Span). s.from) (sym algorithm);
      ends = is.ends ∙ ap (λ (s : Span). s.to) (sym algorithm);
      is_c = ap is_c is.stage ∙ sym syntax;
      before = before ∙ before_is x ds g seen fine gap;
      before_end = before_end ∙ ap (λ (s : Span). place_at x s.from) (sym spot_is);
      after = after ∙ after_is x ds g seen fine gap;
      at_end = m.0;
      ended = m.1;
      after_end = after_end ∙ ap (place_at x) (end_is ∙ ap (λ (o : Option ℕ). unwrap_or o (length x)) (ap module_end seen ∙ m.1));
    }
