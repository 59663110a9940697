-- What the law of bounds asks of a reader of expressions can be met, whatever tells how many forms open in one: by reading without a bound, and refusing then what opens more.
use Rattle.std.proofs.Common.{◌≡◌, ℕ, ◌≤◌, ◌<◌, nat_le, Bool, true, false, if◌then◌else◌, List, Ok, Err, inl, inr, refl, sym, ap, subst}
use Rattle.std.proofs.lemmas.Bool.{leb-true, leb-false}
use Rattle.tla_token.specs.declared.rule.Rule.TheVariants.{TooDeep, Syntax}
use Rattle.tla_tree.specs.Lexical.{Token}
use Rattle.tla_tree.specs.Spelling.{Phrase}
use Rattle.tla_tree.specs.Reader.{Stop, Out, read}
use Rattle.tla_tree.proofs.SoundTokens.{ok_is}
use Rattle.region_reading.specs.Bound.{OnlyRefuses, ReadsWithin}

rule_is : {s v : Stop} → ◌≡◌ {A = Out Phrase} (Err s) (Err v) → s.0 ≡ v.0
rule_is {s} {v} e = (let same : ◌≡◌ {A = Stop} s v = cc in ap (λ (z : Stop). z.0) same)

module _ (bare : Phrase → ℕ) (l : ℕ) (ts : List Token) where
  abbrev cut : Out Phrase → Out Phrase
  cut (Ok x) = if nat_le (bare x.0) l then Ok x else Err (TooDeep, ts)
  cut (Err s) = Err (Syntax, s.1)

  cut_refuses : (q : Out Phrase) → OnlyRefuses l bare (cut q) q
  cut_refuses (Ok (a, us)) = by (nat_le (bare a) l) refl
    where
      by : (b : Bool) → nat_le (bare a) l ≡ b → OnlyRefuses l bare (if b then Ok (a, us) else Err (TooDeep, ts)) (Ok (a, us))
      by true h = record {
        same = λ c vs e. (e, subst (λ (d : Phrase). bare d ≤ l) (ok_is e).0 (leb-true (bare a) l h));
        none = λ vs e. absurd cc;
        deep = λ vs e. absurd cc;
        rule = λ r vs e. absurd cc;
      }
      by false h = record {
        same = λ c vs e. absurd cc;
        none = λ vs e. absurd (let same = rule_is e in cc);
        deep = λ vs e c ws i. subst (λ (d : Phrase). l < bare d) (ok_is i).0 (leb-false (bare a) l h);
        rule = λ r vs e. inr (sym (rule_is e));
      }
  cut_refuses (Err s) = record {
    same = λ c vs e. absurd cc;
    none = λ vs e c ws i. absurd cc;
    deep = λ vs e. absurd (let same = rule_is e in cc);
    rule = λ r vs e. inl (sym (rule_is e));
  }

pub some_read_within : (bare : Phrase → ℕ) → ReadsWithin (λ l e ts. cut bare l ts (read e ts)) bare
some_read_within bare l e ts = cut_refuses bare l ts (read e ts)
