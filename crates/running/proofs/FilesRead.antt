-- Files that are read one after the other: what the shelf did until one of them wasn't read, or all were.
use Rattle.std.specs.Prelude.{◌*◌}
use Rattle.std.proofs.Common.{◌≡◌, ◌⊎◌, ℕ, ◌+◌, ◌<◌, ◌≤◌, length, Option, ◌∙◌, ap, refl, sym, subst, inl, inr, arith}
use Rattle.outer_io.specs.Outer.{Texts, Tells, HasText, HasNoText, RoseBy, RoseAbove}
use Rattle.tla_token.specs.Limits.{most_bytes}
use Rattle.tla_tree.specs.Tree.{Word}
use Rattle.run_answer.specs.Chosen.{Files, Which, of_module, of_config, of_third}
use Rattle.running.specs.InMemory.{which_of}
use Rattle.running.specs.declared.files.Which as code
use Rattle.running.specs.Names.{Names, name_of, IsBefore, IsThere, size_of}
use Rattle.running.specs.Answers.{StopsAt, IsReadFault, IsTooLong, IsUnread}
use Rattle.running.specs.Reading.{text_of, IsAt, WasRead, StopsReading, AllRead, Unread}
use Rattle.running.specs.declared.answer.RunAnswer.{RunAnswer}
use Rattle.running.specs.declared.answer.RunAnswer.TheVariants as answer
use Rattle.running.proofs.Told.{told, told_fact, told_one, not_lacking, AreTold, of_told}

-- ---- counts

rose_none : (a : ℕ) → RoseBy 0 a a
rose_none a = record { no_less = omega arith; no_more = omega arith }

rose_both : (m n a b c : ℕ) → RoseBy m a b → RoseBy n b c → RoseBy (m + n) a c
rose_both m n a b c r s =
    let p = r.no_less in
    let q = r.no_more in
    let u = s.no_less in
    let v = s.no_more in
    record { no_less = omega (arith, p, q, u, v); no_more = omega (arith, q, v) }

rose_above : (n a b c : ℕ) → a ≤ b → RoseAbove n b c → RoseAbove n a c
rose_above n a b c h r = omega (arith, h, r)

-- ---- files in their order

before_module : (P : Which → Type 0) (v : Which) → IsBefore v of_module → P v
before_module P of_module h = absurd h
before_module P of_config h = absurd h
before_module P of_third h = absurd h

before_config : (P : Which → Type 0) → P of_module → (v : Which) → IsBefore v of_config → P v
before_config P p of_module h = p
before_config P p of_config h = absurd h
before_config P p of_third h = absurd h

before_third : (P : Which → Type 0) → P of_module → P of_config → (v : Which) → IsBefore v of_third → P v
before_third P p q of_module h = p
before_third P p q of_config h = q
before_third P p q of_third h = absurd h

each_file : (P : Which → Type 0) → P of_module → P of_config → P of_third → (v : Which) → P v
each_file P p q r of_module = p
each_file P p q r of_config = q
each_file P p q r of_third = r

-- how long the files before one are
abbrev pub size_before : Files → Which → ℕ
size_before f of_module = 0
size_before f of_config = length f.source
size_before f of_third = length f.source + length f.config

size_within : (f : Files) (w : Which) → size_before f w + length (text_of f w) ≤ size_of f
size_within f of_module = omega arith
size_within f of_config = omega arith
size_within f of_third = omega arith

size_short : (f : Files) (w : Which) → ((v : Which) → IsBefore v w → length (text_of f v) ≤ most_bytes) → size_before f w ≤ 2 * most_bytes
size_short f of_module h = omega arith
size_short f of_config h = (let p = h of_module tt in omega (arith, p))
size_short f of_third h = (let p = h of_module tt in let q = h of_config tt in omega (arith, p, q))

size_same : (f g : Files) (w : Which) → ((v : Which) → IsBefore v w → text_of f v ≡ text_of g v) → size_before f w ≡ size_before g w
size_same f g of_module h = refl
size_same f g of_config h = ap length (h of_module tt)
size_same f g of_third h = (let p = ap length (h of_module tt) in let q = ap length (h of_config tt) in omega (arith, p, q))

-- ---- where a file isn't read

at_unread : (w : code.Which) (a : RunAnswer) → IsAt w a → IsUnread a
at_unread w answer.Fine h = h
at_unread w answer.Memory h = tt
at_unread w (answer.ReadFault v) h = tt
at_unread w answer.WriteFault h = h
at_unread w (answer.Refused v r) h = h
at_unread w (answer.TooLong v) h = tt
at_unread w (answer.Stopped s) h = h

at_stop : (w : code.Which) (a : RunAnswer) (u : Which) → IsAt w a → StopsAt a u → which_of w ≡ u
at_stop w answer.Fine u h k = absurd k
at_stop w answer.Memory u h k = absurd k
at_stop w (answer.ReadFault v) u h k = ap which_of (sym h) ∙ k
at_stop w answer.WriteFault u h k = absurd k
at_stop w (answer.Refused v r) u h k = absurd k
at_stop w (answer.TooLong v) u h k = ap which_of (sym h) ∙ k
at_stop w (answer.Stopped s) u h k = absurd k

-- ---- what the shelf did

module _ {H : Type 0} (texts : H → Option Texts) (given faults : H → ℕ) (n : Names) (f : Files) (shelf : H) where
  -- the files before this one were read
  pub record Before (w : Which) (after : H) : Type 0 where
    pub text : (v : Which) → IsBefore v w → HasText (texts shelf) (name_of n v) (text_of f v)
    pub short : (v : Which) → IsBefore v w → length (text_of f v) ≤ most_bytes
    pub rose : RoseBy (size_before f w) (given shelf) (given after)
    pub grows : given shelf ≤ given after
    pub same : texts after ≡ texts shelf
    pub kept : faults after ≡ faults shelf

  -- what is told after some were read was told before
  was_told : (mid : H) (name v : Word) → texts mid ≡ texts shelf → HasText (texts mid) name v → HasText (texts shelf) name v
  was_told mid name v e h = subst (λ (ts : Option Texts). HasText ts name v) e h

  pub none_read : Before of_module shelf
  none_read = record {
    text = before_module (λ v. HasText (texts shelf) (name_of n v) (text_of f v));
    short = before_module (λ v. length (text_of f v) ≤ most_bytes);
    rose = rose_none (given shelf);
    grows = omega arith;
    same = refl;
    kept = refl;
  }

  pub module_read : (after : H) → WasRead texts given faults n.source f.source shelf after → Before of_config after
  module_read after r = record {
    text = before_config (λ v. HasText (texts shelf) (name_of n v) (text_of f v)) r.text;
    short = before_config (λ v. length (text_of f v) ≤ most_bytes) r.short;
    rose = r.rose;
    grows = r.grows;
    same = r.same;
    kept = r.kept;
  }

  pub config_read : (mid after : H) → Before of_config mid → WasRead texts given faults n.config f.config mid after → Before of_third after
  config_read mid after b r =
      let p = b.grows in
      let q = r.grows in
      record {
        text = before_third (λ v. HasText (texts shelf) (name_of n v) (text_of f v)) (b.text of_module tt) (was_told mid n.config f.config b.same r.text);
        short = before_third (λ v. length (text_of f v) ≤ most_bytes) (b.short of_module tt) r.short;
        rose = rose_both (length f.source) (length f.config) (given shelf) (given mid) (given after) b.rose r.rose;
        grows = omega (arith, p, q);
        same = r.same ∙ b.same;
        kept = r.kept ∙ b.kept;
      }

  pub third_read : (mid after : H) → Before of_third mid → WasRead texts given faults n.third f.third mid after → AllRead texts given faults n f shelf after
  third_read mid after b r =
      let p = b.grows in
      let q = r.grows in
      let rose = rose_both (length f.source + length f.config) (length f.third) (given shelf) (given mid) (given after) b.rose r.rose in
      let less = rose.no_less in
      let more = rose.no_more in
      record {
        text = each_file (λ v. HasText (texts shelf) (name_of n v) (text_of f v)) (b.text of_module tt) (b.text of_config tt) (was_told mid n.third f.third b.same r.text);
        short = each_file (λ v. length (text_of f v) ≤ most_bytes) (b.short of_module tt) (b.short of_config tt) r.short;
        rose = record { no_less = omega (arith, less); no_more = omega (arith, more) };
        grows = omega (arith, p, q);
        same = r.same ∙ b.same;
        kept = r.kept ∙ b.kept;
      }

  -- this one wasn't read
  module _ (w : code.Which) (a : RunAnswer) (mid after : H) (b : Before (which_of w) mid) (s : StopsReading texts given faults (name_of n (which_of w)) w a mid after) where
    stop_fault : (v : code.Which) → a ≡ answer.ReadFault v → RoseBy 1 (faults shelf) (faults after) ⊎ HasNoText (texts shelf) (name_of n (which_of v))
    stop_fault v e =
        let at : v ≡ w = subst (IsAt w) e s.at in
        subst (λ u. RoseBy 1 (faults shelf) (faults after) ⊎ HasNoText (texts shelf) (name_of n (which_of u))) (sym at)
        (subst (λ (ts : Option Texts). RoseBy 1 (faults shelf) (faults after) ⊎ HasNoText ts (name_of n (which_of w))) b.same
        (subst (λ (k : ℕ). RoseBy 1 k (faults after) ⊎ HasNoText (texts mid) (name_of n (which_of w))) b.kept
        (s.read_fault (subst IsReadFault (sym e) tt))))

    stop_long : (v : code.Which) → a ≡ answer.TooLong v → RoseAbove most_bytes (given shelf) (given after)
    stop_long v e = rose_above most_bytes (given shelf) (given mid) (given after) b.grows (s.too_long (subst IsTooLong (sym e) tt))

    stop_longer : (v : code.Which) → a ≡ answer.TooLong v → Tells (texts shelf) (name_of n (which_of v)) (λ x. most_bytes < length x)
    stop_longer v e =
        let at : v ≡ w = subst (IsAt w) e s.at in
        subst (λ u. Tells (texts shelf) (name_of n (which_of u)) (λ x. most_bytes < length x)) (sym at)
        (subst (λ (ts : Option Texts). Tells ts (name_of n (which_of w)) (λ x. most_bytes < length x)) b.same
        (s.longer (subst IsTooLong (sym e) tt)))

    stop_earlier : (u v : Which) → StopsAt a u → IsBefore v u → IsThere (texts shelf) (name_of n v)
    stop_earlier u v h k =
        let before : IsBefore v (which_of w) = subst (IsBefore v) (sym (at_stop w a u s.at h)) k in
        record {
          told = not_lacking (texts shelf) (name_of n v) (text_of f v) (b.text v before);
          short = told (texts shelf) (name_of n v) (text_of f v) (λ x. length x ≤ most_bytes) (b.text v before) (b.short v before);
        }

    short_before : size_before f (which_of w) ≤ 2 * most_bytes
    short_before = size_short f (which_of w) b.short

    stop_within : IsTooLong a ⊎ (given after ≤ given mid + most_bytes) → IsTooLong a ⊎ (given after ≤ given shelf + 3 * most_bytes)
    stop_within (inl h) = inl h
    stop_within (inr h) = (let p = short_before in let q = b.rose.no_more in inr (omega (arith, h, p, q)))

    stop_counted : IsReadFault a ⊎ (faults after ≡ faults mid) → IsReadFault a ⊎ (faults after ≡ faults shelf)
    stop_counted (inl h) = inl h
    stop_counted (inr h) = inr (h ∙ b.kept)

    -- no byte twice
    stop_once : (g : Files) → AreTold (texts shelf) n g → given after ≤ given shelf + size_of g
    stop_once g t =
        let name = name_of n (which_of w) in
        let once : Tells (texts shelf) name (λ x. given after ≤ given mid + length x) =
        subst (λ (ts : Option Texts). Tells ts name (λ x. given after ≤ given mid + length x)) b.same s.read_once in
        let own = told_fact (texts shelf) name (text_of g (which_of w)) (λ x. given after ≤ given mid + length x) (t (which_of w)) once in
        let size = size_same f g (which_of w) (λ v h. told_one (texts shelf) (name_of n v) (text_of f v) (text_of g v) (b.text v h) (t v)) in
        let fits = size_within g (which_of w) in
        let more = b.rose.no_more in
        omega (arith, own, size, fits, more)

    pub file_unread : Unread texts given faults n a shelf after
    file_unread =
        let short = short_before in
        let told = b.rose.no_more in
        let kept = b.kept in
        let more = b.grows in
        let few = s.read_few in
        let gives = s.given_grows in
        let rise = s.read_faults_grow in
        let one = s.one_read_fault in
        record {
          unread = at_unread w a s.at;
          read_fault = stop_fault;
          too_long = stop_long;
          longer = stop_longer;
          earlier = stop_earlier;
          texts_stay = s.texts_stay ∙ b.same;
          within = stop_within s.within;
          read_once = of_told (texts shelf) n _ stop_once;
          read_few = omega (arith, few, short, told);
          given_grows = omega (arith, more, gives);
          read_faults_grow = omega (arith, rise, kept);
          read_counted = stop_counted s.read_counted;
          one_read_fault = omega (arith, one, kept);
        }
