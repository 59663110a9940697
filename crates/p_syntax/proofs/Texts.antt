-- A whole algorithm is read as both syntaxes have it, with `end algorithm` behind its parts.
use Rattle.std.proofs.Common.{◌≡◌, ℕ, suc, ◌*◌, true, List, length, sym, ap, ◌∙◌, arith, codes}
use Rattle.tla_token.specs.declared.token.Tokens.{Tokens}
use Rattle.tla_tree.specs.Lexical.{Token}
use Rattle.tla_tree.specs.Reader.{Out, Reader, ◌>>=◌, then_read, gives}
use Rattle.expr_nodes.specs.Ahead.{ahead}
use Rattle.pcal_tree.specs.Grammar.{Around, to_end, Text}
use Rattle.syntax_reading.specs.TokenReaders.{a_key, a_name, Parts, limited_parts}
use Rattle.syntax_reading.specs.ReadParts.{read_section}
use Rattle.syntax_reading.specs.ReadAround.{read_head, to_last}
use Rattle.syntax_reading.specs.ReadRoutines.{read_define, read_macros, read_procedures}
use Rattle.algorithm_reader.specs.PartsRead.{parts_in}
use Rattle.algorithm_reader.proofs.Between.{ahead_length}
use Rattle.syntax_reading.proofs.OneAfter.{then_same, then_assoc}
use Rattle.syntax_reading.specs.ReadWhole.{read_whole}
use Rattle.p_reading.specs.ReadAlgorithm.{ways, read_main, read_text, read_limited_algorithm}
use Rattle.p_reading.specs.Around.{closing, frames}

closed_then : {B : Type 0} (ts : List Token) (g : Around → Reader B) → then_read (closing ts) g ≡ then_read (a_key (codes "end") ts) (λ e. a_key (codes "algorithm") >>= λ f. g (to_end e f))
closed_then ts g =
    then_assoc (a_key (codes "end") ts) (λ e. a_key (codes "algorithm") >>= λ f. gives (to_end e f)) g ∙ then_same (a_key (codes "end") ts) _ _ (λ e us. then_assoc (a_key (codes "algorithm") us) (λ f. gives (to_end e f)) g)

text_is_whole : (m : Parts) (n : ℕ) (ts : List Token) → read_text m n ts ≡ read_whole m (ways m) (frames m) n ts
text_is_whole m n ts =
    then_same (read_head ts) _ _
    (λ h us. then_same (a_name us) _ _
    (λ x vs. then_same (read_section true m n vs) _ _
    (λ ss xs. then_same (read_define (ways m) n xs) _ _
    (λ d ys. then_same (read_macros (ways m) n ys) _ _
    (λ ms zs. then_same (read_procedures m (ways m) n zs) _ _
    (λ ps cs. then_same (read_main m n cs) _ _ (λ b ds. sym (closed_then ds (λ a. gives (record { head = h; name = x; around = a; variables = ss; define = d; macros = ms; procedures = ps; main = b }))))))))))

abbrev pub whole : Tokens → Out Text
whole v = read_whole (parts_in v) (ways (parts_in v)) (frames (parts_in v)) (suc (length v.items.items)) (ahead v 0)

pub limited_is_whole : (v : Tokens) → read_limited_algorithm (ahead v 0) ≡ then_read (whole v) to_last
limited_is_whole v =
    let all : length (ahead v 0) ≡ length v.items.items = omega (arith, ahead_length v 0 (omega arith)) in
    ap (λ (k : ℕ). then_read (read_text (limited_parts (4 * k)) (suc k) (ahead v 0)) to_last) all ∙ ap (λ (o : Out Text). then_read o to_last) (text_is_whole (parts_in v) (suc (length v.items.items)) (ahead v 0))
