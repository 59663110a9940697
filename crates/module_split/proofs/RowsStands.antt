-- Segments in memory, seen as those of a walk, by computation.
use Rattle.std.proofs.Common.{◌≡◌, true, false, [], ◌∷◌, Some, None, refl, arith}
use Rattle.std.specs.Prelude.{codes}
use Rattle.tla_token.specs.declared.part.Class.TheVariants as class
use Rattle.tla_token.specs.Tokens.{lexeme}
use Rattle.tla_token.specs.Lexemes.{name}
use Rattle.tla_token.specs.Offences.{sound}
use Rattle.module_split.specs.declared.stand.Shape.TheVariants as shape
use Rattle.module_split.specs.declared.stand.Stand.{Stand}
use Rattle.module_tree.specs.TextFront.{Text}
use Rattle.module_split.specs.declared.walk.Walker.{Walker}
use Rattle.module_tree.specs.Walk.{free, part, region, tail, segment_at, at_start}
use Rattle.module_split.specs.StandsSeen.{segment_of, segment_seen, stands_seen, before_end, IsSolid}
use Rattle.module_split.specs.Walking.{shape_of, outline, first_by, front_of, end_at, IsKnown, state_of, IsAt, GoesOn}

abbrev text : Text
text = codes "x ====\n"

abbrev word : Stand
word = record { at = 0; len = 1; place = record { line = 1; col = 1 }; shape = shape.Part class.Name }

abbrev rest : Stand
rest = record { at = 2; len = 5; place = record { line = 1; col = 3 }; shape = shape.Tail }

region_of : segment_of (shape.Region 2) (codes "abcd") ≡ region (codes "ab") (codes "cd")
region_of = refl

word_seen : segment_seen text word ≡ part (sound (lexeme (name (codes "x")) (codes "x")))
word_seen = refl

both_seen : stands_seen text (word ∷ rest ∷ [])
    ≡ record { at = 0; place = record { line = 1; col = 1 }; is = part (sound (lexeme (name (codes "x")) (codes "x"))) }
    ∷ record { at = 2; place = record { line = 1; col = 3 }; is = tail (codes "====\n") }
    ∷ []
both_seen = refl

region_before : before_end (shape.Region 2) ≡ 2
region_before = refl

rest_solid : IsSolid text rest
rest_solid = record { within = omega arith; ended = omega arith; some = omega arith; quoted = λ e. absurd cc }

-- ---- one segment further

region_shape : shape_of (region (codes "ab") (codes "cd")) ≡ shape.Region 2
region_shape = refl

tail_outline : outline (tail (codes "====\n")) ≡ record { shape = shape.Tail; len = 5 }
tail_outline = refl

line_first : first_by (segment_at at_start) (codes "x\ny") ≡ Some (free (codes "x\n"))
line_first = refl

line_front : front_of (segment_at at_start) (codes "x\ny") ≡ Some (record { shape = shape.Free; len = 2 })
line_front = refl

second_line_ends : end_at false (codes "a\n\\* END TRANSLATION\n") ≡ Some 2
second_line_ends = refl

first_line_not_sought : end_at false (codes "\\* END TRANSLATION\n") ≡ None
first_line_not_sought = refl

-- in a module, at its end, and after it
abbrev before_tail : Walker
before_tail = record { at = 2; place = record { line = 1; col = 3 }; headed = true; marked = false; known = record { endless = true; wordless = 0 } }

abbrev after_tail : Walker
after_tail = record { at = 7; place = record { line = 2; col = 1 }; headed = true; marked = false; known = record { endless = true; wordless = 0 } }

tail_state : state_of before_tail ≡ record { at = 2; place = record { line = 1; col = 3 }; headed = true; marked = false }
tail_state = refl

tail_known : IsKnown before_tail.known (codes "====\n")
tail_known = ((λ e. refl), (omega arith, λ l. absurd (omega arith)))

tail_at : IsAt text before_tail
tail_at = record { within = omega arith; line = omega arith; col = omega arith; known = tail_known }

end_at_text : IsAt text after_tail
end_at_text = record { within = omega arith; line = omega arith; col = omega arith; known = ((λ e. refl), (omega arith, λ l. absurd (omega arith))) }

past_tail : GoesOn text before_tail rest after_tail
past_tail = record { further = omega arith; at = end_at_text; solid = rest_solid; same = refl }
