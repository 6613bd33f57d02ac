-- Worked numbers and lines.
use Rattle.std.proofs.Common.{◌≡◌, true, false, [], ◌∷◌, codes, Some, None, refl}
use Rattle.tiff_dir.specs.declared.query.Pick.TheVariants.{Level}
use Rattle.tiff_dir.specs.declared.query.Query.TheVariants.{Window}
use Rattle.world.specs.declared.event.Event.TheVariants.{Deliver, Epoch, Open}
use Rattle.scripts.specs.Script.{Anything, IsEventOf, cut, is_plain, is_read, lines, number, words}

leading_zeros : number (codes "007") ≡ Some 7
leading_zeros = refl

greatest : number (codes "4294967295") ≡ Some 4294967295
greatest = refl

too_great : number (codes "4294967296") ≡ None
too_great = refl

no_digit : number [] ≡ None
no_digit = refl

a_sign : number (codes "+7") ≡ None
a_sign = refl

all_of_it : cut (codes "-") ≡ Some None
all_of_it = refl

none_of_it : cut (codes "0") ≡ Some (Some 0)
none_of_it = refl

three_lines : lines (codes "epoch 1\n\n# no event") ≡ codes "epoch 1" ∷ [] ∷ codes "# no event" ∷ []
three_lines = refl

last_line_ended : lines (codes "epoch 1\n") ≡ codes "epoch 1" ∷ [] ∷ []
last_line_ended = refl

empty_line : is_read [] ≡ false
empty_line = refl

comment : is_read (codes "# no event") ≡ false
comment = refl

comment_behind_space : is_read (codes " # an event?") ≡ true
comment_behind_space = refl

doubled_space : words (codes "epoch  1") ≡ codes "epoch" ∷ [] ∷ codes "1" ∷ []
doubled_space = refl

single_spaces : is_plain (codes "epoch 1") ≡ true
single_spaces = refl

spaces_doubled : is_plain (codes "epoch  1") ≡ false
spaces_doubled = refl

space_at_the_end : is_plain (codes "epoch 1 ") ≡ false
space_at_the_end = refl

return_at_the_end : is_plain (codes "epoch 1\r") ≡ false
return_at_the_end = refl

epoch : IsEventOf Anything (codes "epoch 007") (Epoch 7)
epoch = (refl, (codes "007", refl, refl))

window : IsEventOf Anything (codes "open 0 level 0 2 1 3 2") (Open 0 (Window 2 1 3 2 (Level 0)))
window = (refl, (codes "0", codes "level" ∷ codes "0" ∷ codes "2" ∷ codes "1" ∷ codes "3" ∷ codes "2" ∷ [], refl, refl, (codes "level", codes "0", codes "2", codes "1", codes "3", codes "2", refl, (refl, refl), (refl, (refl, (refl, (refl, tt)))))))

delivery : IsEventOf Anything (codes "deliver 3 0 -") (Deliver 3 0 None)
delivery = (refl, (codes "3", codes "0", codes "-", refl, refl, refl, refl))
