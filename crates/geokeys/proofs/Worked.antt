-- The definitions at small directories, by computation.
use Rattle.std.proofs.Common.{◌≡◌, ℕ, ◌/◌, ◌%◌, List, [], ◌∷◌, Some, None, refl, inl, inr, arith}
use Rattle.std.specs.List.{flat_map}
use Rattle.tiff_dir.specs.declared.order.Order.{Order}
use Rattle.tiff_dir.specs.declared.order.Order.TheVariants.{Little, Big}
use Rattle.tiff_dir.specs.declared.fault.FileFault.TheVariants.{KeyHead, KeyOrder, KeyPlace}
use Rattle.tiff_dir.specs.Number.{number_in}
use Rattle.tiff_dir.specs.Keys.{KeySource, key_count, key_number, IsFaultOfKeys}
use Rattle.geokeys.specs.Doubles.{doubles_in}
use Rattle.geokeys.specs.Keys.{number_at, key_source}

abbrev two : Order → ℕ → List ℕ
two Little n = n % 256 ∷ n / 256 ∷ []
two Big n = n / 256 ∷ n % 256 ∷ []

-- ---- three keys

abbrev three : Order → List ℕ
three o = flat_map (two o) (1 ∷ 1 ∷ 9 ∷ 3 ∷ 1024 ∷ 0 ∷ 1 ∷ 2 ∷ 1026 ∷ 34737 ∷ 7 ∷ 0 ∷ 2057 ∷ 34736 ∷ 1 ∷ 0 ∷ [])

abbrev low_first : List ℕ
low_first = 8 ∷ 7 ∷ 6 ∷ 5 ∷ 4 ∷ 3 ∷ 2 ∷ 1 ∷ []

abbrev high_first : List ℕ
high_first = 1 ∷ 2 ∷ 3 ∷ 4 ∷ 5 ∷ 6 ∷ 7 ∷ 8 ∷ []

abbrev source : Order → KeySource
source o = key_source o (three o) low_first high_first

count_little : key_count (source Little) ≡ Some 3
unfolding number_at number_in
count_little = refl

count_big : key_count (source Big) ≡ Some 3
unfolding number_at number_in
count_big = refl

numbers_little : (key_number (source Little) 0 0 ≡ Some 1024) × (key_number (source Little) 1 1 ≡ Some 34737) × (key_number (source Little) 1 2 ≡ Some 7) × (key_number (source Little) 2 3 ≡ Some 0) × (key_number (source Little) 3 0 ≡ None)
unfolding number_at number_in key_number
numbers_little = (refl, refl, refl, refl, refl)

numbers_big : (key_number (source Big) 0 3 ≡ Some 2) × (key_number (source Big) 2 0 ≡ Some 2057) × (key_number (source Big) 2 1 ≡ Some 34736) × (key_number (source Big) 3 1 ≡ None)
unfolding number_at number_in key_number
numbers_big = (refl, refl, refl, refl)

items_little : doubles_in Little low_first ≡ high_first ∷ []
unfolding doubles_in
items_little = refl

items_big : doubles_in Big high_first ≡ high_first ∷ []
unfolding doubles_in
items_big = refl

-- ---- directories with a fault, and no other field

abbrev alone : List ℕ → KeySource
alone ns = key_source Little (flat_map (two Little) ns) [] []

three_numbers : IsFaultOfKeys (alone (1 ∷ 1 ∷ 0 ∷ [])) KeyHead
three_numbers = inr (inr (inl (omega arith)))

key_missing : IsFaultOfKeys (alone (1 ∷ 1 ∷ 0 ∷ 1 ∷ [])) KeyHead
unfolding number_at number_in
key_missing = inr (inr (inr refl))

revision_0 : IsFaultOfKeys (alone (1 ∷ 0 ∷ 0 ∷ 0 ∷ [])) KeyHead
unfolding number_at number_in
revision_0 = inr (inl (λ e. omega (arith, e)))

two_values : IsFaultOfKeys (alone (1 ∷ 1 ∷ 0 ∷ 1 ∷ 1024 ∷ 0 ∷ 2 ∷ 5 ∷ [])) KeyPlace
unfolding number_at number_in key_number
two_values = (0, inl (refl, λ e. omega (arith, e)))

no_such_field : IsFaultOfKeys (alone (1 ∷ 1 ∷ 0 ∷ 1 ∷ 1024 ∷ 34735 ∷ 1 ∷ 0 ∷ [])) KeyPlace
unfolding number_at number_in key_number
no_such_field = (0, inr (inr ((λ e. omega (arith, e)), (λ e. omega (arith, e)), (λ e. omega (arith, e)))))

past_the_end : IsFaultOfKeys (alone (1 ∷ 1 ∷ 0 ∷ 1 ∷ 2057 ∷ 34736 ∷ 1 ∷ 0 ∷ [])) KeyPlace
unfolding number_at number_in key_number
past_the_end = (0, inr (inl (omega arith, omega arith)))

same_key : IsFaultOfKeys (alone (1 ∷ 1 ∷ 0 ∷ 2 ∷ 1024 ∷ 0 ∷ 1 ∷ 1 ∷ 1024 ∷ 0 ∷ 1 ∷ 1 ∷ [])) KeyOrder
unfolding number_at number_in key_number
same_key = (0, refl)
