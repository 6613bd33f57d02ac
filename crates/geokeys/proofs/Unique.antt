-- Bytes have one list of keys.
use Rattle.std.proofs.Common.{◌≡◌, ℕ, suc, ◌+◌, ◌*◌, List, [], ◌∷◌, length, Option, Some, sym, ◌∙◌, refl, ap, arith}
use Rattle.std.specs.Option.{IfSome}
use Rattle.std.specs.List.{slice_get, slice_range}
use Rattle.tiff_dir.specs.declared.order.Order.{Order}
use Rattle.tiff_dir.specs.Keys.{KeySource}
use Rattle.geokeys.specs.declared.geo.Geo.{Geo}
use Rattle.geokeys.specs.declared.geo.Key.{Key}
use Rattle.geokeys.specs.declared.geo.KeyValue.{KeyValue}
use Rattle.geokeys.specs.declared.geo.KeyValue.TheVariants.{Short, Doubles, Ascii}
use Rattle.geokeys.specs.Doubles.{doubles_in}
use Rattle.geokeys.specs.Keys.{IsValue, IsKey, AreKeys}
use Rattle.geokeys.specs.Same.{Number, Items, Text, content_of, key_content, contents}

one_number : (o : Option ℕ) (a b : ℕ) → o ≡ Some a → o ≡ Some b → a ≡ b
one_number o a b is other = let e : Some a ≡ Some b = sym is ∙ other in cc

one_value : (order : Order) (doubles ascii : List ℕ) (l m c d f g : ℕ) (a b : KeyValue) → l ≡ m → c ≡ d → f ≡ g → IsValue order doubles ascii l c f a → IsValue order doubles ascii m d g b →
    content_of a ≡ content_of b
one_value order doubles ascii l m c d f g (Short a) (Short b) ls cs fs is other = ap Number (is.1 ∙ fs ∙ sym other.1)
one_value order doubles ascii l m c d f g (Doubles a) (Doubles b) ls cs fs is other =
    ap Items (is.1 ∙ ap (λ k. doubles_in order (slice_range doubles (8 * k) (8 * (k + c)))) fs ∙ ap (λ k. doubles_in order (slice_range doubles (8 * g) (8 * (g + k)))) cs ∙ sym other.1)
one_value order doubles ascii l m c d f g (Ascii a) (Ascii b) ls cs fs is other =
    ap Text (is.1 ∙ ap (λ k. slice_range ascii k (k + c)) fs ∙ ap (λ k. slice_range ascii g (g + k)) cs ∙ sym other.1)
one_value order doubles ascii l m c d f g (Short a) (Doubles b) ls cs fs is other = absurd (omega (arith, is.0, other.0, ls))
one_value order doubles ascii l m c d f g (Short a) (Ascii b) ls cs fs is other = absurd (omega (arith, is.0, other.0, ls))
one_value order doubles ascii l m c d f g (Doubles a) (Short b) ls cs fs is other = absurd (omega (arith, is.0, other.0, ls))
one_value order doubles ascii l m c d f g (Doubles a) (Ascii b) ls cs fs is other = absurd (omega (arith, is.0, other.0, ls))
one_value order doubles ascii l m c d f g (Ascii a) (Short b) ls cs fs is other = absurd (omega (arith, is.0, other.0, ls))
one_value order doubles ascii l m c d f g (Ascii a) (Doubles b) ls cs fs is other = absurd (omega (arith, is.0, other.0, ls))

one_key : (s : KeySource) (order : Order) (doubles ascii : List ℕ) (i : ℕ) (a b : Key) → IsKey s order doubles ascii i a → IsKey s order doubles ascii i b →
    key_content a ≡ key_content b
one_key s order doubles ascii i a b is other =
    let id : a.id ≡ b.id = one_number _ a.id b.id is.id_is other.id_is in
    let value : content_of a.value ≡ content_of b.value = one_value order doubles ascii is.location other.location is.count other.count is.first other.first a.value b.value
    (one_number _ is.location other.location is.location_is other.location_is) (one_number _ is.count other.count is.count_is other.count_is)
    (one_number _ is.first other.first is.first_is other.first_is) is.value_is other.value_is in
    λ i. (id i, value i)

-- two lists of the same length whose items each say the same
one_list : (P : ℕ → Key → Type 0) (xs ys : List Key) → ((i : ℕ) (a b : Key) → P i a → P i b → key_content a ≡ key_content b) → length xs ≡ length ys →
    ((i : ℕ) → IfSome (slice_get xs i) (P i)) → ((i : ℕ) → IfSome (slice_get ys i) (P i)) → contents xs ≡ contents ys
one_list P [] [] same size each other = refl
one_list P [] (b ∷ ys) same size each other = absurd (omega (arith, size))
one_list P (a ∷ xs) [] same size each other = absurd (omega (arith, size))
one_list P (a ∷ xs) (b ∷ ys) same size each other =
    let head = same 0 a b (each 0) (other 0) in
    let rest = one_list (λ i. P (suc i)) xs ys (λ i. same (suc i)) (omega (arith, size)) (λ i. each (suc i)) (λ i. other (suc i)) in
    λ i. head i ∷ rest i

pub law_one_geo : (s : KeySource) (order : Order) (doubles ascii : List ℕ) (a b : Geo) → AreKeys s order doubles ascii a → AreKeys s order doubles ascii b →
    (a.minor ≡ b.minor) × (contents a.keys.items ≡ contents b.keys.items)
law_one_geo s order doubles ascii a b is other = (
  is.minor_is ∙ sym other.minor_is,
  one_list (IsKey s order doubles ascii) a.keys.items b.keys.items (one_key s order doubles ascii) (is.count_is ∙ sym other.count_is) is.each other.each,
)
