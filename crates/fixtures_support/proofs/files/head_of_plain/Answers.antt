use Rattle.std.proofs.Common.{◌≡◌, ◌++◌, ◌*◌, ℕ, List, replicate, refl, ap, ◌∙◌}
use Rattle.fixtures_support.specs.declared.build.Order.TheVariants.{Little}
use Rattle.fixtures_support.specs.Files.{plain_fields, plain_head, numbers, tile_places}
use Rattle.fixtures_support.specs.Tiff.{header, directory}
use Rattle.fixtures_support.proofs.files.head_of_plain.Goals as goal

head_is : (width length side n first count size : ℕ) (sizes : List ℕ) → count ≡ n → size ≡ side * side → sizes ≡ replicate n size
    → ((header Little 8 ++ directory Little (plain_fields width length side count) 0) ++ tile_places first size count) ++ numbers 4 sizes ≡ plain_head width length side n first
unfolding plain_head
head_is width length side n first count size sizes count_is size_is sizes_are = rw (sizes_are, size_is, count_is) refl

pub returns : goal.returns
returns c =
    let size = c.from.result * c.from-2.result in
    let square : size ≡ c.args.side * c.args.side = rw (c.from.ensures, c.from-2.ensures) refl in
    let sizes : c.deref.result.now ≡ replicate c.args.tiles size = c.deref.ensures.value ∙ c.in_ok-sizes.ensures.items_if_clones_equal (λ k e. e) ∙ ap (λ n. replicate n size) c.from-3.ensures in
    rw (c.in_ok-push_longs.ensures, c.in_ok-push_offsets.ensures, c.in_ok-push_directory.ensures, c.in_ok-push_header.ensures, c.new-out.ensures.items, c.short.ensures, c.short-2.ensures, c.short-3.ensures, c.short-4.ensures, c.short-5.ensures, c.short-6.ensures, c.short-7.ensures, c.outside.ensures, c.outside-2.ensures)
    (head_is c.args.sides.0 c.args.sides.1 c.args.side c.args.tiles c.args.first c.from-count.result size c.deref.result.now c.from-count.ensures square sizes)
