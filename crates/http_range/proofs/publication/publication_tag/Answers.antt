use Rattle.std.proofs.Common.{◌≡◌, true, false, List, ℕ, Option, Some, None, refl, arith, ap, ◌∙◌}
use Rattle.std.specs.Prelude.{IfNone, IsSome}
use Rattle.http_fields.specs.Tag.{is_kept_tag}
use Rattle.http_range.specs.Book.{publication_tag}
use Rattle.http_range.proofs.BookLemmas.{publication_tags_kept}
use Rattle.http_range.proofs.publication.publication_tag.Goals as goal

-- what fails only on another text succeeds
some_of : {A : Type 0} (o : Option A) (text : List ℕ) → IfNone o (is_kept_tag text ≡ false) → is_kept_tag text ≡ true → IsSome o
some_of None text none kept = absurd (cc)
some_of (Some x) text none kept = refl

pub unwrap-requires : goal.unwrap-requires
unwrap-requires c =
    let same : c.as_slice.result.now ≡ publication_tag c.args.epoch c.args.number = c.as_slice.ensures.value ∙ c.publication_text-text.ensures in
    some_of c.new.result c.as_slice.result.now c.new.ensures.none
    (ap is_kept_tag same ∙ publication_tags_kept c.law_parts_are_read.ensures c.args.epoch c.args.number (omega arith) (omega arith))
