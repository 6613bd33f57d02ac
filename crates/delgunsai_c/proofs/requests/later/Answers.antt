use Rattle.std.proofs.Common.{rules, ◌≡◌, ◌<◌, ◌≤◌, ℕ, List, Vec, Global, Some, None, arith, get_or, length, map, refl, inl, ap, ◌∙◌}
use Rattle.std.specs.Prelude.{slice_get}
use Rattle.std.proofs.lemmas.List.{length-map}
use Rattle.std.specs.Option.{option_map}
use Rattle.std.proofs.lemmas.Option.{slice_get-map, slice_get_past, slice_get_read}
use Rattle.delgunsai_c.proofs.requests.later.Goals as goal

-- the bytes of these texts
abbrev bytes_of : List (Vec ℕ Global) → List (List ℕ)
bytes_of texts = map (λ (t : Vec ℕ Global). t.items) texts

-- there are so many early requests, and this is the one at that place
pub returns-in-Some : goal.returns-in-Some
returns-in-Some c =
    let there = c.in-Some.ensures.lookup in
    let index = c.args.index in
    let texts = c.in-Ok.texts.items in
    let text = c.in-Some.text.now in
    let below : index < length texts = rw c.deref.ensures.value at there.3.0 in
    let is : text ≡ get_or texts index text = rw c.deref.ensures.value at there.1 in
    let found : slice_get (bytes_of texts) index ≡ Some text.items =
    slice_get-map (λ (t : Vec ℕ Global). t.items) texts index ∙ ap (option_map (λ (t : Vec ℕ Global). t.items)) (slice_get_read texts (length texts) index text refl below is) in
    inl (record {
      texts = bytes_of texts;
      early = c.in-Ok.ensures.requests;
      end = λ less none. absurd (omega (arith, below, none, length-map texts (λ (t : Vec ℕ Global). t.items)));
      gives = rw found (search rules);
      stays = refl;
    })

-- there are no more of them
pub returns : goal.returns
returns c =
    let there = c.in-None.ensures.lookup in
    let index = c.args.index in
    let texts = c.in-Ok.texts.items in
    let past : length texts ≤ index = rw c.deref.ensures.value at there.3 in
    let none : slice_get (bytes_of texts) index ≡ None =
    slice_get-map (λ (t : Vec ℕ Global). t.items) texts index ∙ ap (option_map (λ (t : Vec ℕ Global). t.items)) (slice_get_past texts index past) in
    inl (record {
      texts = bytes_of texts;
      early = c.in-Ok.ensures.requests;
      end = λ less none. c.in-Ok.ensures.end (omega (arith, past, less, c.saturating_add.ensures));
      gives = rw none (refl, refl);
      stays = refl;
    })
