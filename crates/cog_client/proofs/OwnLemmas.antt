-- The whole answer to what a client asks for brings it on.
use Rattle.std.proofs.Common.{◌≡◌, ℕ, ◌+◌, ◌-◌, ◌*◌, ◌<◌, ◌≤◌, Bool, true, false, cond, min, List, [], ◌∷◌, length, take, drop, Option, Some, None, Result, Ok, Err, refl, sym, ap, ◌∙◌, subst, arith, inl, inr, append-nil, length-take, length-drop}
use Rattle.std.specs.Prelude.{IfOk, IsOkAnd, nat_le, nat_lt, not, ◌==◌}
use Rattle.std.specs.List.{slice_range}
use Rattle.std.specs.Option.{option_map}
use Rattle.std.specs.Str.{bytes_eq}
use Rattle.std.proofs.lemmas.Bool.{and_from, and_parts, cases_Bool, leb-true, ltb-true}
use Rattle.std.proofs.lemmas.Bool.Decides.{nat_tests}
use Rattle.std.proofs.lemmas.List.{length-append, take-append-drop, take_all}
use Rattle.std.proofs.lemmas.Option.{none-some, same_Some}
use Rattle.std.proofs.lemmas.Slice.Eq.{bytes_eq-Decides}
use Rattle.extents.specs.declared.span.Span.{Span}
use Rattle.extents.specs.Extent.{Extent}
use Rattle.http_range.specs.declared.range.Resolved.TheVariants.{Part, Whole}
use Rattle.http_range.specs.declared.reading.Why.{Why}
use Rattle.http_range.specs.declared.reading.Why.TheVariants.{Cut}
use Rattle.http_range.specs.Ask.{request_with}
use Rattle.http_range.specs.Book.{IsPublication, Publication}
use Rattle.http_range.specs.Honest.{IsPieceOf as IsOf}
use Rattle.http_range.specs.Laws.{RequestsAreAnswered, FrontsAreRead, PublishedIsNamed}
use Rattle.http_range.specs.Piece.{SeenPiece}
use Rattle.http_range.specs.Reading.{front_seen, reply_seen, ReadsAnswer}
use Rattle.http_range.specs.declared.reply.Reply.TheVariants.{R416}
use Rattle.http_range.specs.Reply.{head_text}
use Rattle.http_range.specs.Response.{Response, IsAnswer, is_current, refused, response_to_client, serve_part, text_of, ending}
use Rattle.extents.specs.Block.{blocks, first_block, is_whole}
use Rattle.range_cache.specs.Cache.{Blocks, numbers}
use Rattle.range_cache.specs.Laws.{FoundAreThere, MissingIsFew, MissingIsFewer, MissingIsSame, OnlyWholeAreBrought, StoredStay, WholeAreBrought, WholeAreFew}
use Rattle.range_cache.specs.Numbers.{AreGone, has}
use Rattle.range_cache.specs.Piece.{IsPieceOf, is_brought, whole_blocks}
use Rattle.cog_client.specs.declared.case.Case.{Case}
use Rattle.cog_client.specs.declared.case.Case.TheVariants as cases
use Rattle.cog_client.specs.declared.delivered.Delivered.{Delivered}
use Rattle.cog_client.specs.declared.delivered.Ignored.TheVariants.{NotAsked, OtherLength, OtherRevision}
use Rattle.cog_client.specs.declared.delivered.Delivered.TheVariants.{Took, Restarted}
use Rattle.cog_client.specs.Case.{Revision, case_of, is_beside}
use Rattle.cog_client.specs.Take.{Holding, IsIgnored, asked_or_first, brought_by, revision_of_piece, stored_of, take as taken, take_by}
use Rattle.cog_client.specs.Client.{ClientState, Knows, asked_of, blocks_of, fields_of, holding, host_of, name_of, revision_of, tag_of, to_come, closes}
use Rattle.cog_client.specs.Keeps.{AsksFor, DeliversKeeping, Lacks, StaysOf}
use Rattle.cog_reader.specs.Going.{AreSame}
use Rattle.cog_client.specs.Progress.{BringsOn, IsGiven, IsOwnAnswer, IsServed, OwnAnswersAreServed, ServedBringOn, left, left_of}
use Rattle.cog_client.proofs.DeliverLemmas.{piece_at}
use Rattle.cog_client.proofs.ProgressLemmas.{LengthsAreKnown, first_split, inside, known_length, left_on, missing_inside}

-- ---- what the whole answer is read as

pub whole_seen : (s : Response) → front_seen s.reply s.close s.body (length (text_of s)) ≡ reply_seen s.reply s.body
whole_seen s =
    let n = length (head_text s.reply s.close) in
    let size = length-append (head_text s.reply s.close) s.body in
    let enough : nat_le n (length (text_of s)) ≡ true = grind (arith, nat_tests, size) in
    let rest : length (text_of s) - n ≡ length s.body = omega (arith, size) in
    ap (λ (b : Bool). cond b (reply_seen s.reply (take (length (text_of s) - n) s.body)) (Err Cut)) enough
    ∙ ap (λ k. reply_seen s.reply (take k s.body)) rest
    ∙ ap (reply_seen s.reply) (take_all (length s.body) s.body (omega arith))

-- the bytes a to b of a publication, as a 206 brings them, and all of them, as a 200 does
abbrev pub part_of : Publication → ℕ → ℕ → SeenPiece
part_of p a b = record { tag = p.tag; whole = false; first = a; complete = length p.file; body = slice_range p.file a (b + 1) }

abbrev pub all_of : Publication → SeenPiece
all_of p = record { tag = p.tag; whole = true; first = 0; complete = length p.file; body = p.file }

-- what this server brings of it to a request for bytes of it under a tag, or none
abbrev pub piece_for : Publication → Span → Option (List ℕ) → SeenPiece
piece_for p s known = cond (is_current known p.tag) (part_of p s.first (min s.last (length p.file - 1))) (all_of p)

-- the bytes a to b of a publication as a reply carries them
abbrev sent_part : Publication → ℕ → ℕ → SeenPiece
sent_part p a b = record {
  tag = p.tag;
  whole = false;
  first = a;
  complete = length p.file;
  body = take (b - a + 1) (take (b - a + 1) (drop a p.file));
}

sent_is_part : (p : Publication) (a b : ℕ) → a ≤ b → sent_part p a b ≡ part_of p a b
sent_is_part p a b low =
    let n = b - a + 1 in
    ap (λ (body : List ℕ). record { tag = p.tag; whole = false; first = a; complete = length p.file; body = body })
    (take_all n (take n (drop a p.file)) (omega (arith, length-take n (drop a p.file))) ∙ ap (λ k. take k (drop a p.file)) (let same : n ≡ b + 1 - a = omega (arith, low) in same))

sent_is_all : (p : Publication) → record { tag = p.tag; whole = true; first = 0; complete = length p.file; body = take (length p.file) p.file } ≡ all_of p
sent_is_all p =
    ap (λ (body : List ℕ). record { tag = p.tag; whole = true; first = 0; complete = length p.file; body = body }) (take_all (length p.file) p.file (omega arith))

part_seen : (p : Publication) (first last : ℕ) (current fits : Bool) → (current ≡ true → fits ≡ true) → (current ≡ true → first ≤ min last (length p.file - 1))
    → let s : Response = cond current (cond fits (serve_part (Part first (min last (length p.file - 1))) p true) (refused (R416 (length p.file)) true)) (serve_part Whole p true) in
    reply_seen s.reply s.body ≡ Ok (cond current (part_of p first (min last (length p.file - 1))) (all_of p))
part_seen p first last true true fit low = ap Ok (sent_is_part p first (min last (length p.file - 1)) (low refl))
part_seen p first last true false fit low = let e = fit refl in cc
part_seen p first last false fits fit low = ap Ok (sent_is_all p)

own_response : RequestsAreAnswered → (c : ClientState) (p : Publication) (span : Span) (text : List ℕ) → (own : IsOwnAnswer c p span text)
    → own.response ≡ ending (closes c) (response_to_client (Some p) span.first span.last (tag_of c))
own_response answered c p span text own =
    let message = request_with (closes c) (host_of c) (name_of c) (fields_of c) span.first span.last (tag_of c) in
    let P : List ℕ → Type 0 = λ m. IsAnswer own.catalogue m own.response in
    (answered own.catalogue (closes c) (host_of c) (name_of c) (fields_of c) [] span.first span.last (tag_of c) own.response own.can span.ascending).0 (subst P (sym (append-nil message)) own.answers)
    ∙ ap (λ o. ending (closes c) (response_to_client o span.first span.last (tag_of c))) own.has

pub own_reading : RequestsAreAnswered → FrontsAreRead → (c : ClientState) (p : Publication) (span : Span) (text : List ℕ) → (own : IsOwnAnswer c p span text)
    → (r : Result SeenPiece Why) → ReadsAnswer text r → (is_current (tag_of c) p.tag ≡ true → span.first < length p.file) → r ≡ Ok (piece_for p span (tag_of c))
own_reading answered fronts c p span text own r reads begins =
    let tag = tag_of c in
    let message = request_with (closes c) (host_of c) (name_of c) (fields_of c) span.first span.last tag in
    let response = own_response answered c p span text own in
    let s = own.response in
    let up = span.ascending in
    let whole : text ≡ take (length (text_of s)) (text_of s) = own.shown ∙ sym (take_all (length (text_of s)) (text_of s) (omega arith)) in
    let read = fronts.answer own.catalogue message text s (length (text_of s)) r own.lawful own.answers whole reads in
    read ∙ whole_seen s ∙ ap (λ (x : Response). reply_seen x.reply x.body) response
    ∙ part_seen p span.first span.last (is_current tag p.tag) (nat_lt span.first (length p.file)) (λ c. let low = begins c in grind (arith, nat_tests)) (λ c. let low = begins c in omega (arith, low, up))

-- ---- what each case of it does

ok_of : {A E : Type 0} (r : Result A E) (P : A → Type 0) → IsOkAnd r P → (x : A) × (r ≡ Ok x) × P x
ok_of (Ok x) P h = (x, refl, h)
ok_of (Err e) P h = absurd h

-- what the delivery of a piece in this case does
record Does (k : Case) (p : SeenPiece) (old new : ClientState) (what : Delivered) : Type 0 where
  says : what ≡ (take_by k (holding old) p).says
  revision : revision_of new ≡ (take_by k (holding old) p).leaves.revision
  blocks : AreSame (take_by k (holding old) p).leaves.blocks (blocks_of new)

does_of : (k : Case) (p : SeenPiece) (old new : ClientState) (text : List ℕ) (what : Delivered) → (d : DeliversKeeping old text what new) → d.seen.reading ≡ Ok p → case_of (revision_of old) (asked_of old) p ≡ k → Does k p old new what
does_of k p old new text what d reading is =
    let same : taken (holding old) d.seen.reading ≡ take_by k (holding old) p = ap (taken (holding old)) reading ∙ ap (λ c. take_by c (holding old) p) is in
    record {
      says = d.seen.answers ∙ ap (λ t. t.says) same;
      revision = d.seen.revision ∙ ap (λ t. t.leaves.revision) same;
      blocks = subst (λ (b : Blocks). AreSame b (blocks_of new)) (ap (λ t. t.leaves.blocks) same) d.seen.blocks;
    }

took : (what : Delivered) (n : ℕ) → what ≡ Took n → IsIgnored what → ⊥
took what n is i = subst (λ w. IsIgnored w) is i

restarted : (what : Delivered) → what ≡ Restarted → IsIgnored what → ⊥
restarted what is i = subst (λ w. IsIgnored w) is i

tag_in : (c : ClientState) (o : Option Revision) → revision_of c ≡ o → tag_of c ≡ option_map (λ (v : Revision). v.tag) o
tag_in c o is = ap (λ x. option_map (λ (v : Revision). v.tag) x) is

-- what each of them leaves, but for the blocks
record IsCase (k : Case) (p : Publication) (v : Option Revision) (piece : SeenPiece) : Type 0 where
  used : (what : Delivered) (h : Holding) → what ≡ (take_by k h piece).says → IsIgnored what → ⊥
  revision : (h : Holding) → h.revision ≡ v → (take_by k h piece).leaves.revision ≡ Some (record { tag = p.tag; complete = length p.file })

-- the revision that is begun is that of the publication
revision_is : (p : Publication) (piece : SeenPiece) → IsOf p piece → Some (revision_of_piece piece) ≡ Some (record { tag = p.tag; complete = length p.file })
revision_is p piece of = ap Some (ap (λ t. record { tag = t; complete = piece.complete }) of.tag ∙ ap (λ n. record { tag = p.tag; complete = n }) of.complete)

-- without a revision
adopts : (p : Publication) (piece : SeenPiece) → IsOf p piece → IsCase cases.Adopted p None piece
adopts p piece of = record { used = λ what h is. took what _ is; revision = λ h is. revision_is p piece of }

-- with another one
restarts : (p : Publication) (v : Revision) (piece : SeenPiece) → IsOf p piece → IsCase cases.Restarted p (Some v) piece
restarts p v piece of = record { used = λ what h is. restarted what is; revision = λ h is. revision_is p piece of }

-- with this one
takes : (p : Publication) (v : Revision) (piece : SeenPiece) → v.tag ≡ p.tag → v.complete ≡ length p.file → IsCase cases.Accepted p (Some v) piece
takes p v piece tag complete = record {
  used = λ what h is. took what _ is;
  revision = λ h is. is ∙ ap Some (ap (λ t. record { tag = t; complete = v.complete }) tag ∙ ap (λ n. record { tag = p.tag; complete = n }) complete);
}

-- ---- what this server brings

pub part_length : (p : Publication) (a b : ℕ) → a ≤ b → b < length p.file → length (part_of p a b).body ≡ b - a + 1
part_length p a b low high = omega (arith, length-take (b + 1 - a) (drop a p.file), length-drop a p.file)

part_is : (p : Publication) (a b : ℕ) → a ≤ b → b < length p.file → IsOf p (part_of p a b)
part_is p a b low high =
    let size = part_length p a b low high in
    record {
      tag = refl;
      complete = refl;
      place = omega (arith, size, low, high);
      from_start = λ whole. (let wrong : false ≡ true = whole in cc);
      body = (drop (b + 1 - a) (drop a p.file), take-append-drop (b + 1 - a) (drop a p.file));
    }

-- it is what a server gives
pub own_given : (p : Publication) (s : Span) (known : Option (List ℕ)) → (is_current known p.tag ≡ true → s.first < length p.file) → IsGiven p s known (piece_for p s known)
own_given p s known low = elim (cases_Bool (is_current known p.tag)) [
  | inl current ↦
      let some = low current in
      let up = s.ascending in
      let b = min s.last (length p.file - 1) in
      let long = part_length p s.first b (omega (arith, some, up)) (omega (arith, some)) in
      subst (IsGiven p s known) (sym (ap served current)) (record {
        of = part_is p s.first b (omega (arith, some, up)) (omega (arith, some));
        begins = λ _. omega arith;
        ends = λ _. omega (arith, some, up, long);
        all = λ other. (let wrong : true ≡ false = sym current ∙ other in cc);
      })
  | inr other ↦ subst (IsGiven p s known) (sym (ap served other)) (record {
    of = record { tag = refl; complete = refl; place = omega arith; from_start = λ _. refl; body = ([], append-nil p.file) };
    begins = λ _. omega arith;
    ends = λ _. omega arith;
    all = λ _. refl;
  })
]
  where
    served : Bool → SeenPiece
    served current = cond current (part_of p s.first (min s.last (length p.file - 1))) (all_of p)

-- ---- what is asked of the revision that the client has

-- the span of whole blocks that a client lacks of a file
record IsAskedOf (f : List ℕ) (c : ClientState) (s : Span) : Type 0 where
  range : Extent
  rest : List Extent
  come : to_come c f ≡ range ∷ rest
  from : ℕ
  to : ℕ
  first : s.first ≡ from * 16384
  last : s.last + 1 ≡ min (to * 16384) (length f)
  begins : first_block range.first ≤ from
  some : from < to
  ends : from < first_block range.first + blocks range.first range.len
  low : s.first < length f
  fits : min s.last (length f - 1) ≡ s.last
  within : range.first + range.len ≤ length f

asked_of_file : (f : List ℕ) (c : ClientState) (v : Revision) (ahead : ℕ) (s : Span) → length f ≡ v.complete → Knows f c → Lacks c v ahead s → IsAskedOf f c s
asked_of_file f c v ahead s size knows l =
    let m = l.missing in
    let gap = m.lacks.gap in
    let some = gap.some in
    let begins = gap.begins in
    let ends = gap.within in
    let within = m.within in
    let first = m.first ∙ m.lacks.first_is in
    let last = m.last in
    let on = m.on in
    let inside = m.inside in
    let next = first_split l.range (to_come c f) (l.next f knows) in
    let low : s.first < length f = omega (arith, first, some, on, inside, size) in
    record {
      range = l.range;
      rest = next.0;
      come = next.1;
      from = m.lacks.from;
      to = m.to;
      first = first;
      last = omega (arith, last, size, some, on);
      begins = begins;
      some = omega (arith, some, on);
      ends = omega (arith, some, ends);
      low = low;
      fits = omega (arith, last, size, some, on, low, first);
      within = omega (arith, within, size);
    }

-- the piece has all of what is asked
pub record HasAll (p : Publication) (s : Span) (piece : SeenPiece) : Type 0 where
  pub of : IsOf p piece
  pub begins : piece.first ≤ s.first
  pub ends : s.last < piece.first + length piece.body

case_taken : (p : Publication) (v : Revision) (s : Span) (piece : SeenPiece) → bytes_eq v.tag p.tag ≡ true → v.complete ≡ length p.file → HasAll p s piece
    → case_of (Some v) (Some s) piece ≡ cases.Accepted
case_taken p v s piece tag complete has =
    let size = has.of.complete in
    let low = s.ascending in
    let begins = has.begins in
    let ends = has.ends in
    let same : (v.complete == piece.complete) ≡ true = grind (arith, nat_tests, size, complete) in
    let beside : is_beside s piece ≡ false = grind (arith, nat_tests, low, begins, ends) in
    pick (bytes_eq v.tag piece.tag) (v.complete == piece.complete) (is_beside s piece) (ap (bytes_eq v.tag) has.of.tag ∙ tag) same beside
  where
    pick : (tag length beside : Bool) → tag ≡ true → length ≡ true → beside ≡ false
        → cond (not tag) (cond piece.whole cases.Restarted (cases.Ignored OtherRevision)) (cond (not length) (cases.Ignored OtherLength) (cond beside (cases.Ignored NotAsked) cases.Accepted)) ≡ cases.Accepted
    pick true true false t l b = refl
    pick true true true t l b = cc
    pick true false beside t l b = cc
    pick false length beside t l b = cc

whole_at : (complete first end n : ℕ) → n * 16384 < complete → first ≤ n * 16384 → min ((n + 1) * 16384) complete ≤ end → is_whole complete first end n ≡ true
whole_at complete first end n there begins ends = grind (arith, nat_tests)

-- ---- less is left

-- what is known of blocks that are stored
pub record StoringLaws : Type 0 where
  pub stay : StoredStay
  pub brought : WholeAreBrought
  pub only : OnlyWholeAreBrought
  pub whole : WholeAreFew
  pub few : MissingIsFew
  pub fewer : MissingIsFewer

-- a block that lies wholly in the span is one of those that the client lacks
whole_lies : (complete first end from to k : ℕ) → first ≡ from * 16384 → end ≡ min (to * 16384) complete → is_whole complete first end k ≡ true → (from ≤ k) × (k < to)
whole_lies complete first end from to k first_is end_is whole =
    let outer = and_parts _ _ whole in
    let inner = and_parts _ _ outer.0 in
    let there : k * 16384 < complete = ltb-true (k * 16384) complete inner.0 in
    let begins : first ≤ k * 16384 = leb-true first (k * 16384) inner.1 in
    let ends : min ((k + 1) * 16384) complete ≤ end = leb-true (min ((k + 1) * 16384) complete) end outer.1 in
    (omega (arith, there, begins), omega (arith, there, ends))

-- so is each that a piece brings of the span
brought_lies : OnlyWholeAreBrought → (complete first : ℕ) (body : List ℕ) (s : Span) (from to k : ℕ) → s.first ≡ from * 16384 → s.last + 1 ≡ min (to * 16384) complete
    → has k (numbers (whole_blocks complete first body s)) ≡ true → (from ≤ k) × (k < to)
brought_lies only complete first body s from to k first_is last_is among =
    whole_lies complete s.first (s.last + 1) from to k first_is last_is (and_parts _ _ (only complete first body s k among)).1

-- the blocks of the piece are stored: one of them was missing, and none of the range leaves
fewer : StoringLaws → (p : Publication) (c : ClientState) (v : Revision) (ahead : ℕ) (s : Span) (piece : SeenPiece) → HasAll p s piece → length p.file ≡ v.complete → Knows p.file c
    → Lacks c v ahead s
    → left_of p.file (numbers (stored_of piece s (blocks_of c)).entries) (to_come c p.file) + 1 ≤ left p.file c
unfolding left asked_of_file
fewer laws p c v ahead s piece has size knows l =
    let f = p.file in
    let b = blocks_of c in
    let there = numbers b.entries in
    let q = asked_of_file f c v ahead s size knows l in
    let r = l.range in
    let n = first_block r.first in
    let count = blocks r.first r.len in
    let first = q.first in
    let complete : piece.complete ≡ length f = has.of.complete in
    let last : s.last + 1 ≡ min (q.to * 16384) piece.complete = q.last ∙ ap (min (q.to * 16384)) (sym complete) in
    let low = q.low in
    let begins = q.begins in
    let ends = q.ends in
    let run = q.some in
    let up = s.ascending in
    let starts = has.begins in
    let covers = has.ends in
    let new = brought_by piece s in
    let gone : AreGone there (numbers new) =
    λ k among.
    let lies = brought_lies laws.only piece.complete piece.first piece.body s q.from q.to k first last among in
    l.missing.gone k lies.0 lies.1 in
    let few : length new ≤ q.to - q.from = laws.whole piece.complete piece.first piece.body s (q.to - q.from) (omega (arith, first, last, run)) in
    let room = l.room.room in
    let stays = laws.stay b piece.complete piece.first piece.body s n count gone (omega (arith, few, room)) l.room.led in
    let whole : is_brought piece.complete piece.first (length piece.body) s q.from ≡ true =
    and_from _ _
    (whole_at piece.complete piece.first (piece.first + length piece.body) q.from (omega (arith, first, last, up)) (omega (arith, first, starts)) (omega (arith, first, last, run, covers)))
    (whole_at piece.complete s.first (s.last + 1) q.from (omega (arith, first, last, up)) (omega (arith, first)) (omega (arith, first, last, run))) in
    let one = laws.fewer there (numbers (stored_of piece s b).entries) n count q.from stays.kept begins ends (l.missing.gone q.from (omega arith) run)
    (stays.came q.from (laws.brought piece.complete piece.first piece.body s q.from whole)) in
    let here = inside f r v.complete size l.missing.within in
    omega (
      arith,
      one,
      ap (left_of f there) q.come,
      ap (left_of f (numbers (stored_of piece s b).entries)) q.come,
      missing_inside f there r here,
      missing_inside f (numbers (stored_of piece s b).entries) r here,
    )

-- ---- the three cases

module _ (old new : ClientState) (p : Publication) (span : Span) (text : List ℕ) (what : Delivered) (served : IsServed old p span text) (d : DeliversKeeping old text what new) where
  -- whatever case applies to the piece that is read
  brings : (k : Case) (v : Option Revision) (piece : SeenPiece) → IsCase k p v piece → revision_of old ≡ v → d.seen.reading ≡ Ok piece → case_of v (Some span) piece ≡ k
      → (tag_of old ≡ Some p.tag → left p.file new + 1 ≤ left p.file old) → BringsOn p old new what
  brings k v piece case is reading applies less =
      let at : case_of (revision_of old) (asked_of old) piece ≡ k = ap (λ o. case_of o (asked_of old) piece) is ∙ ap (λ a. case_of v a piece) served.asked ∙ applies in
      let does = does_of k piece old new text what d reading at in
      record {
        used = case.used what (holding old) does.says;
        revision = does.revision ∙ case.revision (holding old) is;
        less = less;
      }

  -- the piece that is read
  given : (known : Option (List ℕ)) → tag_of old ≡ known → (piece : SeenPiece) × (d.seen.reading ≡ Ok piece) × IsGiven p span known piece
  given known is = ok_of d.seen.reading (IsGiven p span known) (subst (λ o. IsOkAnd d.seen.reading (IsGiven p span o)) is (served.read d.seen.reading d.seen.reads))

  begins : revision_of old ≡ None → BringsOn p old new what
  begins is =
      let none = tag_in old None is in
      let read = given None none in
      brings cases.Adopted None read.0 (adopts p read.0 read.2.of) is read.1 refl (λ e. absurd (none-some p.tag (sym none ∙ e)))

  other : (v : Revision) → revision_of old ≡ Some v → bytes_eq v.tag p.tag ≡ false → BringsOn p old new what
  other v is differ =
      let tag = tag_in old (Some v) is in
      let wrong : bytes_eq v.tag p.tag ≡ true → ⊥ = λ t. (let e : true ≡ false = sym t ∙ differ in cc) in
      let read = given (Some v.tag) tag in
      let of = read.2.of in
      brings cases.Restarted (Some v) read.0 (restarts p v read.0 of) is read.1 (restarts_by read.0 (ap (bytes_eq v.tag) of.tag ∙ differ) (read.2.all differ))
      (λ e. absurd (wrong ((bytes_eq-Decides v.tag p.tag).1 (same_Some _ _ (sym tag ∙ e)))))
    where
      restarts_by : (piece : SeenPiece) → bytes_eq v.tag piece.tag ≡ false → piece.whole ≡ true → case_of (Some v) (Some span) piece ≡ cases.Restarted
      restarts_by piece e whole =
          ap (λ t. cond (not t) (cond piece.whole cases.Restarted (cases.Ignored OtherRevision)) (cond (not (v.complete == piece.complete)) (cases.Ignored OtherLength) (cond (is_beside span piece) (cases.Ignored NotAsked) cases.Accepted))) e
          ∙ ap (λ w. cond w cases.Restarted (cases.Ignored OtherRevision)) whole

  same : LengthsAreKnown → FoundAreThere → MissingIsSame → StoringLaws
      → (v : Revision) → revision_of old ≡ Some v → bytes_eq v.tag p.tag ≡ true → Knows p.file old → Lacks old v served.ahead span → BringsOn p old new what
  same lengths there missing laws v is equal knows l =
      let tag = tag_in old (Some v) is in
      let own_tag = (bytes_eq-Decides v.tag p.tag).0 equal in
      let size = known_length lengths p.file old v is knows in
      let q = asked_of_file p.file old v served.ahead span size knows l in
      let low = q.low in
      let fits = q.fits in
      let up = span.ascending in
      let high : span.last < length p.file = omega arith in
      let read = given (Some v.tag) tag in
      let piece = read.0 in
      let ends = read.2.ends equal in
      let has : HasAll p span piece = record { of = read.2.of; begins = read.2.begins equal; ends = omega (arith, ends, high) } in
      let reading : d.seen.reading ≡ Ok piece = read.1 in
      let applies = case_taken p v span piece equal (sym size) has in
      let case = takes p v piece own_tag (sym size) in
      let at : case_of (revision_of old) (asked_of old) piece ≡ cases.Accepted = ap (λ o. case_of o (asked_of old) piece) is ∙ ap (λ a. case_of (Some v) a piece) served.asked ∙ applies in
      let does = does_of cases.Accepted piece old new text what d reading at in
      let of : IsPieceOf p.file piece.first piece.body = piece_at p piece has.of in
      let still : revision_of new ≡ revision_of old = does.revision in
      let stays : StaysOf p.file old new = d.file p.file still (subst (λ r. IfOk r (λ x. IsPieceOf p.file x.first x.body)) (sym reading) of) knows in
      let blocks : AreSame (stored_of piece span (blocks_of old)) (blocks_of new) =
      subst (λ a. AreSame (stored_of piece (asked_or_first a) (blocks_of old)) (blocks_of new)) served.asked does.blocks in
      let on = left_on there laws.few missing p.file old new (stored_of piece span (blocks_of old)) blocks stays.come in
      brings cases.Accepted (Some v) piece case is reading applies
      (λ _. omega (arith, on, fewer laws p old v served.ahead span piece has size knows l))

-- ---- the laws

module _ (lengths : LengthsAreKnown) where
  pub served_bring_on : (there : FoundAreThere) (missing : MissingIsSame) (laws : StoringLaws) → ServedBringOn
  served_bring_on there missing laws old new p span text what served knows d = at (revision_of old) refl served.asks
    where
      at : (v : Option Revision) → revision_of old ≡ v → AsksFor old v served.ahead span → BringsOn p old new what
      at None is asks = begins old new p span text what served d is
      at (Some v) is l = elim (cases_Bool (bytes_eq v.tag p.tag)) [
        | inl equal ↦
            same old new p span text what served d lengths there missing laws v is equal
            (knows (tag_in old (Some v) is ∙ ap Some ((bytes_eq-Decides v.tag p.tag).0 equal))) l
        | inr differ ↦ other old new p span text what served d v is differ
      ]

  -- what is asked for under p's tag, or under none, begins in its file
  pub own_begins : PublishedIsNamed → (c : ClientState) (p : Publication) (span : Span) (text : List ℕ) → (own : IsOwnAnswer c p span text)
      → (tag_of c ≡ Some p.tag → Knows p.file c) → is_current (tag_of c) p.tag ≡ true → span.first < length p.file
  own_begins named c p span text own knows = at (revision_of c) refl own.asks
    where
      lawful : IsPublication p
      lawful = named.lawful (name_of c) own.catalogue p own.lawful own.has

      at : (v : Option Revision) → revision_of c ≡ v → AsksFor c v own.ahead span → is_current (tag_of c) p.tag ≡ true → span.first < length p.file
      at None is asks current =
          let some = lawful.some in
          let first = ap (λ (s : Span). s.first) asks in
          omega (arith, first, some)
      at (Some v) is l current =
          let tag = tag_in c (Some v) is in
          let equal : bytes_eq v.tag p.tag ≡ true = ap (λ o. is_current o p.tag) (sym tag) ∙ current in
          let held = knows (tag ∙ ap Some ((bytes_eq-Decides v.tag p.tag).0 equal)) in
          (asked_of_file p.file c v own.ahead span (known_length lengths p.file c v is held) held l).low

  pub own_are_served : RequestsAreAnswered → FrontsAreRead → PublishedIsNamed → OwnAnswersAreServed
  own_are_served answered fronts named c p span text own knows =
      let begins = own_begins named c p span text own knows in
      record {
        named = named.named (name_of c) own.catalogue p own.has;
        asked = own.asked;
        ahead = own.ahead;
        asks = own.asks;
        read = λ r reads.
            subst (λ r. IsOkAnd r (IsGiven p span (tag_of c))) (sym (own_reading answered fronts c p span text own r reads begins)) (own_given p span (tag_of c) begins);
      }
